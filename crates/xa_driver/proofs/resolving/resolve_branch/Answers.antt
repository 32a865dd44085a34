use Rattle.xa_base.proofs.{refl, sym, ◌∙◌}
use Rattle.xa_desk.specs.{ledger}
use Rattle.xa_driver.proofs.EachLeft.{alone_chain}
use Rattle.xa_driver.proofs.resolving.resolve_branch.Goals as goal
use Rattle.xa_driver.proofs.resolving.resolve_branch.Goals.{then-is_decided, else-is_decided}

pub returns-clause-resolves : goal.returns-clause-resolves
returns-clause-resolves g c = record {
  manager = refl;
  decision = c.is_to_commit-commit.ensures;
  decided = ledger c.ask-code.new.desk.ledgers c.args.manager;
  obeys = rw c.outcome_op.ensures at c.ask-code.ensures.asked;
  forgets = elim c.if-is_decided.branch [
    | then-is_decided w ↦ rw (w.desk-is, (sym c.is_decided.ensures ∙ w.if-is_decided.true))
        (w.ask.result, w.ask.ensures.asked)
    | else-is_decided w ↦ rw (w.desk-is, (sym c.is_decided.ensures ∙ w.if-is_decided.false))
  ];
}

pub returns-clause-alone : goal.returns-clause-alone
returns-clause-alone g c = elim c.if-is_decided.branch [
  | then-is_decided w ↦ rw w.desk-is
      (alone_chain c.args.manager c.args.desk.now c.ask-code.new.desk w.ask.new.desk c.ask-code.ensures.alone
      w.ask.ensures.alone)
  | else-is_decided w ↦ rw w.desk-is c.ask-code.ensures.alone
]

pub returns-clause-waits : goal.returns-clause-waits
returns-clause-waits g c = record {
  manager = refl;
  decision = c.is_to_commit-commit.ensures;
  decided = (c.ask-code.new.desk, c.ask-code.new.idle);
  obeys = rw c.outcome_op.ensures at c.ask-code.ensures.waits;
  forgets = elim c.if-is_decided.branch [
    | then-is_decided w ↦ rw (w.desk-is, w.idle-is, (sym c.is_decided.ensures ∙ w.if-is_decided.true))
        (w.ask.result, w.ask.ensures.waits)
    | else-is_decided w ↦ rw (w.desk-is, w.idle-is, (sym c.is_decided.ensures ∙ w.if-is_decided.false))
  ];
}

pub returns-clause-idled : goal.returns-clause-idled
returns-clause-idled g c = elim c.if-is_decided.branch [
  | then-is_decided w ↦ rw w.idle-is (g.met.I.Idle.leads_chain _ _ _ c.ask-code.ensures.idled w.ask.ensures.idled)
  | else-is_decided w ↦ rw w.idle-is c.ask-code.ensures.idled
]
