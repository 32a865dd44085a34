use Rattle.xa_base.proofs.{◌≡◌, ◌+◌, length, length-append, refl, ap, ◌∙◌, arith}
use Rattle.xa_base.specs.{MOST_MANAGERS}
use Rattle.xa_desk.proofs.GoingOn.{goes_same}
use Rattle.xa_driver.specs.{begun, next}
use Rattle.xa_calls.specs.{AsksAndWaits, Answers}
use Rattle.xa_driver.proofs.EachLeft.{left_more, alone_rest, none_so_far, one_more_so_far, left_within}
use Rattle.xa_driver.proofs.Requests.{rest_same, rest_chain}
use Rattle.xa_driver.proofs.Mapped.{turns_by}
use Rattle.xa_driver.proofs.resolving.resolve.Given as given
use Rattle.xa_driver.proofs.resolving.resolve.Goals as goal

pub returns-in_err-outcomes-clause-goes_on : goal.returns-in_err-outcomes-clause-goes_on
returns-in_err-outcomes-clause-goes_on g c = goes_same _

pub returns-in_err-outcomes-clause-keeps : goal.returns-in_err-outcomes-clause-keeps
returns-in_err-outcomes-clause-keeps g c = rest_same _ _ refl

pub loop-before-init : goal.loop-before-init
loop-before-init g c = record {
  so_far = rw c.in_ok-outcomes.ensures.items (none_so_far c.args.scan.now _ c.args.desk.now.ledgers);
  waits = begun c.in_ok-outcomes.outcomes.items (c.args.desk.now, c.args.idle.now) c.in_ok-outcomes.ensures.items refl;
  many = ap (λ l. length l) c.in_ok-outcomes.ensures.items;
  space = rw c.count_left.ensures at c.in_ok-outcomes.ensures.capacity;
  managers = refl;
  rest = rest_same c.args.desk.now c.args.desk.now refl;
  idled = g.met.I.Idle.leads_start _;
}

pub resolve_at-requires-clause-space : goal.resolve_at-requires-clause-space
resolve_at-requires-clause-space g c =
    let within =
    left_within c.args.scan.now (c.loop-before.before + 1) MOST_MANAGERS (omega (arith, c.loop-before-test.true)) in
    let more = left_more c.args.scan.now c.loop-before.before in
    omega (
      arith,
      within,
      more,
      c.loop-before.invariant.many,
      c.loop-before.invariant.space,
      ap (λ l. length l)
          c.left.ensures,
    )

pub loop-before-preserved : goal.loop-before-preserved
loop-before-preserved g c =
    let i = c.loop-before.invariant in
    let z = c.args.scan.now in
    let n = c.loop-before.before in
    let alone = c.resolve_at.ensures.alone in
    let (more, items, as_many, resolves, waits) = c.resolve_at.ensures.resolves in
    record {
      so_far =
          one_more_so_far z (g.L.DecisionRecords.records c.args.log.now) n c.args.desk.now.ledgers
          c.loop-before.desk.ledgers c.resolve_at.new.desk.ledgers c.loop-before.outcomes.items
          c.resolve_at.new.outcomes.items more i.so_far items
          (rw c.left.ensures at resolves) alone.others;
      waits =
          next n (n + 1) c.loop-before.outcomes.items more c.resolve_at.new.outcomes.items
          (c.loop-before.desk, c.loop-before.idle) (c.resolve_at.new.desk, c.resolve_at.new.idle) i.waits refl
          (rw c.left.ensures at waits) items;
      many = search (arith, length-append, left_more, c.loop-before.outcomes.items, c.left.ensures, i.many);
      space = let space = i.space in let same = c.resolve_at.ensures.space in omega (arith, space, same);
      managers = alone.managers ∙ i.managers;
      rest = rest_chain c.args.desk.now c.loop-before.desk c.resolve_at.new.desk i.rest
          (alone_rest _ c.loop-before.desk c.resolve_at.new.desk alone);
      idled = g.met.I.Idle.leads_chain _ _ _ i.idled c.resolve_at.ensures.idled;
    }

all_before : (g : given.Over) (c : goal.After-loop-before g) → c.loop-before.before ≡ MOST_MANAGERS
all_before g c =
    let done = c.loop-before-test.false in let stop = c.loop-before.auto.before-end in omega (arith, done, stop)

pub returns-clause-trace : goal.returns-clause-trace
returns-clause-trace g c =
    record {
      course = rw (all_before g c) at c.loop-before.invariant.so_far;
      managers = c.loop-before.invariant.managers;
    }

pub returns-clause-waited : goal.returns-clause-waited
returns-clause-waited g c = rw (all_before g c) at c.loop-before.invariant.waits

pub returns-clause-in_turn : goal.returns-clause-in_turn
returns-clause-in_turn g c =
    turns_by (λ s. s.0) (AsksAndWaits g.I.Idle.leads_by) Answers (λ m d op e code a. a.answers)
    (g.L.DecisionRecords.records c.args.log.now) c.args.scan.now (c.args.desk.now, c.args.idle.now) MOST_MANAGERS
    c.loop-before.outcomes.items (c.loop-before.desk, c.loop-before.idle) (returns-clause-waited g c)
