use Rattle.xa_base.proofs.{◌∙◌, sym, ap, not, or_from}
use Rattle.xa_words.specs.{Done}
use Rattle.xa_tables.specs.{Tables, gone, prepare, tables_of}
use Rattle.xa_tables.specs.declared.state.State.TheVariants.{Prepared as S3}
use Rattle.xa_tables.proofs.SoundLemmas.{sound_prepared}
use Rattle.xa_tables.proofs.StepLemmas.{prepare_gone, prepare_done, vote_sound}
use Rattle.xa_tables.proofs.branch_tables.BranchTables.prepare.Goals as goal

pub invariant_of-self-2 : goal.invariant_of-self-2
invariant_of-self-2 c =
    let T : Tables =
    tables_of c.self.inside.threads c.self.inside.branches c.self.inside.accounts c.self.inside.is_shut in
    sound_prepared _ _ _ _ _ _ (ap (λ b. b.states) (c.state_mut.follows.holds S3 _ c.in-Some.is).0)
    (vote_sound c.args.xid.now T (sym c.closing_vote.ensures ∙ c.in_default-closing_vote.is)) c.self.invariant

pub returns-clause-step : goal.returns-clause-step
returns-clause-step c =
    let T : Tables =
    tables_of c.self.inside.threads c.self.inside.branches c.self.inside.accounts c.self.inside.is_shut in
    let states = ap (λ b. b.states) (c.state_mut.follows.holds S3 _ c.in-Some.is).0 in
    let may = or_from _ _ (sym c.is_somebody_associated.ensures ∙ c.if-is_somebody_associated.false)
    (ap not (sym c.may_prepare.ensures ∙ c.if-not-may_prepare.false)) in
    (λ i. (record T { states = states i }, Done))
    ∙ prepare_done c.args.xid.now T c.in-Some.state.now (sym c.in-Some.ensures.value) may
    (sym c.closing_vote.ensures ∙ c.in_default-closing_vote.is)
    ∙ ap (λ b. prepare c.args.xid.now b.tables) c.self.view_is

pub returns-in-Some-closing_vote-clause-step : goal.returns-in-Some-closing_vote-clause-step
returns-in-Some-closing_vote-clause-step c =
    let T : Tables =
    tables_of c.self.inside.threads c.self.inside.branches c.self.inside.accounts c.self.inside.is_shut in
    let x = c.args.xid.now in
    let code = c.in-Some-closing_vote.code in
    let states =
    ap (λ b. b.states)
    ((c.state_mut.follows.holds c.in-Some.state.now _ c.in-Some.is).1 (sym c.in-Some.ensures.value)) in
    let may = or_from _ _ (sym c.is_somebody_associated.ensures ∙ c.if-is_somebody_associated.false)
    (ap not (sym c.may_prepare.ensures ∙ c.if-not-may_prepare.false)) in
    (λ i. (c.remove.ensures.gone i, code)) ∙ (λ i. (gone x (record T { states = states i }), code))
    ∙ prepare_gone x T c.in-Some.state.now (sym c.in-Some.ensures.value) may code
    (sym c.closing_vote.ensures ∙ c.in-Some-closing_vote.is)
    ∙ ap (λ b. prepare x b.tables) c.self.view_is
