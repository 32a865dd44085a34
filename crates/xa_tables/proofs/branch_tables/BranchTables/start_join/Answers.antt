use Rattle.xa_base.proofs.{arith, ◌≡◌, ◌∙◌, refl, sym, ap, Some, false, rules}
use Rattle.xa_words.specs.{Done, Proto}
use Rattle.xa_tables.specs.{Active, Tables, is_S4, has_association, start_join, tables_of}
use Rattle.xa_tables.proofs.SoundLemmas.{sound_put}
use Rattle.xa_tables.proofs.StepLemmas.{join_left, join_doomed, join_done}
use Rattle.xa_tables.proofs.branch_tables.BranchTables.start_join.Goals as goal

pub invariant_of-self-2 : goal.invariant_of-self-2
invariant_of-self-2 c =
    sound_put _ _ _ _ _ _ (ap (λ b. b.states) (c.state_mut.follows.holds Active _ c.in-Some.is).0) refl c.self.invariant

pub returns-clause-step : goal.returns-clause-step
returns-clause-step c =
    let T : Tables =
    tables_of c.self.inside.threads c.self.inside.branches c.self.inside.accounts c.self.inside.is_shut in
    let free : has_association T c.args.t ≡ false = search rules in
    let may : is_S4 (Some c.in-Some.state.now) ≡ false = grind arith in
    let states = ap (λ b. b.states) (c.state_mut.follows.holds Active _ c.in-Some.is).0 in
    (λ i. (
      record T {
        opened = c.associate.ensures.opened i;
        associations = c.associate.ensures.associations i;
        states = states i;
      },
      Done,
    ))
    ∙ join_done c.args.t c.args.xid.now T c.in-Some.state.now free (sym c.in-Some.ensures.value)
    (sym c.is_left.ensures ∙ c.if-is_left.false) may
    ∙ ap (λ b. start_join c.args.t c.args.xid.now b.tables) c.self.view_is

pub returns-then-is_left-clause-step : goal.returns-then-is_left-clause-step
returns-then-is_left-clause-step c =
    let T : Tables =
    tables_of c.self.inside.threads c.self.inside.branches c.self.inside.accounts c.self.inside.is_shut in
    let free : has_association T c.args.t ≡ false = search rules in
    let states =
    ap (λ b. b.states)
    ((c.state_mut.follows.holds c.in-Some.state.now _ c.in-Some.is).1 (sym c.in-Some.ensures.value)) in
    (λ i. (record T { states = states i }, Proto))
    ∙ join_left c.args.t c.args.xid.now T c.in-Some.state.now free (sym c.in-Some.ensures.value)
    (sym c.is_left.ensures ∙ c.if-is_left.true)
    ∙ ap (λ b. start_join c.args.t c.args.xid.now b.tables) c.self.view_is

pub returns-in-RollbackOnly-clause-step : goal.returns-in-RollbackOnly-clause-step
returns-in-RollbackOnly-clause-step c =
    let T : Tables =
    tables_of c.self.inside.threads c.self.inside.branches c.self.inside.accounts c.self.inside.is_shut in
    let free : has_association T c.args.t ≡ false = search rules in
    let states =
    ap (λ b. b.states)
    ((c.state_mut.follows.holds c.in-Some.state.now _ c.in-Some.is).1 (sym c.in-Some.ensures.value)) in
    (λ i. (record T { states = states i }, c.code.ensures i))
    ∙ join_doomed c.args.t c.args.xid.now T c.in-RollbackOnly.reason free
    (sym c.in-Some.ensures.value ∙ ap (λ s. Some s) c.in-RollbackOnly.is)
    ∙ ap (λ b. start_join c.args.t c.args.xid.now b.tables) c.self.view_is
