use Rattle.xa_base.proofs.{arith, ◌≡◌, ◌∙◌, ◌+ℤ◌, refl, sym, ap, Some, false, is_some}
use Rattle.std.specs.FinMap as map
use Rattle.xa_words.specs.{Done, RbTransient}
use Rattle.xa_tables.specs.{RollbackOnly, Transient, Tables, add, has_other_touched, is_S4, sum_of, tables_of}
use Rattle.xa_tables.proofs.StepLemmas.{add_doomed, add_met, add_done}
use Rattle.xa_tables.proofs.SoundLemmas.{sound_put, sound_others, unvoted}
use Rattle.xa_tables.proofs.branch_tables.BranchTables.add.Goals as goal

pub unreachable-requires : goal.unreachable-requires
unreachable-requires c =
    let live = rw (← c.self.view_is) at c.requires.live in
    let there = (live c.args.t c.in-Some.association.now (sym c.in-Some.ensures)).0 in
    let missing = ap is_some (rw c.in_default-state_mut.is at c.state_mut.ensures.value) in
    cc

pub invariant_of-self-then-has_other_touched : goal.invariant_of-self-then-has_other_touched
invariant_of-self-then-has_other_touched c =
    sound_put _ _ _ _ _ _
    (ap (λ b. b.states) (c.state_mut.follows.holds (RollbackOnly Transient) _ c.in-Some-state_mut.is).0) refl
    c.self.invariant

pub invariant_of-self-2 : goal.invariant_of-self-2
invariant_of-self-2 c =
    let live = rw (← c.self.view_is) at c.requires.live in
    let same = (c.state_mut.follows.holds _ _ c.in-Some-state_mut.is).1 (sym c.in-Some-state_mut.ensures.value) in
    rw same
    (sound_others _ _ _ _ _ _ (unvoted _ (live c.args.t c.in-Some.association.now (sym c.in-Some.ensures)).1)
    c.add.ensures.others c.self.invariant)

pub returns-then-has_other_touched-clause-step : goal.returns-then-has_other_touched-clause-step
returns-then-has_other_touched-clause-step c =
    let T : Tables =
    tables_of c.self.inside.threads c.self.inside.branches c.self.inside.accounts c.self.inside.is_shut in
    let l = c.in-Some.association.now in
    let placed = c.in-Some-place_of.ensures.placed in
    let states = ap (λ b. b.states) (c.state_mut.follows.holds (RollbackOnly Transient) _ c.in-Some-state_mut.is).0 in
    let may : is_S4 (Some c.in-Some-state_mut.state.now) ≡ false = grind arith in
    (λ i. (record T { states = states i }, RbTransient))
    ∙ add_met c.args.t T c.args.key c.args.delta l (sym c.in-Some.ensures) c.in-Some-state_mut.state.now
    (sym c.is_suspended.ensures ∙ c.if-is_suspended.false)
    (sym c.in-Some-place_of.ensures.declared) (sym c.in-Some-state_mut.ensures.value) may
    (ap (has_other_touched T.sums l.xid) (sym placed) ∙ sym c.has_other_touched.ensures ∙ c.if-has_other_touched.true)
    ∙ ap (λ b. add c.args.t c.args.key c.args.delta b.tables) c.self.view_is

pub returns-clause-step : goal.returns-clause-step
returns-clause-step c =
    let T : Tables =
    tables_of c.self.inside.threads c.self.inside.branches c.self.inside.accounts c.self.inside.is_shut in
    let l = c.in-Some.association.now in
    let d = c.args.delta in
    let placed = c.in-Some-place_of.ensures.placed in
    let states =
    ap (λ b. b.states)
    ((c.state_mut.follows.holds _ _ c.in-Some-state_mut.is).1 (sym c.in-Some-state_mut.ensures.value)) in
    let sums = c.add.ensures.sums ∙ ap (λ k. map.insert T.sums (l.xid, k) (sum_of T.sums l.xid k +ℤ d)) placed in
    let may : is_S4 (Some c.in-Some-state_mut.state.now) ≡ false = grind arith in
    (λ i. (record T { states = states i; sums = sums i; values = c.add.ensures.values i }, Done))
    ∙ add_done c.args.t T c.args.key d l (sym c.in-Some.ensures) c.in-Some-state_mut.state.now
    (sym c.is_suspended.ensures ∙ c.if-is_suspended.false)
    (sym c.in-Some-place_of.ensures.declared) (sym c.in-Some-state_mut.ensures.value) may
    (ap (has_other_touched T.sums l.xid) (sym placed) ∙ sym c.has_other_touched.ensures ∙ c.if-has_other_touched.false)
    ∙ ap (λ b. add c.args.t c.args.key d b.tables) c.self.view_is

pub returns-in-RollbackOnly-clause-step : goal.returns-in-RollbackOnly-clause-step
returns-in-RollbackOnly-clause-step c =
    let T : Tables =
    tables_of c.self.inside.threads c.self.inside.branches c.self.inside.accounts c.self.inside.is_shut in
    let states =
    ap (λ b. b.states)
    ((c.state_mut.follows.holds c.in-Some-state_mut.state.now _ c.in-Some-state_mut.is).1
    (sym c.in-Some-state_mut.ensures.value)) in
    (λ i. (record T { states = states i }, c.code.ensures i))
    ∙ add_doomed c.args.t T c.args.key c.args.delta c.in-Some.association.now (sym c.in-Some.ensures)
    c.in-RollbackOnly.reason
    (sym c.is_suspended.ensures ∙ c.if-is_suspended.false) (sym c.in-Some-place_of.ensures.declared)
    (sym c.in-Some-state_mut.ensures.value ∙ ap (λ s. Some s) c.in-RollbackOnly.is)
    ∙ ap (λ b. add c.args.t c.args.key c.args.delta b.tables) c.self.view_is
