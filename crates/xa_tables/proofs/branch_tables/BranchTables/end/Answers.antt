use Rattle.xa_base.proofs.{◌≡◌, ◌∙◌, sym, ap, is_some, Some, false, FinMap, nat_cmp}
use Rattle.std.specs.FinMap as map
use Rattle.xa_words.specs.{Code}
use Rattle.xa_tables.specs.{Association, State, Tables, association_of, state_of, is_S3, is_left_in, end, tables_of}
use Rattle.xa_tables.specs.{state_with, refusal}
use Rattle.xa_tables.proofs.SoundLemmas.{sound_put, unvoted}
use Rattle.xa_tables.proofs.StepLemmas.{live_with, end_refused, end_again, end_done, ended_unprepared}
use Rattle.xa_tables.proofs.branch_tables.BranchTables.end.Goals as goal

-- what an xa_end leaves
abbrev Ended : Type 0
Ended = FinMap nat_cmp Association × State × Code

pub returns-in_default-clause-step : goal.returns-in_default-clause-step
returns-in_default-clause-step c =
    let T = c.args.self.now.tables in
    let t = c.args.t in
    let x = c.args.xid.now in
    (λ i.
    (T, (c.refusal.ensures ∙ ap refusal c.get.ensures ∙ ap (λ b. refusal (state_of b.tables x)) c.self.view_is) i))
    ∙ end_refused t x T c.args.how
    (ap (λ b. state_with (association_of b.tables t) x) (sym c.self.view_is)
    ∙ ap (λ o. state_with o x) (sym c.association.ensures) ∙ sym c.state_with.ensures
    ∙ c.in_default.is)

pub returns-then-suspends_again-clause-step : goal.returns-then-suspends_again-clause-step
returns-then-suspends_again-clause-step c =
    let t = c.args.t in
    let x = c.args.xid.now in
    end_again t x c.args.self.now.tables c.args.how c.in-Some.association
    (ap (λ b. state_with (association_of b.tables t) x) (sym c.self.view_is)
    ∙ ap (λ o. state_with o x) (sym c.association.ensures) ∙ sym c.state_with.ensures
    ∙ c.in-Some.is) (sym c.suspends_again.ensures ∙ c.if-suspends_again.true)

pub unreachable-requires : goal.unreachable-requires
unreachable-requires c =
    let T : Tables =
    tables_of c.self.inside.threads c.self.inside.branches c.self.inside.accounts c.self.inside.is_shut in
    let with =
    ap (λ o. state_with o c.args.xid.now) (sym c.association.ensures) ∙ sym c.state_with.ensures ∙ c.in-Some.is in
    let there =
    (live_with c.args.t c.args.xid.now T c.in-Some.association (rw (← c.self.view_is) at c.requires.live) with).0 in
    let missing = ap is_some (rw c.in_default-state_mut.is at c.state_mut.ensures.value) in
    cc

pub invariant_of-self : goal.invariant_of-self
invariant_of-self c =
    let T : Tables =
    tables_of c.self.inside.threads c.self.inside.branches c.self.inside.accounts c.self.inside.is_shut in
    let with =
    ap (λ o. state_with o c.args.xid.now) (sym c.association.ensures) ∙ sym c.state_with.ensures ∙ c.in-Some.is in
    let s = c.in-Some-state_mut.state.now in
    let left =
    (live_with c.args.t c.args.xid.now T c.in-Some.association (rw (← c.self.view_is) at c.requires.live) with).1 in
    let unprepared : is_S3 (Some s) ≡ false =
    unvoted (Some s) (ap is_left_in c.in-Some-state_mut.ensures.value ∙ left) in
    sound_put _ _ _ _ c.args.xid.now c.end_work.new.state
    (ap (λ b. b.states) (c.state_mut.follows.holds c.end_work.new.state _ c.in-Some-state_mut.is).0)
    (ap (λ (e : Ended). is_S3 (Some e.1)) c.end_work.ensures.step
    ∙ ended_unprepared c.args.t c.args.xid.now T c.args.how s unprepared) c.self.invariant

pub returns-clause-step : goal.returns-clause-step
returns-clause-step c =
    let T : Tables =
    tables_of c.self.inside.threads c.self.inside.branches c.self.inside.accounts c.self.inside.is_shut in
    let x = c.args.xid.now in
    let s = c.in-Some-state_mut.state.now in
    let held = ap (λ b. b.states) (c.state_mut.follows.holds c.end_work.new.state _ c.in-Some-state_mut.is).0 in
    let states = held ∙ ap (λ (e : Ended). map.insert T.states x e.1) c.end_work.ensures.step in
    (λ i. (
      record T {
        opened = c.end_work.ensures.opened i;
        associations = (c.end_work.ensures.step i).0;
        states = states i;
      },
      (c.end_work.ensures.step i).2,
    ))
    ∙ end_done c.args.t x T c.args.how c.in-Some.association s
    (ap (λ o. state_with o x) (sym c.association.ensures) ∙ sym c.state_with.ensures ∙ c.in-Some.is)
    (sym c.suspends_again.ensures ∙ c.if-suspends_again.false) (sym c.in-Some-state_mut.ensures.value)
    ∙ ap (λ b. end c.args.how c.args.t x b.tables) c.self.view_is
