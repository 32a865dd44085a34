-- The rules of some requests, by what parts of them read and change.
use Rattle.xa_base.proofs.{◌≡◌, ℕ, Bool, true, false, not, ◌&&◌, ◌||◌, if◌then◌else◌, Option, None, Some, is_some, refl}
use Rattle.xa_base.proofs.{sym, ap, ◌∙◌, by_bool, arith, List, ℤ, FinMap, nat_cmp}
use Rattle.xa_words.specs.{XidName, xid_eq, Code, Done, RdOnly, RbRollback, RbIntegrity, RbTransient, DupId, Nota}
use Rattle.xa_words.specs.{Inval, Proto, EndHow, Success, Suspend, Fail, Decides-xid_eq}
use Rattle.xa_tables.specs.{RollbackReason, reason_code, State, Active, Idle, RollbackOnly, HeuristicallyCompleted}
use Rattle.xa_tables.specs.{Failed, Association, AssociationState, association_of, is_association_with}
use Rattle.xa_tables.specs.{is_suspended_state, is_suspended, is_T2, is_S3, is_S4, is_S5, is_left_in, is_left}
use Rattle.xa_tables.specs.{reason_in, exists, has_association, state_of, is_somebody_associated, has_touched}
use Rattle.xa_tables.specs.{is_broken, TablesAndCode, Tables, end, is_suspend, is_fail, dissociated, suspended, stated}
use Rattle.xa_tables.specs.{associated, start_fresh, start_join, prepare, heur, gone, completed_heuristically}
use Rattle.xa_tables.specs.{committed, posted, sums_without, state_with, refusal, Transient, add, added, branch_in}
use Rattle.xa_tables.specs.{has_other_touched, is_declared, is_T1, may_prepare, closing_vote, suspends_again, ended}
use Rattle.xa_tables.specs.{ended_by, decided, AreAssociationsLive}
use Rattle.xa_tables.specs.declared.state.State.TheVariants.{Prepared as S3}
use Rattle.xa_tables.proofs.SoundLemmas.{put_same}
use Rattle.std.specs.FinMap as map
use Rattle.xa_tables.specs.declared.state.HeuristicDecision.TheVariants as decision

-- ---- the thread's association with x

-- t isn't associated with x, or is so
apart_with : (o : Option Association) (x : XidName) → state_with o x ≡ None → is_association_with o x ≡ false
apart_with None x none = refl
apart_with (Some a) x none =
    by_bool (λ b. ◌≡◌ {A = Option AssociationState} (if b then Some a.state else None) None → b ≡ false)
    (xid_eq a.xid x)
    (λ _ z. let never : ⊥ = cc in absurd never) (λ _ z. refl) none

own_with : (o : Option Association) (x : XidName) (s : AssociationState) → state_with o x ≡ Some s
    → (is_association_with o x ≡ true) × (is_T2 o ≡ is_suspended_state s)
own_with None x s is = let never : ⊥ = cc in absurd never
own_with (Some a) x s is =
    by_bool (λ b. ◌≡◌ {A = Option AssociationState} (if b then Some a.state else None) (Some s)
    → (b ≡ true) × (is_suspended_state a.state ≡ is_suspended_state s)) (xid_eq a.xid x)
    (λ _ z. let same : a.state ≡ s = cc in (refl, ap is_suspended_state same))
    (λ _ z. let never : ⊥ = cc in absurd never) is

module _ (t : ℕ) (x : XidName) (T : Tables) where
  -- x, with which t is associated, exists, and is neither prepared nor completed
  pub live_with : (s : AssociationState) → AreAssociationsLive T → state_with (association_of T t) x ≡ Some s
      → (exists T x ≡ true) × (is_left T x ≡ false)
  live_with s live with = by_association (association_of T t) refl with
    where
      by_association : (o : Option Association) → association_of T t ≡ o → state_with o x ≡ Some s
          → (exists T x ≡ true) × (is_left T x ≡ false)
      by_association None held is = let never : ⊥ = cc in absurd never
      by_association (Some l) held is = rw ((Decides-xid_eq l.xid x).0 (own_with (Some l) x s is).0) at (live t l held)

  -- ---- xa_end

  -- where t may end its work and x isn't rollback-only
  abbrev unbound : EndHow → TablesAndCode
  unbound how =
      if is_suspend how then (suspended t x T, Done)
      else if is_fail how then (stated x (RollbackOnly Failed) (dissociated t T), RbRollback)
      else if is_somebody_associated (dissociated t T).associations x then (dissociated t T, Done)
      else (stated x Idle (dissociated t T), Done)

  -- by whether t is associated with x, whether x exists, whether it would be suspended again, and its state
  abbrev end_by : EndHow → Bool → Bool → Bool → Option State → TablesAndCode
  end_by how own there again s =
      if not own && not there then (T, Nota)
      else if not own then (T, Proto)
      else if again then (T, Proto)
      else if is_S4 s then (dissociated t T, reason_in s)
      else unbound how

  refused_by : (how : EndHow) (there again : Bool) (s : Option State)
      → (T, if there then Proto else Nota) ≡ end_by how false there again s
  refused_by how true again s = refl
  refused_by how false again s = refl

  -- a thread that isn't associated with x can't end its work on it
  pub end_refused : (how : EndHow) → state_with (association_of T t) x ≡ None
      → (T, refusal (state_of T x)) ≡ end how t x T
  end_refused how none =
      refused_by how (exists T x) (is_suspend how && is_suspended T t) (state_of T x)
      ∙ sym
      (λ i. end_by how (apart_with (association_of T t) x none i) (exists T x) (is_suspend how && is_suspended T t)
      (state_of T x))

  -- one that is suspended can't suspend it again
  pub end_again : (how : EndHow) (s : AssociationState) → state_with (association_of T t) x ≡ Some s
      → suspends_again how s ≡ true
      → (T, Proto) ≡ end how t x T
  end_again how s is again =
      let own = own_with (association_of T t) x s is in
      sym (λ i. end_by how (own.0 i) (exists T x) ((ap (λ b. is_suspend how && b) own.1 ∙ again) i) (state_of T x))

  -- any other does: these are the tables, with their associations and x's state, and the code
  abbrev pub made : FinMap nat_cmp Association × State × Code → TablesAndCode
  made e = (record T { associations = e.0; states = map.insert T.states x e.1 }, e.2)

  ends_by : (how : EndHow) (s : State) → state_of T x ≡ Some s → made (ended_by how t x T.associations s) ≡ unbound how
  ends_by Suspend s is = λ i. (record (suspended t x T) { states = put_same T.states x s is i }, Done)
  ends_by Fail s is = refl
  ends_by Success s is =
      by_bool (λ b. made (map.remove T.associations t, if b then s else Idle, Done)
      ≡ (if b then (dissociated t T, Done) else (stated x Idle (dissociated t T), Done)))
      (is_somebody_associated (dissociated t T).associations x)
      (λ _. λ i. (record (dissociated t T) { states = put_same T.states x s is i }, Done)) (λ _. refl)

  ends : (how : EndHow) (s : State) → state_of T x ≡ Some s
      → made (ended how t x T.associations s) ≡ end_by how true true false (Some s)
  ends how Active is = ends_by how Active is
  ends how Idle is = ends_by how Idle is
  ends how S3 is = ends_by how S3 is
  ends how (RollbackOnly reason) is =
      λ i. (
        record (dissociated t T) { states = put_same T.states x (RollbackOnly reason) is i },
        reason_in
            (Some (RollbackOnly reason)),
      )
  ends how (HeuristicallyCompleted decision) is = ends_by how (HeuristicallyCompleted decision) is

  pub end_done : (how : EndHow) (s : AssociationState) (state : State) → state_with (association_of T t) x ≡ Some s
      → suspends_again how s ≡ false
      → state_of T x ≡ Some state → made (ended how t x T.associations state) ≡ end how t x T
  end_done how s state with free is =
      let own = own_with (association_of T t) x s with in
      ends how state is
      ∙ sym (λ i. end_by how (own.0 i) (is_some (is i)) ((ap (λ b. is_suspend how && b) own.1 ∙ free) i) (is i))

  -- x isn't prepared then, unless it was
  pub ended_unprepared : (how : EndHow) (s : State) → is_S3 (Some s) ≡ false
      → is_S3 (Some (ended how t x T.associations s).1) ≡ false
  ended_unprepared how s e = grind arith

  -- ---- xa_start with no flag, and with TMJOIN

  pub start_done : has_association T t ≡ false → exists T x ≡ false
      → (associated t x (stated x Active T), Done) ≡ start_fresh t x T
  start_done free new =
      sym (λ i. if free i then (T, Proto) else if new i then (T, DupId) else (associated t x (stated x Active T), Done))

  abbrev join_by : Bool → Option State → TablesAndCode
  join_by free s =
      if free then (T, Proto)
      else if not (is_some s) then (T, Nota)
      else if is_left_in s then (T, Proto)
      else if is_S4 s then (T, reason_in s)
      else (associated t x (stated x Active T), Done)

  pub join_left : (s : State) → has_association T t ≡ false → state_of T x ≡ Some s → is_left_in (Some s) ≡ true
      → (T, Proto) ≡ start_join t x T
  join_left s free is left =
      sym ((λ i. join_by (free i) (is i))
      ∙ (λ i. if left i then (T, Proto) else if is_S4 (Some s) then (T, reason_in (Some s)) else
      (associated t x (stated x Active T), Done)))

  pub join_doomed : (reason : RollbackReason) → has_association T t ≡ false → state_of T x ≡ Some (RollbackOnly reason)
      → (T, reason_code reason) ≡ start_join t x T
  join_doomed reason free is = sym (λ i. join_by (free i) (is i))

  pub join_done : (s : State) → has_association T t ≡ false → state_of T x ≡ Some s → is_left_in (Some s) ≡ false
      → is_S4 (Some s) ≡ false
      → (associated t x (stated x Active T), Done) ≡ start_join t x T
  join_done s free is unleft may =
      sym ((λ i. join_by (free i) (is i))
      ∙ (λ i. if unleft i then (T, Proto) else if may i then (T, reason_in (Some s)) else
      (associated t x (stated x Active T), Done)))

module _ (x : XidName) (T : Tables) where
  -- ---- xa_prepare

  abbrev prepare_by : Bool → Option State → Bool → Bool → TablesAndCode
  prepare_by somebody s touched broken =
      if not (is_some s) then (T, Nota)
      else if somebody || (is_S3 s || (is_S4 s || is_S5 s)) then (T, Proto)
      else if not touched then (gone x T, RdOnly)
      else if broken then (gone x T, RbIntegrity)
      else (stated x S3 T, Done)

  not_may : (s : State) → not (may_prepare s) ≡ (is_S3 (Some s) || (is_S4 (Some s) || is_S5 (Some s)))
  not_may Active = refl
  not_may Idle = refl
  not_may S3 = refl
  not_may (RollbackOnly reason) = refl
  not_may (HeuristicallyCompleted decision) = refl

  -- by the vote
  abbrev voted : Bool → Bool → TablesAndCode
  voted touched broken =
      if not touched then (gone x T, RdOnly) else if broken then (gone x T, RbIntegrity) else (stated x S3 T, Done)

  closed_by : (touched broken : Bool) (code : Code)
      → (if not touched then Some RdOnly else if broken then Some RbIntegrity else None) ≡ Some code
      → (gone x T, code) ≡ voted touched broken
  closed_by false broken code is = let same : code ≡ RdOnly = cc in λ i. (gone x T, same i)
  closed_by true true code is = let same : code ≡ RbIntegrity = cc in λ i. (gone x T, same i)
  closed_by true false code is = let never : ⊥ = cc in absurd never

  prepared_by : (touched broken : Bool)
      → ◌≡◌ {A = Option Code} (if not touched then Some RdOnly else if broken then Some RbIntegrity else None) None
      → (broken ≡ false) × ((stated x S3 T, Done) ≡ voted touched broken)
  prepared_by false broken is = let never : ⊥ = cc in absurd never
  prepared_by true true is = let never : ⊥ = cc in absurd never
  prepared_by true false is = (refl, refl)

  module _ (s : State) (is : state_of T x ≡ Some s)
      (may : (is_somebody_associated T.associations x || not (may_prepare s)) ≡ false) where
    votes : voted (has_touched T.sums x) (is_broken T.values T.sums x) ≡ prepare x T
    votes =
        sym ((λ i. prepare_by (is_somebody_associated T.associations x) (is i) (has_touched T.sums x)
        (is_broken T.values T.sums x))
        ∙ (λ i. if (ap (λ b. is_somebody_associated T.associations x || b) (sym (not_may s)) ∙ may) i then (T, Proto)
        else voted (has_touched T.sums x) (is_broken T.values T.sums x)))

    -- it is gone, unless it becomes prepared
    pub prepare_gone : (code : Code) → closing_vote T.values T.sums x ≡ Some code → (gone x T, code) ≡ prepare x T
    prepare_gone code is = closed_by (has_touched T.sums x) (is_broken T.values T.sums x) code is ∙ votes

    pub prepare_done : closing_vote T.values T.sums x ≡ None → (stated x S3 T, Done) ≡ prepare x T
    prepare_done none = (prepared_by (has_touched T.sums x) (is_broken T.values T.sums x) none).1 ∙ votes

  pub vote_sound : closing_vote T.values T.sums x ≡ None → is_broken T.values T.sums x ≡ false
  vote_sound none = (prepared_by (has_touched T.sums x) (is_broken T.values T.sums x) none).0

  -- ---- a heuristic decision

  -- what a decision makes of the tables
  abbrev decided_tables : Bool → Tables
  decided_tables commits = record T {
    states = map.insert T.states x (HeuristicallyCompleted (decided commits));
    sums = sums_without T.sums x;
    values = if commits then posted T.values T.sums x else T.values;
  }

  abbrev heur_by : Bool → Bool → Bool → TablesAndCode
  heur_by commits there voted =
      if not there then (T, Nota)
      else if not voted then (T, Proto)
      else if commits then (completed_heuristically x decision.Commit (committed x T), Done)
      else (completed_heuristically x decision.Rollback T, Done)

  decides : (commits : Bool) → (decided_tables commits, Done) ≡ heur_by commits true true
  decides true = refl
  decides false = refl

  pub heur_done : (s : State) (commits : Bool) → state_of T x ≡ Some s → is_S3 (Some s) ≡ true
      → (decided_tables commits, Done) ≡ heur x commits T
  heur_done s commits is voted = decides commits ∙ sym (λ i. heur_by commits (is_some (is i)) ((ap is_S3 is ∙ voted) i))

-- ---- an addition of d to the key k, by t, which is associated with l

module _ (t : ℕ) (T : Tables) (k : List ℕ) (d : ℤ) (l : Association) (held : association_of T t ≡ Some l) where
  abbrev add_by : XidName → Bool → Bool → Option State → Bool → TablesAndCode
  add_by x suspended declared s other =
      if not (not suspended) then (T, Proto)
      else if not declared then (T, Inval)
      else if is_S4 s then (T, reason_in s)
      else if other then (stated x (RollbackOnly Transient) T, RbTransient)
      else (added x k d T, Done)

  add_is : add t k d T ≡ add_by l.xid (is_suspended_state l.state) (is_declared T k) (state_of T l.xid)
      (has_other_touched T.sums l.xid k)
  add_is i =
      let x = branch_in (held i) in
      if not (is_T1 (held i)) then (T, Proto)
      else if not (is_declared T k) then (T, Inval)
      else if is_S4 (state_of T x) then (T, reason_in (state_of T x))
      else if has_other_touched T.sums x k then (stated x (RollbackOnly Transient) T, RbTransient)
      else (added x k d T, Done)

  -- its branch can only be rolled back
  pub add_doomed : (reason : RollbackReason) → is_suspended_state l.state ≡ false → is_declared T k ≡ true
      → state_of T l.xid ≡ Some (RollbackOnly reason)
      → (T, reason_code reason) ≡ add t k d T
  add_doomed reason works declared is =
      sym (add_is ∙ (λ i. add_by l.xid (works i) (declared i) (is i) (has_other_touched T.sums l.xid k)))

  module _ (s : State) (works : is_suspended_state l.state ≡ false) (declared : is_declared T k ≡ true)
      (is : state_of T l.xid ≡ Some s) where
    -- its branch, which isn't rollback-only, meets a key that another has touched, or adds to one that none has
    adds_by : (other : Bool) → is_S4 (Some s) ≡ false → has_other_touched T.sums l.xid k ≡ other
        → add t k d T ≡ add_by l.xid false true None other
    adds_by other may alone =
        add_is ∙ (λ i. add_by l.xid (works i) (declared i) (is i) (alone i))
        ∙ ap
        (λ b. if b then (T, reason_in (Some s)) else if other then
        (stated l.xid (RollbackOnly Transient) T, RbTransient) else (added l.xid k d T, Done)) may

    pub add_met : is_S4 (Some s) ≡ false → has_other_touched T.sums l.xid k ≡ true
        → (stated l.xid (RollbackOnly Transient) T, RbTransient) ≡ add t k d T
    add_met may other = sym (adds_by true may other)

    pub add_done : is_S4 (Some s) ≡ false → has_other_touched T.sums l.xid k ≡ false
        → (added l.xid k d T, Done) ≡ add t k d T
    add_done may alone = sym (adds_by false may alone)
