-- What one request does to the tables. The rules are walked here alone: a law of all requests is one of their effects.
use Rattle.xa_base.proofs.{rules, ◌≡◌, ℕ, ℤ, pos, Bool, true, false, not, ◌&&◌, ◌||◌, if◌then◌else◌, Option, None, Some}
use Rattle.xa_base.proofs.{List, refl, arith, ap, ◌∙◌, ◌⊎◌, or-true, not-false, by_if, and_parts, or_parts, or_from}
use Rattle.xa_base.proofs.{inl, inr}
use Rattle.xa_words.specs.{XidName, xid_eq, Done, RdOnly, RbRollback, RbIntegrity, RbTransient, Async, RmErr, Nota}
use Rattle.xa_words.specs.{Inval, Proto, RmFail, DupId, Outside, Op, OpenRm, CloseRm, Start, Add, End, Prepare, Commit}
use Rattle.xa_words.specs.{Rollback, Forget, Heur, Listed, Shut, StartHow, Fresh, Join, Resume, EndHow, Success}
use Rattle.xa_words.specs.{Suspend, Fail, Code, is_done, is_rolled_back}
use Rattle.xa_tables.specs.{State, Active, Idle, RollbackOnly, Failed, Transient, Association, association_of}
use Rattle.xa_tables.specs.{has_association, has_opened, has_touched, branch_in, branch_of, is_at_work, is_T1}
use Rattle.xa_tables.specs.{needs_opening, heuristic_code_of, state_of, exists, is_S2, is_S4, is_suspended}
use Rattle.xa_tables.specs.{is_associated, is_idle, is_prepared, is_rollback_only, is_completed, is_left, is_left_in}
use Rattle.xa_tables.specs.{is_S5, reason_in, reason_of, decision_in, is_somebody_associated, is_declared}
use Rattle.xa_tables.specs.{has_other_touched, is_broken, TablesAndCode, next, by_rules, open_rm, close_rm, start, add}
use Rattle.xa_tables.specs.{end, prepare, commit_one, commit_two, rollback, heur, forget, listed, is_suspend}
use Rattle.xa_tables.specs.{associated, suspended, dissociated, stated, added, gone, completed_heuristically, committed}
use Rattle.xa_tables.specs.{shut_down, Fate, ReadOnly, RolledBack, fate_of, if_named, commit_fate, rollback_fate}
use Rattle.xa_tables.specs.{ending_of_fate, is_settling, share_of, names, moved_by, Tables}
use Rattle.xa_tables.specs.declared.state.State.TheVariants.{Prepared as S3}
use Rattle.xa_tables.specs.Next.{forgotten}
use Rattle.std.specs.FinSet as set
use Rattle.xa_tables.specs.declared.state.HeuristicDecision.TheVariants as decision

-- ---- what a code tells

-- the request with this code makes nothing of any branch, adds nothing to any key, and moves no worth
pub record TellsNothing (op : Op) (c : Code) : Type 0 where
  pub fates : (x : XidName) → fate_of x op c ≡ None
  pub shares : (k : List ℕ) (l : Option Association) (later : XidName → Bool) → share_of k op c l later ≡ pos 0
  pub moved : (accounts : List (List ℕ × ℕ)) (T : Tables) → moved_by accounts op c T ≡ pos 0

-- the request names y alone, and with this code y has ended without a commit: it adds nothing and moves no worth
pub record TellsDropped (op : Op) (y : XidName) (c : Code) : Type 0 where
  pub fate : Fate
  pub uncommitted : ending_of_fate fate ≡ Some false
  pub fates : (x : XidName) → fate_of x op c ≡ if_named x y (Some fate)
  pub shares : (k : List ℕ) (l : Option Association) (later : XidName → Bool) → share_of k op c l later ≡ pos 0
  pub moved : (accounts : List (List ℕ × ℕ)) (T : Tables) → moved_by accounts op c T ≡ pos 0
  pub named : (x : XidName) → names x op ≡ xid_eq y x
  pub settling : is_settling op ≡ true

-- XAER_*
abbrev is_error : Code → Bool
is_error Async = true
is_error RmErr = true
is_error Nota = true
is_error Inval = true
is_error Proto = true
is_error RmFail = true
is_error DupId = true
is_error Outside = true
is_error c = false

pub named_none : (x y : XidName) → if_named x y None ≡ None
named_none x y =
    elim (xid_eq y x) as (λ b. ◌≡◌ {A = Option Fate} (if b then None else None) None) [ true ↦ refl | false ↦ refl ]

-- an addition with another code than XA_OK tells nothing
pub undone_adds : (own : List ℕ) (d : ℤ) (c : Code) → is_done c ≡ false → TellsNothing (Add own d) c
undone_adds own d c e = grind (arith)

-- an error tells nothing, whatever was requested
pub error_tells : (op : Op) (c : Code) → is_error c ≡ true → TellsNothing op c
error_tells op c e = grind (arith, undone_adds, named_none)

-- the reason of a branch that can only be rolled back is an XA_RB* code
pub reason_rolls_back : (o : Option State) → is_S4 o ≡ true → is_rolled_back (reason_in o) ≡ true
reason_rolls_back o e = grind arith

-- a decision's code tells of no fate, to a Commit and to a Rollback
pub decision_commits_nothing : (o : Option State) → is_S5 o ≡ true → commit_fate (decision_in o) ≡ None
decision_commits_nothing o e = grind arith

pub decision_rolls_nothing_back : (o : Option State) → is_S5 o ≡ true → rollback_fate (decision_in o) ≡ None
decision_rolls_nothing_back o e = grind arith

not_done : (r : Code) → is_rolled_back r ≡ true → is_done r ≡ false
not_done r e = grind arith

-- ---- the effects

-- what a request of thread t that is so answered does to the tables T
pub data Effect (t : ℕ) (T : Tables) : Op → TablesAndCode → Type 0 where
  -- nothing
  Stays : (op : Op) (c : Code) → TellsNothing op c → Effect t T op (T, c)
  -- the manager is shut
  Shuts : Effect t T Shut (shut_down T, Done)
  -- t opens the manager, and closes it
  Opens : Effect t T OpenRm (open_rm t T)
  Closes : Effect t T CloseRm (record T { opened = set.remove T.opened t }, Done)
  -- t begins a branch, joins one that is at work, and goes on with its own
  Starts : (y : XidName) → has_association T t ≡ false → exists T y ≡ false
      → Effect t T (Start y Fresh) (associated t y (stated y Active T), Done)
  Joins : (y : XidName) → has_association T t ≡ false → exists T y ≡ true → is_left T y ≡ false
      → Effect t T (Start y Join) (associated t y (stated y Active T), Done)
  Resumes : (y : XidName) → is_associated T t y ≡ true → Effect t T (Start y Resume) (associated t y T, Done)
  -- t pauses, or leaves its branch as it is, only to be rolled back, or idle
  Suspends : (y : XidName) → is_associated T t y ≡ true → Effect t T (End y Suspend) (suspended t y T, Done)
  Leaves : (y : XidName) (how : EndHow) (c : Code) → is_associated T t y ≡ true
      → (is_rollback_only T y || is_somebody_associated (dissociated t T).associations y) ≡ true
      → Effect t T (End y how) (dissociated t T, c)
  Fails : (y : XidName) → is_associated T t y ≡ true
      → Effect t T (End y Fail) (stated y (RollbackOnly Failed) (dissociated t T), RbRollback)
  Idles : (y : XidName) → is_associated T t y ≡ true → is_somebody_associated (dissociated t T).associations y ≡ false
      → Effect t T (End y Success) (stated y Idle (dissociated t T), Done)
  -- t's branch meets a key that another has touched, and adds to one that none has
  Dooms : (k : List ℕ) (d : ℤ) (l : Association) → association_of T t ≡ Some l
      → Effect t T (Add k d) (stated l.xid (RollbackOnly Transient) T, RbTransient)
  Adds : (k : List ℕ) (d : ℤ) (l : Association) → association_of T t ≡ Some l → is_declared T k ≡ true
      → has_other_touched T.sums l.xid k ≡ false
      → Effect t T (Add k d) (added l.xid k d T, Done)
  -- a branch with which nobody is associated is prepared, is committed, or ends without a commit
  Prepares : (y : XidName) → is_somebody_associated T.associations y ≡ false → is_broken T.values T.sums y ≡ false
      → Effect t T (Prepare y) (stated y S3 T, Done)
  Commits : (y : XidName) (one_phase : Bool) → is_somebody_associated T.associations y ≡ false
      → (is_prepared T y ≡ true) ⊎ (is_broken T.values T.sums y ≡ false)
      → Effect t T (Commit y one_phase) (gone y (committed y T), Done)
  Drops : (op : Op) (y : XidName) (c : Code) → is_somebody_associated T.associations y ≡ false
      → (is_done c || not (is_left T y)) ≡ true
      → TellsDropped op y c → Effect t T op (gone y T, c)
  -- a prepared branch is committed or rolled back by a heuristic decision, and such a decision is forgotten
  CommitsByItself : (y : XidName) → is_prepared T y ≡ true
      → Effect t T (Heur y true) (completed_heuristically y decision.Commit (committed y T), Done)
  RollsBackByItself : (y : XidName) → is_prepared T y ≡ true
      → Effect t T (Heur y false) (completed_heuristically y decision.Rollback T, Done)
  Forgets : (y : XidName) → is_completed T y ≡ true → Effect t T (Forget y) (forgotten y T, Done)

-- ---- the walk

module _ (t : ℕ) (T : Tables) where
  refuses : {op : Op} {c : Code} → is_error c ≡ true → Effect t T op (T, c)
  refuses {op = op} {c = c} error = Stays op c (error_tells op c error)

  at_if : {op : Op} {p q : TablesAndCode} (b : Bool) → (b ≡ true → Effect t T op p) → (b ≡ false → Effect t T op q)
      → Effect t T op (if b then p else q)
  at_if {op = op} b = by_if (Effect t T op) b _ _

  close_stays : Effect t T CloseRm (T, Done)
  close_stays =
      Stays CloseRm Done (record { fates = λ x. refl; shares = λ k l later. refl; moved = λ accounts U. refl })

  join_stays : (y : XidName) (c : Code) → Effect t T (Start y Join) (T, c)
  join_stays y c =
      Stays (Start y Join) c
      (record { fates = λ x. named_none x y; shares = λ k l later. refl; moved = λ accounts U. refl })

  listed_stays : (x : Option XidName) (c : Code) → Effect t T (Listed x) (T, c)
  listed_stays x c =
      Stays (Listed x) c (record { fates = λ y. refl; shares = λ k l later. refl; moved = λ accounts U. refl })

  at_close : Effect t T CloseRm (close_rm t T)
  at_close =
      at_if (not (has_opened T t)) (λ _. close_stays)
      (λ _. at_if (has_association T t) (λ _. refuses refl) (λ _. Closes))

  at_start : (how : StartHow) (y : XidName) → Effect t T (Start y how) (start how t y T)
  at_start Fresh y =
      at_if (has_association T t) (λ _. refuses refl)
      (λ free. at_if (exists T y) (λ _. refuses refl) (λ new. Starts y free new))
  at_start Join y =
      at_if (has_association T t) (λ _. refuses refl) (λ free.
      at_if (not (exists T y)) (λ _. refuses refl) (λ there.
      at_if (is_left T y) (λ _. refuses refl) (λ unleft.
      at_if (is_rollback_only T y) (λ _. join_stays y (reason_of T y)) (λ _. Joins y free (not-false _ there) unleft))))
  at_start Resume y =
      at_if (is_associated T t y && is_suspended T t) (λ both. Resumes y (and_parts _ _ both).0) (λ _.
      at_if (not (exists T y)) (λ _. refuses refl) (λ _. refuses refl))

  doomed_add : (k : List ℕ) (d : ℤ) (y : XidName) → is_rollback_only T y ≡ true
      → Effect t T (Add k d) (T, reason_of T y)
  doomed_add k d y doomed =
      Stays (Add k d) (reason_of T y)
      (undone_adds k d (reason_of T y) (not_done (reason_of T y) (reason_rolls_back (state_of T y) doomed)))

  -- the association of a thread that is at work
  working_association : (o : Option Association) → is_T1 o ≡ true → (l : Association) × (o ≡ Some l)
  working_association None work = let z : false ≡ true = work in cc
  working_association (Some l) work = (l, refl)

  at_add : (k : List ℕ) (d : ℤ) → Effect t T (Add k d) (add t k d T)
  at_add k d =
      at_if (not (is_at_work T t)) (λ _. refuses refl) (λ work.
      let own = working_association (association_of T t) (not-false _ work) in
      let l = own.0 in
      at_if (not (is_declared T k)) (λ _. refuses refl) (λ declared.
      at_if (is_rollback_only T (branch_of T t)) (doomed_add k d (branch_of T t)) (λ _.
      rw (ap branch_in own.1)
      (at_if (has_other_touched T.sums l.xid k) (λ _. Dooms k d l own.1)
      (λ alone. Adds k d l own.1 (not-false _ declared) alone)))))

  -- an xa_end of a branch that can only be rolled back
  doomed_end : (how : EndHow) (y : XidName) → is_associated T t y ≡ true → is_rollback_only T y ≡ true
      → Effect t T (End y how) (dissociated t T, reason_of T y)
  doomed_end how y own doomed =
      Leaves y how (reason_of T y) own (ap (λ b. b || is_somebody_associated (dissociated t T).associations y) doomed)

  -- and any, with what it does where t may end its work and y isn't doomed
  at_end_by : (how : EndHow) (y : XidName) (last : TablesAndCode)
      → (is_associated T t y ≡ true → Effect t T (End y how) last)
      → Effect t T (End y how) (if not (is_associated T t y) && not (exists T y) then (T, Nota)
      else if not (is_associated T t y) then (T, Proto)
      else if is_suspend how && is_suspended T t then (T, Proto)
      else if is_rollback_only T y then (dissociated t T, reason_of T y)
      else last)
  at_end_by how y last ends =
      at_if (not (is_associated T t y) && not (exists T y)) (λ _. refuses refl) (λ _.
      at_if (not (is_associated T t y)) (λ _. refuses refl) (λ own.
      at_if (is_suspend how && is_suspended T t) (λ _. refuses refl) (λ _.
      at_if (is_rollback_only T y) (doomed_end how y (not-false _ own)) (λ _. ends (not-false _ own)))))

  at_end : (how : EndHow) (y : XidName) → Effect t T (End y how) (end how t y T)
  at_end Suspend y = at_end_by Suspend y (suspended t y T, Done) (Suspends y)
  at_end Fail y = at_end_by Fail y (stated y (RollbackOnly Failed) (dissociated t T), RbRollback) (Fails y)
  at_end Success y =
      at_end_by Success y
      (if is_somebody_associated (dissociated t T).associations y then (dissociated t T, Done) else
      (stated y Idle (dissociated t T), Done))
      (λ own. at_if (is_somebody_associated (dissociated t T).associations y)
      (λ left. Leaves y Success Done own
      (ap (λ b. is_rollback_only T y || b) left ∙ or-true (is_rollback_only T y)))
      (λ alone. Idles y own alone))

  -- where y is neither prepared nor heuristically completed
  not_left : (y : XidName) → is_left T y ≡ false → not (is_left T y) ≡ true
  not_left y e = ap not e

  reads : (y : XidName) → is_somebody_associated T.associations y ≡ false → is_left T y ≡ false
      → Effect t T (Prepare y) (gone y T, RdOnly)
  reads y nobody left =
      Drops (Prepare y) y RdOnly nobody (not_left y left)
      (record {
        fate = ReadOnly;
        uncommitted = refl;
        fates = λ x. refl;
        shares = λ k l later. refl;
        moved = λ accounts U. refl;
        named = λ x. refl;
        settling = refl;
      })

  breaks : (y : XidName) → is_somebody_associated T.associations y ≡ false → is_left T y ≡ false
      → Effect t T (Prepare y) (gone y T, RbIntegrity)
  breaks y nobody left =
      Drops (Prepare y) y RbIntegrity nobody (not_left y left)
      (record {
        fate = RolledBack;
        uncommitted = refl;
        fates = λ x. refl;
        shares = λ k l later. refl;
        moved = λ accounts U. refl;
        named = λ x. refl;
        settling = refl;
      })

  at_prepare : (y : XidName) → Effect t T (Prepare y) (prepare y T)
  at_prepare y =
      at_if (not (exists T y)) (λ _. refuses refl) (λ _.
      at_if (is_somebody_associated T.associations y || (is_prepared T y || (is_rollback_only T y || is_completed T y)))
      (λ _. refuses refl) (λ e.
      let nobody = or_parts (is_somebody_associated T.associations y) _ e in
      let unprepared = or_parts (is_prepared T y) _ nobody.1 in
      let left = or_from _ _ unprepared.0 (or_parts (is_rollback_only T y) _ unprepared.1).1 in
      at_if (not (has_touched T.sums y)) (λ _. reads y nobody.0 left) (λ _.
      at_if (is_broken T.values T.sums y) (λ _. breaks y nobody.0 left) (λ whole. Prepares y nobody.0 whole))))

  idle_not_left : (o : Option State) → is_S2 o ≡ true → is_left_in o ≡ false
  idle_not_left o e = grind arith

  commit_breaks : (y : XidName) → is_somebody_associated T.associations y ≡ false → is_idle T y ≡ true
      → Effect t T (Commit y true) (gone y T, RbIntegrity)
  commit_breaks y nobody idle =
      Drops (Commit y true) y RbIntegrity nobody (not_left y (idle_not_left (state_of T y) idle))
      (record {
        fate = RolledBack;
        uncommitted = refl;
        fates = λ x. refl;
        shares = λ k l later. refl;
        moved = λ accounts U. refl;
        named = λ x. refl;
        settling = refl;
      })

  commit_told : (y : XidName) (c : Code) → commit_fate c ≡ None → Effect t T (Commit y false) (T, c)
  commit_told y c none = Stays (Commit y false) c (record {
    fates = λ x. ap (if_named x y) none ∙ named_none x y;
    shares = λ k l later. refl;
    moved = search (arith, rules);
  })

  at_commit : (one_phase : Bool) (y : XidName)
      → Effect t T (Commit y one_phase) (if one_phase then commit_one y T else commit_two y T)
  at_commit true y =
      at_if (not (exists T y)) (λ _. refuses refl) (λ _.
      at_if (is_somebody_associated T.associations y || not (is_idle T y)) (λ _. refuses refl) (λ e.
      let parts = or_parts _ _ e in
      at_if (is_broken T.values T.sums y) (λ _. commit_breaks y parts.0 (not-false _ parts.1))
      (λ whole. Commits y true parts.0 (inr whole))))
  at_commit false y =
      at_if (not (exists T y)) (λ _. refuses refl) (λ _.
      at_if (is_completed T y)
      (λ is. commit_told y (heuristic_code_of T y) (decision_commits_nothing (state_of T y) is))
      (λ _.
      at_if (is_somebody_associated T.associations y || not (is_prepared T y)) (λ _. refuses refl) (λ e.
      let parts = or_parts _ _ e in Commits y false parts.0 (inl (not-false _ parts.1)))))

  rollback_told : (y : XidName) (c : Code) → rollback_fate c ≡ None → Effect t T (Rollback y) (T, c)
  rollback_told y c none =
      Stays (Rollback y) c
      (record {
        fates = λ x. ap (if_named x y) none ∙ named_none x y;
        shares = λ k l later. refl;
        moved = λ accounts U. refl;
      })

  doomed_not_left : (o : Option State) (c : Code) → is_S4 o ≡ true → (is_done c || not (is_left_in o)) ≡ true
  doomed_not_left o c e = grind arith

  rollback_drops : (y : XidName) (c : Code) → is_somebody_associated T.associations y ≡ false
      → (is_done c || not (is_left T y)) ≡ true
      → (is_done c || is_rolled_back c) ≡ true → Effect t T (Rollback y) (gone y T, c)
  rollback_drops y c nobody left e =
      Drops (Rollback y) y c nobody left
      (record {
        fate = RolledBack;
        uncommitted = refl;
        fates =
            λ x. ap (λ b. if_named x y (if b then Some RolledBack else None)) e;
        shares = λ k l later. refl;
        moved = λ accounts U. refl;
        named = λ x. refl;
        settling = refl;
      })

  at_rollback : (y : XidName) → Effect t T (Rollback y) (rollback y T)
  at_rollback y =
      at_if (not (exists T y)) (λ _. refuses refl) (λ _.
      at_if (is_completed T y)
      (λ is. rollback_told y (heuristic_code_of T y) (decision_rolls_nothing_back (state_of T y) is))
      (λ _.
      at_if (is_somebody_associated T.associations y) (λ _. refuses refl) (λ nobody.
      at_if (is_rollback_only T y) (λ doomed.
      rollback_drops y (reason_of T y) nobody (doomed_not_left (state_of T y) (reason_of T y) doomed)
      (ap (λ b. is_done (reason_of T y) || b) (reason_rolls_back (state_of T y) doomed)
      ∙ or-true (is_done (reason_of T y)))) (λ _.
      rollback_drops y Done nobody refl refl))))

  at_heur_by : (commits : Bool) (y : XidName) (last : TablesAndCode)
      → (is_prepared T y ≡ true → Effect t T (Heur y commits) last)
      → Effect t T (Heur y commits)
      (if not (exists T y) then (T, Nota) else if not (is_prepared T y) then (T, Proto) else last)
  at_heur_by commits y last decides =
      at_if (not (exists T y)) (λ _. refuses refl) (λ _.
      at_if (not (is_prepared T y)) (λ _. refuses refl) (λ voted. decides (not-false _ voted)))

  at_heur : (commits : Bool) (y : XidName) → Effect t T (Heur y commits) (heur y commits T)
  at_heur true y =
      at_heur_by true y (completed_heuristically y decision.Commit (committed y T), Done) (CommitsByItself y)
  at_heur false y = at_heur_by false y (completed_heuristically y decision.Rollback T, Done) (RollsBackByItself y)

  at_forget : (y : XidName) → Effect t T (Forget y) (forget y T)
  at_forget y =
      at_if (not (exists T y)) (λ _. refuses refl) (λ _.
      at_if (not (is_completed T y)) (λ _. refuses refl) (λ is. Forgets y (not-false _ is)))

  at_listed : (x : Option XidName) → Effect t T (Listed x) (listed x T)
  at_listed None = listed_stays None Done
  at_listed (Some x) = at_if (is_left T x) (λ _. listed_stays (Some x) Done) (λ _. refuses refl)

  pub at_rules : (op : Op) → Effect t T op (by_rules t op T)
  at_rules Shut = Shuts
  at_rules OpenRm = Opens
  at_rules CloseRm = at_close
  at_rules (Start y how) = at_start how y
  at_rules (Add k d) = at_add k d
  at_rules (End y how) = at_end how y
  at_rules (Prepare y) = at_prepare y
  at_rules (Commit y one_phase) = at_commit one_phase y
  at_rules (Rollback y) = at_rollback y
  at_rules (Forget y) = at_forget y
  at_rules (Heur y commits) = at_heur commits y
  at_rules (Listed x) = at_listed x

-- each request has one of them
pub effect_of : (t : ℕ) (op : Op) (T : Tables) → Effect t T op (next t op T)
unfolding next
effect_of t op T =
    at_if t T (T.shut) (λ _. refuses t T refl) (λ _.
    at_if t T (needs_opening op && not (has_opened T t)) (λ _. refuses t T refl) (λ _. at_rules t T op))
