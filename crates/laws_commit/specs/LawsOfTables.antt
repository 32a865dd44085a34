-- What the laws of the tables say of one branch.
use Rattle.std.specs.Prelude.{◌≡◌, ◌≢◌, ℕ, ℤ, pos, true, false, List, [], Some, option_map}
use Rattle.xa_words.specs.Xid.{XidName}
use Rattle.xa_words.specs.declared.code.Code.TheVariants.{Done, RdOnly, RbIntegrity}
use Rattle.xa_words.specs.declared.request.Op.{Op}
use Rattle.xa_words.specs.declared.request.Op.TheVariants.{Add, Prepare, Commit, Rollback}
use Rattle.xa_tables.specs.declared.state.Association.{Association}
use Rattle.xa_tables.specs.declared.state.HeuristicDecision.{HeuristicDecision}
use Rattle.xa_tables.specs.ManagerTables.{Tables, association_of, state_of, is_prepared}
use Rattle.xa_tables.specs.Reasons.{decision_code}
use Rattle.xa_tables.specs.Next.{next}
use Rattle.xa_tables.specs.Histories.{History, Fate, fate, fate_in, fates_in, coded, tables_after}
use Rattle.xa_words.specs.Codes.{is_rolled_back}
use Rattle.xa_tables.specs.Histories.{EndsNowhere, IsFateOf}
use Rattle.xa_tables.specs.Openings.{IsOpening, fate_of_state}
use Rattle.xa_tables.specs.Worth.{held_by}
use Rattle.xa_tables.specs.Prepared.{NamesNowhere, OnlyDecides, LeavesWaiting, AwaitsAfter, IsToldDecision, has_shut}

-- what the laws of the tables say
pub record Tabled : Type 0 where
  pub awaits : (h g : History) (t : ℕ) (x : XidName) (T : Tables) → IsOpening T
      → (next t (Prepare x) (tables_after h T)).1 ≡ Done → LeavesWaiting t x g
      → AwaitsAfter t x g (next t (Prepare x) (tables_after h T)).0
  pub shuts : (h : History) (T : Tables) → IsOpening T → (tables_after h T).shut ≡ has_shut h
  pub leaves : (h : History) (x : XidName) (f : Fate) (T : Tables) → fate x f h T ≡ fate_in x f (coded h T)
  pub adders : (t u : ℕ) (op : Op) (x : XidName) (k : List ℕ) (d : ℤ) (g : History) (T : Tables) → op ≡ Add k d
      → option_map (λ (a : Association). a.xid) (association_of T u) ≡ Some x → (next u op T).1 ≡ Done
      → EndsNowhere x g (next u op T).0 → (next t (Prepare x) (tables_after g (next u op T).0)).1 ≢ RdOnly
  pub breaks : (t : ℕ) (x : XidName) (T : Tables) → is_rolled_back (next t (Prepare x) T).1 ≡ true
      → (next t (Prepare x) T).1 ≡ RbIntegrity
  pub keeps : (accounts : List (List ℕ × ℕ)) (t : ℕ) (x : XidName) (h g : History) (T : Tables) → IsOpening T
      → (next t (Prepare x) (tables_after h T)).1 ≡ Done → NamesNowhere x g
      → held_by accounts x (tables_after g (next t (Prepare x) (tables_after h T)).0)
      ≡ held_by accounts x (tables_after h T)
  pub reads : (accounts : List (List ℕ × ℕ)) (t : ℕ) (x : XidName) (T : Tables) → (next t (Prepare x) T).1 ≡ RdOnly
      → held_by accounts x T ≡ pos 0
  pub first : (x : XidName) (T : Tables) → IsFateOf x (fate_of_state (state_of T x)) T
  pub kept : (h : History) (x : XidName) (f : Fate) (T : Tables) → IsOpening T → IsFateOf x f T
      → IsFateOf x (fate x f h T) (tables_after h T)
  pub undecided : (g : History) (x : XidName) (T : Tables) → is_prepared T x ≡ false → OnlyDecides x g
      → fates_in x (coded g T) ≡ []
  pub silent : (g : History) (x : XidName) (T : Tables) → T.shut ≡ true → fates_in x (coded g T) ≡ []
  pub commit_tells : (t : ℕ) (x : XidName) (d : HeuristicDecision) (T : Tables)
      → (next t (Commit x false) T).1 ≡ decision_code d → IsToldDecision x d T (next t (Commit x false) T)
  pub rollback_tells : (t : ℕ) (x : XidName) (d : HeuristicDecision) (T : Tables)
      → (next t (Rollback x) T).1 ≡ decision_code d → IsToldDecision x d T (next t (Rollback x) T)
