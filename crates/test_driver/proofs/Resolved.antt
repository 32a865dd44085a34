-- A commit in an opening and a resolve in the one after the next, with nothing else in any.
use Rattle.xa_base.proofs.{◌≡◌, ◌≢◌, ℕ, ◌≤◌, List, [], ◌∷◌, length, refl, sym, ap, subst, All, All-nil, All-cons}
use Rattle.xa_words.specs.{TranName, RmFail}
use Rattle.xa_desk.specs.{LedgerView}
use Rattle.xa_switch.specs.{reopening, IsOf, IsScanOf, IsSettled, Settling, Again}
use Rattle.xa_scan.specs.{ScanView}
use Rattle.xa_driver.specs.{Outcome}
use Rattle.xa_log.specs.{Records, record_in}
use Rattle.laws_commit.specs.{IsLeftOrDecided, CommitCall, ResolveCall, Opening, commits, resolve_call, resolves}
use Rattle.laws_commit.specs.{with_use, Continues, IsByItsThread, IsKept, IsResolved, IsUseIn, OnlyResolves}
use Rattle.laws_commit.proofs.NextOpening.{kept_with, scan_of}

-- an opening in which nobody uses the log
abbrev pub without_use : Settling → Opening
without_use s = record { settled = s; uses = [] }

pub three_resolved : (s between next : Settling) (again : Again) (c : CommitCall) (q : ResolveCall)
    → IsSettled s → IsUseIn s (commits c) → length c.desk.ledgers ≤ 8 → IsLeftOrDecided s c
    → IsSettled between → Continues s between → ((t : TranName) → OnlyResolves t (without_use between))
    → IsSettled next → IsUseIn next (resolves q) → Continues between next → IsOf (reopening between again) next
    → IsScanOf between q.scan
    → q.records ≡ c.later.records → ((t : TranName) → OnlyResolves t (with_use next (resolves q)))
    → All (λ x. x.code ≢ RmFail) q.outcomes
    → IsResolved (with_use s (commits c)) (without_use between ∷ []) (with_use next (resolves q)) c q
three_resolved s between next again c q settled made few own mid_settled goes_on silent last_settled resolved
    continues of scanned log later reached =
    let o : Opening = with_use s (commits c) in
    let mid : Opening = without_use between in
    let last : Opening = with_use next (resolves q) in
    let mid_kept : IsKept mid = record { settled = mid_settled; uses = All-nil (IsUseIn between) } in
    record {
      kept = All-cons IsKept o (mid ∷ last ∷ []) (kept_with s (commits c) settled made)
          (All-cons IsKept mid (last ∷ []) mid_kept
          (All-cons IsKept last [] (kept_with next (resolves q) last_settled resolved) (All-nil IsKept)));
      in_a_row = (goes_on, (continues, tt));
      us = [];
      vs = [];
      use_at = refl;
      ps = [];
      qs = [];
      resolve_at = refl;
      few = few;
      log = λ left t tran. (ap (λ (r : Records). record_in r t) log, tt);
      its_thread = All-nil (IsByItsThread c);
      own = λ j d lt _. own.each j d lt;
      later = λ t tran left. All-cons (OnlyResolves t) mid (last ∷ []) (silent t)
          (All-cons (OnlyResolves t) last [] (later t) (All-nil (OnlyResolves t)));
      scan = scan_of between next again q.scan of scanned;
      reached = λ k d lt of. reached k d lt;
    }

-- the same, where the openings and the records are told by others
pub told_three_resolved : (s told between told_between next : Settling) (again : Again) (c : CommitCall) (thread : ℕ)
    (scan : ScanView) (old new : List LedgerView) (outcomes : List Outcome) (records told_records : Records)
    → told ≡ s → told_between ≡ between → told_records ≡ records
    → IsSettled s → IsUseIn s (commits c) → length c.desk.ledgers ≤ 8 → IsLeftOrDecided s c
    → IsSettled between → Continues s between → ((t : TranName) → OnlyResolves t (without_use between))
    → IsSettled next → IsUseIn next (resolves (resolve_call thread scan old new outcomes records))
    → Continues between next
    → IsOf (reopening between again) next → IsScanOf between scan
    → records ≡ c.later.records
    → ((t : TranName) → OnlyResolves t (with_use next (resolves (resolve_call thread scan old new outcomes records))))
    → All (λ x. x.code ≢ RmFail) outcomes
    → IsResolved (with_use told (commits c)) (without_use told_between ∷ [])
    (with_use next (resolves (resolve_call thread scan old new outcomes told_records))) c
    (resolve_call thread scan old new outcomes told_records)
told_three_resolved s told between told_between next again c thread scan old new outcomes records told_records is mid_is
    records_are settled made few own mid_settled goes_on silent last_settled resolved continues of scanned kept later
    reached =
    let q : Records → ResolveCall = resolve_call thread scan old new outcomes in
    subst
    (λ (p : Settling × Settling × Records). IsResolved (with_use p.0 (commits c)) (without_use p.1 ∷ [])
    (with_use next (resolves (q p.2))) c (q p.2)) (λ i. (sym is i, sym mid_is i, sym records_are i))
    (three_resolved s between next again c (q records) settled made few own mid_settled goes_on silent last_settled
    resolved continues of scanned kept later reached)
