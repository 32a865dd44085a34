-- What the laws of a commit and of the resolve after it say where the resolve is in the very next opening.
use Rattle.xa_base.proofs.{found, contains_map, length-map-range_with_len, get_or-map-range_with_len, ◌≡◌, ℕ, zero, suc}
use Rattle.xa_base.proofs.{◌+◌, ◌-◌, ◌≤◌, ◌==◌, List, length, map, slice_get, option_map, Option, Some, None, sym, refl}
use Rattle.xa_base.proofs.{ap, ◌∙◌, arith, Contains, range_with_len, eqb-true, same_Some, slice_get-get_or, ◌≢◌, []}
use Rattle.xa_base.proofs.{◌∷◌, ◌++◌, All, map-append, All-nil, All-cons, All-head, All-tail, All-map, Bool, true}
use Rattle.xa_base.proofs.{false, list_all, get-empty, and_parts, All-contains, inl, get_or, Contains-get_or}
use Rattle.xa_base.proofs.{IsPermutation-sym, Contains-permutation, mapped_some}
use Rattle.xa_tables.specs.Histories as history
use Rattle.xa_words.specs.{XidName, TranName, RmFail, xid_cmp, Code, tran_of, is_done}
use Rattle.xa_tables.proofs.Soundness.{opening_sound}
use Rattle.xa_tables.specs.{is_left, Tables, AreLeft, State, HeuristicallyCompleted, HeuristicDecision, opening}
use Rattle.xa_tables.specs.{state_of, is_left_in, Fate, IsFateOf, decided_fate, fate, tables_after, reopened}
use Rattle.xa_tables.specs.{fate_of_state, History, is_S3}
use Rattle.xa_switch.specs.{managers_in, reopened_at, reopening, Each, first_of, IsOf, ManagerPart, find_manager}
use Rattle.xa_switch.specs.{Settling, Again, IsScanOf, IsSettled, last_in, IsOpenedWith, history as history_of}
use Rattle.xa_switch.specs.{settled_fate, ledgers_of}
use Rattle.xa_scan.specs.{ScanView, left_at}
use Rattle.xa_base.specs.{MOST_MANAGERS, IsUpTo}
use Rattle.xa_desk.specs.{ledger}
use Rattle.xa_driver.specs.{Done, Branch, IsTranOf, Ending, Committed, ReadOnly, Outcome, has_acknowledged}
use Rattle.xa_driver.specs.{is_acknowledged}
use Rattle.xa_log.specs.{Records, all_records, record_in, record_of}
use Rattle.laws_commit.specs.{AskedAreLeft, IsByItsThread, CommitCall, ResolveCall, Use, commits, resolves, AreUses}
use Rattle.laws_commit.specs.{Continues, HasBranchLeft, AreOfAllLogs, IsKept, Opening, IsOutcomeOf, IsUseIn}
use Rattle.laws_commit.specs.{OnlyResolves, with_resolves, with_use, EachOutcome, TellsTheFate, WasAtFirst, told_fate}
use Rattle.laws_commit.specs.{TellsTheOutcome, ended_as, outcome_fate, Tabled, TellsTheOutcomes, TellsTheFates}
use Rattle.laws_commit.specs.{IsResolved}
use Rattle.xa_tables.specs.declared.state.State.TheVariants.{Prepared}
use Rattle.xa_tables.proofs.Reopening.{as_left}
use Rattle.laws_commit.proofs.Sites.{OpensWithFirst}
use Rattle.laws_commit.proofs.Resolves.{upto_so, outcome_asked, outcome_at, outcome_left}
use Rattle.laws_commit.proofs.Guided.{is_known_so, unknown_so, decided_apart, read_apart}
use Rattle.laws_commit.proofs.Later.{ends_with, IsStep, answered_at, opening_towards, placed_so}
use Rattle.laws_commit.proofs.Leading.{waits, unforgotten, IsTowards, Stands}
use Rattle.laws_commit.proofs.OneOutcome.{FindsMark}

-- what holds of each list with its place holds of that of a manager
pub left_each : (Q : ℕ → List XidName → Type 0) (z : ScanView) → Each Q z.left → (m : ℕ) → 1 ≤ m → m ≤ length z.left
    → Q (m - 1) (left_at z m)
left_each Q z each zero low high = absurd (omega (arith, low))
left_each Q z each (suc k) low high = search (arith, slice_get-get_or, z.left)

-- a manager of an opening that was opened again is one of the managers that it had
pub was_there : (s next : Settling) (again : Again) (m : ℕ) (T : _) → IsOf (reopening s again) next
    → first_of next m ≡ Some T → (1 ≤ m) × (m ≤ managers_in s)
was_there s next again m T of first =
    let n : ℕ = managers_in s in
    let there = mapped_some (λ (p : ManagerPart). p.first) (find_manager m next.managers) T first in
    let is = found (λ (p : ManagerPart). p.number == m) next.managers there.0 there.1 in
    let number : there.0.number ≡ m = eqb-true there.0.number m is.1 in
    let numbers : List ℕ = map (λ (p : ManagerPart). p.number) next.managers in
    let among : Contains numbers m =
    rw number at (contains_map (λ (p : ManagerPart). p.number) next.managers there.0 is.0) in
    let within : Contains (range_with_len 1 n) m =
    Contains-permutation numbers (range_with_len 1 n) m (IsPermutation-sym _ _ of.managers) among in
    upto_so n m within

-- it began with what the reopening made of the manager's tables
pub begins_with : (s next : Settling) (again : Again) (m : ℕ) (T : _) → IsOf (reopening s again) next
    → first_of next m ≡ Some T
    → T ≡ reopened_at s.managers (m - 1 + 1)
begins_with s next again m T of first =
    let f : ℕ → Tables = reopened_at s.managers in
    let n : ℕ = managers_in s in
    let within = was_there s next again m T of first in
    let same : m - 1 + 1 ≡ m = omega (arith, within.0) in
    let given : slice_get (map f (range_with_len 1 n)) (m - 1) ≡ Some (f (m - 1 + 1)) =
    slice_get-get_or (map f (range_with_len 1 n)) (m - 1) T
    (omega (arith, within.0, within.1, length-map-range_with_len f 1 n))
    ∙ ap Some
    (get_or-map-range_with_len f 1 n (m - 1) (m - 1 + 1) T (omega (arith, within.0, within.1)) (omega arith)) in
    same_Some _ _ (sym first ∙ ap (first_of next) (sym same) ∙ of.opened (m - 1) (f (m - 1 + 1)) given)

pub kept_with : (s : Settling) (u : Use) → IsSettled s → IsUseIn s u → IsKept (with_use s u)
kept_with s u settled made = record { settled = settled; uses = All-cons (IsUseIn s) u [] made (All-nil (IsUseIn s)) }

-- one resolve alone
pub one_of : (P : ResolveCall → Type 0) (q : ResolveCall) → P q → All P (q ∷ [])
one_of P q h = All-cons P q [] h (All-nil P)

-- the scan that the reopening gave is of the tables that the next opening begins with
pub scan_of : (s next : Settling) (again : Again) (z : ScanView) → IsOf (reopening s again) next → IsScanOf s z
    → (m : ℕ) (T : Tables)
    → first_of next m ≡ Some T → AreLeft (left_at z m) T
scan_of s next again z of scanned m T first =
    let within = was_there s next again m T of first in
    rw (begins_with s next again m T of first)
    (left_each _ z scanned.left.each m within.0 (omega (arith, within.1, scanned.left.managers)))

-- resolves that find what the log has of the transaction use it so
pub uses_by : (t : TranName) (records : Records) (qs : List ResolveCall)
    → All (λ r. record_in r.records t ≡ record_in records t) qs
    → AreUses t records (map resolves qs ++ [])
uses_by t records [] same = tt
uses_by t records (q ∷ qs) same = (
  All-head (λ r. record_in r.records t ≡ record_in records t) q qs same,
  uses_by t records qs
      (All-tail (λ r. record_in r.records t ≡ record_in records t) q qs same),
)

-- a commit, where the next opening has these resolves
pub next_resolved : (s next : Settling) (again : Again) (c : CommitCall) (ps : List ResolveCall) (q : ResolveCall)
    (rs : List ResolveCall)
    → IsSettled s → IsUseIn s (commits c) → length c.desk.ledgers ≤ MOST_MANAGERS → AskedAreLeft c s
    → IsSettled next → All (λ r. IsUseIn next (resolves r)) (ps ++ q ∷ rs) → Continues s next
    → IsOf (reopening s again) next → IsScanOf s q.scan
    → (HasBranchLeft c.branches s → (t : TranName) → IsTranOf c.branches t
    → All (λ r. record_in r.records t ≡ record_of c.later t) (ps ++ q ∷ rs))
    → ((t : TranName) → IsTranOf c.branches t → OnlyResolves t (with_resolves next (ps ++ q ∷ rs)))
    → All (λ r. IsOutcomeOf c.branches r → r.code ≢ RmFail) q.outcomes
    → IsResolved (with_use s (commits c)) [] (with_resolves next (ps ++ q ∷ rs)) c q
next_resolved s next again c ps q rs settled made few own last_settled resolved continues of scanned log later reached =
    let last : Opening = with_resolves next (ps ++ q ∷ rs) in
    record {
      kept =
          All-cons IsKept (with_use s (commits c)) (last ∷ []) (kept_with s (commits c) settled made)
          (All-cons IsKept last []
          (record { settled = last_settled; uses = All-map (IsUseIn next) resolves (ps ++ q ∷ rs) resolved })
          (All-nil IsKept));
      in_a_row = (continues, tt);
      us = [];
      vs = [];
      use_at = refl;
      ps = map resolves ps;
      qs = map resolves rs;
      resolve_at = map-append resolves ps (q ∷ rs);
      few = few;
      log = λ is_left t tran. uses_by t c.later.records (ps ++ q ∷ rs) (log is_left t tran);
      its_thread = All-nil (IsByItsThread c);
      own = own;
      later = λ t tran _. All-cons (OnlyResolves t) last [] (later t tran) (All-nil (OnlyResolves t));
      scan = scan_of s next again q.scan of scanned;
      reached = reached;
    }

-- several logs have of the transaction what its own has, where no other has a record of it
pub found_in_all : (own_log : (before after : List Records) (own : Records) (t : TranName)
    → All (λ log. record_in log t ≡ None) (before ++ after)
    → record_in (all_records (before ++ own ∷ after)) t ≡ record_in own t) → (t : TranName) (own records : Records)
    → AreOfAllLogs t own records
    → record_in records t ≡ record_in own t
found_in_all own_log t own records are =
    ap (λ log. record_in log t) are.all ∙ own_log are.before are.after own t are.alone

-- a fate after which nothing of the branch is left
record IsOver (f : Fate) : Type 0 where
  known : history.is_in_doubt f ≡ false
  plain : (d : HeuristicDecision) → f ≡ decided_fate d → ⊥

ended_is_over : (commit : Bool) → IsOver (ended_as commit)
ended_is_over commit =
    record { known = is_known_so (ended_as commit) commit refl; plain = λ d e. decided_apart d commit (sym e) }

module _ (law : Tabled) (first : OpensWithFirst) (s : Settling) (settled : IsSettled s) where
  -- what the tables with which its opening began tell of it
  abbrev Ends : ℕ → XidName → Fate → Type 0
  Ends m x f = (T : Tables) → first_of s m ≡ Some T → settled_fate s m x (fate_of_state (state_of T x)) ≡ f

  gone_of : (m : ℕ) (x : XidName) (f : Fate) → IsOver f → Ends m x f → (T : Tables) → first_of s m ≡ Some T
      → is_left (reopened_at s.managers m) x ≡ false
  gone_of m x f over ends T begins =
      let H : History = history_of s m in
      let end : Tables = tables_after H T in
      let G : Fate = fate_of_state (state_of T x) in
      let with_T = first s m T settled begins in
      let fits = law.kept H x G T with_T.opened (law.first x T) in
      let is : fate x G H T ≡ f = sym (with_T.fates x G) ∙ ends T begins in
      search (arith, ends_with, as_left)

  gone : (m : ℕ) (x : XidName) (f : Fate) → IsOver f → Ends m x f → is_left (reopened_at s.managers m) x ≡ false
  gone m x f over ends =
      elim (find_manager m s.managers) as
      (λ o. find_manager m s.managers ≡ o → is_left (reopened_at s.managers m) x ≡ false) [
        | None ↦ λ none. ap (λ o. is_left (reopened (last_in o)) x) none ∙ as_left (opening []) x
            ∙ ap is_left_in (get-empty xid_cmp x)
        | Some p ↦ λ is. gone_of m x f over ends p.first (ap (option_map (λ (q : ManagerPart). q.first)) is)
      ] refl

  -- ---- of a commit that was acknowledged

  acknowledged_is_over : (e : Ending) → has_acknowledged e ≡ true → (f : Fate) × (told_fate e ≡ Some f) × IsOver f
  acknowledged_is_over Committed is = (history.Committed, refl, ended_is_over true)
  acknowledged_is_over ReadOnly is =
      (history.ReadOnly, refl, record { known = refl; plain = λ d e. read_apart d (sym e) })
  acknowledged_is_over e is = cc

  abbrev IsGone : Branch → Type 0
  IsGone b = is_left (reopened_at s.managers b.m) b.xid ≡ false

  gone_acknowledged : (t n : ℕ) (b : Branch) (e : Ending) → TellsTheFate s t b n e → has_acknowledged e ≡ true
      → IsGone b
  gone_acknowledged t n b e tells is =
      let over = acknowledged_is_over e is in
      gone b.m b.xid over.0 over.2
      (λ T begins.
      let was : WasAtFirst s b (fate_of_state (state_of T b.xid)) =
      record { first = T; opened = first s b.m T settled begins; fits = law.first b.xid T } in
      tells.told (fate_of_state (state_of T b.xid)) over.0 was over.1)

  all_gone : (t : ℕ) (from : ℕ → ℕ) (bs : List Branch) (vs : List Code) (es : List Ending)
      → EachOutcome (λ b v e. TellsTheFate s t b (from b.m) e) bs vs es → list_all has_acknowledged es ≡ true
      → All IsGone bs
  all_gone t from [] [] [] h is = All-nil IsGone
  all_gone t from (b ∷ bs) (v ∷ vs) (e ∷ es) h is =
      let parts = and_parts (has_acknowledged e) (list_all has_acknowledged es) is in
      All-cons IsGone b bs (gone_acknowledged t (from b.m) b e h.0 parts.0) (all_gone t from bs vs es h.1 parts.1)
  all_gone t from bs vs es h is = absurd h

  pub none_left : (t : ℕ) (from : ℕ → ℕ) (bs : List Branch) (done : Done) → TellsTheFates s t bs from done
      → is_acknowledged done ≡ true → HasBranchLeft bs s → ⊥
  none_left t from bs done told is left =
      let is_all = (and_parts _ (list_all has_acknowledged done.endings.items) is).1 in
      search (arith, All-contains, all_gone, left.branch, done.votes.items, done.endings.items, left.among, told.each)

-- what a branch that was left stands at
left_stands : (commit : Bool) (x : XidName) (T : Tables) (f : Fate) → IsFateOf x f T → (s : Option State)
    → state_of T x ≡ s → is_left_in s ≡ true
    → Stands commit true (Unit {0}) (Unit {0}) (state_of T x) f
left_stands commit x T f fits (Some Prepared) is left =
    waits tt refl is (unknown_so f (sym fits.prepared ∙ ap is_S3 is))
left_stands commit x T f fits (Some (HeuristicallyCompleted d)) is left =
    unforgotten d is (fits.decided d is) (inl refl)
left_stands commit x T f fits o is left = cc

reached_so : (commit : Bool) (c : Code) (g : Fate) → outcome_fate commit c ≡ Some g → c ≢ RmFail
reached_so commit c g is e = grind arith

-- ---- all of them

module _ (law : Tabled) (first : OpensWithFirst) (s : Settling)
    (q : ResolveCall) (settled : IsSettled s) (use_ : IsUseIn s (resolves q))
    (scan : (m : ℕ) (T : Tables) → first_of s m ≡ Some T → AreLeft (left_at q.scan m) T) where
  abbrev o : Opening
  o = with_use s (resolves q)

  kept : IsKept o
  kept = kept_with s (resolves q) settled use_

  -- an outcome of a manager that is there tells what became of its branch, where only the resolve names its transaction
  module _ (r : Outcome) (among : Contains q.outcomes r) (up : IsUpTo MOST_MANAGERS r.m)
      (only : OnlyResolves (tran_of r.xid) o) (T : Tables)
      (begins : first_of s r.m ≡ Some T) where
    open r use {xid as x, m}

    abbrev H : History
    H = history_of s m

    with_T : IsOpenedWith s m T
    with_T = first s m T settled begins

    marks : All (FindsMark r.commit (tran_of x) m) (resolves q ∷ [])
    marks = All-cons (FindsMark r.commit (tran_of x) m) (resolves q) []
        (sym (outcome_asked q.scan q.records q.old q.new q.outcomes use_.made m up (ledger (ledgers_of s q.thread) m)
        (use_.grown.each m up.0) r among refl).decision) (All-nil (FindsMark r.commit (tran_of x) m))

    towards : All (λ p. IsTowards r.commit (Unit {0}) x p.op) H
    towards = opening_towards law first r.commit (Unit {0}) (Unit {0}) m up x o kept only marks (λ _ _ _ _ _ _ _. tt)

    left : is_left_in (state_of T x) ≡ true
    left =
        sym ((scan m T begins).each x)
        ∙ outcome_left q.scan q.records q.old q.new q.outcomes use_.made m up (ledger (ledgers_of s q.thread) m)
        (use_.grown.each m up.0) r among refl

    pub outcome_so : (before f : Fate) → IsFateOf x before T → outcome_fate r.commit r.code ≡ Some f
        → settled_fate s m x before ≡ f
    outcome_so before f fits tells =
        let stands : Stands r.commit true (Unit {0}) (Unit {0}) (state_of T x) before =
        left_stands r.commit x T before fits (state_of T x) refl left in
        let step : IsStep law first r.commit (Unit {0}) (Unit {0}) m up x o T before =
        search (arith, kept, towards, marks) in
        let z =
        answered_at law first r.commit (Unit {0}) (Unit {0}) m up x o T before step q (zero, omega arith, refl) r among
        refl refl (reached_so r.commit r.code f tells) in
        with_T.fates x before ∙ law.leaves H x before T
        ∙ placed_so r.commit (Unit {0}) (Unit {0}) q.thread x T H before r.code towards
        (record { stands = stands; sound = opening_sound T with_T.opened })
        (reached_so r.commit r.code f tells) (λ _ _. tt) z law f tells

  -- so of each
  pub outcomes_law : ((r : Outcome) → Contains q.outcomes r → OnlyResolves (tran_of r.xid) o)
      → TellsTheOutcomes s q.outcomes
  outcomes_law only k d lt T before f begins fits tells =
      let r : Outcome = get_or q.outcomes k d in
      let among : Contains q.outcomes r = Contains-get_or q.outcomes k d lt in
      outcome_so r among (outcome_at q.scan q.records q.old q.new q.outcomes use_.made r among).0 (only r among) T
      begins before f fits tells

  -- and one that was answered XA_OK isn't left
  pub finished_outcomes : ((r : Outcome) → Contains q.outcomes r → OnlyResolves (tran_of r.xid) o) → (r : Outcome)
      → Contains q.outcomes r
      → is_done r.code ≡ true → is_left (reopened_at s.managers r.m) r.xid ≡ false
  finished_outcomes only r among finished =
      gone law first s settled r.m r.xid (ended_as r.commit) (ended_is_over r.commit) (λ T begins.
      All-contains (TellsTheOutcome s) q.outcomes r (outcomes_law only) among T (fate_of_state (state_of T r.xid))
      (ended_as r.commit) begins (law.first r.xid T) (grind arith))
