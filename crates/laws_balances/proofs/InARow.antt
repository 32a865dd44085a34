-- What accounts are worth after openings one after another, by the records of the commits in them.
use Rattle.xa_base.proofs.{rules, ◌≡◌, ℤ, pos, ◌+ℤ◌, true, false, ◌||◌, if◌then◌else◌, List, [], ◌∷◌, map, refl, All}
use Rattle.xa_base.proofs.{IsDistinct, list_any, sym, ap, ◌∙◌, arith, get_or, ints, All-head, All-tail}
use Rattle.xa_base.proofs.{+ℤ_idl as none_plus, +ℤ_idr as plus_none, total_same, total_alike, total_both, total_nothing}
use Rattle.xa_base.proofs.{by_if, at_true, ℕ, Bool, None, Some, cond, is_some, find, get-from_entries, total_across}
use Rattle.xa_base.proofs.{inl, inr, zero, suc, AllByRecursion, IsDistinct-head, IsDistinct-tail}
use Rattle.xa_tables.specs.declared.state.HeuristicDecision.TheVariants as decision
use Rattle.laws_commit.proofs.Values.{unmoving}
use Rattle.xa_base.specs.{total}
use Rattle.xa_words.specs.{XidName, xid_eq, Decides-xid_eq, Op, Commit, Heur, Request, Code, key_cmp_total}
use Rattle.xa_words.specs.{are_accounts}
use Rattle.laws_fates.proofs.ValueLaw.{worth_from, declared_on}
use Rattle.laws_tables.proofs.WorthLaw.{worth_law}
use Rattle.laws_fates.proofs.FateLaw.{begin_law}
use Rattle.xa_tables.specs.{Tables, next, tables_after, IsOpening, reopened, left_by, names, worth, moved, moved_by}
use Rattle.xa_tables.specs.{is_any, DeclareEach, History, opening, HeuristicDecision, state_of, Fate, Absent, IsFateOf}
use Rattle.xa_tables.specs.{decided_fate, reopened_fate, fate_left, worth_declared}
use Rattle.xa_driver.specs.{is_commit, Ending}
use Rattle.laws_balances.specs.{moved_over, is_for, CommitsAmong, WorthIsOfBranches, WorthIsRecorded, IsDay, DayLeg}
use Rattle.laws_balances.specs.{counted_for, ComesOut, Votes, OnlyTold, ended_by_commit, is_outcome_or_in_doubt}
use Rattle.laws_balances.specs.{branch_at, ComesOutByTheLog, IsSettledDay, SettledWorthIsRecorded}
use Rattle.laws_balances.specs.Days.{voted as voted_leg, unasked as unasked_leg}
use Rattle.laws_balances.proofs.Course.{Accounts, moved_for, still_over, voted_law, ended_law, undecided_law}
use Rattle.xa_words.specs.Orders.{key_cmp}
use Rattle.xa_tables.proofs.AccountLemmas.{key_self, same_key}
use Rattle.xa_switch.specs.{IsSettled, IsOpenedWith, first_of, history, settled_fate}
use Rattle.xa_switch.proofs.SettledOpenings.{follows_first}
use Rattle.laws_commit.specs.{CommitCall, Opening, AreInARow, EndsAs, became, ended_as, fate_through, last_of}
use Rattle.laws_commit.specs.{tables_left, histories}
use Rattle.laws_commit.proofs.Later.{ends_with}
use Rattle.laws_balances.specs.SettledDays.{voted, unasked}

-- ---- the shares of branches

none_of : (x : XidName) (xs : List XidName) → AllByRecursion (λ y. xid_eq x y ≡ false) xs
    → list_any (λ y. xid_eq x y) xs ≡ false
none_of x [] apart = refl
none_of x (y ∷ ys) apart = ap (λ b. b || list_any (λ z. xid_eq x z) ys) apart.0 ∙ none_of x ys apart.1

-- what counts for one branch counts once
once : (xs : List XidName) (y : XidName) (v : ℤ) → IsDistinct xid_eq xs
    → total (λ x. if xid_eq y x then v else pos 0) xs ≡ (if list_any (λ x. xid_eq y x) xs then v else pos 0)
once [] y v distinct = refl
once (x ∷ xs) y v distinct =
    let later = once xs y v (IsDistinct-tail xid_eq x xs distinct) in
    elim (xid_eq y x) as
    (λ b. xid_eq y x ≡ b → (if b then v else pos 0) +ℤ total (λ x. if xid_eq y x then v else pos 0) xs
    ≡ (if b || list_any (λ x. xid_eq y x) xs then v else pos 0)) [
      | true ↦ λ t.
          let gone : list_any (λ z. xid_eq y z) xs ≡ false =
          ap (λ q. list_any (λ z. xid_eq q z) xs) ((Decides-xid_eq y x).0 t)
          ∙ none_of x xs (IsDistinct-head xid_eq x xs distinct) in
          (λ i. v +ℤ (later ∙ ap (λ b. if b then v else pos 0) gone) i) ∙ plus_none v
      | false ↦ λ t. none_plus _ ∙ later
    ] refl

-- what one request moves is moved for one of them
nothing_for : (xs : List XidName) (op : Op) → total (λ x. if names x op then pos 0 else pos 0) xs ≡ pos 0
nothing_for xs op =
    total_same (λ x. if names x op then pos 0 else pos 0) (λ x. pos 0) xs
    (λ x. by_if (λ v. v ≡ pos 0) (names x op) _ _ (λ _. refl) (λ _. refl))
    ∙ total_nothing xs

for_one : (accounts : Accounts) (xs : List XidName) (op : Op) (c : Code) (T : Tables) → IsDistinct xid_eq xs
    → (is_commit op ≡ true → list_any (λ x. names x op) xs ≡ true)
    → moved_by accounts op c T ≡ total (λ x. moved_for accounts x op c T) xs
for_one accounts xs (Commit y one_phase) c T distinct among =
    sym (once xs y (moved_by accounts (Commit y one_phase) c T) distinct
    ∙ at_true (list_any (λ x. xid_eq y x) xs) _ _ (among refl))
for_one accounts xs (Heur y true) c T distinct among =
    sym (once xs y (moved_by accounts (Heur y true) c T) distinct
    ∙ at_true (list_any (λ x. xid_eq y x) xs) _ _ (among refl))
for_one accounts xs (Heur y false) c T distinct among =
    let still : moved_by accounts (Heur y false) c T ≡ pos 0 = unmoving accounts (Heur y false) c T refl in
    still ∙ sym (ap (λ v. total (λ x. if xid_eq y x then v else pos 0) xs) still ∙ nothing_for xs (Heur y false))
for_one accounts xs op c T distinct among = sym (nothing_for xs op)

abbrev Among : List XidName → Request → Type 0
Among xs r = is_commit r.op ≡ true → list_any (λ x. names x r.op) xs ≡ true

parted_on : (accounts : Accounts) (xs : List XidName) (h : History) (T : Tables) → IsDistinct xid_eq xs
    → CommitsAmong xs h
    → moved accounts is_any h T ≡ total (λ x. moved accounts (is_for x) h T) xs
parted_on accounts xs [] T distinct among = sym (total_nothing xs)
parted_on accounts xs (r ∷ h) T distinct among =
    let c : Code = (next r.thread r.op T).1 in
    let T1 : Tables = (next r.thread r.op T).0 in
    (λ i. for_one accounts xs r.op c T distinct (All-head (Among xs) r h among) i
    +ℤ parted_on accounts xs h T1 distinct (All-tail (Among xs) r h among) i)
    ∙ sym (total_both (λ x. moved_for accounts x r.op c T) (λ x. moved accounts (is_for x) h T1) xs)

parted_over : (accounts : Accounts) (xs : List XidName) (hs : List History) (T : Tables) → IsDistinct xid_eq xs
    → All (CommitsAmong xs) hs
    → moved_over accounts is_any hs T ≡ total (λ x. moved_over accounts (is_for x) hs T) xs
parted_over accounts xs [] T distinct among = sym (total_nothing xs)
parted_over accounts xs (h ∷ hs) T distinct among =
    let T1 : Tables = reopened (tables_after h T) in
    (λ i. parted_on accounts xs h T distinct (All-head (CommitsAmong xs) h hs among) i
    +ℤ parted_over accounts xs hs T1 distinct (All-tail (CommitsAmong xs) h hs among) i)
    ∙ sym (total_both (λ x. moved accounts (is_for x) h T) (λ x. moved_over accounts (is_for x) hs T1) xs)

-- ---- the worth

regroup : (w v m n u : ℤ) → v ≡ w +ℤ m → u ≡ v +ℤ n → u ≡ w +ℤ (m +ℤ n)
regroup w v m n u e f = omega (arith, ints)

worth_over : (accounts : Accounts) (hs : List History) (T : Tables) → DeclareEach accounts T
    → worth accounts (left_by hs T) ≡ worth accounts T +ℤ moved_over accounts is_any hs T
worth_over accounts [] T known = sym (plus_none _)
worth_over accounts (h ∷ hs) T known =
    let T1 : Tables = reopened (tables_after h T) in
    let still : DeclareEach accounts T1 = λ k d lt. declared_on h (get_or accounts k d).0 T ∙ known k d lt in
    regroup (worth accounts T) (worth accounts T1) (moved accounts is_any h T) (moved_over accounts is_any hs T1)
    (worth accounts (left_by hs T1))
    (worth_from accounts h T known) (worth_over accounts hs T1 still)

pub branches_law : (accounts : Accounts) (xs : List XidName) (hs : List History) (T : Tables) → DeclareEach accounts T
    → IsDistinct xid_eq xs
    → All (CommitsAmong xs) hs → WorthIsOfBranches accounts xs hs T
branches_law accounts xs hs T known distinct among = search (arith, worth_over, parted_over)

-- ---- a day

counts : (accounts : Accounts) (T : Tables) (h : History) (later : List History) (g : DayLeg) → IsOpening T
    → ComesOut accounts T h later g
    → moved_over accounts (is_for g.xid) (h ∷ later) T ≡ counted_for g
counts accounts T h later g o (voted_leg votes told recorded sum) = search (arith, voted_law, g.xid)
counts accounts T h later g o (unasked_leg still nothing) = still_over accounts g.xid (h ∷ later) T still ∙ sym nothing

total_of : (f : XidName → ℤ) (gs : List DayLeg) → total f (map (λ g. g.xid) gs) ≡ total (λ g. f g.xid) gs
total_of f [] = refl
total_of f (g ∷ gs) = ap (λ v. f g.xid +ℤ v) (total_of f gs)

pub day_law : (accounts : Accounts) (T : Tables) (h : History) (later : List History) (legs : List DayLeg) → IsOpening T
    → DeclareEach accounts T
    → IsDay accounts T h later legs → WorthIsRecorded accounts T h later legs
day_law accounts T h later legs o known day =
    branches_law accounts (map (λ g. g.xid) legs) (h ∷ later) T known day.distinct day.among
    ∙ ap (λ v. worth accounts T +ℤ v)
    (total_of (λ x. moved_over accounts (is_for x) (h ∷ later) T) legs
    ∙ total_alike (λ g. moved_over accounts (is_for g.xid) (h ∷ later) T) counted_for legs
    (λ k d lt. counts accounts T h later (get_or legs k d) o (day.each k d lt)))

abbrev AllSettled : List Opening → Type 0
AllSettled os = All (λ o. IsSettled o.settled) os

abbrev Settles : Opening → Type 0
Settles o = IsSettled o.settled

-- what the next opening begins with
next_first : (m : ℕ) (o p : Opening) (T : Tables) → IsSettled o.settled → first_of o.settled m ≡ Some T
    → first_of p.settled m ≡ Some (reopened (tables_left o m))
    → first_of p.settled m ≡ Some (reopened (tables_after (history o.settled m) T))
next_first m o p T settled first next = next ∙ ap (λ U. Some (reopened U)) (ends_with o.settled m T settled first)

-- what the openings leave
leaves : (m : ℕ) (o : Opening) (later : List Opening) (T : Tables) → AllSettled (o ∷ later) → AreInARow o later
    → first_of o.settled m ≡ Some T
    → left_by (histories m (o ∷ later)) T ≡ reopened (tables_left (last_of o later) m)
leaves m o [] T settled row first = ap reopened (sym (ends_with o.settled m T (All-head Settles o [] settled) first))
leaves m o (p ∷ ps) T settled row first =
    leaves m p ps (reopened (tables_after (history o.settled m) T)) (All-tail Settles o (p ∷ ps) settled) row.1
    (next_first m o p T (All-head Settles o (p ∷ ps) settled) first (row.0 m T first))

-- and what they make of a branch
makes : (m : ℕ) (x : XidName) (f : Fate) (o : Opening) (later : List Opening) (T : Tables) → AllSettled (o ∷ later)
    → AreInARow o later
    → first_of o.settled m ≡ Some T
    → fate_left x f (histories m (o ∷ later)) T ≡ reopened_fate (fate_through m x (settled_fate o.settled m x f) later)
makes m x f o [] T settled row first =
    ap reopened_fate (sym ((follows_first o.settled m T (All-head Settles o [] settled) first).fates x f))
makes m x f o (p ∷ ps) T settled row first =
    let here = follows_first o.settled m T (All-head Settles o (p ∷ ps) settled) first in
    let T1 : Tables = reopened (tables_after (history o.settled m) T) in
    ap (λ g. fate_left x (reopened_fate g) (histories m (p ∷ ps)) T1) (sym (here.fates x f))
    ∙ makes m x (reopened_fate (settled_fate o.settled m x f)) p ps T1 (All-tail Settles o (p ∷ ps) settled) row.1
    (next_first m o p T (All-head Settles o (p ∷ ps) settled) first (row.0 m T first))

undecided_stays : (f : Fate) → is_outcome_or_in_doubt f ≡ true → reopened_fate f ≡ f
undecided_stays f e = search (arith, rules)

never_decided : (d : HeuristicDecision) → is_outcome_or_in_doubt (reopened_fate (decided_fate d)) ≡ false
never_decided decision.Commit = refl
never_decided decision.Rollback = refl

committed_so : (commit : Bool) → ended_by_commit (reopened_fate (ended_as commit)) ≡ commit
committed_so commit = search (arith, rules)

module _ (m : ℕ) (x : XidName) (o : Opening) (later : List Opening) (T : Tables) (settled : AllSettled (o ∷ later))
    (row : AreInARow o later)
    (first : first_of o.settled m ≡ Some T) (votes : Votes x (history o.settled m) T)
    (told : All (OnlyTold x) (histories m later)) where
  abbrev end : Fate
  end = fate_left x Absent (histories m (o ∷ later)) T

  opened : IsOpenedWith o.settled m T
  opened = follows_first o.settled m T (All-head Settles o later settled) first

  -- what became of it is its fate after all of them
  became_end : end ≡ reopened_fate (became (branch_at m x) Absent o later)
  became_end = search (arith, undecided_law, opened, makes, ended_law, undecided_stays)

  ends_by : (recorded : Bool) (known : Ending) → state_of T x ≡ None → EndsAs recorded o later (branch_at m x) known
      → ended_by_commit end ≡ recorded
  ends_by recorded known fresh ends =
      let fits : IsFateOf x Absent T = rw fresh at (begin_law x T) in
      elim (ends.ends Absent (record { first = T; opened = opened; fits = fits })) as
      (λ _. ended_by_commit end ≡ recorded) [
        | inl e ↦ ap ended_by_commit (became_end ∙ ap reopened_fate e) ∙ committed_so recorded
        | inr z ↦
            let plain : is_outcome_or_in_doubt end ≡ true =
            undecided_law [] x Absent (history o.settled m) (histories m later) T votes opened.opened told in
            let never : is_outcome_or_in_doubt end ≡ false =
            ap is_outcome_or_in_doubt (became_end ∙ ap reopened_fate z.1.0) ∙ never_decided z.0 in
            let y : true ≡ false = sym plain ∙ never in
            cc
      ]

pub settled_law : (accounts : List (List ℕ × ℕ)) (m : ℕ) (T : Tables) (o : Opening) (later : List Opening)
    (legs : List DayLeg)
    → AllSettled (o ∷ later)
    → AreInARow o later → first_of o.settled m ≡ Some T → DeclareEach accounts T
    → IsSettledDay accounts m T o later legs
    → SettledWorthIsRecorded accounts m T o later legs
settled_law accounts m T o later legs settled row first known day =
    ap (worth accounts) (sym (leaves m o later T settled row first))
    ∙ day_law accounts T (history o.settled m) (histories m later) legs
    (follows_first o.settled m T (All-head Settles o later settled) first).opened known (record {
      distinct = day.distinct;
      among = day.among;
      each = λ k d lt. comes_out (get_or legs k d) (day.each k d lt);
    })
  where
    comes_out : (g : DayLeg) → ComesOutByTheLog accounts m T o later g
        → ComesOut accounts T (history o.settled m) (histories m later) g
    comes_out g (voted fresh votes told known ends sum) =
        voted_leg votes told (ends_by m g.xid o later T settled row first votes told g.recorded known fresh ends) sum
    comes_out g (unasked still nothing) = unasked_leg still nothing

-- ---- from the declared accounts on

-- each of them is found in the first tables
found : (accounts : List (List ℕ × ℕ))
    → All (λ d. is_some (find key_cmp d.0 (map (λ e. (e.0, pos e.1)) accounts)) ≡ true) accounts
found [] k d lt = absurd (omega arith)
found (d ∷ ds) zero e lt =
    ap (λ b. is_some (cond b (Some (pos d.1)) (find key_cmp d.0 (map (λ e. (e.0, pos e.1)) ds)))) (key_self d.0)
found (d ∷ ds) (suc k) e lt = search (arith, found ds k e (omega arith), same_key, is_some)

pub opens_with : (accounts : List (List ℕ × ℕ)) → DeclareEach accounts (opening accounts)
opens_with accounts k d lt =
    ap is_some (get-from_entries key_cmp_total (map (λ e. (e.0, pos e.1)) accounts) (get_or accounts k d).0)
    ∙ found accounts k d lt

pub first_law : (accounts : List (List ℕ × ℕ)) (m : ℕ) (o : Opening) (later : List Opening) (legs : List DayLeg)
    → are_accounts accounts ≡ true
    → AllSettled (o ∷ later) → AreInARow o later → first_of o.settled m ≡ Some (opening accounts)
    → IsSettledDay accounts m (opening accounts) o later legs
    → worth accounts (tables_left (last_of o later) m) ≡ worth_declared accounts +ℤ total counted_for legs
first_law accounts m o later legs sound settled row first day =
    settled_law accounts m (opening accounts) o later legs settled row first (opens_with accounts) day
    ∙ ap (λ v. v +ℤ total counted_for legs) (worth_law accounts [] sound ∙ plus_none _)

-- all managers
pub conserved_law : (ms : List ℕ) (accounts : ℕ → List (List ℕ × ℕ)) (first : ℕ → Tables) (o : Opening)
    (later : List Opening) (legs : ℕ → List DayLeg)
    (transfers : List CommitCall) (share : CommitCall → ℕ → ℤ)
    → All (λ m. SettledWorthIsRecorded (accounts m) m (first m) o later (legs m)) ms
    → All (λ m. total counted_for (legs m) ≡ total (λ k. share k m) transfers) ms
    → All (λ k. total (share k) ms ≡ pos 0) transfers
    → total (λ m. worth (accounts m) (tables_left (last_of o later) m)) ms ≡ total (λ m. worth (accounts m) (first m))
    ms
conserved_law ms accounts first o later legs transfers share each parted even =
    total_alike (λ m. worth (accounts m) (tables_left (last_of o later) m))
    (λ m. worth (accounts m) (first m) +ℤ total counted_for (legs m)) ms each
    ∙ total_both (λ m. worth (accounts m) (first m)) (λ m. total counted_for (legs m)) ms
    ∙ ap (λ v. total (λ m. worth (accounts m) (first m)) ms +ℤ v)
    (total_alike (λ m. total counted_for (legs m)) (λ m. total (λ k. share k m) transfers) ms parted
    ∙ total_across (λ m k. share k m) ms transfers ∙ total_alike (λ k. total (share k) ms) (λ k. pos 0) transfers even
    ∙ total_nothing transfers)
    ∙ plus_none _
