-- What a branch that nobody else named counts for, over the settled history of its manager: what the requests of one
-- thread
-- move there, the share that a value has of an addition, by the fates of its branch, and both for a branch of a call.
use Rattle.xa_base.proofs.{by_if, false_from_ne_true, and_parts, eqb-true, le-leb, ℤ, pos, ◌+ℤ◌, nat_le, if◌then◌else◌}
use Rattle.xa_base.proofs.{◌≡◌, ℕ, suc, ◌<◌, ◌≤◌, Bool, true, false, ◌==◌, ◌&&◌, List, [], ◌∷◌, ◌++◌, length, get_or}
use Rattle.xa_base.proofs.{sym, refl, ap, ◌∙◌, arith, eq-eqb, All, ints, and-false, +ℤ_idl as none_plus}
use Rattle.xa_base.proofs.{+ℤ_idr as plus_none, append_assoc, Option, Some, None, cons_option, at_true, ◌≢◌, all_left}
use Rattle.xa_base.proofs.{all_after, All-cons, cases_Bool, lt-leb, leb-true, leb-false, both_ways}
use Rattle.laws_tables.proofs.UnnamedLaw.{tables_after-append, unnamed_fate}
use Rattle.xa_tables.specs.{moved_by, TablesAndCode, next, tables_after, moved, held_by, Tables, History, Association}
use Rattle.xa_tables.specs.{association_of, Fate, coded, commits_later, ending_of_fate, fate_of, or_later, share}
use Rattle.xa_tables.specs.{EndsNowhere, names, NamesNowhere, is_forget, commit_fate}
use Rattle.xa_words.specs.{is_done, Op, Commit, Request, Code, XidName, Decides-key_eq, Prepare, Done, RdOnly, xid_eq}
use Rattle.xa_driver.specs.{is_commit, Ending, ReadOnly, RolledBack, Left, is_yes, yes_ending, no_ending, outcome_op}
use Rattle.laws_commit.specs.{taken_before, IsAddition, prepare_of, IsBetween, OnlyTheseName}
use Rattle.laws_commit.specs.{ends_read_only as is_read_only_ending, none_later}
use Rattle.xa_words.proofs.Xids.{xid_self}
use Rattle.laws_commit.specs.Outcomes.{ends_committed}
use Rattle.xa_tables.specs.Histories as history
use Rattle.laws_commit.proofs.Sites.{request_of, fates, fates_both, none_first, Site, StandsIn, only_op, below}
use Rattle.laws_commit.proofs.Sites.{at_place, Second, second_of}
use Rattle.laws_commit.proofs.Courses.{Reads, Breaks, Stays, Agrees, Refuses, Asked, Voted, Sends, Course, rest_forgets}
use Rattle.laws_commit.proofs.Courses.{each_sent}
use Rattle.laws_commit.proofs.OneOutcome.{after_no, after_yes, uncommitted}

-- a request of thread t with a number from `first` to below `last`
abbrev pub is_within : ℕ → ℕ → ℕ → Request → Bool
is_within t first last r = (r.thread == t) && (nat_le first r.number && nat_le (suc r.number) last)

abbrev Accounts : Type 0
Accounts = List (List ℕ × ℕ)

-- a request whose number is inside
pub inside : (t first last : ℕ) (r : Request) → r.thread ≡ t → first ≤ r.number → r.number < last
    → is_within t first last r ≡ true
inside t first last r own from below = search (arith, eq-eqb, nat_le, le-leb, r.thread, r.number)

-- ---- histories

pub moved_both : (accounts : Accounts) (passes : Request → Bool) (h g : History) (T : Tables)
    → moved accounts passes (h ++ g) T ≡ moved accounts passes h T +ℤ moved accounts passes g (tables_after h T)
moved_both accounts passes [] g T = sym (none_plus _)
moved_both accounts passes (r ∷ h) g T =
    let T1 : Tables = (next r.thread r.op T).0 in
    omega (arith, ints, moved_both accounts passes h g T1)

-- what is no Commit moves nothing
pub unmoving : (accounts : Accounts) (op : Op) (c : Code) (T : Tables) → is_commit op ≡ false
    → moved_by accounts op c T ≡ pos 0
unmoving accounts op c T e = grind (arith, and-false)

-- where each request that passes moves nothing, all do
moved_still : (accounts : Accounts) (passes : Request → Bool) (h : History) (T : Tables)
    → All (λ r. passes r ≡ true → (c : Code) (U : Tables) → moved_by accounts r.op c U ≡ pos 0) h
    → moved accounts passes h T ≡ pos 0
moved_still accounts passes [] T still = refl
moved_still accounts passes (r ∷ h) T still =
    let a : TablesAndCode = next r.thread r.op T in
    let first : (if passes r then moved_by accounts r.op a.1 T else pos 0) ≡ pos 0 =
    by_if (λ v. v ≡ pos 0) (passes r) (moved_by accounts r.op a.1 T) (pos 0) (λ e. still 0 r (omega arith) e a.1 T)
    (λ _. refl) in
    λ i. first i +ℤ moved_still accounts passes h a.0 (λ k d lt. still (suc k) d (omega arith)) i

pub moved_without : (accounts : Accounts) (passes : Request → Bool) (h : History) (T : Tables)
    → All (λ r. passes r ≡ true → is_commit r.op ≡ false) h
    → moved accounts passes h T ≡ pos 0
moved_without accounts passes h T none =
    moved_still accounts passes h T (λ k d lt e c U. unmoving accounts (get_or h k d).op c U (none k d lt e))

-- tests that agree pass the same
pub moved_alike : (accounts : Accounts) (p q : Request → Bool) (h : History) (T : Tables) → All (λ r. p r ≡ q r) h
    → moved accounts p h T ≡ moved accounts q h T
moved_alike accounts p q [] T same = refl
moved_alike accounts p q (r ∷ h) T same =
    let T1 : Tables = (next r.thread r.op T).0 in
    λ i. (if same 0 r (omega arith) i then moved_by accounts r.op (next r.thread r.op T).1 T else pos 0) +ℤ moved_alike
    accounts p q h T1 (λ k d lt. same (suc k) d (omega arith)) i

-- accounts that aren't there are worth nothing
pub moved_nothing : (passes : Request → Bool) (h : History) (T : Tables) → moved [] passes h T ≡ pos 0
moved_nothing passes h T = search (arith, moved_still)

-- what no Commit of before or after it adds to
pub moved_at : (accounts : Accounts) (passes : Request → Bool) (before after : History) (r : Request) (T : Tables)
    → All (λ q. passes q ≡ true → is_commit q.op ≡ false) before → passes r ≡ true
    → All (λ q. passes q ≡ true → is_commit q.op ≡ false) after
    → moved accounts passes (before ++ r ∷ after) T ≡ moved_by accounts r.op
    (next r.thread r.op (tables_after before T)).1 (tables_after before T)
moved_at accounts passes before after r T none here later =
    search (arith, moved_both, moved_without, none_plus, plus_none, r.op, r.thread)

-- ranges of numbers
either_range : (own : Bool) (a b : ℕ) (n : ℕ) (v : ℤ) → a ≤ b
    → (if own && (nat_le 0 n && nat_le (suc n) b) then v else pos 0)
    ≡ (if own && (nat_le 0 n && nat_le (suc n) a) then v else pos 0) +ℤ
    (if own && (nat_le a n && nat_le (suc n) b) then v else pos 0)
either_range own a b n v le = search (arith, nat_le, le-leb, lt-leb, leb-true, none_plus, leb-false, plus_none)

-- a range of numbers from 0 on may be parted
pub moved_parted : (accounts : Accounts) (t a b : ℕ) (h : History) (T : Tables) → a ≤ b
    → moved accounts (is_within t 0 b) h T ≡ moved accounts (is_within t 0 a) h T +ℤ moved accounts (is_within t a b) h
    T
moved_parted accounts t a b [] T le = refl
moved_parted accounts t a b (r ∷ h) T le =
    let T1 : Tables = (next r.thread r.op T).0 in
    let v : ℤ = moved_by accounts r.op (next r.thread r.op T).1 T in
    omega (arith, ints, either_range (r.thread == t) a b r.number v le, moved_parted accounts t a b h T1 le)

-- what a request within them is
pub within_parts : (t first last : ℕ) (r : Request) → is_within t first last r ≡ true
    → (r.thread ≡ t) × (first ≤ r.number) × (r.number < last)
within_parts t first last r e = search (arith, and_parts, nat_le, leb-true, eqb-true, r.number, r.thread)

module _ (t : ℕ) where
  -- what was taken before a request of the thread
  pub taken_is : (n : ℕ) (before after : History) (r : Request) → r.thread ≡ t → r.number ≡ n
      → ((k : ℕ) (d : Request) → k < length before → (get_or before k d).thread ≡ t → (get_or before k d).number < n)
      → taken_before t n (before ++ r ∷ after) ≡ before
  taken_is n [] after r own number below = search (arith, eq-eqb)
  taken_is n (q ∷ before) after r own number below =
      let other : ((q.thread == t) && (q.number == n)) ≡ false = false_from_ne_true ((q.thread == t) && (q.number == n))
      (λ e.
      let own = and_parts (q.thread == t) (q.number == n) e in
      let lt = below 0 q (omega arith) (eqb-true q.thread t own.0) in
      let same = eqb-true q.number n own.1 in omega (arith, lt, same)) in
      (λ i. if other i then [] else q ∷ taken_before t n (before ++ r ∷ after))
      ∙ ap (λ l. q ∷ l) (taken_is n before after r own number (λ k d lt. below (suc k) d (omega arith)))

-- ---- by the fates that a history makes

-- whether the first of these fates that ends the branch commits it; where none ends it, what comes later
abbrev pub commits_or : Bool → List Fate → Bool
commits_or later [] = later
commits_or later (f ∷ fs) = or_later (ending_of_fate f) (commits_or later fs)

pub commits_by : (later : Bool) (x : XidName) (h : History) (T : Tables)
    → commits_later later x (coded h T) ≡ commits_or later (fates x h T)
commits_by later x [] T = refl
commits_by later x (r ∷ h) T =
    let T1 : Tables = (next r.thread r.op T).0 in
    let o : Option Fate = fate_of x r.op (next r.thread r.op T).1 in
    grind (arith, commits_by later x h T1, commits_or, cons_option)

-- a history that doesn't end the branch decides nothing
commits_past : (later : Bool) (x : XidName) (h g : History) (T : Tables) → EndsNowhere x h T
    → commits_later later x (coded (h ++ g) T) ≡ commits_later later x (coded g (tables_after h T))
commits_past later x [] g T e = refl
commits_past later x (r ∷ h) g T e =
    let T1 : Tables = (next r.thread r.op T).0 in
    ap (λ o. or_later o (commits_later later x (coded (h ++ g) T1))) (e 0 (r, (next r.thread r.op T).1) (omega arith))
    ∙ commits_past later x h g T1 (λ k d lt. e (suc k) d (omega arith))

-- ---- one addition

-- its share is decided by what comes from the Prepare on
pub share_is : (x : XidName) (k : List ℕ) (d : ℤ) (t n : ℕ) (T : Tables) (H : History) (after : XidName → Bool)
    (add : IsAddition x k d t n T H) (fs : List Fate)
    → fates x (request_of t n (Prepare x) ∷ add.after) (tables_after (add.before ++ add.adding ∷ add.between) T) ≡ fs
    → share k after add.adding (add.between ++ prepare_of t n x ∷ add.after)
    (tables_after add.before T) ≡ (if commits_or (after x) fs then d else pos 0)
share_is x k d t n T H after add fs e =
    let here : Tables = tables_after add.before T in
    let U : Tables = (next add.adding.thread add.adding.op here).0 in
    let V : Tables = tables_after add.between U in
    let rest : History = request_of t n (Prepare x) ∷ add.after in
    let later : XidName → Bool = λ y. commits_later (after y) y (coded (add.between ++ rest) U) in
    let own : Option Association = association_of here add.adding.thread in
    let is : later x ≡ commits_or (after x) fs =
    search (arith, commits_past, commits_by, tables_after-append, add.between, add.before) in
    search (arith, Decides-key_eq, add.adding.thread, add.adding.op)

-- where it stands in a history
pub add_place : (x : XidName) (k : List ℕ) (d : ℤ) (t n : ℕ) (T : Tables) (H : History) (add : IsAddition x k d t n T H)
    → H ≡ (add.before ++ add.adding ∷ add.between) ++ request_of t n (Prepare x) ∷ add.after
add_place x k d t n T H add =
    add.place ∙ sym (append_assoc add.before (add.adding ∷ add.between) (request_of t n (Prepare x) ∷ add.after))

-- where no Commit names the branch none commits it
none_more : (x : XidName) (op : Op) (c : Code) (fs : List Fate) → (names x op ≡ true → is_commit op ≡ false)
    → commits_or false fs ≡ false
    → commits_or false (cons_option (fate_of x op c) fs) ≡ false
none_more x (Commit y one_phase) c fs none rest = grind (arith, commits_or, cons_option)
none_more x op c fs none rest = grind (arith, commits_or, cons_option)

commits_none : (x : XidName) (h : History) (T : Tables) → All (λ r. names x r.op ≡ true → is_commit r.op ≡ false) h
    → commits_or false (fates x h T) ≡ false
commits_none x [] T none = refl
commits_none x (r ∷ h) T none =
    none_more x r.op _ _ (none 0 r (omega arith))
    (commits_none x h (next r.thread r.op T).0 (λ k d lt. none (suc k) d (omega (arith, lt))))

-- what nowhere names it makes nothing of it
unnamed : (x : XidName) (h : History) (T : Tables) → NamesNowhere x h → fates x h T ≡ []
unnamed x [] T n = refl
unnamed x (r ∷ h) T n =
    none_first x r h T (unnamed_fate x r.op _ (n 0 r (omega arith)))
    (unnamed x h (next r.thread r.op T).0 (λ k d lt. n (suc k) d (omega (arith, lt))))

yes_writes : (commit : Bool) (c : Code) → is_read_only_ending (yes_ending commit (Some c)) ≡ false
yes_writes commit c = search (arith, after_yes, cases_Bool)

forget_plain : (op : Op) → is_forget op ≡ true → is_commit op ≡ false
forget_plain op e = grind arith

-- what a branch with this vote and this ending counts for, whose requests have the numbers from n to below `last`
pub record Counted (t : ℕ) (x : XidName) (T : Tables) (H : History) (n last : ℕ) (e : Ending) : Type 0 where
  pub counted : (k : List ℕ) (d : ℤ) (add : IsAddition x k d t n T H)
      → share k none_later add.adding (add.between ++ prepare_of t n x ∷ add.after)
      (tables_after add.before T) ≡ (if ends_committed e then d else pos 0)
  pub adders : (k : List ℕ) (d : ℤ) → IsAddition x k d t n T H → is_read_only_ending e ≡ false
  pub moves : (accounts : List (List ℕ × ℕ))
      → moved accounts (is_within t n last) H
      T ≡ (if ends_committed e then held_by accounts x (tables_after (taken_before t n H) T) else pos 0)
  pub reads : is_read_only_ending e ≡ true → (accounts : List (List ℕ × ℕ))
      → held_by accounts x (tables_after (taken_before t n H) T) ≡ pos 0

-- what was taken before a branch's Prepare, and that no request there has its number or a later one
pub taken : {t : ℕ} {T : Tables} {H : History} (site : Site t T H) (x : XidName) (n : ℕ) (vote : Code)
    (f : StandsIn t n (Prepare x) vote T H)
    → taken_before t n H ≡ f.before
taken {t} site x n vote f =
    ap (taken_before t n) f.place
    ∙ taken_is t n f.before f.after (request_of t n (Prepare x)) refl refl
    (below site n (Prepare x) f.before f.after f.place)

module _ {t : ℕ} {T : Tables} {H : History} (a : Asked t T H) (only : OnlyTheseName a.xid t a.number a.last H) where
  open a use {site, xid as x, number as n, last, vote}

  abbrev Goal : Ending → Type 0
  Goal e = Counted t x T H n last e

  -- what the branch holds at its Prepare
  abbrev held : List (List ℕ × ℕ) → ℤ
  held accounts = held_by accounts x (tables_after (taken_before t n H) T)

  abbrev Plain : Request → Type 0
  Plain r = r.thread ≡ t → n ≤ r.number → r.number < last → is_commit r.op ≡ false

  -- the vote on an addition isn't that of a branch that only read
  never_reads : Voted a → (k : List ℕ) (d : ℤ) → IsAddition x k d t n T H → vote ≢ RdOnly
  never_reads first k d add reads =
      let f : Voted a =
      at_place site n (Prepare x) vote first (add.before ++ add.adding ∷ add.between) add.after
      (add_place x k d t n T H add) in
      search (
        arith,
        tables_after-append,
        add.adding.thread,
        add.adding.op,
        add.between,
        add.before,
        add.adds,
        add.branch,
        add.answered,
      )

  -- where the call sent no Commit of it, and it only read where it voted so
  silent : All Plain H → (e : Ending) → ends_committed e ≡ false
      → (is_read_only_ending e ≡ true → Voted a × (vote ≡ RdOnly)) → Goal e
  silent none e not only_read = record {
    counted = λ k d add.
        let place = add_place x k d t n T H add in
        let no_commit : All (λ r. names x r.op ≡ true → is_commit r.op ≡ false)
        (request_of t n (Prepare x) ∷ add.after) =
        All-cons (λ (r : Request). names x r.op ≡ true → is_commit r.op ≡ false) (request_of t n (Prepare x)) add.after
        (λ _. refl) (λ j r lt named.
        let own =
        only (add.before ++ add.adding ∷ add.between) add.after (request_of t n (Prepare x)) place refl refl j r lt
        named in
        all_after Plain (add.before ++ add.adding ∷ add.between) (request_of t n (Prepare x)) add.after
        (rw place at none) j r lt own.thread own.from own.below) in
        share_is x k d t n T H none_later add _ refl ∙ ap (λ q. if q then d else pos 0)
        (commits_none x (request_of t n (Prepare x) ∷ add.after)
        (tables_after (add.before ++ add.adding ∷ add.between) T) no_commit ∙ sym not);
    adders = λ k d add. false_from_ne_true (is_read_only_ending e)
        (λ r. never_reads (only_read r).0 k d add (only_read r).1);
    moves = λ accounts.
        moved_without accounts (is_within t n last) H T
        (λ k d lt passes. let w = within_parts t n last (get_or H k d) passes in none k d lt w.0 w.1 w.2)
        ∙ ap (λ q. if q then held accounts else pos 0) (sym not);
    reads = λ r accounts.
        let f = (only_read r).0 in
        rw (taken site x n vote f)
        (site.law.reads accounts t x (tables_after f.before T) (sym f.code ∙ (only_read r).1));
  }

  unread : All Plain H → (e : Ending) → ends_committed e ≡ false → is_read_only_ending e ≡ false → Goal e
  unread none e not writes = silent none e not (λ r. absurd (both_ways (is_read_only_ending e) writes r))

  -- ---- its Commit

  module _ (agreed : vote ≡ Done) (c : Code) (z : Sends a (Commit x false) c) where
    module _ (f : Voted a) where
      abbrev s : Second site n (Prepare x) vote f (Commit x false) c
      s = second_of site n (Prepare x) vote f (Commit x false) c z.second

      abbrev now : Tables
      now = (next t (Prepare x) (tables_after f.before T)).0

      only_parts : All (λ q. names x q.op ≡ true → IsBetween t n last q)
          (s.mid ++ request_of t (suc n) (Commit x false) ∷ s.rest)
      only_parts = search (arith, request_of)

      quiet_mid : NamesNowhere x s.mid
      quiet_mid k d lt = false_from_ne_true (names x (get_or s.mid k d).op) (λ named.
          s.others k d lt (all_left (λ (q : Request). names x q.op ≡ true → IsBetween t n last q) s.mid
          (request_of t (suc n) (Commit x false) ∷ s.rest) only_parts k d lt named).thread)

      -- what is sent after it is no Commit
      rest_plain : All (λ q. q.thread ≡ t → q.number < last → is_commit q.op ≡ false) s.rest
      rest_plain k d lt own low =
          forget_plain (get_or s.rest k d).op (rest_forgets a (Commit x false) c z f s k d lt own low)

      counts : commits_or false
          (fates x (request_of t n (Prepare x) ∷ f.after) (tables_after f.before T)) ≡ ends_committed
          (yes_ending true (Some c))
      counts =
          let there : Tables = tables_after s.mid now in
          let left : Tables = (next t (Commit x false) there).0 in
          let rest_none : commits_or false (fates x s.rest left) ≡ false = commits_none x s.rest left (λ k d lt named.
          let own = all_after (λ (q : Request). names x q.op ≡ true → IsBetween t n last q) s.mid
          (request_of t (suc n) (Commit x false)) s.rest only_parts k d lt named in
          rest_plain k d lt own.thread own.below) in
          let voted : fate_of x (Prepare x) (next t (Prepare x) (tables_after f.before T)).1 ≡ Some history.InDoubt = ap
          (fate_of x (Prepare x))
          (sym f.code ∙ agreed) ∙ at_true (xid_eq x x) _ None (xid_self x) in
          let made : fate_of x (Commit x false) (next t (Commit x false) there).1 ≡ commit_fate c = at_true (xid_eq x x)
          _ None (xid_self x)
          ∙ ap commit_fate (sym s.code) in
          let after : fates x f.after now ≡ cons_option (commit_fate c) (fates x s.rest left) =
          ap (λ (h : History). fates x h now) s.split
          ∙ fates_both x s.mid (request_of t (suc n) (Commit x false) ∷ s.rest) now
          ∙ (λ i. unnamed x s.mid now quiet_mid i ++ cons_option (made i) (fates x s.rest left)) in
          (λ i. commits_or false (cons_option (voted i) (after i))) ∙ (grind (arith, commits_or, cons_option))

      -- the call's requests move what it moves, and the branch holds there what it held at its Prepare
      moves_it : (accounts : List (List ℕ × ℕ))
          → moved accounts (is_within t n last) H T ≡ (if is_done c then held accounts else pos 0)
      moves_it accounts =
          let there : Tables = tables_after s.mid now in
          let before : History = f.before ++ request_of t n (Prepare x) ∷ s.mid in
          let keeps : held_by accounts x there ≡ held accounts =
          site.law.keeps accounts t x f.before s.mid T site.opening (sym f.code ∙ agreed) quiet_mid
          ∙ ap (λ (h : History). held_by accounts x (tables_after h T)) (sym (taken site x n vote f)) in
          ap (λ (h : History). moved accounts (is_within t n last) h T) s.place
          ∙ moved_at accounts (is_within t n last) before s.rest (request_of t (suc n) (Commit x false)) T
          (λ k d lt passes.
          let w = within_parts t n last (get_or before k d) passes in
          let low = below site (suc n) (Commit x false) before s.rest s.place k d lt w.0 in
          ap is_commit
          (all_left (λ (q : Request). q.thread ≡ t → q.number ≡ n → q.op ≡ Prepare x) before
          (request_of t (suc n) (Commit x false) ∷ s.rest)
          (rw s.place at (only_op site n (Prepare x) vote f)) k d lt w.0 (omega (arith, low, w.1))))
          (inside t n last (request_of t (suc n) (Commit x false)) refl (omega arith)
          (let more = z.more in omega (arith, more)))
          (λ k d lt passes. let w = within_parts t n last (get_or s.rest k d) passes in rest_plain k d lt w.0 w.2)
          ∙ ap (λ (V : Tables). moved_by accounts (Commit x false) (next t (Commit x false) V).1 V) s.there_is ∙ ap
          (λ d. moved_by accounts (Commit x false) d there) (sym s.code)
          ∙ ap (λ v. if is_done c then v else pos 0) keeps

    committing : Goal (yes_ending true (Some c))
    committing =
        let writes = yes_writes true c in
        record {
          counted = λ k d add.
              share_is x k d t n T H none_later add _ refl
              ∙ ap (λ q. if q then d else pos 0)
              (counts (at_place site n (Prepare x) vote z.first (add.before ++ add.adding ∷ add.between) add.after
              (add_place x k d t n T H add)));
          adders = λ k d add. writes;
          moves = search (arith, moves_it);
          reads = λ r. absurd (both_ways (is_read_only_ending (yes_ending true (Some c))) writes r);
        }

  by_course : {commit : Bool} {e : Ending} → Course a commit e
      → ((is_yes vote ≡ true → is_commit (outcome_op commit x) ≡ false) → All Plain H) → Goal e
  by_course (Stays c y own) none = unread (none (λ d. cc)) (Left c) refl refl
  by_course (Reads r z) none =
      silent (none (λ d. absurd (both_ways (is_yes vote) (ap is_yes r) d))) ReadOnly refl (λ _. (z.first, r))
  by_course (Breaks y k z) none = unread (none (λ d. cc)) RolledBack refl refl
  by_course {commit = true} (Agrees c y z) none = committing y c z
  by_course {commit = false} (Agrees c y z) none =
      unread (none (λ _. refl)) (yes_ending false (Some c)) (uncommitted Done (Some c)) (yes_writes false c)
  by_course (Refuses c y z) none =
      unread (none (λ d. cc)) (no_ending vote (Some c)) (search (arith, after_no)) (search (arith, after_no))

-- what a branch of a commit that nobody else named counts for
pub branch_counts : {t : ℕ} {T : Tables} {H : History} {a : Asked t T H} {commit : Bool} {ending : Ending}
    → Course a commit ending
    → OnlyTheseName a.xid t a.number a.last H → Counted t a.xid T H a.number a.last ending
branch_counts {a = a} {commit = commit} course only =
    by_course a only course
    (λ agrees. each_sent a commit (λ op. is_commit op ≡ false) refl refl forget_plain agrees course)
