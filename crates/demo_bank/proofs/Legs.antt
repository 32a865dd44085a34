-- The work of a transfer's two legs: each has one addition, and a leg that worked has added its delta by the place of
-- its branch's Prepare.
use Rattle.xa_base.proofs.{◌≡◌, ◌≢◌, ℕ, ◌+◌, List, [], ◌∷◌, ◌++◌, length, arith, eq-eqb, range_with_len, ne_eqb, all_at}
use Rattle.xa_base.proofs.{ℤ, pos, if◌then◌else◌, suc, true, false, ◌&&◌, ◌==◌, length-append, append_assoc, get_or}
use Rattle.xa_base.proofs.{slice_get, sym, refl, ap, ◌∙◌, Some, ◌≤◌, All, All-head, ◌<◌, eqb-true, and_parts}
use Rattle.xa_base.proofs.{false_from_ne_true, append-nil, All-tail, filter-append, some_same, all_left, all_right}
use Rattle.xa_words.specs.{Done as Ok_, Op, Start, Add, End, Fresh, Success, XidName, Done, Request, Code}
use Rattle.xa_desk.specs.{LedgerView, ledger, numbered}
use Rattle.xa_work.specs.{Change, HasDoneWork, HaveWorked, changes_at}
use Rattle.demo_bank.specs.{Leg, branches_of_legs, change_of, changes_of}
use Rattle.laws_tables.specs.{request, LeavesAtWork, DoesWork, AddsAsItWorks}
use Rattle.laws_tables.proofs.UnnamedLaw.{tables_after-append}
use Rattle.xa_tables.specs.{Tables, next, of_thread, tables_after, coded, IsOpening, names, NamesNowhere, added_by_now}
use Rattle.xa_tables.specs.{History}
use Rattle.xa_base.specs.{Begins}
use Rattle.xa_worker.specs.{Entry}
use Rattle.xa_switch.specs.{Settling, IsSettled, sent, journal, answers, IsOpenedWith, history, ledgers_of}
use Rattle.laws_commit.specs.{taken_before, IsBetween}
use Rattle.laws_commit.proofs.Sites.{all_earlier, request_of, Parted, part, all_others, answer_at, numbered_both}
use Rattle.laws_commit.proofs.Values.{taken_is}
use Rattle.laws_commit.proofs.Settled.{by_ledger}
use Rattle.xa_driver.proofs.Requests.{numbered_length}
use Rattle.demo_bank.proofs.Named.{NamedWithin}

-- ---- the work of a transfer's two legs: each has one addition

-- a leg, for laws of other crates
abbrev pub AnyLeg : Type 0
AnyLeg = Leg

-- the leg's requests
abbrev pub leg_work : Leg → List ℕ → List Op
leg_work leg k = Start leg.branch.xid Fresh ∷ Add k leg.delta ∷ End leg.branch.xid Success ∷ []

-- The leg's start, its addition to account k and its end were sent to its store, one after the other, and each was
-- collected with XA_OK.
pub record LegWorked (leg : Leg) (k : List ℕ) (a a' : LedgerView) : Type 0 where
  pub sent : a'.sent ≡ a.sent ++ leg_work leg k
  pub collected : a'.collected ≡ a.collected ++ (length a.sent, Ok_) ∷ (length a.sent + 1, Ok_)
      ∷ (length a.sent + 2, Ok_) ∷ []

one_change : (leg : Leg) (k : List ℕ) (cs : List Change) (a a' : LedgerView)
    → changes_at cs leg.branch.m ≡ change_of leg k ∷ []
    → HasDoneWork cs leg.branch a a' → LegWorked leg k a a'
one_change leg k cs a a' one its = search (arith, range_with_len, leg.branch.xid, a.sent)

module _ (one two : Leg) (k : List ℕ) (apart : one.branch.m ≢ two.branch.m) where
  first_change : changes_at (changes_of one two k) one.branch.m ≡ change_of one k ∷ []
  first_change = grind (arith, eq-eqb, ne_eqb)

  second_change : changes_at (changes_of one two k) two.branch.m ≡ change_of two k ∷ []
  second_change = grind (arith, ne_eqb, eq-eqb)

  -- both legs worked
  pub legs_worked : (old new : List LedgerView) → HaveWorked (changes_of one two k) (branches_of_legs one two) old new
      → LegWorked one k (ledger old one.branch.m) (ledger new one.branch.m) × LegWorked two k (ledger old two.branch.m)
      (ledger new two.branch.m)
  legs_worked old new w = search (arith, all_at, one_change, first_change, second_change, w.each)

-- ---- what was taken before a request of the thread

pub record Taken (t n : ℕ) (ops : List Op) (last : ℕ) (h : History) : Type 0 where
  pub rest : History
  pub place : h ≡ taken_before t last h ++ rest
  pub own : of_thread t (taken_before t last h) ≡ numbered t n ops

-- where none of the thread's has this number all were taken
all_before : (t last : ℕ) (h : History) → All (λ r. r.thread ≡ t → r.number < last) h → taken_before t last h ≡ h
all_before t last [] low = refl
all_before t last (q ∷ h) low =
    let P : Request → Type 0 = λ r. r.thread ≡ t → r.number < last in
    let other : ((q.thread == t) && (q.number == last)) ≡ false = false_from_ne_true
    ((q.thread == t) && (q.number == last)) (λ e.
    let both = and_parts (q.thread == t) (q.number == last) e in
    let lt = All-head P q h low (eqb-true q.thread t both.0) in
    let same = eqb-true q.number last both.1 in omega (arith, lt, same)) in
    (λ i. if other i then [] else q ∷ taken_before t last h)
    ∙ ap (λ l. q ∷ l) (all_before t last h (All-tail P q h low))

pub taken : (t : ℕ) (h : History) (n : ℕ) (ops more : List Op) (last : ℕ) → last ≡ n + length ops
    → of_thread t h ≡ numbered t n (ops ++ more)
    → Taken t n ops last h
taken t h n ops [] last is e =
    let all : of_thread t h ≡ numbered t n ops = e ∙ ap (numbered t n) (append-nil ops) in
    let whole = all_before t last h (rw is (all_earlier t h n ops all)) in
    record { rest = []; place = sym (append-nil (taken_before t last h) ∙ whole); own = ap (of_thread t) whole ∙ all }
taken t h n ops (op ∷ more) last is e =
    let p =
    part t h (numbered t n ops) (numbered t (suc (n + length ops)) more) (request_of t (n + length ops) op)
    (e ∙ numbered_both t n ops (op ∷ more)) in
    let before = taken_is t last p.before p.after (request_of t (n + length ops) op) refl (sym is)
    (rw is (all_earlier t p.before n ops p.earlier)) in
    let same : taken_before t last h ≡ p.before = ap (taken_before t last) p.place ∙ before in
    record {
      rest = request_of t (n + length ops) op ∷ p.after;
      place = p.place ∙ sym (ap (λ l. l ++ request_of t (n + length ops) op ∷ p.after) same);
      own = ap (of_thread t) same ∙ p.earlier;
    }

-- ---- what a request was answered

code_is : (t : ℕ) (before after : History) (r : Request) (T : Tables) (entries : List Entry) (a : ℕ) (c : Code)
    → entries ≡ coded (before ++ r ∷ after) T
    → r.thread ≡ t → length (of_thread t before) ≡ a
    → slice_get (answers t entries) a ≡ Some (a, c) → (next r.thread r.op (tables_after before T)).1 ≡ c
code_is t before after r T entries a c is own count got = grind (arith, own, answer_at, slice_get, some_same)

-- what a leg's work was answered, that was collected with XA_OK
pub work_answered : (s : Settling) → IsSettled s → (t m : ℕ) → 1 ≤ m
    → (leg : Leg) (account : List ℕ) (a0 a1 : LedgerView) → LegWorked leg account a0 a1
    → Begins a1.collected (ledger (ledgers_of s t) m).collected
    → (slice_get (answers t (journal s m)) (length a0.sent) ≡ Some (length a0.sent, Done))
    × (slice_get (answers t (journal s m)) (length a0.sent + 1) ≡ Some (length a0.sent + 1, Done))
work_answered s settled t m positive leg account a0 a1 its since =
    let P : ℕ × Code → Type 0 = λ q. slice_get (answers t (journal s m)) q.0 ≡ Some q in
    let n : ℕ = length a0.sent in
    let rest : List (ℕ × Code) = (n + 2, Done) ∷ since.0 in
    let all : All P ((n, Done) ∷ (n + 1, Done) ∷ rest) =
    all_right P a0.collected ((n, Done) ∷ (n + 1, Done) ∷ rest)
    (rw (by_ledger (ledgers_of s t) m (λ (a : LedgerView). a.collected) positive refl ∙ since.1
    ∙ ap (λ l. l ++ since.0) its.collected
    ∙ append_assoc a0.collected ((n, Done) ∷ (n + 1, Done) ∷ (n + 2, Done) ∷ []) since.0) at
    (settled.agree t m).coded) in (
      All-head P (n, Done) ((n + 1, Done) ∷ rest) all,
      All-head P (n + 1, Done) rest
          (All-tail P (n, Done) ((n + 1, Done) ∷ rest) all),
    )

-- ---- a leg's work

module _ (s : Settling) (settled : IsSettled s) (t m b : ℕ) (T : Tables) (with_T : IsOpenedWith s m T) (x : XidName)
    (k : List ℕ) (d : ℤ) (pre rest : List Op)
    (last : ℕ) (many : last ≡ length pre + 3)
    (split : sent s t m ≡ (pre ++ Start x Fresh ∷ Add k d ∷ End x Success ∷ []) ++ rest)
    (named : NamedWithin s m x t (length pre) b)
    (started : slice_get (answers t (journal s m)) (length pre) ≡ Some (length pre, Done))
    (added : slice_get (answers t (journal s m)) (length pre + 1) ≡ Some (length pre + 1, Done)) where
  abbrev H : History
  H = history s m

  abbrev a : ℕ
  a = length pre

  abbrev work : List Op
  work = Start x Fresh ∷ Add k d ∷ End x Success ∷ []

  abbrev r1 : Request
  r1 = request t (length pre) (Start x Fresh)

  abbrev r2 : Request
  r2 = request t (length pre + 1) (Add k d)

  abbrev r3 : Request
  r3 = request t (length pre + 2) (End x Success)

  abbrev R : Request → Type 0
  R q = names x q.op ≡ true → IsBetween t (length pre) b q

  all_taken : Taken t 0 (pre ++ work) last H
  all_taken = search (arith, taken, length-append)

  abbrev P : History
  P = taken_before t last H

  three : (n : ℕ) → n ≡ length pre → numbered t n work ≡ r1 ∷ r2 ∷ r3 ∷ []
  three n e = grind arith

  own : of_thread t P ≡ numbered t 0 pre ++ r1 ∷ r2 ∷ r3 ∷ []
  own =
      all_taken.own ∙ numbered_both t 0 pre work
      ∙ ap (λ l. numbered t 0 pre ++ l) (three (0 + length pre) (omega arith))

  first : Parted t (numbered t 0 pre) (r2 ∷ r3 ∷ []) r1 P
  first = part t P (numbered t 0 pre) (r2 ∷ r3 ∷ []) r1 own

  second : Parted t [] (r3 ∷ []) r2 first.after
  second = part t first.after [] (r3 ∷ []) r2 first.later

  third : Parted t [] [] r3 second.after
  third = part t second.after [] [] r3 second.later

  -- ---- who names the branch

  within : All R P
  within = all_left R P all_taken.rest (rw all_taken.place at named)

  around : All R (first.before ++ r1 ∷ first.after)
  around = rw first.place at within

  around2 : All R (second.before ++ r2 ∷ second.after)
  around2 = rw second.place at (All-tail R r1 first.after (all_right R first.before (r1 ∷ first.after) around))

  around3 : All R (third.before ++ r3 ∷ third.after)
  around3 = rw third.place at (All-tail R r2 second.after (all_right R second.before (r2 ∷ second.after) around2))

  unless_named : (q : Request) → (names x q.op ≡ true → ⊥) → names x q.op ≡ false
  unless_named q never =
      elim (names x q.op) as (λ v. names x q.op ≡ v → v ≡ false) [ true ↦ λ e. absurd (never e) | false ↦ λ e. refl ]
      refl

  before_it : NamesNowhere x first.before
  before_it i q lt =
      unless_named (get_or first.before i q) (λ e.
      let z = all_left R first.before (r1 ∷ first.after) around i q lt e in
      let low = all_earlier t first.before 0 pre first.earlier i q lt z.thread in
      omega (arith, low, z.from))

  quietly : (h : History) → All R h → of_thread t h ≡ [] → LeavesAtWork t x h
  quietly h all quiet = search (arith, unless_named, all_others)

  -- ---- what was answered

  whole : H ≡ first.before ++ r1 ∷ (first.after ++ all_taken.rest)
  whole =
      all_taken.place ∙ ap (λ l. l ++ all_taken.rest) first.place
      ∙ append_assoc first.before (r1 ∷ first.after) all_taken.rest

  begun : (next t (Start x Fresh) (tables_after first.before T)).1 ≡ Done
  begun =
      code_is t first.before (first.after ++ all_taken.rest) r1 T (journal s m) (length pre) Done
      (with_T.codes ∙ ap (λ (h : History). coded h T) whole) refl
      (ap length first.earlier ∙ numbered_length t 0 pre) started

  whole2 : H ≡ (first.before ++ r1 ∷ second.before) ++ r2 ∷ (second.after ++ all_taken.rest)
  whole2 = grind (arith, whole, first, all_taken, second, append_assoc)

  count2 : length (of_thread t (first.before ++ r1 ∷ second.before)) ≡ length pre + 1
  count2 = grind (arith, first, second, filter-append, eq-eqb, length-append, numbered_length)

  adds : (next t (Add k d)
      (tables_after second.before (next t (Start x Fresh) (tables_after first.before T)).0)).1 ≡ Done
  adds =
      ap (λ (U : Tables). (next t (Add k d) U).1) (sym (tables_after-append first.before (r1 ∷ second.before) T))
      ∙ code_is t (first.before ++ r1 ∷ second.before) (second.after ++ all_taken.rest) r2 T (journal s m)
      (length pre + 1) Done (with_T.codes ∙ ap (λ (h : History). coded h T) whole2) refl count2 added

  pub work_done : DoesWork t (length pre) x k d T P
  work_done = record {
    before = first.before;
    begun = second.before;
    added = third.before;
    after = third.after;
    place = first.place
        ∙ ap (λ l. first.before ++ r1 ∷ l) (second.place ∙ ap (λ l. second.before ++ r2 ∷ l) third.place);
    starts = begun;
    adds = adds;
    unnamed = before_it;
    at_work = quietly second.before (all_left R second.before (r2 ∷ second.after) around2) second.earlier;
    ending = quietly third.before (all_left R third.before (r3 ∷ third.after) around3) third.earlier;
    ended = quietly third.after (All-tail R r3 third.after (all_right R third.before (r3 ∷ third.after) around3))
        third.later;
  }

  -- so it has added d by then
  pub leg_adds : ((t n : ℕ) (x : XidName) (k : List ℕ) (d : ℤ) (h : History) (T : Tables) → IsOpening T
      → AddsAsItWorks t n x k d T h)
      → added_by_now x (pos 0) (taken_before t last H) T ≡ d
  leg_adds law = law t (length pre) x k d P T with_T.opened work_done
