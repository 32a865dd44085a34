-- How what is left is resolved: one request alone, branches one after another, and managers one after another.
use Rattle.xa_base.proofs.{◌≡◌, ℕ, ◌+◌, ◌-◌, ◌≤◌, true, false, Some, None, List, length, refl, sym, ap, ◌∙◌, arith}
use Rattle.xa_base.proofs.{length-append, nat_lt, option_or, eqb-false, ne_eqb, or_parts, or_from, at_false, ◌≢◌, zero}
use Rattle.xa_base.proofs.{suc, ◌*◌, ◌==◌, if◌then◌else◌, [], ◌∷◌, ◌++◌, append-nil, inl, inr, flat_map, range_with_len}
use Rattle.xa_base.proofs.{cases_eq, eq-eqb, range_more, at_true, ltb-false, le-ltb, flat_map-append}
use Rattle.xa_words.specs.{Code, Op, XidName}
use Rattle.xa_desk.specs.{learnt_shut, with_sent, with_collected, IsKnown, ledger, put_ledger, next_operation, room_at}
use Rattle.xa_desk.specs.{call_refusal, AllKept, submitted, after_fulls, Collects, LedgerView, DeskView, GoesOn}
use Rattle.xa_desk.proofs.Ledgers.{known_by, ledger-put_same}
use Rattle.std.proofs.lemmas.List.{set-set}
use Rattle.xa_calls.proofs.Kept.{answered_keep, fulls_kept, fulls_ledgers}
use Rattle.xa_driver.specs.{asked, AsksLedger, AsksAlone, KeepsTheRest, Outcome, Resolves, ResolvesAt, ResolvesThese}
use Rattle.xa_driver.specs.{left_up_to, requests_for}
use Rattle.xa_driver.proofs.Requests.{Moved, put_moved, keeps_start, keeps_chain, open_asked, moved_leaves}
use Rattle.xa_driver.proofs.Requests.{outstanding_chain, tickets_stay, asked_leaves}
use Rattle.std.specs.List.{sum_by}
use Rattle.std.proofs.lemmas.List.Sums.{sum_by_push}
use Rattle.xa_calls.specs.Scans.{Asking}
use Rattle.xa_scan.specs.{ScanView, left_at}
use Rattle.xa_log.specs.{Records}

-- ---- what isn't refused

-- a manager with room for a request is one of the desk's
pub known_with_room : (at : List LedgerView) (m : ℕ) → 1 ≤ room_at at m → IsKnown at m
known_with_room at m room = search (arith, nat_lt, or_parts, eqb-false, ltb-false)

-- how much room it has
pub room_is : (at : List LedgerView) (m : ℕ) → IsKnown at m
    → room_at at m ≡ (ledger at m).plan - length (ledger at m).sent
room_is at m known = grind (arith, at_false, nat_lt, or_from, ne_eqb, le-ltb)

-- a desk that refuses nothing hasn't learnt that the manager is shut
open_where_answered : (d : DeskView) (m : ℕ) → call_refusal d m ≡ None → learnt_shut (ledger d.ledgers m) ≡ false
open_where_answered d m none = grind (arith, option_or)

-- ---- what a request leaves

module _ (m : ℕ) (op : Op) (code : Code) (old new : DeskView) (known : IsKnown old.ledgers m) where
  abbrev a : LedgerView
  a = ledger old.ledgers m

  -- it was put, and its completion was collected
  pub called_moved : (n : ℕ) → learnt_shut a ≡ false
      → Collects (submitted (after_fulls n old m) m op) new (next_operation old.ledgers m) code → GoesOn old new
      → Moved m (asked a (Some op) (Some code)) old new
  called_moved n open_ x goes =
      let sent : LedgerView = with_sent a op in
      let mid : List LedgerView = put_ledger old.ledgers m sent in
      let whole : LedgerView = with_collected sent (length a.sent) code in
      let before : x.before.ledgers ≡ mid = search (arith, fulls_ledgers) in
      let written : new.ledgers ≡ put_ledger old.ledgers m whole = search (arith, ledger-put_same, set-set) in
      rw (at_false (learnt_shut a) a whole open_) (put_moved m whole old new known written (record {
        goes_on = goes;
        kept = ap (λ (d : DeskView). d.kept) x.collected ∙ ap (λ (d : DeskView). d.kept) x.looks.rest
            ∙ fulls_kept n old m;
      }))

  -- so it leaves alone all else
  pub moved_alone : Moved m (asked a (Some op) (Some code)) old new → (AllKept old → AllKept new) → AsksAlone m old new
  moved_alone is all = record {
    others = is.others;
    managers = is.managers;
    keeps = is.keeps;
    left = moved_leaves m (asked a (Some op) (Some code)) old new is (λ n. asked_leaves n a (Some op) (Some code));
    free = let moved = is.open_ in let same = open_asked a (Some op) (Some code) in omega (arith, moved, same);
    all = all;
  }

  -- and the manager has room for one less
  pub moved_room : Moved m (asked a (Some op) (Some code)) old new → room_at old.ledgers m ≤ room_at new.ledgers m + 1
  moved_room is = grind (arith, room_is, known_by, length-append)

-- what a call does that was answered
pub record Called (m : ℕ) (op : Op) (code : Code) (old new : DeskView) : Type 0 where
  pub asked_ : AsksLedger (ledger old.ledgers m) op (ledger new.ledgers m) code
  pub alone : AsksAlone m old new
  pub room : room_at old.ledgers m ≤ room_at new.ledgers m + 1

pub call_answered : (m n : ℕ) (op : Op) (code : Code) (old new : DeskView) → 1 ≤ room_at old.ledgers m
    → call_refusal old m ≡ None
    → Collects (submitted (after_fulls n old m) m op) new (next_operation old.ledgers m) code → GoesOn old new
    → Called m op code old new
call_answered m n op code old new room none x goes =
    let known = known_with_room old.ledgers m room in
    let open_ = open_where_answered old m none in
    let moved = called_moved m op code old new known n open_ x goes in
    record {
      asked_ = record { answered = λ shut. let bad : true ≡ false = sym shut ∙ open_ in cc; trace = moved.here };
      alone = moved_alone m op code old new known moved
          (answered_keep old (after_fulls n old m) new m op code (fulls_ledgers n old m) (fulls_kept n old m) known x);
      room = moved_room m op code old new known moved;
    }

-- ---- one after another

pub alone_start : (m : ℕ) (d : DeskView) → AsksAlone m d d
alone_start m d =
    record {
      others = λ n p q. refl;
      managers = refl;
      keeps = keeps_start d;
      left = λ o out. out;
      free = refl;
      all = λ all. all;
    }

-- and it keeps the rest
pub alone_rest : (m : ℕ) (old new : DeskView) → AsksAlone m old new → KeepsTheRest old new
alone_rest m old new is = search (arith, tickets_stay, is.keeps)

pub alone_chain : (m : ℕ) (old mid new : DeskView) → AsksAlone m old mid → AsksAlone m mid new → AsksAlone m old new
alone_chain m old mid new p q = search (arith, keeps_chain, outstanding_chain)

-- ---- a manager at which some are left

pub requests_there : (xs : List XidName) → length xs ≢ 0 → requests_for xs ≡ 1 + 2 * length xs
requests_there xs some = grind arith

-- there is a request for each
pub left_few : (xs : List XidName) (n : ℕ) → requests_for xs ≤ n → length xs ≤ n
left_few xs n few = grind arith

pub resolves_there : {D : Type 0} (asking : Asking D) (records : Records) (m : ℕ) (xs : List XidName)
    (os : List Outcome) (a a' : D)
    → length xs ≢ 0
    → ResolvesThese asking records m xs os a a' → ResolvesAt asking records m xs os a a'
resolves_there asking records m [] os a a' some is = absurd (some refl)
resolves_there asking records m (x ∷ xs) os a a' some is = is

-- ---- managers one after another

-- one more manager
pub left_more : (z : ScanView) (n : ℕ) → left_up_to z (n + 1) ≡ left_up_to z n + length (left_at z (n + 1))
left_more z n =
    ap (sum_by (λ m. length (left_at z m))) (range_more n)
    ∙ sum_by_push (λ m. length (left_at z m)) (range_with_len 1 n) (n + 1)

-- no fewer are left at more managers
pub left_within : (z : ScanView) (n most : ℕ) → n ≤ most → left_up_to z n ≤ left_up_to z most
left_within z n zero low = let none : n ≡ 0 = omega (arith, low) in rw none (omega arith)
left_within z n (suc most) low = elim (cases_eq n (suc most)) [
  | inl same ↦ rw same (omega arith)
  | inr less ↦
      let before = left_within z n most (omega (arith, low, less)) in
      let one : suc most ≡ most + 1 = omega arith in
      let more = ap (left_up_to z) one ∙ left_more z most in omega (arith, before, more)
]

lists_more : (f : ℕ → List Outcome) (n : ℕ)
    → flat_map f (range_with_len 1 (n + 1)) ≡ flat_map f (range_with_len 1 n) ++ f (n + 1)
lists_more f n = grind (arith, flat_map, range_more, flat_map-append, range_with_len, append-nil)

lists_same : (f g : ℕ → List Outcome) (n : ℕ) → ((m : ℕ) → m ≤ n → f m ≡ g m)
    → flat_map f (range_with_len 1 n) ≡ flat_map g (range_with_len 1 n)
lists_same f g zero same = refl
lists_same f g (suc n) same =
    let next_one : suc n ≡ n + 1 = omega arith in
    ap (λ k. flat_map f (range_with_len 1 k)) next_one ∙ lists_more f n
    ∙ (λ i. lists_same f g n (λ m low. same m (omega (arith, low))) i ++ same (n + 1) (omega arith) i)
    ∙ sym (lists_more g n) ∙ ap (λ k. flat_map g (range_with_len 1 k)) (sym next_one)

-- what the managers so far have come to, and that the others are as they were
abbrev pub SoFar : ScanView → Records → ℕ → List LedgerView → List LedgerView → List Outcome → Type 0
SoFar z records n old new outcomes = Resolves AsksLedger records z n (ledger old) (ledger new) outcomes

pub none_so_far : (z : ScanView) (records : Records) (at : List LedgerView) → SoFar z records 0 at at []
none_so_far z records at =
    record {
      at = λ m. [];
      outcomes_are = refl;
      each =
          λ m within. let low = within.0 in let high = within.1 in absurd (omega (arith, low, high));
      others = λ m above. refl;
    }

-- one more
pub one_more_so_far : (z : ScanView) (records : Records) (n : ℕ) (old mid new : List LedgerView)
    (outcomes outcomes' more : List Outcome)
    → SoFar z records n old mid outcomes → outcomes' ≡ outcomes ++ more
    → ResolvesAt AsksLedger records (n + 1) (left_at z (n + 1)) more (ledger mid (n + 1)) (ledger new (n + 1))
    → ((m : ℕ) → 1 ≤ m → m ≢ n + 1 → ledger new m ≡ ledger mid m) → SoFar z records (n + 1) old new outcomes'
one_more_so_far z records n old mid new outcomes outcomes' more is grown here others = record {
  at = at;
  outcomes_are =
      grown
      ∙ (λ i.
      (is.outcomes_are
      ∙ lists_same is.at at n
      (λ m low. sym
      (at_false (m == n + 1) more (is.at m) (ne_eqb m (n + 1) (λ e. absurd (omega (arith, low, e))))))) i ++ sym
      (at_true ((n + 1) == n + 1) more (is.at (n + 1)) (eq-eqb (n + 1) (n + 1) refl)) i)
      ∙ sym (lists_more at n);
  each = λ m within. elim (cases_eq m (n + 1)) [
    | inl same ↦ rw (same, at_true ((n + 1) == n + 1) more (is.at (n + 1)) (eq-eqb (n + 1) (n + 1) refl))
        (rw (is.others (n + 1) (omega arith)) at here)
    | inr differs ↦
        rw (at_false (m == n + 1) more (is.at m) (ne_eqb m (n + 1) differs), others m within.0 differs)
        (is.each m (within.0, omega (arith, within.1, differs)))
  ];
  others = λ m above. others m (omega (arith, above)) (λ e. absurd (omega (arith, above, e)))
      ∙ is.others m (omega (arith, above));
}
  where
    at : ℕ → List Outcome
    at m = if m == n + 1 then more else is.at m
