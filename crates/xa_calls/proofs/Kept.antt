-- What is outstanding stays kept under a number, as a desk calls and collects.
use Rattle.xa_base.proofs.{◌≡◌, ◌≢◌, ℕ, ◌+◌, ◌-◌, ◌<◌, ◌≤◌, ◌⊎◌, suc, false, true, nat_eq, List, [], ◌∷◌, length, sym}
use Rattle.xa_base.proofs.{refl, inl, inr, arith, length-append, slice_index_or, length-map, cases_eq, cases_Bool}
use Rattle.xa_base.proofs.{eqb-false, or_parts, sum_by, sum_by-cons, rules, ℤ, ⊎_elim, zero, Bool, Option, Some, None}
use Rattle.xa_base.proofs.{Result, Ok, Err, ap, ◌∙◌, nat_cmp, inserted_there, inserted_other, removed_other, not_both}
use Rattle.std.proofs.lemmas.Map.Steps.{le-length_from_below}
use Rattle.xa_words.specs.{Op, Code}
use Rattle.xa_desk.specs.{Operation, numbers, is_collected, with_sent, with_collected, IsKnown, IsOut, ledger}
use Rattle.xa_desk.specs.{no_ledger, after_sent, after_collected, next_operation, outstanding, LedgerView, is_known}
use Rattle.xa_desk.specs.{AllKept, HoldsNone, submitted, after_fulls, EndsQuiet, Collects, DeskView, GoesOn}
use Rattle.xa_desk.proofs.Ledgers.{same_operation, is_collected-push, ledger-put_same, ledger-put_other, known_before}
use Rattle.xa_desk.proofs.Ledgers.{known_is}
use Rattle.xa_calls.specs.{put_refusal, Puts, Calls, CallLeaves}
use Rattle.xa_calls.specs.Putting.Puts.{refused, full, kept, answered}
use Rattle.std.specs.FinMap as finmap

-- ---- what is outstanding as operations are sent and collected

-- what is outstanding after a sending is what was sent, or was outstanding before
pub out_sent : (at : List LedgerView) (m : ℕ) (op : Op) → IsKnown at m → (o : Operation) → IsOut (after_sent at m op) o
    → (o ≡ next_operation at m) ⊎ IsOut at o
out_sent at m op known o is =
    let k = known_before at m o.manager (with_sent (ledger at m) op) is.known in
    search (arith, cases_eq, ledger-put_same, same_operation, length-append, ledger-put_other, o.manager)

-- what is outstanding after a collection was outstanding, and wasn't collected
pub out_collected : (at : List LedgerView) (o : Operation) (code : Code) → IsKnown at o.manager → (p : Operation)
    → IsOut (after_collected at o code) p
    → IsOut at p × (p ≢ o)
out_collected at o code known p is =
    let a = with_collected (ledger at o.manager) o.number code in
    let k = known_before at o.manager p.manager a is.known in
    elim (cases_eq p.manager o.manager) [
      | inl same ↦ search (
        arith,
        ledger-put_same,
        or_parts,
        nat_eq,
        is_collected-push,
        eqb-false,
        o.manager,
        is.sent,
        is.open_,
        p.number,
        o.number,
      )
      | inr differs ↦ search (arith, ledger-put_other, o.manager, p.manager, known.positive, k.positive)
    ]

-- ---- where no operation is outstanding

-- each request was collected
abbrev AllCollected : LedgerView → Type 0
AllCollected a = (n : ℕ) → n < length a.sent → is_collected a n ≡ true

nothing_left : (a : LedgerView) → AllCollected a → length a.sent - length a.collected ≡ 0
nothing_left a all =
    let many : length a.sent ≤ length (numbers a) = le-length_from_below (numbers a) (length a.sent) all in
    let enough : length a.sent ≤ length a.collected = rw length-map at many in
    omega (arith, enough)

abbrev left_of : LedgerView → ℕ
left_of a = length a.sent - length a.collected

sum_none : (at : List LedgerView) → ((i : ℕ) → i < length at → AllCollected (slice_index_or at i no_ledger))
    → sum_by left_of at ≡ 0
sum_none [] all = refl
sum_none (a ∷ at) all =
    let first : left_of a ≡ 0 = nothing_left a (all 0 (omega arith)) in
    let rest : sum_by left_of at ≡ 0 = sum_none at (λ i below. all (suc i) (omega (arith, below))) in
    omega (arith, sum_by-cons left_of a at, first, rest)

pub none_outstanding : (at : List LedgerView) → ((o : Operation) → IsOut at o → ⊥) → outstanding at ≡ 0
none_outstanding at none = sum_none at (λ i below n within.
    let back : i + 1 - 1 ≡ i = omega arith in
    elim (cases_Bool (is_collected (slice_index_or at i no_ledger) n)) [
      | inl yes' ↦ yes'
      | inr no' ↦ absurd (none (record { manager = i + 1; number = n }) (record {
        known = record { positive = omega arith; within = omega (arith, below) };
        sent = rw back within;
        open_ = rw back no';
      }))
    ])

-- ---- what is kept under which number

abbrev pub Handles : Type 0
Handles = finmap.FinMap nat_cmp Operation

other_operation : (o : Option Operation) (p q : Operation) → o ≡ Some p → o ≡ Some q → q ≡ p
other_operation o p q e f = cc

-- ---- one desk

-- where the ledgers and what is kept stay
pub same_kept : (old new : DeskView) → new.ledgers ≡ old.ledgers → new.kept ≡ old.kept → AllKept old → AllKept new
same_kept old new ledgers handles all = search (arith, all.each)

pub quiet_same : (old new : DeskView) → EndsQuiet old new → (new.ledgers ≡ old.ledgers) × (new.kept ≡ old.kept)
quiet_same old new q = search (arith, rules)

-- where an operation is collected, and each other one that was outstanding was kept
collects_keep : (mid new : DeskView) (o : Operation) (c : Code) → Collects mid new o c
    → ((p : Operation) → IsOut mid.ledgers p → p ≢ o → (k : ℕ) × (finmap.get mid.kept k ≡ Some p)) → AllKept new
collects_keep mid new o c is rest = search (arith, out_collected, is.collected, is.before.ledgers, is.out.known)

-- an operation that is kept under the number is collected, and the number is free
pub freed_kept : (m : Handles) (k : ℕ) (o : Operation) → finmap.get m k ≡ Some o → (p : Operation) → p ≢ o
    → (j : ℕ) × (finmap.get m j ≡ Some p)
    → (j : ℕ) × (finmap.get (finmap.remove m k) j ≡ Some p)
freed_kept m k o at p differs j = elim (cases_eq j.0 k) [
  | inl same ↦ absurd (differs (other_operation (finmap.get m k) o p at (rw same at j.1)))
  | inr other ↦ (j.0, removed_other m k j.0 other ∙ j.1)
]

-- ---- putting

some_refusal : (d : DeskView) (m : ℕ) (b : Bool) → is_known d.ledgers m ≡ false → put_refusal d m b ≡ None → ⊥
some_refusal d m b missing e = search (arith, rules)

pub known_here : (d : DeskView) (m : ℕ) (b : Bool) → put_refusal d m b ≡ None → IsKnown d.ledgers m
known_here d m b e = search (arith, cases_Bool, known_is, some_refusal, d.ledgers)

pub fulls_ledgers : (n : ℕ) (d : DeskView) (m : ℕ) → (after_fulls n d m).ledgers ≡ d.ledgers
fulls_ledgers zero d m = refl
fulls_ledgers (suc n) d m = fulls_ledgers n d m

pub fulls_kept : (n : ℕ) (d : DeskView) (m : ℕ) → (after_fulls n d m).kept ≡ d.kept
fulls_kept zero d m = refl
fulls_kept (suc n) d m = fulls_kept n d m

-- an operation that is sent and kept
inserted_keep : (old : DeskView) (m : ℕ) (op : Op) (k : ℕ) → IsKnown old.ledgers m → finmap.get old.kept k ≡ None
    → AllKept old
    → AllKept (record (submitted old m op) { kept = finmap.insert old.kept k (next_operation old.ledgers m) })
inserted_keep old m op k known unkept all = record {
  each = λ p out.
      let next = next_operation old.ledgers m in
      ⊎_elim
      (λ (e : p ≡ next). (k, inserted_there old.kept k next ∙ ap (λ (o : Operation). Some o) (sym e)))
      (λ (before : IsOut old.ledgers p).
      let j = all.each p before in
      let differs : j.0 ≢ k = λ same. not_both (finmap.get old.kept k) p unkept (rw same at j.1) in
      (j.0, inserted_other old.kept k next j.0 differs ∙ j.1))
      (out_sent old.ledgers m op known p out);
}

-- an operation that is sent and collected
pub answered_keep : (old mid new : DeskView) (m : ℕ) (op : Op) (c : Code) → mid.ledgers ≡ old.ledgers
    → mid.kept ≡ old.kept → IsKnown old.ledgers m
    → Collects (submitted mid m op) new (next_operation old.ledgers m) c → AllKept old → AllKept new
answered_keep old mid new m op c ledgers handles known is all =
    collects_keep (submitted mid m op) new (next_operation old.ledgers m) c is (λ p out differs.
    ⊎_elim
    (λ (e : p ≡ next_operation mid.ledgers m). absurd
    (differs (e ∙ ap (λ (at : List LedgerView). next_operation at m) ledgers)))
    (λ (before : IsOut mid.ledgers p). (same_kept old mid ledgers handles all).each p before)
    (out_sent mid.ledgers m op (rw ledgers known) p out))

puts_keep : (old : DeskView) (m : ℕ) (asked : _) (new : DeskView) (n : ℤ) → Puts old m asked new n → AllKept old
    → AllKept new
puts_keep old m asked new n (refused c why told e) all = rw e all
puts_keep old m asked new n (full why async told e) all =
    same_kept old new (ap (λ (d : DeskView). d.ledgers) e) (ap (λ (d : DeskView). d.kept) e) all
puts_keep old m asked new n (kept why async k told is e) all =
    search (arith, inserted_keep, known_here, asked.op, asked.asynchronous, is.free)
puts_keep old m asked new n (answered why async times c told is) all =
    answered_keep old (after_fulls times old m) new m asked.op c (fulls_ledgers times old m) (fulls_kept times old m)
    (known_here old m asked.asynchronous why) is all

pub calls_keep : (asked : Result _ Code) (old : DeskView) (m : ℕ) (new : DeskView) (n : ℤ) → Calls asked old m new n
    → AllKept old → AllKept new
calls_keep (Ok asked) old m new n is all = puts_keep old m asked new n is all
calls_keep (Err c) old m new n is all = rw is.1 all

-- ---- a desk that keeps nothing

-- where nothing is kept, nothing is outstanding
nothing_out : (d : DeskView) → AllKept d → HoldsNone d → (o : Operation) → IsOut d.ledgers o → ⊥
nothing_out d all empty o out = let k = all.each o out in not_both (finmap.get d.kept k.0) o (empty k.0) k.1

pub none_left : (d : DeskView) → AllKept d → HoldsNone d → outstanding d.ledgers ≡ 0
none_left d all empty = none_outstanding d.ledgers (nothing_out d all empty)

-- ---- what calls leave, one after another

module _ {I : Type 0} {leads : I → I → Type 0} where
  -- nothing was done
  pub leaves_all : ((d : DeskView) → GoesOn d d) → ((x : I) → leads x x) → (d : DeskView) (x : I)
      → CallLeaves leads d d x x
  leaves_all same stays d x = record { goes_on = same d; tickets = λ t owned. owned; idled = stays x }

  -- one call and then another
  pub leaves_on : ((old mid new : DeskView) → GoesOn old mid → GoesOn mid new → GoesOn old new)
      → ((x y z : I) → leads x y → leads y z → leads x z)
      → {old mid new : DeskView} {x y z : I} → CallLeaves leads old mid x y → CallLeaves leads mid new y z
      → CallLeaves leads old new x z
  leaves_on further chain a b = search (arith, a.goes_on, b.tickets, a.tickets, a.idled)
