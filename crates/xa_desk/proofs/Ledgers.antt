-- What a sending and a collection do to the ledgers, how these grow, and how many slots, numbers and drained
-- completions there can be.
use Rattle.xa_base.proofs.{◌≡◌, ◌≢◌, ℕ, zero, suc, ◌+◌, ◌-◌, ◌<◌, ◌≤◌, ◌⊎◌, false, ◌||◌, nat_eq, List, [], ◌∷◌, ◌++◌}
use Rattle.xa_base.proofs.{length, Option, Some, None, get_or, sym, refl, ap, ◌∙◌, inl, inr, arith, length-append, true}
use Rattle.xa_base.proofs.{◌&&◌, nat_le, map-append, length-set, get_or-set_same, set, get_or-set_other, length-map}
use Rattle.xa_base.proofs.{list_any-append, cases_eq, false_from_ne_true, eqb-true, or_parts, or_from, ne_eqb}
use Rattle.xa_base.proofs.{eqb-false, and_parts, le-leb, cases_lt, same_begins, begins_on, cond, is_some, is_there}
use Rattle.xa_base.proofs.{cases_Bool, sum_by, IsSome, get_or_read, get_or_past, sum_by-set, sum_by-cons}
use Rattle.xa_base.proofs.{IsDistinct-push, length-le_from_distinct_below, or_cases, leb-true}
use Rattle.std.proofs.lemmas.List.{set_past}
use Rattle.std.proofs.lemmas.List.Sums.{sum_by-le-sum_by}
use Rattle.xa_words.specs.{Op, Code, Completion}
use Rattle.xa_desk.specs.{Operation, numbers, is_collected, with_sent, with_collected, IsKnown, IsSent, IsOut, ledger}
use Rattle.xa_desk.specs.{put_ledger, no_ledger, after_sent, after_collected, is_known, sent_to, IsOrderly}
use Rattle.xa_desk.specs.{planned_total, LedgerView, HasGrown, HaveGrown, Slot, IsBalanced, outstanding, IsBooks}
use Rattle.xa_desk.specs.{HasKept, ready_weight, ready_count, collected_total}
use Rattle.slab.specs.Slab.{Slab, get, slab_len}
use Rattle.slab.proofs.SlabLemmas.{ContainsKey-within}

-- ---- what a sending and a collection do to the ledgers

-- an operation is its manager and its number
pub same_operation : (a b : Operation) → a.manager ≡ b.manager → a.number ≡ b.number → a ≡ b
same_operation a b e f = λ i. record { manager = e i; number = f i }

pub cases_operation : (a b : Operation) → (a ≡ b) ⊎ (a ≢ b)
cases_operation a b = elim (cases_eq a.manager b.manager) [
  | inl e ↦ elim (cases_eq a.number b.number) [
    | inl f ↦ inl (same_operation a b e f)
    | inr differs ↦ inr
        (λ same. differs (ap (λ (o : Operation). o.number) same))
  ]
  | inr differs ↦ inr (λ same. differs (ap (λ (o : Operation). o.manager) same))
]

module _ {A : Type 0} (f : Option A → ℕ) (zeros : f None ≡ 0) where
  pub sum_by-same : (xs ys : List (Option A)) → ((k : ℕ) → get_or ys k None ≡ get_or xs k None)
      → sum_by f ys ≡ sum_by f xs
  sum_by-same [] [] same = refl
  sum_by-same [] (y ∷ ys) same = omega (arith, sum_by-same [] ys (λ k. same (suc k)), ap f (same 0), sum_by-cons f y ys)
  sum_by-same (x ∷ xs) [] same = omega (arith, sum_by-same xs [] (λ k. same (suc k)), ap f (same 0), sum_by-cons f x xs)
  sum_by-same (x ∷ xs) (y ∷ ys) same =
      omega (arith, sum_by-same xs ys (λ k. same (suc k)), ap f (same 0), sum_by-cons f x xs, sum_by-cons f y ys)

  -- a sum over slots changes by the slot that changes
  pub sum_by-changed : (xs ys : List (Option A)) (key : ℕ) → ((k : ℕ) → k ≢ key → get_or ys k None ≡ get_or xs k None)
      → sum_by f ys + f (get_or xs key None) ≡ sum_by f xs + f (get_or ys key None)
  sum_by-changed xs ys key others =
      omega (arith, without xs, without ys, sum_by-same (set xs key None) (set ys key None) alike)
    where
      without : (zs : List (Option A)) → sum_by f (set zs key None) + f (get_or zs key None) ≡ sum_by f zs
      without zs = elim (cases_lt key (length zs)) [
        | inl below ↦ omega (arith, zeros, sum_by-set f zs key None None below)
        | inr past ↦ rw (set_past zs key None past, get_or_past zs key None past) (omega arith)
      ]

      alike : (k : ℕ) → get_or (set ys key None) k None ≡ get_or (set xs key None) k None
      alike k = grind (arith, cases_eq, get_or-set_other, cases_lt, get_or-set_same, set_past, get_or_past)

-- ---- managers that are known

pub known_true : (at : List LedgerView) (m : ℕ) → IsKnown at m → is_known at m ≡ true
known_true at m known = λ i. le-leb 1 m known.positive i && le-leb m (length at) known.within i

pub known_is : (at : List LedgerView) (m : ℕ) → is_known at m ≡ true → IsKnown at m
known_is at m e = search (arith, and_parts, nat_le, leb-true)

-- as many ledgers are with as many managers
pub known_by : (l l' : List LedgerView) (m : ℕ) → length l' ≡ length l → IsKnown l m → IsKnown l' m
known_by l l' m e k = record { positive = k.positive; within = let within = k.within in omega (arith, e, within) }

-- there is no ledger past the last, and nothing was sent where there is none
pub past_end : (at : List LedgerView) (k : ℕ) → length at ≤ k → get_or at k no_ledger ≡ no_ledger
past_end [] k past = refl
past_end (a ∷ at) zero past = absurd (omega arith)
past_end (a ∷ at) (suc k) past = past_end at k (omega arith)

pub nobody_sent : (m : ℕ) → sent_to [] m ≡ []
nobody_sent m = grind (arith, past_end)

-- ---- a ledger is put in the place of another

module _ (at : List LedgerView) where
  pub ledger-put_same : (m : ℕ) (a : LedgerView) → IsKnown at m → ledger (put_ledger at m a) m ≡ a
  ledger-put_same m a known = get_or-set_same at (m - 1) a no_ledger (omega arith)

  pub ledger-put_other : (m n : ℕ) (a : LedgerView) → 1 ≤ m → 1 ≤ n → n ≢ m → ledger (put_ledger at m a) n ≡ ledger at n
  ledger-put_other m n a p q differs = get_or-set_other at (m - 1) (n - 1) a no_ledger (λ e. differs (omega arith))

  pub known_before : (m n : ℕ) (a : LedgerView) → IsKnown (put_ledger at m a) n → IsKnown at n
  known_before m n a known = record { positive = known.positive; within = rw (length-set at (m - 1) a) at known.within }

  pub known_after : (m n : ℕ) (a : LedgerView) → IsKnown at n → IsKnown (put_ledger at m a) n
  known_after m n a known = record { positive = known.positive; within = rw (length-set at (m - 1) a) known.within }

-- what holds of an element and itself, and of the one that is put in its place, holds of each before and after
pub set_each : {A : Type 0} (R : A → A → Type 0) → ((a : A) → R a a) → (xs : List A) (i : ℕ) (a d : A)
    → R (get_or xs i d) a → (k : ℕ)
    → R (get_or xs k d) (get_or (set xs i a) k d)
set_each R same xs i a d new k = search (arith, cases_eq, cases_lt, get_or-set_same, set_past, get_or-set_other)

pub put_each : (R : LedgerView → LedgerView → Type 0) → ((a : LedgerView) → R a a)
    → (at : List LedgerView) (m : ℕ) (a : LedgerView) → R (ledger at m) a
    → (n : ℕ) → R (ledger at n) (ledger (put_ledger at m a) n)
put_each R same at m a new n = set_each R same at (m - 1) a no_ledger new (n - 1)

-- what the new ledger has of the one before, each has
pub put_same : {A : Type 0} (f : LedgerView → A) (at : List LedgerView) (m : ℕ) (a : LedgerView) → f a ≡ f (ledger at m)
    → (n : ℕ) → f (ledger (put_ledger at m a) n) ≡ f (ledger at n)
put_same f = put_each (λ x y. f y ≡ f x) (λ _. refl)

-- fewer were collected than sent, where one is outstanding; and never more
pub collected-le-sent : (a : LedgerView) → IsOrderly a → length a.collected ≤ length a.sent
collected-le-sent a o =
    let below : length (numbers a) ≤ length a.sent =
    length-le_from_distinct_below (numbers a) (length a.sent) o.distinct o.below in
    rw length-map at below

pub orderly_sent : (a : LedgerView) (op : Op) → IsOrderly a → length a.sent < a.plan → IsOrderly (with_sent a op)
orderly_sent a op o room = search (arith, length-append, a.sent, o.below)

pub is_collected-push : (a : LedgerView) (n : ℕ) (code : Code) (q : ℕ)
    → is_collected (with_collected a n code) q ≡ (is_collected a q || (nat_eq q n || false))
is_collected-push a n code q =
    rw (map-append (λ (p : ℕ × Code). p.0) a.collected ((n, code) ∷ []))
    (list_any-append (nat_eq q) (numbers a) (n ∷ []))

pub orderly_collected : (a : LedgerView) (n : ℕ) (code : Code) → IsOrderly a → n < length a.sent
    → is_collected a n ≡ false
    → IsOrderly (with_collected a n code)
orderly_collected a n code o sent fresh =
    search (arith, map-append, IsDistinct-push, or_cases, nat_eq, is_collected-push, eqb-true)

pub collected-lt-sent : (a : LedgerView) (n : ℕ) (code : Code) → IsOrderly a → n < length a.sent
    → is_collected a n ≡ false → length a.collected < length a.sent
collected-lt-sent a n code o sent fresh =
    let more : length (a.collected ++ (n, code) ∷ []) ≤ length a.sent =
    collected-le-sent (with_collected a n code) (orderly_collected a n code o sent fresh) in
    omega (arith, length-append a.collected ((n, code) ∷ []))

-- sending

module _ (at : List LedgerView) (m : ℕ) (op : Op) (known : IsKnown at m) where
  abbrev pub sent_now : Operation
  sent_now = record { manager = m; number = length (ledger at m).sent }

  pub ledger-sent_same : (n : ℕ) → n ≡ m → ledger (after_sent at m op) n ≡ with_sent (ledger at n) op
  ledger-sent_same n e = rw e (ledger-put_same at m (with_sent (ledger at m) op) known)

  pub ledger-sent_other : (n : ℕ) → 1 ≤ n → n ≢ m → ledger (after_sent at m op) n ≡ ledger at n
  ledger-sent_other n p differs = ledger-put_other at m n (with_sent (ledger at m) op) known.positive p differs

  pub sent_collects : (n q : ℕ) → is_collected (ledger (after_sent at m op) n) q ≡ is_collected (ledger at n) q
  sent_collects n q = put_same (λ a. is_collected a q) at m (with_sent (ledger at m) op) refl n

  pub sent_keeps_sent : (o : Operation) → IsSent at o → IsSent (after_sent at m op) o
  sent_keeps_sent o was =
      let more : length (ledger at o.manager).sent ≤ length (ledger (after_sent at m op) o.manager).sent =
      put_each (λ a b. length a.sent ≤ length b.sent) (λ _. omega arith) at m (with_sent (ledger at m) op)
      (omega (arith, length-append (ledger at m).sent (op ∷ []))) o.manager in
      record {
        known = known_after at m o.manager (with_sent (ledger at m) op) was.known;
        sent = omega (arith, was.sent);
      }

  pub sent_keeps_out : (o : Operation) → IsOut at o → IsOut (after_sent at m op) o
  sent_keeps_out o was =
      let still = sent_keeps_sent o (record { known = was.known; sent = was.sent }) in
      record { known = still.known; sent = still.sent; open_ = sent_collects o.manager o.number ∙ was.open_ }

  pub sent_now_out : IsOrderly (ledger at m) → IsOut (after_sent at m op) sent_now
  sent_now_out o = record {
    known = known_after at m m (with_sent (ledger at m) op) known;
    sent = rw (ledger-sent_same m refl) (omega (arith, length-append (ledger at m).sent (op ∷ [])));
    open_ = rw (ledger-sent_same m refl) (false_from_ne_true _ (λ e. let h = o.below _ e in omega arith));
  }

  pub sent_out_cases : (o : Operation) → IsOut (after_sent at m op) o → (o ≡ sent_now) ⊎ IsOut at o
  sent_out_cases o is =
      let k = known_before at m o.manager (with_sent (ledger at m) op) is.known in
      let fresh = sym (sent_collects o.manager o.number) ∙ is.open_ in
      search (
        arith,
        cases_eq,
        ledger-sent_same,
        same_operation,
        length-append,
        ledger-sent_other,
        o.manager,
        is.sent,
        o.number,
        k.positive,
      )

  pub unsent : (o : Operation) → IsSent at o → o ≢ sent_now
  unsent o was e = grind arith

-- collecting

module _ (at : List LedgerView) (o : Operation) (code : Code) (known : IsKnown at o.manager) where
  pub ledger-collected_same : (n : ℕ) → n ≡ o.manager
      → ledger (after_collected at o code) n ≡ with_collected (ledger at n) o.number code
  ledger-collected_same n e =
      rw e (ledger-put_same at o.manager (with_collected (ledger at o.manager) o.number code) known)

  pub ledger-collected_other : (n : ℕ) → 1 ≤ n → n ≢ o.manager → ledger (after_collected at o code) n ≡ ledger at n
  ledger-collected_other n p differs =
      ledger-put_other at o.manager n (with_collected (ledger at o.manager) o.number code) known.positive p differs

  pub known_collected : (n : ℕ) → IsKnown at n → IsKnown (after_collected at o code) n
  known_collected n k = known_after at o.manager n (with_collected (ledger at o.manager) o.number code) k

  pub collected_known : (n : ℕ) → IsKnown (after_collected at o code) n → IsKnown at n
  collected_known n k = known_before at o.manager n (with_collected (ledger at o.manager) o.number code) k

  pub collected_sends : (n : ℕ) → (ledger (after_collected at o code) n).sent ≡ (ledger at n).sent
  collected_sends = put_same (λ a. a.sent) at o.manager (with_collected (ledger at o.manager) o.number code) refl

  pub collected_keeps_sent : (p : Operation) → IsSent at p → IsSent (after_collected at o code) p
  collected_keeps_sent p was =
      record { known = known_collected p.manager was.known; sent = rw (collected_sends p.manager) was.sent }

  pub collected_keeps_out : (p : Operation) → IsOut at p → p ≢ o → IsOut (after_collected at o code) p
  collected_keeps_out p was other = record {
    known = known_collected p.manager was.known;
    sent = rw (collected_sends p.manager) was.sent;
    open_ = elim (cases_eq p.manager o.manager) [
      | inl same ↦ search (
        arith,
        ledger-collected_same,
        is_collected-push,
        or_from,
        ne_eqb,
        same_operation,
        p.manager,
        was.open_,
        p.number,
      )
      | inr differs ↦ rw (ledger-collected_other p.manager was.known.positive differs) was.open_
    ];
  }

  pub collected_out : (p : Operation) → IsOut (after_collected at o code) p → IsOut at p × (p ≢ o)
  collected_out p is =
      let k = collected_known p.manager is.known in
      let sent = rw (collected_sends p.manager) at is.sent in
      search (
        arith,
        cases_eq,
        nat_eq,
        or_parts,
        is_collected-push,
        ledger-collected_same,
        eqb-false,
        ledger-collected_other,
        p.manager,
        p.number,
        k.positive,
      )

-- what a read of the list of ledgers gives, and what a write leaves

pub ledger-read : (at : List LedgerView) (m : ℕ) (a : LedgerView) → IsKnown at m → a ≡ get_or at (m - 1) a
    → a ≡ ledger at m
ledger-read at m a known read = get_or_read at (m - 1) a (omega arith) read no_ledger

-- there is room in the ledger of an outstanding operation to collect it
pub room_collected : (at : List LedgerView) (o : Operation) (code : Code) (a : LedgerView) → IsOut at o
    → IsOrderly (ledger at o.manager)
    → a ≡ get_or at (o.manager - 1) a → length a.collected < a.plan
room_collected at o code a out orderly read = grind (arith, collected-lt-sent, ledger-read)

pub planned-put : (at : List LedgerView) (m : ℕ) (a : LedgerView) → IsKnown at m → a.plan ≡ (ledger at m).plan
    → planned_total (put_ledger at m a) ≡ planned_total at
planned-put at m a known same = grind (arith, sum_by-set)

pub length-put_ledger : (at : List LedgerView) (m : ℕ) (a : LedgerView) → length (put_ledger at m a) ≡ length at
length-put_ledger at m a = length-set at (m - 1) a

-- ---- the lists of a desk only grow

-- a ledger has grown from itself, and growth goes on
pub as_it_was : (a : LedgerView) → HasGrown a a
as_it_was a = record { sent = same_begins a.sent; collected = same_begins a.collected }

pub grown_on : (a b c : LedgerView) → HasGrown a b → HasGrown b c → HasGrown a c
grown_on a b c p q = search (arith, begins_on, p.sent, p.collected)

pub same_lists : (at at' : List LedgerView) → at' ≡ at → HaveGrown at at'
same_lists at at' e = rw e (record { each = λ m p. as_it_was (ledger at m) })

pub growing_on : (a b c : List LedgerView) → HaveGrown a b → HaveGrown b c → HaveGrown a c
growing_on a b c p q =
    record { each = λ m h. grown_on (ledger a m) (ledger b m) (ledger c m) (p.each m h) (q.each m h) }

-- a ledger is put in the place of one that it has grown from
put_grows : (at : List LedgerView) (m : ℕ) (a : LedgerView) → HasGrown (ledger at m) a
    → HaveGrown at (put_ledger at m a)
put_grows at m a grown = record { each = λ n _. put_each HasGrown as_it_was at m a grown n }

pub sending_grows : (at : List LedgerView) (m : ℕ) (op : Op) → HaveGrown at (after_sent at m op)
sending_grows at m op =
    put_grows at m (with_sent (ledger at m) op)
    (record { sent = (op ∷ [], refl); collected = same_begins (ledger at m).collected })

pub collecting_grows : (at : List LedgerView) (o : Operation) (code : Code) → HaveGrown at (after_collected at o code)
collecting_grows at o code = search (arith, put_grows, same_begins, o.manager, o.number)

-- ---- how many slots, numbers and drained completions there can be

sum_by-within : {A : Type 0} (f g h : A → ℕ) (d : A) (xs : List A)
    → ((i : ℕ) → i < length xs → f (get_or xs i d) + g (get_or xs i d) ≤ h (get_or xs i d))
    → sum_by f xs + sum_by g xs ≤ sum_by h xs
sum_by-within f g h d [] each = omega arith
sum_by-within f g h d (x ∷ xs) each =
    omega (
      arith,
      each 0 (omega arith),
      sum_by-within f g h d xs (λ i below. each (suc i) (omega arith)),
      sum_by-cons f x
          xs,
      sum_by-cons g x xs,
      sum_by-cons h x xs,
    )

abbrev there_weight : Option Slot → ℕ
there_weight x = cond (is_some x) 1 0

-- the slab once the slot at a key is gone
abbrev without : Slab Slot → ℕ → Slab Slot
without s key = record s { slots = set s.slots key None }

fewer : (s : Slab Slot) (key : ℕ) (slot : Slot) → get s key ≡ Some slot → slab_len (without s key) + 1 ≡ slab_len s
fewer s key slot there =
    let sums : slab_len (without s key) + there_weight (get s key) ≡ slab_len s + 0 =
    sum_by-set there_weight s.slots key None None (ContainsKey-within s key (rw there)) in
    omega (arith, sums, ap there_weight there)

-- a slot that waits leaves room in the list of drained completions
pub drained-lt-planned : {at : List LedgerView} {s : Slab Slot} {table : List (Option Operation)}
    {drained : List Completion} (key : ℕ) (slot : Slot)
    → IsBooks at s table drained → get s key ≡ Some slot → slot.code ≡ None → length drained < planned_total at
drained-lt-planned {at = at} {s = s} key slot b there waiting =
    let not_ready : ready_weight (get s key) ≡ 0 =
    ap ready_weight there ∙ ap (λ (o : Option Code). cond (is_some o) 1 0) waiting in
    let ready : ready_count (without s key) + ready_weight (get s key) ≡ ready_count s + 0 =
    sum_by-set ready_weight s.slots key None None (ContainsKey-within s key (rw there)) in
    let below : ready_count (without s key) ≤ slab_len (without s key) = search (arith, sum_by-le-sum_by, is_some) in
    let sums : collected_total at + outstanding at ≤ planned_total at = sum_by-within
    (λ (a : LedgerView). length a.collected) (λ (a : LedgerView). length a.sent - length a.collected)
    (λ (a : LedgerView). a.plan) no_ledger at (λ i below.
    let back : i + 1 - 1 ≡ i = omega arith in
    let o : IsOrderly (get_or at i no_ledger) =
    rw back at (b.orderly (i + 1) (record { positive = omega arith; within = omega arith })) in
    omega (arith, collected-le-sent (get_or at i no_ledger) o, o.planned)) in
    omega (arith, fewer s key slot there, b.count, b.drained_count)

-- slots kept under each number up to n, and one that isn't kept, are more than n
pub numbers-lt-slots : (n : ℕ) (s : Slab Slot) (key : ℕ) (slot : Slot) → get s key ≡ Some slot → slot.handle ≡ 0
    → ((k : ℕ) → k < n → (o : Operation) × HasKept s o (suc k)) → n < slab_len s
numbers-lt-slots zero s key slot there loose each = omega (arith, fewer s key slot there)
numbers-lt-slots (suc n) s key slot there loose each =
    let last = (each n (omega arith)).1 in
    let still : (k : ℕ) (y : Slot) → get s k ≡ Some y → y.handle ≢ suc n
    → get (without s last.key) k ≡ Some y = λ k y found apart.
    get_or-set_other s.slots last.key k None None
    (λ same. let one : Some y ≡ Some last.slot = sym found ∙ ap (get s) same
    ∙ last.found in apart (let e : y ≡ last.slot = cc in ap (λ (z : Slot). z.handle) e ∙ last.handle))
    ∙ found in
    let less = numbers-lt-slots n (without s last.key) key slot (still key slot there (λ e. omega arith)) loose
    (λ k below.
    let h = (each k (omega arith)).1 in (
      (each k (omega arith)).0,
      record {
        key = h.key;
        slot = h.slot;
        found = still h.key h.slot h.found (λ e. omega (arith, h.handle));
        names = h.names;
        handle = h.handle;
      },
    )) in
    omega (arith, less, fewer s last.key last.slot last.found)

-- among as many numbers as there may be slots one is free, where an operation isn't kept
pub free_place : (at : List LedgerView) (s : Slab Slot) (table : List (Option Operation)) (drained : List Completion)
    (key : ℕ) (slot : Slot)
    → IsBooks at s table drained → get s key ≡ Some slot → slot.handle ≡ 0 → slab_len s ≤ length table → (n : ℕ)
    → n ≤ length table
    → ((k : ℕ) → k < n → IsSome (get_or table k None)) → n < length table
free_place at s table drained key slot b there loose fits n within taken =
    let below : n < slab_len s =
    numbers-lt-slots n s key slot there loose
    (λ k under. let o = is_there (get_or table k None) (taken k under) in (o.0, b.tabled k o.0 o.1)) in
    omega arith

-- where nothing is outstanding, every request was collected
pub nothing_open : (at : List LedgerView) (s : Slab Slot) (table : List (Option Operation)) (drained : List Completion)
    → IsBooks at s table drained
    → slab_len s ≡ 0 → (m : ℕ) → IsKnown at m → IsBalanced (ledger at m)
nothing_open at s table drained b none m known =
    let o = b.orderly m known in
    record {
      distinct = o.distinct;
      below = o.below;
      all = λ n sent. elim (cases_Bool (is_collected (ledger at m) n)) [
        | inl done ↦ done
        | inr open_is ↦
            let h =
            b.out_slot (record { manager = m; number = n })
            (record { known = known; sent = sent; open_ = open_is }) in
            absurd (omega (arith, fewer s h.key h.slot h.found))
      ];
    }
