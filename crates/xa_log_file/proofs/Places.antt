-- The slots in memory: how many are used, and where the record of a transaction is.
use Rattle.xa_base.proofs.{◌≡◌, ℕ, zero, suc, ◌+◌, ◌<◌, ◌≤◌, cond, List, length, get_or, set, take, refl, sym, ◌∙◌, ap}
use Rattle.xa_base.proofs.{arith, length-set, length-drop, take_all, rules, ◌⊎◌, Bool, Option, None, Some, []}
use Rattle.xa_base.proofs.{replicate, IfSome, cases_eq, cases_lt, get_or-set_same, get_or-set_other, FinMap, get-insert}
use Rattle.xa_base.proofs.{get-from_entries, map, length-map, get_or_default, ◌∷◌, is_some, get-lookup}
use Rattle.xa_base.proofs.{length-replicate, sum_by-set, sum_by-cons, IfNone, lookup, get_or-replicate, get_or_past}
use Rattle.xa_base.proofs.{ext_get_or, set-get_or, get_or-take}
use Rattle.std.proofs.lemmas.List.Sums.{sum_by_more, sum_by-take-drop, count_by-le-length}
use Rattle.std.proofs.lemmas.List.{length-take}
use Rattle.xa_log.specs.{CommitRecord, tran_cmp}
use Rattle.xa_log_file.specs.{LogSlot, Free, Taken, is_used, used, HasNoFree, HasFreeSlots, tran_of_record}
use Rattle.xa_log_file.specs.{NoTransactionTwice, on_file, table_of, tran_in_slot, HasName, HasNoName, IsIndexOf}
use Rattle.xa_log_file.specs.{Forgotten, taken, forgets, shut}
use Rattle.xa_words.specs.{TranName, tran_eq, Decides-tran_eq}
use Rattle.xa_log.proofs.Transactions.{tran_cmp_total, tran_cmp-IsAntisymmetric, tran_eq-by_cmp}
use Rattle.xa_log_file.proofs.Tables.{tran_tells, apart_names, at_slot, same_on_file, named_record, shut_free}
use Rattle.std.specs.FinMap as finmap

-- USED
abbrev pub weight : LogSlot → ℕ
weight s = cond (is_used s) 1 0

pub weighs : (s : LogSlot) → (s ≡ Free → ⊥) → weight s ≡ 1
weighs s differs = search (arith, rules)

pub used_next : (slots : List LogSlot) (n : ℕ) → n < length slots
    → used (take (n + 1) slots) ≡ used (take n slots) + weight (get_or slots n Free)
used_next slots n below = sum_by_more weight slots n Free below

pub used_set : (slots : List LogSlot) (k : ℕ) (r : CommitRecord) → k < length slots → get_or slots k Free ≡ Free
    → used (set slots k (Taken r)) ≡ used slots + 1
used_set slots k r below free = search (arith, sum_by-set)

at_most_one : (s : LogSlot) → weight s ≤ 1
at_most_one s = search (arith, rules)

-- a free slot isn't used
pub used_less : (slots : List LogSlot) (k : ℕ) → k < length slots → get_or slots k Free ≡ Free
    → used slots < length slots
used_less [] k below free = absurd (omega (arith, below))
used_less (s ∷ slots) zero below free =
    omega (arith, count_by-le-length is_used slots, sum_by-cons weight s slots, ap weight free)
used_less (s ∷ slots) (suc k) below free =
    omega (arith, used_less slots k (omega (arith, below)) free, sum_by-cons weight s slots, at_most_one s)

pub none_free_used : (slots : List LogSlot) (n : ℕ) → n ≤ length slots → HasNoFree slots n → used (take n slots) ≡ n
none_free_used slots zero few none = refl
none_free_used slots (suc n) few none =
    search (arith, weighs (get_or slots n Free), used_next slots n, none_free_used slots n, none)

pub all_used : (slots : List LogSlot) → HasNoFree slots (length slots) → used slots ≡ length slots
all_used slots none = search (arith, take_all (length slots) slots, none_free_used slots (length slots))

pub room_for : (slots : List LogSlot) (n count : ℕ) → n ≤ length slots → n ≡ used (take n slots) + count
    → HasFreeSlots slots count
room_for slots n count few is = search (arith, sum_by-take-drop, count_by-le-length, length-drop)

-- INDEX
-- a slot that has a name is there
pub named_within : (slots : List LogSlot) (k : ℕ) (t : TranName) → tran_in_slot slots k ≡ Some t → k < length slots
named_within slots k t is = search (arith, cases_lt, get_or_past)

-- what a map has of a name once another is put
pub put_at : {X : Type 0} (places : FinMap tran_cmp X) (t : TranName) (k : X) (q : TranName)
    → ((q ≡ t) × (finmap.get (finmap.insert places t k) q ≡ Some k))
    ⊎ ((q ≡ t → ⊥) × (finmap.get (finmap.insert places t k) q ≡ finmap.get places q))
put_at places t k q = search (arith, tran_tells, get-insert tran_cmp_total places)

module _ {places : FinMap tran_cmp ℕ} {slots : List LogSlot} (index : IsIndexOf places slots) where
  -- each name has one place
  pub one_place : (j k : ℕ) (t : TranName) → tran_in_slot slots j ≡ Some t → tran_in_slot slots k ≡ Some t → j ≡ k
  one_place j k t a b = cc (index.there j t a, index.there k t b)

  -- so no two slots have one name
  pub index_apart : NoTransactionTwice (table_of slots)
  index_apart = apart_names slots one_place

  pub not_indexed : {t : TranName} → HasNoName slots t → finmap.get places t ≡ None
  not_indexed {t} none = go (finmap.get places t) refl
    where
      go : (o : Option ℕ) → finmap.get places t ≡ o → o ≡ None
      go None is = refl
      go (Some k) is = absurd (none k (index.only k t is))

  -- the names are the same
  pub index_same : {new : List LogSlot} → ((k : ℕ) → tran_in_slot new k ≡ tran_in_slot slots k) → IsIndexOf places new
  index_same same = search (arith, rules)

  -- one is new
  pub index_more : {more : FinMap tran_cmp ℕ} {new : List LogSlot} (k : ℕ) (r : TranName) → tran_in_slot slots k ≡ None
      → tran_in_slot new k ≡ Some r
      → ((j : ℕ) → (j ≡ k → ⊥) → tran_in_slot new j ≡ tran_in_slot slots j) → finmap.get places r ≡ None
      → more ≡ finmap.insert places r k
      → IsIndexOf more new
  index_more {new = new} k r free here others absent is = search (arith, cases_eq, put_at)

-- what the hash map of places has of a name
looked_up : (es : List (TranName × ℕ)) (t : TranName)
    → finmap.get (finmap.from_entries {R = tran_cmp} es) t ≡ lookup (tran_eq t) es
looked_up = get-lookup tran_eq tran_cmp_total tran_cmp-IsAntisymmetric tran_eq-by_cmp

module _ (es : List (TranName × ℕ)) {slots : List LogSlot} (index : IsIndexOf (finmap.from_entries es) slots)
    (t : TranName) where
  pub if_there : (o : Option ℕ) → o ≡ lookup (tran_eq t) es → IfSome o (λ k. HasName slots k t)
  if_there None is = tt
  if_there (Some k) is = let named = index.only k t (looked_up es t ∙ sym is) in (named_within slots k t named, named)

  pub if_none : (o : Option ℕ) → o ≡ lookup (tran_eq t) es → IfNone o (HasNoName slots t)
  if_none None is = λ k named. let there = sym (looked_up es t) ∙ index.there k t named in absurd (cc (is, there))
  if_none (Some k) is = tt

-- one entry more, where there was none
pub longer_by_one : (es : List (TranName × ℕ)) (t : TranName) (old_len new_len : ℕ) (had : Option ℕ)
    → had ≡ lookup (tran_eq t) es
    → finmap.get (finmap.from_entries {R = tran_cmp} es) t ≡ None → new_len ≡ old_len + cond (is_some had) 0 1
    → new_len ≡ old_len + 1
longer_by_one es t old_len new_len had same none is =
    is ∙ ap (λ (o : Option ℕ). old_len + cond (is_some o) 0 1) (same ∙ sym (looked_up es t) ∙ none)

-- NEW
pub all_free : (n k : ℕ) → get_or (replicate n Free) k Free ≡ Free
all_free n k = search (arith, cases_lt, get_or-replicate, get_or_past, length-replicate)

pub new_index : (es : List (TranName × ℕ)) (slots : List LogSlot) (n : ℕ) → es ≡ [] → slots ≡ replicate n Free
    → IsIndexOf (finmap.from_entries {R = tran_cmp} es) slots
new_index es slots n none free = search (arith, get-from_entries tran_cmp_total es, all_free)

-- MAPPED
-- what is read at a place that is there
pub slot_indexed : (slots : List LogSlot) (k : ℕ) (read s : LogSlot) → k < length slots → read ≡ get_or slots k read
    → read ≡ s → get_or slots k Free ≡ s
slot_indexed slots k read s below is same = get_or_default slots k Free read below ∙ sym is ∙ same

-- the slots before this place are changed
pub record MapsBelow (f : LogSlot → LogSlot) (n : ℕ) (old slots : List LogSlot) : Type 0 where
  pub count : length slots ≡ length old
  pub done : (k : ℕ) → k < n → get_or slots k Free ≡ f (get_or old k Free)
  pub later : (k : ℕ) → n ≤ k → get_or slots k Free ≡ get_or old k Free

pub none_mapped : (f : LogSlot → LogSlot) (old : List LogSlot) → MapsBelow f 0 old old
none_mapped f old = record { count = refl; done = λ k no. absurd (omega (arith, no)); later = λ k from. refl }

module _ {f : LogSlot → LogSlot} {n : ℕ} {old slots : List LogSlot} (so_far : MapsBelow f n old slots) where
  pub one_mapped : {new : List LogSlot} → n < length old → new ≡ set slots n (f (get_or old n Free))
      → MapsBelow f (n + 1) old new
  one_mapped below is = search (arith, length-set, cases_eq, get_or-set_same, get_or-set_other)

  -- a slot that stays
  pub unchanged : f (get_or old n Free) ≡ get_or old n Free → slots ≡ set slots n (f (get_or old n Free))
  unchanged same = search (arith, set-get_or, so_far.later)

  pub all_mapped : f Free ≡ Free → length old ≤ n → slots ≡ map f old
  all_mapped free past =
      search (arith, ext_get_or Free slots, length-map old f, at_slot f free old, so_far.done, so_far.count)

pub ruleset mapping = (slot_indexed, none_mapped, one_mapped, all_mapped)

-- FORGETTING
pub not_taken : (s : LogSlot) → ((r : CommitRecord) → s ≡ Taken r → ⊥) → taken s ≡ None
not_taken s differs = search (arith, rules)

stays : (t : TranName) (s : LogSlot) → ((r : CommitRecord) → s ≡ Taken r → tran_of_record (on_file s) ≡ Some t → ⊥)
    → forgets (λ q. tran_eq t q) s ≡ s
stays t s differs = search (arith, Decides-tran_eq)

-- no record of the transaction counts
pub none_forgets : (slots : List LogSlot) (t : TranName)
    → ((k : ℕ) (r : CommitRecord) → get_or slots k Free ≡ Taken r → tran_in_slot slots k ≡ Some t → ⊥)
    → slots ≡ map (forgets (λ q. tran_eq t q)) slots
none_forgets slots t differs =
    ext_get_or Free slots (map (forgets (λ q. tran_eq t q)) slots) (sym (length-map slots (forgets (λ q. tran_eq t q))))
    (λ k below. search (arith, at_slot (forgets (λ q. tran_eq t q)) refl slots k, stays t, differs k))

-- one does, at this place
pub one_forgets : {places : FinMap tran_cmp ℕ} {slots : List LogSlot} → IsIndexOf places slots
    → (place : ℕ) (r : CommitRecord) → place < length slots
    → get_or slots place Free ≡ Taken r → (t : TranName) → tran_in_slot slots place ≡ Some t
    → set slots place (Forgotten r) ≡ map (forgets (λ q. tran_eq t q)) slots
one_forgets {slots = slots} index place r below is t named =
    ext_get_or Free (set slots place (Forgotten r)) (map (forgets (λ q. tran_eq t q)) slots)
    (length-set slots place (Forgotten r) ∙ sym (length-map slots (forgets (λ q. tran_eq t q)))) (λ k within.
    search (
      arith,
      cases_eq k place,
      get_or-set_same,
      get_or-set_other,
      at_slot (forgets (λ q. tran_eq t q)) refl slots k,
      stays t,
      one_place index,
      Decides-tran_eq t,
    ))

was_free : (s : LogSlot) → on_file s ≡ None → s ≡ Free
was_free s is = search (arith, rules)

still_used : (test : TranName → Bool) (s : LogSlot) → is_used (forgets test s) ≡ is_used s
still_used test s = search (arith, rules)

pub forgets_used : (test : TranName → Bool) (slots : List LogSlot) → used (map (forgets test) slots) ≡ used slots
forgets_used test [] = refl
forgets_used test (s ∷ slots) = search (arith, sum_by-cons weight, still_used test s, forgets_used test slots)

-- what the file has of them stays, and their index
same_at : (test : TranName → Bool) (slots : List LogSlot) (k : ℕ)
    → on_file (get_or (map (forgets test) slots) k Free) ≡ on_file (get_or slots k Free)
same_at test slots k = ap on_file (at_slot (forgets test) refl slots k) ∙ same_on_file test (get_or slots k Free)

pub forgets_indexed : (test : TranName → Bool) (slots : List LogSlot) {places : FinMap tran_cmp ℕ}
    → IsIndexOf places slots
    → IsIndexOf places (map (forgets test) slots)
forgets_indexed test slots index = index_same index (λ k. ap tran_of_record (same_at test slots k))

pub forgets_none_free : (test : TranName → Bool) (slots : List LogSlot) (n : ℕ) → HasNoFree slots n
    → HasNoFree (map (forgets test) slots) n
forgets_none_free test slots n none k below free =
    none k below (was_free (get_or slots k Free) (sym (same_at test slots k) ∙ ap on_file free))

-- ANEW
-- the slots before this place are done
pub record IsAnew (n : ℕ) (old slots : List LogSlot) (places : FinMap tran_cmp ℕ) (len room : ℕ) : Type 0 where
  pub mapped : MapsBelow shut n old slots
  pub indexed : IsIndexOf places (take n (map shut old))
  pub room_left : length old ≤ used (take n (map shut old)) + room
  pub capacity : length old ≤ len + room

pub none_done : (old : List LogSlot) (es : List (TranName × ℕ)) (len room : ℕ) → es ≡ [] → length old ≤ room → len ≡ 0
    → IsAnew 0 old old (finmap.from_entries {R = tran_cmp} es) len room
none_done old es len room none much zero_ = search (arith, none_mapped shut old, new_index es [] 0 none refl)

-- one slot more
taken_others : (slots : List LogSlot) (n j : ℕ) → (j ≡ n → ⊥)
    → get_or (take (n + 1) slots) j Free ≡ get_or (take n slots) j Free
taken_others slots n j other = search (arith, cases_lt, get_or-take, get_or_past, length-take)

module _ {n : ℕ} {old slots : List LogSlot} {places : FinMap tran_cmp ℕ} {len room : ℕ}
    (so_far : IsAnew n old slots places len room) where
  pub room_there : n < length old → 0 < room
  room_there below =
      omega (arith, so_far.room_left, count_by-le-length is_used (take n (map shut old)), length-take n (map shut old))

  shut_here : n < length old → get_or (take (n + 1) (map shut old)) n Free ≡ shut (get_or old n Free)
  shut_here below = get_or-take (n + 1) (map shut old) n Free (omega arith) ∙ at_slot shut refl old n

  weight_here : n < length old
      → used (take (n + 1) (map shut old)) ≡ used (take n (map shut old)) + weight (shut (get_or old n Free))
  weight_here below = search (arith, used_next, length-map, at_slot)

  -- a slot without a record that counts
  pub passed_over : {new : List LogSlot} → n < length old → taken (get_or old n Free) ≡ None
      → new ≡ set slots n (shut (get_or old n Free))
      → IsAnew (n + 1) old new places len room
  passed_over below none put =
      search (
        arith,
        one_mapped so_far.mapped below put,
        index_same,
        cases_eq,
        shut_here,
        get_or_past,
        length-take,
        taken_others,
        weight_here below,
        shut_free,
        so_far,
      )

  -- the next one isn't in the index yet
  not_yet : {before : FinMap tran_cmp ℕ} → IsIndexOf before old → {t : TranName} → tran_in_slot old n ≡ Some t
      → HasNoName (take n (map shut old)) t
  not_yet index {t} named k is =
      search (arith, named_within, length-take, get_or-take, at_slot, named_record, one_place)

  -- a slot with one
  pub put_in : {new : List LogSlot} {before more : FinMap tran_cmp ℕ} {new_len new_room : ℕ} {r : CommitRecord}
      → n < length old → get_or old n Free ≡ Taken r
      → new ≡ set slots n (shut (get_or old n Free)) → IsIndexOf before old
      → (finmap.get places r.tran ≡ None → more ≡ finmap.insert places r.tran n)
      → (finmap.get places r.tran ≡ None → new_len ≡ len + 1) → room ≤ new_room + 1
      → IsAnew (n + 1) old new more new_len new_room
  put_in {r = r} below is put index inserted longer less =
      let absent = not_indexed so_far.indexed (not_yet index (ap (λ (s : LogSlot). tran_of_record (on_file s)) is)) in
      let indexed =
      index_more so_far.indexed n r.tran
      (ap (λ (s : LogSlot). tran_of_record (on_file s))
      (get_or_past (take n (map shut old)) n Free (omega (arith, length-take n (map shut old)))))
      (ap (λ (s : LogSlot). tran_of_record (on_file s)) (shut_here below ∙ ap shut is))
      (λ j other. ap (λ (s : LogSlot). tran_of_record (on_file s)) (taken_others (map shut old) n j other)) absent
      (inserted absent) in
      search (
        arith,
        indexed,
        one_mapped so_far.mapped below put,
        weight_here below,
        ap (λ (s : LogSlot). weight (shut s))
            is,
        longer absent,
        so_far.room_left,
        so_far.capacity,
      )

  pub all_anew : length old ≤ n
      → (slots ≡ map shut old) × IsIndexOf places slots × (length slots ≤ used slots + room)
      × (length slots ≤ len + room)
  all_anew past =
      let is = all_mapped so_far.mapped refl past in
      let whole : take n (map shut old) ≡ slots =
      take_all n (map shut old) (omega (arith, length-map old shut)) ∙ sym is in
      search
      (arith, is, rw whole at so_far.indexed, ap used whole, so_far.room_left, so_far.capacity, so_far.mapped.count)
