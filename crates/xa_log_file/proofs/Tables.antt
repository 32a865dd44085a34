-- The bytes of a record and what they tell of it; the records of a table, and how they change as slots are shut,
-- forgotten and taken.
use Rattle.xa_base.proofs.{rules, ◌≡◌, ℕ, ℤ, ◌-◌, ◌≤◌, Bool, true, cond, List, [], ◌∷◌, ◌++◌, length, get_or, map, take}
use Rattle.xa_base.proofs.{drop, replicate, refl, sym, ◌∙◌, ap, arith, append_assoc, length-append, w32, to_z-of_z}
use Rattle.xa_base.proofs.{length-replicate, Option, None, Some, Ok, eqb, FitsSigned, cast_unsigned, of_z, to_z, ◌+◌}
use Rattle.xa_base.proofs.{cast_signed, to_be_bytes, from_be_bytes, nat_tests, take_at, drop_at, take-replicate}
use Rattle.xa_base.proofs.{drop-replicate, get_or-take, zero, suc, ◌<◌, false, set, eq_by_cmp, find, get-from_entries}
use Rattle.xa_base.proofs.{put_one, ◌⊎◌, inl, inr, ⊎_elim, not, cases_eq, length-map, get_or-set_same, get_or-set_other}
use Rattle.xa_base.proofs.{eq_by_cmp_equiv, remove_one, retain_some, cases_Bool, by_if, at_false, at_true, ext_get_or}
use Rattle.xa_base.proofs.{map-set, set-get_or, map-map}
use Rattle.std.proofs.lemmas.Nat.{from_be_bytes-to_be_bytes_4}
use mir.ValLaws.{of_z_fits}
use Rattle.xa_words.specs.{is_in, set_of, is_part, tran_bytes, new_tran, TranName, tran_eq}
use Rattle.xa_words.proofs.ManagerSets.{eight}
use Rattle.xa_log.specs.{CommitRecord, tran_cmp, Records, record_in, is_among}
use Rattle.xa_log_file.specs.{fields, spelling, yes_bytes, IsValid, IsSlotOf, RecordTable, entries, records_of, LogSlot}
use Rattle.xa_log_file.specs.{Free, Taken, Forgotten, tran_of_record, NoTransactionTwice, on_file, taken}
use Rattle.xa_log_file.specs.{forgotten_record, table_of, tran_in_slot, StandsFor, HasRecords, records_in, forgotten_in}
use Rattle.xa_log_file.specs.{shut, forgets, HasNoName, HasNoFree, HasNoneForgotten, IsFull}
use Rattle.std.proofs.lemmas.Bool.Decides.{not_from_Decides}
use Rattle.std.proofs.Math.ListN.{get_or-map}
use Rattle.xa_log.proofs.Transactions.{tran_cmp_total, tran_cmp-IsAntisymmetric, decides_by_cmp, tran_eq-by_cmp}
use Rattle.std.specs.FinMap as finmap

-- BYTES
pub part_few : (l : List ℕ) → is_part l ≡ true → length l ≤ 64
part_few l valid = grind (arith, nat_tests)

pub number : List ℕ → ℤ
number bytes = cast_signed w32 (from_be_bytes w32 bytes)

pub number_is : (bytes : List ℕ) → number bytes ≡ cast_signed w32 (from_be_bytes w32 bytes)
unfolding number
number_is bytes = refl

number_again : (z : ℤ) → FitsSigned w32 z → number (to_be_bytes w32 (cast_unsigned w32 z)) ≡ z
unfolding number
number_again z f =
    ap (cast_signed w32) (from_be_bytes-to_be_bytes_4 (cast_unsigned w32 z) (of_z_fits w32 z f).fits)
    ∙ to_z-of_z w32 z f

eight_votes : (votes : List Bool) → length votes ≡ 8 → set_of (is_in votes) ≡ votes
eight_votes votes long = sym (eight votes long)

bit_again : (t : Bool) → eqb (cond t 1 0) 1 ≡ t
bit_again t = search (arith, rules)

-- the record that the bytes spell, if they spell one
abbrev pub unspelled : List ℕ → CommitRecord
unspelled body = record {
  tran = record { format = number (take 4 body); gtrid = take (get_or body 4 0) (drop 5 body) };
  yes = map (λ b. eqb b 1) (take 8 (drop 69 body));
}

after_name : (p y m : List ℕ) → length p ≡ 64 → drop 64 ((p ++ y) ++ m) ≡ y ++ m
after_name p y m size = ap (λ (l : List ℕ). drop 64 l) (append_assoc p y m) ∙ drop_at p (y ++ m) 64 size

length-tran_bytes : (r : CommitRecord) → IsValid r → length (tran_bytes r.tran) ≡ 64
length-tran_bytes r valid = search (arith, length-append, length-replicate, part_few, r.tran.gtrid)

pub unspelled_again : (r : CommitRecord) → IsValid r → unspelled (spelling r) ≡ r
unfolding spelling fields
unspelled_again r valid =
    search (arith, number_again, after_name, length-tran_bytes, bit_again, eight_votes, append_assoc, take_at)

pub length_again : (r : CommitRecord) → get_or (spelling r) 4 0 ≡ length r.tran.gtrid
unfolding spelling fields
length_again r = refl

-- a spelling is of one record
pub same_record : (r s : CommitRecord) → IsValid r → IsValid s → spelling r ≡ spelling s → r ≡ s
same_record r s vr vs e = sym (unspelled_again r vr) ∙ ap unspelled e ∙ unspelled_again s vs

-- the zeros between the gtrid and the managers
zeros_left : (g : ℕ) → g ≤ 64 → take (64 - g) (drop g (replicate {A = ℕ} 72 0)) ≡ replicate (64 - g) 0
zeros_left g few =
    ap (λ (l : List ℕ). take (64 - g) l) (drop-replicate g 72 0) ∙ take-replicate (64 - g) (72 - g) 0 (omega arith)

pub put_together : (r : CommitRecord) → length r.tran.gtrid ≤ 64
    → to_be_bytes w32 (cast_unsigned w32 r.tran.format) ++ ((length r.tran.gtrid ∷ []) ++ (r.tran.gtrid
    ++ (take (64 - length r.tran.gtrid) (drop (length r.tran.gtrid) (drop 1 (drop 4 (replicate 77 0)))) ++ yes_bytes
    r.yes)))
    ≡ fields r
unfolding fields
put_together r few = let padding = zeros_left (length r.tran.gtrid) few in search (arith, append_assoc, r.tran.gtrid)

pub eight_numbers : (bytes : List ℕ) → length bytes ≡ 8
    → bytes ≡ get_or bytes 0 0 ∷ get_or bytes 1 0 ∷ get_or bytes 2 0 ∷ get_or bytes 3 0 ∷ get_or bytes 4 0
    ∷ get_or bytes 5 0 ∷ get_or bytes 6 0 ∷ get_or bytes 7 0 ∷ []
eight_numbers (a ∷ b ∷ c ∷ d ∷ e ∷ f ∷ g ∷ h ∷ []) long = refl
eight_numbers bytes long = absurd (let no : ⊥ = omega (arith, long) in no)

-- what is read of a record's bytes
pub read_name : (body : List ℕ) (r : CommitRecord) (z : ℤ) → IsValid r → body ≡ spelling r → 4 ≤ length body
    → FitsSigned w32 z
    → z ≡ cast_signed w32
    (from_be_bytes w32 (get_or body 0 0 ∷ get_or body 1 0 ∷ get_or body 2 0 ∷ get_or body 3 0 ∷ []))
    → new_tran (to_z w32 (of_z w32 z)) (take (5 + get_or body 4 0 - 5) (drop 5 body)) ≡ Ok r.tran
read_name body r z valid is long fits format =
    let first : to_z w32 (of_z w32 z) ≡ number (take 4 body) = search (arith, to_z-of_z, number_is) in
    let len : 5 + get_or body 4 0 - 5 ≡ get_or body 4 0 = omega arith in
    search (arith, unspelled_again r)

pub read_votes : (body : List ℕ) (r : CommitRecord) → IsValid r → body ≡ spelling r
    → map (λ b. eqb b 1) (take 8 (drop 69 body)) ≡ r.yes
read_votes body r valid is = search (arith, unspelled_again)

-- which gates there are
gate_of : (o : Option CommitRecord) (bytes : List ℕ) → IsSlotOf o bytes → o ≡ None → get_or bytes 0 0 ≡ 0
gate_of o bytes has none =
    sym (get_or-take 1 bytes 0 0 (omega arith)) ∙ ap (λ (l : List ℕ). get_or l 0 0) (has.free none)

pub no_body : (o : Option CommitRecord) (bytes : List ℕ) → get_or bytes 0 0 ≡ 255
    → ((r : CommitRecord) → IsValid r → drop 1 bytes ≡ spelling r → ⊥)
    → IsSlotOf o bytes → ⊥
no_body o bytes gate none has = search (arith, gate_of)

pub no_gate : (o : Option CommitRecord) (bytes : List ℕ) → (get_or bytes 0 0 ≡ 0 → ⊥) → (get_or bytes 0 0 ≡ 255 → ⊥)
    → IsSlotOf o bytes → ⊥
no_gate None bytes shut wide has = shut (gate_of None bytes has refl)
no_gate (Some r) bytes shut wide has = wide (ap (λ (l : List ℕ). get_or l 0 0) (has.taken r refl))

-- two names are one, or they aren't
pub tran_tells : (q t : TranName)
    → ((eq_by_cmp tran_cmp q t ≡ true) × (q ≡ t)) ⊎ ((eq_by_cmp tran_cmp q t ≡ false) × (q ≡ t → ⊥))
tran_tells q t = search (arith, decides_by_cmp, not_from_Decides, eq_by_cmp, cases_Bool)

-- TABLES
-- what the table has of a transaction
pub get_found : (table : RecordTable) (q : TranName) → finmap.get (records_of table) q ≡ find tran_cmp q (entries table)
get_found table q = get-from_entries tran_cmp_total (entries table) q

-- one more record
find_set : (table : RecordTable) (k : ℕ) (r : CommitRecord) (q : TranName) → k < length table
    → get_or table k None ≡ None
    → find tran_cmp r.tran (entries table) ≡ None
    → find tran_cmp q (entries (set table k (Some r))) ≡ cond (eq_by_cmp tran_cmp q r.tran) (Some r.yes)
    (find tran_cmp q (entries table))
find_set [] k r q below free absent = absurd (omega arith)
find_set (None ∷ table) zero r q below free absent = refl
find_set (Some e ∷ table) zero r q below free absent = cc
find_set (None ∷ table) (suc k) r q below free absent = find_set table k r q (omega arith) free absent
find_set (Some e ∷ table) (suc k) r q below free absent =
    search (arith, find_set table k r q (omega arith) free, tran_tells, r.tran)

-- the record of a transaction that has none, in a free place
pub records_set : (table : RecordTable) (k : ℕ) (r : CommitRecord) → k < length table → get_or table k None ≡ None
    → finmap.get (records_of table) r.tran ≡ None
    → records_of (set table k (Some r)) ≡ finmap.insert (records_of table) r.tran r.yes
records_set table k r below free absent =
    put_one tran_cmp_total tran_cmp-IsAntisymmetric (entries table) (entries (set table k (Some r))) r.tran r.yes
    (λ q. find_set table k r q below free (sym (get_found table r.tran) ∙ absent))

-- the place of what the table has of a transaction
pub record IsAt (table : RecordTable) (q : TranName) (o : Option (List Bool)) : Type 0 where
  pub place : ℕ
  pub found : CommitRecord
  pub there : get_or table place None ≡ Some found
  pub named : found.tran ≡ q
  pub votes : o ≡ Some found.yes

later : (e : Option CommitRecord) (table : RecordTable) (q : TranName) {o p : Option (List Bool)} → p ≡ o
    → (o ≡ None) ⊎ IsAt table q o
    → (p ≡ None) ⊎ IsAt (e ∷ table) q p
later e table q same (inl none) = inl (same ∙ none)
later e table q same (inr at) =
    inr (record { place = suc at.place; found = at.found; there = at.there; named = at.named; votes = same ∙ at.votes })

finds : (table : RecordTable) (q : TranName)
    → (find tran_cmp q (entries table) ≡ None) ⊎ IsAt table q (find tran_cmp q (entries table))
finds [] q = inl refl
finds (None ∷ table) q = later None table q refl (finds table q)
finds (Some r ∷ table) q = ⊎_elim
    (λ own. inr
    (record {
      place = 0;
      found = r;
      there = refl;
      named = sym own.1;
      votes = at_true (eq_by_cmp tran_cmp q r.tran) _ _ own.0;
    }))
    (λ other. later (Some r) table q (at_false (eq_by_cmp tran_cmp q r.tran) (Some r.yes) _ other.0) (finds table q))
    (tran_tells q r.tran)

pub none_or_at : (table : RecordTable) (q : TranName)
    → (record_in (records_of table) q ≡ None) ⊎ IsAt table q (record_in (records_of table) q)
none_or_at table q = rw (get_found table q) (finds table q)

apart_later : (o : Option CommitRecord) (table : RecordTable) → NoTransactionTwice (o ∷ table)
    → NoTransactionTwice table
apart_later o table apart j k t a b = let e = apart (suc j) (suc k) t a b in omega (arith, e)

found_there : (table : RecordTable) → NoTransactionTwice table → (k : ℕ) (r : CommitRecord)
    → get_or table k None ≡ Some r
    → find tran_cmp r.tran (entries table) ≡ Some r.yes
found_there (None ∷ table) apart (suc k) r there = found_there table (apart_later None table apart) k r there
found_there (Some s ∷ table) apart zero r there = grind (arith, tran_tells r.tran s.tran)
found_there (Some s ∷ table) apart (suc k) r there =
    grind (
      arith,
      found_there table (apart_later (Some s) table apart) k r there,
      tran_tells r.tran s.tran,
      apart 0
          (suc k) r.tran,
    )
found_there table apart k r there = absurd (cc (there))

pub found_at : (table : RecordTable) → NoTransactionTwice table → (k : ℕ) (r : CommitRecord) (q : TranName)
    → get_or table k None ≡ Some r → r.tran ≡ q
    → record_in (records_of table) q ≡ Some r.yes
found_at table apart k r q there named = search (arith, get_found, found_there, apart)

-- SLOTS
-- a part of what the file has of a slot
pub record IsPart (f : LogSlot → Option CommitRecord) : Type 0 where
  pub free : f Free ≡ None
  pub within : (s : LogSlot) (r : CommitRecord) → f s ≡ Some r → on_file s ≡ Some r

pub whole_part : IsPart on_file
whole_part = record { free = refl; within = λ s r e. e }

pub taken_part : IsPart taken
taken_part = search (arith, rules)

pub forgotten_part : IsPart forgotten_record
forgotten_part = search (arith, rules)

-- what the file has counts, or is forgotten
pub counts_or_forgotten : (s : LogSlot) (r : CommitRecord) → on_file s ≡ Some r
    → (taken s ≡ Some r) ⊎ (forgotten_record s ≡ Some r)
counts_or_forgotten s r is = search (arith, rules)

pub at_slot : {X : Type 0} (f : LogSlot → X) {d : X} → f Free ≡ d → (slots : List LogSlot) (k : ℕ)
    → get_or (map f slots) k d ≡ f (get_or slots k Free)
at_slot f free slots k = rw (← free) (get_or-map f slots k Free)

pub at_map : (f : LogSlot → Option CommitRecord) → IsPart f → (slots : List LogSlot) (k : ℕ)
    → get_or (map f slots) k None ≡ f (get_or slots k Free)
at_map f part = at_slot f part.free

-- of two slots with one name
pub names_apart : (slots : List LogSlot) → NoTransactionTwice (table_of slots) → (j k : ℕ) (t : TranName)
    → tran_in_slot slots j ≡ Some t
    → tran_in_slot slots k ≡ Some t → j ≡ k
names_apart slots apart j k t a b = search (arith, at_map, whole_part, apart, t)

pub apart_names : (slots : List LogSlot)
    → ((j k : ℕ) (t : TranName) → tran_in_slot slots j ≡ Some t → tran_in_slot slots k ≡ Some t → j ≡ k)
    → NoTransactionTwice (table_of slots)
apart_names slots one j k t a b = search (arith, at_map, whole_part)

pub apart_within : (table : RecordTable) (slots : List LogSlot)
    → ((k : ℕ) (r : CommitRecord) → get_or table k None ≡ Some r → on_file (get_or slots k Free) ≡ Some r)
    → NoTransactionTwice (table_of slots) → NoTransactionTwice table
apart_within table slots within apart j k t a b = search (arith, names_apart)

pub apart_part : (f : LogSlot → Option CommitRecord) → IsPart f → (slots : List LogSlot)
    → NoTransactionTwice (table_of slots)
    → NoTransactionTwice (map f slots)
apart_part f part slots =
    apart_within (map f slots) slots (λ k r is. part.within (get_or slots k Free) r (sym (at_map f part slots k) ∙ is))

-- what is found of a transaction among the parts of the slots, and that nothing is
pub part_found : {f : LogSlot → Option CommitRecord} → IsPart f → (slots : List LogSlot)
    → NoTransactionTwice (table_of slots)
    → (k : ℕ) (r : CommitRecord) (q : TranName)
    → f (get_or slots k Free) ≡ Some r → r.tran ≡ q → record_in (records_of (map f slots)) q ≡ Some r.yes
part_found {f} part slots apart k r q is =
    found_at (map f slots) (apart_part f part slots apart) k r q (at_map f part slots k ∙ is)

pub part_none : {f : LogSlot → Option CommitRecord} → IsPart f → (slots : List LogSlot) (q : TranName)
    → ((k : ℕ) (r : CommitRecord) → f (get_or slots k Free) ≡ Some r → r.tran ≡ q → ⊥)
    → record_in (records_of (map f slots)) q ≡ None
part_none {f} part slots q never = search (arith, at_map, none_or_at)

-- a record that is forgotten leaves none that counts
not_taken : (s : LogSlot) (r q : CommitRecord) → forgotten_record s ≡ Some r → taken s ≡ Some q → ⊥
not_taken s r q a b = search (arith, rules)

pub one_part : (slots : List LogSlot) → NoTransactionTwice (table_of slots) → (j k : ℕ) (q r : CommitRecord)
    → forgotten_record (get_or slots j Free) ≡ Some q
    → taken (get_or slots k Free) ≡ Some r → q.tran ≡ r.tran → ⊥
one_part slots apart j k q r gone counts same =
    search (
      arith,
      names_apart slots apart j k r.tran,
      forgotten_part.within (get_or slots j Free) q,
      taken_part.within
          (get_or slots k Free) r,
      not_taken,
    )

pub not_counted : (slots : List LogSlot) (t : TranName)
    → ((k : ℕ) → tran_in_slot slots k ≡ Some t → taken (get_or slots k Free) ≡ None)
    → record_in (records_in slots) t ≡ None
not_counted slots t none = search (arith, part_none, taken_part)

-- what is said of a record that counts
pub counted_found : (slots : List LogSlot) → NoTransactionTwice (table_of slots)
    → (k : ℕ) (t : TranName) (r : CommitRecord)
    → get_or slots k Free ≡ Taken r
    → tran_in_slot slots k ≡ Some t → record_in (records_in slots) t ≡ Some r.yes
counted_found slots apart k t r is named = search (arith, part_found, taken_part)

-- ONE TABLE
-- a gate isn't both
apart : (bytes body : List ℕ) → take 1 bytes ≡ 0 ∷ [] → bytes ≡ 255 ∷ body → ⊥
apart bytes body free taken = search (arith, rules)

pub same_slot : (a b : Option CommitRecord) (bytes : List ℕ) → IsSlotOf a bytes → IsSlotOf b bytes → a ≡ b
same_slot None None bytes ha hb = refl
same_slot None (Some s) bytes ha hb = absurd (apart bytes (spelling s) (ha.free refl) (hb.taken s refl))
same_slot (Some r) None bytes ha hb = absurd (apart bytes (spelling r) (hb.free refl) (ha.taken r refl))
same_slot (Some r) (Some s) bytes ha hb =
    search (arith, same_record r s, ha.taken r, hb.taken s, ha.valid r, hb.valid s)

pub one_table : (one other : RecordTable) (file : List ℕ) → StandsFor one file → StandsFor other file → one ≡ other
one_table one other file a b = search (arith, ext_get_or None one other, same_slot, a.each, b.each, a.size, b.size)

pub one_content : (table : RecordTable) (file : List ℕ) → StandsFor table file → (records : Records)
    → HasRecords records file
    → records_of table ≡ records
one_content table file stands records there =
    ap records_of (one_table table there.table file stands there.stands) ∙ there.same

-- SHUT
pub mapped_as : {X : Type 0} (f : LogSlot → LogSlot) (g h : LogSlot → X) → ((s : LogSlot) → g (f s) ≡ h s)
    → (slots : List LogSlot)
    → map g (map f slots) ≡ map h slots
mapped_as f g h same slots = map-map g f slots ∙ (λ i. map (λ s. same s i) slots)

shut_whole : (s : LogSlot) → on_file (shut s) ≡ taken s
shut_whole s = search (arith, rules)

pub shut_on_file : (slots : List LogSlot) → table_of (map shut slots) ≡ map taken slots
shut_on_file = mapped_as shut on_file taken shut_whole

none_forgotten : (s : LogSlot) → forgotten_record (shut s) ≡ None
none_forgotten s = search (arith, rules)

-- where none is forgotten, each record of the file counts
pub all_count : (slots : List LogSlot) → HasNoneForgotten slots → map taken slots ≡ table_of slots
all_count [] none = refl
all_count (Forgotten r ∷ slots) none = absurd (let is = none 0 in cc (is))
all_count (s ∷ slots) none = ap (λ (table : RecordTable). on_file s ∷ table) (all_count slots (λ k. none (suc k)))

none_shut : (slots : List LogSlot) → HasNoneForgotten (map shut slots)
none_shut slots k = ap forgotten_record (at_slot shut refl slots k) ∙ none_forgotten (get_or slots k Free)

pub shut_counts : (slots : List LogSlot) → map taken (map shut slots) ≡ map taken slots
shut_counts slots = all_count (map shut slots) (none_shut slots) ∙ shut_on_file slots

pub none_forgotten_shut : (slots : List LogSlot) (t : TranName) → record_in (forgotten_in (map shut slots)) t ≡ None
none_forgotten_shut slots t =
    part_none forgotten_part (map shut slots) t (λ k r is. let none = none_shut slots k in absurd (cc (is, none)))

-- a name that is left once gates are shut has a record
pub named_record : (s : LogSlot) (t : TranName) → tran_of_record (on_file (shut s)) ≡ Some t
    → (r : CommitRecord) × ((s ≡ Taken r) × (r.tran ≡ t))
named_record (Taken r) t is = (r, (refl, cc (is)))
named_record s t is = absurd (cc (is))

pub none_named_shut : (slots : List LogSlot) → NoTransactionTwice (table_of slots) → (t : TranName)
    → record_in (records_in slots) t ≡ None → HasNoName (map shut slots) t
none_named_shut slots apart t none k is = search (arith, named_record, at_slot, part_found, taken_part)

pub shut_free : (s : LogSlot) → taken s ≡ None → shut s ≡ Free
shut_free s none = search (arith, rules)

-- FORGOTTEN
pub same_on_file : (test : TranName → Bool) (s : LogSlot) → on_file (forgets test s) ≡ on_file s
same_on_file test s = search (arith, rules)

pub forgets_on_file : (test : TranName → Bool) (slots : List LogSlot)
    → table_of (map (forgets test) slots) ≡ table_of slots
forgets_on_file test = mapped_as (forgets test) on_file on_file (same_on_file test)

finds_others : (test : TranName → Bool) (slots : List LogSlot) (q : TranName)
    → find tran_cmp q (entries (map taken (map (forgets test) slots))) ≡ cond (test q) None
    (find tran_cmp q (entries (map taken slots)))
finds_others test [] q = by_if (λ (o : Option (List Bool)). None ≡ o) (test q) None None (λ yes. refl) (λ no. refl)
finds_others test (Taken r ∷ slots) q = search (arith, finds_others test slots q, eq_by_cmp, tran_tells)
finds_others test (s ∷ slots) q = finds_others test slots q

pub records_without : (slots : List LogSlot) (t : TranName)
    → records_in (map (forgets (λ q. tran_eq t q)) slots) ≡ finmap.remove (records_in slots) t
records_without slots t =
    let swap : (q : TranName) → eq_by_cmp tran_cmp t q ≡ eq_by_cmp tran_cmp q t =
    λ q. (eq_by_cmp_equiv tran_cmp_total).symm t q in
    remove_one tran_cmp_total tran_cmp-IsAntisymmetric (entries (map taken slots))
    (entries (map taken (map (forgets (λ q. tran_eq t q)) slots))) t
    (λ q. search (arith, finds_others (λ x. tran_eq t x) slots q, tran_eq-by_cmp t q, swap q)) swap

pub records_only : (slots : List LogSlot) (ts : List TranName)
    → records_in (map (forgets (λ q. not (is_among ts q))) slots) ≡ finmap.retain_keys (records_in slots) (is_among ts)
records_only slots ts =
    retain_some tran_cmp_total tran_cmp-IsAntisymmetric (entries (map taken slots))
    (entries (map taken (map (forgets (λ q. not (is_among ts q))) slots)))
    (is_among ts) (λ q. search (arith, finds_others (λ x. not (is_among ts x)) slots q, rules))

-- what is forgotten anew was taken or forgotten
pub forgets_its_own : (test : TranName → Bool) (slots : List LogSlot) → NoTransactionTwice (table_of slots)
    → (t : TranName)
    → (record_in (forgotten_in (map (forgets test) slots)) t ≡ None)
    ⊎ ((record_in (forgotten_in (map (forgets test) slots)) t ≡ record_in (records_in slots) t)
    ⊎ (record_in (forgotten_in (map (forgets test) slots)) t ≡ record_in (forgotten_in slots) t))
forgets_its_own test slots apart t =
    search (
      arith,
      forgotten_part,
      at_map,
      at_slot,
      same_on_file,
      part_found,
      taken_part,
      apart,
      counts_or_forgotten,
      none_or_at,
    )

-- TAKEN
pub takes_record : (slots : List LogSlot) (k : ℕ) (r : CommitRecord) → k < length slots → get_or slots k Free ≡ Free
    → finmap.get (records_in slots) r.tran ≡ None
    → records_in (set slots k (Taken r)) ≡ finmap.insert (records_in slots) r.tran r.yes
takes_record slots k r below free absent = search (arith, map-set, records_set, length-map, at_map, taken_part)

-- a name is the new one, or stands where it stood
pub name_set : (slots : List LogSlot) (k : ℕ) (r : CommitRecord) → k < length slots → (j : ℕ) (t : TranName)
    → tran_in_slot (set slots k (Taken r)) j ≡ Some t
    → ((j ≡ k) × (r.tran ≡ t)) ⊎ (tran_in_slot slots j ≡ Some t)
name_set slots k r below j t named = search (arith, cases_eq, get_or-set_same, get_or-set_other)

pub apart_set : (slots : List LogSlot) (k : ℕ) (r : CommitRecord) → k < length slots → HasNoName slots r.tran
    → NoTransactionTwice (table_of slots)
    → NoTransactionTwice (table_of (set slots k (Taken r)))
apart_set slots k r below new apart = apart_names (set slots k (Taken r)) (λ i j t a b.
    search (
      arith,
      names_apart slots apart i j t,
      name_set slots k r below i t a,
      name_set slots k r below j t b,
      new i,
      new j,
    ))

pub new_table : (n : ℕ) → table_of (replicate n Free) ≡ replicate n None
new_table zero = refl
new_table (suc n) = ap (λ (l : RecordTable). None ∷ l) (new_table n)
