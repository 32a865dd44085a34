-- What a file has of its slots: as they are written, as gates are shut, as they are read, and what an append leaves.
use Rattle.xa_base.proofs.{rules, ◌≡◌, ◌≢◌, inl, inr, ⊎_elim, ℕ, ◌+◌, ◌*◌, ◌<◌, ◌≤◌, Option, None, Some, List, [], ◌∷◌}
use Rattle.xa_base.proofs.{◌++◌, length, get_or, map, set, take, drop, refl, sym, ◌∙◌, ap, arith, length-set}
use Rattle.xa_base.proofs.{length-append, length-drop, cases_eq, cases_lt, length-map, get_or-set_same}
use Rattle.xa_base.proofs.{get_or-set_other, Bool, replicate, FinMap, length-replicate, take-take, take_at, drop-drop}
use Rattle.xa_base.proofs.{◌⊎◌, suc, zero, get_or_past}
use Rattle.std.proofs.lemmas.List.{length-take-le}
use Rattle.xa_log.specs.{CommitRecord, tran_cmp, Records, record_in}
use Rattle.xa_log_file.specs.{LogSlot, Free, Taken, log_overwritten, IsOverwritten, Torn, spelling, head, IsValid, slot}
use Rattle.xa_log_file.specs.{NoTransactionTwice, IsSlotOf, StandsFor, IsDurable, on_file, table_of, HasBody, HasNoName}
use Rattle.xa_log_file.specs.{MayHave, MayShow, Forgotten, taken, forgotten_record, forgets, tran_of_record, IsNoLog}
use Rattle.xa_log_file.specs.{HasName, HasNoneForgotten, IsIndexOf, RecordTable, records_of, records_in, forgotten_in}
use Rattle.xa_log_file.specs.{HasRecordsAndPerhaps, LeavesOnly, HasWithOrWithout, ForgetsNoMore, shut}
use Rattle.xa_words.specs.{TranName}
use Rattle.xa_log_file.proofs.Moments.{length-overwritten, take-overwritten, drop-overwritten, drop-overwritten_past}
use Rattle.xa_log_file.proofs.Moments.{drop_overwritten_in, part-overwritten, weaker, joined}
use Rattle.xa_log_file.proofs.Tables.{IsPart, at_map, whole_part, apart_set, at_slot, taken_part, apart_part}
use Rattle.xa_log_file.proofs.Tables.{forgets_on_file, same_slot, forgotten_part, apart_within, shut_counts}
use Rattle.xa_log_file.proofs.Tables.{none_forgotten_shut, takes_record, found_at, one_part, counts_or_forgotten}
use Rattle.xa_log_file.proofs.Tables.{none_or_at, part_found, part_none}
use Rattle.xa_log_file.proofs.Places.{index_apart, all_free}
use Rattle.std.specs.FinMap as finmap

-- STANDS
-- a file of so many slots, of each of which P says what it is
pub record HasSlots (n : ℕ) (P : ℕ → List ℕ → Type 0) (file : List ℕ) : Type 0 where
  pub few : n ≤ 65536
  pub size : length file ≡ 18 + 94 * n
  pub header : take 18 file ≡ head n
  pub each : (k : ℕ) → k < n → P k (slot k file)

pub slots_as : {m n : ℕ} {P Q : ℕ → List ℕ → Type 0} {file : List ℕ} → m ≡ n → HasSlots n P file
    → ((k : ℕ) → k < n → P k (slot k file) → Q k (slot k file)) → HasSlots m Q file
slots_as same has f = search (arith, has.each)

-- WRITES
-- the gate of a slot, and its body
gate_of : (k : ℕ) (file : List ℕ) → take 1 (slot k file) ≡ take 1 (drop (18 + 94 * k) file)
gate_of k file = take-take 1 94 (drop (18 + 94 * k) file) (omega arith)

tail_of : (l : List ℕ) → drop 1 (take 94 l) ≡ take 93 (drop 1 l)
tail_of l = search (arith, rules)

module _ {n : ℕ} {P : ℕ → List ℕ → Type 0} {file : List ℕ} (k : ℕ) (has : HasSlots n P file) (below : k < n) where
  -- a write within slot k leaves the others
  slot_written : {Q : ℕ → List ℕ → Type 0} (at : ℕ) (bytes : List ℕ) → 18 + 94 * k ≤ at
      → at + length bytes ≤ 112 + 94 * k
      → Q k (slot k (log_overwritten file at bytes)) → ((j : ℕ) → j ≢ k → P j (slot j file) → Q j (slot j file))
      → HasSlots n Q (log_overwritten file at bytes)
  slot_written {Q} at bytes from to this others =
      let within : at + length bytes ≤ length file = omega (arith, has.size) in
      let same : (j : ℕ) → j < n → j ≢ k → slot j (log_overwritten file at bytes) ≡ slot j file = λ j here apart.
      search (
        arith,
        cases_lt j k,
        part-overwritten file at bytes within (18 + 94 * j) 94,
        drop-overwritten_past file at
            bytes within (18 + 94 * j),
      ) in
      let each : (j : ℕ) → j < n → Q j (slot j (log_overwritten file at bytes)) =
      λ j here. search (arith, cases_eq j k, same j here, others j, has.each j here) in
      search (arith, each, length-overwritten file at bytes within, take-overwritten file at bytes within 18, has)

  -- a gate is written
  pub gate_written : {Q : ℕ → List ℕ → Type 0} (b : ℕ) → Q k (b ∷ drop 1 (slot k file))
      → ((j : ℕ) → j ≢ k → P j (slot j file) → Q j (slot j file))
      → HasSlots n Q (log_overwritten file (18 + 94 * k) (b ∷ []))
  gate_written {Q} b this others =
      let within : 18 + 94 * k + 1 ≤ length file = omega (arith, has.size) in
      let room : 18 + 94 * k + 1 ≤ 112 + 94 * k = omega arith in
      let bytes : slot k (log_overwritten file (18 + 94 * k) (b ∷ [])) ≡ b ∷ drop 1 (slot k file) =
      search (arith, drop-overwritten, tail_of, drop-drop) in
      slot_written (18 + 94 * k) (b ∷ []) (omega arith) room (rw bytes this) others

  -- a body is
  pub body_slot : (body : List ℕ) → length body ≡ 93
      → slot k (log_overwritten file (18 + 94 * k + 1) body) ≡ take 1 (slot k file) ++ body
  body_slot body size =
      let first : length (take 1 (drop (18 + 94 * k) file)) ≡ 1 = search (arith, length-take-le, length-drop) in
      ap (λ (l : List ℕ). take 94 l) (drop_overwritten_in file (18 + 94 * k) 1 body (omega (arith, has.size)))
      ∙ take_at (take 1 (drop (18 + 94 * k) file) ++ body) (drop (1 + length body) (drop (18 + 94 * k) file)) 94
      (omega (arith, length-append (take 1 (drop (18 + 94 * k) file)) body, first))
      ∙ ap (λ (l : List ℕ). l ++ body) (sym (gate_of k file))

  pub body_written : {Q : ℕ → List ℕ → Type 0} (body : List ℕ) → length body ≡ 93 → Q k (take 1 (slot k file) ++ body)
      → ((j : ℕ) → j ≢ k → P j (slot j file) → Q j (slot j file))
      → HasSlots n Q (log_overwritten file (18 + 94 * k + 1) body)
  body_written body size this others =
      slot_written (18 + 94 * k + 1) body (omega arith) (omega arith) (rw (body_slot body size) this) others

-- a crash comes in between
pub gate_torn : {n : ℕ} {P : ℕ → List ℕ → Type 0} {d c : List ℕ} (k b : ℕ) → HasSlots n P d → k < n
    → P k (b ∷ drop 1 (slot k d))
    → Torn (18 + 94 * k) (b ∷ []) d c → HasSlots n P c
gate_torn k b has below this torn = ⊎_elim (λ before. rw before has)
    (λ after. rw after (gate_written k has below b this (λ j apart is. is))) (torn.whole.alone b refl)

-- SLOT AFTER SLOT
-- what is said of a slot that was done, before this place, and of one that is to be
pub record Between (New Old : ℕ → List ℕ → Type 0) (n k : ℕ) (bytes : List ℕ) : Type 0 where
  pub done : k < n → New k bytes
  pub later : n ≤ k → Old k bytes

one_on : {New Old : ℕ → List ℕ → Type 0} {n j : ℕ} {bytes : List ℕ} → j ≢ n → Between New Old n j bytes
    → Between New Old (n + 1) j bytes
one_on other is =
    record { done = λ before. is.done (omega (arith, other, before)); later = λ from. is.later (omega (arith, from)) }

this_done : {New Old : ℕ → List ℕ → Type 0} {n : ℕ} {bytes : List ℕ} → New n bytes → Between New Old (n + 1) n bytes
this_done now = record { done = λ before. now; later = λ from. absurd (omega (arith, from)) }

pub starts : {m n : ℕ} {New Old : ℕ → List ℕ → Type 0} {file : List ℕ} → HasSlots m Old file
    → ((k : ℕ) → k < n → Old k (slot k file) → New k (slot k file)) → HasSlots m (Between New Old n) file
starts has early = slots_as refl has (λ k below is. record { done = λ before. early k before is; later = λ from. is })

module _ {m n : ℕ} {New Old : ℕ → List ℕ → Type 0} {file : List ℕ} (has : HasSlots m (Between New Old n) file) where
  pub passes : n < m → (Old n (slot n file) → New n (slot n file)) → HasSlots m (Between New Old (n + 1)) file
  passes below now = search (arith, slots_as, cases_eq, this_done, one_on, has.each)

  pub gate_done : (b : ℕ) → n < m → (Old n (slot n file) → New n (b ∷ drop 1 (slot n file)))
      → HasSlots m (Between New Old (n + 1)) (log_overwritten file (18 + 94 * n) (b ∷ []))
  gate_done b below now =
      gate_written n has below b (this_done (now ((has.each n below).later (omega arith))))
      (λ j apart is. one_on apart is)

  pub body_done : (body : List ℕ) → n < m → length body ≡ 93
      → (Old n (slot n file) → New n (take 1 (slot n file) ++ body))
      → HasSlots m (Between New Old (n + 1)) (log_overwritten file (18 + 94 * n + 1) body)
  body_done body below size now =
      body_written n has below body size (this_done (now ((has.each n below).later (omega arith))))
      (λ j apart is. one_on apart is)

  pub ends : ((k : ℕ) → k < m → n ≤ k → Old k (slot k file) → New k (slot k file)) → HasSlots m New file
  ends rest = search (arith, slots_as, cases_lt)

-- TABLES
-- slot k has what f says of it
abbrev pub Has : (LogSlot → Option CommitRecord) → List LogSlot → ℕ → List ℕ → Type 0
Has f slots k bytes = IsSlotOf (f (get_or slots k Free)) bytes

pub slots_of : {f : LogSlot → Option CommitRecord} → IsPart f → (slots : List LogSlot) {file : List ℕ}
    → StandsFor (map f slots) file
    → HasSlots (length slots) (Has f slots) file
slots_of {f} part slots {file} stands = search (arith, length-map, at_map, stands.each)

pub stands_of : {f : LogSlot → Option CommitRecord} → IsPart f → (slots : List LogSlot) {file : List ℕ}
    → HasSlots (length slots) (Has f slots) file
    → NoTransactionTwice (map f slots) → StandsFor (map f slots) file
stands_of {f} part slots {file} has apart = search (arith, length-map, at_map, has.each)

pub slots_shown : {slots : List LogSlot} {file : List ℕ} → MayShow slots file
    → HasSlots (length slots) (λ k. MayHave (get_or slots k Free)) file
slots_shown shown = record { few = shown.few; size = shown.size; header = shown.header; each = shown.each }

pub shown_of : {slots : List LogSlot} {file : List ℕ}
    → HasSlots (length slots) (λ k. MayHave (get_or slots k Free)) file
    → NoTransactionTwice (table_of slots)
    → MayShow slots file
shown_of has apart = record { few = has.few; size = has.size; header = has.header; apart = apart; each = has.each }

pub surely : {s : LogSlot} {bytes : List ℕ} → IsSlotOf (on_file s) bytes → MayHave s bytes
surely is = record { counts = λ none. is; unshut = λ wide. is }

-- a file that stands for the slots may show them
pub stands_shown : (slots : List LogSlot) (file : List ℕ) → StandsFor (table_of slots) file → MayShow slots file
stands_shown slots file stands =
    shown_of (slots_as refl (slots_of whole_part slots stands) (λ k below is. surely is)) stands.apart

-- and so does what a crash leaves once it is synced
pub settled_shown : {D : Type 0} {seen : D → List ℕ} {may_leave : D → List ℕ → Type 0} (slots : List LogSlot)
    {device : D}
    → IsDurable seen may_leave (table_of slots) device → (c : List ℕ) → may_leave device c → MayShow slots c
settled_shown slots settled c left = stands_shown slots c (rw (settled.durable c left) settled.stands)

-- what has a shut gate, and what has an open one before a record
pub shut_slot : {bytes : List ℕ} → take 1 bytes ≡ 0 ∷ [] → IsSlotOf None bytes
shut_slot is = record { free = λ none. is; taken = λ r no. absurd (cc (no)); valid = λ r no. absurd (cc (no)) }

pub open_slot : {r : CommitRecord} {body : List ℕ} → body ≡ spelling r → IsValid r → IsSlotOf (Some r) (255 ∷ body)
open_slot {r} spells valid = search (arith, rules)

-- a body after a shut gate isn't looked at
pub still_free : {s : LogSlot} {bytes : List ℕ} (body : List ℕ) → s ≡ Free → IsSlotOf (on_file s) bytes
    → IsSlotOf (on_file s) (take 1 bytes ++ body)
still_free {s} {bytes} body free is = search (arith, shut_slot, is.free)

-- ONE RECORD
module _ (slots : List LogSlot) (k : ℕ) {file : List ℕ} (stands : StandsFor (table_of slots) file)
    (below : k < length slots) where
  -- a body is written
  pub staged : (body : List ℕ) → get_or slots k Free ≡ Free → length body ≡ 93
      → StandsFor (table_of slots) (log_overwritten file (18 + 94 * k + 1) body)
  staged body free size =
      let has = slots_of whole_part slots stands in
      stands_of whole_part slots
      (body_written k has below body size (still_free body free (has.each k below)) (λ j apart is. is)) stands.apart

  -- which a crash may cut short
  pub stage_torn : {body c : List ℕ} → get_or slots k Free ≡ Free → length body ≡ 93
      → IsOverwritten file (18 + 94 * k + 1) body c
      → StandsFor (table_of slots) c
  stage_torn free size torn = rw torn.file_is (staged torn.some free (torn.count ∙ size))

-- GATES
-- the gates before this place are shut, of those that are forgotten
abbrev pub IsShutBelow : List LogSlot → ℕ → List ℕ → Type 0
IsShutBelow slots n = HasSlots (length slots) (Between (Has taken slots) (Has on_file slots) n)

pub none_shut : (slots : List LogSlot) {file : List ℕ} → StandsFor (table_of slots) file → IsShutBelow slots 0 file
none_shut slots stands = starts (slots_of whole_part slots stands) (λ k no is. absurd (omega (arith, no)))

pub all_shut : (slots : List LogSlot) {n : ℕ} {file : List ℕ} → length slots ≤ n → NoTransactionTwice (table_of slots)
    → IsShutBelow slots n file
    → StandsFor (map taken slots) file
all_shut slots past apart so_far =
    stands_of taken_part slots (ends so_far (λ k below from is. absurd (omega (arith, past, below, from))))
    (apart_part taken taken_part slots apart)

-- one that isn't forgotten, and one that is
pub counted : (s : LogSlot) {bytes : List ℕ} → ((r : CommitRecord) → s ≡ Forgotten r → ⊥) → IsSlotOf (on_file s) bytes
    → IsSlotOf (taken s) bytes
counted (Forgotten r) differs is = absurd (differs r refl)
counted s differs is = is

pub shut_done : {s : LogSlot} {r : CommitRecord} {bytes : List ℕ} → s ≡ Forgotten r → IsSlotOf (taken s) (0 ∷ bytes)
shut_done {bytes = bytes} is = rw is (shut_slot refl)

has_taken : (s : LogSlot) {bytes : List ℕ} → IsSlotOf (taken s) bytes → MayHave s bytes
has_taken (Forgotten r) is =
    record { counts = λ none. absurd (cc (none)); unshut = λ wide. absurd (wide (is.free refl)) }
has_taken s is = surely is

-- a crash in between
pub torn_shown : (slots : List LogSlot) {n : ℕ} {r : CommitRecord} {d c : List ℕ} → n < length slots
    → get_or slots n Free ≡ Forgotten r → MayShow slots d
    → Torn (18 + 94 * n) (0 ∷ []) d c → MayShow slots c
torn_shown slots {n} below is shown torn =
    shown_of (gate_torn n 0 (slots_shown shown) below (has_taken (get_or slots n Free) (shut_done is)) torn) shown.apart

pub below_shown : (slots : List LogSlot) {n : ℕ} {file : List ℕ} → NoTransactionTwice (table_of slots)
    → IsShutBelow slots n file
    → MayShow slots file
below_shown slots {n} apart so_far = shown_of (slots_as refl so_far (λ k below is.
    search (arith, cases_lt k n, has_taken (get_or slots k Free), surely, is.done, is.later))) apart

-- a record more that is forgotten leaves what the file may show
may_have_forgotten : (test : TranName → Bool) (s : LogSlot) (bytes : List ℕ) → MayHave s bytes
    → MayHave (forgets test s) bytes
may_have_forgotten test (Taken r) bytes may = search (arith, rules)
may_have_forgotten test s bytes may = may

pub forgets_shown : (test : TranName → Bool) (slots : List LogSlot) (file : List ℕ) → MayShow slots file
    → MayShow (map (forgets test) slots) file
forgets_shown test slots file shown =
    shown_of (slots_as (length-map slots (forgets test)) (slots_shown shown) (λ k below may.
    rw (at_slot (forgets test) refl slots k) (may_have_forgotten test (get_or slots k Free) (slot k file) may)))
    (rw (forgets_on_file test slots) shown.apart)

-- READING
-- the slots before this place are read
pub record IsRead (n count : ℕ) (slots : List LogSlot) (bytes : List ℕ) : Type 0 where
  pub size : length slots ≡ count
  pub each : (k : ℕ) → k < n → IsSlotOf (on_file (get_or slots k Free)) (slot k bytes)
  pub later : (k : ℕ) → n ≤ k → get_or slots k Free ≡ Free
  pub none_forgotten : HasNoneForgotten slots

pub none_read : {count : ℕ} {slots : List LogSlot} (bytes : List ℕ) → slots ≡ replicate count Free
    → IsRead 0 count slots bytes
none_read {count} bytes free = search (arith, length-replicate, all_free)

pub one_read : {n count : ℕ} {slots new : List LogSlot} {bytes : List ℕ} (s : LogSlot) → IsRead n count slots bytes
    → n < count → forgotten_record s ≡ None
    → IsSlotOf (on_file s) (slot n bytes) → new ≡ set slots n s → IsRead (n + 1) count new bytes
one_read {n} {count} {slots} {bytes = bytes} s so_far below counts is put =
    search (arith, get_or-set_same, length-set, cases_eq, get_or-set_other)

pub all_read : {n count : ℕ} {slots : List LogSlot} {bytes : List ℕ} {places : FinMap tran_cmp ℕ}
    → IsRead n count slots bytes → IsIndexOf places slots → count ≤ n
    → count ≤ 65536 → length bytes ≡ 18 + 94 * count → take 18 bytes ≡ head count → StandsFor (table_of slots) bytes
all_read {slots = slots} read index past few size header =
    search (arith, stands_of whole_part slots, index_apart index, read.each, read.size)

-- a second slot of one transaction
pub twice_named : (n count : ℕ) (slots : List LogSlot) (bytes : List ℕ) (r : CommitRecord) → n < count
    → length bytes ≡ 18 + 94 * count
    → IsSlotOf (Some r) (slot n bytes) → IsRead n count slots bytes → (k : ℕ) × HasName slots k r.tran → IsNoLog bytes
twice_named n count slots bytes r below size is read at = λ records there. elim (cases_lt at.0 n) [
  | inl before ↦
      let many : length there.table ≡ count = omega (arith, there.stands.size, size) in
      let here : get_or there.table n None ≡ Some r = search (arith, same_slot) in
      let other : get_or there.table at.0 None ≡ on_file (get_or slots at.0 Free) =
      search (arith, same_slot, at.0, read.each) in
      let same : n ≡ at.0 =
      there.stands.apart n at.0 r.tran (ap tran_of_record here) (ap tran_of_record other ∙ at.1.1) in
      absurd (omega (arith, same, before))
  | inr from ↦ let none = ap (λ (s : LogSlot). tran_of_record (on_file s)) (read.later at.0 from) in let
      named = at.1.1 in absurd
      (cc (none, named))
]

-- LEFT
gate_cases : (bytes : List ℕ) → (take 1 bytes ≡ 0 ∷ []) ⊎ (take 1 bytes ≡ 0 ∷ [] → ⊥)
gate_cases bytes = search (arith, cases_eq)

-- what the file has of a slot
record IsLeft (s : LogSlot) (bytes : List ℕ) (o : Option CommitRecord) : Type 0 where
  is_slot : IsSlotOf o bytes
  within : (r : CommitRecord) → o ≡ Some r → on_file s ≡ Some r
  counts : (r : CommitRecord) → taken s ≡ Some r → o ≡ Some r

is_left : (s : LogSlot) (bytes : List ℕ) → MayHave s bytes → (o : Option CommitRecord) × IsLeft s bytes o
is_left (Forgotten x) bytes may = elim (gate_cases bytes) [
  | inl is ↦ (None, record { is_slot = shut_slot is; within = λ r e. absurd (cc (e)); counts = λ r e. e })
  | inr unshut ↦ (Some x, record { is_slot = may.unshut unshut; within = λ r e. e; counts = λ r e. absurd (cc (e)) })
]
is_left s bytes may = (on_file s, record { is_slot = may.counts refl; within = λ r e. e; counts = λ r e. e })

-- a table of what is chosen for each place
chosen : (n : ℕ) (P : ℕ → Option CommitRecord → Type 0) → ((k : ℕ) → k < n → (o : Option CommitRecord) × P k o)
    → (table : RecordTable) × (length table ≡ n) × ((k : ℕ) → k < n → P k (get_or table k None))
chosen zero P some = ([], refl, λ k no. absurd (omega (arith, no)))
chosen (suc n) P some =
    let first = some 0 (omega arith) in
    let rest = chosen n (λ k. P (suc k)) (λ k below. some (suc k) (omega (arith, below))) in (
      first.0 ∷ rest.0,
      ap (λ (m : ℕ). suc m) rest.1,
      elim
          [ zero ↦ λ below. first.1 | suc k ↦ λ below. rest.2 k (omega (arith, below)) ],
    )

module _ (slots : List LogSlot) (file : List ℕ) (shown : MayShow slots file) (table : RecordTable)
    (size : length table ≡ length slots)
    (each : (k : ℕ) → k < length slots → IsLeft (get_or slots k Free) (slot k file) (get_or table k None)) where
  within : (k : ℕ) (r : CommitRecord) → get_or table k None ≡ Some r → on_file (get_or slots k Free) ≡ Some r
  within k r is = search (arith, cases_lt, each, get_or_past, size)

  counts : (k : ℕ) (r : CommitRecord) → taken (get_or slots k Free) ≡ Some r → get_or table k None ≡ Some r
  counts k r is = search (arith, cases_lt, each, get_or_past)

  table_apart : NoTransactionTwice table
  table_apart = apart_within table slots within shown.apart

  -- one that isn't found in the file doesn't count, and one that is counts or is forgotten
  found_of : (t : TranName) → (record_in (records_of table) t ≡ record_in (records_in slots) t)
      ⊎ ((record_in (records_in slots) t ≡ None) × (record_in (records_of table) t ≡ record_in (forgotten_in slots) t))
  found_of t =
      search (
        arith,
        part_none,
        taken_part,
        found_at,
        table_apart,
        counts,
        part_found,
        one_part,
        forgotten_part,
        counts_or_forgotten,
        within,
        none_or_at,
      )

  has_records : HasRecordsAndPerhaps (records_in slots) (forgotten_in slots) file
  has_records = record { found = records_of table; has = search (arith, table_apart); each = found_of }

pub shows_records : (slots : List LogSlot) (file : List ℕ) → MayShow slots file
    → HasRecordsAndPerhaps (records_in slots) (forgotten_in slots) file
shows_records slots file shown =
    let left =
    chosen (length slots) (λ k. IsLeft (get_or slots k Free) (slot k file))
    (λ k below. is_left (get_or slots k Free) (slot k file) (shown.each k below)) in
    has_records slots file shown left.0 left.1 left.2

-- APPENDING
-- the slots as they were, or with the gates of forgotten records shut
abbrev pub MayBeShut : List LogSlot → List LogSlot → Type 0
MayBeShut slots mid = (mid ≡ slots) ⊎ (mid ≡ map shut slots)

pub same_records : {slots mid : List LogSlot} → MayBeShut slots mid → records_in mid ≡ records_in slots
same_records {slots} h = search (arith, shut_counts)

pub no_more : {slots mid : List LogSlot} → MayBeShut slots mid → ForgetsNoMore slots mid
no_more (inl same) t = inr (ap (λ (l : List LogSlot). record_in (forgotten_in l) t) same)
no_more {slots} (inr is) t =
    inl (ap (λ (l : List LogSlot). record_in (forgotten_in l) t) is ∙ none_forgotten_shut slots t)
