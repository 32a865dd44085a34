-- Several records in the free slots of a file, one after another.
use Rattle.xa_base.proofs.{take_all, rules, ◌≡◌, ◌≢◌, ◌⊎◌, inl, inr, ⊎_elim, ℕ, zero, suc, ◌+◌, ◌*◌, ◌<◌, ◌≤◌, List, []}
use Rattle.xa_base.proofs.{◌∷◌, ◌++◌, length, get_or, map, take, drop, refl, sym, ◌∙◌, ap, subst, arith, All, Contains}
use Rattle.xa_base.proofs.{cases_lt, length-map, Bool, None, Some, set, length-set, get_or-set_same, slice_index_or}
use Rattle.xa_base.proofs.{get_or_default, got, All-contains, Option, get_or_past, drop_more, sum_by-cons}
use Rattle.xa_base.proofs.{get_or_from_slice_get}
use Rattle.std.proofs.lemmas.List.{length-take}
use Rattle.std.proofs.lemmas.List.Sums.{count_by-le-length}
use Rattle.xa_log.specs.{CommitRecord, LogState, Records, record_in, record_of, with_record, with_records, AreNew}
use Rattle.xa_log_file.specs.{LogSlot, Free, Taken, Forgotten, Elapses, LeavesOnly, Only, Torn, spelling, IsValid}
use Rattle.xa_log_file.specs.{NoTransactionTwice, StandsFor, on_file, table_of, filled, placed, coming, used, is_used}
use Rattle.xa_log_file.specs.{HasBodies, HasNoFree, HasFreeSlots, MayHave, MayShow, HasWithAnyOf, IsOneOf}
use Rattle.xa_log_file.specs.{ForgetsNoMore, tran_of_record, records_of, taken, records_in, forgotten_in, HasNoName}
use Rattle.xa_log_file.specs.{forgotten_record, HasRecordsAndPerhaps, HasWithOrWithout, IsFull, shut}
use Rattle.xa_words.specs.{TranName}
use Rattle.xa_log_file.proofs.Tables.{at_slot, shut_free, whole_part, forgotten_part, names_apart, apart_set}
use Rattle.xa_log_file.proofs.Tables.{takes_record, name_set, at_map, none_or_at, part_found}
use Rattle.xa_log_file.proofs.Places.{weight, weighs, used_next, none_free_used, put_at, used_less, used_set}
use Rattle.xa_log_file.proofs.Stands.{HasSlots, Between, Has, slots_as, gate_torn, ends, slots_of, stands_of, shown_of}
use Rattle.xa_log_file.proofs.Stands.{surely, open_slot, still_free, stands_shown, stage_torn, MayBeShut, same_records}
use Rattle.xa_log_file.proofs.Stands.{no_more, shows_records}
use Rattle.xa_log_file.proofs.Moments.{goes_on, weaker, joined, torn_is_overwritten}
use Rattle.std.specs.FinMap as finmap

-- PLACED
-- a slot is free and gets one of the records, or it stays
abbrev pub NewOrOld : List LogSlot → List CommitRecord → ℕ → Type 0
NewOrOld slots rs k =
    ((r : CommitRecord) × (get_or slots k Free ≡ Free) × (get_or (placed slots rs) k Free ≡ Taken r)
    × (get_or (coming slots rs) k Free ≡ Forgotten r)
    × Contains rs r)
    ⊎ ((get_or (placed slots rs) k Free ≡ get_or slots k Free)
    × (get_or (coming slots rs) k Free ≡ get_or slots k Free))

pub new_or_old : (slots : List LogSlot) (rs : List CommitRecord) (k : ℕ) → NewOrOld slots rs k
new_or_old [] rs k = inr (refl, refl)
new_or_old (Free ∷ slots) (r ∷ rs) zero = inl (r, refl, refl, refl, (0, omega arith, refl))
new_or_old (Free ∷ slots) (r ∷ rs) (suc k) =
    ⊎_elim (λ new. let has = new.4 in inl (new.0, new.1, new.2, new.3, (suc has.0, omega (arith, has.1), has.2)))
    (λ old. inr old) (new_or_old slots rs k)
new_or_old (s ∷ slots) rs zero = inr (refl, refl)
new_or_old (s ∷ slots) rs (suc k) = new_or_old slots rs k

pub length-filled : (f : CommitRecord → LogSlot) (slots : List LogSlot) (rs : List CommitRecord)
    → length (filled f slots rs) ≡ length slots
length-filled f [] rs = refl
length-filled f (Free ∷ slots) (r ∷ rs) = ap (λ (n : ℕ). suc n) (length-filled f slots rs)
length-filled f (s ∷ slots) rs = ap (λ (n : ℕ). suc n) (length-filled f slots rs)

pub filled_alike : {X : Type 0} (g : LogSlot → X) (e f : CommitRecord → LogSlot)
    → ((r : CommitRecord) → g (e r) ≡ g (f r))
    → (slots : List LogSlot)
    (rs : List CommitRecord) → map g (filled e slots rs) ≡ map g (filled f slots rs)
filled_alike g e f same [] rs = refl
filled_alike g e f same (Free ∷ slots) (r ∷ rs) = λ i. same r i ∷ filled_alike g e f same slots rs i
filled_alike g e f same (s ∷ slots) rs = λ i. g s ∷ filled_alike g e f same slots rs i

-- what a free slot has stays where the new ones have it
filled_kept : {X : Type 0} (g : LogSlot → X) (f : CommitRecord → LogSlot) → ((r : CommitRecord) → g (f r) ≡ g Free)
    → (slots : List LogSlot) (rs : List CommitRecord)
    → map g (filled f slots rs) ≡ map g slots
filled_kept g f same [] rs = refl
filled_kept g f same (Free ∷ slots) (r ∷ rs) = λ i. same r i ∷ filled_kept g f same slots rs i
filled_kept g f same (s ∷ slots) rs = λ i. g s ∷ filled_kept g f same slots rs i

pub none_filled : (f : CommitRecord → LogSlot) (slots : List LogSlot) → filled f slots [] ≡ slots
none_filled f [] = refl
none_filled f (Free ∷ slots) = ap (λ (l : List LogSlot). Free ∷ l) (none_filled f slots)
none_filled f (s ∷ slots) = ap (λ (l : List LogSlot). s ∷ l) (none_filled f slots)

-- both have the same names
pub coming_on_file : (slots : List LogSlot) (rs : List CommitRecord)
    → table_of (coming slots rs) ≡ table_of (placed slots rs)
coming_on_file = filled_alike on_file Forgotten Taken (λ r. refl)

-- ON THE WAY
-- a free slot gets the record after as many as there were free slots before it
placed_new : (slots : List LogSlot) (rs : List CommitRecord) (n i : ℕ) (r : CommitRecord) → n < length slots
    → get_or slots n Free ≡ Free
    → i + used (take n slots) ≡ n → i < length rs → r ≡ get_or rs i r → get_or (placed slots rs) n Free ≡ Taken r
placed_new [] rs n i r below free gone more read = absurd (omega (arith, below))
placed_new (Free ∷ slots) (x ∷ rs) zero i r below free gone more read = search (arith, rules)
placed_new (Free ∷ slots) (x ∷ rs) (suc n) zero r below free gone more read =
    search (arith, sum_by-cons weight, count_by-le-length is_used, length-take)
placed_new (Free ∷ slots) (x ∷ rs) (suc n) (suc i) r below free gone more read =
    search (arith, placed_new slots rs n i r, sum_by-cons weight)
placed_new (s ∷ slots) rs zero i r below free gone more read = grind (arith, free, more)
placed_new (s ∷ slots) rs (suc n) i r below free gone more read =
    placed_new slots rs n i r (omega (arith, below)) free
    (omega (arith, gone, more, sum_by-cons weight s (take n slots))) more read

-- once all records are placed the slots stay
placed_past : (slots : List LogSlot) (rs : List CommitRecord) (n k : ℕ) → length rs + used (take n slots) ≤ n → n ≤ k
    → get_or (placed slots rs) k Free ≡ get_or slots k Free
placed_past slots [] n k all from = ap (λ (l : List LogSlot). get_or l k Free) (none_filled Taken slots)
placed_past [] rs n k all from = refl
placed_past (s ∷ slots) rs zero k all from = absurd (omega (arith, all))
placed_past (s ∷ slots) rs (suc n) zero all from = absurd (omega (arith, from))
placed_past (Free ∷ slots) (x ∷ rs) (suc n) (suc k) all from =
    search (arith, placed_past slots rs n k, sum_by-cons weight)
placed_past (s ∷ slots) rs (suc n) (suc k) all from =
    placed_past slots rs n k (omega (arith, all, sum_by-cons weight s (take n slots))) (omega (arith, from))

-- the slots before n are done, and have the first i records
pub record IsOnTheWay (slots : List LogSlot) (rs : List CommitRecord) (n i : ℕ) : Type 0 where
  pub few : i ≤ length rs
  pub gone : i + used (take n slots) ≡ n

-- up to the first that is free
pub way_from : (slots : List LogSlot) (rs : List CommitRecord) (n : ℕ) → n ≤ length slots → HasNoFree slots n
    → IsOnTheWay slots rs n 0
way_from slots rs n few none = record { few = omega arith; gone = omega (arith, none_free_used slots n few none) }

module _ {slots : List LogSlot} {rs : List CommitRecord} {n i : ℕ} (way : IsOnTheWay slots rs n i)
    (below : n < length slots) where
  -- over a slot that isn't free
  pub way_passes : (get_or slots n Free ≡ Free → ⊥) → IsOnTheWay slots rs (n + 1) i
  way_passes differs =
      record {
        few = way.few;
        gone = omega (arith, way.gone, used_next slots n below, weighs (get_or slots n Free) differs);
      }

  -- into one that is
  pub way_takes : get_or slots n Free ≡ Free → i ≢ length rs → (r : CommitRecord) → r ≡ get_or rs i r
      → (get_or (placed slots rs) n Free ≡ Taken r) × IsOnTheWay slots rs (n + 1) (i + 1)
  way_takes free left r read =
      let more : i < length rs = omega (arith, way.few, left) in (
        placed_new slots rs n i r below free way.gone more read,
        record { few = omega (arith, more); gone = omega (arith, way.gone, used_next slots n below, ap weight free) },
      )

  pub next_taken : get_or slots n Free ≡ Free → i ≢ length rs
      → (r : CommitRecord) × (get_or (placed slots rs) n Free ≡ Taken r) × IsOnTheWay slots rs (n + 1) (i + 1)
  next_taken free left =
      let at = got rs i (omega (arith, way.few, left)) in
      let new = way_takes free left at.0 (sym (get_or_from_slice_get rs i at.0 at.0 at.1)) in (at.0, new.0, new.1)

-- at the end of the slots all are placed
pub way_done : (slots : List LogSlot) (rs : List CommitRecord) {n : ℕ} → HasFreeSlots slots (length rs)
    → length slots ≤ n
    → length rs + used (take n slots) ≤ n
way_done slots rs {n} room past = omega (arith, room, past, ap used (take_all n slots past))

pub records_left : (rs : List CommitRecord) (i : ℕ) (r : CommitRecord) → i < length rs → r ≡ get_or rs i r
    → drop i rs ≡ r ∷ drop (i + 1) rs
records_left rs i r below is = drop_more rs i r below ∙ ap (λ (x : CommitRecord). x ∷ drop (i + 1) rs) (sym is)

-- the body of a record that is placed stands in its slot
abbrev pub HasItsBody : List LogSlot → List CommitRecord → ℕ → List ℕ → Type 0
HasItsBody slots rs k bytes =
    (r : CommitRecord) → get_or slots k Free ≡ Free → get_or (placed slots rs) k Free ≡ Taken r
    → drop 1 bytes ≡ spelling r

-- with the gates of all free slots shut
pub record IsBodied (slots : List LogSlot) (rs : List CommitRecord) (k : ℕ) (bytes : List ℕ) : Type 0 where
  pub is : Has on_file slots k bytes
  pub body : HasItsBody slots rs k bytes

-- with some open
pub record MayCome (slots : List LogSlot) (rs : List CommitRecord) (k : ℕ) (bytes : List ℕ) : Type 0 where
  pub may : MayHave (get_or (coming slots rs) k Free) bytes
  pub body : HasItsBody slots rs k bytes

stays : (slots : List LogSlot) (rs : List CommitRecord) (k : ℕ) → (get_or slots k Free ≡ Free → ⊥)
    → get_or (placed slots rs) k Free ≡ get_or slots k Free
stays slots rs k differs = search (arith, new_or_old)

-- while it isn't known which are
still_shut : (slots : List LogSlot) (rs : List CommitRecord) (k : ℕ) {bytes : List ℕ} → Has on_file slots k bytes
    → MayHave (get_or (coming slots rs) k Free) bytes
still_shut slots rs k {bytes} is = ⊎_elim
    (λ new. rw new.3
    (record { counts = λ none. absurd (cc (none)); unshut = λ wide. absurd (wide (is.free (ap on_file new.1))) }))
    (λ old. rw old.1 (surely is)) (new_or_old slots rs k)

-- the body after the gate isn't looked at while this is shut
pub stands_shown_coming : (slots : List LogSlot) (rs : List CommitRecord)
    → NoTransactionTwice (table_of (placed slots rs))
    → (file : List ℕ)
    → StandsFor (table_of slots) file → MayShow (coming slots rs) file
stands_shown_coming slots rs apart file stands =
    search (arith, shown_of, slots_as, length-filled, slots_of, whole_part, still_shut, coming_on_file)

-- up to the last gate
pub up_to_gates : (slots : List LogSlot) (rs : List CommitRecord) {D : Type 0} {moment : D → ℕ}
    {left_since : D → ℕ → List ℕ → Type 0} {old staged synced new : D} {file : List ℕ}
    {may_leave : List ℕ → Type 0} → NoTransactionTwice (table_of (placed slots rs))
    → LeavesOnly moment left_since old staged (StandsFor (table_of slots))
    → StandsFor (table_of slots) file → Only file may_leave
    → Elapses (moment staged) (moment synced) (left_since staged) (left_since synced) may_leave
    → LeavesOnly moment left_since synced new (MayShow (coming slots rs))
    → LeavesOnly moment left_since old new (MayShow (coming slots rs))
up_to_gates slots rs apart bodies stands durable time gates = grind (arith, goes_on, stands_shown_coming)

is_new : (slots : List LogSlot) (rs : List CommitRecord) (n : ℕ) (r : CommitRecord) → All IsValid rs
    → get_or slots n Free ≡ Free
    → get_or (placed slots rs) n Free ≡ Taken r → (get_or (coming slots rs) n Free ≡ Forgotten r) × IsValid r
is_new slots rs n r valid free this = search (arith, new_or_old, All-contains, valid)

module _ {slots : List LogSlot} {rs : List CommitRecord} where
  has_bodies : {file : List ℕ} → HasSlots (length slots) (IsBodied slots rs) file → HasBodies slots rs file
  has_bodies has k r free new = search (arith, cases_lt, get_or_past, length-filled, has.each)

  pub bodied : {file : List ℕ} → StandsFor (table_of slots) file → HasBodies slots rs file
      → HasSlots (length slots) (IsBodied slots rs) file
  bodied stands bodies =
      slots_as refl (slots_of whole_part slots stands) (λ k below is. record { is = is; body = bodies k })

  -- a slot that isn't free has none
  pub has_none : {k : ℕ} {bytes : List ℕ} → (get_or slots k Free ≡ Free → ⊥) → Has on_file slots k bytes
      → IsBodied slots rs k bytes
  has_none differs is = record { is = is; body = λ r free. absurd (differs free) }

  pub body_put : {n : ℕ} {r : CommitRecord} {bytes body : List ℕ} → get_or slots n Free ≡ Free
      → get_or (placed slots rs) n Free ≡ Taken r
      → body ≡ spelling r → Has on_file slots n bytes → IsBodied slots rs n (take 1 bytes ++ body)
  body_put {r = r} {body = body} free this spells is = search (arith, still_free, is.free)

  -- all bodies are there
  pub bodies_written : {n : ℕ} {file : List ℕ} → NoTransactionTwice (table_of slots)
      → HasSlots (length slots) (Between (IsBodied slots rs) (Has on_file slots) n) file
      → length rs + used (take n slots) ≤ n → StandsFor (table_of slots) file × HasBodies slots rs file
  bodies_written {n} apart so_far all =
      let has =
      ends so_far
      (λ k below from is.
      record {
        is = is;
        body = λ r free new. let same = placed_past slots rs n k all from
            ∙ free in absurd (cc (same, new));
      }) in
      (stands_of whole_part slots (slots_as refl has (λ k below is. is.is)) apart, has_bodies has)

  -- OPENING
  pub not_opened : {k : ℕ} {bytes : List ℕ} → (get_or slots k Free ≡ Free → ⊥) → IsBodied slots rs k bytes
      → Has on_file (placed slots rs) k bytes
  not_opened {k} differs was = rw (stays slots rs k differs) was.is

  -- the gates before n are open
  pub all_open : {n : ℕ} {file : List ℕ} → NoTransactionTwice (table_of (placed slots rs))
      → HasSlots (length slots) (Between (Has on_file (placed slots rs)) (IsBodied slots rs) n) file
      → length rs + used (take n slots) ≤ n
      → StandsFor (table_of (placed slots rs)) file
  all_open {n} apart so_far all =
      stands_of whole_part (placed slots rs)
      (slots_as (length-filled Taken slots rs)
      (ends so_far (λ k below from was. rw (placed_past slots rs n k all from) was.is)) (λ k below is. is)) apart

  pub comes : {k : ℕ} {bytes : List ℕ} → IsBodied slots rs k bytes → MayCome slots rs k bytes
  comes {k} was = record { may = still_shut slots rs k was.is; body = was.body }

  pub comes_shown : {file : List ℕ} → NoTransactionTwice (table_of (placed slots rs))
      → HasSlots (length slots) (MayCome slots rs) file → MayShow (coming slots rs) file
  comes_shown apart has =
      shown_of (slots_as (length-filled Forgotten slots rs) has (λ k below is. is.may))
      (rw (coming_on_file slots rs) apart)

  module _ (valid : All IsValid rs) {n : ℕ} {r : CommitRecord} (free : get_or slots n Free ≡ Free)
      (this : get_or (placed slots rs) n Free ≡ Taken r) where
    pub gate_opened : {bytes : List ℕ} → IsBodied slots rs n bytes
        → Has on_file (placed slots rs) n (255 ∷ drop 1 bytes)
    gate_opened {bytes} was = rw this (open_slot (was.body r free this) (is_new slots rs n r valid free this).1)

    pub opens_torn : {d c : List ℕ} → n < length slots → HasSlots (length slots) (MayCome slots rs) d
        → Torn (18 + 94 * n) (255 ∷ []) d c
        → HasSlots (length slots) (MayCome slots rs) c
    opens_torn below has torn =
        let new = is_new slots rs n r valid free this in
        let was = (has.each n below).body in
        gate_torn n 255 has below (record { may = rw new.0 (surely (open_slot (was r free this) new.1)); body = was })
        torn

-- while a body is written
pub body_torn : (slots : List LogSlot) {n : ℕ} {body d c : List ℕ} → n < length slots → get_or slots n Free ≡ Free
    → length body ≡ 93
    → StandsFor (table_of slots) d → Torn (18 + 94 * n + 1) body d c → StandsFor (table_of slots) c
body_torn slots {n} {body} {d} {c} below free size stands torn =
    stage_torn slots n stands below free size
    (torn_is_overwritten (18 + 94 * n + 1) body d c (omega (arith, length-map slots on_file, stands.size)) torn)

pub placed_shown : (slots : List LogSlot) (rs : List CommitRecord) (file : List ℕ)
    → StandsFor (table_of (placed slots rs)) file → MayShow (coming slots rs) file
placed_shown slots rs file stands = stands_shown (coming slots rs) file (rw (coming_on_file slots rs) stands)

-- GROUPED
-- the first record goes into the first free slot
pub placed_first : (slots : List LogSlot) (p : ℕ) (r : CommitRecord) (rs : List CommitRecord) → p < length slots
    → get_or slots p Free ≡ Free → HasNoFree slots p
    → placed slots (r ∷ rs) ≡ placed (set slots p (Taken r)) rs
placed_first [] p r rs below free none = absurd (omega arith)
placed_first (Free ∷ slots) zero r rs below free none = refl
placed_first (Free ∷ slots) (suc p) r rs below free none = absurd (none 0 (omega arith) refl)
placed_first (s ∷ slots) zero r rs below free none = absurd (cc (free))
placed_first (s ∷ slots) (suc p) r rs below free none =
    grind (arith, placed_first slots p r rs (omega arith) free (λ k before is. none (suc k) (omega arith) is))

first_placed : (slots : List LogSlot) (r : CommitRecord) (rs : List CommitRecord) → used slots < length slots
    → (p : ℕ) × (p < length slots) × (get_or slots p Free ≡ Free)
    × (placed slots (r ∷ rs) ≡ placed (set slots p (Taken r)) rs)
first_placed [] r rs room = absurd (omega arith)
first_placed (Free ∷ slots) r rs room = (0, omega arith, refl, refl)
first_placed (s ∷ slots) r rs room =
    let more : used (s ∷ slots) ≡ weight s + used slots = sum_by-cons weight s slots in
    let at = first_placed slots r rs (omega (arith, more)) in
    (suc at.0, omega (arith, at.1), at.2, ap (λ (l : List LogSlot). s ∷ l) at.3)

recorded : (log : LogState) (r : CommitRecord) → record_of (with_record log r.tran r.yes) r.tran ≡ Some r.yes
recorded log r = search (arith, put_at)

-- a new transaction has no record yet
pub new_none : (log : LogState) (rs : List CommitRecord) (r : CommitRecord) (k : ℕ) → AreNew log rs → k < length rs
    → get_or rs k r ≡ r
    → record_of log r.tran ≡ None
new_none log [] r k new below is = absurd (omega arith)
new_none log (x ∷ rs) r zero new below is = ap (λ (y : CommitRecord). record_of log y.tran) (sym is) ∙ new.0
new_none log (x ∷ rs) r (suc k) new below is =
    search (arith, new_none (with_record log x.tran x.yes) rs r k new.1 (omega arith) is, put_at, x.tran, new.1)

-- a slot of a recorded transaction leaves the names of new ones
still_unnamed : (slots : List LogSlot) (p : ℕ) (x : CommitRecord) (rs : List CommitRecord) (log : LogState)
    (v : List Bool)
    → p < length slots
    → record_of log x.tran ≡ Some v → AreNew log rs → All (λ r. HasNoName slots r.tran) rs
    → All (λ r. HasNoName (set slots p (Taken x)) r.tran) rs
still_unnamed slots p x rs log v below has new unnamed k d within j named = ⊎_elim
    (λ own.
    let none = new_none log rs (get_or rs k d) k new within (get_or_default rs k (get_or rs k d) d within) in
    let there = ap (record_of log) (sym own.1) ∙ has in
    cc (none, there))
    (λ was. unnamed k d within j was) (name_set slots p x below j (get_or rs k d).tran named)

-- all that is known of slots with the records of a group
pub record IsGrouped (slots : List LogSlot) (log : LogState) (rs : List CommitRecord) : Type 0 where
  pub apart : NoTransactionTwice (table_of (placed slots rs))
  pub records : records_in (placed slots rs) ≡ (with_records log rs).records

pub grouped : (rs : List CommitRecord) (slots : List LogSlot) (log : LogState) → HasFreeSlots slots (length rs)
    → NoTransactionTwice (table_of slots)
    → records_in slots ≡ log.records → AreNew log rs → All (λ r. HasNoName slots r.tran) rs → IsGrouped slots log rs
grouped [] slots log room apart same new unnamed =
    record { apart = rw (none_filled Taken slots) apart; records = ap records_in (none_filled Taken slots) ∙ same }
grouped (r ∷ rs) slots log room apart same new unnamed =
    let at = first_placed slots r rs (omega arith) in
    let more : used (set slots at.0 (Taken r)) ≡ used slots + 1 = used_set slots at.0 r at.1 at.2 in
    let one : records_in (set slots at.0 (Taken r)) ≡ (with_record log r.tran r.yes).records =
    takes_record slots at.0 r at.1 at.2 (ap (λ (m : Records). record_in m r.tran) same ∙ new.0)
    ∙ ap (λ (m : Records). finmap.insert m r.tran r.yes) same in
    let rest = grouped rs (set slots at.0 (Taken r)) (with_record log r.tran r.yes)
    (omega (arith, more, length-set slots at.0 (Taken r)))
    (apart_set slots at.0 r at.1 (unnamed 0 r (omega arith)) apart) one new.1
    (still_unnamed slots at.0 r rs (with_record log r.tran r.yes) r.yes at.1 (recorded log r) new.1
    (λ k d within. unnamed (suc k) d (omega arith))) in
    record { apart = rw at.3 rest.apart; records = rw at.3 rest.records }

is_one : {rs : List CommitRecord} {t : TranName} {found : Option (List Bool)} (r : CommitRecord) → Contains rs r
    → r.tran ≡ t → found ≡ Some r.yes
    → IsOneOf rs t found
is_one r one named votes = record { r = r; one = one; named = named; votes = votes }

-- what may come of a transaction is forgotten, or one of the new ones
comes_of : (slots : List LogSlot) (rs : List CommitRecord) → NoTransactionTwice (table_of slots) → (t : TranName)
    → (record_in (forgotten_in (coming slots rs)) t ≡ None) ⊎
    ((record_in (forgotten_in (coming slots rs)) t ≡ record_in (forgotten_in slots) t)
    ⊎ IsOneOf rs t (record_in (forgotten_in (coming slots rs)) t))
comes_of slots rs apart t = ⊎_elim (λ none. inl none) (λ at. inr (
    let here = sym (at_map forgotten_record forgotten_part (coming slots rs) at.place) ∙ at.there in
    ⊎_elim
    (λ new. let same = sym (ap forgotten_record new.3)
    ∙ here in inr (is_one at.found (subst (Contains rs) (cc (same)) new.4) at.named at.votes))
    (λ old. inl
    (at.votes
    ∙ sym
    (part_found forgotten_part slots apart at.place at.found t (sym (ap forgotten_record old.1) ∙ here)
    at.named)))
    (new_or_old slots rs at.place))) (none_or_at (map forgotten_record (coming slots rs)) t)

comes_with : {slots mid : List LogSlot} (rs : List CommitRecord) → MayBeShut slots mid
    → NoTransactionTwice (table_of mid)
    → (c : List ℕ) → MayShow (coming mid rs) c
    → HasWithAnyOf (records_in slots) (forgotten_in slots) rs c
comes_with {slots} {mid} rs moved apart c shown =
    let has = shows_records (coming mid rs) c shown in
    let same : records_in (coming mid rs) ≡ records_in slots =
    ap records_of (filled_kept taken Forgotten (λ r. refl) mid rs) ∙ same_records moved in
    record { found = has.found; has = has.has; each = search (arith, no_more moved, comes_of, has.found, has.each) }

-- the first of a group has a new name
pub first_is_new : (slots : List LogSlot) (r : CommitRecord) (rs : List CommitRecord) (p : ℕ) → p < length slots
    → get_or slots p Free ≡ Free
    → HasNoFree slots p → NoTransactionTwice (table_of (placed slots (r ∷ rs))) → HasNoName slots r.tran
first_is_new slots r rs p below free none apart k named =
    let here : get_or (placed slots (r ∷ rs)) k Free ≡ get_or slots k Free = search (arith, stays) in
    let set_there = get_or-set_same slots p (Taken r) Free below in
    let there : get_or (placed slots (r ∷ rs)) p Free ≡ Taken r =
    rw (placed_first slots p r rs below free none)
    (stays (set slots p (Taken r)) rs p (λ is. absurd (cc (is, set_there))) ∙ set_there) in
    let same =
    names_apart (placed slots (r ∷ rs)) apart k p r.tran (ap (λ (s : LogSlot). tran_of_record (on_file s)) here ∙ named)
    (ap (λ (s : LogSlot). tran_of_record (on_file s)) there) in
    search (arith, free)

-- a crash before any of them
pub before_group : (slots : List LogSlot) (rs : List CommitRecord) (c : List ℕ) → MayShow slots c
    → HasWithAnyOf (records_in slots) (forgotten_in slots) rs c
before_group slots rs c shown =
    let has = shows_records slots c shown in
    record { found = has.found; has = has.has; each = search (arith, has.each) }

pub failures_stay : (log : LogState) (rs : List CommitRecord) → (with_records log rs).failures ≡ log.failures
failures_stay log [] = refl
failures_stay log (r ∷ rs) = failures_stay (with_record log r.tran r.yes) rs

pub none_more_forgotten : {slots mid : List LogSlot} → MayBeShut slots mid → (rs : List CommitRecord)
    → ForgetsNoMore slots (placed mid rs)
none_more_forgotten {slots} {mid} moved rs t = search (arith, filled_kept, no_more)

pub group_runs : {slots mid : List LogSlot} {rs : List CommitRecord} {D : Type 0} {moment : D → ℕ}
    {left_since : D → ℕ → List ℕ → Type 0} {shown : List LogSlot}
    {old then new : D} → MayBeShut slots mid → NoTransactionTwice (table_of mid) → shown ≡ mid
    → LeavesOnly moment left_since old then (MayShow slots)
    → LeavesOnly moment left_since then new (MayShow (coming shown rs))
    → LeavesOnly moment left_since old new (HasWithAnyOf (records_in slots) (forgotten_in slots) rs)
group_runs {slots} {mid} {rs} moved apart same first second =
    joined (weaker (before_group slots rs) first) (weaker (λ c may.
    comes_with rs moved apart c (rw same at may)) second)

-- ONE
one_at : {r q : CommitRecord} (k : ℕ) → k < 1 → slice_index_or (r ∷ []) k q ≡ q → q ≡ r
one_at zero below is = sym is
one_at (suc k) below is = absurd (omega (arith, below))

-- a file that has any of one record has it or not
module _ {records forgotten_record : Records} {r : CommitRecord} {file : List ℕ}
    (has : HasWithAnyOf records forgotten_record (r ∷ []) file) where
  named_so : {t : TranName} {found : Option (List Bool)} (one : IsOneOf (r ∷ []) t found) → r.tran ≡ t
  named_so one = ap (λ (q : CommitRecord). q.tran) (sym (one_at one.one.0 one.one.1 one.one.2)) ∙ one.named

  abbrev AsItWas : TranName → Type 0
  AsItWas t =
      (record_in has.found t ≡ record_in records t) ⊎
      ((record_in records t ≡ None) × (record_in has.found t ≡ record_in forgotten_record t))

  not_there : AsItWas r.tran → HasRecordsAndPerhaps records forgotten_record file
  not_there was = record {
    found = has.found;
    has = has.has;
    each = λ t. ⊎_elim (λ same. inl same)
        (λ new. ⊎_elim (λ gone. inr (new.0, gone)) (λ one. subst AsItWas (named_so one) was) new.1) (has.each t);
  }

  is_there : record_in has.found r.tran ≡ Some r.yes
      → HasRecordsAndPerhaps (finmap.insert records r.tran r.yes) forgotten_record file
  is_there is = record {
    found = has.found;
    has = has.has;
    each = λ t. ⊎_elim (λ same. inl (ap (record_in has.found) same.0 ∙ is ∙ sym same.1)) (λ other. ⊎_elim
        (λ same. inl (same ∙ sym other.1)) (λ new. ⊎_elim
        (λ gone. inr (other.1 ∙ new.0, gone)) (λ one. absurd (other.0 (sym (named_so one)))) new.1) (has.each t))
        (put_at records r.tran r.yes t);
  }

  with_it : HasRecordsAndPerhaps records forgotten_record file ⊎ HasRecordsAndPerhaps
      (finmap.insert records r.tran r.yes)
      forgotten_record file
  with_it = ⊎_elim (λ same. inl (not_there (inl same))) (λ new. ⊎_elim (λ gone. inl (not_there (inr (new.0, gone))))
      (λ one. inr (is_there (one.votes ∙ ap (λ (q : CommitRecord). Some q.yes) (one_at one.one.0 one.one.1 one.one.2))))
      new.1) (has.each r.tran)

pub with_or_without : (slots : List LogSlot) (r : CommitRecord) (file : List ℕ)
    → HasWithAnyOf (records_in slots) (forgotten_in slots) (r ∷ []) file
    → HasWithOrWithout slots r file
with_or_without slots r file has = with_it has

-- a log without room for one is full
pub no_room_is_full : (slots : List LogSlot) → length slots < used (map shut slots) + 1 → IsFull slots
no_room_is_full slots few k below none =
    let long = length-map slots shut in
    let free = at_slot shut refl slots k ∙ shut_free (get_or slots k Free) none in
    let less = used_less (map shut slots) k (omega (arith, below, long)) free in
    omega (arith, few, less, long)
