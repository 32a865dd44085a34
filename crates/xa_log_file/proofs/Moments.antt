-- What a crash leaves at each moment: of the calls of a device, of writes, and while a log is made.
use Rattle.xa_base.proofs.{inl, inr, ℕ, List, arith, ◌≡◌, ◌+◌, ◌-◌, ◌≤◌, ◌++◌, length, take, drop, refl, ◌∙◌, ap}
use Rattle.xa_base.proofs.{append_assoc, length-append, length-drop, take-append-drop, rules, Bool, true, [], ◌∷◌, Vec}
use Rattle.xa_base.proofs.{take_all, cases_lt, drop_at, drop-drop, take-append-le, take-take, drop-append-le, drop-take}
use Rattle.xa_base.proofs.{◌≢◌, zero, suc, ◌*◌, ◌<◌, None, Some, get_or, replicate, sym, append-nil, drop_all}
use Rattle.xa_base.proofs.{length-replicate, get_or-replicate, take-replicate, drop-replicate, take_at}
use Rattle.std.proofs.lemmas.List.{length-take-le}
use Rattle.std.specs.declared.alloc.Global.{Global}
use Rattle.xa_log_file.specs.{Elapses, LeavesOnly, log_overwritten, IsOverwritten, Torn, OutcomesFollow, Only, Past}
use Rattle.xa_log_file.specs.{left_after, left_by_calls, leaves, writing, LeftSince, count_failed, failures, DeviceCall}
use Rattle.xa_log_file.specs.{head, slot, tran_of_record, NoTransactionTwice, StandsFor, IsNoLog, IsNewLog, free_slots}
use Rattle.xa_words.specs.{TranName}

-- MOMENTS
module _ {D : Type 0} {moment : D → ℕ} {left_since : D → ℕ → List ℕ → Type 0} where
  -- before the first call
  pub started : {old : D} {P : List ℕ → Type 0} → ((c : List ℕ) → left_since old (moment old) c → P c)
      → LeavesOnly moment left_since old old P
  started here = record { later = omega arith; each = here; before = λ t c le left. inl left }

  -- one call more, after which a crash leaves what has P
  pub goes_on : {old mid new : D} {P may_leave : List ℕ → Type 0} → LeavesOnly moment left_since old mid P
      → Elapses (moment mid) (moment new) (left_since mid) (left_since new) may_leave
      → ((c : List ℕ) → may_leave c → P c) → LeavesOnly moment left_since old new P
  goes_on {old} so_far time here = search (arith, so_far.each, time.nothing_else, so_far.later, so_far.before)

  -- less is said
  pub weaker : {old new : D} {P Q : List ℕ → Type 0} → ((c : List ℕ) → P c → Q c)
      → LeavesOnly moment left_since old new P
      → LeavesOnly moment left_since old new Q
  weaker f run = search (arith, run.each, run.before)

  -- one run after another
  pub joined : {old mid new : D} {P : List ℕ → Type 0} → LeavesOnly moment left_since old mid P
      → LeavesOnly moment left_since mid new P
      → LeavesOnly moment left_since old new P
  joined {old} first second = search (arith, first.each, second.before, first.later, first.before)

-- OVERWRITES
pub torn_is_overwritten : (at : ℕ) (bytes old c : List ℕ) → at + length bytes ≤ length old → Torn at bytes old c
    → IsOverwritten old at bytes c
torn_is_overwritten at bytes old c within t =
    let n = length bytes in
    let size : length (take n (drop at c)) ≡ n =
    length-take-le n (drop at c) (omega (arith, length-drop at c, t.torn.no_shorter)) in
    let rest : drop n (drop at c) ≡ drop (at + n) old = drop-drop n at c ∙ t.torn.after in
    let whole : c ≡ take at old ++ (take n (drop at c) ++ drop (at + n) old) = search (arith, take-append-drop) in
    search (arith, append_assoc)

-- nothing was written yet
pub unwritten : (at : ℕ) (bytes old c : List ℕ) → at + length bytes ≤ length old → c ≡ old
    → IsOverwritten old at bytes c
unwritten at bytes old c within same = search (arith, torn_is_overwritten)

module _ (f : List ℕ) (at : ℕ) (bytes : List ℕ) (within : at + length bytes ≤ length f) where
  grouped : log_overwritten f at bytes ≡ take at f ++ (bytes ++ drop (at + length bytes) f)
  grouped = append_assoc (take at f) bytes (drop (at + length bytes) f)

  front_size : length (take at f) ≡ at
  front_size = length-take-le at f (omega (arith, within))

  pub length-overwritten : length (log_overwritten f at bytes) ≡ length f
  length-overwritten = search (arith, grouped, length-append, length-drop, front_size)

  -- what stands before it stays
  pub take-overwritten : (m : ℕ) → m ≤ at → take m (log_overwritten f at bytes) ≡ take m f
  take-overwritten m le = search (arith, front_size, grouped, take-append-le, take-take)

  -- from its place on
  pub drop-overwritten : drop at (log_overwritten f at bytes) ≡ bytes ++ drop (at + length bytes) f
  drop-overwritten =
      ap (λ (l : List ℕ). drop at l) grouped ∙ drop_at (take at f) (bytes ++ drop (at + length bytes) f) at front_size

  -- what stands after it stays
  pub drop-overwritten_past : (m : ℕ) → at + length bytes ≤ m → drop m (log_overwritten f at bytes) ≡ drop m f
  drop-overwritten_past m past =
      let n = m - (at + length bytes) in
      let sum : m ≡ at + length bytes + n = omega arith in
      let front : length (take at f ++ bytes) ≡ at + length bytes = search (arith, length-append, front_size) in
      rw (
        sum,
        ← drop-drop n (at + length bytes) (log_overwritten f at bytes),
        drop_at (take at f ++ bytes)
            (drop (at + length bytes) f) (at + length bytes) front,
      )
      (drop-drop n (at + length bytes) f)

-- a part of the file further on, with the write in it
pub drop_overwritten_in : (f : List ℕ) (m i : ℕ) (bytes : List ℕ) → m + i + length bytes ≤ length f
    → drop m (log_overwritten f (m + i) bytes) ≡ log_overwritten (drop m f) i bytes
drop_overwritten_in f m i bytes within =
    search (arith, length-take-le, drop-drop, append_assoc, drop-append-le, drop-take)

-- a part of the file that ends before the write
pub part-overwritten : (f : List ℕ) (at : ℕ) (bytes : List ℕ) → at + length bytes ≤ length f → (m n : ℕ) → m + n ≤ at
    → take n (drop m (log_overwritten f at bytes)) ≡ take n (drop m f)
part-overwritten f at bytes within m n before =
    let sum : m + (at - m) ≡ at = omega arith in
    search (arith, drop_overwritten_in, take-overwritten, length-drop)

-- PUTS
-- all of them are there
pub all_written : {seen : List ℕ} {at : ℕ} {bytes c : List ℕ} → c ≡ log_overwritten seen at bytes
    → IsOverwritten seen at bytes c
all_written {bytes = bytes} is =
    record { some = bytes; count = refl; file_is = is; whole = record { alone = λ b one. inr is } }

-- once they are written
pub torn_now : {seen : List ℕ} {at : ℕ} {bytes : List ℕ} {was now : List ℕ → Type 0} → at + length bytes ≤ length seen
    → Only seen was
    → OutcomesFollow (Torn at bytes) was now → (c : List ℕ) → now c → IsOverwritten seen at bytes c
torn_now {seen} {at} {bytes} within durable crash c left = search (arith, torn_is_overwritten)

-- at any moment up to then
pub written : {D : Type 0} {moment : D → ℕ} {left_since : D → ℕ → List ℕ → Type 0} {seen : List ℕ} {at : ℕ}
    {bytes : List ℕ} {old new : D}
    {was now : List ℕ → Type 0} → at + length bytes ≤ length seen → Only seen was
    → ((c : List ℕ) → left_since old (moment old) c → was c)
    → OutcomesFollow (Torn at bytes) was now → Elapses (moment old) (moment new) (left_since old) (left_since new) now
    → LeavesOnly moment left_since old new (IsOverwritten seen at bytes)
written {seen = seen} {at = at} {bytes = bytes} within durable only crash time =
    search (arith, goes_on, started, unwritten, torn_now)

-- ELAPSING
left_by_push : (before : List ℕ → Type 0) (past : Past) (call : DeviceCall) (bytes : Vec ℕ Global) (c : List ℕ)
    → left_by_calls before (past ++ (call, bytes) ∷ []) c
    → left_after call bytes.items (left_by_calls before past) c
left_by_push before [] call bytes c left = left
left_by_push before (e ∷ past) call bytes c left = left_by_push (left_after e.0 e.1.items before) past call bytes c left

-- what one call more leaves of what there was
pub leaves_to : (past later : Past) (call : DeviceCall) (bytes : Vec ℕ Global) (c : List ℕ)
    → later ≡ past ++ (call, bytes) ∷ [] → leaves later c
    → left_after call bytes.items (leaves past) c
leaves_to past later call bytes c is left = left_by_push (λ _. ⊥) past call bytes c (rw is at left)

failures_push : (past : Past) (call : DeviceCall) (bytes : Vec ℕ Global)
    → failures (past ++ (call, bytes) ∷ []) ≡ count_failed call + failures past
failures_push [] call bytes = refl
failures_push (e ∷ past) call bytes = omega (arith, failures_push past call bytes)

pub failures_to : (past later : Past) (call : DeviceCall) (bytes : Vec ℕ Global) → later ≡ past ++ (call, bytes) ∷ []
    → failures later ≡ count_failed call + failures past
failures_to past later call bytes is = ap failures is ∙ failures_push past call bytes

pub elapses_to : (past later : Past) (call : DeviceCall) (bytes : Vec ℕ Global) → later ≡ past ++ (call, bytes) ∷ []
    → Elapses (length past) (length later) (LeftSince past) (LeftSince later) (leaves later)
elapses_to past later call bytes is = search (arith, length-append, take_all, take-append-le, cases_lt)

-- a write of these bytes tears as its call says
pub writing_follows : (at : ℕ) (bytes : List ℕ) (ok : Bool) (after : List ℕ) (before : List ℕ → Type 0)
    → OutcomesFollow (Torn at bytes) before (left_after (writing at bytes ok) after before)
writing_follows at [] ok after before c left =
    (left.0, left.1, record { torn = left.2; whole = record { alone = λ b is. absurd (cc (is)) } })
writing_follows at (b ∷ []) ok after before c left = left
writing_follows at (a ∷ b ∷ bytes) ok after before c left = search (arith, rules)

-- NEW LOGS
pub short_file : (c : List ℕ) → length c ≤ 17 → IsNoLog c
short_file c short = λ records there. absurd (omega (arith, there.stands.size))

pub wrong_first : (g : ℕ) (c : List ℕ) → g ≢ 120 → IsNoLog (g ∷ c)
unfolding head
wrong_first g c other = λ records there. let h = there.stands.header in let first : g ≡ 120 = cc in other first

-- while a byte is written into the empty file
pub after_first : (c : List ℕ) → Torn 0 (0 ∷ []) [] c → IsNoLog c
after_first c t = short_file c (omega (arith, t.torn.no_longer))

-- while the rest is
pub after_rest : (later c : List ℕ) → Torn 1 later (0 ∷ []) c → IsNoLog c
after_rest later [] t = short_file [] (omega arith)
after_rest later (g ∷ c) t = let b = t.torn.before in let first : g ≡ 0 = cc in wrong_first g c (omega arith)

length-head : (n : ℕ) → length (head n) ≡ 18
unfolding head
length-head n = refl

head_begins : (n : ℕ) → head n ≡ 120 ∷ drop 1 (head n)
unfolding head
head_begins n = refl

-- slots of zeros have no record
free_zeros : (n k : ℕ) → k < n → slot k (head n ++ replicate (94 * n) 0) ≡ replicate 94 0
free_zeros n k below =
    ap (λ (l : List ℕ). take 94 l) (sym (drop-drop (94 * k) 18 (head n ++ replicate (94 * n) 0))
    ∙ ap (λ (l : List ℕ). drop (94 * k) l) (drop_at (head n) (replicate (94 * n) 0) 18 (length-head n))
    ∙ drop-replicate (94 * k) (94 * n) 0)
    ∙ take-replicate 94 (94 * n - 94 * k) 0 (omega arith)

-- no free slot has a transaction
nameless : (n k : ℕ) (t : TranName) → tran_of_record (get_or (free_slots n) k None) ≡ Some t → ⊥
nameless zero k t is = absurd (cc (is))
nameless (suc n) zero t is = absurd (cc (is))
nameless (suc n) (suc k) t is = nameless n k t is

pub new_stands : (n : ℕ) (later : List ℕ) → n ≤ 65536 → later ≡ drop 1 (head n) ++ replicate (94 * n) 0
    → StandsFor (free_slots n) (120 ∷ later)
new_stands n later few is =
    let whole : 120 ∷ later ≡ head n ++ replicate (94 * n) 0 = search (arith, head_begins) in
    let many : length (free_slots n) ≡ n = length-replicate n None in
    let apart : NoTransactionTwice (free_slots n) = λ j k t named. absurd (nameless n j t named) in
    let size : length (head n ++ replicate (94 * n) 0) ≡ 18 + 94 * n =
    search (arith, length-append, length-head, length-replicate) in
    rw whole
    (search (
      arith,
      apart,
      size,
      many,
      take_at (head n) (replicate (94 * n) 0) 18,
      length-head n,
      get_or-replicate,
      free_zeros,
    ))

-- while the first byte is
pub after_last : (n : ℕ) (later c : List ℕ) → n ≤ 65536 → later ≡ drop 1 (head n) ++ replicate (94 * n) 0
    → IsOverwritten (0 ∷ later) 0 (120 ∷ []) c
    → IsNewLog n c
after_last n later c few is torn = search (arith, wrong_first, new_stands, torn.whole.alone)

pub zero_put : {was now : List ℕ} → was ≡ [] → now ≡ log_overwritten was 0 (0 ∷ []) → now ≡ 0 ∷ []
zero_put empty is = is ∙ ap (λ (l : List ℕ). log_overwritten l 0 (0 ∷ [])) empty

pub rest_put : {first synced all later : List ℕ} → first ≡ 0 ∷ [] → synced ≡ first
    → all ≡ log_overwritten synced 1 later
    → all ≡ 0 ∷ later
rest_put {later = later} one seen is =
    is ∙ ap (λ (l : List ℕ). log_overwritten l 1 later) (seen ∙ one) ∙ search (arith, drop_all, append-nil)

-- a zero is written into the empty file, synced, and the rest is written
pub up_to_rest : {D : Type 0} {moment : D → ℕ} {left_since : D → ℕ → List ℕ → Type 0} (n : ℕ) {later : List ℕ}
    {empty rest : D} (zero_written zero_synced : D)
    {at_first with_zero with_synced with_rest : List ℕ → Type 0} → Only [] at_first
    → ((c : List ℕ) → left_since empty (moment empty) c → at_first c)
    → OutcomesFollow (Torn 0 (0 ∷ [])) at_first with_zero
    → Elapses (moment empty) (moment zero_written) (left_since empty) (left_since zero_written) with_zero
    → Only (0 ∷ []) with_synced
    → Elapses (moment zero_written) (moment zero_synced) (left_since zero_written) (left_since zero_synced) with_synced
    → OutcomesFollow (Torn 1 later) with_synced with_rest
    → Elapses (moment zero_synced) (moment rest) (left_since zero_synced) (left_since rest) with_rest
    → LeavesOnly moment left_since empty rest (IsNewLog n) × ((c : List ℕ) → with_rest c → IsNewLog n c)
up_to_rest n {later = later} zero_written zero_synced {with_rest = with_rest} none now tears goes one goes_to tears_rest
    goes_past =
    let torn_rest : (c : List ℕ) → with_rest c → IsNewLog n c = λ c left.
    let from = tears_rest c left in inl (after_rest later c (rw (one from.0 from.1) at from.2)) in
    (search (arith, goes_on, short_file, after_first, torn_rest), torn_rest)

-- the rest is synced, and the first byte of the head is put
pub head_put : {D : Type 0} {moment : D → ℕ} {left_since : D → ℕ → List ℕ → Type 0} {n : ℕ} {later file : List ℕ}
    {empty rest synced new : D}
    {with_all : List ℕ → Type 0} → LeavesOnly moment left_since empty rest (IsNewLog n) → n ≤ 65536
    → later ≡ drop 1 (head n) ++ replicate (94 * n) 0
    → Only (0 ∷ later) with_all → Elapses (moment rest) (moment synced) (left_since rest) (left_since synced) with_all
    → file ≡ 0 ∷ later
    → LeavesOnly moment left_since synced new (IsOverwritten file 0 (120 ∷ []))
    → LeavesOnly moment left_since empty new (IsNewLog n)
head_put {n = n} {later = later} so_far few is all time seen last =
    joined (goes_on so_far time (λ c left. inl (rw (all c left) (wrong_first 0 later (omega arith)))))
    (weaker (λ c torn. after_last n later c few is (rw seen at torn)) last)

-- a write that succeeded didn't fail
pub failed_writing : (at : ℕ) (bytes : List ℕ) → count_failed (writing at bytes true) ≡ 0
failed_writing at [] = refl
failed_writing at (b ∷ []) = refl
failed_writing at (a ∷ b ∷ bytes) = refl
