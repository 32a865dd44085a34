-- Whether two files recover to pages is decided by their bytes.
use Rattle.xa_base.proofs.{◌≡◌, ℕ, zero, suc, ◌+◌, ◌-◌, ◌<◌, ◌≤◌, Bool, true, false, List, length, None, Some}
use Rattle.xa_base.proofs.{same_Some, refl, sym, ap, subst, ◌∙◌, arith, cases_eq, inl, inr, Decides-eqb, ◌⊎◌, ◌≢◌}
use Rattle.xa_base.proofs.{Decides, slice_index}
use Rattle.std.proofs.lemmas.Bool.Decides.{Decides-ltb}
use Rattle.std.proofs.lemmas.Slice.Eq.{bytes_eq-Decides}
use Rattle.sqlite_wal.proofs.PartLemmas.{frames_len-suc}
use Rattle.sqlite_wal.specs.Format.{IsFrame, IsHeader, IsSigned, Meets, Tally, commit_size, count_page, frame_sum}
use Rattle.sqlite_wal.specs.Format.{is_big, page_number, part, stored_sum, be32, checksum}
use Rattle.sqlite_wal.specs.Recovery.{Image, IsCommitted, IsIgnored, IsLast, IsValid, Pages, Passes, Recovers, Replays}
use Rattle.sqlite_wal.specs.Recovery.{frame, frame_at, frames_len, header, pages_after, sum_before, tally_at}

-- ---- what is known to be so or not

abbrev Known : Type 0 → Type 0
Known P = P ⊎ (¬ P)

like : {P Q : Type 0} → (P → Q) → (Q → P) → Known P → Known Q
like to from (inl p) = inl (to p)
like to from (inr n) = inr (λ q. n (from q))

both : {P Q : Type 0} → Known P → Known Q → Known (P × Q)
both (inl p) (inl q) = inl (p, q)
both (inl p) (inr n) = inr (λ r. n r.1)
both (inr n) q = inr (λ r. n r.0)

either : {P Q : Type 0} → Known P → Known Q → Known (P ⊎ Q)
either (inl p) q = inl (inl p)
either (inr n) (inl q) = inl (inr q)
either (inr n) (inr m) = inr (λ r. elim r [ inl p ↦ n p | inr q ↦ m q ])

not_so : {P : Type 0} → Known P → Known (¬ P)
not_so (inl p) = inr (λ n. n p)
not_so (inr n) = inl n

given : {P Q : Type 0} → Known P → Known Q → Known (P → Q)
given (inl p) (inl q) = inl (λ x. q)
given (inl p) (inr n) = inr (λ f. n (f p))
given (inr n) q = inl (λ p. absurd (n p))

by : {P : Type 0} (b : Bool) → Decides b P → Known P
by true d = inl (d.0 refl)
by false d = inr (λ p. let z : false ≡ true = d.1 p in cc)

same : (a b : ℕ) → Known (a ≡ b)
same a b = by _ (Decides-eqb a b)

below : (a b : ℕ) → Known (a < b)
below a b = by _ (Decides-ltb a b)

within : (a b : ℕ) → Known (a ≤ b)
within a b = like (λ (h : a < b + 1). omega (arith, h)) (λ (h : a ≤ b). omega (arith, h)) (below a (b + 1))

same_bytes : (xs ys : List ℕ) → Known (xs ≡ ys)
same_bytes xs ys = by _ (bytes_eq-Decides xs ys)

same_pair : (p q : ℕ × ℕ) → Known (p ≡ q)
same_pair p q =
    like (λ e. λ i. (e.0 i, e.1 i)) (λ e. (ap (λ (r : ℕ × ℕ). r.0) e, ap (λ (r : ℕ × ℕ). r.1) e))
    (both (same p.0 q.0) (same p.1 q.1))

each : (P : ℕ → Type 0) → ((i : ℕ) → Known (P i)) → (n : ℕ) → Known ((i : ℕ) → i < n → P i)
each P known zero = inl (λ i low. absurd (omega (arith, low)))
each P known (suc n) =
    like (λ r i low. elim (cases_eq i n)
    [ inl e ↦ subst P (sym e) r.1 | inr other ↦ r.0 i (omega (arith, low, other)) ])
    (λ f. (λ i low. f i (omega (arith, low)), f n (omega arith))) (both (each P known n) (known n))

some : (P : ℕ → Type 0) → ((i : ℕ) → Known (P i)) → (n : ℕ) → ((i : ℕ) × P i) ⊎ ((i : ℕ) → i < n → ¬ (P i))
some P known zero = inr (λ i low. absurd (omega (arith, low)))
some P known (suc n) =
    elim (known n) [
      | inl p ↦ inl (n, p)
      | inr none ↦ elim (some P known n) [
        | inl found ↦ inl found
        | inr all ↦ inr
            (λ i low. elim (cases_eq i n)
            [ inl e ↦ subst (λ j. ¬ (P j)) (sym e) none | inr other ↦ all i (omega (arith, low, other)) ])
      ]
    ]

-- ---- a log

signed : (head : List ℕ) → Known (IsSigned head)
signed head =
    like (λ r. record { first = r.0; second = r.1.0; third = r.1.1.0; fourth = r.1.1.1.0; sum = r.1.1.1.1 })
    (λ s. (s.first, (s.second, (s.third, (s.fourth, s.sum)))))
    (both (same (slice_index head 0) 0x37)
    (both (same (slice_index head 1) 0x7f) (both (same (slice_index head 2) 0x06) (both (same _ _)
    (same_pair (checksum (is_big head) (0, 0) (part head 0 24)) (stored_sum head 24))))))

headed : (size : ℕ) (head : List ℕ) → Known (IsHeader size head)
headed size head =
    like (λ r. record { signed = r.0; version = r.1.0; size = r.1.1 }) (λ h. (h.signed, (h.version, h.size)))
    (both (signed head) (both (same (be32 head 4) 3007000) (same (be32 head 8) size)))

framed : (head : List ℕ) (before : ℕ × ℕ) (bytes : List ℕ) → Known (IsFrame head before bytes)
framed head before bytes =
    like (λ r. record { salt = r.0; page = r.1.0; sum = r.1.1 }) (λ f. (f.salt, (f.page, f.sum)))
    (both (same_bytes (part bytes 8 8) (part head 16 8)) (both (not_so (same (page_number bytes) 0))
    (same_pair (frame_sum (is_big head) before bytes) (stored_sum bytes 16))))

met : (tally : Tally) (size : ℕ) → Known (Meets tally size)
met None size = inl (λ a b said seen e. let z : None ≡ Some (said, seen) = e in cc)
met (Some t) size =
    like (λ f a b said seen e. let p = same_Some t (said, seen) e in sym (ap (λ (q : ℕ × ℕ). q.0) p) ∙ f a b
    ∙ ap (λ (q : ℕ × ℕ). q.1 + (count_page - size)) p)
    (λ f a b. f a b t.0 t.1 refl)
    (given (not_so (same size 0)) (given (below size count_page) (same t.0 (t.1 + (count_page - size)))))

module _ (size : ℕ) (log : List ℕ) where
  passing : (i : ℕ) → Known (Passes size log i)
  passing i =
      like (λ r. record { within = r.0; passes = r.1 }) (λ p. (p.within, p.passes))
      (both (within (frame_at size i + (24 + size)) (length log))
      (framed (header log) (sum_before size log i) (frame size log i)))

  valid : (i : ℕ) → Known (IsValid size log i)
  valid i =
      like (λ r. record { within = r.0.within; passes = r.0.passes; counted = r.1 })
      (λ v. (record { within = v.within; passes = v.passes }, v.counted))
      (both (passing i) (met (tally_at size log i) (commit_size (frame size log i))))

  -- a frame that is in the file has a number below this
  abbrev most : ℕ
  most = length log + 2

  long : (i : ℕ) → i ≤ frames_len size i
  long zero = omega arith
  long (suc i) = omega (arith, long i, frames_len-suc size i)

  low : (i : ℕ) → frame_at size i + (24 + size) ≤ length log → i < most
  low i fits = omega (arith, long i, fits)

  commits : (k : ℕ) → Known ((i : ℕ) → i + 1 ≡ k → commit_size (frame size log i) ≢ 0)
  commits zero = inl (λ i e. absurd (omega (arith, e)))
  commits (suc k) =
      like (λ r i e. subst (λ j. commit_size (frame size log j) ≢ 0) (omega (arith, e)) r) (λ f. f k (omega arith))
      (not_so (same (commit_size (frame size log k)) 0))

  committed : (k : ℕ) → Known (IsCommitted size log k)
  committed k =
      like (λ r. record { long = r.0; head = r.1.0; valid = r.1.1.0; commits = r.1.1.1 })
      (λ c. (c.long, (c.head, (c.valid, c.commits))))
      (both (below 32 (length log))
      (both (headed size (header log)) (both (each (IsValid size log) valid k) (commits k))))

  abbrev AllValid : ℕ → Type 0
  AllValid j = (i : ℕ) → i < j → IsValid size log i

  abbrev IsQuiet : ℕ → ℕ → Type 0
  IsQuiet k j = k ≤ j → AllValid (suc j) → commit_size (frame size log j) ≡ 0

  abbrev IsAlone : ℕ → ℕ → Type 0
  IsAlone k j = k ≤ j → AllValid j → Passes size log j → Passes size log (suc j) → IsValid size log j

  quiet : (k j : ℕ) → Known (IsQuiet k j)
  quiet k j =
      given (within k j) (given (each (IsValid size log) valid (suc j)) (same (commit_size (frame size log j)) 0))

  alone : (k j : ℕ) → Known (IsAlone k j)
  alone k j =
      given (within k j)
      (given (each (IsValid size log) valid j) (given (passing j) (given (passing (suc j)) (valid j))))

  last : (k : ℕ) → Known (IsLast size log k)
  last k =
      like (λ r. record {
        quiet = λ j more all. elim (below j most) [
          | inl here ↦ r.0 j here more (λ i less. all i (omega (arith, less)))
          | inr past ↦ absurd (past (low j ((all j (omega arith)).within)))
        ];
        alone = λ j more all passes next. elim (below j most) [
          | inl here ↦ r.1 j here more all passes next
          | inr past ↦ absurd (past (low j passes.within))
        ];
      })
      (λ l. (
        λ j here more all. l.quiet j more (λ i less. all i (omega (arith, less))),
        λ j here more all passes next.
            l.alone j more all passes next,
      ))
      (both (each (IsQuiet k) (quiet k) most) (each (IsAlone k) (alone k) most))

  ignored : Known (IsIgnored log)
  ignored = either (below (length log) (32 + 24)) (not_so (signed (header log)))

  replayed : (k : ℕ) → Known (Replays size log k)
  replayed k = either (both ignored (same k 0)) (both (committed k) (last k))

  few : (k : ℕ) → Replays size log k → k < most
  few k (inl none) = omega (arith, none.1)
  few zero (inr taken) = omega arith
  few (suc k) (inr taken) = let at = (taken.0.valid k (omega arith)).within in omega (arith, long k, at)

  replays : ((k : ℕ) × Replays size log k) ⊎ ((k : ℕ) → ¬ (Replays size log k))
  replays =
      elim (some (Replays size log) replayed most)
      [ inl found ↦ inl found | inr none ↦ inr (λ k r. none k (few k r) r) ]

-- ---- two files

pub recovers_or_not : (size : ℕ) (files : Image)
    → ((pages : Pages) × Recovers size files pages) ⊎ ((pages : Pages) → ¬ (Recovers size files pages))
recovers_or_not size files =
    elim (replays size files.log) [
      | inl found ↦ elim (below 0 (length files.db)) [
        | inl some' ↦ inl (
          pages_after size files.log files.db found.0,
          record { frames = found.0; replays = found.1; present = some'; gives = refl },
        )
        | inr none ↦ inr (λ pages r. none r.present)
      ]
      | inr none ↦ inr (λ pages r. none r.frames r.replays)
    ]
