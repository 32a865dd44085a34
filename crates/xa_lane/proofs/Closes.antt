-- How many parcels a lane has, and what the lists that close a lane say together.
use Rattle.xa_base.proofs.{rules, ◌≡◌, ℕ, zero, suc, ◌+◌, ◌<◌, ◌≤◌, cond, List, [], ◌∷◌, ◌++◌, length, sym, refl, ap}
use Rattle.xa_base.proofs.{◌∙◌, ⊎_elim, append_assoc, eq-eqb, ne_eqb, arith, length-append, lt_of_not-le, ◌==◌, map}
use Rattle.xa_base.proofs.{get_or, append-nil, Option, All, eqb-true, Any-from_list_any}
use Rattle.std.proofs.Math.Nat.{eq-or-lt_of_le}
use Rattle.xa_lane.specs.{Parcel, Log, View, Receives, of_sender, after_get, Popped, receiver_learns, Tied, Within}
use Rattle.xa_lane.specs.{items_in, Covers, made_in, taken_in, told_in, Sending, somes, kept, left_of, HasAllEnds}
use Rattle.xa_lane.specs.{Conserves, EndsLast, LeavesNothing, AreKnown, log_of_end}
use Rattle.xa_base.specs.{MOST_QUEUED}
use Rattle.xa_lane.proofs.Parcels.{few_items, of_sender-append, somes-append, somes_marks, left_is, nothing_behind}
use Rattle.xa_lane.proofs.Parcels.{nil_left, nil_right}
use mathlib.Core.Option.{some}
use lib.ListN.{get_elem?}

-- ---- how many parcels a lane has: as many at any two moments once all senders were taken in

not_cons : {X : Type 0} (xs : List X) (x : X) → x ∷ xs ≡ [] → ⊥
not_cons xs x e = cc

module _ {T : Type 0} where
  -- how many parcels of the senders below n the list has
  abbrev total : ℕ → List (Parcel T) → ℕ
  total zero xs = 0
  total (suc n) xs = total n xs + length (of_sender n xs)

  total_else : (n : ℕ) (x : Parcel T) (xs : List (Parcel T)) → n ≤ x.from → total n (x ∷ xs) ≡ total n xs
  total_else zero x xs h = refl
  total_else (suc n) x xs h = search (arith, total_else n x xs (omega arith), ne_eqb, x.from)

  total_here : (n : ℕ) (x : Parcel T) (xs : List (Parcel T)) → x.from < n → total n (x ∷ xs) ≡ total n xs + 1
  total_here zero x xs h = absurd (omega arith)
  total_here (suc n) x xs h =
      ⊎_elim
      (λ (s : x.from ≡ n).
      let e = ap (λ b. length (cond b (x.item ∷ of_sender n xs) (of_sender n xs))) (eq-eqb x.from n s) in
      omega (arith, total_else n x xs (omega arith), e))
      (λ (s : x.from < n).
      let e =
      ap (λ b. length (cond b (x.item ∷ of_sender n xs) (of_sender n xs))) (ne_eqb x.from n (λ e. omega arith)) in
      omega (arith, total_here n x xs s, e))
      (eq-or-lt_of_le (omega arith))

  total_nil : (n : ℕ) (xs : List (Parcel T)) → xs ≡ [] → total n xs ≡ 0
  total_nil zero xs e = refl
  total_nil (suc n) xs e = search (arith, total_nil n xs e)

  pub within_head : (n : ℕ) (x : Parcel T) (xs : List (Parcel T)) → Within n (x ∷ xs) → x.from < n
  within_head n x xs h =
      lt_of_not-le
      (λ e. let r = ap (λ b. cond b (x.item ∷ of_sender x.from xs) (of_sender x.from xs))
      (eq-eqb x.from x.from refl) in not_cons (of_sender x.from xs) x.item (sym r ∙ h x.from e))

  pub within_tail : (n : ℕ) (x : Parcel T) (xs : List (Parcel T)) → Within n (x ∷ xs) → Within n xs
  within_tail n x xs h p e = search (arith, within_head, ne_eqb, x.from)

  total_all : (n : ℕ) (xs : List (Parcel T)) → Within n xs → total n xs ≡ length xs
  total_all n [] h = total_nil n [] refl
  total_all n (x ∷ xs) h = search (arith, total_all n xs (within_tail n x xs h), within_tail, total_here, within_head)

  total_same : (n : ℕ) (xs ys : List (Parcel T)) → ((p : ℕ) → p < n → of_sender p xs ≡ of_sender p ys)
      → total n xs ≡ total n ys
  total_same zero xs ys h = refl
  total_same (suc n) xs ys h = search (arith, total_same n xs ys (λ p e. h p (omega arith)))

  -- at any two moments after that there are as many parcels, taken and held
  pub as_many : (n : ℕ) (told : List (Log T)) (xs ys : List (Parcel T)) → Covers n told → Tied told xs → Tied told ys
      → Within n xs → Within n ys
      → length xs ≡ length ys
  as_many n told xs ys covers tx ty wx wy =
      sym (total_all n xs wx)
      ∙ total_same n xs ys (λ p e. let c = covers p e in rw c.3 at (tx c.0 c.1 c.2 ∙ sym (ty c.0 c.1 c.2)))
      ∙ total_all n ys wy

  -- the receiver's view after one more pop
  pub drained : (made : ℕ) (got held : List (Parcel T)) (told : List (Log T)) (v w : View T) (x : Parcel T)
      → v ≡ Receives made (got ++ held) told
      → Popped v x w
      → w ≡ Receives made (got ++ (held ++ x ∷ [])) told
  drained made got held told v w x e p =
      p.0 ∙ ap (λ v. after_get v x) e ∙ ap (λ g. Receives made g told) (append_assoc got held (x ∷ []))

  -- a pop after the first look finds one of the parcels of that look, of which there are few
  pub room_for : (made : ℕ) (got held items : List (Parcel T)) (told : List (Log T)) (v₀ v w : View T) (x : Parcel T)
      → Covers made told
      → v₀ ≡ Receives made got told → receiver_learns v₀ items → v ≡ Receives made (got ++ held) told → Popped v x w
      → length (items_in held) < MOST_QUEUED
  room_for made got held items told v₀ v w x covers e₀ look e p =
      let a = rw e₀ at look in
      let rest : List (Parcel T) = p.2.0 in
      let b = rw e at p.2.1 in
      let same : length (got ++ items) ≡ length ((got ++ held) ++ x ∷ rest) =
      as_many made told (got ++ items) ((got ++ held) ++ x ∷ rest) covers a.0 b.0 a.1 b.1 in
      omega (
        arith,
        same,
        few_items held,
        a.2,
        length-append got items,
        length-append (got ++ held) (x ∷ rest),
        length-append got held,
      )

-- ---- what the lists that close a lane say together

module _ {T : Type 0} where
  all_of_within : (n : ℕ) (xs : List (Parcel T)) → Within n xs → All (λ x. x.from < n) xs
  all_of_within n [] w k d h = absurd (omega arith)
  all_of_within n (x ∷ xs) w zero d h = within_head n x xs w
  all_of_within n (x ∷ xs) w (suc k) d h = all_of_within n xs (within_tail n x xs w) k d (omega arith)

  kept_below : (n p : ℕ) (i : Option T) (xs : List (ℕ × T)) → p < n → All (λ x. x.0 < n) xs
      → All (λ x. x.0 < n) (kept p i xs)
  kept_below n p i xs below all k d h = search (arith, rules)

  items_below : (n : ℕ) (xs : List (Parcel T)) → Within n xs → All (λ x. x.0 < n) (items_in xs)
  items_below n [] w k d h = absurd (omega arith)
  items_below n (x ∷ xs) w k d h =
      kept_below n x.from x.item (items_in xs) (within_head n x xs w) (items_below n xs (within_tail n x xs w)) k d h

  pub are_known : (n : ℕ) (taken held : List (Parcel T)) (left : List (ℕ × T)) → left ≡ items_in held
      → Within n (taken ++ held) → AreKnown n taken left
  are_known n taken held left e w = (
    all_of_within n taken
        (λ p b. nil_left (of_sender p taken) (of_sender p held) (sym (of_sender-append p taken held) ∙ w p b)),
    rw e (items_below n held
        (λ p b. nil_right (of_sender p taken) (of_sender p held) (sym (of_sender-append p taken held) ∙ w p b))),
  )

  -- the queue was found empty, so all was taken
  pub closed : (made : ℕ) (got held items : List (Parcel T)) (told : List (Log T)) (v : View T)
      → v ≡ Receives made (got ++ held) told → length items ≡ 0
      → receiver_learns v items
      → Tied told (got ++ held) × Within made (got ++ held)
  closed made got held [] told v e none look =
      let r = rw e at look in
      let all = append-nil (got ++ held) in
      ((λ k l at. ap (of_sender l.from) (sym all) ∙ r.0 k l at), (λ p b. ap (of_sender p) (sym all) ∙ r.1 p b))
  closed made got held (x ∷ xs) told v e none look = absurd (omega arith)

  pub known_as : (n made : ℕ) (got taken held : List (Parcel T)) (told : List (Log T)) (v : View T)
      (left : List (ℕ × T))
      → v ≡ Receives made got told
      → made ≡ n → got ≡ taken
      → left ≡ items_in held → Within (made_in v) (taken_in v ++ held) → AreKnown n taken left
  known_as n made got taken held told v left e m g l w =
      are_known n taken held left l
      (rw (e, g, m) at w)

module _ {T : Type 0} where
  -- what the end marks say gives what the items say
  pub conserves_of_ends : (ends : List (Sending T)) (taken : List (Parcel T)) (left : List (ℕ × T))
      → EndsLast ends taken left → Conserves ends taken left
  conserves_of_ends ends taken left h k d below =
      let e : Sending T = get_or ends k d in
      ap (λ l. somes (of_sender e.index taken) ++ left_of e.index l) h.1
      ∙ ap (λ l. somes (of_sender e.index taken) ++ l) (left_is e.index h.0)
      ∙ sym (somes-append (of_sender e.index taken) (of_sender e.index h.0))
      ∙ ap somes (sym (of_sender-append e.index taken h.0)) ∙ ap somes (h.2 k d below)
      ∙ somes_marks e.sent

  told_at : (ends : List (Sending T)) (k : ℕ) (d : Sending T) → k < length ends
      → get_elem? (map log_of_end ends) k ≡ some (log_of_end (get_or ends k d))
  told_at [] k d h = absurd (omega arith)
  told_at (x ∷ xs) zero d h = refl
  told_at (x ∷ xs) (suc k) d h = told_at xs k d (omega arith)

  pub marked : (ends : List (Sending T)) (taken held : List (Parcel T)) → Tied (map log_of_end ends) (taken ++ held)
      → EndsLast ends taken (items_in held)
  marked ends taken held h = (held, refl, λ k d below. h k (log_of_end (get_or ends k d)) (told_at ends k d below))

  pub leaves_nothing : (ends : List (Sending T)) (taken : List (Parcel T)) (left : List (ℕ × T))
      → EndsLast ends taken left → LeavesNothing ends taken left
  leaves_nothing ends taken left h k d below ended =
      let e : Sending T = get_or ends k d in
      let r =
      nothing_behind (of_sender e.index taken) (of_sender e.index h.0) e.sent
      (sym (of_sender-append e.index taken h.0) ∙ h.2 k d below) ended in
      (r.0, ap (left_of e.index) h.1 ∙ left_is e.index h.0 ∙ ap somes r.1)

  pub covers : (n : ℕ) (ends : List (Sending T)) → HasAllEnds n ends → Covers n (map log_of_end ends)
  covers n ends whole p e =
      let c = Any-from_list_any (λ (e : Sending T). e.index == p) ends (whole p e) in (
        c.0,
        log_of_end (get_or ends c.0 c.1),
        told_at ends c.0 c.1 c.2,
        ap (λ (e : Sending T). e.index) c.3
            ∙ eqb-true c.1.index p c.4,
      )

  -- the same of the pass that took the senders in
  pub covers_as : (n made : ℕ) (got : List (Parcel T)) (ends : List (Sending T)) (v : View T)
      → v ≡ Receives made got (map log_of_end ends) → made ≡ n
      → HasAllEnds n ends → Covers (made_in v) (told_in v)
  covers_as n made got ends v e m whole = rw (e, m) (covers n ends whole)

  pub marked_as : (made : ℕ) (got taken held : List (Parcel T)) (ends : List (Sending T)) (v : View T)
      (left : List (ℕ × T))
      → v ≡ Receives made got (map log_of_end ends) → got ≡ taken
      → left ≡ items_in held → Tied (told_in v) (taken_in v ++ held) → EndsLast ends taken left
  marked_as made got taken held ends v left e g l tie = search (arith, marked)

  -- what a pass knows, by its own parts
  pub knows_itself : (made : ℕ) (got : List (Parcel T)) (told : List (Log T)) (v : View T) → v ≡ Receives made got told
      → v ≡ Receives (made_in v) (taken_in v) (told_in v)
  knows_itself made got told v e = rw e

  -- the same of one that took no sender in
  pub knows_no_end : (made : ℕ) (v : View T) → v ≡ Receives made (taken_in v) []
      → v ≡ Receives (made_in v) (taken_in v) []
  knows_no_end made v e = e ∙ ap (λ n. Receives n (taken_in v) []) (sym (ap made_in e))
