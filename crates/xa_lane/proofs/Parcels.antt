-- Lists of parcels, the items in them, and what several senders have sent.
use Rattle.xa_base.proofs.{rules, ◌≡◌, ℕ, ◌+◌, ◌≤◌, true, cond, ◌==◌, List, [], ◌∷◌, ◌++◌, length, map, refl, ap, ◌∙◌}
use Rattle.xa_base.proofs.{append-nil, arith, Option, Some, None, ◌≢◌, zero, suc, ◌<◌, ◌⊎◌, get_or, set, inl, inr}
use Rattle.xa_base.proofs.{slice_get}
use Rattle.xa_lane.specs.{Parcel, of_sender, marks, somes, has_mark, kept, items_in, left_of, Sending, at_place}
use Rattle.xa_lane.specs.{with_item, with_full, but_full, sent_at}

-- ---- lists of parcels, and the items in them

module _ {T : Type 0} where
  pub of_sender-append : (p : ℕ) (xs ys : List (Parcel T)) → of_sender p (xs ++ ys) ≡ of_sender p xs ++ of_sender p ys
  of_sender-append p [] ys = refl
  of_sender-append p (x ∷ xs) ys = search (arith, of_sender-append p xs ys)

  pub somes-append : (xs ys : List (Option T)) → somes (xs ++ ys) ≡ somes xs ++ somes ys
  somes-append [] ys = refl
  somes-append (Some y ∷ xs) ys = ap (λ l. y ∷ l) (somes-append xs ys)
  somes-append (None ∷ xs) ys = somes-append xs ys

  somes_map : (xs : List T) → somes (map Some xs) ≡ xs
  somes_map [] = refl
  somes_map (x ∷ xs) = ap (λ l. x ∷ l) (somes_map xs)

  pub somes_marks : (xs : List T) → somes (marks xs true) ≡ xs
  somes_marks xs = somes-append (map Some xs) (None ∷ []) ∙ append-nil (somes (map Some xs)) ∙ somes_map xs

  left_kept : (p q : ℕ) (i : Option T) (r : List (ℕ × T)) (ys : List (Option T)) → left_of p r ≡ somes ys
      → left_of p (kept q i r) ≡ somes (cond (q == p) (i ∷ ys) ys)
  left_kept p q i r ys e = search (arith, rules)

  pub left_is : (p : ℕ) (held : List (Parcel T)) → left_of p (items_in held) ≡ somes (of_sender p held)
  left_is p [] = refl
  left_is p (x ∷ xs) = left_kept p x.from x.item (items_in xs) (of_sender p xs) (left_is p xs)

  kept-append : (p : ℕ) (i : Option T) (xs ys : List (ℕ × T)) → kept p i (xs ++ ys) ≡ kept p i xs ++ ys
  kept-append p i xs ys = search (arith, rules)

  few_kept : (p : ℕ) (i : Option T) (xs : List (ℕ × T)) → length (kept p i xs) ≤ length xs + 1
  few_kept p i xs = search (arith, rules)

  pub items_in-append : (xs ys : List (Parcel T)) → items_in (xs ++ ys) ≡ items_in xs ++ items_in ys
  items_in-append [] ys = refl
  items_in-append (x ∷ xs) ys =
      ap (kept x.from x.item) (items_in-append xs ys) ∙ kept-append x.from x.item (items_in xs) (items_in ys)

  -- one item more, or an end mark
  pub one_more : (held : List (Parcel T)) (x : Parcel T) (y : T) → x.item ≡ Some y
      → items_in (held ++ x ∷ []) ≡ items_in held ++ (x.from, y) ∷ []
  one_more held x y e = items_in-append held (x ∷ []) ∙ ap (λ i. items_in held ++ kept x.from i []) e

  pub no_more : (held : List (Parcel T)) (x : Parcel T) → x.item ≡ None → items_in (held ++ x ∷ []) ≡ items_in held
  no_more held x e =
      items_in-append held (x ∷ []) ∙ ap (λ i. items_in held ++ kept x.from i []) e ∙ append-nil (items_in held)

  pub few_items : (xs : List (Parcel T)) → length (items_in xs) ≤ length xs
  few_items [] = omega arith
  few_items (x ∷ xs) = let r = few_items xs in let s = few_kept x.from x.item (items_in xs) in omega arith

  -- after an end mark nothing stands
  pub nothing_behind : (xs ys : List (Option T)) (sent : List T) → xs ++ ys ≡ marks sent true → has_mark xs ≡ true
      → (somes xs ≡ sent) × (ys ≡ [])
  nothing_behind [] ys sent e h = absurd (cc)
  nothing_behind (None ∷ []) ys [] e h = (refl, cc)
  nothing_behind (None ∷ (x ∷ xs)) ys [] e h = absurd (cc)
  nothing_behind (Some x ∷ xs) ys [] e h = absurd (cc)
  nothing_behind (None ∷ xs) ys (s ∷ sent) e h = absurd (cc)
  nothing_behind (Some x ∷ xs) ys (s ∷ sent) e h = search (arith, nothing_behind xs ys sent (cc) h)

  pub nil_left : (xs ys : List (Option T)) → xs ++ ys ≡ [] → xs ≡ []
  nil_left [] ys e = refl
  nil_left (x ∷ xs) ys e = absurd (cc)

  pub nil_right : (xs ys : List (Option T)) → xs ++ ys ≡ [] → ys ≡ []
  nil_right [] ys e = e
  nil_right (x ∷ xs) ys e = absurd (cc)

-- ---- a list with one element changed, and what several senders have sent

module _ {A : Type 0} (f : A → A) where
  pub length-at_place : (k : ℕ) (xs : List A) → length (at_place k f xs) ≡ length xs
  length-at_place k [] = refl
  length-at_place zero (x ∷ xs) = refl
  length-at_place (suc k) (x ∷ xs) = ap suc (length-at_place k xs)

  -- an element that was read and is set to what it becomes
  pub at_place-set : (k : ℕ) (xs : List A) (x : A) → k < length xs → x ≡ get_or xs k x
      → set xs k (f x) ≡ at_place k f xs
  at_place-set k [] x within read = absurd (omega arith)
  at_place-set zero (y ∷ ys) x within read = ap (λ z. f z ∷ ys) read
  at_place-set (suc k) (y ∷ ys) x within read = ap (λ zs. y ∷ zs) (at_place-set k ys x (omega arith) read)

  -- the same of what it became
  pub at_place-became : (k : ℕ) (xs : List A) (x y : A) → k < length xs → x ≡ get_or xs k x → y ≡ f x
      → set xs k y ≡ at_place k f xs
  at_place-became k xs x y within read became = ap (set xs k) became ∙ at_place-set k xs x within read

  -- each element is as it was, or changed
  pub at_place_cases : (k j : ℕ) (xs : List A) (y : A) → slice_get (at_place k f xs) j ≡ Some y
      → (x : A) × (slice_get xs j ≡ Some x) × ((y ≡ x) ⊎ (y ≡ f x))
  at_place_cases k j [] y found = absurd (let no : None ≡ Some y = found in cc)
  at_place_cases zero zero (x ∷ xs) y found = (x, refl, inr (let both : Some (f x) ≡ Some y = found in cc))
  at_place_cases zero (suc j) (x ∷ xs) y found = (y, found, inl refl)
  at_place_cases (suc k) zero (x ∷ xs) y found = (x, refl, inl (let both : Some x ≡ Some y = found in cc))
  at_place_cases (suc k) (suc j) (x ∷ xs) y found = at_place_cases k j xs y found

-- what a change leaves of an element
module _ {A B : Type 0} (f : A → A) (g : A → B) (left : (x : A) → g (f x) ≡ g x) where
  pub map-at_place : (k : ℕ) (xs : List A) → map g (at_place k f xs) ≡ map g xs
  map-at_place k [] = refl
  map-at_place zero (x ∷ xs) = ap (λ y. y ∷ map g xs) (left x)
  map-at_place (suc k) (x ∷ xs) = ap (λ ys. g x ∷ ys) (map-at_place k xs)

module _ {T : Type 0} where
  pub sent_at-full : (j k : ℕ) (ss : List (Sending T)) → sent_at j (at_place k with_full ss) ≡ sent_at j ss
  sent_at-full j k [] = refl
  sent_at-full zero zero (s ∷ ss) = refl
  sent_at-full (suc j) zero (s ∷ ss) = refl
  sent_at-full zero (suc k) (s ∷ ss) = refl
  sent_at-full (suc j) (suc k) (s ∷ ss) = sent_at-full j k ss

  pub sent_at-item : (k : ℕ) (x : T) (ss : List (Sending T)) → k < length ss
      → sent_at k (at_place k (with_item x) ss) ≡ sent_at k ss ++ x ∷ []
  sent_at-item k x [] within = absurd (omega arith)
  sent_at-item zero x (s ∷ ss) within = refl
  sent_at-item (suc k) x (s ∷ ss) within = sent_at-item k x ss (omega arith)

  pub sent_at-other : (j k : ℕ) (x : T) (ss : List (Sending T)) → j ≢ k
      → sent_at j (at_place k (with_item x) ss) ≡ sent_at j ss
  sent_at-other j k x [] differs = refl
  sent_at-other zero zero x (s ∷ ss) differs = absurd (differs refl)
  sent_at-other (suc j) zero x (s ∷ ss) differs = refl
  sent_at-other zero (suc k) x (s ∷ ss) differs = refl
  sent_at-other (suc j) (suc k) x (s ∷ ss) differs = sent_at-other j k x ss (λ e. differs (ap suc e))

  pub sent_at-but_full : (k : ℕ) (ss : List (Sending T)) → sent_at k (map but_full ss) ≡ sent_at k ss
  sent_at-but_full k [] = refl
  sent_at-but_full zero (s ∷ ss) = refl
  sent_at-but_full (suc k) (s ∷ ss) = sent_at-but_full k ss

  pub nothing_sent : (k : ℕ) (ss : List (Sending T))
      → ((j : ℕ) (d : Sending T) → j < length ss → (get_or ss j d).sent ≡ []) → sent_at k ss ≡ []
  nothing_sent k [] none = refl
  nothing_sent zero (s ∷ ss) none = none 0 s (omega arith)
  nothing_sent (suc k) (s ∷ ss) none = nothing_sent k ss (λ j d below. none (suc j) d (omega arith))
