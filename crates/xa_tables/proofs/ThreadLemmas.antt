-- The maps and the sets that the threads make, and which threads are free.
use Rattle.xa_base.proofs.{tied_true, tied_false, cases_eq, inserted_there, inserted_other, removed_there}
use Rattle.xa_base.proofs.{removed_other, ◌≡◌, ℕ, Bool, cond, not, ◌||◌, ◌&&◌, List, map, Option, None, Some, is_some}
use Rattle.xa_base.proofs.{arith, sym, ap, ◌∙◌, nat_cmp, eq_by_cmp, nat_cmp_total, find, nat_cmp-IsAntisymmetric, ◌≢◌}
use Rattle.xa_base.proofs.{zero, suc, ◌+◌, ◌-◌, ◌<◌, ◌≤◌, true, false, if◌then◌else◌, [], ◌∷◌, length, replicate, refl}
use Rattle.xa_base.proofs.{get_or, set, list_any, eq_by_cmp_equiv, FinMap, from_entries, get-from_entries, is_equal}
use Rattle.xa_base.proofs.{put_one, remove_one, same_finds, Distinct, any_entries, ◌*◌, by_if, FinSet, contains-insert}
use Rattle.xa_base.proofs.{contains-remove, is_some-find}
use Rattle.std.specs.FinSet.{same_set, from_list, contains-from_list}
use Rattle.xa_base.specs.{any_entry}
use Rattle.xa_tables.specs.{with_entry, entries_from, Association, has_opened, has_association, TablesAndCode, next}
use Rattle.xa_tables.specs.{needs_opening, TablesWithRoom, UsesAtMost, is_free, count_if, free_threads, places_taken}
use Rattle.xa_tables.specs.{Tables}
use Rattle.xa_words.specs.{Op, RmFail}
use Rattle.xa_tables.proofs.Effects.{Effect, at_rules}
use Rattle.std.specs.FinMap as map
use Rattle.std.specs.FinSet as finset

-- ---- the maps and the sets that the threads make

abbrev Marks : Type 0
Marks = List (ℕ × Unit {0})

-- the keys of the entries
abbrev pub marked : Marks → FinSet nat_cmp
marked es = from_list (map {B = ℕ} (λ (e : ℕ × Unit {0}). e.0) es)

-- a key is in the set if the list finds it
pub contains-marked : (es : Marks) (q : ℕ) → finset.contains (marked es) q ≡ is_some (find nat_cmp q es)
contains-marked es q = contains-from_list nat_cmp_total _ q ∙ sym (is_some-find nat_cmp q es)

-- one key more
pub mark_put : (es fs : Marks) (k : ℕ)
    → ((q : ℕ) → find nat_cmp q fs ≡ cond (eq_by_cmp nat_cmp q k) (Some tt) (find nat_cmp q es))
    → marked fs ≡ finset.insert (marked es) k
mark_put es fs k h = same_set nat_cmp_total nat_cmp-IsAntisymmetric (marked fs) (finset.insert (marked es) k) (λ q.
    grind
    (arith, (contains-marked fs q), (contains-marked es q), (h q), (contains-insert nat_cmp_total (marked es) k q)))

-- one key less
pub mark_removed : (es fs : Marks) (k : ℕ)
    → ((q : ℕ) → find nat_cmp q fs ≡ cond (eq_by_cmp nat_cmp q k) None (find nat_cmp q es))
    → marked fs ≡ finset.remove (marked es) k
mark_removed es fs k h = same_set nat_cmp_total nat_cmp-IsAntisymmetric (marked fs) (finset.remove (marked es) k) (λ q.
    grind
    (arith, (contains-marked fs q), (contains-marked es q), (h q), (contains-remove nat_cmp_total (marked es) k q)))

-- the same keys
pub mark_same : (es fs : Marks) → ((q : ℕ) → find nat_cmp q fs ≡ find nat_cmp q es) → marked fs ≡ marked es
mark_same es fs h =
    same_set nat_cmp_total nat_cmp-IsAntisymmetric _ _
    (λ q. contains-marked fs q ∙ ap is_some (h q) ∙ sym (contains-marked es q))

-- ---- the threads

-- the map with this value at the key, or with none there
abbrev put_or_removed : {V : Type 0} → FinMap nat_cmp V → ℕ → Option V → FinMap nat_cmp V
put_or_removed m k None = map.remove m k
put_or_removed m k (Some v) = map.insert m k v

abbrev same_nat : ℕ → ℕ → Bool
same_nat = eq_by_cmp nat_cmp

same_nat-yes : (q k : ℕ) → same_nat q k ≡ true → q ≡ k
same_nat-yes q k t = nat_cmp-IsAntisymmetric q k (is_equal _ t)

module _ {S X : Type 0} (f : S → Option X) where
  absent : (q n : ℕ) (ss : List S) → q < n → find nat_cmp q (entries_from f n ss) ≡ None
  absent q n [] h = refl
  absent q n (s ∷ ss) h = grind (arith, (absent q (suc n) ss (omega arith)), find, tied_false)

  -- what f reads of the place that has the number q
  look : ℕ → List S → ℕ → Option X
  look n [] q = None
  look n (s ∷ ss) q = cond (same_nat q n) (f s) (look (suc n) ss q)

  find-look : (q n : ℕ) (ss : List S) → find nat_cmp q (entries_from f n ss) ≡ look n ss q
  unfolding look
  find-look q n [] = refl
  find-look q n (s ∷ ss) = grind (arith, (find-look q (suc n) ss), find, look, absent, same_nat-yes)

  look-set : (ss : List S) (i n k q : ℕ) (s : S) → k ≡ n + i → i < length ss
      → look n (set ss i s) q ≡ cond (same_nat q k) (f s) (look n ss q)
  unfolding look
  look-set [] i n k q s e h = absurd (omega arith)
  look-set (x ∷ ss) zero n k q s e h = grind (arith, look)
  look-set (x ∷ ss) (suc j) n k q s e h =
      grind (arith, (look-set ss j (suc n) k q s (omega arith) (omega arith)), look, set, tied_false, same_nat-yes)

  look-at : (ss : List S) (i n k : ℕ) (d : S) → k ≡ n + i → i < length ss → look n ss k ≡ f (get_or ss i d)
  unfolding look
  look-at [] i n k d e h = absurd (omega arith)
  look-at (x ∷ ss) zero n k d e h = ap (λ b. cond b (f x) (look (suc n) ss k)) (tied_true k n (omega arith))
  look-at (x ∷ ss) (suc j) n k d e h =
      grind (arith, (look-at ss j (suc n) k d (omega arith) (omega arith)), look, tied_false)

  -- what is found once what f reads as o is written
  written : (ss : List S) (t : ℕ) (s : S) (o : Option X) → 0 < t → t ≤ length ss → f s ≡ o
      → (q : ℕ)
      → find nat_cmp q (entries_from f 1 (set ss (t - 1) s)) ≡ cond (same_nat q t) o
      (find nat_cmp q (entries_from f 1 ss))
  written ss t s o p h e q = grind (arith, find-look, set, look-set)

  -- what the map tells of thread t is what f reads of its place
  pub get_thread : (ss : List S) (t : ℕ) (d : S) → 0 < t → t ≤ length ss
      → map.get (from_entries {R = nat_cmp} (entries_from f 1 ss)) t ≡ f (get_or ss (t - 1) d)
  get_thread ss t d p h =
      get-from_entries nat_cmp_total _ t ∙ find-look t 1 ss ∙ look-at ss (t - 1) 1 t d (omega arith) (omega arith)

  -- what f reads of a write stands at thread t
  pub thread_given : (ss : List S) (t : ℕ) (s : S) (o : Option X) → 0 < t → t ≤ length ss → f s ≡ o
      → from_entries {R = nat_cmp} (entries_from f 1 (set ss (t - 1) s)) ≡ put_or_removed
      (from_entries (entries_from f 1 ss)) t o
  thread_given ss t s (Some v) p h e =
      put_one nat_cmp_total nat_cmp-IsAntisymmetric _ _ t v (written ss t s (Some v) p h e)
  thread_given ss t s None p h e =
      remove_one nat_cmp_total nat_cmp-IsAntisymmetric _ _ t (written ss t s None p h e)
      (λ q. (eq_by_cmp_equiv nat_cmp_total).symm t q)

  same_entries : (ss : List S) (t : ℕ) (s d : S) → 0 < t → t ≤ length ss → f s ≡ f (get_or ss (t - 1) d)
      → (q : ℕ) → find nat_cmp q (entries_from f 1 (set ss (t - 1) s)) ≡ find nat_cmp q (entries_from f 1 ss)
  same_entries ss t s d p h e q =
      grind (arith, (written ss t s (f s) p h refl q), find, find-look, look-at, same_nat-yes)

  -- threads of which f reads nothing make no entry
  pub none_from : (s : S) (k n : ℕ) → f s ≡ None → entries_from f n (replicate k s) ≡ []
  none_from s zero n e = refl
  none_from s (suc k) n e =
      ap (λ o. with_entry n o (entries_from f (suc n) (replicate k s))) e ∙ none_from s k (suc n) e

  -- a write that f doesn't see leaves the map as it was
  pub thread_same : (ss : List S) (t : ℕ) (s d : S) → 0 < t → t ≤ length ss → f s ≡ f (get_or ss (t - 1) d)
      → from_entries {R = nat_cmp} (entries_from f 1 (set ss (t - 1) s)) ≡ from_entries (entries_from f 1 ss)
  thread_same ss t s d p h e = same_finds nat_cmp_total nat_cmp-IsAntisymmetric _ _ (same_entries ss t s d p h e)

  distinct_from : (n : ℕ) (ss : List S) → Distinct nat_cmp_total nat_cmp-IsAntisymmetric (entries_from f n ss)
  distinct_from n [] = tt
  distinct_from n (s ∷ ss) =
      elim (f s) as (λ o. Distinct nat_cmp_total nat_cmp-IsAntisymmetric (with_entry n o (entries_from f (suc n) ss))) [
        | None ↦ distinct_from (suc n) ss
        | Some v ↦ (absent n (suc n) ss (omega arith), distinct_from (suc n) ss)
      ]

  abbrev pub some_passes : (X → Bool) → S → Bool
  some_passes p s = elim (f s) [ None ↦ false | Some v ↦ p v ]

  list_any-from : (p : X → Bool) (n : ℕ) (ss : List S)
      → list_any (λ (e : ℕ × X). p e.1) (entries_from f n ss) ≡ list_any (some_passes p) ss
  list_any-from p n [] = refl
  list_any-from p n (s ∷ ss) = grind (arith, (list_any-from p (suc n) ss))

  -- some entry passes if some thread does
  pub any_thread : (p : X → Bool) (ss : List S)
      → any_entry {R = nat_cmp} (λ t x. p x) (from_entries (entries_from f 1 ss)) ≡ list_any (some_passes p) ss
  any_thread p ss =
      any_entries nat_cmp_total nat_cmp-IsAntisymmetric (λ t x. p x) (entries_from f 1 ss) (distinct_from 1 ss)
      ∙ list_any-from p 1 ss

-- where nobody has a mark or an association
pub ruleset free_rules = (marked, from_entries, none_from)

module _ {S : Type 0} (f : S → Option (Unit {0})) where
  -- the same for the set of threads that have a mark
  pub open_given : (ss : List S) (t : ℕ) (s : S) (b : Bool) → 0 < t → t ≤ length ss
      → f s ≡ (if b then Some tt else None)
      → marked (entries_from f 1 (set ss (t - 1) s))
      ≡ (if b then finset.insert (marked (entries_from f 1 ss)) t else finset.remove (marked (entries_from f 1 ss)) t)
  open_given ss t s b p h e = grind (arith, mark_put, written, mark_removed)

  pub open_same : (ss : List S) (t : ℕ) (s d : S) → 0 < t → t ≤ length ss → f s ≡ f (get_or ss (t - 1) d)
      → marked (entries_from f 1 (set ss (t - 1) s)) ≡ marked (entries_from f 1 ss)
  open_same ss t s d p h e = mark_same _ _ (same_entries f ss t s d p h e)

  pub contains_thread : (ss : List S) (t : ℕ) (d : S) → 0 < t → t ≤ length ss
      → finset.contains (marked (entries_from f 1 ss)) t ≡ is_some (f (get_or ss (t - 1) d))
  contains_thread ss t d p h = search (arith, contains-marked, is_some, find-look, look-at)

-- ---- a thread that begins a branch was free, and each request frees at most one thread

-- what keeps all places keeps all but some
pub keeps_more : (places : ℕ) (old new : TablesWithRoom) → UsesAtMost 0 old new → UsesAtMost places old new
keeps_more places old new k = record { threads = k.threads; spare = omega (arith, k.spare); adds = k.adds }

-- nobody is free where nobody has it open
pub none_free : (n : ℕ) (T : Tables) → ((u : ℕ) → has_opened T u ≡ false) → free_threads n T ≡ 0
none_free zero T closed = refl
none_free (suc n) T closed = grind (arith, (none_free n T closed))

-- T becomes U, and only thread t may be free in one of them alone
module _ (t : ℕ) (T U : Tables) (others : (u : ℕ) → u ≢ t → is_free U u ≡ is_free T u) where
  same_below : (n : ℕ) → n < t → free_threads n U ≡ free_threads n T
  same_below zero h = refl
  same_below (suc n) h = grind (arith, (same_below n (omega arith)))

  one_changes : (n : ℕ) → 0 < t → t ≤ n
      → free_threads n U + count_if (is_free T t) ≡ free_threads n T + count_if (is_free U t)
  one_changes zero p h = absurd (omega arith)
  one_changes (suc n) p h = grind (arith, cases_eq, same_below, (one_changes n))

-- so what a step of t takes of the places is paid, if it is by what becomes of t
pays : (n t : ℕ) (T U : Tables) → 0 < t → t ≤ n → ((u : ℕ) → u ≢ t → is_free U u ≡ is_free T u)
    → count_if (is_free U t) + 2 * places_taken t T U ≤ 1 + count_if (is_free T t)
    → free_threads n U + 2 * places_taken t T U ≤ free_threads n T + 1
pays n t T U first last others own = let counts = one_changes t T U others n first last in omega arith

-- t, which wasn't associated, takes a place
pub takes_one : (t : ℕ) (T U : Tables) (l : Association) → has_association T t ≡ false
    → U.associations ≡ map.insert T.associations t l → places_taken t T U ≡ 1
takes_one t T U l free e =
    λ i. count_if (not (free i) && is_some ((ap (λ m. map.get m t) e ∙ inserted_there T.associations t l) i))

-- what is open to another thread than the one that opens or closes
opened_other : (s : FinSet nat_cmp) (t u : ℕ) → u ≢ t → finset.contains (finset.insert s t) u ≡ finset.contains s u
opened_other s t u apart =
    contains-insert nat_cmp_total s t u ∙ ap (λ b. b || finset.contains s u) (tied_false u t apart)

closed_other : (s : FinSet nat_cmp) (t u : ℕ) → u ≢ t → finset.contains (finset.remove s t) u ≡ finset.contains s u
closed_other s t u apart =
    contains-remove nat_cmp_total s t u ∙ ap (λ b. not b && finset.contains s u) (tied_false u t apart)

module _ (t : ℕ) (T : Tables) where
  others_free : (u : ℕ) → u ≢ t → {op : Op} {a : TablesAndCode} → Effect t T op a → is_free a.0 u ≡ is_free T u
  others_free u apart effect = grind (arith, inserted_other, removed_other, opened_other, closed_other)

  -- t, which may ask for it, becomes associated only where it was free
  own_pays : {op : Op} {a : TablesAndCode} → (needs_opening op && not (has_opened T t)) ≡ false → Effect t T op a
      → count_if (is_free a.0 t) + 2 * places_taken t T a.0 ≤ 1 + count_if (is_free T t)
  own_pays may effect = search (arith, inserted_there, removed_there)

-- a request frees at most one thread, and one that takes a place makes a free thread busy
pub places_paid : (n t : ℕ) (op : Op) (T : Tables) → 0 < t → t ≤ n
    → free_threads n (next t op T).0 + 2 * places_taken t T (next t op T).0 ≤ free_threads n T + 1
unfolding next
places_paid n t op T first last =
    let P : TablesAndCode → Type 0 = λ a. free_threads n a.0 + 2 * places_taken t T a.0 ≤ free_threads n T + 1 in
    let same : P (T, RmFail) =
    pays n t T T first last (λ u apart. refl) (none_taken (has_association T t) (count_if (is_free T t))) in
    by_if P (T.shut) _ _ (λ _. same) (λ _.
    by_if P (needs_opening op && not (has_opened T t)) _ _ (λ _. same) (λ may.
    pays n t T _ first last (λ u apart. others_free t T u apart (at_rules t T op))
    (own_pays t T may (at_rules t T op))))
  where
    none_taken : (b : Bool) (n : ℕ) → n + 2 * count_if (not b && b) ≤ 1 + n
    none_taken b n = grind arith
