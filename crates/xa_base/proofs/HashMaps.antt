-- The finite map that the entries of a hash map make.
use Rattle.std.proofs.Common.{arith, sym, ap, ◌∙◌}
use Rattle.std.specs.Prelude.{◌≡◌, Bool, true, false, cond, List, [], ◌∷◌, Option, None, Some, refl}
use Rattle.std.specs.Ordering.{eq_by_cmp}
use Rattle.std.specs.declared.cmp.Ordering.{Ordering}
use Rattle.std.specs.Cmp.{IsTotalOrder, IsEquivalence, eq_by_cmp_equiv}
use Rattle.std.specs.FinMap as map
use Rattle.std.specs.FinMap.{IsAntisymmetric, find, from_entries, get-from_entries}
use Rattle.std.specs.Map.{lookup, keys_of}
use Rattle.std.specs.Map.Calls.{RetainsPairs}
use Rattle.std.specs.List.{IsDistinct, filter}
use Rattle.std.proofs.lemmas.Map.Entries.{option_filter, lookup-filter-keys, lookup-filter-values}
use Rattle.xa_base.proofs.FinMaps.{put_one, remove_one, same_finds, retain_some}

-- a value that passes a test, where there is one
by_holds : {X : Type 0} (p : X → Bool) (holds : Option X → Bool) → holds None ≡ false → ((v : X) → holds (Some v) ≡ p v)
    → (o : Option X)
    → option_filter p o ≡ cond (holds o) o None
by_holds p holds none some None = sym (ap (λ b. cond b None None) none)
by_holds p holds none some (Some v) = sym (ap (λ b. cond b (Some v) None) (some v))

-- a closure that was called at each entry, kept those whose values pass, and left the values
pub retained : {F K X : Type 0} (T : F → K → X → Bool → X → F → Type 0) (p : X → Bool)
    → ((f : F) (k : K) (v : X) (b : Bool) (w : X) (g : F) → T f k v b w g → (b ≡ p v) × (w ≡ v))
    → (f : F) (es kept : List (K × X)) → RetainsPairs T f es kept → kept ≡ filter (λ e. p e.1) es
retained T p each f [] kept r = r
retained T p each f (e ∷ es) kept r = search (arith, retained T p each r.2 es r.3 r.5, r.0, r.1, r.2, r.4, r.3, r.5)

-- a closure that was called at each entry, kept those whose keys pass, and left the values and itself
pub retained_keys : {F K X : Type 0} (T : F → K → X → Bool → X → F → Type 0) (p : K → Bool) (f : F)
    → ((k : K) (v : X) (b : Bool) (w : X) (g : F) → T f k v b w g → (b ≡ p k) × (w ≡ v) × (g ≡ f))
    → (es kept : List (K × X)) → RetainsPairs T f es kept → kept ≡ filter (λ e. p e.0) es
retained_keys T p f each [] kept r = r
retained_keys T p f each (e ∷ es) kept r =
    let call = each e.0 e.1 r.0 r.1 r.2 r.4 in
    let rest = rw call.2 at r.5 in
    let later : r.3 ≡ filter (λ e. p e.0) es = retained_keys T p f each es r.3 rest in
    r.6 ∙ (λ i. cond (call.0 i) ((e.0, call.1 i) ∷ later i) (later i))

module _ {K X : Type 0} {R : K → K → Ordering} (eq : K → K → Bool) (o : IsTotalOrder R) (same : IsAntisymmetric R)
    (by_cmp : (x y : K) → eq x y ≡ eq_by_cmp R x y) where
  find-lookup : (es : List (K × X)) (q : K) → find R q es ≡ lookup (eq q) es
  find-lookup [] q = refl
  find-lookup (e ∷ es) q = λ i. cond (sym (by_cmp q e.0) i) (Some e.1) (find-lookup es q i)

  -- the map of a hash map's entries answers as the hash map does
  pub get-lookup : (es : List (K × X)) (q : K) → map.get (from_entries {R = R} es) q ≡ lookup (eq q) es
  get-lookup es q = get-from_entries o es q ∙ find-lookup es q

  updated : (es fs : List (K × X)) (k : K) (w : Option X)
      → ((q : K) → lookup (eq q) fs ≡ cond (eq k q) w (lookup (eq q) es))
      → (q : K) → find R q fs ≡ cond (eq_by_cmp R q k) w (find R q es)
  updated es fs k w h q =
      find-lookup fs q ∙ h q
      ∙ (λ i. cond ((by_cmp k q ∙ (eq_by_cmp_equiv o).symm k q) i) w ((sym (find-lookup es q)) i))

  -- an insertion
  pub one_put : (es fs : List (K × X)) (k : K) (v : X)
      → ((q : K) → lookup (eq q) fs ≡ cond (eq k q) (Some v) (lookup (eq q) es))
      → from_entries {R = R} fs ≡ map.insert (from_entries es) k v
  one_put es fs k v h = put_one o same es fs k v (updated es fs k (Some v) h)

  -- a removal
  pub one_removed : (es fs : List (K × X)) (k : K)
      → ((q : K) → lookup (eq q) fs ≡ cond (eq k q) None (lookup (eq q) es))
      → from_entries {R = R} fs ≡ map.remove (from_entries es) k
  one_removed es fs k h = remove_one o same es fs k (updated es fs k None h) (λ q. (eq_by_cmp_equiv o).symm k q)

  -- a table that was laid out anew
  pub reordered : (es fs : List (K × X)) → ((q : K) → lookup (eq q) fs ≡ lookup (eq q) es)
      → from_entries {R = R} fs ≡ from_entries es
  reordered es fs h = same_finds o same es fs (λ q. find-lookup fs q ∙ h q ∙ sym (find-lookup es q))

  -- a table that keeps the entries whose values pass a test
  pub kept_by_value : (p : X → Bool) (holds : Option X → Bool) → holds None ≡ false → ((v : X) → holds (Some v) ≡ p v)
      → IsEquivalence eq
      → (es kept : List (K × X)) → IsDistinct eq (keys_of es) → kept ≡ filter (λ e. p e.1) es
      → from_entries {R = R} kept ≡ map.retain_keys (from_entries es) (λ k. holds (map.get (from_entries {R = R} es) k))
  kept_by_value p holds none some laws es kept distinct is =
      retain_some o same es kept (λ k. holds (map.get (from_entries {R = R} es) k)) (λ q.
      find-lookup kept q ∙ ap (lookup (eq q)) is ∙ lookup-filter-values laws p q es distinct
      ∙ by_holds p holds none some (lookup (eq q) es)
      ∙ (λ i. cond (holds (sym (get-lookup es q) i)) (sym (find-lookup es q) i) None))

  -- a table that keeps the entries whose keys pass a test
  pub kept_by_key : ((p : K → Bool) (q k : K) → eq q k ≡ true → p k ≡ p q) → (p : K → Bool) (es kept : List (K × X))
      → kept ≡ filter (λ e. p e.0) es
      → from_entries {R = R} kept ≡ map.retain_keys (from_entries es) p
  kept_by_key alike p es kept is =
      retain_some o same es kept p (λ q.
      find-lookup kept q ∙ ap (lookup (eq q)) is ∙ lookup-filter-keys (eq q) p (p q) (alike p q) es
      ∙ ap (λ v. cond (p q) v None) (sym (find-lookup es q)))
