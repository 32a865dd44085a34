-- Finite maps that are made of lists.
use Rattle.std.proofs.Common.{arith, sym, ap, ◌∙◌}
use Rattle.std.specs.Prelude.{◌≡◌, Bool, true, false, cond, ◌&&◌, T, List, [], ◌∷◌, map, None, Some, option_map, refl}
use Rattle.std.specs.List.{list_any}
use Rattle.std.specs.Bool.{Decides}
use Rattle.std.specs.Ordering.{eq_by_cmp, is_eq, is_lt}
use Rattle.std.specs.declared.cmp.Ordering.{Ordering}
use Rattle.std.specs.declared.cmp.Ordering.TheVariants.{Less, Equal, Greater}
use Rattle.std.specs.Cmp.{IsTotalOrder, tied_itself}
use Rattle.std.specs.FinMap.{FinMap, IsAntisymmetric, find, is_sorted, entries, entries_sorted, get, get-entries}
use Rattle.std.specs.FinMap.{insert, remove, retain_keys, from_entries, same_map, get-insert, get-remove}
use Rattle.std.specs.FinMap.{get-retain_keys, get-from_entries}
use Rattle.std.specs.FinMap.Entries.{below_all}
use Rattle.std.proofs.lemmas.Bool.Decides.{same_from_decides}
use Rattle.xa_base.proofs.Truth.{is_equal}
use Rattle.xa_base.specs.{any_entry, map_values}

first_of_both : (a b : Bool) → T (a && b) → T a
first_of_both true b p = tt
first_of_both false b p = p

second_of_both : (a b : Bool) → T (a && b) → T b
second_of_both true b p = p
second_of_both false b p = absurd p

less_from : (r : Ordering) → T (is_lt r) → r ≡ Less
less_from Less p = refl
less_from Equal p = absurd p
less_from Greater p = absurd p

below_none : {K X : Type 0} (R : K → K → Ordering) (q : K) (es : List (K × X)) → T (below_all R q es)
    → find R q es ≡ None
below_none R q [] h = refl
below_none R q (e ∷ es) h =
    ap (λ r. cond (is_eq r) (Some e.1) (find R q es)) (less_from _ (first_of_both _ _ h))
    ∙ below_none R q es (second_of_both _ _ h)

module _ {K X : Type 0} {R : K → K → Ordering} (o : IsTotalOrder R) (same : IsAntisymmetric R) where
  -- lists of entries that differ at one key make maps that do
  pub put_one : (es fs : List (K × X)) (k : K) (v : X)
      → ((q : K) → find R q fs ≡ cond (eq_by_cmp R q k) (Some v) (find R q es))
      → from_entries {R = R} fs ≡ insert (from_entries es) k v
  put_one es fs k v h =
      same_map o same _ _
      (λ q. get-from_entries o fs q ∙ h q
      ∙ sym
      (get-insert o (from_entries es) k v q ∙ ap (cond (eq_by_cmp R q k) (Some v)) (get-from_entries o es q)))

  -- `find-remove` of std ties k with q the other way round
  pub remove_one : (es fs : List (K × X)) (k : K) → ((q : K) → find R q fs ≡ cond (eq_by_cmp R q k) None (find R q es))
      → ((q : K) → eq_by_cmp R k q ≡ eq_by_cmp R q k) → from_entries {R = R} fs ≡ remove (from_entries es) k
  remove_one es fs k h swap =
      same_map o same _ _
      (λ q. get-from_entries o fs q ∙ h q
      ∙ sym (get-remove o (from_entries es) k q ∙ ap (cond (eq_by_cmp R q k) None) (get-from_entries o es q)))

  -- lists of entries that find the same make one map
  pub same_finds : (es fs : List (K × X)) → ((q : K) → find R q fs ≡ find R q es)
      → from_entries {R = R} fs ≡ from_entries es
  same_finds es fs h = same_map o same _ _ (λ q. get-from_entries o fs q ∙ h q ∙ sym (get-from_entries o es q))

  -- a list that finds some keys no more makes a map that keeps the others
  pub retain_some : (es fs : List (K × X)) (p : K → Bool) → ((q : K) → find R q fs ≡ cond (p q) (find R q es) None)
      → from_entries {R = R} fs ≡ retain_keys (from_entries es) p
  retain_some es fs p h =
      same_map o same _ _
      (λ q. get-from_entries o fs q ∙ h q
      ∙ sym
      (get-retain_keys (from_entries es) p q (λ x e. ap p (sym (same q x e)))
      ∙ ap (λ v. cond (p q) v None) (get-from_entries o es q)))

  abbrev pub Distinct : List (K × X) → Type 0
  Distinct [] = Unit {0}
  Distinct (e ∷ es) = (find R e.0 es ≡ None) × Distinct es

  abbrev Has : (K → X → Bool) → List (K × X) → Type 0
  Has p es = (k : K) × ((v : X) × ((find R k es ≡ Some v) × (p k v ≡ true)))

  has_first : (p : K → X → Bool) (e : K × X) (es : List (K × X)) → p e.0 e.1 ≡ true → Has p (e ∷ es)
  has_first p e es t = (e.0, (e.1, (ap (λ r. cond (is_eq r) (Some e.1) (find R e.0 es)) (tied_itself o e.0), t)))

  has_later : (p : K → X → Bool) (e : K × X) (es : List (K × X)) → find R e.0 es ≡ None → Has p es → Has p (e ∷ es)
  has_later p e es none h = search (arith, is_equal, h.0, h.1.1.0)

  has_split : (p : K → X → Bool) (e : K × X) (es : List (K × X)) → Has p (e ∷ es) → (p e.0 e.1 ≡ false) → Has p es
  has_split p e es h fails = search (arith, is_equal, h.0, h.1.1.1, e.0)

  any_has : (p : K → X → Bool) (es : List (K × X)) → Distinct es
      → Decides (list_any (λ (e : K × X). p e.0 e.1) es) (Has p es)
  any_has p [] d = (λ t. absurd (cc), λ h. let f = h.1.1.0 in cc)
  any_has p (e ∷ es) d = search (arith, any_has p es d.1, Decides, has_first, has_later, has_split, d.1, d.0)

  sorted_distinct : (es : List (K × X)) → T (is_sorted R es) → Distinct es
  sorted_distinct [] h = tt
  sorted_distinct (e ∷ es) h = (below_none R e.0 es (first_of_both _ _ h), sorted_distinct es (second_of_both _ _ h))

  -- some entry of the map passes if one of the list does, where no key stands twice in it
  pub any_entries : (p : K → X → Bool) (es : List (K × X)) → Distinct es
      → any_entry p (from_entries {R = R} es) ≡ list_any (λ (e : K × X). p e.0 e.1) es
  any_entries p es d =
      let m : FinMap R X = from_entries es in
      let own = any_has p (entries m) (sorted_distinct (entries m) (entries_sorted m)) in
      let given = any_has p es d in
      let finds : (q : K) → find R q (entries m) ≡ find R q es = λ q. sym (get-entries m q) ∙ get-from_entries o es q in
      same_from_decides _ _ (
        λ t. let h = own.0 t in (h.0, (h.1.0, (sym (finds h.0) ∙ h.1.1.0, h.1.1.1))),
        λ h. own.1
            (h.0, (h.1.0, (finds h.0 ∙ h.1.1.0, h.1.1.1))),
      ) given

  find-map_values : (f : K → X → X) (es : List (K × X)) (q : K)
      → find R q (map {B = K × X} (λ (e : K × X). (e.0, f e.0 e.1)) es) ≡ option_map (f q) (find R q es)
  find-map_values f [] q = refl
  find-map_values f (e ∷ es) q = search (arith, find-map_values f es q, is_equal)

  -- a value of the map whose values were changed
  pub get-map_values : (f : K → X → X) (m : FinMap R X) (q : K) → get (map_values f m) q ≡ option_map (f q) (get m q)
  get-map_values f m q =
      get-from_entries o _ q ∙ find-map_values f (entries m) q ∙ ap (option_map (f q)) (sym (get-entries m q))

  -- a list whose values are those of another, changed by their keys
  pub map_some : (f : K → X → X) (es fs : List (K × X)) → ((q : K) → find R q fs ≡ option_map (f q) (find R q es))
      → from_entries {R = R} fs ≡ map_values f (from_entries es)
  map_some f es fs h =
      same_map o same _ _
      (λ q. get-from_entries o fs q ∙ h q
      ∙ sym (get-map_values f (from_entries es) q ∙ ap (option_map (f q)) (get-from_entries o es q)))

  -- where no entry passes, an entry that is found doesn't
  pub none_passes : (p : K → X → Bool) (m : FinMap R X) (k : K) (v : X) → any_entry p m ≡ false → get m k ≡ Some v
      → p k v ≡ false
  none_passes p m k v none found =
      let d = any_has p (entries m) (sorted_distinct (entries m) (entries_sorted m)) in
      elim (p k v) as (λ b. p k v ≡ b → b ≡ false)
      [ true ↦ λ t. let some = d.1 (k, (v, (sym (get-entries m k) ∙ found, t))) in cc | false ↦ λ t. refl ] refl

  -- where no entry that is found passes, none does
  pub none_pass : (p : K → X → Bool) (m : FinMap R X) → ((k : K) (v : X) → get m k ≡ Some v → p k v ≡ false)
      → any_entry p m ≡ false
  none_pass p m fails =
      let d = any_has p (entries m) (sorted_distinct (entries m) (entries_sorted m)) in
      elim (any_entry p m) as (λ b. any_entry p m ≡ b → b ≡ false) [
        | true ↦ λ t. let h = d.0 t in let f = fails h.0 h.1.0 (get-entries m h.0 ∙ h.1.1.0) in let g = h.1.1.1 in cc
        | false ↦ λ t. refl
      ] refl
