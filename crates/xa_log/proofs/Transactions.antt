-- The order of global transactions is total, and what several logs have that are read as one.
use Rattle.xa_base.proofs.{or_none, ◌≡◌, ℤ, ℕ, Bool, List, true, ap, sym, nat_cmp, eq_by_cmp, is_eq, tied_itself}
use Rattle.xa_base.proofs.{is_equal, int_cmp, Decides, IsTotalOrder, slice_cmp, IsAntisymmetric, then_total, on_total}
use Rattle.xa_base.proofs.{same_from_decides, cond, is_some, false, [], ◌∷◌, ◌++◌, refl, ◌∙◌, Option, Some, None, find}
use Rattle.xa_base.proofs.{get-from_entries, All, flat_map, option_or, All-head, All-tail}
use Rattle.std.specs.Cmp.{int_cmp_total}
use Rattle.std.specs.Cmp.Lexicographic.{nat_list_cmp_total}
use Rattle.std.proofs.lemmas.Map.Lookups.{exact_pairs, exact_signed, exact_bytes}
use Rattle.xa_words.specs.{TranName, tran_eq, Decides-tran_eq}
use Rattle.xa_log.specs.{tran_cmp, Records, all_records, record_in}
use Rattle.std.specs.FinMap.{get-entries}
use Rattle.std.specs.FinMap as map

-- ---- the order of global transactions is total, and tells all apart as `==` does

pub tran_cmp_total : IsTotalOrder tran_cmp
tran_cmp_total = then_total (on_total (λ x. x.format) int_cmp_total) (on_total (λ x. x.gtrid) nat_list_cmp_total)

-- tied names are one
pub tran_cmp-IsAntisymmetric : IsAntisymmetric tran_cmp
tran_cmp-IsAntisymmetric x y e =
    let p : ◌≡◌ {A = ℤ × List ℕ} (x.format, x.gtrid) (y.format, y.gtrid) =
    exact_pairs int_cmp (slice_cmp nat_cmp) exact_signed exact_bytes (x.format, x.gtrid) (y.format, y.gtrid) e in
    λ i. record { format = (p i).0; gtrid = (p i).1 }

-- the order ties two names exactly if they are one
pub decides_by_cmp : (x y : TranName) → Decides (eq_by_cmp tran_cmp x y) (x ≡ y)
decides_by_cmp x y = (
  λ t. tran_cmp-IsAntisymmetric x y (is_equal (tran_cmp x y) t),
  λ e. rw (← e)
      (ap is_eq (tied_itself tran_cmp_total x)),
)

pub tran_eq-by_cmp : (x y : TranName) → tran_eq x y ≡ eq_by_cmp tran_cmp x y
tran_eq-by_cmp x y = same_from_decides _ _ (Decides-tran_eq x y) (decides_by_cmp x y)

-- what is said of a name is said of each that is equal to it
pub tran_alike : (p : TranName → Bool) (q k : TranName) → tran_eq q k ≡ true → p k ≡ p q
tran_alike p q k t = ap p (sym ((Decides-tran_eq q k).0 t))

-- ---- what several logs have that are read as one

find_both : (q : TranName) (es fs : List (TranName × List Bool))
    → find tran_cmp q (es ++ fs) ≡ option_or (find tran_cmp q es) (find tran_cmp q fs)
find_both q [] fs = refl
find_both q (e ∷ es) fs =
    elim (eq_by_cmp tran_cmp q e.0) as
    (λ b. cond b (Some e.1) (find tran_cmp q (es ++ fs)) ≡ option_or (cond b (Some e.1) (find tran_cmp q es))
    (find tran_cmp q fs)) [
      | true ↦ refl
      | false ↦ find_both q es fs
    ]

pub no_log : (t : TranName) → record_in (all_records []) t ≡ None
no_log t = get-from_entries tran_cmp_total [] t

-- the record of a transaction is that of the first, or else that of the others
pub more_logs : (r : Records) (rs : List Records) (t : TranName)
    → record_in (all_records (r ∷ rs)) t ≡ option_or (record_in r t) (record_in (all_records rs) t)
more_logs r rs t =
    get-from_entries tran_cmp_total (map.entries r ++ flat_map map.entries rs) t
    ∙ find_both t (map.entries r) (flat_map map.entries rs)
    ∙ (λ i. option_or (sym (get-entries r t) i) (sym (get-from_entries tran_cmp_total (flat_map map.entries rs) t) i))

none_of : (rs : List Records) (t : TranName) → All (λ r. record_in r t ≡ None) rs → record_in (all_records rs) t ≡ None
none_of [] t none = no_log t
none_of (r ∷ rs) t none =
    more_logs r rs t
    ∙ or_none (record_in r t) (record_in (all_records rs) t)
    (none_of rs t (All-tail (λ r. record_in r t ≡ None) r rs none))
    ∙ All-head (λ r. record_in r t ≡ None) r rs none

-- where the others have none of it, it is the one's own
pub own_log : (before after : List Records) (own : Records) (t : TranName)
    → All (λ r. record_in r t ≡ None) (before ++ after)
    → record_in (all_records (before ++ own ∷ after)) t ≡ record_in own t
own_log [] after own t none =
    more_logs own after t ∙ or_none (record_in own t) (record_in (all_records after) t) (none_of after t none)
own_log (r ∷ before) after own t none =
    more_logs r (before ++ own ∷ after) t
    ∙ ap (λ o. option_or o (record_in (all_records (before ++ own ∷ after)) t))
    (All-head (λ r. record_in r t ≡ None) r (before ++ after) none)
    ∙ own_log before after own t (All-tail (λ r. record_in r t ≡ None) r (before ++ after) none)

some_first : (a b : Option (List Bool)) → is_some a ≡ true → a ≡ option_or a b
some_first None b e = cc
some_first (Some x) b e = refl

none_first : (a b : Option (List Bool)) → is_some a ≡ false → option_or a b ≡ b
none_first None b e = refl
none_first (Some x) b e = cc

pub first_counts : (r : Records) (rs : List Records) (t : TranName) → is_some (record_in r t) ≡ true
    → record_in (all_records (r ∷ rs)) t ≡ record_in r t
first_counts r rs t e = more_logs r rs t ∙ sym (some_first (record_in r t) (record_in (all_records rs) t) e)

pub others_count : (r : Records) (rs : List Records) (t : TranName) → is_some (record_in r t) ≡ false
    → record_in (all_records (r ∷ rs)) t ≡ record_in (all_records rs) t
others_count r rs t e = more_logs r rs t ∙ none_first (record_in r t) (record_in (all_records rs) t) e
