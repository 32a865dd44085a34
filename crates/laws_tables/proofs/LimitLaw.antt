-- The value of a declared key stays within the limits, whatever is requested, over any openings.
use Rattle.xa_base.proofs.{by_bool, rules, ◌≡◌, ℕ, ℤ, true, false, not, ◌&&◌, ◌+ℤ◌, Option, None, Some, List, [], ◌∷◌}
use Rattle.xa_base.proofs.{refl, arith, sym, ap, ◌∙◌, FinMap, get-empty, none_passes, pos, option_map, ◌≢◌, map}
use Rattle.xa_base.proofs.{unwrap_or, nat_le, list_all, le-leb, find, get-from_entries, and_parts, +ℤ_idr as plus_none}
use Rattle.xa_words.specs.{key_eq, XidName, xid_cmp, xid_eq, key_cmp_total, Decides-xid_eq, Decides-key_eq, Op}
use Rattle.xa_words.specs.{are_accounts}
use Rattle.xa_tables.proofs.Soundness.{standing, opening_sound, Sound, associated_works, voted_rests, sound_after}
use Rattle.xa_tables.proofs.SoundLemmas.{get_put, get_gone, state_rules}
use Rattle.laws_fates.proofs.ValueLaw.{get_added, get_without, get_add, get_committed, no_other}
use Rattle.xa_tables.proofs.Reopening.{accounts_new, left_opens, new_opens, reopens, sums_reopened}
use Rattle.xa_tables.specs.{Association, sum_of, association_of, has_other_touched, added, State, touch_cmp, state_of}
use Rattle.xa_tables.specs.{is_S3, is_broken, is_within, value_of, opening, tables_after, IsOpening, reopened, left_by}
use Rattle.xa_tables.specs.{Tables, History, sums_without, TablesAndCode, next, gone, committed, StaysWithin}
use Rattle.xa_words.specs.Orders.{key_cmp}
use Rattle.xa_tables.proofs.AccountLemmas.{touch_cmp_total, touch_cmp-IsAntisymmetric, within_bounds}
use Rattle.xa_tables.proofs.Effects.{Effect, Adds, Prepares, Commits, CommitsByItself, effect_of}
use Rattle.std.specs.FinMap as map

-- each sum of x and its key's value are together within the limits
abbrev pub Fits : Tables → XidName → Type 0
Fits T x = (k : List ℕ) (s : ℤ) → map.get T.sums (x, k) ≡ Some s → is_within (value_of T.values k +ℤ s) ≡ true

-- each value is within the limits, no two branches have touched one key, and a prepared branch fits
pub record Kept (T : Tables) : Type 0 where
  pub values : (k : List ℕ) (v : ℤ) → map.get T.values k ≡ Some v → is_within v ≡ true
  pub alone : (x y : XidName) (k : List ℕ) (s r : ℤ) → map.get T.sums (x, k) ≡ Some s → map.get T.sums (y, k) ≡ Some r
      → x ≡ y
  pub prepared : (x : XidName) → is_S3 (state_of T x) ≡ true → Fits T x

-- a branch that breaks no limit fits
unbroken_fits : (T : Tables) (x : XidName) → is_broken T.values T.sums x ≡ false → Fits T x
unbroken_fits T x unbroken k s at =
    grind (
      arith,
      (none_passes touch_cmp_total touch_cmp-IsAntisymmetric
          (λ p r. xid_eq p.0 x && not (is_within (value_of T.values p.1 +ℤ r))) T.sums (x, k) s unbroken at),
      Decides-xid_eq,
    )

-- a value with what a branch adds to it, if anything
value_fits : (o q : Option ℤ) (v : ℤ) → option_map (λ u. u +ℤ unwrap_or q (pos 0)) o ≡ Some v
    → ((u : ℤ) → o ≡ Some u → is_within u ≡ true)
    → ((u r : ℤ) → o ≡ Some u → q ≡ Some r → is_within (u +ℤ r) ≡ true) → is_within v ≡ true
value_fits o q v at one both = search (arith, plus_none)

module _ (t : ℕ) (T : Tables) (s : Sound T) (w : Kept T) where
  -- the branch of a thread's association, which alone has touched the key, adds to it
  adds : (k : List ℕ) (d : ℤ) (l : Association) → association_of T t ≡ Some l → has_other_touched T.sums l.xid k ≡ false
      → Kept (added l.xid k d T)
  adds k d l own free = record {
    values = w.values;
    alone = λ x y q a b at_x at_y.
        by_bool (λ c. key_eq k q ≡ c → x ≡ y) (key_eq k q) (λ _ t. only x q a t at_x ∙ sym (only y q b t at_y))
        (λ _ f. w.alone x y q a b (beside x q a f at_x) (beside y q b f at_y)) refl;
    prepared = λ x is q r at. w.prepared x is q r
        (sym (get_added T.sums l.xid x k q _
        (λ same _. voted_rests (state_of T x) is
        (ap (λ z. standing (state_of T z)) same ∙ associated_works T s t l own))) ∙ at);
  }
    where
      -- whoever has touched that key is the branch itself, and the other keys are touched as they were
      only : (x : XidName) (q : List ℕ) (a : ℤ) → key_eq k q ≡ true
          → map.get (map.insert T.sums (l.xid, k) (sum_of T.sums l.xid k +ℤ d)) (x, q) ≡ Some a → x ≡ l.xid
      only x q a t at = grind (arith, get_add, no_other, Decides-xid_eq, Decides-key_eq)

      beside : (x : XidName) (q : List ℕ) (a : ℤ) → key_eq k q ≡ false
          → map.get (map.insert T.sums (l.xid, k) (sum_of T.sums l.xid k +ℤ d)) (x, q) ≡ Some a
          → map.get T.sums (x, q) ≡ Some a
      beside x q a f at = grind (arith, get_add)

  -- what was touched by a branch that is left when y is gone
  left : (y x : XidName) (k : List ℕ) (r : ℤ) → map.get (sums_without T.sums y) (x, k) ≡ Some r
      → map.get T.sums (x, k) ≡ Some r
  left y x k r at = grind (arith, get_without)

  -- a branch that is prepared when y is gone, or decided, is another one, and was prepared
  abbrev Left : XidName → Option State → XidName → Type 0
  Left y o x = is_S3 o ≡ true → (is_S3 (state_of T x) ≡ true) × (x ≢ y)

  -- once y, which fits, is added to the values, they are within the limits, and another prepared branch fits
  posted_within : (y : XidName) → Fits T y → (k : List ℕ) (v : ℤ) → map.get (committed y T).values k ≡ Some v
      → is_within v ≡ true
  posted_within y fits k v at =
      value_fits (map.get T.values k) (map.get T.sums (y, k)) v (sym (get_committed y T k) ∙ at) (w.values k)
      (λ u r here there. ap (λ o. is_within (unwrap_or o (pos 0) +ℤ r)) (sym here) ∙ fits k r there)

  nobody_else : (x y : XidName) (k : List ℕ) (r : ℤ) → map.get T.sums (x, k) ≡ Some r → x ≢ y
      → map.get T.sums (y, k) ≡ None
  nobody_else x y k r own other = search (arith, rules)

  posted_beside : (y x : XidName) (k : List ℕ) (r : ℤ) → is_S3 (state_of T x) ≡ true → x ≢ y
      → map.get T.sums (x, k) ≡ Some r
      → map.get T.sums (y, k) ≡ None → is_within (value_of (committed y T).values k +ℤ r) ≡ true
  posted_beside y x k r voted other own none = grind (arith, get_committed, plus_none)

  -- y, which fits, is committed
  commits : (y : XidName) (m : FinMap xid_cmp State) → ((x : XidName) → Left y (map.get m x) x) → Fits T y
      → Kept (record (gone y (committed y T)) { states = m })
  commits y m others fits = search (arith, posted_within, left, posted_beside, nobody_else, w.alone)

  by_effect : {op : Op} {a : TablesAndCode} → Effect t T op a → Kept a.0
  by_effect (Adds k d l own known free) = adds k d l own free
  by_effect (Prepares y nobody unbroken) = grind (arith, state_rules, unbroken_fits)
  by_effect (Commits y one_phase nobody may) = grind (arith, commits, unbroken_fits, get_gone, Decides-xid_eq)
  by_effect (CommitsByItself y voted) = search (arith, commits, get_put, Decides-xid_eq)
  -- the others change no value, and sums at most of a branch that has none then
  by_effect effect = grind (arith, state_rules, get_without)

-- ---- after a history

run_kept : (h : History) (T : Tables) → Sound T → Kept T → Kept (tables_after h T)
run_kept [] T s w = w
run_kept (r ∷ h) T s w =
    run_kept h (next r.thread r.op T).0 (sound_after r.thread r.op T s)
    (by_effect r.thread T s w (effect_of r.thread r.op T))

-- a declared value
declared_within : (accounts : List (List ℕ × ℕ)) → list_all (λ d. nat_le d.1 1000000000000) accounts ≡ true
    → (k : List ℕ) (v : ℤ)
    → find key_cmp k (map (λ d. (d.0, pos d.1)) accounts) ≡ Some v → is_within v ≡ true
declared_within [] all k v at = cc
declared_within (d ∷ ds) all k v at =
    let both : (nat_le d.1 1000000000000 ≡ true) × (list_all (λ e. nat_le e.1 1000000000000) ds ≡ true) =
    and_parts _ _ all in
    grind (arith, (declared_within ds both.1 k v), le-leb, both.0, find, key_cmp)

opening_kept : (accounts : List (List ℕ × ℕ)) → are_accounts accounts ≡ true → Kept (opening accounts)
opening_kept accounts are = record {
  values = λ k v at. declared_within accounts (and_parts _ _ (and_parts _ _ are).1).0 k v
      (sym (get-from_entries key_cmp_total (map (λ d. (d.0, pos d.1)) accounts) k) ∙ at);
  alone = λ x y k s r at_x at_y. let z : None ≡ Some s = sym (get-empty touch_cmp (x, k)) ∙ at_x in cc;
  prepared = λ x is k s at. let z : None ≡ Some s = sym (get-empty touch_cmp (x, k)) ∙ at in cc;
}

pub kept_over : (T : Tables) → Kept T → Kept (reopened T)
kept_over T w = grind (arith, sums_reopened)

pub kept_by : (before : List History) (T : Tables) → IsOpening T → Kept T → Kept (left_by before T)
kept_by [] T o w = w
kept_by (h ∷ hs) T o w =
    grind (
      arith,
      (kept_by hs (reopened (tables_after h T)) (reopens (tables_after h T))
          (kept_over (tables_after h T) (run_kept h T (opening_sound T o) w))),
      reopens,
      kept_over,
      run_kept,
      opening_sound,
    )

-- each value and each prepared branch, whatever is requested, over any openings
pub kept_always : (accounts : List (List ℕ × ℕ)) (before : List History) (h : History) → are_accounts accounts ≡ true
    → Kept (tables_after h (left_by before (opening accounts)))
kept_always accounts before h are =
    let new = new_opens (opening accounts) (accounts_new accounts) in
    let T : Tables = left_by before (opening accounts) in
    run_kept h T (opening_sound T (left_opens before (opening accounts) new))
    (kept_by before (opening accounts) new (opening_kept accounts are))

pub within_law : (accounts : List (List ℕ × ℕ)) (before : List History) (h : History) (k : List ℕ)
    → are_accounts accounts ≡ true
    → StaysWithin k h (left_by before (opening accounts))
within_law accounts before h k are v at = within_bounds v ((kept_always accounts before h are).values k v at)
