-- Each declared key has a value, whatever its manager has carried out.
use Rattle.xa_base.proofs.{any_alike, is_some-map, ◌≡◌, ℕ, ℤ, ◌+ℤ◌, ◌+◌, ◌-◌, ◌≤◌, zero, suc, pos, ◌<◌, ◌==◌, Bool}
use Rattle.xa_base.proofs.{true, false, cond, ◌||◌, Option, Some, is_some, option_map, List, [], ◌∷◌, ◌++◌, length, map}
use Rattle.xa_base.proofs.{filter, slice_get, sym, ap, ◌∙◌, arith, list_any, slice_index_or, get-from_entries}
use Rattle.xa_base.proofs.{eq_by_cmp, or-true, eq-eqb, got, find_numbered, is_some-find}
use Rattle.std.specs.FinMap as finmap
use Rattle.xa_words.specs.Key.{key_cmp}
use Rattle.xa_words.specs.{key_eq, key_cmp_total, key_eq-by_cmp, Decides-key_eq}
use Rattle.xa_tables.specs.{Tables, History, Absent, added_over, value_over}
use Rattle.script_grammar.specs.{Declared, declared_accounts, managers_of, Content}
use Rattle.xa_switch.specs.{ManagerPart, find_manager, first_of, Settling}
use Rattle.script_transcript.specs.{opened, opened_after, AreOfScript, IsWorth}

-- the keys that a manager is opened with
abbrev keys_at : ℕ → List Declared → List (List ℕ)
keys_at m keys = map (λ (e : List ℕ × ℤ). e.0) (map (λ (d : List ℕ × ℕ). (d.0, pos d.1)) (declared_accounts m keys))

abbrev is_listed : Bool → Declared → Declared → List Declared → Bool
is_listed b d e keys =
    let rest = filter (λ (f : Declared). f.manager == d.manager) keys in
    list_any (λ k. key_eq d.key k)
    (map (λ (f : List ℕ × ℤ). f.0)
    (map (λ (f : List ℕ × ℕ). (f.0, pos f.1))
    (map {B = List ℕ × ℕ} (λ (f : Declared). (f.key, f.value)) (cond b (e ∷ rest) rest))))

-- a key that is declared is among them
is_among : (keys : List Declared) (i : ℕ) (d : Declared) → i < length keys → d ≡ slice_index_or keys i d
    → list_any (λ k. key_eq d.key k) (keys_at d.manager keys) ≡ true
is_among [] i d below is = absurd (omega (arith, below))
is_among (e ∷ keys) zero d below is =
    let same : (e.manager == d.manager) ≡ true =
    eq-eqb e.manager d.manager (ap (λ (x : Declared). x.manager) (sym is)) in
    let own : key_eq d.key e.key ≡ true = (Decides-key_eq d.key e.key).1 (ap (λ (x : Declared). x.key) is) in
    ap (λ b. is_listed b d e keys) same ∙ ap (λ b. b || list_any (λ k. key_eq d.key k) (keys_at d.manager keys)) own
is_among (e ∷ keys) (suc i) d below is =
    let rest : list_any (λ k. key_eq d.key k) (keys_at d.manager keys) ≡ true =
    is_among keys i d (omega (arith, below)) is in
    elim (e.manager == d.manager) as (λ b. is_listed b d e keys ≡ true)
    [ true ↦ ap (λ b. key_eq d.key e.key || b) rest ∙ or-true (key_eq d.key e.key) | false ↦ rest ]

-- so it has a value at the opening
has_value : (s : Content) (i : ℕ) (d : Declared) → i < length s.keys → d ≡ slice_index_or s.keys i d
    → is_some (finmap.get (opened s d.manager).values d.key) ≡ true
has_value s i d below is =
    let entries = map (λ (e : List ℕ × ℕ). (e.0, pos e.1)) (declared_accounts d.manager s.keys) in
    ap is_some (get-from_entries key_cmp_total entries d.key) ∙ is_some-find key_cmp d.key entries
    ∙ sym (any_alike (λ k. key_eq d.key k) (eq_by_cmp key_cmp d.key) (key_eq-by_cmp d.key) (keys_at d.manager s.keys))
    ∙ is_among s.keys i d below is

-- so it has one after the histories of any openings
pub told : (s : Content) (hs : List History) (i : ℕ) (d : Declared) (value : Option ℕ) → i < length s.keys
    → d ≡ slice_index_or s.keys i d
    → option_map pos value ≡ value_over d.key hs (opened s d.manager) → is_some value ≡ true
told s hs i d value below is e =
    sym (is_some-map (λ n. pos n) value) ∙ ap is_some e
    ∙ is_some-map (λ v. v +ℤ added_over d.key (λ x. Absent) hs (opened s d.manager))
    (finmap.get (opened s d.manager).values d.key)
    ∙ has_value s i d below is

-- the key has its value after any openings that left the settled one its managers' tables
abbrev pub WorthAfter : Content → Settling → Declared → Type 0
WorthAfter s settled d =
    (before : List Settling) → AreOfScript s (opened_after s before) settled.managers
    → IsWorth s (before ++ settled ∷ []) d

-- a manager of the script is there, and began with its tables
pub found_manager : (s : Content) (tables : ℕ → Tables) (managers : List ManagerPart) → AreOfScript s tables managers
    → (m : ℕ) → 1 ≤ m → m ≤ managers_of s
    → (p : ManagerPart) × (find_manager m managers ≡ Some p) × (p.first ≡ tables m)
    × (slice_get managers (m - 1) ≡ Some p)
found_manager s tables managers is m low high =
    let many = is.many in
    let p = got managers (m - 1) (omega (arith, low, high, many)) in
    let place : 0 + (m - 1) + 1 ≡ m = omega (arith, low) in
    let next : m - 1 + 1 ≡ m = omega (arith, low) in
    let found : find_manager m managers ≡ Some p.0 =
    ap (λ n. find_manager n managers) (sym place)
    ∙ find_numbered (λ (q : ManagerPart). q.number) 0 managers
    (λ j q at. let number = is.numbers j q at in omega (arith, number)) (m - 1) p.0 p.1 in
    (p.0, found, is.first (m - 1) p.0 p.1 ∙ ap tables next, p.1)

pub first_is : (s : Content) (tables : ℕ → Tables) (settled : Settling) → AreOfScript s tables settled.managers
    → (m : ℕ) → 1 ≤ m → m ≤ managers_of s
    → first_of settled m ≡ Some (tables m)
first_is s tables settled is m low high =
    let p = found_manager s tables settled.managers is m low high in
    ap (option_map (λ (q : ManagerPart). q.first)) p.1 ∙ ap (λ T. Some T) p.2
