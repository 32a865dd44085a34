-- A history moves what accounts are worth by what the branches that it commits hold, and a key's value so.
use Rattle.xa_base.proofs.{◌≡◌, ◌≢◌, ℕ, ℤ, pos, ◌+ℤ◌, option_map, Bool, true, false, cond, not, ◌&&◌, if◌then◌else◌}
use Rattle.xa_base.proofs.{Option, None, Some, List, [], ◌∷◌, refl, sym, ap, ◌∙◌, arith, get-insert, FinMap}
use Rattle.xa_base.proofs.{+ℤ_idl as none_plus, ints, get-map_values, none_passes, is_some, get-retain_keys}
use Rattle.xa_base.proofs.{total_alike, total_both, get_or, All-cons, All-nil, +ℤ_idr as plus_none}
use Rattle.xa_words.specs.{XidName, xid_eq, Decides-xid_eq, key_cmp_total, key_cmp-IsAntisymmetric, Decides-key_eq}
use Rattle.xa_words.specs.{Done, Op, Add, key_eq, Code, Request}
use Rattle.laws_fates.proofs.ShutLaw.{accepted_read}
use Rattle.xa_tables.proofs.SoundLemmas.{swap_xid, get_put, get_gone}
use Rattle.xa_tables.proofs.Soundness.{Sound, Nowhere, standing, associated_works, sound_after, opening_sound}
use Rattle.laws_fates.proofs.Moves.{Moves, Still, Ended, Added, moves_of}
use Rattle.xa_tables.specs.{Association, association_of, has_other_touched, Touch, touch_cmp, sum_of, sums_without}
use Rattle.xa_tables.specs.{TablesAndCode, next, committed, coded, accepted, fate_of, tables_after, added_in, share_of}
use Rattle.xa_tables.specs.{commits_later, ending, or_later, LateAddNothing, Tables, History, State, state_of, is_S3}
use Rattle.xa_tables.specs.{is_S5, OnlyUnfinishedTouch, IsOpening, value_of, is_declared, DeclareEach, worth, moved_by}
use Rattle.xa_tables.specs.{held_by, moved, WorthIsMovedFrom, is_any}
use Rattle.xa_tables.proofs.Effects.{Effect, Adds, Forgets, effect_of}
use Rattle.xa_tables.proofs.AccountLemmas.{touch_cmp_total, touch_cmp-IsAntisymmetric, touch_same, swapped}
use Rattle.std.specs.FinMap as map

-- ---- what a history moves of the worth of accounts: what the branches that it commits hold

abbrev pub Accounts : Type 0
Accounts = List (List ℕ × ℕ)

-- the sums once y is gone
pub get_without : (sums : FinMap touch_cmp ℤ) (y x : XidName) (k : List ℕ)
    → map.get (sums_without sums y) (x, k) ≡ (if xid_eq x y then None else map.get sums (x, k))
get_without sums y x k =
    get-retain_keys sums (λ p. not (xid_eq p.0 y)) (x, k)
    (λ q e. ap (λ (r : Touch). not (xid_eq r.0 y)) (sym (touch_cmp-IsAntisymmetric (x, k) q e)))
    ∙ elim (xid_eq x y) as (λ b. cond (not b) (map.get sums (x, k)) None ≡ (if b then None else map.get sums (x, k)))
    [ true ↦ refl | false ↦ refl ]

-- and the values once it is committed
pub get_committed : (y : XidName) (T : Tables) (k : List ℕ)
    → map.get (committed y T).values k ≡ option_map (λ v. v +ℤ sum_of T.sums y k) (map.get T.values k)
get_committed y T k = get-map_values key_cmp_total key_cmp-IsAntisymmetric (λ q v. v +ℤ sum_of T.sums y q) T.values k

-- what a request that is so answered does to the worth of accounts
record WorthStep (accounts : Accounts) (op : Op) (T : Tables) (a : TablesAndCode) : Type 0 where
  keys : (k : List ℕ) → is_declared a.0 k ≡ is_declared T k
  worth_after : DeclareEach accounts T → worth accounts a.0 ≡ worth accounts T +ℤ moved_by accounts op a.1 T

module _ (accounts : Accounts) (T : Tables) where
  -- the values once y is committed
  paid_value : (y : XidName) (d : List ℕ × ℕ) → is_declared T d.0 ≡ true
      → value_of (committed y T).values d.0 ≡ value_of T.values d.0 +ℤ sum_of T.sums y d.0
  paid_value y d known = grind (arith, get_committed)

  -- the keys and the worth once y has ended
  ended_keys : (y : XidName) (commits : Bool) (k : List ℕ)
      → is_declared (if commits then committed y T else T) k ≡ is_declared T k
  ended_keys y commits k = grind (arith, get_committed)

  ended_worth : (y : XidName) (commits : Bool) → DeclareEach accounts T
      → worth accounts (if commits then committed y T else T) ≡ worth accounts T +ℤ
      (if commits then held_by accounts y T else pos 0)
  ended_worth y true known =
      total_alike (λ d. value_of (committed y T).values d.0) (λ d. value_of T.values d.0 +ℤ sum_of T.sums y d.0)
      accounts
      (λ k d lt. paid_value y (get_or accounts k d) (known k d lt))
      ∙ total_both (λ d. value_of T.values d.0) (λ d. sum_of T.sums y d.0) accounts
  ended_worth y false known = sym (plus_none _)

  worth_by_move : {l : Option Association} {op : Op} {a : TablesAndCode} → Moves T l op a → WorthStep accounts op T a
  worth_by_move (Still l op a sums values shares moved endings) = grind (arith, plus_none)
  worth_by_move (Ended l op a y commits sums values shares moved endings) = grind (arith, ended_keys, ended_worth)
  worth_by_move (Added own d l there alone) = record { keys = λ k. refl; worth_after = λ known. sym (plus_none _) }

step : (accounts : Accounts) (r : Request) (T : Tables) → WorthStep accounts r.op T (next r.thread r.op T)
step accounts r T = worth_by_move accounts T (moves_of r.thread r.op T)

-- what is declared stays so
pub declared_on : (h : History) (k : List ℕ) (T : Tables) → is_declared (tables_after h T) k ≡ is_declared T k
declared_on [] k T = refl
declared_on (r ∷ h) k T = declared_on h k (next r.thread r.op T).0 ∙ (step [] r T).keys k

pub worth_from : (accounts : Accounts) (h : History) (T : Tables) → DeclareEach accounts T
    → WorthIsMovedFrom accounts h T
worth_from accounts [] T known = sym (plus_none _)
worth_from accounts (r ∷ h) T known =
    let T1 : Tables = (next r.thread r.op T).0 in
    let one = step accounts r T in
    let still : DeclareEach accounts T1 = λ k d lt. one.keys (get_or accounts k d).0 ∙ known k d lt in
    omega (arith, ints, one.worth_after known, worth_from accounts h T1 still)

-- the value of a key is what that key alone is worth
abbrev pub only_key : List ℕ → Accounts
only_key k = (k, 0) ∷ []

abbrev pub moved_of : List ℕ → History → Tables → ℤ
moved_of k h T = moved (only_key k) is_any h T

pub value_moved : (h : History) (k : List ℕ) (T : Tables) → is_declared T k ≡ true
    → value_of (tables_after h T).values k ≡ value_of T.values k +ℤ moved_of k h T
value_moved h k T known =
    omega (
      arith,
      ints,
      worth_from (only_key k) h T
          (All-cons (λ (d : List ℕ × ℕ). is_declared T d.0 ≡ true) (k, 0) [] known
          (All-nil (λ (d : List ℕ × ℕ). is_declared T d.0 ≡ true))),
    )

-- ---- what a history moves of a key's value is due to the additions whose branches commit

-- the branch that has touched the key, and its sum
abbrev pub Held : Type 0
Held = Option (XidName × ℤ)

abbrev pub IsPending : List ℕ → Held → FinMap touch_cmp ℤ → Type 0
IsPending k None sums = (x : XidName) → map.get sums (x, k) ≡ None
IsPending k (Some p) sums = (map.get sums (p.0, k) ≡ Some p.1) × ((y : XidName) → y ≢ p.0 → map.get sums (y, k) ≡ None)

abbrev pub due : Held → (XidName → Bool) → ℤ
due None later = pos 0
due (Some p) later = if later p.0 then p.1 else pos 0

-- who commits, seen from before an entry
abbrev before : Op → Code → (XidName → Bool) → XidName → Bool
before op c later x = or_later (ending (fate_of x op c)) (later x)

-- who has touched k after a request, and what is due after it
record DueStep (k : List ℕ) (p : Held) (op : Op) (l : Option Association) (T : Tables) (a : TablesAndCode) : Type
    0 where
  held : Held
  pending : IsPending k held a.0.sums
  owes : (later : XidName → Bool)
      → moved_by (only_key k) op a.1 T +ℤ due held later ≡ due p (before op a.1 later) +ℤ share_of k op a.1 l later

due_same : (p : Held) (C D : XidName → Bool) → ((x : XidName) → D x ≡ C x) → due p D ≡ due p C
due_same p C D h = grind arith

-- who has touched the key once y is gone
left_by : Held → XidName → Held
left_by None y = None
left_by (Some p) y = if xid_eq p.0 y then None else Some p

due_left : (k : List ℕ) (y : XidName) (p : Held) (sums : FinMap touch_cmp ℤ) → IsPending k p sums
    → IsPending k (left_by p y) (sums_without sums y)
unfolding left_by
due_left k y None sums h = grind (arith, get_without)
due_left k y (Some p) sums h = grind (arith, get_without)

-- what y has added to it
amount_is : (k : List ℕ) (p : XidName × ℤ) (y : XidName) (sums : FinMap touch_cmp ℤ) → IsPending k (Some p) sums
    → sum_of sums y k ≡ (if xid_eq p.0 y then p.1 else pos 0)
amount_is k p y sums h = grind (arith, Decides-xid_eq)

-- what is due before an entry that ends y: y's sum if it commits, and else nothing
due_ended : (k : List ℕ) (y : XidName) (b : Bool) (p : Held) (sums : FinMap touch_cmp ℤ) (op : Op) (c : Code)
    (later : XidName → Bool)
    → IsPending k p sums
    → ((x : XidName) → ending (fate_of x op c) ≡ (if xid_eq y x then Some b else None))
    → due p (before op c later) ≡ (if b then sum_of sums y k else pos 0) +ℤ due (left_by p y) later
unfolding left_by
due_ended k y b None sums op c later held h = grind (arith, (held y))
due_ended k y b (Some p) sums op c later held h =
    ap (λ o. if or_later o (later p.0) then p.1 else pos 0)
    (h p.0 ∙ ap (λ e. if e then Some b else None) (swap_xid y p.0))
    ∙ due_one p (xid_eq p.0 y) b later (sum_of sums y k) (amount_is k p y sums held)
  where
    due_one : (q : XidName × ℤ) (e d : Bool) (l : XidName → Bool) (m : ℤ) → m ≡ (if e then q.1 else pos 0)
        → (if or_later (if e then Some d else None) (l q.0) then q.1 else pos 0) ≡ (if d then m else pos 0) +ℤ due
        (if e then None else Some q) l
    due_one q e d l m is = grind arith

-- and once y has added to a key
pub get_add : (sums : FinMap touch_cmp ℤ) (y x : XidName) (own k : List ℕ) (s : ℤ)
    → map.get (map.insert sums (y, own) s) (x, k) ≡ (if xid_eq y x && key_eq own k then Some s else map.get sums (x, k))
get_add sums y x own k s =
    get-insert touch_cmp_total sums (y, own) s (x, k)
    ∙ ap (λ b. cond b (Some s) (map.get sums (x, k)))
    (touch_same x y k own ∙ ap (λ b. xid_eq y x && b) (sym (swapped k own)))

pub get_added : (sums : FinMap touch_cmp ℤ) (y x : XidName) (own k : List ℕ) (s : ℤ) → (x ≡ y → k ≡ own → ⊥)
    → map.get (map.insert sums (y, own) s) (x, k) ≡ map.get sums (x, k)
get_added sums y x own k s apart = grind (arith, get_add, Decides-xid_eq, Decides-key_eq)

pending_other : (k : List ℕ) (p : Held) (y : XidName) (own : List ℕ) (s : ℤ) (sums : FinMap touch_cmp ℤ) → (k ≡ own → ⊥)
    → IsPending k p sums
    → IsPending k p (map.insert sums (y, own) s)
pending_other k p y own s sums apart h = grind (arith, get_added)

pub no_other : (sums : FinMap touch_cmp ℤ) (y x : XidName) (k : List ℕ) (s : ℤ) → has_other_touched sums y k ≡ false
    → map.get sums (x, k) ≡ Some s → x ≡ y
no_other sums y x k s none found =
    grind (
      arith,
      (none_passes touch_cmp_total touch_cmp-IsAntisymmetric (λ (q : Touch) v. key_eq q.1 k && not (xid_eq q.0 y))
          sums (x, k) s none found),
      Decides-key_eq,
      Decides-xid_eq,
    )

pending_own : (k : List ℕ) (y : XidName) (s : ℤ) (sums : FinMap touch_cmp ℤ) → has_other_touched sums y k ≡ false
    → IsPending k (Some (y, s)) (map.insert sums (y, k) s)
pending_own k y s sums none = grind (arith, get_add, no_other, Decides-xid_eq, Decides-key_eq)

due_own : (k : List ℕ) (p : Held) (y : XidName) (sums : FinMap touch_cmp ℤ) (later : XidName → Bool)
    → IsPending k p sums → has_other_touched sums y k ≡ false
    → due p later ≡ (if later y then sum_of sums y k else pos 0)
due_own k p y sums later h none = grind (arith, no_other)

split_due : (b : Bool) (u d : ℤ)
    → pos 0 +ℤ (if b then u +ℤ d else pos 0) ≡ (if b then u else pos 0) +ℤ (if b then d else pos 0)
split_due b u d = grind arith

gained : (k own : List ℕ) (d : ℤ) (p : Held) (l : Association) (T : Tables) → IsPending k p T.sums
    → has_other_touched T.sums l.xid own ≡ false
    → DueStep k p (Add own d) (Some l) T
    (record T { sums = map.insert T.sums (l.xid, own) (sum_of T.sums l.xid own +ℤ d) }, Done)
gained k own d p l T held none =
    elim (key_eq own k) as
    (λ b. key_eq own k ≡ b
    → DueStep k p (Add own d) (Some l) T
    (record T { sums = map.insert T.sums (l.xid, own) (sum_of T.sums l.xid own +ℤ d) }, Done)) [
      | false ↦ λ t. record {
        held = p;
        pending = pending_other k p l.xid own _ T.sums (λ e. let z = (Decides-key_eq own k).1 (sym e) in cc) held;
        owes = λ later. omega
            (arith, ints, ap (λ b. if b && true then (if later l.xid then d else pos 0) else pos 0) t);
      }
      | true ↦ λ t.
          let same1 : own ≡ k = (Decides-key_eq own k).0 t in
          let none1 : has_other_touched T.sums l.xid k ≡ false =
          ap (λ w. has_other_touched T.sums l.xid w) (sym same1) ∙ none in
          record {
            held = Some (l.xid, sum_of T.sums l.xid k +ℤ d);
            pending = rw same1 (pending_own k l.xid (sum_of T.sums l.xid k +ℤ d) T.sums none1);
            owes = λ later. split_due (later l.xid) (sum_of T.sums l.xid k) d
                ∙ (λ i. (sym (due_own k p l.xid T.sums later held none1) i) +ℤ
                (if sym t i && true then (if later l.xid then d else pos 0) else pos 0));
          }
    ] refl

module _ (k : List ℕ) (p : Held) (T : Tables) (h : IsPending k p T.sums) where
  by_move : {l : Option Association} {op : Op} {a : TablesAndCode} → Moves T l op a → DueStep k p op l T a
  by_move (Still l op a sums values shares moved endings) = record {
    held = p;
    pending = rw sums h;
    owes = λ later. omega (
      arith,
      ints,
      moved (only_key k),
      due_same p later (before op a.1 later)
          (λ x. ap (λ o. or_later o (later x)) (endings x)),
      shares k l later,
    );
  }
  by_move (Ended l op a y commits sums values shares moved endings) = record {
    held = left_by p y;
    pending = rw sums (due_left k y p T.sums h);
    owes = λ later. omega (
      arith,
      ints,
      moved (only_key k)
          ∙ ap (λ v. if commits then v else pos 0) (plus_none (sum_of T.sums y k)),
      due_ended k y commits p T.sums op
          a.1 later h endings,
      shares k l later,
    );
  }
  by_move (Added own d l known alone) = gained k own d p l T h alone

-- who has touched k after a history, and what is due after it, where `after` tells who commits after it
pub record Run (k : List ℕ) (p : Held) (after : XidName → Bool) (H : History) (T : Tables) : Type 0 where
  pub held : Held
  pub pending : IsPending k held (tables_after H T).sums
  pub owes : moved_of k H T +ℤ due held after ≡ due p (λ x. commits_later (after x) x (coded H T)) +ℤ added_in k after H
      T

pub value_run : (H : History) (k : List ℕ) (p : Held) (after : XidName → Bool) (T : Tables) → IsPending k p T.sums
    → Run k p after H T
value_run [] k p after T h = record { held = p; pending = h; owes = omega (arith, ints) }
value_run (r ∷ H) k p after T h =
    let T1 : Tables = (next r.thread r.op T).0 in
    let a : DueStep k p r.op (association_of T r.thread) T (next r.thread r.op T) =
    by_move k p T h (moves_of r.thread r.op T) in
    let rest : Run k a.held after H T1 = value_run H k a.held after T1 a.pending in
    record {
      held = rest.held;
      pending = rest.pending;
      owes = omega (arith, ints, a.owes (λ x. commits_later (after x) x (coded H T1)), rest.owes);
    }

-- ---- late requests add nothing

-- who commits is decided by the accepted requests
commits_accepted : (b : Bool) (x : XidName) (h : History) (T : Tables)
    → commits_later b x (coded (accepted h) T) ≡ commits_later b x (coded h T)
commits_accepted b x =
    accepted_read (λ h T. commits_later b x (coded h T)) (λ r h T a e tells.
    ap (λ (c : TablesAndCode). or_later (ending (fate_of x r.op c.1)) (commits_later b x (coded h c.0))) e
    ∙ ap (λ o. or_later (ending o) (commits_later b x (coded h a.0))) (tells.fates x))
    (λ _. refl) (λ r h T e. ap (or_later (ending (fate_of x r.op (next r.thread r.op T).1))) e)

pub late_law : (h : History) (k : List ℕ) (after : XidName → Bool) (T : Tables) → LateAddNothing k after h T
late_law h k after T =
    accepted_read (added_in k after) (λ r g U a e tells.
    let l = association_of U r.thread in
    ap (λ (c : TablesAndCode). share_of k r.op c.1 l (λ x. commits_later (after x) x (coded g c.0)) +ℤ added_in k after
    g c.0)
    e
    ∙ ap (λ v. v +ℤ added_in k after g a.0) (tells.shares k l (λ x. commits_later (after x) x (coded g a.0)))
    ∙ none_plus _)
    (λ _. refl) (λ r g U e i.
    share_of k r.op (next r.thread r.op U).1 (association_of U r.thread)
    (λ x. commits_accepted (after x) x g (next r.thread r.op U).0 i) +ℤ e i) h T

-- The laws: only a branch that exists and isn't heuristically completed has touched a key; and a branch is active
-- exactly while somebody is associated
-- with it and it is in none of S3, S4 and S5.

-- a branch that stands nowhere has touched no key
pub record Clean (T : Tables) : Type 0 where
  pub none : (x : XidName) → standing (state_of T x) ≡ Nowhere → (k : List ℕ) → map.get T.sums (x, k) ≡ None

module _ (t : ℕ) (T : Tables) (s : Sound T) (w : Clean T) where
  clean_by : {op : Op} {a : TablesAndCode} → Effect t T op a → Clean a.0
  clean_by (Adds k d l own known alone) = grind (arith, get_add, associated_works, Decides-xid_eq)
  clean_by (Forgets y is) = grind (arith, get_gone, Decides-xid_eq)
  clean_by effect = grind (arith, get_put, get_gone, get_without, swap_xid)

pub run_clean : (h : History) (T : Tables) → Sound T → Clean T → Clean (tables_after h T)
run_clean [] T s w = w
run_clean (r ∷ h) T s w =
    run_clean h (next r.thread r.op T).0 (sound_after r.thread r.op T s)
    (clean_by r.thread T s w (effect_of r.thread r.op T))

unfinished : (o : Option State) → (is_some o && not (is_S5 o)) ≡ false → standing o ≡ Nowhere
unfinished o e = grind arith

nowhere_unprepared : (o : Option State) → standing o ≡ Nowhere → is_S3 o ≡ false
nowhere_unprepared o e = grind arith

pub opening_clean : (T : Tables) → IsOpening T → Clean T
opening_clean T o = record { none = λ x nowhere k. o.sums x k (nowhere_unprepared (state_of T x) nowhere) }

pub touch_law : (h : History) (x : XidName) (T : Tables) → IsOpening T → OnlyUnfinishedTouch x h T
touch_law h x T o e k =
    (run_clean h T (opening_sound T o) (opening_clean T o)).none x (unfinished (state_of (tables_after h T) x) e) k
