-- A branch holds what it has added to accounts, which it alone did where one thread worked for it, and doesn't vote
-- that it only read.
use Rattle.xa_base.proofs.{cases_eq, inl, inr, inserted_there, inserted_other, removed_there, removed_other, rules, ◌≡◌}
use Rattle.xa_base.proofs.{◌≢◌, ℕ, ℤ, pos, ◌+ℤ◌, true, false, if◌then◌else◌, Option, Some, List, [], ◌∷◌, ◌++◌, refl}
use Rattle.xa_base.proofs.{sym, ap, ◌∙◌, arith, eqb-false, All-head, All-tail, +ℤ_idl as none_plus, +ℤ_idr as plus_none}
use Rattle.xa_base.proofs.{suc, Bool, None, option_map, is_some, none_passes, zero, not, ◌&&◌, unwrap_or, ◌<◌, length}
use Rattle.xa_base.proofs.{map, All, list_any, find, get-empty, get-from_entries, get_or, and_parts, not-true, or-true}
use Rattle.xa_base.proofs.{total_same, total_alike, total_both, total_nothing, by_bool, length-map, get_or-map}
use Rattle.xa_words.specs.{XidName, xid_eq, Decides-xid_eq, Done, Op, Start, Add, End, Fresh, Success, Request, Code}
use Rattle.xa_words.specs.{RdOnly, Prepare, Decides-key_eq, key_eq, key_cmp_total, is_done, is_rolled_back}
use Rattle.xa_words.specs.{are_accounts, are_apart}
use Rattle.laws_tables.specs.{LeavesAtWork, DoesWork}
use Rattle.laws_fates.proofs.Moves.{quiet_named, Moves, Still, Ended, Added, moves_of}
use Rattle.xa_tables.proofs.Soundness.{opening_free}
use Rattle.xa_tables.proofs.SoundLemmas.{swap_xid, apart_from}
use Rattle.laws_tables.proofs.UnnamedLaw.{unnamed_fate, unnamed_stays, unnamed_on}
use Rattle.laws_fates.proofs.ValueLaw.{get_without, get_add, Accounts}
pub use Rattle.laws_fates.proofs.ValueLaw.{declared_on, worth_from}
use Rattle.laws_tables.proofs.PreparedLaw.{sums_kept}
use Rattle.xa_tables.specs.{Association, Associated, association_of, is_association_with, is_associated}
use Rattle.xa_tables.specs.{is_somebody_associated, TablesAndCode, next, association, of_thread, tables_after, fate_of}
use Rattle.xa_tables.specs.{ending, added_by, IsOpening, names, NamesNowhere, gain, unless_ended, added_by_now, Tables}
use Rattle.xa_tables.specs.{History, touch_cmp, is_rollback_only, reason_of, state_of, has_touched, sums_without}
use Rattle.xa_tables.specs.{EndsNowhere, is_declared, value_of, sum_of, added, opening, share_of, worth_declared, worth}
use Rattle.xa_tables.specs.{held_by, moved, WorthIsMoved, HoldsItsAdditions, Account}
use Rattle.xa_tables.proofs.Effects.{Effect, effect_of, Starts, reason_rolls_back}
use Rattle.xa_words.proofs.Xids.{xid_self}
use Rattle.xa_tables.proofs.AccountLemmas.{swapped, touch_cmp_total, touch_cmp-IsAntisymmetric, value_found, at_own_key}
use Rattle.xa_base.specs.{total}
use Rattle.xa_words.specs.Orders.{key_cmp}
use Rattle.xa_tables.proofs.PlaceLemmas.{account_of, declared_entries, distinct_apart}
use Rattle.std.specs.FinMap as finmap

-- ---- associations

module _ (t : ℕ) (T : Tables) where
  -- a request leaves the associations of the other threads
  pub others_by : (u : ℕ) → u ≢ t → {op : Op} {a : TablesAndCode} → Effect t T op a
      → association_of a.0 u ≡ association_of T u
  others_by u apart effect = grind (arith, inserted_other, removed_other)

  -- and its thread becomes associated with no branch that it doesn't name
  pub stays_apart : (x : XidName) {op : Op} {a : TablesAndCode} → Effect t T op a → names x op ≡ false
      → is_associated T t x ≡ false → is_associated a.0 t x ≡ false
  stays_apart x (Starts y free fresh) n h = grind (arith, inserted_there)
  stays_apart x effect n h = grind (arith, inserted_there, removed_there)

-- ---- what requests add that aren't the branch's

-- no thread but t is associated with x
abbrev pub OnlyOne : ℕ → XidName → Tables → Type 0
OnlyOne t x T = (u : ℕ) → u ≢ t → is_associated T u x ≡ false

-- a request that doesn't name it, of such a thread
unmoved : (x : XidName) (v : ℤ) (r : Request) (T : Tables) → names x r.op ≡ false → is_associated T r.thread x ≡ false
    → unless_ended (ending (fate_of x r.op (next r.thread r.op T).1))
    (v +ℤ gain x r.op (next r.thread r.op T).1 (association_of T r.thread)) ≡ v
unmoved x v r T n apart = grind (arith, unnamed_fate)

-- nobody is associated with x
pub nobody_is : (x : XidName) (T : Tables) → is_somebody_associated T.associations x ≡ false → (u : ℕ)
    → is_associated T u x ≡ false
nobody_is x T nobody u = grind (arith, apart_from)

nobody_adds : (x : XidName) (v : ℤ) (h : History) (T : Tables) → is_somebody_associated T.associations x ≡ false
    → NamesNowhere x h → added_by_now x v h T ≡ v
nobody_adds x v [] T nobody n = refl
nobody_adds x v (r ∷ h) T nobody n =
    let P : Request → Type 0 = λ q. names x q.op ≡ false in
    let T1 : Tables = (next r.thread r.op T).0 in
    let one = unnamed_stays r.thread r.op x T nobody (All-head P r h n) in
    ap (λ w. added_by_now x w h T1) (unmoved x v r T (All-head P r h n) (nobody_is x T nobody r.thread))
    ∙ nobody_adds x v h T1 one.apart (All-tail P r h n)

-- t alone may be, and asks for nothing
record LeftAtWork (t : ℕ) (x : XidName) (v : ℤ) (h : History) (T : Tables) : Type 0 where
  added : added_by_now x v h T ≡ v
  only : OnlyOne t x (tables_after h T)
  own : association_of (tables_after h T) t ≡ association_of T t

-- a thread without requests in a history
pub others_first : (t : ℕ) (r : Request) (h : History) → of_thread t (r ∷ h) ≡ []
    → (r.thread ≢ t) × (of_thread t h ≡ [])
others_first t r h e = grind (arith, eqb-false)

only_after : (t : ℕ) (x : XidName) (r : Request) (T : Tables) → r.thread ≢ t → names x r.op ≡ false → OnlyOne t x T
    → OnlyOne t x (next r.thread r.op T).0
only_after t x r T apart n only u other = elim (cases_eq u r.thread) [
  | inl same ↦ ap (λ w. is_associated (next r.thread r.op T).0 w x) same
      ∙ stays_apart r.thread T x (effect_of r.thread r.op T) n (only r.thread apart)
  | inr differs ↦ ap (λ o. is_association_with o x) (others_by r.thread T u differs (effect_of r.thread r.op T))
      ∙ only u other
]

left_at_work : (t : ℕ) (x : XidName) (v : ℤ) (h : History) (T : Tables) → OnlyOne t x T → LeavesAtWork t x h
    → LeftAtWork t x v h T
left_at_work t x v [] T only leaves = record { added = refl; only = only; own = refl }
left_at_work t x v (r ∷ h) T only leaves =
    let P : Request → Type 0 = λ q. names x q.op ≡ false in
    let T1 : Tables = (next r.thread r.op T).0 in
    let n = All-head P r h leaves.unnamed in
    let others = others_first t r h leaves.quiet in
    let rest =
    left_at_work t x v h T1 (only_after t x r T others.0 n only)
    (record { unnamed = All-tail P r h leaves.unnamed; quiet = others.1 }) in
    record {
      added = ap (λ w. added_by_now x w h T1) (unmoved x v r T n (only r.thread others.0)) ∙ rest.added;
      only = rest.only;
      own = rest.own ∙ others_by r.thread T t (λ e. others.0 (sym e)) (effect_of r.thread r.op T);
    }

-- ---- the work

-- t began x
begun_with : (t : ℕ) (x : XidName) (T : Tables) → (next t (Start x Fresh) T).1 ≡ Done
    → association_of (next t (Start x Fresh) T).0 t ≡ Some (association x Associated)
unfolding next
begun_with t x T = grind (arith, inserted_there)

-- what a history adds that is followed by another
added_both : (x : XidName) (v : ℤ) (h g : History) (T : Tables)
    → added_by_now x v (h ++ g) T ≡ added_by_now x (added_by_now x v h T) g (tables_after h T)
added_both x v [] g T = refl
added_both x v (r ∷ h) g T =
    added_both x
    (unless_ended (ending (fate_of x r.op (next r.thread r.op T).1))
    (v +ℤ gain x r.op (next r.thread r.op T).1 (association_of T r.thread))) h g (next r.thread r.op T).0

-- a request of t leaves the other threads
pub own_request : (t : ℕ) (x : XidName) (op : Op) (T : Tables) → OnlyOne t x T → OnlyOne t x (next t op T).0
own_request t x op T only u other =
    ap (λ o. is_association_with o x) (others_by t T u other (effect_of t op T)) ∙ only u other

pub work_law : (t n : ℕ) (x : XidName) (k : List ℕ) (d : ℤ) (h : History) (T : Tables) → IsOpening T
    → DoesWork t n x k d T h → added_by_now x (pos 0) h T ≡ d
work_law t n x k d h T opened w =
    let T1 : Tables = tables_after w.before T in
    let T2 : Tables = (next t (Start x Fresh) T1).0 in
    let T3 : Tables = tables_after w.begun T2 in
    let T4 : Tables = (next t (Add k d) T3).0 in
    let T5 : Tables = tables_after w.added T4 in
    let T6 : Tables = (next t (End x Success) T5).0 in
    let free = opening_free x T opened in
    let none : added_by_now x (pos 0) w.before T ≡ pos 0 = nobody_adds x (pos 0) w.before T free w.unnamed in
    let only1 : OnlyOne t x T1 = λ u apart. nobody_is x T1 (unnamed_on w.before x T free w.unnamed).apart u in
    let start_code = w.starts in
    let begins : unless_ended (ending (fate_of x (Start x Fresh) (next t (Start x Fresh) T1).1)) (pos 0 +ℤ pos 0) ≡ pos
    0 =
    search (arith, quiet_named) in
    let at_work = left_at_work t x (pos 0) w.begun T2 (own_request t x (Start x Fresh) T1 only1) w.at_work in
    let own : association_of T3 t ≡ Some (association x Associated) = at_work.own ∙ begun_with t x T1 w.starts in
    let self : xid_eq x x ≡ true = (Decides-xid_eq x x).1 refl in
    let gained : gain x (Add k d) (next t (Add k d) T3).1 (association_of T3 t) ≡ d = search (arith, rules) in
    let ending_work = left_at_work t x d w.added T4 (own_request t x (Add k d) T3 at_work.only) w.ending in
    let done = left_at_work t x d w.after T6 (own_request t x (End x Success) T5 ending_work.only) w.ended in
    search (arith, added_both, none_plus, plus_none, w.before, w.begun, w.added, w.after)

-- The laws: a branch that has added to a key doesn't vote read-only, unless it was ended in between; commits alone,
-- heuristic ones included, move what
-- the accounts are worth together, by what their branches hold; and a branch holds what it has added.

-- x has added to k
abbrev HasAdded : XidName → List ℕ → Tables → Type 0
HasAdded x k T = is_some (finmap.get T.sums (x, k)) ≡ true

-- a branch that has touched no key has none
pub untouched : (x : XidName) (T : Tables) → has_touched T.sums x ≡ false → (k : List ℕ)
    → finmap.get T.sums (x, k) ≡ None
untouched x T none k =
    grind (
      arith,
      (none_passes touch_cmp_total touch_cmp-IsAntisymmetric (λ (p : XidName × List ℕ) s. xid_eq p.0 x) T.sums
          (x, k)),
      xid_self,
    )

-- a request that ends y doesn't end x, and so x isn't y
pub not_ended : (x y : XidName) (b : Bool) → (if xid_eq y x then Some b else None) ≡ None → xid_eq x y ≡ false
not_ended x y b none = grind (arith, swap_xid)

-- a request that doesn't end the branch leaves what it has added to
stays : (x : XidName) (k : List ℕ) (T : Tables) {l : Option Association} {op : Op} {a : TablesAndCode} → Moves T l op a
    → HasAdded x k T
    → ending (fate_of x op a.1) ≡ None → HasAdded x k a.0
stays x k T (Still l op a sums values shares moved endings) h n = grind arith
stays x k T (Ended l op a y commits sums values shares moved endings) h n = grind (arith, get_without, not_ended)
stays x k T (Added own d l known alone) h n = grind (arith, get_add)

stays_on : (g : History) (x : XidName) (k : List ℕ) (T : Tables) → HasAdded x k T → EndsNowhere x g T
    → HasAdded x k (tables_after g T)
stays_on [] x k T h n = h
stays_on (r ∷ g) x k T h n =
    stays_on g x k (next r.thread r.op T).0
    (stays x k T (moves_of r.thread r.op T) h (n 0 (r, (next r.thread r.op T).1) (omega arith)))
    (λ i e lt. n (suc i) e (omega arith))

pub reason_not_done : (T : Tables) (y : XidName) → is_rollback_only T y ≡ true → reason_of T y ≡ Done → ⊥
reason_not_done T y back e =
    let z : is_rolled_back Done ≡ true = ap is_rolled_back (sym e) ∙ reason_rolls_back (state_of T y) back in cc

has_added : (t : ℕ) (x : XidName) (k : List ℕ) (d : ℤ) (T : Tables)
    → option_map (λ (a : Association). a.xid) (association_of T t) ≡ Some x
    → (next t (Add k d) T).1 ≡ Done → HasAdded x k (next t (Add k d) T).0
unfolding next
has_added t x k d T own = grind (arith, get_add, reason_not_done, Decides-xid_eq, Decides-key_eq)

-- a Prepare that is answered XA_RDONLY is of a branch that touched no key
pub reads_only : (t : ℕ) (x : XidName) (T : Tables) → (next t (Prepare x) T).1 ≡ RdOnly → has_touched T.sums x ≡ false
unfolding next
reads_only t x T = grind arith

pub added_law : (t u : ℕ) (op : Op) (x : XidName) (k : List ℕ) (d : ℤ) (g : History) (T : Tables) → op ≡ Add k d
    → option_map (λ (a : Association). a.xid) (association_of T u) ≡ Some x
    → (next u op T).1 ≡ Done → EndsNowhere x g (next u op T).0
    → (next t (Prepare x) (tables_after g (next u op T).0)).1 ≢ RdOnly
added_law t u op x k d g T is own =
    rw is (λ done unended reads.
    let after : Tables = (next u (Add k d) T).0 in
    let there : HasAdded x k (tables_after g after) = stays_on g x k after (has_added u x k d T own done) unended in
    let none : finmap.get (tables_after g after).sums (x, k) ≡ None =
    untouched x (tables_after g after) (reads_only t x (tables_after g after) reads) k in
    let z : false ≡ true = sym (ap is_some none) ∙ there in
    cc)

-- ---- which accounts there are

-- the key is one of theirs
abbrev among : Accounts → List ℕ → Bool
among accounts k = list_any (λ d. key_eq d.0 k) accounts

abbrev Entry : Type 0
Entry = List ℕ × ℤ

-- what is found of them at the opening
abbrev entry_of : List ℕ × ℕ → Entry
entry_of d = (d.0, pos d.1)

found_among : (accounts : Accounts) (k : List ℕ) → is_some (find key_cmp k (map entry_of accounts)) ≡ among accounts k
found_among [] k = refl
found_among (d ∷ ds) k = grind (arith, (found_among ds k), find, key_cmp, swapped)

-- the tables declare just the accounts' keys
abbrev Declares : Accounts → Tables → Type 0
Declares accounts T = (k : List ℕ) → is_declared T k ≡ among accounts k

opening_declares : (accounts : Accounts) → Declares accounts (opening accounts)
opening_declares accounts k =
    ap is_some (get-from_entries key_cmp_total (map entry_of accounts) k) ∙ found_among accounts k

-- each of the accounts is among them
each_among : (accounts : Accounts) → All (λ d. among accounts d.0 ≡ true) accounts
each_among [] k d lt = absurd (omega arith)
each_among (d ∷ ds) zero e lt = search (arith, Decides-key_eq)
each_among (d ∷ ds) (suc k) e lt = grind (arith, (each_among ds k e (omega arith)), or-true)

-- ---- sums over accounts with keys of their own

-- what counts for one key counts once
once : (accounts : Accounts) (k : List ℕ) (v : ℤ) → are_apart accounts ≡ true
    → total (λ d. if key_eq d.0 k then v else pos 0) accounts ≡ (if among accounts k then v else pos 0)
once [] k v apart = refl
once (d ∷ ds) k v apart =
    let parts = and_parts (not (list_any (λ e. key_eq e.0 d.0) ds)) (are_apart ds) apart in
    grind (arith, (once ds k v parts.1), (not-true _ parts.0), Decides-key_eq, plus_none, none_plus)

-- each account's value at the opening
opening_value : (ds : Accounts) (i : ℕ) (d : List ℕ × ℕ) → are_apart ds ≡ true → i < length ds
    → find key_cmp (get_or ds i d).0 (map entry_of ds) ≡ Some (pos (get_or ds i d).1)
opening_value ds i d apart lt =
    let a = account_of (get_or ds i d) in
    ap (find key_cmp a.key) (sym (declared_entries ds)) ∙ value_found a.key (map account_of ds)
    ∙ ap (option_map (λ (c : Account). c.value))
    (at_own_key (map account_of ds) i a (distinct_apart ds apart) (omega (arith, length-map ds account_of))
    (sym (get_or-map account_of ds i d a lt)))

opening_worth : (accounts : Accounts) → are_apart accounts ≡ true
    → worth accounts (opening accounts) ≡ worth_declared accounts
opening_worth accounts apart =
    total_alike (λ d. value_of (opening accounts).values d.0) (λ d. pos d.1) accounts (λ i d lt.
    ap (λ o. unwrap_or o (pos 0))
    (get-from_entries key_cmp_total (map entry_of accounts) (get_or accounts i d).0
    ∙ opening_value accounts i d apart lt))

-- nothing is held at the opening
opening_holds : (accounts : Accounts) (x : XidName) → held_by accounts x (opening accounts) ≡ pos 0
opening_holds accounts x =
    total_same (λ d. sum_of (opening accounts).sums x d.0) (λ d. pos 0) accounts
    (λ d. ap (λ o. unwrap_or o (pos 0)) (get-empty touch_cmp (x, d.0)))
    ∙ total_nothing accounts

-- ---- one request
-- an addition counts for its branch, at its key
get_sum : (x y : XidName) (own k : List ℕ) (d : ℤ) (T : Tables)
    → sum_of (added y own d T).sums x k ≡ sum_of T.sums x k +ℤ
    (if xid_eq y x then (if key_eq k own then d else pos 0) else pos 0)
get_sum x y own k d T = grind (arith, get_add, Decides-xid_eq, Decides-key_eq, plus_none)

abbrev HeldStep : Accounts → Op → Option Association → Tables → TablesAndCode → Type 0
HeldStep accounts op l T a =
    (x : XidName)
    → held_by accounts x a.0 ≡ unless_ended (ending (fate_of x op a.1)) (held_by accounts x T +ℤ gain x op a.1 l)

-- a request that adds nothing to any key adds nothing to any branch
no_gain : (x : XidName) (op : Op) (c : Code) (l : Option Association)
    → ((k : List ℕ) (m : Option Association) (later : XidName → Bool) → share_of k op c m later ≡ pos 0)
    → gain x op c l ≡ pos 0
no_gain x (Add k d) c l shares =
    ap (λ b. if b && is_done c then added_by l d (λ y. xid_eq y x) else pos 0) (sym ((Decides-key_eq k k).1 refl))
    ∙ shares k l (λ y. xid_eq y x)
no_gain x op c l shares = refl

ended_either : (b c : Bool) (u v g : ℤ) (o : Option Bool) → v ≡ (if b then pos 0 else u) → g ≡ pos 0
    → o ≡ (if b then Some c else None)
    → v ≡ unless_ended o (u +ℤ g)
ended_either b c u v g o held none ends = grind (arith, plus_none)

-- what branches hold once y is gone
without : (accounts : Accounts) (T : Tables) (y x : XidName)
    → total (λ d. sum_of (sums_without T.sums y) x d.0) accounts ≡ (if xid_eq y x then pos 0 else held_by accounts x T)
without accounts T y x =
    total_same (λ d. sum_of (sums_without T.sums y) x d.0)
    (λ d. unwrap_or (if xid_eq x y then None else finmap.get T.sums (x, d.0)) (pos 0)) accounts (λ d.
    ap (λ o. unwrap_or o (pos 0)) (get_without T.sums y x d.0))
    ∙ by_bool
    (λ b. total (λ d. unwrap_or (if b then None else finmap.get T.sums (x, d.0)) (pos 0))
    accounts ≡ (if b then pos 0 else held_by accounts x T)) (xid_eq x y)
    (λ _. total_nothing accounts) (λ _. refl)
    ∙ ap (λ b. if b then pos 0 else held_by accounts x T) (swap_xid x y)

module _ (accounts : Accounts) (apart : are_apart accounts ≡ true) (T : Tables) (known : Declares accounts T) where
  -- what a branch holds once y has added d to a declared key
  gained : (own : List ℕ) (d : ℤ) (l : Association) → is_declared T own ≡ true → (x : XidName)
      → held_by accounts x (added l.xid own d T) ≡ held_by accounts x T +ℤ (if xid_eq l.xid x then d else pos 0)
  gained own d l there x =
      total_same (λ e. sum_of (added l.xid own d T).sums x e.0)
      (λ e. sum_of T.sums x e.0 +ℤ (if xid_eq l.xid x then (if key_eq e.0 own then d else pos 0) else pos 0))
      accounts (λ e. get_sum x l.xid own e.0 d T)
      ∙ total_both (λ e. sum_of T.sums x e.0)
      (λ e. if xid_eq l.xid x then (if key_eq e.0 own then d else pos 0) else pos 0) accounts
      ∙ ap (λ v. held_by accounts x T +ℤ v)
      (by_bool
      (λ b. total (λ e. if b then (if key_eq e.0 own then d else pos 0) else pos 0)
      accounts ≡ (if b then d else pos 0)) (xid_eq l.xid x)
      (λ _. once accounts own d apart ∙ ap (λ b. if b then d else pos 0) (sym (known own) ∙ there))
      (λ _. total_nothing accounts))

  held_by_move : {l : Option Association} {op : Op} {a : TablesAndCode} → Moves T l op a → HeldStep accounts op l T a
  held_by_move (Still l op a sums values shares moved endings) x =
      grind (
        arith,
        (ap (λ m. total (λ d. sum_of m x d.0) accounts) sums),
        (endings x),
        (no_gain x op a.1 l shares),
        plus_none,
      )
  held_by_move (Ended l op a y commits sums values shares moved endings) x =
      ended_either (xid_eq y x) commits (held_by accounts x T) _ _ _
      (ap (λ m. total (λ d. sum_of m x d.0) accounts) sums ∙ without accounts T y x) (no_gain x op a.1 l shares)
      (endings x)
  held_by_move (Added own d l there alone) x = gained own d l there x

module _ (accounts : Accounts) (apart : are_apart accounts ≡ true) where
  held_on : (x : XidName) (h : History) (T : Tables) → Declares accounts T
      → held_by accounts x (tables_after h T) ≡ added_by_now x (held_by accounts x T) h T
  held_on x [] T known = refl
  held_on x (r ∷ h) T known =
      let T1 : Tables = (next r.thread r.op T).0 in
      held_on x h T1 (λ k. declared_on (r ∷ []) k T ∙ known k)
      ∙ ap (λ v. added_by_now x v h T1) (held_by_move accounts apart T known (moves_of r.thread r.op T) x)

apart_of : (accounts : Accounts) → are_accounts accounts ≡ true → are_apart accounts ≡ true
apart_of accounts e = (and_parts _ (are_apart accounts) ((and_parts _ _ e).1)).1

pub worth_law : (accounts : Accounts) (h : History) → are_accounts accounts ≡ true → WorthIsMoved accounts h
worth_law accounts h e = search (arith, opening_declares, each_among, worth_from, opening_worth, apart_of)

pub held_law : (accounts : Accounts) (x : XidName) (h : History) → are_accounts accounts ≡ true
    → HoldsItsAdditions accounts x h
held_law accounts x h e = search (arith, held_on, apart_of, opening_declares, opening_holds)

-- ---- a Prepare

pub kept_law : (accounts : Accounts) (t : ℕ) (x : XidName) (h g : History) (T : Tables) → IsOpening T
    → (next t (Prepare x) (tables_after h T)).1 ≡ Done
    → NamesNowhere x g
    → held_by accounts x (tables_after g (next t (Prepare x) (tables_after h T)).0) ≡ held_by accounts x
    (tables_after h T)
kept_law accounts t x h g T o e n = search (arith, total_same, unwrap_or, sums_kept)

pub read_law : (accounts : Accounts) (t : ℕ) (x : XidName) (T : Tables) → (next t (Prepare x) T).1 ≡ RdOnly
    → held_by accounts x T ≡ pos 0
read_law accounts t x T e = search (arith, untouched, reads_only, total_nothing)
