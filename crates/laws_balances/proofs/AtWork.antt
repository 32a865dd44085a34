-- The law: a branch whose work one thread did holds of each account what that thread added to it.
use Rattle.xa_base.proofs.{arith, ◌≡◌, ◌≢◌, ℕ, ◌+◌, ◌==◌, ℤ, pos, ◌+ℤ◌, true, false, cond, if◌then◌else◌, Option, None}
use Rattle.xa_base.proofs.{Some, is_some, unwrap_or, List, [], ◌∷◌, ◌++◌, refl, sym, ap, ◌∙◌, option_map, All, eqb-true}
use Rattle.xa_base.proofs.{eqb-false, get-insert, All-nil, All-cons, All-head, All-tail, All-append, All-weaker}
use Rattle.xa_base.proofs.{is_missing, +ℤ_idl as none_plus, +ℤ_idr as plus_none, at_false, inserted_there}
use Rattle.std.specs.FinMap as map
use Rattle.xa_words.specs.{XidName, xid_eq, key_eq, Decides-xid_eq, Decides-key_eq, Done, RdOnly, Op, Start, Add, End}
use Rattle.xa_words.specs.{Prepare, Fresh, Success, Request, Code}
use Rattle.laws_tables.specs.{request, LeavesAtWork, DoesWork}
use Rattle.laws_tables.proofs.WorthLaw.{added_law, not_ended, reason_not_done as not_done, OnlyOne, nobody_is}
use Rattle.laws_tables.proofs.WorthLaw.{others_by, others_first, own_request, stays_apart}
use Rattle.laws_fates.proofs.Moves.{Moves, Still, Ended, Added, moves_of, quiet_named}
use Rattle.xa_tables.proofs.Soundness.{opening_free}
use Rattle.laws_tables.proofs.UnnamedLaw.{unnamed_fate, unnamed_on, tables_after-append}
use Rattle.laws_fates.proofs.ValueLaw.{get_without, get_added}
use Rattle.xa_tables.specs.{Association, Associated, association_of, exists, is_S3, is_prepared, is_association_with}
use Rattle.xa_tables.specs.{is_associated, branch_in, branch_of, state_of, sum_of, TablesAndCode, next, association}
use Rattle.xa_tables.specs.{added, EndsNowhere, coded, tables_after, fate_of, ending, IsOpening, names, held_by, Tables}
use Rattle.xa_tables.specs.{History}
use Rattle.xa_tables.proofs.AccountLemmas.{touch_cmp_total, touch_self}
use Rattle.xa_tables.proofs.Effects.{effect_of}

-- ---- sums

-- the sum of x of each account is what it was
abbrev SameSums : XidName → Tables → Tables → Type 0
SameSums x T T' = (j : List ℕ) → map.get T'.sums (x, j) ≡ map.get T.sums (x, j)

-- a request that doesn't end x leaves its sums, unless it adds for it
leaves_sums : (x : XidName) (T : Tables) {l : Option Association} {op : Op} {a : TablesAndCode} → Moves T l op a
    → ending (fate_of x op a.1) ≡ None
    → ((k : List ℕ) (d : ℤ) → op ≡ Add k d → is_association_with l x ≡ false) → SameSums x T a.0
leaves_sums x T (Still l op a sums values shares moved endings) n quiet j = ap (λ m. map.get m (x, j)) sums
leaves_sums x T (Ended l op a y commits sums values shares moved endings) n quiet j =
    search (arith, get_without, at_false, not_ended)
leaves_sums x T (Added own d l known alone) n quiet j =
    get_added T.sums l.xid x own j _ (λ same _.
    let is : xid_eq l.xid x ≡ true = (Decides-xid_eq l.xid x).1 (sym same) in
    let isnt : xid_eq l.xid x ≡ false = quiet own d refl in
    cc)

-- ---- the requests of others

-- what others ask for leaves t at its work
record LeftAtWork (t : ℕ) (x : XidName) (T T' : Tables) : Type 0 where
  sums : SameSums x T T'
  only : OnlyOne t x T'
  own : association_of T' t ≡ association_of T t

one_left : (t : ℕ) (x : XidName) (r : Request) (T : Tables) → r.thread ≢ t → names x r.op ≡ false → OnlyOne t x T
    → LeftAtWork t x T (next r.thread r.op T).0
one_left t x r T apart n only =
    let u : ℕ = r.thread in
    let U : Tables = (next u r.op T).0 in
    record {
      sums = leaves_sums x T (moves_of u r.op T) (ap ending (unnamed_fate x r.op (next u r.op T).1 n))
          (λ k d is. only u apart);
      only = λ w other. elim (w == u) as (λ b. (w == u) ≡ b → is_associated U w x ≡ false) [
        | true ↦ λ e. ap (λ v. is_associated U v x) (eqb-true w u e)
            ∙ stays_apart u T x (effect_of u r.op T) n (only u apart)
        | false ↦ λ e. ap (λ o. is_association_with o x) (others_by u T w (eqb-false w u e) (effect_of u r.op T))
            ∙ only w other
      ] refl;
      own = others_by u T t (λ e. apart (sym e)) (effect_of u r.op T);
    }

left_at_work : (t : ℕ) (x : XidName) (h : History) (T : Tables) → OnlyOne t x T → LeavesAtWork t x h
    → LeftAtWork t x T (tables_after h T)
left_at_work t x [] T only leaves = record { sums = λ j. refl; only = only; own = refl }
left_at_work t x (r ∷ h) T only leaves =
    let P : Request → Type 0 = λ q. names x q.op ≡ false in
    let others = others_first t r h leaves.quiet in
    let one = one_left t x r T others.0 (All-head P r h leaves.unnamed) only in
    let rest =
    left_at_work t x h (next r.thread r.op T).0 one.only
    (record { unnamed = All-tail P r h leaves.unnamed; quiet = others.1 }) in
    record { sums = λ j. rest.sums j ∙ one.sums j; only = rest.only; own = rest.own ∙ one.own }

-- ---- the requests of t

-- t began x, which wasn't there
record HasBegun (t : ℕ) (x : XidName) (T T' : Tables) : Type 0 where
  absent : exists T x ≡ false
  own : association_of T' t ≡ Some (association x Associated)

begun_with : (t : ℕ) (x : XidName) (T : Tables) → (next t (Start x Fresh) T).1 ≡ Done
    → HasBegun t x T (next t (Start x Fresh) T).0
unfolding next
begun_with t x T = search (arith, inserted_there)

-- what it holds of each account once d is added to one of them, where it held nothing
put_alone : (x : XidName) (k : List ℕ) (d : ℤ) (T : Tables) → ((j : List ℕ) → map.get T.sums (x, j) ≡ None)
    → (j : List ℕ)
    → sum_of (added x k d T).sums x j ≡ (if key_eq j k then d else pos 0)
put_alone x k d T none j =
    let v : ℤ = sum_of T.sums x k +ℤ d in
    let is : v ≡ d = ap (λ o. unwrap_or o (pos 0) +ℤ d) (none k) ∙ none_plus d in
    elim (key_eq j k) as (λ b. key_eq j k ≡ b → sum_of (added x k d T).sums x j ≡ (if b then d else pos 0)) [
      | true ↦ λ e.
          ap (λ l. sum_of (added x k d T).sums x l) ((Decides-key_eq j k).0 e)
          ∙ ap (λ o. unwrap_or o (pos 0))
          (get-insert touch_cmp_total T.sums (x, k) v (x, k)
          ∙ ap (λ b. cond b (Some v) (map.get T.sums (x, k))) (touch_self (x, k)))
          ∙ is
      | false ↦ λ e.
          ap (λ o. unwrap_or o (pos 0))
          (get_added T.sums x x k j v (λ _ same. let z : key_eq j k ≡ true = (Decides-key_eq j k).1 same in cc)
          ∙ none j)
    ] refl

added_alone : (t : ℕ) (x : XidName) (k : List ℕ) (d : ℤ) (T : Tables) → branch_of T t ≡ x
    → ((j : List ℕ) → map.get T.sums (x, j) ≡ None)
    → (next t (Add k d) T).1 ≡ Done → (j : List ℕ)
    → sum_of (next t (Add k d) T).0.sums x j ≡ (if key_eq j k then d else pos 0)
unfolding next
added_alone t x k d T own none = search (arith, not_done, put_alone)

-- the work
pub work_held : (t n : ℕ) (x : XidName) (k : List ℕ) (d : ℤ) (h : History) (T : Tables) → DoesWork t n x k d T h
    → IsOpening T → (j : List ℕ) (v : ℕ)
    → held_by ((j, v) ∷ []) x (tables_after h T) ≡ (if key_eq j k then d else pos 0)
work_held t n x k d h T w opened j v =
    let T1 : Tables = tables_after w.before T in
    let T2 : Tables = (next t (Start x Fresh) T1).0 in
    let T3 : Tables = tables_after w.begun T2 in
    let T4 : Tables = (next t (Add k d) T3).0 in
    let first = unnamed_on w.before x T (opening_free x T opened) w.unnamed in
    let only1 : OnlyOne t x T1 = λ u apart. nobody_is x T1 first.apart u in
    let begins = begun_with t x T1 w.starts in
    let unprepared : is_prepared T x ≡ false =
    ap is_S3 (is_missing (state_of T x) (ap is_some (sym first.state) ∙ begins.absent)) in
    let quiet : ending (fate_of x (Start x Fresh) (next t (Start x Fresh) T1).1) ≡ None = search (arith, quiet_named) in
    let started : SameSums x T1 T2 = leaves_sums x T1 (moves_of t (Start x Fresh) T1) quiet (λ l e is. cc) in
    let begun = left_at_work t x w.begun T2 (own_request t x (Start x Fresh) T1 only1) w.at_work in
    let none : (l : List ℕ) → map.get T3.sums (x, l) ≡ None =
    λ l. begun.sums l ∙ started l ∙ first.sums l ∙ opened.sums x l unprepared in
    let own : branch_of T3 t ≡ x = ap branch_in (begun.own ∙ begins.own) in
    let T5 : Tables = tables_after w.added T4 in
    let T6 : Tables = (next t (End x Success) T5).0 in
    let ending_work = left_at_work t x w.added T4 (own_request t x (Add k d) T3 begun.only) w.ending in
    let ends : SameSums x T5 T6 = leaves_sums x T5 (moves_of t (End x Success) T5) refl (λ l e is. cc) in
    let done = left_at_work t x w.after T6 (own_request t x (End x Success) T5 ending_work.only) w.ended in
    let last : tables_after h T ≡ tables_after w.after T6 =
    search (arith, tables_after-append, w.before, w.begun, w.added) in
    search (arith, plus_none, unwrap_or, added_alone, done.sums, ending_work.sums, w.adds)

-- ---- its vote

ends_nowhere : (x : XidName) (h : History) (T : Tables) → All (λ r. (c : Code) → ending (fate_of x r.op c) ≡ None) h
    → EndsNowhere x h T
ends_nowhere x [] T all = All-nil (λ (e : Request × Code). ending (fate_of x e.0.op e.1) ≡ None)
ends_nowhere x (r ∷ h) T all =
    let P : Request → Type 0 = λ q. (c : Code) → ending (fate_of x q.op c) ≡ None in
    All-cons (λ (e : Request × Code). ending (fate_of x e.0.op e.1) ≡ None) (r, (next r.thread r.op T).1)
    (coded h (next r.thread r.op T).0)
    (All-head P r h all (next r.thread r.op T).1) (ends_nowhere x h (next r.thread r.op T).0 (All-tail P r h all))

-- it isn't read only
pub work_never_reads : (t n u : ℕ) (x : XidName) (k : List ℕ) (d : ℤ) (h : History) (T : Tables)
    → DoesWork t n x k d T h → IsOpening T
    → (next u (Prepare x) (tables_after h T)).1 ≡ RdOnly → ⊥
work_never_reads t n u x k d h T w opened e =
    let T1 : Tables = tables_after w.before T in
    let T2 : Tables = (next t (Start x Fresh) T1).0 in
    let T3 : Tables = tables_after w.begun T2 in
    let T4 : Tables = (next t (Add k d) T3).0 in
    let first = unnamed_on w.before x T (opening_free x T opened) w.unnamed in
    let only1 : OnlyOne t x T1 = λ v apart. nobody_is x T1 first.apart v in
    let begins = begun_with t x T1 w.starts in
    let begun = left_at_work t x w.begun T2 (own_request t x (Start x Fresh) T1 only1) w.at_work in
    let ends : Request = request t (n + 2) (End x Success) in
    let rest3 : History = ends ∷ w.after in
    let last : tables_after h T ≡ tables_after (w.added ++ rest3) T4 =
    search (arith, tables_after-append, w.before, w.begun) in
    let P : Request → Type 0 = λ q. (c : Code) → ending (fate_of x q.op c) ≡ None in
    let unnamed : (q : Request) → names x q.op ≡ false → P q = λ q m c. ap ending (unnamed_fate x q.op c m) in
    let none : All P (w.added ++ rest3) =
    All-append P w.added rest3 (All-weaker (λ (q : Request). names x q.op ≡ false) P unnamed w.added w.ending.unnamed)
    (All-cons P ends w.after (λ c. refl)
    (All-weaker (λ (q : Request). names x q.op ≡ false) P unnamed w.after w.ended.unnamed)) in
    added_law u t (Add k d) x k d (w.added ++ rest3) T3 refl
    (ap (option_map (λ (a : Association). a.xid)) (begun.own ∙ begins.own)) w.adds
    (ends_nowhere x (w.added ++ rest3) T4 none) (ap (λ U. (next u (Prepare x) U).1) (sym last) ∙ e)
