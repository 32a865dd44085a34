-- The records that a coordinator keeps, and the senders of a new lane.
use Rattle.xa_base.proofs.{◌≡◌, cond, List, [], ◌∷◌, ◌++◌, map, Bool, true, false, not, ◌&&◌, ◌||◌, Option, None, Some}
use Rattle.xa_base.proofs.{refl, sym, ap, ◌∙◌, append_assoc, append-nil, map-append, get-insert, get-remove, is_equal}
use Rattle.xa_base.proofs.{ℕ, is_some, is_none, filter, list_any, keys_of, get-retain_keys, zero, suc, length, arith}
use Rattle.xa_base.proofs.{length-append, from_entries, get-lookup, one_removed, insert, same_map, lookup, kept_by_key}
use Rattle.std.specs.FinMap.{get, remove, retain_keys}
use Rattle.xa_words.specs.{TranName, tran_eq, Decides-tran_eq}
use Rattle.xa_log.specs.{Records, record_in, is_among, tran_cmp}
use Rattle.xa_log.proofs.Transactions.{tran_cmp_total, tran_cmp-IsAntisymmetric, tran_eq-by_cmp, tran_alike}
use Rattle.xa_lane.specs.{with_item, but_full, LaneName, QueueId, Sending, new_senders}
use Rattle.xa_log_shared.specs.{Forget, LaneToWorker, AreDropped, AsksToForgetAll, Sends, others}

-- a new record that is put and then removed leaves what was there
pub removed_again : (m : Records) (k : TranName) (v : List Bool) → record_in m k ≡ None → remove (insert m k v) k ≡ m
removed_again m k v none =
    same_map tran_cmp_total tran_cmp-IsAntisymmetric _ _
    (λ q. search (
      arith,
      get-remove tran_cmp_total (insert m k v) k q,
      get-insert tran_cmp_total m k v q,
      tran_cmp-IsAntisymmetric q k,
      is_equal,
    ))

-- what the hash map of records has, and once one is removed
pub there : {X : Type 0} (es : List (TranName × X)) (t : TranName)
    → get (from_entries {R = tran_cmp} es) t ≡ lookup (tran_eq t) es
there = get-lookup tran_eq tran_cmp_total tran_cmp-IsAntisymmetric tran_eq-by_cmp

pub removed : {X : Type 0} (es fs : List (TranName × X)) (t : TranName)
    → ((q : TranName) → lookup (tran_eq q) fs ≡ cond (tran_eq t q) None (lookup (tran_eq q) es))
    → from_entries {R = tran_cmp} fs ≡ remove (from_entries es) t
removed = one_removed tran_eq tran_cmp_total tran_cmp-IsAntisymmetric tran_eq-by_cmp

-- and once those of other transactions are
pub only_those : {X : Type 0} (trans : List TranName) (es fs : List (TranName × X))
    → fs ≡ filter (λ e. is_among trans e.0) es
    → from_entries {R = tran_cmp} fs ≡ retain_keys (from_entries es) (is_among trans)
only_those trans =
    kept_by_key tran_eq tran_cmp_total tran_cmp-IsAntisymmetric tran_eq-by_cmp tran_alike (is_among trans)

-- that one more be forgotten
pub asks_one_more : (trans : List TranName) (to mid to' : LaneToWorker) (t : TranName) → AsksToForgetAll trans to mid
    → Sends (Forget t) mid to'
    → AsksToForgetAll (trans ++ t ∷ []) to to'
asks_one_more trans to mid to' t some one =
    one ∙ ap (with_item (Forget t)) some
    ∙ (λ i. record (but_full to) {
      sent = (append_assoc to.sent (map Forget trans) (Forget t ∷ [])
          ∙ ap (λ xs. to.sent ++ xs) (sym (map-append Forget trans (t ∷ [])))) i;
    })

-- and none
pub asks_none : (to : LaneToWorker) → AsksToForgetAll [] to to
asks_none to = λ i. record (but_full to) { sent = sym (append-nil to.sent) i }

-- they are as many as the lane was opened with
pub as_many : (T : Type 0) (lane : LaneName) (line : QueueId) (capacity n : ℕ) (senders : List (Sending T))
    → senders ≡ new_senders lane line capacity n → length senders ≡ n
as_many T lane line capacity zero senders is = ap length is
as_many T lane line capacity (suc n) senders is =
    let fewer : List (Sending T) = new_senders lane line capacity n in
    search (arith, as_many T lane line capacity n fewer refl, length-append fewer)

-- ---- what is dropped

one_gone : (same : Bool) (o : Option (List Bool)) → (same ≡ true → is_some o ≡ true)
    → (same || false) ≡ (is_some o && is_none (cond same None o))
one_gone true None was = sym (was refl)
one_gone true (Some r) was = refl
one_gone false None was = refl
one_gone false (Some r) was = refl

absent_gone : (same : Bool) (o : Option (List Bool)) → (same ≡ true → is_some o ≡ false)
    → false ≡ (is_some o && is_none (cond same None o))
absent_gone true None was = refl
absent_gone true (Some r) was = sym (was refl)
absent_gone false None was = refl
absent_gone false (Some r) was = refl

others_gone : (passes : Bool) (o : Option (List Bool))
    → (is_some o && not passes) ≡ (is_some o && is_none (cond passes o None))
others_gone true None = refl
others_gone true (Some r) = refl
others_gone false None = refl
others_gone false (Some r) = refl

-- what a removal of t takes from a record q
gone_at : (m : Records) (t q : TranName) → cond (tran_eq q t) None (record_in m q) ≡ record_in (remove m t) q
gone_at m t q = ap (λ b. cond b None (record_in m q)) (tran_eq-by_cmp q t) ∙ sym (get-remove tran_cmp_total m t q)

there_at : (m : Records) (t q : TranName) (b : Bool) → is_some (record_in m t) ≡ b → tran_eq q t ≡ true
    → is_some (record_in m q) ≡ b
there_at m t q b was e = ap (λ x. is_some (record_in m x)) ((Decides-tran_eq q t).0 e) ∙ was

-- the record that was there
pub drops_one : (m : Records) (t : TranName) → is_some (record_in m t) ≡ true → AreDropped m (remove m t) (t ∷ [])
drops_one m t was q =
    one_gone (tran_eq q t) (record_in m q) (there_at m t q true was)
    ∙ ap (λ o. is_some (record_in m q) && is_none o) (gone_at m t q)

-- or none, where there was none
pub drops_none : (m : Records) (t : TranName) → is_some (record_in m t) ≡ false → AreDropped m (remove m t) []
drops_none m t was q =
    absent_gone (tran_eq q t) (record_in m q) (there_at m t q false was)
    ∙ ap (λ o. is_some (record_in m q) && is_none o) (gone_at m t q)

-- a key that doesn't pass is among those that don't, where it has an entry
among_others : {X : Type 0} (p : TranName → Bool) (t : TranName) (es : List (TranName × X))
    → list_any (tran_eq t) (filter (λ k. not (p k)) (keys_of es)) ≡ (is_some (lookup (tran_eq t) es) && not (p t))
among_others p t [] = refl
among_others p t (e ∷ es) = grind (arith, among_others p t es, tran_alike p t e.0)

-- all records but those of these transactions
pub drops_others : (trans : List TranName) (es : List (TranName × List Bool))
    → AreDropped (from_entries es) (retain_keys (from_entries es) (is_among trans)) (others trans es)
drops_others trans es q =
    let m : Records = from_entries es in
    let stays =
    get-retain_keys m (is_among trans) q (λ x e. ap (is_among trans) (sym (tran_cmp-IsAntisymmetric q x e))) in
    among_others (is_among trans) q es ∙ ap (λ o. is_some o && not (is_among trans q)) (sym (there es q))
    ∙ others_gone (is_among trans q) (record_in m q)
    ∙ ap (λ o. is_some (record_in m q) && is_none o) (sym stays)

-- the next of the entries that are left, whether it is among those
module _ {X : Type 0} (trans : List TranName) (e : TranName × X) (left rest : List (TranName × X))
    (next : left ≡ e ∷ rest) where
  pub others_next : is_among trans e.0 ≡ false → others trans left ≡ e.0 ∷ others trans rest
  others_next isnt = ap (others trans) next ∙ ap (λ b. cond (not b) (e.0 ∷ others trans rest) (others trans rest)) isnt

  pub others_past : is_among trans e.0 ≡ true → others trans left ≡ others trans rest
  others_past is = ap (others trans) next ∙ ap (λ b. cond (not b) (e.0 ∷ others trans rest) (others trans rest)) is
