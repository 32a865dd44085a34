-- Each step of a desk keeps its books; the map that a table of kept operations is; and a desk that has done nothing.
use Rattle.xa_base.proofs.{none_from, get_or_read, ◌≡◌, ◌≢◌, ℕ, suc, ◌+◌, ◌-◌, ◌<◌, ◌⊎◌, cond, nat_eq, is_some, List}
use Rattle.xa_base.proofs.{[], ◌∷◌, ◌++◌, length, Option, Some, None, get_or, sym, refl, ap, ◌∙◌, inl, inr, arith}
use Rattle.xa_base.proofs.{length-append, get_or-set_same, get_or-set_other, cases_eq, cases_lt, false≢true}
use Rattle.xa_base.proofs.{false_from_ne_true, option_or, and_parts, eqb-true, eq-eqb, zero, set, nat_cmp}
use Rattle.xa_base.proofs.{nat_cmp_total, eq_by_cmp, tied_true, tied_false, ◌*◌, Bool, replicate, get_or_past}
use Rattle.xa_base.proofs.{sum_by-set, sum_by-cons, IsSome, get_or-replicate, length-replicate}
use Rattle.slab.proofs.SlabLemmas.{ContainsKey-within, Updates-with_value}
use Rattle.xa_desk.proofs.Ledgers.{cases_operation, same_operation, sum_by-changed, collected-le-sent}
use Rattle.xa_desk.proofs.Ledgers.{collected-lt-sent, orderly_sent, orderly_collected, sent_now, ledger-sent_same}
use Rattle.xa_desk.proofs.Ledgers.{ledger-sent_other, sent_keeps_sent, sent_keeps_out, sent_now_out, sent_out_cases}
use Rattle.xa_desk.proofs.Ledgers.{unsent, known_before, collected_known, collected_out, collected_keeps_out}
use Rattle.xa_desk.proofs.Ledgers.{collected_keeps_sent, ledger-collected_same, ledger-collected_other}
use Rattle.xa_base.specs.{Begins}
use Rattle.std.proofs.lemmas.Bool.{and_from}
use Rattle.slab.specs.Slab.{Slab, get, slab_len, with_value, Updates, entries_from}
use Rattle.xa_words.specs.{Op, Completion, Code}
use Rattle.xa_desk.specs.{Operation, Slot, with_sent, with_collected, IsKnown, IsOut, ledger, no_ledger, after_sent}
use Rattle.xa_desk.specs.{after_collected, outstanding, drained_code, operation_of, HasSlot, IsBooks, ready_weight}
use Rattle.xa_desk.specs.{ready_count, collected_total, LedgerView, IsLeastFree, kept_of, new_ledgers, IsOrderly}
use Rattle.xa_desk.specs.{planned_total}
use Rattle.std.specs.List.{IsDistinct}
use Rattle.std.specs.FinMap as map

-- ---- each step of a desk keeps its books

module _ (s t : Slab Slot) (key : ℕ) where
  -- a value found after a change is the new one, or was there
  pub found_cases : (x : Slot) → Updates s t key (Some x) → (k : ℕ) (y : Slot) → get t k ≡ Some y
      → ((k ≡ key) × (x ≡ y)) ⊎ ((k ≢ key) × (get s k ≡ Some y))
  found_cases x u k y found = grind (arith, cases_eq)

  pub found_still : (o : Option Slot) → Updates s t key o → (k : ℕ) (y : Slot) → k ≢ key → get s k ≡ Some y
      → get t k ≡ Some y
  found_still o u k y differs found = u.others k differs ∙ found

  pub found_before : Updates s t key None → (k : ℕ) (y : Slot) → get t k ≡ Some y → (k ≢ key) × (get s k ≡ Some y)
  found_before u k y found = grind (arith, cases_eq)

  pub ready_count-changed : (o : Option Slot) → Updates s t key o
      → ready_count t + ready_weight (get s key) ≡ ready_count s + ready_weight o
  ready_count-changed o u = grind (arith, sum_by-changed)

pub key_apart : (s : Slab Slot) (key k : ℕ) (y : Slot) → get s key ≡ None → get s k ≡ Some y → k ≢ key
key_apart s key k y none found e = let no : None ≡ Some y = sym none ∙ ap (get s) (sym e) ∙ found in cc

-- the slot of an operation that was sent
abbrev pub fresh_slot : Operation → Slot
fresh_slot o = record { operation = o; code = None; handle = 0 }

-- sending

module _ (at : List LedgerView) (m : ℕ) (op : Op) (known : IsKnown at m) (s t : Slab Slot) (key : ℕ)
    (table : List (Option Operation))
    (drained : List Completion) where
  abbrev fresh : Slot
  fresh = fresh_slot (sent_now at m op known)

  pub books_sent : IsBooks at s table drained → length (ledger at m).sent < (ledger at m).plan → get s key ≡ None
      → Updates s t key (Some fresh)
      → slab_len t ≡ slab_len s + 1 → IsBooks (after_sent at m op) t table drained
  books_sent b room none u len = record {
    orderly = λ n k. let k' = known_before at m n (with_sent (ledger at m) op) k in elim (cases_eq n m) [
      | inl same ↦ rw (ledger-sent_same at m op known n same)
          (orderly_sent (ledger at n) op (b.orderly n k') (rw same room))
      | inr differs ↦ rw (ledger-sent_other at m op known n k'.positive differs) (b.orderly n k')
    ];
    slot_out = λ k y found. elim (found_cases s t key fresh u k y found) [
      | inl new ↦ rw (← new.1) (sent_now_out at m op known (b.orderly m known))
      | inr old ↦ sent_keeps_out at m op known y.operation (b.slot_out k y old.1)
    ];
    out_slot = λ o out. elim (sent_out_cases at m op known o out) [
      | inl new ↦ record { key = key; slot = fresh; found = u.changed; names = sym new }
      | inr old ↦ let h = b.out_slot o old in
          record {
            key = h.key;
            slot = h.slot;
            found =
                found_still s t key (Some fresh) u h.key h.slot (key_apart s key h.key h.slot none h.found) h.found;
            names =
                h.names;
          }
    ];
    one_slot = apart;
    count =
        let sums : outstanding (after_sent at m op) +
        (length (ledger at m).sent - length (ledger at m).collected) ≡ outstanding at +
        (length ((ledger at m).sent ++ op ∷ []) - length (ledger at m).collected) =
        sum_by-set (λ (a : LedgerView). length a.sent - length a.collected) at (m - 1) (with_sent (ledger at m) op)
        no_ledger (let h = known.within in let p = known.positive in omega arith) in
        omega (
          arith,
          collected-le-sent (ledger at m) (b.orderly m known),
          b.count,
          length-append (ledger at m).sent
              (op ∷ []),
        );
    handled = λ k y n found e. elim (found_cases s t key fresh u k y found) [
      | inl new ↦ let h : 0 ≡ suc n = ap (λ (z : Slot). z.handle) new.1 ∙ e in absurd (omega arith)
      | inr old ↦ b.handled k y n old.1 e
    ];
    tabled = λ n o e. let h = b.tabled n o e in
        record {
          key = h.key;
          slot = h.slot;
          found = found_still s t key (Some fresh) u h.key h.slot (key_apart s key h.key h.slot none h.found) h.found;
          names = h.names;
          handle = h.handle;
        };
    coded = λ k y found. elim (found_cases s t key fresh u k y found) [
      | inl new ↦ rw (← new.1)
          (sym (none_from (drained_code (sent_now at m op known) drained)
          (λ code e. unsent at m op known (sent_now at m op known) (b.drained_sent (sent_now at m op known) code e)
          refl)))
      | inr old ↦ b.coded k y old.1
    ];
    drained_sent = λ o code e. sent_keeps_sent at m op known o (b.drained_sent o code e);
    drained_count =
        let sums : collected_total (after_sent at m op) + length (ledger at m).collected ≡ collected_total at + length
        (ledger at m).collected =
        sum_by-set (λ (a : LedgerView). length a.collected) at (m - 1) (with_sent (ledger at m) op) no_ledger
        (let h = known.within in let p = known.positive in omega arith) in
        let ready : ready_count t + ready_weight (get s key) ≡ ready_count s + 0 =
        ready_count-changed s t key (Some fresh) u in
        omega (arith, ap ready_weight none, b.drained_count);
  }
    where
      never : (k : ℕ) (y : Slot) → get s k ≡ Some y → y.operation ≢ sent_now at m op known
      never k y found e =
          let o = b.slot_out k y found in unsent at m op known y.operation (record { known = o.known; sent = o.sent }) e

      apart : (j k : ℕ) (x y : Slot) → get t j ≡ Some x → get t k ≡ Some y → x.operation ≡ y.operation → j ≡ k
      apart j k x y fx fy e = grind (arith, found_cases, never, b.one_slot)

pub same_slot : (s : Slab Slot) (key k : ℕ) (x y : Slot) → get s key ≡ Some x → get s k ≡ Some y → k ≡ key → y ≡ x
same_slot s key k x y fx fy e = let both : Some y ≡ Some x = sym fy ∙ ap (get s) e ∙ fx in cc

-- draining

module _ (o : Operation) where
  drained_code-append : (cs ds : List Completion)
      → drained_code o (cs ++ ds) ≡ option_or (drained_code o cs) (drained_code o ds)
  drained_code-append [] ds = refl
  drained_code-append (d ∷ cs) ds = grind (arith, drained_code-append cs ds, option_or)

  pub drained_code-push_other : (cs : List Completion) (c : Completion) → o ≢ operation_of c
      → drained_code o (cs ++ c ∷ []) ≡ drained_code o cs
  drained_code-push_other cs c differs =
      grind (arith, false_from_ne_true, drained_code-append, option_or, nat_eq, and_parts, same_operation, eqb-true)

  pub drained_code-push_first : (cs : List Completion) (c : Completion) → o ≡ operation_of c → drained_code o cs ≡ None
      → drained_code o (cs ++ c ∷ []) ≡ Some c.code
  drained_code-push_first cs c same none = grind (arith, drained_code-append, option_or, and_from, nat_eq, eq-eqb)

-- what was drained stays so
pub drained_on : (old new : List Completion) → Begins old new → (o : Operation) (code : Code)
    → drained_code o old ≡ Some code → drained_code o new ≡ Some code
drained_on old new more o code some =
    ap (drained_code o) more.1 ∙ drained_code-append o old more.0 ∙ ap (λ x. option_or x (drained_code o more.0)) some

-- keeping and freeing: a slot's handle goes from one number to another, and the table with it
pub record Rehandles (old new : List (Option Operation)) (from to : ℕ) (o : Operation) : Type 0 where
  pub vacant : (n : ℕ) → from ≢ suc n → to ≡ suc n → get_or old n None ≡ None
  pub filled : (n : ℕ) → to ≡ suc n → get_or new n None ≡ Some o
  pub freed : (n : ℕ) → from ≡ suc n → to ≢ suc n → get_or new n None ≡ None
  pub rest : (n : ℕ) → from ≢ suc n → to ≢ suc n → get_or new n None ≡ get_or old n None

-- draining: a slot's code goes from one to another, and what was drained with it
pub record Redrains (old new : List Completion) (from to : Option Code) (o : Operation) : Type 0 where
  pub own : to ≡ drained_code o new
  pub rest : (p : Operation) → p ≢ o → drained_code p new ≡ drained_code p old
  pub count : length new + cond (is_some from) 1 0 ≡ length old + cond (is_some to) 1 0

-- the slot at a key changes its code or its handle, and keeps its operation
module _ (at : List LedgerView) (s t : Slab Slot) (key : ℕ) (slot x : Slot) (old new : List (Option Operation))
    (drained drained' : List Completion)
    (b : IsBooks at s old drained) (there : get s key ≡ Some slot) (u : Updates s t key (Some x))
    (keeps : slot.operation ≡ x.operation) where
  changed_out : (k : ℕ) (y : Slot) → get t k ≡ Some y → IsOut at y.operation
  changed_out k y found = search (arith, found_cases)

  changed_has : (o : Operation) → IsOut at o → HasSlot t o
  changed_has o out = search (arith, cases_eq, same_slot, found_still)

  changed_one : (j k : ℕ) (y z : Slot) → get t j ≡ Some y → get t k ≡ Some z → y.operation ≡ z.operation → j ≡ k
  changed_one j k y z fy fz e = grind (arith, found_cases)

  -- another slot has another operation
  changed_apart : (k : ℕ) (y : Slot) → k ≢ key → get s k ≡ Some y → y.operation ≢ slot.operation
  changed_apart k y differs found e = differs (b.one_slot k key y slot found there e)

  pub books_changed : Rehandles old new slot.handle x.handle slot.operation
      → Redrains drained drained' slot.code x.code slot.operation
      → slab_len t ≡ slab_len s → IsBooks at t new drained'
  books_changed r d len = record {
    orderly = b.orderly;
    slot_out = changed_out;
    out_slot = changed_has;
    one_slot = changed_one;
    count = len ∙ b.count;
    handled = search (arith, found_cases, changed_apart);
    tabled = λ n o e. elim (cases_eq x.handle (suc n)) [
      | inl here ↦ let both : Some slot.operation ≡ Some o = sym (r.filled n here)
          ∙ e in record { key = key; slot = x; found = u.changed; names = cc; handle = here }
      | inr away ↦ elim (cases_eq slot.handle (suc n)) [
        | inl left ↦ let no_one : None ≡ Some o = sym (r.freed n left away) ∙ e in absurd cc
        | inr apart ↦
            let h = b.tabled n o (sym (r.rest n apart away) ∙ e) in
            let differs : h.key ≢ key =
            λ same. apart
            (sym (ap (λ (z : Slot). z.handle) (same_slot s key h.key slot h.slot there h.found same))
            ∙ h.handle) in
            record {
              key = h.key;
              slot = h.slot;
              found = found_still s t key (Some x) u h.key h.slot differs h.found;
              names = h.names;
              handle = h.handle;
            }
      ]
    ];
    coded = λ k y found. elim (found_cases s t key x u k y found) [
      | inl fresh ↦ ap (λ (z : Slot). z.code) (sym fresh.1) ∙ d.own
          ∙ ap (λ p. drained_code p drained') (keeps ∙ ap (λ (z : Slot). z.operation) fresh.1)
      | inr was ↦ b.coded k y was.1 ∙ sym (d.rest y.operation (changed_apart k y was.0 was.1))
    ];
    drained_sent = λ o code e. elim (cases_operation o slot.operation) [
      | inl same ↦ let out = b.slot_out key slot there in rw same (record { known = out.known; sent = out.sent })
      | inr differs ↦ b.drained_sent o code (sym (d.rest o differs) ∙ e)
    ];
    drained_count =
        let ready : ready_count t + ready_weight (get s key) ≡ ready_count s + cond (is_some x.code) 1 0 =
        ready_count-changed s t key (Some x) u in
        omega (arith, ap ready_weight there, b.drained_count, d.count);
  }

-- the handle stays
rehandles_none : (at : List LedgerView) (s : Slab Slot) (key : ℕ) (slot : Slot) (table : List (Option Operation))
    (drained : List Completion)
    → IsBooks at s table drained → get s key ≡ Some slot → Rehandles table table slot.handle slot.handle slot.operation
rehandles_none at s key slot table drained b there =
    record {
      vacant = λ n f e. absurd (f e);
      filled = λ n e. b.handled key slot n there e;
      freed = λ n e f. absurd (f e);
      rest = λ n e f. refl;
    }

module _ (at : List LedgerView) (s t : Slab Slot) (key : ℕ) (slot : Slot) (table : List (Option Operation))
    (drained : List Completion) (c : Completion) where
  abbrev pub answered : Slot
  answered = record slot { code = Some c.code }

  pub books_drained : IsBooks at s table drained → get s key ≡ Some slot → slot.code ≡ None
      → slot.operation ≡ operation_of c → Updates s t key (Some answered)
      → slab_len t ≡ slab_len s → IsBooks at t table (drained ++ c ∷ [])
  books_drained b there waiting named u =
      books_changed at s t key slot answered table table drained (drained ++ c ∷ []) b there u refl
      (rehandles_none at s key slot table drained b there) (record {
        own = sym (drained_code-push_first slot.operation drained c named (sym (b.coded key slot there) ∙ waiting));
        rest = λ p differs. drained_code-push_other p drained c (λ e. differs (e ∙ sym named));
        count = rw waiting (omega (arith, length-append drained (c ∷ [])));
      })

module _ (at : List LedgerView) (s t : Slab Slot) (key : ℕ) (slot : Slot) (handle : ℕ)
    (old new : List (Option Operation)) (drained : List Completion) where
  abbrev pub rehandled : Slot
  rehandled = record slot { handle = handle }

  pub books_rehandled : IsBooks at s old drained → get s key ≡ Some slot
      → Rehandles old new slot.handle handle slot.operation
      → Updates s t key (Some rehandled) → slab_len t ≡ slab_len s → IsBooks at t new drained
  books_rehandled b there r u =
      books_changed at s t key slot rehandled old new drained drained b there u refl r
      (record { own = b.coded key slot there; rest = λ p differs. refl; count = refl })

-- collecting

module _ (at : List LedgerView) (s t : Slab Slot) (key : ℕ) (slot : Slot) (code : Code)
    (table : List (Option Operation)) (drained : List Completion) where
  pub books_collected : IsBooks at s table drained → get s key ≡ Some slot → slot.code ≡ Some code → slot.handle ≡ 0
      → Updates s t key None
      → slab_len t + 1 ≡ slab_len s → IsBooks (after_collected at slot.operation code) t table drained
  books_collected b there ready_code loose u len =
      let out = b.slot_out key slot there in
      let o = slot.operation in
      let within : o.manager - 1 < length at =
      (let w = out.known.within in let p = out.known.positive in omega arith) in
      let fewer : length (ledger at o.manager).collected < length (ledger at o.manager).sent =
      collected-lt-sent (ledger at o.manager) o.number code (b.orderly o.manager out.known) out.sent out.open_ in
      let differs : (k : ℕ) (y : Slot) → k ≢ key → get s k ≡ Some y → y.operation ≢ o =
      λ k y apart found e. apart (b.one_slot k key y slot found there e) in
      record {
        orderly = λ n k. let k' = collected_known at o code out.known n k in elim (cases_eq n o.manager) [
          | inl same ↦ rw (ledger-collected_same at o code out.known n same)
              (orderly_collected (ledger at n) o.number code (b.orderly n k') (rw same out.sent) (rw same out.open_))
          | inr apart ↦ rw (ledger-collected_other at o code out.known n k'.positive apart) (b.orderly n k')
        ];
        slot_out = λ k y found. let p = found_before s t key u k y found in collected_keeps_out at o code out.known
            y.operation (b.slot_out k y p.1) (differs k y p.0 p.1);
        out_slot = λ q is.
            let p = collected_out at o code out.known q is in
            let h = b.out_slot q p.0 in
            let apart : h.key ≢ key =
            λ same. p.1
            (sym h.names
            ∙ ap (λ (z : Slot). z.operation) (same_slot s key h.key slot h.slot there h.found same)) in
            record {
              key = h.key;
              slot = h.slot;
              found = found_still s t key None u h.key h.slot apart h.found;
              names = h.names;
            };
        one_slot = λ j k x y fx fy e. b.one_slot j k x y (found_before s t key u j x fx).1
            (found_before s t key u k y fy).1 e;
        count =
            let sums : outstanding (after_collected at o code) +
            (length (ledger at o.manager).sent - length (ledger at o.manager).collected) ≡ outstanding at +
            (length (ledger at o.manager).sent - length
            ((ledger at o.manager).collected ++ (o.number, code) ∷ [])) =
            sum_by-set (λ (a : LedgerView). length a.sent - length a.collected) at (o.manager - 1)
            (with_collected (ledger at o.manager) o.number code) no_ledger within in
            omega (arith, b.count, length-append (ledger at o.manager).collected ((o.number, code) ∷ []));
        handled = λ k y n found e. b.handled k y n (found_before s t key u k y found).1 e;
        tabled = λ n q e.
            let h = b.tabled n q e in
            let apart : h.key ≢ key =
            λ same. let zero_is : 0 ≡ suc n = sym loose
            ∙ sym (ap (λ (z : Slot). z.handle) (same_slot s key h.key slot h.slot there h.found same)) ∙ h.handle in
            absurd (omega arith) in
            record {
              key = h.key;
              slot = h.slot;
              found = found_still s t key None u h.key h.slot apart h.found;
              names = h.names;
              handle = h.handle;
            };
        coded = λ k y found. b.coded k y (found_before s t key u k y found).1;
        drained_sent = λ q c e. collected_keeps_sent at o code out.known q (b.drained_sent q c e);
        drained_count =
            let sums : collected_total (after_collected at o code) + length
            (ledger at o.manager).collected ≡ collected_total at + length
            ((ledger at o.manager).collected ++ (o.number, code) ∷ []) =
            sum_by-set (λ (a : LedgerView). length a.collected) at (o.manager - 1)
            (with_collected (ledger at o.manager) o.number code) no_ledger within in
            let ready : ready_count t + ready_weight (get s key) ≡ ready_count s + 0 =
            ready_count-changed s t key None u in
            let one : ready_weight (get s key) ≡ 1 =
            ap ready_weight there ∙ ap (λ (x : Option Code). cond (is_some x) 1 0) ready_code in
            omega (arith, b.drained_count, length-append (ledger at o.manager).collected ((o.number, code) ∷ []));
      }

-- a completion that is collected as it is taken: as if its code had been entered into the slot first
module _ (at : List LedgerView) (s t : Slab Slot) (key : ℕ) (slot : Slot) (table : List (Option Operation))
    (drained : List Completion) (c : Completion) where
  pub books_taken : IsBooks at s table drained → get s key ≡ Some slot → slot.code ≡ None
      → slot.operation ≡ operation_of c → slot.handle ≡ 0
      → Updates s t key None → slab_len t + 1 ≡ slab_len s
      → IsBooks (after_collected at slot.operation c.code) t table (drained ++ c ∷ [])
  books_taken b there waiting named loose u len =
      let coded : Slot = record slot { code = Some c.code } in
      let mid : Slab Slot = with_value s key coded in
      let within : key < length s.slots = ContainsKey-within s key (rw there) in
      let now = Updates-with_value s key coded (rw there) in
      let sums : slab_len mid + cond {A = ℕ} (is_some (get s key)) 1 0 ≡ slab_len s + 1 =
      sum_by-set (λ (x : Option Slot). cond {A = ℕ} (is_some x) 1 0) s.slots key (Some coded) None within in
      let one : cond {A = ℕ} (is_some (get s key)) 1 0 ≡ 1 =
      ap (λ (x : Option Slot). cond {A = ℕ} (is_some x) 1 0) there in
      let count : slab_len mid ≡ slab_len s = omega arith in
      let drains = books_drained at s mid key slot table drained c b there waiting named now count in
      books_collected at mid t key coded c.code table (drained ++ c ∷ []) drains now.changed refl loose
      (record { changed = u.changed; others = λ k differs. u.others k differs ∙ sym (now.others k differs) })
      (len ∙ sym count)

-- ---- the map that a table of kept operations is

find_below : (k q : ℕ) (table : List (Option Operation)) → q < k → map.find nat_cmp q (entries_from k table) ≡ None
find_below k q [] below = refl
find_below k q (None ∷ rest) below = find_below (k + 1) q rest (omega arith)
find_below k q (Some o ∷ rest) below = grind (arith, find_below (k + 1) q rest (omega arith), nat_cmp, tied_false)

find_at : (k j : ℕ) (table : List (Option Operation))
    → map.find nat_cmp (k + j) (entries_from k table) ≡ get_or table j None
find_at k j [] = refl
find_at k zero (None ∷ rest) = find_below (k + 1) (k + 0) rest (omega arith)
find_at k (suc j) (None ∷ rest) = let shift : k + suc j ≡ k + 1 + j = omega arith in rw shift (find_at (k + 1) j rest)
find_at k zero (Some o ∷ rest) =
    ap (λ b. cond b (Some o) (map.find nat_cmp (k + 0) (entries_from (k + 1) rest))) (tied_true (k + 0) k (omega arith))
find_at k (suc j) (Some o ∷ rest) = grind (arith, find_at (k + 1) j rest, nat_cmp, tied_false)

pub get-kept_of : (table : List (Option Operation)) (j number : ℕ) → number ≡ suc j
    → map.get (kept_of table) number ≡ get_or table j None
get-kept_of table j number e =
    let shift : suc j ≡ 1 + j = omega arith in
    rw (e, shift) (map.get-from_entries nat_cmp_total (entries_from 1 table) (1 + j) ∙ find_at 1 j table)

pub get-kept_of_zero : (table : List (Option Operation)) → map.get (kept_of table) 0 ≡ None
get-kept_of_zero table =
    map.get-from_entries nat_cmp_total (entries_from 1 table) 0 ∙ find_below 1 0 table (omega arith)

module _ (table : List (Option Operation)) (j number : ℕ) (is : number ≡ suc j) (within : j < length table) where
  -- a map that is changed at the number alone is that of a table that is changed at the place
  kept_of-set : (x : Option Operation) (m : map.FinMap nat_cmp Operation)
      → ((q : ℕ) → map.get m q ≡ cond (eq_by_cmp nat_cmp q number) x (map.get (kept_of table) q))
      → kept_of (set table j x) ≡ m
  kept_of-set x m changed = map.same_map nat_cmp_total map.nat_cmp-IsAntisymmetric _ _ at_each
    where
      at_each : (q : ℕ) → map.get (kept_of (set table j x)) q ≡ map.get m q
      at_each zero = grind (arith, get-kept_of_zero, (changed 0), tied_false)
      at_each (suc q) =
          grind (
            arith,
            (get-kept_of (set table j x) q (suc q) refl),
            (get-kept_of table q (suc q) refl),
            (changed (suc q)),
            cases_eq,
            tied_true,
            tied_false,
            get_or-set_same,
            get_or-set_other,
          )

  pub kept_of-insert : (o : Operation) → kept_of (set table j (Some o)) ≡ map.insert (kept_of table) number o
  kept_of-insert o =
      kept_of-set (Some o) (map.insert (kept_of table) number o) (map.get-insert nat_cmp_total (kept_of table) number o)

  pub kept_of-remove : kept_of (set table j None) ≡ map.remove (kept_of table) number
  kept_of-remove =
      kept_of-set None (map.remove (kept_of table) number) (map.get-remove nat_cmp_total (kept_of table) number)

pub get-kept_of_past : (table : List (Option Operation)) (number : ℕ) → length table < number
    → map.get (kept_of table) number ≡ None
get-kept_of_past table number past =
    let is : number ≡ suc (number - 1) = omega arith in
    get-kept_of table (number - 1) number is ∙ get_or_past table (number - 1) None (omega arith)

-- what is kept under a number
pub ruleset kept_of_rules = (get_or_read, get-kept_of, get-kept_of_past)

-- where the operation of a kept number stands
pub record KeptPlace (table : List (Option Operation)) (number : ℕ) (o : Operation) : Type 0 where
  pub is : number ≡ suc (number - 1)
  pub within : number - 1 < length table
  pub there : get_or table (number - 1) None ≡ Some o

pub kept_place : (table : List (Option Operation)) (number : ℕ) (o : Operation)
    → map.get (kept_of table) number ≡ Some o → KeptPlace table number o
kept_place table zero o e = absurd (let no : None ≡ Some o = sym (get-kept_of_zero table) ∙ e in cc)
kept_place table (suc j) o e =
    let is : suc j ≡ suc (suc j - 1) = omega arith in
    let there : get_or table (suc j - 1) None ≡ Some o = sym (get-kept_of table (suc j - 1) (suc j) is) ∙ e in
    record { is = is; within = grind (arith, cases_lt, get_or_past); there = there }

module _ (at : List LedgerView) (s : Slab Slot) (key : ℕ) (slot : Slot) (table : List (Option Operation))
    (drained : List Completion)
    (b : IsBooks at s table drained) (there : get s key ≡ Some slot) where
  -- a slot whose operation no number has isn't kept
  pub loose_handle : (o : Operation) → slot.operation ≡ o → ((k : ℕ) → map.get (kept_of table) k ≢ Some o)
      → slot.handle ≡ 0
  loose_handle o named loose = from slot.handle refl
    where
      from : (h : ℕ) → slot.handle ≡ h → slot.handle ≡ 0
      from zero e = e
      from (suc n) e =
          absurd (loose (suc n) (get-kept_of table n (suc n) refl ∙ b.handled key slot n there e ∙ ap Some named))

  -- what a slot's handle is, where its operation is kept
  pub kept_handle : (number : ℕ) → KeptPlace table number slot.operation → slot.handle ≡ number
  kept_handle number p =
      let h = b.tabled (number - 1) slot.operation p.there in
      let same =
      same_slot s key h.key slot h.slot there h.found (b.one_slot h.key key h.slot slot h.found there h.names) in
      sym (ap (λ (z : Slot). z.handle) same) ∙ h.handle ∙ sym p.is

  -- an operation that isn't kept has no number
  pub loose_from_handle : (o : Operation) → slot.operation ≡ o → slot.handle ≡ 0 → (k : ℕ)
      → map.get (kept_of table) k ≢ Some o
  loose_from_handle o named zero_handle k e = grind (arith, kept_place, kept_handle)

pub rehandles_release : (table : List (Option Operation)) (number : ℕ) (o : Operation) → KeptPlace table number o
    → Rehandles table (set table (number - 1) None) number 0 o
rehandles_release table number o p = search (arith, get_or-set_same, get_or-set_other)

pub rehandles_keep : (table : List (Option Operation)) (j : ℕ) (o : Operation) → j < length table
    → get_or table j None ≡ None
    → Rehandles table (set table j (Some o)) 0 (suc j) o
rehandles_keep table j o within free = search (arith, get_or-set_same, get_or-set_other)

pub least_free : (table : List (Option Operation)) (j : ℕ) → get_or table j None ≡ None
    → ((k : ℕ) → k < j → IsSome (get_or table k None))
    → IsLeastFree (kept_of table) (j + 1)
least_free table j free taken = record {
  positive = omega arith;
  free = get-kept_of table j (j + 1) (omega arith) ∙ free;
  least = λ k positive below. rw (get-kept_of table (k - 1) k (omega arith)) (taken (k - 1) (omega arith));
}

-- ---- a desk that has done nothing keeps its books

-- of nothing was anything sent or collected
pub fresh_sent : (requests : ℕ) (use_async : List Bool) (i : ℕ)
    → (get_or (new_ledgers requests use_async) i no_ledger).sent ≡ []
fresh_sent requests [] i = refl
fresh_sent requests (b ∷ bs) i = grind (arith, fresh_sent requests bs (i - 1))

pub fresh_collected : (requests : ℕ) (use_async : List Bool) (i : ℕ)
    → (get_or (new_ledgers requests use_async) i no_ledger).collected ≡ []
fresh_collected requests [] i = refl
fresh_collected requests (b ∷ bs) i = grind (arith, fresh_collected requests bs (i - 1))

pub nothing_out : (requests : ℕ) (use_async : List Bool) → outstanding (new_ledgers requests use_async) ≡ 0
nothing_out requests [] = refl
nothing_out requests (b ∷ bs) = grind (arith, nothing_out requests bs, sum_by-cons)

nothing_collected : (requests : ℕ) (use_async : List Bool) → collected_total (new_ledgers requests use_async) ≡ 0
nothing_collected requests [] = refl
nothing_collected requests (b ∷ bs) = grind (arith, nothing_collected requests bs, sum_by-cons)

pub planned-new : (requests : ℕ) (use_async : List Bool)
    → planned_total (new_ledgers requests use_async) ≡ requests * length use_async
planned-new requests [] = grind arith
planned-new requests (b ∷ bs) = search (arith, planned-new requests bs, sum_by-cons)

orderly_empty : (a : LedgerView) → a.sent ≡ [] → a.collected ≡ [] → IsOrderly a
unfolding IsDistinct
orderly_empty a s c =
    record { planned = rw s (omega arith); distinct = rw c no_numbers; below = λ n e. absurd (false≢true (rw c at e)) }
  where
    no_numbers : IsDistinct nat_eq []
    no_numbers = tt

abbrev no_op : Option Operation
no_op = None

pub no_operation : (n k : ℕ) → get_or (replicate n no_op) k None ≡ None
no_operation n k = grind (arith, cases_lt, get_or-replicate, get_or_past, length-replicate)

pub kept_of-replicate : (n : ℕ) → kept_of (replicate n None) ≡ map.empty
kept_of-replicate n = map.same_map nat_cmp_total map.nat_cmp-IsAntisymmetric _ _ (at_each)
  where
    at_each : (q : ℕ) → map.get (kept_of (replicate n None)) q ≡ map.get (map.empty {X = Operation} {R = nat_cmp}) q
    at_each zero = get-kept_of_zero (replicate n None) ∙ sym (map.get-empty nat_cmp 0)
    at_each (suc q) =
        get-kept_of (replicate n None) q (suc q) refl ∙ no_operation n q ∙ sym (map.get-empty nat_cmp (suc q))

pub books_new : (requests : ℕ) (use_async : List Bool) (s : Slab Slot) (n : ℕ) → s.slots ≡ []
    → IsBooks (new_ledgers requests use_async) s (replicate n None) []
books_new requests use_async s n empty = record {
  orderly = λ m known. orderly_empty (ledger (new_ledgers requests use_async) m) (fresh_sent requests use_async (m - 1))
      (fresh_collected requests use_async (m - 1));
  slot_out = λ key slot found. absurd (none key slot found);
  out_slot = λ o out. let sent : o.number < length
      (ledger (new_ledgers requests use_async) o.manager).sent = out.sent in let nothing = fresh_sent requests use_async
      (o.manager - 1) in absurd (let h : o.number < 0 = rw nothing at sent in omega arith);
  one_slot = λ j k x y fx fy e. absurd (none j x fx);
  count = rw empty (sym (nothing_out requests use_async));
  handled = λ key slot k found e. absurd (none key slot found);
  tabled = λ k o e. let no : None ≡ Some o = sym (no_operation n k) ∙ e in absurd cc;
  coded = λ key slot found. absurd (none key slot found);
  drained_sent = λ o code e. let no : None ≡ Some code = e in absurd cc;
  drained_count = let c : collected_total (new_ledgers requests use_async) ≡ 0 = nothing_collected requests use_async in
      let r : ready_count s ≡ 0 = rw empty in omega arith;
}
  where
    none : (key : ℕ) (slot : Slot) → get s key ≡ Some slot → ⊥
    none key slot found = let no : None ≡ Some slot = sym (ap (λ slots. get_or slots key None) empty) ∙ found in cc
