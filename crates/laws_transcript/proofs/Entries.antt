-- What a thread has sent to a manager and collected from it, as the manager's journal has it; and what its calls do to
-- its desk.
use Rattle.xa_base.proofs.{rules, ◌≡◌, ◌<◌, ◌≤◌, ℕ, Bool, List, [], ◌∷◌, length, Some, sym, ap, refl, arith}
use Rattle.xa_base.proofs.{length-append, All, All-push, by_if, ◌+◌, ◌-◌, ⊎_elim, suc, true, false, cond, ◌==◌, ◌++◌}
use Rattle.xa_base.proofs.{map, take, ◌∙◌, append_assoc, slice_get, if◌then◌else◌, Contains, cases_lt, length-map}
use Rattle.xa_base.proofs.{All-contains, Contains-append_left, slice_get_within, slice_get-get_or, contains_at, got_map}
use Rattle.xa_base.proofs.{one_more, was_mapped, by_bool, get_or-take, Contains-push, Any-from_list_any}
use Rattle.xa_base.proofs.{get_or_from_slice_get, some_pair_parts}
use Rattle.xa_words.specs.{Code, Op, RmFail, Request}
use Rattle.xa_desk.specs.{Operation, HaveGrown, learnt_shut, with_sent, with_collected, IsKnown, IsOut, ledger}
use Rattle.xa_desk.specs.{next_operation, after_sent, after_collected, LedgerView, DeskView, is_rm_fail, is_known}
use Rattle.xa_desk.specs.{sent_to, collected_from, HasGrown, numbered}
use Rattle.xa_desk.proofs.Ledgers.{growing_on, sending_grows, collecting_grows, put_each, known_true, past_end}
use Rattle.xa_desk.proofs.Ledgers.{ledger-collected_same}
use Rattle.xa_calls.proofs.Effects.{HasAsked}
use Rattle.xa_driver.specs.{PutsLedger, AsksLedger}
use Rattle.std.proofs.lemmas.List.{length-take-le}
use Rattle.xa_base.specs.{Begins}
use Rattle.xa_tables.specs.{of_thread}
use Rattle.xa_worker.specs.{Entry, entry, requests, codes_in}
use Rattle.xa_switch.specs.{Agree}
use Rattle.xa_driver.proofs.Requests.{numbered_length}
use Rattle.laws_transcript.specs.{next_entry, entries_of}

-- ---- that each request that was collected was sent, as a thread goes on, and what its calls do to its ledgers and its
-- handles

abbrev pub Sound : LedgerView → Type 0
Sound a = All (λ p. p.0 < length a.sent) a.collected

-- so with each manager
abbrev pub AllSound : List LedgerView → Type 0
AllSound at = (m : ℕ) → 1 ≤ m → Sound (ledger at m)

sent_sound : (a : LedgerView) (op : Op) → Sound a → Sound (with_sent a op)
sent_sound a op all k d lt = let before = all k d lt in omega (arith, before, length-append a.sent (op ∷ []))

collected_sound : (a : LedgerView) (n : ℕ) (c : Code) → n < length a.sent → Sound a → Sound (with_collected a n c)
collected_sound a n c sent all = All-push (λ (p : ℕ × Code). p.0 < length a.sent) a.collected (n, c) all sent

pub ask_sound : (a a' : LedgerView) (op : Op) (c : Code) → AsksLedger a op a' c → Sound a → Sound a'
ask_sound a a' op c asks all =
    rw asks.trace
    (by_if Sound (learnt_shut a) a (with_collected (with_sent a op) (length a.sent) c) (λ _. all)
    (λ _. collected_sound (with_sent a op) (length a.sent) c (omega (arith, length-append a.sent (op ∷ [])))
    (sent_sound a op all)))

pub put_sound : (a a' : LedgerView) (op : Op) → PutsLedger a op a' → Sound a → Sound a'
put_sound a a' op (PutsLedger.sent open_ is) all = rw is (sent_sound a op all)
put_sound a a' op (PutsLedger.withheld shut same) all = rw same all

pub sending_sound : (at : List LedgerView) (m : ℕ) (op : Op) → AllSound at → AllSound (after_sent at m op)
sending_sound at m op all n low =
    put_each (λ a b. Sound a → Sound b) (λ a sound. sound) at m (with_sent (ledger at m) op)
    (sent_sound (ledger at m) op) n (all n low)

pub collecting_sound : (at : List LedgerView) (o : Operation) (c : Code) → IsOut at o → AllSound at
    → AllSound (after_collected at o c)
collecting_sound at o c out all n low =
    put_each (λ a b. Sound a → Sound b) (λ a sound. sound) at o.manager
    (with_collected (ledger at o.manager) o.number c)
    (collected_sound (ledger at o.manager) o.number c out.sent) n (all n low)

-- what is collected sends nothing
pub collecting_sends_none : (at new : List LedgerView) (o : Operation) (c : Code) → new ≡ after_collected at o c
    → (m : ℕ)
    → (ledger new m).sent ≡ (ledger at m).sent
collecting_sends_none at new o c is m =
    rw is
    (put_each (λ a b. b.sent ≡ a.sent) (λ a. refl) at o.manager (with_collected (ledger at o.manager) o.number c)
    refl m)

-- what was collected last is among all that was
pub collected_there : (pre now all : List (ℕ × Code)) (p : ℕ × Code) → now ≡ pre ++ p ∷ [] → Begins now all
    → Contains all p
collected_there pre now all p is begins =
    rw begins.1 (Contains-append_left now begins.0 p (rw is (Contains-push pre p)))

pub collected_at : (at new last : List LedgerView) (o : Operation) (c : Code) → IsKnown at o.manager
    → new ≡ after_collected at o c
    → Begins (ledger new o.manager).collected (ledger last o.manager).collected
    → Contains (ledger last o.manager).collected (o.number, c)
collected_at at new last o c known is begins =
    collected_there (ledger at o.manager).collected (ledger new o.manager).collected (ledger last o.manager).collected
    (o.number, c)
    (ap (λ (l : List LedgerView). (ledger l o.manager).collected) is
    ∙ ap (λ (a : LedgerView). a.collected) (ledger-collected_same at o c known o.manager refl)) begins

-- ---- what is asked at a desk

pub asking_grows : (m : ℕ) (op : Op) (c : Code) (old new : DeskView) → HasAsked m op c old new
    → HaveGrown old.ledgers new.ledgers
asking_grows m op c old new is =
    let mid = after_sent old.ledgers m op in
    let o = next_operation old.ledgers m in
    rw is.ledgers
    (growing_on old.ledgers mid (after_collected mid o c) (sending_grows old.ledgers m op)
    (collecting_grows mid o c))

pub asking_sound : (m : ℕ) (op : Op) (c : Code) (old new : DeskView) → HasAsked m op c old new → AllSound old.ledgers
    → AllSound new.ledgers
asking_sound m op c old new is all =
    rw is.ledgers
    (collecting_sound (after_sent old.ledgers m op) (next_operation old.ledgers m) c is.out
    (sending_sound old.ledgers m op all))

-- ---- what a thread has sent to a manager and collected from it, as the manager's journal has it: the entries of a
-- thread

requests_step : (e : Entry) (rs : List Request) (es : List Entry) (b : Bool) → rs ≡ map (λ (e : Entry). e.0) es
    → cond b (e.0 ∷ rs) rs ≡ map (λ (e : Entry). e.0) (cond b (e ∷ es) es)
requests_step e rs es b same = search (arith, rules)

pub requests_kept : (t : ℕ) (es : List Entry) → of_thread t (requests es) ≡ map (λ e. e.0) (entries_of t es)
requests_kept t [] = refl
requests_kept t (e ∷ es) =
    requests_step e (of_thread t (requests es)) (entries_of t es) (e.0.thread == t) (requests_kept t es)

-- a number of an entry with its code
abbrev pub pair_of : Entry → ℕ × Code
pair_of e = (e.0.number, e.1)

-- the code stands at its number
abbrev pub StandsAt : List Entry → ℕ × Code → Type 0
StandsAt es p = slice_get (map pair_of es) p.0 ≡ Some p

-- what agrees: the entries are what was sent, in order, and each code that was collected stands at its number
pub record Fits (t : ℕ) (ops : List Op) (pairs : List (ℕ × Code)) (es : List Entry) : Type 0 where
  pub carried : map (λ e. e.0) es ≡ numbered t 0 ops
  pub coded : All (StandsAt es) pairs

pub agreed_fits : (t : ℕ) (ops : List Op) (pairs : List (ℕ × Code)) (entries : List Entry) → Agree t ops pairs entries
    → Fits t ops pairs (entries_of t entries)
agreed_fits t ops pairs entries is = record { carried = sym (requests_kept t entries) ∙ is.carried; coded = is.coded }

-- so of the ledger with a manager
pub ledger_fits : (t m : ℕ) (at : List LedgerView) (es : List Entry) → 1 ≤ m
    → Fits t (sent_to at m) (collected_from at m) es
    → Fits t (ledger at m).sent (ledger at m).collected es
ledger_fits t m at es low fits =
    let FitsBy : Bool → Type 0 =
    λ b. Fits t (if b then (ledger at m).sent else []) (if b then (ledger at m).collected else []) es in
    by_bool (λ b. FitsBy b → Fits t (ledger at m).sent (ledger at m).collected es) (is_known at m) (λ _ f. f)
    (λ unknown f. rw (past_end at (m - 1) (past unknown)) f) fits
  where
    past : is_known at m ≡ false → length at ≤ m - 1
    past unknown =
        ⊎_elim (λ (h : length at < m). omega (arith, h))
        (λ (h : m ≤ length at). absurd
        (let z : true ≡ false = sym (known_true at m (record { positive = low; within = h })) ∙ unknown in cc))
        (cases_lt (length at) m)

-- where nothing was sent there is no entry
pub no_entries : (t : ℕ) (pairs : List (ℕ × Code)) (es : List Entry) → Fits t [] pairs es → es ≡ []
no_entries t pairs [] fits = refl
no_entries t pairs (e ∷ es) fits = absurd (let many = ap (λ l. length l) fits.carried in omega (arith, many))

-- ---- the entries that a ledger has

numbered_at : (t n : ℕ) (pre : List Op) (o : Op) (post : List Op)
    → slice_get (numbered t n (pre ++ o ∷ post)) (length pre) ≡ Some
    (record { thread = t; number = n + length pre; op = o })
numbered_at t n [] o post =
    let same : n ≡ n + 0 = omega arith in ap (λ k. Some (record { thread = t; number = k; op = o })) same
numbered_at t n (p ∷ pre) o post = search (arith, numbered_at t (suc n) pre o post)

pub is_rm_fail_so : (c : Code) → is_rm_fail c ≡ true → c ≡ RmFail
is_rm_fail_so c e = search (arith, rules)

abbrev pub upto : List Entry → LedgerView → List Entry
upto es a = take (length a.sent) es

-- the ledger at the end, and the entries that the journal has
module _ (t : ℕ) (last : LedgerView) (es : List Entry) (fits : Fits t last.sent last.collected es) where
  pub many_entries : length es ≡ length last.sent
  many_entries = sym (length-map es (λ e. e.0)) ∙ ap (λ l. length l) fits.carried ∙ numbered_length t 0 last.sent

  pub many_upto : (a : LedgerView) → Begins a.sent last.sent → length (upto es a) ≡ length a.sent
  many_upto a b =
      let sizes = ap (λ l. length l) b.1 in
      length-take-le (length a.sent) es (omega (arith, sizes, many_entries, length-append a.sent b.0))

  -- one more that was sent
  module _ (a a' : LedgerView) (op : Op) (sent : a'.sent ≡ a.sent ++ op ∷ []) (now : Begins a'.sent last.sent) where
    -- has one more entry, with some code
    pub enters : (c : Code) × StandsAt es (length a.sent, c)
        × (upto es a' ≡ upto es a ++ next_entry t (upto es a) op c ∷ [])
    enters =
        let n = length a.sent in
        let request : ℕ → Request = λ k. record { thread = t; number = k; op = op } in
        let parts : last.sent ≡ a.sent ++ op ∷ now.0 =
        now.1 ∙ ap (λ l. l ++ now.0) sent ∙ append_assoc a.sent (op ∷ []) now.0 in
        let none_before : 0 + n ≡ n = omega arith in
        let there : slice_get (map (λ (e : Entry). e.0) es) n ≡ Some (request n) =
        search (arith, slice_get, numbered_at) in
        let e = was_mapped (λ (e : Entry). e.0) es n (request n) there in
        let longer : length a'.sent ≡ n + 1 = let sizes = ap (λ l. length l) sent in
        omega (arith, sizes, length-append a.sent (op ∷ [])) in
        let many : length (upto es a) ≡ n = many_upto a (op ∷ now.0, parts) in (
          e.0.1,
          got_map pair_of es n e.0 e.1 ∙ ap (λ (q : Request). Some (q.number, e.0.1)) e.2,
          ap (λ k. take k es) longer
              ∙ one_more es n e.0 (slice_get_within es n e.0 e.1) (sym (get_or_from_slice_get es n e.0 e.0 e.1))
              ∙ ap (λ (q : Request). upto es a ++ entry q e.0.1 ∷ []) (e.2 ∙ ap request (sym many)),
        )

    -- with its own code, where it was collected
    pub enters_coded : (c : Code) → Contains last.collected (length a.sent, c)
        → upto es a' ≡ upto es a ++ next_entry t (upto es a) op c ∷ []
    enters_coded c got = search (arith, enters, some_pair_parts, All-contains)

  -- where XAER_RMFAIL was collected it is among the codes
  pub fails : (a : LedgerView) → Sound a → HasGrown a last → learnt_shut a ≡ true
      → Contains (codes_in (upto es a)) RmFail
  fails a sound grown shut =
      let (k, p, lt, at, failed) = Any-from_list_any (λ (p : ℕ × Code). is_rm_fail p.1) a.collected shut in
      let below : p.0 < length a.sent =
      All-contains (λ (q : ℕ × Code). q.0 < length a.sent) a.collected p sound (k, lt, at) in
      let got : Contains last.collected p =
      rw grown.collected.1 (Contains-append_left a.collected grown.collected.0 p (k, lt, at)) in
      let e = was_mapped pair_of es p.0 p (All-contains (StandsAt es) last.collected p fits.coded got) in
      let among : slice_get (upto es a) p.0 ≡ Some e.0 =
      slice_get-get_or (upto es a) p.0 e.0 (omega (arith, below, many_upto a grown.sent))
      ∙ ap Some (get_or-take (length a.sent) es p.0 e.0 below ∙ get_or_from_slice_get es p.0 e.0 e.0 e.1) in
      let code : e.0.1 ≡ RmFail = ap (λ (q : ℕ × Code). q.1) e.2 ∙ is_rm_fail_so p.1 failed in
      contains_at (codes_in (upto es a)) p.0 RmFail
      (got_map (λ (e : Entry). e.1) (upto es a) p.0 e.0 among ∙ ap Some code)
