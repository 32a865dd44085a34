-- What the journals of a settled opening have, by what each of its threads sent.
use Rattle.xa_base.proofs.{cond, ◌≡◌, ◌≢◌, ℕ, zero, suc, ◌<◌, ◌≤◌, Bool, true, false, ◌==◌, List, [], ◌∷◌, ◌++◌, length}
use Rattle.xa_base.proofs.{map, filter, get_or, slice_get, Some, None, inl, inr, eq-eqb, sym, refl, ap, ◌∙◌, subst}
use Rattle.xa_base.proofs.{arith, slice_index_or, All, cases_eq, eqb-true, false_from_ne_true, false≢true, All-nil}
use Rattle.xa_base.proofs.{slice_get_within, all_right}
use Rattle.xa_words.specs.{TranName, XidName, Op, Shut, Request}
use Rattle.xa_tables.specs.{is_heur, names}
use Rattle.xa_desk.specs.{LedgerView, new_ledger, ledger, no_ledger, sent_to, is_known, EndedView, numbered, DeskView}
use Rattle.xa_worker.specs.{WorkerView}
use Rattle.xa_switch.specs.{thread_part, history as history_of, ledgers_of, AreOfOneOpening, Setup, ThreadPart}
use Rattle.xa_switch.specs.{IsSettled, sent, find_thread, ledgers_in, Settling}
use Rattle.xa_driver.specs.{Branch, sent_so_far}
use Rattle.laws_commit.specs.{AreLeftOrDecided, OnlyTheseOrDecisionsName, ResolveCall, resolves, OnlyResolves}
use Rattle.laws_commit.proofs.Sites.{request_of, of_ops, own_all}

-- ---- what threads sent

pub all_sent : (P : Op → Type 0) (at : List LedgerView) (m : ℕ) → All P (ledger at m).sent → All P (sent_to at m)
all_sent P at m all =
    elim (is_known at m) as (λ b. All P (cond b (ledger at m).sent [])) [ true ↦ all | false ↦ All-nil P ]

pub few_sent : (at : List LedgerView) (m : ℕ) → length (sent_to at m) ≤ length (ledger at m).sent
few_sent at m =
    elim (is_known at m) as (λ b. length (cond b (ledger at m).sent []) ≤ length (ledger at m).sent)
    [ true ↦ omega arith | false ↦ omega arith ]

-- where there is one desk, the ledgers of its thread are the desk's
pub first_ledgers : (s : Settling) (e : EndedView) (others : List ThreadPart) → s.threads ≡ thread_part e ∷ others
    → ledgers_of s e.thread ≡ e.ledgers
first_ledgers s e others threads =
    ap (λ ps. ledgers_in (find_thread e.thread ps)) threads
    ∙ ap (λ b. ledgers_in (cond b (Some (thread_part e)) (find_thread e.thread others))) (eq-eqb e.thread e.thread refl)

-- what holds of no ledgers holds of those of another thread
pub others_one : (s : Settling) (e : EndedView) → s.threads ≡ thread_part e ∷ [] → (P : List LedgerView → Type 0) → P []
    → (t : ℕ) → t ≢ e.thread
    → P (ledgers_of s t)
others_one s e threads P none t differs =
    let other : (e.thread == t) ≡ false =
    false_from_ne_true (e.thread == t) (λ h. differs (sym (eqb-true e.thread t h))) in
    subst (λ ps. P (ledgers_in (find_thread t ps))) (sym threads)
    (subst (λ b. P (ledgers_in (cond b (Some (thread_part e)) None))) (sym other) none)

-- what holds of no ledgers, and of those of a second desk, holds of those of any thread but the first desk's
pub others_two : (s : Settling) (e f : EndedView) → s.threads ≡ thread_part e ∷ thread_part f ∷ []
    → (P : List LedgerView → Type 0) → P f.ledgers → P []
    → (t : ℕ) → t ≢ e.thread → P (ledgers_of s t)
others_two s e f threads P second none t differs =
    let other : (e.thread == t) ≡ false =
    false_from_ne_true (e.thread == t) (λ h. differs (sym (eqb-true e.thread t h))) in
    let there : P (ledgers_in (find_thread t (thread_part f ∷ []))) =
    elim (f.thread == t) as (λ b. P (ledgers_in (cond b (Some (thread_part f)) None)))
    [ true ↦ second | false ↦ none ] in
    subst (λ ps. P (ledgers_in (find_thread t ps))) (sym threads)
    (subst (λ b. P (ledgers_in (cond b (Some (thread_part e)) (find_thread t (thread_part f ∷ []))))) (sym other)
    there)

-- ---- what a journal has of them

-- what holds of all that the other threads sent to a manager holds of all in its journal that isn't the thread's
pub others_all : (s : Settling) (t m : ℕ) (P : Op → Type 0) → IsSettled s → ((u : ℕ) → u ≢ t → All P (sent s u m))
    → All (λ r. r.thread ≢ t → P r.op) (history_of s m)
others_all s t m P settled all k d below differs =
    let r : Request = get_or (history_of s m) k d in
    own_all r.thread P (history_of s m) 0 (sent s r.thread m) (settled.agree r.thread m).carried (all r.thread differs)
    k d below refl

-- the thread's have numbers below how many it sent
pub own_below : (s : Settling) (t m : ℕ) → IsSettled s
    → All (λ r. r.thread ≡ t → r.number < length (sent s t m)) (history_of s m)
own_below s t m settled =
    of_ops t (λ k op. k < length (sent s t m)) (history_of s m) 0 (sent s t m) (settled.agree t m).carried
    (λ k op at. let within = slice_get_within (sent s t m) k op at in omega (arith, within))

-- its requests after one of them have no lower numbers
abbrev mine : ℕ → List Request → List Request
mine t h = filter (λ r. r.thread == t) h

pub own_after : (t : ℕ) (r : Request) (after before : List Request) (n : ℕ) (ops : List Op)
    → filter (λ q. q.thread == t) (before ++ r ∷ after) ≡ numbered t n ops → r.thread ≡ t
    → All (λ q. q.thread ≡ t → r.number ≤ q.number) after
own_after t r after [] n ops e own =
    let P : Request → Type 0 = λ q. q.thread ≡ t → r.number ≤ q.number in
    let first : r ∷ mine t after ≡ numbered t n ops =
    sym (ap (λ b. cond b (r ∷ mine t after) (mine t after)) (eq-eqb r.thread t own)) ∙ e in
    elim ops as (λ o. r ∷ mine t after ≡ numbered t n o → All P after) [
      | [] ↦ λ f. cc
      | op ∷ rest ↦ λ f.
          let head : r ≡ request_of t n op = cc in
          let tail : mine t after ≡ numbered t (suc n) rest = cc in
          let number = ap (λ (p : Request). p.number) head in
          of_ops t (λ k o. r.number ≤ k) after (suc n) rest tail (λ k o at. omega (arith, number))
    ] first
own_after t r after (b ∷ before) n ops e own =
    let P : Request → Type 0 = λ q. q.thread ≡ t → r.number ≤ q.number in
    let rest : List Request = mine t (before ++ r ∷ after) in
    elim (b.thread == t) as (λ c. cond c (b ∷ rest) rest ≡ numbered t n ops → All P after) [
      | false ↦ λ f. own_after t r after before n ops f own
      | true ↦ λ f. elim ops as (λ o. b ∷ rest ≡ numbered t n o → All P after) [
        | [] ↦ λ g. cc
        | op ∷ more ↦ λ g.
            let tail : rest ≡ numbered t (suc n) more = cc in
            own_after t r after before (suc n) more tail own
      ] f
    ] e

-- ---- the premises on journals

-- a Shut names no branch
shut_unnamed : (x : XidName) (op : Op) → op ≡ Shut → names x op ≡ true → is_heur op ≡ false → ⊥
shut_unnamed x op is named heuristic = absurd (false≢true (rw is at named))

module _ (P : Op → Type 0) (never : (x : XidName) (op : Op) → P op → names x op ≡ true → is_heur op ≡ false → ⊥) where
  -- where the other threads sent only requests that name no branch or decide it, only the thread's own requests name
  -- one
  only_own : (s : Settling) (t m : ℕ) (x : XidName) (first last : ℕ) → IsSettled s
      → ((u : ℕ) → u ≢ t → All P (sent s u m)) → length (sent s t m) ≤ last
      → OnlyTheseOrDecisionsName x t first last (history_of s m)
  only_own s t m x first last settled others few = λ before after r place own number k d below named heuristic.
      let q : Request = get_or after k d in
      elim (cases_eq q.thread t) [
        | inl same ↦
            let from =
            own_after t r after before 0 (sent s t m)
            (ap (λ (h : List Request). filter (λ p. p.thread == t) h) (sym place) ∙ (settled.agree t m).carried) own
            k d below same in
            let Own : Request → Type 0 = λ p. p.thread ≡ t → p.number < length (sent s t m) in
            let to : q.number < length (sent s t m) =
            all_right Own before (r ∷ after) (subst (All Own) place (own_below s t m settled)) (suc k) d
            (omega (arith, below)) same in
            record { thread = same; from = omega (arith, from, number); below = omega (arith, to, few) }
        | inr differs ↦
            let Other : Request → Type 0 = λ p. p.thread ≢ t → P p.op in
            let such : P q.op =
            all_right Other before (r ∷ after) (subst (All Other) place (others_all s t m P settled others)) (suc k) d
            (omega (arith, below)) differs in
            absurd (never x q.op such named heuristic)
      ]

  -- so for each branch of a call after which the thread sent nothing
  own_left : (s : Settling) (t : ℕ) (bs : List Branch) (old new last : List LedgerView) → IsSettled s
      → ((u m : ℕ) → u ≢ t → All P (sent s u m))
      → ledgers_of s t ≡ last → ((m : ℕ) → (ledger last m).sent ≡ (ledger new m).sent)
      → AreLeftOrDecided s t bs (sent_so_far old) (sent_so_far new)
  own_left s t bs old new last settled others is quiet = record {
    each = λ k d below.
        let b : Branch = get_or bs k d in
        only_own s t b.m b.xid (length (ledger old b.m).sent) (length (ledger new b.m).sent) settled
        (λ u differs. others u b.m differs)
        (let few = few_sent last b.m in let same = ap (λ at. length (sent_to at b.m)) is in let size = ap
        (λ (ops : List Op). length ops) (quiet b.m) in omega (arith, few, same, size));
  }

-- where no other thread sent anything, and the thread nothing but what a resolve did, only the resolve names a branch
pub only_resolves : (s : Settling) (q : ResolveCall) (t : TranName) → IsSettled s
    → ((u m : ℕ) → u ≢ q.thread → sent s u m ≡ [])
    → ((m : ℕ) → (ledger q.old m).sent ≡ []) → ledgers_of s q.thread ≡ q.new
    → OnlyResolves t (record { settled = s; uses = resolves q ∷ [] })
only_resolves s q t settled others fresh last = λ m k d below named.
    let r : Request = get_or (history_of s m) k d in
    elim (cases_eq r.thread q.thread) [
      | inl same ↦
          let to = own_below s q.thread m settled k d below same in
          let few = few_sent q.new m in
          let all = ap (λ at. length (sent_to at m)) last in
          let none = ap (λ (ops : List Op). length ops) (fresh m) in (
            resolves q,
            (
              (0, omega arith, refl),
              record { thread = same; from = omega (arith, none); below = omega (arith, to, few, all) },
            ),
          )
      | inr differs ↦ absurd
          (others_all s q.thread m (λ op. ⊥) settled
          (λ u other. subst (All (λ op. ⊥)) (sym (others u m other)) (All-nil (λ op. ⊥))) k d below differs)
    ]

-- ---- an opening whose desks are known

-- no ledger has anything of another desk
none_there : (P : Op → Type 0) (m : ℕ) → All P (sent_to [] m)
none_there P m = all_sent P [] m (All-nil P)

nothing_to : (at : List LedgerView) (m : ℕ) → (ledger at m).sent ≡ [] → sent_to at m ≡ []
nothing_to at m none = elim (is_known at m) as (λ b. cond b (ledger at m).sent [] ≡ []) [ true ↦ none | false ↦ refl ]

pub grown_of_first : (s : Settling) (e : EndedView) (others : List ThreadPart) (t : ℕ) (new : List LedgerView)
    → s.threads ≡ thread_part e ∷ others
    → t ≡ e.thread → e.ledgers ≡ new → ledgers_of s t ≡ new
grown_of_first s e others t new threads own lists = ap (ledgers_of s) own ∙ first_ledgers s e others threads ∙ lists

-- two desks, of which the second sent only such requests, and the first nothing after a call
pub own_of_both : (P : Op → Type 0) → ((x : XidName) (op : Op) → P op → names x op ≡ true → is_heur op ≡ false → ⊥)
    → (s : Settling) (e f : EndedView) (t : ℕ) (bs : List Branch) (old new : List LedgerView) → IsSettled s
    → s.threads ≡ thread_part e ∷ thread_part f ∷ []
    → t ≡ e.thread
    → ((m : ℕ) → (ledger e.ledgers m).sent ≡ (ledger new m).sent) → ((m : ℕ) → All P (ledger f.ledgers m).sent)
    → AreLeftOrDecided s t bs (sent_so_far old) (sent_so_far new)
own_of_both P never s e f t bs old new settled threads own quiet such =
    own_left P never s t bs old new e.ledgers settled
    (λ u m differs. others_two s e f threads (λ at. All P (sent_to at m)) (all_sent P f.ledgers m (such m))
    (none_there P m) u (λ same. differs (same ∙ sym own)))
    (ap (ledgers_of s) own ∙ first_ledgers s e (thread_part f ∷ []) threads) quiet

-- so where it sent only Shuts
pub own_of_two : (s : Settling) (e f : EndedView) (t : ℕ) (bs : List Branch) (old new : List LedgerView) → IsSettled s
    → s.threads ≡ thread_part e ∷ thread_part f ∷ [] → t ≡ e.thread → e.ledgers ≡ new
    → ((m : ℕ) → All (λ op. op ≡ Shut) (ledger f.ledgers m).sent)
    → AreLeftOrDecided s t bs (sent_so_far old) (sent_so_far new)
own_of_two s e f t bs old new settled threads own lists shuts =
    own_of_both (λ op. op ≡ Shut) shut_unnamed s e f t bs old new settled threads own
    (λ m. ap (λ (l : List LedgerView). (ledger l m).sent) lists) shuts

-- one desk, which had done nothing before a resolve, and sent nothing after it
pub only_of_one : (s : Settling) (e : EndedView) (q : ResolveCall) (t : TranName) → IsSettled s
    → s.threads ≡ thread_part e ∷ [] → q.thread ≡ e.thread
    → e.ledgers ≡ q.new → ((m : ℕ) → (ledger q.old m).sent ≡ [])
    → OnlyResolves t (record { settled = s; uses = resolves q ∷ [] })
only_of_one s e q t settled threads own lists fresh =
    only_resolves s q t settled
    (λ u m differs. others_one s e threads (λ at. sent_to at m ≡ []) (nothing_to [] m refl) u
    (λ same. differs (same ∙ sym own))) fresh
    (grown_of_first s e [] q.thread q.new threads own lists)

-- one desk, which sent nothing
pub nobody_names : (s : Settling) (e : EndedView) (t : TranName) → IsSettled s → s.threads ≡ thread_part e ∷ []
    → ((m : ℕ) → (ledger e.ledgers m).sent ≡ [])
    → OnlyResolves t (record { settled = s; uses = [] })
nobody_names s e t settled threads none = λ m k d below named.
    let r : Request = get_or (history_of s m) k d in
    let nothing : sent s r.thread m ≡ [] = elim (cases_eq r.thread e.thread) [
      | inl same ↦ ap (λ u. sent_to (ledgers_of s u) m) same ∙ ap (λ at. sent_to at m) (first_ledgers s e [] threads)
          ∙ nothing_to e.ledgers m (none m)
      | inr differs ↦ others_one s e threads (λ at. sent_to at m ≡ []) (nothing_to [] m refl) r.thread differs
    ] in
    absurd
    (own_all r.thread (λ op. ⊥) (history_of s m) 0 (sent s r.thread m) (settled.agree r.thread m).carried
    (subst (All (λ op. ⊥)) (sym nothing) (All-nil (λ op. ⊥))) k d below refl)

-- ---- desks that have done nothing

none_sent : (plan : ℕ) (flags : List Bool) (i : ℕ)
    → (slice_index_or (map (λ b. new_ledger b plan) flags) i no_ledger).sent ≡ []
none_sent plan [] i = refl
none_sent plan (b ∷ flags) zero = refl
none_sent plan (b ∷ flags) (suc i) = none_sent plan flags i

pub nothing_sent : (p : Setup) (ds : List DeskView) (ws : List WorkerView) → AreOfOneOpening p ds ws
    → (k : ℕ) (d : DeskView) → slice_get ds k ≡ Some d
    → (m : ℕ) → (ledger d.ledgers m).sent ≡ []
nothing_sent p ds ws o k d at m =
    ap (λ (x : DeskView). (ledger x.ledgers m).sent) (o.desks k d at).made ∙ none_sent p.numbers.requests p.use_async _
