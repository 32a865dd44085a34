-- A resolve in an opening to which nobody sent a Shut is answered by each manager with another code than XAER_RMFAIL.
-- The one client of a night resolves what was left, and nothing else was done in its opening.
use Rattle.xa_base.proofs.{Ok, Err, subst, All-map, All-weaker, chain_kept, get_or_past, contains_map, found}
use Rattle.xa_base.proofs.{each_number, rules, arith, not, ◌≡◌, ◌≢◌, ℕ, Bool, true, false, ◌==◌, Option, Some, List, []}
use Rattle.xa_base.proofs.{◌∷◌, get_or, sym, refl, ap, ◌∙◌, All, All-nil, All-cons, All-head, All-tail, All-append}
use Rattle.xa_base.proofs.{list_any-append, or-true, all_at, Result, nat_lt, zero, suc, ◌-◌, ◌<◌, ◌≤◌, length}
use Rattle.xa_base.proofs.{slice_index_or, cases_lt, ne_eqb, or_from, at_false, length-map, IfOk, ◌+◌, ◌++◌}
use Rattle.xa_base.proofs.{length-append, map, slice_get, inl, inr, append-nil, cases_eq, All-contains}
use Rattle.xa_base.proofs.{same_Some as some_same, got_map, list_any_none, Contains, range_with_len, eqb-true}
use Rattle.xa_base.proofs.{length-range_with_len, get_or-range_with_len, got, All-filter, Contains-get_or, IfErr}
use Rattle.xa_base.proofs.{le-ltb, IfErr-weaker, IsPermutation-sym, Contains-permutation}
use Rattle.xa_base.specs.{Chain, IsUpTo, MOST_MANAGERS}
use Rattle.xa_words.specs.{XidName, RmFail, Op, OpenRm, Commit, Rollback, Forget, Request, Code, TranName}
use Rattle.xa_words.specs.{is_rolled_back}
use Rattle.laws_tables.proofs.WorthLaw.{others_first}
use Rattle.xa_tables.specs.{State, is_S5, decision_in, TablesAndCode, next, coded, Tables, History, of_thread}
use Rattle.xa_tables.specs.{tables_after, opening}
use Rattle.xa_tables.proofs.Effects.{reason_rolls_back}
use Rattle.xa_desk.specs.{LedgerView, is_rm_fail, learnt_shut, new_ledgers, no_ledger, room_at, DeskView, ledger}
use Rattle.xa_desk.specs.{numbered}
use Rattle.xa_worker.specs.{Entry, requests}
use Rattle.xa_switch.specs.{answers, history, IsSettled, collected, journal, Settling, Again, reopening, IsScanOf}
use Rattle.xa_switch.specs.{IsWhole, MayReopen, reopened_at, first_of, ledgers_of, IsOf, sent, Plan, ManagerPlan}
use Rattle.xa_switch.specs.{last_in, managers_in, planned, ManagerPart, FollowsTables, find_manager, journal_in}
use Rattle.xa_switch.specs.{accounts_in, accounts_of}
use Rattle.xa_switch.proofs.SettledOpenings.{follows, begun}
use Rattle.xa_driver.specs.{MayResolve, Outcome, AskTrace, is_decided, AsksIf, AsksLedger, ResolvesBranch, outcome_op}
use Rattle.xa_driver.specs.{Resolved, IsTraceOfResolve}
use Rattle.xa_log.specs.{Records, LogState}
use Rattle.xa_desk.proofs.Books.{fresh_sent}
use Rattle.demo_bank_days.specs.{records_of_logs, Unresolved, Excuses, HasRoomToResolve, Resolver, IsResolvedBy}
use Rattle.demo_bank_days.specs.{IsNight, IsUntouched, ResolvesBy, unused}
use Rattle.laws_commit.specs.{IsBetween, OnlyResolves, ResolveCall, resolve_call, resolves, with_use}
use Rattle.laws_commit.proofs.Sites.{all_earlier, own_all}
use Rattle.laws_commit.proofs.Resolves.{outcome_at, resolve_sends}
use Rattle.laws_commit.proofs.Settled.{by_ledger}
use Rattle.laws_commit.proofs.Guided.{learnt_on}
use Rattle.xa_crew.specs.{Attended, IsRun}
use Rattle.xa_crew_again.specs.{WithScan, IsRunAgain, WorksWithScan}
use Rattle.demo_bank.specs.{Teller}
use Rattle.demo_bank.proofs.Days.{MemberAt, Never, member_at, nobody_else}
use Rattle.demo_bank_days.proofs.Moved.{many_attended}

-- ---- what a resolve asks for

-- the request opens a manager, tells a branch its outcome, or has one forgotten
abbrev is_of_night : Op → Bool
is_of_night OpenRm = true
is_of_night (Commit x one_phase) = not one_phase
is_of_night (Rollback x) = true
is_of_night (Forget x) = true
is_of_night op = false

abbrev pub InNight : Op → Type 0
InNight op = is_of_night op ≡ true

pub ends_in_night : (commit : Bool) (x : XidName) → InNight (outcome_op commit x)
ends_in_night true x = refl
ends_in_night false x = refl

-- ---- what it is answered

-- the manager isn't shut, and doesn't say so
record StaysOpen (a : TablesAndCode) : Type 0 where
  code : is_rm_fail a.1 ≡ false
  open_ : a.0.shut ≡ false

rolled_back : (c : Code) → is_rolled_back c ≡ true → is_rm_fail c ≡ false
rolled_back c e = search (arith, rules)

decided : (o : Option State) → is_S5 o ≡ true → is_rm_fail (decision_in o) ≡ false
decided o e = search (arith, rules)

says : (T : Tables) (c : Code) → T.shut ≡ false → is_rm_fail c ≡ false → StaysOpen (T, c)
says T c o e = record { code = e; open_ = o }

next_open : (t : ℕ) (op : Op) (T : Tables) → InNight op → T.shut ≡ false → StaysOpen (next t op T)
unfolding next
next_open t op T is o = search (arith, says, decided, rolled_back, reason_rolls_back)

codes_open : (h : History) (T : Tables) → All (λ r. InNight r.op) h → T.shut ≡ false
    → All (λ (e : Entry). is_rm_fail e.1 ≡ false) (coded h T)
codes_open [] T all o = All-nil (λ (e : Entry). is_rm_fail e.1 ≡ false)
codes_open (r ∷ h) T all o =
    let P : Request → Type 0 = λ q. InNight q.op in
    let one = next_open r.thread r.op T (All-head P r h all) o in
    All-cons (λ (e : Entry). is_rm_fail e.1 ≡ false) (r, (next r.thread r.op T).1) (coded h (next r.thread r.op T).0)
    one.code (codes_open h (next r.thread r.op T).0 (All-tail P r h all) one.open_)

-- so what a thread collected from such a manager
pub answered_open : (s : Settling) (m t : ℕ) → IsSettled s → All (λ r. InNight r.op) (history s m)
    → All (λ p. is_rm_fail p.1 ≡ false) (collected s t m)
answered_open s m t settled all =
    let P : Entry → Type 0 = λ e. is_rm_fail e.1 ≡ false in
    let Q : ℕ × Code → Type 0 = λ p. is_rm_fail p.1 ≡ false in
    let f = follows s m settled in
    let codes : All P (journal s m) = rw f.1.codes (codes_open (history s m) f.0 all f.1.opened.shut) in
    let given =
    All-map Q (λ (e : Entry). (e.0.number, e.1)) _
    (All-filter (λ (e : Entry). e.0.thread == t) P (journal s m) codes) in
    All-weaker _ Q (λ p at. all_at Q (answers t (journal s m)) p.0 p given at) (collected s t m)
    (settled.agree t m).coded

-- ---- what is learnt of a resolve

-- where the manager isn't learnt to be shut after what was asked, it wasn't before, and answered
ask_open : (a a' : LedgerView) (op : Op) (c : Code) → AskTrace (Some op) (Some c) a a' → learnt_shut a' ≡ false
    → (learnt_shut a ≡ false) × (c ≢ RmFail)
ask_open a a' op c tr open_ = search (arith, list_any-append, or-true, a.collected)

if_open : (asks : Bool) (op : Op) (a a' : LedgerView) → AsksIf asks AsksLedger op a a' → learnt_shut a' ≡ false
    → learnt_shut a ≡ false
if_open asks op a a' asked o = search (arith, ask_open)

abbrev pub IsReached : Outcome → Type 0
IsReached o = o.code ≢ RmFail

each_reached : (records : Records) (m : ℕ) (a : LedgerView) (os : List Outcome) (a' : LedgerView)
    → Chain (ResolvesBranch AsksLedger records m) a os a'
    → learnt_shut a' ≡ false → All IsReached os
each_reached records m a os a' runs =
    chain_kept _ (λ _. Unit {0}) (λ xs b. learnt_shut b ≡ false → All IsReached xs) a (λ _. All-nil IsReached)
    (λ xs x now next before _ is open_.
    let ends =
    ask_open now is.decided (outcome_op x.commit x.xid) x.code is.obeys
    (if_open (is_decided x.code) (Forget x.xid) is.decided next is.forgets open_) in
    All-append IsReached xs (x ∷ []) (before ends.0) (All-cons IsReached x [] ends.1 (All-nil IsReached))) os a' runs
    (λ _ _ _. tt)

-- ---- the room of a night's desk for what it takes to resolve, and why nothing was resolved

-- a new ledger has all requests of the plan
fresh_plan : (n : ℕ) (flags : List Bool) (i : ℕ) → i < length flags
    → (slice_index_or (new_ledgers n flags) i no_ledger).plan ≡ n
fresh_plan n [] i low = absurd (omega (arith, low))
fresh_plan n (b ∷ flags) zero low = refl
fresh_plan n (b ∷ flags) (suc i) low = fresh_plan n flags i (omega (arith, low))

fresh_room : (n : ℕ) (flags : List Bool) (m : ℕ) → IsUpTo (length flags) m → room_at (new_ledgers n flags) m ≡ n
fresh_room n flags zero up = let low = up.0 in absurd (omega (arith, low))
fresh_room n flags (suc i) up =
    search (arith, length-map, fresh_plan, fresh_sent, at_false, nat_lt, or_from, ne_eqb, le-ltb, up.1)

-- why nothing was resolved, by what the caller knows
pub left_on : {Room Fits : Type 0} (Known Good Same : Type 0) → (Fits → Room) → (r : Result Resolved Unresolved)
    → IfErr r (λ why. Same × Excuses ⊥ Known Room (Unit {0}) why) → IfErr r (Excuses ⊥ Known Fits Good)
left_on Known Good Same so r h = search (arith, rules)

pub never_none : (ops : List Op) → All Never ops → ops ≡ []
never_none [] all = refl
never_none (op ∷ ops) all = absurd (All-head Never op ops all)

-- the last of a list of one element is the first
only_last : {A : Type 0} (front : List A) (a : A) → length (front ++ a ∷ []) ≡ 1
    → slice_get (front ++ a ∷ []) 0 ≡ Some a
only_last [] a e = refl
only_last (w ∷ front) a e = let size = length-append front (a ∷ []) in absurd (omega (arith, e, size))

module _ {L : Type 0} (state : L → LogState) (knows : L → Type 0) (s : Settling) (again : Again) (r : Resolver L)
    (attended : List (Attended (WithScan (Resolver L)))) (next : Settling)
    (z : IsRunAgain (ResolvesBy state knows) s again (r ∷ []) attended next) (one : again.threads ≡ 1) where
  at : MemberAt (WorksWithScan (ResolvesBy state knows)) (reopening s again) z.given attended next 0
  at =
      member_at (WorksWithScan (ResolvesBy state knows)) (reopening s again) z.given attended next z.run 0
      (omega (arith, one))

  open at use {left.{ledgers as new}, member.{client.{client as mine, scan}, desk.{ledgers as old}}}

  client : mine ≡ r
  client =
      some_same mine r
      (sym (got_map (λ (w : WithScan (Resolver L)). w.client) z.given 0 at.member.client at.client_at)
      ∙ ap (λ (l : List (Resolver L)). slice_get l 0) z.are_given.clients_are)

  scanned : IsScanOf s scan
  scanned =
      all_at (IsScanOf s) (map (λ (w : WithScan (Resolver L)). w.scan) z.given) 0 scan z.are_given.scans.each
      (got_map (λ (w : WithScan (Resolver L)). w.scan) z.given 0 at.member.client at.client_at)

  -- ---- what was sent

  sent_own : (m : ℕ) → 1 ≤ m → sent next 1 m ≡ (ledger new m).sent
  sent_own m positive =
      by_ledger (ledgers_of next 1) m (λ (a : LedgerView). a.sent) positive refl ∙ (at.end m positive).sent
      ∙ ap (λ (l : List Op). (ledger new m).sent ++ l) (never_none (at.end m positive).more (at.end m positive).each)
      ∙ append-nil (ledger new m).sent

  nobody : (u : ℕ) → u ≢ 1 → (m : ℕ) → sent next u m ≡ []
  nobody u other =
      nobody_else (WorksWithScan (ResolvesBy state knows)) (reopening s again) z.given attended next z.run u
      (search (arith, cases_lt))

  between : (m : ℕ) (q : Request) → q.thread ≡ 1 → q.number < 0 + length (sent next 1 m)
      → IsBetween 1 (length (ledger old m).sent) (length (ledger new m).sent) q
  between zero q same up = absurd (omega (arith, up))
  between (suc j) q same up =
      let some = ap (λ (l : List Op). length l) (sent_own (suc j) (omega arith)) in
      let none = ap (λ (l : List Op). length l) (at.nothing (suc j) (omega arith)) in
      record { thread = same; from = omega (arith, none); below = omega (arith, up, some) }

  module _ (records : Records) (outcomes : List Outcome) (trace : IsTraceOfResolve scan records old new outcomes) where
    abbrev q : ResolveCall
    q = resolve_call 1 scan old new outcomes records

    only : (t : TranName) → OnlyResolves t (with_use next (resolves q))
    only t m k d below named =
        let p : Request = get_or (history next m) k d in
        elim (cases_eq p.thread 1) [
          | inl same ↦ (
            resolves q,
            (
              (0, omega arith, refl),
              between m p same
                  (all_earlier 1 (history next m) 0 (sent next 1 m) (z.run.agrees.agree 1 m).carried k d below
                  same),
            ),
          )
          | inr other ↦
              let up =
              all_earlier p.thread (history next m) 0 (sent next p.thread m) (z.run.agrees.agree p.thread m).carried
              k d below refl in
              let none = ap (λ (l : List Op). length l) (nobody p.thread other m) in
              absurd (omega (arith, up, none))
        ]

    module _ (m : ℕ) (up : IsUpTo MOST_MANAGERS m) where
      of_night : (u : ℕ) → All InNight (sent next u m)
      of_night u =
          elim (cases_eq u 1) [
            | inl same ↦
                let all =
                resolve_sends scan records old new outcomes trace InNight m up refl
                (λ o _. record { ends = λ _ _. ends_in_night o.commit o.xid; forgets = λ _ _. refl }) in
                rw (ap (λ v. sent next v m) same ∙ sent_own m up.0 ∙ all.sent
                ∙ ap (λ (l : List Op). l ++ all.more) (at.nothing m up.0)) all.all
            | inr other ↦ rw (nobody u other m) (All-nil InNight)
          ]

      taken : All (λ p. InNight p.op) (history next m)
      taken k d below =
          let p : Request = get_or (history next m) k d in
          own_all p.thread InNight (history next m) 0 (sent next p.thread m) (z.run.agrees.agree p.thread m).carried
          (of_night p.thread) k d below refl

      last_open : learnt_shut (ledger (ledgers_of next 1) m) ≡ false
      last_open =
          list_any_none (λ (p : ℕ × Code). is_rm_fail p.1) (ledger (ledgers_of next 1) m).collected
          (rw (by_ledger (ledgers_of next 1) m (λ (a : LedgerView). a.collected) up.0 refl) at
          (answered_open next m 1 z.run.agrees taken))

      new_open : learnt_shut (ledger new m) ≡ false
      new_open = search (arith, learnt_on, at.end, last_open)

    reached : All IsReached outcomes
    reached k d below =
        let o : Outcome = get_or outcomes k d in
        let at_o = outcome_at scan records old new outcomes trace o (Contains-get_or outcomes k d below) in
        search (arith, All-contains, at, All-nil, each_reached, new_open, o.m)

  -- the night
  module _ (whole : IsWhole s)
      (goes_on : (s next : Settling) (again : Again) (m : ℕ) (T : Tables) → IsWhole s → IsOf (reopening s again) next
      → first_of s m ≡ Some T → first_of next m ≡ Some (reopened_at s.managers m)) where
    resolved_by : (records : Records) (outcomes : List Outcome) (trace : IsTraceOfResolve scan records old new outcomes)
        → IsResolvedBy records s again (q records outcomes trace) next
    resolved_by records outcomes trace = record {
      settled = z.run.agrees;
      continues = λ m T first. goes_on s next again m T whole z.run.of_setup first;
      of_setup = z.run.of_setup;
      made = record {
        made = trace;
        grown = record {
          each = λ m positive.
              record {
                sent = ((at.end m positive).more, (at.end m positive).sent);
                collected = (at.end m positive).collected;
              };
        };
      };
      by_ = refl;
      scanned = scanned;
      only = only records outcomes trace;
      reached = reached records outcomes trace;
    }

    many : length attended ≡ 1
    many = many_attended (ResolvesBy state knows) s again (r ∷ []) attended next z ∙ one

    module _ (a : Attended (WithScan (Resolver L))) (front : List (Attended (WithScan (Resolver L))))
        (is : attended ≡ front ++ a ∷ []) where
      it : at.member.attended ≡ a
      it = search (arith, some_same, at, slice_get, only_last, many)

      pub tellers_law : a.client.client.tellers ≡ r.tellers
      tellers_law = search (arith, client, it, at)

      abbrev records_are : List (Teller L) → Records
      records_are ts = records_of_logs state (map (λ (t : Teller L). t.log) ts)

      abbrev Came : Result Resolved Unresolved → List (Teller L) → Type 0
      Came o ts =
          IfOk o
          (λ w. All (λ (t : Teller L). knows t.log) ts × IsTraceOfResolve scan (records_are ts) old new
          w.outcomes.items)

      night_of : (o : Result Resolved Unresolved) (ts : List (Teller L)) → Came o ts
          → IfOk o (λ w. IsNight state knows ts s again w.outcomes.items next)
      night_of (Err why) ts came = tt
      night_of (Ok w) ts came = search (arith, resolved_by, w.outcomes.items)

      pub night_law : IfOk a.client.client.resolved
          (λ w. IsNight state knows r.tellers.items s again w.outcomes.items next)
      night_law =
          night_of a.client.client.resolved r.tellers.items
          (subst
          (λ (p : Attended (WithScan (Resolver L)) × Resolver L). Came p.0.client.client.resolved p.1.tellers.items)
          (λ i. (it i, client i)) at.worked.came)

      -- nothing was resolved for a reason of which the caller knows
      pub left_law : IfErr a.client.client.resolved
          (Excuses ⊥ (All (λ (t : Teller L). knows t.log) r.tellers.items) (HasRoomToResolve s again)
          (MayReopen s again))
      left_law = search (arith, left_on, at, get_or_past, fresh_room, cases_lt, scanned, client, it)

      -- no thread sent anything where nothing was resolved
      nothing : at.left ≡ at.member.desk → (t m : ℕ) → 1 ≤ m → sent next t m ≡ []
      nothing same t m positive = search (arith, cases_eq, sent_own, at, nobody)

      pub untouched_law : IfErr a.client.client.resolved (λ why. IsUntouched s again next)
      untouched_law =
          IfErr-weaker a.client.client.resolved _ _
          (λ why h. unused z.run.agrees (λ m T first. goes_on s next again m T whole z.run.of_setup first)
          z.run.of_setup (nothing h.0))
          (subst
          (λ (p : Attended (WithScan (Resolver L))). IfErr p.client.client.resolved
          (λ why. (at.left ≡ at.member.desk)
          × Excuses ⊥ (All (λ (t : Teller L). knows t.log) mine.tellers.items) (MayResolve at.member.desk scan)
          (Unit {0}) why)) it at.worked.left)

-- ---- an opening of a plan in which nobody does anything: each store is left with what it opened with

-- a history without a request of any thread
no_requests : (h : History) → ((t : ℕ) → of_thread t h ≡ []) → h ≡ []
no_requests [] e = refl
no_requests (r ∷ h) e = absurd ((others_first r.thread r h (e r.thread)).0 refl)

module _ {C : Type 0} (p : Plan) (clients : List C) (attended : List (Attended C)) (s : Settling)
    (r : IsRun (λ (x : C) (d : DeskView) (x' : C) (d' : DeskView). d' ≡ d) (planned p) clients attended s)
    (whole : IsWhole s) where
  abbrev Idles : C → DeskView → C → DeskView → Type 0
  Idles x d x' d' = d' ≡ d

  abbrev stores : ℕ
  stores = length p.managers.items

  nothing_at : (k m : ℕ) → k < p.threads → 1 ≤ m → sent s (k + 1) m ≡ []
  nothing_at k m below positive =
      let at = member_at Idles (planned p) clients attended s r k below in
      let end = at.end m positive in
      by_ledger (ledgers_of s (k + 1)) m (λ (a : LedgerView). a.sent) positive refl ∙ end.sent
      ∙ ap (λ (l : List Op). (ledger at.left.ledgers m).sent ++ l) (never_none end.more end.each)
      ∙ append-nil (ledger at.left.ledgers m).sent
      ∙ ap (λ (d : DeskView). (ledger d.ledgers m).sent) at.worked ∙ at.nothing m positive

  nobody_sent : (t m : ℕ) → 1 ≤ m → sent s t m ≡ []
  nobody_sent t m positive =
      each_number (λ u. sent s u m ≡ []) p.threads
      (λ u outside. nobody_else Idles (planned p) clients attended s r u outside m)
      (λ k below. nothing_at k m below positive) t

  untouched : (m : ℕ) → 1 ≤ m → history s m ≡ []
  untouched m positive =
      no_requests (history s m) (λ t. (r.agrees.agree t m).carried ∙ ap (numbered t 0) (nobody_sent t m positive))

  first : (m : ℕ) → IsUpTo stores m → first_of s m ≡ Some (opening (accounts_of p m))
  first m up =
      let x = got p.managers.items (m - 1) (omega (arith, up.0, up.1)) in
      let number : m - 1 + 1 ≡ m = omega (arith, up.0) in
      ap (first_of s) (sym number)
      ∙ r.of_setup.opened (m - 1) (opening x.0.accounts.items)
      (got_map (λ (q : ManagerPlan). opening q.accounts.items) p.managers.items (m - 1) x.0 x.1)
      ∙ ap (λ (o : Option ManagerPlan). Some (opening (accounts_in o))) (sym x.1)

  pub tables : (m : ℕ) → IsUpTo stores m → last_in (find_manager m s.managers) ≡ opening (accounts_of p m)
  tables m up =
      let q = begun s m (opening (accounts_of p m)) (first m up) in
      let is = found (λ (c : ManagerPart). c.number == m) s.managers q.0 q.1 in
      let follows : FollowsTables q.0 = All-contains FollowsTables s.managers q.0 r.agrees.tables is.0 in
      let none : requests q.0.journal ≡ [] =
      ap (λ (o : Option ManagerPart). requests (journal_in o)) (sym q.1) ∙ untouched m up.0 in
      ap last_in q.1 ∙ follows.left ∙ ap (λ (h : History). tables_after h q.0.first) none ∙ q.2

  -- ---- how many stores there are

  in_range : (n m : ℕ) → Contains (range_with_len 1 n) m → m ≤ n
  in_range n m there = search (arith, length-range_with_len, get_or-range_with_len, there.1, there.0, there.2)

  within : (m : ℕ) (q : ManagerPart) → find_manager m s.managers ≡ Some q → m ≤ stores
  within m q at =
      let is = found (λ (c : ManagerPart). c.number == m) s.managers q at in
      let numbers : List ℕ = map (λ (c : ManagerPart). c.number) s.managers in
      let among : Contains numbers m =
      rw (eqb-true q.number m is.1) at (contains_map (λ (c : ManagerPart). c.number) s.managers q is.0) in
      in_range stores m
      (Contains-permutation numbers (range_with_len 1 stores) m (IsPermutation-sym _ _ r.of_setup.managers) among)

  pub all_stores : managers_in s ≡ stores
  all_stores =
      let last = whole.there (managers_in s) whole.few.0 (omega arith) in
      let low = within (managers_in s) last.0 last.1 in
      let up : IsUpTo stores stores = (omega (arith, low, whole.few.0), omega arith) in
      let q = begun s stores (opening (accounts_of p stores)) (first stores up) in
      omega (arith, low, (whole.only stores q.0 q.1).1)
