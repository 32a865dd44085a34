-- What the threads and the managers of a run tell once they are settled, and what an opening leaves to the next one.
use Rattle.xa_base.proofs.{map-map, along, ◌≡◌, ℕ, ◌+◌, ◌<◌, ◌≤◌, zero, suc, List, [], ◌∷◌, ◌++◌, length, map, Some}
use Rattle.xa_base.proofs.{None, sym, refl, ap, ◌∙◌, subst, inl, inr, arith, length-append, All, AllPairs, Contains}
use Rattle.xa_base.proofs.{range_with_len, cases_eq, map-append, All-nil, All-push, Contains-append_left, not_both}
use Rattle.xa_base.proofs.{pairs_push, range_suc, same_begins, snoc_parts, removed_other, ◌≢◌, ◌-◌, ⊎_elim, option_map}
use Rattle.xa_base.proofs.{Option, false, slice_get, slice_index_or, nat_cmp, cases_lt, length-map, All-contains}
use Rattle.xa_base.proofs.{slice_get-map, slice_get_within, got, find_numbered, find_none, was_mapped, Bool, all_at}
use Rattle.xa_base.proofs.{Contains-push, slice_get_past, slice_get_cases, length-map-range_with_len}
use Rattle.std.specs.FinMap as finmap
use Rattle.xa_base.specs.{Chain}
use Rattle.xa_base.specs.Lists.Chain.{none, more}
use Rattle.xa_words.specs.{Code}
use Rattle.xa_desk.specs.{Operation, ledger, HaveGrown, DeskView, LedgerView, AllKept, sent_to, EndedView, new_ledgers}
use Rattle.xa_desk.specs.{plans}
use Rattle.xa_desk.proofs.Ledgers.{collecting_grows, nobody_sent}
use Rattle.xa_crew.specs.{DeskWithCodes, EndsNumber, HasServed, EndsDesk}
use Rattle.laws_transcript.proofs.Entries.{collected_at, StandsAt, agreed_fits, no_entries, collecting_sends_none}
use Rattle.xa_calls.proofs.Effects.{HasTaken, has_redeemed}
use Rattle.xa_desk.proofs.Books.{fresh_sent, fresh_collected}
use Rattle.xa_switch.specs.{ledgers_of, IsNewDesk, DeskSeat, seat_of_desk, ThreadPart, ManagerPart, IsSettled}
use Rattle.xa_switch.specs.{find_thread, ledgers_in, sent, collected, journal, thread_part, manager_part, settling}
use Rattle.xa_switch.specs.{Settling, Again, FollowsTables, journal_in, history, IsScanOf, first_ledgers, flags_in}
use Rattle.xa_switch.specs.{managers_in, last_in, reopened_at, reopening, MayReopen}
use Rattle.xa_worker.specs.{WorkerView, Served, requests}
use Rattle.xa_log.specs.{LogState}
use Rattle.script_grammar.specs.{ScriptStep, tasks_of, threads_of, managers_of, Content, declares_async}
use Rattle.script_session.specs.{Session, log_state}
use Rattle.script_transcript.specs.{TranscriptLine, AreOfScript, opened, opened_after, histories_at}
use Rattle.laws_transcript.specs.{ThreadComes, OpeningRan, Beginning, TellsOf, part_at, answers_to, entries_of}
use Rattle.laws_transcript.specs.{TakesPart, AreHandlesLeft, AreCarriedOut, Part, HasCode, new_part, AreNumbersOf}
use Rattle.laws_transcript.specs.{IsSetupOf, Former, Leaves, beginning}
use Rattle.laws_transcript.proofs.Opened.{opened_threads, opened_managers, opened_first, opened_thread, tasks_are_of}
use Rattle.laws_transcript.proofs.Opened.{no_tasks}
use Rattle.laws_transcript.proofs.Branches.{fits, own as own_entries}
use Rattle.laws_transcript.proofs.Lines.{lines_in, tasks_in, answers_in, carried_all}
use Rattle.xa_tables.proofs.Reopening.{left_on}
use Rattle.xa_tables.specs.{tables_after, reopened, left_by}
use Rattle.xa_scan.specs.{ScanView}
use Rattle.script_transcript.proofs.Worth.{found_manager}

-- one of what was told: what was kept under the number at first was collected with this code
abbrev pub IsTold : DeskView → DeskView → ℕ × Code → Type 0
IsTold first now x =
    (o : Operation) × (finmap.get first.kept x.0 ≡ Some o) × (1 ≤ o.manager) × Contains
    (ledger now.ledgers o.manager).collected (o.number, x.1)

told_on : (first now next : DeskView) → HaveGrown now.ledgers next.ledgers → (x : ℕ × Code) → IsTold first now x
    → IsTold first next x
told_on first now next grown x (o, at, low, there) =
    let more = (grown.each o.manager low).collected in
    (o, at, low, rw more.1 (Contains-append_left (ledger now.ledgers o.manager).collected more.0 (o.number, x.1) there))

-- the numbers from 1 to n were ended, and nothing was sent
pub record HaveEnded (n : ℕ) (first now : DeskView) (told : List (ℕ × Code)) : Type 0 where
  pub others : (k : ℕ) → ((1 ≤ k) × (k ≤ n) → ⊥) → finmap.get now.kept k ≡ finmap.get first.kept k
  pub coded : All (IsTold first now) told
  pub within : All (λ x. (1 ≤ x.0) × (x.0 ≤ n)) told
  pub all : (k : ℕ) (o : Operation) → 1 ≤ k → k ≤ n → finmap.get first.kept k ≡ Some o
      → Contains (map (λ x. x.0) told) k
  pub rising : AllPairs (λ x y. x.0 < y.0) told
  pub sent : (m : ℕ) → (ledger now.ledgers m).sent ≡ (ledger first.ledgers m).sent

-- one more number that kept something
module _ (n : ℕ) (first now next : DeskView) (told : List (ℕ × Code)) (h : HaveEnded n first now told) where
  fresh : (1 ≤ n + 1) × (n + 1 ≤ n) → ⊥
  fresh within = let high = within.1 in omega (arith, high)

  ended_kept : (o : Operation) (c : Code) → HasTaken o (n + 1) c now next
      → HaveEnded (n + 1) first next (told ++ (n + 1, c) ∷ [])
  ended_kept o c takes =
      let numbers = map (λ (x : ℕ × Code). x.0) told in
      let this : IsTold first next (n + 1, c) = (
        o,
        sym (h.others (n + 1) fresh) ∙ takes.kept,
        takes.out.known.positive,
        collected_at now.ledgers next.ledgers next.ledgers o c takes.out.known takes.ledgers (same_begins _),
      ) in
      let grown : HaveGrown now.ledgers next.ledgers = rw takes.ledgers (collecting_grows now.ledgers o c) in
      record {
        others = search (arith, removed_other);
        coded = All-push (IsTold first next) told (n + 1, c)
            (λ k d below. told_on first now next grown _ (h.coded k d below)) this;
        within = All-push (λ x. (1 ≤ x.0) × (x.0 ≤ n + 1)) told (n + 1, c)
            (λ k d below. let w = h.within k d below in (w.0, let high = w.1 in omega (arith, high)))
            (omega arith, omega arith);
        all =
            λ k p low high at. rw (map-append (λ (x : ℕ × Code). x.0) told ((n + 1, c) ∷ []))
            (elim (cases_eq k (n + 1)) [
              | inl same ↦ rw same (Contains-push numbers (n + 1))
              | inr differs ↦ Contains-append_left numbers ((n + 1) ∷ []) k
                  (h.all k p low (omega (arith, high, differs)) at)
            ]);
        rising = pairs_push (λ x y. x.0 < y.0) told (n + 1, c) h.rising
            (λ k d below. let w = h.within k d below in let high = w.1 in omega (arith, high));
        sent = λ m. collecting_sends_none now.ledgers next.ledgers o c takes.ledgers m ∙ h.sent m;
      }

  -- and one that kept nothing
  ended_free : finmap.get now.kept (n + 1) ≡ None → HaveEnded (n + 1) first now told
  ended_free empty = search (arith, cases_eq, not_both, fresh)

one_ended : (n : ℕ) (first : DeskView) (now next : DeskWithCodes) → HaveEnded n first now.0 now.1
    → EndsNumber (n + 1) now next
    → HaveEnded (n + 1) first next.0 next.1
one_ended n first now next h (EndsNumber.kept c takes pushed) =
    rw pushed (ended_kept n first now.0 next.0 now.1 h takes.operation c (has_redeemed now.0 next.0 (n + 1) c takes))
one_ended n first now next h (EndsNumber.free empty same) = rw same (ended_free n first now.0 now.0 now.1 h empty)

-- the numbers of a chain
pub numbers_ended : (first : DeskView) (ks : List ℕ) (last : DeskWithCodes) → Chain EndsNumber (first, []) ks last
    → (n : ℕ)
    → ks ≡ range_with_len 1 n
    → HaveEnded n first last.0 last.1
numbers_ended first ks last (none xs l e f) zero same =
    subst (λ (x : DeskWithCodes). HaveEnded 0 first x.0 x.1) (sym f) (search (arith, All-nil))
numbers_ended first ks last (none xs l e f) (suc n) same =
    absurd (let size = ap (λ (l : List ℕ). length l) (sym e ∙ same) in omega (arith, size))
numbers_ended first ks last (more xs x now l before is) zero same =
    absurd (let size = ap (λ (l : List ℕ). length l) same in omega (arith, size, length-append xs (x ∷ [])))
numbers_ended first ks last (more xs x now l before is) (suc n) same =
    let parts = snoc_parts xs (range_with_len 1 n) x (1 + n) (same ∙ range_suc 1 n) in
    let number : x ≡ n + 1 = let last_one = parts.1 in omega (arith, last_one) in
    let next_one : n + 1 ≡ suc n = omega arith in
    rw (← next_one) (one_ended n first now l (numbers_ended first xs now before n parts.0) (rw (← number) is))

-- where nothing was sent, nothing is outstanding, and so all of it is kept
unsent_kept : (d : DeskView) → ((m : ℕ) → (ledger d.ledgers m).sent ≡ []) → AllKept d
unsent_kept d unsent = record {
  each = λ o out.
      let size : length (ledger d.ledgers o.manager).sent ≡ 0 = ap (λ l. length l) (unsent o.manager) in
      absurd (omega (arith, out.sent, size));
}

-- ---- what is left at the end

-- what was kept after the last task was collected with the codes that the journals have
are_left : (settled : Settling) (is : IsSettled settled) (t : ℕ) (last : DeskView) (e : EndedView)
    (outstanding : List (ℕ × Code))
    → EndsDesk last [] e outstanding
    → ledgers_of settled t ≡ e.ledgers
    → AreHandlesLeft settled t last.kept outstanding
    × ((m : ℕ) → (ledger last.ledgers m).sent ≡ (ledger (ledgers_of settled t) m).sent)
are_left settled is t last e outstanding ends own =
    let h : HaveEnded last.handles last ends.emptied outstanding =
    numbers_ended last (range_with_len 1 last.handles) (ends.emptied, outstanding) ends.collects last.handles refl in
    let ledgers : ledgers_of settled t ≡ ends.emptied.ledgers = own ∙ ends.ends.ledgers in (
      record {
        coded = λ k d below.
            let (o, at, low, there) = h.coded k d below in
            let code = (slice_index_or outstanding k d).1 in (
              o,
              at,
              All-contains (StandsAt (own_entries settled is t o.manager))
                  (ledger (ledgers_of settled t) o.manager).collected (o.number, code)
                  (fits settled is t o.manager low).coded
                  (rw ledgers there),
            );
        all = λ k o at. elim (cases_lt 0 k) [
          | inr none_low ↦ absurd
              (not_both (finmap.get ends.emptied.kept k) o (ends.none k)
              (h.others k (λ within. let low = within.0 in omega (arith, low, none_low)) ∙ at))
          | inl low ↦ elim (cases_lt last.handles k) [
            | inl past ↦ absurd
                (not_both (finmap.get ends.emptied.kept k) o (ends.none k)
                (h.others k (λ within. let high = within.1 in omega (arith, high, past)) ∙ at))
            | inr high ↦ h.all k o (omega (arith, low)) high at
          ]
        ];
        rising = h.rising;
      },
      λ m. sym (h.sent m) ∙ ap (λ (l : List LedgerView). (ledger l m).sent) (sym ledgers),
    )

-- ---- logs

abbrev log_in : LogState → Option Session → LogState
log_in log None = log
log_in log (Some x) = log_state x.log

-- the log of thread t after an opening that began so and left these threads
abbrev pub log_left : Beginning → List Session → ℕ → LogState
log_left b left zero = b.logs zero
log_left b left (suc k) = log_in (b.logs (suc k)) (slice_get left k)

pub log_there : (b : Beginning) (left : List Session) (k : ℕ) (x : Session) → slice_get left k ≡ Some x
    → log_state x.log ≡ log_left b left (suc k)
log_there b left k x at = sym (ap (log_in (b.logs (suc k))) at)

-- ---- flags

-- a desk's flags are those of its plan
flags_planned : (at : List LedgerView)
    → map (λ (p : Bool × ℕ). p.0) (plans at) ≡ map (λ (a : LedgerView). a.carries_async) at
flags_planned at = map-map (λ (p : Bool × ℕ). p.0) _ at

new_flags : (plan : ℕ) (flags : List Bool) → map (λ (a : LedgerView). a.carries_async) (new_ledgers plan flags) ≡ flags
new_flags plan [] = refl
new_flags plan (b ∷ flags) = ap (λ l. b ∷ l) (new_flags plan flags)

first_there : (es : List EndedView) (e : EndedView) → slice_get es 0 ≡ Some e
    → first_ledgers (map thread_part es) ≡ e.ledgers
first_there [] e at = absurd (cc)
first_there (d ∷ es) e at = let same : d ≡ e = cc in ap (λ (x : EndedView). x.ledgers) same

module _ (s : Content) (b : Beginning) (steps : List ScriptStep) (answers : List TranscriptLine)
    (sessions left : List Session)
    (workers : List WorkerView)
    (ended : List EndedView) (done : List Served)
    (r : OpeningRan s b steps answers sessions left workers ended done) where
  abbrev settled : Settling
  settled = settling ended done

  -- what an ended desk has of its thread and its lane
  comes_thread : (x y : Session) (e : EndedView) → ThreadComes steps answers x y e → e.thread ≡ x.desk.thread
  comes_thread x y e c =
      c.ends.ends.thread
      ∙ ap (λ (x : DeskSeat). x.thread) (c.ends.goes_on.seat
      ∙ along (λ (z : Session × List TranscriptLine). seat_of_desk z.0.desk ≡ seat_of_desk x.desk) (x, []) _
      (y, answers_to x.desk.thread answers) c.runs (λ _ _ _ is same. is.does.goes_on.seat ∙ same) refl)

  -- the thread of an ended desk, and the opened worker of one that has run
  thread_of_ended : (k : ℕ) (e : EndedView) → slice_get ended k ≡ Some e
      → (x : Session) × (slice_get sessions k ≡ Some x) × (y : Session) × ThreadComes steps answers x y e
  thread_of_ended k e at =
      let within = slice_get_within ended k e at in
      let x = got sessions k (omega (arith, within, r.many_ended)) in
      let y = got left k (omega (arith, within, r.many_ended, r.many_left)) in
      (x.0, x.1, y.0, r.threads k x.0 y.0 e x.1 y.1 at)

  worker_of : (k : ℕ) (d : Served) → slice_get done k ≡ Some d
      → (w : WorkerView) × (slice_get workers k ≡ Some w) × HasServed w d
  worker_of k d at =
      let w = got workers k (omega (arith, slice_get_within done k d at, r.managers.as_many)) in
      (w.0, w.1, r.managers.each k w.0 d w.1 at)

  desk_at : (k : ℕ) (x : Session) → slice_get sessions k ≡ Some x
      → slice_get (map (λ (x : Session). x.desk) sessions) k ≡ Some x.desk
  desk_at k x at = slice_get-map (λ (x : Session). x.desk) sessions k ∙ ap (option_map (λ (x : Session). x.desk)) at

  pub new_desk_at : (k : ℕ) (x : Session) → slice_get sessions k ≡ Some x → IsNewDesk r.opened.setup k x.desk
  new_desk_at k x at = r.opened.opened.desks k x.desk (desk_at k x at)

  thread_at : (k : ℕ) (x : Session) → slice_get sessions k ≡ Some x → x.desk.thread ≡ k + 1
  thread_at k x at =
      opened_thread s b.opening b.tables (map (λ (x : Session). x.desk) sessions) workers r.opened k x.desk
      (desk_at k x at)

  ended_thread : (k : ℕ) (e : EndedView) → slice_get ended k ≡ Some e → e.thread ≡ k + 1
  ended_thread k e at = let x = thread_of_ended k e at in comes_thread x.0 x.2 e x.3 ∙ thread_at k x.0 x.1

  done_number : (k : ℕ) (d : Served) → slice_get done k ≡ Some d → d.number ≡ k + 1
  done_number k d at =
      let w = worker_of k d at in
      let new = r.opened.opened.workers k w.0 w.1 in w.2.same.number ∙ ap (λ (x : WorkerView). x.number) new.made

  -- the managers of the settled opening are the script's
  pub of_script : AreOfScript s b.tables (map manager_part done)
  of_script = record {
    many = length-map done manager_part ∙ r.managers.as_many
        ∙ opened_managers s b.opening b.tables (map (λ (x : Session). x.desk) sessions) workers r.opened;
    numbers = λ k p at. let d = was_mapped manager_part done k p at in ap (λ (x : ManagerPart). x.number) (sym d.2)
        ∙ done_number k d.0 d.1;
    first = λ k p at.
        let d = was_mapped manager_part done k p at in
        let w = worker_of k d.0 d.1 in
        ap (λ (x : ManagerPart). x.first) (sym d.2) ∙ w.2.same.first
        ∙ opened_first s b.opening b.tables r.opened.setup r.opened.said k w.0 (r.opened.opened.workers k w.0 w.1);
  }

  -- ---- what is carried out

  found_thread : (k : ℕ) (e : EndedView) → slice_get ended k ≡ Some e
      → find_thread (k + 1) (map thread_part ended) ≡ Some (thread_part e)
  found_thread k e at =
      let place : 0 + k + 1 ≡ k + 1 = omega arith in
      ap (λ n. find_thread n (map thread_part ended)) (sym place)
      ∙ find_numbered (λ (p : ThreadPart). p.thread) 0 (map thread_part ended)
      (λ j p at_p. let f = was_mapped thread_part ended j p at_p in let thread = ended_thread j f.0 f.1 in let same = ap
      (λ (x : ThreadPart). x.thread) f.2 in omega (arith, thread, same)) k (thread_part e)
      (slice_get-map thread_part ended k ∙ ap (option_map thread_part) at)

  no_thread : (t : ℕ) → ((k : ℕ) (x : Session) → slice_get sessions k ≡ Some x → x.desk.thread ≢ t)
      → find_thread t (map thread_part ended) ≡ None
  no_thread t none_there =
      find_none (λ (p : ThreadPart). p.thread) t (map thread_part ended) (λ k p at same.
      let e = was_mapped thread_part ended k p at in
      let x = thread_of_ended k e.0 e.1 in
      let there = thread_at k x.0 x.1 in
      let own = ap (λ (x : ThreadPart). x.thread) e.2 in
      none_there k x.0 x.1 (omega (arith, there, ended_thread k e.0 e.1, own, same)))

  module _ (is : IsSettled (settling ended done)) where
    made : (k : ℕ) (x : Session) → slice_get sessions k ≡ Some x
        → x.desk.ledgers ≡ new_ledgers r.opened.setup.numbers.requests r.opened.setup.use_async
    made k x at = let new = new_desk_at k x at in ap (λ (d : DeskView). d.ledgers) new.made

    -- with the log that it has after them
    abbrev Carried : ℕ → Type 0
    Carried t = (c : AreCarriedOut steps answers settled t (part_at b t)) × (c.log ≡ log_left b left t)

    -- of a thread that there is
    thread_carried : (k : ℕ) (x : Session) → slice_get sessions k ≡ Some x → Carried (suc k)
    thread_carried k x at =
        let within = slice_get_within sessions k x at in
        let e = got ended k (omega (arith, within, r.many_ended)) in
        let y = got left k (omega (arith, within, r.many_left)) in
        let c : ThreadComes steps answers x y.0 e.0 = r.threads k x y.0 e.0 at y.1 e.1 in
        let own = thread_at k x at in
        let t : x.desk.thread ≡ suc k = omega (arith, own) in
        let begins = r.begins k x at in
        let next : k + 1 ≡ suc k = omega arith in
        let ended_so : ledgers_of settled x.desk.thread ≡ e.0.ledgers =
        ap ledgers_in (ap (λ n. find_thread n (map thread_part ended)) own ∙ found_thread k e.0 e.1) in
        let tasks = tasks_of x.desk.thread steps in
        let last : Session × List TranscriptLine = (y.0, answers_to x.desk.thread answers) in
        let log : log_state x.log ≡ b.logs (suc k) = begins.log ∙ ap b.logs next in
        let scan : x.scan ≡ b.scans (suc k) = begins.scan ∙ ap b.scans next in
        let left_so = are_left settled is x.desk.thread y.0.desk e.0 c.outstanding c.ends ended_so in
        let new = new_desk_at k x at in
        let fresh : (m : ℕ) → (ledger x.desk.ledgers m).sent ≡ [] = λ m.
        ap (λ (l : List LedgerView). (ledger l m).sent) (made k x at)
        ∙ fresh_sent r.opened.setup.numbers.requests r.opened.setup.use_async (m - 1) in
        let chain =
        carried_all settled is x.desk.thread (x, []) fresh
        (λ m. ap (λ (l : List LedgerView). (ledger l m).collected) (made k x at)
        ∙ fresh_collected r.opened.setup.numbers.requests r.opened.setup.use_async (m - 1))
        (ap (λ (d : DeskView). d.kept) new.made)
        (unsent_kept x.desk fresh) begins.known
        tasks last c.runs (tasks_are_of x.desk.thread steps) (rw (ended_so ∙ c.ends.ends.ledgers) c.ends.goes_on.lists)
        left_so.1 in
        subst
        (λ (u : ℕ). (c : AreCarriedOut steps answers settled u (part_at b (suc k)))
        × (c.log ≡ log_left b left (suc k))) t (
          record {
            lines = lines_in (x, []) tasks last c.runs;
            tasks = tasks_in (x, []) tasks last c.runs;
            told = answers_in (x, []) tasks last c.runs refl;
            left = y.0.desk.kept;
            log = log_state y.0.log;
            is_lost = y.0.log.is_lost;
            scan = y.0.scan;
            carried = subst
                (λ (p : Part). Chain (TakesPart settled) p (lines_in (x, []) tasks last c.runs)
                (record {
                  entries = λ m. entries_of x.desk.thread (journal settled m);
                  handles = y.0.desk.kept;
                  log = log_state y.0.log;
                  is_lost = y.0.log.is_lost;
                  scan = y.0.scan;
                }))
                (λ i. new_part (log i) (scan i)) chain;
            outstanding = c.outstanding;
            are_left = left_so.0;
            ends = c.told;
          },
          log_there b left k y.0 y.1,
        )

    -- of one that there isn't
    other_carried : (t : ℕ) → ((k : ℕ) (x : Session) → slice_get sessions k ≡ Some x → x.desk.thread ≢ t)
        → b.logs t ≡ log_left b left t → Carried t
    other_carried t none_there log =
        let silent = no_tasks t (threads_of s) (managers_of s) steps r.fits (λ low high.
        let many = opened_threads s b.opening b.tables (map (λ (x : Session). x.desk) sessions) workers r.opened in
        let as_many = length-map sessions (λ (x : Session). x.desk) in
        let x = got sessions (t - 1) (omega (arith, low, high, many, as_many)) in
        none_there (t - 1) x.0 x.1 (omega (arith, thread_at (t - 1) x.0 x.1, low))) in (
          record {
            lines = [];
            tasks = sym silent;
            told = sym (r.others t none_there silent).0;
            left = finmap.empty;
            log = b.logs t;
            is_lost = false;
            scan = b.scans t;
            carried =
                let nothing_there : (m : ℕ) → entries_of t (journal settled m) ≡ [] = λ m.
                let nothing_sent : sent settled t m ≡ [] =
                ap (λ o. sent_to (ledgers_in o) m) (no_thread t none_there) ∙ nobody_sent m in
                let fits =
                agreed_fits t (sent settled t m) (collected settled t m) (journal settled m) (is.agree t m) in
                no_entries t (collected settled t m) (entries_of t (journal settled m)) (rw nothing_sent at fits) in
                none []
                (record {
                  entries = λ m. entries_of t (journal settled m);
                  handles = finmap.empty;
                  log = b.logs t;
                  is_lost = false;
                  scan = b.scans t;
                }) refl
                (λ i.
                record {
                  entries = λ m. nothing_there m i;
                  handles = finmap.empty;
                  log = b.logs t;
                  is_lost = false;
                  scan = b.scans t;
                });
            outstanding = [];
            are_left = record {
              coded = All-nil
                  (λ (x : ℕ × Code). (o : Operation) × (finmap.get finmap.empty x.0 ≡ Some o) × HasCode settled t o
                  x.1);
              all = λ k o at. absurd (not_both (finmap.get finmap.empty k) o (finmap.get-empty nat_cmp k) at);
              rising = λ i j d below within. absurd (omega (arith, within));
            };
            ends = (r.others t none_there silent).1;
          },
          log,
        )

    -- of each
    pub all_carried : (t : ℕ) → Carried t
    all_carried zero =
        other_carried 0 (λ k x at same. let thread = thread_at k x at in omega (arith, thread, same)) refl
    all_carried (suc k) =
        ⊎_elim
        (λ (h : (x : Session) × (k < length sessions) × (slice_get sessions k ≡ Some x)
        × (slice_index_or sessions k x ≡ x)). thread_carried k h.0 h.2)
        (λ (h : (length sessions ≤ k) × (slice_get sessions k ≡ None)).
        other_carried (suc k)
        (λ j x at same. let within = slice_get_within sessions j x at in let thread = thread_at j x at in let
        past = h.0 in omega (arith, within, thread, past, same))
        (let past = h.0 in let as_many = r.many_left in sym
        (ap (log_in (b.logs (suc k))) (slice_get_past left k (omega (arith, past, as_many))))))
        (slice_get_cases sessions k).1

  -- what the answers tell
  pub tells : IsSettled (settling ended done)
      → TellsOf s b (record { steps = steps; answers = answers; settled = settling ended done })
  tells is = record { agree = is; managers = of_script; carried = λ t. (all_carried is t).0 }

  -- ---- what it leaves to the next one

  -- the flags are kept
  flags_kept : flags_in settled ≡ r.opened.setup.use_async
  flags_kept =
      let threads = r.opened.said.limits.threads.0 in
      let as_many = length-map sessions (λ (x : Session). x.desk) in
      let x = got sessions 0 (omega (arith, threads, r.opened.opened.threads, as_many)) in
      let y = got left 0 (omega (arith, threads, r.opened.opened.threads, as_many, r.many_left)) in
      let e = got ended 0 (omega (arith, threads, r.opened.opened.threads, as_many, r.many_ended)) in
      let c : ThreadComes steps answers x.0 y.0 e.0 = r.threads 0 x.0 y.0 e.0 x.1 y.1 e.1 in
      let new : IsNewDesk r.opened.setup 0 x.0.desk = new_desk_at 0 x.0 x.1 in
      let plan : plans e.0.ledgers ≡ plans x.0.desk.ledgers =
      ap plans c.ends.ends.ledgers ∙ c.ends.goes_on.plan
      ∙ along (λ (z : Session × List TranscriptLine). plans z.0.desk.ledgers ≡ plans x.0.desk.ledgers) (x.0, []) _
      (y.0, answers_to x.0.desk.thread answers) c.runs (λ _ _ _ is same. is.does.goes_on.plan ∙ same) refl in
      ap (map (λ (a : LedgerView). a.carries_async)) (first_there ended e.0 e.1)
      ∙ sym (flags_planned e.0.ledgers) ∙ ap (map (λ (p : Bool × ℕ). p.0)) plan ∙ flags_planned x.0.desk.ledgers
      ∙ ap (λ (d : DeskView). map (λ (a : LedgerView). a.carries_async) d.ledgers) new.made
      ∙ new_flags r.opened.setup.numbers.requests r.opened.setup.use_async

  pub as_many_managers : managers_in settled ≡ managers_of s
  as_many_managers =
      ap (λ l. length l) (flags_kept ∙ r.opened.said.use_async)
      ∙ length-map-range_with_len (declares_async s) 1 (managers_of s)

  -- what the next one is made with
  pub again_setup : (again : Again) → AreNumbersOf s (suc b.opening) again → MayReopen settled again
      → IsSetupOf s (suc b.opening) (reopened_at settled.managers) (reopening settled again)
  again_setup again numbers may = search (arith, as_many_managers, flags_kept, range_with_len)

  -- and that it may be
  pub may_reopen : (again : Again) → AreNumbersOf s (suc b.opening) again → settled.opening ≡ b.opening
      → MayReopen settled again
  may_reopen again numbers own = search (arith, as_many_managers, numbers.opening_)

  -- ---- what it begins with

  -- the threads with the logs that are left, and with these scans
  abbrev pub next_beginning : (ℕ → ScanView) → Beginning
  next_beginning scans =
      record { opening = suc b.opening; tables = reopened_at settled.managers; logs = log_left b left; scans = scans }

  -- the tables are those that are left
  tables_left : IsSettled settled → (m : ℕ) → 1 ≤ m → m ≤ managers_of s
      → reopened_at settled.managers m ≡ reopened (tables_after (history settled m) (b.tables m))
  tables_left is m low high =
      let p = found_manager s b.tables settled.managers of_script m low high in
      let follows : FollowsTables p.0 = all_at FollowsTables settled.managers (m - 1) p.0 is.tables p.3 in
      ap (λ o. reopened (last_in o)) p.1
      ∙ ap reopened (follows.left ∙ (λ i. tables_after (requests (journal_in (sym p.1 i))) (p.2 i)))

  pub leaves : IsSettled settled → (line : ℕ) (scans : ℕ → ScanView)
      → ((t : ℕ) → 1 ≤ t → t ≤ threads_of s → IsScanOf settled (scans t))
      → Leaves s (record { opening = record { steps = steps; answers = answers; settled = settled }; line = line }) b
      (next_beginning scans)
  unfolding tells
  leaves is line scans are = record {
    tells = tells is;
    opening = refl;
    tables = tables_left is;
    logs = λ t. sym (all_carried is t).1;
    scans = are;
  }

-- ---- over openings

-- the tables with which an opening begins are those after the openings before it
pub begins_after : (s : Content) (before : List Former) (b : Beginning) → Chain (Leaves s) (beginning s) before b
    → (m : ℕ) → 1 ≤ m → m ≤ managers_of s
    → b.tables m ≡ opened_after s (map (λ f. f.opening.settled) before) m
begins_after s before b (none fs last e f) m low high =
    ap (λ (x : Beginning). x.tables m) f
    ∙ ap (λ (l : List Former). opened_after s (map (λ f. f.opening.settled) l) m) (sym e)
begins_after s before b (more fs f now last earlier is) m low high =
    let settled : List Settling = map (λ (g : Former). g.opening.settled) fs in
    is.tables m low high
    ∙ ap (λ T. reopened (tables_after (history f.opening.settled m) T)) (begins_after s fs now earlier m low high)
    ∙ sym (left_on (histories_at settled m) (history f.opening.settled m) (opened s m))
    ∙ sym
    (ap (λ l. left_by l (opened s m)) (map-append (λ (o : Settling). history o m) settled (f.opening.settled ∷ [])))
    ∙ sym (ap (λ l. opened_after s l m) (map-append (λ (g : Former). g.opening.settled) fs (f ∷ [])))

-- so its managers are those of the script after the openings before it
pub of_script_after : (s : Content) (before : List Former) (b : Beginning) → Chain (Leaves s) (beginning s) before b
    → (managers : List ManagerPart)
    → AreOfScript s b.tables managers
    → AreOfScript s (opened_after s (map (λ f. f.opening.settled) before)) managers
of_script_after s before b chain managers is = search (arith, slice_get_within, begins_after, is.many, is.first)
