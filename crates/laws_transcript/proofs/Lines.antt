-- A thread's lines put its entries into the journals, line by line.
use Rattle.xa_base.proofs.{Bool, rules, ◌≡◌, ℕ, ◌-◌, ◌<◌, ◌≤◌, ⊎_elim, zero, suc, true, false, ◌==◌, List, [], ◌∷◌}
use Rattle.xa_base.proofs.{◌++◌, length, map, take, None, Some, inl, inr, sym, refl, ap, ◌∙◌, arith, All, get_or}
use Rattle.xa_base.proofs.{if◌then◌else◌, eqb-true, eqb-false, map-append, take_all, All-contains, All-nil, all_left}
use Rattle.xa_base.proofs.{all_mid, take-nil}
use Rattle.std.specs.FinMap as finmap
use Rattle.xa_base.specs.{Chain}
use Rattle.xa_base.specs.Lists.Chain.{none, more}
use Rattle.xa_words.specs.{check_flags, managers_of_set, TranName, Death, Op, Code}
use Rattle.xa_words.specs.declared.flags.Call.TheVariants as call
use Rattle.xa_desk.specs.{DeskView, IsKnown, IsOut, is_known, ledger, next_operation, after_sent, HaveGrown, AllKept}
use Rattle.xa_desk.specs.{learnt_shut, LedgerView}
use Rattle.xa_desk.proofs.Ledgers.{growing_on, ledger-sent_other, ledger-sent_same}
use Rattle.xa_worker.specs.{Entry}
use Rattle.xa_scan.specs.{ScanView}
use Rattle.xa_calls.specs.{Answers as Reaches}
use Rattle.xa_calls.specs.Scans.Answers.{refused as unreached, answered as reached}
use Rattle.xa_switch.specs.{Settling, IsSettled}
use Rattle.xa_log.specs.{AppendsTo, IsEither, LogState, LogView, record_of}
use Rattle.xa_log.proofs.Trials.{lost_itself}
use Rattle.xa_driver.specs.{Branch, CommitOutcome, LastKnown, CameTo, ComesTo, IsOfRound, sent_so_far, LeavesHandles}
use Rattle.xa_driver.specs.{LeavesTheDesk, PutsLedger, AsksLedger, TellsTheLog, IsTranOf, HasRoom, yes_of}
use Rattle.xa_driver.specs.declared.done.CommitOutcome.TheVariants as outcome
use Rattle.script_grammar.specs.{CommitAll, ScriptCalled, ScriptAction, ScriptTask}
use Rattle.script_grammar.specs.declared.step.Action.TheVariants as action
use Rattle.script_transcript.specs.{Answer, TranscriptLine}
use Rattle.script_session.specs.{Session, HasListed, named, branch_of_commit, branches_of, log_state, thread_log}
use Rattle.script_session.specs.{ThreadLog, CommitsAll, ResolvesLeft, Executes, HasDone, told_of}
use Rattle.laws_transcript.specs.{CommitTakes, KeepsHandles, KeepsInFlight, LeavesTheLog, in_flight_at, Line, TaskTakes}
use Rattle.laws_transcript.specs.{TakesPart, Part, next_entry, new_part, PartAsked, Lists, CallTakes, ResolveTakes}
use Rattle.laws_transcript.proofs.Branches.{last, own, fits, nobody, same_entries, rooms, comes_so, resolved_so}
use Rattle.laws_transcript.proofs.Branches.{resolved_sound, at_each, all_in_flight}
use Rattle.laws_transcript.proofs.Calls.{CallDoes, plain, lists, Does, answered, kept, refused as call_refused}
use Rattle.laws_transcript.proofs.Calls.{completes, answers_do, is_refusal}
use Rattle.xa_calls.proofs.Morphisms.{Carries, Morphism, by_mapped, stays}
use Rattle.xa_driver.proofs.Mapped.{Any}
use Rattle.laws_transcript.proofs.Entries.{StandsAt, collected_at, enters, enters_coded, fails, many_entries, many_upto}
use Rattle.laws_transcript.proofs.Entries.{upto, AllSound, asking_grows, asking_sound, collecting_sends_none}
use Rattle.laws_transcript.proofs.Entries.{collecting_sound, sending_sound}
use Rattle.xa_calls.proofs.Kept.{Handles}
use Rattle.xa_calls.proofs.Effects.{HasAsked, has_asked}
use Rattle.laws_transcript.proofs.Opened.{AreOf}

-- a thread's log loses its append itself, since the log in memory loses none
lost_log : (old new : ThreadLog) (t : TranName) (voted : List Bool) → thread_log.loses t voted old new
    → (new.is_lost ≡ true) × IsEither (log_state old) (log_state new) t voted
lost_log old new t voted it =
    lost_itself (λ (l : LogView). l.state) (λ (l : LogView). Unit {0}) AppendsTo (λ tran yes old new. ⊥) t voted old new
    it tt

-- ---- the lines of a thread

-- a thread as it goes on, and its answers so far
abbrev State : Type 0
State = Session × List TranscriptLine

-- each task with its answer
abbrev line : ScriptTask → Answer → Line
line p a = record { task = p; answer = a }

abbrev pub lines_in : (first : State) (tasks : List ScriptTask) (last : State) → Chain HasDone first tasks last
    → List Line
lines_in first tasks last (none xs l e f) = []
lines_in first tasks last (more xs x now l before is) = lines_in first xs now before ++ line x is.answer ∷ []

pub tasks_in : (first : State) (tasks : List ScriptTask) (last : State) (runs : Chain HasDone first tasks last)
    → map (λ l. l.task) (lines_in first tasks last runs) ≡ tasks
tasks_in first tasks last (none xs l e f) = sym e
tasks_in first tasks last (more xs x now l before is) = search (arith, tasks_in first xs now before, map-append)

pub answers_in : (first : State) (tasks : List ScriptTask) (last : State) (runs : Chain HasDone first tasks last)
    → first.1 ≡ []
    → map (λ l. told_of l.task l.answer) (lines_in first tasks last runs) ≡ last.1
answers_in first tasks last (none xs l e f) start = sym (ap (λ (s : State). s.1) f ∙ start)
answers_in first tasks last (more xs x now l before is) start =
    search (arith, answers_in first xs now before start, map-append)

-- the transaction that may be committed isn't logged yet
not_logged : (c : CommitAll TranName) (ms : List ℕ) (log : LogState) (t : TranName)
    → 1 ≤ length (map (branch_of_commit c) ms)
    → IsTranOf (map (branch_of_commit c) ms) t
    → record_of log t ≡ None → record_of log (named c) ≡ None
not_logged c [] log t some of absent = absurd (omega (arith, some))
not_logged c (m ∷ ms) log t some of absent = ap (record_of log) of.0 ∙ absent

-- what a line does to its thread's part
module _ (settled : Settling) (is : IsSettled settled) (t : ℕ) where
  abbrev ended : List LedgerView
  ended = last settled is t

  abbrev so_far : List LedgerView → ℕ → List Entry
  so_far at m = upto (own settled is t m) (ledger at m)

  -- a thread's part in the journals, by its desk, its log and its scans
  abbrev part_at : ThreadLog → ScanView → DeskView → Part
  part_at log scan d =
      record { entries = so_far d.ledgers; handles = d.kept; log = log_state log; is_lost = log.is_lost; scan = scan }

  abbrev part_of : Session → Part
  part_of x = part_at x.log x.scan x.desk

  many : (at : List LedgerView) (m : ℕ) → 1 ≤ m → HaveGrown at ended → length (so_far at m) ≡ length (ledger at m).sent
  many at m low grown =
      many_upto t (ledger ended m) (own settled is t m) (fits settled is t m low) (ledger at m) (grown.each m low).sent

  -- one more entry at a manager, and none elsewhere
  one_entered : (at at' : List LedgerView) (m : ℕ) (op : Op) (c : Code) → IsKnown at m
      → ((n : ℕ) → (ledger at' n).sent ≡ (ledger (after_sent at m op) n).sent)
      → so_far at' m ≡ so_far at m ++ next_entry t (so_far at m) op c ∷ []
      → (n : ℕ) → so_far at' n ≡ (if n == m then so_far at n ++ next_entry t (so_far at n) op c ∷ [] else so_far at n)
  one_entered at at' m op c known sent here n = search (arith, eqb-true, same_entries, ledger-sent_other, eqb-false)

  sent_now : (at at' : List LedgerView) (m : ℕ) (op : Op) → IsKnown at m
      → ((n : ℕ) → (ledger at' n).sent ≡ (ledger (after_sent at m op) n).sent)
      → (ledger at' m).sent ≡ (ledger at m).sent ++ op ∷ []
  sent_now at at' m op known sent = sent m ∙ ap (λ (a : LedgerView). a.sent) (ledger-sent_same at m op known m refl)

  -- where the manager is asked it has the code
  asked_entered : (m : ℕ) (op : Op) (c : Code) (old new : DeskView) → HasAsked m op c old new
      → HaveGrown new.ledgers ended
      → (n : ℕ)
      → so_far new.ledgers
      n ≡ (if n == m then so_far old.ledgers n ++ next_entry t (so_far old.ledgers n) op c ∷ [] else so_far
      old.ledgers n)
  asked_entered m op c old new asked later =
      let low = asked.known.positive in
      let mid = after_sent old.ledgers m op in
      let o = next_operation old.ledgers m in
      let sent = collecting_sends_none mid new.ledgers o c asked.ledgers in
      let got = collected_at mid new.ledgers ended o c asked.out.known asked.ledgers (later.each m low).collected in
      one_entered old.ledgers new.ledgers m op c asked.known sent
      (enters_coded t (ledger ended m) (own settled is t m) (fits settled is t m low) (ledger old.ledgers m)
      (ledger new.ledgers m) op (sent_now old.ledgers new.ledgers m op asked.known sent) (later.each m low).sent c
      got)

  -- ---- a call

  -- what a call does, and that each request that was collected still was sent
  module _ (q : ScriptCalled) (a : Answer) (old new : Session) (sound : AllSound old.desk.ledgers)
      (was : HaveGrown old.desk.ledgers ended)
      (later : HaveGrown new.desk.ledgers ended) (log : new.log ≡ old.log) where
    part_is : (es : ℕ → List Entry) (handles : Handles) → new.scan ≡ old.scan
        → ((m : ℕ) → so_far new.desk.ledgers m ≡ es m) → new.desk.kept ≡ handles
        → part_of new ≡ record (part_of old) { entries = es; handles = handles }
    part_is es handles still same held = search (arith, rules)

    does_takes : new.scan ≡ old.scan → Does q a old.desk new.desk
        → CallTakes settled t q a (part_of old) (part_of new) × AllSound new.desk.ledgers
    does_takes still (answered o c asks told asked) = (
      CallTakes.answered o c asks told
          (part_is _ old.desk.kept still (asked_entered q.manager o c old.desk new.desk asked later) asked.kept),
      asking_sound q.manager o c old.desk new.desk asked sound,
    )
    does_takes still (kept o k asks low told free known ledgers held) =
        let m = q.manager in
        let at = old.desk.ledgers in
        let sent : (n : ℕ) → (ledger new.desk.ledgers n).sent ≡ (ledger (after_sent at m o) n).sent =
        λ n. ap (λ (l : List LedgerView). (ledger l n).sent) ledgers in
        let e =
        enters t (ledger ended m) (own settled is t m) (fits settled is t m known.positive) (ledger at m)
        (ledger new.desk.ledgers m) o (sent_now at new.desk.ledgers m o known sent)
        (later.each m known.positive).sent in
        let number = many at m known.positive was in (
          CallTakes.kept o e.0 k asks low told free
              (part_is _ _ still (one_entered at new.desk.ledgers m o e.0 known sent e.2)
              (held ∙ ap (λ n. finmap.insert old.desk.kept k (record { manager = m; number = n })) (sym number))),
          rw ledgers (sending_sound at m o sound),
        )
    does_takes still (call_refused c why told stays) = (
      CallTakes.refused c why told (part_is _ _ still (λ m. ap (λ (l : List LedgerView). so_far l m) stays.0) stays.1),
      rw stays.0 sound,
    )
    does_takes still (completes o k c asks told takes) =
        let m = o.manager in
        let at = old.desk.ledgers in
        let low = takes.out.known.positive in
        let got =
        collected_at at new.desk.ledgers ended o c takes.out.known takes.ledgers (later.each m low).collected in
        let sent = collecting_sends_none at new.desk.ledgers o c takes.ledgers in (
          CallTakes.completes o k c asks takes.kept
              (All-contains (StandsAt (own settled is t m)) (ledger ended m).collected (o.number, c)
              (fits settled is t m low).coded got) told
              (part_is _ _ still (λ n. same_entries settled is t at new.desk.ledgers n (λ _. sent n)) takes.handles),
          rw takes.ledgers (collecting_sound at o c takes.out sound),
        )

    -- a request of an xa_recover
    abbrev Grows : DeskView → Type 0
    Grows d = HaveGrown d.ledgers ended

    asked_takes : (m : ℕ)
        → Morphism Any (Reaches m) (PartAsked t m) (part_at old.log old.scan) (λ d. AllSound d.ledgers) Grows
    asked_takes m = record { each = λ d e op c _ is. request_takes d e op c is }
      where
        request_takes : (d e : DeskView) (op : Op) (c : Code) → Reaches m d op e c
            → Carries (λ d. AllSound d.ledgers) Grows d e
            (PartAsked t m (part_at old.log old.scan d) op (part_at old.log old.scan e) c)
        request_takes d e op c (unreached why same) =
            stays same (PartAsked.refused (is_refusal d m false c why) (ap (part_at old.log old.scan) same))
        request_takes d e op c (reached admits times collects) =
            let asked = has_asked times m false d op e c admits collects in
            record {
              on = asking_sound m op c d e asked;
              back = growing_on d.ledgers e.ledgers ended (asking_grows m op c d e asked);
              over = λ _ grown. PartAsked.answered (λ i. record {
                entries = λ n. asked_entered m op c d e asked grown n i;
                handles = asked.kept i;
                log = log_state old.log;
                is_lost = old.log.is_lost;
                scan = old.scan;
              });
            }

    listed_takes : (n : ℕ) → HasListed q n old.desk old.scan new.desk new.scan a
        → Lists t q n a (part_of old) (part_of new) × AllSound new.desk.ledgers
    listed_takes n listed =
        let m = q.manager in
        let mapped =
        by_mapped (asked_takes m) (λ x. tt) old.desk old.scan listed.before new.desk new.scan listed.after
        (is_known old.desk.ledgers m) (check_flags call.Recover q.flags) m
        listed.recovers.result listed.recovers.recovers in (
          record {
            there = is_known old.desk.ledgers m;
            asked = part_at old.log old.scan new.desk;
            before = listed.before;
            after = listed.after;
            result = listed.recovers.result;
            room = listed.room;
            recovers = mapped.over sound later;
            stands = λ i.
                record {
                  entries = so_far new.desk.ledgers;
                  handles = new.desk.kept;
                  log = log_state (log i);
                  is_lost = (log i).is_lost;
                  scan = new.scan;
                };
            tells = rw listed.recovers.answered at listed.shown;
          },
          mapped.on sound,
        )

    call_takes_so : CallDoes q a old.desk old.scan new.desk new.scan
        → CallTakes settled t q a (part_of old) (part_of new) × AllSound new.desk.ledgers
    call_takes_so (plain still does) = does_takes still does
    call_takes_so (lists n asks listed) = let l = listed_takes n listed in (CallTakes.lists n asks l.0, l.1)

  -- a commit, and a resolve
  module _ (a : Answer) (old new : Session) (sound : AllSound old.desk.ledgers) (was : HaveGrown old.desk.ledgers ended)
      (later : HaveGrown new.desk.ledgers ended) where
    abbrev at : List LedgerView
    at = old.desk.ledgers

    abbrev at' : List LedgerView
    at' = new.desk.ledgers

    nowhere : so_far at' 0 ≡ so_far at 0
    nowhere = same_entries settled is t at at' 0 (λ low. absurd (omega (arith, low)))

    resolve_takes : ResolvesLeft old new a → ResolveTakes t a (part_of old) (part_of new) × AllSound at'
    resolve_takes (ResolvesLeft.refused why told e) = (ResolveTakes.refused told (ap part_of e), rw e sound)
    resolve_takes (ResolvesLeft.resolved outcomes can trace log still keeps as_many told in_turn) =
        let records = (log_state old.log).records in
        let course = resolved_so settled is t at at' sound later records old.scan outcomes.items trace.course in (
          ResolveTakes.resolved outcomes told (search (arith, course, nowhere, keeps.kept, can.known)),
          resolved_sound settled is t at at' sound later records old.scan outcomes.items trace.course,
        )

    module _ (c : CommitAll TranName) (held : AllKept new.desk) where
      abbrev bs : List Branch
      bs = branches_of c

      -- what a dead coordinator leaves under handles
      keeps_in_flight : (at_ : Death) (known : LastKnown) → All (λ b. HasRoom at b.m) bs → length at' ≡ length at
          → CameTo AsksLedger PutsLedger at_ (named c) bs (ledger at) (ledger at') (log_state old.log)
          (log_state new.log) known
          → LeavesHandles bs old.desk new.desk → KeepsInFlight at_ bs known (part_of old) (part_of new)
      keeps_in_flight at_ known room managers far leaves = record {
        stays = leaves.stays;
        all = λ k d lt.
            let b : Branch = get_or (in_flight_at at_ bs known) k d in
            ⊎_elim
            (λ (out : IsOut at' (record { manager = b.m; number = length (ledger at' b.m).sent - 1 })).
            let h = held.each (record { manager = b.m; number = length (ledger at' b.m).sent - 1 }) out in
            inl (
              h.0,
              h.1
                  ∙ ap (λ n. Some (record { manager = b.m; number = n - 1 }))
                  (sym (many at' b.m out.known.positive later)),
            ))
            (λ (shut : (1 ≤ b.m) × (learnt_shut (ledger at b.m) ≡ true)).
            inr (fails t (ledger ended b.m) (own settled is t b.m) (fits settled is t b.m shut.0) (ledger at b.m)
            (sound b.m shut.0) (was.each b.m shut.0) shut.1))
            (all_in_flight at at' managers sound at_ (named c) bs (log_state old.log) (log_state new.log) known room far
            k d lt);
        more = λ k o kept_. ⊎_elim (λ (h : finmap.get old.desk.kept k ≡ Some o). inl h)
            (λ (h : IsOfRound bs (sent_so_far at) (sent_so_far at') o).
            let m = o.manager in
            let low =
            (at_each (HasRoom at) m bs (λ k d lt here. room k d lt)
            (λ none. absurd (let z : true ≡ false = sym h.manager ∙ none in cc))).known.positive in
            inr (record {
              manager = h.manager;
              later = omega (arith, h.later, many at m low was);
              sent = omega (arith, h.sent, many at' m low later);
            }))
            (leaves.more k o kept_);
      }

      -- and what any commit leaves there
      keeps_handles : (o : CommitOutcome) → All (λ b. HasRoom at b.m) bs → length at' ≡ length at
          → ComesTo AsksLedger PutsLedger c.death (named c) bs (ledger at) (ledger at') (log_state old.log)
          (log_state new.log) o
          → LeavesTheDesk bs old.desk new.desk o → KeepsHandles bs (part_of old) (part_of new) o
      keeps_handles (outcome.Decided done) room managers comes leaves = leaves.1.keeps.kept
      keeps_handles (outcome.Undecided votes) room managers comes leaves = leaves.1.keeps.kept
      keeps_handles (outcome.Died at_ known) room managers comes leaves =
          keeps_in_flight at_ known room managers comes.1.far leaves

      -- whether the log is known after it
      leaves_log : (o : CommitOutcome) → TellsTheLog thread_log (named c) bs old.log new.log o
          → LeavesTheLog (named c) bs (part_of old) (part_of new) o
      leaves_log (outcome.Decided done) tells = tells.1.kept
      leaves_log (outcome.Undecided votes) tells = lost_log old.log new.log (named c) (yes_of bs votes.items) tells.lost
      leaves_log (outcome.Died at_ known) tells = tells.1.kept

      commit_takes : CommitsAll c old new a → CommitTakes t c a (part_of old) (part_of new) × AllSound at'
      commit_takes (CommitsAll.refused why told e) = (CommitTakes.refused told (ap part_of e), rw e sound)
      commit_takes (CommitsAll.commits o told made) =
          let may = made.can.may in
          let room = rooms at bs may.room in
          let comes =
          comes_so settled is t at at' sound later c.death (named c) bs (log_state old.log) (log_state new.log) o
          room made.comes in (
            CommitTakes.commits o told (record {
              course = comes.0;
              nowhere = nowhere;
              unlogged = not_logged c (managers_of_set c.managers) (log_state old.log) may.tran may.some may.one
                  may.absent;
              handles = keeps_handles o room made.managers made.comes made.desk;
              known = made.can.known;
              log = leaves_log o made.log;
              scan = made.scan;
            }),
            comes.1,
          )

    executes_takes : (x : ScriptAction) → AllKept new.desk → Executes x old new a
        → TaskTakes settled x t a (part_of old) (part_of new) × AllSound at'
    executes_takes (action.Call q) held does =
        call_takes_so q a old new sound was later does.1
        (answers_do q.call q refl old.desk new.desk old.scan new.scan a does.0)
    executes_takes (action.CommitAll c) held does = commit_takes c held does
    executes_takes action.Resolve held does = resolve_takes does

  -- ---- all lines, and all entries

  -- line by line
  carried_so_far : (first : State) → AllSound first.0.desk.ledgers → AllKept first.0.desk
      → (tasks : List ScriptTask) (l : State)
      (runs : Chain HasDone first tasks l) → AreOf t tasks → HaveGrown l.0.desk.ledgers ended
      → Chain (TakesPart settled) (part_of first.0) (lines_in first tasks l runs) (part_of l.0) × AllSound
      l.0.desk.ledgers × AllKept l.0.desk
  carried_so_far first sound held tasks last (none xs l e f) own later = (
    none [] (part_of l.0) refl (ap (λ (s : State). part_of s.0) f),
    rw f sound,
    rw f held,
  )
  carried_so_far first sound held tasks last (more xs x now l before step) own later =
      let was = growing_on now.0.desk.ledgers l.0.desk.ledgers ended step.does.goes_on.lists later in
      let (chain, sound_now, held_now) =
      carried_so_far first sound held xs now before (all_left (λ (p : ScriptTask). p.thread ≡ t) xs (x ∷ []) own)
      was in
      let held_then = step.does.kept held_now in
      let takes = executes_takes step.answer now.0 l.0 sound_now was later x.action held_then step.does.executes in (
        more (lines_in first xs now before) (line x step.answer) (part_of now.0) (part_of l.0) chain
            (rw (all_mid (λ (p : ScriptTask). p.thread ≡ t) xs [] x own) takes.0),
        takes.1,
        held_then,
      )

  pub carried_all : (first : State) → ((m : ℕ) → (ledger first.0.desk.ledgers m).sent ≡ [])
      → ((m : ℕ) → (ledger first.0.desk.ledgers m).collected ≡ [])
      → first.0.desk.kept ≡ finmap.empty → AllKept first.0.desk → first.0.log.is_lost ≡ false
      → (tasks : List ScriptTask) (l : State)
      (runs : Chain HasDone first tasks l) → AreOf t tasks → HaveGrown l.0.desk.ledgers ended
      → ((m : ℕ) → (ledger l.0.desk.ledgers m).sent ≡ (ledger ended m).sent)
      → Chain (TakesPart settled) (new_part (log_state first.0.log) first.0.scan) (lines_in first tasks l runs)
      (record {
        entries = own settled is t;
        handles = l.0.desk.kept;
        log = log_state l.0.log;
        is_lost = l.0.log.is_lost;
        scan = l.0.scan;
      })
  carried_all first fresh uncollected unkept held known tasks l runs mine later sent =
      let sound : AllSound first.0.desk.ledgers =
      λ m low. rw (uncollected m) (All-nil (λ (p : ℕ × Code). p.0 < length (ledger first.0.desk.ledgers m).sent)) in
      let start : part_of first.0 ≡ new_part (log_state first.0.log) first.0.scan =
      λ i. record {
        entries = λ m. take (length (fresh m i)) (own settled is t m);
        handles = unkept i;
        log = log_state first.0.log;
        is_lost = known i;
        scan = first.0.scan;
      } in
      let whole : (m : ℕ) → so_far l.0.desk.ledgers m ≡ own settled is t m =
      λ m. ap (λ ops. take (length ops) (own settled is t m)) (sent m) ∙ all_there m in
      let end : part_of l.0 ≡ record (part_of l.0) { entries = own settled is t } =
      λ i. record {
        entries = λ m. whole m i;
        handles = l.0.desk.kept;
        log = log_state l.0.log;
        is_lost = l.0.log.is_lost;
        scan = l.0.scan;
      } in
      rw (end, start) at (carried_so_far first sound held tasks l runs mine later).0
    where
      all_there : (m : ℕ) → take (length (ledger ended m).sent) (own settled is t m) ≡ own settled is t m
      all_there zero = rw (nobody settled is t) (take-nil (length (ledger ended 0).sent))
      all_there (suc m) =
          take_all (length (ledger ended (suc m)).sent) (own settled is t (suc m))
          (let size = many_entries t (ledger ended (suc m)) (own settled is t (suc m))
          (fits settled is t (suc m) (omega arith)) in omega (arith, size))
