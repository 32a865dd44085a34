-- A commit whose coordinator dies: what was asked of each branch, how far that came, and what is kept of it.
use Rattle.xa_base.proofs.{list_any-append, none_of, rules, if◌then◌else◌, ◌≡◌, ℕ, zero, suc, ◌||◌, ◌<◌, ◌≤◌, Bool}
use Rattle.xa_base.proofs.{true, false, inl, inr, ⊎_elim, Option, Some, None, List, [], ◌∷◌, ◌++◌, length, map, take}
use Rattle.xa_base.proofs.{refl, sym, ap, ◌∙◌, subst, arith, append-nil, length-append, eq-eqb, length-map, Vec, Global}
use Rattle.xa_base.proofs.{or-true, some_same, is_none, min, take-append_seam}
use Rattle.std.specs.FinMap as finmap
use Rattle.xa_words.specs.{TranName, Death, Op, Prepare, Code}
use Rattle.xa_words.specs.declared.death.Death.TheVariants as death
use Rattle.xa_driver.specs.declared.done.LastKnown.TheVariants as known_as
use Rattle.xa_desk.specs.{Operation, plan_of, AllKept, TicketView, ledger, GoesOn, LedgerView, DeskView}
use Rattle.xa_desk.proofs.GoingOn.{goes_same, goes_further}
use Rattle.xa_driver.specs.{Branch, Done, LastKnown, Round, Prepared, Decided, Told, Ask, AskTrace, EachAsk, EachBegan}
use Rattle.xa_driver.specs.{HasBegun, KeepsTheRest, SameAsks, among_asks, CameToVotes, Dies, HaveAsked, HaveTold}
use Rattle.xa_driver.specs.{IsDecidedBy, IsOfRound, sent_so_far, LeavesDesk, LeavesHandles, PutsLedger, AsksOrPuts}
use Rattle.xa_driver.specs.{VotesAndObeys, is_decided_by, to_come, withheld, AsksLedger, code_of_ask, ending_of_ask}
use Rattle.xa_driver.specs.{first_ask, second_ask, HasDecided, HasPrepared, HasTold, count_asked, Logs, decision_of}
use Rattle.xa_driver.specs.{has_branch_at, IsAmong, AllAreSent, IsUnderWay, LeavesInFlight, IsSameAsk, VotesAndHears}
use Rattle.xa_driver.specs.{third_ask, IsLeftUndecided, wants_record, AppendsOnce, AppendsUntil, KnowsDecision, yes_of}
use Rattle.xa_driver.specs.declared.done.Decision.{Decision}
use Rattle.xa_driver.proofs.Calls.{among_first, among_second, asks_long, first_trace, second_code, second_is}
use Rattle.xa_driver.proofs.Calls.{seconds_are, for_log, both_traced, each_asked}
use Rattle.xa_driver.proofs.Stepping.{as_many, so_far}
use Rattle.xa_driver.proofs.Requests.{same_itself}
use Rattle.xa_log.specs.{LogState}

-- ---- a request that is put

put_so : (k : Ask) (t : Option TicketView) (at : List LedgerView) (d : DeskView) (op : Op) → k.op ≡ Some op
    → HasBegun k t at d
    → PutsLedger (ledger at k.manager) op (ledger d.ledgers k.manager)
put_so k None at d op is began = withheld (rw is at began.0) began.1
put_so k (Some t) at d op is began = search (arith, some_same, began.op, began.open_)

-- ---- the first round

asked_far : (bs : List Branch) (done flying : List Ask) (ts : List (Option TicketView)) (at : List LedgerView)
    (d : DeskView)
    → SameAsks (map first_ask bs) (done ++ flying) → EachAsk done at d.ledgers → EachBegan flying ts at d
    → HaveAsked AsksLedger PutsLedger bs (map code_of_ask done) (ledger at) (ledger d.ledgers)
asked_far [] [] [] ts at d s e f = tt
asked_far (b ∷ bs) [] (k ∷ flying) (t ∷ ts) at d s e f =
    (rw s.0.manager at (put_so k t at d (Prepare b.xid) s.0.op f.0), asked_far bs [] flying ts at d s.1 tt f.1)
asked_far (b ∷ bs) (k ∷ done) flying ts at d s e f =
    (first_trace b k at d.ledgers s.0 e.0, asked_far bs done flying ts at d s.1 e.1 f)
asked_far _ _ _ _ at d s e f = absurd (search rules)

-- all of it
pub asked_all : (bs : List Branch) (ks : List Ask) (at now : List LedgerView) → SameAsks (map first_ask bs) ks
    → EachAsk ks at now
    → HaveAsked AsksLedger PutsLedger bs (map code_of_ask ks) (ledger at) (ledger now)
asked_all [] [] at now s e = tt
asked_all (b ∷ bs) (k ∷ ks) at now s e = (first_trace b k at now s.0 e.0, asked_all bs ks at now s.1 e.1)
asked_all _ _ at now s e = absurd s

-- each branch is asked something
firsts_asked : (bs : List Branch) (done flying : List Ask) → SameAsks (map first_ask bs) (done ++ flying)
    → (count_asked done ≡ length done) × (count_asked (done ++ flying) ≡ length (done ++ flying))
firsts_asked [] [] [] s = (refl, refl)
firsts_asked (b ∷ bs) [] (k ∷ flying) s = rw s.0.op (refl, ap suc (firsts_asked bs [] flying s.1).1)
firsts_asked (b ∷ bs) (k ∷ done) flying s =
    let rest = firsts_asked bs done flying s.1 in rw s.0.op (ap suc rest.0, ap suc rest.1)
firsts_asked _ _ _ s = absurd s

-- ---- the second round

-- one that was answered, where so many answers are to come, and w of the x + w behind it are there
answered_step : (n w x : ℕ) (op : Option Op) (code : Option Code) (a a' : LedgerView) → AskTrace op code a a'
    → (if is_none op then w else suc w) ≡ min n (if is_none op then x else suc x)
    → AsksOrPuts AsksLedger PutsLedger n op a a' × (w ≡ min (to_come op n) x)
answered_step n w x op code a a' tr e = grind arith

-- one that wasn't
put_step : (n x : ℕ) (op : Option Op) (a a' : LedgerView) → (op ≡ None → a' ≡ a)
    → ((o : Op) → op ≡ Some o → PutsLedger a o a')
    → 0 ≡ min n (if is_none op then x else suc x)
    → AsksOrPuts AsksLedger PutsLedger n op a a' × (0 ≡ min (to_come op n) x)
put_step n x op a a' same put e = grind arith

heard : (commit : Bool) (b : Branch) (k j : Ask) (n : ℕ) (old mid now : List LedgerView) → IsSameAsk (first_ask b) k
    → IsSameAsk (second_ask commit k) j
    → AskTrace k.op k.code (ledger old k.manager) (ledger mid k.manager)
    → AsksOrPuts AsksLedger PutsLedger n j.op (ledger mid j.manager) (ledger now j.manager)
    → VotesAndHears AsksLedger PutsLedger commit n b (code_of_ask k) (ledger old b.m) (ledger now b.m)
heard commit b k j n old mid now s r e told =
    record {
      prepared = ledger mid b.m;
      prepares = first_trace b k old mid s e;
      tells = rw (second_is commit b k j s r, (r.manager ∙ s.manager)) at told;
    }

told_far : (commit : Bool) (bs : List Branch) (ks done flying : List Ask) (ts : List (Option TicketView)) (n : ℕ)
    (old mid : List LedgerView) (now : DeskView)
    → SameAsks (map first_ask bs) ks → SameAsks (map (second_ask commit) ks) (done ++ flying)
    → EachAsk ks old mid → EachAsk done mid now.ledgers → EachBegan flying ts mid now
    → count_asked done ≡ min n (count_asked (done ++ flying))
    → HaveTold AsksLedger PutsLedger commit n bs (map code_of_ask ks) (ledger old) (ledger now.ledgers)
told_far commit [] [] done flying ts n old mid now s r e f g count = tt
told_far commit (b ∷ bs) (k ∷ ks) [] (j ∷ flying) (t ∷ ts) n old mid now (s, ss) (r, rs) (e, es) f (g, gs) count =
    let step =
    put_step n (count_asked flying) j.op (ledger mid j.manager) (ledger now.ledgers j.manager) (λ none. grind arith)
    (λ o is. put_so j t mid now o is g) count in (
      heard commit b k j n old mid now.ledgers s r e step.0,
      told_far commit bs ks [] flying ts _ old mid now ss rs es tt
          gs (rw (second_is commit b k j s r) at step.1),
    )
told_far commit (b ∷ bs) (k ∷ ks) (j ∷ done) flying ts n old mid now (s, ss) (r, rs) (e, es) (f, fs) g count =
    let step =
    answered_step n (count_asked done) (count_asked (done ++ flying)) j.op j.code (ledger mid j.manager)
    (ledger now.ledgers j.manager) f count in (
      heard commit b k j n old mid now.ledgers s r e step.0,
      told_far commit bs ks done flying ts _ old mid now ss rs es
          fs g (rw (second_is commit b k j s r) at step.1),
    )
told_far commit _ _ _ _ _ n old mid now s r e f g count = absurd (search rules)

-- ---- a round that was sent

module _ (r : Round) (now : DeskView) (u : IsUnderWay r now) (whole : AllAreSent r) where
  parts_are : r.asks.items ≡ u.done ++ u.flying
  parts_are = grind (arith, as_many, none_of, length-append, append-nil)

  first_are : take r.collected r.asks.items ≡ u.done
  first_are =
      ap (take r.collected) parts_are ∙ ap (λ n. take n (u.done ++ u.flying)) (sym u.counted)
      ∙ take-append_seam u.done u.flying

  -- it died there
  module _ (bs : List Branch) (n : ℕ)
      (first : count_asked (take r.collected r.asks.items) ≡ min n (count_asked r.asks.items)) where
    first_count : count_asked u.done ≡ min n (count_asked (u.done ++ u.flying))
    first_count = sym (ap count_asked first_are) ∙ first ∙ ap (λ l. min n (count_asked l)) parts_are

    pub came_to_votes : (same : SameAsks (map first_ask bs) r.asks.items) (desk : DeskView) (new : List LedgerView)
        (log : LogState) (votes : List Code)
        → r.before.value ≡ desk → new ≡ now.ledgers → votes ≡ map code_of_ask (take r.collected r.asks.items)
        → CameToVotes AsksLedger PutsLedger (min n (length bs)) bs (ledger desk.ledgers) (ledger new) log log votes
    came_to_votes same desk new log votes before new_is is =
        let apart : SameAsks (map first_ask bs) (u.done ++ u.flying) = rw parts_are at same in
        let votes_are : votes ≡ map code_of_ask u.done = is ∙ ap (map code_of_ask) first_are in
        let both = firsts_asked bs u.done u.flying apart in
        let long : length (u.done ++ u.flying) ≡ length bs =
        sym (ap (λ l. length l) parts_are) ∙ asks_long bs r.asks.items same in
        search (arith, votes_are, asked_far, length-map, first_count)

    pub came_to_answers : (commit : Bool) (ks : List Ask) (old mid new : List LedgerView)
        → SameAsks (map first_ask bs) ks
        → SameAsks (map (second_ask commit) ks) r.asks.items → EachAsk ks old mid → r.before.value.ledgers ≡ mid
        → new ≡ now.ledgers
        → HaveTold AsksLedger PutsLedger commit n bs (map code_of_ask ks) (ledger old) (ledger new)
    came_to_answers commit ks old mid new s same e before new_is = search (arith, told_far, parts_are, first_count)

-- nothing was done at other managers
pub others_stay : (r : Round) (now : DeskView) → IsUnderWay r now → (bs : List Branch) (old new : List LedgerView)
    → ((m : ℕ) → among_asks r.asks.items m ≡ has_branch_at bs m) → r.before.value.ledgers ≡ old → new ≡ now.ledgers
    → (m : ℕ) → 1 ≤ m → has_branch_at bs m ≡ false → ledger new m ≡ ledger old m
others_stay r now u bs old new among before new_is m positive none = grind (arith, so_far)

-- ---- what is kept under handles

-- the operation is one of these requests, that was sent since
record IsFlight (ks : List Ask) (at now : List LedgerView) (o : Operation) : Type 0 where
  among : among_asks ks o.manager ≡ true
  number : o.number ≡ length (ledger at o.manager).sent
  there : o.number < length (ledger now o.manager).sent

flight_later : (k : Ask) (ks : List Ask) (at now : List LedgerView) (o : Operation) → IsFlight ks at now o
    → IsFlight (k ∷ ks) at now o
flight_later k ks at now o f = search (arith, or-true)

flight_of : (o : Operation) (ks : List Ask) (ts : List (Option TicketView)) (at : List LedgerView) (d : DeskView)
    → EachBegan ks ts at d → IsAmong o ts
    → IsFlight ks at d.ledgers o
flight_of o (k ∷ ks) (None ∷ ts) at d began among =
    flight_later k ks at d.ledgers o (flight_of o ks ts at d began.1 among)
flight_of o (k ∷ ks) (Some t ∷ ts) at d began among =
    ⊎_elim (λ (here : t.operation ≡ o). subst (IsFlight (k ∷ ks) at d.ledgers) (sym began.0.operation ∙ here) (record {
      among = ap (λ b. b || among_asks ks k.manager) (eq-eqb k.manager k.manager refl);
      number = refl;
      there = let z = ap (λ (a : LedgerView). length a.sent) began.0.sent in omega
          (arith, z, length-append (ledger at k.manager).sent (began.0.op ∷ []));
    }))
    (λ (later : IsAmong o ts). flight_later k ks at d.ledgers o (flight_of o ks ts at d began.1 later)) among
flight_of o _ _ at d began among = absurd (search rules)

pub same_handles : (bs : List Branch) (old new : DeskView) → new.kept ≡ old.kept → LeavesHandles bs old new
same_handles bs old new same = search (arith, rules)

grown_at : (old new : DeskView) → GoesOn old new → (m : ℕ) → 1 ≤ m
    → length (ledger old.ledgers m).sent ≤ length (ledger new.ledgers m).sent
grown_at old new on m positive =
    let grown = on.lists.each m positive in
    omega (arith, ap (λ l. length l) grown.sent.1, length-append (ledger old.ledgers m).sent grown.sent.0)

grown_long : (old new : DeskView) → GoesOn old new → (m : ℕ)
    → length (ledger old.ledgers m).sent ≤ length (ledger new.ledgers m).sent
grown_long old new on zero = grown_at old new on 1 (omega arith)
grown_long old new on (suc m) = grown_at old new on (suc m) (omega arith)

-- ---- what is left of the desk

pub desk_left : (r : Round) (now : DeskView) → IsUnderWay r now → (bs : List Branch) (old new : DeskView)
    → ((m : ℕ) → among_asks r.asks.items m ≡ has_branch_at bs m) → r.before.value ≡ old
    → LeavesInFlight r.tickets.items now new
    → GoesOn now new → (AllKept r.before.value → AllKept new) → LeavesDesk bs old new
desk_left r now u bs old new among before left on kept = record {
  handles = record {
    stays = λ k o is. left.stays k o (ap (λ m. finmap.get m k) kept_is ∙ is);
    more = λ k o is.
        ⊎_elim (λ (was : finmap.get now.kept k ≡ Some o). inl (sym (ap (λ m. finmap.get m k) kept_is) ∙ was))
        (λ (flies : IsAmong o r.tickets.items). inr (of_round o flies)) (left.only k o is);
  };
  goes_on = goes_further old now new (rw before at u.keeps.goes_on) on;
  kept = rw before at kept;
}
  where
    kept_is : now.kept ≡ old.kept
    kept_is = u.keeps.kept ∙ ap (λ (d : DeskView). d.kept) before

    of_round : (o : Operation) → IsAmong o r.tickets.items
        → IsOfRound bs (sent_so_far old.ledgers) (sent_so_far new.ledgers) o
    of_round o flies =
        let f = flight_of o u.flying r.tickets.items r.before.value.ledgers now u.in_flight flies in
        record {
          manager = search (arith, o.manager, list_any-append, or-true);
          later = let n = f.number in let z = ap (λ (d : DeskView). length (ledger d.ledgers o.manager).sent) before in
              omega (arith, n, z);
          sent = rw left.lists f.there;
        }

pub desk_same : (bs : List Branch) (d : DeskView) → LeavesDesk bs d d
desk_same bs d = record { handles = same_handles bs d d refl; goes_on = goes_same d; kept = λ all. all }

pub desk_rest : (bs : List Branch) (old new : DeskView) → KeepsTheRest old new → LeavesDesk bs old new
desk_rest bs old new rest =
    record { handles = same_handles bs old new rest.keeps.kept; goes_on = rest.keeps.goes_on; kept = rest.kept }

pub desk_further : (bs : List Branch) (old mid new : DeskView) → KeepsTheRest old mid → LeavesDesk bs mid new
    → LeavesDesk bs old new
desk_further bs old mid new rest later =
    search (arith, goes_further, rest.keeps.goes_on, rest.keeps.kept, later.kept, rest.kept, grown_long)

pub as_many_managers : (old new : DeskView) → GoesOn old new → length new.ledgers ≡ length old.ledgers
as_many_managers old new on =
    sym (length-map new.ledgers plan_of) ∙ ap (λ l. length l) on.plan ∙ length-map old.ledgers plan_of

-- ---- all have voted

pub dies_prepared : (bs : List Branch) (old new : List LedgerView) (log : LogState) (tran : TranName) (p : Prepared)
    → HasPrepared bs old new p
    → (votes : Vec Code Global) → votes ≡ p.votes
    → Dies AsksLedger PutsLedger death.Prepared tran bs (ledger old) (ledger new) log log (known_as.Votes votes)
dies_prepared bs old new log tran p first votes same = search (arith, asked_all, length-map, asks_long, among_first)

-- and nobody knows whether the log has the record that they want
pub left_undecided : (bs : List Branch) (old new : List LedgerView) (p : Prepared) → HasPrepared bs old new p
    → (votes : List Code) → p.votes.items ≡ votes
    → wants_record p.votes.items ≡ true → IsLeftUndecided AsksLedger PutsLedger bs (ledger old) (ledger new) votes
left_undecided bs old new p first votes same wanted = search (arith, asked_all, length-map, asks_long, among_first)

-- ---- what was decided

-- the only death that is left where nobody is told
pub decided_here : (at : Death) → is_decided_by at ≡ true → ((k : ℕ) → at ≡ death.Telling k → ⊥) → (at ≡ death.Told → ⊥)
    → at ≡ death.Decided
decided_here at by telling told = grind arith

module _ (bs : List Branch) (old mid : List LedgerView) (log later : LogState) (p : Prepared) (d : Decided)
    (first : HasPrepared bs old mid p) (second : HasDecided p log later d) where
  abbrev firsts : List Ask
  firsts = p.round.asks.items

  pub votes_are : d.votes.items ≡ map code_of_ask firsts
  votes_are = ap (λ v. v.items) second.votes ∙ first.votes

  pub decided_by : (commit logged : Bool) (votes : List Code) → commit ≡ d.decision.commit → logged ≡ d.decision.logged
      → votes ≡ d.votes.items
      → IsDecidedBy p.tran bs log later votes commit logged
  decided_by commit logged votes commit_is logged_is votes_is =
      let all : p.votes.items ≡ votes = sym (votes_is ∙ ap (λ v. v.items) second.votes) in
      record {
        decision = commit_is ∙ second.decision ∙ (λ i. decision_of (all i) (sym logged_is i));
        logs = for_log bs old mid p (λ t ys vs. Logs t ys vs logged log later) p.tran votes first refl all
            (rw (sym logged_is) at second.logs);
      }

  -- nobody was told
  pub dies_decided : Dies AsksLedger PutsLedger death.Decided p.tran bs (ledger old) (ledger mid) log later
      (known_as.Decided d.decision d.votes)
  dies_decided = search (arith, votes_are, asked_all, length-map, asks_long, decided_by, among_first)

  -- all were told
  pub dies_told : (new : List LedgerView) (t : Told) → HasTold d mid new t → (done : Done) → done ≡ t.done
      → Dies AsksLedger PutsLedger death.Told p.tran bs (ledger old) (ledger new) log later (known_as.Told done)
  dies_told new t third done same =
      let seconds : List Ask = t.round.asks.items in
      let again : SameAsks (map (second_ask d.decision.commit) firsts) seconds =
      seconds_are seconds second third.same in
      let commit_is : done.commit ≡ d.decision.commit = ap (λ k. k.commit) same ∙ third.commit in
      let votes : done.votes.items ≡ d.votes.items = ap (λ k. k.votes.items) same ∙ ap (λ v. v.items) third.votes in
      let endings : done.endings.items ≡ map (ending_of_ask d.decision.commit) seconds =
      ap (λ k. k.endings.items) same ∙ third.endings in
      record {
        far = record {
          seconds = map second_code seconds;
          each = rw (commit_is, (votes ∙ votes_are), endings)
              (each_asked d.decision.commit old mid mid new (λ b. Unit {0}) (λ op m. Unit {0})
              (λ b v z e. VotesAndObeys AsksLedger d.decision.commit b v z e (ledger old b.m) (ledger new b.m))
              (λ b v z _ one two _. both_traced d.decision.commit b v z (ledger old b.m) (ledger mid b.m)
              (ledger new b.m) one two) bs firsts seconds (map third_ask seconds) first.same again
              (same_itself (map third_ask seconds)) (λ k d lt. tt) first.asked.each third.asked.each
              (λ k d lt. tt));
          decided = decided_by done.commit done.logged done.votes.items commit_is
              (ap (λ k. k.logged) same ∙ third.logged) votes;
        };
        others = search (arith, among_second, among_first, third.asked.others);
      }

  -- all were told, and some have answered
  pub dies_telling : (r : Round) (now : DeskView) (u : IsUnderWay r now) (whole : AllAreSent r) (n : ℕ)
      → count_asked (take r.collected r.asks.items) ≡ min n (count_asked r.asks.items)
      → SameAsks (map (second_ask d.decision.commit) d.round.asks.items) r.asks.items
      → (new : List LedgerView) → r.before.value.ledgers ≡ mid → new ≡ now.ledgers
      → Dies AsksLedger PutsLedger (death.Telling n) p.tran bs (ledger old) (ledger new) log later
      (known_as.Decided d.decision d.votes)
  dies_telling r now u whole n count same new before new_is =
      let again : SameAsks (map (second_ask d.decision.commit) firsts) r.asks.items =
      seconds_are r.asks.items second same in
      let among : (m : ℕ) → among_asks r.asks.items m ≡ has_branch_at bs m =
      λ m. among_second d.decision.commit firsts r.asks.items m again ∙ among_first bs firsts m first.same in
      let told : HaveTold AsksLedger PutsLedger d.decision.commit n bs (map code_of_ask firsts) (ledger old)
      (ledger new) =
      search (arith, came_to_answers) in
      record {
        far = record {
          told = rw votes_are told;
          decided = decided_by d.decision.commit d.decision.logged d.votes.items refl refl refl;
        };
        others = λ m positive none.
            others_stay r now u bs mid new among before new_is m positive none
            ∙ first.asked.others m positive (among_first bs firsts m first.same ∙ none);
      }

-- what is known of the decision tells what became of the log
pub decision_appends : {L : Type 0} {appends : TranName → List Bool → Bool → L → L → Type 0} {tran : TranName}
    {old new : L}
    (bs : List Branch) (d : Decision) (votes : Vec Code Global) (known : LastKnown) → KnowsDecision d votes known
    → AppendsOnce appends tran (yes_of bs votes.items) votes.items d.logged old new
    → AppendsUntil appends tran bs known old new
decision_appends bs d votes (known_as.Votes vs) knows once = absurd knows
decision_appends bs d votes (known_as.Decided decision vs) knows once = rw (knows.0, knows.1) once
decision_appends bs d votes (known_as.Told done) knows once = rw (knows.0, knows.1) once
