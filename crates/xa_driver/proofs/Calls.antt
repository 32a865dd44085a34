-- The three rounds make a call, and so do the stages of a commit.
use Rattle.xa_base.proofs.{rules, ◌≡◌, ℕ, ◌+◌, ◌≤◌, Bool, ◌||◌, ◌&&◌, ◌==◌, Option, Some, List, [], ◌∷◌, ◌++◌, length}
use Rattle.xa_base.proofs.{map, refl, sym, ap, ◌∙◌, arith, suc, get_or, length-append, take, length-map, ◌<◌, set, None}
use Rattle.xa_base.proofs.{vec_capacity, Vec, Global, take-append_seam, drop, take_all, drop_all, append-nil}
use Rattle.xa_base.proofs.{length-take, length-drop, get_or_default, All, All-head, All-tail}
use Rattle.std.proofs.lemmas.List.Edits.{map_over_more}
use Rattle.xa_words.specs.{TranName, tran_of, Op, Prepare, Code}
use Rattle.xa_desk.specs.{LedgerView, ledger, DeskView}
use Rattle.xa_desk.proofs.Ledgers.{known_by}
use Rattle.xa_driver.specs.{Branch, Done, is_yes, voted_yes, yes_of, second_op, third_op, ending_of, Ask, AskTrace}
use Rattle.xa_driver.specs.{EachAsk, among_asks, SameAsks, IsSameAsk, AreRising, AllCanAsk, first_ask, code_of_ask}
use Rattle.xa_driver.specs.{second_ask, third_ask, ending_of_ask, asked_yes, yes_asked, AtBranch, AsksLedger}
use Rattle.xa_driver.specs.{EachBranch, has_branch_at, IsTranOf, AreBranchesRising, HaveRoom, Logs, decision_of}
use Rattle.xa_driver.specs.{IsTraceOfCommit, Round, HasRoomFor, IsAtRest, MayAsk, Prepared, Decided, Told, KeepsTheRest}
use Rattle.xa_driver.specs.{HasDecided, HasForgotten, HasPrepared, HasTold, MayForget, MayTell, MayCommit, MayPrepare}
use Rattle.xa_driver.specs.{Ending, VotesAndObeys}
use Rattle.xa_log.specs.{LogState, record_of}
use Rattle.xa_driver.specs.Asks.{Asks}
use Rattle.xa_driver.proofs.Requests.{for_trace, asks_at, Alike, remade_alike, same_alike, same_itself, WasAsked}
use Rattle.xa_driver.proofs.Requests.{all_asked}

pub first_rising : (lo : ℕ) (bs : List Branch) → AreBranchesRising lo bs → AreRising lo (map first_ask bs)
first_rising lo [] r = tt
first_rising lo (b ∷ bs) r = (r.0, first_rising b.m bs r.1)

-- ---- room for more requests

-- so many requests more were sent to each manager, at most
record Grew (n : ℕ) (at now : List LedgerView) : Type 0 where
  long : length now ≡ length at
  each : (m : ℕ) → 1 ≤ m
      → (length (ledger now m).sent ≤ length (ledger at m).sent + n) × ((ledger now m).plan ≡ (ledger at m).plan)

grew_on : (n : ℕ) (at mid now : List LedgerView) (ks : List Ask) → Grew n at mid → Asks ks mid now → Grew (suc n) at now
grew_on n at mid now ks g is = record {
  long = is.managers ∙ g.long;
  each = λ m p.
      let one =
      asks_at (λ a a'. (length a'.sent ≤ length a.sent + 1) × (a'.plan ≡ a.plan))
      (λ a op code. grind (arith, length-append)) ks mid now m p is in
      let before = g.each m p in (omega (arith, one.0, before.0), one.1 ∙ before.1);
}

not_grown : (at : List LedgerView) → Grew 0 at at
not_grown at = record { long = refl; each = λ m p. (omega arith, refl) }

-- so each branch's manager can be asked once more
room_can : (n : ℕ) (at now : List LedgerView) (bs : List Branch) (ks : List Ask) → n ≤ 2 → Grew n at now
    → SameAsks (map first_ask bs) ks → HaveRoom at bs
    → AllCanAsk ks now
room_can n at now [] [] few g s h = tt
room_can n at now (b ∷ bs) (k ∷ ks) few g s (here, h) =
    let grew = g.each b.m here.known.positive in (
      rw s.0.manager
          (record {
            known = known_by at now b.m g.long here.known;
            room = omega (arith, grew.0, grew.1, here.room, few);
          }),
      room_can n at now bs ks few g s.1 h,
    )
room_can n at now _ _ few g s h = absurd s

pub first_can : (at : List LedgerView) (bs : List Branch) → HaveRoom at bs → AllCanAsk (map first_ask bs) at
first_can at bs h =
    room_can 0 at at bs (map first_ask bs) (omega arith) (not_grown at) (same_itself (map first_ask bs)) h

pub asks_long : (bs : List Branch) (ks : List Ask) → SameAsks (map first_ask bs) ks → length ks ≡ length bs
asks_long bs ks s = (same_alike (map first_ask bs) ks s).long ∙ length-map bs first_ask

-- the Prepare of a branch
pub first_trace : (b : Branch) (k : Ask) (old mid : List LedgerView) → IsSameAsk (first_ask b) k
    → AskTrace k.op k.code (ledger old k.manager) (ledger mid k.manager)
    → AskTrace (Some (Prepare b.xid)) (Some (code_of_ask k)) (ledger old b.m) (ledger mid b.m)
first_trace b k old mid s one = search (arith, k.code)

-- its second request
pub second_is : (commit : Bool) (b : Branch) (k j : Ask) → IsSameAsk (first_ask b) k → IsSameAsk (second_ask commit k) j
    → j.op ≡ second_op commit b.xid (code_of_ask k)
second_is commit b k j s r = r.op ∙ ap (λ q. second_op commit q (code_of_ask k)) s.xid

pub second_trace : (commit : Bool) (b : Branch) (k j : Ask) (tell late : List LedgerView) → IsSameAsk (first_ask b) k
    → IsSameAsk (second_ask commit k) j
    → AskTrace j.op j.code (ledger tell j.manager) (ledger late j.manager)
    → AskTrace (second_op commit b.xid (code_of_ask k)) j.code (ledger tell b.m) (ledger late b.m)
second_trace commit b k j tell late s r two = rw (second_is commit b k j s r, (r.manager ∙ s.manager)) at two

-- by both codes it ends
pub both_traced : (commit : Bool) (b : Branch) (v : Code) (z : Option Code) (a d a' : LedgerView)
    → AskTrace (Some (Prepare b.xid)) (Some v) a d
    → AskTrace (second_op commit b.xid v) z d a' → VotesAndObeys AsksLedger commit b v z (ending_of commit v z) a a'
both_traced commit b v z a d a' one two =
    record { prepared = d; prepares = one; obeys = for_trace (second_op commit b.xid v) z d a' two; ends = refl }

abbrev pub second_code : Ask → Option Code
second_code k = k.code

-- what follows of each branch whose manager was asked in two rounds, where T is so of what it is asked in the third
pub each_asked : (commit : Bool) (old mid tell late : List LedgerView) (C : Branch → Type 0)
    (T : Option Op → ℕ → Type 0)
    (P : Branch → Code → Option Code → Ending → Type 0)
    → ((b : Branch) (v : Code) (z : Option Code) → C b
    → AskTrace (Some (Prepare b.xid)) (Some v) (ledger old b.m) (ledger mid b.m)
    → AskTrace (second_op commit b.xid v) z (ledger tell b.m) (ledger late b.m) → T (third_op b.xid z) b.m
    → P b v z (ending_of commit v z))
    → (bs : List Branch) (ks js ls : List Ask) → SameAsks (map first_ask bs) ks
    → SameAsks (map (second_ask commit) ks) js → SameAsks (map third_ask js) ls
    → All C bs → EachAsk ks old mid → EachAsk js tell late → All (λ l. T l.op l.manager) ls
    → EachBranch P bs (map code_of_ask ks) (map second_code js) (map (ending_of_ask commit) js)
each_asked commit old mid tell late C T P so [] [] [] [] s r q c e f g = tt
each_asked commit old mid tell late C T P so (b ∷ bs) (k ∷ ks) (j ∷ js) (l ∷ ls) s r q c e f g =
    let Third : Ask → Type 0 = λ l. T l.op l.manager in
    let last : l.op ≡ third_op b.xid j.code = q.0.op ∙ ap (λ x. third_op x j.code) (r.0.xid ∙ s.0.xid) in
    let three : T (third_op b.xid j.code) b.m =
    rw (last, (q.0.manager ∙ r.0.manager ∙ s.0.manager)) at (All-head Third l ls g) in (
      rw r.0.vote
          (so b (code_of_ask k) j.code (All-head C b bs c) (first_trace b k old mid s.0 e.0)
          (second_trace commit b k j tell late s.0 r.0 f.0) three),
      each_asked commit old mid tell late C T P so bs ks js ls s.1 r.1 q.1 (All-tail C b bs c) e.1 f.1
          (All-tail Third l ls g),
    )
each_asked commit old mid tell late C T P so _ _ _ _ s r q c e f g = absurd (search rules)

among_branches : (bs : List Branch) (m : ℕ) → among_asks (map first_ask bs) m ≡ has_branch_at bs m
among_branches [] m = refl
among_branches (b ∷ bs) m = ap (λ c. (b.m == m) || c) (among_branches bs m)

pub among_first : (bs : List Branch) (ks : List Ask) (m : ℕ) → SameAsks (map first_ask bs) ks
    → among_asks ks m ≡ has_branch_at bs m
among_first bs ks m s = (same_alike (map first_ask bs) ks s).among m ∙ among_branches bs m

pub among_second : (commit : Bool) (ks js : List Ask) (m : ℕ) → SameAsks (map (second_ask commit) ks) js
    → among_asks js m ≡ among_asks ks m
among_second commit ks js m s = (remade_alike (second_ask commit) (λ k. refl) ks js s).among m

pub among_third : (js ls : List Ask) (m : ℕ) → SameAsks (map third_ask js) ls → among_asks ls m ≡ among_asks js m
among_third js ls m s = (remade_alike third_ask (λ k. refl) js ls s).among m

yes_at : (m : ℕ) (bs : List Branch) (ks : List Ask) → SameAsks (map first_ask bs) ks
    → asked_yes m ks ≡ voted_yes m bs (map code_of_ask ks)
yes_at m [] [] s = refl
yes_at m (b ∷ bs) (k ∷ ks) s = λ i. ((s.0.manager i == m) && is_yes (code_of_ask k)) || yes_at m bs ks s.1 i
yes_at m _ _ s = absurd s

pub yes_is : (bs : List Branch) (ks : List Ask) → SameAsks (map first_ask bs) ks
    → yes_asked ks ≡ yes_of bs (map code_of_ask ks)
yes_is bs ks s = grind (arith, yes_at)

-- the transaction of the first branch is that of all
pub tran_first : (bs : List Branch) (b : Branch) (t : TranName) → 1 ≤ length bs → b ≡ get_or bs 0 b → IsTranOf bs t
    → tran_of b.xid ≡ t
tran_first [] b t h e all = absurd (omega arith)
tran_first (c ∷ bs) b t h e all = ap (λ (d : Branch). tran_of d.xid) e ∙ all.0

pub call_by : (done : Done) (bs : List Branch) (ks js ls : List Ask) (old mid late new : List LedgerView)
    (log log' : LogState) (t : TranName)
    → SameAsks (map first_ask bs) ks → Asks ks old mid → SameAsks (map (second_ask done.commit) ks) js
    → Asks js mid late → SameAsks (map third_ask js) ls
    → Asks ls late new
    → done.votes.items ≡ map code_of_ask ks → done.endings.items ≡ map (ending_of_ask done.commit) js
    → done.commit ≡ decision_of (map code_of_ask ks) done.logged
    → Logs t (yes_asked ks) (map code_of_ask ks) done.logged log log'
    → IsTraceOfCommit t bs old new log log' done
call_by done bs ks js ls old mid late new log log' t s one r two q three votes endings decision logs =
    record {
      course = record {
        seconds = map second_code js;
        each =
            rw (votes, endings)
            (each_asked done.commit old mid mid late (λ b. Unit {0}) (WasAsked late new)
            (λ b v z e. AtBranch AsksLedger done.commit b v z e (ledger old b.m) (ledger new b.m))
            (λ b v z _ first second third. record {
              decided = ledger late b.m;
              third = third.0;
              obeyed = both_traced done.commit b v z (ledger old b.m) (ledger mid b.m) (ledger late b.m) first second;
              forgets = for_trace (third_op b.xid z) third.0 (ledger late b.m) (ledger new b.m) third.1;
            }) bs ks js ls s r q (λ k d lt. tt) one.each two.each (all_asked ls late new three.each));
        others = search
            (arith, among_third, among_second, among_first, three.others, done.commit, two.others, one.others);
        decided = record {
          decision = decision ∙ ap (λ vs. decision_of vs done.logged) (sym votes);
          logs = rw (votes, ← yes_is bs ks s) logs;
        };
      };
      managers = three.managers ∙ two.managers ∙ one.managers;
    }

-- the branches belong to one transaction
-- the transaction of the first branch is that of all
pub no_record : (bs : List Branch) (b : Branch) (desk : DeskView) (log : LogState) → MayCommit desk log bs
    → b ≡ get_or bs 0 b
    → record_of log (tran_of b.xid) ≡ None
no_record bs b desk log may first = ap (record_of log) (tran_first bs b may.tran may.some first may.one) ∙ may.absent

pub may_record : (bs : List Branch) (b : Branch) (desk : DeskView) (log : LogState) → MayPrepare desk bs
    → b ≡ get_or bs 0 b
    → record_of log (tran_of b.xid) ≡ None → MayCommit desk log bs
may_record bs b desk log may first none =
    record { prepare = may; absent = ap (record_of log) (sym (tran_first bs b may.tran may.some first may.one)) ∙ none }

pub one_tran : (bs : List Branch) (s t : TranName) → 1 ≤ length bs → IsTranOf bs s → IsTranOf bs t → s ≡ t
one_tran [] s t some e f = absurd (omega arith)
one_tran (b ∷ bs) s t some e f = sym e.0 ∙ f.0

-- ---- a round whose requests are remade in place, one after another

-- one more is remade
pub one_more_remade : (f : Ask → Ask) (n : ℕ) (ks now : List Ask) (k d : Ask) → n < length ks
    → now ≡ map f (take n ks) ++ drop n ks → k ≡ f (get_or now n d)
    → set now n k ≡ map f (take (n + 1) ks) ++ drop (n + 1) ks
one_more_remade f n ks now k d within is made =
    let long = simp (length-append, length-map, length-take, length-drop) at (ap (λ l. length l) is) in
    rw made
    (map_over_more f ks now n (get_or now n d) within is
    (get_or_default now n d (get_or now n d) (omega (arith, long, within))))

pub all_remade : (f : Ask → Ask) (n : ℕ) (ks : List Ask) → length ks ≤ n → map f (take n ks) ++ drop n ks ≡ map f ks
all_remade f n ks all = (λ i. map f (take_all n ks all i) ++ drop_all n ks all i) ∙ append-nil (map f ks)

-- ---- the next round, of requests that were remade for the same managers

module _ (f : Ask → Ask) (same : (k : Ask) → (f k).manager ≡ k.manager) (r r' : Round)
    (is : r'.asks.items ≡ map f r.asks.items) where
  abbrev alike : Alike r.asks.items (map f r.asks.items)
  alike = remade_alike f same r.asks.items (map f r.asks.items) (same_itself (map f r.asks.items))

  as_long : length r'.asks.items ≡ length r.asks.items
  as_long = ap (λ l. length l) is ∙ alike.long

  pub remade_rest : r'.tickets ≡ r.tickets → IsAtRest r → IsAtRest r'
  remade_rest tickets rest = record {
    rising = rw is (alike.rising 0 rest.rising);
    tickets = ap (λ t. t.items) tickets ∙ rest.tickets;
    room = let room = rest.room in let b = as_long in rw tickets (omega (arith, b, room));
  }

  pub remade_may : (desk : DeskView) → MayAsk r desk → MayAsk r' desk
  remade_may desk may =
      record {
        can = rw is (alike.can desk.ledgers may.can);
        free = let free = may.free in let b = as_long in omega (arith, b, free);
      }

  pub remade_endings : (list : Vec Ending Global) → HasRoomFor (length r.asks.items) list
      → HasRoomFor (length r'.asks.items) list
  remade_endings list endings =
      record { none = endings.none; room = let b = as_long in let room = endings.room in omega (arith, b, room) }

-- a vector that was lent out and remade: it is cut to its length
pub lent : (f : Ask → Ask) → ((k : Ask) → (f k).manager ≡ k.manager) → (n : ℕ) (asks before after rest : List Ask)
    → n ≡ length asks → after ≡ map f before
    → before ≡ asks → take n (after ++ rest) ≡ map f asks
lent f same n asks before after rest long made value =
    let is : after ≡ map f asks = made ∙ ap (map f) value in
    search (arith, length-map, take-append_seam)

-- what the next round has of the one that was remade
pub ruleset remade_rules = (same_itself, lent, remade_endings)

-- ---- the stages of a commit make a call

-- the second round is of what the first asked
pub seconds_are : {p : Prepared} {log later : LogState} {d : Decided} (js : List Ask) → HasDecided p log later d
    → SameAsks (map (second_ask d.decision.commit) d.round.asks.items) js
    → SameAsks (map (second_ask d.decision.commit) p.round.asks.items) js
seconds_are js second same = rw second.round at same

pub stages_call : {bs : List Branch} {old mid late new : List LedgerView} {log later : LogState} {p : Prepared}
    {d : Decided} {t : Told} {done : Done}
    → HasPrepared bs old mid p → HasDecided p log later d → HasTold d mid late t → HasForgotten t late new done
    → IsTraceOfCommit p.tran bs old new log later done
stages_call {p = p} {d = d} {t = t} first second third last =
    let seconds : SameAsks (map (second_ask d.decision.commit) p.round.asks.items) t.round.asks.items =
    seconds_are t.round.asks.items second third.same in
    search (arith, call_by, seconds, last.thirds, last.same)

-- what the log is asked by the votes of the first stage, it is asked by those of the commit
pub for_log : (bs : List Branch) (old new : List LedgerView) (p : Prepared)
    (P : TranName → List Bool → List Code → Type 0) (t : TranName) (votes : List Code)
    → HasPrepared bs old new p → p.tran ≡ t → p.votes.items ≡ votes
    → P p.tran (yes_asked p.round.asks.items) p.votes.items
    → P t (yes_of bs votes) votes
for_log bs old new p P t votes first same votes_are h = search (arith, yes_is, p.round.asks.items, p.tran)

-- ---- when the next may be done, with nothing in between

pub may_decide : (bs : List Branch) (desk : DeskView) (new : List LedgerView) (log : LogState) (p : Prepared)
    → MayCommit desk log bs
    → HasPrepared bs desk.ledgers new p → record_of log p.tran ≡ None
may_decide bs desk new log p may first =
    ap (record_of log) (one_tran bs p.tran may.tran may.some first.tran may.one) ∙ may.absent

pub may_tell : (bs : List Branch) (desk new : DeskView) (start log later : LogState) (p : Prepared) (d : Decided)
    → MayCommit desk start bs
    → HasPrepared bs desk.ledgers new.ledgers p → HasDecided p log later d → KeepsTheRest desk new → MayTell d new
may_tell bs desk new start log later p d may first second rest =
    let same : p.round ≡ d.round = sym second.round in
    let long : length p.round.asks.items ≡ length bs = asks_long bs p.round.asks.items first.same in
    record {
      rest = rw same at first.rest;
      endings = search (arith, vec_capacity, second.endings, first.endings.room);
      may = rw (← same) (record {
        can = room_can 1 desk.ledgers new.ledgers bs p.round.asks.items (omega arith)
            (grew_on 0 desk.ledgers desk.ledgers new.ledgers p.round.asks.items (not_grown desk.ledgers) first.asked)
            first.same may.room;
        free = let handles = rest.keeps.goes_on.handles in let enough = may.free in let free = rest.free in omega
            (arith, long, handles, enough, free);
      });
    }

pub may_forget : (bs : List Branch) (desk mid new : DeskView) (start log later : LogState) (p : Prepared) (d : Decided)
    (t : Told)
    → MayCommit desk start bs
    → HasPrepared bs desk.ledgers mid.ledgers p → HasDecided p log later d → HasTold d mid.ledgers new.ledgers t
    → KeepsTheRest desk mid → KeepsTheRest mid new → MayForget t new
may_forget bs desk mid new start log later p d t may first second third rest rest_on =
    let alike =
    remade_alike (second_ask d.decision.commit) (λ k. refl) p.round.asks.items t.round.asks.items
    (seconds_are t.round.asks.items second third.same) in
    record {
      rest = third.rest;
      may = record {
        can =
            let grew =
            grew_on 0 desk.ledgers desk.ledgers mid.ledgers p.round.asks.items (not_grown desk.ledgers)
            first.asked in
            alike.can new.ledgers
            (room_can 2 desk.ledgers new.ledgers bs p.round.asks.items (omega arith)
            (grew_on 1 desk.ledgers mid.ledgers new.ledgers t.round.asks.items grew third.asked) first.same
            may.room);
        free =
            let long : length t.round.asks.items ≡ length bs =
            alike.long ∙ asks_long bs p.round.asks.items first.same in
            omega (
              arith,
              long,
              rest.keeps.goes_on.handles,
              rest_on.keeps.goes_on.handles,
              may.free,
              rest.free,
              rest_on.free,
            );
      };
    }

-- it asks of the log only that it has no record yet
pub may_still : (bs : List Branch) (desk : DeskView) (start log : LogState) (tran : TranName) → MayCommit desk start bs
    → IsTranOf bs tran
    → record_of log tran ≡ None → MayCommit desk log bs
may_still bs desk start log tran may of_tran absent =
    record { prepare = record may.prepare { tran = tran; one = of_tran }; absent = absent }
