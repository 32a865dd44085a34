use Rattle.xa_base.proofs.{rules, arith, ◌≡◌, List, refl, sym, ap, ◌∙◌, map}
use Rattle.xa_desk.proofs.GoingOn.{goes_further}
use Rattle.xa_driver.specs.{AppendsOnce, Ask, IsThreeRounds, IsUnknown, KeepsTheRest, LeavesDesk, Prepared, Round}
use Rattle.xa_driver.specs.{among_asks, first_ask, second_ask, third_ask}
use Rattle.xa_driver.proofs.AtDeath.{as_many_managers, decision_appends, desk_further, desk_rest, dies_prepared}
use Rattle.xa_driver.proofs.AtDeath.{left_undecided}
use Rattle.xa_driver.proofs.Calls.{among_first, one_tran, for_log, may_decide, may_forget, may_tell, stages_call}
use Rattle.xa_driver.proofs.Progress.{all_idle, first_idles, idles_chain, idles_start, same_in_order, whole_in_order}
use Rattle.xa_driver.proofs.Requests.{rest_chain}
use Rattle.xa_driver.proofs.committing.commit.Given as given
use Rattle.xa_driver.proofs.committing.commit.Goals as goal

pub returns-in_err-preparing-clause-waited : goal.returns-in_err-preparing-clause-waited
returns-in_err-preparing-clause-waited g c = idles_start _ _

-- ---- while it asks for votes

pub returns-in-Some-Preparing-clause-comes : goal.returns-in-Some-Preparing-clause-comes
returns-in-Some-Preparing-clause-comes g c t of_tran = (
  search rules,
  c.die_preparing-votes.ensures.dies c.args.branches.now t (g.L.DecisionLog.state c.args.log.now)
      c.in_ok-preparing.ensures.preparing,
)

pub returns-in-Some-Preparing-clause-desk : goal.returns-in-Some-Preparing-clause-desk
returns-in-Some-Preparing-clause-desk g c =
    (c.die_preparing-votes.ensures.leaves c.args.branches.now c.in_ok-preparing.ensures.preparing).handles

pub returns-in-Some-Preparing-clause-managers : goal.returns-in-Some-Preparing-clause-managers
returns-in-Some-Preparing-clause-managers g c =
    as_many_managers _ _
    (c.die_preparing-votes.ensures.leaves c.args.branches.now c.in_ok-preparing.ensures.preparing).goes_on

pub returns-in-Some-Preparing-clause-waited : goal.returns-in-Some-Preparing-clause-waited
returns-in-Some-Preparing-clause-waited g c =
    first_idles _ _ _ _ c.in_ok-preparing.ensures.preparing.same c.die_preparing-votes.ensures.waited

-- ---- once all have voted

pub let_go-requires : goal.let_go-requires
let_go-requires g c =
    (c.finish-prepared.ensures.prepared c.args.branches.now c.args.desk.now c.in_ok-preparing.ensures.preparing).rest

pub returns-in-Some-Prepared-clause-comes : goal.returns-in-Some-Prepared-clause-comes
returns-in-Some-Prepared-clause-comes g c t of_tran = (
  search rules,
  dies_prepared c.args.branches.now c.args.desk.now.ledgers c.finish-prepared.new.desk.ledgers
      (g.L.DecisionLog.state c.args.log.now) t c.finish-prepared.result
      (c.finish-prepared.ensures.prepared c.args.branches.now c.args.desk.now c.in_ok-preparing.ensures.preparing)
      c.let_go.result c.let_go.ensures,
)

pub returns-in-Some-Prepared-clause-desk : goal.returns-in-Some-Prepared-clause-desk
returns-in-Some-Prepared-clause-desk g c =
    (desk_rest c.args.branches.now _ _
    (rw c.in_ok-preparing.ensures.preparing.before at c.finish-prepared.ensures.keeps)).handles

pub returns-in-Some-Prepared-clause-managers : goal.returns-in-Some-Prepared-clause-managers
returns-in-Some-Prepared-clause-managers g c =
    as_many_managers _ _
    (rw c.in_ok-preparing.ensures.preparing.before at c.finish-prepared.ensures.keeps).keeps.goes_on

pub returns-in-Some-Prepared-clause-waited : goal.returns-in-Some-Prepared-clause-waited
returns-in-Some-Prepared-clause-waited g c =
    first_idles _ _ _ _ c.in_ok-preparing.ensures.preparing.same c.finish-prepared.ensures.waited

pub decide-requires-clause-new : goal.decide-requires-clause-new
decide-requires-clause-new g c =
    may_decide c.args.branches.now c.args.desk.now c.finish-prepared.new.desk.ledgers
    (g.L.DecisionLog.state c.args.log.now) c.finish-prepared.result c.requires.may
    (c.finish-prepared.ensures.prepared c.args.branches.now c.args.desk.now c.in_ok-preparing.ensures.preparing)

-- ---- where nobody knows whether the log has the record

pub let_go-requires-in-Err : goal.let_go-requires-in-Err
let_go-requires-in-Err g c =
    rw c.in-Err.ensures.undecided
    (c.finish-prepared.ensures.prepared c.args.branches.now c.args.desk.now
    c.in_ok-preparing.ensures.preparing).rest

pub returns-in-Err-clause-comes : goal.returns-in-Err-clause-comes
returns-in-Err-clause-comes g c t of_tran = (
  search rules,
  left_undecided c.args.branches.now c.args.desk.now.ledgers c.finish-prepared.new.desk.ledgers c.finish-prepared.result
      (c.finish-prepared.ensures.prepared c.args.branches.now c.args.desk.now c.in_ok-preparing.ensures.preparing)
      c.let_go-in-Err.result.items
      (ap (λ (q : Prepared). q.votes.items) (sym c.in-Err.ensures.undecided)
      ∙ ap (λ v. v.items) (sym c.let_go-in-Err.ensures)) c.in-Err.ensures.unknown.wanted,
)

pub returns-in-Err-clause-log : goal.returns-in-Err-clause-log
returns-in-Err-clause-log g c t of_tran =
    let p = c.finish-prepared.result in
    let first =
    c.finish-prepared.ensures.prepared c.args.branches.now c.args.desk.now c.in_ok-preparing.ensures.preparing in
    for_log _ _ _ p
    (λ u ys vs. IsUnknown g.L.DecisionRecords.knows g.L.DecisionLog.loses u ys vs c.args.log.now c.decide.new.log) t
    c.let_go-in-Err.result.items first
    (one_tran c.args.branches.now p.tran t c.requires.may.some first.tran of_tran)
    (ap (λ (q : Prepared). q.votes.items) (sym c.in-Err.ensures.undecided)
    ∙ ap (λ v. v.items) (sym c.let_go-in-Err.ensures)) c.in-Err.ensures.unknown

pub returns-in-Err-clause-desk : goal.returns-in-Err-clause-desk
returns-in-Err-clause-desk g c =
    let preparing = c.in_ok-preparing.ensures.preparing in (
      whole_in_order c.in_ok-preparing.preparing.round (map first_ask c.args.branches.now) c.args.desk.now
          c.finish-prepared.new.desk
          c.finish-prepared.ensures.ordered c.in_ok-preparing.ensures.none preparing.before preparing.same,
      rw preparing.before at c.finish-prepared.ensures.keeps,
    )

pub returns-in-Err-clause-managers : goal.returns-in-Err-clause-managers
returns-in-Err-clause-managers g c =
    as_many_managers _ _
    (rw c.in_ok-preparing.ensures.preparing.before at c.finish-prepared.ensures.keeps).keeps.goes_on

pub returns-in-Err-clause-waited : goal.returns-in-Err-clause-waited
returns-in-Err-clause-waited g c =
    first_idles _ _ _ _ c.in_ok-preparing.ensures.preparing.same c.finish-prepared.ensures.waited

-- ---- once it was decided, to the end

pub tell-told-requires : goal.tell-told-requires
tell-told-requires g c =
    let log = g.L.DecisionLog.state c.args.log.now in
    let first =
    c.finish-prepared.ensures.prepared c.args.branches.now c.args.desk.now c.in_ok-preparing.ensures.preparing in
    may_tell c.args.branches.now c.args.desk.now c.finish-prepared.new.desk log log
    (g.L.DecisionLog.state c.decide.new.log) c.finish-prepared.result c.in-Ok.decided c.requires.may first
    c.in-Ok.ensures.decided
    (rw c.in_ok-preparing.ensures.preparing.before at c.finish-prepared.ensures.keeps)

pub forget-requires : goal.forget-requires
forget-requires g c =
    let log = g.L.DecisionLog.state c.args.log.now in
    let first =
    c.finish-prepared.ensures.prepared c.args.branches.now c.args.desk.now c.in_ok-preparing.ensures.preparing in
    may_forget c.args.branches.now c.args.desk.now c.finish-prepared.new.desk c.tell-told.new.desk log log
    (g.L.DecisionLog.state c.decide.new.log) c.finish-prepared.result c.in-Ok.decided c.tell-told.result
    c.requires.may first
    c.in-Ok.ensures.decided c.tell-told.ensures.told
    (rw c.in_ok-preparing.ensures.preparing.before at c.finish-prepared.ensures.keeps) c.tell-told.ensures.keeps

-- the desk keeps the rest through all rounds
kept_on : (g : given.Over) (c : goal.After-forget g) → KeepsTheRest c.args.desk.now c.forget.new.desk
kept_on g c =
    rest_chain _ _ _
    (rest_chain _ _ _ (rw c.in_ok-preparing.ensures.preparing.before at c.finish-prepared.ensures.keeps)
    c.tell-told.ensures.keeps) c.forget.ensures.keeps

three_rounds : (g : given.Over) (c : goal.After-forget g)
    → IsThreeRounds c.args.branches.now c.forget.result.commit c.args.desk.now c.forget.new.desk
three_rounds g c =
    let preparing = c.in_ok-preparing.ensures.preparing in
    let p = c.finish-prepared.ensures.prepared c.args.branches.now c.args.desk.now preparing in
    let d = c.in-Ok.decided in
    let t = c.tell-told.ensures.told in
    let f = c.forget.ensures.forgot in
    let firsts : List Ask = c.finish-prepared.result.round.asks.items in
    let decided : d.decision.commit ≡ c.forget.result.commit = sym t.commit ∙ ap (λ k. k.commit) (sym f.known) in
    let asked : List Ask = d.round.asks.items in
    let same : asked ≡ firsts = ap (λ r. r.asks.items) c.in-Ok.ensures.decided.round in
    let ordered = whole_in_order c.in_ok-preparing.preparing.round (map first_ask c.args.branches.now) c.args.desk.now
    c.finish-prepared.new.desk
    c.finish-prepared.ensures.ordered c.in_ok-preparing.ensures.none preparing.before preparing.same in
    record {
      voted = c.finish-prepared.new.desk;
      told = c.tell-told.new.desk;
      firsts = firsts;
      seconds = c.tell-told.result.round.asks.items;
      thirds = f.thirds;
      first_same = p.same;
      second_same = search (arith, rules);
      third_same = f.same;
      first = record {
        asked = p.asked;
        ordered = same_in_order (map first_ask c.args.branches.now) firsts c.args.desk.now c.finish-prepared.new.desk
            p.same ordered;
      };
      second = record {
        asked = t.asked;
        ordered = same_in_order (map (second_ask d.decision.commit) asked) c.tell-told.result.round.asks.items
            c.finish-prepared.new.desk c.tell-told.new.desk t.same c.tell-told.ensures.ordered;
      };
      third = record {
        asked = f.asked;
        ordered = same_in_order (map third_ask c.tell-told.result.round.asks.items) f.thirds c.tell-told.new.desk
            c.forget.new.desk f.same c.forget.ensures.ordered;
      };
    }

pub returns-in-None-clause-comes : goal.returns-in-None-clause-comes
returns-in-None-clause-comes g c t of_tran =
    let p = c.finish-prepared.result in
    let first =
    c.finish-prepared.ensures.prepared c.args.branches.now c.args.desk.now c.in_ok-preparing.ensures.preparing in
    let trace = stages_call first c.in-Ok.ensures.decided c.tell-told.ensures.told c.forget.ensures.forgot in
    (c.in-None.is, rw (one_tran c.args.branches.now t p.tran c.requires.may.some of_tran first.tran) trace.course)

pub returns-in-None-clause-log : goal.returns-in-None-clause-log
returns-in-None-clause-log g c t of_tran =
    let p = c.finish-prepared.result in
    let first =
    c.finish-prepared.ensures.prepared c.args.branches.now c.args.desk.now c.in_ok-preparing.ensures.preparing in
    let told = c.tell-told.ensures.told in
    let forgot = c.forget.ensures.forgot in
    let votes : p.votes.items ≡ c.forget.result.votes.items =
    ap (λ v. v.items) (sym c.in-Ok.ensures.decided.votes) ∙ ap (λ v. v.items) (sym told.votes)
    ∙ ap (λ k. k.votes.items) (sym forgot.known) in
    let logged : c.in-Ok.decided.decision.logged ≡ c.forget.result.logged =
    sym (ap (λ k. k.logged) forgot.known ∙ told.logged) in (
      for_log _ _ _ p
          (λ u ys vs. AppendsOnce g.L.DecisionLog.appends u ys vs c.forget.result.logged c.args.log.now
          c.decide.new.log) t c.forget.result.votes.items first
          (one_tran c.args.branches.now p.tran t c.requires.may.some first.tran of_tran) votes
          (rw logged at c.in-Ok.ensures.appends),
      c.in-Ok.ensures.known,
    )

pub returns-in-None-clause-desk : goal.returns-in-None-clause-desk
returns-in-None-clause-desk g c = (three_rounds g c, kept_on g c)

pub returns-in-None-clause-managers : goal.returns-in-None-clause-managers
returns-in-None-clause-managers g c = as_many_managers _ _ (kept_on g c).keeps.goes_on

pub returns-in-None-clause-goes_on : goal.returns-in-None-clause-goes_on
returns-in-None-clause-goes_on g c = (kept_on g c).keeps.goes_on

pub returns-in-None-clause-waited : goal.returns-in-None-clause-waited
returns-in-None-clause-waited g c =
    let preparing = c.in_ok-preparing.ensures.preparing in
    let first = c.finish-prepared.ensures.prepared c.args.branches.now c.args.desk.now preparing in
    all_idle first c.in-Ok.ensures.decided c.tell-told.ensures.told
    (first_idles _ _ _ _ preparing.same c.finish-prepared.ensures.waited) c.tell-told.ensures.waited
    c.forget.ensures.waited

pub returns-in-None-clause-idled : goal.returns-in-None-clause-idled
returns-in-None-clause-idled g c =
    g.met.I.Idle.leads_chain _ _ _ c.finish-prepared.ensures.idled
    (g.met.I.Idle.leads_chain _ _ _ c.tell-told.ensures.idled c.forget.ensures.idled)

-- ---- to the death of its coordinator

pub die_decided-requires-clause-may : goal.die_decided-requires-clause-may
die_decided-requires-clause-may g c =
    let log = g.L.DecisionLog.state c.args.log.now in
    let first =
    c.finish-prepared.ensures.prepared c.args.branches.now c.args.desk.now c.in_ok-preparing.ensures.preparing in
    may_tell c.args.branches.now c.args.desk.now c.finish-prepared.new.desk log log
    (g.L.DecisionLog.state c.decide.new.log) c.finish-prepared.result c.in-Ok.decided c.requires.may first
    c.in-Ok.ensures.decided
    (rw c.in_ok-preparing.ensures.preparing.before at c.finish-prepared.ensures.keeps)

-- what is left of the desk, whichever it died at
left_decided : (g : given.Over) (c : goal.After-die_decided g)
    → LeavesDesk c.args.branches.now c.args.desk.now c.die_decided.new.desk
left_decided g c =
    let bs = c.args.branches.now in
    let first = c.finish-prepared.ensures.prepared bs c.args.desk.now c.in_ok-preparing.ensures.preparing in
    desk_further bs c.args.desk.now c.finish-prepared.new.desk c.die_decided.new.desk
    (rw c.in_ok-preparing.ensures.preparing.before at c.finish-prepared.ensures.keeps)
    (c.die_decided.ensures.leaves bs
    (λ m. ap (λ (r : Round). among_asks r.asks.items m) c.in-Ok.ensures.decided.round
    ∙ among_first bs c.finish-prepared.result.round.asks.items m first.same))

pub returns-in-Some-clause-comes : goal.returns-in-Some-clause-comes
returns-in-Some-clause-comes g c t of_tran =
    let bs = c.args.branches.now in
    let p = c.finish-prepared.result in
    let first = c.finish-prepared.ensures.prepared bs c.args.desk.now c.in_ok-preparing.ensures.preparing in (
      c.in-Some.is,
      rw (← one_tran bs p.tran t c.requires.may.some first.tran of_tran)
          (c.die_decided.ensures.dies bs c.args.desk.now.ledgers _ _ p first c.in-Ok.ensures.decided),
    )

pub returns-in-Some-clause-log : goal.returns-in-Some-clause-log
returns-in-Some-clause-log g c t of_tran =
    let bs = c.args.branches.now in
    let p = c.finish-prepared.result in
    let first = c.finish-prepared.ensures.prepared bs c.args.desk.now c.in_ok-preparing.ensures.preparing in (
      decision_appends bs c.in-Ok.decided.decision c.in-Ok.decided.votes c.die_decided.result
          c.die_decided.ensures.decision
          (for_log _ _ _ p
          (λ u ys vs. AppendsOnce g.L.DecisionLog.appends u ys vs c.in-Ok.decided.decision.logged c.args.log.now
          c.decide.new.log) t c.in-Ok.decided.votes.items first
          (one_tran bs p.tran t c.requires.may.some first.tran of_tran)
          (ap (λ v. v.items) (sym c.in-Ok.ensures.decided.votes)) c.in-Ok.ensures.appends),
      c.in-Ok.ensures.known,
    )

pub returns-in-Some-clause-desk : goal.returns-in-Some-clause-desk
returns-in-Some-clause-desk g c = (left_decided g c).handles

pub returns-in-Some-clause-managers : goal.returns-in-Some-clause-managers
returns-in-Some-clause-managers g c = as_many_managers _ _ (left_decided g c).goes_on

pub returns-in-Some-clause-goes_on : goal.returns-in-Some-clause-goes_on
returns-in-Some-clause-goes_on g c = (left_decided g c).goes_on

pub returns-in-Some-clause-kept : goal.returns-in-Some-clause-kept
returns-in-Some-clause-kept g c = (left_decided g c).kept

pub returns-in-Some-clause-waited : goal.returns-in-Some-clause-waited
returns-in-Some-clause-waited g c =
    let preparing = c.in_ok-preparing.ensures.preparing in
    let first = c.finish-prepared.ensures.prepared c.args.branches.now c.args.desk.now preparing in
    idles_chain (first_idles c.args.branches.now _ _ _ preparing.same c.finish-prepared.ensures.waited)
    (first_idles c.args.branches.now _ _ _ first.same
    (rw c.in-Ok.ensures.decided.round at c.die_decided.ensures.waited))

pub returns-in-Some-clause-idled : goal.returns-in-Some-clause-idled
returns-in-Some-clause-idled g c =
    g.met.I.Idle.leads_chain _ _ _ c.finish-prepared.ensures.idled c.die_decided.ensures.idled
