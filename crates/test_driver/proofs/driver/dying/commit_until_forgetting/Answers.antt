use Rattle.xa_base.proofs.{◌≡◌, List, ap, ◌∙◌, subst}
use Rattle.xa_desk.specs.{LedgerView, DeskView}
use Rattle.xa_driver.specs.{Branch, Done, Round, Forgetting, HaveComeSoFar, KeepsTheRest, HasPrepared, IsForgetting}
use Rattle.laws_commit.specs.{commit_call}
use Rattle.test_driver.proofs.Rounds.{forgetting_on, left_so_far, went_on}
use Rattle.test_driver.proofs.driver.dying.commit_until_forgetting.Goals as goal

pub let_go-requires : goal.let_go-requires
let_go-requires g c =
    rw c.in-Err.ensures.undecided
    (c.finish-prepared.ensures.prepared c.args.branches.now c.args.desk.now c.in-Ok.ensures.preparing).rest

pub decide-requires-clause-new : goal.decide-requires-clause-new
decide-requires-clause-new g c =
    c.stages_follow.ensures.decide c.args.branches.now c.args.desk.now c.finish-prepared.new.desk.ledgers
    (g.L.DecisionLog.state c.args.log.now) c.finish-prepared.result c.requires.may
    (c.finish-prepared.ensures.prepared c.args.branches.now c.args.desk.now c.in-Ok.ensures.preparing)

pub begin_telling-telling-requires : goal.begin_telling-telling-requires
begin_telling-telling-requires g c =
    let keeps : KeepsTheRest c.args.desk.now c.finish-prepared.new.desk =
    subst (λ (d : DeskView). KeepsTheRest d c.finish-prepared.new.desk) c.in-Ok.ensures.preparing.before
    c.finish-prepared.ensures.keeps in
    c.stages_follow.ensures.tell c.args.branches.now c.args.desk.now c.finish-prepared.new.desk
    (g.L.DecisionLog.state c.args.log.now) (g.L.DecisionLog.state c.args.log.now)
    (g.L.DecisionLog.state c.decide.new.log) c.finish-prepared.result c.in-Ok-decide.decided c.requires.may
    (c.finish-prepared.ensures.prepared c.args.branches.now c.args.desk.now c.in-Ok.ensures.preparing)
    c.in-Ok-decide.ensures.decided keeps

pub begin_forgetting-forgetting-requires : goal.begin_forgetting-forgetting-requires
begin_forgetting-forgetting-requires g c =
    let keeps : KeepsTheRest c.args.desk.now c.finish-prepared.new.desk =
    subst (λ (d : DeskView). KeepsTheRest d c.finish-prepared.new.desk) c.in-Ok.ensures.preparing.before
    c.finish-prepared.ensures.keeps in
    let later_keeps : KeepsTheRest c.finish-prepared.new.desk c.finish-told.new.desk =
    subst (λ (d : DeskView). KeepsTheRest d c.finish-told.new.desk) c.begin_telling-telling.ensures.telling.before
    c.finish-told.ensures.keeps in
    c.stages_follow.ensures.forget c.args.branches.now c.args.desk.now c.finish-prepared.new.desk c.finish-told.new.desk
    (g.L.DecisionLog.state c.args.log.now) (g.L.DecisionLog.state c.args.log.now)
    (g.L.DecisionLog.state c.decide.new.log) c.finish-prepared.result c.in-Ok-decide.decided
    c.finish-told.result c.requires.may
    (c.finish-prepared.ensures.prepared c.args.branches.now c.args.desk.now c.in-Ok.ensures.preparing)
    c.in-Ok-decide.ensures.decided
    (c.finish-told.ensures.told c.in-Ok-decide.decided c.finish-prepared.new.desk
    c.begin_telling-telling.ensures.telling) keeps later_keeps

pub returns-clause-cut : goal.returns-clause-cut
returns-clause-cut g c =
    let bs : List Branch = c.args.branches.now in
    let desk : DeskView = c.args.desk.now in
    let log = g.L.DecisionLog.state c.args.log.now in
    let later = g.L.DecisionLog.state c.decide.new.log in
    let mid : List LedgerView = c.finish-prepared.new.desk.ledgers in
    let start : DeskView = c.finish-told.new.desk in
    let new : List LedgerView = c.leave.new.desk.ledgers in
    let t = c.finish-told.result in
    let f : Forgetting = c.begin_forgetting-forgetting.result in
    let one : Round = c.send_next.new.self in
    let r : Round = c.send_next-2.new.self in
    let h : Forgetting = record { round = r; done = f.done } in
    let first : HasPrepared bs desk.ledgers mid c.finish-prepared.result =
    c.finish-prepared.ensures.prepared c.args.branches.now c.args.desk.now c.in-Ok.ensures.preparing in
    let third =
    c.finish-told.ensures.told c.in-Ok-decide.decided c.finish-prepared.new.desk
    c.begin_telling-telling.ensures.telling in
    let forgets : IsForgetting t start h =
    forgetting_on t start f one r c.begin_forgetting-forgetting.ensures.forgetting c.send_next.ensures.before
    c.send_next-2.ensures.before c.send_next.ensures.same c.send_next-2.ensures.same in
    let far : HaveComeSoFar r.asks.items start.ledgers new =
    left_so_far r start c.send_next-2.new.desk new c.rounds_are_cuts.ensures.so_far forgets.before
    c.leave.ensures.left.lists c.send_next-2.ensures.under_way in
    let same : c.leave.result.endings.items ≡ t.done.endings.items =
    ap (λ (k : Done). k.endings.items) (c.leave.ensures.done ∙ forgets.done) in
    let nothing = c.others_leave_the_branches.ensures.nothing bs in
    λ thread.
    c.rounds_are_cuts.ensures.forgetting (commit_call thread bs desk new log later c.leave.result.endings.items) start
    mid mid start.ledgers c.finish-prepared.result c.in-Ok-decide.decided t h c.requires.may first (nothing mid)
    c.in-Ok-decide.ensures.decided third (nothing start.ledgers) forgets far same

pub returns-in-Err-clause-goes_on : goal.returns-in-Err-clause-goes_on
returns-in-Err-clause-goes_on g c =
    (subst (λ (d : DeskView). KeepsTheRest d c.finish-prepared.new.desk) c.in-Ok.ensures.preparing.before
    c.finish-prepared.ensures.keeps).keeps.goes_on

pub returns-clause-goes_on : goal.returns-clause-goes_on
returns-clause-goes_on g c =
    let start = c.begin_forgetting-forgetting.ensures.forgetting in
    let before = ap (λ b. b.value) (c.send_next-2.ensures.before ∙ c.send_next.ensures.before) ∙ start.before in
    let keeps : KeepsTheRest c.args.desk.now c.finish-prepared.new.desk =
    subst (λ (d : DeskView). KeepsTheRest d c.finish-prepared.new.desk) c.in-Ok.ensures.preparing.before
    c.finish-prepared.ensures.keeps in
    let later_keeps : KeepsTheRest c.finish-prepared.new.desk c.finish-told.new.desk =
    subst (λ (d : DeskView). KeepsTheRest d c.finish-told.new.desk) c.begin_telling-telling.ensures.telling.before
    c.finish-told.ensures.keeps in
    let goes =
    c.desks_go_on.ensures.further c.args.desk.now c.finish-prepared.new.desk c.finish-told.new.desk
    keeps.keeps.goes_on later_keeps.keeps.goes_on in
    went_on c.send_next-2.new.self c.args.desk.now c.finish-told.new.desk c.send_next-2.new.desk c.leave.new.desk
    c.desks_go_on.ensures.further before goes c.send_next-2.ensures.under_way c.leave.ensures.goes_on

pub returns-clause-idled : goal.returns-clause-idled
returns-clause-idled g c =
    g.met.I.Idle.leads_chain _ _ _
    (g.met.I.Idle.leads_chain _ _ _
    (g.met.I.Idle.leads_chain _ _ _ c.finish-prepared.ensures.idled c.finish-told.ensures.idled)
    c.send_next.ensures.idled) c.send_next-2.ensures.idled
