use Rattle.xa_base.proofs.{arith, ◌≡◌, true, false, refl}
use Rattle.xa_work.specs.{IsRefused}
use Rattle.xa_work.specs.Units.IsRefused.{barred, undone}
use Rattle.xa_work.specs.Units.Transacts.{commits, refused}
use Rattle.xa_work.proofs.Named.{comes_named, all_among, gives_up_sent, tries_sent}
use Rattle.xa_work.proofs.Sent.{have_as, have_none, have_on}
use Rattle.xa_work.proofs.Tried.{room_known, tried_works}
use Rattle.xa_work.proofs.Voted.{if_lost, leaves_known}
use Rattle.xa_work.proofs.unit.transact_until.Goals as goal
use Rattle.xa_work.proofs.unit.transact_until.Goals.{then-not-worked-via-then-not-worked}
use Rattle.xa_work.proofs.unit.transact_until.Goals.{then-not-worked-via-else-not-worked+then-not-may_commit}

pub returns-then-not-may_begin-clause-transacts : goal.returns-then-not-may_begin-clause-transacts
returns-then-not-may_begin-clause-transacts g c = grind (arith, have_none)

pub returns-then-not-worked-clause-transacts : goal.returns-then-not-worked-clause-transacts
returns-then-not-worked-clause-transacts g c =
    let bs = c.args.branches.now in
    let cs = c.args.changes.now in
    let old = c.args.desk.now in
    let tried = c.work-worked.new.desk in
    let gives_up = c.give_up.ensures.gives_up in
    let begins = c.may_begin.ensures.0 c.if-not-may_begin.false in
    let why : IsRefused bs cs _ old c.give_up.new.desk (g.L.DecisionLog.state c.args.log.now)
    (g.L.DecisionRecords.knows c.args.log.now) = elim c.then-not-worked.branch [
      | then-not-worked-via-then-not-worked w ↦
          undone tried refl begins.0 begins.1 (rw w.if-not-worked.true at c.work-worked.ensures.tries) gives_up
      | then-not-worked-via-else-not-worked+then-not-may_commit w ↦
          barred tried refl begins.0 begins.1 (rw w.if-not-worked.false at c.work-worked.ensures.tries)
          (λ may. let yes_ : w.may_commit.result ≡ true = w.may_commit.ensures.1 (may, begins.1) in let
          no_ : w.may_commit.result ≡ false = w.if-not-may_commit.true in cc) gives_up
    ] in
    refused refl why
    (have_on _ _ _ (tries_sent cs bs (all_among bs) c.work-worked.result old tried c.work-worked.ensures.tries)
    (gives_up_sent bs (all_among bs) tried c.give_up.new.desk gives_up))

pub commit-requires-clause-may : goal.commit-requires-clause-may
commit-requires-clause-may g c = (c.may_commit.ensures.0 c.if-not-may_commit.false).0

pub returns-clause-known : goal.returns-clause-known
returns-clause-known g c = λ known.
    let may = (c.may_commit.ensures.0 c.if-not-may_commit.false).0 in
    leaves_known
    (record { knows = g.L.DecisionRecords.knows; appends = g.L.DecisionLog.appends; loses = g.L.DecisionLog.loses })
    c.args.branches.now _ _ may.tran c.in-Ok.outcome (c.in-Ok.ensures.log may.tran may.one)

pub returns-clause-lost : goal.returns-clause-lost
returns-clause-lost g c =
    if_lost
    (record { knows = g.L.DecisionRecords.knows; appends = g.L.DecisionLog.appends; loses = g.L.DecisionLog.loses })
    c.args.branches.now _ _ c.in-Ok.outcome c.in-Ok.ensures.log

pub returns-clause-transacts : goal.returns-clause-transacts
returns-clause-transacts g c =
    let bs = c.args.branches.now in
    let cs = c.args.changes.now in
    let begins = c.may_begin.ensures.0 c.if-not-may_begin.false in
    let all_ : c.work-worked.result ≡ true = cc in
    let may = (c.may_commit.ensures.0 c.if-not-may_commit.false).0 in
    commits c.work-worked.new.desk c.in-Ok.outcome refl begins.0 begins.1
    (tried_works cs bs c.args.desk.now c.work-worked.new.desk begins.0.commit.rising
    (room_known c.args.desk.now.ledgers bs begins.0.commit.room) (rw all_ at c.work-worked.ensures.tries))
    (record { may = may; comes = c.in-Ok.ensures.comes may.tran may.one; managers = c.commit.ensures.managers })

pub returns-clause-named : goal.returns-clause-named
returns-clause-named g c =
    let bs = c.args.branches.now in
    let may = (c.may_commit.ensures.0 c.if-not-may_commit.false).0 in
    let tried = c.work-worked.new.desk in
    have_on _ _ _
    (have_as (λ o f. f.named) _ _
    (tries_sent c.args.changes.now bs (all_among bs) c.work-worked.result c.args.desk.now tried
    c.work-worked.ensures.tries))
    (comes_named bs c.args.death c.in-Ok.outcome tried _ _ _
    (record {
      may = may;
      comes = c.in-Ok.ensures.comes may.tran may.one;
      managers = c.commit.ensures.managers;
    }))

pub returns-in_default-clause-wants : goal.returns-in_default-clause-wants
returns-in_default-clause-wants g c =
    let bs = c.args.branches.now in
    let begins = c.may_begin.ensures.0 c.if-not-may_begin.false in
    record {
      begins = begins.0;
      tried = c.work-worked.new.desk;
      may = (c.may_commit.ensures.0 c.if-not-may_commit.false).0;
      worked = rw c.if-not-worked.false at c.work-worked.ensures.tries;
      gives_up = rw c.in_default.ensures.unsent at c.give_up-in_default.ensures.gives_up;
    }

pub returns-then-not-worked-clause-named : goal.returns-then-not-worked-clause-named
returns-then-not-worked-clause-named g c =
    let bs = c.args.branches.now in
    let tried = c.work-worked.new.desk in
    have_as (λ o f. f.named) _ _
    (have_on _ _ _
    (tries_sent c.args.changes.now bs (all_among bs) c.work-worked.result c.args.desk.now tried
    c.work-worked.ensures.tries)
    (gives_up_sent bs (all_among bs) tried c.give_up.new.desk c.give_up.ensures.gives_up))

pub returns-in_default-clause-named : goal.returns-in_default-clause-named
returns-in_default-clause-named g c =
    let bs = c.args.branches.now in
    let tried = c.work-worked.new.desk in
    have_as (λ o f. f.named) _ _
    (have_on _ _ _
    (tries_sent c.args.changes.now bs (all_among bs) c.work-worked.result c.args.desk.now tried
    c.work-worked.ensures.tries) (gives_up_sent bs (all_among bs) tried c.give_up-in_default.new.desk
    (rw c.in_default.ensures.unsent at c.give_up-in_default.ensures.gives_up)))
