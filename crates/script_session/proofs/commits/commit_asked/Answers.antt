use Rattle.xa_base.proofs.{◌≡◌, ◌∙◌, false≢true, List, err_from_is_err_and, on_err, refl, subst, sym}
use Rattle.xa_desk.specs.{DeskView}
use Rattle.xa_driver.specs.{Branch, MayCommit}
use Rattle.script_grammar.specs.{CommitAll}
use Rattle.xa_scan.specs.{ScanView}
use Rattle.xa_words.specs.{TranName}
use Rattle.script_session.specs.{CanCommit, CommitsAll, ThreadLog, branches_of, log_state, named, session_of}
use Rattle.script_session.specs.{thread_log}
use Rattle.script_session.proofs.Committed.{all_of_tran}
use Rattle.script_session.proofs.commits.commit_asked.Goals as goal

-- whether its branches may be committed is whether it can
can_commit : (c : CommitAll TranName) (d : DeskView) (l : ThreadLog) (z : ScanView) (bs : List Branch)
    → bs ≡ branches_of c
    → MayCommit d (log_state l) bs × thread_log.knows l → CanCommit c (session_of d l z)
can_commit c d l z bs is may = record { known = may.1.kept; may = subst (MayCommit d (log_state l)) is may.0 }

may_commit : (c : CommitAll TranName) (d : DeskView) (l : ThreadLog) (z : ScanView) (bs : List Branch)
    → bs ≡ branches_of c
    → CanCommit c (session_of d l z) → MayCommit d (log_state l) bs × thread_log.knows l
may_commit c d l z bs is can =
    (subst (MayCommit d (log_state l)) (sym is) can.may, record { kept = can.known; found = tt })

pub returns-in_err-branches-clause-commits : goal.returns-in_err-branches-clause-commits
returns-in_err-branches-clause-commits g c =
    rw (err_from_is_err_and c.from_residual.result c.from_residual.ensures.1).1 tt

pub returns-in_err-branches-clause-unsent : goal.returns-in_err-branches-clause-unsent
returns-in_err-branches-clause-unsent g c = on_err _ _ refl

pub returns-in_err-branches-clause-unlogged : goal.returns-in_err-branches-clause-unlogged
returns-in_err-branches-clause-unlogged g c = on_err _ _ refl

pub returns-in_err-branches-clause-goes_on : goal.returns-in_err-branches-clause-goes_on
returns-in_err-branches-clause-goes_on g c = c.desks_go_on.ensures.same _

pub returns-in_err-branches-clause-idled : goal.returns-in_err-branches-clause-idled
returns-in_err-branches-clause-idled g c = g.met.I.Idle.leads_start _

pub returns-then-not-may_commit-clause-commits : goal.returns-then-not-may_commit-clause-commits
returns-then-not-may_commit-clause-commits g c = λ z.
    let may =
    may_commit c.args.asked.now c.args.desk.now c.args.log.now z c.deref.result.now
    (c.deref.ensures.value ∙ c.in_ok-branches.ensures) in
    CommitsAll.refused (λ can. false≢true (sym c.if-not-may_commit.true ∙ c.may_commit.ensures.1 (may can))) refl refl

pub returns-then-not-may_commit-clause-goes_on : goal.returns-then-not-may_commit-clause-goes_on
returns-then-not-may_commit-clause-goes_on g c = c.desks_go_on.ensures.same _

pub returns-then-not-may_commit-clause-idled : goal.returns-then-not-may_commit-clause-idled
returns-then-not-may_commit-clause-idled g c = g.met.I.Idle.leads_start _

pub commit-requires-clause-may : goal.commit-requires-clause-may
commit-requires-clause-may g c =
    subst (MayCommit c.args.desk.now (log_state c.args.log.now)) (c.deref.ensures.value ∙ sym c.deref-2.ensures.value)
    (c.may_commit.ensures.0 c.if-not-may_commit.false).0

pub returns-clause-commits : goal.returns-clause-commits
returns-clause-commits g c = λ z.
    let asked = c.args.asked.now in
    let bs = c.deref-2.ensures.value ∙ c.in_ok-branches.ensures in
    let own = all_of_tran asked c.deref-2.result.now bs in
    let can =
    can_commit asked c.args.desk.now c.args.log.now z c.deref.result.now
    (c.deref.ensures.value ∙ c.in_ok-branches.ensures) (c.may_commit.ensures.0 c.if-not-may_commit.false) in
    CommitsAll.commits c.in_ok-outcome.outcome refl (record {
      can = can;
      comes = rw bs at (c.in_ok-outcome.ensures.comes (named asked) own);
      log = rw bs at (c.in_ok-outcome.ensures.log (named asked) own);
      desk = rw bs at c.in_ok-outcome.ensures.desk;
      managers = c.commit.ensures.managers;
      scan = refl;
    })

pub returns-clause-prompt : goal.returns-clause-prompt
returns-clause-prompt g c = λ z not.
    absurd
    (not (can_commit c.args.asked.now c.args.desk.now c.args.log.now z c.deref.result.now
    (c.deref.ensures.value ∙ c.in_ok-branches.ensures) (c.may_commit.ensures.0 c.if-not-may_commit.false)))
