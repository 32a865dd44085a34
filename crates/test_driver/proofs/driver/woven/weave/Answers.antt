use Rattle.xa_base.proofs.{None, false, is_some, ◌≡◌, ℕ, refl, sym, ap, ◌∙◌, is_missing}
use Rattle.xa_words.specs.{tran_of}
use Rattle.xa_driver.specs.{Branch, MayCommit}
use Rattle.laws_commit.specs.{LeavesBranches, commit_call}
use Rattle.xa_log.specs.{record_of}
use Rattle.xa_driver.proofs.Calls.{tran_first}
use Rattle.test_driver.proofs.driver.woven.weave.Goals as goal

pub commit-requires-clause-may : goal.commit-requires-clause-may
commit-requires-clause-may g c = (c.may_commit-2.ensures.0 c.if-not-may_commit-2.false).0

pub returns-clause-cut : goal.returns-clause-cut
returns-clause-cut g c =
    let bs = c.args.branches.now in
    let start = c.args.desk.now in
    let mid = c.prepare_all.new.desk in
    let tell = c.commit.new.desk in
    let found = c.commit.new.log in
    let first = c.in-Ok.ensures.prepared in
    let may = (c.may_commit.ensures.0 c.if-not-may_commit.false).0 in
    let tran : c.tran.result ≡ c.in-Ok.prepared.tran =
    c.tran.ensures ∙ ap (λ (b : Branch). tran_of b.xid) (sym c.index-branches-0.is)
    ∙ tran_first bs c.index-branches-0.result c.in-Ok.prepared.tran may.some c.index-branches-0.is first.tran in
    let absent : record_of found.state c.in-Ok.prepared.tran ≡ None =
    ap (record_of found.state) (sym tran) ∙ sym c.has.ensures
    ∙ is_missing c.has.result (sym c.is_some.ensures ∙ c.if-is_some.false) in
    let still : MayCommit start found.state bs =
    c.stages_follow.ensures.log bs start c.args.log.now.state found.state c.in-Ok.prepared.tran may first.tran absent in
    let their = (c.may_commit-2.ensures.0 c.if-not-may_commit-2.false).0 in
    let done = c.in-Ok-Decided.field-0-0 in
    let other = commit_call 1 c.args.others.now mid tell.ledgers c.args.log.now.state found.state done.endings.items in
    let between : LeavesBranches bs mid.ledgers tell.ledgers =
    c.others_leave_the_branches.ensures.committed bs other done may.rising
    (c.are_others.ensures.0 c.if-not-are_others.false)
    (c.decided_commits_were_made.ensures other their.tran None done their their.one c.commit.ensures.managers
    (rw c.in-Ok-Decided.field-0-is at (c.in-Ok-Decided.ensures.comes their.tran their.one)) refl) in
    let nothing = c.others_leave_the_branches.ensures.nothing bs c.tell-told.new.desk.ledgers in
    let cut = λ (t : ℕ).
    c.stages_are_cuts.ensures.told
    (commit_call t bs start c.tell-told.new.desk.ledgers found.state c.decide.new.log.state
    c.tell-told.result.done.endings.items) mid.ledgers tell.ledgers c.tell-told.new.desk.ledgers
    c.in-Ok.prepared c.in-Ok-decide.decided c.tell-told.result still first between
    c.in-Ok-decide.ensures.decided c.tell-told.ensures.told nothing refl in
    rw (c.of-before.ensures, c.of.ensures, c.of-log_before.ensures, c.of-2.ensures, c.let_go-2.ensures) cut
