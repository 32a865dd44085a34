use Rattle.xa_base.proofs.{◌++◌, ◌∷◌, sym, subst, All-contains, All-head}
use Rattle.laws_commit.specs.{CountsByTheLog, EndsByTheLog}
use Rattle.laws_kill.specs.{FollowEachOther, IsEndedOpening, WasBegunIn, with_commit}
use Rattle.laws_kill.proofs.InTurn.{from_one, is_resolved, later_are, up_to_one}
use Rattle.laws_kill.proofs.openings.killed_openings_have_one_outcome.Goals as goal

pub returns : goal.returns
returns c = λ before o later rest q k follow resolve among left.
    let goes_on = c.reopened_openings_go_on_from_what_was_left.ensures in
    let own_log = c.several_logs_are_read_as_one.ensures.own in
    let here : FollowEachOther (o ∷ later) =
    up_to_one (o ∷ later) rest (from_one before (o ∷ (later ++ rest)) follow) in
    let was : WasBegunIn o.how k =
    All-contains (WasBegunIn o.how) o.begun k (All-head IsEndedOpening o later here.each).begun among in
    let resolved = is_resolved goes_on own_log o later q k here resolve was left in
    let same = sym (later_are goes_on own_log o later q k here resolve was left) in (
      subst (EndsByTheLog k (with_commit o k)) same
          (c.presumed_transactions_have_one_outcome.ensures _ _ _ k q resolved),
      subst (CountsByTheLog k (with_commit o k)) same
          (c.presumed_transactions_count_by_the_log.ensures _ _ _ k q resolved),
    )
