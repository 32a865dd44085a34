use Rattle.xa_base.proofs.{◌++◌, List, ◌∷◌, refl, sym, subst, All-contains, All-head}
use Rattle.laws_commit.specs.{Opening}
use Rattle.laws_balances.specs.{ComesOutByTheLog, IsItsOwn, leg_of}
use Rattle.laws_kill.specs.{FollowEachOther, IsEndedOpening, WasBegunIn, settled_as, with_commit}
use Rattle.laws_kill.proofs.InTurn.{from_one, is_resolved, later_are, up_to_one}
use Rattle.laws_kill.proofs.balances.killed_branches_come_out_by_the_log.Goals as goal

pub returns : goal.returns
returns c = λ accounts before o later rest q k t b T follow resolve among left of_tran branch few first still gone own.
    let goes_on = c.reopened_openings_go_on_from_what_was_left.ensures in
    let own_log = c.several_logs_are_read_as_one.ensures.own in
    let here : FollowEachOther (o ∷ later) =
    up_to_one (o ∷ later) rest (from_one before (o ∷ (later ++ rest)) follow) in
    let was : WasBegunIn o.how k =
    All-contains (WasBegunIn o.how) o.begun k (All-head IsEndedOpening o later here.each).begun among in
    let resolved = is_resolved goes_on own_log o later q k here resolve was left in
    let same = later_are goes_on own_log o later q k here resolve was left in
    record {
      before = before;
      begun = o;
      later = later;
      rest = rest;
      parts = refl;
      still = still;
      gone = gone;
      first = T;
      begins = first;
      call = k;
      out =
          subst
          (λ (os : List Opening). ComesOutByTheLog accounts b.m T (with_commit o k) os
          (leg_of accounts k t (settled_as o.how) T b))
          (sym same)
          (c.branches_come_out_by_the_log.ensures accounts _ _ _ k q t b T resolved of_tran branch few first
          (subst (λ (os : List Opening). IsItsOwn k t (with_commit o k) os T b) same own));
    }
