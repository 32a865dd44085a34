use Rattle.xa_base.proofs.{◌≡◌, true, ◌∷◌, ◌++◌, List, ap, All, All-contains, All-head, Contains, is_some, map}
use Rattle.xa_words.specs.{TranName}
use Rattle.xa_driver.specs.{IsTranOf}
use Rattle.laws_commit.specs.{CommitCall, ResolveCall, is_recorded}
use Rattle.laws_kill.specs.{EndedOpening, FollowEachOther, IsEndedOpening, IsLeftToResolves, IsThere, LastResolves}
use Rattle.laws_kill.specs.{WasBegunIn, as_opening, settled_as, with_commit}
use Rattle.laws_kill.proofs.InTurn.{begun_use, from_one, is_there, up_to_one}
use Rattle.laws_kill.proofs.openings.committed_transactions_are_there.Goals as goal

module _ (c : goal.After-one_outcome) where
  there : (before : List EndedOpening) (o : EndedOpening) (later rest : List EndedOpening) (q : ResolveCall)
      (k : CommitCall) (t : TranName) → FollowEachOther (before ++ o ∷ (later ++ rest)) → LastResolves later q
      → Contains o.begun k → IsLeftToResolves k o later q → IsTranOf k.branches t → is_recorded k.later t ≡ true
      → All (IsThere k (with_commit o k) (map as_opening later)) k.branches
  there before o later rest q k t follow resolve among left of_tran recorded =
      let here : FollowEachOther (o ∷ later) =
      up_to_one (o ∷ later) rest (from_one before (o ∷ (later ++ rest)) follow) in
      let is : IsEndedOpening o = All-head IsEndedOpening o later here.each in
      let was : WasBegunIn o.how k = All-contains (WasBegunIn o.how) o.begun k is.begun among in
      is_there o later k t of_tran recorded
      (c.killed_openings_have_one_outcome.ensures before o later rest q k follow resolve among left).0
      (c.recorded_branches_agreed_or_read.ensures (settled_as o.how) k t (begun_use o.setup o.how k is.ended was)
      of_tran recorded)

pub returns : goal.returns
returns c = record {
  recorded = there c;
  told = λ before o later rest q k t done follow resolve among left of_tran finished committed.
      there c before o later rest q k t follow resolve among left of_tran
      (ap is_some (c.one_outcome.ensures.committed k done t finished of_tran committed).recorded);
}
