use Rattle.xa_lane.proofs.Keeps.{gets, receiver_learning}
use Rattle.xa_lane.proofs.receiver.Receiver.take_parcel.Goals as goal

pub pop_as-parcel-requires-clause-rule : goal.pop_as-parcel-requires-clause-rule
pop_as-parcel-requires-clause-rule g c = (gets _ _ _ _ _ c.self.invariant.1, receiver_learning _ _)
