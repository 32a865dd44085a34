use Rattle.xa_base.proofs.{arith, ◌≡◌, ap, ◌∙◌, refl}
use Rattle.crossbeam_queue.specs.Passes.{view}
use Rattle.xa_lane.specs.{made_in, taken_in, Receiving, HasAllEnds}
use Rattle.xa_lane.proofs.Closes.{covers_as, marked_as, known_as, conserves_of_ends, leaves_nothing, knows_itself}
use Rattle.xa_lane.proofs.Closes.{knows_no_end}
use Rattle.xa_lane.proofs.lane.close_lane.Goals as goal

pub returns-then-not-are_of-clause-why : goal.returns-then-not-are_of-clause-why
returns-then-not-are_of-clause-why g c = search (arith, c.receiver.view_is, c.if-not-are_of.ensures.1)

pub returns-then-not-are_of-clause-back : goal.returns-then-not-are_of-clause-back
returns-then-not-are_of-clause-back g c = (refl, refl)

pub returns-then-not-are_whole-clause-why : goal.returns-then-not-are_whole-clause-why
returns-then-not-are_whole-clause-why g c =
    search (arith, c.receiver.view_is, c.if-not-are_of.ensures.0, c.if-not-are_whole.ensures.1)

pub returns-then-not-are_whole-clause-back : goal.returns-then-not-are_whole-clause-back
returns-then-not-are_whole-clause-back g c = (refl, refl)

pub take_in-pass-requires-clause-pass : goal.take_in-pass-requires-clause-pass
take_in-pass-requires-clause-pass g c = search (arith, knows_no_end, c.receiver.invariant.0)

-- each end has the receiver's lane, and so its line
pub take_in-pass-requires-clause-ended : goal.take_in-pass-requires-clause-ended
take_in-pass-requires-clause-ended g c = search (arith, c.receiver.view_is, c.requires, c.if-not-are_of.ensures.0)

pub drain-requires-clause-pass : goal.drain-requires-clause-pass
drain-requires-clause-pass g c = search (arith, knows_itself, c.take_in-pass.ensures.pass)

pub drain-requires-clause-left : goal.drain-requires-clause-left
drain-requires-clause-left g c = (c.receiver.invariant.3, c.receiver.invariant.4)

pub drain-requires-clause-whole : goal.drain-requires-clause-whole
drain-requires-clause-whole g c =
    let senders = ap (λ (r : Receiving g.row.T.Denot). r.senders) c.receiver.view_is in
    let whole : HasAllEnds c.args.receiver.senders c.args.ended.items =
    rw senders at (c.if-not-are_whole.ensures.0 refl) in
    let made : made_in (view c.receiver.inside.pass) ≡ c.args.receiver.senders =
    ap made_in c.receiver.invariant.1 ∙ senders in
    covers_as _ _ _ _ _ c.take_in-pass.ensures.knows made whole

pub returns-clause-whole : goal.returns-clause-whole
returns-clause-whole g c = search (arith, c.receiver.view_is, c.if-not-are_of.ensures.0, c.if-not-are_whole.ensures.0)

pub returns-clause-last : goal.returns-clause-last
returns-clause-last g c =
    let taken : taken_in (view c.receiver.inside.pass) ≡ c.args.receiver.taken =
    ap (λ (r : Receiving g.row.T.Denot). r.taken) c.receiver.view_is in
    marked_as _ _ _ c.drain.ensures.0 _ _ _ c.take_in-pass.ensures.knows taken c.drain.ensures.1 c.drain.ensures.2

pub returns-clause-conserves : goal.returns-clause-conserves
returns-clause-conserves g c = conserves_of_ends _ _ _ (returns-clause-last g c)

pub returns-clause-nothing : goal.returns-clause-nothing
returns-clause-nothing g c = leaves_nothing _ _ _ (returns-clause-last g c)

pub returns-clause-known : goal.returns-clause-known
returns-clause-known g c =
    let senders = ap (λ (r : Receiving g.row.T.Denot). r.senders) c.receiver.view_is in
    let made : made_in (view c.receiver.inside.pass) ≡ c.args.receiver.senders =
    ap made_in c.receiver.invariant.1 ∙ senders in
    let taken : taken_in (view c.receiver.inside.pass) ≡ c.args.receiver.taken =
    ap (λ (r : Receiving g.row.T.Denot). r.taken) c.receiver.view_is in
    known_as _ _ _ _ c.drain.ensures.0 _ _ _ c.take_in-pass.ensures.knows made taken c.drain.ensures.1 c.drain.ensures.3
