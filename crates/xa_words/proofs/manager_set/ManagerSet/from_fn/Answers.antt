use Rattle.xa_base.proofs.{arith, ◌∙◌, length-set}
use Rattle.xa_words.proofs.ManagerSets.{all_asked, eight, one_more}
use Rattle.xa_words.proofs.manager_set.ManagerSet.from_fn.Goals as goal

pub loop-place-preserved : goal.loop-place-preserved
loop-place-preserved g c =
    let i = c.loop-place.invariant in
    record {
      long = length-set c.loop-place.places c.loop-place.place c.test.result ∙ i.long;
      asked =
          one_more (goal.F-post g c.args.test) c.loop-place.places c.loop-place.place c.test.result
          (omega (arith, i.long)) c.test.ensures i.asked;
    }

pub returns-clause-asked : goal.returns-clause-asked
returns-clause-asked g c =
    all_asked (goal.F-post g c.args.test) c.loop-place.places
    (λ k below. c.loop-place.invariant.asked k (omega (arith, below)))

pub returns-clause-places : goal.returns-clause-places
returns-clause-places g c = eight c.loop-place.places c.loop-place.invariant.long
