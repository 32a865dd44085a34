use Rattle.test_soak.proofs.visitor.work_on.Goals as goal

pub returns-clause-idled : goal.returns-clause-idled
returns-clause-idled g c =
    let further = c.idles_go_on.ensures.further in
    further _ _ _ (further _ _ _ (further _ _ _ c.xa_call.ensures.idled c.ask.ensures.idled) c.add.ensures.idled)
    c.ask-2.ensures.idled
