use Rattle.xa_base.proofs.{ℕ, List, [], ◌∷◌, ◌∙◌, ap}
use Rattle.xa_log_file.specs.{log_overwritten}
use Rattle.xa_log_file.proofs.Moments.{goes_on, zero_put, rest_put, up_to_rest, head_put, new_stands}
use Rattle.xa_log_file.proofs.creating.write_new.Goals as goal

pub returns-in_err-write_at-2-clause-any_moment : goal.returns-in_err-write_at-2-clause-any_moment
returns-in_err-write_at-2-clause-any_moment g c =
    let one = zero_put c.requires.empty c.in_ok-write_at.ensures.written in
    let rest = up_to_rest c.args.slots _ _ c.requires.durable (g.met.D.Device.only_now c.args.device.now)
    c.write_at.ensures.crash c.write_at.ensures.time
    (λ f now. c.in_ok-sync.ensures.durable f now ∙ one) c.sync.ensures.time c.write_at-2.ensures.crash
    c.write_at-2.ensures.time in
    rest.0

pub returns-in_err-sync-2-clause-any_moment : goal.returns-in_err-sync-2-clause-any_moment
returns-in_err-sync-2-clause-any_moment g c =
    let one = zero_put c.requires.empty c.in_ok-write_at.ensures.written in
    let rest = up_to_rest c.args.slots _ _ c.requires.durable (g.met.D.Device.only_now c.args.device.now)
    c.write_at.ensures.crash c.write_at.ensures.time
    (λ f now. c.in_ok-sync.ensures.durable f now ∙ one) c.sync.ensures.time c.write_at-2.ensures.crash
    c.write_at-2.ensures.time in
    goes_on rest.0 c.sync-2.ensures.time (λ f left. rest.1 f (c.in_err-sync-2.ensures.crash f left))

pub returns-in_err-put-clause-any_moment : goal.returns-in_err-put-clause-any_moment
returns-in_err-put-clause-any_moment g c =
    let one = zero_put c.requires.empty c.in_ok-write_at.ensures.written in
    let all = rest_put one c.sync.ensures.seen c.in_ok-write_at-2.ensures.written in
    let rest = up_to_rest c.args.slots _ _ c.requires.durable (g.met.D.Device.only_now c.args.device.now)
    c.write_at.ensures.crash c.write_at.ensures.time
    (λ f now. c.in_ok-sync.ensures.durable f now ∙ one) c.sync.ensures.time c.write_at-2.ensures.crash
    c.write_at-2.ensures.time in
    head_put rest.0 c.requires.few c.requires.later (λ f now. c.in_ok-sync-2.ensures.durable f now ∙ all)
    c.sync-2.ensures.time (c.sync-2.ensures.seen ∙ all)
    c.put.ensures.any_moment

pub returns-clause-any_moment : goal.returns-clause-any_moment
returns-clause-any_moment g c =
    let one = zero_put c.requires.empty c.in_ok-write_at.ensures.written in
    let all = rest_put one c.sync.ensures.seen c.in_ok-write_at-2.ensures.written in
    let rest = up_to_rest c.args.slots _ _ c.requires.durable (g.met.D.Device.only_now c.args.device.now)
    c.write_at.ensures.crash c.write_at.ensures.time
    (λ f now. c.in_ok-sync.ensures.durable f now ∙ one) c.sync.ensures.time c.write_at-2.ensures.crash
    c.write_at-2.ensures.time in
    head_put rest.0 c.requires.few c.requires.later (λ f now. c.in_ok-sync-2.ensures.durable f now ∙ all)
    c.sync-2.ensures.time (c.sync-2.ensures.seen ∙ all)
    c.put.ensures.any_moment

pub returns-clause-written : goal.returns-clause-written
returns-clause-written g c =
    let one = zero_put c.requires.empty c.in_ok-write_at.ensures.written in
    let all = rest_put one c.sync.ensures.seen c.in_ok-write_at-2.ensures.written in
    rw (c.in_ok-put.ensures.written ∙ ap (λ (l : List ℕ). log_overwritten l 0 (120 ∷ [])) (c.sync-2.ensures.seen ∙ all))
    (new_stands c.args.slots c.args.later.now c.requires.few c.requires.later)
