use Rattle.xa_base.proofs.{arith, sym, ◌∙◌}
use Rattle.xa_log_file.proofs.Moments.{goes_on, all_written, torn_now, written}
use Rattle.xa_log_file.proofs.synced.put.Goals as goal

pub returns-in_err-write_at-clause-now : goal.returns-in_err-write_at-clause-now
returns-in_err-write_at-clause-now g c = torn_now c.requires.within c.requires.durable c.write_at.ensures.crash

pub returns-in_err-write_at-clause-any_moment : goal.returns-in_err-write_at-clause-any_moment
returns-in_err-write_at-clause-any_moment g c =
    written c.requires.within c.requires.durable (g.met.D.Device.only_now c.args.device.now) c.write_at.ensures.crash
    c.write_at.ensures.time

pub returns-in_err-sync-clause-now : goal.returns-in_err-sync-clause-now
returns-in_err-sync-clause-now g c =
    search
    (arith, torn_now, c.requires.within, c.requires.durable, c.write_at.ensures.crash, c.in_err-sync.ensures.crash)

pub returns-in_err-sync-clause-any_moment : goal.returns-in_err-sync-clause-any_moment
returns-in_err-sync-clause-any_moment g c =
    goes_on
    (written c.requires.within c.requires.durable (g.met.D.Device.only_now c.args.device.now)
    c.write_at.ensures.crash c.write_at.ensures.time)
    c.sync.ensures.time (returns-in_err-sync-clause-now g c)

pub returns-clause-now : goal.returns-clause-now
returns-clause-now g c = λ f now. all_written (c.in_ok-sync.ensures.durable f now ∙ c.in_ok-write_at.ensures.written)

pub returns-clause-any_moment : goal.returns-clause-any_moment
returns-clause-any_moment g c =
    goes_on
    (written c.requires.within c.requires.durable (g.met.D.Device.only_now c.args.device.now)
    c.write_at.ensures.crash c.write_at.ensures.time)
    c.sync.ensures.time (returns-clause-now g c)

pub returns-clause-durable : goal.returns-clause-durable
returns-clause-durable g c = λ f now. c.in_ok-sync.ensures.durable f now ∙ sym c.sync.ensures.seen
