use Rattle.xa_base.proofs.{arith}
use Rattle.xa_log_file.proofs.Moments.{goes_on, weaker}
use Rattle.xa_log_file.proofs.Grouped.{stands_shown_coming, up_to_gates, placed_shown}
use Rattle.xa_log_file.proofs.writing.write_records.Goals as goal

pub returns-in_default-clause-any_moment : goal.returns-in_default-clause-any_moment
returns-in_default-clause-any_moment g c =
    weaker (stands_shown_coming c.args.slots.now c.args.decisions.now c.requires.new) c.write_bodies.ensures.any_moment

pub returns-in_default-sync-clause-any_moment : goal.returns-in_default-sync-clause-any_moment
returns-in_default-sync-clause-any_moment g c =
    goes_on
    (weaker (stands_shown_coming c.args.slots.now c.args.decisions.now c.requires.new)
    c.write_bodies.ensures.any_moment) c.sync.ensures.time
    (λ f now. stands_shown_coming c.args.slots.now c.args.decisions.now c.requires.new f
    (c.write_bodies.ensures.keeps f (c.in_default-sync.ensures.crash f now)))

pub returns-in_default-open_gates-clause-any_moment : goal.returns-in_default-open_gates-clause-any_moment
returns-in_default-open_gates-clause-any_moment g c =
    search (
      arith,
      up_to_gates,
      c.requires.new,
      c.write_bodies.ensures.any_moment,
      c.in-Ok.ensures.stands,
      c.in-Ok-sync.ensures.durable,
      c.open_gates.ensures.any_moment,
    )

pub returns-in_default-sync-2-clause-any_moment : goal.returns-in_default-sync-2-clause-any_moment
returns-in_default-sync-2-clause-any_moment g c =
    goes_on
    (search (
      arith,
      up_to_gates,
      c.requires.new,
      c.write_bodies.ensures.any_moment,
      c.in-Ok.ensures.stands,
      c.in-Ok-sync.ensures.durable,
      c.open_gates.ensures.any_moment,
    ))
    c.sync-2.ensures.time (λ f now. c.open_gates.ensures.now f (c.in_default-sync-2.ensures.crash f now))

pub returns-clause-any_moment : goal.returns-clause-any_moment
returns-clause-any_moment g c =
    goes_on
    (search (
      arith,
      up_to_gates,
      c.requires.new,
      c.write_bodies.ensures.any_moment,
      c.in-Ok.ensures.stands,
      c.in-Ok-sync.ensures.durable,
      c.open_gates.ensures.any_moment,
    ))
    c.sync-2.ensures.time
    (λ f now. rw (c.in-Ok-sync-2.ensures.durable f now)
    (placed_shown c.args.slots.now c.args.decisions.now _ c.in-Ok-open_gates.ensures.stands))
