use Rattle.xa_base.proofs.{refl}
use Rattle.xa_desk.specs.Waits.Waits.{begins, idles}
use Rattle.xa_desk.proofs.Looks.{looks_start, looks_chain, quiet_looks, least_chain}
use Rattle.xa_desk.proofs.pump.wait_for_any.Goals as goal

pub loop-init : goal.loop-init
loop-init g c =
    record { looks = looks_start _ _ refl; idled = g.met.I.Idle.leads_start _; waits = begins _ _ refl refl }

pub returns-in-Some-try_collect_any-clause-collected : goal.returns-in-Some-try_collect_any-clause-collected
returns-in-Some-try_collect_any-clause-collected g c =
    least_chain _ _ _ _ _ _ c.loop.invariant.looks c.in-Some-try_collect_any.ensures.collected

pub returns-in-Some-try_collect_any-clause-waited : goal.returns-in-Some-try_collect_any-clause-waited
returns-in-Some-try_collect_any-clause-waited g c =
    record {
      now = c.loop.book;
      waits = c.loop.invariant.waits;
      once = c.in-Some-try_collect_any.ensures.once;
      collects = c.in-Some-try_collect_any.ensures.collected;
    }

pub loop-preserved : goal.loop-preserved
loop-preserved g c = record {
  looks = looks_chain _ _ _ c.loop.invariant.looks (quiet_looks _ _ (c.in_default.ensures.quiet refl));
  idled = g.met.I.Idle.leads_chain _ _ _ c.loop.invariant.idled (g.met.I.Idle.leads_each _ _ _ c.idle.ensures);
  waits = idles _ _ _ _ c.loop.invariant.waits
      (record { quiet = c.in_default.ensures.quiet refl; once = c.in_default.ensures.once })
      (c.in_default.ensures.missing refl) c.idle.ensures;
}
