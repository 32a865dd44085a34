use Rattle.xa_base.proofs.{refl}
use Rattle.xa_desk.specs.Waits.Waits.{begins, idles}
use Rattle.xa_desk.proofs.Looks.{looks_start, looks_chain, quiet_looks, collects_chain}
use Rattle.xa_desk.proofs.pump.wait_until.Goals as goal

pub loop-init : goal.loop-init
loop-init g c =
    record {
      looks = looks_start _ _ refl;
      missing = c.requires.missing;
      idled = g.met.I.Idle.leads_start _;
      waits = begins _ _ refl refl;
    }

pub returns-in-Some-draw_until-clause-collected : goal.returns-in-Some-draw_until-clause-collected
returns-in-Some-draw_until-clause-collected g c =
    collects_chain _ _ _ c.args.operation _ c.loop.invariant.looks c.in-Some-draw_until.ensures.collected

pub returns-in-Some-draw_until-clause-waited : goal.returns-in-Some-draw_until-clause-waited
returns-in-Some-draw_until-clause-waited g c =
    record {
      now = c.loop.book;
      waits = c.loop.invariant.waits;
      found = c.in-Some-draw_until.ensures.at_once;
      collects = c.in-Some-draw_until.ensures.collected;
    }

pub loop-preserved : goal.loop-preserved
loop-preserved g c = record {
  looks = looks_chain _ _ _ c.loop.invariant.looks (quiet_looks _ _ (c.in_default.ensures.quiet refl));
  missing = c.in_default.ensures.missing refl;
  idled = g.met.I.Idle.leads_chain _ _ _ c.loop.invariant.idled (g.met.I.Idle.leads_each _ _ _ c.idle.ensures);
  waits = idles _ _ _ _ c.loop.invariant.waits
      (record { quiet = c.in_default.ensures.quiet refl; once = c.in_default.ensures.once refl })
      (c.in_default.ensures.missing refl) c.idle.ensures;
}
