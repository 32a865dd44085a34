use Rattle.xa_base.proofs.{◌≡◌, ◌+◌, Ok, Err, refl, ap, ◌∙◌, arith, at_true, at_false}
use Rattle.xa_calls.specs.{AsksAndWaits, unreached, stopped, told, room_in, scan_end}
use Rattle.xa_scan.specs.{left_at, standing}
use Rattle.xa_calls.proofs.Kept.{leaves_on}
use Rattle.xa_calls.proofs.Recovered.{scanned_from, done_refuses_none}
use Rattle.xa_calls.proofs.recovering.recover_from.Goals as goal
use Rattle.xa_calls.proofs.recovering.recover_from.Goals.{then-mode, else-mode}

pub returns-in_default : goal.returns-in_default
returns-in_default g c = record {
  recovers = unreached c.ask.result c.ask.ensures.asks c.in_default.not-Done refl refl;
  bound = tt;
  leaves = c.ask.ensures.leaves;
  kept = c.ask.ensures.kept;
  prompt = c.ask.ensures.prompt;
}

pub returns-after-mode : goal.returns-after-mode
returns-after-mode g c =
    let m = c.args.manager in
    let asking = AsksAndWaits g.I.Idle.leads_by m in
    let (found, scans, written, many) = c.in-Ok.ensures.scanned in
    let end : c.if-mode.end ≡ scan_end c.args.mode (c.args.place + c.in-Ok.looked) =
    search (arith, then-mode, at_true, else-mode, at_false) in
    record {
      recovers = rw many
          (told (c.ask.new.desk, c.ask.new.idle) found c.in-Ok.looked c.in-Done.ensures.asks
          (scanned_from asking (room_in c.args.xids.now) c.args.place c.left.result.now (left_at c.args.scan.now m)
          _ _ found (Ok c.in-Ok.looked) c.room_in-room.result c.room_in-room.ensures.room c.left.ensures scans)
          (c.stand.ensures ∙ ap (standing c.args.scan.now m) end) written);
      bound = omega (arith, c.in-Ok.ensures.bound, c.room_in-room.ensures.told);
      leaves = leaves_on c.desks_go_on.ensures.further g.met.I.Idle.leads_chain c.ask.ensures.leaves
          c.look.ensures.leaves;
      kept = λ all. c.look.ensures.kept (c.ask.ensures.kept all);
      prompt = done_refuses_none _ _ _ _ _ _ _ c.ask.ensures.asks.answers c.in-Done.is;
    }

pub returns-in-Err : goal.returns-in-Err
returns-in-Err g c =
    let asking = AsksAndWaits g.I.Idle.leads_by c.args.manager in
    let (found, scans, written, many) = c.in-Err.ensures.scanned in
    record {
      recovers = stopped (c.ask.new.desk, c.ask.new.idle) found c.in-Err.why c.in-Done.ensures.asks
          (scanned_from asking (room_in c.args.xids.now) c.args.place c.left.result.now
          (left_at c.args.scan.now c.args.manager) _ _ found (Err c.in-Err.why)
          c.room_in-room.result c.room_in-room.ensures.room c.left.ensures scans)
          refl written;
      bound = tt;
      leaves = leaves_on c.desks_go_on.ensures.further g.met.I.Idle.leads_chain c.ask.ensures.leaves
          c.look.ensures.leaves;
      kept = λ all. c.look.ensures.kept (c.ask.ensures.kept all);
      prompt = done_refuses_none _ _ _ _ _ _ _ c.ask.ensures.asks.answers c.in-Done.is;
    }
