use Rattle.std.proofs.Common.{◌≡◌, All, subst, sym, rules}
use Rattle.std.proofs.lemmas.List.Elements.{All-push}
use Rattle.xa_log_file.specs.declared.condition.Condition.TheVariants.{Ready}
use Rattle.xa_log_file.specs.declared.file_log.FileLog.{FileLog}
use Rattle.demo_accounts.proofs.day.close.Goals as goal

pub loop-attended-preserved : goal.loop-attended-preserved
loop-attended-preserved g c =
    let P : FileLog g.row.D.Denot g.D.Device → Type 0 = λ log. log.condition ≡ Ready in
    record {
      counted = search rules;
      ready =
          subst (All P) (sym c.in_ok-push.ensures.items)
          (All-push P c.loop-attended.logs.items c.in_ok-close_day.field-0 c.loop-attended.invariant.ready
          c.in_ok-close_day.ensures.ready);
    }
