use Rattle.xa_base.proofs.{[], ◌∷◌, ◌++◌, ◌≡◌, ◌+◌, Bool, ◌∙◌, ap, sym, arith}
use Rattle.xa_log_file.specs.{failures, count_failed, last_synced, synced_after, writing, DeviceCall}
use Rattle.xa_log_file.proofs.Moments.{leaves_to, elapses_to, failures_to, writing_follows, failed_writing}
use Rattle.xa_log_file.proofs.Noted.{synced_to, synced_writing}
use Rattle.xa_log_file.proofs.mirrored.MirroredDevice.write_at.Goals as goal

pub returns-then-ok-clause-crash : goal.returns-then-ok-clause-crash
returns-then-ok-clause-crash g c = λ f left.
    let made =
    c.and-self.ensures
    ∙ ap (λ (e : DeviceCall). c.args.self.now.past.items ++ (e, c.write_both-ok.new.copy) ∷ []) c.call_of.ensures in
    writing_follows c.args.at c.args.bytes.now c.write_both-ok.result c.write_both-ok.new.copy.items _ f
    (leaves_to c.args.self.now.past.items c.and-self.result.items _ _ f made left)

pub returns-then-ok-clause-time : goal.returns-then-ok-clause-time
returns-then-ok-clause-time g c = elapses_to c.args.self.now.past.items c.and-self.result.items _ _ c.and-self.ensures

pub returns-then-ok-clause-cause : goal.returns-then-ok-clause-cause
returns-then-ok-clause-cause g c =
    search (arith, failures_to, c.call_of.ensures, c.args.self.now.past.items, c.and-self.result.items)

pub returns-else-ok-clause-crash : goal.returns-else-ok-clause-crash
returns-else-ok-clause-crash g c = λ f left.
    let made =
    c.and-self.ensures
    ∙ ap (λ (e : DeviceCall). c.args.self.now.past.items ++ (e, c.write_both-ok.new.copy) ∷ []) c.call_of.ensures in
    writing_follows c.args.at c.args.bytes.now c.write_both-ok.result c.write_both-ok.new.copy.items _ f
    (leaves_to c.args.self.now.past.items c.and-self.result.items _ _ f made left)

pub returns-else-ok-clause-time : goal.returns-else-ok-clause-time
returns-else-ok-clause-time g c = elapses_to c.args.self.now.past.items c.and-self.result.items _ _ c.and-self.ensures

pub returns-else-ok-clause-cause : goal.returns-else-ok-clause-cause
returns-else-ok-clause-cause g c = grind (arith, failures_to)

pub invariant_of-self : goal.invariant_of-self
invariant_of-self g c =
    let past = c.args.self.now.past.items in
    record {
      given = c.write_both-ok.ensures.given;
      kept = λ ok.
          let same : last_synced c.and-self.result.items ≡ last_synced past =
          synced_to past c.and-self.result.items c.call_of.result c.write_both-ok.new.copy c.and-self.ensures
          ∙ ap (λ (e : DeviceCall). synced_after (last_synced past) e c.write_both-ok.new.copy.items) c.call_of.ensures
          ∙ synced_writing c.args.at c.args.bytes.now c.write_both-ok.result (last_synced past)
          c.write_both-ok.new.copy.items in
          c.write_both-ok.ensures.kept ok ∙ c.args.self.now.kept (c.write_both-ok.ensures.usable ok) ∙ sym same;
      usable = λ ok.
          let before : failures past ≡ 0 = c.args.self.now.usable (c.write_both-ok.ensures.usable ok) in
          let made : failures c.and-self.result.items ≡ count_failed c.call_of.result + failures past =
          failures_to past c.and-self.result.items c.call_of.result c.write_both-ok.new.copy c.and-self.ensures in
          let none : count_failed c.call_of.result ≡ 0 =
          ap count_failed c.call_of.ensures ∙ ap (λ (b : Bool). count_failed (writing c.args.at c.args.bytes.now b)) ok
          ∙ failed_writing c.args.at c.args.bytes.now in
          omega (arith, made, none, before);
    }
