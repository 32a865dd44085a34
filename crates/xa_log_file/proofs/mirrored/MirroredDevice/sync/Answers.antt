use Rattle.xa_base.proofs.{[], ◌∷◌, ◌++◌, ◌≡◌, ◌+◌, Bool, true, false, ◌∙◌, ap, sym, arith}
use Rattle.xa_log_file.specs.{failures, count_failed, last_synced, synced_after, Synced}
use Rattle.xa_log_file.proofs.Moments.{leaves_to, elapses_to, failures_to}
use Rattle.xa_log_file.proofs.Noted.{synced_to}
use Rattle.xa_log_file.proofs.mirrored.MirroredDevice.sync.Goals as goal

pub returns-then-ok-clause-durable : goal.returns-then-ok-clause-durable
returns-then-ok-clause-durable g c = λ f left.
    leaves_to c.args.self.now.past.items c.and-self.result.items (Synced true) c.args.self.now.bytes f
    (c.and-self.ensures
    ∙ ap (λ (b : Bool). c.args.self.now.past.items ++ (Synced b, c.args.self.now.bytes) ∷ []) c.if-ok.true) left

pub returns-then-ok-clause-cause : goal.returns-then-ok-clause-cause
returns-then-ok-clause-cause g c = search (arith, failures_to, c.args.self.now.past.items, c.and-self.result.items)

pub returns-else-ok-clause-crash : goal.returns-else-ok-clause-crash
returns-else-ok-clause-crash g c = λ f left.
    leaves_to c.args.self.now.past.items c.and-self.result.items (Synced false) c.args.self.now.bytes f
    (c.and-self.ensures
    ∙ ap (λ (b : Bool). c.args.self.now.past.items ++ (Synced b, c.args.self.now.bytes) ∷ []) c.if-ok.false) left

pub returns-else-ok-clause-time : goal.returns-else-ok-clause-time
returns-else-ok-clause-time g c = elapses_to c.args.self.now.past.items c.and-self.result.items _ _ c.and-self.ensures

pub returns-else-ok-clause-cause : goal.returns-else-ok-clause-cause
returns-else-ok-clause-cause g c = search (arith, failures_to, c.args.self.now.past.items, c.and-self.result.items)

pub invariant_of-self : goal.invariant_of-self
invariant_of-self g c =
    let past = c.args.self.now.past.items in
    record {
      given = λ ok. c.sync_file-ok.ensures.given ok ∙ c.args.self.now.given (c.sync_file-ok.ensures.usable ok);
      kept = λ ok.
          let now : last_synced c.and-self.result.items ≡ c.args.self.now.bytes.items =
          synced_to past c.and-self.result.items (Synced c.sync_file-ok.result) c.args.self.now.bytes c.and-self.ensures
          ∙ ap (λ (b : Bool). synced_after (last_synced past) (Synced b) c.args.self.now.bytes.items) ok in
          c.sync_file-ok.ensures.kept ok ∙ c.args.self.now.given (c.sync_file-ok.ensures.usable ok) ∙ sym now;
      usable = λ ok.
          let before : failures past ≡ 0 = c.args.self.now.usable (c.sync_file-ok.ensures.usable ok) in
          let made : failures c.and-self.result.items ≡ 0 + failures past =
          failures_to past c.and-self.result.items (Synced c.sync_file-ok.result) c.args.self.now.bytes
          c.and-self.ensures
          ∙ ap (λ (b : Bool). count_failed (Synced b) + failures past) ok in
          omega (arith, made, before);
    }
