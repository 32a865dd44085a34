use Rattle.xa_base.proofs.{refl, retained_keys, rules}
use Rattle.xa_log.specs.{is_among}
use Rattle.xa_log_shared.specs.{others}
use Rattle.xa_log_shared.proofs.Own.{drops_others, only_those}
use Rattle.xa_log_shared.proofs.client.LogClientDecisionLog.keep_only.Goals as goal

pub returns-clause-kept : goal.returns-clause-kept
returns-clause-kept g c =
    let kept =
    retained_keys _ (is_among c.args.trans.now) _ (λ k v b w f call. search rules) c.args.self.now.records.entries
    c.retain.new.self.entries c.retain.ensures.filtered in
    let made = only_those c.args.trans.now _ _ kept in
    λ i. record { records = made i; failures = c.args.self.now.failures }

pub returns-clause-forgets : goal.returns-clause-forgets
returns-clause-forgets g c =
    let old = c.args.self.now.records.entries in
    let kept =
    retained_keys _ (is_among c.args.trans.now) _ (λ k v b w f call. search rules) old c.retain.new.self.entries
    c.retain.ensures.filtered in
    let made = only_those c.args.trans.now _ _ kept in
    ((others c.args.trans.now old, rw made (drops_others c.args.trans.now old), c.forget_others.ensures), refl)
