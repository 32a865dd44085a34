use Rattle.xa_base.proofs.{kept_by_key, retained_keys, ap, rules, ◌∙◌}
use Rattle.std.specs.FinMap as map
use Rattle.xa_words.specs.{tran_eq}
use Rattle.xa_log.specs.{is_among}
use Rattle.xa_log.proofs.Transactions.{tran_cmp_total, tran_cmp-IsAntisymmetric, tran_eq-by_cmp, tran_alike}
use Rattle.xa_log.proofs.Kept.{room_stays}
use Rattle.xa_log.proofs.memory.MemoryLogDecisionLog.keep_only.Goals as goal

pub returns-clause-kept : goal.returns-clause-kept
returns-clause-kept c =
    let old = c.self.inside.records.entries in
    let new = c.retain.new.self.entries in
    let kept =
    retained_keys _ (is_among c.args.trans.now) _ (λ k v b w g call. search rules) old new
    c.retain.ensures.filtered in
    let made = kept_by_key tran_eq tran_cmp_total tran_cmp-IsAntisymmetric tran_eq-by_cmp tran_alike
    (is_among c.args.trans.now) old new kept
    ∙ ap (λ b. map.retain_keys b.state.records (is_among c.args.trans.now)) c.self.view_is in
    λ i. record { records = made i; failures = (c.self.view_is i).state.failures }

pub returns-clause-forgets : goal.returns-clause-forgets
returns-clause-forgets c =
    room_stays c.self.inside.is_reserved _ _ _ c.retain.ensures.spare (ap (λ b. b.room) c.self.view_is)
