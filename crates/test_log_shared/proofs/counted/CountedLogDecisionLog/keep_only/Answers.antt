use Rattle.xa_base.proofs.{kept_by_key, retained_keys, rules}
use Rattle.xa_words.specs.{tran_eq}
use Rattle.xa_log.specs.{is_among}
use Rattle.xa_log.proofs.Transactions.{tran_cmp_total, tran_cmp-IsAntisymmetric, tran_eq-by_cmp, tran_alike}
use Rattle.test_log_shared.proofs.counted.CountedLogDecisionLog.keep_only.Goals as goal

pub returns-clause-kept : goal.returns-clause-kept
returns-clause-kept c =
    let old = c.args.self.now.records.entries in
    let new = c.retain.new.self.entries in
    let kept =
    retained_keys _ (is_among c.args.trans.now) _ (λ k v b w f call. search rules) old new
    c.retain.ensures.filtered in
    let made =
    kept_by_key tran_eq tran_cmp_total tran_cmp-IsAntisymmetric tran_eq-by_cmp tran_alike
    (is_among c.args.trans.now) old new kept in
    λ i. record { records = made i; failures = c.args.self.now.failures }
