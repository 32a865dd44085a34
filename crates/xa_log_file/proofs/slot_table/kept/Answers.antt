use Rattle.xa_base.proofs.{rules, arith, ◌≡◌, Bool, true, false, not, cond, List, sym, ◌∙◌, list_any, eq_by_cmp_equiv}
use Rattle.xa_words.specs.{TranName, tran_eq}
use Rattle.xa_log.specs.{CommitRecord, is_among}
use Rattle.xa_log.proofs.Transactions.{tran_cmp_total, tran_eq-by_cmp}
use Rattle.xa_log_file.specs.{LogSlot, Taken, Forgotten, forgets}
use Rattle.xa_log_file.proofs.slot_table.kept.Goals.{in-Taken+else-not-contains, in_default}
use Rattle.xa_log_file.proofs.slot_table.kept.Goals as goal

among : (ts : List TranName) (t : TranName) → is_among ts t ≡ list_any (λ s. tran_eq s t) ts
among ts t = search (arith, tran_eq-by_cmp, eq_by_cmp_equiv tran_cmp_total)

those : (ts : List TranName) (r : CommitRecord) (b : Bool) → b ≡ list_any (λ s. tran_eq s r.tran) ts
    → cond b (Taken r) (Forgotten r) ≡ forgets (λ t. not (is_among ts t)) (Taken r)
those ts r b is = search (arith, among)

others : (ts : List TranName) (s : LogSlot) → ((r : CommitRecord) → s ≡ Taken r → ⊥)
    → s ≡ forgets (λ t. not (is_among ts t)) s
others ts s differs = search (arith, rules)

pub returns-then-not-contains : goal.returns-then-not-contains
returns-then-not-contains c =
    rw c.in-Taken.is
    (those c.args.trans.now c.in-Taken.decision false (sym c.if-not-contains.true ∙ c.contains.ensures.value))

pub returns : goal.returns
returns c = elim c.match-slot.branch [
  | in-Taken+else-not-contains w ↦
      rw w.in-Taken.is
      (those c.args.trans.now w.in-Taken.decision true (sym w.if-not-contains.false ∙ w.contains.ensures.value))
  | in_default w ↦ others c.args.trans.now c.args.slot.now (λ r is. w.in_default.not-Taken r is)
]
