use Rattle.xa_base.proofs.{◌∙◌, IsDistinct, List, Some, ap, keys_of, lookup, on_ok_weaker, subst, sym, ℕ, ℤ}
use Rattle.xa_words.specs.{key_eq}
use Rattle.xa_tables.specs.{is_S3}
use Rattle.xa_store_sqlite.specs.{Left, PutsSums, image_of, item_at, left_in, state_of_left}
use Rattle.xa_store_sqlite.proofs.Branches.{is_there, named}
use Rattle.xa_store_sqlite.proofs.Removing.{same_differs}
use Rattle.xa_store_sqlite.proofs.Writing.{branch_differs, completed_has, none_left, prepared_has, sums_differ}
use Rattle.xa_store_sqlite.proofs.kept.Kept.put.Goals as goal

pub returns-in_default-clause-put : goal.returns-in_default-clause-put
returns-in_default-clause-put g c = λ o lacks.
    let image = image_of c.args.self.now.mirror in
    let x = c.args.xid.now in (
      none_left x image c.args.manager.now.tables
          (sym (ap left_in c.state.ensures) ∙ sym c.of.ensures ∙ c.in_default.is) lacks,
      same_differs x image,
    )

pub returns-in-Completed-clause-put : goal.returns-in-Completed-clause-put
returns-in-Completed-clause-put g c = λ o lacks.
    let old = image_of c.args.self.now.mirror in
    let new = image_of c.put_left.new.self.mirror in
    let x = c.args.xid.now in
    let slot = c.in_ok-slot.slot in
    let left = c.in-Some.left in
    let put = c.in_ok-slot.ensures.put o lacks in (
      completed_has x slot left old new c.args.manager.now.tables
          (sym (ap left_in c.state.ensures) ∙ sym c.of.ensures ∙ c.in-Some.is)
          (ap (λ (l : Left). is_S3 (Some (state_of_left l))) c.in-Completed.is) lacks put,
      branch_differs x slot left old new put,
    )

pub returns-in-Prepared-clause-order : goal.returns-in-Prepared-clause-order
returns-in-Prepared-clause-order g c = λ o lacks.
    let put = c.in_ok-slot.ensures.put o lacks in
    let branches = c.put_left.new.self.mirror.branches.items in
    c.put_sums.ensures.order (c.in_ok-slot.ensures.order o lacks)
    (is_there (item_at branches c.in_ok-slot.slot) c.args.xid.now
    (named branches c.in_ok-slot.slot c.args.xid.now put.name))

pub returns-in-Prepared-clause-put : goal.returns-in-Prepared-clause-put
returns-in-Prepared-clause-put g c = λ o lacks.
    let old = image_of c.args.self.now.mirror in
    let mid = image_of c.put_left.new.self.mirror in
    let new = image_of c.put_sums.new.self.mirror in
    let x = c.args.xid.now in
    let slot = c.in_ok-slot.slot in
    let left = c.in-Some.left in
    let T = c.args.manager.now.tables in
    let put = c.in_ok-slot.ensures.put o lacks in
    let amounts = c.deref.result.now in
    let is = sym (ap left_in c.state.ensures) ∙ sym c.of.ensures ∙ c.in-Some.is in
    let on = ap (λ (l : Left). is_S3 (Some (state_of_left l))) c.in-Prepared.is in
    on_ok_weaker c.put_sums.result
    (λ (sums : PutsSums x amounts mid new). (
      prepared_has x slot left old mid new T amounts is on put sums
          (λ k. ap (lookup (key_eq k)) c.deref.ensures.value ∙ c.sums_of.ensures.each k),
      sums_differ x slot left old mid new amounts put sums,
    ))
    (c.put_sums.ensures.sums (c.in_ok-slot.ensures.order o lacks) x put.name (λ k. put.sums x k ∙ lacks.sums k)
    (subst (λ (l : List (List ℕ × ℤ)). IsDistinct key_eq (keys_of l)) (sym c.deref.ensures.value)
    c.sums_of.ensures.once))
