use Rattle.xa_base.proofs.{◌≡◌, ◌++◌, take, map, vec_capacity}
use Rattle.xa_log_shared.specs.declared.ask.Deed.TheVariants.{Answers}
use Rattle.xa_log_shared.specs.{answer_each, deeds_in}
use Rattle.xa_log_shared.proofs.group.answer_all.Given as goal

abbrev pub invariant-loop-one : goal.invariant-loop-one
invariant-loop-one l = record {
  done : l.done.items ≡ answer_each l.answer (take l.one-index l.waiting);
  space : vec_capacity l.done ≡ vec_capacity l.initial.done;
  deeds : deeds_in l.deeds.items ≡ deeds_in l.initial.deeds.items ++ map Answers
      (answer_each l.answer (take l.one-index l.waiting));
}
