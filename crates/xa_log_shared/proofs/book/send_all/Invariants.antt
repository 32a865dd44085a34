use Rattle.xa_base.proofs.{◌≡◌, take, length}
use Rattle.xa_log_shared.specs.{SentBy}
use Rattle.xa_log_shared.proofs.book.send_all.Given as goal

abbrev pub invariant-loop-one : goal.invariant-loop-one
invariant-loop-one g l = record {
  len : length l.answers.items ≡ length l.initial.answers.items;
  sent : SentBy (take l.one-index l.done) l.initial.answers.items l.answers.items;
}
