use Rattle.xa_base.proofs.{refl, arith}
use Rattle.xa_log_shared.specs.{Append, answered_by}
use Rattle.xa_log_shared.specs.declared.ask.Deed.TheVariants.{Answers}
use Rattle.xa_log_shared.proofs.Moves.{moves_one, lane_sent}
use Rattle.xa_log_shared.proofs.book.Book.answer.Goals as goal

pub returns-clause-moves : goal.returns-clause-moves
returns-clause-moves g c =
    let self = c.args.self.now in
    let a = answered_by c.args.from c.args.decision.now c.args.answer in
    moves_one (Answers a) c.args.from c.args.decision.now.tran (Append c.args.decision.now) _ _ _ _ _ _ _ _
    self.waiting.items c.note.ensures c.requires.does
    (lane_sent self.answers.items c.index_mut.result.now c.send.new.sender a
    (omega (arith, c.requires.place, self.answers.ok.0)) c.index_mut.ensures.value
    c.send.ensures)
    c.requires.apart (λ p. refl)
