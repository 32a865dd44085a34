use Rattle.xa_base.proofs.{◌≡◌, ◌+◌, ◌<◌, ◌++◌, ◌∷◌, [], length, set, ap, sym, take, length-set, arith, ◌∙◌, take_more}
use Rattle.xa_log_shared.proofs.Moves.{lane_sent, sent_chain}
use Rattle.xa_log_shared.proofs.book.send_all.Goals as goal

pub loop-one-preserved : goal.loop-one-preserved
loop-one-preserved g c =
    let i = c.loop-one.one-index in
    let a = c.one-item.result in
    let done = c.args.done.now in
    let lanes = c.loop-one.answers.items in
    let within : a.from < length lanes =
    rw c.one-item.is (omega (arith, c.requires i a c.loop-one-test.true, c.loop-one.invariant.len)) in
    let more : take (i + 1) done ≡ take i done ++ a ∷ [] =
    take_more done i a c.loop-one-test.true ∙ ap (λ x. take i done ++ x ∷ []) (sym c.one-item.is) in
    record {
      len = length-set lanes a.from c.send.new.sender ∙ c.loop-one.invariant.len;
      sent =
          rw more
          (sent_chain (take i done) (a ∷ []) c.args.answers.now.items lanes (set lanes a.from c.send.new.sender)
          c.loop-one.invariant.sent
          (lane_sent lanes c.index_mut.result.now c.send.new.sender a within c.index_mut.ensures.value
          c.send.ensures));
    }
