use Rattle.xa_base.proofs.{◌≡◌, true, false, [], ◌∷◌, ◌++◌, ap, sym, ◌∙◌, append_assoc, rules}
use Rattle.std.specs.Map.Iter.{deref_pair}
use Rattle.std.proofs.lemmas.Map.Iter.{rest_more}
use Rattle.xa_log.specs.{is_among}
use Rattle.xa_log_shared.specs.{others}
use Rattle.xa_log_shared.proofs.Own.{asks_one_more, others_next, others_past}
use Rattle.xa_log_shared.proofs.client.forget_others.Goals as goal

pub loop-tran-preserved-then-not-contains : goal.loop-tran-preserved-then-not-contains
loop-tran-preserved-then-not-contains g c =
    let ts = c.args.trans.now in
    let tran = c.in-Some.tran.now in
    let (done, left, asked) = c.loop-tran.invariant in
    let next =
    rest_more deref_pair c.loop-tran.tran-iterator c.next.new.self c.next.result _ c.in-Some.is
    c.next.ensures.steps in
    let isnt : is_among c.args.trans.now c.in-Some.tran.now ≡ false = search rules in (
      done ++ tran ∷ [],
      append_assoc done (tran ∷ []) (others ts c.next.new.self)
          ∙ ap (λ l. done ++ l) (sym (others_next ts _ c.loop-tran.tran-iterator c.next.new.self next isnt)) ∙ left,
      asks_one_more done c.args.asks.now c.loop-tran.asks c.send.new.sender tran asked c.send.ensures,
    )

pub loop-tran-preserved : goal.loop-tran-preserved
loop-tran-preserved g c =
    let ts = c.args.trans.now in
    let (done, left, asked) = c.loop-tran.invariant in
    let next =
    rest_more deref_pair c.loop-tran.tran-iterator c.next.new.self c.next.result _ c.in-Some.is
    c.next.ensures.steps in
    let is : is_among c.args.trans.now c.in-Some.tran.now ≡ true = search rules in
    (done, ap (λ l. done ++ l) (sym (others_past ts _ c.loop-tran.tran-iterator c.next.new.self next is)) ∙ left, asked)
