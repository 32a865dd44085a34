use Rattle.xa_base.proofs.{◌≡◌, ◌+◌, ◌-◌, length, replicate, ap, ◌∙◌, arith, drop, ℕ, drop-replicate}
use Rattle.xa_words.proofs.xid.joined.Goals as goal

-- after both parts there are still the zeros
rest_of : (g b : ℕ) → drop b (drop g (replicate {A = ℕ} 128 0)) ≡ replicate (128 - (g + b)) 0
rest_of g b =
    ap (drop b) (drop-replicate g 128 0) ∙ drop-replicate b (128 - g) 0 ∙ ap (λ n. replicate n 0) (omega arith)

pub returns : goal.returns
returns c =
    let e = rest_of (length c.args.gtrid.now) (length c.args.bqual.now) in
    cc (
      c.copy_from_slice.ensures.after,
      c.copy_from_slice-2.ensures.after,
      c.split_at_mut-second.ensures.back,
      c.split_at_mut-first.ensures.back,
      e,
    )
