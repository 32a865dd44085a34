use Rattle.xa_base.proofs.{◌≡◌, ap, sym, refl, ◌∙◌, length, ◌≤◌, true, false, arith, is_some}
use Rattle.std.specs.FinSet as set
use Rattle.xa_tables.specs.{ThreadState, open_mark}
use Rattle.xa_tables.proofs.ThreadLemmas.{contains_thread}
use Rattle.xa_tables.proofs.threads.Threads.has_opened.Goals as goal

marked : (s : ThreadState) → s.is_open ≡ is_some (open_mark s)
marked s = elim (s.is_open) as (λ b. b ≡ is_some (open_mark (record s { is_open = b }))) [ true ↦ refl | false ↦ refl ]

pub returns : goal.returns
returns c =
    let last : c.args.thread ≤ length c.self.inside.threads.items = omega (arith, ap (λ s. s.threads) c.self.view_is) in
    marked c.index.result.now ∙ ap (λ s. is_some (open_mark s)) c.index.ensures
    ∙ sym (contains_thread open_mark c.self.inside.threads.items c.args.thread c.index.result.now c.requires.first last)
    ∙ ap (λ s. set.contains s.opened c.args.thread) c.self.view_is
