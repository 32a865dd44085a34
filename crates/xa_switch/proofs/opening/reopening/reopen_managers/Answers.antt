use Rattle.xa_base.proofs.{found, ◌≡◌, ◌+◌, Some, option_map, ◌∙◌, arith, range_with_len, map-append, range_more}
use Rattle.xa_base.proofs.{All-contains, length-map-range_with_len}
use Rattle.xa_switch.specs.{ReadyPart, find_ready}
use Rattle.xa_switch.proofs.SettledOpenings.{find_parts}
use Rattle.xa_switch.proofs.opening.reopening.reopen_managers.Goals as goal

pub take_manager-manager-requires : goal.take_manager-manager-requires
take_manager-manager-requires c =
    let there = c.requires.there (c.loop-before.before + 1) (omega arith) (omega arith) in
    (there.0, c.loop-before.invariant.kept (c.loop-before.before + 1) (omega arith) ∙ there.1)

pub reopened-requires : goal.reopened-requires
reopened-requires c =
    let taken : ReadyPart = c.take_manager-manager.result in
    let there : find_ready (c.loop-before.before + 1) c.args.carried.items ≡ Some taken =
    search (arith, c.loop-before.invariant.kept) in
    All-contains (λ (r : ReadyPart). r.reserved ≡ Some (c.args.numbers.now.threads, c.args.room)) c.args.carried.items
    taken c.requires.reserved (found _ c.args.carried.items taken there).0

pub push_reserved-requires : goal.push_reserved-requires
push_reserved-requires c = grind (arith, length-map-range_with_len)

pub loop-before-preserved : goal.loop-before-preserved
loop-before-preserved c = grind (arith, find_parts, option_map, range_more, map-append, range_with_len)
