use Rattle.xa_base.proofs.{sym, ap, ◌∙◌, arith, is_some, get-from_entries}
use Rattle.std.specs.FinMap as finmap
use Rattle.xa_words.specs.{key_cmp_total}
use Rattle.xa_tables.specs.{value_entries}
use Rattle.xa_tables.proofs.PlaceLemmas.{place_some, place_within, place_key}
use Rattle.xa_tables.proofs.accounts.Accounts.place_of.Goals as goal

pub returns-clause-declared : goal.returns-clause-declared
returns-clause-declared c =
    let k = c.args.key.now in
    let items = c.self.inside.accounts.items in
    ap is_some (c.get.ensures ∙ c.self.invariant.2 k) ∙ place_some k items
    ∙ ap is_some (sym (get-from_entries key_cmp_total (value_entries items) k))
    ∙ ap (λ h. is_some (finmap.get h.values k)) c.self.view_is

pub returns-clause-within : goal.returns-clause-within
returns-clause-within c = grind (arith, place_within)

pub returns-clause-placed : goal.returns-clause-placed
returns-clause-placed c = grind (arith, place_key)
