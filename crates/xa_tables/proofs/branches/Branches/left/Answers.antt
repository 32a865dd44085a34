use Rattle.xa_base.proofs.{arith, ap, append-nil, sym, ◌∙◌, ◌≡◌, Some, Bool, filter, Option, is_some, list_any}
use Rattle.xa_base.proofs.{get-lookup, keys_of, lookup}
use Rattle.std.specs.FinMap as map
use Rattle.std.proofs.lemmas.List.Sorted.{list_any-IsPermutation}
use Rattle.std.proofs.lemmas.Map.Keys.{IsDistinct-IsPermutation}
use Rattle.std.proofs.lemmas.Map.Made.{IsDistinct-keys_filter, is_some-lookup}
use Rattle.std.proofs.lemmas.Map.Entries.{option_filter, lookup-filter-values}
use Rattle.xa_words.specs.{xid_eq, xid_cmp_total, xid_cmp-IsAntisymmetric, xid_eq-by_cmp}
use Rattle.xa_tables.proofs.SoundLemmas.{swap_xid, xid_eq_laws}
use Rattle.xa_tables.specs.{State, is_left_in}
use Rattle.xa_tables.proofs.branches.Branches.left.Goals as goal

abbrev is_kept : State → Bool
is_kept s = is_left_in (Some s)

there : (o : Option State) → is_some (option_filter is_kept o) ≡ is_left_in o
there o = grind arith

-- before they are sorted: the keys of the entries that are left
all_left : (c : goal.After-sort_unstable)
    → c.loop-xid.left.items ≡ keys_of (filter (λ e. is_kept e.1) c.self.inside.states.entries)
all_left c = search (arith, append-nil)

pub returns-clause-once : goal.returns-clause-once
returns-clause-once c =
    let es = c.self.inside.states.entries in
    IsDistinct-IsPermutation xid_eq swap_xid _ _ c.sort_unstable.ensures.permutation
    (rw (all_left c) (IsDistinct-keys_filter xid_eq (λ e. is_kept e.1) es c.iter-xid-items.ensures.unique))

pub returns-clause-each : goal.returns-clause-each
returns-clause-each c x =
    let es = c.self.inside.states.entries in
    sym (list_any-IsPermutation (xid_eq x) _ _ c.sort_unstable.ensures.permutation)
    ∙ ap (list_any (xid_eq x)) (all_left c)
    ∙ sym (is_some-lookup (xid_eq x) (filter (λ e. is_kept e.1) es))
    ∙ ap is_some (lookup-filter-values xid_eq_laws is_kept x es c.iter-xid-items.ensures.unique)
    ∙ there (lookup (xid_eq x) es)
    ∙ ap is_left_in
    (sym (get-lookup xid_eq xid_cmp_total xid_cmp-IsAntisymmetric xid_eq-by_cmp es x)
    ∙ ap (λ b. map.get b.states x) c.self.view_is)
