use Rattle.xa_base.proofs.{ap, sym, ◌∙◌, get-lookup}
use Rattle.std.specs.FinMap as map
use Rattle.xa_words.specs.{key_eq, key_cmp_total, key_cmp-IsAntisymmetric, key_eq-by_cmp}
use Rattle.xa_tables.proofs.places.Places.get.Goals as goal

pub returns : goal.returns
returns c =
    c.copied.ensures ∙ c.get.ensures.value
    ∙ sym
    (get-lookup key_eq key_cmp_total key_cmp-IsAntisymmetric key_eq-by_cmp c.self.inside.places.entries c.args.key.now)
    ∙ ap (λ b. map.get b.places c.args.key.now) c.self.view_is
