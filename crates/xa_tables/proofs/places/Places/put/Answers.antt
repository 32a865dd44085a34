use Rattle.xa_base.proofs.{ap, ◌∙◌, ◌<◌, arith, spare, at_ok, one_put}
use Rattle.std.specs.FinMap as map
use Rattle.xa_words.specs.{key_eq, key_cmp_total, key_cmp-IsAntisymmetric, key_eq-by_cmp}
use Rattle.xa_tables.proofs.places.Places.put.Goals as goal

pub returns-clause-places : goal.returns-clause-places
returns-clause-places c =
    let room : 0 < spare c.self.inside.places = omega (arith, ap (λ b. b.spare) c.self.view_is) in
    let updates =
    at_ok c.insert-inserted.result _ (c.insert-inserted.ensures.succeeds room) c.insert-inserted.ensures.updates in
    one_put key_eq key_cmp_total key_cmp-IsAntisymmetric key_eq-by_cmp c.self.inside.places.entries
    c.insert-inserted.new.self.entries c.args.key c.args.place updates.0
    ∙ ap (λ b. map.insert b.places c.args.key c.args.place) c.self.view_is
