use Rattle.xa_base.proofs.{ap, refl, rules, ◌∙◌, Some, retained, kept_by_value}
use Rattle.std.specs.FinMap as map
use Rattle.xa_words.specs.{xid_eq, xid_cmp_total, xid_cmp-IsAntisymmetric, xid_eq-by_cmp}
use Rattle.xa_tables.specs.{is_left_in}
use Rattle.xa_tables.proofs.SoundLemmas.{xid_eq_laws}
use Rattle.xa_tables.proofs.branches.Branches.retain_left.Goals as goal

pub returns-clause-states : goal.returns-clause-states
returns-clause-states c =
    let old = c.self.inside.states.entries in
    let kept =
    retained _ (λ s. is_left_in (Some s)) (λ f k v b w g call. search rules) _ old c.retain.new.self.entries
    c.retain.ensures.filtered in
    kept_by_value xid_eq xid_cmp_total xid_cmp-IsAntisymmetric xid_eq-by_cmp (λ s. is_left_in (Some s)) is_left_in refl
    (λ v. refl) xid_eq_laws old c.retain.new.self.entries c.retain.ensures.was_unique kept
    ∙ ap (λ b. map.retain_keys b.states (λ x. is_left_in (map.get b.states x))) c.self.view_is
