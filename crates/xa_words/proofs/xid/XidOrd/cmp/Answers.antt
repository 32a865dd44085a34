use Rattle.xa_base.proofs.{slice_cmp, w32, nat_cmp, ◌∙◌, rules, to_z-of_z, int_cmp, ordering_then}
use Rattle.std.specs.Int.RustNames.{FitsSigned}
use Rattle.xa_words.specs.NumberBytes.{number_of}
use Rattle.xa_words.proofs.XidFields.{fields_are}
use Rattle.xa_words.proofs.xid.XidOrd.cmp.Goals as goal

pub returns : goal.returns
returns c =
    let x = c.self.inside in
    let a =
    fields_are (number_of w32 x.format) x.parts.gtrid_len x.parts.bqual_len x.parts.bytes _ c.self.invariant.0
    c.self.view_is in
    let y = c.other.inside in
    let b =
    fields_are (number_of w32 y.format) y.parts.gtrid_len y.parts.bqual_len y.parts.bytes _ c.other.invariant.0
    c.other.view_is in
    let p : FitsSigned w32 c.format.result = search rules in
    let q : FitsSigned w32 c.format-2.result = search rules in
    c.then.ensures
    ∙ (λ i. ordering_then (c.cmp.ensures i) (c.cmp-2.ensures i))
    ∙ (λ i. ordering_then
    (int_cmp ((to_z-of_z w32 _ p ∙ c.format.ensures) i) ((to_z-of_z w32 _ q ∙ c.format-2.ensures) i))
    (ordering_then (nat_cmp (a.gtrid_len i) (b.gtrid_len i))
    (ordering_then (nat_cmp (a.bqual_len i) (b.bqual_len i)) (slice_cmp nat_cmp (a.bytes i) (b.bytes i)))))
