use Rattle.xa_base.proofs.{◌≡◌, ◌<◌, ℕ, List, All, Some, ◌∙◌, all_at, ap, arith, get_or, length, length-map, option_map}
use Rattle.xa_base.proofs.{refl, slice_get, slice_get-map, slice_get_read, sym}
use Rattle.script_grammar.specs.{KeptStep, ScriptStep, IsNamed, step_at, steps_of}
use Rattle.script_grammar.proofs.steps.Steps.get.Goals as goal

-- the step at a place is the one that is kept there, with what stands where it says
kept_there : (names : List ℕ) (keys : List (List ℕ)) (kept : List KeptStep) (steps : List ScriptStep) (place : ℕ)
    (k : KeptStep)
    → steps_of names keys kept ≡ steps
    → place < length steps → All (IsNamed names keys) kept → k ≡ get_or kept place k
    → IsNamed names keys k × (slice_get steps place ≡ Some (step_at names keys k))
kept_there names keys kept steps place k view within named is =
    let size = ap length view in
    let many = length-map kept (step_at names keys) in
    let at = slice_get_read kept (length kept) place k refl (omega (arith, within, size, many)) is in (
      all_at (IsNamed names keys) kept place k named at,
      ap (λ l. slice_get l place) (sym view)
          ∙ slice_get-map (step_at names keys) kept place ∙ ap (option_map (step_at names keys)) at,
    )

pub index-requires : goal.index-requires
index-requires c =
    let s = c.self.inside in
    let size = ap length c.self.view_is in
    let many = length-map s.kept.items (step_at s.names.items s.keys.items) in
    omega (arith, c.requires, size, many, s.kept.ok.0)

pub step_at-requires : goal.step_at-requires
step_at-requires c =
    let s = c.self.inside in
    rw (c.deref.ensures.value, c.deref-2.ensures.value)
    (kept_there s.names.items s.keys.items s.kept.items c.args.self.now c.args.place c.index.result.now c.self.view_is
    c.requires c.self.invariant c.index.ensures).0

pub returns : goal.returns
returns c =
    let s = c.self.inside in
    let made = rw (c.deref.ensures.value, c.deref-2.ensures.value) at c.step_at.ensures in
    (kept_there s.names.items s.keys.items s.kept.items c.args.self.now c.args.place c.index.result.now c.self.view_is
    c.requires c.self.invariant c.index.ensures).1
    ∙ ap Some (sym made)
