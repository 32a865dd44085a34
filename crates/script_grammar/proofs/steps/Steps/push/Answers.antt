use Rattle.xa_base.proofs.{on_err, ◌≡◌, ◌++◌, ◌∷◌, [], List, ℕ, length, rules, sym, ap, ◌∙◌, subst, All, map-append}
use Rattle.xa_base.proofs.{All-push}
use Rattle.script_grammar.specs.{ScriptStep, Spells, IsShort, KeptStep, IsNamed, step_at, steps_of, keys_in, kept_from}
use Rattle.script_grammar.proofs.StepLemmas.{step_put, steps_grown, names_grown}
use Rattle.script_grammar.proofs.steps.Steps.push.Goals as goal

-- the step that is kept last has its name among the bytes and its key among the keys, which go on from those of before
put : (p : ScriptStep) (kept : List KeptStep) (k : KeptStep) (old new w : List ℕ) (at : ℕ) (ks ks' : List (List ℕ))
    (key : ℕ)
    → IsShort p → Spells w p → at ≡ length old → key ≡ length ks → k ≡ kept_from at key p
    → new ≡ old ++ w → ks' ≡ ks ++ keys_in p → All (IsNamed old ks) kept
    → (steps_of new ks' (kept ++ k ∷ []) ≡ steps_of old ks kept ++ p ∷ []) × All (IsNamed new ks') (kept ++ k ∷ [])
put p kept k old new w at ks ks' key short spells here place placed added keys named =
    let is : k ≡ kept_from (length old) (length ks) p = placed ∙ rw here (rw place) in
    let (same, last) =
    subst (λ (l : List ℕ). (step_at l ks' k ≡ p) × IsNamed l ks' k) (sym added)
    (rw (is, keys) (step_put old w ks p short spells)) in
    let grown = steps_grown old w ks (keys_in p) kept named in
    let (before, still) = rw (← added, ← keys) at grown in (
      map-append {B = ScriptStep} (step_at new ks') kept (k ∷ [])
          ∙ (λ i. before i ++ same i ∷ []),
      All-push (IsNamed new ks') kept k still last,
    )

pub invariant_of-self-2 : goal.invariant_of-self-2
invariant_of-self-2 c =
    let is =
    put c.args.step.now c.self.inside.kept.items c.kept_from-kept.result c.self.inside.names.items _
    c.name_in.result.now c.in_ok-at.at c.self.inside.keys.items _ c.in_ok-key.key c.name_in.ensures.short
    c.name_in.ensures.spells (search rules) (search rules) c.kept_from-kept.ensures
    c.in_ok-extend_from_slice.ensures.items c.in_ok-add_key.ensures.added c.self.invariant in
    rw c.in_ok-push.ensures.items is.1

pub returns-clause-pushed : goal.returns-clause-pushed
returns-clause-pushed c =
    let is =
    put c.args.step.now c.self.inside.kept.items c.kept_from-kept.result c.self.inside.names.items _
    c.name_in.result.now c.in_ok-at.at c.self.inside.keys.items _ c.in_ok-key.key c.name_in.ensures.short
    c.name_in.ensures.spells (search rules) (search rules) c.kept_from-kept.ensures
    c.in_ok-extend_from_slice.ensures.items c.in_ok-add_key.ensures.added c.self.invariant in
    ap (steps_of _ _) c.in_ok-push.ensures.items ∙ is.0 ∙ ap (λ l. l ++ c.args.step.now ∷ []) c.self.view_is

pub returns-in_err-add_key-clause-same : goal.returns-in_err-add_key-clause-same
returns-in_err-add_key-clause-same c =
    let kept = c.self.inside.kept.items in
    let grown =
    names_grown c.self.inside.names.items c.name_in.result.now c.self.inside.keys.items kept c.self.invariant in
    on_err _ _
    ((λ i. steps_of (c.in_ok-extend_from_slice.ensures.items i) (c.in_err-add_key.ensures.same i) kept) ∙ grown.0
    ∙ c.self.view_is)

pub returns-in_err-push-clause-same : goal.returns-in_err-push-clause-same
returns-in_err-push-clause-same c =
    let kept = c.self.inside.kept.items in
    let grown =
    steps_grown c.self.inside.names.items c.name_in.result.now c.self.inside.keys.items (keys_in c.args.step.now)
    kept c.self.invariant in
    on_err _ _
    (ap (steps_of c.extend_from_slice.new.self.items c.add_key.new.keys.items) c.in_err-push.ensures.items
    ∙ (λ i. steps_of (c.in_ok-extend_from_slice.ensures.items i) (c.in_ok-add_key.ensures.added i) kept)
    ∙ grown.0 ∙ c.self.view_is)
