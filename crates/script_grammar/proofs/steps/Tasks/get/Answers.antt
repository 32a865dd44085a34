use Rattle.xa_base.proofs.{◌≡◌, ◌<◌, ℕ, List, Some, length, get_or, sym, ap, ◌∙◌, arith, slice_get, arc_value, all_at}
use Rattle.xa_base.proofs.{All}
use Rattle.script_grammar.specs.{ScriptStep, ScriptTask, IsTask, steps_at, tasks_in}
use Rattle.script_grammar.proofs.StepLemmas.{place_within, step_at_place, made_there}
use Rattle.script_grammar.proofs.steps.Tasks.get.Goals as goal

-- the step that is lent is the one at that place among the own steps
got_own : (steps lent : List ScriptStep) (places : List ℕ) (i k : ℕ) (x : ScriptStep) (tasks : List ScriptTask)
    → All IsTask (steps_at steps places)
    → All (λ n. n < length steps) places → tasks_in (steps_at steps places) ≡ tasks → i < length tasks
    → k ≡ get_or places i k → lent ≡ steps
    → slice_get lent k ≡ Some x → slice_get (steps_at steps places) i ≡ Some x
got_own steps lent places i k x tasks are within seen less there same at =
    step_at_place steps places i k x within (place_within steps places i tasks are within seen less) there
    (ap (λ l. slice_get l k) (sym same) ∙ at)

pub index-requires : goal.index-requires
index-requires c =
    omega (
      arith,
      place_within (arc_value c.self.inside.steps) c.self.inside.places.items c.args.place _
          c.self.invariant.0 c.self.invariant.1 c.self.view_is c.requires,
      c.self.inside.places.ok.0,
    )

pub get-requires : goal.get-requires
get-requires c =
    rw c.deref.ensures
    (rw c.index.ensures
    (c.self.invariant.1 c.args.place c.index.result.now
    (place_within (arc_value c.self.inside.steps) c.self.inside.places.items c.args.place _
    c.self.invariant.0 c.self.invariant.1 c.self.view_is c.requires)))

pub unreachable-requires : goal.unreachable-requires
unreachable-requires c =
    let there =
    got_own _ _ c.self.inside.places.items c.args.place _ c.get.result _ c.self.invariant.0 c.self.invariant.1
    c.self.view_is c.requires c.index.ensures c.deref.ensures c.get.ensures in
    let task =
    all_at IsTask (steps_at (arc_value c.self.inside.steps) c.self.inside.places.items) c.args.place c.get.result
    c.self.invariant.0 there in
    search (arith, c.in-Turn.is)

pub returns : goal.returns
returns c =
    let there =
    got_own _ _ c.self.inside.places.items c.args.place _ c.get.result _ c.self.invariant.0 c.self.invariant.1
    c.self.view_is c.requires c.index.ensures c.deref.ensures c.get.ensures in
    search (arith, slice_get, made_there, c.args.place, c.get.result, c.self.invariant.0)
