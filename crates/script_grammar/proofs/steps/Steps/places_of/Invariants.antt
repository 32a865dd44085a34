use Rattle.script_grammar.specs.{steps_of}
use Rattle.script_grammar.proofs.StepLemmas.{OwnUpTo}
use Rattle.script_grammar.proofs.steps.Steps.places_of.Given as goal

abbrev pub invariant-loop-place : goal.invariant-loop-place
invariant-loop-place l =
    OwnUpTo l.fn.thread (steps_of l.self-inside.names.items l.self-inside.keys.items l.self-inside.kept.items) l.place
    l.places.items
