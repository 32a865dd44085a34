use Rattle.xa_base.proofs.{arith, ◌≡◌, ℕ, List, sym, ap, ◌∙◌, arc_value}
use Rattle.script_grammar.specs.{ScriptStep, own_steps, steps_at}
use Rattle.script_grammar.proofs.StepLemmas.{own_are_tasks, own_tasks}
use Rattle.script_grammar.proofs.script.Script.tasks_of.Goals as goal

-- the same steps behind each pointer
own_behind : (t : ℕ) (shared lent steps : List ScriptStep) (places : List ℕ) → shared ≡ steps → lent ≡ steps
    → steps_at lent places ≡ own_steps t lent
    → steps_at shared places ≡ own_steps t steps
own_behind t shared lent steps places one other own =
    ap (λ (l : List ScriptStep). steps_at l places) (one ∙ sym other) ∙ own ∙ ap (own_steps t) other

pub new-requires-clause-tasks : goal.new-requires-clause-tasks
new-requires-clause-tasks c =
    rw (own_behind c.args.thread _ _ _ c.in_ok-places.places.items c.in_ok-try_clone.ensures c.deref.ensures
    c.in_ok-places.ensures.own) (own_are_tasks c.args.thread (arc_value c.self.inside.steps))

pub returns : goal.returns
returns c =
    search (
      arith,
      own_behind,
      own_tasks,
      arc_value,
      c.args.thread,
      c.in_ok-places.places.items,
      c.in_ok-try_clone.ensures,
      c.deref.ensures,
    )
