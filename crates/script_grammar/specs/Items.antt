-- What a line adds to a script.
use Rattle.std.specs.Prelude.{ℕ}
use Rattle.script_grammar.specs.declared.script.Count as counts
use Rattle.script_grammar.specs.declared.script.Declared.{Declared}
use Rattle.script_grammar.specs.declared.script.UnknownAppend.{UnknownAppend}
use Rattle.script_grammar.specs.Steps.{ScriptStep}

pub data Item : Type 0 where
  Nothing : Item
  -- a count, and what it is set to
  Count : counts.Count → ℕ → Item
  -- a manager that takes no asynchronous calls
  Sync : ℕ → Item
  -- the append of a thread's log that fails
  LogFail : ℕ → ℕ → Item
  -- the append of a thread's log that has an unknown end
  LogUnknown : ℕ → UnknownAppend → Item
  -- a key of a manager
  Key : Declared → Item
  -- what is to be done
  Step : ScriptStep → Item
