-- The texts of what can be wrong with a line.
use Rattle.std.specs.Prelude.{ℕ, List, codes}
use Rattle.script_grammar.specs.declared.fault.Reason.{Reason}
use Rattle.script_grammar.specs.declared.fault.Reason.TheVariants as reason

-- why a line is refused
abbrev pub reason_text : Reason → List ℕ
reason_text reason.LineTooLong = codes "line too long"
reason_text reason.BadByte = codes "bad byte"
reason_text reason.TooManyLines = codes "too many lines"
reason_text reason.UnknownWord = codes "unknown word"
reason_text reason.MissingWord = codes "missing word"
reason_text reason.ExtraWord = codes "extra word"
reason_text reason.BadNumber = codes "bad number"
reason_text reason.OutOfRange = codes "out of range"
reason_text reason.BadKey = codes "bad key"
reason_text reason.BadXid = codes "bad xid"
reason_text reason.SettingAfterAction = codes "setting after action"
reason_text reason.SettingTwice = codes "setting twice"
reason_text reason.KeyTwice = codes "key twice"
reason_text reason.TooManyKeys = codes "too many keys"
reason_text reason.BadBranches = codes "bad branches"
reason_text reason.TurnInThreadsMode = codes "turn in threads mode"
reason_text reason.ReopenInThreadsMode = codes "reopen in threads mode"
