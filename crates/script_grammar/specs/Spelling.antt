-- How lines spell names.
use Rattle.std.specs.Prelude.{◌≡◌, ℕ, ◌+◌, pos, List, length, take, drop}
use Rattle.xa_base.specs.Lists.{IsUpTo}
use Rattle.xa_words.specs.Xid.{XidName}
use Rattle.xa_words.specs.Tran.{TranName}
use Rattle.script_grammar.specs.Steps.{ScriptStep, StepHas}

-- These are the bytes of a branch's name: its gtrid, one more, which is a dot, and its bqual.
abbrev pub SpellsName : List ℕ → XidName → Type 0
SpellsName word x = (take (length x.gtrid) word ≡ x.gtrid) × (drop (length x.gtrid + 1) word ≡ x.bqual)

-- They are those of the name in the step.
abbrev pub Spells : List ℕ → ScriptStep → Type 0
Spells word p = StepHas (SpellsName word) (λ (t : TranName). word ≡ t.gtrid) (λ k. Unit {0}) p

-- A name of a script is of format 1, with parts of 1 to 64 bytes.
abbrev pub IsShortName : XidName → Type 0
IsShortName x = (x.format ≡ pos 1) × IsUpTo 64 (length x.gtrid) × IsUpTo 64 (length x.bqual)

abbrev pub IsShortGtrid : TranName → Type 0
IsShortGtrid t = (t.format ≡ pos 1) × IsUpTo 64 (length t.gtrid)

-- So is that of the step.
abbrev pub IsShort : ScriptStep → Type 0
IsShort p = StepHas IsShortName IsShortGtrid (λ k. Unit {0}) p
