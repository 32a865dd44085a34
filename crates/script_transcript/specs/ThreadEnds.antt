-- What is told of the end of a thread.
use Rattle.std.specs.Prelude.{ℕ, List, map}
use Rattle.xa_words.specs.CodeNumbers.{number_of}
use Rattle.xa_words.specs.declared.code.Code.{Code}
use Rattle.script_transcript.specs.declared.answer.TranscriptLine.{TranscriptLine}
use Rattle.script_transcript.specs.declared.answer.TranscriptLine.TheVariants.{Ended}

-- The line of an operation that was outstanding after the last line of thread t, by its handle and its code.
abbrev pub end_line : ℕ → ℕ × Code → TranscriptLine
end_line t left = Ended t left.0 (number_of left.1)

-- A line for each.
abbrev pub all_ended : ℕ → List (ℕ × Code) → List TranscriptLine
all_ended t outstanding = map (end_line t) outstanding
