pub mod ThreadEnds
pub mod Lines
pub mod Text
pub mod Transcript
pub mod Values
-- The words of this crate, by its name.
pub use ThreadEnds.{all_ended, end_line}
pub use Lines.{LinesView}
pub use Text.{answer_text, commit_text, decided_text, decision_text, done_text, ending_text, endings_text, handle_text}
pub use Text.{known_text}
pub use Text.{line_text, lines_text, listed_text, outcome_text, outcomes_text, record_text, resolution_text, told_text}
pub use Text.{turn_text, vote_text, votes_text, xid_text}
pub use Transcript.{text, value_text, values_text}
pub use Values.{AreOfScript, AreValues, IsWorth, histories_at, name_of, opened, opened_after, shown_cmp}
pub use declared.answer.Answer.{Answer}
pub use declared.answer.Answer.TheVariants.{Called, Recovered}
pub use declared.answer.TranscriptLine.{TranscriptLine}
pub use declared.answer.TranscriptLine.TheVariants.{Reopened}
