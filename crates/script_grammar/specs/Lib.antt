pub mod Text
pub mod Faults
pub mod Fields
pub mod Steps
pub mod Spelling
pub mod Contents
pub mod Settings
pub mod Found
pub mod Commits
pub mod Actions
pub mod Items
pub mod Grammar
pub mod Taking
pub mod Reading
pub mod KeptSteps
pub mod OwnTasks
-- The words of this crate, by its name.
pub use Text.{HasNoEnd, IsPlain, IsWord, carriage_return, dot, has_bytes, hash, is_script_byte, is_space, line_feed}
pub use Text.{lines_of, minus, space, starts_blank, tab, without_return, words_of}
pub use Faults.{reason_text}
pub use Fields.{TakesWords, Word, all_digits, decimal_value, delta_in, end_of, field, flag_of, flag_words, is_name}
pub use Fields.{is_name_byte, number_within, number_of_word, signed_number_of, tran_named, xid_of_word}
unfoldable pub use Fields.{delta_at, flags_onto, number_at, tran_at, xid_at}
pub use Steps.{ActionHas, CallHas, Computes, ScriptAction, ScriptCalled, ScriptCall, ScriptStep, ScriptTask, StepHas}
pub use Steps.{action_with, call_with, step_with}
pub use Spelling.{IsShort, IsShortGtrid, IsShortName, Spells, SpellsName}
pub use Contents.{NoneReopens, AsksForFew, Content, Fits, HasFewXids, IsOfLog, IsOfManager, IsOfScript, IsOfUnknown}
pub use Contents.{IsScript, declared_accounts, declares_async, failing_append, handles_of, is_reopen, managers_of}
pub use Contents.{nothing, queue_of, requests_of, task_of, tasks_of, threads_of, unknown_append, with_count}
pub use Contents.{with_failing, with_declared, with_setting, with_step, with_sync, with_unknown}
pub use Settings.{before_actions, count_of, fates, has_key, is_kept, key_count, limit_of, new_key, not_set}
unfoldable pub use Settings.{declared_of, logfail_of, logunknown_of, setting_of, sync_of}
pub use Found.{Finds, is_same}
pub use Commits.{are_rising, is_named, once_prepared, once_told, point_of, rising_branches}
unfoldable pub use Commits.{answers_of, branches_at, commit_of, death_at, managers_at, managers_to_end}
pub use Actions.{action_of, verb_of, verbs}
unfoldable pub use Actions.{call_of, call_at, reopen_of, task_on, turn_of}
pub use Items.{Item}
pub use Grammar.{Fails, FailsAt, Verdict, Reads, are_comment, head_of, heads, is_comment, item_of, script_of, then_on}
pub use Grammar.{with_line}
unfoldable pub use Grammar.{after_line, item_by, line_of, script_from}
pub use Taking.{Gives, as_task, task_item, with_item_in}
pub use Reading.{FailsOn, HasTakenBytes, IsFreshReading, StaysOne}
pub use KeptSteps.{IsGtrid, IsKey, IsName, IsNamed, KeptStep, bytes_at, gtrid_at, gtrid_place_from, kept_from}
pub use KeptSteps.{key_place_from, keys_called, keys_given, keys_in, name_at, place_from, step_at, steps_of, task_step}
pub use OwnTasks.{IsTask, is_own, own_steps, steps_at, task_in, tasks_in}
pub use declared.fault.Reason.{Reason}
pub use declared.fault.Reason.TheVariants.{BadBranches, BadByte, BadNumber, KeyTwice, LineTooLong, OutOfRange}
pub use declared.fault.Reason.TheVariants.{TooManyKeys, TooManyLines, UnknownWord}
pub use declared.fault.ScriptFault.{ScriptFault}
pub use declared.read.Head.{Head}
pub use declared.named.Named.{Named}
pub use declared.script.Count.TheVariants.{Managers, Threads}
pub use declared.script.Declared.{Declared}
pub use declared.script.UnknownAppend.{UnknownAppend}
pub use declared.step.ManagerCall.{ManagerCall}
pub use declared.step.Step.{Step}
pub use declared.step.Action.{Action}
pub use declared.step.CommitAll.{CommitAll}
pub use declared.steps.KeyPlace.{KeyPlace}
pub use declared.steps.NamePlace.{NamePlace}
pub use declared.steps.GtridPlace.{GtridPlace}
