use Rattle.laws_shown.proofs.Became.{left_alone}
use Rattle.laws_shown.proofs.Adds.{place_adds, places}
use Rattle.laws_shown.proofs.Outcomes.{shown_so}
use Rattle.xa_driver.specs.declared.done.CommitOutcome.TheVariants as outcome
use Rattle.laws_shown.proofs.Stopped.{as_far_as_shown, as_far_unless, undecided_ends, undecided_unless}
use Rattle.laws_transcript.specs.{part_at}
use Rattle.laws_shown.proofs.branches_end_by_the_record.Goals as goal

-- what holds of each place of a line, at the one where it stands
at_its_place : {A : Type 0} {P Q : A → A → Type 0} → (old : A) × (new : A) × P old new
    → ((old new : A) → P old new → Q old new) → (old : A) × (new : A) × (P old new) × (Q old new)
at_its_place (old, new, place) law = (old, new, place, law old new place)

pub returns : goal.returns
returns c =
    let law = c.tables_keep_to_their_laws.ensures in
    let opens = c.settled_journals_follow_the_tables.ensures.some in
    record {
      decisions = λ s b o tells commit at known before l after old new place shows alone.
          as_far_unless law opens o.settled tells.agree l.task.thread old new (place_adds place) commit at known
          (shown_so o.settled l commit (outcome.Died at known) old new shows place.takes) alone;
      undecided_decisions = λ s b o tells commit votes before l after old new place shows alone.
          undecided_unless law opens o.settled tells.agree l.task.thread old new (place_adds place) commit votes
          (shown_so o.settled l commit (outcome.Undecided votes) old new shows place.takes) alone;
      journals = λ s b o tells commit at known before l after old new place shows alone.
          as_far_as_shown law opens o.settled tells.agree l.task.thread old new (place_adds place) commit at known
          (shown_so o.settled l commit (outcome.Died at known) old new shows place.takes) alone;
      lines = λ s b o tells commit at known before l after is shows named.
          at_its_place
          (places o.steps o.answers o.settled l.task.thread (part_at b l.task.thread) (tells.carried l.task.thread)
          before l after is)
          (λ old new place. as_far_as_shown law opens o.settled tells.agree l.task.thread old new (place_adds place)
          commit at known (shown_so o.settled l commit (outcome.Died at known) old new shows place.takes)
          (left_alone s b o tells commit before l after old new place named));
      undecided_journals = λ s b o tells commit votes before l after old new place shows alone.
          undecided_ends law opens o.settled tells.agree l.task.thread old new (place_adds place) commit votes
          (shown_so o.settled l commit (outcome.Undecided votes) old new shows place.takes) alone;
      undecided_lines = λ s b o tells commit votes before l after is shows named.
          at_its_place
          (places o.steps o.answers o.settled l.task.thread (part_at b l.task.thread) (tells.carried l.task.thread)
          before l after is)
          (λ old new place. undecided_ends law opens o.settled tells.agree l.task.thread old new (place_adds place)
          commit votes (shown_so o.settled l commit (outcome.Undecided votes) old new shows place.takes)
          (left_alone s b o tells commit before l after old new place named));
    }
