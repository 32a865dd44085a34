use Rattle.laws_shown.proofs.Became.{left_alone}
use Rattle.laws_shown.proofs.Outcomes.{decided_as_shown, decided_counts, decided_so}
use Rattle.laws_transcript.specs.{part_at}
use Rattle.laws_shown.proofs.Adds.{place_adds, places}
use Rattle.laws_shown.proofs.branches_are_as_shown.Goals as goal

pub returns : goal.returns
returns c =
    let law = c.tables_keep_to_their_laws.ensures in
    let opens = c.settled_journals_follow_the_tables.ensures.some in
    record {
      decisions = λ s b o tells commit done before l after old new place shows alone.
          decided_as_shown l.task.thread commit done old new
          (decided_so o.settled l commit done old new shows place.takes) law opens o.settled tells.agree
          (place_adds place) alone;
      journals = λ s b o tells commit done before l after old new place shows alone.
          decided_counts l.task.thread commit done old new
          (decided_so o.settled l commit done old new shows place.takes) law opens o.settled tells.agree
          (place_adds place) alone;
      lines = λ s b o tells commit done before l after is shows named.
          let (old, new, place) =
          places o.steps o.answers o.settled l.task.thread (part_at b l.task.thread) (tells.carried l.task.thread)
          before l after is in
          let shown =
          decided_counts l.task.thread commit done old new
          (decided_so o.settled l commit done old new shows place.takes) law opens o.settled tells.agree
          (place_adds place) (left_alone s b o tells commit before l after old new place named) in
          (old, new, place, shown.0, shown.1);
    }
