use Rattle.xa_store_sqlite.specs.{image_of, slots_of}
use Rattle.xa_store_sqlite.proofs.kept.Kept.commit_new.Goals as goal

pub returns-clause-settled : goal.returns-clause-settled
returns-clause-settled g c = λ knows.
    let done = c.in_ok-commit.ensures.committed 4 (slots_of (image_of c.args.self.now.mirror)) knows in
    record { seen = done.0; kept = done.1 }
