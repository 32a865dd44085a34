use Rattle.xa_store_sqlite.specs.{image_of, slots_of}
use Rattle.xa_store_sqlite.proofs.kept.Kept.commit.Goals as goal

pub returns-in_err-commit-clause-crash : goal.returns-in_err-commit-clause-crash
returns-in_err-commit-clause-crash g c =
    λ knows clean db may. c.commit.ensures.crash 4 (slots_of (image_of c.args.self.now.mirror)) knows clean db may
