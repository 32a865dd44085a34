-- Workers that go on stand in the same relation to what they were, however often they go on.
use Rattle.std.specs.Prelude.{List, [], refl}
use Rattle.std.proofs.Common.{sym, ◌∙◌, subst, append-nil}
use Rattle.xa_base.proofs.Lists.{some_same, through}
use Rattle.xa_worker.specs.Workers.{WorkerView}
use Rattle.xa_worker.proofs.Ties.{same-chain, extends-chain}
use Rattle.xa_crew.specs.Turns.{WorkerGoesOn, AllGoOn}

-- a worker that is as it was has gone on by nothing
pub goes_nowhere : (w : WorkerView) → WorkerGoesOn w w
goes_nowhere w = record {
  same = record { number = refl; first = refl; threads = refl; receiver = (refl, refl, refl, refl); lanes = refl };
  seat = refl;
  journal = ([], sym (append-nil w.journal));
}

-- a worker that goes on twice has gone on
pub goes_both : (u v w : WorkerView) → WorkerGoesOn u v → WorkerGoesOn v w → WorkerGoesOn u w
goes_both u v w first later = record {
  same = same-chain u v w first.same later.same;
  seat = later.seat ∙ first.seat;
  journal = extends-chain u.journal v.journal w.journal first.journal later.journal;
}

-- workers that are as they were
pub all_stay : (ws : List WorkerView) → AllGoOn ws ws
all_stay ws = record {
  each = record {
    as_many = refl;
    each = λ k w w' at at'.
        subst (λ (v : WorkerView). WorkerGoesOn w v) (some_same w w' (sym at ∙ at')) (goes_nowhere w);
  };
  seats = refl;
}

-- workers that go on twice
pub all_go_on : (us vs ws : List WorkerView) → AllGoOn us vs → AllGoOn vs ws → AllGoOn us ws
all_go_on us vs ws first later = record {
  each = through WorkerGoesOn WorkerGoesOn WorkerGoesOn goes_both us vs ws first.each later.each;
  seats = later.seats ∙ first.seats;
}
