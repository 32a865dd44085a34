use Rattle.std.proofs.Common.{List, [], sym, subst}
use Rattle.std.proofs.lemmas.List.{append-nil}
use Rattle.std.specs.List.Sorted.{IsPermutation}
use Rattle.std.proofs.lemmas.List.Sorted.{IsPermutation-refl}
use Rattle.xa_worker.specs.{Served}
use Rattle.xa_switch.specs.{ComeFromOpenings, desk_seats, worker_seats}
use Rattle.xa_switch.proofs.Dealing.{some_come}
use Rattle.test_growths.proofs.settling.settle_without_workers.Goals as goal

-- all desks, and no worker
pub settle_pieces-requires : goal.settle_pieces-requires
settle_pieces-requires g c =
    let A = desk_seats c.in_ok-whole.whole.desks.items in
    let V = worker_seats c.in_ok-whole.whole.workers.items in
    subst (λ (l : List Served). ComeFromOpenings A (worker_seats l)) (sym c.new.ensures.items)
    (some_come A A V [] ([], subst (IsPermutation A) (sym (append-nil A)) (IsPermutation-refl A))
    (V, IsPermutation-refl V) c.in_ok-whole.ensures.come)
