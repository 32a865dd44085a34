use Rattle.std.proofs.Common.{◌≡◌, List, length, map, sym, ap, ◌∙◌, arith}
use Rattle.std.proofs.lemmas.List.{length-map}
use Rattle.xa_worker.specs.{WorkerSeat, WorkerView}
use Rattle.xa_switch.specs.{seat_of_worker}
use Rattle.test_growths.proofs.settling.call_all.Goals as goal

-- as many workers as seats
as_many : (old new : List WorkerView) → map seat_of_worker new ≡ map seat_of_worker old → length new ≡ length old
as_many old new e =
    sym (length-map new seat_of_worker) ∙ ap (λ (l : List WorkerSeat). length l) e ∙ length-map old seat_of_worker

pub run-requires-clause-room : goal.run-requires-clause-room
run-requires-clause-room g c =
    let room = c.in_ok-done.ensures.room in
    let played = as_many _ _ c.play-played.ensures.idled in
    let ended = as_many _ _ c.end.ensures.idled.seats in
    omega (arith, room, played, ended)
