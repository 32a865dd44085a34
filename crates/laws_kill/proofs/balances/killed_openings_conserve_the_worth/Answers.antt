use Rattle.xa_base.proofs.{[], ◌∷◌, map, get_or, ◌∙◌, total_alike, +ℤ_idr}
use Rattle.xa_tables.specs.{opening, worth, worth_declared}
use Rattle.laws_tables.proofs.WorthLaw.{worth_law}
use Rattle.laws_balances.proofs.InARow.{opens_with}
use Rattle.laws_kill.specs.{as_opening}
use Rattle.laws_kill.proofs.balances.killed_openings_conserve_the_worth.Goals as goal

pub returns : goal.returns
returns c = λ ms accounts o later legs transfers share follow declared parted even.
    c.transfers_conserve_the_worth_of_days.ensures ms accounts (λ m. opening (accounts m)) (as_opening o)
    (map as_opening later) legs transfers share
    (λ j d lt.
    let m = get_or ms j d in
    let is = declared j d lt in
    c.killed_openings_are_worth_what_was_recorded.ensures (accounts m) m o later (opening (accounts m)) (legs m) follow
    is.first (opens_with (accounts m)) is.legs_)
    parted even
    ∙ total_alike (λ m. worth (accounts m) (opening (accounts m))) (λ m. worth_declared (accounts m)) ms
    (λ j d lt.
    let m = get_or ms j d in
    worth_law (accounts m) [] (declared j d lt).sound ∙ +ℤ_idr _)
