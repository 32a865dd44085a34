use Rattle.laws_kill.specs.{as_settled}
use Rattle.laws_kill.proofs.Next.{as_reopening}
use Rattle.laws_kill.proofs.commits.killed_openings_end_by_the_file.Goals as goal

pub returns : goal.returns
returns c =
    λ p crash next again flags k q records forgotten file is cut grown few asked next_settled resolving many of scan was
    read has only reached.
    c.next_openings_end_by_the_file.ensures (as_settled crash) next again k q records forgotten file
    (c.crashes_are_settled.ensures p crash is).settled
    (c.commits_are_cut_where_they_were.ensures p crash k is cut grown)
    few asked next_settled resolving (c.openings_over_stores_continue.ensures.settled p crash next again flags is of)
    (as_reopening p crash is next again flags many of) scan was read has only reached
