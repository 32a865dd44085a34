use Rattle.xa_base.proofs.{◌-◌}
use Rattle.xa_scan.specs.{scan_of}
use Rattle.xa_scan.proofs.Standing.{stands_within}
use Rattle.xa_scan.proofs.Scan.place.Goals as goal

pub returns-clause-within : goal.returns-clause-within
returns-clause-within c =
    let m = c.args.manager in
    let places = c.self.inside.places in
    rw c.self.view_is at (stands_within (scan_of c.self.inside.left places) c.self.invariant m c.requires.0)
