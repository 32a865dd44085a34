use Rattle.xa_scan.specs.{scan_of}
use Rattle.xa_scan.proofs.Standing.{still_within}
use Rattle.xa_scan.proofs.Scan.stand.Goals as goal

pub invariant_of-self : goal.invariant_of-self
invariant_of-self c =
    let m = c.args.manager in
    let z = scan_of c.self.inside.left c.self.inside.places in
    still_within z m c.args.place c.requires.manager.0 (rw c.self.view_is c.requires.within) c.self.invariant
