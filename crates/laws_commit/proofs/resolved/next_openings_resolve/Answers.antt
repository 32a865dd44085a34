use Rattle.xa_base.proofs.{◌≡◌, []}
use Rattle.xa_log.specs.{record_in, record_of}
use Rattle.laws_commit.specs.{IsUseIn, resolves}
use Rattle.laws_commit.proofs.NextOpening.{next_resolved, one_of}
use Rattle.laws_commit.proofs.resolved.next_openings_resolve.Goals as goal

pub returns : goal.returns
returns c = λ s next again k q settled made few own last_settled resolved continues of scanned log later reached.
    next_resolved s next again k [] q [] settled made few own last_settled
    (one_of (λ r. IsUseIn next (resolves r)) q resolved) continues of scanned
    (λ left t tran. one_of (λ r. record_in r.records t ≡ record_of k.later t) q (log left t tran)) later reached
