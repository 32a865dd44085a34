use Rattle.xa_base.proofs.{arith, ◌≡◌, length}
use Rattle.xa_switch.proofs.opening.layout.lay_out.Goals as goal

pub returns-clause-laid_out : goal.returns-clause-laid_out
returns-clause-laid_out g c =
    let many : c.len-many.result ≡ length c.args.use_async.items =
    omega (arith, c.len-many.ensures, c.args.use_async.ok.0) in
    record {
      limits = c.requires.limits;
      threads = c.in_ok-desk_parts.ensures.many;
      managers = rw many at c.in_ok-worker_parts.ensures.many;
      desk_parts_ = rw c.deref.ensures.value at c.in_ok-desk_parts.ensures.parts;
      worker_parts_ = rw c.manager_room.ensures.room at c.in_ok-worker_parts.ensures.parts;
      requests = rw many at c.in_ok-requests.ensures;
      completions = rw many at c.in_ok-completions.ensures;
      desks = (
        c.in_ok-desks.ensures.items,
        omega
            (arith, c.in_ok-desks.ensures.capacity, c.len.ensures, c.in_ok-desk_parts.desk_parts.ok.0),
      );
      workers = (
        c.in_ok-workers.ensures.items,
        omega
            (arith, c.in_ok-workers.ensures.capacity, c.len-2.ensures, c.in_ok-worker_parts.worker_parts.ok.0),
      );
    }
