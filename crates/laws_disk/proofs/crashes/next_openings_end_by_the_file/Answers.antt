use Rattle.xa_base.proofs.{◌≡◌, [], ap, ◌∙◌}
use Rattle.xa_log.specs.{Records, record_in}
use Rattle.laws_commit.specs.{commits, resolves, with_use}
use Rattle.laws_disk.proofs.Found.{unforgotten}
use Rattle.laws_disk.proofs.crashes.next_openings_end_by_the_file.Goals as goal

pub returns : goal.returns
returns c s next again k q records forgotten file settled used few asked next_settled resolving continues of scan was
    read has only reached =
    let same : q.records ≡ was.found = c.files_have_one_log.ensures q.records was.found file read was.has in
    let after =
    c.next_openings_resolve.ensures s next again k q settled used few asked next_settled resolving continues of scan
    (λ some t of_tran.
    ap (λ (r : Records). record_in r t) same ∙ unforgotten records forgotten file t was (has some t of_tran).1
    ∙ (has some t of_tran).0) only reached in (
      c.presumed_transactions_have_one_outcome.ensures (with_use s (commits k)) [] (with_use next (resolves q)) k q
          after,
      c.presumed_transactions_count_by_the_log.ensures (with_use s (commits k)) [] (with_use next (resolves q)) k q
          after,
    )
