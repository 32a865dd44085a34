use Rattle.xa_base.proofs.{length, length-map, sym, ap, ◌∙◌}
use Rattle.xa_crew.proofs.opened.CrewMemory.hold.Goals as goal

pub client_jobs_of-requires-clause-kept : goal.client_jobs_of-requires-clause-kept
client_jobs_of-requires-clause-kept g c =
    let (p, _, opened) = c.requires.opened in
    c.opened_desks_keep_what_is_outstanding.ensures p c.args.desks.items c.args.workers.items opened

pub returns-clause-opened : goal.returns-clause-opened
returns-clause-opened g c = λ p limits opened. record {
  limits = limits;
  opened = rw c.client_jobs_of.ensures.desks opened;
  ready = c.client_jobs_of.ensures.ready;
  room = rw (sym (length-map c.client_jobs_of.result.items _) ∙ ap length c.client_jobs_of.ensures.clients)
      c.requires.memory.room;
}
