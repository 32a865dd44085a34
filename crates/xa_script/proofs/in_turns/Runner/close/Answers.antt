use Rattle.xa_base.proofs.{◌∙◌, all_unmapped}
use Rattle.xa_desk.specs.{AllKept}
use Rattle.script_session.specs.{Session}
use Rattle.xa_script.specs.{turns_at}
use Rattle.xa_script.proofs.Runs.{closed_so, kept, pieces_of}
use Rattle.xa_script.proofs.in_turns.Runner.close.Goals as goal

pub end_desks-requires : goal.end_desks-requires
end_desks-requires g c =
    let (s, b, steps, told, goes) = c.requires in
    let o = goes.is_open in
    kept s b steps goes.first goes.first_workers o.opened o.begins goes.fits
    (turns_at c.args.self.sessions.items c.args.self.turns told) goes.made
    (all_unmapped (λ (x : Session). x.desk) AllKept goes.first
    (c.opened_desks_keep_what_is_outstanding.ensures o.opened.setup _ goes.first_workers o.opened.opened))

pub settle_all-requires : goal.settle_all-requires
settle_all-requires g c =
    let (s, b, steps, told, goes) = c.requires in
    let (later, same, runs, r) =
    closed_so s b steps told c.args.self.sessions.items c.args.self.turns goes c.args.transcript.now
    c.in_ok-ended.ended.items c.end_desks.new.turns c.end_desks.new.transcript c.run-done.result.items
    c.in_ok-ended.ensures.ended c.run-done.ensures.served in
    (r.opened.setup, pieces_of c.desks_go_on.ensures.same c.desks_go_on.ensures.further s b steps _ _ _ _ _ _ r)

pub returns-clause-closed : goal.returns-clause-closed
returns-clause-closed g c = λ s b steps told goes.
    let (later, same, runs, r) =
    closed_so s b steps told c.args.self.sessions.items c.args.self.turns goes c.args.transcript.now
    c.in_ok-ended.ended.items c.end_desks.new.turns c.end_desks.new.transcript c.run-done.result.items
    c.in_ok-ended.ensures.ended c.run-done.ensures.served in
    let settled = c.in_ok-settled.ensures in
    let of =
    settled.of r.opened.setup
    (pieces_of c.desks_go_on.ensures.same c.desks_go_on.ensures.further s b steps _ _ _ _ _ _ r) in (
      later,
      same,
      record {
        left = c.args.self.sessions.items;
        comes = record {
          sessions = goes.first;
          workers = goes.first_workers;
          ended = c.in_ok-ended.ended.items;
          done = c.run-done.result.items;
          runs = runs;
          ran = r;
          settles = settled.pieces;
          number = of.opening ∙ r.opened.said.numbers.opening_;
          agree = settled.settled;
        };
        logs_are = c.in_ok-ended.ensures.logs;
      },
    )
