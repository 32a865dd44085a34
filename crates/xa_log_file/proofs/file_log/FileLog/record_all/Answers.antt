use Rattle.xa_base.proofs.{◌≡◌, inl, inr, ⊎_elim, ◌<◌, ◌+◌, ◌%◌, ◌^◌, length, refl, sym, ◌∙◌, ap, arith, none_of}
use Rattle.xa_base.proofs.{Decides-eqb}
use Rattle.xa_log.specs.{with_records}
use Rattle.xa_log_file.specs.{state_of_slots, records_in}
use Rattle.xa_log_file.proofs.Stands.{same_records, no_more, stands_shown, settled_shown}
use Rattle.xa_log_file.proofs.Grouped.{before_group, failures_stay, none_more_forgotten, group_runs, grouped}
use Rattle.xa_log_file.proofs.Places.{index_apart}
use Rattle.xa_log_file.proofs.Moments.{started, weaker}
use Rattle.xa_log_file.proofs.file_log.FileLog.record_all.Goals as goal

-- no record
pub returns-then-is_empty-clause-appended : goal.returns-then-is_empty-clause-appended
returns-then-is_empty-clause-appended g c =
    let none : length c.args.decisions.now ≡ 0 =
    (Decides-eqb (length c.args.decisions.now) 0).0 (sym c.is_empty.ensures ∙ c.if-is_empty.true) in (
      ap (with_records (state_of_slots c.args.self.now.table.slots.items c.args.self.now.failures))
          (sym (none_of c.args.decisions.now none)),
      c.requires.known,
      record {
        any_moment = started (λ f left.
            before_group c.args.self.now.table.slots.items c.args.decisions.now f
            (c.args.self.now.known c.requires.known f (g.met.D.Device.only_now c.args.self.now.device f left)));
        nothing = λ none. refl;
        forgotten = λ t. inr refl;
        ready = λ taken some. absurd (omega (arith, some, none));
        goes_on = inl refl;
        cause = λ refused. absurd (cc (refused));
      },
    )

-- what is refused before the records are written
pub returns-then-not-makes_room_for-clause-refused : goal.returns-then-not-makes_room_for-clause-refused
returns-then-not-makes_room_for-clause-refused g c = λ it.
    let same = same_records c.makes_room_for.ensures.slots in (
      λ i. record { records = same i; failures = (c.makes_room_for.ensures.failures i + 1) % 2 ^ 64 },
      c.makes_room_for.ensures.known,
      record {
        any_moment = weaker (before_group c.args.self.now.table.slots.items c.args.decisions.now)
            c.makes_room_for.ensures.any_moment;
        nothing = λ none. absurd
            (let test = (Decides-eqb (length c.args.decisions.now) 0).1 none in cc
            (test, c.is_empty.ensures, c.if-is_empty.false));
        forgotten = no_more c.makes_room_for.ensures.slots;
        ready = λ taken. absurd (cc (taken));
        goes_on = ⊎_elim (λ same. inl same) (λ failed. inr (refl, failed.1)) c.makes_room_for.ensures.goes_on;
        cause = λ refused. c.makes_room_for.ensures.cause c.if-not-makes_room_for.true;
      },
    )

pub write_records-requires-clause-new : goal.write_records-requires-clause-new
write_records-requires-clause-new g c =
    let together = grouped c.args.decisions.now c.makes_room_for.new.self.table.slots.items
    (state_of_slots c.args.self.now.table.slots.items c.args.self.now.failures)
    (c.makes_room_for.ensures.room c.if-not-makes_room_for.false) (index_apart c.makes_room_for.new.self.table.indexed)
    (same_records c.makes_room_for.ensures.slots) c.requires.new
    (c.makes_room_for.ensures.unnamed c.if-not-makes_room_for.false) in
    rw c.deref.ensures.value together.apart

pub invariant_of-self-in-Ok : goal.invariant_of-self-in-Ok
invariant_of-self-in-Ok g c =
    let settled = rw (c.deref.ensures.value, ← c.take_all.ensures) at c.in-Ok.ensures.logged in
    record { ready = λ is. settled; known = λ known. settled_shown c.take_all.new.self.slots.items settled }

pub invariant_of-self-in-Err-Refused : goal.invariant_of-self-in-Err-Refused
invariant_of-self-in-Err-Refused g c =
    search (arith, stands_shown, c.makes_room_for.new.self.table.slots.items, c.in-Err-Refused.ensures.refused)

pub returns-in-Ok-clause-appended : goal.returns-in-Ok-clause-appended
returns-in-Ok-clause-appended g c =
    let together = grouped c.args.decisions.now c.makes_room_for.new.self.table.slots.items
    (state_of_slots c.args.self.now.table.slots.items c.args.self.now.failures)
    (c.makes_room_for.ensures.room c.if-not-makes_room_for.false) (index_apart c.makes_room_for.new.self.table.indexed)
    (same_records c.makes_room_for.ensures.slots) c.requires.new
    (c.makes_room_for.ensures.unnamed c.if-not-makes_room_for.false) in
    let records = ap records_in c.take_all.ensures ∙ together.records in
    let stay =
    failures_stay (state_of_slots c.args.self.now.table.slots.items c.args.self.now.failures) c.args.decisions.now in
    let failures = c.makes_room_for.ensures.failures ∙ sym stay in (
      λ i. record { records = records i; failures = failures i },
      λ lost. absurd (cc (lost, c.makes_room_for.ensures.ready c.if-not-makes_room_for.false)),
      record {
        any_moment = search
            (arith, group_runs, index_apart, c.makes_room_for.ensures.slots, c.makes_room_for.ensures.any_moment);
        nothing = λ none. absurd
            (let test = (Decides-eqb (length c.args.decisions.now) 0).1 none in cc
            (test, c.is_empty.ensures, c.if-is_empty.false));
        forgotten = search (arith, none_more_forgotten, c.makes_room_for.ensures.slots);
        ready = λ taken some. c.makes_room_for.ensures.ready c.if-not-makes_room_for.false;
        goes_on = ⊎_elim (λ same. inl same) (λ failed. absurd (cc (failed.0, c.if-not-makes_room_for.false)))
            c.makes_room_for.ensures.goes_on;
        cause = λ refused. absurd (cc (refused));
      },
    )

pub returns-in-Err-Refused-clause-refused : goal.returns-in-Err-Refused-clause-refused
returns-in-Err-Refused-clause-refused g c = λ it.
    let same = same_records c.makes_room_for.ensures.slots in
    let failed : g.D.Device.faults c.args.self.now.device < g.D.Device.faults c.write_records.new.device =
    omega (arith, c.makes_room_for.ensures.faults, c.in-Err-Refused.ensures.cause refl) in (
      λ i. record { records = same i; failures = (c.makes_room_for.ensures.failures i + 1) % 2 ^ 64 },
      λ lost. absurd (cc (lost)),
      record {
        any_moment = search
            (arith, group_runs, index_apart, c.makes_room_for.ensures.slots, c.makes_room_for.ensures.any_moment);
        nothing = λ none. absurd
            (let test = (Decides-eqb (length c.args.decisions.now) 0).1 none in cc
            (test, c.is_empty.ensures, c.if-is_empty.false));
        forgotten = no_more c.makes_room_for.ensures.slots;
        ready = λ taken. absurd (cc (taken));
        goes_on = inr (refl, failed);
        cause = λ refused. inr (inr (inl failed));
      },
    )

pub returns-in-Err-Unknown-clause-unknown : goal.returns-in-Err-Unknown-clause-unknown
returns-in-Err-Unknown-clause-unknown g c = λ it. (
  λ known. known refl,
  record {
    any_moment = search
        (arith, group_runs, index_apart, c.makes_room_for.ensures.slots, c.makes_room_for.ensures.any_moment);
    cause = omega (arith, c.makes_room_for.ensures.faults, c.in-Err-Unknown.ensures.cause refl);
  },
)
