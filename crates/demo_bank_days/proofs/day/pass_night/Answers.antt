use Rattle.xa_base.proofs.{subst, IfOk-weaker, arith, Err, Ok, Result, ◌≡◌, Bool, true, false, if◌then◌else◌, sym, ap}
use Rattle.xa_base.proofs.{◌∙◌, All, IfErr}
use Rattle.demo_bank_days.specs.{IsUntouched, Unresolved, BadNumbers, TellerWantsMemory, next_numbers, Excuses}
use Rattle.demo_bank_days.specs.{HasRoomToResolve}
use Rattle.xa_switch.specs.{Again}
use Rattle.xa_driver.specs.{Resolved}
use Rattle.demo_bank_days.proofs.Moved.{same_stores}
use Rattle.demo_bank_days.proofs.day.pass_night.Goals as goal

pub returns-then-wanting : goal.returns-then-wanting
returns-then-wanting g c = search (arith, c.args.day.now)

-- why a night resolved nothing is why nothing was resolved of its day
day_excuse : {Good : Type 0} (Wants Known Room : Type 0) → Good → (why : Unresolved) → Excuses ⊥ Known Room Good why
    → Excuses Wants Known Room (Unit {0}) why
day_excuse Wants Known Room good TellerWantsMemory e = absurd e
day_excuse Wants Known Room good BadNumbers e = absurd (e good)
day_excuse Wants Known Room good why e = e

-- two facts of an error
err_each : {P Q S : Unresolved → Type 0} (r : Result Resolved Unresolved) → ((e : Unresolved) → P e → Q e → S e)
    → IfErr r P → IfErr r Q → IfErr r S
err_each (Ok z) so p q = tt
err_each (Err e) so p q = so e p q

pub returns-clause-passed : goal.returns-clause-passed
returns-clause-passed g c =
    let n = c.in_ok-night.night in
    let s = c.args.settled in
    let night : Again = next_numbers c.args.day.now 1 in
    let numbers = c.next_numbers-again.ensures.numbers in
    let Known = All (λ t. g.L.DecisionRecords.knows t.log) c.args.tellers.items in
    record {
      tellers_ = c.in_ok-night.ensures.tellers;
      numbers = numbers ∙ sym (ap (λ (b : Bool). if b then c.args.day.now else night) c.if-wanting.false);
      stays = λ wants. absurd (let z : true ≡ false = sym wants ∙ c.if-wanting.false in cc);
      closed =
          IfOk-weaker n.resolved _ _
          (λ z is_night. (
            c.if-wanting.false,
            numbers,
            rw numbers at is_night,
            same_stores c.reopened_openings_go_on_from_what_was_left.ensures s n.settled c.next_numbers-again.result
                c.is_settled.ensures.whole is_night.resolves.of_setup c.is_settled-2.ensures.whole,
          )) c.in_ok-night.ensures.night;
      left =
          subst
          (λ (q : Again). IfErr n.resolved
          (λ why. Excuses (c.args.wanting ≡ true) Known (HasRoomToResolve s q) (Unit {0}) why × IsUntouched s q
          n.settled)) numbers
          (err_each n.resolved
          (λ why excuse untouched. (
            day_excuse (c.args.wanting ≡ true) Known (HasRoomToResolve s c.next_numbers-again.result)
                (rw numbers c.requires) why excuse,
            untouched,
          ))
          c.in_ok-night.ensures.unresolved c.in_ok-night.ensures.untouched);
    }
