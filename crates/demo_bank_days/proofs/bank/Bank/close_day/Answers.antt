use Rattle.xa_base.proofs.{IfOk-weaker, IfErr-weaker, ◌≡◌, ◌<◌, ◌^◌, ℕ, Bool, ap, refl, arith, List, length, ◌∙◌}
use Rattle.xa_words.specs.{TranName}
use Rattle.xa_switch.specs.{Again}
use Rattle.xa_log.specs.{LogState}
use Rattle.demo_bank.specs.{Teller}
use Rattle.demo_bank_days.specs.{AreTurned, Bank, Closed, Errands, TellersHaveWorked, next_numbers, IsBankDay}
use Rattle.demo_bank_days.specs.{IsWorkedDay, Worked}
use Rattle.demo_bank_days.proofs.Moved.{same_length}
use Rattle.demo_bank_days.proofs.bank.Bank.close_day.Goals as goal

pub work_day-requires-clause-tellers : goal.work_day-requires-clause-tellers
work_day-requires-clause-tellers g c κs within = search (arith, same_length)

pub work_day-requires-clause-room : goal.work_day-requires-clause-room
work_day-requires-clause-room g c κs within = search (arith, same_length)

-- the numbers of the day
pub numbers_are : {threads : ℕ} {l es : List Errands} (first day : Again) → threads ≡ length l → l ≡ es
    → day ≡ next_numbers first threads
    → day ≡ next_numbers first (length es)
numbers_are first day e same of_day = of_day ∙ ap (next_numbers first) (e ∙ ap (λ (l : List Errands). length l) same)

-- the day, by what both answers have of it
abbrev pub is_day_of : {L : Type 0} {state : L → LogState} {knows : L → Type 0}
    {loses : TranName → List Bool → L → L → Type 0} {reopens : L → L → Type 0}
    {b : Bank L} {errands items : List Errands} {c : Closed} (turned : List (Teller L)) (day : Worked L)
    → items ≡ errands → length items < 2 ^ 32
    → AreTurned b.next b.tellers.items errands turned → TellersHaveWorked state knows loses reopens b.settled turned day
    → c.outcomes ≡ day.evening.outcomes
    → c.found ≡ day.evening.found → IsBankDay state knows loses reopens b errands c
is_day_of turned day same few are_turned works told found =
    record {
      turned = turned;
      are_turned = are_turned;
      many = rw same at few;
      day = day;
      works = works;
      told_ = told;
      found_ = found;
    }

pub returns-in-Ok-pass_night : goal.returns-in-Ok-pass_night
returns-in-Ok-pass_night g c =
    let day = c.in-Ok-work_day.day in
    let n = c.in-Ok-pass_night.night in
    let closed : Closed =
    record { outcomes = day.evening.outcomes; found = day.evening.found; resolved = n.resolved } in
    let after : Bank g.row.L.Denot =
    record { tellers = n.tellers; settled = n.settled; again = c.in-Ok-pass_night.again; next = c.in-Some.next } in
    let numbers =
    numbers_are c.args.self.again c.next_numbers-again.result c.in-Some.ensures.threads c.deref.ensures.value
    c.next_numbers-again.ensures.numbers in
    let at =
    rw numbers at c.in-Ok-pass_night.ensures.passed in
    let worked : IsWorkedDay g.L.DecisionLog.state g.L.DecisionRecords.knows g.L.DecisionLog.loses g.L.ReopenLog.reopens
    c.args.self c.args.errands.items closed after = record {
      is_day = is_day_of c.turn_all-tellers.result.items day c.deref.ensures.value c.in-Some.ensures.few
          c.turn_all-tellers.ensures c.in-Ok-work_day.ensures.worked refl refl;
      stays = at.stays;
      numbers = at.numbers;
      tellers = at.tellers_;
      later = c.in-Some.ensures.later;
      next = rw c.deref.ensures.value at c.in-Some.ensures.next;
    } in
    record {
      worked = worked;
      closed = IfOk-weaker n.resolved _ _ (λ z (wants, numbers_, is_night, stores). record {
        is_worked = worked;
        wants = wants;
        night = rw numbers_ is_night;
        stores = stores;
      }) at.closed;
      unresolved = IfErr-weaker n.resolved _ _ (λ why (excuse, untouched). record {
        is_worked = worked;
        excuse = search (arith, g.L.DecisionRecords.knows, day.settled, c.args.self);
        untouched = untouched;
      }) at.left;
      stopped = tt;
    }

pub returns-in-Err-pass_night-clause-stopped : goal.returns-in-Err-pass_night-clause-stopped
returns-in-Err-pass_night-clause-stopped g c =
    let day = c.in-Ok-work_day.day in
    let numbers =
    numbers_are c.args.self.again c.next_numbers-again.result c.in-Some.ensures.threads c.deref.ensures.value
    c.next_numbers-again.ensures.numbers in (
      is_day_of c.turn_all-tellers.result.items day c.deref.ensures.value c.in-Some.ensures.few
          c.turn_all-tellers.ensures c.in-Ok-work_day.ensures.worked refl refl,
      rw numbers at c.in-Err-pass_night.ensures.unsettled,
    )
