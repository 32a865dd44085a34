use Rattle.xa_base.proofs.{list_any-map, map-map, map, sym, ap, ◌∙◌, arith, list_any}
use Rattle.demo_bank_days.proofs.Moved.{begins_with, is_day, many_attended, same_stores}
use Rattle.demo_bank_days.proofs.day.work_day.Goals as goal

pub returns-clause-worked : goal.returns-clause-worked
returns-clause-worked g c =
    let run = c.in_ok-clients.field-0 in
    let ran = c.in_ok-clients.ensures.ran in
    let goes_on = c.reopened_openings_go_on_from_what_was_left.ensures in
    let whole = c.is_settled.ensures.whole in
    record {
      worked = map (λ a. a.client.client) run.clients.items;
      is_day = is_day g.L.DecisionLog.state g.L.DecisionRecords.knows g.L.DecisionLog.loses c.args.settled
          c.args.again.now c.args.tellers.items run.clients.items run.settled ran c.requires.tellers;
      begins = begins_with goes_on c.args.settled run.settled c.args.again.now whole ran.run.of_setup;
      stores = same_stores goes_on c.args.settled run.settled c.args.again.now whole ran.run.of_setup
          c.is_settled-2.ensures.whole;
      wants =
          c.want_memory-wanting.ensures ∙ ap (list_any (λ a. a.client.client.wants_memory)) c.deref.ensures.value
          ∙ sym (list_any-map (λ t. t.wants_memory) (λ a. a.client.client) run.clients.items);
      logs = c.all_off_work-evening.ensures.logs;
      told_ = c.all_off_work-evening.ensures.outcomes
          ∙ sym (map-map (λ t. t.outcomes) (λ a. a.client.client) run.clients.items);
    }

pub returns-clause-night : goal.returns-clause-night
returns-clause-night g c =
    let stores =
    same_stores c.reopened_openings_go_on_from_what_was_left.ensures c.args.settled c.in_ok-clients.field-0.settled
    c.args.again.now
    c.is_settled.ensures.whole c.in_ok-clients.ensures.ran.run.of_setup
    c.is_settled-2.ensures.whole in
    search (arith, c.in_ok-clients.field-0.settled, c.args.again.now)

pub all_off_work-evening-requires-clause-few : goal.all_off_work-evening-requires-clause-few
all_off_work-evening-requires-clause-few g c =
    omega (arith, many_attended _ _ _ _ _ _ c.in_ok-clients.ensures.ran, c.requires.tellers, c.requires.few)

pub all_off_work-evening-requires-clause-room : goal.all_off_work-evening-requires-clause-room
all_off_work-evening-requires-clause-room g c =
    rw (many_attended _ _ _ _ _ _ c.in_ok-clients.ensures.ran) (rw c.requires.tellers at c.requires.room)
