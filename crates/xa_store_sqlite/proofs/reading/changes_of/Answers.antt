use Rattle.xa_base.proofs.{◌≡◌, ◌∙◌, List, None, Some, ap, is_some, map, option_map, same_Some, subst, sym, true}
use Rattle.sqlite_value.specs.Order.{Row}
use Rattle.xa_store_sqlite.specs.{AreOwnedBy, Change, IsNoChangeFor, change_cells, item_at}
use Rattle.xa_store_sqlite.proofs.ReadRows.{next_change, owned_push}
use Rattle.xa_store_sqlite.proofs.Refused.{bad_at}
use Rattle.xa_store_sqlite.proofs.reading.changes_of.Goals.{in-None, in-Some+in-Ok}
use Rattle.xa_store_sqlite.proofs.reading.changes_of.Goals as goal

pub loop-slot-preserved : goal.loop-slot-preserved
loop-slot-preserved c =
    let i = c.loop-slot.invariant in
    let bs = c.args.branches.now in
    let old = c.loop-slot.changes.items in
    let x = c.match-row.change in
    let own : option_map change_cells c.match-row.change ≡ c.index-slots-slot.result =
    elim c.match-row.branch [
      | in-None w ↦ ap (option_map change_cells) w.change-is ∙ sym w.in-None.is
      | in-Some+in-Ok w ↦ ap (option_map change_cells) w.change-is ∙ ap Some (sym w.in-Ok.ensures.change)
          ∙ sym w.in-Some.is
    ]
    in
    let there : (d : Change) → c.match-row.change ≡ Some d → is_some (item_at c.args.branches.now d.branch) ≡ true =
    λ d e. elim c.match-row.branch [
      | in-None w ↦ (let z : None ≡ Some d = sym w.change-is ∙ e in cc)
      | in-Some+in-Ok w ↦ ap (λ (b : Change). is_some (item_at bs b.branch)) (sym (same_Some _ _ (sym w.change-is ∙ e)))
          ∙ w.in-Ok.ensures.owned
    ]
    in
    record {
      changes = ap (λ l. map (λ d. option_map change_cells d) l) c.in_ok-push.ensures.items
          ∙ next_change old c.args.slots.now c.loop-slot.slot c.index-slots-slot.result x c.loop-slot-test.true
          c.index-slots-slot.is own i.changes;
      owned = subst (λ l. AreOwnedBy bs l) (sym c.in_ok-push.ensures.items) (owned_push bs old x i.owned there);
    }

pub returns-in-Err-clause-refused : goal.returns-in-Err-clause-refused
returns-in-Err-clause-refused c = λ number room trees same branches.
    let row = c.in-Some.row in
    bad_at (λ r. IsNoChangeFor (trees 1) r c.in-Err.fault) (trees 2) c.args.slots.now c.loop-slot.slot
    c.index-slots-slot.result row same c.loop-slot-test.true
    c.index-slots-slot.is c.in-Some.is
    (subst (λ (rows : List Row). IsNoChangeFor rows row c.in-Err.fault) (sym branches) c.in-Err.ensures.refused)
