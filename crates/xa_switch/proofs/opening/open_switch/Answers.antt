use Rattle.xa_base.proofs.{arith, ◌≡◌, ℕ, List, map, rules, length, length-map, ap, sym, ◌∙◌, subst}
use Rattle.xa_base.proofs.{err_from_is_err_and}
use Rattle.xa_tables.specs.{Managed, opening, Tables}
use Rattle.xa_tables.proofs.Reopening.{new_opens, accounts_new}
use Rattle.xa_switch.specs.{Setup, IsWithinLimits, Plan, ManagerPlan, numbers_of, use_async, AreOfOneOpening}
use Rattle.xa_switch.specs.{manager_room, new_manager, opened_by, Again}
use Rattle.xa_switch.proofs.Meeting.{all_new, all_begin, tables_are}
use Rattle.xa_switch.proofs.opening.open_switch.Goals as goal

pub returns-in_err-managers-clause-bad : goal.returns-in_err-managers-clause-bad
returns-in_err-managers-clause-bad g c =
    let p = err_from_is_err_and c.from_residual.result c.from_residual.ensures.1 in
    let limits : IsWithinLimits (numbers_of c.args.plan.now) (length c.args.plan.now.managers.items) = search rules in
    let bad = c.in_err-managers.ensures.bad in
    let is = c.deref.ensures.value in
    rw (p.1, p.2) (
      λ e sound. bad.0 e (rw is sound.accounts),
      λ never. bad.1
          (λ all. never (record { limits = limits; accounts = rw is at all })),
    )

-- the tables that a manager begins with
abbrev begun : ManagerPlan → Tables
begun m = opening m.accounts.items

-- each manager has the numbers that were laid out
made : (p : Plan) (n own : Again) (room : ℕ) (given : List ManagerPlan) (ms : List Managed) → n ≡ own
    → own ≡ numbers_of p → room ≡ manager_room own
    → given ≡ p.managers.items → ms ≡ map (opened_by p.threads room) given
    → ms ≡ map (λ m. new_manager n (begun m)) p.managers.items
made p n own room given ms laid owns roomy gives opens = grind arith

pub put_together-requires-clause-new : goal.put_together-requires-clause-new
put_together-requires-clause-new g c =
    all_new c.in_ok-layout.layout.numbers begun c.args.plan.now.managers.items _
    (made c.args.plan.now _ _ _ _ _ c.in_ok-layout.ensures.numbers c.numbers-numbers.ensures
    c.manager_room-room.ensures.room c.deref.ensures.value c.in_ok-managers.ensures.opened)

pub put_together-requires-clause-begins : goal.put_together-requires-clause-begins
put_together-requires-clause-begins g c =
    all_begin c.in_ok-layout.layout.numbers begun c.args.plan.now.managers.items _
    (made c.args.plan.now _ _ _ _ _ c.in_ok-layout.ensures.numbers c.numbers-numbers.ensures
    c.manager_room-room.ensures.room c.deref.ensures.value c.in_ok-managers.ensures.opened)
    (λ m. new_opens (begun m) (accounts_new m.accounts.items))

pub returns-clause-opened : goal.returns-clause-opened
returns-clause-opened g c =
    let plans : List ManagerPlan = c.args.plan.now.managers.items in
    let numbers = c.in_ok-layout.ensures.numbers ∙ c.numbers-numbers.ensures in
    let flags =
    c.in_ok-layout.ensures.flags ∙ c.in_ok-use_async.ensures ∙ ap (λ l. use_async l) c.deref-2.ensures.value in
    let first = tables_are c.in_ok-layout.layout.numbers begun plans _
    (made c.args.plan.now _ _ _ _ _ c.in_ok-layout.ensures.numbers c.numbers-numbers.ensures
    c.manager_room-room.ensures.room c.deref.ensures.value c.in_ok-managers.ensures.opened) in
    subst (λ (s : Setup). AreOfOneOpening s c.put_together.result.0.items c.put_together.result.1.items)
    (λ i.
    record {
      numbers = numbers i;
      managers =
          (ap length flags ∙ length-map plans (λ (m : ManagerPlan). m.use_async)) i;
      use_async = flags i;
      first = first i;
    })
    c.put_together.ensures

pub lay_out-requires : goal.lay_out-requires
lay_out-requires g c =
    let limits : IsWithinLimits c.numbers-numbers.result (length c.args.plan.now.managers.items) = search rules in
    record {
      limits = rw
          (ap length c.in_ok-use_async.ensures ∙ length-map c.deref-2.result.now (λ (m : ManagerPlan). m.use_async)
          ∙ ap length c.deref-2.ensures.value) limits;
    }

pub put_together-requires-clause-many : goal.put_together-requires-clause-many
put_together-requires-clause-many g c =
    let managers =
    ap length c.in_ok-managers.ensures.opened ∙ length-map c.deref.result.now (opened_by _ _)
    ∙ ap length c.deref.ensures.value in
    let flags =
    ap length (c.in_ok-layout.ensures.flags ∙ c.in_ok-use_async.ensures)
    ∙ length-map c.deref-2.result.now (λ (m : ManagerPlan). m.use_async)
    ∙ ap length c.deref-2.ensures.value in
    managers ∙ sym flags
