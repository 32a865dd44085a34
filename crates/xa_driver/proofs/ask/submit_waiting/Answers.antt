use Rattle.xa_base.proofs.{◌≡◌, ◌⊎◌, ℕ, suc, ◌<◌, true, false, None, ap, ◌∙◌, arith, rules, Bool, ◌&&◌, option_or}
use Rattle.xa_desk.specs.{learnt_shut, is_known, ledger, outstanding, submit_refusal, after_full, Refused}
use Rattle.xa_desk.specs.{NoSuchManager, Shut, TooMany, Spent, Full, DeskView}
use Rattle.xa_desk.proofs.Ledgers.{known_true}
use Rattle.xa_driver.specs.{CanAsk, KeepsDesk}
use Rattle.xa_driver.proofs.EachLeft.{room_is}
use Rattle.xa_driver.proofs.ask.submit_waiting.Goals as goal

second_fails : (a b : Bool) → a ≡ true → (a && b) ≡ false → b ≡ false
second_fails a b holds fails = grind arith

-- what can be asked of a manager that isn't learnt to be shut isn't refused where a handle is free
allowed : (d : DeskView) (m : ℕ) → CanAsk d.ledgers m → learnt_shut (ledger d.ledgers m) ≡ false
    → outstanding d.ledgers < d.handles → submit_refusal d m ≡ None
allowed d m can open_ free = grind (arith, known_true, room_is, option_or)

another : (why : Refused) → why ≡ Full → (why ≡ NoSuchManager) ⊎ ((why ≡ Shut) ⊎ ((why ≡ TooMany) ⊎ (why ≡ Spent))) → ⊥
another why full h = grind arith

-- so it isn't while nothing is sent
never_refused : (first now : DeskView) (m : ℕ) → CanAsk first.ledgers m → outstanding first.ledgers < first.handles
    → now.ledgers ≡ first.ledgers
    → KeepsDesk first now → false ≡ (is_known first.ledgers m && learnt_shut (ledger first.ledgers m))
    → submit_refusal now m ≡ None
never_refused first now m can free unsent keeps open_ =
    search (arith, second_fails, known_true, allowed, keeps.goes_on.handles, first.ledgers)

pub loop-preserved : goal.loop-preserved
loop-preserved g c =
    let m = c.args.manager in
    let before : KeepsDesk c.args.desk.now c.loop.desk = c.loop.invariant.keeps in
    let none =
    never_refused c.args.desk.now c.loop.desk m c.requires.can c.requires.free c.loop.invariant.unsent before
    c.if-learnt_shut.ensures in
    let full : c.submit.new.self ≡ after_full c.loop.desk m = (c.in-Err.ensures.full none).1 in
    let (n, is, idly) = c.loop.invariant.waits in
    record {
      can = search rules;
      finite = search rules;
      unsent = ap (λ (d : DeskView). d.ledgers) full ∙ c.loop.invariant.unsent;
      quiet = ap (λ (d : DeskView). d.events) full ∙ c.loop.invariant.quiet;
      keeps = search (arith, c.desks_go_on.ensures.further, before.goes_on);
      waits = (suc n, full ∙ ap (λ (d : DeskView). after_full d m) is, (c.loop.idle, idly, c.idle.ensures));
      idled = search rules;
    }

pub unreachable-requires : goal.unreachable-requires
unreachable-requires g c =
    let now : DeskView = c.loop.desk in
    let none =
    never_refused c.args.desk.now now c.args.manager c.requires.can c.requires.free c.loop.invariant.unsent
    c.loop.invariant.keeps c.if-learnt_shut.ensures in
    another c.in-Err.why (c.in-Err.ensures.full none).0 c.in-NoSuchManager.is
