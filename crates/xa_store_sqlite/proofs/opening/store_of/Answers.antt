use Rattle.xa_base.proofs.{◌≡◌, ◌∙◌, [], ◌||◌, ap, arith, false, length, nat_eq, nat_tests, not, subst, sym}
use Rattle.sqlite_trees.specs.View.{IsClean}
use Rattle.xa_tables.specs.{reopened}
use Rattle.xa_store.specs.{AreDurable}
use Rattle.xa_store_sqlite.specs.{KnowsAllBut, LeavesTables, image_of}
use Rattle.xa_store_sqlite.proofs.FromFile.{leaves}
use Rattle.xa_store_sqlite.proofs.Settled.{durable_now}
use Rattle.xa_store_sqlite.proofs.opening.store_of.Goals as goal

pub returns-clause-knows : goal.returns-clause-knows
returns-clause-knows g c = λ T k well.
    let view = g.S.Store.view in
    let recovers = g.S.Store.recovers in
    let s = c.in_ok-store.store in
    let e = c.in_ok-store.ensures in
    let kept = c.args.kept in
    subst
    (λ p. KnowsAllBut s.told.branches.keys s.are_moved (view p.tables.trees) (recovers p.tables.trees)
    (image_of p.mirror) p.slots.entries p.places.entries T) (sym e.kept)
    (subst
    (λ keys. KnowsAllBut keys s.are_moved (view kept.tables.trees) (recovers kept.tables.trees)
    (image_of kept.mirror) kept.slots.entries kept.places.entries T)
    (sym e.told)
    (subst
    (λ b. KnowsAllBut [] b (view kept.tables.trees) (recovers kept.tables.trees) (image_of kept.mirror)
    kept.slots.entries kept.places.entries T) (sym e.moved) k))

pub returns-clause-owes : goal.returns-clause-owes
returns-clause-owes g c =
    let e = c.in_ok-store.ensures in
    let none : not (nat_eq 0 0) ≡ false = grind (arith, nat_tests) in
    (λ i. e.failed i || (e.moved i || not (nat_eq (length (e.told i)) 0))) ∙ none

pub returns-clause-durable : goal.returns-clause-durable
returns-clause-durable g c = λ T k.
    let view = g.S.Store.view in
    let recovers = g.S.Store.recovers in
    let kept = c.args.kept in
    subst (λ p. AreDurable (LeavesTables (view p.tables.trees) (recovers p.tables.trees)) T)
    (sym c.in_ok-store.ensures.kept)
    (durable_now (view kept.tables.trees) (recovers kept.tables.trees) (image_of kept.mirror) kept.slots.entries
    kept.places.entries T k)

pub returns-clause-left : goal.returns-clause-left
returns-clause-left g c = λ T k.
    let view = g.S.Store.view in
    let recovers = g.S.Store.recovers in
    let trees = c.args.kept.tables.trees in
    subst
    (λ p. IsClean (view p.tables.trees) → LeavesTables (view p.tables.trees) (recovers p.tables.trees) (reopened T))
    (sym c.in_ok-store.ensures.kept)
    (leaves (view trees) (recovers trees) (image_of c.args.kept.mirror) T k.settled k.has c.stays.ensures.stays
    c.stays.ensures.broken)
