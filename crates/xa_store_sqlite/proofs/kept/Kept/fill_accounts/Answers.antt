use Rattle.xa_base.proofs.{◌≡◌, ◌+◌, ◌∙◌, arith, refl, subst, sym}
use Rattle.xa_slots.specs.{Knows}
use Rattle.xa_store_sqlite.specs.{Mirror, image_of}
use Rattle.xa_store_sqlite.specs.Files.{accounts_to}
use Rattle.xa_store_sqlite.proofs.Filling.{knows_bare}
use Rattle.xa_store_sqlite.proofs.kept.Kept.fill_accounts.Goals as goal

pub loop-place-init : goal.loop-place-init
loop-place-init g c = record {
  filled = λ bare. knows_bare (g.S.Store.view c.args.self.now.tables.trees) (image_of c.args.self.now.mirror) bare;
  mirror = refl;
  slots = refl;
  places = refl;
}

pub loop-place-preserved : goal.loop-place-preserved
loop-place-preserved g c =
    let i = c.loop-place.invariant in
    let new = g.S.Store.view c.fill_account.new.self.tables.trees in
    let old = g.S.Store.view c.loop-place.self.tables.trees in
    record {
      filled = λ bare.
          subst (λ (m : Mirror). Knows 4 new (accounts_to (c.loop-place.place + 1) (image_of m))) i.mirror
          (c.in_ok-fill_account.ensures.filled
          (subst (λ (m : Mirror). Knows 4 old (accounts_to c.loop-place.place (image_of m))) (sym i.mirror)
          (i.filled bare)));
      mirror = c.fill_account.ensures.mirror ∙ i.mirror;
      slots = c.fill_account.ensures.slots ∙ i.slots;
      places = c.fill_account.ensures.places ∙ i.places;
    }

pub returns-clause-filled : goal.returns-clause-filled
returns-clause-filled g c = λ bare.
    let i = c.loop-place.invariant in
    let last : c.loop-place.place ≡ c.in-Ok.count =
    omega (arith, c.loop-place-test.false, c.loop-place.auto.place-end) in
    subst
    (λ n. Knows 4 (g.S.Store.view c.loop-place.self.tables.trees) (accounts_to n (image_of c.args.self.now.mirror)))
    (last ∙ c.in-Ok.ensures.count) (i.filled bare)
