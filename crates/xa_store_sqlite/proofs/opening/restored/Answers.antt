use Rattle.xa_base.proofs.{◌≡◌, ◌∙◌, IfOk-weaker, IfSome, Option, ap, arith, err_from_is_err_and, inl, inr, ints}
use Rattle.xa_base.proofs.{length, of_z, subst, sym, to_z, to_z-of_z, w64, ◌⊎◌, ◌+◌, ◌≤◌, List, true, ℕ, ℤ}
use Rattle.std.specs.Prelude.{◌/◌, IsSomeAnd}
use Rattle.sqlite_disk.specs.Disk.{MoreFaults}
use Rattle.sqlite_trees.specs.View.{IsClean}
use Rattle.xa_tables.specs.{fault_of}
use Rattle.xa_words.specs.{are_accounts}
use Rattle.xa_store_sqlite.specs.{AreOwned, HasImage, MayBeOfStore, Mirror, image_of, stored_of, tables_of_image}
use Rattle.xa_store_sqlite.specs.declared.mirror.TheConstants.{MOST_BRANCHES}
use Rattle.xa_store_sqlite.specs.Files.{AreOfAccounts, AreOfRows}
use Rattle.xa_store_sqlite.proofs.Changes.{clean_before}
use Rattle.xa_store_sqlite.proofs.Filling.{accounts_alone, owned_alone}
use Rattle.xa_store_sqlite.proofs.FromFile.{bare_on, fresh_on, seen_on}
use Rattle.xa_store_sqlite.proofs.OfFiles.{filled, of_accounts, stored_alone}
use Rattle.xa_store_sqlite.proofs.Started.{bare_device, faultless_alone}
use Rattle.xa_store_sqlite.proofs.opening.restored.Goals as goal

pub returns-in-Some-clause-knows : goal.returns-in-Some-clause-knows
returns-in-Some-clause-knows g c = λ fresh.
    let view = g.S.Store.view in
    let old = c.args.tables.trees in
    let new = c.mirror_of.new.tables.trees in
    let e = c.in_ok-mirror.ensures in
    let image = image_of c.in-Some.mirror in
    let has =
    subst (λ (o : Option Mirror). IfSome o (λ m. IsClean (view new) → HasImage (image_of m) (view old).trees))
    c.in-Some.is e.image in
    let owned = subst (λ (o : Option Mirror). IfSome o (λ m. AreOwned (image_of m))) c.in-Some.is e.owned in
    let before =
    clean_before view g.S.Store.faults g.S.Store.recovers g.S.Store.is_shielded old new new
    c.mirror_of.ensures.quiet in
    c.found.ensures.knows (fresh_on (view old) (view new) before e.only fresh)
    (seen_on (view old) (view new) image e.only e.sound has) owned

pub returns-in_ok-mirror-in-None-clause-knows : goal.returns-in_ok-mirror-in-None-clause-knows
returns-in_ok-mirror-in-None-clause-knows g c = λ fresh.
    let view = g.S.Store.view in
    let old = c.args.tables.trees in
    let new = c.mirror_of.new.tables.trees in
    let e = c.in_ok-mirror.ensures in
    let m = c.in_ok-mirror-in-None.mirror in
    let made = c.in_ok-mirror-in-None.ensures in
    let count = length c.args.accounts.now in
    c.founded.ensures.knows (bare_on (view old) (view new) e.only e.sound (e.bare c.in-None.is))
    (accounts_alone (image_of m) c.branches_within-free.result count made.branches made.changes)
    (owned_alone (image_of m) count made.changes)

pub returns-in-Some-clause-from : goal.returns-in-Some-clause-from
returns-in-Some-clause-from g c = λ clean.
    let view = g.S.Store.view in
    let trees = (view c.args.tables.trees).trees in
    let new = c.mirror_of.new.tables.trees in
    let e = c.in_ok-mirror.ensures in
    let image = image_of c.in-Some.mirror in
    let has =
    subst (λ (o : Option Mirror). IfSome o (λ m. IsClean (view new) → HasImage (image_of m) trees)) c.in-Some.is
    e.image (clean new) in
    let told : to_z w64 (of_z w64 c.args.number) ≡ c.args.number = to_z-of_z w64 c.args.number (omega (arith, ints)) in
    let numbered =
    subst (λ (o : Option Mirror). IfSome o (λ m. m.number ≡ to_z w64 (of_z w64 c.args.number))) c.in-Some.is
    e.number
    ∙ told in
    IfOk-weaker c.found.result (λ p. p.0.tables ≡ tables_of_image image)
    (λ p. AreOfRows c.args.number trees p.0.tables ⊎ AreOfAccounts c.args.accounts.now trees p.0.tables)
    (λ p are. inl (record { image = image; numbered = numbered; has = has; are = are })) c.found.ensures.are

pub returns-in_ok-mirror-in-None-clause-from : goal.returns-in_ok-mirror-in-None-clause-from
returns-in_ok-mirror-in-None-clause-from g c = λ clean.
    let trees = (g.S.Store.view c.args.tables.trees).trees in
    let m = c.in_ok-mirror-in-None.mirror in
    let made = c.in_ok-mirror-in-None.ensures in
    let bare = c.in_ok-mirror.ensures.bare c.in-None.is (clean c.mirror_of.new.tables.trees) in
    let first =
    of_accounts (image_of m) c.args.accounts.now c.branches_within-free.result (length c.args.accounts.now)
    made.accounts made.branches made.changes in
    IfOk-weaker c.founded.result (λ p. p.0.tables ≡ tables_of_image (image_of m))
    (λ p. AreOfRows c.args.number trees p.0.tables ⊎ AreOfAccounts c.args.accounts.now trees p.0.tables)
    (λ p are. inr (record { empty = bare; are = are ∙ first })) c.founded.ensures.are

pub returns-in-Some-clause-whole : goal.returns-in-Some-clause-whole
returns-in-Some-clause-whole g c = λ clean image has whole none.
    let alike = subst (λ (o : Option Mirror). IsSomeAnd o (λ m. stored_of (image_of m) ≡ stored_of image)) c.in-Some.is
    (c.in_ok-mirror.ensures.alike image has (clean c.mirror_of.new.tables.trees)) in
    c.found.ensures.device (ap fault_of alike ∙ none)

pub returns-in_ok-mirror-in-None-clause-whole : goal.returns-in_ok-mirror-in-None-clause-whole
returns-in_ok-mirror-in-None-clause-whole g c = λ clean image has whole none.
    absurd (subst (λ (o : Option Mirror). IsSomeAnd o (λ m. stored_of (image_of m) ≡ stored_of image)) c.in-None.is
    (c.in_ok-mirror.ensures.alike image has (clean c.mirror_of.new.tables.trees)))

pub returns-in_err-mirror-clause-whole : goal.returns-in_err-mirror-clause-whole
returns-in_err-mirror-clause-whole g c = λ clean image has whole none.
    let told : c.args.number ≡ to_z w64 (of_z w64 c.args.number) =
    sym (to_z-of_z w64 c.args.number (omega (arith, ints))) in
    let numbered = subst (λ (n : ℤ). MayBeOfStore n ((c.args.room + 1) / 2) image) told whole in
    let roomy =
    subst (λ (n : ℕ). MayBeOfStore (to_z w64 (of_z w64 c.args.number)) n image)
    (sym c.branches_within-free.ensures.is)
    numbered in
    let p = err_from_is_err_and c.from_residual.result c.from_residual.ensures.1 in
    rw (p.1, p.2) (c.in_err-mirror.ensures.whole image roomy has (clean c.mirror_of.new.tables.trees))

pub returns-in-Some-clause-new : goal.returns-in-Some-clause-new
returns-in-Some-clause-new g c = λ clean empty are.
    let trees = (g.S.Store.view c.args.tables.trees).trees in
    let new = c.mirror_of.new.tables.trees in
    let has =
    subst (λ (o : Option Mirror). IfSome o (λ m. IsClean (g.S.Store.view new) → HasImage (image_of m) trees))
    c.in-Some.is c.in_ok-mirror.ensures.image (clean new) in
    absurd (filled _ _ (sym (has 3 (omega arith)) ∙ empty 3 (omega arith)))

pub returns-in_ok-mirror-in-None-clause-new : goal.returns-in_ok-mirror-in-None-clause-new
returns-in_ok-mirror-in-None-clause-new g c = λ clean empty are.
    let m = c.in_ok-mirror-in-None.mirror in
    let made = c.in_ok-mirror-in-None.ensures in
    let alone =
    stored_alone (image_of m) c.args.accounts.now c.branches_within-free.result (length c.args.accounts.now)
    made.accounts made.branches made.changes in
    c.founded.ensures.device (subst (λ (a : List (List ℕ × ℕ)). are_accounts a ≡ true) (sym made.accounts) are)
    (ap fault_of alone ∙ faultless_alone c.args.accounts.now are)

pub returns-in_err-mirror-clause-new : goal.returns-in_err-mirror-clause-new
returns-in_err-mirror-clause-new g c = λ clean empty are.
    let view = g.S.Store.view in
    let old = c.args.tables.trees in
    let new = c.mirror_of.new.tables.trees in
    let roomy : c.branches_within-free.result ≤ MOST_BRANCHES =
    omega (arith, c.branches_within-free.ensures.is, c.requires.room.1) in
    let p = err_from_is_err_and c.from_residual.result c.from_residual.ensures.1 in
    rw (p.1, p.2)
    (bare_device (to_z w64 (of_z w64 c.args.number)) c.branches_within-free.result (view old).trees empty roomy
    (view old).is_broken
    (MoreFaults (g.S.Store.faults old) (g.S.Store.faults new)) c.in_err-mirror.field-0.0
    (c.in_err-mirror.ensures.refused (clean new)))
