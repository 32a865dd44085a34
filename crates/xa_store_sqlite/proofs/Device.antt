-- Why files that a store wrote aren't opened.
use Rattle.xa_base.proofs.{◌≡◌, true, refl, sym, subst, inl, inr, ◌≢◌}
use Rattle.std.specs.Prelude.{IsTrue}
use Rattle.std.proofs.lemmas.Grind.{not_there}
use Rattle.sqlite_disk.specs.declared.Disk.{Ghosts}
use Rattle.sqlite_store.specs.Opening.{FailsToOpen}
use Rattle.sqlite_store.specs.Listing.{IsOurs}
use Rattle.sqlite_store.specs.Unopened.{HasFileAs, IsFullFile, files_of, state_of, wanted_by}
use Rattle.sqlite_store.specs.declared.store.open.Unopened.{Unopened}
use Rattle.sqlite_store.specs.declared.error.OpenError.{OpenError}
use Rattle.sqlite_store.specs.declared.error.OpenError.TheVariants as opening
use Rattle.sqlite_trees.specs.Tree.{Trees}
use Rattle.sqlite_wal.specs.Files.{seen_image}
use Rattle.xa_store_sqlite.specs.declared.fault.StoreOpenFault.TheVariants.{Failed}
use Rattle.xa_store_sqlite.specs.{HasImage, Image, fault_of_opening, is_of_device}
use Rattle.xa_store_sqlite.specs.Files.{AreOpenedAs, Bytes, HasTrees, page_bytes, store_schema}
use Rattle.xa_store_sqlite.proofs.OfFiles.{not_unstarted}
use Rattle.xa_store_sqlite.proofs.Opened.{pool_clean, to_old, trees_once}

-- ---- faults of the device

-- a failed opening is of the device, where a refusal is told before
pub of_opening : (e : OpenError) → is_of_device (fault_of_opening Failed e) ≡ true
of_opening opening.OutOfMemory = refl
of_opening opening.Io = refl
of_opening opening.Full = refl
of_opening opening.Refused = refl

-- ---- files that hold a store's database

-- they are opened with the rows that they have
pub rows_opened : (files : Bytes) (trees found : Trees) (image : Image) → HasTrees files trees → HasImage image trees
    → AreOpenedAs files found
    → HasImage image found
rows_opened files trees found image has rows (inl read) =
    subst (λ (all : Trees). HasImage image all) (trees_once files trees found has read) rows
rows_opened files trees found image has rows (inr none) =
    absurd (not_there none.0 (λ begun. not_unstarted files trees has begun))

module _ {D : Type 0} {g : Ghosts D} (honest : (d : D) → IsTrue (g.is_clean d)) (old : Unopened D g) (pair : D × D)
    (same : files_of old ≡ pair)
    (sized : (state_of old).page_size ≡ page_bytes) (schemas : wanted_by old ≡ store_schema) where
  -- they aren't refused
  pub not_refused : (new : Unopened D g) (e : OpenError)
      → (IsTrue (state_of new).is_clean
      → FailsToOpen (state_of old).faults (state_of new).faults (IsFullFile new) (HasFileAs old true) e)
      → (trees : Trees) → HasTrees (seen_image g pair.0 pair.1) trees → e ≢ opening.Refused
  not_refused new e cause trees has is =
      let file =
      subst (λ x. FailsToOpen (state_of old).faults (state_of new).faults (IsFullFile new) (HasFileAs old true) x) is
      (cause (pool_clean honest new.pool)) in
      not_there has.ours (λ ours. file (
        has.pages,
        to_old old pair same sized has.pages has.found,
        subst (λ n. IsOurs n true (wanted_by old) has.pages) (sym sized)
            (subst (λ s. IsOurs page_bytes true s has.pages) (sym schemas) ours),
      ))
