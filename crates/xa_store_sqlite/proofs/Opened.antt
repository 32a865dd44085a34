-- What a store is opened on, by what its two files recover to.
use Rattle.xa_base.proofs.{◌≡◌, ℕ, ◌<◌, ◌^◌, [], List, Bool, true, false, ◌&&◌, cond, refl, ap, sym, subst, ◌∙◌, arith}
use Rattle.xa_base.proofs.{rules, inl, inr, IfOk, IfOk-weaker, Result, ◌⊎◌, ◌≢◌, length}
use Rattle.std.specs.Prelude.{IsTrue}
use Rattle.std.proofs.Math.Logic.{∥∥₁_map}
use Rattle.std.proofs.lemmas.Grind.{not_there}
use Rattle.sqlite_disk.specs.declared.Disk.{Ghosts}
use Rattle.sqlite_wal.proofs.RecoveryLemmas.{recovers_once}
use Rattle.sqlite_wal.specs.Files.{seen_image}
use Rattle.sqlite_wal.specs.Recovery as wal
use Rattle.sqlite_wal.specs.Recovery.{Image}
use Rattle.sqlite_pages.specs.PageMap.{PageMap}
use Rattle.sqlite_pool.specs.Opening.{IsBlankFile}
use Rattle.sqlite_pool.specs.Pool as pool
use Rattle.sqlite_pool.specs.Stored.{Recovers, RecoversAs, stored_size, trimmed}
use Rattle.sqlite_pool.specs.declared.pool.Pool.{Pool}
use Rattle.sqlite_store.specs.Build.{CanBuild}
use Rattle.sqlite_store.specs.FileStore.{IsReady, schema_of, state, view}
use Rattle.sqlite_store.specs.Opening.{FailsToOpen, IsEmptyFile}
use Rattle.sqlite_store.specs.Unopened as unopened
use Rattle.sqlite_store.specs.Unopened.{CanCreate, Creates, IsAsBefore, Opens, StopsCreating, files_of, image, state_of}
use Rattle.sqlite_store.specs.Unopened.{wanted_by}
use Rattle.sqlite_store.specs.declared.error.OpenError.{OpenError}
use Rattle.sqlite_store.specs.declared.error.OpenError.TheVariants.{Refused}
use Rattle.sqlite_store.specs.declared.store.open.Unopened.{Unopened}
use Rattle.sqlite_store.specs.Listing.{IsOurs, file_trees}
use Rattle.sqlite_store.specs.Saved.{kept_schema}
use Rattle.sqlite_store.specs.declared.catalog.Wanted.{Wanted}
use Rattle.sqlite_store.specs.declared.store.FileStore.{FileStore}
use Rattle.sqlite_trees.specs.Tree.{Trees, no_trees}
use Rattle.sqlite_trees.specs.View.{IsClean, doubt}
use Rattle.xa_store_sqlite.specs.Files.{AreEmpty, AreOpenedAs, AreSynced, Bytes, HasTrees, IsUnstarted, page_bytes}
use Rattle.xa_store_sqlite.specs.Files.{store_schema}
use Rattle.xa_store_sqlite.proofs.Buildable.{can_build, few}
use Rattle.xa_store_sqlite.proofs.Decided.{recovers_or_not}

-- ---- a disk that tells no lie

both_hold : (a b : Bool) → IsTrue a → IsTrue b → IsTrue (a && b)
both_hold true b on also = also
both_hold false b on also = on

is_on : (b : Bool) → IsTrue b → b ≡ true
is_on true on = refl
is_on false on = absurd (cc)

no_doubt : (b : Bool) → IsTrue b → doubt b ≡ 0
unfolding doubt
no_doubt true on = refl
no_doubt false on = absurd (cc)

-- so is a disk that keeps a copy of what it was given
pub always : IsTrue true
always = search rules

module _ {D : Type 0} {g : Ghosts D} (honest : (d : D) → IsTrue (g.is_clean d)) where
  pub pool_clean : (it : Pool D g) → IsTrue (pool.state it).is_clean
  unfolding pool.state
  pool_clean it =
      both_hold (g.is_clean it.backing.pager.log.log) (g.is_clean it.backing.pager.log.db)
      (honest it.backing.pager.log.log) (honest it.backing.pager.log.db)

  pub state_clean : (it : FileStore D g) → IsTrue (state it).is_clean
  state_clean it = pool_clean it.pool

  pub store_clean : (it : FileStore D g) → IsClean (view it)
  store_clean it = no_doubt (state it).is_clean (state_clean it)

-- ---- what files recover to

pub once : (size : ℕ) (files : Bytes) (p q : PageMap) → Recovers size files p → Recovers size files q → p ≡ q
once size files p q a b =
    sym a.shows ∙ ap (trimmed size) (recovers_once (stored_size size) files a.stored b.stored a.found b.found) ∙ b.shows

pub trees_once : (files : Bytes) (trees found : Trees) → HasTrees files trees → HasTrees files found → trees ≡ found
trees_once files trees found has read =
    has.are ∙ ap (file_trees page_bytes store_schema) (once page_bytes files has.pages read.pages has.found read.found)
    ∙ sym read.are

recovers_on : (size : ℕ) (old new : Image) (pages : PageMap) → RecoversAs size old new → Recovers size old pages
    → Recovers size new pages
recovers_on size old new pages covers found =
    let now = covers found.stored found.found in
    record {
      stored = found.stored;
      found = now;
      whole = found.whole;
      sealed = found.sealed;
      shows = found.shows;
      present = now.present;
    }

recovers_back : (size : ℕ) (old new : Image) (pages stored : PageMap) → RecoversAs size old new
    → Recovers size new pages
    → wal.Recovers (stored_size size) old stored → Recovers size old pages
recovers_back size old new pages stored covers found was =
    let same = recovers_once (stored_size size) new stored found.stored (covers stored was) found.found in
    record {
      stored = found.stored;
      found = subst (λ (p : PageMap). wal.Recovers (stored_size size) old p) same was;
      whole = found.whole;
      sealed = found.sealed;
      shows = found.shows;
      present = was.present;
    }

-- ---- a store that was opened

ours_as : (n m : ℕ) (s t : List Wanted) (b : Bool) (pages : PageMap) → n ≡ m → s ≡ t → IsTrue b → IsOurs n b s pages
    → IsOurs m true t pages
ours_as n m s t b pages sizes schemas on o =
    subst (λ k. IsOurs k true t pages) sizes
    (subst (λ k. IsOurs n true k pages) schemas (record { file = o.file; numbered = λ _. o.numbered on }))

module _ {D : Type 0} {g : Ghosts D} (honest : (d : D) → IsTrue (g.is_clean d)) (it : FileStore D g)
    (ready : IsReady it) where
  is_read : IsTrue (state it).is_clean → schema_of it ≡ store_schema → (state it).page_size ≡ page_bytes
      → (view it).trees ≡ file_trees page_bytes store_schema (state it).committed
  is_read clean schema size =
      ready.clean
      ∙ ap
      (λ b. cond b (file_trees (state it).page_size (kept_schema it.saved (schema_of it)) (state it).committed)
      no_trees) (is_on _ clean)
      ∙ ap (λ saved. file_trees (state it).page_size (kept_schema saved (schema_of it)) (state it).committed)
      ready.unaltered
      ∙ ap (λ n. file_trees n (schema_of it) (state it).committed) size
      ∙ ap (λ s. file_trees page_bytes s (state it).committed) schema

  pub has_trees : (files : Bytes) → schema_of it ≡ store_schema → (state it).page_size ≡ page_bytes
      → IsTrue (view it).is_numbered
      → Recovers page_bytes files (state it).committed → HasTrees files (view it).trees
  has_trees files schema size numbered found = record {
    pages = (state it).committed;
    found = found;
    ours = ∥∥₁_map (it.stored (ready.is_open (store_clean honest it))) (λ o. ours_as (state it).page_size page_bytes
        (kept_schema it.saved (schema_of it)) store_schema (view it).is_numbered (state it).committed size
        (ap (λ saved. kept_schema saved (schema_of it)) ready.unaltered ∙ schema) numbered o.ours);
    are = is_read (state_clean honest it) schema size;
  }

  -- one that was made is empty
  pub empty_made : (IsTrue (state it).is_clean → (t : ℕ) → t < 2 ^ 32 → (view it).committed t ≡ [])
      → AreEmpty (view it).trees
  empty_made empty t below =
      ap (λ (all : Trees). all t) ready.clean ∙ empty (state_clean honest it) t (omega (arith, below))

-- ---- files that are opened

pub trees_at : {D : Type 0} {g : Ghosts D} (files : Bytes) (old new : FileStore D g) → new ≡ old
    → HasTrees files (view old).trees
    → HasTrees files (view new).trees
trees_at files old new same has = subst (λ it. HasTrees files (view it).trees) (sym same) has

module _ {D : Type 0} {g : Ghosts D} (honest : (d : D) → IsTrue (g.is_clean d)) (old : Unopened D g) (pair : D × D)
    (same : files_of old ≡ pair)
    (sized : (state_of old).page_size ≡ page_bytes) (schemas : wanted_by old ≡ store_schema) where
  pub trees_found : (it : FileStore D g) → IsReady it → schema_of it ≡ wanted_by old → IsTrue (view it).is_numbered
      → (IsTrue (state it).is_clean → Recovers (state_of old).page_size (image old) (state it).committed)
      → (IsTrue (state it).is_clean → Opens old (state it))
      → HasTrees (seen_image g pair.0 pair.1) (view it).trees
  trees_found it ready schema numbered found kept =
      let clean = state_clean honest it in
      has_trees honest it ready (seen_image g pair.0 pair.1) (schema ∙ schemas) ((kept clean).size ∙ sized) numbered
      (subst (λ (p : D × D). Recovers page_bytes (seen_image g p.0 p.1) (state it).committed) same
      (subst (λ n. Recovers n (image old) (state it).committed) sized (found clean)))

-- ---- files in which no database was begun

creatable : {D : Type 0} {g : Ghosts D} (old : Unopened D g) → wanted_by old ≡ store_schema → unopened.IsUnstarted old
    → CanCreate old
creatable old schemas unstarted = record {
  few = subst (λ (s : List Wanted). length s < 65536) (sym schemas) few;
  schema = subst CanBuild (sym schemas) can_build;
  files = unstarted;
}

module _ {D : Type 0} {g : Ghosts D} (old : Unopened D g) (pair : D × D) (same : files_of old ≡ pair)
    (sized : (state_of old).page_size ≡ page_bytes) where
  abbrev Unstarted : D × D → ℕ → Type 0
  Unstarted files size =
      IsBlankFile size (seen_image g files.0 files.1)
      ⊎ ((pages : PageMap) × Recovers size (seen_image g files.0 files.1) pages × IsEmptyFile size pages)

  pub unstarted_in : ∥ unopened.IsUnstarted old ∥₁ → ∥ IsUnstarted (seen_image g pair.0 pair.1) ∥₁
  unstarted_in begun =
      subst (λ n. ∥ Unstarted pair n ∥₁) sized
      (subst (λ (p : D × D). ∥ Unstarted p (state_of old).page_size ∥₁) same begun)

  unstarted_of : IsUnstarted (seen_image g pair.0 pair.1) → unopened.IsUnstarted old
  unstarted_of begun =
      subst (λ (p : D × D). Unstarted p (state_of old).page_size) (sym same)
      (subst (λ n. Unstarted pair n) (sym sized) begun)

  -- such files are made
  pub not_unmade : ((d : D) → IsTrue (g.is_clean d)) → wanted_by old ≡ store_schema
      → (new : Unopened D g) (e : OpenError)
      → (IsTrue (state_of new).is_clean
      → FailsToOpen (state_of old).faults (state_of new).faults (StopsCreating new) (CanCreate old) e)
      → ∥ IsUnstarted (seen_image g pair.0 pair.1) ∥₁ → e ≢ Refused
  not_unmade honest schemas new e cause begun is =
      not_there begun (λ b.
      subst (λ x. FailsToOpen (state_of old).faults (state_of new).faults (StopsCreating new) (CanCreate old) x) is
      (cause (pool_clean honest new.pool))
      (creatable old schemas (unstarted_of b)))

  abbrev Finds : D × D → ℕ → PageMap → Type 0
  Finds files size pages = Recovers size (seen_image g files.0 files.1) pages

  pub to_old : (pages : PageMap) → Finds pair page_bytes pages → Finds (files_of old) (state_of old).page_size pages
  to_old pages found =
      subst (λ (p : D × D). Finds p (state_of old).page_size pages) (sym same)
      (subst (λ n. Finds pair n pages) (sym sized) found)

  pub from_old : (pages : PageMap) → Finds (files_of old) (state_of old).page_size pages → Finds pair page_bytes pages
  from_old pages found =
      subst (λ n. Finds pair n pages) sized (subst (λ (p : D × D). Finds p (state_of old).page_size pages) same found)

-- ---- files in which a database was begun: a making that is refused leaves them as they were

module _ {D : Type 0} {g : Ghosts D} (honest : (d : D) → IsTrue (g.is_clean d))
    (stays : (d : D) → g.may_leave d (g.seen d)) where
  may_stay : (it : Unopened D g) → (state_of it).may_leave (image it)
  unfolding pool.state pool.files
  may_stay it =
      let log = it.pool.backing.pager.log.log in
      let db = it.pool.backing.pager.log.db in
      (both_hold (g.is_clean log) (g.is_clean db) (honest log) (honest db), (stays log, stays db))

  left_alone : (it : Unopened D g) → AreSynced g (files_of it).0 (files_of it).1 → (left : Image)
      → (state_of it).may_leave left → left ≡ image it
  unfolding pool.state pool.files
  left_alone it synced left may = λ i. record { log = synced.0 left.log may.1.0 i; db = synced.1 left.db may.1.1 i }

  module _ (old new : Unopened D g) (pair after : D × D) (same : files_of old ≡ pair) (closed : files_of new ≡ after)
      (e : OpenError) (is : e ≡ Refused)
      (sized : (state_of old).page_size ≡ page_bytes) (schemas : wanted_by old ≡ store_schema)
      (synced : AreSynced g pair.0 pair.1)
      (cause : IsTrue (state_of new).is_clean
      → FailsToOpen (state_of old).faults (state_of new).faults (StopsCreating new) (CanCreate old) e)
      (unharmed : IsTrue (state_of new).is_clean → Creates old (state_of new)) where
    abbrev size : ℕ
    size = (state_of old).page_size

    begun : ¬ (unopened.IsUnstarted old)
    begun unstarted =
        subst (λ x. FailsToOpen (state_of old).faults (state_of new).faults (StopsCreating new) (CanCreate old) x) is
        (cause (pool_clean honest new.pool))
        (creatable old schemas unstarted)

    before : IsAsBefore old (image new)
    before = (unharmed (pool_clean honest new.pool)).guarded begun (image new) (may_stay new)

    unmoved : (state_of old).may_leave (image new) → image new ≡ image old
    unmoved may = left_alone old (subst (λ (p : D × D). AreSynced g p.0 p.1) (sym same) synced) (image new) may

    reads_on : (pages : PageMap) → Recovers size (image old) pages → Recovers size (image new) pages
    reads_on pages found =
        elim before.same [
          | inl may ↦ subst (λ (f : Image). Recovers size f pages) (sym (unmoved may)) found
          | inr covers ↦ recovers_on size (image old) (image new) pages covers found
        ]

    reads_back : (pages : PageMap) → Recovers size (image new) pages → Recovers size (image old) pages
    reads_back pages found =
        elim (recovers_or_not (stored_size size) (image old)) [
          | inl was ↦ elim before.same [
            | inl may ↦ here may
            | inr covers ↦ recovers_back size (image old) (image new) pages was.0 covers found was.1
          ]
          | inr none ↦ here (before.unread (λ stored was whole. none stored was))
        ]
      where
        here : (state_of old).may_leave (image new) → Recovers size (image old) pages
        here may = subst (λ (f : Image). Recovers size f pages) (unmoved may) found

    to_new : (pages : PageMap) → Recovers page_bytes (seen_image g after.0 after.1) pages
        → Recovers size (image new) pages
    to_new pages found =
        subst (λ (p : D × D). Recovers size (seen_image g p.0 p.1) pages) (sym closed)
        (subst (λ n. Recovers n (seen_image g after.0 after.1) pages) (sym sized) found)

    from_new : (pages : PageMap) → Recovers size (image new) pages
        → Recovers page_bytes (seen_image g after.0 after.1) pages
    from_new pages found =
        subst (λ n. Recovers n (seen_image g after.0 after.1) pages) sized
        (subst (λ (p : D × D). Recovers size (seen_image g p.0 p.1) pages) closed found)

    pub trees_before : (trees : Trees) → HasTrees (seen_image g after.0 after.1) trees
        → HasTrees (seen_image g pair.0 pair.1) trees
    trees_before trees has = record {
      pages = has.pages;
      found = from_old old pair same sized has.pages (reads_back has.pages (to_new has.pages has.found));
      ours = has.ours;
      are = has.are;
    }

    pub trees_after : (trees : Trees) → HasTrees (seen_image g pair.0 pair.1) trees
        → HasTrees (seen_image g after.0 after.1) trees
    trees_after trees has = record {
      pages = has.pages;
      found = from_new has.pages (reads_on has.pages (to_old old pair same sized has.pages has.found));
      ours = has.ours;
      are = has.are;
    }

    pub opened_before : {T E : Type 0} (r : Result T E) (trees : T → Trees)
        → IfOk r (λ t. HasTrees (seen_image g after.0 after.1) (trees t))
        → IfOk r (λ t. AreOpenedAs (seen_image g pair.0 pair.1) (trees t))
    opened_before r trees =
        IfOk-weaker r (λ t. HasTrees (seen_image g after.0 after.1) (trees t))
        (λ t. AreOpenedAs (seen_image g pair.0 pair.1) (trees t))
        (λ t has. inl (trees_before (trees t) has))
