-- Whose tables a manager begins with, as its two files are opened.
use Rattle.xa_base.proofs.{◌≡◌, ℕ, zero, suc, ℤ, List, [], ◌∷◌, Option, None, replicate, refl, ap, subst, sym, ◌∙◌}
use Rattle.xa_base.proofs.{arith, inl, inr, ◌⊎◌, ◌≢◌, true}
use Rattle.std.proofs.lemmas.Grind.{not_there}
use Rattle.xa_tables.specs.{opening, restored, stored, Tables}
use Rattle.sqlite_value.specs.Order.{Row}
use Rattle.sqlite_pages.specs.PageMap.{PageMap}
use Rattle.sqlite_pool.proofs.ProbeLemmas.{not_blank}
use Rattle.sqlite_pool.proofs.ResealLemmas.{adopts_of}
use Rattle.sqlite_pool.specs.File.{in_use}
use Rattle.sqlite_store.specs.Db.{roots_of, rows_at}
use Rattle.sqlite_store.specs.Listing.{IsOurs}
use Rattle.sqlite_trees.specs.Tree.{Trees}
use Rattle.sqlite_trees.specs.declared.store.Shape.TheVariants.{Table}
use Rattle.xa_store_sqlite.specs.{StoredBranch, Change, Image, left_in_slots, stored_of, sums_of, tables_of_image}
use Rattle.xa_store_sqlite.specs.Files.{AreNewFiles, AreOfAccounts, AreOfFiles, AreOfRows, AreOpenedAs, Bytes, HasNoRow}
use Rattle.xa_store_sqlite.specs.Files.{HasTrees, IsUnstarted, page_bytes, store_schema}
use Rattle.xa_store_sqlite.proofs.Opened.{always, once, trees_once}

no_left : (n : ℕ) → left_in_slots (replicate n None) ≡ []
no_left zero = refl
no_left (suc n) = no_left n

no_sums : (branches : List (Option StoredBranch)) (accounts : List (List ℕ × ℕ)) (n : ℕ)
    → sums_of branches accounts (replicate n None) ≡ []
no_sums branches [] n = refl
no_sums branches (a ∷ accounts) zero = refl
no_sums branches (a ∷ accounts) (suc n) = no_sums branches accounts n

-- a file with accounts alone stands for the tables of an opening with these
pub stored_alone : (image : Image) (accounts : List (List ℕ × ℕ)) (m n : ℕ) → image.accounts ≡ accounts
    → image.branches ≡ replicate m None
    → image.changes ≡ replicate n None → stored_of image ≡ stored accounts [] []
stored_alone image accounts m n same branches changes =
    left ∙ sums ∙ ap (λ (l : List (List ℕ × ℕ)). stored l [] []) same
  where
    left : stored_of image ≡ stored image.accounts [] (sums_of image.branches image.accounts image.changes)
    left =
        ap (λ l. stored image.accounts l (sums_of image.branches image.accounts image.changes))
        (ap (λ (l : List (Option StoredBranch)). left_in_slots l) branches ∙ no_left m)

    sums : stored image.accounts [] (sums_of image.branches image.accounts image.changes) ≡ stored image.accounts [] []
    sums =
        ap (λ l. stored image.accounts [] l)
        (ap (λ (l : List (Option Change)). sums_of image.branches image.accounts l) changes
        ∙ no_sums image.branches image.accounts n)

pub of_accounts : (image : Image) (accounts : List (List ℕ × ℕ)) (m n : ℕ) → image.accounts ≡ accounts
    → image.branches ≡ replicate m None
    → image.changes ≡ replicate n None → tables_of_image image ≡ opening accounts
of_accounts image accounts m n same branches changes =
    ap restored (stored_alone image accounts m n same branches changes)

pub filled : (row : Row) (rows : List Row) → row ∷ rows ≡ [] → ⊥
filled row rows e = let z : row ∷ rows ≡ [] = e in cc

-- a number that is passed on is the same
pub renumbered : {m n : ℤ} {accounts : List (List ℕ × ℕ)} {trees : Trees} {T : Tables} → m ≡ n
    → AreOfRows m trees T ⊎ AreOfAccounts accounts trees T
    → AreOfRows n trees T ⊎ AreOfAccounts accounts trees T
renumbered {accounts = accounts} {trees = trees} {T = T} same from =
    subst (λ (k : ℤ). AreOfRows k trees T ⊎ AreOfAccounts accounts trees T) same from

-- what was read of the trees is what the files have
pub of_files : (files : Bytes) (number : ℤ) (accounts : List (List ℕ × ℕ)) (trees : Trees) (T : Tables)
    → AreOpenedAs files trees
    → AreOfRows number trees T ⊎ AreOfAccounts accounts trees T
    → AreOfFiles files number T ⊎ AreNewFiles files accounts T
of_files files number accounts trees T (inl read) (inl rows) = inl (record { trees = trees; read = read; rows = rows })
of_files files number accounts trees T (inl read) (inr new) =
    inr (record { none = inr (trees, read, new.empty); are = new.are })
of_files files number accounts trees T (inr none) (inr new) = inr (record { none = inl none.0; are = new.are })
of_files files number accounts trees T (inr none) (inl rows) =
    let one = sym (rows.has 3 (omega arith)) ∙ none.1 3 (omega arith) in
    absurd (filled _ _ one)

-- ---- files with a row

listed : (pages : PageMap) → IsOurs page_bytes true store_schema pages
    → ¬ (rows_at page_bytes (in_use page_bytes pages) Table 1 ≡ [])
unfolding roots_of
listed pages ours empty = filled _ _ (sym (ours.numbered always).listed ∙ empty)

-- files that hold a store's database aren't made
pub not_unstarted : (files : Bytes) (trees : Trees) → HasTrees files trees → ¬ (IsUnstarted files)
not_unstarted files trees has (inl blank) =
    let large : page_bytes ≡ 4088 = refl in
    not_there has.ours (λ ours.
    not_blank page_bytes files has.pages (adopts_of page_bytes files has.pages has.found) (omega (arith, large))
    ours.file.sound page_bytes (omega (arith, large)) blank)
not_unstarted files trees has (inr empty) =
    not_there has.ours (λ ours. listed has.pages ours
    (ap (λ (p : PageMap). rows_at page_bytes (in_use page_bytes p) Table 1)
    (once page_bytes files has.pages empty.0 has.found empty.1) ∙ empty.2.1))

pub row_found : (files : Bytes) (trees : Trees) → HasTrees files trees → trees 3 ≢ [] → ¬ (HasNoRow files)
row_found files trees has some (inl none) = not_there none (λ begun. not_unstarted files trees has begun)
row_found files trees has some (inr empty) =
    some (ap (λ (all : Trees). all 3) (trees_once files trees empty.0 has empty.1) ∙ empty.2 3 (omega arith))

pub one_found : (files : Bytes) (number : ℤ) (accounts : List (List ℕ × ℕ)) (T U : Tables) → AreOfFiles files number T
    → ¬ (AreNewFiles files accounts U)
one_found files number accounts T U old new =
    row_found files old.trees old.read (λ empty. filled _ _ (sym (old.rows.has 3 (omega arith)) ∙ empty)) new.none
