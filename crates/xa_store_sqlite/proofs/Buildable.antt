-- A store's database can be made: what sqlite_schema is to have of its tables can be stored.
use Rattle.xa_base.proofs.{◌≡◌, ℕ, ◌+◌, ◌<◌, ◌≤◌, List, length, true, refl, arith, sum_by-cons}
use Rattle.std.proofs.lemmas.List.Elements.{All-from_recursion}
use Rattle.std.proofs.lemmas.Nat.Bits.{bit_at-zero}
use Rattle.std.specs.Float.{NotNan}
use lib.Ieee.{is_nan, lt}
use Rattle.sqlite_value.specs.Order.{number, value_cmp}
use Rattle.sqlite_trees.specs.Sound.{begins, fits_kind, is_free_name, may_follow, same_name}
use Rattle.sqlite_trees.specs.View.{IsStorable}
use Rattle.sqlite_store.specs.Build.{CanBuild, listing}
use Rattle.sqlite_store.specs.Catalog.{describes, is_about, is_plain}
use Rattle.xa_store_sqlite.specs.Files.{store_schema, table_by}

short_listing : (name sql : List ℕ) (root : ℕ) → length name + length name + length sql ≤ 1000
    → IsStorable 0 (listing (table_by name sql) root)
unfolding is_nan
short_listing name sql root short =
    record {
      typed = λ c set. absurd (omega (arith, bit_at-zero c));
      columns = omega arith;
      numbers = All-from_recursion (λ v. NotNan (number v)) (listing (table_by name sql) root)
          (tt, (tt, (tt, (tt, (tt, tt)))));
      short = simp sum_by-cons (omega arith);
    }

pub can_build : CanBuild store_schema
unfolding describes is_about value_cmp fits_kind is_free_name may_follow begins same_name is_nan lt
can_build = record {
  distinct = refl;
  shaped = All-from_recursion (λ w. is_plain w.shape ≡ true) store_schema (refl, (refl, (refl, (refl, tt))));
  short = All-from_recursion (λ w. (root : ℕ) → IsStorable 0 (listing w root)) store_schema (
    λ root. short_listing _ _ root (omega arith),
    (
      λ root. short_listing _ _ root (omega arith),
      (λ root. short_listing _ _ root (omega arith), (λ root. short_listing _ _ root (omega arith), tt)),
    ),
  );
}

pub few : length store_schema < 65536
few = let four : length store_schema ≡ 4 = refl in omega (arith, four)
