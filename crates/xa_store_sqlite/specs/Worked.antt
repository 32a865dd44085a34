-- A file with two accounts, of which a prepared branch in the slot 1 has touched one, and a completed branch in slot 2.
use Rattle.std.specs.Prelude.{ℕ, pos, neg_ℤ, List, [], ◌∷◌, None, Some, codes}
use Rattle.xa_words.specs.Xid.{XidName}
use Rattle.xa_tables.specs.declared.state.HeuristicDecision.TheVariants.{Commit}
use Rattle.xa_store_sqlite.specs.declared.mirror.Left.TheVariants.{Prepared, Completed}
use Rattle.xa_store_sqlite.specs.Images.{Image}

abbrev pub prepared_name : XidName
prepared_name = record { format = pos 1; gtrid = codes "x"; bqual = codes "1" }

abbrev pub completed_name : XidName
completed_name = record { format = neg_ℤ (pos 2); gtrid = codes "y"; bqual = codes "1" }

abbrev pub two_accounts : List (List ℕ × ℕ)
two_accounts = (codes "a", 100) ∷ (codes "b", 50) ∷ []

abbrev pub worked_image : Image
worked_image =
    record {
      number = pos 77;
      accounts = two_accounts;
      branches = None ∷ Some (prepared_name, Prepared) ∷ Some (completed_name, Completed Commit) ∷ None ∷ [];
      changes = None ∷ Some (record { branch = 1; delta = neg_ℤ (pos 30) }) ∷ [];
    }
