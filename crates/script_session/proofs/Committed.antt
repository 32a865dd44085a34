-- What a commit of a script's line comes to.
use Rattle.xa_base.proofs.{◌≡◌, ℕ, List, [], ◌∷◌, map, refl}
use Rattle.xa_words.specs.{TranName}
use Rattle.xa_driver.specs.{Branch, IsTranOf}
use Rattle.script_grammar.specs.{CommitAll}
use Rattle.script_session.specs.{branch_of_commit, branches_of, named}

-- all branches of a commit are of its transaction
pub of_tran : (c : CommitAll TranName) (ms : List ℕ) → IsTranOf (map (branch_of_commit c) ms) (named c)
of_tran c [] = tt
of_tran c (m ∷ ms) = (refl, of_tran c ms)

pub all_of_tran : (c : CommitAll TranName) (bs : List Branch) → bs ≡ branches_of c → IsTranOf bs (named c)
all_of_tran c bs is = rw is (of_tran c _)
