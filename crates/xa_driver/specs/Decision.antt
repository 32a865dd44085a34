-- Votes, and the decision by them (Mohan, Lindsay, Obermarck: presumed abort).
use Rattle.std.specs.Prelude.{Bool, false, not, ◌||◌, ◌&&◌, ◌==◌, ℕ, List, [], ◌∷◌}
use Rattle.std.specs.List.{list_any}
use Rattle.xa_words.specs.ManagerSet.{set_of}
use Rattle.xa_words.specs.declared.code.Code.{Code}
use Rattle.xa_words.specs.Codes.{is_done, is_read_only}
use Rattle.xa_driver.specs.declared.branch.Branch.{Branch}

-- the code of a Prepare is a vote to commit: XA_OK
abbrev pub is_yes : Code → Bool
is_yes c = is_done c

-- it says that the branch only read: XA_RDONLY
abbrev pub is_read : Code → Bool
is_read c = is_read_only c

-- any other is a vote against
abbrev pub is_no : Code → Bool
is_no c = not (is_yes c || is_read c)

-- the votes decide commit exactly if none is no
abbrev pub decides_commit : List Code → Bool
decides_commit votes = not (list_any is_no votes)

-- some vote is to commit
abbrev pub has_yes : List Code → Bool
has_yes votes = list_any is_yes votes

-- the branch at the manager voted yes
abbrev pub voted_yes : ℕ → List Branch → List Code → Bool
voted_yes m [] vs = false
voted_yes m (b ∷ bs) [] = false
voted_yes m (b ∷ bs) (v ∷ vs) = ((b.m == m) && is_yes v) || voted_yes m bs vs

-- the managers that voted yes
abbrev pub yes_of : List Branch → List Code → List Bool
yes_of bs vs = set_of (λ m. voted_yes m bs vs)
