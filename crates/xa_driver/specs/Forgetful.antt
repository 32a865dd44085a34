-- Which records of a log nobody will ask for any more.
use Rattle.std.specs.Prelude.{Bool, true, false, not, ◌&&◌, ◌==◌, if◌then◌else◌, List, [], ◌∷◌, length}
use Rattle.std.specs.List.{list_all}
use Rattle.xa_words.specs.Tran.{TranName, tran_of}
use Rattle.xa_words.specs.Codes.{is_done}
use Rattle.xa_driver.specs.declared.done.Done.{Done}
use Rattle.xa_driver.specs.declared.done.Ending.{Ending}
use Rattle.xa_driver.specs.declared.done.Ending.TheVariants.{Committed, ReadOnly}
use Rattle.xa_driver.specs.declared.resolved.Outcome.{Outcome}

-- the branch was committed, or it only read: so its manager has nothing of it
abbrev pub has_acknowledged : Ending → Bool
has_acknowledged Committed = true
has_acknowledged ReadOnly = true
has_acknowledged e = false

-- There is an ending for each vote, and at least one. A commit that was cut short has no vote, or fewer endings.
abbrev pub has_endings : Done → Bool
has_endings done = not (length done.votes.items == 0) && (length done.endings.items == length done.votes.items)

-- each branch ended so
abbrev pub is_acknowledged : Done → Bool
is_acknowledged done = has_endings done && list_all has_acknowledged done.endings.items

-- the transactions of the outcomes that weren't answered XA_OK
abbrev pub unfinished : List Outcome → List TranName
unfinished [] = []
unfinished (r ∷ rs) = if is_done r.code then unfinished rs else tran_of r.xid ∷ unfinished rs
