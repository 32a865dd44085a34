-- The second request of a branch, and its ending.
use Rattle.std.specs.Prelude.{Bool, true, false, ◌||◌, if◌then◌else◌, Option, None, Some}
use Rattle.xa_words.specs.Xid.{XidName}
use Rattle.xa_words.specs.declared.code.Code.{Code}
use Rattle.xa_words.specs.declared.code.Code.TheVariants.{Nota, RmFail, HeurMix, HeurRb, HeurCom, HeurHaz}
use Rattle.xa_words.specs.declared.request.Op.{Op}
use Rattle.xa_words.specs.declared.request.Op.TheVariants.{Commit, Rollback, Forget}
use Rattle.xa_words.specs.Codes.{is_done, is_rolled_back}
use Rattle.xa_desk.specs.LedgerViews.{is_rm_fail}
use Rattle.xa_driver.specs.declared.done.Ending.{Ending}
use Rattle.xa_driver.specs.declared.rounds.Vote.{Vote}
use Rattle.xa_driver.specs.declared.rounds.Vote.TheVariants as vote
use Rattle.xa_driver.specs.declared.done.Ending.TheVariants.{Committed, ReadOnly, RolledBack, InDoubt, Heuristic, Left}
use Rattle.xa_driver.specs.Decision.{is_yes, is_read}

-- the branch isn't there, or its manager is shut
abbrev pub is_out_of_reach : Code → Bool
is_out_of_reach Nota = true
is_out_of_reach RmFail = true
is_out_of_reach c = false

-- XA_HEURCOM, XA_HEURRB, XA_HEURMIX, XA_HEURHAZ: the branch was decided heuristically
abbrev pub is_heuristic : Code → Bool
is_heuristic HeurMix = true
is_heuristic HeurRb = true
is_heuristic HeurCom = true
is_heuristic HeurHaz = true
is_heuristic c = false

-- XA_HEURCOM, XA_HEURRB: and its manager keeps the decision until it is told to forget it
abbrev pub is_decided : Code → Bool
is_decided HeurRb = true
is_decided HeurCom = true
is_decided c = false

-- what the code of a Prepare is to the coordinator
abbrev pub vote_of : Code → Vote
vote_of c =
    if is_yes c then vote.Yes
    else (if is_read c then vote.ReadOnly
    else (if is_rolled_back c then vote.RolledBack
    else (if is_out_of_reach c then vote.OutOfReach
    else vote.No)))

-- on commit the yes branches are committed; on abort each branch is rolled back that may still be there
abbrev pub second_by : Bool → XidName → Vote → Option Op
second_by true x vote.Yes = Some (Commit x false)
second_by true x v = None
second_by false x vote.Yes = Some (Rollback x)
second_by false x vote.No = Some (Rollback x)
second_by false x v = None

abbrev pub second_op : Bool → XidName → Code → Option Op
second_op commit x c = second_by commit x (vote_of c)

-- after the second round each branch is forgotten whose decision its manager keeps
abbrev pub third_op : XidName → Option Code → Option Op
third_op x None = None
third_op x (Some c) = if is_decided c then Some (Forget x) else None

-- the ending of a branch that voted yes: XAER_RMFAIL leaves it in doubt
abbrev pub yes_ending : Bool → Option Code → Ending
yes_ending commit None = InDoubt
yes_ending commit (Some c) =
    if is_done c then (if commit then Committed else RolledBack)
    else (if is_rm_fail c then InDoubt else (if is_heuristic c then Heuristic c else Left c))

-- the ending of a branch that voted against and may still have been there
abbrev pub no_ending : Code → Option Code → Ending
no_ending vote None = Left vote
no_ending vote (Some c) =
    if is_done c || is_rolled_back c then RolledBack else (if is_heuristic c then Heuristic c else Left c)

-- the ending of a branch by its vote and the code of its second request
abbrev pub ending_by : Bool → Code → Option Code → Vote → Ending
ending_by commit c second vote.Yes = yes_ending commit second
ending_by commit c second vote.ReadOnly = ReadOnly
ending_by commit c second vote.RolledBack = RolledBack
ending_by commit c second vote.OutOfReach = Left c
ending_by commit c second vote.No = no_ending c second

abbrev pub ending_of : Bool → Code → Option Code → Ending
ending_of commit c second = ending_by commit c second (vote_of c)
