-- The stages of a commit: what each has, and when the next may be done.
use Rattle.std.specs.Prelude.{◌≡◌, ℕ, ◌≤◌, List, [], Vec, length, map, vec_capacity}
use Rattle.std.specs.Global.{Global}
use Rattle.xa_desk.specs.LedgerViews.{LedgerView}
use Rattle.xa_desk.specs.DeskViews.{DeskView}
use Rattle.xa_driver.specs.declared.branch.Branch.{Branch}
use Rattle.xa_driver.specs.declared.done.Done.{Done}
use Rattle.xa_driver.specs.declared.round.Round.{Round}
use Rattle.xa_driver.specs.declared.stages.Preparing.{Preparing}
use Rattle.xa_driver.specs.declared.stages.Prepared.{Prepared}
use Rattle.xa_driver.specs.declared.stages.Decided.{Decided}
use Rattle.xa_driver.specs.declared.stages.Telling.{Telling}
use Rattle.xa_driver.specs.declared.stages.Told.{Told}
use Rattle.xa_driver.specs.declared.stages.Forgetting.{Forgetting}
use Rattle.xa_driver.specs.Asks.{Ask, Asks, SameAsks}
use Rattle.xa_log.specs.Log.{LogState}
use Rattle.xa_words.specs.declared.code.Code.{Code}
use Rattle.xa_driver.specs.Rounds.{code_of_ask, ending_of_ask, first_ask, second_ask, third_ask, yes_asked}
use Rattle.xa_driver.specs.Trace.{IsTranOf, Logs, decision_of}
use Rattle.xa_driver.specs.UnderWay.{IsAtRest, MayAsk}

-- ---- memory for what comes

-- the list is empty, and has room for so many
pub record HasRoomFor {X : Type 0} (count : ℕ) (list : Vec X Global) : Type 0 where
  pub none : list.items ≡ []
  pub room : count ≤ vec_capacity list

-- ---- the first phase

-- the branches are being asked to prepare, since the desk was as `desk`
pub record IsPreparing (bs : List Branch) (desk : DeskView) (p : Preparing) : Type 0 where
  pub before : p.round.before.value ≡ desk
  pub tran : IsTranOf bs p.tran
  pub same : SameAsks (map first_ask bs) p.round.asks.items
  pub votes : HasRoomFor (length p.round.asks.items) p.for_votes
  pub endings : HasRoomFor (length p.round.asks.items) p.for_endings

-- each branch was asked to prepare, and answered
pub record HasPrepared (bs : List Branch) (old new : List LedgerView) (p : Prepared) : Type 0 where
  pub rest : IsAtRest p.round
  pub tran : IsTranOf bs p.tran
  pub same : SameAsks (map first_ask bs) p.round.asks.items
  pub asked : Asks p.round.asks.items old new
  pub votes : p.votes.items ≡ map code_of_ask p.round.asks.items
  pub endings : HasRoomFor (length p.round.asks.items) p.for_endings

-- Each branch was asked to prepare, and answered with its vote, and the commit came no further.
pub record HasVoted (bs : List Branch) (old new : List LedgerView) (votes : List Code) : Type 0 where
  pub stage : Prepared
  pub prepared : HasPrepared bs old new stage
  pub votes_are : stage.votes.items ≡ votes

-- it was decided by the votes, and what became of the log
pub record HasDecided (p : Prepared) (log later : LogState) (d : Decided) : Type 0 where
  pub round : d.round ≡ p.round
  pub votes : d.votes ≡ p.votes
  pub endings : d.for_endings ≡ p.for_endings
  pub decision : d.decision.commit ≡ decision_of p.votes.items d.decision.logged
  pub logs : Logs p.tran (yes_asked p.round.asks.items) p.votes.items d.decision.logged log later

-- ---- the second phase

-- the branches are being told the decision, those that want one, since the desk was as `desk`
pub record IsTelling (d : Decided) (desk : DeskView) (t : Telling) : Type 0 where
  pub before : t.round.before.value ≡ desk
  pub same : SameAsks (map (second_ask d.decision.commit) d.round.asks.items) t.round.asks.items
  pub endings : HasRoomFor (length t.round.asks.items) t.for_endings
  pub decision : t.decision ≡ d.decision
  pub votes : t.votes ≡ d.votes

-- each branch was told the decision, if it wants one, and answered
pub record HasTold (d : Decided) (old new : List LedgerView) (t : Told) : Type 0 where
  pub rest : IsAtRest t.round
  pub same : SameAsks (map (second_ask d.decision.commit) d.round.asks.items) t.round.asks.items
  pub asked : Asks t.round.asks.items old new
  pub commit : t.done.commit ≡ d.decision.commit
  pub logged : t.done.logged ≡ d.decision.logged
  pub votes : t.done.votes ≡ d.votes
  pub endings : t.done.endings.items ≡ map (ending_of_ask d.decision.commit) t.round.asks.items

-- ---- what was decided heuristically

-- each branch that was is being told to forget it, since the desk was as `desk`
pub record IsForgetting (t : Told) (desk : DeskView) (f : Forgetting) : Type 0 where
  pub before : f.round.before.value ≡ desk
  pub same : SameAsks (map third_ask t.round.asks.items) f.round.asks.items
  pub done : f.done ≡ t.done

-- each was told to forget it, and answered
pub record HasForgotten (t : Told) (old new : List LedgerView) (done : Done) : Type 0 where
  pub known : done ≡ t.done
  pub thirds : List Ask
  pub same : SameAsks (map third_ask t.round.asks.items) thirds
  pub asked : Asks thirds old new

-- ---- when the next may be done, at this desk

pub record MayTell (d : Decided) (desk : DeskView) : Type 0 where
  pub rest : IsAtRest d.round
  pub endings : HasRoomFor (length d.round.asks.items) d.for_endings
  pub may : MayAsk d.round desk

pub record MayForget (t : Told) (desk : DeskView) : Type 0 where
  pub rest : IsAtRest t.round
  pub may : MayAsk t.round desk
