-- The three rounds of requests of a call, as its working lists.
use Rattle.std.specs.Prelude.{ℕ, Bool, ◌&&◌, ◌==◌, None, Some, unwrap_or, List}
use Rattle.std.specs.List.{list_any}
use Rattle.xa_words.specs.ManagerSet.{set_of}
use Rattle.xa_words.specs.declared.code.Code.{Code}
use Rattle.xa_words.specs.declared.code.Code.TheVariants.{RmFail}
use Rattle.xa_words.specs.declared.request.Op.TheVariants.{Prepare}
use Rattle.xa_driver.specs.declared.branch.Branch.{Branch}
use Rattle.xa_driver.specs.Asks.{Ask}
use Rattle.xa_driver.specs.declared.done.Ending.{Ending}
use Rattle.xa_driver.specs.Decision.{is_yes}
use Rattle.xa_driver.specs.Endings.{second_op, third_op, ending_of}

-- what a branch is asked first: to prepare
abbrev pub first_ask : Branch → Ask
first_ask b = record { manager = b.m; xid = b.xid; vote = RmFail; op = Some (Prepare b.xid); code = None }

-- its vote; a Prepare that wasn't sent counts as XAER_RMFAIL
abbrev pub code_of_ask : Ask → Code
code_of_ask k = unwrap_or k.code RmFail

-- what it is asked by the decision and its vote
abbrev pub second_ask : Bool → Ask → Ask
second_ask commit k =
    record {
      manager = k.manager;
      xid = k.xid;
      vote = code_of_ask k;
      op = second_op commit k.xid (code_of_ask k);
      code = None;
    }

-- what it is asked last, by its second code
abbrev pub third_ask : Ask → Ask
third_ask k = record { manager = k.manager; xid = k.xid; vote = k.vote; op = third_op k.xid k.code; code = None }

-- its ending by the decision and both codes
abbrev pub ending_of_ask : Bool → Ask → Ending
ending_of_ask commit k = ending_of commit k.vote k.code

-- the branch at the manager voted yes
abbrev pub asked_yes : ℕ → List Ask → Bool
asked_yes m ks = list_any (λ k. (k.manager == m) && is_yes (code_of_ask k)) ks

-- the managers that voted yes
abbrev pub yes_asked : List Ask → List Bool
yes_asked ks = set_of (λ m. asked_yes m ks)
