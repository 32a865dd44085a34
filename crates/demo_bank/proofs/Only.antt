-- A teller's thread makes only transfers, and a commit whose coordinator died once all branches were told was made.
use Rattle.xa_base.proofs.{arith, ◌≡◌, Bool, true, false, ◌||◌, Option, Some, None, List, [], ◌∷◌, list_any, or_parts}
use Rattle.xa_base.proofs.{at_true, at_false, rules, ℤ, pos, ◌+ℤ◌, ℕ, suc, ◌+◌, ◌^◌, ◌<◌, ◌≤◌, ◌++◌, length}
use Rattle.xa_base.proofs.{length-append, append_assoc, refl, ap, ◌∙◌, subst, All, ints, cases_lt, All-nil, All-cons}
use Rattle.xa_base.proofs.{All-head, All-tail, All-weaker}
use Rattle.xa_words.specs.{XidName, Code, Death, Op, is_rolled_back}
use Rattle.laws_tables.specs.{AddsAsItWorks}
use Rattle.xa_tables.specs.{Tables, opening, IsOpening, History}
use Rattle.xa_desk.specs.{LedgerView, DeskView, ledger, HaveGrown}
use Rattle.xa_driver.specs.{Branch, Done, Ending, Heuristic, AsksFor, AtBranch, VotesAndObeys, is_read, is_yes}
use Rattle.xa_driver.specs.{second_op, third_op, ending_of, yes_ending, no_ending, is_decided, is_out_of_reach}
use Rattle.xa_driver.specs.{AsksLedger, EachBranch, IsCommit, is_commit, NoCommitWasSent, HaveAsked, PutsLedger}
use Rattle.xa_driver.specs.{sent_so_far, CommitOutcome, LastKnown, endings_known}
use Rattle.xa_log.specs.{LogState}
use Rattle.laws_commit.specs.{ends_heuristic, AreLeftAlone, OnlyTheseName, ends_in_doubt, added_before, added_by_all}
use Rattle.laws_commit.specs.{held_in_doubt, NothingWasSent, OnlyTransfers, opened, worked, committed}
use Rattle.xa_driver.specs.declared.done.CommitOutcome.TheVariants as outcome
use Rattle.xa_driver.specs.declared.done.LastKnown.TheVariants as known_as
use Rattle.xa_work.specs.{Commit, WorkOutcome, HasSent, HaveSent, IsFor, IsOpenRm, ComesOfCommit, HaveWorked}
use Rattle.xa_desk.proofs.Ledgers.{past_end}
use Rattle.xa_switch.specs.{Plan, IsSettled, sent, IsOpenedWith, history, ledgers_of, accounts_of, Settling}
use Rattle.laws_commit.proofs.Settled.{by_ledger}
use Rattle.xa_work.specs.Units.Transacts.{commits, refused}
use Rattle.xa_work.proofs.Named.{worked_for}
use Rattle.xa_work.proofs.Sent.{have_as, have_on}
use Rattle.xa_work.proofs.Voted.{StaysElsewhere, untold_sent}
use Rattle.demo_bank.specs.{Leg, Transfer, Habits, death_in, shut_before, IsClearAt, IsUndoubted, Makes, MakesAll}
use Rattle.demo_bank.specs.{MakesEach, MakesNext, branches_of_legs, changes_of, with_legs, without_legs}
use Rattle.demo_bank.proofs.Legs.{LegWorked, leg_work, legs_worked, leg_adds, work_answered}
use Rattle.demo_bank.proofs.Named.{Is, IsFrom, IsOf, IsShut, LegsOf, Names, comes_names, legs_are, names_as, next_names}
use Rattle.demo_bank.proofs.Named.{none_made, opens_names, shut_names, shut_sent, transfers_name, work_names, Earlier}
use Rattle.demo_bank.proofs.Named.{IsAny, IsBelow, IsTold, earlier_on, NamedWithin, named_within, only_these}
use Rattle.xa_words.specs.declared.death.Death.TheVariants as death

-- ---- a commit whose coordinator died once all branches were told was made, where no ending tells a decision of a
-- store's own

-- a decision that a store keeps is told by the ending
yes_heuristic : (commit : Bool) (c : Code) → is_decided c ≡ true → yes_ending commit (Some c) ≡ Heuristic c
yes_heuristic commit c e = grind arith

no_heuristic : (vote c : Code) → is_decided c ≡ true → no_ending vote (Some c) ≡ Heuristic c
no_heuristic vote c e = grind arith

-- the branch is gone, or out of reach
abbrev is_quiet : Code → Bool
is_quiet vote = is_read vote || (is_rolled_back vote || is_out_of_reach vote)

quiet_unasked : (commit : Bool) (x : XidName) (vote : Code) → is_yes vote ≡ false → is_quiet vote ≡ true
    → second_op commit x vote ≡ None
quiet_unasked commit x vote yes_ quiet = grind (arith, at_false, at_true)

unanswered : (a a' : LedgerView) (c : Code) → AsksFor AsksLedger None (Some c) a a' → ⊥
unanswered a a' c h = let e = h.0 in cc

told_heuristic : (commit : Bool) (x : XidName) (vote c : Code) (a a' : LedgerView) → is_decided c ≡ true
    → AsksFor AsksLedger (second_op commit x vote) (Some c) a a'
    → ends_heuristic (ending_of commit vote (Some c)) ≡ true
told_heuristic commit x vote c a a' kept obeys =
    grind (arith, at_true, yes_heuristic, unanswered, quiet_unasked, or_parts, at_false, no_heuristic)

-- so where no ending tells one, nobody is to forget
none_forgets : (commit : Bool) (x : XidName) (vote : Code) (second : Option Code) (a a' : LedgerView)
    → AsksFor AsksLedger (second_op commit x vote) second a a' → ends_heuristic (ending_of commit vote second) ≡ false
    → third_op x second ≡ None
none_forgets commit x vote second a a' obeys cool = grind (arith, told_heuristic)

branch_made : (commit : Bool) (b : Branch) (v : Code) (s : Option Code) (e : Ending) (a a' : LedgerView)
    → VotesAndObeys AsksLedger commit b v s e a a'
    → ends_heuristic e ≡ false → AtBranch AsksLedger commit b v s e a a'
branch_made commit b v s e a a' h cool = search (arith, none_forgets, b.xid, h.prepared, h.obeys)

branches_made : (commit : Bool) (old new : List LedgerView) (bs : List Branch) (vs : List Code)
    (ss : List (Option Code)) (es : List Ending)
    → EachBranch (λ b v s e. VotesAndObeys AsksLedger commit b v s e (ledger old b.m) (ledger new b.m)) bs vs ss es
    → list_any ends_heuristic es ≡ false
    → EachBranch (λ b v s e. AtBranch AsksLedger commit b v s e (ledger old b.m) (ledger new b.m)) bs vs ss es
branches_made commit old new [] [] [] [] h cool = tt
branches_made commit old new (b ∷ bs) (v ∷ vs) (s ∷ ss) (e ∷ es) h cool =
    let parts = or_parts (ends_heuristic e) (list_any ends_heuristic es) cool in (
      branch_made commit b v s e (ledger old b.m) (ledger new b.m) h.0 parts.0,
      branches_made commit old new bs vs ss es
          h.1 parts.1,
    )
branches_made commit old new bs vs ss es h cool = absurd h

-- the commit was made
pub told_made : (bs : List Branch) (dies : Option Death) (desk : DeskView) (new : List LedgerView)
    (log later : LogState) (done : Done)
    → ComesOfCommit bs dies (outcome.Died death.Told (known_as.Told done)) desk new log later
    → list_any ends_heuristic done.endings.items ≡ false
    → IsCommit bs desk new log later done
told_made bs dies desk new log later done came cool = let far = came.comes.1.far in record {
  may = came.may;
  trace = record {
    course = record {
      seconds = far.seconds;
      each = branches_made done.commit desk.ledgers new bs done.votes.items far.seconds done.endings.items far.each
          cool;
      others = came.comes.1.others;
      decided = far.decided;
    };
    managers = came.managers;
  };
}

-- ---- what was sent since

grown_by : (P : Op → Type 0) (old new : List LedgerView) → HaveSent P old new → HaveGrown old new
grown_by P old new h =
    record { each = λ m positive. let z = h m positive in record { sent = (z.more, z.sent); collected = z.collected } }

-- no Commit
abbrev IsNone : Op → Type 0
IsNone op = is_commit op ≡ false

none_among : (ops : List Op) → All IsNone ops → list_any is_commit ops ≡ false
none_among [] all = refl
none_among (op ∷ ops) all = λ i. All-head IsNone op ops all i || none_among ops (All-tail IsNone op ops all) i

no_commit : (old new : List LedgerView) → HaveSent IsNone old new → NoCommitWasSent old new
no_commit old new h =
    λ m positive. let z = h m positive in record { more = z.more; sent = z.sent; none = none_among z.more z.each }

-- a manager to which something was sent is known
known_by : (at : List LedgerView) (m : ℕ) → 0 < length (ledger at m).sent → m ≤ length at
known_by at m some = grind (arith, past_end, cases_lt)

add_nothing : (a b : ℤ) → a +ℤ b ≡ pos 0 → a +ℤ (b +ℤ pos 0) ≡ pos 0
add_nothing a b e = omega (arith, ints, e)

-- the work of two legs has none
quiet_work : (account : List ℕ) (one two : Leg) (old new : List LedgerView)
    → HaveWorked (changes_of one two account) (branches_of_legs one two) old new
    → HaveSent IsNone old new
quiet_work account one two old new work =
    have_as (λ op f. f.uncommitting) old new
    (worked_for (changes_of one two account) (branches_of_legs one two) old new work)

-- ---- one thread

module _
    (adds : (t n : ℕ) (x : XidName) (k : List ℕ) (d : ℤ) (h : History) (T : Tables) → IsOpening T
    → AddsAsItWorks t n x k d T h)
    (undoubted : (p : Plan) (s : Settling) (t : ℕ) (old : List LedgerView) (bs : List Branch) (d : Done)
    → list_any ends_in_doubt d.endings.items ≡ false → held_in_doubt p s t old bs d ≡ pos 0)
    (p : Plan) (s : Settling) (settled : IsSettled s)
    (opens_with : (m : ℕ) → 1 ≤ m → m ≤ length p.managers.items → IsOpenedWith s m (opening (accounts_of p m)))
    (told : (u : ℕ) → IsTold s u) (t : ℕ) (low : t < 2 ^ 32)
    (managers : length (ledgers_of s t) ≡ length p.managers.items) where
  abbrev final : List LedgerView
  final = ledgers_of s t

  -- what is sent from now on names branches of transfers with numbers from this one on
  abbrev Later : ℕ → List LedgerView → Type 0
  Later n at = HaveSent (Names t (IsFrom n)) at final

  -- ---- a transfer that was decided

  module _ (n : ℕ) (account : List ℕ) (one two : Leg) (legs : LegsOf t n one two) (old : List LedgerView)
      (desk : DeskView) (new : List LedgerView)
      (log later_log : LogState) (d : Done)
      (work : HaveWorked (changes_of one two account) (branches_of_legs one two) old desk.ledgers)
      (made : IsCommit (branches_of_legs one two) desk new log later_log d) (before : Earlier t n old)
      (after : Later (n + 1) new) where
    worked_names : HaveSent (Names t (Is n)) old desk.ledgers
    worked_names = work_names t n one two account old desk.ledgers legs work

    made_names : HaveSent (Names t (Is n)) desk.ledgers new
    made_names =
        comes_names t n one two None (outcome.Decided d) desk new log later_log legs
        (record { may = made.may; comes = (refl, made.trace.course); managers = made.trace.managers })

    from_work : HaveSent (Names t IsAny) desk.ledgers final
    from_work =
        have_on desk.ledgers new final (have_as (names_as t (Is n) IsAny (λ k e. tt)) desk.ledgers new made_names)
        (have_as (names_as t (IsFrom (n + 1)) IsAny (λ k e. tt)) new final after)

    -- one of the legs
    module _ (leg : Leg) (of_it : IsOf t n leg.branch.xid) (positive : 1 ≤ leg.branch.m)
        (its : LegWorked leg account (ledger old leg.branch.m) (ledger desk.ledgers leg.branch.m)) where
      abbrev m : ℕ
      m = leg.branch.m

      abbrev pre : List Op
      pre = (ledger old leg.branch.m).sent

      segment : HasSent (Names t (Is n)) (ledger old m) (ledger new m)
      segment = have_on old desk.ledgers new worked_names made_names m positive

      rest : HasSent (Names t (IsFrom (n + 1))) (ledger new m) (ledger final m)
      rest = after m positive

      all_sent : sent s t m ≡ (ledger final m).sent
      all_sent = by_ledger final m (λ (a : LedgerView). a.sent) positive refl

      split : sent s t m ≡ pre ++ (segment.more ++ rest.more)
      split = all_sent ∙ rest.sent ∙ ap (λ l. l ++ rest.more) segment.sent ∙ append_assoc pre segment.more rest.more

      alone : NamedWithin s m leg.branch.xid t (length pre) (length (ledger new m).sent)
      alone =
          named_within s settled told t n m leg.branch.xid low of_it positive pre segment.more rest.more split
          (before m positive) rest.each
          (length (ledger new m).sent) (ap length segment.sent ∙ length-append pre segment.more)

      left_alone : OnlyTheseName leg.branch.xid t (length (ledger desk.ledgers m).sent) (length (ledger new m).sent)
          (history s m)
      left_alone =
          only_these s settled t m (length pre) (length (ledger desk.ledgers m).sent) (length (ledger new m).sent)
          leg.branch.xid alone

      -- what was sent and collected after the work
      since : HasSent (Names t IsAny) (ledger desk.ledgers m) (ledger final m)
      since = from_work m positive

      parted : sent s t m ≡ (pre ++ leg_work leg account) ++ since.more
      parted = all_sent ∙ since.sent ∙ ap (λ l. l ++ since.more) its.sent

      many : length (ledger desk.ledgers m).sent ≡ length pre + 3
      many = ap length its.sent ∙ length-append pre (leg_work leg account)

      there : m ≤ length p.managers.items
      there =
          let size : length (ledger final m).sent ≡ length (ledger desk.ledgers m).sent + length since.more =
          search (arith, since, length-append) in
          let known = known_by final m (let e = many in omega (arith, size, e)) in
          omega (arith, known, managers)

      added : added_before p s t desk.ledgers leg.branch ≡ leg.delta
      added =
          let answered =
          work_answered s settled t m positive leg account (ledger old m) (ledger desk.ledgers m) its
          since.collected in
          leg_adds s settled t m (length (ledger new m).sent) (opening (accounts_of p m)) (opens_with m positive there)
          leg.branch.xid account leg.delta pre since.more
          (length (ledger desk.ledgers m).sent) many parted alone answered.0 answered.1 adds

    both_worked : LegWorked one account (ledger old one.branch.m) (ledger desk.ledgers one.branch.m) × LegWorked two
        account (ledger old two.branch.m) (ledger desk.ledgers two.branch.m)
    both_worked = legs_worked one two account legs.apart old desk.ledgers work

    first_up : 1 ≤ one.branch.m
    first_up = let up = made.may.rising.0 in omega (arith, up)

    second_up : 1 ≤ two.branch.m
    second_up = let up = made.may.rising.0 in let on = made.may.rising.1.0 in omega (arith, up, on)

    both_alone : AreLeftAlone s t (branches_of_legs one two) (sent_so_far desk.ledgers) (sent_so_far new)
    both_alone = search (arith, All-cons, left_alone, first_up, both_worked, second_up, All-nil)

    zero_sum : added_by_all p s t desk.ledgers (branches_of_legs one two) ≡ pos 0
    zero_sum = grind (arith, added, first_up, both_worked, second_up, add_nothing)

    worked_quietly : HaveSent IsNone old desk.ledgers
    worked_quietly = quiet_work account one two old desk.ledgers work

    pub only_decided : list_any ends_in_doubt d.endings.items ≡ false → OnlyTransfers p s t old (pos 0)
        → OnlyTransfers p s t new (pos 0)
    only_decided none only =
        let at_work : OnlyTransfers p s t desk.ledgers (pos 0) =
        worked old desk.ledgers (pos 0) only (grown_by IsNone old desk.ledgers worked_quietly)
        (no_commit old desk.ledgers worked_quietly) in
        let done : OnlyTransfers p s t new (pos 0 +ℤ held_in_doubt p s t desk.ledgers (branches_of_legs one two) d) =
        committed (branches_of_legs one two) desk new log later_log d (pos 0) at_work made both_alone zero_sum in
        rw (undoubted p s t desk.ledgers (branches_of_legs one two) d none) at done

  only_quiet : (old new : List LedgerView) → HaveSent IsNone old new → OnlyTransfers p s t old (pos 0)
      → OnlyTransfers p s t new (pos 0)
  only_quiet old new h only = worked old new (pos 0) only (grown_by IsNone old new h) (no_commit old new h)

  -- ---- a transfer with which its teller died

  -- nothing is wanted of a branch
  abbrev IsAnyBranch : Branch → Type 0
  IsAnyBranch b = Unit {0}

  only_worked : (account : List ℕ) (one two : Leg) (old at : List LedgerView)
      → HaveWorked (changes_of one two account) (branches_of_legs one two) old at
      → OnlyTransfers p s t old (pos 0)
      → OnlyTransfers p s t at (pos 0)
  only_worked account one two old at work only = search (arith, only_quiet, quiet_work)

  -- before it told any branch
  only_untold : (account : List ℕ) (one two : Leg) (old : List LedgerView) (desk : DeskView) (new : List LedgerView)
      (votes : List Code)
      → HaveWorked (changes_of one two account) (branches_of_legs one two) old desk.ledgers
      → HaveAsked AsksLedger PutsLedger (branches_of_legs one two) votes (ledger desk.ledgers) (ledger new)
      → StaysElsewhere (branches_of_legs one two) desk.ledgers new
      → OnlyTransfers p s t old (pos 0) → OnlyTransfers p s t new (pos 0)
  only_untold account one two old desk new votes work asked others only =
      only_quiet desk.ledgers new
      (untold_sent IsNone IsAnyBranch (λ b _. refl) desk.ledgers new (branches_of_legs one two) votes (λ k b lt. tt)
      asked others)
      (only_worked account one two old desk.ledgers work only)

  only_died : (n : ℕ) (account : List ℕ) (one two : Leg) (legs : LegsOf t n one two) (dies : Option Death) (at : Death)
      (known : LastKnown) (old : List LedgerView) (desk : DeskView) (new : List LedgerView) (log later : LogState)
      → HaveWorked (changes_of one two account) (branches_of_legs one two) old desk.ledgers
      → ComesOfCommit (branches_of_legs one two) dies (outcome.Died at known) desk new log later
      → IsClearAt at (endings_known known) → Earlier t n old
      → Later (n + 1) new
      → OnlyTransfers p s t old (pos 0) → OnlyTransfers p s t new (pos 0)
  only_died n account one two legs dies (death.Telling k) known old desk new log later work came clear before after
      only =
      absurd clear
  only_died n account one two legs dies death.Told (known_as.Told done) old desk new log later work came clear before
      after only =
      let made = told_made (branches_of_legs one two) dies desk new log later done came clear.1 in
      only_decided n account one two legs old desk new log later done work made before after clear.0 only
  only_died n account one two legs dies (death.Preparing k) (known_as.Votes vs) old desk new log later work came clear
      before after only =
      only_untold account one two old desk new vs.items work came.comes.1.far.asked came.comes.1.others only
  only_died n account one two legs dies death.Prepared (known_as.Votes vs) old desk new log later work came clear before
      after only =
      only_untold account one two old desk new vs.items work came.comes.1.far.asked came.comes.1.others only
  only_died n account one two legs dies death.Decided (known_as.Decided d vs) old desk new log later work came clear
      before after only =
      only_untold account one two old desk new vs.items work came.comes.1.far.asked came.comes.1.others only
  only_died n account one two legs dies at known old desk new log later work came clear before after only =
      absurd came.comes.1.far

  -- ---- any transfer

  only_quiet_one : (one two : Leg) (old new : List LedgerView) → HaveSent (IsFor (branches_of_legs one two)) old new
      → OnlyTransfers p s t old (pos 0)
      → OnlyTransfers p s t new (pos 0)
  only_quiet_one one two old new h only = only_quiet old new (have_as (λ op f. f.uncommitting) old new h) only

  only_commit : (n : ℕ) (account : List ℕ) (one two : Leg) (legs : LegsOf t n one two) (dies : Option Death)
      (o : CommitOutcome) (old : List LedgerView) (desk : DeskView) (new : List LedgerView) (log later : LogState)
      → HaveWorked (changes_of one two account) (branches_of_legs one two) old desk.ledgers
      → ComesOfCommit (branches_of_legs one two) dies o desk new log later → IsUndoubted (Commit o) → Earlier t n old
      → Later (n + 1) new
      → OnlyTransfers p s t old (pos 0) → OnlyTransfers p s t new (pos 0)
  only_commit n account one two legs dies (outcome.Decided d) old desk new log later work came fine before after only =
      only_decided n account one two legs old desk new log later d work
      (record { may = came.may; trace = record { course = came.comes.1; managers = came.managers } }) before after fine
      only
  only_commit n account one two legs dies (outcome.Died at known) old desk new log later work came fine before after
      only =
      only_died n account one two legs dies at known old desk new log later work came fine before after only
  only_commit n account one two legs dies (outcome.Undecided votes) old desk new log later work came fine before after
      only =
      only_untold account one two old desk new votes.items work came.comes.1.asked came.comes.1.others only

  only_one : {R : LogState → Type 0} (n : ℕ) (tr : Transfer) (habits : Habits) (o : WorkOutcome) (old new : DeskView)
      (log later : LogState)
      → Makes t n tr habits o old new log later R → IsUndoubted o → Earlier t n old.ledgers → Later (n + 1) new.ledgers
      → OnlyTransfers p s t old.ledgers (pos 0)
      → OnlyTransfers p s t new.ledgers (pos 0)
  only_one n tr habits o old new log later
      (with_legs one two left legs (commits desk outcome is begins known work comes) kept read) fine before after only =
      only_commit n tr.account one two (legs_are t n tr one two legs) (death_in habits n) outcome old.ledgers desk
      new.ledgers log left work comes (rw is at fine) before after only
  only_one n tr habits o old new log later (with_legs one two left legs (refused unlogged why h) kept read) fine before
      after only =
      only_quiet_one one two old.ledgers new.ledgers h only
  only_one n tr habits o old new log later (without_legs is none same unlogged) fine before after only =
      search (arith, rules)

  only_next : {R : LogState → Type 0} (n : ℕ) (tr : Transfer) (habits : Habits) (o : WorkOutcome) (old new : DeskView)
      (log later : LogState)
      → MakesNext t n tr habits o old new log later R → IsUndoubted o → Earlier t n old.ledgers
      → Later (n + 1) new.ledgers
      → OnlyTransfers p s t old.ledgers (pos 0)
      → OnlyTransfers p s t new.ledgers (pos 0)
  only_next n tr habits o old new log later next fine before after only =
      let shuts : HaveSent IsShut old.ledgers next.shut.ledgers =
      shut_sent (shut_before habits n) old next.shut next.shuts in
      only_one n tr habits o next.shut new log later next.makes fine
      (earlier_on t n n IsShut old.ledgers next.shut.ledgers (omega arith) (shut_names t (IsBelow n)) before shuts)
      after
      (only_quiet old.ledgers next.shut.ledgers (have_as (λ op is. ap is_commit is) old.ledgers next.shut.ledgers shuts)
      only)

  only_each : (R : LogState → Type 0) (habits : Habits) (n : ℕ) (trs : List Transfer) (os : List WorkOutcome)
      (old new : DeskView) (log later : LogState)
      → MakesEach t habits n trs os old new log later R → All IsUndoubted os → Earlier t n old.ledgers
      → Later (n + length trs) new.ledgers
      → OnlyTransfers p s t old.ledgers (pos 0)
      → OnlyTransfers p s t new.ledgers (pos 0)
  only_each R habits n trs [] old new log later h fine before after only = search (arith, none_made)
  only_each R habits n (tr ∷ trs) (o ∷ os) old new log later (mid, now, makes, rest) fine before after only =
      let later_on : Later (n + 1) mid.ledgers =
      have_on mid.ledgers new.ledgers final (transfers_name R t habits (n + 1) trs os mid new now later rest)
      (have_as (names_as t (IsFrom (n + suc (length trs))) (IsFrom (n + 1)) (λ k le. omega (arith, le))) new.ledgers
      final after) in
      only_each R habits (n + 1) trs os mid new now later rest (All-tail IsUndoubted o os fine)
      (earlier_on t n (n + 1) (Names t (Is n)) old.ledgers mid.ledgers (omega arith)
      (names_as t (Is n) (IsBelow (n + 1)) (λ k e. omega (arith, e))) before
      (next_names t n tr habits o old mid log now makes))
      (subst (λ k. Later k new.ledgers) (let e : n + suc (length trs) ≡ n + 1 + length trs = omega arith in e) after)
      (only_next n tr habits o old mid log now makes (All-head IsUndoubted o os fine) before later_on only)
  only_each R habits n [] (o ∷ os) old new log later h fine before after only = absurd h

  -- ---- all that the thread did

  pub only_transfers : (R : LogState → Type 0) (trs : List Transfer) (habits : Habits) (os : List WorkOutcome)
      (begun last : DeskView) (log later : LogState)
      → begun.thread ≡ t → NothingWasSent begun.ledgers → MakesAll trs habits os begun last log later R
      → All IsUndoubted os
      → HaveSent (λ op. ⊥) last.ledgers final → OnlyTransfers p s t final (pos 0)
  only_transfers R trs habits os begun last log later thread nothing all fine end =
      let opening_ : DeskView = all.opened in
      let makes : MakesEach t habits habits.first trs os opening_ last log later R = search (arith, habits.first) in
      let quiet : HaveSent IsNone begun.ledgers opening_.ledgers =
      search (arith, have_as, begun.ledgers, opening_.ledgers) in
      let before : Earlier t habits.first opening_.ledgers = λ m positive.
      let z = all.opens m positive in
      rw (z.sent ∙ ap (λ l. l ++ z.more) (nothing m positive))
      (All-weaker IsOpenRm (Names t (IsBelow habits.first)) (opens_names t (IsBelow habits.first)) z.more z.each) in
      only_quiet last.ledgers final (have_as (λ op never. absurd never) last.ledgers final end)
      (only_each R habits habits.first trs os opening_ last log later makes fine before
      (have_as (λ op never. absurd never) last.ledgers final end)
      (only_quiet begun.ledgers opening_.ledgers quiet (opened begun.ledgers nothing)))

-- ---- what such a thread names

pub all_told : (R : LogState → Type 0) (s : Settling) (t : ℕ) (trs : List Transfer) (habits : Habits)
    (os : List WorkOutcome) (begun last : DeskView) (log later : LogState)
    → begun.thread ≡ t → NothingWasSent begun.ledgers → MakesAll trs habits os begun last log later R
    → HaveSent (λ op. ⊥) last.ledgers (ledgers_of s t) → (m : ℕ) → 1 ≤ m → All (Names t IsAny) (sent s t m)
all_told R s t trs habits os begun last log later thread nothing all end m positive =
    let final : List LedgerView = ledgers_of s t in
    let makes : MakesEach t habits habits.first trs os all.opened last log later R =
    search (arith, habits.first, all.opened) in
    let z =
    have_on begun.ledgers last.ledgers final
    (have_on begun.ledgers all.opened.ledgers last.ledgers
    (have_as (opens_names t IsAny) begun.ledgers all.opened.ledgers all.opens)
    (have_as (names_as t (IsFrom habits.first) IsAny (λ k e. tt)) all.opened.ledgers last.ledgers
    (transfers_name R t habits habits.first trs os all.opened last log later makes)))
    (have_as (λ op never. absurd never) last.ledgers final end) m positive in
    rw (by_ledger final m (λ (a : LedgerView). a.sent) positive refl ∙ z.sent
    ∙ ap (λ l. l ++ z.more) (nothing m positive)) z.each
