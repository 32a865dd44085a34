-- Where no other line names a commit's branches, nobody else names them in the journals, so its own entries tell what
-- became of them.
use Rattle.xa_base.proofs.{none_all, got_on, map-map, ◌+◌, both_ways, slice_get_within, slice_get-get_or, was_mapped}
use Rattle.xa_base.proofs.{if◌then◌else◌, ◌≡◌, ℕ, ◌⊎◌, inl, inr, zero, suc, ◌<◌, Bool, true, false, List, [], ◌∷◌, ◌++◌}
use Rattle.xa_base.proofs.{length, length-append, Option, Some, None, sym, refl, ap, ◌∙◌, subst, arith, All, slice_get}
use Rattle.xa_base.proofs.{option_map, ◌||◌, map, append_assoc, list_any, map-append, list_any-append, or-false}
use Rattle.xa_base.proofs.{slice_get-map, begins_on, begins_same, next_there, ◌≤◌, get_or, append-nil, cons_option}
use Rattle.xa_base.proofs.{Any-from_list_any, true_from_ne_false, same_begins, cases_lt, rules, ◌≢◌, ◌==◌, ◌&&◌, Result}
use Rattle.xa_base.proofs.{Ok, Err, eq-eqb, or_parts, slice_index_or, some_same, IfOk, All-map, filter-append, cond}
use Rattle.xa_base.proofs.{cases_eq, length-map, all_after, all_unmapped, along, along_all}
use Rattle.xa_tables.specs.Histories as history
use Rattle.script_grammar.specs.declared.step.Action.TheVariants as action
use Rattle.xa_words.specs.{Code, RmFail, Op, Start, Prepare, Listed, Fresh, Request, XidName, Done, xid_eq, check_flags}
use Rattle.xa_words.specs.{Call, Mode, RmOp, Decides-xid_eq, TranName}
use Rattle.laws_fates.proofs.ShutLaw.{shut_stays, next-shut}
use Rattle.laws_tables.proofs.UnnamedLaw.{tables_after-append}
use Rattle.xa_tables.specs.{State, reason_in, decision_in, TablesAndCode, next, by_rules, Tables, History}
use Rattle.xa_tables.specs.{HeuristicDecision, state_of, Fate, decided_fate, fate, tables_after, is_heur, names}
use Rattle.xa_tables.specs.{of_thread}
use Rattle.xa_desk.specs.{is_rm_fail, numbered}
use Rattle.xa_worker.specs.{Entry, codes_in, requests}
use Rattle.std.proofs.lemmas.List.Folds.{list_any-from_Any}
use Rattle.xa_base.specs.{Begins, Chain}
use Rattle.xa_switch.specs.{Settling, IsSettled, IsOpenedWith, answers, collected, history as history_of, journal, sent}
use Rattle.xa_driver.specs.{Branch, Ending, AtBranch, VotesAndObeys, second_op, third_op}
use Rattle.laws_commit.specs.{Tabled, IsDecidedAfter, OnlyTheseOrDecisionsName, OnlyTheseName, AreLeftAlone}
use Rattle.xa_calls.proofs.Morphisms.{Morphism}
use Rattle.xa_driver.proofs.Mapped.{Any, any_asked, branch_mapped, obeys_mapped}
use Rattle.laws_commit.proofs.Sites.{asks, later_place, below, StandsIn, Sent, AsksIn, withholds, stands_by, Site}
use Rattle.laws_commit.proofs.Sites.{above, request_of, fates, all_earlier, own_sent, all_later, sides}
use Rattle.laws_commit.proofs.Settled.{site_of}
use Rattle.laws_transcript.specs.{next_entry, entries_of, CarriesOut, in_xa, outside_xa, wanted, wanted_by, Part}
use Rattle.laws_transcript.specs.{CallTakes, Line, TaskTakes, TakesPart, Beginning, ToldOpening, TellsOf, part_at}
use Rattle.laws_transcript.specs.{entered_so_far}
use Rattle.laws_transcript.specs.Commits.CarriesOut.{carried, withheld}
use Rattle.laws_transcript.proofs.Entries.{requests_kept, Fits, agreed_fits, is_rm_fail_so, pair_of}
use Rattle.laws_commit.proofs.Fated.{decided_in}
use Rattle.laws_commit.proofs.Guided.{IsGuided, at_last, decided_known, fates_from, voted_now, once}
use Rattle.laws_commit.proofs.Leading.{Stands, over, unforgotten, waits}
use Rattle.xa_base.specs.Lists.Chain.{more as one_step}
use Rattle.xa_calls.specs.Asking.{◌>>=◌}
use Rattle.xa_calls.specs.{Asked as WantedOp, op_by, asked_of, rm_op, Recovers, RecoversBy}
use Rattle.xa_calls.specs.Scans.{Asking}
use Rattle.xa_scan.specs.{ScanView, left_at}
use Rattle.script_grammar.specs.{ScriptCall, ScriptCalled, ScriptAction, CommitAll, Content}
use Rattle.script_transcript.specs.{Answer as Answered}
use Rattle.laws_transcript.specs.Wants.Wanted.{code_of, handle_for}
use Rattle.laws_shown.proofs.Adds.{Adds, TaskSo, adds_both, adds_none, op_in, takes_add}
use Rattle.laws_commit.proofs.CutSends.{Unnamed, second_unnamed, outcome_unnamed, third_unnamed}
use Rattle.laws_shown.specs.{branches_by, is_branch_among, names_it, LinePlace, AreNamedByNoOther, NamesNone}
use Rattle.script_session.specs.{branches_of}

-- the code isn't XAER_RMFAIL
record Tells (a : TablesAndCode) : Type 0 where
  code : is_rm_fail a.1 ≡ false

says : (T : Tables) (c : Code) → is_rm_fail c ≡ false → Tells (T, c)
says T c e = record { code = e }

cases : (b : Bool) (p q : TablesAndCode) → Tells p → Tells q → Tells (if b then p else q)
cases true p q one two = one
cases false p q one two = two

reason_tells : (o : Option State) → is_rm_fail (reason_in o) ≡ false
reason_tells o = grind arith

decision_tells : (o : Option State) → is_rm_fail (decision_in o) ≡ false
decision_tells o = grind arith

rules_tell : (t : ℕ) (op : Op) (T : Tables) → Tells (by_rules t op T)
rules_tell t (Start x Fresh) T = search (arith, cases, says)
rules_tell t (Listed None) T = says _ _ refl
rules_tell t op T = search (arith, cases, says, reason_tells, decision_tells)

open_tells : (t : ℕ) (op : Op) (T : Tables) → T.shut ≡ false → Tells (next t op T)
unfolding next
open_tells t op T open_ = search (arith, cases, says, rules_tell)

-- so the code comes from a manager that is shut
pub shut_so : (t : ℕ) (op : Op) (T : Tables) → (next t op T).1 ≡ RmFail → T.shut ≡ true
shut_so t op T fails =
    true_from_ne_false (T.shut)
    (λ open_. both_ways (is_rm_fail (next t op T).1) (open_tells t op T open_).code (ap is_rm_fail fails))

-- and all that comes after it has it too
fails_after : {t : ℕ} {T : Tables} {H : History} (site : Site t T H) (j n : ℕ) (o op : Op) (c : Code) → j < n
    → StandsIn t j o RmFail T H
    → StandsIn t n op c T H → c ≡ RmFail
fails_after {t} {T} {H} site j n o op c lt f g =
    let U : Tables = tables_after f.before T in
    let z =
    later_place t f.before g.before (request_of t j o) (request_of t n op) f.after g.after (sym f.place ∙ g.place) refl
    lt (below site j o f.before f.after f.place) in
    let shut : U.shut ≡ true = shut_so t o U (sym f.code) in
    let there : tables_after g.before T ≡ U =
    ap (λ (h : History). tables_after h T) z.before ∙ tables_after-append f.before (request_of t j o ∷ z.mid) T
    ∙ shut_stays (request_of t j o ∷ z.mid) U shut in
    g.code ∙ ap (λ (V : Tables). (next t op V).1) there ∙ ap (λ (a : TablesAndCode). a.1) (next-shut t op U shut)

-- how many entries there are, and whether one has XAER_RMFAIL
abbrev pub entered : List Entry → Sent
entered es = record { number = length es; shut = list_any is_rm_fail (codes_in es) }

entered_more : (old : List Entry) (e : Entry)
    → entered
    (old ++ e ∷ []) ≡ record {
      number = suc (length old);
      shut = list_any is_rm_fail (codes_in old) || is_rm_fail e.1;
    }
entered_more old e = search (arith, length-append, list_any, map-append, list_any-append, or-false)

-- the requests of a thread, and their ops
ops_numbered : (t n : ℕ) (ops : List Op) → map (λ (r : Request). r.op) (numbered t n ops) ≡ ops
ops_numbered t n [] = refl
ops_numbered t n (o ∷ ops) = ap (λ l. o ∷ l) (ops_numbered t (suc n) ops)

number_there : (t n : ℕ) (ops : List Op) (k : ℕ) (r : Request) → slice_get (numbered t n ops) k ≡ Some r
    → r.number ≡ n + k
number_there t n [] k r e = absurd (cc)
number_there t n (o ∷ ops) zero r e =
    let number : n ≡ r.number = (let same : request_of t n o ≡ r = cc in ap (λ (q : Request). q.number) same) in
    omega (arith, number)
number_there t n (o ∷ ops) (suc k) r e = let z = number_there t (suc n) ops k r e in omega (arith, z)

abbrev pub op_of : Entry → Op
op_of e = e.0.op

-- what a thread has sent to a manager, by its entries
pub ops_are : (s : Settling) → IsSettled s → (t m : ℕ) → sent s t m ≡ map op_of (entries_of t (journal s m))
ops_are s settled t m =
    sym (ops_numbered t 0 (sent s t m))
    ∙ ap (map (λ (r : Request). r.op)) (sym (settled.agree t m).carried ∙ requests_kept t (journal s m))
    ∙ map-map (λ (r : Request). r.op) (λ (e : Entry). e.0) (entries_of t (journal s m))

pub carry_begins : (t : ℕ) (old new : List Entry) (op : Op) (c : Code) → CarriesOut t old op new c → Begins old new
carry_begins t old new op c (carried is) = (next_entry t old op c ∷ [], is)
carry_begins t old new op c (withheld fails shut same) = begins_same old new same

-- in a journal that follows the tables
module _ (law : Tabled) (s : Settling) (settled : IsSettled s) (t m : ℕ) (T : Tables)
    (with_T : IsOpenedWith s m T) where
  abbrev es : List Entry
  es = entries_of t (journal s m)

  -- an entry of the thread stands in the history
  pub entry_at : (n : ℕ) (e : Entry) → slice_get es n ≡ Some e → StandsIn t n (op_of e) e.1 T (history_of s m)
  entry_at n e at =
      let fits : Fits t (sent s t m) (collected s t m) es =
      agreed_fits t (sent s t m) (collected s t m) (journal s m) (settled.agree t m) in
      let request : slice_get (numbered t 0 (sent s t m)) n ≡ Some e.0 =
      ap (λ l. slice_get l n) (sym fits.carried) ∙ slice_get-map (λ (d : Entry). d.0) es n
      ∙ ap (option_map (λ (d : Entry). d.0)) at in
      let number : e.0.number ≡ n = let z = number_there t 0 (sent s t m) n e.0 request in omega (arith, z) in
      stands_by (site_of law s settled t m T with_T) n (op_of e) e.1
      (ap (λ l. slice_get l n) (ops_are s settled t m) ∙ slice_get-map op_of es n ∙ ap (option_map op_of) at)
      (ap (λ (l : List Entry). slice_get (answers t l) n) (sym with_T.codes) ∙ slice_get-map pair_of es n
      ∙ ap (option_map pair_of) at ∙ ap (λ k. Some (k, e.1)) number)

  -- after one with XAER_RMFAIL
  fails_then : (old rest : List Entry) (e : Entry) → es ≡ old ++ e ∷ rest → list_any is_rm_fail (codes_in old) ≡ true
      → e.1 ≡ RmFail
  fails_then old rest e place shut =
      let (k, c, below, at, fails) = Any-from_list_any is_rm_fail (codes_in old) shut in
      let w = was_mapped (λ (d : Entry). d.1) old k c (slice_get-get_or (codes_in old) k c below ∙ ap Some at) in
      let there : slice_get es k ≡ Some w.0 = ap (λ l. slice_get l k) place ∙ got_on old (e ∷ rest) k w.0 w.1 in
      fails_after (site_of law s settled t m T with_T) k (length old) (op_of w.0) (op_of e) e.1
      (slice_get_within old k w.0 w.1)
      (rw (w.2 ∙ is_rm_fail_so c fails) at (entry_at k w.0 there))
      (entry_at (length old) e (next_there es old rest e (sym place)))

  asked_so : (old new : List Entry) (op : Op) (c : Code) → CarriesOut t old op new c → Begins new es
      → AsksIn t T (history_of s m) (entered old) op (entered new) c
  asked_so old new op c (carried is) grown =
      let e : Entry = next_entry t old op c in
      let place : es ≡ old ++ e ∷ grown.0 = grown.1 ∙ ap (λ l. l ++ grown.0) is ∙ append_assoc old (e ∷ []) grown.0 in
      asks (entry_at (length old) e (next_there es old grown.0 e (sym place))) (fails_then old grown.0 e place)
      (ap entered is ∙ entered_more old e)
  asked_so old new op c (withheld fails shut same) grown =
      withholds (list_any-from_Any is_rm_fail (codes_in old) (shut.0, RmFail, shut.1, shut.2, refl)) fails
      (ap entered same)

  entered_over : Morphism Any (CarriesOut t) (AsksIn t T (history_of s m)) entered (λ l. Unit {0}) (λ l. Begins l es)
  entered_over = record {
    each = λ old new op c _ is. record {
      on = λ q. q;
      back = begins_on old new es (carry_begins t old new op c is);
      over = λ _ grown. asked_so old new op c is grown;
    };
  }

  pub branch_entered : (commit : Bool) (b : Branch) (v : Code) (z : Option Code) (e : Ending) (old new : List Entry)
      → AtBranch (CarriesOut t) commit b v z e old new → Begins new es
      → AtBranch (AsksIn t T (history_of s m)) commit b v z e (entered old) (entered new)
  branch_entered commit b v z e old new is grown =
      (branch_mapped entered_over commit b v z e old new is (any_asked (second_op commit b.xid v))
      (any_asked (third_op b.xid z)) tt).over tt grown

  pub obeys_entered : (commit : Bool) (b : Branch) (v : Code) (z : Option Code) (e : Ending) (old new : List Entry)
      → VotesAndObeys (CarriesOut t) commit b v z e old new → Begins new es
      → VotesAndObeys (AsksIn t T (history_of s m)) commit b v z e (entered old) (entered new)
  obeys_entered commit b v z e old new is grown =
      (obeys_mapped entered_over commit b v z e old new tt (any_asked (second_op commit b.xid v)) is).over tt grown

-- what became of a branch that nobody but its commit named, unless in heuristic decisions
module _ {t : ℕ} {T : Tables} {H : History} (site : Site t T H) (x : XidName) (n last : ℕ)
    (only : OnlyTheseOrDecisionsName x t n last H)
    (f : StandsIn t n (Prepare x) Done T H) (limit : last ≤ suc n) where
  heuristics_after : All (λ q. names x q.op ≡ true → is_heur q.op ≡ true) f.after
  heuristics_after k d lt named =
      true_from_ne_false (is_heur (get_or f.after k d).op) (λ other.
      let between = only f.before f.after (request_of t n (Prepare x)) f.place refl refl k d lt named other in
      let up = above site n (Prepare x) f.before f.after f.place k d lt between.thread in
      let down = between.below in omega (arith, up, down, limit))

  guide : (commit : Bool) → All (λ r. IsGuided commit ⊥ x r.op) f.after
  guide commit k d lt named plain = absurd (let z : true ≡ false = sym (heuristics_after k d lt named) ∙ plain in cc)

  abbrev StandsAs : Bool → Fate → Type 0
  StandsAs commit f0 = Stands commit true (Unit {0}) ⊥ (state_of (tables_after H T) x) (fate x f0 H T)

  stands_as : (commit : Bool) (f0 : Fate) → StandsAs commit f0
  stands_as commit f0 = (at_last site commit (Unit {0}) ⊥ f (guide commit) tt f0).stands

  by_fate : (f0 : Fate) (d : HeuristicDecision) → fate x f0 H T ≡ decided_fate d → IsDecidedAfter x t n T H
  by_fate f0 d is =
      let now : Tables = (next t (Prepare x) (tables_after f.before T)).0 in
      let all : history.InDoubt ∷ fates x f.after now ≡ history.InDoubt ∷ once (fate x f0 H T) =
      ap (λ o. cons_option o (fates x f.after now)) (sym (voted_now site true (Unit {0}) ⊥ f (guide true)))
      ∙ fates_from site true (Unit {0}) ⊥ f (guide true) tt f0 in
      let tail : fates x f.after now ≡ once (fate x f0 H T) = cc in
      let one : once (fate x f0 H T) ≡ decided_fate d ∷ [] =
      ap once is ∙ ap (λ b. if b then [] else decided_fate d ∷ []) (decided_known d) in
      decided_in f f.after [] (sym (append-nil f.after)) heuristics_after d (tail ∙ one)

  -- it is in doubt, or such a decision is its fate
  abbrev pub Became : Fate → Type 0
  Became g = (g ≡ history.InDoubt) ⊎ ((d : HeuristicDecision) × ((g ≡ decided_fate d) × IsDecidedAfter x t n T H))

  pub doubt_or_decided : (f0 : Fate) → Became (fate x f0 H T)
  doubt_or_decided f0 = either (stands_as true f0) (stands_as false f0)
    where
      either : StandsAs true f0 → StandsAs false f0 → Became (fate x f0 H T)
      either (waits y o e g) on_abort = inl g
      either (unforgotten d e g l) on_abort = inr (d, (g, by_fate f0 d g))
      either (over e (inr z)) on_abort = absurd z.1.1
      either (over e (inl z)) (waits y o is g) = inl g
      either (over e (inl z)) (unforgotten d is g l) = inr (d, (g, by_fate f0 d g))
      either (over e (inl z)) (over is (inr w)) = absurd w.1.1
      either (over e (inl z)) (over is (inl w)) =
          absurd (let q : history.Committed ≡ history.RolledBack = sym z.1 ∙ w.1 in cc)

-- ---- what is added

-- entries are added, and none of them names the branch
abbrev pub AddsUnnamed : XidName → List Entry → List Entry → Type 0
AddsUnnamed x = Adds (Unnamed x)

-- ---- a call

-- the op of a call names no branch but the call's own
op_names : (c : Call) (x : Option XidName) (y : XidName) (m : Mode) → ((z : XidName) → x ≡ Some z → xid_eq z y ≡ false)
    → IfOk (op_by c x m) (λ o. names y o ≡ false)
op_names c x y m apart = search (arith, apart)

-- what holds of an op that is wanted
wanted_so : (P : Op → Type 0) (r : Result WantedOp Code) (o : Op) → IfOk r (λ a. P a.op)
    → op_in (wanted r (λ asked. asked.op) (λ asked. asked.asynchronous)) ≡ Some o → P o
wanted_so P (Ok a) o so e = subst P (one a.asynchronous e) so
  where
    one : (b : Bool) → op_in (if b then handle_for a.op else code_of a.op) ≡ Some o → a.op ≡ o
    one true e = cc
    one false e = cc
wanted_so P (Err why) o so e = absurd (cc)

bound : {A B E : Type 0} (P : B → Type 0) (r : Result A E) (f : A → Result B E) → ((a : A) → r ≡ Ok a → IfOk (f a) P)
    → IfOk (r >>= f) P
bound P (Ok a) f so = so a refl
bound P (Err why) f so = tt

xa_names : (c : Call) (x : Option XidName) (f : ℕ) (y : XidName) (o : Op)
    → ((z : XidName) → x ≡ Some z → xid_eq z y ≡ false) → op_in (in_xa c x f) ≡ Some o
    → names y o ≡ false
xa_names c x f y o apart e =
    let N : Op → Type 0 = λ p. names y p ≡ false in
    let A : WantedOp → Type 0 = λ a. names y a.op ≡ false in
    wanted_so N (asked_of c x f) o
    (bound A (check_flags c f) _ (λ m _. bound A (op_by c x m) _ (λ p is. rw is at (op_names c x y m apart)))) e

op_native : (r : RmOp) (f : ℕ) (o : Op) → op_in (outside_xa r f) ≡ Some o → rm_op r ≡ o
op_native r f o e = search (arith, wanted_so)

-- ---- what a task puts into the journals

-- one branch isn't the other, though both are at one manager
apart : (b : Branch) (m : ℕ) (x : XidName) → m ≡ b.m → ((m == b.m) && xid_eq x b.xid) ≡ false → xid_eq x b.xid ≡ false
apart b m x same none = sym (ap (λ q. q && xid_eq x b.xid) (eq-eqb m b.m same)) ∙ none

by_call : (a : ScriptCall) (m f : ℕ) (b : Branch) (o : Op) → op_in (wanted_by a f) ≡ Some o → m ≡ b.m
    → is_branch_among b (branches_by m a) ≡ false
    → names b.xid o ≡ false
by_call a m f b o e same quiet = search (arith, xa_names, some_same, apart, or_parts, op_native)

-- ---- what a thread's scans have as left

module _ (asking : Asking Part) (m : ℕ) (old : Part) (z : ScanView) (xids : List XidName) (new : Part) (z' : ScanView)
    (xids' : List XidName) where
  recovers_leave : (mode : Mode) (place : ℕ) (r : Result ℕ Code)
      → Recovers asking m mode place old z xids new z' xids' r → z'.left ≡ z.left
  recovers_leave mode place r h = search (arith, rules)

  by_leave : (there : Bool) (mode : Result Mode Code) (r : Result ℕ Code)
      → RecoversBy asking there mode m old z xids new z' xids' r → z'.left ≡ z.left
  by_leave there mode r is = search (arith, recovers_leave)

call_leaves : (settled : Settling) (t : ℕ) (q : ScriptCalled) (a : Answered) (old new : Part)
    → CallTakes settled t q a old new → new.scan.left ≡ old.scan.left
call_leaves settled t q a old new h = search (arith, by_leave)

takes_leaves : (settled : Settling) (x : ScriptAction) (t : ℕ) (a : Answered) (old new : Part)
    → TaskTakes settled x t a old new → new.scan.left ≡ old.scan.left
takes_leaves settled (action.Call q) t a old new is = call_leaves settled t q a old new is
takes_leaves settled (action.CommitAll c) t a old new is = search (arith, rules)
takes_leaves settled action.Resolve t a old new is = search (arith, rules)

-- line by line
pub lines_leave : (settled : Settling) (first : Part) (ls : List Line) (last : Part)
    → Chain (TakesPart settled) first ls last
    → last.scan.left ≡ first.scan.left
lines_leave settled first ls last runs =
    along (λ (p : Part). p.scan.left ≡ first.scan.left) first ls last runs
    (λ x now next step same. takes_leaves settled x.task.action x.task.thread x.answer now next step ∙ same) refl

-- another xid
differs_so : (x y : XidName) → xid_eq y x ≡ false → y ≢ x
differs_so x y e same = let z : true ≡ false = sym ((Decides-xid_eq y x).1 same) ∙ e in cc

module _ (settled : Settling) (b : Branch) where
  -- what doesn't name the branch asks its manager for nothing that does
  task_unnamed : (z : ScanView) (x : ScriptAction) → names_it z b x ≡ false → TaskSo (Unnamed b.xid) (λ x. refl) b.m z x
  task_unnamed z (action.Call q) quiet = λ here o asks. by_call q.call q.manager q.flags b o asks here quiet
  task_unnamed z (action.CommitAll c) quiet = search (arith, apart, none_all, second_unnamed, differs_so, third_unnamed)
  task_unnamed z action.Resolve quiet = search (arith, none_all, outcome_unnamed, differs_so)

  -- a thread's scans have as left what they had at first
  abbrev Same : ScanView → Part → Type 0
  Same z p = p.scan.left ≡ z.left

  left_same : (m : ℕ) (y z : ScanView) → y.left ≡ z.left → left_at y m ≡ left_at z m
  left_same m y z e = search (arith, slice_index_or)

  -- what names it doesn't depend on where the scans stand
  names_same : (y z : ScanView) (x : ScriptAction) → y.left ≡ z.left → names_it z b x ≡ false → names_it y b x ≡ false
  names_same y z x same quiet = search (arith, list_any, left_same)

  -- so lines that don't name it
  pub lines_unnamed : (z : ScanView) (first : Part) (ls : List Line) (last : Part)
      → Chain (TakesPart settled) first ls last → Same z first
      → All (λ l. names_it z b l.task.action ≡ false) ls → (AddsUnnamed b.xid) (first.entries b.m) (last.entries b.m)
  lines_unnamed z first ls last runs same quiet =
      (along_all (λ (l : Line). names_it z b l.task.action ≡ false)
      (λ p. Same z p × AddsUnnamed b.xid (first.entries b.m) (p.entries b.m)) first ls last runs quiet
      (λ x now next still step so_far. (
        takes_leaves settled x.task.action x.task.thread x.answer now next step ∙ so_far.0,
        adds_both (Unnamed b.xid) (first.entries b.m) (now.entries b.m) (next.entries b.m) so_far.1
            (takes_add (Unnamed b.xid) (λ x. refl) b.m settled x.task.action x.task.thread x.answer now next
            (task_unnamed now.scan x.task.action (names_same now.scan z x.task.action so_far.0 still)) step),
      )) (same, adds_none (Unnamed b.xid) (first.entries b.m) (first.entries b.m) refl)).1

-- ---- one manager

module _ (s : Settling) (settled : IsSettled s) (m : ℕ) where
  abbrev J : List Entry
  J = journal s m

  abbrev H : History
  H = requests J

  -- a thread whose entries don't name the branch from some on
  thread_quiet : (u : ℕ) (x : XidName) (old : List Entry) → AddsUnnamed x old (entries_of u J)
      → All (λ (r : Request). r.thread ≡ u → length old ≤ r.number → names x r.op ≡ false) H
  thread_quiet u x old (more, grown, quiet) k d lt own from =
      let P : Op → Type 0 = λ o. names x o ≡ false in
      let ops : List Op = sent s u m in
      let up = all_earlier u H 0 ops (settled.agree u m).carried k d lt own in
      own_sent u P H ops (map op_of old) ops (map op_of more) (settled.agree u m).carried (same_begins ops)
      (ops_are s settled u m ∙ ap (map op_of) grown ∙ map-append op_of old more) (All-map P op_of more quiet) k d lt own
      (omega (arith, from, length-map old op_of)) (omega (arith, up))

  -- the branch is named by thread t alone, and that only up to where no more of its entries do
  only_these : (t : ℕ) (x : XidName) (first : ℕ) (new : List Entry) → AddsUnnamed x new (entries_of t J)
      → ((u : ℕ) → u ≢ t → AddsUnnamed x [] (entries_of u J)) → OnlyTheseName x t first (length new) H
  only_these t x first new own others before after r place thread number k d lt named =
      let q : Request = get_or after k d in
      let quiet : (u : ℕ) (old : List Entry) → AddsUnnamed x old (entries_of u J) → q.thread ≡ u → length old ≤ q.number
      → ⊥ = λ u old adds of_u from.
      both_ways (names x q.op)
      (all_after (λ (p : Request). p.thread ≡ u → length old ≤ p.number → names x p.op ≡ false) before r after
      (rw place at (thread_quiet u x old adds)) k d lt of_u from) named in
      elim (cases_eq q.thread t) [
        | inr differs ↦ absurd (quiet q.thread [] (others q.thread differs) refl (omega arith))
        | inl same ↦
            let own_r : r ≡ request_of t r.number r.op =
            λ i. record { thread = thread i; number = r.number; op = r.op } in
            let parts : of_thread t before ++ request_of t r.number r.op ∷ of_thread t after ≡ numbered t 0
            (sent s t m) =
            sym (ap (of_thread t) (place ∙ ap (λ p. before ++ p ∷ after) own_r)
            ∙ filter-append (λ (p : Request). p.thread == t) before (request_of t r.number r.op ∷ after)
            ∙ ap
            (λ b. of_thread t before ++ cond b (request_of t r.number r.op ∷ of_thread t after) (of_thread t after))
            (eq-eqb t t refl)) ∙ (settled.agree t m).carried in
            let z = sides t r.number r.op (of_thread t before) (of_thread t after) 0 (sent s t m) parts in
            let above = all_later t after (suc r.number) z.post z.later k d lt same in
            record {
              thread = same;
              from = omega (arith, above, number);
              below = elim (cases_lt q.number (length new))
                  [ inl low ↦ low | inr from ↦ absurd (quiet t new own same from) ];
            }
      ]

-- ---- all branches

pub left_alone : (s : Content) (beg : Beginning) (o : ToldOpening) (tells : TellsOf s beg o) (c : CommitAll TranName)
    (before : List Line) (l : Line) (after : List Line) (old new : Part)
    → LinePlace (tells.carried l.task.thread) before l after old new
    → AreNamedByNoOther o.steps beg.scans l.task.thread (branches_of c) after
    → AreLeftAlone o.settled l.task.thread (branches_of c) (entered_so_far old) (entered_so_far new)
left_alone s beg o tells c before l after old new place named =
    let t : ℕ = l.task.thread in
    record {
      each = λ k d lt.
          let b : Branch = get_or (branches_of c) k d in
          only_these o.settled tells.agree b.m t b.xid (length (old.entries b.m)) (new.entries b.m)
          (lines_unnamed o.settled b (beg.scans t) new after _ place.later
          (lines_leave o.settled (part_at beg t) (before ++ l ∷ []) new
          (one_step before l old new place.earlier place.takes)) (λ j e below. named.later j e below k d lt))
          (λ u differs.
          let told = tells.carried u in
          let quiet : All (λ (l : Line). NamesNone (beg.scans u) (branches_of c) l.task) told.lines =
          all_unmapped (λ (l : Line). l.task) (NamesNone (beg.scans u) (branches_of c)) told.lines
          (rw told.tasks (named.threads u differs)) in
          lines_unnamed o.settled b (beg.scans u) (part_at beg u) told.lines _ told.carried refl
          (λ j e below. quiet j e below k d lt));
    }
