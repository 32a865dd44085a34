-- What a line of a commit shows of its branches became of them, and stands in the journals.
use Rattle.xa_base.proofs.{none_all, both_ways, true_from_ne_false, arith, rules, ◌≡◌, ℕ, Bool, true, false, ◌||◌, List}
use Rattle.xa_base.proofs.{[], Option, sym, refl, ap, ◌∙◌, slice_index_or, All, list_any, ◌&&◌, None, get_or, Global}
use Rattle.xa_base.proofs.{Vec, ◌⊎◌, inl, inr, is_some, not, or-true, and_parts, drop, drop-cons, take}
use Rattle.xa_base.proofs.{take-append-drop, at_true, not-true, eq-eqb, pos, ◌∷◌, ◌++◌, length, Some, zero, suc, ◌<◌}
use Rattle.xa_base.proofs.{slice_get, Contains, filter, Contains-append_left, All-contains, all_at, some_same}
use Rattle.xa_base.proofs.{Contains-push, All-filter}
use Rattle.xa_words.specs.declared.death.Death.TheVariants as death
use Rattle.xa_driver.specs.declared.done.CommitOutcome.TheVariants as outcome
use Rattle.xa_driver.specs.declared.done.LastKnown.TheVariants as known_as
use Rattle.script_transcript.specs.declared.answer.Answer.TheVariants as answer
use Rattle.laws_commit.specs.{OnlyTheseName, OnlyTheseOrDecisionsName, AreLeftAlone, AreLeftOrDecided, EachOutcome}
use Rattle.laws_commit.specs.{ends_rolled_back, ends_in_doubt, ends_heuristic, ends_left, ends_read_only, Tabled}
use Rattle.laws_commit.specs.{is_recorded, is_rollback}
use Rattle.laws_commit.specs.Outcomes.{ends_committed}
use Rattle.xa_words.specs.{Code, TranName, Death, Op, Done, Prepare, Commit, Forget, XidName, is_done}
use Rattle.xa_tables.specs.{Tables}
use Rattle.xa_switch.specs.{Settling, IsSettled, journal, IsOpenedWith, history as history_of}
use Rattle.xa_driver.specs.{Branch, CommitOutcome, Done as Outcome, Ending, LastKnown, is_no, ending_of, AtBranch}
use Rattle.xa_driver.specs.{is_commit, CameTo, IsDecidedBy, Putting, VotesAndObeys, decides_commit, comes_to_commit}
use Rattle.xa_driver.specs.{endings_known, knows_commit, votes_known, has_yes, EachBranch, decision_of, second_op}
use Rattle.xa_driver.specs.{third_op, yes_ending, Committed, is_yes}
use Rattle.xa_driver.specs.Trace.{Commits}
use Rattle.laws_commit.proofs.Courses.{course_of, yes_is}
use Rattle.laws_commit.proofs.OneOutcome.{none_end, unvoted, not_rolled_back, uncommitted, IsNoCommit, second_so}
use Rattle.laws_commit.proofs.OneOutcome.{third_so}
use Rattle.laws_commit.proofs.Settled.{outcome_ends, each_whole, Both, Fated, InHistory, one_both, one_fated}
use Rattle.laws_commit.proofs.Settled.{outcome_map, each_outcome, site_of}
use Rattle.script_session.specs.{branches_of, named}
use Rattle.script_grammar.specs.{CommitAll, ScriptStep, ScriptCalled}
use Rattle.script_transcript.specs.{TranscriptLine, Answer, Called as shown}
use Rattle.laws_transcript.specs.{Part, CarriesOut, Line, TakesPart, AreCarriedOut, entries_of, CarriesOutSome}
use Rattle.laws_transcript.specs.{TakesCommit, wanted_in, refusals, next_entry, CallTakes, CommitTakes, IsInJournal}
use Rattle.laws_transcript.specs.{IsCarriedOut, ShowsCommit, AreCommitted, ArePrepared, AddsNone, entered_so_far}
use Rattle.laws_shown.specs.{IsOneOutcome, ShowsOneOutcome, IsAsShown, CountsAsShown, IsShownByTheRecord}
use Rattle.laws_shown.proofs.Adds.{adds_no, Adds, commit_adds, place_adds, places, carries_adds}
use Rattle.laws_shown.proofs.Became.{entered, branch_entered}
use Rattle.xa_calls.proofs.Morphisms.{Keeps, keeps}
use Rattle.xa_driver.proofs.Mapped.{Any, IsAskedFor, VotesAre, any_asked, for_mapped, rest_mapped}
use Rattle.xa_calls.specs.Scans.{Asking}
use Rattle.xa_log.specs.{LogState, record_of}
use Rattle.laws_commit.proofs.CutSends.{NotToCommit, decided_so as logged_so, no_commit_so, no_rollback_so}
use Rattle.laws_commit.proofs.CutSends.{undecided_so}
use Rattle.std.proofs.lemmas.List.Elements.{All-contains_itself}
use Rattle.xa_words.specs.CodeNumbers.{number_of}
use Rattle.xa_desk.specs.{is_rm_fail}
use Rattle.xa_worker.specs.{Entry, entry}
use Rattle.laws_transcript.specs.Wants.Wanted.{code_of, handle_for, completion, listing}
use Rattle.laws_transcript.specs.Parts.CallTakes.{answered, kept, refused, completes, lists}
use Rattle.laws_transcript.specs.Commits.CarriesOut.{carried, withheld}
use Rattle.laws_transcript.specs.Commits.CommitTakes.{refused as takes_none, commits}

-- ---- codes

done_is : (c : Code) → number_of c ≡ pos 0 → c ≡ Done
done_is c e = grind arith

no_refusal : (c : Code) → Contains (refusals false) c → c ≡ Done → ⊥
no_refusal c among e =
    both_ways (is_done c)
    (All-contains (λ d. is_done d ≡ false) (refusals false) c (none_all is_done (refusals false) refl) among)
    (ap is_done e)

-- ---- entries

-- an entry of thread t with this op and this code
abbrev HasEntry : ℕ → Op → Code → List Entry → Type 0
HasEntry t o c es = (n : ℕ) × Contains es (entry (record { thread = t; number = n; op = o }) c)

put_there : (t : ℕ) (o : Op) (c : Code) (old new : List Entry) → new ≡ old ++ next_entry t old o c ∷ []
    → HasEntry t o c new
put_there t o c old new is = (length old, rw is (Contains-push old (next_entry t old o c)))

still_has : (t : ℕ) (o : Op) (c : Code) (old new : List Entry) → Adds Any old new → HasEntry t o c old
    → HasEntry t o c new
still_has t o c old new a has =
    (has.0, rw a.1 (Contains-append_left old a.0 (entry (record { thread = t; number = has.0; op = o }) c) has.1))

-- ---- a call

-- the entries of a call's own manager, once it has answered XA_OK
one_entered : (settled : Settling) (t : ℕ) (q : ScriptCalled) (a : Answer) (old new : Part)
    → CallTakes settled t q a old new → (o : Op)
    → wanted_in q ≡ code_of o → a ≡ shown (pos 0) → HasEntry t o Done (new.entries q.manager)
one_entered settled t q a old new (answered r c asks told is) o asked ok =
    let own : code_of r ≡ code_of o = sym asks ∙ asked in
    let same : r ≡ o = cc in
    let code : c ≡ Done = done_is c (let e : shown (number_of c) ≡ shown (pos 0) = sym told ∙ ok in cc) in
    let m = q.manager in
    let here : new.entries m ≡ old.entries m ++ next_entry t (old.entries m) r c ∷ [] =
    search (arith, at_true, eq-eqb, old.entries) in
    rw (same, code) at (put_there t r c (old.entries m) (new.entries m) here)
one_entered settled t q a old new (refused c is told same) o asked ok = search (arith, no_refusal, done_is)
one_entered settled t q a old new (kept r c k asks low told free is) o asked ok =
    absurd (let e : handle_for r ≡ code_of o = sym asks ∙ asked in cc)
one_entered settled t q a old new (lists n asks is) o asked ok =
    absurd (let e : listing n ≡ code_of o = sym asks ∙ asked in cc)
one_entered settled t q a old new (completes r k c asks there code told same) o asked ok =
    absurd (let e : completion ≡ code_of o = sym asks ∙ asked in cc)

-- ---- a branch

-- what was asked and answered another code than XAER_RMFAIL was carried out
carried_out : (t : ℕ) (o : Op) (c : Code) (old new : List Entry) → CarriesOut t old o new c → is_rm_fail c ≡ false
    → HasEntry t o c new
carried_out t o c old new (carried is) other = put_there t o c old new is
carried_out t o c old new (withheld fails shut same) other =
    absurd (let z : true ≡ false = sym (ap is_rm_fail fails) ∙ other in cc)

-- and what a branch has stays, whatever else it is asked
entry_stays : (t : ℕ) (p : Op) (d : Code) → Keeps Any (CarriesOut t) (HasEntry t p d)
entry_stays t p d =
    keeps (CarriesOut t) Any (HasEntry t p d)
    (λ old new o c so is. still_has t p d old new (carries_adds Any t old new o c so is))

-- ---- a branch that ends as committed

done_so : (c : Code) → is_done c ≡ true → c ≡ Done
done_so c e = grind arith

-- its second request, to commit, was answered XA_OK
committed_done : (s : Option Code) → yes_ending true s ≡ Committed → s ≡ Some Done
committed_done None e = absurd (cc)
committed_done (Some c) e = search (arith, done_so)

branch_commits : (t : ℕ) (commit : Bool) (b : Branch) (v : Code) (s : Option Code) (e : Ending) (old new : List Entry)
    → AtBranch (CarriesOut t) commit b v s e old new → e ≡ Committed → HasEntry t (Commit b.xid false) Done new
branch_commits t commit b v s e old new is told =
    let shown : ends_committed (ending_of commit v s) ≡ true = ap ends_committed (sym is.ends ∙ told) in
    let voted : is_yes v ≡ true = search (arith, true_from_ne_false, both_ways) in
    let commits : commit ≡ true = search (arith, true_from_ne_false, both_ways) in
    let yes : v ≡ Done = yes_is v voted in
    let heard : s ≡ Some Done = committed_done s (sym (λ i. ending_of (commits i) (yes i) s) ∙ sym is.ends ∙ told) in
    let op : second_op commit b.xid v ≡ Some (Commit b.xid false) = λ i. second_op (commits i) b.xid (yes i) in
    let obeyed : CarriesOut t is.prepared (Commit b.xid false) is.decided Done = search (arith, is.prepared, b.xid) in
    (for_mapped (entry_stays t (Commit b.xid false) Done) (third_op b.xid s) is.third is.decided new
    (any_asked (third_op b.xid s)) is.forgets).on
    (carried_out t (Commit b.xid false) Done is.prepared is.decided obeyed refl)

-- ---- a branch that didn't vote against

not_shut : (v : Code) → is_no v ≡ false → is_rm_fail v ≡ false
not_shut v e = grind arith

branch_prepared : (t : ℕ) (commit : Bool) (b : Branch) (v : Code) (s : Option Code) (e : Ending) (old new : List Entry)
    → AtBranch (CarriesOut t) commit b v s e old new → is_no v ≡ false → HasEntry t (Prepare b.xid) v new
branch_prepared t commit b v s e old new is vote =
    (rest_mapped (entry_stays t (Prepare b.xid) v) commit b v s e old new is (any_asked (second_op commit b.xid v))
    (any_asked (third_op b.xid s))).on
    (carried_out t (Prepare b.xid) v old is.prepared is.prepares (not_shut v vote))

pub none_against : (votes : List Code) (logged : Bool) → decision_of votes logged ≡ true → list_any is_no votes ≡ false
none_against votes logged e = not-true _ (and_parts (decides_commit votes) (not (has_yes votes) || logged) e).0

-- ---- the k-th branch of a commit

each_at : (P : Branch → Code → Option Code → Ending → Type 0) (bs : List Branch) (vs : List Code)
    (ss : List (Option Code)) (es : List Ending)
    → EachBranch P bs vs ss es → (k : ℕ) (b : Branch) → slice_get bs k ≡ Some b
    → (v : Code) × (s : Option Code) × (e : Ending) × (slice_get vs k ≡ Some v) × (slice_get es k ≡ Some e) × P b v s e
each_at P [] [] [] [] each k b at = absurd (cc)
each_at P (c ∷ bs) (v ∷ vs) (s ∷ ss) (e ∷ es) each zero b at = (v, s, e, refl, refl, rw (some_same c b at) at each.0)
each_at P (c ∷ bs) (v ∷ vs) (s ∷ ss) (e ∷ es) each (suc k) b at = each_at P bs vs ss es each.1 k b at
each_at P bs vs ss es each k b at = absurd each

-- what a commit did that came to its end
abbrev Course : ℕ → CommitAll TranName → Outcome → Part → Part → Type 0
Course t c done old new = Commits (CarriesOut t) (named c) (branches_of c) old.entries new.entries old.log new.log done

-- what a commit shows of it
module _ (t : ℕ) (c : CommitAll TranName) (done : Outcome) (old new : Part) (is : Course t c done old new) where
  abbrev At : Branch → Code → Option Code → Ending → Type 0
  At b v s e = AtBranch (CarriesOut t) done.commit b v s e (old.entries b.m) (new.entries b.m)

  commit_shows : (k : ℕ) (b : Branch) → slice_get (branches_of c) k ≡ Some b
      → slice_get done.endings.items k ≡ Some Committed
      → HasEntry t (Commit b.xid false) Done (new.entries b.m)
  commit_shows k b at told =
      let x = each_at At (branches_of c) done.votes.items is.seconds done.endings.items is.each k b at in
      branch_commits t done.commit b x.0 x.1 x.2 (old.entries b.m) (new.entries b.m) x.5
      (some_same x.2 Committed (sym x.4 ∙ told))

  commit_prepared : done.commit ≡ true → (k : ℕ) (b : Branch) → slice_get (branches_of c) k ≡ Some b
      → (vote : Code) × (is_no vote ≡ false) × HasEntry t (Prepare b.xid) vote (new.entries b.m)
  commit_prepared commit k b at =
      let x = each_at At (branches_of c) done.votes.items is.seconds done.endings.items is.each k b at in
      let vote =
      all_at (λ v. is_no v ≡ false) done.votes.items k x.0
      (none_all is_no done.votes.items (none_against done.votes.items done.logged (sym is.decision ∙ commit)))
      x.3 in
      (x.0, vote, branch_prepared t done.commit b x.0 x.1 x.2 (old.entries b.m) (new.entries b.m) x.5 vote)

-- ---- line by line

-- what a thread has in a journal is in the journal
in_filter : {A : Type 0} (p : A → Bool) (xs : List A) (x : A) → Contains (filter p xs) x → Contains xs x
in_filter p xs x there =
    All-contains (Contains xs) (filter p xs) x (All-filter p (Contains xs) xs (All-contains_itself xs)) there

in_journal : (settled : Settling) (t m u : ℕ) (o : Op) (c : Code) → HasEntry u o c (entries_of t (journal settled m))
    → IsInJournal settled m u o c
in_journal settled t m u o c has = search (arith, in_filter)

-- what a commit did that came to this
shown_by : (t : ℕ) (c : CommitAll TranName) (o : CommitOutcome) (a : Answer) (old new : Part) → a ≡ answer.Commit o
    → CommitTakes t c a old new
    → TakesCommit t c o old new
shown_by t c o a old new e (takes_none told same) =
    absurd (let z : answer.Commit o ≡ answer.Refused = sym e ∙ told in cc)
shown_by t c o a old new e (commits p told is) =
    let z : answer.Commit p ≡ answer.Commit o = sym told ∙ e in
    let same : p ≡ o = cc in
    rw same at is

pub shown_so : (settled : Settling) (l : Line) (c : CommitAll TranName) (o : CommitOutcome) (old new : Part)
    → ShowsCommit l c o → TakesPart settled l old new
    → TakesCommit l.task.thread c o old new
shown_so settled l c o old new shows takes =
    shown_by l.task.thread c o l.answer old new shows.tells (rw shows.asks at takes)

pub decided_so : (settled : Settling) (l : Line) (c : CommitAll TranName) (done : Outcome) (old new : Part)
    → ShowsCommit l c (outcome.Decided done)
    → TakesPart settled l old new → Course l.task.thread c done old new
decided_so settled l c done old new shows takes =
    (shown_so settled l c (outcome.Decided done) old new shows takes).course.1

module _ (steps : List ScriptStep) (answers : List TranscriptLine) (settled : Settling) (t : ℕ) (first : Part)
    (told : AreCarriedOut steps answers settled t first) where
  -- a line does what it does, and what it puts into a journal is there after the last line
  pub placed : (k : ℕ) (d : Line) → k < length told.lines
      → (old : Part) × (new : Part) × TakesPart settled (slice_index_or told.lines k d) old new
      × ((m : ℕ) → Adds Any (new.entries m) (entries_of t (journal settled m)))
  placed k d below =
      let (old, new, place) =
      places steps answers settled t first told (take k told.lines) (slice_index_or told.lines k d)
      (drop (suc k) told.lines)
      (sym (take-append-drop k told.lines)
      ∙ ap (λ ls. take k told.lines ++ ls) (drop-cons told.lines k d below)) in
      (old, new, place.takes, place_adds place)

  -- an entry that a line has put into a journal
  stays_in : (old new : Part) → ((m : ℕ) → Adds Any (new.entries m) (entries_of t (journal settled m)))
      → (u m : ℕ) (o : Op) (c : Code)
      → HasEntry u o c (new.entries m) → IsInJournal settled m u o c
  stays_in old new adds u m o c has =
      in_journal settled t m u o c (still_has u o c (new.entries m) (entries_of t (journal settled m)) (adds m) has)

  pub all_carried_out : All (IsCarriedOut settled) told.lines
  all_carried_out k d below q o is asked ok =
      let l : Line = slice_index_or told.lines k d in
      let (old, new, takes, adds) = placed k d below in
      stays_in old new adds l.task.thread q.manager o Done
      (one_entered settled l.task.thread q l.answer old new (rw is at takes) o asked ok)

  pub all_committed : All (AreCommitted settled) told.lines
  all_committed k d below c done shows j b at ends =
      let l : Line = slice_index_or told.lines k d in
      let (old, new, takes, adds) = placed k d below in
      stays_in old new adds l.task.thread b.m (Commit b.xid false) Done
      (commit_shows l.task.thread c done old new (decided_so settled l c done old new shows takes) j b at ends)

  pub all_prepared : All (ArePrepared settled) told.lines
  all_prepared k d below c done shows commit j b at =
      let l : Line = slice_index_or told.lines k d in
      let (old, new, takes, adds) = placed k d below in
      let has =
      commit_prepared l.task.thread c done old new (decided_so settled l c done old new shows takes) commit j b
      at in
      (has.0, has.1, stays_in old new adds l.task.thread b.m (Prepare b.xid) has.0 has.2)

-- a commit adds nothing bad, where no Prepare and no Forget is, and no second request of a vote that is so
adds_none_of : (bad : Op → Bool) (W : Code → Type 0) (t : ℕ) (c : CommitAll TranName) (o : CommitOutcome)
    (old new : Part)
    → TakesCommit t c o old new
    → ((x : XidName) → bad (Prepare x) ≡ false) → ((x : XidName) → bad (Forget x) ≡ false)
    → ((x : XidName) (v : Code) → W v → IsAskedFor (λ op. bad op ≡ false) (second_op (comes_to_commit o) x v))
    → VotesAre W o → (m : ℕ)
    → AddsNone bad (old.entries m) (new.entries m)
adds_none_of bad W t c o old new is prepares forgets obeys votes m =
    adds_no bad (old.entries m) (new.entries m)
    (commit_adds (λ op. bad op ≡ false) W m t c o old new (λ k d lt. record {
      prepares = λ here. prepares (get_or (branches_of c) k d).xid;
      obeys = λ here v w. obeys (get_or (branches_of c) k d).xid v w;
      forgets = λ here s. third_so (λ op. bad op ≡ false) (get_or (branches_of c) k d).xid s
          (λ _. forgets (get_or (branches_of c) k d).xid);
    }) votes is)

-- a commit that aborts
pub aborts_commit_none : (t : ℕ) (c : CommitAll TranName) (done : Outcome) (old new : Part)
    → TakesCommit t c (outcome.Decided done) old new
    → done.commit ≡ false → (m : ℕ) → AddsNone is_commit (old.entries m) (new.entries m)
aborts_commit_none t c done old new is aborts =
    adds_none_of is_commit (λ v. Unit {0}) t c (outcome.Decided done) old new is (λ x. refl) (λ x. refl)
    (λ x v w. rw aborts (second_so IsNoCommit false x v refl)) (λ k d lt. tt)

-- ---- a commit whose branches have all answered, as P says

-- what is neither left nor rolled back
rest_is : (e : Ending) → ends_left e ≡ false → ends_rolled_back e ≡ false
    → (ends_committed e || (ends_read_only e || (ends_in_doubt e || ends_heuristic e))) ≡ true
rest_is e l r = search (arith, rules)

module _ (P : Branch → Code → Option Code → Ending → Type 0) (bs : List Branch) (zs : List (Option Code))
    (done : Outcome)
    (ends : (b : Branch) (v : Code) (z : Option Code) (e : Ending) → P b v z e → e ≡ ending_of done.commit v z)
    (each : EachBranch P bs done.votes.items zs done.endings.items)
    (decision : done.commit ≡ decision_of done.votes.items done.logged) where
  unopposed : done.commit ≡ true → list_any is_no done.votes.items ≡ false
  unopposed commit = none_against done.votes.items done.logged (sym decision ∙ commit)

  -- by the line alone
  pub one_outcome : IsOneOutcome done
  one_outcome = record {
    kept = λ on.
        none_end P done.commit ends_rolled_back (λ v. is_no v ≡ false) ends
        (λ v z n. ap (λ c. ends_rolled_back (ending_of c v z)) on ∙ not_rolled_back v z n) bs
        done.votes.items zs done.endings.items each (none_all is_no done.votes.items (unopposed on));
    uncommitted = λ off.
        none_end P done.commit ends_committed (λ v. Unit {0}) ends
        (λ v z _. ap (λ c. ends_committed (ending_of c v z)) off ∙ uncommitted v z) bs
        done.votes.items zs done.endings.items each (λ k d lt. tt);
  }

  -- by what each went through in its manager's history
  module _ (law : Tabled) (opens : (s : Settling) (m : ℕ) → IsSettled s → (T : Tables) × IsOpenedWith s m T)
      (s : Settling) (settled : IsSettled s) (t : ℕ)
      (old new : Part)
      (went : (b : Branch) (v : Code) (z : Option Code) (e : Ending) → P b v z e
      → InHistory law opens s t settled done.commit (entered_so_far old) (entered_so_far new) b v z e) where
    -- what became of them
    pub as_shown : AreLeftOrDecided s t bs (entered_so_far old) (entered_so_far new) → IsAsShown s t bs old done
    as_shown alone =
        let F : Branch → Code → Ending → Type 0 = λ b v e. Fated law opens s t b (entered_so_far old b.m) v e in
        let all : EachOutcome F bs done.votes.items done.endings.items =
        each_outcome
        (λ b. OnlyTheseOrDecisionsName b.xid t (entered_so_far old b.m) (entered_so_far new b.m) (history_of s b.m))
        P F (λ b v z e only is.
        one_fated law opens s t settled done.commit (entered_so_far old) (entered_so_far new) b v z e (went b v z e is)
        only) bs done.votes.items zs done.endings.items
        alone.each each in
        record {
          committed = λ on.
              let reached = outcome_ends (λ v. is_no v ≡ false) F (λ e. ends_left e ≡ false)
              (λ b v e n h. h.unless_no n)
              bs done.votes.items done.endings.items
              (none_all is_no done.votes.items (unopposed on)) all in
              λ k d lt. rest_is (get_or done.endings.items k d) (reached k d lt)
              (none_all ends_rolled_back done.endings.items (one_outcome.kept on) k d lt);
          aborted = one_outcome.uncommitted;
          votes = record { each = search (arith, outcome_map) };
          fates = record { each = search (arith, outcome_map) };
        }

    -- what they count for
    pub counts_as_shown : AreLeftAlone s t bs (entered_so_far old) (entered_so_far new) → CountsAsShown s t bs old done
    counts_as_shown alone =
        let G : Branch → Code → Ending → Type 0 =
        λ b v e. Both law opens s t b (entered_so_far old b.m) (entered_so_far new b.m) v e in
        let all : EachOutcome G bs done.votes.items done.endings.items =
        each_outcome (λ b. OnlyTheseName b.xid t (entered_so_far old b.m) (entered_so_far new b.m) (history_of s b.m)) P
        G (λ b v z e only is.
        one_both law opens s t settled done.commit (entered_so_far old) (entered_so_far new) b v z e (went b v z e is)
        only) bs done.votes.items zs done.endings.items
        alone.each each in
        record {
          counts = record { each = search (arith, outcome_map) };
          whole = λ certain.
              each_whole law opens s t done.commit (entered_so_far old) (entered_so_far new) bs done.votes.items
              done.endings.items one_outcome.kept unopposed
              (λ some. true_from_ne_false (done.commit) (λ off. both_ways _ (one_outcome.uncommitted off) some)) certain
              all;
        }

-- of a commit that came to its end
module _ (t : ℕ) (c : CommitAll TranName) (done : Outcome) (old new : Part) (is : Course t c done old new) where
  abbrev EndedAt : Branch → Code → Option Code → Ending → Type 0
  EndedAt b v z e = AtBranch (CarriesOut t) done.commit b v z e (old.entries b.m) (new.entries b.m)

  one_outcome_is : IsOneOutcome done
  one_outcome_is = one_outcome EndedAt (branches_of c) is.seconds done (λ b v z e at. at.ends) is.each is.decision

  module _ (law : Tabled) (opens : (s : Settling) (m : ℕ) → IsSettled s → (T : Tables) × IsOpenedWith s m T)
      (s : Settling) (settled : IsSettled s)
      (grown : (m : ℕ) → Adds Any (new.entries m) (entries_of t (journal s m))) where
    went_so : (b : Branch) (v : Code) (z : Option Code) (e : Ending) → EndedAt b v z e
        → InHistory law opens s t settled done.commit (entered_so_far old) (entered_so_far new) b v z e
    went_so b v z e at T with_T =
        let asked =
        branch_entered law s settled t b.m T with_T done.commit b v z e (old.entries b.m) (new.entries b.m) at
        ((grown b.m).0, (grown b.m).1) in (
          course_of (site_of law s settled t b.m T with_T) b done.commit v z e (entered (old.entries b.m))
              (entered (new.entries b.m)) asked,
          at.ends,
        )

    pub decided_as_shown : AreLeftOrDecided s t (branches_of c) (entered_so_far old) (entered_so_far new)
        → IsAsShown s t (branches_of c) old done
    decided_as_shown =
        as_shown EndedAt (branches_of c) is.seconds done (λ b v z e at. at.ends) is.each is.decision law opens s settled
        t old new went_so

    pub decided_counts : AreLeftAlone s t (branches_of c) (entered_so_far old) (entered_so_far new)
        → IsAsShown s t (branches_of c) old done × CountsAsShown s t (branches_of c) old done
    decided_counts alone = (
      decided_as_shown (search (arith, rules)),
      counts_as_shown EndedAt (branches_of c) is.seconds done (λ b v z e at. at.ends) is.each is.decision law opens s
          settled t old new went_so alone,
    )

-- line by line
pub all_one_outcome : (steps : List ScriptStep) (answers : List TranscriptLine) (settled : Settling) (t : ℕ)
    (first : Part)
    (told : AreCarriedOut steps answers settled t first)
    → All ShowsOneOutcome told.lines
all_one_outcome steps answers settled t first told k d below c done shows =
    let (old, new, takes, adds) = placed steps answers settled t first told k d below in
    one_outcome_is (slice_index_or told.lines k d).task.thread c done old new
    (decided_so settled (slice_index_or told.lines k d) c done old new shows takes)

-- ---- what a commit that came to no end left, by the line that shows it: it goes by the record

abbrev IsNoRollback : Op → Type 0
IsNoRollback op = is_rollback op ≡ false

-- without a record the transaction isn't recorded
unrecorded : (tran : TranName) (log later : LogState) → record_of log tran ≡ None → later ≡ log
    → is_recorded later tran ≡ true → ⊥
unrecorded tran log later absent same on = search (arith, is_some)

module _ (tran : TranName) (bs : List Branch) (log later : LogState) (absent : record_of log tran ≡ None) where
  module _ (votes : List Code) (commit logged : Bool) (is : IsDecidedBy tran bs log later votes commit logged) where
    votes_by : is_recorded later tran ≡ false → All (NotToCommit commit) votes
    votes_by off = rw is.decision (undecided_so tran log later absent votes logged _ is.logs off)

    unopposed_by : is_recorded later tran ≡ true → (commit ≡ true) × (list_any is_no votes ≡ false)
    unopposed_by on =
        let decides = logged_so tran log later absent votes logged _ is.logs on in
        (is.decision ∙ decides, none_against votes logged decides)

  module _ {D : Type 0} (A : Asking D) (U : Putting D) (old new : ℕ → D) where
    -- nothing was decided, or it was by the votes
    far_so : (at : Death) (known : LastKnown) → CameTo A U at tran bs old new log later known
        → ((knows_commit known ≡ false) × (later ≡ log)) ⊎
        ((logged : Bool) × IsDecidedBy tran bs log later (votes_known known) (knows_commit known) logged)
    far_so at known far = search (arith, rules)

    -- where there is no record, it was decided to abort, or no branch voted to commit
    pub votes_fit : (at : Death) (known : LastKnown) → CameTo A U at tran bs old new log later known
        → is_recorded later tran ≡ false
        → All (NotToCommit (knows_commit known)) (votes_known known)
    votes_fit at known far off = elim (far_so at known far) [
      | inl none ↦ λ k d lt. inl none.0
      | inr by ↦ votes_by (votes_known known) (knows_commit known) by.0 by.1 off
    ]

    -- where there is one, it was decided to commit, and no vote is against
    pub decision_so : (at : Death) (known : LastKnown) → CameTo A U at tran bs old new log later known
        → is_recorded later tran ≡ true
        → (knows_commit known ≡ true) × (list_any is_no (votes_known known) ≡ false)
    decision_so at known far on = elim (far_so at known far) [
      | inl none ↦ absurd (unrecorded tran log later absent none.1 on)
      | inr by ↦ unopposed_by (votes_known known) (knows_commit known) by.0 by.1 on
    ]

-- ---- endings

-- a branch that isn't to be committed isn't shown as committed
not_shown : (commit : Bool) (v : Code) (z : Option Code) → NotToCommit commit v
    → ends_committed (ending_of commit v z) ≡ false
not_shown commit v z h = search (arith, unvoted, uncommitted)

-- Without a record no branch is shown as committed, and with one none as rolled back. No ending is known before all
-- were told.
module _ {D : Type 0} (A : Asking D) (U : Putting D) (tran : TranName) (bs : List Branch) (old new : ℕ → D)
    (log later : LogState)
    (absent : record_of log tran ≡ None) where
  abbrev Obeys : Bool → Branch → Code → Option Code → Ending → Type 0
  Obeys commit b v z e = VotesAndObeys A commit b v z e (old b.m) (new b.m)

  endings_out : (at : Death) (known : LastKnown) → CameTo A U at tran bs old new log later known
      → is_recorded later tran ≡ false
      → list_any ends_committed (endings_known known) ≡ false
  endings_out death.Told (known_as.Told done) far off =
      none_end (Obeys done.commit) done.commit ends_committed (NotToCommit done.commit) (λ b v z e is. is.ends)
      (not_shown done.commit) bs done.votes.items far.seconds
      done.endings.items far.each
      (votes_by tran bs log later absent done.votes.items done.commit done.logged far.decided off)
  endings_out at (known_as.Told done) far off = absurd far
  endings_out at known far off = refl

  endings_kept : (at : Death) (known : LastKnown) → CameTo A U at tran bs old new log later known
      → is_recorded later tran ≡ true
      → list_any ends_rolled_back (endings_known known) ≡ false
  endings_kept death.Told (known_as.Told done) far on =
      (one_outcome (Obeys done.commit) bs far.seconds done (λ b v z e is. is.ends) far.each far.decided.decision).kept
      (unopposed_by tran bs log later absent done.votes.items done.commit done.logged far.decided on).0
  endings_kept at (known_as.Told done) far on = absurd far
  endings_kept at known far on = refl

-- ---- the laws

pub death_by_record : (t : ℕ) (c : CommitAll TranName) (at : Death) (known : LastKnown) (old new : Part)
    → TakesCommit t c (outcome.Died at known) old new
    → IsShownByTheRecord (named c) (votes_known known) (endings_known known) old new
death_by_record t c at known old new is =
    let A = CarriesOut t in
    let U = CarriesOutSome t in
    let bs : List Branch = branches_of c in
    let log = old.log in
    let later = new.log in
    let o : CommitOutcome = outcome.Died at known in
    let far : CameTo A U at (named c) bs old.entries new.entries log later known = is.course.1.far in
    record {
      unsent = λ off.
          adds_none_of is_commit (NotToCommit (knows_commit known)) t c o old new is (λ x. refl) (λ x. refl)
          (λ x v w. no_commit_so (knows_commit known) x v w IsNoCommit (λ op e. e))
          (votes_fit (named c) bs log later is.unlogged A U old.entries new.entries at known far off);
      uncommitted = endings_out A U (named c) bs old.entries new.entries log later is.unlogged at known far;
      unopposed = λ on. (decision_so (named c) bs log later is.unlogged A U old.entries new.entries at known far on).1;
      kept = λ on.
          let commits =
          (decision_so (named c) bs log later is.unlogged A U old.entries new.entries at known far on).0 in
          adds_none_of is_rollback (λ v. Unit {0}) t c o old new is (λ x. refl) (λ x. refl)
          (λ x v w. no_rollback_so (knows_commit known) x v commits IsNoRollback (λ op e. e)) (λ k d lt. tt);
      committed = endings_kept A U (named c) bs old.entries new.entries log later is.unlogged at known far;
    }

pub undecided_by_record : (t : ℕ) (c : CommitAll TranName) (votes : Vec Code Global) (old new : Part)
    → TakesCommit t c (outcome.Undecided votes) old new
    → IsShownByTheRecord (named c) votes.items [] old new
undecided_by_record t c votes old new is = record {
  unsent = λ off. adds_none_of is_commit (λ v. ⊥) t c (outcome.Undecided votes) old new is (λ x. refl) (λ x. refl)
      (λ x v none. absurd none) tt;
  uncommitted = λ off. refl;
  unopposed = λ on.
      none_against votes.items true
      (λ i. (and_parts (decides_commit votes.items) (has_yes votes.items) is.course.1.wanted).0 i && or-true
      (not (has_yes votes.items)) i);
  kept = λ on. adds_none_of is_rollback (λ v. ⊥) t c (outcome.Undecided votes) old new is (λ x. refl) (λ x. refl)
      (λ x v none. absurd none) tt;
  committed = λ on. refl;
}

-- a line of a commit that came to no end goes by the record
pub ruleset by_the_record = (death_by_record, undecided_by_record, shown_so)
