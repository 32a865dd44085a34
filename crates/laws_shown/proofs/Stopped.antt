-- What became of the branches of a commit that came to no end.
use Rattle.xa_base.proofs.{got_on, begins_on, same_begins, list_any_at, rules, ◌⊎◌, slice_get, All, ◌≡◌, ℕ, inl, inr}
use Rattle.xa_base.proofs.{suc, ◌<◌, ◌≤◌, Bool, true, false, if◌then◌else◌, List, [], ◌∷◌, length, length-append}
use Rattle.xa_base.proofs.{append_assoc, Option, zero, Some, None, get_or, sym, refl, ap, ◌∙◌, arith, Vec, Global}
use Rattle.xa_base.proofs.{cases_Bool, All-cons, All-nil, All-head, All-tail, next_there, some_same, both_ways}
use Rattle.xa_base.proofs.{slice_get_past}
use Rattle.xa_tables.specs.{History, is_heur, Fate, decided_fate, Tables}
use Rattle.xa_base.specs.{Begins}
use Rattle.xa_words.specs.{XidName, TranName, Done, RmFail, Death, Op, Prepare, Code}
use Rattle.xa_words.specs.declared.death.Death.TheVariants as death
use Rattle.xa_driver.specs.declared.done.CommitOutcome.TheVariants as outcome
use Rattle.xa_driver.specs.declared.done.LastKnown.TheVariants as known_as
use Rattle.xa_worker.specs.{Entry}
use Rattle.xa_switch.specs.{Settling, IsSettled, journal, IsOpenedWith, history as history_of}
use Rattle.xa_calls.specs.Scans.{Asking}
use Rattle.xa_driver.specs.{Branch, CameToEndings, Done as Outcome, Ending, LastKnown, Committed, RolledBack, AsksFor}
use Rattle.xa_driver.specs.{CameTo, HaveAsked, HaveTold, IsDecidedBy, AsksOrPuts, VotesAndObeys, knows_commit, to_come}
use Rattle.xa_driver.specs.{is_yes, ending_of, second_op, votes_known}
use Rattle.xa_calls.proofs.Morphisms.{keeps}
use Rattle.xa_driver.proofs.Mapped.{any_asked, each_so, for_mapped, Any}
use Rattle.xa_log.specs.{LogState, record_of}
use Rattle.laws_commit.specs.{is_recorded, AreLeftAlone, AreLeftOrDecided, OnlyTheseName, OnlyTheseOrDecisionsName}
use Rattle.laws_commit.specs.{WasAtFirst, ends_heuristic, ends_in_doubt, ends_left, told_fate, ended_as, Tabled}
use Rattle.laws_commit.specs.Outcomes.IsInDoubtUnlessDecided.{decided as was_decided, undecided}
use Rattle.laws_commit.proofs.Courses.{course_obeyed, own_plain}
use Rattle.laws_commit.proofs.Fated.{none_decides}
use Rattle.laws_commit.proofs.OneOutcome.{after_yes, recorded_is}
use Rattle.laws_commit.proofs.Settled.{decided_alike, Fated, InHistory, one_fated, site_of}
use Rattle.laws_commit.proofs.Sites.{StandsIn}
use Rattle.script_grammar.specs.{CommitAll}
use Rattle.script_session.specs.{branches_of, named}
use Rattle.laws_transcript.specs.{Part, next_entry, CarriesOut, CarriesOutSome, TakesCommit, entries_of, entered_so_far}
use Rattle.laws_transcript.specs.Commits.CarriesOut.{carried, withheld}
use Rattle.laws_shown.specs.{EndByTheRecord, EndsByTheRecord, EndSoOrAreDecided, EndsSoOrIsDecided, HasAgreed}
use Rattle.laws_shown.specs.{IsAsFarAsShown, IsAsFarUnlessDecided, are_told_by}
use Rattle.laws_shown.specs.Unfinished.EndsByTheRecord.{ends, doubts}
use Rattle.laws_shown.specs.Unfinished.EndsSoOrIsDecided.{decided, ends_so}
use Rattle.laws_shown.proofs.Adds.{Adds}
use Rattle.laws_shown.proofs.Became.{entry_at, carry_begins, entered, obeys_entered, doubt_or_decided}
use Rattle.laws_shown.proofs.Outcomes.{as_shown, counts_as_shown}

-- what was asked at each branch
module _ (t : ℕ) (old new : ℕ → List Entry) where
  abbrev A : Asking (List Entry)
  A = CarriesOut t

  -- its Prepare was carried out, and that was all
  abbrev pub IsPut : Branch → Type 0
  IsPut b = (v : Code) × CarriesOut t (old b.m) (Prepare b.xid) (new b.m) v

  pub asked_each : (bs : List Branch) (vs : List Code) → HaveAsked A (CarriesOutSome t) bs vs old new → All IsPut bs
  asked_each [] vs h = All-nil IsPut
  asked_each (b ∷ bs) [] h = All-cons IsPut b bs h.0 (asked_each bs [] h.1)
  asked_each (b ∷ bs) (v ∷ vs) h = All-cons IsPut b bs (v, h.0) (asked_each bs vs h.1)

  -- A branch was told the decision, whoever learnt its answer; W holds of its vote.
  pub record Heard (W : Code → Type 0) (commit : Bool) (b : Branch) : Type 0 where
    pub vote : Code
    pub so : W vote
    pub second : Option Code
    pub ending : Ending
    pub obeys : VotesAndObeys A commit b vote second ending (old b.m) (new b.m)

  told_for : (k : ℕ) (op : Option Op) (d e : List Entry) → AsksOrPuts A (CarriesOutSome t) k op d e
      → (z : Option Code) × AsksFor A op z d e
  told_for k None d e same = (None, (refl, same))
  told_for zero (Some op) d e is = (Some is.0, is.1)
  told_for (suc k) (Some op) d e is = (Some is.0, is.1)

  told_each : (W : Code → Type 0) (commit : Bool) (k : ℕ) (bs : List Branch) (vs : List Code) → All W vs
      → HaveTold A (CarriesOutSome t) commit k bs vs old new → All (Heard W commit) bs
  told_each W commit k [] [] so h = All-nil (Heard W commit)
  told_each W commit k (b ∷ bs) (v ∷ vs) so h =
      let is = h.0 in
      let z = told_for k (second_op commit b.xid v) is.prepared (new b.m) is.tells in
      All-cons (Heard W commit) b bs (record {
        vote = v;
        so = All-head W v vs so;
        second = z.0;
        ending = ending_of commit v z.0;
        obeys = record { prepared = is.prepared; prepares = is.prepares; obeys = z.1; ends = refl };
      }) (told_each W commit (to_come (second_op commit b.xid v) k) bs vs (All-tail W v vs so) h.1)
  told_each W commit k bs vs so h = absurd h

  module _ (tran : TranName) (bs : List Branch) (log later : LogState) where
    abbrev Far : Death → LastKnown → Type 0
    Far at known = CameTo A (CarriesOutSome t) at tran bs old new log later known

    pub untold : (at : Death) (known : LastKnown) → are_told_by at ≡ false → Far at known → All IsPut bs
    untold at known none far = asked_each bs (votes_known known) (search (arith, rules))

    pub told : (W : Code → Type 0) (at : Death) (known : LastKnown) → are_told_by at ≡ true
        → ((logged : Bool) → IsDecidedBy tran bs log later (votes_known known) (knows_commit known) logged
        → All W (votes_known known))
        → Far at known → All (Heard W (knows_commit known)) bs
    told W (death.Telling k) (known_as.Decided decision votes) some so far =
        told_each W decision.commit k bs votes.items (so decision.logged far.decided) far.told
    told W death.Told (known_as.Told done) some so far =
        let Obeys : Branch → Code → Option Code → Ending → Type 0 =
        λ b v z e. VotesAndObeys A done.commit b v z e (old b.m) (new b.m) in
        (each_so (λ b. Unit {0}) (Heard W done.commit) W Obeys Obeys
        (λ b v z e _ w is. (is, record { vote = v; so = w; second = z; ending = e; obeys = is })) bs
        done.votes.items far.seconds done.endings.items (λ k d lt. tt) (so done.logged far.decided) far.each).1
    told W (death.Telling k) known some so far = absurd far
    told W death.Told known some so far = absurd far
    told W at known some so far = absurd (cc)

    -- all have answered, and what became of each is known
    pub all_told : (at : Death) (done : Outcome) → Far at (known_as.Told done)
        → CameToEndings A tran bs old new log later done
    all_told death.Told done far = far
    all_told at done far = absurd far

-- ---- by the record

-- where a branch votes to commit, the decision is the record
abbrev ByRecord : Bool → Bool → Code → Type 0
ByRecord commit recorded v = is_yes v ≡ true → commit ≡ recorded

by_record : (tran : TranName) (bs : List Branch) (log later : LogState) (votes : List Code) (commit logged : Bool)
    → record_of log tran ≡ None
    → IsDecidedBy tran bs log later votes commit logged → All (ByRecord commit (is_recorded later tran)) votes
by_record tran bs log later votes commit logged absent is k d lt y =
    search (arith, recorded_is, list_any_at, y, votes, logged)

ended_fate : (commit : Bool) → told_fate (if commit then Committed else RolledBack) ≡ Some (ended_as commit)
ended_fate commit = grind arith

unasked : (commit : Bool) (x : XidName) → second_op commit x RmFail ≡ None
unasked commit x = grind arith

-- in a settled opening
module _ (law : Tabled) (opens : (s : Settling) (m : ℕ) → IsSettled s → (T : Tables) × IsOpenedWith s m T)
    (s : Settling) (settled : IsSettled s) (t : ℕ)
    (old new : Part) (grown : (m : ℕ) → Adds Any (new.entries m) (entries_of t (journal s m))) where
  -- one branch
  module _ (b : Branch) where
    abbrev n : ℕ
    n = length (old.entries b.m)

    abbrev last : ℕ
    last = length (new.entries b.m)

    abbrev H : History
    H = history_of s b.m

    -- its Prepare stands in its manager's history, if it voted to commit
    stands : HasAgreed t b old new → (T : Tables) → IsOpenedWith s b.m T → StandsIn t n (Prepare b.xid) Done T H
    stands agreed T with_T =
        let e : Entry = next_entry t (old.entries b.m) (Prepare b.xid) Done in
        entry_at law s settled t b.m T with_T n e
        (ap (λ es. slice_get es n) (grown b.m).1 ∙ got_on (new.entries b.m) (grown b.m).0 n e agreed)

    limit : (v : Code) → CarriesOut t (old.entries b.m) (Prepare b.xid) (new.entries b.m) v → last ≤ suc n
    limit v (carried is) =
        let size = ap (λ l. length l) is in
        omega (arith, size, length-append (old.entries b.m) (next_entry t (old.entries b.m) (Prepare b.xid) v ∷ []))
    limit v (withheld fails has same) = let size = ap (λ l. length l) same in omega (arith, size)

    -- what it went through in its manager's history, once it was told the decision
    pub went : (commit : Bool) (v : Code) (z : Option Code) (e : Ending)
        → VotesAndObeys (CarriesOut t) commit b v z e (old.entries b.m) (new.entries b.m)
        → InHistory law opens s t settled commit (entered_so_far old) (entered_so_far new) b v z e
    went commit v z e is T with_T =
        let obeys =
        obeys_entered law s settled t b.m T with_T commit b v z e (old.entries b.m) (new.entries b.m) is
        ((grown b.m).0, (grown b.m).1) in (
          course_obeyed (site_of law s settled t b.m T with_T) b commit v z e (entered (old.entries b.m))
              (entered (new.entries b.m)) obeys,
          is.ends,
        )

    -- where others may decide it heuristically
    module _ (only : OnlyTheseOrDecisionsName b.xid t n last H) (agreed : HasAgreed t b old new) (before : Fate)
        (first : WasAtFirst s b before)
        (recorded told_so : Bool) where
      pub put_ends : told_so ≡ false → IsPut t old.entries new.entries b
          → EndsSoOrIsDecided s t b n recorded told_so before
      put_ends none put =
          elim (doubt_or_decided (site_of law s settled t b.m first.first first.opened) b.xid n last only
          (stands agreed first.first first.opened) (limit put.0 put.1) before) [
            | inl g ↦ ends_so
                (doubts (λ y. absurd (let w : true ≡ false = sym y ∙ none in cc)) (first.opened.fates b.xid before ∙ g))
            | inr d ↦ decided d.0 (first.opened.fates b.xid before ∙ d.1.0)
                (λ U with_U. decided_alike b.xid t n first.first U H (sym first.opened.codes ∙ with_U.codes) d.1.1)
          ]

      -- so where it voted to commit it ended by the decision
      module _ (commit : Bool) (h : Heard t old.entries new.entries (ByRecord commit recorded) commit b) where
        open h use {vote as v, second as z, ending as e, obeys as is}

        done : v ≡ Done
        done =
            by_vote is.prepares
            ((for_mapped
            (keeps (CarriesOut t) Any (Begins is.prepared)
            (λ d e op c _ asks more. begins_on is.prepared d e more (carry_begins t d e op c asks)))
            (second_op commit b.xid v) z is.prepared (new.entries b.m) (any_asked (second_op commit b.xid v))
            is.obeys).on (same_begins is.prepared))
          where
            none_added : new.entries b.m ≡ old.entries b.m → ⊥
            none_added same = search (arith, slice_get, slice_get_past)

            by_vote : CarriesOut t (old.entries b.m) (Prepare b.xid) is.prepared v
                → Begins is.prepared (new.entries b.m) → v ≡ Done
            by_vote (carried added) more = search (arith, append_assoc, slice_get, next_there, some_same, more.0)
            by_vote (withheld fails has same) more = search (arith, unasked, none_added)

        fated : Fated law opens s t b n v e
        fated =
            one_fated law opens s t settled commit (entered_so_far old) (entered_so_far new) b v z e
            (went commit v z e is) only

        y : is_yes v ≡ true
        y = ap is_yes done

        pub heard_ends : told_so ≡ true → EndsSoOrIsDecided s t b n recorded told_so before
        heard_ends told =
            after_yes (λ w. e ≡ w → EndsSoOrIsDecided s t b n recorded told_so before) commit z
            (λ is_so. ends_so
            (ends told
            (fated.tells.told before (ended_as commit) first (ap told_fate is_so ∙ ended_fate commit)
            ∙ ap ended_as (h.so y))))
            (λ is_so. elim (fated.tells.doubt before first (ap ends_in_doubt is_so)) [
              | undecided f ↦ ends_so (doubts (λ _. fated.keeps.shut y (ap ends_in_doubt is_so)) f)
              | was_decided d f after ↦ decided d f after
            ])
            (λ c is_so.
            let d = fated.named y (ap ends_heuristic is_so) in
            decided d.0 (fated.tells.told before (decided_fate d.0) first d.1)
            (fated.keeps.decided y (ap ends_heuristic is_so)))
            (λ c is_so. absurd (both_ways (ends_left e) (fated.keeps.reached y) (ap ends_left is_so)))
            (is.ends ∙ ap (λ w. ending_of commit w z) done)

    -- its thread decides nothing of it
    abbrev IsPlain : Type 0
    IsPlain = All (λ r. r.thread ≡ t → n < r.number → r.number < last → is_heur r.op ≡ false) H

    put_plain : IsPut t old.entries new.entries b → IsPlain
    put_plain put k d lt own up down = absurd (omega (arith, up, down, limit put.0 put.1))

    heard_plain : (commit recorded : Bool) → Heard t old.entries new.entries (ByRecord commit recorded) commit b
        → IsPlain
    heard_plain commit recorded h =
        let open_ = opens s b.m settled in
        own_plain (went commit h.vote h.second h.ending h.obeys open_.0 open_.1).0

    -- so where nobody else names it, no decision of it was carried out
    undecided_so : OnlyTheseName b.xid t n last H → IsPlain → (recorded told : Bool) (before : Fate)
        → EndsSoOrIsDecided s t b n recorded told before
        → EndsByTheRecord s t b n recorded told before
    undecided_so only plain recorded told before (ends_so is) = is
    undecided_so only plain recorded told before (decided d f after) =
        let open_ = opens s b.m settled in
        absurd
        (none_decides (site_of law s settled t b.m open_.0 open_.1) b.xid n last only plain (after open_.0 open_.1))

  -- ---- all of them

  module _ (c : CommitAll TranName) where
    abbrev own : List Branch
    own = branches_of c

    abbrev recorded : Bool
    recorded = is_recorded new.log (named c)

    weaker : AreLeftAlone s t own (entered_so_far old) (entered_so_far new)
        → AreLeftOrDecided s t own (entered_so_far old) (entered_so_far new)
    weaker alone = search (arith, rules)

    module _ (votes : Vec Code Global) (is : TakesCommit t c (outcome.Undecided votes) old new) where
      put : All (IsPut t old.entries new.entries) own
      put = asked_each t old.entries new.entries own votes.items is.course.1.asked

      pub undecided_unless : AreLeftOrDecided s t own (entered_so_far old) (entered_so_far new)
          → EndSoOrAreDecided s t own recorded false old new
      undecided_unless alone =
          record {
            each = λ k d lt agreed before first. put_ends (get_or own k d) (alone.each k d lt) agreed before
                first recorded false refl (put k d lt);
          }

      pub undecided_ends : AreLeftAlone s t own (entered_so_far old) (entered_so_far new)
          → EndByTheRecord s t own recorded false old new
      undecided_ends alone = record {
        each = λ k d lt agreed before first.
            undecided_so (get_or own k d) (alone.each k d lt) (put_plain (get_or own k d) (put k d lt)) recorded false
            before ((undecided_unless (weaker alone)).each k d lt agreed before first);
      }

    module _ (at : Death) (known : LastKnown) (is : TakesCommit t c (outcome.Died at known) old new) where
      abbrev commit : Bool
      commit = knows_commit known

      abbrev WasHeard : Branch → Type 0
      WasHeard = Heard t old.entries new.entries (ByRecord commit recorded) commit

      -- each was told the decision, or none was
      how : (k : ℕ) (d : Branch) → k < length own
          → ((are_told_by at ≡ false) × IsPut t old.entries new.entries (get_or own k d)) ⊎
          ((are_told_by at ≡ true) × WasHeard (get_or own k d))
      how = elim (cases_Bool (are_told_by at)) [
        | inr none ↦ λ k d lt. inl
            (none, untold t old.entries new.entries (named c) own old.log new.log at known none is.course.1.far k d lt)
        | inl some ↦ λ k d lt.
            inr (
              some,
              told t old.entries new.entries (named c) own old.log new.log (ByRecord commit recorded) at known
                  some (λ logged. by_record (named c) own old.log new.log (votes_known known) commit logged is.unlogged)
                  is.course.1.far k d lt,
            )
      ]

      plain : (k : ℕ) (d : Branch) → k < length own → IsPlain (get_or own k d)
      plain k d lt =
          elim (how k d lt) [
            | inl put ↦ put_plain (get_or own k d) put.1
            | inr heard ↦ heard_plain (get_or own k d) commit recorded
                heard.1
          ]

      abbrev Obeys : Bool → Branch → Code → Option Code → Ending → Type 0
      Obeys commit b v z e = VotesAndObeys (CarriesOut t) commit b v z e (old.entries b.m) (new.entries b.m)

      far : (done : Outcome) → known ≡ known_as.Told done
          → CameToEndings (CarriesOut t) (named c) own old.entries new.entries old.log new.log done
      far done whole =
          all_told t old.entries new.entries (named c) own old.log new.log at done (rw whole at is.course.1.far)

      pub as_far_unless : AreLeftOrDecided s t own (entered_so_far old) (entered_so_far new)
          → IsAsFarUnlessDecided s t c at known old new
      as_far_unless alone = record {
        by_record = record {
          each = λ k d lt agreed before first. elim (how k d lt) [
            | inl put ↦ put_ends (get_or own k d) (alone.each k d lt) agreed before first recorded (are_told_by at)
                put.0 put.1
            | inr heard ↦ heard_ends (get_or own k d) (alone.each k d lt) agreed before first recorded (are_told_by at)
                commit heard.1 heard.0
          ];
        };
        as_shown = λ done whole.
            let came = far done whole in
            as_shown (Obeys done.commit) own came.seconds done (λ b v z e is. is.ends) came.each came.decided.decision
            law opens s settled t old new (λ b. went b done.commit) alone;
      }

      pub as_far_as_shown : AreLeftAlone s t own (entered_so_far old) (entered_so_far new)
          → IsAsFarAsShown s t c at known old new
      as_far_as_shown alone =
          let unless = as_far_unless (weaker alone) in
          record {
            by_record = record {
              each = λ k d lt agreed before first.
                  undecided_so (get_or own k d) (alone.each k d lt) (plain k d lt) recorded (are_told_by at) before
                  (unless.by_record.each k d lt agreed before first);
            };
            as_shown = unless.as_shown;
            counts = λ done whole.
                let came = far done whole in
                counts_as_shown (Obeys done.commit) own came.seconds done (λ b v z e is. is.ends) came.each
                came.decided.decision law opens s settled t old new (λ b. went b done.commit) alone;
          }
