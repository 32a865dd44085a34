-- What accounts are worth after openings of which any were killed, by the branches of all their commits.
use Rattle.xa_base.proofs.{◌≡◌, ℕ, ℤ, pos, ◌+ℤ◌, Bool, true, false, if◌then◌else◌, List, [], ◌∷◌, ◌++◌, map, refl, sym}
use Rattle.xa_base.proofs.{ap, ◌∙◌, subst, arith, get_or, All, All-head, All-tail, Some, None, inl, inr, same_Some}
use Rattle.xa_base.proofs.{rules, +ℤ_idl as none_plus}
use Rattle.xa_base.specs.{total}
use Rattle.xa_words.specs.{XidName, are_accounts}
use Rattle.xa_tables.specs.{DeclareEach, Fate, History, IsFateOf, Tables, fate, fate_left, left_by, opening, Absent}
use Rattle.xa_tables.specs.{HeuristicDecision, decided_fate, is_in_doubt, reopened, reopened_fate, state_of, moved}
use Rattle.xa_tables.specs.{tables_after, worth}
use Rattle.laws_fates.proofs.FateLaw.{begin_law}
use Rattle.xa_switch.specs.{IsOpenedWith, IsSettled, first_of, history, settled_fate}
use Rattle.xa_switch.proofs.SettledOpenings.{follows_first}
use Rattle.xa_driver.specs.{Ending}
use Rattle.laws_commit.specs.{CommitCall, EndsAs, became, ended_as, fate_through, histories, last_of, tables_left}
use Rattle.laws_commit.proofs.Later.{ends_with}
use Rattle.laws_balances.specs.{ComesOutByTheLog, CommitsNowhere, DayLeg, OnlyTold, Votes, branch_at, counted_for}
use Rattle.laws_balances.specs.{ended_by_commit, is_for, is_outcome_or_in_doubt, moved_over, SettledWorthIsRecorded}
use Rattle.laws_balances.specs.{voted_sum}
use Rattle.laws_balances.specs.SettledDays.{voted, unasked}
use Rattle.laws_balances.proofs.Course.{ended_law, still_on, still_over, undecided_law, voted_law}
use Rattle.laws_balances.proofs.InARow.{branches_law, opens_with}
use Rattle.laws_kill.specs.{AreLegsOfAll, ComesOutInTurn, EndedOpening, FollowEachOther, IsEndedOpening, as_opening}
use Rattle.laws_kill.specs.{settled_as, with_commit}
use Rattle.laws_kill.proofs.InTurn.{ReopeningGoesOn, end_settled, from_one, next_goes_on, up_to_one}

-- ---- with which tables each of them begins

-- the tables after the history of manager m in an opening that began with T, reopened
abbrev next_tables : ℕ → EndedOpening → Tables → Tables
next_tables m o T = reopened (tables_after (history (settled_as o.how) m) T)

-- the first of these, if there is one, began with T at manager m
abbrev FirstIs : ℕ → Tables → List EndedOpening → Type 0
FirstIs m T [] = Unit {0}
FirstIs m T (o ∷ os) = first_of (settled_as o.how) m ≡ Some T

module _ (goes_on : ReopeningGoesOn) (m : ℕ) where
  settled_head : (o : EndedOpening) (os : List EndedOpening) → FollowEachOther (o ∷ os) → IsSettled (settled_as o.how)
  settled_head o os follow = end_settled o.setup o.how (All-head IsEndedOpening o os follow.each).ended

  tail : (o : EndedOpening) (os : List EndedOpening) → FollowEachOther (o ∷ os) → FollowEachOther os
  tail o os follow = from_one (o ∷ []) os follow

  first_next : (o : EndedOpening) (os : List EndedOpening) (T : Tables) → FollowEachOther (o ∷ os)
      → first_of (settled_as o.how) m ≡ Some T → FirstIs m (next_tables m o T) os
  first_next o [] T follow first = tt
  first_next o (p ∷ ps) T follow first =
      next_goes_on goes_on o p (All-head IsEndedOpening o (p ∷ ps) follow.each)
      (All-head IsEndedOpening p ps (tail o (p ∷ ps) follow).each) follow.in_turn.0 m T first
      ∙ ap (λ U. Some (reopened U)) (ends_with (settled_as o.how) m T (settled_head o (p ∷ ps) follow) first)

  first_there : (before os : List EndedOpening) (T : Tables) → FollowEachOther (before ++ os)
      → FirstIs m T (before ++ os) → FirstIs m (left_by (histories m (map as_opening before)) T) os
  first_there [] os T follow first = first
  first_there (o ∷ before) os T follow first =
      first_there before os (next_tables m o T) (tail o (before ++ os) follow)
      (first_next o (before ++ os) T follow first)

  -- what they leave
  left_of_all : (o : EndedOpening) (os : List EndedOpening) (T : Tables) → FollowEachOther (o ∷ os)
      → first_of (settled_as o.how) m ≡ Some T
      → left_by (histories m (map as_opening (o ∷ os))) T
      ≡ reopened (tables_left (last_of (as_opening o) (map as_opening os)) m)
  left_of_all o [] T follow first =
      ap reopened (sym (ends_with (settled_as o.how) m T (settled_head o [] follow) first))
  left_of_all o (p ∷ ps) T follow first =
      left_of_all p ps (next_tables m o T) (tail o (p ∷ ps) follow) (first_next o (p ∷ ps) T follow first)

  -- ---- one branch

  here : (o : EndedOpening) (os : List EndedOpening) (T : Tables) → FollowEachOther (o ∷ os)
      → first_of (settled_as o.how) m ≡ Some T → IsOpenedWith (settled_as o.how) m T
  here o os T follow first = follows_first (settled_as o.how) m T (settled_head o os follow) first

  -- its fate after all of them
  fate_of_all : (x : XidName) (f : Fate) (o : EndedOpening) (os : List EndedOpening) (T : Tables)
      → FollowEachOther (o ∷ os) → first_of (settled_as o.how) m ≡ Some T
      → fate_left x f (histories m (map as_opening (o ∷ os))) T
      ≡ reopened_fate (fate_through m x (settled_fate (settled_as o.how) m x f) (map as_opening os))
  fate_of_all x f o [] T follow first = ap reopened_fate (sym ((here o [] T follow first).fates x f))
  fate_of_all x f o (p ∷ ps) T follow first =
      ap (λ g. fate_left x (reopened_fate g) (histories m (map as_opening (p ∷ ps))) (next_tables m o T))
      (sym ((here o (p ∷ ps) T follow first).fates x f))
      ∙ fate_of_all x (reopened_fate (settled_fate (settled_as o.how) m x f)) p ps (next_tables m o T)
      (tail o (p ∷ ps) follow) (first_next o (p ∷ ps) T follow first)

  module _ (x : XidName) (o : EndedOpening) (os : List EndedOpening) (T : Tables) (follow : FollowEachOther (o ∷ os))
      (first : first_of (settled_as o.how) m ≡ Some T) (votes : Votes x (history (settled_as o.how) m) T)
      (told : All (OnlyTold x) (histories m (map as_opening os))) where
    abbrev H : History
    H = history (settled_as o.how) m

    abbrev later : List History
    later = histories m (map as_opening os)

    abbrev end : Fate
    end = fate_left x Absent (H ∷ later) T

    abbrev F : Fate
    F = settled_fate (settled_as o.how) m x Absent

    is_F : F ≡ fate x Absent H T
    is_F = (here o os T follow first).fates x Absent

    plain_end : is_outcome_or_in_doubt end ≡ true
    plain_end = undecided_law [] x Absent H later T votes (here o os T follow first).opened told

    reopens_as : (f : Fate) → is_outcome_or_in_doubt f ≡ true → reopened_fate f ≡ f
    reopens_as f e = search (arith, rules)

    end_became : (k : CommitCall)
        → end ≡ reopened_fate (became (branch_at m x) Absent (with_commit o k) (map as_opening os))
    end_became k =
        elim (is_in_doubt F) as
        (λ b. is_in_doubt F ≡ b
        → end ≡ reopened_fate (if b then fate_through m x F (map as_opening os) else F)) [
          | true ↦ λ doubt. fate_of_all x Absent o os T follow first
          | false ↦ λ known.
              let still : end ≡ F =
              ended_law [] x Absent H later T votes (here o os T follow first).opened told
              (ap is_in_doubt (sym is_F) ∙ known)
              ∙ sym is_F in
              still ∙ sym (reopens_as F (ap is_outcome_or_in_doubt (sym still) ∙ plain_end))
        ] refl

    committed_where : (commit : Bool) → ended_by_commit (reopened_fate (ended_as commit)) ≡ commit
    committed_where commit = search (arith, rules)

    apart : (d : HeuristicDecision) → is_outcome_or_in_doubt (reopened_fate (decided_fate d)) ≡ false
    apart d = search (arith, rules)

    ended_by_log : (k : CommitCall) (recorded : Bool) (known : Ending) → state_of T x ≡ None
        → EndsAs recorded (with_commit o k) (map as_opening os) (branch_at m x) known
        → ended_by_commit end ≡ recorded
    ended_by_log k recorded known fresh ends =
        let fits : IsFateOf x Absent T = rw fresh at (begin_law x T) in
        elim (ends.ends Absent (record { first = T; opened = here o os T follow first; fits = fits })) as
        (λ _. ended_by_commit end ≡ recorded) [
          | inl e ↦ ap ended_by_commit (end_became k ∙ ap reopened_fate e) ∙ committed_where recorded
          | inr z ↦
              let never : is_outcome_or_in_doubt end ≡ false =
              ap is_outcome_or_in_doubt (end_became k ∙ ap reopened_fate z.1.0) ∙ apart z.0 in
              let y : true ≡ false = sym plain_end ∙ never in
              cc
        ]

  -- what it moves there and later
  moves_here : (accounts : List (List ℕ × ℕ)) (o : EndedOpening) (os : List EndedOpening) (T : Tables) (k : CommitCall)
      (g : DayLeg) → FollowEachOther (o ∷ os) → first_of (settled_as o.how) m ≡ Some T
      → ComesOutByTheLog accounts m T (with_commit o k) (map as_opening os) g
      → moved_over accounts (is_for g.xid) (histories m (map as_opening (o ∷ os))) T ≡ counted_for g
  moves_here accounts o os T k g follow first (voted fresh votes told known ends sum) =
      voted_law accounts g.xid Absent (history (settled_as o.how) m) (histories m (map as_opening os)) T votes
      (here o os T follow first).opened told
      ∙ ap (λ b. if b then voted_sum accounts g.xid (history (settled_as o.how) m) T votes else pos 0)
      (ended_by_log g.xid o os T follow first votes told k g.recorded known fresh ends)
      ∙ ap (λ v. if g.recorded then v else pos 0) (sym sum)
  moves_here accounts o os T k g follow first (unasked still nothing) =
      still_over accounts g.xid (histories m (map as_opening (o ∷ os))) T still ∙ sym nothing

  -- nothing is moved for it before
  moved_then : (accounts : List (List ℕ × ℕ)) (x : XidName) (before os : List EndedOpening) (T : Tables)
      → All (CommitsNowhere x) (histories m (map as_opening before))
      → moved_over accounts (is_for x) (histories m (map as_opening (before ++ os))) T
      ≡ moved_over accounts (is_for x) (histories m (map as_opening os))
      (left_by (histories m (map as_opening before)) T)
  moved_then accounts x [] os T still = refl
  moved_then accounts x (o ∷ before) os T still =
      let H : History = history (settled_as o.how) m in
      (λ i. still_on accounts x H T
      (All-head (CommitsNowhere x) H (histories m (map as_opening before)) still) i
      +ℤ moved_then accounts x before os (next_tables m o T)
      (All-tail (CommitsNowhere x) H (histories m (map as_opening before)) still) i)
      ∙ none_plus _

  -- nor after it
  moved_till : (accounts : List (List ℕ × ℕ)) (x : XidName) (os rest : List EndedOpening) (T : Tables)
      → All (CommitsNowhere x) (histories m (map as_opening rest))
      → moved_over accounts (is_for x) (histories m (map as_opening (os ++ rest))) T
      ≡ moved_over accounts (is_for x) (histories m (map as_opening os)) T
  moved_till accounts x [] rest T gone = still_over accounts x (histories m (map as_opening rest)) T gone
  moved_till accounts x (o ∷ os) rest T gone =
      let H : History = history (settled_as o.how) m in
      ap (λ v. moved accounts (is_for x) H T +ℤ v) (moved_till accounts x os rest (next_tables m o T) gone)

  moves_in_turn : (accounts : List (List ℕ × ℕ)) (os : List EndedOpening) (T : Tables) (g : DayLeg)
      → FollowEachOther os → FirstIs m T os → ComesOutInTurn accounts m os g
      → moved_over accounts (is_for g.xid) (histories m (map as_opening os)) T ≡ counted_for g
  moves_in_turn accounts os T g follow first out =
      let from : List EndedOpening = out.begun ∷ (out.later ++ out.rest) in
      let all : FollowEachOther (out.before ++ from) = subst FollowEachOther out.parts follow in
      let begins : FirstIs m T (out.before ++ from) = subst (FirstIs m T) out.parts first in
      let own : out.first ≡ left_by (histories m (map as_opening out.before)) T =
      same_Some _ _ (sym out.begins ∙ first_there out.before from T all begins) in
      ap (λ l. moved_over accounts (is_for g.xid) (histories m (map as_opening l)) T) out.parts
      ∙ moved_then accounts g.xid out.before from T out.still
      ∙ ap (moved_over accounts (is_for g.xid) (histories m (map as_opening from))) (sym own)
      ∙ moved_till accounts g.xid (out.begun ∷ out.later) out.rest out.first out.gone
      ∙ moves_here accounts out.begun out.later out.first out.call g
      (up_to_one (out.begun ∷ out.later) out.rest (from_one out.before from all)) out.begins out.out

  -- ---- all of them

  sum_of_legs : (f : XidName → ℤ) (legs : List DayLeg) → All (λ g. f g.xid ≡ counted_for g) legs
      → total f (map (λ g. g.xid) legs) ≡ total counted_for legs
  sum_of_legs f [] each = refl
  sum_of_legs f (g ∷ gs) each =
      λ i. All-head (λ (h : DayLeg). f h.xid ≡ counted_for h) g gs each i
      +ℤ sum_of_legs f gs (All-tail (λ (h : DayLeg). f h.xid ≡ counted_for h) g gs each) i

  pub worth_in_turn : (accounts : List (List ℕ × ℕ)) (o : EndedOpening) (later : List EndedOpening) (T : Tables)
      (legs : List DayLeg) → FollowEachOther (o ∷ later) → first_of (settled_as o.how) m ≡ Some T
      → DeclareEach accounts T → AreLegsOfAll accounts m (o ∷ later) legs
      → SettledWorthIsRecorded accounts m T (as_opening o) (map as_opening later) legs
  worth_in_turn accounts o later T legs follow first known are =
      let hs : List History = histories m (map as_opening (o ∷ later)) in
      ap (worth accounts) (sym (left_of_all o later T follow first))
      ∙ branches_law accounts (map (λ g. g.xid) legs) hs T known are.distinct are.among
      ∙ ap (λ v. worth accounts T +ℤ v)
      (sum_of_legs (λ x. moved_over accounts (is_for x) hs T) legs
      (λ j d lt. moves_in_turn accounts (o ∷ later) T (get_or legs j d) follow first (are.each j d lt)))
