-- The laws of one branch: one that nothing commits moves nothing, and one that votes to commit moves what it held where
-- it is committed.
use Rattle.xa_base.proofs.{rules, All-cons, All-head, All-tail, ◌≡◌, ◌≢◌, ℕ, ℤ, pos, ◌+ℤ◌, Bool, true, false, cond, not}
use Rattle.xa_base.proofs.{◌||◌, if◌then◌else◌, Option, None, Some, is_some, List, [], ◌∷◌, ◌++◌, unwrap_or, refl, All}
use Rattle.xa_base.proofs.{cons_option, sym, ap, ◌∙◌, subst, arith, +ℤ_idl as none_plus, +ℤ_idr as plus_none}
use Rattle.xa_base.proofs.{total_same, by_if, at_true, at_false}
use Rattle.laws_commit.proofs.Sites.{fates_both, last_both}
use Rattle.laws_commit.proofs.Values.{moved_both, moved_without, unmoving}
use Rattle.xa_words.specs.{XidName, xid_eq, Decides-xid_eq, Done, Op, Prepare, Commit, Rollback, Request, Code, is_done}
use Rattle.xa_words.specs.{is_integrity, is_rolled_back}
use Rattle.xa_tables.specs.declared.state.State.TheVariants.{Prepared as S3}
use Rattle.xa_tables.proofs.Soundness.{Nowhere, AtWork, standing, voted_rests, sound_after, opening_sound}
use Rattle.laws_fates.proofs.FateLaw.{nobody_rests, run_sound}
use Rattle.xa_tables.proofs.SoundLemmas.{get_gone}
use Rattle.laws_fates.proofs.ShutLaw.{late_leave_fates}
use Rattle.laws_tables.proofs.UnnamedLaw.{unnamed_stays, unnamed_fate, tables_after-append}
use Rattle.laws_tables.proofs.PreparedLaw.{outcome_law}
use Rattle.laws_tables.proofs.WorthLaw.{kept_law}
use Rattle.xa_tables.specs.{Tables, state_of, exists, is_S3, is_S5, is_left_in, is_somebody_associated, TablesAndCode}
use Rattle.xa_tables.specs.{next, Fate, InDoubt, Committed, RolledBack, fate, fate_in, fates_in, fate_of, coded}
use Rattle.xa_tables.specs.{ending_of_fate, is_in_doubt, is_live, last_or, tables_after, IsOpening, reopened}
use Rattle.xa_tables.specs.{reopened_fate, fate_left, HeuristicDecision, names, IsPrepared, state_when, fates_when}
use Rattle.xa_tables.specs.{held_by, moved, moved_by, History}
use Rattle.xa_tables.proofs.Effects.{Effect, Stays, Commits, Drops, Forgets, effect_of, named_none}
use Rattle.xa_tables.proofs.Reopening.{reopens, state_reopened, sums_reopened}
use Rattle.xa_driver.specs.{is_commit}
use Rattle.laws_balances.specs.{moved_over, is_for, CommitsNowhere, tells_outcome, OnlyTold, ended_by_commit}
use Rattle.laws_balances.specs.{is_outcome, is_outcome_or_in_doubt, Votes, voted_sum, MovesWhereCommitted}

abbrev pub Accounts : Type 0
Accounts = List (List ℕ × ℕ)

-- what a request that is so answered moves for x
abbrev pub moved_for : Accounts → XidName → Op → Code → Tables → ℤ
moved_for accounts x op c T = if names x op then moved_by accounts op c T else pos 0

-- ---- a branch that nothing commits

if_same : (b : Bool) → (if b then pos 0 else pos 0) ≡ pos 0
if_same b = by_if (λ v. v ≡ pos 0) b _ _ (λ _. refl) (λ _. refl)

still_for : (accounts : Accounts) (x : XidName) (op : Op) (c : Code) (T : Tables) → is_commit op ≡ false
    → moved_for accounts x op c T ≡ pos 0
still_for accounts x op c T quiet =
    ap (λ v. if names x op then v else pos 0) (unmoving accounts op c T quiet) ∙ if_same (names x op)

pub still_on : (accounts : Accounts) (x : XidName) (h : History) (T : Tables) → CommitsNowhere x h
    → moved accounts (is_for x) h T ≡ pos 0
still_on accounts x = moved_without accounts (is_for x)

pub still_over : (accounts : Accounts) (x : XidName) (hs : List History) (T : Tables) → All (CommitsNowhere x) hs
    → moved_over accounts (is_for x) hs T ≡ pos 0
still_over accounts x [] T quiet = refl
still_over accounts x (h ∷ hs) T quiet =
    search (
      arith,
      still_over accounts x hs (reopened (tables_after h T)) (All-tail (CommitsNowhere x) h hs quiet),
      still_on,
      All-head,
      All-tail,
    )

-- ---- a branch that is gone

-- it doesn't exist, and nobody is associated with it
record IsGone (x : XidName) (T : Tables) : Type 0 where
  state : state_of T x ≡ None
  apart : is_somebody_associated T.associations x ≡ false

-- a request leaves it so, makes nothing of it and moves nothing for it
record StaysGone (accounts : Accounts) (x : XidName) (op : Op) (T : Tables) (a : TablesAndCode) : Type 0 where
  gone : IsGone x a.0
  quiet : fate_of x op a.1 ≡ None
  still : moved_for accounts x op a.1 T ≡ pos 0

module _ (accounts : Accounts) (t : ℕ) (x : XidName) (T : Tables) (gone : IsGone x T) where
  unknown : not (exists T x) ≡ true
  unknown = ap (λ o. not (is_some o)) gone.state

  abbrev Stay : Op → TablesAndCode → Type 0
  Stay op a = StaysGone accounts x op T a

  refused : (op : Op) (c : Code) → fate_of x op c ≡ None → moved_by accounts op c T ≡ pos 0 → Stay op (T, c)
  refused op c quiet still =
      record {
        gone = gone;
        quiet = quiet;
        still = ap (λ v. if names x op then v else pos 0) still
            ∙ if_same (names x op);
      }

  gone_told : (op : Op) → names x op ≡ true → tells_outcome op ≡ true → Stay op (next t op T)
  unfolding next
  gone_told (Commit y true) n o = cc
  gone_told op n o = search (arith, Decides-xid_eq, unknown, refused, named_none)

  gone_step : (op : Op) → (names x op ≡ true → tells_outcome op ≡ true) → Stay op (next t op T)
  gone_step op told =
      elim (names x op) as (λ b. names x op ≡ b → Stay op (next t op T)) [
        | true ↦ λ n. gone_told op n (told n)
        | false ↦ λ n.
            let stays = unnamed_stays t op x T gone.apart n in
            record {
              gone = record { state = stays.state ∙ gone.state; apart = stays.apart };
              quiet = unnamed_fate x op _ n;
              still = at_false (names x op) _ _ n;
            }
      ] refl

abbrev Told : XidName → Request → Type 0
Told x r = names x r.op ≡ true → tells_outcome r.op ≡ true

-- so does a history
record RestsGone (accounts : Accounts) (x : XidName) (h : History) (T : Tables) : Type 0 where
  gone : IsGone x (tables_after h T)
  quiet : fates_in x (coded h T) ≡ []
  still : moved accounts (is_for x) h T ≡ pos 0

gone_on : (accounts : Accounts) (x : XidName) (h : History) (T : Tables) → IsGone x T → OnlyTold x h
    → RestsGone accounts x h T
gone_on accounts x [] T gone told = record { gone = gone; quiet = refl; still = refl }
gone_on accounts x (r ∷ h) T gone told =
    let one = gone_step accounts r.thread x T gone r.op (All-head (Told x) r h told) in
    let rest = gone_on accounts x h (next r.thread r.op T).0 one.gone (All-tail (Told x) r h told) in
    record {
      gone = rest.gone;
      quiet = λ i. cons_option (one.quiet i) (rest.quiet i);
      still = λ i. one.still i +ℤ rest.still i;
    }

-- ---- a reopening

unassociated : (x : XidName) (T : Tables) → standing (state_of (reopened T) x) ≢ AtWork
    → is_somebody_associated (reopened T).associations x ≡ false
unassociated x T rests = nobody_rests (reopened T) (opening_sound (reopened T) (reopens T)) x rests

gone_reopened : (x : XidName) (T : Tables) → IsGone x T → IsGone x (reopened T)
gone_reopened x T gone =
    let state : state_of (reopened T) x ≡ None = state_reopened T x ∙ ap (λ o. cond (is_left_in o) o None) gone.state in
    record {
      state = state;
      apart = unassociated x T (λ w. let z : Nowhere ≡ AtWork = sym (ap standing state) ∙ w in cc);
    }

-- over openings a branch that is gone has the fate that it had, if it wasn't at work
record RestsGoneOver (accounts : Accounts) (x : XidName) (f : Fate) (hs : List History) (T : Tables) : Type 0 where
  same : fate_left x f hs T ≡ f
  still : moved_over accounts (is_for x) hs T ≡ pos 0

gone_over : (accounts : Accounts) (x : XidName) (f : Fate) (hs : List History) (T : Tables) → is_live f ≡ false
    → IsGone x T → All (OnlyTold x) hs
    → RestsGoneOver accounts x f hs T
gone_over accounts x f [] T ended gone told = record { same = refl; still = refl }
gone_over accounts x f (h ∷ hs) T ended gone told =
    let one = gone_on accounts x h T gone (All-head (OnlyTold x) h hs told) in
    let T1 : Tables = reopened (tables_after h T) in
    let rest =
    gone_over accounts x f hs T1 ended (gone_reopened x (tables_after h T) one.gone)
    (All-tail (OnlyTold x) h hs told) in
    let fate_now : reopened_fate (fate x f h T) ≡ f = search (arith, late_leave_fates, at_false) in
    record { same = ap (λ g. fate_left x g hs T1) fate_now ∙ rest.same; still = λ i. one.still i +ℤ rest.still i }

-- ---- a branch that waits for its outcome

-- it is prepared, nobody is associated with it, and it holds so much
record Waits (accounts : Accounts) (x : XidName) (sum : ℤ) (T : Tables) : Type 0 where
  prepared : IsPrepared x T
  apart : is_somebody_associated T.associations x ≡ false
  holds : held_by accounts x T ≡ sum

abbrev due : Fate → ℤ → ℤ
due f sum = if ended_by_commit f then sum else pos 0

-- what a request does to it
data Meets (accounts : Accounts) (x : XidName) (sum : ℤ) (op : Op) (T : Tables) (a : TablesAndCode) : Type 0 where
  StillWaits : Waits accounts x sum a.0 → fate_of x op a.1 ≡ None → moved_for accounts x op a.1 T ≡ pos 0
      → Meets accounts x sum op T a
  Ends : (f : Fate) → is_outcome f ≡ true → fate_of x op a.1 ≡ Some f → IsGone x a.0
      → moved_for accounts x op a.1 T ≡ due f sum → Meets accounts x sum op T a

dropped_fate : (f : Fate) → ending_of_fate f ≡ Some false → ended_by_commit f ≡ false
dropped_fate f e = search (arith, rules)

-- what is told makes it committed or rolled back
told_fate : (x : XidName) (op : Op) (c : Code) (f : Fate) → tells_outcome op ≡ true → fate_of x op c ≡ Some f
    → is_outcome f ≡ true
told_fate x (Commit y one_phase) c f o e =
    let P : Option Fate → Type 0 = λ g. g ≡ Some f → is_outcome f ≡ true in
    by_if P (xid_eq y x) _ _
    (λ _. by_if P (is_done c) _ _ (λ _ e. cc) (λ _. by_if P (is_integrity c) _ _ (λ _ e. cc) (λ _ e. cc)))
    (λ _ e. cc) e
told_fate x (Rollback y) c f o e =
    let P : Option Fate → Type 0 = λ g. g ≡ Some f → is_outcome f ≡ true in
    by_if P (xid_eq y x) _ _ (λ _. by_if P (is_done c || is_rolled_back c) _ _ (λ _ e. cc) (λ _ e. cc)) (λ _ e. cc) e
told_fate x op c f o e = cc

outcome_ends : (f : Fate) → is_outcome f ≡ true → is_live f ≡ false
outcome_ends f e = search (arith, rules)

module _ (accounts : Accounts) (t : ℕ) (x : XidName) (sum : ℤ) (T : Tables) (waits : Waits accounts x sum T) where
  abbrev Meet : Op → TablesAndCode → Type 0
  Meet op a = Meets accounts x sum op T a

  gone_state : (U : Tables) (y : XidName) → xid_eq y x ≡ true → (if xid_eq y x then None else state_of U x) ≡ None
  gone_state U y n = at_true (xid_eq y x) None _ n

  by_effect : {op : Op} {a : TablesAndCode} → Effect t T op a → names x op ≡ true → tells_outcome op ≡ true → Meet op a
  by_effect (Stays op c tells) n o =
      StillWaits waits (tells.fates x)
      (ap (λ v. if names x op then v else pos 0) (tells.moved accounts T) ∙ if_same (names x op))
  by_effect (Commits y one_phase free may) n o =
      Ends Committed refl (at_true (xid_eq y x) _ None n)
      (record { state = get_gone T.states y x ∙ gone_state T y n; apart = waits.apart })
      (at_true (xid_eq y x) _ (pos 0) n ∙ ap (λ z. held_by accounts z T) ((Decides-xid_eq y x).0 n) ∙ waits.holds)
  by_effect (Drops op y c free left tells) n o =
      let named : xid_eq y x ≡ true = sym (tells.named x) ∙ n in
      Ends tells.fate (told_fate x op c tells.fate o (tells.fates x ∙ at_true (xid_eq y x) _ None named))
      (tells.fates x ∙ at_true (xid_eq y x) _ None named)
      (record { state = get_gone T.states y x ∙ gone_state T y named; apart = waits.apart })
      (ap (λ v. if names x op then v else pos 0) (tells.moved accounts T) ∙ if_same (names x op)
      ∙ ap (λ b. if b then sum else pos 0) (sym (dropped_fate tells.fate tells.uncommitted)))
  by_effect (Forgets y is) n o =
      let other : is_S5 (state_of T y) ≡ false =
      ap (λ z. is_S5 (state_of T z)) ((Decides-xid_eq y x).0 n) ∙ ap is_S5 waits.prepared in
      let z : true ≡ false = sym is ∙ other in cc
  by_effect effect n o = cc

  meets : (op : Op) → (names x op ≡ true → tells_outcome op ≡ true) → Meet op (next t op T)
  meets op told =
      elim (names x op) as (λ b. names x op ≡ b → Meet op (next t op T)) [
        | true ↦ λ n. by_effect (effect_of t op T) n (told n)
        | false ↦ λ n.
            let stays = unnamed_stays t op x T waits.apart n in
            StillWaits (record {
              prepared = stays.state ∙ waits.prepared;
              apart = stays.apart;
              holds = search (arith, total_same, unwrap_or, stays.sums);
            }) (unnamed_fate x op _ n) (at_false (names x op) _ _ n)
      ] refl

-- what a history does to it
data Course (accounts : Accounts) (x : XidName) (sum : ℤ) (h : History) (T : Tables) : Type 0 where
  WaitsOn : Waits accounts x sum (tables_after h T) → fates_in x (coded h T) ≡ []
      → moved accounts (is_for x) h T ≡ pos 0 → Course accounts x sum h T
  Ended : (f : Fate) → is_outcome f ≡ true → fates_in x (coded h T) ≡ f ∷ [] → IsGone x (tables_after h T)
      → moved accounts (is_for x) h T ≡ due f sum
      → Course accounts x sum h T

after_one : {accounts : Accounts} {x : XidName} {sum : ℤ} (r : Request) (h : History) (T : Tables) → OnlyTold x h
    → (Waits accounts x sum (next r.thread r.op T).0 → Course accounts x sum h (next r.thread r.op T).0)
    → Meets accounts x sum r.op T (next r.thread r.op T) → Course accounts x sum (r ∷ h) T
after_one {accounts} {x} {sum} r h T told on (StillWaits waits quiet still) =
    elim (on waits) as (λ _. Course accounts x sum (r ∷ h) T) [
      | WaitsOn later none moves ↦ WaitsOn later (λ i. cons_option (quiet i) (none i)) (λ i. still i +ℤ moves i)
      | Ended f ended fates gone moves ↦ Ended f ended (λ i. cons_option (quiet i) (fates i)) gone
          ((λ i. still i +ℤ moves i) ∙ none_plus _)
    ]
after_one {accounts} {x} {sum} r h T told on (Ends f ended fate_now gone moves) =
    let rest = gone_on accounts x h (next r.thread r.op T).0 gone told in
    Ended f ended (λ i. cons_option (fate_now i) (rest.quiet i)) rest.gone
    ((λ i. moves i +ℤ rest.still i) ∙ plus_none _)

course_on : (accounts : Accounts) (x : XidName) (sum : ℤ) (h : History) (T : Tables) → Waits accounts x sum T
    → OnlyTold x h → Course accounts x sum h T
course_on accounts x sum [] T waits told = WaitsOn waits refl refl
course_on accounts x sum (r ∷ h) T waits told =
    let rest = All-tail (Told x) r h told in
    after_one r h T rest (λ later. course_on accounts x sum h (next r.thread r.op T).0 later rest)
    (meets accounts r.thread x sum T waits r.op (All-head (Told x) r h told))

-- ---- over openings

waits_reopened : (accounts : Accounts) (x : XidName) (sum : ℤ) (T : Tables) → Waits accounts x sum T
    → Waits accounts x sum (reopened T)
waits_reopened accounts x sum T waits =
    search (arith, state_reopened, unassociated, voted_rests, sums_reopened, waits.prepared)

-- it moves what it holds where it is committed, and nobody else decided it
record CourseOver (accounts : Accounts) (x : XidName) (sum : ℤ) (hs : List History) (T : Tables) : Type 0 where
  moves : MovesWhereCommitted accounts x sum InDoubt hs T
  plain : is_outcome_or_in_doubt (fate_left x InDoubt hs T) ≡ true

course_over : (accounts : Accounts) (x : XidName) (sum : ℤ) (hs : List History) (T : Tables) → Waits accounts x sum T
    → All (OnlyTold x) hs
    → CourseOver accounts x sum hs T
course_over accounts x sum [] T waits told = record { moves = refl; plain = refl }
course_over accounts x sum (h ∷ hs) T waits told =
    let T1 : Tables = reopened (tables_after h T) in
    let rest = All-tail (OnlyTold x) h hs told in
    let fate_after : (fs : List Fate) → fates_in x (coded h T) ≡ fs → fate x InDoubt h T ≡ last_or InDoubt fs = λ fs e.
    late_leave_fates x InDoubt h T ∙ ap (last_or InDoubt) e in
    elim (course_on accounts x sum h T waits (All-head (OnlyTold x) h hs told)) as
    (λ _. CourseOver accounts x sum (h ∷ hs) T) [
      | WaitsOn later none still ↦
          let on = course_over accounts x sum hs T1 (waits_reopened accounts x sum (tables_after h T) later) rest in
          let same : fate_left x InDoubt hs T1 ≡ fate_left x InDoubt (h ∷ hs) T =
          ap (λ g. fate_left x (reopened_fate g) hs T1) (sym (fate_after [] none)) in
          record {
            moves = (λ i. still i +ℤ on.moves i) ∙ none_plus _ ∙ ap (λ g. due g sum) same;
            plain = ap is_outcome_or_in_doubt (sym same) ∙ on.plain;
          }
      | Ended f ended fates gone moves ↦
          let on = gone_over accounts x f hs T1 (outcome_ends f ended) (gone_reopened x (tables_after h T) gone) rest in
          let same : fate_left x InDoubt (h ∷ hs) T ≡ f =
          ap (λ g. fate_left x (reopened_fate g) hs T1) (fate_after (f ∷ []) fates)
          ∙ ap (λ g. fate_left x g hs T1) (at_false (is_live f) RolledBack f (outcome_ends f ended)) ∙ on.same in
          record {
            moves = (λ i. moves i +ℤ on.still i) ∙ plus_none _ ∙ ap (λ g. due g sum) (sym same);
            plain = ap is_outcome_or_in_doubt same ∙ ap (λ b. b || is_in_doubt f) ended;
          }
    ]

pub left_law : (accounts : Accounts) (x : XidName) (hs : List History) (T : Tables) → IsOpening T → IsPrepared x T
    → All (OnlyTold x) hs
    → MovesWhereCommitted accounts x (held_by accounts x T) InDoubt hs T
left_law accounts x hs T o p told = search (arith, nobody_rests, opening_sound, voted_rests, course_over)

-- ---- from before its Prepare on

-- a vote makes the fate, whatever it was
fate_from : (x : XidName) (f : Fate) (before : History) (r : Request) (after : History) (T : Tables)
    → fate_of x r.op (next r.thread r.op (tables_after before T)).1 ≡ Some InDoubt
    → fate_in x f (coded (before ++ r ∷ after) T) ≡ fate_in x InDoubt
    (coded after (next r.thread r.op (tables_after before T)).0)
fate_from x f before r after T e = search (arith, fates_both, cons_option, last_both, r.thread, r.op)

undecided : (d : Option HeuristicDecision) → [] ≡ fates_when d → state_when d ≡ S3
undecided d e = search (arith, rules)

voted_at : (accounts : Accounts) (x : XidName) (before : History) (t : ℕ) (op : Op) (T : Tables) → IsOpening T
    → op ≡ Prepare x
    → (next t op (tables_after before T)).1 ≡ Done
    → Waits accounts x (held_by accounts x (tables_after before T)) (next t op (tables_after before T)).0
voted_at accounts x before t op T o asks =
    let B : Tables = tables_after before T in
    rw asks (λ agrees.
    let U : Tables = (next t (Prepare x) B).0 in
    let waits = outcome_law before [] t x T o agrees (λ k d lt. absurd (omega arith)) in
    let prepared : IsPrepared x U = waits.awaits.state ∙ ap Some (undecided waits.decision waits.fates) in
    record {
      prepared = prepared;
      apart = nobody_rests U (sound_after t (Prepare x) B (run_sound before T (opening_sound T o))) x
          (voted_rests (state_of U x) (ap is_S3 prepared));
      holds = kept_law accounts t x before [] T o agrees (λ k d lt. absurd (omega arith));
    })

-- how it stands as its Prepare is answered, and what follows
record HasVoted (accounts : Accounts) (x : XidName) (f : Fate) (sum : ℤ) (h after : History) (T U : Tables) : Type
    0 where
  waits : Waits accounts x sum U
  tables : tables_after h T ≡ tables_after after U
  fates : fate x f h T ≡ fate x InDoubt after U
  moves : moved accounts (is_for x) h T ≡ moved accounts (is_for x) after U

abbrev tables_voted : (x : XidName) (h : History) (T : Tables) → Votes x h T → Tables
tables_voted x h T votes = (next votes.ask.thread votes.ask.op (tables_after votes.before T)).0

has_voted : (accounts : Accounts) (x : XidName) (f : Fate) (h : History) (T : Tables) (votes : Votes x h T)
    → IsOpening T
    → HasVoted accounts x f (voted_sum accounts x h T votes) h votes.after T (tables_voted x h T votes)
has_voted accounts x f h T votes o =
    let ask : Request = votes.ask in
    let B : Tables = tables_after votes.before T in
    let U : Tables = tables_voted x h T votes in
    let sum : ℤ = held_by accounts x B in
    let now : fate_of x ask.op (next ask.thread ask.op B).1 ≡ Some InDoubt =
    search (arith, at_true, Decides-xid_eq, votes.asks, votes.agrees) in
    let quiet : moved_for accounts x ask.op (next ask.thread ask.op B).1 B ≡ pos 0 =
    still_for accounts x ask.op _ B (ap is_commit votes.asks) in
    subst (λ (g : History). HasVoted accounts x f sum g votes.after T U) (sym votes.parts) (record {
      waits = voted_at accounts x votes.before ask.thread ask.op T o votes.asks votes.agrees;
      tables = tables_after-append votes.before (ask ∷ votes.after) T;
      fates = search (arith, late_leave_fates, fate_from);
      moves = search (arith, moved_both, still_on, none_plus, votes.uncommitted);
    })

module _ (accounts : Accounts) (x : XidName) (f : Fate) (h : History) (later : List History) (T : Tables)
    (votes : Votes x h T) (o : IsOpening T)
    (told : All (OnlyTold x) later) where
  abbrev U : Tables
  U = tables_voted x h T votes

  v : HasVoted accounts x f (voted_sum accounts x h T votes) h votes.after T U
  v = has_voted accounts x f h T votes o

  over : CourseOver accounts x (voted_sum accounts x h T votes) (votes.after ∷ later) U
  over =
      course_over accounts x (voted_sum accounts x h T votes) (votes.after ∷ later) U v.waits
      (All-cons (OnlyTold x) votes.after later votes.told told)

  same_fate : fate_left x f (h ∷ later) T ≡ fate_left x InDoubt (votes.after ∷ later) U
  same_fate = λ i. fate_left x (reopened_fate (v.fates i)) later (reopened (v.tables i))

  pub voted_law : MovesWhereCommitted accounts x (voted_sum accounts x h T votes) f (h ∷ later) T
  voted_law = search (arith, v, over, same_fate)

  pub undecided_law : is_outcome_or_in_doubt (fate_left x f (h ∷ later) T) ≡ true
  undecided_law = ap is_outcome_or_in_doubt same_fate ∙ over.plain

  pub ended_law : is_in_doubt (fate x f h T) ≡ false → fate_left x f (h ∷ later) T ≡ fate x f h T
  ended_law ended =
      let T1 : Tables = reopened (tables_after votes.after U) in
      let here : (gs : List Fate) → fates_in x (coded votes.after U) ≡ gs → fate x f h T ≡ last_or InDoubt gs = λ gs e.
      v.fates ∙ late_leave_fates x InDoubt votes.after U ∙ ap (last_or InDoubt) e in
      elim (course_on accounts x (voted_sum accounts x h T votes) votes.after U v.waits votes.told) as
      (λ _. fate_left x f (h ∷ later) T ≡ fate x f h T) [
        | WaitsOn waits none still ↦ let z : true ≡ false = ap is_in_doubt (sym (here [] none)) ∙ ended in cc
        | Ended g outcome fates gone moves ↦
            let on =
            gone_over accounts x g later T1 (outcome_ends g outcome)
            (gone_reopened x (tables_after votes.after U) gone) told in
            (λ i. fate_left x (reopened_fate (here (g ∷ []) fates i)) later (reopened (v.tables i)))
            ∙ ap (λ q. fate_left x q later T1) (at_false (is_live g) RolledBack g (outcome_ends g outcome)) ∙ on.same
            ∙ sym (here (g ∷ []) fates)
      ]
