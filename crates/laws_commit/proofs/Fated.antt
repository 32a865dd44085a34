-- What became of a branch that nobody else named, but for heuristic decisions, over the settled history of its manager.
use Rattle.xa_base.proofs.{and_right, ne_eqb, rules, all_mid, all_left, all_after, some_same, by_bool, by_if, at_true}
use Rattle.xa_base.proofs.{◌⊎◌, ◌≡◌, ℕ, suc, ◌+◌, ◌<◌, inl, inr, Bool, true, false, ◌||◌, if◌then◌else◌, List, [], ◌∷◌}
use Rattle.xa_base.proofs.{◌++◌, append-nil, append_assoc, get_or, sym, refl, ap, ◌∙◌, arith, Option, Some, None, All}
use Rattle.xa_base.proofs.{cons_option, both_ways, true_from_ne_false}
use Rattle.laws_commit.specs.{ends_in_doubt, OnlyTheseName, IsBetween, OnlyTheseOrDecisionsName, IsAfterShut}
use Rattle.laws_commit.specs.{IsDecidedAfter, told_fate, ends_left, ends_heuristic, ended_as}
use Rattle.std.proofs.lemmas.Bool.{or_left}
use Rattle.xa_driver.specs.{is_heuristic as is_heuristic_code, outcome_op, Ending, Committed, ReadOnly, RolledBack}
use Rattle.xa_driver.specs.{Heuristic, Left, is_yes, yes_ending, no_ending}
use Rattle.xa_words.specs.{XidName, xid_eq, Done, RbIntegrity, RmFail, Op, Prepare, Rollback, Request, Code}
use Rattle.xa_words.specs.{is_rolled_back, is_done}
use Rattle.xa_words.proofs.Xids.{xid_self}
use Rattle.laws_tables.proofs.UnnamedLaw.{tables_after-append, unnamed_fate}
use Rattle.xa_tables.specs.{is_close, IsToldDecision, HeuristicDecision, is_S3, is_prepared, decision_code, next, Fate}
use Rattle.xa_tables.specs.{fate, fate_in, fate_of, coded, tables_after, last_or, is_in_doubt as is_unknown}
use Rattle.xa_tables.specs.{prepare_fate, decided_fate, IsFateOf, names, OnlyDecides, LeavesWaiting, AwaitsAfter}
use Rattle.xa_tables.specs.{is_heur, is_forget, answer_when, fates_when, Tables, History}
use Rattle.xa_tables.specs.Histories as history
use Rattle.laws_commit.proofs.Courses.{Reads, Breaks, Stays, Agrees, Refuses, Asked, Sends, SendsOne, Course}
use Rattle.laws_commit.proofs.Courses.{rest_forgets}
use Rattle.laws_commit.proofs.Sites.{StandsIn, request_of, fates, fates_both, fate_is, last_both, Site, above, Second}
use Rattle.laws_commit.proofs.Sites.{second_of}
use Rattle.laws_commit.proofs.Guided.{is_known_so, tells_so, told_decided}
use Rattle.laws_commit.proofs.Leading.{ends_fate}

-- ---- decisions that were carried out

-- the request that makes the one fate of a history
record Found (x : XidName) (f : Fate) (g : History) (T : Tables) : Type 0 where
  before : History
  request : Request
  after : History
  place : g ≡ before ++ request ∷ after
  fate_here : fate_of x request.op (next request.thread request.op (tables_after before T)).1 ≡ Some f

found : (x : XidName) (f : Fate) (g : History) (T : Tables) → fates x g T ≡ f ∷ [] → Found x f g T
found x f [] T e = cc
found x f (r ∷ g) T e =
    let T1 : Tables = (next r.thread r.op T).0 in
    elim (fate_of x r.op (next r.thread r.op T).1) as
    (λ o. fate_of x r.op (next r.thread r.op T).1 ≡ o → cons_option o (fates x g T1) ≡ f ∷ [] → Found x f (r ∷ g) T) [
      | None ↦ λ none e.
          let on = found x f g T1 e in
          record {
            before = r ∷ on.before;
            request = on.request;
            after = on.after;
            place = ap (λ l. r ∷ l) on.place;
            fate_here = on.fate_here;
          }
      | Some h ↦ λ is e.
          let same : h ≡ f = cc in
          record { before = []; request = r; after = g; place = refl; fate_here = is ∙ ap Some same }
    ] refl e

-- a decision that was carried out after a Prepare, before what is after it
pub decided_in : {t n : ℕ} {x : XidName} {T : Tables} {H : History} {c : Code} (f : StandsIn t n (Prepare x) c T H)
    (g h : History)
    → f.after ≡ g ++ h
    → All (λ q. names x q.op ≡ true → is_heur q.op ≡ true) g → (d : HeuristicDecision)
    → fates x g (next t (Prepare x) (tables_after f.before T)).0 ≡ decided_fate d ∷ [] → IsDecidedAfter x t n T H
decided_in {t} {n} {x} {T} {H} f g h split heur d made =
    let p = found x (decided_fate d) g (next t (Prepare x) (tables_after f.before T)).0 made in
    let named : names x p.request.op ≡ true = true_from_ne_false (names x p.request.op) (λ n.
    let none : None ≡ Some (decided_fate d) = sym (unnamed_fate x p.request.op _ n) ∙ p.fate_here in cc) in
    let Q : Request → Type 0 = λ q. names x q.op ≡ true → is_heur q.op ≡ true in
    let by_itself = all_mid Q p.before p.after p.request (rw p.place at heur) named in
    search (arith, request_of, append_assoc, tables_after-append, f.place, p.before, p.request.thread, p.request.op)

-- a request for the outcome that is told a decision makes nothing of the branch
pub outcome_quiet : (commit : Bool) (x : XidName) (d : HeuristicDecision)
    → fate_of x (outcome_op commit x) (decision_code d) ≡ None
outcome_quiet commit x d = grind (arith, at_true, xid_self)

-- a heuristic ending that tells a fate tells a decision
told_decision : (c : Code) (g : Fate) → told_fate (Heuristic c) ≡ Some g
    → (d : HeuristicDecision) × (c ≡ decision_code d) × (g ≡ decided_fate d)
told_decision c g is = grind arith

-- ---- what became of a branch

-- by its manager's history
pub record Told (t : ℕ) (x : XidName) (f0 : Fate) (T : Tables) (H : History) (n : ℕ) (vote : Code) (e : Ending) : Type
    0 where
  pub reached : is_yes vote ≡ true → ends_left e ≡ false
  pub shut : is_yes vote ≡ true → ends_in_doubt e ≡ true → IsAfterShut t (n + 1) H
  pub decided : is_yes vote ≡ true → ends_heuristic e ≡ true → IsDecidedAfter x t n T H
  pub named : is_yes vote ≡ true → ends_heuristic e ≡ true
      → (d : HeuristicDecision) × (told_fate e ≡ Some (decided_fate d))
  pub told : (f : Fate) → told_fate e ≡ Some f → fate x f0 H T ≡ f
  pub doubt : ends_in_doubt e ≡ true
      → (fate x f0 H T ≡ history.InDoubt) ⊎
      ((d : HeuristicDecision) × ((fate x f0 H T ≡ decided_fate d) × IsDecidedAfter x t n T H))

module _ {t : ℕ} {T : Tables} {H : History} (a : Asked t T H) (f0 : Fate) (fits : IsFateOf a.xid f0 T)
    (only : OnlyTheseOrDecisionsName a.xid t a.number a.last H) where
  open a use {site, xid as x, number as n, last, vote}

  abbrev Goal : Ending → Type 0
  Goal e = Told t x f0 T H n vote e

  -- a request that gave the branch a fate by which it isn't prepared left it so
  ended : (before after : History) (r : Request) (f : Fate) → H ≡ before ++ r ∷ after
      → fate_of x r.op (next r.thread r.op (tables_after before T)).1 ≡ Some f
      → is_unknown f ≡ false → OnlyDecides x after → fate x f0 H T ≡ f
  ended before after r f place e known only_after =
      let there : Tables = (next r.thread r.op (tables_after before T)).0 in
      let so_far : fate x f0 (before ++ r ∷ []) T ≡ f =
      site.law.leaves (before ++ r ∷ []) x f0 T ∙ fate_is x before [] r T f0 f e refl in
      let unprepared : is_prepared there x ≡ false = search (arith, tables_after-append) in
      site.law.leaves H x f0 T ∙ ap (λ (h : History). fate_in x f0 (coded h T)) place
      ∙ fate_is x before after r T f0 f e (site.law.undecided after x there unprepared only_after)

  -- a vote that doesn't agree, and an ending that tells nothing, or what became of it
  no_vote : (e : Ending) → is_yes vote ≡ false → ends_in_doubt e ≡ false
      → ((f : Fate) → told_fate e ≡ Some f → fate x f0 H T ≡ f) → Goal e
  no_vote e y sure told = search (arith, rules)

  -- an ending as was decided
  ended_goal : (commit : Bool) → fate x f0 H T ≡ ended_as commit → Goal (if commit then Committed else RolledBack)
  ended_goal commit is = search (arith, some_same)

  -- ---- the Prepare alone was sent

  module _ (z : SendsOne a) where
    open z use {first as alone}

    decides_after : OnlyDecides x alone.after
    decides_after k d lt named =
        or_left (is_heur (get_or alone.after k d).op) (is_forget (get_or alone.after k d).op)
        (true_from_ne_false (is_heur (get_or alone.after k d).op) (λ h.
        let between : IsBetween t n last (get_or alone.after k d) = search (arith, request_of) in
        let up = above site n (Prepare x) alone.before alone.after alone.place k d lt between.thread in
        let down = between.below in let limit = z.limit in omega (arith, up, down, limit)))

    -- the vote tells what became of it
    voted_so : (e : Ending) (f : Fate) → is_yes vote ≡ false → ends_in_doubt e ≡ false → told_fate e ≡ Some f
        → prepare_fate vote ≡ Some f → is_unknown f ≡ false
        → Goal e
    voted_so e f y sure named makes known =
        let own : fate_of x (Prepare x) (next t (Prepare x) (tables_after alone.before T)).1 ≡ Some f =
        search (arith, at_true, xid_self) in
        no_vote e y sure
        (λ g is. ended alone.before alone.after (request_of t n (Prepare x)) f alone.place own known decides_after
        ∙ (let s : Some f ≡ Some g = sym named ∙ is in cc))

  -- ---- a second request was sent

  module _ (commit : Bool) (c : Code) (z : Sends a (outcome_op commit x) c) where
    abbrev op : Op
    op = outcome_op commit x

    open z use {first as f}

    abbrev s : Second site n (Prepare x) vote f op c
    s = second_of site n (Prepare x) vote f op c z.second

    abbrev S : Request
    S = request_of t (suc n) op

    abbrev now : Tables
    now = (next t (Prepare x) (tables_after f.before T)).0

    abbrev there : Tables
    there = tables_after s.mid now

    abbrev all_before : History
    all_before = f.before ++ request_of t n (Prepare x) ∷ s.mid

    -- a request after its Prepare, which may be a heuristic decision; else it names the branch only as one of the
    -- thread's own
    abbrev Allowed : Request → Type 0
    Allowed q = names x q.op ≡ true → is_heur q.op ≡ false → IsBetween t n last q

    allowed : All Allowed (s.mid ++ S ∷ s.rest)
    allowed = rw s.split at (only f.before f.after (request_of t n (Prepare x)) f.place refl refl)

    -- others name it only in heuristic decisions, and close nothing for the thread
    waiting : LeavesWaiting t x s.mid
    waiting k d lt =
        let differs = s.others k d lt in (
          λ named. true_from_ne_false (is_heur (get_or s.mid k d).op)
              (λ h. differs (all_left Allowed s.mid (S ∷ s.rest) allowed k d lt named h).thread),
          and_right (is_close (get_or s.mid k d).op) _ (ne_eqb (get_or s.mid k d).thread t differs),
        )

    -- and what the thread itself still sends of it are Forgets
    decides_rest : OnlyDecides x s.rest
    decides_rest k d lt named =
        by_bool (λ b. (b || is_forget (get_or s.rest k d).op) ≡ true) (is_heur (get_or s.rest k d).op) (λ _. refl)
        (λ h. let between = all_after Allowed s.mid S s.rest allowed k d lt named h in rest_forgets a op c z f s k d lt
        between.thread between.below)

    code_there : c ≡ (next t op (tables_after all_before T)).1
    code_there = s.code ∙ ap (λ (U : Tables). (next t op U).1) (sym s.there_is)

    -- the second request ended it
    ended_by : (g : Fate) → fate_of x op c ≡ Some g → is_unknown g ≡ false → fate x f0 H T ≡ g
    ended_by g makes known =
        ended all_before s.rest S g s.place (ap (fate_of x op) (sym code_there) ∙ makes) known decides_rest

    -- it was told a decision
    told_by : (d : HeuristicDecision) → fate_of x op c ≡ None
        → IsToldDecision x d (tables_after all_before T) (next t op (tables_after all_before T))
        → fate x f0 H T ≡ decided_fate d
    told_by d none is =
        let U : Tables = tables_after all_before T in
        let unprepared : is_prepared (next t op U).0 x ≡ false =
        ap (λ (V : Tables). is_prepared V x) is.unchanged ∙ ap is_S3 is.state in
        let quiet : fates x (S ∷ s.rest) U ≡ [] = search (arith, cons_option, code_there, decides_rest) in
        let told : fate x f0 all_before T ≡ decided_fate d =
        (site.law.kept all_before x f0 T site.opening fits).decided d is.state in
        search (arith, fates_both, append-nil, site.law.leaves, s.place)

    -- ---- after a yes vote

    module _ (agreed : vote ≡ Done) where
      w : AwaitsAfter t x s.mid now
      w = site.law.awaits f.before s.mid t x T site.opening (sym f.code ∙ agreed) waiting

      -- a decision of it was carried out between the two
      decided_between : (d : HeuristicDecision) → fates x s.mid now ≡ decided_fate d ∷ [] → IsDecidedAfter x t n T H
      decided_between d made = decided_in f s.mid (S ∷ s.rest) s.split (λ k d lt. (waiting k d lt).0) d made

      -- the manager is shut at its second request, and what became of it since its Prepare is all
      at_shut : there.shut ≡ true → fates x f.after now ≡ fates_when w.decision
      at_shut closed =
          ap (λ (h : History). fates x h now) s.split ∙ fates_both x s.mid (S ∷ s.rest) now
          ∙ (λ i. w.fates i ++ site.law.silent (S ∷ s.rest) x there closed i) ∙ append-nil (fates_when w.decision)

      first_fate : (fs : List Fate) → fates x f.after now ≡ fs → fate x f0 H T ≡ last_or history.InDoubt fs
      first_fate fs made = search (arith, at_true, xid_self, fates_both, request_of, cons_option, last_both)

      in_doubt : there.shut ≡ true
          → (fate x f0 H T ≡ history.InDoubt) ⊎
          ((d : HeuristicDecision) × ((fate x f0 H T ≡ decided_fate d) × IsDecidedAfter x t n T H))
      in_doubt closed =
          elim (w.decision) as
          (λ o. fates x s.mid now ≡ fates_when o → fates x f.after now ≡ fates_when o
          → (fate x f0 H T ≡ history.InDoubt) ⊎
          ((d : HeuristicDecision) × ((fate x f0 H T ≡ decided_fate d) × IsDecidedAfter x t n T H))) [
            | None ↦ λ made all. inl (first_fate [] all)
            | Some d ↦ λ made all. inr (d, (first_fate (decided_fate d ∷ []) all, decided_between d made))
          ] w.fates (at_shut closed)

      -- what a prepared branch comes to, by the decision
      outcome : Goal (yes_ending commit (Some c))
      outcome =
          elim (there.shut) as
          (λ l. there.shut ≡ l → c ≡ (if l then RmFail else answer_when w.decision)
          → Goal (yes_ending commit (Some c))) [
            | true ↦ λ closed is.
                rw is
                (record {
                  reached = λ _. refl;
                  shut = λ _ _. search (arith, rules);
                  decided = λ _ h. cc;
                  named = λ _ h. cc;
                  told = λ h i. cc;
                  doubt = λ _. in_doubt closed;
                })
            | false ↦ λ opened is. by_answer w.decision w.fates is
          ] refl (s.code ∙ (grind (arith, w.awaits.commits, w.awaits.rolls_back, w.awaits)))
        where
          by_answer : (o : Option HeuristicDecision) → fates x s.mid now ≡ fates_when o → c ≡ answer_when o
              → Goal (yes_ending commit (Some c))
          by_answer None made is =
              rw is
              (ended_goal commit
              (ended_by (ended_as commit) (ap (fate_of x op) is ∙ ends_fate commit x)
              (is_known_so (ended_as commit) commit refl)))
          by_answer (Some d) made is =
              let fate_is_so : fate x f0 H T ≡ decided_fate d =
              told_by d (ap (fate_of x op) is ∙ outcome_quiet commit x d)
              (tells_so site.law commit t x d (tables_after all_before T) (sym code_there ∙ is)) in
              search (arith, decided_between, told_decided, some_same)

  -- ---- after a vote against

  refused : (c : Code) → is_yes vote ≡ false → Sends a (Rollback x) c → Goal (no_ending vote (Some c))
  refused c y z =
      by_if Goal (is_done c || is_rolled_back c) RolledBack _ (λ back.
      no_vote RolledBack y refl (λ g is. ended_by false c z history.RolledBack
      (at_true (xid_eq x x) _ None (xid_self x) ∙ at_true (is_done c || is_rolled_back c) _ None back) refl
      ∙ (let q : Some history.RolledBack ≡ Some g = is in cc))) (λ _.
      by_if Goal (is_heuristic_code c) (Heuristic c) (Left c) (λ _. no_vote (Heuristic c) y refl (heuristic_told c z))
      (λ _. no_vote (Left c) y refl (λ g is. cc)))
    where
      heuristic_told : (c : Code) → Sends a (Rollback x) c → (g : Fate) → told_fate (Heuristic c) ≡ Some g
          → fate x f0 H T ≡ g
      heuristic_told c z g is =
          let d = told_decision c g is in
          told_by false c z d.0 (ap (fate_of x (Rollback x)) d.1 ∙ outcome_quiet false x d.0)
          (tells_so site.law false t x d.0 _ (sym (code_there false c z) ∙ d.1))
          ∙ sym d.2

  by_course : {commit : Bool} {e : Ending} → Course a commit e → Goal e
  by_course (Stays c y own) = no_vote (Left c) y refl (λ f e. cc)
  by_course (Reads r z) = voted_so z ReadOnly history.ReadOnly (ap is_yes r) refl refl (ap prepare_fate r) refl
  by_course (Breaks y k z) =
      let code : vote ≡ RbIntegrity =
      z.first.code
      ∙ site.law.breaks t x (tables_after z.first.before T) (sym (ap is_rolled_back z.first.code) ∙ k) in
      voted_so z RolledBack history.RolledBack y refl refl (ap prepare_fate code) refl
  by_course {commit = commit} (Agrees c y z) = outcome commit c z y
  by_course (Refuses c y z) = refused c y z

-- what became of a branch of a commit that nobody else named, but for heuristic decisions
pub branch_told : {t : ℕ} {T : Tables} {H : History} {a : Asked t T H} {commit : Bool} {ending : Ending}
    → Course a commit ending → (f0 : Fate)
    → IsFateOf a.xid f0 T → OnlyTheseOrDecisionsName a.xid t a.number a.last H
    → Told t a.xid f0 T H a.number a.vote ending
branch_told {a = a} course f0 fits only = by_course a f0 fits only course

-- where nobody else names it, and its thread decides nothing, no decision of it was carried out
pub none_decides : {t : ℕ} {T : Tables} {H : History} (site : Site t T H) (x : XidName) (n last : ℕ)
    → OnlyTheseName x t n last H
    → All (λ r. r.thread ≡ t → n < r.number → r.number < last → is_heur r.op ≡ false) H → IsDecidedAfter x t n T H → ⊥
none_decides {t} {T} {H} site x n last only plain d =
    let Plain : Request → Type 0 = λ r. r.thread ≡ t → n < r.number → r.number < last → is_heur r.op ≡ false in
    let op : Op = d.request.op in
    let tail : History = d.between ++ d.decision ∷ d.after in
    let place : H ≡ d.before ++ request_of t n op ∷ tail =
    d.place ∙ (λ i. d.before ++ record { thread = d.thread i; number = d.number i; op = op } ∷ tail) in
    let own =
    all_mid (λ (q : Request). names x q.op ≡ true → IsBetween t n last q) d.between d.after d.decision
    (only d.before tail d.request d.place d.thread d.number) d.named in
    let up =
    all_mid (λ (q : Request). q.thread ≡ t → n < q.number) d.between d.after d.decision
    (above site n op d.before tail place) own.thread in
    both_ways (is_heur d.decision.op)
    (all_mid Plain (d.before ++ d.request ∷ d.between) d.after d.decision
    (rw (d.place ∙ sym (append_assoc d.before (d.request ∷ d.between) (d.decision ∷ d.after))) at plain) own.thread
    up own.below) d.decides
