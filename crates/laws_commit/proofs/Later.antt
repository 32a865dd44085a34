-- What becomes of a branch that was left, through the openings up to the one with a resolve that reached it.
use Rattle.xa_base.proofs.{◌⊎◌, inl, inr, ◌≡◌, ◌≢◌, ℕ, suc, ◌+◌, Bool, true, false, cond, ◌==◌, ◌||◌, List, [], ◌∷◌}
use Rattle.xa_base.proofs.{◌++◌, length, append_assoc, slice_get, get_or, sym, refl, ap, ◌∙◌, subst, arith, Option}
use Rattle.xa_base.proofs.{Some, All, nat_cmp_total, eqb-true, false_from_ne_true, All-head, All-tail, tied_true}
use Rattle.xa_base.proofs.{all_left, Contains, all_after, some_same, option_map, None, All-contains}
use Rattle.xa_base.proofs.{Contains-append_left, Contains-append_right, rules, all_right, and_right, both_ways}
use Rattle.xa_base.proofs.{Contains-append_cases, contains-insert}
use Rattle.xa_words.specs.{XidName, RmFail, Op, OpenRm, Request, Code, Done, xid_eq, Decides-xid_eq, tran_of}
use Rattle.laws_tables.proofs.UnnamedLaw.{tables_after-append}
use Rattle.xa_tables.proofs.Soundness.{opening_sound}
use Rattle.laws_fates.proofs.ShutLaw.{next-shut, shut_stays}
use Rattle.laws_tables.proofs.PreparedLaw.{opened_on}
use Rattle.xa_tables.specs.{HeuristicDecision, has_opened, decision_code, TablesAndCode, next, open_rm, Fate}
use Rattle.xa_tables.specs.{decided_fate, coded, of_thread, tables_after, last_or, closes, Tables, History, state_of}
use Rattle.xa_tables.specs.{is_left_in, is_prepared, is_in_doubt as is_unknown, AreLeft, reopened, reopened_fate, names}
use Rattle.xa_desk.specs.{LedgerView, numbered, ledger}
use Rattle.xa_switch.specs.{answers, last_in, IsOpenedWith, first_of, history as history_of, ledgers_of, settled_fate}
use Rattle.xa_switch.specs.{ManagerPart, IsSettled, FollowsTables, find_manager, journal_in, Settling}
use Rattle.laws_commit.specs.{ended_as, Tabled, outcome_fate, ResolveCall, resolves, IsUseIn, IsKept, Opening}
use Rattle.laws_commit.specs.{AreInARow, OnlyResolves, uses_of, fate_through, last_of, tables_left}
use Rattle.xa_driver.specs.{outcome_op, Outcome, is_decided, is_to_commit}
use Rattle.xa_base.specs.{MOST_MANAGERS, IsUpTo}
use Rattle.xa_worker.specs.{requests}
use Rattle.xa_scan.specs.{left_at}
use Rattle.xa_tables.specs.declared.state.HeuristicDecision.TheVariants as decision
use Rattle.laws_commit.proofs.Leading.{IsTowards, Standing, led_after, ends_it, waits, unforgotten, over, IsOver}
use Rattle.laws_commit.proofs.Leading.{Stands, by_itself, ends_towards, stands_reopened, is_over}
use Rattle.laws_commit.proofs.Guided.{ended_there, told_there, decided_known, known_stays, led_there}
use Rattle.laws_commit.proofs.Sites.{OpensWithFirst, request_of, part, numbered_both, fates, own_all, code_there}
use Rattle.laws_commit.proofs.Sites.{count_two}
use Rattle.laws_commit.proofs.Resolves.{IsAnsweredIn, IsNoClose, left_has, outcome_asked}
use Rattle.laws_commit.proofs.CutVotes.{named_so, named_tran, sent_is}
use Rattle.laws_commit.proofs.OneOutcome.{FindsMark}
use Rattle.laws_commit.proofs.Settled.{by_ledger, answered_of}

-- a fate, once it ended as was decided
pub last_ended : (commit : Bool) (fs : List Fate) (g : Fate) → g ≡ ended_as commit → All (λ h. h ≡ ended_as commit) fs
    → last_or g fs ≡ ended_as commit
last_ended commit [] g e all = e
last_ended commit (f ∷ fs) g e all =
    last_ended commit fs f (All-head (λ (h : Fate). h ≡ ended_as commit) f fs all)
    (All-tail (λ (h : Fate). h ≡ ended_as commit) f fs all)

-- ---- the request of a resolve that was answered

-- it stands in the history after its thread's OpenRm, with no CloseRm of the thread in between
pub record Placed (t : ℕ) (T : Tables) (H : History) (op : Op) (code : Code) : Type 0 where
  pub first : History
  pub opens : ℕ
  pub mid : History
  pub ends : ℕ
  pub rest : History
  pub place : H ≡ (first ++ request_of t opens OpenRm ∷ mid) ++ request_of t ends op ∷ rest
  pub open_ : All (λ r. closes t r ≡ false) mid
  pub code_is : code ≡ (next t op (tables_after (first ++ request_of t opens OpenRm ∷ mid) T)).1

no_closes : (t : ℕ) (h : History) → All (λ r. r.thread ≡ t → IsNoClose r.op) h → All (λ r. closes t r ≡ false) h
no_closes t h none k d lt = grind (arith, none, eqb-true, and_right)

pub placed : (t : ℕ) (T : Tables) (H : History) (op : Op) (code : Code) (a : LedgerView) (ops : List Op)
    (pairs : List (ℕ × Code))
    → of_thread t H ≡ numbered t 0 ops → All (λ p. slice_get (answers t (coded H T)) p.0 ≡ Some p) pairs
    → IsAnsweredIn op code a ops pairs → Placed t T H op code
placed t T H op code a ops pairs carried answered i =
    let n : ℕ = 0 + length a.sent in
    let m : ℕ = suc n + length i.mid in
    let p =
    part t H (numbered t 0 a.sent) (numbered t (suc n) (i.mid ++ op ∷ i.later)) (request_of t n OpenRm)
    (carried ∙ ap (numbered t 0) i.sent ∙ numbered_both t 0 a.sent (OpenRm ∷ (i.mid ++ op ∷ i.later))) in
    let q =
    part t p.after (numbered t (suc n) i.mid) (numbered t (suc m) i.later) (request_of t m op)
    (p.later ∙ numbered_both t (suc n) i.mid (op ∷ i.later)) in
    let place : H ≡ (p.before ++ request_of t n OpenRm ∷ q.before) ++ request_of t m op ∷ q.after =
    search (arith, request_of, append_assoc, p.before) in
    let more : suc (length a.sent) + length i.mid ≡ m = omega arith in
    record {
      first = p.before;
      opens = n;
      mid = q.before;
      ends = m;
      rest = q.after;
      place = place;
      open_ = no_closes t q.before (own_all t IsNoClose q.before (suc n) i.mid q.earlier i.open_);
      code_is = code_there t H T pairs m code answered (rw more at i.told)
          (p.before ++ request_of t n OpenRm ∷ q.before) q.after op place
          (count_two t n OpenRm p.before q.before a.sent i.mid p.earlier q.earlier ∙ more);
    }

-- a thread that asks to open has the manager open, unless it is shut
opens_now : (t : ℕ) (T : Tables) → T.shut ≡ false → has_opened (next t OpenRm T).0 t ≡ true
unfolding next
opens_now t T open_ =
    ap (λ b. has_opened (cond b (T, RmFail) (open_rm t T)).0 t) open_ ∙ contains-insert nat_cmp_total T.opened t t
    ∙ ap (λ b. b || has_opened T t) (tied_true t t refl)

module _ (commit : Bool) (D L : Type 0) (t : ℕ) (x : XidName) (T : Tables) (H : History) (f : Fate) (code : Code)
    (towards : All (λ r. IsTowards commit L x r.op) H) (st : Standing commit true D L x T f) (reached : code ≢ RmFail)
    (told : (d : HeuristicDecision) → code ≡ decision_code d → L) (z : Placed t T H (outcome_op commit x) code) where
  abbrev before : History
  before = z.first ++ request_of t z.opens OpenRm ∷ z.mid

  abbrev ends : Request
  ends = request_of t z.ends (outcome_op commit x)

  abbrev U : Tables
  U = tables_after before T

  all_here : All (λ r. IsTowards commit L x r.op) (before ++ ends ∷ z.rest)
  all_here = rw z.place at towards

  rest_here : All (λ r. IsTowards commit L x r.op) z.rest
  rest_here = all_after (λ (r : Request). IsTowards commit L x r.op) before ends z.rest all_here

  now : Standing commit true D L x U (last_or f (fates x before T))
  now =
      (led_after commit true D L x before T f
      (all_left (λ (r : Request). IsTowards commit L x r.op) before (ends ∷ z.rest) all_here) st).0

  open_now : U.shut ≡ false
  open_now =
      false_from_ne_true (U.shut)
      (λ shut. reached (z.code_is ∙ ap (λ (a : TablesAndCode). a.1) (next-shut t (outcome_op commit x) U shut)))

  open_first : (tables_after z.first T).shut ≡ false
  open_first = search (arith, false_from_ne_true, both_ways, open_now, tables_after-append, shut_stays)

  has_it : has_opened U t ≡ true
  has_it = search (arith, tables_after-append, request_of, opened_on, opens_now, open_first)

  -- after it the branch is no longer open
  pub placed_ends : Standing commit false D L x (tables_after H T) (last_or f (fates x H T))
  placed_ends =
      led_there commit D L t z.ends x T H before z.rest f z.place now.sound false rest_here
      (ends_it commit D L x (last_or f (fates x before T)) U now.sound t open_now has_it now.stands
      (λ d e. told d (z.code_is ∙ e)))

  -- what it was told is its fate
  module _ (law : Tabled) where
    pub placed_tells : (d : HeuristicDecision) → code ≡ decision_code d → last_or f (fates x H T) ≡ decided_fate d
    placed_tells d e =
        told_there commit D L t z.ends x T H before z.rest f z.place law now (λ k r lt named _. rest_here k r lt named)
        d (sym z.code_is ∙ e)

    pub placed_so : (g : Fate) → outcome_fate commit code ≡ Some g → last_or f (fates x H T) ≡ g
    placed_so g is = by_code code refl is
      where
        by_code : (c : Code) → code ≡ c → outcome_fate commit c ≡ Some g → last_or f (fates x H T) ≡ g
        by_code Done e is =
            ended_there commit D L t z.ends x T H before z.rest f z.place law now
            (λ k r lt named _. rest_here k r lt named) (sym z.code_is ∙ e)
            ∙ some_same (ended_as commit) g is
        by_code c e is = search (arith, placed_tells decision.Commit, placed_tells decision.Rollback, some_same)

-- ---- one opening

found_all : (P : ManagerPart → Type 0) (m : ℕ) (parts : List ManagerPart) (p : ManagerPart) → All P parts
    → find_manager m parts ≡ Some p → P p
found_all P m [] p all e = cc
found_all P m (q ∷ parts) p all e =
    elim (q.number == m) as (λ b. cond b (Some q) (find_manager m parts) ≡ Some p → P p) [
      | true ↦ λ e. let same : q ≡ p = cc in rw same at (All-head P q parts all)
      | false ↦ λ e. found_all P m parts p (All-tail P q parts all) e
    ] e

-- the tables that it leaves are those after its history
pub ends_with : (s : Settling) (m : ℕ) (T : Tables) → IsSettled s → first_of s m ≡ Some T
    → last_in (find_manager m s.managers) ≡ tables_after (history_of s m) T
ends_with s m T settled first =
    of_part (find_manager m s.managers) (λ p e. found_all FollowsTables m s.managers p settled.tables e) first
  where
    of_part : (o : Option ManagerPart) → ((p : ManagerPart) → o ≡ Some p → FollowsTables p)
        → option_map (λ (p : ManagerPart). p.first) o ≡ Some T
        → last_in o ≡ tables_after (requests (journal_in o)) T
    of_part None follows e = cc
    of_part (Some p) follows e =
        let same : p.first ≡ T = cc in (follows p refl).left ∙ ap (tables_after (requests p.journal)) same

module _ (law : Tabled) (first : OpensWithFirst) (commit : Bool) (D L : Type 0)
    (m : ℕ) (up : IsUpTo MOST_MANAGERS m) (x : XidName) where
  -- a decision of the branch that a resolve of the opening was told is listed
  abbrev pub Lists : Opening → Type 0
  Lists o =
      (q : ResolveCall) → Contains o.uses (resolves q) → (r : Outcome) → Contains q.outcomes r → r.m ≡ m → r.xid ≡ x
      → is_decided r.code ≡ true → L

  -- what names the branch leads it
  pub opening_towards : (o : Opening) → IsKept o → OnlyResolves (tran_of x) o
      → All (FindsMark commit (tran_of x) m) o.uses → Lists o
      → All (λ r. IsTowards commit L x r.op) (history_of o.settled m)
  opening_towards o kept only marks lists =
      let all = named_so o.settled kept.settled m up (IsTowards commit L x) (tran_of x) o.uses (λ n. cc) kept.uses
      (λ q there r among. record {
        ends = λ manager is n.
            let same : r.xid ≡ x = (Decides-xid_eq r.xid x).0 (outcome_named r.commit r.xid n) in
            let decided : r.commit ≡ commit =
            is ∙ ap (is_to_commit q.records m) same
            ∙ All-contains (FindsMark commit (tran_of x) m) o.uses (resolves q) marks there in
            subst (λ b. IsTowards commit L x (outcome_op b r.xid)) (sym decided) (ends_towards commit L x r.xid) n;
        forgets = λ manager told n. lists q there r among manager ((Decides-xid_eq r.xid x).0 n) told;
      }) (only m) in
      λ k d lt n. all k d lt (named_tran x (get_or (history_of o.settled m) k d).op n) n
    where
      outcome_named : (b : Bool) (y : XidName) → names x (outcome_op b y) ≡ true → xid_eq y x ≡ true
      outcome_named true y n = n
      outcome_named false y n = n

  -- its fate there, by its history
  fate_so : (o : Opening) (T : Tables) (f : Fate) → IsOpenedWith o.settled m T
      → settled_fate o.settled m x f ≡ last_or f (fates x (history_of o.settled m) T)
  fate_so o T f with_T = with_T.fates x f ∙ law.leaves (history_of o.settled m) x f T

  decided_so : (c : Code) (d : HeuristicDecision) → c ≡ decision_code d → is_decided c ≡ true
  decided_so c d e = grind arith

  -- ---- an opening, where the branch has this fate as it begins with these tables

  pub record IsStep (o : Opening) (T : Tables) (f : Fate) : Type 0 where
    pub kept : IsKept o
    pub begins : first_of o.settled m ≡ Some T
    pub towards : All (λ r. IsTowards commit L x r.op) (history_of o.settled m)
    pub marks : All (FindsMark commit (tran_of x) m) o.uses
    pub lists : Lists o
    pub stands : Stands commit true D L (state_of T x) f

  module _ (o : Opening) (T : Tables) (f : Fate) (w : IsStep o T f) where
    abbrev H : History
    H = history_of o.settled m

    with_T : IsOpenedWith o.settled m T
    with_T = first o.settled m T w.kept.settled w.begins

    pub stands_first : Standing commit true D L x T f
    stands_first = record { stands = w.stands; sound = opening_sound T with_T.opened }

    -- it stands as it did
    step_stands : Stands commit true D L (state_of (tables_after H T) x) (settled_fate o.settled m x f)
    step_stands = rw (fate_so o T f with_T) (led_after commit true D L x H T f w.towards stands_first).0.stands

    -- an outcome of the branch that was answered has its request in the history
    module _ (q : ResolveCall) (there : Contains o.uses (resolves q)) where
      open q use {thread as t}

      use_ : IsUseIn o.settled (resolves q)
      use_ = All-contains (IsUseIn o.settled) o.uses (resolves q) w.kept.uses there

      carried : of_thread t H ≡ numbered t 0 (ledger (ledgers_of o.settled t) m).sent
      carried = (w.kept.settled.agree t m).carried ∙ ap (numbered t 0) (sent_is o.settled m up.0 t)

      answered : All (λ p. slice_get (answers t (coded H T)) p.0 ≡ Some p) (ledger (ledgers_of o.settled t) m).collected
      answered =
          rw (by_ledger (ledgers_of o.settled t) m (λ (z : LedgerView). z.collected) up.0 refl) at
          (answered_of law o.settled w.kept.settled t m T with_T)

      pub answered_at : (r : Outcome) → Contains q.outcomes r → r.m ≡ m → r.xid ≡ x → r.code ≢ RmFail
          → Placed t T H (outcome_op commit x) r.code
      answered_at r among own same reached =
          let asked =
          outcome_asked q.scan q.records q.old q.new q.outcomes use_.made m up (ledger (ledgers_of o.settled t) m)
          (use_.grown.each m up.0) r among own in
          let decided : r.commit ≡ commit = search (arith, All-contains) in
          search (arith, placed, carried, answered, r.code, asked.answered)

      -- where it was left, and the resolve reached all, it is no longer open
      module _ (scan : AreLeft (left_at q.scan m) T)
          (reached : (r : Outcome) → Contains q.outcomes r → r.m ≡ m → r.xid ≡ x → r.code ≢ RmFail) where
        left_ends : is_left_in (state_of T x) ≡ true
            → Standing commit false D L x (tables_after H T) (last_or f (fates x H T))
        left_ends left =
            let r =
            left_has q.scan q.records q.old q.new q.outcomes use_.made m up (ledger (ledgers_of o.settled t) m)
            (use_.grown.each m up.0) x (scan.each x ∙ left) in
            let in_time : r.0.code ≢ RmFail = reached r.0 r.1.0 r.1.1.0 r.1.1.1 in
            placed_ends commit D L t x T H f r.0.code w.towards stands_first in_time
            (λ d e. w.lists q there r.0 r.1.0 r.1.1.0 r.1.1.1 (decided_so r.0.code d e))
            (answered_at r.0 r.1.0 r.1.1.0 r.1.1.1 in_time)

        by_standing : Stands commit true D L (state_of T x) f
            → Standing commit false D L x (tables_after H T) (last_or f (fates x H T))
        by_standing (waits y open_ e g) = left_ends (ap is_left_in e)
        by_standing (unforgotten d e g l) = left_ends (ap is_left_in e)
        by_standing (over e g) =
            (led_after commit false D L x H T f w.towards (record { stands = over e g; sound = stands_first.sound })).0

        -- so it isn't prepared any more
        pub step_rests : is_prepared (tables_after H T) x ≡ false
        step_rests = let stands = (by_standing w.stands).stands in search (arith, rules)

        pub step_ends : IsOver commit D L (settled_fate o.settled m x f)
        step_ends =
            rw (fate_so o T f with_T)
            (is_over commit D L (state_of (tables_after H T) x) (last_or f (fates x H T))
            (by_standing w.stands).stands)

  -- ---- one after another, after one that left these tables and this fate

  abbrev pub Walk : List Opening → Tables → Fate → Type 0
  Walk [] T f = Unit {0}
  Walk (o ∷ os) T f =
      IsStep o (reopened T) (reopened_fate f) × Walk os (tables_after (history_of o.settled m) (reopened T))
      (settled_fate o.settled m x (reopened_fate f))

  pub walk : (os : List Opening) (o : Opening) (T : Tables) (f : Fate) → IsKept o → first_of o.settled m ≡ Some T
      → All IsKept os → AreInARow o os
      → All (OnlyResolves (tran_of x)) os → All (FindsMark commit (tran_of x) m) (uses_of os)
      → ((q : ResolveCall) → Contains (uses_of os) (resolves q) → (r : Outcome) → Contains q.outcomes r → r.m ≡ m
      → r.xid ≡ x → is_decided r.code ≡ true → L)
      → Stands commit true D L (state_of (tables_after (history_of o.settled m) T) x) f
      → Walk os (tables_after (history_of o.settled m) T) f
  walk [] o T f kept_o begins kept row only marks lists st = tt
  walk (p ∷ ps) o T f kept_o begins kept row only marks lists st =
      let V : Tables = tables_after (history_of o.settled m) T in
      let kept_p : IsKept p = All-head IsKept p ps kept in
      let begins_p : first_of p.settled m ≡ Some (reopened V) =
      search (arith, ends_with, row.0, o.settled, kept_o.settled) in
      let marks_p : All (FindsMark commit (tran_of x) m) p.uses =
      all_left (FindsMark commit (tran_of x) m) p.uses (uses_of ps) marks in
      let lists_p : Lists p = λ q among. lists q (Contains-append_left p.uses (uses_of ps) (resolves q) among) in
      let towards = opening_towards p kept_p (All-head (OnlyResolves (tran_of x)) p ps only) marks_p lists_p in
      let step : IsStep p (reopened V) (reopened_fate f) =
      record {
        kept = kept_p;
        begins = begins_p;
        towards = towards;
        marks = marks_p;
        lists = lists_p;
        stands = stands_reopened commit true D L x V f st;
      } in (
        step,
        walk ps p (reopened V) (settled_fate p.settled m x (reopened_fate f)) kept_p begins_p
            (All-tail IsKept p ps kept) row.1 (All-tail (OnlyResolves (tran_of x)) p ps only)
            (all_right (FindsMark commit (tran_of x) m) p.uses (uses_of ps) marks)
            (λ q among. lists q (Contains-append_right p.uses (uses_of ps) (resolves q) among))
            (step_stands p (reopened V) (reopened_fate f) step),
      )

  -- where a resolve of the last reached all, it is over, and isn't prepared at its end
  pub walk_ends : (o : Opening) (between : List Opening) (last : Opening) (q : ResolveCall) (T : Tables) (f : Fate)
      → Contains last.uses (resolves q)
      → ((n : ℕ) (U : Tables) → first_of last.settled n ≡ Some U → AreLeft (left_at q.scan n) U)
      → ((r : Outcome) → Contains q.outcomes r → r.m ≡ m → r.xid ≡ x → r.code ≢ RmFail)
      → Walk (between ++ last ∷ []) T f
      → IsOver commit D L (fate_through m x f (between ++ last ∷ []))
      × (is_prepared (tables_left (last_of o (between ++ last ∷ [])) m) x ≡ false)
  walk_ends o [] last q T f there scan reached w = (
    step_ends last (reopened T) (reopened_fate f) w.0 q there (scan m (reopened T) w.0.begins) reached,
    ap (λ (U : Tables). is_prepared U x) (ends_with last.settled m (reopened T) w.0.kept.settled w.0.begins)
        ∙ step_rests last (reopened T) (reopened_fate f) w.0 q there (scan m (reopened T) w.0.begins) reached,
  )
  walk_ends o (p ∷ between) last q T f there scan reached w =
      walk_ends p between last q (tables_after (history_of p.settled m) (reopened T))
      (settled_fate p.settled m x (reopened_fate f)) there scan reached w.1

  -- ---- a decision

  -- the fate stays it
  step_after : (d : HeuristicDecision) (o : Opening) (T : Tables) (f : Fate) → IsStep o T f → f ≡ decided_fate d
      → settled_fate o.settled m x f ≡ decided_fate d
  step_after d o T f w e =
      fate_so o T f (first o.settled m T w.kept.settled w.begins)
      ∙ ap (last_or f)
      (known_stays commit D L x (history_of o.settled m) T f (ap is_unknown e ∙ decided_known d) w.towards
      (stands_first o T f w))
      ∙ e

  -- a resolve of these openings was told the decision
  abbrev pub Told : HeuristicDecision → List Opening → Type 0
  Told d os =
      (q : ResolveCall) × (r : Outcome) × Contains (uses_of os) (resolves q) × Contains q.outcomes r × (r.m ≡ m)
      × (r.xid ≡ x) × (r.code ≡ decision_code d)

  -- is the fate after the resolve
  step_tells : (d : HeuristicDecision) (o : Opening) (T : Tables) (f : Fate) → IsStep o T f → (q : ResolveCall)
      → Contains o.uses (resolves q) → (r : Outcome)
      → Contains q.outcomes r → r.m ≡ m → r.xid ≡ x → r.code ≡ decision_code d
      → settled_fate o.settled m x f ≡ decided_fate d
  step_tells d o T f w q there r among own same e =
      let reached : r.code ≢ RmFail = λ f. both_ways (is_decided r.code) (ap is_decided f) (decided_so r.code d e) in
      fate_so o T f (first o.settled m T w.kept.settled w.begins)
      ∙ placed_tells commit D L q.thread x T (history_of o.settled m) f r.code w.towards (stands_first o T f w) reached
      (λ k is. w.lists q there r among own same (decided_so r.code k is))
      (answered_at o T f w q there r among own same reached) law d e

  -- so it is in the end, as is one that was the fate already
  pub walk_decides : (d : HeuristicDecision) (os : List Opening) (T : Tables) (f : Fate) → Walk os T f
      → (f ≡ decided_fate d) ⊎ Told d os
      → fate_through m x f os ≡ decided_fate d
  walk_decides d [] T f w (inl e) = e
  walk_decides d [] T f w (inr z) = absurd (omega (arith, z.2.1))
  walk_decides d (o ∷ os) T f w h =
      let T0 : Tables = reopened T in
      let f0 : Fate = reopened_fate f in
      walk_decides d os (tables_after (history_of o.settled m) T0) (settled_fate o.settled m x f0) w.1 (elim h [
        | inl e ↦ inl (step_after d o T0 f0 w.0 (ap reopened_fate e ∙ by_itself d))
        | inr z ↦ elim (Contains-append_cases o.uses (uses_of os) (resolves z.0) z.2) [
          | inl here ↦ inl (step_tells d o T0 f0 w.0 z.0 here z.1 z.3 z.4 z.5 z.6)
          | inr later ↦ inr (z.0, z.1, later, z.3, z.4, z.5, z.6)
        ]
      ])
