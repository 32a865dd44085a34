-- A leg of a transfer whose commit was made or cut short comes out by the log, once the night's resolve is made.
use Rattle.xa_base.proofs.{after_seam, rules, pos, if◌then◌else◌, ◌≡◌, ◌≢◌, ℕ, ◌+◌, ◌^◌, ◌<◌, ◌≤◌, true, false, List}
use Rattle.xa_base.proofs.{[], ◌∷◌, ◌++◌, length, length-append, all_left, append_assoc, get_or, slice_get, sym, refl}
use Rattle.xa_base.proofs.{ap, ◌∙◌, arith, Option, None, Some, option_map, All, Contains, cases_lt, All-nil, All-cons}
use Rattle.xa_base.proofs.{All-head, All-tail, All-contains, begins_on, is_some, Bool, All-weaker, Contains-append_left}
use Rattle.xa_words.specs.{key_eq, RdOnly, Op, Prepare, Request, Code, TranName, tran_of, RmFail}
use Rattle.laws_tables.specs.{DoesWork}
use Rattle.xa_tables.specs.{Tables, next, of_thread, tables_after, coded, names, is_heur, held_by, History, state_of}
use Rattle.xa_desk.specs.{LedgerView, ledger, HasGrown, numbered, DeskView, HaveGrown}
use Rattle.xa_worker.specs.{requests}
use Rattle.xa_switch.specs.{Settling, IsSettled, ManagerPart, find_manager, sent, journal, journal_in, answers}
use Rattle.xa_switch.specs.{IsOpenedWith, first_of, history, ledgers_of, Again}
use Rattle.xa_switch.proofs.SettledOpenings.{follows_first}
use Rattle.xa_driver.specs.{is_commit, Branch, Outcome, is_to_commit as is_marked, is_recorded_at as names_manager}
use Rattle.xa_driver.specs.{IsTranOf}
use Rattle.xa_driver.proofs.Requests.{numbered_length}
use Rattle.laws_commit.specs.{taken_before, IsBetween, is_recorded, OnlyTheseOrDecisionsName, AskedAreLeft, IsResolved}
use Rattle.laws_commit.specs.{WasAsked, CommitCall, IsOutcomeOf, IsUseIn, OnlyResolves, Opening, ResolveCall}
use Rattle.laws_commit.specs.{commit_call, commits, resolves, with_use}
use Rattle.laws_commit.proofs.Values.{taken_is}
use Rattle.laws_commit.proofs.CutVotes.{prepare_part}
use Rattle.laws_commit.proofs.Sites.{answer_at, request_of, same_code, IsFromTo, all_earlier, own_between}
use Rattle.laws_commit.proofs.Settled.{by_ledger}
use Rattle.laws_balances.specs.{CommitsNowhere, DecidesNowhere, IsMarkedNowhere, DayLeg, IsItsOwn, leg_of, OnlyRead}
use Rattle.laws_balances.specs.{ComesOutByTheLog}
use Rattle.laws_balances.proofs.AtWork.{work_held, work_never_reads}
use Rattle.xa_work.specs.{HasSent, HaveSent, HaveWorked}
use Rattle.demo_bank.proofs.Named.{IsOf, Names, Is, IsFrom, LegsOf, IsBelow, IsTold, NamedWithin, named_within, Earlier}
use Rattle.demo_bank.proofs.Named.{only_these}
use Rattle.demo_bank.proofs.Legs.{AnyLeg, LegWorked, leg_work, legs_worked, work_answered, work_done, taken}
use Rattle.demo_bank_days.proofs.Come.{Obeys, HasCome, ObeysAt, OnlyReads, IsLow, few_left, fewer, fewer_call}
use Rattle.demo_bank_days.proofs.Come.{fewer_cut, fewer_grown, same_ledger}
use Rattle.xa_base.specs.{MOST_MANAGERS, IsUpTo}
use Rattle.xa_log.specs.{LogState, Records, record_in, record_of}
use Rattle.laws_commit.proofs.NextOpening.{next_resolved, one_of}
use Rattle.laws_balances.proofs.Legs.{tran_each}
use Rattle.laws_balances.specs.SettledDays.{voted, unasked}
use Rattle.demo_bank.specs.{branches_of_legs, changes_of}
use Rattle.demo_bank_days.specs.{IsResolvedBy}

-- a manager that took something began with tables
begins : (o : Option ManagerPart) → (requests (journal_in o) ≡ [] → ⊥)
    → (T : Tables) × (option_map (λ (p : ManagerPart). p.first) o ≡ Some T)
begins None took = absurd (took refl)
begins (Some p) took = (p.first, refl)

-- ---- the leg

-- A leg of thread t's transfer of number n: its work took its store's ledger to a1, and its commit took that to a2.
-- What the
-- thread sent before is of its earlier transfers, and what it sent after it of later ones.
pub record LegAt (s : Settling) (t n : ℕ) (account : List ℕ) (leg : AnyLeg) (a0 a1 a2 : LedgerView) : Type 0 where
  pub of_it : IsOf t n leg.branch.xid
  pub positive : 1 ≤ leg.branch.m
  pub its : LegWorked leg account a0 a1
  pub obeyed : HasSent (Obeys leg.branch.xid) a1 a2
  pub segment : HasSent (Names t (Is n)) a0 a2
  pub rest : HasSent (Names t (IsFrom (n + 1))) a2 (ledger (ledgers_of s t) leg.branch.m)
  pub earlier : All (Names t (IsBelow n)) a0.sent

module _ {s : Settling} (settled : IsSettled s) (told : (u : ℕ) → IsTold s u) {t n : ℕ} (low : t < 2 ^ 32)
    {account : List ℕ} {leg : AnyLeg}
    {a0 a1 a2 : LedgerView} (here : LegAt s t n account leg a0 a1 a2) where
  open here use {of_it, positive, its, obeyed, segment, rest, earlier}
  open leg use {branch.{m, xid as x}}

  abbrev H : History
  H = history s leg.branch.m

  abbrev final : LedgerView
  final = ledger (ledgers_of s t) leg.branch.m

  abbrev W : List Op
  W = leg_work leg account

  all_sent : sent s t m ≡ final.sent
  all_sent = by_ledger (ledgers_of s t) m (λ (a : LedgerView). a.sent) positive refl

  pub named : NamedWithin s m x t (length a0.sent) (length a2.sent)
  named = search (arith, named_within, all_sent, append_assoc, length-append)

  after_work : sent s t m ≡ a0.sent ++ (W ++ (obeyed.more ++ rest.more))
  after_work = search (arith, all_sent, append_assoc)

  after_commit : sent s t m ≡ a1.sent ++ (obeyed.more ++ rest.more)
  after_commit =
      all_sent ∙ rest.sent ∙ ap (λ l. l ++ rest.more) obeyed.sent ∙ append_assoc a1.sent obeyed.more rest.more

  -- its work commits nothing, and decides nothing
  abbrev IsWork : Op → Type 0
  IsWork op = (is_commit op ≡ false) × (is_heur op ≡ false)

  works : All IsWork W
  works = search (arith, All-cons, All-nil)

  in_work : All (λ r. r.thread ≡ t → IsFromTo IsWork (length a0.sent) (length a0.sent + length W) r.number r.op) H
  in_work =
      own_between t IsWork H a0.sent W (obeyed.more ++ rest.more)
      ((settled.agree t m).carried ∙ ap (numbered t 0) after_work) works

  in_commit : All
      (λ r. r.thread ≡ t → IsFromTo (Obeys x) (length a1.sent) (length a1.sent + length obeyed.more) r.number r.op) H
  in_commit =
      own_between t (Obeys x) H a1.sent obeyed.more rest.more
      ((settled.agree t m).carried ∙ ap (numbered t 0) after_commit) obeyed.each

  size1 : length a1.sent ≡ length a0.sent + 3
  size1 = ap length its.sent ∙ length-append a0.sent W

  size2 : length a2.sent ≡ length a1.sent + length obeyed.more
  size2 = ap length obeyed.sent ∙ length-append a1.sent obeyed.more

  -- a request that names it, by whether that is of its work
  by_place : (k : ℕ) (d : Request) → k < length H → names x (get_or H k d).op ≡ true
      → ((get_or H k d).number < length a1.sent → IsWork (get_or H k d).op)
      × (length a1.sent ≤ (get_or H k d).number → Obeys x (get_or H k d).op)
  by_place k d lt is =
      let z = named k d lt is in
      let below = z.below in (
        λ early. in_work k d lt z.thread z.from (let e = size1 in omega (arith, early, e)),
        λ late. in_commit k d lt z.thread late (let e = size2 in omega (arith, below, e)),
      )

  pub plain : DecidesNowhere x H
  plain k d lt is = search (arith, by_place, cases_lt)

  pub within : All (λ r. names x r.op ≡ true → is_commit r.op ≡ true → IsBetween t (length a1.sent) (length a2.sent) r)
      H
  within k d lt is ends = search (arith, named, by_place, cases_lt)

  pub before : CommitsNowhere x (taken_before t (length a1.sent) H)
  before k d lt is =
      let P : Request → Type 0 =
      λ r. names x r.op ≡ true → (r.thread ≡ t) × (r.number < length a1.sent → is_commit r.op ≡ false) in
      let all : All P H =
      λ j e within_ named_.
      ((named j e within_ named_).thread, λ early. ((by_place j e within_ named_).0 early).0) in
      let z =
      taken t H 0 a1.sent (obeyed.more ++ rest.more) (length a1.sent) (omega arith)
      ((settled.agree t m).carried ∙ ap (numbered t 0) after_commit) in
      let w = all_left P (taken_before t (length a1.sent) H) z.rest (rw z.place at all) k d lt is in
      let early = all_earlier t (taken_before t (length a1.sent) H) 0 a1.sent z.own k d lt w.0 in
      w.1 (omega (arith, early))

  -- its store is there, since it took its requests
  pub there : (T : Tables) × (first_of s m ≡ Some T)
  there =
      begins (find_manager m s.managers) (λ (none : requests (journal_in (find_manager m s.managers)) ≡ []).
      let sizes : length (of_thread t (history s m)) ≡ length (sent s t m) =
      ap length (settled.agree t m).carried ∙ numbered_length t 0 (sent s t m) in
      let nothing : length (of_thread t (history s m)) ≡ 0 = ap (λ (h : History). length (of_thread t h)) none in
      let parts : length (sent s t m) ≡ length a0.sent + (3 + length (obeyed.more ++ rest.more)) =
      search (arith, after_work, length-append) in
      omega (arith, sizes, nothing, parts))

  -- from the tables of an opening on
  module _ (T : Tables) (first : first_of s leg.branch.m ≡ Some T) where
    with_T : IsOpenedWith s m T
    with_T = follows_first s m T settled first

    -- what was collected of its work
    abbrev IsAnswer : ℕ × Code → Type 0
    IsAnswer q = slice_get (answers t (journal s m)) q.0 ≡ Some q

    all_answered : All IsAnswer final.collected
    all_answered =
        rw (by_ledger (ledgers_of s t) m (λ (a : LedgerView). a.collected) positive refl) at (settled.agree t m).coded

    does : DoesWork t (length a0.sent) x account leg.delta T (taken_before t (length a1.sent) H)
    does =
        let answered =
        work_answered s settled t m positive leg account a0 a1 its
        (begins_on a1.collected a2.collected final.collected obeyed.collected rest.collected) in
        work_done s settled t m (length a2.sent) T with_T x account leg.delta a0.sent (obeyed.more ++ rest.more)
        (length a1.sent) size1
        (after_work ∙ sym (append_assoc a0.sent W (obeyed.more ++ rest.more))) named answered.0 answered.1

    pub held : (j : List ℕ) (v : ℕ)
        → held_by ((j, v) ∷ []) x
        (tables_after (taken_before t (length a1.sent) H) T) ≡ (if key_eq j account then leg.delta else pos 0)
    held j v =
        work_held t (length a0.sent) x account leg.delta (taken_before t (length a1.sent) H) T does with_T.opened j v

    -- its Prepare, if it was sent, wasn't answered XA_RDONLY
    pub votes : (more : List Op) → a2.sent ≡ a1.sent ++ Prepare x ∷ more
        → Contains final.collected (length a1.sent, RdOnly) → ⊥
    votes more is reads =
        let k : ℕ = length a1.sent in
        let grown : HasGrown a2 final = record { sent = (rest.more, rest.sent); collected = rest.collected } in
        let at = prepare_part s settled m positive t x a1 a2 grown more is in
        let first_part : History = at.1.before in
        let place : H ≡ first_part ++ request_of t k (Prepare x) ∷ at.1.after = search (arith, request_of) in
        let low_ : (j : ℕ) (d : Request) → j < length first_part → (get_or first_part j d).thread ≡ t
        → (get_or first_part j d).number < k = λ j d lt mine.
        let up = all_earlier t first_part 0 a1.sent at.1.earlier j d lt mine in omega (arith, up) in
        let taken : taken_before t k H ≡ first_part = search (arith, taken_is, request_of) in
        let got : slice_get (answers t (coded H T)) k ≡ Some (k, RdOnly) =
        rw with_T.codes at (All-contains IsAnswer final.collected (k, RdOnly) all_answered reads) in
        let code : (next t (Prepare x) (tables_after first_part T)).1 ≡ RdOnly =
        search (arith, same_code, slice_get, answer_at, request_of, numbered_length) in
        work_never_reads t (length a0.sent) t x account leg.delta (taken_before t k H) T does with_T.opened
        (ap (λ (g : History). (next t (Prepare x) (tables_after g T)).1) taken ∙ code)

-- the day, with no use of the log noted, and the night
abbrev pub day : Settling → Opening
day s = record { settled = s; uses = [] }

abbrev pub night : Settling → ResolveCall → Opening
night next q = with_use next (resolves q)

-- which use of the log is noted doesn't matter to how a branch came out
out_at : (accounts : List (List ℕ × ℕ)) (m : ℕ) (T : Tables) (s : Settling) (k : CommitCall) (last : Opening)
    (g : DayLeg)
    → ComesOutByTheLog accounts m T (with_use s (commits k)) (last ∷ []) g
    → ComesOutByTheLog accounts m T (day s) (last ∷ []) g
out_at accounts m T s k last g (voted none votes_ told known ends sum) =
    voted none votes_ told known (record { ends = ends.ends; undoubted = ends.undoubted; unprepared = ends.unprepared })
    sum
out_at accounts m T s k last g (unasked all counts) = unasked all counts

-- a record that isn't there names no manager
unnamed : (o : Option (List Bool)) (m : ℕ) → is_some o ≡ false → names_manager o m ≡ false
unnamed o m e = search (arith, rules)

-- one resolve alone
pub only_one : (q r : ResolveCall) → Contains (resolves q ∷ []) (resolves r) → q ≡ r
only_one q r h = search (arith, rules)

-- what laws_balances has of the branches of a commit
abbrev pub BranchesComeOut : Type 0
BranchesComeOut =
    (accounts : List (List ℕ × ℕ)) (o : Opening) (between : List Opening) (last : Opening) (k : CommitCall)
    (q : ResolveCall) (t : TranName) (b : Branch) (T : Tables)
    → IsResolved o between last k q → IsTranOf k.branches t → Contains k.branches b → b.m ≤ MOST_MANAGERS
    → first_of o.settled b.m ≡ Some T
    → IsItsOwn k t o (between ++ last ∷ []) T b
    → ComesOutByTheLog accounts b.m T o (between ++ last ∷ []) (leg_of accounts k t o.settled T b)

-- A settled day, in which each thread named its own transfers alone, and the night after it.
pub record IsScene (s : Settling) (again : Again) (q : ResolveCall) (next : Settling) : Type 0 where
  pub outs : BranchesComeOut
  pub settled : IsSettled s
  pub few : (m : ℕ) (T : Tables) → first_of s m ≡ Some T → IsUpTo MOST_MANAGERS m
  pub told : (u : ℕ) → IsTold s u
  pub records : Records
  pub resolved : IsResolvedBy records s again q next

-- ---- a transfer

-- Thread t's transfer of number n came to a commit, and was to commit or not: what its thread sent before is of its
-- earlier
-- transfers, and what it sent after it of later ones; and the night's records have what the log had after it.
pub record Committed (s : Settling) (q : ResolveCall) (t n : ℕ) (account : List ℕ) (one two : AnyLeg) (was : Bool)
    (old new : List LedgerView)
    : Type 0 where
  pub low : t < 2 ^ 32
  pub of_it : LegsOf t n one two
  pub desk : DeskView
  pub log : LogState
  pub later : LogState
  pub work : HaveWorked (changes_of one two account) (branches_of_legs one two) old desk.ledgers
  pub come : HasCome one.branch two.branch was desk new log later
  pub segment : HaveSent (Names t (Is n)) old new
  pub after : HaveSent (Names t (IsFrom (n + 1))) new (ledgers_of s t)
  pub earlier : Earlier t n old
  pub found : (tran : TranName) → tran_of one.branch.xid ≡ tran → record_in q.records tran ≡ record_of later tran

module _ {s : Settling} {again : Again} {q : ResolveCall} {next : Settling} (scene : IsScene s again q next) {t n : ℕ}
    {account : List ℕ} {one two : AnyLeg}
    {was : Bool} {old new : List LedgerView} (c : Committed s q t n account one two was old new) where
  open c use {low, of_it, desk, log, later, work, come, segment, after, earlier, found}

  abbrev bs : List Branch
  bs = branches_of_legs one two

  -- the leg, over the ledgers of its store
  abbrev pub ItsLeg : AnyLeg → Type 0
  ItsLeg leg =
      LegAt s t n account leg (ledger old leg.branch.m) (ledger desk.ledgers leg.branch.m) (ledger new leg.branch.m)

  its_leg : (leg : AnyLeg) → IsOf t n leg.branch.xid → 1 ≤ leg.branch.m
      → LegWorked leg account (ledger old leg.branch.m) (ledger desk.ledgers leg.branch.m)
      → ObeysAt desk.ledgers new leg.branch → ItsLeg leg
  its_leg leg of_leg positive its obeyed = search (arith, leg.branch.m)

  pub first_leg : ItsLeg one
  first_leg =
      its_leg one of_it.first (omega (arith, (come.cut t).may.rising.0))
      (legs_worked one two account of_it.apart old desk.ledgers work).0
      (All-head (ObeysAt desk.ledgers new) one.branch (two.branch ∷ []) come.obeys)

  pub second_leg : ItsLeg two
  second_leg =
      let on = (come.cut t).may.rising.1.0 in
      its_leg two of_it.second (omega (arith, (come.cut t).may.rising.0, on))
      (legs_worked one two account of_it.apart old desk.ledgers work).1
      (All-head (ObeysAt desk.ledgers new) two.branch []
      (All-tail (ObeysAt desk.ledgers new) one.branch (two.branch ∷ []) come.obeys))

  leg_low : (leg : AnyLeg) → ItsLeg leg → IsLow leg.branch
  leg_low leg its = let z = there scene.settled scene.told low its in scene.few leg.branch.m z.0 z.1

  -- the first of them isn't read only
  never_reads : OnlyReads one.branch (ledger desk.ledgers one.branch.m) (ledger new one.branch.m) → ⊥
  never_reads reads =
      let rest = first_leg.rest.collected in
      let z = there scene.settled scene.told low first_leg in
      votes scene.settled scene.told low first_leg z.0 z.1 reads.more reads.sent
      (rw rest.1
      (Contains-append_left (ledger new one.branch.m).collected rest.0
      (length (ledger desk.ledgers one.branch.m).sent, RdOnly) reads.collected))

  -- ---- the call

  abbrev pub call : CommitCall
  call = fewer_call (commit_call t bs desk new log later come.endings)

  abbrev tran : TranName
  tran = tran_of one.branch.xid

  grown : HaveGrown new (ledgers_of s t)
  grown =
      record {
        each = λ m positive. let z = after m positive in
            record { sent = (z.more, z.sent); collected = z.collected };
      }

  use_ : IsUseIn s (commits call)
  use_ = record {
    made = fewer_cut (commit_call t bs desk new log later come.endings)
        (All-cons IsLow one.branch (two.branch ∷ []) (leg_low one first_leg)
        (All-cons IsLow two.branch [] (leg_low two second_leg) (All-nil IsLow)))
        (come.cut t);
    grown = fewer_grown new (ledgers_of s t) grown;
  }

  of_tran : IsTranOf bs tran
  of_tran = let parts = (come.cut t).may.one in (refl, (parts.1.0 ∙ sym parts.0, tt))

  -- of one of the legs
  module _ (leg : AnyLeg) (its : ItsLeg leg) where
    -- seen over the first managers alone
    fewer_leg : LegAt s t n account leg (ledger old leg.branch.m) (ledger (fewer desk.ledgers) leg.branch.m)
        (ledger (fewer new) leg.branch.m)
    fewer_leg = search (arith, leg_low, same_ledger)

    left_alone : WasAsked call leg.branch
        → OnlyTheseOrDecisionsName leg.branch.xid t (length (ledger (fewer desk.ledgers) leg.branch.m).sent)
        (length (ledger (fewer new) leg.branch.m).sent) (history s leg.branch.m)
    left_alone asked = λ first_part last_part r place own number j d lt is _.
        only_these s scene.settled t leg.branch.m (length (ledger old leg.branch.m).sent)
        (length (ledger (fewer desk.ledgers) leg.branch.m).sent) _ leg.branch.xid
        (named scene.settled scene.told low fewer_leg) first_part last_part r place own number j d lt is

    module _ (T : Tables) (first : first_of s leg.branch.m ≡ Some T) where
      unread : OnlyRead call s leg.branch → ⊥
      unread z =
          let sent1 = (ledger (fewer desk.ledgers) leg.branch.m).sent in
          let rest =
          after_seam sent1 z.untold.more (Prepare leg.branch.xid)
          (ap (λ l. slice_get l (length sent1)) (sym z.untold.sent) ∙ z.asked) in
          votes scene.settled scene.told low fewer_leg T first rest.0 (z.untold.sent ∙ ap (λ l. sent1 ++ l) rest.1)
          z.agreed

      unmarked : Contains bs leg.branch → is_recorded later tran ≡ false
          → All (IsMarkedNowhere leg.branch.m leg.branch.xid) (night next q ∷ [])
      unmarked among off =
          All-cons (IsMarkedNowhere leg.branch.m leg.branch.xid) (night next q) []
          (λ r there_.
          ap (λ (p : ResolveCall). is_marked p.records leg.branch.m leg.branch.xid) (sym (only_one q r there_))
          ∙ unnamed (record_in q.records (tran_of leg.branch.xid)) leg.branch.m
          (ap is_some
          (ap (record_in q.records)
          (All-contains (λ (e : Branch). tran_of e.xid ≡ tran) bs leg.branch (tran_each bs tran of_tran) among)
          ∙ found tran refl)
          ∙ off))
          (All-nil (IsMarkedNowhere leg.branch.m leg.branch.xid))

      own : Contains bs leg.branch → state_of T leg.branch.xid ≡ None
          → IsItsOwn call tran (with_use s (commits call)) (night next q ∷ []) T leg.branch
      own among none = record {
        fresh = none;
        before = before scene.settled scene.told low fewer_leg;
        within = within scene.settled scene.told low fewer_leg;
        plain = plain scene.settled scene.told low fewer_leg;
        later_only = All-cons (OnlyResolves tran) (night next q) [] (scene.resolved.only tran)
            (All-nil (OnlyResolves tran));
        unmarked = unmarked among;
        unread = λ z. absurd (unread z);
      }

  -- ---- it is resolved

  are_left : AskedAreLeft call s
  are_left = search (arith, All-cons, left_alone, first_leg, second_leg, All-nil)

  is_resolved : IsResolved (with_use s (commits call)) [] (night next q) call q
  is_resolved =
      next_resolved s next again call [] q [] scene.settled use_ (few_left desk.ledgers) are_left scene.resolved.settled
      (one_of (λ r. IsUseIn next (resolves r)) q scene.resolved.made) scene.resolved.continues scene.resolved.of_setup
      scene.resolved.scanned
      (λ left u of_u. one_of (λ r. record_in r.records u ≡ record_of later u) q (found u of_u.0))
      (λ u of_u. scene.resolved.only u)
      (All-weaker (λ (r : Outcome). r.code ≢ RmFail) (λ r. IsOutcomeOf bs r → r.code ≢ RmFail) (λ r h _. h) q.outcomes
      scene.resolved.reached)

  -- what a leg is, where it is found at its store
  pub record IsOut (leg : AnyLeg) (T : Tables) (j : List ℕ) (g : DayLeg) : Type 0 where
    pub recorded : g.recorded ≡ was
    pub sum : g.sum ≡ (if key_eq j account then leg.delta else pos 0)
    pub out : ComesOutByTheLog ((j, 0) ∷ []) leg.branch.m T (day s) (night next q ∷ []) g

  pub out_of : (leg : AnyLeg) → ItsLeg leg → Contains bs leg.branch → (T : Tables) → first_of s leg.branch.m ≡ Some T
      → state_of T leg.branch.xid ≡ None
      → (j : List ℕ) → IsOut leg T j (leg_of ((j, 0) ∷ []) call tran s T leg.branch)
  out_of leg its among T first none j = record {
    recorded = come.applied never_reads;
    sum = held scene.settled scene.told low (fewer_leg leg its) T first j 0;
    out =
        out_at ((j, 0) ∷ []) leg.branch.m T s call (night next q) (leg_of ((j, 0) ∷ []) call tran s T leg.branch)
        (scene.outs ((j, 0) ∷ []) (with_use s (commits call)) [] (night next q) call q tran leg.branch T is_resolved
        of_tran among (leg_low leg its).1 first
        (own leg its T first among none));
  }
