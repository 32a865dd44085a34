-- A day of the bank and its night apply the transfers that were decided to commit, each whole and no other, and the
-- next day may begin.
use Rattle.xa_base.proofs.{ints, inr, list_any-map, is_some, ◌≡◌, ℕ, ◌+◌, ◌<◌, ◌≤◌, Bool, true, false, None, Some, List}
use Rattle.xa_base.proofs.{[], ◌∷◌, length, get_or, slice_get, sym, ap, ◌∙◌, arith, All, Contains, All-nil, All-cons}
use Rattle.xa_base.proofs.{All-contains, all_at, got_map, false_from_ne_true, ◌^◌, ◌⊎◌, map, inl, list_any, length-map}
use Rattle.xa_base.proofs.{All-head, All-tail, rules, get-empty, was_mapped, Any-from_list_any, list_any_at}
use Rattle.xa_base.specs.{MOST_MANAGERS, IsUpTo}
use Rattle.xa_words.specs.{XidName, Decides-xid_eq, TranName, tran_of, Op, OpenRm, xid_eq, Commit, Heur, Request}
use Rattle.xa_words.specs.{xid_cmp, is_done}
use Rattle.laws_tables.proofs.UnnamedLaw.{unnamed_on}
use Rattle.xa_tables.proofs.Soundness.{opening_free}
use Rattle.xa_tables.specs.{Tables, exists, is_left, state_of, AreLeft, IsOpening, NamesNowhere, names, is_declared}
use Rattle.xa_tables.specs.{is_left_in, tables_after, History, opening, reopened}
use Rattle.xa_tables.proofs.Reopening.{as_left, reopens}
use Rattle.xa_desk.specs.{ledger}
use Rattle.xa_switch.specs.{Again, last_in, reopened_at, IsSettled, find_manager, first_of, history, ledgers_of}
use Rattle.xa_switch.specs.{Settling, Plan, managers_in, accounts_of}
use Rattle.xa_scan.specs.{left_at}
use Rattle.xa_switch.proofs.SettledOpenings.{follows_first}
use Rattle.xa_log.specs.{IsReadAs, LogState, Records, record_in}
use Rattle.xa_driver.specs.{Outcome, is_commit, is_to_commit, is_recorded_at as names_manager, outcome_op}
use Rattle.xa_driver.proofs.Mapped.{Asks}
use Rattle.laws_commit.specs.{is_recorded, IsUseIn, OnlyResolves, ResolveCall, resolves, with_use, Opening}
use Rattle.laws_commit.proofs.Later.{ends_with}
use Rattle.laws_commit.proofs.CutVotes.{named_so, named_tran}
use Rattle.laws_commit.proofs.NextOpening.{scan_of}
use Rattle.laws_commit.proofs.Resolves.{left_has, outcome_left}
use Rattle.xa_work.specs.{WorkOutcome}
use Rattle.demo_bank.specs.{Teller}
use Rattle.demo_bank_days.specs.{DayAndNight, IsDawn, IsGtridOfTransfer, IsResolvedBy, all_told, balances_at}
use Rattle.demo_bank_days.specs.{balances_of, all_applied, Bank, HaveNoRecord, IsOpenedBank, IsReadyForDay}
use Rattle.laws_balances.proofs.Legs.{outcome_named}
use Rattle.demo_bank_days.proofs.Went.{each_keeps, owner}
use Rattle.demo_bank_days.proofs.Out.{only_one, day, night}
use Rattle.laws_balances.specs.{DayLeg, CommitsAmong, IsSettledDay}
use Rattle.laws_balances.proofs.InARow.{settled_law}
use Rattle.xa_words.proofs.Xids.{xid_self}
use Rattle.demo_bank_days.proofs.Made.{Noted, all_applied_is}
use Rattle.demo_bank_days.proofs.Together.{DayAt, Laws, all_noted, found_before, whole}

-- a branch that isn't left, in the tables of an opening, doesn't exist
pub none_left : (T : Tables) → IsOpening T → (x : XidName) → is_left T x ≡ false → state_of T x ≡ None
none_left T opens x off = search (arith, opens)

-- what laws_commit has of the outcomes of a resolve
abbrev pub FinishedAreGone : Type 0
FinishedAreGone =
    (s : Settling) (q : ResolveCall) → IsSettled s → IsUseIn s (resolves q)
    → ((m : ℕ) (T : Tables) → first_of s m ≡ Some T → AreLeft (left_at q.scan m) T)
    → ((r : Outcome) → Contains q.outcomes r → OnlyResolves (tran_of r.xid) (with_use s (resolves q))) → (r : Outcome)
    → Contains q.outcomes r
    → is_done r.code ≡ true → is_left (reopened_at s.managers r.m) r.xid ≡ false

-- ---- a store in the night

module _ {records : Records} {s : Settling} {again : Again} {q : ResolveCall} {next : Settling}
    (resolved : IsResolvedBy records s again q next) (m : ℕ)
    (low : IsUpTo MOST_MANAGERS m) (T : Tables) (first : first_of next m ≡ Some T) where
  scanned : AreLeft (left_at q.scan m) T
  scanned = scan_of s next again q.scan resolved.of_setup resolved.scanned m T first

  -- an outcome of the resolve there is of a branch that was left
  pub outcome_was_left : (o : Outcome) → Contains q.outcomes o → o.m ≡ m → is_left T o.xid ≡ true
  outcome_was_left o among own =
      sym (scanned.each o.xid)
      ∙ outcome_left q.scan q.records q.old q.new q.outcomes resolved.made.made m low
      (ledger (ledgers_of next q.thread) m) (resolved.made.grown.each m low.0) o among own

  -- what names a branch there is what the resolve asks for
  pub named_in_night : (P : Op → Type 0) (x : XidName) → P OpenRm
      → ((o : Outcome) → Contains q.outcomes o → Asks P q.records m o)
      → All (λ r. names x r.op ≡ true → P r.op) (history next m)
  named_in_night P x opens_ asks k r lt named =
      named_so next resolved.settled m low P (tran_of x) (resolves q ∷ []) opens_
      (All-cons (IsUseIn next) (resolves q) [] resolved.made (All-nil (IsUseIn next)))
      (λ p there. rw (only_one q p there) at asks)
      (resolved.only (tran_of x) m) k r lt (named_tran x (get_or (history next m) k r).op named)

module _ (finished : FinishedAreGone) {records : Records} {s : Settling} {again : Again} {q : ResolveCall}
    {next : Settling}
    (resolved : IsResolvedBy records s again q next) (done : All (λ r. is_done r.code ≡ true) q.outcomes) (m : ℕ)
    (low : IsUpTo MOST_MANAGERS m) (T : Tables)
    (first : first_of next m ≡ Some T) (x : XidName) where
  -- what was left is gone
  left_gone : is_left T x ≡ true → is_left (reopened_at next.managers m) x ≡ false
  left_gone left =
      let z =
      left_has q.scan q.records q.old q.new q.outcomes resolved.made.made m low (ledger (ledgers_of next q.thread) m)
      (resolved.made.grown.each m low.0) x
      ((scanned resolved m low T first).each x ∙ left) in
      let r : Outcome = z.0 in
      let gone : is_left (reopened_at next.managers r.m) r.xid ≡ false =
      finished next q resolved.settled resolved.made (scan_of s next again q.scan resolved.of_setup resolved.scanned)
      (λ p _. resolved.only (tran_of p.xid)) r z.1.0
      (All-contains (λ (p : Outcome). is_done p.code ≡ true) q.outcomes r done z.1.0) in
      rw (z.1.1.0, z.1.1.1) at gone

  -- what wasn't is named by nothing
  unleft_unnamed : is_left T x ≡ false → NamesNowhere x (history next m)
  unleft_unnamed off k d lt =
      let no : (o : Outcome) → Contains q.outcomes o → o.m ≡ m → o.xid ≡ x → ⊥ = λ o among own is.
      let z : true ≡ false = sym (outcome_was_left resolved m low T first o among own) ∙ ap (is_left T) is ∙ off in
      cc in
      false_from_ne_true _ (λ n.
      named_in_night resolved m low T first (λ op. names x op ≡ true → ⊥) x (λ e. cc)
      (λ o among. record {
        ends = λ own _ e. no o among own (outcome_named o.commit o.xid x e);
        forgets = λ own _ e. no o among own ((Decides-xid_eq o.xid x).0 e);
      }) k d lt n n)

  unleft_gone : is_left T x ≡ false → is_left (reopened_at next.managers m) x ≡ false
  unleft_gone off =
      let opened = (follows_first next m T resolved.settled first).opened in
      let stays = unnamed_on (history next m) x T (opening_free x T opened) (unleft_unnamed off) in
      search (arith, ends_with, as_left, none_left)

  -- so no branch is there
  pub nothing_left : exists (reopened_at next.managers m) x ≡ false
  nothing_left =
      let off : is_left (reopened_at next.managers m) x ≡ false = search (arith, left_gone, unleft_gone) in
      ap is_some (none_left (reopened_at next.managers m) (reopens (last_in (find_manager m next.managers))) x off)

-- ---- all of it

module _ (finished : FinishedAreGone) {L : Type 0} {state : L → LogState} {knows : L → Type 0}
    {loses : TranName → List Bool → L → L → Type 0}
    (d : DayAndNight state knows loses) (done : All (λ r. is_done r.code ≡ true) d.resolve.outcomes) (later : ℕ)
    (counts_on : d.first ≤ later)
    (past : All (λ t. t.habits.first + length t.transfers.items ≤ later) d.olds) where
  open d use {day as s, next, olds, logs, stores, first as n, tables, begins, dawn, resolved}

  no_branch : (m : ℕ) (x : XidName) → IsUpTo stores m → exists (reopened_at next.managers m) x ≡ true → ⊥
  no_branch m x up there =
      let high = up.1 in
      let most = begins.few in
      let empty =
      nothing_left finished resolved done m (up.0, omega (arith, high, most)) (reopened_at s.managers m)
      (resolved.continues m (tables m) (begins.there m up)) x in
      let z : true ≡ false = sym there ∙ empty in cc

  own : (i : ℕ) (log : L) (tran : TranName) → slice_get logs i ≡ Some log → is_recorded (state log) tran ≡ true
      → (k : ℕ) × (k < later) × IsGtridOfTransfer (i + 1) k tran.gtrid
  own i log tran at on =
      let (old, place, log_is) = owner d i log at in
      let w = place.went in
      let z = place.all in
      let read : LogState = state place.log in
      let R : LogState → Type 0 = IsReadAs state knows loses place.new.log in
      let os : List WorkOutcome = place.new.outcomes.items in
      let bound =
      all_at (λ (t : Teller L). t.habits.first + length t.transfers.items ≤ later) olds i old past place.old_at in
      elim (each_keeps R (i + 1) old.habits z.keeps old.habits.first old.transfers.items os w.opened w.left
      (state old.log) read w.makes w.known w.may tran) [
        | inr its ↦ (its.0, omega (arith, its.2, bound), its.3)
        | inl same ↦
            let before : is_recorded (state old.log) tran ≡ true =
            ap is_some (sym same) ∙ ap (λ (l : L). is_recorded (state l) tran) log_is ∙ on in
            let y = dawn.own i old.log tran (got_map (λ (t : Teller L). t.log) olds i old place.old_at) before in
            (y.0, omega (arith, y.1, counts_on), y.2)
      ]

  pub dawn_law : IsDawn state stores later (reopened_at next.managers) logs
  dawn_law = search (arith, no_branch, own)

-- a Commit, or a heuristic one, names a branch
commits_one : (op : Op) → is_commit op ≡ true → (x : XidName) × (names x op ≡ true)
commits_one (Commit x one_phase) e = (x, xid_self x)
commits_one (Heur x commits) e = (x, xid_self x)
commits_one op e = cc

-- so it is of one of these legs that has that branch
named_leg : (legs : List DayLeg) (x : XidName) (op : Op) → names x op ≡ true
    → list_any (λ g. xid_eq g.xid x) legs ≡ true
    → list_any (λ y. names y op) (map (λ g. g.xid) legs) ≡ true
named_leg legs x op named e =
    let (k, g, below, at, same) = Any-from_list_any (λ (g : DayLeg). xid_eq g.xid x) legs e in
    list_any-map (λ y. names y op) (λ (g : DayLeg). g.xid) legs
    ∙ list_any_at (λ (g : DayLeg). names g.xid op) legs k g below
    (ap (λ (f : DayLeg). names f.xid op) at ∙ ap (λ y. names y op) ((Decides-xid_eq g.xid x).0 same) ∙ named)

noted_commit : (records : Records) (legs : List DayLeg) (op : Op) → Noted records legs op → is_commit op ≡ true
    → list_any (λ y. names y op) (map (λ g. g.xid) legs) ≡ true
noted_commit records legs op noted commits =
    let z = commits_one op commits in
    elim (noted z.0 z.1)
    [ inl is ↦ named_leg legs z.0 op z.1 is | inr isnt ↦ let y : true ≡ false = sym commits ∙ isnt.0 in cc ]

-- ---- a branch at an opening

-- what a history doesn't name by one of its requests it names nowhere, and what it names is noted
named_or_not : (records : Records) (legs : List DayLeg) (x : XidName) (h : History)
    → All (λ r. Noted records legs r.op) h
    → NamesNowhere x h ⊎ ((list_any (λ g. xid_eq g.xid x) legs ≡ true) ⊎ (record_in records (tran_of x) ≡ None))
named_or_not records legs x [] all = inl (All-nil (λ (r : Request). names x r.op ≡ false))
named_or_not records legs x (r ∷ h) all =
    search (
      arith,
      named_or_not records legs x h (All-tail (λ (p : Request). Noted records legs p.op) r h all),
      list_any,
      All-head,
      all,
      All-cons,
      All-tail,
    )

module _ (laws : Laws) {L : Type 0} {state : L → LogState} {knows : L → Type 0}
    {loses : TranName → List Bool → L → L → Type 0}
    (d : DayAndNight state knows loses) (many : length d.olds < 2 ^ 32) (m : ℕ) (up : IsUpTo d.stores m)
    (j : List ℕ) where
  open d use {day as s, again, resolve as q, next, olds, news, logs, founds, tables, is_day, begins, dawn, resolved}

  abbrev T : Tables
  T = tables m

  low : IsUpTo MOST_MANAGERS m
  low = let high = up.1 in let most = begins.few in (up.0, omega (arith, high, most))

  pub all : DayAt laws d many m up j 0 founds news
  all = whole laws d many m up j

  pub noted : All (λ r. Noted q.records all.legs r.op) (history s m)
  unfolding all
  noted = all_noted laws d many m up j

  opened : IsOpening T
  opened = (follows_first s m T is_day.settled (begins.there m up)).opened

  pub left_as : (x : XidName)
      → is_left (reopened_at s.managers m) x ≡ is_left_in (state_of (tables_after (history s m) (tables m)) x)
  left_as x = search (arith, ends_with, as_left)

  -- a branch that the opening had before the day has no record
  pub before_none : (x : XidName) → exists (tables m) x ≡ true → record_in q.records (tran_of x) ≡ None
  before_none x there =
      found_before laws d many m up j (tran_of x)
      (λ t k some within from named.
      let below =
      dawn.fresh m x up there t k some
      (let e = length-map olds (λ (t : Teller L). t.log) in omega (arith, within, e)) named in
      omega (arith, below, from)) ∙ dawn.unrecorded m x up there

  -- a branch that the day left, and that has a record, is that of a leg of the day
  pub left_leg : (x : XidName) → is_left (reopened_at s.managers m) x ≡ true
      → (record_in q.records (tran_of x) ≡ None → ⊥)
      → list_any (λ g. xid_eq g.xid x) all.legs ≡ true
  left_leg x left recorded =
      search
      (arith, unnamed_on, opening_free, opened, is_some, left_as, before_none, list_any, all, named_or_not, noted)

  -- ---- what is committed

  day_among : CommitsAmong (map (λ g. g.xid) all.legs) (history s m)
  day_among k r lt commits = noted_commit q.records all.legs (get_or (history s m) k r).op (noted k r lt) commits

  next_first : first_of next m ≡ Some (reopened_at s.managers m)
  next_first = resolved.continues m (tables m) (begins.there m up)

  abbrev IsAmong : Op → Type 0
  IsAmong op = is_commit op ≡ true → list_any (λ y. names y op) (map (λ (g : DayLeg). g.xid) all.legs) ≡ true

  outcome_among : (o : Outcome) → Contains q.outcomes o → o.m ≡ m → (b : Bool) → b ≡ is_to_commit q.records m o.xid
      → IsAmong (outcome_op b o.xid)
  outcome_among o among own true is commits =
      named_leg all.legs o.xid (Commit o.xid false) (xid_self o.xid)
      (left_leg o.xid (outcome_was_left resolved m low (reopened_at s.managers m) next_first o among own)
      (λ none. let z : false ≡ true = sym (ap (λ r. names_manager r m) none) ∙ sym is in cc))
  outcome_among o among own false is commits = cc

  night_among : CommitsAmong (map (λ g. g.xid) all.legs) (history next m)
  night_among k r lt commits =
      let z = commits_one (get_or (history next m) k r).op commits in
      named_in_night resolved m low (reopened_at s.managers m) next_first IsAmong z.0 (λ e. cc)
      (λ o among. record { ends = λ own is. outcome_among o among own o.commit is; forgets = λ own is commits. cc }) k r
      lt z.1 commits

  settled_day : IsSettledDay ((j, 0) ∷ []) m (tables m) (day s) (night next q ∷ []) all.legs
  settled_day = record {
    distinct = all.once;
    among =
        All-cons (CommitsAmong (map (λ (g : DayLeg). g.xid) all.legs)) (history s m) (history next m ∷ []) day_among
        (All-cons (CommitsAmong (map (λ (g : DayLeg). g.xid) all.legs)) (history next m) [] night_among
        (All-nil (CommitsAmong (map (λ (g : DayLeg). g.xid) all.legs))));
    each = all.outs;
  }

  pub day_law : is_declared (tables m) j ≡ true
      → balances_at next m j ≡ all_applied (all_told founds news) (balances_of tables) m j
  day_law declared =
      let P : Opening → Type 0 = λ o. IsSettled o.settled in
      let worth_is =
      settled_law ((j, 0) ∷ []) m (tables m) (day s) (night next q ∷ []) all.legs
      (All-cons P (day s) (night next q ∷ []) is_day.settled
      (All-cons P (night next q) [] resolved.settled (All-nil P))) (resolved.continues, tt) (begins.there m up)
      (All-cons (λ (d : List ℕ × ℕ). is_declared (tables m) d.0 ≡ true) (j, 0) [] declared
      (All-nil (λ (d : List ℕ × ℕ). is_declared (tables m) d.0 ≡ true))) settled_day in
      omega (arith, ints, worth_is, all.sum, all_applied_is (all_told founds news) (balances_of tables) m j)

-- a bank that was opened with a plan is ready for its first day
module _ {L : Type 0} (state : L → LogState) (p : Plan) (tellers : List (Teller L)) (b : Bank L)
    (opened : IsOpenedBank p tellers b)
    (bare : HaveNoRecord state tellers) where
  never : (m : ℕ) (x : XidName) → IsUpTo (managers_in b.settled) m → exists (reopened_at b.settled.managers m) x ≡ true
      → ⊥
  never m x up there =
      let is : reopened_at b.settled.managers m ≡ reopened (opening (accounts_of p m)) = search (arith, rules) in
      let off : is_left (reopened (opening (accounts_of p m))) x ≡ false =
      as_left (opening (accounts_of p m)) x ∙ ap is_left_in (get-empty xid_cmp x) in
      let none = none_left (reopened (opening (accounts_of p m))) (reopens (opening (accounts_of p m))) x off in
      let z : true ≡ false = sym there ∙ ap (λ (U : Tables). exists U x) is ∙ ap is_some none in cc

  no_record : (j : ℕ) (log : L) (tran : TranName)
      → slice_get (map (λ (t : Teller L). t.log) b.tellers.items) j ≡ Some log → is_recorded (state log) tran ≡ true
      → ⊥
  no_record j log tran at on =
      let t =
      was_mapped (λ (u : Teller L). u.log) tellers j log
      (ap (λ (ts : List (Teller L)). slice_get (map (λ (u : Teller L). u.log) ts) j) (sym opened.tellers_) ∙ at) in
      let z : true ≡ false =
      sym on ∙ ap (λ (l : L). is_recorded (state l) tran) (sym t.2)
      ∙ all_at (λ (u : Teller L). (r : TranName) → is_recorded (state u.log) r ≡ false) tellers j t.0 bare t.1 tran in
      cc

  pub opened_ready : IsReadyForDay state b
  opened_ready = search (arith, never, no_record)
