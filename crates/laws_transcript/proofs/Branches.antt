-- What a commit, also where its coordinator died, and a resolve do to a thread's ledgers, they do to its entries in the
-- journals of a
-- settled opening.
use Rattle.xa_words.specs.declared.death.Death.TheVariants as death
use Rattle.xa_driver.specs.declared.done.LastKnown.TheVariants as known_as
use Rattle.xa_base.proofs.{arith, ◌≡◌, ℕ, inl, inr, zero, suc, Bool, false, ◌||◌, List, [], ◌∷◌, length, Option, Some}
use Rattle.xa_base.proofs.{None, refl, ap, ◌∙◌, All, cases_eq, ne_eqb, All-cons, All-nil, All-head, All-tail, ◌≤◌, ◌⊎◌}
use Rattle.xa_base.proofs.{◌-◌, ◌<◌, true, ◌++◌, map, drop, length-append, nat_eq, or-false, All-map, list_any-append}
use Rattle.xa_base.proofs.{list_any_none, by_if, ⊎_elim, cases_lt, take-nil}
use Rattle.xa_words.specs.{TranName, Death, Op, Code, RmFail}
use Rattle.xa_driver.specs.{Branch, CommitOutcome, LastKnown, HaveAsked, HaveTold, AsksOrPuts, CameTo, ComesTo, to_come}
use Rattle.xa_driver.specs.{second_op, has_branch_at, PutsLedger, AsksLedger, HasRoom, Outcome, third_op, Resolves}
use Rattle.xa_driver.specs.{ResolvesAt, HaveRoom, comes_to_commit}
use Rattle.xa_calls.proofs.Morphisms.{Carries, Morphism}
use Rattle.xa_driver.proofs.Mapped.{Any, any_asked, any_votes, anything, PutMorphism, comes_mapped, comes_others}
use Rattle.xa_driver.proofs.Mapped.{resolves_mapped}
use Rattle.xa_log.specs.{LogState, Records}
use Rattle.xa_desk.specs.{LedgerView, is_collected, learnt_shut, with_sent, with_collected, IsOut, ledger, HasGrown}
use Rattle.xa_desk.specs.{HaveGrown}
use Rattle.xa_desk.proofs.Ledgers.{known_by, as_it_was, grown_on}
use Rattle.laws_transcript.specs.{and_if_after, in_flight_at, told_after, CarriesOut, CarriesOutSome, entries_of}
use Rattle.laws_transcript.proofs.Entries.{is_rm_fail_so, AllSound, Sound, ask_sound, Fits, agreed_fits}
use Rattle.laws_transcript.proofs.Entries.{collected_there, enters, enters_coded, fails, ledger_fits, no_entries, upto}
use Rattle.laws_transcript.proofs.Entries.{put_sound}
use Rattle.xa_base.specs.{MOST_MANAGERS, IsUpTo}
use Rattle.xa_worker.specs.{Entry}
use Rattle.xa_switch.specs.{ledgers_of, IsSettled, sent, collected, journal, Settling}
use Rattle.xa_scan.specs.{ScanView, left_at}
use Rattle.xa_driver.proofs.Requests.{asked_grows}

-- what holds at the manager of each branch, and of a manager without one
pub at_each : (P : ℕ → Type 0) (m : ℕ) (bs : List Branch) → All (λ b. b.m ≡ m → P b.m) bs
    → (has_branch_at bs m ≡ false → P m) → P m
at_each P m [] all none = none refl
at_each P m (b ∷ bs) all none = elim (cases_eq b.m m) [
  | inl here ↦ rw here at (All-head (λ (b : Branch). b.m ≡ m → P b.m) b bs all here)
  | inr differs ↦
      at_each P m bs (All-tail (λ (b : Branch). b.m ≡ m → P b.m) b bs all)
      (λ e. none (ap (λ c. c || has_branch_at bs m) (ne_eqb b.m m differs) ∙ e))
]

-- ---- what a dead coordinator leaves in flight

-- the branch has its room
abbrev pub Room : List LedgerView → Branch → Type 0
Room at b = HasRoom at b.m

-- ---- one request

-- the last request of a ledger was sent, and isn't collected
abbrev IsLastOut : LedgerView → Type 0
IsLastOut a = (length a.sent - 1 < length a.sent) × (is_collected a (length a.sent - 1) ≡ false)

sent_last : (a : LedgerView) (op : Op) → Sound a → IsLastOut (with_sent a op)
sent_last a op sound =
    let size = length-append a.sent (op ∷ []) in
    let n = length (a.sent ++ op ∷ []) - 1 in (
      omega (arith, size),
      list_any_none (nat_eq n) (map (λ (p : ℕ × Code). p.0) a.collected)
          (All-map (λ k. nat_eq n k ≡ false) (λ (p : ℕ × Code). p.0) a.collected
          (λ k d lt. let before = sound k d lt in ne_eqb n _ (λ e. omega (arith, before, e, size)))),
    )

-- a manager that wasn't learnt to be shut before a vote, nor by it, isn't after it
still_open : (a mid : LedgerView) (op : Op) (v : Code) → AsksLedger a op mid v → learnt_shut mid ≡ true → v ≡ RmFail
still_open a mid op v asks shut =
    grind (arith, is_rm_fail_so, or-false, list_any-append, asks.answered, a.collected, asks.trace)

-- ---- the branches

-- the branch's last request is outstanding, unless its manager was learnt to be shut
abbrev pub IsInFlight : List LedgerView → List LedgerView → Branch → Type 0
IsInFlight old new b =
    IsOut new (record { manager = b.m; number = length (ledger new b.m).sent - 1 }) ⊎
    ((1 ≤ b.m) × (learnt_shut (ledger old b.m) ≡ true))

module _ (old new : List LedgerView) (managers : length new ≡ length old) (sound : AllSound old) (commit : Bool) where
  abbrev InFlight : Branch → Type 0
  InFlight b = IsInFlight old new b

  put_last : (b : Branch) (a : LedgerView) (op : Op) → Room old b → Sound a
      → (learnt_shut a ≡ true → learnt_shut (ledger old b.m) ≡ true)
      → PutsLedger a op (ledger new b.m)
      → InFlight b
  put_last b a op room all was (PutsLedger.withheld shut same) = inr (room.known.positive, was shut)
  put_last b a op room all was (PutsLedger.sent open_ is) = search (arith, sent_last, known_by, b.m)

  asked_last : (bs : List Branch) (vs : List Code) → All (Room old) bs
      → HaveAsked AsksLedger PutsLedger bs vs (ledger old) (ledger new)
      → All InFlight (drop (length vs) bs)
  asked_last [] [] rooms h = All-nil InFlight
  asked_last [] (v ∷ vs) rooms h = absurd h
  asked_last (b ∷ bs) [] rooms h =
      search (arith, asked_last bs [] (All-tail (Room old) b bs rooms) h.1, put_last, All-head, All-cons, h.0, b.m)
  asked_last (b ∷ bs) (v ∷ vs) rooms h = asked_last bs vs (All-tail (Room old) b bs rooms) h.1

  told_last : (k : ℕ) (bs : List Branch) (vs : List Code) → All (Room old) bs
      → HaveTold AsksLedger PutsLedger commit k bs vs (ledger old) (ledger new)
      → All InFlight (told_after commit k bs vs)
  told_last k [] vs rooms h = All-nil InFlight
  told_last k (b ∷ bs) [] rooms h = All-nil InFlight
  told_last k (b ∷ bs) (v ∷ vs) rooms h =
      and_this (second_op commit b.xid v) k refl h.0.tells
      (told_after commit (to_come (second_op commit b.xid v) k) bs vs)
      (told_last (to_come (second_op commit b.xid v) k) bs vs (All-tail (Room old) b bs rooms) h.1)
    where
      unasked : (commit : Bool) → second_op commit b.xid RmFail ≡ None
      unasked commit = grind arith

      -- by a vote that tells that it is shut nothing is put to it
      told_open : (op : Op) → second_op commit b.xid v ≡ Some op → learnt_shut h.0.prepared ≡ true
          → learnt_shut (ledger old b.m) ≡ true
      told_open op is shut = search (arith, still_open)

      and_this : (op : Option Op) (k : ℕ) → second_op commit b.xid v ≡ op
          → AsksOrPuts AsksLedger PutsLedger k op h.0.prepared (ledger new b.m)
          → (rest : List Branch) → All InFlight rest → All InFlight (and_if_after op k b rest)
      and_this None k is tells rest all = all
      and_this (Some op) zero is tells rest all = search (arith, All-head, ask_sound, All-cons, put_last, told_open)
      and_this (Some op) (suc k) is tells rest all = all

pub all_in_flight : (old new : List LedgerView) (managers : length new ≡ length old) (sound : AllSound old) (at : Death)
    (tran : TranName) (bs : List Branch)
    (log later : LogState) (known : LastKnown) → All (Room old) bs
    → CameTo AsksLedger PutsLedger at tran bs (ledger old) (ledger new) log later known
    → All (IsInFlight old new) (in_flight_at at bs known)
all_in_flight old new managers sound (death.Preparing k) tran bs log later (known_as.Votes votes) rooms far =
    search (arith, asked_last)
all_in_flight old new managers sound (death.Preparing k) tran bs log later known rooms far = absurd far
all_in_flight old new managers sound (death.Telling k) tran bs log later (known_as.Decided decision votes) rooms far =
    search (arith, told_last)
all_in_flight old new managers sound (death.Telling k) tran bs log later known rooms far = absurd far
all_in_flight old new managers sound at tran bs log later known rooms far = λ k d lt. absurd (omega (arith, lt))

-- each branch has its room
pub rooms : (at : List LedgerView) (bs : List Branch) → HaveRoom at bs → All (Room at) bs
rooms at [] room = All-nil (Room at)
rooms at (b ∷ bs) room = All-cons (Room at) b bs room.0 (rooms at bs room.1)

-- ---- a ledger only grows

put_grows : (a a' : LedgerView) (op : Op) → PutsLedger a op a' → HasGrown a a'
put_grows a a' op (PutsLedger.sent open_ is) =
    rw is (record { sent = (op ∷ [], refl); collected = (as_it_was a).collected })
put_grows a a' op (PutsLedger.withheld shut same) = rw same (as_it_was a)

module _ (settled : Settling) (is : IsSettled settled) (t : ℕ) where
  -- the thread's ledgers at the end, and its entries in each journal
  abbrev pub last : List LedgerView
  last = ledgers_of settled t

  abbrev pub own : ℕ → List Entry
  own m = entries_of t (journal settled m)

  pub fits : (m : ℕ) → 1 ≤ m → Fits t (ledger last m).sent (ledger last m).collected (own m)
  fits m low =
      ledger_fits t m last (own m) low
      (agreed_fits t (sent settled t m) (collected settled t m) (journal settled m) (is.agree t m))

  pub nobody : own 0 ≡ []
  nobody =
      no_entries t (collected settled t 0) (own 0)
      (agreed_fits t (sent settled t 0) (collected settled t 0) (journal settled 0) (is.agree t 0))

  -- the entries that a ledger has, of those of each manager
  abbrev pub entries : List LedgerView → ℕ → List Entry
  entries at m = upto (own m) (ledger at m)

  pub same_entries : (old new : List LedgerView) (m : ℕ) → (1 ≤ m → (ledger new m).sent ≡ (ledger old m).sent)
      → entries new m ≡ entries old m
  same_entries old new m same = search (arith, nobody, take-nil)

  -- a manager whose ledger is to grow to what it is at the end
  abbrev Later : ℕ → LedgerView → Type 0
  Later m a = (1 ≤ m) × HasGrown a (ledger last m)

  -- what is asked of it is withheld, or sent and collected
  carries : (m : ℕ) (a a' : LedgerView) (op : Op) (c : Code) → AsksLedger a op a' c → Sound a → Later m a'
      → CarriesOut t (upto (own m) a) op (upto (own m) a') c
  carries m a a' op c asks sound later =
      let low = later.0 in
      rw asks.trace
      (by_if (λ (b : LedgerView). HasGrown b (ledger last m) → CarriesOut t (upto (own m) a) op (upto (own m) b) c)
      (learnt_shut a) a (with_collected (with_sent a op) (length a.sent) c)
      (λ shut now. CarriesOut.withheld (asks.answered shut)
      (fails t (ledger last m) (own m) (fits m low) a sound now shut) refl)
      (λ open_ now. CarriesOut.carried
      (enters_coded t (ledger last m) (own m) (fits m low) a (with_sent a op) op refl now.sent c
      (collected_there a.collected (a.collected ++ (length a.sent, c) ∷ [])
      (ledger last m).collected (length a.sent, c) refl now.collected)))
      (rw asks.trace at later.1))

  asked_carries : (m : ℕ) → Morphism Any AsksLedger (CarriesOut t) (upto (own m)) Sound (Later m)
  asked_carries m = record {
    each = λ a a' op c _ asks. record {
      on = ask_sound a a' op c asks;
      back = λ later.
          (later.0, grown_on a a' (ledger last m) (rw asks.trace (asked_grows a (Some op) (Some c))) later.1);
      over = carries m a a' op c asks;
    };
  }

  -- or sent and not waited for
  carries_some : (m : ℕ) (a a' : LedgerView) (op : Op) → PutsLedger a op a' → Sound a → Later m a'
      → CarriesOutSome t (upto (own m) a) op (upto (own m) a')
  carries_some m a a' op (PutsLedger.sent open_ is) sound later =
      let e =
      enters t (ledger last m) (own m) (fits m later.0) a a' op (ap (λ (l : LedgerView). l.sent) is) later.1.sent in
      (e.0, CarriesOut.carried e.2)
  carries_some m a a' op (PutsLedger.withheld shut same) sound later = (
    RmFail,
    CarriesOut.withheld refl
        (fails t (ledger last m) (own m) (fits m later.0) a sound (rw same at later.1) shut) (ap (upto (own m)) same),
  )

  put_carries : (m : ℕ) → PutMorphism Any PutsLedger (CarriesOutSome t) (upto (own m)) Sound (Later m)
  put_carries m = record {
    each = λ a a' op _ puts. record {
      on = put_sound a a' op puts;
      back = λ later. (later.0, grown_on a a' (ledger last m) (put_grows a a' op puts) later.1);
      over = carries_some m a a' op puts;
    };
  }

  -- a commit, and a resolve
  module _ (old new : List LedgerView) (sound : AllSound old) (later : HaveGrown new last) where
    starts : (b : Branch) → Room old b → Unit {0} × Sound (ledger old b.m) × Later b.m (ledger new b.m)
    starts b room = let low = room.known.positive in (tt, sound b.m low, (low, later.each b.m low))

    -- whatever a commit came to, it comes to over the entries, and each request that was collected was sent
    pub comes_so : (death : Option Death) (tran : TranName) (bs : List Branch) (log log' : LogState) (o : CommitOutcome)
        → All (Room old) bs
        → ComesTo AsksLedger PutsLedger death tran bs (ledger old) (ledger new) log log' o
        → ComesTo (CarriesOut t) (CarriesOutSome t) death tran bs (entries old) (entries new) log log' o × AllSound new
    comes_so death tran bs log log' o room comes =
        let mapped =
        comes_mapped asked_carries (ledger old) (ledger new) (Room old) starts put_carries (λ v. Unit {0}) tran bs log
        log' room death o
        (λ b _ v _. any_asked (second_op (comes_to_commit o) b.xid v)) (λ b _ s. any_asked (third_op b.xid s))
        (any_votes o) comes in
        let others = comes_others AsksLedger PutsLedger death tran bs (ledger old) (ledger new) log log' o comes in (
          mapped.0,
          λ m low. at_each (λ m. Sound (ledger new m)) m bs (λ k d lt here. mapped.1 k d lt)
              (λ none. rw (others m low none) (sound m low)),
        )

    -- a resolve
    module _ (records : Records) (z : ScanView) (outcomes : List Outcome)
        (course : Resolves AsksLedger records z MOST_MANAGERS (ledger old) (ledger new) outcomes) where
      mapped : (m : ℕ) → IsUpTo MOST_MANAGERS m
          → Carries Sound (Later m) (ledger old m) (ledger new m)
          (ResolvesAt (CarriesOut t) records m (left_at z m) (course.at m) (entries old m) (entries new m))
      mapped m within =
          resolves_mapped (asked_carries m) records m (left_at z m) (course.at m) (ledger old m) (ledger new m) tt
          (λ o there. anything records m o) (course.each m within)

      pub resolved_so : Resolves (CarriesOut t) records z MOST_MANAGERS (entries old) (entries new) outcomes
      resolved_so = record {
        at = course.at;
        outcomes_are = course.outcomes_are;
        each = λ m within. (mapped m within).over (sound m within.0) (within.0, later.each m within.0);
        others = λ m past. ap (upto (own m)) (course.others m past);
      }

      pub resolved_sound : AllSound new
      resolved_sound m low = ⊎_elim (λ (past : MOST_MANAGERS < m). rw (course.others m past) (sound m low))
          (λ (high : m ≤ MOST_MANAGERS). (mapped m (low, high)).on (sound m low)) (cases_lt MOST_MANAGERS m)
