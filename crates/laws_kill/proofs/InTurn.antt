-- Openings of which any were killed are settled ones in a row, and a commit of any of them is resolved in the last.
use Rattle.xa_base.proofs.{◌≡◌, ℕ, ◌+◌, Bool, List, [], ◌∷◌, ◌++◌, map, length, range_with_len, refl, ap, ◌∙◌, subst}
use Rattle.xa_base.proofs.{All, All-cons, All-head, All-map, All-nil, All-tail, IsPermutation, Option, None, Some, true}
use Rattle.xa_base.proofs.{get_or, length-map-range_with_len, map-append, all_left, length-map}
use Rattle.xa_words.specs.{TranName}
use Rattle.xa_tables.specs.{AreLeft, Tables}
use Rattle.xa_scan.specs.{ScanView, left_at}
use Rattle.xa_desk.proofs.Ledgers.{growing_on}
use Rattle.xa_switch.specs.{Again, IsOf, IsSettled, IsWhole, ManagerPart, Setup, Settling, first_of, ledgers_of}
use Rattle.xa_switch.specs.{managers_in, reopened_at, reopening, setup, IsScanOf}
use Rattle.xa_log.specs.{Records, all_records, record_in}
use Rattle.xa_driver.specs.{IsTranOf}
use Rattle.laws_commit.specs.{AreInARow, AreUses, CommitCall, Continues, EndsByTheLog, IsByItsThread, IsKept}
use Rattle.laws_commit.specs.{IsResolved, IsUseIn, OnlyResolves, Opening, ResolveCall, Use, commits, resolves, EndsAs}
use Rattle.laws_commit.specs.{is_recorded, known_of, uses_of}
use Rattle.laws_commit.proofs.NextOpening.{kept_with, scan_of}
use Rattle.laws_balances.specs.{AgreedOrRead, agreed, read}
use Rattle.laws_kill.specs.{AreOpenedInTurn, AreReadOfAllLogs, EndedOpening, FollowEachOther, HowEnded, IsEndOf}
use Rattle.laws_kill.specs.{IsEndedOpening, IsLeftToResolves, IsOpenedOver, IsThere, LastResolves, WasBegunIn}
use Rattle.laws_kill.specs.{CrashedManager, as_opening, as_settled, ledgers_then, settled_as, tables_found, with_commit}
use Rattle.laws_kill.specs.Openings.{ended, in_order, killed, unchanged}
use Rattle.laws_kill.proofs.Next.{as_reopening, continues}
use Rattle.laws_kill.proofs.Settling.{as_settled_all, many_managers}

-- what xa_switch has of a reopening, and xa_log of several logs
abbrev pub ReopeningGoesOn : Type 0
ReopeningGoesOn =
    (s next : Settling) (again : Again) (m : ℕ) (T : Tables) → IsWhole s → IsOf (reopening s again) next
    → first_of s m ≡ Some T → first_of next m ≡ Some (reopened_at s.managers m)

abbrev pub OwnLogIsRead : Type 0
OwnLogIsRead =
    (before after : List Records) (own : Records) (t : TranName) → All (λ log. record_in log t ≡ None) (before ++ after)
    → record_in (all_records (before ++ own ∷ after)) t ≡ record_in own t

-- ---- one opening

-- however it ended, it is a settled opening
pub end_settled : (p : Setup) (h : HowEnded) → IsEndOf p h → IsSettled (settled_as h)
end_settled p (in_order s) is = is.settled
end_settled p (killed c) is = (as_settled_all p c is).settled

-- and of its setup, which may have one more thread
end_of : (again : Again) (flags : List Bool) (first : List Tables) (h : HowEnded)
    → IsEndOf (setup again flags first) h → (more : Again) × IsOf (setup more flags first) (settled_as h)
end_of again flags first (in_order s) is = (again, is.of)
end_of again flags first (killed c) is =
    let more : Again = record again { threads = again.threads + 1 } in
    (more, (as_settled_all (setup again flags first) c is).of)

-- a commit that was begun in it is one of the settled opening
pub begun_use : (p : Setup) (h : HowEnded) (k : CommitCall) → IsEndOf p h → WasBegunIn h k
    → IsUseIn (settled_as h) (commits k)
begun_use p (in_order s) k is was = record { made = was.cut; grown = was.grown }
begun_use p (killed c) k is was = record {
  made = was.cut;
  grown =
      growing_on k.new (ledgers_then c k.thread) (ledgers_of (as_settled c) k.thread) was.grown
      ((as_settled_all p c is).grown k.thread);
}

pub opening_kept : (o : EndedOpening) → IsEndedOpening o → IsKept (as_opening o)
opening_kept o is = record {
  settled = end_settled o.setup o.how is.ended;
  uses = All-map (IsUseIn (settled_as o.how)) resolves o.resolved is.resolved;
}

-- ---- the next one

-- one that was made over what a settled one left is its reopening
as_reopened : (s next : Settling) (again : Again) (flags : List Bool)
    → length flags ≡ length (tables_found (in_order s)) → IsOf (setup again flags (tables_found (in_order s))) next
    → IsOf (reopening s again) next
as_reopened s next again flags many of = record {
  opening = of.opening;
  threads = of.threads;
  managers =
      subst (λ k. IsPermutation (range_with_len 1 k) (map (λ (p : ManagerPart). p.number) next.managers))
      (many ∙ length-map-range_with_len (reopened_at s.managers) 1 (managers_in s)) of.managers;
  opened = of.opened;
}

-- so is one that was made over what any left
over_reopened : (p : Setup) (h : HowEnded) (next : Settling) (again : Again) (flags : List Bool) → IsEndOf p h
    → length flags ≡ length (tables_found h) → IsOf (setup again flags (tables_found h)) next
    → IsOf (reopening (settled_as h) again) next
over_reopened p (in_order s) next again flags is many of = as_reopened s next again flags many of
over_reopened p (killed c) next again flags is many of =
    as_reopening p c is next again flags
    (many ∙ length-map c.managers (λ (q : CrashedManager). q.found) ∙ many_managers p c is) of

over_goes_on : ReopeningGoesOn → (p : Setup) (h : HowEnded) (next : Settling) (again : Again) (flags : List Bool)
    → IsEndOf p h → length flags ≡ length (tables_found h) → IsOf (setup again flags (tables_found h)) next
    → Continues (settled_as h) next
over_goes_on law p (in_order s) next again flags is many of m T first =
    law s next again m T is.whole (as_reopened s next again flags many of) first
over_goes_on law p (killed c) next again flags is many of m T first = continues p c is next again flags of m T first

pub next_goes_on : ReopeningGoesOn → (o p : EndedOpening) → IsEndedOpening o → IsEndedOpening p
    → IsOpenedOver o.how p.setup → Continues (settled_as o.how) (settled_as p.how)
next_goes_on law o p is then over =
    let made : (more : Again) × IsOf (setup more over.flags (tables_found o.how)) (settled_as p.how) =
    end_of over.again over.flags (tables_found o.how) p.how
    (subst (λ (q : Setup). IsEndOf q p.how) over.made then.ended) in
    over_goes_on law o.setup o.how (settled_as p.how) made.0 over.flags is.ended over.as_many made.1

-- the scan of what the one before left has what its managers begin with
pub scan_there : (o next : EndedOpening) (z : ScanView) (m : ℕ) (T : Tables) → IsEndedOpening o → IsEndedOpening next
    → IsOpenedOver o.how next.setup → IsScanOf (settled_as o.how) z → first_of (settled_as next.how) m ≡ Some T
    → AreLeft (left_at z m) T
scan_there o next z m T is then_is over scanned first =
    let made : (more : Again) × IsOf (setup more over.flags (tables_found o.how)) (settled_as next.how) =
    end_of over.again over.flags (tables_found o.how) next.how
    (subst (λ (q : Setup). IsEndOf q next.how) over.made then_is.ended) in
    scan_of (settled_as o.how) (settled_as next.how) made.0 z
    (over_reopened o.setup o.how (settled_as next.how) made.0 over.flags is.ended over.as_many made.1) scanned m T first

-- ---- all of them

pub in_a_row : ReopeningGoesOn → (o : EndedOpening) (os : List EndedOpening) (us : List Use) → IsEndedOpening o
    → All IsEndedOpening os → AreOpenedInTurn (o ∷ os)
    → AreInARow (record { settled = settled_as o.how; uses = us }) (map as_opening os)
in_a_row law o [] us is all turn = tt
in_a_row law o (p ∷ ps) us is all turn =
    let then : IsEndedOpening p = All-head IsEndedOpening p ps all in (
      next_goes_on law o p is then turn.0,
      in_a_row law p ps (map resolves p.resolved) then (All-tail IsEndedOpening p ps all) turn.1,
    )

-- those from one on follow each other too
pub from_one : (before os : List EndedOpening) → FollowEachOther (before ++ os) → FollowEachOther os
from_one [] os follow = follow
from_one (o ∷ before) os follow =
    from_one before os (record {
      each = All-tail IsEndedOpening o (before ++ os) follow.each;
      in_turn = follow.in_turn.1;
    })

turns_up_to : (os rest : List EndedOpening) → AreOpenedInTurn (os ++ rest) → AreOpenedInTurn os
turns_up_to [] rest turn = tt
turns_up_to (o ∷ []) rest turn = (tt, tt)
turns_up_to (o ∷ p ∷ os) rest turn = (turn.0, turns_up_to (p ∷ os) rest turn.1)

-- and those up to one
pub up_to_one : (os rest : List EndedOpening) → FollowEachOther (os ++ rest) → FollowEachOther os
up_to_one os rest follow = record {
  each = all_left IsEndedOpening os rest follow.each;
  in_turn = turns_up_to os rest follow.in_turn;
}

-- ---- what resolves find in the logs

uses_then : (t : TranName) (records : Records) (qs : List ResolveCall) (us : List Use)
    → All (λ r. record_in r.records t ≡ record_in records t) qs → AreUses t records us
    → AreUses t records (map resolves qs ++ us)
uses_then t records [] us same then = then
uses_then t records (q ∷ qs) us same then = (
  All-head (λ r. record_in r.records t ≡ record_in records t) q qs same,
  uses_then t records qs us (All-tail (λ r. record_in r.records t ≡ record_in records t) q qs same) then,
)

abbrev AllRead : TranName → Option (List Bool) → EndedOpening → Type 0
AllRead t has p = All (λ r. AreReadOfAllLogs t has r.records) p.resolved

read_so : OwnLogIsRead → (t : TranName) (has : Option (List Bool)) (records : Records)
    → AreReadOfAllLogs t has records → record_in records t ≡ has
read_so law t has records of =
    ap (λ log. record_in log t) of.all ∙ law of.before of.after of.own t of.alone ∙ of.keeps

uses_later : OwnLogIsRead → (t : TranName) (records : Records) (os : List EndedOpening)
    → All (AllRead t (record_in records t)) os → AreUses t records (uses_of (map as_opening os))
uses_later law t records [] all = tt
uses_later law t records (p ∷ ps) all =
    uses_then t records p.resolved (uses_of (map as_opening ps))
    (λ j d lt. read_so law t (record_in records t) _ (All-head (AllRead t (record_in records t)) p ps all j d lt))
    (uses_later law t records ps (All-tail (AllRead t (record_in records t)) p ps all))

-- ---- a commit

module _ (goes_on : ReopeningGoesOn) (own_log : OwnLogIsRead) (o : EndedOpening) (later : List EndedOpening)
    (q : ResolveCall) (k : CommitCall) (follow : FollowEachOther (o ∷ later)) (resolve : LastResolves later q)
    (was : WasBegunIn o.how k) (left : IsLeftToResolves k o later q) where
  open resolve use {between, last, is_last}

  is_one : IsEndedOpening o
  is_one = All-head IsEndedOpening o later follow.each

  rest : All IsEndedOpening later
  rest = All-tail IsEndedOpening o later follow.each

  -- the later ones, with the last by itself
  pub later_are : map as_opening later ≡ map as_opening between ++ as_opening last ∷ []
  later_are = ap (map as_opening) is_last ∙ map-append as_opening between (last ∷ [])

  pub is_resolved : IsResolved (with_commit o k) (map as_opening between) (as_opening last) k q
  is_resolved = record {
    kept =
        All-cons IsKept (with_commit o k) (map as_opening between ++ as_opening last ∷ [])
        (kept_with (settled_as o.how) (commits k) (end_settled o.setup o.how is_one.ended)
        (begun_use o.setup o.how k is_one.ended was))
        (subst (All IsKept) later_are
        (All-map IsKept as_opening later
        (λ j d lt. opening_kept _ (rest j d lt))));
    in_a_row =
        subst (AreInARow (with_commit o k)) later_are
        (in_a_row goes_on o later (commits k ∷ []) is_one rest follow.in_turn);
    us = [];
    vs = [];
    use_at = refl;
    ps = map resolves resolve.earlier;
    qs = map resolves resolve.others;
    resolve_at =
        ap (map resolves) resolve.among ∙ map-append resolves resolve.earlier (q ∷ resolve.others);
    few = left.few;
    log = λ some t of_tran.
        subst (λ (os : List Opening). AreUses t k.later.records (uses_of os)) later_are
        (uses_later own_log t k.later.records later (left.log some t of_tran));
    its_thread = All-nil (IsByItsThread k);
    own = left.own;
    later = λ t of_tran some.
        subst (All (OnlyResolves t)) later_are
        (All-map (OnlyResolves t) as_opening later (left.only t of_tran some));
    scan = resolve.scan;
    reached = left.reached;
  }

-- each branch of a transaction of which the log has the record is there
pub is_there : (o : EndedOpening) (later : List EndedOpening) (k : CommitCall) (t : TranName) → IsTranOf k.branches t
    → is_recorded k.later t ≡ true
    → EndsByTheLog k (with_commit o k) (map as_opening later)
    → All (AgreedOrRead k (settled_as o.how)) k.branches
    → All (IsThere k (with_commit o k) (map as_opening later)) k.branches
is_there o later k t of_tran recorded ends agreed_or_read j d lt =
    elim (agreed_or_read j d lt) as (λ _. IsThere k (with_commit o k) (map as_opening later) (get_or k.branches j d)) [
      | agreed voted ↦
          ended voted
          (subst
          (λ b. EndsAs b (with_commit o k) (map as_opening later) (get_or k.branches j d)
          (known_of k (get_or k.branches j d)))
          recorded (ends.each t of_tran j d lt voted))
      | read only ↦ unchanged only
    ]
