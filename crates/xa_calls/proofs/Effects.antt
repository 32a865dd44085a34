-- What a call does to its desk.
use Rattle.std.specs.FinMap as finmap
use Rattle.xa_base.proofs.{◌≡◌, ℕ, Bool, true, false, ◌&&◌, if◌then◌else◌, List, [], ◌∷◌, Option, Some, None, Result}
use Rattle.xa_base.proofs.{Ok, Err, Contains, pos, refl, ap, ◌∙◌, arith}
use Rattle.std.specs.Ordering.{int_eq}
use Rattle.xa_words.specs.CodeNumbers.{number_of}
use Rattle.xa_words.specs.declared.flags.Call.TheVariants as call
use Rattle.xa_words.specs.{check_flags, has_only, bits_of, go_together, mode_of, Inval, Proto, Retry, Mode, Op, Code}
use Rattle.xa_desk.specs.{Operation, LedgerView, DeskView, IsKnown, IsOut, next_operation, after_sent, after_collected}
use Rattle.xa_desk.specs.{submitted, after_fulls, Collects, TakesKept, AllKept}
use Rattle.xa_calls.specs.{put_refusal, CollectsRedeemed, CompletesOne, CompletesAny, CompletesAt, CompletesBy}
use Rattle.xa_calls.specs.{may_complete}
use Rattle.xa_calls.proofs.Kept.{Handles, known_here, fulls_ledgers, fulls_kept, quiet_same, same_kept, out_collected}
use Rattle.xa_calls.proofs.Kept.{freed_kept}

abbrev pub ledgers_at : DeskView → List LedgerView
ledgers_at d = d.ledgers

abbrev pub kept_at : DeskView → Handles
kept_at d = d.kept

-- the ledgers and the handles stay
abbrev pub Stays : DeskView → DeskView → Type 0
Stays old new = (new.ledgers ≡ old.ledgers) × (new.kept ≡ old.kept)

pub stays_same : (old new : DeskView) → new ≡ old → Stays old new
stays_same old new e = (ap ledgers_at e, ap kept_at e)

-- manager m was asked: the request was sent and collected
pub record HasAsked (m : ℕ) (op : Op) (c : Code) (old new : DeskView) : Type 0 where
  pub known : IsKnown old.ledgers m
  pub out : IsOut (after_sent old.ledgers m op) (next_operation old.ledgers m)
  pub ledgers : new.ledgers ≡ after_collected (after_sent old.ledgers m op) (next_operation old.ledgers m) c
  pub kept : new.kept ≡ old.kept

pub has_asked : (times m : ℕ) (b : Bool) (old : DeskView) (op : Op) (new : DeskView) (c : Code)
    → put_refusal old m b ≡ None
    → Collects (submitted (after_fulls times old m) m op) new (next_operation old.ledgers m) c → HasAsked m op c old new
has_asked times m b old op new c admits is = search (arith, fulls_ledgers, known_here, fulls_kept, old.ledgers)

-- what was kept under a number was collected
pub record HasTaken (o : Operation) (k : ℕ) (c : Code) (old new : DeskView) : Type 0 where
  pub kept : finmap.get old.kept k ≡ Some o
  pub out : IsOut old.ledgers o
  pub ledgers : new.ledgers ≡ after_collected old.ledgers o c
  pub handles : new.kept ≡ finmap.remove old.kept k

pub has_taken : (old before new : DeskView) (k : ℕ) (c : Code) → Stays old before → (is : TakesKept before new k c)
    → HasTaken is.operation k c old new
has_taken old before new k c (ledgers, handles) is = search (arith, is.operation)

pub has_redeemed : (old new : DeskView) (k : ℕ) (c : Code) → (is : CollectsRedeemed old new k c)
    → HasTaken is.operation k c old new
has_redeemed old new k c is = search (arith, is.collects.looks.rest, is.operation)

-- ---- an xa_complete

-- what came of it: something was collected, or nothing, and why
pub data Comes (old new : DeskView) (collected : Result (ℕ × Code) Code) : Type 0 where
  took : (o : Operation) (k : ℕ) (c : Code) → collected ≡ Ok (k, c) → HasTaken o k c old new → Comes old new collected
  left : (why : Code) → collected ≡ Err why → Contains (Inval ∷ Proto ∷ Retry ∷ []) why
      → int_eq (number_of why) (pos 0) ≡ false → Stays old new
      → Comes old new collected

one_comes : (old : DeskView) (k : Option ℕ) (m : ℕ) (nowait : Bool) (new : DeskView) (r : Result (ℕ × Code) Code)
    → CompletesOne old k m nowait new r
    → Comes old new r
one_comes old k m nowait new r (CompletesOne.unknown missing told e) =
    left Inval told (0, omega arith, refl) refl (stays_same old new e)
one_comes old k m nowait new r (CompletesOne.retry j is there way told quiet unready) =
    left Retry told (2, omega arith, refl) refl (quiet_same old new quiet)
one_comes old k m nowait new r (CompletesOne.ready j c is there way told takes) =
    took takes.takes.operation j c told
    (has_taken old takes.before new j c (ap ledgers_at takes.looks.rest, ap kept_at takes.looks.rest) takes.takes)
one_comes old k m nowait new r (CompletesOne.waited j c is there way told takes) =
    took takes.operation j c told (has_redeemed old new j c takes)

any_comes : (old : DeskView) (m : ℕ) (nowait : Bool) (new : DeskView) (r : Result (ℕ × Code) Code)
    → CompletesAny old m nowait new r → Comes old new r
any_comes old m nowait new r (CompletesAny.nothing empty told e) =
    left Proto told (1, omega arith, refl) refl (stays_same old new e)
any_comes old m nowait new r (CompletesAny.retry j there way told quiet unready) =
    left Retry told (2, omega arith, refl) refl (quiet_same old new quiet)
any_comes old m nowait new r (CompletesAny.least j c told takes) =
    took takes.takes.operation j c told
    (has_taken old takes.before new j c (quiet_same old takes.before takes.quiet) takes.takes)

at_comes : (may multiple nowait : Bool) (old : DeskView) (k : Option ℕ) (m : ℕ) (new : DeskView)
    (r : Result (ℕ × Code) Code)
    → CompletesAt may multiple nowait old k m new r → Comes old new r
at_comes false multiple nowait old k m new r is = left Inval is.0 (0, omega arith, refl) refl (stays_same old new is.1)
at_comes true true nowait old k m new r is = any_comes old m nowait new r is
at_comes true false nowait old k m new r is = one_comes old k m nowait new r is

by_comes : (b : Bool) (mode : Mode) (old : DeskView) (k : Option ℕ) (m : ℕ) (new : DeskView)
    (r : Result (ℕ × Code) Code)
    → CompletesBy (if b then Ok mode else Err Inval) old k m new r → Comes old new r
by_comes true mode old k m new r is =
    at_comes (may_complete old m mode.multiple) mode.multiple mode.nowait old k m new r is
by_comes false mode old k m new r is = left Inval is.0 (0, omega arith, refl) refl (stays_same old new is.1)

pub completes_come : (flags : ℕ) (old : DeskView) (k : Option ℕ) (m : ℕ) (new : DeskView) (r : Result (ℕ × Code) Code)
    → CompletesBy (check_flags call.Complete flags) old k m new r → Comes old new r
completes_come flags =
    by_comes (has_only (bits_of call.Complete) flags && go_together call.Complete flags) (mode_of flags)

-- ---- what is outstanding stays kept

pub taken_keep : (old new : DeskView) (o : Operation) (k : ℕ) (c : Code) → HasTaken o k c old new → AllKept old
    → AllKept new
taken_keep old new o k c is all = record {
  each = λ p out.
      let parts = out_collected old.ledgers o c is.out.known p (rw is.ledgers at out) in
      let j = freed_kept old.kept k o is.kept p parts.1 (all.each p parts.0) in
      (j.0, ap (λ (h : Handles). finmap.get h j.0) is.handles ∙ j.1);
}

pub comes_keep : (old new : DeskView) (r : Result (ℕ × Code) Code) → Comes old new r → AllKept old → AllKept new
comes_keep old new r (took o k c ok is) all = taken_keep old new o k c is all
comes_keep old new r (left why err among bad stays) all = same_kept old new stays.0 stays.1 all
