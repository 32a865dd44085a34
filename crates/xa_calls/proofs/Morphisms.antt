-- What a course asks over one kind of states, it asks over another, where each of its requests is asked there too; and
-- what each of its
-- requests keeps, the course keeps. Here the course is an xa_recover. A commit and a resolve are in xa_driver,
-- proofs/Mapped.
use Rattle.xa_base.proofs.{◌≡◌, ℕ, Bool, List, length, Option, None, Some, Result, Ok, Err, refl, ap, arith}
use Rattle.xa_words.specs.{XidName, Mode, Op, Code, Done, Nota, Listed}
use Rattle.xa_scan.specs.{ScanView}
use Rattle.xa_calls.specs.Scans.{Asking, Scans}
use Rattle.xa_calls.specs.{RecoverLooks, begun, finds, passes, filled, ended, stopped, IsInVain, RecoversBy, Recovers}
use Rattle.xa_calls.specs.Scans.Recovers.{unreached, stopped as stopped_at, told as told_at}

-- ---- one step after another

-- A step from d to e carries X over: Q is kept by it, P held before it where it holds afterwards, and X is so where Q
-- held before
-- and P holds afterwards.
pub record Carries {D : Type 0} (Q P : D → Type 0) (d e : D) (X : Type 0) : Type 0 where
  pub on : Q d → Q e
  pub back : P e → P d
  pub over : Q d → P e → X

-- a step that does nothing
pub stays : {D : Type 0} {Q P : D → Type 0} {d e : D} {X : Type 0} → e ≡ d → X → Carries Q P d e X
stays same x = record { on = λ q. rw same q; back = λ p. rw same at p; over = λ q p. x }

-- what follows from X is carried over too
pub and_so : {D : Type 0} {Q P : D → Type 0} {d e : D} {X Y : Type 0} → Carries Q P d e X → (X → Y) → Carries Q P d e Y
and_so is so = record { on = is.on; back = is.back; over = λ q p. so (is.over q p) }

-- two steps, one after the other
pub and_then : {D : Type 0} {Q P : D → Type 0} {d m e : D} {X Y Z : Type 0} → Carries Q P d m X → Carries Q P m e Y
    → (X → Y → Z) → Carries Q P d e Z
and_then one next both = record {
  on = λ q. next.on (one.on q);
  back = λ p. one.back (next.back p);
  over = λ q p. both (one.over q (next.back p)) (next.over (one.on q) p);
}

-- What is asked over states D is asked over the states E that f takes them to: each request of which So holds carries
-- that over.
pub record Morphism {D E : Type 0} (So : Op → Type 0) (A : Asking D) (B : Asking E) (f : D → E)
    (Q P : D → Type 0) : Type 0 where
  pub each : (d e : D) (op : Op) (c : Code) → So op → A d op e c → Carries Q P d e (B (f d) op (f e) c)

-- so where it needs to know nothing of the states
pub plain : {D E : Type 0} (A : Asking D) (B : Asking E) (f : D → E)
    → ((d : D) (op : Op) (e : D) (c : Code) → A d op e c → B (f d) op (f e) c)
    → Morphism (λ op. Unit {0}) A B f (λ d. Unit {0}) (λ d. Unit {0})
plain A B f is =
    record { each = λ d e op c so asked. record { on = λ q. q; back = λ p. p; over = λ q p. is d op e c asked } }

-- Each request of which So holds keeps Q, and nothing is asked over other states.
abbrev pub Keeps : {D : Type 0} → (Op → Type 0) → Asking D → (D → Type 0) → Type 0
Keeps So A Q = Morphism So A (λ d op e c. Unit {0}) (λ d. d) Q (λ d. Unit {0})

pub keeps : {D : Type 0} (A : Asking D) (So : Op → Type 0) (Q : D → Type 0)
    → ((d e : D) (op : Op) (c : Code) → So op → A d op e c → Q d → Q e) → Keeps So A Q
keeps A So Q on =
    record { each = λ d e op c so asked. record { on = on d e op c so asked; back = λ p. p; over = λ q p. tt } }

-- ---- an xa_recover

module _ {D E : Type 0} {So : Op → Type 0} {A : Asking D} {B : Asking E} {f : D → E} {Q P : D → Type 0}
    (carried : Morphism So A B f Q P)
    (lists : (x : Option XidName) → So (Listed x)) where
  looks_mapped : (room : ℕ) (xids : List XidName) (old : D) (k : ℕ) (xs : List XidName) (d : D)
      → RecoverLooks A room xids old k xs d
      → Carries Q P old d (RecoverLooks B room xids (f old) k xs (f d))
  looks_mapped room xids old k xs d begun = stays refl begun
  looks_mapped room xids old k xs d (finds j ys e g x before short there asked) =
      and_then (looks_mapped room xids old j ys e before)
      (carried.each e g (Listed (Some x)) Done (lists (Some x)) asked)
      (λ l a. finds j ys (f e) (f g) x l short there a)
  looks_mapped room xids old k xs d (passes j ys e g x before short there asked) =
      and_then (looks_mapped room xids old j ys e before)
      (carried.each e g (Listed (Some x)) Nota (lists (Some x)) asked)
      (λ l a. passes j ys (f e) (f g) x l short there a)

  scans_mapped : (room : ℕ) (xids : List XidName) (old new : D) (found : List XidName) (r : Result ℕ Code)
      → Scans A room xids old new found r
      → Carries Q P old new (Scans B room xids (f old) (f new) found r)
  scans_mapped room xids old new found r (filled looked looks full) =
      and_so (looks_mapped room xids old looked found new looks) (λ l. filled looked l full)
  scans_mapped room xids old new found r (ended looks) =
      and_so (looks_mapped room xids old (length xids) found new looks) (λ l. ended l)
  scans_mapped room xids old new found r (stopped k d x why looks short there asked not_done not_nota) =
      and_then (looks_mapped room xids old k found d looks)
      (carried.each d new (Listed (Some x)) why (lists (Some x)) asked)
      (λ l a. stopped k (f d) x why l short there a not_done not_nota)

  module _ (old : D) (z : ScanView) (xids : List XidName) (new : D) (z' : ScanView) (xids' : List XidName) where
    recovers_mapped : (m : ℕ) (mode : Mode) (place : ℕ) (r : Result ℕ Code)
        → Recovers A m mode place old z xids new z' xids' r
        → Carries Q P old new (Recovers B m mode place (f old) z xids (f new) z' xids' r)
    recovers_mapped m mode place r (unreached why asked not_done same unwritten) =
        and_so (carried.each old new (Listed None) why (lists None) asked)
        (λ a. unreached why a not_done same unwritten)
    recovers_mapped m mode place r (stopped_at mid found why asked scans same writes) =
        and_then (carried.each old mid (Listed None) Done (lists None) asked)
        (scans_mapped _ _ mid new found (Err why) scans) (λ a s. stopped_at (f mid) found why a s same writes)
    recovers_mapped m mode place r (told_at mid found looked asked scans stands writes) =
        and_then (carried.each old mid (Listed None) Done (lists None) asked)
        (scans_mapped _ _ mid new found (Ok looked) scans) (λ a s. told_at (f mid) found looked a s stands writes)

    in_vain_mapped : (why : Code) (r : Result ℕ Code) → IsInVain why old z xids new z' xids' r
        → Carries Q P old new (IsInVain why (f old) z xids (f new) z' xids' r)
    in_vain_mapped why r is =
        stays is.state (record { answer = is.answer; state = ap f is.state; scan = is.scan; written = is.written })

    pub by_mapped : (there : Bool) (mode : Result Mode Code) (m : ℕ) (r : Result ℕ Code)
        → RecoversBy A there mode m old z xids new z' xids' r
        → Carries Q P old new (RecoversBy B there mode m (f old) z xids (f new) z' xids' r)
    by_mapped there mode m r is = search (arith, in_vain_mapped, recovers_mapped)
