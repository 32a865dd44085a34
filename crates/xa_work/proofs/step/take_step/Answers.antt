use Rattle.xa_base.proofs.{◌≡◌, ℕ, ℤ, Bool, true, false, Some, arith, w32, to_z-of_z, ints}
use Rattle.std.proofs.Common.{bit_or}
use Rattle.xa_words.specs.{TMASYNC, TMSUCCESS, XidName}
use Rattle.xa_words.specs.declared.flags.Call.TheVariants as call
use Rattle.xa_words.specs.declared.request.RmOp.TheVariants as rm
use Rattle.xa_words.specs.declared.key.Key.{Key}
use Rattle.xa_words.specs.declared.request.Delta.{Delta}
use Rattle.xa_desk.specs.{DeskView}
use Rattle.xa_calls.specs.{asked_of, native, Calls, Puts}
use Rattle.xa_work.specs.{WorkStep, Start, Add, End, op_of_step}
use Rattle.xa_work.proofs.step.take_step.Goals as goal
use Rattle.xa_work.proofs.step.take_step.Goals.{then-asynchronous, else-asynchronous}

abbrev flags_of : Bool → ℕ
flags_of true = TMASYNC
flags_of false = 0

-- what a step puts to the manager
abbrev Takes : XidName → WorkStep → Bool → ℕ → DeskView → DeskView → ℤ → Type 0
Takes x s a m d e z = Puts d m (record { op = op_of_step x s; asynchronous = a }) e z

by_flags : (P : ℕ → Type 0) (Q : Bool → Type 0) → (P TMASYNC → Q true) → (P 0 → Q false) → (a : Bool) (f : ℕ)
    → f ≡ flags_of a → P f → Q a
by_flags P Q one two true f is p = one (rw is at p)
by_flags P Q one two false f is p = two (rw is at p)

-- so the step that was asked for, and the answer as it is returned
taken : (x : XidName) (s t : WorkStep) (a : Bool) (m : ℕ) (d e : DeskView) (z w : ℤ) → s ≡ t → w ≡ z
    → Takes x t a m d e z → Takes x s a m d e w
taken x s t a m d e z w is same takes = rw (is, same) takes

pub returns-in-Start-clause-puts : goal.returns-in-Start-clause-puts
returns-in-Start-clause-puts g c =
    let b = c.args.branch.now in
    let z : ℤ = c.xa_call.result in
    let flags : c.if-asynchronous.flags ≡ flags_of c.args.asynchronous =
    search (arith, then-asynchronous, else-asynchronous, c.if-asynchronous.branch) in
    taken b.xid c.args.step.now Start _ b.m _ _ z _ c.in-Start.is (to_z-of_z w32 z (omega (arith, ints)))
    (by_flags (λ f. Calls (asked_of call.Start (Some b.xid) f) c.args.desk.now b.m c.xa_call.new.desk z)
    (λ q. Takes b.xid Start q b.m c.args.desk.now c.xa_call.new.desk z) (λ p. p) (λ p. p) _ _ flags
    c.xa_call.ensures.calls)

pub returns-in-Add-clause-puts : goal.returns-in-Add-clause-puts
returns-in-Add-clause-puts g c =
    let b = c.args.branch.now in
    let z : ℤ = c.native.result in
    let k : Key = c.in-Add.key in
    let v : Delta = c.in-Add.delta in
    let flags : c.if-asynchronous.flags ≡ flags_of c.args.asynchronous =
    search (arith, then-asynchronous, else-asynchronous, c.if-asynchronous.branch) in
    taken b.xid c.args.step.now (Add k v) _ b.m _ _ z _ c.in-Add.is (to_z-of_z w32 z (omega (arith, ints)))
    (by_flags (λ f. Calls (native (rm.Add k v) f) c.args.desk.now b.m c.native.new.desk z)
    (λ q. Takes b.xid (Add k v) q b.m c.args.desk.now c.native.new.desk z) (λ p. p) (λ p. p) _ _ flags
    c.native.ensures.calls)

pub returns-in-End-clause-puts : goal.returns-in-End-clause-puts
returns-in-End-clause-puts g c =
    let b = c.args.branch.now in
    let z : ℤ = c.xa_call-in-End.result in
    let new : DeskView = c.xa_call-in-End.new.desk in
    let flags : c.if-asynchronous.flags ≡ flags_of c.args.asynchronous =
    search (arith, then-asynchronous, else-asynchronous, c.if-asynchronous.branch) in
    taken b.xid c.args.step.now End _ b.m _ _ z _ c.in-End.is (to_z-of_z w32 z (omega (arith, ints)))
    (by_flags (λ f. Calls (asked_of call.End (Some b.xid) (bit_or f TMSUCCESS)) c.args.desk.now b.m new z)
    (λ q. Takes b.xid End q b.m c.args.desk.now new z) (λ p. p) (λ p. p) _ _ flags c.xa_call-in-End.ensures.calls)
