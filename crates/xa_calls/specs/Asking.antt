-- What a call of XA asks a manager for.
use Rattle.std.specs.Prelude.{ℕ, true, false, ◌==◌, if◌then◌else◌, Option, Some, None, Result, Ok, Err}
use Rattle.xa_words.specs.Xid.{XidName}
use Rattle.xa_words.specs.Flags.{TMASYNC, check_flags}
use Rattle.xa_words.specs.declared.code.Code.{Code}
use Rattle.xa_words.specs.declared.code.Code.TheVariants.{Inval}
use Rattle.xa_words.specs.declared.flags.Call.{Call}
use Rattle.xa_words.specs.declared.flags.Call.TheVariants as call
use Rattle.xa_words.specs.declared.flags.Mode.{Mode}
use Rattle.xa_words.specs.declared.request.Op.{Op}
use Rattle.xa_words.specs.declared.request.Op.TheVariants as op
use Rattle.xa_calls.specs.declared.putting.Asked.{Asked}
use Rattle.xa_words.specs.declared.request.RmOp.{RmOp}
use Rattle.xa_words.specs.declared.request.RmOp.TheVariants as rm

-- The first fault decides.
infixl 10 ◌>>=◌
abbrev pub ◌>>=◌ : {A B E : Type 0} → Result A E → (A → Result B E) → Result B E
(Ok x) >>= f = f x
(Err why) >>= f = Err why

-- The op of a call in a mode; none for xa_recover and xa_complete.
abbrev pub op_of : Call → XidName → Mode → Result Op Code
op_of call.OpenRm x m = Ok op.OpenRm
op_of call.CloseRm x m = Ok op.CloseRm
op_of call.Start x m = Ok (op.Start x m.start)
op_of call.End x m = Ok (op.End x m.how)
op_of call.Prepare x m = Ok (op.Prepare x)
op_of call.Commit x m = Ok (op.Commit x m.one_phase)
op_of call.Rollback x m = Ok (op.Rollback x)
op_of call.Forget x m = Ok (op.Forget x)
op_of call.Recover x m = Err Inval
op_of call.Complete x m = Err Inval

-- The same where the xid may be wanting: opening and closing don't look at it.
abbrev pub op_by : Call → Option XidName → Mode → Result Op Code
op_by call.OpenRm x m = Ok op.OpenRm
op_by call.CloseRm x m = Ok op.CloseRm
op_by c None m = Err Inval
op_by c (Some x) m = op_of c x m

-- What an XA call asks for, where its flags suit it and it has an xid if it needs one.
abbrev pub asked_of : Call → Option XidName → ℕ → Result Asked Code
asked_of c x f = do
  m ← check_flags c f
  o ← op_by c x m
  Ok (record { op = o; asynchronous = m.asynchronous })

-- The op of a request outside XA.
abbrev pub rm_op : RmOp → Op
rm_op (rm.Add k d) = op.Add k d
rm_op (rm.Heur x commits) = op.Heur x commits
rm_op rm.Shut = op.Shut

-- A call outside XA takes no other flag than TMASYNC.
abbrev pub native : RmOp → ℕ → Result Asked Code
native o f =
    if f == 0 then Ok (record { op = rm_op o; asynchronous = false })
    else if f == TMASYNC then Ok (record { op = rm_op o; asynchronous = true })
    else Err Inval
