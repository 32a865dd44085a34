-- The flags of xa.h, and what they ask for at each call.
use Rattle.std.specs.Prelude.{ℕ, Bool, true, false, not, ◌&&◌, ◌||◌, ◌==◌, ◌+◌, if◌then◌else◌, Result, Ok, Err, bit_and}
use Rattle.std.specs.Prelude.{bit_or}
use Rattle.xa_words.specs.declared.code.Code.{Code}
use Rattle.xa_words.specs.declared.code.Code.TheVariants.{Inval}
use Rattle.xa_words.specs.declared.request.StartHow.{StartHow}
use Rattle.xa_words.specs.declared.request.StartHow.TheVariants.{Fresh, Join, Resume}
use Rattle.xa_words.specs.declared.request.EndHow.{EndHow}
use Rattle.xa_words.specs.declared.request.EndHow.TheVariants.{Success, Suspend, Fail}
use Rattle.xa_words.specs.declared.flags.Call.{Call}
use Rattle.xa_words.specs.declared.flags.Call.TheVariants as call
use Rattle.xa_words.specs.declared.flags.Mode.{Mode}

-- the flags of calls

abbrev pub TMASYNC : ℕ
TMASYNC = 0x80000000

abbrev pub TMONEPHASE : ℕ
TMONEPHASE = 0x40000000

abbrev pub TMFAIL : ℕ
TMFAIL = 0x20000000

abbrev pub TMNOWAIT : ℕ
TMNOWAIT = 0x10000000

abbrev pub TMRESUME : ℕ
TMRESUME = 0x08000000

abbrev pub TMSUCCESS : ℕ
TMSUCCESS = 0x04000000

abbrev pub TMSUSPEND : ℕ
TMSUSPEND = 0x02000000

abbrev pub TMSTARTRSCAN : ℕ
TMSTARTRSCAN = 0x01000000

abbrev pub TMENDRSCAN : ℕ
TMENDRSCAN = 0x00800000

abbrev pub TMMULTIPLE : ℕ
TMMULTIPLE = 0x00400000

abbrev pub TMJOIN : ℕ
TMJOIN = 0x00200000

-- the flag stands among these
abbrev pub has : ℕ → ℕ → Bool
has flags flag = not (bit_and flags flag == 0)

-- the flags that may stand at a call
abbrev pub bits_of : Call → ℕ
bits_of call.Start = TMASYNC + TMJOIN + TMRESUME
bits_of call.End = TMASYNC + TMSUCCESS + TMSUSPEND + TMFAIL
bits_of call.Commit = TMASYNC + TMONEPHASE
bits_of call.Recover = TMSTARTRSCAN + TMENDRSCAN
bits_of call.Complete = TMMULTIPLE + TMNOWAIT
bits_of c = TMASYNC

-- exactly one of three
abbrev pub just_one : Bool → Bool → Bool → Bool
just_one true b c = not (b || c)
just_one false true c = not c
just_one false false c = c

-- Start has at most one of TMJOIN and TMRESUME, and End exactly one of TMSUCCESS, TMSUSPEND and TMFAIL
abbrev pub go_together : Call → ℕ → Bool
go_together call.Start f = not (has f TMJOIN && has f TMRESUME)
go_together call.End f = just_one (has f TMSUCCESS) (has f TMSUSPEND) (has f TMFAIL)
go_together c f = true

-- no other flag stands than these
abbrev pub has_only : ℕ → ℕ → Bool
has_only bits flags = bit_or flags bits == bits

-- how a thread starts work on a branch
abbrev pub start_of : ℕ → StartHow
start_of f = if has f TMJOIN then Join else if has f TMRESUME then Resume else Fresh

-- how it ends it
abbrev pub how_of : ℕ → EndHow
how_of f = if has f TMSUSPEND then Suspend else if has f TMFAIL then Fail else Success

-- what flags ask for
abbrev pub mode_of : ℕ → Mode
mode_of f =
    record {
      asynchronous = has f TMASYNC;
      nowait = has f TMNOWAIT;
      multiple = has f TMMULTIPLE;
      one_phase = has f TMONEPHASE;
      start_scan = has f TMSTARTRSCAN;
      end_scan = has f TMENDRSCAN;
      start = start_of f;
      how = how_of f;
    }

-- what the flags of a call ask for, where they are among those that may stand at it and go together
abbrev pub check_flags : Call → ℕ → Result Mode Code
check_flags c f = if has_only (bits_of c) f && go_together c f then Ok (mode_of f) else Err Inval
