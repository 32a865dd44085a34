-- What becomes of a run.
use Rattle.std.specs.Prelude.{◌≡◌, Result, Ok, Err}
use Rattle.std.specs.declared.thread.PromisedHandle.{PromisedHandle}
use Rattle.xa_watch.specs.declared.run.DoneOf.{DoneOf}
use Rattle.xa_watch.specs.declared.run.Stopped.{Stopped}
use Rattle.xa_watch.specs.declared.run.Stopped.TheVariants.{Failed, NotBegun}

-- the thread is at this run
abbrev pub IsAtRun : {R W D : Type 0} → W → PromisedHandle (Result D W) (DoneOf R W) → Type 0
IsAtRun run hand = hand.promise.0.value ≡ run

-- it was done, or it came back as it was
abbrev pub RunComes : {W D : Type 0} → (W → D → Type 0) → W → Result D W → Type 0
RunComes comes_to run (Ok done) = comes_to run done
RunComes comes_to run (Err back) = back ≡ run

-- where nothing was done it came back as it was
abbrev pub IsBack : {W : Type 0} → W → Stopped W → Type 0
IsBack run (NotBegun back) = back ≡ run
IsBack run (Failed store) = Unit {0}
