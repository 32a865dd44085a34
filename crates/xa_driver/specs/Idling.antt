-- For which managers a commit idles.
use Rattle.std.specs.Prelude.{◌≡◌, ℕ, Bool, true, Option, None, Some}
use Rattle.xa_words.specs.declared.code.Code.{Code}
use Rattle.xa_words.specs.declared.request.Op.{Op}
use Rattle.xa_desk.specs.DeskViews.{DeskView, TicketView}
use Rattle.xa_desk.specs.Lanes.{submitted, after_fulls}
use Rattle.xa_desk.specs.Waits.{Idles, WaitsFor}
use Rattle.xa_driver.specs.Asks.{Ask}

-- Idles one after another, each in a wait for one of these managers.
pub data IdlesAt {I : Type 0} (by : ℕ → I → I → Type 0) (these : ℕ → Bool) (before : I) : I → Type 0 where
  never : (after : I) → after ≡ before → IdlesAt by these before after
  again : (m : ℕ) (mid after : I) → IdlesAt by these before mid → these m ≡ true → by m mid after
      → IdlesAt by these before after

-- A request was sent once its lane had been found full so many times, with an idle after each; or nothing was sent, and
-- nothing idled.
pub data IdlesToSend {I : Type 0} (by : ℕ → I → I → Type 0) (k : Ask) (old new : DeskView) (before after : I)
    : Type 0 where
  unsent : new ≡ old → after ≡ before → IdlesToSend by k old new before after
  sent : (op : Op) (fulls : ℕ) → k.op ≡ Some op
      → new ≡ submitted (after_fulls fulls old k.manager) k.manager op → Idles (by k.manager) fulls before after
      → IdlesToSend by k old new before after

-- What was sent was collected, with an idle on its manager after each look that ended quiet; where nothing was sent,
-- nothing idled.
abbrev pub IdlesToCollect : {I : Type 0} → (ℕ → I → I → Type 0) → Option TicketView → DeskView → DeskView → I → I
    → Type 0
IdlesToCollect by None old new before after = after ≡ before
IdlesToCollect by (Some t) old new before after =
    (code : Code) × WaitsFor (by t.operation.manager) old new before after t.operation code
