-- How a waiting call waits, and where it idles.
use Rattle.std.specs.Prelude.{◌≡◌, ℕ, zero, suc, false, None, List, [], ◌∷◌}
use Rattle.xa_words.specs.declared.code.Code.{Code}
use Rattle.xa_words.specs.declared.request.Op.{Op}
use Rattle.xa_words.specs.declared.request.Request.{Request}
use Rattle.xa_lane.specs.Ends.{Sending, counted}
use Rattle.xa_lane.specs.Senders.{with_full}
use Rattle.xa_desk.specs.declared.operation.Operation.{Operation}
use Rattle.xa_desk.specs.DeskViews.{DeskView, next_operation, drained_code, ready_at}
use Rattle.xa_desk.specs.Lanes.{submitted, after_fulls}
use Rattle.xa_desk.specs.Looks.{LooksOnce, Collects, CollectsLeast}

module _ {I : Type 0} where
  -- n idles in a row, each of which does what by says
  abbrev pub Idles : (I → I → Type 0) → ℕ → I → I → Type 0
  Idles by zero before after = after ≡ before
  Idles by (suc n) before after = (mid : I) × Idles by n before mid × by mid after

-- ---- waiting for a completion

-- the operation's completion wasn't drained
abbrev pub IsMissing : Operation → DeskView → Type 0
IsMissing o d = drained_code o d.drained ≡ None

-- nothing of manager m is ready, nor of any manager where m is 0
abbrev pub NothingIsReady : ℕ → DeskView → Type 0
NothingIsReady m d = (k : ℕ) → ready_at d m k ≡ false

module _ {I : Type 0} (missing : DeskView → Type 0) (by : I → I → Type 0) where
  -- looks, each up to its one quiet moment, at which what is waited for was missing, and an idle after each
  pub data Waits (old : DeskView) (before : I) : DeskView → I → Type 0 where
    begins : (new : DeskView) (after : I) → new ≡ old → after ≡ before → Waits old before new after
    idles : (now new : DeskView) (mid after : I) → Waits old before now mid → LooksOnce now new → missing new
        → by mid after → Waits old before new after

module _ {I : Type 0} (by : I → I → Type 0) where
  -- and a look without a quiet moment, before the drained completion of the operation was collected
  pub record WaitsFor (old new : DeskView) (before after : I) (o : Operation) (code : Code) : Type 0 where
    pub now : DeskView
    pub waits : Waits (IsMissing o) by old before now after
    pub found : new.completions.quiet ≡ now.completions.quiet
    pub collects : Collects now new o code

  -- and one more look, before the least ready number of m was collected
  pub record WaitsForAny (old new : DeskView) (before after : I) (m number : ℕ) (code : Code) : Type 0 where
    pub now : DeskView
    pub waits : Waits (NothingIsReady m) by old before now after
    pub once : new.completions.quiet ≡ counted now.completions.quiet
    pub collects : CollectsLeast now new m number code

  -- the lane to manager m was found full so many times, with an idle after each; the request was sent, and its
  -- completion was waited for
  pub record SendsAndWaits (old new : DeskView) (before after : I) (m : ℕ) (op : Op) (code : Code) : Type 0 where
    pub fulls : ℕ
    pub mid : I
    pub idles_ : Idles by fulls before mid
    pub waits : WaitsFor (submitted (after_fulls fulls old m) m op) new mid after (next_operation old.ledgers m) code

-- ---- waiting for room

-- the sender found its lane full n times more
abbrev pub found_full : ℕ → Sending Request → Sending Request
found_full zero s = s
found_full (suc n) s = with_full (found_full n s)

module _ {I : Type 0} where
  -- the lane was found full so many times, with an idle after each, and then the end mark was put
  pub record MarksEnd (by : I → I → Type 0) (s e : Sending Request) (before after : I) : Type 0 where
    pub fulls : ℕ
    pub ended : e ≡ found_full fulls s
    pub idles_ : Idles by fulls before after

  -- so for each lane in turn: that to manager m + 1, and those after it
  abbrev pub MarkEnds : (ℕ → I → I → Type 0) → ℕ → List (Sending Request) → List (Sending Request) → I → I → Type 0
  MarkEnds by m [] [] before after = after ≡ before
  MarkEnds by m (s ∷ ss) (e ∷ es) before after =
      (mid : I) × MarksEnd (by (suc m)) s e before mid × MarkEnds by (suc m) ss es mid after
  MarkEnds by m [] (e ∷ es) before after = ⊥
  MarkEnds by m (s ∷ ss) [] before after = ⊥
