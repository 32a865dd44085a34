-- What the steps of a worker do.
use Rattle.std.specs.Prelude.{◌≡◌, ◌≢◌, ◌⊎◌, ℕ, ◌+◌, ◌-◌, ◌<◌, Bool, true, false, List, [], ◌∷◌, ◌++◌, length}
use Rattle.std.specs.Prelude.{Some, None, IsSome}
use Rattle.xa_words.specs.declared.request.Request.{Request}
use Rattle.xa_lane.specs.declared.parcel.Taken.TheVariants.{Item, EndOf, Empty as Nothing}
use Rattle.xa_lane.specs.Ends.{Took}
use Rattle.xa_worker.specs.declared.outbox.TheConstants.{MOST_WAITING}
use Rattle.xa_worker.specs.declared.step.WorkerStep.{WorkerStep}
use Rattle.xa_worker.specs.declared.step.WorkerStep.TheVariants.{Did, Late, EndSeen, Empty, Blocked}
use Rattle.xa_tables.specs.Histories.{History}
use Rattle.xa_worker.specs.Journal.{Entry, entry_next, after_request, completion_of, requests}
use Rattle.xa_worker.specs.Outgoing.{Outgoing, AnswersOrWaits, Flushes, Offers}
use Rattle.xa_worker.specs.Workers.{WorkerView, IsUnfit}

-- a request is late where the manager was shut before it
abbrev pub step_of : Bool → WorkerStep
step_of true = Late
step_of false = Did

-- Request r of sender s was taken and carried out once, with the entry and the tables that come next. Its completion
-- was sent or waits, as a store that owes something by now, or doesn't, has it.
pub record Enters (owing : Bool) (s : ℕ) (r : Request) (w w' : WorkerView) : Type 0 where
  pub free : w.held ≡ None
  pub took : Took w.receiver (Item s r) w'.receiver
  pub thread : r.thread ≡ s + 1
  pub room : 0 < w.manager.room
  pub manager : w'.manager ≡ after_request r w.manager
  pub journal : w'.journal ≡ w.journal ++ entry_next r w.manager.tables ∷ []
  pub out : AnswersOrWaits owing w.out (r.thread - 1) (completion_of w.number (entry_next r w.manager.tables)) w'.out
  pub rest : w' ≡ record w { manager = w'.manager; receiver = w'.receiver; out = w'.out; journal = w'.journal }

-- some request was
abbrev pub EntersOne : Bool → WorkerView → WorkerView → Type 0
EntersOne owing w w' = (s : ℕ) × (r : Request) × Enters owing s r w w'

-- the end mark of a sender was taken
abbrev pub SeesEnd : WorkerView → WorkerView → Type 0
SeesEnd w w' =
    (s : ℕ) × (w.held ≡ None) × Took w.receiver (EndOf s) w'.receiver × (w' ≡ record w { receiver = w'.receiver })

-- a take found nothing there, and those that waited were offered
abbrev pub FindsNothing : WorkerView → WorkerView → Type 0
FindsNothing w w' =
    (w.held ≡ None) × Took w.receiver Nothing w'.receiver × Flushes w.out w'.out
    × (w' ≡ record w { receiver = w'.receiver; out = w'.out })

-- a request was taken that can't be carried out, and is held from now on
abbrev pub Holds : WorkerView → WorkerView → Type 0
Holds w w' =
    (s : ℕ) × (r : Request) × (w.held ≡ None) × Took w.receiver (Item s r) w'.receiver × IsUnfit s r w.manager.room
    × (w' ≡ record w { receiver = w'.receiver; held = Some (s, r) })

-- one thing may be taken: no request is held, one more completion may wait, and those that wait do so for a store that
-- owes something
pub record HasWay (owing : Bool) (w : WorkerView) : Type 0 where
  pub free : w.held ≡ None
  pub room : length w.out.waiting < MOST_WAITING
  pub held_back : (owing ≡ true) ⊎ (w.out.waiting ≡ [])

-- what each answer of a step that takes says
abbrev pub Takes : Bool → WorkerView → WorkerStep → WorkerView → Type 0
Takes owing w Did w' = EntersOne owing w w' × (w.manager.tables.shut ≡ false)
Takes owing w Late w' = EntersOne owing w w' × (w.manager.tables.shut ≡ true)
Takes owing w EndSeen w' = SeesEnd w w'
Takes owing w Empty w' = FindsNothing w w'
Takes owing w Blocked w' = Holds w w'

-- those that waited were offered, and nothing was taken, since one still waits for its lane, or a request is held
pub record IsBlocked (w w' : WorkerView) : Type 0 where
  pub flushed : Flushes w.out w'.out
  pub why : (w'.out.waiting ≢ []) ⊎ IsSome w.held
  pub rest : w' ≡ record w { out = w'.out }

-- What a step does, where the worker's store owed something before it (`owed`) or not, and owes something after it
-- (`owing`) or not. Those that waited are offered first; while the store owes they may be held back.
abbrev pub Stepped : Bool → Bool → WorkerView → WorkerStep → WorkerView → Type 0
Stepped owed owing w s w' =
    ((s ≡ Blocked) × IsBlocked w w')
    ⊎ ((o : Outgoing) × Offers owed w.out o × Takes owing (record w { out = o }) s w')

-- ---- what a pace is told

module _ {P : Type 0} where
  -- it was told of these requests, one after another, and of nothing else
  abbrev pub IsToldInOrder : (Request → P → P → Type 0) → History → P → P → Type 0
  IsToldInOrder by [] before after = after ≡ before
  IsToldInOrder by (r ∷ rs) before after = (mid : P) × by r before mid × IsToldInOrder by rs mid after

  -- from one journal to a later one it was told of each request that was entered, once and in the journal's order
  pub record Paces (by : Request → P → P → Type 0) (journal journal' : List Entry) (before after : P) : Type 0 where
    pub entered : List Entry
    pub grown : journal' ≡ journal ++ entered
    pub told : IsToldInOrder by (requests entered) before after
