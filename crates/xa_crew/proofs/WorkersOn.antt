-- How workers go on as they take turns, and then run.
use Rattle.xa_base.proofs.{◌≡◌, ℕ, ◌+◌, ◌-◌, ◌<◌, ◌≤◌, false, inl, inr, List, length, Some, sym, refl, ap, ◌∙◌, arith}
use Rattle.xa_base.proofs.{slice_get, slice_set, cases_eq, length-set, slice_get_within, some_same, got_set, set_there}
use Rattle.xa_base.proofs.{map_alike, through}
use Rattle.xa_worker.specs.{WorkerStep, seat_of_worker, WorkerView, SameWorker, Served, Stepped}
use Rattle.xa_worker.proofs.Ties.{extends-chain, stepped-extends}
use Rattle.xa_base.specs.{Pairwise}
use Rattle.xa_crew.specs.{HasServed, WorkerGoesOn, AllGoOn, HadTurn, HadSomeTurn, TakesTurn, goes_nowhere}

-- ---- one step

pub had_turn : (w : WorkerView) (s : WorkerStep) (w' : WorkerView)
    → Stepped false false w s w' → SameWorker w w' → seat_of_worker w' ≡ seat_of_worker w → HadTurn s w w'
had_turn w s w' is same seat = search (arith, stepped-extends)

-- ---- one worker of all

-- where each goes on, they stay in their seats
pub all_of : (old new : List WorkerView) → Pairwise WorkerGoesOn old new → AllGoOn old new
all_of old new each =
    record {
      each = each;
      seats = map_alike WorkerGoesOn seat_of_worker seat_of_worker (λ w w' goes. goes.seat) old new each;
    }

pub one_goes_on : (ws : List WorkerView) (i : ℕ) (x y : WorkerView) → slice_get ws i ≡ Some x → WorkerGoesOn x y
    → AllGoOn ws (slice_set ws i y)
one_goes_on ws i x y at goes = all_of ws (slice_set ws i y) (record {
  as_many = length-set ws i y;
  each = λ k w w' at_w at_w'.
      elim (got_set ws i y k w' (slice_get_within ws i x at) at_w') [
        | inl h ↦ rw (some_same w x (sym at_w ∙ ap (slice_get ws) h.0 ∙ at), h.1) goes
        | inr h ↦ rw (← some_same w w' (sym at_w ∙ h)) (goes_nowhere w)
      ];
})

pub turn_goes : (m : ℕ) (s : WorkerStep) (old new : List WorkerView) → TakesTurn m s old new → AllGoOn old new
turn_goes m s old new is = rw is.rest (one_goes_on old (m - 1) is.before is.after is.at is.turn.goes)

-- ---- all of them, one after the other

-- the first n workers had a turn, and the others are as they were
pub record HaveTurned (n : ℕ) (old new : List WorkerView) : Type 0 where
  pub as_many : length new ≡ length old
  pub turned : (k : ℕ) (w w' : WorkerView) → k < n → slice_get old k ≡ Some w → slice_get new k ≡ Some w'
      → HadSomeTurn w w'
  pub left : (k : ℕ) (w : WorkerView) → n ≤ k → slice_get new k ≡ Some w → slice_get old k ≡ Some w

pub none_turned : (ws : List WorkerView) → HaveTurned 0 ws ws
none_turned ws =
    record { as_many = refl; turned = λ k w w' below at at'. absurd (omega (arith, below)); left = λ k w le at. at }

pub one_more_turned : (n : ℕ) (old ws : List WorkerView) (x y : WorkerView)
    → HaveTurned n old ws → slice_get ws n ≡ Some x → HadSomeTurn x y → HaveTurned (n + 1) old (slice_set ws n y)
one_more_turned n old ws x y h at had = record {
  as_many = length-set ws n y ∙ h.as_many;
  turned = λ k w w' below at_w at_w'.
      elim (cases_eq k n) [
        | inl same ↦
            let was : w ≡ x =
            some_same w x (sym at_w ∙ h.left k x (omega (arith, same)) (ap (slice_get ws) same ∙ at)) in
            let is : w' ≡ y =
            some_same w' y
            (sym at_w' ∙ ap (slice_get (slice_set ws n y)) same
            ∙ set_there ws n y (slice_get_within ws n x at)) in
            rw (was, is) had
        | inr other ↦ h.turned k w w' (omega (arith, below, other)) at_w (stays k w' other at_w')
      ];
  left = λ k w le at_w. h.left k w (omega (arith, le)) (stays k w (λ same. omega (arith, le, same)) at_w);
}
  where
    stays : (k : ℕ) (w : WorkerView) → (k ≡ n → ⊥) → slice_get (slice_set ws n y) k ≡ Some w → slice_get ws k ≡ Some w
    stays k w other at_w =
        elim (got_set ws n y k w (slice_get_within ws n x at) at_w) [ inl here ↦ absurd (other here.0) | inr e ↦ e ]

pub all_turned : (n : ℕ) (old new : List WorkerView) → length old ≤ n → HaveTurned n old new
    → Pairwise HadSomeTurn old new
all_turned n old new many h = search (arith, slice_get_within, h.turned)

-- ---- and then they run

-- a worker that went on and then ran
then_served : (w v : WorkerView) (d : Served) → WorkerGoesOn w v → HasServed v d → HasServed w d
then_served w v d goes served =
    search (arith, extends-chain, goes.same, served.same, w.journal, v.journal, d.journal, goes.journal)

-- and so all of them
pub all_served : (ws vs : List WorkerView) (done : List Served) → AllGoOn ws vs → Pairwise HasServed vs done
    → Pairwise HasServed ws done
all_served ws vs done goes served = through WorkerGoesOn HasServed HasServed then_served ws vs done goes.each served
