-- Threads at their jobs, and what becomes of these.
use Rattle.std.specs.Prelude.{◌≡◌, ℕ, ◌≤◌, List, [], ◌++◌, length, vec_capacity, Result, Ok, Err}
use Rattle.std.specs.declared.thread.PromisedHandle.{PromisedHandle}
use Rattle.xa_base.specs.Lists.{Pairwise}
use Rattle.xa_jobs.specs.declared.hands.Came.{Came}
use Rattle.xa_jobs.specs.declared.hands.DoneOf.{DoneOf}
use Rattle.xa_jobs.specs.declared.hands.Hands.{Hands}

-- the thread is at this job
abbrev pub IsAt : {J D : Type 0} → J → PromisedHandle (Result D J) (DoneOf J) → Type 0
IsAt job hand = hand.promise.0.value ≡ job

-- the job was done, or it came back as it was
abbrev pub Comes : {J D : Type 0} → (J → D → Type 0) → J → Result D J → Type 0
Comes comes_to job (Ok done) = comes_to job done
Comes comes_to job (Err back) = back ≡ job

-- the first of these jobs have threads, in their order, and the rest came to this without one
pub record AreAtFirst {J D : Type 0} (comes_to : J → D → Type 0) (jobs : List J)
    (hands : List (PromisedHandle (Result D J) (DoneOf J))) (others : List (Result D J)) : Type 0 where
  pub first : List J
  pub rest : List J
  pub all : jobs ≡ first ++ rest
  pub at : Pairwise IsAt first hands
  pub came : Pairwise (Comes comes_to) rest others

-- there are no threads yet, and there is room for so many jobs and for what becomes of them
pub record HasRoomForJobs {J D : Type 0} (n : ℕ) (h : Hands J D) : Type 0 where
  pub no_hands : h.hands.items ≡ []
  pub no_others : h.others.items ≡ []
  pub none_came : h.came.items ≡ []
  pub none_done : h.done.items ≡ []
  pub none_back : h.back.items ≡ []
  pub hands : n ≤ vec_capacity h.hands
  pub others : n ≤ vec_capacity h.others
  pub came : n ≤ vec_capacity h.came
  pub done : n ≤ vec_capacity h.done
  pub back : n ≤ vec_capacity h.back

-- there is room for all that were done, or came back
pub record HasRoomForAll {J D : Type 0} (c : Came J D) : Type 0 where
  pub none_done : c.done.items ≡ []
  pub none_back : c.back.items ≡ []
  pub done : length c.came.items ≤ vec_capacity c.done
  pub back : length c.came.items ≤ vec_capacity c.back
