-- Jobs, the threads at the first of them, and what became of all.
use Rattle.xa_base.proofs.{◌≡◌, ℕ, List, [], ◌∷◌, ◌++◌, length, length-append, ◌<◌, ◌≤◌, ◌+◌, refl, sym, ap, ◌∙◌, arith}
use Rattle.xa_base.proofs.{append-nil, append_assoc, Some, Result, Err, both_sides, same_side, slice_get, All}
use Rattle.xa_base.proofs.{vec_capacity, slice_get_within, all_at, got, none_of, none_side, push_side, through}
use Rattle.xa_base.proofs.{into_iter_items, into_iter_len}
use Rattle.std.specs.declared.vec.IntoIter.{IntoIter}
use Rattle.std.specs.declared.thread.PromisedHandle.{PromisedHandle}
use Rattle.xa_base.specs.{Pairwise}
use Rattle.xa_jobs.specs.{DoneOf, Came, AreAtFirst, Comes, HasRoomForJobs, HasRoomForAll, IsAt}
use Rattle.xa_jobs.specs.declared.hands.Hands.{Hands}

-- a list that was gone through to its end
pub all_gone_through : {A Z : Type 0} (it : IntoIter A Z) (first : List A) {all : List A}
    → first ++ into_iter_items it ≡ all → into_iter_len it ≡ 0
    → first ≡ all
all_gone_through it first so_far none =
    sym (append-nil first) ∙ ap (λ l. first ++ l) (sym (none_of (into_iter_items it) (sym it.rest.ok.0 ∙ none)))
    ∙ so_far

module _ {J D : Type 0} (comes_to : J → D → Type 0) where
  abbrev Hand : Type 0
  Hand = PromisedHandle (Result D J) (DoneOf J)

  -- ---- starting

  -- one more thread, where no job came to something without one
  pub one_more_at : (jobs : List J) (hands : List Hand) (others : List (Result D J)) (job : J) (hand : Hand)
      → others ≡ []
      → AreAtFirst comes_to jobs hands others
      → IsAt job hand → AreAtFirst comes_to (jobs ++ job ∷ []) (hands ++ hand ∷ []) others
  one_more_at jobs hands others job hand none so_far is =
      let no_rest : so_far.rest ≡ [] =
      none_of so_far.rest (let zero = ap (λ l. length l) none in omega (arith, so_far.came.as_many, zero)) in
      record {
        first = so_far.first ++ job ∷ [];
        rest = [];
        all =
            ap (λ l. l ++ job ∷ []) (so_far.all ∙ ap (λ l. so_far.first ++ l) no_rest ∙ append-nil so_far.first)
            ∙ sym (append-nil (so_far.first ++ job ∷ []));
        at = push_side IsAt so_far.first hands job hand so_far.at is;
        came = none_side (Comes comes_to) [] others refl none;
      }

  -- one more job that has no thread
  pub one_more_other : (jobs : List J) (hands : List Hand) (others : List (Result D J)) (job : J) (other : Result D J)
      → AreAtFirst comes_to jobs hands others
      → Comes comes_to job other → AreAtFirst comes_to (jobs ++ job ∷ []) hands (others ++ other ∷ [])
  one_more_other jobs hands others job other so_far comes = record {
    first = so_far.first;
    rest = so_far.rest ++ job ∷ [];
    all = ap (λ l. l ++ job ∷ []) so_far.all ∙ append_assoc so_far.first so_far.rest (job ∷ []);
    at = so_far.at;
    came = push_side (Comes comes_to) so_far.rest others job other so_far.came comes;
  }

  -- where one more is to come of so many jobs, fewer have threads, and fewer came to something without one
  pub fits_one_more : {jobs items rest all : List J} {hands : List Hand} {others : List (Result D J)} {job : J}
      → AreAtFirst comes_to jobs hands others
      → items ≡ job ∷ rest → jobs ++ items ≡ all → (length hands < length all) × (length others < length all)
  fits_one_more {jobs} {items} so_far next e =
      let many = ap (λ l. length l) so_far.all ∙ length-append so_far.first so_far.rest in
      let more = ap (λ l. length l) next in
      let all = sym (length-append jobs items) ∙ ap (λ l. length l) e in
      (omega (arith, so_far.at.as_many, many, more, all), omega (arith, so_far.came.as_many, many, more, all))

  -- ---- joining

  -- whichever job the thread is at, this is what the job came to
  abbrev pub Brings : Hand → Result D J → Type 0
  Brings hand came = (job : J) → IsAt job hand → Comes comes_to job came

  -- so these are what all jobs came to
  pub all_came : (jobs : List J) (hands : List Hand) (others brought came : List (Result D J))
      → AreAtFirst comes_to jobs hands others
      → Pairwise Brings hands brought → came ≡ brought ++ others → Pairwise (Comes comes_to) jobs came
  all_came jobs hands others brought came at brings e =
      rw (at.all, e)
      (both_sides (Comes comes_to) at.first at.rest brought others
      (through IsAt Brings (Comes comes_to) (λ job hand came there brings. brings job there) at.first hands
      brought at.at brings) at.came)

  -- ---- what came of it

  -- whichever job came to this, it is done so
  abbrev pub IsDoneAs : Result D J → D → Type 0
  IsDoneAs came done = (job : J) → Comes comes_to job came → comes_to job done

  pub all_done : (jobs : List J) (came : List (Result D J)) (done : List D) → Pairwise (Comes comes_to) jobs came
      → Pairwise IsDoneAs came done
      → Pairwise comes_to jobs done
  all_done = through (Comes comes_to) IsDoneAs comes_to (λ job came done comes is. is job comes)

  -- whichever job came to this, it came back
  abbrev pub IsBackAs : Result D J → J → Type 0
  IsBackAs came back = (job : J) → Comes comes_to job came → back ≡ job

  pub all_back : (jobs : List J) (came : List (Result D J)) (back : List J) → Pairwise (Comes comes_to) jobs came
      → Pairwise IsBackAs came back → back ≡ jobs
  all_back jobs came back comes is =
      same_side jobs back
      (through (Comes comes_to) IsBackAs (λ x y. y ≡ x) (λ job r b comes is. is job comes) jobs came back comes is)

  -- a job that came back may run, as each may of which these came
  pub can_run : (runs : J → Type 0) (jobs : List J) (came : List (Result D J)) (k : ℕ) (back : J) → All runs jobs
      → Pairwise (Comes comes_to) jobs came
      → slice_get came k ≡ Some (Err back) → runs back
  can_run runs jobs came k back all comes at =
      let within = slice_get_within came k (Err back) at in
      let (job, there) = got jobs k (omega (arith, within, comes.as_many)) in
      rw (comes.each k job (Err back) there at) (all_at runs jobs k job all there)

-- there is room for all that came of so many jobs, where there was before they were started
pub room_for_all : {J D : Type 0} (comes_to : J → D → Type 0) {jobs : List J} {many : ℕ} {h : Hands J D} {c : Came J D}
    → HasRoomForJobs many h → many ≡ length jobs
    → c.done ≡ h.done → c.back ≡ h.back → Pairwise (Comes comes_to) jobs c.came.items → HasRoomForAll c
room_for_all {J} {D} comes_to room counted done back comes =
    search (arith, vec_capacity, room.done, room.back, comes.as_many)

-- and for these to come, once the threads are started
pub room_to_join : {J D : Type 0} (comes_to : J → D → Type 0) {jobs : List J} {many : ℕ} {before : Hands J D}
    (now : Hands J D)
    → HasRoomForJobs many before
    → many ≡ length jobs
    → now.came ≡ before.came → AreAtFirst comes_to jobs now.hands.items now.others.items
    → length now.hands.items + length now.others.items ≤ vec_capacity now.came
room_to_join comes_to now room counted came at =
    let all = ap (λ l. length l) at.all ∙ length-append at.first at.rest in
    let same = ap (λ c. vec_capacity c) came in
    omega (arith, room.came, counted, same, all, at.at.as_many, at.came.as_many)
