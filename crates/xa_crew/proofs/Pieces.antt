-- The pieces of an opening are all there, and come from it; what the members of a crew came to; what is kept as a desk
-- ends.
use Rattle.xa_base.proofs.{partner, has_number, along, ◌≡◌, ℕ, ◌+◌, ◌<◌, List, [], ◌∷◌, length, map, Some, sym, refl}
use Rattle.xa_base.proofs.{ap, ◌∙◌, arith, slice_get, length-map, all_from, map_alike, zero, suc, All, some_same}
use Rattle.xa_base.proofs.{all_at, tail_side, side_of, rules, side_to, None, nat_cmp, removed_there, removed_none}
use Rattle.xa_base.proofs.{IsPermutation, IsPermutation-refl}
use Rattle.std.specs.FinMap as finmap
use Rattle.xa_base.specs.{Pairwise, Chain}
use Rattle.xa_desk.specs.{DeskView, EndedView, Ends, GoesOut, GoesOn, Operation, AllKept}
use Rattle.xa_worker.specs.{WorkerView, Served}
use Rattle.xa_switch.specs.{Setup, IsNewDesk, IsNewWorker, DeskSeat, ComeFromOpenings, seat_of_desk, seat_of_ended}
use Rattle.xa_switch.specs.{seat_of_worker, seat_of_done, desk_seats, worker_seats, desk_opening, worker_opening}
use Rattle.xa_switch.specs.{first_opening, AreOfOne, AreAll, HasDesks, HasWorkers}
use Rattle.xa_crew.specs.{HasGone, HasServed, ArePiecesOf, ClientJob, Attended, Worked, Ran, IsOpened, clients_of}
use Rattle.xa_crew.specs.{Member, member_of, HasRun, HaveRun, HasRunAll, HasWorked, DeskWithCodes, EndsNumber}
use Rattle.xa_crew.specs.declared.opened.Opened.{Opened}
use Rattle.xa_words.specs.{Code}
use Rattle.xa_calls.specs.{CollectsRedeemed}

-- desks that end have their seats and their ledgers
abbrev pub GoOut : Type 0
GoOut = (d : DeskView) (e : EndedView) → Ends d e → GoesOut d e

module _ (out : GoOut) where
  gone_seat : (d : DeskView) (e : EndedView) → HasGone d e → seat_of_ended e ≡ seat_of_desk d
  gone_seat d e is = (out is.last e is.ends).seat ∙ is.goes_on.seat

module _ (out : GoOut) (p : Setup) (ended : List EndedView) (done : List Served) (r : ArePiecesOf p ended done) where
  -- their seats are those of the opening
  pub same_desks : desk_seats ended ≡ map seat_of_desk r.desks
  same_desks = map_alike HasGone seat_of_desk seat_of_ended (gone_seat out) r.desks ended r.gone

  pub same_workers : worker_seats done ≡ map seat_of_worker r.workers
  same_workers = map_alike HasServed seat_of_worker seat_of_done (λ w d is. is.seat) r.workers done r.served

  pub permuted_desks : IsPermutation (map seat_of_desk r.desks) (desk_seats ended)
  permuted_desks = rw same_desks (IsPermutation-refl _)

  pub permuted_workers : IsPermutation (map seat_of_worker r.workers) (worker_seats done)
  permuted_workers = rw same_workers (IsPermutation-refl _)

  pub from_opening : ComeFromOpenings (map seat_of_desk r.desks) (map seat_of_worker r.workers)
      → ComeFromOpenings (desk_seats ended) (worker_seats done)
  from_opening come = search (arith, same_desks, same_workers)

  -- what is known of a desk that has ended, and of a worker that has run
  pub ended_is : (k : ℕ) (e : EndedView) → slice_get ended k ≡ Some e
      → (e.thread ≡ k + 1) × (desk_opening e ≡ p.numbers.opening) × (length e.ledgers ≡ p.managers)
  ended_is k e at =
      let (d, there, gone) = partner HasGone r.desks ended r.gone k e at in
      let new : IsNewDesk p k d = r.opened.desks k d there in
      let thread =
      ap (λ (x : DeskSeat). x.thread) (gone_seat out d e gone) ∙ ap (λ (x : DeskView). x.thread) new.made in
      (thread, search (arith, gone_seat), search (arith, length-map))

  pub done_is : (k : ℕ) (d : Served) → slice_get done k ≡ Some d
      → (d.number ≡ k + 1) × (worker_opening d ≡ p.numbers.opening) × (d.manager.threads ≡ p.numbers.threads)
  done_is k d at =
      let (w, there, served) = partner HasServed r.workers done r.served k d at in
      let new : IsNewWorker p k w = r.opened.workers k w there in
      let threads = served.same.threads ∙ ap (λ (x : WorkerView). x.manager.threads) new.made in
      (served.same.number ∙ ap (λ (x : WorkerView). x.number) new.made, search (arith, rules), threads)

  pub many_ended : length ended ≡ p.numbers.threads
  many_ended = r.gone.as_many ∙ r.opened.threads

  pub many_done : length done ≡ p.managers
  many_done = r.served.as_many ∙ r.opened.managers

  pub some_ended : 0 < length ended
  some_ended = let low = r.limits.threads.0 in let many = many_ended in omega (arith, low, many)

  -- all of one opening
  pub of_one_opening : AreOfOne ended done
  of_one_opening =
      let first = first_is ended done p.numbers.opening some_ended (λ k e at. (ended_is k e at).1) in (
        all_from (λ d. desk_opening d ≡ first_opening ended done) ended (λ k e at. (ended_is k e at).1 ∙ sym first),
        all_from (λ w. worker_opening w ≡ first_opening ended done) done (λ k d at. (done_is k d at).1 ∙ sym first),
      )
    where
      first_is : (es : List EndedView) (ds : List Served) (n : ℕ) → 0 < length es
          → ((k : ℕ) (e : EndedView) → slice_get es k ≡ Some e → desk_opening e ≡ n)
          → first_opening es ds ≡ n
      first_is [] ds n some is = absurd (omega (arith, some))
      first_is (e ∷ es) ds n some is = is 0 e refl

  -- all of them
  pub all_pieces : AreAll ended done
  all_pieces = record {
    some_desk = some_ended;
    some_worker = search (arith, many_done);
    workers = all_from (λ d. HasWorkers (length d.ledgers) done) ended (λ k e at m low high.
        has_number (λ (w : Served). w.number) done (λ k d at. (done_is k d at).0) m low
        (omega (arith, high, many_done, (ended_is k e at).2)));
    desks = all_from (λ w. HasDesks w.manager.threads ended) done (λ k d at t low high.
        has_number (λ (d : EndedView). d.thread) ended (λ k e at. (ended_is k e at).0) t low
        (omega (arith, high, many_ended, (done_is k d at).2)));
  }

-- ---- The members of a crew, by what each was given and what it came to

abbrev pub members : {C : Type 0} → List (ClientJob C) → List (Worked C) → List (Member C)
members [] ws = []
members (a ∷ gs) [] = []
members (a ∷ gs) (w ∷ ws) = member_of a w ∷ members gs ws

-- what is read of each member is read of what its thread was given, and of what it came to
pub read : {C X Y : Type 0} (f : Member C → X) (g : ClientJob C → X) (h : Member C → Y) (k : Worked C → Y)
    → ((a : ClientJob C) (w : Worked C) → (f (member_of a w) ≡ g a) × (h (member_of a w) ≡ k w))
    → (gs : List (ClientJob C)) (ws : List (Worked C)) → length ws ≡ length gs
    → (map f (members gs ws) ≡ map g gs) × (map h (members gs ws) ≡ map k ws)
read f g h k same [] [] many = (refl, refl)
read f g h k same (a ∷ gs) (w ∷ ws) many =
    let rest = read f g h k same gs ws (omega (arith, many)) in
    (λ i. (same a w).0 i ∷ rest.0 i, λ i. (same a w).1 i ∷ rest.1 i)
read f g h k same _ _ many = absurd (omega (arith, many))

module _ {C : Type 0} (works : C → DeskView → C → DeskView → Type 0) where
  pub all_ran : (gs : List (ClientJob C)) (ws : List (Worked C)) → Pairwise (HasWorked works) gs ws
      → All (HasRun works) (members gs ws)
  all_ran [] ws all k d below = absurd (omega (arith, below))
  all_ran (a ∷ gs) [] all k d below = absurd (omega (arith, below))
  all_ran (a ∷ gs) (w ∷ ws) all zero d below = all.each 0 a w refl refl
  all_ran (a ∷ gs) (w ∷ ws) all (suc k) d below =
      all_ran gs ws (tail_side (HasWorked works) a gs w ws all) k d (omega (arith, below))

  -- a member's desk went on, and ended
  member_gone : ((old mid new : DeskView) → GoesOn old mid → GoesOn mid new → GoesOn old new) → (t : Member C)
      → HasRun works t → HasGone t.desk t.ended
  member_gone further t r =
      record {
        last = r.ends.emptied;
        goes_on = further t.desk r.left r.ends.emptied r.goes_on r.ends.goes_on;
        ends = r.ends.ends;
      }

  members_gone : ((old mid new : DeskView) → GoesOn old mid → GoesOn mid new → GoesOn old new) → (ts : List (Member C))
      → All (HasRun works) ts
      → Pairwise HasGone (map (λ t. t.desk) ts) (map (λ t. t.ended) ts)
  members_gone further ts all =
      side_of HasGone (λ (t : Member C). t.desk) ts (map (λ t. t.ended) ts)
      (side_to (λ t e. HasGone t.desk e) (λ (t : Member C). t.ended) ts ts (record {
        as_many = refl;
        each = λ k t u at at'. rw (← some_same t u (sym at ∙ at'))
            (member_gone further t (all_at (HasRun works) ts k t all at));
      }))

  -- what all threads of a run have come to are all pieces of the opening
  pub run_pieces : ((old mid new : DeskView) → GoesOn old mid → GoesOn mid new → GoesOn old new)
      → (p : Setup) (cs : List C) (r : Ran C)
      → HasRunAll works p cs r
      → ArePiecesOf p r.desks.items r.workers.items
  run_pieces further p cs r all = search (arith, members_gone, all.desks_are)

  -- where each client of an opening has worked, and each worker has run, all have
  pub all_have_run : {p : Setup} (o : Opened C) {worked : List (Worked C)} {attended : List (Attended C)}
      {ended : List EndedView} {done : List Served}
      → IsOpened p o → Pairwise (HasWorked works) o.jobs.items worked → attended ≡ map (λ w. w.attended) worked
      → ended ≡ map (λ w. w.desk) worked
      → Pairwise HasServed o.workers.items done → HaveRun works p (clients_of o) attended ended done
  all_have_run {p} o {worked = worked} is ran attended ended served =
      let clients =
      read (λ t. t.client) (λ a. a.client) (λ t. t.attended) (λ w. w.attended) (λ a w. (refl, refl)) o.jobs.items
      worked ran.as_many in
      let desks =
      read (λ t. t.desk) (λ a. a.desk) (λ t. t.ended) (λ w. w.desk) (λ a w. (refl, refl)) o.jobs.items worked
      ran.as_many in
      record {
        members = members o.jobs.items worked;
        workers = o.workers.items;
        limits = is.limits;
        opened = rw desks.0 is.opened;
        clients_are = sym clients.0;
        ran = all_ran o.jobs.items worked ran;
        attended_are = attended ∙ sym clients.1;
        desks_are = ended ∙ sym desks.1;
        served = served;
      }

-- an opening with the same clients, desks and workers is opened so too
pub still_opened : {C : Type 0} (p : Setup) (old new : Opened C) → new.jobs.items ≡ old.jobs.items
    → new.workers.items ≡ old.workers.items → new.room ≡ old.room
    → IsOpened p old → IsOpened p new
still_opened p old new jobs workers room is = grind arith

-- ---- What is kept under the numbers of a desk as it ends

abbrev Handles : Type 0
Handles = finmap.FinMap nat_cmp Operation

redeemed_handles : (old new : DeskView) (k : ℕ) (c : Code) → CollectsRedeemed old new k c
    → new.kept ≡ finmap.remove old.kept k
redeemed_handles old new k c is =
    ap (λ (d : DeskView). d.kept) is.collects.collected ∙ ap (λ (d : DeskView). d.kept) is.collects.looks.rest

pub number_freed : (k : ℕ) (old new : DeskWithCodes) → EndsNumber k old new → finmap.get new.0.kept k ≡ None
number_freed k old new (EndsNumber.kept c takes told) =
    ap (λ (m : Handles). finmap.get m k) (redeemed_handles old.0 new.0 k c takes) ∙ removed_there old.0.kept k
number_freed k old new (EndsNumber.free empty e) = ap (λ (s : DeskWithCodes). finmap.get s.0.kept k) e ∙ empty

pub number_leaves : (k : ℕ) (old new : DeskWithCodes) → EndsNumber k old new → (j : ℕ) → finmap.get old.0.kept j ≡ None
    → finmap.get new.0.kept j ≡ None
number_leaves k old new (EndsNumber.kept c takes told) j e =
    search (arith, redeemed_handles, removed_none, old.0, new.0, old.0.kept)
number_leaves k old new (EndsNumber.free empty f) j e = ap (λ (s : DeskWithCodes). finmap.get s.0.kept j) f ∙ e

-- where collecting what is kept leaves the rest kept
module _
    (redeemed_keep : (old new : DeskView) (k : ℕ) (c : Code) → CollectsRedeemed old new k c → AllKept old
    → AllKept new) where
  pub number_keeps : (k : ℕ) (old new : DeskWithCodes) → EndsNumber k old new → AllKept old.0 → AllKept new.0
  number_keeps k old new (EndsNumber.kept c takes told) all = redeemed_keep old.0 new.0 k c takes all
  number_keeps k old new (EndsNumber.free empty e) all = rw e all

  pub numbers_keep : (old : DeskWithCodes) (ks : List ℕ) (new : DeskWithCodes) → Chain EndsNumber old ks new
      → AllKept old.0
      → AllKept new.0
  numbers_keep old ks new runs = along (λ (q : DeskWithCodes). AllKept q.0) old ks new runs number_keeps
