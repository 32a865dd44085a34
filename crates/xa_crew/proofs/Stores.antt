-- Stores keep the tables of their managers, before a run and after it.
use Rattle.xa_base.proofs.{◌≡◌, ℕ, ◌+◌, ◌<◌, Some, length, map, refl, sym, ap, ◌∙◌, arith, slice_get, some_same}
use Rattle.xa_base.proofs.{partner, side_of, side_to, find_numbered, get_or, got_map, length-map, map-map, option_map}
use Rattle.xa_base.proofs.{slice_get-get_or, slice_get-map, subst, was_mapped, List, [], ◌∷◌}
use Rattle.xa_base.specs.{Pairwise}
use Rattle.xa_lane.specs.{Sending, sent_at}
use Rattle.xa_lane.proofs.Parcels.{nothing_sent}
use Rattle.xa_store.specs.{Keeps}
use Rattle.xa_tables.specs.{Tables, reopened}
use Rattle.xa_words.specs.{Completion}
use Rattle.xa_worker.specs.{IsStored, Served, WorkerView}
use Rattle.xa_desk.specs.{DeskView, EndedView}
use Rattle.xa_switch.specs.{AreOfOneOpening, IsNewWorker, ManagerPart, Settling, Setup, find_manager, last_in}
use Rattle.xa_switch.specs.{manager_part, managers_in, settling}
use Rattle.xa_crew.proofs.Pieces.{GoOut, all_have_run, done_is, ended_is, many_done, some_ended}
use Rattle.xa_crew.specs.{StoresKeep, ArePiecesOf, HasManagers, HasServed, HasServedStored, KeepLast, StoredWorker}
use Rattle.xa_crew.specs.{Worked, WorkerJob, stored_tables, tables_served, HasWorked, HaveAllRun, IsOpened, clients_of}
use Rattle.xa_crew.specs.declared.opened.Opened.{Opened}

-- a worker of a new opening has sent nothing
none_sent : (p : Setup) (m : ℕ) (w : WorkerView) → IsNewWorker p m w → (k : ℕ) → sent_at k w.out.senders ≡ []
none_sent p m w new k =
    nothing_sent k w.out.senders (λ j d below.
    ap (λ (s : Sending Completion). s.sent)
    (new.completions j (get_or w.out.senders j d) (slice_get-get_or w.out.senders j d below)))

-- what is settled of all pieces of an opening has its managers by rising number
pub has_managers : (out : GoOut) (p : Setup) (ended : List EndedView) (done : List Served) → ArePiecesOf p ended done
    → HasManagers (settling ended done) done
has_managers out p ended done r = record {
  as_many = flags ended (some_ended out p ended done r) (λ k e at. (ended_is out p ended done r k e at).2)
      ∙ sym (many_done out p ended done r);
  each = λ k d at.
      subst (λ (n : ℕ). find_manager n (map manager_part done) ≡ Some (manager_part d)) (from_first k)
      (find_numbered (λ (m : ManagerPart). m.number) 0 (map manager_part done)
      (λ j m at_m.
      let (w, there, is) = was_mapped manager_part done j m at_m in
      ap (λ (n : ManagerPart). n.number) (sym is) ∙ (done_is out p ended done r j w there).0
      ∙ sym (from_first j)) k (manager_part d)
      (got_map manager_part done k d at));
}
  where
    from_first : (k : ℕ) → 0 + k + 1 ≡ k + 1
    from_first k = omega arith

    flags : (es : List EndedView) → 0 < length es
        → ((k : ℕ) (e : EndedView) → slice_get es k ≡ Some e → length e.ledgers ≡ p.managers)
        → managers_in (settling es done) ≡ p.managers
    flags [] some is = absurd (omega (arith, some))
    flags (e ∷ es) some is = length-map e.ledgers _ ∙ is 0 e refl

module _ {S : Type 0} (knows may_leave : S → Tables → Type 0) where
  -- what its store keeps is what it begins with
  pub begins_stored : (p : Setup) (m : ℕ) (w : WorkerView) (s : S) (new : IsNewWorker p m w)
      → Keeps knows may_leave new.first s
      → IsStored (knows s) (may_leave s) w
  begins_stored p m w s new keeps = record {
    known = subst (λ T. knows s T) (sym (ap (λ (v : WorkerView). v.manager.tables) new.made)) keeps.known;
    leaves = λ K may. record {
      kept = [];
      begins = (w.journal, refl);
      left = keeps.durable K may ∙ ap reopened (sym (ap (λ (v : WorkerView). v.first) new.made));
      owed = λ k. rw (none_sent p m w new k) ([], refl);
    };
  }

  -- and so of each worker's job
  pub jobs_stored : {P : Type 0} (p : Setup) (ds : List DeskView) (ws : List WorkerView) (stores : List S)
      (jobs : List (WorkerJob P S))
      → AreOfOneOpening p ds ws → StoresKeep knows may_leave p.first stores → map (λ j. j.worker) jobs ≡ ws
      → map (λ j. j.store) jobs ≡ stores
      → (k : ℕ) (j : WorkerJob P S) → slice_get jobs k ≡ Some j → IsStored (knows j.store) (may_leave j.store) j.worker
  jobs_stored {P} p ds ws stores jobs opened keep workers kept k j at =
      let worker_at : slice_get ws k ≡ Some j.worker =
      sym (ap (λ xs. slice_get xs k) workers) ∙ slice_get-map (λ (i : WorkerJob P S). i.worker) jobs k
      ∙ ap (option_map (λ (i : WorkerJob P S). i.worker)) at in
      let store_at : slice_get stores k ≡ Some j.store =
      sym (ap (λ xs. slice_get xs k) kept) ∙ slice_get-map (λ (i : WorkerJob P S). i.store) jobs k
      ∙ ap (option_map (λ (i : WorkerJob P S). i.store)) at in
      let new = opened.workers k j.worker worker_at in
      begins_stored p k j.worker j.store new (keep.each k new.first j.store new.begins store_at)

  -- once they have run, their stores keep what their managers have at the end
  pub all_kept : {P : Type 0} (jobs : List (WorkerJob P S)) (ds : List (StoredWorker S))
      → Pairwise (HasServedStored knows may_leave) jobs ds
      → ((k : ℕ) (j : WorkerJob P S) → slice_get jobs k ≡ Some j
      → IsStored (knows j.store) (may_leave j.store) j.worker)
      → StoresKeep knows may_leave (stored_tables ds) (map (λ d. d.store) ds)
  all_kept jobs ds all stored =
      side_of (Keeps knows may_leave) (λ (d : StoredWorker S). d.done.manager.tables) ds (map (λ d. d.store) ds)
      (side_to (λ (d : StoredWorker S) (s : S). Keeps knows may_leave d.done.manager.tables s)
      (λ (d : StoredWorker S). d.store) ds ds (record {
        as_many = refl;
        each = λ k d d' at at'.
            let (j, there, is) = partner (HasServedStored knows may_leave) jobs ds all k d at in
            rw (← some_same d d' (sym at ∙ at')) (is.kept (stored k j there));
      }))

  -- and the workers have run
  pub all_served_stored : {P : Type 0} (jobs : List (WorkerJob P S)) (ds : List (StoredWorker S))
      → Pairwise (HasServedStored knows may_leave) jobs ds
      → Pairwise HasServed (map (λ j. j.worker) jobs) (map (λ d. d.done) ds)
  all_served_stored {P} jobs ds all =
      side_of HasServed (λ (j : WorkerJob P S). j.worker) jobs (map (λ d. d.done) ds)
      (side_to (λ (j : WorkerJob P S) (d : Served). HasServed j.worker d) (λ (d : StoredWorker S). d.done) jobs ds
      (record {
        as_many = all.as_many;
        each = λ k j d at at'. (all.each k j d at at').served;
      }))

  -- where the store at each place keeps the tables that are left there, each keeps those of its manager at the end
  pub keep_last : (s : Settling) (ds : List (StoredWorker S)) (stores : List S) → HasManagers s (map (λ d. d.done) ds)
      → StoresKeep knows may_leave (stored_tables ds) stores
      → KeepLast knows may_leave s stores
  keep_last s ds stores has keep = record {
    as_many =
        keep.as_many ∙ length-map ds (λ (d : StoredWorker S). d.done.manager.tables)
        ∙ sym (length-map ds (λ (d : StoredWorker S). d.done))
        ∙ sym has.as_many;
    each = λ k x at.
        let (T, there, keeps) = partner (Keeps knows may_leave) (stored_tables ds) stores keep k x at in
        let (d, found, left) = was_mapped (λ (d : StoredWorker S). d.done.manager.tables) ds k T there in
        subst (λ o. Keeps knows may_leave (last_in o) x)
        (sym (has.each k d.done (got_map (λ (e : StoredWorker S). e.done) ds k d found)))
        (subst (λ T. Keeps knows may_leave T x) (sym left) keeps);
  }

  -- the same by the workers alone
  pub kept_by_workers : (ws : List Served) (ds : List (StoredWorker S)) (stores : List S) → ws ≡ map (λ d. d.done) ds
      → StoresKeep knows may_leave (stored_tables ds) stores → StoresKeep knows may_leave (tables_served ws) stores
  kept_by_workers ws ds stores same keep =
      subst (λ (tables : List Tables). StoresKeep knows may_leave tables stores)
      (sym (ap tables_served same ∙ map-map (λ (d : Served). d.manager.tables) (λ (d : StoredWorker S). d.done) ds))
      keep

  -- so all threads of a run have run
  pub all_have_run_stored : {C P : Type 0} (works : C → DeskView → C → DeskView → Type 0) (p : Setup) (o : Opened C)
      (jobs : List (WorkerJob P S))
      (worked : List (Worked C)) (ds : List (StoredWorker S)) → IsOpened p o
      → Pairwise (HasWorked works) o.jobs.items worked
      → map (λ j. j.worker) jobs ≡ o.workers.items → Pairwise (HasServedStored knows may_leave) jobs ds
      → HaveAllRun works p (clients_of o) worked ds
  all_have_run_stored works p o jobs worked ds is ran workers served =
      all_have_run works o is ran refl refl
      (subst (λ (ws : List WorkerView). Pairwise HasServed ws (map (λ d. d.done) ds)) workers
      (all_served_stored jobs ds served))

  -- and their stores keep what the managers have at the end
  pub kept_after : {C P : Type 0} (p : Setup) (o : Opened C) (jobs : List (WorkerJob P S)) (ds : List (StoredWorker S))
      (stores later : List S)
      → IsOpened p o → StoresKeep knows may_leave p.first stores → map (λ j. j.worker) jobs ≡ o.workers.items
      → map (λ j. j.store) jobs ≡ stores
      → Pairwise (HasServedStored knows may_leave) jobs ds → later ≡ map (λ d. d.store) ds
      → StoresKeep knows may_leave (stored_tables ds) later
  kept_after p o jobs ds stores later is keep workers kept served same =
      subst (λ (xs : List S). StoresKeep knows may_leave (stored_tables ds) xs) (sym same)
      (all_kept jobs ds served
      (jobs_stored p (map (λ a. a.desk) o.jobs.items) o.workers.items stores jobs is.opened keep workers kept))

  -- stores that know any tables, and that a crash leaves nothing of
  pub none_left : ((s : S) (T : Tables) → knows s T) → ((s : S) (K : Tables) → may_leave s K → ⊥)
      → (tables : List Tables) (stores : List S)
      → length stores ≡ length tables → StoresKeep knows may_leave tables stores
  none_left all nothing tables stores many = record {
    as_many = many;
    each = λ k T s at at'. record { known = all s T; durable = λ K may. absurd (nothing s K may) };
  }
