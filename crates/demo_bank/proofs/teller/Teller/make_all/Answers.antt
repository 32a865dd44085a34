use Rattle.xa_base.proofs.{rules, ◌≡◌, ℕ, ◌+◌, ◌<◌, ◌≤◌, true, false, ◌||◌, List, [], ◌∷◌, ◌++◌, length, length-append}
use Rattle.xa_base.proofs.{append-nil, None, take, drop, append_assoc, sym, refl, ap, ◌∙◌, subst, arith, list_any}
use Rattle.xa_base.proofs.{slice_index_or, take_all, take-append-drop, list_any-append, one_more, length-take}
use Rattle.xa_desk.specs.{DeskView, DeskSeat}
use Rattle.xa_log.specs.{IsReadAs, LogState}
use Rattle.xa_driver.specs.declared.done.CommitOutcome.TheVariants as outcome
use Rattle.xa_work.specs.{Commit, WorkOutcome, LeavesKnown, has_died, is_last}
use Rattle.xa_work.proofs.Sent.{have_none}
use Rattle.demo_bank.specs.{Habits, Teller, Transfer, ended, lived, unknown, Makes, MakesEach, MakesNext}
use Rattle.demo_bank.proofs.Named.{makes_more, makes_none, each_any, refused_so}
use Rattle.demo_bank.proofs.teller.Teller.make_all.Goals as goal

-- a transfer more
module _ {L : Type 0} (state : L → LogState) (reads : L → LogState → Type 0) (was now later : L) (t u place : ℕ)
    (habits own : Habits) (trs : List Transfer)
    (tr : Transfer) (more : List WorkOutcome) (o : WorkOutcome) (old mid new : DeskView)
    (below : place < length trs) (many : length more ≡ place) (none : list_any is_last more ≡ false) (thread : u ≡ t)
    (same : own ≡ habits) (taken : take (place + 1) trs ≡ take place trs ++ tr ∷ [])
    (makes : MakesEach t habits habits.first (take place trs) more old mid (state was) (state now) (reads now))
    (next : MakesNext u (own.first + place) tr own o mid new (state now) (state later) (reads later)) where
  abbrev Made : List Transfer → Type 0
  Made l = MakesEach t habits habits.first l (more ++ o ∷ []) old new (state was) (state later) (reads later)

  -- where others may follow that aren't made
  made_with : (unmade : List Transfer) → Made (take place trs ++ tr ∷ unmade)
  made_with unmade =
      let makes_next : MakesNext t (habits.first + place) tr habits o mid new (state now) (state later) (reads later) =
      subst
      (λ (z : ℕ × Habits). MakesNext z.0 (z.1.first + place) tr z.1 o mid new (state now) (state later)
      (reads later)) (λ i. (thread i, same i)) next in
      let so_far =
      each_any (reads now) (reads later) t habits habits.first (take place trs) more old mid (state was) (state now)
      none makes in
      search (arith, length-take, makes_more, habits.first)

  each_more : Made (take (place + 1) trs)
  each_more = rw taken (made_with [])

  all_more : Made trs
  all_more =
      let rest : List Transfer = drop (place + 1) trs in
      subst Made
      (sym (append_assoc (take place trs) (tr ∷ []) rest) ∙ ap (λ l. l ++ rest) (sym taken)
      ∙ take-append-drop (place + 1) trs) (made_with rest)

still_none : (more : List WorkOutcome) (o : WorkOutcome) → list_any is_last more ≡ false → is_last o ≡ false
    → list_any is_last (more ++ o ∷ []) ≡ false
still_none more o none lives = list_any-append is_last more (o ∷ []) ∙ (λ i. none i || (lives i || false))

grown : (xs more : List WorkOutcome) (o : WorkOutcome) (ys zs : List WorkOutcome) → ys ≡ zs ++ o ∷ [] → zs ≡ xs ++ more
    → ys ≡ xs ++ (more ++ o ∷ [])
grown xs more o ys zs is told = is ∙ ap (λ l. l ++ o ∷ []) told ∙ append_assoc xs more (o ∷ [])

-- after an outcome that isn't the last the log is known
still_known : (Knows : Type 0) (o : WorkOutcome) → is_last o ≡ false → LeavesKnown Knows o → Knows
still_known Knows (Commit (outcome.Undecided votes)) lives known = cc
still_known Knows o lives known = known

pub returns-then-not-is_known-clause-made : goal.returns-then-not-is_known-clause-made
returns-then-not-is_known-clause-made g c = record {
  more = [];
  told = sym (append-nil c.args.self.now.outcomes.items);
  makes = record {
    opened = c.args.desk.now;
    opens = have_none c.args.desk.now.ledgers c.args.desk.now.ledgers refl;
    makes = makes_none
        (IsReadAs g.L.DecisionLog.state g.L.DecisionRecords.knows g.L.DecisionLog.loses c.args.self.now.log)
        c.args.desk.now.thread c.args.self.now.habits c.args.self.now.habits.first c.args.self.now.transfers.items
        c.args.desk.now (g.L.DecisionLog.state c.args.self.now.log);
  };
  opens = λ known. absurd
      (let yes_ : c.is_known.result ≡ true = c.is_known.ensures.1 known in let
      no : c.is_known.result ≡ false = c.if-not-is_known.true in cc);
  comes = unknown
      (λ known. let yes_ : c.is_known.result ≡ true = c.is_known.ensures.1 known in let
      no : c.is_known.result ≡ false = c.if-not-is_known.true in cc) refl;
}

pub loop-place-init : goal.loop-place-init
loop-place-init g c = record {
  goes_on = c.open_all.ensures.goes_on;
  kept = c.open_all.ensures.kept;
  idled = c.open_all.ensures.idled;
  transfers = refl;
  habits = refl;
  knows = c.is_known.ensures.0 (let yes_ : c.is_known.result ≡ true = c.if-not-is_known.false in yes_);
  each = search rules;
  made = (
    [],
    sym (append-nil c.args.self.now.outcomes.items),
    refl,
    refl,
    makes_none (IsReadAs g.L.DecisionLog.state g.L.DecisionRecords.knows g.L.DecisionLog.loses c.args.self.now.log)
        c.args.desk.now.thread c.args.self.now.habits c.args.self.now.habits.first
        (take 0 c.args.self.now.transfers.items) c.open_all.new.desk (g.L.DecisionLog.state c.args.self.now.log),
  );
}

pub loop-place-preserved : goal.loop-place-preserved
loop-place-preserved g c =
    let (more, told, many, none, makes) = c.loop-place.invariant.made in
    let o : WorkOutcome = c.in_ok-outcome.outcome in
    let trs : List Transfer = c.args.self.now.transfers.items in
    let below : c.loop-place.place < length trs =
    (let size = c.len-place-end.ensures in let test = c.loop-place-test.true in omega (arith, size, test)) in
    let taken : take (c.loop-place.place + 1) trs ≡ take c.loop-place.place trs ++ c.index.result.now ∷ [] =
    search (arith, one_more, slice_index_or, c.loop-place.invariant.transfers) in
    let same_outcomes = ap (λ (u : Teller g.row.L.Denot). u.outcomes.items) c.make.ensures.same in
    let size : length (more ++ o ∷ []) ≡ length more + 1 = length-append more (o ∷ []) in
    let lives : is_last o ≡ false = sym c.is_last-last.ensures ∙ c.if-last.false in
    record {
      goes_on = search rules;
      kept = search rules;
      transfers = ap (λ (u : Teller g.row.L.Denot). u.transfers) c.make.ensures.same ∙ c.loop-place.invariant.transfers;
      habits = ap (λ (u : Teller g.row.L.Denot). u.habits) c.make.ensures.same ∙ c.loop-place.invariant.habits;
      idled = c.idles_go_on.ensures.further _ _ _ c.loop-place.invariant.idled c.make.ensures.idled;
      knows = still_known (g.L.DecisionRecords.knows c.make.new.self.log) o lives c.in_ok-outcome.ensures.known;
      each = search rules;
      made = (
        more ++ o ∷ [],
        grown c.args.self.now.outcomes.items more o c.push.new.self.items c.make.new.self.outcomes.items
            c.in_ok-push.ensures.items (same_outcomes ∙ told),
        omega (arith, size, many),
        still_none more o none lives,
        each_more g.L.DecisionLog.state (IsReadAs g.L.DecisionLog.state g.L.DecisionRecords.knows g.L.DecisionLog.loses)
            c.args.self.now.log c.loop-place.self.log c.make.new.self.log c.args.desk.now.thread
            c.loop-place.desk.thread c.loop-place.place c.args.self.now.habits c.loop-place.self.habits trs
            c.index.result.now more o c.open_all.new.desk c.loop-place.desk c.make.new.desk
            below many none (ap (λ (s : DeskSeat). s.thread) c.loop-place.invariant.goes_on.seat)
            c.loop-place.invariant.habits taken makes c.in_ok-outcome.ensures.makes,
      );
    }

pub returns-then-last-clause-made : goal.returns-then-last-clause-made
returns-then-last-clause-made g c =
    let (more, told, many, none, makes) = c.loop-place.invariant.made in
    let o : WorkOutcome = c.in_ok-outcome.outcome in
    let trs : List Transfer = c.args.self.now.transfers.items in
    let below : c.loop-place.place < length trs =
    (let size = c.len-place-end.ensures in let test = c.loop-place-test.true in omega (arith, size, test)) in
    let taken : take (c.loop-place.place + 1) trs ≡ take c.loop-place.place trs ++ c.index.result.now ∷ [] =
    search (arith, one_more, slice_index_or, c.loop-place.invariant.transfers) in
    let same_outcomes = ap (λ (u : Teller g.row.L.Denot). u.outcomes.items) c.make.ensures.same in
    record {
      more = more ++ o ∷ [];
      told = grown c.args.self.now.outcomes.items more o c.push.new.self.items c.make.new.self.outcomes.items
          c.in_ok-push.ensures.items (same_outcomes ∙ told);
      makes = record {
        opened = c.open_all.new.desk;
        opens = c.open_all.ensures.sent;
        makes =
            all_more g.L.DecisionLog.state
            (IsReadAs g.L.DecisionLog.state g.L.DecisionRecords.knows g.L.DecisionLog.loses) c.args.self.now.log
            c.loop-place.self.log c.make.new.self.log c.args.desk.now.thread c.loop-place.desk.thread
            c.loop-place.place c.args.self.now.habits c.loop-place.self.habits trs c.index.result.now more o
            c.open_all.new.desk c.loop-place.desk
            c.make.new.desk below many none (ap (λ (s : DeskSeat). s.thread) c.loop-place.invariant.goes_on.seat)
            c.loop-place.invariant.habits taken makes c.in_ok-outcome.ensures.makes;
      };
      opens = λ known. (c.open_all.result, c.open_all.ensures.opens);
      comes = ended more o refl none (sym c.is_last-last.ensures ∙ c.if-last.true) c.in_ok-outcome.ensures.known;
    }

-- a teller that isn't to die doesn't
lives_on : {R : LogState → Type 0} (t n : ℕ) (tr : Transfer) (habits : Habits) (o : WorkOutcome) (old new : DeskView)
    (log later : LogState)
    → Makes t n tr habits o old new log later R → habits.death ≡ None → has_died o ≡ false
lives_on t n tr habits o old new log later h never = grind (arith, refused_so)

-- so its last transfer is one that its log has lost
last_is_lost : (Knows : Type 0) (o : WorkOutcome) → is_last o ≡ true → has_died o ≡ false → LeavesKnown Knows o → Knows
    → ⊥
last_is_lost Knows o last lives known = grind arith

pub returns-then-last-clause-each : goal.returns-then-last-clause-each
returns-then-last-clause-each g c never known knows = grind (arith, lives_on, last_is_lost)

pub returns-clause-made : goal.returns-clause-made
returns-clause-made g c =
    let (more, told, many, none, makes) = c.loop-place.invariant.made in
    let trs : List Transfer = c.args.self.now.transfers.items in
    let past : length trs ≤ c.loop-place.place =
    (let size = c.len-place-end.ensures in let test = c.loop-place-test.false in omega (arith, size, test)) in
    record {
      more = more;
      told = told;
      makes = record {
        opened = c.open_all.new.desk;
        opens = c.open_all.ensures.sent;
        makes = rw (take_all c.loop-place.place trs (omega (arith, past))) at makes;
      };
      opens = λ known. (c.open_all.result, c.open_all.ensures.opens);
      comes = lived none (let low = c.loop-place.invariant.each in omega (arith, past, many))
          c.loop-place.invariant.knows;
    }
