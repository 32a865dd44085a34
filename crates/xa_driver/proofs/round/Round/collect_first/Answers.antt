use Rattle.xa_base.proofs.{refl, if◌then◌else◌, ◌≡◌, ◌≢◌, ℕ, ◌+◌, ◌-◌, ◌<◌, Bool, false, inl, inr, length, sym, true}
use Rattle.xa_base.proofs.{◌∙◌, arith, eqb-false, eqb-true}
use Rattle.xa_driver.specs.{is_passed, next_collected}
use Rattle.xa_driver.proofs.Progress.{OneCollected, first_so_many, collects_nothing, idles_start, one_collected}
use Rattle.xa_driver.proofs.Progress.{collects_on, step_collects, collect_on}
use Rattle.xa_driver.proofs.Requests.{same_itself}
use Rattle.xa_driver.proofs.round.Round.collect_first.Goals as goal
use Rattle.xa_driver.proofs.round.Round.collect_first.Goals.{then-not-is_unasked, else-not-is_unasked}

one_less : (b : Bool) (before now : ℕ) → b ≡ false → 0 < before → now ≡ before - 1 → (if b then 0 else 1) + now ≡ before
one_less b before now e some is = grind arith

as_many : (b : Bool) (before now : ℕ) → b ≡ true → now ≡ before → (if b then 0 else 1) + now ≡ before
as_many b before now e is = grind arith

pub answers-init : goal.answers-init
answers-init g c = record {
  under_way = c.requires.under_way;
  all = c.requires.all;
  counted = rw c.requires.none (omega arith);
  before = refl;
  same = λ js s. s;
  waited = idles_start _ _;
  ordered = collects_nothing _ _;
  idled = g.met.I.Idle.leads_start _;
}

pub answers-preserved : goal.answers-preserved
answers-preserved g c =
    let i = c.answers.invariant in
    let e = c.collect_place.ensures in
    let asks = c.args.self.now.asks.items in
    let r = c.answers.self in
    let some : length r.tickets.items ≢ 0 = search (arith, eqb-false, r.tickets.ok.0) in
    let one : OneCollected r c.collect_place.new.self =
    one_collected r c.collect_place.new.self c.answers.desk c.collect_place.new.desk c.collect_place.result _ refl
    e.collects i.all some in
    let b : Bool = is_passed (next_collected r) in
    let left : (if b then 0 else 1) + c.if-not-is_unasked.left ≡ c.answers.left = elim c.if-not-is_unasked.branch [
      | then-not-is_unasked w ↦ one_less b c.answers.left c.if-not-is_unasked.left
          (sym c.is_unasked.ensures ∙ w.if-not-is_unasked.true) c.answers-test.true w.left-is
      | else-not-is_unasked w ↦ as_many b c.answers.left c.if-not-is_unasked.left
          (sym c.is_unasked.ensures ∙ w.if-not-is_unasked.false) w.left-is
    ] in
    record {
      under_way = e.under_way;
      all = one.all;
      counted = let a = one.taken in let d = i.counted in omega (arith, a, left, d);
      before = e.before ∙ i.before;
      same = λ js s. e.same js (i.same js s);
      waited = collect_on asks r c.answers.desk c.collect_place.new.desk c.args.idle.now c.answers.idle
          c.collect_place.new.idle _ refl i.under_way (i.same asks (same_itself asks)) i.waited e.waited;
      ordered = collects_on _ _ _ _ _ _ i.ordered (step_collects _ _ _ _ _ _ e.collects);
      idled = g.met.I.Idle.leads_chain _ _ _ i.idled e.idled;
    }

pub returns-after-answers-clause-first : goal.returns-after-answers-clause-first
returns-after-answers-clause-first g c =
    first_so_many c.answers.self c.args.count c.answers.left c.answers.invariant.all c.answers.invariant.counted
    (inl (omega (arith, c.answers-test.false)))

pub returns-else-not-is_empty-clause-first : goal.returns-else-not-is_empty-clause-first
returns-else-not-is_empty-clause-first g c =
    first_so_many c.answers.self c.args.count c.answers.left c.answers.invariant.all c.answers.invariant.counted
    (inr (search (arith, eqb-true, c.answers.self.tickets.ok.0)))
