use Rattle.xa_base.proofs.{◌≡◌, ℕ, List, ◌++◌, length, take, drop, sym, ◌∙◌, arith, append-nil, w32, to_z-of_z, ints}
use Rattle.xa_base.proofs.{on_err, refl, take_all, drop_all}
use Rattle.xa_words.specs.{XidName}
use Rattle.script_session.proofs.calls.recovered.Goals as goal

-- what was written back is all that a slice of this length has
written_back : (n : ℕ) (new old : List XidName) → length new ≡ n → length old ≡ n
    → take n (new ++ drop (length new) old) ≡ new
written_back n new old size was = search (arith, drop_all, append-nil, take_all)

pub returns-clause-answers : goal.returns-clause-answers
returns-clause-answers g c =
    let xids = c.in_ok-xids.xids in
    let n = c.xa_recover-answer.result in
    let new = c.xa_recover-answer.new.xids in
    let size : length new ≡ xids.len = c.xa_recover-answer.auto.xids ∙ c.deref_mut.ensures.len in
    record {
      before = xids.items;
      after = new;
      answer = n;
      room = c.in_ok-xids.ensures;
      recovers = rw c.deref_mut.ensures.value at c.xa_recover-answer.ensures.recovered;
      shown = rw (to_z-of_z w32 n (omega (arith, ints)), written_back xids.len new xids.items size (sym xids.ok.0)) at
          c.listed.ensures;
    }

pub returns-clause-prompt : goal.returns-clause-prompt
returns-clause-prompt g c = c.xa_recover-answer.ensures.prompt

pub returns-in_err-xids-clause-unsent : goal.returns-in_err-xids-clause-unsent
returns-in_err-xids-clause-unsent g c = on_err _ _ refl

pub returns-in_err-xids-clause-unscanned : goal.returns-in_err-xids-clause-unscanned
returns-in_err-xids-clause-unscanned g c = on_err _ _ refl
