use Rattle.std.proofs.Common.{◌≡◌, ℕ, true, List, Option, subst}
use Rattle.xa_worker.specs.{Entry}
use Rattle.test_replay.specs.{Agrees}
use Rattle.test_soak.specs.{sent_by_all}
use Rattle.test_soak.proofs.agrees_at.Goals as goal

pub returns : goal.returns
returns c = λ shown.
    let accounts = c.args.accounts.now in
    let s = c.args.settled.now in
    let m = c.args.manager in
    let values = c.in_ok-values.values.items in
    let yes_ : c.agrees.result ≡ true = cc in
    record {
      values = values;
      are = c.in_ok-values.ensures;
      agrees =
          subst (λ (j : List Entry). Agrees accounts j (sent_by_all s m) values) c.journal.ensures.journal
          (subst (λ (l : List ℕ). Agrees accounts c.journal.result.now l values) c.sent_to-sent.ensures
          (subst (λ (v : List (List ℕ × Option ℕ)). Agrees accounts c.journal.result.now c.sent_to-sent.result v)
          c.deref.ensures.value (c.agrees.ensures yes_)));
    }
