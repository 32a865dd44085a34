use denote.Enum.Bare.{differs_false}
use Rattle.xa_words.specs.contracts.code.Code.{the_type}
use Rattle.xa_base.proofs.{rules, ◌≡◌, ◌+◌, [], ◌∷◌, ◌++◌, take, sym, ◌∙◌, arith, All-push, one_more}
use Rattle.xa_base.specs.{IsUpTo}
use Rattle.xa_worker.specs.{Entry}
use Rattle.test_replay.proofs.Entries.{replay_more}
use Rattle.test_replay.proofs.replays.Goals as goal

pub loop-entry-preserved : goal.loop-entry-preserved
loop-entry-preserved c =
    let journal = c.args.journal.now in
    let n = c.loop-entry.entry-index in
    let i = c.loop-entry.invariant in
    let e : Entry = c.entry-item.result in
    let P : Entry → Type 0 = λ x. IsUpTo c.args.threads x.0.thread in
    let low = c.if-thread-lt1.false in
    let high = c.if-threads-thread.false in
    let more : take (n + 1) journal ≡ take n journal ++ e ∷ [] =
    one_more journal n e c.loop-entry-test.true c.entry-item.is in
    let same : c.apply.result ≡ e.1 = differs_false the_type (search rules) _ _ (sym c.ne.ensures ∙ c.if-ne.false) in
    record {
      threads = c.apply.ensures.threads ∙ i.threads;
      follows = replay_more c.args.tables.now.tables (take n journal) (take (n + 1) journal) e
          c.loop-entry.tables.tables c.apply.new.self.tables c.apply.result more c.apply.ensures.step same i.follows;
      each = rw more (All-push P (take n journal) e i.each (omega (arith, low), omega (arith, high)));
    }
