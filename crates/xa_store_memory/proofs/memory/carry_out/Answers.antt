use Rattle.xa_base.proofs.{rules, ◌+◌, take, one_more}
use Rattle.xa_store_memory.proofs.Continued.{carried_on}
use Rattle.xa_store_memory.proofs.memory.carry_out.Goals as goal

pub loop-request-preserved : goal.loop-request-preserved
loop-request-preserved c =
    let requests = c.args.requests.now in
    let n = c.loop-request.request-index in
    let r = c.request-item.result in
    let more = one_more requests n r c.loop-request-test.true c.request-item.is in
    record {
      tables =
          carried_on (take n requests) (take (n + 1) requests) r c.args.manager.now.tables c.loop-request.manager.tables
          c.apply.new.self.tables
          c.apply.result more c.apply.ensures.step c.loop-request.invariant.tables;
      threads = search rules;
      room = search rules;
    }
