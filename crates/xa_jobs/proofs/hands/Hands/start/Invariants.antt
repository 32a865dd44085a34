use Rattle.xa_base.proofs.{◌≡◌, ◌++◌, [], true, vec_capacity, into_iter_items}
use Rattle.xa_jobs.specs.{AreAtFirst}
use Rattle.xa_jobs.proofs.hands.Hands.start.Given as goal

-- the first jobs have a thread, or came to something without one
abbrev pub invariant-loop-job : goal.invariant-loop-job
invariant-loop-job g l = record {
  so_far : l.yielded ++ into_iter_items l.job-iterator ≡ l.fn.jobs.items;
  started : AreAtFirst g.J.Job.comes_to l.yielded l.self.hands.items l.self.others.items;
  all : l.all ≡ true → l.self.others.items ≡ [];
  hands : vec_capacity l.self.hands ≡ vec_capacity l.fn.self.hands;
  others : vec_capacity l.self.others ≡ vec_capacity l.fn.self.others;
  came : l.self.came ≡ l.fn.self.came;
  done : l.self.done ≡ l.fn.self.done;
  back : l.self.back ≡ l.fn.self.back;
}
