use Rattle.laws_tables.proofs.WorthLaw.{work_law}
use Rattle.laws_tables.proofs.values.a_thread_adds_as_it_works.Goals as goal

pub returns : goal.returns
returns c = λ t n x k d h T opened work. work_law t n x k d h T opened work
