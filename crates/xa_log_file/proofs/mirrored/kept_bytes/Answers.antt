use Rattle.xa_base.proofs.{inl, inr, refl, ◌∙◌}
use Rattle.xa_log_file.proofs.mirrored.kept_bytes.Goals as goal

pub returns-in_default-clause-refused : goal.returns-in_default-clause-refused
returns-in_default-clause-refused g c = λ is. inl (rw c.in_ok-size.ensures.told at c.in_default.ensures.none)

pub returns-then-not-may_be_log-clause-refused : goal.returns-then-not-may_be_log-clause-refused
returns-then-not-may_be_log-clause-refused g c = λ is.
    inr (rw (c.deref.ensures.value ∙ c.in_ok-bytes.ensures.found) at (c.if-not-may_be_log.ensures.not refl))
