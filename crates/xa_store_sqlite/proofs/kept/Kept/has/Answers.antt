use Rattle.xa_base.proofs.{is_some, ap, ◌∙◌}
use Rattle.xa_store_sqlite.specs.{image_of}
use Rattle.xa_store_sqlite.proofs.Lookups.{found_alike}
use Rattle.xa_store_sqlite.proofs.kept.Kept.has.Goals as goal

pub returns : goal.returns
returns g c = λ slots.
    c.contains_key.ensures ∙ ap is_some (slots c.args.xid.now)
    ∙ found_alike c.args.xid.now (image_of c.args.self.now.mirror).branches 0
