use Rattle.xa_base.proofs.{not, ◌≡◌, true, false, sym, ap, ◌∙◌, false_from_ne_true}
use Rattle.xa_words.specs.{xid_eq, Decides-xid_eq}
use Rattle.test_driver.proofs.driver.woven.differ.Goals as goal

pub returns : goal.returns
returns c =
    let other = c.args.other.now.xid in
    let own = c.args.branch.now.xid in
    let d = Decides-xid_eq other own in (
      λ t same. let z : true ≡ false = sym t ∙ c.ne.ensures ∙ ap not (d.1 same) in cc,
      λ differs. c.ne.ensures ∙ ap not (false_from_ne_true (xid_eq other own) (λ e. differs (d.0 e))),
    )
