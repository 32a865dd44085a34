use Rattle.xa_base.proofs.{arith, ◌≡◌, ap, sym, ◌∙◌, None, Some, false, Option, list_any}
use Rattle.xa_words.specs.{XidName, xid_eq}
use Rattle.xa_tables.specs.{Association, ThreadState, is_association_with, is_somebody_associated, association_in}
use Rattle.xa_tables.specs.{is_thread_with}
use Rattle.xa_tables.proofs.ThreadLemmas.{any_thread}
use Rattle.xa_tables.proofs.threads.Threads.is_somebody_associated.Goals as goal

same_test : (x : XidName) (o : Option Association)
    → is_association_with o x ≡ (elim o [ None ↦ false | Some v ↦ xid_eq v.xid x ])
same_test x o = grind arith

pub returns : goal.returns
returns c =
    let x = c.args.xid.now in
    c.any_with.ensures ∙ ap (list_any (λ s. is_thread_with s x)) c.deref.ensures.value
    ∙ (λ i. list_any (λ (s : ThreadState). same_test x s.association i) c.self.inside.threads.items)
    ∙ sym (any_thread association_in (λ l. xid_eq l.xid x) c.self.inside.threads.items)
    ∙ ap (λ s. is_somebody_associated s.associations x) c.self.view_is
