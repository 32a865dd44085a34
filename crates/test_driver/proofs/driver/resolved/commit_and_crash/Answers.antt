use Rattle.xa_base.proofs.{◌≡◌, ℕ, List, [], ◌∷◌, map, sym, ap, subst, ◌∙◌, All}
use Rattle.xa_words.specs.{Shut}
use Rattle.xa_desk.specs.{LedgerView, DeskView, ledger}
use Rattle.xa_desk.proofs.Ledgers.{same_lists}
use Rattle.xa_switch.specs.{thread_part, DeskSeat, Settling}
use Rattle.test_driver.proofs.Senders.{grown_of_first, own_of_two}
use Rattle.test_driver.proofs.Shutting.{none_shut}
use Rattle.test_driver.proofs.driver.resolved.commit_and_crash.Goals as goal

pub returns-clause-grown : goal.returns-clause-grown
returns-clause-grown g c =
    let threads =
    ap (λ (s : Settling). s.threads) c.settle_all-settled.ensures.parts
    ∙ ap (map thread_part) c.in-Ok.ensures.items in
    let own =
    c.thread-thread.ensures.thread
    ∙ sym
    (c.end-first_ended.ensures.thread
    ∙ ap (λ (s : DeskSeat). s.thread) (c.make-made.ensures.seat ∙ c.work-2.ensures.seat ∙ c.work.ensures.seat)) in
    let lists = c.end-first_ended.ensures.lists ∙ ap (λ (d : DeskView). d.ledgers) (sym c.make-made.ensures.after) in
    same_lists c.make-made.result.after.value.ledgers _
    (grown_of_first c.settle_all-settled.result c.end-first_ended.result
    (thread_part c.end-second_ended.result ∷ []) c.thread-thread.result c.make-made.result.after.value.ledgers
    threads own lists)

pub returns-clause-own : goal.returns-clause-own
returns-clause-own g c =
    let threads =
    ap (λ (s : Settling). s.threads) c.settle_all-settled.ensures.parts
    ∙ ap (map thread_part) c.in-Ok.ensures.items in
    let own =
    c.thread-thread.ensures.thread
    ∙ sym
    (c.end-first_ended.ensures.thread
    ∙ ap (λ (s : DeskSeat). s.thread) (c.make-made.ensures.seat ∙ c.work-2.ensures.seat ∙ c.work.ensures.seat)) in
    let lists = c.end-first_ended.ensures.lists ∙ ap (λ (d : DeskView). d.ledgers) (sym c.make-made.ensures.after) in
    own_of_two c.settle_all-settled.result c.end-first_ended.result c.end-second_ended.result c.thread-thread.result
    c.args.branches.now c.make-made.result.before.value.ledgers c.make-made.result.after.value.ledgers
    c.settle_all-settled.ensures.settled threads own lists
    (subst (λ (at : List LedgerView). (m : ℕ) → All (λ op. op ≡ Shut) (ledger at m).sent)
    (sym c.end-second_ended.ensures.lists)
    (c.make-made.ensures.idled.2 (none_shut c.args.opened.second.ledgers c.requires.fresh)))
