use Rattle.xa_base.proofs.{◌≡◌, ℕ, true, false, List, [], ◌∷◌, map, sym, ap, subst, ◌∙◌, All, false≢true}
use Rattle.xa_words.specs.{XidName, Op}
use Rattle.xa_tables.specs.{is_heur, names}
use Rattle.xa_desk.specs.{LedgerView, DeskView, ledger, HaveGrown}
use Rattle.xa_switch.specs.{thread_part, ledgers_of, DeskSeat, Settling}
use Rattle.test_driver.proofs.Senders.{first_ledgers, own_of_both}
use Rattle.test_driver.proofs.Shutting.{none_only}
use Rattle.test_driver.proofs.driver.dying.die_and_settle.Goals as goal

abbrev Decides : Op → Type 0
Decides op = is_heur op ≡ true

only_decides : (x : XidName) (op : Op) → Decides op → names x op ≡ true → is_heur op ≡ false → ⊥
only_decides x op decides named other = absurd (false≢true (sym other ∙ decides))

pub returns-clause-cut : goal.returns-clause-cut
returns-clause-cut g c = c.die-died.ensures.cut c.thread-thread.result

pub returns-clause-grown : goal.returns-clause-grown
returns-clause-grown g c =
    let threads =
    ap (λ (s : Settling). s.threads) c.settle_all-settled.ensures.parts
    ∙ ap (map thread_part) c.in-Ok.ensures.items in
    let own =
    c.thread-thread.ensures.thread
    ∙ sym
    (c.end-first_ended.ensures.thread
    ∙ ap (λ (s : DeskSeat). s.thread)
    (c.collect_all.ensures.goes_on.seat ∙ c.die-died.ensures.seat ∙ c.work-2.ensures.seat ∙ c.work.ensures.seat)) in
    let last : ledgers_of c.settle_all-settled.result c.thread-thread.result ≡ c.collect_all.new.desk.ledgers =
    ap (ledgers_of c.settle_all-settled.result) own
    ∙ first_ledgers c.settle_all-settled.result c.end-first_ended.result (thread_part c.end-second_ended.result ∷ [])
    threads
    ∙ c.end-first_ended.ensures.lists in
    subst (HaveGrown c.die-died.result.after.value.ledgers) (sym last)
    (subst (λ (d : DeskView). HaveGrown d.ledgers c.collect_all.new.desk.ledgers) (sym c.die-died.ensures.after)
    c.collect_all.ensures.goes_on.lists)

pub returns-clause-own : goal.returns-clause-own
returns-clause-own g c =
    let threads =
    ap (λ (s : Settling). s.threads) c.settle_all-settled.ensures.parts
    ∙ ap (map thread_part) c.in-Ok.ensures.items in
    let own =
    c.thread-thread.ensures.thread
    ∙ sym
    (c.end-first_ended.ensures.thread
    ∙ ap (λ (s : DeskSeat). s.thread)
    (c.collect_all.ensures.goes_on.seat ∙ c.die-died.ensures.seat ∙ c.work-2.ensures.seat ∙ c.work.ensures.seat)) in
    let quiet : (m : ℕ)
    → (ledger c.end-first_ended.result.ledgers m).sent ≡ (ledger c.die-died.result.after.value.ledgers
    m).sent = λ m.
    ap (λ (l : List LedgerView). (ledger l m).sent) c.end-first_ended.ensures.lists ∙ c.collect_all.ensures.sent m
    ∙ ap (λ (d : DeskView). (ledger d.ledgers m).sent) (sym c.die-died.ensures.after) in
    own_of_both Decides only_decides c.settle_all-settled.result c.end-first_ended.result c.end-second_ended.result
    c.thread-thread.result c.args.branches.now c.die-died.result.before.value.ledgers
    c.die-died.result.after.value.ledgers
    c.settle_all-settled.ensures.settled threads own quiet
    (subst (λ (at : List LedgerView). (m : ℕ) → All Decides (ledger at m).sent) (sym c.end-second_ended.ensures.lists)
    (c.die-died.ensures.idled.2 (none_only Decides c.args.opened.second.ledgers c.requires.fresh)))
