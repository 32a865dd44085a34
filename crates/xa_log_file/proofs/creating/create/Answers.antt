use Rattle.xa_base.proofs.{rules, ◌≡◌, ℕ, List, [], sym, ◌∙◌, ap, arith, Decides-eqb}
use Rattle.std.proofs.Common.{vec_len}
use Rattle.std.proofs.lemmas.List.{nil_from_length}
use Rattle.xa_log_file.specs.{StandsFor, IsDurable, IsNewLog, free_slots, table_of}
use Rattle.xa_log_file.proofs.Moments.{started, goes_on, joined, short_file}
use Rattle.xa_log_file.proofs.Stands.{settled_shown}
use Rattle.xa_log_file.proofs.Tables.{new_table}
use Rattle.xa_log_file.proofs.creating.create.Goals as goal

pub invariant_of-result : goal.invariant_of-result
invariant_of-result g c =
    let free = rw c.in-Ok-Ok.is-0 at c.new-table.ensures in
    let same : table_of c.in-Ok-Ok.table.slots.items ≡ free_slots c.args.slots =
    ap table_of free ∙ new_table c.args.slots in
    let stands : StandsFor (table_of c.in-Ok-Ok.table.slots.items) (g.D.Device.seen c.write_new.new.device) =
    search (arith, g.D.Device.seen) in
    let settled : IsDurable g.D.Device.seen g.D.Device.may_leave (table_of c.in-Ok-Ok.table.slots.items)
    c.write_new.new.device =
    search (arith, rules) in
    record { ready = λ is. settled; known = λ known. settled_shown c.in-Ok-Ok.table.slots.items settled }

pub returns-clause-any_moment : goal.returns-clause-any_moment
returns-clause-any_moment g c =
    let none : vec_len c.in-Ok.bytes ≡ 0 =
    (Decides-eqb (vec_len c.in-Ok.bytes) 0).0 (sym c.is_empty.ensures ∙ c.if-is_empty.true) in
    let empty : g.D.Device.seen c.args.device ≡ [] = search (arith, nil_from_length, c.in-Ok.bytes.items) in
    let new : (f : List ℕ) → g.D.Device.may_leave c.args.device f → IsNewLog c.args.slots f =
    search (arith, short_file, c.requires.durable) in
    joined
    (goes_on (started (λ f left. new f (g.met.D.Device.only_now c.args.device f left))) c.read.ensures.time
    (λ f left. new f (c.read.ensures.crash f left)))
    c.write_new.ensures.any_moment
