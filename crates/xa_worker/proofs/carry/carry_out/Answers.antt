use Rattle.xa_base.proofs.{rules, ◌≡◌, ap, arith, [], ◌∷◌, ◌++◌, ◌∙◌, length, set, get_or-append_seam, set-append_seam}
use Rattle.xa_words.specs.{Done}
use Rattle.xa_tables.specs.{TablesAndCode}
use Rattle.xa_worker.specs.{Entry, entry_next}
use Rattle.xa_worker.proofs.carry.carry_out.Goals as goal

pub returns-clause-journal : goal.returns-clause-journal
returns-clause-journal g c =
    let items = c.args.journal.now.items in
    let r = c.args.request in
    let T = c.args.manager.now.tables in
    let e : Entry = c.index_mut-entry.result.now in
    let at : c.len-place.result ≡ length items = let len = c.len-place.ensures in
    let ok = c.args.journal.now.ok.0 in omega (arith, len, ok) in
    let same : e ≡ (r, Done) = search (arith, get_or-append_seam, c.enter.ensures.entry) in
    let next : (e.0, c.apply-code.result) ≡ entry_next r T = search (arith, rules) in
    let placed : set c.enter.new.journal.items c.len-place.result (e.0, c.apply-code.result) ≡ set
    (items ++ (r, Done) ∷ []) (length items) (entry_next r T) =
    λ i. set (c.enter.ensures.entry i) (at i) (next i) in
    placed ∙ set-append_seam items (r, Done) [] (entry_next r T)

pub returns-clause-known : goal.returns-clause-known
returns-clause-known g c known =
    let step = c.apply-code.ensures.step in
    rw (ap (λ (a : TablesAndCode). a.0) step)
    (c.tell.ensures.told c.args.manager.now.tables c.apply-code.ensures.live known
    (ap (λ (a : TablesAndCode). a.1) step))

pub returns-clause-settled : goal.returns-clause-settled
returns-clause-settled g c known free =
    c.owes.ensures.durable free c.apply-code.new.self.tables (returns-clause-known g c known)
