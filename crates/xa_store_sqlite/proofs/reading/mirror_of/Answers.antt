use Rattle.xa_base.proofs.{◌≡◌, ◌≤◌, ◌∙◌, List, Option, ap, arith, ints, length, map, option_map, rules, of_z, subst}
use Rattle.xa_base.proofs.{sym, to_z, to_z-of_z, ℤ, w64, err_from_is_err_and}
use Rattle.sqlite_disk.specs.Disk.{MoreFaults}
use Rattle.xa_slots.specs.{rows_from}
use Rattle.xa_store_sqlite.specs.{StoredBranch, Image, IsOther, StoreIsRefused, branch_cells}
use Rattle.xa_store_sqlite.proofs.Alike.{same_stored}
use Rattle.xa_store_sqlite.proofs.Changes.{clean_before}
use Rattle.xa_store_sqlite.proofs.Laid.{reads_on, same_tree}
use Rattle.xa_store_sqlite.proofs.Refused.{faults_later, refused_later}
use Rattle.xa_store_sqlite.proofs.Whole.{count_rows, device_alone}
use Rattle.xa_store_sqlite.proofs.reading.mirror_of.Goals as goal

pub returns-in_err-is_filled-clause-refused : goal.returns-in_err-is_filled-clause-refused
returns-in_err-is_filled-clause-refused g c = λ clean.
    let view = g.S.Store.view in
    let count = g.S.Store.faults in
    let v = view c.args.tables.now.trees in
    let failed = MoreFaults (count c.args.tables.now.trees) (count c.is_filled.new.tables.trees) in
    let p = err_from_is_err_and c.from_residual.result c.from_residual.ensures.1 in
    rw (p.1, p.2)
    (subst (λ (n : ℤ). StoreIsRefused n c.args.room v failed c.in_err-is_filled.field-0.0)
    (to_z-of_z w64 c.args.number (omega (arith, ints)))
    (c.in_err-is_filled.ensures.refused c.args.room clean))

pub returns-in_err-accounts-clause-refused : goal.returns-in_err-accounts-clause-refused
returns-in_err-accounts-clause-refused g c = λ clean.
    let view = g.S.Store.view in
    let count = g.S.Store.faults in
    let v = view c.args.tables.now.trees in
    let failed = MoreFaults (count c.args.tables.now.trees) (count c.read_accounts.new.tables.trees) in
    let old = c.args.tables.now.trees in
    let one = c.is_filled.new.tables.trees in
    let new = c.read_accounts.new.tables.trees in
    let clean_one =
    clean_before view count g.S.Store.recovers g.S.Store.is_shielded one new new c.read_accounts.ensures.quiet
    clean in
    let p = err_from_is_err_and c.from_residual-in_err-accounts.result c.from_residual-in_err-accounts.ensures.1 in
    rw (p.1, p.2)
    (refused_later c.args.number c.args.room v (view one) (MoreFaults (count one) (count new)) failed
    c.in_err-accounts.field-0.0 (c.in_ok-is_filled.ensures.only clean_one)
    (faults_later (count old) (count one) (count new) c.is_filled.ensures.quiet.counts)
    (c.in_err-accounts.ensures.refused c.args.number c.args.room clean))

pub returns-in_err-branches-clause-refused : goal.returns-in_err-branches-clause-refused
returns-in_err-branches-clause-refused g c = λ clean.
    let view = g.S.Store.view in
    let count = g.S.Store.faults in
    let v = view c.args.tables.now.trees in
    let failed = MoreFaults (count c.args.tables.now.trees) (count c.read_branches.new.tables.trees) in
    let old = c.args.tables.now.trees in
    let one = c.is_filled.new.tables.trees in
    let two = c.read_accounts.new.tables.trees in
    let new = c.read_branches.new.tables.trees in
    let quiet_one =
    clean_before view count g.S.Store.recovers g.S.Store.is_shielded one two two c.read_accounts.ensures.quiet in
    let clean_two =
    clean_before view count g.S.Store.recovers g.S.Store.is_shielded two new new c.read_branches.ensures.quiet
    clean in
    let so_far =
    reads_on v (view one) (view two) quiet_one c.in_ok-is_filled.ensures.only c.in_ok-accounts.ensures.only in
    let le : count old ≤ count two = let first = c.is_filled.ensures.quiet.counts in
    let second = c.read_accounts.ensures.quiet.counts in omega (arith, first, second) in
    let p = err_from_is_err_and c.from_residual-in_err-branches.result c.from_residual-in_err-branches.ensures.1 in
    rw (p.1, p.2)
    (refused_later c.args.number c.args.room v (view two) (MoreFaults (count two) (count new)) failed
    c.in_err-branches.field-0.0 (so_far clean_two)
    (faults_later (count old) (count two) (count new) le) (c.in_err-branches.ensures.refused c.args.number clean))

pub returns-in_err-changes-clause-refused : goal.returns-in_err-changes-clause-refused
returns-in_err-changes-clause-refused g c = λ clean.
    let view = g.S.Store.view in
    let count = g.S.Store.faults in
    let v = view c.args.tables.now.trees in
    let failed = MoreFaults (count c.args.tables.now.trees) (count c.read_changes.new.tables.trees) in
    let old = c.args.tables.now.trees in
    let one = c.is_filled.new.tables.trees in
    let two = c.read_accounts.new.tables.trees in
    let three = c.read_branches.new.tables.trees in
    let new = c.read_changes.new.tables.trees in
    let quiet_one =
    clean_before view count g.S.Store.recovers g.S.Store.is_shielded one two two c.read_accounts.ensures.quiet in
    let quiet_two =
    clean_before view count g.S.Store.recovers g.S.Store.is_shielded two three three
    c.read_branches.ensures.quiet in
    let clean_three =
    clean_before view count g.S.Store.recovers g.S.Store.is_shielded three new new c.read_changes.ensures.quiet
    clean in
    let later =
    reads_on (view one) (view two) (view three) quiet_two c.in_ok-accounts.ensures.only
    c.in_ok-branches.ensures.only in
    let so_far =
    reads_on v (view one) (view three) (λ k. quiet_one (quiet_two k)) c.in_ok-is_filled.ensures.only later in
    let le : count old ≤ count three =
    let first = c.is_filled.ensures.quiet.counts in
    let second = c.read_accounts.ensures.quiet.counts in let third = c.read_branches.ensures.quiet.counts in
    omega (arith, first, second, third) in
    let long : length c.in_ok-accounts.accounts.items ≡ c.len.result = search (arith, rules) in
    let accounts = ap length
    (sym (same_tree (view one) (view three) 0 later clean_three)
    ∙ c.in_ok-accounts.ensures.rows (quiet_two clean_three))
    ∙ count_rows c.in_ok-accounts.accounts.items ∙ long in
    let branches = sym (same_tree (view two) (view three) 1 c.in_ok-branches.ensures.only clean_three)
    ∙ c.in_ok-branches.ensures.rows clean_three
    ∙ ap (λ (l : List (Option StoredBranch)). rows_from 1 (map (λ b. option_map branch_cells b) l))
    (sym c.deref.ensures.value) in
    let p = err_from_is_err_and c.from_residual-in_err-changes.result c.from_residual-in_err-changes.ensures.1 in
    rw (p.1, p.2)
    (refused_later c.args.number c.args.room v (view three) (MoreFaults (count three) (count new)) failed
    c.in_err-changes.field-0.0 (so_far clean_three)
    (faults_later (count old) (count three) (count new) le)
    (c.in_err-changes.ensures.refused c.args.number c.args.room accounts branches clean))

pub returns-in_err-is_filled-clause-whole : goal.returns-in_err-is_filled-clause-whole
returns-in_err-is_filled-clause-whole g c = λ image whole has clean.
    let view = g.S.Store.view in
    let count = g.S.Store.faults in
    let v = view c.args.tables.now.trees in
    let failed = MoreFaults (count c.args.tables.now.trees) (count c.is_filled.new.tables.trees) in
    device_alone c.args.number c.args.room image v.trees whole has v.is_broken failed c.from_residual.result
    (returns-in_err-is_filled-clause-refused g c clean)

pub returns-in_err-accounts-clause-whole : goal.returns-in_err-accounts-clause-whole
returns-in_err-accounts-clause-whole g c = λ image whole has clean.
    let view = g.S.Store.view in
    let count = g.S.Store.faults in
    let v = view c.args.tables.now.trees in
    let failed = MoreFaults (count c.args.tables.now.trees) (count c.read_accounts.new.tables.trees) in
    device_alone c.args.number c.args.room image v.trees whole has v.is_broken failed
    c.from_residual-in_err-accounts.result
    (returns-in_err-accounts-clause-refused g c clean)

pub returns-in_err-branches-clause-whole : goal.returns-in_err-branches-clause-whole
returns-in_err-branches-clause-whole g c = λ image whole has clean.
    let view = g.S.Store.view in
    let count = g.S.Store.faults in
    let v = view c.args.tables.now.trees in
    let failed = MoreFaults (count c.args.tables.now.trees) (count c.read_branches.new.tables.trees) in
    device_alone c.args.number c.args.room image v.trees whole has v.is_broken failed
    c.from_residual-in_err-branches.result
    (returns-in_err-branches-clause-refused g c clean)

pub returns-in_err-changes-clause-whole : goal.returns-in_err-changes-clause-whole
returns-in_err-changes-clause-whole g c = λ image whole has clean.
    let view = g.S.Store.view in
    let count = g.S.Store.faults in
    let v = view c.args.tables.now.trees in
    let failed = MoreFaults (count c.args.tables.now.trees) (count c.read_changes.new.tables.trees) in
    device_alone c.args.number c.args.room image v.trees whole has v.is_broken failed
    c.from_residual-in_err-changes.result
    (returns-in_err-changes-clause-refused g c clean)

pub returns-in_err-is_filled-clause-others : goal.returns-in_err-is_filled-clause-others
returns-in_err-is_filled-clause-others g c = λ wanted is clean.
    let v = g.S.Store.view c.args.tables.now.trees in
    let same : c.args.number ≡ to_z w64 (of_z w64 c.args.number) =
    sym (to_z-of_z w64 c.args.number (omega (arith, ints))) in
    let p = err_from_is_err_and c.from_residual.result c.from_residual.ensures.1 in
    rw (p.1, p.2)
    (c.in_err-is_filled.ensures.others wanted (subst (λ (n : ℤ). IsOther n (v.trees 3) wanted) same is) clean)

pub returns-in_err-accounts-clause-others : goal.returns-in_err-accounts-clause-others
returns-in_err-accounts-clause-others g c = λ wanted is clean.
    let view = g.S.Store.view in
    let same : c.args.number ≡ to_z w64 (of_z w64 c.args.number) =
    sym (to_z-of_z w64 c.args.number (omega (arith, ints))) in
    absurd
    (c.in_ok-is_filled.ensures.others wanted
    (subst (λ (n : ℤ). IsOther n ((view c.args.tables.now.trees).trees 3) wanted) same is)
    (clean_before view g.S.Store.faults g.S.Store.recovers g.S.Store.is_shielded c.is_filled.new.tables.trees
    c.read_accounts.new.tables.trees c.read_accounts.new.tables.trees c.read_accounts.ensures.quiet
    clean))

pub returns-in_err-branches-clause-others : goal.returns-in_err-branches-clause-others
returns-in_err-branches-clause-others g c = λ wanted is clean.
    let view = g.S.Store.view in
    let same : c.args.number ≡ to_z w64 (of_z w64 c.args.number) =
    sym (to_z-of_z w64 c.args.number (omega (arith, ints))) in
    absurd
    (c.in_ok-is_filled.ensures.others wanted
    (subst (λ (n : ℤ). IsOther n ((view c.args.tables.now.trees).trees 3) wanted) same is)
    (clean_before view g.S.Store.faults g.S.Store.recovers g.S.Store.is_shielded c.is_filled.new.tables.trees
    c.read_accounts.new.tables.trees c.read_accounts.new.tables.trees c.read_accounts.ensures.quiet
    (clean_before view g.S.Store.faults g.S.Store.recovers g.S.Store.is_shielded c.read_accounts.new.tables.trees
    c.read_branches.new.tables.trees c.read_branches.new.tables.trees c.read_branches.ensures.quiet
    clean)))

pub returns-in_err-changes-clause-others : goal.returns-in_err-changes-clause-others
returns-in_err-changes-clause-others g c = λ wanted is clean.
    let view = g.S.Store.view in
    let same : c.args.number ≡ to_z w64 (of_z w64 c.args.number) =
    sym (to_z-of_z w64 c.args.number (omega (arith, ints))) in
    absurd
    (c.in_ok-is_filled.ensures.others wanted
    (subst (λ (n : ℤ). IsOther n ((view c.args.tables.now.trees).trees 3) wanted) same is)
    (clean_before view g.S.Store.faults g.S.Store.recovers g.S.Store.is_shielded c.is_filled.new.tables.trees
    c.read_accounts.new.tables.trees c.read_accounts.new.tables.trees c.read_accounts.ensures.quiet
    (clean_before view g.S.Store.faults g.S.Store.recovers g.S.Store.is_shielded c.read_accounts.new.tables.trees
    c.read_branches.new.tables.trees c.read_branches.new.tables.trees c.read_branches.ensures.quiet
    (clean_before view g.S.Store.faults g.S.Store.recovers g.S.Store.is_shielded c.read_branches.new.tables.trees
    c.read_changes.new.tables.trees c.read_changes.new.tables.trees c.read_changes.ensures.quiet
    clean))))

pub returns-clause-alike : goal.returns-clause-alike
returns-clause-alike g c = λ image has clean.
    let view = g.S.Store.view in
    let count = g.S.Store.faults in
    let v = view c.args.tables.now.trees in
    let one = c.is_filled.new.tables.trees in
    let two = c.read_accounts.new.tables.trees in
    let three = c.read_branches.new.tables.trees in
    let new = c.read_changes.new.tables.trees in
    let quiet_one =
    clean_before view count g.S.Store.recovers g.S.Store.is_shielded one two two c.read_accounts.ensures.quiet in
    let quiet_two =
    clean_before view count g.S.Store.recovers g.S.Store.is_shielded two three three
    c.read_branches.ensures.quiet in
    let clean_three =
    clean_before view count g.S.Store.recovers g.S.Store.is_shielded three new new c.read_changes.ensures.quiet
    clean in
    let to_two =
    reads_on v (view one) (view two) quiet_one c.in_ok-is_filled.ensures.only c.in_ok-accounts.ensures.only in
    let to_three = reads_on v (view two) (view three) quiet_two to_two c.in_ok-branches.ensures.only in
    let found : Image =
    record {
      number = c.args.number;
      accounts = c.in_ok-accounts.accounts.items;
      branches = c.in_ok-branches.branches.items;
      changes = c.in_ok-changes.changes.items;
    }
    in
    same_stored found image v.trees
    (same_tree v (view one) 0 c.in_ok-is_filled.ensures.only (quiet_one (quiet_two clean_three))
    ∙ c.in_ok-accounts.ensures.rows (quiet_two clean_three))
    (same_tree v (view two) 1 to_two (quiet_two clean_three) ∙ c.in_ok-branches.ensures.rows clean_three)
    (same_tree v (view three) 2 to_three clean_three ∙ c.in_ok-changes.ensures.rows clean) has
