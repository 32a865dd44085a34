use Rattle.xa_base.proofs.{arith, ◌≡◌, ◌≢◌, true, false, Some, None, sym, ◌∙◌, rules, IfErr-weaker}
use Rattle.xa_words.specs.{are_accounts}
use Rattle.xa_tables.specs.{stored, fault_of, sums_fault, declared_values, NoMemory}
use Rattle.xa_tables.proofs.Restoring.{whole_fault, restored_sound}
use Rattle.xa_tables.proofs.restored.restored_tables.Goals as goal
use Rattle.xa_tables.proofs.restored.restored_tables.Goals.{In_ok-accounts}

pub returns-in_err-accounts-clause-fault : goal.returns-in_err-accounts-clause-fault
returns-in_err-accounts-clause-fault c =
    let s = stored c.args.accounts.now c.args.branches.now c.args.sums.now in
    let states = c.in_ok-branches.branches.states in
    let are : are_accounts c.args.accounts.now ≡ true = sym c.are_accounts.ensures ∙ c.if-not-are_accounts.false in
    IfErr-weaker c.from_residual-in_err-accounts.result
    (λ f. f ≢ NoMemory → sums_fault (declared_values c.args.accounts.now) states c.args.sums.now ≡ Some f) _
    (λ f is other. whole_fault s states None (Some f) are c.in_ok-branches.ensures.faultless
    c.in_ok-branches.ensures.left.0 (is other))
    (search rules)

-- what the store has is without fault
whole : (c : In_ok-accounts) → fault_of (stored c.args.accounts.now c.args.branches.now c.args.sums.now) ≡ None
whole c =
    let s = stored c.args.accounts.now c.args.branches.now c.args.sums.now in
    let are : are_accounts c.args.accounts.now ≡ true = sym c.are_accounts.ensures ∙ c.if-not-are_accounts.false in
    whole_fault s c.in_ok-branches.branches.states None None are c.in_ok-branches.ensures.faultless
    c.in_ok-branches.ensures.left.0
    c.in_ok-accounts.ensures.faultless

pub of_parts-requires : goal.of_parts-requires
of_parts-requires c =
    rw (c.in_ok-branches.ensures.left.0, c.in_ok-accounts.ensures.held.0, c.in_ok-accounts.ensures.held.1)
    (restored_sound (stored c.args.accounts.now c.args.branches.now c.args.sums.now)
    (whole ((goal.at.of_parts-requires c).In_ok-accounts)))

pub returns-clause-faultless : goal.returns-clause-faultless
returns-clause-faultless c = whole ((goal.at.returns-clause-faultless c).In_ok-accounts)

pub returns-clause-begins : goal.returns-clause-begins
returns-clause-begins c = record {
  tables =
      c.of_parts.ensures.tables ∙ (λ i. record {
        opened = c.in_ok-threads.ensures.nobody i;
        associations = c.in_ok-threads.ensures.free i;
        states = c.in_ok-branches.ensures.left.0 i;
        sums = c.in_ok-accounts.ensures.held.0 i;
        values = c.in_ok-accounts.ensures.held.1 i;
        shut = false;
      });
  threads = c.of_parts.ensures.threads ∙ c.in_ok-threads.ensures.count;
  room = omega (arith, c.of_parts.ensures.spare, c.in_ok-branches.ensures.left.1);
  adds = omega (arith, c.of_parts.ensures.adds, c.in_ok-accounts.ensures.held.2);
}
