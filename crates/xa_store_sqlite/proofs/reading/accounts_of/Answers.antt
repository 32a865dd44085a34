use Rattle.xa_base.proofs.{◌≡◌, ◌<◌, ◌≤◌, ◌∙◌, ◌∷◌, [], All, All-append, All-cons, All-nil, Err, List, None, Some, ap}
use Rattle.xa_base.proofs.{arith, length, length-append, rules, subst, sym, ℕ, ⊎_elim, cases_lt}
use Rattle.xa_base.specs.declared.limits.TheConstants.{MOST_VALUE}
use Rattle.xa_slots.specs.{rows_from}
use Rattle.xa_store_sqlite.specs.{IsAccount, item_at}
use Rattle.xa_store_sqlite.proofs.Refused.{bad_account, bad_at, gap_at, item_read}
use Rattle.xa_store_sqlite.proofs.ReadRows.{next_account, passed_free, slots_in}
use Rattle.xa_store_sqlite.proofs.reading.accounts_of.Goals as goal

-- what holds of a number below another, and of the other, holds of one up to the other
by_place : (n k : ℕ) (P : ℕ → Type 0) → n ≤ k → (n < k → P n) → P k → P n
by_place n k P le below at =
    ⊎_elim (λ less. below less) (λ ge. let same : k ≡ n = omega (arith, ge, le) in subst P same at) (cases_lt n k)

pub loop-slot-preserved-in_default : goal.loop-slot-preserved-in_default
loop-slot-preserved-in_default c = record {
  rows = c.loop-slot.invariant.rows
      ∙ sym
      (passed_free c.args.slots.now c.loop-slot.slot c.index-slots-slot.result c.loop-slot-test.true
      c.index-slots-slot.is c.in_default.is);
  small = c.loop-slot.invariant.small;
  within = let le = c.loop-slot.invariant.within in omega (arith, le);
  free = λ less.
      let i = c.loop-slot.invariant in
      let n = length c.loop-slot.accounts.items in
      let slots = c.args.slots.now in
      by_place n c.loop-slot.slot (λ k. item_at slots k ≡ None) (omega (arith, less)) i.free
      (item_read slots c.loop-slot.slot c.index-slots-slot.result c.loop-slot-test.true c.index-slots-slot.is
      ∙ c.in_default.is);
}

pub loop-slot-preserved : goal.loop-slot-preserved
loop-slot-preserved c =
    let i = c.loop-slot.invariant in
    let accounts = c.loop-slot.accounts.items in
    let a = c.in-Ok.account in
    let P = λ (b : List ℕ × ℕ). b.1 ≤ MOST_VALUE in
    let count : c.loop-slot.slot ≡ length c.loop-slot.accounts.items = search (arith, rules) in
    record {
      rows = ap (λ (l : List (List ℕ × ℕ)). rows_from 1 (slots_in l)) c.in_ok-push-in-Ok.ensures.items
          ∙ next_account accounts c.args.slots.now c.loop-slot.slot c.index-slots-slot.result a c.loop-slot-test.true
          c.index-slots-slot.is (c.in-Some.is ∙ ap Some c.in-Ok.ensures.account) count i.rows;
      small = subst (All P) (sym c.in_ok-push-in-Ok.ensures.items)
          (All-append P accounts (a ∷ []) i.small (All-cons P a [] c.in-Ok.ensures.small (All-nil P)));
      within = let more = ap length c.in_ok-push-in-Ok.ensures.items in
          let long = length-append accounts (a ∷ []) in
          omega (arith, more, long, count);
      free = λ less.
          let more = ap length c.in_ok-push-in-Ok.ensures.items in
          let long = length-append accounts (a ∷ []) in
          absurd (omega (arith, more, long, count, less));
    }

pub returns-in-Err-clause-refused : goal.returns-in-Err-clause-refused
returns-in-Err-clause-refused c = λ number room trees same.
    bad_account trees c.loop-slot.slot c.in-Err.fault (λ is. c.in-Err.ensures.alone (ap Err is))
    (bad_at (λ row. IsAccount row → ⊥) (trees 0) c.args.slots.now c.loop-slot.slot c.index-slots-slot.result
    c.in-Some.row same c.loop-slot-test.true
    c.index-slots-slot.is c.in-Some.is c.in-Err.ensures.refused)

pub returns-then-slot-len-clause-refused : goal.returns-then-slot-len-clause-refused
returns-then-slot-len-clause-refused c = λ number room trees same.
    let i = c.loop-slot.invariant in
    let le = i.within in
    let count : c.len.result ≡ length c.loop-slot.accounts.items = search (arith, rules) in
    let less : length c.loop-slot.accounts.items < c.loop-slot.slot = omega (arith, count, le) in
    gap_at (trees 0) c.args.slots.now c.loop-slot.slot (length c.loop-slot.accounts.items) c.index-slots-slot.result
    c.in-Some.row same c.loop-slot-test.true
    c.index-slots-slot.is c.in-Some.is less (i.free less)
