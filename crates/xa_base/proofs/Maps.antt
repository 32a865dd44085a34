-- Lemmas of maps by numbers: what is there after an insertion and a removal.
use Rattle.std.proofs.Common.{arith, ◌≡◌, ◌≢◌, ℕ, cond, Some, None, refl, ap, ◌∙◌}
use Rattle.std.proofs.lemmas.Bool.{cases_eq}
use Rattle.std.specs.Ordering.{nat_cmp}
use Rattle.std.specs.Cmp.{nat_cmp_total}
use Rattle.std.specs.FinMap as finmap
use Rattle.xa_base.proofs.Truth.{tied_true, tied_false}

pub inserted_there : {V : Type 0} (m : finmap.FinMap nat_cmp V) (k : ℕ) (o : V)
    → finmap.get (finmap.insert m k o) k ≡ Some o
inserted_there m k o =
    finmap.get-insert nat_cmp_total m k o k ∙ ap (λ b. cond b (Some o) (finmap.get m k)) (tied_true k k refl)

pub inserted_other : {V : Type 0} (m : finmap.FinMap nat_cmp V) (k : ℕ) (o : V) (j : ℕ) → j ≢ k
    → finmap.get (finmap.insert m k o) j ≡ finmap.get m j
inserted_other m k o j differs =
    finmap.get-insert nat_cmp_total m k o j ∙ ap (λ b. cond b (Some o) (finmap.get m j)) (tied_false j k differs)

pub removed_there : {V : Type 0} (m : finmap.FinMap nat_cmp V) (k : ℕ) → finmap.get (finmap.remove m k) k ≡ None
removed_there m k = finmap.get-remove nat_cmp_total m k k ∙ ap (λ b. cond b None (finmap.get m k)) (tied_true k k refl)

pub removed_other : {V : Type 0} (m : finmap.FinMap nat_cmp V) (k j : ℕ) → j ≢ k
    → finmap.get (finmap.remove m k) j ≡ finmap.get m j
removed_other m k j differs =
    finmap.get-remove nat_cmp_total m k j ∙ ap (λ b. cond b None (finmap.get m j)) (tied_false j k differs)

-- a number that keeps nothing keeps nothing once a number is freed
pub removed_none : {V : Type 0} (m : finmap.FinMap nat_cmp V) (k j : ℕ) → finmap.get m j ≡ None
    → finmap.get (finmap.remove m k) j ≡ None
removed_none m k j e = search (arith, cases_eq, removed_there, removed_other)
