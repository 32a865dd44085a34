-- The managers of a commit are numbers, one word after another.
use Rattle.xa_base.proofs.{rules, arith, ◌≡◌, ◌==◌, ℕ, Bool, true, false, ◌&&◌, ◌||◌, nat_lt, nat_le, if◌then◌else◌}
use Rattle.xa_base.proofs.{List, [], ◌∷◌, Option, Some, None, Result, Ok, Err, refl, and_parts, codes, bytes_eq}
use Rattle.std.proofs.Math.Bool.{or_assoc}
use Rattle.xa_words.specs.{Death, is_in, set_of, with_manager}
use Rattle.script_grammar.specs.{Reason, BadBranches, Named, Word, number_within, number_at, are_rising, is_named}
use Rattle.script_grammar.specs.{death_at, managers_to_end, managers_at, rising_branches, branches_at}
use Rattle.script_grammar.specs.Fields.{◌>>=◌}
use Rattle.script_grammar.specs.Commits.{goes_on}

-- The managers that stand on a line, and where the coordinator dies.
abbrev pub Named_on : Type 0
Named_on = List ℕ × Option Death

-- Where the branches are, and where the coordinator dies.
abbrev pub Branches : Type 0
Branches = List Bool × Option Death

-- What the managers of a line come to, by what they come to alone.
abbrev pub with_death : (List ℕ → Result (List Bool) Reason) → Named_on → Result Branches Reason
with_death f named = f named.0 >>= λ managers. Ok (managers, named.1)

-- A number ahead of others.
on_top : (r : Result Named_on Reason) (m : ℕ) (f : List ℕ → Result (List Bool) Reason)
    → ((r >>= λ rest. Ok (m ∷ rest.0, rest.1)) >>= with_death f) ≡ (r >>= with_death (λ ms. f (m ∷ ms)))
on_top r m f = search (arith, rules)

-- What goes on alike comes to the same.
alike : (r : Result Named_on Reason) (f g : List ℕ → Result (List Bool) Reason) → ((ms : List ℕ) → f ms ≡ g ms)
    → (r >>= with_death f) ≡ (r >>= with_death g)
alike r f g same = search (arith, rules)

-- The first word is a number, and the others go on.
pub first_number : (count : ℕ) (ws rest : List Word) (m : ℕ) (g : List ℕ → Result (List Bool) Reason)
    → number_at 0 4294967295 ws ≡ Ok (m, rest)
    → ((ms : List ℕ) → g ms ≡ rising_branches count (m ∷ ms))
    → (managers_to_end rest >>= with_death g) ≡ branches_at count ws
unfolding branches_at managers_at
first_number count ws rest m g e same = search (arith, alike, on_top)

-- Or it is a fault.
pub no_first_number : (count : ℕ) (ws : List Word) (why : Reason) → number_at 0 4294967295 ws ≡ Err why
    → branches_at count ws ≡ Err why
unfolding branches_at managers_at
no_first_number count ws why e = rw e refl

-- The next word of those that are left.
module _ (words rest : List Word) (w : Word) (f : List ℕ → Result (List Bool) Reason) (all : Result Branches Reason)
    (so_far : (managers_to_end words >>= with_death f) ≡ all) (next : words ≡ w ∷ rest) where
  -- It is a number, and the others go on.
  pub next_number : bytes_eq w (codes "dies") ≡ false → (m : ℕ) (g : List ℕ → Result (List Bool) Reason)
      → number_within 0 4294967295 w ≡ Ok m
      → ((ms : List ℕ) → g ms ≡ f (m ∷ ms)) → (managers_to_end rest >>= with_death g) ≡ all
  unfolding managers_to_end
  next_number lives m g e same = search (arith, alike, on_top)

  -- Or it is a fault.
  pub no_next_number : bytes_eq w (codes "dies") ≡ false → (why : Reason) → number_within 0 4294967295 w ≡ Err why
      → Err why ≡ all
  unfolding managers_to_end
  no_next_number lives why e = rw (next, lives, e) at so_far

  -- It is `dies`, and the point comes after it.
  pub dies_so : bytes_eq w (codes "dies") ≡ true → (death : Death) → death_at rest ≡ Ok death
      → (f [] >>= λ managers. Ok (managers, Some death)) ≡ all
  unfolding managers_to_end
  dies_so dies death e = rw (next, dies, e) at so_far

  -- Or a fault comes after it.
  pub dies_nowhere : bytes_eq w (codes "dies") ≡ true → (why : Reason) → death_at rest ≡ Err why → Err why ≡ all
  unfolding managers_to_end
  dies_nowhere dies why e = rw (next, dies, e) at so_far

-- No word is left.
pub no_more_numbers : (f : List ℕ → Result (List Bool) Reason)
    → (managers_to_end [] >>= with_death f) ≡ (f [] >>= λ managers. Ok (managers, None))
unfolding managers_to_end
no_more_numbers f = refl

-- ---- one more manager

-- A set with one more manager, and others after it.
set_more : (set : List Bool) (m : ℕ) (ms : List ℕ)
    → set_of (λ k. is_in (with_manager m set) k || is_named ms k) ≡ set_of (λ k. is_in set k || is_named (m ∷ ms) k)
set_more set m ms = λ i. at 1 i ∷ at 2 i ∷ at 3 i ∷ at 4 i ∷ at 5 i ∷ at 6 i ∷ at 7 i ∷ at 8 i ∷ []
  where
    at : (k : ℕ) → ((is_in set k || (m == k)) || is_named ms k) ≡ (is_in set k || ((m == k) || is_named ms k))
    at k = or_assoc (is_in set k) (m == k) (is_named ms k)

-- The set, where all are rising.
abbrev pub if_rising : Bool → List Bool → Result (List Bool) Reason
if_rising rising set = if rising then Ok set else Err BadBranches

-- A manager that may come next is one of the set.
pub taken : (so_far : Named) (m : ℕ) (ms : List ℕ)
    → (so_far.rising && (nat_lt so_far.last m && nat_le m so_far.count)) ≡ true
    → if_rising (are_rising so_far.count m ms)
    (set_of (λ k. is_in (with_manager m so_far.managers) k || is_named ms k)) ≡ goes_on so_far (m ∷ ms)
taken so_far m ms may =
    search (arith, and_parts, nat_lt, nat_le, set_more, so_far.rising, so_far.last, so_far.count, so_far.managers)
