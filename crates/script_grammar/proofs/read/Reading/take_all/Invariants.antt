use Rattle.xa_base.proofs.{◌≡◌, ℕ, List, Option, Some, None}
use Rattle.script_grammar.specs.{Verdict, StaysOne}
use Rattle.script_grammar.specs.Reading.{goes_on}
use Rattle.script_grammar.proofs.read.Reading.take_all.Given as goal

-- Where the bytes are known, what f says of all of them is what g says of those that are left.
abbrev Leads : Option (List ℕ) → Option (List ℕ) → (List ℕ → Verdict) → (List ℕ → Verdict) → Type 0
Leads None left f g = Unit {0}
Leads (Some all) None f g = ⊥
Leads (Some all) (Some left) f g = f all ≡ g left

abbrev pub invariant-loop : goal.invariant-loop
invariant-loop g l = record {
  leads : Leads (g.R.Read.remaining l.fn.reader) (g.R.Read.remaining l.reader) (goes_on l.fn.self) (goes_on l.self);
  one : StaysOne l.fn.self l.self;
}
