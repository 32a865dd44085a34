use Rattle.std.proofs.Common.{◌≡◌, map, take, pos}
use Rattle.std.specs.Prelude.{option_map}
use Rattle.std.specs.List.{All}
use Rattle.xa_switch.specs.{value}
use Rattle.test_soak.proofs.values_at.Given as goal

-- the first accounts' keys have these values
abbrev pub invariant-loop-account : goal.invariant-loop-account
invariant-loop-account l = record {
  keys : map (λ v. v.0) l.values.items ≡ map (λ a. a.0) (take l.account-index l.accounts);
  each : All (λ v. option_map pos v.1 ≡ value l.settled l.manager v.0) l.values.items;
}
