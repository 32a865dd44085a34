use denote.Shadow.{shadow}
use denote.Text.{Utf8}
use Rattle.demo_accounts.proofs.listing.add_stores.Given as goal

-- what stands before a store is text
abbrev pub invariant-loop-store : goal.invariant-loop-store
invariant-loop-store l = shadow (Utf8 l.before)
