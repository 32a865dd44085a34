-- Ledgers once all is collected.
use Rattle.xa_base.proofs.{◌≡◌, ℕ, zero, suc, ◌+◌, ◌-◌, ◌<◌, true, false, not, ◌&&◌, nat_le, List, [], ◌∷◌, length}
use Rattle.xa_base.proofs.{filter, slice_index_or, refl, ap, ◌∙◌, arith, if◌then◌else◌, by_bool, same_begins}
use Rattle.xa_desk.specs.{LedgerView, HasGrown, HaveGrown, IsKnown, collected_from, is_collected, is_known, ledger}
use Rattle.xa_desk.specs.{no_ledger, sent_to}
use Rattle.xa_desk.proofs.Ledgers.{known_is}
use Rattle.xa_worker.specs.{Entry}
use Rattle.xa_switch.specs.{answers}
use Rattle.laws_kill.specs.{all_collected, collected_all}

module _ (journals : ℕ → List Entry) (t : ℕ) where
  pub as_many : (k : ℕ) (at : List LedgerView) → length (all_collected journals t k at) ≡ length at
  as_many k [] = refl
  as_many k (a ∷ at) = ap suc (as_many (suc k) at)

  -- the ledger at a place, with the journal of its manager
  at_place : (m k j : ℕ) (at : List LedgerView) → j < length at → m ≡ k + j
      → slice_index_or (all_collected journals t k at) j no_ledger
      ≡ collected_all t (journals m) (slice_index_or at j no_ledger)
  at_place m k j [] below is = absurd (omega (arith, below))
  at_place m k zero (a ∷ at) below is =
      let same : k ≡ m = omega (arith, is) in ap (λ n. collected_all t (journals n) a) same
  at_place m k (suc j) (a ∷ at) below is = at_place m (suc k) j at (omega (arith, below)) (omega (arith, is))

  pub at_known : (at : List LedgerView) (m : ℕ) → is_known at m ≡ true
      → ledger (all_collected journals t 1 at) m ≡ collected_all t (journals m) (ledger at m)
  at_known at m known =
      let k : IsKnown at m = known_is at m known in
      let low = k.positive in
      let high = k.within in
      at_place m 1 (m - 1) at (omega (arith, low, high)) (omega (arith, low))

  known_still : (at : List LedgerView) (m : ℕ) → is_known (all_collected journals t 1 at) m ≡ is_known at m
  known_still at m = ap (λ n. nat_le 1 m && nat_le m n) (as_many 1 at)

  -- what was sent stays
  pub sent_still : (at : List LedgerView) (m : ℕ) → sent_to (all_collected journals t 1 at) m ≡ sent_to at m
  sent_still at m =
      ap (λ b. if b then (ledger (all_collected journals t 1 at) m).sent else []) (known_still at m)
      ∙ by_bool
      (λ b. is_known at m ≡ b → (if b then (ledger (all_collected journals t 1 at) m).sent else [])
      ≡ (if b then (ledger at m).sent else []))
      (is_known at m) (λ _ known. ap (λ (a : LedgerView). a.sent) (at_known at m known)) (λ _ _. refl) refl

  -- and what was collected is all
  pub collected_now : (at : List LedgerView) (m : ℕ) → is_known at m ≡ true
      → collected_from (all_collected journals t 1 at) m
      ≡ (collected_all t (journals m) (ledger at m)).collected
  collected_now at m known =
      ap (λ b. if b then (ledger (all_collected journals t 1 at) m).collected else [])
      (known_still at m ∙ known)
      ∙ ap (λ (a : LedgerView). a.collected) (at_known at m known)

  -- nothing, where there is no such ledger
  pub collected_none : (at : List LedgerView) (m : ℕ) → is_known at m ≡ false
      → collected_from (all_collected journals t 1 at) m ≡ []
  collected_none at m unknown =
      ap (λ b. if b then (ledger (all_collected journals t 1 at) m).collected else [])
      (known_still at m ∙ unknown)

  grown_at : (k j : ℕ) (at : List LedgerView)
      → HasGrown (slice_index_or at j no_ledger) (slice_index_or (all_collected journals t k at) j no_ledger)
  grown_at k j [] = record { sent = same_begins (slice_index_or [] j no_ledger).sent; collected = same_begins _ }
  grown_at k zero (a ∷ at) = record {
    sent = same_begins a.sent;
    collected = (filter (λ p. not (is_collected a p.0)) (answers t (journals k)), refl);
  }
  grown_at k (suc j) (a ∷ at) = grown_at (suc k) j at

  -- so all ledgers have grown
  pub ledgers_grown : (at : List LedgerView) → HaveGrown at (all_collected journals t 1 at)
  ledgers_grown at = record { each = λ m low. grown_at 1 (m - 1) at }

-- where there was no ledger, nothing was sent
pub nothing_grown : (at : List LedgerView) → HaveGrown [] at
nothing_grown at = record {
  each = λ m low. record { sent = ((ledger at m).sent, refl); collected = ((ledger at m).collected, refl) };
}
