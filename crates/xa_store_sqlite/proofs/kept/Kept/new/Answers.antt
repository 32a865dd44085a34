use Rattle.xa_base.proofs.{◌∙◌, IsDistinct, List, ap, subst, sym, ℕ}
use Rattle.xa_words.specs.{key_eq}
use Rattle.xa_store_sqlite.specs.{NoBranchTwice, is_of_branch, keys_of_accounts, first_place_from}
use Rattle.xa_store_sqlite.proofs.kept.Kept.new.Goals as goal

pub returns-clause-order : goal.returns-clause-order
returns-clause-order g c = λ apart owned keys. record {
  slots_are = λ x.
      c.in_ok-slots.ensures (subst NoBranchTwice (sym c.deref.ensures.value) apart) x
      ∙ ap (λ bs. first_place_from (is_of_branch x) 0 bs) c.deref.ensures.value;
  places_are = λ k.
      c.in_ok-places.ensures
      (subst (λ (us : List (List ℕ × ℕ)). IsDistinct key_eq (keys_of_accounts us)) (sym c.deref-2.ensures.value)
      keys) k
      ∙ ap (λ (us : List (List ℕ × ℕ)). first_place_from (λ (a : List ℕ × ℕ). key_eq k a.0) 0 us)
      c.deref-2.ensures.value;
  apart = apart;
  owned = owned;
}
