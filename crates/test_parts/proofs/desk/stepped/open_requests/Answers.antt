use Rattle.xa_base.proofs.{◌≡◌, ◌+◌, ◌⊎◌, ℕ, zero, suc, List, [], ◌∷◌, ◌++◌, length, Some, None, sym, ◌∙◌, ap, refl}
use Rattle.xa_base.proofs.{subst, inl, inr, arith, length-append, slice_get, All-push}
use Rattle.xa_words.specs.{Request}
use Rattle.xa_lane.specs.{Sending}
use Rattle.xa_desk.specs.{AreEndsTo, IsEndTo}
use Rattle.test_parts.proofs.desk.stepped.open_requests.Goals as goal

slice_get-push : {A : Type 0} (xs : List A) (x y : A) (k : ℕ) → slice_get (xs ++ x ∷ []) k ≡ Some y
    → (slice_get xs k ≡ Some y) ⊎ ((k ≡ length xs) × (x ≡ y))
slice_get-push [] x y zero found = let both : Some x ≡ Some y = found in inr (refl, cc)
slice_get-push [] x y (suc k) found = absurd (let no : None ≡ Some y = found in cc)
slice_get-push (z ∷ zs) x y zero found = inl found
slice_get-push (z ∷ zs) x y (suc k) found = elim (slice_get-push zs x y k found) [
  | inl there ↦ inl there
  | inr last ↦ inr (ap suc last.0, last.1)
]

ends_push : (t opening : ℕ) (xs : List (Sending Request)) (x : Sending Request) → AreEndsTo t opening xs
    → IsEndTo t opening (length xs + 1) x
    → AreEndsTo t opening (xs ++ x ∷ [])
ends_push t opening xs x each last k s found = elim (slice_get-push xs x s k found) [
  | inl there ↦ each k s there
  | inr new ↦ subst (λ n. IsEndTo t opening (n + 1) s) (sym new.0)
      (subst (IsEndTo t opening (length xs + 1)) new.1 last)
]

pub loop-place-preserved : goal.loop-place-preserved
loop-place-preserved g c =
    let pushed = rw c.expect.ensures at c.push.ensures.items in
    let before = c.loop-place.senders.items in
    let sender = c.open_one-sender.result.0 in
    let named = c.loop-place.invariant.named in
    let number = c.loop-place.invariant.number in
    let here : c.loop-place.manager + 1 ≡ length before + 1 = omega arith in
    rw pushed (record {
      ends = ends_push 1 1 before sender c.loop-place.invariant.ends
          (subst (λ n. IsEndTo 1 1 n sender) here c.open_one-sender.ensures.end);
      number = length-append before (sender ∷ []) ∙ ap (λ n. n + 1) number;
      named = ap (λ n. n + 1) named;
      new = All-push (λ (s : Sending Request). s.sent ≡ []) before sender c.loop-place.invariant.new
          c.open_one-sender.ensures.new;
    })
