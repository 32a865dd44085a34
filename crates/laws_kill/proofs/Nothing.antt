-- Ledgers that aren't there, and threads of which nothing is.
use Rattle.xa_base.proofs.{◌≡◌, ℕ, ◌≤◌, false, nat_eq, List, [], ◌∷◌, ◌++◌, Some, length, slice_get, sym, refl, ap}
use Rattle.xa_base.proofs.{arith, if◌then◌else◌, All-nil, false_from_ne_true, none_twice}
use Rattle.xa_tables.specs.{History, of_thread}
use Rattle.xa_desk.specs.{LedgerView, collected_from, is_known, ledger, sent_to}
use Rattle.xa_desk.proofs.Ledgers.{known_is}
use Rattle.xa_worker.specs.{Entry, requests}
use Rattle.xa_switch.specs.{answers}
use Rattle.laws_kill.specs.{AgreeSoFar}

pub nothing_before : {A : Type 0} (xs ys : List A) → [] ≡ xs ++ ys → xs ≡ []
nothing_before [] ys e = refl
nothing_before (x ∷ xs) ys e = absurd (cc)

pub unknown_sent : (at : List LedgerView) (m : ℕ) → is_known at m ≡ false → sent_to at m ≡ []
unknown_sent at m e = ap (λ b. if b then (ledger at m).sent else []) e

pub unknown_collected : (at : List LedgerView) (m : ℕ) → is_known at m ≡ false → collected_from at m ≡ []
unknown_collected at m e = ap (λ b. if b then (ledger at m).collected else []) e

-- a manager past the last ledger, or of no number, isn't known
pub unknown_past : (at : List LedgerView) (m : ℕ) → (1 ≤ m → m ≤ length at → ⊥) → is_known at m ≡ false
unknown_past at m not_there =
    false_from_ne_true (is_known at m) (λ e. let k = known_is at m e in not_there k.positive k.within)

-- where the store has nothing of a thread
pub nothing_so_far : (t : ℕ) (kept : List Entry) → of_thread t (requests kept) ≡ [] → AgreeSoFar t [] [] kept
nothing_so_far t kept none = record {
  begun = ([], sym (ap (λ (h : History). h ++ []) none));
  once = none_twice nat_eq;
  told = All-nil (λ p. slice_get (answers t kept) p.0 ≡ Some p);
}

-- no ledger has an answer
pub nothing_collected : (m : ℕ) → collected_from [] m ≡ []
nothing_collected m =
    let unknown : is_known [] m ≡ false =
    false_from_ne_true (is_known [] m)
    (λ e. let k = known_is [] m e in let low = k.positive in let high = k.within in absurd
    (omega (arith, low, high))) in
    ap (λ b. if b then (ledger [] m).collected else []) unknown
