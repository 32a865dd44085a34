-- A desk that has sent only such requests, as Shuts, and sends one more.
use Rattle.xa_base.proofs.{◌≡◌, ℕ, zero, suc, ◌-◌, Result, Ok, Err, IfOk, List, [], ◌∷◌, sym, ap, subst, arith}
use Rattle.xa_base.proofs.{slice_index_or, slice_set, All, All-nil, All-push, OnErr}
use Rattle.xa_words.specs.{Code, Op, Shut}
use Rattle.xa_desk.specs.{Refused, Operation, with_sent, with_collected, ledger, no_ledger, put_ledger, after_sent}
use Rattle.xa_desk.specs.{after_collected, next_operation, submitted, after_fulls, Collects, LedgerView, DeskView}
use Rattle.xa_calls.proofs.Kept.{fulls_ledgers}

-- what holds of each ledger, where one is put that it holds of
set_each : (Q : LedgerView → Type 0) (at : List LedgerView) (i : ℕ) (a : LedgerView)
    → ((j : ℕ) → Q (slice_index_or at j no_ledger)) → Q a → (j : ℕ)
    → Q (slice_index_or (slice_set at i a) j no_ledger)
set_each Q [] i a all here j = all j
set_each Q (x ∷ xs) zero a all here zero = here
set_each Q (x ∷ xs) zero a all here (suc j) = all (suc j)
set_each Q (x ∷ xs) (suc i) a all here zero = all 0
set_each Q (x ∷ xs) (suc i) a all here (suc j) = set_each Q xs i a (λ k. all (suc k)) here j

put_each : (Q : LedgerView → Type 0) (at : List LedgerView) (i : ℕ) (a : LedgerView) → ((m : ℕ) → Q (ledger at m)) → Q a
    → (m : ℕ)
    → Q (ledger (put_ledger at i a) m)
put_each Q at i a all here m =
    set_each Q at (i - 1) a
    (λ j. subst (λ k. Q (slice_index_or at k no_ledger)) (let e : suc j - 1 ≡ j = omega arith in e) (all (suc j)))
    here (m - 1)

-- all that it sent to a manager is such
abbrev pub Only : (Op → Type 0) → LedgerView → Type 0
Only P a = All P a.sent

module _ (P : Op → Type 0) (op : Op) (so : P op) where
  -- one that calls with such a request, to whatever manager
  calls_only : (old new : DeskView) (m n : ℕ) (o : Operation) (code : Code)
      → Collects (submitted (after_fulls n old m) m op) new o code
      → ((k : ℕ) → Only P (ledger old.ledgers k)) → (k : ℕ) → Only P (ledger new.ledgers k)
  calls_only old new m n o code is all =
      let at : List LedgerView = (after_fulls n old m).ledgers in
      let first : (k : ℕ) → Only P (ledger at k) =
      subst (λ l. (k : ℕ) → Only P (ledger l k)) (sym (fulls_ledgers n old m)) all in
      let sent : (k : ℕ) → Only P (ledger (after_sent at m op) k) =
      put_each (Only P) at m (with_sent (ledger at m) op) first (All-push P (ledger at m).sent op (first m) so) in
      let before : (k : ℕ) → Only P (ledger is.before.ledgers k) =
      subst (λ l. (k : ℕ) → Only P (ledger l k)) (sym (ap (λ (d : DeskView). d.ledgers) is.looks.rest)) sent in
      let last : (k : ℕ) → Only P (ledger (after_collected is.before.ledgers o code) k) =
      put_each (Only P) is.before.ledgers o.manager (with_collected (ledger is.before.ledgers o.manager) o.number code)
      before (before o.manager) in
      subst (λ l. (k : ℕ) → Only P (ledger l k)) (sym (ap (λ (d : DeskView). d.ledgers) is.collected)) last

  pub after_only : (old new : DeskView) (m : ℕ) (r : Result Code Refused)
      → IfOk r
      (λ code. (n : ℕ) × Collects (submitted (after_fulls n old m) m op) new (next_operation old.ledgers m) code)
      → OnErr r (new ≡ old)
      → ((k : ℕ) → Only P (ledger old.ledgers k)) → (k : ℕ) → Only P (ledger new.ledgers k)
  after_only old new m (Ok code) sent same all =
      calls_only old new m sent.0 (next_operation old.ledgers m) code sent.1 all
  after_only old new m (Err why) sent same all =
      subst (λ (d : DeskView). (k : ℕ) → Only P (ledger d.ledgers k)) (sym same) all

-- one that has sent nothing
pub none_only : (P : Op → Type 0) (at : List LedgerView) → ((k : ℕ) → (ledger at k).sent ≡ []) → (k : ℕ)
    → Only P (ledger at k)
none_only P at none k = subst (All P) (sym (none k)) (All-nil P)

-- ---- Shuts

-- it sent only Shuts to a manager
abbrev pub OnlyShuts : LedgerView → Type 0
OnlyShuts a = All (λ op. op ≡ Shut) a.sent

pub after_call : (old new : DeskView) (m : ℕ) (r : Result Code Refused)
    → IfOk r
    (λ code. (n : ℕ) × Collects (submitted (after_fulls n old m) m Shut) new (next_operation old.ledgers m) code)
    → OnErr r (new ≡ old)
    → ((k : ℕ) → OnlyShuts (ledger old.ledgers k)) → (k : ℕ) → OnlyShuts (ledger new.ledgers k)
after_call old new m r sent same all =
    let is : ◌≡◌ {A = Op} Shut Shut = λ _. Shut in after_only (λ op. op ≡ Shut) Shut is old new m r sent same all

pub none_shut : (at : List LedgerView) → ((k : ℕ) → (ledger at k).sent ≡ []) → (k : ℕ) → OnlyShuts (ledger at k)
none_shut at none = none_only (λ op. op ≡ Shut) at none
