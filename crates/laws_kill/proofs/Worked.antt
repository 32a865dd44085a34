-- The worked crash is one, and its settled opening has the journals and the answers that are written down.
use Rattle.xa_base.proofs.{◌≡◌, ◌≢◌, ℕ, zero, suc, false, cond, nat_eq, List, [], ◌∷◌, Some, None, slice_get, sym, refl}
use Rattle.xa_base.proofs.{ap, ◌∙◌, subst, arith, All-cons, All-nil, cases_eq, inl, inr, ne_eqb, length, none_twice}
use Rattle.xa_base.proofs.{false_from_ne_true, if◌then◌else◌}
use Rattle.std.proofs.lemmas.Map.Keys.{IsDistinct-cons}
use Rattle.xa_words.specs.{CloseRm, Code, Done, Op, OpenRm}
use Rattle.xa_tables.specs.{IsOpening, next, of_thread, opening}
use Rattle.xa_tables.proofs.Reopening.{accounts_new, new_opens}
use Rattle.laws_tables.specs.{request}
use Rattle.xa_desk.specs.{LedgerView, collected_from, is_known, ledger, sent_to}
use Rattle.xa_desk.proofs.Ledgers.{known_is, nobody_sent}
use Rattle.xa_worker.specs.{Entry, entry, requests}
use Rattle.xa_switch.specs.{ThreadPart, answers, ledgers_in}
use Rattle.laws_kill.specs.{AgreeSoFar, IsCrash, IsCrashedManager, find_crashed, journal_at, kept_at, kept_in_store}
use Rattle.laws_kill.specs.{ledgers_then, worked_crash, worked_manager, worked_setup, worked_thread, first_answers}
use Rattle.laws_kill.specs.{first_journal, first_ledger, second_journal, collected_all}
use Rattle.laws_kill.proofs.Nothing.{nothing_collected, nothing_so_far}

opens : IsOpening (opening [])
opens = new_opens (opening []) (accounts_new [])

-- the codes
opened_code : (next 1 OpenRm (opening [])).1 ≡ Done
unfolding next
opened_code = refl

-- which managers there are, and what the stores have
no_manager : (m : ℕ) → m ≢ 1 → m ≢ 2 → find_crashed m worked_crash.managers ≡ None
no_manager m not_one not_two =
    ap (λ b. cond b (Some (worked_manager 1 (entry (request 1 0 OpenRm) Done ∷ [])))
    (find_crashed m (worked_manager 2 [] ∷ []))) (ne_eqb 1 m (λ e. not_one (sym e)))
    ∙ ap (λ b. cond b (Some (worked_manager 2 [])) None) (ne_eqb 2 m (λ e. not_two (sym e)))

kept_nothing : (m : ℕ) → m ≢ 1 → kept_at worked_crash m ≡ []
kept_nothing m not_one = elim (cases_eq m 2) [
  | inl two ↦ ap (kept_at worked_crash) two
  | inr not_two ↦ ap kept_in_store (no_manager m not_one not_two)
]

kept_other : (t m : ℕ) → t ≢ 1 → of_thread t (requests (kept_at worked_crash m)) ≡ []
kept_other t m other = elim (cases_eq m 1) [
  | inl one ↦
      ap (λ k. of_thread t (requests (kept_at worked_crash k))) one
      ∙ ap (λ b. cond b (request 1 0 OpenRm ∷ []) []) (ne_eqb 1 t (λ e. other (sym e)))
  | inr not_one ↦ ap (λ (es : List Entry). of_thread t (requests es)) (kept_nothing m not_one)
]

own_so_far : (m : ℕ)
    → AgreeSoFar 1 (sent_to worked_thread.ledgers m) (collected_from worked_thread.ledgers m) (kept_at worked_crash m)
own_so_far zero = nothing_so_far 1 [] refl
own_so_far (suc zero) = record {
  begun = (request 1 1 CloseRm ∷ [], refl);
  once = IsDistinct-cons nat_eq 0 [] tt (none_twice nat_eq);
  told =
      All-cons (λ p. slice_get (answers 1 (kept_at worked_crash 1)) p.0 ≡ Some p) (0, Done) [] refl
      (All-nil (λ p. slice_get (answers 1 (kept_at worked_crash 1)) p.0 ≡ Some p));
}
own_so_far (suc (suc zero)) = record {
  begun = (request 1 0 OpenRm ∷ [], refl);
  once = none_twice nat_eq;
  told = All-nil (λ p. slice_get (answers 1 []) p.0 ≡ Some p);
}
own_so_far (suc (suc (suc k))) =
    let m : ℕ = suc (suc (suc k)) in
    let at : List LedgerView = worked_thread.ledgers in
    let unknown : is_known at m ≡ false =
    false_from_ne_true (is_known at m) (λ e. let high = (known_is at m e).within in absurd (omega (arith, high))) in
    subst (λ (x : List Op × (List (ℕ × Code) × List Entry)). AgreeSoFar 1 x.0 x.1.0 x.1.1)
    (λ i. (
      sym (ap (λ b. if b then (ledger at m).sent else []) unknown) i,
      (
        sym (ap (λ b. if b then (ledger at m).collected else []) unknown) i,
        sym (kept_nothing m (λ e. absurd (omega (arith, e)))) i,
      ),
    ))
    (nothing_so_far 1 [] refl)

no_ledgers : (t : ℕ) → t ≢ 1 → ledgers_then worked_crash t ≡ []
no_ledgers t other = ap (λ b. ledgers_in (cond b (Some worked_thread) None)) (ne_eqb 1 t (λ e. other (sym e)))

so_far : (t m : ℕ)
    → AgreeSoFar t (sent_to (ledgers_then worked_crash t) m) (collected_from (ledgers_then worked_crash t) m)
    (kept_at worked_crash m)
so_far t m = elim (cases_eq t 1) [
  | inl one ↦
      subst
      (λ u. AgreeSoFar u (sent_to (ledgers_then worked_crash u) m) (collected_from (ledgers_then worked_crash u) m)
      (kept_at worked_crash m))
      (sym one) (own_so_far m)
  | inr other ↦
      subst (λ (x : List Op × List (ℕ × Code)). AgreeSoFar t x.0 x.1 (kept_at worked_crash m))
      (λ i. (
        sym (ap (λ at. sent_to at m) (no_ledgers t other) ∙ nobody_sent m) i,
        sym (ap (λ at. collected_from at m) (no_ledgers t other) ∙ nothing_collected m) i,
      ))
      (nothing_so_far t (kept_at worked_crash m) (kept_other t m other))
]

-- it is a crash of that setup
pub is_crash : IsCrash worked_setup worked_crash
is_crash = record {
  opening = refl;
  threads = refl;
  managers = refl;
  first = refl;
  ledgers =
      All-cons (λ (q : ThreadPart). length q.ledgers ≡ 2) worked_thread [] refl
      (All-nil (λ (q : ThreadPart). length q.ledgers ≡ 2));
  left =
      All-cons IsCrashedManager (worked_manager 1 (entry (request 1 0 OpenRm) Done ∷ [])) (worked_manager 2 [] ∷ [])
      (record { opened = opens; coded = ap (λ c. c ∷ []) (sym opened_code); found_is = refl })
      (All-cons IsCrashedManager (worked_manager 2 []) []
      (record { opened = opens; coded = refl; found_is = refl }) (All-nil IsCrashedManager));
  agree = so_far;
}

-- the journals and the answers of the settled opening
pub first_is : journal_at worked_crash 1 ≡ first_journal
unfolding next
first_is = refl

pub second_is : journal_at worked_crash 2 ≡ second_journal
unfolding next
second_is = refl

pub answers_are : (collected_all 1 (journal_at worked_crash 1) first_ledger).collected ≡ first_answers
unfolding next
answers_are = refl
