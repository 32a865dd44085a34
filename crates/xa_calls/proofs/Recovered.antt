-- What a scan does to a desk, and what it writes.
use Rattle.xa_base.proofs.{rules, ◌≡◌, ℕ, ℤ, zero, suc, true, false, Option, ◌+◌, ◌-◌, ◌<◌, Some, Result, List, [], ◌∷◌}
use Rattle.xa_base.proofs.{◌++◌, length, take, drop, set, refl, ap, subst, arith, length-append, append_assoc, is_some}
use Rattle.xa_base.proofs.{option_map, slice_get, length-drop, take_all}
use Rattle.xa_words.specs.{XidName, Done, Nota, check_flags, Op, Listed, Code}
use Rattle.xa_words.specs.declared.flags.Call.TheVariants as call
use Rattle.xa_desk.specs.{Refused, is_known, AllKept, DeskView}
use Rattle.xa_calls.specs.{code_of, put_refusal, Answers, RecoverLooks, finds, passes, with_found, HasRecovered}
use Rattle.xa_calls.specs.{AsksAndWaits, RecoversAndWaits}
use Rattle.xa_calls.specs.Scans.{Asking, refused, answered, Scans}
use Rattle.xa_scan.specs.{ScanView}
use Rattle.xa_calls.proofs.Kept.{answered_keep, fulls_kept, fulls_ledgers, known_here}
use Rattle.xa_calls.proofs.Morphisms.{by_mapped, plain}

-- what was outstanding stays kept, as a manager is asked
pub asked_keep : (old new : DeskView) (m : ℕ) (op : Op) (code : Code) → Answers m old op new code → AllKept old
    → AllKept new
asked_keep old new m op code (refused why same) all = rw same all
asked_keep old new m op code (answered none n is) all =
    search (arith, answered_keep, fulls_ledgers, fulls_kept, known_here)

-- no refusal has the code XA_OK
not_done : {A : Type 0} (i j : A) (why : Option Refused) (code : Code) → option_map code_of why ≡ Some code
    → code ≡ Done → i ≡ j
not_done i j why code fails done = search (arith, rules)

-- a manager that answered XA_OK wasn't refused, so what is said of a refusal holds
pub done_refuses_none : {A : Type 0} (i j : A) (old new : DeskView) (m : ℕ) (op : Op) (code : Code)
    → Answers m old op new code → code ≡ Done
    → is_some (put_refusal old m false) ≡ true → i ≡ j
done_refuses_none i j old new m op code h done some = search (arith, not_done, is_some)

-- ---- what is written

set_past : {A : Type 0} (fs ys : List A) (x : A) → set (fs ++ ys) (length fs) x ≡ fs ++ set ys 0 x
set_past [] ys x = refl
set_past (f ∷ fs) ys x = ap (λ l. f ∷ l) (set_past fs ys x)

set_first : {A : Type 0} (n : ℕ) (xs : List A) (x : A) → n < length xs → set (drop n xs) 0 x ≡ x ∷ drop (suc n) xs
set_first n [] x low = absurd (omega (arith, low))
set_first zero (y ∷ xs) x low = refl
set_first (suc n) (y ∷ xs) x low = set_first n xs x (omega (arith, low))

-- one more is found
pub written_more : (fs xs : List XidName) (x : XidName) → length fs < length xs
    → set (with_found fs xs) (length fs) x ≡ with_found (fs ++ x ∷ []) xs
written_more fs xs x low =
    let many : suc (length fs) ≡ length (fs ++ x ∷ []) = omega (arith, length-append fs (x ∷ [])) in
    search (arith, set_past, set_first, append_assoc)

-- ---- one branch more

-- it was found
pub finds_more : {D : Type 0} (asking : Asking D) (room : ℕ) (xids : List XidName) (old d e : D) (k : ℕ)
    (xs : List XidName) (x : XidName) (code : Code)
    → RecoverLooks asking room xids old k xs d → length xs < room → slice_get xids k ≡ Some x
    → asking d (Listed (Some x)) e code → code ≡ Done
    → RecoverLooks asking room xids old (k + 1) (xs ++ x ∷ []) e
finds_more asking room xids old d e k xs x code looks short there asked is =
    subst (λ n. RecoverLooks asking room xids old n (xs ++ x ∷ []) e) (let same : suc k ≡ k + 1 = omega arith in same)
    (finds k xs d e x looks short there (rw is at asked))

-- it isn't left
pub passes_more : {D : Type 0} (asking : Asking D) (room : ℕ) (xids : List XidName) (old d e : D) (k : ℕ)
    (xs : List XidName) (x : XidName) (code : Code)
    → RecoverLooks asking room xids old k xs d → length xs < room → slice_get xids k ≡ Some x
    → asking d (Listed (Some x)) e code → code ≡ Nota
    → RecoverLooks asking room xids old (k + 1) xs e
passes_more asking room xids old d e k xs x code looks short there asked is =
    subst (λ n. RecoverLooks asking room xids old n xs e) (let same : suc k ≡ k + 1 = omega arith in same)
    (passes k xs d e x looks short there (rw is at asked))

-- ---- from a place on

-- what a slice from there to the end has
pub rest_of : {A : Type 0} (k : ℕ) (xs : List A) → take (length xs - k) (drop k xs) ≡ drop k xs
rest_of k xs = take_all (length xs - k) (drop k xs) (omega (arith, length-drop k xs))

-- so what was scanned from there
pub scanned_from : {D : Type 0} (asking : Asking D) (room place : ℕ) (left all : List XidName) (mid new : D)
    (found : List XidName) (r : Result ℕ Code) (n : ℕ)
    → n ≡ room → left ≡ all → Scans asking n (take (length left - place) (drop place left)) mid new found r
    → Scans asking room (drop place all) mid new found r
scanned_from asking room place left all mid new found r n rooms lists scans = search (arith, rest_of)

-- ---- how it waited

-- a recover each request of which was waited for
pub recovered_so : {I : Type 0} {by : ℕ → I → I → Type 0} {m flags : ℕ} {old : DeskView × I} {z : ScanView}
    {xids : List XidName}
    {new : DeskView × I} {z' : ScanView} {xids' : List XidName} {answer : ℤ}
    → RecoversAndWaits by m flags old z xids new z' xids' answer
    → HasRecovered m flags old.0 z xids new.0 z' xids' answer
recovered_so {by = by} {m = m} {flags = flags} {old = old} {z = z} {xids = xids} {new = new} {z' = z'} {xids' = xids'}
    r =
    record {
      result = r.result;
      recovers =
          (by_mapped (plain (AsksAndWaits by m) (Answers m) (λ s. s.0) (λ d op e code a. a.answers)) (λ x. tt) old z
          xids
          new z' xids' (is_known old.0.ledgers m)
          (check_flags call.Recover flags) m r.result r.recovers).over tt tt;
      answered = r.answered;
    }
