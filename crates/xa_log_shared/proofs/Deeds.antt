-- Deeds, one after another, and records that are new as requests come.
use Rattle.xa_base.proofs.{arith, ◌≡◌, ℕ, Bool, true, false, List, [], ◌∷◌, ◌++◌, None, refl, sym, ap, ◌∙◌}
use Rattle.xa_base.proofs.{append_assoc, if◌then◌else◌, is_some, get-insert, get-remove, or_parts}
use Rattle.xa_log.specs.{LogState, record_of, with_record, with_failure, without_record, AreNew, CommitRecord}
use Rattle.xa_log.proofs.Transactions.{tran_cmp_total, decides_by_cmp}
use Rattle.xa_words.specs.{TranName, tran_eq, Decides-tran_eq}
use Rattle.xa_log_shared.specs.{AppendAnswer, Taken, Refused, Unknown, Answered, Deed, after_deed, after_answer, after}
use Rattle.xa_log_shared.specs.{IsRightAnswer, AreRight, AreUnknown, Does, answers_in, answers_of_deed, Waiting}
use Rattle.xa_log_shared.specs.{is_clash, records_waiting}
use Rattle.xa_log_shared.specs.declared.ask.Deed.TheVariants.{Answers, Forgets}

pub after-append : (log : LogState) (ds es : List Deed) → after log (ds ++ es) ≡ after (after log ds) es
after-append log [] es = refl
after-append log (d ∷ ds) es = after-append (after_deed log d) ds es

pub right-append : (log : LogState) (ds es : List Deed) → AreRight log ds → AreRight (after log ds) es
    → AreRight log (ds ++ es)
right-append log [] es a b = b
right-append log (d ∷ ds) es a b = (a.0, right-append (after_deed log d) ds es a.1 b)

pub unknown-append : (ds es : List Deed) → AreUnknown ds → AreUnknown es → AreUnknown (ds ++ es)
unknown-append [] es a b = b
unknown-append (d ∷ ds) es a b = (a.0, unknown-append ds es a.1 b)

pub answers-append : (ds es : List Deed) → answers_in (ds ++ es) ≡ answers_in ds ++ answers_in es
answers-append [] es = refl
answers-append (d ∷ ds) es =
    ap (λ xs. answers_of_deed d ++ xs) (answers-append ds es)
    ∙ sym (append_assoc (answers_of_deed d) (answers_in ds) (answers_in es))

-- nothing was done
pub does_nothing : (knows : Bool) (log : LogState) → Does knows log [] knows log
does_nothing true log = (tt, refl)
does_nothing false log = tt

-- spans follow one another
pub does-chain : (j k l : Bool) (s t u : LogState) (ds es : List Deed) → Does j s ds k t → Does k t es l u
    → Does j s (ds ++ es) l u
does-chain true true true s t u ds es a b = search (arith, right-append, after-append, a.0, a.1)
does-chain true true false s t u ds es a b = record {
  done = ds ++ b.done;
  rest = b.rest;
  parts = ap (λ xs. ds ++ xs) b.parts ∙ sym (append_assoc ds b.done b.rest);
  right = right-append s ds b.done a.0 (rw a.1 at b.right);
  unknown = b.unknown;
}
does-chain true false true s t u ds es a b = absurd b
does-chain true false false s t u ds es a b = search (arith, append_assoc, unknown-append, a.done, a.rest, a.unknown)
does-chain false true l s t u ds es a b = absurd a
does-chain false false true s t u ds es a b = absurd b
does-chain false false false s t u ds es a b = unknown-append ds es a b

-- a log that has a record of no transaction of which the other has none
abbrev pub HasNoMore : LogState → LogState → Type 0
HasNoMore log other = (r : CommitRecord) → record_of other r.tran ≡ None → record_of log r.tran ≡ None

no_more_after : (log other : LogState) (r : CommitRecord) → HasNoMore log other
    → HasNoMore (with_record log r.tran r.yes) (with_record other r.tran r.yes)
no_more_after log other r below q none =
    search (arith, get-insert tran_cmp_total log.records, get-insert tran_cmp_total other.records, below)

pub new_below : (log other : LogState) (rs : List CommitRecord) → HasNoMore log other → AreNew other rs → AreNew log rs
new_below log other [] below new = tt
new_below log other (r ∷ rs) below new = (
  below r new.0,
  new_below (with_record log r.tran r.yes) (with_record other r.tran r.yes) rs
      (no_more_after log other r below) new.1,
)

-- a log has no more records than with one more
fewer : (log : LogState) (r : CommitRecord) → HasNoMore log (with_record log r.tran r.yes)
fewer log r q none = search (arith, get-insert tran_cmp_total log.records)

new_still : (log : LogState) (r : CommitRecord) (rs : List CommitRecord) (b : Bool)
    → AreNew (with_record log r.tran r.yes) rs
    → AreNew (if b then log else with_failure log) rs
new_still log r rs true new = new_below log (with_record log r.tran r.yes) rs (fewer log r) new
new_still log r rs false new = new_below (with_failure log) (with_record log r.tran r.yes) rs (fewer log r) new

new_answered : (log : LogState) (r : CommitRecord) (rs : List CommitRecord) (answer : AppendAnswer)
    → IsRightAnswer log r answer
    → AreNew (with_record log r.tran r.yes) rs → AreNew (after_answer log r answer) rs
new_answered log r rs Taken right new = new
new_answered log r rs Refused right new = new_still log r rs (is_some (record_of log r.tran)) new
new_answered log r rs Unknown right new = absurd right

-- once one is answered, the others are still new
pub new_after : (b k : Bool) (log now : LogState) (a : Answered) (rs : List CommitRecord)
    → (b ≡ true → AreNew log (a.decision ∷ rs))
    → Does b log (Answers a ∷ []) k now → k ≡ true → AreNew now rs
new_after true true log now a rs new does known = search (arith, new_answered, a.decision, a.answer, does.0.0)
new_after true false log now a rs new does known = cc
new_after false true log now a rs new does known = absurd does
new_after false false log now a rs new does known = cc

-- ---- the flag

-- a record was forgotten, where the log is known
pub does_forget : (b : Bool) (log now : LogState) (from : ℕ) (t : TranName) → (b ≡ true → now ≡ without_record log t)
    → Does b log (Forgets from t ∷ []) b now
does_forget true log now from t is = ((tt, tt), is refl)
does_forget false log now from t is = (tt, tt)

-- another transaction's record changes nothing of one
still_none : (log : LogState) (t : TranName) (v : List Bool) (q : TranName) → tran_eq t q ≡ false
    → record_of log q ≡ None
    → record_of (with_record log t v) q ≡ None
still_none log t v q differs none =
    search (arith, get-insert tran_cmp_total log.records, Decides-tran_eq, decides_by_cmp)

-- one record more waits
pub new_push : (log : LogState) (ws : List Waiting) (w : Waiting) → AreNew log (records_waiting ws)
    → record_of log w.decision.tran ≡ None
    → is_clash w.from w.decision.tran ws ≡ false → AreNew log (records_waiting (ws ++ w ∷ []))
new_push log [] w new none clash = (none, tt)
new_push log (v ∷ ws) w new none clash =
    search (arith, or_parts, still_none, new_push (with_record log v.decision.tran v.decision.yes) ws w new.1, new.0)

-- one record less
pub new_without : (log : LogState) (t : TranName) (ws : List Waiting) → AreNew log (records_waiting ws)
    → AreNew (without_record log t) (records_waiting ws)
new_without log t ws new =
    new_below (without_record log t) log (records_waiting ws)
    (λ r none. search (arith, get-remove tran_cmp_total log.records t r.tran)) new
