use Rattle.xa_base.proofs.{◌≡◌, ℕ, ℤ, pos, Result, Ok, Err, IfOk, ap, ◌∙◌, arith, w32, to_z-of_z, ints}
use Rattle.std.proofs.Common.{SFits}
use Rattle.xa_words.specs.CodeNumbers.{number_of}
use Rattle.xa_words.specs.{Code, Done}
use Rattle.xa_desk.specs.{IsHandle}
use Rattle.script_transcript.specs.{Answer}
use Rattle.xa_calls.specs.{HasCompleted, WritesHandle}
use Rattle.script_session.specs.{shown_completion}
use Rattle.script_session.proofs.calls.completed.Goals as goal

code_fits : (c : Code) → SFits w32 (number_of c)
code_fits Done = omega (arith, ints)
code_fits c = omega (arith, ints)

handle_fits : (k : ℕ) → IsHandle k → SFits w32 (pos k)
handle_fits k is = let limit = is.limit in omega (arith, ints, limit)

told_fit : (collected : Result (ℕ × Code) Code) (h v h' v' a : ℤ) → IfOk collected (λ r. IsHandle r.0)
    → WritesHandle collected h v h' v' a → SFits w32 h
    → SFits w32 v → SFits w32 h' × SFits w32 v'
told_fit (Ok r) h v h' v' a is t fits fits' = (rw t.0 (handle_fits r.0 is), rw t.1.0 (code_fits r.1))
told_fit (Err c) h v h' v' a is t fits fits' = (rw t.0 fits, rw t.1.0 fits')

-- the same answer from numbers that were cast
told_same : (a : Answer) (h v n h' v' n' : ℤ) → h' ≡ h → v' ≡ v → n' ≡ n → a ≡ shown_completion h' v' n'
    → a ≡ shown_completion h v n
told_same a h v n h' v' n' of_h of_v of_n e =
    e ∙ ap (λ z. shown_completion z v' n') of_h ∙ ap (λ z. shown_completion h z n') of_v
    ∙ ap (λ z. shown_completion h v z) of_n

pub returns-clause-answers : goal.returns-clause-answers
returns-clause-answers g c =
    let h = c.xa_complete-answer.new.handle in
    let r = c.xa_complete-answer.new.retval in
    let n = c.xa_complete-answer.result in
    let has : HasCompleted c.args.desk.now c.args.handle (pos 0) c.args.called.now.manager c.args.called.now.flags
    c.xa_complete-answer.new.desk h r n =
    rw (to_z-of_z w32 c.args.handle (omega (arith, ints))) at c.xa_complete-answer.ensures.completes in
    let fit =
    told_fit has.collected c.args.handle (pos 0) h r n has.numbered has.tells (omega (arith, ints))
    (omega (arith, ints)) in
    search (arith, told_same, to_z-of_z)
