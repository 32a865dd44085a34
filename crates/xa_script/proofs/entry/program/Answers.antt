use Rattle.script_grammar.specs.declared.fault.ScriptFault.TheVariants as script
use Rattle.script_transcript.specs.declared.writing.RunFault.TheVariants as run
use Rattle.xa_base.proofs.{◌≡◌, ◌⊎◌, inl, inr, ◌<◌, ℕ, List, Option, Some, None, Err, arith, IfSome, sym, ◌∙◌}
use Rattle.std.specs.Borrow.{Bor}
use Rattle.script_grammar.specs.{Reason, script_of}
use Rattle.script_command.specs.{RunMode, AreWords, IsMode}
use Rattle.xa_script.specs.{Fault, Script, Run, status_of, has_threads, IsJudged, IsFaulty, FailsBy}
use Rattle.xa_script.proofs.entry.program.Goals as goal

-- with another status than 4 nothing is shown
shows_nothing : (fault : Fault) (m : RunMode) (bytes before after : Option (List ℕ))
    → FailsBy fault m bytes before after
    → status_of fault < 4 → after ≡ before
shows_nothing (Script (script.Line n why)) m bytes before after is low = is.0
shows_nothing (Run run.Write) m bytes before after is low = absurd (omega (arith, low))
shows_nothing _ m bytes before after is low = is

nothing_shown : (fault : Fault) (words : List (Bor (List ℕ))) (bytes before after : Option (List ℕ))
    → (IsJudged fault ⊎ AreWords words)
    → (IsJudged fault → after ≡ before) → ((m : RunMode) → IsMode words m → FailsBy fault m bytes before after)
    → status_of fault < 4 → after ≡ before
nothing_shown fault words bytes before after why unread fails low = search (arith, shows_nothing)

some_faulty : (bytes : Option (List ℕ)) (m : RunMode) (n : ℕ) (why : Reason)
    → IfSome bytes (λ b. script_of (has_threads m) b ≡ Err (n, why))
    → IfSome bytes (IsFaulty m)
some_faulty None m n why is = tt
some_faulty (Some b) m n why is = ((n, why), is)

not_judged : (n : ℕ) (why : Reason) → IsJudged (Script (script.Line n why)) → ⊥
not_judged n why is = elim is [ inl usage ↦ cc | inr memory ↦ cc ]

-- with status 1 a line is faulty
faulty : (fault : Fault) (words : List (Bor (List ℕ))) (bytes before after : Option (List ℕ))
    → (IsJudged fault ⊎ AreWords words)
    → ((m : RunMode) → IsMode words m → FailsBy fault m bytes before after) → status_of fault ≡ 1
    → (m : RunMode) × IsMode words m × IfSome bytes (IsFaulty m)
faulty (Script (script.Line n why)) words bytes before after judged fails one =
    elim judged [
      | inl known ↦ absurd (not_judged n why known)
      | inr are ↦ let is = fails are.0 are.1 in
          (are.0, are.1, some_faulty bytes are.0 n why is.1)
    ]
faulty (Run run.NoMemory) words bytes before after judged fails one = absurd (omega (arith, one))
faulty (Run run.Write) words bytes before after judged fails one = absurd (omega (arith, one))
faulty _ words bytes before after judged fails one = absurd (omega (arith, one))

pub returns-in-Err-clause-nothing_shown : goal.returns-in-Err-clause-nothing_shown
returns-in-Err-clause-nothing_shown g c positive low =
    let e = c.in-Err.ensures in
    nothing_shown c.in-Err.fault c.args.words.now _ _ _ e.err_words e.unshown e.err
    (rw c.status_of.ensures.status at low)

pub returns-in-Err-clause-faulty : goal.returns-in-Err-clause-faulty
returns-in-Err-clause-faulty g c one =
    faulty c.in-Err.fault c.args.words.now _ _ _ c.in-Err.ensures.err_words c.in-Err.ensures.err
    (sym c.status_of.ensures.status ∙ one)
