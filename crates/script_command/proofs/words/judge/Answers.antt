use Rattle.std.proofs.Common.{rules, codes, length, ◌≡◌, ◌==◌, ap, ap₂, sym, ◌∙◌, ℕ, true, false, List, [], ◌∷◌, refl}
use Rattle.std.proofs.Common.{slice_index, slice_index_or, arith}
use Rattle.std.proofs.lemmas.Bool.{false≢true}
use Rattle.std.proofs.lemmas.List.{length-map}
use Rattle.clap.specs.Words.{app_of, with_rule, takes, fault_of, is_simple_and_free}
use Rattle.clap.specs.ValueTests.{accepts}
use Rattle.clap.specs.declared.error.kind.ErrorKind.TheVariants.{OutOfMemory}
use Rattle.script_command.proofs.CommandLemmas.{command, free, takes_mode, is_either, either_mode, only_either, mode_is}
use Rattle.script_command.proofs.CommandLemmas.{top_is, accepts_two, one_word}
use Rattle.script_command.specs.{RunMode, word_of}
use Rattle.script_command.specs.declared.mode.RunMode.TheVariants as modes
use Rattle.script_command.proofs.words.judge.Goals as goal
use Rattle.script_command.proofs.words.judge.Goals.{then-words-ne1-via-then-words-ne1}
use Rattle.script_command.proofs.words.judge.Goals.{then-words-ne1-via-else-words-ne1+then-starts_with}

-- no mode's word has a minus before it
unminused : (m : RunMode) (v : List ℕ) → v ∷ [] ≡ word_of m ∷ [] → (slice_index v 0 == 45) ≡ true → ⊥
unminused modes.Turns v are e =
    let same : v ≡ codes "turns" = cc in false≢true (sym (ap (λ (l : List ℕ). slice_index l 0 == 45) same) ∙ e)
unminused modes.Threads v are e =
    let same : v ≡ codes "threads" = cc in false≢true (sym (ap (λ (l : List ℕ). slice_index l 0 == 45) same) ∙ e)

pub returns-then-words-ne1-clause-usage : goal.returns-then-words-ne1-clause-usage
returns-then-words-ne1-clause-usage c usage are =
    elim c.then-words-ne1.branch [
      | then-words-ne1-via-then-words-ne1 w ↦ w.if-words-ne1.true
          (sym (length-map c.args.words.now _) ∙ ap (λ (l : List (List ℕ)). length l) are.1)
      | then-words-ne1-via-else-words-ne1+then-starts_with w ↦
          let texts = one_word c.args.words.now (record { ref_ptr = (0, 0); now = [] }) w.if-words-ne1.false in
          unminused are.0 _ (sym texts ∙ are.1)
          (sym (w.starts_with.ensures.byte (omega arith) (omega arith) (λ w o h. h)) ∙ w.if-starts_with.true)
    ]

pub returns-in-Ok-clause-ok : goal.returns-in-Ok-clause-ok
returns-in-Ok-clause-ok c =
    let q = c.value_parser-mode.ensures.given in
    let command_is : app_of c.in_ok-command.command ≡ command q.0 = c.in_ok-command.ensures.shape (search rules)
    ∙ ap₂ with_rule (top_is _ _ _ c.new-2.ensures.app c.no_binary_name.ensures c.disable_help_flag.ensures)
    (mode_is _ _ _ q.0 c.new.ensures.rule c.required.ensures c.value_parser-mode.ensures.others q.1) in
    let only : (v : List ℕ) → accepts false q.0 v ≡ is_either v =
    λ v. ap (λ p. accepts false p v) q.2 ∙ accepts_two c.as_slice.result _ _ v c.as_slice.ensures in
    let texts = one_word c.args.words.now (record { ref_ptr = (0, 0); now = [] }) c.if-words-ne1.false in
    let w : List ℕ = (slice_index_or c.args.words.now 0 (record { ref_ptr = (0, 0); now = [] })).now in
    let minus : (slice_index w 0 == 45) ≡ false =
    sym (c.starts_with.ensures.byte (omega arith) (omega arith) (λ w o h. h)) ∙ c.if-starts_with.false in
    let none : fault_of (command q.0) (w ∷ []) ≡ [] =
    sym (ap₂ fault_of command_is texts) ∙ c.in-Ok.ensures.kinds (ap is_simple_and_free command_is ∙ free q.0) in
    let m = only_either q.0 w only minus none in
    (m.0, texts ∙ ap (λ (t : List ℕ). t ∷ []) m.1)

pub returns-clause-usage : goal.returns-clause-usage
returns-clause-usage c usage are =
    let q = c.value_parser-mode.ensures.given in
    let command_is : app_of c.in_ok-command.command ≡ command q.0 = c.in_ok-command.ensures.shape (search rules)
    ∙ ap₂ with_rule (top_is _ _ _ c.new-2.ensures.app c.no_binary_name.ensures c.disable_help_flag.ensures)
    (mode_is _ _ _ q.0 c.new.ensures.rule c.required.ensures c.value_parser-mode.ensures.others q.1) in
    let accepted : accepts false q.0 (word_of are.0) ≡ true =
    ap (λ p. accepts false p (word_of are.0)) q.2 ∙ accepts_two c.as_slice.result _ _ (word_of are.0) c.as_slice.ensures
    ∙ either_mode are.0 in
    let memory = c.in-Err.ensures.passes (ap₂ takes command_is are.1 ∙ takes_mode q.0 are.0 accepted) in
    let same : c.kind.result ≡ OutOfMemory = c.kind.ensures ∙ memory in
    let bad : true ≡ false = sym (c.eq.ensures ∙ rw same refl) ∙ c.if-eq.false in
    cc
