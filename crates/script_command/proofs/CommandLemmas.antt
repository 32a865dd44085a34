-- What clap answers to one word: a fault, unless the word is one that the argument takes.
use Rattle.std.specs.Prelude.{◌≡◌, ℕ, ◌==◌, ◌||◌, Bool, true, false, List, [], ◌∷◌, Some, codes, slice_index}
use Rattle.std.specs.Prelude.{slice_index_or, length, map, refl}
use Rattle.std.proofs.Common.{sym, ap, ap₂, ◌∙◌, inl, inr, arith}
use Rattle.std.specs.List.{list_any}
use Rattle.std.specs.Borrow.{Bor}
use Rattle.std.specs.Str.{bytes_eq}
use Rattle.std.proofs.lemmas.Slice.Eq.{bytes_eq-Decides}
use Rattle.std.proofs.lemmas.Bool.{cases_Bool, or_cases}
use Rattle.clap.specs.Words.{App, Rule, app_of, rule_of, new_app, new_rule, with_rule, takes, fault_of}
use Rattle.clap.specs.Words.{is_simple_and_free}
use Rattle.clap.specs.Simple.{app_of_fields, on_top}
use Rattle.clap.specs.Values.{refused_kind}
use Rattle.clap.specs.ValueTests.{accepts}
use Rattle.clap.specs.declared.builder.value_parser.ValueParser.{ValueParser}
use Rattle.clap.specs.declared.builder.value_parser.ValueParser.TheVariants as vp
use Rattle.clap.specs.declared.builder.arg.Arg.{Arg}
use Rattle.clap.specs.declared.builder.command.Command.{Command}
use Rattle.clap.specs.declared.builder.command.Command.TheViews.{out-Command}
use Rattle.clap.proofs.OnLiterals.{clap_on_literals}
use Rattle.std.proofs.Math.Bool.{or-false}
use Rattle.script_command.specs.{RunMode, word_of}
use Rattle.script_command.specs.declared.mode.RunMode.TheVariants as modes

-- the program's argument, with this parser
abbrev pub mode : ValueParser → Rule
mode p = record (new_rule (codes "mode")) { required = true; parser = Some p }

-- the app that the command is
abbrev pub top : App
top = on_top (λ s. record s { no_binary_name = true; disable_help_flag = true }) (new_app (codes "xaswitch"))

abbrev pub command : ValueParser → App
command p = with_rule top (mode p)

pub free : (p : ValueParser) → is_simple_and_free (command p) ≡ true
unfolding clap_on_literals
free p = refl

-- a word without a minus before it that the parser doesn't accept is a fault
pub fault_empty : (p : ValueParser) → accepts false p [] ≡ false → fault_of (command p) ([] ∷ []) ≡ refused_kind p ∷ []
unfolding clap_on_literals
fault_empty p a = rw a refl

pub fault_word : (p : ValueParser) (b : ℕ) (bs : List ℕ) → (b == 45) ≡ false → accepts false p (b ∷ bs) ≡ false
    → fault_of (command p) ((b ∷ bs) ∷ []) ≡ refused_kind p ∷ []
unfolding clap_on_literals
fault_word p b bs e a = rw (e, e, a) refl

takes_turns : (p : ValueParser) → accepts false p (codes "turns") ≡ true → takes (command p) (codes "turns" ∷ []) ≡ true
unfolding clap_on_literals
takes_turns p e = rw e refl

takes_threads : (p : ValueParser) → accepts false p (codes "threads") ≡ true
    → takes (command p) (codes "threads" ∷ []) ≡ true
unfolding clap_on_literals
takes_threads p e = rw e refl

-- a word of a mode that the parser accepts is taken
pub takes_mode : (p : ValueParser) (m : RunMode) → accepts false p (word_of m) ≡ true
    → takes (command p) (word_of m ∷ []) ≡ true
takes_mode p modes.Turns e = takes_turns p e
takes_mode p modes.Threads e = takes_threads p e

-- of these two words
abbrev pub is_either : List ℕ → Bool
is_either v = bytes_eq (codes "turns") v || bytes_eq (codes "threads") v

pub either_mode : (m : RunMode) → is_either (word_of m) ≡ true
either_mode modes.Turns = refl
either_mode modes.Threads = refl

mode_by : (w : List ℕ) → is_either w ≡ true → (m : RunMode) × (w ≡ word_of m)
mode_by w e = elim (or_cases (bytes_eq (codes "turns") w) (bytes_eq (codes "threads") w) e) [
  | inl turns ↦ (modes.Turns, sym ((bytes_eq-Decides (codes "turns") w).0 turns))
  | inr threads ↦ (modes.Threads, sym ((bytes_eq-Decides (codes "threads") w).0 threads))
]

-- a parser of which these are the two words takes no other
pub only_either : (p : ValueParser) (w : List ℕ) → ((v : List ℕ) → accepts false p v ≡ is_either v)
    → (slice_index w 0 == 45) ≡ false
    → fault_of (command p) (w ∷ []) ≡ [] → (m : RunMode) × (w ≡ word_of m)
only_either p [] only minus none =
    let bad : refused_kind p ∷ [] ≡ [] = sym (fault_empty p (only [])) ∙ none in let never : ⊥ = cc in absurd never
only_either p (b ∷ bs) only minus none =
    elim (cases_Bool (is_either (b ∷ bs))) [
      | inl t ↦ mode_by (b ∷ bs) t
      | inr f ↦
          let bad : refused_kind p ∷ [] ≡ [] = sym (fault_word p b bs minus (only (b ∷ bs) ∙ f)) ∙ none in
          let never : ⊥ = cc in absurd never
    ]

pub mode_is : (n r v : Arg) (p : ValueParser) → rule_of n ≡ new_rule (codes "mode") → r ≡ record n { required = true }
    → v ≡ record r { value_parser = v.value_parser } → v.value_parser ≡ Some p → rule_of v ≡ mode p
mode_is n r v p new required with_parser parser =
    ap rule_of with_parser
    ∙ ap₂ (λ (m : Rule) q. record m { parser = q })
    (ap rule_of required ∙ ap (λ (m : Rule). record m { required = true }) new) parser

pub top_is : (n b h : Command) → app_of n ≡ new_app (codes "xaswitch")
    → out-Command b ≡ record (out-Command n) { no_binary_name = true }
    → out-Command h ≡ record (out-Command b) { disable_help_flag = true } → app_of h ≡ top
top_is n b h new no_name no_help =
    ap app_of_fields no_help
    ∙ ap (on_top (λ s. record s { disable_help_flag = true }))
    (ap app_of_fields no_name ∙ ap (on_top (λ s. record s { no_binary_name = true })) new)

-- a parser by these names accepts what is one of them
pub accepts_two : (names : Bor (List (Bor (List ℕ)))) (one two : Bor (List ℕ)) (v : List ℕ) → names.now ≡ one ∷ two ∷ []
    → accepts false (vp.Names names) v ≡ (bytes_eq one.now v || bytes_eq two.now v)
accepts_two names one two v is =
    ap (list_any (λ (n : Bor (List ℕ)). bytes_eq n.now v)) is ∙ ap (λ b. bytes_eq one.now v || b) (or-false _)

pub one_word : (words : List (Bor (List ℕ))) (d : Bor (List ℕ)) → length words ≡ 1
    → map (λ w. w.now) words ≡ (slice_index_or words 0 d).now ∷ []
one_word [] d one = absurd (omega arith)
one_word (w ∷ []) d one = refl
one_word (w ∷ v ∷ words) d one = absurd (omega arith)
