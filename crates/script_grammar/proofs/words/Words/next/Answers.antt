use Rattle.xa_base.proofs.{rules, ◌≡◌, ◌<◌, ◌∷◌, take, drop, length, sym, ap, ◌∙◌, arith, true, false, take-append-drop}
use Rattle.xa_base.proofs.{List, ℕ, Bool}
use Rattle.script_grammar.specs.{words_of, starts_blank}
use Rattle.script_grammar.proofs.Lines.{first_word}
use Rattle.script_grammar.proofs.words.Words.next.Goals as goal

-- Where only an empty line starts blank, a line that isn't empty doesn't.
starts_full : (b : Bool) (line : List ℕ) → (b ≡ true → length line ≡ 0) → 0 < length line → b ≡ false
starts_full b line h lt = search (arith, rules)

pub returns : goal.returns
returns c =
    let line = c.without_spaces-line.result.now in
    let n = c.word_len.result in
    let full : 0 < length line = grind arith in
    let begins : starts_blank line ≡ false =
    starts_full (starts_blank line) line (λ h. ap length (c.without_spaces-line.ensures.word h)) full in
    let some : 0 < length (take n line) = grind (arith, c.word_len.ensures.some begins, c.word_len.ensures.fits) in
    let parts : words_of line ≡ take n line ∷ words_of (drop n line) =
    search (arith, take-append-drop, first_word, c.word_len.ensures.word) in
    sym c.self.view_is ∙ sym c.without_spaces-line.ensures.words ∙ parts
    ∙ (λ i. sym c.split_at.ensures.front i ∷ words_of (sym c.split_at.ensures.back i))
