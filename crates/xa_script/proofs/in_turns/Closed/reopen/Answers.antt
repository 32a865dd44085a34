use Rattle.xa_base.proofs.{◌≡◌, suc, ◌+◌, sym, ◌∙◌, arith}
use Rattle.script_grammar.specs.{Content}
use Rattle.laws_transcript.specs.{AreNumbersOf}
use Rattle.xa_script.proofs.TurnsSoFar.{goes_on}
use Rattle.xa_script.proofs.in_turns.Closed.reopen.Goals as goal

pub returns-clause-opened : goal.returns-clause-opened
returns-clause-opened g c = λ b o line closed same number.
    let s : Content = c.args.script.now in
    let again = c.again_of-again.result in
    let settled = c.args.self.settled in
    let desks = c.in-Ok.opened.0.items in
    let workers = c.in-Ok.opened.1.items in
    let zs = c.in-Ok.opened.2.items in
    let logs = c.args.self.logs.items in
    let next_number : c.args.self.opening + 1 ≡ suc b.opening = omega (arith, number) in
    let numbers : AreNumbersOf s (suc b.opening) again = rw next_number at c.again_of-again.ensures in
    let (b', follows, follow_number, is_open) =
    goes_on s b o closed.left closed.comes settled same again numbers desks workers zs logs closed.logs_are
    c.in-Ok.ensures.opened c.in-Ok.ensures.scans in (
      b',
      follows line,
      numbers.opening_ ∙ sym follow_number,
      rw (c.in_ok-sessions.ensures, c.new.ensures) is_open,
    )
