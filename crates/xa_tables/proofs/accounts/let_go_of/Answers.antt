use Rattle.xa_base.proofs.{◌≡◌, Bool, true, false, Some, None, rules, sym, ap, ◌∙◌, if◌then◌else◌}
use Rattle.xa_words.specs.{XidName}
use Rattle.xa_tables.specs.{Account, Hold, hold_where, kept_where}
use Rattle.xa_tables.proofs.accounts.let_go_of.Goals as goal

-- the account where h is its hold, which is to be kept or not
kept_as : (keep : XidName → Bool) (a : Account) (h : Hold) (b : Bool) → a.hold ≡ Some h → keep h.xid ≡ b
    → record a { hold = if b then Some h else None } ≡ kept_where keep a
kept_as keep a h b is e =
    λ i. record a { hold = sym (ap (hold_where keep) is ∙ ap (λ c. if c then Some h else None) e) i }

pub returns-then-not-keeps : goal.returns-then-not-keeps
returns-then-not-keeps g c keep agrees =
    let is : c.keeps.result ≡ keep c.in-Some.hold.xid = agrees c.in-Some.hold.xid c.keeps.result (search rules) in
    kept_as keep c.args.account.now c.in-Some.hold false c.in-Some.is (sym is ∙ c.if-not-keeps.true)

pub returns-else-not-keeps : goal.returns-else-not-keeps
returns-else-not-keeps g c keep agrees =
    let a = c.args.account.now in
    let is : c.keeps.result ≡ keep c.in-Some.hold.xid = agrees c.in-Some.hold.xid c.keeps.result (search rules) in
    (λ i. record a { hold = c.in-Some.is i })
    ∙ kept_as keep a c.in-Some.hold true c.in-Some.is (sym is ∙ c.if-not-keeps.false)
