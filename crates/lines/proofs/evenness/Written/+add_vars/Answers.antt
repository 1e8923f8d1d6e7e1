use Rattle.std.proofs.Common.{◌≡◌, ◌+◌, sym, ap, arith, ◌∙◌}
use Rattle.lines.proofs.NodeVars.{adds_none, adds_access, adds_group, adds_chain}
use Rattle.lines.proofs.evenness.Written.+add_vars.Goals as goal

pub returns-in-Access : goal.returns-in-Access
returns-in-Access t c =
    adds_access _ _ _ _ _ _ _ c.args.set.now c.add.new.self (sym c.in-Some.ensures.0 ∙ c.in-Access.is)
    (λ le. let here : c.saturating_add.result ≡ c.in-Access.place + 2 = omega (arith, c.saturating_add.ensures) in ap (λ q. record { place = q; count = c.in-Access.vars }) here) c.add.ensures

pub returns-in-Group : goal.returns-in-Group
returns-in-Group t c = adds_group _ _ _ _ _ c.args.set.now c.add_vars.new.set (sym c.in-Some.ensures.0 ∙ c.in-Group.is) c.add_vars.ensures

pub returns-in-Times : goal.returns-in-Times
returns-in-Times t c = adds_chain _ _ _ _ _ _ c.in-Some.ensures.0 c.in-Times.is c.args.set.now c.add_vars-in-Times.new.set c.add_vars-in-Times-2.new.set c.add_vars-in-Times.ensures c.add_vars-in-Times-2.ensures

pub returns-in_default : goal.returns-in_default
returns-in_default t c = adds_none _ _ _ c.args.set.now c.args.set.now c.in_default.ensures
