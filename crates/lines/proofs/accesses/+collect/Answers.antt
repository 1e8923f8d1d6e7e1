use Rattle.std.proofs.Common.{◌∷◌, [], sym, subst, arith, ◌∙◌}
use Rattle.lines.specs.Tables.{Added}
use Rattle.lines.proofs.Collecting.{collected_none, collected_access, collected_group, collected_chain}
use Rattle.lines.proofs.accesses.+collect.Goals as goal

pub returns-in-Access : goal.returns-in-Access
returns-in-Access t c =
    collected_access _ _ _ _ _ _ _ (sym c.in-Some.ensures.0 ∙ c.in-Access.is)
    (λ room near. subst (λ q. Added c.args.into.now c.push.new.self (record { place = c.in-Access.place; slot = c.in-Access.slot; vars = record { place = q; count = c.in-Access.vars } } ∷ [])) (omega (arith, c.saturating_add.ensures, near)) (c.push.ensures room))

pub returns-in-Group : goal.returns-in-Group
returns-in-Group t c = collected_group _ _ _ _ _ _ (sym c.in-Some.ensures.0 ∙ c.in-Group.is) c.collect.ensures

pub returns-in-Times : goal.returns-in-Times
returns-in-Times t c = collected_chain _ _ _ _ _ c.in-Some.ensures.0 c.in-Times.is _ _ _ c.collect-in-Times.ensures c.collect-in-Times-2.ensures

pub returns-in_default : goal.returns-in_default
returns-in_default t c = collected_none _ _ _ _ c.in_default.ensures
