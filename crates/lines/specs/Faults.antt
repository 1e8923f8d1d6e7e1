-- The faults of the code as those of the rules. Assumes nothing.
use Rattle.model.specs.Conditions.{Rule, grammar, limits, access_rule, evenness, extents, loop_order, argument_order, LineFault}
use Rattle.lines.specs.declared.faults.Rule.{Rule as CodeRule}
use Rattle.lines.specs.declared.faults.Rule.TheVariants.{Grammar, Limits, Access, Evenness, Extents, LoopOrder, ArgumentOrder}
use Rattle.lines.specs.declared.faults.LineFault.{LineFault as CodeFault}

abbrev pub rule_of : CodeRule → Rule
rule_of Grammar = grammar
rule_of Limits = limits
rule_of Access = access_rule
rule_of Evenness = evenness
rule_of Extents = extents
rule_of LoopOrder = loop_order
rule_of ArgumentOrder = argument_order

abbrev pub fault_of : CodeFault → LineFault
fault_of f = record { rule = rule_of f.rule; place = f.place }
