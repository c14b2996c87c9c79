-- What is made so far, with what the rules make of the rest, is what they make of all.
use Rattle.std.proofs.Common.{◌≡◌, [], drop}
use Rattle.rtl_ir.specs.SwitchRules.{cases_by_rules, switches_by_rules}
use Rattle.rtl_ir.specs.Tree.{cases_of, switches_of}
use Rattle.process_trees.specs.Reading.{cases_before, switches_before}
use Rattle.process_trees.proofs.by_rules.+tree.Given as goal

abbrev pub invariant-ruled_case-loop-switch : goal.invariant-ruled_case-loop-switch
invariant-ruled_case-loop-switch l = switches_before l.switches.items (switches_by_rules (switches_of (drop l.switch-index l.switch-items))) ≡ switches_by_rules (switches_of l.switch-items)

abbrev pub invariant-ruled_switch-loop-case : goal.invariant-ruled_switch-loop-case
invariant-ruled_switch-loop-case l = cases_before l.cases.items (cases_by_rules l.switch.signal l.earlier.items (cases_of (drop l.case-index l.case-items))) ≡ cases_by_rules l.switch.signal [] (cases_of l.case-items)
