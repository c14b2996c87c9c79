use Rattle.rtl_lex.specs.Items.{remaining}
use Rattle.design_edit.proofs.Seeking.{Seeks}
use Rattle.design_edit.proofs.place.module_place.Given as goal

-- the word that is sought is among the items that are left
abbrev pub invariant-loop-next : goal.invariant-loop-next
invariant-loop-next l = Seeks l.text l.number l.from l.line l.left

abbrev pub decreases-loop-next : goal.decreases-loop-next
decreases-loop-next l = remaining l.text l.from l.line
