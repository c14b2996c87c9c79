-- What the values of updated bits may be.
use Rattle.std.specs.Prelude.{Bool, ◌&&◌, ◌||◌, List, Option, Some, None}
use Rattle.rtl_sig.specs.declared.sig.WireBit.{WireBit}
use Rattle.rtl_ir.specs.declared.module.Module.{Module}
use Rattle.rtl_ir.specs.Decisions.{expanded, leaves_of}
use Rattle.rtl_ir.specs.Faults.TwoEdges.{are_all, are_one_constant}
use Rattle.rtl_ir.specs.declared.follow.Join.{Join}
use Rattle.rtl_ir.specs.Tree.{CaseView}
use Rattle.rtl_ir.specs.Types.{Ports}
use Rattle.process_trees.specs.declared.tables.EventTests.{EventTests}
use Rattle.process_trees.specs.Tables.{AreTests}

-- whatever the decisions, a bit is given one constant, or itself where that may be
abbrev pub is_settled : CaseView → List WireBit → Bool → Join → Bool
is_settled root bits itself j =
    are_one_constant (leaves_of (expanded root bits j.source)) || (itself && are_all j.bit (leaves_of (expanded root bits j.source)))

-- the tables are those of the module, where they were made
abbrev pub WereAsked : Option EventTests → Ports → Module → Type 0
WereAsked None ports m = Unit {0}
WereAsked (Some tests) ports m = AreTests tests ports m
