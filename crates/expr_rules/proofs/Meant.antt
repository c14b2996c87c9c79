-- Operands that are made are meant as they are.
use Rattle.std.proofs.Common.{List, Option, refl}
use Rattle.rtl_sig.specs.declared.sig.SigBit.{SigBit}
use Rattle.cell_types.specs.declared.shape.Shape.{Shape}
use Rattle.expr_rules.specs.Operands.{IsMeant, operands_of}

pub operands_meant : (shape : Shape) (a b s : List SigBit) (inverted : Option SigBit) (inner : Option (List SigBit)) → IsMeant shape (operands_of shape a b s inverted inner)
operands_meant shape a b s inverted inner = record { left = refl; right = refl }
