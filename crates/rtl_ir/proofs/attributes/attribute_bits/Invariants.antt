-- The attributes so far have other names.
use Rattle.std.proofs.Common.{◌≡◌, drop}
use Rattle.rtl_ir.specs.Attributes.{attribute_bits}
use Rattle.rtl_ir.proofs.attributes.attribute_bits.Given as goal

abbrev pub invariant-loop-attribute : goal.invariant-loop-attribute
invariant-loop-attribute l = attribute_bits l.attributes l.name ≡ attribute_bits (drop l.attribute-index l.attributes) l.name
