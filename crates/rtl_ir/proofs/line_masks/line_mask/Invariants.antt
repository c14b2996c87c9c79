-- The bits so far are those of the ports so far.
use Rattle.std.proofs.Common.{◌≡◌, map, if◌then◌else◌}
use Rattle.std.specs.List.{range_with_len}
use Rattle.rtl_bits.specs.declared.bit.Bit.TheVariants.{S0, S1}
use Rattle.rtl_ir.specs.Flat.Access.{line_follows}
use Rattle.rtl_ir.proofs.line_masks.line_mask.Given as goal

abbrev pub invariant-loop-port : goal.invariant-loop-port
invariant-loop-port l = l.bits.items ≡ map (λ port. if line_follows port l.before l.mask then S1 else S0) (range_with_len 0 l.port)
