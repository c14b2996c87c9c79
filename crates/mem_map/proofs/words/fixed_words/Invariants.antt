-- The words so far, and those of the start values that are left, are all.
use Rattle.std.proofs.Common.{◌≡◌, ◌++◌, map, drop}
use Rattle.rtl_sig.specs.declared.sig.SigBit.TheVariants.{Fixed}
use Rattle.mem_map.proofs.words.fixed_words.Given as goal

abbrev pub invariant-loop-bits : goal.invariant-loop-bits
invariant-loop-bits l = l.signals ++ map (map Fixed) (drop l.bits-index l.starts) ≡ map (map Fixed) l.starts
