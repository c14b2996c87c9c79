-- Lines that have become ports, as contracts see them.
use Rattle.std.specs.Prelude.{ℕ, List, map}
use Rattle.rtl_bits.specs.declared.bit.Bit.{Bit}
use Rattle.rtl_ir.specs.Constants.{value_bits}
use Rattle.rtl_ir.specs.Flat.Access.{line_mask}
use Rattle.rtl_ir.specs.declared.process.WriteLine.{WriteLine}
use Rattle.net_model.specs.Proc.Sync as sync
use Rattle.net_model.specs.Proc.Sync.{ports_in}
use Rattle.proc_sync.specs.declared.masks.Numbered.{Numbered}

-- a line
abbrev pub numbered_of : Numbered → sync.Numbered
numbered_of n = record { memory = n.memory.now; number = n.number }

-- lines
abbrev pub numbers_of : List Numbered → List sync.Numbered
numbers_of ns = map numbered_of ns

-- the mask of the port of this number that a line becomes, behind these lines of its rule
abbrev pub mask_of : ℕ → List sync.Numbered → WriteLine → List Bit
mask_of number rule line = line_mask number (ports_in line.memory rule) (value_bits line.mask)
