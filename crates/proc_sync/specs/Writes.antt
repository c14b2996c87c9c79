-- Write ports, and lines one by one.
use Rattle.std.specs.Prelude.{ℕ, false, List, [], ◌∷◌, ◌++◌, codes, drop}
use Rattle.cell_types.specs.declared.level.Level.{Level}
use Rattle.rtl_bits.specs.declared.bit.Bit.{Bit}
use Rattle.rtl_sig.specs.declared.sig.SigBit.{SigBit}
use Rattle.rtl_ir.specs.Build.{bits_param, integer_param, pin_of}
use Rattle.rtl_ir.specs.declared.cell.CellParam.{CellParam}
use Rattle.rtl_ir.specs.declared.cell.Pin.{Pin}
use Rattle.rtl_ir.specs.declared.module.Module.{Module}
use Rattle.rtl_ir.specs.declared.process.Event.{Event}
use Rattle.rtl_ir.specs.declared.process.WriteLine.{WriteLine}
use Rattle.rtl_ir.specs.declared.value.Value.TheVariants.{Chars}
use Rattle.net_model.specs.Proc.Sync.{Writing, line_number, polarity_of, write_cell}

-- the parameters of a write port
abbrev pub write_params : List ℕ → ℕ → ℕ → Level → ℕ → List Bit → List CellParam
write_params memory address width level number mask =
    record { name = codes "\\MEMID"; value = Chars memory; signed = false }
    ∷ integer_param (codes "\\ABITS") address
    ∷ integer_param (codes "\\WIDTH") width
    ∷ integer_param (codes "\\CLK_ENABLE") 1
    ∷ integer_param (codes "\\CLK_POLARITY") (polarity_of level)
    ∷ integer_param (codes "\\PORTID") number
    ∷ bits_param (codes "\\PRIORITY_MASK") mask
    ∷ []

-- its pins
abbrev pub write_pins : List SigBit → List SigBit → List SigBit → List SigBit → List Pin
write_pins clk en addr data_in =
    pin_of (codes "\\CLK") clk ∷ pin_of (codes "\\EN") en ∷ pin_of (codes "\\ADDR") addr ∷ pin_of (codes "\\DATA") data_in ∷ []

-- a line becomes a port, where the lines of its rule stand behind so many
abbrev pub line_step : Module → Event → ℕ → WriteLine → Writing → Writing
line_step m event start line w =
    let number = line_number m w.numbered line.memory in
    record {
      building = write_cell event line number (drop start w.numbered) w.building;
      numbered = w.numbered ++ record { memory = line.memory; number = number } ∷ [];
    }
