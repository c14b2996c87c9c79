-- Copies of what a child has: its signals on the copied wires, its memories under the names of their copies.
use Rattle.std.specs.Prelude.{ℕ, ◌+◌, List, ◌∷◌, map, Option, Some, if◌then◌else◌}
use Rattle.std.specs.Str.{bytes_eq}
use Rattle.rtl_sig.specs.declared.sig.SigBit.{SigBit}
use Rattle.rtl_sig.specs.declared.sig.SigBit.TheVariants.{Fixed, Wire as OnWire}
use Rattle.cell_types.specs.declared.kind.CellKind.{CellKind}
use Rattle.cell_types.specs.declared.kind.CellKind.TheVariants.{Memory}
use Rattle.cell_types.specs.declared.param_name.ParamName.TheVariants.{Memid}
use Rattle.cell_types.specs.ParamName.{param_text}
use Rattle.rtl_ir.specs.declared.cell.CellParam.{CellParam}
use Rattle.rtl_ir.specs.declared.cell.Pin.{Pin}
use Rattle.rtl_ir.specs.declared.module.Link.{Link}
use Rattle.rtl_ir.specs.declared.value.Value.{Value}
use Rattle.rtl_ir.specs.declared.value.Value.TheVariants.{Chars}

-- what the copies of an instance's cells go by: the instance's name, the place of the first copied wire, and the names
-- of the child's memories with those of their copies
pub record Copying : Type 0 where
  pub instance : List ℕ
  pub first : ℕ
  pub memories : List (List ℕ)
  pub copies : List (List ℕ)

-- a bit of a signal, where the wires stand from this place on
abbrev pub copied_bit : ℕ → SigBit → SigBit
copied_bit first (Fixed c) = Fixed c
copied_bit first (OnWire b) = OnWire (record { wire = first + b.wire; at = b.at })

-- a signal, bit by bit
abbrev pub copied_signal : ℕ → List SigBit → List SigBit
copied_signal first signal = map (copied_bit first) signal

-- a pin of a cell
abbrev pub copied_pin : ℕ → Pin → Pin
copied_pin first p = record p { sig = copied_signal first p.sig }

-- a connection
abbrev pub copied_link : ℕ → Link → Link
copied_link first l = record { left = copied_signal first l.left; right = copied_signal first l.right }

-- the name of the copy of the memory of this name, the name itself where no memory has it
abbrev pub renamed : List (List ℕ) → List (List ℕ) → List ℕ → List ℕ
renamed (old ∷ memories) (new ∷ copies) name = if bytes_eq old name then new else renamed memories copies name
renamed memories copies name = name

-- a string that names a memory; any other value stays
abbrev pub renamed_value : Copying → Value → Value
renamed_value k (Chars name) = Chars (renamed k.memories k.copies name)
renamed_value k value = value

-- the parameter `\MEMID` names the copy
abbrev pub renamed_param : Copying → CellParam → CellParam
renamed_param k p = if bytes_eq p.name (param_text Memid) then record p { value = renamed_value k p.value } else p

-- the parameters of a cell of this kind: those of a memory's cell name the copy, all others stay
abbrev pub copied_params : Copying → Option CellKind → List CellParam → List CellParam
copied_params k (Some (Memory kind)) params = map (renamed_param k) params
copied_params k kind params = params
