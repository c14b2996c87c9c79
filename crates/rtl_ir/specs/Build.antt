-- Modules as passes add to them: fresh names, new cells with their wires, connections.
use Rattle.std.specs.Prelude.{ℕ, ◌+◌, ◌-◌, ◌*◌, ◌==◌, ◌&&◌, max, nat_le, Bool, false, not, pos, List, [], ◌∷◌, ◌++◌, length, map, take, drop, codes, if◌then◌else◌}
use Rattle.std.specs.Fmt.{decimal}
use Rattle.std.specs.List.{fold, list_all}
use Rattle.std.specs.Str.{bytes_eq}
use Rattle.rtl_bits.specs.declared.bit.Bit.{Bit}
use Rattle.rtl_sig.specs.declared.sig.SigBit.{SigBit}
use Rattle.rtl_sig.specs.declared.sig.SigBit.TheVariants.{Wire as OnWire}
use Rattle.rtl_ir.specs.declared.cell.Cell.{Cell}
use Rattle.rtl_ir.specs.declared.cell.CellParam.{CellParam}
use Rattle.rtl_ir.specs.declared.cell.Pin.{Pin}
use Rattle.rtl_ir.specs.declared.module.Module.{Module}
use Rattle.rtl_ir.specs.declared.process.Process.{Process}
use Rattle.rtl_ir.specs.declared.store.Store.{Store}
use Rattle.rtl_ir.specs.declared.value.Attribute.{Attribute}
use Rattle.rtl_ir.specs.declared.value.Value.TheVariants.{Bits, Int}
use Rattle.rtl_ir.specs.declared.wire.Role.TheVariants.{Inner}
use Rattle.rtl_ir.specs.declared.wire.Wire.{Wire}
use Rattle.rtl_ir.specs.Signals.{bits_of_wire}

-- the fresh name of a number
abbrev pub made_name : ℕ → List ℕ
made_name n = codes "$syn$" ++ decimal n

-- a character is a digit
abbrev pub is_digit : ℕ → Bool
is_digit c = nat_le 48 c && nat_le c 57

-- the number of digits, behind a number
abbrev pub digits_number : ℕ → List ℕ → ℕ
digits_number n [] = n
digits_number n (c ∷ digits) = digits_number (n * 10 + (c - 48)) digits

-- one to nine digits, the first of which is not 0
abbrev pub is_made_number : List ℕ → Bool
is_made_number [] = false
is_made_number (c ∷ digits) = list_all is_digit (c ∷ digits) && (not (c == 48) && nat_le (length (c ∷ digits)) 9)

-- the number of a fresh name; of any other name it is 0
unfoldable pub made_number : List ℕ → ℕ
made_number name =
    if bytes_eq (take 5 name) (codes "$syn$") && is_made_number (drop 5 name) then digits_number 0 (drop 5 name) else 0

-- the names of the wires, memories, cells and processes of a module
abbrev pub module_names : Module → List (List ℕ)
module_names m =
    map (λ (w : Wire). w.name) m.wires
    ++ map (λ (s : Store). s.name) m.memories
    ++ map (λ (c : Cell). c.name) m.cells
    ++ map (λ (p : Process). p.name) m.processes

-- the first number behind those of a module's names
abbrev pub first_number : Module → ℕ
first_number m = fold max 0 (map made_number (module_names m)) + 1

-- a module that is added to, and the number of the next fresh name
pub record Building : Type 0 where
  pub body : Module
  pub next : ℕ

-- a step that adds to a module and gives a result
abbrev pub Build : Type 0 → Type 0
Build A = Building → A × Building

-- a module at the start of a pass
abbrev pub building_of : Module → Building
building_of m = record { body = m; next = first_number m }

-- a parameter that is an integer
abbrev pub integer_param : List ℕ → ℕ → CellParam
integer_param name n = record { name = name; value = Int (pos n); signed = false }

-- a parameter that is bits
abbrev pub bits_param : List ℕ → List Bit → CellParam
bits_param name bits = record { name = name; value = Bits bits false; signed = false }

-- a pin
abbrev pub pin_of : List ℕ → List SigBit → Pin
pin_of name sig = record { name = name; sig = sig }

-- a wire that is no port and has these attributes
abbrev pub inner_wire : List ℕ → ℕ → List Attribute → Wire
inner_wire name width attributes = record {
  name = name;
  width = width;
  offset = pos 0;
  upto = false;
  signed = false;
  role = Inner;
  number = pos 0;
  attributes = attributes;
}

-- the whole signal of the wire at a place of the list of wires
abbrev pub whole : ℕ → ℕ → List SigBit
whole wire width = map OnWire (bits_of_wire wire width)

-- a fresh wire goes last; the result is its signal
abbrev pub fresh_wire : ℕ → List Attribute → Build (List SigBit)
fresh_wire width attributes b = (
  whole (length b.body.wires) width,
  record {
    body = record b.body { wires = b.body.wires ++ inner_wire (made_name b.next) width attributes ∷ [] };
    next = b.next + 1;
  },
)

-- a new cell of a type goes last, under a fresh name
abbrev pub new_cell : List ℕ → List CellParam → List Pin → Building → Building
new_cell kind params pins b = record {
  body = record b.body {
    cells = b.body.cells ++ record { kind_name = kind; name = made_name b.next; params = params; pins = pins; attributes = [] } ∷ [];
  };
  next = b.next + 1;
}

-- a new cell, and then a fresh wire of a width at its output, which is its last pin; the result is the wire's signal
abbrev pub new_driver : List ℕ → List CellParam → List Pin → List ℕ → ℕ → Build (List SigBit)
new_driver kind params pins output width b =
    fresh_wire width [] (new_cell kind params (pins ++ pin_of output (whole (length b.body.wires) width) ∷ []) b)

-- a connection goes last
abbrev pub new_link : List SigBit → List SigBit → Building → Building
new_link left right b =
    record b { body = record b.body { links = b.body.links ++ record { left = left; right = right } ∷ [] } }
