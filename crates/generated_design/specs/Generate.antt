-- Generated designs: modules named `\g0`, `\g1` and so on, each an adder with a register behind it. Their words are 1 to 8
-- bits wide, in turn.
use Rattle.std.specs.Prelude.{ℕ, ◌+◌, ◌%◌, pos, false, List, [], ◌∷◌, ◌++◌, map, codes}
use Rattle.std.specs.Fmt.{decimal}
use Rattle.std.specs.List.{range_with_len}
use Rattle.rtl_ir.specs.declared.cell.Cell.{Cell}
use Rattle.rtl_ir.specs.declared.module.Design.{Design}
use Rattle.rtl_ir.specs.declared.module.Module.{Module}
use Rattle.rtl_ir.specs.declared.wire.Role.{Role}
use Rattle.rtl_ir.specs.declared.wire.Role.TheVariants.{Inner, Input, Output}
use Rattle.rtl_ir.specs.declared.wire.Wire.{Wire}
use Rattle.rtl_ir.specs.Build.{integer_param, pin_of, whole}
use Rattle.rtl_ir.specs.Empty.{empty_module}

-- a wire of so many bits, by its name, its role and its number as a port, which is 0 where it is none
abbrev pub wire : List ℕ → ℕ → Role → ℕ → Wire
wire name width role number = record {
  name = name;
  width = width;
  offset = pos 0;
  upto = false;
  signed = false;
  role = role;
  number = pos number;
  attributes = [];
}

-- the wires, for words of a width: the inputs `\a` and `\b`, the clock `\c`, the output `\y`, and the sum `$s`
abbrev pub wires_of : ℕ → List Wire
wires_of width =
    wire (codes "\\a") width Input 1
    ∷ wire (codes "\\b") width Input 2
    ∷ wire (codes "\\c") 1 Input 3
    ∷ wire (codes "\\y") width Output 4
    ∷ wire (codes "$s") width Inner 0
    ∷ []

-- `$1` adds `\a` and `\b` as numbers without signs, and gives `$s`
abbrev pub adder : ℕ → Cell
adder width = record {
  kind_name = codes "$add";
  name = codes "$1";
  params =
      integer_param (codes "\\A_SIGNED") 0
      ∷ integer_param (codes "\\A_WIDTH") width
      ∷ integer_param (codes "\\B_SIGNED") 0
      ∷ integer_param (codes "\\B_WIDTH") width
      ∷ integer_param (codes "\\Y_WIDTH") width
      ∷ [];
  pins = pin_of (codes "\\A") (whole 0 width) ∷ pin_of (codes "\\B") (whole 1 width) ∷ pin_of (codes "\\Y") (whole 4 width) ∷ [];
  attributes = [];
}

-- `$2` takes `$s` at each rising edge of `\c`, and gives `\y`
abbrev pub register : ℕ → Cell
register width = record {
  kind_name = codes "$dff";
  name = codes "$2";
  params = integer_param (codes "\\WIDTH") width ∷ integer_param (codes "\\CLK_POLARITY") 1 ∷ [];
  pins = pin_of (codes "\\CLK") (whole 2 1) ∷ pin_of (codes "\\D") (whole 4 width) ∷ pin_of (codes "\\Q") (whole 3 width) ∷ [];
  attributes = [];
}

-- a module of this name over words of a width
abbrev pub registered_sum : List ℕ → ℕ → Module
registered_sum id width =
    record (empty_module id) { wires = wires_of width; cells = adder width ∷ register width ∷ [] }

-- the module of a number
abbrev pub generated_module : ℕ → Module
generated_module number = registered_sum (codes "\\g" ++ decimal number) (number % 8 + 1)

-- the design of so many modules, which are numbered from 0
abbrev pub generated : ℕ → Design
generated count = record { modules = map generated_module (range_with_len 0 count) }
