-- A netlist of numbers is the flat netlist of a module.
use Rattle.std.specs.Prelude.{◌≡◌, ◌<◌, List, length, map}
use Rattle.std.specs.List.{AllByRecursion}
use Rattle.rtl_ir.specs.declared.module.Design.{Design}
use Rattle.rtl_ir.specs.declared.module.Module.{Module}
use Rattle.rtl_ir.specs.Flat.Place.{Place}
use Rattle.rtl_ir.specs.Flat.Tree.{driven_rows, output_places}
use Rattle.flat_net.specs.declared.net.Net.{Net}
use Rattle.flat_net.specs.Parts.{parts_rows}
use Rattle.flat_net.specs.Points.{place_at, AreApart}
use Rattle.flat_net.specs.Within.{ArePartsWithin}

-- the netlist is that of a module of a design, where the bit of number n is the n-th of these: its parts are the rows
-- that the module and its instances have, in order, and its outputs are the output bits of the module
pub record IsNetOf (net : Net) (d : Design) (m : Module) (ps : List Place) : Type 0 where
  pub apart : AreApart ps
  pub count : length ps ≡ net.count
  pub rows : parts_rows ps net.parts ≡ driven_rows d m
  pub within : ArePartsWithin net.count net.parts
  pub outputs : map (place_at ps) net.outputs ≡ output_places m
  pub outputs_within : AllByRecursion (λ number. number < net.count) net.outputs
