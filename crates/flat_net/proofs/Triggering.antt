-- Registers read what their rules name.
use Rattle.std.proofs.Common.{◌≡◌, List, map, refl, ◌∙◌, ap}
use Rattle.rtl_bits.specs.declared.bit.Bit.{Bit}
use Rattle.rtl_sig.specs.declared.sig.SigBit.{SigBit}
use Rattle.cell_types.specs.declared.storage.StorageKind.TheVariants.{Dff, Dlatch, Aldff}
use Rattle.cell_types.specs.Levels.{low}
use Rattle.rtl_ir.specs.declared.wire.Wire.{Wire}
use Rattle.rtl_ir.specs.Flat.Driver.{StorePoints}
use Rattle.rtl_ir.specs.Flat.Place.{Path, Place}
use Rattle.rtl_ir.specs.Flat.Point as rtl
use Rattle.rtl_ir.specs.Flat.Point.{point, point_at, points}
use Rattle.rtl_ir.specs.Flat.Process.{Trigger, edge_row, level_row, loaded_row, no_pins, rule_row}
use Rattle.rtl_ir.specs.declared.follow.Join.{Join}
use Rattle.flat_net.specs.declared.net.Point.{Point}
use Rattle.flat_net.specs.declared.registers.Control.{Control}
use Rattle.flat_net.specs.declared.registers.Register.{Register}
use Rattle.flat_net.specs.Known.{Keeps}
use Rattle.flat_net.specs.Reads.{ArePins, IsPoint}
use Rattle.flat_net.specs.Registers.{IsControl, bare_pins, edge_register, level_register, loaded_register, register_row}
use Rattle.std.specs.Prelude.{Some}
use Rattle.flat_net.proofs.Reading.{IsPoint-kept}

pub IsControl-kept : (ps qs : List Place) → Keeps ps qs → (p : Path) (wires : List Wire) (c : Control) (t : Trigger) → IsControl ps p wires c t → IsControl qs p wires c t
IsControl-kept ps qs keeps p wires c t h = record { point = IsPoint-kept ps qs keeps c.point _ h.point; level = h.level }

-- no pin is read
pub bare_reads : (ps : List Place) → ArePins ps bare_pins no_pins
bare_reads ps = record { are = refl; within = record { clk = tt; en = tt; arst = tt; srst = tt; aload = tt; ad = tt; set = tt; clr = tt; d = tt } }

module _ (p : Path) (wires : List Wire) where
  -- the one point of an edge or a level
  abbrev pub at : Trigger → rtl.Point
  at t = point_at (points p wires t.signal) 0

  abbrev pub edge_points : Trigger → StorePoints
  edge_points t = record no_pins { clk = at t }

  abbrev pub level_points : Trigger → StorePoints
  level_points t = record no_pins { en = at t }

  abbrev pub load_points : Trigger → Trigger → SigBit → StorePoints
  load_points e l s = record no_pins { clk = at e; aload = at l; ad = point p wires s }

  module _ (ps : List Place) where
    pub edge_reads : (r : Register) (c : Control) (t : Trigger) → r ≡ edge_register c → IsControl ps p wires c t → ArePins ps r.pins (edge_points t)
    edge_reads r c t e h = rw e (record {
      are = λ i. record no_pins { clk = h.point.is i };
      within = record { clk = h.point.within; en = tt; arst = tt; srst = tt; aload = tt; ad = tt; set = tt; clr = tt; d = tt };
    })

    pub level_reads : (r : Register) (c : Control) (t : Trigger) → r ≡ level_register c → IsControl ps p wires c t → ArePins ps r.pins (level_points t)
    level_reads r c t e h = rw e (record {
      are = λ i. record no_pins { en = h.point.is i };
      within = record { clk = tt; en = h.point.within; arst = tt; srst = tt; aload = tt; ad = tt; set = tt; clr = tt; d = tt };
    })

    pub load_reads : (r : Register) (c d : Control) (ad : Point) (e l : Trigger) (s : SigBit) → r ≡ loaded_register c d ad → IsControl ps p wires c e → IsControl ps p wires d l → IsPoint ps ad (point p wires s)
        → ArePins ps r.pins (load_points e l s)
    load_reads r c d ad e l s is h k m = rw is (record {
      are = λ i. record no_pins { clk = h.point.is i; aload = k.point.is i; ad = m.is i };
      within = record { clk = h.point.within; en = tt; arst = tt; srst = tt; aload = k.point.within; ad = m.within; set = tt; clr = tt; d = tt };
    })

  module _ (start : SigBit → Bit) where
    pub edge_rows : (ps : List Place) (r : Register) (c : Control) (t : Trigger) → r ≡ edge_register c → IsControl ps p wires c t → (js : List Join) → map (register_row start p wires r (edge_points t)) js ≡ map (edge_row start p wires t) js
    edge_rows ps r c t e h js =
        ap (λ r. map (register_row start p wires r (edge_points t)) js) e
        ∙ (λ i. map (λ (j : Join). rule_row start p wires Dff (record low { clk = h.level i }) (record no_pins { clk = at t; d = point p wires j.source }) j.bit) js)

    pub level_rows : (ps : List Place) (r : Register) (c : Control) (t : Trigger) → r ≡ level_register c → IsControl ps p wires c t → (js : List Join) → map (register_row start p wires r (level_points t)) js ≡ map (level_row start p wires t) js
    level_rows ps r c t e h js =
        ap (λ r. map (register_row start p wires r (level_points t)) js) e
        ∙ (λ i. map (λ (j : Join). rule_row start p wires Dlatch (record low { en = h.level i }) (record no_pins { en = at t; d = point p wires j.source }) j.bit) js)

    pub load_rows : (ps : List Place) (r : Register) (c d : Control) (ad : Point) (e l : Trigger) (s : SigBit) → r ≡ loaded_register c d ad → IsControl ps p wires c e → IsControl ps p wires d l
        → (js : List Join) → map (register_row start p wires r (load_points e l s)) js ≡ map (loaded_row start p wires e l (Some s)) js
    load_rows ps r c d ad e l s is h k js =
        ap (λ r. map (register_row start p wires r (load_points e l s)) js) is
        ∙ (λ i. map (λ (j : Join). rule_row start p wires Aldff (record low { clk = h.level i; aload = k.level i }) (record no_pins { clk = at e; aload = at l; ad = point p wires s; d = point p wires j.source }) j.bit) js)
