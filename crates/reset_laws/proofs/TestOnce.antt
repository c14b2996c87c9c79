-- Each bit of a cell is driven once, and so the tests of a bit do not look at the ports of modules.
use Rattle.std.proofs.Common.{◌≡◌, ◌+◌, ◌<◌, ◌≤◌, Bool, true, false, cond, List, [], ◌∷◌, ◌++◌, Option, Some, None, inl, inr, ⊎_elim, refl, ap, subst, arith}
use Rattle.std.specs.Prelude.{IsSomeAnd, find, if◌then◌else◌, option_map, slice_get}
use Rattle.rtl_sig.specs.declared.sig.SigBit.{SigBit}
use Rattle.rtl_sig.specs.declared.sig.SigBit.TheVariants.{Fixed, Wire as OnWire}
use Rattle.rtl_sig.specs.declared.sig.WireBit.{WireBit}
use Rattle.rtl_ir.specs.Drivers.{Drive, Source, drive_count, driver_in, drives_of}
use Rattle.rtl_ir.specs.Outputs.{drives_pin}
use Rattle.rtl_ir.specs.Scope.{with_processes}
use Rattle.rtl_ir.specs.Signals.{same_bit, wire_bits}
use Rattle.rtl_ir.specs.Types.{CellType, Ports, cell_type}
use Rattle.rtl_ir.specs.declared.cell.Cell.{Cell}
use Rattle.rtl_ir.specs.declared.cell.Pin.{Pin}
use Rattle.rtl_ir.specs.declared.module.Module.{Module}
use Rattle.rtl_ir.specs.declared.wire.Wire.{Wire}
use Rattle.net_model.proofs.Members.{In-cases, In-map}
use Rattle.net_model.specs.Lists.{In}
use Rattle.net_model.specs.Within.{Each}
use Rattle.pass_laws.proofs.Alone.{links_even}
use Rattle.pass_laws.proofs.Counting.{bits_of, count}
use Rattle.pass_laws.proofs.Faultless.{no_faults}
use Rattle.pass_laws.specs.Bits.{cells_bits, pin_bits}
use Rattle.proc_laws.proofs.RebuildFaults.{drives_count}
use Rattle.proc_laws.specs.Ready.{IsBitOf, IsReady, PinsHaveBits}
use Rattle.pass_laws.proofs.Once.{count_in, count_or, once_in, driver_found}

-- a bit that cells drive is one of a pin
pub cell_bit : (ports : Ports) (cs : List Cell) (b : WireBit) → In b (cells_bits ports cs) → (c : Cell) × In c cs × In b (pin_bits (cell_type ports c.kind_name) c.pins)
cell_bit ports [] b i = absurd i
cell_bit ports (c ∷ cs) b i =
    ⊎_elim (λ l. (c, inl refl, l)) (λ k. let z = cell_bit ports cs b k in (z.0, inr z.1, z.2)) (In-cases b (pin_bits (cell_type ports c.kind_name) c.pins) (cells_bits ports cs) i)

pub wire_bit : (sig : List SigBit) (b : WireBit) → In b (wire_bits sig) → In (OnWire b) sig
wire_bit [] b i = absurd i
wire_bit (Fixed c ∷ sig) b i = inr (wire_bit sig b i)
wire_bit (OnWire d ∷ sig) b (inl e) = inl (ap OnWire e)
wire_bit (OnWire d ∷ sig) b (inr i) = inr (wire_bit sig b i)

pub pin_bit : (type : CellType) (pins : List Pin) (b : WireBit) → In b (pin_bits type pins) → (pin : Pin) × In pin pins × In (OnWire b) pin.sig
pin_bit type [] b i = absurd i
pin_bit type (p ∷ pins) b i =
    ⊎_elim (λ l. by (drives_pin type p.name) l) (λ k. let z = pin_bit type pins b k in (z.0, inr z.1, z.2)) (In-cases b (if drives_pin type p.name then wire_bits p.sig else []) (pin_bits type pins) i)
  where
    by : (t : Bool) → In b (if t then wire_bits p.sig else []) → (pin : Pin) × In pin (p ∷ pins) × In (OnWire b) pin.sig
    by true j = (p, inl refl, wire_bit p.sig b j)
    by false j = absurd j

module _ (ports : Ports) (m : Module) (ready : IsReady with_processes ports m) where
  -- each bit that a wire has is driven once at most
  pub driven_once : (b : WireBit) → IsBitOf m.wires (OnWire b) → drive_count (drives_of ports m) b ≤ 1
  driven_once b h = by (slice_get m.wires b.wire) refl h
    where
      by : (o : Option Wire) → slice_get m.wires b.wire ≡ o → IsSomeAnd o (λ w. b.at < w.width) → drive_count (drives_of ports m) b ≤ 1
      by None e k = absurd k
      by (Some w) e k =
          let z : 0 + b.wire ≡ b.wire = omega arith in
          subst (λ n. drive_count (drives_of ports m) (record { wire = n; at = b.at }) ≤ 1) z (once_in m.id (drives_of ports m) 0 m.wires b.wire w (no_faults with_processes ports m ready.faultless).bits e b.at k)

  -- and each bit of a pin once by the cells
  pub cells_once : Each (PinsHaveBits m.wires) m.cells → (b : WireBit) → count b (cells_bits ports m.cells) ≤ 1
  cells_once pins b = ⊎_elim (λ e. omega (arith, e)) some (count_or b (cells_bits ports m.cells))
    where
      some : In b (cells_bits ports m.cells) → count b (cells_bits ports m.cells) ≤ 1
      some i =
          let c = cell_bit ports m.cells b i in
          let pin = pin_bit (cell_type ports c.0.kind_name) c.0.pins b c.2 in
          omega (arith, driven_once b (pins c.0 c.1 pin.0 pin.1 (OnWire b) pin.2), drives_count ports m (links_even m.id 1 m.links (no_faults with_processes ports m ready.faultless).links) b)

-- what drives a bit first among several
pub driver_more : (ds es : List Drive) (b : WireBit) (s : Source) → driver_in ds b ≡ Some s → driver_in (ds ++ es) b ≡ Some s
driver_more [] es b s e = absurd (cc)
driver_more (d ∷ ds) es b s e = by (same_bit d.bit b) e (driver_more ds es b s)
  where
    by : (t : Bool) → option_map (λ (x : Drive). x.source) (cond t (Some d) (find (λ (x : Drive). same_bit x.bit b) ds)) ≡ Some s → (driver_in ds b ≡ Some s → driver_in (ds ++ es) b ≡ Some s) → option_map (λ (x : Drive). x.source) (cond t (Some d) (find (λ (x : Drive). same_bit x.bit b) (ds ++ es))) ≡ Some s
    by true f later = f
    by false f later = later f

pub driver_less : (ds es : List Drive) (b : WireBit) → driver_in ds b ≡ None → driver_in (ds ++ es) b ≡ driver_in es b
driver_less [] es b e = refl
driver_less (d ∷ ds) es b e = by (same_bit d.bit b) e (driver_less ds es b)
  where
    by : (t : Bool) → option_map (λ (x : Drive). x.source) (cond t (Some d) (find (λ (x : Drive). same_bit x.bit b) ds)) ≡ None → (driver_in ds b ≡ None → driver_in (ds ++ es) b ≡ driver_in es b) → option_map (λ (x : Drive). x.source) (cond t (Some d) (find (λ (x : Drive). same_bit x.bit b) (ds ++ es))) ≡ driver_in es b
    by true f later = absurd (cc)
    by false f later = later f

pub driver_none : (ds : List Drive) (b : WireBit) → count b (bits_of ds) ≡ 0 → driver_in ds b ≡ None
driver_none ds b e = by (driver_in ds b) refl
  where
    by : (o : Option Source) → driver_in ds b ≡ o → o ≡ None
    by None f = refl
    by (Some s) f = absurd (omega (arith, e, count_in b (bits_of ds) (In-map (λ (d : Drive). d.bit) (record { bit = b; source = s }) ds (driver_found ds b s f))))
