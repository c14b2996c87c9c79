-- The storage cells that rules stand for, one bit more.
use Rattle.std.proofs.Common.{◌≡◌, ℕ, ◌+◌, ◌<◌, List, [], ◌∷◌, ◌++◌, length, get_or, take, map, Some, slice_get, refl, sym, ◌∙◌, ap, subst}
use Rattle.std.proofs.lemmas.List.{map-append, take_more}
use Rattle.std.proofs.lemmas.Option.{get_or_from_slice_get, slice_get_within}
use Rattle.std.specs.List.{AllByRecursion}
use Rattle.std.specs.Global.{Box}
use Rattle.rtl_bits.specs.declared.bit.Bit.{Bit}
use Rattle.rtl_sig.specs.declared.sig.SigBit.{SigBit}
use Rattle.rtl_sig.specs.declared.sig.SigBit.TheVariants.{Wire as OnWire}
use Rattle.rtl_ir.specs.declared.wire.Wire.{Wire}
use Rattle.rtl_ir.specs.Flat.Driver.{StorePoints, Stored}
use Rattle.rtl_ir.specs.Flat.Place.{Path, Place}
use Rattle.rtl_ir.specs.Flat.Point.{bit_place, point}
use Rattle.rtl_ir.specs.Flat.Process.{rule_shape}
use Rattle.rtl_ir.specs.declared.follow.Join.{Join}
use Rattle.flat_net.specs.declared.net.Part.TheVariants as part
use Rattle.flat_net.specs.declared.net.Point.{Point}
use Rattle.flat_net.specs.declared.net.Storage.{Storage}
use Rattle.flat_net.specs.declared.net.StoreBit.{StoreBit}
use Rattle.flat_net.specs.declared.registers.Register.{Register}
use Rattle.flat_net.specs.Known.{Keeps}
use Rattle.flat_net.specs.Parts.{part_rows, store_row}
use Rattle.flat_net.specs.Points.{place_at}
use Rattle.flat_net.specs.Reads.{ArePins, IsPoint}
use Rattle.flat_net.specs.Registers.{AreRegisters, register_row}
use Rattle.flat_net.specs.Within.{IsPartWithin, IsStoreWithin}
use Rattle.flat_net.proofs.Reading.{IsPoint-kept, all_end, bits-kept, bits-within, pins-kept, pins-within}

pub ArePins-kept : (ps qs : List Place) (r : Register) (they : StorePoints) → Keeps ps qs → ArePins ps r.pins they → ArePins qs r.pins they
ArePins-kept ps qs r they keeps h = record { are = pins-kept ps qs keeps r.pins h.within ∙ h.are; within = pins-within ps qs keeps r.pins h.within }

-- a bit with its source
pub register_made : (ps qs rs : List Place) (start : SigBit → Bit) (p : Path) (wires : List Wire) (r : Register) (they : StorePoints) (j : Join) (d : Point) (number : ℕ) (begin : Bit) → Keeps ps rs → Keeps qs rs
    → ArePins ps r.pins they → IsPoint qs d (point p wires j.source) → slice_get rs number ≡ Some (bit_place p wires j.bit) → begin ≡ start (OnWire j.bit)
    → AreRegisters rs start p wires r they (record { number = number; at = 0; start = begin; pins = record r.pins { d = d } } ∷ []) (j ∷ [])
register_made ps qs rs start p wires r they j d number begin k m pins source there is =
    let read = ArePins-kept ps rs r they k pins in
    let from = IsPoint-kept qs rs m d (point p wires j.source) source in
    let place : place_at rs number ≡ bit_place p wires j.bit = get_or_from_slice_get rs number _ _ there in
    record {
      are = λ i. record {
        place = place i;
        driver = Stored (is i) (rule_shape r.kind r.levels) 0 (record (read.are i) { d = from.is i }) (place i);
      } ∷ [];
      within = (
        (
          slice_get_within rs number _ there,
          record {
            clk = read.within.clk;
            en = read.within.en;
            arst = read.within.arst;
            srst = read.within.srst;
            aload = read.within.aload;
            ad = read.within.ad;
            set = read.within.set;
            clr = read.within.clr;
            d = from.within;
          },
        ),
        tt,
      );
    }

module _ (start : SigBit → Bit) (p : Path) (wires : List Wire) (r : Register) (they : StorePoints) where
  pub AreRegisters-none : (ps : List Place) → AreRegisters ps start p wires r they [] []
  AreRegisters-none ps = record { are = refl; within = tt }

  pub AreRegisters-next : (ps qs : List Place) (bits new : List StoreBit) (b : StoreBit) (lines : List Join) (i : ℕ) (d : Join) → Keeps ps qs → i < length lines
      → AreRegisters ps start p wires r they bits (take i lines) → AreRegisters qs start p wires r they (b ∷ []) (get_or lines i d ∷ []) → new ≡ bits ++ b ∷ []
      → AreRegisters qs start p wires r they new (take (i + 1) lines)
  AreRegisters-next ps qs bits new b lines i d keeps lt h k put =
      let shape = rule_shape r.kind r.levels in
      rw (put, take_more lines i d lt) (record {
        are =
            map-append (store_row qs shape) bits (b ∷ [])
            ∙ (λ x. (bits-kept ps qs keeps shape bits h.within ∙ h.are) x ++ k.are x)
            ∙ sym (map-append (register_row start p wires r they) (take i lines) (get_or lines i d ∷ []));
        within = all_end (IsStoreWithin (length qs)) bits b (bits-within ps qs keeps bits h.within) k.within.0;
      })

  -- the part of a register
  pub register_part : (ps : List Place) (box : Box Storage) (c : Storage) (js : List Join) → box.value ≡ c → c.shape ≡ rule_shape r.kind r.levels → AreRegisters ps start p wires r they c.bits js
      → (part_rows ps (part.Storage box) ≡ map (register_row start p wires r they) js) × IsPartWithin (length ps) (part.Storage box)
  register_part ps box c js e f h = (
    ap (λ (c : Storage). map (store_row ps c.shape) c.bits) e ∙ ap (λ shape. map (store_row ps shape) c.bits) f ∙ h.are,
    subst (λ (c : Storage). AllByRecursion (IsStoreWithin (length ps)) c.bits) (sym e) h.within,
  )
