-- A module at a path, at a time and over a valuation, and what is met there.
use Rattle.std.proofs.Common.{ℕ, zero, suc, ◌+◌, List, [], ◌∷◌, ◌++◌, length, Some, inl, inr, refl, subst, arith, ◌≡◌, ap}
use Rattle.std.specs.Prelude.{map, slice_get, slice_index_or}
use Rattle.std.specs.List.{range_with_len}
use Rattle.rtl_bits.specs.Knowledge.{Below}
use Rattle.rtl_bits.specs.declared.bit.Bit.{Bit}
use Rattle.rtl_bits.specs.declared.bit.Bit.TheVariants.{X}
use Rattle.rtl_sig.specs.declared.sig.SigBit.{SigBit}
use Rattle.rtl_sig.specs.declared.sig.SigBit.TheVariants.{Wire as OnWire}
use Rattle.rtl_sig.specs.declared.sig.WireBit.{WireBit}
use Rattle.rtl_ir.specs.Flat.Cell.{Ports, cell_kind, cell_rows}
use Rattle.rtl_ir.specs.Flat.Driver.{Driven}
use Rattle.rtl_ir.specs.Flat.Place.{Path, Place}
use Rattle.rtl_ir.specs.Flat.Point.{point, points}
use Rattle.rtl_ir.specs.declared.cell.Cell.{Cell}
use Rattle.rtl_ir.specs.declared.wire.Wire.{Wire}
use Rattle.net_model.proofs.Members.{In-left, In-right}
use Rattle.net_model.specs.Lists.{In}
use Rattle.net_model.specs.Refine.{IsMet}
use Rattle.net_model.specs.Run.{Time}
use Rattle.net_model.specs.Valuation.{Valuation, read, read_all}
use Rattle.net_model.specs.Within.{Each}

-- where, when, and what bits have
pub record Moment : Type 0 where
  pub start : SigBit → Bit
  pub ports : Ports
  pub path : Path
  pub wires : List Wire
  pub time : Time Place
  pub has : Valuation

-- what a bit of a signal has
abbrev pub seen : Moment → SigBit → Bit
seen m s = read m.has (point m.path m.wires s)

-- what the bits of a signal have
abbrev pub seen_all : Moment → List SigBit → List Bit
seen_all m signal = read_all m.has (points m.path m.wires signal)

-- the rows of a cell are met
abbrev pub IsCellMet : Moment → Cell → Type 0
IsCellMet m c =
    (d : Driven) → In d (cell_rows m.start m.ports m.path m.wires c (cell_kind c)) → IsMet d m.time m.has

abbrev pub AreMet : Moment → List Cell → Type 0
AreMet m cells = Each (IsCellMet m) cells

-- each bit of a run has a place of a signal of the same length, which has no less than a value of the bit
abbrev pub Stands : Moment → List WireBit → List SigBit → (WireBit → Bit) → Type 0
Stands m [] [] value = Unit {0}
Stands m [] (s ∷ signal) value = ⊥
Stands m (b ∷ run) [] value = ⊥
Stands m (b ∷ run) (s ∷ signal) value = Below (value b) (seen m s) × Stands m run signal value

module _ (m : Moment) where
  pub stands_long : (run : List WireBit) (signal : List SigBit) (value : WireBit → Bit) → Stands m run signal value → length signal ≡ length run
  stands_long [] [] value h = refl
  stands_long [] (s ∷ signal) value h = absurd h
  stands_long (b ∷ run) [] value h = absurd h
  stands_long (b ∷ run) (s ∷ signal) value h = ap suc (stands_long run signal value h.1)

  -- what is so of each bit of the run
  pub stands_map : (run : List WireBit) (signal : List SigBit) (f g : WireBit → Bit) → ((b : WireBit) → In b run → (r : Bit) → Below (f b) r → Below (g b) r) → Stands m run signal f → Stands m run signal g
  stands_map [] [] f g h k = tt
  stands_map [] (s ∷ signal) f g h k = absurd k
  stands_map (b ∷ run) [] f g h k = absurd k
  stands_map (b ∷ run) (s ∷ signal) f g h k =
      (h b (inl refl) (seen m s) k.0, stands_map run signal f g (λ c i. h c (inr i)) k.1)

  pub stands_two : (run : List WireBit) (signal : List SigBit) (f g h : WireBit → Bit) → ((b : WireBit) (r : Bit) → Below (f b) r → Below (g b) r → Below (h b) r) → Stands m run signal f → Stands m run signal g → Stands m run signal h
  stands_two [] [] f g h k x y = tt
  stands_two [] (s ∷ signal) f g h k x y = absurd x
  stands_two (b ∷ run) [] f g h k x y = absurd x
  stands_two (b ∷ run) (s ∷ signal) f g h k x y = (k b (seen m s) x.0 y.0, stands_two run signal f g h k x.1 y.1)

  -- by places
  pub stands_at : (run : List WireBit) (signal : List SigBit) (value : WireBit → Bit) → Stands m run signal value → (k : ℕ) (b : WireBit) → slice_get run k ≡ Some b → Below (value b) (slice_index_or (seen_all m signal) k X)
  stands_at [] signal value h k b e = absurd (cc)
  stands_at (c ∷ run) [] value h k b e = absurd h
  stands_at (c ∷ run) (s ∷ signal) value h zero b e =
      let same : c ≡ b = cc in
      subst (λ z. Below (value z) (seen m s)) same h.0
  stands_at (c ∷ run) (s ∷ signal) value h (suc k) b e = stands_at run signal value h.1 k b e

  -- a wire stands for a run from a place on, where each of its bits does
  pub wire_stands : (wire from : ℕ) (run : List WireBit) (value : WireBit → Bit) → ((k : ℕ) (b : WireBit) → slice_get run k ≡ Some b → Below (value b) (seen m (OnWire (record { wire = wire; at = from + k })))) → Stands m run (map OnWire (map (λ at. record { wire = wire; at = at }) (range_with_len from (length run)))) value
  wire_stands wire from [] value h = tt
  wire_stands wire from (b ∷ run) value h = (
    (let here : from + 0 ≡ from = omega arith in
        subst (λ z. Below (value b) (seen m (OnWire (record { wire = wire; at = z })))) here (h 0 b refl)),
    wire_stands wire (from + 1) run value (λ k c e.
        let later : from + suc k ≡ (from + 1) + k = omega arith in
        subst (λ z. Below (value c) (seen m (OnWire (record { wire = wire; at = z })))) later (h (suc k) c e)),
  )

  pub met_left : (cs ds : List Cell) → AreMet m (cs ++ ds) → AreMet m cs
  met_left cs ds h c i = h c (In-left c cs ds i)

  -- a cell that was added last
  pub met_last : (cs : List Cell) (c : Cell) → AreMet m (cs ++ c ∷ []) → IsCellMet m c
  met_last cs c h = h c (In-right c cs (c ∷ []) (inl refl))
