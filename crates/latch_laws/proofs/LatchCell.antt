-- What a latch gives, over a valuation that meets its row.
use Rattle.std.proofs.Common.{◌≡◌, ◌<◌, ℕ, List, [], ◌∷◌, refl, sym, ◌∙◌, ap, subst, arith}
use Rattle.std.specs.Prelude.{◌==◌, codes, if◌then◌else◌}
use Rattle.std.proofs.Math.Nat.{mod-eq_of_lt}
use Rattle.cell_types.specs.declared.kind.CellKind.TheVariants.{Storage}
use Rattle.cell_types.specs.declared.level.Level.{Level}
use Rattle.cell_types.specs.declared.level.Level.TheVariants.{Low, High}
use Rattle.cell_types.specs.declared.storage.StorageKind.TheVariants.{Dlatch}
use Rattle.cell_gate.specs.Control.{active_of}
use Rattle.rtl_bits.proofs.NumberLemmas.{number_of_bits_of}
use Rattle.rtl_bits.proofs.Orders.{Below_refl, Below_trans}
use Rattle.rtl_bits.proofs.Tables.{seen_of_mono}
use Rattle.rtl_bits.specs.Knowledge.{Below}
use Rattle.rtl_bits.specs.Numbers.{number_of}
use Rattle.rtl_bits.specs.Tables.{mux_of, not_of, seen_of}
use Rattle.rtl_bits.specs.declared.bit.Bit.{Bit}
use Rattle.rtl_bits.specs.declared.bit.Bit.TheVariants.{S0, S1}
use Rattle.rtl_ir.specs.Build.{integer_param, pin_of}
use Rattle.rtl_ir.specs.Constants.{low_bits}
use Rattle.rtl_ir.specs.Flat.Cell.{cell_kind, cell_shape}
use Rattle.rtl_ir.specs.Flat.Driver.{Driver, Held}
use Rattle.rtl_ir.specs.Flat.Pick.{Pick}
use Rattle.rtl_ir.specs.Flat.Place.{Place}
use Rattle.rtl_ir.specs.Flat.Point.{bit_place, point}
use Rattle.rtl_ir.specs.declared.cell.Cell.{Cell}
use Rattle.rtl_sig.specs.declared.sig.SigBit.{SigBit}
use Rattle.rtl_sig.specs.declared.sig.SigBit.TheVariants.{Wire as OnWire}
use Rattle.rtl_sig.specs.declared.sig.WireBit.{WireBit}
use Rattle.net_model.specs.Picked.{held_of, holds_of}
use Rattle.net_model.specs.Run.{Start, Step, Time}
use Rattle.net_model.specs.Value.{value_of}
use Rattle.net_model.specs.declared.order.Order.{Order}
use Rattle.net_model.specs.declared.order.Order.TheVariants.{Together, Released}
use Rattle.pass_laws.proofs.Driving.{own_driver, own_in, row_of}
use Rattle.build_laws.proofs.Moments.{IsCellMet, Moment, seen}

-- a bit that holds where a latch is closed, and has no more than its data where it is open
held_latched : (holds old new enable data' : Bit) → Below (not_of holds) enable → (holds ≡ S0 → Below new data') → Below (held_of holds old new) (mux_of old data' (seen_of enable))
held_latched S1 old new enable data' h k = subst (λ z. Below (seen_of old) (mux_of old data' (seen_of z))) (sym h) (Below_refl (seen_of old))
held_latched S0 old new enable data' h k = subst (λ z. Below (seen_of new) (mux_of old data' (seen_of z))) (sym h) (seen_of_mono new data' (k refl))
held_latched holds old new enable data' h k = tt

one_number : number_of (low_bits 1 32) ≡ 1
unfolding low_bits
one_number = number_of_bits_of 1 32 ∙ (let under : 1 < 4294967296 = omega arith in mod-eq_of_lt under)

-- the latch of a bit
abbrev pub latch_made : List ℕ → WireBit → SigBit → SigBit → Cell
latch_made name q new enable = record {
  kind_name = codes "$dlatch";
  name = name;
  params = integer_param (codes "\\WIDTH") 1 ∷ integer_param (codes "\\EN_POLARITY") 1 ∷ [];
  pins = pin_of (codes "\\EN") (enable ∷ []) ∷ pin_of (codes "\\D") (new ∷ []) ∷ pin_of (codes "\\Q") (OnWire q ∷ []) ∷ [];
  attributes = [];
}

module _ (m : Moment) where
  -- its row
  abbrev latch_driver : List ℕ → WireBit → SigBit → SigBit → Driver
  latch_driver name q new enable = own_driver m.start m.path m.wires (latch_made name q new enable) (Storage Dlatch) 0 q

  latch_row : (name : List ℕ) (q : WireBit) (new enable : SigBit) → IsCellMet m (latch_made name q new enable) → Below (value_of (latch_driver name q new enable) m.time m.has) (seen m (OnWire q))
  unfolding cell_kind
  latch_row name q new enable met =
      met (row_of m.path m.wires q (latch_driver name q new enable)) (own_in m.path m.wires m.start (latch_made name q new enable) (Storage Dlatch) refl 0 q refl)

  -- what a bit that holds gives is below what its latch gives
  held_below : (name : List ℕ) (q : WireBit) (new enable source : SigBit) (tree : Pick) (t : Time Place) → Below (not_of (holds_of (bit_place m.path m.wires q) m.has tree)) (seen m enable) → (holds_of (bit_place m.path m.wires q) m.has tree ≡ S0 → Below (seen m source) (seen m new))
      → Below (value_of (Held (m.start (OnWire q)) (point m.path m.wires source) tree (bit_place m.path m.wires q)) t m.has) (value_of (latch_driver name q new enable) t m.has)
  unfolding cell_shape
  held_below name q new enable source tree Start h k = Below_refl (m.start (OnWire q))
  held_below name q new enable source tree (Step before inputs manner) h k = by manner.order
    where
      level : (if number_of (low_bits 1 32) == 0 then Low else High) ≡ High
      level = ap (λ n. if n == 0 then Low else High) one_number

      latched : Below (held_of (holds_of (bit_place m.path m.wires q) m.has tree) (before (bit_place m.path m.wires q)) (seen m source)) (mux_of (before (bit_place m.path m.wires q)) (seen m new) (active_of (if number_of (low_bits 1 32) == 0 then Low else High) (seen m enable)))
      latched =
          subst (λ (l : Level). Below (held_of (holds_of (bit_place m.path m.wires q) m.has tree) (before (bit_place m.path m.wires q)) (seen m source)) (mux_of (before (bit_place m.path m.wires q)) (seen m new) (active_of l (seen m enable)))) (sym level)
          (held_latched (holds_of (bit_place m.path m.wires q) m.has tree) (before (bit_place m.path m.wires q)) (seen m source) (seen m enable) (seen m new) h k)

      -- a latch has no clock, so both orders of time give the same
      by : (o : Order) → Below (value_of (Held (m.start (OnWire q)) (point m.path m.wires source) tree (bit_place m.path m.wires q)) (Step before inputs manner) m.has) (value_of (latch_driver name q new enable) (Step before inputs (record { first = manner.first; order = o })) m.has)
      by Together = latched
      by Released = latched

  pub held_met : (name : List ℕ) (q : WireBit) (new enable source : SigBit) (tree : Pick) → IsCellMet m (latch_made name q new enable) → Below (not_of (holds_of (bit_place m.path m.wires q) m.has tree)) (seen m enable) → (holds_of (bit_place m.path m.wires q) m.has tree ≡ S0 → Below (seen m source) (seen m new))
      → Below (value_of (Held (m.start (OnWire q)) (point m.path m.wires source) tree (bit_place m.path m.wires q)) m.time m.has) (seen m (OnWire q))
  held_met name q new enable source tree met h k =
      Below_trans _ _ _ (held_below name q new enable source tree m.time h k) (latch_row name q new enable met)
