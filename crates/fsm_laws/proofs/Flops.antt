-- What the flip-flop of a state gives, before and with the code.
use Rattle.std.proofs.Common.{◌≡◌, ◌∙◌, ℕ, Bool, true, false, List, refl, ap}
use Rattle.std.specs.Prelude.{◌==◌, slice_index_or, if◌then◌else◌}
use Rattle.cell_gate.specs.Control.{active_of, edge_of, was_of}
use Rattle.cell_types.specs.Given.{value_in}
use Rattle.cell_types.specs.Levels.{level_in}
use Rattle.cell_types.specs.declared.kind.CellKind.TheVariants.{Storage}
use Rattle.cell_types.specs.declared.level.Level.{Level}
use Rattle.cell_types.specs.declared.level.Level.TheVariants.{Low, High}
use Rattle.cell_types.specs.declared.param_name.ParamName.TheVariants.{ArstPolarity, ArstValue, ClkPolarity}
use Rattle.cell_types.specs.declared.pin_name.PinName.TheVariants.{Arst, Clk, D}
use Rattle.cell_types.specs.declared.storage.StorageKind.TheVariants.{Adff, Dff}
use Rattle.rtl_bits.proofs.Tables.{and_of_mono, not_of_mono, seen_of_mono}
use Rattle.rtl_bits.specs.Knowledge.{Below}
use Rattle.rtl_bits.specs.Numbers.{number_of}
use Rattle.rtl_bits.specs.Tables.{mux_of}
use Rattle.rtl_bits.specs.declared.bit.Bit.{Bit}
use Rattle.rtl_bits.specs.declared.bit.Bit.TheVariants.{X}
use Rattle.rtl_sig.specs.declared.sig.SigBit.{SigBit}
use Rattle.rtl_sig.specs.declared.sig.WireBit.{WireBit}
use Rattle.rtl_ir.specs.Constants.{low_bits}
use Rattle.rtl_ir.specs.Flat.Cell.{cell_shape}
use Rattle.rtl_ir.specs.Flat.Place.{Path}
use Rattle.rtl_ir.specs.Flat.Point.{bit_place, point_at, points}
use Rattle.rtl_ir.specs.Parameters.{given_params}
use Rattle.rtl_ir.specs.declared.cell.Cell.{Cell}
use Rattle.rtl_ir.specs.declared.wire.Wire.{Wire}
use Rattle.net_model.specs.Fsm.Find.{at_pin}
use Rattle.net_model.specs.Proc.Sync.{polarity_of}
use Rattle.net_model.specs.declared.order.Order.{Order}
use Rattle.net_model.specs.declared.order.Order.TheVariants.{Together, Released}
use Rattle.net_model.specs.Order.{Manner}
use Rattle.net_model.specs.Run.{Step}
use Rattle.net_model.specs.Valuation.{Valuation, read}
use Rattle.net_model.specs.Value.{value_of}
use Rattle.net_model.proofs.Released.{no_control}
use Rattle.pass_laws.proofs.Driving.{own_driver}
use Rattle.fsm_laws.specs.Codes.{OneHot, apart}
use Rattle.fsm_laws.specs.Flops.{adff_like, dff_like}
use Rattle.fsm_laws.proofs.Coded.{mux_apart, mux_hot}

-- an edge to a level, of a bit in the step before and now
abbrev pub edge_to : Level → Bool → Bit → Bit → Bit
edge_to level first before now = edge_of (active_of level (was_of first before)) (active_of level now)

-- what a register takes
abbrev pub registered : Bit → Bit → Bit → Bit
registered edge d q = mux_of q d edge

-- with a reset
abbrev pub reset_to : Bit → Bit → Bit → Bit
reset_to control value other = mux_of other value control

active_mono : (level : Level) (a b : Bit) → Below a b → Below (active_of level a) (active_of level b)
active_mono High a b h = seen_of_mono a b h
active_mono Low a b h = not_of_mono a b h

was_mono : (first : Bool) (a b : Bit) → Below a b → Below (was_of first a) (was_of first b)
was_mono true a b h = tt
was_mono false a b h = h

pub edge_mono : (level : Level) (first : Bool) (a b c d : Bit) → Below a b → Below c d → Below (edge_to level first a c) (edge_to level first b d)
edge_mono level first a b c d h k =
    and_of_mono _ _ _ _ (not_of_mono _ _ (active_mono level (was_of first a) (was_of first b) (was_mono first a b h))) (active_mono level c d k)

pub control_mono : (level : Level) (a b : Bit) → Below a b → Below (active_of level a) (active_of level b)
control_mono = active_mono

-- what a register takes is apart where its data and its old value are
pub registered_apart : (edge other d q e x y : Bit) → Below edge other → Below (apart d e) x → Below (apart q e) y → Below (apart (registered edge d q) e) (registered other x y)
registered_apart edge other d q e x y l h k = mux_apart q d edge e y x other k h l

pub reset_apart : (control other value d e x y : Bit) → Below control other → Below (apart value e) x → Below (apart d e) y → Below (apart (reset_to control value d) e) (reset_to other x y)
reset_apart control other value d e x y l h k = mux_apart d value control e y x other k h l

pub registered_hot : (count : ℕ) (edge : Bit) (d q : ℕ → Bit) → OneHot count d → OneHot count q → OneHot count (λ i. registered edge (d i) (q i))
registered_hot count edge d q h k = mux_hot count q d edge k h

pub reset_hot : (count : ℕ) (control : Bit) (value d : ℕ → Bit) → OneHot count value → OneHot count d → OneHot count (λ i. reset_to control (value i) (d i))
reset_hot count control value d h k = mux_hot count d value control k h

-- whether a control was active in the step before
abbrev pub was_active : Level → Bool → Bit → Bit
was_active level first before = active_of level (was_of first before)

-- the data that a register takes at its clock, of whether its reset was active: in the second order its value under the reset
-- as it was
abbrev pub taken_in : Order → Bit → Bit → Bit → Bit
taken_in Together was value d = d
taken_in Released was value d = reset_to was value d

pub was_active_mono : (level : Level) (first : Bool) (a b : Bit) → Below a b → Below (was_active level first a) (was_active level first b)
was_active_mono level first a b h = active_mono level (was_of first a) (was_of first b) (was_mono first a b h)

pub taken_apart : (order : Order) (was other value d e x y : Bit) → Below was other → Below (apart value e) x → Below (apart d e) y → Below (apart (taken_in order was value d) e) (taken_in order other x y)
taken_apart Together was other value d e x y l h k = k
taken_apart Released was other value d e x y l h k = reset_apart was other value d e x y l h k

pub taken_hot : (order : Order) (count : ℕ) (was : Bit) (value d : ℕ → Bit) → OneHot count value → OneHot count d → OneHot count (λ i. taken_in order was (value i) (d i))
taken_hot Together count was value d h k = k
taken_hot Released count was value d h k = reset_hot count was value d h k

-- the parameter of a level says it
pub level_said : (level : Level) → (if number_of (low_bits (polarity_of level) 32) == 0 then Low else High) ≡ level
unfolding low_bits
level_said Low = refl
level_said High = refl

module _ (start : SigBit → Bit) (p : Path) (wires : List Wire) where
  abbrev pub point_of : List SigBit → ℕ → Valuation → Bit
  point_of signal k w = read w (point_at (points p wires signal) k)

  -- any flip-flop by its parameters and pins
  pub dff_takes : (c : Cell) (k : ℕ) (b : WireBit) (before : Valuation) (inputs : List Bit) (manner : Manner) (w : Valuation)
      → value_of (own_driver start p wires c (Storage Dff) k b) (Step before inputs manner) w
      ≡ registered (edge_to (level_in (given_params c.params) ClkPolarity) manner.first (point_of (at_pin c Clk) 0 before) (point_of (at_pin c Clk) 0 w)) (point_of (at_pin c D) k before) (before (bit_place p wires b))
  unfolding cell_shape
  dff_takes c k b before inputs manner w = no_control manner.order Dff _ _ _ _ manner.first tt

  pub adff_takes : (c : Cell) (k : ℕ) (b : WireBit) (before : Valuation) (inputs : List Bit) (manner : Manner) (w : Valuation)
      → value_of (own_driver start p wires c (Storage Adff) k b) (Step before inputs manner) w
      ≡ reset_to (active_of (level_in (given_params c.params) ArstPolarity) (point_of (at_pin c Arst) 0 w)) (slice_index_or (value_in (given_params c.params) ArstValue) k X)
      (registered (edge_to (level_in (given_params c.params) ClkPolarity) manner.first (point_of (at_pin c Clk) 0 before) (point_of (at_pin c Clk) 0 w))
      (taken_in manner.order (was_active (level_in (given_params c.params) ArstPolarity) manner.first (point_of (at_pin c Arst) 0 before)) (slice_index_or (value_in (given_params c.params) ArstValue) k X) (point_of (at_pin c D) k before))
      (before (bit_place p wires b)))
  unfolding cell_shape
  adff_takes c k b before inputs manner w =
      by manner.order
    where
      by : (o : Order) → value_of (own_driver start p wires c (Storage Adff) k b) (Step before inputs (record { first = manner.first; order = o })) w
          ≡ reset_to (active_of (level_in (given_params c.params) ArstPolarity) (point_of (at_pin c Arst) 0 w)) (slice_index_or (value_in (given_params c.params) ArstValue) k X)
          (registered (edge_to (level_in (given_params c.params) ClkPolarity) manner.first (point_of (at_pin c Clk) 0 before) (point_of (at_pin c Clk) 0 w))
          (taken_in o (was_active (level_in (given_params c.params) ArstPolarity) manner.first (point_of (at_pin c Arst) 0 before)) (slice_index_or (value_in (given_params c.params) ArstValue) k X) (point_of (at_pin c D) k before))
          (before (bit_place p wires b)))
      by Together = refl
      by Released = refl

  -- and one that is made
  pub dff_like_takes : (c : Cell) (width : ℕ) (level : Level) (clock d q : List SigBit) (k : ℕ) (b : WireBit) (before : Valuation) (inputs : List Bit) (manner : Manner) (w : Valuation)
      → value_of (own_driver start p wires (dff_like c width level clock d q) (Storage Dff) k b) (Step before inputs manner) w
      ≡ registered (edge_to level manner.first (point_of clock 0 before) (point_of clock 0 w)) (point_of d k before) (before (bit_place p wires b))
  unfolding cell_shape
  dff_like_takes c width level clock d q k b before inputs manner w =
      no_control manner.order Dff _ _ _ _ manner.first tt
      ∙ ap (λ l. registered (edge_to l manner.first (point_of clock 0 before) (point_of clock 0 w)) (point_of d k before) (before (bit_place p wires b))) (level_said level)

  pub adff_like_takes : (c : Cell) (width : ℕ) (level reset_level : Level) (value : List Bit) (clock reset d q : List SigBit) (k : ℕ) (b : WireBit) (before : Valuation) (inputs : List Bit) (manner : Manner) (w : Valuation)
      → value_of (own_driver start p wires (adff_like c width level reset_level value clock reset d q) (Storage Adff) k b) (Step before inputs manner) w
      ≡ reset_to (active_of reset_level (point_of reset 0 w)) (slice_index_or value k X) (registered (edge_to level manner.first (point_of clock 0 before) (point_of clock 0 w))
      (taken_in manner.order (was_active reset_level manner.first (point_of reset 0 before)) (slice_index_or value k X) (point_of d k before)) (before (bit_place p wires b)))
  unfolding cell_shape
  adff_like_takes c width level reset_level value clock reset d q k b before inputs manner w =
      by manner.order
    where
      by : (o : Order) → value_of (own_driver start p wires (adff_like c width level reset_level value clock reset d q) (Storage Adff) k b) (Step before inputs (record { first = manner.first; order = o })) w
          ≡ reset_to (active_of reset_level (point_of reset 0 w)) (slice_index_or value k X) (registered (edge_to level manner.first (point_of clock 0 before) (point_of clock 0 w))
          (taken_in o (was_active reset_level manner.first (point_of reset 0 before)) (slice_index_or value k X) (point_of d k before)) (before (bit_place p wires b)))
      by Together =
          λ i. reset_to (active_of (level_said reset_level i) (point_of reset 0 w)) (slice_index_or value k X) (registered (edge_to (level_said level i) manner.first (point_of clock 0 before) (point_of clock 0 w)) (point_of d k before) (before (bit_place p wires b)))
      by Released =
          λ i. reset_to (active_of (level_said reset_level i) (point_of reset 0 w)) (slice_index_or value k X) (registered (edge_to (level_said level i) manner.first (point_of clock 0 before) (point_of clock 0 w))
          (reset_to (was_active (level_said reset_level i) manner.first (point_of reset 0 before)) (slice_index_or value k X) (point_of d k before)) (before (bit_place p wires b)))
