-- What stands for a signal in the code is as wide as the code, and of the wires of the module and its fresh ones.
use Rattle.std.proofs.Common.{◌≡◌, ◌<◌, ◌≤◌, ℕ, zero, suc, ◌+◌, ◌*◌, Bool, true, false, cond, List, [], ◌∷◌, length, map, Option, Some, None, inl, inr, refl, ◌∙◌, ap, subst, arith, length-append, length-drop}
use Rattle.std.specs.Prelude.{drop, flat_map, replicate, slice_get}
use Rattle.std.specs.Option.{option_map_or}
use Rattle.rtl_bits.specs.declared.bit.Bit.{Bit}
use Rattle.rtl_bits.specs.Numbers.{number_of}
use Rattle.rtl_sig.specs.declared.sig.SigBit.{SigBit}
use Rattle.rtl_sig.specs.declared.sig.SigBit.TheVariants.{Fixed}
use Rattle.rtl_bits.specs.declared.bit.Bit.TheVariants.{X}
use Rattle.cell_types.specs.declared.pin_name.PinName.TheVariants.{Y}
use Rattle.rtl_ir.specs.Build.{whole}
use Rattle.rtl_ir.specs.Signals.{constant_of, same_signal}
use Rattle.rtl_ir.specs.declared.cell.Cell.{Cell}
use Rattle.rtl_ir.specs.declared.machine.Machine.{Machine}
use Rattle.rtl_ir.specs.declared.module.Module.{Module}
use Rattle.net_model.proofs.Ranges.{each_both, each_more, each_none}
use Rattle.net_model.specs.Fsm.Code.{Coding, Output, code_of, coded, output_code}
use Rattle.net_model.specs.Fsm.Find.{at_pin, is_state_constant, parts_of}
use Rattle.net_model.specs.Within.{BitIn, Each, SigIn}
use Rattle.build_laws.proofs.CellFits.{whole_length, whole_within}
use Rattle.fsm_laws.specs.Recoded.{machine_coding, outputs_made}

-- a signal so wide, on so many wires
pub record IsSignal (width count : ℕ) (signal : List SigBit) : Type 0 where
  pub wide : length signal ≡ width
  pub within : SigIn count signal

-- constants
pub constants : (count : ℕ) (bits : List Bit) → IsSignal (length bits) count (map Fixed bits)
constants count [] = record { wide = refl; within = each_none (BitIn count) }
constants count (b ∷ bits) =
    let later = constants count bits in
    record { wide = ap suc later.wide; within = each_more (BitIn count) (Fixed b) (map Fixed bits) tt later.within }

unknowns : (count n : ℕ) → IsSignal n count (replicate n (Fixed X))
unknowns count zero = record { wide = refl; within = each_none (BitIn count) }
unknowns count (suc n) =
    let later = unknowns count n in
    record { wide = ap suc later.wide; within = each_more (BitIn count) (Fixed X) (replicate n (Fixed X)) tt later.within }

pub code_length : (states : List (List Bit)) (n : ℕ) → length (code_of states n) ≡ length states
code_length [] n = refl
code_length (s ∷ states) n = ap suc (code_length states n)

-- the code and the fresh outputs are such signals
pub record IsCoding (count : ℕ) (c : Coding) : Type 0 where
  pub code : IsSignal (length c.states) count c.code
  pub outputs : Each (λ (o : Output). IsSignal (length c.states) count o.after) c.outputs

-- what each of these signals is, a fresh output that is found is
pub output_in : (P : List SigBit → Type 0) (outputs : List Output) → Each (λ (o : Output). P o.after) outputs → (signal s : List SigBit) → output_code outputs signal ≡ Some s → P s
output_in P [] h signal s e = absurd (cc)
output_in P (o ∷ outputs) h signal s e = by (output_in P outputs (λ x i. h x (inr i)) signal s) (same_signal o.before signal) e
  where
    by : (output_code outputs signal ≡ Some s → P s) → (t : Bool) → cond t (Some o.after) (output_code outputs signal) ≡ Some s → P s
    by later true f = let same : o.after ≡ s = cc in subst P same (h o (inl refl))
    by later false f = later f

pub coded_is : (count : ℕ) (c : Coding) → IsCoding count c → (signal : List SigBit) → IsSignal (length c.states) count (coded c signal)
coded_is count c h signal = by (same_signal c.state signal) (is_state_constant signal) (output_code c.outputs signal) refl
  where
    by : (t u : Bool) (o : Option (List SigBit)) → output_code c.outputs signal ≡ o
        → IsSignal (length c.states) count (cond t c.code (cond u (map Fixed (code_of c.states (number_of (map constant_of signal)))) (option_map_or (λ (s : List SigBit). s) o (replicate (length c.states) (Fixed X)))))
    by true u o e = h.code
    by false true o e =
        let bits : List Bit = code_of c.states (number_of (map constant_of signal)) in
        let k = constants count bits in
        record { wide = k.wide ∙ code_length c.states (number_of (map constant_of signal)); within = k.within }
    by false false None e = unknowns count (length c.states)
    by false false (Some s) e = output_in (IsSignal (length c.states) count) c.outputs h.outputs signal s e

-- the fresh outputs
pub outputs_are : (width count : ℕ) (cells : List Cell) (wire : ℕ) (places : List ℕ) → wire + length places ≤ count → Each (λ (o : Output). IsSignal width count o.after) (outputs_made width cells wire places)
outputs_are width count cells wire [] le = each_none (λ (o : Output). IsSignal width count o.after)
outputs_are width count cells wire (at ∷ places) le =
    each_both (λ (o : Output). IsSignal width count o.after) (option_map_or (λ (c : Cell). record { before = at_pin c Y; after = whole wire width } ∷ []) (slice_get cells at) []) (outputs_made width cells (wire + 1) places)
    (here (slice_get cells at)) (outputs_are width count cells (wire + 1) places (omega (arith, le)))
  where
    here : (o : Option Cell) → Each (λ (o : Output). IsSignal width count o.after) (option_map_or (λ (c : Cell). record { before = at_pin c Y; after = whole wire width } ∷ []) o [])
    here None = each_none (λ (o : Output). IsSignal width count o.after)
    here (Some c) =
        each_more (λ (o : Output). IsSignal width count o.after) (record { before = at_pin c Y; after = whole wire width }) [] (record { wide = whole_length wire width; within = whole_within count wire width (omega (arith, le)) }) (each_none (λ (o : Output). IsSignal width count o.after))

pub coding_is : (m : Module) (machine : Machine) (state : List SigBit) (count : ℕ) → length m.wires + 1 + length machine.muxes ≤ count → IsCoding count (machine_coding m machine state)
coding_is m machine state count le = record {
  code = record { wide = whole_length (length m.wires) (length machine.states); within = whole_within count (length m.wires) (length machine.states) (omega (arith, le)) };
  outputs = outputs_are (length machine.states) count m.cells (length m.wires + 1) machine.muxes le;
}

-- signals behind one another, each so wide
pub joined_is : (width count : ℕ) (f : List SigBit → List SigBit) → ((s : List SigBit) → IsSignal width count (f s)) → (parts : List (List SigBit)) → IsSignal (width * length parts) count (flat_map (λ (s : List SigBit). s) (map f parts))
joined_is width count f h [] = record { wide = omega arith; within = each_none (BitIn count) }
joined_is width count f h (s ∷ parts) =
    let here = h s in
    let later = joined_is width count f h parts in
    let more = length-append (f s) (flat_map (λ (s : List SigBit). s) (map f parts)) in
    let times : width * suc (length parts) ≡ width + width * length parts = grind arith in
    record {
      wide = omega (arith, more, here.wide, later.wide, times);
      within = each_both (BitIn count) (f s) (flat_map (λ (s : List SigBit). s) (map f parts)) here.within later.within;
    }

-- a signal that is so many parts
pub parts_count : (n width k : ℕ) (signal : List SigBit) → 0 < width → length signal ≡ k * width → k ≤ n → length (parts_of n width signal) ≡ k
parts_count zero width k signal some e le = omega (arith, le)
parts_count (suc n) width zero [] some e le = refl
parts_count (suc n) width (suc k) [] some e le = absurd (omega (arith, e, some))
parts_count (suc n) width zero (s ∷ signal) some e le = absurd (omega (arith, e))
parts_count (suc n) width (suc k) (s ∷ signal) some e le =
    let left : length (drop width (s ∷ signal)) ≡ k * width = omega (arith, length-drop width (s ∷ signal), e) in
    ap suc (parts_count n width k (drop width (s ∷ signal)) some left (omega (arith, le)))
