-- Compares of the state.
use Rattle.std.proofs.lemmas.List.FromFn.{filter_of_map_range_with_len_more}
use Rattle.std.specs.List.{range_with_len}
use Rattle.std.proofs.Common.{filter, cond, ◌++◌, [], suc, ◌+◌, ◌<◌, ◌∷◌, length, drop, get_or, arith, ◌≡◌, ℕ, Bool, true, false, List, map, Some, sym, ◌∙◌, ap, refl}
use Rattle.std.specs.Prelude.{◌||◌, ◌&&◌, not}
use Rattle.std.proofs.Math.Seq.{drop-cons}
use Rattle.rtl_sig.specs.declared.sig.SigBit.{SigBit}
use Rattle.rtl_sig.specs.declared.sig.WireBit.{WireBit}
use Rattle.cell_types.specs.declared.kind.CellKind.{CellKind}
use Rattle.cell_types.specs.declared.pin_name.PinName.TheVariants.{A, B}
use Rattle.cell_types.specs.declared.param_name.ParamName.TheVariants.{ASigned, BSigned}
use Rattle.cell_types.specs.Shape.{is_set}
use Rattle.rtl_ir.specs.declared.cell.Cell.{Cell}
use Rattle.rtl_ir.specs.declared.cell.Pin.{Pin}
use Rattle.rtl_ir.specs.declared.module.Module.{Module}
use Rattle.rtl_ir.specs.Flat.Cell.{cell_kind}
use Rattle.rtl_ir.specs.Follow.{follow}
use Rattle.rtl_ir.specs.Outputs.{is_output}
use Rattle.rtl_ir.specs.declared.wire.Wire.{Wire}
use Rattle.rtl_ir.specs.Parameters.{given_params}
use Rattle.rtl_ir.specs.Types.{Ports}
use Rattle.rtl_ir.specs.Signals.{same_signal}
use Rattle.net_model.specs.Fsm.Find.{at_pin, compares, compares_with, followed_bits, is_compare, is_output_pin, is_state_constant, may_read, meets_any, ports_read_well, whole_wire}
use Rattle.fsm_find.specs.Readers.{pin_reads_well}

pub compared_is : (m : Module) (state sa a b : List SigBit) (c : Cell) (signed y : Bool) → sa ≡ state → a ≡ map (follow m.links) (at_pin c A) → b ≡ map (follow m.links) (at_pin c B)
    → signed ≡ (is_set (given_params c.params) ASigned && is_set (given_params c.params) BSigned)
    → y ≡ ((same_signal a sa && (is_state_constant b && not signed)) || (same_signal b sa && (is_state_constant a && not signed)))
    → y ≡ (compares_with m state c (at_pin c A) (at_pin c B) || compares_with m state c (at_pin c B) (at_pin c A))
compared_is m state sa a b c signed y s ea eb es ey =
    ey ∙ (λ i. (same_signal (ea i) (s i) && (is_state_constant (eb i) && not (es i))) || (same_signal (eb i) (s i) && (is_state_constant (ea i) && not (es i))))

pub compares_is : (m : Module) (state : List SigBit) (c : Cell) (kind : CellKind) (y : Bool) → Some kind ≡ cell_kind c → is_compare (Some kind) ≡ true → y ≡ (compares_with m state c (at_pin c A) (at_pin c B) || compares_with m state c (at_pin c B) (at_pin c A)) → y ≡ compares m state c
compares_is m state c kind y is fits e = e ∙ ap (λ t. t && (compares_with m state c (at_pin c A) (at_pin c B) || compares_with m state c (at_pin c B) (at_pin c A))) (sym (ap is_compare (sym is) ∙ fits))

or_last : (o r t : Bool) → o ≡ false → r ≡ false → (o || (r || t)) ≡ t
or_last o r t e f = ap (λ x. x || (r || t)) e ∙ ap (λ x. x || t) f

pub pin_well : (ports : Ports) (m : Module) (places : List ℕ) (flop : ℕ) (bits : List WireBit) (at : ℕ) (c : Cell) (pin : Pin) (o r t : Bool) → o ≡ is_output_pin ports c pin → o ≡ false → r ≡ may_read places flop at pin → r ≡ false → t ≡ meets_any (followed_bits m pin.sig) bits
    → not t ≡ pin_reads_well ports m places flop bits at c pin
pin_well ports m places flop bits at c pin o r t eo fo er fr et = ap not et ∙ sym (or_last (is_output_pin ports c pin) (may_read places flop at pin) (not (meets_any (followed_bits m pin.sig) bits)) (sym eo ∙ fo) (sym er ∙ fr))

-- a port that is an output reads well where its bits meet none
pub port_well : (o t n : Bool) → o ≡ true → t ≡ n → not t ≡ not (o && n)
port_well o t n e f = ap not f ∙ ap (λ x. not (x && n)) (sym e)

-- the wire that comes next
pub ports_next : (m : Module) (bits : List WireBit) (wires : List Wire) (at : ℕ) (w : Wire) → at < length wires → w ≡ get_or wires at w
    → ports_read_well m bits at (drop at wires) ≡ (not (is_output w.role && meets_any (followed_bits m (whole_wire at w)) bits) && ports_read_well m bits (at + 1) (drop (at + 1) wires))
ports_next m bits wires at w h e =
    let one : suc at ≡ at + 1 = omega arith in
    ap (ports_read_well m bits at) (drop-cons wires at w h ∙ ap (λ x. x ∷ drop (suc at) wires) (sym e)) ∙ ap (λ n. not (is_output w.role && meets_any (followed_bits m (whole_wire at w)) bits) && ports_read_well m bits (at + 1) (drop n wires)) one

map_same : (xs : List ℕ) → map (λ (x : ℕ). x) xs ≡ xs
map_same [] = refl
map_same (x ∷ xs) = ap (λ r. x ∷ r) (map_same xs)

-- a place more of a filter of places
pub places_more : (test : ℕ → Bool) (n : ℕ) → filter test (range_with_len 0 (n + 1)) ≡ filter test (range_with_len 0 n) ++ cond (test n) (n ∷ []) []
places_more test n =
    ap (filter test) (sym (map_same (range_with_len 0 (n + 1)))) ∙ filter_of_map_range_with_len_more test (λ (x : ℕ). x) 0 n n (omega arith) ∙ ap (λ r. filter test r ++ cond (test n) (n ∷ []) []) (map_same (range_with_len 0 n))
