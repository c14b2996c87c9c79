-- The cells beside the one whose turn it is, and the inverters among them.
use Rattle.std.proofs.Common.{◌≡◌, ℕ, zero, suc, Bool, true, false, if◌then◌else◌, List, [], ◌∷◌, ◌++◌, length, map, Option, Some, None, ◌⊎◌, inl, inr, ⊎_elim, refl, sym, subst}
use Rattle.std.specs.Prelude.{◌&&◌, ◌==◌, flat_map, slice_index_or}
use Rattle.std.specs.Option.{option_map}
use Rattle.std.proofs.lemmas.Bool.{and_parts, eqb-true}
use Rattle.rtl_bits.specs.declared.bit.Bit.TheVariants.{X}
use Rattle.rtl_sig.specs.declared.sig.SigBit.{SigBit}
use Rattle.rtl_sig.specs.declared.sig.SigBit.TheVariants.{Fixed}
use Rattle.cell_types.specs.declared.pin_name.PinName.TheVariants.{A, Y}
use Rattle.cell_types.specs.PinName.{pin_text}
use Rattle.rtl_ir.specs.Flat.Cell.{cell_kind, listed}
use Rattle.rtl_ir.specs.Parameters.{signal_at}
use Rattle.rtl_ir.specs.declared.cell.Cell.{Cell}
use Rattle.net_model.proofs.Members.{In-right}
use Rattle.net_model.specs.Lists.{In}
use Rattle.rtl_ir.proofs.SamePlaces.{signal_is}
use Rattle.rtl_ir.specs.Signals.{same_signal}
use Rattle.opt_expr.specs.Inverters.{input_at, input_of, inverted, inverted_bit, inverts}
use Rattle.opt_expr.specs.Places.{other_at, others, place_of}

in_rest : (rest : List Cell) (at : ℕ) (e : Cell) → slice_index_or (map Some rest) at None ≡ Some e → In e rest
in_rest [] at e h = absurd (cc)
in_rest (c ∷ rest) zero e h = inl (let same : c ≡ e = cc in sym same)
in_rest (c ∷ rest) (suc at) e h = inr (in_rest rest at e h)

-- another cell is among those that have not gone, or in the rest
pub other_in : (done : List (Option Cell)) (rest : List Cell) (at : ℕ) (e : Cell) → slice_index_or (others done rest) at None ≡ Some e → In e (flat_map listed done) ⊎ In e rest
other_in [] rest zero e h = absurd (cc)
other_in [] rest (suc at) e h = inr (in_rest rest at e h)
other_in (slot ∷ done) rest zero e h = inl (subst (λ o. In e (listed o ++ flat_map listed done)) (sym h) (inl refl))
other_in (slot ∷ done) rest (suc at) e h = ⊎_elim (λ l. inl (In-right e (listed slot) (flat_map listed done) l)) (λ r. inr r) (other_in done rest at e h)

-- an inverter of this input, with this output
pub record IsInverter (logic : Bool) (e : Cell) (word input : List SigBit) : Type 0 where
  pub kind : inverts logic (cell_kind e) ≡ true
  pub whole : signal_at e.pins (pin_text Y) ≡ word
  pub wide : length (signal_at e.pins (pin_text A)) ≡ length word
  pub reads : signal_at e.pins (pin_text A) ≡ input

inverter_is : (logic : Bool) (e : Cell) (word input : List SigBit) → input_of logic e word ≡ Some input → IsInverter logic e word input
inverter_is logic e word input h =
    by (inverts logic (cell_kind e) && (same_signal (signal_at e.pins (pin_text Y)) word && (length (signal_at e.pins (pin_text A)) == length word))) refl h
  where
    by : (t : Bool) → (inverts logic (cell_kind e) && (same_signal (signal_at e.pins (pin_text Y)) word && (length (signal_at e.pins (pin_text A)) == length word))) ≡ t → (if t then Some (signal_at e.pins (pin_text A)) else None) ≡ Some input → IsInverter logic e word input
    by false f g = absurd (cc)
    by true f g =
        let one = and_parts (inverts logic (cell_kind e)) (same_signal (signal_at e.pins (pin_text Y)) word && (length (signal_at e.pins (pin_text A)) == length word)) f in
        let two = and_parts (same_signal (signal_at e.pins (pin_text Y)) word) (length (signal_at e.pins (pin_text A)) == length word) one.1 in
        record {
          kind = one.0;
          whole = signal_is (signal_at e.pins (pin_text Y)) word two.0;
          wide = eqb-true (length (signal_at e.pins (pin_text A))) (length word) two.1;
          reads = (let same : signal_at e.pins (pin_text A) ≡ input = cc in same);
        }

-- an inverter among the other cells
pub record IsFound (logic : Bool) (done : List (Option Cell)) (rest : List Cell) (word input : List SigBit) : Type 0 where
  pub cell : Cell
  pub among : In cell (flat_map listed done) ⊎ In cell rest
  pub inverter : IsInverter logic cell word input

at_place : (logic : Bool) (done : List (Option Cell)) (rest : List Cell) (place : Option ℕ) (word input : List SigBit) → input_at logic (other_at done rest place) word ≡ Some input → IsFound logic done rest word input
at_place logic done rest None word input h = absurd (cc)
at_place logic done rest (Some at) word input h = by (slice_index_or (others done rest) at None) refl h
  where
    by : (o : Option Cell) → slice_index_or (others done rest) at None ≡ o → input_at logic o word ≡ Some input → IsFound logic done rest word input
    by None f g = absurd (cc)
    by (Some e) f g = record { cell = e; among = other_in done rest at e f; inverter = inverter_is logic e word input g }

-- what is inverted to a word is read by an inverter among the other cells
pub inverted_is : (cells : List Cell) (done : List (Option Cell)) (rest : List Cell) (word input : List SigBit) → inverted cells done rest word ≡ Some input → IsFound false done rest word input
inverted_is cells done rest word input h = at_place false done rest (place_of cells word) word input h

-- the same of one bit
pub inverted_bit_is : (cells : List Cell) (done : List (Option Cell)) (rest : List Cell) (word : List SigBit) (bit : SigBit) → inverted_bit cells done rest word ≡ Some bit
    → (input : List SigBit) × (length word ≡ 1) × (slice_index_or input 0 (Fixed X) ≡ bit) × IsFound true done rest word input
inverted_bit_is cells done rest word bit h =
    by (length word == 1) refl (input_at true (other_at done rest (place_of cells word)) word) refl h
  where
    by : (t : Bool) → (length word == 1) ≡ t → (o : Option (List SigBit)) → input_at true (other_at done rest (place_of cells word)) word ≡ o → (if t then option_map (λ input. slice_index_or input 0 (Fixed X)) o else None) ≡ Some bit
        → (input : List SigBit) × (length word ≡ 1) × (slice_index_or input 0 (Fixed X) ≡ bit) × IsFound true done rest word input
    by false one o f g = absurd (cc)
    by true one None f g = absurd (cc)
    by true one (Some input) f g =
        (input, eqb-true (length word) 1 one, (let same : slice_index_or input 0 (Fixed X) ≡ bit = cc in same), at_place true done rest (place_of cells word) word input f)
