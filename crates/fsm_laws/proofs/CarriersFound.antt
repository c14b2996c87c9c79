-- What the bits of the state and of the outputs of a tree carry, where each bit stands in one output, at one place.
use Rattle.std.proofs.Common.{◌≡◌, ◌<◌, ℕ, zero, suc, ◌+◌, Bool, true, false, cond, List, [], ◌∷◌, ◌++◌, map, Option, Some, None, inl, inr, refl, sym, ◌∙◌, ap, arith}
use Rattle.std.specs.Prelude.{◌==◌, ◌&&◌, ◌||◌, slice_get}
use Rattle.std.specs.List.{range_with_len}
use Rattle.std.specs.Option.{option_map_or}
use Rattle.std.proofs.lemmas.Bool.{eq-eqb, eqb-true}
use Rattle.rtl_sig.specs.declared.sig.SigBit.{SigBit}
use Rattle.rtl_sig.specs.declared.sig.SigBit.TheVariants.{Fixed, Wire as OnWire}
use Rattle.rtl_sig.specs.declared.sig.WireBit.{WireBit}
use Rattle.cell_types.specs.declared.pin_name.PinName.TheVariants.{Y}
use Rattle.rtl_ir.specs.Build.{whole}
use Rattle.rtl_ir.specs.Signals.{same_bit}
use Rattle.rtl_ir.specs.declared.cell.Cell.{Cell}
use Rattle.follow_laws.proofs.Following.{same_bit-same}
use Rattle.net_model.specs.Fsm.Code.{Output}
use Rattle.net_model.specs.Fsm.Find.{at_pin, has_place}
use Rattle.net_model.specs.Lists.{In}
use Rattle.fsm_laws.specs.Carried.{carrier_in, place_in}
use Rattle.fsm_laws.specs.Recoded.{outputs_made}
use Rattle.fsm_laws.proofs.Measures.{position}

same_self : (b : WireBit) → same_bit b b ≡ true
same_self b = λ i. eq-eqb b.wire b.wire refl i && eq-eqb b.at b.at refl i

-- where a bit stands in a signal in which it stands once
pub place_is : (signal : List SigBit) (b : WireBit) (from k : ℕ) → slice_get signal k ≡ Some (OnWire b) → ((j : ℕ) → slice_get signal j ≡ Some (OnWire b) → j ≡ k) → place_in signal b from ≡ Some (from + k)
place_is [] b from k e once = absurd (cc)
place_is (Fixed c ∷ signal) b from zero e once = absurd (cc)
place_is (Fixed c ∷ signal) b from (suc k) e once =
    let next : (from + 1) + k ≡ from + suc k = omega arith in
    place_is signal b (from + 1) k e (λ j f. let same : suc j ≡ suc k = once (suc j) f in omega (arith, same)) ∙ ap Some next
place_is (OnWire x ∷ signal) b from zero e once =
    let same : x ≡ b = cc in
    let here : from ≡ from + 0 = omega arith in
    ap (λ t. cond t (Some from) (place_in signal b (from + 1))) (ap (λ z. same_bit z b) same ∙ same_self b) ∙ ap Some here
place_is (OnWire x ∷ signal) b from (suc k) e once = by (same_bit x b) refl (place_is signal b (from + 1) k e (λ j f. let same : suc j ≡ suc k = once (suc j) f in omega (arith, same)))
  where
    by : (t : Bool) → same_bit x b ≡ t → place_in signal b (from + 1) ≡ Some ((from + 1) + k) → cond t (Some from) (place_in signal b (from + 1)) ≡ Some (from + suc k)
    by true f later =
        let first : 0 ≡ suc k = once 0 (ap (λ z. Some (OnWire z)) (same_bit-same x b f)) in
        absurd (omega (arith, first))
    by false f later = let next : (from + 1) + k ≡ from + suc k = omega arith in later ∙ ap Some next

pub place_none : (signal : List SigBit) (b : WireBit) (from : ℕ) → ((j : ℕ) → slice_get signal j ≡ Some (OnWire b) → ⊥) → place_in signal b from ≡ None
place_none [] b from none = refl
place_none (Fixed c ∷ signal) b from none = place_none signal b (from + 1) (λ j f. none (suc j) f)
place_none (OnWire x ∷ signal) b from none = by (same_bit x b) refl (place_none signal b (from + 1) (λ j f. none (suc j) f))
  where
    by : (t : Bool) → same_bit x b ≡ t → place_in signal b (from + 1) ≡ None → cond t (Some from) (place_in signal b (from + 1)) ≡ None
    by true f later = absurd (none 0 (ap (λ z. Some (OnWire z)) (same_bit-same x b f)))
    by false f later = later

-- a bit of the whole of a wire
pub whole_bit : (wire from width k : ℕ) (s : SigBit) → slice_get (map OnWire (map (λ at. record { wire = wire; at = at }) (range_with_len from width))) k ≡ Some s → (k < width) × (s ≡ OnWire (record { wire = wire; at = from + k }))
whole_bit wire from zero k s e = absurd (cc)
whole_bit wire from (suc width) zero s e =
    let same : OnWire (record { wire = wire; at = from }) ≡ s = cc in
    let here : from ≡ from + 0 = omega arith in
    (omega arith, sym same ∙ ap (λ n. OnWire (record { wire = wire; at = n })) here)
whole_bit wire from (suc width) (suc k) s e =
    let later = whole_bit wire (from + 1) width k s e in
    let next : (from + 1) + k ≡ from + suc k = omega arith in
    (omega (arith, later.0), later.1 ∙ ap (λ n. OnWire (record { wire = wire; at = n })) next)

pub whole_get_bit : (wire width k : ℕ) (s : SigBit) → slice_get (whole wire width) k ≡ Some s → (k < width) × (s ≡ OnWire (record { wire = wire; at = k }))
whole_get_bit wire width k s e =
    let found = whole_bit wire 0 width k s e in
    let here : 0 + k ≡ k = omega arith in
    (found.0, found.1 ∙ ap (λ n. OnWire (record { wire = wire; at = n })) here)

-- a bit of the output of a cell of the tree carries that bit of the state, in the fresh output of the cell
module _ (width : ℕ) (cells : List Cell) (at : ℕ) (c : Cell) (there : slice_get cells at ≡ Some c) (q : WireBit) (k : ℕ) (bit : slice_get (at_pin c Y) k ≡ Some (OnWire q)) (once : (j : ℕ) → slice_get (at_pin c Y) j ≡ Some (OnWire q) → j ≡ k) where
  pub carried_at : (wire : ℕ) (places : List ℕ) → has_place places at ≡ true → ((p : ℕ) (d : Cell) (j : ℕ) → In p places → slice_get cells p ≡ Some d → slice_get (at_pin d Y) j ≡ Some (OnWire q) → p ≡ at) → carrier_in (outputs_made width cells wire places) q ≡ Some (record { code = whole (wire + position places at) width; bit = k })
  carried_at wire [] h apart = absurd (cc)
  carried_at wire (p ∷ places) h apart =
      by (carried_at (wire + 1) places) (slice_get cells p) refl (p == at) refl h
    where
      rest : List Output
      rest = outputs_made width cells (wire + 1) places

      next : wire + 1 + position places at ≡ wire + suc (position places at)
      next = omega arith

      stays : wire ≡ wire + 0
      stays = omega arith

      by : (has_place places at ≡ true → ((r : ℕ) (d : Cell) (j : ℕ) → In r places → slice_get cells r ≡ Some d → slice_get (at_pin d Y) j ≡ Some (OnWire q) → r ≡ at) → carrier_in rest q ≡ Some (record { code = whole (wire + 1 + position places at) width; bit = k }))
          → (o : Option Cell) → slice_get cells p ≡ o → (u : Bool) → (p == at) ≡ u → (u || has_place places at) ≡ true
          → carrier_in (option_map_or (λ (d : Cell). record { before = at_pin d Y; after = whole wire width } ∷ []) o [] ++ rest) q ≡ Some (record { code = whole (wire + cond u 0 (suc (position places at))) width; bit = k })
      by later None f true g l =
          let no : None ≡ Some c = sym f ∙ ap (slice_get cells) (eqb-true p at g) ∙ there in absurd (cc)
      by later None f false g l =
          later l (λ r d j i. apart r d j (inr i)) ∙ ap (λ n. Some (record { code = whole n width; bit = k })) next
      by later (Some d) f true g l =
          let both : Some d ≡ Some c = sym f ∙ ap (slice_get cells) (eqb-true p at g) ∙ there in
          let same : d ≡ c = cc in
          let here : 0 + k ≡ k = omega arith in
          let found : place_in (at_pin d Y) q 0 ≡ Some k = ap (λ (z : Cell). place_in (at_pin z Y) q 0) same ∙ place_is (at_pin c Y) q 0 k bit once ∙ ap Some here in
          ap (λ o. option_map_or (λ n. Some (record { code = whole wire width; bit = n })) o (carrier_in rest q)) found
          ∙ ap (λ n. Some (record { code = whole n width; bit = k })) stays
      by later (Some d) f false g l =
          let none : place_in (at_pin d Y) q 0 ≡ None = place_none (at_pin d Y) q 0 (λ j e.
          let same : p ≡ at = apart p d j (inl refl) f e in
          let yes : (p == at) ≡ true = eq-eqb p at same in
          let no : true ≡ false = sym yes ∙ g in
          absurd (cc)) in
          ap (λ o. option_map_or (λ n. Some (record { code = whole wire width; bit = n })) o (carrier_in rest q)) none
          ∙ later l (λ r x j i. apart r x j (inr i))
          ∙ ap (λ n. Some (record { code = whole n width; bit = k })) next
