-- Fresh outputs, one more at a time, and past a limit.
use Rattle.std.proofs.Common.{◌≡◌, ℕ, List, [], ◌∷◌, ◌++◌, map, Option, Some, None, append_assoc, append-nil, refl, sym, ◌∙◌, ap, subst, arith}
use Rattle.std.specs.Prelude.{option_map, slice_get}
use Rattle.std.specs.Option.{option_map_or}
use Rattle.rtl_sig.specs.declared.sig.SigBit.{SigBit}
use Rattle.cell_types.specs.declared.pin_name.PinName.TheVariants.{Y}
use Rattle.rtl_ir.specs.declared.cell.Cell.{Cell}
use Rattle.rtl_ir.specs.declared.value.Attribute.{Attribute}
use Rattle.rtl_ir.specs.Build.{Building, fresh_wire, inner_wire, made_name}
use Rattle.net_index.specs.Builder.{PassesLimit}
use Rattle.net_index.proofs.Rooms.{bit_count_last}
use Rattle.net_model.specs.Fsm.Code.{Output as Pair, fresh_outputs}
use Rattle.net_model.specs.Fsm.Find.{at_pin}
use Rattle.match_cells.proofs.Growing.{Grows, grows_more, grows_none, over_later}
use Rattle.fsm_code.specs.Outputs.{fresh_by}

-- what was there already, before what is given next
abbrev pub after : List Pair → List Pair × Building → List Pair × Building
after pairs r = (pairs ++ r.0, r.1)

wire_grows : (width : ℕ) (attributes : List Attribute) (b : Building) → Grows b (fresh_wire width attributes b).1
wire_grows width attributes b = record {
  cells = omega arith;
  bits = omega (arith, bit_count_last b.body.wires (inner_wire (made_name b.next) width attributes));
  names = omega arith;
}

outputs_grow : (width : ℕ) (signals : List (List SigBit)) (b : Building) → Grows b (fresh_by width signals b).1
outputs_grow width [] b = grows_none b
outputs_grow width (s ∷ signals) b =
    let wire = fresh_wire width [] b in
    grows_more b wire.1 (fresh_by width signals wire.1).1 (wire_grows width [] b) (outputs_grow width signals wire.1)

-- one output more
module _ (width : ℕ) (signal : List SigBit) (rest : List (List SigBit)) (b : Building) (pairs : List Pair) (all : List Pair × Building) (so : after pairs (fresh_by width (signal ∷ rest) b) ≡ all) where
  pub output_goes : (wire : List SigBit) (b' : Building) (pairs' : List Pair) → (wire, b') ≡ fresh_wire width [] b → pairs' ≡ pairs ++ record { before = signal; after = wire } ∷ [] → after pairs' (fresh_by width rest b') ≡ all
  output_goes wire b' pairs' made more =
      let fresh = fresh_wire width [] b in
      let then = fresh_by width rest fresh.1 in
      let here : Pair = record { before = signal; after = fresh.0 } in
      let front : pairs' ≡ pairs ++ here ∷ [] = more ∙ ap (λ (r : List SigBit × Building). pairs ++ record { before = signal; after = r.0 } ∷ []) made in
      (λ i. after (front i) (fresh_by width rest (made i).1))
      ∙ ap (λ z. (z, then.1)) (append_assoc pairs (here ∷ []) then.0)
      ∙ so

  pub output_over : PassesLimit (fresh_wire width [] b).1 → PassesLimit all.1
  output_over over =
      let fresh = fresh_wire width [] b in
      subst PassesLimit (ap (λ (r : List Pair × Building). r.1) so) (over_later fresh.1 (fresh_by width rest fresh.1).1 (outputs_grow width rest fresh.1) over)

pub outputs_end : (width : ℕ) (b : Building) (pairs : List Pair) (all : List Pair × Building) → after pairs (fresh_by width [] b) ≡ all → (pairs, b) ≡ all
outputs_end width b pairs all so = ap (λ z. (z, b)) (sym (append-nil pairs)) ∙ so

-- past a limit with the wire of the code, so with all
pub code_over : (width : ℕ) (attributes : List Attribute) (signals : List (List SigBit)) (b : Building) → PassesLimit (fresh_wire width attributes b).1 → PassesLimit (fresh_by width signals (fresh_wire width attributes b).1).1
code_over width attributes signals b over =
    let wire = fresh_wire width attributes b in
    over_later wire.1 (fresh_by width signals wire.1).1 (outputs_grow width signals wire.1) over

places_grow : (width : ℕ) (cells : List Cell) (places : List ℕ) (b : Building) → Grows b (fresh_outputs width cells places b).1
places_grow width cells [] b = grows_none b
places_grow width cells (at ∷ places) b =
    let wire = fresh_wire width [] b in
    grows_more b wire.1 (fresh_outputs width cells places wire.1).1 (wire_grows width [] b) (places_grow width cells places wire.1)

pub module_over : (width : ℕ) (attributes : List Attribute) (cells : List Cell) (places : List ℕ) (b : Building) → PassesLimit b → PassesLimit (fresh_outputs width cells places (fresh_wire width attributes b).1).1
module_over width attributes cells places b over =
    let wire = fresh_wire width attributes b in
    over_later wire.1 (fresh_outputs width cells places wire.1).1 (places_grow width cells places wire.1) (over_later b wire.1 (wire_grows width attributes b) over)

-- fresh outputs of the cells at places are those of their outputs
pub outputs_by : (width : ℕ) (cells : List Cell) (places : List ℕ) (signals : List (List SigBit)) (b : Building) → map (λ at. option_map (λ (c : Cell). at_pin c Y) (slice_get cells at)) places ≡ map Some signals → fresh_outputs width cells places b ≡ fresh_by width signals b
outputs_by width cells [] [] b e = refl
outputs_by width cells [] (s ∷ signals) b e = absurd (cc)
outputs_by width cells (at ∷ places) [] b e = absurd (cc)
outputs_by width cells (at ∷ places) (s ∷ signals) b e = by (outputs_by width cells places signals (fresh_wire width [] b).1) (slice_get cells at) refl
  where
    first : {A : Type 0} (x y : A) (xs ys : List A) → x ∷ xs ≡ y ∷ ys → x ≡ y
    first x y xs ys f = cc

    later : {A : Type 0} (x y : A) (xs ys : List A) → x ∷ xs ≡ y ∷ ys → xs ≡ ys
    later x y xs ys f = cc

    tail : map (λ k. option_map (λ (c : Cell). at_pin c Y) (slice_get cells k)) places ≡ map Some signals
    tail = later _ _ _ _ e

    head : option_map (λ (c : Cell). at_pin c Y) (slice_get cells at) ≡ Some s
    head = first _ _ _ _ e

    wire : List SigBit × Building
    wire = fresh_wire width [] b

    by : (map (λ k. option_map (λ (c : Cell). at_pin c Y) (slice_get cells k)) places ≡ map Some signals → fresh_outputs width cells places wire.1 ≡ fresh_by width signals wire.1) → (o : Option Cell) → slice_get cells at ≡ o → (option_map_or (λ (c : Cell). record { before = at_pin c Y; after = wire.0 } ∷ []) (slice_get cells at) [] ++ (fresh_outputs width cells places wire.1).0, (fresh_outputs width cells places wire.1).1) ≡ fresh_by width (s ∷ signals) b
    by later None f = let no : None ≡ Some s = ap (option_map (λ (c : Cell). at_pin c Y)) (sym f) ∙ head in absurd (cc)
    by later (Some c) f =
        let is : Some (at_pin c Y) ≡ Some s = ap (option_map (λ (c : Cell). at_pin c Y)) (sym f) ∙ head in
        let same : at_pin c Y ≡ s = cc in
        ap (λ (o : Option Cell). (option_map_or (λ (c : Cell). record { before = at_pin c Y; after = wire.0 } ∷ []) o [] ++ (fresh_outputs width cells places wire.1).0, (fresh_outputs width cells places wire.1).1)) f
        ∙ ap (λ (z : List SigBit). (record { before = z; after = wire.0 } ∷ (fresh_outputs width cells places wire.1).0, (fresh_outputs width cells places wire.1).1)) same
        ∙ ap (λ (r : List Pair × Building). (record { before = s; after = wire.0 } ∷ r.0, r.1)) (later tail)
