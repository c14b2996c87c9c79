-- Cells at places, one more at a place.
use Rattle.std.proofs.Common.{◌≡◌, ℕ, ◌+◌, ◌<◌, Bool, true, false, List, [], ◌∷◌, ◌++◌, length, drop, get_or, Some, None, add-one, append-nil, refl, sym, ◌∙◌, ap}
use Rattle.std.specs.Prelude.{◌&&◌, ◌||◌, slice_get}
use Rattle.std.specs.List.{flat_map, list_all, list_any}
use Rattle.std.specs.Option.{option_map_or}
use Rattle.std.proofs.Math.Seq.{drop-cons}
use Rattle.std.proofs.lemmas.List.Folds.{list_all-append}
use Rattle.std.proofs.lemmas.Grind.{flat_map-append}
use Rattle.cell_types.specs.declared.pin_name.PinName.TheVariants.{Y}
use Rattle.rtl_ir.specs.declared.cell.Cell.{Cell}
use Rattle.rtl_ir.specs.declared.module.Module.{Module}
use Rattle.rtl_ir.specs.Signals.{wire_bits}
use Rattle.net_model.specs.Fsm.Find.{at_pin, cells_at_places, tree_outputs}

-- the cells at one place more
one_more : (cells : List Cell) (place : ℕ) (places : List ℕ) → cells_at_places cells (place ∷ places) ≡ cells_at_places cells (place ∷ []) ++ cells_at_places cells places
one_more cells place places = ap (λ cs. cs ++ cells_at_places cells places) (sym (append-nil (option_map_or (λ (c : Cell). c ∷ []) (slice_get cells place) [])))

item_here : (places : List ℕ) (at : ℕ) → at < length places → drop at places ≡ get_or places at 0 ∷ drop (at + 1) places
item_here places at h = drop-cons places at 0 h ∙ (λ i. get_or places at 0 ∷ drop (sym (add-one at) i) places)

pub outputs_next : (m : Module) (places : List ℕ) (at : ℕ) → at < length places → tree_outputs m (drop at places) ≡ tree_outputs m (get_or places at 0 ∷ []) ++ tree_outputs m (drop (at + 1) places)
outputs_next m places at h =
    ap (tree_outputs m) (item_here places at h)
    ∙ ap (flat_map (λ (c : Cell). wire_bits (at_pin c Y))) (one_more m.cells (get_or places at 0) (drop (at + 1) places))
    ∙ flat_map-append (λ (c : Cell). wire_bits (at_pin c Y)) (cells_at_places m.cells (get_or places at 0 ∷ [])) (cells_at_places m.cells (drop (at + 1) places))

pub all_next : (test : Cell → Bool) (cells : List Cell) (places : List ℕ) (at : ℕ) → at < length places
    → list_all test (cells_at_places cells (drop at places)) ≡ (list_all test (cells_at_places cells (get_or places at 0 ∷ [])) && list_all test (cells_at_places cells (drop (at + 1) places)))
all_next test cells places at h =
    ap (λ ps. list_all test (cells_at_places cells ps)) (item_here places at h)
    ∙ ap (list_all test) (one_more cells (get_or places at 0) (drop (at + 1) places))
    ∙ list_all-append test (cells_at_places cells (get_or places at 0 ∷ [])) (cells_at_places cells (drop (at + 1) places))

-- a test of the cell at a place, where there is one
pub any_at : (test : Cell → Bool) (cells : List Cell) (place : ℕ) (c : Cell) → slice_get cells place ≡ Some c → list_any test (cells_at_places cells (place ∷ [])) ≡ test c
any_at test cells place c is = ap (λ o. list_any test (option_map_or (λ (c : Cell). c ∷ []) o [] ++ [])) is ∙ alone (test c)
  where
    alone : (t : Bool) → (t || false) ≡ t
    alone true = refl
    alone false = refl

pub all_at : (test : Cell → Bool) (cells : List Cell) (place : ℕ) (c : Cell) → slice_get cells place ≡ Some c → list_all test (cells_at_places cells (place ∷ [])) ≡ test c
all_at test cells place c is = ap (λ o. list_all test (option_map_or (λ (c : Cell). c ∷ []) o [] ++ [])) is ∙ alone (test c)
  where
    alone : (t : Bool) → (t && true) ≡ t
    alone true = refl
    alone false = refl

pub all_past : (test : Cell → Bool) (cells : List Cell) (place : ℕ) → slice_get cells place ≡ None → list_all test (cells_at_places cells (place ∷ [])) ≡ true
all_past test cells place is = ap (λ o. list_all test (option_map_or (λ (c : Cell). c ∷ []) o [] ++ [])) is

pub outputs_at : (m : Module) (place : ℕ) (c : Cell) → slice_get m.cells place ≡ Some c → tree_outputs m (place ∷ []) ≡ wire_bits (at_pin c Y)
outputs_at m place c is = ap (λ o. flat_map (λ (c : Cell). wire_bits (at_pin c Y)) (option_map_or (λ (c : Cell). c ∷ []) o [] ++ [])) is ∙ append-nil (wire_bits (at_pin c Y))

pub outputs_past : (m : Module) (place : ℕ) → slice_get m.cells place ≡ None → tree_outputs m (place ∷ []) ≡ []
outputs_past m place is = ap (λ o. flat_map (λ (c : Cell). wire_bits (at_pin c Y)) (option_map_or (λ (c : Cell). c ∷ []) o [] ++ [])) is
