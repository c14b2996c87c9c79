-- The places of a machine: the cells of its tree, each with a fresh output of its own, and those that compare.
use Rattle.std.proofs.Common.{◌≡◌, ℕ, suc, ◌+◌, Bool, true, false, cond, List, [], ◌∷◌, ◌++◌, Option, Some, None, inl, inr, refl, sym, ◌∙◌, ap, arith}
use Rattle.std.specs.Prelude.{◌==◌, ◌&&◌, ◌||◌, filter, slice_get}
use Rattle.std.specs.List.{list_all, list_any}
use Rattle.std.specs.Option.{option_map_or}
use Rattle.std.proofs.lemmas.Bool.{and_parts, eq-eqb, eqb-true}
use Rattle.rtl_bits.specs.declared.bit.Bit.{Bit}
use Rattle.rtl_bits.specs.declared.bit.Bit.TheVariants.{S0, S1, X, Z, M, Dash}
use Rattle.rtl_sig.specs.declared.sig.SigBit.{SigBit}
use Rattle.rtl_sig.specs.declared.sig.SigBit.TheVariants.{Fixed, Wire as OnWire}
use Rattle.cell_types.specs.declared.pin_name.PinName.TheVariants.{Y}
use Rattle.rtl_ir.specs.Build.{whole}
use Rattle.rtl_ir.specs.Flat.Cell.{cell_kind}
use Rattle.rtl_ir.specs.Signals.{same_place, same_signal, same_value}
use Rattle.rtl_ir.specs.declared.cell.Cell.{Cell}
use Rattle.rtl_ir.specs.declared.module.Module.{Module}
use Rattle.net_model.specs.Fsm.Code.{Output, output_code}
use Rattle.net_model.specs.Fsm.Find.{at_pin, cells_at_places, compares, has_place, is_fork, place_where}
use Rattle.net_model.specs.Lists.{In}
use Rattle.fsm_laws.specs.Recoded.{outputs_made}
use Rattle.fsm_laws.proofs.Measures.{position}
use Rattle.fsm_laws.proofs.Trees.{IsForkAt}
use Rattle.pass_laws.proofs.SamePlaces.{signal_is}

value_own : (a : Bit) → same_value a a ≡ true
value_own S0 = refl
value_own S1 = refl
value_own X = refl
value_own Z = refl
value_own M = refl
value_own Dash = refl

place_own : (a : SigBit) → same_place a a ≡ true
place_own (Fixed a) = value_own a
place_own (OnWire a) = λ i. eq-eqb a.wire a.wire refl i && eq-eqb a.at a.at refl i

signal_own : (a : List SigBit) → same_signal a a ≡ true
signal_own [] = refl
signal_own (s ∷ a) = λ i. place_own s i && signal_own a i

-- two cells of a tree have no output in common
pub forks_apart : (m : Module) (p at : ℕ) (d c : Cell) → IsForkAt m p → IsForkAt m at → slice_get m.cells p ≡ Some d → slice_get m.cells at ≡ Some c → same_signal (at_pin d Y) (at_pin c Y) ≡ true → p ≡ at
forks_apart m p at d c fp fa ed ec e =
    let some_d : Some fp.cell ≡ Some d = sym fp.there ∙ ed in
    let is_d : fp.cell ≡ d = cc in
    let some_c : Some fa.cell ≡ Some c = sym fa.there ∙ ec in
    let is_c : fa.cell ≡ c = cc in
    let out_p : at_pin fp.cell Y ≡ fp.signal = signal_is (at_pin fp.cell Y) fp.signal fp.same in
    let out_a : at_pin fa.cell Y ≡ fa.signal = signal_is (at_pin fa.cell Y) fa.signal fa.same in
    let one : fp.signal ≡ fa.signal = sym out_p ∙ ap (λ (z : Cell). at_pin z Y) is_d ∙ signal_is (at_pin d Y) (at_pin c Y) e ∙ ap (λ (z : Cell). at_pin z Y) (sym is_c) ∙ out_a in
    firsts fp.signal fa.signal one fp.first fa.first
  where
    first_with : List SigBit → Option ℕ
    first_with signal = place_where (λ (z : Cell). is_fork (cell_kind z) && same_signal (at_pin z Y) signal) 0 m.cells

    firsts : (a b : List SigBit) → a ≡ b → first_with a ≡ Some p → first_with b ≡ Some at → p ≡ at
    firsts a b e f g = let both : Some p ≡ Some at = sym f ∙ ap first_with e ∙ g in cc

-- a place among places stands there
pub has_in : (places : List ℕ) (at : ℕ) → has_place places at ≡ true → In at places
has_in [] at e = absurd (cc)
has_in (p ∷ places) at e = by (has_in places at) (p == at) refl e
  where
    by : (has_place places at ≡ true → In at places) → (t : Bool) → (p == at) ≡ t → (t || has_place places at) ≡ true → In at (p ∷ places)
    by later true f g = inl (sym (eqb-true p at f))
    by later false f g = inr (later g)

-- and passes the test where others were left out
pub in_passed : (test : ℕ → Bool) (places : List ℕ) (at : ℕ) → In at (filter test places) → test at ≡ true
in_passed test [] at i = absurd i
in_passed test (p ∷ places) at i = by (in_passed test places at) (test p) refl i
  where
    by : (In at (filter test places) → test at ≡ true) → (t : Bool) → test p ≡ t → In at (cond t (p ∷ filter test places) (filter test places)) → test at ≡ true
    by later true f (inl e) = ap test e ∙ f
    by later true f (inr j) = later j
    by later false f j = later j

-- what all cells at these places pass, each passes
pub cells_all : (test : Cell → Bool) (cells : List Cell) (places : List ℕ) (at : ℕ) (c : Cell) → list_all test (cells_at_places cells places) ≡ true → has_place places at ≡ true → slice_get cells at ≡ Some c → test c ≡ true
cells_all test cells [] at c e h there = absurd (cc)
cells_all test cells (p ∷ places) at c e h there = by (cells_all test cells places at c) (slice_get cells p) refl e (p == at) refl h
  where
    by : (list_all test (cells_at_places cells places) ≡ true → has_place places at ≡ true → slice_get cells at ≡ Some c → test c ≡ true) → (o : Option Cell) → slice_get cells p ≡ o → list_all test (option_map_or (λ (d : Cell). d ∷ []) o [] ++ cells_at_places cells places) ≡ true → (t : Bool) → (p == at) ≡ t → (t || has_place places at) ≡ true → test c ≡ true
    by later None f g true k l =
        let no : None ≡ Some c = sym f ∙ ap (slice_get cells) (eqb-true p at k) ∙ there in absurd (cc)
    by later None f g false k l = later g l there
    by later (Some d) f g true k l =
        let both : Some d ≡ Some c = sym f ∙ ap (slice_get cells) (eqb-true p at k) ∙ there in
        let same : d ≡ c = cc in
        ap test (sym same) ∙ (and_parts (test d) (list_all test (cells_at_places cells places)) g).0
    by later (Some d) f g false k l = later (and_parts (test d) (list_all test (cells_at_places cells places)) g).1 l there

-- a cell at a place that compares
pub compares_at : (m : Module) (state : List SigBit) (at : ℕ) (c : Cell) → slice_get m.cells at ≡ Some c → list_any (compares m state) (cells_at_places m.cells (at ∷ [])) ≡ true → compares m state c ≡ true
compares_at m state at c there e = by (compares m state c) (ap (λ o. list_any (compares m state) (option_map_or (λ (d : Cell). d ∷ []) o [] ++ [])) (sym there) ∙ e)
  where
    by : (t : Bool) → (t || false) ≡ true → t ≡ true
    by true f = refl
    by false f = f

-- the fresh output of a cell of the tree is that of its place
pub output_at : (width : ℕ) (cells : List Cell) (wire : ℕ) (places : List ℕ) (at : ℕ) (c : Cell) → slice_get cells at ≡ Some c → has_place places at ≡ true
    → ((p : ℕ) (d : Cell) → In p places → slice_get cells p ≡ Some d → same_signal (at_pin d Y) (at_pin c Y) ≡ true → p ≡ at)
    → output_code (outputs_made width cells wire places) (at_pin c Y) ≡ Some (whole (wire + position places at) width)
output_at width cells wire [] at c there h apart = absurd (cc)
output_at width cells wire (p ∷ places) at c there h apart =
    by (output_at width cells (wire + 1) places at c there) (slice_get cells p) refl (p == at) refl h
  where
    rest : List Output
    rest = outputs_made width cells (wire + 1) places

    next : wire + 1 + position places at ≡ wire + suc (position places at)
    next = omega arith

    stays : wire ≡ wire + 0
    stays = omega arith

    test : (d : Cell) (t u : Bool) → slice_get cells p ≡ Some d → same_signal (at_pin d Y) (at_pin c Y) ≡ t → (p == at) ≡ u → (u || has_place places at) ≡ true → (has_place places at ≡ true → output_code rest (at_pin c Y) ≡ Some (whole (wire + 1 + position places at) width))
        → cond t (Some (whole wire width)) (output_code rest (at_pin c Y)) ≡ Some (whole (wire + cond u 0 (suc (position places at))) width)
    test d true true f g k l later = ap (λ n. Some (whole n width)) stays
    test d true false f g k l later =
        let same : p ≡ at = apart p d (inl refl) f g in
        let yes : (p == at) ≡ true = eq-eqb p at same in
        absurd (cc)
    test d false true f g k l later =
        let both : Some d ≡ Some c = sym f ∙ ap (slice_get cells) (eqb-true p at k) ∙ there in
        let same : d ≡ c = cc in
        let yes : same_signal (at_pin d Y) (at_pin c Y) ≡ true = ap (λ (z : Cell). same_signal (at_pin z Y) (at_pin c Y)) same ∙ signal_own (at_pin c Y) in
        absurd (cc)
    test d false false f g k l later = later l ∙ ap (λ n. Some (whole n width)) next

    by : (has_place places at ≡ true → ((q : ℕ) (d : Cell) → In q places → slice_get cells q ≡ Some d → same_signal (at_pin d Y) (at_pin c Y) ≡ true → q ≡ at) → output_code rest (at_pin c Y) ≡ Some (whole (wire + 1 + position places at) width))
        → (o : Option Cell) → slice_get cells p ≡ o → (u : Bool) → (p == at) ≡ u → (u || has_place places at) ≡ true
        → output_code (option_map_or (λ (d : Cell). record { before = at_pin d Y; after = whole wire width } ∷ []) o [] ++ rest) (at_pin c Y) ≡ Some (whole (wire + cond u 0 (suc (position places at))) width)
    by later None f true k l =
        let no : None ≡ Some c = sym f ∙ ap (slice_get cells) (eqb-true p at k) ∙ there in absurd (cc)
    by later None f false k l = later l (λ q d i. apart q d (inr i)) ∙ ap (λ n. Some (whole n width)) next
    by later (Some d) f u k l =
        test d (same_signal (at_pin d Y) (at_pin c Y)) u f refl k l (λ g. later g (λ q x i. apart q x (inr i)))
