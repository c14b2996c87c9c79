-- Cells in the code, from their parts.
use Rattle.std.proofs.Common.{◌≡◌, ℕ, ◌==◌, Bool, true, false, cond, List, [], ◌∷◌, ◌++◌, length, map, Option, Some, None, append-nil, refl, sym, ◌∙◌, ap}
use Rattle.std.specs.Prelude.{drop, flat_map, slice_get}
use Rattle.cell_types.specs.declared.pin_name.PinName.TheVariants.{A, B, D, S, Y}
use Rattle.rtl_bits.specs.declared.bit.Bit.{Bit}
use Rattle.rtl_bits.specs.declared.bit.Bit.TheVariants.{S1}
use Rattle.rtl_bits.specs.Numbers.{number_of}
use Rattle.rtl_sig.specs.declared.sig.SigBit.{SigBit}
use Rattle.rtl_sig.specs.declared.sig.SigBit.TheVariants.{Fixed}
use Rattle.rtl_ir.specs.declared.cell.Cell.{Cell}
use Rattle.rtl_ir.specs.declared.cell.CellParam.{CellParam}
use Rattle.rtl_ir.specs.declared.cell.Pin.{Pin}
use Rattle.rtl_ir.specs.declared.machine.Machine.{Machine}
use Rattle.rtl_ir.specs.declared.module.Module.{Module}
use Rattle.rtl_ir.specs.Build.{Building}
use Rattle.rtl_ir.specs.Signals.{constant_of, same_signal}
use Rattle.rtl_ir.specs.Flat.Cell.{cell_kind}
use Rattle.rtl_ir.specs.Follow.{follow}
use Rattle.net_model.specs.Fsm.Code.{Coding, coded, coded_arms, coded_cell, coded_compare, coded_flop, coded_fork, compared, flop_params, fork_params, is_equal, link_all, or_nothing, or_zero, output_code, state_bit, with_zeros}
use Rattle.net_model.specs.Fsm.Find.{arms_of, at_pin, has_place}
use Rattle.fsm_code.specs.Links.{behind}
use Rattle.fsm_code.specs.Parts.{fork_pins, pins_of}
use Rattle.fsm_code.proofs.Linking.{pins_are}

map_both : {A B C : Type 0} (f : B → C) (g : A → B) (xs : List A) → map f (map g xs) ≡ map (λ x. f (g x)) xs
map_both f g [] = refl
map_both f g (x ∷ xs) = ap (λ ys. f (g x) ∷ ys) (map_both f g xs)

module _ (m : Module) (c : Coding) (cell : Cell) where
  -- the arms in the code
  pub arms_are : (old new : List (List SigBit)) → new ≡ map (coded c) old → old ≡ map (map (follow m.links)) (arms_of cell) → new ≡ coded_arms m c cell
  arms_are old new en eo = en ∙ ap (map (coded c)) eo ∙ map_both (coded c) (map (follow m.links)) (arms_of cell)

  -- a cell of the tree
  pub fork_is : (arms : List (List SigBit)) (a b y : List SigBit) (params : List CellParam) (pins : List Pin)
      → arms ≡ coded_arms m c cell → a ≡ or_nothing (slice_get arms 0) → b ≡ flat_map (λ (s : List SigBit). s) (drop 1 arms) → y ≡ or_nothing (output_code c.outputs (at_pin cell Y))
      → params ≡ fork_params (cell_kind cell) (length c.states) (length (at_pin cell S)) → pins ≡ fork_pins a b (at_pin cell S) y
      → record cell { params = params; pins = pins } ≡ coded_fork m c cell
  fork_is arms a b y params pins er ea eb ey ep en =
      (λ i. record cell { params = ep i; pins = (en ∙ (λ j. fork_pins (ea j) (eb j) (at_pin cell S) (ey j))) i })
      ∙ (λ i. record cell { params = fork_params (cell_kind cell) (length c.states) (length (at_pin cell S)); pins = fork_pins (or_nothing (slice_get (er i) 0)) (flat_map (λ (s : List SigBit). s) (drop 1 (er i))) (at_pin cell S) (or_nothing (output_code c.outputs (at_pin cell Y))) })

  -- the flip-flop
  pub flop_is : (reset : Option (List Bit)) (next d : List SigBit) (params : List CellParam) (pins : List Pin)
      → next ≡ map (follow m.links) (at_pin cell D) → d ≡ coded c next → params ≡ flop_params cell c.states reset → pins ≡ pins_of cell reset d c.code
      → record cell { params = params; pins = pins } ≡ coded_flop m c reset cell
  flop_is reset next d params pins en ed ep ei =
      let there = pins_are cell reset (coded c (map (follow m.links) (at_pin cell D))) c.code in
      (λ i. record cell { params = ep i; pins = (ei ∙ ap (λ z. pins_of cell reset z c.code) (ed ∙ ap (coded c) en) ∙ there) i })

  -- the constant beside the state
  pub compared_right : (a b : List SigBit) (bits : List Bit) → a ≡ map (follow m.links) (at_pin cell A) → same_signal a c.state ≡ true → b ≡ map (follow m.links) (at_pin cell B) → bits ≡ map constant_of b → number_of bits ≡ compared m c cell
  compared_right a b bits ea hit eb eq =
      ap number_of (eq ∙ ap (map constant_of) eb)
      ∙ ap (λ t. cond t (number_of (map constant_of (map (follow m.links) (at_pin cell B)))) (number_of (map constant_of (map (follow m.links) (at_pin cell A))))) (sym hit ∙ ap (λ z. same_signal z c.state) ea)

  pub compared_left : (a : List SigBit) (bits : List Bit) → a ≡ map (follow m.links) (at_pin cell A) → same_signal a c.state ≡ false → bits ≡ map constant_of a → number_of bits ≡ compared m c cell
  compared_left a bits ea hit eq =
      ap number_of (eq ∙ ap (map constant_of) ea)
      ∙ ap (λ t. cond t (number_of (map constant_of (map (follow m.links) (at_pin cell B)))) (number_of (map constant_of (map (follow m.links) (at_pin cell A))))) (sym hit ∙ ap (λ z. same_signal z c.state) ea)

  -- a compare
  module _ (equal : Bool) (bit : Option SigBit) (ys : List SigBit) (b : Building) (cells : List Cell) where
    pub equal_is : (b' : Building) → equal ≡ true → b' ≡ link_all ys (with_zeros (or_zero bit) ys) b → (cells, b') ≡ behind cells (coded_compare m c cell equal bit ys b)
    equal_is b' e made = (λ i. (sym (append-nil cells) i, made i)) ∙ ap (λ t. behind cells (coded_compare m c cell t bit ys b)) (sym e)

    pub none_is : (b' : Building) → equal ≡ false → bit ≡ None → b' ≡ link_all ys (with_zeros (Fixed S1) ys) b → (cells, b') ≡ behind cells (coded_compare m c cell equal bit ys b)
    none_is b' e n made = (λ i. (sym (append-nil cells) i, made i)) ∙ (λ i. behind cells (coded_compare m c cell (sym e i) (sym n i) ys b))

    pub inverse_is : (one : SigBit) (r : List Cell × Building) → equal ≡ false → bit ≡ Some one → r ≡ behind cells (coded_compare m c cell false (Some one) ys b) → r ≡ behind cells (coded_compare m c cell equal bit ys b)
    inverse_is one r e o made = made ∙ (λ i. behind cells (coded_compare m c cell (sym e i) (sym o i) ys b))

  pub compare_is : (equal : Bool) (bit : Option SigBit) (n : ℕ) (b : Building) (cells : List Cell) (r : List Cell × Building)
      → equal ≡ is_equal (cell_kind cell) → bit ≡ state_bit c.states c.code n → n ≡ compared m c cell
      → r ≡ behind cells (coded_compare m c cell equal bit (at_pin cell Y) b)
      → r ≡ behind cells (coded_compare m c cell (is_equal (cell_kind cell)) (state_bit c.states c.code (compared m c cell)) (at_pin cell Y) b)
  compare_is equal bit n b cells r ee eb en made =
      made ∙ (λ i. behind cells (coded_compare m c cell (ee i) ((eb ∙ ap (state_bit c.states c.code) en) i) (at_pin cell Y) b))

  -- a cell at a place, by its part
  module _ (machine : Machine) (at : ℕ) (b : Building) (cells : List Cell) where
    pub at_flop : (after : Cell) (new : List Cell) → (at == machine.flop) ≡ true → after ≡ coded_flop m c machine.reset cell → new ≡ cells ++ after ∷ [] → (new, b) ≡ behind cells (coded_cell m machine c at cell b)
    at_flop after new f ea en =
        (λ i. ((en ∙ ap (λ z. cells ++ z ∷ []) ea) i, b))
        ∙ ap (λ t. behind cells (cond t (coded_flop m c machine.reset cell ∷ [], b) (cond (has_place machine.muxes at) (coded_fork m c cell ∷ [], b) (cond (has_place machine.compares at) (coded_compare m c cell (is_equal (cell_kind cell)) (state_bit c.states c.code (compared m c cell)) (at_pin cell Y) b) (cell ∷ [], b))))) (sym f)

    pub at_fork : (after : Cell) (new : List Cell) → (at == machine.flop) ≡ false → has_place machine.muxes at ≡ true → after ≡ coded_fork m c cell → new ≡ cells ++ after ∷ [] → (new, b) ≡ behind cells (coded_cell m machine c at cell b)
    at_fork after new f h ea en =
        (λ i. ((en ∙ ap (λ z. cells ++ z ∷ []) ea) i, b))
        ∙ (λ i. behind cells (cond (sym f i) (coded_flop m c machine.reset cell ∷ [], b) (cond (sym h i) (coded_fork m c cell ∷ [], b) (cond (has_place machine.compares at) (coded_compare m c cell (is_equal (cell_kind cell)) (state_bit c.states c.code (compared m c cell)) (at_pin cell Y) b) (cell ∷ [], b)))))

    pub at_compare : (r : List Cell × Building) → (at == machine.flop) ≡ false → has_place machine.muxes at ≡ false → has_place machine.compares at ≡ true → r ≡ behind cells (coded_compare m c cell (is_equal (cell_kind cell)) (state_bit c.states c.code (compared m c cell)) (at_pin cell Y) b) → r ≡ behind cells (coded_cell m machine c at cell b)
    at_compare r f h k er =
        er ∙ (λ i. behind cells (cond (sym f i) (coded_flop m c machine.reset cell ∷ [], b) (cond (sym h i) (coded_fork m c cell ∷ [], b) (cond (sym k i) (coded_compare m c cell (is_equal (cell_kind cell)) (state_bit c.states c.code (compared m c cell)) (at_pin cell Y) b) (cell ∷ [], b)))))

    pub at_other : (new : List Cell) → (at == machine.flop) ≡ false → has_place machine.muxes at ≡ false → has_place machine.compares at ≡ false → new ≡ cells ++ cell ∷ [] → (new, b) ≡ behind cells (coded_cell m machine c at cell b)
    at_other new f h k en =
        (λ i. (en i, b))
        ∙ (λ i. behind cells (cond (sym f i) (coded_flop m c machine.reset cell ∷ [], b) (cond (sym h i) (coded_fork m c cell ∷ [], b) (cond (sym k i) (coded_compare m c cell (is_equal (cell_kind cell)) (state_bit c.states c.code (compared m c cell)) (at_pin cell Y) b) (cell ∷ [], b)))))
