-- Each bit of a cell of the tree: what stands for it in the code is no less than where it is apart from a state.
use Rattle.std.proofs.Common.{◌≡◌, ◌<◌, ◌≤◌, ℕ, zero, suc, ◌+◌, ◌*◌, List, [], ◌∷◌, ◌++◌, length, map, Option, Some, None, inl, inr, ⊎_elim, refl, sym, ◌∙◌, ap, subst, arith}
use Rattle.std.specs.Prelude.{flat_map, slice_get, slice_index_or}
use Rattle.std.proofs.lemmas.List.FromFn.{length-map-range_with_len}
use Rattle.cell_types.specs.declared.kind.CellKind.TheVariants.{Word}
use Rattle.cell_types.specs.declared.pin_name.PinName.TheVariants.{A, B, S}
use Rattle.cell_types.specs.declared.word.WordKind.TheVariants.{Mux, Pmux}
use Rattle.cell_word.specs.Choice.{muxed_of, picked_of}
use Rattle.rtl_bits.proofs.Orders.{Below_trans}
use Rattle.rtl_bits.specs.Knowledge.{AreBelow, Below}
use Rattle.rtl_bits.specs.Tables.{mux_of}
use Rattle.rtl_bits.specs.declared.bit.Bit.{Bit}
use Rattle.rtl_bits.specs.declared.bit.Bit.TheVariants.{X}
use Rattle.rtl_sig.specs.declared.sig.SigBit.{SigBit}
use Rattle.rtl_sig.specs.declared.sig.SigBit.TheVariants.{Fixed, Wire as OnWire}
use Rattle.rtl_sig.specs.declared.sig.WireBit.{WireBit}
use Rattle.rtl_ir.specs.declared.cell.Cell.{Cell}
use Rattle.rtl_ir.specs.declared.module.Link.{Link}
use Rattle.rtl_ir.specs.declared.wire.Wire.{Wire}
use Rattle.rtl_ir.specs.Flat.Cell.{Ports, cell_shape, kind_rows}
use Rattle.rtl_ir.specs.Flat.Driver.{Driven}
use Rattle.rtl_ir.specs.Flat.Place.{Frame, Path, Place}
use Rattle.rtl_ir.specs.Flat.Point.{point, points}
use Rattle.rtl_ir.specs.Follow.{follow}
use Rattle.net_model.specs.Fsm.Code.{Output}
use Rattle.net_model.specs.Fsm.Find.{at_pin, parts_of}
use Rattle.net_model.specs.Lists.{Distinct, In}
use Rattle.net_model.specs.Refine.{IsMet}
use Rattle.net_model.specs.Relate.{Related}
use Rattle.net_model.specs.Run.{Time}
use Rattle.net_model.specs.Valuation.{Valuation, read, read_all}
use Rattle.net_model.specs.Value.{value_of}
use Rattle.net_model.specs.Within.{Each}
use Rattle.pass_laws.proofs.Driving.{own_driver, own_in, row_of}
use Rattle.follow_laws.specs.Alike.{Alike}
use Rattle.fsm_laws.specs.Arms.{StandsFor}
use Rattle.fsm_laws.specs.Carried.{code_says}
use Rattle.fsm_laws.specs.Chosen.{chosen}
use Rattle.fsm_laws.specs.Codes.{apart}
use Rattle.fsm_laws.specs.Forks.{mux_like, pmux_like}
use Rattle.fsm_laws.specs.Recodes.{IsFree as Free}
use Rattle.fsm_laws.specs.States.{AreStates}
use Rattle.fsm_laws.proofs.Arms.{arm_apart, has}
use Rattle.fsm_laws.proofs.Carrying.{IsOwn, free_below}
use Rattle.fsm_laws.proofs.Choices.{chosen_apart, muxed_at, picked_at}
use Rattle.fsm_laws.proofs.Coded.{mux_apart}
use Rattle.fsm_laws.proofs.Forks.{mux_like_gives, pmux_like_gives}
use Rattle.fsm_laws.proofs.Numbers.{lt_or_ge, past_end}
use Rattle.fsm_laws.proofs.Parts.{AreLong, joined_bit, no_part, part_bit}

-- what a signal has at a place, by its bit there
pub has_get : (p : Path) (wires : List Wire) (w : Valuation) (signal : List SigBit) (k : ℕ) → has p wires w signal k ≡ read w (point p wires (slice_index_or signal k (Fixed X)))
has_get p wires w [] k = refl
has_get p wires w (s ∷ signal) zero = refl
has_get p wires w (s ∷ signal) (suc k) = has_get p wires w signal k

-- a multiplexer's word at any place
muxed_low : (a b : List Bit) (s : Bit) (width k : ℕ) (P : Bit → Type 0) → P X → P (mux_of (slice_index_or a k X) (slice_index_or b k X) s) → P (slice_index_or (muxed_of a b s width) k X)
muxed_low a b s width k P none some =
    ⊎_elim
    (λ lt. subst P (sym (muxed_at a b s width k lt)) some)
    (λ ge. subst P (sym (past_end (muxed_of a b s width) k X (omega (arith, ge, length-map-range_with_len (λ at. mux_of (slice_index_or a at X) (slice_index_or b at X) s) 0 width)))) none)
    (lt_or_ge k width)

module _ (links : List Link) (wires fresh : List Wire) (named : Distinct (map (λ (w : Wire). w.name) wires)) (outputs : List Output) (width : ℕ) (states : List (List Bit)) (are : AreStates width states) where
  -- a bit that carries nothing
  abbrev pub IsFree : SigBit → Type 0
  IsFree s = Free links wires outputs s

  module _ (over : Ports) (frames : List Frame) (p : Path) (v w : Valuation) (rel : Related over frames (code_says states links wires (wires ++ fresh) outputs) p v w) where
    abbrev grown : List Wire
    grown = wires ++ fresh

    pub free_words : (signal : List SigBit) → Each IsFree signal → AreBelow (read_all v (points p grown signal)) (read_all w (points p grown signal))
    free_words [] h = tt
    free_words (s ∷ signal) h =
        (free_below links wires fresh named outputs states over frames p v w rel s (h s (inl refl)).own (h s (inl refl)).none, free_words signal (λ r i. h r (inr i)))

    pub free_has : (signal : List SigBit) → Each IsFree signal → (k : ℕ) → Below (has p grown v signal k) (has p grown w signal k)
    free_has [] h k = tt
    free_has (s ∷ signal) h zero =
        free_below links wires fresh named outputs states over frames p v w rel s (h s (inl refl)).own (h s (inl refl)).none
    free_has (s ∷ signal) h (suc k) = free_has signal (λ r i. h r (inr i)) k

    module _ (alike : (s : SigBit) → Alike w (point p grown s) (point p grown (follow links s))) (start : SigBit → Bit) where
      abbrev arm : (old new : List SigBit) → Each (IsOwn links wires fresh named outputs) old → StandsFor width states links outputs old new → (k : ℕ) → k < width → (i : ℕ) (r : List Bit) → slice_get states i ≡ Some r → Below (apart (has p grown v old k) (slice_index_or r k X)) (has p grown w new i)
      arm = arm_apart links wires fresh named outputs width states are over frames p v w rel alike

      -- a multiplexer
      pub mux_kept : (t u : Time Place) (c : Cell) (count : ℕ) (a b y : List SigBit)
          → count ≤ 65536
          → Each (IsOwn links wires fresh named outputs) (at_pin c A) → Each (IsOwn links wires fresh named outputs) (at_pin c B) → Each IsFree (at_pin c S)
          → StandsFor width states links outputs (at_pin c A) a → StandsFor width states links outputs (at_pin c B) b
          → ((d : Driven) → In d (kind_rows start p grown (mux_like c count a b (at_pin c S) y) (Word Mux)) → IsMet d u w)
          → (k : ℕ) → k < width → (q : WireBit) (i : ℕ) (r : List Bit) → slice_get states i ≡ Some r → i < count → (o : WireBit) → slice_get y i ≡ Some (OnWire o)
          → Below (apart (value_of (own_driver start p grown c (Word Mux) k q) t v) (slice_index_or r k X)) (read w (point p grown (OnWire o)))
      unfolding cell_shape
      mux_kept t u c count a b y few own_a own_b free_s stands_a stands_b met k lt q i r there inside o at =
          muxed_low (read_all v (points p grown (at_pin c A))) (read_all v (points p grown (at_pin c B))) (has p grown v (at_pin c S) 0) (cell_shape (Word Mux) c.params).widths.y k
          (λ z. Below (apart z (slice_index_or r k X)) (read w (point p grown (OnWire o)))) tt
          (Below_trans _ _ _
          (mux_apart (has p grown v (at_pin c A) k) (has p grown v (at_pin c B) k) (has p grown v (at_pin c S) 0) (slice_index_or r k X) (has p grown w a i) (has p grown w b i) (has p grown w (at_pin c S) 0)
          (arm (at_pin c A) a own_a stands_a k lt i r there) (arm (at_pin c B) b own_b stands_b k lt i r there) (free_has (at_pin c S) free_s 0))
          (subst (λ z. Below z (read w (point p grown (OnWire o)))) (mux_like_gives start p grown c count a b (at_pin c S) y few i o inside u w) row))
        where
          row : Below (value_of (own_driver start p grown (mux_like c count a b (at_pin c S) y) (Word Mux) i o) u w) (read w (point p grown (OnWire o)))
          row = met (row_of p grown o (own_driver start p grown (mux_like c count a b (at_pin c S) y) (Word Mux) i o)) (own_in p grown start (mux_like c count a b (at_pin c S) y) (Word Mux) refl i o at)

      -- the parts of B, and what stands for them
      module _ (c : Cell) (parts : List (List SigBit)) (count : ℕ) (long : AreLong count parts) (own_b : Each (IsOwn links wires fresh named outputs) (at_pin c B)) (some : 0 < length (at_pin c A))
          (stands : (j : ℕ) (old : List SigBit) → slice_get (parts_of (length (at_pin c B)) (length (at_pin c A)) (at_pin c B)) j ≡ Some old → (new : List SigBit) × ((slice_get parts j ≡ Some new) × (Each (IsOwn links wires fresh named outputs) old × StandsFor width states links outputs old new))) where
        part_apart : (k : ℕ) → k < width → k < length (at_pin c A) → (i : ℕ) → i < count → (r : List Bit) → slice_get states i ≡ Some r → (j : ℕ) → Below (apart (has p grown v (at_pin c B) (j * length (at_pin c A) + k)) (slice_index_or r k X)) (has p grown w (flat_map (λ (s : List SigBit). s) parts) (j * count + i))
        part_apart k lt inside i few r there j = by (slice_get (parts_of (length (at_pin c B)) (length (at_pin c A)) (at_pin c B)) j) refl
          where
            n : ℕ
            n = length (at_pin c A)

            by : (o : Option (List SigBit)) → slice_get (parts_of (length (at_pin c B)) n (at_pin c B)) j ≡ o → Below (apart (has p grown v (at_pin c B) (j * n + k)) (slice_index_or r k X)) (has p grown w (flat_map (λ (s : List SigBit). s) parts) (j * count + i))
            by None f =
                let over_end : length (at_pin c B) ≤ j * n = no_part (length (at_pin c B)) n (at_pin c B) j some (omega arith) f in
                let none : has p grown v (at_pin c B) (j * n + k) ≡ X = has_get p grown v (at_pin c B) (j * n + k) ∙ ap (λ s. read v (point p grown s)) (past_end (at_pin c B) (j * n + k) (Fixed X) (omega (arith, over_end))) in
                subst (λ z. Below (apart z (slice_index_or r k X)) (has p grown w (flat_map (λ (s : List SigBit). s) parts) (j * count + i))) (sym none) tt
            by (Some old) f =
                let found = stands j old f in
                let before : has p grown v old k ≡ has p grown v (at_pin c B) (j * n + k) = has_get p grown v old k ∙ ap (λ s. read v (point p grown s)) (part_bit (length (at_pin c B)) n (at_pin c B) j k old (Fixed X) f inside) ∙ sym (has_get p grown v (at_pin c B) (j * n + k)) in
                let after : has p grown w found.0 i ≡ has p grown w (flat_map (λ (s : List SigBit). s) parts) (j * count + i) = has_get p grown w found.0 i ∙ ap (λ s. read w (point p grown s)) (sym (joined_bit count parts long j i found.0 (Fixed X) found.1.0 few)) ∙ sym (has_get p grown w (flat_map (λ (s : List SigBit). s) parts) (j * count + i)) in
                subst (λ z. Below (apart z (slice_index_or r k X)) (has p grown w (flat_map (λ (s : List SigBit). s) parts) (j * count + i))) before
                (subst (Below (apart (has p grown v old k) (slice_index_or r k X))) after (arm old found.0 found.1.1.0 found.1.1.1 k lt i r there))

        -- a multiplexer of several parts
        pub pmux_kept : (t u : Time Place) (selects : ℕ) (a y : List SigBit)
            → count ≤ 65536
            → (cell_shape (Word Pmux) c.params).widths.y ≡ length (at_pin c A)
            → Each (IsOwn links wires fresh named outputs) (at_pin c A) → Each IsFree (at_pin c S)
            → StandsFor width states links outputs (at_pin c A) a
            → ((d : Driven) → In d (kind_rows start p grown (pmux_like c count selects a (flat_map (λ (s : List SigBit). s) parts) (at_pin c S) y) (Word Pmux)) → IsMet d u w)
            → (k : ℕ) → k < width → k < length (at_pin c A) → (q : WireBit) (i : ℕ) (r : List Bit) → slice_get states i ≡ Some r → i < count → (o : WireBit) → slice_get y i ≡ Some (OnWire o)
            → Below (apart (value_of (own_driver start p grown c (Word Pmux) k q) t v) (slice_index_or r k X)) (read w (point p grown (OnWire o)))
        unfolding cell_shape
        pmux_kept t u selects a y few wide own_a free_s stands_a met k lt inside q i r there under o at =
            let sv : List Bit = read_all v (points p grown (at_pin c S)) in
            let sw : List Bit = read_all w (points p grown (at_pin c S)) in
            let n : ℕ = (cell_shape (Word Pmux) c.params).widths.y in
            let value : slice_index_or (picked_of (read_all v (points p grown (at_pin c A))) (read_all v (points p grown (at_pin c B))) sv n) k X ≡ chosen sv (has p grown v (at_pin c A) k) (λ j. has p grown v (at_pin c B) (j * length (at_pin c A) + k)) =
            picked_at (read_all v (points p grown (at_pin c A))) (read_all v (points p grown (at_pin c B))) sv n k (omega (arith, wide, inside))
            ∙ ap (λ m. chosen sv (has p grown v (at_pin c A) k) (λ j. has p grown v (at_pin c B) (j * m + k))) wide in
            subst (λ z. Below (apart z (slice_index_or r k X)) (read w (point p grown (OnWire o)))) (sym value)
            (Below_trans _ _ _
            (chosen_apart sv sw (has p grown v (at_pin c A) k) (has p grown w a i) (slice_index_or r k X) (λ j. has p grown v (at_pin c B) (j * length (at_pin c A) + k)) (λ j. has p grown w (flat_map (λ (s : List SigBit). s) parts) (j * count + i))
            (free_words (at_pin c S) free_s) (arm (at_pin c A) a own_a stands_a k lt i r there) (part_apart k lt inside i under r there))
            (subst (λ z. Below z (read w (point p grown (OnWire o)))) (pmux_like_gives start p grown c count selects a (flat_map (λ (s : List SigBit). s) parts) (at_pin c S) y few i o under u w)
            (met (row_of p grown o (own_driver start p grown (pmux_like c count selects a (flat_map (λ (s : List SigBit). s) parts) (at_pin c S) y) (Word Pmux) i o)) (own_in p grown start (pmux_like c count selects a (flat_map (λ (s : List SigBit). s) parts) (at_pin c S) y) (Word Pmux) refl i o at))))
