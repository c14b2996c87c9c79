-- The folds that the pass changes, and what they give.
use Rattle.std.proofs.Common.{◌≡◌, ℕ, zero, suc, Bool, true, false, List, [], ◌∷◌, map, Option, Some, None, refl, sym, ◌∙◌, ap, subst}
use Rattle.std.specs.Prelude.{if◌then◌else◌, slice_index_or}
use Rattle.std.specs.List.{fold}
use Rattle.std.specs.Option.{option_map_or}
use Rattle.std.proofs.lemmas.Bool.{and_parts}
use Rattle.cell_types.specs.PinName.{pin_text}
use Rattle.cell_types.specs.declared.kind.CellKind.{CellKind}
use Rattle.cell_types.specs.declared.kind.CellKind.TheVariants.{Word}
use Rattle.cell_types.specs.declared.pin_name.PinName.TheVariants.{A, B, S, Y}
use Rattle.cell_types.specs.declared.word.FoldKind.{FoldKind}
use Rattle.cell_types.specs.declared.word.FoldKind.TheVariants as Folds
use Rattle.cell_types.specs.declared.word.WordKind.TheVariants.{Fold}
use Rattle.cell_word.specs.Folds.{folded_of}
use Rattle.cell_word.specs.Words.{one_bit_of}
use Rattle.rtl_bits.proofs.Orders.{Below_refl}
use Rattle.rtl_bits.specs.Knowledge.{Below}
use Rattle.rtl_bits.specs.Tables.{and_of, or_of}
use Rattle.rtl_bits.specs.declared.bit.Bit.{Bit}
use Rattle.rtl_bits.specs.declared.bit.Bit.TheVariants.{S0, S1, X}
use Rattle.rtl_ir.specs.Attributes.{is_kept}
use Rattle.rtl_ir.specs.Flat.Cell.{cell_kind, cell_shape}
use Rattle.rtl_ir.specs.Flat.Place.{Path, Place}
use Rattle.rtl_ir.specs.Parameters.{signal_at}
use Rattle.rtl_ir.specs.Signals.{same_value}
use Rattle.rtl_ir.specs.Types.{Ports}
use Rattle.rtl_ir.specs.declared.cell.Cell.{Cell}
use Rattle.rtl_ir.specs.declared.module.Link.{Link}
use Rattle.rtl_ir.specs.declared.wire.Wire.{Wire}
use Rattle.rtl_sig.specs.declared.sig.SigBit.{SigBit}
use Rattle.rtl_sig.specs.declared.sig.WireBit.{WireBit}
use Rattle.net_model.specs.Run.{Time}
use Rattle.net_model.specs.Valuation.{Valuation, read_words}
use Rattle.net_model.specs.Value.{value_of, worked_of}
use Rattle.follow_laws.specs.Inputs.{followed_cell}
use Rattle.pass_laws.proofs.Driving.{own_driver}
use Rattle.pass_laws.proofs.SamePlaces.{value_is}
use Rattle.opt_expr.proofs.Known.{words_of, words_read_are}
use Rattle.opt_expr.proofs.Rows.{bit_in}
use Rattle.opt_expr.specs.Places.{begins_with}
use Rattle.opt_more.specs.Reduce.{fold_of, folds_to, neutral_of}
use Rattle.opt_more.proofs.FoldBits.{IsFold, and_folds, or_folds}

-- the table of a fold, and the bit that one of its bits may decide, by the constant that does not count
abbrev pub op_of : Bit → Bit → Bit → Bit
op_of S1 = and_of
op_of c = or_of

abbrev pub high_of : Bit → Bit
high_of S1 = S0
high_of c = S1

-- a kind folds with this table, from this constant on
pub record FoldsWith (own : FoldKind) (neutral : Bit) : Type 0 where
  pub law : IsFold (op_of neutral) neutral (high_of neutral)
  pub is : (bits : List Bit) → folded_of own bits ≡ fold (op_of neutral) neutral bits

folds_with : (own : FoldKind) (neutral : Bit) → neutral_of (Some (Word (Fold own))) ≡ Some neutral → FoldsWith own neutral
folds_with Folds.And neutral e = let same : S1 ≡ neutral = cc in subst (FoldsWith Folds.And) same (record { law = and_folds; is = λ bits. refl })
folds_with Folds.Or neutral e = let same : S0 ≡ neutral = cc in subst (FoldsWith Folds.Or) same (record { law = or_folds; is = λ bits. refl })
folds_with Folds.Bool neutral e = let same : S0 ≡ neutral = cc in subst (FoldsWith Folds.Bool) same (record { law = or_folds; is = λ bits. refl })
folds_with own neutral e = absurd (cc)

-- a cell is a fold with this constant
pub record IsFoldCell (c : Cell) (neutral : Bit) : Type 0 where
  pub own : FoldKind
  pub kind : cell_kind c ≡ Some (Word (Fold own))
  pub with : FoldsWith own neutral

pub fold_cell : (c : Cell) (neutral : Bit) → fold_of c ≡ Some neutral → IsFoldCell c neutral
fold_cell c neutral e = by (is_kept c.attributes) (cell_kind c) refl e
  where
    by : (t : Bool) (o : Option CellKind) → cell_kind c ≡ o → (if t then None else neutral_of o) ≡ Some neutral → IsFoldCell c neutral
    by true o k f = absurd (cc)
    by false (Some (Word (Fold own))) k f = record { own = own; kind = k; with = folds_with own neutral f }
    by false o k f = absurd (cc)

-- a cell that folds to a bit
pub record FoldsTo (neutral : Bit) (b : WireBit) (c : Cell) : Type 0 where
  pub cell : IsFoldCell c neutral
  pub begins : begins_with b (signal_at c.pins (pin_text Y)) ≡ true

pub folds_to_is : (neutral : Bit) (b : WireBit) (c : Cell) → folds_to neutral b c ≡ true → FoldsTo neutral b c
folds_to_is neutral b c e =
    let both = and_parts (option_map_or (same_value neutral) (fold_of c) false) (begins_with b (signal_at c.pins (pin_text Y))) e in
    record { cell = by (fold_of c) refl both.0; begins = both.1 }
  where
    by : (o : Option Bit) → fold_of c ≡ o → option_map_or (same_value neutral) o false ≡ true → IsFoldCell c neutral
    by None f g = absurd (cc)
    by (Some own) f g = fold_cell c neutral (f ∙ ap Some (sym (value_is neutral own g)))

-- following changes no fold to another one
pub fold_stays : (ports : Ports) (links : List Link) (c : Cell) → fold_of (followed_cell ports links c) ≡ fold_of c
unfolding cell_kind
fold_stays ports links c = refl

-- a bit of a word of one bit
abbrev pub bit_at : Bit → ℕ → ℕ → Bit
bit_at v width at = slice_index_or (one_bit_of v width) at X

pub bit_below : (u v : Bit) (width at : ℕ) → Below u v → Below (bit_at u width at) (bit_at v width at)
bit_below u v width zero h = h
bit_below u v width (suc at) h = Below_refl (bit_at v width (suc at))

-- what a fold gives
pub fold_worked : (own : FoldKind) (c : Cell) (f : SigBit → Bit) (b s : List Bit) (at : ℕ) → worked_of (cell_shape (Word (Fold own)) c.params).kind (cell_shape (Word (Fold own)) c.params) (map f (signal_at c.pins (pin_text A)) ∷ b ∷ s ∷ []) at
    ≡ bit_at (folded_of own (map f (signal_at c.pins (pin_text A)))) (cell_shape (Word (Fold own)) c.params).widths.y at
unfolding cell_shape
fold_worked own c f b s at = refl

pub fold_value : (start : SigBit → Bit) (p : Path) (wires : List Wire) (t : Time Place) (w : Valuation) (c : Cell) (own : FoldKind) (at : ℕ) (b : WireBit)
    → value_of (own_driver start p wires c (Word (Fold own)) at b) t w ≡ bit_at (folded_of own (map (bit_in p wires w) (signal_at c.pins (pin_text A)))) (cell_shape (Word (Fold own)) c.params).widths.y at
fold_value start p wires t w c own at b =
    by
    ∙ ap (λ z. worked_of (cell_shape (Word (Fold own)) c.params).kind (cell_shape (Word (Fold own)) c.params) z at) (words_read_are p wires w c)
    ∙ fold_worked own c (bit_in p wires w) (map (bit_in p wires w) (signal_at c.pins (pin_text B))) (map (bit_in p wires w) (signal_at c.pins (pin_text S))) at
  where
    by : value_of (own_driver start p wires c (Word (Fold own)) at b) t w ≡ worked_of (cell_shape (Word (Fold own)) c.params).kind (cell_shape (Word (Fold own)) c.params) (read_words w (words_of p wires c)) at
    by = refl
