-- What is known of the output of an inverter.
use Rattle.std.proofs.Common.{◌≡◌, ◌⊎◌, ℕ, zero, suc, ◌<◌, Bool, true, List, [], ◌∷◌, length, Some, inl, inr, ⊎_elim, refl, sym, subst, arith}
use Rattle.std.specs.Prelude.{slice_index_or}
use Rattle.std.proofs.Math.ListN.{get_or-eq_default}
use Rattle.std.proofs.lemmas.Bool.{cases_lt}
use Rattle.std.proofs.lemmas.List.FromFn.{get_or-map-range_with_len, length-map-range_with_len}
use Rattle.cell_types.specs.declared.gate.GateKind.TheVariants as gate
use Rattle.cell_types.specs.declared.kind.CellKind.{CellKind}
use Rattle.cell_types.specs.declared.kind.CellKind.TheVariants as kind
use Rattle.cell_types.specs.declared.shape.Shape.{Shape}
use Rattle.cell_types.specs.declared.word.FoldKind.TheVariants.{LogicNot}
use Rattle.cell_types.specs.declared.word.UnaryKind.TheVariants.{Not}
use Rattle.cell_types.specs.declared.word.WordKind.TheVariants.{Unary, Fold}
use Rattle.cell_word.specs.Values.{value_by}
use Rattle.cell_word.specs.Words.{extended_at, fill_of, word_of}
use Rattle.rtl_bits.proofs.Orders.{Below_refl}
use Rattle.rtl_bits.specs.Knowledge.{Below}
use Rattle.rtl_bits.specs.Tables.{not_of}
use Rattle.rtl_bits.specs.declared.bit.Bit.{Bit}
use Rattle.rtl_bits.specs.declared.bit.Bit.TheVariants.{S0, S1, X, Z, M, Dash}
use Rattle.net_model.specs.Value.{worked_of}
use Rattle.opt_expr.specs.Inverters.{inverts}

-- a bit of a word is what the word's function gives, or x behind its end
word_at : (f : ℕ → Bit) (width at : ℕ) → (slice_index_or (word_of f width) at X ≡ f at) ⊎ (slice_index_or (word_of f width) at X ≡ X)
word_at f width at =
    ⊎_elim
    (λ lt. inl (get_or-map-range_with_len f 0 width at at X lt (omega arith)))
    (λ ge. inr (get_or-eq_default (word_of f width) X (omega (arith, length-map-range_with_len f 0 width))))
    (cases_lt at width)

word_below : (f : ℕ → Bit) (width at : ℕ) (z : Bit) → Below (f at) z → Below (slice_index_or (word_of f width) at X) z
word_below f width at z h =
    ⊎_elim (λ e. subst (λ a. Below a z) (sym e) h) (λ e. subst (λ a. Below a z) (sym e) tt) (word_at f width at)

-- within a word it does not matter what stands behind it
within : (bits : List Bit) (k : ℕ) (d e : Bit) → k < length bits → slice_index_or bits k d ≡ slice_index_or bits k e
within [] k d e lt = absurd (omega arith)
within (b ∷ bits) zero d e lt = refl
within (b ∷ bits) (suc k) d e lt = within bits k d e (omega arith)

one_below : (b : Bit) → Below (not_of (Rattle.cell_word.specs.Folds.any_of (b ∷ []))) (not_of b)
one_below S0 = refl
one_below S1 = refl
one_below X = tt
one_below Z = tt
one_below M = tt
one_below Dash = tt

fold_below : (a b s : List Bit) (shape : Shape) (k : ℕ) → length a ≡ 1 → k < length a → shape.kind ≡ kind.Word (Fold LogicNot)
    → Below (slice_index_or (value_by shape.kind shape (a ∷ b ∷ s ∷ [])) k X) (not_of (slice_index_or a k X))
fold_below [] b s shape k one lt e = absurd (omega arith)
fold_below (x ∷ []) b s shape zero one lt e =
    subst (λ j. Below (slice_index_or (value_by j shape ((x ∷ []) ∷ b ∷ s ∷ [])) 0 X) (not_of x)) (sym e) (one_below x)
fold_below (x ∷ []) b s shape (suc k) one lt e = absurd (omega arith)
fold_below (x ∷ y ∷ a) b s shape k one lt e = absurd (omega arith)

gate_below : (a : List Bit) (k : ℕ) → length a ≡ 1 → k < length a → Below (not_of (slice_index_or a 0 X)) (not_of (slice_index_or a k X))
gate_below [] k one lt = absurd (omega arith)
gate_below (x ∷ []) zero one lt = Below_refl (not_of x)
gate_below (x ∷ []) (suc k) one lt = absurd (omega arith)
gate_below (x ∷ y ∷ a) k one lt = absurd (omega arith)

-- each bit of the value of an inverter is below the inverse of its input's bit
pub inverse_below : (logic : Bool) (own : CellKind) (shape : Shape) → inverts logic (Some own) ≡ true → shape.kind ≡ own → (a b s : List Bit) (k : ℕ) → k < length a → (logic ≡ true → length a ≡ 1) → (own ≡ kind.Gate gate.Not → length a ≡ 1)
    → Below (worked_of own shape (a ∷ b ∷ s ∷ []) k) (not_of (slice_index_or a k X))
inverse_below logic (kind.Word (Unary Not)) shape is e a b s k lt one gate_one =
    subst (λ j. Below (slice_index_or (value_by j shape (a ∷ b ∷ s ∷ [])) k X) (not_of (slice_index_or a k X))) (sym e)
    (word_below (λ at. not_of (extended_at shape.signs.a a at)) shape.widths.y k (not_of (slice_index_or a k X))
    (subst (λ z. Below (not_of z) (not_of (slice_index_or a k X))) (within a k X (fill_of shape.signs.a a) lt) (Below_refl (not_of (slice_index_or a k X)))))
inverse_below logic (kind.Word (Fold LogicNot)) shape is e a b s k lt one gate_one = fold_below a b s shape k (one is) lt e
inverse_below logic (kind.Gate gate.Not) shape is e a b s k lt one gate_one = gate_below a k (gate_one refl) lt
inverse_below logic own shape is e a b s k lt one gate_one = absurd (cc)
