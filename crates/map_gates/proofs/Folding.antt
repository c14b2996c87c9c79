-- What the nets of folds, truths and equality have, whatever is said of bits.
use Rattle.std.proofs.Common.{◌≡◌, ℕ, min, Bool, List, length, subst, arith}
use Rattle.std.specs.Prelude.{max, slice_index_or}
use Rattle.cell_gate.specs.Gates.{output_of}
use Rattle.cell_types.specs.declared.word.BitwiseKind.TheVariants.{And, Or, Xor, Xnor}
use Rattle.cell_types.specs.declared.word.EqualKind.{EqualKind}
use Rattle.cell_types.specs.declared.word.EqualKind.TheVariants.{Eq, Ne}
use Rattle.cell_types.specs.declared.word.FoldKind.{FoldKind}
use Rattle.cell_types.specs.declared.word.FoldKind.TheVariants as Fold
use Rattle.cell_types.specs.declared.word.LogicKind.{LogicKind}
use Rattle.cell_types.specs.declared.word.LogicKind.TheVariants as Logics
use Rattle.cell_word.specs.Folds as values
use Rattle.cell_word.specs.Words.{extended_at}
use Rattle.rtl_bits.proofs.Tables.{and_of_mono, not_of_mono, or_of_mono}
use Rattle.rtl_bits.specs.Knowledge.{Below}
use Rattle.rtl_bits.specs.Tables.{not_of}
use Rattle.rtl_bits.specs.declared.bit.Bit.{Bit}
use Rattle.rtl_bits.specs.declared.bit.Bit.TheVariants.{X}
use Rattle.rtl_sig.specs.declared.sig.SigBit.{SigBit}
use Rattle.gate_nets.specs.Gate.{gate_for}
use Rattle.gate_nets.specs.declared.gate.Gate.TheVariants.{Bitwise}
use Rattle.gate_nets.proofs.Folds.{join_below, join_word}
use Rattle.gate_nets.proofs.Nets.{Goods, Logic, Net, joined_at, length-pairs, net_also, net_bitwise, net_bitwises, net_fold, net_not, net_since, net_then}
use Rattle.map_gates.specs.Folds.{equal_of, equality_of, folded_of, joining, logic_of}

-- the bit of a fold of so many bits
abbrev pub fold_bit : FoldKind → (ℕ → Bit) → ℕ → Bit
fold_bit Fold.And u n = joined_at And u n
fold_bit Fold.Or u n = joined_at Or u n
fold_bit Fold.Xor u n = joined_at Xor u n
fold_bit Fold.Xnor u n = not_of (joined_at Xor u n)
fold_bit Fold.Bool u n = joined_at Or u n
fold_bit Fold.LogicNot u n = not_of (joined_at Or u n)

-- the bit of two truths
abbrev pub logic_bit : LogicKind → (ℕ → Bit) → ℕ → (ℕ → Bit) → ℕ → Bit
logic_bit kind u m v n = output_of (gate_for (joining kind)) (joined_at Or u m) (joined_at Or v n) X

-- the bit that says whether two words of this width are equal
abbrev pub equal_bit : (ℕ → Bit) → (ℕ → Bit) → ℕ → Bit
equal_bit u v n = joined_at And (λ at. output_of (gate_for Xnor) (u at) (v at) X) n

abbrev pub equality_bit : EqualKind → (ℕ → Bit) → (ℕ → Bit) → ℕ → Bit
equality_bit Eq u v n = equal_bit u v n
equality_bit Ne u v n = not_of (equal_bit u v n)

module _ (l : Logic) where
  pub net_folded : (kind : FoldKind) (u : ℕ → Bit) (a : List SigBit) {R : Type 0} → (R → Goods l u a) → Net l R (folded_of kind a) (l.Has (fold_bit kind u (length a)))
  net_folded Fold.And u a h = net_fold l And u a h
  net_folded Fold.Or u a h = net_fold l Or u a h
  net_folded Fold.Xor u a h = net_fold l Xor u a h
  net_folded Fold.Xnor u a h =
      net_then l (net_fold l Xor u a h) λ y.
      net_not l (joined_at Xor u (length a)) (λ r. r.1)
  net_folded Fold.Bool u a h = net_fold l Or u a h
  net_folded Fold.LogicNot u a h =
      net_then l (net_fold l Or u a h) λ y.
      net_not l (joined_at Or u (length a)) (λ r. r.1)

  pub net_logic : (kind : LogicKind) (u v : ℕ → Bit) (a b : List SigBit) {R : Type 0} → (R → Goods l u a) → (R → Goods l v b) → Net l R (logic_of kind a b) (l.Has (logic_bit kind u (length a) v (length b)))
  net_logic kind u v a b h k =
      net_then l (net_fold l Or u a h) λ x.
      net_then l (net_fold l Or v b (λ r. k r.0)) λ y.
      net_bitwise l (joining kind) (joined_at Or u (length a)) (joined_at Or v (length b)) (λ r. r.0.1) (λ r. r.1)

  net_equal : (u v : ℕ → Bit) (n : ℕ) (a b : List SigBit) {R : Type 0} → (R → Goods l u a) → (R → Goods l v b) → length a ≡ n → length b ≡ n → Net l R (equal_of a b) (l.Has (equal_bit u v n))
  net_equal u v n a b h k d e =
      let agree : ℕ → Bit = λ at. output_of (gate_for Xnor) (u at) (v at) X in
      net_then l (net_also l {V = λ ys. length ys ≡ min (length a) (length b)} (net_bitwises l Xnor u v a b h k) (λ old. length-pairs (Bitwise Xnor) a b old)) λ agreeing.
      net_since l (net_fold l And agree agreeing (λ r. r.1.0))
      (λ y r w. let same : length agreeing ≡ n = omega (arith, r.1.1, d, e) in subst (λ m. l.Has (joined_at And agree m) y) same w)

  pub net_equality : (kind : EqualKind) (u v : ℕ → Bit) (n : ℕ) (a b : List SigBit) {R : Type 0} → (R → Goods l u a) → (R → Goods l v b) → length a ≡ n → length b ≡ n → Net l R (equality_of kind a b) (l.Has (equality_bit kind u v n))
  net_equality Eq u v n a b h k d e = net_equal u v n a b h k d e
  net_equality Ne u v n a b h k d e =
      net_then l (net_equal u v n a b h k d e) λ y.
      net_not l (equal_bit u v n) (λ r. r.1)

-- each is at least the bit of the value
pub folded_below : (kind : FoldKind) (a : List Bit) → Below (values.folded_of kind a) (fold_bit kind (λ at. slice_index_or a at X) (length a))
folded_below Fold.And a = join_below And a
folded_below Fold.Or a = join_below Or a
folded_below Fold.Xor a = join_below Xor a
folded_below Fold.Xnor a = not_of_mono _ _ (join_below Xor a)
folded_below Fold.Bool a = join_below Or a
folded_below Fold.LogicNot a = not_of_mono _ _ (join_below Or a)

pub logic_below : (kind : LogicKind) (a b : List Bit) → Below (values.logic_of kind a b) (logic_bit kind (λ at. slice_index_or a at X) (length a) (λ at. slice_index_or b at X) (length b))
logic_below Logics.And a b = and_of_mono _ _ _ _ (join_below Or a) (join_below Or b)
logic_below Logics.Or a b = or_of_mono _ _ _ _ (join_below Or a) (join_below Or b)

equal_below : (signed : Bool) (a b : List Bit) → Below (values.equal_of signed a b) (equal_bit (extended_at signed a) (extended_at signed b) (max (length a) (length b)))
equal_below signed a b =
    join_word And (λ at. output_of (gate_for Xnor) (extended_at signed a at) (extended_at signed b at) X) (max (length a) (length b))

pub equality_below : (kind : EqualKind) (signed : Bool) (a b : List Bit) → Below (values.equality_of kind signed a b) (equality_bit kind (extended_at signed a) (extended_at signed b) (max (length a) (length b)))
equality_below Eq signed a b = equal_below signed a b
equality_below Ne signed a b = not_of_mono _ _ (equal_below signed a b)
