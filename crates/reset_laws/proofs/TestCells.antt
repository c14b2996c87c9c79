-- A cell with one open input gives what it is probed to give.
use Rattle.std.proofs.Common.{◌≡◌, ℕ, zero, suc, ◌+◌, Bool, true, false, cond, List, [], ◌∷◌, Some, inl, inr, ◌⊎◌, refl, sym, ◌∙◌, ap, subst, arith}
use Rattle.std.specs.Prelude.{count_by, find, flat_map, fold, map, not}
use Rattle.rtl_bits.specs.declared.bit.Bit.{Bit}
use Rattle.rtl_bits.specs.declared.bit.Bit.TheVariants.{X}
use Rattle.rtl_bits.specs.Knowledge.{AreBelow, Below}
use Rattle.rtl_sig.specs.declared.sig.SigBit.{SigBit}
use Rattle.rtl_sig.specs.declared.sig.SigBit.TheVariants.{Fixed, Wire as OnWire}
use Rattle.cell_types.specs.declared.gate.GateKind.{GateKind}
use Rattle.cell_types.specs.declared.gate.GateKind.TheVariants as Gates
use Rattle.cell_types.specs.declared.kind.CellKind.{CellKind}
use Rattle.cell_types.specs.declared.kind.CellKind.TheVariants as Cells
use Rattle.cell_types.specs.declared.pin_name.PinName.TheVariants.{A, B, S}
use Rattle.cell_types.specs.declared.word.WordKind.{WordKind}
use Rattle.cell_types.specs.declared.word.WordKind.TheVariants as Words
use Rattle.cell_types.specs.Shape.{made_shape}
use Rattle.cell_word.specs.Values.{InputsBelow}
use Rattle.rtl_ir.specs.EventTests.{input_signals, lowest_bit, probe, probed, is_open}
use Rattle.rtl_ir.specs.Flat.Cell.{cell_shape}
use Rattle.rtl_ir.specs.Flat.Driver.{Worked}
use Rattle.rtl_ir.specs.Flat.Place.{Path, Place}
use Rattle.rtl_ir.specs.Flat.Point.{pin_points, points}
use Rattle.rtl_ir.specs.Follow.{follow_joins}
use Rattle.rtl_ir.specs.declared.follow.Join.{Join}
use Rattle.rtl_ir.specs.Parameters.{given_params}
use Rattle.rtl_ir.specs.Signals.{is_constant}
use Rattle.rtl_ir.specs.declared.cell.Cell.{Cell}
use Rattle.rtl_ir.specs.declared.wire.Wire.{Wire}
use Rattle.net_model.proofs.Members.{In-left, In-right}
use Rattle.net_model.proofs.Orders.{below}
use Rattle.net_model.proofs.Reading.{at_kept}
use Rattle.net_model.specs.Lists.{In}
use Rattle.net_model.specs.Run.{Time}
use Rattle.net_model.specs.Valuation.{Valuation, read_all}
use Rattle.net_model.specs.Value.{value_of}
use Rattle.reset_laws.proofs.ChoiceValue.{had}

-- a kind of combinational cells
abbrev pub IsCombinational : CellKind → Type 0
IsCombinational (Cells.Word kind) = Unit {0}
IsCombinational (Cells.Gate kind) = Unit {0}
IsCombinational kind = ⊥

module _ (p : Path) (wires : List Wire) (w : Valuation) where
  -- what words have
  abbrev pub had_words : List (List SigBit) → List (List Bit)
  had_words signals = map (λ (signal : List SigBit). map (had p wires w) signal) signals

  read_had : (signal : List SigBit) → read_all w (points p wires signal) ≡ map (had p wires w) signal
  read_had [] = refl
  read_had (s ∷ signal) = ap (λ z. had p wires w s ∷ z) (read_had signal)

  -- the row of a combinational cell gives the lowest bit of what it makes of the words at its inputs
  abbrev row_value : CellKind → Cell → Time Place → Bit
  row_value kind c t =
      value_of (Worked (cell_shape kind c.params) (pin_points p wires c.pins A ∷ pin_points p wires c.pins B ∷ pin_points p wires c.pins S ∷ []) 0) t w

  abbrev read_words_of : List (List SigBit) → List (List Bit)
  read_words_of signals = map (λ (signal : List SigBit). read_all w (points p wires signal)) signals

  words_same : (signals : List (List SigBit)) → read_words_of signals ≡ had_words signals
  words_same [] = refl
  words_same (s ∷ signals) = λ i. read_had s i ∷ words_same signals i

  word_row : (k : WordKind) (c : Cell) (t : Time Place) → row_value (Cells.Word k) c t ≡ lowest_bit (Cells.Word k) c (read_words_of (input_signals (Cells.Word k) c))
  unfolding cell_shape
  word_row (Words.Unary k) c t = refl
  word_row (Words.Fold k) c t = refl
  word_row (Words.Bitwise k) c t = refl
  word_row (Words.Logic k) c t = refl
  word_row (Words.Equal k) c t = refl
  word_row (Words.Order k) c t = refl
  word_row (Words.Arith k) c t = refl
  word_row (Words.Division k) c t = refl
  word_row (Words.Shift k) c t = refl
  word_row Words.Mux c t = refl
  word_row Words.Pmux c t = refl
  word_row Words.Slice c t = refl
  word_row Words.Concat c t = refl
  word_row Words.Buf c t = refl
  word_row Words.Bwmux c t = refl
  word_row Words.Bmux c t = refl
  word_row Words.Demux c t = refl

  gate_row : (k : GateKind) (c : Cell) (t : Time Place) → row_value (Cells.Gate k) c t ≡ lowest_bit (Cells.Gate k) c (read_words_of (input_signals (Cells.Gate k) c))
  unfolding cell_shape
  gate_row Gates.Buf c t = refl
  gate_row Gates.Not c t = refl
  gate_row Gates.And c t = refl
  gate_row Gates.Nand c t = refl
  gate_row Gates.Or c t = refl
  gate_row Gates.Nor c t = refl
  gate_row Gates.Xor c t = refl
  gate_row Gates.Xnor c t = refl
  gate_row Gates.AndNot c t = refl
  gate_row Gates.OrNot c t = refl
  gate_row Gates.Mux c t = refl
  gate_row Gates.Nmux c t = refl

  pub row_lowest : (kind : CellKind) → IsCombinational kind → (c : Cell) (t : Time Place) → row_value kind c t ≡ lowest_bit kind c (had_words (input_signals kind c))
  row_lowest (Cells.Word k) i c t = word_row k c t ∙ ap (lowest_bit (Cells.Word k) c) (words_same (input_signals (Cells.Word k) c))
  row_lowest (Cells.Gate k) i c t = gate_row k c t ∙ ap (lowest_bit (Cells.Gate k) c) (words_same (input_signals (Cells.Gate k) c))
  row_lowest (Cells.Storage k) i c t = absurd i
  row_lowest (Cells.StorageGate k) i c t = absurd i
  row_lowest (Cells.Memory k) i c t = absurd i

-- better known inputs give a lowest bit that is known as well
lowest_below : (kind : CellKind) → IsCombinational kind → (c : Cell) (low high : List (List Bit)) → InputsBelow Below low high → Below (lowest_bit kind c low) (lowest_bit kind c high)
lowest_below (Cells.Word k) i c low high h =
    at_kept Below below _ _ (below.words (made_shape (Cells.Word k) (given_params c.params)) low high h) 0 X
lowest_below (Cells.Gate k) i c low high h =
    below.gates k _ _ _ _ _ _ (at_kept Below below _ _ (h 0) 0 X) (at_kept Below below _ _ (h 1) 0 X) (at_kept Below below _ _ (h 2) 0 X)
lowest_below (Cells.Storage k) i c low high h = absurd i
lowest_below (Cells.StorageGate k) i c low high h = absurd i
lowest_below (Cells.Memory k) i c low high h = absurd i

module _ (f g : SigBit → Bit) where
  word_below : (signal : List SigBit) → ((s : SigBit) → In s signal → Below (f s) (g s)) → AreBelow (map f signal) (map g signal)
  word_below [] h = tt
  word_below (s ∷ signal) h = (h s (inl refl), word_below signal (λ r i. h r (inr i)))

  words_below : (signals : List (List SigBit)) → ((s : SigBit) → In s (flat_map (λ (signal : List SigBit). signal) signals) → Below (f s) (g s)) → InputsBelow Below (map (λ (signal : List SigBit). map f signal) signals) (map (λ (signal : List SigBit). map g signal) signals)
  words_below [] h at = tt
  words_below (signal ∷ signals) h zero = word_below signal (λ s i. h s (In-left s signal (flat_map (λ (z : List SigBit). z) signals) i))
  words_below (signal ∷ signals) h (suc at) = words_below signals (λ s i. h s (In-right s signal (flat_map (λ (z : List SigBit). z) signals) i)) at

-- the only one that passes a test is the first one that does
module _ (test : SigBit → Bool) where
  passing : List SigBit → ℕ
  passing [] = 0
  passing (x ∷ xs) = cond (test x) 1 0 + passing xs

  passing_from : (n : ℕ) (xs : List SigBit) → fold (λ k x. k + cond (test x) 1 0) n xs ≡ n + passing xs
  unfolding passing
  passing_from n [] = omega arith
  passing_from n (x ∷ xs) = omega (arith, passing_from (n + cond (test x) 1 0) xs)

  passing_is : (xs : List SigBit) → count_by test xs ≡ passing xs
  passing_is xs = omega (arith, passing_from 0 xs)

  none_passes : (xs : List SigBit) → passing xs ≡ 0 → (s : SigBit) → In s xs → test s ≡ true → ⊥
  unfolding passing
  none_passes [] e s i f = i
  none_passes (x ∷ xs) e s (inl g) f = absurd (let one : ◌≡◌ {A = ℕ} (cond (test x) 1 0) 1 = ap {B = ℕ} (λ t. cond t 1 0) (ap test (sym g) ∙ f) in omega (arith, e, one))
  none_passes (x ∷ xs) e s (inr i) f = none_passes xs (omega (arith, e)) s i f

  only : (xs : List SigBit) (x : SigBit) → passing xs ≡ 1 → find test xs ≡ Some x → (s : SigBit) → In s xs → test s ≡ true → s ≡ x
  unfolding passing
  only [] x e found s i f = absurd i
  only (y ∷ xs) x e found s i f = by (test y) refl found i (only xs x)
    where
      by : (t : Bool) → test y ≡ t → cond t (Some y) (find test xs) ≡ Some x → (s ≡ y) ⊎ In s xs → (passing xs ≡ 1 → find test xs ≡ Some x → (s : SigBit) → In s xs → test s ≡ true → s ≡ x) → s ≡ x
      by true h k (inl g) later = let same : y ≡ x = cc in g ∙ same
      by true h k (inr j) later =
          let one : ◌≡◌ {A = ℕ} (cond (test y) 1 0) 1 = ap {B = ℕ} (λ t. cond t 1 0) h in
          absurd (none_passes xs (omega (arith, e, one)) s j f)
      by false h k (inl g) later = absurd (let no : true ≡ false = sym f ∙ ap test g ∙ h in cc)
      by false h k (inr j) later =
          let none : ◌≡◌ {A = ℕ} (cond (test y) 1 0) 0 = ap {B = ℕ} (λ t. cond t 1 0) h in
          later (omega (arith, e, none)) k s j f

  pub only_passes : (xs : List SigBit) (x : SigBit) → count_by test xs ≡ 1 → find test xs ≡ Some x → (s : SigBit) → In s xs → test s ≡ true → s ≡ x
  only_passes xs x e = only xs x (sym (passing_is xs) ∙ e)

-- where the inputs that follow to constants have no less than they, and the open one no less than a bit, the cell has no less
-- than it is probed to give of that bit
module _ (p : Path) (wires : List Wire) (w : Valuation) (js : List Join) (constant : (s : SigBit) (c : Bit) → follow_joins js s ≡ Fixed c → Below c (had p wires w s)) where
  pub probe_below : (kind : CellKind) → IsCombinational kind → (c : Cell) (x : SigBit) (bit : Bit) → count_by (is_open js) (flat_map (λ (s : List SigBit). s) (input_signals kind c)) ≡ 1 → find (is_open js) (flat_map (λ (s : List SigBit). s) (input_signals kind c)) ≡ Some x → Below bit (had p wires w x) → Below (probe js kind c bit) (lowest_bit kind c (had_words p wires w (input_signals kind c)))
  probe_below kind i c x bit once found h =
      lowest_below kind i c _ _ (words_below (λ s. probed bit (follow_joins js s)) (had p wires w) (input_signals kind c) each)
    where
      each : (s : SigBit) → In s (flat_map (λ (z : List SigBit). z) (input_signals kind c)) → Below (probed bit (follow_joins js s)) (had p wires w s)
      each s j = by (follow_joins js s) refl
        where
          by : (r : SigBit) → follow_joins js s ≡ r → Below (probed bit r) (had p wires w s)
          by (Fixed c) e = constant s c e
          by (OnWire b) e =
              let open_here : is_open js s ≡ true = ap (λ z. not (is_constant z)) e in
              let same : s ≡ x = only_passes (is_open js) (flat_map (λ (z : List SigBit). z) (input_signals kind c)) x once found s j open_here in
              subst (λ z. Below bit (had p wires w z)) (sym same) h
