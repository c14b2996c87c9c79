-- What the three cells of multiplexers give, over a valuation that meets their rows.
use Rattle.std.proofs.Common.{◌≡◌, ◌<◌, ◌≤◌, ℕ, zero, suc, ◌+◌, ◌%◌, ◌^◌, max, false, List, [], ◌∷◌, length, Some, refl, sym, ◌∙◌, ap, subst, arith}
use Rattle.std.specs.Prelude.{◌&&◌, codes, map, nat_lt, slice_get, slice_index_or}
use Rattle.std.specs.List.{fold, range_with_len}
use Rattle.std.proofs.lemmas.List.FromFn.{get_or-map-range_with_len}
use Rattle.std.proofs.Math.Nat.{mod-eq_of_lt}
use Rattle.cell_types.specs.PinName.{pin_text}
use Rattle.cell_types.specs.Shape.{small}
use Rattle.cell_types.specs.declared.kind.CellKind.TheVariants.{Word}
use Rattle.cell_types.specs.declared.pin_name.PinName.TheVariants.{A, B, S, Y}
use Rattle.cell_types.specs.declared.word.EqualKind.TheVariants.{Eq}
use Rattle.cell_types.specs.declared.word.FoldKind.TheVariants.{Or}
use Rattle.cell_types.specs.declared.word.WordKind.{WordKind}
use Rattle.cell_types.specs.declared.word.WordKind.TheVariants.{Equal, Fold, Mux}
use Rattle.cell_word.specs.Folds.{agreeing_of, all_of}
use Rattle.cell_word.specs.Values.{value_of}
use Rattle.rtl_bits.proofs.NumberLemmas.{number_of_bits_of}
use Rattle.rtl_bits.specs.Knowledge.{Below}
use Rattle.rtl_bits.specs.Numbers.{number_of}
use Rattle.rtl_bits.specs.Tables.{and_of, mux_of, not_of, or_of, xor_of}
use Rattle.rtl_bits.specs.declared.bit.Bit.{Bit}
use Rattle.rtl_bits.specs.declared.bit.Bit.TheVariants.{S0, S1, X}
use Rattle.rtl_ir.specs.Build.{integer_param, pin_of, whole}
use Rattle.rtl_ir.specs.Constants.{low_bits}
use Rattle.rtl_ir.specs.Flat.Cell.{cell_kind, cell_rows, cell_shape}
use Rattle.rtl_ir.specs.Parameters.{signal_at}
use Rattle.rtl_ir.specs.declared.cell.Cell.{Cell}
use Rattle.rtl_sig.specs.declared.sig.SigBit.{SigBit}
use Rattle.rtl_sig.specs.declared.sig.SigBit.TheVariants.{Wire as OnWire}
use Rattle.rtl_sig.specs.declared.sig.WireBit.{WireBit}
use Rattle.net_model.specs.Lists.{In}
use Rattle.net_model.specs.Picked as picked
use Rattle.pass_laws.proofs.Driving.{own_driver, own_in, row_of}
use Rattle.build_laws.proofs.Moments.{IsCellMet, Moment, seen, seen_all}

-- the number of a width that is given as an integer
low_number : (n width : ℕ) → number_of (low_bits n width) ≡ n % 2 ^ width
unfolding low_bits
low_number n width = number_of_bits_of n width

width_number : (n : ℕ) → n ≤ 4096 → small (number_of (low_bits n 32)) ≡ n
width_number n few =
    let under : n < 4294967296 = omega arith in
    let same : number_of (low_bits n 32) ≡ n = low_number n 32 ∙ mod-eq_of_lt under in
    ap small same ∙ omega arith

zero_number : number_of (low_bits 0 32) ≡ 0
zero_number = low_number 0 32

-- a bit of a whole wire
pub whole_at : (wire from width k : ℕ) → k < width → slice_get (map OnWire (map (λ at. record { wire = wire; at = at }) (range_with_len from width))) k ≡ Some (OnWire (record { wire = wire; at = from + k }))
whole_at wire from zero k lt = absurd (omega (arith, lt))
whole_at wire from (suc n) zero lt =
    let here : from ≡ from + 0 = omega arith in
    ap (λ z. Some (OnWire (record { wire = wire; at = z }))) here
whole_at wire from (suc n) (suc k) lt =
    let later : (from + 1) + k ≡ from + suc k = omega arith in
    whole_at wire (from + 1) n k (omega (arith, lt)) ∙ ap (λ z. Some (OnWire (record { wire = wire; at = z }))) later

pub whole_get : (wire width k : ℕ) → k < width → slice_get (whole wire width) k ≡ Some (OnWire (record { wire = wire; at = k }))
whole_get wire width k lt =
    let here : 0 + k ≡ k = omega arith in
    whole_at wire 0 width k lt ∙ ap (λ z. Some (OnWire (record { wire = wire; at = z }))) here

module _ (m : Moment) where
  -- a bit of the output of a word cell has no less than the cell's value
  word_row : (c : Cell) (kind : WordKind) → cell_kind c ≡ Some (Word kind) → IsCellMet m c → (k : ℕ) (b : WireBit) → slice_get (signal_at c.pins (pin_text Y)) k ≡ Some (OnWire b)
      → Below (slice_index_or (value_of kind (cell_shape (Word kind) c.params) (seen_all m (signal_at c.pins (pin_text A))) (seen_all m (signal_at c.pins (pin_text B))) (seen_all m (signal_at c.pins (pin_text S)))) k X) (seen m (OnWire b))
  unfolding cell_shape
  word_row c kind is met k b e =
      met (row_of m.path m.wires b (own_driver m.start m.path m.wires c (Word kind) k b))
      (subst (λ z. In (row_of m.path m.wires b (own_driver m.start m.path m.wires c (Word kind) k b)) (cell_rows m.start m.ports m.path m.wires c z)) (sym is) (own_in m.path m.wires m.start c (Word kind) refl k b e))

  -- `$mux`
  abbrev pub mux_made : List ℕ → List SigBit → List SigBit → SigBit → ℕ → Cell
  mux_made name a b s wire = record {
    kind_name = codes "$mux";
    name = name;
    params = integer_param (codes "\\WIDTH") (length a) ∷ [];
    pins = pin_of (codes "\\A") a ∷ pin_of (codes "\\B") b ∷ pin_of (codes "\\S") (s ∷ []) ∷ pin_of (codes "\\Y") (whole wire (length a)) ∷ [];
    attributes = [];
  }

  pub mux_gives : (name : List ℕ) (a b : List SigBit) (s : SigBit) (wire : ℕ) → length a ≤ 4096 → IsCellMet m (mux_made name a b s wire) → (k : ℕ) → k < length a
      → Below (mux_of (slice_index_or (seen_all m a) k X) (slice_index_or (seen_all m b) k X) (seen m s)) (seen m (OnWire (record { wire = wire; at = 0 + k })))
  unfolding cell_kind cell_shape
  mux_gives name a b s wire few met k lt =
      let width : ℕ = small (number_of (low_bits (length a) 32)) in
      let wide : width ≡ length a = width_number (length a) few in
      let under : k < width = omega (arith, wide, lt) in
      let value : slice_index_or (map (λ at. mux_of (slice_index_or (seen_all m a) at X) (slice_index_or (seen_all m b) at X) (seen m s)) (range_with_len 0 width)) k X ≡ mux_of (slice_index_or (seen_all m a) k X) (slice_index_or (seen_all m b) k X) (seen m s) =
      get_or-map-range_with_len (λ at. mux_of (slice_index_or (seen_all m a) at X) (slice_index_or (seen_all m b) at X) (seen m s)) 0 width k k X under (omega arith) in
      subst (λ z. Below z (seen m (OnWire (record { wire = wire; at = 0 + k })))) value
      (word_row (mux_made name a b s wire) Mux refl met k (record { wire = wire; at = 0 + k }) (whole_at wire 0 (length a) k lt))

  -- `$reduce_or`
  abbrev pub or_made : List ℕ → List SigBit → ℕ → Cell
  or_made name bits wire = record {
    kind_name = codes "$reduce_or";
    name = name;
    params = integer_param (codes "\\A_SIGNED") 0 ∷ integer_param (codes "\\A_WIDTH") (length bits) ∷ integer_param (codes "\\Y_WIDTH") 1 ∷ [];
    pins = pin_of (codes "\\A") bits ∷ pin_of (codes "\\Y") (whole wire 1) ∷ [];
    attributes = [];
  }

  pub or_gives : (name : List ℕ) (bits : List SigBit) (wire : ℕ) → IsCellMet m (or_made name bits wire) → Below (fold or_of S0 (seen_all m bits)) (seen m (OnWire (record { wire = wire; at = 0 })))
  unfolding cell_kind
  or_gives name bits wire met = word_row (or_made name bits wire) (Fold Or) refl met 0 (record { wire = wire; at = 0 }) refl

  -- `$eq` of pairs, A from the second ones and B from the first ones
  abbrev pub equal_made : List ℕ → List (SigBit × SigBit) → ℕ → Cell
  equal_made name places wire = record {
    kind_name = codes "$eq";
    name = name;
    params = integer_param (codes "\\A_SIGNED") 0 ∷ integer_param (codes "\\A_WIDTH") (length places) ∷ integer_param (codes "\\B_SIGNED") 0 ∷ integer_param (codes "\\B_WIDTH") (length places) ∷ integer_param (codes "\\Y_WIDTH") 1 ∷ [];
    pins = pin_of (codes "\\A") (map (λ (q : SigBit × SigBit). q.1) places) ∷ pin_of (codes "\\B") (map (λ (q : SigBit × SigBit). q.0) places) ∷ pin_of (codes "\\Y") (whole wire 1) ∷ [];
    attributes = [];
  }

  -- whether the two of a pair are equal
  abbrev pub pair_match : SigBit × SigBit → Bit
  pair_match q = picked.equal_of (seen m q.1) (seen m q.0)

  shifted : (f : ℕ → Bit) (from n : ℕ) → map f (range_with_len (from + 1) n) ≡ map (λ at. f (suc at)) (range_with_len from n)
  shifted f from zero = refl
  shifted f from (suc n) =
      let next : from + 1 ≡ suc from = omega arith in
      (λ i. f (next i) ∷ shifted f (from + 1) n i)

  pairs_agree : (places : List (SigBit × SigBit)) → map (λ at. not_of (xor_of (slice_index_or (seen_all m (map (λ (q : SigBit × SigBit). q.1) places)) at S0) (slice_index_or (seen_all m (map (λ (q : SigBit × SigBit). q.0) places)) at S0))) (range_with_len 0 (length places)) ≡ map pair_match places
  pairs_agree [] = refl
  pairs_agree (q ∷ places) =
      ap (λ z. pair_match q ∷ z)
      (shifted (λ at. not_of (xor_of (slice_index_or (seen_all m (map (λ (q : SigBit × SigBit). q.1) (q ∷ places))) at S0) (slice_index_or (seen_all m (map (λ (q : SigBit × SigBit). q.0) (q ∷ places))) at S0))) 0 (length places)
      ∙ pairs_agree places)

  seen_long : (f : SigBit × SigBit → SigBit) (places : List (SigBit × SigBit)) → length (seen_all m (map f places)) ≡ length places
  seen_long f [] = refl
  seen_long f (q ∷ places) = ap suc (seen_long f places)

  pub equal_gives : (name : List ℕ) (places : List (SigBit × SigBit)) (wire : ℕ) → IsCellMet m (equal_made name places wire) → Below (fold and_of S1 (map pair_match places)) (seen m (OnWire (record { wire = wire; at = 0 })))
  unfolding cell_kind cell_shape
  equal_gives name places wire met =
      let a : List Bit = seen_all m (map (λ (q : SigBit × SigBit). q.1) places) in
      let b : List Bit = seen_all m (map (λ (q : SigBit × SigBit). q.0) places) in
      let la : length a ≡ length places = seen_long (λ (q : SigBit × SigBit). q.1) places in
      let lb : length b ≡ length places = seen_long (λ (q : SigBit × SigBit). q.0) places in
      let wide : max (length a) (length b) ≡ length places = omega (arith, la, lb) in
      let unsigned : nat_lt 0 (number_of (low_bits 0 32)) ≡ false = ap (nat_lt 0) zero_number in
      let value : all_of (agreeing_of false a b (max (length a) (length b))) ≡ fold and_of S1 (map pair_match places) =
      ap (λ n. all_of (agreeing_of false a b n)) wide ∙ ap all_of (pairs_agree places) in
      subst (λ z. Below z (seen m (OnWire (record { wire = wire; at = 0 })))) value
      (subst (λ s. Below (all_of (agreeing_of s a b (max (length a) (length b)))) (seen m (OnWire (record { wire = wire; at = 0 })))) (ap (λ s. s && s) unsigned)
      (word_row (equal_made name places wire) (Equal Eq) refl met 0 (record { wire = wire; at = 0 }) refl))
