-- The cells of a write port: the match of its address, the select of a run of its enable, and the multiplexer.
use Rattle.std.proofs.Common.{◌≡◌, ◌<◌, ◌≤◌, ℕ, zero, suc, ◌+◌, ◌^◌, List, [], ◌∷◌, ◌++◌, length, refl, sym, ◌∙◌, ap, subst, arith}
use Rattle.std.specs.Prelude.{codes, drop, map, slice_index_or, take}
use Rattle.std.specs.List.{range_with_len}
use Rattle.std.proofs.lemmas.List.{get_or-append-add, get_or-drop, get_or-take, get_or_append_left}
use Rattle.cell_types.specs.declared.word.BitwiseKind.TheVariants.{And}
use Rattle.cell_types.specs.declared.word.EqualKind.TheVariants.{Eq}
use Rattle.cell_types.specs.declared.word.WordKind.TheVariants.{Bitwise, Equal, Mux}
use Rattle.cell_types.specs.declared.kind.CellKind.TheVariants.{Word}
use Rattle.rtl_bits.proofs.Orders.{Below_refl, Below_trans}
use Rattle.rtl_bits.proofs.Tables.{and_of_mono}
use Rattle.rtl_bits.specs.Knowledge.{Below}
use Rattle.cell_types.specs.Shape.{small}
use Rattle.std.proofs.lemmas.List.FromFn.{get_or-map-range_with_len}
use Rattle.std.proofs.Math.Nat.{mod-eq_of_lt}
use Rattle.rtl_bits.proofs.NumberLemmas.{number_of_bits_of}
use Rattle.rtl_sig.specs.declared.sig.WireBit.{WireBit}
use Rattle.rtl_bits.specs.Numbers.{bits_of, number_of}
use Rattle.rtl_bits.specs.Tables.{and_of, mux_of}
use Rattle.rtl_bits.specs.declared.bit.Bit.{Bit}
use Rattle.rtl_bits.specs.declared.bit.Bit.TheVariants.{S0, S1, X}
use Rattle.rtl_sig.specs.declared.sig.SigBit.{SigBit}
use Rattle.rtl_sig.specs.declared.sig.SigBit.TheVariants.{Fixed, Wire as OnWire}
use Rattle.rtl_ir.specs.Build.{Building, integer_param, made_name, pin_of, whole}
use Rattle.rtl_ir.specs.Constants.{low_bits}
use Rattle.rtl_ir.specs.Flat.Cell.{cell_kind, cell_shape}
use Rattle.rtl_ir.specs.declared.cell.Cell.{Cell}
use Rattle.net_model.specs.Mem.Expand.{address_match, mux_of_signals, run_select}
use Rattle.net_model.specs.Words.{address_is}
use Rattle.pass_laws.proofs.Driving.{own_driver, own_in, row_of}
use Rattle.build_laws.proofs.Growing.{Grows, grows_driver, grows_none}
use Rattle.build_laws.proofs.CellValues.{equal_gives, equal_made, pair_match, whole_get}
use Rattle.build_laws.proofs.Moments.{AreMet, IsCellMet, Moment, met_last, seen, seen_all}
use Rattle.build_laws.proofs.Orders.{all_folded}
use Rattle.memory_laws.proofs.PortBits.{address_folds, address_pairs, pairs_address, pairs_long, pairs_number, zero_and}
use Rattle.memory_laws.proofs.Chain.{has_at}

pub match_grows : (address : List SigBit) (number : ℕ) (b : Building) → Grows b (address_match address number b).1
match_grows address number b =
    grows_driver (codes "$eq") (Equal Eq) refl _ (pin_of (codes "\\A") address ∷ pin_of (codes "\\B") (map Fixed (bits_of number (length address))) ∷ []) (codes "\\Y") 1 b

pub select_grows : (match enable : SigBit) (b : Building) → Grows b (run_select match enable b).1
select_grows match (Fixed S1) b = grows_none b
select_grows match enable b =
    grows_driver (codes "$and") (Bitwise And) refl (integer_param (codes "\\A_SIGNED") 0 ∷ integer_param (codes "\\A_WIDTH") 1 ∷ integer_param (codes "\\B_SIGNED") 0 ∷ integer_param (codes "\\B_WIDTH") 1 ∷ integer_param (codes "\\Y_WIDTH") 1 ∷ []) (pin_of (codes "\\A") (match ∷ []) ∷ pin_of (codes "\\B") (enable ∷ []) ∷ []) (codes "\\Y") 1 b

pub mux_grows : (a c : List SigBit) (s : SigBit) (b : Building) → Grows b (mux_of_signals a c s b).1
mux_grows a c s b =
    grows_driver (codes "$mux") Mux refl _ (pin_of (codes "\\A") a ∷ pin_of (codes "\\B") c ∷ pin_of (codes "\\S") (s ∷ []) ∷ []) (codes "\\Y") (length a) b

module _ (m : Moment) where
  abbrev match_made : List ℕ → List SigBit → List SigBit → ℕ → ℕ → Cell
  match_made name address number width wire = record {
    kind_name = codes "$eq";
    name = name;
    params = integer_param (codes "\\A_SIGNED") 0 ∷ integer_param (codes "\\A_WIDTH") width ∷ integer_param (codes "\\B_SIGNED") 0 ∷ integer_param (codes "\\B_WIDTH") width ∷ integer_param (codes "\\Y_WIDTH") 1 ∷ [];
    pins = pin_of (codes "\\A") address ∷ pin_of (codes "\\B") number ∷ pin_of (codes "\\Y") (whole wire 1) ∷ [];
    attributes = [];
  }

  -- the bit of a match has no less than whether the address is the number
  pub match_stands : (address : List SigBit) (number : ℕ) (b : Building) → number < 2 ^ length address → AreMet m (address_match address number b).1.body.cells → Below (address_is (seen_all m address) number) (seen m (address_match address number b).0)
  match_stands address number b fits met =
      let wire : ℕ = length b.body.wires in
      let is : match_made (made_name b.next) address (map Fixed (bits_of number (length address))) (length address) wire ≡ equal_made m (made_name b.next) (address_pairs address number) wire =
      (λ i. match_made (made_name b.next) (sym (pairs_address address number) i) (sym (pairs_number address number) i) (sym (pairs_long address number) i) wire) in
      Below_trans _ _ _ (address_folds m address number fits)
      (Below_trans _ _ _ (all_folded (map (pair_match m) (address_pairs address number)))
      (equal_gives m (made_name b.next) (address_pairs address number) wire (subst (IsCellMet m) is (met_last m b.body.cells _ met))))

  abbrev and_made : List ℕ → SigBit → SigBit → ℕ → Cell
  and_made name match enable wire = record {
    kind_name = codes "$and";
    name = name;
    params = integer_param (codes "\\A_SIGNED") 0 ∷ integer_param (codes "\\A_WIDTH") 1 ∷ integer_param (codes "\\B_SIGNED") 0 ∷ integer_param (codes "\\B_WIDTH") 1 ∷ integer_param (codes "\\Y_WIDTH") 1 ∷ [];
    pins = pin_of (codes "\\A") (match ∷ []) ∷ pin_of (codes "\\B") (enable ∷ []) ∷ pin_of (codes "\\Y") (whole wire 1) ∷ [];
    attributes = [];
  }

  and_gives : (name : List ℕ) (match enable : SigBit) (wire : ℕ) → IsCellMet m (and_made name match enable wire) → Below (and_of (seen m match) (seen m enable)) (seen m (OnWire (record { wire = wire; at = 0 })))
  unfolding cell_kind cell_shape low_bits
  and_gives name match enable wire met =
      met (row_of m.path m.wires (record { wire = wire; at = 0 }) (own_driver m.start m.path m.wires (and_made name match enable wire) (Word (Bitwise And)) 0 (record { wire = wire; at = 0 })))
      (own_in m.path m.wires m.start (and_made name match enable wire) (Word (Bitwise And)) refl 0 (record { wire = wire; at = 0 }) refl)

  and_turned : (a b : Bit) → Below (and_of a b) (and_of b a)
  and_turned S0 b = zero_and b
  and_turned S1 S0 = refl
  and_turned S1 S1 = refl
  and_turned a S0 = refl
  and_turned S1 b = tt
  and_turned a b = tt

  and_one : (a : Bit) → Below (and_of S1 a) a
  and_one S0 = refl
  and_one S1 = refl
  and_one a = tt

  and_low : (e c d r : Bit) → Below c d → Below (and_of d e) r → Below (and_of e c) r
  and_low e c d r low h =
      Below_trans (and_of e c) (and_of e d) r (and_of_mono e e c d (Below_refl e) low) (Below_trans (and_of e d) (and_of d e) r (and_turned e d) h)

  -- the select of a run has no less than an enable and a match together
  pub select_stands : (match enable : SigBit) (c : Bit) (b : Building) → Below c (seen m match) → AreMet m (run_select match enable b).1.body.cells → Below (and_of (seen m enable) c) (seen m (run_select match enable b).0)
  select_stands match (Fixed S1) c b low met = Below_trans _ _ _ (and_one c) low
  select_stands match enable c b low met =
      and_low (seen m enable) c (seen m match) (seen m (OnWire (record { wire = length b.body.wires; at = 0 }))) low (and_gives (made_name b.next) match enable (length b.body.wires) (met_last m b.body.cells _ met))

  -- what a signal has at a place
  abbrev pub at : List SigBit → ℕ → Bit
  at signal k = has_at m.path m.wires m.has signal k

  pub at_get : (signal : List SigBit) (k : ℕ) → at signal k ≡ seen m (slice_index_or signal k (Fixed X))
  at_get [] k = refl
  at_get (s ∷ signal) zero = refl
  at_get (s ∷ signal) (suc k) = at_get signal k

  pub at_seen : (signal : List SigBit) (k : ℕ) → slice_index_or (seen_all m signal) k X ≡ at signal k
  at_seen [] k = refl
  at_seen (s ∷ signal) zero = refl
  at_seen (s ∷ signal) (suc k) = at_seen signal k

  pub at_take : (n : ℕ) (signal : List SigBit) (k : ℕ) → k < n → at (take n signal) k ≡ at signal k
  at_take n signal k lt = at_get (take n signal) k ∙ ap (seen m) (get_or-take n signal k (Fixed X) lt) ∙ sym (at_get signal k)

  pub at_drop : (n : ℕ) (signal : List SigBit) (k : ℕ) → at (drop n signal) k ≡ at signal (n + k)
  at_drop n signal k =
      at_get (drop n signal) k ∙ ap (seen m) (get_or-drop n signal k (Fixed X)) ∙ sym (at_get signal (n + k))

  pub at_left : (a c : List SigBit) (k : ℕ) → k < length a → at (a ++ c) k ≡ at a k
  at_left a c k lt = at_get (a ++ c) k ∙ ap (seen m) (get_or_append_left a c (Fixed X) k lt) ∙ sym (at_get a k)

  pub at_right : (a c : List SigBit) (k : ℕ) → at (a ++ c) (length a + k) ≡ at c k
  at_right a c k =
      at_get (a ++ c) (length a + k) ∙ ap (seen m) (get_or-append-add a c k (Fixed X)) ∙ sym (at_get c k)

  wire_at : (wire from width k : ℕ) → k < width → slice_index_or (map OnWire (map (λ at. record { wire = wire; at = at }) (range_with_len from width))) k (Fixed X) ≡ OnWire (record { wire = wire; at = from + k })
  wire_at wire from zero k lt = absurd (omega (arith, lt))
  wire_at wire from (suc n) zero lt =
      let here : from ≡ from + 0 = omega arith in
      ap (λ z. OnWire (record { wire = wire; at = z })) here
  wire_at wire from (suc n) (suc k) lt =
      let later : (from + 1) + k ≡ from + suc k = omega arith in
      wire_at wire (from + 1) n k (omega (arith, lt)) ∙ ap (λ z. OnWire (record { wire = wire; at = z })) later

  pub at_whole : (wire width k : ℕ) → k < width → at (whole wire width) k ≡ seen m (OnWire (record { wire = wire; at = k }))
  at_whole wire width k lt =
      let here : 0 + k ≡ k = omega arith in
      at_get (whole wire width) k ∙ ap (seen m) (wire_at wire 0 width k lt) ∙ ap (λ z. seen m (OnWire (record { wire = wire; at = z }))) here

  -- the number of a width
  width_number : (n : ℕ) → n ≤ 65536 → small (number_of (low_bits n 32)) ≡ n
  unfolding low_bits
  width_number n few =
      let under : n < 4294967296 = omega (arith, few) in
      let same : number_of (bits_of n 32) ≡ n = number_of_bits_of n 32 ∙ mod-eq_of_lt under in
      ap small same ∙ omega (arith, few)

  abbrev mux_made : List ℕ → List SigBit → List SigBit → SigBit → ℕ → Cell
  mux_made name a b s wire = record {
    kind_name = codes "$mux";
    name = name;
    params = integer_param (codes "\\WIDTH") (length a) ∷ [];
    pins = pin_of (codes "\\A") a ∷ pin_of (codes "\\B") b ∷ pin_of (codes "\\S") (s ∷ []) ∷ pin_of (codes "\\Y") (whole wire (length a)) ∷ [];
    attributes = [];
  }

  mux_gives : (name : List ℕ) (a c : List SigBit) (s : SigBit) (wire : ℕ) → length a ≤ 65536 → IsCellMet m (mux_made name a c s wire) → (k : ℕ) → k < length a
      → Below (mux_of (slice_index_or (seen_all m a) k X) (slice_index_or (seen_all m c) k X) (seen m s)) (seen m (OnWire (record { wire = wire; at = k })))
  unfolding cell_kind cell_shape
  mux_gives name a c s wire few met k lt =
      let width : ℕ = small (number_of (low_bits (length a) 32)) in
      let wide : width ≡ length a = width_number (length a) few in
      let under : k < width = omega (arith, wide, lt) in
      let b : WireBit = record { wire = wire; at = k } in
      let value : slice_index_or (map (λ at. mux_of (slice_index_or (seen_all m a) at X) (slice_index_or (seen_all m c) at X) (seen m s)) (range_with_len 0 width)) k X ≡ mux_of (slice_index_or (seen_all m a) k X) (slice_index_or (seen_all m c) k X) (seen m s) =
      get_or-map-range_with_len (λ at. mux_of (slice_index_or (seen_all m a) at X) (slice_index_or (seen_all m c) at X) (seen m s)) 0 width k k X under (omega arith) in
      subst (λ z. Below z (seen m (OnWire b))) value
      (met (row_of m.path m.wires b (own_driver m.start m.path m.wires (mux_made name a c s wire) (Word Mux) k b))
      (own_in m.path m.wires m.start (mux_made name a c s wire) (Word Mux) refl k b (whole_get wire (length a) k lt)))

  -- a multiplexer, place by place
  pub mux_at : (a c : List SigBit) (s : SigBit) (b : Building) (k : ℕ) → length a ≤ 65536 → k < length a → AreMet m (mux_of_signals a c s b).1.body.cells → Below (mux_of (at a k) (at c k) (seen m s)) (at (mux_of_signals a c s b).0 k)
  mux_at a c s b k few lt met =
      let wire : ℕ = length b.body.wires in
      let low = mux_gives (made_name b.next) a c s wire few (met_last m b.body.cells _ met) k lt in
      subst (λ z. Below (mux_of (at a k) (at c k) (seen m s)) z) (sym (at_whole wire (length a) k lt))
      (subst (λ z. Below (mux_of z (at c k) (seen m s)) (seen m (OnWire (record { wire = wire; at = k })))) (at_seen a k)
      (subst (λ z. Below (mux_of (slice_index_or (seen_all m a) k X) z (seen m s)) (seen m (OnWire (record { wire = wire; at = k })))) (at_seen c k) low))

wire_long : (wire from width : ℕ) → length (map OnWire (map (λ at. record { wire = wire; at = at }) (range_with_len from width))) ≡ width
wire_long wire from zero = refl
wire_long wire from (suc n) = ap suc (wire_long wire (from + 1) n)

-- a whole wire is as wide as it is
pub whole_long : (wire width : ℕ) → length (whole wire width) ≡ width
whole_long wire width = wire_long wire 0 width
