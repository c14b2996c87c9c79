-- The bits that stand for patterns, and for the patterns of a case, have no less than what matches.
use Rattle.std.proofs.Common.{◌≡◌, Bool, true, false, if◌then◌else◌, List, [], ◌∷◌, length, refl, ◌∙◌, ap}
use Rattle.std.specs.Prelude.{codes, map, zip}
use Rattle.std.specs.List.{list_any}
use Rattle.cell_types.specs.declared.word.EqualKind.TheVariants.{Eq}
use Rattle.cell_types.specs.declared.word.FoldKind.TheVariants.{Or}
use Rattle.cell_types.specs.declared.word.WordKind.TheVariants.{Equal, Fold}
use Rattle.rtl_bits.proofs.Orders.{Below_refl, Below_trans}
use Rattle.rtl_bits.proofs.Tables.{and_of_mono, or_of_mono}
use Rattle.rtl_bits.specs.Knowledge.{Below, is_known}
use Rattle.rtl_bits.specs.Tables.{and_of}
use Rattle.rtl_bits.specs.declared.bit.Bit.{Bit}
use Rattle.rtl_bits.specs.declared.bit.Bit.TheVariants.{S1}
use Rattle.rtl_ir.specs.Build.{Building, made_name, pin_of}
use Rattle.rtl_ir.specs.Flat.Point.{points}
use Rattle.rtl_sig.specs.declared.sig.SigBit.{SigBit}
use Rattle.rtl_sig.specs.declared.sig.SigBit.TheVariants.{Fixed, Wire as OnWire}
use Rattle.net_model.specs.Picked.{case_match, equal_of, pattern_match}
use Rattle.net_model.specs.Proc.Mux.{asked_places, equal_cell, is_asked, joined_bits, pattern_bit, pattern_bits}
use Rattle.build_laws.proofs.Growing.{Grows, grows_both, grows_driver, grows_none, met_before}
use Rattle.build_laws.proofs.CellValues.{equal_gives, or_gives, or_made, pair_match}
use Rattle.build_laws.proofs.Moments.{AreMet, IsCellMet, Moment, met_last, seen, seen_all}
use Rattle.build_laws.proofs.Orders.{all_folded, all_right, and_below, any_folded, any_one, any_right, equal_one}
use Rattle.std.proofs.lemmas.Bool.{or_parts}

-- what is added for a pattern, for patterns, and to join them
equal_grows : (places : List (SigBit × SigBit)) (b : Building) → Grows b (equal_cell places b).1
equal_grows places b =
    grows_driver (codes "$eq") (Equal Eq) refl _ (pin_of (codes "\\A") (map (λ (q : SigBit × SigBit). q.1) places) ∷ pin_of (codes "\\B") (map (λ (q : SigBit × SigBit). q.0) places) ∷ []) (codes "\\Y") 1 b

pub pattern_grows : (places : List (SigBit × SigBit)) (b : Building) → Grows b (pattern_bit places b).1
pattern_grows [] b = grows_none b
pattern_grows ((Fixed S1, s) ∷ []) b = grows_none b
pattern_grows places b = equal_grows places b

pub patterns_grow : (signal : List SigBit) (patterns : List (List SigBit)) (b : Building) → Grows b (pattern_bits signal patterns b).1
patterns_grow signal [] b = grows_none b
patterns_grow signal (p ∷ patterns) b =
    let first = pattern_bit (asked_places p signal) b in
    grows_both b first.1 _ (pattern_grows (asked_places p signal) b) (patterns_grow signal patterns first.1)

pub joined_grow : (bits : List SigBit) (b : Building) → Grows b (joined_bits bits b).1
joined_grow (s ∷ []) b = grows_none b
joined_grow bits b = grows_driver (codes "$reduce_or") (Fold Or) refl _ (pin_of (codes "\\A") bits ∷ []) (codes "\\Y") 1 b

module _ (m : Moment) where
  -- what a pattern gives by the flat netlist
  abbrev pub matched : List SigBit → List SigBit → Bit
  matched signal pattern = pattern_match m.has (seen_all m signal) (points m.path m.wires pattern)

  -- what the patterns of a case give
  abbrev pub any_matched : List SigBit → List (List SigBit) → Bit
  any_matched signal patterns = case_match m.has (seen_all m signal) (map (points m.path m.wires) patterns)

  -- it is below what the places that are asked give
  asked_matched : (pattern signal : List SigBit) → Below (matched signal pattern) (all_right (map (pair_match m) (asked_places pattern signal)))
  asked_matched [] [] = refl
  asked_matched [] (s ∷ signal) = refl
  asked_matched (q ∷ pattern) [] = refl
  asked_matched (OnWire b ∷ pattern) (s ∷ signal) =
      and_of_mono _ _ _ _ (Below_refl _) (asked_matched pattern signal)
  asked_matched (Fixed c ∷ pattern) (s ∷ signal) = by (is_known c) (asked_matched pattern signal)
    where
      by : (t : Bool) → Below (matched signal pattern) (all_right (map (pair_match m) (asked_places pattern signal)))
          → Below (and_of (if t then equal_of (seen m s) c else S1) (matched signal pattern)) (all_right (map (pair_match m) (if t then (Fixed c, s) ∷ asked_places pattern signal else asked_places pattern signal)))
      by true h = and_of_mono _ _ _ _ (Below_refl (equal_of (seen m s) c)) h
      by false h = Below_trans _ _ _ (and_below (matched signal pattern)) h

  -- where no place is asked, the pattern matches
  pub unasked_matched : (pattern signal : List SigBit) → list_any is_asked (zip pattern signal) ≡ false → matched signal pattern ≡ S1
  unasked_matched [] [] e = refl
  unasked_matched [] (s ∷ signal) e = refl
  unasked_matched (q ∷ pattern) [] e = refl
  unasked_matched (OnWire b ∷ pattern) (s ∷ signal) e = absurd (cc)
  unasked_matched (Fixed c ∷ pattern) (s ∷ signal) e =
      let both = or_parts (is_known c) (list_any is_asked (zip pattern signal)) e in
      ap (λ t. and_of (if t then equal_of (seen m s) c else S1) (matched signal pattern)) both.0
      ∙ ap (and_of S1) (unasked_matched pattern signal both.1)

  equal_stands : (places : List (SigBit × SigBit)) (b : Building) → AreMet m (equal_cell places b).1.body.cells → Below (all_right (map (pair_match m) places)) (seen m (equal_cell places b).0)
  equal_stands places b met =
      Below_trans _ _ _ (all_folded (map (pair_match m) places)) (equal_gives m (made_name b.next) places (length b.body.wires) (met_last m b.body.cells _ met))

  -- the bit of a pattern
  pub pattern_stands : (places : List (SigBit × SigBit)) (b : Building) → AreMet m (pattern_bit places b).1.body.cells → Below (all_right (map (pair_match m) places)) (seen m (pattern_bit places b).0)
  pattern_stands [] b met = refl
  pattern_stands ((Fixed S1, s) ∷ []) b met = equal_one (seen m s)
  pattern_stands places b met = equal_stands places b met

  -- the bits of patterns
  patterns_stand : (signal : List SigBit) (patterns : List (List SigBit)) (b : Building) → AreMet m (pattern_bits signal patterns b).1.body.cells → Below (any_matched signal patterns) (any_right (seen_all m (pattern_bits signal patterns b).0))
  patterns_stand signal [] b met = refl
  patterns_stand signal (p ∷ patterns) b met =
      let first = pattern_bit (asked_places p signal) b in
      let here : AreMet m first.1.body.cells = met_before m first.1 _ (patterns_grow signal patterns first.1) met in
      or_of_mono _ _ _ _
      (Below_trans _ _ _ (asked_matched p signal) (pattern_stands (asked_places p signal) b here))
      (patterns_stand signal patterns first.1 met)

  or_stands : (bits : List SigBit) (b : Building) → IsCellMet m (or_made m (made_name b.next) bits (length b.body.wires)) → Below (any_right (seen_all m bits)) (seen m (OnWire (record { wire = length b.body.wires; at = 0 })))
  or_stands bits b met = Below_trans _ _ _ (any_folded (seen_all m bits)) (or_gives m (made_name b.next) bits (length b.body.wires) met)

  joined_stands : (bits : List SigBit) (b : Building) → AreMet m (joined_bits bits b).1.body.cells → Below (any_right (seen_all m bits)) (seen m (joined_bits bits b).0)
  joined_stands [] b met = or_stands [] b (met_last m b.body.cells _ met)
  joined_stands (s ∷ []) b met = any_one (seen m s)
  joined_stands (s ∷ r ∷ bits) b met = or_stands (s ∷ r ∷ bits) b (met_last m b.body.cells _ met)

  -- the bit of a case
  pub case_stands : (signal : List SigBit) (patterns : List (List SigBit)) (b : Building) → (let bits = pattern_bits signal patterns b in AreMet m (joined_bits bits.0 bits.1).1.body.cells) → (let bits = pattern_bits signal patterns b in Below (any_matched signal patterns) (seen m (joined_bits bits.0 bits.1).0))
  case_stands signal patterns b met =
      let bits = pattern_bits signal patterns b in
      Below_trans _ _ _ (patterns_stand signal patterns b (met_before m bits.1 _ (joined_grow bits.0 bits.1) met)) (joined_stands bits.0 bits.1 met)
