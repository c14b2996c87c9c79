-- Picks and bits that hold keep an order.
use Rattle.std.proofs.Common.{Bool, true, false, List, [], ◌∷◌, ◌++◌, inl, inr, refl, sym, subst}
use Rattle.std.specs.Prelude.{flat_map, if◌then◌else◌}
use Rattle.rtl_bits.specs.declared.bit.Bit.{Bit}
use Rattle.rtl_bits.specs.declared.bit.Bit.TheVariants.{S0, S1, X, Z, M, Dash}
use Rattle.rtl_bits.specs.Knowledge.{Placewise}
use Rattle.rtl_bits.specs.Tables.{seen_of, merge_of}
use Rattle.rtl_ir.specs.Flat.Pick.{Pick, Is, Where, WhereReset, pick_points}
use Rattle.rtl_ir.specs.Flat.Place.{Place, place_same}
use Rattle.rtl_ir.specs.Flat.Point.{Point, Constant, At}
use Rattle.net_model.specs.Lists.{In}
use Rattle.net_model.specs.Valuation.{Valuation, read, read_all}
use Rattle.net_model.specs.Picked.{equal_of, place_match, pattern_match, case_match, chosen_of, tested_of, picked_by, picked, own_or, mark_of, holds_of, held_of}
use Rattle.net_model.proofs.Members.{In-left, In-right}
use Rattle.net_model.proofs.Orders.{Kept}
use Rattle.net_model.proofs.Reading.{PointsOn, on_left, on_right, word_on}

module _ (order : Bit → Bit → Type 0) (k : Kept order) where
  equal_kept : (a a' b b' : Bit) → order a a' → order b b' → order (equal_of a b) (equal_of a' b')
  equal_kept a a' b b' h i = k.bits.not _ _ (k.bits.xor _ _ _ _ h i)

  place_kept : (v w : Valuation) (a a' : Bit) (p : Point) → order a a' → order (read v p) (read w p) → order (place_match v a p) (place_match w a' p)
  place_kept v w a a' (At q) h i = equal_kept a a' (v q) (w q) h i
  place_kept v w a a' (Constant S0) h i = equal_kept a a' S0 S0 h i
  place_kept v w a a' (Constant S1) h i = equal_kept a a' S1 S1 h i
  place_kept v w a a' (Constant X) h i = k.bits.self S1
  place_kept v w a a' (Constant Z) h i = k.bits.self S1
  place_kept v w a a' (Constant M) h i = k.bits.self S1
  place_kept v w a a' (Constant Dash) h i = k.bits.self S1

  pattern_kept : (v w : Valuation) (ss ss' : List Bit) (ps : List Point) → Placewise order ss ss' → PointsOn order k ps v w → order (pattern_match v ss ps) (pattern_match w ss' ps)
  pattern_kept v w [] [] ps h i = k.bits.self S1
  pattern_kept v w (s ∷ ss) (s' ∷ ss') [] h i = k.bits.self S1
  pattern_kept v w (s ∷ ss) (s' ∷ ss') (p ∷ ps) h i =
      k.bits.and _ _ _ _ (place_kept v w s s' p h.0 (i p (inl refl))) (pattern_kept v w ss ss' ps h.1 (λ q j. i q (inr j)))
  pattern_kept v w [] (s' ∷ ss') ps h i = absurd h
  pattern_kept v w (s ∷ ss) [] ps h i = absurd h

  case_kept : (v w : Valuation) (ss ss' : List Bit) (patterns : List (List Point)) → Placewise order ss ss' → PointsOn order k (flat_map (λ pattern. pattern) patterns) v w → order (case_match v ss patterns) (case_match w ss' patterns)
  case_kept v w ss ss' [] h i = k.bits.self S0
  case_kept v w ss ss' (p ∷ patterns) h i =
      k.bits.or _ _ _ _ (pattern_kept v w ss ss' p h (on_left order k v w p (flat_map (λ pattern. pattern) patterns) i)) (case_kept v w ss ss' patterns h (on_right order k v w p (flat_map (λ pattern. pattern) patterns) i))

  -- what is merged is below what is chosen, whatever chooses
  merge_chosen : (choice a b : Bit) → order (merge_of a b) (chosen_of choice a b)
  merge_chosen S0 a b = k.merge_right a b
  merge_chosen S1 a b = k.merge_left a b
  merge_chosen X a b = k.bits.self (merge_of a b)
  merge_chosen Z a b = k.bits.self (merge_of a b)
  merge_chosen M a b = k.bits.self (merge_of a b)
  merge_chosen Dash a b = k.bits.self (merge_of a b)

  chosen_kept : (c c' a a' b b' : Bit) → order c c' → order a a' → order b b' → order (chosen_of c a b) (chosen_of c' a' b')
  chosen_kept S0 c' a a' b b' h i j = subst (λ z. order b (chosen_of z a' b')) (sym (k.bits.known S0 c' tt h)) j
  chosen_kept S1 c' a a' b b' h i j = subst (λ z. order a (chosen_of z a' b')) (sym (k.bits.known S1 c' tt h)) i
  chosen_kept c c' a a' b b' h i j =
      k.bits.through (merge_of a b) (merge_of a' b') (chosen_of c' a' b') (k.bits.merge a a' b b' i j) (merge_chosen c' a' b')

  tested_kept : (inverse : Bool) (a b : Bit) → order a b → order (tested_of inverse a) (tested_of inverse b)
  tested_kept false a b h = k.bits.seen a b h
  tested_kept true a b h = k.bits.not a b h

  picked_by_kept : (f g : Point → Bit) (v w : Valuation) (r r' : Bit) → order r r' → (tree : Pick) → ((s : Point) → In s (pick_points tree) → order (f s) (g s)) → PointsOn order k (pick_points tree) v w → order (picked_by f v r tree) (picked_by g w r' tree)
  picked_by_kept f g v w r r' e (Is s) h i = h s (inl refl)
  picked_by_kept f g v w r r' e (Where signal patterns met other) h i =
      let ps = flat_map (λ pattern. pattern) patterns in
      let rest = pick_points met ++ pick_points other in
      let i' = on_right order k v w signal (ps ++ rest) i in
      let i'' = on_right order k v w ps rest i' in
      chosen_kept _ _ _ _ _ _
      (case_kept v w (read_all v signal) (read_all w signal) patterns (word_on order k v w signal (on_left order k v w signal (ps ++ rest) i)) (on_left order k v w ps rest i'))
      (picked_by_kept f g v w r r' e met (λ s j. h s (In-right s signal (ps ++ rest) (In-right s ps rest (In-left s (pick_points met) (pick_points other) j)))) (on_left order k v w (pick_points met) (pick_points other) i''))
      (picked_by_kept f g v w r r' e other (λ s j. h s (In-right s signal (ps ++ rest) (In-right s ps rest (In-right s (pick_points met) (pick_points other) j)))) (on_right order k v w (pick_points met) (pick_points other) i''))
  picked_by_kept f g v w r r' e (WhereReset inverse patterns met other) h i =
      let ps = flat_map (λ pattern. pattern) patterns in
      let rest = pick_points met ++ pick_points other in
      let i'' = on_right order k v w ps rest i in
      chosen_kept _ _ _ _ _ _
      (case_kept v w (tested_of inverse r ∷ []) (tested_of inverse r' ∷ []) patterns (tested_kept inverse r r' e, tt) (on_left order k v w ps rest i))
      (picked_by_kept f g v w r r' e met (λ s j. h s (In-right s ps rest (In-left s (pick_points met) (pick_points other) j))) (on_left order k v w (pick_points met) (pick_points other) i''))
      (picked_by_kept f g v w r r' e other (λ s j. h s (In-right s ps rest (In-right s (pick_points met) (pick_points other) j))) (on_right order k v w (pick_points met) (pick_points other) i''))

  pub picked_kept : (v w : Valuation) (r r' : Bit) → order r r' → (tree : Pick) → PointsOn order k (pick_points tree) v w → order (picked v r tree) (picked w r' tree)
  picked_kept v w r r' e tree i = picked_by_kept (read v) (read w) v w r r' e tree (λ s j. i s j) i

  -- a pick that reads another value for the bit itself
  pub owned_kept : (own : Place) (v w : Valuation) (a a' : Bit) → order a a' → (r : Bit) (tree : Pick) → PointsOn order k (pick_points tree) v w → order (picked_by (own_or own a v) v r tree) (picked_by (own_or own a' w) w r tree)
  owned_kept own v w a a' e r tree i =
      picked_by_kept (own_or own a v) (own_or own a' w) v w r r (k.bits.self r) tree (λ s j. leaf s (i s j)) i
    where
      leaf : (s : Point) → order (read v s) (read w s) → order (own_or own a v s) (own_or own a' w s)
      leaf (Constant b) h = k.bits.self b
      leaf (At q) h =
          elim (place_same q own) as (λ t. order (if t then a else v q) (if t then a' else w q)) [ true ↦ e | false ↦ h ]

  pub holds_kept : (own : Place) (v w : Valuation) (tree : Pick) → PointsOn order k (pick_points tree) v w → order (holds_of own v tree) (holds_of own w tree)
  holds_kept own v w tree i =
      picked_by_kept (mark_of own) (mark_of own) v w X X (k.bits.self X) tree (λ s j. k.bits.self (mark_of own s)) i

  pub held_kept : (c c' a a' b b' : Bit) → order c c' → order a a' → order b b' → order (held_of c a b) (held_of c' a' b')
  held_kept S0 c' a a' b b' h i j = subst (λ z. order (seen_of b) (held_of z a' b')) (sym (k.bits.known S0 c' tt h)) (k.bits.seen b b' j)
  held_kept S1 c' a a' b b' h i j = subst (λ z. order (seen_of a) (held_of z a' b')) (sym (k.bits.known S1 c' tt h)) (k.bits.seen a a' i)
  held_kept c c' a a' b b' h i j = k.bits.bottom (held_of c' a' b')
