-- Reading keeps an order: of points, of words, and of what stands in a list.
use Rattle.std.proofs.Common.{ℕ, zero, suc, List, [], ◌∷◌, ◌++◌, inl, inr, refl, sym, subst}
use Rattle.std.specs.Prelude.{slice_index_or, flat_map}
use Rattle.rtl_bits.specs.declared.bit.Bit.{Bit}
use Rattle.rtl_bits.specs.Knowledge.{Placewise}
use Rattle.cell_word.specs.Values.{InputsBelow}
use Rattle.rtl_ir.specs.Flat.Place.{Place}
use Rattle.rtl_ir.specs.Flat.Point.{Point, Constant, At}
use Rattle.rtl_ir.specs.Flat.Tree.{places}
use Rattle.net_model.specs.Lists.{In}
use Rattle.net_model.specs.Valuation.{Valuation, read, read_all, read_words}
use Rattle.net_model.proofs.Members.{In-left, In-right}
use Rattle.net_model.proofs.Orders.{Kept}

module _ (order : Bit → Bit → Type 0) (k : Kept order) where
  -- two valuations stand in the order at these bits
  abbrev pub BelowOn : List Place → Valuation → Valuation → Type 0
  BelowOn qs v w = (q : Place) → In q qs → order (v q) (w q)

  -- what these points have stands in the order
  abbrev pub PointsOn : List Point → Valuation → Valuation → Type 0
  PointsOn ps v w = (s : Point) → In s ps → order (read v s) (read w s)

  pub points_on : (v w : Valuation) (ps : List Point) → BelowOn (places ps) v w → PointsOn ps v w
  points_on v w [] h s i = absurd i
  points_on v w (Constant b ∷ ps) h s (inl e) = subst (λ z. order (read v z) (read w z)) (sym e) (k.bits.self b)
  points_on v w (At q ∷ ps) h s (inl e) = subst (λ z. order (read v z) (read w z)) (sym e) (h q (inl refl))
  points_on v w (Constant b ∷ ps) h s (inr i) = points_on v w ps h s i
  points_on v w (At q ∷ ps) h s (inr i) = points_on v w ps (λ r j. h r (inr j)) s i

  pub on_left : (v w : Valuation) (ps qs : List Point) → PointsOn (ps ++ qs) v w → PointsOn ps v w
  on_left v w ps qs h s i = h s (In-left s ps qs i)

  pub on_right : (v w : Valuation) (ps qs : List Point) → PointsOn (ps ++ qs) v w → PointsOn qs v w
  on_right v w ps qs h s i = h s (In-right s ps qs i)

  pub word_on : (v w : Valuation) (ps : List Point) → PointsOn ps v w → Placewise order (read_all v ps) (read_all w ps)
  word_on v w [] h = tt
  word_on v w (s ∷ ps) h = (h s (inl refl), word_on v w ps (λ r j. h r (inr j)))

  pub words_on : (v w : Valuation) (words : List (List Point)) → PointsOn (flat_map (λ word. word) words) v w → InputsBelow order (read_words v words) (read_words w words)
  words_on v w [] h at = tt
  words_on v w (s ∷ words) h zero = word_on v w s (on_left v w s (flat_map (λ word. word) words) h)
  words_on v w (s ∷ words) h (suc at) = words_on v w words (on_right v w s (flat_map (λ word. word) words) h) at

  pub at_kept : (as' bs : List Bit) → Placewise order as' bs → (at : ℕ) (d : Bit) → order (slice_index_or as' at d) (slice_index_or bs at d)
  at_kept [] [] h at d = k.bits.self d
  at_kept (a ∷ as') (b ∷ bs) h zero d = h.0
  at_kept (a ∷ as') (b ∷ bs) h (suc at) d = at_kept as' bs h.1 at d
  at_kept [] (b ∷ bs) h at d = absurd h
  at_kept (a ∷ as') [] h at d = absurd h
