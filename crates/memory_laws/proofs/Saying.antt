-- What the wires say of the words of a memory: of a bit of a word that it is below the bit that stands for it, of any other bit
-- that it is below the same bit.
use Rattle.std.proofs.Common.{◌≡◌, ℕ, zero, suc, Bool, true, false, List, [], ◌∷◌, ◌++◌, Option, inl, inr, refl, sym, subst}
use Rattle.std.specs.Prelude.{flat_map}
use Rattle.std.specs.Str.{bytes_eq}
use Rattle.std.proofs.lemmas.Slice.Eq.{bytes_eq-Decides}
use Rattle.rtl_bits.proofs.Orders.{Below_refl}
use Rattle.rtl_bits.proofs.Tables.{and_of_mono, not_of_mono, seen_of_mono}
use Rattle.rtl_bits.specs.Knowledge.{AreBelow, Below}
use Rattle.rtl_bits.specs.declared.bit.Bit.{Bit}
use Rattle.rtl_bits.specs.declared.bit.Bit.TheVariants.{X}
use Rattle.rtl_sig.specs.declared.sig.SigBit.{SigBit}
use Rattle.rtl_sig.specs.declared.sig.SigBit.TheVariants.{Fixed, Wire as OnWire}
use Rattle.cell_gate.specs.Control.{active_of, was_of}
use Rattle.cell_types.specs.declared.level.Level.{Level}
use Rattle.cell_types.specs.declared.level.Level.TheVariants.{Low, High}
use Rattle.rtl_ir.specs.Flat.Access.{Access}
use Rattle.rtl_ir.specs.Flat.Cell.{Ports}
use Rattle.rtl_ir.specs.Flat.Memory.{port_points}
use Rattle.rtl_ir.specs.Flat.Place.{Frame, OfWire, OfWord, Path, Spot, wire_place, word_place}
use Rattle.rtl_ir.specs.Flat.Point.{Point, point, point_at, points}
use Rattle.rtl_ir.specs.Flat.Reads.{port_list}
use Rattle.rtl_ir.specs.declared.wire.Wire.{Wire}
use Rattle.net_model.proofs.Orders.{below as below_order}
use Rattle.net_model.proofs.Reading.{PointsOn, word_on}
use Rattle.net_model.specs.Mem.Expand.{Word, word_at}
use Rattle.net_model.specs.Relate.{Related, Says}
use Rattle.net_model.specs.Run.{Start}
use Rattle.net_model.specs.Valuation.{Valuation, read, read_all}
use Rattle.net_model.specs.Value.{edge_at}
use Rattle.memory_laws.proofs.FreeRows.{IsFreeSpot}
use Rattle.memory_laws.proofs.ReadTrees.{tree_at}
use Rattle.memory_laws.proofs.WordCells.{moment_of}

-- what a word that may be there has at a place
abbrev pub word_has : List Wire → Path → Valuation → Option (List SigBit) → ℕ → Bit
word_has wires p w o k = tree_at (moment_of (λ s. X) (λ n. []) p wires w Start) o k

abbrev pub word_says : Bool → List Wire → List Word → Path → Valuation → List ℕ → ℕ → ℕ → Bit → Type 0
word_says true wires words p w n i k a = Below a (word_has wires p w (word_at words i) k)
word_says false wires words p w n i k a = Below a (w (word_place p n i k))

module _ (name : List ℕ) (wires : List Wire) (words : List Word) where
  abbrev pub memory_says : Says
  memory_says p w (OfWire n k) a = Below a (w (wire_place p n k))
  memory_says p w (OfWord n i k) a = word_says (bytes_eq n name) wires words p w n i k a

  name_true : bytes_eq name name ≡ true
  name_true = (bytes_eq-Decides name name).1 refl

  name_false : (n : List ℕ) → (n ≡ name → ⊥) → bytes_eq n name ≡ false
  name_false n h = by (bytes_eq n name) refl
    where
      by : (t : Bool) → bytes_eq n name ≡ t → t ≡ false
      by true e = absurd (h ((bytes_eq-Decides n name).0 e))
      by false e = refl

  -- of a word of the memory
  pub own_word : (p : Path) (w : Valuation) (i k : ℕ) (a : Bit) → memory_says p w (OfWord name i k) a → Below a (word_has wires p w (word_at words i) k)
  own_word p w i k a h = subst (λ t. word_says t wires words p w name i k a) name_true h

  pub word_own : (p : Path) (w : Valuation) (i k : ℕ) (a : Bit) → Below a (word_has wires p w (word_at words i) k) → memory_says p w (OfWord name i k) a
  word_own p w i k a h = subst (λ t. word_says t wires words p w name i k a) (sym name_true) h

  -- of any other spot
  pub free_below : (p : Path) (w : Valuation) (o : Spot) (a : Bit) → IsFreeSpot name o → memory_says p w o a → Below a (w (record { path = p; spot = o }))
  free_below p w (OfWire n k) a free h = h
  free_below p w (OfWord n i k) a free h = subst (λ t. word_says t wires words p w n i k a) (name_false n free) h

  pub below_free : (p : Path) (w : Valuation) (o : Spot) (a : Bit) → IsFreeSpot name o → Below a (w (record { path = p; spot = o })) → memory_says p w o a
  below_free p w (OfWire n k) a free h = h
  below_free p w (OfWord n i k) a free h = subst (λ t. word_says t wires words p w n i k a) (sym (name_false n free)) h

  -- x is allowed
  pub unknown_said : (p : Path) (w : Valuation) (o : Spot) → memory_says p w o X
  unknown_said p w (OfWire n k) = tt
  unknown_said p w (OfWord n i k) = by (bytes_eq n name)
    where
      by : (t : Bool) → word_says t wires words p w n i k X
      by true = tt
      by false = tt

  module _ (over : Ports) (frames : List Frame) (p : Path) (v w : Valuation) (rel : Related over frames memory_says p v w) where
    point_on : (s : SigBit) → Below (read v (point p wires s)) (read w (point p wires s))
    point_on (Fixed b) = Below_refl b
    point_on (OnWire b) = rel.own (OfWire _ b.at)

    pub signal_on : (ss : List SigBit) → PointsOn Below below_order (points p wires ss) v w
    signal_on [] q i = absurd i
    signal_on (s ∷ ss) q (inl e) = subst (λ z. Below (read v z) (read w z)) (sym e) (point_on s)
    signal_on (s ∷ ss) q (inr i) = signal_on ss q i

    pub place_on : (ss : List SigBit) (k : ℕ) → Below (read v (point_at (points p wires ss) k)) (read w (point_at (points p wires ss) k))
    place_on [] k = tt
    place_on (s ∷ ss) zero = point_on s
    place_on (s ∷ ss) (suc k) = place_on ss k

    pub word_below : (ss : List SigBit) → AreBelow (read_all v (points p wires ss)) (read_all w (points p wires ss))
    word_below ss = word_on Below below_order v w (points p wires ss) (signal_on ss)

    same_on : (q s : Point) → q ≡ s → Below (read v s) (read w s) → Below (read v q) (read w q)
    same_on q s e h = subst (λ z. Below (read v z) (read w z)) (sym e) h

    both_on : (ps qs : List Point) → PointsOn Below below_order ps v w → PointsOn Below below_order qs v w → PointsOn Below below_order (ps ++ qs) v w
    both_on [] qs h k q i = k q i
    both_on (s ∷ ps) qs h k q (inl e) = h q (inl e)
    both_on (s ∷ ps) qs h k q (inr i) = both_on ps qs (λ r j. h r (inr j)) k q i

    pub ports_on : (k : ℕ) (before accesses : List Access) → PointsOn Below below_order (flat_map port_list (port_points p wires k before accesses)) v w
    ports_on k before [] q i = absurd i
    ports_on k before (a ∷ accesses) q (inl e) = same_on q (point_at (points p wires a.enable) k) e (place_on a.enable k)
    ports_on k before (a ∷ accesses) q (inr (inl e)) = same_on q (point_at (points p wires a.new) k) e (place_on a.new k)
    ports_on k before (a ∷ accesses) q (inr (inr i)) =
        both_on (points p wires a.address) _ (signal_on a.address) (ports_on k (before ++ a ∷ []) accesses) q i

-- whether a pin is active
active_mono : (level : Level) (a b : Bit) → Below a b → Below (active_of level a) (active_of level b)
active_mono High a b h = seen_of_mono a b h
active_mono Low a b h = not_of_mono a b h

was_mono : (first : Bool) (a b : Bit) → Below a b → Below (was_of first a) (was_of first b)
was_mono true a b h = tt
was_mono false a b h = h

-- and so edges
pub edge_mono : (before before' now now' : Valuation) (first : Bool) (s : Point) (level : Level) → Below (read before s) (read before' s) → Below (read now s) (read now' s) → Below (edge_at before now first s level) (edge_at before' now' first s level)
edge_mono before before' now now' first s level h k =
    and_of_mono _ _ _ _ (not_of_mono _ _ (active_mono level (was_of first (read before s)) (was_of first (read before' s)) (was_mono first (read before s) (read before' s) h))) (active_mono level (read now s) (read now' s) k)
