-- Where as many cells and wires are left as there are, the module is as it was.
use Rattle.std.proofs.Common.{◌≡◌, ℕ, zero, suc, ◌<◌, ◌≤◌, Bool, true, false, List, [], ◌∷◌, length, inl, inr, refl, ap, arith}
use Rattle.std.specs.Prelude.{map}
use Rattle.rtl_sig.specs.declared.sig.SigBit.{SigBit}
use Rattle.rtl_sig.specs.declared.sig.SigBit.TheVariants.{Fixed, Wire as OnWire}
use Rattle.rtl_ir.specs.declared.cell.Cell.{Cell}
use Rattle.rtl_ir.specs.declared.module.Link.{Link}
use Rattle.rtl_ir.specs.declared.module.Module.{Module}
use Rattle.net_model.specs.Lists.{In}
use Rattle.net_model.specs.Within.{BitIn, CellIn, IsWithin, LinkIn, SigIn}
use Rattle.opt_clean.specs.Kept.{marked}
use Rattle.opt_clean.specs.Wires.{moved_bit, moved_cell, moved_link, moved_pin, named_bits, new_place, trimmed, wire_marks}
use Rattle.opt_clean.proofs.Wholes.{marks_length}

module _ {A : Type 0} where
  -- no more are marked than there are
  marked_short : (ts : List Bool) (xs : List A) → length (marked ts xs) ≤ length xs
  marked_short [] xs = omega arith
  marked_short (t ∷ ts) [] = omega arith
  marked_short (true ∷ ts) (x ∷ xs) = omega (arith, marked_short ts xs)
  marked_short (false ∷ ts) (x ∷ xs) = omega (arith, marked_short ts xs)

  -- where all are, they are those that there are
  pub marked_same : (ts : List Bool) (xs : List A) → length (marked ts xs) ≡ length xs → marked ts xs ≡ xs
  marked_same [] [] e = refl
  marked_same [] (x ∷ xs) e = absurd (omega (arith, e))
  marked_same (t ∷ ts) [] e = refl
  marked_same (true ∷ ts) (x ∷ xs) e = ap (λ z. x ∷ z) (marked_same ts xs (omega (arith, e)))
  marked_same (false ∷ ts) (x ∷ xs) e = absurd (omega (arith, e, marked_short ts xs))

  -- and each has its old place
  place_same : (ts : List Bool) (xs : List A) → length ts ≡ length xs → length (marked ts xs) ≡ length xs → (k : ℕ) → k < length xs → new_place ts k ≡ k
  place_same [] [] l e k h = absurd (omega (arith, h))
  place_same [] (x ∷ xs) l e k h = absurd (omega (arith, l))
  place_same (t ∷ ts) [] l e k h = absurd (omega (arith, h))
  place_same (t ∷ ts) (x ∷ xs) l e zero h = refl
  place_same (true ∷ ts) (x ∷ xs) l e (suc k) h = omega (arith, place_same ts xs (omega (arith, l)) (omega (arith, e)) k (omega (arith, h)))
  place_same (false ∷ ts) (x ∷ xs) l e (suc k) h = absurd (omega (arith, e, marked_short ts xs))

-- items that stay the same
each_same : {A : Type 0} (f : A → A) (xs : List A) → ((x : A) → In x xs → f x ≡ x) → map f xs ≡ xs
each_same f [] h = refl
each_same f (x ∷ xs) h = let here = h x (inl refl) in let later = each_same f xs (λ y i. h y (inr i)) in λ i. here i ∷ later i

module _ (m : Module) (within : IsWithin m) (e : length (trimmed m).wires ≡ length m.wires) where
  abbrev marks : List Bool
  marks = wire_marks (named_bits m) 0 m.wires

  bit_same : (s : SigBit) → BitIn (length m.wires) s → moved_bit marks s ≡ s
  bit_same (Fixed c) h = refl
  bit_same (OnWire b) h =
      let place : new_place marks b.wire ≡ b.wire = place_same marks m.wires (marks_length (named_bits m) 0 m.wires) e b.wire h in
      λ i. OnWire (record { wire = place i; at = b.at })

  signal_same : (signal : List SigBit) → SigIn (length m.wires) signal → map (moved_bit marks) signal ≡ signal
  signal_same signal h = each_same (moved_bit marks) signal (λ s i. bit_same s (h s i))

  cell_same : (c : Cell) → CellIn (length m.wires) c → moved_cell marks c ≡ c
  cell_same c h =
      let pins : map (moved_pin marks) c.pins ≡ c.pins = each_same (moved_pin marks) c.pins (λ p i. let sig = signal_same p.sig (h p i) in λ j. record { name = p.name; sig = sig j }) in
      λ i. record c { pins = pins i }

  link_same : (l : Link) → LinkIn (length m.wires) l → moved_link marks l ≡ l
  link_same l h =
      let left = signal_same l.left h.0 in
      let right = signal_same l.right h.1 in
      λ i. record { left = left i; right = right i }

  pub trimmed_same : trimmed m ≡ m
  trimmed_same =
      let wires : marked marks m.wires ≡ m.wires = marked_same marks m.wires e in
      let cells : map (moved_cell marks) m.cells ≡ m.cells = each_same (moved_cell marks) m.cells (λ c i. cell_same c (within.cells c i)) in
      let links : map (moved_link marks) m.links ≡ m.links = each_same (moved_link marks) m.links (λ l i. link_same l (within.links l i)) in
      λ i. record m { wires = wires i; cells = cells i; links = links i }
