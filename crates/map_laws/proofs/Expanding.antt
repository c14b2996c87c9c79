-- What is added behind what was added before, and what an expansion is by the lists that it adds.
use Rattle.std.proofs.Common.{◌≡◌, ℕ, ◌+◌, ◌≤◌, List, [], ◌∷◌, ◌++◌, length, drop, sym, ◌∙◌, ap, subst, arith, append_assoc, length-append}
use Rattle.std.proofs.Math.Seq.{drop-append_seam}
use Rattle.std.proofs.lemmas.List.{append-nil}
use Rattle.rtl_ir.specs.Build.{Building}
use Rattle.rtl_ir.specs.declared.cell.Cell.{Cell}
use Rattle.rtl_ir.specs.declared.module.Link.{Link}
use Rattle.rtl_ir.specs.declared.module.Module.{Module}
use Rattle.rtl_ir.specs.declared.wire.Wire.{Wire}
use Rattle.rtl_ir.specs.Signals.{bits_of_wire}
use Rattle.map_laws.specs.Expansion.{Adds, AreRising, Expands, IsExpansion, bits_from, cells_added, links_added, wires_added}

-- a module with further cells, wires and connections
abbrev pub further : List Cell → List Wire → List Link → Module → Module
further cells wires links m = record m { cells = m.cells ++ cells; wires = m.wires ++ wires; links = m.links ++ links }

pub adds_none : (b : Building) → Adds b b [] [] []
adds_none b = record {
  body = let none : further [] [] [] b.body ≡ b.body = λ i. record b.body { cells = append-nil b.body.cells i; wires = append-nil b.body.wires i; links = append-nil b.body.links i } in sym none;
  next = omega arith;
}

pub adds_more : (a b c : Building) (cs ds : List Cell) (ws vs : List Wire) (ls ks : List Link) → Adds a b cs ws ls → Adds b c ds vs ks → Adds a c (cs ++ ds) (ws ++ vs) (ls ++ ks)
adds_more a b c cs ds ws vs ls ks h k = record {
  body =
      k.body
      ∙ ap (further ds vs ks) h.body
      ∙ (λ i. record a.body { cells = append_assoc a.body.cells cs ds i; wires = append_assoc a.body.wires ws vs i; links = append_assoc a.body.links ls ks i });
  next = omega (arith, h.next, k.next);
}

module _ (old new : Building) (cells : List Cell) (wires : List Wire) (links : List Link) (h : Adds old new cells wires links) where
  pub cells_are : cells_added old new ≡ cells
  cells_are = ap (λ m. drop (length old.body.cells) m.cells) h.body ∙ drop-append_seam old.body.cells cells

  pub wires_are : wires_added old new ≡ wires
  wires_are = ap (λ m. drop (length old.body.wires) m.wires) h.body ∙ drop-append_seam old.body.wires wires

  pub links_are : links_added old new ≡ links
  links_are = ap (λ m. drop (length old.body.links) m.links) h.body ∙ drop-append_seam old.body.links links

  pub wires_count : length new.body.wires ≡ length old.body.wires + length wires
  wires_count = ap (λ m. length m.wires) h.body ∙ length-append old.body.wires wires

  -- what a map adds is an expansion
  pub expansion : (c : Cell) → Expands old new c cells wires links → IsExpansion old new c
  expansion c e =
      subst (λ z. Expands old new c z (wires_added old new) (links_added old new)) (sym cells_are)
      (subst (λ z. Expands old new c cells z (links_added old new)) (sym wires_are) (subst (Expands old new c cells wires) (sym links_are) e))

pub rising_low : (low high : ℕ) (names : List (List ℕ)) → AreRising low high names → low ≤ high
rising_low low high [] h = h
rising_low low high (name ∷ names) h = omega (arith, h.1, rising_low (h.0 + 1) high names h.3)

-- names that rise up to a number, and behind them names that rise from it
pub rising_more : (low middle high : ℕ) (xs ys : List (List ℕ)) → AreRising low middle xs → AreRising middle high ys → AreRising low high (xs ++ ys)
rising_more low middle high [] ys h k = lower ys k
  where
    lower : (ys : List (List ℕ)) → AreRising middle high ys → AreRising low high ys
    lower [] j = omega (arith, h, j)
    lower (y ∷ ys) j = (j.0, omega (arith, h, j.1), j.2, j.3)
rising_more low middle high (x ∷ xs) ys h k = (h.0, h.1, h.2, rising_more (h.0 + 1) middle high xs ys h.3 k)

-- the bits of wires and of those after them
pub bits_further : (first : ℕ) (ws vs : List Wire) → bits_from first (ws ++ vs) ≡ bits_from first ws ++ bits_from (first + length ws) vs
bits_further first [] vs = ap (λ n. bits_from n vs) (omega arith)
bits_further first (w ∷ ws) vs =
    let place : (first + 1) + length ws ≡ first + length (w ∷ ws) = omega arith in
    ap (λ z. bits_of_wire first w.width ++ z) (bits_further (first + 1) ws vs ∙ ap (λ n. bits_from (first + 1) ws ++ bits_from n vs) place)
    ∙ sym (append_assoc (bits_of_wire first w.width) (bits_from (first + 1) ws) (bits_from (first + length (w ∷ ws)) vs))
