-- The parts of the pass, put together.
use Rattle.std.proofs.Common.{◌≡◌, ℕ, suc, ◌+◌, Bool, List, [], ◌∷◌, length, map, refl, sym, ◌∙◌, ap, subst}
use Rattle.rtl_sig.specs.declared.sig.WireBit.{WireBit}
use Rattle.rtl_ir.specs.Types.{Ports}
use Rattle.rtl_ir.specs.declared.cell.Cell.{Cell}
use Rattle.rtl_ir.specs.declared.module.Link.{Link}
use Rattle.rtl_ir.specs.declared.module.Module.{Module}
use Rattle.rtl_ir.specs.declared.wire.Wire.{Wire}
use Rattle.follow_laws.specs.Inputs.{followed, followed_cell}
use Rattle.opt_clean.specs.Clean.{reduced}
use Rattle.opt_clean.specs.Kept.{kept_marks, marked}
use Rattle.opt_clean.specs.Linked.{Drives, IsOnce, is_linked}
use Rattle.opt_clean.specs.Runs.{links_of, shown_links, source_of}
use Rattle.opt_clean.specs.Wires.{wire_marks}

pub marked_none : {A : Type 0} (ts : List Bool) (xs : List A) → xs ≡ [] → marked ts xs ≡ []
marked_none [] xs e = refl
marked_none (t ∷ ts) [] e = refl
marked_none (t ∷ ts) (x ∷ xs) e = absurd (cc)

pub marks_length : (bits : List WireBit) (first : ℕ) (ws : List Wire) → length (wire_marks bits first ws) ≡ length ws
marks_length bits first [] = refl
marks_length bits first (w ∷ ws) = ap suc (marks_length bits (first + 1) ws)

-- the connections of a module in which each bit has one driver
pub links_are : (ports : Ports) (m : Module) → IsOnce ports m → (links : List Link) (wires : List Wire) → wires ≡ m.wires → links ≡ shown_links (is_linked ports m) (source_of m.links) 0 wires → links ≡ links_of m.wires m.links
unfolding links_of
links_are ports m once links wires e f = f ∙ ap (shown_links (is_linked ports m) (source_of m.links) 0) e ∙ once.links (source_of m.links)

-- the marks of its cells with followed inputs
pub reduced_from : (ports : Ports) (m : Module) → IsOnce ports m → (cells kept : List Cell) (links : List Link) (marks : List Bool) → cells ≡ map (followed_cell ports m.links) m.cells → links ≡ links_of m.wires m.links → (Drives ports m cells → marks ≡ kept_marks ports m.wires links cells) → kept ≡ marked marks cells → ◌≡◌ {A = Module} (record m { cells = kept; links = links }) (reduced ports (followed ports m))
reduced_from ports m once cells kept links marks e f g h =
    let drives : Drives ports m cells = subst (Drives ports m) (sym e) once.drives in
    let is : marks ≡ kept_marks ports m.wires (links_of m.wires m.links) (map (followed_cell ports m.links) m.cells) = g drives ∙ (λ i. kept_marks ports m.wires (f i) (e i)) in
    let all : kept ≡ marked (kept_marks ports m.wires (links_of m.wires m.links) (map (followed_cell ports m.links) m.cells)) (map (followed_cell ports m.links) m.cells) = h ∙ (λ i. marked (is i) (e i)) in
    λ i. record m { cells = all i; links = f i }
