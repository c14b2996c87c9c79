-- A module with fresh wires refines the one without.
use Rattle.std.proofs.Common.{◌≡◌, List, [], ◌∷◌, ◌++◌, inl, inr, refl, sym, ◌∙◌, ap, subst}
use Rattle.std.specs.Prelude.{map, filter, if◌then◌else◌}
use Rattle.rtl_ir.specs.declared.module.Module.{Module}
use Rattle.rtl_ir.specs.declared.wire.Wire.{Wire}
use Rattle.rtl_ir.specs.Ports.{is_port, in_number_order, line_of, ports_of}
use Rattle.rtl_ir.specs.Flat.Cell.{Ports}
use Rattle.net_model.specs.Lists.{In}
use Rattle.net_model.specs.Refine.{RowsRefine, RefinesOver}
use Rattle.net_model.specs.Within.{IsWithin, with_wires, AreInner}
use Rattle.net_model.proofs.GrowingMore.{rows_more}
use Rattle.net_model.proofs.Lifted.{lifted}

abbrev ports_among : List Wire → List Wire
ports_among wires = filter (λ (w : Wire). is_port w.role) wires

none_among : (fs : List Wire) → AreInner fs → ports_among fs ≡ []
none_among [] h = refl
none_among (f ∷ fs) h =
    ap (λ z. if is_port z then f ∷ ports_among fs else ports_among fs) (h f (inl refl)) ∙ none_among fs (λ x j. h x (inr j))

among_more : (ws fs : List Wire) → AreInner fs → ports_among (ws ++ fs) ≡ ports_among ws
among_more [] fs h = none_among fs h
among_more (w ∷ ws) fs h =
    ap (λ z. if is_port w.role then w ∷ z else z) (among_more ws fs h)

pub ports_more : (ws fs : List Wire) → AreInner fs → ports_of (ws ++ fs) ≡ ports_of ws
ports_more ws fs h = ap (λ z. map line_of (in_number_order z)) (among_more ws fs h)

pub grown_rows : (m : Module) (fs : List Wire) (ports : Ports) → IsWithin m → AreInner fs → RowsRefine m (with_wires fs m) ports
grown_rows m fs ports h inner = record {
  id = refl;
  ports_same = sym (ports_more m.wires fs inner);
  children = refl;
  rows = λ p t w s b d i. s.met d (subst (λ z. In d z) (sym (rows_more ports p m fs h)) i);
}

pub grown_refines : (m : Module) (fs : List Wire) (ports : Ports) → IsWithin m → AreInner fs → RefinesOver m (with_wires fs m) ports
grown_refines m fs ports h inner = lifted m (with_wires fs m) ports (grown_rows m fs ports h inner)
