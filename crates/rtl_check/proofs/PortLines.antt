-- The ports among wires, from a place on.
use Rattle.std.proofs.Common.{◌≡◌, ℕ, ◌+◌, ◌<◌, ◌≤◌, true, false, List, [], ◌∷◌, length, get_or, drop, refl, sym, ◌∙◌, ap, add-one}
use Rattle.std.proofs.Math.Seq.{drop-cons}
use Rattle.std.proofs.lemmas.List.{drop_all}
use Rattle.rtl_ir.specs.declared.wire.Wire.{Wire}
use Rattle.rtl_ir.specs.Ports.{is_port, line_of}
use Rattle.rtl_ir.specs.Types.{port_lines}

module _ (wires : List Wire) (at : ℕ) (w : Wire) (within : at < length wires) (is : w ≡ get_or wires at w) where
  next : drop at wires ≡ w ∷ drop (at + 1) wires
  next = drop-cons wires at w within ∙ (λ i. sym is i ∷ drop (sym (add-one at) i) wires)

  -- a port comes first
  pub port_first : is_port w.role ≡ true → port_lines (drop at wires) ≡ line_of w ∷ port_lines (drop (at + 1) wires)
  port_first e = ap port_lines next ∙ rw e refl

  -- another wire is passed over
  pub none_here : is_port w.role ≡ false → port_lines (drop at wires) ≡ port_lines (drop (at + 1) wires)
  none_here e = ap port_lines next ∙ rw e refl

-- behind the last wire there is no port
pub none_left : (wires : List Wire) (at : ℕ) → length wires ≤ at → port_lines (drop at wires) ≡ []
none_left wires at over = ap port_lines (drop_all at wires over)
