-- What a cell drives, no connection drives; so the output ports of instances are not followed.
use Rattle.std.proofs.Common.{◌≡◌, ℕ, Bool, true, false, List, [], ◌∷◌, Option, Some, None, inl, inr, refl, sym, ◌∙◌, ap, subst}
use Rattle.std.specs.Prelude.{if◌then◌else◌, map}
use Rattle.rtl_sig.specs.declared.sig.SigBit.{SigBit}
use Rattle.rtl_sig.specs.declared.sig.SigBit.TheVariants as sig
use Rattle.rtl_ir.specs.declared.cell.Pin.{Pin}
use Rattle.rtl_ir.specs.declared.module.Link.{Link}
use Rattle.rtl_ir.specs.declared.ports.PortLine.{PortLine}
use Rattle.rtl_ir.specs.declared.wire.Role.TheVariants.{Output}
use Rattle.rtl_ir.specs.declared.wire.Wire.{Wire}
use Rattle.rtl_ir.specs.Flat.Cell.{instance_rows, port_joins}
use Rattle.rtl_ir.specs.Flat.Driver.{Driven, Joined}
use Rattle.rtl_ir.specs.Flat.Link.{joins, link_rows}
use Rattle.rtl_ir.specs.Flat.Place.{Frame, Path}
use Rattle.rtl_ir.specs.Flat.Point.{Point, bit_place, point, points, wire_points}
use Rattle.rtl_ir.specs.Follow.{all_joins, follow, source_at}
use Rattle.rtl_ir.specs.declared.follow.Join.{Join}
use Rattle.rtl_ir.specs.Outputs.{drives_pin}
use Rattle.rtl_ir.specs.Parameters.{signal_at}
use Rattle.rtl_ir.specs.Types.{CellType}
use Rattle.net_model.specs.Lists.{In}
use Rattle.net_model.proofs.Members.{In-left, In-right}
use Rattle.follow_laws.specs.Inputs.{followed_at}
use Rattle.follow_laws.proofs.Following.{join_row, link_in, source_in, stays}

module _ (p : Path) (wires : List Wire) (links : List Link) where
  -- a row is apart from the rows of the connections
  abbrev pub IsApart : Driven → Type 0
  IsApart d = (l : Driven) → In l (link_rows p wires links) → d.place ≡ l.place → ⊥

  -- a signal that is driven bit by bit is not followed
  untouched : (signal : List SigBit) (inner : List Point) → ((d : Driven) → In d (joins (points p wires signal) inner) → IsApart d) → joins (points p wires signal) inner ≡ joins (points p wires (map (follow links) signal)) inner
  untouched [] inner h = refl
  untouched (s ∷ signal) [] h = refl
  untouched (sig.Fixed c ∷ signal) (i ∷ inner) h =
      untouched signal inner h ∙ ap (λ z. joins (point p wires z ∷ points p wires (map (follow links) signal)) (i ∷ inner)) (sym (stays links (sig.Fixed c) refl))
  untouched (sig.Wire b ∷ signal) (i ∷ inner) h =
      let row : Driven = record { place = bit_place p wires b; driver = Joined i } in
      ap (λ z. row ∷ z) (untouched signal inner (λ d j. h d (inr j)))
      ∙ ap (λ z. joins (point p wires z ∷ points p wires (map (follow links) signal)) (i ∷ inner)) (sym (stays links (sig.Wire b) (by (source_at (all_joins links) b) refl)))
    where
      by : (o : Option SigBit) → source_at (all_joins links) b ≡ o → source_at (all_joins links) b ≡ None
      by None e = e
      by (Some r) e =
          let j : Join = record { bit = b; source = r } in
          absurd (h (record { place = bit_place p wires b; driver = Joined i }) (inl refl) (join_row p wires j) (link_in p wires links j (source_in (all_joins links) b r e)) refl)

  pub untouched_at : (type : CellType) (name : List ℕ) (signal : List SigBit) (inner : List Point) → ((d : Driven) → In d (joins (points p wires signal) inner) → IsApart d) → joins (points p wires signal) inner ≡ joins (points p wires (followed_at type links name signal)) inner
  untouched_at type name signal inner h = by (drives_pin type name)
    where
      by : (t : Bool) → joins (points p wires signal) inner ≡ joins (points p wires (if t then signal else map (follow links) signal)) inner
      by true = refl
      by false = untouched signal inner h

-- the rows of an output port are among those of its instance
pub port_in : (p : Path) (wires : List Wire) (pins : List Pin) (f : Frame) (ports : List PortLine) (port : PortLine) → In port ports → port.role ≡ Output → (d : Driven) → In d (joins (points p wires (signal_at pins port.name)) (wire_points (f ∷ p) port.name 0 port.width)) → In d (instance_rows p wires pins f ports)
port_in p wires pins f [] port i role d j = absurd i
port_in p wires pins f (q ∷ ports) port (inl e) role d j =
    let here : List Driven = port_joins q.role (points p wires (signal_at pins q.name)) (wire_points (f ∷ p) q.name 0 q.width) in
    In-left d here (instance_rows p wires pins f ports) (subst (λ r. In d (port_joins r (points p wires (signal_at pins q.name)) (wire_points (f ∷ p) q.name 0 q.width))) (sym (ap (λ z. z.role) (sym e) ∙ role)) (subst (λ z. In d (joins (points p wires (signal_at pins z.name)) (wire_points (f ∷ p) z.name 0 z.width))) e j))
port_in p wires pins f (q ∷ ports) port (inr i) role d j =
    In-right d (port_joins q.role (points p wires (signal_at pins q.name)) (wire_points (f ∷ p) q.name 0 q.width)) (instance_rows p wires pins f ports) (port_in p wires pins f ports port i role d j)
