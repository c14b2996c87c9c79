-- A row of a module reaches its own bits and the ports of its instances, and no others.
use Rattle.std.proofs.Common.{◌≡◌, List, [], ◌∷◌, Option, Some, None, inl, inr, ⊎_elim, refl, ap, subst}
use Rattle.rtl_bits.specs.declared.bit.Bit.{Bit}
use Rattle.rtl_sig.specs.declared.sig.SigBit.{SigBit}
use Rattle.cell_types.specs.declared.kind.CellKind.{CellKind}
use Rattle.rtl_ir.specs.declared.cell.Cell.{Cell}
use Rattle.rtl_ir.specs.declared.cell.Pin.{Pin}
use Rattle.rtl_ir.specs.declared.module.Module.{Module}
use Rattle.rtl_ir.specs.declared.ports.PortLine.{PortLine}
use Rattle.rtl_ir.specs.declared.wire.Role.{Role}
use Rattle.rtl_ir.specs.declared.wire.Role.TheVariants.{Inner, Input, Output, Inout}
use Rattle.rtl_ir.specs.declared.wire.Wire.{Wire}
use Rattle.rtl_ir.specs.Flat.Cell.{cell_kind, instance_of, listed, instances, port_joins, instance_rows, Ports, cell_rows, cells_rows}
use Rattle.rtl_ir.specs.Flat.Driver.{Driven}
use Rattle.rtl_ir.specs.Flat.Link.{joins, link_rows}
use Rattle.rtl_ir.specs.Flat.Memory.{memories_rows}
use Rattle.rtl_ir.specs.Flat.Place.{Frame, frame, Path, Place}
use Rattle.rtl_ir.specs.Flat.Point.{Point, Constant, At, points, wire_points}
use Rattle.rtl_ir.specs.Flat.Process.{processes_rows}
use Rattle.rtl_ir.specs.Flat.Reads.{reads}
use Rattle.rtl_ir.specs.Flat.Rows.{plain_rows, rows_of}
use Rattle.rtl_ir.specs.Flat.Start.{start_of}
use Rattle.rtl_ir.specs.Flat.Tree.{places}
use Rattle.rtl_ir.specs.Parameters.{signal_at}
use Rattle.net_model.specs.Lists.{In}
use Rattle.net_model.specs.Relate.{Reach}
use Rattle.net_model.proofs.Members.{In-left, In-right, In-cases}
use Rattle.net_model.proofs.Own.{IsOwnRow, AreOwnRows, own_places, own_points, own_both, port_own}
use Rattle.net_model.proofs.OwnCells.{kind_own, links_own}
use Rattle.net_model.proofs.OwnProcesses.{processes_own}
use Rattle.net_model.proofs.OwnMemories.{memories_own}

-- it drives its own bits and input ports of instances, and reads its own bits and output ports
pub record Reaches (ports : Ports) (frames : List Frame) (p : Path) (x : Driven) : Type 0 where
  pub place : Reach Input ports frames p x.place
  pub read : (q : Place) → In q (reads x.driver) → Reach Output ports frames p q

joins_reach : (ls rs : List Point) (x : Driven) → In x (joins ls rs) → In x.place (places ls) × ((q : Place) → In q (reads x.driver) → In q (places rs))
joins_reach [] rs x i = absurd i
joins_reach (l ∷ ls) [] x i = absurd i
joins_reach (At l ∷ ls) (Constant b ∷ rs) x (inl e) =
    (inl (ap (λ z. z.place) e), λ q j. absurd (subst (λ z. In q (reads z.driver)) e j))
joins_reach (At l ∷ ls) (At r ∷ rs) x (inl e) =
    (inl (ap (λ z. z.place) e), λ q j. ⊎_elim (λ a. inl a) (λ a. absurd a) (subst (λ z. In q (reads z.driver)) e j))
joins_reach (At l ∷ ls) (Constant b ∷ rs) x (inr i) = let k = joins_reach ls rs x i in (inr k.0, k.1)
joins_reach (At l ∷ ls) (At r ∷ rs) x (inr i) = let k = joins_reach ls rs x i in (inr k.0, λ q j. inr (k.1 q j))
joins_reach (Constant c ∷ ls) (Constant b ∷ rs) x i = joins_reach ls rs x i
joins_reach (Constant c ∷ ls) (At r ∷ rs) x i = let k = joins_reach ls rs x i in (k.0, λ q j. inr (k.1 q j))

-- all but the cells
plain_own : (p : Path) (m : Module) → AreOwnRows p (plain_rows p m)
plain_own p m =
    own_both p (link_rows p m.wires m.links) _ (links_own p m.wires m.links) (own_both p (processes_rows (start_of m.wires m.processes) p m.wires m m.processes) (memories_rows p m.wires m.cells m.processes m.memories) (processes_own (start_of m.wires m.processes) p m.wires m m.processes) (memories_own p m.wires m.cells m.processes m.memories))

module _ (ports : Ports) (frames : List Frame) (p : Path) (wires : List Wire) where
  from_own : (x : Driven) → IsOwnRow p x → Reaches ports frames p x
  from_own x h = record { place = inl h.place; read = λ q i. inl (own_places p _ h.read q i) }

  instance_reaches : (pins : List Pin) (f : Frame) → In f frames → (ns : List PortLine) → ((n : PortLine) → In n ns → In n (ports f.module_name)) → (x : Driven) → In x (instance_rows p wires pins f ns) → Reaches ports frames p x
  instance_reaches pins f m [] h x i = absurd i
  instance_reaches pins f m (n ∷ ns) h x i =
      ⊎_elim (λ l. by n.role refl l) (λ r. instance_reaches pins f m ns (λ z j. h z (inr j)) x r) (In-cases x (port_joins n.role (points p wires (signal_at pins n.name)) (wire_points (f ∷ p) n.name 0 n.width)) (instance_rows p wires pins f ns) i)
    where
      own : (q : Place) → In q (places (points p wires (signal_at pins n.name))) → q.path ≡ p
      own q j = own_places p (points p wires (signal_at pins n.name)) (own_points p wires (signal_at pins n.name)) q j

      port : (role : Role) → n.role ≡ role → (q : Place) → In q (places (wire_points (f ∷ p) n.name 0 n.width)) → Reach role ports frames p q
      port role e q j = let o = port_own (f ∷ p) n q j in inr (f, n, m, h n (inl refl), o.0, o.1, e)

      by : (role : Role) → n.role ≡ role → In x (port_joins role (points p wires (signal_at pins n.name)) (wire_points (f ∷ p) n.name 0 n.width)) → Reaches ports frames p x
      by Inner e l = absurd l
      by Inout e l = absurd l
      by Input e l = let k = joins_reach (wire_points (f ∷ p) n.name 0 n.width) (points p wires (signal_at pins n.name)) x l in record { place = port Input e x.place k.0; read = λ q j. inl (own q (k.1 q j)) }
      by Output e l = let k = joins_reach (points p wires (signal_at pins n.name)) (wire_points (f ∷ p) n.name 0 n.width) x l in record { place = inl (own x.place k.0); read = λ q j. port Output e q (k.1 q j) }

  cell_reaches : (start : SigBit → Bit) (c : Cell) (kind : Option CellKind) → ((f : Frame) → In f (listed (instance_of c kind)) → In f frames) → (x : Driven) → In x (cell_rows start ports p wires c kind) → Reaches ports frames p x
  cell_reaches start c (Some kind) m x i = from_own x (kind_own start p wires c kind x i)
  cell_reaches start c None m x i =
      instance_reaches c.pins (frame c.name c.kind_name) (m (frame c.name c.kind_name) (inl refl)) (ports c.kind_name) (λ n j. j) x i

  cells_reach : (start : SigBit → Bit) (cs : List Cell) → ((f : Frame) → In f (instances cs) → In f frames) → (x : Driven) → In x (cells_rows start ports p wires cs) → Reaches ports frames p x
  cells_reach start [] m x i = absurd i
  cells_reach start (c ∷ cs) m x i =
      ⊎_elim
      (λ l. cell_reaches start c (cell_kind c) (λ f j. m f (In-left f (listed (instance_of c (cell_kind c))) (instances cs) j)) x l)
      (λ r. cells_reach start cs (λ f j. m f (In-right f (listed (instance_of c (cell_kind c))) (instances cs) j)) x r)
      (In-cases x (cell_rows start ports p wires c (cell_kind c)) (cells_rows start ports p wires cs) i)

pub rows_reach : (ports : Ports) (p : Path) (m : Module) (x : Driven) → In x (rows_of ports p m) → Reaches ports (instances m.cells) p x
rows_reach ports p m x i =
    ⊎_elim
    (λ l. cells_reach ports (instances m.cells) p m.wires (start_of m.wires m.processes) m.cells (λ f j. j) x l)
    (λ r. from_own ports (instances m.cells) p m.wires x (plain_own p m x r))
    (In-cases x (cells_rows (start_of m.wires m.processes) ports p m.wires m.cells) (plain_rows p m) i)
