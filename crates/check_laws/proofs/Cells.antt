-- The places of rows of cells: bits that the cells drive, and bits of input ports of instances.
use Rattle.std.proofs.Common.{◌≡◌, ℕ, Bool, true, false, List, [], ◌∷◌, ◌++◌, Option, Some, None, inl, inr, ⊎_elim, refl, sym, ◌∙◌, ap, subst, append_assoc}
use Rattle.std.specs.Prelude.{map, filter, not, if◌then◌else◌}
use Rattle.std.specs.Option.{option_map_or}
use Rattle.rtl_bits.specs.declared.bit.Bit.{Bit}
use Rattle.rtl_sig.specs.declared.sig.SigBit.{SigBit}
use Rattle.cell_types.specs.declared.kind.CellKind.{CellKind}
use Rattle.cell_types.specs.declared.kind.CellKind.TheVariants.{Word, Gate, Storage, StorageGate, Memory}
use Rattle.cell_types.specs.Kind.{kind_of}
use Rattle.cell_types.specs.Unsupported.{is_unsupported}
use Rattle.rtl_ir.specs.declared.cell.Cell.{Cell}
use Rattle.rtl_ir.specs.declared.ports.PortLine.{PortLine}
use Rattle.rtl_ir.specs.declared.wire.Role.TheVariants.{Input}
use Rattle.rtl_ir.specs.declared.wire.Wire.{Wire}
use Rattle.rtl_ir.specs.Flat.Cell.{Ports as FlatPorts, cell_kind, instance_of, listed, instances, kind_rows, instance_rows, cell_rows, cells_rows}
use Rattle.rtl_ir.specs.Flat.Memory.{is_read_kind}
use Rattle.rtl_ir.specs.Flat.Place.{Frame, frame, Path, Place}
use Rattle.rtl_ir.specs.Flat.Point.{bit_place}
use Rattle.rtl_ir.specs.Flat.Tree.{role_points, places}
use Rattle.rtl_ir.specs.Outputs.{is_output}
use Rattle.rtl_ir.specs.Ports.{ports_of}
use Rattle.rtl_ir.specs.Types.{Ports, Library, Instance, type_by, cell_type, port_lines}
use Rattle.net_model.specs.Lists.{In, Distinct}
use Rattle.net_model.specs.Refine.{places_of}
use Rattle.net_model.proofs.Members.{In-map, In-cases, apart_at, Distinct-append}
use Rattle.net_model.proofs.Relating.{role_is}
use Rattle.check_laws.proofs.Parts.{IsPart, part_none, part_more, part_trans, part_left, part_right, part_both, part_map}
use Rattle.check_laws.proofs.Named.{SamePorts, NoPorts, PortsOf, ordered_lines, lines_distinct, ports_distinct, port_found}
use Rattle.check_laws.proofs.Ports.{role_once}
use Rattle.check_laws.proofs.Rows.{pins_bits, cells_bits, at_places, kind_part, rows_pair}
use Rattle.check_laws.proofs.Instances.{ports_bits, instance_part, DrivesOutputs, ports_part}

-- the bits of the input ports of instances in a module at this path
abbrev pub frames_bits : FlatPorts → Path → List Frame → List Place
frames_bits ports p [] = []
frames_bits ports p (f ∷ fs) = places (role_points Input (f ∷ p) (ports f.module_name)) ++ frames_bits ports p fs

frames-append : (ports : FlatPorts) (p : Path) (fs gs : List Frame) → frames_bits ports p (fs ++ gs) ≡ frames_bits ports p fs ++ frames_bits ports p gs
frames-append ports p [] gs = refl
frames-append ports p (f ∷ fs) gs =
    ap (λ z. places (role_points Input (f ∷ p) (ports f.module_name)) ++ z) (frames-append ports p fs gs)
    ∙ sym (append_assoc (places (role_points Input (f ∷ p) (ports f.module_name))) (frames_bits ports p fs) (frames_bits ports p gs))

-- the cells that read memories have their rows with the memory
abbrev pub reads : Cell → Bool
reads c = is_read_kind (cell_kind c)

abbrev pub other_cells : List Cell → List Cell
other_cells cs = filter (λ (c : Cell). not (reads c)) cs

reading_rows : (start : SigBit → Bit) (ports : FlatPorts) (p : Path) (wires : List Wire) (c : Cell) (k : Option CellKind) → is_read_kind k ≡ true → cell_rows start ports p wires c k ≡ []
reading_rows start ports p wires c None e = absurd (cc)
reading_rows start ports p wires c (Some (Word kind)) e = absurd (cc)
reading_rows start ports p wires c (Some (Gate kind)) e = absurd (cc)
reading_rows start ports p wires c (Some (Storage kind)) e = absurd (cc)
reading_rows start ports p wires c (Some (StorageGate gate)) e = absurd (cc)
reading_rows start ports p wires c (Some (Memory kind)) e = refl

reading_frames : (c : Cell) (k : Option CellKind) → is_read_kind k ≡ true → listed (instance_of c k) ≡ []
reading_frames c None e = absurd (cc)
reading_frames c (Some kind) e = refl

-- the output ports of a module are driven by its instances
drives_outputs : (ws : List Wire) → Distinct (map (λ (w : Wire). w.name) ws) → DrivesOutputs (Instance (port_lines ws)) (ports_of ws)
drives_outputs ws u n i e =
    ap (λ z. option_map_or (λ (port : PortLine). is_output port.role) z false) (port_found (port_lines ws) (lines_distinct ws u) n ((ordered_lines ws).each n i)) ∙ ap is_output e

module _ (checked : Ports) (ports : FlatPorts) (same : (id : List ℕ) → SamePorts (checked id) (ports id)) (p : Path) where
  module _ (wires : List Wire) (start : SigBit → Bit) where
    cell_part : (c : Cell) → IsPart (places_of (cell_rows start ports p wires c (cell_kind c))) (at_places p wires (pins_bits (cell_type checked c.kind_name) c.pins) ++ frames_bits ports p (listed (instance_of c (cell_kind c))))
    unfolding cell_kind cell_type
    cell_part c = by (kind_of c.kind_name)
      where
        of : (o : Option (List PortLine)) (ns : List PortLine) (t : Bool) → SamePorts o ns → IsPart (places_of (instance_rows p wires c.pins (frame c.name c.kind_name) ns)) (at_places p wires (pins_bits (type_by None o t) c.pins) ++ (places (role_points Input (frame c.name c.kind_name ∷ p) ns) ++ []))
        of o ns t NoPorts = part_none _
        of o ns t (PortsOf ws u) =
            let outs = at_places p wires (ports_bits c.pins (ports_of ws)) in
            let ins = places (role_points Input (frame c.name c.kind_name ∷ p) (ports_of ws)) in
            let all = at_places p wires (pins_bits (Instance (port_lines ws)) c.pins) in
            part_trans _ (outs ++ ins) (all ++ (ins ++ []))
            (instance_part p wires c.pins (frame c.name c.kind_name) (ports_of ws))
            (part_both outs ins all (ins ++ [])
            (part_map (bit_place p wires) (ports_bits c.pins (ports_of ws)) (pins_bits (Instance (port_lines ws)) c.pins)
            (ports_part (Instance (port_lines ws)) c.pins (ports_of ws) (ports_distinct ws u) (drives_outputs ws u)))
            (part_left ins []))

        by : (k : Option CellKind) → IsPart (places_of (cell_rows start ports p wires c k)) (at_places p wires (pins_bits (type_by k (checked c.kind_name) (is_unsupported c.kind_name)) c.pins) ++ frames_bits ports p (listed (instance_of c k)))
        by (Some kind) =
            part_trans (places_of (kind_rows start p wires c kind)) (at_places p wires (pins_bits (Library kind) c.pins)) (at_places p wires (pins_bits (Library kind) c.pins) ++ [])
            (kind_part p wires start c kind) (part_left (at_places p wires (pins_bits (Library kind) c.pins)) [])
        by None = of (checked c.kind_name) (ports c.kind_name) (is_unsupported c.kind_name) (same c.kind_name)

    pub cells_part : (cs : List Cell) → IsPart (places_of (cells_rows start ports p wires cs)) (at_places p wires (cells_bits checked (other_cells cs)) ++ frames_bits ports p (instances cs))
    cells_part [] = part_none []
    cells_part (c ∷ cs) = by (reads c) refl (cells_part cs)
      where
        by : (t : Bool) → reads c ≡ t → IsPart (places_of (cells_rows start ports p wires cs)) (at_places p wires (cells_bits checked (other_cells cs)) ++ frames_bits ports p (instances cs)) → IsPart (places_of (cells_rows start ports p wires (c ∷ cs))) (at_places p wires (cells_bits checked (if not t then c ∷ other_cells cs else other_cells cs)) ++ frames_bits ports p (instances (c ∷ cs)))
        by true e h =
            let bits = at_places p wires (cells_bits checked (other_cells cs)) in
            subst (λ z. IsPart (places_of (z ++ cells_rows start ports p wires cs)) (bits ++ frames_bits ports p (instances (c ∷ cs)))) (sym (reading_rows start ports p wires c (cell_kind c) e))
            (subst (λ z. IsPart (places_of (cells_rows start ports p wires cs)) (bits ++ frames_bits ports p (z ++ instances cs))) (sym (reading_frames c (cell_kind c) e)) h)
        by false e h =
            let bits = pins_bits (cell_type checked c.kind_name) c.pins in
            let frames = listed (instance_of c (cell_kind c)) in
            subst (λ z. IsPart (places_of (cells_rows start ports p wires (c ∷ cs))) (at_places p wires (bits ++ cells_bits checked (other_cells cs)) ++ z)) (sym (frames-append ports p frames (instances cs)))
            (rows_pair p wires (cell_rows start ports p wires c (cell_kind c)) (cells_rows start ports p wires cs) bits (cells_bits checked (other_cells cs)) (frames_bits ports p frames) (frames_bits ports p (instances cs)) (cell_part c) h)

  -- the instance of a bit
  pub frame_at : (q : Place) (fs : List Frame) → In q (frames_bits ports p fs) → (f : Frame) × In f fs × (q.path ≡ f ∷ p)
  frame_at q [] i = absurd i
  frame_at q (f ∷ fs) i =
      ⊎_elim
      (λ l. let k = role_is Input (f ∷ p) (ports f.module_name) q l in (f, inl refl, k.2))
      (λ r. let k = frame_at q fs r in (k.0, inr k.1, k.2))
      (In-cases q (places (role_points Input (f ∷ p) (ports f.module_name))) (frames_bits ports p fs) i)

  ports_once : (o : Option (List PortLine)) (ns : List PortLine) (q : Path) → SamePorts o ns → Distinct (places (role_points Input q ns))
  ports_once o ns q NoPorts = tt
  ports_once o ns q (PortsOf ws u) = role_once q (ports_of ws) (ports_distinct ws u)

  pub frames_once : (fs : List Frame) → Distinct (map (λ (f : Frame). f.name) fs) → Distinct (frames_bits ports p fs)
  frames_once [] u = tt
  frames_once (f ∷ fs) u =
      Distinct-append (places (role_points Input (f ∷ p) (ports f.module_name))) (frames_bits ports p fs)
      (ports_once (checked f.module_name) (ports f.module_name) (f ∷ p) (same f.module_name)) (frames_once fs u.1)
      (λ q i j.
      let k = role_is Input (f ∷ p) (ports f.module_name) q i in
      let l = frame_at q fs j in
      let both : f ∷ p ≡ l.0 ∷ p = sym k.2 ∙ l.2 in
      let one : f ≡ l.0 = cc in
      apart_at f.name (map (λ (g : Frame). g.name) fs) u.0 l.0.name (In-map (λ (g : Frame). g.name) l.0 fs l.1) (ap (λ (g : Frame). g.name) one))

-- instances are cells
pub instances_part : (cs : List Cell) → IsPart (map (λ (f : Frame). f.name) (instances cs)) (map (λ (c : Cell). c.name) cs)
instances_part [] = part_none []
instances_part (c ∷ cs) = by (cell_kind c) (instances_part cs)
  where
    by : (k : Option CellKind) → IsPart (map (λ (f : Frame). f.name) (instances cs)) (map (λ (z : Cell). z.name) cs) → IsPart (map (λ (f : Frame). f.name) (listed (instance_of c k) ++ instances cs)) (c.name ∷ map (λ (z : Cell). z.name) cs)
    by (Some kind) h = part_trans (map (λ (f : Frame). f.name) (instances cs)) (map (λ (z : Cell). z.name) cs) (c.name ∷ map (λ (z : Cell). z.name) cs) h (part_right (c.name ∷ []) (map (λ (z : Cell). z.name) cs))
    by None h = part_more c.name (map (λ (f : Frame). f.name) (instances cs)) (map (λ (z : Cell). z.name) cs) h
