-- No other row reads the tree bits of a process that is read nowhere else.
use Rattle.std.proofs.Common.{◌≡◌, ℕ, ◌<◌, Bool, true, false, ◌||◌, List, [], ◌∷◌, ◌++◌, length, ◌⊎◌, inl, inr, ⊎_elim, refl, sym, ◌∙◌, ap, subst, arith}
use Rattle.std.specs.Prelude.{flat_map, if◌then◌else◌, map, not}
use Rattle.std.specs.List.{list_any}
use Rattle.rtl_bits.specs.declared.bit.Bit.{Bit}
use Rattle.rtl_sig.specs.declared.sig.SigBit.{SigBit}
use Rattle.rtl_sig.specs.declared.sig.SigBit.TheVariants.{Fixed, Wire as OnWire}
use Rattle.rtl_sig.specs.declared.sig.WireBit.{WireBit}
use Rattle.rtl_ir.specs.Assigns.{tree_bits}
use Rattle.rtl_ir.specs.Flat.Cell as flat
use Rattle.rtl_ir.specs.Flat.Cell.{cell_kind, cell_rows, cells_rows, instance_of, instances, listed}
use Rattle.rtl_ir.specs.Flat.Driver.{Driven}
use Rattle.rtl_ir.specs.Flat.Place.{Frame, Path, Place}
use Rattle.rtl_ir.specs.Flat.Point.{At, Point, bit_place, point}
use Rattle.rtl_ir.specs.Flat.Process.{process_rows}
use Rattle.rtl_ir.specs.Flat.Reads.{read_points, reads}
use Rattle.rtl_ir.specs.Flat.Start.{start_of}
use Rattle.rtl_ir.specs.Outputs.{drives_pin}
use Rattle.rtl_ir.specs.Parameters.{signal_at}
use Rattle.rtl_ir.specs.Signals.{has_bit, wire_bits}
use Rattle.rtl_ir.specs.SwitchRules.{root_by_rules}
use Rattle.rtl_ir.specs.Types.{CellType, Ports, cell_type}
use Rattle.rtl_ir.specs.declared.cell.Cell.{Cell}
use Rattle.rtl_ir.specs.declared.cell.Pin.{Pin}
use Rattle.rtl_ir.specs.declared.module.Link.{Link}
use Rattle.rtl_ir.specs.declared.module.Module.{Module}
use Rattle.rtl_ir.specs.declared.process.Process.{Process}
use Rattle.rtl_ir.specs.declared.process.SyncRule.{SyncRule}
use Rattle.rtl_ir.specs.declared.wire.Wire.{Wire}
use Rattle.net_model.proofs.Members.{In-cases, In-left, In-map, In-mapped, In-right}
use Rattle.net_model.specs.Lists.{Distinct, In}
use Rattle.net_model.specs.Proc.Reset.{are_unread, cell_reads, outer_reads, output_bits, process_reads}
use Rattle.net_model.specs.Refine.{places_of}
use Rattle.net_model.specs.Within.{Each, IsWithin, ProcessIn}
use Rattle.build_laws.proofs.Staying.{SameAccesses}
use Rattle.pass_laws.specs.Bits.{cells_bits, pin_bits}
use Rattle.build_laws.proofs.CountingBits.{AreBelow}
use Rattle.build_laws.proofs.RebuildPlaces.{processes_places}
use Rattle.build_laws.specs.Rebuilds.{driven_bits}
use Rattle.reset_laws.proofs.FrameRows.{IsOther, WriteNothing, start}
use Rattle.reset_laws.proofs.FrameStep.{IsNone}
use Rattle.reset_laws.proofs.FreedBits.{in_has}
use Rattle.reset_laws.proofs.FreeReads.{IsClear, bit_clear, constant_clear, events_clear, in_flat, lines_clear, rights_clear, signal_clear, signals_clear, sources_clear, word_clear}
use Rattle.pass_laws.proofs.CellReads as cells
use Rattle.reset_laws.proofs.ReadMemories.{LineOk, link_free, memory_free}
use Rattle.reset_laws.proofs.ReadProcess.{process_free}

longer : (f : Frame) (p : Path) → f ∷ p ≡ p → ⊥
longer f p e = let n : length (f ∷ p) ≡ length p = ap length e in absurd (omega arith)

-- unread bits are none of the reads
pub unread_apart : (bits reads : List WireBit) → are_unread bits reads ≡ true → (b : WireBit) → In b bits → In b reads → ⊥
unread_apart [] reads e b i j = absurd i
unread_apart (c ∷ bits) reads e b i j = by (has_bit reads c) refl e i (unread_apart bits reads)
  where
    by : (t : Bool) → has_bit reads c ≡ t → not (t || list_any (has_bit reads) bits) ≡ true → (b ≡ c) ⊎ In b bits → (are_unread bits reads ≡ true → (x : WireBit) → In x bits → In x reads → ⊥) → ⊥
    by true f g k later = absurd (cc)
    by false f g (inl h) later = absurd (let no : true ≡ false = sym (in_has reads c (subst (λ z. In z reads) h j)) ∙ f in cc)
    by false f g (inr k) later = later g b k j

frames_in : (cs : List Cell) (c : Cell) → In c cs → (f : Frame) → In f (listed (instance_of c (cell_kind c))) → In f (instances cs)
frames_in [] c i f j = absurd i
frames_in (d ∷ cs) c (inl e) f j =
    In-left f (listed (instance_of d (cell_kind d))) (instances cs) (subst (λ z. In f (listed (instance_of z (cell_kind z)))) e j)
frames_in (d ∷ cs) c (inr i) f j = In-right f (listed (instance_of d (cell_kind d))) (instances cs) (frames_in cs c i f j)

cells_row : (begun : SigBit → Bit) (over : flat.Ports) (p : Path) (wires : List Wire) (cs : List Cell) (x : Driven) → In x (cells_rows begun over p wires cs) → (c : Cell) × In c cs × In x (cell_rows begun over p wires c (cell_kind c))
cells_row begun over p wires [] x i = absurd i
cells_row begun over p wires (c ∷ cs) x i =
    ⊎_elim
    (λ l. (c, inl refl, l))
    (λ r. let k = cells_row begun over p wires cs x r in (k.0, inr k.1, k.2))
    (In-cases x (cell_rows begun over p wires c (cell_kind c)) (cells_rows begun over p wires cs) i)

-- the bits of pins are read or driven
in_or_out : (type : CellType) (pins : List Pin) (b : WireBit) → In b (flat_map (λ (pin : Pin). wire_bits pin.sig) pins) → In b (flat_map (λ (pin : Pin). if drives_pin type pin.name then [] else wire_bits pin.sig) pins) ⊎ In b (pin_bits type pins)
in_or_out type [] b i = absurd i
in_or_out type (p ∷ pins) b i = by (drives_pin type p.name) (in_or_out type pins b) (In-cases b (wire_bits p.sig) (flat_map (λ (q : Pin). wire_bits q.sig) pins) i)
  where
    reads : List WireBit
    reads = flat_map (λ (pin : Pin). if drives_pin type pin.name then [] else wire_bits pin.sig) pins

    by : (t : Bool) → (In b (flat_map (λ (q : Pin). wire_bits q.sig) pins) → In b reads ⊎ In b (pin_bits type pins)) → In b (wire_bits p.sig) ⊎ In b (flat_map (λ (q : Pin). wire_bits q.sig) pins) → In b ((if t then [] else wire_bits p.sig) ++ reads) ⊎ In b ((if t then wire_bits p.sig else []) ++ pin_bits type pins)
    by true later (inl j) = inr (In-left b (wire_bits p.sig) (pin_bits type pins) j)
    by true later (inr j) = ⊎_elim (λ l. inl l) (λ r. inr (In-right b (wire_bits p.sig) (pin_bits type pins) r)) (later j)
    by false later (inl j) = inl (In-left b (wire_bits p.sig) reads j)
    by false later (inr j) = ⊎_elim (λ l. inl (In-right b (wire_bits p.sig) reads l)) (λ r. inr r) (later j)

wire_at : (signal : List SigBit) (b : WireBit) → In (OnWire b) signal → In b (wire_bits signal)
wire_at [] b i = absurd i
wire_at (Fixed c ∷ signal) b (inl e) = absurd (cc)
wire_at (Fixed c ∷ signal) b (inr i) = wire_at signal b i
wire_at (OnWire d ∷ signal) b (inl e) = let same : b ≡ d = cc in inl same
wire_at (OnWire d ∷ signal) b (inr i) = inr (wire_at signal b i)

places_clear : (F : Point → Type 0) (ps : List Point) → Each F ps → (z : Place) → In (At z) ps → F (At z)
places_clear F ps h z i = h (At z) i

-- what is known of bits that nothing outside a process reads
pub record IsUnread (ports : Ports) (m : Module) (others : List Process) (q : Process) (gone : List WireBit) : Type 0 where
  pub named : Distinct (map (λ (w : Wire). w.name) m.wires)
  pub within : IsWithin m
  pub others_within : Each (ProcessIn (length m.wires)) others
  pub others_ruled : Each (λ (s : Process). root_by_rules s.root ≡ s.root) others
  pub low : (b : WireBit) → In b gone → b.wire < length m.wires
  pub outer : (b : WireBit) → In b gone → In b (outer_reads ports m others) → ⊥
  pub cells : (b : WireBit) → In b gone → In b (cells_bits ports m.cells) → ⊥
  pub apart : (s : Process) → In s others → (b : WireBit) → In b (driven_bits s) → In b gone → ⊥
  pub driven_low : (s : Process) → In s others → AreBelow (length m.wires) (driven_bits s)
  pub writes : WriteNothing q.syncs

module _ (ports : Ports) (over : flat.Ports) (m : Module) (pre post : List Process) (q r : Process) (gone : List WireBit) (is : IsUnread ports m (pre ++ post) q gone) (p : Path) (starts : start_of m.wires (pre ++ q ∷ post) ≡ start_of m.wires (pre ++ r ∷ post)) (accesses : SameAccesses (pre ++ q ∷ post) (pre ++ r ∷ post)) where
  abbrev F : Point → Type 0
  F = IsClear m gone is.named is.low p

  abbrev rights : List WireBit
  rights = flat_map (λ (l : Link). wire_bits l.right) m.links

  abbrev cell_part : List WireBit
  cell_part = flat_map (cell_reads ports) m.cells

  abbrev process_part : List WireBit
  process_part = flat_map process_reads (pre ++ post)

  abbrev output_part : List WireBit
  output_part = output_bits 0 m.wires

  link_clear : (l : Link) → In l m.links → Each (λ (s : SigBit). F (point p m.wires s)) l.right
  link_clear l i =
      signal_clear m gone is.named is.low p l.right (is.within.links l i).1
      (λ b j k. is.outer b k (In-left b rights (cell_part ++ (process_part ++ output_part)) (in_flat (λ (z : Link). wire_bits z.right) m.links l b i (wire_at l.right b j))))

  -- a bit of a pin
  pin_apart : (c : Cell) → In c m.cells → (b : WireBit) → In b (cells.cell_bits c) → In b gone → ⊥
  pin_apart c i b j k =
      ⊎_elim
      (λ l. is.outer b k (In-right b rights (cell_part ++ (process_part ++ output_part)) (In-left b cell_part (process_part ++ output_part) (in_flat (cell_reads ports) m.cells c b i l))))
      (λ l. is.cells b k (in_flat (λ (z : Cell). pin_bits (cell_type ports z.kind_name) z.pins) m.cells c b i l))
      (in_or_out (cell_type ports c.kind_name) c.pins b j)

  pin_low : (c : Cell) → In c m.cells → (b : WireBit) → In b (cells.cell_bits c) → b.wire < length m.wires
  pin_low c i b j =
      let k = from_bits c.pins b j in
      is.within.cells c i k.0 k.1 (OnWire b) k.2
    where
      back : (signal : List SigBit) (b : WireBit) → In b (wire_bits signal) → In (OnWire b) signal
      back [] b i = absurd i
      back (Fixed c ∷ signal) b i = inr (back signal b i)
      back (OnWire d ∷ signal) b (inl e) = inl (ap OnWire e)
      back (OnWire d ∷ signal) b (inr i) = inr (back signal b i)

      from_bits : (pins : List Pin) (b : WireBit) → In b (flat_map (λ (pin : Pin). wire_bits pin.sig) pins) → (pin : Pin) × In pin pins × In (OnWire b) pin.sig
      from_bits [] b j = absurd j
      from_bits (pin ∷ pins) b j = ⊎_elim (λ l. (pin, inl refl, back pin.sig b l)) (λ l. let k = from_bits pins b l in (k.0, inr k.1, k.2)) (In-cases b (wire_bits pin.sig) (flat_map (λ (z : Pin). wire_bits z.sig) pins) j)

  pins_clear : (c : Cell) → In c m.cells → (name : List ℕ) → Each (λ (s : SigBit). F (point p m.wires s)) (signal_at c.pins name)
  pins_clear c i name s j = by s j
    where
      by : (s : SigBit) → In s (signal_at c.pins name) → F (point p m.wires s)
      by (Fixed d) k = constant_clear m gone is.named is.low p d
      by (OnWire b) k =
          let l = cells.signal_bits c.pins name b (wire_at (signal_at c.pins name) b k) in
          bit_clear m gone is.named is.low p b (pin_low c i b l) (pin_apart c i b l)

  -- of points of a row
  row_clear : (x : Driven) → Each F (read_points x.driver) → (z : Place) → In z (reads x.driver) → IsNone m gone z.spot
  row_clear x h z i = h (At z) (cells.in_places (read_points x.driver) z i) z refl

  cell_clear : (x : Driven) → In x (cells_rows (start over m pre post q r p starts accesses) over p m.wires m.cells) → (z : Place) → In z (reads x.driver) → z.path ≡ p → IsNone m gone z.spot
  cell_clear x i z j e =
      let begun : SigBit → Bit = start over m pre post q r p starts accesses in
      let c = cells_row begun over p m.wires m.cells x i in
      ⊎_elim
      (λ l. bit_clear m gone is.named is.low p l.0 (pin_low c.0 c.1 l.0 l.1) (pin_apart c.0 c.1 l.0 l.1) z (ap At (sym l.2)))
      (λ o. absurd (longer o.0 p (sym o.4 ∙ e)))
      (cells.cell_reads over p m.wires c.0 begun (instances m.cells) (cell_kind c.0) (frames_in m.cells c.0 c.1) x c.2 z j)

  -- a process beside it
  process_unread : (s : Process) → In s (pre ++ post) → (b : WireBit) → In b (process_reads s) → In b gone → ⊥
  process_unread s i b j k =
      is.outer b k (In-right b rights (cell_part ++ (process_part ++ output_part)) (In-right b cell_part (process_part ++ output_part) (In-left b process_part output_part (in_flat process_reads (pre ++ post) s b i j))))

  process_clear : (s : Process) → In s (pre ++ post) → (x : Driven) → In x (process_rows (start over m pre post q r p starts accesses) p m.wires m s) → Each F (read_points x.driver)
  process_clear s i x j =
      let begun : SigBit → Bit = start over m pre post q r p starts accesses in
      let in_s : ProcessIn (length m.wires) s = is.others_within s i in
      let un = process_unread s i in
      process_free F (constant_clear m gone is.named is.low p) begun p m.wires s.root (tree_bits s.root)
      (signals_clear m gone is.named is.low p s in_s un) (rights_clear m gone is.named is.low p s in_s un) m s (is.others_ruled s i) refl
      (events_clear m gone is.named is.low p s in_s un) (sources_clear m gone is.named is.low p s in_s un) x j own
    where
      own : F (At x.place)
      own =
          let begun : SigBit → Bit = start over m pre post q r p starts accesses in
          let rows : places_of (process_rows begun p m.wires m s ++ []) ≡ map (bit_place p m.wires) (driven_bits s ++ []) = processes_places begun p m.wires m (s ∷ []) in
          let there : In x.place (places_of (process_rows begun p m.wires m s ++ [])) = In-map (λ (d : Driven). d.place) x (process_rows begun p m.wires m s ++ []) (In-left x (process_rows begun p m.wires m s) [] j) in
          let k = In-mapped (bit_place p m.wires) x.place (driven_bits s ++ []) (subst (In x.place) rows there) in
          let bit : In k.0 (driven_bits s) = ⊎_elim (λ a. a) (λ a. absurd a) (In-cases k.0 (driven_bits s) [] k.1) in
          subst (λ z. F (At z)) (sym k.2) (bit_clear m gone is.named is.low p k.0 (is.driven_low s i k.0 bit) (is.apart s i k.0 bit))

  lines_of : (s : Process) → In s (pre ++ q ∷ post) → (z : SyncRule) → In z s.syncs → Each (LineOk F (constant_clear m gone is.named is.low p) p m.wires (word_clear m gone is.named is.low p) z.event) z.writes
  lines_of s i z j =
      ⊎_elim (λ l. here (In-left s pre post l)) (λ k. ⊎_elim own (λ l. here (In-right s pre post l)) k) (In-cases s pre (q ∷ post) i)
    where
      here : In s (pre ++ post) → Each (LineOk F (constant_clear m gone is.named is.low p) p m.wires (word_clear m gone is.named is.low p) z.event) z.writes
      here l = lines_clear m gone is.named is.low p s (is.others_within s l) (process_unread s l) z j

      own : s ≡ q → Each (LineOk F (constant_clear m gone is.named is.low p) p m.wires (word_clear m gone is.named is.low p) z.event) z.writes
      own e line k =
          let none : z.writes ≡ [] = is.writes z (subst (λ (x : Process). In z x.syncs) e j) in
          absurd (subst (In line) none k)

  -- each row of another part
  pub others_clear : (x : Driven) → IsOther over m pre post q r p starts accesses x → (z : Place) → In z (reads x.driver) → z.path ≡ p → IsNone m gone z.spot
  others_clear x (inl i) z j e = cell_clear x i z j e
  others_clear x (inr (inl i)) z j e =
      row_clear x (link_free F (constant_clear m gone is.named is.low p) p m.wires (word_clear m gone is.named is.low p) m.links link_clear x i) z j
  others_clear x (inr (inr (inl k))) z j e = row_clear x (process_clear k.0 k.1 x k.2) z j
  others_clear x (inr (inr (inr i))) z j e =
      row_clear x (memory_free F (constant_clear m gone is.named is.low p) p m.wires (word_clear m gone is.named is.low p) m.cells (pre ++ q ∷ post) pins_clear lines_of m.memories x i) z j
