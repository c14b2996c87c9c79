-- How often bits are driven after a memory became words, as the check counts them: bits of fresh wires once, others no more often
-- than before.
use Rattle.std.proofs.Common.{◌≡◌, ◌≤◌, ℕ, ◌+◌, Bool, true, false, cond, not, List, [], ◌∷◌, ◌++◌, Option, Some, None, if◌then◌else◌, refl, sym, ◌∙◌, ap, arith}
use Rattle.std.specs.Prelude.{◌&&◌, filter, find, flat_map}
use Rattle.std.specs.Option.{option_map_or}
use Rattle.std.specs.Str.{bytes_eq}
use Rattle.std.proofs.lemmas.Bool.{and_parts}
use Rattle.rtl_sig.specs.declared.sig.WireBit.{WireBit}
use Rattle.cell_types.specs.PinName.{pin_text}
use Rattle.cell_types.specs.declared.kind.CellKind.{CellKind}
use Rattle.cell_types.specs.declared.kind.CellKind.TheVariants.{Word, Gate, Storage, StorageGate, Memory}
use Rattle.cell_types.specs.declared.memory.MemoryKind.TheVariants.{Memrd, MemrdV2, MemwrV2, Meminit, MeminitV2}
use Rattle.cell_types.specs.declared.pin_name.PinName.TheVariants.{Data}
use Rattle.rtl_ir.specs.Flat.Cell.{cell_kind}
use Rattle.rtl_ir.specs.Flat.Memory.{is_read_kind, reading_cells}
use Rattle.rtl_ir.specs.Outputs.{drives_pin, output_pin}
use Rattle.rtl_ir.specs.Parameters.{signal_at}
use Rattle.rtl_ir.specs.Signals.{wire_bits}
use Rattle.rtl_ir.specs.Types.{CellType, Library, Ports, cell_type}
use Rattle.rtl_ir.specs.WritePorts.{is_of_memory}
use Rattle.rtl_ir.specs.declared.cell.Cell.{Cell}
use Rattle.rtl_ir.specs.declared.cell.Pin.{Pin}
use Rattle.net_model.specs.Mem.Expand.{is_memory_kind}
use Rattle.pass_laws.specs.Bits.{cells_bits, pin_bits}
use Rattle.pass_laws.proofs.Counting.{count, count_more}
use Rattle.pass_laws.proofs.Faultless.{type_is}
use Rattle.pass_laws.proofs.Outputs.{drives_own}
use Rattle.net_model.proofs.MemoryCells.{stays}

-- the pin of a name that is driven is among those that are
module _ (type : CellType) (name : List ℕ) (is : (pin : List ℕ) → drives_pin type pin ≡ bytes_eq pin name) (b : WireBit) where
  pin_low : (ps : List Pin) → count b (wire_bits (signal_at ps name)) ≤ count b (pin_bits type ps)
  pin_low [] = omega arith
  pin_low (p ∷ ps) =
      let all = ap (λ t. count b ((if t then wire_bits p.sig else []) ++ pin_bits type ps)) (is p.name) in
      omega (arith, all, by (pin_low ps) (bytes_eq p.name name))
    where
      by : count b (wire_bits (signal_at ps name)) ≤ count b (pin_bits type ps) → (t : Bool) → count b (wire_bits (option_map_or (λ (q : Pin). q.sig) (cond t (Some p) (find (λ (q : Pin). bytes_eq q.name name) ps)) [])) ≤ count b ((if t then wire_bits p.sig else []) ++ pin_bits type ps)
      by later true = omega (arith, count_more b (wire_bits p.sig) (pin_bits type ps))
      by later false = later

-- the bits of the data of a read port
abbrev pub data_of : Cell → List WireBit
data_of c = wire_bits (signal_at c.pins (pin_text Data))

module _ (ports : Ports) (b : WireBit) where
  -- the data of a read port
  data_low : (c : Cell) (kind : CellKind) → cell_kind c ≡ Some kind → output_pin kind ≡ Some Data → count b (wire_bits (signal_at c.pins (pin_text Data))) ≤ count b (pin_bits (cell_type ports c.kind_name) c.pins)
  data_low c kind own out =
      let type = ap (λ t. count b (pin_bits t c.pins)) (type_is ports c kind own) in
      omega (arith, type, pin_low (Library kind) (pin_text Data) (drives_own kind Data out) b c.pins)

  read_low : (c : Cell) (o : Option CellKind) → cell_kind c ≡ o → is_read_kind o ≡ true → count b (wire_bits (signal_at c.pins (pin_text Data))) ≤ count b (pin_bits (cell_type ports c.kind_name) c.pins)
  read_low c (Some (Memory Memrd)) own e = data_low c (Memory Memrd) own refl
  read_low c (Some (Memory MemrdV2)) own e = data_low c (Memory MemrdV2) own refl
  read_low c (Some (Memory MemwrV2)) own e = absurd (cc)
  read_low c (Some (Memory Meminit)) own e = absurd (cc)
  read_low c (Some (Memory MeminitV2)) own e = absurd (cc)
  read_low c (Some (Word kind)) own e = absurd (cc)
  read_low c (Some (Gate kind)) own e = absurd (cc)
  read_low c (Some (Storage kind)) own e = absurd (cc)
  read_low c (Some (StorageGate kind)) own e = absurd (cc)
  read_low c None own e = absurd (cc)

  -- some of these cells drive no bit more often
  pub fewer_cells : (test : Cell → Bool) (cells : List Cell) → count b (cells_bits ports (filter test cells)) ≤ count b (cells_bits ports cells)
  fewer_cells test [] = omega arith
  fewer_cells test (c ∷ cells) = by (fewer_cells test cells) (test c)
    where
      by : count b (cells_bits ports (filter test cells)) ≤ count b (cells_bits ports cells) → (t : Bool) → count b (cells_bits ports (if t then c ∷ filter test cells else filter test cells)) ≤ count b (pin_bits (cell_type ports c.kind_name) c.pins ++ cells_bits ports cells)
      by later true =
          omega (arith, later, count_more b (pin_bits (cell_type ports c.kind_name) c.pins) (cells_bits ports (filter test cells)), count_more b (pin_bits (cell_type ports c.kind_name) c.pins) (cells_bits ports cells))
      by later false =
          omega (arith, later, count_more b (pin_bits (cell_type ports c.kind_name) c.pins) (cells_bits ports cells))

  -- a read port of the memory goes
  reader_goes : (name : List ℕ) (c : Cell) → stays name c ≡ true → (is_read_kind (cell_kind c) && is_of_memory name c) ≡ false
  reader_goes name c e = by (cell_kind c) e
    where
      none : (t : Bool) → not (true && t) ≡ true → (true && t) ≡ false
      none true f = absurd (cc)
      none false f = refl

      by : (o : Option CellKind) → not (is_memory_kind o && is_of_memory name c) ≡ true → (is_read_kind o && is_of_memory name c) ≡ false
      by (Some (Memory Memrd)) f = none (is_of_memory name c) f
      by (Some (Memory MemrdV2)) f = none (is_of_memory name c) f
      by (Some (Memory MemwrV2)) f = refl
      by (Some (Memory Meminit)) f = refl
      by (Some (Memory MeminitV2)) f = refl
      by (Some (Word kind)) f = refl
      by (Some (Gate kind)) f = refl
      by (Some (Storage kind)) f = refl
      by (Some (StorageGate kind)) f = refl
      by None f = refl

  -- the cells that stay and the data of the read ports that go, together
  pub parted : (name : List ℕ) (cells : List Cell) → count b (cells_bits ports (filter (stays name) cells)) + count b (flat_map data_of (reading_cells name cells)) ≤ count b (cells_bits ports cells)
  parted name [] = omega arith
  parted name (c ∷ cells) = by (parted name cells) (stays name c) (is_read_kind (cell_kind c) && is_of_memory name c) refl refl
    where
      by : count b (cells_bits ports (filter (stays name) cells)) + count b (flat_map data_of (reading_cells name cells)) ≤ count b (cells_bits ports cells) → (t u : Bool) → stays name c ≡ t → (is_read_kind (cell_kind c) && is_of_memory name c) ≡ u → count b (cells_bits ports (if t then c ∷ filter (stays name) cells else filter (stays name) cells)) + count b (flat_map data_of (if u then c ∷ reading_cells name cells else reading_cells name cells)) ≤ count b (pin_bits (cell_type ports c.kind_name) c.pins ++ cells_bits ports cells)
      by later true true e f = let differ : true ≡ false = sym f ∙ reader_goes name c e in absurd (cc)
      by later true false e f =
          omega (arith, later, count_more b (pin_bits (cell_type ports c.kind_name) c.pins) (cells_bits ports cells), count_more b (pin_bits (cell_type ports c.kind_name) c.pins) (cells_bits ports (filter (stays name) cells)))
      by later false true e f =
          omega (arith, later, count_more b (pin_bits (cell_type ports c.kind_name) c.pins) (cells_bits ports cells), count_more b (data_of c) (flat_map data_of (reading_cells name cells)), read_low c (cell_kind c) refl (and_parts (is_read_kind (cell_kind c)) (is_of_memory name c) f).0)
      by later false false e f =
          omega (arith, later, count_more b (pin_bits (cell_type ports c.kind_name) c.pins) (cells_bits ports cells))
