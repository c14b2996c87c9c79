-- What the maps owe of the cells that become gates: the one place that goes by their kinds.
use Rattle.std.proofs.Common.{◌≡◌, ℕ, true, false, Some, None, if◌then◌else◌, Bool, Option, List, length, refl, sym, ◌∙◌, ap}
use Rattle.cell_types.specs.declared.kind.CellKind.{CellKind}
use Rattle.cell_types.specs.declared.kind.CellKind.TheVariants.{Gate, Memory, Storage, StorageGate, Word}
use Rattle.cell_types.specs.declared.pin_name.PinName.TheVariants.{Q, Y}
use Rattle.cell_types.specs.declared.shape.Shape.{Shape}
use Rattle.cell_types.specs.declared.word.ArithKind.TheVariants.{Add, Sub, Mul}
use Rattle.cell_types.specs.declared.word.UnaryKind.TheVariants.{Not, Pos, Neg}
use Rattle.cell_types.specs.declared.word.WordKind.TheVariants.{Unary, Fold, Bitwise, Logic, Equal, Order, Arith, Division, Shift, Mux, Pmux, Slice, Concat, Buf, Bwmux, Bmux, Demux}
use Rattle.rtl_bits.specs.declared.bit.Bit.{Bit}
use Rattle.rtl_sig.specs.declared.sig.SigBit.{SigBit}
use Rattle.rtl_ir.specs.Build.{Building}
use Rattle.rtl_ir.specs.Faults.Cells.{is_memory_kind, misfit}
use Rattle.rtl_ir.specs.Flat.Cell.{Ports, cell_shape}
use Rattle.rtl_ir.specs.Types.{Library}
use Rattle.rtl_ir.specs.declared.cell.Cell.{Cell}
use Rattle.rtl_ir.specs.declared.wire.Wire.{Wire}
use Rattle.map_laws.specs.Expansion.{IsExpansion, IsWhole, StandsWith, cell_bits, cells_added, kind_bits, links_added}
use Rattle.map_laws.proofs.Shaping.{shape_fits}
use Rattle.map_add.proofs.Expanded as add_maps
use Rattle.map_add.specs.Expand as adds
use Rattle.map_flop.proofs.Expanded as flop_maps
use Rattle.map_flop.specs.Expand as flops
use Rattle.map_gates.proofs.Expanded as gate_maps
use Rattle.map_gates.specs.Expand as gates
use Rattle.map_mul.proofs.Expanded as product_maps
use Rattle.map_mul.specs.Expand as products
use Rattle.map_shift.proofs.Expanded as shift_maps
use Rattle.map_shift.specs.Expand as shifts
use Rattle.pass_laws.proofs.Outputs.{output_bits}
use Rattle.pass_laws.specs.Bits.{pin_bits}
use Rattle.tech_map.specs.Techmap.{expand_by_kind, if_taken, is_taken}

-- what a map owes of a cell for which it added something
pub record IsMappedTo (old new : Building) (c : Cell) : Type 0 where
  pub expansion : IsExpansion old new c
  pub stands : (ports : Ports) (start : SigBit → Bit) (wires : List Wire) → StandsWith ports start wires c (cells_added old new) (links_added old new)

-- each map owes what is asked of it, for the kinds that it has
module _ (kind : CellKind) (c : Cell) (b : Building) (whole : IsWhole (length b.body.wires) kind c) where
  abbrev shape : Shape
  shape = cell_shape kind c.params

  by_gates : gates.is_mapped kind ≡ true → IsMappedTo b (gates.map_of shape c b) c
  unfolding cell_shape
  by_gates e =
      let is = shape_fits c kind whole.own whole.shape in
      record {
        expansion = gate_maps.expanded c b (gates.map_of shape c b) shape refl is e whole;
        stands = λ ports start wires. gate_maps.expanded_stands c b (gates.map_of shape c b) shape refl is e ports start wires;
      }

  by_adds : adds.is_mapped kind ≡ true → IsMappedTo b (adds.map_of shape c b) c
  unfolding cell_shape
  by_adds e =
      let is = shape_fits c kind whole.own whole.shape in
      record {
        expansion = add_maps.expanded c b (adds.map_of shape c b) shape refl is e whole;
        stands = λ ports start wires. add_maps.expanded_stands c b (adds.map_of shape c b) shape refl is e ports start wires;
      }

  by_products : products.is_mapped kind ≡ true → IsMappedTo b (products.map_of shape c b) c
  unfolding cell_shape
  by_products e =
      let is = shape_fits c kind whole.own whole.shape in
      record {
        expansion = product_maps.expanded c b (products.map_of shape c b) shape refl is e whole;
        stands = λ ports start wires. product_maps.expanded_stands c b (products.map_of shape c b) shape refl is e ports start wires;
      }

  by_shifts : shifts.is_mapped kind ≡ true → IsMappedTo b (shifts.map_of shape c b) c
  unfolding cell_shape
  by_shifts e =
      let is = shape_fits c kind whole.own whole.shape in
      record {
        expansion = shift_maps.expanded c b (shifts.map_of shape c b) shape refl is e whole;
        stands = λ ports start wires. shift_maps.expanded_stands c b (shifts.map_of shape c b) shape refl is e ports start wires;
      }

  by_flops : flops.is_mapped kind ≡ true → IsMappedTo b (flops.map_of shape c b) c
  unfolding cell_shape
  by_flops e =
      let is = shape_fits c kind whole.own whole.shape in
      record {
        expansion = flop_maps.expanded c b shape (flops.map_of shape c b) refl is e whole;
        stands = λ ports start wires. flop_maps.expanded_stands c b shape (flops.map_of shape c b) refl is e ports start wires;
      }

-- so what is owed is so of each kind that becomes gates
pub mapped : (kind : CellKind) → is_taken kind ≡ true → (c : Cell) (b : Building) → IsWhole (length b.body.wires) kind c → IsMappedTo b (expand_by_kind kind c b) c
mapped (Word (Unary Not)) e c b whole = by_gates (Word (Unary Not)) c b whole refl
mapped (Word (Unary Pos)) e c b whole = by_gates (Word (Unary Pos)) c b whole refl
mapped (Word (Unary Neg)) e c b whole = by_adds (Word (Unary Neg)) c b whole refl
mapped (Word (Fold kind)) e c b whole = by_gates (Word (Fold kind)) c b whole refl
mapped (Word (Bitwise kind)) e c b whole = by_gates (Word (Bitwise kind)) c b whole refl
mapped (Word (Logic kind)) e c b whole = by_gates (Word (Logic kind)) c b whole refl
mapped (Word (Equal kind)) e c b whole = by_gates (Word (Equal kind)) c b whole refl
mapped (Word (Order kind)) e c b whole = by_adds (Word (Order kind)) c b whole refl
mapped (Word (Arith Add)) e c b whole = by_adds (Word (Arith Add)) c b whole refl
mapped (Word (Arith Sub)) e c b whole = by_adds (Word (Arith Sub)) c b whole refl
mapped (Word (Arith Mul)) e c b whole = by_products (Word (Arith Mul)) c b whole refl
mapped (Word (Division kind)) e c b whole = by_products (Word (Division kind)) c b whole refl
mapped (Word (Shift kind)) e c b whole = by_shifts (Word (Shift kind)) c b whole refl
mapped (Word Mux) e c b whole = by_gates (Word Mux) c b whole refl
mapped (Word Pmux) e c b whole = by_gates (Word Pmux) c b whole refl
mapped (Word Slice) e c b whole = by_gates (Word Slice) c b whole refl
mapped (Word Concat) e c b whole = by_gates (Word Concat) c b whole refl
mapped (Word Buf) e c b whole = by_gates (Word Buf) c b whole refl
mapped (Word Bwmux) e c b whole = by_gates (Word Bwmux) c b whole refl
mapped (Word Bmux) e c b whole = by_gates (Word Bmux) c b whole refl
mapped (Word Demux) e c b whole = by_gates (Word Demux) c b whole refl
mapped (Storage kind) e c b whole = by_flops (Storage kind) c b whole refl
mapped kind e c b whole = absurd (cc)

-- no cell of a memory becomes gates
pub no_memory : (kind : CellKind) → is_taken kind ≡ true → is_memory_kind kind ≡ false
no_memory (Word kind) e = refl
no_memory (Gate kind) e = refl
no_memory (Storage kind) e = refl
no_memory (StorageGate gate) e = refl
no_memory (Memory kind) e = absurd (cc)

-- the bits that a whole cell drives are those of its pins
pub bits_are : (n : ℕ) (kind : CellKind) (c : Cell) → is_memory_kind kind ≡ false → IsWhole n kind c → pin_bits (Library kind) c.pins ≡ cell_bits c
bits_are n kind c plain whole = by kind plain whole.shape ∙ ap (λ k. kind_bits k c) (sym whole.own)
  where
    by : (kind : CellKind) → is_memory_kind kind ≡ false → misfit kind c ≡ None → pin_bits (Library kind) c.pins ≡ kind_bits (Some kind) c
    by (Word kind) p fit = output_bits (Word kind) c p fit Y refl
    by (Gate kind) p fit = output_bits (Gate kind) c p fit Y refl
    by (Storage kind) p fit = output_bits (Storage kind) c p fit Q refl
    by (StorageGate gate) p fit = output_bits (StorageGate gate) c p fit Q refl
    by (Memory kind) p fit = absurd (cc)

-- the kind of a cell that becomes gates is its own, and one of those that do
pub record IsTaken (k : Option CellKind) (kind : CellKind) : Type 0 where
  pub taken : is_taken kind ≡ true
  pub own : k ≡ Some kind

pub taken_is : (k : Option CellKind) (kind : CellKind) → if_taken k ≡ Some kind → IsTaken k kind
taken_is None kind e = absurd (cc)
taken_is (Some j) kind e = by (is_taken j) refl e
  where
    by : (t : Bool) → is_taken j ≡ t → (if t then Some j else None) ≡ Some kind → IsTaken (Some j) kind
    by true f g = let same : j ≡ kind = cc in record { taken = ap is_taken (sym same) ∙ f; own = g }
    by false f g = absurd (cc)
