-- The places of rows are those of the bits that the check counts, where cells are of the library.
use Rattle.std.proofs.Common.{◌≡◌, ℕ, suc, false, List, [], ◌∷◌, ◌++◌, length, Option, Some, None, inl, inr, refl, sym, ◌∙◌, ap, arith}
use Rattle.std.specs.Prelude.{map}
use Rattle.std.proofs.lemmas.List.{append-nil}
use Rattle.cell_types.specs.PinName.{pin_text}
use Rattle.cell_types.specs.declared.kind.CellKind.{CellKind}
use Rattle.cell_types.specs.declared.kind.CellKind.TheVariants.{Gate, Memory, Storage, StorageGate, Word}
use Rattle.cell_types.specs.declared.pin_name.PinName.TheVariants.{Q, Y}
use Rattle.cell_types.specs.declared.shape.Shape.{Shape}
use Rattle.rtl_bits.specs.declared.bit.Bit.{Bit}
use Rattle.rtl_sig.specs.declared.sig.SigBit.{SigBit}
use Rattle.rtl_sig.specs.declared.sig.SigBit.TheVariants.{Fixed, Wire as OnWire}
use Rattle.rtl_sig.specs.declared.sig.WireBit.{WireBit}
use Rattle.rtl_ir.specs.Faults.Cells.{is_memory_kind, misfit}
use Rattle.rtl_ir.specs.Flat.Cell.{Ports, cell_kind, cell_rows, cells_rows, instance_of, instances, kind_rows, listed, outputs, stores}
use Rattle.rtl_ir.specs.Flat.Driver.{Driven, StorePoints}
use Rattle.rtl_ir.specs.Flat.Link.{joins, link_rows}
use Rattle.rtl_ir.specs.Flat.Place.{Path, Place}
use Rattle.rtl_ir.specs.Flat.Point.{At, Constant, Point, bit_place, pin_points, points}
use Rattle.rtl_ir.specs.Flat.Tree.{places}
use Rattle.rtl_ir.specs.Parameters.{signal_at}
use Rattle.rtl_ir.specs.Signals.{wire_bits}
use Rattle.rtl_ir.specs.Types as types
use Rattle.rtl_ir.specs.Types.{Library, cell_type}
use Rattle.rtl_ir.specs.declared.cell.Cell.{Cell}
use Rattle.rtl_ir.specs.declared.module.Link.{Link}
use Rattle.rtl_ir.specs.declared.wire.Wire.{Wire}
use Rattle.net_model.proofs.Members.{map-append}
use Rattle.net_model.specs.Refine.{places_of}
use Rattle.net_model.specs.Within.{Each}
use Rattle.pass_laws.specs.Bits.{cells_bits, links_bits, pin_bits}
use Rattle.pass_laws.specs.Replaces.{IsEven, IsFaultless}
use Rattle.pass_laws.proofs.Alone.{fits_kind}
use Rattle.pass_laws.proofs.Counting.{even_length}
use Rattle.pass_laws.proofs.Faultless.{type_is}
use Rattle.pass_laws.proofs.Outputs.{output_bits}

pub places_more : (xs ys : List Driven) → places_of (xs ++ ys) ≡ places_of xs ++ places_of ys
places_more xs ys = map-append (λ (row : Driven). row.place) xs ys

-- the places of an output are those of its points
pub outputs_places : (shape : Shape) (inputs : List (List Point)) (ps : List Point) (at : ℕ) → places_of (outputs shape inputs ps at) ≡ places ps
outputs_places shape inputs [] at = refl
outputs_places shape inputs (At q ∷ ps) at = ap (λ z. q ∷ z) (outputs_places shape inputs ps (suc at))
outputs_places shape inputs (Constant b ∷ ps) at = outputs_places shape inputs ps (suc at)

module _ (p : Path) (wires : List Wire) where
  -- the places of bits of wires
  abbrev pub bits_places : List WireBit → List Place
  bits_places bits = map (bit_place p wires) bits

  pub points_places : (signal : List SigBit) → places (points p wires signal) ≡ bits_places (wire_bits signal)
  points_places [] = refl
  points_places (Fixed b ∷ signal) = points_places signal
  points_places (OnWire b ∷ signal) = ap (λ z. bit_place p wires b ∷ z) (points_places signal)

  stores_places : (start : SigBit → Bit) (shape : Shape) (reads : ℕ → StorePoints) (signal : List SigBit) (at : ℕ) → places_of (stores start shape reads signal (points p wires signal) at) ≡ bits_places (wire_bits signal)
  stores_places start shape reads [] at = refl
  stores_places start shape reads (Fixed b ∷ signal) at = stores_places start shape reads signal (suc at)
  stores_places start shape reads (OnWire b ∷ signal) at =
      ap (λ z. bit_place p wires b ∷ z) (stores_places start shape reads signal (suc at))

  -- a cell of the library drives the places of its output
  pub kind_places : (start : SigBit → Bit) (c : Cell) (kind : CellKind) → is_memory_kind kind ≡ false → misfit kind c ≡ None → places_of (kind_rows start p wires c kind) ≡ bits_places (pin_bits (Library kind) c.pins)
  kind_places start c (Word kind) plain fit =
      outputs_places _ _ (pin_points p wires c.pins Y) 0 ∙ points_places (signal_at c.pins (pin_text Y)) ∙ ap bits_places (sym (output_bits (Word kind) c plain fit Y refl))
  kind_places start c (Gate kind) plain fit =
      outputs_places _ _ (pin_points p wires c.pins Y) 0 ∙ points_places (signal_at c.pins (pin_text Y)) ∙ ap bits_places (sym (output_bits (Gate kind) c plain fit Y refl))
  kind_places start c (Storage kind) plain fit =
      stores_places start _ _ (signal_at c.pins (pin_text Q)) 0 ∙ ap bits_places (sym (output_bits (Storage kind) c plain fit Q refl))
  kind_places start c (StorageGate gate) plain fit =
      stores_places start _ _ (signal_at c.pins (pin_text Q)) 0 ∙ ap bits_places (sym (output_bits (StorageGate gate) c plain fit Q refl))
  kind_places start c (Memory kind) plain fit = absurd (cc)

  -- connections without faults drive the places of their left sides
  joins_places : (left right : List SigBit) → length left ≡ length right → places_of (joins (points p wires left) (points p wires right)) ≡ bits_places (wire_bits left)
  joins_places [] right e = refl
  joins_places (l ∷ ls) [] e = absurd (omega (arith, e))
  joins_places (Fixed b ∷ ls) (r ∷ rs) e = joins_places ls rs (omega (arith, e))
  joins_places (OnWire b ∷ ls) (r ∷ rs) e = ap (λ z. bit_place p wires b ∷ z) (joins_places ls rs (omega (arith, e)))

  pub links_places : (links : List Link) → Each IsEven links → places_of (link_rows p wires links) ≡ bits_places (links_bits links)
  links_places [] h = refl
  links_places (l ∷ ls) h =
      places_more (joins (points p wires l.left) (points p wires l.right)) (link_rows p wires ls)
      ∙ (λ i. joins_places l.left l.right (even_length l (h l (inl refl))) i ++ links_places ls (λ x j. h x (inr j)) i)
      ∙ sym (map-append (bit_place p wires) (wire_bits l.left) (links_bits ls))

  module _ (lines : types.Ports) (ports : Ports) (start : SigBit → Bit) where
    -- the same of a cell without faults that is no instance
    pub cell_places : (c : Cell) → IsFaultless lines c → (kind : CellKind) → cell_kind c ≡ Some kind → places_of (cell_rows start ports p wires c (cell_kind c)) ≡ bits_places (cells_bits lines (c ∷ []))
    cell_places c fine kind own =
        let fits = fits_kind lines c kind own fine in
        ap (λ k. places_of (cell_rows start ports p wires c k)) own
        ∙ kind_places start c kind fits.plain fits.fit
        ∙ ap (λ t. bits_places (pin_bits t c.pins)) (sym (type_is lines c kind own))
        ∙ ap bits_places (sym (append-nil (pin_bits (cell_type lines c.kind_name) c.pins)))

    -- and of cells among which there is no instance
    pub cells_places : (cs : List Cell) → Each (IsFaultless lines) cs → instances cs ≡ [] → places_of (cells_rows start ports p wires cs) ≡ bits_places (cells_bits lines cs)
    cells_places [] h e = refl
    cells_places (c ∷ cs) h e =
        by (cells_places cs (λ x j. h x (inr j))) (cell_kind c) refl e
      where
        by : (instances cs ≡ [] → places_of (cells_rows start ports p wires cs) ≡ bits_places (cells_bits lines cs)) → (k : Option CellKind) → cell_kind c ≡ k → listed (instance_of c k) ++ instances cs ≡ [] → places_of (cells_rows start ports p wires (c ∷ cs)) ≡ bits_places (cells_bits lines (c ∷ cs))
        by later None own f = absurd (cc)
        by later (Some kind) own f =
            places_more (cell_rows start ports p wires c (cell_kind c)) (cells_rows start ports p wires cs)
            ∙ (λ i. cell_places c (h c (inl refl)) kind own i ++ later f i)
            ∙ ap (λ z. bits_places z ++ bits_places (cells_bits lines cs)) (append-nil (pin_bits (cell_type lines c.kind_name) c.pins))
            ∙ sym (map-append (bit_place p wires) (pin_bits (cell_type lines c.kind_name) c.pins) (cells_bits lines cs))

    -- what cells and connections drive in the flat netlist in the place of a cell of the library, by the bits that they drive
    pub places_by_bits : (c : Cell) (kind : CellKind) → cell_kind c ≡ Some kind → IsFaultless lines c → (here : List Cell) (more : List Link) → instances here ≡ instances (c ∷ []) → Each (IsFaultless lines) here → Each IsEven more → cells_bits lines here ++ links_bits more ≡ cells_bits lines (c ∷ []) → places_of (cells_rows start ports p wires here) ++ places_of (link_rows p wires more) ≡ places_of (cell_rows start ports p wires c (cell_kind c))
    places_by_bits c kind own fine here more children cells links bits =
        (λ i. cells_places here cells (children ∙ ap (λ k. listed (instance_of c k) ++ []) own) i ++ links_places more links i)
        ∙ sym (map-append (bit_place p wires) (cells_bits lines here) (links_bits more))
        ∙ ap bits_places bits
        ∙ sym (cell_places c fine kind own)
