-- Before the first cell no bit is driven twice that cells drive.
use Rattle.std.proofs.Common.{◌≡◌, ℕ, zero, suc, ◌≤◌, Bool, true, false, cond, List, [], ◌∷◌, ◌++◌, append_assoc, map, Option, Some, None, inl, inr, refl, sym, ◌∙◌, ap, subst, arith}
use Rattle.std.specs.Prelude.{flat_map}
use Rattle.std.specs.Option.{option_map_or}
use Rattle.std.proofs.lemmas.List.{map-append}
use Rattle.rtl_bits.specs.declared.bit.Bit.{Bit}
use Rattle.rtl_sig.specs.declared.sig.SigBit.{SigBit}
use Rattle.rtl_sig.specs.declared.sig.WireBit.{WireBit}
use Rattle.cell_types.specs.declared.kind.CellKind.{CellKind}
use Rattle.cell_types.specs.declared.kind.CellKind.TheVariants.{Word, Gate, Storage, StorageGate, Memory}
use Rattle.cell_types.specs.declared.pin_name.PinName.{PinName}
use Rattle.cell_types.specs.declared.pin_name.PinName.TheVariants.{Y, Q}
use Rattle.cell_types.specs.PinName.{pin_text}
use Rattle.rtl_ir.specs.declared.cell.Cell.{Cell}
use Rattle.rtl_ir.specs.declared.module.Link.{Link}
use Rattle.rtl_ir.specs.declared.module.Module.{Module}
use Rattle.rtl_ir.specs.declared.wire.Wire.{Wire}
use Rattle.rtl_ir.specs.Faults.Cells.{is_memory_kind}
use Rattle.rtl_ir.specs.Flat.Cell as flat
use Rattle.rtl_ir.specs.Flat.Cell.{cell_kind, cell_rows, cells_rows}
use Rattle.rtl_ir.specs.Flat.Driver.{Driven}
use Rattle.rtl_ir.specs.Flat.Link.{link_rows}
use Rattle.rtl_ir.specs.Flat.Memory.{memories_rows}
use Rattle.rtl_ir.specs.Flat.Place.{Path, Place}
use Rattle.rtl_ir.specs.Flat.Point.{bit_place}
use Rattle.rtl_ir.specs.Flat.Process.{processes_rows}
use Rattle.rtl_ir.specs.Flat.Start.{start_of}
use Rattle.rtl_ir.specs.Follow.{all_joins, joins}
use Rattle.rtl_ir.specs.declared.follow.Join.{Join}
use Rattle.rtl_ir.specs.Outputs.{output_pin}
use Rattle.rtl_ir.specs.Parameters.{signal_at}
use Rattle.rtl_ir.specs.Signals.{same_bit, wire_bits}
use Rattle.rtl_ir.specs.Types.{Library, Ports}
use Rattle.net_index.proofs.IndexTables.{same_bit-true}
use Rattle.net_model.proofs.Members.{In-left, In-right, apart_at}
use Rattle.net_model.specs.Lists.{Distinct, In}
use Rattle.net_model.specs.Refine.{IsWellDriven, places_of}
use Rattle.net_model.specs.Within.{Each}
use Rattle.pass_laws.specs.Bits.{links_bits, pin_bits}
use Rattle.pass_laws.specs.Ready.{IsReady}
use Rattle.pass_laws.specs.Replaces.{IsEven}
use Rattle.pass_laws.proofs.Alone.{IsSound, shape_of}
use Rattle.pass_laws.proofs.Forming.{own_cells, own_links}
use Rattle.pass_laws.proofs.Moving.{split}
use Rattle.pass_laws.proofs.Outputs.{output_bits}
use Rattle.pass_laws.proofs.Placing.{kind_places, links_places, places_more}
use Rattle.opt_merge.specs.Merge.{bits_by}
use Rattle.opt_merge.specs.State.{IsDrivenOnce, linked_by, times}
use Rattle.opt_merge.specs.Traits.{merging_kind, output_of}
use Rattle.opt_merge.proofs.Driving.{joins_times, times_append}
use Rattle.opt_merge.proofs.Refining.{merging_plain, own_kind}

-- a bit is as often among these as its place is among places: where nothing stands twice there, once at most
record IsSpread (b : WireBit) (q : Place) (bits : List WireBit) (ps : List Place) : Type 0 where
  there : 1 ≤ times b bits → In q ps
  once : Distinct ps → times b bits ≤ 1

spread_none : (b : WireBit) (q : Place) (ps : List Place) → IsSpread b q [] ps
spread_none b q ps = record { there = λ some. absurd (omega (arith, some)); once = λ d. omega arith }

spread_both : (b : WireBit) (q : Place) (xs ys : List WireBit) (ps qs : List Place) → IsSpread b q xs ps → IsSpread b q ys qs → IsSpread b q (xs ++ ys) (ps ++ qs)
spread_both b q xs ys ps qs h k = record {
  there = λ some. found (times b xs) refl some;
  once = λ d. let parts = split ps qs d in few (times b xs) (times b ys) refl refl (h.once parts.0) (k.once parts.1) parts.2;
}
  where
    found : (n : ℕ) → times b xs ≡ n → 1 ≤ times b (xs ++ ys) → In q (ps ++ qs)
    found zero e some = In-right q ps qs (k.there (omega (arith, some, times_append b xs ys, e)))
    found (suc n) e some = In-left q ps qs (h.there (omega (arith, e)))

    few : (i j : ℕ) → times b xs ≡ i → times b ys ≡ j → times b xs ≤ 1 → times b ys ≤ 1 → ((r : Place) → In r ps → In r qs → ⊥) → times b (xs ++ ys) ≤ 1
    few zero j e f l r apart = omega (arith, times_append b xs ys, e, r)
    few (suc i) zero e f l r apart = omega (arith, times_append b xs ys, f, l)
    few (suc i) (suc j) e f l r apart = absurd (apart q (h.there (omega (arith, e))) (k.there (omega (arith, f))))

spread_more : (b : WireBit) (place : WireBit → Place) (x : WireBit) (bits : List WireBit) → IsSpread b (place b) bits (map place bits) → IsSpread b (place b) (x ∷ bits) (place x ∷ map place bits)
spread_more b place x bits later = record { there = both.0; once = both.1 }
  where
    one : same_bit x b ≡ true → (n : ℕ) → times b bits ≡ n → Distinct (place x ∷ map place bits) → suc (times b bits) ≤ 1
    one e zero f d = omega (arith, f)
    one e (suc n) f d = absurd (apart_at (place x) (map place bits) d.0 (place b) (later.there (omega (arith, f))) (ap place (same_bit-true x b e)))

    by : (t : Bool) → same_bit x b ≡ t
        → (1 ≤ cond t (suc (times b bits)) (times b bits) → In (place b) (place x ∷ map place bits))
        × (Distinct (place x ∷ map place bits) → cond t (suc (times b bits)) (times b bits) ≤ 1)
    by true e = (λ some. inl (ap place (sym (same_bit-true x b e))), λ d. one e (times b bits) refl d)
    by false e = (λ some. inr (later.there some), λ d. later.once d.1)

    both : (1 ≤ times b (x ∷ bits) → In (place b) (place x ∷ map place bits)) × (Distinct (place x ∷ map place bits) → times b (x ∷ bits) ≤ 1)
    both = by (same_bit x b) refl

spread_map : (b : WireBit) (place : WireBit → Place) (bits : List WireBit) → IsSpread b (place b) bits (map place bits)
spread_map b place [] = spread_none b (place b) []
spread_map b place (x ∷ bits) = spread_more b place x bits (spread_map b place bits)

-- the bits of a cell that may be merged are those that the check counts
bits_named : (ports : Ports) (c : Cell) (kind : CellKind) (name : PinName) → is_memory_kind kind ≡ false → output_pin kind ≡ Some name → cell_kind c ≡ Some kind → IsSound ports c → wire_bits (output_of kind c) ≡ pin_bits (Library kind) c.pins
bits_named ports c kind name plain drives own fine =
    let fits = shape_of ports c kind own fine in
    ap (λ o. wire_bits (option_map_or (λ n. signal_at c.pins (pin_text n)) o [])) drives
    ∙ sym (output_bits kind c plain fits.fit name drives)

bits_are : (ports : Ports) (c : Cell) (kind : CellKind) → merging_kind c ≡ Some kind → IsSound ports c → wire_bits (output_of kind c) ≡ pin_bits (Library kind) c.pins
bits_are ports c (Word k) own fine = bits_named ports c (Word k) Y refl refl (own_kind c (Word k) own) fine
bits_are ports c (Gate k) own fine = bits_named ports c (Gate k) Y refl refl (own_kind c (Gate k) own) fine
bits_are ports c (Storage k) own fine = bits_named ports c (Storage k) Q refl refl (own_kind c (Storage k) own) fine
bits_are ports c (StorageGate k) own fine = bits_named ports c (StorageGate k) Q refl refl (own_kind c (StorageGate k) own) fine
bits_are ports c (Memory k) own fine = absurd (let e : true ≡ false = merging_plain c (Memory k) own in cc)

-- the bits of cells among the places of their rows
module _ (ports : Ports) (over : flat.Ports) (start : SigBit → Bit) (p : Path) (wires : List Wire) (b : WireBit) where
  abbrev of_cells : List Cell → List Place
  of_cells cells = places_of (cells_rows start over p wires cells)

  cell_spread : (c : Cell) → IsSound ports c → IsSpread b (bit_place p wires b) (bits_by c) (places_of (cell_rows start over p wires c (cell_kind c)))
  cell_spread c fine = by (merging_kind c) refl
    where
      by : (o : Option CellKind) → merging_kind c ≡ o → IsSpread b (bit_place p wires b) (option_map_or (λ kind. wire_bits (output_of kind c)) o []) (places_of (cell_rows start over p wires c (cell_kind c)))
      by None e = spread_none b (bit_place p wires b) (places_of (cell_rows start over p wires c (cell_kind c)))
      by (Some kind) e =
          let own : cell_kind c ≡ Some kind = own_kind c kind e in
          let fits = shape_of ports c kind own fine in
          let bits : List WireBit = pin_bits (Library kind) c.pins in
          let places : places_of (cell_rows start over p wires c (cell_kind c)) ≡ map (bit_place p wires) bits =
          ap (λ k. places_of (cell_rows start over p wires c k)) own
          ∙ kind_places p wires start c kind (merging_plain c kind e) fits.fit in
          subst (λ z. IsSpread b (bit_place p wires b) z (places_of (cell_rows start over p wires c (cell_kind c)))) (sym (bits_are ports c kind e fine))
          (subst (λ z. IsSpread b (bit_place p wires b) bits z) (sym places) (spread_map b (bit_place p wires) bits))

  cells_spread : (cells : List Cell) → Each (IsSound ports) cells → IsSpread b (bit_place p wires b) (flat_map bits_by cells) (of_cells cells)
  cells_spread [] fine = spread_none b (bit_place p wires b) []
  cells_spread (c ∷ cells) fine =
      let first : List Driven = cell_rows start over p wires c (cell_kind c) in
      let rest : List Driven = cells_rows start over p wires cells in
      subst (λ z. IsSpread b (bit_place p wires b) (bits_by c ++ flat_map bits_by cells) z) (sym (places_more first rest))
      (spread_both b (bit_place p wires b) (bits_by c) (flat_map bits_by cells) (places_of first) (places_of rest) (cell_spread c (fine c (inl refl))) (cells_spread cells (λ x i. fine x (inr i))))

  -- of connections
  links_spread : (links : List Link) → Each IsEven links → IsSpread b (bit_place p wires b) (links_bits links) (places_of (link_rows p wires links))
  links_spread links even =
      subst (λ z. IsSpread b (bit_place p wires b) (links_bits links) z) (sym (links_places p wires links even)) (spread_map b (bit_place p wires) (links_bits links))

links_fewer : (b : WireBit) (links : List Link) → linked_by b links ≤ times b (links_bits links)
links_fewer b [] = omega arith
links_fewer b (l ∷ links) =
    let here = joins_times b l.left l.right in
    let rest = links_fewer b links in
    let split = ap (times b) (map-append (λ (j : Join). j.bit) (joins l.left l.right) (all_joins links)) in
    let sum = times_append b (map (λ (j : Join). j.bit) (joins l.left l.right)) (map (λ (j : Join). j.bit) (all_joins links)) in
    let all = times_append b (wire_bits l.left) (links_bits links) in
    omega (arith, here, rest, split, sum, all)

-- no place of a row stands twice, so no bit that is driven does
pub once_start : (ports : Ports) (over : flat.Ports) (m : Module) → IsReady ports m → IsWellDriven over m → IsDrivenOnce (record { cells = []; links = m.links }) m.cells
once_start ports over m ready driven b some =
    let start : SigBit → Bit = start_of m.wires m.processes in
    let q : Place = bit_place [] m.wires b in
    let cells : List Driven = cells_rows start over [] m.wires m.cells in
    let links : List Driven = link_rows [] m.wires m.links in
    let rest : List Driven = processes_rows start [] m.wires m m.processes ++ memories_rows [] m.wires m.cells m.processes m.memories in
    let parts : places_of (cells ++ (links ++ rest)) ≡ (places_of cells ++ places_of links) ++ places_of rest =
    places_more cells (links ++ rest) ∙ ap (λ z. places_of cells ++ z) (places_more links rest) ∙ sym (append_assoc (places_of cells) (places_of links) (places_of rest)) in
    let apart : Distinct (places_of cells ++ places_of links) = (split (places_of cells ++ places_of links) (places_of rest) (subst Distinct parts (driven.rows []))).0 in
    let all = spread_both b q (flat_map bits_by m.cells) (links_bits m.links) (places_of cells) (places_of links) (cells_spread ports over start [] m.wires b m.cells (own_cells ports m ready)) (links_spread ports over start [] m.wires b m.links (own_links ports m ready)) in
    omega (arith, all.once apart, times_append b (flat_map bits_by m.cells) (links_bits m.links), links_fewer b m.links)
