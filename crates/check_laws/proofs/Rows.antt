-- The places of rows of connections and of cells of the library, by the bits that these drive.
use Rattle.std.proofs.Common.{◌≡◌, ℕ, suc, ◌+◌, Bool, true, false, cond, List, [], ◌∷◌, ◌++◌, Some, refl, sym, ◌∙◌, ap, subst}
use Rattle.std.specs.Prelude.{map, flat_map, find, if◌then◌else◌}
use Rattle.std.specs.Option.{option_map_or}
use Rattle.std.specs.Str.{bytes_eq}
use Rattle.std.proofs.lemmas.Slice.Eq.{bytes_eq-Decides}
use Rattle.rtl_bits.specs.declared.bit.Bit.{Bit}
use Rattle.rtl_sig.specs.declared.sig.SigBit.{SigBit}
use Rattle.rtl_sig.specs.declared.sig.SigBit.TheVariants.{Fixed, Wire as OnWire}
use Rattle.rtl_sig.specs.declared.sig.WireBit.{WireBit}
use Rattle.cell_types.specs.declared.kind.CellKind.{CellKind}
use Rattle.cell_types.specs.declared.kind.CellKind.TheVariants.{Word, Gate, Storage, StorageGate, Memory}
use Rattle.cell_types.specs.declared.pin_name.PinName.{PinName}
use Rattle.cell_types.specs.declared.pin_name.PinName.TheVariants.{Y, Q}
use Rattle.cell_types.specs.declared.shape.Shape.{Shape}
use Rattle.cell_types.specs.PinName.{pin_text}
use Rattle.rtl_ir.specs.declared.cell.Cell.{Cell}
use Rattle.rtl_ir.specs.declared.cell.Pin.{Pin}
use Rattle.rtl_ir.specs.declared.module.Link.{Link}
use Rattle.rtl_ir.specs.declared.wire.Wire.{Wire}
use Rattle.rtl_ir.specs.Drivers.{Drive, Source, places_by, pin_drives, cell_drives, link_drives}
use Rattle.rtl_ir.specs.Flat.Cell.{outputs, stores, kind_rows}
use Rattle.rtl_ir.specs.Flat.Driver.{StorePoints, Driven}
use Rattle.rtl_ir.specs.Flat.Link.{joins, link_rows}
use Rattle.rtl_ir.specs.Flat.Place.{Path, Place}
use Rattle.rtl_ir.specs.Flat.Point.{Point, Constant, At, bit_place, points, pin_points}
use Rattle.rtl_ir.specs.Flat.Tree.{places}
use Rattle.rtl_ir.specs.Follow.{joins as bit_joins, all_joins}
use Rattle.rtl_ir.specs.declared.follow.Join.{Join}
use Rattle.rtl_ir.specs.Outputs.{drives_pin}
use Rattle.rtl_ir.specs.Parameters.{signal_at}
use Rattle.rtl_ir.specs.Signals.{wire_bits}
use Rattle.rtl_ir.specs.Assigns.{left_bits}
use Rattle.rtl_ir.specs.Types.{Ports, CellType, Library, cell_type}
use Rattle.net_model.specs.Refine.{places_of}
use Rattle.net_model.proofs.Members.{map-append, map-map}
use Rattle.check_laws.proofs.Parts.{IsPart, part_same, part_none, part_more, part_trans, part_left, part_right, part_both, part_pair, part_map}
use Rattle.check_laws.proofs.Bits.{signal_places}
use Rattle.check_laws.proofs.Counting.{driven}

-- the bits that pins of a cell of this type drive, and those that cells drive
abbrev pub pins_bits : CellType → List Pin → List WireBit
pins_bits type [] = []
pins_bits type (p ∷ ps) = (if drives_pin type p.name then wire_bits p.sig else []) ++ pins_bits type ps

abbrev pub cells_bits : Ports → List Cell → List WireBit
cells_bits ports cs = flat_map (λ (c : Cell). pins_bits (cell_type ports c.kind_name) c.pins) cs

-- the left bits of connections, as far as both sides go
abbrev pub links_bits : List Link → List WireBit
links_bits links = map (λ (j : Join). j.bit) (all_joins links)

pub driven-append : (ds es : List Drive) → driven (ds ++ es) ≡ driven ds ++ driven es
driven-append ds es = map-append (λ (d : Drive). d.bit) ds es

places_driven : (f : ℕ → Source) (at : ℕ) (ss : List SigBit) → driven (places_by f at ss) ≡ wire_bits ss
places_driven f at [] = refl
places_driven f at (Fixed c ∷ ss) = places_driven f (at + 1) ss
places_driven f at (OnWire b ∷ ss) = ap (λ z. b ∷ z) (places_driven f (at + 1) ss)

pins_driven : (type : CellType) (cell pin : ℕ) (ps : List Pin) → driven (pin_drives type cell pin ps) ≡ pins_bits type ps
pins_driven type cell pin [] = refl
pins_driven type cell pin (p ∷ ps) =
    driven-append (if drives_pin type p.name then places_by (λ at. Source.FromCell cell pin at) 0 p.sig else []) (pin_drives type cell (pin + 1) ps)
    ∙ (ap (λ z. z ++ driven (pin_drives type cell (pin + 1) ps)) (by (drives_pin type p.name))
    ∙ ap (λ z. (if drives_pin type p.name then wire_bits p.sig else []) ++ z) (pins_driven type cell (pin + 1) ps))
  where
    by : (t : Bool) → driven (if t then places_by (λ at. Source.FromCell cell pin at) 0 p.sig else []) ≡ (if t then wire_bits p.sig else [])
    by true = places_driven (λ at. Source.FromCell cell pin at) 0 p.sig
    by false = refl

pub cells_driven : (ports : Ports) (cell : ℕ) (cs : List Cell) → driven (cell_drives ports cell cs) ≡ cells_bits ports cs
cells_driven ports cell [] = refl
cells_driven ports cell (c ∷ cs) =
    driven-append (pin_drives (cell_type ports c.kind_name) cell 0 c.pins) (cell_drives ports (cell + 1) cs)
    ∙ (ap (λ z. z ++ driven (cell_drives ports (cell + 1) cs)) (pins_driven (cell_type ports c.kind_name) cell 0 c.pins)
    ∙ ap (λ z. pins_bits (cell_type ports c.kind_name) c.pins ++ z) (cells_driven ports (cell + 1) cs))

pub links_driven : (links : List Link) → driven (link_drives links) ≡ links_bits links
links_driven links = map-map _ (λ (d : Drive). d.bit) (all_joins links)

-- the signal at a pin that is driven
pub signal_part : (type : CellType) (name : List ℕ) → drives_pin type name ≡ true → (ps : List Pin) → IsPart (wire_bits (signal_at ps name)) (pins_bits type ps)
signal_part type name h [] = part_none []
signal_part type name h (p ∷ ps) = by (bytes_eq p.name name) refl (signal_part type name h ps)
  where
    here : List WireBit
    here = if drives_pin type p.name then wire_bits p.sig else []

    by : (t : Bool) → bytes_eq p.name name ≡ t → IsPart (wire_bits (signal_at ps name)) (pins_bits type ps) → IsPart (wire_bits (option_map_or (λ (q : Pin). q.sig) (cond t (Some p) (find (λ (q : Pin). bytes_eq q.name name) ps)) [])) (here ++ pins_bits type ps)
    by true e k =
        let same : drives_pin type p.name ≡ true = ap (drives_pin type) ((bytes_eq-Decides p.name name).0 e) ∙ h in
        subst (λ t. IsPart (wire_bits p.sig) ((if t then wire_bits p.sig else []) ++ pins_bits type ps)) (sym same) (part_left (wire_bits p.sig) (pins_bits type ps))
    by false e k = part_trans (wire_bits (signal_at ps name)) (pins_bits type ps) (here ++ pins_bits type ps) k (part_right here (pins_bits type ps))

-- rows stand at the places of their points
pub joins_part : (ls rs : List Point) → IsPart (places_of (joins ls rs)) (places ls)
joins_part [] rs = part_none []
joins_part (l ∷ ls) [] = part_none (places (l ∷ ls))
joins_part (At q ∷ ls) (r ∷ rs) = part_more q (places_of (joins ls rs)) (places ls) (joins_part ls rs)
joins_part (Constant b ∷ ls) (r ∷ rs) = joins_part ls rs

outputs_part : (shape : Shape) (inputs : List (List Point)) (ys : List Point) (at : ℕ) → IsPart (places_of (outputs shape inputs ys at)) (places ys)
outputs_part shape inputs [] at = part_none []
outputs_part shape inputs (At q ∷ ys) at = part_more q (places_of (outputs shape inputs ys (suc at))) (places ys) (outputs_part shape inputs ys (suc at))
outputs_part shape inputs (Constant b ∷ ys) at = outputs_part shape inputs ys (suc at)

stores_part : (start : SigBit → Bit) (shape : Shape) (pins : ℕ → StorePoints) (ss : List SigBit) (qs : List Point) (at : ℕ) → IsPart (places_of (stores start shape pins ss qs at)) (places qs)
stores_part start shape pins [] qs at = part_none (places qs)
stores_part start shape pins (s ∷ ss) [] at = part_none []
stores_part start shape pins (s ∷ ss) (At q ∷ qs) at = part_more q (places_of (stores start shape pins ss qs (suc at))) (places qs) (stores_part start shape pins ss qs (suc at))
stores_part start shape pins (s ∷ ss) (Constant b ∷ qs) at = stores_part start shape pins ss qs (suc at)

-- connections drive bits of their left sides
joins_left : (ls rs : List SigBit) → IsPart (map (λ (j : Join). j.bit) (bit_joins ls rs)) (wire_bits ls)
joins_left [] rs = part_none []
joins_left (l ∷ ls) [] = part_none (wire_bits (l ∷ ls))
joins_left (Fixed c ∷ ls) (r ∷ rs) = joins_left ls rs
joins_left (OnWire b ∷ ls) (r ∷ rs) = part_more b (map (λ (j : Join). j.bit) (bit_joins ls rs)) (wire_bits ls) (joins_left ls rs)

pub links_left : (links : List Link) → IsPart (links_bits links) (left_bits links)
links_left [] = part_none []
links_left (l ∷ ls) =
    subst (λ z. IsPart z (wire_bits l.left ++ left_bits ls)) (sym (map-append (λ (j : Join). j.bit) (bit_joins l.left l.right) (all_joins ls)))
    (part_both (map (λ (j : Join). j.bit) (bit_joins l.left l.right)) (links_bits ls) (wire_bits l.left) (left_bits ls) (joins_left l.left l.right) (links_left ls))

-- a module at this path with these wires
module _ (p : Path) (wires : List Wire) where
  abbrev pub at_places : List WireBit → List Place
  at_places bits = map (bit_place p wires) bits

  -- rows behind rows: own bits of both, and other places of both
  pub rows_pair : (xs ys : List Driven) (as' bs : List WireBit) (ps qs : List Place) → IsPart (places_of xs) (at_places as' ++ ps) → IsPart (places_of ys) (at_places bs ++ qs) → IsPart (places_of (xs ++ ys)) (at_places (as' ++ bs) ++ (ps ++ qs))
  rows_pair xs ys as' bs ps qs h k =
      subst (λ z. IsPart z (at_places (as' ++ bs) ++ (ps ++ qs))) (sym (map-append (λ (x : Driven). x.place) xs ys))
      (subst (λ z. IsPart (places_of xs ++ places_of ys) (z ++ (ps ++ qs))) (sym (map-append (bit_place p wires) as' bs))
      (part_pair (places_of xs) (places_of ys) (at_places as') ps (at_places bs) qs h k))

  -- rows of own bits alone
  pub rows_own : (xs : List Driven) (bits : List WireBit) → IsPart (places_of xs) (at_places bits) → IsPart (places_of xs) (at_places bits ++ [])
  rows_own xs bits h = part_trans (places_of xs) (at_places bits) (at_places bits ++ []) h (part_left (at_places bits) [])

  -- rows of fewer own bits
  pub rows_within : (xs : List Driven) (as' bs : List WireBit) (ps : List Place) → IsPart (places_of xs) (at_places as' ++ ps) → IsPart as' bs → IsPart (places_of xs) (at_places bs ++ ps)
  rows_within xs as' bs ps h k =
      part_trans (places_of xs) (at_places as' ++ ps) (at_places bs ++ ps) h
      (part_both (at_places as') ps (at_places bs) ps (part_map (bit_place p wires) as' bs k) (part_same ps))

  -- what stands at the places of a driven pin
  pub pin_part : (type : CellType) (name : PinName) (pins : List Pin) (qs : List Place) → drives_pin type (pin_text name) ≡ true → IsPart qs (places (pin_points p wires pins name)) → IsPart qs (at_places (pins_bits type pins))
  pin_part type name pins qs h k =
      part_trans qs (at_places (wire_bits (signal_at pins (pin_text name)))) (at_places (pins_bits type pins))
      (subst (IsPart qs) (signal_places p wires (signal_at pins (pin_text name))) k)
      (part_map (bit_place p wires) (wire_bits (signal_at pins (pin_text name))) (pins_bits type pins) (signal_part type (pin_text name) h pins))

  same_text : (name : PinName) → bytes_eq (pin_text name) (pin_text name) ≡ true
  same_text name = (bytes_eq-Decides (pin_text name) (pin_text name)).1 refl

  pub kind_part : (start : SigBit → Bit) (c : Cell) (kind : CellKind) → IsPart (places_of (kind_rows start p wires c kind)) (at_places (pins_bits (Library kind) c.pins))
  kind_part start c (Word kind) = pin_part (Library (Word kind)) Y c.pins _ (same_text Y) (outputs_part _ _ (pin_points p wires c.pins Y) 0)
  kind_part start c (Gate kind) = pin_part (Library (Gate kind)) Y c.pins _ (same_text Y) (outputs_part _ _ (pin_points p wires c.pins Y) 0)
  kind_part start c (Storage kind) = pin_part (Library (Storage kind)) Q c.pins _ (same_text Q) (stores_part _ _ _ _ (pin_points p wires c.pins Q) 0)
  kind_part start c (StorageGate gate) = pin_part (Library (StorageGate gate)) Q c.pins _ (same_text Q) (stores_part _ _ _ _ (pin_points p wires c.pins Q) 0)
  kind_part start c (Memory kind) = part_none (at_places (pins_bits (Library (Memory kind)) c.pins))

  -- connections
  link_part : (ls rs : List SigBit) → IsPart (places_of (joins (points p wires ls) (points p wires rs))) (at_places (map (λ (j : Join). j.bit) (bit_joins ls rs)))
  link_part [] rs = part_none []
  link_part (l ∷ ls) [] = part_none []
  link_part (Fixed c ∷ ls) (r ∷ rs) = link_part ls rs
  link_part (OnWire b ∷ ls) (r ∷ rs) = part_more (bit_place p wires b) _ _ (link_part ls rs)

  pub links_part : (links : List Link) → IsPart (places_of (link_rows p wires links)) (at_places (links_bits links) ++ [])
  links_part [] = part_none []
  links_part (l ∷ ls) =
      let here = joins (points p wires l.left) (points p wires l.right) in
      let bits = map (λ (j : Join). j.bit) (bit_joins l.left l.right) in
      subst (λ z. IsPart (places_of (here ++ link_rows p wires ls)) (at_places z ++ [])) (sym (map-append (λ (j : Join). j.bit) (bit_joins l.left l.right) (all_joins ls)))
      (rows_pair here (link_rows p wires ls) bits (links_bits ls) [] [] (rows_own here bits (link_part l.left l.right)) (links_part ls))
