-- A cell without faults has none with its inputs followed.
use Rattle.std.proofs.Common.{◌≡◌, ℕ, Bool, true, false, List, [], ◌∷◌, ◌++◌, ◌⊎◌, inl, inr, refl, ◌∙◌, ap, subst}
use Rattle.std.specs.Prelude.{◌&&◌, ◌||◌, ◌==◌, if◌then◌else◌, map, not}
use Rattle.std.specs.List.{list_any}
use Rattle.std.specs.Option.{option_map_or}
use Rattle.cell_types.specs.Fault.{fault_of}
use Rattle.cell_types.specs.declared.kind.CellKind.{CellKind}
use Rattle.cell_types.specs.declared.kind.CellKind.TheVariants as Cells
use Rattle.cell_types.specs.declared.param_name.ParamName.TheVariants.{Portid}
use Rattle.rtl_sig.specs.declared.sig.SigBit.{SigBit}
use Rattle.rtl_ir.specs.declared.cell.Cell.{Cell}
use Rattle.rtl_ir.specs.declared.cell.Pin.{Pin}
use Rattle.rtl_ir.specs.declared.module.Link.{Link}
use Rattle.rtl_ir.specs.declared.module.Module.{Module}
use Rattle.rtl_ir.specs.declared.ports.PortLine.{PortLine}
use Rattle.rtl_ir.specs.Faults.Cells.{has_constant_output, has_other_width, lacks_port, misfit, pin_widths}
use Rattle.rtl_ir.specs.Faults.MemoryCells.{number_at}
use Rattle.rtl_ir.specs.Follow.{follow}
use Rattle.rtl_ir.specs.Outputs.{drives_pin}
use Rattle.rtl_ir.specs.Parameters.{given_params, signal_at}
use Rattle.rtl_ir.specs.Rules.{has_item}
use Rattle.rtl_ir.specs.Signals.{has_constant, wire_bits}
use Rattle.rtl_ir.specs.Types.{CellType, Instance, Library, Ports, Unknown, Unsupported, cell_type, port_named}
use Rattle.pass_laws.specs.Bits.{pin_bits}
use Rattle.pass_laws.proofs.Accesses.{AreAccesses, IsAccess, SameNumbers, access_moved, numbers_of, same_more, writes_to}
use Rattle.pass_laws.proofs.Alone.{IsSound, IsSoundBy}
use Rattle.follow_laws.specs.Inputs.{MayFollow, followed_at, followed_cell, followed_pin}
use Rattle.follow_laws.proofs.Signals.{length_followed, signal_followed}
use Rattle.follow_laws.proofs.Starts.{bad_stays, constants_at}

module _ (type : CellType) (links : List Link) where
  abbrev pins_of : List Pin → List Pin
  pins_of pins = map (followed_pin type links) pins

  widths_stay : (pins : List Pin) → pin_widths (pins_of pins) ≡ pin_widths pins
  widths_stay [] = refl
  widths_stay (q ∷ qs) =
      let wide = length_followed type links q.name q.sig in
      let later = widths_stay qs in
      λ i. record { name = q.name; width = wide i } ∷ later i

  constants_stay : (pins : List Pin) → has_constant_output type (pins_of pins) ≡ has_constant_output type pins
  constants_stay [] = refl
  constants_stay (q ∷ qs) =
      ap (λ z. z || has_constant_output type (pins_of qs)) (by (drives_pin type q.name))
      ∙ ap (λ z. (drives_pin type q.name && has_constant q.sig) || z) (constants_stay qs)
    where
      by : (t : Bool) → (t && has_constant (if t then q.sig else map (follow links) q.sig)) ≡ (t && has_constant q.sig)
      by true = refl
      by false = refl

  lacks_stay : (lines : List PortLine) (pins : List Pin) → list_any (lacks_port lines) (pins_of pins) ≡ list_any (lacks_port lines) pins
  lacks_stay lines [] = refl
  lacks_stay lines (q ∷ qs) = ap (λ z. lacks_port lines q || z) (lacks_stay lines qs)

  item_stays : (name : List ℕ) (signal : List SigBit) → has_item (followed_at type links name signal) ≡ has_item signal
  item_stays name signal = by (drives_pin type name) signal
    where
      by : (t : Bool) (signal : List SigBit) → has_item (if t then signal else map (follow links) signal) ≡ has_item signal
      by true signal = refl
      by false [] = refl
      by false (s ∷ signal) = refl

  other_stays : (lines : List PortLine) (pins : List Pin) → list_any (has_other_width lines) (pins_of pins) ≡ list_any (has_other_width lines) pins
  other_stays lines [] = refl
  other_stays lines (q ∷ qs) =
      let item = item_stays q.name q.sig in
      let wide = length_followed type links q.name q.sig in
      let later = other_stays lines qs in
      λ i. (item i && option_map_or (λ (port : PortLine). not (wide i == port.width)) (port_named lines q.name) false) || later i

  -- what the pins drive stays
  pub bits_stay : (pins : List Pin) → pin_bits type (pins_of pins) ≡ pin_bits type pins
  bits_stay [] = refl
  bits_stay (q ∷ qs) =
      ap (λ z. z ++ pin_bits type (pins_of qs)) (by (drives_pin type q.name)) ∙ ap (λ z. (if drives_pin type q.name then wire_bits q.sig else []) ++ z) (bits_stay qs)
    where
      by : (t : Bool) → (if t then wire_bits (if t then q.sig else map (follow links) q.sig) else []) ≡ (if t then wire_bits q.sig else [])
      by true = refl
      by false = refl

misfit_stays : (kind : CellKind) (type : CellType) (links : List Link) (c : Cell) → misfit kind (record c { pins = map (followed_pin type links) c.pins }) ≡ misfit kind c
unfolding misfit
misfit_stays kind type links c = ap (fault_of kind (given_params c.params)) (widths_stay type links c.pins)

module _ (links : List Link) (c : Cell) where
  abbrev other : CellType → Cell
  other type = record c { pins = map (followed_pin type links) c.pins }

  -- a cell has no faults but those of memories where it has none with its inputs followed
  sound_stays : (type : CellType) → IsSoundBy c type → IsSoundBy (other type) type
  sound_stays (Library kind) s = record {
    fit = misfit_stays kind (Library kind) links c ∙ s.fit;
    output = constants_stay (Library kind) links c.pins ∙ s.output;
  }
  sound_stays (Instance lines) s = record {
    known = ap (λ t. has_item c.params || t) (lacks_stay (Instance lines) links lines c.pins) ∙ s.known;
    widths = other_stays (Instance lines) links lines c.pins ∙ s.widths;
    output = constants_stay (Instance lines) links c.pins ∙ s.output;
  }
  sound_stays Unsupported s = absurd s
  sound_stays Unknown s = absurd s

  -- nor is it a fault of its memory
  access_stays : (type : CellType) (m : Module) (earlier : List Cell) → IsAccess m earlier c type → IsAccess m earlier (other type) type
  access_stays (Library (Cells.Memory kind)) m earlier a =
      bad_stays c (map (followed_pin (Library (Cells.Memory kind)) links) c.pins) (λ name e. signal_followed (Library (Cells.Memory kind)) links name c.pins ∙ constants_at (Library (Cells.Memory kind)) links name (signal_at c.pins name) e) m earlier kind a
  access_stays type m earlier a = tt

module _ (ports : Ports) (links : List Link) where
  -- a cell without faults is without with its inputs followed
  pub followed_sound : (c : Cell) → IsSound ports c → IsSound ports (followed_cell ports links c)
  followed_sound c sound = sound_stays links c (cell_type ports c.kind_name) sound

  pub followed_access : (m : Module) (earlier : List Cell) (c : Cell) → IsAccess m earlier c (cell_type ports c.kind_name) → IsAccess m earlier (followed_cell ports links c) (cell_type ports c.kind_name)
  followed_access m earlier c a = access_stays links c (cell_type ports c.kind_name) m earlier a

  -- it is a write port of the same number
  same_number : (c d : Cell) → (c ≡ d) ⊎ (followed_cell ports links c ≡ d) → SameNumbers (c ∷ []) (d ∷ [])
  same_number c d (inl e) name = ap (λ z. numbers_of (z ∷ []) name) e
  same_number c d (inr e) name = by (writes_to name c) ∙ ap (λ z. numbers_of (z ∷ []) name) e
    where
      by : (t : Bool) → map (λ (x : Cell). number_at x Portid) (if t then c ∷ [] else []) ≡ map (λ (x : Cell). number_at x Portid) (if t then followed_cell ports links c ∷ [] else [])
      by true = refl
      by false = refl

  -- so cells, each as it is or with its inputs followed, are faults of memories where they were
  pub accesses_follow : (m : Module) (earlier later : List Cell) → SameNumbers earlier later → (cs ds : List Cell) → MayFollow ports links cs ds → AreAccesses ports m earlier cs → AreAccesses ports m later ds
  accesses_follow m earlier later same [] [] may a = tt
  accesses_follow m earlier later same (c ∷ cs) (d ∷ ds) may a =
      (by may.0 (access_moved m m refl earlier later same c (cell_type ports c.kind_name) a.0), accesses_follow m (earlier ++ c ∷ []) (later ++ d ∷ []) (same_more earlier later (c ∷ []) (d ∷ []) same (same_number c d may.0)) cs ds may.1 a.1)
    where
      by : (c ≡ d) ⊎ (followed_cell ports links c ≡ d) → IsAccess m later c (cell_type ports c.kind_name) → IsAccess m later d (cell_type ports d.kind_name)
      by (inl e) b = subst (λ z. IsAccess m later z (cell_type ports z.kind_name)) e b
      by (inr e) b =
          subst (λ z. IsAccess m later z (cell_type ports z.kind_name)) e (followed_access m later c b)
  accesses_follow m earlier later same [] (d ∷ ds) may a = absurd may
  accesses_follow m earlier later same (c ∷ cs) [] may a = absurd may
