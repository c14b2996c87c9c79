-- Cells and connections that have no fault, wherever they stand.
use Rattle.std.proofs.Common.{◌≡◌, ℕ, ◌+◌, Bool, true, false, List, [], ◌∷◌, ◌++◌, Option, Some, None, inl, inr, refl, sym, ◌∙◌, ap, subst}
use Rattle.std.specs.Prelude.{◌||◌, ◌&&◌, not}
use Rattle.std.specs.List.{list_any}
use Rattle.cell_types.specs.Kind.{kind_of}
use Rattle.cell_types.specs.Unsupported.{is_unsupported}
use Rattle.cell_types.specs.declared.kind.CellKind.{CellKind}
use Rattle.cell_types.specs.declared.kind.CellKind.TheVariants as Cells
use Rattle.rtl_ir.specs.Empty.{empty_module}
use Rattle.rtl_ir.specs.Fault.{Fault, Spot, BadParameterOrPort, BadPort, UnsupportedCell, fault_if, link_spot, spot}
use Rattle.rtl_ir.specs.Fault as fault
use Rattle.rtl_ir.specs.Faults.Cells.{faults_by_type, has_constant_output, has_other_width, is_memory_kind, lacks_port, memory_faults, misfit, output_faults, shape_fault}
use Rattle.rtl_ir.specs.Faults.Links.{is_uneven, link_faults}
use Rattle.rtl_ir.specs.Flat.Cell.{cell_kind}
use Rattle.rtl_ir.specs.Rules.{has_item}
use Rattle.rtl_ir.specs.Scope.{Scope, cells_alone}
use Rattle.rtl_ir.specs.Signals.{has_constant}
use Rattle.rtl_ir.specs.Types.{CellType, Instance, Library, Ports, Unknown, Unsupported, cell_type, type_by}
use Rattle.rtl_ir.specs.declared.cell.Cell.{Cell}
use Rattle.rtl_ir.specs.declared.module.Link.{Link}
use Rattle.rtl_ir.specs.declared.module.Module.{Module}
use Rattle.rtl_ir.specs.declared.ports.PortLine.{PortLine}
use Rattle.net_model.specs.Lists.{In}
use Rattle.net_model.specs.Within.{Each}
use Rattle.pass_laws.specs.Replaces.{IsEven, IsFaultless, IsOutside}
use Rattle.pass_laws.proofs.Faultless.{fits, no_cell_faults, none_left, none_right, type_is}

-- the kind of a cell whose type is of the library
pub own_kind : (ports : Ports) (c : Cell) (kind : CellKind) → cell_type ports c.kind_name ≡ Library kind → cell_kind c ≡ Some kind
unfolding cell_type cell_kind
own_kind ports c kind e =
    by (kind_of c.kind_name) (ports c.kind_name) (is_unsupported c.kind_name) e
  where
    by : (k : Option CellKind) (lines : Option (List PortLine)) (u : Bool) → type_by k lines u ≡ Library kind → k ≡ Some kind
    by (Some j) lines u f = let same : j ≡ kind = cc in ap Some same
    by None (Some lines) u f = absurd (cc)
    by None None true f = absurd (cc)
    by None None false f = absurd (cc)

-- a test that tells no fault of one item
pub is_false : (t : Bool) (a : Fault) → fault_if t a ≡ [] → t ≡ false
is_false false a e = refl
is_false true a e = absurd (cc)

-- three lists of faults that are empty
three : {a b c : List Fault} → a ≡ [] → b ≡ [] → c ≡ [] → (a ++ b) ++ c ≡ []
three e f g = λ i. (e i ++ f i) ++ g i

-- what a cell of the library has that has no faults but those of memories
pub record HasShape (c : Cell) (kind : CellKind) : Type 0 where
  pub fit : misfit kind c ≡ None
  pub output : has_constant_output (Library kind) c.pins ≡ false

-- the same of an instance of a module with these ports
pub record HasPorts (c : Cell) (lines : List PortLine) : Type 0 where
  pub known : (has_item c.params || list_any (lacks_port lines) c.pins) ≡ false
  pub widths : list_any (has_other_width lines) c.pins ≡ false
  pub output : has_constant_output (Instance lines) c.pins ≡ false

-- a cell of this type has no faults but those of memories
abbrev pub IsSoundBy : Cell → CellType → Type 0
IsSoundBy c (Library kind) = HasShape c kind
IsSoundBy c (Instance lines) = HasPorts c lines
IsSoundBy c Unsupported = ⊥
IsSoundBy c Unknown = ⊥

abbrev pub IsSound : Ports → Cell → Type 0
IsSound ports c = IsSoundBy c (cell_type ports c.kind_name)

-- the type of cells of memories
abbrev pub is_memory_type : CellType → Bool
is_memory_type (Library kind) = is_memory_kind kind
is_memory_type type = false

module _ (scope : Scope) (m : Module) (c : Cell) (earlier : List Cell) where
  abbrev here : Spot
  here = spot m.id c.name

  pub sound_by : (type : CellType) → faults_by_type scope m earlier c type ≡ [] → IsSoundBy c type
  sound_by (Library kind) e =
      let k : List Fault = fault_if (is_memory_kind kind && not scope.memories) (UnsupportedCell here) in
      let s : List Fault = shape_fault here (misfit kind c) in
      let o : List Fault = output_faults here (Library kind) c.pins in
      let first : (k ++ s) ++ o ≡ [] = none_left ((k ++ s) ++ o) (memory_faults scope.clocks m earlier c kind) e in
      record {
        fit = fits here c kind (none_right k s (none_left (k ++ s) o first));
        output = is_false (has_constant_output (Library kind) c.pins) (BadPort here) (none_right (k ++ s) o first);
      }
  sound_by (Instance lines) e =
      let bad : Bool = has_item c.params || list_any (lacks_port lines) c.pins in
      let wide : Bool = list_any (has_other_width lines) c.pins in
      let driven : Bool = has_constant_output (Instance lines) c.pins in
      let b : List Fault = fault_if bad (BadParameterOrPort here) in
      let w : List Fault = fault_if wide (fault.Width here) in
      let o : List Fault = fault_if driven (BadPort here) in
      let first : b ++ w ≡ [] = none_left (b ++ w) o e in
      record {
        known = is_false bad (BadParameterOrPort here) (none_left b w first);
        widths = is_false wide (fault.Width here) (none_right b w first);
        output = is_false driven (BadPort here) (none_right (b ++ w) o e);
      }
  sound_by Unsupported e = absurd (cc)
  sound_by Unknown e = absurd (cc)

  -- the shape and the output of a cell of the library
  pub shape_none : (kind : CellKind) → HasShape c kind → {rest : List Fault} → rest ≡ [] → (shape_fault here (misfit kind c) ++ output_faults here (Library kind) c.pins) ++ rest ≡ []
  shape_none kind s e = three (ap (shape_fault here) s.fit) (ap (λ t. fault_if t (BadPort here)) s.output) e

  -- a cell that is none of a memory has no further faults
  pub others_by : (type : CellType) → is_memory_type type ≡ false → IsSoundBy c type → faults_by_type scope m earlier c type ≡ []
  others_by (Library (Cells.Word kind)) e s = shape_none (Cells.Word kind) s refl
  others_by (Library (Cells.Gate kind)) e s = shape_none (Cells.Gate kind) s refl
  others_by (Library (Cells.Storage kind)) e s = shape_none (Cells.Storage kind) s refl
  others_by (Library (Cells.StorageGate kind)) e s = shape_none (Cells.StorageGate kind) s refl
  others_by (Library (Cells.Memory kind)) e s = absurd (cc)
  others_by (Instance lines) e s =
      three (ap (λ t. fault_if t (BadParameterOrPort here)) s.known) (ap (λ t. fault_if t (fault.Width here)) s.widths) (ap (λ t. fault_if t (BadPort here)) s.output)
  others_by Unsupported e s = absurd s
  others_by Unknown e s = absurd s

-- what a cell of the library has that is without faults where cells alone are taken
pub record FitsKind (c : Cell) (kind : CellKind) : Type 0 where
  pub plain : is_memory_kind kind ≡ false
  pub fit : misfit kind c ≡ None
  pub output : has_constant_output (Library kind) c.pins ≡ false

module _ (ports : Ports) where
  -- the type of a cell that is none of a memory
  pub outside_type : (c : Cell) → IsOutside c → is_memory_type (cell_type ports c.kind_name) ≡ false
  outside_type c outside = by (cell_type ports c.kind_name) refl
    where
      by : (type : CellType) → cell_type ports c.kind_name ≡ type → is_memory_type type ≡ false
      by (Library kind) e = outside kind (own_kind ports c kind e)
      by (Instance lines) e = refl
      by Unsupported e = refl
      by Unknown e = refl

  -- what a cell of the library has, of no faults but those of memories
  pub shape_of : (c : Cell) (kind : CellKind) → cell_kind c ≡ Some kind → IsSound ports c → HasShape c kind
  shape_of c kind own sound = subst (IsSoundBy c) (type_is ports c kind own) sound

  -- cells that are none of a memory have no faults where cells alone are taken
  pub sound_faultless : (c : Cell) → IsOutside c → IsSound ports c → IsFaultless ports c
  sound_faultless c outside sound m earlier =
      others_by cells_alone m c earlier (cell_type ports c.kind_name) (outside_type c outside) sound

  pub faultless_sound : (c : Cell) → IsFaultless ports c → IsSound ports c
  faultless_sound c fine =
      sound_by cells_alone (empty_module []) c [] (cell_type ports c.kind_name) (fine (empty_module []) [])

  -- a cell of the library that fits its kind, drives no constant, and is none of a memory
  pub library_faultless : (c : Cell) (kind : CellKind) → cell_kind c ≡ Some kind → is_memory_kind kind ≡ false → misfit kind c ≡ None → has_constant_output (Library kind) c.pins ≡ false → IsFaultless ports c
  library_faultless c kind own plain fit output =
      sound_faultless c (λ k e. subst (λ z. is_memory_kind z ≡ false) (same k e) plain) (subst (IsSoundBy c) (sym (type_is ports c kind own)) (record { fit = fit; output = output }))
    where
      same : (k : CellKind) → cell_kind c ≡ Some k → kind ≡ k
      same k e = let both : Some kind ≡ Some k = sym own ∙ e in cc

  pub fits_kind : (c : Cell) (kind : CellKind) → cell_kind c ≡ Some kind → IsFaultless ports c → FitsKind c kind
  fits_kind c kind own fine =
      let none = no_cell_faults cells_alone ports (empty_module []) [] c kind own (fine (empty_module []) []) in
      record {
        plain = plain (is_memory_kind kind) none.known;
        fit = fits (spot [] c.name) c kind none.shape;
        output = is_false (has_constant_output (Library kind) c.pins) (BadPort (spot [] c.name)) none.output;
      }
    where
      plain : (t : Bool) → fault_if (t && true) (UnsupportedCell (spot [] c.name)) ≡ [] → t ≡ false
      plain false e = refl
      plain true e = absurd (cc)

  pub faultless_outside : (c : Cell) → IsFaultless ports c → IsOutside c
  faultless_outside c fine kind own = (fits_kind c kind own fine).plain

-- connections without faults have none together
pub no_link_faults : (id : List ℕ) (number : ℕ) (links : List Link) → Each IsEven links → link_faults id number links ≡ []
no_link_faults id number [] h = refl
no_link_faults id number (l ∷ ls) h =
    three (ap (λ t. fault_if t (BadPort (link_spot id number))) (h l (inl refl)).wires) (ap (λ t. fault_if t (fault.Width (link_spot id number))) (h l (inl refl)).width) (no_link_faults id (number + 1) ls (λ x i. h x (inr i)))

-- the connections of a module without faults
pub links_even : (id : List ℕ) (number : ℕ) (links : List Link) → link_faults id number links ≡ [] → Each IsEven links
links_even id number [] e l i = absurd i
links_even id number (k ∷ ks) e l i =
    by (links_even id (number + 1) ks) i
  where
    two : fault_if (has_constant k.left) (BadPort (link_spot id number)) ++ fault_if (is_uneven k) (fault.Width (link_spot id number)) ≡ []
    two = none_left (fault_if (has_constant k.left) (BadPort (link_spot id number)) ++ fault_if (is_uneven k) (fault.Width (link_spot id number))) (link_faults id (number + 1) ks) e

    here : IsEven k
    here = record {
      width = is_false (is_uneven k) (fault.Width (link_spot id number)) (none_right (fault_if (has_constant k.left) (BadPort (link_spot id number))) (fault_if (is_uneven k) (fault.Width (link_spot id number))) two);
      wires = is_false (has_constant k.left) (BadPort (link_spot id number)) (none_left (fault_if (has_constant k.left) (BadPort (link_spot id number))) (fault_if (is_uneven k) (fault.Width (link_spot id number))) two);
    }

    by : (link_faults id (number + 1) ks ≡ [] → (x : Link) → In x ks → IsEven x) → In l (k ∷ ks) → IsEven l
    by later (inl f) = subst IsEven (sym f) here
    by later (inr j) = later (none_right (fault_if (has_constant k.left) (BadPort (link_spot id number)) ++ fault_if (is_uneven k) (fault.Width (link_spot id number))) (link_faults id (number + 1) ks) e) l j
