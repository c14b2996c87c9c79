-- What the types of cells name in a part is what they name in the design.
use Rattle.std.proofs.Common.{◌≡◌, ℕ, Bool, true, false, List, [], Option, Some, None, refl, sym, ◌∙◌, ap, subst}
use Rattle.std.specs.Prelude.{option_map}
use Rattle.cell_types.specs.declared.kind.CellKind.{CellKind}
use Rattle.cell_types.specs.Kind.{kind_of}
use Rattle.cell_types.specs.Unsupported.{is_unsupported}
use Rattle.rtl_ir.specs.declared.cell.Cell.{Cell}
use Rattle.rtl_ir.specs.declared.module.Module.{Module}
use Rattle.rtl_ir.specs.declared.ports.PortLine.{PortLine}
use Rattle.rtl_ir.specs.Faults.{module_faults}
use Rattle.rtl_ir.specs.Ports.{instantiates}
use Rattle.rtl_ir.specs.Scope.{everything}
use Rattle.rtl_ir.specs.Types.{cell_type, design_ports, module_named, port_lines, type_by}
use Rattle.net_model.specs.Lists.{In}
use Rattle.script_core.specs.declared.word.Word.{Word}
use Rattle.script_core.proofs.Faultless.{Alike, SameType, over_others}
use Rattle.script_core.proofs.Instancing.{found_in, found_name}
use Rattle.script_core.proofs.Tables.{instantiated}
use Rattle.design_parts.specs.Parts.{has_name, part, shown}
use Rattle.design_parts.proofs.Faces.{shown_id, shown_lines}
use Rattle.design_parts.proofs.Names.{named_kept, named_left}
use Rattle.design_parts.proofs.Outcomes.{Covers}

module _ (script : List Word) (own : List ℕ → Bool) (ms : List Module) where
  pub part_kept : (id : List ℕ) → has_name script own ms id ≡ true → module_named (part script own ms) id ≡ option_map (shown script own) (module_named ms id)
  part_kept id h = named_kept (shown script own) (shown_id script own) (has_name script own ms) id h ms

  pub part_left : (id : List ℕ) → has_name script own ms id ≡ false → module_named (part script own ms) id ≡ None
  part_left id h = named_left (shown script own) (shown_id script own) (has_name script own ms) id h ms

  abbrev lines : Module → List PortLine
  lines m = port_lines m.wires

  ports_kept : (id : List ℕ) → has_name script own ms id ≡ true → design_ports (part script own ms) id ≡ design_ports ms id
  ports_kept id h = ap (option_map lines) (part_kept id h) ∙ by (module_named ms id)
    where
      by : (o : Option Module) → option_map lines (option_map (shown script own) o) ≡ option_map lines o
      by None = refl
      by (Some n) = ap Some (shown_lines script own n)

  ports_same : (cells : List Cell) → Covers script own ms cells → (c : Cell) → In c cells → kind_of c.kind_name ≡ None → design_ports (part script own ms) c.kind_name ≡ design_ports ms c.kind_name
  ports_same cells h c i e = by (has_name script own ms c.kind_name) refl
    where
      none : has_name script own ms c.kind_name ≡ false → (o : Option Module) → module_named ms c.kind_name ≡ o → option_map lines o ≡ None
      none f None g = refl
      none f (Some n) g =
          let same = found_name ms c.kind_name n g in
          let there = h n (found_in ms c.kind_name n g) (subst (λ z. instantiates cells z ≡ true) (sym same) (instantiated c cells i e)) in
          let no : true ≡ false = sym there ∙ ap (has_name script own ms) same ∙ f in
          absurd cc

      by : (t : Bool) → has_name script own ms c.kind_name ≡ t → design_ports (part script own ms) c.kind_name ≡ design_ports ms c.kind_name
      by true f = ports_kept c.kind_name f
      by false f = ap (option_map lines) (part_left c.kind_name f) ∙ sym (none f (module_named ms c.kind_name) refl)

  types_same : (cells : List Cell) → Covers script own ms cells → (c : Cell) → In c cells → cell_type (design_ports (part script own ms)) c.kind_name ≡ cell_type (design_ports ms) c.kind_name
  unfolding cell_type
  types_same cells h c i = by (kind_of c.kind_name) refl
    where
      by : (k : Option CellKind) → kind_of c.kind_name ≡ k
          → type_by k (design_ports (part script own ms) c.kind_name) (is_unsupported c.kind_name) ≡ type_by k (design_ports ms c.kind_name) (is_unsupported c.kind_name)
      by (Some kind) e = refl
      by None e = ap (λ (o : Option (List PortLine)). type_by None o (is_unsupported c.kind_name)) (ports_same cells h c i e)

  -- so a module has no fault in the part if it has none in the design
  pub fine_in : (m : Module) → Covers script own ms m.cells → module_faults everything (design_ports ms) m ≡ [] → module_faults everything (design_ports (part script own ms)) m ≡ []
  fine_in m h e =
      over_others everything (design_ports ms) (design_ports (part script own ms)) m m.id
      (λ c i. subst (Alike (cell_type (design_ports ms) c.kind_name)) (sym (types_same m.cells h c i)) (SameType (cell_type (design_ports ms) c.kind_name))) e

  -- .. and the other way round
  pub fine_out : (m : Module) → Covers script own ms m.cells → module_faults everything (design_ports (part script own ms)) m ≡ [] → module_faults everything (design_ports ms) m ≡ []
  fine_out m h e =
      over_others everything (design_ports (part script own ms)) (design_ports ms) m m.id
      (λ c i. subst (Alike (cell_type (design_ports (part script own ms)) c.kind_name)) (types_same m.cells h c i) (SameType (cell_type (design_ports (part script own ms)) c.kind_name))) e
