-- The tokens of cells leave what is good.
use Rattle.std.proofs.Common.{◌≡◌, ℕ, ◌<◌, List, [], ◌∷◌, ◌++◌, length, map, append-nil, Some, Ok, false, refl, sym, ap, subst, ◌∙◌}
use Rattle.std.specs.Prelude.{is_some}
use Rattle.std.specs.List.{IsDistinct}
use Rattle.std.proofs.lemmas.List.{map_push}
use Rattle.std.proofs.lemmas.List.Elements.{All-nil, All-push}
use Rattle.rtl_lex.specs.declared.sort.Sort.{Sort}
use Rattle.rtl_lex.specs.declared.sort.Sort.TheVariants as sorts
use Rattle.rtl_lex.specs.Items.{Seen}
use Rattle.rtl_sig.specs.Names.{has_name, number_of, with_name, AreDistinct}
use Rattle.rtl_ir.specs.declared.value.Attribute.{Attribute}
use Rattle.rtl_ir.specs.declared.cell.CellParam.{CellParam}
use Rattle.rtl_ir.specs.declared.cell.Pin.{Pin}
use Rattle.rtl_grammar.specs.declared.expect.Expect.{Expect}
use Rattle.rtl_grammar.specs.declared.expect.Expect.TheVariants as expects
use Rattle.rtl_grammar.specs.Grammar.Cell.{after_cell_kind, after_cell_name, after_cell_body, after_cell_parameter, after_cell_parameter_name, after_cell_parameter_value, after_pin_name, after_behind_pin}
use Rattle.rtl_read.specs.declared.draft.Draft.{Draft}
use Rattle.rtl_read.specs.declared.open_cell.OpenCell.{OpenCell}
use Rattle.rtl_read.specs.declared.open_module.OpenModule.{OpenModule}
use Rattle.rtl_ir.specs.declared.limits.TheConstants.{MAX_CELLS}
use Rattle.rtl_read.specs.declared.read_fault.ReadFault.TheVariants as faults
use Rattle.rtl_read.specs.Constant.{constant}
use Rattle.rtl_read.specs.Meaning.Module.{is_taken, with_cell}
use Rattle.rtl_read.specs.Meaning.Cell.{with_kind, with_cell_name, with_param, with_pin}
use Rattle.rtl_read.specs.Act.Signal.{without_signal}
use Rattle.rtl_read.specs.Act.Cell.{act_cell_kind, act_cell_name, act_cell_body, act_cell_parameter, act_cell_parameter_name, act_cell_parameter_value, act_pin_name, act_behind_pin}
use Rattle.rtl_readable.specs.Readable.{IsName, AreAttributes, IsCellParam, IsPin, IsCell}
use Rattle.rtl_write.proofs.Names.{is_new}
use Rattle.rtl_write.proofs.Distinct.{not_numbered, distinct_push}
use Rattle.rtl_write.proofs.Items.{IsGood}
use Rattle.rtl_write.proofs.GoodParts.{Constant, constant_good}
use Rattle.rtl_write.proofs.GoodModules.{unused, named_open, name_taken, cell_open}
use Rattle.rtl_write.proofs.Stages.{Stage, Fits, IsTaken, IsCellSoFar, kinded}
use Rattle.rtl_write.proofs.Drafts.{in_with, signal_stage, bracket_stage}
use Rattle.rtl_write.proofs.Rows.{Leaves, leaves_bind, leaves_if_bind}

-- ---- the head of a cell

pub cell_kind : (roles : List Expect) (i : Seen) (sort : Sort) (d : Draft) → i.sort ≡ sort → IsGood i → Stage expects.CellKind (Fits roles) d → Leaves roles (after_cell_kind sort) (Ok (act_cell_kind i d))
cell_kind roles i sorts.Id d e good at =
    let plain = at.2 in
    (at.0, at.1, (plain.0, i.text, plain.1, good.name e, ap (with_kind i) plain.2), at.3)
cell_kind roles i sort d e good at = tt

-- a cell with a type and a name has nothing yet
begun : (m : OpenModule) (kind : List ℕ) (items : List Attribute) (i : Seen) → IsName kind → AreAttributes items → IsTaken m i.text → length m.body.cells < MAX_CELLS → IsCellSoFar m (with_cell_name i (kinded kind items)) [] []
unfolding IsDistinct
begun m kind items i form are name room = record {
  kind_name = form;
  name = name;
  params = All-nil IsCellParam;
  param_names = refl;
  distinct_params = tt;
  pins = All-nil (IsPin m.body.wires);
  pin_names = refl;
  distinct_pins = tt;
  attributes = are;
  room = room;
}

pub cell_name : (roles : List Expect) (i : Seen) (sort : Sort) (d : Draft) → i.sort ≡ sort → IsGood i → Stage expects.CellName (Fits roles) d → Leaves roles (after_cell_name sort) (act_cell_name i d)
cell_name roles i sorts.Id d e good at =
    let kind = at.2 in
    let named : OpenModule = record d.current { other_names = with_name d.current.other_names i.text } in
    leaves_if_bind roles (expects.EndOfLine ∷ expects.CellBody ∷ []) (is_taken i.text d.current) (faults.Duplicate i.place) (Ok named) (λ m. Ok (record d { current = m; cell = with_cell_name i d.cell }))
    (λ new.
    let free = unused d.current at.0.0.opened i.text new in (
      (in_with d at.0.0 named refl (named_open d.current at.0.0.opened i.text free), at.0.1),
      subst (λ (c : OpenCell). IsCellSoFar named (with_cell_name i c) [] []) (sym kind.4) (begun named kind.1 kind.0 i kind.3 kind.2 (name_taken d.current at.0.0.opened i.text (good.name e) free) at.1),
      at.3,
    ))
cell_name roles i sort d e good at = tt

-- ---- lines

module _ (roles : List Expect) (d : Draft) (at : Stage expects.CellBody (Fits roles) d) where
  whole : IsCell d.current.body.wires d.cell.cell
  whole = record {
    kind_name = at.1.kind_name;
    name = at.1.name.form;
    params = at.1.params;
    distinct_params = subst AreDistinct (at.1.param_names ∙ append-nil (map (λ p. p.name) d.cell.cell.params)) at.1.distinct_params;
    pins = at.1.pins;
    distinct_pins = subst AreDistinct (at.1.pin_names ∙ append-nil (map (λ p. p.name) d.cell.cell.pins)) at.1.distinct_pins;
    attributes = at.1.attributes;
  }

  pub cell_body : (sort : Sort) → Leaves roles (after_cell_body sort) (Ok (act_cell_body sort d))
  cell_body sorts.Parameter = (at.0, at.1, λ e s c. (s, c, at.2))
  cell_body sorts.Connect = (at.0, at.1, λ e s c. (s, c, at.2))
  cell_body sorts.End = at.2 (act_cell_body sorts.End d) (in_with d at.0.0 (with_cell d.cell.cell d.current) refl (cell_open d.current at.0.0.opened d.cell.cell at.1.name whole at.1.room), at.0.1)
  cell_body sort = tt

-- ---- parameters

-- a name is added at the end
added : (names : List (List ℕ)) (name : List ℕ) → has_name names name ≡ false → AreDistinct names → AreDistinct (with_name names name)
added names name new d = subst AreDistinct (sym (is_new names name new).added) (distinct_push names name d new)

added_is : {X : Type 0} (label : X → List ℕ) (names : List (List ℕ)) (items : List X) (name : List ℕ) → has_name names name ≡ false → names ≡ map label items ++ [] → with_name names name ≡ map label items ++ name ∷ []
added_is label names items name new e = (is_new names name new).added ∙ ap (λ (l : List (List ℕ)). l ++ name ∷ []) (e ∙ append-nil (map label items))

whole_is : {X : Type 0} (label : X → List ℕ) (names : List (List ℕ)) (items : List X) (x : X) → names ≡ map label items ++ label x ∷ [] → names ≡ map label (items ++ x ∷ []) ++ []
whole_is label names items x e = e ∙ sym (map_push label items x) ∙ sym (append-nil (map label (items ++ x ∷ [])))

module _ (roles : List Expect) (i : Seen) (d : Draft) (good : IsGood i) (at : Stage expects.CellParameterName (Fits roles) d) where
  named_parameter : i.sort ≡ sorts.Id → Leaves roles (Some (expects.CellParameterValue ∷ [])) (act_cell_parameter_name i d)
  named_parameter e =
      let c : OpenCell = d.cell in
      leaves_if_bind roles (expects.CellParameterValue ∷ []) (is_some (number_of c.params i.text)) (faults.Duplicate i.place) (Ok (record c { params = with_name c.params i.text; name = i.text })) (λ c. Ok (record d { cell = c }))
      (λ none.
      let new : has_name c.params i.text ≡ false = not_numbered c.params i.text none in (
        at.0,
        record {
          kind_name = at.1.kind_name;
          name = at.1.name;
          params = at.1.params;
          param_names = added_is (λ p. p.name) c.params c.cell.params i.text new at.1.param_names;
          distinct_params = added c.params i.text new at.1.distinct_params;
          pins = at.1.pins;
          pin_names = at.1.pin_names;
          distinct_pins = at.1.distinct_pins;
          attributes = at.1.attributes;
          room = at.1.room;
        },
        good.name e,
        at.2,
      ))

  pub cell_parameter_name : (sort : Sort) → i.sort ≡ sort → Leaves roles (after_cell_parameter_name sort) (act_cell_parameter_name i d)
  cell_parameter_name sorts.Id e = named_parameter e
  cell_parameter_name sort e = tt

  pub cell_parameter : (sort : Sort) → i.sort ≡ sort → Leaves roles (after_cell_parameter sort) (act_cell_parameter sort i d)
  cell_parameter sorts.Signed e = (
    at.0,
    record {
      kind_name = at.1.kind_name;
      name = at.1.name;
      params = at.1.params;
      param_names = at.1.param_names;
      distinct_params = at.1.distinct_params;
      pins = at.1.pins;
      pin_names = at.1.pin_names;
      distinct_pins = at.1.distinct_pins;
      attributes = at.1.attributes;
      room = at.1.room;
    },
    at.2,
  )
  cell_parameter sorts.Id e = named_parameter e
  cell_parameter sort e = tt

module _ (roles : List Expect) (i : Seen) (d : Draft) (good : IsGood i) (at : Stage expects.CellParameterValue (Fits roles) d) where
  valued : (sort : Sort) → Constant sort → Leaves roles (Some (expects.EndOfLine ∷ [])) (act_cell_parameter_value sort i d)
  valued sort is =
      let c : OpenCell = d.cell in
      leaves_bind roles (expects.EndOfLine ∷ []) (constant sort i) (λ v. Ok (record d { cell = with_param v d.cell }))
      (λ v e.
      let param : CellParam = record { name = c.name; value = v; signed = c.signed } in
      at.3 (record d { cell = with_param v d.cell }) at.0 (record {
        kind_name = at.1.kind_name;
        name = at.1.name;
        params = All-push IsCellParam c.cell.params param at.1.params (record { name = at.2; value = constant_good sort i v is good e });
        param_names = whole_is (λ p. p.name) c.params c.cell.params param at.1.param_names;
        distinct_params = at.1.distinct_params;
        pins = at.1.pins;
        pin_names = at.1.pin_names;
        distinct_pins = at.1.distinct_pins;
        attributes = at.1.attributes;
        room = at.1.room;
      }))

  pub cell_parameter_value : (sort : Sort) → Leaves roles (after_cell_parameter_value sort) (act_cell_parameter_value sort i d)
  cell_parameter_value sorts.Value = valued sorts.Value tt
  cell_parameter_value sorts.Int = valued sorts.Int tt
  cell_parameter_value sorts.Chars = valued sorts.Chars tt
  cell_parameter_value sort = tt

-- ---- pins

pub pin_name : (roles : List Expect) (i : Seen) (sort : Sort) (d : Draft) → i.sort ≡ sort → IsGood i → Stage expects.PinName (Fits roles) d → Leaves roles (after_pin_name sort) (act_pin_name i d)
pin_name roles i sorts.Id d e good at =
    let c : OpenCell = d.cell in
    let named : OpenCell = record c { pins = with_name c.pins i.text; name = i.text } in
    leaves_if_bind roles (expects.Signal ∷ expects.BehindPin ∷ []) (is_some (number_of c.pins i.text)) (faults.Duplicate i.place) (Ok named) (λ c. Ok (record d { cell = c }))
    (λ none.
    let new : has_name c.pins i.text ≡ false = not_numbered c.pins i.text none in
    signal_stage (Fits (expects.BehindPin ∷ roles)) (record d { cell = named }) at.0 (λ s is. (
      is,
      record {
        kind_name = at.1.kind_name;
        name = at.1.name;
        params = at.1.params;
        param_names = at.1.param_names;
        distinct_params = at.1.distinct_params;
        pins = at.1.pins;
        pin_names = added_is (λ p. p.name) c.pins c.cell.pins i.text new at.1.pin_names;
        distinct_pins = added c.pins i.text new at.1.distinct_pins;
        attributes = at.1.attributes;
        room = at.1.room;
      },
      good.name e,
      at.2,
    )))
pin_name roles i sort d e good at = tt

pub behind_pin : (roles : List Expect) (i : Seen) (sort : Sort) (d : Draft) → Stage expects.BehindPin (Fits roles) d → Leaves roles (after_behind_pin sort) (Ok (act_behind_pin sort i d))
behind_pin roles i sorts.OpenIndex d at = bracket_stage (Fits (expects.BehindPin ∷ roles)) i d at.0 (λ s is. (is, at.1, at.2, at.3))
behind_pin roles i sorts.Line d at =
    let c : OpenCell = d.cell in
    let pin : Pin = record { name = c.name; sig = d.signal.part } in
    at.3 (record (without_signal d) { cell = with_pin d.signal.part d.cell }) (at.0.0, refl) (record {
      kind_name = at.1.kind_name;
      name = at.1.name;
      params = at.1.params;
      param_names = at.1.param_names;
      distinct_params = at.1.distinct_params;
      pins = All-push (IsPin d.current.body.wires) c.cell.pins pin at.1.pins (record { name = at.2; sig = at.0.1.part });
      pin_names = whole_is (λ p. p.name) c.pins c.cell.pins pin at.1.pin_names;
      distinct_pins = at.1.distinct_pins;
      attributes = at.1.attributes;
      room = at.1.room;
    })
behind_pin roles i sort d at = tt
