-- The tokens of modules leave what is good.
use Rattle.std.proofs.Common.{◌≡◌, ℕ, List, [], ◌∷◌, ◌++◌, length, Option, Some, None, Ok, false, refl, sym, ap, subst, ◌∙◌, arith}
use Rattle.std.specs.Prelude.{nat_le, is_some, IfSome}
use Rattle.std.proofs.lemmas.Bool.{leb-false}
use Rattle.std.proofs.lemmas.List.{map_push, length_push}
use Rattle.std.proofs.lemmas.List.Elements.{All-push}
use Rattle.rtl_lex.specs.declared.sort.Sort.{Sort}
use Rattle.rtl_lex.specs.declared.sort.Sort.TheVariants as sorts
use Rattle.rtl_lex.specs.Items.{Seen}
use Rattle.rtl_sig.specs.Names.{has_name, number_of, with_name, AreDistinct}
use Rattle.rtl_ir.specs.declared.value.Value.{Value}
use Rattle.rtl_ir.specs.declared.value.Attribute.{Attribute}
use Rattle.rtl_grammar.specs.Uses.{◌>>=◌}
use Rattle.rtl_grammar.specs.declared.expect.Expect.{Expect}
use Rattle.rtl_grammar.specs.declared.expect.Expect.TheVariants as expects
use Rattle.rtl_grammar.specs.Grammar.Module.{after_module_name, after_body, after_next_item, after_parameter_name, after_parameter_value}
use Rattle.rtl_read.specs.declared.draft.Draft.{Draft}
use Rattle.rtl_read.specs.declared.draft.PairKind.TheVariants.{Connect}
use Rattle.rtl_ir.specs.declared.limits.TheConstants.{MAX_CELLS}
use Rattle.rtl_read.specs.declared.read_fault.ReadFault.TheVariants as faults
use Rattle.rtl_read.specs.Constant.{constant}
use Rattle.rtl_read.specs.Meaning.Attribute.{no_attributes}
use Rattle.rtl_read.specs.Meaning.Module.{fresh_module, with_parameter, with_link}
use Rattle.rtl_read.specs.Meaning.Wire.{plain_wire, plain_store}
use Rattle.rtl_read.specs.Meaning.Cell.{plain_cell}
use Rattle.rtl_read.specs.Act.Module.{act_module_name, close_module, act_next_item, act_body, act_parameter_name, act_parameter_value}
use Rattle.rtl_readable.specs.Readable.{IsConstant, AreAttributes, IsReadableModule}
use Rattle.rtl_write.proofs.Names.{is_new}
use Rattle.rtl_write.proofs.Distinct.{not_numbered, distinct_push}
use Rattle.rtl_write.proofs.Items.{IsGood}
use Rattle.rtl_write.proofs.GoodParts.{Constant, constant_good, none_waiting, are_attributes}
use Rattle.rtl_write.proofs.GoodModules.{fresh_open, parameter_open, link_open}
use Rattle.rtl_write.proofs.Stages.{Stage, Fits, Still, IsWireSoFar, IsStoreSoFar}
use Rattle.rtl_write.proofs.Drafts.{in_waiting, in_with, pair_stage}
use Rattle.rtl_write.proofs.Rows.{Leaves, leaves_bind, leaves_if}

-- ---- the head of a module

pub module_name : (roles : List Expect) (i : Seen) (sort : Sort) (d : Draft) → i.sort ≡ sort → IsGood i → Stage expects.ModuleName (Fits roles) d → Leaves roles (after_module_name sort) (act_module_name i d)
module_name roles i sorts.Id d e good at =
    let next : Draft = record d { names = with_name d.names i.text; current = fresh_module i.text d.attributes.items; attributes = no_attributes } in
    leaves_if roles (expects.EndOfLine ∷ expects.Body ∷ []) (is_some (number_of d.names i.text)) (faults.Duplicate i.place) (Ok next)
    (λ none.
    let new : has_name d.names i.text ≡ false = not_numbered d.names i.text none in
    let added : with_name d.names i.text ≡ d.names ++ i.text ∷ [] = (is_new d.names i.text new).added in (
      (
        record {
          each = at.0.0.each;
          ids = added ∙ ap (λ (l : List (List ℕ)). l ++ i.text ∷ []) at.0.0.ids;
          distinct = subst AreDistinct (sym added) (distinct_push d.names i.text at.0.0.distinct new);
          count = at.1;
          opened = fresh_open i.text d.attributes.items (good.name e) (are_attributes d.attributes at.0.0.waiting);
          waiting = none_waiting;
        },
        at.0.1,
      ),
      at.2,
    ))
module_name roles i sort d e good at = tt

-- ---- statements

plain_wire_good : (items : List Attribute) → AreAttributes items → IsWireSoFar (plain_wire items)
plain_wire_good items are = record { some = omega arith; width = omega arith; offset = refl; number = refl; inner = λ e. refl; attributes = are }

plain_store_good : (items : List Attribute) → AreAttributes items → IsStoreSoFar (plain_store items)
plain_store_good items are = record { some = omega arith; width = omega arith; size = refl; offset = refl; attributes = are }

module _ (roles : List Expect) (i : Seen) (d : Draft) (at : Stage expects.Body (Fits roles) d) where
  waiting : AreAttributes d.attributes.items
  waiting = are_attributes d.attributes at.0.0.waiting

  fresh : Still (record d { attributes = no_attributes })
  fresh = (in_waiting d at.0.0 no_attributes none_waiting, at.0.1)

  remark : Leaves roles (Some (expects.AttributeName ∷ expects.NextItem ∷ [])) (Ok d)
  remark = (at.0.0.waiting, λ a w. ((in_waiting d at.0.0 a w, at.0.1), at.1))

  a_wire : Leaves roles (Some (expects.WireOption ∷ expects.Body ∷ [])) (act_next_item sorts.Wire i d)
  a_wire = (fresh, plain_wire_good d.attributes.items waiting, λ e s. (s, at.1))

  a_memory : Leaves roles (Some (expects.MemoryOption ∷ expects.Body ∷ [])) (act_next_item sorts.Memory i d)
  a_memory = (fresh, plain_store_good d.attributes.items waiting, λ e s. (s, at.1))

  a_cell : Leaves roles (Some (expects.CellKind ∷ expects.Body ∷ [])) (act_next_item sorts.Cell i d)
  a_cell =
      leaves_if roles (expects.CellKind ∷ expects.Body ∷ []) (nat_le MAX_CELLS (length d.current.body.cells)) (faults.Limit i.place) (Ok (record d { cell = plain_cell d.attributes.items; attributes = no_attributes }))
      (λ room. (fresh, leb-false MAX_CELLS (length d.current.body.cells) room, (d.attributes.items, waiting, refl), λ e s. (s, at.1)))

  a_process : Leaves roles (Some (expects.ProcessName ∷ expects.Body ∷ [])) (act_next_item sorts.Process i d)
  a_process = (fresh, (d.attributes.items, waiting, refl), λ e s. (s, at.1))

  connects : Leaves roles (Some (expects.Signal ∷ expects.BehindLeft ∷ expects.Body ∷ [])) (act_body sorts.Connect i d)
  connects = pair_stage (Fits (expects.Body ∷ roles)) (record d { pair = Connect }) at.0 (λ left s is on. ((in_with d at.0.0 (with_link (record { left = left; right = s.part }) d.current) refl (link_open d.current at.0.0.opened (record { left = left; right = s.part }) (record { left = is; right = on })), refl), at.1))

  ends : Leaves roles (Some (expects.EndOfLine ∷ [])) (act_body sorts.End i d)
  ends = at.1 (close_module d) (
    record {
      each = All-push IsReadableModule d.modules d.current.body at.0.0.each at.0.0.opened.body;
      ids = at.0.0.ids ∙ sym (map_push (λ m. m.id) d.modules d.current.body);
      distinct = at.0.0.distinct;
      count = omega (arith, length_push d.modules d.current.body, at.0.0.count);
      waiting = at.0.0.waiting;
    },
    at.0.1,
  )

  pub body : (sort : Sort) → Leaves roles (after_body sort) (act_body sort i d)
  body sorts.Attribute = remark
  body sorts.Parameter = (at.0, λ e s. (s, at.1))
  body sorts.Wire = a_wire
  body sorts.Memory = a_memory
  body sorts.Cell = a_cell
  body sorts.Process = a_process
  body sorts.Connect = connects
  body sorts.End = ends
  body sort = tt

  pub next_item : (sort : Sort) → Leaves roles (after_next_item sort) (act_next_item sort i d)
  next_item sorts.Attribute = remark
  next_item sorts.Wire = a_wire
  next_item sorts.Memory = a_memory
  next_item sorts.Cell = a_cell
  next_item sorts.Process = a_process
  next_item sort = tt

-- ---- parameters

pub parameter_name : (roles : List Expect) (i : Seen) (sort : Sort) (d : Draft) → i.sort ≡ sort → IsGood i → Stage expects.ParameterName (Fits roles) d → Leaves roles (after_parameter_name sort) (Ok (act_parameter_name i d))
parameter_name roles i sorts.Id d e good at = (at.0, good.name e, at.1)
parameter_name roles i sort d e good at = tt

module _ (roles : List Expect) (i : Seen) (d : Draft) (good : IsGood i) (at : Stage expects.ParameterValue (Fits roles) d) where
  abbrev put : Option Value → Draft
  put v = record d { current = with_parameter d.name v d.current; name = [] }

  still_put : (v : Option Value) → IfSome v IsConstant → Still (put v)
  still_put v is = (in_with d at.0.0 (with_parameter d.name v d.current) refl (parameter_open d.current at.0.0.opened d.name v at.1 is), at.0.1)

  valued : (sort : Sort) → Constant sort → Leaves roles (Some (expects.EndOfLine ∷ [])) (constant sort i >>= λ v. Ok (put (Some v)))
  valued sort is = leaves_bind roles (expects.EndOfLine ∷ []) (constant sort i) (λ v. Ok (put (Some v))) (λ v e. at.2 (put (Some v)) (still_put (Some v) (constant_good sort i v is good e)))

  pub parameter_value : (sort : Sort) → Leaves roles (after_parameter_value sort) (act_parameter_value sort i d)
  parameter_value sorts.Value = valued sorts.Value tt
  parameter_value sorts.Int = valued sorts.Int tt
  parameter_value sorts.Chars = valued sorts.Chars tt
  parameter_value sorts.Line = at.2 (put None) (still_put None tt)
  parameter_value sort = tt
