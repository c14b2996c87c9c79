-- Reading goes over cells.
use Rattle.std.proofs.Common.{◌≡◌, ℕ, ◌<◌, List, [], ◌∷◌, ◌++◌, length, map, Some, Result, Ok, Err, Bool, true, false, refl, sym, ap, subst, ◌∙◌}
use Rattle.std.specs.Prelude.{nat_le, codes, if◌then◌else◌}
use Rattle.std.specs.List.{All, flat_map}
use Rattle.std.proofs.lemmas.Bool.{lt-leb}
use Rattle.std.proofs.lemmas.List.{map-append}
use Rattle.rtl_lex.specs.declared.place.Place.{Place}
use Rattle.rtl_lex.specs.declared.sort.Sort.TheVariants as sorts
use Rattle.rtl_lex.specs.declared.token.TokenKind.TheVariants as kinds
use Rattle.rtl_lex.specs.Sorts.{word_sort, module_word, option_word, process_word, event_word, mark_sort}
use Rattle.rtl_sig.specs.Names.{with_name, AreDistinct}
use Rattle.rtl_sig.specs.declared.sig.SigBit.{SigBit}
use Rattle.rtl_ir.specs.declared.value.Value.{Value}
use Rattle.rtl_ir.specs.declared.wire.Wire.{Wire}
use Rattle.rtl_ir.specs.declared.cell.CellParam.{CellParam}
use Rattle.rtl_ir.specs.declared.cell.Pin.{Pin}
use Rattle.rtl_ir.specs.declared.cell.Cell.{Cell}
use Rattle.rtl_ir.specs.declared.module.Module.{Module}
use Rattle.rtl_grammar.specs.declared.expect.Expect.{Expect}
use Rattle.rtl_grammar.specs.declared.expect.Expect.TheVariants as expects
use Rattle.rtl_grammar.specs.Grammar.{after}
use Rattle.rtl_grammar.specs.Uses.{◌>>=◌}
use Rattle.rtl_read.specs.declared.draft.Draft.{Draft}
use Rattle.rtl_read.specs.declared.open_cell.OpenCell.{OpenCell}
use Rattle.rtl_read.specs.declared.open_module.OpenModule.{OpenModule}
use Rattle.rtl_ir.specs.declared.limits.TheConstants.{MAX_CELLS}
use Rattle.rtl_read.specs.declared.read_fault.ReadFault.{ReadFault}
use Rattle.rtl_read.specs.declared.read_fault.ReadFault.TheVariants as faults
use Rattle.rtl_read.specs.Meaning.Module.{with_cell}
use Rattle.rtl_read.specs.Meaning.Cell.{plain_cell, with_param}
use Rattle.rtl_read.specs.Act.{act}
use Rattle.rtl_readable.specs.Readable.{IsWire, IsCellParam, IsPin, IsCell}
use Rattle.rtl_write.proofs.Printed.{Printed}
use Rattle.rtl_write.proofs.Lexing.{seen_at}
use Rattle.rtl_write.proofs.Names.{IsNew, new_among}
use Rattle.rtl_write.proofs.Going.{Goes, goes_none, goes_then, goes_on, goes_line, goes_each, goes_constant, goes_attributes, waiting, all_at, okay}
use Rattle.rtl_write.proofs.GoingSignals.{Begins, TakesSlices, IsOver, goes_signal}
use Rattle.rtl_write.proofs.GoingWires.{at, IsFree, add_name, adds_name, takes_item}
use Rattle.rtl_write.proofs.Tokens as tokens

-- a draft with this open cell
abbrev celled : Draft → OpenCell → Draft
celled base c = record base { cell = c }

-- a cell of which these parameters and pins were read
abbrev so_far : Cell → List CellParam → List Pin → OpenCell
so_far c params pins = record {
  cell = record { kind_name = c.kind_name; name = c.name; params = params; pins = pins; attributes = c.attributes };
  params = map (λ p. p.name) params;
  pins = map (λ p. p.name) pins;
  name = [];
  signed = false;
}

-- ---- parameters

-- the name of a parameter, with or without `signed` before it
goes_param_name : (signed : Bool) {qs : List Printed} {stack back : List Expect} {e : Draft} (base : Draft) (c : OpenCell) (text : List ℕ) → c.signed ≡ false → IsNew c.params text
    → Goes qs (expects.CellParameterValue ∷ stack) (celled base (record c { params = c.params ++ text ∷ []; name = text; signed = signed })) back e
    → Goes (tokens.signed_option signed ++ tokens.name text ∷ qs) (expects.CellParameter ∷ stack) (celled base c) back e
unfolding word_sort module_word option_word process_word event_word
goes_param_name true base c text plain new more =
    let named : List (List ℕ) → OpenCell = λ (ns : List (List ℕ)). record c { params = ns; name = text; signed = true } in
    goes_on (expects.CellParameterName ∷ []) (λ p. celled base (record c { signed = true })) refl (λ p. refl) (λ p.
    goes_on (expects.CellParameterValue ∷ []) (λ q. celled base (named (c.params ++ text ∷ []))) refl
    (λ q. ap (λ (b : Bool). (if b then Err (faults.Duplicate q) else okay (named (with_name c.params text))) >>= λ x. Ok (celled base x)) new.none ∙ ap (λ (ns : List (List ℕ)). okay (celled base (named ns))) new.added) (λ q. more))
goes_param_name false {qs = qs} {stack = stack} {back = back} {e = e} base c text plain new more =
    let named : List (List ℕ) → OpenCell = λ (ns : List (List ℕ)). record c { params = ns; name = text } in
    goes_on (expects.CellParameterValue ∷ []) (λ q. celled base (named (c.params ++ text ∷ []))) refl
    (λ q. ap (λ (b : Bool). (if b then Err (faults.Duplicate q) else okay (named (with_name c.params text))) >>= λ x. Ok (celled base x)) new.none ∙ ap (λ (ns : List (List ℕ)). okay (celled base (named ns))) new.added)
    (λ q. subst (λ (b : Bool). Goes qs (expects.CellParameterValue ∷ stack) (celled base (record (named (c.params ++ text ∷ [])) { signed = b })) back e) (sym plain) more)

goes_param : (base : Draft) (c : Cell) (roles : List Expect) (front : List CellParam) (p : CellParam) → IsCellParam p → IsNew (map (λ p. p.name) front) p.name
    → Goes (tokens.cell_param p) (expects.CellBody ∷ roles) (celled base (so_far c front [])) (expects.CellBody ∷ roles) (celled base (so_far c (front ++ p ∷ []) []))
unfolding word_sort module_word option_word process_word event_word
goes_param base c roles front p is new =
    let opened : OpenCell = so_far c front [] in
    let names = map (λ (p : CellParam). p.name) front in
    let named : OpenCell = record opened { params = names ++ p.name ∷ []; name = p.name; signed = p.signed } in
    let last = celled base (so_far c (front ++ p ∷ []) []) in
    let put : Result Value ReadFault → Result Draft ReadFault = λ (r : Result Value ReadFault). r >>= λ v. okay (celled base (with_param v named)) in
    let ends : okay (celled base (with_param p.value named)) ≡ Ok last = ap (λ (ns : List (List ℕ)). okay (celled base (record (so_far c (front ++ p ∷ []) []) { params = ns }))) (sym (map-append (λ (p : CellParam). p.name) front (p ∷ []))) in
    goes_on (expects.CellParameter ∷ expects.CellBody ∷ []) (λ q. celled base opened) refl (λ q. refl) (λ q.
    goes_param_name p.signed base opened p.name refl new
    (goes_constant p.value (expects.EndOfLine ∷ []) last is.value refl refl refl (λ t r e. ap put e ∙ ends) (λ t r e. ap put e ∙ ends) (λ t r e. ap put e ∙ ends)
    (goes_line [] last refl (λ t r. refl) goes_none)))

-- ---- pins

pub begins_signal : (d : Draft) → Begins expects.Signal [] d d
unfolding mark_sort
begins_signal d = record { name = refl; value = refl; brace = refl; begins_name = λ text place. refl; begins_value = λ text place. refl; begins_brace = λ place. refl }

slices_pin : TakesSlices expects.BehindPin
unfolding mark_sort
slices_pin = record { opens = refl; brackets = λ d place. refl }

module _ {wires : List Wire} (all : All IsWire wires) (distinct : AreDistinct (map (λ w. w.name) wires)) (modules : List Module) (names : List (List ℕ)) where
  goes_pin : (current : OpenModule) (c : Cell) (roles : List Expect) (front : List Pin) (p : Pin) → IsOver wires (at modules names current) → IsPin wires p → IsNew (map (λ p. p.name) front) p.name
      → Goes (tokens.pin wires p) (expects.CellBody ∷ roles) (celled (at modules names current) (so_far c c.params front)) (expects.CellBody ∷ roles) (celled (at modules names current) (so_far c c.params (front ++ p ∷ [])))
  unfolding word_sort module_word option_word process_word event_word
  goes_pin current c roles front p over is new =
      let base = at modules names current in
      let opened : OpenCell = so_far c c.params front in
      let taken = map (λ (p : Pin). p.name) front in
      let named : List (List ℕ) → OpenCell = λ (ns : List (List ℕ)). record opened { pins = ns; name = p.name } in
      let last : List (List ℕ) → List SigBit → OpenCell = λ (ns : List (List ℕ)) (sig : List SigBit). record (so_far c c.params (front ++ record { name = p.name; sig = sig } ∷ [])) { pins = ns } in
      goes_on (expects.PinName ∷ expects.CellBody ∷ []) (λ q. celled base opened) refl (λ q. refl) (λ q.
      goes_on (expects.Signal ∷ expects.BehindPin ∷ []) (λ r. celled base (named (taken ++ p.name ∷ []))) refl
      (λ r. ap (λ (b : Bool). (if b then Err (faults.Duplicate r) else okay (named (with_name taken p.name))) >>= λ x. Ok (celled base x)) new.none ∙ ap (λ (ns : List (List ℕ)). okay (celled base (named ns))) new.added) (λ r.
      goes_signal all distinct p.sig is.sig refl (begins_signal (celled base (named (taken ++ p.name ∷ [])))) slices_pin (record { wires_are = over.wires_are; names_are = over.names_are }) refl (λ s part braces.
      goes_line [] (celled base (so_far c c.params (front ++ p ∷ []))) refl
      (λ t u. ap (λ (sig : List SigBit). okay (celled base (last (taken ++ p.name ∷ []) sig))) part ∙ ap (λ (ns : List (List ℕ)). okay (celled base (last ns p.sig))) (sym (map-append (λ (p : Pin). p.name) front (p ∷ []))))
      goes_none)))

  -- ---- the whole cell

  goes_cell_lines : (current : OpenModule) (roles : List Expect) (c : Cell) (role : Expect) → IsOver wires (at modules names current) → IsCell wires c → IsFree current c.name → length current.body.cells < MAX_CELLS
      → after role sorts.Cell ≡ Some (expects.CellKind ∷ expects.Body ∷ [])
      → ((place : Place) → act role (seen_at kinds.Word (codes "cell") place) (waiting c.attributes (at modules names current)) ≡ (if nat_le MAX_CELLS (length current.body.cells) then Err (faults.Limit place) else Ok (celled (at modules names current) (plain_cell c.attributes))))
      → Goes (tokens.cell_lines wires c) (role ∷ roles) (waiting c.attributes (at modules names current)) (expects.Body ∷ roles) (at modules names (with_cell c (add_name c.name current)))
  unfolding word_sort module_word option_word process_word event_word
  goes_cell_lines current roles c role over is free few can does =
      let base = at modules names current in
      let named = at modules names (add_name c.name current) in
      let kinded : OpenCell = record (plain_cell c.attributes) { cell = record (plain_cell c.attributes).cell { kind_name = c.kind_name } } in
      let last = at modules names (with_cell c (add_name c.name current)) in
      let stack : List Expect = expects.CellBody ∷ expects.Body ∷ roles in
      let room : nat_le MAX_CELLS (length current.body.cells) ≡ false = lt-leb MAX_CELLS (length current.body.cells) few in
      let params : Goes (flat_map tokens.cell_param c.params) stack (celled named (so_far c [] [])) stack (celled named (so_far c c.params [])) = goes_each tokens.cell_param stack (λ ps. celled named (so_far c ps [])) [] c.params (λ front p back e.
      goes_param named c (expects.Body ∷ roles) front p (all_at IsCellParam front p back c.params e is.params) (new_among (λ (p : CellParam). p.name) front p back c.params e is.distinct_params)) in
      let pins : Goes (flat_map (tokens.pin wires) c.pins) stack (celled named (so_far c c.params [])) stack (celled named (so_far c c.params c.pins)) = goes_each (tokens.pin wires) stack (λ ps. celled named (so_far c c.params ps)) [] c.pins (λ front p back e.
      goes_pin (add_name c.name current) c (expects.Body ∷ roles) front p (record { wires_are = over.wires_are; names_are = over.names_are }) (all_at (IsPin wires) front p back c.pins e is.pins) (new_among (λ (p : Pin). p.name) front p back c.pins e is.distinct_pins)) in
      goes_on (expects.CellKind ∷ expects.Body ∷ []) (λ p. celled base (plain_cell c.attributes)) can (λ p. does p ∙ ap (λ (b : Bool). if b then Err (faults.Limit p) else okay (celled base (plain_cell c.attributes))) room) (λ p.
      goes_on (expects.CellName ∷ []) (λ q. celled base kinded) refl (λ q. refl) (λ q.
      goes_on (expects.EndOfLine ∷ expects.CellBody ∷ []) (λ r. celled named (so_far c [] [])) refl (λ r. ap (λ (x : Result OpenModule ReadFault). x >>= λ m. okay (celled (at modules names m) (so_far c [] []))) (adds_name c.name current r free)) (λ r.
      goes_line [] (celled named (so_far c [] [])) refl (λ t u. refl)
      (goes_then (flat_map tokens.cell_param c.params) _ params
      (goes_then (flat_map (tokens.pin wires) c.pins) _ pins
      (goes_on (expects.EndOfLine ∷ []) (λ u. last) refl (λ u. refl) (λ u. goes_line [] last refl (λ t v. refl) goes_none)))))))

  pub goes_cell : (current : OpenModule) (roles : List Expect) (c : Cell) → IsOver wires (at modules names current) → IsCell wires c → IsFree current c.name → length current.body.cells < MAX_CELLS
      → Goes (tokens.cell wires c) (expects.Body ∷ roles) (at modules names current) (expects.Body ∷ roles) (at modules names (with_cell c (add_name c.name current)))
  unfolding word_sort module_word option_word process_word event_word
  goes_cell current roles c over is free few =
      goes_attributes 2 c.attributes expects.Body expects.NextItem [] roles (at modules names current) is.attributes (takes_item (at modules names current))
      (goes_cell_lines current roles c expects.Body over is free few refl (λ place. refl))
      (goes_cell_lines current roles c expects.NextItem over is free few refl (λ place. refl))
