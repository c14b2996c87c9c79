-- A sweep is a chain of passes: each visit is two of them.
use Rattle.std.proofs.Common.{◌≡◌, List, [], ◌∷◌, ◌++◌, Option, refl, sym, ◌∙◌, ap, subst, append_assoc}
use Rattle.std.specs.Prelude.{flat_map}
use Rattle.std.proofs.lemmas.List.{append-nil}
use Rattle.std.proofs.lemmas.List.Concat.{flat_map-append}
use Rattle.rtl_ir.specs.Flat.Cell.{listed}
use Rattle.rtl_ir.specs.Types as types
use Rattle.rtl_ir.specs.declared.cell.Cell.{Cell}
use Rattle.rtl_ir.specs.declared.module.Link.{Link}
use Rattle.rtl_ir.specs.declared.module.Module.{Module}
use Rattle.rtl_ir.specs.declared.ports.PortTable.{PortTable}
use Rattle.follow_laws.proofs.Passing.{followed_one}
use Rattle.follow_laws.specs.Inputs.{followed_cell}
use Rattle.pass_laws.proofs.Passes.{IsPass_refl, IsPass_trans}
use Rattle.pass_laws.specs.Pass.{IsPass}
use Rattle.pass_laws.specs.Ready.{IsReady}
use Rattle.opt_expr.specs.Sweep.{Visit, by_rules, expr_of, swept, visit_of, with_swept}
use Rattle.opt_expr.proofs.Ruling.{ruled}

-- the cells that have not gone, with one more
pub standing-more : (done : List (Option Cell)) (slot : Option Cell) (rest : List Cell) → flat_map listed done ++ (listed slot ++ rest) ≡ flat_map listed (done ++ slot ∷ []) ++ rest
standing-more done slot rest =
    sym (append_assoc (flat_map listed done) (listed slot) rest)
    ∙ ap (λ z. (flat_map listed done ++ z) ++ rest) (sym (append-nil (listed slot)))
    ∙ ap (λ z. z ++ rest) (sym (flat_map-append listed done (slot ∷ [])))

module _ (table : PortTable) (m : Module) (cells : List Cell) where
  -- the module in the midst of a sweep
  abbrev so_far : List (Option Cell) → List Cell → List Link → Module
  so_far done rest links = record m { cells = flat_map listed done ++ rest; links = links }

  -- a visit is a pass: the inputs are followed, and then comes a rule
  visit_passes : (done : List (Option Cell)) (c : Cell) (rest : List Cell) (links : List Link) → IsReady (types.table_ports table.modules) (so_far done (c ∷ rest) links)
      → IsPass table (so_far done (c ∷ rest) links) (so_far (done ++ (visit_of (types.table_ports table.modules) cells done rest links c).cell ∷ []) rest (links ++ (visit_of (types.table_ports table.modules) cells done rest links c).links))
  visit_passes done c rest links ready =
      let d : Cell = followed_cell (types.table_ports table.modules) links c in
      let v : Visit = by_rules cells done rest d in
      let first : IsPass table (so_far done (c ∷ rest) links) (so_far done (d ∷ rest) links) = followed_one table (so_far done (c ∷ rest) links) ready (flat_map listed done) c rest refl in
      let second : IsPass table (so_far done (d ∷ rest) links) (record m { cells = flat_map listed done ++ (listed v.cell ++ rest); links = links ++ v.links }) = ruled table (so_far done (d ∷ rest) links) (first.ready ready) cells done rest d refl in
      IsPass_trans table (so_far done (c ∷ rest) links) (so_far done (d ∷ rest) links) (so_far (done ++ v.cell ∷ []) rest (links ++ v.links)) first
      (subst (λ z. IsPass table (so_far done (d ∷ rest) links) (record m { cells = z; links = links ++ v.links })) (standing-more done v.cell rest) second)

  rest_passes : (rest : List Cell) (done : List (Option Cell)) (links : List Link) → IsReady (types.table_ports table.modules) (so_far done rest links)
      → IsPass table (so_far done rest links) (with_swept m (swept (types.table_ports table.modules) cells done rest links))
  rest_passes [] done links ready =
      subst (λ z. IsPass table (so_far done [] links) (record m { cells = z; links = links })) (append-nil (flat_map listed done)) (IsPass_refl table (so_far done [] links))
  rest_passes (c ∷ rest) done links ready =
      let v : Visit = visit_of (types.table_ports table.modules) cells done rest links c in
      let first : IsPass table (so_far done (c ∷ rest) links) (so_far (done ++ v.cell ∷ []) rest (links ++ v.links)) = visit_passes done c rest links ready in
      IsPass_trans table (so_far done (c ∷ rest) links) (so_far (done ++ v.cell ∷ []) rest (links ++ v.links)) (with_swept m (swept (types.table_ports table.modules) cells (done ++ v.cell ∷ []) rest (links ++ v.links))) first
      (rest_passes rest (done ++ v.cell ∷ []) (links ++ v.links) (first.ready ready))

-- the whole sweep is a pass
pub expr_passes : (table : PortTable) (m : Module) → IsReady (types.table_ports table.modules) m → IsPass table m (expr_of (types.table_ports table.modules) m)
expr_passes table m ready = rest_passes table m m.cells m.cells [] m.links ready
