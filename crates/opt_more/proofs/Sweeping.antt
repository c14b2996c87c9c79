-- A sweep is a pass where each visit is one.
use Rattle.std.proofs.Common.{◌≡◌, List, [], ◌∷◌, ◌++◌, Option, Some, None, refl, sym, ◌∙◌, subst}
use Rattle.std.specs.Prelude.{flat_map}
use Rattle.std.proofs.lemmas.List.{append-nil}
use Rattle.rtl_bits.specs.declared.bit.Bit.{Bit}
use Rattle.rtl_ir.specs.Flat.Cell.{listed}
use Rattle.rtl_ir.specs.Types as types
use Rattle.rtl_ir.specs.declared.cell.Cell.{Cell}
use Rattle.rtl_ir.specs.declared.module.Link.{Link}
use Rattle.rtl_ir.specs.declared.module.Module.{Module}
use Rattle.rtl_ir.specs.declared.ports.PortTable.{PortTable}
use Rattle.follow_laws.proofs.Passing.{followed_one}
use Rattle.follow_laws.specs.Inputs.{followed_cell}
use Rattle.pass_laws.proofs.Passes.{IsPass_refl, IsPass_trans}
use Rattle.pass_laws.specs.Pass.{IsPass}
use Rattle.pass_laws.specs.Ready.{IsReady}
use Rattle.opt_expr.specs.Sweep.{Visit, with_swept}
use Rattle.opt_expr.proofs.Sweeping.{standing-more}
use Rattle.opt_more.specs.Reduce.{fold_of, reduce_of, reduce_visit, reduced, reduced_fold}
use Rattle.opt_more.specs.Sweep.{Visiting, swept_by}
use Rattle.opt_more.proofs.FoldCells.{fold_stays}
use Rattle.opt_more.proofs.Reducing.{reduced_passes}

module _ (table : PortTable) (m : Module) where
  -- the module in the midst of a sweep
  abbrev so_far : List (Option Cell) → List Cell → List Link → Module
  so_far done rest links = record m { cells = flat_map listed done ++ rest; links = links }

  -- each visit is a pass
  abbrev pub ArePasses : Visiting → Type 0
  ArePasses visit =
      (done : List (Option Cell)) (c : Cell) (rest : List Cell) (links : List Link) →
      IsReady (types.table_ports table.modules) (record m { cells = flat_map listed done ++ c ∷ rest; links = links }) →
      IsPass table (record m { cells = flat_map listed done ++ c ∷ rest; links = links }) (record m { cells = flat_map listed done ++ (listed (visit done rest links c).cell ++ rest); links = links ++ (visit done rest links c).links })

  module _ (visit : Visiting) (passes : ArePasses visit) where
    rest_passes : (rest : List Cell) (done : List (Option Cell)) (links : List Link) → IsReady (types.table_ports table.modules) (so_far done rest links) → IsPass table (so_far done rest links) (with_swept m (swept_by visit done rest links))
    rest_passes [] done links ready =
        subst (λ z. IsPass table (so_far done [] links) (record m { cells = z; links = links })) (append-nil (flat_map listed done)) (IsPass_refl table (so_far done [] links))
    rest_passes (c ∷ rest) done links ready =
        let v : Visit = visit done rest links c in
        let first : IsPass table (so_far done (c ∷ rest) links) (so_far (done ++ v.cell ∷ []) rest (links ++ v.links)) = subst (λ z. IsPass table (so_far done (c ∷ rest) links) (record m { cells = z; links = links ++ v.links })) (standing-more done v.cell rest) (passes done c rest links ready) in
        IsPass_trans table (so_far done (c ∷ rest) links) (so_far (done ++ v.cell ∷ []) rest (links ++ v.links)) (with_swept m (swept_by visit (done ++ v.cell ∷ []) rest (links ++ v.links))) first
        (rest_passes rest (done ++ v.cell ∷ []) (links ++ v.links) (first.ready ready))

    -- so is the whole sweep
    pub sweep_passes : IsReady (types.table_ports table.modules) m → IsPass table m (with_swept m (swept_by visit [] m.cells m.links))
    sweep_passes ready = rest_passes m.cells [] m.links ready

  -- a visit of `reduce`: the inputs are followed, and then come those of other folds
  reduce_passes : (cells : List Cell) → ArePasses (reduce_visit (types.table_ports table.modules) cells)
  reduce_passes cells done c rest links ready =
      subst (λ z. IsPass table (so_far done (c ∷ rest) links) (record m { cells = flat_map listed done ++ (reduced (fold_of c) (types.table_ports table.modules) cells done rest links c ∷ rest); links = z })) (sym (append-nil links)) (by (fold_of c) refl)
    where
      by : (o : Option Bit) → fold_of c ≡ o → IsPass table (so_far done (c ∷ rest) links) (record m { cells = flat_map listed done ++ (reduced o (types.table_ports table.modules) cells done rest links c ∷ rest); links = links })
      by None e = IsPass_refl table (so_far done (c ∷ rest) links)
      by (Some neutral) e =
          let d : Cell = followed_cell (types.table_ports table.modules) links c in
          let first : IsPass table (so_far done (c ∷ rest) links) (so_far done (d ∷ rest) links) = followed_one table (so_far done (c ∷ rest) links) ready (flat_map listed done) c rest refl in
          let second : IsPass table (so_far done (d ∷ rest) links) (record m { cells = flat_map listed done ++ (reduced_fold neutral cells done rest links d ∷ rest); links = links }) = reduced_passes table (so_far done (d ∷ rest) links) (first.ready ready) cells done rest d refl neutral (fold_stays (types.table_ports table.modules) links c ∙ e) in
          IsPass_trans table (so_far done (c ∷ rest) links) (so_far done (d ∷ rest) links) (record m { cells = flat_map listed done ++ (reduced_fold neutral cells done rest links d ∷ rest); links = links }) first second

-- the pass `reduce`
pub reduce_is_pass : (table : PortTable) (m : Module) → IsReady (types.table_ports table.modules) m → IsPass table m (reduce_of (types.table_ports table.modules) m)
reduce_is_pass table m ready = sweep_passes table m (reduce_visit (types.table_ports table.modules) m.cells) (reduce_passes table m m.cells) ready
