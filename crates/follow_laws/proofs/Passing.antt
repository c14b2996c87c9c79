-- Cells with followed inputs in the places of cells are a pass.
use Rattle.std.proofs.Common.{◌≡◌, List, [], ◌∷◌, ◌++◌, inl, inr, refl, subst, sym}
use Rattle.std.specs.Prelude.{map}
use Rattle.rtl_ir.specs.declared.cell.Cell.{Cell}
use Rattle.rtl_ir.specs.declared.module.Link.{Link}
use Rattle.rtl_ir.specs.declared.module.Module.{Module}
use Rattle.rtl_ir.specs.declared.ports.PortTable.{PortTable}
use Rattle.rtl_ir.specs.Flat.Tree as flat
use Rattle.rtl_ir.specs.Types as types
use Rattle.net_model.specs.Swap.{with_cells}
use Rattle.follow_laws.specs.Inputs.{MayFollow, followed, followed_cell}
use Rattle.pass_laws.specs.Pass.{IsPass}
use Rattle.pass_laws.specs.Ready.{IsReady}
use Rattle.follow_laws.proofs.Forming.{ready}
use Rattle.pass_laws.proofs.Accesses.{access_of_each}
use Rattle.pass_laws.proofs.Faultless.{IsPlain, plain}
use Rattle.pass_laws.proofs.Forming.{own_accesses}
use Rattle.follow_laws.proofs.Standing.{driven, instances_stay, refines}

module _ (ports : types.Ports) (links : List Link) where
  same_cells : (cs : List Cell) → MayFollow ports links cs cs
  same_cells [] = tt
  same_cells (c ∷ cs) = (inl refl, same_cells cs)

  one_cell : (pre : List Cell) (c : Cell) (post : List Cell) → MayFollow ports links (pre ++ c ∷ post) (pre ++ followed_cell ports links c ∷ post)
  one_cell [] c post = (inr refl, same_cells post)
  one_cell (d ∷ pre) c post = (inl refl, one_cell pre c post)

  all_cells : (cs : List Cell) → MayFollow ports links cs (map (followed_cell ports links) cs)
  all_cells [] = tt
  all_cells (c ∷ cs) = (inr refl, all_cells cs)

module _ (table : PortTable) (m : Module) (fine : IsReady (types.table_ports table.modules) m) where
  -- each cell as it is, or with its inputs followed
  pub followed_some : (cells : List Cell) → MayFollow (types.table_ports table.modules) m.links m.cells cells → IsPass table m (with_cells cells m)
  followed_some cells may =
      let has : IsPlain m = plain (types.table_ports table.modules) m fine.faultless in
      let good = access_of_each (types.table_ports table.modules) m [] m.cells (own_accesses (types.table_ports table.modules) m fine) in
      record {
        id = refl;
        ports = refl;
        instances = instances_stay (types.table_ports table.modules) m.links m.cells cells may;
        driven = λ over agree h. driven (types.table_ports table.modules) over m cells has.processes good may h;
        ready = ready (types.table_ports table.modules) m cells may;
        refines = refines (types.table_ports table.modules) (flat.table_ports table) m cells has.processes good may;
      }

  -- one cell of the module with its inputs followed
  pub followed_one : (pre : List Cell) (c : Cell) (post : List Cell) → m.cells ≡ pre ++ c ∷ post → IsPass table m (with_cells (pre ++ followed_cell (types.table_ports table.modules) m.links c ∷ post) m)
  followed_one pre c post e =
      followed_some (pre ++ followed_cell (types.table_ports table.modules) m.links c ∷ post) (subst (λ cells. MayFollow (types.table_ports table.modules) m.links cells (pre ++ followed_cell (types.table_ports table.modules) m.links c ∷ post)) (sym e) (one_cell (types.table_ports table.modules) m.links pre c post))

  -- all cells of the module with their inputs followed
  pub followed_all : IsPass table m (followed (types.table_ports table.modules) m)
  followed_all = followed_some (map (followed_cell (types.table_ports table.modules) m.links) m.cells) (all_cells (types.table_ports table.modules) m.links m.cells)
