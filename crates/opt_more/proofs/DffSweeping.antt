-- The pass over the registers.
use Rattle.std.proofs.Common.{◌≡◌, List, ◌∷◌, ◌++◌, Option, Some, None, refl, sym, ◌∙◌, subst}
use Rattle.std.specs.Prelude.{flat_map}
use Rattle.std.proofs.lemmas.List.{append-nil}
use Rattle.cell_types.specs.declared.kind.CellKind.{CellKind}
use Rattle.rtl_bits.specs.declared.bit.Bit.{Bit}
use Rattle.rtl_bits.specs.declared.bit.Bit.TheVariants.{S0, S1, X, Z, M, Dash}
use Rattle.rtl_ir.specs.Flat.Cell.{cell_kind, listed}
use Rattle.rtl_ir.specs.Types as types
use Rattle.rtl_ir.specs.declared.cell.Cell.{Cell}
use Rattle.rtl_ir.specs.declared.module.Link.{Link}
use Rattle.rtl_ir.specs.declared.module.Module.{Module}
use Rattle.rtl_ir.specs.declared.ports.PortTable.{PortTable}
use Rattle.follow_laws.proofs.Passing.{followed_one}
use Rattle.follow_laws.specs.Inputs.{followed_cell}
use Rattle.pass_laws.proofs.Passes.{IsPass_refl, IsPass_trans}
use Rattle.pass_laws.specs.Pass.{IsPass}
use Rattle.pass_laws.specs.Ready.{IsReady}
use Rattle.opt_expr.specs.Sweep.{Visit, stays}
use Rattle.opt_more.specs.Dff.{dff_of, dff_visit, enabled, enabled_of, register_of, register_visit, registered, settled_of}
use Rattle.opt_more.proofs.Enabling.{enabled_passes}
use Rattle.opt_more.proofs.Registering.{IsRegister, is_register}
use Rattle.opt_more.proofs.Settling.{settled_passes}
use Rattle.opt_more.proofs.Sweeping.{ArePasses, sweep_passes}

-- following makes no other register
register_followed : (ports : types.Ports) (links : List Link) (c : Cell) → register_of (followed_cell ports links c) ≡ register_of c
unfolding cell_kind
register_followed ports links c = refl

module _ (table : PortTable) (m : Module) where
  abbrev so_far : List (Option Cell) → List Cell → List Link → Module
  so_far done rest links = record m { cells = flat_map listed done ++ rest; links = links }

  -- what comes of a visit
  abbrev after : List (Option Cell) → List Cell → List Link → Visit → Module
  after done rest links v = record m { cells = flat_map listed done ++ (listed v.cell ++ rest); links = links ++ v.links }

  stays_passes : (done : List (Option Cell)) (c d : Cell) (rest : List Cell) (links : List Link) → IsPass table (so_far done (c ∷ rest) links) (so_far done (d ∷ rest) links) → IsPass table (so_far done (c ∷ rest) links) (after done rest links (stays d))
  stays_passes done c d rest links h =
      subst (λ z. IsPass table (so_far done (c ∷ rest) links) (record m { cells = flat_map listed done ++ (d ∷ rest); links = z })) (sym (append-nil links)) h

  -- a register whose inputs are followed
  register_passes : (done : List (Option Cell)) (c : Cell) (rest : List Cell) (links : List Link) (kind : CellKind) → IsReady (types.table_ports table.modules) (so_far done (c ∷ rest) links) → IsRegister c kind
      → IsPass table (so_far done (c ∷ rest) links) (after done rest links (register_visit (settled_of m.wires kind c) kind c))
  register_passes done c rest links kind ready r = by (settled_of m.wires kind c) refl
    where
      enabling : (b : Bit) → enabled_of kind c ≡ b → IsPass table (so_far done (c ∷ rest) links) (so_far done (enabled b kind c ∷ rest) links)
      enabling S1 e = enabled_passes table (so_far done (c ∷ rest) links) (flat_map listed done) c rest ready refl kind r e
      enabling S0 e = IsPass_refl table (so_far done (c ∷ rest) links)
      enabling X e = IsPass_refl table (so_far done (c ∷ rest) links)
      enabling Z e = IsPass_refl table (so_far done (c ∷ rest) links)
      enabling M e = IsPass_refl table (so_far done (c ∷ rest) links)
      enabling Dash e = IsPass_refl table (so_far done (c ∷ rest) links)

      by : (o : Option (List Bit)) → settled_of m.wires kind c ≡ o → IsPass table (so_far done (c ∷ rest) links) (after done rest links (register_visit o kind c))
      by (Some values) e = settled_passes table (so_far done (c ∷ rest) links) (flat_map listed done) c rest ready refl kind r values e
      by None e = stays_passes done c (enabled (enabled_of kind c) kind c) rest links (enabling (enabled_of kind c) refl)

  -- a visit: the inputs are followed, and then comes the register
  dff_passes : ArePasses table m (dff_visit (types.table_ports table.modules) m.wires)
  dff_passes done c rest links ready = by (register_of c) refl
    where
      by : (o : Option CellKind) → register_of c ≡ o → IsPass table (so_far done (c ∷ rest) links) (after done rest links (registered m.wires o c (followed_cell (types.table_ports table.modules) links c)))
      by None e = stays_passes done c c rest links (IsPass_refl table (so_far done (c ∷ rest) links))
      by (Some kind) e =
          let d : Cell = followed_cell (types.table_ports table.modules) links c in
          let first : IsPass table (so_far done (c ∷ rest) links) (so_far done (d ∷ rest) links) = followed_one table (so_far done (c ∷ rest) links) ready (flat_map listed done) c rest refl in
          let r : IsRegister d kind = is_register d kind (register_followed (types.table_ports table.modules) links c ∙ e) in
          IsPass_trans table (so_far done (c ∷ rest) links) (so_far done (d ∷ rest) links) (after done rest links (register_visit (settled_of m.wires kind d) kind d)) first
          (register_passes done d rest links kind (first.ready ready) r)

-- the pass `dff`
pub dff_is_pass : (table : PortTable) (m : Module) → IsReady (types.table_ports table.modules) m → IsPass table m (dff_of (types.table_ports table.modules) m)
dff_is_pass table m ready = sweep_passes table m (dff_visit (types.table_ports table.modules) m.wires) (dff_passes table m) ready
