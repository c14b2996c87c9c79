-- Each memory has the same write ports, in the same order, where lines have become cells.
use Rattle.std.proofs.Common.{◌≡◌, ◌≤◌, ℕ, ◌+◌, false, if◌then◌else◌, List, [], ◌∷◌, ◌++◌, Some, inl, inr, refl, ◌∙◌, ap, arith, append-nil}
use Rattle.std.specs.Prelude.{◌&&◌, filter, flat_map, map}
use Rattle.cell_types.specs.declared.kind.CellKind.{CellKind}
use Rattle.cell_types.specs.declared.kind.CellKind.TheVariants.{Memory}
use Rattle.rtl_ir.specs.Faults.Cells.{is_memory_kind}
use Rattle.rtl_ir.specs.Flat.Access.{Access, accesses_of, cell_access, cell_accesses, in_access_order, next_number, rule_accesses}
use Rattle.rtl_ir.specs.Flat.Cell.{cell_kind}
use Rattle.rtl_ir.specs.WritePorts.{is_of_memory, is_write_cell, is_write_kind}
use Rattle.rtl_ir.specs.declared.cell.Cell.{Cell}
use Rattle.rtl_ir.specs.declared.module.Module.{Module}
use Rattle.rtl_ir.specs.declared.process.Process.{Process}
use Rattle.net_model.specs.Within.{Each}
use Rattle.build_laws.proofs.Growing.{IsPlainCell}
use Rattle.sync_laws.proofs.GoodRules.{without_rules}
use Rattle.sync_laws.proofs.Parts.{cells_from}
use Rattle.sync_laws.proofs.Lines.{RulesSmall, ports_among, ports_both, rules_are, rules_from}
use Rattle.sync_laws.proofs.Order.{before_next, next_ordered, order_both}
use Rattle.sync_laws.proofs.Ports.{is_port_of}
use Rattle.sync_laws.proofs.WriteParts.{module_rules, write_parts}

-- cells that are none of a memory write none
pub plain_port : (name : List ℕ) (c : Cell) → IsPlainCell c → is_port_of name c ≡ false
unfolding is_write_cell cell_kind
plain_port name c h =
    ap (λ t. t && is_of_memory name c) (ap is_write_kind h.is ∙ by h.kind h.plain)
  where
    by : (kind : CellKind) → is_memory_kind kind ≡ false → is_write_kind (Some kind) ≡ false
    by (Memory kind) e = absurd (cc)
    by kind e = refl

pub plain_ports : (m : Module) (name : List ℕ) (cells : List Cell) → Each IsPlainCell cells → ports_among m name cells ≡ []
plain_ports m name [] h = refl
plain_ports m name (c ∷ cells) h =
    ap (λ t. map cell_access (if t then c ∷ filter (is_port_of name) cells else filter (is_port_of name) cells)) (plain_port name c (h c (inl refl)))
    ∙ plain_ports m name cells (λ x i. h x (inr i))

-- no process is left that writes
none_writes : (name : List ℕ) (number : ℕ) (ps : List Process) → rule_accesses name number (flat_map (λ (p : Process). p.syncs) (map without_rules ps)) ≡ []
none_writes name number [] = refl
none_writes name number (p ∷ ps) = none_writes name number ps

module _ (m : Module) (small : RulesSmall m [] (module_rules m)) (new : List Cell) (plain : Each IsPlainCell new) (n : ℕ) where
  abbrev made : List Cell
  made = cells_from n (write_parts m)

  module _ (name : List ℕ) where
    abbrev next : ℕ
    next = next_number (cell_accesses name m.cells)

    among : ports_among m name (m.cells ++ (new ++ cells_from n (write_parts m))) ≡ ports_among m name m.cells ++ rule_accesses name (next_number (cell_accesses name m.cells)) (module_rules m)
    among =
        let from : next + 0 ≡ next = omega arith in
        ports_both m name m.cells (new ++ made)
        ∙ ap (λ z. ports_among m name m.cells ++ z)
        (ports_both m name new made
        ∙ ap (λ z. z ++ ports_among m name made) (plain_ports m name new plain)
        ∙ rules_are m name (module_rules m) [] n small
        ∙ ap (λ k. rule_accesses name k (module_rules m)) from)

    low : Each (λ (a : Access). a.number ≤ next_number (cell_accesses name m.cells)) (ports_among m name m.cells)
    low a i = omega (arith, next_ordered (ports_among m name m.cells), before_next (ports_among m name m.cells) a i)

    -- the ports of a memory, cells and lines
    pub cells_write : cell_accesses name (m.cells ++ (new ++ cells_from n (write_parts m))) ≡ accesses_of name m.cells m.processes
    cells_write =
        ap in_access_order among
        ∙ order_both next (ports_among m name m.cells) (rule_accesses name next (module_rules m)) low (rules_from m name next (module_rules m))

    pub all_write : accesses_of name (m.cells ++ (new ++ cells_from n (write_parts m))) (map without_rules m.processes) ≡ accesses_of name m.cells m.processes
    all_write =
        (λ i. cells_write i ++ none_writes name (next_number (cells_write i)) m.processes i)
        ∙ append-nil (accesses_of name m.cells m.processes)
