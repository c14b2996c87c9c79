-- The write ports of a module have no faults, one behind another.
use Rattle.std.proofs.Common.{◌≡◌, ℕ, ◌+◌, List, [], ◌∷◌, ◌++◌, length, Some, inl, inr, refl, sym, ◌∙◌, ap, subst, arith, append-nil, append_assoc}
use Rattle.std.specs.Prelude.{flat_map, map}
use Rattle.cell_types.specs.declared.kind.CellKind.TheVariants.{Memory}
use Rattle.cell_types.specs.declared.memory.MemoryKind.TheVariants.{MemwrV2}
use Rattle.rtl_ir.specs.Fault.{BadMemory, Fault, Spot, fault_if, spot}
use Rattle.rtl_ir.specs.Faults.Cells.{cell_faults, faults_by_type, shape_fault}
use Rattle.rtl_ir.specs.Flat.Cell.{cell_kind}
use Rattle.rtl_ir.specs.Scope.{Scope, with_processes}
use Rattle.rtl_ir.specs.Types.{Ports, cell_type}
use Rattle.rtl_ir.specs.WritePorts.{EventLine, cell_port, cell_ports, next_port}
use Rattle.rtl_ir.specs.declared.cell.Cell.{Cell}
use Rattle.rtl_ir.specs.declared.module.Module.{Module}
use Rattle.rtl_ir.specs.declared.process.Event.{Event}
use Rattle.rtl_ir.specs.declared.process.SyncRule.{SyncRule}
use Rattle.rtl_ir.specs.declared.process.WriteLine.{WriteLine}
use Rattle.net_model.specs.Proc.Sync.{Numbered, line_number}
use Rattle.net_model.specs.Within.{Each}
use Rattle.build_laws.proofs.Growing.{IsPlainCell}
use Rattle.pass_laws.proofs.Faultless.{library_faults}
use Rattle.sync_laws.proofs.Parts.{Part, cells_from, named}
use Rattle.sync_laws.proofs.AllPorts.{plain_port}
use Rattle.sync_laws.proofs.GoodLines.{AreAsMany, AreGood, IsGoodLine, as_many_after, as_many_more, good_parts, rule_lines}
use Rattle.sync_laws.proofs.NewPorts.{StandFor, port_fits, port_good, stand_more}
use Rattle.sync_laws.proofs.Ports.{is_port_of}
use Rattle.sync_laws.proofs.Sound.{IsSound}
use Rattle.sync_laws.proofs.Words.{filter_old}
use Rattle.sync_laws.proofs.WriteParts.{cells_both, lines_parts, numbered_line, numbered_lines, write_part, written_parts}

-- cells that are none of a memory stand for no port
pub stand_plain : (m : Module) (new : List Cell) → Each IsPlainCell new → StandFor m [] (m.cells ++ new)
stand_plain m new plain name = omega (arith, ap next_port (alike name))
  where
    alike : (name : List ℕ) → cell_ports m.links name (m.cells ++ new) ≡ cell_ports m.links name m.cells
    alike name =
        ap (map (cell_port m.links)) (filter_old (is_port_of name) m.cells new (λ c i. plain_port name c (plain c i)))

own_kind : (event : Event) (line : WriteLine) (number : ℕ) (rule : List Numbered) (k : ℕ) → cell_kind (named (write_part event line number rule) k) ≡ Some (Memory MemwrV2)
unfolding cell_kind
own_kind event line number rule k = refl

module _ (ports : Ports) (m n : Module) (links : n.links ≡ m.links) (stores : n.memories ≡ m.memories) where
  -- cells behind cells
  pub cells_split : (earlier cs ds : List Cell) → cell_faults with_processes ports n earlier (cs ++ ds) ≡ cell_faults with_processes ports n earlier cs ++ cell_faults with_processes ports n (earlier ++ cs) ds
  cells_split earlier [] ds = ap (λ z. cell_faults with_processes ports n z ds) (sym (append-nil earlier))
  cells_split earlier (c ∷ cs) ds =
      let scope : Scope = with_processes in
      let here : List Fault = faults_by_type scope n earlier c (cell_type ports c.kind_name) in
      ap (λ z. here ++ z) (cells_split (earlier ++ c ∷ []) cs ds ∙ ap (λ z. cell_faults scope ports n (earlier ++ c ∷ []) cs ++ cell_faults scope ports n z ds) (append_assoc earlier (c ∷ []) cs))
      ∙ sym (append_assoc here (cell_faults scope ports n (earlier ++ c ∷ []) cs) (cell_faults scope ports n (earlier ++ (c ∷ cs)) ds))

  module _ (count : ℕ) where
    port_none : (before rule : List Numbered) (checked : List EventLine) (l : EventLine) (k : ℕ) (earlier : List Cell) → AreAsMany m before checked → IsGoodLine m checked l → StandFor m checked earlier → IsSound count l.event l.line
        → faults_by_type with_processes n earlier (named (write_part l.event l.line (line_number m before l.line.memory) rule) k) (cell_type ports (named (write_part l.event l.line (line_number m before l.line.memory) rule) k).kind_name) ≡ []
    port_none before rule checked l k earlier many good stand sound =
        let c : Cell = named (write_part l.event l.line (line_number m before l.line.memory) rule) k in
        let here : Spot = spot n.id c.name in
        library_faults with_processes ports n earlier c (Memory MemwrV2) (own_kind l.event l.line (line_number m before l.line.memory) rule k)
        ∙ (λ i. ((shape_fault here (port_fits m before rule checked l k many good earlier stand count sound i)) ++ []) ++ fault_if (port_good m before rule checked l k many good earlier stand count sound n links stores i) (BadMemory here))

    abbrev behind : Event → List WriteLine → List EventLine
    behind event lines = map (λ (x : WriteLine). record { event = event; line = x }) lines

    lines_none : (event : Event) (rule before : List Numbered) (checked : List EventLine) (earlier : List Cell) (lines : List WriteLine) (k : ℕ) → AreAsMany m before checked → AreGood m checked (map (λ (x : WriteLine). record { event = event; line = x }) lines) → Each (IsSound count event) lines → StandFor m checked earlier
        → cell_faults with_processes ports n earlier (cells_from k (lines_parts m event rule before lines)) ≡ []
    lines_none event rule before checked earlier [] k many good sound stand = refl
    lines_none event rule before checked earlier (line ∷ lines) k many good sound stand =
        let l : EventLine = record { event = event; line = line } in
        let c : Cell = named (write_part event line (line_number m before line.memory) rule) k in
        λ i. port_none before rule checked l k earlier many good.0 stand (sound line (inl refl)) i
        ++ lines_none event (rule ++ numbered_line m before line ∷ []) (before ++ numbered_line m before line ∷ []) (checked ++ l ∷ []) (earlier ++ c ∷ []) lines (k + 1) (as_many_more m before checked l many) good.1 (λ x j. sound x (inr j)) (stand_more m before rule checked l k many good.0 earlier stand) i

    lines_stand : (event : Event) (rule before : List Numbered) (checked : List EventLine) (earlier : List Cell) (lines : List WriteLine) (k : ℕ) → AreAsMany m before checked → AreGood m checked (map (λ (x : WriteLine). record { event = event; line = x }) lines) → StandFor m checked earlier
        → StandFor m (checked ++ map (λ (x : WriteLine). record { event = event; line = x }) lines) (earlier ++ cells_from k (lines_parts m event rule before lines))
    lines_stand event rule before checked earlier [] k many good stand =
        subst (StandFor m (checked ++ [])) (sym (append-nil earlier)) (subst (λ z. StandFor m z earlier) (sym (append-nil checked)) stand)
    lines_stand event rule before checked earlier (line ∷ lines) k many good stand =
        let l : EventLine = record { event = event; line = line } in
        let c : Cell = named (write_part event line (line_number m before line.memory) rule) k in
        let cs : List Cell = cells_from (k + 1) (lines_parts m event (rule ++ numbered_line m before line ∷ []) (before ++ numbered_line m before line ∷ []) lines) in
        subst (StandFor m (checked ++ behind event (line ∷ lines))) (append_assoc earlier (c ∷ []) cs)
        (subst (λ z. StandFor m z ((earlier ++ c ∷ []) ++ cs)) (append_assoc checked (l ∷ []) (behind event lines))
        (lines_stand event (rule ++ numbered_line m before line ∷ []) (before ++ numbered_line m before line ∷ []) (checked ++ l ∷ []) (earlier ++ c ∷ []) lines (k + 1) (as_many_more m before checked l many) good.1 (stand_more m before rule checked l k many good.0 earlier stand)))

    -- the lines of rules
    pub rules_none : (before : List Numbered) (checked : List EventLine) (earlier : List Cell) (rules : List SyncRule) (k : ℕ) → AreAsMany m before checked → AreGood m checked (flat_map rule_lines rules) → Each (λ (r : SyncRule). Each (IsSound count r.event) r.writes) rules → StandFor m checked earlier
        → cell_faults with_processes ports n earlier (cells_from k (written_parts m before rules)) ≡ []
    rules_none before checked earlier [] k many good sound stand = refl
    rules_none before checked earlier (r ∷ rules) k many good sound stand =
        let scope : Scope = with_processes in
        let here : List Part = lines_parts m r.event [] before r.writes in
        let later : List Numbered = numbered_lines m before r.writes in
        let both = good_parts m checked (rule_lines r) (flat_map rule_lines rules) good in
        ap (cell_faults scope ports n earlier) (cells_both k here (written_parts m later rules))
        ∙ cells_split earlier (cells_from k here) (cells_from (k + length here) (written_parts m later rules))
        ∙ (λ i. lines_none r.event [] before checked earlier r.writes k many both.0 (sound r (inl refl)) stand i
        ++ rules_none later (checked ++ rule_lines r) (earlier ++ cells_from k here) rules (k + length here) (as_many_after m r r.writes before checked many) both.1 (λ x j. sound x (inr j)) (lines_stand r.event [] before checked earlier r.writes k many both.0 stand) i)
