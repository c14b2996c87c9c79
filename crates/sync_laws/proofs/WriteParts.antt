-- What the step adds, as a list of cells that have no names yet: flip-flops and latches, and then write ports.
use Rattle.std.proofs.Common.{◌≡◌, ℕ, ◌+◌, false, List, [], ◌∷◌, ◌++◌, length, refl, sym, ◌∙◌, ap, arith}
use Rattle.std.specs.Prelude.{codes, flat_map}
use Rattle.rtl_ir.specs.Build.{Building, bits_param, integer_param, pin_of}
use Rattle.rtl_ir.specs.Constants.{value_bits}
use Rattle.rtl_ir.specs.Flat.Access.{line_mask, write_trigger}
use Rattle.rtl_ir.specs.Rules.{acting_rules}
use Rattle.rtl_ir.specs.declared.module.Module.{Module}
use Rattle.rtl_ir.specs.declared.process.Event.{Event}
use Rattle.rtl_ir.specs.declared.process.Process.{Process}
use Rattle.rtl_ir.specs.declared.process.SyncRule.{SyncRule}
use Rattle.rtl_ir.specs.declared.process.WriteLine.{WriteLine}
use Rattle.rtl_ir.specs.declared.value.Value.TheVariants.{Chars}
use Rattle.net_model.specs.Proc.Sync.{Numbered, Writing, in_turn, line_number, lines_step, polarity_of, ports_in, rules_step, sync_step, writes_step}
use Rattle.sync_laws.proofs.Parts.{Part, all_parts, cells_from, named, put, put_all, turn_append, with_parts, processes_put}

-- a line that writes as a port of this number, behind these lines of its rule
abbrev pub write_part : Event → WriteLine → ℕ → List Numbered → Part
write_part event line number rule = record {
  kind = codes "$memwr_v2";
  params =
      record { name = codes "\\MEMID"; value = Chars line.memory; signed = false }
      ∷ integer_param (codes "\\ABITS") (length line.address)
      ∷ integer_param (codes "\\WIDTH") (length line.value)
      ∷ integer_param (codes "\\CLK_ENABLE") 1
      ∷ integer_param (codes "\\CLK_POLARITY") (polarity_of (write_trigger event).level)
      ∷ integer_param (codes "\\PORTID") number
      ∷ bits_param (codes "\\PRIORITY_MASK") (line_mask number (ports_in line.memory rule) (value_bits line.mask))
      ∷ [];
  pins =
      pin_of (codes "\\CLK") (write_trigger event).signal ∷ pin_of (codes "\\EN") line.enable ∷ pin_of (codes "\\ADDR") line.address ∷ pin_of (codes "\\DATA") line.value ∷ [];
}

-- a line as it is numbered behind these
abbrev pub numbered_line : Module → List Numbered → WriteLine → Numbered
numbered_line m before line = record { memory = line.memory; number = line_number m before line.memory }

-- the lines of a rule, behind these of the same rule and these of all
abbrev pub lines_parts : Module → Event → List Numbered → List Numbered → List WriteLine → List Part
lines_parts m event rule before [] = []
lines_parts m event rule before (line ∷ lines) =
    write_part event line (line_number m before line.memory) rule
    ∷ lines_parts m event (rule ++ numbered_line m before line ∷ []) (before ++ numbered_line m before line ∷ []) lines

-- the lines that are numbered, with these further ones
abbrev pub numbered_lines : Module → List Numbered → List WriteLine → List Numbered
numbered_lines m before [] = before
numbered_lines m before (line ∷ lines) = numbered_lines m (before ++ numbered_line m before line ∷ []) lines

-- the rules in order
abbrev pub written_parts : Module → List Numbered → List SyncRule → List Part
written_parts m before [] = []
written_parts m before (r ∷ rules) =
    lines_parts m r.event [] before r.writes ++ written_parts m (numbered_lines m before r.writes) rules

-- all rules of a module
abbrev pub module_rules : Module → List SyncRule
module_rules m = flat_map (λ (p : Process). p.syncs) m.processes

-- its write ports
abbrev pub write_parts : Module → List Part
write_parts m = written_parts m [] (module_rules m)

lines_put : (m : Module) (event : Event) (rule : List Numbered) (lines : List WriteLine) (w : Writing) → lines_step m event rule lines w ≡ record { building = in_turn put (lines_parts m event rule w.numbered lines) w.building; numbered = numbered_lines m w.numbered lines }
lines_put m event rule [] w = refl
lines_put m event rule (line ∷ lines) w =
    lines_put m event (rule ++ numbered_line m w.numbered line ∷ []) lines
    (record {
      building = put (write_part event line (line_number m w.numbered line.memory) rule) w.building;
      numbered = w.numbered ++ numbered_line m w.numbered line ∷ [];
    })

writes_put : (m : Module) (rules : List SyncRule) (w : Writing) → (writes_step m rules w).building ≡ in_turn put (written_parts m w.numbered rules) w.building
writes_put m [] w = refl
writes_put m (r ∷ rules) w =
    let here : List Part = lines_parts m r.event [] w.numbered r.writes in
    let later : List Numbered = numbered_lines m w.numbered r.writes in
    ap (λ (z : Writing). (writes_step m rules z).building) (lines_put m r.event [] r.writes w)
    ∙ writes_put m rules (record { building = in_turn put here w.building; numbered = later })
    ∙ sym (turn_append put here (written_parts m later rules) w.building)

-- the step
pub step_is : (m : Module) (b : Building) → sync_step m b ≡ with_parts (all_parts m ++ write_parts m) b
step_is m b =
    writes_put m (module_rules m) (record { building = in_turn (λ (p : Process). rules_step (acting_rules p.syncs)) m.processes b; numbered = [] })
    ∙ ap (in_turn put (write_parts m)) (processes_put m.processes b)
    ∙ sym (turn_append put (all_parts m) (write_parts m) b)
    ∙ put_all (all_parts m ++ write_parts m) b

-- cells of two lists of parts
pub cells_both : (n : ℕ) (qs rs : List Part) → cells_from n (qs ++ rs) ≡ cells_from n qs ++ cells_from (n + length qs) rs
cells_both n [] rs = let same : n ≡ n + 0 = omega arith in ap (λ k. cells_from k rs) same
cells_both n (q ∷ qs) rs =
    let later : (n + 1) + length qs ≡ n + length (q ∷ qs) = omega arith in
    ap (λ z. named q n ∷ z) (cells_both (n + 1) qs rs ∙ ap (λ k. cells_from (n + 1) qs ++ cells_from k rs) later)
