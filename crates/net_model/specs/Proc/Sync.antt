-- Steps of `proc`: rules become flip-flops and latches, and lines that write become write ports.
use Rattle.std.specs.Prelude.{ℕ, ◌+◌, Bool, true, false, not, ◌&&◌, nat_lt, List, [], ◌∷◌, ◌++◌, length, map, filter, flat_map, codes, Option, Some, None, if◌then◌else◌}
use Rattle.std.specs.Option.{is_some}
use Rattle.std.specs.Str.{bytes_eq}
use Rattle.std.specs.Prelude.{count_by}
use Rattle.rtl_sig.specs.declared.sig.SigBit.{SigBit}
use Rattle.rtl_sig.specs.declared.sig.SigBit.TheVariants.{Fixed, Wire as OnWire}
use Rattle.cell_types.specs.declared.level.Level.{Level}
use Rattle.cell_types.specs.declared.level.Level.TheVariants as At
use Rattle.rtl_ir.specs.declared.cell.CellParam.{CellParam}
use Rattle.rtl_ir.specs.declared.module.Link.{Link}
use Rattle.rtl_ir.specs.declared.module.Module.{Module}
use Rattle.rtl_ir.specs.declared.process.Event.{Event}
use Rattle.rtl_ir.specs.declared.process.Event.TheVariants.{Global}
use Rattle.rtl_ir.specs.declared.process.Process.{Process}
use Rattle.rtl_ir.specs.declared.process.SyncRule.{SyncRule}
use Rattle.rtl_ir.specs.declared.process.WriteLine.{WriteLine}
use Rattle.rtl_ir.specs.declared.value.Value.TheVariants.{Chars}
use Rattle.rtl_ir.specs.Constants.{value_bits}
use Rattle.rtl_ir.specs.Signals.{constant_of}
use Rattle.rtl_ir.specs.Flat.Access.{cell_accesses, next_number, line_mask, write_trigger}
use Rattle.rtl_ir.specs.Flat.Process.{Trigger, edge_trigger, level_trigger}
use Rattle.rtl_ir.specs.Follow.{joins, all_joins, source_at}
use Rattle.rtl_ir.specs.declared.follow.Join.{Join}
use Rattle.rtl_ir.specs.Rules.{acting_rules}
use Rattle.rtl_ir.specs.Build.{Building, building_of, integer_param, bits_param, pin_of, new_cell}

-- what a level rule beside an edge rule gives a bit: nothing, a constant, or a bit of a wire
pub data Class : Type 0 where
  Plain : Class
  Resets : Class
  Loads : Class

-- by what stands on the right of the level rule
abbrev pub class_of : Option SigBit → Class
class_of None = Plain
class_of (Some (Fixed c)) = Resets
class_of (Some (OnWire b)) = Loads

-- the same class
abbrev pub same_class : Class → Class → Bool
same_class Plain Plain = true
same_class Resets Resets = true
same_class Loads Loads = true
same_class a b = false

-- a run of places of an update line that are of one class
pub record Run : Type 0 where
  pub class : Class
  pub places : List Join

-- runs from the left, behind one that has begun and has this length
abbrev pub classed_behind : (Join → Class) → Class → List Join → ℕ → List Join → List Run
classed_behind f class run count [] = record { class = class; places = run } ∷ []
classed_behind f class run count (j ∷ js) =
    if same_class class (f j) && nat_lt count 4096
    then classed_behind f class (run ++ j ∷ []) (count + 1) js
    else record { class = class; places = run } ∷ classed_behind f (f j) (j ∷ []) 1 js

-- the places of an update line as the longest runs of one class, of at most 4,096 bits
abbrev pub classed : (Join → Class) → List Join → List Run
classed f [] = []
classed f (j ∷ js) = classed_behind f (f j) (j ∷ []) 1 js

-- the runs of this class
abbrev pub runs_of : Class → List Run → List Run
runs_of class runs = filter (λ (run : Run). same_class run.class class) runs

-- both sides of places
abbrev pub left_side : List Join → List SigBit
left_side js = map (λ (j : Join). OnWire j.bit) js

abbrev pub right_side : List Join → List SigBit
right_side js = map (λ (j : Join). j.source) js

-- none or one
abbrev pub option_list : Option SigBit → List SigBit
option_list None = []
option_list (Some s) = s ∷ []

-- what the level rule gives these places
abbrev pub level_side : List Join → List Join → List SigBit
level_side levels js = flat_map (λ (j : Join). option_list (source_at levels j.bit)) js

-- the number of a level: 1 where it is the high one
abbrev pub polarity_of : Level → ℕ
polarity_of At.Low = 0
polarity_of At.High = 1

-- the parameters WIDTH and CLK_POLARITY
abbrev pub clocked_params : Trigger → List Join → List CellParam
clocked_params e js =
    integer_param (codes "\\WIDTH") (length js) ∷ integer_param (codes "\\CLK_POLARITY") (polarity_of e.level) ∷ []

-- a run of an edge rule by its class: `$dff`, `$adff` where the level rule gives constants, `$aldff` where it gives wires
abbrev pub loaded_cell : Trigger → Trigger → Class → List SigBit → List Join → Building → Building
loaded_cell e l Plain given js =
    new_cell (codes "$dff") (clocked_params e js)
    (pin_of (codes "\\CLK") e.signal ∷ pin_of (codes "\\D") (right_side js) ∷ pin_of (codes "\\Q") (left_side js) ∷ [])
loaded_cell e l Resets given js =
    new_cell (codes "$adff")
    (clocked_params e js ++ integer_param (codes "\\ARST_POLARITY") (polarity_of l.level) ∷ bits_param (codes "\\ARST_VALUE") (map constant_of given) ∷ [])
    (pin_of (codes "\\CLK") e.signal ∷ pin_of (codes "\\ARST") l.signal ∷ pin_of (codes "\\D") (right_side js) ∷ pin_of (codes "\\Q") (left_side js) ∷ [])
loaded_cell e l Loads given js =
    new_cell (codes "$aldff")
    (clocked_params e js ++ integer_param (codes "\\ALOAD_POLARITY") (polarity_of l.level) ∷ [])
    (pin_of (codes "\\CLK") e.signal ∷ pin_of (codes "\\ALOAD") l.signal ∷ pin_of (codes "\\AD") given ∷ pin_of (codes "\\D") (right_side js) ∷ pin_of (codes "\\Q") (left_side js) ∷ [])

-- a run of an edge rule, beside a level rule that may be there
abbrev pub edge_cell : Trigger → Option Trigger → List Join → Run → Building → Building
edge_cell e None levels run =
    new_cell (codes "$dff") (clocked_params e run.places)
    (pin_of (codes "\\CLK") e.signal ∷ pin_of (codes "\\D") (right_side run.places) ∷ pin_of (codes "\\Q") (left_side run.places) ∷ [])
edge_cell e (Some l) levels run = loaded_cell e l run.class (level_side levels run.places) run.places

-- the steps in order
abbrev pub in_turn : {A : Type 0} → (A → Building → Building) → List A → Building → Building
in_turn step [] b = b
in_turn step (x ∷ xs) b = in_turn step xs (step x b)

-- the update lines of an edge rule, each by its runs
abbrev pub edge_lines : Trigger → Option Trigger → List Join → List Link → Building → Building
edge_lines e l levels lines =
    in_turn (λ (line : Link). in_turn (edge_cell e l levels) (classed (λ (j : Join). class_of (source_at levels j.bit)) (joins line.left line.right))) lines

-- a run of a rule at each step is a `$ff`
abbrev pub global_cell : Run → Building → Building
global_cell run =
    new_cell (codes "$ff") (integer_param (codes "\\WIDTH") (length run.places) ∷ [])
    (pin_of (codes "\\D") (right_side run.places) ∷ pin_of (codes "\\Q") (left_side run.places) ∷ [])

-- a run of a level rule alone is a `$dlatch`
abbrev pub level_cell : Trigger → Run → Building → Building
level_cell l run =
    new_cell (codes "$dlatch")
    (integer_param (codes "\\WIDTH") (length run.places) ∷ integer_param (codes "\\EN_POLARITY") (polarity_of l.level) ∷ [])
    (pin_of (codes "\\EN") l.signal ∷ pin_of (codes "\\D") (right_side run.places) ∷ pin_of (codes "\\Q") (left_side run.places) ∷ [])

-- the places of lines that are asked for, each line by their runs; a place that is not asked for ends a run
abbrev pub plain_lines : (Run → Building → Building) → (Join → Bool) → List Link → Building → Building
plain_lines cell asked lines =
    in_turn (λ (line : Link). in_turn cell (runs_of Plain (classed (λ (j : Join). if asked j then Plain else Loads) (joins line.left line.right)))) lines

-- an edge rule, and then the bits of a level rule that it does not have
abbrev pub edge_and_level : Trigger → List Link → Trigger → List Link → Building → Building
edge_and_level e edges l levels b =
    plain_lines (level_cell l) (λ (j : Join). not (is_some (source_at (all_joins edges) j.bit))) levels
    (edge_lines e (Some l) (all_joins levels) edges b)

-- one rule by its event: an edge, a level, or each step
abbrev pub one_rule : Option Trigger → Option Trigger → Event → List Link → Building → Building
one_rule (Some e) level event lines = edge_lines e None [] lines
one_rule None (Some l) event lines = plain_lines (level_cell l) (λ j. true) lines
one_rule None None Global lines = plain_lines global_cell (λ j. true) lines
one_rule None None event lines = λ b. b

-- an edge rule and a level rule, in either order
abbrev pub two_rules : Option Trigger → Option Trigger → Option Trigger → Option Trigger → List Link → List Link → Building → Building
two_rules (Some e) edge level (Some l) a b = edge_and_level e a l b
two_rules edge (Some e) (Some l) level a b = edge_and_level e b l a
two_rules edge edge' level level' a b = λ x. x

-- the rules of a process that act
abbrev pub rules_step : List SyncRule → Building → Building
rules_step [] = λ b. b
rules_step (a ∷ []) = one_rule (edge_trigger a.event) (level_trigger a.event) a.event a.updates
rules_step (a ∷ b ∷ []) =
    two_rules (edge_trigger a.event) (edge_trigger b.event) (level_trigger a.event) (level_trigger b.event) a.updates b.updates
rules_step (a ∷ b ∷ c ∷ rules) = λ x. x

-- a line that has become a port: its memory and its number
pub record Numbered : Type 0 where
  pub memory : List ℕ
  pub number : ℕ

-- the number of the next line of a memory: the first one behind its cells, and one more for each line before
abbrev pub line_number : Module → List Numbered → List ℕ → ℕ
line_number m before name =
    next_number (cell_accesses name m.cells) + count_by (λ (l : Numbered). bytes_eq l.memory name) before

-- the ports of lines before, those of another memory left out
abbrev pub ports_in : List ℕ → List Numbered → List (Option ℕ)
ports_in name lines = map (λ (l : Numbered). if bytes_eq l.memory name then Some l.number else None) lines

-- a line that writes as a cell, of this number, behind these lines of its rule
abbrev pub write_cell : Event → WriteLine → ℕ → List Numbered → Building → Building
write_cell event line number rule =
    new_cell (codes "$memwr_v2")
    (record { name = codes "\\MEMID"; value = Chars line.memory; signed = false }
    ∷ integer_param (codes "\\ABITS") (length line.address)
    ∷ integer_param (codes "\\WIDTH") (length line.value)
    ∷ integer_param (codes "\\CLK_ENABLE") 1
    ∷ integer_param (codes "\\CLK_POLARITY") (polarity_of (write_trigger event).level)
    ∷ integer_param (codes "\\PORTID") number
    ∷ bits_param (codes "\\PRIORITY_MASK") (line_mask number (ports_in line.memory rule) (value_bits line.mask))
    ∷ [])
    (pin_of (codes "\\CLK") (write_trigger event).signal ∷ pin_of (codes "\\EN") line.enable ∷ pin_of (codes "\\ADDR") line.address ∷ pin_of (codes "\\DATA") line.value ∷ [])

-- what is built, and the lines that have become ports
pub record Writing : Type 0 where
  pub building : Building
  pub numbered : List Numbered

-- the lines of a rule, behind these of the same rule; the numbers count the lines of the module as it was
abbrev pub lines_step : Module → Event → List Numbered → List WriteLine → Writing → Writing
lines_step m event rule [] w = w
lines_step m event rule (line ∷ lines) w =
    let here : Numbered = record { memory = line.memory; number = line_number m w.numbered line.memory } in
    lines_step m event (rule ++ here ∷ []) lines
    (record {
      building = write_cell event line here.number rule w.building;
      numbered = w.numbered ++ here ∷ [];
    })

-- the rules in order
abbrev pub writes_step : Module → List SyncRule → Writing → Writing
writes_step m [] w = w
writes_step m (r ∷ rules) w = writes_step m rules (lines_step m r.event [] r.writes w)

-- all flip-flops and latches, and then all write ports
abbrev pub sync_step : Module → Building → Building
sync_step m b =
    (writes_step m (flat_map (λ (p : Process). p.syncs) m.processes)
    (record { building = in_turn (λ (p : Process). rules_step (acting_rules p.syncs)) m.processes b; numbered = [] })).building

-- the module after the two steps; its processes have no rule
abbrev pub proc_sync_of : Module → Module
proc_sync_of m =
    record (sync_step m (building_of m)).body { processes = map (λ (p : Process). record p { syncs = [] }) m.processes }
