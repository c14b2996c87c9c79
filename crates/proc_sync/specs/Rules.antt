-- Rules, by the forms in which they stand: what their runs become.
use Rattle.std.specs.Prelude.{Bool, true, false, List, if◌then◌else◌}
use Rattle.rtl_ir.specs.Build.{Building}
use Rattle.rtl_ir.specs.Follow.{joins}
use Rattle.rtl_ir.specs.declared.follow.Join.{Join}
use Rattle.rtl_ir.specs.declared.module.Link.{Link}
use Rattle.net_model.specs.Proc.Sync.{Class, Plain, Resets, Loads, Run, classed, in_turn, level_side, same_class}
use Rattle.rtl_ir.specs.Triggers.{trigger_of}
use Rattle.proc_sync.specs.Forms.{adff_cell, aldff_cell, dff_cell, dlatch_cell, ff_cell}
use Rattle.proc_sync.specs.Runs.{class_in}
use Rattle.rtl_ir.specs.declared.trigger.Trigger.{Trigger}
use Rattle.proc_sync.specs.declared.rules.Form.{Form}
use Rattle.proc_sync.specs.declared.rules.Form.TheVariants.{AtSteps, AtLevel, AtEdge, Beside}

-- whether a level rule stands beside an edge rule
abbrev pub is_beside : Form → Bool
is_beside AtSteps = false
is_beside (AtLevel l) = false
is_beside (AtEdge e) = true
is_beside (Beside e l) = true

-- a run of an edge rule beside a level rule
abbrev pub beside_cell : Trigger → Trigger → Class → List Join → List Join → Building → Building
beside_cell e l Plain levels js = dff_cell (trigger_of e) js
beside_cell e l Resets levels js = adff_cell (trigger_of e) (trigger_of l) (level_side levels js) js
beside_cell e l Loads levels js = aldff_cell (trigger_of e) (trigger_of l) (level_side levels js) js

-- a run of a rule of a form; of steps and levels only what is plain
abbrev pub run_cell : Form → List Join → Run → Building → Building
run_cell AtSteps levels run = if same_class run.class Plain then ff_cell run.places else λ b. b
run_cell (AtLevel l) levels run = if same_class run.class Plain then dlatch_cell (trigger_of l) run.places else λ b. b
run_cell (AtEdge e) levels run = dff_cell (trigger_of e) run.places
run_cell (Beside e l) levels run = beside_cell e l run.class levels run.places

-- the runs of a line
abbrev pub line_step : Form → List Join → Link → Building → Building
line_step form levels line =
    in_turn (run_cell form levels) (classed (class_in levels (is_beside form)) (joins line.left line.right))

-- the lines of a rule
abbrev pub lines_step : Form → List Join → List Link → Building → Building
lines_step form levels lines = in_turn (line_step form levels) lines
