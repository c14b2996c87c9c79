-- What rules add only grows.
use Rattle.std.proofs.Common.{Bool, true, false, List, if◌then◌else◌, refl}
use Rattle.std.specs.Prelude.{length, codes}
use Rattle.cell_types.specs.declared.kind.CellKind.TheVariants.{Storage}
use Rattle.cell_types.specs.declared.storage.StorageKind.TheVariants.{Adff, Aldff, Dff, Dlatch, Ff}
use Rattle.rtl_ir.specs.Build.{Building}
use Rattle.rtl_ir.specs.Flat.Process.{Trigger}
use Rattle.rtl_ir.specs.Follow.{joins}
use Rattle.rtl_ir.specs.declared.follow.Join.{Join}
use Rattle.rtl_ir.specs.declared.module.Link.{Link}
use Rattle.net_model.specs.Proc.Sync.{Class, Plain, Resets, Loads, Run, classed, left_side, level_side, right_side, same_class}
use Rattle.proc_sync.specs.Cells.{clocked_params, clocked_pins, data_pins, enabled_params, enabled_pins, load_params, load_pins, reset_params, reset_pins, width_params}
use Rattle.rtl_ir.specs.Triggers.{trigger_of}
use Rattle.proc_sync.specs.Forms.{dff_cell, dlatch_cell, ff_cell}
use Rattle.proc_sync.specs.Rules.{beside_cell, is_beside, line_step, lines_step, run_cell}
use Rattle.proc_sync.specs.Runs.{class_in}
use Rattle.rtl_ir.specs.declared.trigger.Trigger.{Trigger as RuleTrigger}
use Rattle.proc_sync.specs.declared.rules.Form.{Form}
use Rattle.proc_sync.specs.declared.rules.Form.TheVariants.{AtSteps, AtLevel, AtEdge, Beside}
use Rattle.proc_sync.proofs.Turning.{Grows, cell_grows, grows_none, turn_grows}

ff_grows : (js : List Join) (b : Building) → Grows b (ff_cell js b)
ff_grows js b = cell_grows (codes "$ff") (Storage Ff) refl (width_params (length js)) (data_pins (right_side js) (left_side js)) b

dlatch_grows : (l : Trigger) (js : List Join) (b : Building) → Grows b (dlatch_cell l js b)
dlatch_grows l js b =
    cell_grows (codes "$dlatch") (Storage Dlatch) refl (enabled_params (length js) l.level) (enabled_pins l.signal (right_side js) (left_side js)) b

dff_grows : (e : Trigger) (js : List Join) (b : Building) → Grows b (dff_cell e js b)
dff_grows e js b =
    cell_grows (codes "$dff") (Storage Dff) refl (clocked_params (length js) e.level) (clocked_pins e.signal (right_side js) (left_side js)) b

beside_grows : (e l : RuleTrigger) (class : Class) (levels js : List Join) (b : Building) → Grows b (beside_cell e l class levels js b)
beside_grows e l Plain levels js b = dff_grows (trigger_of e) js b
beside_grows e l Resets levels js b =
    cell_grows (codes "$adff") (Storage Adff) refl (reset_params (length js) e.level l.level (level_side levels js)) (reset_pins e.signal.now l.signal.now (right_side js) (left_side js)) b
beside_grows e l Loads levels js b =
    cell_grows (codes "$aldff") (Storage Aldff) refl (load_params (length js) e.level l.level) (load_pins e.signal.now l.signal.now (level_side levels js) (right_side js) (left_side js)) b

plain_grows : (t : Bool) (step : Building → Building) → ((b : Building) → Grows b (step b)) → (b : Building) → Grows b ((if t then step else λ b. b) b)
plain_grows true step h b = h b
plain_grows false step h b = grows_none b

pub run_grows : (form : Form) (levels : List Join) (run : Run) (b : Building) → Grows b (run_cell form levels run b)
run_grows AtSteps levels run b = plain_grows (same_class run.class Plain) (ff_cell run.places) (ff_grows run.places) b
run_grows (AtLevel l) levels run b =
    plain_grows (same_class run.class Plain) (dlatch_cell (trigger_of l) run.places) (dlatch_grows (trigger_of l) run.places) b
run_grows (AtEdge e) levels run b = dff_grows (trigger_of e) run.places b
run_grows (Beside e l) levels run b = beside_grows e l run.class levels run.places b

pub line_grows : (form : Form) (levels : List Join) (line : Link) (b : Building) → Grows b (line_step form levels line b)
line_grows form levels line b =
    turn_grows (run_cell form levels) (run_grows form levels) (classed (class_in levels (is_beside form)) (joins line.left line.right)) b

pub lines_grow : (form : Form) (levels : List Join) (lines : List Link) (b : Building) → Grows b (lines_step form levels lines b)
lines_grow form levels lines b = turn_grows (line_step form levels) (line_grows form levels) lines b
