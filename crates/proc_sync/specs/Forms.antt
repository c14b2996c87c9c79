-- What runs become, by the form of their rules.
use Rattle.std.specs.Prelude.{List, length, codes}
use Rattle.rtl_sig.specs.declared.sig.SigBit.{SigBit}
use Rattle.rtl_ir.specs.Build.{Building, new_cell}
use Rattle.rtl_ir.specs.Flat.Process.{Trigger}
use Rattle.rtl_ir.specs.declared.follow.Join.{Join}
use Rattle.net_model.specs.Proc.Sync.{left_side, right_side}
use Rattle.proc_sync.specs.Cells.{clocked_params, clocked_pins, data_pins, enabled_params, enabled_pins, load_params, load_pins, reset_params, reset_pins, width_params}

-- a cell of each kind
abbrev pub ff_cell : List Join → Building → Building
ff_cell js = new_cell (codes "$ff") (width_params (length js)) (data_pins (right_side js) (left_side js))

abbrev pub dlatch_cell : Trigger → List Join → Building → Building
dlatch_cell l js =
    new_cell (codes "$dlatch") (enabled_params (length js) l.level) (enabled_pins l.signal (right_side js) (left_side js))

abbrev pub dff_cell : Trigger → List Join → Building → Building
dff_cell e js =
    new_cell (codes "$dff") (clocked_params (length js) e.level) (clocked_pins e.signal (right_side js) (left_side js))

abbrev pub adff_cell : Trigger → Trigger → List SigBit → List Join → Building → Building
adff_cell e l given js =
    new_cell (codes "$adff") (reset_params (length js) e.level l.level given) (reset_pins e.signal l.signal (right_side js) (left_side js))

abbrev pub aldff_cell : Trigger → Trigger → List SigBit → List Join → Building → Building
aldff_cell e l given js =
    new_cell (codes "$aldff") (load_params (length js) e.level l.level) (load_pins e.signal l.signal given (right_side js) (left_side js))
