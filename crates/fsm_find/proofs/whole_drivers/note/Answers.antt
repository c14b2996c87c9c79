use Rattle.std.proofs.Common.{◌≡◌, true, sym, ◌∙◌, ap}
use Rattle.rtl_ir.specs.Flat.Cell.{cell_kind}
use Rattle.net_model.specs.Fsm.Find.{at_pin}
use Rattle.fsm_find.specs.WholeDrivers.{is_part}
use Rattle.fsm_find.proofs.Noting.{noted_part}
use Rattle.fsm_find.proofs.whole_drivers.note.Goals as goal

pub returns : goal.returns
returns c =
    let kind : is_part c.args.part (cell_kind c.args.cell.now) ≡ true =
    sym (c.takes.ensures.value ∙ ap (is_part c.args.part) c.cell_kind.ensures.value) ∙ c.if-not-takes.false in
    let signal = c.at_pin.ensures.value ∙ ap (at_pin c.args.cell.now) c.driving_pin.ensures.value in
    record { ok = noted_part c.args.part c.args.drivers.now c.put.new.self c.args.cell.now c.args.at c.at_pin.result.now kind signal c.in_ok-put.ensures.ok }
