use Rattle.std.proofs.Common.{◌∙◌, sym}
use Rattle.opt_merge.proofs.Sofar.{cell_reads, none_reads}
use Rattle.opt_merge.proofs.reading.add_cell.Goals as goal

pub returns-in_ok-add_inputs-in-Some-clause-reads : goal.returns-in_ok-add_inputs-in-Some-clause-reads
returns-in_ok-add_inputs-in-Some-clause-reads c = λ links are.
    cell_reads c.add_inputs.new.readers links c.args.at c.args.cell.now c.in-Some.kind c.input_pins.result.now c.as_slice.result.now (sym c.in_ok-kind.ensures.value ∙ c.in-Some.is) c.input_pins.ensures.value c.as_slice.ensures.value (c.in_ok-add_inputs-in-Some.ensures.reads links are)

pub returns-in-None-clause-reads : goal.returns-in-None-clause-reads
returns-in-None-clause-reads c = λ links are.
    none_reads c.args.readers.now links c.args.at c.args.cell.now (sym c.in_ok-kind.ensures.value ∙ c.in-None.is)
