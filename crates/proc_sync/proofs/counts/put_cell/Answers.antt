use Rattle.std.proofs.Common.{◌≡◌, true, sym, ◌∙◌, ap, arith}
use Rattle.cell_types.specs.Given.{number_in}
use Rattle.cell_types.specs.declared.param_name.ParamName.TheVariants.{Portid}
use Rattle.rtl_ir.specs.Parameters.{given_params, memory_name}
use Rattle.rtl_ir.specs.WritePorts.{is_write_cell}
use Rattle.proc_sync.proofs.Counting.{cell_put}
use Rattle.proc_sync.proofs.counts.put_cell.Goals as goal

pub returns-in_ok-insert-in-Some : goal.returns-in_ok-insert-in-Some
returns-in_ok-insert-in-Some c = record {
  ok =
      let write : is_write_cell c.args.cell.now.kind_name ≡ true = sym (ap is_write_cell c.as_slice.ensures.value) ∙ sym c.is_write_cell.ensures.value ∙ grind (arith, c.if-not-is_write_cell.false) in
      cell_put c.args.counts.now c.insert.new.self c.in-Some.memory c.in_ok-number-in-Some.number c.max-next.result c.args.cell.now (record { updates = c.in_ok-insert-in-Some.ensures.updates }) write (ap memory_name (sym c.as_slice-2.ensures.value) ∙ sym c.in-Some.ensures.value) (c.in_ok-number-in-Some.ensures.value ∙ ap (λ ps. number_in (given_params ps) Portid) c.as_slice-in-Some.ensures.value)
      (cc (c.max-next.ensures, c.count_of.ensures.value));
}
