use Rattle.std.proofs.Common.{◌∙◌, [], sym, ap, subst, flat_map}
use Rattle.std.proofs.lemmas.Result.{err_from_is_err_and}
use Rattle.rtl_ir.specs.Faults.Stores.{store_faults}
use Rattle.rtl_ir.specs.Faults.Wires.{wire_faults}
use Rattle.rtl_ir.specs.Faults.Links.{link_faults}
use Rattle.rtl_check.specs.Finds.{IsFirst}
use Rattle.rtl_ir.specs.Scope.{everything}
use Rattle.rtl_check.proofs.Designs.{finds_bits, first_cell, first_link, first_process}
use Rattle.rtl_check.proofs.module.check_module.Goals as goal

pub returns-in_err-check_cells : goal.returns-in_err-check_cells
returns-in_err-check_cells c = record {
  first = λ ports are.
      let p = err_from_is_err_and c.from_residual-in_err-check_cells.result c.from_residual-in_err-check_cells.ensures.1 in
      let id = c.args.body.now.id in
      rw (p.1, p.2)
      (first_cell c.in_err-check_cells.field-0.0 _ _ _ _ _ _
      (ap (wire_faults id []) (sym c.as_slice.ensures.value) ∙ c.in_ok-check_wires.ensures.first)
      (ap (flat_map (store_faults everything id)) (sym c.as_slice-2.ensures.value) ∙ c.in_ok-check_stores.ensures.first)
      (c.in_err-check_cells.ensures.first ports are));
}

pub returns-in_err-check_processes : goal.returns-in_err-check_processes
returns-in_err-check_processes c = record {
  first = λ ports are.
      let p = err_from_is_err_and c.from_residual-in_err-check_processes.result c.from_residual-in_err-check_processes.ensures.1 in
      let id = c.args.body.now.id in
      rw (p.1, p.2)
      (first_process c.in_err-check_processes.field-0.0 _ _ _ _ _ _
      (ap (wire_faults id []) (sym c.as_slice.ensures.value) ∙ c.in_ok-check_wires.ensures.first)
      (ap (flat_map (store_faults everything id)) (sym c.as_slice-2.ensures.value) ∙ c.in_ok-check_stores.ensures.first)
      (c.in_ok-check_cells.ensures.first ports are)
      (c.in_err-check_processes.ensures.first ports are (c.in_ok-check_cells.ensures.fit ports are) (c.in_ok-check_cells.ensures.noted ports are)));
}

pub returns-in_err-check_links : goal.returns-in_err-check_links
returns-in_err-check_links c = record {
  first = λ ports are.
      let p = err_from_is_err_and c.from_residual-in_err-check_links.result c.from_residual-in_err-check_links.ensures.1 in
      let id = c.args.body.now.id in
      rw (p.1, p.2)
      (first_link c.in_err-check_links.field-0.0 _ _ _ _ _ _
      (ap (wire_faults id []) (sym c.as_slice.ensures.value) ∙ c.in_ok-check_wires.ensures.first)
      (ap (flat_map (store_faults everything id)) (sym c.as_slice-2.ensures.value) ∙ c.in_ok-check_stores.ensures.first)
      (c.in_ok-check_cells.ensures.first ports are)
      (c.in_ok-check_processes.ensures.first ports are (c.in_ok-check_cells.ensures.fit ports are) (c.in_ok-check_cells.ensures.noted ports are))
      (subst (λ ls. IsFirst c.in_err-check_links.field-0.0 (link_faults id 1 ls)) c.as_slice-3.ensures.value c.in_err-check_links.ensures.first));
}

pub returns : goal.returns
returns c = record {
  first = λ ports are.
      let id = c.args.body.now.id in
      finds_bits c.check_bits.result _ _ _ _ _ _
      (ap (wire_faults id []) (sym c.as_slice.ensures.value) ∙ c.in_ok-check_wires.ensures.first)
      (ap (flat_map (store_faults everything id)) (sym c.as_slice-2.ensures.value) ∙ c.in_ok-check_stores.ensures.first)
      (c.in_ok-check_cells.ensures.first ports are)
      (c.in_ok-check_processes.ensures.first ports are (c.in_ok-check_cells.ensures.fit ports are) (c.in_ok-check_cells.ensures.noted ports are))
      (ap (link_faults id 1) (sym c.as_slice-3.ensures.value) ∙ c.in_ok-check_links.ensures.first)
      (c.check_bits.ensures.first ports are);
}
