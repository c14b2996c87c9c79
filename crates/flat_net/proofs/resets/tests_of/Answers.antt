use Rattle.rtl_ir.specs.Flat.Process.{no_modules}
use Rattle.std.proofs.Common.{List, subst}
use Rattle.std.specs.List.{AllByRecursion}
use Rattle.rtl_ir.specs.declared.cell.Cell.{Cell}
use Rattle.rtl_ir.specs.declared.ports.ModulePorts.{ModulePorts}
use Rattle.rtl_ir.specs.Types.{cell_type, table_ports}
use Rattle.net_index.specs.Types.{AreTypes}
use Rattle.process_trees.specs.Fitting.{DoesFit}
use Rattle.flat_net.proofs.Results.{if_ok}
use Rattle.flat_net.proofs.resets.tests_of.Goals as goal

pub returns : goal.returns
returns c =
    let types = subst (λ (ms : List ModulePorts). AreTypes c.in_ok-types.types (table_ports ms)) c.make.ensures.value c.in_ok-types.ensures.value in
    let fit = subst (AllByRecursion (λ (x : Cell). DoesFit x (cell_type no_modules x.kind_name))) c.as_slice.ensures.value c.in_ok-fit.ensures.fit in
    record { value = if_ok c.of.result c.of.ensures.value (λ table h. record { tests = h no_modules types; fit = fit }) }
