use Rattle.std.proofs.Common.{List, ap, ◌∙◌}
use Rattle.rtl_ir.specs.declared.ports.ModulePorts.{ModulePorts}
use Rattle.rtl_write.specs.PortTables.{modules_of}
use Rattle.rtl_write.proofs.PortLemmas.{table_back}
use Rattle.rtl_write.proofs.port_table.read_ports.Goals as goal

pub returns : goal.returns
returns c = record {
  round_trip = λ table are text.
      ap (λ (ms : List ModulePorts). record { modules = ms }) (c.from_vec.ensures.value ∙ c.in_ok-modules_of.ensures.value ∙ ap modules_of text ∙ table_back table are);
}
