use Rattle.std.proofs.Common.{subst}
use Rattle.rtl_ir.specs.Flat.Process.{no_modules}
use Rattle.rtl_ir.specs.Types.{table_ports}
use Rattle.net_index.specs.Types.{AreTypes}
use Rattle.process_trees.proofs.tables.EventTests.of_library.Goals as goal

pub returns : goal.returns
returns c = record {
  value = c.in_ok-tests.ensures.value no_modules (subst (λ ms. AreTypes c.in_ok-types.types (table_ports ms)) c.make.ensures.value c.in_ok-types.ensures.value);
}
