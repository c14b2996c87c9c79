use Rattle.std.proofs.Common.{None, Some, refl}
use Rattle.net_index.specs.Numbering.{number_of}
use Rattle.net_index.proofs.IndexTables.{none_made}
use Rattle.net_index.proofs.index_table.BitTable.of.Goals as goal

pub returns : goal.returns
returns g c = record {
  none = λ b. none_made c.in_ok-inside.inside.items c.new.result c.count.result (c.in_ok-inside.ensures.items_if_clones_equal (elim [ None ↦ λ h. refl | Some x ↦ λ h. absurd h ])) c.new.ensures.len b (number_of c.in_ok-numbering.numbering b);
}
