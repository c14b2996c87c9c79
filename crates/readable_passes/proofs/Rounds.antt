-- What a text can give, it can give after rounds of folding, merging and cleaning.
use Rattle.std.proofs.Common.{ℕ, zero, suc}
use Rattle.rtl_ir.specs.Types as types
use Rattle.rtl_ir.specs.declared.module.Module.{Module}
use Rattle.rtl_ir.specs.declared.ports.PortTable.{PortTable}
use Rattle.pass_laws.proofs.Faultless.{plain}
use Rattle.pass_laws.specs.Ready.{IsReady}
use Rattle.opt_expr.specs.Sweep.{expr_of}
use Rattle.opt_merge.specs.Merge.{merge_of}
use Rattle.opt_rounds.proofs.Rounding.{round_pass}
use Rattle.opt_rounds.specs.Rounds.{opt_of, round_of, rounds_of}
use Rattle.rtl_readable.specs.Readable.{IsReadableModule}
use Rattle.readable_passes.proofs.Clean.{clean_reads}
use Rattle.readable_passes.proofs.Expr.{expr_reads}
use Rattle.readable_passes.proofs.Merge.{merge_reads}

round_reads : (table : PortTable) (m : Module) → IsReady (types.table_ports table.modules) m → IsReadableModule m → IsReadableModule (round_of (types.table_ports table.modules) m)
unfolding round_of
round_reads table m ready is =
    let folded : Module = expr_of (types.table_ports table.modules) m in
    clean_reads (types.table_ports table.modules) (merge_of folded) (plain (types.table_ports table.modules) m ready.faultless).processes (merge_reads folded (expr_reads table m ready is))

rounds_read : (table : PortTable) (n : ℕ) (m : Module) → IsReady (types.table_ports table.modules) m → IsReadableModule m → IsReadableModule (rounds_of (types.table_ports table.modules) n m)
unfolding rounds_of
rounds_read table zero m ready is = is
rounds_read table (suc n) m ready is = rounds_read table n (round_of (types.table_ports table.modules) m) ((round_pass table m ready).ready ready) (round_reads table m ready is)

pub opt_reads : (table : PortTable) (m : Module) → IsReady (types.table_ports table.modules) m → IsReadableModule m → IsReadableModule (opt_of (types.table_ports table.modules) m)
unfolding opt_of
opt_reads table m ready is = rounds_read table 32 m ready is
