-- All steps of `proc`.
use Rattle.rtl_ir.specs.declared.module.Module.{Module}
use Rattle.rtl_ir.specs.Types.{Ports}
use Rattle.net_model.specs.Proc.Start.{proc_tree_of}
use Rattle.net_model.specs.Proc.Reset.{proc_reset_of}
use Rattle.net_model.specs.Proc.Latch.{proc_latch_of}
use Rattle.net_model.specs.Proc.Sync.{proc_sync_of}
use Rattle.net_model.specs.Proc.Mux.{proc_mux_of}

-- switches and start values, resets, latches, flip-flops and write ports, multiplexers
abbrev pub proc_of : Ports → Module → Module
proc_of ports m = proc_mux_of (proc_sync_of (proc_latch_of (proc_reset_of ports (proc_tree_of m))))
