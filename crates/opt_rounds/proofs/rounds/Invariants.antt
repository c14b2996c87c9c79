use Rattle.std.proofs.Common.{◌≡◌, ◌-◌}
use Rattle.rtl_ir.specs.Flat.Tree as flat
use Rattle.rtl_ir.specs.Types.{table_ports}
use Rattle.net_model.specs.Refine.{IsWellDriven}
use Rattle.pass_laws.specs.Ready.{IsReady}
use Rattle.opt_rounds.specs.Rounds.{opt_of, rounds_of}
use Rattle.opt_rounds.proofs.rounds.Given as goal

-- the rounds that are left make of the module what all rounds make of the first
abbrev pub invariant-loop-round : goal.invariant-loop-round
invariant-loop-round l =
    (rounds_of (table_ports l.ports.modules) (32 - l._round) l.module ≡ opt_of (table_ports l.ports.modules) l.fn.module)
    × IsReady (table_ports l.ports.modules) l.module
    × IsWellDriven (flat.table_ports l.ports) l.module
