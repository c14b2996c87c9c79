-- `opt` leaves gates and instances where there was nothing else.
use Rattle.std.proofs.Common.{ℕ, zero, suc}
use Rattle.rtl_ir.specs.Types.{Ports}
use Rattle.rtl_ir.specs.declared.module.Module.{Module}
use Rattle.opt_expr.specs.Sweep.{expr_of}
use Rattle.opt_merge.specs.Merge.{merge_of}
use Rattle.opt_rounds.specs.Rounds.{opt_of, round_of, rounds_of}
use Rattle.tech_map.specs.Gates.{HasGatesAlone}
use Rattle.gate_laws.proofs.Keeping.{clean_gates, merge_gates}
use Rattle.gate_laws.proofs.Sweeping.{expr_gates}

round_gates : (ports : Ports) (m : Module) → HasGatesAlone m → HasGatesAlone (round_of ports m)
unfolding round_of
round_gates ports m gates = clean_gates ports (merge_of (expr_of ports m)) (merge_gates (expr_of ports m) (expr_gates ports m gates))

rounds_gates : (ports : Ports) (n : ℕ) (m : Module) → HasGatesAlone m → HasGatesAlone (rounds_of ports n m)
unfolding rounds_of
rounds_gates ports zero m gates = gates
rounds_gates ports (suc n) m gates = rounds_gates ports n (round_of ports m) (round_gates ports m gates)

pub opt_gates : (ports : Ports) (m : Module) → HasGatesAlone m → HasGatesAlone (opt_of ports m)
unfolding opt_of
opt_gates ports m gates = rounds_gates ports 32 m gates
