-- The parts so far and those of the rest are all.
use Rattle.std.proofs.Common.{◌≡◌, ◌++◌, ◌-◌, ◌≤◌, ℕ, List, length, map, drop}
use Rattle.rtl_sig.specs.declared.sig.SigBit.{SigBit}
use Rattle.rtl_ir.specs.declared.module.Module.{Module}
use Rattle.rtl_ir.specs.Follow.{follow}
use Rattle.rtl_ir.specs.Types.{Ports}
use Rattle.net_model.specs.Fsm.Find.{parts_of}
use Rattle.net_index.specs.Drivers.{AreDrivers}
use Rattle.fsm_parts.proofs.forks.push_parts.Given as goal

pub record Parts (from : ℕ) (signal : List SigBit) (sofar : (ports : Ports) (m : Module) → Type 0) : Type 0 where
  pub within : from ≤ length signal
  pub parts : (ports : Ports) (m : Module) → sofar ports m

abbrev pub invariant-loop-part : goal.invariant-loop-part
invariant-loop-part l = Parts l.from l.signal (λ ports m. AreDrivers l.index ports m → l.arms.items ++ map (map (follow m.links)) (parts_of (length l.signal - l._part) l.width (drop l.from l.signal)) ≡ l.initial.arms.items ++ map (map (follow m.links)) (parts_of (length l.signal) l.width l.signal))
