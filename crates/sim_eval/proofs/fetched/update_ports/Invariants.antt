-- The ports so far were read.
use Rattle.std.proofs.Common.{◌≡◌, List, length, take}
use Rattle.std.specs.Prelude.{flat_map}
use Rattle.std.specs.List.{AllByRecursion}
use Rattle.rtl_ir.specs.Flat.Place.{Place}
use Rattle.net_model.specs.Run.{Time}
use Rattle.flat_net.specs.Points.{AreApart}
use Rattle.flat_net.specs.Within.{IsFetchedWithin, IsReadPortWithin}
use Rattle.flat_net.specs.Words.{port_rows}
use Rattle.sim_eval.specs.Advance.{Advances, AreFewer}
use Rattle.sim_eval.proofs.fetched.update_ports.Given as goal

abbrev pub invariant-loop-port : goal.invariant-loop-port
invariant-loop-port l = record {
  fewer : AreFewer l.fn.now l.now l.changed;
  advances : (ps : List Place) → AreApart ps → length ps ≡ length l.fn.now → IsFetchedWithin (length ps) l.fetched → AllByRecursion (IsReadPortWithin (length ps)) l.ports → (t : Time Place) → Advances ps t (flat_map (port_rows ps l.fetched) (take l.port-index l.ports)) l.fn.now l.now l.changed;
}
