-- Machines get their codes, one after another.
use Rattle.std.proofs.Common.{◌≡◌, ℕ, zero, suc, ◌+◌, Option, Some, None, length, refl, sym, ◌∙◌, ap, subst}
use Rattle.std.specs.Prelude.{slice_get}
use Rattle.std.specs.Option.{option_map_or}
use Rattle.rtl_ir.specs.Flat.Cell as flat
use Rattle.rtl_ir.specs.Flat.Cell.{instances}
use Rattle.rtl_ir.specs.Ports.{ports_of}
use Rattle.rtl_ir.specs.Types.{Ports}
use Rattle.rtl_ir.specs.declared.machine.Machine.{Machine}
use Rattle.rtl_ir.specs.declared.module.Module.{Module}
use Rattle.rtl_ir.specs.declared.wire.Wire.{Wire}
use Rattle.net_model.specs.Fsm.Code.{fsm_of, recoded, recoded_of, wires_recoded}
use Rattle.net_model.specs.Fsm.Find.{machine_of, whole_wire}
use Rattle.net_model.specs.Refine.{IsWellDriven}
use Rattle.pass_laws.specs.OwnNames.{HaveOwnNames}
use Rattle.pass_laws.specs.Ready.{IsReady}
use Rattle.fsm_laws.proofs.Machines.{found_machine}
use Rattle.fsm_laws.proofs.Recoding.{recoded_is}
use Rattle.fsm_laws.specs.Machines.{IsFoundMachine}
use Rattle.fsm_laws.specs.Recoded.{recoded_with}
use Rattle.fsm_laws.proofs.Driven.{next_driven, same_ports}
use Rattle.fsm_laws.proofs.Formed.{same_instances}
use Rattle.fsm_laws.proofs.Readied.{next_ready}
use Rattle.fsm_laws.specs.Short.{AreShort, IsShort, IsShortIf}

-- what is promised of a module after machines of it got their codes: others may follow
pub record IsFormed (ports : Ports) (m n : Module) : Type 0 where
  pub id : m.id ≡ n.id
  pub same_ports : ports_of m.wires ≡ ports_of n.wires
  pub same_instances : instances m.cells ≡ instances n.cells
  pub memories : m.memories ≡ n.memories
  pub processes : m.processes ≡ n.processes
  pub driven : (over : flat.Ports) → IsWellDriven over m → IsWellDriven over n
  pub ready : IsReady ports n
  pub named : HaveOwnNames m → HaveOwnNames n

formed_none : (ports : Ports) (m : Module) → IsReady ports m → IsFormed ports m m
formed_none ports m ready =
    record { id = refl; same_ports = refl; same_instances = refl; memories = refl; processes = refl; driven = λ over h. h; ready = ready; named = λ h. h }

formed_both : (ports : Ports) (a b c : Module) → IsFormed ports a b → IsFormed ports b c → IsFormed ports a c
formed_both ports a b c h k = record {
  id = h.id ∙ k.id;
  same_ports = h.same_ports ∙ k.same_ports;
  same_instances = h.same_instances ∙ k.same_instances;
  memories = h.memories ∙ k.memories;
  processes = h.processes ∙ k.processes;
  driven = λ over d. k.driven over (h.driven over d);
  ready = k.ready;
  named = λ n. k.named (h.named n);
}

-- the machine of a wire
module _ (ports : Ports) (m : Module) (at : ℕ) (machine : Machine) (ready : IsReady ports m) (is : machine_of ports m at ≡ Some machine) (few : IsShort m machine) where
  found : IsFoundMachine ports m at machine
  found = found_machine ports m at machine is

  with_parts : IsFormed ports m (recoded_with m machine (whole_wire at found.wire))
  with_parts = record {
    id = refl;
    same_ports = sym (same_ports ports m at machine ready found few);
    same_instances = sym (same_instances ports m at machine ready found);
    memories = refl;
    processes = refl;
    driven = next_driven ports m at machine ready found few;
    ready = next_ready ports m at machine ready found few;
    named = λ h. h;
  }

  code_is : recoded_of m machine ≡ recoded_with m machine (whole_wire at found.wire)
  code_is =
      ap (λ w. option_map_or (λ (v : Wire). recoded m machine (whole_wire w v)) (slice_get m.wires w) m) (ap (λ (z : Machine). z.wire) found.made)
      ∙ ap (λ o. option_map_or (λ (v : Wire). recoded m machine (whole_wire at v)) o m) found.there
      ∙ recoded_is m machine (whole_wire at found.wire)

  pub one_formed : IsFormed ports m (recoded_of m machine)
  one_formed = subst (IsFormed ports m) (sym code_is) with_parts

-- those of so many wires, one after another
wires_formed : (ports : Ports) (n at : ℕ) (m : Module) → IsReady ports m → AreShort ports at n m → IsFormed ports m (wires_recoded ports at n m)
wires_formed ports zero at m ready short = formed_none ports m ready
wires_formed ports (suc n) at m ready short = by (λ k. wires_formed ports n (at + 1) k) (machine_of ports m at) refl short
  where
    by : ((k : Module) → IsReady ports k → AreShort ports (at + 1) n k → IsFormed ports k (wires_recoded ports (at + 1) n k)) → (o : Option Machine) → machine_of ports m at ≡ o → IsShortIf m o × AreShort ports (at + 1) n (option_map_or (recoded_of m) o m)
        → IsFormed ports m (wires_recoded ports (at + 1) n (option_map_or (recoded_of m) o m))
    by later None e s = later m ready s.1
    by later (Some machine) e s =
        let one : IsFormed ports m (recoded_of m machine) = one_formed ports m at machine ready e s.0 in
        formed_both ports m (recoded_of m machine) (wires_recoded ports (at + 1) n (recoded_of m machine)) one (later (recoded_of m machine) one.ready s.1)

pub all_formed : (ports : Ports) (m : Module) → IsReady ports m → AreShort ports 0 (length m.wires) m → IsFormed ports m (fsm_of ports m)
all_formed ports m = wires_formed ports (length m.wires) 0 m
