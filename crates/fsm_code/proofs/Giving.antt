-- What is promised of a module in which a machine has its code.
use Rattle.std.proofs.Common.{◌≡◌, ◌≤◌, ℕ, List, Option, Some, None, Result, Ok, Err, refl, sym, ◌∙◌, ap, subst}
use Rattle.std.specs.Prelude.{IfOk, OnOk, slice_get}
use Rattle.std.specs.Option.{option_map_or}
use Rattle.rtl_sig.specs.declared.sig.SigBit.{SigBit}
use Rattle.rtl_ir.specs.Build.{building_of}
use Rattle.rtl_ir.specs.Ports.{ports_of}
use Rattle.rtl_ir.specs.Types.{Ports, table_ports}
use Rattle.rtl_ir.specs.declared.machine.Machine.{Machine}
use Rattle.rtl_ir.specs.declared.module.Module.{Module}
use Rattle.rtl_ir.specs.declared.ports.PortTable.{PortTable}
use Rattle.rtl_ir.specs.declared.wire.Wire.{Wire}
use Rattle.net_index.specs.Builder.{IsInLimits}
use Rattle.net_index.specs.declared.builder_fault.PassFault.{PassFault}
use Rattle.net_model.specs.Fsm.Code.{recoded, recoded_of}
use Rattle.net_model.specs.Fsm.Find.{machine_of, whole_wire}
use Rattle.net_model.specs.Refine.{RefinesIn}
use Rattle.net_model.proofs.Grown.{ports_more}
use Rattle.fsm_laws.proofs.Machines.{found_machine}
use Rattle.fsm_laws.proofs.Recoding.{recoded_is}
use Rattle.fsm_laws.specs.Recoded.{fresh_wires, recoded_with}
use Rattle.fsm_laws.proofs.Formed.{inner}
use Rattle.fsm_laws.proofs.InTurn.{IsFormed, one_formed}
use Rattle.fsm_laws.proofs.NumbersTaken.{taken}
use Rattle.fsm_laws.specs.Short.{IsShort}
use Rattle.fsm_laws.proofs.MachinesRefined.{recoded_refines}
use Rattle.fsm_code.specs.Limits.{recoding, widened}
use Rattle.fsm_code.specs.Machines.{IsMachineOf}

-- within the limits fresh names are short
pub short_within : (m : Module) (machine : Machine) → IsInLimits (widened m machine) → IsShort m machine
short_within m machine fits = subst (λ n. n ≤ 1000000000) (taken m machine) fits.names

-- the state wire of a machine that is found is there
pub recoding_is : (ports : Ports) (m : Module) (at : ℕ) (machine : Machine) → machine_of ports m at ≡ Some machine → recoding m machine ≡ widened m machine
recoding_is ports m at machine is =
    let found = found_machine ports m at machine is in
    ap (λ k. option_map_or (λ (w : Wire). widened m machine) (slice_get m.wires k) (building_of m)) (ap (λ (x : Machine). x.wire) found.made)
    ∙ ap (λ o. option_map_or (λ (w : Wire). widened m machine) o (building_of m)) found.there

-- what a module has, and has with the parts of its code, it has in the code
pub stays : (P : Module → Type 0) (m : Module) (machine : Machine) → P m → ((state : List SigBit) → P (recoded_with m machine state)) → P (recoded_of m machine)
stays P m machine before after = by (slice_get m.wires machine.wire)
  where
    by : (o : Option Wire) → P (option_map_or (λ (w : Wire). recoded m machine (whole_wire machine.wire w)) o m)
    by None = before
    by (Some w) =
        subst P (sym (recoded_is m machine (whole_wire machine.wire w))) (after (whole_wire machine.wire w))

-- what the call promises
pub record Gives (table : PortTable) (m : Module) (machine : Machine) (n : Module) : Type 0 where
  pub id : n.id ≡ m.id
  pub ports : ports_of n.wires ≡ ports_of m.wires
  pub memories : n.memories ≡ m.memories
  pub formed : IsMachineOf table m machine → IsFormed (table_ports table.modules) m n
  pub refines : IsMachineOf table m machine → RefinesIn m n table

module _ (table : PortTable) (m : Module) (machine : Machine) where
  abbrev ports_in : Ports
  ports_in = table_ports table.modules

  gives : IsInLimits (recoding m machine) → Gives table m machine (recoded_of m machine)
  gives fits = record {
    id = stays (λ n. n.id ≡ m.id) m machine refl (λ state. refl);
    ports = stays (λ n. ports_of n.wires ≡ ports_of m.wires) m machine refl (λ state. ports_more m.wires (fresh_wires m machine) (inner m machine));
    memories = stays (λ n. n.memories ≡ m.memories) m machine refl (λ state. refl);
    formed = λ of. one_formed ports_in m of.at machine of.ready of.is (short_within m machine (subst IsInLimits (recoding_is ports_in m of.at machine of.is) fits));
    refines = λ of. recoded_refines table m of.ready of.at machine of.is;
  }

  -- of what is answered
  pub answer_gives : (Q : Module → Type 0) → ((n : Module) → Gives table m machine n → Q n) → (r : Result Module PassFault)
      → IfOk r (λ after. after ≡ recoded_of m machine) → OnOk r (IsInLimits (recoding m machine)) → IfOk r Q
  answer_gives Q q (Ok after) e fits = q after (subst (Gives table m machine) (sym e) (gives fits))
  answer_gives Q q (Err fault) e fits = tt
