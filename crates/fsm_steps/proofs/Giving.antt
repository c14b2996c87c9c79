-- What is promised of a module that `fsm` may be given, where no machine passes a limit.
use Rattle.std.proofs.Common.{◌≡◌, ◌+◌, ℕ, zero, suc, Bool, true, false, cond, length, Option, Some, None, Result, Ok, Err, refl, sym, ◌∙◌, ap, subst}
use Rattle.std.specs.Prelude.{IfOk, OnOk}
use Rattle.std.specs.Option.{option_map_or}
use Rattle.std.proofs.lemmas.Bool.{and_parts}
use Rattle.std.proofs.lemmas.Result.{IfOk-weaker}
use Rattle.rtl_ir.specs.Types.{Ports, table_ports}
use Rattle.rtl_ir.specs.declared.machine.Machine.{Machine}
use Rattle.rtl_ir.specs.declared.module.Module.{Module}
use Rattle.rtl_ir.specs.declared.ports.PortTable.{PortTable}
use Rattle.net_index.specs.declared.builder_fault.PassFault.{PassFault}
use Rattle.net_model.specs.Fsm.Code.{fsm_of, recoded_of}
use Rattle.net_model.specs.Fsm.Find.{machine_of}
use Rattle.pass_laws.specs.Pass.{IsPass, StaysDriven}
use Rattle.pass_laws.specs.Ready.{IsReady}
use Rattle.fsm_code.proofs.Giving.{short_within}
use Rattle.fsm_code.specs.Limits.{widened}
use Rattle.fsm_laws.specs.Short.{AreShort, IsShortIf}
use Rattle.fsm_laws.proofs.InTurn.{IsFormed, all_formed}
use Rattle.fsm_laws.proofs.MachinesRefined.{machines_refine}
use Rattle.fsm_steps.specs.Within.{are_within, fsm_within, machine_within}
use Rattle.fsm_steps.specs.declared.Recoded.{Recoded}
use Rattle.fsm_steps.proofs.Turns.{within_limits}

-- within the limits fresh names are short
short_if : (m : Module) (o : Option Machine) → machine_within m o ≡ true → IsShortIf m o
short_if m None e = tt
short_if m (Some machine) e = short_within m machine (within_limits (widened m machine) e)

pub are_short : (ports : Ports) (at n : ℕ) (m : Module) → are_within ports at n m ≡ true → AreShort ports at n m
are_short ports at zero m e = tt
are_short ports at (suc n) m e =
    let next : Module = option_map_or (recoded_of m) (machine_of ports m at) m in
    let both = and_parts (machine_within m (machine_of ports m at)) (are_within ports (at + 1) n next) e in
    (short_if m (machine_of ports m at) both.0, are_short ports (at + 1) n next both.1)

-- what the pass promises, where nothing passes a limit
pub record Gives (table : PortTable) (m n : Module) : Type 0 where
  pub pass : IsPass table m n
  pub driven : StaysDriven m n
  pub memories : n.memories ≡ m.memories

module _ (table : PortTable) (m : Module) (ready : IsReady (table_ports table.modules) m) where
  all_given : are_within (table_ports table.modules) 0 (length m.wires) m ≡ true → Gives table m (fsm_of (table_ports table.modules) m)
  all_given e =
      let short : AreShort (table_ports table.modules) 0 (length m.wires) m = are_short (table_ports table.modules) 0 (length m.wires) m e in
      let is : IsFormed (table_ports table.modules) m (fsm_of (table_ports table.modules) m) = all_formed (table_ports table.modules) m ready short in
      record {
        pass = record {
          refines = machines_refine table m ready short;
          ready = λ h. is.ready;
          driven = λ over agree. is.driven over;
          id = is.id;
          ports = is.same_ports;
          instances = is.same_instances;
        };
        driven = is.driven;
        memories = sym is.memories;
      }

  -- for the pass as one that may answer nothing
  pub fsm_gives : (n : Module) → fsm_within (table_ports table.modules) m ≡ Some n → Gives table m n
  fsm_gives n e = by (are_within (table_ports table.modules) 0 (length m.wires) m) refl e
    where
      by : (s : Bool) → are_within (table_ports table.modules) 0 (length m.wires) m ≡ s → cond s (Some (fsm_of (table_ports table.modules) m)) None ≡ Some n → Gives table m n
      by true f g = let same : fsm_of (table_ports table.modules) m ≡ n = cc in subst (Gives table m) same (all_given f)
      by false f g = absurd (cc)

  -- of what is answered
  pub answer_gives : (r : Result Recoded PassFault) → IfOk r (λ (done : Recoded). fsm_within (table_ports table.modules) m ≡ Some done.after) → IfOk r (λ (done : Recoded). Gives table m done.after)
  answer_gives r is = IfOk-weaker r (λ (done : Recoded). fsm_within (table_ports table.modules) m ≡ Some done.after) (λ (done : Recoded). Gives table m done.after) (λ (done : Recoded) e. fsm_gives done.after e) is

-- the answer by the limits
module _ (ports : Ports) (m : Module) where
  pub answered : (r : Result Recoded PassFault) → IfOk r (λ (done : Recoded). done.after ≡ fsm_of ports m) → OnOk r (are_within ports 0 (length m.wires) m ≡ true) → IfOk r (λ (done : Recoded). fsm_within ports m ≡ Some done.after)
  answered (Ok after) e f = ap (λ t. cond t (Some (fsm_of ports m)) None) f ∙ ap Some (sym e)
  answered (Err fault) e f = tt

  pub passed : are_within ports 0 (length m.wires) m ≡ false → fsm_within ports m ≡ None
  passed e = ap (λ t. cond t (Some (fsm_of ports m)) None) e
