-- A module in which machines get their codes refines the module.
use Rattle.std.proofs.Common.{◌≡◌, ℕ, zero, suc, ◌+◌, List, [], ◌∷◌, ◌++◌, length, Option, Some, None, inl, inr, refl, sym, ◌∙◌, ap, subst}
use Rattle.std.specs.Prelude.{slice_get, unwrap_or}
use Rattle.std.specs.Option.{option_map_or}
use Rattle.rtl_ir.specs.Flat.Cell as flat
use Rattle.rtl_ir.specs.Flat.Cell.{instances}
use Rattle.rtl_ir.specs.Flat.Tree as tree
use Rattle.rtl_ir.specs.Types as types
use Rattle.rtl_ir.specs.Types.{Ports}
use Rattle.rtl_ir.specs.declared.machine.Machine.{Machine}
use Rattle.rtl_ir.specs.declared.module.Module.{Module}
use Rattle.rtl_ir.specs.declared.ports.PortLine.{PortLine}
use Rattle.rtl_ir.specs.declared.ports.PortTable.{PortTable}
use Rattle.rtl_ir.specs.declared.wire.Wire.{Wire}
use Rattle.net_model.proofs.Composing.{RefinesOver_refl}
use Rattle.net_model.specs.Fsm.Code.{fsm_of, recoded, recoded_of, wires_recoded}
use Rattle.net_model.specs.Fsm.Find.{machine_of, whole_wire}
use Rattle.net_model.specs.Lists.{In}
use Rattle.net_model.specs.Refine.{RefinesIn, RefinesOver, with_body}
use Rattle.pass_laws.proofs.Agreeing.{agree_sym, driven_agree}
use Rattle.pass_laws.proofs.Faultless.{plain}
use Rattle.pass_laws.proofs.Passes.{refines_in_turn}
use Rattle.pass_laws.specs.Ready.{IsReady}
use Rattle.follow_laws.proofs.Tables.{same_ports}
use Rattle.fsm_laws.proofs.Machines.{found_machine}
use Rattle.fsm_laws.proofs.Recoding.{recoded_is}
use Rattle.fsm_laws.proofs.Refined as laws
use Rattle.fsm_laws.specs.Machines.{IsFoundMachine}
use Rattle.fsm_laws.specs.Recoded.{recoded_with}
use Rattle.fsm_laws.proofs.InTurn.{IsFormed, one_formed}
use Rattle.fsm_laws.specs.Short.{AreShort, IsShortIf}
use Rattle.fsm_laws.proofs.Asking.{asked}
use Rattle.fsm_laws.proofs.Setting.{cells, fresh, more, outputs}

in_middle : {A : Type 0} (pre : List A) (b : A) (post : List A) → In b (pre ++ b ∷ post)
in_middle [] b post = inl refl
in_middle (x ∷ pre) b post = inr (in_middle pre b post)

-- over ports that agree with those that the module was checked with
module _ (ports : Ports) (over : flat.Ports) (agree : (name : List ℕ) (lines : List PortLine) → ports name ≡ Some lines → over name ≡ lines) where
  module _ (m : Module) (at : ℕ) (machine : Machine) (ready : IsReady ports m) (is : machine_of ports m at ≡ Some machine) where
    found : IsFoundMachine ports m at machine
    found = found_machine ports m at machine is

    -- no bit of a design has two drivers, so none of the module has
    parts_refine : RefinesOver m (recoded_with m machine (whole_wire at found.wire)) over
    parts_refine = record {
      holds = λ pre post h k ab.
          let all : flat.Ports = tree.design_ports (with_body pre m post) in
          let driven = driven_agree all over m (agree_sym over all (instances m.cells) ab) (h.modules m (in_middle pre m post)) in
          (laws.refines m (fresh ports m at machine found) (cells ports m at machine found) (more ports m at machine found) found.wire.width machine.states (outputs ports m at machine found) (length m.wires) over (plain ports m ready.faultless).processes ready.within (asked ports m at machine found ready over driven agree)).holds pre post h k ab;
    }

    code_is : recoded_of m machine ≡ recoded_with m machine (whole_wire at found.wire)
    code_is =
        ap (λ w. option_map_or (λ (v : Wire). recoded m machine (whole_wire w v)) (slice_get m.wires w) m) (ap (λ (z : Machine). z.wire) found.made)
        ∙ ap (λ o. option_map_or (λ (v : Wire). recoded m machine (whole_wire at v)) o m) found.there
        ∙ recoded_is m machine (whole_wire at found.wire)

    pub one_refines : RefinesOver m (recoded_of m machine) over
    one_refines = subst (λ n. RefinesOver m n over) (sym code_is) parts_refine

  -- the machines of so many wires, one after another
  pub wires_refine : (n at : ℕ) (m : Module) → IsReady ports m → AreShort ports at n m → RefinesOver m (wires_recoded ports at n m) over
  wires_refine zero at m ready short = RefinesOver_refl m over
  wires_refine (suc n) at m ready short = by (λ k. wires_refine n (at + 1) k) (machine_of ports m at) refl short
    where
      by : ((k : Module) → IsReady ports k → AreShort ports (at + 1) n k → RefinesOver k (wires_recoded ports (at + 1) n k) over) → (o : Option Machine) → machine_of ports m at ≡ o → IsShortIf m o × AreShort ports (at + 1) n (option_map_or (recoded_of m) o m)
          → RefinesOver m (wires_recoded ports (at + 1) n (option_map_or (recoded_of m) o m)) over
      by later None e s = later m ready s.1
      by later (Some machine) e s =
          let next : Module = recoded_of m machine in
          let formed : IsFormed ports m next = one_formed ports m at machine ready e s.0 in
          refines_in_turn m next (wires_recoded ports (at + 1) n next) over formed.id formed.same_ports formed.same_instances (λ other _ d. formed.driven other d) (one_refines m at machine ready e) (later next formed.ready s.1)

module _ (table : PortTable) (m : Module) (ready : IsReady (types.table_ports table.modules) m) where
  abbrev ports_in : Ports
  ports_in = types.table_ports table.modules

  agrees : (name : List ℕ) (lines : List PortLine) → ports_in name ≡ Some lines → tree.table_ports table name ≡ lines
  agrees name lines e = same_ports table name ∙ ap (λ o. unwrap_or o []) e

  pub recoded_refines : (at : ℕ) (machine : Machine) → machine_of (types.table_ports table.modules) m at ≡ Some machine → RefinesIn m (recoded_of m machine) table
  recoded_refines at machine is = one_refines ports_in (tree.table_ports table) agrees m at machine ready is

  pub machines_refine : AreShort (types.table_ports table.modules) 0 (length m.wires) m → RefinesIn m (fsm_of (types.table_ports table.modules) m) table
  machines_refine short = wires_refine ports_in (tree.table_ports table) agrees (length m.wires) 0 m ready short
