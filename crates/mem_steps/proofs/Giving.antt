-- What is promised of a module that `memory` may be given, where no memory passes a limit.
use Rattle.std.proofs.Common.{◌≡◌, ◌≤◌, ℕ, zero, suc, Bool, true, false, cond, List, [], ◌∷◌, length, Some, None, Result, Ok, Err, refl, sym, ◌∙◌, ap, subst}
use Rattle.std.specs.Prelude.{IfOk, OnOk}
use Rattle.std.proofs.lemmas.Bool.{and_parts}
use Rattle.rtl_ir.specs.Build.{Building, building_of}
use Rattle.rtl_ir.specs.Flat.Cell.{cell_kind, instances}
use Rattle.std.proofs.lemmas.Result.{IfOk-weaker}
use Rattle.rtl_ir.specs.Flat.Tree as tree
use Rattle.rtl_ir.specs.Types.{table_ports}
use Rattle.rtl_ir.specs.declared.cell.Cell.{Cell}
use Rattle.rtl_ir.specs.declared.module.Module.{Module}
use Rattle.rtl_ir.specs.declared.ports.PortTable.{PortTable}
use Rattle.rtl_ir.specs.declared.store.Store.{Store}
use Rattle.net_index.specs.declared.builder_fault.PassFault.{PassFault}
use Rattle.net_model.specs.Mem.Expand.{building_without, first_memory, is_memory_kind, memory_of, memory_step}
use Rattle.net_model.specs.Mem.Gather.{gathered}
use Rattle.net_model.specs.Within.{Each}
use Rattle.pass_laws.specs.Pass.{IsPass, StaysDriven}
use Rattle.pass_laws.specs.Ready.{IsReady}
use Rattle.pass_laws.specs.OwnNames.{HaveOwnNames}
use Rattle.memory_laws.specs.Named.{AreShort, IsShort}
use Rattle.memory_laws.proofs.Commuting.{left_out, made_without}
use Rattle.memory_laws.proofs.InTurn.{IsExpanded}
use Rattle.memory_laws.proofs.Turned.{expanded, no_cell, no_memory}
use Rattle.mem_steps.specs.Within.{are_within, first_within, memory_within}
use Rattle.mem_steps.proofs.Turns.{within_limits}

-- within the limits fresh names are short
pub are_short : (k : ℕ) (m : Module) → are_within k m ≡ true → AreShort k m
are_short zero m e = tt
are_short (suc k) m e =
    let both = and_parts (first_within m m.memories) (are_within k (first_memory m m.memories)) e in
    (by m.memories both.0, are_short k (first_memory m m.memories) both.1)
  where
    by : (ss : List Store) → first_within m ss ≡ true → IsShort m ss
    by [] f = tt
    by (s ∷ ss) f =
        let made : Building = memory_step (gathered m 0 s) s (building_without 0 s m) in
        let after : made ≡ left_out 0 s (memory_step (gathered m 0 s) s (building_of m)) = made_without 0 s (gathered m 0 s) m in
        subst (λ (b : Building). b.next ≤ 1000000000) after (within_limits made f).names

-- what the pass promises, where nothing passes a limit
pub record Gives (table : PortTable) (m n : Module) : Type 0 where
  pub pass : IsPass table m n
  pub driven : StaysDriven m n
  pub memories : n.memories ≡ []
  pub cells : Each (λ (c : Cell). is_memory_kind (cell_kind c) ≡ false) n.cells

module _ (table : PortTable) (m : Module) (ready : IsReady (table_ports table.modules) m) (named : HaveOwnNames m) where
  all_given : are_within (length m.memories) m ≡ true → Gives table m (memory_of m)
  all_given e =
      let short : AreShort (length m.memories) m = are_short (length m.memories) m e in
      let is : IsExpanded (table_ports table.modules) (tree.table_ports table) m (memory_of m) = expanded (table_ports table.modules) m ready named short (tree.table_ports table) in
      record {
        pass = record { refines = is.refines; ready = λ h. is.ready; driven = λ over agree. is.driven over; id = is.id; ports = is.same_ports; instances = is.same_instances };
        driven = is.driven;
        memories = no_memory (table_ports table.modules) m ready named short;
        cells = no_cell (table_ports table.modules) m ready named short;
      }

  -- for the pass as one that may answer nothing
  pub memory_gives : (n : Module) → memory_within m ≡ Some n → Gives table m n
  memory_gives n e = by (are_within (length m.memories) m) refl e
    where
      by : (t : Bool) → are_within (length m.memories) m ≡ t → cond t (Some (memory_of m)) None ≡ Some n → Gives table m n
      by true f g = let same : memory_of m ≡ n = cc in subst (Gives table m) same (all_given f)
      by false f g = absurd (cc)

  -- of what is answered
  pub answer_gives : (r : Result Module PassFault) → IfOk r (λ after. memory_within m ≡ Some after) → IfOk r (Gives table m)
  answer_gives r is = IfOk-weaker r (λ after. memory_within m ≡ Some after) (Gives table m) memory_gives is

-- the answer by the limits
module _ (m : Module) where
  pub answered : (r : Result Module PassFault) → IfOk r (λ after. after ≡ memory_of m) → OnOk r (are_within (length m.memories) m ≡ true) → IfOk r (λ after. memory_within m ≡ Some after)
  answered (Ok after) e f = ap (λ t. cond t (Some (memory_of m)) None) f ∙ ap Some (sym e)
  answered (Err fault) e f = tt

  pub passed : are_within (length m.memories) m ≡ false → memory_within m ≡ None
  passed e = ap (λ t. cond t (Some (memory_of m)) None) e
