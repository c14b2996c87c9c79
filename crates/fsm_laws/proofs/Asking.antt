-- A machine that is found has what is asked of one that gets its code.
use Rattle.std.proofs.Common.{◌≡◌, ℕ, suc, Bool, true, false, List, [], ◌∷◌, ◌++◌, Some, inl, inr, refl, sym, ◌∙◌, ap}
use Rattle.std.specs.Prelude.{◌==◌, slice_get}
use Rattle.std.proofs.lemmas.Bool.{eqb-true}
use Rattle.rtl_ir.specs.Flat.Cell as flat
use Rattle.rtl_ir.specs.Types.{Ports}
use Rattle.rtl_ir.specs.declared.cell.Cell.{Cell}
use Rattle.rtl_ir.specs.declared.machine.Machine.{Machine}
use Rattle.rtl_ir.specs.declared.module.Module.{Module}
use Rattle.rtl_ir.specs.declared.ports.PortLine.{PortLine}
use Rattle.net_model.specs.Fsm.Find.{has_place}
use Rattle.net_model.specs.Lists.{In}
use Rattle.net_model.specs.Refine.{IsWellDriven}
use Rattle.pass_laws.specs.Ready.{IsReady}
use Rattle.fsm_laws.specs.Machines.{IsFoundMachine}
use Rattle.fsm_laws.specs.Recodes.{IsFlop}
use Rattle.fsm_laws.proofs.Formed.{same_instances, same_memories}
use Rattle.fsm_laws.proofs.CompareFound.{compare_part}
use Rattle.fsm_laws.proofs.FlopFound.{flop_part}
use Rattle.fsm_laws.proofs.ForkFound.{fork_part}
use Rattle.fsm_laws.proofs.FrameFound.{few_found, inner_found, links_found, named_found, states_found, stop_found}
use Rattle.fsm_laws.proofs.MemoriesFound.{memories_free}
use Rattle.fsm_laws.proofs.OtherFound.{other_part}
use Rattle.fsm_laws.proofs.PortsFound.{ports_found}
use Rattle.fsm_laws.proofs.Setting.{IsAsked, IsPart, fresh}

-- what stands in a list stands at a place
place_of : (cells : List Cell) (c : Cell) → In c cells → (k : ℕ) × (slice_get cells k ≡ Some c)
place_of [] c i = absurd i
place_of (d ∷ cells) c (inl e) = (0, ap Some (sym e))
place_of (d ∷ cells) c (inr i) = let later = place_of cells c i in (suc later.0, later.1)

-- no bit has two drivers over ports that agree with those that the module was checked with
module _ (ports : Ports) (m : Module) (at : ℕ) (machine : Machine) (found : IsFoundMachine ports m at machine) (ready : IsReady ports m) (over : flat.Ports) (driven : IsWellDriven over m) (agree : (name : List ℕ) (lines : List PortLine) → ports name ≡ Some lines → over name ≡ lines) where
  flop_there : slice_get m.cells machine.flop ≡ Some found.flop
  flop_there = ap (λ (z : Machine). slice_get m.cells z.flop) found.made ∙ found.flop_there

  -- each cell is the flip-flop, one of the tree, one that compares, or another
  part_found : (k : ℕ) (c : Cell) → slice_get m.cells k ≡ Some c → IsPart ports m at machine found over c
  part_found k c there = by (k == machine.flop) (has_place machine.muxes k) (has_place machine.compares k) refl refl refl
    where
      by : (x y z : Bool) → (k == machine.flop) ≡ x → has_place machine.muxes k ≡ y → has_place machine.compares k ≡ z → IsPart ports m at machine found over c
      by true y z f g h =
          IsFlop (flop_part ports m at machine found ready over driven c (ap (slice_get m.cells) (sym (eqb-true k machine.flop f)) ∙ there))
      by false true z f g h = fork_part ports m at machine found ready over driven k c g there
      by false false true f g h = compare_part ports m at machine found ready over driven k c h there f g
      by false false false f g h = other_part ports m at machine found ready over driven agree k c there f g h

  pub asked : IsAsked ports m at machine found over
  asked = record {
    named = named_found ports m at machine found ready;
    are = states_found ports m at machine found ready;
    few = few_found ports m at machine found ready;
    inner = inner_found ports m at machine found ready;
    stop = stop_found ports m at machine found ready over driven;
    links = links_found ports m at machine found ready over driven;
    ports = ports_found ports m at machine found ready over driven;
    children = sym (same_instances ports m at machine ready found);
    parts = λ c i. let k = place_of m.cells c i in part_found k.0 c k.1;
    flop = found.flop;
    flop_is = flop_part ports m at machine found ready over driven found.flop flop_there;
    memories = λ p. same_memories ports m at machine ready found p (m.wires ++ fresh ports m at machine found) [] m.memories;
    memories_free = memories_free ports m at machine found ready over driven agree;
  }
