-- The machines of a module in the code with one bit for each state leave a module that a text can give.
use Rattle.std.proofs.Common.{◌≡◌, ℕ, zero, suc, ◌+◌, ◌*◌, ◌≤◌, Bool, true, false, if◌then◌else◌, List, [], ◌∷◌, length, Option, Some, None, refl, ◌∙◌, arith}
use Rattle.std.specs.Prelude.{◌==◌, slice_get}
use Rattle.std.specs.Option.{option_map_or}
use Rattle.std.proofs.lemmas.Bool.{leb-true}
use Rattle.cell_types.specs.declared.pin_name.PinName.TheVariants.{A, B, Y}
use Rattle.rtl_sig.specs.declared.sig.SigBit.{SigBit}
use Rattle.rtl_ir.specs.Build.{Building, building_of, fresh_wire}
use Rattle.rtl_ir.specs.Flat.Cell.{cell_kind}
use Rattle.rtl_ir.specs.Types.{Ports}
use Rattle.rtl_ir.specs.declared.cell.Cell.{Cell}
use Rattle.rtl_ir.specs.declared.machine.Machine.{Machine}
use Rattle.rtl_ir.specs.declared.module.Module.{Module}
use Rattle.rtl_ir.specs.declared.wire.Wire.{Wire}
use Rattle.net_model.specs.Fsm.Code.{Coding, code_init, coded_cell, coded_cells, coded_compare, coded_flop, coded_fork, compared, fresh_outputs, fsm_of, is_equal, link_all, recoded, recoded_of, state_bit, wires_recoded}
use Rattle.net_model.specs.Fsm.Find.{at_pin, fits_code, has_place, machine_of, parts_of, whole_wire}
use Rattle.pass_laws.specs.Ready.{IsReady}
use Rattle.fsm_laws.proofs.Asked.{IsAsked, asked_of}
use Rattle.fsm_laws.proofs.InTurn.{one_formed}
use Rattle.fsm_laws.proofs.Machines.{found_machine}
use Rattle.fsm_laws.proofs.Places.{cells_all}
use Rattle.fsm_laws.specs.Short.{AreShort, IsShort, IsShortIf}
use Rattle.readable_laws.specs.Extends.{HasReadableItems}
use Rattle.readable_passes.proofs.Fsm.{coding, outputs, recoded_reads}

-- cells in the code take no fresh name
link_next : (left right : List SigBit) (b : Building) → (link_all left right b).next ≡ b.next
link_next [] right b = refl
link_next (l ∷ left) right b = refl

compare_next : (m : Module) (c : Coding) (cell : Cell) (t : Bool) (bit : Option SigBit) (ys : List SigBit) (b : Building) → (coded_compare m c cell t bit ys b).1.next ≡ b.next
compare_next m c cell true bit ys b = link_next ys _ b
compare_next m c cell false None ys b = link_next ys _ b
compare_next m c cell false (Some bit) [] b = refl
compare_next m c cell false (Some bit) (y ∷ ys) b = link_next ys _ b

cell_next : (m : Module) (machine : Machine) (c : Coding) (at : ℕ) (cell : Cell) (b : Building) → (coded_cell m machine c at cell b).1.next ≡ b.next
cell_next m machine c at cell b = by (at == machine.flop) (has_place machine.muxes at) (has_place machine.compares at)
  where
    by : (s t u : Bool)
        → (if s then (coded_flop m c machine.reset cell ∷ [], b) else if t then (coded_fork m c cell ∷ [], b) else if u then coded_compare m c cell (is_equal (cell_kind cell)) (state_bit c.states c.code (compared m c cell)) (at_pin cell Y) b else (cell ∷ [], b)).1.next ≡ b.next
    by true t u = refl
    by false true u = refl
    by false false true = compare_next m c cell (is_equal (cell_kind cell)) (state_bit c.states c.code (compared m c cell)) (at_pin cell Y) b
    by false false false = refl

cells_next : (m : Module) (machine : Machine) (c : Coding) (at : ℕ) (cells : List Cell) (b : Building) → (coded_cells m machine c at cells b).1.next ≡ b.next
cells_next m machine c at [] b = refl
cells_next m machine c at (cell ∷ cells) b =
    cells_next m machine c (at + 1) cells (coded_cell m machine c at cell b).1 ∙ cell_next m machine c at cell b

outputs_next : (n : ℕ) (cells : List Cell) (places : List ℕ) (b : Building) → (fresh_outputs n cells places b).1.next ≡ b.next + length places
outputs_next n cells [] b = omega arith
outputs_next n cells (at ∷ places) b = omega (arith, outputs_next n cells places (fresh_wire n [] b).1)

module _ (ports : Ports) (m : Module) (at : ℕ) (machine : Machine) (is : machine_of ports m at ≡ Some machine) (short : IsShort m machine) (reads : HasReadableItems m) where
  asked : IsAsked m machine
  asked = asked_of ports m at machine (found_machine ports m at machine is)

  taken : (state : List SigBit) → (coded_cells m machine (coding m machine state (omega (arith, asked.two)) asked.few) 0 m.cells (outputs m machine state (omega (arith, asked.two)) asked.few).1).1.next ≤ 1000000000
  taken state =
      let start : Building = (outputs m machine state (omega (arith, asked.two)) asked.few).1 in
      let last = cells_next m machine (coding m machine state (omega (arith, asked.two)) asked.few) 0 m.cells start in
      let more = outputs_next (length machine.states) m.cells machine.muxes (fresh_wire (length machine.states) (code_init machine.states machine.start) (building_of m)).1 in
      omega (arith, last, more, short)

  pub machine_reads : HasReadableItems (recoded_of m machine)
  machine_reads = by (slice_get m.wires machine.wire)
    where
      by : (o : Option Wire) → HasReadableItems (option_map_or (λ (w : Wire). recoded m machine (whole_wire machine.wire w)) o m)
      by None = reads
      by (Some w) =
          recoded_reads m machine (whole_wire machine.wire w) (omega (arith, asked.two)) asked.few
          (λ k cell there t. leb-true (length (parts_of (length (at_pin cell B)) (length (at_pin cell A)) (at_pin cell B)) * length machine.states) 4096 (cells_all (fits_code (length machine.states)) m.cells machine.muxes k cell asked.fits t there))
          reads (taken (whole_wire machine.wire w))

wires_read : (ports : Ports) (n at : ℕ) (m : Module) → IsReady ports m → AreShort ports at n m → HasReadableItems m → HasReadableItems (wires_recoded ports at n m)
wires_read ports zero at m ready short reads = reads
wires_read ports (suc n) at m ready short reads = by (λ k. wires_read ports n (at + 1) k) (machine_of ports m at) refl short
  where
    by : ((k : Module) → IsReady ports k → AreShort ports (at + 1) n k → HasReadableItems k → HasReadableItems (wires_recoded ports (at + 1) n k)) → (o : Option Machine) → machine_of ports m at ≡ o → IsShortIf m o × AreShort ports (at + 1) n (option_map_or (recoded_of m) o m)
        → HasReadableItems (wires_recoded ports (at + 1) n (option_map_or (recoded_of m) o m))
    by later None e s = later m ready s.1 reads
    by later (Some machine) e s =
        later (recoded_of m machine) (one_formed ports m at machine ready e s.0).ready s.1 (machine_reads ports m at machine e s.0 reads)

-- all of them, in order of their wires
pub fsm_reads : (ports : Ports) (m : Module) → IsReady ports m → AreShort ports 0 (length m.wires) m → HasReadableItems m → HasReadableItems (fsm_of ports m)
fsm_reads ports m ready short reads = wires_read ports (length m.wires) 0 m ready short reads
