-- What the passes with limits leave is within the limits of a text.
use Rattle.std.proofs.Common.{◌≡◌, ℕ, zero, suc, ◌+◌, ◌≤◌, Bool, true, false, if◌then◌else◌, List, [], ◌∷◌, ◌++◌, length, length-append, Option, Some, None, sym, ◌∙◌, ap, subst, append_assoc, arith}
use Rattle.std.specs.Prelude.{◌==◌}
use Rattle.std.specs.Option.{option_map_or}
use Rattle.std.proofs.lemmas.Bool.{and_parts}
use Rattle.std.proofs.lemmas.List.{append-nil}
use Rattle.rtl_sig.specs.declared.sig.SigBit.{SigBit}
use Rattle.rtl_ir.specs.Build.{Building, building_of, first_number, fresh_wire, inner_wire, made_name}
use Rattle.rtl_ir.specs.Flat.Cell.{cell_kind}
use Rattle.rtl_ir.specs.Types.{Ports}
use Rattle.rtl_ir.specs.declared.cell.Cell.{Cell}
use Rattle.rtl_ir.specs.declared.machine.Machine.{Machine}
use Rattle.rtl_ir.specs.declared.module.Module.{Module}
use Rattle.rtl_ir.specs.declared.store.Store.{Store}
use Rattle.rtl_ir.specs.declared.wire.Wire.{Wire}
use Rattle.cell_types.specs.declared.pin_name.PinName.TheVariants.{Y}
use Rattle.net_index.specs.Builder.{IsInLimits, building_from}
use Rattle.net_index.specs.Numbering.{bit_count, widths_of}
use Rattle.net_model.specs.Fsm.Code.{Coding, code_init, coded_flop, coded_fork, fresh_outputs, fsm_of, is_equal, recoded_of, wires_recoded}
use Rattle.net_model.specs.Fsm.Find.{at_pin, has_place, machine_of}
use Rattle.net_model.specs.Mem.Expand.{building_without, first_memory, memories_gone, memory_of, memory_step}
use Rattle.net_model.specs.Mem.Gather.{gathered}
use Rattle.fsm_code.proofs.Giving.{stays}
use Rattle.fsm_code.specs.Limits.{widened}
use Rattle.fsm_laws.specs.Recoded.{asked_bit, cell_made, cells_made, compare_cells, fresh_wires, machine_coding, output_wires}
use Rattle.fsm_steps.specs.Within as machines
use Rattle.fsm_steps.proofs.Turns as machine_turns
use Rattle.mem_steps.specs.Within as memories
use Rattle.mem_steps.proofs.Turns as memory_turns
use Rattle.memory_laws.proofs.Commuting.{left_out, made_without}
use Rattle.rtl_readable.specs.Readable.{IsReadableModule}
use Rattle.readable_passes.proofs.Limits.{counted}

-- a module within the limits on cells and bits
abbrev pub Fits : Module → Type 0
Fits m = IsInLimits (building_from 0 m)

pub readable_fits : (m : Module) → IsReadableModule m → Fits m
readable_fits m is = record {
  cells = omega (arith, is.count);
  bits = omega (arith, is.bits, counted m.wires);
  names = omega arith;
}

-- ---- memories

memory_fits : (m : Module) (ss : List Store) → memories.first_within m ss ≡ true → Fits m → Fits (first_memory m ss)
memory_fits m [] e fits = fits
memory_fits m (s ∷ ss) e fits =
    let made : Building = memory_step (gathered m 0 s) s (building_without 0 s m) in
    let after : Building = left_out 0 s (memory_step (gathered m 0 s) s (building_of m)) in
    let same : made ≡ after = made_without 0 s (gathered m 0 s) m in
    let limits : IsInLimits after = subst IsInLimits same (memory_turns.within_limits made e) in
    record { cells = limits.cells; bits = limits.bits; names = omega arith }

gone_fits : (k : ℕ) (m : Module) → memories.are_within k m ≡ true → Fits m → Fits (memories_gone k m)
gone_fits zero m e fits = fits
gone_fits (suc k) m e fits =
    let next : Module = first_memory m m.memories in
    let both = and_parts (memories.first_within m m.memories) (memories.are_within k next) e in
    gone_fits k next both.1 (memory_fits m m.memories both.0 fits)

pub words_fit : (m : Module) → memories.are_within (length m.memories) m ≡ true → Fits m → Fits (memory_of m)
words_fit m e fits = gone_fits (length m.memories) m e fits

-- ---- machines

outputs_wires : (width : ℕ) (cells : List Cell) (places : List ℕ) (b : Building) → (fresh_outputs width cells places b).1.body.wires ≡ b.body.wires ++ output_wires width b.next places
outputs_wires width cells [] b = sym (append-nil b.body.wires)
outputs_wires width cells (at ∷ places) b =
    let wire : Wire = inner_wire (made_name b.next) width [] in
    outputs_wires width cells places (fresh_wire width [] b).1 ∙ append_assoc b.body.wires (wire ∷ []) (output_wires width (b.next + 1) places)

widened_wires : (m : Module) (machine : Machine) → (widened m machine).body.wires ≡ m.wires ++ fresh_wires m machine
widened_wires m machine =
    let width : ℕ = length machine.states in
    let wire : Wire = inner_wire (made_name (first_number m)) width (code_init machine.states machine.start) in
    outputs_wires width m.cells machine.muxes (fresh_wire width (code_init machine.states machine.start) (building_of m)).1
    ∙ append_assoc m.wires (wire ∷ []) (output_wires width (first_number m + 1) machine.muxes)

module _ (m : Module) (machine : Machine) (c : Coding) where
  compare_few : (cell : Cell) (t : Bool) (bit : Option SigBit) (ys : List SigBit) → length (compare_cells cell t bit ys) ≤ 1
  compare_few cell true bit ys = omega arith
  compare_few cell false None ys = omega arith
  compare_few cell false (Some bit) [] = omega arith
  compare_few cell false (Some bit) (y ∷ ys) = omega arith

  cell_few : (at : ℕ) (cell : Cell) → length (cell_made m machine c at cell) ≤ 1
  cell_few at cell = by (at == machine.flop) (has_place machine.muxes at) (has_place machine.compares at)
    where
      by : (s t u : Bool)
          → length (if s then coded_flop m c machine.reset cell ∷ [] else if t then coded_fork m c cell ∷ [] else if u then compare_cells cell (is_equal (cell_kind cell)) (asked_bit m c cell) (at_pin cell Y) else cell ∷ []) ≤ 1
      by true t u = omega arith
      by false true u = omega arith
      by false false true = compare_few cell (is_equal (cell_kind cell)) (asked_bit m c cell) (at_pin cell Y)
      by false false false = omega arith

  cells_few : (at : ℕ) (cells : List Cell) → length (cells_made m machine c at cells) ≤ length cells
  cells_few at [] = omega arith
  cells_few at (cell ∷ cells) =
      omega (arith, length-append (cell_made m machine c at cell) (cells_made m machine c (at + 1) cells), cell_few at cell, cells_few (at + 1) cells)

machine_fits : (m : Module) (machine : Machine) → IsInLimits (widened m machine) → Fits m → Fits (recoded_of m machine)
machine_fits m machine limits fits =
    stays Fits m machine fits (λ state.
    let grown : bit_count (widths_of (widened m machine).body.wires) ≡ bit_count (widths_of (m.wires ++ fresh_wires m machine)) = ap (λ (ws : List Wire). bit_count (widths_of ws)) (widened_wires m machine) in
    record {
      cells = omega (arith, fits.cells, cells_few m machine (machine_coding m machine state) 0 m.cells);
      bits = omega (arith, limits.bits, grown);
      names = omega arith;
    })

wires_fit : (ports : Ports) (n at : ℕ) (m : Module) → machines.are_within ports at n m ≡ true → Fits m → Fits (wires_recoded ports at n m)
wires_fit ports zero at m e fits = fits
wires_fit ports (suc n) at m e fits =
    let next : Module = option_map_or (recoded_of m) (machine_of ports m at) m in
    let both = and_parts (machines.machine_within m (machine_of ports m at)) (machines.are_within ports (at + 1) n next) e in
    wires_fit ports n (at + 1) next both.1 (by (machine_of ports m at) both.0)
  where
    by : (o : Option Machine) → machines.machine_within m o ≡ true → Fits (option_map_or (recoded_of m) o m)
    by None f = fits
    by (Some machine) f = machine_fits m machine (machine_turns.within_limits (widened m machine) f) fits

pub codes_fit : (ports : Ports) (m : Module) → machines.are_within ports 0 (length m.wires) m ≡ true → Fits m → Fits (fsm_of ports m)
codes_fit ports m e fits = wires_fit ports (length m.wires) 0 m e fits
