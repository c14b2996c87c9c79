-- What is accepted is well driven.
use Rattle.std.proofs.Common.{◌≡◌, ℕ, List, [], ◌++◌, append_assoc, sym, ap, subst}
use Rattle.std.specs.Prelude.{flat_map, filter}
use Rattle.rtl_sig.specs.declared.sig.WireBit.{WireBit}
use Rattle.rtl_ir.specs.declared.cell.Cell.{Cell}
use Rattle.rtl_ir.specs.declared.module.Design.{Design}
use Rattle.rtl_ir.specs.declared.module.Module.{Module}
use Rattle.rtl_ir.specs.declared.store.Store.{Store}
use Rattle.rtl_ir.specs.Drivers.{drives_of}
use Rattle.rtl_ir.specs.Faults.{module_faults, faults_within}
use Rattle.rtl_ir.specs.Faults.Bits.{bits_faults}
use Rattle.rtl_ir.specs.Faults.Cells.{cell_faults}
use Rattle.rtl_ir.specs.Faults.Links.{link_faults}
use Rattle.rtl_ir.specs.Faults.Processes.{process_faults}
use Rattle.rtl_ir.specs.Faults.Recursion.{recursion_faults}
use Rattle.rtl_ir.specs.Faults.Stores.{store_faults}
use Rattle.rtl_ir.specs.Faults.Wires.{wire_faults}
use Rattle.rtl_ir.specs.Flat.Cell.{Ports as FlatPorts, instances, cells_rows}
use Rattle.rtl_ir.specs.Flat.Link.{link_rows}
use Rattle.rtl_ir.specs.Flat.Memory.{reading_cells, memories_rows}
use Rattle.rtl_ir.specs.Flat.Place.{Path, Place}
use Rattle.rtl_ir.specs.Flat.Process.{processes_rows}
use Rattle.rtl_ir.specs.Flat.Rows.{rows_of}
use Rattle.rtl_ir.specs.Flat.Start.{start_of}
use Rattle.rtl_ir.specs.Flat.Tree.{design_ports as flat_ports}
use Rattle.rtl_ir.specs.Scope.{Scope}
use Rattle.rtl_ir.specs.Types.{Ports, cell_type, design_ports}
use Rattle.net_model.specs.Lists.{In}
use Rattle.net_model.specs.Refine.{places_of, IsWellDriven, AreWellDriven}
use Rattle.check_laws.specs.Sound.{IsSoundModule, IsSound}
use Rattle.check_laws.proofs.Parts.{IsPart, part_same, part_trans, part_both, part_flip}
use Rattle.check_laws.proofs.Groups.{In-flat, part_split}
use Rattle.check_laws.proofs.Counting.{driven, none_parts, none_each}
use Rattle.check_laws.proofs.Named.{SamePorts, same_ports}
use Rattle.check_laws.proofs.Rows.{pins_bits, cells_bits, links_bits, at_places, links_part, rows_pair, rows_within}
use Rattle.check_laws.proofs.Cells.{reads, other_cells, frames_bits, cells_part}
use Rattle.check_laws.proofs.Memories.{store_words, words, of_store, words_once, memories_part, read_part}
use Rattle.check_laws.proofs.Processes.{processes_own}
use Rattle.check_laws.proofs.WellDriven.{later, later_are, own_bits, IsWord, well_driven}

-- the bits of a module without faults have none
no_bits : (scope : Scope) (ports : Ports) (m : Module) → module_faults scope ports m ≡ [] → bits_faults m.id (drives_of ports m) 0 m.wires ≡ []
no_bits scope ports m none =
    let before =
    wire_faults m.id [] m.wires
    ++ flat_map (store_faults scope m.id) m.memories
    ++ cell_faults scope ports m [] m.cells
    ++ process_faults scope ports m [] m.processes
    ++ link_faults m.id 1 m.links in
    (none_parts before (bits_faults m.id (drives_of ports m) 0 m.wires) none).second

-- what cells, connections and processes drive with what read ports do
order_part : (others reading all links later : List WireBit) → IsPart (others ++ reading) all → IsPart (others ++ (links ++ (later ++ reading))) (all ++ (links ++ later))
order_part others reading all links later h =
    let rest = links ++ later in
    let to : others ++ (links ++ (later ++ reading)) ≡ others ++ (rest ++ reading) = ap (λ z. others ++ z) (sym (append_assoc links later reading)) in
    let from : others ++ (reading ++ rest) ≡ (others ++ reading) ++ rest = sym (append_assoc others reading rest) in
    subst (λ z. IsPart z (all ++ rest)) (sym to)
    (part_trans (others ++ (rest ++ reading)) (others ++ (reading ++ rest)) (all ++ rest)
    (part_both others (rest ++ reading) others (reading ++ rest) (part_same others) (part_flip rest reading))
    (subst (λ z. IsPart z (all ++ rest)) (sym from) (part_both (others ++ reading) rest all rest h (part_same rest))))

module _ (checked : Ports) (ports : FlatPorts) (same : (id : List ℕ) → SamePorts (checked id) (ports id)) (m : Module) (sound : IsSoundModule m) (fine : bits_faults m.id (drives_of checked m) 0 m.wires ≡ []) where
  abbrev more : List WireBit
  more = driven (later checked ports same m sound fine)

  rows_part : (p : Path) → IsPart (places_of (rows_of ports p m)) (at_places p m.wires (own_bits checked ports same m sound fine) ++ (frames_bits ports p (instances m.cells) ++ words m.memories p))
  rows_part p =
      let start = start_of m.wires m.processes in
      let cells = cells_rows start ports p m.wires m.cells in
      let links = link_rows p m.wires m.links in
      let processes = processes_rows start p m.wires m m.processes in
      let memories = memories_rows p m.wires m.cells m.processes m.memories in
      let others = cells_bits checked (other_cells m.cells) in
      let reading = flat_map (λ (s : Store). cells_bits checked (reading_cells s.name m.cells)) m.memories in
      let frames = frames_bits ports p (instances m.cells) in
      let driven_by : IsPart (places_of processes) (at_places p m.wires more ++ []) =
      subst (λ z. IsPart (places_of processes) (at_places p m.wires z ++ [])) (sym (later_are checked ports same m sound fine)) (processes_own start p m.wires m m.processes) in
      let plain : IsPart (places_of (links ++ (processes ++ memories))) (at_places p m.wires (links_bits m.links ++ (more ++ reading)) ++ ([] ++ ([] ++ words m.memories p))) =
      rows_pair p m.wires links (processes ++ memories) (links_bits m.links) (more ++ reading) [] ([] ++ words m.memories p) (links_part p m.wires m.links)
      (rows_pair p m.wires processes memories more reading [] (words m.memories p) driven_by (memories_part checked p m.wires m.cells m.processes m.memories)) in
      let all : IsPart (places_of (cells ++ (links ++ (processes ++ memories)))) (at_places p m.wires (others ++ (links_bits m.links ++ (more ++ reading))) ++ (frames ++ words m.memories p)) =
      rows_pair p m.wires cells (links ++ (processes ++ memories)) others (links_bits m.links ++ (more ++ reading)) frames ([] ++ ([] ++ words m.memories p)) (cells_part checked ports same p m.wires start m.cells) plain in
      let bits = λ (c : Cell). pins_bits (cell_type checked c.kind_name) c.pins in
      let split : IsPart (others ++ reading) (cells_bits checked m.cells) =
      part_trans (others ++ reading) (others ++ cells_bits checked (filter reads m.cells)) (cells_bits checked m.cells)
      (part_both others reading others (cells_bits checked (filter reads m.cells)) (part_same others) (read_part checked m.cells m.memories sound.memories))
      (part_split bits reads m.cells) in
      rows_within p m.wires (rows_of ports p m) (others ++ (links_bits m.links ++ (more ++ reading))) (own_bits checked ports same m sound fine) (frames ++ words m.memories p) all
      (order_part others reading (cells_bits checked m.cells) (links_bits m.links) more split)

  word_at : (p : Path) (q : Place) → In q (words m.memories p) → (q.path ≡ p) × IsWord q.spot
  word_at p q i =
      let s = In-flat (store_words p) q m.memories i in
      let k = of_store p s.0 q s.2 in
      (ap (λ (z : Place). z.path) k.is, subst (λ (z : Place). IsWord z.spot) (sym k.is) tt)

  pub module_well_driven : IsWellDriven ports m
  module_well_driven =
      well_driven checked ports same m sound fine (words m.memories) word_at (words_once m.memories sound.memories) rows_part

-- whatever is taken
pub accepted : (scope : Scope) (d : Design) → IsSound d → faults_within scope d.modules ≡ [] → AreWellDriven d
accepted scope d s e = record {
  ids = s.ids;
  modules = λ m i.
      let none : module_faults scope (design_ports d.modules) m ≡ [] = none_each (module_faults scope (design_ports d.modules)) d.modules (none_parts (flat_map (module_faults scope (design_ports d.modules)) d.modules) (recursion_faults d.modules) e).first m i in
      module_well_driven (design_ports d.modules) (flat_ports d) (same_ports d s) m (s.modules m i) (no_bits scope (design_ports d.modules) m none);
}
