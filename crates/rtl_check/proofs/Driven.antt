-- The bits that are driven in a module.
use Rattle.std.proofs.Common.{◌≡◌, ℕ, ◌+◌, min, Bool, true, false, cond, List, [], ◌∷◌, ◌++◌, length, map, flat_map, take, refl, ◌∙◌, ap}
use Rattle.std.proofs.Math.Nat.{min-zero, suc-min-suc, zero-min}
use Rattle.std.proofs.lemmas.List.{map-append}
use Rattle.rtl_sig.specs.declared.sig.SigBit.{SigBit}
use Rattle.rtl_sig.specs.declared.sig.SigBit.TheVariants as sig
use Rattle.rtl_sig.specs.declared.sig.WireBit.{WireBit}
use Rattle.rtl_ir.specs.declared.cell.Cell.{Cell}
use Rattle.rtl_ir.specs.declared.cell.Pin.{Pin}
use Rattle.rtl_ir.specs.declared.module.Link.{Link}
use Rattle.rtl_ir.specs.declared.module.Module.{Module}
use Rattle.rtl_ir.specs.declared.process.Process.{Process}
use Rattle.rtl_ir.specs.declared.wire.Wire.{Wire}
use Rattle.rtl_ir.specs.Assigns.{tree_bits}
use Rattle.rtl_ir.specs.Drivers.{Source, Drive, FromPort, FromCell, FromLink, FromTree, FromRules, all_by, port_drives, places_by, pin_drives, cell_drives, link_drives, drives_of, tree_drives, rule_drives, is_input}
use Rattle.rtl_ir.specs.Follow.{joins, all_joins}
use Rattle.rtl_ir.specs.declared.follow.Join.{Join}
use Rattle.rtl_ir.specs.Outputs.{drives_pin}
use Rattle.rtl_ir.specs.Rules.{updated_bits}
use Rattle.rtl_ir.specs.Signals.{bits_of_wire, wire_bits}
use Rattle.rtl_ir.specs.Types.{CellType, Ports, cell_type}
use Rattle.rtl_check.specs.Tallies.{bits_of_cell, bits_of_link, bits_of_pin, bits_of_rules, bits_of_tree, port_bits}
use Rattle.rtl_check.proofs.Telling.{driven}

driven-append : (xs ys : List Drive) → driven (xs ++ ys) ≡ driven xs ++ driven ys
driven-append xs ys = map-append (λ (d : Drive). d.bit) xs ys

driven-all_by : (source : Source) (bits : List WireBit) → driven (all_by source bits) ≡ bits
driven-all_by source [] = refl
driven-all_by source (b ∷ bits) = ap (λ bs. b ∷ bs) (driven-all_by source bits)

driven-ports : (wire : ℕ) (ws : List Wire) → driven (port_drives wire ws) ≡ port_bits wire ws
driven-ports wire [] = refl
driven-ports wire (w ∷ ws) =
    driven-append (cond (is_input w.role) (all_by FromPort (bits_of_wire wire w.width)) []) (port_drives (wire + 1) ws)
    ∙ (λ i. by (is_input w.role) i ++ driven-ports (wire + 1) ws i)
  where
    by : (b : Bool) → driven (cond b (all_by FromPort (bits_of_wire wire w.width)) []) ≡ cond b (bits_of_wire wire w.width) []
    by true = driven-all_by FromPort (bits_of_wire wire w.width)
    by false = refl

driven-places : (source : ℕ → Source) (at : ℕ) (bits : List SigBit) → driven (places_by source at bits) ≡ wire_bits bits
driven-places source at [] = refl
driven-places source at (sig.Fixed c ∷ bits) = driven-places source (at + 1) bits
driven-places source at (sig.Wire b ∷ bits) = ap (λ bs. b ∷ bs) (driven-places source (at + 1) bits)

driven-pins : (type : CellType) (cell pin : ℕ) (ps : List Pin) → driven (pin_drives type cell pin ps) ≡ flat_map (bits_of_pin type) ps
driven-pins type cell pin [] = refl
driven-pins type cell pin (p ∷ ps) =
    driven-append (cond (drives_pin type p.name) (places_by (λ at. FromCell cell pin at) 0 p.sig) []) (pin_drives type cell (pin + 1) ps)
    ∙ (λ i. by (drives_pin type p.name) i ++ driven-pins type cell (pin + 1) ps i)
  where
    by : (b : Bool) → driven (cond b (places_by (λ at. FromCell cell pin at) 0 p.sig) []) ≡ cond b (wire_bits p.sig) []
    by true = driven-places (λ at. FromCell cell pin at) 0 p.sig
    by false = refl

driven-cells : (ports : Ports) (cell : ℕ) (cs : List Cell) → driven (cell_drives ports cell cs) ≡ flat_map (bits_of_cell ports) cs
driven-cells ports cell [] = refl
driven-cells ports cell (c ∷ cs) =
    driven-append (pin_drives (cell_type ports c.kind_name) cell 0 c.pins) (cell_drives ports (cell + 1) cs)
    ∙ (λ i. driven-pins (cell_type ports c.kind_name) cell 0 c.pins i ++ driven-cells ports (cell + 1) cs i)

-- the bits on the left of a connection, as far as the right goes
joined_bits : (ls rs : List SigBit) → map (λ (j : Join). j.bit) (joins ls rs) ≡ wire_bits (take (min (length ls) (length rs)) ls)
joined_bits [] rs = rw zero-min refl
joined_bits (l ∷ ls) [] = rw min-zero refl
joined_bits (sig.Fixed c ∷ ls) (r ∷ rs) = rw suc-min-suc (joined_bits ls rs)
joined_bits (sig.Wire b ∷ ls) (r ∷ rs) = rw suc-min-suc (ap (λ bs. b ∷ bs) (joined_bits ls rs))

bits_of_joins : (js : List Join) → driven (map (λ (j : Join). record { bit = j.bit; source = FromLink j.source }) js) ≡ map (λ (j : Join). j.bit) js
bits_of_joins [] = refl
bits_of_joins (j ∷ js) = ap (λ bs. j.bit ∷ bs) (bits_of_joins js)

left_of_links : (ls : List Link) → map (λ (j : Join). j.bit) (all_joins ls) ≡ flat_map bits_of_link ls
left_of_links [] = refl
left_of_links (l ∷ ls) =
    map-append (λ (j : Join). j.bit) (joins l.left l.right) (all_joins ls) ∙ (λ i. joined_bits l.left l.right i ++ left_of_links ls i)

driven-trees : (process : ℕ) (ps : List Process) → driven (tree_drives process ps) ≡ flat_map bits_of_tree ps
driven-trees process [] = refl
driven-trees process (p ∷ ps) =
    driven-append (all_by (FromTree process) (tree_bits p.root)) (tree_drives (process + 1) ps)
    ∙ (λ i. driven-all_by (FromTree process) (tree_bits p.root) i ++ driven-trees (process + 1) ps i)

driven-rules : (process : ℕ) (ps : List Process) → driven (rule_drives process ps) ≡ flat_map bits_of_rules ps
driven-rules process [] = refl
driven-rules process (p ∷ ps) =
    driven-append (all_by (FromRules process) (updated_bits p.syncs)) (rule_drives (process + 1) ps)
    ∙ (λ i. driven-all_by (FromRules process) (updated_bits p.syncs) i ++ driven-rules (process + 1) ps i)

-- all of them
pub driven-drives_of : (ports : Ports) (m : Module)
    → driven (drives_of ports m) ≡ port_bits 0 m.wires ++ flat_map (bits_of_cell ports) m.cells ++ flat_map bits_of_link m.links ++ flat_map bits_of_tree m.processes ++ flat_map bits_of_rules m.processes
driven-drives_of ports m =
    let some = port_drives 0 m.wires ++ cell_drives ports 0 m.cells ++ link_drives m.links in
    let first : driven some ≡ port_bits 0 m.wires ++ flat_map (bits_of_cell ports) m.cells ++ flat_map bits_of_link m.links =
    driven-append (port_drives 0 m.wires ++ cell_drives ports 0 m.cells) (link_drives m.links)
    ∙ (λ i. driven-append (port_drives 0 m.wires) (cell_drives ports 0 m.cells) i ++ (bits_of_joins (all_joins m.links) ∙ left_of_links m.links) i)
    ∙ (λ i. (driven-ports 0 m.wires i ++ driven-cells ports 0 m.cells i) ++ flat_map bits_of_link m.links) in
    driven-append (some ++ tree_drives 0 m.processes) (rule_drives 0 m.processes)
    ∙ (λ i. driven-append some (tree_drives 0 m.processes) i ++ driven-rules 0 m.processes i)
    ∙ (λ i. first i ++ driven-trees 0 m.processes i ++ flat_map bits_of_rules m.processes)
