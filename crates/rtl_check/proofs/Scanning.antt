-- The bits of wires, one after another.
use Rattle.std.proofs.Common.{◌≡◌, ℕ, suc, ◌+◌, ◌-◌, ◌<◌, Bool, true, false, cond, ltb, List, [], ◌∷◌, ◌++◌, get_or, flat_map, Some, refl, sym, ◌∙◌, ap, subst, arith}
use Rattle.std.specs.List.{range_with_len}
use Rattle.rtl_sig.specs.declared.sig.WireBit.{WireBit}
use Rattle.rtl_ir.specs.declared.module.Module.{Module}
use Rattle.rtl_ir.specs.declared.wire.Wire.{Wire}
use Rattle.rtl_ir.specs.Drivers.{Drive, drives_of}
use Rattle.rtl_ir.specs.Fault as rtl
use Rattle.rtl_ir.specs.Faults.Bits.{bit_faults, faults_of_two, has_two}
use Rattle.rtl_ir.specs.Types.{Ports}
use Rattle.net_index.specs.Numbering.{number_of, start_of, widths_of}
use Rattle.net_index.proofs.Numbers.{at_number}
use Rattle.rtl_check.specs.declared.fault.CheckFault.{CheckFault}
use Rattle.rtl_check.specs.declared.fault.CheckFault.TheVariants as check
use Rattle.rtl_check.specs.Finds.{IsFirst, first_answer}
use Rattle.rtl_check.specs.Tallies.{Tallied, HasCounted, Tells, bits_of_cell, bits_of_link, bits_of_rules, bits_of_tree, port_bits, untallied, with_bits}
use Rattle.rtl_check.proofs.Driven.{driven-drives_of}
use Rattle.rtl_check.proofs.Firsts.{first_before}
use Rattle.rtl_check.proofs.Tallying.{alike_append, with_bits-append}
use Rattle.rtl_check.proofs.Telling.{tells_driven}

-- what a tally tells of a bit
pub tells_bit : (t : Tallied) (drives : List Drive) → Tells t drives → (place at width : ℕ) → get_or t.widths place 0 ≡ width → at < width → (two : Bool)
    → ((number : ℕ) → number_of t.widths (record { wire = place; at = at }) ≡ Some number → two ≡ ltb 1 (get_or t.counts number 0)) → two ≡ has_two drives (record { wire = place; at = at })
tells_bit t drives tells place at width e h two found =
    let bit : WireBit = record { wire = place; at = at } in
    let inside : at < get_or t.widths place 0 = omega arith in
    let number = at_number t.widths bit inside in
    found (start_of t.widths place + at) number ∙ tells bit (start_of t.widths place + at) number

range-next : (at width : ℕ) → at < width → range_with_len at (width - at) ≡ at ∷ range_with_len (at + 1) (width - (at + 1))
range-next at width h = let e : width - at ≡ suc (width - (at + 1)) = omega arith in ap (range_with_len at) e

-- a bit with one driver at most is no fault
pub bit_passed : (id : List ℕ) (drives : List Drive) (place : ℕ) (w : Wire) (at : ℕ) → at < w.width → false ≡ has_two drives (record { wire = place; at = at })
    → (all : List rtl.Fault) → flat_map (bit_faults id drives place w) (range_with_len at (w.width - at)) ≡ all
    → flat_map (bit_faults id drives place w) (range_with_len (at + 1) (w.width - (at + 1))) ≡ all
bit_passed id drives place w at h none all e =
    let rest = flat_map (bit_faults id drives place w) (range_with_len (at + 1) (w.width - (at + 1))) in
    ap (λ b. cond b (faults_of_two id w at) [] ++ rest) none
    ∙ sym (ap (flat_map (bit_faults id drives place w)) (range-next at w.width h))
    ∙ e

first_is : (f : CheckFault) (faults : List rtl.Fault) → first_answer faults ≡ Some f → IsFirst f faults
first_is check.Memory faults e = tt
first_is (check.Width s) faults e = e
first_is (check.UnknownCell s) faults e = e
first_is (check.UnsupportedCell s) faults e = e
first_is (check.BadParameterOrPort s) faults e = e
first_is (check.TooWide s) faults e = e
first_is (check.TwoDrivers s) faults e = e
first_is (check.BadPort s) faults e = e
first_is (check.BadProcess s) faults e = e
first_is (check.BadMemory s) faults e = e
first_is (check.Recursion id) faults e = e

-- a bit with two drivers is a fault
pub bit_found : (id : List ℕ) (drives : List Drive) (place : ℕ) (w : Wire) (at : ℕ) → at < w.width → true ≡ has_two drives (record { wire = place; at = at })
    → (f : CheckFault) → first_answer (faults_of_two id w at) ≡ Some f
    → (all : List rtl.Fault) → flat_map (bit_faults id drives place w) (range_with_len at (w.width - at)) ≡ all → IsFirst f all
bit_found id drives place w at h two f is all e =
    let rest = flat_map (bit_faults id drives place w) (range_with_len (at + 1) (w.width - (at + 1))) in
    let here : IsFirst f (cond (has_two drives (record { wire = place; at = at })) (faults_of_two id w at) [] ++ rest) =
    subst (λ b. IsFirst f (cond b (faults_of_two id w at) [] ++ rest)) two (first_before f (faults_of_two id w at) rest (first_is f (faults_of_two id w at) is)) in
    subst (IsFirst f) (sym (ap (flat_map (bit_faults id drives place w)) (range-next at w.width h)) ∙ e) here

-- all that is counted in a module tells of its bits
pub counted_tells : (ports : Ports) (m : Module) (s t : Tallied)
    → s ≡ with_bits (with_bits (with_bits (with_bits (untallied (widths_of m.wires)) (port_bits 0 m.wires)) (flat_map (bits_of_cell ports) m.cells)) (flat_map bits_of_link m.links)) (flat_map bits_of_tree m.processes)
    → HasCounted s (flat_map bits_of_rules m.processes) t → Tells t (drives_of ports m)
counted_tells ports m s t made counted =
    let start = untallied (widths_of m.wires) in
    let some = port_bits 0 m.wires ++ flat_map (bits_of_cell ports) m.cells in
    let trees = some ++ flat_map bits_of_link m.links ++ flat_map bits_of_tree m.processes in
    tells_driven (widths_of m.wires) (drives_of ports m) (trees ++ flat_map bits_of_rules m.processes) (trees ++ counted.0) (driven-drives_of ports m)
    (alike_append trees trees counted.0 (flat_map bits_of_rules m.processes) (λ b. refl) counted.1) t
    (counted.2
    ∙ ap (λ x. with_bits x counted.0) (made
    ∙ ap (λ x. with_bits (with_bits x (flat_map bits_of_link m.links)) (flat_map bits_of_tree m.processes)) (sym (with_bits-append start (port_bits 0 m.wires) (flat_map (bits_of_cell ports) m.cells)))
    ∙ ap (λ x. with_bits x (flat_map bits_of_tree m.processes)) (sym (with_bits-append start some (flat_map bits_of_link m.links)))
    ∙ sym (with_bits-append start (some ++ flat_map bits_of_link m.links) (flat_map bits_of_tree m.processes)))
    ∙ sym (with_bits-append start trees counted.0))
