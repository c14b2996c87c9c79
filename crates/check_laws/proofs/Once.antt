-- No bit of a sound module without faults, be it past the end of its wire, has two drivers.
use Rattle.std.proofs.Common.{◌≡◌, ℕ, zero, suc, ◌+◌, ◌<◌, ◌≤◌, Bool, true, false, List, [], ◌∷◌, ◌++◌, Some, ◌⊎◌, inl, inr, ⊎_elim, refl, sym, ◌∙◌, ap, subst, arith, IsSomeAnd}
use Rattle.std.specs.Prelude.{slice_get, if◌then◌else◌}
use Rattle.std.specs.List.{range_with_len}
use Rattle.std.proofs.lemmas.Bool.{ltb-false}
use Rattle.rtl_sig.specs.declared.sig.WireBit.{WireBit}
use Rattle.rtl_ir.specs.declared.module.Module.{Module}
use Rattle.rtl_ir.specs.declared.process.Process.{Process}
use Rattle.rtl_ir.specs.declared.wire.Wire.{Wire}
use Rattle.rtl_ir.specs.Assigns.{tree_bits}
use Rattle.rtl_ir.specs.Rules.{updated_bits}
use Rattle.rtl_ir.specs.Drivers.{Drive, FromPort, all_by, cell_drives, drive_count, drives_of, is_input, link_drives, port_drives, rule_drives, tree_drives}
use Rattle.rtl_ir.specs.Faults.Bits.{bits_faults, has_two}
use Rattle.rtl_ir.specs.Signals.{bits_of_wire}
use Rattle.rtl_ir.specs.Types.{Ports}
use Rattle.net_model.specs.Lists.{In}
use Rattle.net_model.proofs.Members.{In-cases, In-left, In-mapped, In-right}
use Rattle.check_laws.specs.Sound.{HasBit, IsSoundModule}
use Rattle.check_laws.proofs.Bits.{found}
use Rattle.check_laws.proofs.Counting.{counted_or, driven, no_two}
use Rattle.check_laws.proofs.Groups.{In-flat}
use Rattle.check_laws.proofs.Processes.{rules_driven, trees_driven}
use Rattle.check_laws.proofs.Rows.{cells_driven, driven-append, links_driven, links_left}
use Rattle.check_laws.proofs.WellDriven.{cells_have}

range_below : (from n k : ℕ) → In k (range_with_len from n) → k < from + n
range_below from zero k i = absurd i
range_below from (suc n) k (inl e) = omega (arith, e)
range_below from (suc n) k (inr i) = omega (arith, range_below (from + 1) n k i)

-- the wire of a bit that ports drive
record IsPortBit (first : ℕ) (ws : List Wire) (b : WireBit) : Type 0 where
  place : ℕ
  of : Wire
  there : slice_get ws place ≡ Some of
  is : b.wire ≡ first + place
  inside : b.at < of.width

port_bit : (first : ℕ) (ws : List Wire) (b : WireBit) → In b (driven (port_drives first ws)) → IsPortBit first ws b
port_bit first [] b i = absurd i
port_bit first (w ∷ ws) b i =
    ⊎_elim
    (λ l. by (is_input w.role) l)
    (λ r. let k = port_bit (first + 1) ws b r in
    record { place = suc k.place; of = k.of; there = k.there; is = omega (arith, k.is); inside = k.inside })
    (In-cases b (driven (if is_input w.role then all_by FromPort (bits_of_wire first w.width) else [])) (driven (port_drives (first + 1) ws)) (subst (In b) (driven-append (if is_input w.role then all_by FromPort (bits_of_wire first w.width) else []) (port_drives (first + 1) ws)) i))
  where
    by : (t : Bool) → In b (driven (if t then all_by FromPort (bits_of_wire first w.width) else [])) → IsPortBit first (w ∷ ws) b
    by true j =
        let d = In-mapped (λ (d : Drive). d.bit) b (all_by FromPort (bits_of_wire first w.width)) j in
        let x = In-mapped (λ (z : WireBit). record { bit = z; source = FromPort }) d.0 (bits_of_wire first w.width) d.1 in
        let k = In-mapped (λ z. record { wire = first; at = z }) x.0 (range_with_len 0 w.width) x.1 in
        let same : b ≡ record { wire = first; at = k.0 } = d.2 ∙ ap (λ (d : Drive). d.bit) x.2 ∙ k.2 in
        let low : k.0 < 0 + w.width = range_below 0 w.width k.0 k.1 in
        let wire : b.wire ≡ first = ap (λ (z : WireBit). z.wire) same in
        let at : b.at ≡ k.0 = ap (λ (z : WireBit). z.at) same in
        record { place = 0; of = w; there = refl; is = omega (arith, wire); inside = omega (arith, at, low) }
    by false j = absurd j

module _ (ports : Ports) (m : Module) (sound : IsSoundModule m) where
  -- each bit that is driven is one of a wire
  has_bit : (b : WireBit) → In b (driven (drives_of ports m)) → HasBit m.wires b
  has_bit b i =
      let p : List Drive = port_drives 0 m.wires in
      let c : List Drive = cell_drives ports 0 m.cells in
      let l : List Drive = link_drives m.links in
      let t : List Drive = tree_drives 0 m.processes in
      let r : List Drive = rule_drives 0 m.processes in
      ⊎_elim
      (λ x. ⊎_elim
      (λ y. ⊎_elim
      (λ z. ⊎_elim of_port of_cell (both p c z))
      of_link
      (both (p ++ c) l y))
      of_tree
      (both ((p ++ c) ++ l) t x))
      of_rule
      (both (((p ++ c) ++ l) ++ t) r i)
    where
      both : (xs ys : List Drive) → In b (driven (xs ++ ys)) → In b (driven xs) ⊎ In b (driven ys)
      both xs ys j = In-cases b (driven xs) (driven ys) (subst (In b) (driven-append xs ys) j)

      of_port : In b (driven (port_drives 0 m.wires)) → HasBit m.wires b
      of_port j =
          let k = port_bit 0 m.wires b j in
          let place : k.place ≡ b.wire = omega (arith, k.is) in
          subst (λ o. IsSomeAnd o (λ w. b.at < w.width)) (sym (ap (slice_get m.wires) (sym place) ∙ k.there)) k.inside

      of_cell : In b (driven (cell_drives ports 0 m.cells)) → HasBit m.wires b
      of_cell j = cells_have m.wires ports m.cells sound.pins b (subst (In b) (cells_driven ports 0 m.cells) j)

      of_link : In b (driven (link_drives m.links)) → HasBit m.wires b
      of_link j = sound.links b ((links_left m.links).each b (subst (In b) (links_driven m.links) j))

      of_tree : In b (driven (tree_drives 0 m.processes)) → HasBit m.wires b
      of_tree j =
          let k = In-flat (λ (q : Process). tree_bits q.root) b m.processes (subst (In b) (trees_driven 0 m.processes) j) in
          sound.processes k.0 k.1 b (In-left b (tree_bits k.0.root) (updated_bits k.0.syncs) k.2)

      of_rule : In b (driven (rule_drives 0 m.processes)) → HasBit m.wires b
      of_rule j =
          let k = In-flat (λ (q : Process). updated_bits q.syncs) b m.processes (subst (In b) (rules_driven 0 m.processes) j) in
          sound.processes k.0 k.1 b (In-right b (tree_bits k.0.root) (updated_bits k.0.syncs) k.2)

  pub driven_once : bits_faults m.id (drives_of ports m) 0 m.wires ≡ [] → (b : WireBit) → drive_count (drives_of ports m) b ≤ 1
  driven_once none b =
      ⊎_elim
      (λ e. omega (arith, e))
      (λ i. let f = found m.wires b (has_bit b i) in
      let z : 0 + b.wire ≡ b.wire = omega arith in
      let one : has_two (drives_of ports m) b ≡ false = subst (λ k. has_two (drives_of ports m) (record { wire = k; at = b.at }) ≡ false) z (no_two m.id (drives_of ports m) 0 m.wires none b.wire b.at f.wire f.is f.inside) in
      ltb-false 1 (drive_count (drives_of ports m) b) one)
      (counted_or (drives_of ports m) b)
