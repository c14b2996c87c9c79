-- How often bits are driven, by the bits of what drives them.
use Rattle.std.proofs.Common.{◌≡◌, ℕ, ◌+◌, ◌≤◌, Bool, true, false, cond, if◌then◌else◌, List, [], ◌∷◌, ◌++◌, length, inl, inr, refl, ◌∙◌, ap, arith, append_assoc}
use Rattle.std.specs.Prelude.{◌==◌, flat_map, map, nat_lt, not}
use Rattle.std.specs.List.{fold, range_with_len}
use Rattle.std.proofs.lemmas.Bool.{eqb-true, le-ltb, ltb-false}
use Rattle.std.proofs.lemmas.Grind.{flat_map-append}
use Rattle.std.proofs.lemmas.List.{append-nil}
use Rattle.rtl_sig.specs.declared.sig.SigBit.{SigBit}
use Rattle.rtl_sig.specs.declared.sig.SigBit.TheVariants as sig
use Rattle.rtl_sig.specs.declared.sig.WireBit.{WireBit}
use Rattle.rtl_ir.specs.Drivers.{Drive, FromCell, Source, cell_drives, drive_count, drives_of, link_drives, pin_drives, places_by, port_drives, rule_drives, tree_drives}
use Rattle.rtl_ir.specs.Fault.{Fault, TwoDrivers, fault_if}
use Rattle.rtl_ir.specs.Faults.Bits.{bit_faults, bits_faults, faults_of_two}
use Rattle.rtl_ir.specs.Follow.{all_joins, joins}
use Rattle.rtl_ir.specs.declared.follow.Join.{Join}
use Rattle.rtl_ir.specs.Outputs.{drives_pin}
use Rattle.rtl_ir.specs.Signals.{same_bit, wire_bits}
use Rattle.rtl_ir.specs.Types.{CellType, Ports, cell_type}
use Rattle.rtl_ir.specs.declared.cell.Cell.{Cell}
use Rattle.rtl_ir.specs.declared.cell.Pin.{Pin}
use Rattle.rtl_ir.specs.declared.module.Link.{Link}
use Rattle.rtl_ir.specs.declared.module.Module.{Module}
use Rattle.rtl_ir.specs.declared.wire.Wire.{Wire}
use Rattle.net_model.proofs.Members.{map-append, map-map}
use Rattle.net_model.specs.Within.{Each}
use Rattle.pass_laws.specs.Bits.{cells_bits, links_bits, pin_bits}
use Rattle.pass_laws.specs.Replaces.{IsEven}
use Rattle.pass_laws.proofs.Faultless.{none_left, none_right}

-- the bits of drives
abbrev pub bits_of : List Drive → List WireBit
bits_of drives = map (λ (d : Drive). d.bit) drives

pub bits_more : (xs ys : List Drive) → bits_of (xs ++ ys) ≡ bits_of xs ++ bits_of ys
bits_more xs ys = map-append (λ (d : Drive). d.bit) xs ys

-- how often a bit stands among these
abbrev pub count : WireBit → List WireBit → ℕ
count b [] = 0
count b (x ∷ xs) = cond (same_bit x b) 1 0 + count b xs

pub count_more : (b : WireBit) (xs ys : List WireBit) → count b (xs ++ ys) ≡ count b xs + count b ys
count_more b [] ys = omega arith
count_more b (x ∷ xs) ys = omega (arith, count_more b xs ys)

counted_from : (b : WireBit) (n : ℕ) (ds : List Drive) → fold (λ k (d : Drive). k + cond (same_bit d.bit b) 1 0) n ds ≡ n + count b (bits_of ds)
counted_from b n [] = omega arith
counted_from b n (d ∷ ds) = omega (arith, counted_from b (n + cond (same_bit d.bit b) 1 0) ds)

-- a count of drives is one of their bits
pub counted : (b : WireBit) (ds : List Drive) → drive_count ds b ≡ count b (bits_of ds)
counted b ds = omega (arith, counted_from b 0 ds)

-- the bits of the drives of cells
places_bits : (source : ℕ → Source) (at : ℕ) (bits : List SigBit) → bits_of (places_by source at bits) ≡ wire_bits bits
places_bits source at [] = refl
places_bits source at (sig.Fixed c ∷ bits) = places_bits source (at + 1) bits
places_bits source at (sig.Wire b ∷ bits) = ap (λ z. b ∷ z) (places_bits source (at + 1) bits)

pin_drives_bits : (type : CellType) (cell pin : ℕ) (ps : List Pin) → bits_of (pin_drives type cell pin ps) ≡ pin_bits type ps
pin_drives_bits type cell pin [] = refl
pin_drives_bits type cell pin (p ∷ ps) =
    bits_more (if drives_pin type p.name then places_by (λ at. FromCell cell pin at) 0 p.sig else []) (pin_drives type cell (pin + 1) ps)
    ∙ ap (λ z. z ++ bits_of (pin_drives type cell (pin + 1) ps)) (by (drives_pin type p.name))
    ∙ ap (λ z. (if drives_pin type p.name then wire_bits p.sig else []) ++ z) (pin_drives_bits type cell (pin + 1) ps)
  where
    by : (t : Bool) → bits_of (if t then places_by (λ at. FromCell cell pin at) 0 p.sig else []) ≡ (if t then wire_bits p.sig else [])
    by true = places_bits (λ at. FromCell cell pin at) 0 p.sig
    by false = refl

pub cell_drives_bits : (ports : Ports) (cell : ℕ) (cs : List Cell) → bits_of (cell_drives ports cell cs) ≡ cells_bits ports cs
cell_drives_bits ports cell [] = refl
cell_drives_bits ports cell (c ∷ cs) =
    bits_more (pin_drives (cell_type ports c.kind_name) cell 0 c.pins) (cell_drives ports (cell + 1) cs)
    ∙ ap (λ z. z ++ bits_of (cell_drives ports (cell + 1) cs)) (pin_drives_bits (cell_type ports c.kind_name) cell 0 c.pins)
    ∙ ap (λ z. pin_bits (cell_type ports c.kind_name) c.pins ++ z) (cell_drives_bits ports (cell + 1) cs)

pub cells_more : (ports : Ports) (cs ds : List Cell) → cells_bits ports (cs ++ ds) ≡ cells_bits ports cs ++ cells_bits ports ds
cells_more ports cs ds = flat_map-append (λ (c : Cell). pin_bits (cell_type ports c.kind_name) c.pins) cs ds

-- the bits of the drives of connections without faults
abbrev join_bits : List Join → List WireBit
join_bits js = map (λ (j : Join). j.bit) js

even_bits : (left right : List SigBit) → length left ≡ length right → join_bits (joins left right) ≡ wire_bits left
even_bits [] right e = refl
even_bits (l ∷ ls) [] e = absurd (omega (arith, e))
even_bits (sig.Fixed c ∷ ls) (r ∷ rs) e = even_bits ls rs (omega (arith, e))
even_bits (sig.Wire b ∷ ls) (r ∷ rs) e = ap (λ z. b ∷ z) (even_bits ls rs (omega (arith, e)))

pub even_length : (l : Link) → IsEven l → length l.left ≡ length l.right
even_length l even = eqb-true (length l.left) (length l.right) (by (length l.left == length l.right) even.width)
  where
    by : (t : Bool) → not t ≡ false → t ≡ true
    by true e = refl
    by false e = absurd (cc)

joins_bits : (links : List Link) → Each IsEven links → join_bits (all_joins links) ≡ links_bits links
joins_bits [] h = refl
joins_bits (l ∷ ls) h =
    map-append (λ (j : Join). j.bit) (joins l.left l.right) (all_joins ls)
    ∙ ap (λ z. z ++ join_bits (all_joins ls)) (even_bits l.left l.right (even_length l (h l (inl refl))))
    ∙ ap (λ z. wire_bits l.left ++ z) (joins_bits ls (λ x i. h x (inr i)))

pub link_drives_bits : (links : List Link) → Each IsEven links → bits_of (link_drives links) ≡ links_bits links
link_drives_bits links h = map-map _ (λ (d : Drive). d.bit) (all_joins links) ∙ joins_bits links h

pub links_more : (ls ks : List Link) → links_bits (ls ++ ks) ≡ links_bits ls ++ links_bits ks
links_more ls ks = flat_map-append (λ (l : Link). wire_bits l.left) ls ks

-- where no bit is driven more often, no further bit has two drivers
module _ (id : List ℕ) (ds es : List Drive) (fewer : (b : WireBit) → drive_count es b ≤ drive_count ds b) where
  fewer_here : (wire : ℕ) (w : Wire) (at : ℕ) → bit_faults id ds wire w at ≡ [] → bit_faults id es wire w at ≡ []
  fewer_here wire w at e = by (fewer (record { wire = wire; at = at })) e
    where
      more : (xs : List Fault) (x : Fault) → xs ++ x ∷ [] ≡ [] → ⊥
      more [] x f = absurd (cc)
      more (y ∷ ys) x f = absurd (cc)

      one : (t : Bool) → (if t then faults_of_two id w at else []) ≡ [] → t ≡ false
      one false f = refl
      one true f = absurd (more (fault_if _ _) (TwoDrivers id w.name at) f)

      by : {j k : ℕ} → j ≤ k → (if nat_lt 1 k then faults_of_two id w at else []) ≡ [] → (if nat_lt 1 j then faults_of_two id w at else []) ≡ []
      by {j} {k} h f =
          let few : k ≤ 1 = ltb-false 1 k (one (nat_lt 1 k) f) in
          let fewer : j ≤ 1 = omega (arith, h, few) in
          ap (λ t. if t then faults_of_two id w at else []) (le-ltb 1 j fewer)

  fewer_in : (wire : ℕ) (w : Wire) (ats : List ℕ) → flat_map (bit_faults id ds wire w) ats ≡ [] → flat_map (bit_faults id es wire w) ats ≡ []
  fewer_in wire w [] e = refl
  fewer_in wire w (at ∷ ats) e =
      let a : bit_faults id es wire w at ≡ [] = fewer_here wire w at (none_left (bit_faults id ds wire w at) (flat_map (bit_faults id ds wire w) ats) e) in
      let b : flat_map (bit_faults id es wire w) ats ≡ [] = fewer_in wire w ats (none_right (bit_faults id ds wire w at) (flat_map (bit_faults id ds wire w) ats) e) in
      λ i. a i ++ b i

  pub fewer_faults : (first : ℕ) (wires : List Wire) → bits_faults id ds first wires ≡ [] → bits_faults id es first wires ≡ []
  fewer_faults first [] e = refl
  fewer_faults first (w ∷ ws) e =
      let a : flat_map (bit_faults id es first w) (range_with_len 0 w.width) ≡ [] = fewer_in first w (range_with_len 0 w.width) (none_left (flat_map (bit_faults id ds first w) (range_with_len 0 w.width)) (bits_faults id ds (first + 1) ws) e) in
      let b : bits_faults id es (first + 1) ws ≡ [] = fewer_faults (first + 1) ws (none_right (flat_map (bit_faults id ds first w) (range_with_len 0 w.width)) (bits_faults id ds (first + 1) ws) e) in
      λ i. a i ++ b i

-- a module of cells and connections alone: how often a bit is driven
pub driven_count : (ports : Ports) (m : Module) → m.processes ≡ [] → Each IsEven m.links → (b : WireBit) → drive_count (drives_of ports m) b ≡ count b (bits_of (port_drives 0 m.wires)) + count b (cells_bits ports m.cells ++ links_bits m.links)
driven_count ports m none even b =
    let p : List Drive = port_drives 0 m.wires in
    let c : List Drive = cell_drives ports 0 m.cells in
    let l : List Drive = link_drives m.links in
    let t : List Drive = tree_drives 0 m.processes in
    let r : List Drive = rule_drives 0 m.processes in
    let no_t : t ≡ [] = ap (tree_drives 0) none in
    let no_r : r ≡ [] = ap (rule_drives 0) none in
    let bits : bits_of ((((p ++ c) ++ l) ++ t) ++ r) ≡ bits_of ((((p ++ c) ++ l) ++ []) ++ []) = λ i. bits_of ((((p ++ c) ++ l) ++ no_t i) ++ no_r i) in
    counted b (drives_of ports m)
    ∙ ap (count b) (bits ∙ ap bits_of (append-nil (((p ++ c) ++ l) ++ []) ∙ append-nil ((p ++ c) ++ l)) ∙ bits_more (p ++ c) l ∙ ap (λ z. z ++ bits_of l) (bits_more p c ∙ ap (λ z. bits_of p ++ z) (cell_drives_bits ports 0 m.cells)) ∙ ap (λ z. (bits_of p ++ cells_bits ports m.cells) ++ z) (link_drives_bits m.links even) ∙ append_assoc (bits_of p) (cells_bits ports m.cells) (links_bits m.links))
    ∙ count_more b (bits_of p) (cells_bits ports m.cells ++ links_bits m.links)
