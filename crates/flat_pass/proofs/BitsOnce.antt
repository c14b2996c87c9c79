-- How often connections, cells and ports drive a bit, before a replacement and after it.
use Rattle.std.proofs.Common.{◌≡◌, ℕ, zero, suc, ◌+◌, ◌<◌, ◌≤◌, Bool, true, false, cond, ◌&&◌, List, [], ◌∷◌, length, map, inl, inr, refl, sym, ◌∙◌, ap, arith}
use Rattle.std.specs.Prelude.{◌==◌}
use Rattle.std.specs.List.{range_with_len}
use Rattle.std.proofs.lemmas.Bool.{eq-eqb, eqb-true, ne_eqb}
use Rattle.rtl_sig.specs.declared.sig.SigBit.{SigBit}
use Rattle.rtl_sig.specs.declared.sig.SigBit.TheVariants.{Fixed, Wire as OnWire}
use Rattle.rtl_sig.specs.declared.sig.WireBit.{WireBit}
use Rattle.rtl_ir.specs.declared.cell.Cell.{Cell}
use Rattle.rtl_ir.specs.declared.cell.Pin.{Pin}
use Rattle.rtl_ir.specs.declared.module.Link.{Link}
use Rattle.rtl_ir.specs.declared.wire.Wire.{Wire}
use Rattle.rtl_ir.specs.Build.{whole}
use Rattle.rtl_ir.specs.Drivers.{FromPort, all_by, is_input, port_drives}
use Rattle.rtl_ir.specs.Outputs.{drives_pin}
use Rattle.rtl_ir.specs.Signals.{bits_of_wire, same_bit, wire_bits}
use Rattle.rtl_ir.specs.Types.{CellType, Ports, cell_type}
use Rattle.net_model.specs.Lists.{In}
use Rattle.net_model.specs.Within.{SigIn}
use Rattle.pass_laws.specs.Bits.{cells_bits, links_bits, pin_bits}
use Rattle.pass_laws.proofs.Counting.{bits_more, bits_of, count, count_more}
use Rattle.flat_pass.specs.Copies.{Copying, copied_link, copied_pin, copied_signal}
use Rattle.flat_pass.proofs.Partners.{CellCopied, Paired}

-- sums
pub zero_sum : {x a b : ℕ} → x ≡ a + b → a ≡ 0 → b ≡ 0 → x ≡ 0
zero_sum e f g = omega (arith, e, f, g)

pub same_sum : {x y a b c d : ℕ} → x ≡ a + b → y ≡ c + d → a ≡ c → b ≡ d → x ≡ y
same_sum e f g h = omega (arith, e, f, g, h)

pub less_sum : {x a b c d : ℕ} → x ≡ a + b → a ≤ c → b ≤ d → x ≤ c + d
less_sum e f g = omega (arith, e, f, g)

pub equal_less : {x y : ℕ} → x ≡ y → x ≤ y
equal_less e = omega (arith, e)

pub less_less : {x y z : ℕ} → x ≤ y → y ≤ z → x ≤ z
less_less e f = omega (arith, e, f)

pub zero_least : (n : ℕ) → 0 ≤ n
zero_least n = omega arith

abbrev pub bit_at : ℕ → ℕ → WireBit
bit_at wire at = record { wire = wire; at = at }

other_wire : (x y : ℕ) (t : Bool) → (x ≡ y → ⊥) → ((x == y) && t) ≡ false
other_wire x y t n = ap (λ z. z && t) (ne_eqb x y n)

-- bits of one sort are not counted
module _ (b : WireBit) where
  pub signal_low : (k : ℕ) → k ≤ b.wire → (ss : List SigBit) → SigIn k ss → count b (wire_bits ss) ≡ 0
  signal_low k h [] i = refl
  signal_low k h (Fixed c ∷ ss) i = signal_low k h ss (λ s j. i s (inr j))
  signal_low k h (OnWire w ∷ ss) i =
      let low : w.wire < k = i (OnWire w) (inl refl) in
      let no : cond (same_bit w b) 1 0 ≡ 0 = ap (λ t. cond t 1 0) (other_wire w.wire b.wire (w.at == b.at) (λ e. absurd (omega (arith, low, h, e)))) in
      let rest = signal_low k h ss (λ s j. i s (inr j)) in
      zero_sum refl no rest

  pins_zero : (type : CellType) (ps : List Pin) → ((p : Pin) → In p ps → count b (wire_bits p.sig) ≡ 0) → count b (pin_bits type ps) ≡ 0
  pins_zero type [] h = refl
  pins_zero type (p ∷ ps) h =
      let all = count_more b (cond (drives_pin type p.name) (wire_bits p.sig) []) (pin_bits type ps) in
      let here = by (drives_pin type p.name) in
      let rest = pins_zero type ps (λ q j. h q (inr j)) in
      zero_sum all here rest
    where
      by : (t : Bool) → count b (cond t (wire_bits p.sig) []) ≡ 0
      by true = h p (inl refl)
      by false = refl

  pub cells_zero : (ports : Ports) (cs : List Cell) → ((c : Cell) → In c cs → (p : Pin) → In p c.pins → count b (wire_bits p.sig) ≡ 0) → count b (cells_bits ports cs) ≡ 0
  cells_zero ports [] h = refl
  cells_zero ports (c ∷ cs) h =
      let all = count_more b (pin_bits (cell_type ports c.kind_name) c.pins) (cells_bits ports cs) in
      let here = pins_zero (cell_type ports c.kind_name) c.pins (h c (inl refl)) in
      let rest = cells_zero ports cs (λ d j. h d (inr j)) in
      zero_sum all here rest

  pub links_zero : (ls : List Link) → ((l : Link) → In l ls → count b (wire_bits l.left) ≡ 0) → count b (links_bits ls) ≡ 0
  links_zero [] h = refl
  links_zero (l ∷ ls) h =
      let all = count_more b (wire_bits l.left) (links_bits ls) in
      let here = h l (inl refl) in
      let rest = links_zero ls (λ m j. h m (inr j)) in
      zero_sum all here rest

  -- signals on copied wires
  pub copied_high : (first : ℕ) → b.wire < first → (ss : List SigBit) → count b (wire_bits (copied_signal first ss)) ≡ 0
  copied_high first h [] = refl
  copied_high first h (Fixed c ∷ ss) = copied_high first h ss
  copied_high first h (OnWire w ∷ ss) =
      let no : cond (same_bit (bit_at (first + w.wire) w.at) b) 1 0 ≡ 0 = ap (λ t. cond t 1 0) (other_wire (first + w.wire) b.wire (w.at == b.at) (λ e. absurd (omega (arith, h, e)))) in
      let rest = copied_high first h ss in
      zero_sum refl no rest

  pub range_zero : (wire at width : ℕ) → (wire ≡ b.wire → ⊥) → count b (map (λ n. bit_at wire n) (range_with_len at width)) ≡ 0
  range_zero wire at zero n = refl
  range_zero wire at (suc width) n =
      let no : cond (same_bit (bit_at wire at) b) 1 0 ≡ 0 = ap (λ t. cond t 1 0) (other_wire wire b.wire (at == b.at) n) in
      let rest = range_zero wire (at + 1) width n in
      zero_sum refl no rest

-- ports from outside
pub ports_low : (b : WireBit) (n : ℕ) (ws : List Wire) → n + length ws ≤ b.wire → count b (bits_of (port_drives n ws)) ≡ 0
ports_low b n [] h = refl
ports_low b n (w ∷ ws) h =
    let parts = ap (count b) (bits_more (cond (is_input w.role) (all_by FromPort (bits_of_wire n w.width)) []) (port_drives (n + 1) ws)) in
    let sum = count_more b (bits_of (cond (is_input w.role) (all_by FromPort (bits_of_wire n w.width)) [])) (bits_of (port_drives (n + 1) ws)) in
    let here = by (is_input w.role) in
    let rest = ports_low b (n + 1) ws (omega (arith, h)) in
    zero_sum (parts ∙ sum) here rest
  where
    bits : (xs : List WireBit) → bits_of (all_by FromPort xs) ≡ xs
    bits [] = refl
    bits (x ∷ xs) = ap (λ z. x ∷ z) (bits xs)

    by : (t : Bool) → count b (bits_of (cond t (all_by FromPort (bits_of_wire n w.width)) [])) ≡ 0
    by true = ap (count b) (bits (bits_of_wire n w.width)) ∙ range_zero b n 0 w.width (λ e. absurd (omega (arith, h, e)))
    by false = refl

whole_from : (wire at width : ℕ) → wire_bits (map OnWire (map (λ n. bit_at wire n) (range_with_len at width))) ≡ map (λ n. bit_at wire n) (range_with_len at width)
whole_from wire at zero = refl
whole_from wire at (suc width) = ap (λ z. bit_at wire at ∷ z) (whole_from wire (at + 1) width)

pub whole_bits : (wire width : ℕ) → wire_bits (whole wire width) ≡ bits_of_wire wire width
whole_bits wire width = whole_from wire 0 width

-- bits of copies are counted as the bits that they are copies of
module _ (first k at : ℕ) where
  abbrev old : WireBit
  old = bit_at k at

  abbrev new : WireBit
  new = bit_at (first + k) at

  plus_same : (x : ℕ) → (first + x == first + k) ≡ (x == k)
  plus_same x = by (x == k) refl
    where
      by : (t : Bool) → (x == k) ≡ t → (first + x == first + k) ≡ t
      by true e = let same = eqb-true x k e in eq-eqb (first + x) (first + k) (omega (arith, same))
      by false e =
          ne_eqb (first + x) (first + k) (λ g. let same : x ≡ k = omega (arith, g) in
          let both : true ≡ false = sym (eq-eqb x k same) ∙ e in
          absurd (cc))

  signal_moved : (ss : List SigBit) → count new (wire_bits (copied_signal first ss)) ≡ count old (wire_bits ss)
  signal_moved [] = refl
  signal_moved (Fixed c ∷ ss) = signal_moved ss
  signal_moved (OnWire w ∷ ss) = λ i. cond (plus_same w.wire i && (w.at == at)) 1 0 + signal_moved ss i

  pub range_moved : (wire from width : ℕ) → count new (map (λ n. bit_at (first + wire) n) (range_with_len from width)) ≡ count old (map (λ n. bit_at wire n) (range_with_len from width))
  range_moved wire from zero = refl
  range_moved wire from (suc width) = λ i. cond (plus_same wire i && (from == at)) 1 0 + range_moved wire (from + 1) width i

  pins_moved : (type : CellType) (ps : List Pin) → count new (pin_bits type (map (copied_pin first) ps)) ≡ count old (pin_bits type ps)
  pins_moved type [] = refl
  pins_moved type (p ∷ ps) =
      let all = count_more new (cond (drives_pin type p.name) (wire_bits (copied_signal first p.sig)) []) (pin_bits type (map (copied_pin first) ps)) in
      let was = count_more old (cond (drives_pin type p.name) (wire_bits p.sig) []) (pin_bits type ps) in
      let here = by (drives_pin type p.name) in
      let rest = pins_moved type ps in
      same_sum all was here rest
    where
      by : (t : Bool) → count (bit_at (first + k) at) (cond t (wire_bits (copied_signal first p.sig)) []) ≡ count (bit_at k at) (cond t (wire_bits p.sig) [])
      by true = signal_moved p.sig
      by false = refl

  pub cells_counted : (ports : Ports) (c : Copying) → c.first ≡ first → (cs ys : List Cell) → Paired (CellCopied c) cs ys → count new (cells_bits ports ys) ≡ count old (cells_bits ports cs)
  cells_counted ports c e [] [] h = refl
  cells_counted ports c e (x ∷ cs) (y ∷ ys) h =
      let all = count_more new (pin_bits (cell_type ports y.kind_name) y.pins) (cells_bits ports ys) in
      let was = count_more old (pin_bits (cell_type ports x.kind_name) x.pins) (cells_bits ports cs) in
      let pins : y.pins ≡ map (copied_pin first) x.pins = h.0.pins ∙ ap (λ z. map (copied_pin z) x.pins) e in
      let here : count new (pin_bits (cell_type ports y.kind_name) y.pins) ≡ count old (pin_bits (cell_type ports x.kind_name) x.pins) = (λ i. count new (pin_bits (cell_type ports (h.0.kind i)) (pins i))) ∙ pins_moved (cell_type ports x.kind_name) x.pins in
      let rest = cells_counted ports c e cs ys h.1 in
      same_sum all was here rest
  cells_counted ports c e [] (y ∷ ys) h = absurd h
  cells_counted ports c e (x ∷ cs) [] h = absurd h

  pub links_counted : (ls : List Link) → count new (links_bits (map (copied_link first) ls)) ≡ count old (links_bits ls)
  links_counted [] = refl
  links_counted (l ∷ ls) =
      let all = count_more new (wire_bits (copied_signal first l.left)) (links_bits (map (copied_link first) ls)) in
      let was = count_more old (wire_bits l.left) (links_bits ls) in
      let here = signal_moved l.left in
      let rest = links_counted ls in
      same_sum all was here rest
