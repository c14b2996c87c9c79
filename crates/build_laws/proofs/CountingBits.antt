-- How often bits are driven: those of fresh wires once, and those of other wires as often as before.
use Rattle.std.proofs.Common.{◌≡◌, ◌≤◌, ◌<◌, ℕ, zero, suc, ◌+◌, Bool, true, false, cond, if◌then◌else◌, List, [], ◌∷◌, ◌++◌, length, inl, inr, ⊎_elim, refl, sym, ◌∙◌, ap, arith, append_assoc}
use Rattle.std.specs.Prelude.{◌==◌, ◌&&◌, count_by, flat_map, map, nat_lt}
use Rattle.std.specs.List.{fold, range_with_len}
use Rattle.std.proofs.lemmas.Bool.{and_parts, cases_lt, eqb-false, eqb-true, le-ltb, ltb-false}
use Rattle.rtl_sig.specs.declared.sig.SigBit.{SigBit}
use Rattle.rtl_sig.specs.declared.sig.SigBit.TheVariants.{Fixed, Wire as OnWire}
use Rattle.rtl_sig.specs.declared.sig.WireBit.{WireBit}
use Rattle.rtl_ir.specs.Drivers.{Drive, FromPort, all_by, drive_count, is_input, port_drives}
use Rattle.rtl_ir.specs.Fault.{Fault, TwoDrivers, fault_if}
use Rattle.rtl_ir.specs.Faults.Bits.{bit_faults, bits_faults, faults_of_two}
use Rattle.rtl_ir.specs.Outputs.{drives_pin}
use Rattle.rtl_ir.specs.Signals.{bits_of_wire, same_bit, wire_bits}
use Rattle.rtl_ir.specs.Types.{CellType, Ports, cell_type}
use Rattle.rtl_ir.specs.declared.cell.Cell.{Cell}
use Rattle.rtl_ir.specs.declared.cell.Pin.{Pin}
use Rattle.rtl_ir.specs.declared.module.Link.{Link}
use Rattle.rtl_ir.specs.declared.wire.Wire.{Wire}
use Rattle.net_model.proofs.Members.{In-cases, In-mapped}
use Rattle.net_model.proofs.Ranges.{each_both, each_more, each_none}
use Rattle.net_model.specs.Lists.{Distinct, In}
use Rattle.net_model.specs.Within.{CellIn, Each, LinkIn, SigIn}
use Rattle.map_laws.specs.Expansion.{bits_from}
use Rattle.pass_laws.proofs.Counting.{bits_of, count, count_more}
use Rattle.pass_laws.proofs.Faultless.{none_left, none_right}
use Rattle.pass_laws.specs.Bits.{cells_bits, links_bits, pin_bits}
use Rattle.build_laws.specs.Rebuilds.{AreAmong}
use Rattle.build_laws.proofs.CountingItems.{distinct_once, in_often, often, often_in, once_distinct, times}
use Rattle.pass_laws.proofs.Once.{bit_same}

-- the three ways in which bits are counted are one
count_often : (b : WireBit) (xs : List WireBit) → count b xs ≡ often same_bit b xs
count_often b [] = refl
count_often b (x ∷ xs) = omega (arith, count_often b xs)

counted_from : (b : WireBit) (n : ℕ) (xs : List WireBit) → fold (λ k (x : WireBit). k + cond (same_bit x b) 1 0) n xs ≡ n + count b xs
counted_from b n [] = omega arith
counted_from b n (x ∷ xs) = omega (arith, counted_from b (n + cond (same_bit x b) 1 0) xs)

pub count_is : (b : WireBit) (xs : List WireBit) → count_by (λ x. same_bit x b) xs ≡ count b xs
count_is b xs = omega (arith, counted_from b 0 xs)

-- to be among bits is to be counted no more often
pub among : (xs ys : List WireBit) → ((b : WireBit) → count b xs ≤ count b ys) → AreAmong xs ys
among xs ys h b = omega (arith, h b, count_is b xs, count_is b ys)

pub fewer : (xs ys : List WireBit) → AreAmong xs ys → (b : WireBit) → count b xs ≤ count b ys
fewer xs ys h b = omega (arith, h b, count_is b xs, count_is b ys)

-- bits that stand once
pub count_once : (xs : List WireBit) → Distinct xs → (b : WireBit) → count b xs ≤ 1
count_once xs h b = omega (arith, count_often b xs, distinct_once same_bit bit_same xs h b)

pub among_distinct : (xs ys : List WireBit) → AreAmong xs ys → Distinct ys → Distinct xs
among_distinct xs ys h d =
    once_distinct same_bit bit_same xs (λ b. omega (arith, fewer xs ys h b, count_once ys d b, count_often b xs))

pub among_in : (xs ys : List WireBit) → AreAmong xs ys → (b : WireBit) → In b xs → In b ys
among_in xs ys h b i =
    let some : 1 ≤ often same_bit b xs = in_often same_bit bit_same b xs i in
    often_in same_bit bit_same b ys (omega (arith, some, fewer xs ys h b, count_often b xs, count_often b ys))

other_wire : (x b : WireBit) → (x.wire ≡ b.wire → ⊥) → same_bit x b ≡ false
other_wire x b differ = by (x.wire == b.wire) refl
  where
    by : (t : Bool) → (x.wire == b.wire) ≡ t → (t && (x.at == b.at)) ≡ false
    by true e = absurd (differ (eqb-true x.wire b.wire e))
    by false e = refl

not_counted : (x b : WireBit) → (x.wire ≡ b.wire → ⊥) → times (same_bit x b) ≡ 0
not_counted x b differ = ap times (other_wire x b differ)

-- each of these bits is on one of so many wires
abbrev pub AreBelow : ℕ → List WireBit → Type 0
AreBelow n bits = Each (λ (x : WireBit). x.wire < n) bits

pub count_beyond : (n : ℕ) (b : WireBit) (xs : List WireBit) → AreBelow n xs → n ≤ b.wire → count b xs ≡ 0
count_beyond n b [] h k = refl
count_beyond n b (x ∷ xs) h k =
    let low : x.wire < n = h x (inl refl) in
    let first = not_counted x b (λ e. omega (arith, e, low, k)) in
    omega (arith, first, count_beyond n b xs (λ y i. h y (inr i)) k)

module _ (n : ℕ) where
  abbrev Low : WireBit → Type 0
  Low x = x.wire < n

  signal_below : (signal : List SigBit) → SigIn n signal → AreBelow n (wire_bits signal)
  signal_below [] h = each_none Low
  signal_below (Fixed c ∷ signal) h = signal_below signal (λ s j. h s (inr j))
  signal_below (OnWire b ∷ signal) h = each_more Low b (wire_bits signal) (h (OnWire b) (inl refl)) (signal_below signal (λ s j. h s (inr j)))

  pins_below : (type : CellType) (pins : List Pin) → Each (λ (pin : Pin). SigIn n pin.sig) pins → AreBelow n (pin_bits type pins)
  pins_below type [] h = each_none Low
  pins_below type (p ∷ ps) h =
      each_both Low _ (pin_bits type ps) (by (drives_pin type p.name)) (pins_below type ps (λ q j. h q (inr j)))
    where
      by : (t : Bool) → AreBelow n (if t then wire_bits p.sig else [])
      by true = signal_below p.sig (h p (inl refl))
      by false = each_none Low

  pub cells_below : (ports : Ports) (cs : List Cell) → Each (CellIn n) cs → AreBelow n (cells_bits ports cs)
  cells_below ports [] h = each_none Low
  cells_below ports (c ∷ cs) h =
      each_both Low (pin_bits (cell_type ports c.kind_name) c.pins) (cells_bits ports cs) (pins_below (cell_type ports c.kind_name) c.pins (h c (inl refl))) (cells_below ports cs (λ d j. h d (inr j)))

  pub links_below : (ls : List Link) → Each (LinkIn n) ls → AreBelow n (links_bits ls)
  links_below [] h = each_none Low
  links_below (l ∷ ls) h =
      each_both Low (wire_bits l.left) (links_bits ls) (signal_below l.left (h l (inl refl)).0) (links_below ls (λ k j. h k (inr j)))

  pub ports_below : (first : ℕ) (ws : List Wire) → first + length ws ≤ n → AreBelow n (bits_of (port_drives first ws))
  ports_below first [] h = each_none Low
  ports_below first (w ∷ ws) h = by (ports_below (first + 1) ws (omega (arith, h))) (is_input w.role)
    where
      both : AreBelow n (bits_of (port_drives (first + 1) ws)) → (ats : List ℕ) → AreBelow n (bits_of (all_by FromPort (map (λ at. record { wire = first; at = at }) ats) ++ port_drives (first + 1) ws))
      both later [] = later
      both later (at ∷ ats) = each_more Low (record { wire = first; at = at }) _ (omega (arith, h)) (both later ats)

      by : AreBelow n (bits_of (port_drives (first + 1) ws)) → (t : Bool) → AreBelow n (bits_of ((if t then all_by FromPort (bits_of_wire first w.width) else []) ++ port_drives (first + 1) ws))
      by later true = both later (range_with_len 0 w.width)
      by later false = later

-- the bits of fresh wires stand on wires from the first one on
pub fresh_above : (first : ℕ) (ws : List Wire) (b : WireBit) → In b (bits_from first ws) → first ≤ b.wire
fresh_above first [] b i = absurd i
fresh_above first (w ∷ ws) b i =
    ⊎_elim
    (λ l.
    let k = In-mapped (λ at. record { wire = first; at = at }) b (range_with_len 0 w.width) l in
    let here : b.wire ≡ first = ap (λ (x : WireBit). x.wire) k.2 in
    omega (arith, here))
    (λ r. omega (arith, fresh_above (first + 1) ws b r))
    (In-cases b (bits_of_wire first w.width) (bits_from (first + 1) ws) i)

pub fresh_in : (n first : ℕ) (ws : List Wire) → first + length ws ≤ n → AreBelow n (bits_from first ws)
fresh_in n first [] h b i = absurd i
fresh_in n first (w ∷ ws) h b i =
    ⊎_elim
    (λ l.
    let k = In-mapped (λ at. record { wire = first; at = at }) b (range_with_len 0 w.width) l in
    let here : b.wire ≡ first = ap (λ (x : WireBit). x.wire) k.2 in
    omega (arith, here, h))
    (λ r. fresh_in n (first + 1) ws (omega (arith, h)) b r)
    (In-cases b (bits_of_wire first w.width) (bits_from (first + 1) ws) i)

-- and once each
pub fresh_below : (b : WireBit) (first : ℕ) (ws : List Wire) → b.wire < first → count b (bits_from first ws) ≡ 0
fresh_below b first [] h = refl
fresh_below b first (w ∷ ws) h =
    count_more b (bits_of_wire first w.width) (bits_from (first + 1) ws)
    ∙ (λ i. none (range_with_len 0 w.width) i + fresh_below b (first + 1) ws (omega (arith, h)) i)
  where
    none : (ats : List ℕ) → count b (map (λ at. record { wire = first; at = at }) ats) ≡ 0
    none [] = refl
    none (at ∷ ats) = omega (arith, not_counted (record { wire = first; at = at }) b (λ e. omega (arith, e, h)), none ats)

module _ (b : WireBit) (wire : ℕ) where
  abbrev on : List ℕ → List WireBit
  on ats = map (λ at. record { wire = wire; at = at }) ats

  lower : (low n : ℕ) → b.at < low → count b (on (range_with_len low n)) ≡ 0
  lower low zero h = refl
  lower low (suc n) h =
      let here : times (same_bit (record { wire = wire; at = low }) b) ≡ 0 = ap times (by (wire == b.wire) (low == b.at) refl) in
      omega (arith, here, lower (low + 1) n (omega (arith, h)))
    where
      by : (t u : Bool) → (low == b.at) ≡ u → (t && u) ≡ false
      by t true e = let same : low ≡ b.at = eqb-true low b.at e in absurd (omega (arith, same, h))
      by true false e = refl
      by false false e = refl

  once : (low n : ℕ) → count b (on (range_with_len low n)) ≤ 1
  once low zero = omega arith
  once low (suc n) = by (once (low + 1) n) (same_bit (record { wire = wire; at = low }) b) refl
    where
      by : count b (on (range_with_len (low + 1) n)) ≤ 1 → (t : Bool) → same_bit (record { wire = wire; at = low }) b ≡ t → times t + count b (on (range_with_len (low + 1) n)) ≤ 1
      by later true e =
          let same : low ≡ b.at = eqb-true low b.at (and_parts (wire == b.wire) (low == b.at) e).1 in
          omega (arith, lower (low + 1) n (omega (arith, same)))
      by later false e = omega (arith, later)

  other : (ats : List ℕ) → (wire ≡ b.wire → ⊥) → count b (on ats) ≡ 0
  other [] differ = refl
  other (at ∷ ats) differ = omega (arith, not_counted (record { wire = wire; at = at }) b differ, other ats differ)

pub fresh_once : (b : WireBit) (first : ℕ) (ws : List Wire) → count b (bits_from first ws) ≤ 1
fresh_once b first [] = omega arith
fresh_once b first (w ∷ ws) = by (fresh_once b (first + 1) ws) (first == b.wire) refl
  where
    both : count b (bits_of_wire first w.width ++ bits_from (first + 1) ws) ≡ count b (bits_of_wire first w.width) + count b (bits_from (first + 1) ws)
    both = count_more b (bits_of_wire first w.width) (bits_from (first + 1) ws)

    by : count b (bits_from (first + 1) ws) ≤ 1 → (t : Bool) → (first == b.wire) ≡ t → count b (bits_of_wire first w.width ++ bits_from (first + 1) ws) ≤ 1
    by later true e =
        let same : first ≡ b.wire = eqb-true first b.wire e in
        omega (arith, both, once b first 0 w.width, fresh_below b (first + 1) ws (omega (arith, same)))
    by later false e =
        let none : count b (bits_of_wire first w.width) ≡ 0 = other b first (range_with_len 0 w.width) (eqb-false first b.wire e) in
        omega (arith, both, none, later)

pub fresh_distinct : (first : ℕ) (ws : List Wire) → Distinct (bits_from first ws)
fresh_distinct first ws =
    once_distinct same_bit bit_same (bits_from first ws) (λ b. omega (arith, fresh_once b first ws, count_often b (bits_from first ws)))

-- the faults of bits with two drivers
module _ (id : List ℕ) (es : List Drive) where
  none_at : (wire : ℕ) (w : Wire) (at : ℕ) → drive_count es (record { wire = wire; at = at }) ≤ 1 → bit_faults id es wire w at ≡ []
  none_at wire w at h = ap (λ t. if t then faults_of_two id w at else []) (le-ltb 1 (drive_count es (record { wire = wire; at = at })) h)

  none_in : (wire : ℕ) (w : Wire) (ats : List ℕ) → ((at : ℕ) → drive_count es (record { wire = wire; at = at }) ≤ 1) → flat_map (bit_faults id es wire w) ats ≡ []
  none_in wire w [] h = refl
  none_in wire w (at ∷ ats) h = λ i. none_at wire w at (h at) i ++ none_in wire w ats h i

  -- where each bit from a wire on has one driver at most, those wires have no faults
  none_from : (n first : ℕ) (ws : List Wire) → n ≤ first → ((b : WireBit) → n ≤ b.wire → drive_count es b ≤ 1) → bits_faults id es first ws ≡ []
  none_from n first [] h few = refl
  none_from n first (w ∷ ws) h few =
      λ i. none_in first w (range_with_len 0 w.width) (λ at. few (record { wire = first; at = at }) h) i ++ none_from n (first + 1) ws (omega (arith, h)) few i

  faults_split : (first : ℕ) (ws fs : List Wire) → bits_faults id es first (ws ++ fs) ≡ bits_faults id es first ws ++ bits_faults id es (first + length ws) fs
  faults_split first [] fs = ap (λ n. bits_faults id es n fs) (omega arith)
  faults_split first (w ∷ ws) fs =
      let place : (first + 1) + length ws ≡ first + length (w ∷ ws) = omega arith in
      let here : List Fault = flat_map (bit_faults id es first w) (range_with_len 0 w.width) in
      ap (λ z. here ++ z) (faults_split (first + 1) ws fs ∙ ap (λ n. bits_faults id es (first + 1) ws ++ bits_faults id es n fs) place)
      ∙ sym (append_assoc here (bits_faults id es (first + 1) ws) (bits_faults id es (first + length (w ∷ ws)) fs))

  -- where no bit of the first wires is driven more often, these have no further faults
  module _ (ds : List Drive) (n : ℕ) (less : (b : WireBit) → b.wire < n → drive_count es b ≤ drive_count ds b) where
    less_here : (wire : ℕ) (w : Wire) (at : ℕ) → wire < n → bit_faults id ds wire w at ≡ [] → bit_faults id es wire w at ≡ []
    less_here wire w at h e =
        none_at wire w at (omega (arith, less (record { wire = wire; at = at }) h, ltb-false 1 (drive_count ds (record { wire = wire; at = at })) (one (nat_lt 1 (drive_count ds (record { wire = wire; at = at }))) e)))
      where
        more : (xs : List Fault) (x : Fault) → xs ++ x ∷ [] ≡ [] → ⊥
        more [] x f = absurd (cc)
        more (y ∷ ys) x f = absurd (cc)

        one : (t : Bool) → (if t then faults_of_two id w at else []) ≡ [] → t ≡ false
        one false f = refl
        one true f = absurd (more (fault_if _ _) (TwoDrivers id w.name at) f)

    less_in : (wire : ℕ) (w : Wire) (ats : List ℕ) → wire < n → flat_map (bit_faults id ds wire w) ats ≡ [] → flat_map (bit_faults id es wire w) ats ≡ []
    less_in wire w [] h e = refl
    less_in wire w (at ∷ ats) h e =
        let a : bit_faults id es wire w at ≡ [] = less_here wire w at h (none_left (bit_faults id ds wire w at) (flat_map (bit_faults id ds wire w) ats) e) in
        let b : flat_map (bit_faults id es wire w) ats ≡ [] = less_in wire w ats h (none_right (bit_faults id ds wire w at) (flat_map (bit_faults id ds wire w) ats) e) in
        λ i. a i ++ b i

    less_first : (first : ℕ) (ws : List Wire) → first + length ws ≤ n → bits_faults id ds first ws ≡ [] → bits_faults id es first ws ≡ []
    less_first first [] h e = refl
    less_first first (w ∷ ws) h e =
        let here : List Fault = flat_map (bit_faults id ds first w) (range_with_len 0 w.width) in
        let a : flat_map (bit_faults id es first w) (range_with_len 0 w.width) ≡ [] = less_in first w (range_with_len 0 w.width) (omega (arith, h)) (none_left here (bits_faults id ds (first + 1) ws) e) in
        let b : bits_faults id es (first + 1) ws ≡ [] = less_first (first + 1) ws (omega (arith, h)) (none_right here (bits_faults id ds (first + 1) ws) e) in
        λ i. a i ++ b i

    -- where besides each further bit has one driver at most, no bit has a fault
    pub no_two : (ws fs : List Wire) → n ≡ length ws → ((b : WireBit) → n ≤ b.wire → drive_count es b ≤ 1) → bits_faults id ds 0 ws ≡ [] → bits_faults id es 0 (ws ++ fs) ≡ []
    no_two ws fs e few none =
        let first = less_first 0 ws (omega (arith, e)) none in
        let last = none_from n (0 + length ws) fs (omega (arith, e)) few in
        faults_split 0 ws fs ∙ (λ i. first i ++ last i)

-- where no bit has two drivers, none has after drives that drive bits of the old wires no more often, and other bits once at most
pub once_more : (n : ℕ) (ds es : List Drive) → ((b : WireBit) → b.wire < n → drive_count es b ≤ drive_count ds b) → ((b : WireBit) → n ≤ b.wire → drive_count es b ≤ 1) → ((b : WireBit) → drive_count ds b ≤ 1) → (b : WireBit) → drive_count es b ≤ 1
once_more n ds es old new once b = ⊎_elim (λ l. omega (arith, old b l, once b)) (λ r. new b r) (cases_lt b.wire n)
