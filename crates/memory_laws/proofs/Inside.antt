-- All that is built for a memory names wires that are there.
use Rattle.std.proofs.Common.{◌≡◌, ◌<◌, ◌≤◌, ℕ, zero, suc, ◌+◌, ◌^◌, Bool, true, false, List, [], ◌∷◌, ◌++◌, length, inl, inr, refl, arith, length-append}
use Rattle.std.specs.Prelude.{codes, drop, map, nat_lt, replicate, take}
use Rattle.rtl_bits.specs.Numbers.{bits_of}
use Rattle.rtl_bits.specs.declared.bit.Bit.{Bit}
use Rattle.rtl_bits.specs.declared.bit.Bit.TheVariants.{S1, X}
use Rattle.rtl_sig.specs.declared.sig.SigBit.{SigBit}
use Rattle.rtl_sig.specs.declared.sig.SigBit.TheVariants.{Fixed, Wire as OnWire}
use Rattle.rtl_ir.specs.Build.{Building, fresh_wire, inner_wire, integer_param, made_name, new_cell, new_driver, pin_of, whole}
use Rattle.rtl_ir.specs.declared.cell.Cell.{Cell}
use Rattle.rtl_ir.specs.declared.cell.CellParam.{CellParam}
use Rattle.rtl_ir.specs.declared.cell.Pin.{Pin}
use Rattle.rtl_ir.specs.declared.plan.WritePort.{WritePort}
use Rattle.rtl_ir.specs.declared.value.Attribute.{Attribute}
use Rattle.net_model.proofs.Ranges.{each_both, each_more, each_none}
use Rattle.net_model.specs.Mem.Expand.{address_match, low_bit, mux_of_signals, port_runs, port_step, ports_step, run_lengths, run_select}
use Rattle.net_model.specs.Within.{BitIn, CellIn, Each, LinkIn, SigIn}
use Rattle.map_laws.proofs.Wholes.{cell_more, link_more}
use Rattle.build_laws.proofs.CellFits.{whole_within}
use Rattle.memory_laws.proofs.PortSteps.{port_by}

-- how many wires there are
abbrev pub count_of : Building → ℕ
count_of b = length b.body.wires

-- each signal of a state names wires that it has
pub record IsIn (b : Building) : Type 0 where
  pub cells : Each (CellIn (length b.body.wires)) b.body.cells
  pub links : Each (LinkIn (length b.body.wires)) b.body.links

-- and so it is of a later state, which has no fewer wires
pub record StaysIn (old new : Building) : Type 0 where
  pub more : length old.body.wires ≤ length new.body.wires
  pub is : IsIn new

pub bit_more : (few many : ℕ) → few ≤ many → (s : SigBit) → BitIn few s → BitIn many s
bit_more few many h (Fixed b) i = tt
bit_more few many h (OnWire b) i = omega (arith, h, i)

pub sig_more : (few many : ℕ) → few ≤ many → (signal : List SigBit) → SigIn few signal → SigIn many signal
sig_more few many h signal i s j = bit_more few many h s (i s j)

pub stays_none : (b : Building) → IsIn b → StaysIn b b
stays_none b h = record { more = omega arith; is = h }

cons_in : (n : ℕ) (s : SigBit) (signal : List SigBit) → BitIn n s → SigIn n signal → SigIn n (s ∷ signal)
cons_in n s signal h i = each_more (BitIn n) s signal h i

pub one_in : (n : ℕ) (s : SigBit) → BitIn n s → SigIn n (s ∷ [])
one_in n s h = cons_in n s [] h (each_none (BitIn n))

pub fixed_in : (n : ℕ) (bits : List Bit) → SigIn n (map Fixed bits)
fixed_in n [] = each_none (BitIn n)
fixed_in n (b ∷ bits) = cons_in n (Fixed b) (map Fixed bits) tt (fixed_in n bits)

pub unknown_in : (n k : ℕ) → SigIn n (replicate k (Fixed X))
unknown_in n zero = each_none (BitIn n)
unknown_in n (suc k) = cons_in n (Fixed X) (replicate k (Fixed X)) tt (unknown_in n k)

pub low_in : (n : ℕ) (signal : List SigBit) → SigIn n signal → BitIn n (low_bit signal)
low_in n [] h = tt
low_in n (s ∷ signal) h = h s (inl refl)

take_in : (n k : ℕ) (signal : List SigBit) → SigIn n signal → SigIn n (take k signal)
take_in n zero signal h = each_none (BitIn n)
take_in n (suc k) [] h = each_none (BitIn n)
take_in n (suc k) (s ∷ signal) h = cons_in n s (take k signal) (h s (inl refl)) (take_in n k signal (λ x i. h x (inr i)))

pub drop_in : (n k : ℕ) (signal : List SigBit) → SigIn n signal → SigIn n (drop k signal)
drop_in n zero signal h = h
drop_in n (suc k) [] h = each_none (BitIn n)
drop_in n (suc k) (s ∷ signal) h = drop_in n k signal (λ x i. h x (inr i))

pins_none : (n : ℕ) → Each (λ (pin : Pin). SigIn n pin.sig) []
pins_none n = each_none (λ (pin : Pin). SigIn n pin.sig)

pins_more : (n : ℕ) (pin : Pin) (pins : List Pin) → SigIn n pin.sig → Each (λ (q : Pin). SigIn n q.sig) pins → Each (λ (q : Pin). SigIn n q.sig) (pin ∷ pins)
pins_more n pin pins h i = each_more (λ (q : Pin). SigIn n q.sig) pin pins h i

two_pins : (n : ℕ) (a b : Pin) → SigIn n a.sig → SigIn n b.sig → Each (λ (q : Pin). SigIn n q.sig) (a ∷ b ∷ [])
two_pins n a b h i = pins_more n a (b ∷ []) h (pins_more n b [] i (pins_none n))

pub three_pins : (n : ℕ) (a b c : Pin) → SigIn n a.sig → SigIn n b.sig → SigIn n c.sig → Each (λ (q : Pin). SigIn n q.sig) (a ∷ b ∷ c ∷ [])
three_pins n a b c h i j = pins_more n a (b ∷ c ∷ []) h (two_pins n b c i j)

-- a new cell
pub cell_stays : (name : List ℕ) (params : List CellParam) (pins : List Pin) (b : Building) → IsIn b → Each (λ (pin : Pin). SigIn (count_of b) pin.sig) pins → StaysIn b (new_cell name params pins b)
cell_stays name params pins b h i = record {
  more = omega arith;
  is = record {
    cells = each_both (CellIn (length b.body.wires)) b.body.cells _ h.cells (each_more (CellIn (length b.body.wires)) (record { kind_name = name; name = made_name b.next; params = params; pins = pins; attributes = [] }) [] i (each_none (CellIn (length b.body.wires))));
    links = h.links;
  };
}

-- a fresh wire
pub wire_stays : (width : ℕ) (attributes : List Attribute) (b : Building) → IsIn b → StaysIn b (fresh_wire width attributes b).1
wire_stays width attributes b h =
    let count : length (fresh_wire width attributes b).1.body.wires ≡ length b.body.wires + 1 = length-append b.body.wires (inner_wire (made_name b.next) width attributes ∷ []) in
    let more : length b.body.wires ≤ length (fresh_wire width attributes b).1.body.wires = omega (arith, count) in
    record {
      more = more;
      is = record { cells = λ c i. cell_more _ _ c more (h.cells c i); links = λ l i. link_more _ _ l more (h.links l i) };
    }

pub wire_in : (width : ℕ) (attributes : List Attribute) (b : Building) → SigIn (count_of (fresh_wire width attributes b).1) (fresh_wire width attributes b).0
wire_in width attributes b =
    let count : length (fresh_wire width attributes b).1.body.wires ≡ length b.body.wires + 1 = length-append b.body.wires (inner_wire (made_name b.next) width attributes ∷ []) in
    whole_within (count_of (fresh_wire width attributes b).1) (length b.body.wires) width (omega (arith, count))

-- a state and a signal that names wires of it
pub record Gives (old new : Building) (signal : List SigBit) : Type 0 where
  pub stays : StaysIn old new
  pub within : SigIn (length new.body.wires) signal

driver_gives : (name : List ℕ) (params : List CellParam) (pins : List Pin) (width : ℕ) (b : Building) → IsIn b → Each (λ (pin : Pin). SigIn (count_of b) pin.sig) pins → Gives b (new_driver name params pins (codes "\\Y") width b).1 (new_driver name params pins (codes "\\Y") width b).0
driver_gives name params pins width b h i =
    let made : Building = (new_driver name params pins (codes "\\Y") width b).1 in
    let count : length made.body.wires ≡ length b.body.wires + 1 = length-append b.body.wires (inner_wire (made_name (b.next + 1)) width [] ∷ []) in
    let more : length b.body.wires ≤ length made.body.wires = omega (arith, count) in
    let there : length b.body.wires < length made.body.wires = omega (arith, count) in
    let own : SigIn (length made.body.wires) (whole (length b.body.wires) width) = whole_within (length made.body.wires) (length b.body.wires) width there in
    let c : Cell = record { kind_name = name; name = made_name b.next; params = params; pins = pins ++ pin_of (codes "\\Y") (whole (length b.body.wires) width) ∷ []; attributes = [] } in
    record {
      stays = record {
        more = more;
        is = record {
          cells = each_both (CellIn (length made.body.wires)) b.body.cells (c ∷ []) (λ d j. cell_more _ _ d more (h.cells d j))
              (each_more (CellIn (length made.body.wires)) c []
              (each_both (λ (pin : Pin). SigIn (length made.body.wires) pin.sig) pins (pin_of (codes "\\Y") (whole (length b.body.wires) width) ∷ []) (λ pin j. sig_more _ _ more pin.sig (i pin j)) (pins_more (length made.body.wires) (pin_of (codes "\\Y") (whole (length b.body.wires) width)) [] own (pins_none (length made.body.wires))))
              (each_none (CellIn (length made.body.wires))));
          links = λ l j. link_more _ _ l more (h.links l j);
        };
      };
      within = own;
    }

match_gives : (address : List SigBit) (number : ℕ) (b : Building) → IsIn b → SigIn (count_of b) address → StaysIn b (address_match address number b).1 × BitIn (count_of (address_match address number b).1) (address_match address number b).0
match_gives address number b h i =
    let g = driver_gives (codes "$eq") _ (pin_of (codes "\\A") address ∷ pin_of (codes "\\B") (map Fixed (bits_of number (length address))) ∷ []) 1 b h
    (two_pins (count_of b) (pin_of (codes "\\A") address) (pin_of (codes "\\B") (map Fixed (bits_of number (length address)))) i (fixed_in (count_of b) (bits_of number (length address)))) in
    (g.stays, low_in (count_of (address_match address number b).1) (whole (count_of b) 1) g.within)

select_gives : (match enable : SigBit) (b : Building) → IsIn b → BitIn (count_of b) match → BitIn (count_of b) enable → StaysIn b (run_select match enable b).1 × BitIn (count_of (run_select match enable b).1) (run_select match enable b).0
select_gives match (Fixed S1) b h i j = (stays_none b h, i)
select_gives match enable b h i j =
    let params = integer_param (codes "\\A_SIGNED") 0 ∷ integer_param (codes "\\A_WIDTH") 1 ∷ integer_param (codes "\\B_SIGNED") 0 ∷ integer_param (codes "\\B_WIDTH") 1 ∷ integer_param (codes "\\Y_WIDTH") 1 ∷ [] in
    let made : Building = (new_driver (codes "$and") params (pin_of (codes "\\A") (match ∷ []) ∷ pin_of (codes "\\B") (enable ∷ []) ∷ []) (codes "\\Y") 1 b).1 in
    let g = driver_gives (codes "$and") params (pin_of (codes "\\A") (match ∷ []) ∷ pin_of (codes "\\B") (enable ∷ []) ∷ []) 1 b h
    (two_pins (count_of b) (pin_of (codes "\\A") (match ∷ [])) (pin_of (codes "\\B") (enable ∷ [])) (one_in (count_of b) match i) (one_in (count_of b) enable j)) in
    (g.stays, low_in (count_of made) (whole (count_of b) 1) g.within)

pub mux_gives : (a c : List SigBit) (s : SigBit) (b : Building) → IsIn b → SigIn (count_of b) a → SigIn (count_of b) c → BitIn (count_of b) s → Gives b (mux_of_signals a c s b).1 (mux_of_signals a c s b).0
mux_gives a c s b h i j k =
    driver_gives (codes "$mux") _ (pin_of (codes "\\A") a ∷ pin_of (codes "\\B") c ∷ pin_of (codes "\\S") (s ∷ []) ∷ []) (length a) b h
    (three_pins (count_of b) (pin_of (codes "\\A") a) (pin_of (codes "\\B") c) (pin_of (codes "\\S") (s ∷ [])) i j (one_in (count_of b) s k))

runs_give : (match : SigBit) (runs : List ℕ) (acc new enable : List SigBit) (b : Building) → IsIn b → BitIn (count_of b) match → SigIn (count_of b) acc → SigIn (count_of b) new → SigIn (count_of b) enable → Gives b (port_runs match runs acc new enable b).1 (port_runs match runs acc new enable b).0
runs_give match [] acc new enable b h i j k l = record { stays = stays_none b h; within = each_none (BitIn (count_of b)) }
runs_give match (n ∷ runs) acc new enable b h i j k l =
    let select = run_select match (low_bit enable) b in
    let mux = mux_of_signals (take n acc) (take n new) select.0 select.1 in
    let rest = port_runs match runs (drop n acc) (drop n new) (drop n enable) mux.1 in
    let s = select_gives match (low_bit enable) b h i (low_in (count_of b) enable l) in
    let first : count_of b ≤ count_of select.1 = s.0.more in
    let m = mux_gives (take n acc) (take n new) select.0 select.1 s.0.is (sig_more _ _ first (take n acc) (take_in (count_of b) n acc j)) (sig_more _ _ first (take n new) (take_in (count_of b) n new k)) s.1 in
    let second : count_of b ≤ count_of mux.1 = omega (arith, first, m.stays.more) in
    let r = runs_give match runs (drop n acc) (drop n new) (drop n enable) mux.1 m.stays.is (bit_more _ _ second match i) (sig_more _ _ second (drop n acc) (drop_in (count_of b) n acc j)) (sig_more _ _ second (drop n new) (drop_in (count_of b) n new k)) (sig_more _ _ second (drop n enable) (drop_in (count_of b) n enable l)) in
    record {
      stays = record { more = omega (arith, second, r.stays.more); is = r.stays.is };
      within = each_both (BitIn (count_of rest.1)) mux.0 rest.0 (sig_more _ _ r.stays.more mux.0 m.within) r.within;
    }

-- a write port
pub record PortIn (n : ℕ) (port : WritePort) : Type 0 where
  pub address : SigIn n port.address
  pub new : SigIn n port.data
  pub enable : SigIn n port.enable

pub port_more : (few many : ℕ) → few ≤ many → (port : WritePort) → PortIn few port → PortIn many port
port_more few many h port i =
    record { address = sig_more few many h port.address i.address; new = sig_more few many h port.data i.new; enable = sig_more few many h port.enable i.enable }

port_gives : (address : ℕ) (port : WritePort) (acc : List SigBit) (b : Building) → IsIn b → PortIn (count_of b) port → SigIn (count_of b) acc → Gives b (port_step address port acc b).1 (port_step address port acc b).0
port_gives address port acc b h i j = by (nat_lt address (2 ^ length port.address))
  where
    by : (t : Bool) → Gives b (port_by t address port acc b).1 (port_by t address port acc b).0
    by true =
        let match = address_match port.address address b in
        let m = match_gives port.address address b h i.address in
        let more : count_of b ≤ count_of match.1 = m.0.more in
        let p = port_more _ _ more port i in
        let r = runs_give match.0 (run_lengths (length port.enable) port.enable) acc port.data port.enable match.1 m.0.is m.1 (sig_more _ _ more acc j) p.new p.enable in
        record { stays = record { more = omega (arith, more, r.stays.more); is = r.stays.is }; within = r.within }
    by false = record { stays = stays_none b h; within = j }

pub ports_give : (address : ℕ) (ports : List WritePort) (acc : List SigBit) (b : Building) → IsIn b → Each (PortIn (count_of b)) ports → SigIn (count_of b) acc → Gives b (ports_step address ports acc b).1 (ports_step address ports acc b).0
ports_give address [] acc b h i j = record { stays = stays_none b h; within = j }
ports_give address (port ∷ ports) acc b h i j =
    let next = port_step address port acc b in
    let p = port_gives address port acc b h (i port (inl refl)) j in
    let r = ports_give address ports next.0 next.1 p.stays.is (λ q k. port_more _ _ p.stays.more q (i q (inr k))) p.within in
    record { stays = record { more = omega (arith, p.stays.more, r.stays.more); is = r.stays.is }; within = r.within }
