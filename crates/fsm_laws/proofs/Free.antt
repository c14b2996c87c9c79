-- Signals that lead neither to the state nor to the outputs of the tree carry nothing of the state.
use Rattle.std.proofs.Common.{◌≡◌, ℕ, zero, suc, ◌+◌, Bool, true, false, cond, List, [], ◌∷◌, ◌++◌, length, map, Option, Some, None, inl, inr, refl, sym, ◌∙◌, ap, subst, arith}
use Rattle.std.specs.Prelude.{◌==◌, ◌&&◌, ◌||◌, find, flat_map, nat_le, not, slice_get}
use Rattle.std.specs.List.{list_all, list_any}
use Rattle.std.specs.Option.{option_map_or}
use Rattle.std.specs.Str.{bytes_eq}
use Rattle.std.proofs.lemmas.Slice.Eq.{bytes_eq-Decides}
use Rattle.rtl_bits.specs.Knowledge.{all_known, is_known}
use Rattle.rtl_bits.specs.declared.bit.Bit.{Bit}
use Rattle.std.proofs.lemmas.Bool.{and_parts, or_parts}
use Rattle.std.proofs.lemmas.Bool.Decides.{nat_tests}
use Rattle.cell_types.specs.declared.pin_name.PinName.TheVariants.{Y}
use Rattle.rtl_sig.specs.declared.sig.SigBit.{SigBit}
use Rattle.rtl_sig.specs.declared.sig.SigBit.TheVariants.{Fixed, Wire as OnWire}
use Rattle.rtl_sig.specs.declared.sig.WireBit.{WireBit}
use Rattle.rtl_ir.specs.Build.{pin_of, whole}
use Rattle.rtl_ir.specs.Follow.{follow}
use Rattle.rtl_ir.specs.Outputs.{drives_pin}
use Rattle.rtl_ir.specs.Parameters.{signal_at}
use Rattle.rtl_ir.specs.Signals.{has_bit, same_bit, wire_bits}
use Rattle.rtl_ir.specs.Types.{Ports, cell_type}
use Rattle.rtl_ir.specs.declared.cell.Cell.{Cell}
use Rattle.rtl_ir.specs.declared.cell.Pin.{Pin}
use Rattle.rtl_ir.specs.declared.machine.Machine.{Machine}
use Rattle.rtl_ir.specs.declared.module.Module.{Module}
use Rattle.rtl_ir.specs.declared.wire.Wire.{Wire}
use Rattle.net_model.proofs.Ranges.{each_none}
use Rattle.net_model.specs.Fsm.Find.{at_pin, cells_at_places, cells_read_well, compares, fits_code, followed_bits, is_output_pin, may_read, meets_any, option_state, ports_read_well, reads_well, start_bits, tree_outputs}
use Rattle.net_model.specs.Lists.{In}
use Rattle.net_model.specs.Within.{BitIn, Each, SigIn}
use Rattle.pass_laws.specs.Ready.{IsReady}
use Rattle.pass_laws.proofs.Finding.{in_place}
use Rattle.fsm_laws.specs.Carried.{carrier_in, carrier_of, place_in}
use Rattle.fsm_laws.specs.Machines.{IsFoundMachine}
use Rattle.fsm_laws.specs.Recoded.{outputs_made}
use Rattle.fsm_laws.specs.Recodes.{IsFree, IsOf}
use Rattle.fsm_laws.proofs.Setting.{coding, outputs, state}

equal_flips : (a b : ℕ) → (a == b) ≡ (b == a)
equal_flips a b = grind (arith, nat_tests)

same_flips : (a b : WireBit) → same_bit a b ≡ same_bit b a
same_flips a b = λ i. equal_flips a.wire b.wire i && equal_flips a.at b.at i

-- a bit that does not stand in a signal has no place there
place_none : (signal : List SigBit) (b : WireBit) (at : ℕ) → has_bit (wire_bits signal) b ≡ false → place_in signal b at ≡ None
place_none [] b at e = refl
place_none (Fixed c ∷ signal) b at e = place_none signal b (at + 1) e
place_none (OnWire x ∷ signal) b at e =
    let parts = or_parts (same_bit b x) (has_bit (wire_bits signal) b) e in
    ap (λ t. cond t (Some at) (place_in signal b (at + 1))) (same_flips x b ∙ parts.0) ∙ place_none signal b (at + 1) parts.1

has_append : (xs ys : List WireBit) (b : WireBit) → has_bit (xs ++ ys) b ≡ false → (has_bit xs b ≡ false) × (has_bit ys b ≡ false)
has_append [] ys b e = (refl, e)
has_append (x ∷ xs) ys b e =
    let parts = or_parts (same_bit b x) (has_bit (xs ++ ys) b) e in
    let later = has_append xs ys b parts.1 in
    ((λ i. parts.0 i || later.0 i), later.1)

-- one that no cell of the tree has in its output carries nothing of it
tree_none : (width : ℕ) (cells : List Cell) (wire : ℕ) (places : List ℕ) (b : WireBit) → has_bit (flat_map (λ (c : Cell). wire_bits (at_pin c Y)) (cells_at_places cells places)) b ≡ false → carrier_in (outputs_made width cells wire places) b ≡ None
tree_none width cells wire [] b e = refl
tree_none width cells wire (at ∷ places) b e = by (slice_get cells at) e (tree_none width cells (wire + 1) places b)
  where
    by : (o : Option Cell) → has_bit (flat_map (λ (c : Cell). wire_bits (at_pin c Y)) (option_map_or (λ (c : Cell). c ∷ []) o [] ++ cells_at_places cells places)) b ≡ false
        → (has_bit (flat_map (λ (c : Cell). wire_bits (at_pin c Y)) (cells_at_places cells places)) b ≡ false → carrier_in (outputs_made width cells (wire + 1) places) b ≡ None)
        → carrier_in (option_map_or (λ (c : Cell). record { before = at_pin c Y; after = whole wire width } ∷ []) o [] ++ outputs_made width cells (wire + 1) places) b ≡ None
    by None f later = later f
    by (Some c) f later =
        let parts = has_append (wire_bits (at_pin c Y)) (flat_map (λ (c : Cell). wire_bits (at_pin c Y)) (cells_at_places cells places)) b f in
        ap (λ o. option_map_or (λ k. Some (record { code = whole wire width; bit = k })) o (carrier_in (outputs_made width cells (wire + 1) places) b)) (place_none (at_pin c Y) b 0 parts.0) ∙ later parts.1

-- a bit of a signal is among the bits that the signal leads to
bit_none : (m : Module) (others : List WireBit) (signal : List SigBit) → meets_any (followed_bits m signal) others ≡ false → (s : SigBit) → In s signal → (b : WireBit) → follow m.links s ≡ OnWire b → has_bit others b ≡ false
bit_none m others [] e s i b f = absurd i
bit_none m others (t ∷ signal) e s i b f = by (follow m.links t) refl e i (bit_none m others signal)
  where
    by : (u : SigBit) → follow m.links t ≡ u → list_any (has_bit others) (wire_bits (u ∷ map (follow m.links) signal)) ≡ false → In s (t ∷ signal)
        → (meets_any (followed_bits m signal) others ≡ false → (s : SigBit) → In s signal → (b : WireBit) → follow m.links s ≡ OnWire b → has_bit others b ≡ false)
        → has_bit others b ≡ false
    by (Fixed c) g h (inl at) later = let no : Fixed c ≡ OnWire b = sym g ∙ ap (follow m.links) (sym at) ∙ f in absurd (cc)
    by (Fixed c) g h (inr j) later = later h s j b f
    by (OnWire x) g h (inl at) later =
        let both : OnWire x ≡ OnWire b = sym g ∙ ap (follow m.links) (sym at) ∙ f in
        let same : x ≡ b = cc in
        ap (has_bit others) (sym same) ∙ (or_parts (has_bit others x) (list_any (has_bit others) (wire_bits (map (follow m.links) signal))) h).0
    by (OnWire x) g h (inr j) later =
        later (or_parts (has_bit others x) (list_any (has_bit others) (wire_bits (map (follow m.links) signal))) h).1 s j b f

-- bits of wires of the module
pub own_bit : (wires : List Wire) (s : SigBit) → BitIn (length wires) s → IsOf wires s
own_bit wires (Fixed c) h = tt
own_bit wires (OnWire b) h = h

pub own_signal : (wires : List Wire) (signal : List SigBit) → SigIn (length wires) signal → Each (IsOf wires) signal
own_signal wires signal h s i = own_bit wires s (h s i)

-- the signal at the pin of a name is none, or that of a pin of this name
pub each_named : (P : List SigBit → Type 0) (name : List ℕ) (pins : List Pin) → P [] → ((pin : Pin) → In pin pins → pin.name ≡ name → P pin.sig) → P (signal_at pins name)
each_named P name [] none h = none
each_named P name (pin ∷ pins) none h = by (bytes_eq pin.name name) refl (each_named P name pins none (λ p i. h p (inr i)))
  where
    by : (t : Bool) → bytes_eq pin.name name ≡ t → P (signal_at pins name) → P (option_map_or (λ (p : Pin). p.sig) (cond t (Some pin) (find (λ (p : Pin). bytes_eq p.name name) pins)) [])
    by true e later = h pin (inl refl) ((bytes_eq-Decides pin.name name).0 e)
    by false e later = later

-- a cell at a place reads no bits of the tree, and none of the state where it does not compare it
abbrev pub ReadsWell : Ports → Module → Machine → List SigBit → ℕ → Cell → Type 0
ReadsWell ports m machine signal k c =
    (reads_well ports m machine.muxes machine.flop (tree_outputs m machine.muxes) k c ≡ true)
    × (compares m signal c ≡ false → reads_well ports m machine.muxes machine.flop (wire_bits signal) k c ≡ true)

well_at : (ports : Ports) (m : Module) (machine : Machine) (state : List SigBit) (from : ℕ) (cells : List Cell) → cells_read_well ports m machine.muxes machine.flop state (tree_outputs m machine.muxes) from cells ≡ true
    → (k : ℕ) (c : Cell) → slice_get cells k ≡ Some c → ReadsWell ports m machine state (from + k) c
well_at ports m machine state from [] e k c there = absurd (cc)
well_at ports m machine state from (d ∷ cells) e zero c there =
    let tree : Bool = reads_well ports m machine.muxes machine.flop (tree_outputs m machine.muxes) from d in
    let own : Bool = reads_well ports m machine.muxes machine.flop (wire_bits state) from d in
    let here : Bool = tree && (compares m state d || own) in
    let a = and_parts here (cells_read_well ports m machine.muxes machine.flop state (tree_outputs m machine.muxes) (from + 1) cells) e in
    let b = and_parts tree (compares m state d || own) a.0 in
    let same : d ≡ c = cc in
    let stays : from ≡ from + 0 = omega arith in
    subst (λ (z : Cell). ReadsWell ports m machine state (from + 0) z) same (subst (λ n. ReadsWell ports m machine state n d) stays (b.0, (λ f. by (compares m state d) own f b.1)))
  where
    by : (t u : Bool) → t ≡ false → (t || u) ≡ true → u ≡ true
    by true u f g = absurd (cc)
    by false u f g = g
well_at ports m machine state from (d ∷ cells) e (suc k) c there =
    let tree : Bool = reads_well ports m machine.muxes machine.flop (tree_outputs m machine.muxes) from d in
    let own : Bool = reads_well ports m machine.muxes machine.flop (wire_bits state) from d in
    let here : Bool = tree && (compares m state d || own) in
    let a = and_parts here (cells_read_well ports m machine.muxes machine.flop state (tree_outputs m machine.muxes) (from + 1) cells) e in
    let next : (from + 1) + k ≡ from + suc k = omega arith in
    subst (λ n. ReadsWell ports m machine state n c) next (well_at ports m machine state (from + 1) cells a.1 k c there)

all_in : {A : Type 0} (test : A → Bool) (xs : List A) → list_all test xs ≡ true → (x : A) → In x xs → test x ≡ true
all_in test [] e x i = absurd i
all_in test (y ∷ ys) e x (inl f) = ap test f ∙ (and_parts (test y) (list_all test ys) e).0
all_in test (y ∷ ys) e x (inr j) = all_in test ys (and_parts (test y) (list_all test ys) e).1 x j

-- an input pin by which a cell may not read leads to none of these bits
pin_well : (ports : Ports) (m : Module) (machine : Machine) (k : ℕ) (c : Cell) (bits : List WireBit) → reads_well ports m machine.muxes machine.flop bits k c ≡ true
    → (pin : Pin) → In pin c.pins → is_output_pin ports c pin ≡ false → may_read machine.muxes machine.flop k pin ≡ false → meets_any (followed_bits m pin.sig) bits ≡ false
pin_well ports m machine k c bits e pin i out may =
    by (is_output_pin ports c pin) (may_read machine.muxes machine.flop k pin) (meets_any (followed_bits m pin.sig) bits) out may
    (all_in (λ (p : Pin). is_output_pin ports c p || (may_read machine.muxes machine.flop k p || not (meets_any (followed_bits m p.sig) bits))) c.pins e pin i)
  where
    by : (t u v : Bool) → t ≡ false → u ≡ false → (t || (u || not v)) ≡ true → v ≡ false
    by true u v f g h = absurd (cc)
    by false true v f g h = absurd (cc)
    by false false true f g h = absurd (cc)
    by false false false f g h = refl

-- who reads what, as it was asked of a machine
pub asked_reads : (ports : Ports) (m : Module) (at : ℕ) (machine : Machine) (found : IsFoundMachine ports m at machine)
    → (cells_read_well ports m machine.muxes machine.flop (state ports m at machine found) (tree_outputs m machine.muxes) 0 m.cells ≡ true)
    × (ports_read_well m (wire_bits (state ports m at machine found) ++ tree_outputs m machine.muxes) 0 m.wires ≡ true)
asked_reads ports m at machine found =
    let s : List SigBit = state ports m at machine found in
    let outs : List WireBit = tree_outputs m machine.muxes in
    let starts : List Bit = start_bits m s in
    let narrow : Bool = nat_le (length machine.states) 64 && list_all (fits_code (length machine.states)) (cells_at_places m.cells machine.muxes) in
    let reset : Bool = list_all all_known (option_state machine.reset) && ((all_known starts || not (list_any is_known starts)) && (nat_le 2 (length machine.states) && narrow)) in
    let a = and_parts (cells_read_well ports m machine.muxes machine.flop s outs 0 m.cells) (ports_read_well m (wire_bits s ++ outs) 0 m.wires && reset) found.asked in
    (a.0, (and_parts (ports_read_well m (wire_bits s ++ outs) 0 m.wires) reset a.1).0)

module _ (ports : Ports) (m : Module) (at : ℕ) (machine : Machine) (found : IsFoundMachine ports m at machine) (ready : IsReady ports m) where
  -- a bit that is none of the state and of the tree
  pub bit_free : (b : WireBit) → has_bit (wire_bits (state ports m at machine found)) b ≡ false → has_bit (tree_outputs m machine.muxes) b ≡ false → carrier_in (outputs ports m at machine found) b ≡ None
  bit_free b e f =
      ap (λ o. option_map_or (λ k. Some (record { code = (coding ports m at machine found).code; bit = k })) o (carrier_in (coding ports m at machine found).outputs b)) (place_none (state ports m at machine found) b 0 e)
      ∙ tree_none (length machine.states) m.cells (length m.wires + 1) machine.muxes b f

  -- a signal that leads to none of these
  pub free_signal : (signal : List SigBit) → Each (IsOf m.wires) signal → meets_any (followed_bits m signal) (wire_bits (state ports m at machine found)) ≡ false → meets_any (followed_bits m signal) (tree_outputs m machine.muxes) ≡ false → Each (IsFree m.links m.wires (outputs ports m at machine found)) signal
  free_signal signal own e f s i = record { own = own s i; none = by (follow m.links s) refl }
    where
      by : (u : SigBit) → follow m.links s ≡ u → carrier_of (outputs ports m at machine found) u ≡ None
      by (Fixed c) g = refl
      by (OnWire b) g =
          bit_free b (bit_none m (wire_bits (state ports m at machine found)) signal e s i b g) (bit_none m (tree_outputs m machine.muxes) signal f s i b g)

  read_well : (k : ℕ) (c : Cell) → slice_get m.cells k ≡ Some c → ReadsWell ports m machine (state ports m at machine found) k c
  read_well k c there =
      let zero_more : 0 + k ≡ k = omega arith in
      subst (λ n. ReadsWell ports m machine (state ports m at machine found) n c) zero_more (well_at ports m machine (state ports m at machine found) 0 m.cells (asked_reads ports m at machine found).0 k c there)

  -- what a pin by which a cell may not read leads to
  pub pin_free : (k : ℕ) (c : Cell) → slice_get m.cells k ≡ Some c → compares m (state ports m at machine found) c ≡ false → (pin : Pin) → In pin c.pins → is_output_pin ports c pin ≡ false → may_read machine.muxes machine.flop k pin ≡ false → Each (IsFree m.links m.wires (outputs ports m at machine found)) pin.sig
  pin_free k c there other pin i out may =
      let well = read_well k c there in
      free_signal pin.sig (own_signal m.wires pin.sig (ready.within.cells c (in_place m.cells k c there) pin i))
      (pin_well ports m machine k c (wire_bits (state ports m at machine found)) (well.1 other) pin i out may) (pin_well ports m machine k c (tree_outputs m machine.muxes) well.0 pin i out may)

  -- the same of a pin by its name
  pub named_free : (k : ℕ) (c : Cell) → slice_get m.cells k ≡ Some c → compares m (state ports m at machine found) c ≡ false → (name : List ℕ) → drives_pin (cell_type ports c.kind_name) name ≡ false → may_read machine.muxes machine.flop k (pin_of name []) ≡ false → Each (IsFree m.links m.wires (outputs ports m at machine found)) (signal_at c.pins name)
  named_free k c there other name out may =
      each_named (Each (IsFree m.links m.wires (outputs ports m at machine found))) name c.pins (each_none (IsFree m.links m.wires (outputs ports m at machine found)))
      (λ pin i same. pin_free k c there other pin i (ap (drives_pin (cell_type ports c.kind_name)) same ∙ out) (ap (λ n. may_read machine.muxes machine.flop k (pin_of n [])) same ∙ may))
