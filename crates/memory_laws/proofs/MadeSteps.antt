-- All that is built for a memory: each bit of a fresh wire is driven once, and the connections drive the data of its read ports.
use Rattle.std.proofs.Common.{◌≡◌, ℕ, zero, suc, ◌+◌, ◌^◌, Bool, true, false, List, [], ◌∷◌, ◌++◌, length, Option, Some, None, if◌then◌else◌, refl, sym, ◌∙◌, ap, subst, arith, append_assoc, length-append}
use Rattle.std.specs.Prelude.{◌==◌, codes, drop, flat_map, map, nat_abs, nat_lt, take}
use Rattle.std.proofs.lemmas.List.{append-nil}
use Rattle.rtl_bits.specs.Numbers.{bits_of}
use Rattle.rtl_bits.specs.declared.bit.Bit.{Bit}
use Rattle.rtl_bits.specs.declared.bit.Bit.TheVariants.{S1}
use Rattle.rtl_sig.specs.declared.sig.SigBit.{SigBit}
use Rattle.rtl_sig.specs.declared.sig.SigBit.TheVariants.{Fixed}
use Rattle.rtl_sig.specs.declared.sig.WireBit.{WireBit}
use Rattle.cell_types.specs.declared.storage.StorageKind.TheVariants.{Dff}
use Rattle.cell_types.specs.declared.word.BitwiseKind.TheVariants.{And}
use Rattle.cell_types.specs.declared.word.EqualKind.TheVariants.{Eq}
use Rattle.cell_types.specs.declared.word.WordKind.TheVariants.{Bitwise, Equal, Mux}
use Rattle.rtl_ir.specs.Build.{Building, fresh_wire, inner_wire, made_name, pin_of}
use Rattle.rtl_ir.specs.Signals.{bits_of_wire, wire_bits}
use Rattle.rtl_ir.specs.declared.module.Module.{Module}
use Rattle.rtl_ir.specs.declared.plan.MemPlan.{MemPlan}
use Rattle.rtl_ir.specs.declared.plan.ReadPort.{ReadPort}
use Rattle.rtl_ir.specs.declared.plan.WritePort.{WritePort}
use Rattle.rtl_ir.specs.declared.store.Store.{Store}
use Rattle.rtl_ir.specs.declared.wire.Wire.{Wire}
use Rattle.net_model.proofs.Members.{map-append}
use Rattle.net_model.proofs.Ranges.{each_both, each_more}
use Rattle.net_model.specs.Mem.Expand.{Word, address_match, fixed_words, halves, low_bit, memory_step, mux_of_signals, or_unknown, port_runs, port_step, ports_step, read_step, read_tree, reads_step, run_lengths, run_select, word_step, word_wires, words_step}
use Rattle.net_model.specs.Proc.Start.{init_attribute}
use Rattle.net_model.specs.Within.{AreInner}
use Rattle.map_laws.proofs.Expanding.{rising_more}
use Rattle.map_laws.proofs.FreshWires.{names_of}
use Rattle.map_laws.specs.Expansion.{AreRising, bits_from}
use Rattle.pass_laws.proofs.Counting.{count, count_more}
use Rattle.pass_laws.proofs.Placing.{bits_places}
use Rattle.build_laws.proofs.CellFits.{bits_back}
use Rattle.build_laws.proofs.Growing.{with_more}
use Rattle.memory_laws.proofs.Made.{Makes, bits_more, makes_both, makes_driver, makes_link, makes_none, makes_plain, makes_store}
use Rattle.memory_laws.proofs.PortSteps.{port_by}
use Rattle.build_laws.proofs.CountingPlaces.{times, times_bits}

match_makes : (address : List SigBit) (number : ℕ) (b : Building) → Makes b (address_match address number b).1 [] []
match_makes address number b =
    makes_driver (codes "$eq") (Equal Eq) refl _ (pin_of (codes "\\A") address ∷ pin_of (codes "\\B") (map Fixed (bits_of number (length address))) ∷ []) 1 b refl refl

select_makes : (match enable : SigBit) (b : Building) → Makes b (run_select match enable b).1 [] []
select_makes match (Fixed S1) b = makes_none b
select_makes match enable b =
    makes_driver (codes "$and") (Bitwise And) refl _ (pin_of (codes "\\A") (match ∷ []) ∷ pin_of (codes "\\B") (enable ∷ []) ∷ []) 1 b refl refl

mux_makes : (a c : List SigBit) (s : SigBit) (b : Building) → Makes b (mux_of_signals a c s b).1 [] []
mux_makes a c s b =
    makes_driver (codes "$mux") Mux refl _ (pin_of (codes "\\A") a ∷ pin_of (codes "\\B") c ∷ pin_of (codes "\\S") (s ∷ []) ∷ []) (length a) b refl refl

runs_make : (match : SigBit) (runs : List ℕ) (acc new enable : List SigBit) (b : Building) → Makes b (port_runs match runs acc new enable b).1 [] []
runs_make match [] acc new enable b = makes_none b
runs_make match (n ∷ runs) acc new enable b =
    let select = run_select match (low_bit enable) b in
    let mux = mux_of_signals (take n acc) (take n new) select.0 select.1 in
    makes_plain b select.1 _ (select_makes match (low_bit enable) b)
    (makes_plain select.1 mux.1 _ (mux_makes (take n acc) (take n new) select.0 select.1) (runs_make match runs (drop n acc) (drop n new) (drop n enable) mux.1))

port_makes : (address : ℕ) (port : WritePort) (acc : List SigBit) (b : Building) → Makes b (port_step address port acc b).1 [] []
port_makes address port acc b = by (nat_lt address (2 ^ length port.address))
  where
    by : (t : Bool) → Makes b (port_by t address port acc b).1 [] []
    by true =
        let match = address_match port.address address b in
        makes_plain b match.1 _ (match_makes port.address address b) (runs_make match.0 (run_lengths (length port.enable) port.enable) acc port.data port.enable match.1)
    by false = makes_none b

ports_make : (address : ℕ) (ports : List WritePort) (acc : List SigBit) (b : Building) → Makes b (ports_step address ports acc b).1 [] []
ports_make address [] acc b = makes_none b
ports_make address (port ∷ ports) acc b =
    let next = port_step address port acc b in
    makes_plain b next.1 _ (port_makes address port acc b) (ports_make address ports next.0 next.1)

-- the bits of words
abbrev pub word_bits : List Word → List WireBit
word_bits words = flat_map (λ (word : Word). wire_bits word.signal) words

word_makes : (plan : MemPlan) (word : Word) (b : Building) → Makes b (word_step plan word b) (wire_bits word.signal) []
word_makes plan word b =
    let acc = ports_step word.address plan.writes word.signal b in
    makes_both b acc.1 _ [] (wire_bits word.signal) [] [] (ports_make word.address plan.writes word.signal b) (makes_store (codes "$dff") Dff refl _ _ acc.1 refl)

words_make : (plan : MemPlan) (words : List Word) (b : Building) → Makes b (words_step plan words b) (word_bits words) []
words_make plan [] b = makes_none b
words_make plan (word ∷ words) b =
    makes_both b (word_step plan word b) _ (wire_bits word.signal) (word_bits words) [] [] (word_makes plan word b) (words_make plan words (word_step plan word b))

halves_make : (s : SigBit) (low high : Option (List SigBit)) (b : Building) → Makes b (halves s low high b).1 [] []
halves_make s (Some a) (Some c) b = mux_makes a c s b
halves_make s (Some a) None b = makes_none b
halves_make s None other b = makes_none b

tree_makes : (words : List Word) (address : List SigBit) (j base : ℕ) (b : Building) → Makes b (read_tree words address j base b).1 [] []
tree_makes words address zero base b = makes_none b
tree_makes words address (suc j) base b =
    let low = read_tree words address j base b in
    let high = read_tree words address j (base + 2 ^ j) low.1 in
    makes_plain b low.1 _ (tree_makes words address j base b)
    (makes_plain low.1 high.1 _ (tree_makes words address j (base + 2 ^ j) low.1) (halves_make (low_bit (drop j address)) low.0 high.0 high.1))

-- the bits of the data of read ports
abbrev pub data_bits : List ReadPort → List WireBit
data_bits ports = flat_map (λ (port : ReadPort). wire_bits port.data) ports

read_makes : (words : List Word) (port : ReadPort) (b : Building) → Makes b (read_step words port b) [] (wire_bits port.data)
read_makes words port b =
    let tree = read_tree words port.address (length port.address) 0 b in
    makes_both b tree.1 _ [] [] [] (wire_bits port.data) (tree_makes words port.address (length port.address) 0 b) (makes_link port.data (or_unknown (length port.data) tree.0) tree.1)

reads_make : (words : List Word) (ports : List ReadPort) (b : Building) → Makes b (reads_step words ports b) [] (data_bits ports)
reads_make words [] b = makes_none b
reads_make words (port ∷ ports) b =
    makes_both b (read_step words port b) _ [] [] (wire_bits port.data) (data_bits ports) (read_makes words port b) (reads_make words ports (read_step words port b))

-- the wires of words
record WiresMade (old new : Building) (words : List Word) : Type 0 where
  wires : List Wire
  body : new.body ≡ with_more [] wires [] old.body
  inner : AreInner wires
  names : AreRising old.next new.next (names_of wires)
  bits : bits_from (length old.body.wires) wires ≡ word_bits words

wires_make : (address : ℕ) (words : List (List Bit)) (b : Building) → WiresMade b (word_wires address words b).1 (word_wires address words b).0
wires_make address [] b = record {
  wires = [];
  body = let none : with_more [] [] [] b.body ≡ b.body = λ i. record b.body { cells = append-nil b.body.cells i; wires = append-nil b.body.wires i; links = append-nil b.body.links i } in sym none;
  inner = λ w i. absurd i;
  names = omega arith;
  bits = refl;
}
wires_make address (x ∷ words) b =
    let made = fresh_wire (length x) (init_attribute x ∷ []) b in
    let rest = wires_make (address + 1) words made.1 in
    let w : Wire = inner_wire (made_name b.next) (length x) (init_attribute x ∷ []) in
    let count : length made.1.body.wires ≡ length b.body.wires + 1 = length-append b.body.wires (w ∷ []) in
    record {
      wires = w ∷ rest.wires;
      body = rest.body ∙ (λ i. record b.body { cells = b.body.cells ++ []; wires = append_assoc b.body.wires (w ∷ []) rest.wires i; links = b.body.links ++ [] });
      inner = each_more _ w rest.wires refl rest.inner;
      names = (b.next, omega arith, refl, rest.names);
      bits = (λ i. sym (bits_back (bits_of_wire (length b.body.wires) (length x))) i ++ bits_from (sym count i) rest.wires) ∙ ap (λ z. wire_bits made.0 ++ z) rest.bits;
    }

abbrev words_by : Bool → MemPlan → ℕ → Building → List Word × Building
words_by t plan first b = if t then (fixed_words first plan.words, b) else word_wires first plan.words b

abbrev before_reads : Bool → MemPlan → List Word → Building → Building
before_reads t plan words b = if t then b else words_step plan words b

-- words with their chains drive just their wires
chains_make : (plan : MemPlan) (first : ℕ) (b : Building) (t : Bool) → (let words = words_by t plan first b in Makes b (before_reads t plan words.0 words.1) [] [])
chains_make plan first b true = makes_none b
chains_make plan first b false =
    let words = word_wires first plan.words b in
    let made = wires_make first plan.words b in
    let step = words_make plan words.0 words.1 in
    let count' : length words.1.body.wires ≡ length b.body.wires + length made.wires = ap (λ (k : Module). length k.wires) made.body ∙ length-append b.body.wires made.wires in
    record {
      cells = step.cells;
      wires = made.wires ++ step.wires;
      links = step.links;
      body =
          step.body
          ∙ ap (with_more step.cells step.wires step.links) made.body
          ∙ (λ i. record b.body { cells = append_assoc b.body.cells [] step.cells i; wires = append_assoc b.body.wires made.wires step.wires i; links = append_assoc b.body.links [] step.links i });
      plain = step.plain;
      inner = each_both _ made.wires step.wires made.inner step.inner;
      names = subst (AreRising b.next (words_step plan words.0 words.1).next) (sym (map-append (λ (w : Wire). w.name) made.wires step.wires)) (rising_more b.next words.1.next (words_step plan words.0 words.1).next (names_of made.wires) (names_of step.wires) made.names step.names);
      cells_low = λ start over p ws q.
          let fresh = ap (λ z. times q (bits_places p ws z)) (bits_more (length b.body.wires) made.wires step.wires ∙ (λ i. made.bits i ++ bits_from (sym count' i) step.wires)) ∙ times_bits p ws q (word_bits words.0) (bits_from (length words.1.body.wires) step.wires) in
          omega (arith, fresh, step.cells_low start over p ws q);
      links_low = step.links_low;
      cells_count = λ ports x.
          let fresh = ap (count x) (bits_more (length b.body.wires) made.wires step.wires ∙ (λ i. made.bits i ++ bits_from (sym count' i) step.wires)) ∙ count_more x (word_bits words.0) (bits_from (length words.1.body.wires) step.wires) in
          omega (arith, fresh, step.cells_count ports x);
      links_count = step.links_count;
    }

-- all of a memory
pub memory_makes : (plan : MemPlan) (s : Store) (b : Building) → Makes b (memory_step plan s b) [] (data_bits plan.reads)
memory_makes plan s b =
    let t : Bool = length plan.writes == 0 in
    let words = words_by t plan (nat_abs s.offset) b in
    let made = before_reads t plan words.0 words.1 in
    makes_both b made _ [] [] [] (data_bits plan.reads) (chains_make plan (nat_abs s.offset) b t) (reads_make words.0 plan.reads made)
