-- What is added for a memory only grows a module.
use Rattle.std.proofs.Common.{ℕ, zero, suc, ◌+◌, ◌^◌, Bool, true, false, List, [], ◌∷◌, length, map, take, drop, Option, Some, None, if◌then◌else◌, arith, length-append}
use Rattle.std.specs.Prelude.{codes, nat_lt}
use Rattle.rtl_bits.specs.declared.bit.Bit.{Bit}
use Rattle.rtl_bits.specs.declared.bit.Bit.TheVariants.{S1}
use Rattle.rtl_bits.specs.Numbers.{bits_of}
use Rattle.rtl_sig.specs.declared.sig.SigBit.{SigBit}
use Rattle.rtl_sig.specs.declared.sig.SigBit.TheVariants.{Fixed}
use Rattle.rtl_ir.specs.Build.{Building, fresh_wire, inner_wire, integer_param, made_name, new_cell}
use Rattle.rtl_ir.specs.declared.cell.Cell.{Cell}
use Rattle.rtl_ir.specs.declared.cell.CellParam.{CellParam}
use Rattle.rtl_ir.specs.declared.cell.Pin.{Pin}
use Rattle.rtl_ir.specs.declared.plan.MemPlan.{MemPlan}
use Rattle.rtl_ir.specs.declared.plan.ReadPort.{ReadPort}
use Rattle.rtl_ir.specs.declared.plan.WritePort.{WritePort}
use Rattle.rtl_ir.specs.declared.value.Attribute.{Attribute}
use Rattle.net_index.proofs.Rooms.{bit_count_last}
use Rattle.net_model.specs.Mem.Expand.{Word, address_match, halves, low_bit, mux_of_signals, or_unknown, port_runs, port_step, ports_step, read_step, read_tree, reads_step, run_lengths, run_select, word_step, word_wires, words_step}
use Rattle.net_model.specs.Proc.Start.{init_attribute}
use Rattle.match_cells.proofs.Growing.{Grows, driver_grows, grows_more, grows_none, link_grows}
use Rattle.match_cells.specs.Parts.{binary_params, mux_pins}
use Rattle.mem_map.specs.Parts.{and_cell, binary_pins, register_cell, register_params, register_pins}

pub cell_grows : (kind : List ℕ) (params : List CellParam) (pins : List Pin) (b : Building) → Grows b (new_cell kind params pins b)
cell_grows kind params pins b = record {
  cells = omega (arith, length-append b.body.cells (cell ∷ []));
  bits = omega arith;
  names = omega arith;
}
  where
    cell : Cell
    cell = record { kind_name = kind; name = made_name b.next; params = params; pins = pins; attributes = [] }

pub wire_grows : (width : ℕ) (attributes : List Attribute) (b : Building) → Grows b (fresh_wire width attributes b).1
wire_grows width attributes b = record {
  cells = omega arith;
  bits = omega (arith, bit_count_last b.body.wires (inner_wire (made_name b.next) width attributes));
  names = omega arith;
}

pub match_grows : (address : List SigBit) (n : ℕ) (b : Building) → Grows b (address_match address n b).1
match_grows address n b =
    driver_grows (codes "$eq") (binary_params (length address)) (binary_pins address (map Fixed (bits_of n (length address)))) (codes "\\Y") 1 b

pub and_grows : (x y : SigBit) (b : Building) → Grows b (and_cell x y b).1
and_grows x y b = driver_grows (codes "$and") (binary_params 1) (binary_pins (x ∷ []) (y ∷ [])) (codes "\\Y") 1 b

pub select_grows : (m e : SigBit) (b : Building) → Grows b (run_select m e b).1
select_grows m (Fixed S1) b = grows_none b
select_grows m e b = and_grows m e b

pub mux_grows : (x y : List SigBit) (s : SigBit) (b : Building) → Grows b (mux_of_signals x y s b).1
mux_grows x y s b = driver_grows (codes "$mux") (integer_param (codes "\\WIDTH") (length x) ∷ []) (mux_pins x y s) (codes "\\Y") (length x) b

pub runs_grow : (m : SigBit) (runs : List ℕ) (acc new enable : List SigBit) (b : Building) → Grows b (port_runs m runs acc new enable b).1
runs_grow m [] acc new enable b = grows_none b
runs_grow m (n ∷ runs) acc new enable b =
    let select = run_select m (low_bit enable) b in
    let mux = mux_of_signals (take n acc) (take n new) select.0 select.1 in
    let rest = port_runs m runs (drop n acc) (drop n new) (drop n enable) mux.1 in
    grows_more b select.1 rest.1 (select_grows m (low_bit enable) b)
    (grows_more select.1 mux.1 rest.1 (mux_grows (take n acc) (take n new) select.0 select.1) (runs_grow m runs (drop n acc) (drop n new) (drop n enable) mux.1))

pub port_grows : (address : ℕ) (port : WritePort) (acc : List SigBit) (b : Building) → Grows b (port_step address port acc b).1
port_grows address port acc b = by (nat_lt address (2 ^ length port.address))
  where
    m : SigBit × Building
    m = address_match port.address address b

    by : (t : Bool) → Grows b (if t then port_runs m.0 (run_lengths (length port.enable) port.enable) acc port.data port.enable m.1 else (acc, b)).1
    by false = grows_none b
    by true =
        let runs : List ℕ = run_lengths (length port.enable) port.enable in
        grows_more b m.1 (port_runs m.0 runs acc port.data port.enable m.1).1 (match_grows port.address address b) (runs_grow m.0 runs acc port.data port.enable m.1)

pub ports_grow : (address : ℕ) (ports : List WritePort) (acc : List SigBit) (b : Building) → Grows b (ports_step address ports acc b).1
ports_grow address [] acc b = grows_none b
ports_grow address (port ∷ ports) acc b =
    let next = port_step address port acc b in
    grows_more b next.1 (ports_step address ports next.0 next.1).1 (port_grows address port acc b) (ports_grow address ports next.0 next.1)

pub register_grows : (clock : SigBit) (rising : Bool) (d q : List SigBit) (b : Building) → Grows b (register_cell clock rising d q b)
register_grows clock rising d q b = cell_grows (codes "$dff") (register_params (length q) rising) (register_pins clock d q) b

pub word_grows : (plan : MemPlan) (word : Word) (b : Building) → Grows b (word_step plan word b)
word_grows plan word b =
    let acc = ports_step word.address plan.writes word.signal b in
    grows_more b acc.1 (word_step plan word b) (ports_grow word.address plan.writes word.signal b) (register_grows plan.clock plan.rising acc.0 word.signal acc.1)

pub words_grow : (plan : MemPlan) (words : List Word) (b : Building) → Grows b (words_step plan words b)
words_grow plan [] b = grows_none b
words_grow plan (word ∷ words) b =
    let next = word_step plan word b in
    grows_more b next (words_step plan words next) (word_grows plan word b) (words_grow plan words next)

pub wires_grow : (first : ℕ) (starts : List (List Bit)) (b : Building) → Grows b (word_wires first starts b).1
wires_grow first [] b = grows_none b
wires_grow first (bits ∷ starts) b =
    let wire = fresh_wire (length bits) (init_attribute bits ∷ []) b in
    grows_more b wire.1 (word_wires (first + 1) starts wire.1).1 (wire_grows (length bits) (init_attribute bits ∷ []) b) (wires_grow (first + 1) starts wire.1)

pub halves_grow : (s : SigBit) (low high : Option (List SigBit)) (b : Building) → Grows b (halves s low high b).1
halves_grow s (Some x) (Some y) b = mux_grows x y s b
halves_grow s (Some x) None b = grows_none b
halves_grow s None other b = grows_none b

pub tree_grows : (words : List Word) (address : List SigBit) (j base : ℕ) (b : Building) → Grows b (read_tree words address j base b).1
tree_grows words address zero base b = grows_none b
tree_grows words address (suc j) base b =
    let low = read_tree words address j base b in
    let high = read_tree words address j (base + 2 ^ j) low.1 in
    grows_more b low.1 (read_tree words address (suc j) base b).1 (tree_grows words address j base b)
    (grows_more low.1 high.1 (read_tree words address (suc j) base b).1 (tree_grows words address j (base + 2 ^ j) low.1) (halves_grow (low_bit (drop j address)) low.0 high.0 high.1))

pub read_grows : (words : List Word) (port : ReadPort) (b : Building) → Grows b (read_step words port b)
read_grows words port b =
    let tree = read_tree words port.address (length port.address) 0 b in
    grows_more b tree.1 (read_step words port b) (tree_grows words port.address (length port.address) 0 b)
    (link_grows port.data (or_unknown (length port.data) tree.0) tree.1)

pub reads_grow : (words : List Word) (ports : List ReadPort) (b : Building) → Grows b (reads_step words ports b)
reads_grow words [] b = grows_none b
reads_grow words (port ∷ ports) b =
    let next = read_step words port b in
    grows_more b next (reads_step words ports next) (read_grows words port b) (reads_grow words ports next)
