-- A memory becomes words, write chains and read trees.
use Rattle.std.specs.Prelude.{ℕ, zero, suc, ◌+◌, ◌^◌, ◌==◌, ◌&&◌, Bool, true, false, not, nat_abs, nat_lt, List, [], ◌∷◌, ◌++◌, length, map, filter, take, drop, replicate, codes, Option, Some, None, if◌then◌else◌}
use Rattle.rtl_bits.specs.declared.bit.Bit.{Bit}
use Rattle.rtl_bits.specs.declared.bit.Bit.TheVariants.{S1, X}
use Rattle.rtl_bits.specs.Numbers.{bits_of}
use Rattle.rtl_sig.specs.declared.sig.SigBit.{SigBit}
use Rattle.rtl_sig.specs.declared.sig.SigBit.TheVariants.{Fixed}
use Rattle.cell_types.specs.declared.kind.CellKind.{CellKind}
use Rattle.cell_types.specs.declared.kind.CellKind.TheVariants as Cells
use Rattle.rtl_ir.specs.declared.cell.Cell.{Cell}
use Rattle.rtl_ir.specs.declared.module.Module.{Module}
use Rattle.rtl_ir.specs.declared.plan.MemPlan.{MemPlan}
use Rattle.rtl_ir.specs.declared.plan.ReadPort.{ReadPort}
use Rattle.rtl_ir.specs.declared.plan.WritePort.{WritePort}
use Rattle.rtl_ir.specs.declared.store.Store.{Store}
use Rattle.rtl_ir.specs.Flat.Cell.{cell_kind}
use Rattle.rtl_ir.specs.WritePorts.{is_of_memory}
use Rattle.rtl_ir.specs.Signals.{same_place}
use Rattle.rtl_ir.specs.Build.{Building, Build, building_of, first_number, integer_param, pin_of, fresh_wire, new_driver, new_cell, new_link}
use Rattle.net_model.specs.Proc.Start.{init_attribute}
use Rattle.net_model.specs.Mem.Gather.{gathered}

-- a word: its address, and the signal that stands for it
pub record Word : Type 0 where
  pub address : ℕ
  pub signal : List SigBit

-- without write ports each word is its start constant
abbrev pub fixed_words : ℕ → List (List Bit) → List Word
fixed_words address [] = []
fixed_words address (bits ∷ words) = record { address = address; signal = map Fixed bits } ∷ fixed_words (address + 1) words

-- with write ports each word gets a fresh wire with its start value
abbrev pub word_wires : ℕ → List (List Bit) → Build (List Word)
word_wires address [] b = ([], b)
word_wires address (bits ∷ words) b =
    let wire = fresh_wire (length bits) (init_attribute bits ∷ []) b in
    let rest = word_wires (address + 1) words wire.1 in
    (record { address = address; signal = wire.0 } ∷ rest.0, rest.1)

-- the lowest bit of a signal
abbrev pub low_bit : List SigBit → SigBit
low_bit [] = Fixed X
low_bit (s ∷ signal) = s

-- the match of a port: an `$eq` of its address and a number
abbrev pub address_match : List SigBit → ℕ → Build SigBit
address_match address number b =
    let made =
    new_driver (codes "$eq")
    (integer_param (codes "\\A_SIGNED") 0 ∷ integer_param (codes "\\A_WIDTH") (length address) ∷ integer_param (codes "\\B_SIGNED") 0 ∷ integer_param (codes "\\B_WIDTH") (length address) ∷ integer_param (codes "\\Y_WIDTH") 1 ∷ [])
    (pin_of (codes "\\A") address ∷ pin_of (codes "\\B") (map Fixed (bits_of number (length address))) ∷ []) (codes "\\Y") 1 b in
    (low_bit made.0, made.1)

-- the select of a run of equal enable bits: the match where the bit is the constant 1, else an `$and` of the two
abbrev pub run_select : SigBit → SigBit → Build SigBit
run_select match (Fixed S1) b = (match, b)
run_select match enable b =
    let made =
    new_driver (codes "$and")
    (integer_param (codes "\\A_SIGNED") 0 ∷ integer_param (codes "\\A_WIDTH") 1 ∷ integer_param (codes "\\B_SIGNED") 0 ∷ integer_param (codes "\\B_WIDTH") 1 ∷ integer_param (codes "\\Y_WIDTH") 1 ∷ [])
    (pin_of (codes "\\A") (match ∷ []) ∷ pin_of (codes "\\B") (enable ∷ []) ∷ []) (codes "\\Y") 1 b in
    (low_bit made.0, made.1)

-- a `$mux` of two signals by a bit
abbrev pub mux_of_signals : List SigBit → List SigBit → SigBit → Build (List SigBit)
mux_of_signals a b s building =
    new_driver (codes "$mux") (integer_param (codes "\\WIDTH") (length a) ∷ [])
    (pin_of (codes "\\A") a ∷ pin_of (codes "\\B") b ∷ pin_of (codes "\\S") (s ∷ []) ∷ []) (codes "\\Y") (length a) building

-- how many bits from the first one on are equal to it
abbrev pub run_length : SigBit → List SigBit → ℕ
run_length e [] = 0
run_length e (f ∷ enable) = if same_place e f then suc (run_length e enable) else 0

-- the runs of equal enable bits as their lengths, so many at most
abbrev pub run_lengths : ℕ → List SigBit → List ℕ
run_lengths zero enable = []
run_lengths (suc n) [] = []
run_lengths (suc n) (e ∷ enable) = suc (run_length e enable) ∷ run_lengths n (drop (run_length e enable) enable)

-- each run of a word through a multiplexer
abbrev pub port_runs : SigBit → List ℕ → List SigBit → List SigBit → List SigBit → Build (List SigBit)
port_runs match [] acc new enable b = ([], b)
port_runs match (n ∷ runs) acc new enable b =
    let select = run_select match (low_bit enable) b in
    let mux = mux_of_signals (take n acc) (take n new) select.0 select.1 in
    let rest = port_runs match runs (drop n acc) (drop n new) (drop n enable) mux.1 in
    (mux.0 ++ rest.0, rest.1)

-- a write port on the value so far of the word at an address, where it can reach the address
abbrev pub port_step : ℕ → WritePort → List SigBit → Build (List SigBit)
port_step address port acc b =
    if nat_lt address (2 ^ length port.address)
    then
    (let match = address_match port.address address b in
    port_runs match.0 (run_lengths (length port.enable) port.enable) acc port.data port.enable match.1)
    else (acc, b)

-- the write ports in number order
abbrev pub ports_step : ℕ → List WritePort → List SigBit → Build (List SigBit)
ports_step address [] acc b = (acc, b)
ports_step address (port ∷ ports) acc b =
    let next = port_step address port acc b in
    ports_step address ports next.0 next.1

-- a word: its write chain, and then a `$dff`
abbrev pub word_step : MemPlan → Word → Building → Building
word_step plan word b =
    let acc = ports_step word.address plan.writes word.signal b in
    new_cell (codes "$dff")
    (integer_param (codes "\\WIDTH") (length word.signal) ∷ integer_param (codes "\\CLK_POLARITY") (if plan.rising then 1 else 0) ∷ [])
    (pin_of (codes "\\CLK") (plan.clock ∷ []) ∷ pin_of (codes "\\D") acc.0 ∷ pin_of (codes "\\Q") word.signal ∷ []) acc.1

-- the words with rising address
abbrev pub words_step : MemPlan → List Word → Building → Building
words_step plan [] b = b
words_step plan (word ∷ words) b = words_step plan words (word_step plan word b)

-- the word at an address
abbrev pub word_at : List Word → ℕ → Option (List SigBit)
word_at [] address = None
word_at (word ∷ words) address = if word.address == address then Some word.signal else word_at words address

-- two halves of a read tree: a `$mux` of them, or the one that holds a word
abbrev pub halves : SigBit → Option (List SigBit) → Option (List SigBit) → Build (Option (List SigBit))
halves s (Some a) (Some c) b = let mux = mux_of_signals a c s b in (Some mux.0, mux.1)
halves s (Some a) None b = (Some a, b)
halves s None other b = (other, b)

-- the read tree over so many bits of an address, from a base on
abbrev pub read_tree : List Word → List SigBit → ℕ → ℕ → Build (Option (List SigBit))
read_tree words address zero base b = (word_at words base, b)
read_tree words address (suc j) base b =
    let low = read_tree words address j base b in
    let high = read_tree words address j (base + 2 ^ j) low.1 in
    halves (low_bit (drop j address)) low.0 high.0 high.1

-- what is read where no word is: x
abbrev pub or_unknown : ℕ → Option (List SigBit) → List SigBit
or_unknown width None = replicate width (Fixed X)
or_unknown width (Some signal) = signal

-- the data of a read port are connected to its read tree
abbrev pub read_step : List Word → ReadPort → Building → Building
read_step words port b =
    let tree = read_tree words port.address (length port.address) 0 b in
    new_link port.data (or_unknown (length port.data) tree.0) tree.1

-- the read ports in cell order
abbrev pub reads_step : List Word → List ReadPort → Building → Building
reads_step words [] b = b
reads_step words (port ∷ ports) b = reads_step words ports (read_step words port b)

-- words with or without write ports
abbrev pub words_made : MemPlan → ℕ → Build (List Word)
words_made plan first b = if length plan.writes == 0 then (fixed_words first plan.words, b) else word_wires first plan.words b

-- all of a memory
abbrev pub memory_step : MemPlan → Store → Building → Building
memory_step plan s b =
    let words = words_made plan (nat_abs s.offset) b in
    reads_step words.0 plan.reads (if length plan.writes == 0 then words.1 else words_step plan words.0 words.1)

-- a cell of a memory
abbrev pub is_memory_kind : Option CellKind → Bool
is_memory_kind (Some (Cells.Memory kind)) = true
is_memory_kind kind = false

-- the module without a memory and its cells
abbrev pub without_memory : ℕ → Store → Module → Module
without_memory at s m = record m {
  memories = take at m.memories ++ drop (at + 1) m.memories;
  cells = filter (λ (c : Cell). not (is_memory_kind (cell_kind c) && is_of_memory s.name c)) m.cells;
}

-- the module without a memory and its cells, as it is added to: fresh names go on from those of the whole module
abbrev pub building_without : ℕ → Store → Module → Building
building_without at s m = record { body = without_memory at s m; next = first_number m }

-- the module after one memory, of the plan that is gathered for it
abbrev pub expanded_memory : Module → MemPlan → Store → Module
expanded_memory m plan s = without_memory plan.store s (memory_step plan s (building_of m)).body

-- the first memory, where there is one
abbrev pub first_memory : Module → List Store → Module
first_memory m [] = m
first_memory m (s ∷ stores) = expanded_memory m (gathered m 0 s) s

-- so many memories, one after another
abbrev pub memories_gone : ℕ → Module → Module
memories_gone zero m = m
memories_gone (suc n) m = memories_gone n (first_memory m m.memories)

-- the module after all its memories in order
abbrev pub memory_of : Module → Module
memory_of m = memories_gone (length m.memories) m
