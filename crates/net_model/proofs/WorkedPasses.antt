-- Worked examples of passes, computed by their definitions.
use Rattle.std.proofs.Common.{◌≡◌, ℕ, List, [], ◌∷◌, length, refl}
use Rattle.std.specs.Prelude.{codes, map}
use Rattle.std.specs.Fmt.{digits}
use Rattle.rtl_bits.specs.declared.bit.Bit.TheVariants.{S0, S1, X, Z}
use Rattle.rtl_ir.specs.declared.cell.Cell.{Cell}
use Rattle.rtl_ir.specs.declared.module.Module.{Module}
use Rattle.rtl_ir.specs.declared.process.Event.TheVariants.{Posedge, Init}
use Rattle.rtl_ir.specs.declared.wire.Role.TheVariants.{Input, Output}
use Rattle.rtl_ir.specs.declared.wire.Wire.{Wire}
use Rattle.rtl_ir.specs.Constants.{low_bits}
use Rattle.rtl_ir.specs.Empty.{empty_module}
use Rattle.rtl_ir.specs.Flat.Cell.{cell_kind, cell_shape}
use Rattle.rtl_ir.specs.Flat.Process.{no_modules}
use Rattle.rtl_ir.specs.Follow.{follow_joins}
use Rattle.rtl_ir.specs.Tree.{NoSwitch, NoCase}
use Rattle.rtl_ir.specs.Types.{cell_type}
use Rattle.rtl_ir.specs.WritePorts.{is_write_cell}
use Rattle.rtl_ir.specs.Build.{made_number}
use Rattle.net_model.specs.Fsm.Code.{fsm_of}
use Rattle.net_model.specs.Mem.Expand.{memory_of}
use Rattle.net_model.specs.Proc.Start.{proc_tree_of, init_attribute}
use Rattle.net_model.specs.Proc.Sync.{proc_sync_of}
use Rattle.net_model.specs.Proc.Mux.{proc_mux_of}
use Rattle.net_model.specs.Proc.Steps.{proc_of}
use Rattle.net_model.specs.declared.order.Order.TheVariants.{Together}
use Rattle.net_model.specs.Refine.{run_of}
use Rattle.net_model.proofs.Parts.{wire, bit, bit_at, word, fixed, pin, number, link, on, switch, rule, process, alone}
use Rattle.net_model.proofs.Worked.{resetting, holding}
use Rattle.net_model.proofs.WorkedMore.{states, memory, inputs}

-- a tree with one case, over a value that is assigned before it
abbrev half : Module
half = record (empty_module (codes "\\m")) {
  wires = wire (codes "\\s") 1 Input 1 ∷ wire (codes "\\y") 1 Output 2 ∷ [];
  processes =
      process (link (bit 1) (fixed (S0 ∷ [])) ∷ [])
      (switch (bit 0) (on (fixed (S1 ∷ [])) (link (bit 1) (fixed (S1 ∷ [])) ∷ []) NoSwitch NoCase))
      []
      ∷ [];
}

-- it becomes a multiplexer of 0 and 1 by the signal itself, and a connection
half_muxed : (proc_mux_of half).cells ≡ record { kind_name = codes "$mux"; name = codes "$syn$1"; params = number (codes "\\WIDTH") 1 ∷ []; pins = pin (codes "\\A") (fixed (S0 ∷ [])) ∷ pin (codes "\\B") (fixed (S1 ∷ [])) ∷ pin (codes "\\S") (bit 0) ∷ pin (codes "\\Y") (bit 2) ∷ []; attributes = [] } ∷ []
unfolding made_number digits
half_muxed = refl

half_linked : (proc_mux_of half).links ≡ link (bit 1) (bit 2) ∷ []
unfolding made_number digits
half_linked = refl

-- the same trace as before
half_runs : run_of Together (alone (proc_mux_of half)) (proc_mux_of half) ((S0 ∷ []) ∷ (S1 ∷ []) ∷ (X ∷ []) ∷ []) ≡ (S0 ∷ []) ∷ (S1 ∷ []) ∷ (X ∷ []) ∷ []
unfolding made_number digits cell_kind cell_shape low_bits
half_runs = refl

-- a register whose start value an `init` line gives
abbrev begun : Module
begun = record (empty_module (codes "\\m")) {
  wires =
      wire (codes "\\c") 1 Input 1
      ∷ record (wire (codes "\\q") 4 Output 2) { attributes = init_attribute (S1 ∷ []) ∷ [] }
      ∷ [];
  processes =
      process [] NoSwitch
      (rule Init (link (bit_at 1 1 ∷ bit_at 1 2 ∷ []) (fixed (S1 ∷ Z ∷ [])) ∷ []) ∷ rule (Posedge (bit 0)) (link (word 1 4) (fixed (S0 ∷ S0 ∷ S0 ∷ S0 ∷ [])) ∷ []) ∷ [])
      ∷ [];
}

-- the value has the wire's width, x where it is not known
begun_starts : map (λ (w : Wire). w.attributes) (proc_tree_of begun).wires ≡ [] ∷ (init_attribute (S1 ∷ S1 ∷ X ∷ X ∷ []) ∷ []) ∷ []
begun_starts = refl

begun_flops : map (λ (c : Cell). c.kind_name) (proc_sync_of (proc_tree_of begun)).cells ≡ codes "$dff" ∷ []
unfolding made_number digits
begun_flops = refl

-- five words of two ports: an `$eq` and a `$mux` for each port and a `$dff` for each word, and four multiplexers to read
memory_cells : length (memory_of (memory S1)).cells ≡ 29
unfolding made_number digits cell_kind low_bits is_write_cell
memory_cells = refl

-- the types of the cells, and their names
abbrev types_of : Module → List (List ℕ)
types_of m = map (λ (c : Cell). c.kind_name) m.cells

-- a register with an enable and a reset of its own edge becomes an `$adff` and a multiplexer; the reset is not tested any more
resetting_cells : types_of (proc_of no_modules resetting) ≡ codes "$adff" ∷ codes "$mux" ∷ []
unfolding made_number digits follow_joins cell_type
resetting_cells = refl

-- a bit that holds while it is not enabled: its data, its enable, the latch, and then the multiplexer of the tree bit
holding_cells : types_of (proc_of no_modules holding) ≡ codes "$mux" ∷ codes "$mux" ∷ codes "$dlatch" ∷ codes "$mux" ∷ []
unfolding made_number digits follow_joins cell_type
holding_cells = refl

-- its trace is that of the source
holding_runs : run_of Together (alone (proc_of no_modules holding)) (proc_of no_modules holding) ((S1 ∷ S1 ∷ []) ∷ (S0 ∷ S0 ∷ []) ∷ (S1 ∷ X ∷ []) ∷ []) ≡ (S1 ∷ []) ∷ (S1 ∷ []) ∷ (X ∷ []) ∷ []
unfolding made_number digits follow_joins cell_type cell_kind cell_shape low_bits
holding_runs = refl

-- a register with a reset that comes with the clock: what was a race has the reset value
resetting_runs : run_of Together (alone (proc_of no_modules resetting)) (proc_of no_modules resetting) ((S0 ∷ S0 ∷ S1 ∷ S1 ∷ []) ∷ (S1 ∷ S1 ∷ S1 ∷ S1 ∷ []) ∷ []) ≡ (S1 ∷ []) ∷ (S0 ∷ []) ∷ []
unfolding made_number digits follow_joins cell_type cell_kind cell_shape low_bits
resetting_runs = refl

-- two words of a memory with ports that clash: the chain lets the later port win
memory_runs : run_of Together (alone (memory_of (memory S0))) (memory_of (memory S0)) (inputs S0 (S0 ∷ S1 ∷ S0 ∷ []) ∷ inputs S1 (S0 ∷ S1 ∷ S0 ∷ []) ∷ []) ≡ (X ∷ []) ∷ (S1 ∷ []) ∷ []
unfolding made_number digits cell_kind cell_shape low_bits is_write_cell
memory_runs = refl

-- the state of two bits gets a code of three, its compare a connection
states_cells : types_of (fsm_of no_modules states) ≡ codes "$dff" ∷ codes "$mux" ∷ codes "$mux" ∷ []
unfolding made_number digits follow_joins cell_type cell_kind low_bits
states_cells = refl

states_links : (fsm_of no_modules states).links ≡ link (bit 3) (bit_at 7 1 ∷ []) ∷ []
unfolding made_number digits follow_joins cell_type cell_kind low_bits
states_links = refl

-- and the trace is the same
states_run : run_of Together (alone (fsm_of no_modules states)) (fsm_of no_modules states) ((S0 ∷ X ∷ S0 ∷ []) ∷ (S1 ∷ X ∷ S0 ∷ []) ∷ []) ≡ (X ∷ []) ∷ (S0 ∷ []) ∷ []
unfolding made_number digits follow_joins cell_type cell_kind cell_shape low_bits
states_run = refl
