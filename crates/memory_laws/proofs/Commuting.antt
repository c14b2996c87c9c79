-- What is built for a memory looks at no more of a module than its wires: a change of other parts may as well be made after it.
use Rattle.std.proofs.Common.{◌≡◌, ℕ, zero, suc, ◌+◌, ◌^◌, Bool, true, false, List, [], ◌∷◌, ◌++◌, length, Option, Some, None, if◌then◌else◌, not, refl, ap, sym, ◌∙◌}
use Rattle.std.specs.Prelude.{◌==◌, codes, ◌&&◌, drop, filter, map, nat_abs, nat_lt, take}
use Rattle.std.proofs.lemmas.List.Elements.{filter-append}
use Rattle.rtl_bits.specs.Numbers.{bits_of}
use Rattle.rtl_bits.specs.declared.bit.Bit.{Bit}
use Rattle.rtl_bits.specs.declared.bit.Bit.TheVariants.{S0, S1, X, Z, M, Dash}
use Rattle.rtl_sig.specs.declared.sig.SigBit.{SigBit}
use Rattle.rtl_sig.specs.declared.sig.SigBit.TheVariants.{Fixed, Wire as OnWire}
use Rattle.cell_types.specs.Kind.{kind_of}
use Rattle.rtl_ir.specs.Build.{Building, building_of, fresh_wire, integer_param, made_name, new_cell, new_driver, new_link, pin_of, whole}
use Rattle.rtl_ir.specs.declared.cell.CellParam.{CellParam}
use Rattle.rtl_ir.specs.declared.cell.Pin.{Pin}
use Rattle.rtl_ir.specs.Flat.Cell.{cell_kind}
use Rattle.rtl_ir.specs.WritePorts.{is_of_memory}
use Rattle.rtl_ir.specs.declared.cell.Cell.{Cell}
use Rattle.rtl_ir.specs.declared.module.Module.{Module}
use Rattle.rtl_ir.specs.declared.plan.MemPlan.{MemPlan}
use Rattle.rtl_ir.specs.declared.plan.ReadPort.{ReadPort}
use Rattle.rtl_ir.specs.declared.plan.WritePort.{WritePort}
use Rattle.rtl_ir.specs.declared.store.Store.{Store}
use Rattle.rtl_ir.specs.declared.value.Attribute.{Attribute}
use Rattle.rtl_ir.specs.declared.wire.Wire.{Wire}
use Rattle.net_model.specs.Mem.Expand.{Word, address_match, building_without, fixed_words, halves, is_memory_kind, low_bit, memory_step, mux_of_signals, or_unknown, port_runs, port_step, ports_step, read_step, read_tree, reads_step, run_lengths, run_select, without_memory, word_step, word_wires, words_step}
use Rattle.net_model.specs.Proc.Start.{init_attribute}

-- a result beside the changed state
abbrev pub beside : {A : Type 0} → (Building → Building) → A × Building → A × Building
beside change r = (r.0, change r.1)

-- a change that may as well come after what is added: of cells those that are none of a memory
pub record Commutes (change : Building → Building) : Type 0 where
  pub wires : (b : Building) → (change b).body.wires ≡ b.body.wires
  pub fresh :
      (width : ℕ) (attributes : List Attribute) (b : Building) →
      fresh_wire width attributes (change b) ≡ beside change (fresh_wire width attributes b)
  pub cell :
      (kind : List ℕ) → is_memory_kind (kind_of kind) ≡ false → (params : List CellParam) (pins : List Pin) (b : Building) →
      new_cell kind params pins (change b) ≡ change (new_cell kind params pins b)
  pub link :
      (left right : List SigBit) (b : Building) → new_link left right (change b) ≡ change (new_link left right b)

module _ (change : Building → Building) (is : Commutes change) where
  driver_after :
      (kind : List ℕ) → is_memory_kind (kind_of kind) ≡ false → (params : List CellParam) (pins : List Pin) (output : List ℕ) (width : ℕ) (b : Building) →
      new_driver kind params pins output width (change b) ≡ beside change (new_driver kind params pins output width b)
  driver_after kind plain params pins output width b =
      ap (λ (ws : List Wire). fresh_wire width [] (new_cell kind params (pins ++ pin_of output (whole (length ws) width) ∷ []) (change b))) (is.wires b)
      ∙ ap (fresh_wire width []) (is.cell kind plain params (pins ++ pin_of output (whole (length b.body.wires) width) ∷ []) b)
      ∙ is.fresh width [] (new_cell kind params (pins ++ pin_of output (whole (length b.body.wires) width) ∷ []) b)

  match_after : (address : List SigBit) (number : ℕ) (b : Building) → address_match address number (change b) ≡ beside change (address_match address number b)
  match_after address number b =
      ap (λ (made : List SigBit × Building). (low_bit made.0, made.1))
      (driver_after (codes "$eq") refl
      (integer_param (codes "\\A_SIGNED") 0 ∷ integer_param (codes "\\A_WIDTH") (length address) ∷ integer_param (codes "\\B_SIGNED") 0 ∷ integer_param (codes "\\B_WIDTH") (length address) ∷ integer_param (codes "\\Y_WIDTH") 1 ∷ [])
      (pin_of (codes "\\A") address ∷ pin_of (codes "\\B") (map Fixed (bits_of number (length address))) ∷ []) (codes "\\Y") 1 b)

  -- an `$and` of two bits
  abbrev and_of : SigBit → SigBit → Building → SigBit × Building
  and_of match enable b =
      let made =
      new_driver (codes "$and")
      (integer_param (codes "\\A_SIGNED") 0 ∷ integer_param (codes "\\A_WIDTH") 1 ∷ integer_param (codes "\\B_SIGNED") 0 ∷ integer_param (codes "\\B_WIDTH") 1 ∷ integer_param (codes "\\Y_WIDTH") 1 ∷ [])
      (pin_of (codes "\\A") (match ∷ []) ∷ pin_of (codes "\\B") (enable ∷ []) ∷ []) (codes "\\Y") 1 b in
      (low_bit made.0, made.1)

  and_after : (match enable : SigBit) (b : Building) → and_of match enable (change b) ≡ beside change (and_of match enable b)
  and_after match enable b =
      ap (λ (made : List SigBit × Building). (low_bit made.0, made.1))
      (driver_after (codes "$and") refl
      (integer_param (codes "\\A_SIGNED") 0 ∷ integer_param (codes "\\A_WIDTH") 1 ∷ integer_param (codes "\\B_SIGNED") 0 ∷ integer_param (codes "\\B_WIDTH") 1 ∷ integer_param (codes "\\Y_WIDTH") 1 ∷ [])
      (pin_of (codes "\\A") (match ∷ []) ∷ pin_of (codes "\\B") (enable ∷ []) ∷ []) (codes "\\Y") 1 b)

  select_after : (match enable : SigBit) (b : Building) → run_select match enable (change b) ≡ beside change (run_select match enable b)
  select_after match (Fixed S1) b = refl
  select_after match (Fixed S0) b = and_after match (Fixed S0) b
  select_after match (Fixed X) b = and_after match (Fixed X) b
  select_after match (Fixed Z) b = and_after match (Fixed Z) b
  select_after match (Fixed M) b = and_after match (Fixed M) b
  select_after match (Fixed Dash) b = and_after match (Fixed Dash) b
  select_after match (OnWire p) b = and_after match (OnWire p) b

  mux_after : (x y : List SigBit) (s : SigBit) (b : Building) → mux_of_signals x y s (change b) ≡ beside change (mux_of_signals x y s b)
  mux_after x y s b =
      driver_after (codes "$mux") refl (integer_param (codes "\\WIDTH") (length x) ∷ [])
      (pin_of (codes "\\A") x ∷ pin_of (codes "\\B") y ∷ pin_of (codes "\\S") (s ∷ []) ∷ []) (codes "\\Y") (length x) b

  runs_after : (match : SigBit) (runs : List ℕ) (acc new enable : List SigBit) (b : Building) → port_runs match runs acc new enable (change b) ≡ beside change (port_runs match runs acc new enable b)
  runs_after match [] acc new enable b = refl
  runs_after match (n ∷ runs) acc new enable b =
      let select = run_select match (low_bit enable) b in
      let mux = mux_of_signals (take n acc) (take n new) select.0 select.1 in
      ap (λ (s : SigBit × Building). (let x = mux_of_signals (take n acc) (take n new) s.0 s.1 in let rest = port_runs match runs (drop n acc) (drop n new) (drop n enable) x.1 in (x.0 ++ rest.0, rest.1))) (select_after match (low_bit enable) b)
      ∙ ap (λ (x : List SigBit × Building). (let rest = port_runs match runs (drop n acc) (drop n new) (drop n enable) x.1 in (x.0 ++ rest.0, rest.1))) (mux_after (take n acc) (take n new) select.0 select.1)
      ∙ ap (λ (rest : List SigBit × Building). (mux.0 ++ rest.0, rest.1)) (runs_after match runs (drop n acc) (drop n new) (drop n enable) mux.1)

  port_after : (address : ℕ) (port : WritePort) (acc : List SigBit) (b : Building) → port_step address port acc (change b) ≡ beside change (port_step address port acc b)
  port_after address port acc b = by (nat_lt address (2 ^ length port.address))
    where
      runs : List ℕ
      runs = run_lengths (length port.enable) port.enable

      step : Building → List SigBit × Building
      step a = let match = address_match port.address address a in port_runs match.0 runs acc port.data port.enable match.1

      by : (t : Bool) → (if t then step (change b) else (acc, change b)) ≡ beside change (if t then step b else (acc, b))
      by true =
          let match = address_match port.address address b in
          ap (λ (m : SigBit × Building). port_runs m.0 runs acc port.data port.enable m.1) (match_after port.address address b)
          ∙ runs_after match.0 runs acc port.data port.enable match.1
      by false = refl

  ports_after : (address : ℕ) (ports : List WritePort) (acc : List SigBit) (b : Building) → ports_step address ports acc (change b) ≡ beside change (ports_step address ports acc b)
  ports_after address [] acc b = refl
  ports_after address (port ∷ ports) acc b =
      let next = port_step address port acc b in
      ap (λ (r : List SigBit × Building). ports_step address ports r.0 r.1) (port_after address port acc b) ∙ ports_after address ports next.0 next.1

  word_after : (plan : MemPlan) (word : Word) (b : Building) → word_step plan word (change b) ≡ change (word_step plan word b)
  word_after plan word b =
      let acc = ports_step word.address plan.writes word.signal b in
      ap flop (ports_after word.address plan.writes word.signal b)
      ∙ is.cell (codes "$dff") refl
      (integer_param (codes "\\WIDTH") (length word.signal) ∷ integer_param (codes "\\CLK_POLARITY") (if plan.rising then 1 else 0) ∷ [])
      (pin_of (codes "\\CLK") (plan.clock ∷ []) ∷ pin_of (codes "\\D") acc.0 ∷ pin_of (codes "\\Q") word.signal ∷ []) acc.1
    where
      flop : List SigBit × Building → Building
      flop acc =
          new_cell (codes "$dff")
          (integer_param (codes "\\WIDTH") (length word.signal) ∷ integer_param (codes "\\CLK_POLARITY") (if plan.rising then 1 else 0) ∷ [])
          (pin_of (codes "\\CLK") (plan.clock ∷ []) ∷ pin_of (codes "\\D") acc.0 ∷ pin_of (codes "\\Q") word.signal ∷ []) acc.1

  words_after : (plan : MemPlan) (words : List Word) (b : Building) → words_step plan words (change b) ≡ change (words_step plan words b)
  words_after plan [] b = refl
  words_after plan (word ∷ words) b = ap (words_step plan words) (word_after plan word b) ∙ words_after plan words (word_step plan word b)

  wires_after : (address : ℕ) (words : List (List Bit)) (b : Building) → word_wires address words (change b) ≡ beside change (word_wires address words b)
  wires_after address [] b = refl
  wires_after address (bits ∷ words) b =
      let wire = fresh_wire (length bits) (init_attribute bits ∷ []) b in
      ap (λ (w : List SigBit × Building). (let rest = word_wires (address + 1) words w.1 in (record { address = address; signal = w.0 } ∷ rest.0, rest.1))) (is.fresh (length bits) (init_attribute bits ∷ []) b)
      ∙ ap (λ (rest : List Word × Building). (record { address = address; signal = wire.0 } ∷ rest.0, rest.1)) (wires_after (address + 1) words wire.1)

  halves_after : (s : SigBit) (low high : Option (List SigBit)) (b : Building) → halves s low high (change b) ≡ beside change (halves s low high b)
  halves_after s (Some x) (Some y) b = ap (λ (mux : List SigBit × Building). (Some mux.0, mux.1)) (mux_after x y s b)
  halves_after s (Some x) None b = refl
  halves_after s None other b = refl

  tree_after : (words : List Word) (address : List SigBit) (j base : ℕ) (b : Building) → read_tree words address j base (change b) ≡ beside change (read_tree words address j base b)
  tree_after words address zero base b = refl
  tree_after words address (suc j) base b =
      let low = read_tree words address j base b in
      let high = read_tree words address j (base + 2 ^ j) low.1 in
      ap (λ (l : Option (List SigBit) × Building). (let h = read_tree words address j (base + 2 ^ j) l.1 in halves (low_bit (drop j address)) l.0 h.0 h.1)) (tree_after words address j base b)
      ∙ ap (λ (h : Option (List SigBit) × Building). halves (low_bit (drop j address)) low.0 h.0 h.1) (tree_after words address j (base + 2 ^ j) low.1)
      ∙ halves_after (low_bit (drop j address)) low.0 high.0 high.1

  read_after : (words : List Word) (port : ReadPort) (b : Building) → read_step words port (change b) ≡ change (read_step words port b)
  read_after words port b =
      let tree = read_tree words port.address (length port.address) 0 b in
      ap (λ (t : Option (List SigBit) × Building). new_link port.data (or_unknown (length port.data) t.0) t.1) (tree_after words port.address (length port.address) 0 b)
      ∙ is.link port.data (or_unknown (length port.data) tree.0) tree.1

  reads_after : (words : List Word) (ports : List ReadPort) (b : Building) → reads_step words ports (change b) ≡ change (reads_step words ports b)
  reads_after words [] b = refl
  reads_after words (port ∷ ports) b = ap (reads_step words ports) (read_after words port b) ∙ reads_after words ports (read_step words port b)

  pub step_after : (plan : MemPlan) (s : Store) (b : Building) → memory_step plan s (change b) ≡ change (memory_step plan s b)
  step_after plan s b = by (length plan.writes == 0)
    where
      made : Bool → Building → List Word × Building
      made t a = if t then (fixed_words (nat_abs s.offset) plan.words, a) else word_wires (nat_abs s.offset) plan.words a

      all : Bool → Building → Building
      all t a =
          let words = made t a in
          reads_step words.0 plan.reads (if t then words.1 else words_step plan words.0 words.1)

      by : (t : Bool) → all t (change b) ≡ change (all t b)
      by true = reads_after (fixed_words (nat_abs s.offset) plan.words) plan.reads b
      by false =
          let words = word_wires (nat_abs s.offset) plan.words b in
          ap (λ (w : List Word × Building). reads_step w.0 plan.reads (words_step plan w.0 w.1)) (wires_after (nat_abs s.offset) plan.words b)
          ∙ ap (reads_step words.0 plan.reads) (words_after plan words.0 words.1)
          ∙ reads_after words.0 plan.reads (words_step plan words.0 words.1)

-- the module without a memory and its cells
module _ (at : ℕ) (s : Store) where
  abbrev pub left_out : Building → Building
  left_out b = record { body = without_memory at s b.body; next = b.next }

  cell_out :
      (kind : List ℕ) → is_memory_kind (kind_of kind) ≡ false → (params : List CellParam) (pins : List Pin) (b : Building) →
      new_cell kind params pins (left_out b) ≡ left_out (new_cell kind params pins b)
  unfolding cell_kind
  cell_out kind plain params pins b =
      let c : Cell = record { kind_name = kind; name = made_name b.next; params = params; pins = pins; attributes = [] } in
      let stays : Cell → Bool = λ c. not (is_memory_kind (cell_kind c) && is_of_memory s.name c) in
      let last : filter stays (c ∷ []) ≡ c ∷ [] = ap (λ t. if not (t && is_of_memory s.name c) then c ∷ [] else []) plain in
      let all : filter stays b.body.cells ++ c ∷ [] ≡ filter stays (b.body.cells ++ c ∷ []) =
      ap (λ cs. filter stays b.body.cells ++ cs) (sym last) ∙ sym (filter-append stays b.body.cells (c ∷ [])) in
      ap (λ cs. record { body = record (left_out b).body { cells = cs }; next = b.next + 1 }) all

  out_commutes : Commutes left_out
  out_commutes = record {
    wires = λ b. refl;
    fresh = λ width attributes b. refl;
    cell = λ kind plain params pins b. cell_out kind plain params pins b;
    link = λ left right b. refl;
  }

  -- words may as well be made after the memory went
  pub made_without : (plan : MemPlan) (m : Module) → memory_step plan s (building_without at s m) ≡ left_out (memory_step plan s (building_of m))
  made_without plan m = step_after left_out out_commutes plan s (building_of m)
