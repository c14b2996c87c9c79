-- Step by step, what is built for a memory fits.
use Rattle.std.proofs.Common.{◌≡◌, ◌<◌, ◌≤◌, ℕ, zero, suc, ◌+◌, ◌^◌, Bool, true, false, List, [], ◌∷◌, ◌++◌, length, Option, Some, None, if◌then◌else◌, ◌⊎◌, inl, inr, refl, sym, ◌∙◌, ap, arith}
use Rattle.std.specs.Prelude.{◌==◌, drop, map, nat_abs, nat_lt, not, replicate, take}
use Rattle.std.proofs.lemmas.Bool.{eq-eqb}
use Rattle.std.proofs.lemmas.List.{length-drop, length-take-le}
use Rattle.rtl_bits.proofs.NumberLemmas.{bits_of_length}
use Rattle.rtl_bits.specs.Numbers.{bits_of}
use Rattle.rtl_bits.specs.declared.bit.Bit.{Bit}
use Rattle.rtl_bits.specs.declared.bit.Bit.TheVariants.{S1, X}
use Rattle.rtl_sig.specs.declared.sig.SigBit.{SigBit}
use Rattle.rtl_sig.specs.declared.sig.SigBit.TheVariants.{Fixed}
use Rattle.rtl_ir.specs.Build.{Building, fresh_wire, made_name}
use Rattle.rtl_ir.specs.Signals.{bits_of_wire, has_constant}
use Rattle.rtl_ir.specs.declared.cell.Cell.{Cell}
use Rattle.rtl_ir.specs.declared.module.Link.{Link}
use Rattle.rtl_ir.specs.declared.plan.MemPlan.{MemPlan}
use Rattle.rtl_ir.specs.declared.plan.ReadPort.{ReadPort}
use Rattle.rtl_ir.specs.declared.plan.WritePort.{WritePort}
use Rattle.rtl_ir.specs.declared.store.Store.{Store}
use Rattle.net_model.proofs.Ranges.{each_both, each_more, each_none}
use Rattle.net_model.specs.Lists.{In}
use Rattle.net_model.specs.Mem.Expand.{Word, address_match, fixed_words, halves, low_bit, memory_step, mux_of_signals, or_unknown, port_runs, port_step, ports_step, read_step, read_tree, reads_step, run_length, run_lengths, run_select, word_at, word_step, word_wires, words_step}
use Rattle.net_model.specs.Proc.Start.{init_attribute}
use Rattle.net_model.specs.Within.{Each}
use Rattle.pass_laws.specs.Replaces.{IsEven}
use Rattle.build_laws.proofs.CellFits.{no_constant}
use Rattle.memory_laws.proofs.Fitting.{IsFit, and_fit, dff_fit, eq_fit, mux_fit}
use Rattle.memory_laws.proofs.PortCells.{whole_long}
use Rattle.memory_laws.proofs.PortRuns.{run_length_long}
use Rattle.memory_laws.proofs.PortSteps.{port_by, port_long, ports_long}
use Rattle.memory_laws.proofs.ReadTrees.{IsAsWide, tree_wide}
use Rattle.memory_laws.proofs.WordWires.{fixed_wide, wires_wide}

map_long : {A B : Type 0} (f : A → B) (xs : List A) → length (map f xs) ≡ length xs
map_long f [] = refl
map_long f (x ∷ xs) = ap suc (map_long f xs)

replicate_long : (n : ℕ) (s : SigBit) → length (replicate n s) ≡ n
replicate_long zero s = refl
replicate_long (suc n) s = ap suc (replicate_long n s)

-- a write port on words of a width
pub record WriteFits (n : ℕ) (port : WritePort) : Type 0 where
  pub some : 0 < length port.address
  pub few : length port.address ≤ 4096
  pub enable : length port.enable ≡ n
  pub new : length port.data ≡ n

-- a read port of them
pub record ReadFits (n : ℕ) (port : ReadPort) : Type 0 where
  pub new : length port.data ≡ n
  pub wires : has_constant port.data ≡ false

module _ (old : List Cell) (links : List Link) where
  -- each cell and each connection is an old one, or fits
  pub record AreFit (b : Building) : Type 0 where
    pub cells : Each (λ (c : Cell). In c old ⊎ IsFit c) b.body.cells
    pub lines : Each (λ (l : Link). In l links ⊎ IsEven l) b.body.links

  with_cell : (b : Building) → AreFit b → (c : Cell) → IsFit c → Each (λ (d : Cell). In d old ⊎ IsFit d) (b.body.cells ++ c ∷ [])
  with_cell b h c fit =
      each_both (λ (d : Cell). In d old ⊎ IsFit d) b.body.cells (c ∷ []) h.cells (each_more (λ (d : Cell). In d old ⊎ IsFit d) c [] (inr fit) (each_none (λ (d : Cell). In d old ⊎ IsFit d)))

  match_fits : (address : List SigBit) (number : ℕ) (b : Building) → AreFit b → 0 < length address → length address ≤ 4096 → AreFit (address_match address number b).1
  match_fits address number b h some few = record {
    cells = with_cell b h _ (eq_fit (made_name b.next) address (map Fixed (bits_of number (length address))) (length b.body.wires) (map_long Fixed (bits_of number (length address)) ∙ bits_of_length number (length address)) some few);
    lines = h.lines;
  }

  select_fits : (match enable : SigBit) (b : Building) → AreFit b → AreFit (run_select match enable b).1
  select_fits match (Fixed S1) b h = h
  select_fits match enable b h = record { cells = with_cell b h _ (and_fit (made_name b.next) match enable (length b.body.wires)); lines = h.lines }

  mux_fits : (a c : List SigBit) (s : SigBit) (b : Building) → AreFit b → length c ≡ length a → 0 < length a → length a ≤ 4096 → AreFit (mux_of_signals a c s b).1
  mux_fits a c s b h same some few = record { cells = with_cell b h _ (mux_fit (made_name b.next) a c s (length b.body.wires) same some few); lines = h.lines }

  runs_fit : (fuel : ℕ) (match : SigBit) (acc new enable : List SigBit) (b : Building) → AreFit b → length acc ≡ length enable → length new ≡ length enable → length enable ≤ 4096 → AreFit (port_runs match (run_lengths fuel enable) acc new enable b).1
  runs_fit zero match acc new enable b h la ln few = h
  runs_fit (suc fuel) match acc new [] b h la ln few = h
  runs_fit (suc fuel) match acc new (e ∷ enable) b h la ln few =
      let n : ℕ = suc (run_length e enable) in
      let long = run_length_long e enable in
      let ta : length (take n acc) ≡ n = length-take-le n acc (omega (arith, la, long)) in
      let tn : length (take n new) ≡ n = length-take-le n new (omega (arith, ln, long)) in
      let select = run_select match e b in
      let mux = mux_of_signals (take n acc) (take n new) select.0 select.1 in
      let s = select_fits match e b h in
      let m = mux_fits (take n acc) (take n new) select.0 select.1 s (tn ∙ sym ta) (omega (arith, ta)) (omega (arith, ta, long, few)) in
      runs_fit fuel match (drop n acc) (drop n new) (drop (run_length e enable) enable) mux.1 m
      (omega (arith, length-drop n acc, length-drop (run_length e enable) enable, la))
      (omega (arith, length-drop n new, length-drop (run_length e enable) enable, ln))
      (omega (arith, length-drop (run_length e enable) enable, few))

  module _ (n : ℕ) (some : 0 < n) (few : n ≤ 4096) where
    port_fits : (address : ℕ) (port : WritePort) (acc : List SigBit) (b : Building) → AreFit b → WriteFits n port → length acc ≡ n → AreFit (port_step address port acc b).1
    port_fits address port acc b h fit la = by (nat_lt address (2 ^ length port.address))
      where
        by : (t : Bool) → AreFit (port_by t address port acc b).1
        by true =
            let match = address_match port.address address b in
            runs_fit (length port.enable) match.0 acc port.data port.enable match.1 (match_fits port.address address b h fit.some fit.few) (la ∙ sym fit.enable) (fit.new ∙ sym fit.enable) (omega (arith, fit.enable, few))
        by false = h

    ports_fit : (address : ℕ) (ports : List WritePort) (acc : List SigBit) (b : Building) → AreFit b → Each (WriteFits n) ports → length acc ≡ n → AreFit (ports_step address ports acc b).1
    ports_fit address [] acc b h fit la = h
    ports_fit address (port ∷ ports) acc b h fit la =
        let next = port_step address port acc b in
        let own = fit port (inl refl) in
        ports_fit address ports next.0 next.1 (port_fits address port acc b h own la) (λ q i. fit q (inr i)) (port_long address port acc b (own.enable ∙ sym la) ∙ la)

    -- a word that is a wire
    word_fits : (plan : MemPlan) (word : Word) (b : Building) → AreFit b → Each (WriteFits n) plan.writes → length word.signal ≡ n → has_constant word.signal ≡ false → AreFit (word_step plan word b)
    word_fits plan word b h fit lw wires =
        let acc = ports_step word.address plan.writes word.signal b in
        let p = ports_fit word.address plan.writes word.signal b h fit lw in
        let long : length acc.0 ≡ length word.signal = ports_long word.address plan.writes word.signal b (λ q i. (fit q i).enable ∙ sym lw) in
        record { cells = with_cell acc.1 p _ (dff_fit (made_name acc.1.next) plan.rising plan.clock acc.0 word.signal long (omega (arith, lw, some)) (omega (arith, lw, few)) wires); lines = p.lines }

    words_fit : (plan : MemPlan) (words : List Word) (b : Building) → AreFit b → Each (WriteFits n) plan.writes → Each (λ (word : Word). (length word.signal ≡ n) × (has_constant word.signal ≡ false)) words → AreFit (words_step plan words b)
    words_fit plan [] b h fit wide = h
    words_fit plan (word ∷ words) b h fit wide =
        words_fit plan words (word_step plan word b) (word_fits plan word b h fit (wide word (inl refl)).0 (wide word (inl refl)).1) fit (λ w i. wide w (inr i))

    halves_fit : (s : SigBit) (low high : Option (List SigBit)) (b : Building) → AreFit b → IsAsWide n low → IsAsWide n high → AreFit (halves s low high b).1
    halves_fit s (Some a) (Some c) b h la lc = mux_fits a c s b h (lc ∙ sym la) (omega (arith, la, some)) (omega (arith, la, few))
    halves_fit s (Some a) None b h la lc = h
    halves_fit s None other b h la lc = h

    tree_fits : (words : List Word) → ((i : ℕ) → IsAsWide n (word_at words i)) → (address : List SigBit) (j base : ℕ) (b : Building) → AreFit b → AreFit (read_tree words address j base b).1
    tree_fits words wide address zero base b h = h
    tree_fits words wide address (suc j) base b h =
        let low = read_tree words address j base b in
        let high = read_tree words address j (base + 2 ^ j) low.1 in
        halves_fit (low_bit (drop j address)) low.0 high.0 high.1 (tree_fits words wide address j (base + 2 ^ j) low.1 (tree_fits words wide address j base b h)) (tree_wide n words wide address j base b) (tree_wide n words wide address j (base + 2 ^ j) low.1)

    or_long : (o : Option (List SigBit)) (k : ℕ) → IsAsWide n o → k ≡ n → length (or_unknown k o) ≡ n
    or_long None k w e = replicate_long k (Fixed X) ∙ e
    or_long (Some signal) k w e = w

    read_fits : (words : List Word) → ((i : ℕ) → IsAsWide n (word_at words i)) → (port : ReadPort) (b : Building) → AreFit b → ReadFits n port → AreFit (read_step words port b)
    read_fits words wide port b h fit =
        let tree = read_tree words port.address (length port.address) 0 b in
        let t = tree_fits words wide port.address (length port.address) 0 b h in
        let right : length (or_unknown (length port.data) tree.0) ≡ n = or_long tree.0 (length port.data) (tree_wide n words wide port.address (length port.address) 0 b) fit.new in
        let l : Link = record { left = port.data; right = or_unknown (length port.data) tree.0 } in
        let even : IsEven l = record { width = ap not (eq-eqb (length port.data) (length (or_unknown (length port.data) tree.0)) (fit.new ∙ sym right)); wires = fit.wires } in
        record {
          cells = t.cells;
          lines = each_both (λ (k : Link). In k links ⊎ IsEven k) tree.1.body.links (l ∷ []) t.lines (each_more (λ (k : Link). In k links ⊎ IsEven k) l [] (inr even) (each_none (λ (k : Link). In k links ⊎ IsEven k)));
        }

    reads_fit : (words : List Word) → ((i : ℕ) → IsAsWide n (word_at words i)) → (ports : List ReadPort) (b : Building) → AreFit b → Each (ReadFits n) ports → AreFit (reads_step words ports b)
    reads_fit words wide [] b h fit = h
    reads_fit words wide (port ∷ ports) b h fit =
        reads_fit words wide ports (read_step words port b) (read_fits words wide port b h (fit port (inl refl))) (λ q i. fit q (inr i))

  wires_fit : (n address : ℕ) (words : List (List Bit)) (b : Building) → AreFit b → Each (λ bits. length bits ≡ n) words → AreFit (word_wires address words b).1 × Each (λ (word : Word). (length word.signal ≡ n) × (has_constant word.signal ≡ false)) (word_wires address words b).0
  wires_fit n address [] b h wide = (h, each_none (λ (word : Word). (length word.signal ≡ n) × (has_constant word.signal ≡ false)))
  wires_fit n address (bits ∷ words) b h wide =
      let made = fresh_wire (length bits) (init_attribute bits ∷ []) b in
      let rest = word_wires (address + 1) words made.1 in
      let later = wires_fit n (address + 1) words made.1 (record { cells = h.cells; lines = h.lines }) (λ x i. wide x (inr i)) in
      (later.0, each_more (λ (word : Word). (length word.signal ≡ n) × (has_constant word.signal ≡ false)) (record { address = address; signal = made.0 }) rest.0 (whole_long (length b.body.wires) (length bits) ∙ wide bits (inl refl), no_constant (bits_of_wire (length b.body.wires) (length bits))) later.1)

  -- all of a memory; the width is asked for where there is a port
  pub memory_fits : (n : ℕ) (plan : MemPlan) (s : Store) (b : Building) → AreFit b → Each (λ bits. length bits ≡ n) plan.words → Each (λ port. WriteFits n port × (0 < n) × (n ≤ 4096)) plan.writes → Each (λ port. ReadFits n port × (0 < n) × (n ≤ 4096)) plan.reads → AreFit (memory_step plan s b)
  memory_fits n plan s b h words writes reads = by (length plan.writes == 0) refl
    where
      last : (ws : List Word) → ((i : ℕ) → IsAsWide n (word_at ws i)) → (made : Building) → AreFit made → (ports : List ReadPort) → Each (λ port. ReadFits n port × (0 < n) × (n ≤ 4096)) ports → AreFit (reads_step ws ports made)
      last ws wide made g [] fit = g
      last ws wide made g (port ∷ ports) fit =
          let own = fit port (inl refl) in
          reads_fit n own.1 own.2 ws wide (port ∷ ports) made g (λ q i. (fit q i).0)

      first : (ports : List WritePort) → (length ports == 0) ≡ false → Each (λ port. WriteFits n port × (0 < n) × (n ≤ 4096)) ports → (0 < n) × (n ≤ 4096)
      first [] e fit = absurd (cc)
      first (port ∷ ports) e fit = let own = fit port (inl refl) in (own.1, own.2)

      by : (t : Bool) → (length plan.writes == 0) ≡ t → AreFit (let ws = (if t then (fixed_words (nat_abs s.offset) plan.words, b) else word_wires (nat_abs s.offset) plan.words b) in reads_step ws.0 plan.reads (if t then ws.1 else words_step plan ws.0 ws.1))
      by true e = last (fixed_words (nat_abs s.offset) plan.words) (fixed_wide n (nat_abs s.offset) plan.words words) b h plan.reads reads
      by false e =
          let k = first plan.writes e writes in
          let ws = word_wires (nat_abs s.offset) plan.words b in
          let made = wires_fit n (nat_abs s.offset) plan.words b h words in
          last ws.0 (wires_wide n (nat_abs s.offset) plan.words b words) (words_step plan ws.0 ws.1) (words_fit n k.0 k.1 plan ws.0 ws.1 made.0 (λ q i. (writes q i).0) made.1) plan.reads reads
