-- What is built for a memory is such as a text can give.
use Rattle.std.proofs.Common.{◌≡◌, ◌<◌, ◌≤◌, ℕ, zero, suc, ◌+◌, ◌^◌, Bool, true, false, List, [], ◌∷◌, length, Option, Some, None, if◌then◌else◌, inl, inr, refl, sym, ◌∙◌, arith, length-append}
use Rattle.std.specs.Prelude.{◌==◌, codes, drop, map, nat_abs, nat_lt, take}
use Rattle.std.proofs.lemmas.List.{length-drop, length-map, length-take-le}
use Rattle.std.proofs.lemmas.List.Elements.{All-head}
use Rattle.rtl_bits.proofs.NumberLemmas.{bits_of_length}
use Rattle.rtl_bits.specs.Numbers.{bits_of}
use Rattle.rtl_bits.specs.declared.bit.Bit.{Bit}
use Rattle.rtl_bits.specs.declared.bit.Bit.TheVariants.{S0, S1, X, Z, M, Dash}
use Rattle.rtl_sig.specs.declared.sig.SigBit.{SigBit}
use Rattle.rtl_sig.specs.declared.sig.SigBit.TheVariants.{Fixed, Wire as OnWire}
use Rattle.rtl_ir.specs.Build.{Building, fresh_wire, integer_param, pin_of, whole}
use Rattle.rtl_ir.specs.declared.plan.MemPlan.{MemPlan}
use Rattle.rtl_ir.specs.declared.plan.ReadPort.{ReadPort}
use Rattle.rtl_ir.specs.declared.plan.WritePort.{WritePort}
use Rattle.rtl_ir.specs.declared.store.Store.{Store}
use Rattle.rtl_ir.specs.declared.wire.Wire.{Wire}
use Rattle.net_model.proofs.Ranges.{each_more}
use Rattle.net_model.specs.Mem.Expand.{Word, address_match, fixed_words, halves, low_bit, memory_step, mux_of_signals, or_unknown, port_runs, port_step, ports_step, read_step, read_tree, reads_step, run_length, run_lengths, run_select, word_at, word_step, word_wires, words_step}
use Rattle.net_model.specs.Proc.Start.{init_attribute}
use Rattle.net_model.specs.Within.{Each}
use Rattle.rtl_readable.specs.Readable.{IsBitOf, IsCellParam, IsSignal}
use Rattle.readable_laws.specs.Extends.{Extends}
use Rattle.readable_laws.proofs.Cells.{Builds, and_builds, apart_distinct, eq_builds, init_is, mux_builds, number_is, params_two, pins_three}
use Rattle.readable_laws.proofs.Extending.{bit_later, extends_both, extends_cell, extends_link, extends_none, extends_wire, signal_later, wire_signal}
use Rattle.readable_laws.proofs.Parts.{append_signal, drop_signal, filled_signal, fixed_signal, one_signal, take_signal}
use Rattle.memory_laws.proofs.FittingSteps.{ReadFits, WriteFits}
use Rattle.memory_laws.proofs.PortCells.{whole_long as whole_is}
use Rattle.memory_laws.proofs.PortRuns.{run_length_long}
use Rattle.memory_laws.proofs.PortSteps.{port_long}
use Rattle.memory_laws.proofs.ReadTrees.{IsAsWide, tree_wide}
use Rattle.memory_laws.proofs.WordWires.{fixed_wide, wires_wide}
use Rattle.memory_laws.proofs.PortSteps.{port_by}

-- what is built, with a bit over its wires
record BuildsBit (old new : Building) (s : SigBit) : Type 0 where
  steps : Extends old new
  bit_is : IsBitOf new.body.wires s

low_is : (wires : List Wire) (signal : List SigBit) → IsSignal wires signal → IsBitOf wires (low_bit signal)
low_is wires [] is = tt
low_is wires (s ∷ signal) is = All-head (IsBitOf wires) s signal is.bits

match_builds : (address : List SigBit) (number : ℕ) (b : Building) → IsSignal b.body.wires address → BuildsBit b (address_match address number b).1 (address_match address number b).0
match_builds address number b is =
    let g = eq_builds b (length address) address (map Fixed (bits_of number (length address))) (omega (arith, is.width)) is (fixed_signal b.body.wires (bits_of number (length address)) (omega (arith, is.width, bits_of_length number (length address)))) in
    record { steps = g.steps; bit_is = low_is (address_match address number b).1.body.wires (whole (length b.body.wires) 1) g.signal_is }

select_builds : (match enable : SigBit) (b : Building) → IsBitOf b.body.wires match → IsBitOf b.body.wires enable → BuildsBit b (run_select match enable b).1 (run_select match enable b).0
select_builds match (Fixed S1) b h i = record { steps = extends_none b; bit_is = h }
select_builds match (Fixed S0) b h i = let g = and_builds b match (Fixed S0) h i in record { steps = g.steps; bit_is = low_is _ (whole (length b.body.wires) 1) g.signal_is }
select_builds match (Fixed X) b h i = let g = and_builds b match (Fixed X) h i in record { steps = g.steps; bit_is = low_is _ (whole (length b.body.wires) 1) g.signal_is }
select_builds match (Fixed Z) b h i = let g = and_builds b match (Fixed Z) h i in record { steps = g.steps; bit_is = low_is _ (whole (length b.body.wires) 1) g.signal_is }
select_builds match (Fixed M) b h i = let g = and_builds b match (Fixed M) h i in record { steps = g.steps; bit_is = low_is _ (whole (length b.body.wires) 1) g.signal_is }
select_builds match (Fixed Dash) b h i = let g = and_builds b match (Fixed Dash) h i in record { steps = g.steps; bit_is = low_is _ (whole (length b.body.wires) 1) g.signal_is }
select_builds match (OnWire e) b h i = let g = and_builds b match (OnWire e) h i in record { steps = g.steps; bit_is = low_is _ (whole (length b.body.wires) 1) g.signal_is }

-- a signal that is no longer than another
record BuildsWithin (old new : Building) (signal : List SigBit) (count : ℕ) : Type 0 where
  steps : Extends old new
  signal_is : IsSignal new.body.wires signal
  short : length signal ≤ count

runs_build : (fuel : ℕ) (match : SigBit) (acc new enable : List SigBit) (b : Building) → IsBitOf b.body.wires match → IsSignal b.body.wires acc → IsSignal b.body.wires new → IsSignal b.body.wires enable
    → length acc ≡ length enable → length new ≡ length enable → length enable ≤ 4096
    → BuildsWithin b (port_runs match (run_lengths fuel enable) acc new enable b).1 (port_runs match (run_lengths fuel enable) acc new enable b).0 (length acc)
runs_build zero match acc new enable b hm ha hn he la ln few = record { steps = extends_none b; signal_is = take_signal b.body.wires 0 acc ha; short = omega arith }
runs_build (suc fuel) match acc new [] b hm ha hn he la ln few = record { steps = extends_none b; signal_is = he; short = omega arith }
runs_build (suc fuel) match acc new (e ∷ enable) b hm ha hn he la ln few =
    let n : ℕ = suc (run_length e enable) in
    let long = run_length_long e enable in
    let ta : length (take n acc) ≡ n = length-take-le n acc (omega (arith, la, long)) in
    let select = run_select match e b in
    let mux = mux_of_signals (take n acc) (take n new) select.0 select.1 in
    let rest = port_runs match (run_lengths fuel (drop (run_length e enable) enable)) (drop n acc) (drop n new) (drop (run_length e enable) enable) mux.1 in
    let s = select_builds match e b hm (All-head (IsBitOf b.body.wires) e enable he.bits) in
    let m = mux_builds select.1 (take n acc) (take n new) select.0 (omega (arith, ta)) (omega (arith, ta, long, few)) (signal_later b select.1 s.steps (take n acc) (take_signal b.body.wires n acc ha)) (signal_later b select.1 s.steps (take n new) (take_signal b.body.wires n new hn)) s.bit_is in
    let steps = extends_both b select.1 mux.1 s.steps m.steps in
    let r = runs_build fuel match (drop n acc) (drop n new) (drop (run_length e enable) enable) mux.1 (bit_later b mux.1 steps match hm)
    (signal_later b mux.1 steps (drop n acc) (drop_signal b.body.wires n acc ha)) (signal_later b mux.1 steps (drop n new) (drop_signal b.body.wires n new hn))
    (signal_later b mux.1 steps (drop (run_length e enable) enable) (drop_signal b.body.wires n (e ∷ enable) he))
    (omega (arith, length-drop n acc, length-drop (run_length e enable) enable, la))
    (omega (arith, length-drop n new, length-drop (run_length e enable) enable, ln))
    (omega (arith, length-drop (run_length e enable) enable, few)) in
    let out : length mux.0 ≡ n = whole_is (length select.1.body.wires) (length (take n acc)) ∙ ta in
    let short : length mux.0 + length rest.0 ≤ length acc = omega (arith, out, r.short, length-drop n acc, la, long) in
    record {
      steps = extends_both b mux.1 rest.1 steps r.steps;
      signal_is = append_signal rest.1.body.wires mux.0 rest.0 (signal_later mux.1 rest.1 r.steps mux.0 m.signal_is) r.signal_is (omega (arith, short, la, few));
      short = omega (arith, short, length-append mux.0 rest.0);
    }

-- a write port and a read port over wires
pub record WriteReads (wires : List Wire) (port : WritePort) : Type 0 where
  pub address : IsSignal wires port.address
  pub new : IsSignal wires port.data
  pub enable : IsSignal wires port.enable

pub record ReadReads (wires : List Wire) (port : ReadPort) : Type 0 where
  pub address : IsSignal wires port.address
  pub new : IsSignal wires port.data

write_later : (a b : Building) → Extends a b → (port : WritePort) → WriteReads a.body.wires port → WriteReads b.body.wires port
write_later a b e port h = record { address = signal_later a b e port.address h.address; new = signal_later a b e port.data h.new; enable = signal_later a b e port.enable h.enable }

read_later : (a b : Building) → Extends a b → (port : ReadPort) → ReadReads a.body.wires port → ReadReads b.body.wires port
read_later a b e port h = record { address = signal_later a b e port.address h.address; new = signal_later a b e port.data h.new }

-- a word over wires, of a width
abbrev WordReads : ℕ → List Wire → Word → Type 0
WordReads n wires word = IsSignal wires word.signal × (length word.signal ≡ n)

words_later : (n : ℕ) (a b : Building) → Extends a b → (words : List Word) → Each (WordReads n a.body.wires) words → Each (WordReads n b.body.wires) words
words_later n a b e words h word i = (signal_later a b e word.signal (h word i).0, (h word i).1)

module _ (n : ℕ) (some : 0 < n) (few : n ≤ 4096) where
  port_builds : (address : ℕ) (port : WritePort) (acc : List SigBit) (b : Building) → WriteReads b.body.wires port → WriteFits n port → IsSignal b.body.wires acc → length acc ≡ n
      → Builds b (port_step address port acc b).1 (port_step address port acc b).0
  port_builds address port acc b h fit ha la = by (nat_lt address (2 ^ length port.address))
    where
      by : (t : Bool) → Builds b (port_by t address port acc b).1 (port_by t address port acc b).0
      by true =
          let match = address_match port.address address b in
          let m = match_builds port.address address b h.address in
          let p = write_later b match.1 m.steps port h in
          let r = runs_build (length port.enable) match.0 acc port.data port.enable match.1 m.bit_is (signal_later b match.1 m.steps acc ha) p.new p.enable (la ∙ sym fit.enable) (fit.new ∙ sym fit.enable) (omega (arith, fit.enable, few)) in
          record { steps = extends_both b match.1 _ m.steps r.steps; signal_is = r.signal_is }
      by false = record { steps = extends_none b; signal_is = ha }

  ports_build : (address : ℕ) (ports : List WritePort) (acc : List SigBit) (b : Building) → Each (WriteReads b.body.wires) ports → Each (WriteFits n) ports → IsSignal b.body.wires acc → length acc ≡ n
      → Builds b (ports_step address ports acc b).1 (ports_step address ports acc b).0
  ports_build address [] acc b h fit ha la = record { steps = extends_none b; signal_is = ha }
  ports_build address (port ∷ ports) acc b h fit ha la =
      let next = port_step address port acc b in
      let own = fit port (inl refl) in
      let p = port_builds address port acc b (h port (inl refl)) own ha la in
      let r = ports_build address ports next.0 next.1 (λ q i. write_later b next.1 p.steps q (h q (inr i))) (λ q i. fit q (inr i)) p.signal_is (port_long address port acc b (own.enable ∙ sym la) ∙ la) in
      record { steps = extends_both b next.1 _ p.steps r.steps; signal_is = r.signal_is }

  edge_is : (t : Bool) → IsCellParam (integer_param (codes "\\CLK_POLARITY") (if t then 1 else 0))
  edge_is true = number_is (codes "\\CLK_POLARITY") 1 refl (omega arith)
  edge_is false = number_is (codes "\\CLK_POLARITY") 0 refl (omega arith)

  word_builds : (plan : MemPlan) (word : Word) (b : Building) → Each (WriteReads b.body.wires) plan.writes → Each (WriteFits n) plan.writes → IsBitOf b.body.wires plan.clock → WordReads n b.body.wires word → Extends b (word_step plan word b)
  word_builds plan word b h fit clock wide =
      let acc = ports_step word.address plan.writes word.signal b in
      let p = ports_build word.address plan.writes word.signal b h fit wide.0 wide.1 in
      let width : IsCellParam (integer_param (codes "\\WIDTH") (length word.signal)) = number_is (codes "\\WIDTH") (length word.signal) refl (omega (arith, wide.1, few)) in
      extends_both b acc.1 (word_step plan word b) p.steps
      (extends_cell (codes "$dff") (integer_param (codes "\\WIDTH") (length word.signal) ∷ integer_param (codes "\\CLK_POLARITY") (if plan.rising then 1 else 0) ∷ [])
      (pin_of (codes "\\CLK") (plan.clock ∷ []) ∷ pin_of (codes "\\D") acc.0 ∷ pin_of (codes "\\Q") word.signal ∷ []) acc.1
      (record {
        kind_name = refl;
        values = params_two (integer_param (codes "\\WIDTH") (length word.signal)) (integer_param (codes "\\CLK_POLARITY") (if plan.rising then 1 else 0)) width (edge_is plan.rising);
        distinct_params = apart_distinct (codes "\\WIDTH" ∷ codes "\\CLK_POLARITY" ∷ []) refl;
        distinct_pins = apart_distinct (codes "\\CLK" ∷ codes "\\D" ∷ codes "\\Q" ∷ []) refl;
      })
      (pins_three acc.1.body.wires (pin_of (codes "\\CLK") (plan.clock ∷ [])) (pin_of (codes "\\D") acc.0) (pin_of (codes "\\Q") word.signal)
      (record { name = refl; sig = one_signal acc.1.body.wires plan.clock (bit_later b acc.1 p.steps plan.clock clock) })
      (record { name = refl; sig = p.signal_is })
      (record { name = refl; sig = signal_later b acc.1 p.steps word.signal wide.0 })))

  words_build : (plan : MemPlan) (words : List Word) (b : Building) → Each (WriteReads b.body.wires) plan.writes → Each (WriteFits n) plan.writes → IsBitOf b.body.wires plan.clock → Each (WordReads n b.body.wires) words → Extends b (words_step plan words b)
  words_build plan [] b h fit clock wide = extends_none b
  words_build plan (word ∷ words) b h fit clock wide =
      let next = word_step plan word b in
      let w = word_builds plan word b h fit clock (wide word (inl refl)) in
      extends_both b next (words_step plan words next) w
      (words_build plan words next (λ q i. write_later b next w q (h q i)) fit (bit_later b next w plan.clock clock) (λ v i. words_later n b next w (word ∷ words) wide v (inr i)))

  -- a signal that may be there
  abbrev OptionReads : List Wire → Option (List SigBit) → Type 0
  OptionReads wires None = Unit {0}
  OptionReads wires (Some signal) = IsSignal wires signal

  option_later : (a b : Building) → Extends a b → (o : Option (List SigBit)) → OptionReads a.body.wires o → OptionReads b.body.wires o
  option_later a b e None h = tt
  option_later a b e (Some signal) h = signal_later a b e signal h

  record BuildsOption (old new : Building) (o : Option (List SigBit)) : Type 0 where
    steps : Extends old new
    signal_is : OptionReads new.body.wires o

  at_is : (wires : List Wire) (words : List Word) (base : ℕ) → Each (WordReads n wires) words → OptionReads wires (word_at words base)
  at_is wires [] base h = tt
  at_is wires (word ∷ words) base h = by (word.address == base) (at_is wires words base (λ w i. h w (inr i)))
    where
      by : (t : Bool) → OptionReads wires (word_at words base) → OptionReads wires (if t then Some word.signal else word_at words base)
      by true later = (h word (inl refl)).0
      by false later = later

  halves_build : (s : SigBit) (low high : Option (List SigBit)) (b : Building) → IsBitOf b.body.wires s → OptionReads b.body.wires low → OptionReads b.body.wires high → IsAsWide n low → BuildsOption b (halves s low high b).1 (halves s low high b).0
  halves_build s (Some a) (Some c) b hs ha hc la =
      let m = mux_builds b a c s (omega (arith, la, some)) (omega (arith, la, few)) ha hc hs in record { steps = m.steps; signal_is = m.signal_is }
  halves_build s (Some a) None b hs ha hc la = record { steps = extends_none b; signal_is = ha }
  halves_build s None other b hs ha hc la = record { steps = extends_none b; signal_is = hc }

  tree_builds : (words : List Word) → ((i : ℕ) → IsAsWide n (word_at words i)) → (address : List SigBit) (j base : ℕ) (b : Building) → Each (WordReads n b.body.wires) words → IsSignal b.body.wires address → BuildsOption b (read_tree words address j base b).1 (read_tree words address j base b).0
  tree_builds words wide address zero base b h ha = record { steps = extends_none b; signal_is = at_is b.body.wires words base h }
  tree_builds words wide address (suc j) base b h ha =
      let low = read_tree words address j base b in
      let high = read_tree words address j (base + 2 ^ j) low.1 in
      let l = tree_builds words wide address j base b h ha in
      let r = tree_builds words wide address j (base + 2 ^ j) low.1 (words_later n b low.1 l.steps words h) (signal_later b low.1 l.steps address ha) in
      let steps = extends_both b low.1 high.1 l.steps r.steps in
      let m = halves_build (low_bit (drop j address)) low.0 high.0 high.1 (low_is high.1.body.wires (drop j address) (drop_signal high.1.body.wires j address (signal_later b high.1 steps address ha))) (option_later low.1 high.1 r.steps low.0 l.signal_is) r.signal_is (tree_wide n words wide address j base b) in
      record { steps = extends_both b high.1 _ steps m.steps; signal_is = m.signal_is }

  or_is : (wires : List Wire) (k : ℕ) (o : Option (List SigBit)) → k ≤ 4194304 → OptionReads wires o → IsSignal wires (or_unknown k o)
  or_is wires k None short h = filled_signal wires k X short
  or_is wires k (Some signal) short h = h

  read_builds : (words : List Word) → ((i : ℕ) → IsAsWide n (word_at words i)) → (port : ReadPort) (b : Building) → Each (WordReads n b.body.wires) words → ReadReads b.body.wires port → Extends b (read_step words port b)
  read_builds words wide port b h fit =
      let tree = read_tree words port.address (length port.address) 0 b in
      let t = tree_builds words wide port.address (length port.address) 0 b h fit.address in
      extends_both b tree.1 (read_step words port b) t.steps
      (extends_link port.data (or_unknown (length port.data) tree.0) tree.1 (signal_later b tree.1 t.steps port.data fit.new) (or_is tree.1.body.wires (length port.data) tree.0 fit.new.width t.signal_is))

  reads_build : (words : List Word) → ((i : ℕ) → IsAsWide n (word_at words i)) → (ports : List ReadPort) (b : Building) → Each (WordReads n b.body.wires) words → Each (ReadReads b.body.wires) ports → Extends b (reads_step words ports b)
  reads_build words wide [] b h fit = extends_none b
  reads_build words wide (port ∷ ports) b h fit =
      let next = read_step words port b in
      let r = read_builds words wide port b h (fit port (inl refl)) in
      extends_both b next (reads_step words ports next) r (reads_build words wide ports next (words_later n b next r words h) (λ q i. read_later b next r q (fit q (inr i))))

record BuildsWords (n : ℕ) (old new : Building) (words : List Word) : Type 0 where
  steps : Extends old new
  words_are : Each (WordReads n new.body.wires) words

wires_build : (n : ℕ) → 0 < n → n ≤ 4096 → (address : ℕ) (words : List (List Bit)) (b : Building) → Each (λ bits. length bits ≡ n) words → BuildsWords n b (word_wires address words b).1 (word_wires address words b).0
wires_build n some few address [] b wide = record { steps = extends_none b; words_are = λ w i. absurd i }
wires_build n some few address (bits ∷ words) b wide =
    let made = fresh_wire (length bits) (init_attribute bits ∷ []) b in
    let rest = word_wires (address + 1) words made.1 in
    let own : length bits ≡ n = wide bits (inl refl) in
    let e = extends_wire (length bits) (init_attribute bits ∷ []) b (omega (arith, own, some)) (omega (arith, own, few)) (init_is bits (omega (arith, own, few))) in
    let later = wires_build n some few (address + 1) words made.1 (λ x i. wide x (inr i)) in
    let s = wire_signal (length bits) (init_attribute bits ∷ []) b (omega (arith, own, few)) in
    record {
      steps = extends_both b made.1 rest.1 e later.steps;
      words_are = each_more (WordReads n rest.1.body.wires) (record { address = address; signal = made.0 }) rest.0 (signal_later made.1 rest.1 later.steps made.0 s, whole_is (length b.body.wires) (length bits) ∙ own) later.words_are;
    }

fixed_build : (n : ℕ) → n ≤ 4096 → (address : ℕ) (words : List (List Bit)) (wires : List Wire) → Each (λ bits. length bits ≡ n) words → Each (WordReads n wires) (fixed_words address words)
fixed_build n few address [] wires wide = λ w i. absurd i
fixed_build n few address (bits ∷ words) wires wide =
    let own : length bits ≡ n = wide bits (inl refl) in
    each_more (WordReads n wires) (record { address = address; signal = map Fixed bits }) (fixed_words (address + 1) words) (fixed_signal wires bits (omega (arith, own, few)), length-map bits Fixed ∙ own) (fixed_build n few (address + 1) words wires (λ x i. wide x (inr i)))

-- all of a memory; the width is asked for where there is a port
pub memory_builds : (n : ℕ) (plan : MemPlan) (s : Store) (b : Building) → Each (λ bits. length bits ≡ n) plan.words → IsBitOf b.body.wires plan.clock
    → Each (λ port. WriteFits n port × (0 < n) × (n ≤ 4096)) plan.writes → Each (λ port. ReadFits n port × (0 < n) × (n ≤ 4096)) plan.reads
    → Each (WriteReads b.body.wires) plan.writes → Each (ReadReads b.body.wires) plan.reads → Extends b (memory_step plan s b)
memory_builds n plan s b words clock writes reads write_are read_are = by (length plan.writes == 0) refl
  where
    last : (ws : List Word) → ((i : ℕ) → IsAsWide n (word_at ws i)) → (made : Building) → (n ≤ 4096 → Each (WordReads n made.body.wires) ws) → (ports : List ReadPort) → Each (λ port. ReadFits n port × (0 < n) × (n ≤ 4096)) ports → Each (ReadReads made.body.wires) ports → Extends made (reads_step ws ports made)
    last ws wide made h [] fit are = extends_none made
    last ws wide made h (port ∷ ports) fit are =
        let own = fit port (inl refl) in
        reads_build n own.1 own.2 ws wide (port ∷ ports) made (h own.2) are

    first : (ports : List WritePort) → (length ports == 0) ≡ false → Each (λ port. WriteFits n port × (0 < n) × (n ≤ 4096)) ports → (0 < n) × (n ≤ 4096)
    first [] e fit = absurd (cc)
    first (port ∷ ports) e fit = let own = fit port (inl refl) in (own.1, own.2)

    by : (t : Bool) → (length plan.writes == 0) ≡ t → Extends b (let ws = (if t then (fixed_words (nat_abs s.offset) plan.words, b) else word_wires (nat_abs s.offset) plan.words b) in reads_step ws.0 plan.reads (if t then ws.1 else words_step plan ws.0 ws.1))
    by true e = last (fixed_words (nat_abs s.offset) plan.words) (fixed_wide n (nat_abs s.offset) plan.words words) b (λ few. fixed_build n few (nat_abs s.offset) plan.words b.body.wires words) plan.reads reads read_are
    by false e =
        let k = first plan.writes e writes in
        let ws = word_wires (nat_abs s.offset) plan.words b in
        let w = wires_build n k.0 k.1 (nat_abs s.offset) plan.words b words in
        let made = words_step plan ws.0 ws.1 in
        let g = words_build n k.0 k.1 plan ws.0 ws.1 (λ q i. write_later b ws.1 w.steps q (write_are q i)) (λ q i. (writes q i).0) (bit_later b ws.1 w.steps plan.clock clock) w.words_are in
        let steps = extends_both b ws.1 made w.steps g in
        extends_both b made (reads_step ws.0 plan.reads made) steps
        (last ws.0 (wires_wide n (nat_abs s.offset) plan.words b words) made (λ few. words_later n ws.1 made g ws.0 w.words_are) plan.reads reads (λ q i. read_later b made steps q (read_are q i)))
