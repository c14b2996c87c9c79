-- Words and read trees of a memory name wires that are there.
use Rattle.std.proofs.Common.{◌≤◌, ℕ, zero, suc, ◌+◌, ◌^◌, Bool, true, false, List, [], ◌∷◌, length, Option, Some, None, if◌then◌else◌, inl, inr, refl, arith}
use Rattle.std.specs.Prelude.{◌==◌, codes, drop, map, nat_abs}
use Rattle.rtl_bits.specs.declared.bit.Bit.{Bit}
use Rattle.rtl_sig.specs.declared.sig.SigBit.{SigBit}
use Rattle.rtl_sig.specs.declared.sig.SigBit.TheVariants.{Fixed}
use Rattle.rtl_ir.specs.Build.{Building, fresh_wire, pin_of}
use Rattle.rtl_ir.specs.declared.module.Link.{Link}
use Rattle.rtl_ir.specs.declared.plan.MemPlan.{MemPlan}
use Rattle.rtl_ir.specs.declared.plan.ReadPort.{ReadPort}
use Rattle.rtl_ir.specs.declared.store.Store.{Store}
use Rattle.net_model.proofs.Ranges.{each_both, each_more, each_none}
use Rattle.net_model.specs.Mem.Expand.{Word, fixed_words, halves, low_bit, memory_step, or_unknown, ports_step, read_step, read_tree, reads_step, word_at, word_step, word_wires, words_step}
use Rattle.net_model.specs.Proc.Start.{init_attribute}
use Rattle.net_model.specs.Within.{BitIn, Each, LinkIn, SigIn}
use Rattle.memory_laws.proofs.Inside.{count_of, IsIn, StaysIn, bit_more, sig_more, stays_none, one_in, fixed_in, unknown_in, low_in, drop_in, three_pins, cell_stays, wire_stays, wire_in, mux_gives, ports_give, PortIn, port_more}

-- words whose signals name wires
abbrev pub WordsIn : ℕ → List Word → Type 0
WordsIn n words = Each (λ (word : Word). SigIn n word.signal) words

word_stays : (plan : MemPlan) (word : Word) (b : Building) → IsIn b → Each (PortIn (count_of b)) plan.writes → BitIn (count_of b) plan.clock → SigIn (count_of b) word.signal → StaysIn b (word_step plan word b)
word_stays plan word b h i j k =
    let acc = ports_step word.address plan.writes word.signal b in
    let p = ports_give word.address plan.writes word.signal b h i k in
    let more : count_of b ≤ count_of acc.1 = p.stays.more in
    let c = cell_stays (codes "$dff") _ (pin_of (codes "\\CLK") (plan.clock ∷ []) ∷ pin_of (codes "\\D") acc.0 ∷ pin_of (codes "\\Q") word.signal ∷ []) acc.1 p.stays.is
    (three_pins (count_of acc.1) (pin_of (codes "\\CLK") (plan.clock ∷ [])) (pin_of (codes "\\D") acc.0) (pin_of (codes "\\Q") word.signal) (one_in (count_of acc.1) plan.clock (bit_more _ _ more plan.clock j)) p.within (sig_more _ _ more word.signal k)) in
    record { more = more; is = c.is }

words_stay : (plan : MemPlan) (words : List Word) (b : Building) → IsIn b → Each (PortIn (count_of b)) plan.writes → BitIn (count_of b) plan.clock → WordsIn (count_of b) words → StaysIn b (words_step plan words b)
words_stay plan [] b h i j k = stays_none b h
words_stay plan (word ∷ words) b h i j k =
    let w = word_stays plan word b h i j (k word (inl refl)) in
    let r = words_stay plan words (word_step plan word b) w.is (λ q l. port_more _ _ w.more q (i q l)) (bit_more _ _ w.more plan.clock j) (λ q l. sig_more _ _ w.more q.signal (k q (inr l))) in
    record { more = omega (arith, w.more, r.more); is = r.is }

wires_stay : (address : ℕ) (words : List (List Bit)) (b : Building) → IsIn b → StaysIn b (word_wires address words b).1 × WordsIn (count_of (word_wires address words b).1) (word_wires address words b).0
wires_stay address [] b h = (stays_none b h, λ w i. absurd i)
wires_stay address (bits ∷ words) b h =
    let made = fresh_wire (length bits) (init_attribute bits ∷ []) b in
    let rest = word_wires (address + 1) words made.1 in
    let w = wire_stays (length bits) (init_attribute bits ∷ []) b h in
    let r = wires_stay (address + 1) words made.1 w.is in
    let more : count_of made.1 ≤ count_of rest.1 = r.0.more in (
      record { more = omega (arith, w.more, more); is = r.0.is },
      each_more (λ (word : Word). SigIn (count_of rest.1) word.signal) (record { address = address; signal = made.0 }) rest.0 (sig_more _ _ more made.0 (wire_in (length bits) (init_attribute bits ∷ []) b)) r.1,
    )

fixed_words_in : (n address : ℕ) (words : List (List Bit)) → WordsIn n (fixed_words address words)
fixed_words_in n address [] = λ w i. absurd i
fixed_words_in n address (bits ∷ words) =
    each_more (λ (word : Word). SigIn n word.signal) (record { address = address; signal = map Fixed bits }) (fixed_words (address + 1) words) (fixed_in n bits) (fixed_words_in n (address + 1) words)

-- a signal that may be there
abbrev OptionIn : ℕ → Option (List SigBit) → Type 0
OptionIn n None = Unit {0}
OptionIn n (Some signal) = SigIn n signal

option_more : (few many : ℕ) → few ≤ many → (o : Option (List SigBit)) → OptionIn few o → OptionIn many o
option_more few many h None i = tt
option_more few many h (Some signal) i = sig_more few many h signal i

at_in : (n : ℕ) (words : List Word) → WordsIn n words → (i : ℕ) → OptionIn n (word_at words i)
at_in n [] h i = tt
at_in n (word ∷ words) h i = by (word.address == i) (at_in n words (λ w j. h w (inr j)) i)
  where
    by : (t : Bool) → OptionIn n (word_at words i) → OptionIn n (if t then Some word.signal else word_at words i)
    by true k = h word (inl refl)
    by false k = k

halves_give : (s : SigBit) (low high : Option (List SigBit)) (b : Building) → IsIn b → BitIn (count_of b) s → OptionIn (count_of b) low → OptionIn (count_of b) high → StaysIn b (halves s low high b).1 × OptionIn (count_of (halves s low high b).1) (halves s low high b).0
halves_give s (Some a) (Some c) b h i j k = let m = mux_gives a c s b h j k i in (m.stays, m.within)
halves_give s (Some a) None b h i j k = (stays_none b h, j)
halves_give s None other b h i j k = (stays_none b h, k)

tree_gives : (words : List Word) (address : List SigBit) (j base : ℕ) (b : Building) → IsIn b → WordsIn (count_of b) words → SigIn (count_of b) address → StaysIn b (read_tree words address j base b).1 × OptionIn (count_of (read_tree words address j base b).1) (read_tree words address j base b).0
tree_gives words address zero base b h i a = (stays_none b h, at_in (count_of b) words i base)
tree_gives words address (suc j) base b h i a =
    let low = read_tree words address j base b in
    let high = read_tree words address j (base + 2 ^ j) low.1 in
    let l = tree_gives words address j base b h i a in
    let first : count_of b ≤ count_of low.1 = l.0.more in
    let g = tree_gives words address j (base + 2 ^ j) low.1 l.0.is (λ w k. sig_more _ _ first w.signal (i w k)) (sig_more _ _ first address a) in
    let second : count_of b ≤ count_of high.1 = omega (arith, first, g.0.more) in
    let both = halves_give (low_bit (drop j address)) low.0 high.0 high.1 g.0.is (low_in _ (drop j address) (sig_more _ _ second (drop j address) (drop_in (count_of b) j address a))) (option_more _ _ g.0.more low.0 l.1) g.1 in
    (record { more = omega (arith, second, both.0.more); is = both.0.is }, both.1)

-- a read port
pub record ReadIn (n : ℕ) (port : ReadPort) : Type 0 where
  pub address : SigIn n port.address
  pub new : SigIn n port.data

pub read_more : (few many : ℕ) → few ≤ many → (port : ReadPort) → ReadIn few port → ReadIn many port
read_more few many h port i = record { address = sig_more few many h port.address i.address; new = sig_more few many h port.data i.new }

or_in : (n k : ℕ) (o : Option (List SigBit)) → OptionIn n o → SigIn n (or_unknown k o)
or_in n k None h = unknown_in n k
or_in n k (Some signal) h = h

read_stays : (words : List Word) (port : ReadPort) (b : Building) → IsIn b → WordsIn (count_of b) words → ReadIn (count_of b) port → StaysIn b (read_step words port b)
read_stays words port b h i a =
    let tree = read_tree words port.address (length port.address) 0 b in
    let t = tree_gives words port.address (length port.address) 0 b h i a.address in
    let l : Link = record { left = port.data; right = or_unknown (length port.data) tree.0 } in
    record {
      more = t.0.more;
      is = record {
        cells = t.0.is.cells;
        links = each_both (LinkIn (count_of tree.1)) tree.1.body.links (l ∷ []) t.0.is.links (each_more (LinkIn (count_of tree.1)) l [] (sig_more _ _ t.0.more port.data a.new, or_in (count_of tree.1) (length port.data) tree.0 t.1) (each_none (LinkIn (count_of tree.1))));
      };
    }

reads_stay : (words : List Word) (ports : List ReadPort) (b : Building) → IsIn b → WordsIn (count_of b) words → Each (ReadIn (count_of b)) ports → StaysIn b (reads_step words ports b)
reads_stay words [] b h i a = stays_none b h
reads_stay words (port ∷ ports) b h i a =
    let r = read_stays words port b h i (a port (inl refl)) in
    let l = reads_stay words ports (read_step words port b) r.is (λ w k. sig_more _ _ r.more w.signal (i w k)) (λ q k. read_more _ _ r.more q (a q (inr k))) in
    record { more = omega (arith, r.more, l.more); is = l.is }

abbrev words_by : Bool → MemPlan → ℕ → Building → List Word × Building
words_by t plan first b = if t then (fixed_words first plan.words, b) else word_wires first plan.words b

abbrev before_reads : Bool → MemPlan → List Word → Building → Building
before_reads t plan words b = if t then b else words_step plan words b

chains_stay : (plan : MemPlan) (first : ℕ) (b : Building) → IsIn b → Each (PortIn (count_of b)) plan.writes → BitIn (count_of b) plan.clock → (t : Bool)
    → (let words = words_by t plan first b in StaysIn b (before_reads t plan words.0 words.1) × WordsIn (count_of (before_reads t plan words.0 words.1)) words.0)
chains_stay plan first b h i j true = (stays_none b h, fixed_words_in (count_of b) first plan.words)
chains_stay plan first b h i j false =
    let words = word_wires first plan.words b in
    let w = wires_stay first plan.words b h in
    let more : count_of b ≤ count_of words.1 = w.0.more in
    let s = words_stay plan words.0 words.1 w.0.is (λ q k. port_more _ _ more q (i q k)) (bit_more _ _ more plan.clock j) w.1 in
    (record { more = omega (arith, more, s.more); is = s.is }, λ q k. sig_more _ _ s.more q.signal (w.1 q k))

-- all of a memory
pub memory_stays : (plan : MemPlan) (s : Store) (b : Building) → IsIn b → Each (PortIn (count_of b)) plan.writes → BitIn (count_of b) plan.clock → Each (ReadIn (count_of b)) plan.reads → StaysIn b (memory_step plan s b)
memory_stays plan s b h i j k =
    let t : Bool = length plan.writes == 0 in
    let words = words_by t plan (nat_abs s.offset) b in
    let made = before_reads t plan words.0 words.1 in
    let c = chains_stay plan (nat_abs s.offset) b h i j t in
    let r = reads_stay words.0 plan.reads made c.0.is c.1 (λ q l. read_more _ _ c.0.more q (k q l)) in
    record { more = omega (arith, c.0.more, r.more); is = r.is }
