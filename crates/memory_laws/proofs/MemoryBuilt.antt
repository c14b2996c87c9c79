-- What is built for a memory only adds to the module; each word and each read port is among it.
use Rattle.std.proofs.Common.{◌≡◌, ◌<◌, ◌≤◌, ℕ, zero, suc, ◌-◌, Bool, true, false, ◌&&◌, List, [], ◌∷◌, ◌++◌, length, Option, Some, None, if◌then◌else◌, inl, inr, refl, sym, ◌∙◌, ap, subst, arith}
use Rattle.std.specs.Prelude.{◌==◌, nat_abs, nat_le, nat_lt, slice_get, slice_index_or}
use Rattle.std.proofs.lemmas.Bool.{ltb-false, ltb-true}
use Rattle.rtl_bits.proofs.Orders.{Below_trans}
use Rattle.rtl_bits.specs.Knowledge.{Below, all_known}
use Rattle.rtl_bits.specs.Numbers.{number_of}
use Rattle.rtl_bits.specs.declared.bit.Bit.{Bit}
use Rattle.rtl_bits.specs.declared.bit.Bit.TheVariants.{S0, S1, X}
use Rattle.rtl_sig.specs.declared.sig.SigBit.{SigBit}
use Rattle.rtl_sig.specs.declared.sig.SigBit.TheVariants.{Fixed, Wire as OnWire}
use Rattle.rtl_sig.specs.declared.sig.WireBit.{WireBit}
use Rattle.rtl_ir.specs.Build.{Building}
use Rattle.rtl_ir.specs.Flat.Driver.{Driven, Joined}
use Rattle.rtl_ir.specs.Flat.Link.{joins, link_rows}
use Rattle.rtl_ir.specs.Flat.Place.{Path}
use Rattle.rtl_ir.specs.Flat.Point.{point, points}
use Rattle.rtl_ir.specs.declared.module.Link.{Link}
use Rattle.rtl_ir.specs.declared.plan.MemPlan.{MemPlan}
use Rattle.rtl_ir.specs.declared.plan.ReadPort.{ReadPort}
use Rattle.rtl_ir.specs.declared.store.Store.{Store}
use Rattle.rtl_ir.specs.declared.wire.Wire.{Wire}
use Rattle.net_model.proofs.Members.{In-left, In-right}
use Rattle.net_model.specs.Lists.{In}
use Rattle.net_model.specs.Mem.Expand.{Word, fixed_words, memory_step, or_unknown, read_step, read_tree, reads_step, word_at, word_step, word_wires, words_made, words_step}
use Rattle.net_model.specs.Valuation.{passed_of}
use Rattle.net_model.specs.Words.{fetched_of}
use Rattle.pass_laws.proofs.Driving.{row_of}
use Rattle.pass_laws.proofs.Rewriting.{links-append}
use Rattle.build_laws.proofs.Growing.{Grows, grows_both, grows_link, grows_none, met_before}
use Rattle.build_laws.proofs.Meeting.{BodyMet}
use Rattle.build_laws.proofs.Moments.{AreMet, Moment, seen, seen_all}
use Rattle.memory_laws.proofs.PortCells.{at, at_get}
use Rattle.memory_laws.proofs.ReadTrees.{IsAsWide, read_stands, tree_at, tree_grows, tree_wide, word_of}
use Rattle.memory_laws.proofs.WordSteps.{wires_grow, words_grow}

pub read_grows : (words : List Word) (port : ReadPort) (b : Building) → Grows b (read_step words port b)
read_grows words port b =
    let tree = read_tree words port.address (length port.address) 0 b in
    grows_both b tree.1 _ (tree_grows words port.address (length port.address) 0 b) (grows_link port.data (or_unknown (length port.data) tree.0) tree.1)

pub reads_grow : (words : List Word) (ports : List ReadPort) (b : Building) → Grows b (reads_step words ports b)
reads_grow words [] b = grows_none b
reads_grow words (port ∷ ports) b =
    grows_both b (read_step words port b) _ (read_grows words port b) (reads_grow words ports (read_step words port b))

-- what is made before the read ports
abbrev pub before_reads : Bool → MemPlan → List Word → Building → Building
before_reads t plan words b = if t then b else words_step plan words b

abbrev pub words_by : Bool → MemPlan → ℕ → Building → List Word × Building
words_by t plan first b = if t then (fixed_words first plan.words, b) else word_wires first plan.words b

made_grows : (plan : MemPlan) (first : ℕ) (b : Building) (t : Bool) → Grows b (words_by t plan first b).1
made_grows plan first b true = grows_none b
made_grows plan first b false = wires_grow first plan.words b

before_grows : (plan : MemPlan) (words : List Word) (b : Building) (t : Bool) → Grows b (before_reads t plan words b)
before_grows plan words b true = grows_none b
before_grows plan words b false = words_grow plan words b

-- what is added for a memory
pub memory_grows : (plan : MemPlan) (s : Store) (b : Building) → Grows b (memory_step plan s b)
memory_grows plan s b =
    let t : Bool = length plan.writes == 0 in
    let words = words_by t plan (nat_abs s.offset) b in
    let made = before_reads t plan words.0 words.1 in
    grows_both b words.1 _ (made_grows plan (nat_abs s.offset) b t)
    (grows_both words.1 made _ (before_grows plan words.0 words.1 t) (reads_grow words.0 plan.reads made))

-- a step that is among steps
pub record IsAmong (step : Building → Building) (final : Building) : Type 0 where
  pub from : Building
  pub grows : Grows (step from) final

read_among : (words : List Word) (ports : List ReadPort) (b : Building) (port : ReadPort) → In port ports → IsAmong (read_step words port) (reads_step words ports b)
read_among words [] b port i = absurd i
read_among words (q ∷ ports) b port (inl e) =
    record { from = b; grows = subst (λ z. Grows (read_step words z b) (reads_step words ports (read_step words q b))) (sym e) (reads_grow words ports (read_step words q b)) }
read_among words (q ∷ ports) b port (inr i) = read_among words ports (read_step words q b) port i

word_among : (plan : MemPlan) (words : List Word) (b : Building) (word : Word) → In word words → IsAmong (word_step plan word) (words_step plan words b)
word_among plan [] b word i = absurd i
word_among plan (q ∷ words) b word (inl e) =
    record { from = b; grows = subst (λ z. Grows (word_step plan z b) (words_step plan words (word_step plan q b))) (sym e) (words_grow plan words (word_step plan q b)) }
word_among plan (q ∷ words) b word (inr i) = word_among plan words (word_step plan q b) word i

module _ (plan : MemPlan) (s : Store) (b : Building) where
  abbrev pub words_there : List Word
  words_there = (words_made plan (nat_abs s.offset) b).0

  -- each read port has its tree
  pub reads_there : (port : ReadPort) → In port plan.reads → IsAmong (read_step words_there port) (memory_step plan s b)
  reads_there port i =
      let t : Bool = length plan.writes == 0 in
      let words = words_by t plan (nat_abs s.offset) b in
      read_among words.0 plan.reads (before_reads t plan words.0 words.1) port i

  -- each word has its chain, where there are write ports
  pub steps_there : (length plan.writes == 0) ≡ false → (word : Word) → In word (word_wires (nat_abs s.offset) plan.words b).0 → IsAmong (word_step plan word) (memory_step plan s b)
  steps_there e word i =
      let words = word_wires (nat_abs s.offset) plan.words b in
      let k = word_among plan words.0 words.1 word i in
      let made = words_step plan words.0 words.1 in
      let all : memory_step plan s b ≡ reads_step words.0 plan.reads made =
      ap (λ t. let ws = words_by t plan (nat_abs s.offset) b in reads_step ws.0 plan.reads (before_reads t plan ws.0 ws.1)) e in
      record { from = k.from; grows = grows_both (word_step plan word k.from) made _ k.grows (subst (Grows made) (sym all) (reads_grow words.0 plan.reads made)) }

  -- and each wire of a word is there
  pub wires_there : (length plan.writes == 0) ≡ false → Grows (word_wires (nat_abs s.offset) plan.words b).1 (memory_step plan s b)
  wires_there e =
      let words = word_wires (nat_abs s.offset) plan.words b in
      let made = words_step plan words.0 words.1 in
      let all : memory_step plan s b ≡ reads_step words.0 plan.reads made =
      ap (λ t. let ws = words_by t plan (nat_abs s.offset) b in reads_step ws.0 plan.reads (before_reads t plan ws.0 ws.1)) e in
      grows_both words.1 made _ (words_grow plan words.0 words.1) (subst (Grows made) (sym all) (reads_grow words.0 plan.reads made))

pass_up : (a b : Bit) → Below a b → Below a (passed_of b)
pass_up S0 b h = ap passed_of h
pass_up S1 b h = ap passed_of h
pass_up a b h = tt

-- the row of a place of a connection, as far as its right side goes
module _ (p : Path) (wires : List Wire) where
  joined_at : (ys rs : List SigBit) (k : ℕ) (b : WireBit) → slice_get ys k ≡ Some (OnWire b) → k < length rs → In (row_of p wires b (Joined (point p wires (slice_index_or rs k (Fixed X))))) (joins (points p wires ys) (points p wires rs))
  joined_at [] rs k b e lt = absurd (cc)
  joined_at (y ∷ ys) [] k b e lt = absurd (omega (arith, lt))
  joined_at (Fixed c ∷ ys) (r ∷ rs) zero b e lt = absurd (cc)
  joined_at (Fixed c ∷ ys) (r ∷ rs) (suc k) b e lt = joined_at ys rs k b e (omega (arith, lt))
  joined_at (OnWire d ∷ ys) (r ∷ rs) zero b e lt =
      let same : b ≡ d = cc in
      inl (ap (λ z. row_of p wires z (Joined (point p wires r))) same)
  joined_at (OnWire d ∷ ys) (r ∷ rs) (suc k) b e lt = inr (joined_at ys rs k b e (omega (arith, lt)))

past_end : (xs : List SigBit) (k : ℕ) → length xs ≤ k → slice_index_or xs k (Fixed X) ≡ Fixed X
past_end [] k le = refl
past_end (x ∷ xs) zero le = absurd (omega (arith, le))
past_end (x ∷ xs) (suc k) le = past_end xs k (omega (arith, le))

module _ (m : Moment) where
  unknown_there : (n k : ℕ) (o : Option (List SigBit)) → IsAsWide n o → n ≤ k → Below (tree_at m o k) X
  unknown_there n k None w le = tt
  unknown_there n k (Some signal) w le =
      let past : length signal ≤ k = omega (arith, w, le) in
      let is : at m signal k ≡ X = at_get m signal k ∙ ap (seen m) (past_end signal k past) in
      subst (λ z. Below z X) (sym is) tt

  fetched_unknown : (address : List Bit) (first : ℕ) (values : List Bit) → ((i : ℕ) → Below (word_of m first values i) X) → Below (fetched_of address first values) X
  fetched_unknown address first values h = by (all_known address)
    where
      by : (t : Bool) → Below (if t && nat_le first (number_of address) then slice_index_or values (number_of address - first) X else X) X
      by true = h (number_of address)
      by false = tt

  module _ (n : ℕ) (few : n ≤ 65536) (words : List Word) (wide : (i : ℕ) → IsAsWide n (word_at words i)) (port : ReadPort) (b : Building) (met : BodyMet m (read_step words port b)) (first : ℕ) (values : List Bit) (k : ℕ) (stand : (i : ℕ) → Below (word_of m first values i) (tree_at m (word_at words i) k)) (bit : WireBit) (there : slice_get port.data k ≡ Some (OnWire bit)) where
    abbrev tree : Option (List SigBit) × Building
    tree = read_tree words port.address (length port.address) 0 b

    linked : (signal : List SigBit) → tree.0 ≡ Some signal → k < length signal → Below (passed_of (at m signal k)) (seen m (OnWire bit))
    linked signal is lt =
        let row : Driven = row_of m.path m.wires bit (Joined (point m.path m.wires (slice_index_or signal k (Fixed X)))) in
        let right : or_unknown (length port.data) tree.0 ≡ signal = ap (or_unknown (length port.data)) is in
        let link : Link = record { left = port.data; right = or_unknown (length port.data) tree.0 } in
        let here : In row (joins (points m.path m.wires port.data) (points m.path m.wires link.right)) = subst (λ z. In row (joins (points m.path m.wires port.data) (points m.path m.wires z))) (sym right) (joined_at m.path m.wires port.data signal k bit there lt) in
        let among : In row (link_rows m.path m.wires (tree.1.body.links ++ link ∷ [])) = subst (In row) (sym (links-append m.path m.wires tree.1.body.links (link ∷ []))) (In-right row (link_rows m.path m.wires tree.1.body.links) _ (In-left row _ [] here)) in
        subst (λ z. Below (passed_of z) (seen m (OnWire bit))) (sym (at_get m signal k)) (met.links row among)

    -- a read port gives no less than what is fetched
    pub port_reads : Below (fetched_of (seen_all m port.address) first values) (seen m (OnWire bit))
    port_reads = by (nat_lt k n) refl
      where
        value : Bit
        value = fetched_of (seen_all m port.address) first values

        inside : (o : Option (List SigBit)) → tree.0 ≡ o → k < n → Below value (tree_at m tree.0 k) → Below value (seen m (OnWire bit))
        inside None is lt low =
            Below_trans value X (seen m (OnWire bit)) (subst (λ z. Below value (tree_at m z k)) is low) tt
        inside (Some signal) is lt low =
            let wide' : length signal ≡ n = subst (IsAsWide n) is (tree_wide n words wide port.address (length port.address) 0 b) in
            let lt' : k < length signal = omega (arith, wide', lt) in
            let low' : Below value (at m signal k) = subst (λ z. Below value (tree_at m z k)) is low in
            Below_trans value (passed_of (at m signal k)) (seen m (OnWire bit)) (pass_up value (at m signal k) low') (linked signal is lt')

        by : (t : Bool) → nat_lt k n ≡ t → Below value (seen m (OnWire bit))
        by true e =
            let lt : k < n = ltb-true k n e in
            let met' : AreMet m tree.1.body.cells = met_before m tree.1 (read_step words port b) (grows_link port.data (or_unknown (length port.data) tree.0) tree.1) met.cells in
            inside tree.0 refl lt (read_stands m n k few lt words wide port.address first values stand b met')
        by false e =
            let le : n ≤ k = ltb-false k n e in
            Below_trans value X (seen m (OnWire bit)) (fetched_unknown (seen_all m port.address) first values (λ i. Below_trans (word_of m first values i) (tree_at m (word_at words i) k) X (stand i) (unknown_there n k (word_at words i) (wide i) le))) tt
