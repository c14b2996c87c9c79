-- What passes a limit within a step makes the step pass it.
use Rattle.std.proofs.Common.{◌≡◌, ◌∙◌, ◌<◌, ℕ, suc, Some, get_or, ◌+◌, ◌^◌, Bool, true, false, List, length, drop, Option, if◌then◌else◌, sym, ap, subst, subst₂}
use Rattle.std.specs.Prelude.{nat_lt, nat_abs, ◌==◌}
use Rattle.std.proofs.lemmas.Option.{slice_get-get_or}
use Rattle.rtl_sig.specs.declared.sig.SigBit.{SigBit}
use Rattle.rtl_ir.specs.Build.{Building, building_of, first_number}
use Rattle.rtl_ir.specs.declared.module.Module.{Module}
use Rattle.rtl_ir.specs.declared.plan.MemPlan.{MemPlan}
use Rattle.rtl_ir.specs.declared.plan.ReadPort.{ReadPort}
use Rattle.rtl_ir.specs.declared.plan.WritePort.{WritePort}
use Rattle.rtl_ir.specs.declared.store.Store.{Store}
use Rattle.net_index.specs.Builder.{PassesLimit, building_from}
use Rattle.net_model.specs.Mem.Expand.{Word, address_match, building_without, expanded_memory, fixed_words, low_bit, memory_step, or_unknown, port_runs, port_step, ports_step, read_step, read_tree, run_lengths, without_memory, word_step, word_wires, words_made, words_step}
use Rattle.memory_laws.proofs.Commuting.{made_without}
use Rattle.match_cells.proofs.Growing.{Grows, grows_more, grows_none, link_grows, over_later}
use Rattle.mem_map.specs.Limits.{expanded, planned_store}
use Rattle.mem_map.specs.Words.{word}
use Rattle.mem_map.proofs.Growing.{halves_grow, reads_grow, register_grows, runs_grow, tree_grows, wires_grow, words_grow}

pub match_over : (address : ℕ) (port : WritePort) (acc : List SigBit) (b : Building) → nat_lt address (2 ^ length port.address) ≡ true → PassesLimit (address_match port.address address b).1 → PassesLimit (port_step address port acc b).1
match_over address port acc b e over =
    subst (λ t. PassesLimit (if t then port_runs m.0 runs acc port.data port.enable m.1 else (acc, b)).1) (sym e)
    (over_later m.1 (port_runs m.0 runs acc port.data port.enable m.1).1 (runs_grow m.0 runs acc port.data port.enable m.1) over)
  where
    m : SigBit × Building
    m = address_match port.address address b

    runs : List ℕ
    runs = run_lengths (length port.enable) port.enable

pub chain_over : (plan : MemPlan) (address : ℕ) (signal : List SigBit) (b : Building) → PassesLimit (ports_step address plan.writes signal b).1 → PassesLimit (word_step plan (word address signal) b)
chain_over plan address signal b over =
    let acc = ports_step address plan.writes signal b in
    over_later acc.1 (word_step plan (word address signal) b) (register_grows plan.clock plan.rising acc.0 signal acc.1) over

module _ (words : List Word) (address : List SigBit) (j base : ℕ) (b : Building) where
  abbrev low : Option (List SigBit) × Building
  low = read_tree words address j base b

  abbrev high : Option (List SigBit) × Building
  high = read_tree words address j (base + 2 ^ j) low.1

  pub high_over : PassesLimit high.1 → PassesLimit (read_tree words address (suc j) base b).1
  high_over over = over_later high.1 (read_tree words address (suc j) base b).1 (halves_grow (low_bit (drop j address)) low.0 high.0 high.1) over

  pub low_over : PassesLimit low.1 → PassesLimit (read_tree words address (suc j) base b).1
  low_over over = high_over (over_later low.1 high.1 (tree_grows words address j (base + 2 ^ j) low.1) over)

pub tree_over : (words : List Word) (port : ReadPort) (b : Building) → PassesLimit (read_tree words port.address (length port.address) 0 b).1 → PassesLimit (read_step words port b)
tree_over words port b over =
    let tree = read_tree words port.address (length port.address) 0 b in
    over_later tree.1 (read_step words port b) (link_grows port.data (or_unknown (length port.data) tree.0) tree.1) over

-- words with write ports
abbrev chained : Bool → MemPlan → List Word × Building → Building
chained t plan w = if t then w.1 else words_step plan w.0 w.1

chained_grows : (t : Bool) (plan : MemPlan) (w : List Word × Building) → Grows w.1 (chained t plan w)
chained_grows true plan w = grows_none w.1
chained_grows false plan w = words_grow plan w.0 w.1

made_grows : (plan : MemPlan) (first : ℕ) (b : Building) → Grows b (words_made plan first b).1
made_grows plan first b = by (length plan.writes == 0)
  where
    by : (t : Bool) → Grows b (let r : List Word × Building = (if t then (fixed_words first plan.words, b) else word_wires first plan.words b) in r.1)
    by true = grows_none b
    by false = wires_grow first plan.words b

module _ (plan : MemPlan) (s : Store) (b : Building) where
  abbrev made : List Word × Building
  made = words_made plan (nat_abs s.offset) b

  abbrev none : Bool
  none = length plan.writes == 0

  pub chains_over : PassesLimit (chained none plan made) → PassesLimit (memory_step plan s b)
  chains_over over = over_later (chained none plan made) (memory_step plan s b) (reads_grow made.0 plan.reads (chained none plan made)) over

  pub steps_over : (w : List Word × Building) → w ≡ made → none ≡ false → PassesLimit (words_step plan w.0 w.1) → PassesLimit (memory_step plan s b)
  steps_over w e f over = chains_over (subst₂ (λ (t : Bool) (r : List Word × Building). PassesLimit (chained t plan r)) (sym f) e over)

  pub made_over : PassesLimit made.1 → PassesLimit (memory_step plan s b)
  made_over over = chains_over (over_later made.1 (chained none plan made) (chained_grows none plan made) over)

  pub memory_grows : Grows b (memory_step plan s b)
  memory_grows =
      grows_more b made.1 (memory_step plan s b) (made_grows plan (nat_abs s.offset) b)
      (grows_more made.1 (chained none plan made) (memory_step plan s b) (chained_grows none plan made) (reads_grow made.0 plan.reads (chained none plan made)))

module _ (m : Module) (plan : MemPlan) where
  abbrev s : Store
  s = planned_store m plan

  pub module_over : PassesLimit (building_without plan.store s m) → PassesLimit (expanded m plan)
  module_over over = over_later (building_without plan.store s m) (expanded m plan) (memory_grows plan s (building_without plan.store s m)) over

  -- the memory may as well go after all is added
  pub expanded_is : (expanded m plan).body ≡ expanded_memory m plan s
  expanded_is = ap (λ (b : Building). b.body) (made_without plan.store s plan m)

  pub names_are : (expanded m plan).next ≡ (memory_step plan s (building_of m)).next
  names_are = ap (λ (b : Building). b.next) (made_without plan.store s plan m)

-- the memory at a place that is there
pub store_at : (stores : List Store) (at : ℕ) (s other : Store) → at < length stores → s ≡ get_or stores at s → s ≡ get_or stores at other
store_at stores at s other h is =
    let same : Some (get_or stores at s) ≡ Some (get_or stores at other) = sym (slice_get-get_or stores at s h) ∙ slice_get-get_or stores at other h in
    let equal : get_or stores at s ≡ get_or stores at other = cc in
    is ∙ equal

-- what the expansion begins with, of a copy of the memory, and what it comes to
module _ (m : Module) (plan : MemPlan) (s : Store) (rest : Module) (next : ℕ) (b : Building) (same : s ≡ planned_store m plan) (left : rest ≡ without_memory plan.store s m) (number : next ≡ first_number m) (begins : b ≡ building_from next rest) where
  pub begun_is : b ≡ building_without plan.store (planned_store m plan) m
  begun_is =
      let whole : building_from next rest ≡ building_without plan.store s m = λ i. record { body = left i; next = number i } in
      begins ∙ whole ∙ ap (λ t. building_without plan.store t m) same

  pub after_is : (after : Building) → after ≡ memory_step plan s b → after.body ≡ expanded_memory m plan (planned_store m plan)
  after_is after made =
      ap (λ (x : Building). x.body) (made ∙ (λ i. memory_step plan (same i) (begun_is i))) ∙ expanded_is m plan
