-- Answers by a module of the netlist.
use Rattle.std.proofs.Common.{◌≡◌, ℕ, zero, suc, ◌+◌, ◌<◌, ◌≤◌, List, [], ◌∷◌, ◌++◌, cond, not, Option, Some, None, Result, Ok, Err, get_or, length, map, nat_lt, slice_get, refl, sym, ap, ◌∙◌, arith}
use Rattle.std.specs.Prelude.{IfOk, codes}
use Rattle.std.specs.List.{position_or_len}
use Rattle.std.specs.Str.{bytes_eq}
use Rattle.std.proofs.lemmas.List.{length-map}
use Rattle.rtl_bits.specs.declared.bit.Bit.{Bit}
use Rattle.rtl_bits.specs.declared.memory.Memory.{Memory}
use Rattle.rtl_ir.specs.declared.module.Design.{Design}
use Rattle.rtl_ir.specs.declared.module.Module.{Module}
use Rattle.rtl_ir.specs.Faults.Recursion.{place_named}
use Rattle.rtl_ir.specs.Types.{module_named}
use Rattle.design_edit.proofs.Naming.{named_at, place_within}
use Rattle.reply_lines.specs.declared.reply.Reply.{Reply}
use Rattle.reply_lines.specs.Lines.{counted, ok_line, ok_reply}
use Rattle.script_core.specs.declared.outcome.Outcome.{Outcome}
use Rattle.script_core.specs.declared.outcome.Outcome.TheVariants.{Done, Over}
use Rattle.script_core.specs.declared.word.Word.{Word}
use Rattle.script_core.specs.Cold.{cold, named, outcome_of}
use Rattle.script_core.specs.Built.{unnamed}
use Rattle.script_core.specs.Fold.{fold_script}
use Rattle.script_core.specs.Reached.{below_of, table_of}
use Rattle.net_model.specs.declared.order.Order.{Order}
use Rattle.sim_trace.specs.Stimulus.{stimulus_of, trace_text}
use Rattle.desk_core.specs.declared.runs.Told.{Told}
use Rattle.desk_core.specs.declared.runs.Told.TheVariants.{Built, Over as WasOver}
use Rattle.desk_core.specs.Answers.{by_stimulus, netlist_reply, netlist_run_answer}
use Rattle.desk_core.specs.Netlist.{done_modules, netlist_answer, netlist_of, over_words, unless_over}
use Rattle.desk_core.specs.State.{State, answer}
use Rattle.desk_core.specs.Told.{IsBuilt, told_of}
use Rattle.desk_core.proofs.Showing.{by_found}
use Rattle.desk_core.proofs.Told.{none_over_built, reply_built}

named_id : (id : List ℕ) (o : Outcome) (n : Module) → named id o ≡ Done n → n.id ≡ id
named_id id (Done m) n e = let same : record m { id = id } ≡ n = cc in ap (λ (k : Module). k.id) (sym same)
named_id id (Over word) n e = absurd cc

-- the modules of outcomes that are done stand as their sources do, under their names
record AreAlike (name : List ℕ) (sources modules : List Module) : Type 0 where
  count : length modules ≡ length sources
  before : position_or_len (λ (m : Module). bytes_eq m.id name) modules ≡ position_or_len (λ (m : Module). bytes_eq m.id name) sources

alike_more : (name : List ℕ) (m n : Module) (sources modules : List Module) → n.id ≡ m.id → AreAlike name sources modules → AreAlike name (m ∷ sources) (n ∷ modules)
alike_more name m n sources modules id h = record {
  count = ap suc h.count;
  before =
      ap (λ (i : List ℕ). cond (not (bytes_eq i name)) (1 + position_or_len (λ (k : Module). bytes_eq k.id name) modules) 0) id
      ∙ ap (λ (k : ℕ). cond (not (bytes_eq m.id name)) (1 + k) 0) h.before;
}

alike : (script : List Word) (all : List Module) (name : List ℕ) (ms : List Module) → over_words ms (map (outcome_of script all) ms) ≡ None → AreAlike name ms (done_modules (map (outcome_of script all) ms))
alike script all name [] e = record { count = refl; before = refl }
alike script all name (m ∷ ms) e = by (outcome_of script all m) refl (alike script all name ms) e
  where
    by : (o : Outcome) → outcome_of script all m ≡ o → (over_words ms (map (outcome_of script all) ms) ≡ None → AreAlike name ms (done_modules (map (outcome_of script all) ms)))
        → over_words (m ∷ ms) (o ∷ map (outcome_of script all) ms) ≡ None → AreAlike name (m ∷ ms) (done_modules (o ∷ map (outcome_of script all) ms))
    by (Done n) is rest h = alike_more name m n ms (done_modules (map (outcome_of script all) ms)) (named_id m.id (fold_script script (table_of all m) (below_of script all m.cells) (unnamed m)) n is) (rest h)
    by (Over word) is rest h = absurd cc

place_alike : (name : List ℕ) (sources modules : List Module) → AreAlike name sources modules → place_named modules name ≡ place_named sources name
place_alike name sources modules h =
    ap (λ (k : ℕ). cond (nat_lt k (length modules)) (Some k) None) h.before
    ∙ ap (λ (n : ℕ). cond (nat_lt (position_or_len (λ (m : Module). bytes_eq m.id name) sources) n) (Some (position_or_len (λ (m : Module). bytes_eq m.id name) sources)) None) h.count

-- a place of the design is one of the netlist, where no module passes a limit
pub within_netlist : (s : State) (words : List ℕ) (netlist : List Module) (at : ℕ) → Built words ≡ told_of s → netlist ≡ done_modules (cold s.script s.design) → at < length s.design.modules → at < length netlist
within_netlist s words netlist at told is inside =
    let all = alike s.script s.design.modules (codes "") s.design.modules (none_over_built s words (over_words s.design.modules (cold s.script s.design)) told) in
    let count = all.count in
    let same = ap length is in
    omega (arith, inside, count, same)

-- it is one where it was told what was built
pub within_told : (s : State) (told : Told) → told ≡ told_of s → IsBuilt told → (netlist : List Module) (at : ℕ) → netlist ≡ done_modules (cold s.script s.design) → at < length s.design.modules → at < length netlist
within_told s (Built words) is built netlist at same inside = within_netlist s words netlist at is same inside
within_told s (WasOver words) is built netlist at same inside = absurd built

few_done : (os : List Outcome) → length (done_modules os) ≤ length os
few_done [] = omega arith
few_done (Done m ∷ os) = let more = few_done os in omega (arith, more)
few_done (Over word ∷ os) = let more = few_done os in omega (arith, more)

-- no more modules than the design has
pub done_few : (script : List Word) (design : Design) → length (done_modules (cold script design)) ≤ length design.modules
done_few script design =
    let few = few_done (cold script design) in
    let count = length-map design.modules (outcome_of script design.modules) in
    omega (arith, few, count)

item : (ms : List Module) (at : ℕ) → at < length ms → (m : Module) × (slice_get ms at ≡ Some m)
item [] at lt = absurd (omega arith)
item (m ∷ ms) zero lt = (m, refl)
item (m ∷ ms) (suc at) lt = item ms at (omega arith)

inside : (ms : List Module) (name : List ℕ) (at : ℕ) → place_named ms name ≡ Some at → at < length ms
inside [] name at h = absurd (let no : None ≡ Some at = h in cc)
inside (m ∷ ms) name at h = place_within (m ∷ ms) name at m h

-- the reply of the trace of the module at a place of the netlist
module _ (order : Order) (at : ℕ) (words : List ℕ) (stimulus : List (List Bit)) where
  abbrev traced_reply : Design → Module → Reply
  traced_reply netlist m = ok_reply (ok_line (words ++ counted (codes "steps") (length stimulus)) ++ trace_text order netlist m stimulus)

  told_at : (s : State) (name : List ℕ) (reply : Reply) → Built words ≡ told_of s → place_named s.design.modules name ≡ Some at
      → ((m : Module) → slice_get (netlist_of s).modules at ≡ Some m → reply ≡ traced_reply (netlist_of s) m)
      → reply ≡ (netlist_answer s (netlist_reply s order name stimulus (module_named (netlist_of s).modules name))).reply
  told_at s name reply told place traces =
      let over = over_words s.design.modules (cold s.script s.design) in
      let none : over ≡ None = none_over_built s words over told in
      let there : place_named (netlist_of s).modules name ≡ Some at = place_alike name s.design.modules (netlist_of s).modules (alike s.script s.design.modules name s.design.modules none) ∙ place in
      let one = item (netlist_of s).modules at (within_netlist s words (netlist_of s).modules at told refl (inside s.design.modules name at place)) in
      let own : module_named (netlist_of s).modules name ≡ Some one.0 = named_at (netlist_of s).modules name at one.0 there ∙ one.1 in
      traces one.0 one.1
      ∙ reply_built s (λ w. ok_reply (ok_line (w ++ counted (codes "steps") (length stimulus)) ++ trace_text order (netlist_of s) one.0 stimulus)) words over told
      ∙ ap (λ (o : Option Module). unless_over s (netlist_reply s order name stimulus o) over) (sym own)

  pub trace_told : (told : Told) (outcomes : List Outcome) (r : Result Reply Memory) → told ≡ Built words
      → ((m : Module) → slice_get (done_modules outcomes) at ≡ Some m → IfOk r (λ reply. reply ≡ traced_reply (record { modules = done_modules outcomes }) m))
      → IfOk r (λ reply. (s : State) (name : List ℕ) → told ≡ told_of s → outcomes ≡ cold s.script s.design → place_named s.design.modules name ≡ Some at
      → reply ≡ (netlist_answer s (netlist_reply s order name stimulus (module_named (netlist_of s).modules name))).reply)
  trace_told told outcomes (Err memory) built traces = tt
  trace_told told outcomes (Ok reply) built traces = λ s name same are place.
      told_at s name reply (sym built ∙ same) place
      (λ m there.
      traces m (ap (λ (os : List Outcome). slice_get (done_modules os) at) are ∙ there)
      ∙ ap (λ (os : List Outcome). traced_reply (record { modules = done_modules os }) m) are)

-- a module of the netlist is run over the stimulus of a text
pub simulated : (s after : State) (order : Order) (name text : List ℕ) (at : ℕ) (m : Module) (stimulus : List (List Bit)) (r : Result Reply Memory) → Some at ≡ place_named s.design.modules name → m ≡ get_or s.design.modules at m
    → stimulus_of m text ≡ Ok stimulus → IfOk r (λ reply. answer reply after ≡ netlist_answer s (netlist_reply s order name stimulus (module_named (netlist_of s).modules name)))
    → IfOk r (λ reply. answer reply after ≡ netlist_run_answer s order name text)
simulated s after order name text at m stimulus (Err memory) place is reads told = tt
simulated s after order name text at m stimulus (Ok reply) place is reads told =
    told
    ∙ sym (by_found s name at m (λ n. by_stimulus s (stimulus_of n text) (λ steps. netlist_answer s (netlist_reply s order name steps (module_named (netlist_of s).modules name)))) place is
    ∙ ap (λ (o : Result (List (List Bit)) ℕ). by_stimulus s o (λ steps. netlist_answer s (netlist_reply s order name steps (module_named (netlist_of s).modules name)))) reads)
