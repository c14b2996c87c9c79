-- Lines that write, one more at a place.
use Rattle.std.proofs.Common.{◌≡◌, ℕ, zero, suc, ◌+◌, ◌<◌, ◌≤◌, List, [], ◌∷◌, ◌++◌, length, drop, get_or, add-one, refl, sym, ◌∙◌, ap, subst, arith, length-append}
use Rattle.std.specs.Prelude.{codes, flat_map}
use Rattle.std.proofs.Math.Seq.{drop-cons}
use Rattle.cell_types.specs.declared.kind.CellKind.TheVariants.{Memory}
use Rattle.cell_types.specs.declared.memory.MemoryKind.TheVariants.{MemwrV2}
use Rattle.rtl_ir.specs.Build.{Building}
use Rattle.rtl_ir.specs.Constants.{value_bits}
use Rattle.rtl_ir.specs.Flat.Access.{line_mask, write_trigger}
use Rattle.rtl_ir.specs.declared.module.Module.{Module}
use Rattle.rtl_ir.specs.declared.process.Event.{Event}
use Rattle.rtl_ir.specs.declared.process.Process.{Process}
use Rattle.rtl_ir.specs.declared.process.SyncRule.{SyncRule}
use Rattle.rtl_ir.specs.declared.process.WriteLine.{WriteLine}
use Rattle.net_index.specs.Builder.{PassesLimit}
use Rattle.net_model.specs.Proc.Sync.{Numbered, Writing, line_number, lines_step, ports_in, write_cell, writes_step}
use Rattle.proc_sync.specs.Writes.{line_step, write_params, write_pins}
use Rattle.proc_sync.proofs.Turning.{Grows, cell_grows, grows_more, grows_none, over_later}

write_grows : (event : Event) (line : WriteLine) (number : ℕ) (rule : List Numbered) (b : Building) → Grows b (write_cell event line number rule b)
write_grows event line number rule b =
    cell_grows (codes "$memwr_v2") (Memory MemwrV2) refl
    (write_params line.memory (length line.address) (length line.value) (write_trigger event).level number (line_mask number (ports_in line.memory rule) (value_bits line.mask)))
    (write_pins (write_trigger event).signal line.enable line.address line.value) b

lines_grow : (m : Module) (event : Event) (rule : List Numbered) (lines : List WriteLine) (w : Writing) → Grows w.building (lines_step m event rule lines w).building
lines_grow m event rule [] w = grows_none w.building
lines_grow m event rule (line ∷ lines) w =
    let number : ℕ = line_number m w.numbered line.memory in
    let here : Numbered = record { memory = line.memory; number = number } in
    let next : Writing = record { building = write_cell event line number rule w.building; numbered = w.numbered ++ here ∷ [] } in
    grows_more w.building next.building (lines_step m event (rule ++ here ∷ []) lines next).building (write_grows event line number rule w.building) (lines_grow m event (rule ++ here ∷ []) lines next)

pub writes_grow : (m : Module) (rules : List SyncRule) (w : Writing) → Grows w.building (writes_step m rules w).building
writes_grow m [] w = grows_none w.building
writes_grow m (r ∷ rules) w =
    let next : Writing = lines_step m r.event [] r.writes w in
    grows_more w.building next.building (writes_step m rules next).building (lines_grow m r.event [] r.writes w) (writes_grow m rules next)

drop_last : (start : ℕ) (done : List Numbered) (l : Numbered) → start ≤ length done → drop start done ++ l ∷ [] ≡ drop start (done ++ l ∷ [])
drop_last zero done l h = refl
drop_last (suc start) [] l h = absurd (omega arith)
drop_last (suc start) (d ∷ done) l h = drop_last start done l (omega arith)

pub drop_all : (done : List Numbered) → drop (length done) done ≡ []
drop_all [] = refl
drop_all (d ∷ done) = drop_all done

-- a line more of a rule
module _ (m : Module) (event : Event) (start : ℕ) (lines : List WriteLine) (at : ℕ) (line : WriteLine) (h : at < length lines) (e : line ≡ get_or lines at line) where
  next : drop at lines ≡ line ∷ drop (at + 1) lines
  next =
      drop-cons lines at line h
      ∙ (λ i. sym e i ∷ drop (sym (add-one at) i) lines)

  line_first : (w : Writing) → start ≤ length w.numbered → lines_step m event (drop start w.numbered) (line ∷ drop (at + 1) lines) w ≡ lines_step m event (drop start (line_step m event start line w).numbered) (drop (at + 1) lines) (line_step m event start line w)
  line_first w few =
      ap (λ rule. lines_step m event rule (drop (at + 1) lines) (line_step m event start line w))
      (drop_last start w.numbered (record { memory = line.memory; number = line_number m w.numbered line.memory }) few)

  pub line_goes : (w w' all : Writing) → start ≤ length w.numbered → w' ≡ line_step m event start line w → lines_step m event (drop start w.numbered) (drop at lines) w ≡ all → lines_step m event (drop start w'.numbered) (drop (at + 1) lines) w' ≡ all
  line_goes w w' all few made so =
      (λ i. lines_step m event (drop start (made i).numbered) (drop (at + 1) lines) (made i))
      ∙ sym (line_first w few)
      ∙ ap (λ ls. lines_step m event (drop start w.numbered) ls w) (sym next)
      ∙ so

  pub line_over : (w all : Writing) → start ≤ length w.numbered → lines_step m event (drop start w.numbered) (drop at lines) w ≡ all → PassesLimit (line_step m event start line w).building → PassesLimit all.building
  line_over w all few so over =
      let after : Writing = line_step m event start line w in
      let rest : Writing = lines_step m event (drop start after.numbered) (drop (at + 1) lines) after in
      let is : rest ≡ all = line_goes w after all few refl so in
      subst (λ (x : Writing). PassesLimit x.building) is (over_later after.building rest.building (lines_grow m event (drop start after.numbered) (drop (at + 1) lines) after) over)

pub line_longer : (m : Module) (event : Event) (start : ℕ) (line : WriteLine) (w w' : Writing) → start ≤ length w.numbered → w' ≡ line_step m event start line w → start ≤ length w'.numbered
line_longer m event start line w w' few made =
    let long = ap (λ (x : Writing). length x.numbered) made in
    omega (arith, long, few, length-append w.numbered (record { memory = line.memory; number = line_number m w.numbered line.memory } ∷ []))

-- a rule more
module _ (m : Module) (rules : List SyncRule) (at : ℕ) (r : SyncRule) (h : at < length rules) (e : r ≡ get_or rules at r) where
  next_rule : drop at rules ≡ r ∷ drop (at + 1) rules
  next_rule =
      drop-cons rules at r h
      ∙ (λ i. sym e i ∷ drop (sym (add-one at) i) rules)

  pub rule_goes : (w w' all : Writing) → w' ≡ lines_step m r.event [] r.writes w → writes_step m (drop at rules) w ≡ all → writes_step m (drop (at + 1) rules) w' ≡ all
  rule_goes w w' all made so =
      ap (writes_step m (drop (at + 1) rules)) made ∙ ap (λ rs. writes_step m rs w) (sym next_rule) ∙ so

  pub rule_over : (w all : Writing) → writes_step m (drop at rules) w ≡ all → PassesLimit (lines_step m r.event [] r.writes w).building → PassesLimit all.building
  rule_over w all so over =
      let after : Writing = lines_step m r.event [] r.writes w in
      let rest : Writing = writes_step m (drop (at + 1) rules) after in
      let is : rest ≡ all = rule_goes w after all refl so in
      subst (λ (x : Writing). PassesLimit x.building) is (over_later after.building rest.building (writes_grow m (drop (at + 1) rules) after) over)

-- rules behind rules
writes_both : (m : Module) (xs ys : List SyncRule) (w : Writing) → writes_step m (xs ++ ys) w ≡ writes_step m ys (writes_step m xs w)
writes_both m [] ys w = refl
writes_both m (x ∷ xs) ys w = writes_both m xs ys (lines_step m x.event [] x.writes w)

-- a process more
module _ (m : Module) (ps : List Process) (at : ℕ) (p : Process) (h : at < length ps) (e : p ≡ get_or ps at p) where
  next_rules : flat_map (λ (q : Process). q.syncs) (drop at ps) ≡ p.syncs ++ flat_map (λ (q : Process). q.syncs) (drop (at + 1) ps)
  next_rules =
      ap (flat_map (λ (q : Process). q.syncs)) (drop-cons ps at p h)
      ∙ (λ i. (sym e i).syncs ++ flat_map (λ (q : Process). q.syncs) (drop (sym (add-one at) i) ps))

  pub process_goes : (w w' all : Writing) → w' ≡ writes_step m p.syncs w → writes_step m (flat_map (λ (q : Process). q.syncs) (drop at ps)) w ≡ all → writes_step m (flat_map (λ (q : Process). q.syncs) (drop (at + 1) ps)) w' ≡ all
  process_goes w w' all made so =
      ap (writes_step m (flat_map (λ (q : Process). q.syncs) (drop (at + 1) ps))) made
      ∙ sym (writes_both m p.syncs (flat_map (λ (q : Process). q.syncs) (drop (at + 1) ps)) w)
      ∙ ap (λ rs. writes_step m rs w) (sym next_rules)
      ∙ so

  pub process_over : (w all : Writing) → writes_step m (flat_map (λ (q : Process). q.syncs) (drop at ps)) w ≡ all → PassesLimit (writes_step m p.syncs w).building → PassesLimit all.building
  process_over w all so over =
      let after : Writing = writes_step m p.syncs w in
      let rest : Writing = writes_step m (flat_map (λ (q : Process). q.syncs) (drop (at + 1) ps)) after in
      let is : rest ≡ all = process_goes w after all refl so in
      subst (λ (x : Writing). PassesLimit x.building) is (over_later after.building rest.building (writes_grow m (flat_map (λ (q : Process). q.syncs) (drop (at + 1) ps)) after) over)
