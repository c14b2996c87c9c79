-- Bits that are always updated, by the numbers of nodes, become those of the definition.
use Rattle.std.proofs.Common.{◌≡◌, ℕ, suc, ◌+◌, ◌<◌, Bool, true, false, List, [], ◌∷◌, length, drop, get_or, Option, Some, if◌then◌else◌, refl, sym, ◌∙◌, ap, subst, add-one}
use Rattle.std.proofs.Math.Seq.{drop-cons}
use Rattle.rtl_sig.specs.declared.sig.SigBit.TheVariants.{Wire as OnWire}
use Rattle.rtl_sig.specs.declared.sig.WireBit.{WireBit}
use Rattle.rtl_ir.specs.declared.module.Link.{Link}
use Rattle.rtl_ir.specs.declared.process.Process.{Process}
use Rattle.rtl_ir.specs.declared.process.SyncRule.{SyncRule}
use Rattle.rtl_ir.specs.Assigns.{tree_bits}
use Rattle.rtl_ir.specs.Build.{Building, new_link}
use Rattle.rtl_ir.specs.Flat.Process.{may_hold}
use Rattle.rtl_ir.specs.Follow.{all_joins}
use Rattle.rtl_ir.specs.declared.follow.Join.{Join}
use Rattle.rtl_ir.specs.Rules.{acting_rules}
use Rattle.rtl_ir.specs.Tree.{CaseView}
use Rattle.net_index.specs.Builder.{PassesLimit}
use Rattle.net_model.specs.Proc.Latch.{Side, ForData, ForEnable, is_always, latch_cell, latch_process, latches_step}
use Rattle.net_model.specs.Proc.Latch as by_places
use Rattle.net_model.specs.Proc.Mux.{Trees}
use Rattle.match_cells.specs.Trees.{Numbered, none_made}
use Rattle.match_cells.proofs.Growing.{Grows, grows_more, grows_none, over_later}
use Rattle.match_cells.proofs.Same.{IsMade, none_is_made}
use Rattle.proc_latch.specs.Chains.{leaf_within}
use Rattle.proc_latch.specs.Steps.{always_process, always_step, always_steps, latch_step, lone, side_value}
use Rattle.proc_latch.proofs.Same.{Agrees, leaves_same}
use Rattle.proc_latch.proofs.Stepping.{steps_grow}

module _ (root : CaseView) (bits : List WireBit) where
  -- what is built is the same, and so are the matches that are made
  record AreSame (d : Trees) (f : Numbered) : Type 0 where
    building : d.building ≡ f.building
    made : IsMade root.switches d.made f.made

  side_same : (side : Side) (j : Join) (d : Trees) (f : Numbered) → AreSame d f → Agrees root.switches (by_places.leaf_within (length bits) side root bits j.bit j.source (record { trees = d; chains = [] })) (leaf_within (length bits) side root bits j.bit j.source (record { trees = f; chains = [] }))
  side_same side j d f s =
      leaves_same root side bits j.bit (length bits) j.source (record { trees = d; chains = [] }) (record { trees = f; chains = [] })
      (record { building = s.building; made = s.made; chains = λ b. refl })

  latch_same : (j : Join) (d : Trees) (f : Numbered) → AreSame d f → AreSame (by_places.latch_step root bits j d) (latch_step root bits j f)
  unfolding latch_step
  latch_same j d f s =
      let new = side_same ForData j d f s in
      let new_d = by_places.side_value ForData root bits j d in
      let new_f = side_value ForData root bits j f in
      let enable = side_same ForEnable j new_d.1 new_f.1 (record { building = new.same.building; made = new.same.made }) in
      record {
        building = λ i. latch_cell j.bit (new.bit i) (enable.bit i) (enable.same.building i);
        made = enable.same.made;
      }

  step_same : (j : Join) (d : Trees) (f : Numbered) → AreSame d f → AreSame (by_places.always_step root bits j d) (always_step root bits j f)
  unfolding always_step
  step_same j d f s = by (may_hold root bits j)
    where
      by : (h : Bool) → AreSame
          (if h then by_places.latch_step root bits j d else record { building = new_link (OnWire j.bit ∷ []) (j.source ∷ []) d.building; made = d.made })
          (if h then latch_step root bits j f else record { building = new_link (OnWire j.bit ∷ []) (j.source ∷ []) f.building; made = f.made })
      by true = latch_same j d f s
      by false = record { building = λ i. new_link (OnWire j.bit ∷ []) (j.source ∷ []) (s.building i); made = s.made }

  steps_same : (js : List Join) (d : Trees) (f : Numbered) → AreSame d f → AreSame (by_places.always_steps root bits js d) (always_steps root bits js f)
  steps_same [] d f s = s
  steps_same (j ∷ js) d f s = steps_same js (by_places.always_step root bits j d) (always_step root bits j f) (step_same j d f s)

pub numbers_are : (root : CaseView) (updates : List Link) (b : Building) → (always_steps root (tree_bits root) (all_joins updates) (none_made b root)).building ≡ always_process root updates b
numbers_are root updates b =
    sym (steps_same root (tree_bits root) (all_joins updates) (record { building = b; made = [] }) (none_made b root) (record { building = refl; made = none_is_made root })).building

always_grows : (root : CaseView) (updates : List Link) (b : Building) → Grows b (always_process root updates b)
always_grows root updates b = subst (Grows b) (numbers_are root updates b) (steps_grow root (tree_bits root) (all_joins updates) (none_made b root))

-- a process adds what its one rule that always acts has
pub alone_is : (p : Process) (rules : List SyncRule) (r : SyncRule) (b : Building) → Some r ≡ lone rules → is_always r.event ≡ true → always_process p.root r.updates b ≡ latch_process p rules b
alone_is p [] r b e h = absurd (cc)
alone_is p (x ∷ []) r b e h =
    let same : r ≡ x = cc in
    let here : is_always x.event ≡ true = ap (λ (y : SyncRule). is_always y.event) (sym same) ∙ h in
    ap (λ (y : SyncRule). always_process p.root y.updates b) same ∙ (λ i. if sym here i then always_process p.root x.updates b else b)
alone_is p (x ∷ y ∷ rules) r b e h = absurd (cc)

-- any other adds nothing
pub other_is : (p : Process) (rules : List SyncRule) (o : Option SyncRule) (b : Building) → o ≡ lone rules → ((r : SyncRule) → o ≡ Some r → is_always r.event ≡ false) → b ≡ latch_process p rules b
other_is p [] o b e h = refl
other_is p (x ∷ []) o b e h = λ i. if sym (h x e) i then always_process p.root x.updates b else b
other_is p (x ∷ y ∷ rules) o b e h = refl

pub process_grows : (p : Process) (rules : List SyncRule) (b : Building) → Grows b (latch_process p rules b)
process_grows p [] b = grows_none b
process_grows p (x ∷ []) b = by (is_always x.event)
  where
    by : (t : Bool) → Grows b (if t then always_process p.root x.updates b else b)
    by true = always_grows p.root x.updates b
    by false = grows_none b
process_grows p (x ∷ y ∷ rules) b = grows_none b

pub processes_grow : (ps : List Process) (b : Building) → Grows b (latches_step ps b)
processes_grow [] b = grows_none b
processes_grow (p ∷ ps) b =
    let later = latch_process p (acting_rules p.syncs) b in
    grows_more b later (latches_step ps later) (process_grows p (acting_rules p.syncs) b) (processes_grow ps later)

-- one more process, at a place
module _ (ps : List Process) (at : ℕ) (p : Process) (h : at < length ps) (e : p ≡ get_or ps at p) where
  next : drop at ps ≡ p ∷ drop (suc at) ps
  next = drop-cons ps at p h ∙ ap (λ q. q ∷ drop (suc at) ps) (sym e)

  pub process_goes : (b b' all : Building) → b' ≡ latch_process p (acting_rules p.syncs) b → latches_step (drop at ps) b ≡ all → latches_step (drop (at + 1) ps) b' ≡ all
  process_goes b b' all made so = (λ i. latches_step (drop (add-one at i) ps) (made i)) ∙ ap (λ qs. latches_step qs b) (sym next) ∙ so

  pub process_over : (b all : Building) → latches_step (drop at ps) b ≡ all → PassesLimit (latch_process p (acting_rules p.syncs) b) → PassesLimit all
  process_over b all so over =
      let later = latch_process p (acting_rules p.syncs) b in
      subst PassesLimit (ap (λ qs. latches_step qs b) (sym next) ∙ so) (over_later later (latches_step (drop (suc at) ps) later) (processes_grow (drop (suc at) ps) later) over)
