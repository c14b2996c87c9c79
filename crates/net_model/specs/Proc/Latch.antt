-- A step of `proc`: bits that are always updated become latches, or connections where they never hold.
use Rattle.std.specs.Prelude.{ℕ, zero, suc, ◌+◌, Bool, true, false, List, [], ◌∷◌, ◌++◌, length, map, filter, codes, Option, Some, None, if◌then◌else◌}
use Rattle.std.specs.Option.{option_map_or}
use Rattle.rtl_bits.specs.declared.bit.Bit.TheVariants.{S0, S1, X}
use Rattle.rtl_sig.specs.declared.sig.SigBit.{SigBit}
use Rattle.rtl_sig.specs.declared.sig.SigBit.TheVariants.{Fixed, Wire as OnWire}
use Rattle.rtl_sig.specs.declared.sig.WireBit.{WireBit}
use Rattle.rtl_ir.specs.declared.module.Link.{Link}
use Rattle.rtl_ir.specs.declared.module.Module.{Module}
use Rattle.rtl_ir.specs.declared.process.Event.{Event}
use Rattle.rtl_ir.specs.declared.process.Event.TheVariants.{Always}
use Rattle.rtl_ir.specs.declared.process.Process.{Process}
use Rattle.rtl_ir.specs.declared.process.SyncRule.{SyncRule}
use Rattle.rtl_ir.specs.Assigns.{cases_assigns, tree_bits, assigned}
use Rattle.rtl_ir.specs.Flat.Process.{may_hold}
use Rattle.rtl_ir.specs.Follow.{all_joins}
use Rattle.rtl_ir.specs.declared.follow.Join.{Join}
use Rattle.rtl_ir.specs.Rules.{acting_rules}
use Rattle.rtl_ir.specs.Signals.{same_bit, has_bit}
use Rattle.rtl_ir.specs.Tree.{Switches, NoSwitch, OneSwitch, Cases, NoCase, OneCase, CaseView}
use Rattle.rtl_ir.specs.Build.{Building, building_of, integer_param, pin_of, new_cell, new_link}
use Rattle.net_model.specs.Proc.Mux.{Trees, with_case, assigns_run, lowest}

-- how leaves are read: for the data of a latch, where the bit itself is x, or for its enable, where it is 0 and every other leaf is 1
pub data Side : Type 0 where
  ForData : Side
  ForEnable : Side

-- what stands for the bit itself
abbrev pub own_leaf : Side → SigBit
own_leaf ForData = Fixed X
own_leaf ForEnable = Fixed S0

-- what stands for another leaf
abbrev pub other_leaf : Side → SigBit → SigBit
other_leaf ForData s = s
other_leaf ForEnable s = Fixed S1

-- what stands for a missing value
abbrev pub missing_leaf : Side → SigBit
missing_leaf ForData = Fixed X
missing_leaf ForEnable = Fixed S1

-- a tree bit whose chain is made, and its result
pub record Chain : Type 0 where
  pub bit : WireBit
  pub result : SigBit

-- what is built, with the matches and the chains that are made
pub record Chains : Type 0 where
  pub trees : Trees
  pub chains : List Chain

-- a leaf as it is read, which may make a chain
abbrev pub Leaves : Type 0
Leaves = SigBit → Chains → SigBit × Chains

-- the chain of a bit, where it is made
abbrev pub made_chain : List Chain → WireBit → Option SigBit
made_chain [] b = None
made_chain (c ∷ chains) b = if same_bit c.bit b then Some c.result else made_chain chains b

-- the last of these assigns of a bit as it is read, or what the bit had
abbrev pub assigned_leaf : Leaves → List Link → WireBit → SigBit → Chains → SigBit × Chains
assigned_leaf leaf assigns b prior t = option_map_or (λ s. leaf s t) (assigned assigns b) (prior, t)

-- a case over what stands for the cases behind it, of one bit
abbrev pub with_case_bit : List ℕ → List SigBit → List (List SigBit) → SigBit → SigBit → Chains → SigBit × Chains
with_case_bit at signal patterns body acc t =
    let value = with_case at signal patterns (body ∷ []) (acc ∷ []) t.trees in
    (lowest value.0, record { trees = value.1; chains = t.chains })

abbrev mutual
  -- the switches from a number on act in order on the value of a bit
  pub switches_chain : Leaves → WireBit → List ℕ → ℕ → Switches → SigBit → Chains → SigBit × Chains
  switches_chain leaf b above number NoSwitch prior t = (prior, t)
  switches_chain leaf b above number (OneSwitch signal attributes cases rest) prior t =
      let value =
      if assigns_run (cases_assigns cases) (b ∷ [])
      then cases_chain leaf b (above ++ number ∷ []) 0 signal cases prior t
      else (prior, t) in
      switches_chain leaf b above (number + 1) rest value.0 value.1

  -- the cases of a switch from a number on, the last one first
  pub cases_chain : Leaves → WireBit → List ℕ → ℕ → List SigBit → Cases → SigBit → Chains → SigBit × Chains
  cases_chain leaf b above number signal NoCase prior t = (prior, t)
  cases_chain leaf b above number signal (OneCase patterns assigns attributes switches rest) prior t =
      let acc = cases_chain leaf b above (number + 1) signal rest prior t in
      let start = assigned_leaf leaf assigns b prior acc.1 in
      let body = switches_chain leaf b (above ++ number ∷ []) 0 switches start.0 start.1 in
      with_case_bit (above ++ number ∷ []) signal patterns body.0 acc.0 body.1

-- the chain of a tree bit: made once
abbrev pub chain_of : Leaves → Side → CaseView → WireBit → Chains → SigBit × Chains
chain_of leaf side root b t =
    option_map_or (λ s. (s, t)) (made_chain t.chains b)
    (let start = assigned_leaf leaf root.assigns b (missing_leaf side) t in
    let value = switches_chain leaf b [] 0 root.switches start.0 start.1 in
    (value.0, record { trees = value.1.trees; chains = value.1.chains ++ record { bit = b; result = value.0 } ∷ [] }))

-- a leaf of the value of a bit: the bit itself, a tree bit by its chain, or any other; so many chains one in another
abbrev pub leaf_within : ℕ → Side → CaseView → List WireBit → WireBit → Leaves
leaf_within n side root bits q (Fixed c) t = (other_leaf side (Fixed c), t)
leaf_within zero side root bits q (OnWire b) t = if same_bit b q then (own_leaf side, t) else (other_leaf side (OnWire b), t)
leaf_within (suc n) side root bits q (OnWire b) t =
    if same_bit b q
    then (own_leaf side, t)
    else if has_bit bits b
    then chain_of (leaf_within n side root bits q) side root b t
    else (other_leaf side (OnWire b), t)

-- the value of a bit on one side, with chains of its own
abbrev pub side_value : Side → CaseView → List WireBit → Join → Trees → SigBit × Trees
side_value side root bits j t =
    let value = leaf_within (length bits) side root bits j.bit j.source (record { trees = t; chains = [] }) in
    (value.0, value.1.trees)

-- a latch of one bit
abbrev pub latch_cell : WireBit → SigBit → SigBit → Building → Building
latch_cell q new enable =
    new_cell (codes "$dlatch") (integer_param (codes "\\WIDTH") 1 ∷ integer_param (codes "\\EN_POLARITY") 1 ∷ [])
    (pin_of (codes "\\EN") (enable ∷ []) ∷ pin_of (codes "\\D") (new ∷ []) ∷ pin_of (codes "\\Q") (OnWire q ∷ []) ∷ [])

-- a bit that may hold: the cells of its data, those of its enable, and then the latch
abbrev pub latch_step : CaseView → List WireBit → Join → Trees → Trees
latch_step root bits j t =
    let new = side_value ForData root bits j t in
    let enable = side_value ForEnable root bits j new.1 in
    record { building = latch_cell j.bit new.0 enable.0 enable.1.building; made = enable.1.made }

-- a bit that is always updated
abbrev pub always_step : CaseView → List WireBit → Join → Trees → Trees
always_step root bits j t =
    if may_hold root bits j
    then latch_step root bits j t
    else record { building = new_link (OnWire j.bit ∷ []) (j.source ∷ []) t.building; made = t.made }

-- bits one by one
abbrev pub always_steps : CaseView → List WireBit → List Join → Trees → Trees
always_steps root bits [] t = t
always_steps root bits (j ∷ js) t = always_steps root bits js (always_step root bits j t)

-- an event is that of a rule that always acts
abbrev pub is_always : Event → Bool
is_always Always = true
is_always event = false

-- a process with one rule that always acts; any other adds nothing
abbrev pub latch_process : Process → List SyncRule → Building → Building
latch_process p (r ∷ []) b =
    if is_always r.event
    then (always_steps p.root (tree_bits p.root) (all_joins r.updates) (record { building = b; made = [] })).building
    else b
latch_process p rules b = b

-- processes in order
abbrev pub latches_step : List Process → Building → Building
latches_step [] b = b
latches_step (p ∷ processes) b = latches_step processes (latch_process p (acting_rules p.syncs) b)

-- a process without rules that always act
abbrev pub without_always : Process → Process
without_always p = record p { syncs = filter (λ (r : SyncRule). if is_always r.event then false else true) p.syncs }

-- the module after the step
abbrev pub proc_latch_of : Module → Module
proc_latch_of m =
    record (latches_step m.processes (building_of m)).body { processes = map without_always m.processes }
