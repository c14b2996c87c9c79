-- The chains of tree bits, over a tree whose nodes are known by numbers: what the assigns of a case give a bit, and the match
-- that is made for a case, are found by the number of the case.
use Rattle.std.specs.Prelude.{◌≡◌, ℕ, zero, suc, ◌+◌, List, [], ◌∷◌, Option, if◌then◌else◌, length}
use Rattle.std.specs.Map.{lookup}
use Rattle.std.specs.Option.{option_map_or}
use Rattle.indexmap.specs.IndexMap.{insert_entry}
use Rattle.rtl_sig.specs.declared.sig.SigBit.{SigBit}
use Rattle.rtl_sig.specs.declared.sig.SigBit.TheVariants.{Fixed, Wire as OnWire}
use Rattle.rtl_sig.specs.declared.sig.WireBit.{WireBit}
use Rattle.rtl_ir.specs.Assigns.{tree_bits}
use Rattle.rtl_ir.specs.Signals.{same_bit, has_bit}
use Rattle.rtl_ir.specs.Tree.{Switches, NoSwitch, OneSwitch, Cases, NoCase, OneCase, CaseView}
use Rattle.net_model.specs.Proc.Latch.{Side, missing_leaf, other_leaf, own_leaf}
use Rattle.net_model.specs.Proc.Mux.{lowest}
use Rattle.match_cells.specs.Numbers.{HasSwitches, behind_case, behind_switch, case_behind}
use Rattle.match_cells.specs.Trees.{Numbered, with_case}
use Rattle.match_cells.specs.Trees as matches
use Rattle.process_trees.specs.Reaching.{AreReaching}
use Rattle.proc_latch.specs.Bits.{AreListed}
use Rattle.proc_latch.specs.Givens.{case_given, given_in, has_between, value_at}
use Rattle.proc_latch.specs.Sides.{side_of}
use Rattle.proc_latch.specs.declared.chains.Chains.{Chains}
use Rattle.proc_latch.specs.declared.given.Given.{Given}
use Rattle.proc_latch.specs.declared.reading.Reading.{Reading}
use Rattle.proc_latch.specs.declared.reading.Tables.{Tables}

-- what is built of trees, and the bits whose chains are made, with their results
pub record Chained : Type 0 where
  pub trees : Numbered
  pub chains : List (WireBit × SigBit)

-- chains as they are built
abbrev pub seen : Chains → Chained
seen t = record { trees = matches.seen t.trees; chains = t.chains.entries }

-- a leaf as it is read, which may make a chain
abbrev pub Leaf : Type 0
Leaf = SigBit → Chained → SigBit × Chained

-- a case of a bit over what stands for the cases behind it
unfoldable pub with_case_bit : ℕ → List SigBit → List (List SigBit) → SigBit → SigBit → Chained → SigBit × Chained
with_case_bit n signal patterns body acc t =
    let value = with_case n signal patterns (body ∷ []) (acc ∷ []) t.trees in
    (lowest value.0, record { trees = value.1; chains = t.chains })

-- what is assigned to a bit as it is read, or what the bit had
abbrev pub start_leaf : Leaf → Option SigBit → SigBit → Chained → SigBit × Chained
start_leaf leaf source prior t = option_map_or (λ s. leaf s t) source (prior, t)

unfoldable mutual
  -- these switches, the first of which is the node of this number, act in order on the value of a bit
  pub switches_chain : Leaf → List Given → ℕ → Switches → SigBit → Chained → SigBit × Chained
  switches_chain leaf given n NoSwitch prior t = (prior, t)
  switches_chain leaf given n (OneSwitch signal attributes cases rest) prior t =
      let value =
      if has_between given n (behind_switch n cases)
      then cases_chain leaf given (n + 1) signal cases prior t
      else (prior, t) in
      switches_chain leaf given (behind_switch n cases) rest value.0 value.1

  -- these cases of a switch, the last one first, over the value before the switch
  pub cases_chain : Leaf → List Given → ℕ → List SigBit → Cases → SigBit → Chained → SigBit × Chained
  cases_chain leaf given n signal NoCase prior t = (prior, t)
  cases_chain leaf given n signal (OneCase patterns assigns attributes switches rest) prior t =
      let acc = cases_chain leaf given (behind_case n switches) signal rest prior t in
      let start = start_leaf leaf (value_at given n) prior acc.1 in
      let body = switches_chain leaf given (n + 1) switches start.0 start.1 in
      with_case_bit n signal patterns body.0 acc.0 body.1

-- a switch acts on the value of a bit where it assigns the bit
abbrev pub switch_chain : Leaf → List Given → ℕ → List SigBit → Cases → SigBit → Chained → SigBit × Chained
switch_chain leaf given n signal cases prior t =
    if has_between given n (behind_switch n cases) then cases_chain leaf given (n + 1) signal cases prior t else (prior, t)

-- a case acts on what stands for the cases behind it
abbrev pub case_chain : Leaf → List Given → ℕ → List SigBit → List (List SigBit) → Switches → SigBit → SigBit → Chained → SigBit × Chained
case_chain leaf given n signal patterns switches prior acc t =
    let start = start_leaf leaf (value_at given n) prior t in
    let body = switches_chain leaf given (n + 1) switches start.0 start.1 in
    with_case_bit n signal patterns body.0 acc body.1

-- the chain of a bit, where it is made
abbrev pub chain_at : List (WireBit × SigBit) → WireBit → Option SigBit
chain_at chains b = lookup (same_bit b) chains

-- the chain of a bit is made, where none is yet
unfoldable pub put_chain : WireBit → SigBit → Chained → Chained
put_chain b s t =
    record { trees = t.trees; chains = option_map_or (λ r. t.chains) (chain_at t.chains b) (insert_entry same_bit t.chains b s) }

-- the chain of a tree bit that is made now
unfoldable pub new_chain : Leaf → Side → CaseView → WireBit → Chained → SigBit × Chained
new_chain leaf side root b t =
    let given = case_given b 0 root in
    let start = start_leaf leaf (value_at given 0) (missing_leaf side) t in
    let value = switches_chain leaf given 1 root.switches start.0 start.1 in
    (value.0, put_chain b value.0 value.1)

-- the chain of a tree bit: made once
unfoldable pub chain_of : Leaf → Side → CaseView → WireBit → Chained → SigBit × Chained
chain_of leaf side root b t = option_map_or (λ s. (s, t)) (chain_at t.chains b) (new_chain leaf side root b t)

-- a leaf of the value of a bit: the bit itself, a tree bit by its chain, or any other; so many chains one in another
unfoldable pub leaf_within : ℕ → Side → CaseView → List WireBit → WireBit → Leaf
leaf_within n side root bits q (Fixed c) t = (other_leaf side (Fixed c), t)
leaf_within zero side root bits q (OnWire b) t = if same_bit b q then (own_leaf side, t) else (other_leaf side (OnWire b), t)
leaf_within (suc n) side root bits q (OnWire b) t =
    if same_bit b q
    then (own_leaf side, t)
    else if has_bit bits b
    then chain_of (leaf_within n side root bits q) side root b t
    else (other_leaf side (OnWire b), t)

-- leaves as they are read for the bit of a latch
abbrev pub reads : Reading → ℕ → Leaf
reads r n = leaf_within n (side_of r.side) r.root.now (tree_bits r.root.now) r.own

-- the tables of the tree with this root: its nodes, its bits, and what the assigns give them
pub record AreTables (root : CaseView) (t : Tables) : Type 0 where
  pub nodes : HasSwitches t.nodes.items 1 root.switches
  pub count : length t.nodes.items ≡ length (case_behind 0 root)
  pub bits : t.bits.list.items ≡ tree_bits root
  pub listed : AreListed t.bits
  pub given : (b : WireBit) → given_in t.sources b ≡ case_given b 0 root
  pub reaching : AreReaching t.reaching root (tree_bits root)

-- leaves are read by the tables of the tree
abbrev pub IsRead : Reading → Type 0
IsRead r = AreTables r.root.now r.tables.now
