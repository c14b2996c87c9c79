-- What is found of a tree, fork by fork.
use Rattle.std.specs.Prelude.{◌≡◌, ◌≤◌, ◌⊎◌, ℕ, true, List, length, map, take, slice_get, Option, Some, None, option_and_then}
use Rattle.rtl_bits.specs.declared.bit.Bit.{Bit}
use Rattle.rtl_sig.specs.declared.sig.SigBit.{SigBit}
use Rattle.rtl_ir.specs.declared.cell.Cell.{Cell}
use Rattle.rtl_ir.specs.declared.module.Module.{Module}
use Rattle.rtl_ir.specs.Signals.{constant_of}
use Rattle.net_model.specs.Fsm.Find.{Tree, above_tree, all_trees, is_state_constant, known_leaves, tree_within}
use Rattle.net_model.specs.Lists.{In}
use Rattle.fsm_find.specs.declared.reach.Node.{Node}
use Rattle.fsm_find.specs.declared.reach.Reach.{Reach}
use Rattle.fsm_find.specs.declared.view.Step.{Step}
use Rattle.fsm_find.specs.declared.view.Step.TheVariants.{Leaf, Fork, Stray}
use Rattle.fsm_find.specs.View.{arms_in, step_of}

-- all of these are among those
abbrev pub Includes : {A : Type 0} → List A → List A → Type 0
Includes xs ys = (x : _) → In x xs → In x ys

-- the tree at a fork, so many levels deep below it
abbrev pub fork_tree : Module → List SigBit → ℕ → ℕ → Option Tree
fork_tree m state n at =
    option_and_then (λ (c : Cell). above_tree at (all_trees (map (tree_within m state n) (arms_in m c)))) (slice_get m.cells at)

-- a tree is a part of another
pub record IsPart (part whole : Tree) : Type 0 where
  pub forks : Includes part.forks whole.forks
  pub leaves : Includes part.leaves whole.leaves

-- a signal has no tree, however deep
abbrev pub HasNoTree : Module → List SigBit → List SigBit → Type 0
HasNoTree m state root = (n : ℕ) → tree_within m state n root ≡ None

-- where the root has a tree, the signal has one that is a part of it
abbrev pub IsUnder : Module → List SigBit → List SigBit → List SigBit → Type 0
IsUnder m state root signal =
    (n : ℕ) (t : Tree) → tree_within m state n root ≡ Some t
    → (k : ℕ) × (part : Tree) × (tree_within m state k signal ≡ Some part) × IsPart part t

-- where the root has a tree, the fork has one that is a part of it
abbrev pub IsForkUnder : Module → List SigBit → List SigBit → ℕ → Type 0
IsForkUnder m state root at =
    (n : ℕ) (t : Tree) → tree_within m state n root ≡ Some t
    → (k : ℕ) × (part : Tree) × (fork_tree m state k at ≡ Some part) × IsPart part t

-- where the root has a tree, these bits are a known leaf of it
abbrev pub IsLeafUnder : Module → List SigBit → List SigBit → List Bit → Type 0
IsLeafUnder m state root bits =
    (n : ℕ) (t : Tree) → tree_within m state n root ≡ Some t → In bits (known_leaves t.leaves)

-- what a signal comes to is found: a known leaf, or a fork that is noted as below
abbrev pub IsMet : List ℕ → List (List Bit) → List ℕ → List SigBit → Step → Type 0
IsMet forks known below signal Leaf = is_state_constant signal ≡ true → In (map constant_of signal) known
IsMet forks known below signal (Fork at) = In at below × In at forks
IsMet forks known below signal Stray = ⊥

-- a fork is a step from one of these signals
abbrev pub IsStepFrom : Module → List SigBit → List (List SigBit) → ℕ → Type 0
IsStepFrom m state signals at = (s : List SigBit) × In s signals × (step_of m state s ≡ Fork at)

-- a fork with the forks that its arms lead to
pub record IsNode (m : Module) (state : List SigBit) (forks : List ℕ) (known : List (List Bit)) (node : Node) : Type 0 where
  pub met : (c : Cell) → slice_get m.cells node.fork ≡ Some c → (s : List SigBit) → In s (arms_in m c) → IsMet forks known node.below.items s (step_of m state s)
  pub only : (c : Cell) → slice_get m.cells node.fork ≡ Some c → (at : ℕ) → In at node.below.items → IsStepFrom m state (arms_in m c) at

-- what is found so far of the tree at a root
pub record IsReach (m : Module) (state root : List SigBit) (r : Reach) : Type 0 where
  pub count : length r.found.items ≡ length m.cells
  pub marked : (at : ℕ) → slice_get r.found.items at ≡ Some true → In at r.forks.items
  pub found : (at : ℕ) → In at r.forks.items → slice_get r.found.items at ≡ Some true
  pub forks : (at : ℕ) → In at r.forks.items → IsForkUnder m state root at
  pub known : (bits : List Bit) → In bits r.known.items → IsLeafUnder m state root bits
  pub nodes : (node : Node) → In node r.nodes.items → IsNode m state r.forks.items r.known.items node
  pub order : map (λ (node : Node). node.fork) r.nodes.items ≡ take (length r.nodes.items) r.forks.items

-- a fork is found
pub record Meets (m : Module) (state root : List SigBit) (old new : Reach) (at : ℕ) : Type 0 where
  pub reach : IsReach m state root new
  pub here : In at new.forks.items
  pub forks : Includes old.forks.items new.forks.items
  pub kept : (i at : ℕ) → slice_get old.forks.items i ≡ Some at → slice_get new.forks.items i ≡ Some at
  pub known : new.known ≡ old.known
  pub nodes : new.nodes ≡ old.nodes

-- the constant of a leaf is noted where it is known
pub record Learns (old new : Reach) (signal : List SigBit) : Type 0 where
  pub found : new.found ≡ old.found
  pub forks : new.forks ≡ old.forks
  pub nodes : new.nodes ≡ old.nodes
  pub known : Includes old.known.items new.known.items
  pub here : is_state_constant signal ≡ true → In (map constant_of signal) new.known.items
  pub only : (bits : List Bit) → In bits new.known.items → In bits old.known.items ⊎ ((is_state_constant signal ≡ true) × (bits ≡ map constant_of signal))

-- some signals are visited
pub record Visits (m : Module) (state root : List SigBit) (signals : List (List SigBit)) (old new : Reach) (below more : List ℕ) : Type 0 where
  pub reach : IsReach m state root new
  pub forks : Includes old.forks.items new.forks.items
  pub kept : (i at : ℕ) → slice_get old.forks.items i ≡ Some at → slice_get new.forks.items i ≡ Some at
  pub known : Includes old.known.items new.known.items
  pub nodes : new.nodes ≡ old.nodes
  pub met : (s : List SigBit) → In s signals → IsMet new.forks.items new.known.items more s (step_of m state s)
  pub before : Includes below more
  pub only : (at : ℕ) → In at more → In at below ⊎ IsStepFrom m state signals at

-- a fork is opened
pub record Opens (m : Module) (state root : List SigBit) (old new : Reach) : Type 0 where
  pub reach : IsReach m state root new
  pub forks : Includes old.forks.items new.forks.items
  pub known : Includes old.known.items new.known.items

-- all that a tree reaches is found: each fork has its node, and the root is met
pub record IsWhole (m : Module) (state root : List SigBit) (r : Reach) : Type 0 where
  pub reach : IsReach m state root r
  pub all : length r.forks.items ≤ length r.nodes.items
  pub met : IsMet r.forks.items r.known.items r.forks.items root (step_of m state root)
