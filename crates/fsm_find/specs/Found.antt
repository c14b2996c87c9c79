-- A tree that is found.
use Rattle.std.specs.Prelude.{◌≡◌, ℕ, List, length, Some}
use Rattle.rtl_sig.specs.declared.sig.SigBit.{SigBit}
use Rattle.rtl_ir.specs.declared.cell.Cell.{Cell}
use Rattle.rtl_ir.specs.declared.module.Module.{Module}
use Rattle.net_model.specs.Fsm.Find.{Tree, has_place, known_leaves, tree_of}
use Rattle.fsm_find.specs.declared.reach.Reach.{Reach}
use Rattle.fsm_find.specs.Order.{is_done}
use Rattle.fsm_find.specs.Trees.{Includes}

-- the forks and the known leaves of a tree are what is found
pub record IsFound (m : Module) (r : Reach) (t : Tree) : Type 0 where
  pub count : length r.found.items ≡ length m.cells
  pub forks : (at : ℕ) → has_place t.forks at ≡ is_done r.found.items at
  pub known : Includes r.known.items (known_leaves t.leaves)
  pub learns : Includes (known_leaves t.leaves) r.known.items

-- a flip-flop has a tree, which is found
abbrev pub IsTreeFound : Module → List SigBit → Cell → Reach → Type 0
IsTreeFound m state flop r = (t : Tree) × (tree_of m state flop ≡ Some t) × IsFound m r t
