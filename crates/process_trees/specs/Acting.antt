-- The rules of a process that act: none, one, two in order, or more.
use Rattle.std.specs.Prelude.{◌≡◌, Bool, not, ◌&&◌, List, [], ◌∷◌}
use Rattle.rtl_ir.specs.declared.process.SyncRule.{SyncRule}
use Rattle.rtl_ir.specs.Rules.{has_line, is_init}
use Rattle.process_trees.specs.declared.acting.Acting.{Acting}
use Rattle.process_trees.specs.declared.acting.Acting.TheVariants.{Idle, Single, Pair, Several}

-- a rule acts
abbrev pub acts : SyncRule → Bool
acts rule = has_line rule && not (is_init rule.event)

-- these are the rules that act
abbrev pub Acts : Acting → List SyncRule → Type 0
Acts Idle rules = rules ≡ []
Acts (Single a) rules = rules ≡ a.now ∷ []
Acts (Pair a b) rules = rules ≡ a.now ∷ b.now ∷ []
Acts Several rules = (a b c : SyncRule) × (rest : List SyncRule) × (rules ≡ a ∷ b ∷ c ∷ rest)
