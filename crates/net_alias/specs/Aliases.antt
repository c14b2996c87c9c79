-- Where connections lead back to, as far as a table knows it.
use Rattle.std.specs.Prelude.{◌≡◌, ℕ, zero, suc, ◌<◌, List, length, Option, Some, None, if◌then◌else◌}
use Rattle.rtl_sig.specs.declared.sig.SigBit.{SigBit}
use Rattle.rtl_sig.specs.declared.sig.SigBit.TheVariants as sig
use Rattle.rtl_sig.specs.declared.sig.WireBit.{WireBit}
use Rattle.rtl_ir.specs.declared.module.Link.{Link}
use Rattle.rtl_ir.specs.Follow.{all_joins, back}
use Rattle.rtl_ir.specs.declared.follow.Join.{Join}
use Rattle.rtl_ir.specs.Signals.{same_bit}
use Rattle.net_index.specs.IndexWays.{RunsOn}
use Rattle.net_alias.specs.declared.aliases.Aliases.{Aliases}
use Rattle.net_alias.specs.declared.step_table.Step.{Step}
use Rattle.net_alias.specs.declared.step_table.Step.TheVariants.{To, Loop}
use Rattle.net_alias.specs.StepTable.{at_sig}

-- so many connections lead back from a bit to another bit or a constant
abbrev pub Reaches : List Join → ℕ → SigBit → SigBit → Type 0
Reaches joins zero s e = s ≡ e
Reaches joins (suc n) s e = (r : SigBit) × (back joins s ≡ Some r) × Reaches joins n r e

-- what is known of the way back from a bit is so
abbrev pub IsStep : List Join → SigBit → Option Step → Type 0
IsStep joins s None = back joins s ≡ None
IsStep joins s (Some (To next)) = (n : ℕ) × Reaches joins (suc n) s next
IsStep joins s (Some Loop) = RunsOn joins s

-- the step of a bit whose source leads to this end: where that is the bit, there is a loop
abbrev pub step_to : WireBit → SigBit → Step
step_to b (sig.Fixed c) = To (sig.Fixed c)
step_to b (sig.Wire e) = if same_bit e b then Loop else To (sig.Wire e)

-- all that is known of the ways along these places of connections is so, and there are more steps than places
pub record AreAliases (aliases : Aliases) (joins : List Join) : Type 0 where
  pub steps : length joins < aliases.steps
  pub known : (s : SigBit) → IsStep joins s (at_sig aliases.table s)

-- the ways along these connections
abbrev pub IsAliases : Aliases → List Link → Type 0
IsAliases aliases links = AreAliases aliases (all_joins links)
