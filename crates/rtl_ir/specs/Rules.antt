-- The rules of a process, and the bits that they update.
use Rattle.std.specs.Prelude.{Bool, true, false, not, ◌&&◌, ◌||◌, List, [], ◌∷◌, ◌++◌, if◌then◌else◌, filter, flat_map}
use Rattle.rtl_sig.specs.declared.sig.WireBit.{WireBit}
use Rattle.rtl_ir.specs.declared.module.Link.{Link}
use Rattle.rtl_ir.specs.declared.process.Event.{Event}
use Rattle.rtl_ir.specs.declared.process.Event.TheVariants.{Init}
use Rattle.rtl_ir.specs.declared.process.SyncRule.{SyncRule}
use Rattle.rtl_ir.specs.Assigns.{left_bits}
use Rattle.rtl_ir.specs.Signals.{same_bit}

-- whether a list has an item
abbrev pub has_item : {A : Type 0} → List A → Bool
has_item [] = false
has_item (x ∷ xs) = true

-- a rule has a line
abbrev pub has_line : SyncRule → Bool
has_line rule = has_item rule.updates || has_item rule.writes

-- a rule gives start values
abbrev pub is_init : Event → Bool
is_init Init = true
is_init event = false

-- the rules that act: those with lines, but for those that give start values
abbrev pub acting_rules : List SyncRule → List SyncRule
acting_rules rules = filter (λ (rule : SyncRule). has_line rule && not (is_init rule.event)) rules

-- the lines that give start values, in order
abbrev pub init_lines : List SyncRule → List Link
init_lines rules = flat_map (λ (rule : SyncRule). rule.updates) (filter (λ (rule : SyncRule). is_init rule.event) rules)

-- the bits without the first place that has this one
abbrev pub without_bit : WireBit → List WireBit → List WireBit
without_bit b [] = []
without_bit b (c ∷ bits) = if same_bit b c then bits else c ∷ without_bit b bits

-- the bits beyond these, each as often as it stands there more often than here
abbrev pub beyond : List WireBit → List WireBit → List WireBit
beyond [] bits = bits
beyond (b ∷ seen) bits = beyond seen (without_bit b bits)

-- the bits that the rules update, each as often as it stands in the rule that has it most often
abbrev pub updated_by : List SyncRule → List WireBit
updated_by [] = []
updated_by (rule ∷ rules) = left_bits rule.updates ++ beyond (left_bits rule.updates) (updated_by rules)

-- the updated bits of a process
abbrev pub updated_bits : List SyncRule → List WireBit
updated_bits rules = updated_by (acting_rules rules)
