-- What is built of trees whose nodes are known by numbers: the match that is made for a case is found by the number of the case.
use Rattle.std.specs.Prelude.{ℕ, List, Option, Some, None, if◌then◌else◌, slice_get, slice_set, unwrap_or, length, replicate}
use Rattle.std.specs.Option.{option_map_or}
use Rattle.rtl_sig.specs.declared.sig.SigBit.{SigBit}
use Rattle.rtl_ir.specs.Build.{Building}
use Rattle.rtl_ir.specs.Tree.{CaseView}
use Rattle.rtl_ir.specs.Signals.{same_signal}
use Rattle.net_model.specs.Proc.Mux.{is_default, joined_bits, mux_cell, pattern_bits}
use Rattle.match_cells.specs.Numbers.{case_behind}
use Rattle.match_cells.specs.declared.trees.Trees.{Trees}

-- what is built, and of each node that is a case the match that is made for it
pub record Numbered : Type 0 where
  pub building : Building
  pub made : List (Option SigBit)

-- trees as they are built
abbrev pub seen : Trees → Numbered
seen t = record { building = t.builder; made = t.made.items }

-- the match of a case, where it is made
abbrev pub made_at : List (Option SigBit) → ℕ → Option SigBit
made_at made n = unwrap_or (slice_get made n) None

-- a match that is made now
unfoldable pub new_match : ℕ → List SigBit → List (List SigBit) → Numbered → SigBit × Numbered
new_match n signal patterns t =
    let bits = pattern_bits signal patterns t.building in
    let joined = joined_bits bits.0 bits.1 in
    (joined.0, record { building = joined.1; made = slice_set t.made n (Some joined.0) })

-- the match of the case at a node: made once, by its patterns
unfoldable pub match_bit : ℕ → List SigBit → List (List SigBit) → Numbered → SigBit × Numbered
match_bit n signal patterns t = option_map_or (λ s. (s, t)) (made_at t.made n) (new_match n signal patterns t)

-- a multiplexer of what stands for the cases behind a case, and the body of the case
unfoldable pub with_mux : ℕ → List SigBit → List (List SigBit) → List SigBit → List SigBit → Numbered → List SigBit × Numbered
with_mux n signal patterns body acc t =
    let m = match_bit n signal patterns t in
    let mux = mux_cell acc body m.0 m.1.building in
    (mux.0, record { building = mux.1; made = m.1.made })

-- what a case makes of what stands for the cases behind it
unfoldable pub with_case : ℕ → List SigBit → List (List SigBit) → List SigBit → List SigBit → Numbered → List SigBit × Numbered
with_case n signal patterns body acc t =
    if is_default signal patterns
    then (body, t)
    else if same_signal body acc
    then (acc, t)
    else with_mux n signal patterns body acc t

-- nothing is made yet
abbrev pub none_made : Building → CaseView → Numbered
none_made b root = record { building = b; made = replicate (length (case_behind 0 root)) None }
