-- Bits that are always updated, over a tree whose nodes are known by numbers.
use Rattle.std.specs.Prelude.{List, [], ◌∷◌, Option, Some, None, if◌then◌else◌, length}
use Rattle.rtl_sig.specs.declared.sig.SigBit.{SigBit}
use Rattle.rtl_sig.specs.declared.sig.SigBit.TheVariants.{Wire as OnWire}
use Rattle.rtl_sig.specs.declared.sig.WireBit.{WireBit}
use Rattle.rtl_ir.specs.declared.process.SyncRule.{SyncRule}
use Rattle.rtl_ir.specs.declared.module.Link.{Link}
use Rattle.rtl_ir.specs.Assigns.{tree_bits}
use Rattle.rtl_ir.specs.Build.{Building, new_link}
use Rattle.rtl_ir.specs.Flat.Process.{may_hold}
use Rattle.rtl_ir.specs.Follow.{all_joins}
use Rattle.rtl_ir.specs.declared.follow.Join.{Join}
use Rattle.rtl_ir.specs.Tree.{CaseView}
use Rattle.net_model.specs.Proc.Latch.{Side, ForData, ForEnable, latch_cell}
use Rattle.net_model.specs.Proc.Latch as by_places
use Rattle.match_cells.specs.Trees.{Numbered}
use Rattle.proc_latch.specs.Chains.{leaf_within}

-- the value of a bit on one side, with chains of its own
abbrev pub side_value : Side → CaseView → List WireBit → Join → Numbered → SigBit × Numbered
side_value side root bits j t =
    let value = leaf_within (length bits) side root bits j.bit j.source (record { trees = t; chains = [] }) in
    (value.0, value.1.trees)

-- a bit that may hold: the cells of its data, those of its enable, and then the latch
unfoldable pub latch_step : CaseView → List WireBit → Join → Numbered → Numbered
latch_step root bits j t =
    let new = side_value ForData root bits j t in
    let enable = side_value ForEnable root bits j new.1 in
    record { building = latch_cell j.bit new.0 enable.0 enable.1.building; made = enable.1.made }

-- a bit that is always updated
unfoldable pub always_step : CaseView → List WireBit → Join → Numbered → Numbered
always_step root bits j t =
    if may_hold root bits j
    then latch_step root bits j t
    else record { building = new_link (OnWire j.bit ∷ []) (j.source ∷ []) t.building; made = t.made }

-- bits one by one
abbrev pub always_steps : CaseView → List WireBit → List Join → Numbered → Numbered
always_steps root bits [] t = t
always_steps root bits (j ∷ js) t = always_steps root bits js (always_step root bits j t)

-- the bits of a process that these lines always update
abbrev pub always_process : CaseView → List Link → Building → Building
always_process root updates b =
    (by_places.always_steps root (tree_bits root) (all_joins updates) (record { building = b; made = [] })).building

-- the one rule of these, where it is the only one
abbrev pub lone : List SyncRule → Option SyncRule
lone (r ∷ []) = Some r
lone rules = None
