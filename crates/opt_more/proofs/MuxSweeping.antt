-- The pass over the multiplexers.
use Rattle.std.proofs.Common.{◌≡◌, Bool, true, false, List, ◌∷◌, ◌++◌, Option, refl, sym, ◌∙◌, ap, subst, map}
use Rattle.std.specs.Prelude.{flat_map, if◌then◌else◌}
use Rattle.std.proofs.lemmas.List.{append-nil}
use Rattle.cell_types.specs.PinName.{pin_text}
use Rattle.cell_types.specs.declared.pin_name.PinName.{PinName}
use Rattle.cell_types.specs.declared.pin_name.PinName.TheVariants.{A, B}
use Rattle.rtl_sig.specs.declared.sig.SigBit.{SigBit}
use Rattle.rtl_ir.specs.Flat.Cell.{cell_kind, listed}
use Rattle.rtl_ir.specs.Follow.{follow}
use Rattle.rtl_ir.specs.Parameters.{signal_at}
use Rattle.rtl_ir.specs.Types as types
use Rattle.rtl_ir.specs.declared.cell.Cell.{Cell}
use Rattle.rtl_ir.specs.declared.module.Link.{Link}
use Rattle.rtl_ir.specs.declared.module.Module.{Module}
use Rattle.rtl_ir.specs.declared.ports.PortTable.{PortTable}
use Rattle.follow_laws.proofs.Passing.{followed_one}
use Rattle.follow_laws.specs.Inputs.{followed_cell}
use Rattle.pass_laws.proofs.Passes.{IsPass_refl, IsPass_trans}
use Rattle.pass_laws.specs.Pass.{IsPass}
use Rattle.pass_laws.specs.Ready.{IsReady}
use Rattle.opt_more.specs.Changed.{with_signal}
use Rattle.opt_more.specs.Muxtree.{arm_end, is_mux, muxed_arms, muxtree_of, muxtree_visit, standing_now, with_arm}
use Rattle.opt_more.proofs.ArmChanges.{arm_fixed}
use Rattle.opt_more.proofs.Changing.{other_pin}
use Rattle.opt_more.proofs.MuxBits.{First, Second, IsMuxCell, mux_cell}
use Rattle.opt_more.proofs.Muxing.{arm_passes}
use Rattle.opt_more.proofs.Sweeping.{ArePasses, sweep_passes}

-- following, and another signal at an arm, leave a multiplexer one
mux_followed : (ports : types.Ports) (links : List Link) (c : Cell) → is_mux (followed_cell ports links c) ≡ is_mux c
unfolding cell_kind
mux_followed ports links c = refl

mux_rewired : (arm : PinName) (bits : List SigBit) (c : Cell) → is_mux (record c { pins = with_signal arm bits c.pins }) ≡ is_mux c
unfolding cell_kind
mux_rewired arm bits c = refl

module _ (table : PortTable) (m : Module) where
  abbrev so_far : List (Option Cell) → List Cell → List Link → Module
  so_far done rest links = record m { cells = flat_map listed done ++ rest; links = links }

  -- a visit: the inputs are followed, and then come the arms
  muxtree_passes : (cells : List Cell) → ArePasses table m (muxtree_visit (types.table_ports table.modules) cells)
  muxtree_passes cells done c rest links ready =
      subst (λ z. IsPass table (so_far done (c ∷ rest) links) (record m { cells = flat_map listed done ++ ((if is_mux c then muxed_arms cells done rest links (followed_cell (types.table_ports table.modules) links c) else c) ∷ rest); links = z })) (sym (append-nil links)) (by (is_mux c) refl)
    where
      by : (t : Bool) → is_mux c ≡ t → IsPass table (so_far done (c ∷ rest) links) (record m { cells = flat_map listed done ++ ((if t then muxed_arms cells done rest links (followed_cell (types.table_ports table.modules) links c) else c) ∷ rest); links = links })
      by false e = IsPass_refl table (so_far done (c ∷ rest) links)
      by true e =
          let d : Cell = followed_cell (types.table_ports table.modules) links c in
          let d' : Cell = with_arm A cells done rest links d in
          let d'' : Cell = with_arm B cells done rest links d' in
          let mux : IsMuxCell d = mux_cell d (mux_followed (types.table_ports table.modules) links c ∙ e) in
          let mux' : IsMuxCell d' = mux_cell d' (mux_rewired A (arm_end A cells (standing_now done d rest) links d) d ∙ mux_followed (types.table_ports table.modules) links c ∙ e) in
          let stays : signal_at d'.pins (pin_text B) ≡ signal_at d.pins (pin_text B) = other_pin A (arm_end A cells (standing_now done d rest) links d) (pin_text B) refl d.pins in
          let second_fixed : map (follow links) (signal_at d'.pins (pin_text B)) ≡ signal_at d'.pins (pin_text B) = ap (map (follow links)) stays ∙ arm_fixed (types.table_ports table.modules) links c (mux_cell c e) B Second ∙ sym stays in
          let first : IsPass table (so_far done (c ∷ rest) links) (so_far done (d ∷ rest) links) = followed_one table (so_far done (c ∷ rest) links) ready (flat_map listed done) c rest refl in
          let ready' = first.ready ready in
          let second : IsPass table (so_far done (d ∷ rest) links) (so_far done (d' ∷ rest) links) = arm_passes table (so_far done (d ∷ rest) links) ready' cells done rest d refl mux A First (arm_fixed (types.table_ports table.modules) links c (mux_cell c e) A First) in
          let third : IsPass table (so_far done (d' ∷ rest) links) (so_far done (d'' ∷ rest) links) = arm_passes table (so_far done (d' ∷ rest) links) (second.ready ready') cells done rest d' refl mux' B Second second_fixed in
          IsPass_trans table (so_far done (c ∷ rest) links) (so_far done (d ∷ rest) links) (so_far done (d'' ∷ rest) links) first
          (IsPass_trans table (so_far done (d ∷ rest) links) (so_far done (d' ∷ rest) links) (so_far done (d'' ∷ rest) links) second third)

-- the pass `muxtree`
pub muxtree_is_pass : (table : PortTable) (m : Module) → IsReady (types.table_ports table.modules) m → IsPass table m (muxtree_of (types.table_ports table.modules) m)
muxtree_is_pass table m ready = sweep_passes table m (muxtree_visit (types.table_ports table.modules) m.cells) (muxtree_passes table m m.cells) ready
