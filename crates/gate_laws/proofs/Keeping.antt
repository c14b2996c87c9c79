-- `opt_merge` and `opt_clean` leave some of the cells, of the types that they have.
use Rattle.std.proofs.Common.{true, false, Bool, if◌then◌else◌, List, [], ◌∷◌, Option, Some, None, inl, inr, refl, sym, subst}
use Rattle.std.specs.Prelude.{find, map}
use Rattle.std.specs.Option.{option_map_or}
use Rattle.cell_types.specs.declared.kind.CellKind.{CellKind}
use Rattle.rtl_bits.specs.declared.bit.Bit.{Bit}
use Rattle.rtl_ir.specs.Flat.Cell.{cell_kind}
use Rattle.rtl_ir.specs.Flat.Start.{start_of}
use Rattle.rtl_ir.specs.Types.{Ports}
use Rattle.rtl_ir.specs.declared.cell.Cell.{Cell}
use Rattle.rtl_ir.specs.declared.module.Module.{Module}
use Rattle.rtl_sig.specs.declared.sig.SigBit.{SigBit}
use Rattle.net_model.proofs.Members.{In-mapped}
use Rattle.net_model.proofs.Ranges.{each_both, each_more, each_none}
use Rattle.net_model.specs.Within.{Each}
use Rattle.follow_laws.specs.Inputs.{followed, followed_cell}
use Rattle.opt_clean.specs.Clean.{clean_of, reduced}
use Rattle.opt_clean.specs.Kept.{kept_marks, marked}
use Rattle.opt_clean.specs.Runs.{links_of}
use Rattle.opt_clean.specs.Wires.{moved_cell, named_bits, wire_marks}
use Rattle.opt_merge.specs.Merge.{Merging, after_cells, after_kind, has_traits, join, merge_of, stay}
use Rattle.opt_merge.specs.Traits.{merging_kind, traits_of}
use Rattle.tech_map.specs.Gates.{HasGatesAlone, IsGateOrInstance}

module _ (start : SigBit → Bit) where
  kind_gates : (merging : Merging) (c : Cell) (k : Option CellKind) → Each IsGateOrInstance merging.cells → IsGateOrInstance c → Each IsGateOrInstance (after_kind start merging c k).cells
  kind_gates merging c None gates gate =
      each_both IsGateOrInstance merging.cells (c ∷ []) gates (each_more IsGateOrInstance c [] gate (each_none IsGateOrInstance))
  kind_gates merging c (Some kind) gates gate =
      by (find (has_traits start merging.links (traits_of start merging.links kind c)) merging.cells)
    where
      by : (o : Option Cell) → Each IsGateOrInstance (option_map_or (λ earlier. join kind merging earlier c) o (stay merging c)).cells
      by None = each_both IsGateOrInstance merging.cells (c ∷ []) gates (each_more IsGateOrInstance c [] gate (each_none IsGateOrInstance))
      by (Some earlier) = gates

  merged_gates : (merging : Merging) (cells : List Cell) → Each IsGateOrInstance merging.cells → Each IsGateOrInstance cells → Each IsGateOrInstance (after_cells start merging cells).cells
  merged_gates merging [] gates more = gates
  merged_gates merging (c ∷ cells) gates more =
      merged_gates (after_kind start merging c (merging_kind c)) cells (kind_gates merging c (merging_kind c) gates (more c (inl refl))) (λ d i. more d (inr i))

pub merge_gates : (m : Module) → HasGatesAlone m → HasGatesAlone (merge_of m)
merge_gates m gates = merged_gates (start_of m.wires m.processes) (record { cells = []; links = m.links }) m.cells (each_none IsGateOrInstance) gates

-- cells with other signals at their pins
pub mapped_gates : (f : Cell → Cell) (cells : List Cell) → ((c : Cell) → IsGateOrInstance c → IsGateOrInstance (f c)) → Each IsGateOrInstance cells → Each IsGateOrInstance (map f cells)
mapped_gates f cells same gates c i =
    let k = In-mapped f c cells i in
    subst IsGateOrInstance (sym k.2) (same k.0 (gates k.0 k.1))

marked_gates : (marks : List Bool) (cells : List Cell) → Each IsGateOrInstance cells → Each IsGateOrInstance (marked marks cells)
marked_gates [] cells gates = each_none IsGateOrInstance
marked_gates (t ∷ ts) [] gates = each_none IsGateOrInstance
marked_gates (t ∷ ts) (c ∷ cells) gates = by t (marked_gates ts cells (λ d i. gates d (inr i)))
  where
    by : (t : Bool) → Each IsGateOrInstance (marked ts cells) → Each IsGateOrInstance (if t then c ∷ marked ts cells else marked ts cells)
    by true later = each_more IsGateOrInstance c (marked ts cells) (gates c (inl refl)) later
    by false later = later

followed_same : (ports : Ports) (m : Module) (c : Cell) → IsGateOrInstance c → IsGateOrInstance (followed_cell ports m.links c)
unfolding cell_kind
followed_same ports m c gate = gate

moved_same : (marks : List Bool) (c : Cell) → IsGateOrInstance c → IsGateOrInstance (moved_cell marks c)
unfolding cell_kind
moved_same marks c gate = gate

pub clean_gates : (ports : Ports) (m : Module) → HasGatesAlone m → HasGatesAlone (clean_of ports m)
clean_gates ports m gates =
    mapped_gates (moved_cell (wire_marks (named_bits (reduced ports (followed ports m))) 0 (reduced ports (followed ports m)).wires)) (reduced ports (followed ports m)).cells (moved_same _)
    (marked_gates (kept_marks ports (followed ports m).wires (links_of (followed ports m).wires (followed ports m).links) (followed ports m).cells) (followed ports m).cells
    (mapped_gates (followed_cell ports m.links) m.cells (followed_same ports m) gates))
