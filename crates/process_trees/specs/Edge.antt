-- The bit of an edge, as contracts see it.
use Rattle.std.specs.Prelude.{Bool, List, [], ◌∷◌, Option, Some, None}
use Rattle.rtl_sig.specs.declared.sig.SigBit.{SigBit}
use Rattle.rtl_sig.specs.declared.sig.SigBit.TheVariants as sig
use Rattle.rtl_ir.specs.Faults.TwoEdges as edges
use Rattle.process_trees.specs.declared.edge.EdgeBit.{EdgeBit}

-- the bit of an edge, as the definitions have it
abbrev pub edge_as : EdgeBit → edges.EdgeBit
edge_as e = record { bit = e.bit; level = e.level }

-- the edge to a level of a signal that is one bit of a wire
abbrev pub one_edge : List SigBit → Bool → Option edges.EdgeBit
one_edge (sig.Wire b ∷ []) level = Some (record { bit = b; level = level })
one_edge signal level = None
