-- Places of update lines with the constants that a reset gives them, as contracts see them.
use Rattle.std.specs.Prelude.{Bool, List, [], ◌∷◌, map, Option, Some, None}
use Rattle.rtl_sig.specs.declared.sig.SigBit.{SigBit}
use Rattle.rtl_sig.specs.declared.sig.SigBit.TheVariants.{Fixed, Wire as OnWire}
use Rattle.rtl_sig.specs.declared.sig.WireBit.{WireBit}
use Rattle.rtl_ir.specs.declared.module.Link.{Link}
use Rattle.rtl_ir.specs.Decisions.{expanded, leaves_of}
use Rattle.rtl_ir.specs.Faults.TwoEdges.{are_all}
use Rattle.rtl_ir.specs.Follow.{joins}
use Rattle.rtl_ir.specs.declared.follow.Join.{Join}
use Rattle.rtl_ir.specs.Tree.{CaseView}
use Rattle.net_model.specs.Proc.Reset.{line_of_places, reset_places}
use Rattle.proc_reset.specs.declared.places.Place.{Place}

-- a place
abbrev pub join_of : Place → Join
join_of p = record { bit = p.bit; source = p.source }

-- places
abbrev pub joins_of : List Place → List Join
joins_of ps = map join_of ps

-- both sides of places
abbrev pub left_side : List Join → List SigBit
left_side js = map (λ (j : Join). OnWire j.bit) js

abbrev pub right_side : List Join → List SigBit
right_side js = map (λ (j : Join). j.source) js

-- the leaves of the value of a place, below a root that drives these tree bits
abbrev pub leaves_at : CaseView → List WireBit → Join → List SigBit
leaves_at root bits j = leaves_of (expanded root bits j.source)

-- a place keeps its bit's value, whatever the decisions
abbrev pub is_held : CaseView → List WireBit → Join → Bool
is_held root bits j = are_all j.bit (leaves_at root bits j)

-- the constant, where leaves that are one are one
abbrev pub one_constant : Option SigBit → Option SigBit
one_constant None = None
one_constant (Some (Fixed c)) = Some (Fixed c)
one_constant (Some (OnWire b)) = None

-- a place with a constant, where there is one
abbrev pub given_place : WireBit → Option SigBit → List Join
given_place b None = []
given_place b (Some s) = record { bit = b; source = s } ∷ []

-- the line of the places of a line that a reset sets, where there are any
abbrev pub reset_line : CaseView → List WireBit → Link → List Link
reset_line root bits line = line_of_places (reset_places (leaves_at root bits) (joins line.left line.right))
