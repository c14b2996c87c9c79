-- What the tree bits of a process read of one another, by their numbers.
use Rattle.std.specs.Prelude.{◌≡◌, ◌⊎◌, ℕ, ◌<◌, List, [], ◌∷◌, ◌++◌, map, flat_map, Option, Some, None}
use Rattle.std.specs.HashMap.{get_by}
use Rattle.std.specs.Option.{option_to_list}
use Rattle.rtl_sig.specs.declared.sig.SigBit.{SigBit}
use Rattle.rtl_sig.specs.declared.sig.SigBit.TheVariants as sig
use Rattle.rtl_sig.specs.declared.sig.WireBit.{WireBit}
use Rattle.rtl_ir.specs.declared.module.Link.{Link}
use Rattle.rtl_ir.specs.Assigns.{assigned, left_bits}
use Rattle.rtl_ir.specs.Signals.{same_bit}
use Rattle.rtl_ir.specs.Tree.{Switches, NoSwitch, OneSwitch, Cases, NoCase, OneCase, CaseView, SwitchView}
use Rattle.process_trees.specs.Numbers.{ByBit, number_in}
use Rattle.process_check.specs.declared.readings.Edge.{Edge}
use Rattle.process_check.specs.Search.{In, followers}

-- the table has what the last of these assigns of each bit gives it
abbrev pub AreSources : ByBit SigBit → List Link → Type 0
AreSources sources assigns = (b : WireBit) → get_by (same_bit b) sources ≡ assigned assigns b

-- the number of a place of a signal, where it is one of these bits
abbrev pub number_at : List WireBit → SigBit → Option ℕ
number_at bits (sig.Fixed c) = None
number_at bits (sig.Wire b) = number_in bits b

-- the numbers of those places of a signal that are among these bits
abbrev pub numbers_in : List WireBit → List SigBit → List ℕ
numbers_in bits [] = []
numbers_in bits (s ∷ signal) = option_to_list (number_at bits s) ++ numbers_in bits signal

-- a bit reads another one
abbrev pub edge : ℕ → ℕ → Edge
edge from to = record { from = from; to = to }

-- a bit reads each of these
abbrev pub edges_to : ℕ → List ℕ → List Edge
edges_to from numbers = map (edge from) numbers

-- the same, where the bit has a number
abbrev pub edges_from : Option ℕ → List ℕ → List Edge
edges_from None numbers = []
edges_from (Some from) numbers = edges_to from numbers

-- what a bit reads that these assigns of a case name: what the last one gives it, and the signals of the switches around
abbrev pub bit_edges : List WireBit → List ℕ → List Link → WireBit → List Edge
bit_edges bits signals assigns b =
    edges_from (number_in bits b) (numbers_in bits (option_to_list (assigned assigns b)) ++ signals)

-- the same of a place of the left side of an assign
abbrev pub place_edges : List WireBit → List ℕ → List Link → SigBit → List Edge
place_edges bits signals assigns (sig.Fixed c) = []
place_edges bits signals assigns (sig.Wire b) = bit_edges bits signals assigns b

-- what the bits read that the assigns of a case name
abbrev pub assign_edges : List WireBit → List ℕ → List Link → List Edge
assign_edges bits signals assigns = flat_map (bit_edges bits signals assigns) (left_bits assigns)

abbrev mutual
  -- what bits read by these switches, where these are the numbers of the signals of the switches around
  pub switches_edges : List WireBit → List ℕ → Switches → List Edge
  switches_edges bits signals NoSwitch = []
  switches_edges bits signals (OneSwitch signal attributes cases rest) =
      cases_edges bits (signals ++ numbers_in bits signal) cases ++ switches_edges bits signals rest

  -- the same by these cases
  pub cases_edges : List WireBit → List ℕ → Cases → List Edge
  cases_edges bits signals NoCase = []
  cases_edges bits signals (OneCase patterns assigns attributes switches rest) =
      (assign_edges bits signals assigns ++ switches_edges bits signals switches) ++ cases_edges bits signals rest

-- the same by a case
abbrev pub case_edges : List WireBit → List ℕ → CaseView → List Edge
case_edges bits signals c = assign_edges bits signals c.assigns ++ switches_edges bits signals c.switches

-- the same by a switch
abbrev pub switch_edges : List WireBit → List ℕ → SwitchView → List Edge
switch_edges bits signals s = cases_edges bits (signals ++ numbers_in bits s.signal) s.cases

-- one of these edges leads from one number to another
abbrev pub HasEdge : ℕ → ℕ → List Edge → Type 0
HasEdge i j [] = ⊥
HasEdge i j (e ∷ es) = ((e.from ≡ i) × (e.to ≡ j)) ⊎ HasEdge i j es

-- each edge leads from one of so many numbers to another
abbrev pub AreBetween : ℕ → List Edge → Type 0
AreBetween count edges = (i j : ℕ) → HasEdge i j edges → (i < count) × (j < count)

-- what follows a place of a graph is what these edges lead to from it
pub record HasEdges (graph : List (List ℕ)) (edges : List Edge) : Type 0 where
  pub sound : (i j : ℕ) → In j (followers graph i) → HasEdge i j edges
  pub complete : (i j : ℕ) → HasEdge i j edges → In j (followers graph i)
