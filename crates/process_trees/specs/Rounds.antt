-- Tree bits, each by those that it may be given: round by round, as often as there are tree bits.
use Rattle.std.specs.Prelude.{◌≡◌, ℕ, List, [], ◌∷◌, length, map, slice_index_or, Option, Some}
use Rattle.std.specs.Option.{option_map_or}
use Rattle.rtl_sig.specs.declared.sig.SigBit.{SigBit}
use Rattle.rtl_sig.specs.declared.sig.SigBit.TheVariants.{Fixed, Wire as OnWire}
use Rattle.rtl_sig.specs.declared.sig.WireBit.{WireBit}
use Rattle.rtl_ir.specs.Decisions.{expanded_within, leaves_of}
use Rattle.rtl_ir.specs.Tree.{CaseView}
use Rattle.process_trees.specs.declared.leaves.Leaves.{Leaves}
use Rattle.process_trees.specs.declared.summary.Summary.{Summary}
use Rattle.process_trees.specs.Leaves.{summary_of}
use Rattle.process_trees.specs.Numbers.{AreNumbers, number_in}

-- what a leaf comes to, where these are the summaries of the tree bits
abbrev pub leaf_summary : Option WireBit → List WireBit → List Summary → SigBit → Summary
leaf_summary asked bits values (Fixed c) = summary_of asked (Fixed c ∷ [])
leaf_summary asked bits values (OnWire b) =
    option_map_or (λ k. slice_index_or values k (summary_of asked (OnWire b ∷ []))) (number_in bits b) (summary_of asked (OnWire b ∷ []))

-- the tree bits by themselves
abbrev pub first_summaries : Option WireBit → List WireBit → List Summary
first_summaries asked bits = map (λ b. summary_of asked (OnWire b ∷ [])) bits

-- these are the summaries of the tree bits, expanded so many times
abbrev pub AreAfter : Option WireBit → CaseView → List WireBit → ℕ → List Summary → Type 0
AreAfter asked root bits n values =
    (b : WireBit) (k : ℕ) → number_in bits b ≡ Some k → (other : Summary) → slice_index_or values k other ≡ summary_of asked (leaves_of (expanded_within root bits n (OnWire b)))

-- the table is that of the tree bits of a root, whose switches are read by the rules
pub record AreLeaves (leaves : Leaves) (root : CaseView) (bits : List WireBit) : Type 0 where
  pub numbers : AreNumbers leaves.numbers bits
  pub summaries : AreAfter leaves.asked root bits (length bits) leaves.summaries.items
