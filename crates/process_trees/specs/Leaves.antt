-- What the leaves of a value come to.
use Rattle.std.specs.Prelude.{Bool, false, ◌||◌, List, [], ◌∷◌, map, Option, Some, None, Vec, if◌then◌else◌}
use Rattle.std.specs.List.{list_all, list_any}
use Rattle.std.specs.declared.alloc.Global.{Global}
use Rattle.rtl_bits.specs.declared.bit.Bit.TheVariants.{X}
use Rattle.rtl_sig.specs.declared.sig.SigBit.{SigBit}
use Rattle.rtl_sig.specs.declared.sig.SigBit.TheVariants.{Fixed}
use Rattle.rtl_sig.specs.declared.sig.WireBit.{WireBit}
use Rattle.rtl_ir.specs.EventTests.{is_bit}
use Rattle.rtl_ir.specs.Signals.{same_place}
use Rattle.process_trees.specs.declared.summary.Summary.{Summary}

-- the one leaf that all are, where they are one
abbrev pub one_leaf : List SigBit → Option SigBit
one_leaf [] = None
one_leaf (s ∷ leaves) = if list_all (same_place s) leaves then Some s else None

-- a leaf is the bit that is asked for, if one is
abbrev pub is_asked : Option WireBit → SigBit → Bool
is_asked None s = false
is_asked (Some q) s = is_bit q s

-- what leaves come to
abbrev pub summary_of : Option WireBit → List SigBit → Summary
summary_of asked leaves = record { only = one_leaf leaves; asked = list_any (is_asked asked) leaves }

-- the one leaf of two lists that have one each
abbrev pub both : Option SigBit → Option SigBit → Option SigBit
both None b = None
both (Some s) None = None
both (Some s) (Some t) = if same_place s t then Some s else None

-- what two lists of leaves come to together
abbrev pub joined : Summary → Summary → Summary
joined a b = record { only = both a.only b.only; asked = a.asked || b.asked }

-- what sources come to after others, by what each of them comes to
abbrev pub joined_over : (SigBit → Summary) → Summary → List SigBit → Summary
joined_over f value [] = value
joined_over f value (s ∷ sources) = joined_over f (joined value (f s)) sources

-- what sources come to together, the constant x where there are none
abbrev pub sources_summary : (SigBit → Summary) → List SigBit → Summary
sources_summary f [] = f (Fixed X)
sources_summary f (s ∷ sources) = joined_over f (f s) sources

-- what each of some rows of sources comes to
abbrev pub rows_summaries : (SigBit → Summary) → List (Vec SigBit Global) → List Summary
rows_summaries f rows = map (λ (v : Vec SigBit Global). sources_summary f v.items) rows
