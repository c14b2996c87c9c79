-- The value of a decision by what its leaves have, and that it is what the flat netlist picks.
use Rattle.std.proofs.Common.{◌≡◌, List, [], ◌∷◌, None, refl, ◌∙◌, ap}
use Rattle.rtl_bits.specs.declared.bit.Bit.{Bit}
use Rattle.rtl_ir.specs.Decisions.{Branches, Choice, Decision, Leaf, NoBranch, OneBranch}
use Rattle.rtl_ir.specs.Flat.Pick.{Pick, no_test, pick_of, picks_of}
use Rattle.rtl_ir.specs.Flat.Point.{Point, point}
use Rattle.rtl_sig.specs.declared.sig.SigBit.{SigBit}
use Rattle.net_model.specs.Picked.{chosen_of, picked_by}
use Rattle.mux_laws.proofs.MatchBits.{any_matched}
use Rattle.build_laws.proofs.Moments.{Moment, seen}

module _ (m : Moment) (leaf : SigBit → Bit) where
  abbrev mutual
    -- the value of a decision whose leaves have these values
    pub read_by : Decision → Bit
    read_by (Leaf s) = leaf s
    read_by (Choice signal branches last) = read_branches signal branches (read_by last)

    -- the value of the branches of a choice, with a last value
    pub read_branches : List SigBit → Branches → Bit → Bit
    read_branches signal NoBranch last = last
    read_branches signal (OneBranch [] value rest) last = read_by value
    read_branches signal (OneBranch (p ∷ patterns) value rest) last =
        chosen_of (any_matched m signal (p ∷ patterns)) (read_by value) (read_branches signal rest last)

-- the value of a decision over the valuation
abbrev pub decided : Moment → Decision → Bit
decided m d = read_by m (seen m) d

-- the value of the branches of a choice over the valuation, with the last value of a decision
abbrev pub branched : Moment → List SigBit → Branches → Decision → Bit
branched m signal branches last = read_branches m (seen m) signal branches (read_by m (seen m) last)

module _ (m : Moment) (leaf : Point → Bit) (reset : Bit) where
  mutual
    -- what is picked by a decision
    pub picked_is : (d : Decision) → picked_by leaf m.has reset (pick_of no_test m.path m.wires d) ≡ read_by m (λ s. leaf (point m.path m.wires s)) d
    picked_is (Leaf s) = refl
    picked_is (Choice signal branches last) =
        picked_branches signal branches (pick_of no_test m.path m.wires last)
        ∙ ap (read_branches m (λ s. leaf (point m.path m.wires s)) signal branches) (picked_is last)

    picked_branches : (signal : List SigBit) (branches : Branches) (last : Pick) → picked_by leaf m.has reset (picks_of no_test m.path m.wires None signal branches last) ≡ read_branches m (λ s. leaf (point m.path m.wires s)) signal branches (picked_by leaf m.has reset last)
    picked_branches signal NoBranch last = refl
    picked_branches signal (OneBranch [] value rest) last = picked_is value
    picked_branches signal (OneBranch (p ∷ patterns) value rest) last =
        λ i. chosen_of (any_matched m signal (p ∷ patterns)) (picked_is value i) (picked_branches signal rest last i)
