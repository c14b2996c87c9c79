-- What is so of each leaf of a decision.
use Rattle.std.proofs.Common.{◌≡◌, List, [], ◌∷◌, refl, ◌∙◌, ap}
use Rattle.rtl_bits.specs.Knowledge.{Below}
use Rattle.rtl_bits.specs.declared.bit.Bit.{Bit}
use Rattle.rtl_bits.specs.declared.bit.Bit.TheVariants.{S0, S1}
use Rattle.rtl_bits.proofs.Tables.{merge_of_mono}
use Rattle.rtl_ir.specs.Decisions.{Branches, Choice, Decision, Leaf, NoBranch, OneBranch, branches_with_leaves, with_leaves}
use Rattle.rtl_sig.specs.declared.sig.SigBit.{SigBit}
use Rattle.net_model.specs.Picked.{chosen_of}
use Rattle.mux_laws.proofs.MatchBits.{any_matched}
use Rattle.mux_laws.proofs.TreeRead.{read_branches, read_by}
use Rattle.build_laws.proofs.Moments.{Moment}

module _ (P : SigBit → Type 0) where
  abbrev mutual
    -- it is so of each leaf
    pub EachLeaf : Decision → Type 0
    EachLeaf (Leaf s) = P s
    EachLeaf (Choice signal branches last) = EachBranchLeaf branches × EachLeaf last

    pub EachBranchLeaf : Branches → Type 0
    EachBranchLeaf NoBranch = Unit {0}
    EachBranchLeaf (OneBranch patterns value rest) = EachLeaf value × EachBranchLeaf rest

module _ (P Q : SigBit → Type 0) where
  module _ (f : (s : SigBit) → P s → Q s) where
    mutual
      pub leaves_map : (d : Decision) → EachLeaf P d → EachLeaf Q d
      leaves_map (Leaf s) h = f s h
      leaves_map (Choice signal branches last) h = (branch_leaves_map branches h.0, leaves_map last h.1)

      branch_leaves_map : (branches : Branches) → EachBranchLeaf P branches → EachBranchLeaf Q branches
      branch_leaves_map NoBranch h = tt
      branch_leaves_map (OneBranch patterns value rest) h = (leaves_map value h.0, branch_leaves_map rest h.1)

  -- where each leaf is replaced
  module _ (f : SigBit → Decision) (g : (s : SigBit) → P s → EachLeaf Q (f s)) where
    mutual
      pub leaves_replaced : (d : Decision) → EachLeaf P d → EachLeaf Q (with_leaves f d)
      leaves_replaced (Leaf s) h = g s h
      leaves_replaced (Choice signal branches last) h = (branch_leaves_replaced branches h.0, leaves_replaced last h.1)

      branch_leaves_replaced : (branches : Branches) → EachBranchLeaf P branches → EachBranchLeaf Q (branches_with_leaves f branches)
      branch_leaves_replaced NoBranch h = tt
      branch_leaves_replaced (OneBranch patterns value rest) h = (leaves_replaced value h.0, branch_leaves_replaced rest h.1)

-- a choice keeps the order of its two bits
pub chosen_keeps : (c a b a' b' : Bit) → Below a a' → Below b b' → Below (chosen_of c a b) (chosen_of c a' b')
chosen_keeps S1 a b a' b' h k = h
chosen_keeps S0 a b a' b' h k = k
chosen_keeps c a b a' b' h k = merge_of_mono a a' b b' h k

module _ (m : Moment) where
  -- the value of a decision keeps the order of its leaves
  module _ (g h : SigBit → Bit) where
    mutual
      pub read_keeps : (d : Decision) → EachLeaf (λ s. Below (g s) (h s)) d → Below (read_by m g d) (read_by m h d)
      read_keeps (Leaf s) i = i
      read_keeps (Choice signal branches last) i = branches_keep signal branches (read_by m g last) (read_by m h last) i.0 (read_keeps last i.1)

      branches_keep : (signal : List SigBit) (branches : Branches) (a b : Bit) → EachBranchLeaf (λ s. Below (g s) (h s)) branches → Below a b → Below (read_branches m g signal branches a) (read_branches m h signal branches b)
      branches_keep signal NoBranch a b i e = e
      branches_keep signal (OneBranch [] value rest) a b i e = read_keeps value i.0
      branches_keep signal (OneBranch (p ∷ patterns) value rest) a b i e =
          chosen_keeps (any_matched m signal (p ∷ patterns)) _ _ _ _ (read_keeps value i.0) (branches_keep signal rest a b i.1 e)

  -- a decision whose leaves are replaced, by what they are replaced with
  module _ (g : SigBit → Bit) (f : SigBit → Decision) where
    mutual
      pub read_replaced : (d : Decision) → read_by m g (with_leaves f d) ≡ read_by m (λ s. read_by m g (f s)) d
      read_replaced (Leaf s) = refl
      read_replaced (Choice signal branches last) =
          branches_replaced signal branches (read_by m g (with_leaves f last))
          ∙ ap (read_branches m (λ s. read_by m g (f s)) signal branches) (read_replaced last)

      branches_replaced : (signal : List SigBit) (branches : Branches) (a : Bit) → read_branches m g signal (branches_with_leaves f branches) a ≡ read_branches m (λ s. read_by m g (f s)) signal branches a
      branches_replaced signal NoBranch a = refl
      branches_replaced signal (OneBranch [] value rest) a = read_replaced value
      branches_replaced signal (OneBranch (p ∷ patterns) value rest) a =
          λ i. chosen_of (any_matched m signal (p ∷ patterns)) (read_replaced value i) (branches_replaced signal rest a i)

-- what follows from two facts of a leaf
module _ (P Q R : SigBit → Type 0) (f : (s : SigBit) → P s → Q s → R s) where
  mutual
    pub leaves_all : (d : Decision) → EachLeaf P d → EachLeaf Q d → EachLeaf R d
    leaves_all (Leaf s) h k = f s h k
    leaves_all (Choice signal branches last) h k = (branch_leaves_all branches h.0 k.0, leaves_all last h.1 k.1)

    branch_leaves_all : (branches : Branches) → EachBranchLeaf P branches → EachBranchLeaf Q branches → EachBranchLeaf R branches
    branch_leaves_all NoBranch h k = tt
    branch_leaves_all (OneBranch patterns value rest) h k = (leaves_all value h.0 k.0, branch_leaves_all rest h.1 k.1)

-- what is so of any leaf
module _ (P : SigBit → Type 0) (f : (s : SigBit) → P s) where
  mutual
    pub leaves_any : (d : Decision) → EachLeaf P d
    leaves_any (Leaf s) = f s
    leaves_any (Choice signal branches last) = (branch_leaves_any branches, leaves_any last)

    branch_leaves_any : (branches : Branches) → EachBranchLeaf P branches
    branch_leaves_any NoBranch = tt
    branch_leaves_any (OneBranch patterns value rest) = (leaves_any value, branch_leaves_any rest)
