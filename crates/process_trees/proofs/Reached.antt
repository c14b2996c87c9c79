-- What a walk through a whole tree finds is what the tree may give each bit last.
use Rattle.std.proofs.Common.{◌≡◌, ℕ, ◌<◌, ◌&&◌, true, List, [], ◌∷◌, ◌++◌, length, Some, Vec, Global, sym, ap, subst, ◌∙◌}
use Rattle.rtl_bits.specs.declared.bit.Bit.TheVariants.{X}
use Rattle.rtl_sig.specs.declared.sig.SigBit.{SigBit}
use Rattle.rtl_sig.specs.declared.sig.SigBit.TheVariants.{Fixed}
use Rattle.rtl_sig.specs.declared.sig.WireBit.{WireBit}
use Rattle.rtl_ir.specs.Tree.{CaseView}
use Rattle.process_trees.specs.declared.walk.Walk.{Walk}
use Rattle.process_trees.specs.Numbers.{AreNumbers, ByBit, number_in}
use Rattle.process_trees.specs.Reach.{if_kept, reach_case, reaching}
use Rattle.process_trees.specs.Walk.{HasRoom, Walked, sources_at, unset_at}
use Rattle.process_trees.proofs.Numbering.{stands_at}

pub reached : (numbers : ByBit ℕ) (root : CaseView) (bits : List WireBit) (begin walk : Walk) → AreNumbers numbers bits → HasRoom (length bits) begin
    → Walked numbers (λ b. reach_case b root) begin walk → ((k : ℕ) → sources_at begin.sources.items k ≡ []) → ((k : ℕ) → k < length bits → unset_at begin.unset.items k ≡ true)
    → (rows : List (Vec SigBit Global)) → ((k : ℕ) → k < length walk.sources.items → sources_at rows k ≡ sources_at walk.sources.items k ++ if_kept (unset_at walk.unset.items k) (Fixed X ∷ []))
    → (b : WireBit) (k : ℕ) → number_in bits b ≡ Some k → sources_at rows k ≡ reaching root b
reached numbers root bits begin walk are room walked none unset rows ended b k e =
    let g = walked.gains bits are room b k e in
    let below : k < length bits = (stands_at bits b k e).0 in
    let all : unset_at begin.unset.items k ≡ true = unset k below in
    ended k (subst (λ n. k < n) (sym (walked.room (length bits) room).sources) below)
    ∙ (λ i. (g.sources ∙ (λ j. none k j ++ if_kept (all j) (reach_case b root).sources)) i ++ if_kept ((g.unset ∙ ap (λ t. t && (reach_case b root).keeps) all) i) (Fixed X ∷ []))
