-- Sources one after another.
use Rattle.std.proofs.Common.{◌≡◌, ℕ, suc, ◌+◌, ◌<◌, ◌≤◌, List, [], ◌∷◌, length, drop, get_or, Some, add-one, sym, ap, ◌∙◌}
use Rattle.std.specs.Prelude.{slice_get}
use Rattle.std.proofs.Math.Seq.{drop-cons}
use Rattle.std.proofs.lemmas.List.{drop_all}
use Rattle.rtl_sig.specs.declared.sig.SigBit.{SigBit}
use Rattle.process_trees.specs.declared.summary.Summary.{Summary}
use Rattle.process_trees.specs.Leaves.{joined, joined_over, sources_summary}

pub together_begin : (f : SigBit → Summary) (sources : List SigBit) (s : SigBit) → slice_get sources 0 ≡ Some s → joined_over f (f s) (drop 1 sources) ≡ sources_summary f sources
together_begin f [] s e = absurd cc
together_begin f (x ∷ xs) s e = let same : x ≡ s = cc in ap (λ y. joined_over f (f y) xs) (sym same)

pub together_next : (f : SigBit → Summary) (sources : List SigBit) (at : ℕ) (d : SigBit) → at < length sources → (value all : Summary)
    → joined_over f value (drop at sources) ≡ all → joined_over f (joined value (f (get_or sources at d))) (drop (at + 1) sources) ≡ all
together_next f sources at d h value all so =
    let next : suc at ≡ at + 1 = sym (add-one at) in
    sym (ap (joined_over f value) (drop-cons sources at d h ∙ ap (λ n. get_or sources at d ∷ drop n sources) next)) ∙ so

pub together_end : (f : SigBit → Summary) (sources : List SigBit) (at : ℕ) → length sources ≤ at → (value all : Summary) → joined_over f value (drop at sources) ≡ all → value ≡ all
together_end f sources at h value all so = ap (joined_over f value) (sym (drop_all at sources h)) ∙ so
