-- What patterns give, one after another.
use Rattle.std.proofs.Common.{◌≡◌, ℕ, suc, ◌+◌, ◌<◌, List, [], ◌∷◌, ◌++◌, length, drop, get_or, sym, ◌∙◌, ap, subst, append_assoc, add-one}
use Rattle.std.proofs.Math.Seq.{drop-cons}
use Rattle.rtl_bits.specs.declared.bit.Bit.TheVariants.{S1}
use Rattle.rtl_sig.specs.declared.sig.SigBit.{SigBit}
use Rattle.rtl_sig.specs.declared.sig.SigBit.TheVariants.{Fixed}
use Rattle.rtl_ir.specs.Build.{Building}
use Rattle.net_index.specs.Builder.{PassesLimit}
use Rattle.net_model.specs.Proc.Mux.{asked_places, pattern_bit, pattern_bits}
use Rattle.match_cells.proofs.Growing.{Grows, equal_grows, grows_more, grows_none, over_later}

pub pattern_grows : (places : List (SigBit × SigBit)) (b : Building) → Grows b (pattern_bit places b).1
pattern_grows [] b = grows_none b
pattern_grows ((Fixed S1, s) ∷ []) b = grows_none b
pattern_grows places b = equal_grows places b

pub patterns_grow : (signal : List SigBit) (patterns : List (List SigBit)) (b : Building) → Grows b (pattern_bits signal patterns b).1
patterns_grow signal [] b = grows_none b
patterns_grow signal (p ∷ patterns) b =
    let first = pattern_bit (asked_places p signal) b in
    grows_more b first.1 (pattern_bits signal patterns first.1).1 (pattern_grows (asked_places p signal) b) (patterns_grow signal patterns first.1)

-- bits that are there already, before those that are given next
abbrev pub behind_bits : List SigBit → List SigBit × Building → List SigBit × Building
behind_bits bits r = (bits ++ r.0, r.1)

module _ (signal : List SigBit) (patterns : List (List SigBit)) (at : ℕ) (p : List SigBit) (h : at < length patterns) (e : p ≡ get_or patterns at p) where
  abbrev later : List (List SigBit)
  later = drop (suc at) patterns

  next : drop at patterns ≡ p ∷ later
  next = drop-cons patterns at p h ∙ ap (λ q. q ∷ later) (sym e)

  -- the bit of a pattern goes last
  pub pattern_goes : (bits bits' : List SigBit) (s : SigBit) (b b' : Building) (all : List SigBit × Building) → (s, b') ≡ pattern_bit (asked_places p signal) b → bits' ≡ bits ++ s ∷ [] → behind_bits bits (pattern_bits signal (drop at patterns) b) ≡ all → behind_bits bits' (pattern_bits signal (drop (at + 1) patterns) b') ≡ all
  pattern_goes bits bits' s b b' all made more so =
      let first = pattern_bit (asked_places p signal) b in
      let rest = pattern_bits signal later first.1 in
      let one : drop (at + 1) patterns ≡ later = ap (λ n. drop n patterns) (add-one at) in
      let front : bits' ≡ bits ++ first.0 ∷ [] = more ∙ ap (λ (r : SigBit × Building). bits ++ r.0 ∷ []) made in
      (λ i. behind_bits (front i) (pattern_bits signal (one i) (made i).1))
      ∙ ap (λ xs. (xs, rest.1)) (append_assoc bits (first.0 ∷ []) rest.0)
      ∙ ap (λ ps. behind_bits bits (pattern_bits signal ps b)) (sym next)
      ∙ so

  -- where the cells of a pattern pass a limit, those of all patterns do
  pub pattern_over : (bits : List SigBit) (b : Building) (all : List SigBit × Building) → behind_bits bits (pattern_bits signal (drop at patterns) b) ≡ all → (places : List (SigBit × SigBit)) → places ≡ asked_places p signal → PassesLimit (pattern_bit places b).1 → PassesLimit all.1
  pattern_over bits b all so places are over =
      let first = pattern_bit (asked_places p signal) b in
      let here : PassesLimit first.1 = subst (λ ps. PassesLimit (pattern_bit ps b).1) are over in
      subst PassesLimit (ap (λ ps. (pattern_bits signal ps b).1) (sym next) ∙ ap (λ (r : List SigBit × Building). r.1) so)
      (over_later first.1 (pattern_bits signal later first.1).1 (patterns_grow signal later first.1) here)
