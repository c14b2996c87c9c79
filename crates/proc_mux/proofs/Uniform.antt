-- The lines name all bits of a run, or none of them.
use Rattle.std.proofs.Common.{◌≡◌, ℕ, ◌+◌, Bool, true, false, List, [], ◌∷◌, ◌++◌, if◌then◌else◌, refl, sym, ◌∙◌, ap, subst, inl, inr, ◌⊎◌, true≢false}
use Rattle.std.specs.Prelude.{◌&&◌, not, nat_lt}
use Rattle.std.proofs.lemmas.Bool.{and_parts}
use Rattle.rtl_sig.specs.declared.sig.WireBit.{WireBit}
use Rattle.rtl_ir.specs.declared.module.Link.{Link}
use Rattle.net_model.specs.Lists.{In}
use Rattle.net_model.specs.Within.{Each}
use Rattle.net_model.specs.Proc.Mux.{goes_on, names_bit, runs_behind, runs_of, same_lines}
use Rattle.proc_mux.proofs.Fitting.{AreEven}

-- a run and its last bit: each of these lines names all its bits as it names the last
abbrev EvenWith : List WireBit → WireBit → List Link → Type 0
EvenWith run last [] = Unit {0}
EvenWith run last (l ∷ ls) = ((b : WireBit) → In b run → names_bit b l ≡ names_bit last l) × EvenWith run last ls

even_is : (run : List WireBit) (last : WireBit) (ls : List Link) → EvenWith run last ls → AreEven run ls
even_is run last [] h = tt
even_is run last (l ∷ ls) h = ((names_bit last l, h.0), even_is run last ls h.1)

in_last : (run : List WireBit) (b c : WireBit) → In c (run ++ b ∷ []) → In c run ⊎ (c ≡ b)
in_last [] b c (inl e) = inr e
in_last [] b c (inr i) = absurd i
in_last (x ∷ run) b c (inl e) = inl (inl e)
in_last (x ∷ run) b c (inr i) = by (in_last run b c i)
  where
    by : In c run ⊎ (c ≡ b) → In c (x ∷ run) ⊎ (c ≡ b)
    by (inl j) = inl (inr j)
    by (inr e) = inr e

same_flags : (s t : Bool) → (if s then t else not t) ≡ true → s ≡ t
same_flags true true e = refl
same_flags true false e = absurd (true≢false (sym e))
same_flags false true e = absurd (true≢false (sym e))
same_flags false false e = refl

even_alone : (b : WireBit) (ls : List Link) → EvenWith (b ∷ []) b ls
even_alone b [] = tt
even_alone b (l ∷ ls) = (one, even_alone b ls)
  where
    one : (c : WireBit) → In c (b ∷ []) → names_bit c l ≡ names_bit b l
    one c (inl e) = ap (λ x. names_bit x l) e
    one c (inr i) = absurd i

even_longer : (run : List WireBit) (last b : WireBit) (ls : List Link) → same_lines ls last b ≡ true → EvenWith run last ls → EvenWith (run ++ b ∷ []) b ls
even_longer run last b [] e h = tt
even_longer run last b (l ∷ ls) e h =
    let p = and_parts _ _ e in
    (each (same_flags (names_bit last l) (names_bit b l) p.0), even_longer run last b ls p.1 h.1)
  where
    each : names_bit last l ≡ names_bit b l → (c : WireBit) → In c (run ++ b ∷ []) → names_bit c l ≡ names_bit b l
    each f c i = by (in_last run b c i)
      where
        by : In c run ⊎ (c ≡ b) → names_bit c l ≡ names_bit b l
        by (inl j) = h.0 c j ∙ f
        by (inr e) = ap (λ x. names_bit x l) e

runs_even : (lines : List Link) (run : List WireBit) (last : WireBit) (count : ℕ) (bits : List WireBit) → EvenWith run last lines → Each (λ r. AreEven r lines) (runs_behind lines run last count bits)
runs_even lines run last count [] h r (inl e) = subst (λ x. AreEven x lines) (sym e) (even_is run last lines h)
runs_even lines run last count [] h r (inr i) = absurd i
runs_even lines run last count (b ∷ bits) h r i =
    by (goes_on lines last b && nat_lt count 4096) refl (λ e. runs_even lines (run ++ b ∷ []) b (count + 1) bits (even_longer run last b lines (and_parts _ _ (and_parts _ _ (and_parts _ _ e).0).1).1 h)) (runs_even lines (b ∷ []) b 1 bits (even_alone b lines)) i
  where
    by : (t : Bool) → (goes_on lines last b && nat_lt count 4096) ≡ t
        → ((goes_on lines last b && nat_lt count 4096) ≡ true → Each (λ r. AreEven r lines) (runs_behind lines (run ++ b ∷ []) b (count + 1) bits))
        → Each (λ r. AreEven r lines) (runs_behind lines (b ∷ []) b 1 bits)
        → In r (if t then runs_behind lines (run ++ b ∷ []) b (count + 1) bits else run ∷ runs_behind lines (b ∷ []) b 1 bits) → AreEven r lines
    by true e on off j = on e r j
    by false e on off (inl q) = subst (λ x. AreEven x lines) (sym q) (even_is run last lines h)
    by false e on off (inr j) = off r j

pub runs_uniform : (lines : List Link) (bits : List WireBit) → Each (λ r. AreEven r lines) (runs_of lines bits)
runs_uniform lines [] r i = absurd i
runs_uniform lines (b ∷ bits) r i = runs_even lines (b ∷ []) b 1 bits (even_alone b lines) r i
