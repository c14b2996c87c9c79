-- What bits that count have in common.
use Rattle.std.proofs.Common.{◌≡◌, ◌++◌, List, [], ◌∷◌, Option, Some, None, refl, sym, ◌∙◌, ap}
use Rattle.std.specs.Prelude.{unwrap_or}
use Rattle.rtl_bits.specs.declared.bit.Bit.{Bit}
use Rattle.rtl_bits.specs.declared.bit.Bit.TheVariants.{S0, S1, X, Z, M, Dash}
use Rattle.rtl_bits.specs.Tables.{merge_of, or_of, seen_of}
use Rattle.net_model.specs.Race.{common_of, raced_of, unless_certain, unless_impossible}
use Rattle.sim_eval.specs.Race.{common_option}

-- what there is in common, or x
unwrapped : (bits : List Bit) → unwrap_or (common_option bits) X ≡ common_of bits
unwrapped [] = refl
unwrapped (b ∷ bits) = refl

-- a bit that counts stands before those behind it
counts : (edge : Bit) → (edge ≡ S0 → ⊥) → (bits : List Bit) → unless_impossible edge bits ≡ bits
counts S0 h bits = absurd (h refl)
counts S1 h bits = refl
counts X h bits = refl
counts Z h bits = refl
counts M h bits = refl
counts Dash h bits = refl

pub unless_none : (edge b common : Bit) (bits : List Bit) → (edge ≡ S0 → ⊥) → None ≡ common_option bits → Some (seen_of b) ≡ common_option (unless_impossible edge (b ∷ []) ++ bits)
unless_none edge b common [] h e = ap (λ z. common_option (z ++ [])) (sym (counts edge h (b ∷ [])))
unless_none edge b common (c ∷ bits) h e = absurd (cc)

pub unless_some : (edge b common : Bit) (bits : List Bit) → (edge ≡ S0 → ⊥) → Some common ≡ common_option bits → Some (merge_of b common) ≡ common_option (unless_impossible edge (b ∷ []) ++ bits)
unless_some edge b common [] h e = absurd (cc)
unless_some edge b common (c ∷ bits) h e =
    let is : common ≡ common_of (c ∷ bits) = cc in
    ap (λ z. Some (merge_of b z)) is ∙ ap (λ z. common_option (z ++ (c ∷ bits))) (sym (counts edge h (b ∷ [])))

-- the two values of the clock's edge count together
together : (clock was is : Bit) (bits : List Bit) → unless_impossible clock (was ∷ []) ++ (unless_impossible clock (is ∷ []) ++ bits) ≡ unless_impossible clock (was ∷ is ∷ []) ++ bits
together S0 was is bits = refl
together S1 was is bits = refl
together X was is bits = refl
together Z was is bits = refl
together M was is bits = refl
together Dash was is bits = refl

pub raced_common : (clock reset was is active old : Bit) (common : Option Bit) → common ≡ common_option (unless_impossible clock (was ∷ []) ++ (unless_impossible clock (is ∷ []) ++ (unless_impossible reset (active ∷ []) ++ unless_certain (or_of clock reset) (old ∷ [])))) → unwrap_or common X ≡ raced_of clock reset was is active old
raced_common clock reset was is active old common e =
    let bits = unless_impossible reset (active ∷ []) ++ unless_certain (or_of clock reset) (old ∷ []) in
    ap (λ z. unwrap_or z X) e
    ∙ (unwrapped (unless_impossible clock (was ∷ []) ++ (unless_impossible clock (is ∷ []) ++ bits))
    ∙ ap common_of (together clock was is bits))
