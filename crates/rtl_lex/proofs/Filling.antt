-- Laws of the bits of a value.
use Rattle.std.proofs.Common.{◌≡◌, ℕ, zero, suc, ◌+◌, ◌-◌, ◌<◌, ◌≤◌, List, [], ◌∷◌, ◌++◌, length, take, get_or, map, reverse, refl, sym, ap, ◌∙◌, arith}
use Rattle.std.specs.Prelude.{replicate}
use Rattle.std.proofs.lemmas.List.{get_or-map, get_or-reverse, length-reverse, take-replicate}
use Rattle.rtl_bits.specs.declared.bit.Bit.{Bit}
use Rattle.rtl_lex.specs.Values.{bit_of, fill_of, fitted}

-- the written bit at a place, counted from the last written one
pub written_at : (written : List ℕ) (i : ℕ) (fill : Bit) → i < length written → get_or (map bit_of (reverse written)) i fill ≡ bit_of (get_or written (length written - 1 - i) 0)
written_at written i fill lt =
    get_or-map bit_of (reverse written) i 0 fill (omega (arith, length-reverse written)) ∙ ap bit_of (get_or-reverse written i 0 lt)

replicate_last : (n : ℕ) (bit : Bit) → replicate (suc n) bit ≡ replicate n bit ++ bit ∷ []
replicate_last zero bit = refl
replicate_last (suc n) bit = ap (λ (bits : List Bit). bit ∷ bits) (replicate_last n bit)

filled_more : (bits : List Bit) (fill : Bit) (k m n : ℕ) → k < m → k ≤ n → take (suc k) (bits ++ replicate m fill) ≡ take k (bits ++ replicate n fill) ++ get_or bits k fill ∷ []
filled_more [] fill k m n lt le =
    take-replicate (suc k) m fill (omega arith) ∙ replicate_last k fill ∙ ap (λ (bits : List Bit). bits ++ fill ∷ []) (sym (take-replicate k n fill le))
filled_more (bit ∷ bits) fill zero m n lt le = refl
filled_more (bit ∷ bits) fill (suc k) m n lt le = ap (λ (rest : List Bit). bit ∷ rest) (filled_more bits fill k m n (omega arith) (omega arith))

-- a value of one more bit
pub fitted_more : (written : List ℕ) (k : ℕ) → fitted (k + 1) written ≡ fitted k written ++ get_or (map bit_of (reverse written)) k (fill_of written) ∷ []
fitted_more written k =
    let one : k + 1 ≡ suc k = omega arith in
    ap (λ (j : ℕ). take j (map bit_of (reverse written) ++ replicate (k + 1) (fill_of written))) one ∙ filled_more (map bit_of (reverse written)) (fill_of written) k (k + 1) k (omega arith) (omega arith)
