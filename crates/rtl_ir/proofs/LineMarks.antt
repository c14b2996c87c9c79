-- What a line may follow, line by line of its rule.
use Rattle.std.proofs.Common.{◌≡◌, ℕ, zero, suc, ◌+◌, ◌<◌, ◌≤◌, min, Bool, true, false, List, [], ◌∷◌, length, drop, get_or, Option, Some, None, add-one, refl, sym, ◌∙◌, ap, arith}
use Rattle.std.specs.Prelude.{◌||◌}
use Rattle.std.proofs.Math.Seq.{drop-cons}
use Rattle.rtl_bits.specs.declared.bit.Bit.{Bit}
use Rattle.rtl_ir.specs.Flat.Access.{line_follows}

or_same : (a b : Bool) → (a || b) ≡ ((a || false) || b)
or_same true b = refl
or_same false b = refl

follows_more : (k : ℕ) (o : Option ℕ) (os : List (Option ℕ)) (b : Bit) (bs : List Bit) → line_follows k (o ∷ os) (b ∷ bs) ≡ (line_follows k (o ∷ []) (b ∷ []) || line_follows k os bs)
follows_more k None os b bs = refl
follows_more k (Some p) os b bs = or_same _ (line_follows k os bs)

or_turn : (f old rest : Bool) → ((f || old) || rest) ≡ (old || (f || rest))
or_turn true true rest = refl
or_turn true false rest = refl
or_turn false true rest = refl
or_turn false false rest = refl

-- an element that is there, by any default
pub get_any : {A : Type 0} (xs : List A) (i : ℕ) (d e : A) → i < length xs → get_or xs i d ≡ get_or xs i e
get_any [] i d e h = absurd (omega arith)
get_any (x ∷ xs) zero d e h = refl
get_any (x ∷ xs) (suc i) d e h = get_any xs i d e (omega arith)

-- one more line, at a place
pub mark_goes : (k : ℕ) (lines : List (Option ℕ)) (mask : List Bit) (at : ℕ) (n d : Option ℕ) (b c : Bit) → at < length lines → at < length mask → n ≡ get_or lines at d → b ≡ get_or mask at c → (old new total : Bool)
    → new ≡ (line_follows k (n ∷ []) (b ∷ []) || old) → (old || line_follows k (drop at lines) (drop at mask)) ≡ total
    → (new || line_follows k (drop (at + 1) lines) (drop (at + 1) mask)) ≡ total
mark_goes k lines mask at n d b c h g e f old new total made so =
    let one : drop at lines ≡ n ∷ drop (at + 1) lines = drop-cons lines at d h ∙ (λ i. sym e i ∷ drop (sym (add-one at) i) lines) in
    let two : drop at mask ≡ b ∷ drop (at + 1) mask = drop-cons mask at c g ∙ (λ i. sym f i ∷ drop (sym (add-one at) i) mask) in
    let rest : Bool = line_follows k (drop (at + 1) lines) (drop (at + 1) mask) in
    ap (λ t. t || rest) made
    ∙ or_turn (line_follows k (n ∷ []) (b ∷ [])) old rest
    ∙ ap (λ t. old || t) (sym (follows_more k n (drop (at + 1) lines) b (drop (at + 1) mask)))
    ∙ (λ i. old || line_follows k (sym one i) (sym two i))
    ∙ so

-- behind the end of lines, or of the mask, nothing follows
none_left : (k : ℕ) (lines : List (Option ℕ)) (mask : List Bit) (at : ℕ) → min (length lines) (length mask) ≤ at → line_follows k (drop at lines) (drop at mask) ≡ false
none_left k [] mask zero h = refl
none_left k [] mask (suc at) h = refl
none_left k (n ∷ lines) [] zero h = refl
none_left k (n ∷ lines) [] (suc at) h = by (drop at lines)
  where
    by : (ns : List (Option ℕ)) → line_follows k ns [] ≡ false
    by [] = refl
    by (m ∷ ns) = refl
none_left k (n ∷ lines) (b ∷ mask) zero h = absurd (omega arith)
none_left k (n ∷ lines) (b ∷ mask) (suc at) h = none_left k lines mask at (omega arith)

or_none : (a : Bool) → a ≡ (a || false)
or_none true = refl
or_none false = refl

pub marks_end : (k : ℕ) (lines : List (Option ℕ)) (mask : List Bit) (at : ℕ) → min (length lines) (length mask) ≤ at → (mark total : Bool) → (mark || line_follows k (drop at lines) (drop at mask)) ≡ total → mark ≡ total
marks_end k lines mask at h mark total so =
    or_none mark ∙ ap (λ t. mark || t) (sym (none_left k lines mask at h)) ∙ so
