-- Words in parts of one width, place by place.
use Rattle.std.proofs.Common.{◌≡◌, ◌<◌, ◌≤◌, ℕ, zero, suc, ◌+◌, ◌*◌, List, [], ◌∷◌, ◌++◌, length, drop, take, Some, None, refl, sym, ◌∙◌, ap, arith, length-drop}
use Rattle.std.specs.Prelude.{flat_map, slice_get, slice_index_or}
use Rattle.std.proofs.lemmas.List.{get_or-append-add, get_or-drop, get_or-take, get_or_append_left}
use Rattle.rtl_sig.specs.declared.sig.SigBit.{SigBit}
use Rattle.net_model.specs.Fsm.Find.{parts_of}
use Rattle.fsm_laws.proofs.Numbers.{past_end}

-- a bit of a part is a bit of the whole
pub part_bit : (n width : ℕ) (signal : List SigBit) (j k : ℕ) (part : List SigBit) (d : SigBit) → slice_get (parts_of n width signal) j ≡ Some part → k < width → slice_index_or part k d ≡ slice_index_or signal (j * width + k) d
part_bit zero width signal j k part d e lt = absurd (cc)
part_bit (suc n) width [] j k part d e lt = absurd (cc)
part_bit (suc n) width (s ∷ signal) zero k part d e lt =
    let same : take width (s ∷ signal) ≡ part = cc in
    let place : k ≡ 0 * width + k = omega arith in
    ap (λ p. slice_index_or p k d) (sym same) ∙ get_or-take width (s ∷ signal) k d lt ∙ ap (λ p. slice_index_or (s ∷ signal) p d) place
part_bit (suc n) width (s ∷ signal) (suc j) k part d e lt =
    let place : width + (j * width + k) ≡ suc j * width + k = omega arith in
    part_bit n width (drop width (s ∷ signal)) j k part d e lt ∙ get_or-drop width (s ∷ signal) (j * width + k) d ∙ ap (λ p. slice_index_or (s ∷ signal) p d) place

-- where there is no part, the whole has ended
pub no_part : (n width : ℕ) (signal : List SigBit) (j : ℕ) → 0 < width → length signal ≤ n → slice_get (parts_of n width signal) j ≡ None → length signal ≤ j * width
no_part n width [] j some few e = omega arith
no_part zero width (s ∷ signal) j some few e = absurd (omega (arith, few))
no_part (suc n) width (s ∷ signal) zero some few e = absurd (cc)
no_part (suc n) width (s ∷ signal) (suc j) some few e =
    let left : length (drop width (s ∷ signal)) ≤ n = omega (arith, length-drop width (s ∷ signal), few, some) in
    let later : length (drop width (s ∷ signal)) ≤ j * width = no_part n width (drop width (s ∷ signal)) j some left e in
    omega (arith, later, length-drop width (s ∷ signal))

-- each part of a whole that is made of parts is as wide as they are
pub part_long : (n width : ℕ) (signal : List SigBit) (count : ℕ) → length signal ≡ count * width → (j : ℕ) (part : List SigBit) → slice_get (parts_of n width signal) j ≡ Some part → length part ≡ width
part_long zero width signal count e j part f = absurd (cc)
part_long (suc n) width [] count e j part f = absurd (cc)
part_long (suc n) width (s ∷ signal) zero e j part f = absurd (omega (arith, e))
part_long (suc n) width (s ∷ signal) (suc count) e zero part f =
    let same : take width (s ∷ signal) ≡ part = cc in
    ap length (sym same) ∙ taken width (s ∷ signal) (omega (arith, e))
  where
    taken : (w : ℕ) (xs : List SigBit) → w ≤ length xs → length (take w xs) ≡ w
    taken zero xs h = refl
    taken (suc w) [] h = absurd (omega (arith, h))
    taken (suc w) (x ∷ xs) h = ap suc (taken w xs (omega (arith, h)))
part_long (suc n) width (s ∷ signal) (suc count) e (suc j) part f =
    let left : length (drop width (s ∷ signal)) ≡ count * width = omega (arith, length-drop width (s ∷ signal), e) in
    part_long n width (drop width (s ∷ signal)) count left j part f

-- each of these is so wide
abbrev pub AreLong : ℕ → List (List SigBit) → Type 0
AreLong width parts = (j : ℕ) (part : List SigBit) → slice_get parts j ≡ Some part → length part ≡ width

-- a bit of parts one behind another
pub joined_bit : (width : ℕ) (parts : List (List SigBit)) → AreLong width parts → (j i : ℕ) (part : List SigBit) (d : SigBit) → slice_get parts j ≡ Some part → i < width → slice_index_or (flat_map (λ (s : List SigBit). s) parts) (j * width + i) d ≡ slice_index_or part i d
joined_bit width [] long j i part d e lt = absurd (cc)
joined_bit width (p ∷ parts) long zero i part d e lt =
    let same : p ≡ part = cc in
    let place : 0 * width + i ≡ i = omega arith in
    let inside : i < length p = omega (arith, lt, long 0 p refl) in
    ap (λ k. slice_index_or (p ++ flat_map (λ (s : List SigBit). s) parts) k d) place
    ∙ get_or_append_left p (flat_map (λ (s : List SigBit). s) parts) d i inside
    ∙ ap (λ q. slice_index_or q i d) same
joined_bit width (p ∷ parts) long (suc j) i part d e lt =
    let place : suc j * width + i ≡ length p + (j * width + i) = omega (arith, long 0 p refl) in
    ap (λ k. slice_index_or (p ++ flat_map (λ (s : List SigBit). s) parts) k d) place
    ∙ get_or-append-add p (flat_map (λ (s : List SigBit). s) parts) (j * width + i) d
    ∙ joined_bit width parts (λ k q f. long (suc k) q f) j i part d e lt

pub joined_long : (width : ℕ) (parts : List (List SigBit)) → AreLong width parts → length (flat_map (λ (s : List SigBit). s) parts) ≡ length parts * width
joined_long width [] long = omega arith
joined_long width (p ∷ parts) long =
    let here : length p ≡ width = long 0 p refl in
    let later : length (flat_map (λ (s : List SigBit). s) parts) ≡ length parts * width = joined_long width parts (λ k q f. long (suc k) q f) in
    length_both p (flat_map (λ (s : List SigBit). s) parts) ∙ omega (arith, here, later)
  where
    length_both : (xs ys : List SigBit) → length (xs ++ ys) ≡ length xs + length ys
    length_both [] ys = omega arith
    length_both (x ∷ xs) ys = let later : length (xs ++ ys) ≡ length xs + length ys = length_both xs ys in omega (arith, later)

none_past : {A : Type 0} (xs : List A) (j : ℕ) → slice_get xs j ≡ None → length xs ≤ j
none_past [] j e = omega arith
none_past (x ∷ xs) zero e = absurd (cc)
none_past (x ∷ xs) (suc j) e = let later = none_past xs j e in omega (arith, later)

-- where there is no part any more, the joined parts have ended
pub joined_end : (width : ℕ) (parts : List (List SigBit)) → AreLong width parts → (j i : ℕ) (d : SigBit) → slice_get parts j ≡ None → slice_index_or (flat_map (λ (s : List SigBit). s) parts) (j * width + i) d ≡ d
joined_end width parts long j i d e =
    past_end (flat_map (λ (s : List SigBit). s) parts) (j * width + i) d (past (length parts) (none_past parts j e) (joined_long width parts long))
  where
    past : (n : ℕ) → n ≤ j → length (flat_map (λ (s : List SigBit). s) parts) ≡ n * width → length (flat_map (λ (s : List SigBit). s) parts) ≤ j * width + i
    past n le is = let more : n * width ≤ j * width = times n j le in omega (arith, is, more)
      where
        times : (a b : ℕ) → a ≤ b → a * width ≤ b * width
        times zero b h = omega arith
        times (suc a) zero h = absurd (omega (arith, h))
        times (suc a) (suc b) h = let later = times a b (omega (arith, h)) in omega (arith, later)
