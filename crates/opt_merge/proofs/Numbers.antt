-- Traits with one row of numbers are one.
use Rattle.std.proofs.Common.{◌≡◌, ℕ, zero, suc, Bool, true, false, List, [], ◌∷◌, ◌++◌, length, map, append_assoc, refl, sym, ◌∙◌, ap, arith}
use Rattle.std.specs.List.{flat_map}
use Rattle.std.proofs.lemmas.List.{append-nil}
use Rattle.rtl_bits.specs.declared.bit.Bit.{Bit}
use Rattle.rtl_bits.specs.declared.bit.Bit.TheVariants.{S0, S1, X, Z, M, Dash}
use Rattle.rtl_sig.specs.declared.sig.SigBit.TheVariants.{Fixed, Wire as OnWire}
use Rattle.cell_types.specs.declared.level.Level.{Level}
use Rattle.cell_types.specs.declared.level.Level.TheVariants.{Low, High}
use Rattle.cell_types.specs.declared.shape.Shape.{Shape}
use Rattle.opt_merge.specs.Rows.{bits_numbers, lists_numbers, place_numbers, row_of, signal_numbers, signals_numbers, sized}
use Rattle.opt_merge.specs.Traits.{Traits, bit_number, flag_number, level_number, plain_numbers, shape_numbers}

-- what a number stands for
bit_back : ℕ → Bit
bit_back zero = S0
bit_back (suc zero) = S1
bit_back (suc (suc zero)) = X
bit_back (suc (suc (suc zero))) = Z
bit_back (suc (suc (suc (suc zero)))) = M
bit_back (suc (suc (suc (suc (suc n))))) = Dash

back_of_bit : (b : Bit) → bit_back (bit_number b) ≡ b
unfolding bit_back
back_of_bit S0 = refl
back_of_bit S1 = refl
back_of_bit X = refl
back_of_bit Z = refl
back_of_bit M = refl
back_of_bit Dash = refl

pub bit_inj : (a b : Bit) → bit_number a ≡ bit_number b → a ≡ b
bit_inj a b e = sym (back_of_bit a) ∙ ap bit_back e ∙ back_of_bit b

pub flag_inj : (a b : Bool) → flag_number a ≡ flag_number b → a ≡ b
flag_inj true true e = refl
flag_inj false false e = refl
flag_inj true false e = absurd (omega (arith, e))
flag_inj false true e = absurd (omega (arith, e))

pub level_inj : (a b : Level) → level_number a ≡ level_number b → a ≡ b
level_inj Low Low e = refl
level_inj High High e = refl
level_inj Low High e = absurd (omega (arith, e))
level_inj High Low e = absurd (omega (arith, e))

map_back : (bs : List Bit) → map bit_back (map bit_number bs) ≡ bs
map_back [] = refl
map_back (b ∷ bs) = (λ i. back_of_bit b i ∷ map_back bs i)

pub bits_inj : (xs bs : List Bit) → map bit_number xs ≡ map bit_number bs → xs ≡ bs
bits_inj xs bs e = sym (map_back xs) ∙ ap (map bit_back) e ∙ map_back bs

-- two lists behind one another are told apart by the length of the first
pub append_parts : {A : Type 0} (xs ys r s : List A) → length xs ≡ length ys → xs ++ r ≡ ys ++ s → (xs ≡ ys) × (r ≡ s)
append_parts [] [] r s n e = (refl, e)
append_parts [] (y ∷ ys) r s n e = absurd (omega (arith, n))
append_parts (x ∷ xs) [] r s n e = absurd (omega (arith, n))
append_parts (x ∷ xs) (y ∷ ys) r s n e =
    let head : x ≡ y = cc in
    let tail : xs ++ r ≡ ys ++ s = cc in
    let rest = append_parts xs ys r s (omega (arith, n)) tail in
    (λ i. head i ∷ rest.0 i, rest.1)

pub sized_parts : (xs ys r s : List ℕ) → sized xs ++ r ≡ sized ys ++ s → (xs ≡ ys) × (r ≡ s)
sized_parts xs ys r s e =
    let head : length xs ≡ length ys = cc in
    let tail : xs ++ r ≡ ys ++ s = cc in
    append_parts xs ys r s head tail

-- what is written so that its end shows
abbrev Parts : {A : Type 0} → (A → List ℕ) → Type 0
Parts {A} write = (x y : A) (r s : List ℕ) → write x ++ r ≡ write y ++ s → (x ≡ y) × (r ≡ s)

many_parts : {A : Type 0} (write : A → List ℕ) → Parts write → (xs ys : List A) (r s : List ℕ) → length xs ≡ length ys → flat_map write xs ++ r ≡ flat_map write ys ++ s → (xs ≡ ys) × (r ≡ s)
many_parts write parts [] [] r s n e = (refl, e)
many_parts write parts [] (y ∷ ys) r s n e = absurd (omega (arith, n))
many_parts write parts (x ∷ xs) [] r s n e = absurd (omega (arith, n))
many_parts write parts (x ∷ xs) (y ∷ ys) r s n e =
    let one = parts x y (flat_map write xs ++ r) (flat_map write ys ++ s) (sym (append_assoc (write x) (flat_map write xs) r) ∙ e ∙ append_assoc (write y) (flat_map write ys) s) in
    let rest = many_parts write parts xs ys r s (omega (arith, n)) one.1 in
    (λ i. one.0 i ∷ rest.0 i, rest.1)

counted_parts : {A : Type 0} (write : A → List ℕ) → Parts write → (xs ys : List A) (r s : List ℕ)
    → (length xs ∷ flat_map write xs) ++ r ≡ (length ys ∷ flat_map write ys) ++ s → (xs ≡ ys) × (r ≡ s)
counted_parts write parts xs ys r s e =
    let head : length xs ≡ length ys = cc in
    let tail : flat_map write xs ++ r ≡ flat_map write ys ++ s = cc in
    many_parts write parts xs ys r s head tail

place_parts : Parts place_numbers
place_parts (Fixed a) (Fixed b) r s e =
    let number : bit_number a ≡ bit_number b = cc in
    let tail : r ≡ s = cc in
    (ap Fixed (bit_inj a b number), tail)
place_parts (OnWire a) (OnWire b) r s e =
    let wire : suc a.wire ≡ suc b.wire = cc in
    let at : a.at ≡ b.at = cc in
    let tail : r ≡ s = cc in
    let same : a.wire ≡ b.wire = omega (arith, wire) in
    (λ i. OnWire (record { wire = same i; at = at i }), tail)
place_parts (Fixed a) (OnWire b) r s e = absurd (let clash : 0 ≡ suc b.wire = cc in omega (arith, clash))
place_parts (OnWire a) (Fixed b) r s e = absurd (let clash : suc a.wire ≡ 0 = cc in omega (arith, clash))

signal_parts : Parts signal_numbers
signal_parts = counted_parts place_numbers place_parts

pub lists_parts : (xs ys : List (List ℕ)) (r s : List ℕ) → lists_numbers xs ++ r ≡ lists_numbers ys ++ s → (xs ≡ ys) × (r ≡ s)
lists_parts = counted_parts sized sized_parts

-- a row behind its first number
abbrev rest_of : Traits → List ℕ
rest_of t = ((sized t.type ++ lists_numbers t.params) ++ signals_numbers t.inputs) ++ bits_numbers t.starts

-- one row, one cell's traits
pub row_inj : (a b : Traits) → row_of a ≡ row_of b → a ≡ b
row_inj a b e =
    let width : a.width ≡ b.width = cc in
    let tail : rest_of a ≡ rest_of b = cc in
    let types = sized_parts a.type b.type (lists_numbers a.params ++ (signals_numbers a.inputs ++ (bits_numbers a.starts ++ []))) (lists_numbers b.params ++ (signals_numbers b.inputs ++ (bits_numbers b.starts ++ []))) (flat_row a ∙ tail ∙ sym (flat_row b)) in
    let params = lists_parts a.params b.params (signals_numbers a.inputs ++ (bits_numbers a.starts ++ [])) (signals_numbers b.inputs ++ (bits_numbers b.starts ++ [])) types.1 in
    let inputs = counted_parts signal_numbers signal_parts a.inputs b.inputs (bits_numbers a.starts ++ []) (bits_numbers b.starts ++ []) params.1 in
    let starts = sized_parts (map bit_number a.starts) (map bit_number b.starts) [] [] inputs.1 in
    let same = bits_inj a.starts b.starts starts.0 in
    (λ i. record { type = types.0 i; params = params.0 i; width = width i; inputs = inputs.0 i; starts = same i })
  where
    flat_row : (t : Traits) → sized t.type ++ (lists_numbers t.params ++ (signals_numbers t.inputs ++ (bits_numbers t.starts ++ []))) ≡ ((sized t.type ++ lists_numbers t.params) ++ signals_numbers t.inputs) ++ bits_numbers t.starts
    flat_row t =
        ap (λ z. sized t.type ++ (lists_numbers t.params ++ (signals_numbers t.inputs ++ z))) (append-nil (bits_numbers t.starts))
        ∙ ap (λ z. sized t.type ++ z) (sym (append_assoc (lists_numbers t.params) (signals_numbers t.inputs) (bits_numbers t.starts)))
        ∙ sym (append_assoc (sized t.type) (lists_numbers t.params ++ signals_numbers t.inputs) (bits_numbers t.starts))
        ∙ ap (λ z. z ++ bits_numbers t.starts) (sym (append_assoc (sized t.type) (lists_numbers t.params) (signals_numbers t.inputs)))

-- shapes of one kind that say the same numbers are one
pub shape_inj : (a b : Shape) → a.kind ≡ b.kind → shape_numbers a ≡ shape_numbers b → a ≡ b
shape_inj a b kind e =
    let plain : plain_numbers a ≡ plain_numbers b = cc in
    let arst : map bit_number a.resets.arst ≡ map bit_number b.resets.arst = cc in
    let srst : map bit_number a.resets.srst ≡ map bit_number b.resets.srst = cc in
    let mask : map bit_number a.port.mask ≡ map bit_number b.port.mask = cc in
    let priority : map bit_number a.port.priority ≡ map bit_number b.port.priority = cc in
    let wa : a.widths.a ≡ b.widths.a = cc in
    let wb : a.widths.b ≡ b.widths.b = cc in
    let ws : a.widths.s ≡ b.widths.s = cc in
    let wy : a.widths.y ≡ b.widths.y = cc in
    let sa : flag_number a.signs.a ≡ flag_number b.signs.a = cc in
    let sb : flag_number a.signs.b ≡ flag_number b.signs.b = cc in
    let offset : a.offset ≡ b.offset = cc in
    let width : a.width ≡ b.width = cc in
    let clk : level_number a.levels.clk ≡ level_number b.levels.clk = cc in
    let en : level_number a.levels.en ≡ level_number b.levels.en = cc in
    let arst_l : level_number a.levels.arst ≡ level_number b.levels.arst = cc in
    let srst_l : level_number a.levels.srst ≡ level_number b.levels.srst = cc in
    let aload : level_number a.levels.aload ≡ level_number b.levels.aload = cc in
    let set_l : level_number a.levels.set ≡ level_number b.levels.set = cc in
    let clr : level_number a.levels.clr ≡ level_number b.levels.clr = cc in
    let address : a.port.address ≡ b.port.address = cc in
    let clocked : flag_number a.port.clocked ≡ flag_number b.port.clocked = cc in
    let number : a.port.number ≡ b.port.number = cc in
    let words : a.port.words ≡ b.port.words = cc in
    let sa' = flag_inj a.signs.a b.signs.a sa in
    let sb' = flag_inj a.signs.b b.signs.b sb in
    let clk' = level_inj a.levels.clk b.levels.clk clk in
    let en' = level_inj a.levels.en b.levels.en en in
    let arst_l' = level_inj a.levels.arst b.levels.arst arst_l in
    let srst_l' = level_inj a.levels.srst b.levels.srst srst_l in
    let aload' = level_inj a.levels.aload b.levels.aload aload in
    let set' = level_inj a.levels.set b.levels.set set_l in
    let clr' = level_inj a.levels.clr b.levels.clr clr in
    let clocked' = flag_inj a.port.clocked b.port.clocked clocked in
    let arst' = bits_inj a.resets.arst b.resets.arst arst in
    let srst' = bits_inj a.resets.srst b.resets.srst srst in
    let mask' = bits_inj a.port.mask b.port.mask mask in
    let priority' = bits_inj a.port.priority b.port.priority priority in
    (λ i. record {
      kind = kind i;
      widths = record { a = wa i; b = wb i; s = ws i; y = wy i };
      signs = record { a = sa' i; b = sb' i };
      offset = offset i;
      width = width i;
      levels = record { clk = clk' i; en = en' i; arst = arst_l' i; srst = srst_l' i; aload = aload' i; set = set' i; clr = clr' i };
      resets = record { arst = arst' i; srst = srst' i };
      port = record { address = address i; clocked = clocked' i; number = number i; mask = mask' i; words = words i; priority = priority' i };
    })

-- the numbers of a shape, one part after another
five_parts : (a b c d e : List ℕ) → (((a ++ b) ++ c) ++ d) ++ e ≡ a ++ (b ++ (c ++ (d ++ (e ++ []))))
five_parts a b c d e =
    append_assoc ((a ++ b) ++ c) d e ∙ append_assoc (a ++ b) c (d ++ e) ∙ append_assoc a b (c ++ (d ++ e)) ∙ ap (λ z. a ++ (b ++ (c ++ (d ++ z)))) (sym (append-nil e))

behind : (r : List ℕ) (n : ℕ) (a b c d e : List ℕ) → (((((r ++ n ∷ []) ++ a) ++ b) ++ c) ++ d) ++ e ≡ r ++ (n ∷ (a ++ (b ++ (c ++ (d ++ (e ++ []))))))
behind [] n a b c d e = ap (λ z. n ∷ z) (five_parts a b c d e)
behind (x ∷ r) n a b c d e = ap (λ z. x ∷ z) (behind r n a b c d e)

pub shape_pushed : (s : Shape) (r0 r1 r2 r3 r4 r5 r6 : List ℕ) → r1 ≡ r0 ++ 5 ∷ [] → r2 ≡ r1 ++ sized (plain_numbers s) → r3 ≡ r2 ++ bits_numbers s.resets.arst → r4 ≡ r3 ++ bits_numbers s.resets.srst
    → r5 ≡ r4 ++ bits_numbers s.port.mask → r6 ≡ r5 ++ bits_numbers s.port.priority → r6 ≡ r0 ++ lists_numbers (shape_numbers s)
shape_pushed s r0 r1 r2 r3 r4 r5 r6 e1 e2 e3 e4 e5 e6 =
    e6 ∙ ap (λ z. z ++ bits_numbers s.port.priority) (e5 ∙ ap (λ z. z ++ bits_numbers s.port.mask) (e4 ∙ ap (λ z. z ++ bits_numbers s.resets.srst) (e3 ∙ ap (λ z. z ++ bits_numbers s.resets.arst) (e2 ∙ ap (λ z. z ++ sized (plain_numbers s)) e1))))
    ∙ behind r0 5 (sized (plain_numbers s)) (bits_numbers s.resets.arst) (bits_numbers s.resets.srst) (bits_numbers s.port.mask) (bits_numbers s.port.priority)
