-- Tables of words, and one word of them anew.
use Rattle.std.proofs.Common.{◌≡◌, ℕ, zero, suc, ◌+◌, ◌-◌, ◌*◌, ◌<◌, ◌≤◌, Bool, true, false, List, [], ◌∷◌, ◌++◌, length, map, get_or, replicate, if◌then◌else◌, refl, sym, ◌∙◌, ap, arith, lt-ltb, le-ltb, le-leb, ltb-true, ltb-false, leb-true, leb-false}
use Rattle.std.specs.Prelude.{nat_lt, nat_le, slice_set, ◌&&◌}
use Rattle.std.specs.List.{range_with_len}
use Rattle.std.proofs.lemmas.List.FromFn.{map-range_with_len_more, length-map-range_with_len, get_or-map-range_with_len}
use Rattle.rtl_bits.specs.declared.bit.Bit.{Bit}
use Rattle.rtl_bits.specs.declared.bit.Bit.TheVariants.{X}
use Rattle.rtl_ir.specs.declared.cell.Cell.{Cell}
use Rattle.std.proofs.lemmas.Bool.{lt-leb}
use Rattle.std.proofs.lemmas.Bool.Decides.{nat_tests}
use Rattle.rtl_sig.specs.declared.sig.SigBit.TheVariants as sig
use Rattle.cell_gate.specs.Control.{pick_of}
use Rattle.cell_types.specs.PinName.{pin_text}
use Rattle.cell_types.specs.declared.pin_name.PinName.TheVariants.{Data}
use Rattle.rtl_ir.specs.Flat.Cell.{cell_kind}
use Rattle.rtl_ir.specs.Parameters.{signal_at}
use Rattle.rtl_ir.specs.Faults.MemoryCells.{first_address, number_at}
use Rattle.rtl_ir.specs.Signals.{constant_of}
use Rattle.rtl_ir.specs.Flat.Memory.{init_bit_of, init_enable}
use Rattle.cell_types.specs.declared.param_name.ParamName.TheVariants as Param
use Rattle.mem_gather.specs.Tables.{after, below, put_start, start_bit, table}

pub one_more : (f : ℕ → Bit) (n : ℕ) → map f (range_with_len 0 n) ++ f n ∷ [] ≡ map f (range_with_len 0 (n + 1))
one_more f n = sym (map-range_with_len_more f 0 n n (omega arith))

pub maps_same : {A : Type 0} (f g : ℕ → A) (a n : ℕ) → ((x : ℕ) → a ≤ x → x < a + n → f x ≡ g x) → map f (range_with_len a n) ≡ map g (range_with_len a n)
maps_same f g a zero same = refl
maps_same f g a (suc n) same =
    (λ i. same a (omega arith) (omega arith) i ∷ maps_same f g (a + 1) n (λ x h k. same x (omega (arith, h)) (omega (arith, k))) i)

pub set_same : {A : Type 0} (f g : ℕ → A) (a n i : ℕ) (v : A) → i < n → v ≡ g (a + i) → ((x : ℕ) → (x ≡ a + i → ⊥) → f x ≡ g x) → slice_set (map f (range_with_len a n)) i v ≡ map g (range_with_len a n)
set_same f g a zero i v h is same = absurd (omega (arith, h))
set_same f g a (suc n) zero v h is same =
    let here : v ≡ g a = is ∙ ap g (omega arith) in
    (λ i. here i ∷ maps_same f g (a + 1) n (λ x le k. same x (λ e. omega (arith, e, le))) i)
set_same f g a (suc n) (suc i) v h is same =
    let next : a + suc i ≡ (a + 1) + i = omega arith in
    (λ k. same a (λ e. omega (arith, e)) k ∷ set_same f g (a + 1) n i v (omega (arith, h)) (is ∙ ap g next) (λ x away. same x (λ e. away (e ∙ next))) k)

-- a table of equal bits
pub table_same : (base size width : ℕ) (f g : ℕ → ℕ → Bit) → ((a t : ℕ) → base ≤ a → a < base + size → f a t ≡ g a t) → table base size width f ≡ table base size width g
table_same base size width f g same =
    maps_same (λ a. map (f a) (range_with_len 0 width)) (λ a. map (g a) (range_with_len 0 width)) base size
    (λ a h k. maps_same (f a) (g a) 0 width (λ t _ _. same a t h k))

pub one_filled : {A : Type 0} (v : A) (a n : ℕ) → replicate n v ≡ map (λ x. v) (range_with_len a n)
one_filled v a zero = refl
one_filled v a (suc n) = ap (λ xs. v ∷ xs) (one_filled v (a + 1) n)

-- below the first address a cell makes nothing, and behind its last one nothing more
module _ (width : ℕ) (c : Cell) (f : ℕ → ℕ → Bit) where
  abbrev first : ℕ
  first = first_address c

  abbrev count : ℕ
  count = number_at c Param.Words

  abbrev inner : ℕ → ℕ → Bit
  inner a t =
      pick_of (init_enable (cell_kind c) c t) (constant_of (get_or (signal_at c.pins (pin_text Data)) ((a - first) * width + t) (sig.Fixed X))) (f a t)

  made : (a t : ℕ) → init_bit_of width c a t (f a t) ≡ (if nat_le first a && nat_lt a (first + count) then inner a t else f a t)
  made a t = refl

  outside : (a t : ℕ) → (nat_le first a && nat_lt a (first + count)) ≡ false → init_bit_of width c a t (f a t) ≡ f a t
  outside a t e = made a t ∙ ap (λ (u : Bool). if u then inner a t else f a t) e

  pub starts_below : (a t : ℕ) → f a t ≡ below width c first f a t
  starts_below a t = by (nat_lt a first) refl
    where
      by : (u : Bool) → nat_lt a first ≡ u → f a t ≡ (if u then init_bit_of width c a t (f a t) else f a t)
      by false e = refl
      by true e =
          let h : a < first = ltb-true a first e in
          sym (outside a t (ap (λ u. u && nat_lt a (first + count)) (lt-leb first a h)))

  pub ends_below : (a t : ℕ) → below width c (first + count) f a t ≡ after width c f a t
  ends_below a t = by (nat_lt a (first + count)) refl
    where
      by : (u : Bool) → nat_lt a (first + count) ≡ u → (if u then init_bit_of width c a t (f a t) else f a t) ≡ init_bit_of width c a t (f a t)
      by true e = refl
      by false e = sym (outside a t (ap (λ u. nat_le first a && u) e ∙ and-false (nat_le first a)))
        where
          and-false : (u : Bool) → (u && false) ≡ false
          and-false true = refl
          and-false false = refl

  module _ (k : ℕ) (more : k < count) where
    away : (a t : ℕ) → (a ≡ first + k → ⊥) → below width c (first + k) f a t ≡ below width c (first + (k + 1)) f a t
    away a t not =
        let same : nat_lt a (first + k) ≡ nat_lt a (first + (k + 1)) = grind (nat_tests, arith, not) in
        ap (λ (u : Bool). if u then init_bit_of width c a t (f a t) else f a t) same

    here : (t : ℕ) → inner (first + k) t ≡ below width c (first + (k + 1)) f (first + k) t
    here t =
        sym (ap (λ (u : Bool). if u then init_bit_of width c (first + k) t (f (first + k) t) else f (first + k) t) (lt-ltb (first + k) (first + (k + 1)) (omega arith))
        ∙ made (first + k) t
        ∙ ap (λ (u : Bool). if u then inner (first + k) t else f (first + k) t) (both (le-leb first (first + k) (omega arith)) (lt-ltb (first + k) (first + count) (omega (arith, more)))))
      where
        both : {p q : Bool} → p ≡ true → q ≡ true → (p && q) ≡ true
        both e g = (λ i. e i && g i)

    kept : (t : ℕ) → below width c (first + k) f (first + k) t ≡ f (first + k) t
    kept t = ap (λ (u : Bool). if u then init_bit_of width c (first + k) t (f (first + k) t) else f (first + k) t) (le-ltb (first + k) (first + k) (omega arith))

    -- the bits of the word that is put
    word_put : (word : List Bit) → word ≡ map (below width c (first + k) f (first + k)) (range_with_len 0 width) → map (start_bit width c k word) (range_with_len 0 width) ≡ map (below width c (first + (k + 1)) f (first + k)) (range_with_len 0 width)
    word_put word is =
        maps_same (start_bit width c k word) (below width c (first + (k + 1)) f (first + k)) 0 width
        (λ t low high.
        let old : get_or word t X ≡ f (first + k) t =
        ap (λ w. get_or w t X) is ∙ get_or-map-range_with_len (below width c (first + k) f (first + k)) 0 width t t X (omega (arith, high)) (omega arith) ∙ kept t in
        let place : k * width + t ≡ ((first + k) - first) * width + t = ap (λ n. n * width + t) (omega arith) in
        (λ i. pick_of (init_enable (cell_kind c) c t) (constant_of (get_or (signal_at c.pins (pin_text Data)) (place i) (sig.Fixed X))) (old i)) ∙ here t)

    module _ (base size : ℕ) where
      abbrev words : List (List Bit)
      words = table base size width (below width c (first + k) f)

      abbrev put : List (List Bit)
      put = slice_set words ((first + k) - base) (map (start_bit width c k (get_or words ((first + k) - base) [])) (range_with_len 0 width))

      pub put_goes : put_start base width c (first + k) k words ≡ table base size width (below width c (first + (k + 1)) f)
      put_goes = by (nat_le base (first + k)) refl (nat_lt ((first + k) - base) (length words)) refl
        where
          sized : length words ≡ size
          sized = length-map-range_with_len (λ a. map (below width c (first + k) f a) (range_with_len 0 width)) base size

          by : (u : Bool) → nat_le base (first + k) ≡ u → (v : Bool) → nat_lt ((first + k) - base) (length words) ≡ v → (if u && v then put else words) ≡ table base size width (below width c (first + (k + 1)) f)
          by true e true g =
              let low : base ≤ first + k = leb-true base (first + k) e in
              let high : (first + k) - base < size = omega (arith, ltb-true ((first + k) - base) (length words) g, sized) in
              let place : base + ((first + k) - base) ≡ first + k = omega (arith, low) in
              set_same (λ a. map (below width c (first + k) f a) (range_with_len 0 width)) (λ a. map (below width c (first + (k + 1)) f a) (range_with_len 0 width)) base size ((first + k) - base) _ high
              (word_put (get_or words ((first + k) - base) []) (get_or-map-range_with_len (λ a. map (below width c (first + k) f a) (range_with_len 0 width)) base size ((first + k) - base) (first + k) [] high place)
              ∙ ap (λ a. map (below width c (first + (k + 1)) f a) (range_with_len 0 width)) (sym place))
              (λ a apart. maps_same (below width c (first + k) f a) (below width c (first + (k + 1)) f a) 0 width (λ t _ _. away a t (λ q. apart (q ∙ sym place))))
          by true e false g =
              let past : size ≤ (first + k) - base = omega (arith, ltb-false ((first + k) - base) (length words) g, sized) in
              table_same base size width (below width c (first + k) f) (below width c (first + (k + 1)) f) (λ a t low high. away a t (λ q. omega (arith, q, low, high, past)))
          by false e v g =
              let short : first + k < base = leb-false base (first + k) e in
              table_same base size width (below width c (first + k) f) (below width c (first + (k + 1)) f) (λ a t low high. away a t (λ q. omega (arith, q, low, short)))
