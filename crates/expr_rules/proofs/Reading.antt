-- What a reading has of signals.
use Rattle.std.proofs.Common.{◌≡◌, ⊎_elim, ℕ, zero, suc, ◌-◌, ◌<◌, Bool, true, false, List, [], ◌∷◌, length, map, take, replicate, refl, sym, ◌∙◌, ap, subst, arith, length-append}
use Rattle.std.specs.Prelude.{slice_get, slice_index_or, unwrap_or}
use Rattle.std.specs.List.{list_all}
use Rattle.std.proofs.Math.ListN.{get_or-append, get_or-eq_default, get_or-map}
use Rattle.std.proofs.lemmas.List.{get_or-append_right, get_or-replicate, get_or-take, length-replicate, length-take}
use Rattle.std.proofs.lemmas.List.FromFn.{get_or-map-range_with_len}
use Rattle.std.proofs.lemmas.Bool.{and_parts, cases_lt}
use Rattle.rtl_bits.proofs.Orders.{Below_refl}
use Rattle.rtl_bits.specs.Knowledge.{Below}
use Rattle.rtl_bits.specs.Numbers.{top_of}
use Rattle.rtl_bits.specs.declared.bit.Bit.{Bit}
use Rattle.rtl_bits.specs.declared.bit.Bit.TheVariants.{S0, X}
use Rattle.rtl_sig.specs.Signal.{extended, fill_of}
use Rattle.rtl_sig.specs.declared.sig.SigBit.{SigBit}
use Rattle.rtl_sig.specs.declared.sig.SigBit.TheVariants.{Fixed}
use Rattle.cell_word.specs.Words as words
use Rattle.cell_word.specs.Words.{extended_at, word_of}
use Rattle.expr_rules.specs.Laws.{IsReading, read_at}

-- a bit of a word made place by place
pub word_at : (g : ℕ → Bit) (width at : ℕ) → at < width → slice_index_or (word_of g width) at X ≡ g at
word_at g width at h = get_or-map-range_with_len g 0 width at at X h (omega arith)

-- within a word the default does not count
pub default_at : {A : Type 0} (word : List A) (at : ℕ) (d e : A) → at < length word → slice_index_or word at d ≡ slice_index_or word at e
default_at [] at d e h = absurd (omega arith)
default_at (b ∷ word) zero d e h = refl
default_at (b ∷ word) (suc at) d e h = default_at word at d e (omega arith)

-- what all bits have one has
pub all_at : (p : SigBit → Bool) (word : List SigBit) (at : ℕ) (d : SigBit) → list_all p word ≡ true → at < length word → p (slice_index_or word at d) ≡ true
all_at p [] at d e h = absurd (omega arith)
all_at p (b ∷ word) zero d e h = (and_parts (p b) (list_all p word) e).0
all_at p (b ∷ word) (suc at) d e h = all_at p word at d (and_parts (p b) (list_all p word) e).1 (omega arith)

-- the width of an extended signal, and its bits
pub extended_length : (bits : List SigBit) (width : ℕ) (signed : Bool) → length (extended bits width signed) ≡ width
extended_length bits width signed =
    omega (arith, length-append (take width bits) (replicate (width - length bits) (fill_of bits signed)), length-take width bits, length-replicate (width - length bits) (fill_of bits signed))

pub extended_bit : (bits : List SigBit) (width : ℕ) (signed : Bool) (at : ℕ) (d : SigBit) → at < width → slice_index_or (extended bits width signed) at d ≡ slice_index_or bits at (fill_of bits signed)
extended_bit bits width signed at d h =
    let n = length-take width bits in
    ⊎_elim
    (λ lt. get_or-append (take width bits) (replicate (width - length bits) (fill_of bits signed)) d at (omega arith)
    ∙ get_or-take width bits at d h ∙ default_at bits at d (fill_of bits signed) lt)
    (λ ge. get_or-append_right (take width bits) (replicate (width - length bits) (fill_of bits signed)) (length bits) at d (omega arith) ge
    ∙ get_or-replicate (width - length bits) (at - length bits) (fill_of bits signed) d (omega arith)
    ∙ sym (get_or-eq_default bits (fill_of bits signed) ge))
    (cases_lt at (length bits))

module _ (f : SigBit → Bit) (fixed : IsReading f) where
  -- a bit of a signal, taken before or after it is read
  pub read_word : (bits : List SigBit) (at : ℕ) → slice_index_or (map f bits) at X ≡ read_at f bits at
  read_word [] at = sym (fixed X)
  read_word (b ∷ bits) zero = refl
  read_word (b ∷ bits) (suc at) = read_word bits at

  top_read : (bits : List SigBit) → top_of (map f bits) ≡ f (fill_of bits true)
  top_read [] = sym (fixed S0)
  top_read (b ∷ []) = refl
  top_read (b ∷ c ∷ bits) =
      let e : length (b ∷ c ∷ bits) - 1 ≡ suc (length (c ∷ bits) - 1) = omega arith in
      top_read (c ∷ bits) ∙ ap (λ n. f (unwrap_or (slice_get (b ∷ c ∷ bits) n) (Fixed S0))) (sym e)

  pub fill_read : (signed : Bool) (bits : List SigBit) → words.fill_of signed (map f bits) ≡ f (fill_of bits signed)
  fill_read true bits = top_read bits
  fill_read false bits = sym (fixed S0)

  -- a bit of an extended signal has what the extended word has
  pub extended_read : (signed : Bool) (bits : List SigBit) (width at : ℕ) (d : SigBit) → at < width → f (slice_index_or (extended bits width signed) at d) ≡ extended_at signed (map f bits) at
  extended_read signed bits width at d h =
      ap f (extended_bit bits width signed at d h)
      ∙ sym (get_or-map f bits at (fill_of bits signed))
      ∙ ap (slice_index_or (map f bits) at) (sym (fill_read signed bits))

  -- past the end x is read, which is below all
  pub read_below : (bits : List SigBit) (at : ℕ) (d : SigBit) → Below (read_at f bits at) (f (slice_index_or bits at d))
  read_below [] at d = subst (λ z. Below z (f d)) (sym (fixed X)) tt
  read_below (b ∷ bits) zero d = Below_refl (f b)
  read_below (b ∷ bits) (suc at) d = read_below bits at d

  pub extended_below : (signed : Bool) (bits : List SigBit) (at : ℕ) → Below (read_at f bits at) (extended_at signed (map f bits) at)
  extended_below signed bits at = by (words.fill_of signed (map f bits)) bits at
    where
      by : (d : Bit) (bits : List SigBit) (at : ℕ) → Below (read_at f bits at) (slice_index_or (map f bits) at d)
      by d [] at = subst (λ z. Below z d) (sym (fixed X)) tt
      by d (b ∷ bits) zero = Below_refl (f b)
      by d (b ∷ bits) (suc at) = by d bits at
