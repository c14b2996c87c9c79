-- A read tree, half by half, of words with rising address.
use Rattle.std.proofs.Common.{◌≡◌, ℕ, suc, ◌+◌, ◌-◌, ◌<◌, ◌≤◌, ◌^◌, ◌⊎◌, inl, inr, Bool, true, false, List, length, drop, Option, None, Result, Ok, Err, IfOk, refl, sym, ◌∙◌, ap, subst, arith, ltb-false}
use Rattle.std.specs.Prelude.{◌&&◌, nat_lt}
use Rattle.rtl_sig.specs.declared.sig.SigBit.{SigBit}
use Rattle.rtl_ir.specs.Build.{Building}
use Rattle.net_index.specs.Builder.{PassesLimit}
use Rattle.net_model.specs.Mem.Expand.{halves, low_bit, read_tree}
use Rattle.mem_map.specs.Words.{has_word, words_of}
use Rattle.mem_map.specs.declared.words.Words.{Words}
use Rattle.mem_map.proofs.Numbered.{tree_empty}
use Rattle.mem_map.proofs.Passing.{high_over, low_over}

pub far_empty : (w : Words) (address : List SigBit) (bits base : ℕ) (b : Building) → w.first + length w.signals ≤ base → (None, b) ≡ read_tree (words_of w) address bits base b
far_empty w address bits base b far = sym (tree_empty w.first w.signals address bits base b (inl far))

pub none_there : (w : Words) (address : List SigBit) (bits base : ℕ) (b : Building) → has_word w bits base ≡ false → (None, b) ≡ read_tree (words_of w) address bits base b
none_there w address bits base b e = sym (tree_empty w.first w.signals address bits base b (away (nat_lt base (w.first + length w.signals)) refl (nat_lt w.first (base + 2 ^ bits)) refl e))
  where
    away : (t : Bool) → nat_lt base (w.first + length w.signals) ≡ t → (u : Bool) → nat_lt w.first (base + 2 ^ bits) ≡ u → (t && u) ≡ false → (w.first + length w.signals ≤ base) ⊎ (base + 2 ^ bits ≤ w.first)
    away false te u ue z = inl (ltb-false _ _ te)
    away true te false ue z = inr (ltb-false _ _ ue)
    away true te true ue z = absurd (grind (arith, z))

module _ (w : Words) (address : List SigBit) (bits base : ℕ) (b b1 b2 : Building) (low high : Option (List SigBit)) (s : SigBit) (some : 0 < bits)
    (lows : (low, b1) ≡ read_tree (words_of w) address (bits - 1) base b) where
  whole : (j : ℕ) → bits ≡ suc j → (r : Option (List SigBit) × Building) → (low, b1) ≡ read_tree (words_of w) address j base b → (high, b2) ≡ read_tree (words_of w) address j (base + 2 ^ j) b1 → s ≡ low_bit (drop j address) → r ≡ halves s low high b2
      → r ≡ read_tree (words_of w) address bits base b
  whole j e r l h se re =
      let highs : (high, b2) ≡ read_tree (words_of w) address j (base + 2 ^ j) (read_tree (words_of w) address j base b).1 =
      h ∙ ap (λ (q : Option (List SigBit) × Building). read_tree (words_of w) address j (base + 2 ^ j) q.1) l in
      re ∙ (λ i. halves (se i) (l i).0 (highs i).0 (highs i).1) ∙ ap (λ k. read_tree (words_of w) address k base b) (sym e)

  next : bits ≡ suc (bits - 1)
  next = omega (arith, some)

  module _ (highs : (high, b2) ≡ read_tree (words_of w) address (bits - 1) (base + 2 ^ (bits - 1)) b1) (selects : s ≡ low_bit (drop (bits - 1) address)) where
    pub tree_is : (r : Option (List SigBit) × Building) → r ≡ halves s low high b2 → r ≡ read_tree (words_of w) address bits base b
    tree_is r = whole (bits - 1) next r lows highs selects

    pub halves_over : PassesLimit (halves s low high b2).1 → PassesLimit (read_tree (words_of w) address bits base b).1
    halves_over = subst (λ (r : Option (List SigBit) × Building). PassesLimit r.1) (tree_is (halves s low high b2) refl)

pub right_over : (w : Words) (address : List SigBit) (bits base : ℕ) (b b1 : Building) (low : Option (List SigBit)) → 0 < bits → (low, b1) ≡ read_tree (words_of w) address (bits - 1) base b
    → PassesLimit (read_tree (words_of w) address (bits - 1) (base + 2 ^ (bits - 1)) b1).1 → PassesLimit (read_tree (words_of w) address bits base b).1
right_over w address bits base b b1 low some lows over =
    let next : bits ≡ suc (bits - 1) = omega (arith, some) in
    subst (λ k. PassesLimit (read_tree (words_of w) address k base b).1) (sym next)
    (high_over (words_of w) address (bits - 1) base b
    (subst (λ (q : Option (List SigBit) × Building). PassesLimit (read_tree (words_of w) address (bits - 1) (base + 2 ^ (bits - 1)) q.1).1) lows over))

pub left_over : (w : Words) (address : List SigBit) (bits base : ℕ) (b : Building) → 0 < bits → PassesLimit (read_tree (words_of w) address (bits - 1) base b).1 → PassesLimit (read_tree (words_of w) address bits base b).1
left_over w address bits base b some over =
    let next : bits ≡ suc (bits - 1) = omega (arith, some) in
    subst (λ k. PassesLimit (read_tree (words_of w) address k base b).1) (sym next) (low_over (words_of w) address (bits - 1) base b over)

-- what is so of the value of a result
pub if_ok : {A E : Type 0} (r : Result A E) (P Q : A → Type 0) → ((x : A) → P x → Q x) → IfOk r P → IfOk r Q
if_ok (Ok x) P Q f h = f x h
if_ok (Err e) P Q f h = tt
