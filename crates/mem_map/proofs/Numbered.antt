-- Words with rising address: the word at an address, and words one more at a place.
use Rattle.std.proofs.Common.{◌≡◌, ℕ, zero, suc, ◌+◌, ◌-◌, ◌<◌, ◌≤◌, ◌^◌, ◌⊎◌, inl, inr, true, List, [], ◌∷◌, map, length, get_or, Option, Some, None, if◌then◌else◌, refl, sym, ◌∙◌, ap, arith, ne_eqb, drop, pow-suc}
use Rattle.std.specs.Prelude.{◌==◌}
use Rattle.rtl_bits.specs.declared.bit.Bit.{Bit}
use Rattle.rtl_sig.specs.declared.sig.SigBit.{SigBit}
use Rattle.rtl_sig.specs.declared.sig.SigBit.TheVariants.{Fixed}
use Rattle.rtl_ir.specs.Build.{Build, Building, fresh_wire}
use Rattle.net_model.specs.Mem.Expand.{Word, fixed_words, halves, low_bit, read_tree, word_at, word_wires}
use Rattle.net_model.specs.Proc.Start.{init_attribute}
use Rattle.mem_map.specs.Words.{numbered, words_of}
use Rattle.mem_map.specs.declared.words.Words.{Words}

below_none : (first : ℕ) (signals : List (List SigBit)) (address : ℕ) → address < first → word_at (numbered first signals) address ≡ None
below_none first [] address h = refl
below_none first (s ∷ signals) address h =
    ap (λ t. if t then Some s else word_at (numbered (first + 1) signals) address) (ne_eqb first address (λ e. omega (arith, e, h)))
    ∙ below_none (first + 1) signals address (omega (arith, h))

past_none : (first : ℕ) (signals : List (List SigBit)) (address : ℕ) → first + length signals ≤ address → word_at (numbered first signals) address ≡ None
past_none first [] address h = refl
past_none first (s ∷ signals) address h =
    ap (λ t. if t then Some s else word_at (numbered (first + 1) signals) address) (ne_eqb first address (λ e. omega (arith, e, h)))
    ∙ past_none (first + 1) signals address (omega (arith, h))

found : (first k : ℕ) (signals : List (List SigBit)) (d : List SigBit) → k < length signals → word_at (numbered first signals) (first + k) ≡ Some (get_or signals k d)
found first k [] d h = absurd (omega arith)
found first zero (s ∷ signals) d h =
    ap (λ t. if t then Some s else word_at (numbered (first + 1) signals) (first + 0)) (same first (first + 0) (omega arith))
  where
    same : (a b : ℕ) → a ≡ b → (a == b) ≡ true
    same a b e = grind (arith, e)
found first (suc k) (s ∷ signals) d h =
    let next : first + suc k ≡ (first + 1) + k = omega arith in
    ap (λ t. if t then Some s else word_at (numbered (first + 1) signals) (first + suc k)) (ne_eqb first (first + suc k) (λ e. omega (arith, e)))
    ∙ ap (word_at (numbered (first + 1) signals)) next
    ∙ found (first + 1) k signals d (omega (arith, h))

pub word_inside : (w : Words) (address : ℕ) (s : List SigBit) → w.first ≤ address → address - w.first < length w.signals → s ≡ get_or w.signals (address - w.first) s → Some s ≡ word_at (words_of w) address
word_inside w address s le h e =
    let is : address ≡ w.first + (address - w.first) = omega (arith, le) in
    sym (ap (word_at (words_of w)) is ∙ found w.first (address - w.first) w.signals s h ∙ ap Some (sym e))

pub word_outside : (w : Words) (address : ℕ) → (address < w.first) ⊎ (w.first + length w.signals ≤ address) → None ≡ word_at (words_of w) address
word_outside w address (inl h) = sym (below_none w.first w.signals address h)
word_outside w address (inr h) = sym (past_none w.first w.signals address h)

-- where no word stands at the addresses of a tree, the tree is empty
pub tree_empty : (first : ℕ) (signals : List (List SigBit)) (address : List SigBit) (j base : ℕ) (b : Building) → (first + length signals ≤ base) ⊎ (base + 2 ^ j ≤ first) → read_tree (numbered first signals) address j base b ≡ (None, b)
tree_empty first signals address zero base b (inl h) = ap (λ w. (w, b)) (past_none first signals base h)
tree_empty first signals address zero base b (inr h) = ap (λ w. (w, b)) (below_none first signals base (omega (arith, h)))
tree_empty first signals address (suc j) base b away =
    (λ i.
    let low = tree_empty first signals address j base b (front away) i in
    let high = read_tree (numbered first signals) address j (base + 2 ^ j) low.1 in
    halves (low_bit (drop j address)) low.0 high.0 high.1)
    ∙ ap (λ (r : Option (List SigBit) × Building). halves (low_bit (drop j address)) None r.0 r.1) (tree_empty first signals address j (base + 2 ^ j) b (back away))
  where
    front : (first + length signals ≤ base) ⊎ (base + 2 ^ suc j ≤ first) → (first + length signals ≤ base) ⊎ (base + 2 ^ j ≤ first)
    front (inl h) = inl h
    front (inr h) = inr (omega (arith, h, pow-suc 2 j))

    back : (first + length signals ≤ base) ⊎ (base + 2 ^ suc j ≤ first) → (first + length signals ≤ base + 2 ^ j) ⊎ (base + 2 ^ j + 2 ^ j ≤ first)
    back (inl h) = inl (omega (arith, h))
    back (inr h) = inr (omega (arith, h, pow-suc 2 j))

-- the signals of fresh wires with these start values
abbrev pub wires : List (List Bit) → Build (List (List SigBit))
wires [] b = ([], b)
wires (bits ∷ starts) b =
    let wire = fresh_wire (length bits) (init_attribute bits ∷ []) b in
    let rest = wires starts wire.1 in
    (wire.0 ∷ rest.0, rest.1)

-- words of signals
abbrev pub with_words : ℕ → List (List SigBit) × Building → List Word × Building
with_words first r = (numbered first r.0, r.1)

pub wires_are : (first : ℕ) (starts : List (List Bit)) (b : Building) → word_wires first starts b ≡ with_words first (wires starts b)
wires_are first [] b = refl
wires_are first (bits ∷ starts) b =
    let wire = fresh_wire (length bits) (init_attribute bits ∷ []) b in
    ap (λ (r : List Word × Building). (record { address = first; signal = wire.0 } ∷ r.0, r.1)) (wires_are (first + 1) starts wire.1)

pub fixed_are : (first : ℕ) (starts : List (List Bit)) → numbered first (map (map Fixed) starts) ≡ fixed_words first starts
fixed_are first [] = refl
fixed_are first (bits ∷ starts) = ap (λ ws. record { address = first; signal = map Fixed bits } ∷ ws) (fixed_are (first + 1) starts)
