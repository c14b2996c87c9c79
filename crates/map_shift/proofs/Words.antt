-- The bits of the nets, whatever is said of bits.
use Rattle.std.proofs.Common.{◌≡◌, ◌<◌, ◌≤◌, ℕ, zero, suc, min, ◌+◌, ◌-◌, ◌^◌, true, List, [], ◌∷◌, drop, length, take, inl, inr, refl, sym, ◌∙◌, ap, subst, arith, length-append}
use Rattle.std.specs.Prelude.{replicate, slice_get, slice_index_or, unwrap_or}
use Rattle.std.proofs.Math.ListN.{get_or-append}
use Rattle.std.proofs.Math.Seq.{get_or-append_right}
use Rattle.std.proofs.lemmas.Bool.{cases_lt}
use Rattle.std.proofs.lemmas.List.{get_or-drop, get_or-replicate, get_or-take, length-drop, length-replicate, length-take}
use Rattle.rtl_bits.specs.Tables.{mux_of, not_of}
use Rattle.rtl_bits.specs.declared.bit.Bit.{Bit}
use Rattle.rtl_bits.specs.declared.bit.Bit.TheVariants.{S0, S1}
use Rattle.rtl_sig.specs.Signal.{fill_of}
use Rattle.rtl_sig.specs.declared.sig.SigBit.{SigBit}
use Rattle.rtl_sig.specs.declared.sig.SigBit.TheVariants.{Fixed}
use Rattle.gate_nets.specs.Words.{select_of}
use Rattle.gate_nets.specs.declared.gate.Gate.TheVariants.{Mux}
use Rattle.gate_nets.proofs.Nets.{Goods, Logic, Net, carry_at, length-pairs, net_also, net_negative, net_pure, net_select, net_since, net_then, sum_bit}
use Rattle.map_shift.specs.Moves.{moved_of}
use Rattle.map_shift.specs.Shift.{either_of, lower_of, shifted_from, step_of}
use Rattle.map_shift.specs.declared.moves.Way.{Way}
use Rattle.map_shift.specs.declared.moves.Way.TheVariants.{Left, Right}
use Rattle.map_shift.proofs.Places.{left_filled, left_kept, moved_at, right_filled, right_kept, stepped, worked}

-- a move keeps the width
pub length-moved : (way : Way) (fill : SigBit) (n : ℕ) (bits : List SigBit) → length (moved_of way fill n bits) ≡ length bits
length-moved Left fill n bits =
    omega (arith, length-append (replicate (min n (length bits)) fill) (take (length bits - n) bits), length-replicate (min n (length bits)) fill, length-take (length bits - n) bits)
length-moved Right fill n bits =
    omega (arith, length-append (drop n bits) (replicate (min n (length bits)) fill), length-replicate (min n (length bits)) fill, length-drop n bits)

-- a place of a moved signal
at_left_filled : (fill d : SigBit) (n : ℕ) (bits : List SigBit) (at : ℕ) → at < length bits → at < n → slice_index_or (moved_of Left fill n bits) at d ≡ fill
at_left_filled fill d n bits at h k =
    let m : ℕ = min n (length bits) in
    get_or-append (replicate m fill) (take (length bits - n) bits) d at (omega (arith, length-replicate m fill)) ∙ get_or-replicate m at fill d (omega arith)

at_left_kept : (fill d : SigBit) (n : ℕ) (bits : List SigBit) (at : ℕ) → at < length bits → n ≤ at → slice_index_or (moved_of Left fill n bits) at d ≡ slice_index_or bits (at - n) d
at_left_kept fill d n bits at h k =
    let m : ℕ = min n (length bits) in
    get_or-append_right (replicate m fill) (take (length bits - n) bits) at d (omega (arith, length-replicate m fill))
    ∙ ap (λ z. slice_index_or (take (length bits - n) bits) z d) (let e : at - length (replicate m fill) ≡ at - n = omega (arith, length-replicate m fill) in e)
    ∙ get_or-take (length bits - n) bits (at - n) d (omega arith)

at_right_filled : (fill d : SigBit) (n : ℕ) (bits : List SigBit) (at : ℕ) → at < length bits → length bits ≤ at + n → slice_index_or (moved_of Right fill n bits) at d ≡ fill
at_right_filled fill d n bits at h k =
    let m : ℕ = min n (length bits) in
    get_or-append_right (drop n bits) (replicate m fill) at d (omega (arith, length-drop n bits))
    ∙ get_or-replicate m (at - length (drop n bits)) fill d (omega (arith, length-drop n bits))

at_right_kept : (fill d : SigBit) (n : ℕ) (bits : List SigBit) (at : ℕ) → at + n < length bits → slice_index_or (moved_of Right fill n bits) at d ≡ slice_index_or bits (at + n) d
at_right_kept fill d n bits at h =
    let m : ℕ = min n (length bits) in
    get_or-append (drop n bits) (replicate m fill) d at (omega (arith, length-drop n bits))
    ∙ get_or-drop n bits at d
    ∙ ap (λ z. slice_index_or bits z d) (let e : n + at ≡ at + n = omega arith in e)

-- the bits of a negative
abbrev pub back_at : (ℕ → Bit) → ℕ → Bit
back_at w at = sum_bit S0 (not_of (w at)) (carry_at (λ i. S0) (λ i. not_of (w i)) S1 at)

-- the bits of a word that is moved either way
abbrev pub either_at : Bit → ℕ → (ℕ → Bit) → (ℕ → Bit) → ℕ → ℕ → Bit
either_at fill width v w n at =
    mux_of (worked Right fill width 0 v w (n - 1) at) (worked Left fill width 0 v (back_at w) n at) (w (n - 1))

-- the top bit of a signal, as a bit at a place
top_bit : (bits : List SigBit) → slice_index_or bits (length bits - 1) (Fixed S0) ≡ fill_of bits true
top_bit [] = refl
top_bit (b ∷ bits) = by (b ∷ bits) (length (b ∷ bits) - 1)
  where
    by : (bits : List SigBit) (at : ℕ) → slice_index_or bits at (Fixed S0) ≡ unwrap_or (slice_get bits at) (Fixed S0)
    by [] at = refl
    by (b ∷ bits) zero = refl
    by (b ∷ bits) (suc at) = by bits at

module _ (l : Logic) where
  -- what is so of each place is so of a word
  goods_all : (v : ℕ → Bit) (bits : List SigBit) → ((at : ℕ) → at < length bits → l.Has (v at) (slice_index_or bits at (Fixed S0))) → Goods l v bits
  goods_all v [] h = tt
  goods_all v (b ∷ bits) h = (h 0 (omega arith), goods_all (λ i. v (suc i)) bits (λ at lt. h (suc at) (omega arith)))

  pub goods_at : (v : ℕ → Bit) (bits : List SigBit) → Goods l v bits → (at : ℕ) → at < length bits → l.Has (v at) (slice_index_or bits at (Fixed S0))
  goods_at v [] h at lt = absurd (omega arith)
  goods_at v (b ∷ bits) h zero lt = h.0
  goods_at v (b ∷ bits) h (suc at) lt = goods_at (λ i. v (suc i)) bits h.1 at (omega arith)

  goods_take : (n : ℕ) (v : ℕ → Bit) (bits : List SigBit) → Goods l v bits → Goods l v (take n bits)
  goods_take zero v [] h = tt
  goods_take zero v (b ∷ bits) h = tt
  goods_take (suc n) v [] h = tt
  goods_take (suc n) v (b ∷ bits) h = (h.0, goods_take n (λ at. v (suc at)) bits h.1)

  -- the top bit of a word
  pub top_has : (v : ℕ → Bit) (bits : List SigBit) → Goods l v bits → (length bits ≡ 0 → v 0 ≡ S0) → l.Has (v (length bits - 1)) (fill_of bits true)
  top_has v [] h none = subst (λ z. l.Has z (Fixed S0)) (sym (none refl)) (l.constant S0)
  top_has v (b ∷ bits) h none =
      let e : slice_index_or (b ∷ bits) (length (b ∷ bits) - 1) (Fixed S0) ≡ fill_of (b ∷ bits) true = top_bit (b ∷ bits) in
      subst (l.Has (v (length (b ∷ bits) - 1))) e (goods_at v (b ∷ bits) h (length (b ∷ bits) - 1) (omega arith))

  -- a moved word has the moved bits
  goods_moved : (way : Way) (d : Bit) (fill : SigBit) (n : ℕ) (v : ℕ → Bit) (bits : List SigBit) → l.Has d fill → Goods l v bits → Goods l (moved_at way d (length bits) n v) (moved_of way fill n bits)
  goods_moved way d fill n v bits f h = goods_all _ _ (λ at lt. place way at (omega (arith, lt, length-moved way fill n bits)))
    where
      place : (way : Way) (at : ℕ) → at < length bits → l.Has (moved_at way d (length bits) n v at) (slice_index_or (moved_of way fill n bits) at (Fixed S0))
      place Left at lt = elim (cases_lt at n) [
        | inl k ↦ subst (λ z. l.Has z (slice_index_or (moved_of Left fill n bits) at (Fixed S0))) (sym (left_filled d (length bits) n v at k)) (subst (l.Has d) (sym (at_left_filled fill (Fixed S0) n bits at lt k)) f)
        | inr k ↦ subst (λ z. l.Has z (slice_index_or (moved_of Left fill n bits) at (Fixed S0))) (sym (left_kept d (length bits) n v at k)) (subst (l.Has (v (at - n))) (sym (at_left_kept fill (Fixed S0) n bits at lt k)) (goods_at v bits h (at - n) (omega arith)))
      ]
      place Right at lt = elim (cases_lt (at + n) (length bits)) [
        | inl k ↦ subst (λ z. l.Has z (slice_index_or (moved_of Right fill n bits) at (Fixed S0))) (sym (right_kept d (length bits) n v at k)) (subst (l.Has (v (at + n))) (sym (at_right_kept fill (Fixed S0) n bits at k)) (goods_at v bits h (at + n) k))
        | inr k ↦ subst (λ z. l.Has z (slice_index_or (moved_of Right fill n bits) at (Fixed S0))) (sym (right_filled d (length bits) n v at k)) (subst (l.Has d) (sym (at_right_filled fill (Fixed S0) n bits at lt k)) f)
      ]

  -- one of two words, with its width
  net_chosen : (u v : ℕ → Bit) (c : Bit) (a b : List SigBit) (s : SigBit) {R : Type 0} → (R → Goods l u a) → (R → Goods l v b) → (R → l.Has c s) → (R → length a ≡ length b)
      → Net l R (select_of a b s) (λ ys. Goods l (λ at. mux_of (u at) (v at) c) ys × (length ys ≡ length a))
  net_chosen u v c a b s h k j e =
      let widths : Net l _ (select_of a b s) (λ ys. Goods l (λ at. mux_of (u at) (v at) c) ys × (length ys ≡ min (length a) (length b))) =
      net_also l (net_select l u v c a b s h k j) (λ old. length-pairs (λ x y. Mux x y s) a b old) in
      net_since l widths (λ ys r w. (w.0, omega (arith, w.1, e r)))

  -- the word after one bit of a distance
  net_step : (way : Way) (d c : Bit) (fill : SigBit) (place width : ℕ) (v : ℕ → Bit) (bits : List SigBit) (by : SigBit) {R : Type 0} → (R → l.Has d fill) → (R → Goods l v bits) → (R → length bits ≡ width) → (R → l.Has c by)
      → Net l R (step_of way fill place bits by) (λ ys. Goods l (stepped way d width place v c) ys × (length ys ≡ width))
  net_step way d c fill place width v bits by f h e k =
      net_since l (net_chosen v (moved_at way d width (2 ^ place) v) c bits (moved_of way fill (2 ^ place) bits) by h
      (λ r. subst (λ z. Goods l (moved_at way d z (2 ^ place) v) (moved_of way fill (2 ^ place) bits)) (e r) (goods_moved way d fill (2 ^ place) v bits (f r) (h r)))
      k (λ r. sym (length-moved way fill (2 ^ place) bits)))
      (λ ys r w. (w.0, w.1 ∙ e r))

  -- a word moved by the bits of a distance
  pub net_shifted : (way : Way) (d : Bit) (fill : SigBit) (place width : ℕ) (v w : ℕ → Bit) (bits distance : List SigBit) {R : Type 0} → (R → l.Has d fill) → (R → Goods l v bits) → (R → length bits ≡ width) → (R → Goods l w distance)
      → Net l R (shifted_from way fill place bits distance) (λ ys. Goods l (worked way d width place v w (length distance)) ys × (length ys ≡ width))
  net_shifted way d fill place width v w bits [] f h e k = net_pure l (λ r. (h r, e r))
  net_shifted way d fill place width v w bits (by ∷ distance) f h e k =
      net_then l (net_step way d (w 0) fill place width v bits by f h e (λ r. (k r).0)) λ further.
      net_shifted way d fill (place + 1) width (stepped way d width place v (w 0)) (λ i. w (suc i)) further distance (λ r. f r.0) (λ r. r.1.0) (λ r. r.1.1) (λ r. (k r.0).1)

  -- a word moved either way
  pub net_either : (d : Bit) (fill : SigBit) (width : ℕ) (v w : ℕ → Bit) (bits distance : List SigBit) {R : Type 0} → (R → l.Has d fill) → (R → Goods l v bits) → (R → length bits ≡ width) → (R → Goods l w distance)
      → (length distance ≡ 0 → w 0 ≡ S0)
      → Net l R (either_of fill bits distance) (λ ys. Goods l (either_at d width v w (length distance)) ys × (length ys ≡ width))
  net_either d fill width v w bits distance f h e k none =
      net_then l (net_shifted Right d fill 0 width v w bits (lower_of distance) f h e (λ r. goods_take (length distance - 1) w distance (k r))) λ right.
      net_then l (net_negative l w distance (λ r. k r.0)) λ back.
      net_then l (net_shifted Left d fill 0 width v (back_at w) bits back (λ r. f r.0.0) (λ r. h r.0.0) (λ r. e r.0.0) (λ r. r.1.0)) λ left.
      net_since l (net_chosen (worked Right d width 0 v w (length (lower_of distance))) (worked Left d width 0 v (back_at w) (length back)) (w (length distance - 1)) right left (fill_of distance true)
      (λ r. r.0.0.1.0) (λ r. r.1.0) (λ r. top_has w distance (k r.0.0.0) none) (λ r. r.0.0.1.1 ∙ sym r.1.1))
      (λ ys r z.
      let low : length (lower_of distance) ≡ length distance - 1 = omega (arith, length-take (length distance - 1) distance) in (
        subst (λ m. Goods l (λ at. mux_of (worked Right d width 0 v w m at) (worked Left d width 0 v (back_at w) (length distance) at) (w (length distance - 1))) ys) low
            (subst (λ m. Goods l (λ at. mux_of (worked Right d width 0 v w (length (lower_of distance)) at) (worked Left d width 0 v (back_at w) m at) (w (length distance - 1))) ys) r.0.1.1 z.0),
        z.1 ∙ r.0.0.1.1,
      ))
