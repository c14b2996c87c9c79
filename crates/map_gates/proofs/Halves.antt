-- Words of parts, whose parts become half as many by each select bit, and what the net of that has.
use Rattle.std.proofs.Common.{◌≡◌, ℕ, zero, suc, ◌+◌, ◌*◌, ◌/◌, ◌^◌, ◌<◌, ◌≤◌, min, Bool, true, false, List, [], ◌∷◌, ◌++◌, length, drop, get_or, map, inl, inr, refl, sym, ◌∙◌, ap, subst, arith}
use Rattle.std.specs.Prelude.{slice_index_or}
use Rattle.std.specs.List.{range_with_len}
use Rattle.std.proofs.Math.Nat.{div-mul-le_self, pow-suc}
use Rattle.std.proofs.lemmas.Nat.{div-mul-add, mul-add-lt}
use Rattle.std.proofs.lemmas.List.FromFn.{get_or-map-range_with_len, length-map-range_with_len, map-range_with_len_more}
use Rattle.cell_word.proofs.Numbered.{halved_of as halved_value}
use Rattle.rtl_bits.specs.Knowledge.{Below}
use Rattle.rtl_bits.specs.Tables.{mux_of, seen_of}
use Rattle.rtl_bits.specs.declared.bit.Bit.{Bit}
use Rattle.rtl_bits.specs.declared.bit.Bit.TheVariants.{X}
use Rattle.rtl_ir.specs.Build.{Building}
use Rattle.rtl_sig.specs.declared.sig.SigBit.{SigBit}
use Rattle.rtl_sig.specs.declared.sig.SigBit.TheVariants.{Fixed}
use Rattle.net_model.specs.Lists.{In}
use Rattle.net_index.specs.Builder.{IsInLimits, PassesLimit}
use Rattle.gate_nets.proofs.Limits.{pairs_limits}
use Rattle.gate_nets.proofs.Nets.{Goods, Logic, Net, length-pairs, net_also, net_pure, net_select, net_since, net_then}
use Rattle.gate_nets.proofs.Steps.{left_at}
use Rattle.gate_nets.specs.Gate.{after}
use Rattle.gate_nets.specs.declared.gate.Gate.TheVariants.{Mux}
use Rattle.map_gates.specs.Choice.{half_of, halve_of, halved_of, place_of}
use Rattle.map_gates.proofs.Choosing.{seen_below}

pub parts_low : (width at : ℕ) → at / width * width ≤ at
parts_low width at = div-mul-le_self at width

pub no_parts : (width at : ℕ) → width ≡ 0 → at / width * width ≡ 0
no_parts width at e = ap (λ n. at / width * n) e ∙ omega arith

pub half_more : (g : ℕ → SigBit) (n : ℕ) → map g (range_with_len 0 (n + 1)) ≡ map g (range_with_len 0 n) ++ g n ∷ []
half_more g n = map-range_with_len_more g 0 n n (omega arith)

-- the loop over the select bits, and where it passes a limit
pub halved_limits : (width : ℕ) (word selects : List SigBit) (b : Building) → IsInLimits (halved_of width word selects b).1 → IsInLimits b
unfolding after
halved_limits width word [] b h = h
halved_limits width word (s ∷ selects) b h =
    let here = halve_of width word s b in
    pairs_limits (λ x y. Mux x y s) (half_of false width word) (half_of true width word) b (halved_limits width here.0 selects here.1 h)

pub halved_step : (width : ℕ) (word selects : List SigBit) (at : ℕ) (d : SigBit) (next : List SigBit) (old new : Building) → at < length selects → (next, new) ≡ halve_of width word (get_or selects at d) old
    → halved_of width next (drop (at + 1) selects) new ≡ halved_of width word (drop at selects) old
unfolding after
halved_step width word selects at d next old new h e =
    ap (λ g. halved_of width g.0 (drop (at + 1) selects) g.1) e ∙ ap (λ z. halved_of width word z old) (sym (left_at selects at d h))

pub halved_over : (width : ℕ) (word selects : List SigBit) (at : ℕ) (d : SigBit) (old : Building) (all : List SigBit × Building) → at < length selects → halved_of width word (drop at selects) old ≡ all
    → PassesLimit (halve_of width word (get_or selects at d) old).1 → PassesLimit all.1
halved_over width word selects at d old all h e over fits =
    let here = halve_of width word (get_or selects at d) old in
    over (halved_limits width here.0 (drop (at + 1) selects) here.1 (subst (λ z. IsInLimits z.1) (sym (halved_step width word selects at d here.0 old here.1 h refl ∙ e)) fits))

-- the bits of the parts, by the select bits
abbrev pub next_bits : ℕ → List Bit → Bit → List Bit
next_bits width word c =
    map (λ at. mux_of (slice_index_or word (place_of false width at) X) (slice_index_or word (place_of true width at) X) c) (range_with_len 0 (length word / 2))

abbrev pub halved_bits : ℕ → List Bit → List Bit → List Bit
halved_bits width word [] = word
halved_bits width word (c ∷ cs) = halved_bits width (next_bits width word c) cs

-- words of parts, twice as many
half_long : (w k n : ℕ) → n ≡ w * 2 ^ suc k → n / 2 ≡ w * 2 ^ k
half_long w k n e =
    let two : w * 2 ^ suc k ≡ w * 2 ^ k + w * 2 ^ k = ap (λ z. w * z) (pow-suc 2 k) ∙ grind arith in
    omega arith

module _ (l : Logic) where
  goods_till : (u v : ℕ → Bit) (bits : List SigBit) → ((at : ℕ) → at < length bits → u at ≡ v at) → Goods l u bits → Goods l v bits
  goods_till u v [] e h = tt
  goods_till u v (b ∷ bits) e h =
      (subst (λ z. l.Has z b) (e 0 (omega arith)) h.0, goods_till (λ k. u (suc k)) (λ k. v (suc k)) bits (λ at lt. e (suc at) (omega arith)) h.1)

  goods_map : (f : ℕ → Bit) (h : ℕ → SigBit) → ((k : ℕ) → l.Has (f k) (h k)) → (from n : ℕ) → Goods l (λ at. f (from + at)) (map h (range_with_len from n))
  goods_map f h e from zero = tt
  goods_map f h e from (suc n) =
      let here : from ≡ from + 0 = omega arith in (
        subst (λ z. l.Has (f z) (h from)) here (e from),
        goods_till (λ at. f (from + 1 + at)) (λ at. f (from + suc at)) (map h (range_with_len (from + 1) n)) (λ at lt. let same : from + 1 + at ≡ from + suc at = omega arith in ap f same) (goods_map f h e (from + 1) n),
      )

  -- a bit at any place, x past the end of both
  goods_at : (word : List Bit) (bits : List SigBit) → length bits ≡ length word → Goods l (λ k. slice_index_or word k X) bits → (at : ℕ) → l.Has (slice_index_or word at X) (slice_index_or bits at (Fixed X))
  goods_at [] [] e h at = l.constant X
  goods_at [] (b ∷ bits) e h at = absurd (omega arith)
  goods_at (v ∷ word) [] e h at = absurd (omega arith)
  goods_at (v ∷ word) (b ∷ bits) e h zero = h.0
  goods_at (v ∷ word) (b ∷ bits) e h (suc at) = goods_at word bits (omega arith) h.1 at

  goods_half : (odd : Bool) (width : ℕ) (word : List Bit) (bits : List SigBit) → length bits ≡ length word → Goods l (λ k. slice_index_or word k X) bits
      → Goods l (λ at. slice_index_or word (place_of odd width at) X) (half_of odd width bits)
  goods_half odd width word bits e h =
      goods_till (λ at. slice_index_or word (place_of odd width (0 + at)) X) (λ at. slice_index_or word (place_of odd width at) X) (half_of odd width bits) (λ at lt. let same : 0 + at ≡ at = omega arith in ap (λ z. slice_index_or word (place_of odd width z) X) same)
      (goods_map (λ at. slice_index_or word (place_of odd width at) X) (λ at. slice_index_or bits (place_of odd width at) (Fixed X)) (λ k. goods_at word bits e h (place_of odd width k)) 0 (length bits / 2))

  pub net_halved : (width : ℕ) (word : List Bit) (g : SigBit → Bit) (bits selects : List SigBit) {R : Type 0} → (R → Goods l (λ k. slice_index_or word k X) bits) → (R → length bits ≡ length word) → ((x : SigBit) → In x selects → l.Has (g x) x)
      → Net l R (halved_of width bits selects) (λ ys. Goods l (λ k. slice_index_or (halved_bits width word (map g selects)) k X) ys × ((w : ℕ) → length bits ≡ w * 2 ^ length selects → length ys ≡ w))
  net_halved width word g bits [] h e j = net_pure l (λ r. (h r, λ w is. is ∙ omega arith))
  net_halved width word g bits (s ∷ selects) h e j =
      net_then l (net_also l {V = λ ys. length ys ≡ min (length (half_of false width bits)) (length (half_of true width bits))}
      (net_select l (λ at. slice_index_or word (place_of false width at) X) (λ at. slice_index_or word (place_of true width at) X) (g s) (half_of false width bits) (half_of true width bits) s (λ r. goods_half false width word bits (e r) (h r)) (λ r. goods_half true width word bits (e r) (h r)) (λ r. j s (inl refl)))
      (λ old. length-pairs (λ x y. Mux x y s) (half_of false width bits) (half_of true width bits) old)) λ next.
      net_since l (net_halved width (next_bits width word (g s)) g next selects (λ r. turned next (e r.0) (long next r.1.1) r.1.0) (λ r. long next r.1.1 ∙ ap (λ n. n / 2) (e r.0) ∙ sym (length-map-range_with_len _ 0 (length word / 2))) (λ x i. j x (inr i)))
      (λ ys r z. (z.0, λ w is. z.1 w (long next r.1.1 ∙ half_long w (length selects) (length bits) is)))
    where
      long : (next : List SigBit) → length next ≡ min (length (half_of false width bits)) (length (half_of true width bits)) → length next ≡ length bits / 2
      long next is = omega (arith, is, length-map-range_with_len (λ at. slice_index_or bits (place_of false width at) (Fixed X)) 0 (length bits / 2), length-map-range_with_len (λ at. slice_index_or bits (place_of true width at) (Fixed X)) 0 (length bits / 2))

      turned : (next : List SigBit) → length bits ≡ length word → length next ≡ length bits / 2 → Goods l (λ at. mux_of (slice_index_or word (place_of false width at) X) (slice_index_or word (place_of true width at) X) (g s)) next
          → Goods l (λ k. slice_index_or (next_bits width word (g s)) k X) next
      turned next same is goods =
          goods_till (λ at. mux_of (slice_index_or word (place_of false width at) X) (slice_index_or word (place_of true width at) X) (g s)) (λ k. slice_index_or (next_bits width word (g s)) k X) next
          (λ at lt. sym (get_or-map-range_with_len (λ at. mux_of (slice_index_or word (place_of false width at) X) (slice_index_or word (place_of true width at) X) (g s)) 0 (length word / 2) at at X (subst (λ n. at < n) (is ∙ ap (λ n. n / 2) same) lt) (omega arith)))
          goods

-- the part that bits choose does not depend on parts past the last
halved_same : (s : List Bit) (f g : ℕ → Bit) → ((i : ℕ) → i < 2 ^ length s → f i ≡ g i) → halved_value f s ≡ halved_value g s
halved_same [] f g e = ap seen_of (e 0 (omega arith))
halved_same (c ∷ s) f g e =
    halved_same s (λ p. mux_of (f (p + p)) (f (p + p + 1)) c) (λ p. mux_of (g (p + p)) (g (p + p + 1)) c) (λ p lt.
    let two : 2 ^ suc (length s) ≡ 2 ^ length s + 2 ^ length s = omega (arith, pow-suc 2 (length s)) in
    λ i. mux_of (e (p + p) (omega arith) i) (e (p + p + 1) (omega arith) i) c)

-- the bits of the part are at least what the bits choose
pub halved_below : (w b : ℕ) → b < w → (cs word : List Bit) → length word ≡ w * 2 ^ length cs → Below (halved_value (λ i. slice_index_or word (i * w + b) X) cs) (slice_index_or (halved_bits w word cs) b X)
halved_below w b lt [] word e =
    let own : 0 * w + b ≡ b = omega arith in
    subst (λ z. Below (seen_of (slice_index_or word z X)) (slice_index_or word b X)) (sym own) (seen_below (slice_index_or word b X))
halved_below w b lt (c ∷ cs) word e =
    let half : length word / 2 ≡ w * 2 ^ length cs = half_long w (length cs) (length word) e in
    let next : List Bit = next_bits w word c in
    let long : length next ≡ w * 2 ^ length cs = length-map-range_with_len _ 0 (length word / 2) ∙ half in
    subst (λ z. Below z (slice_index_or (halved_bits w next cs) b X)) (sym (halved_same cs (λ p. mux_of (slice_index_or word ((p + p) * w + b) X) (slice_index_or word ((p + p + 1) * w + b) X) c) (λ i. slice_index_or next (i * w + b) X) (λ i small.
    let row : (i * w + b) / w ≡ i = div-mul-add i w b lt in
    let even : (i + i) * w + b ≡ place_of false w (i * w + b) = (let sum : (i + i) * w + b ≡ i * w + b + i * w + 0 = grind arith in sum) ∙ ap (λ z. i * w + b + z * w + 0) (sym row) in
    let odd : (i + i + 1) * w + b ≡ place_of true w (i * w + b) = (let sum : (i + i + 1) * w + b ≡ i * w + b + i * w + w = grind arith in sum) ∙ ap (λ z. i * w + b + z * w + w) (sym row) in
    let in_half : i * w + b < length word / 2 = subst (λ n. i * w + b < n) (sym half) (mul-add-lt i w b (2 ^ length cs) small lt) in
    (λ k. mux_of (slice_index_or word (even k) X) (slice_index_or word (odd k) X) c)
    ∙ sym (get_or-map-range_with_len (λ at. mux_of (slice_index_or word (place_of false w at) X) (slice_index_or word (place_of true w at) X) c) 0 (length word / 2) (i * w + b) (i * w + b) X in_half (omega arith)))))
    (halved_below w b lt cs next long)
