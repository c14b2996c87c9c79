-- What is counted of bits one after another.
use Rattle.std.proofs.Common.{◌≡◌, ℕ, suc, ◌+◌, ◌-◌, ◌<◌, min, List, [], ◌∷◌, ◌++◌, length, get_or, take, drop, map, flat_map, append-nil, refl, sym, ◌∙◌, ap, subst, arith, add-one}
use Rattle.std.specs.List.{range_with_len}
use Rattle.std.proofs.Math.Seq.{drop-cons, take-suc}
use Rattle.rtl_sig.specs.declared.sig.WireBit.{WireBit}
use Rattle.rtl_ir.specs.declared.process.Process.{Process}
use Rattle.rtl_ir.specs.declared.wire.Wire.{Wire}
use Rattle.process_check.specs.Updates.{AreAlike, times}
use Rattle.process_check.proofs.Among.{flat_map-append}
use Rattle.process_check.proofs.Updating.{times-append}
use Rattle.rtl_check.specs.Tallies.{HasCounted, Tallied, bits_of_port, bits_of_rules, port_bits, with_bit, with_bits}

-- the bits of a wire from one on, so many
abbrev pub bits_from : ℕ → ℕ → ℕ → List WireBit
bits_from wire at count = map (λ k. record { wire = wire; at = k }) (range_with_len at count)

-- the next bit of a wire, and those behind it
pub bits_from-next : (wire at width : ℕ) → at < width → bits_from wire at (width - at) ≡ record { wire = wire; at = at } ∷ bits_from wire (at + 1) (width - (at + 1))
bits_from-next wire at width h =
    let e : width - at ≡ suc (width - (at + 1)) = omega arith in
    ap (bits_from wire at) e

-- bits of one list and then of another
pub with_bits-append : (t : Tallied) (xs ys : List WireBit) → with_bits t (xs ++ ys) ≡ with_bits (with_bits t xs) ys
with_bits-append t [] ys = refl
with_bits-append t (x ∷ xs) ys = with_bits-append (with_bit t x) xs ys

-- what is counted of the next item, and then of those behind it
pub counted_next : {A : Type 0} (f : A → List WireBit) (items : List A) (i : ℕ) (x : A) → i < length items → x ≡ get_or items i x
    → (t new all : Tallied) → new ≡ with_bits t (f x) → with_bits t (flat_map f (drop i items)) ≡ all → with_bits new (flat_map f (drop (i + 1) items)) ≡ all
counted_next f items i x h is t new all made e =
    let here : drop i items ≡ x ∷ drop (suc i) items = drop-cons items i x h ∙ (λ j. sym is j ∷ drop (suc i) items) in
    let next : drop (i + 1) items ≡ drop (suc i) items = ap (λ n. drop n items) (add-one i) in
    (λ j. with_bits (made j) (flat_map f (next j)))
    ∙ sym (with_bits-append t (f x) (flat_map f (drop (suc i) items)))
    ∙ ap (λ xs. with_bits t (flat_map f xs)) (sym here)
    ∙ e

-- the same of ports, which go by their places
pub port_next : (wires : List Wire) (i : ℕ) (w : Wire) → i < length wires → w ≡ get_or wires i w
    → (t new all : Tallied) → new ≡ with_bits t (bits_of_port i w) → with_bits t (port_bits i (drop i wires)) ≡ all → with_bits new (port_bits (i + 1) (drop (i + 1) wires)) ≡ all
port_next wires i w h is t new all made e =
    let here : drop i wires ≡ w ∷ drop (suc i) wires = drop-cons wires i w h ∙ (λ j. sym is j ∷ drop (suc i) wires) in
    let next : drop (i + 1) wires ≡ drop (suc i) wires = ap (λ n. drop n wires) (add-one i) in
    (λ j. with_bits (made j) (port_bits (i + 1) (next j)))
    ∙ sym (with_bits-append t (bits_of_port i w) (port_bits (i + 1) (drop (suc i) wires)))
    ∙ ap (λ xs. with_bits t (port_bits i xs)) (sym here)
    ∙ e

-- the same of the bits of a wire
pub wire_next : (wire at width : ℕ) → at < width → (t all : Tallied) → with_bits t (bits_from wire at (width - at)) ≡ all
    → with_bits (with_bit t (record { wire = wire; at = at })) (bits_from wire (at + 1) (width - (at + 1))) ≡ all
wire_next wire at width h t all e = sym (ap (with_bits t) (bits_from-next wire at width h)) ∙ e

-- lists of which each bit stands in both alike, one after another
pub alike_append : (xs xs' ys ys' : List WireBit) → AreAlike xs xs' → AreAlike ys ys' → AreAlike (xs ++ ys) (xs' ++ ys')
alike_append xs xs' ys ys' e f b =
    ap (min 2) (times-append xs ys b)
    ∙ (let p = e b in let q = f b in let sum : min 2 (times xs b + times ys b) ≡ min 2 (times xs' b + times ys' b) = omega (arith, p, q) in sum)
    ∙ sym (ap (min 2) (times-append xs' ys' b))

-- what the rules of one process more update
pub updates_next : (ps : List Process) (i : ℕ) (p : Process) → i < length ps → p ≡ get_or ps i p → (old mid new : Tallied) (bits : List WireBit) → AreAlike bits (bits_of_rules p) → new ≡ with_bits mid bits
    → HasCounted old (flat_map bits_of_rules (take i ps)) mid → HasCounted old (flat_map bits_of_rules (take (i + 1) ps)) new
updates_next ps i p h is old mid new bits alike made counted =
    let more : take (i + 1) ps ≡ take i ps ++ p ∷ [] = ap (λ n. take n ps) (add-one i) ∙ take-suc ps i p h ∙ (λ j. take i ps ++ sym is j ∷ []) in
    let all : flat_map bits_of_rules (take (i + 1) ps) ≡ flat_map bits_of_rules (take i ps) ++ bits_of_rules p =
    ap (flat_map bits_of_rules) more ∙ flat_map-append bits_of_rules (take i ps) (p ∷ []) ∙ ap (λ xs. flat_map bits_of_rules (take i ps) ++ xs) (append-nil (bits_of_rules p)) in (
      counted.0 ++ bits,
      subst (AreAlike (counted.0 ++ bits)) (sym all) (alike_append counted.0 (flat_map bits_of_rules (take i ps)) bits (bits_of_rules p) counted.1 alike),
      made ∙ ap (λ t. with_bits t bits) counted.2 ∙ sym (with_bits-append old counted.0 bits),
    )
