-- The gates of `$demux` are such as a text can give, part by part.
use Rattle.std.proofs.Common.{ℕ, zero, suc, ◌+◌, ◌/◌, ◌%◌, Bool, true, false, List, [], ◌∷◌, length}
use Rattle.std.specs.Prelude.{◌==◌, drop, if◌then◌else◌, take}
use Rattle.std.specs.List.{All}
use Rattle.std.proofs.lemmas.List.Elements.{All-cons, All-drop, All-head, All-nil, All-tail, All-take, All-weaker}
use Rattle.cell_types.specs.declared.gate.GateKind.TheVariants as Kind
use Rattle.cell_types.specs.declared.word.BitwiseKind.TheVariants.{And}
use Rattle.rtl_bits.specs.declared.bit.Bit.TheVariants.{X}
use Rattle.rtl_sig.specs.declared.sig.SigBit.{SigBit}
use Rattle.rtl_ir.specs.Build.{Building}
use Rattle.rtl_ir.specs.declared.wire.Wire.{Wire}
use Rattle.rtl_readable.specs.Readable.{IsBitOf}
use Rattle.readable_laws.specs.Extends.{Extends}
use Rattle.readable_laws.proofs.Extending.{bit_later, extends_both, extends_none}
use Rattle.gate_nets.specs.Words.{inverse_of}
use Rattle.gate_nets.proofs.Nets.{net_fold, net_inverse, net_weaker}
use Rattle.map_gates.specs.Parts.{demux_gates, hit_of, hits_for, part_gates, parts_from}
use Rattle.readable_maps.proofs.Bits.{binary_extends}
use Rattle.readable_maps.proofs.Nets.{all_goods, goods_all, has, net_extends}

-- the bits that are joined for the number of a part
hits_are : (wires : List Wire) (s inverses : List SigBit) (part : ℕ) → All (IsBitOf wires) s → All (IsBitOf wires) inverses → All (IsBitOf wires) (hits_for s inverses part)
hits_are wires [] inverses part h k = All-nil (IsBitOf wires)
hits_are wires (x ∷ s) [] part h k = All-nil (IsBitOf wires)
hits_are wires (x ∷ s) (n ∷ inverses) part h k =
    All-cons (IsBitOf wires) (if part % 2 == 1 then x else n) (hits_for s inverses (part / 2)) (by (part % 2 == 1))
    (hits_are wires s inverses (part / 2) (All-tail (IsBitOf wires) x s h) (All-tail (IsBitOf wires) n inverses k))
  where
    by : (t : Bool) → IsBitOf wires (if t then x else n)
    by true = All-head (IsBitOf wires) x s h
    by false = All-head (IsBitOf wires) n inverses k

-- bits are those of a module that has more
bits_later : (a b : Building) → Extends a b → (bits : List SigBit) → All (IsBitOf a.body.wires) bits → All (IsBitOf b.body.wires) bits
bits_later a b e bits h = All-weaker (IsBitOf a.body.wires) (IsBitOf b.body.wires) (bit_later a b e) bits h

module _ (a s inverses : List SigBit) where
  -- the operands and the inverses are bits that the wires have
  record Have (b : Building) : Type 0 where
    word : All (IsBitOf b.body.wires) a
    selects : All (IsBitOf b.body.wires) s
    inverted : All (IsBitOf b.body.wires) inverses

  have_later : (b c : Building) → Extends b c → Have b → Have c
  have_later b c e h = record {
    word = bits_later b c e a h.word;
    selects = bits_later b c e s h.selects;
    inverted = bits_later b c e inverses h.inverted;
  }

  part_extends : (part : ℕ) (ys : List SigBit) (b : Building) → Have b → All (IsBitOf b.body.wires) ys → Extends b (part_gates a s inverses part ys b)
  part_extends part ys b h k =
      let m : SigBit × Building = hit_of s inverses part b in
      let hit = net_extends {W = λ wires y. IsBitOf wires y} (hit_of s inverses part) b
      (λ wires more. net_fold (has wires) And (λ at. X) (hits_for s inverses part)
      (λ r. all_goods wires (λ at. X) (hits_for s inverses part) (All-weaker (IsBitOf b.body.wires) (IsBitOf wires) more (hits_for s inverses part) (hits_are b.body.wires s inverses part h.selects h.inverted)))) in
      extends_both b m.1 (part_gates a s inverses part ys b) hit.0
      (binary_extends m.1 Kind.And true (m.0 ∷ []) a ys (All-cons (IsBitOf m.1.body.wires) m.0 [] hit.1 (All-nil (IsBitOf m.1.body.wires)))
      (bits_later b m.1 hit.0 a h.word) (bits_later b m.1 hit.0 ys k))

  parts_extend : (part most : ℕ) (ys : List SigBit) (b : Building) → Have b → All (IsBitOf b.body.wires) ys → Extends b (parts_from a s inverses part most ys b)
  parts_extend part zero ys b h k = extends_none b
  parts_extend part (suc most) [] b h k = extends_none b
  parts_extend part (suc most) (y ∷ ys) b h k =
      let xs : List SigBit = take (length a) (y ∷ ys) in
      let zs : List SigBit = drop (length a) (y ∷ ys) in
      let next : Building = part_gates a s inverses part xs b in
      let here = part_extends part xs b h (All-take (IsBitOf b.body.wires) (length a) (y ∷ ys) k) in
      extends_both b next (parts_from a s inverses (part + 1) most zs next) here
      (parts_extend (part + 1) most zs next (have_later b next here h) (bits_later b next here zs (All-drop (IsBitOf b.body.wires) (length a) (y ∷ ys) k)))

pub demux_extends : (a s ys : List SigBit) (b : Building) → All (IsBitOf b.body.wires) a → All (IsBitOf b.body.wires) s → All (IsBitOf b.body.wires) ys → Extends b (demux_gates a s ys b)
demux_extends a s ys b h j k =
    let n : List SigBit × Building = inverse_of s b in
    let inverse = net_extends {W = λ wires bits. All (IsBitOf wires) bits} (inverse_of s) b
    (λ wires more. net_weaker (has wires) (net_inverse (has wires) (λ at. X) s (λ r. all_goods wires (λ at. X) s (All-weaker (IsBitOf b.body.wires) (IsBitOf wires) more s j)))
    (λ bits w. goods_all wires _ bits w.0)) in
    extends_both b n.1 (demux_gates a s ys b) inverse.0
    (parts_extend a s n.0 0 (length ys) ys n.1 (record { word = bits_later b n.1 inverse.0 a h; selects = bits_later b n.1 inverse.0 s j; inverted = inverse.1 }) (bits_later b n.1 inverse.0 ys k))
