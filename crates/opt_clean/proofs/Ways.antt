-- What bits come from along the connections, where x stands for the way into a loop.
use Rattle.std.proofs.Common.{◌≡◌, suc, ◌≤◌, List, length, Option, Some, None, unwrap_or, ◌⊎◌, inl, inr, refl, sym, ◌∙◌, ap, arith}
use Rattle.rtl_bits.specs.declared.bit.Bit.TheVariants.{X}
use Rattle.rtl_sig.specs.declared.sig.SigBit.{SigBit}
use Rattle.rtl_sig.specs.declared.sig.SigBit.TheVariants.{Fixed, Wire as OnWire}
use Rattle.rtl_sig.specs.declared.sig.WireBit.{WireBit}
use Rattle.rtl_ir.specs.Follow.{back, end_within, follow_joins}
use Rattle.rtl_ir.specs.declared.follow.Join.{Join}
use Rattle.net_index.proofs.IndexEnds.{ends_all, ends_here, ends_later, ends_on}

-- the end of the way from a bit, and x where the way runs into a loop
abbrev pub origin : List Join → SigBit → SigBit
origin js s = unwrap_or (end_within js (length js) s) (Fixed X)

module _ (js : List Join) where
  pub origin_here : (s : SigBit) → back js s ≡ None → origin js s ≡ s
  origin_here s e = ap (λ o. unwrap_or o (Fixed X)) (ends_here js (length js) s e)

  same_ends : (s r : SigBit) → back js s ≡ Some r → end_within js (length js) s ≡ end_within js (length js) r
  same_ends s r e = by (end_within js (length js) s) (end_within js (length js) r) refl refl
    where
      by : (o q : Option SigBit) → end_within js (length js) s ≡ o → end_within js (length js) r ≡ q → end_within js (length js) s ≡ end_within js (length js) r
      by o (Some z) f g = ends_all js (suc (length js)) s z (ends_on js (length js) s r e ∙ g) ∙ sym g
      by None None f g = f ∙ sym g
      by (Some z) None f g =
          let later : length js ≤ suc (length js) = omega arith in
          let more : end_within js (suc (length js)) s ≡ Some z = ends_later js (length js) (suc (length js)) s z later f in
          absurd (differ z (sym g ∙ sym (ends_on js (length js) s r e) ∙ more))
        where
          differ : (z : SigBit) → None ≡ Some z → ⊥
          differ z h = cc

  pub origin_on : (s r : SigBit) → back js s ≡ Some r → origin js s ≡ origin js r
  origin_on s r e = ap (λ o. unwrap_or o (Fixed X)) (same_ends s r e)

  -- the end of the way is what the bit is followed to
  pub origin_or : (s : SigBit) → (origin js s ≡ follow_joins js s) ⊎ (origin js s ≡ Fixed X)
  unfolding follow_joins
  origin_or s = by (end_within js (length js) s)
    where
      by : (o : Option SigBit) → (unwrap_or o (Fixed X) ≡ unwrap_or o s) ⊎ (unwrap_or o (Fixed X) ≡ Fixed X)
      by (Some z) = inl refl
      by None = inr refl

  pub origin_wire : (s : SigBit) (b : WireBit) → origin js s ≡ OnWire b → follow_joins js s ≡ OnWire b
  unfolding follow_joins
  origin_wire s b e = by (end_within js (length js) s) e
    where
      by : (o : Option SigBit) → unwrap_or o (Fixed X) ≡ OnWire b → unwrap_or o s ≡ OnWire b
      by (Some z) f = f
      by None f = absurd (cc)
