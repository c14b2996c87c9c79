-- Signals of a module on the copies of its wires, behind the wires of another module.
use Rattle.std.proofs.Common.{◌≡◌, ℕ, zero, suc, ◌+◌, ◌<◌, Bool, true, false, cond, not, List, [], ◌∷◌, ◌++◌, length, map, Some, inl, inr, refl, sym, ◌∙◌, ap, subst, arith}
use Rattle.std.specs.Prelude.{IsSomeAnd, slice_get}
use Rattle.std.specs.List.{All, AllByRecursion, IsDistinct, range_with_len}
use Rattle.std.specs.Str.{bytes_eq}
use Rattle.std.proofs.lemmas.List.{length-map}
use Rattle.std.proofs.lemmas.List.Elements.{All-cons, All-map, All-nil, All-weaker}
use Rattle.rtl_sig.specs.Names.{AreDistinct}
use Rattle.rtl_sig.specs.declared.sig.SigBit.{SigBit}
use Rattle.rtl_sig.specs.declared.sig.SigBit.TheVariants.{Fixed, Wire as OnWire}
use Rattle.rtl_ir.specs.declared.cell.Pin.{Pin}
use Rattle.rtl_ir.specs.declared.module.Link.{Link}
use Rattle.rtl_ir.specs.declared.wire.Wire.{Wire}
use Rattle.rtl_ir.specs.Build.{whole}
use Rattle.net_model.specs.Lists.{In}
use Rattle.rtl_readable.specs.Readable.{IsBitOf, IsLink, IsPin, IsSignal}
use Rattle.flat_pass.specs.Copies.{copied_bit, copied_link, copied_pin, copied_signal}
use Rattle.flat_pass.specs.Flat.{place_of_wire}
use Rattle.flat_pass.proofs.Partners.{Paired, WireCopied, bytes_same, get_after, wire_name}

-- a copied wire is as wide
wide_at : (ws ks : List Wire) → Paired WireCopied ws ks → (at n : ℕ) → IsSomeAnd (slice_get ws at) (λ (w : Wire). n < w.width) → IsSomeAnd (slice_get ks at) (λ (w : Wire). n < w.width)
wide_at [] [] p at n h = absurd h
wide_at (w ∷ ws) (k ∷ ks) p zero n h = subst (λ z. n < z) (sym p.0.1) h
wide_at (w ∷ ws) (k ∷ ks) p (suc at) n h = wide_at ws ks p.1 at n h
wide_at [] (k ∷ ks) p at n h = absurd p
wide_at (w ∷ ws) [] p at n h = absurd p

module _ (own new ws : List Wire) (paired : Paired WireCopied ws new) where
  abbrev all : List Wire
  all = own ++ new

  pub bit_copied : (s : SigBit) → IsBitOf ws s → IsBitOf (own ++ new) (copied_bit (length own) s)
  bit_copied (Fixed b) h = tt
  bit_copied (OnWire b) h =
      subst (λ o. IsSomeAnd o (λ (w : Wire). b.at < w.width)) (sym (get_after own new b.wire)) (wide_at ws new paired b.wire b.at h)

  pub signal_copied : (sig : List SigBit) → IsSignal ws sig → IsSignal (own ++ new) (copied_signal (length own) sig)
  signal_copied sig is = record {
    bits = All-map (IsBitOf (own ++ new)) (copied_bit (length own)) sig (All-weaker (IsBitOf ws) (λ s. IsBitOf (own ++ new) (copied_bit (length own) s)) bit_copied sig is.bits);
    width = rw length-map is.width;
  }

  pub link_copied : (l : Link) → IsLink ws l → IsLink (own ++ new) (copied_link (length own) l)
  link_copied l is = record { left = signal_copied l.left is.left; right = signal_copied l.right is.right }

  pub pin_copied : (p : Pin) → IsPin ws p → IsPin (own ++ new) (copied_pin (length own) p)
  pin_copied p is = record { name = is.name; sig = signal_copied p.sig is.sig }

-- ---- the whole signal of a wire

whole_from : (P : SigBit → Type 0) (wire from n : ℕ) → ((at : ℕ) → at < from + n → P (OnWire (record { wire = wire; at = at }))) → All P (map OnWire (map (λ at. record { wire = wire; at = at }) (range_with_len from n)))
whole_from P wire from zero h = All-nil P
whole_from P wire from (suc n) h =
    All-cons P (OnWire (record { wire = wire; at = from })) _ (h from (omega arith)) (whole_from P wire (from + 1) n (λ at l. h at (omega (arith, l))))

pub whole_bits : (P : SigBit → Type 0) (wire width : ℕ) → ((at : ℕ) → at < width → P (OnWire (record { wire = wire; at = at }))) → All P (whole wire width)
whole_bits P wire width h = whole_from P wire 0 width (λ at l. h at (omega (arith, l)))

long_from : (wire from n : ℕ) → length (map OnWire (map (λ at. record { wire = wire; at = at }) (range_with_len from n))) ≡ n
long_from wire from zero = refl
long_from wire from (suc n) = omega (arith, long_from wire (from + 1) n)

pub whole_long : (wire width : ℕ) → length (whole wire width) ≡ width
whole_long wire width = long_from wire 0 width

-- the place of a wire of a list in which no two have one name
apart_from : (name : List ℕ) (ws : List Wire) (w : Wire) → AllByRecursion (λ y. bytes_eq name y ≡ false) (map wire_name ws) → In w ws → bytes_eq name w.name ≡ false
apart_from name [] w h i = absurd i
apart_from name (v ∷ ws) w h (inl e) = ap (λ (z : Wire). bytes_eq name z.name) e ∙ h.0
apart_from name (v ∷ ws) w h (inr i) = apart_from name ws w h.1 i

pub place_is : (ws : List Wire) (w : Wire) → AreDistinct (map wire_name ws) → In w ws → slice_get ws (place_of_wire ws w.name) ≡ Some w
unfolding IsDistinct
place_is [] w d i = absurd i
place_is (v ∷ ws) w d i = by (bytes_eq v.name w.name) refl i (λ j. place_is ws w d.1 j)
  where
    there : Bool → ℕ
    there t = cond (not t) (1 + place_of_wire ws w.name) 0

    by : (t : Bool) → bytes_eq v.name w.name ≡ t → In w (v ∷ ws) → (In w ws → slice_get ws (place_of_wire ws w.name) ≡ Some w) → slice_get (v ∷ ws) (there t) ≡ Some w
    by true e (inl s) later = ap Some (sym s)
    by true e (inr j) later =
        let no : true ≡ false = sym e ∙ apart_from v.name ws w d.0 j in
        absurd cc
    by false e (inl s) later =
        let no : true ≡ false = sym (ap (λ (z : Wire). bytes_eq z.name w.name) (sym s) ∙ bytes_same w.name) ∙ e in
        absurd cc
    by false e (inr j) later =
        let is : 1 + place_of_wire ws w.name ≡ suc (place_of_wire ws w.name) = omega arith in
        ap (slice_get (v ∷ ws)) is ∙ later j
