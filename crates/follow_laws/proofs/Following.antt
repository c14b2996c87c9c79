-- Where the connections are solved, a bit and what it follows to have the same, as far as either is known.
use Rattle.std.proofs.Common.{◌≡◌, ℕ, zero, suc, Bool, true, false, List, [], ◌∷◌, length, Option, Some, None, inl, inr, ⊎_elim, refl, sym, ap, subst}
use Rattle.std.specs.Prelude.{◌==◌, if◌then◌else◌, unwrap_or}
use Rattle.std.specs.Option.{option_map_or}
use Rattle.std.proofs.lemmas.Bool.{and_parts, eqb-true}
use Rattle.rtl_bits.specs.declared.bit.Bit.{Bit}
use Rattle.rtl_bits.specs.declared.bit.Bit.TheVariants.{S0, S1}
use Rattle.rtl_bits.specs.Knowledge.{Below}
use Rattle.rtl_bits.proofs.Orders.{Below_refl, Below_trans}
use Rattle.rtl_sig.specs.declared.sig.SigBit.{SigBit}
use Rattle.rtl_sig.specs.declared.sig.SigBit.TheVariants as sig
use Rattle.rtl_sig.specs.declared.sig.WireBit.{WireBit}
use Rattle.rtl_ir.specs.declared.module.Link.{Link}
use Rattle.rtl_ir.specs.declared.wire.Wire.{Wire}
use Rattle.rtl_ir.specs.Flat.Driver.{Driven, Joined}
use Rattle.rtl_ir.specs.Flat.Link as flat
use Rattle.rtl_ir.specs.Flat.Link.{link_rows}
use Rattle.rtl_ir.specs.Flat.Place.{Path, Place}
use Rattle.rtl_ir.specs.Flat.Point.{Point, bit_place, point, points}
use Rattle.rtl_ir.specs.Follow.{all_joins, back, end_within, follow, follow_joins, joins, source_at}
use Rattle.rtl_ir.specs.declared.follow.Join.{Join}
use Rattle.rtl_ir.specs.Signals.{same_bit}
use Rattle.net_model.specs.Lists.{In}
use Rattle.net_model.specs.Refine.{Solved, SolvedBefore}
use Rattle.net_model.specs.Run.{Time, Start, Step}
use Rattle.net_model.specs.Valuation.{Valuation, read, passed_of}
use Rattle.net_model.proofs.Members.{In-cases, In-left, In-right}
use Rattle.follow_laws.specs.Alike.{Alike, ReadAlike}

-- what a connection passes on
pass_below : (b : Bit) → Below (passed_of b) b
pass_below S0 = refl
pass_below S1 = refl
pass_below b = tt

below_pass : (b : Bit) → Below b (passed_of b)
below_pass S0 = refl
below_pass S1 = refl
below_pass b = tt

pub Alike_refl : (w : Valuation) (a : Point) → Alike w a a
Alike_refl w a = record { there = Below_refl (read w a); back = Below_refl (read w a) }

pub Alike_trans : (w : Valuation) (a b c : Point) → Alike w a b → Alike w b c → Alike w a c
Alike_trans w a b c h k = record {
  there = Below_trans (read w a) (read w b) (read w c) h.there k.there;
  back = Below_trans (read w c) (read w b) (read w a) k.back h.back;
}

pub same_bit-same : (a b : WireBit) → same_bit a b ≡ true → a ≡ b
same_bit-same a b e =
    let both = and_parts (a.wire == b.wire) (a.at == b.at) e in
    let wire = eqb-true a.wire b.wire both.0 in
    let at = eqb-true a.at b.at both.1 in
    λ i. record { wire = wire i; at = at i }

-- what is found for a bit stands among the places
pub source_in : (js : List Join) (b : WireBit) (r : SigBit) → source_at js b ≡ Some r → In (record { bit = b; source = r }) js
source_in [] b r e = absurd (cc)
source_in (j ∷ js) b r e =
    by (same_bit j.bit b) refl e (source_in js b r)
  where
    by : (t : Bool) → same_bit j.bit b ≡ t → (if t then Some j.source else source_at js b) ≡ Some r → (source_at js b ≡ Some r → In (record { bit = b; source = r }) js) → In (record { bit = b; source = r }) (j ∷ js)
    by true f g later =
        let bit : b ≡ j.bit = sym (same_bit-same j.bit b f) in
        let source : r ≡ j.source = cc in
        inl (λ i. record { bit = bit i; source = source i })
    by false f g later = inr (later g)

-- a bit that no connection drives is followed to itself
pub stays : (links : List Link) (s : SigBit) → back (all_joins links) s ≡ None → follow links s ≡ s
unfolding follow_joins
stays links s e =
    by (length (all_joins links))
  where
    by : (n : ℕ) → unwrap_or (end_within (all_joins links) n s) s ≡ s
    by zero = ap (λ o. unwrap_or (option_map_or (λ (r : SigBit). None) o (Some s)) s) e
    by (suc n) = ap (λ o. unwrap_or (option_map_or (end_within (all_joins links) n) o (Some s)) s) e

module _ (p : Path) (wires : List Wire) where
  -- the row of a place of a connection
  abbrev pub join_row : Join → Driven
  join_row j = record { place = bit_place p wires j.bit; driver = Joined (point p wires j.source) }

  join_in : (left right : List SigBit) (j : Join) → In j (joins left right) → In (join_row j) (flat.joins (points p wires left) (points p wires right))
  join_in [] right j i = absurd i
  join_in (l ∷ left) [] j i = absurd i
  join_in (sig.Fixed c ∷ left) (r ∷ right) j i = join_in left right j i
  join_in (sig.Wire b ∷ left) (r ∷ right) j (inl e) = inl (ap join_row e)
  join_in (sig.Wire b ∷ left) (r ∷ right) j (inr i) = inr (join_in left right j i)

  pub link_in : (links : List Link) (j : Join) → In j (all_joins links) → In (join_row j) (link_rows p wires links)
  link_in [] j i = absurd i
  link_in (l ∷ links) j i =
      let here : List Driven = flat.joins (points p wires l.left) (points p wires l.right) in
      ⊎_elim
      (λ a. In-left (join_row j) here (link_rows p wires links) (join_in l.left l.right j a))
      (λ b. In-right (join_row j) here (link_rows p wires links) (link_in links j b))
      (In-cases j (joins l.left l.right) (all_joins links) i)

  module _ (links : List Link) (t : Time Place) (w : Valuation) (solved : Solved (link_rows p wires links) t w) where
    abbrev Like : SigBit → SigBit → Type 0
    Like s r = Alike w (point p wires s) (point p wires r)

    -- one connection back
    back_alike : (s r : SigBit) → back (all_joins links) s ≡ Some r → Like s r
    back_alike (sig.Fixed c) r e = absurd (cc)
    back_alike (sig.Wire b) r e =
        let i : In (join_row (record { bit = b; source = r })) (link_rows p wires links) = link_in links (record { bit = b; source = r }) (source_in (all_joins links) b r e) in
        let given : Bit = read w (point p wires r) in
        record {
          there = Below_trans (w (bit_place p wires b)) (passed_of given) given (solved.tight (join_row (record { bit = b; source = r })) i) (pass_below given);
          back = Below_trans given (passed_of given) (w (bit_place p wires b)) (below_pass given) (solved.met (join_row (record { bit = b; source = r })) i);
        }

    end_alike : (n : ℕ) (s e : SigBit) → end_within (all_joins links) n s ≡ Some e → Like s e
    end_alike zero s e f = by (back (all_joins links) s) f
      where
        by : (o : Option SigBit) → option_map_or (λ (r : SigBit). None) o (Some s) ≡ Some e → Like s e
        by None g = let same : s ≡ e = cc in subst (Like s) same (Alike_refl w (point p wires s))
        by (Some r) g = absurd (cc)
    end_alike (suc n) s e f = by (back (all_joins links) s) refl f (λ r. end_alike n r e)
      where
        by : (o : Option SigBit) → back (all_joins links) s ≡ o → option_map_or (end_within (all_joins links) n) o (Some s) ≡ Some e → ((r : SigBit) → end_within (all_joins links) n r ≡ Some e → Like r e) → Like s e
        by None h g go = let same : s ≡ e = cc in subst (Like s) same (Alike_refl w (point p wires s))
        by (Some r) h g go = Alike_trans w (point p wires s) (point p wires r) (point p wires e) (back_alike s r h) (go r g)

    -- a bit, and what it follows to
    pub follow_alike : (s : SigBit) → Alike w (point p wires s) (point p wires (follow links s))
    unfolding follow_joins
    follow_alike s = by (end_within (all_joins links) (length (all_joins links)) s) refl
      where
        by : (o : Option SigBit) → end_within (all_joins links) (length (all_joins links)) s ≡ o → Like s (unwrap_or o s)
        by None e = Alike_refl w (point p wires s)
        by (Some r) e = end_alike (length (all_joins links)) s r e

  -- in the step before too
  pub follow_read : (links : List Link) (t : Time Place) (w : Valuation) → Solved (link_rows p wires links) t w → SolvedBefore (link_rows p wires links) t → (s : SigBit) → ReadAlike t w (point p wires s) (point p wires (follow links s))
  follow_read links Start w solved before s = record { before = tt; now = follow_alike links Start w solved s }
  follow_read links (Step v x first) w solved before s = record {
    before = follow_alike links before.0 v before.1 s;
    now = follow_alike links (Step v x first) w solved s;
  }
