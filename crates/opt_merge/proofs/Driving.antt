-- How often bits are driven while cells go.
use Rattle.std.proofs.Common.{◌≡◌, suc, ◌+◌, ◌≤◌, Bool, true, false, cond, List, [], ◌∷◌, ◌++◌, map, Option, Some, None, inl, inr, refl, sym, ap, subst, arith}
use Rattle.std.proofs.lemmas.List.{map-append}
use Rattle.rtl_sig.specs.declared.sig.SigBit.{SigBit}
use Rattle.rtl_sig.specs.declared.sig.SigBit.TheVariants as sig
use Rattle.rtl_sig.specs.declared.sig.WireBit.{WireBit}
use Rattle.rtl_ir.specs.declared.module.Link.{Link}
use Rattle.rtl_ir.specs.Follow.{all_joins, joins, source_at}
use Rattle.rtl_ir.specs.declared.follow.Join.{Join}
use Rattle.rtl_ir.specs.Signals.{same_bit, wire_bits}
use Rattle.net_index.proofs.IndexTables.{same_bit-refl, same_bit-true}
use Rattle.net_model.specs.Lists.{In}
use Rattle.net_alias.proofs.Joining.{link_last}
use Rattle.opt_merge.specs.State.{linked_by, times}

pub times_append : (b : WireBit) (xs ys : List WireBit) → times b (xs ++ ys) ≡ times b xs + times b ys
times_append b [] ys = omega arith
times_append b (x ∷ xs) ys = by (same_bit x b) (times_append b xs ys)
  where
    by : (t : Bool) → times b (xs ++ ys) ≡ times b xs + times b ys → cond t (suc (times b (xs ++ ys))) (times b (xs ++ ys)) ≡ cond t (suc (times b xs)) (times b xs) + times b ys
    by true e = omega (arith, e)
    by false e = e

-- the places of joined sides
bits_of_joins : List Join → List WireBit
bits_of_joins js = map (λ (j : Join). j.bit) js

-- a bit with a source is among them
pub source_times : (b : WireBit) (js : List Join) (r : SigBit) → source_at js b ≡ Some r → 1 ≤ times b (map (λ (j : Join). j.bit) js)
source_times b [] r e = absurd (cc)
source_times b (j ∷ js) r e = by (same_bit j.bit b) e (source_times b js r)
  where
    by : (t : Bool) → cond t (Some j.source) (source_at js b) ≡ Some r → (source_at js b ≡ Some r → 1 ≤ times b (map (λ (j : Join). j.bit) js))
        → 1 ≤ cond t (suc (times b (map (λ (j : Join). j.bit) js))) (times b (map (λ (j : Join). j.bit) js))
    by true f later = omega arith
    by false f later = later f

pub no_source : (b : WireBit) (js : List Join) → times b (map (λ (j : Join). j.bit) js) ≡ 0 → source_at js b ≡ None
no_source b js e = by (source_at js b) refl
  where
    by : (o : Option SigBit) → source_at js b ≡ o → o ≡ None
    by None f = refl
    by (Some r) f = absurd (let g = source_times b js r f in omega (arith, e, g))

-- what is joined on the left is at most its bits
pub joins_times : (b : WireBit) (left right : List SigBit) → times b (map (λ (j : Join). j.bit) (joins left right)) ≤ times b (wire_bits left)
joins_times b [] right = omega arith
joins_times b (l ∷ ls) [] = omega arith
joins_times b (sig.Fixed c ∷ ls) (r ∷ rs) = joins_times b ls rs
joins_times b (sig.Wire x ∷ ls) (r ∷ rs) = by (same_bit x b) (joins_times b ls rs)
  where
    by : (t : Bool) → times b (map (λ (j : Join). j.bit) (joins ls rs)) ≤ times b (wire_bits ls)
        → cond t (suc (times b (map (λ (j : Join). j.bit) (joins ls rs)))) (times b (map (λ (j : Join). j.bit) (joins ls rs))) ≤ cond t (suc (times b (wire_bits ls))) (times b (wire_bits ls))
    by true h = omega (arith, h)
    by false h = h

-- a bit of a signal is among its bits
pub signal_times : (b : WireBit) (signal : List SigBit) → In (sig.Wire b) signal → 1 ≤ times b (wire_bits signal)
signal_times b [] i = absurd i
signal_times b (sig.Fixed c ∷ bits) (inl e) = absurd (cc)
signal_times b (sig.Fixed c ∷ bits) (inr i) = signal_times b bits i
signal_times b (sig.Wire x ∷ bits) (inl e) = let same : b ≡ x = cc in rw (subst (λ y. same_bit y b ≡ true) same (same_bit-refl b)) (omega arith)
signal_times b (sig.Wire x ∷ bits) (inr i) = by (same_bit x b) (signal_times b bits i)
  where
    by : (t : Bool) → 1 ≤ times b (wire_bits bits) → 1 ≤ cond t (suc (times b (wire_bits bits))) (times b (wire_bits bits))
    by true h = omega arith
    by false h = h

-- what is found among the places stands on both sides
pub record Joined (left right : List SigBit) (b : WireBit) (r : SigBit) : Type 0 where
  pub left_in : In (sig.Wire b) left
  pub right_in : In r right

pub joined_in : (left right : List SigBit) (b : WireBit) (r : SigBit) → source_at (joins left right) b ≡ Some r → Joined left right b r
joined_in [] right b r e = absurd (cc)
joined_in (sig.Fixed c ∷ ls) [] b r e = absurd (cc)
joined_in (sig.Wire x ∷ ls) [] b r e = absurd (cc)
joined_in (sig.Fixed c ∷ ls) (s ∷ rs) b r e = let q = joined_in ls rs b r e in record { left_in = inr q.left_in; right_in = inr q.right_in }
joined_in (sig.Wire x ∷ ls) (s ∷ rs) b r e = by (same_bit x b) refl e (joined_in ls rs b r)
  where
    by : (t : Bool) → same_bit x b ≡ t → cond t (Some s) (source_at (joins ls rs) b) ≡ Some r → (source_at (joins ls rs) b ≡ Some r → Joined ls rs b r) → Joined (sig.Wire x ∷ ls) (s ∷ rs) b r
    by true f g later = record { left_in = inl (ap sig.Wire (sym (same_bit-true x b f))); right_in = inl (let same : s ≡ r = cc in sym same) }
    by false f g later = let q = later g in record { left_in = inr q.left_in; right_in = inr q.right_in }

pub linked_more : (b : WireBit) (links : List Link) (left right : List SigBit) → linked_by b (links ++ record { left = left; right = right } ∷ []) ≤ linked_by b links + times b (wire_bits left)
linked_more b links left right =
    let all = ap (λ js. times b (map (λ (j : Join). j.bit) js)) (link_last links (record { left = left; right = right })) in
    let split = ap (times b) (map-append (λ (j : Join). j.bit) (all_joins links) (joins left right)) in
    let sum = times_append b (map (λ (j : Join). j.bit) (all_joins links)) (map (λ (j : Join). j.bit) (joins left right)) in
    omega (arith, all, split, sum, joins_times b left right)
