-- The bits that the rules of a process update: those of each rule.
use Rattle.std.proofs.Common.{◌≡◌, Bool, true, false, List, [], ◌∷◌, ◌++◌, ◌⊎◌, inl, inr, ⊎_elim, refl, sym, ◌∙◌, ap, subst, true≢false}
use Rattle.std.specs.Prelude.{if◌then◌else◌, ◌==◌}
use Rattle.std.proofs.lemmas.Bool.{and_parts}
use Rattle.std.proofs.lemmas.Bool.Decides.{Decides-eqb}
use Rattle.rtl_sig.specs.declared.sig.WireBit.{WireBit}
use Rattle.rtl_ir.specs.declared.process.SyncRule.{SyncRule}
use Rattle.rtl_ir.specs.Assigns.{left_bits}
use Rattle.rtl_ir.specs.Rules.{without_bit, beyond, updated_by}
use Rattle.rtl_ir.specs.Signals.{same_bit}
use Rattle.net_model.specs.Lists.{In, Distinct}
use Rattle.net_model.proofs.Members.{In-left, In-right, apart_at, apart_from}
use Rattle.check_laws.proofs.Parts.{IsPart, part_trans, part_left}
use Rattle.check_laws.proofs.Counting.{same_self}

pub same_is : (b c : WireBit) → same_bit b c ≡ true → b ≡ c
same_is b c e =
    let k = and_parts (b.wire == c.wire) (b.at == c.at) e in
    let wire : b.wire ≡ c.wire = (Decides-eqb b.wire c.wire).0 k.0 in
    let at : b.at ≡ c.at = (Decides-eqb b.at c.at).0 k.1 in
    λ i. record { wire = wire i; at = at i }

-- what is taken out of bits is the one bit
kept : (b x : WireBit) (ys : List WireBit) → In x ys → (x ≡ b) ⊎ In x (without_bit b ys)
kept b x [] i = absurd i
kept b x (c ∷ ys) i = by (same_bit b c) refl (kept b x ys) i
  where
    by : (t : Bool) → same_bit b c ≡ t → (In x ys → (x ≡ b) ⊎ In x (without_bit b ys)) → In x (c ∷ ys) → (x ≡ b) ⊎ In x (if t then ys else c ∷ without_bit b ys)
    by true e later (inl p) = inl (p ∙ sym (same_is b c e))
    by true e later (inr j) = inr j
    by false e later (inl p) = inr (inl p)
    by false e later (inr j) = ⊎_elim (λ l. inl l) (λ r. inr (inr r)) (later j)

once_with : (b : WireBit) (ys : List WireBit) → Distinct (without_bit b ys) → (In b (without_bit b ys) → ⊥) → Distinct ys
once_with b [] u h = tt
once_with b (c ∷ ys) u h = by (same_bit b c) refl (once_with b ys) u h
  where
    by : (t : Bool) → same_bit b c ≡ t → (Distinct (without_bit b ys) → (In b (without_bit b ys) → ⊥) → Distinct ys) → Distinct (if t then ys else c ∷ without_bit b ys) → (In b (if t then ys else c ∷ without_bit b ys) → ⊥) → Distinct (c ∷ ys)
    by true e later v k = (apart_from c ys (λ y i f. k (subst (λ z. In z ys) (sym f ∙ sym (same_is b c e)) i)), v)
    by false e later v k = (
      apart_from c ys (λ y i f. ⊎_elim
          (λ p. true≢false (sym (same_self b) ∙ ap (same_bit b) (sym p ∙ sym f) ∙ e))
          (λ j. apart_at c (without_bit b ys) v.0 y j f)
          (kept b y ys i)),
      later v.1 (λ j. k (inr j)),
    )

in_both : (xs ys : List WireBit) (x : WireBit) → In x ys → In x xs ⊎ In x (beyond xs ys)
in_both [] ys x i = inr i
in_both (b ∷ xs) ys x i =
    ⊎_elim (λ p. inl (inl p)) (λ j. ⊎_elim (λ l. inl (inr l)) (λ r. inr r) (in_both xs (without_bit b ys) x j)) (kept b x ys i)

once_both : (xs ys : List WireBit) → Distinct (xs ++ beyond xs ys) → Distinct ys
once_both [] ys u = u
once_both (b ∷ xs) ys u =
    once_with b ys (once_both xs (without_bit b ys) u.1)
    (λ j. apart_at b (xs ++ beyond xs (without_bit b ys)) u.0 b
    (⊎_elim (λ l. In-left b xs (beyond xs (without_bit b ys)) l) (λ r. In-right b xs (beyond xs (without_bit b ys)) r) (in_both xs (without_bit b ys) b j))
    refl)

beyond_part : (xs ys : List WireBit) → IsPart ys (xs ++ beyond xs ys)
beyond_part xs ys = record {
  each = λ x i. ⊎_elim (λ l. In-left x xs (beyond xs ys) l) (λ r. In-right x xs (beyond xs ys) r) (in_both xs ys x i);
  once = once_both xs ys;
}

-- the bits of the first rule, and of those behind it
pub first_updates : (a : SyncRule) (rules : List SyncRule) → IsPart (left_bits a.updates) (updated_by (a ∷ rules))
first_updates a rules = part_left (left_bits a.updates) (beyond (left_bits a.updates) (updated_by rules))

pub second_updates : (a b : SyncRule) (rules : List SyncRule) → IsPart (left_bits b.updates) (updated_by (a ∷ b ∷ rules))
second_updates a b rules =
    part_trans (left_bits b.updates) (updated_by (b ∷ rules)) (updated_by (a ∷ b ∷ rules)) (first_updates b rules)
    (beyond_part (left_bits a.updates) (updated_by (b ∷ rules)))
