-- The lines of the reset's rule are even, give to bits of wires, and give to no more bits than the process did.
use Rattle.std.proofs.Common.{◌≡◌, ℕ, zero, suc, ◌+◌, ◌≤◌, Bool, true, false, cond, List, [], ◌∷◌, ◌++◌, append_assoc, length, ◌⊎◌, inl, inr, ⊎_elim, refl, sym, ◌∙◌, ap, subst, arith}
use Rattle.std.specs.Prelude.{if◌then◌else◌, map, not, take, ◌==◌}
use Rattle.std.proofs.lemmas.Bool.{eq-eqb}
use Rattle.rtl_sig.specs.declared.sig.SigBit.{SigBit}
use Rattle.rtl_sig.specs.declared.sig.SigBit.TheVariants.{Wire as OnWire}
use Rattle.rtl_sig.specs.declared.sig.WireBit.{WireBit}
use Rattle.rtl_ir.specs.Assigns.{left_bits}
use Rattle.rtl_ir.specs.Faults.Links.{is_uneven}
use Rattle.rtl_ir.specs.Faults.TwoEdges.{EdgeBit, are_one_constant}
use Rattle.rtl_ir.specs.Follow.{all_joins, joins}
use Rattle.rtl_ir.specs.declared.follow.Join.{Join}
use Rattle.rtl_ir.specs.Rules.{beyond, updated_by, without_bit}
use Rattle.rtl_ir.specs.Signals.{has_constant, same_bit, wire_bits}
use Rattle.rtl_ir.specs.declared.module.Link.{Link}
use Rattle.rtl_ir.specs.declared.process.SyncRule.{SyncRule}
use Rattle.net_model.proofs.Members.{map-append}
use Rattle.net_model.specs.Lists.{In}
use Rattle.net_model.specs.Proc.Reset.{line_of_places, reset_places, reset_rule}
use Rattle.pass_laws.proofs.Counting.{count, count_more}
use Rattle.build_laws.specs.Rebuilds.{join_bits}
use Rattle.follow_laws.proofs.Following.{same_bit-same}
use Rattle.reset_laws.proofs.AfterRace.{ActsAfter}
use Rattle.reset_laws.proofs.AfterRules.{places_more}
use Rattle.reset_laws.proofs.ReadMemories.{from_flat}
use Rattle.proc_laws.proofs.CountingRules.{lines_few}

lengths : {A B C : Type 0} (f : A → B) (g : A → C) (xs : List A) → length (map f xs) ≡ length (map g xs)
lengths f g [] = refl
lengths f g (x ∷ xs) = ap suc (lengths f g xs)

no_constant : (ks : List Join) → has_constant (map (λ (k : Join). OnWire k.bit) ks) ≡ false
no_constant [] = refl
no_constant (k ∷ ks) = no_constant ks

wires_of : (ks : List Join) → wire_bits (map (λ (k : Join). OnWire k.bit) ks) ≡ map (λ (k : Join). k.bit) ks
wires_of [] = refl
wires_of (k ∷ ks) = ap (λ z. k.bit ∷ z) (wires_of ks)

module _ (leaves : Join → List SigBit) (reset : EdgeBit) where
  abbrev rule : List Link → SyncRule
  rule lines = reset_rule leaves reset lines

  -- each line is of places
  pub rule_lines : (lines : List Link) (l : Link) → In l (rule lines).updates → (is_uneven l ≡ false) × (has_constant l.left ≡ false)
  rule_lines lines l i =
      let z = from_flat (λ (x : Link). line_of_places (reset_places leaves (joins x.left x.right))) lines l i in
      by (reset_places leaves (joins z.0.left z.0.right)) z.2
    where
      by : (ks : List Join) → In l (line_of_places ks) → (is_uneven l ≡ false) × (has_constant l.left ≡ false)
      by [] j = absurd j
      by (k ∷ ks) (inr j) = absurd j
      by (k ∷ ks) (inl e) =
          let line : Link = record { left = map (λ (y : Join). OnWire y.bit) (k ∷ ks); right = map (λ (y : Join). y.source) (k ∷ ks) } in
          let same : (length line.left == length line.right) ≡ true = eq-eqb (length line.left) (length line.right) (lengths (λ (y : Join). OnWire y.bit) (λ (y : Join). y.source) (k ∷ ks)) in
          (ap is_uneven e ∙ ap not same, ap (λ (y : Link). has_constant y.left) e ∙ no_constant (k ∷ ks))

  line_bits : (ks : List Join) → left_bits (line_of_places ks) ≡ join_bits ks
  line_bits [] = refl
  line_bits (k ∷ ks) = nothing (wire_bits (map (λ (y : Join). OnWire y.bit) (k ∷ ks))) ∙ wires_of (k ∷ ks)
    where
      nothing : (xs : List WireBit) → xs ++ [] ≡ xs
      nothing [] = refl
      nothing (x ∷ xs) = ap (λ z. x ∷ z) (nothing xs)

  left_both : (xs ys : List Link) → left_bits (xs ++ ys) ≡ left_bits xs ++ left_bits ys
  left_both [] ys = refl
  left_both (l ∷ xs) ys = ap (λ z. wire_bits l.left ++ z) (left_both xs ys) ∙ sym (append_assoc (wire_bits l.left) (left_bits xs) (left_bits ys))

  -- the bits of the lines are those of the places
  pub rule_bits : (lines : List Link) → left_bits (rule lines).updates ≡ join_bits (reset_places leaves (all_joins lines))
  rule_bits [] = refl
  rule_bits (l ∷ lines) =
      left_both (line_of_places (reset_places leaves (joins l.left l.right))) (rule lines).updates
      ∙ (λ i. line_bits (reset_places leaves (joins l.left l.right)) i ++ rule_bits lines i)
      ∙ sym (map-append (λ (k : Join). k.bit) (reset_places leaves (joins l.left l.right)) (reset_places leaves (all_joins lines)))
      ∙ ap join_bits (sym (places_more leaves (joins l.left l.right) (all_joins lines)))

  module _ (x : WireBit) where
    places_few : (js : List Join) → count x (join_bits (reset_places leaves js)) ≤ count x (join_bits js)
    places_few [] = omega arith
    places_few (j ∷ js) = by (are_one_constant (leaves j)) (places_few js)
      where
        one : (ls : List SigBit) → count x (join_bits (map (λ s. record { bit = j.bit; source = s }) (take 1 ls) ++ reset_places leaves js)) ≤ cond (same_bit j.bit x) 1 0 + count x (join_bits (reset_places leaves js))
        one [] = omega arith
        one (s ∷ ls) = omega arith

        by : (t : Bool) → count x (join_bits (reset_places leaves js)) ≤ count x (join_bits js) → count x (join_bits (if t then map (λ s. record { bit = j.bit; source = s }) (take 1 (leaves j)) ++ reset_places leaves js else reset_places leaves js)) ≤ cond (same_bit j.bit x) 1 0 + count x (join_bits js)
        by true h = omega (arith, h, one (leaves j))
        by false h = omega (arith, h)

    pub rule_few : (lines : List Link) → count x (left_bits (rule lines).updates) ≤ count x (left_bits lines)
    rule_few lines = omega (arith, ap (count x) (rule_bits lines), places_few (all_joins lines), lines_few x lines)

-- what is beyond bits
module _ (x : WireBit) where
  without_same : (b : WireBit) (bits : List WireBit) → same_bit b x ≡ false → count x (without_bit b bits) ≡ count x bits
  without_same b [] e = refl
  without_same b (c ∷ bits) e = by (same_bit b c) refl (without_same b bits e)
    where
      by : (t : Bool) → same_bit b c ≡ t → count x (without_bit b bits) ≡ count x bits → count x (if t then bits else c ∷ without_bit b bits) ≡ cond (same_bit c x) 1 0 + count x bits
      by false f h = omega (arith, h)
      by true f h =
          let none : ◌≡◌ {A = ℕ} (cond (same_bit c x) 1 0) 0 = ap {B = ℕ} (λ t. cond t 1 0) (ap (λ z. same_bit z x) (sym (same_bit-same b c f)) ∙ e) in
          omega (arith, none)

  without_one : (b : WireBit) (bits : List WireBit) → same_bit b x ≡ true → (count x bits ≡ 0) ⊎ (count x bits ≡ suc (count x (without_bit b bits)))
  without_one b [] e = inl refl
  without_one b (c ∷ bits) e = by (same_bit b c) refl (without_one b bits e)
    where
      by : (t : Bool) → same_bit b c ≡ t → (count x bits ≡ 0) ⊎ (count x bits ≡ suc (count x (without_bit b bits))) → (cond (same_bit c x) 1 0 + count x bits ≡ 0) ⊎ (cond (same_bit c x) 1 0 + count x bits ≡ suc (count x (if t then bits else c ∷ without_bit b bits)))
      by true f h =
          let one : ◌≡◌ {A = ℕ} (cond (same_bit c x) 1 0) 1 = ap {B = ℕ} (λ t. cond t 1 0) (ap (λ z. same_bit z x) (sym (same_bit-same b c f)) ∙ e) in
          inr (omega (arith, one))
      by false f h = ⊎_elim (λ k. inl (omega (arith, k, none))) (λ k. inr (omega (arith, k))) h
        where
          none : ◌≡◌ {A = ℕ} (cond (same_bit c x) 1 0) 0
          none = at (same_bit c x) refl
            where
              at : (t : Bool) → same_bit c x ≡ t → ◌≡◌ {A = ℕ} (cond t 1 0) 0
              at false g = refl
              at true g = absurd (let same : same_bit b c ≡ true = ap (same_bit b) (same_bit-same c x g) ∙ e in let no : true ≡ false = sym same ∙ f in cc)

  -- bits and what is beyond them are no more than the more of both
  beyond_few : (n : ℕ) (seen bits : List WireBit) → count x seen ≤ n → count x bits ≤ n → count x seen + count x (beyond seen bits) ≤ n
  beyond_few n [] bits h k = omega (arith, k)
  beyond_few n (b ∷ seen) bits h k = by (same_bit b x) refl (λ l. beyond_few l seen (without_bit b bits))
    where
      by : (t : Bool) → same_bit b x ≡ t → ((l : ℕ) → count x seen ≤ l → count x (without_bit b bits) ≤ l → count x seen + count x (beyond seen (without_bit b bits)) ≤ l) → count x (b ∷ seen) + count x (beyond seen (without_bit b bits)) ≤ n
      by false e go =
          let none : ◌≡◌ {A = ℕ} (cond (same_bit b x) 1 0) 0 = ap {B = ℕ} (λ t. cond t 1 0) e in
          omega (arith, none, go n (omega (arith, h, none)) (omega (arith, k, without_same b bits e)))
      by true e go = at n h k (without_one b bits e)
        where
          one : ◌≡◌ {A = ℕ} (cond (same_bit b x) 1 0) 1
          one = ap {B = ℕ} (λ t. cond t 1 0) e

          at : (n : ℕ) → count x (b ∷ seen) ≤ n → count x bits ≤ n → (count x bits ≡ 0) ⊎ (count x bits ≡ suc (count x (without_bit b bits))) → count x (b ∷ seen) + count x (beyond seen (without_bit b bits)) ≤ n
          at zero p q o = absurd (omega (arith, p, one))
          at (suc l) p q o =
              let less : count x (without_bit b bits) ≤ l = few o in
              omega (arith, one, go l (omega (arith, p, one)) less)
            where
              few : (count x bits ≡ 0) ⊎ (count x bits ≡ suc (count x (without_bit b bits))) → count x (without_bit b bits) ≤ l
              few (inl z) = omega (arith, z, shorter bits)
                where
                  shorter : (ys : List WireBit) → count x (without_bit b ys) ≤ count x ys
                  shorter [] = omega arith
                  shorter (y ∷ ys) = cut (same_bit b y) (shorter ys)
                    where
                      cut : (t : Bool) → count x (without_bit b ys) ≤ count x ys → count x (if t then ys else y ∷ without_bit b ys) ≤ cond (same_bit y x) 1 0 + count x ys
                      cut true r = omega arith
                      cut false r = omega (arith, r)
              few (inr z) = omega (arith, z, q)

  -- the rules update no more bits
  pub updates_few : (n : ℕ) (rule other : SyncRule) (rules : List SyncRule) → ActsAfter rule other rules → count x (left_bits rule.updates) ≤ n → count x (left_bits other.updates) ≤ n → count x (updated_by rules) ≤ n
  updates_few n rule other rules (inl e) h k =
      subst (λ z. count x (updated_by z) ≤ n) (sym e) (omega (arith, count_more x (left_bits other.updates) (beyond (left_bits other.updates) []), beyond_few n (left_bits other.updates) [] k (omega arith)))
  updates_few n rule other rules (inr (inl e)) h k =
      let last : count x (updated_by (other ∷ [])) ≤ n = omega (arith, count_more x (left_bits other.updates) (beyond (left_bits other.updates) []), beyond_few n (left_bits other.updates) [] k (omega arith)) in
      subst (λ z. count x (updated_by z) ≤ n) (sym e) (omega (arith, count_more x (left_bits rule.updates) (beyond (left_bits rule.updates) (updated_by (other ∷ []))), beyond_few n (left_bits rule.updates) (updated_by (other ∷ [])) h last))
  updates_few n rule other rules (inr (inr e)) h k =
      let last : count x (updated_by (rule ∷ [])) ≤ n = omega (arith, count_more x (left_bits rule.updates) (beyond (left_bits rule.updates) []), beyond_few n (left_bits rule.updates) [] h (omega arith)) in
      subst (λ z. count x (updated_by z) ≤ n) (sym e) (omega (arith, count_more x (left_bits other.updates) (beyond (left_bits other.updates) (updated_by (rule ∷ []))), beyond_few n (left_bits other.updates) (updated_by (rule ∷ [])) k last))

  pub updated_first : (a : SyncRule) (rules : List SyncRule) → count x (left_bits a.updates) ≤ count x (updated_by (a ∷ rules))
  updated_first a rules =
      omega (arith, count_more x (left_bits a.updates) (beyond (left_bits a.updates) (updated_by rules)))
