-- Where no tree bit depends on itself, no leaf of an expanded source is a tree bit.
use Rattle.std.proofs.Common.{◌≡◌, ℕ, zero, suc, ◌+◌, ◌-◌, ◌≤◌, Bool, true, false, ◌&&◌, ◌||◌, List, [], ◌∷◌, ◌++◌, length, ◌⊎◌, inl, inr, ⊎_elim, refl, sym, ◌∙◌, ap, subst, arith}
use Rattle.std.specs.Prelude.{if◌then◌else◌}
use Rattle.std.specs.List.{list_any}
use Rattle.std.proofs.lemmas.Bool.{and_parts}
use Rattle.rtl_bits.specs.declared.bit.Bit.TheVariants.{X}
use Rattle.rtl_sig.specs.declared.sig.SigBit.{SigBit}
use Rattle.rtl_sig.specs.declared.sig.SigBit.TheVariants.{Fixed, Wire as OnWire}
use Rattle.rtl_sig.specs.declared.sig.WireBit.{WireBit}
use Rattle.rtl_ir.specs.Decisions.{Leaf, case_decision, expanded, expanded_within, with_leaves}
use Rattle.rtl_ir.specs.Faults.SelfReading.{assigns_read, bits_read, reads_itself, reads_within, switches_read}
use Rattle.rtl_ir.specs.Signals.{has_bit, same_bit, wire_bits}
use Rattle.rtl_ir.specs.Tree.{CaseView}
use Rattle.net_model.proofs.Members.{apart_at, apart_from}
use Rattle.net_model.specs.Lists.{Distinct, In}
use Rattle.net_model.specs.Proc.Reset.{switches_signals}
use Rattle.net_model.specs.Within.{Each}
use Rattle.follow_laws.proofs.Following.{same_bit-same}
use Rattle.pass_laws.proofs.Once.{same_bit-refl}
use Rattle.reset_laws.proofs.FrameStep.{has_in}
use Rattle.reset_laws.proofs.ReadSignals.{ReadsBy, case_reads, replaced_reads}

-- distinct bits of some bits are no more than these
without : (x : WireBit) (ys : List WireBit) → In x ys → (zs : List WireBit) × (length ys ≡ suc (length zs)) × ((y : WireBit) → In y ys → (y ≡ x → ⊥) → In y zs)
without x [] i = absurd i
without x (y ∷ ys) (inl e) = (ys, refl, λ z j h. ⊎_elim (λ f. absurd (h (f ∙ sym e))) (λ k. k) j)
without x (y ∷ ys) (inr i) =
    let k = without x ys i in
    (y ∷ k.0, ap suc k.1, λ z j h. ⊎_elim (λ f. inl f) (λ l. inr (k.2 z l h)) j)

pub few : (xs ys : List WireBit) → Distinct xs → ((x : WireBit) → In x xs → In x ys) → length xs ≤ length ys
few [] ys u h = omega arith
few (x ∷ xs) ys u h =
    let k = without x ys (h x (inl refl)) in
    let rest : length xs ≤ length k.0 = few xs k.0 u.1 (λ y i. k.2 y (h y (inr i)) (λ e. apart_at x xs u.0 y i (sym e))) in
    omega (arith, rest, k.1)

pub any_in : (test : WireBit → Bool) (xs : List WireBit) → list_any test xs ≡ true → (x : WireBit) × In x xs × (test x ≡ true)
any_in test [] e = absurd (cc)
any_in test (x ∷ xs) e = by (test x) refl e (any_in test xs)
  where
    by : (t : Bool) → test x ≡ t → (t || list_any test xs) ≡ true → (list_any test xs ≡ true → (y : WireBit) × In y xs × (test y ≡ true)) → (y : WireBit) × In y (x ∷ xs) × (test y ≡ true)
    by true f g later = (x, inl refl, f)
    by false f g later = let k = later g in (k.0, inr k.1, k.2)

pub in_any : (test : WireBit → Bool) (xs : List WireBit) (x : WireBit) → In x xs → test x ≡ true → list_any test xs ≡ true
in_any test [] x i e = absurd i
in_any test (y ∷ xs) x (inl f) e = ap (λ t. t || list_any test xs) (ap test (sym f) ∙ e)
in_any test (y ∷ xs) x (inr i) e = by (test y) (in_any test xs x i e)
  where
    by : (t : Bool) → list_any test xs ≡ true → (t || list_any test xs) ≡ true
    by true h = refl
    by false h = h

pub wires_in : (sig : List SigBit) (b : WireBit) → In (OnWire b) sig → In b (wire_bits sig)
wires_in [] b i = absurd i
wires_in (Fixed c ∷ sig) b (inl e) = absurd (cc)
wires_in (Fixed c ∷ sig) b (inr i) = wires_in sig b i
wires_in (OnWire d ∷ sig) b (inl e) = let same : b ≡ d = cc in inl same
wires_in (OnWire d ∷ sig) b (inr i) = inr (wires_in sig b i)

module _ (root : CaseView) (bits : List WireBit) where
  -- a bit reads another one, in one step or in more
  pub reads_step : (n : ℕ) (b r c : WireBit) → In r (bits_read root b) → has_bit bits r ≡ true → (same_bit r c || reads_within root bits n r c) ≡ true → reads_within root bits (suc n) b c ≡ true
  reads_step n b r c i h e =
      in_any (λ x. has_bit bits x && (same_bit x c || reads_within root bits n x c)) (bits_read root b) r i (λ j. h j && e j)

  reads_then : (n : ℕ) (c b r : WireBit) → has_bit bits b ≡ true → In r (bits_read root b) → has_bit bits r ≡ true → reads_within root bits n c b ≡ true → reads_within root bits (suc n) c r ≡ true
  reads_then zero c b r h i k e = absurd (cc)
  reads_then (suc n) c b r h i k e =
      let z = any_in (λ x. has_bit bits x && (same_bit x b || reads_within root bits n x b)) (bits_read root c) e in
      let parts = and_parts (has_bit bits z.0) (same_bit z.0 b || reads_within root bits n z.0 b) z.2 in
      reads_step (suc n) c z.0 r z.1 parts.0 (by z.0 (same_bit z.0 b) refl parts.1 (reads_then n z.0 b r h i k))
    where
      by : (x : WireBit) (t : Bool) → same_bit x b ≡ t → (t || reads_within root bits n x b) ≡ true → (reads_within root bits n x b ≡ true → reads_within root bits (suc n) x r ≡ true) → (same_bit x r || reads_within root bits (suc n) x r) ≡ true
      by x true f g later =
          either (same_bit x r) (reads_step n x r r (subst (λ z. In r (bits_read root z)) (sym (same_bit-same x b f)) i) k (ap (λ t. t || reads_within root bits n r r) (same_bit-refl r)))
        where
          either : (t : Bool) → reads_within root bits (suc n) x r ≡ true → (t || reads_within root bits (suc n) x r) ≡ true
          either true l = refl
          either false l = l
      by x false f g later = either (same_bit x r) (later g)
        where
          either : (t : Bool) → reads_within root bits (suc n) x r ≡ true → (t || reads_within root bits (suc n) x r) ≡ true
          either true l = refl
          either false l = l

  -- further steps change nothing
  more_steps : (n : ℕ) (c b : WireBit) → reads_within root bits n c b ≡ true → reads_within root bits (suc n) c b ≡ true
  more_steps zero c b e = absurd (cc)
  more_steps (suc n) c b e =
      let z = any_in (λ x. has_bit bits x && (same_bit x b || reads_within root bits n x b)) (bits_read root c) e in
      let parts = and_parts (has_bit bits z.0) (same_bit z.0 b || reads_within root bits n z.0 b) z.2 in
      reads_step (suc n) c z.0 b z.1 parts.0 (by z.0 (same_bit z.0 b) parts.1 (more_steps n z.0 b))
    where
      by : (x : WireBit) (t : Bool) → (t || reads_within root bits n x b) ≡ true → (reads_within root bits n x b ≡ true → reads_within root bits (suc n) x b ≡ true) → (t || reads_within root bits (suc n) x b) ≡ true
      by x true g later = refl
      by x false g later = later g

  many_steps : (k n : ℕ) (c b : WireBit) → reads_within root bits n c b ≡ true → reads_within root bits (k + n) c b ≡ true
  many_steps zero n c b e = let z : n ≡ zero + n = omega arith in subst (λ l. reads_within root bits l c b ≡ true) z e
  many_steps (suc k) n c b e =
      let z : suc (k + n) ≡ suc k + n = omega arith in
      subst (λ l. reads_within root bits l c b ≡ true) z (more_steps (k + n) c b (many_steps k n c b e))

  module _ (acyclic : reads_itself root bits ≡ false) where
    pub none_itself : (n : ℕ) (b : WireBit) → has_bit bits b ≡ true → n ≤ length bits → reads_within root bits n b b ≡ true → ⊥
    none_itself n b h few_steps e =
        let k : ℕ = length bits - n in
        let z : k + n ≡ length bits = omega (arith, few_steps) in
        let all : reads_within root bits (length bits) b b ≡ true = subst (λ l. reads_within root bits l b b ≡ true) z (many_steps k n b b e) in
        let some : reads_itself root bits ≡ true = in_any (λ x. reads_within root bits (length bits) x x) bits b (has_in bits b h) all in
        absurd (let no : true ≡ false = sym some ∙ acyclic in cc)

    -- the bits on the way to a source: distinct tree bits, each of which reads the source's bit
    pub record IsWay (way : List WireBit) (s : SigBit) : Type 0 where
      pub distinct : Distinct way
      pub inside : (c : WireBit) → In c way → In c bits
      pub reads : (c : WireBit) → In c way → (b : WireBit) → s ≡ OnWire b → has_bit bits b ≡ true → reads_within root bits (length way) c b ≡ true

    -- a leaf that is no tree bit
    abbrev pub IsLast : SigBit → Type 0
    IsLast s = (b : WireBit) → s ≡ OnWire b → has_bit bits b ≡ false

    -- so a tree bit at its end is new
    new_bit : (way : List WireBit) (b : WireBit) → IsWay way (OnWire b) → has_bit bits b ≡ true → Distinct (b ∷ way)
    new_bit way b is h = (
      apart_from b way (λ c i e. none_itself (length way) b h (few way bits is.distinct is.inside) (subst (λ z. reads_within root bits (length way) z b ≡ true) (sym e) (is.reads c i b refl h))),
      is.distinct,
    )

    module _ (S : SigBit → Type 0) (signals : Each S (switches_signals root.switches)) where
      pub expanded_reads : (n : ℕ) (way : List WireBit) (s : SigBit) → length bits ≤ n + length way → IsWay way s → ReadsBy IsLast S (expanded_within root bits n s)
      expanded_reads zero way (Fixed c) h is = λ b e. absurd (cc)
      expanded_reads zero way (OnWire b) h is = λ c e. by c e (has_bit bits c) refl
        where
          by : (c : WireBit) → OnWire b ≡ OnWire c → (t : Bool) → has_bit bits c ≡ t → t ≡ false
          by c e false f = refl
          by c e true f =
              let same : b ≡ c = cc in
              let there : has_bit bits b ≡ true = ap (has_bit bits) same ∙ f in
              let more : length (b ∷ way) ≤ length bits = few (b ∷ way) bits (new_bit way b is there) (λ x i. ⊎_elim (λ g. subst (λ z. In z bits) (sym g) (has_in bits b there)) (is.inside x) i) in
              absurd (omega (arith, more, h))
      expanded_reads (suc n) way (Fixed c) h is = λ b e. absurd (cc)
      expanded_reads (suc n) way (OnWire b) h is = by (has_bit bits b) refl (expanded_reads n (b ∷ way))
        where
          R : List SigBit
          R = assigns_read b root.assigns ++ switches_read b root.switches

          P : SigBit → Type 0
          P s = (s ≡ Fixed X) ⊎ In s R

          on : has_bit bits b ≡ true → (s : SigBit) → P s → IsWay (b ∷ way) s
          on e s k = record {
            distinct = new_bit way b is e;
            inside = λ x i. ⊎_elim (λ g. subst (λ z. In z bits) (sym g) (has_in bits b e)) (is.inside x) i;
            reads = λ c i r f g. ⊎_elim
                (λ same. subst (λ z. reads_within root bits (suc (length way)) z r ≡ true) (sym same) (reads_step (length way) b r r (read k r f) g (ap (λ t. t || reads_within root bits (length way) r r) (same_bit-refl r))))
                (λ j. reads_then (length way) c b r e (read k r f) g (is.reads c j b refl e))
                i;
          }
            where
              read : P s → (r : WireBit) → s ≡ OnWire r → In r (bits_read root b)
              read (inl x) r f = absurd (cc)
              read (inr j) r f = wires_in R r (subst (λ z. In z R) f j)

          by : (t : Bool) → has_bit bits b ≡ t → ((s : SigBit) → length bits ≤ n + length (b ∷ way) → IsWay (b ∷ way) s → ReadsBy IsLast S (expanded_within root bits n s)) → ReadsBy IsLast S (if t then with_leaves (expanded_within root bits n) (case_decision root b) else Leaf (OnWire b))
          by false e later = λ c f. let same : b ≡ c = cc in ap (has_bit bits) (sym same) ∙ e
          by true e later =
              replaced_reads P IsLast S (expanded_within root bits n) (λ s k. later s (omega (arith, h)) (on e s k)) (case_decision root b)
              (case_reads P S root b signals (inl refl) (λ s j. inr j))

      -- no leaf of an expanded source is a tree bit
      pub leaves_last : (s : SigBit) → ReadsBy IsLast S (expanded root bits s)
      leaves_last s =
          expanded_reads (length bits) [] s (omega arith) (record { distinct = tt; inside = λ c i. absurd i; reads = λ c i. absurd i })
