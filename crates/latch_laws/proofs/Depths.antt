-- Where no tree bit depends on itself, no more tree bits stand one in another than there are.
use Rattle.std.proofs.Common.{◌≡◌, ℕ, zero, suc, ◌+◌, Bool, true, false, ◌&&◌, ◌||◌, List, [], ◌∷◌, ◌++◌, length, ⊎_elim, inl, inr, refl, sym, subst, arith}
use Rattle.std.specs.Prelude.{◌⊎◌}
use Rattle.std.proofs.lemmas.Bool.{and_parts, and_from}
use Rattle.rtl_ir.specs.Faults.SelfReading.{assigns_read, bits_read, reads_itself, reads_within, switches_read}
use Rattle.rtl_ir.specs.Rules.{without_bit}
use Rattle.rtl_ir.specs.Signals.{has_bit, same_bit}
use Rattle.rtl_ir.specs.Tree.{CaseView}
use Rattle.rtl_sig.specs.declared.sig.SigBit.{SigBit}
use Rattle.rtl_sig.specs.declared.sig.SigBit.TheVariants.{Fixed, Wire as OnWire}
use Rattle.rtl_sig.specs.declared.sig.WireBit.{WireBit}
use Rattle.pass_laws.proofs.Once.{same_bit-refl, same_bit-true}
use Rattle.net_model.specs.Lists.{In}
use Rattle.latch_laws.proofs.Finding.{any_in, any_keeps, either, has_in, left_or, right_or, wire_in, without_in, without_long}
use Rattle.latch_laws.proofs.SourcesGiven.{CaseGives, case_gives}

module _ (root : CaseView) (bits : List WireBit) where
  -- at most so many tree bits stand one in another from here on
  abbrev pub Ends : ℕ → SigBit → Type 0
  Ends zero (Fixed c) = Unit {0}
  Ends zero (OnWire b) = has_bit bits b ≡ false
  Ends (suc n) (Fixed c) = Unit {0}
  Ends (suc n) (OnWire b) = has_bit bits b ≡ true → (c : WireBit) → In c (bits_read root b) → Ends n (OnWire c)

  ends_fixed : (n : ℕ) (s : SigBit) → ((b : WireBit) → s ≡ OnWire b → Ends n s) → Ends n s
  ends_fixed zero (Fixed c) h = tt
  ends_fixed (suc n) (Fixed c) h = tt
  ends_fixed n (OnWire b) h = h b refl

  -- what a tree bit is given ends earlier
  pub sources_end : (n : ℕ) (b : WireBit) → has_bit bits b ≡ true → Ends (suc n) (OnWire b) → CaseGives (Ends n) b root
  sources_end n b has h =
      case_gives (Ends n) b root (λ s i. ends_fixed n s (λ c e.
      subst (Ends n) (sym e) (h has c (wire_in (assigns_read b root.assigns ++ switches_read b root.switches) c (subst (λ z. In z (assigns_read b root.assigns ++ switches_read b root.switches)) e i)))))

  -- reading goes on by one more tree bit
  reads_more : (j : ℕ) (b c : WireBit) → reads_within root bits j b c ≡ true → reads_within root bits (suc j) b c ≡ true
  reads_more zero b c e = absurd (cc)
  reads_more (suc j) b c e =
      any_keeps (λ r. has_bit bits r && (same_bit r c || reads_within root bits j r c)) (λ r. has_bit bits r && (same_bit r c || reads_within root bits (suc j) r c)) (λ r f.
      let both = and_parts (has_bit bits r) (same_bit r c || reads_within root bits j r c) f in
      and_from (has_bit bits r) (same_bit r c || reads_within root bits (suc j) r c) both.0
      (⊎_elim
      (λ l. left_or (same_bit r c) (reads_within root bits (suc j) r c) l)
      (λ k. right_or (same_bit r c) (reads_within root bits (suc j) r c) (reads_more j r c k))
      (either (same_bit r c) (reads_within root bits j r c) both.1))) (bits_read root b) e

  reads_first : (j : ℕ) (b c : WireBit) → In c (bits_read root b) → has_bit bits c ≡ true → reads_within root bits (suc j) b c ≡ true
  reads_first j b c i has =
      any_in (λ r. has_bit bits r && (same_bit r c || reads_within root bits j r c)) c (bits_read root b) i
      (and_from (has_bit bits c) (same_bit c c || reads_within root bits j c c) has (left_or (same_bit c c) (reads_within root bits j c c) (same_bit-refl c)))

  reads_on : (j : ℕ) (v b c : WireBit) → reads_within root bits j v b ≡ true → In c (bits_read root b) → has_bit bits c ≡ true → reads_within root bits (suc j) v c ≡ true
  reads_on zero v b c e i has = absurd (cc)
  reads_on (suc j) v b c e i has =
      any_keeps (λ r. has_bit bits r && (same_bit r b || reads_within root bits j r b)) (λ r. has_bit bits r && (same_bit r c || reads_within root bits (suc j) r c)) (λ r f.
      let both = and_parts (has_bit bits r) (same_bit r b || reads_within root bits j r b) f in
      and_from (has_bit bits r) (same_bit r c || reads_within root bits (suc j) r c) both.0
      (right_or (same_bit r c) (reads_within root bits (suc j) r c)
      (⊎_elim
      (λ l. subst (λ z. reads_within root bits (suc j) z c ≡ true) (sym (same_bit-true r b l)) (reads_first j b c i has))
      (λ k. reads_on j r b c k i has)
      (either (same_bit r b) (reads_within root bits j r b) both.1)))) (bits_read root v) e

  reads_far : (j n : ℕ) (b c : WireBit) → reads_within root bits j b c ≡ true → reads_within root bits (n + j) b c ≡ true
  reads_far j zero b c e = let here : j ≡ 0 + j = omega arith in subst (λ k. reads_within root bits k b c ≡ true) here e
  reads_far j (suc n) b c e =
      let next : suc (n + j) ≡ suc n + j = omega arith in
      subst (λ k. reads_within root bits k b c ≡ true) next (reads_more (n + j) b c (reads_far j n b c e))

  -- what is no tree bit ends here
  ends_here : (n : ℕ) (b : WireBit) → has_bit bits b ≡ false → Ends n (OnWire b)
  ends_here zero b e = e
  ends_here (suc n) b e = λ has. absurd (cc)

  module _ (acyclic : reads_itself root bits ≡ false) where
    never : (n j : ℕ) (b : WireBit) → n + j ≡ length bits → has_bit bits b ≡ true → reads_within root bits j b b ≡ true → ⊥
    never n j b e has reads =
        let far : reads_within root bits (length bits) b b ≡ true = subst (λ k. reads_within root bits k b b ≡ true) e (reads_far j n b b reads) in
        let itself : reads_itself root bits ≡ true = any_in (λ c. reads_within root bits (length bits) c c) b bits (has_in bits b has) far in
        absurd (cc)

    -- a tree bit is left, or it reads this one
    abbrev LeftOrReads : List WireBit → ℕ → WireBit → Type 0
    LeftOrReads left j b = (c : WireBit) → has_bit bits c ≡ true → In c left ⊎ (reads_within root bits j c b ≡ true)

    further : (left : List WireBit) (j : ℕ) (b c : WireBit) → In c (bits_read root b) → has_bit bits c ≡ true → LeftOrReads left j b → LeftOrReads (without_bit b left) (suc j) c
    further left j b c i has h d tree = by (same_bit b d) refl (h d tree)
      where
        by : (t : Bool) → same_bit b d ≡ t → In d left ⊎ (reads_within root bits j d b ≡ true) → In d (without_bit b left) ⊎ (reads_within root bits (suc j) d c ≡ true)
        by t e (inr reads) = inr (reads_on j d b c reads i has)
        by true e (inl there) = inr (subst (λ z. reads_within root bits (suc j) z c ≡ true) (same_bit-true b d e) (reads_first j b c i has))
        by false e (inl there) = inl (without_in b d left e there)

    none_left : (left : List WireBit) (b : WireBit) → length left ≡ 0 → In b left → ⊥
    none_left [] b e i = i
    none_left (c ∷ left) b e i = absurd (omega (arith, e))

    ends_from : (n j : ℕ) (left : List WireBit) (b : WireBit) → length left ≡ n → n + j ≡ length bits → LeftOrReads left j b → Ends n (OnWire b)
    ends_from zero j left b long e h = by (has_bit bits b) refl
      where
        by : (t : Bool) → has_bit bits b ≡ t → t ≡ false
        by false f = refl
        by true f = absurd (⊎_elim (λ l. none_left left b long l) (λ r. never 0 j b e f r) (h b f))
    ends_from (suc n) j left b long e h =
        λ has c i. by has c (has_bit bits c) refl (λ there f. ends_from n (suc j) (without_bit b left) c (without_long b left n there long) (omega (arith, e)) (further left j b c i f h)) (h b has)
      where
        by : has_bit bits b ≡ true → (c : WireBit) (t : Bool) → has_bit bits c ≡ t → (In b left → has_bit bits c ≡ true → Ends n (OnWire c)) → In b left ⊎ (reads_within root bits j b b ≡ true) → Ends n (OnWire c)
        by has c false f later k = ends_here n c f
        by has c true f later (inr reads) = absurd (never (suc n) j b e has reads)
        by has c true f later (inl there) = later there f

    -- as many as there are tree bits
    pub all_end : (s : SigBit) → Ends (length bits) s
    all_end s = ends_fixed (length bits) s (λ b e.
        subst (Ends (length bits)) (sym e) (ends_from (length bits) 0 bits b refl (omega arith) (λ c has. inl (has_in bits c has))))
