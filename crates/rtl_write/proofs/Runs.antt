-- The cut of a signal into runs: each run is of constants, or of rising bits of one wire, and together they are the signal.
use Rattle.std.proofs.Common.{◌≡◌, ℕ, zero, suc, ◌+◌, ◌-◌, ◌<◌, ◌≤◌, ◌⊎◌, inl, inr, List, [], ◌∷◌, ◌++◌, length, get_or, map, append_assoc, append-nil, Option, Some, None, Bool, true, false, refl, sym, ap, subst, ◌∙◌, arith, length-append}
use Rattle.std.specs.Prelude.{◌==◌, slice_get, IsSomeAnd, if◌then◌else◌}
use Rattle.std.specs.List.{All, fold}
use Rattle.std.proofs.lemmas.Bool.{and_parts, eqb-true, ltb-true}
use Rattle.std.proofs.lemmas.List.{get_or-map, get_or_at, length-map, map-append}
use Rattle.std.proofs.lemmas.List.Elements.{All-cons, All-head, All-tail, All-nil}
use Rattle.rtl_bits.specs.declared.bit.Bit.{Bit}
use Rattle.rtl_bits.specs.declared.bit.Bit.TheVariants.{S0}
use Rattle.rtl_sig.specs.declared.sig.SigBit.{SigBit}
use Rattle.rtl_sig.specs.declared.sig.SigBit.TheVariants.{Fixed, Wire}
use Rattle.rtl_sig.specs.declared.sig.WireBit.{WireBit}
use Rattle.rtl_ir.specs.declared.wire.Wire as records
use Rattle.rtl_write.specs.declared.run.TheConstants.{MAX_RUN}
use Rattle.rtl_write.specs.Signal.{goes_on, last_bit, with_bit, runs_of}
use Rattle.rtl_readable.specs.Readable.{IsBitOf}

-- so many bits of a wire from one on
abbrev pub rising : ℕ → ℕ → ℕ → List SigBit
rising wire low zero = []
rising wire low (suc n) = Wire (record { wire = wire; at = low }) ∷ rising wire (low + 1) n

-- constants, and bits of one wire that it has
pub record AreFixed (run : List SigBit) : Type 0 where
  pub first : Bit
  pub others : List Bit
  pub is : run ≡ Fixed first ∷ map Fixed others
  pub few : length (first ∷ others) ≤ MAX_RUN

pub record AreRising (wires : List records.Wire) (run : List SigBit) : Type 0 where
  pub wire : ℕ
  pub low : ℕ
  pub others : ℕ
  pub of : records.Wire
  pub is : run ≡ rising wire low (suc others)
  pub at : slice_get wires wire ≡ Some of
  pub within : low + suc others ≤ of.width

abbrev pub IsRun : List records.Wire → List SigBit → Type 0
IsRun wires run = AreFixed run ⊎ AreRising wires run

-- ---- rising bits

pub length_rising : (wire low n : ℕ) → length (rising wire low n) ≡ n
length_rising wire low zero = refl
length_rising wire low (suc n) = ap suc (length_rising wire (low + 1) n)

-- one more bit above
pub rising_more : (wire low n : ℕ) → rising wire low n ++ Wire (record { wire = wire; at = low + n }) ∷ [] ≡ rising wire low (suc n)
rising_more wire low zero =
    let e : low + 0 ≡ low = omega arith in
    ap (λ (k : ℕ). Wire (record { wire = wire; at = k }) ∷ []) e
rising_more wire low (suc n) =
    let e : low + suc n ≡ low + 1 + n = omega arith in
    ap (λ (k : ℕ). Wire (record { wire = wire; at = low }) ∷ (rising wire (low + 1) n ++ Wire (record { wire = wire; at = k }) ∷ [])) e
    ∙ ap (λ (l : List SigBit). Wire (record { wire = wire; at = low }) ∷ l) (rising_more wire (low + 1) n)

rising_last : (wire low n : ℕ) → last_bit (rising wire low (suc n)) ≡ Wire (record { wire = wire; at = low + n })
rising_last wire low n =
    let bit = Wire (record { wire = wire; at = low + n }) in
    let size : length (rising wire low n) ≡ length (rising wire low n ++ bit ∷ []) - 1 = omega (arith, length-append (rising wire low n) (bit ∷ [])) in
    ap last_bit (sym (rising_more wire low n)) ∙ get_or_at (rising wire low n) bit [] (Fixed S0) (length (rising wire low n ++ bit ∷ []) - 1) size

fixed_last : (first : Bit) (others : List Bit) → (b : Bit) × (last_bit (Fixed first ∷ map Fixed others) ≡ Fixed b)
fixed_last first others =
    let cs = first ∷ others in
    let lt : length (map Fixed cs) - 1 < length cs = omega (arith, length-map cs Fixed) in
    (get_or cs (length (map Fixed cs) - 1) S0, get_or-map Fixed cs (length (map Fixed cs) - 1) S0 (Fixed S0) lt)

-- ---- one bit alone

bit_run : (wires : List records.Wire) (bit : SigBit) → IsBitOf wires bit → IsRun wires (bit ∷ [])
bit_run wires (Fixed bit) has = inl (record { first = bit; others = []; is = refl; few = omega arith })
bit_run wires (Wire bit) has = inr (of_wire (slice_get wires bit.wire) refl has)
  where
    of_wire : (o : Option records.Wire) → slice_get wires bit.wire ≡ o → IsSomeAnd o (λ w. bit.at < w.width) → AreRising wires (Wire bit ∷ [])
    of_wire None e h = absurd h
    of_wire (Some w) e h = record { wire = bit.wire; low = bit.at; others = 0; of = w; is = refl; at = e; within = omega (arith, h) }

-- ---- a bit that goes on with a run

fixed_more : (first : Bit) (others : List Bit) (bit : SigBit) → length (first ∷ others) ≤ MAX_RUN → goes_on (last_bit (Fixed first ∷ map Fixed others)) (length (Fixed first ∷ map Fixed others)) bit ≡ true → AreFixed ((Fixed first ∷ map Fixed others) ++ bit ∷ [])
fixed_more first others bit few e =
    let last = fixed_last first others in
    by_bit bit last.0 (ap (λ (b : SigBit). goes_on b (length (Fixed first ∷ map Fixed others)) bit) (sym last.1) ∙ e)
  where
    by_bit : (bit : SigBit) (b : Bit) → goes_on (Fixed b) (length (Fixed first ∷ map Fixed others)) bit ≡ true → AreFixed ((Fixed first ∷ map Fixed others) ++ bit ∷ [])
    by_bit (Wire c) b e = absurd cc
    by_bit (Fixed c) b e = record {
      first = first;
      others = others ++ c ∷ [];
      is = ap (λ (l : List SigBit). Fixed first ∷ l) (sym (map-append Fixed others (c ∷ [])));
      few = omega (arith, ltb-true (length (Fixed first ∷ map Fixed others)) MAX_RUN e, length-map others Fixed, length-append others (c ∷ []));
    }

rising_goes : (wires : List records.Wire) (wire low n : ℕ) (bit : SigBit) → IsBitOf wires bit → goes_on (last_bit (rising wire low (suc n))) (length (rising wire low (suc n))) bit ≡ true → AreRising wires (rising wire low (suc n) ++ bit ∷ [])
rising_goes wires wire low n bit has e = by_bit bit has (ap (λ (b : SigBit). goes_on b (length (rising wire low (suc n))) bit) (sym (rising_last wire low n)) ∙ e)
  where
    same_bit : (b : WireBit) (w k : ℕ) → b.wire ≡ w → b.at ≡ k → Wire b ≡ Wire (record { wire = w; at = k })
    same_bit b w k e f = ap (λ (x : ℕ). Wire (record { wire = x; at = b.at })) e ∙ ap (λ (x : ℕ). Wire (record { wire = w; at = x })) f

    of_wire : (b : WireBit) (o : Option records.Wire) → b.wire ≡ wire → b.at ≡ low + suc n → slice_get wires b.wire ≡ o → IsSomeAnd o (λ w. b.at < w.width) → AreRising wires (rising wire low (suc n) ++ Wire b ∷ [])
    of_wire b None e f g h = absurd h
    of_wire b (Some w) e f g h = record {
      wire = wire;
      low = low;
      others = suc n;
      of = w;
      is = ap (λ (x : SigBit). rising wire low (suc n) ++ x ∷ []) (same_bit b wire (low + suc n) e f) ∙ rising_more wire low (suc n);
      at = ap (slice_get wires) (sym e) ∙ g;
      within = omega (arith, f, h);
    }

    by_bit : (bit : SigBit) → IsBitOf wires bit → goes_on (Wire (record { wire = wire; at = low + n })) (length (rising wire low (suc n))) bit ≡ true → AreRising wires (rising wire low (suc n) ++ bit ∷ [])
    by_bit (Fixed c) has e = absurd cc
    by_bit (Wire b) has e =
        let parts = and_parts (b.wire == wire) (b.at == low + n + 1) e in
        let f : b.at ≡ low + suc n = eqb-true b.at (low + n + 1) parts.1 ∙ omega arith in
        of_wire b (slice_get wires b.wire) (eqb-true b.wire wire parts.0) f refl has

run_more : (wires : List records.Wire) (run : List SigBit) (bit : SigBit) → IsBitOf wires bit → IsRun wires run → goes_on (last_bit run) (length run) bit ≡ true → IsRun wires (run ++ bit ∷ [])
run_more wires run bit has (inl f) e =
    inl (subst (λ (l : List SigBit). AreFixed (l ++ bit ∷ [])) (sym f.is) (fixed_more f.first f.others bit f.few (ap (λ (l : List SigBit). goes_on (last_bit l) (length l) bit) (sym f.is) ∙ e)))
run_more wires run bit has (inr r) e =
    inr (subst (λ (l : List SigBit). AreRising wires (l ++ bit ∷ [])) (sym r.is) (rising_goes wires r.wire r.low r.others bit has (ap (λ (l : List SigBit). goes_on (last_bit l) (length l) bit) (sym r.is) ∙ e)))

-- ---- the runs of a signal

-- runs end to end, from the lowest
abbrev pub joined : List (List SigBit) → List SigBit
joined [] = []
joined (run ∷ runs) = joined runs ++ run

-- runs that are whole, and the bits that they are together
pub record AreRuns (wires : List records.Wire) (runs : List (List SigBit)) (sig : List SigBit) : Type 0 where
  pub each : All (IsRun wires) runs
  pub together : joined runs ≡ sig

runs_step : (wires : List records.Wire) (runs : List (List SigBit)) (sig : List SigBit) (bit : SigBit) → IsBitOf wires bit → AreRuns wires runs sig → AreRuns wires (with_bit runs bit) (sig ++ bit ∷ [])
runs_step wires [] sig bit has are = record { each = All-cons (IsRun wires) (bit ∷ []) [] (bit_run wires bit has) (All-nil (IsRun wires)); together = ap (λ (l : List SigBit). l ++ bit ∷ []) are.together }
runs_step wires (run ∷ runs) sig bit has are = by_test (goes_on (last_bit run) (length run) bit) refl
  where
    by_test : (t : Bool) → goes_on (last_bit run) (length run) bit ≡ t → AreRuns wires (if t then (run ++ bit ∷ []) ∷ runs else (bit ∷ []) ∷ run ∷ runs) (sig ++ bit ∷ [])
    by_test true e = record {
      each = All-cons (IsRun wires) (run ++ bit ∷ []) runs (run_more wires run bit has (All-head (IsRun wires) run runs are.each) e) (All-tail (IsRun wires) run runs are.each);
      together = sym (append_assoc (joined runs) run (bit ∷ [])) ∙ ap (λ (l : List SigBit). l ++ bit ∷ []) are.together;
    }
    by_test false e = record {
      each = All-cons (IsRun wires) (bit ∷ []) (run ∷ runs) (bit_run wires bit has) are.each;
      together = ap (λ (l : List SigBit). l ++ bit ∷ []) are.together;
    }

runs_fold : (wires : List records.Wire) (runs : List (List SigBit)) (sig bits : List SigBit) → All (IsBitOf wires) bits → AreRuns wires runs sig → AreRuns wires (fold with_bit runs bits) (sig ++ bits)
runs_fold wires runs sig [] has are = subst (AreRuns wires runs) (sym (append-nil sig)) are
runs_fold wires runs sig (bit ∷ bits) has are =
    subst (AreRuns wires (fold with_bit (with_bit runs bit) bits)) (append_assoc sig (bit ∷ []) bits)
    (runs_fold wires (with_bit runs bit) (sig ++ bit ∷ []) bits (All-tail (IsBitOf wires) bit bits has) (runs_step wires runs sig bit (All-head (IsBitOf wires) bit bits has) are))

-- a signal is its runs end to end
pub cut : (wires : List records.Wire) (bits : List SigBit) → All (IsBitOf wires) bits → AreRuns wires (runs_of bits) bits
cut wires bits has = runs_fold wires [] [] bits has (record { each = All-nil (IsRun wires); together = refl })
