-- The counts of the bits tell which are driven more than once.
use Rattle.std.proofs.Common.{◌≡◌, ◌≢◌, ℕ, zero, suc, ◌+◌, ◌<◌, ◌≤◌, min, Bool, true, false, cond, ltb, List, [], ◌∷◌, length, get_or, map, replicate, Option, Some, None, refl, sym, ◌∙◌, ap, subst, arith}
use Rattle.std.proofs.lemmas.List.{length-set, get_or-set_same, get_or-set_other, get_or-replicate, length-replicate}
use Rattle.std.proofs.lemmas.Bool.{false≢true, lt-ltb}
use Rattle.std.proofs.lemmas.List.Recursion.{is_count_by}
use Rattle.std.specs.Option.{option_map_or}
use Rattle.rtl_sig.specs.declared.sig.WireBit.{WireBit}
use Rattle.rtl_ir.specs.Drivers.{Drive, drive_count}
use Rattle.rtl_ir.specs.Signals.{same_bit}
use Rattle.net_index.proofs.IndexTables.{same_bit-refl, same_bit-true}
use Rattle.net_index.specs.Numbering.{bit_count, number_of}
use Rattle.net_index.proofs.Numbers.{number-inj, number_within}
use Rattle.process_check.specs.Updates.{AreAlike, times}
use Rattle.rtl_check.specs.Tallies.{Tallied, Tells, raised, untallied, with_bit, with_bits}

-- the bits that are driven
abbrev pub driven : List Drive → List WireBit
driven drives = map (λ (d : Drive). d.bit) drives

times-driven : (drives : List Drive) (b : WireBit) → times (driven drives) b ≡ drive_count drives b
times-driven drives b = is_count_by (λ ds. times (driven ds) b) (λ (d : Drive). same_bit d.bit b) refl (λ x xs. refl) drives

-- a tally that has a count for each bit, at a number of at most 2
pub record IsSized (t : Tallied) (n : ℕ) : Type 0 where
  pub sized : length t.counts ≡ bit_count t.widths
  pub low : get_or t.counts n 0 ≤ 2

-- a count after one bit
record IsNext (t : Tallied) (c b : WireBit) (n : ℕ) : Type 0 where
  next : IsSized (with_bit t c) n
  value : get_or (with_bit t c).counts n 0 ≡ min 2 (get_or t.counts n 0 + cond (same_bit c b) 1 0)

-- what becomes of a count where another bit, or none, is counted
stays : (t : Tallied) (counts : List ℕ) (n : ℕ) (e : Bool) → length counts ≡ length t.counts → get_or counts n 0 ≡ get_or t.counts n 0 → e ≡ false → IsSized t n
    → IsSized (record t { counts = counts }) n × (get_or counts n 0 ≡ min 2 (get_or t.counts n 0 + cond e 1 0))
stays t counts n e long same is s =
    (record { sized = long ∙ s.sized; low = rw same s.low }, rw is (let low = s.low in omega arith))

rises : (t : Tallied) (n : ℕ) (e : Bool) → n < bit_count t.widths → e ≡ true → IsSized t n
    → IsSized (record t { counts = raised t.counts n }) n × (get_or (raised t.counts n) n 0 ≡ min 2 (get_or t.counts n 0 + cond e 1 0))
rises t n e h is s =
    let inside : n < length t.counts = let l = s.sized in omega arith in
    let value : get_or (raised t.counts n) n 0 ≡ min 2 (get_or t.counts n 0 + 1) = get_or-set_same t.counts n (min 2 (get_or t.counts n 0 + 1)) 0 inside in
    (record { sized = length-set t.counts n (min 2 (get_or t.counts n 0 + 1)) ∙ s.sized; low = omega (arith, value) }, rw is value)

next_by : (t : Tallied) (c b : WireBit) (n : ℕ) (o : Option ℕ) → number_of t.widths c ≡ o
    → IsSized (record t { counts = option_map_or (raised t.counts) o t.counts }) n × (get_or (option_map_or (raised t.counts) o t.counts) n 0 ≡ min 2 (get_or t.counts n 0 + cond (same_bit c b) 1 0))
    → IsNext t c b n
next_by t c b n o g p =
    let P : Option ℕ → Type 0 = λ x. IsSized (record t { counts = option_map_or (raised t.counts) x t.counts }) n × (get_or (option_map_or (raised t.counts) x t.counts) n 0 ≡ min 2 (get_or t.counts n 0 + cond (same_bit c b) 1 0)) in
    let q = subst P (sym g) p in
    record { next = q.0; value = q.1 }

next_count : (t : Tallied) (c b : WireBit) (n : ℕ) → number_of t.widths b ≡ Some n → IsSized t n → IsNext t c b n
next_count t c b n at s =
    by (same_bit c b) refl (number_of t.widths c) refl
  where
    apart : same_bit c b ≡ false → (k : ℕ) → number_of t.widths c ≡ Some k → n ≢ k
    apart f k g e =
        let same : c ≡ b = number-inj t.widths c b k g (at ∙ ap Some e) in
        false≢true (sym f ∙ ap (λ x. same_bit x b) same ∙ same_bit-refl b)

    by : (e : Bool) → same_bit c b ≡ e → (o : Option ℕ) → number_of t.widths c ≡ o → IsNext t c b n
    by false f None g = next_by t c b n None g (stays t t.counts n (same_bit c b) refl refl f s)
    by false f (Some k) g =
        next_by t c b n (Some k) g (stays t (raised t.counts k) n (same_bit c b) (length-set t.counts k (min 2 (get_or t.counts k 0 + 1))) (get_or-set_other t.counts k n (min 2 (get_or t.counts k 0 + 1)) 0 (apart f k g)) f s)
    by true f o g =
        let same : number_of t.widths c ≡ Some n = ap (number_of t.widths) (same_bit-true c b f) ∙ at in
        next_by t c b n (Some n) same (rises t n (same_bit c b) (number_within t.widths b n at) f s)

-- a count after some bits
count_after : (bits : List WireBit) (t : Tallied) (b : WireBit) (n : ℕ) → number_of t.widths b ≡ Some n → IsSized t n
    → get_or (with_bits t bits).counts n 0 ≡ min 2 (get_or t.counts n 0 + times bits b)
count_after [] t b n at s = let low = s.low in omega arith
count_after (c ∷ bits) t b n at s =
    let step = next_count t c b n at s in
    count_after bits (with_bit t c) b n at step.next ∙ by (same_bit c b) step.value
  where
    by : (e : Bool) → get_or (with_bit t c).counts n 0 ≡ min 2 (get_or t.counts n 0 + cond e 1 0)
        → min 2 (get_or (with_bit t c).counts n 0 + times bits b) ≡ min 2 (get_or t.counts n 0 + cond e (1 + times bits b) (times bits b))
    by true v = omega (arith, v)
    by false v = omega (arith, v)

-- of bits that were not counted before
count_of : (widths : List ℕ) (bits : List WireBit) (b : WireBit) (n : ℕ) → number_of widths b ≡ Some n
    → get_or (with_bits (untallied widths) bits).counts n 0 ≡ min 2 (times bits b)
count_of widths bits b n at =
    let zero_there : get_or (replicate (bit_count widths) 0) n 0 ≡ 0 = get_or-replicate (bit_count widths) n 0 0 (number_within widths b n at) in
    count_after bits (untallied widths) b n at (record { sized = length-replicate (bit_count widths) 0; low = omega (arith, zero_there) })
    ∙ ap (λ z. min 2 (z + times bits b)) zero_there ∙ omega arith

pub widths-with_bits : (bits : List WireBit) (t : Tallied) → (with_bits t bits).widths ≡ t.widths
widths-with_bits [] t = refl
widths-with_bits (b ∷ bits) t = widths-with_bits bits (with_bit t b)

-- more than once, up to 2, is more than once
over_one : (n : ℕ) → ltb 1 (min 2 n) ≡ ltb 1 n
over_one zero = refl
over_one (suc zero) = refl
over_one (suc (suc n)) = lt-ltb 1 (min 2 (suc (suc n))) (omega arith) ∙ sym (lt-ltb 1 (suc (suc n)) (omega arith))

-- the counts of the bits that are driven tell
pub tells_driven : (widths : List ℕ) (drives : List Drive) (bits others : List WireBit) → driven drives ≡ bits → AreAlike others bits → (t : Tallied) → t ≡ with_bits (untallied widths) others → Tells t drives
tells_driven widths drives bits others e alike t made b n at =
    let same : t.widths ≡ widths = ap (λ (x : Tallied). x.widths) made ∙ widths-with_bits others (untallied widths) in
    let number : number_of widths b ≡ Some n = sym (ap (λ ws. number_of ws b) same) ∙ at in
    ap (λ (x : Tallied). ltb 1 (get_or x.counts n 0)) made
    ∙ ap (ltb 1) (count_of widths others b n number ∙ alike b)
    ∙ over_one (times bits b)
    ∙ ap (λ bs. ltb 1 (times bs b)) (sym e)
    ∙ ap (ltb 1) (times-driven drives b)
