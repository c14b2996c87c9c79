-- The gates of `$demux`: their loops, and where they pass a limit.
use Rattle.std.proofs.Common.{◌≡◌, ℕ, zero, suc, ◌+◌, ◌-◌, ◌/◌, ◌%◌, ◌<◌, ◌≤◌, true, false, min, ⊎_elim, List, [], ◌∷◌, ◌++◌, length, drop, get_or, take, refl, sym, ◌∙◌, ap, subst, arith, append_assoc}
use Rattle.std.specs.Prelude.{if◌then◌else◌, ◌==◌}
use Rattle.std.proofs.lemmas.Bool.{cases_lt, eqb-true}
use Rattle.std.proofs.lemmas.List.{drop_all}
use Rattle.cell_types.specs.declared.gate.GateKind.TheVariants as GateOf
use Rattle.cell_types.specs.declared.pin_name.PinName.TheVariants.{A, B, Y}
use Rattle.cell_types.specs.declared.word.BitwiseKind.TheVariants.{And}
use Rattle.rtl_ir.specs.Build.{Building}
use Rattle.rtl_sig.specs.declared.sig.SigBit.{SigBit}
use Rattle.net_index.specs.Builder.{IsInLimits, PassesLimit}
use Rattle.net_index.specs.BuilderNames.{gate_name}
use Rattle.gate_nets.proofs.Limits.{each_limits as word_limits, whole_fold_limits}
use Rattle.gate_nets.proofs.Steps.{left_at}
use Rattle.gate_nets.specs.Gate.{one}
use Rattle.gate_nets.specs.Words.{fold_of, inverse_of}
use Rattle.gate_nets.specs.declared.gate.Gate.TheVariants.{Not}
use Rattle.map_gates.specs.Bitwise.{binary_gates}
use Rattle.map_gates.specs.Gates.{bit_at}
use Rattle.map_gates.specs.Parts.{all_parts, demux_gates, hit_of, hits_for, part_gates, parts_from}
use Rattle.map_gates.proofs.Adding.{cell_named, each_limits}

-- one place more
pub hits_step : (s inverses made : List SigBit) (at rest : ℕ) (d : SigBit) → at < length s → at < length inverses
    → (made ++ (if rest % 2 == 1 then get_or s at d else get_or inverses at d) ∷ []) ++ hits_for (drop (at + 1) s) (drop (at + 1) inverses) (rest / 2) ≡ made ++ hits_for (drop at s) (drop at inverses) rest
hits_step s inverses made at rest d h k =
    append_assoc made _ _
    ∙ ap (λ z. made ++ hits_for z (get_or inverses at d ∷ drop (at + 1) inverses) rest) (sym (left_at s at d h))
    ∙ ap (λ z. made ++ hits_for (drop at s) z rest) (sym (left_at inverses at d k))

-- nothing is left where one of the words ends
pub hits_end : (s inverses : List SigBit) (at rest : ℕ) → at ≡ min (length s) (length inverses) → hits_for (drop at s) (drop at inverses) rest ≡ []
hits_end s inverses at rest e =
    ⊎_elim
    (λ less. ap (λ z. hits_for z (drop at inverses) rest) (drop_all at s (omega (arith, e, less))))
    (λ more. ap (λ z. hits_for (drop at s) z rest) (drop_all at inverses (omega (arith, e, more))) ∙ no_hits (drop at s))
    (cases_lt (length s) (length inverses))
  where
    no_hits : (bits : List SigBit) → hits_for bits [] rest ≡ []
    no_hits [] = refl
    no_hits (b ∷ bits) = refl

pub part_limits : (a s inverses : List SigBit) (part : ℕ) (ys : List SigBit) (b : Building) → IsInLimits (part_gates a s inverses part ys b) → IsInLimits b
part_limits a s inverses part ys b h =
    let m = fold_of And (hits_for s inverses part) b in
    whole_fold_limits And (hits_for s inverses part) b
    (each_limits (λ at n y. cell_named (gate_name GateOf.And) [] (one A (bit_at true (m.0 ∷ []) at) ∷ one B (bit_at true a at) ∷ one Y y ∷ []) n) 0 ys m.1 h)

pub parts_limits : (a s inverses : List SigBit) (part most : ℕ) (ys : List SigBit) (b : Building) → IsInLimits (parts_from a s inverses part most ys b) → IsInLimits b
parts_limits a s inverses part zero ys b h = h
parts_limits a s inverses part (suc most) [] b h = h
parts_limits a s inverses part (suc most) (y ∷ ys) b h =
    part_limits a s inverses part (take (length a) (y ∷ ys)) b
    (parts_limits a s inverses (part + 1) most (drop (length a) (y ∷ ys)) (part_gates a s inverses part (take (length a) (y ∷ ys)) b) h)

pub demux_limits : (a s ys : List SigBit) (b : Building) → IsInLimits (demux_gates a s ys b) → IsInLimits b
demux_limits a s ys b h =
    word_limits Not s b (parts_limits a s (inverse_of s b).0 0 (length ys) ys (inverse_of s b).1 h)

-- where the inverses pass a limit, all gates do
pub inverse_over : (a s ys : List SigBit) (b : Building) → PassesLimit (inverse_of s b).1 → PassesLimit (demux_gates a s ys b)
inverse_over a s ys b over fits = over (parts_limits a s (inverse_of s b).0 0 (length ys) ys (inverse_of s b).1 fits)

-- all parts are left at the first
pub parts_begin : (a s inverses y : List SigBit) (b : Building) → parts_from a s inverses 0 (length y - 0) y b ≡ all_parts a s inverses y b
parts_begin a s inverses y b = ap (λ n. parts_from a s inverses 0 n y b) (omega arith)

parts_none : (a s inverses : List SigBit) (part most : ℕ) (b : Building) → parts_from a s inverses part most [] b ≡ b
parts_none a s inverses part zero b = refl
parts_none a s inverses part (suc most) b = refl

nothing_left : (ys : List SigBit) → (length ys == 0) ≡ true → ys ≡ []
nothing_left [] e = refl
nothing_left (y ∷ ys) e = absurd (omega (arith, eqb-true (length (y ∷ ys)) 0 e))

-- the parts that are left, from a part on, as many as the bits from it on at most
module _ (a s inverses y : List SigBit) (part : ℕ) (ys : List SigBit) (b all : Building) (e : parts_from a s inverses part (length y - part) ys b ≡ all) where
  -- where nothing of the output is left, they are all
  pub parts_end : (length ys == 0) ≡ true → b ≡ all
  parts_end none =
      sym (parts_none a s inverses part (length y - part) b)
      ∙ ap (λ z. parts_from a s inverses part (length y - part) z b) (sym (nothing_left ys none))
      ∙ e

  pub parts_last : length y ≤ part → b ≡ all
  parts_last past =
      let none : 0 ≡ length y - part = omega (arith, past) in
      ap (λ m. parts_from a s inverses part m ys b) none ∙ e

  -- one part more
  module _ (inside : part < length y) (some : (length ys == 0) ≡ false) where
    one_part : parts_from a s inverses (part + 1) (length y - (part + 1)) (drop (length a) ys) (part_gates a s inverses part (take (length a) ys) b) ≡ all
    one_part =
        let more : suc (length y - (part + 1)) ≡ length y - part = omega (arith, inside) in
        by (length y - (part + 1)) ys some ∙ ap (λ m. parts_from a s inverses part m ys b) more ∙ e
      where
        by : (most : ℕ) (ys : List SigBit) → (length ys == 0) ≡ false → parts_from a s inverses (part + 1) most (drop (length a) ys) (part_gates a s inverses part (take (length a) ys) b) ≡ parts_from a s inverses part (suc most) ys b
        by most [] none = absurd (cc)
        by most (y ∷ ys) none = refl

    part_over : PassesLimit (part_gates a s inverses part (take (length a) ys) b) → PassesLimit all
    part_over over fits =
        over (parts_limits a s inverses (part + 1) (length y - (part + 1)) (drop (length a) ys) (part_gates a s inverses part (take (length a) ys) b) (subst IsInLimits (sym one_part) fits))

    -- where whether S is the number passes a limit, all gates do
    pub hit_over : PassesLimit (hit_of s inverses part b).1 → PassesLimit all
    hit_over over =
        part_over (λ fits. over (each_limits (λ at n y. cell_named (gate_name GateOf.And) [] (one A (bit_at true ((hit_of s inverses part b).0 ∷ []) at) ∷ one B (bit_at true a at) ∷ one Y y ∷ []) n) 0 (take (length a) ys) (hit_of s inverses part b).1 fits))

    -- with what is left of the output as it was taken
    module _ (m : SigBit) (next : Building) (made : (m, next) ≡ hit_of s inverses part b) (xs : List SigBit) (cut : xs ≡ take (length a) ys) where
      as_part : binary_gates GateOf.And true (m ∷ []) a xs next ≡ part_gates a s inverses part (take (length a) ys) b
      as_part = λ i. binary_gates GateOf.And true ((made i).0 ∷ []) a (cut i) (made i).1

      -- where the and-gates pass a limit, all gates do
      pub ands_over : PassesLimit (binary_gates GateOf.And true (m ∷ []) a xs next) → PassesLimit all
      ands_over over = part_over (subst PassesLimit as_part over)

      pub parts_step : (new : Building) → new ≡ binary_gates GateOf.And true (m ∷ []) a xs next → (rest : List SigBit) → rest ≡ drop (length a) ys → parts_from a s inverses (part + 1) (length y - (part + 1)) rest new ≡ all
      parts_step new built rest left =
          let whole : new ≡ part_gates a s inverses part (take (length a) ys) b = built ∙ as_part in
          (λ i. parts_from a s inverses (part + 1) (length y - (part + 1)) (left i) (whole i)) ∙ one_part
