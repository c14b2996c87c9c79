-- Bits at which new runs begin.
use Rattle.std.proofs.Common.{◌≡◌, ◌==◌, ℕ, zero, suc, ◌+◌, ◌^◌, ◌<◌, ◌≤◌, ◌&&◌, ◌||◌, not, cond, Bool, true, false, List, [], ◌∷◌, length, drop, get_or, take, min, add-one, refl, sym, ◌∙◌, ap, arith, if◌then◌else◌, true≢false}
use Rattle.std.proofs.Math.Seq.{drop-cons}
use Rattle.std.proofs.lemmas.Bool.{and_parts, eqb-true}
use Rattle.std.proofs.lemmas.Bool.Decides.{nat_tests}
use Rattle.std.specs.HashSet.{contains}
use Rattle.std.specs.List.{list_any}
use Rattle.rtl_sig.specs.declared.sig.SigBit.{SigBit}
use Rattle.rtl_sig.specs.declared.sig.SigBit.TheVariants.{Fixed, Wire as OnWire}
use Rattle.rtl_sig.specs.declared.sig.WireBit.{WireBit}
use Rattle.rtl_ir.specs.declared.module.Link.{Link}
use Rattle.rtl_ir.specs.Signals.{same_bit}
use Rattle.net_model.specs.Proc.Mux.{goes_on, names_bit, same_lines}
use Rattle.proc_mux.specs.Begins.{AreBegins, Bits, IsNext, differ, is_named, parts}
use Rattle.proc_mux.specs.Lines.{is_bit}
use Rattle.proc_mux.proofs.Ordering.{bit_is}

-- some item of a list is so: what is left of it, and what was there before
module _ {A : Type 0} (p : A → Bool) where
  or_again : (x y z : Bool) → ((x || y) || z) ≡ (x || (y || z))
  or_again true y z = refl
  or_again false y z = refl

  pub any_goes : (items : List A) (at : ℕ) (x : A) (h : at < length items) (e : x ≡ get_or items at x) (old new all : Bool) → new ≡ (old || p x) → (old || list_any p (drop at items)) ≡ all → (new || list_any p (drop (at + 1) items)) ≡ all
  any_goes items at x h e old new all is so =
      let next : drop at items ≡ x ∷ drop (suc at) items = drop-cons items at x h ∙ ap (λ y. y ∷ drop (suc at) items) (sym e) in
      (λ i. is i || list_any p (drop (add-one at i) items))
      ∙ or_again old (p x) (list_any p (drop (suc at) items))
      ∙ ap (λ xs. old || list_any p xs) (sym next)
      ∙ so

  -- the item by its place
  pub any_at : (items : List A) (at : ℕ) (d : A) (h : at < length items) (old new all : Bool) → new ≡ (old || p (get_or items at d)) → (old || list_any p (drop at items)) ≡ all → (new || list_any p (drop (at + 1) items)) ≡ all
  any_at items at d h old new all is so =
      (λ i. is i || list_any p (drop (add-one at i) items))
      ∙ or_again old (p (get_or items at d)) (list_any p (drop (suc at) items))
      ∙ ap (λ xs. old || list_any p xs) (sym (drop-cons items at d h))
      ∙ so

  or_false : (x : Bool) → x ≡ (x || false)
  or_false true = refl
  or_false false = refl

  pub any_end : (items : List A) (at : ℕ) → length items ≤ at → (old all : Bool) → (old || list_any p (drop at items)) ≡ all → old ≡ all
  any_end items at past old all so = or_false old ∙ ap (λ t. old || t) (sym (none items at past)) ∙ so
    where
      none : (items : List A) (at : ℕ) → length items ≤ at → list_any p (drop at items) ≡ false
      none [] zero h = refl
      none [] (suc at) h = refl
      none (x ∷ items) zero h = absurd (omega arith)
      none (x ∷ items) (suc at) h = none items at (omega arith)

-- a test beside one that is the same for all items
pub any_with : {A : Type 0} (p : A → Bool) (u : Bool) (items : List A) → list_any (λ x. p x && u) items ≡ (list_any p items && u)
any_with p u [] = refl
any_with p u (x ∷ items) = ap (λ t. (p x && u) || t) (any_with p u items) ∙ by (p x) (list_any p items) u
  where
    by : (s t u : Bool) → ((s && u) || (t && u)) ≡ ((s || t) && u)
    by true true true = refl
    by true true false = refl
    by true false true = refl
    by true false false = refl
    by false t u = refl

-- the places of a line that count, and the bits that it names
pub named_is : (left right : List SigBit) (k : ℕ) → k ≡ min (length left) (length right) → (b : WireBit) → list_any (λ s. is_bit s b) (take k left) ≡ is_named left right b
named_is [] right zero e b = refl
named_is [] right (suc k) e b = refl
named_is (Fixed c ∷ left) [] zero e b = refl
named_is (OnWire a ∷ left) [] zero e b = refl
named_is (l ∷ left) [] (suc k) e b = absurd (omega arith)
named_is (l ∷ left) (r ∷ right) zero e b = absurd (omega arith)
named_is (Fixed c ∷ left) (r ∷ right) (suc k) e b = let less : k ≡ min (length left) (length right) = omega arith in named_is left right k less b
named_is (OnWire a ∷ left) (r ∷ right) (suc k) e b = let less : k ≡ min (length left) (length right) = omega arith in ap (λ t. same_bit a b || t) (named_is left right k less b)

-- what a line parts
pub line_parts : (old one two x y : Bool) → one ≡ (old || (x && not y)) → two ≡ (one || (y && not x)) → two ≡ (old || differ x y)
line_parts old one two x y e f = f ∙ ap (λ t. t || (y && not x)) e ∙ or_three old (x && not y) (y && not x)
  where
    or_three : (x y z : Bool) → ((x || y) || z) ≡ (x || (y || z))
    or_three true y z = refl
    or_three false y z = refl

-- what is put in at a place
kept : (t n old : Bool) → (t ≡ true → n ≡ true) → old ≡ (old || (t && not n))
kept true true true h = refl
kept true true false h = refl
kept true false old h = absurd (true≢false (sym (h refl)))
kept false n true h = refl
kept false n false h = refl

added : (t n old : Bool) → (t ≡ true → n ≡ false) → cond t true old ≡ (old || (t && not n))
added true true old h = absurd (true≢false (h refl))
added true false true h = refl
added true false false h = refl
added false n true h = refl
added false n false h = refl

next_place : (x y k z : ℕ) → k ≡ x + 1 → y + 1 ≡ z → (k == z) ≡ (x == y)
next_place x y k z e f = grind (arith, nat_tests)

own_place : (x y k z : ℕ) → k + 1 ≡ x → y + 1 ≡ z → (k == y) ≡ (x == z)
own_place x y k z e f = grind (arith, nat_tests)

module _ (a b : WireBit) (follows : IsNext a b) (bit : WireBit) (named : WireBit → Bool) where
  -- the bit behind a bit
  module _ (next : WireBit) (wire : next.wire ≡ bit.wire) (place : next.at ≡ bit.at + 1) where
    next_same : same_bit next b ≡ same_bit bit a
    next_same = (λ i. (wire i == sym follows.wire i) && next_place bit.at a.at next.at b.at place follows.at i)

    next_named : (t : Bool) → named next ≡ t → same_bit bit a ≡ true → named b ≡ t
    next_named t e f = ap named (sym (bit_is next b (next_same ∙ f))) ∙ e

    pub next_kept : (old : Bool) → named next ≡ true → old ≡ (old || (same_bit bit a && not (named b)))
    next_kept old e = kept (same_bit bit a) (named b) old (next_named true e)

    pub next_added : (old new : Bool) → named next ≡ false → new ≡ cond (same_bit next b) true old → new ≡ (old || (same_bit bit a && not (named b)))
    next_added old new e is = is ∙ ap (λ t. cond t true old) next_same ∙ added (same_bit bit a) (named b) old (next_named false e)

  pub next_none : (old : Bool) → (bit.at + 1 < 2 ^ 32 → ⊥) → old ≡ (old || (same_bit bit a && not (named b)))
  next_none old past = kept (same_bit bit a) (named b) old (λ f. absurd (past (inside (bit_is bit a f))))
    where
      inside : bit ≡ a → bit.at + 1 < 2 ^ 32
      inside e = let same : bit.at ≡ a.at = ap (λ (x : WireBit). x.at) e in omega (arith, same, follows.at, follows.fits)

  -- the bit before a bit
  module _ (before : WireBit) (wire : before.wire ≡ bit.wire) (place : before.at + 1 ≡ bit.at) where
    own_same : same_bit before a ≡ same_bit bit b
    own_same = (λ i. (wire i == follows.wire i) && own_place bit.at a.at before.at b.at place follows.at i)

    own_named : (t : Bool) → named before ≡ t → same_bit bit b ≡ true → named a ≡ t
    own_named t e f = ap named (sym (bit_is before a (own_same ∙ f))) ∙ e

    pub own_kept : (old : Bool) → named before ≡ true → old ≡ (old || (same_bit bit b && not (named a)))
    own_kept old e = kept (same_bit bit b) (named a) old (own_named true e)

    pub own_added : (old new : Bool) → named before ≡ false → new ≡ cond (same_bit bit b) true old → new ≡ (old || (same_bit bit b && not (named a)))
    own_added old new e is = is ∙ added (same_bit bit b) (named a) old (own_named false e)

  pub own_none : (old : Bool) → (1 ≤ bit.at → ⊥) → old ≡ (old || (same_bit bit b && not (named a)))
  own_none old first = kept (same_bit bit b) (named a) old (λ f. absurd (first (inside (bit_is bit b f))))
    where
      inside : bit ≡ b → 1 ≤ bit.at
      inside e = let same : bit.at ≡ b.at = ap (λ (x : WireBit). x.at) e in omega (arith, same, follows.at)

-- bits of one run
same_flags : (s t : Bool) → (if s then t else not t) ≡ not (differ s t)
same_flags true true = refl
same_flags true false = refl
same_flags false true = refl
same_flags false false = refl

not_or : (s t : Bool) → (not s && not t) ≡ not (s || t)
not_or true t = refl
not_or false t = refl

lines_same : (a b : WireBit) (lines : List Link) → same_lines lines a b ≡ not (list_any (λ (l : Link). parts a b l.left l.right) lines)
lines_same a b [] = refl
lines_same a b (l ∷ lines) =
    (λ i. same_flags (names_bit a l) (names_bit b l) i && lines_same a b lines i)
    ∙ not_or (differ (names_bit a l) (names_bit b l)) (list_any (λ (k : Link). parts a b k.left k.right) lines)

module _ (begins : Bits) (lines : List Link) (a b : WireBit) where
  pub goes_is : AreBegins begins lines → b.at < 2 ^ 32 → ((a.wire == b.wire) && ((a.at + 1) == b.at)) ≡ true → not (contains same_bit begins b) ≡ goes_on lines a b
  goes_is are fits e =
      let p = and_parts (a.wire == b.wire) ((a.at + 1) == b.at) e in
      let follows : IsNext a b = record { wire = eqb-true a.wire b.wire p.0; at = eqb-true (a.at + 1) b.at p.1; fits = fits } in
      let runs_on : goes_on lines a b ≡ same_lines lines a b = λ i. p.0 i && (p.1 i && same_lines lines a b) in
      ap not (are a b follows) ∙ sym (lines_same a b lines) ∙ sym runs_on

  pub goes_not : ((a.wire == b.wire) && ((a.at + 1) == b.at)) ≡ false → false ≡ goes_on lines a b
  goes_not e = by (a.wire == b.wire) ((a.at + 1) == b.at) e
    where
      by : (s t : Bool) → (s && t) ≡ false → false ≡ (s && (t && same_lines lines a b))
      by true true f = absurd (true≢false f)
      by true false f = refl
      by false t f = refl
