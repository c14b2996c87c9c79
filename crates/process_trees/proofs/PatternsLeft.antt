-- How cases are read: the patterns one after another.
use Rattle.std.proofs.Common.{◌≡◌, ℕ, suc, ◌+◌, ◌<◌, Bool, true, false, cond, List, [], ◌∷◌, ◌++◌, length, get_or, drop, filter, append_assoc, refl, sym, ◌∙◌, ap, add-one}
use Rattle.std.proofs.Math.Seq.{drop-cons}
use Rattle.rtl_sig.specs.declared.sig.SigBit.{SigBit}
use Rattle.rtl_ir.specs.Signals.{is_all_constant}
use Rattle.rtl_ir.specs.SwitchRules.{is_dropped, patterns_left, with_pattern}
use Rattle.process_trees.specs.Reading.{constants_after, constants_with, left_with}

module _ (signal : List SigBit) (e : List (List SigBit)) (p : List SigBit) (ps : List (List SigBit)) where
  more_constants : constants_after signal (constants_with signal e p) ps ≡ constants_after signal e (p ∷ ps)
  more_constants = by (is_dropped signal e p)
    where
      on : (c : Bool) (rest : List (List SigBit)) → cond c (e ++ p ∷ []) e ++ rest ≡ e ++ cond c (p ∷ rest) rest
      on true rest = append_assoc e (p ∷ []) rest
      on false rest = refl

      by : (d : Bool) → constants_after signal (cond d e (with_pattern e p)) ps
          ≡ e ++ filter is_all_constant (cond d (patterns_left signal e ps) (p ∷ patterns_left signal (with_pattern e p) ps))
      by true = refl
      by false = on (is_all_constant p) (filter is_all_constant (patterns_left signal (with_pattern e p) ps))

  more_left : (left : List (List SigBit)) → left_with signal e p left ++ patterns_left signal (constants_with signal e p) ps ≡ left ++ patterns_left signal e (p ∷ ps)
  more_left left = by (is_dropped signal e p)
    where
      by : (d : Bool) → cond d left (left ++ p ∷ []) ++ patterns_left signal (cond d e (with_pattern e p)) ps
          ≡ left ++ cond d (patterns_left signal e ps) (p ∷ patterns_left signal (with_pattern e p) ps)
      by true = refl
      by false = append_assoc left (p ∷ []) (patterns_left signal (with_pattern e p) ps)

-- what is left so far, with what is left of the patterns behind, is all that is left
pub record LeftSo (signal : List SigBit) (first all earlier ps left : List (List SigBit)) : Type 0 where
  pub constants : constants_after signal earlier ps ≡ constants_after signal first all
  pub patterns : left ++ patterns_left signal earlier ps ≡ patterns_left signal first all

pub left_next : (signal : List SigBit) (first patterns : List (List SigBit)) (i : ℕ) (p : List SigBit) → i < length patterns → p ≡ get_or patterns i p
    → (earlier after left new : List (List SigBit)) → after ≡ constants_with signal earlier p → new ≡ left_with signal earlier p left
    → LeftSo signal first patterns earlier (drop i patterns) left → LeftSo signal first patterns after (drop (i + 1) patterns) new
left_next signal first patterns i p h is earlier after left new kept made before =
    let next : suc i ≡ i + 1 = sym (add-one i) in
    let ps = drop (i + 1) patterns in
    let here : drop i patterns ≡ p ∷ ps = drop-cons patterns i p h ∙ (λ j. sym is j ∷ drop (next j) patterns) in
    record {
      constants = ap (λ e. constants_after signal e ps) kept ∙ more_constants signal earlier p ps ∙ ap (constants_after signal earlier) (sym here) ∙ before.constants;
      patterns = (λ j. made j ++ patterns_left signal (kept j) ps) ∙ more_left signal earlier p ps left ∙ ap (λ xs. left ++ patterns_left signal earlier xs) (sym here) ∙ before.patterns;
    }
