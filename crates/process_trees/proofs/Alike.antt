-- What a tree gives a bit last are the leaves of its decision, up to their order.
use Rattle.std.proofs.Common.{◌≡◌, Bool, true, false, List, [], ◌∷◌, Option, Some, None, refl, sym, ap, ◌∙◌}
use Rattle.std.specs.Prelude.{◌&&◌, ◌||◌, flat_map}
use Rattle.std.proofs.lemmas.Bool.{false≢true}
use Rattle.std.specs.List.{list_any}
use Rattle.std.specs.Option.{option_map_or}
use Rattle.rtl_bits.specs.declared.bit.Bit.TheVariants.{X}
use Rattle.rtl_sig.specs.declared.sig.SigBit.{SigBit}
use Rattle.rtl_sig.specs.declared.sig.SigBit.TheVariants.{Fixed}
use Rattle.rtl_sig.specs.declared.sig.WireBit.{WireBit}
use Rattle.rtl_ir.specs.declared.module.Link.{Link}
use Rattle.rtl_ir.specs.Assigns.{assigned}
use Rattle.rtl_ir.specs.Decisions.{Decision, Leaf, Choice, Branches, NoBranch, OneBranch, after_assigns, after_switches, branches_of, case_decision, leaves_before, leaves_of}
use Rattle.rtl_ir.specs.Tree.{Switches, NoSwitch, OneSwitch, Cases, NoCase, OneCase, CaseView}
use Rattle.process_trees.proofs.Summaries.{AreAlike, HasItem, any_append, some_append}
use Rattle.process_trees.specs.Reach.{Reach, after, either, given_last, if_kept, reach_case, reach_cases, reach_switches, reaching}

any_kept : (f : SigBit → Bool) (keeps : Bool) (xs : List SigBit) → list_any f (if_kept keeps xs) ≡ (keeps && list_any f xs)
any_kept f true xs = refl
any_kept f false xs = refl

module _ (f : SigBit → Bool) where
  -- what is met after a part of a tree, where the bit had a value before it that meets the test or does not
  abbrev met : Reach → Bool → Bool
  met r earlier = list_any f r.sources || (r.keeps && earlier)

  met_after : (later earlier : Reach) (t : Bool) → met (after later earlier) t ≡ met later (met earlier t)
  met_after later earlier t =
      ap (λ u. u || ((later.keeps && earlier.keeps) && t)) (any_append f later.sources (if_kept later.keeps earlier.sources) ∙ ap (λ u. list_any f later.sources || u) (any_kept f later.keeps earlier.sources))
      ∙ by (list_any f later.sources) later.keeps (list_any f earlier.sources) earlier.keeps t
    where
      by : (a k b l t : Bool) → ((a || (k && b)) || ((k && l) && t)) ≡ (a || (k && (b || (l && t))))
      by true k b l t = refl
      by false true b l t = refl
      by false false b l t = refl

  met_either : (x y : Reach) (t : Bool) → met (either x y) t ≡ (met x t || met y t)
  met_either x y t =
      ap (λ u. u || ((x.keeps || y.keeps) && t)) (any_append f x.sources y.sources)
      ∙ by (list_any f x.sources) (list_any f y.sources) x.keeps y.keeps t
    where
      by : (a b k l t : Bool) → ((a || b) || ((k || l) && t)) ≡ ((a || (k && t)) || (b || (l && t)))
      by true b k l t = refl
      by false true true l true = refl
      by false true true l false = refl
      by false true false l t = refl
      by false false true l true = refl
      by false false true true false = refl
      by false false true false false = refl
      by false false false l t = refl

  module _ (b : WireBit) where
    assigns_met : (assigns : List Link) (d : Decision) → list_any f (leaves_of (after_assigns assigns b d)) ≡ met (given_last (assigned assigns b)) (list_any f (leaves_of d))
    assigns_met assigns d = by (assigned assigns b)
      where
        end : (a t : Bool) → (a || false) ≡ ((a || false) || (false && t))
        end true t = refl
        end false t = refl

        by : (o : Option SigBit) → list_any f (leaves_of (option_map_or (λ s. Leaf s) o d)) ≡ met (given_last o) (list_any f (leaves_of d))
        by None = refl
        by (Some s) = end (f s) (list_any f (leaves_of d))

    mutual
      switches_met : (switches : Switches) (d : Decision) → list_any f (leaves_of (after_switches b switches d)) ≡ met (reach_switches b switches) (list_any f (leaves_of d))
      switches_met NoSwitch d = refl
      switches_met (OneSwitch signal attributes cases rest) d =
          switches_met rest (Choice signal (branches_of b cases d) d)
          ∙ ap (met (reach_switches b rest)) (cases_met cases d)
          ∙ sym (met_after (reach_switches b rest) (reach_cases b cases) (list_any f (leaves_of d)))

      cases_met : (cases : Cases) (d : Decision) → list_any f (leaves_before (branches_of b cases d) (leaves_of d)) ≡ met (reach_cases b cases) (list_any f (leaves_of d))
      cases_met NoCase d = refl
      cases_met (OneCase [] assigns attributes switches rest) d =
          switches_met switches (after_assigns assigns b d)
          ∙ ap (met (reach_switches b switches)) (assigns_met assigns d)
          ∙ sym (met_after (reach_switches b switches) (given_last (assigned assigns b)) (list_any f (leaves_of d)))
      cases_met (OneCase (p ∷ ps) assigns attributes switches rest) d =
          any_append f (leaves_of (after_switches b switches (after_assigns assigns b d))) (leaves_before (branches_of b rest d) (leaves_of d))
          ∙ (λ i.
          (switches_met switches (after_assigns assigns b d)
          ∙ ap (met (reach_switches b switches)) (assigns_met assigns d)
          ∙ sym (met_after (reach_switches b switches) (given_last (assigned assigns b)) (list_any f (leaves_of d)))) i
          || cases_met rest d i)
          ∙ sym (met_either (after (reach_switches b switches) (given_last (assigned assigns b))) (reach_cases b rest) (list_any f (leaves_of d)))

-- what a root gives a bit last are the leaves of its decision
pub reaching_alike : (root : CaseView) (b : WireBit) → AreAlike (leaves_of (case_decision root b)) (reaching root b)
reaching_alike root b f =
    switches_met f b root.switches (after_assigns root.assigns b (Leaf (Fixed X)))
    ∙ ap (met f (reach_switches b root.switches)) (assigns_met f b root.assigns (Leaf (Fixed X)))
    ∙ sym (met_after f (reach_switches b root.switches) (given_last (assigned root.assigns b)) (list_any f (Fixed X ∷ [])))
    ∙ sym (any_append f (reach_case b root).sources (if_kept (reach_case b root).keeps (Fixed X ∷ [])) ∙ ap (λ u. list_any f (reach_case b root).sources || u) (any_kept f (reach_case b root).keeps (Fixed X ∷ [])))

-- ---- lists that lists lead to

pub any_flat : (f : SigBit → Bool) (g : SigBit → List SigBit) (xs : List SigBit) → list_any f (flat_map g xs) ≡ list_any (λ s. list_any f (g s)) xs
any_flat f g [] = refl
any_flat f g (x ∷ xs) = any_append f (g x) (flat_map g xs) ∙ ap (λ t. list_any f (g x) || t) (any_flat f g xs)

pub flat_alike : (g : SigBit → List SigBit) (xs ys : List SigBit) → AreAlike xs ys → AreAlike (flat_map g xs) (flat_map g ys)
flat_alike g xs ys h f = any_flat f g xs ∙ h (λ s. list_any f (g s)) ∙ sym (any_flat f g ys)

mutual
  -- a decision has a leaf
  pub some_leaf : (d : Decision) → HasItem (leaves_of d)
  some_leaf (Leaf s) = tt
  some_leaf (Choice signal branches last) = some_before branches (leaves_of last) (some_leaf last)

  some_before : (branches : Branches) (last : List SigBit) → HasItem last → HasItem (leaves_before branches last)
  some_before NoBranch last h = h
  some_before (OneBranch [] value rest) last h = some_leaf value
  some_before (OneBranch (p ∷ ps) value rest) last h = some_append (leaves_of value) (leaves_before rest last) (some_leaf value)

-- a bit is given something last
pub some_reaching : (root : CaseView) (b : WireBit) → HasItem (reaching root b)
some_reaching root b = by (reaching root b) (reaching_alike root b (λ s. true))
  where
    all : (xs : List SigBit) → HasItem xs → list_any (λ s. true) xs ≡ true
    all [] h = absurd h
    all (x ∷ xs) h = refl

    by : (xs : List SigBit) → list_any (λ s. true) (leaves_of (case_decision root b)) ≡ list_any (λ s. true) xs → HasItem xs
    by [] e = absurd (false≢true (sym e ∙ all (leaves_of (case_decision root b)) (some_leaf (case_decision root b))))
    by (x ∷ xs) e = tt
