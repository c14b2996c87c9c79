-- The open tree of a process stays good.
use Rattle.std.proofs.Common.{◌≡◌, ℕ, ◌+◌, ◌<◌, List, [], ◌∷◌, ◌++◌, length, Ok, refl, sym, subst, ◌∙◌, arith}
use Rattle.std.specs.List.{All, IsDistinct}
use Rattle.std.proofs.lemmas.List.Elements.{All-nil, All-push}
use Rattle.rtl_lex.specs.Items.{Seen}
use Rattle.rtl_sig.specs.declared.sig.SigBit.{SigBit}
use Rattle.rtl_ir.specs.declared.value.Attribute.{Attribute}
use Rattle.rtl_ir.specs.declared.module.Link.{Link}
use Rattle.rtl_ir.specs.declared.wire.Wire.{Wire}
use Rattle.rtl_ir.specs.Tree.{SwitchView, CaseView, switches_of, cases_of}
use Rattle.rtl_ir.specs.declared.limits.TheConstants.{MAX_DEPTH}
use Rattle.rtl_read.specs.declared.tree.OpenCase.{OpenCase}
use Rattle.rtl_read.specs.declared.tree.OpenSwitch.{OpenSwitch}
use Rattle.rtl_read.specs.declared.tree.OpenTree.{OpenTree}
use Rattle.rtl_read.specs.Signal.{some_bits}
use Rattle.rtl_read.specs.Meaning.Tree.{plain_case, plain_tree, case_of, switch_of, enter_switch, open_case, put_case, close_case, close_last, with_pattern, with_assign}
use Rattle.rtl_readable.specs.Readable.{AreAttributes, IsAttribute, IsSignal, IsSomeSignal, IsLink, AreSwitches, AreCases}
use Rattle.rtl_write.proofs.Stages.{IsCaseSoFar, IsRooted, AreOuter, IsTreeSoFar}

-- ---- parts

pub no_attribute : AreAttributes []
unfolding IsDistinct
no_attribute = record { each = All-nil IsAttribute; distinct = tt }

pub some_good : (wires : List Wire) (part sig : List SigBit) (i : Seen) → IsSignal wires part → some_bits part i ≡ Ok sig → IsSomeSignal wires sig
some_good wires [] sig i is e = absurd cc
some_good wires (b ∷ bs) sig i is e =
    let same : b ∷ bs ≡ sig = cc in
    let good : IsSomeSignal wires (b ∷ bs) = record { some = omega arith; signal = is } in
    subst (IsSomeSignal wires) same good

module _ (wires : List Wire) where
  -- one more switch, one more case
  pushed_switch : (depth : ℕ) (xs : List SwitchView) (x : SwitchView) → AreSwitches wires depth (switches_of xs) → depth < MAX_DEPTH → IsSomeSignal wires x.signal → AreAttributes x.attributes → AreCases wires (depth + 1) x.cases → AreSwitches wires depth (switches_of (xs ++ x ∷ []))
  pushed_switch depth [] x are room sig remarks inside = (room, sig, remarks, inside, tt)
  pushed_switch depth (y ∷ ys) x are room sig remarks inside = (are.0, are.1, are.2, are.3, pushed_switch depth ys x are.4 room sig remarks inside)

  pushed_case : (depth : ℕ) (xs : List CaseView) (x : CaseView) → AreCases wires depth (cases_of xs) → All (IsSomeSignal wires) x.patterns → All (IsLink wires) x.assigns → AreAttributes x.attributes → AreSwitches wires depth x.switches → AreCases wires depth (cases_of (xs ++ x ∷ []))
  pushed_case depth [] x are match assigns remarks inner = (match, assigns, remarks, inner, tt)
  pushed_case depth (y ∷ ys) x are match assigns remarks inner = (are.0, are.1, are.2, are.3, pushed_case depth ys x are.4 match assigns remarks inner)

  plain_good : (depth : ℕ) (items : List Attribute) → AreAttributes items → IsCaseSoFar wires depth (plain_case items)
  plain_good depth items are = record { patterns = All-nil (IsSomeSignal wires); assigns = All-nil (IsLink wires); switches = tt; attributes = are }

  plain_rooted : (outer : List OpenSwitch) → IsRooted outer (plain_case [])
  plain_rooted [] = (refl, refl)
  plain_rooted (s ∷ ss) = tt

  -- what a case has in its lines does not matter there
  rooted_kept : (outer : List OpenSwitch) (c e : OpenCase) → c.patterns ≡ e.patterns → c.attributes ≡ e.attributes → IsRooted outer c → IsRooted outer e
  rooted_kept [] c e p a is = (sym p ∙ is.0, sym a ∙ is.1)
  rooted_kept (s ∷ ss) c e p a is = tt

  -- in a switch anything may be
  rooted_inside : (outer : List OpenSwitch) (s : OpenSwitch) (ss : List OpenSwitch) (c : OpenCase) → outer ≡ s ∷ ss → IsRooted outer c
  rooted_inside outer s ss c e = subst (λ (o : List OpenSwitch). IsRooted o c) (sym e) tt

  -- ---- trees

  pub plain_tree_good : IsTreeSoFar wires plain_tree
  plain_tree_good = record { case = plain_good 0 [] no_attribute; rooted = plain_rooted []; outer = tt; attributes = no_attribute }

  module _ (t : OpenTree) (is : IsTreeSoFar wires t) where
    pub with_attributes : (items : List Attribute) → AreAttributes items → IsTreeSoFar wires (record t { attributes = items })
    with_attributes items are = record { case = is.case; rooted = is.rooted; outer = is.outer; attributes = are }

    pub entered : (sig : List SigBit) → IsSomeSignal wires sig → length t.outer < MAX_DEPTH → IsTreeSoFar wires (enter_switch sig t)
    entered sig some room = record {
      case = plain_good (length (enter_switch sig t).outer) [] no_attribute;
      rooted = tt;
      outer = (record { case = is.case; signal = some; cases = tt; attributes = is.attributes; shallow = room }, is.rooted, is.outer);
      attributes = no_attribute;
    }

    pub assigned : (link : Link) → IsLink wires link → IsTreeSoFar wires (with_assign link t)
    assigned link good = record {
      case = record { patterns = is.case.patterns; assigns = All-push (IsLink wires) t.case.assigns link is.case.assigns good; switches = is.case.switches; attributes = is.case.attributes };
      rooted = rooted_kept t.outer t.case (with_assign link t).case refl refl is.rooted;
      outer = is.outer;
      attributes = is.attributes;
    }

    module _ (s : OpenSwitch) (ss : List OpenSwitch) (inside : t.outer ≡ s ∷ ss) where
      pub case_opened : (items : List Attribute) → AreAttributes items → IsTreeSoFar wires (open_case items t)
      case_opened items are = record {
        case = plain_good (length t.outer) items are;
        rooted = rooted_inside t.outer s ss (plain_case items) inside;
        outer = is.outer;
        attributes = is.attributes;
      }

      pub patterned : (sig : List SigBit) → IsSomeSignal wires sig → IsTreeSoFar wires (with_pattern sig t)
      patterned sig some = record {
        case = record { patterns = All-push (IsSomeSignal wires) t.case.patterns sig is.case.patterns some; assigns = is.case.assigns; switches = is.case.switches; attributes = is.case.attributes };
        rooted = rooted_inside t.outer s ss (with_pattern sig t).case inside;
        outer = is.outer;
        attributes = is.attributes;
      }

      around : AreOuter wires (s ∷ ss)
      around = subst (AreOuter wires) inside is.outer

      pub switch_closed : IsTreeSoFar wires (close_last t (s ∷ ss))
      switch_closed =
          let held = around.0 in
          record {
            case = record {
              patterns = held.case.patterns;
              assigns = held.case.assigns;
              switches = pushed_switch (length ss) s.case.switches (switch_of s) held.case.switches held.shallow held.signal held.attributes held.cases;
              attributes = held.case.attributes;
            };
            rooted = rooted_kept ss s.case (close_last t (s ∷ ss)).case refl refl around.1;
            outer = around.2;
            attributes = is.attributes;
          }

    outer_put : (c : OpenCase) (outer : List OpenSwitch) → IsCaseSoFar wires (length outer) c → AreOuter wires outer → AreOuter wires (put_case (case_of c) outer)
    outer_put c [] good are = tt
    outer_put c (s ∷ ss) good are =
        let held = are.0 in
        let deep : length (s ∷ ss) ≡ length ss + 1 = omega arith in
        let inner : AreSwitches wires (length ss + 1) (case_of c).switches = subst (λ (k : ℕ). AreSwitches wires k (case_of c).switches) deep good.switches in
        (record { case = held.case; signal = held.signal; cases = pushed_case (length ss + 1) s.cases (case_of c) held.cases good.patterns good.assigns good.attributes inner; attributes = held.attributes; shallow = held.shallow }, are.1, are.2)

    pub case_closed : IsTreeSoFar wires (close_case t)
    case_closed =
        let outer : List OpenSwitch = put_case (case_of t.case) t.outer in
        record {
          case = plain_good (length outer) [] no_attribute;
          rooted = plain_rooted outer;
          outer = outer_put t.case t.outer is.case is.outer;
          attributes = is.attributes;
        }
