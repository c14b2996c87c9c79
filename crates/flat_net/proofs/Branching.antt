-- Trees of decisions in numbers, one choice or branch more.
use Rattle.std.proofs.Common.{◌≡◌, ℕ, ◌+◌, ◌<◌, Bool, List, [], ◌∷◌, ◌++◌, length, get_or, take, Option, refl, sym, ◌∙◌, ap, map}
use Rattle.std.proofs.lemmas.List.{take_more}
use Rattle.rtl_sig.specs.declared.sig.SigBit.{SigBit}
use Rattle.rtl_sig.specs.declared.sig.WireBit.{WireBit}
use Rattle.rtl_ir.specs.declared.wire.Wire.{Wire}
use Rattle.rtl_ir.specs.Decisions as rtl
use Rattle.rtl_ir.specs.Decisions.{Decision, after_switches, branches_of, branches_with_leaves, with_leaves}
use Rattle.rtl_ir.specs.Faults.TwoEdges.{SwitchTest, branch_patterns, cases_patterns}
use Rattle.rtl_ir.specs.Flat.Pick.{Pick, pick_of, picks_of, where_of}
use Rattle.rtl_ir.specs.Flat.Place.{Path, Place}
use Rattle.rtl_ir.specs.Flat.Point as flat
use Rattle.rtl_ir.specs.Flat.Point.{points}
use Rattle.rtl_ir.specs.Follow.{all_joins}
use Rattle.rtl_ir.specs.declared.follow.Join.{Join}
use Rattle.rtl_ir.specs.Tree.{Cases, NoCase, OneCase, CaseView, SwitchView, cases_of, switches_of}
use Rattle.flat_net.specs.declared.choices.Assign.{Assign}
use Rattle.flat_net.specs.declared.leaves.Source.{Source}
use Rattle.flat_net.specs.declared.net.Point.{Point}
use Rattle.flat_net.specs.Choices as choices
use Rattle.flat_net.specs.Choices.{OneBranch, BranchView, ChoiceView, choices_of}
use Rattle.flat_net.specs.Known.{Keeps}
use Rattle.flat_net.specs.Picks.{branch_pick, branches_pick, choices_pick}
use Rattle.flat_net.specs.Points.{points_of}
use Rattle.flat_net.specs.Reads.{ArePoints}
use Rattle.flat_net.specs.Trees.{AreAssigns, AreBranches, AreChoices, AreSignals, IsBranch, IsBranchAt, IsChoice, after_joins}
use Rattle.flat_net.specs.Within.{AreChoicesWithin, AreBranchesWithin}
use Rattle.flat_net.proofs.Reading.{ArePoints-kept, AreSignals-kept, branch-kept, branch-within, branches-kept, branches-within, choices-kept, choices-within}
use Rattle.flat_net.proofs.Assigning.{AreAssigns-kept, AreLeaves-before}

module _ (test : SwitchTest) (p : Path) (wires : List Wire) (bits : List WireBit) where
  -- choices

  pub AreChoices-none : (ps : List Place) → AreChoices ps test p wires bits [] []
  AreChoices-none ps = record { are = λ leaf f l at b h d. refl; within = tt }

  choices-end : (ps : List Place) (leaf : Source → Pick) (at : ℕ) (cs : List ChoiceView) (c : ChoiceView) (e : Pick)
      → choices_pick ps leaf at (choices_of (cs ++ c ∷ [])) e ≡ branches_pick ps leaf at c.test (points_of ps c.signal) c.branches (choices_pick ps leaf at (choices_of cs) e) (choices_pick ps leaf at (choices_of cs) e)
  choices-end ps leaf at [] c e = refl
  choices-end ps leaf at (x ∷ cs) c e = choices-end ps leaf at cs c (branches_pick ps leaf at x.test (points_of ps x.signal) x.branches e e)

  switches-end : (b : WireBit) (ss : List SwitchView) (s : SwitchView) (d : Decision)
      → after_switches b (switches_of (ss ++ s ∷ [])) d ≡ rtl.Choice s.signal (branches_of b s.cases (after_switches b (switches_of ss) d)) (after_switches b (switches_of ss) d)
  switches-end b [] s d = refl
  switches-end b (x ∷ ss) s d = switches-end b ss s (rtl.Choice x.signal (branches_of b x.cases d) d)

  choices_within-end : (count width : ℕ) (cs : List ChoiceView) (c : ChoiceView) → AreChoicesWithin count width (choices_of cs) → AreChoicesWithin count width (choices_of (c ∷ [])) → AreChoicesWithin count width (choices_of (cs ++ c ∷ []))
  choices_within-end count width [] c h k = k
  choices_within-end count width (x ∷ cs) c h k = (h.0, h.1, choices_within-end count width cs c h.2 k)

  pub AreChoices-kept : (ps qs : List Place) → Keeps ps qs → (cs : List ChoiceView) (ss : List SwitchView) → AreChoices ps test p wires bits cs ss → AreChoices qs test p wires bits cs ss
  AreChoices-kept ps qs keeps cs ss h = record {
    are = λ leaf f l at b k d. choices-kept ps qs keeps (length bits) leaf leaf (λ s w. refl) at (choices_of cs) _ h.within ∙ h.are leaf f (AreLeaves-before test p wires bits ps qs keeps leaf f l) at b k d;
    within = choices-within ps qs keeps (length bits) (choices_of cs) h.within;
  }

  pub AreChoices-next : (ps qs : List Place) (cs new : List ChoiceView) (c : ChoiceView) (ss : List SwitchView) (i : ℕ) (s : SwitchView) → Keeps ps qs → i < length ss → AreChoices ps test p wires bits cs (take i ss)
      → IsChoice qs test p wires bits c (get_or ss i s) → new ≡ cs ++ c ∷ [] → AreChoices qs test p wires bits new (take (i + 1) ss)
  AreChoices-next ps qs cs new c ss i s keeps lt h k put =
      let before = AreChoices-kept ps qs keeps cs (take i ss) h in
      let x = get_or ss i s in
      rw (put, take_more ss i s lt) (record {
        are = λ leaf f l at b there d.
            let earlier = before.are leaf f l at b there d in
            choices-end qs leaf at cs c (pick_of test p wires (with_leaves f d))
            ∙ (λ j. branches_pick qs leaf at c.test (points_of qs c.signal) c.branches (earlier j) (earlier j))
            ∙ k.is leaf f l at b there (after_switches b (switches_of (take i ss)) d)
            ∙ ap (λ d. pick_of test p wires (with_leaves f d)) (sym (switches-end b (take i ss) x d));
        within = choices_within-end (length qs) (length bits) cs c before.within (k.signal_within, k.within, tt);
      })

  -- branches

  pub AreBranches-none : (ps : List Place) → AreBranches ps test p wires bits [] []
  AreBranches-none ps = record { are = λ leaf f l at b h reset signal d last. refl; within = tt }

  branches-end : (ps : List Place) (leaf : Source → Pick) (at : ℕ) (reset : Option Bool) (signal : List flat.Point) (bs : List BranchView) (x : BranchView) (e last : Pick)
      → branches_pick ps leaf at reset signal (choices.branches_of (bs ++ x ∷ [])) e last
      ≡ branches_pick ps leaf at reset signal (choices.branches_of bs) e (branches_pick ps leaf at reset signal (choices.branches_of (x ∷ [])) e last)
  branches-end ps leaf at reset signal [] x e last = refl
  branches-end ps leaf at reset signal (y ∷ bs) x e last = by (branches-end ps leaf at reset signal bs x e last) y.patterns
    where
      left : Pick
      left = branches_pick ps leaf at reset signal (choices.branches_of (x ∷ [])) e last

      by : branches_pick ps leaf at reset signal (choices.branches_of (bs ++ x ∷ [])) e last ≡ branches_pick ps leaf at reset signal (choices.branches_of bs) e left
          → (words : List (List Point)) → branches_pick ps leaf at reset signal (OneBranch words y.assigns y.choices (choices.branches_of (bs ++ x ∷ []))) e last
          ≡ branches_pick ps leaf at reset signal (OneBranch words y.assigns y.choices (choices.branches_of bs)) e left
      by rest [] = refl
      by rest (w ∷ words) = ap (λ other. branches_pick ps leaf at reset signal (OneBranch (w ∷ words) y.assigns y.choices choices.NoBranch) e other) rest

  -- what cases come to with leaves replaced
  abbrev cases_pick : (SigBit → Decision) → WireBit → Option Bool → List SigBit → Cases → Decision → Pick → Pick
  cases_pick f b reset signal cases d last = picks_of test p wires reset signal (branches_with_leaves f (branches_of b cases d)) last

  cases-end : (f : SigBit → Decision) (b : WireBit) (reset : Option Bool) (signal : List SigBit) (cs : List CaseView) (c : CaseView) (d : Decision) (last : Pick)
      → cases_pick f b reset signal (cases_of (cs ++ c ∷ [])) d last ≡ cases_pick f b reset signal (cases_of cs) d (cases_pick f b reset signal (cases_of (c ∷ [])) d last)
  cases-end f b reset signal [] c d last = refl
  cases-end f b reset signal (y ∷ cs) c d last = by (cases-end f b reset signal cs c d last) y.patterns
    where
      left : Pick
      left = cases_pick f b reset signal (cases_of (c ∷ [])) d last

      by : cases_pick f b reset signal (cases_of (cs ++ c ∷ [])) d last ≡ cases_pick f b reset signal (cases_of cs) d left
          → (words : List (List SigBit)) → cases_pick f b reset signal (OneCase words y.assigns y.attributes y.switches (cases_of (cs ++ c ∷ []))) d last
          ≡ cases_pick f b reset signal (OneCase words y.assigns y.attributes y.switches (cases_of cs)) d left
      by rest [] = refl
      by rest (w ∷ words) = ap (λ other. cases_pick f b reset signal (OneCase (w ∷ words) y.assigns y.attributes y.switches NoCase) d other) rest

  branches_within-end : (count width : ℕ) (bs : List BranchView) (x : BranchView) → AreBranchesWithin count width (choices.branches_of bs) → AreBranchesWithin count width (choices.branches_of (x ∷ [])) → AreBranchesWithin count width (choices.branches_of (bs ++ x ∷ []))
  branches_within-end count width [] x h k = k
  branches_within-end count width (y ∷ bs) x h k = (h.0, h.1, h.2, branches_within-end count width bs x h.3 k)

  pub AreBranches-kept : (ps qs : List Place) → Keeps ps qs → (bs : List BranchView) (cs : List CaseView) → AreBranches ps test p wires bits bs cs → AreBranches qs test p wires bits bs cs
  AreBranches-kept ps qs keeps bs cs h = record {
    are = λ leaf f l at b k reset signal d last.
        branches-kept ps qs keeps (length bits) leaf leaf (λ s w. refl) at reset (points p wires signal) (choices.branches_of bs) _ last h.within
        ∙ h.are leaf f (AreLeaves-before test p wires bits ps qs keeps leaf f l) at b k reset signal d last;
    within = branches-within ps qs keeps (length bits) (choices.branches_of bs) h.within;
  }

  -- one branch, in the place of one case
  one_branch : (ps : List Place) (x : BranchView) (c : CaseView) → IsBranchAt ps test p wires bits c.patterns x c → AreBranches ps test p wires bits (x ∷ []) (c ∷ [])
  one_branch ps x c h = record {
    are = λ leaf f l at b k reset signal d last. by leaf f at b reset signal d last x.patterns c.patterns h.patterns_are.are (h.branch_is.is leaf f l at b k d);
    within = (h.patterns_are.within, h.branch_is.within.assigns, h.branch_is.within.choices, tt);
  }
    where
      by : (leaf : Source → Pick) (f : SigBit → Decision) (at : ℕ) (b : WireBit) (reset : Option Bool) (signal : List SigBit) (d : Decision) (last : Pick) (words : List (List Point)) (patterns : List (List SigBit))
          → map (points_of ps) words ≡ map (points p wires) patterns
          → branch_pick ps leaf at x (pick_of test p wires (with_leaves f d)) ≡ pick_of test p wires (with_leaves f (after_switches b c.switches (rtl.after_assigns c.assigns b d)))
          → branches_pick ps leaf at reset (points p wires signal) (OneBranch words x.assigns x.choices choices.NoBranch) (pick_of test p wires (with_leaves f d)) last
          ≡ cases_pick f b reset signal (OneCase patterns c.assigns c.attributes c.switches (cases_of [])) d last
      by leaf f at b reset signal d last [] [] e k = k
      by leaf f at b reset signal d last [] (q ∷ patterns) e k = absurd (cc)
      by leaf f at b reset signal d last (w ∷ words) [] e k = absurd (cc)
      by leaf f at b reset signal d last (w ∷ words) (q ∷ patterns) e k = (λ i. where_of reset (points p wires signal) (e i) (k i) last)

  pub AreBranches-next : (ps qs : List Place) (bs new : List BranchView) (x : BranchView) (cs : List CaseView) (i : ℕ) (c : CaseView) → Keeps ps qs → i < length cs → AreBranches ps test p wires bits bs (take i cs)
      → IsBranchAt qs test p wires bits (get_or cs i c).patterns x (get_or cs i c) → new ≡ bs ++ x ∷ [] → AreBranches qs test p wires bits new (take (i + 1) cs)
  AreBranches-next ps qs bs new x cs i c keeps lt h k put =
      let before = AreBranches-kept ps qs keeps bs (take i cs) h in
      let y = get_or cs i c in
      let here = one_branch qs x y k in
      rw (put, take_more cs i c lt) (record {
        are = λ leaf f l at b there reset signal d last.
            branches-end qs leaf at reset (points p wires signal) bs x (pick_of test p wires (with_leaves f d)) last
            ∙ ap (branches_pick qs leaf at reset (points p wires signal) (choices.branches_of bs) (pick_of test p wires (with_leaves f d))) (here.are leaf f l at b there reset signal d last)
            ∙ before.are leaf f l at b there reset signal d (cases_pick f b reset signal (cases_of (y ∷ [])) d last)
            ∙ sym (cases-end f b reset signal (take i cs) y d last);
        within = branches_within-end (length qs) (length bits) bs x before.within here.within;
      })

  -- whole branches and choices

  pub IsBranch-kept : (ps qs : List Place) → Keeps ps qs → (x : BranchView) (c : CaseView) → IsBranch ps test p wires bits x c → IsBranch qs test p wires bits x c
  IsBranch-kept ps qs keeps x c h = record {
    is = λ leaf f l at b k d.
        branch-kept ps qs keeps (length bits) leaf leaf (λ s w. refl) at x _ h.within
        ∙ h.is leaf f (AreLeaves-before test p wires bits ps qs keeps leaf f l) at b k d;
    within = branch-within ps qs keeps (length bits) x h.within;
  }

  pub branch_made : (ps qs rs : List Place) (words : List (List Point)) (assigns : List Assign) (cs : List ChoiceView) (patterns : List (List SigBit)) (c : CaseView) (js : List Join) (ss : List SwitchView) → Keeps ps rs → Keeps qs rs
      → AreSignals ps p wires words patterns → AreAssigns qs test p wires bits assigns js → js ≡ all_joins c.assigns → AreChoices rs test p wires bits cs ss → switches_of ss ≡ c.switches
      → IsBranchAt rs test p wires bits patterns (record { patterns = words; assigns = assigns; choices = choices_of cs }) c
  branch_made ps qs rs words assigns cs patterns c js ss k m h a all made e =
      let given = AreAssigns-kept test p wires bits qs rs m assigns js a in
      record {
        patterns_are = AreSignals-kept ps rs k p wires words patterns h;
        branch_is = record {
          is = λ leaf f l at b there d.
              ap (choices_pick rs leaf at (choices_of cs)) (given.are leaf f l at b there d)
              ∙ made.are leaf f l at b there (after_joins js b d)
              ∙ (λ i. pick_of test p wires (with_leaves f (after_switches b (e i) (after_joins (all i) b d))));
          within = record { assigns = given.within; choices = made.within };
        };
      }

  -- replaced leaves leave the patterns
  patterns_stay : (f : SigBit → Decision) (b : WireBit) (cases : Cases) (d : Decision) → branch_patterns (branches_with_leaves f (branches_of b cases d)) ≡ cases_patterns cases
  patterns_stay f b NoCase d = refl
  patterns_stay f b (OneCase patterns assigns attributes switches rest) d = ap (λ more. patterns ++ more) (patterns_stay f b rest d)

  pub choice_made : (ps rs : List Place) (signal : List Point) (reset : Option Bool) (bs : List BranchView) (s : SwitchView) (cs : List CaseView) → Keeps ps rs → ArePoints ps signal (points p wires s.signal)
      → reset ≡ test s.signal (cases_patterns s.cases) → AreBranches rs test p wires bits bs cs → cases_of cs ≡ s.cases
      → IsChoice rs test p wires bits (record { signal = signal; test = reset; branches = choices.branches_of bs }) s
  choice_made ps rs signal reset bs s cs k h tested made e =
      let read = ArePoints-kept ps rs k signal (points p wires s.signal) h in
      record {
        is = λ leaf f l at b there d.
            (λ i. branches_pick rs leaf at reset (read.are i) (choices.branches_of bs) (pick_of test p wires (with_leaves f d)) (pick_of test p wires (with_leaves f d)))
            ∙ made.are leaf f l at b there reset s.signal d (pick_of test p wires (with_leaves f d))
            ∙ (λ i. cases_pick f b reset s.signal (e i) d (pick_of test p wires (with_leaves f d)))
            ∙ (λ i. cases_pick f b ((tested ∙ ap (test s.signal) (sym (patterns_stay f b s.cases d))) i) s.signal s.cases d (pick_of test p wires (with_leaves f d)));
        signal_within = read.within;
        within = made.within;
      }
