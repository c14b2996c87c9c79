-- What a type that leads back to itself needs to be seen as its trees: a code by which a tree is told from any other,
-- and that what stands in a tree is less deep than the tree.
use Rattle.std.specs.Prelude.{◌≡◌, ◌+◌, ◌≤◌, Bool, max, List, [], ◌∷◌, Option, refl}
use Rattle.std.proofs.Common.{sym, ◌∙◌, ap, subst, le_of_eq}
use denote.Param.Weighed.{most, max_none}
use Rattle.std.specs.Coded.{Coded, code_by, coded×, coded_bool, coded_list, coded_option}
use base.Stored.{Gv, gnil, gcons}
use Rattle.flat_net.specs.declared.choices.Assign.{Assign}
use Rattle.flat_net.specs.contracts.choices.Assign as assign
use Rattle.flat_net.specs.declared.net.Point.{Point}
use Rattle.flat_net.specs.contracts.net.Point as point
use Rattle.flat_net.specs.Choices.{Choices, NoChoice, OneChoice, Branches, NoBranch, OneBranch, BranchView, ChoiceView, choices_of, branches_of, choices_depth, branches_depth, choice_depth, branch_depth}

-- the codes of what stands beside the choices and the branches
abbrev pub coded_test : Coded (Option Bool)
coded_test = coded_option coded_bool

abbrev pub coded_signal : Coded (List Point)
coded_signal = coded_list point.the_row.coded

abbrev pub coded_patterns : Coded (List (List Point))
coded_patterns = coded_list coded_signal

abbrev pub coded_assigns : Coded (List Assign)
coded_assigns = coded_list assign.the_row.coded

abbrev mutual
  -- the code of a list of choices: that of the first one's parts, then that of the rest
  pub choices_code : Choices → Gv
  choices_code NoChoice = gnil
  choices_code (OneChoice signal test branches rest) =
      gcons (coded_signal.code signal) (gcons (coded_test.code test) (gcons (branches_code branches) (choices_code rest)))

  -- the code of a list of branches: that of the first one's parts, then that of the rest
  pub branches_code : Branches → Gv
  branches_code NoBranch = gnil
  branches_code (OneBranch patterns assigns choices rest) =
      gcons (coded_patterns.code patterns) (gcons (coded_assigns.code assigns) (gcons (choices_code choices) (branches_code rest)))

-- the first part of a code, and the parts behind it
abbrev first : Gv → Gv
first (gcons a b) = a
first g = gnil

abbrev behind : Gv → Gv
behind (gcons a b) = b
behind g = gnil

-- a code has parts
abbrev HasParts : Gv → Type 0
HasParts (gcons a b) = Unit {0}
HasParts g = ⊥

mutual
  -- choices of one code are equal
  pub choices_code-inj : (x y : Choices) → choices_code x ≡ choices_code y → x ≡ y
  choices_code-inj NoChoice NoChoice e = refl
  choices_code-inj NoChoice (OneChoice s t bs cs) e = absurd (subst HasParts (sym e) tt)
  choices_code-inj (OneChoice s t bs cs) NoChoice e = absurd (subst HasParts e tt)
  choices_code-inj (OneChoice s t bs cs) (OneChoice s' t' bs' cs') e =
      let signal = coded_signal.inj s s' (ap first e) in
      let test = coded_test.inj t t' (ap (λ g. first (behind g)) e) in
      let branches = branches_code-inj bs bs' (ap (λ g. first (behind (behind g))) e) in
      let rest = choices_code-inj cs cs' (ap (λ g. behind (behind (behind g))) e) in
      λ i. OneChoice (signal i) (test i) (branches i) (rest i)

  -- branches of one code are equal
  pub branches_code-inj : (x y : Branches) → branches_code x ≡ branches_code y → x ≡ y
  branches_code-inj NoBranch NoBranch e = refl
  branches_code-inj NoBranch (OneBranch p a cs bs) e = absurd (subst HasParts (sym e) tt)
  branches_code-inj (OneBranch p a cs bs) NoBranch e = absurd (subst HasParts e tt)
  branches_code-inj (OneBranch p a cs bs) (OneBranch p' a' cs' bs') e =
      let patterns = coded_patterns.inj p p' (ap first e) in
      let assigns = coded_assigns.inj a a' (ap (λ g. first (behind g)) e) in
      let choices = choices_code-inj cs cs' (ap (λ g. first (behind (behind g))) e) in
      let rest = branches_code-inj bs bs' (ap (λ g. behind (behind (behind g))) e) in
      λ i. OneBranch (patterns i) (assigns i) (choices i) (rest i)

-- a list of choices can be stored as its code
abbrev pub coded_choices : Coded Choices
coded_choices = record { code = choices_code; inj = choices_code-inj }

-- a list of branches can be stored as its code
abbrev pub coded_branches : Coded Branches
coded_branches = record { code = branches_code; inj = branches_code-inj }

-- a branch can be stored as its parts
abbrev pub coded_branch : Coded BranchView
coded_branch =
    code_by (List (List Point) × (List Assign × Choices))
    (coded× coded_patterns (coded× coded_assigns coded_choices))
    (λ b. (b.patterns, (b.assigns, b.choices)))
    (λ p. record { patterns = p.0; assigns = p.1.0; choices = p.1.1 })
    (λ _. refl)

-- a choice can be stored as its parts
abbrev pub coded_choice : Coded ChoiceView
coded_choice =
    code_by (List Point × (Option Bool × Branches))
    (coded× coded_signal (coded× coded_test coded_branches))
    (λ c. (c.signal, (c.test, c.branches)))
    (λ p. record { signal = p.0; test = p.1.0; branches = p.1.1 })
    (λ _. refl)

-- the depth of a list of choices is that of the deepest one, and one more
choices_depth-most : (cs : List ChoiceView) → most (λ c. choice_depth c + 1) cs ≡ choices_depth (choices_of cs)
choices_depth-most [] = refl
choices_depth-most (c ∷ cs) = ap (max (choice_depth c + 1)) (choices_depth-most cs)

branches_depth-most : (bs : List BranchView) → most (λ b. branch_depth b + 1) bs ≡ branches_depth (branches_of bs)
branches_depth-most [] = refl
branches_depth-most (b ∷ bs) = ap (max (branch_depth b + 1)) (branches_depth-most bs)

-- the choices of a branch are less deep than the branch
pub branch_falls : (cs : List ChoiceView) → max (most (λ c. choice_depth c + 1) cs) 0 ≤ choices_depth (choices_of cs)
branch_falls cs = le_of_eq (max_none (most (λ c. choice_depth c + 1) cs) ∙ choices_depth-most cs)

-- the branches of a choice are less deep than the choice
pub choice_falls : (bs : List BranchView) → max (most (λ b. branch_depth b + 1) bs) 0 ≤ branches_depth (branches_of bs)
choice_falls bs = le_of_eq (max_none (most (λ b. branch_depth b + 1) bs) ∙ branches_depth-most bs)
