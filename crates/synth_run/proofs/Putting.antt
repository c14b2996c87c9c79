-- What a router is, and what it makes of a line, by the calls that it makes.
use Rattle.std.proofs.Common.{◌≡◌, ℕ, ◌≤◌, ◌<◌, List, [], ◌∷◌, ◌++◌, Bool, true, false, Option, Some, None, Result, Ok, Err, true≢false, length, refl, sym, ap, subst, ◌∙◌, arith}
use Rattle.std.specs.Prelude.{All, IfOk, OnOk, is_some, option_to_list}
use Rattle.std.proofs.lemmas.List.Elements.{All-push}
use Rattle.desk_read.specs.declared.command.Command.{Command}
use Rattle.desk_read.specs.Taking.{OpenBlock, Takes, answer_to, block_after, commands_from}
use Rattle.synth_run.specs.declared.aims.Aim as aims
use Rattle.synth_run.specs.declared.aims.Aim.TheVariants as aimed
use Rattle.synth_run.specs.Desks.{Part, aim_in, aim_of, command, none}
use Rattle.synth_run.specs.Lines.{last_line}
use Rattle.synth_run.specs.Routes.{AreLists, EndsParts, Holds, IsOf, IsRouter, TakesParts, aim_as}
use Rattle.synth_run.specs.Session.{is_quit}
use Rattle.synth_run.specs.declared.routes.Router.{Router}
use Rattle.synth_run.specs.declared.routes.Tag.{Tag}
use Rattle.synth_run.specs.declared.routes.Tag.TheVariants as tagged
use Rattle.synth_run.proofs.Routing.{ended_all, holds_nothing, took_aim, took_command, took_none}
use Rattle.synth_run.proofs.Turning.{none_left}

-- a router with other lines
pub router_same : (a b : Router) → IsRouter a → b.desk ≡ a.desk → b.lists.items ≡ a.lists.items → b.parts.items ≡ a.parts.items → IsRouter b
router_same a b is desk lists parts =
    let count : length b.lists.items ≡ length a.lists.items = ap length lists in
    record {
      few = subst (λ (n : ℕ). n ≤ 16) (sym count) is.few;
      desk =
          subst (λ (n : ℕ). (1 ≤ b.desk) × (b.desk ≤ n)) (sym count)
          (subst (λ (d : ℕ). (1 ≤ d) × (d ≤ length a.lists.items)) (sym desk) is.desk);
      tags = subst (λ (n : ℕ). All (IsOf n) b.parts.items) (sym count) (subst (All (IsOf (length a.lists.items))) (sym parts) is.tags);
    }

-- a router with one part more
pub router_more : (a b : Router) (tag : Tag) → IsRouter a → (1 ≤ b.desk) × (b.desk ≤ length a.lists.items) → length b.lists.items ≡ length a.lists.items → IsOf (length a.lists.items) tag
    → b.parts.items ≡ a.parts.items ++ tag ∷ [] → IsRouter b
router_more a b tag is desk count of parts = record {
  few = subst (λ (n : ℕ). n ≤ 16) (sym count) is.few;
  desk = subst (λ (n : ℕ). (1 ≤ b.desk) × (b.desk ≤ n)) (sym count) desk;
  tags =
      subst (λ (n : ℕ). All (IsOf n) b.parts.items) (sym count)
      (subst (All (IsOf (length a.lists.items))) (sym parts) (All-push (IsOf (length a.lists.items)) a.parts.items tag is.tags of));
}

-- a line of a command that it completes, which is put into the list of its desk
pub taken_put : {E : Type 0} (a mid b : Router) (line : List ℕ) (c : Command) (r : Result Bool E) → aim_in (length a.lists.items) a.reader line ≡ none → Some c ≡ answer_to a.reader line
    → Takes a.reader line (Some c) mid.reader → mid.reader ≡ block_after a.reader line → mid.desk ≡ a.desk → mid.parts.items ≡ a.parts.items → mid.lists.items ≡ a.lists.items
    → OnOk r (length b.lists.items ≡ length mid.lists.items) → OnOk r ((parts : List Part) → Holds parts mid → Holds (parts ++ command mid.desk c ∷ []) b)
    → IfOk r (λ ended. ended ≡ is_quit c) → (b.desk ≡ mid.desk) × (b.reader ≡ mid.reader) × (b.line ≡ mid.line)
    → IfOk r (λ ended. (more : List Part) × TakesParts a b (line ∷ []) ended more)
taken_put a mid b line c (Err e) aim is takes reader desk parts_are lists_are count holds quit same = tt
taken_put a mid b line c (Ok ended) aim is takes reader desk parts_are lists_are count holds quit same =
    took_command a b line ended (Some c) aim is (subst (Takes a.reader line (Some c)) (sym same.1) takes) (same.1 ∙ reader) (same.0 ∙ desk)
    (count ∙ ap length lists_are) quit
    (λ parts h.
    let held : Holds parts mid = record { tags = parts_are ∙ h.tags; lists = subst (AreLists 1 parts) (sym lists_are) h.lists } in
    subst (λ (d : ℕ). Holds (parts ++ command d c ∷ []) b) desk (holds parts held))

-- a line of a command that goes on
pub taken_on : (a b : Router) (line : List ℕ) → aim_in (length a.lists.items) a.reader line ≡ none → None ≡ answer_to a.reader line → Takes a.reader line None b.reader
    → b.reader ≡ block_after a.reader line → b.desk ≡ a.desk → b.parts.items ≡ a.parts.items → b.lists.items ≡ a.lists.items
    → (more : List Part) × TakesParts a b (line ∷ []) false more
taken_on a b line aim is takes reader desk parts_are lists_are =
    took_command a b line false None aim is takes reader desk (ap length lists_are) refl (holds_nothing a b parts_are lists_are)

-- ---- what a line says of desks

module _ (a : Router) (line : List ℕ) (count : ℕ) (aim : aims.Aim) (outside : a.reader ≡ None) (count_is : count ≡ length a.lists.items) (is : aim_as aim ≡ aim_of count line) where
  aim_here : aim_in (length a.lists.items) None line ≡ aim_as aim
  aim_here = ap (λ (n : ℕ). aim_of n line) (sym count_is) ∙ sym is

  -- nothing
  pub aim_none : aim ≡ aimed.Command → aim_in (length a.lists.items) a.reader line ≡ none
  aim_none said = ap (λ (block : Option OpenBlock). aim_in (length a.lists.items) block line) outside ∙ aim_here ∙ ap aim_as said

  -- that the commands after it go to a desk
  pub aim_to : (b : Router) (desk : ℕ) → aim ≡ aimed.To desk → b.reader ≡ a.reader → b.desk ≡ desk → b.parts.items ≡ a.parts.items ++ tagged.To desk ∷ [] → b.lists.items ≡ a.lists.items
      → (more : List Part) × TakesParts a b (line ∷ []) false more
  aim_to b desk said reader desk_is parts lists = took_aim a b line (Some desk) outside (aim_here ∙ ap aim_as said) reader desk_is parts lists

  -- that they go to none
  pub aim_stray : (b : Router) → aim ≡ aimed.Stray → b.reader ≡ a.reader → b.desk ≡ a.desk → b.parts.items ≡ a.parts.items ++ tagged.Stray ∷ [] → b.lists.items ≡ a.lists.items
      → (more : List Part) × TakesParts a b (line ∷ []) false more
  aim_stray b said reader desk parts lists = took_aim a b line None outside (aim_here ∙ ap aim_as said) reader desk parts lists

-- nothing inside a block
pub aim_inside : (n : ℕ) (block : Option OpenBlock) (line : List ℕ) → is_some block ≡ true → aim_in n block line ≡ none
aim_inside n None line h = absurd (true≢false (sym h))
aim_inside n (Some block) line h = refl

pub none_open : (block : Option OpenBlock) → is_some block ≡ false → block ≡ None
none_open None h = refl
none_open (Some block) h = absurd (true≢false h)

-- ---- the line that is held

-- what is taken is the same whatever line is held before it
pub took_held : {E : Type 0} (a b : Router) (held : List ℕ) (lines others : List (List ℕ)) (r : Result Bool E) → lines ≡ others
    → IfOk r (λ ended. (more : List Part) × TakesParts (record a { line = held }) b lines ended more) → IfOk r (λ ended. (more : List Part) × TakesParts a b others ended more)
took_held a b held lines others (Err e) same t = tt
took_held a b held lines others (Ok ended) same (more, t) = (
  more,
  subst (λ (l : List (List ℕ)). TakesParts a b l ended more) same (record {
    count = t.count;
    holds = λ parts h. t.holds parts (record { tags = h.tags; lists = h.lists });
    takes = t.takes;
  }),
)

-- no line is held at the end
pub took_empty : (a b : Router) → length a.line ≡ 0 → b.parts.items ≡ a.parts.items → b.lists.items ≡ a.lists.items → b.desk ≡ a.desk → b.reader ≡ a.reader
    → (more : List Part) × TakesParts a b (last_line a.line) false more
took_empty a b empty parts lists desk reader =
    ([], subst (λ (l : List ℕ). TakesParts a b (last_line l) false []) (sym (none_left a.line empty)) (took_none a b parts lists desk reader))

-- one is
pub last_is : (line : List ℕ) → 0 < length line → line ∷ [] ≡ last_line line
last_is [] some = absurd (omega (arith, some))
last_is (byte ∷ bytes) some = refl

-- ---- the end of an input

-- a block is open
pub ended_put : (a b mid c : Router) (last : Command) → (more : List Part) × TakesParts a b (last_line a.line) false more
    → option_to_list (Some last) ≡ commands_from b.reader [] → mid.desk ≡ b.desk → mid.parts.items ≡ b.parts.items → mid.lists.items ≡ b.lists.items
    → length c.lists.items ≡ length mid.lists.items → ((parts : List Part) → Holds parts mid → Holds (parts ++ command mid.desk last ∷ []) c)
    → (more : List Part) × EndsParts a c more
ended_put a b mid c last t is desk parts_are lists_are count holds =
    ended_all a b c (Some last) t is (count ∙ ap length lists_are)
    (λ parts h.
    let held : Holds parts mid = record { tags = parts_are ∙ h.tags; lists = subst (AreLists 1 parts) (sym lists_are) h.lists } in
    subst (λ (d : ℕ). Holds (parts ++ command d last ∷ []) c) desk (holds parts held))

-- none is
pub ended_on : (a b c : Router) → (more : List Part) × TakesParts a b (last_line a.line) false more → option_to_list None ≡ commands_from b.reader [] → c.parts.items ≡ b.parts.items
    → c.lists.items ≡ b.lists.items → (more : List Part) × EndsParts a c more
ended_on a b c t is parts lists = ended_all a b c None t is (ap length lists) (holds_nothing b c parts lists)
