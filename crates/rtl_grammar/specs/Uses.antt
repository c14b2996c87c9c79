-- The items of a text in their places in the grammar, and what they do one after another.
use Rattle.std.specs.Prelude.{◌≡◌, List, [], ◌∷◌, ◌++◌, map, Result, Ok, Err}
use Rattle.rtl_lex.specs.declared.sort.Sort.{Sort}
use Rattle.rtl_lex.specs.Items.{Seen}
use Rattle.rtl_grammar.specs.declared.expect.Expect.{Expect}
use Rattle.rtl_grammar.specs.Grammar.{IsText}

-- an item, with the place in the grammar where it stands
pub record Use : Type 0 where
  pub role : Expect
  pub item : Seen

-- the places of uses with the sorts that stand there, their items, and their sorts
abbrev pub roles_of : List Use → List (Expect × Sort)
roles_of uses = map (λ u. (u.role, u.item.sort)) uses

abbrev pub items_of : List Use → List Seen
items_of uses = map (λ u. u.item) uses

abbrev pub sorts_of : List Use → List Sort
sorts_of uses = map (λ u. u.item.sort) uses

-- no text of the grammar begins with these sorts
abbrev pub BeginsNone : List Sort → Type 0
BeginsNone front = (uses : List Use) (more : List Sort) → IsText (roles_of uses) → sorts_of uses ≡ front ++ more → ⊥

infixl 10 ◌>>=◌
-- the first, and with what it gives the second, up to a fault
abbrev pub ◌>>=◌ : {A B F : Type 0} → Result A F → (A → Result B F) → Result B F
(Ok x) >>= f = f x
(Err e) >>= f = Err e

-- what an item does to a state, by the place where it stands: a state, or its fault
abbrev pub Action : Type 0 → Type 0 → Type 0
Action S F = Expect → Seen → S → Result S F

-- what items do to a state, one after another, up to the first fault
abbrev pub run : {S F : Type 0} → Action S F → S → List Use → Result S F
run act s [] = Ok s
run act s (u ∷ us) = act u.role u.item s >>= λ next. run act next us
