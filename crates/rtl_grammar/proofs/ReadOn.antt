-- Reading from left to right with what is still expected, which the code follows.
use Rattle.std.specs.Prelude.{List, [], ◌∷◌, ◌++◌, Option, Some, None, Result, Ok, Err}
use Rattle.rtl_lex.specs.Items.{Seen}
use Rattle.rtl_grammar.specs.declared.expect.Expect.{Expect}
use Rattle.rtl_grammar.specs.Grammar.{after}
use Rattle.rtl_grammar.specs.Uses.{Action, ◌>>=◌}

-- one item: what is expected behind it, what it does, and how to go on
abbrev pub step : {S F : Type 0} → (Seen → F) → Option (List Expect) → Seen → Result S F → (List Expect → S → Result S F) → Result S F
step refusal None i done on = Err (refusal i)
step refusal (Some body) i done on = done >>= λ next. on body next

-- all items: what they do, what refuses an item that cannot stand where it stands, what is wrong where items are missing
unfoldable pub read_on : {S F : Type 0} → Action S F → (Seen → F) → F → List Seen → List Expect → S → Result S F
read_on act refusal cut [] [] s = Ok s
read_on act refusal cut [] (role ∷ roles) s = Err cut
read_on act refusal cut (i ∷ is) [] s = Err (refusal i)
read_on act refusal cut (i ∷ is) (role ∷ roles) s =
    step refusal (after role i.sort) i (act role i s) (λ body next. read_on act refusal cut is (body ++ roles) next)
