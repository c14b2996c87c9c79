-- What the code answers for a place of the grammar.
use Rattle.std.specs.Prelude.{◌≡◌, List, MatchOption, None, Option, Some, reverse}
use Rattle.std.proofs.Common.{Bor}
use Rattle.rtl_grammar.specs.declared.expect.Expect.{Expect}

-- the answer is the body of a production, the last of its places first, where there is one
abbrev pub IsBody : Option (List Expect) → Option (Bor (List Expect)) → Type 0
IsBody body answer = MatchOption answer (body ≡ None) (λ places. body ≡ Some (reverse places.now))
