-- The tokens of a text.
use Rattle.std.specs.Prelude.{ℕ, ◌+◌, List, [], ◌∷◌, take, drop, Option, Some, None, Result, Ok, Err, Bool, true, false, ◌==◌, is_none, if◌then◌else◌, slice_index, option_map}
use Rattle.std.specs.List.{prefix_len}
use Rattle.rtl_lex.specs.declared.place.Place.{Place}
use Rattle.rtl_lex.specs.declared.token.TokenKind.{TokenKind}
use Rattle.rtl_lex.specs.declared.token.TokenKind.TheVariants.{Word, Mark, Id, Value, Int, Chars, Line}
use Rattle.rtl_lex.specs.declared.token.LexFault.{LexFault}
use Rattle.rtl_lex.specs.declared.token.LexFault.TheVariants as faults
use Rattle.rtl_lex.specs.declared.token.Token.{Token}
use Rattle.rtl_lex.specs.Bytes.{is_end, is_lower, is_digit, is_mark, is_sigil, is_name, is_bit}
use Rattle.rtl_lex.specs.Gaps.{gap}
use Rattle.rtl_lex.specs.Numbers.{int_of}
use Rattle.rtl_lex.specs.Place.{moved}
use Rattle.rtl_lex.specs.Strings.{string_len}
use Rattle.rtl_lex.specs.Values.{sign_len}

-- an identifier, given what stands behind its sigil
abbrev pub name_front : List ℕ → Option (TokenKind × ℕ)
name_front bytes = let count = prefix_len is_name bytes in (if count == 0 then None else Some (Id, count + 1))

-- an integer, given what stands behind its minus
abbrev pub minus_front : List ℕ → Option (TokenKind × ℕ)
minus_front bytes = let count = prefix_len is_digit bytes in (if count == 0 then None else Some (Int, count + 1))

-- a string, given what stands behind its opening quote
abbrev pub string_front : List ℕ → Option (TokenKind × ℕ)
string_front bytes = option_map (λ count. (Chars, count + 1)) (string_len bytes)

-- how many bytes an optional `s` and the bits behind it have
abbrev pub tail_len : List ℕ → ℕ
tail_len bytes = sign_len bytes + prefix_len is_bit (drop (sign_len bytes) bytes)

-- digits: a value where an apostrophe stands behind them, else an integer
abbrev pub number_front : List ℕ → TokenKind × ℕ
number_front bytes =
    let count = prefix_len is_digit bytes in
    (if slice_index bytes count == 39 then (Value, count + 1 + tail_len (drop (count + 1) bytes)) else (Int, count))

-- the kind of the token that begins at the first byte, and its length; it is as long as it can be
abbrev pub front : List ℕ → Option (TokenKind × ℕ)
front [] = Some (Line, 0)
front (b ∷ bs) =
    if is_end b then Some (Line, gap true false (b ∷ bs))
    else (if is_lower b then Some (Word, prefix_len is_lower (b ∷ bs))
    else (if is_mark b then Some (Mark, 1)
    else (if is_sigil b then name_front bs
    else (if b == 34 then string_front bs
    else (if b == 45 then minus_front bs
    else (if is_digit b then Some (number_front (b ∷ bs))
    else None))))))

-- a token of this kind has no end of line in it
abbrev pub is_plain : TokenKind → Bool
is_plain Word = true
is_plain Mark = true
is_plain Id = true
is_plain Value = true
is_plain Int = true
is_plain kind = false

-- a token without where it lies in memory
pub record Piece : Type 0 where
  pub kind : TokenKind
  pub text : List ℕ
  pub place : Place
  pub next : Place

-- a token by its piece
abbrev pub piece : Token → Piece
piece t = record { kind = t.kind; text = t.text.now; place = t.place; next = t.next }

-- an integer that is out of range
abbrev pub is_over : TokenKind → List ℕ → Bool
is_over Int text = is_none (int_of text)
is_over kind text = false

-- the token of this kind and text that stands at this place
abbrev pub made : TokenKind → List ℕ → Place → Result Piece LexFault
made kind text place =
    if is_over kind text then Err (faults.Int place)
    else Ok (record { kind = kind; text = text; place = place; next = moved place text })

-- the token that begins at the first byte, which stands at this place
abbrev pub begun : List ℕ → Place → Option (TokenKind × ℕ) → Result Piece LexFault
begun bytes place None = Err (faults.Lex place)
begun bytes place (Some found) = made found.0 (take found.1 bytes) place

-- the first token of the bytes, which stand at the place
unfoldable pub token_at : List ℕ → Place → Result Piece LexFault
token_at bytes from =
    let skip = gap false false bytes in
    begun (drop skip bytes) (moved from (take skip bytes)) (front (drop skip bytes))

-- what a call answered, seen by view
abbrev pub seen : Result Token LexFault → Result Piece LexFault
seen (Ok t) = Ok (piece t)
seen (Err e) = Err e
