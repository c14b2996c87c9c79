-- Strings in double quotes.
use Rattle.std.specs.Prelude.{ℕ, ◌+◌, ◌-◌, Bool, not, List, [], ◌∷◌, length, take, drop, map, sum_by, Option, Some, None, ◌==◌, ◌&&◌, nat_lt, if◌then◌else◌, slice_index, zero, suc}
use Rattle.std.specs.List.{take_while}
use Rattle.std.specs.Option.{option_map_or}
use Rattle.rtl_lex.specs.Bytes.{is_octal}
use Rattle.rtl_lex.specs.Numbers.{octal}

-- a character that so many bytes write: any byte but NUL
abbrev pub char_by : ℕ → ℕ → Option (ℕ × ℕ)
char_by char count = if nat_lt 0 char && nat_lt char 256 then Some (char, count) else None

-- the octal digits at the front, three at most
abbrev pub octals : List ℕ → List ℕ
octals bytes = take_while is_octal (take 3 bytes)

-- the character of an escape, given what stands behind its backslash
abbrev pub escape : List ℕ → Option (ℕ × ℕ)
escape [] = None
escape (b ∷ bs) =
    if is_octal b then char_by (octal (octals (b ∷ bs))) (length (octals (b ∷ bs)) + 1)
    else (if b == 110 then char_by 10 2
    else (if b == 116 then char_by 9 2
    else char_by b 2))

-- the character at the front, with how many bytes write it; none at a quote
abbrev pub char_front : List ℕ → Option (ℕ × ℕ)
char_front [] = None
char_front (b ∷ bs) = if b == 34 then None else (if b == 92 then escape bs else char_by b 1)

-- a byte that writes itself: no quote, no backslash and no NUL
abbrev pub is_own : ℕ → Bool
is_own b = nat_lt 0 b && (nat_lt b 256 && (not (b == 34) && not (b == 92)))

-- the characters at the front, up to a quote or to where there is none; skip: so many bytes belong to the one before
abbrev pub spelt : ℕ → List ℕ → List (ℕ × ℕ)
spelt skip [] = []
spelt (suc skip) (b ∷ bs) = spelt skip bs
spelt zero (b ∷ bs) = option_map_or (λ c. c ∷ spelt (c.1 - 1) bs) (char_front (b ∷ bs)) []

-- how many bytes write these characters
abbrev pub spelt_len : List (ℕ × ℕ) → ℕ
spelt_len chars = sum_by (λ c. c.1) chars

-- the length of the rest of a string behind its opening quote: the characters, and the closing quote
abbrev pub string_len : List ℕ → Option ℕ
string_len bytes = let n = spelt_len (spelt 0 bytes) in (if slice_index bytes n == 34 then Some (n + 1) else None)

-- the characters that a string stands for, given its text from the opening quote on
abbrev pub chars_of : List ℕ → List ℕ
chars_of text = map (λ c. c.0) (spelt 0 (drop 1 text))
