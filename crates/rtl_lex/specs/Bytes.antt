-- Which bytes are which.
use Rattle.std.specs.Prelude.{ℕ, Bool, ◌==◌, ◌&&◌, ◌||◌, nat_lt, nat_le}

-- a space
abbrev pub is_space : ℕ → Bool
is_space b = b == 32

-- space and tab
abbrev pub is_blank : ℕ → Bool
is_blank b = b == 32 || b == 9

-- LF and CR
abbrev pub is_end : ℕ → Bool
is_end b = b == 10 || b == 13

-- a to z
abbrev pub is_lower : ℕ → Bool
is_lower b = nat_le 97 b && nat_le b 122

-- 0 to 9
abbrev pub is_digit : ℕ → Bool
is_digit b = nat_le 48 b && nat_le b 57

-- 0 to 7
abbrev pub is_octal : ℕ → Bool
is_octal b = nat_le 48 b && nat_le b 55

-- the four brackets, the colon and the comma
abbrev pub is_mark : ℕ → Bool
is_mark b = b == 91 || b == 93 || b == 123 || b == 125 || b == 58 || b == 44

-- a backslash or a dollar sign
abbrev pub is_sigil : ℕ → Bool
is_sigil b = b == 92 || b == 36

-- what an identifier may have behind its sigil: any byte above the blank
abbrev pub is_name : ℕ → Bool
is_name b = nat_lt 32 b && nat_lt b 256

-- 0, 1, x, z, m and -
abbrev pub is_bit : ℕ → Bool
is_bit b = b == 48 || b == 49 || b == 120 || b == 122 || b == 109 || b == 45
