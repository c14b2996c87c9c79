-- Classes of rows by their lengths.
use Rattle.std.specs.Prelude.{ℕ, nat_lt, if◌then◌else◌}

-- the class of a row of this length
abbrev pub class_of : ℕ → ℕ
class_of row =
    if nat_lt row 128 then 0
    else (if nat_lt row 1024 then 1
    else (if nat_lt row 8192 then 2
    else (if nat_lt row 65536 then 3
    else 4)))
