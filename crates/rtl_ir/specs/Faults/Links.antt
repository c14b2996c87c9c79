-- The faults of connections.
use Rattle.std.specs.Prelude.{ℕ, ◌+◌, ◌==◌, Bool, not, List, [], ◌∷◌, ◌++◌, length}
use Rattle.rtl_ir.specs.declared.module.Link.{Link}
use Rattle.rtl_ir.specs.Fault.{Fault, Width, BadPort, link_spot, fault_if}
use Rattle.rtl_ir.specs.Signals.{has_constant}

-- the two sides of a line have different widths
abbrev pub is_uneven : Link → Bool
is_uneven l = not (length l.left == length l.right)

-- the faults of the connections of a module, numbered from this number on
abbrev pub link_faults : List ℕ → ℕ → List Link → List Fault
link_faults id number [] = []
link_faults id number (l ∷ ls) =
    fault_if (has_constant l.left) (BadPort (link_spot id number))
    ++ fault_if (is_uneven l) (Width (link_spot id number))
    ++ link_faults id (number + 1) ls
