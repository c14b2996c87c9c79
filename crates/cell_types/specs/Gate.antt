-- combinational gates
use Rattle.std.specs.Prelude.{ℕ, List, [], ◌∷◌, Option, codes}
use Rattle.cell_types.specs.declared.gate.GateKind.{GateKind}
use Rattle.cell_types.specs.declared.gate.GateKind.TheVariants.{Buf, Not, And, Nand, Or, Nor, Xor, Xnor, AndNot, OrNot, Mux, Nmux}
use Rattle.cell_types.specs.Names.{named}

-- the gates with their names
abbrev pub gates : List (List ℕ × GateKind)
gates =
    ((codes "$_BUF_", Buf)
    ∷ (codes "$_NOT_", Not)
    ∷ (codes "$_AND_", And)
    ∷ (codes "$_NAND_", Nand)
    ∷ (codes "$_OR_", Or)
    ∷ (codes "$_NOR_", Nor)
    ∷ (codes "$_XOR_", Xor)
    ∷ (codes "$_XNOR_", Xnor)
    ∷ (codes "$_ANDNOT_", AndNot)
    ∷ (codes "$_ORNOT_", OrNot)
    ∷ (codes "$_MUX_", Mux)
    ∷ (codes "$_NMUX_", Nmux)
    ∷ [])

-- the gate of this name
abbrev pub gate_of : List ℕ → Option GateKind
gate_of name = named gates name
