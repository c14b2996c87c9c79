-- cells of other tools that are known and not accepted
use Rattle.std.specs.Prelude.{ℕ, Bool, List, [], ◌∷◌, codes}
use Rattle.cell_types.specs.Names.{is_among}

-- their names
abbrev pub unsupported : List (List ℕ)
unsupported =
    (codes "$eqx" ∷ codes "$nex" ∷ codes "$bweqx" ∷ codes "$tribuf"
    ∷ codes "$_TBUF_" ∷ codes "$pow" ∷ codes "$lut" ∷ codes "$sop"
    ∷ codes "$alu" ∷ codes "$lcu" ∷ codes "$fa" ∷ codes "$macc"
    ∷ codes "$mem" ∷ codes "$mem_v2" ∷ codes "$memwr" ∷ codes "$fsm"
    ∷ codes "$assert" ∷ codes "$assume" ∷ codes "$cover" ∷ codes "$live"
    ∷ codes "$fair" ∷ codes "$equiv" ∷ codes "$print" ∷ codes "$check"
    ∷ codes "$anyconst" ∷ codes "$anyseq" ∷ codes "$allconst" ∷ codes "$allseq"
    ∷ codes "$initstate" ∷ codes "$specify2" ∷ codes "$specify3" ∷ codes "$specrule"
    ∷ codes "$scopeinfo"
    ∷ [])

-- the name is one of them
abbrev pub is_unsupported : List ℕ → Bool
is_unsupported name = is_among unsupported name
