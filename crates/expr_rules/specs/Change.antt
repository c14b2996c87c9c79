-- What comes in the place of a cell.
use Rattle.std.specs.Prelude.{ℕ, Bool, true, false, List, [], Option, Some, None, false}
use Rattle.cell_types.specs.declared.gate.GateKind.TheVariants as GateOf
use Rattle.cell_types.specs.declared.kind.CellKind.{CellKind}
use Rattle.cell_types.specs.declared.kind.CellKind.TheVariants.{Word, Gate}
use Rattle.cell_types.specs.declared.word.UnaryKind.TheVariants.{Not}
use Rattle.cell_types.specs.declared.word.WordKind.TheVariants.{Unary, Mux}
use Rattle.rtl_sig.specs.Signal.{extended}
use Rattle.rtl_sig.specs.declared.sig.SigBit.{SigBit}
use Rattle.expr_rules.specs.declared.change.Change.{Change}
use Rattle.expr_rules.specs.declared.change.Change.TheVariants.{Gives, Becomes}

-- where a test holds, this
abbrev pub when : {A : Type 0} → Bool → A → Option A
when true x = Some x
when false x = None

-- the first of two that is there
abbrev pub first_some : {A : Type 0} → Option A → Option A → Option A
first_some None other = other
first_some (Some x) other = Some x

-- the inverter that comes in the place of a cell of a kind: of a gate a gate
abbrev pub inverter_kind : CellKind → CellKind
inverter_kind (Gate kind) = Gate GateOf.Not
inverter_kind kind = Word (Unary Not)

-- the multiplexer that does
abbrev pub chooser_kind : CellKind → CellKind
chooser_kind (Gate kind) = Gate GateOf.Mux
chooser_kind kind = Word Mux

-- an inverter of this signal in the place of a cell of a kind
abbrev pub inverter : CellKind → List SigBit → Change
inverter kind a = Becomes (record { kind = inverter_kind kind; a = a; b = []; s = [] })

-- a multiplexer of these signals
abbrev pub chooser : CellKind → List SigBit → List SigBit → List SigBit → Change
chooser kind a b s = Becomes (record { kind = chooser_kind kind; a = a; b = b; s = s })

-- a result as wide as Y: cut to this width, or filled up with 0
abbrev pub fitted : ℕ → Change → Change
fitted width (Gives word) = Gives (extended word width false)
fitted width (Becomes c) = Becomes c
