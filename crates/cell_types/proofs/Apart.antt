-- No name is that of a gate and of a storage gate.
use Rattle.std.proofs.Common.{◌≡◌, ℕ, List, Some, None, refl, sym}
use Rattle.std.specs.Option.{option_map}
use Rattle.cell_types.specs.declared.gate.GateKind.{GateKind}
use Rattle.cell_types.specs.declared.kind.CellKind.TheVariants.{Word, Gate, Storage, StorageGate, Memory}
use Rattle.cell_types.specs.Gate.{gate_of, gates}
use Rattle.cell_types.specs.Kind.{kind_of, ◌or_else◌}
use Rattle.cell_types.specs.Letters.{storage_gate_of}
use Rattle.cell_types.specs.Memory.{memory_of}
use Rattle.cell_types.specs.Storage.{storage_of}
use Rattle.cell_types.specs.Word.{word_of}
use Rattle.cell_types.proofs.Lengths.{named_has}

gates_apart : (name : List ℕ) (kind : GateKind) → gate_of name ≡ Some kind → storage_gate_of name ≡ None
gates_apart name kind e =
    named_has (λ n. storage_gate_of n ≡ None) gates name kind
    (refl, (refl, (refl, (refl, (refl, (refl, (refl, (refl, (refl, (refl, (refl, (refl, tt))))))))))))
    e

-- so the gates may be asked first
pub gate_first : (name : List ℕ) (kind : GateKind) → Some kind ≡ gate_of name → Some (Gate kind) ≡ kind_of name
gate_first name kind e =
    let none : None ≡ storage_gate_of name = sym (gates_apart name kind (sym e)) in
    λ i.
    option_map StorageGate (none i)
    or_else option_map Gate (e i)
    or_else option_map Word (word_of name)
    or_else option_map Storage (storage_of name)
    or_else option_map Memory (memory_of name)
