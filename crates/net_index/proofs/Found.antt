-- What a type names, by what is found of its name.
use Rattle.std.proofs.Common.{◌≡◌, ℕ, Bool, true, false, List, Option, Some, None, Bor, refl, sym, ◌∙◌, ap, subst}
use Rattle.cell_types.specs.declared.kind.CellKind.{CellKind}
use Rattle.cell_types.specs.Kind.{kind_of}
use Rattle.cell_types.specs.Unsupported.{is_unsupported}
use Rattle.rtl_ir.specs.declared.ports.PortLine.{PortLine}
use Rattle.rtl_ir.specs.Types.{Ports, cell_type, type_by}
use Rattle.net_index.specs.declared.types.CellType.TheVariants.{Library, Instance, Unsupported, Unknown}
use Rattle.net_index.specs.declared.types.Port.{Port}
use Rattle.net_index.specs.Types.{Named, Stands, IsType}

-- a type by what the tables of names have
type_is : (ports : Ports) (name : List ℕ) (kind : Option CellKind) (unsupported : Bool) → kind_of name ≡ kind → is_unsupported name ≡ unsupported
    → type_by kind (ports name) unsupported ≡ cell_type ports name
unfolding cell_type
type_is ports name kind unsupported e f = ap (λ k. type_by k (ports name) unsupported) (sym e) ∙ ap (λ u. type_by (kind_of name) (ports name) u) (sym f)

pub library_found : (ports : Ports) (name : List ℕ) (kind : CellKind) → kind_of name ≡ Some kind → IsType (Library kind) (cell_type ports name)
library_found ports name kind e = subst (IsType (Library kind)) (type_is ports name (Some kind) (is_unsupported name) e refl) refl

pub instance_found : (ports : Ports) (name : List ℕ) → kind_of name ≡ None → (table : Bor (Named Port)) → Stands (Some table.now) (ports name)
    → IsType (Instance table) (cell_type ports name)
instance_found ports name e table h = subst (IsType (Instance table)) (type_is ports name None (is_unsupported name) e refl) (by (ports name) h)
  where
    by : (lines : Option (List PortLine)) → Stands (Some table.now) lines → IsType (Instance table) (type_by None lines (is_unsupported name))
    by None s = absurd s
    by (Some lines) s = s

pub unsupported_found : (ports : Ports) (name : List ℕ) → kind_of name ≡ None → Stands None (ports name) → is_unsupported name ≡ true → IsType Unsupported (cell_type ports name)
unsupported_found ports name e h u = subst (IsType Unsupported) (type_is ports name None true e u) (by (ports name) h)
  where
    by : (lines : Option (List PortLine)) → Stands None lines → IsType Unsupported (type_by None lines true)
    by None s = tt
    by (Some lines) s = absurd s

pub unknown_found : (ports : Ports) (name : List ℕ) → kind_of name ≡ None → Stands None (ports name) → is_unsupported name ≡ false → IsType Unknown (cell_type ports name)
unknown_found ports name e h u = subst (IsType Unknown) (type_is ports name None false e u) (by (ports name) h)
  where
    by : (lines : Option (List PortLine)) → Stands None lines → IsType Unknown (type_by None lines false)
    by None s = tt
    by (Some lines) s = absurd s
