-- What the code of the registers has found is what the definition says.
use Rattle.std.proofs.Common.{◌≡◌, ℕ, suc, List, [], ◌∷◌, ◌++◌, map, Option, Some, None, refl, sym, ◌∙◌, ap, append_assoc}
use Rattle.std.specs.Option.{option_map}
use Rattle.cell_types.specs.declared.kind.CellKind.{CellKind}
use Rattle.rtl_bits.specs.declared.bit.Bit.{Bit}
use Rattle.rtl_sig.specs.declared.sig.SigBit.{SigBit}
use Rattle.rtl_sig.specs.declared.sig.SigBit.TheVariants.{Fixed}
use Rattle.rtl_ir.specs.Types.{Ports}
use Rattle.rtl_ir.specs.declared.cell.Cell.{Cell}
use Rattle.rtl_ir.specs.declared.module.Link.{Link}
use Rattle.rtl_ir.specs.declared.wire.Wire.{Wire}
use Rattle.follow_laws.specs.Inputs.{followed_cell}
use Rattle.opt_expr.specs.Sweep.{Visit}
use Rattle.opt_more.specs.Dff.{register_of, register_visit, registered, settled_bit, settled_from, settled_of, with_first}

-- values before those of places
abbrev pub values_then : List SigBit → Option (List Bit) → Option (List SigBit)
values_then values rest = option_map (λ bits. values ++ map Fixed bits) rest

module _ (wires : List Wire) (kind : CellKind) (c : Cell) where
  -- a place has a value, and then come the others
  pub place_settled : (values : List SigBit) (at left : ℕ) (b : Bit) → settled_bit wires kind c at ≡ Some b → values_then values (settled_from wires kind c at (suc left)) ≡ values_then (values ++ Fixed b ∷ []) (settled_from wires kind c (suc at) left)
  place_settled values at left b e =
      ap (λ o. values_then values (with_first o (settled_from wires kind c (suc at) left))) e ∙ by (settled_from wires kind c (suc at) left)
    where
      by : (r : Option (List Bit)) → values_then values (with_first (Some b) r) ≡ values_then (values ++ Fixed b ∷ []) r
      by None = refl
      by (Some rest) = ap Some (sym (append_assoc values (Fixed b ∷ []) (map Fixed rest)))

  -- a place has none
  pub place_open : (values : List SigBit) (at left : ℕ) → settled_bit wires kind c at ≡ None → values_then values (settled_from wires kind c at (suc left)) ≡ None
  place_open values at left e = ap (λ o. values_then values (with_first o (settled_from wires kind c (suc at) left))) e

-- a cell that is a register, with its inputs followed
pub registered_is : (told : Option CellKind) (kind : CellKind) (wires : List Wire) (ports : Ports) (links : List Link) (cell followed : Cell) (v : Visit) → told ≡ register_of cell → told ≡ Some kind → followed ≡ followed_cell ports links cell → v ≡ register_visit (settled_of wires kind followed) kind followed
    → v ≡ registered wires (register_of cell) cell (followed_cell ports links cell)
registered_is told kind wires ports links cell followed v is some f e =
    e
    ∙ ap (λ z. register_visit (settled_of wires kind z) kind z) f
    ∙ ap (λ o. registered wires o cell (followed_cell ports links cell)) (sym some ∙ is)
