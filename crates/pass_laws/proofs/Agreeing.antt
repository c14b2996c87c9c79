-- What a module drives depends on the ports of its instances alone.
use Rattle.std.proofs.Common.{◌≡◌, List, [], ◌∷◌, ◌++◌, Option, Some, None, refl, sym, ◌∙◌, ap, subst}
use Rattle.cell_types.specs.declared.kind.CellKind.{CellKind}
use Rattle.rtl_bits.specs.declared.bit.Bit.{Bit}
use Rattle.rtl_sig.specs.declared.sig.SigBit.{SigBit}
use Rattle.rtl_ir.specs.Flat.Cell.{Ports, cell_kind, cell_rows, cells_rows, instance_of, instance_rows, instances, listed}
use Rattle.rtl_ir.specs.Flat.Place.{Frame, Path, frame}
use Rattle.rtl_ir.specs.Flat.Rows.{plain_rows, rows_of}
use Rattle.rtl_ir.specs.Flat.Start.{start_of}
use Rattle.rtl_ir.specs.declared.cell.Cell.{Cell}
use Rattle.rtl_ir.specs.declared.module.Module.{Module}
use Rattle.rtl_ir.specs.declared.wire.Wire.{Wire}
use Rattle.net_model.specs.Lists.{Distinct, In}
use Rattle.net_model.specs.Refine.{AgreeOn, IsWellDriven, places_of}

pub agree_sym : (ports over : Ports) (frames : List Frame) → AgreeOn ports over frames → AgreeOn over ports frames
agree_sym ports over [] h = tt
agree_sym ports over (f ∷ fs) h = (sym h.0, agree_sym ports over fs h.1)

module _ (ports over : Ports) where
  cells_agree : (start : SigBit → Bit) (p : Path) (wires : List Wire) (cs : List Cell) → AgreeOn ports over (instances cs) → cells_rows start ports p wires cs ≡ cells_rows start over p wires cs
  cells_agree start p wires [] h = refl
  cells_agree start p wires (c ∷ cs) h =
      by (cells_agree start p wires cs) (cell_kind c) h
    where
      by : (AgreeOn ports over (instances cs) → cells_rows start ports p wires cs ≡ cells_rows start over p wires cs) → (k : Option CellKind) → AgreeOn ports over (listed (instance_of c k) ++ instances cs) → cell_rows start ports p wires c k ++ cells_rows start ports p wires cs ≡ cell_rows start over p wires c k ++ cells_rows start over p wires cs
      by later (Some kind) a = ap (λ z. cell_rows start ports p wires c (Some kind) ++ z) (later a)
      by later None a =
          ap (λ z. instance_rows p wires c.pins (frame c.name c.kind_name) z ++ cells_rows start ports p wires cs) a.0
          ∙ ap (λ z. cell_rows start over p wires c None ++ z) (later a.1)

  -- the rows of a module are the same over two tables of ports that agree on its instances
  pub rows_agree : (m : Module) → AgreeOn ports over (instances m.cells) → (p : Path) → rows_of ports p m ≡ rows_of over p m
  rows_agree m h p =
      ap (λ z. z ++ plain_rows p m) (cells_agree (start_of m.wires m.processes) p m.wires m.cells h)

  -- and so is that no bit has two drivers
  pub driven_agree : (m : Module) → AgreeOn ports over (instances m.cells) → IsWellDriven ports m → IsWellDriven over m
  driven_agree m h fine = record {
    inputs = fine.inputs;
    rows = λ p. subst (λ rows. Distinct (places_of rows)) (rows_agree m h p) (fine.rows p);
    apart = λ p x i. fine.apart p x (subst (In x) (sym (rows_agree m h p)) i);
    instances = fine.instances;
  }

-- what keeps the instances, and that no bit has two drivers over one table of ports, keeps it over all that agree with it
pub driven_over : (ports : Ports) (before after : Module) → instances before.cells ≡ instances after.cells → (IsWellDriven ports before → IsWellDriven ports after) → (over : Ports) → AgreeOn ports over (instances before.cells) → IsWellDriven over before → IsWellDriven over after
driven_over ports before after same h over agree fine =
    driven_agree ports over after (subst (AgreeOn ports over) same agree) (h (driven_agree over ports before (agree_sym ports over (instances before.cells) agree) fine))
