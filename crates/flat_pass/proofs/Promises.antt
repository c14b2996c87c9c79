-- What the pass promises, and one replacement.
use Rattle.std.proofs.Common.{◌≡◌, true, cond, List, [], ◌∷◌, ◌++◌, Option, Some, None, refl, sym}
use Rattle.std.specs.Prelude.{is_none, option_map}
use Rattle.cell_types.specs.declared.kind.CellKind.{CellKind}
use Rattle.rtl_ir.specs.declared.cell.Cell.{Cell}
use Rattle.rtl_ir.specs.declared.module.Module.{Module}
use Rattle.rtl_ir.specs.Build.{building_of}
use Rattle.rtl_ir.specs.Flat.Cell.{cell_kind, instance_of, instances, listed}
use Rattle.rtl_ir.specs.Types.{design_ports}
use Rattle.net_model.specs.Below.{RefinesBelow}
use Rattle.net_model.proofs.Instances.{agree_at}
use Rattle.flat_pass.specs.Flat.{after_one, first_instance, flat_of, is_within}
use Rattle.flat_pass.specs.Flattened.{IsFlattened, StandsOn, ports_among}
use Rattle.flat_pass.proofs.AnyPorts.{ready_anyway}
use Rattle.flat_pass.proofs.AllGoes.{IsEnd, flat_ends, goes_below, one_refines}
use Rattle.flat_pass.proofs.Checked.{fit_of, step_of}

no_instances : (cells : List Cell) → first_instance cells ≡ None → instances cells ≡ []
no_instances [] e = refl
no_instances (c ∷ cells) e = by (cell_kind c) (first_instance cells) (no_instances cells) e
  where
    by : (o : Option CellKind) (rest : Option (Cell × List Cell)) → (rest ≡ None → instances cells ≡ []) → cond {A = Option (Cell × List Cell)} (is_none o) (Some (c, cells)) (option_map (λ (r : Cell × List Cell). (r.0, c ∷ r.1)) rest) ≡ None → listed (instance_of c o) ++ instances cells ≡ []
    by None rest later f = absurd (cc)
    by (Some kind) None later f = later refl
    by (Some kind) (Some r) later f = absurd (cc)

pub replaced_refines : (below : List Module) (m : Module) (r : Cell × List Cell) → StandsOn m below → first_instance m.cells ≡ Some r → is_within (after_one below (building_of m) r) ≡ true → RefinesBelow m (after_one below (building_of m) r).body below
replaced_refines below m r h e w = one_refines below (fit_of m below h) (building_of m) r (step_of m below h) e w

ends_of : (below : List Module) (m c : Module) (h : StandsOn m below) → flat_of below m ≡ Some c → IsEnd below (fit_of m below h) (building_of m) c
unfolding flat_of
ends_of below m c h e = flat_ends below (fit_of m below h) 1048576 (building_of m) c (step_of m below h) e

pub flattened : (below : List Module) (m c : Module) → StandsOn m below → flat_of below m ≡ Some c → IsFlattened below m c
flattened below m c h e =
    let k = ends_of below m c h e in
    record {
      refines = goes_below below m c (fit_of m below h) (step_of m below h).covered k.body;
      ready = λ ports. ready_anyway (design_ports below) ports c (no_instances c.cells k.none) k.ready;
      driven = λ over own inner driven all. (k.driven.stays over (record { agrees = λ n i g j. sym (agree_at (ports_among below) over (instances n.cells) (inner n i) g j); driven = all }) (λ g j. sym (agree_at (ports_among below) over (instances m.cells) own g j)) driven).1;
      id = k.body.id;
      ports = k.body.ports;
      library = no_instances c.cells k.none;
      memories = k.names.memories;
    }
