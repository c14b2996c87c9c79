-- A module without instances may be given to a pass over the ports of whatever modules.
use Rattle.std.proofs.Common.{◌≡◌, ℕ, ◌+◌, ◌≤◌, List, [], ◌∷◌, ◌++◌, Option, Some, None, inl, inr, refl, sym, ◌∙◌, ap, subst}
use Rattle.cell_types.specs.declared.kind.CellKind.{CellKind}
use Rattle.rtl_ir.specs.declared.cell.Cell.{Cell}
use Rattle.rtl_ir.specs.declared.module.Module.{Module}
use Rattle.rtl_ir.specs.Drivers.{Drive, cell_drives, drive_count, drives_of, link_drives, pin_drives, port_drives, rule_drives, tree_drives}
use Rattle.rtl_ir.specs.Faults.Bits.{bits_faults}
use Rattle.rtl_ir.specs.Faults.Cells.{cell_faults, faults_by_type}
use Rattle.rtl_ir.specs.Faults.Processes.{process_faults}
use Rattle.rtl_ir.specs.Flat.Cell.{cell_kind, instances}
use Rattle.rtl_ir.specs.Flat.Place.{frame}
use Rattle.rtl_ir.specs.Scope.{without_processes}
use Rattle.rtl_ir.specs.Types.{Ports, cell_type}
use Rattle.net_model.specs.Lists.{In}
use Rattle.pass_laws.specs.Ready.{IsReady}
use Rattle.pass_laws.proofs.Faultless.{HasNoFaults, no_faults, plain, type_is}
use Rattle.pass_laws.proofs.Forming.{all_none}
use Rattle.flat_pass.proofs.Partners.{instance_in}

module _ (ports ports' : Ports) where
  type_same : (cells : List Cell) → instances cells ≡ [] → (c : Cell) → In c cells → cell_type ports c.kind_name ≡ cell_type ports' c.kind_name
  type_same cells none c i = by (cell_kind c) refl
    where
      by : (o : Option CellKind) → cell_kind c ≡ o → cell_type ports c.kind_name ≡ cell_type ports' c.kind_name
      by (Some kind) e = type_is ports c kind e ∙ sym (type_is ports' c kind e)
      by None e = absurd (subst (In (frame c.name c.kind_name)) none (instance_in cells c i e))

  faults_same : (m : Module) (earlier cs : List Cell) → ((c : Cell) → In c cs → cell_type ports c.kind_name ≡ cell_type ports' c.kind_name) → cell_faults without_processes ports m earlier cs ≡ cell_faults without_processes ports' m earlier cs
  faults_same m earlier [] h = refl
  faults_same m earlier (c ∷ cs) h =
      λ i. faults_by_type without_processes m earlier c (h c (inl refl) i) ++ faults_same m (earlier ++ c ∷ []) cs (λ d j. h d (inr j)) i

  drives_same : (at : ℕ) (cs : List Cell) → ((c : Cell) → In c cs → cell_type ports c.kind_name ≡ cell_type ports' c.kind_name) → cell_drives ports at cs ≡ cell_drives ports' at cs
  drives_same at [] h = refl
  drives_same at (c ∷ cs) h =
      λ i. pin_drives (h c (inl refl) i) at 0 c.pins ++ drives_same (at + 1) cs (λ d j. h d (inr j)) i

  pub ready_anyway : (m : Module) → instances m.cells ≡ [] → IsReady ports m → IsReady ports' m
  ready_anyway m none ready = record {
    faultless = all_none fine.wires fine.stores (sym (faults_same m [] m.cells (type_same m.cells none)) ∙ fine.cells) (ap (process_faults without_processes ports' m []) (plain ports m ready.faultless).processes) fine.links (ap (λ z. bits_faults m.id z 0 m.wires) (sym drives) ∙ fine.bits);
    named = ready.named;
    within = ready.within;
    once = λ b. subst (λ (ds : List Drive). drive_count ds b ≤ 1) drives (ready.once b);
  }
    where
      fine : HasNoFaults without_processes ports m
      fine = no_faults without_processes ports m ready.faultless

      drives : drives_of ports m ≡ drives_of ports' m
      drives =
          ap (λ z. port_drives 0 m.wires ++ z ++ link_drives m.links ++ tree_drives 0 m.processes ++ rule_drives 0 m.processes) (drives_same 0 m.cells (type_same m.cells none))
