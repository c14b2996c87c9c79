-- Steps back through cells.
use Rattle.std.proofs.Common.{◌≡◌, ℕ, Bool, true, false, zero, suc, List, [], ◌∷◌, Option, Some, None, slice_get, refl, sym, ◌∙◌, ap, subst}
use Rattle.std.specs.Prelude.{if◌then◌else◌, ◌&&◌, ◌==◌, count_by, find, flat_map, length, option_and_then}
use Rattle.std.proofs.lemmas.Bool.{eq-eqb}
use Rattle.rtl_bits.specs.declared.bit.Bit.TheVariants.{S0, S1}
use Rattle.cell_types.specs.declared.pin_name.PinName.TheVariants.{Y}
use Rattle.cell_types.specs.PinName.{pin_text}
use Rattle.rtl_sig.specs.declared.sig.SigBit.{SigBit}
use Rattle.std.specs.List.{AllByRecursion}
use Rattle.rtl_sig.specs.declared.sig.SigBit.TheVariants as sig
use Rattle.rtl_sig.specs.declared.sig.WireBit.{WireBit}
use Rattle.cell_types.specs.declared.kind.CellKind.{CellKind}
use Rattle.cell_types.specs.declared.kind.CellKind.TheVariants as Cells
use Rattle.cell_types.specs.Kind.{kind_of}
use Rattle.cell_types.specs.Unsupported.{is_unsupported}
use Rattle.rtl_ir.specs.declared.cell.Cell.{Cell}
use Rattle.rtl_ir.specs.declared.module.Module.{Module}
use Rattle.rtl_ir.specs.declared.ports.PortLine.{PortLine}
use Rattle.rtl_ir.specs.Drivers.{Source, FromPort, FromCell, FromLink, FromTree, FromRules, cell_drives, driver_in}
use Rattle.rtl_ir.specs.EventTests.{cell_in, combinational_kind, input_signals, inverts, is_open, probe, step_at, step_through}
use Rattle.rtl_ir.specs.Faults.Cells.{misfit}
use Rattle.rtl_ir.specs.Follow.{all_joins}
use Rattle.rtl_ir.specs.declared.follow.Join.{Join}
use Rattle.rtl_ir.specs.Parameters.{signal_at}
use Rattle.rtl_ir.specs.Types.{Ports, CellType, Library, Instance, Unsupported, Unknown, cell_type, type_by}
use Rattle.process_trees.specs.Fitting.{DoCellsFit, DoesFit}
use Rattle.process_trees.specs.Steps.{combinational, step_by}

-- the combinational kind of a name needs no table
pub combinational_same : (ports : Ports) (name : List ℕ) → combinational_kind (cell_type ports name) ≡ combinational (kind_of name)
unfolding cell_type
combinational_same ports name = by (kind_of name) (ports name) (is_unsupported name)
  where
    by : (kind : Option CellKind) (lines : Option (List PortLine)) (unsupported : Bool) → combinational_kind (type_by kind lines unsupported) ≡ combinational kind
    by (Some (Cells.Word kind)) lines unsupported = refl
    by (Some (Cells.Gate kind)) lines unsupported = refl
    by (Some (Cells.Storage kind)) lines unsupported = refl
    by (Some (Cells.StorageGate gate)) lines unsupported = refl
    by (Some (Cells.Memory kind)) lines unsupported = refl
    by None (Some lines) unsupported = refl
    by None None true = refl
    by None None false = refl

-- a cell of a list has what all have
cell_has : (P : Cell → Type 0) (cells : List Cell) (at : ℕ) (c : Cell) → AllByRecursion P cells → slice_get cells at ≡ Some c → P c
cell_has P [] at c h e = absurd (cc)
cell_has P (x ∷ cells) zero c h e = let same : x ≡ c = cc in subst P same h.0
cell_has P (x ∷ cells) (suc at) c h e = cell_has P cells at c h.1 e

driver_has : (P : Cell → Type 0) (cells : List Cell) (s : Source) (c : Cell) → AllByRecursion P cells → cell_in cells s ≡ Some c → P c
driver_has P cells FromPort c h e = absurd (cc)
driver_has P cells (FromCell cell pin at) c h e = cell_has P cells cell c h e
driver_has P cells (FromLink s) c h e = absurd (cc)
driver_has P cells (FromTree process) c h e = absurd (cc)
driver_has P cells (FromRules process) c h e = absurd (cc)

behind_has : (P : Cell → Type 0) (cells : List Cell) (o : Option Source) (c : Cell) → AllByRecursion P cells → Some c ≡ option_and_then (cell_in cells) o → P c
behind_has P cells None c h e = absurd (cc)
behind_has P cells (Some s) c h e = driver_has P cells s c h (sym e)

kind_fits : (c : Cell) (type : CellType) (kind : CellKind) → DoesFit c type → combinational_kind type ≡ Some kind → misfit kind c ≡ None
kind_fits c (Library (Cells.Word k)) kind h e = let same : Cells.Word k ≡ kind = cc in subst (λ z. misfit z c ≡ None) same h
kind_fits c (Library (Cells.Gate k)) kind h e = let same : Cells.Gate k ≡ kind = cc in subst (λ z. misfit z c ≡ None) same h
kind_fits c (Library (Cells.Storage k)) kind h e = absurd (cc)
kind_fits c (Library (Cells.StorageGate k)) kind h e = absurd (cc)
kind_fits c (Library (Cells.Memory k)) kind h e = absurd (cc)
kind_fits c (Instance lines) kind h e = absurd (cc)
kind_fits c Unsupported kind h e = absurd (cc)
kind_fits c Unknown kind h e = absurd (cc)

-- the cell that drives a bit fits
pub behind_fits : (ports : Ports) (m : Module) (b : WireBit) (c : Cell) (kind : CellKind) → DoCellsFit ports m → Some c ≡ option_and_then (cell_in m.cells) (driver_in (cell_drives ports 0 m.cells) b)
    → Some kind ≡ combinational (kind_of c.kind_name) → misfit kind c ≡ None
behind_fits ports m b c kind fit e is =
    kind_fits c (cell_type ports c.kind_name) kind
    (behind_has (λ (x : Cell). DoesFit x (cell_type ports x.kind_name)) m.cells (driver_in (cell_drives ports 0 m.cells) b) c fit e)
    (combinational_same ports c.kind_name ∙ sym is)

-- the step from a bit by the cell behind it and its kind
pub step_of : (ports : Ports) (m : Module) (b : WireBit) (c : Cell) (kind : Option CellKind) → Some c ≡ option_and_then (cell_in m.cells) (driver_in (cell_drives ports 0 m.cells) b)
    → kind ≡ combinational (kind_of c.kind_name) → option_and_then (step_through (all_joins m.links) c) kind ≡ step_at ports m (sig.Wire b)
step_of ports m b c kind e is =
    ap (option_and_then (step_through (all_joins m.links) c)) (is ∙ sym (combinational_same ports c.kind_name))
    ∙ ap (option_and_then (λ (x : Cell). option_and_then (step_through (all_joins m.links) x) (combinational_kind (cell_type ports x.kind_name)))) e

pub no_step : (ports : Ports) (m : Module) (b : WireBit) → None ≡ option_and_then (cell_in m.cells) (driver_in (cell_drives ports 0 m.cells) b) → None ≡ step_at ports m (sig.Wire b)
no_step ports m b e = ap (option_and_then (λ (x : Cell). option_and_then (step_through (all_joins m.links) x) (combinational_kind (cell_type ports x.kind_name)))) e

-- the step through a cell with a result of one bit and one open input
pub step_is : (js : List Join) (c : Cell) (kind : CellKind) (input : SigBit) → length (signal_at c.pins (pin_text Y)) ≡ 1
    → Some input ≡ (if count_by (is_open js) (flat_map (λ (s : List SigBit). s) (input_signals kind c)) == 1 then find (is_open js) (flat_map (λ (s : List SigBit). s) (input_signals kind c)) else None)
    → step_by input (inverts (probe js kind c S0) (probe js kind c S1)) ≡ step_through js c kind
step_is js c kind input one is = by (length (signal_at c.pins (pin_text Y)) == 1) (eq-eqb (length (signal_at c.pins (pin_text Y))) 1 one) (count_by (is_open js) (flat_map (λ (s : List SigBit). s) (input_signals kind c)) == 1) is
  where
    by : (s : Bool) → s ≡ true → (t : Bool) → Some input ≡ (if t then find (is_open js) (flat_map (λ (s : List SigBit). s) (input_signals kind c)) else None)
        → step_by input (inverts (probe js kind c S0) (probe js kind c S1))
        ≡ (if s && t then option_and_then (λ (s : SigBit). step_by s (inverts (probe js kind c S0) (probe js kind c S1))) (find (is_open js) (flat_map (λ (s : List SigBit). s) (input_signals kind c))) else None)
    by true e true is = ap (option_and_then (λ (s : SigBit). step_by s (inverts (probe js kind c S0) (probe js kind c S1)))) is
    by true e false is = absurd (cc)
    by false e t is = absurd (cc)
