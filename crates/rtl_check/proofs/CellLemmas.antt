-- What is found of cells is what the faults say.
use Rattle.std.proofs.Common.{Bor, nat_eq, is_some, is_none, ◌≡◌, ◌≢◌, ℕ, suc, ◌+◌, ◌<◌, ◌≤◌, ◌==◌, Bool, true, false, not, add-one, take, ◌&&◌, List, [], ◌∷◌, ◌++◌, length, get_or, drop, Option, Some, None, Result, Ok, Err, option_map, refl, sym, ◌∙◌, ap, subst}
use Rattle.std.proofs.Math.Seq.{drop-cons, take-suc}
use Rattle.std.proofs.lemmas.List.{drop_all}
use Rattle.rtl_ir.specs.declared.cell.Cell.{Cell}
use Rattle.rtl_ir.specs.declared.cell.Pin.{Pin}
use Rattle.rtl_ir.specs.declared.module.Module.{Module}
use Rattle.rtl_ir.specs.declared.ports.PortLine.{PortLine}
use Rattle.rtl_ir.specs.Faults.Cells.{cell_faults, faults_by_type, has_other_width, lacks_port}
use Rattle.rtl_ir.specs.Scope.{everything}
use Rattle.rtl_ir.specs.Types.{Ports, cell_type, port_named, type_by}
use Rattle.rtl_ir.specs.WritePorts.{is_write_cell, is_write_kind}
use Rattle.cell_types.specs.declared.kind.CellKind.{CellKind}
use Rattle.cell_types.specs.Kind.{kind_of}
use Rattle.cell_types.specs.Unsupported.{is_unsupported}
use Rattle.memory_check.specs.declared.memories.Memories.{Memories}
use Rattle.memory_check.specs.Memories.{KnowsCells}
use Rattle.rtl_check.specs.Named.{Names}
use Rattle.rtl_ir.specs.Rules.{has_item}
use Rattle.std.specs.Option.{option_map_or}
use Rattle.std.specs.Result.{OnOk}
use Rattle.process_trees.proofs.Fronts.{front}
use Rattle.rtl_sig.specs.declared.sig.SigBit.{SigBit}
use Rattle.net_index.specs.declared.types.Port.{Port}
use Rattle.net_index.specs.declared.types.CellType.TheVariants.{Instance, Library}
use Rattle.net_index.specs.Types.{Named, IsTable, IsType, at_name, port_of}
use Rattle.rtl_ir.specs.Types as rtl_types
use Rattle.rtl_ir.specs.Fault as rtl
use Rattle.rtl_check.specs.declared.fault.CheckFault.{CheckFault}
use Rattle.process_trees.specs.Fitting.{DoCellsFit}
use Rattle.process_trees.proofs.Faultless.{faultless_cells}
use Rattle.rtl_check.specs.Finds.{IsFirst}
use Rattle.rtl_check.proofs.Firsts.{first_before}

-- the width of a pin that is connected, against that of its port
pub other_width : (lines : List PortLine) (p : Pin) (port : Port) (bits : List SigBit) → bits ≡ p.sig → length bits ≢ 0
    → Some port ≡ option_map port_of (port_named lines p.name) → not (nat_eq (length bits) port.width) ≡ has_other_width lines p
other_width lines p port bits e some is =
    by (port_named lines p.name) is bits e some
  where
    by : (o : Option PortLine) → Some port ≡ option_map port_of o → (bs : List SigBit) → bs ≡ p.sig → length bs ≢ 0
        → not (nat_eq (length bs) port.width) ≡ (has_item p.sig && option_map_or (λ (line : PortLine). not (length p.sig == line.width)) o false)
    by None f bs g n = absurd (cc)
    by (Some line) f [] g n = absurd (n refl)
    by (Some line) f (b ∷ bs) g n =
        let width : port.width ≡ line.width = let same : port ≡ port_of line = cc in ap (λ (q : Port). q.width) same in
        rw (← g, width) refl

-- a pin is a port where the table has it
pub lacks_in_table : (lines : List PortLine) (p : Pin) (there : Bool) → there ≡ is_some (option_map port_of (port_named lines p.name)) → not there ≡ lacks_port lines p
lacks_in_table lines p there e = rw e (by (port_named lines p.name))
  where
    by : (o : Option PortLine) → not (is_some (option_map port_of o)) ≡ is_none o
    by None = refl
    by (Some line) = refl

-- the fault of a cell is that of the cells, where those before it have none
pub cell_fault_in : (ports : Ports) (m : Module) (earlier items : List Cell) (i : ℕ) (c : Cell) (name : List ℕ) (f : CheckFault) (all : List rtl.Fault)
    → items ≡ m.cells → i < length items → c ≡ get_or items i c → name ≡ c.kind_name → cell_faults everything ports m earlier (drop i m.cells) ≡ all
    → IsFirst f (faults_by_type everything m earlier c (cell_type ports name)) → IsFirst f all
cell_fault_in ports m earlier items i c name f all are h is named e first =
    let here : drop i items ≡ c ∷ drop (suc i) items = drop-cons items i c h ∙ (λ j. sym is j ∷ drop (suc i) items) in
    let mine : IsFirst f (faults_by_type everything m earlier c (cell_type ports c.kind_name)) = subst (λ n. IsFirst f (faults_by_type everything m earlier c (cell_type ports n))) named first in
    subst (IsFirst f) e (subst (λ cs. IsFirst f (cell_faults everything ports m earlier cs)) (sym here ∙ ap (drop i) are)
    (first_before f (faults_by_type everything m earlier c (cell_type ports c.kind_name)) (cell_faults everything ports m (earlier ++ c ∷ []) (drop (suc i) items)) mine))

-- what a table of ports has at a name
pub at_pin : (table : Named Port) (lines : List PortLine) → IsTable table lines → (name other : List ℕ) → name ≡ other
    → at_name table name ≡ option_map port_of (port_named lines other)
at_pin table lines is name other e = is name ∙ ap (λ n. option_map port_of (port_named lines n)) e

-- an instance's type names its ports
pub instance_type : (table : Bor (Named Port)) (type : rtl_types.CellType) → IsType (Instance table) type → (P : rtl_types.CellType → Type 0)
    → ((lines : List PortLine) → IsTable table.now lines → P (rtl_types.Instance lines)) → P type
instance_type table (rtl_types.Library kind) is P h = absurd is
instance_type table (rtl_types.Instance lines) is P h = h lines is
instance_type table rtl_types.Unsupported is P h = absurd is
instance_type table rtl_types.Unknown is P h = absurd is

-- cells without faults fit
pub cells_fit_all : (ports : Ports) (m : Module) (items : List Cell) (i : ℕ) (earlier : List Cell) → items ≡ m.cells → length items ≤ i
    → cell_faults everything ports m earlier (drop i m.cells) ≡ cell_faults everything ports m [] m.cells → DoCellsFit ports m
cells_fit_all ports m items i earlier are h so_far =
    let past : length m.cells ≤ i = subst (λ cs. length cs ≤ i) are h in
    faultless_cells everything ports m (sym so_far ∙ ap (cell_faults everything ports m earlier) (drop_all i m.cells past))

-- a library cell's type names its kind
pub library_type : (kind : CellKind) (type : rtl_types.CellType) → IsType (Library kind) type → (P : rtl_types.CellType → Type 0) → P (rtl_types.Library kind) → P type
library_type kind (rtl_types.Library other) is P h = subst (λ k. P (rtl_types.Library k)) is h
library_type kind (rtl_types.Instance lines) is P h = absurd is
library_type kind rtl_types.Unsupported is P h = absurd is
library_type kind rtl_types.Unknown is P h = absurd is

-- a name of a type names what the type is
pub named_type : (ports : Ports) (name : List ℕ) → Names name (cell_type ports name)
unfolding cell_type
named_type ports name = by (kind_of name) (ports name) (is_unsupported name) refl
  where
    by : (k : Option CellKind) (o : Option (List PortLine)) (u : Bool) → kind_of name ≡ k → Names name (type_by k o u)
    by (Some kind) o u e = e
    by None (Some lines) u e = e
    by None None true e = e
    by None None false e = e

-- a cell that is none of a memory writes none
pub no_write : (c : Cell) (k : Option CellKind) → kind_of c.kind_name ≡ k → is_write_kind k ≡ false → is_write_cell c.kind_name ≡ false
unfolding is_write_cell
no_write c k e none = ap is_write_kind e ∙ none

-- the cells so far are noted, one cell further
pub noted_next : (memories : Memories) (m : Module) (items : List Cell) (i : ℕ) (c : Cell) → items ≡ m.cells → i < length items → c ≡ get_or items i c
    → KnowsCells memories m (take i m.cells ++ c ∷ []) → KnowsCells memories m (take (i + 1) m.cells)
noted_next memories m items i c are h is knows =
    let more : take (i + 1) items ≡ take i items ++ c ∷ [] = ap (λ n. take n items) (add-one i) ∙ take-suc items i c h ∙ (λ j. take i items ++ sym is j ∷ []) in
    subst (KnowsCells memories m) (sym (ap (take (i + 1)) (sym are) ∙ more ∙ (λ j. take i (are j) ++ c ∷ []))) knows

-- the cells so far have no fault, one cell further
pub cell_next : (ports : Ports) (m : Module) (cs : List Cell) (i : ℕ) (c : Cell) (all : List rtl.Fault) → i < length cs → c ≡ get_or cs i c → cell_faults everything ports m (take i cs) (drop i cs) ≡ all
    → faults_by_type everything m (take i cs) c (cell_type ports c.kind_name) ≡ [] → cell_faults everything ports m (take (i + 1) cs) (drop (i + 1) cs) ≡ all
cell_next ports m cs i c all lt is so_far none =
    let more : take (i + 1) cs ≡ take i cs ++ c ∷ [] = ap (λ n. take n cs) (add-one i) ∙ take-suc cs i c lt ∙ (λ j. take i cs ++ sym is j ∷ []) in
    ap (λ before. cell_faults everything ports m before (drop (i + 1) cs)) more
    ∙ ap (λ fs. fs ++ cell_faults everything ports m (take i cs ++ c ∷ []) (drop (i + 1) cs)) (sym none)
    ∙ ap (cell_faults everything ports m (take i cs)) (sym (front cs i c lt is)) ∙ so_far

-- what holds whatever the answer is
pub always_ok : {X Y Q : Type 0} (r : Result X Y) → Q → OnOk r Q
always_ok (Ok x) q = q
always_ok (Err e) q = tt
