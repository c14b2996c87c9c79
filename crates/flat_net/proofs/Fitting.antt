-- Cells of the library without faults fit.
use Rattle.std.proofs.Common.{◌≡◌, ℕ, ◌+◌, ◌<◌, Bool, true, false, List, length, get_or, take, Some, None, Result, Ok, Err, IfOk, OnOk, ap, ◌∙◌, subst}
use Rattle.std.specs.Option.{ok_or}
use Rattle.std.specs.Result.{result_ok}
use Rattle.std.specs.List.{AllByRecursion}
use Rattle.std.proofs.lemmas.List.{take_more}
use Rattle.cell_types.specs.declared.fault.CellFault.{CellFault}
use Rattle.cell_types.specs.declared.kind.CellKind.{CellKind}
use Rattle.cell_types.specs.declared.shape.Shape.{Shape}
use Rattle.cell_types.specs.Kind.{kind_of}
use Rattle.cell_types.specs.Unsupported.{is_unsupported}
use Rattle.rtl_bits.specs.declared.memory.Memory.{Memory}
use Rattle.rtl_ir.specs.declared.cell.Cell.{Cell}
use Rattle.rtl_ir.specs.Faults.Cells.{misfit}
use Rattle.rtl_ir.specs.Flat.Cell.{cell_shape}
use Rattle.rtl_ir.specs.Flat.Process.{no_modules}
use Rattle.rtl_ir.specs.Types.{cell_type, type_by}
use Rattle.process_trees.specs.Fitting.{DoesFit}
use Rattle.flat_net.proofs.Reading.{all_end}

-- a cell of a kind
pub fits_some : (c : Cell) (name : List ℕ) (kind : CellKind) → Some kind ≡ kind_of name → name ≡ c.kind_name → misfit kind c ≡ None → DoesFit c (cell_type no_modules c.kind_name)
unfolding cell_type
fits_some c name kind e f h = subst (λ k. DoesFit c (type_by k None (is_unsupported c.kind_name))) (e ∙ ap kind_of f) h

-- a cell of no kind
pub fits_none : (c : Cell) (name : List ℕ) → None ≡ kind_of name → name ≡ c.kind_name → DoesFit c (cell_type no_modules c.kind_name)
unfolding cell_type
fits_none c name e f = subst (λ k. DoesFit c (type_by k None (is_unsupported c.kind_name))) (e ∙ ap kind_of f) (by (is_unsupported c.kind_name))
  where
    by : (t : Bool) → DoesFit c (type_by None None t)
    by true = tt
    by false = tt

-- one more cell
pub fits_next : (cells : List Cell) (i : ℕ) (d : Cell) → i < length cells → d ≡ get_or cells i d → AllByRecursion (λ (c : Cell). DoesFit c (cell_type no_modules c.kind_name)) (take i cells) → DoesFit d (cell_type no_modules d.kind_name)
    → AllByRecursion (λ (c : Cell). DoesFit c (cell_type no_modules c.kind_name)) (take (i + 1) cells)
fits_next cells i d lt is h k =
    rw (take_more cells i d lt) (all_end (λ (c : Cell). DoesFit c (cell_type no_modules c.kind_name)) (take i cells) (get_or cells i d) h (subst (λ (c : Cell). DoesFit c (cell_type no_modules c.kind_name)) is k))

-- a cell that has a shape has no fault
pub fitting : (kind : CellKind) (c : Cell) (r : Result Shape CellFault) → IfOk r (λ shape. (misfit kind c ≡ None) × (shape ≡ cell_shape kind c.params)) → (s : Result Shape Memory) (m : Memory) → s ≡ ok_or (result_ok r) m → OnOk s (misfit kind c ≡ None)
fitting kind c (Ok shape) h s m e = rw e h.0
fitting kind c (Err fault) h s m e = rw e tt
