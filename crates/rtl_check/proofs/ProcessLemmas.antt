-- The faults of processes, one after the other.
use Rattle.std.proofs.Common.{◌≡◌, ℕ, ◌+◌, ◌<◌, true, false, List, [], ◌∷◌, ◌++◌, append-nil, length, get_or, drop, take, flat_map, refl, sym, ◌∙◌, ap, subst, add-one}
use Rattle.std.specs.Prelude.{Some}
use Rattle.std.proofs.Math.Seq.{take-suc}
use Rattle.std.proofs.lemmas.List.Concat.{flat_map-append}
use Rattle.rtl_ir.specs.declared.module.Module.{Module}
use Rattle.rtl_ir.specs.declared.process.Process.{Process}
use Rattle.rtl_ir.specs.Fault as rtl
use Rattle.rtl_ir.specs.Faults.Processes.{faults_of_process, has_bad_line, is_bad_process, process_faults}
use Rattle.rtl_ir.specs.Faults.ProcessLimits.{gives_to_constant, has_uneven, is_too_wide}
use Rattle.rtl_ir.specs.Types.{Ports}
use Rattle.rtl_ir.specs.WritePorts.{write_lines}
use Rattle.rtl_ir.specs.Scope.{everything}
use Rattle.rtl_check.specs.declared.fault.CheckFault.{CheckFault}
use Rattle.rtl_check.specs.declared.fault.CheckFault.TheVariants as check
use Rattle.rtl_check.specs.declared.fault.Spot.{Spot}
use Rattle.rtl_check.specs.Words.{spot_of}
use Rattle.rtl_check.specs.Finds.{IsFirst}
use Rattle.rtl_check.proofs.Firsts.{first_before}
use Rattle.process_trees.proofs.Fronts.{front}

module _ (ports : Ports) (m : Module) (ps : List Process) (i : ℕ) (p : Process) (h : i < length ps) (is : p ≡ get_or ps i p) (all : List rtl.Fault)
    (so_far : process_faults everything ports m (take i ps) (drop i ps) ≡ all) where
  own : List rtl.Fault
  own = faults_of_process everything ports m (take i ps) p

  split : own ++ process_faults everything ports m (take i ps ++ p ∷ []) (drop (i + 1) ps) ≡ all
  unfolding own
  split = sym (ap (process_faults everything ports m (take i ps)) (front ps i p h is)) ∙ so_far

  -- the first fault of a process behind others without any
  pub process_at : (fault : CheckFault) → IsFirst fault (faults_of_process everything ports m (take i ps) p) → IsFirst fault all
  unfolding own
  process_at fault f = subst (IsFirst fault) split (first_before fault own (process_faults everything ports m (take i ps ++ p ∷ []) (drop (i + 1) ps)) f)

  -- a process without faults
  pub process_next : faults_of_process everything ports m (take i ps) p ≡ [] → process_faults everything ports m (take (i + 1) ps) (drop (i + 1) ps) ≡ all
  unfolding own
  process_next none =
      let more : take (i + 1) ps ≡ take i ps ++ p ∷ [] = ap (λ n. take n ps) (add-one i) ∙ take-suc ps i p h ∙ (λ j. take i ps ++ sym is j ∷ []) in
      ap (λ before. process_faults everything ports m before (drop (i + 1) ps)) more
      ∙ ap (λ xs. xs ++ process_faults everything ports m (take i ps ++ p ∷ []) (drop (i + 1) ps)) (sym none) ∙ split

-- a process of which nothing is bad has no fault
pub no_fault : (ports : Ports) (m : Module) (earlier : List Process) (p : Process) → is_too_wide p ≡ false → has_uneven p ≡ false → gives_to_constant p ≡ false → is_bad_process ports m p ≡ false
    → has_bad_line true m (flat_map write_lines earlier) (write_lines p) ≡ false → faults_of_process everything ports m earlier p ≡ []
no_fault ports m earlier p wide uneven constant bad lines = rw (wide, uneven, constant, bad, lines) refl

-- a process with a line that writes and is a fault of a memory, and nothing else bad
pub line_first : (ports : Ports) (m : Module) (earlier : List Process) (p : Process) → is_too_wide p ≡ false → has_uneven p ≡ false → gives_to_constant p ≡ false → is_bad_process ports m p ≡ false
    → has_bad_line true m (flat_map write_lines earlier) (write_lines p) ≡ true → (s : Spot) → s ≡ spot_of (rtl.spot m.id p.name) → IsFirst (check.BadMemory s) (faults_of_process everything ports m earlier p)
line_first ports m earlier p wide uneven constant bad lines s e = rw (wide, uneven, constant, bad, lines) (ap (λ x. Some (check.BadMemory x)) (sym e))

-- the lines that write of the processes so far, one process further
pub lines_next : (ps : List Process) (i : ℕ) (p : Process) → i < length ps → p ≡ get_or ps i p
    → flat_map write_lines (take (i + 1) ps) ≡ flat_map write_lines (take i ps) ++ write_lines p
lines_next ps i p h is =
    let more : take (i + 1) ps ≡ take i ps ++ p ∷ [] = ap (λ n. take n ps) (add-one i) ∙ take-suc ps i p h ∙ (λ j. take i ps ++ sym is j ∷ []) in
    ap (flat_map write_lines) more ∙ flat_map-append write_lines (take i ps) (p ∷ []) ∙ ap (λ ls. flat_map write_lines (take i ps) ++ ls) (append-nil (write_lines p))

-- a process whose widths fit the limit and are uneven
pub uneven_first : (ports : Ports) (m : Module) (earlier : List Process) (p : Process) → is_too_wide p ≡ false → has_uneven p ≡ true
    → (s : Spot) → s ≡ spot_of (rtl.spot m.id p.name) → IsFirst (check.Width s) (faults_of_process everything ports m earlier p)
uneven_first ports m earlier p wide uneven s e = rw (wide, uneven) (ap (λ x. Some (check.Width x)) (sym e))
