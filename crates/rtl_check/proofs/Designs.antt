-- The faults of the modules of a design, one module after the other.
use Rattle.std.proofs.Common.{◌≡◌, ℕ, ◌+◌, ◌<◌, List, [], ◌∷◌, ◌++◌, Result, length, get_or, drop, flat_map, add-one, sym, ◌∙◌, ap, subst}
use Rattle.std.proofs.Math.Seq.{drop-cons}
use Rattle.rtl_ir.specs.declared.module.Module.{Module}
use Rattle.rtl_ir.specs.Fault as rtl
use Rattle.rtl_check.specs.declared.fault.CheckFault.{CheckFault}
use Rattle.rtl_check.specs.Finds.{Finds, IsFirst}
use Rattle.rtl_check.proofs.Firsts.{first_before}

module _ (faults : Module → List rtl.Fault) (modules : List Module) (at : ℕ) (m : Module) (inside : at < length modules) (is : m ≡ get_or modules at m)
    (so_far : flat_map faults (drop at modules) ≡ flat_map faults modules) where
  split : faults m ++ flat_map faults (drop (at + 1) modules) ≡ flat_map faults modules
  split = sym (ap (flat_map faults) (drop-cons modules at m inside ∙ (λ i. sym is i ∷ drop (sym (add-one at) i) modules))) ∙ so_far

  -- the first fault of a module behind others without any
  pub first_at : (fault : CheckFault) → IsFirst fault (faults m) → IsFirst fault (flat_map faults modules)
  first_at fault h = subst (IsFirst fault) split (first_before fault (faults m) (flat_map faults (drop (at + 1) modules)) h)

  -- a module without faults
  pub next_at : faults m ≡ [] → flat_map faults (drop (at + 1) modules) ≡ flat_map faults modules
  next_at none = ap (λ xs. xs ++ flat_map faults (drop (at + 1) modules)) (sym none) ∙ split

-- the first fault of a module's parts, where those before it have none
pub first_cell : (f : CheckFault) (wires stores cells processes links bits : List rtl.Fault) → wires ≡ [] → stores ≡ [] → IsFirst f cells → IsFirst f (wires ++ stores ++ cells ++ processes ++ links ++ bits)
first_cell f wires stores cells processes links bits w s first =
    let none : cells ≡ wires ++ stores ++ cells = sym (λ i. w i ++ s i ++ cells) in
    first_before f (wires ++ stores ++ cells ++ processes ++ links) bits
    (first_before f (wires ++ stores ++ cells ++ processes) links (first_before f (wires ++ stores ++ cells) processes (subst (IsFirst f) none first)))

pub first_process : (f : CheckFault) (wires stores cells processes links bits : List rtl.Fault) → wires ≡ [] → stores ≡ [] → cells ≡ [] → IsFirst f processes
    → IsFirst f (wires ++ stores ++ cells ++ processes ++ links ++ bits)
first_process f wires stores cells processes links bits w s c first =
    let none : processes ≡ wires ++ stores ++ cells ++ processes = sym (λ i. w i ++ s i ++ c i ++ processes) in
    first_before f (wires ++ stores ++ cells ++ processes ++ links) bits
    (first_before f (wires ++ stores ++ cells ++ processes) links (subst (IsFirst f) none first))

pub first_link : (f : CheckFault) (wires stores cells processes links bits : List rtl.Fault) → wires ≡ [] → stores ≡ [] → cells ≡ [] → processes ≡ [] → IsFirst f links
    → IsFirst f (wires ++ stores ++ cells ++ processes ++ links ++ bits)
first_link f wires stores cells processes links bits w s c p first =
    let none : links ≡ wires ++ stores ++ cells ++ processes ++ links = sym (λ i. w i ++ s i ++ c i ++ p i ++ links) in
    first_before f (wires ++ stores ++ cells ++ processes ++ links) bits (subst (IsFirst f) none first)

-- what is found of the bits, where the parts before have no fault
pub finds_bits : {A : Type 0} (r : Result A CheckFault) (wires stores cells processes links bits : List rtl.Fault) → wires ≡ [] → stores ≡ [] → cells ≡ [] → processes ≡ [] → links ≡ [] → Finds r bits
    → Finds r (wires ++ stores ++ cells ++ processes ++ links ++ bits)
finds_bits r wires stores cells processes links bits w s c p l h =
    let none : bits ≡ wires ++ stores ++ cells ++ processes ++ links ++ bits = sym (λ i. w i ++ s i ++ c i ++ p i ++ l i ++ bits) in
    subst (Finds r) none h
