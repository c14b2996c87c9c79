-- What an edit is about, noted edit by edit, and the modules that are due, one after another.
use Rattle.std.proofs.Common.{◌≡◌, ◌⊎◌, ⊎_elim, ℕ, zero, suc, ◌+◌, ◌<◌, List, [], ◌∷◌, ◌++◌, Bool, true, false, cond, ◌||◌, Some, length, get_or, take, drop, slice_get, flat_map, inl, inr, refl, sym, ap, subst, ◌∙◌, arith, add-one, ◌≤◌}
use Rattle.std.specs.Prelude.{filter}
use Rattle.std.specs.Option.{option_map}
use Rattle.std.specs.Str.{bytes_eq}
use Rattle.std.proofs.Math.Seq.{drop-cons, take-suc}
use Rattle.std.proofs.lemmas.List.{take_all}
use Rattle.std.proofs.lemmas.Slice.Eq.{bytes_eq-Decides}
use Rattle.rtl_sig.specs.Names.{has_name, with_name}
use Rattle.rtl_sig.proofs.NamesLemmas.{list_any-with_name}
use Rattle.rtl_ir.specs.declared.cell.Cell.{Cell}
use Rattle.rtl_ir.specs.declared.module.Module.{Module}
use Rattle.rtl_ir.specs.declared.ports.PortLine.{PortLine}
use Rattle.rtl_ir.specs.Fault as rtl
use Rattle.rtl_ir.specs.Types.{Ports, design_ports, port_lines}
use Rattle.net_index.specs.Types.{Named, at_name}
use Rattle.net_model.specs.Lists.{In}
use Rattle.net_model.specs.Within.{Each}
use Rattle.design_edit.specs.Table.{ArePlaces}
use Rattle.design_edit.proofs.Naming.{named_at, place_within}
use Rattle.rtl_check.specs.declared.due.Due.{Due}
use Rattle.rtl_check.specs.declared.fault.CheckFault.{CheckFault}
use Rattle.rtl_check.specs.Due.{IsNoted, KeepsPorts, ports_at, sees}
use Rattle.rtl_check.specs.Finds.{IsFirst}
use Rattle.rtl_check.proofs.Firsts.{first_before}

-- ---- the module of an edit's name

got : (ms : List Module) (at : ℕ) (m : Module) → at < length ms → m ≡ get_or ms at m → slice_get ms at ≡ Some m
got [] at m within is = absurd (omega arith)
got (n ∷ ms) zero m within is = ap Some (sym is)
got (n ∷ ms) (suc at) m within is = got ms at m (omega arith) is

-- the table has places of modules
pub placed_within : (places : Named ℕ) (modules : List Module) (name : List ℕ) (at : ℕ) (d : Module) → ArePlaces places modules → at_name places name ≡ Some at → at < length modules
placed_within places modules name at d are found = place_within modules name at d (sym (are name) ∙ found)

-- the ports of the module at a place
pub ports_there : (modules : List Module) (at : ℕ) (m : Module) (lines : List PortLine) → at < length modules → m ≡ get_or modules at m → port_lines m.wires ≡ lines → ports_at modules at ≡ Some lines
ports_there modules at m lines within is same = ap (option_map (λ (n : Module). port_lines n.wires)) (got modules at m within is) ∙ ap Some same

-- a module with the ports of the one at the place of its name keeps them
pub kept_ports : (places : Named ℕ) (modules : List Module) (e : Module) (at : ℕ) → ArePlaces places modules → at_name places e.id ≡ Some at → ports_at modules at ≡ Some (port_lines e.wires) → KeepsPorts (design_ports modules) e
kept_ports places modules e at are found same = ap (option_map (λ (n : Module). port_lines n.wires)) (named_at modules e.id at e (sym (are e.id) ∙ found)) ∙ same

-- no cell has a type of no names
pub none_seen : (names : List (List ℕ)) (cells : List Cell) → length names ≡ 0 → sees names cells ≡ false
none_seen (n ∷ names) cells none = absurd (omega arith)
none_seen [] [] none = refl
none_seen [] (c ∷ cells) none = none_seen [] cells none

-- ---- edits that are noted

or_true : (a b : Bool) → a ≡ true → (a || b) ≡ true
or_true true b e = refl
or_true false b e = absurd (cc)

or_last : (a b : Bool) → b ≡ true → (a || b) ≡ true
or_last true b e = refl
or_last false b e = e

still_there : (names : List (List ℕ)) (more name : List ℕ) → has_name names name ≡ true → has_name (with_name names more) name ≡ true
still_there names more name e = list_any-with_name name names more ∙ or_true (has_name names name) (bytes_eq name more) e

now_there : (names : List (List ℕ)) (name : List ℕ) → has_name (with_name names name) name ≡ true
now_there names name = list_any-with_name name names name ∙ or_last (has_name names name) (bytes_eq name name) ((bytes_eq-Decides name name).1 refl)

in_front : {A : Type 0} (x y : A) (xs : List A) → In x (xs ++ y ∷ []) → In x xs ⊎ (x ≡ y)
in_front x y [] (inl e) = inr e
in_front x y [] (inr i) = absurd i
in_front x y (z ∷ zs) (inl e) = inl (inl e)
in_front x y (z ∷ zs) (inr i) = ⊎_elim (λ (j : In x zs). inl (inr j)) (λ (e : x ≡ y). inr e) (in_front x y zs i)

module _ (ports : Ports) (old new : Due) (e : Module) (keeps : Bool) (kept : keeps ≡ true → KeepsPorts ports e)
    (edited : new.edited ≡ with_name old.edited e.id) (moved : new.moved ≡ cond keeps old.moved (with_name old.moved e.id)) where
  moved_still : (t : Bool) → keeps ≡ t → (name : List ℕ) → has_name old.moved name ≡ true → has_name new.moved name ≡ true
  moved_still true is name there = ap (λ (ns : List (List ℕ)). has_name ns name) (moved ∙ ap (λ (b : Bool). cond b old.moved (with_name old.moved e.id)) is) ∙ there
  moved_still false is name there =
      ap (λ (ns : List (List ℕ)). has_name ns name) (moved ∙ ap (λ (b : Bool). cond b old.moved (with_name old.moved e.id)) is) ∙ still_there old.moved e.id name there

  still_noted : (m : Module) → IsNoted ports old m → IsNoted ports new m
  still_noted m h = record {
    edited = ap (λ (ns : List (List ℕ)). has_name ns m.id) edited ∙ still_there old.edited e.id m.id h.edited;
    moved = ⊎_elim (λ (there : has_name old.moved m.id ≡ true). inl (moved_still keeps refl m.id there)) (λ (k : KeepsPorts ports m). inr k) h.moved;
  }

  own_moved : (t : Bool) → keeps ≡ t → (has_name new.moved e.id ≡ true) ⊎ KeepsPorts ports e
  own_moved true is = inr (kept is)
  own_moved false is = inl (ap (λ (ns : List (List ℕ)). has_name ns e.id) (moved ∙ ap (λ (b : Bool). cond b old.moved (with_name old.moved e.id)) is) ∙ now_there old.moved e.id)

  own_noted : IsNoted ports new e
  own_noted = record {
    edited = ap (λ (ns : List (List ℕ)). has_name ns e.id) edited ∙ now_there old.edited e.id;
    moved = own_moved keeps refl;
  }

  -- one edit more is noted
  pub noted_more : (edits : List Module) (at : ℕ) → at < length edits → e ≡ get_or edits at e → Each (IsNoted ports old) (take at edits) → Each (IsNoted ports new) (take (at + 1) edits)
  noted_more edits at within is so_far m i =
      let more : take (at + 1) edits ≡ take at edits ++ e ∷ [] = ap (λ n. take n edits) (add-one at) ∙ take-suc edits at e within ∙ (λ j. take at edits ++ sym is j ∷ []) in
      ⊎_elim
      (λ (j : In m (take at edits)). still_noted m (so_far m j))
      (λ (same : m ≡ e). subst (IsNoted ports new) (sym same) own_noted)
      (in_front m e (take at edits) (subst (In m) more i))

pub noted_all : (ports : Ports) (due : Due) (edits : List Module) (at : ℕ) → length edits ≤ at → Each (IsNoted ports due) (take at edits) → Each (IsNoted ports due) edits
noted_all ports due edits at over h m i = h m (subst (In m) (sym (take_all at edits over)) i)

-- ---- the modules that are due

module _ (faults : Module → List rtl.Fault) (test : Module → Bool) (modules : List Module) (at : ℕ) (m : Module) (inside : at < length modules) (is : m ≡ get_or modules at m)
    (so_far : flat_map faults (filter test (drop at modules)) ≡ flat_map faults (filter test modules)) where
  next : drop at modules ≡ m ∷ drop (at + 1) modules
  next = drop-cons modules at m inside ∙ (λ i. sym is i ∷ drop (sym (add-one at) i) modules)

  tested : (b : Bool) → test m ≡ b → flat_map faults (cond b (m ∷ filter test (drop (at + 1) modules)) (filter test (drop (at + 1) modules))) ≡ flat_map faults (filter test modules)
  tested b e =
      ap (λ (t : Bool). flat_map faults (cond t (m ∷ filter test (drop (at + 1) modules)) (filter test (drop (at + 1) modules)))) (sym e)
      ∙ ap (λ (ms : List Module). flat_map faults (filter test ms)) (sym next) ∙ so_far

  -- the first fault of a module that is due
  pub due_first : (fault : CheckFault) → test m ≡ true → IsFirst fault (faults m) → IsFirst fault (flat_map faults (filter test modules))
  due_first fault e h = subst (IsFirst fault) (tested true e) (first_before fault (faults m) (flat_map faults (filter test (drop (at + 1) modules))) h)

  -- one that is due and has none
  pub due_next : test m ≡ true → faults m ≡ [] → flat_map faults (filter test (drop (at + 1) modules)) ≡ flat_map faults (filter test modules)
  due_next e none = ap (λ xs. xs ++ flat_map faults (filter test (drop (at + 1) modules))) (sym none) ∙ tested true e

  -- one that is not
  pub due_passed : test m ≡ false → flat_map faults (filter test (drop (at + 1) modules)) ≡ flat_map faults (filter test modules)
  due_passed e = tested false e
