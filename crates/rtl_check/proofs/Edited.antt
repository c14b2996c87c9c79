-- Edited designs: which modules stayed, which ports moved, and which faults there may be.
use Rattle.std.proofs.Common.{◌≡◌, ◌⊎◌, ⊎_elim, ℕ, List, [], ◌∷◌, ◌++◌, Bool, true, false, not, cond, ◌||◌, Some, None, inl, inr, refl, sym, ap, subst, ◌∙◌, true≢false}
use Rattle.std.specs.Prelude.{filter, flat_map}
use Rattle.std.specs.Option.{option_map}
use Rattle.std.specs.Str.{bytes_eq}
use Rattle.std.proofs.lemmas.Slice.Eq.{bytes_eq-Decides}
use Rattle.rtl_sig.specs.Names.{has_name}
use Rattle.rtl_ir.specs.declared.cell.Cell.{Cell}
use Rattle.rtl_ir.specs.declared.module.Module.{Module}
use Rattle.rtl_ir.specs.Fault.{Fault}
use Rattle.rtl_ir.specs.Faults.{check_faults, module_faults}
use Rattle.rtl_ir.specs.Faults.Recursion.{recursion_faults}
use Rattle.rtl_ir.specs.Scope.{everything}
use Rattle.rtl_ir.specs.Types.{Ports, design_ports, module_named, port_lines}
use Rattle.net_model.specs.Lists.{In}
use Rattle.net_model.specs.Within.{Each}
use Rattle.design_edit.specs.Modules.{with_module, with_modules, without_module}
use Rattle.rtl_check.specs.declared.due.Due.{Due}
use Rattle.rtl_check.specs.Due.{IsEdited, IsNoted, KeepsPorts, due_faults, is_due, sees}
use Rattle.rtl_check.proofs.OverPorts.{same_faults}

same_name : (a b : List ℕ) → bytes_eq a b ≡ true → a ≡ b
same_name a b e = (bytes_eq-Decides a b).0 e

own_name : (a : List ℕ) → bytes_eq a a ≡ true
own_name a = (bytes_eq-Decides a a).1 refl

-- ---- modules that took the places of those of their names

in_with : (new m : Module) (ms : List Module) → In m (with_module ms new) → (m ≡ new) ⊎ In m ms
in_with new m [] i = i
in_with new m (n ∷ ms) i = by (bytes_eq n.id new.id) (in_with new m ms) i
  where
    later : (m ≡ new) ⊎ In m ms → (m ≡ new) ⊎ In m (n ∷ ms)
    later (inl e) = inl e
    later (inr j) = inr (inr j)

    by : (b : Bool) → (In m (with_module ms new) → (m ≡ new) ⊎ In m ms) → In m (cond b (new ∷ ms) (n ∷ with_module ms new)) → (m ≡ new) ⊎ In m (n ∷ ms)
    by true rest (inl e) = inl e
    by true rest (inr j) = inr (inr j)
    by false rest (inl e) = inr (inl e)
    by false rest (inr j) = later (rest j)

stayed_with : (names : List (List ℕ)) (ms edits : List Module) → ((e : Module) → In e edits → has_name names e.id ≡ true) → (m : Module) → In m (with_modules ms edits) → has_name names m.id ≡ false → In m ms
stayed_with names ms [] named m i other = i
stayed_with names ms (e ∷ edits) named m i other =
    ⊎_elim
    (λ (same : m ≡ e). absurd (true≢false (sym (ap (λ (k : Module). has_name names k.id) same ∙ named e (inl refl)) ∙ other)))
    (λ (j : In m ms). j)
    (in_with e m ms (stayed_with names (with_module ms e) edits (λ d j. named d (inr j)) m i other))

-- the module of the new one's name is the new one
named_new : (new : Module) (ms : List Module) → module_named (with_module ms new) new.id ≡ Some new
named_new new [] = ap (λ (b : Bool). cond b (Some new) None) (own_name new.id)
named_new new (n ∷ ms) = by (bytes_eq n.id new.id) refl (named_new new ms)
  where
    by : (b : Bool) → bytes_eq n.id new.id ≡ b → module_named (with_module ms new) new.id ≡ Some new → module_named (cond b (new ∷ ms) (n ∷ with_module ms new)) new.id ≡ Some new
    by true e rest = ap (λ (b : Bool). cond b (Some new) (module_named ms new.id)) (own_name new.id)
    by false e rest = ap (λ (b : Bool). cond b (Some n) (module_named (with_module ms new) new.id)) e ∙ rest

-- other names have the modules that they had
named_other : (new : Module) (ms : List Module) (name : List ℕ) → bytes_eq new.id name ≡ false → module_named (with_module ms new) name ≡ module_named ms name
named_other new [] name other = ap (λ (b : Bool). cond b (Some new) None) other
named_other new (n ∷ ms) name other = by (bytes_eq n.id new.id) refl (named_other new ms name other)
  where
    by : (b : Bool) → bytes_eq n.id new.id ≡ b → module_named (with_module ms new) name ≡ module_named ms name → module_named (cond b (new ∷ ms) (n ∷ with_module ms new)) name ≡ module_named (n ∷ ms) name
    by true e rest =
        ap (λ (b : Bool). cond b (Some new) (module_named ms name)) other
        ∙ sym (ap (λ (b : Bool). cond b (Some n) (module_named ms name)) (ap (λ (id : List ℕ). bytes_eq id name) (same_name n.id new.id e) ∙ other))
    by false e rest = ap (cond (bytes_eq n.id name) (Some n)) rest

module _ (ports : Ports) (due : Due) (name : List ℕ) (stays : has_name due.moved name ≡ false) where
  own_ports : (e : Module) (ms : List Module) → IsNoted ports due e → design_ports ms name ≡ ports name → (b : Bool) → bytes_eq e.id name ≡ b → design_ports (with_module ms e) name ≡ ports name
  own_ports e ms noted h false other = ap (option_map (λ (m : Module). port_lines m.wires)) (named_other e ms name other) ∙ h
  own_ports e ms noted h true is = ⊎_elim
      (λ (moved : has_name due.moved e.id ≡ true). absurd (true≢false (sym (subst (λ (n : List ℕ). has_name due.moved n ≡ true) (same_name e.id name is) moved) ∙ stays)))
      (λ (keeps : KeepsPorts ports e).
      subst (λ (n : List ℕ). design_ports (with_module ms e) n ≡ ports n) (same_name e.id name is)
      (ap (option_map (λ (m : Module). port_lines m.wires)) (named_new e ms) ∙ sym keeps))
      noted.moved

  ports_with : (ms edits : List Module) → Each (IsNoted ports due) edits → design_ports ms name ≡ ports name → design_ports (with_modules ms edits) name ≡ ports name
  ports_with ms [] noted h = h
  ports_with ms (e ∷ edits) noted h = ports_with (with_module ms e) edits (λ d j. noted d (inr j)) (own_ports e ms (noted e (inl refl)) h (bytes_eq e.id name) refl)

-- modules with noted edits in their places come from those without
pub edits_edited : (modules edits : List Module) (due : Due) → Each (IsNoted (design_ports modules) due) edits → IsEdited modules (with_modules modules edits) due
edits_edited modules edits due noted = record {
  stayed = stayed_with due.edited modules edits (λ e i. (noted e i).edited);
  ports = λ name stays. ports_with (design_ports modules) due name stays modules edits noted refl;
}

-- ---- a module that was taken away

in_without : (gone : List ℕ) (m : Module) (ms : List Module) → In m (without_module ms gone) → In m ms
in_without gone m [] i = i
in_without gone m (n ∷ ms) i = by (bytes_eq n.id gone) (in_without gone m ms) i
  where
    by : (b : Bool) → (In m (without_module ms gone) → In m ms) → In m (cond (not b) (n ∷ without_module ms gone) (without_module ms gone)) → In m (n ∷ ms)
    by true rest j = inr (rest j)
    by false rest (inl e) = inl e
    by false rest (inr j) = inr (rest j)

named_without : (gone name : List ℕ) → bytes_eq gone name ≡ false → (ms : List Module) → module_named (without_module ms gone) name ≡ module_named ms name
named_without gone name other [] = refl
named_without gone name other (n ∷ ms) = by (bytes_eq n.id gone) refl (named_without gone name other ms)
  where
    by : (b : Bool) → bytes_eq n.id gone ≡ b → module_named (without_module ms gone) name ≡ module_named ms name
        → module_named (cond (not b) (n ∷ without_module ms gone) (without_module ms gone)) name ≡ module_named (n ∷ ms) name
    by true e rest = rest ∙ sym (ap (λ (b : Bool). cond b (Some n) (module_named ms name)) (ap (λ (id : List ℕ). bytes_eq id name) (same_name n.id gone e) ∙ other))
    by false e rest = ap (cond (bytes_eq n.id name) (Some n)) rest

pub removal_edited : (modules : List Module) (gone : List ℕ) (due : Due) → has_name due.moved gone ≡ true → IsEdited modules (without_module modules gone) due
removal_edited modules gone due moved = record {
  stayed = λ m i other. in_without gone m modules i;
  ports = λ name stays. ap (option_map (λ (m : Module). port_lines m.wires)) (named_without gone name (differs name stays (bytes_eq gone name) refl) modules);
}
  where
    differs : (name : List ℕ) → has_name due.moved name ≡ false → (b : Bool) → bytes_eq gone name ≡ b → bytes_eq gone name ≡ false
    differs name stays true e = absurd (true≢false (sym (subst (λ (n : List ℕ). has_name due.moved n ≡ true) (same_name gone name e) moved) ∙ stays))
    differs name stays false e = e

-- ---- the faults

left_none : {A : Type 0} (xs ys : List A) → xs ++ ys ≡ [] → xs ≡ []
left_none [] ys e = refl
left_none (x ∷ xs) ys e = absurd cc

right_none : {A : Type 0} (xs ys : List A) → xs ++ ys ≡ [] → ys ≡ []
right_none [] ys e = e
right_none (x ∷ xs) ys e = absurd cc

each_none : {A B : Type 0} (f : A → List B) (xs : List A) → flat_map f xs ≡ [] → (x : A) → In x xs → f x ≡ []
each_none f [] e x i = absurd i
each_none f (y ∷ ys) e x (inl same) = ap f same ∙ left_none (f y) (flat_map f ys) e
each_none f (y ∷ ys) e x (inr i) = each_none f ys (right_none (f y) (flat_map f ys) e) x i

only_those : {A B : Type 0} (f : A → List B) (p : A → Bool) (xs : List A) → ((x : A) → In x xs → p x ≡ false → f x ≡ []) → flat_map f xs ≡ flat_map f (filter p xs)
only_those f p [] h = refl
only_those f p (x ∷ xs) h = by (p x) refl (only_those f p xs (λ y i. h y (inr i)))
  where
    by : (b : Bool) → p x ≡ b → flat_map f xs ≡ flat_map f (filter p xs) → f x ++ flat_map f xs ≡ flat_map f (cond b (x ∷ filter p xs) (filter p xs))
    by true e rest = ap (λ ys. f x ++ ys) rest
    by false e rest = ap (λ ys. ys ++ flat_map f xs) (h x (inl refl) e) ∙ rest

neither : (a b : Bool) → (a || b) ≡ false → (a ≡ false) × (b ≡ false)
neither true b e = absurd (true≢false e)
neither false b e = (refl, e)

unseen : (names : List (List ℕ)) (cells : List Cell) → sees names cells ≡ false → (c : Cell) → In c cells → has_name names c.kind_name ≡ false
unseen names [] e c i = absurd i
unseen names (d ∷ cells) e c (inl same) = ap (λ (k : Cell). has_name names k.kind_name) same ∙ (neither (has_name names d.kind_name) (sees names cells) e).0
unseen names (d ∷ cells) e c (inr i) = unseen names cells ((neither (has_name names d.kind_name) (sees names cells) e).1) c i

module _ (before after : List Module) (due : Due) (none : check_faults before ≡ []) (edited : IsEdited before after due) where
  -- a module that is not due has no fault
  none_of : (m : Module) → In m after → is_due due m ≡ false → module_faults everything (design_ports after) m ≡ []
  none_of m i out =
      let apart = neither (has_name due.edited m.id) (sees due.moved m.cells) out in
      let own = each_none (module_faults everything (design_ports before)) before (left_none (flat_map (module_faults everything (design_ports before)) before) (recursion_faults before) none) m (edited.stayed m i apart.0) in
      same_faults (design_ports after) (design_ports before) everything m (λ c j. edited.ports c.kind_name (unseen due.moved m.cells apart.1 c j)) ∙ own

  -- so the faults are those of the others, and of recursion
  pub edited_faults : check_faults after ≡ due_faults due after
  edited_faults = ap (λ (fs : List Fault). fs ++ recursion_faults after) (only_those (module_faults everything (design_ports after)) (is_due due) after none_of)
