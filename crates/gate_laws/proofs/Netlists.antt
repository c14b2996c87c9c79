-- Gates and instances alone, which are those of a design without faults, are a netlist of gates.
use Rattle.std.proofs.Common.{◌≡◌, ◌⊎◌, ℕ, Bool, true, false, if◌then◌else◌, List, [], ◌∷◌, Option, Some, None, inl, inr, refl, sym, ◌∙◌, ap, subst}
use Rattle.std.specs.Prelude.{find, flat_map, option_map, ◌&&◌, ◌||◌}
use Rattle.std.specs.List.{list_all, list_any}
use Rattle.std.specs.Str.{bytes_eq}
use Rattle.cell_types.specs.Kind.{kind_of}
use Rattle.cell_types.specs.Unsupported.{is_unsupported}
use Rattle.cell_types.specs.declared.kind.CellKind.{CellKind}
use Rattle.rtl_ir.specs.Fault.{Fault}
use Rattle.rtl_ir.specs.Faults.{faults_within, module_faults}
use Rattle.rtl_ir.specs.Faults.Recursion.{recursion_faults}
use Rattle.rtl_ir.specs.Flat.Cell.{cell_kind, instance_of, instances, listed}
use Rattle.rtl_ir.specs.Flat.Place.{Frame, frame}
use Rattle.rtl_ir.specs.Scope.{Scope}
use Rattle.rtl_ir.specs.Types.{Ports, cell_type, design_ports, module_named, port_lines, type_by}
use Rattle.rtl_ir.specs.declared.cell.Cell.{Cell}
use Rattle.rtl_ir.specs.declared.module.Design.{Design}
use Rattle.rtl_ir.specs.declared.module.Module.{Module}
use Rattle.net_model.specs.Gates.{is_gate, is_gate_netlist, is_instance}
use Rattle.net_model.specs.Lists.{In}
use Rattle.net_model.specs.Within.{Each}
use Rattle.net_model.proofs.Members.{In-cases, In-left, In-right}
use Rattle.gate_laws.specs.Instances.{HaveSameInstances}
use Rattle.pass_laws.proofs.Alone.{IsSound, IsSoundBy, sound_by}
use Rattle.pass_laws.proofs.Faultless.{all_fine, no_faults, none_left, none_right}
use Rattle.tech_map.specs.Gates.{HasGatesAlone, IsGateOrInstance, is_gate_or_instance}

all_true : {A : Type 0} (test : A → Bool) (xs : List A) → Each (λ x. test x ≡ true) xs → list_all test xs ≡ true
all_true test [] h = refl
all_true test (x ∷ xs) h =
    ap (λ t. t && list_all test xs) (h x (inl refl)) ∙ all_true test xs (λ y i. h y (inr i))

found_any : (test : Module → Bool) (ms : List Module) (m : Module) → find test ms ≡ Some m → list_any test ms ≡ true
found_any test [] m e = absurd (cc)
found_any test (x ∷ xs) m e = by (test x) (found_any test xs m) e
  where
    by : (t : Bool) → (find test xs ≡ Some m → list_any test xs ≡ true) → (if t then Some x else find test xs) ≡ Some m → (t || list_any test xs) ≡ true
    by true later f = refl
    by false later f = later f

none_of : {A : Type 0} (f : A → List Fault) (xs : List A) → flat_map f xs ≡ [] → (x : A) → In x xs → f x ≡ []
none_of f [] e x i = absurd i
none_of f (y ∷ ys) e x (inl here) = subst (λ z. f z ≡ []) (sym here) (none_left (f y) (flat_map f ys) e)
none_of f (y ∷ ys) e x (inr i) = none_of f ys (none_right (f y) (flat_map f ys) e) x i

-- an instance without faults is one of a module of the design
one_cell : (modules : List Module) (c : Cell) → IsSound (design_ports modules) c → IsGateOrInstance c → (is_gate (cell_kind c) || is_instance modules c (cell_kind c)) ≡ true
unfolding cell_type cell_kind
one_cell modules c sound gate =
    by (kind_of c.kind_name) (module_named modules c.kind_name) (is_unsupported c.kind_name) refl sound gate
  where
    by : (k : Option CellKind) (o : Option Module) (u : Bool) → module_named modules c.kind_name ≡ o → IsSoundBy c (type_by k (option_map (λ (m : Module). port_lines m.wires) o) u) → is_gate_or_instance k ≡ true → (is_gate k || is_instance modules c k) ≡ true
    by (Some kind) o u e s g = ap (λ t. t || false) g
    by None (Some m) u e s g = found_any (λ (n : Module). bytes_eq n.id c.kind_name) modules m e
    by None None true e s g = absurd s
    by None None false e s g = absurd s

-- ---- the instances of a module

-- one of the modules has the name
abbrev has_name : List Module → List ℕ → Bool
has_name modules name = list_any (λ (m : Module). bytes_eq m.id name) modules

-- an instance stands among those of its module
there : (cells : List Cell) (c : Cell) → In c cells → cell_kind c ≡ None → In (frame c.name c.kind_name) (instances cells)
there [] c i e = absurd i
there (d ∷ cells) c (inl same) e =
    let own : listed (instance_of d (cell_kind d)) ≡ frame d.name d.kind_name ∷ [] = ap (λ k. listed (instance_of d k)) (ap cell_kind (sym same) ∙ e) in
    In-left (frame c.name c.kind_name) (listed (instance_of d (cell_kind d))) (instances cells)
    (subst (In (frame c.name c.kind_name)) (sym own) (inl (ap (λ (b : Cell). frame b.name b.kind_name) same)))
there (d ∷ cells) c (inr i) e = In-right (frame c.name c.kind_name) (listed (instance_of d (cell_kind d))) (instances cells) (there cells c i e)

-- each of these is a cell
from : (P : List ℕ → Type 0) (cells : List Cell) → ((c : Cell) → In c cells → cell_kind c ≡ None → P c.kind_name) → (f : Frame) → In f (instances cells) → P f.module_name
from P [] h f i = absurd i
from P (d ∷ cells) h f i =
    by (λ j. from P cells (λ c x. h c (inr x)) f j) (cell_kind d) refl (In-cases f (listed (instance_of d (cell_kind d))) (instances cells) i)
  where
    one : cell_kind d ≡ None → In f (frame d.name d.kind_name ∷ []) → P f.module_name
    one e (inl same) = subst (λ (g : Frame). P g.module_name) (sym same) (h d (inl refl) e)
    one e (inr none) = absurd none

    by : (In f (instances cells) → P f.module_name) → (k : Option CellKind) → cell_kind d ≡ k → In f (listed (instance_of d (cell_kind d))) ⊎ In f (instances cells) → P f.module_name
    by later k e (inr j) = later j
    by later None e (inl j) = one e (subst (λ z. In f (listed (instance_of d z))) e j)
    by later (Some kind) e (inl j) = absurd (subst (λ z. In f (listed (instance_of d z))) e j)

-- the instances of a design without faults are of its modules
module _ (scope : Scope) (d : Design) (none : faults_within scope d.modules ≡ []) where
  abbrev ports : Ports
  ports = design_ports d.modules

  names_there : (m : Module) → In m d.modules → (f : Frame) → In f (instances m.cells) → has_name d.modules f.module_name ≡ true
  names_there m i =
      from (λ name. has_name d.modules name ≡ true) m.cells
      (λ c j e.
      let faults : flat_map (module_faults scope ports) d.modules ≡ [] = none_left _ (recursion_faults d.modules) none in
      let own = no_faults scope ports m (none_of (module_faults scope ports) d.modules faults m i) in
      let fine = all_fine scope ports m [] m.cells own.cells c j in
      ap (λ k. is_gate k || is_instance d.modules c k) (sym e)
      ∙ one_cell d.modules c (sound_by scope m c fine.0 (cell_type ports c.kind_name) fine.1) (ap is_gate_or_instance e))

-- ---- modules in turn

same_names : (ms ns : List Module) → HaveSameInstances ms ns → (name : List ℕ) → has_name ms name ≡ has_name ns name
same_names [] [] h name = refl
same_names (m ∷ ms) (n ∷ ns) h name = λ i. bytes_eq (h.0 i) name || same_names ms ns h.2 name i
same_names [] (n ∷ ns) h name = absurd h
same_names (m ∷ ms) [] h name = absurd h

-- each of the second is like one of the first
module _ (P : Module → Type 0) where
  like : (ms ns : List Module) → HaveSameInstances ms ns → ((m n : Module) → In m ms → instances m.cells ≡ instances n.cells → P n) → (n : Module) → In n ns → P n
  like [] [] h f n i = absurd i
  like (m ∷ ms) (k ∷ ks) h f n (inl e) = subst P (sym e) (f m k (inl refl) h.1)
  like (m ∷ ms) (k ∷ ks) h f n (inr i) = like ms ks h.2 (λ x y j. f x y (inr j)) n i
  like [] (n ∷ ns) h f m i = absurd h
  like (m ∷ ms) [] h f n i = absurd i

pub gates_netlist : (scope : Scope) (d n : Design) → faults_within scope d.modules ≡ [] → HaveSameInstances d.modules n.modules → Each HasGatesAlone n.modules → is_gate_netlist n ≡ true
gates_netlist scope d n none same gates =
    all_true (λ (m : Module). list_all (λ (c : Cell). is_gate (cell_kind c) || is_instance n.modules c (cell_kind c)) m.cells) n.modules
    (λ k i. all_true (λ (c : Cell). is_gate (cell_kind c) || is_instance n.modules c (cell_kind c)) k.cells
    (λ c j. by k i c j (cell_kind c) refl (gates k i c j)))
  where
    by : (k : Module) → In k n.modules → (c : Cell) → In c k.cells → (o : Option CellKind) → cell_kind c ≡ o → is_gate_or_instance (cell_kind c) ≡ true → (is_gate (cell_kind c) || is_instance n.modules c (cell_kind c)) ≡ true
    by k i c j (Some kind) e g =
        ap (λ z. is_gate z || is_instance n.modules c z) e ∙ ap (λ t. t || false) (sym (ap is_gate_or_instance e) ∙ g)
    by k i c j None e g =
        ap (λ z. is_gate z || is_instance n.modules c z) e
        ∙ sym (same_names d.modules n.modules same c.kind_name)
        ∙ like (λ (x : Module). (f : Frame) → In f (instances x.cells) → has_name d.modules f.module_name ≡ true) d.modules n.modules same
        (λ m x own alike f at. names_there scope d none m own f (subst (In f) (sym alike) at)) k i (frame c.name c.kind_name) (there k.cells c j e)
