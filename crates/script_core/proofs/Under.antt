-- The modules that a module of an accepted design reaches: what they are, and that they reach no others.
use Rattle.std.proofs.Common.{◌≡◌, ◌⊎◌, ℕ, suc, Bool, true, false, cond, List, [], ◌∷◌, ◌++◌, length, Option, Some, None, inl, inr, ⊎_elim, refl, sym, ◌∙◌, ap, subst, append_assoc}
use Rattle.std.specs.Prelude.{filter, is_some, map}
use Rattle.std.specs.Option.{option_map_or}
use Rattle.std.specs.Str.{bytes_eq}
use Rattle.std.proofs.lemmas.Slice.Eq.{bytes_eq-Decides}
use Rattle.cell_types.specs.Kind.{kind_of}
use Rattle.cell_types.specs.declared.kind.CellKind.{CellKind}
use Rattle.rtl_ir.specs.declared.cell.Cell.{Cell}
use Rattle.rtl_ir.specs.declared.module.Design.{Design}
use Rattle.rtl_ir.specs.declared.module.Module.{Module}
use Rattle.rtl_ir.specs.Faults.{check_faults, module_faults}
use Rattle.rtl_ir.specs.Faults.Recursion.{recursion_faults}
use Rattle.rtl_ir.specs.Flat.Cell.{cell_kind, instances}
use Rattle.rtl_ir.specs.Flat.Place.{Frame, frame}
use Rattle.rtl_ir.specs.Flat.Tree.{named}
use Rattle.rtl_ir.specs.ModuleTables.{instance_of}
use Rattle.rtl_ir.specs.Ports.{in_name_order, instances_of, is_library_cell, place_module, ports_by_module}
use Rattle.rtl_ir.specs.Scope.{everything}
use Rattle.rtl_ir.specs.Types.{design_ports, module_named}
use Rattle.rtl_ir.proofs.NameOrder.{instance_more, instance_none, no_cells}
use Rattle.rtl_readable.specs.Readable.{IsReadable}
use Rattle.net_model.specs.Lists.{Apart, Distinct, In}
use Rattle.net_model.proofs.Members.{In-cases, In-map, In-mapped, apart_at, apart_from}
use Rattle.check_laws.proofs.Counting.{none_parts}
use Rattle.check_laws.proofs.Readable.{sound}
use Rattle.flat_pass.proofs.Partners.{instance_cell, instance_in}
use Rattle.script_core.specs.Reached.{leads_to, reached_of, table_of}
use Rattle.script_core.proofs.BelowReadable.{readable_reached}
use Rattle.script_core.proofs.Faultless.{named_is}
use Rattle.script_core.proofs.Instancing.{found_in, found_name, instance_from, instance_named, instance_to, is_of, of_module, one_found, ordered_from, placed_first, placed_to}
use Rattle.script_core.proofs.Leading.{Leads, leads_cut, leads_named, leads_on, leads_then, leads_true, true_leads}
use Rattle.script_core.proofs.Unrecursive.{unrecursive}

-- ---- lists of modules of which no two have one name

abbrev pub names : List Module → List (List ℕ)
names ms = map (λ (m : Module). m.id) ms

pub found_own : (ms : List Module) → Distinct (names ms) → (n : Module) → In n ms → module_named ms n.id ≡ Some n
found_own [] u n i = absurd i
found_own (m ∷ ms) u n (inl e) =
    subst (λ (z : Module). cond (bytes_eq m.id z.id) (Some m) (module_named ms z.id) ≡ Some z) (sym e)
    (ap (λ t. cond t (Some m) (module_named ms m.id)) ((bytes_eq-Decides m.id m.id).1 refl))
found_own (m ∷ ms) u n (inr i) = by (bytes_eq m.id n.id) refl (found_own ms u.1 n i)
  where
    by : (t : Bool) → bytes_eq m.id n.id ≡ t → module_named ms n.id ≡ Some n → cond t (Some m) (module_named ms n.id) ≡ Some n
    by true q later = absurd (apart_at m.id (names ms) u.0 n.id (In-map (λ (z : Module). z.id) n ms i) ((bytes_eq-Decides m.id n.id).0 q))
    by false q later = later

in_ordered : (ms : List Module) → Distinct (names ms) → (n : Module) → In n ms → In n (in_name_order ms)
in_ordered [] u n i = i
in_ordered (m ∷ ms) u n (inl e) = subst (λ z. In z (place_module m (in_name_order ms))) (sym e) (placed_first m (in_name_order ms))
in_ordered (m ∷ ms) u n (inr i) =
    ⊎_elim
    (λ j. j)
    (λ e. absurd (apart_at m.id (names ms) u.0 n.id (In-map (λ (z : Module). z.id) n ms i) (sym e)))
    (placed_to m (in_name_order ms) n (inr (in_ordered ms u.1 n i)))

pub left_from : {A : Type 0} (p : A → Bool) (xs : List A) (x : A) → In x (filter p xs) → In x xs × (p x ≡ true)
left_from p [] x i = absurd i
left_from p (y ∷ ys) x i = by (p y) refl (left_from p ys x) i
  where
    by : (t : Bool) → p y ≡ t → (In x (filter p ys) → In x ys × (p x ≡ true)) → In x (cond t (y ∷ filter p ys) (filter p ys)) → In x (y ∷ ys) × (p x ≡ true)
    by true q later (inl e) = (inl e, ap p e ∙ q)
    by true q later (inr j) = let k = later j in (inr k.0, k.1)
    by false q later j = let k = later j in (inr k.0, k.1)

pub left_to : {A : Type 0} (p : A → Bool) (xs : List A) (x : A) → In x xs → p x ≡ true → In x (filter p xs)
left_to p [] x i e = absurd i
left_to p (y ∷ ys) x (inl f) e = subst (λ t. In x (cond t (y ∷ filter p ys) (filter p ys))) (sym e ∙ ap p f) (inl f)
left_to p (y ∷ ys) x (inr i) e = by (p y) (left_to p ys x i e)
  where
    by : (t : Bool) → In x (filter p ys) → In x (cond t (y ∷ filter p ys) (filter p ys))
    by true later = inr later
    by false later = later

left_distinct : (p : Module → Bool) (ms : List Module) → Distinct (names ms) → Distinct (names (filter p ms))
left_distinct p [] u = tt
left_distinct p (m ∷ ms) u = by (p m) (left_distinct p ms u.1)
  where
    by : (t : Bool) → Distinct (names (filter p ms)) → Distinct (names (cond t (m ∷ filter p ms) (filter p ms)))
    by true later = (
      apart_from m.id (names (filter p ms)) (λ y i e. let k = In-mapped (λ (z : Module). z.id) y (filter p ms) i in
          apart_at m.id (names ms) u.0 y (subst (λ z. In z (names ms)) (sym k.2) (In-map (λ (z : Module). z.id) k.0 ms (left_from p ms k.0 k.1).0)) e),
      later,
    )
    by false later = later

-- ---- instances of lists of modules in which types name the same modules

module _ (xs ys : List Module) where
  abbrev pub NameSame : List Cell → Type 0
  NameSame cells = (c : Cell) → In c cells → instance_of xs c.kind_name ≡ instance_of ys c.kind_name

  one_more : (cells : List Cell) (c : Cell) → instances_of xs cells ≡ instances_of ys cells → instance_of xs c.kind_name ≡ instance_of ys c.kind_name → instances_of xs (cells ++ c ∷ []) ≡ instances_of ys (cells ++ c ∷ [])
  one_more cells c h e = by (is_library_cell c.kind_name) refl
    where
      by : (t : Bool) → is_library_cell c.kind_name ≡ t → instances_of xs (cells ++ c ∷ []) ≡ instances_of ys (cells ++ c ∷ [])
      by true q = instance_none xs cells c q ∙ h ∙ sym (instance_none ys cells c q)
      by false q =
          let same : module_named xs c.kind_name ≡ module_named ys c.kind_name =
          sym (is_of xs c.kind_name (module_named xs c.kind_name) q refl) ∙ e ∙ is_of ys c.kind_name (module_named ys c.kind_name) q refl in
          instance_more xs cells c q ∙ (λ i. option_map_or (λ f. place_module f (h i)) (same i) (h i)) ∙ sym (instance_more ys cells c q)

  all_more : (rest cells : List Cell) → NameSame rest → instances_of xs cells ≡ instances_of ys cells → instances_of xs (cells ++ rest) ≡ instances_of ys (cells ++ rest)
  all_more [] cells same h = ap (instances_of xs) (nil cells) ∙ h ∙ sym (ap (instances_of ys) (nil cells))
    where
      nil : (cs : List Cell) → cs ++ [] ≡ cs
      nil [] = refl
      nil (c ∷ cs) = ap (λ z. c ∷ z) (nil cs)
  all_more (c ∷ rest) cells same h =
      let parts : (cells ++ c ∷ []) ++ rest ≡ cells ++ c ∷ rest = append_assoc cells (c ∷ []) rest in
      sym (ap (instances_of xs) parts)
      ∙ all_more rest (cells ++ c ∷ []) (λ d i. same d (inr i)) (one_more cells c h (same c (inl refl)))
      ∙ ap (instances_of ys) parts

  pub same_instances : (cells : List Cell) → NameSame cells → instances_of xs cells ≡ instances_of ys cells
  same_instances cells same = all_more cells [] same (no_cells xs ∙ sym (no_cells ys))

-- ---- instances in the flat netlist

not_library : (k : List ℕ) → is_library_cell k ≡ false → kind_of k ≡ None
unfolding is_library_cell
not_library k e = by (kind_of k) e
  where
    by : (o : Option CellKind) → is_some o ≡ false → o ≡ None
    by None f = refl
    by (Some kind) f = absurd cc

pub no_kind : (k : List ℕ) → kind_of k ≡ None → is_library_cell k ≡ false
unfolding is_library_cell
no_kind k e = ap is_some e

pub kind_is : (c : Cell) → cell_kind c ≡ kind_of c.kind_name
unfolding cell_kind
kind_is c = refl

pub instance_there : (cells : List Cell) (c : Cell) → In c cells → cell_kind c ≡ None → In (frame c.name c.kind_name) (instances cells)
instance_there cells c i e = instance_in cells c i e

module _ (ms : List Module) (cells : List Cell) (l : Module) where
  -- one of the instances is of this module
  abbrev pub IsInstance : Type 0
  IsInstance = (f : Frame) × In f (instances cells) × (named ms f.module_name ≡ Some l)

  pub to_frame : In l (instances_of ms cells) → IsInstance
  to_frame i =
      let k = instance_from ms cells l i in
      let c : Cell = k.0 in
      let q = of_module ms c.kind_name l k.2 in
      (frame c.name c.kind_name, instance_in cells c k.1 (kind_is c ∙ not_library c.kind_name q.0), sym (named_is ms c.kind_name) ∙ q.1)

  pub from_frame : IsInstance → In l (instances_of ms cells)
  from_frame h =
      let f : Frame = h.0 in
      let x = instance_cell cells f h.1 in
      let name : f.module_name ≡ x.0.kind_name = ap (λ (z : Frame). z.module_name) x.3 in
      instance_to ms cells l (x.0, x.1, is_of ms x.0.kind_name (Some l) (no_kind x.0.kind_name (sym (kind_is x.0) ∙ x.2)) (named_is ms x.0.kind_name ∙ ap (named ms) (sym name) ∙ h.2))

-- ---- accepted designs

module _ (d : Design) (readable : IsReadable d) (none : check_faults d.modules ≡ []) where
  pub own_names : Distinct (names d.modules)
  own_names = (sound d readable).ids

  pub found : (n : Module) → In n d.modules → module_named d.modules n.id ≡ Some n
  found n i = found_own d.modules own_names n i

  no_recursion : recursion_faults d.modules ≡ []
  no_recursion = (none_parts _ (recursion_faults d.modules) none).second

  -- no module leads to itself
  pub never_back : (n : Module) → In n d.modules → (k : ℕ) → Leads d.modules k n.cells n → ⊥
  never_back n i k h = unrecursive d.modules no_recursion n (found n i) k h

  module _ (cells : List Cell) where
    abbrev pub under : List Module
    under = reached_of d.modules cells

    abbrev test : Module → Bool
    test m = leads_to (length d.modules) d.modules cells m.id

    pub under_names : Distinct (names under)
    under_names = (sound (record { modules = under }) (readable_reached d readable cells)).ids

    pub under_from : (n : Module) → In n under → In n d.modules × Leads d.modules (length d.modules) cells n
    under_from n i =
        let k = left_from test d.modules n (ordered_from (filter test d.modules) n i) in
        (k.0, leads_true d.modules (length d.modules) cells n (found n k.0) k.1)

    pub under_to : (n : Module) (k : ℕ) → Leads d.modules k cells n → In n under
    under_to n k h =
        let inside = found_in d.modules n.id n (leads_named d.modules k cells n h) in
        in_ordered (filter test d.modules) (left_distinct test d.modules own_names) n
        (left_to test d.modules n inside (true_leads d.modules (length d.modules) cells n (leads_cut d.modules k cells n h)))

    -- other cells that lead nowhere else
    abbrev pub IsClosed : List Cell → Type 0
    IsClosed others = (l : Module) → In l (instances_of d.modules others) → In l under

    pub own_closed : IsClosed cells
    own_closed l i = under_to l 1 (l, i, inl refl)

    pub under_closed : (n : Module) → In n under → IsClosed n.cells
    under_closed n i l j = under_to l (suc (length d.modules)) (leads_on d.modules (length d.modules) cells n l (under_from n i).1 j)

    -- their types name the same modules
    pub same_named : (others : List Cell) → IsClosed others → (c : Cell) → In c others → is_library_cell c.kind_name ≡ false → module_named under c.kind_name ≡ module_named d.modules c.kind_name
    same_named others closed c i other = by (module_named d.modules c.kind_name) refl
      where
        by : (o : Option Module) → module_named d.modules c.kind_name ≡ o → module_named under c.kind_name ≡ o
        by (Some l) q =
            let there = instance_to d.modules others l (c, i, is_of d.modules c.kind_name (Some l) other q) in
            ap (module_named under) (sym (found_name d.modules c.kind_name l q)) ∙ found_own under under_names l (closed l there)
        by None q = no (module_named under c.kind_name) refl
          where
            no : (o : Option Module) → module_named under c.kind_name ≡ o → module_named under c.kind_name ≡ None
            no None r = r
            no (Some x) r =
                let inside = (under_from x (found_in under c.kind_name x r)).0 in
                let both : None ≡ Some x = sym q ∙ ap (module_named d.modules) (sym (found_name under c.kind_name x r)) ∙ found x inside in
                absurd cc

    same_instance : (others : List Cell) → IsClosed others → NameSame under d.modules others
    same_instance others closed c i = by (is_library_cell c.kind_name) refl
      where
        by : (t : Bool) → is_library_cell c.kind_name ≡ t → cond t None (module_named under c.kind_name) ≡ cond t None (module_named d.modules c.kind_name)
        by true q = refl
        by false q = same_named others closed c i q

    pub same_table : (n : Module) → IsClosed n.cells → table_of under n ≡ table_of d.modules n
    same_table n closed = ap (λ ns. record { modules = map ports_by_module ns }) (same_instances under d.modules n.cells (same_instance n.cells closed))

  -- a module is none of those that it reaches
  pub apart : (m : Module) → In m d.modules → (n : Module) → In n (reached_of d.modules m.cells) → n.id ≡ m.id → ⊥
  apart m i n j e =
      let k = under_from m.cells n j in
      let same : n ≡ m = one_found (module_named d.modules m.id) n m (ap (module_named d.modules) (sym e) ∙ found n k.0) (found m i) in
      never_back m i (length d.modules) (subst (Leads d.modules (length d.modules) m.cells) same k.1)
