-- In a design without faults no module leads to itself.
use Rattle.std.proofs.Common.{◌≡◌, ℕ, zero, suc, ◌+◌, ◌<◌, Bool, true, false, cond, ◌==◌, ◌||◌, not, List, [], ◌∷◌, ◌++◌, length, get_or, Option, Some, None, inl, inr, ⊎_elim, refl, sym, ◌∙◌, ap, subst, arith, eq-eqb, lt-ltb}
use Rattle.std.specs.Prelude.{filter_map, flat_map, map, nat_lt, slice_get}
use Rattle.std.specs.List.{cons_option, list_any, prefix_len, range_with_len}
use Rattle.std.specs.Str.{bytes_eq}
use Rattle.rtl_ir.specs.declared.cell.Cell.{Cell}
use Rattle.rtl_ir.specs.declared.module.Module.{Module}
use Rattle.rtl_ir.specs.Fault.{Fault, Recursion, fault_if}
use Rattle.rtl_ir.specs.Faults.Recursion.{id_at, instance_graph, instance_place, instance_places, is_recursive, leads_within, place_named, recursion_faults}
use Rattle.rtl_ir.specs.Types.{module_named}
use Rattle.net_model.specs.Lists.{In}
use Rattle.check_laws.proofs.Counting.{none_each, range_in}
use Rattle.script_core.proofs.Instancing.{any_there, instance_from, instance_named, of_module}
use Rattle.script_core.proofs.Leading.{Leads, leads_cut, or_right}

map_at : {A B : Type 0} (f : A → B) (xs : List A) (i : ℕ) (x : A) (d : B) → slice_get xs i ≡ Some x → get_or (map f xs) i d ≡ f x
map_at f [] i x d e = absurd cc
map_at f (y ∷ ys) zero x d e = let same : y ≡ x = cc in ap f same
map_at f (y ∷ ys) (suc i) x d e = map_at f ys i x d e

in_filter_map : {A B : Type 0} (h : A → Option B) (xs : List A) (x : A) (y : B) → In x xs → h x ≡ Some y → In y (filter_map h xs)
in_filter_map {A} {B} h [] x y i e = absurd i
in_filter_map {A} {B} h (z ∷ zs) x y (inl f) e =
    subst (λ o. In y (cons_option o (filter_map h zs))) (sym e ∙ ap h f) (inl refl)
in_filter_map {A} {B} h (z ∷ zs) x y (inr i) e = by (h z) (in_filter_map h zs x y i e)
  where
    by : (o : Option B) → In y (filter_map h zs) → In y (cons_option o (filter_map h zs))
    by None later = later
    by (Some w) later = inr later

module _ (ms : List Module) where
  -- the module stands at a place, the first of its name
  abbrev IsAt : Module → ℕ → Type 0
  IsAt l i = (place_named ms l.id ≡ Some i) × (slice_get ms i ≡ Some l) × (i < length ms)

  place_from : (ns : List Module) (id : List ℕ) (l : Module) → module_named ns id ≡ Some l
      → (i : ℕ) × (prefix_len (λ (m : Module). not (bytes_eq m.id id)) ns ≡ i) × (slice_get ns i ≡ Some l) × (i < length ns)
  place_from [] id l e = absurd cc
  place_from (m ∷ ns) id l e = by (bytes_eq m.id id) (place_from ns id l) e
    where
      by : (t : Bool)
          → (module_named ns id ≡ Some l → (i : ℕ) × (prefix_len (λ (n : Module). not (bytes_eq n.id id)) ns ≡ i) × (slice_get ns i ≡ Some l) × (i < length ns))
          → cond t (Some m) (module_named ns id) ≡ Some l
          → (i : ℕ) × (cond (not t) (1 + prefix_len (λ (n : Module). not (bytes_eq n.id id)) ns) 0 ≡ i) × (slice_get (m ∷ ns) i ≡ Some l) × (i < suc (length ns))
      by true later f = (0, refl, f, omega arith)
      by false later f =
          let k = later f in
          let at = k.1 in
          let within = k.3 in
          (suc k.0, omega (arith, at), k.2, omega (arith, within))

  place_of : (l : Module) → module_named ms l.id ≡ Some l → (i : ℕ) × IsAt l i
  place_of l e =
      let k = place_from ms l.id l e in (
        k.0,
        (
          (λ j. cond (nat_lt (k.1 j) (length ms)) (Some (k.1 j)) None) ∙ ap (λ t. cond t (Some k.0) None) (lt-ltb k.0 (length ms) k.3),
          k.2,
          k.3,
        ),
      )

  leads_there : (k : ℕ) (l n : Module) (i j : ℕ) → IsAt l i → IsAt n j → Leads ms k l.cells n → leads_within (instance_graph ms) k i j ≡ true
  leads_there zero l n i j at to h = absurd h
  leads_there (suc k) l n i j at to h =
      let x : Module = h.0 in
      let c = instance_from ms l.cells x h.1 in
      let q = of_module ms c.0.kind_name x c.2 in
      let y = place_of x (instance_named ms l.cells x h.1) in
      let named : instance_place ms c.0.kind_name ≡ Some y.0 = ap (λ t. cond t None (place_named ms c.0.kind_name)) q.0 ∙ ap (place_named ms) (sym q.2) ∙ y.1.0 in
      let there : In y.0 (instance_places ms l.cells) = in_filter_map (λ (d : Cell). instance_place ms d.kind_name) l.cells c.0 y.0 c.1 named in
      let row : get_or (instance_graph ms) i [] ≡ instance_places ms l.cells = map_at (λ (m : Module). instance_places ms m.cells) ms i l [] at.1 in
      any_there (λ z. (z == j) || leads_within (instance_graph ms) k z j) (get_or (instance_graph ms) i []) y.0 (subst (In y.0) (sym row) there)
      (⊎_elim
      (λ e. let both : Some y.0 ≡ Some j = sym y.1.0 ∙ ap (λ (z : Module). place_named ms z.id) e ∙ to.0 in
      let same : y.0 ≡ j = cc in
      ap (λ t. t || leads_within (instance_graph ms) k y.0 j) (eq-eqb y.0 j same))
      (λ r. or_right (y.0 == j) (leads_within (instance_graph ms) k y.0 j) (leads_there k x n y.0 j y.1 to r))
      h.2)

  pub unrecursive : recursion_faults ms ≡ [] → (l : Module) → module_named ms l.id ≡ Some l → (k : ℕ) → Leads ms k l.cells l → ⊥
  unrecursive none l e k h =
      let at = place_of l e in
      let back : is_recursive ms at.0 ≡ true = leads_there (length ms) l l at.0 at.0 at.1 at.1 (leads_cut ms k l.cells l h) in
      let here : In (0 + at.0) (range_with_len 0 (length ms)) = range_in 0 (length ms) at.0 at.1.2 in
      let plain : 0 + at.0 ≡ at.0 = omega arith in
      let fine : fault_if (is_recursive ms at.0) (Recursion (id_at ms at.0)) ≡ [] = none_each (λ i. fault_if (is_recursive ms i) (Recursion (id_at ms i))) (range_with_len 0 (length ms)) none at.0 (subst (λ z. In z (range_with_len 0 (length ms))) plain here) in
      let bad : fault_if true (Recursion (id_at ms at.0)) ≡ [] = ap (λ t. fault_if t (Recursion (id_at ms at.0))) (sym back) ∙ fine in
      absurd cc
