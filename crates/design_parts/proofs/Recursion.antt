-- Where no module of a design reaches itself, none does in a part.
use Rattle.std.proofs.Common.{◌≡◌, ℕ, zero, suc, ◌+◌, Bool, true, false, cond, ◌==◌, ◌||◌, not, List, [], ◌∷◌, length, get_or, Option, Some, None, inl, inr, ⊎_elim, refl, sym, ◌∙◌, ap, subst, arith}
use Rattle.std.specs.Prelude.{filter, filter_map, map, nat_lt, option_map, slice_get}
use Rattle.std.specs.List.{cons_option, prefix_len, range_with_len}
use Rattle.std.specs.Str.{bytes_eq}
use Rattle.std.proofs.lemmas.Bool.Decides.{nat_tests}
use Rattle.rtl_ir.specs.declared.cell.Cell.{Cell}
use Rattle.rtl_ir.specs.declared.module.Module.{Module}
use Rattle.rtl_ir.specs.Fault.{Recursion, fault_if}
use Rattle.rtl_ir.specs.Faults.Recursion.{id_at, instance_graph, instance_place, instance_places, is_recursive, leads_within, place_named, recursion_faults}
use Rattle.rtl_ir.specs.Ports.{instances_of, is_library_cell}
use Rattle.rtl_ir.specs.Types.{module_named}
use Rattle.rtl_ir.proofs.NameOrder.{no_cells}
use Rattle.net_model.specs.Lists.{Distinct, In}
use Rattle.net_model.proofs.Members.{In-mapped}
use Rattle.script_core.specs.declared.word.Word.{Word}
use Rattle.script_core.proofs.Instancing.{any_found, instance_from, instance_to, is_of, of_module, one_found}
use Rattle.script_core.proofs.Leading.{Leads, leads_named}
use Rattle.script_core.proofs.Unrecursive.{unrecursive}
use Rattle.design_parts.specs.Parts.{has_name, part, shown}
use Rattle.design_parts.proofs.Faces.{shown_cells, shown_id}
use Rattle.design_parts.proofs.Filters.{each_none, filtered_in, got_in}
use Rattle.design_parts.proofs.Names.{named_once}
use Rattle.design_parts.proofs.Outcomes.{either}
use Rattle.design_parts.proofs.Types.{part_kept, part_left}

-- ---- chains in the graph of a design are chains of modules

from_filter_map : {A B : Type 0} (h : A → Option B) (xs : List A) (y : B) → In y (filter_map h xs) → (x : A) × In x xs × (h x ≡ Some y)
from_filter_map {A} {B} h [] y i = absurd i
from_filter_map {A} {B} h (x ∷ xs) y i = by (h x) refl i (from_filter_map h xs y)
  where
    by : (o : Option B) → h x ≡ o → In y (cons_option o (filter_map h xs)) → (In y (filter_map h xs) → (z : A) × In z xs × (h z ≡ Some y)) → (z : A) × In z (x ∷ xs) × (h z ≡ Some y)
    by None e j later = let k = later j in (k.0, inr k.1, k.2)
    by (Some z) e (inl f) later = (x, inl refl, e ∙ ap Some (sym f))
    by (Some z) e (inr j) later = let k = later j in (k.0, inr k.1, k.2)

from_row : (f : Module → List ℕ) (ns : List Module) (i z : ℕ) → In z (get_or (map f ns) i []) → (x : Module) × (slice_get ns i ≡ Some x) × In z (f x)
from_row f [] i z j = absurd j
from_row f (n ∷ ns) zero z j = (n, refl, j)
from_row f (n ∷ ns) (suc i) z j = from_row f ns i z j

less_back : (p n : ℕ) → nat_lt (1 + p) (suc n) ≡ true → nat_lt p n ≡ true
less_back p n e = grind (arith, nat_tests)

module _ (ms : List Module) where
  -- the place of a name is that of the first module of the name
  AtPlace : List Module → List ℕ → ℕ → Type 0
  AtPlace ns id z = (l : Module) × (slice_get ns z ≡ Some l) × (module_named ns id ≡ Some l)

  placed : (ns : List Module) (id : List ℕ) → nat_lt (prefix_len (λ (m : Module). not (bytes_eq m.id id)) ns) (length ns) ≡ true
      → (l : Module) × (slice_get ns (prefix_len (λ (m : Module). not (bytes_eq m.id id)) ns) ≡ Some l) × (module_named ns id ≡ Some l)
  placed [] id e = absurd cc
  placed (m ∷ ns) id e = by (bytes_eq m.id id) (placed ns id) e
    where
      first : ℕ
      first = prefix_len (λ (n : Module). not (bytes_eq n.id id)) ns

      by : (t : Bool)
          → (nat_lt (prefix_len (λ (n : Module). not (bytes_eq n.id id)) ns) (length ns) ≡ true → (l : Module) × (slice_get ns (prefix_len (λ (n : Module). not (bytes_eq n.id id)) ns) ≡ Some l) × (module_named ns id ≡ Some l))
          → nat_lt (cond (not t) (1 + prefix_len (λ (n : Module). not (bytes_eq n.id id)) ns) 0) (suc (length ns)) ≡ true
          → (l : Module) × (slice_get (m ∷ ns) (cond (not t) (1 + prefix_len (λ (n : Module). not (bytes_eq n.id id)) ns) 0) ≡ Some l) × (cond t (Some m) (module_named ns id) ≡ Some l)
      by true later f = (m, refl, refl)
      by false later f =
          let p : ℕ = prefix_len (λ (n : Module). not (bytes_eq n.id id)) ns in
          let k = later (less_back p (length ns) f) in
          let plus : suc p ≡ 1 + p = omega arith in
          (k.0, subst (λ z. slice_get (m ∷ ns) z ≡ Some k.0) plus k.1, k.2)

  place_is : (id : List ℕ) (z : ℕ) → place_named ms id ≡ Some z → (l : Module) × (slice_get ms z ≡ Some l) × (module_named ms id ≡ Some l)
  place_is id z e = by (nat_lt (prefix_len (λ (m : Module). not (bytes_eq m.id id)) ms) (length ms)) refl e
    where
      by : (t : Bool) → nat_lt (prefix_len (λ (m : Module). not (bytes_eq m.id id)) ms) (length ms) ≡ t
          → cond t (Some (prefix_len (λ (m : Module). not (bytes_eq m.id id)) ms)) None ≡ Some z
          → (l : Module) × (slice_get ms z ≡ Some l) × (module_named ms id ≡ Some l)
      by false q f = absurd cc
      by true q f =
          let k = placed ms id q in
          let same : prefix_len (λ (m : Module). not (bytes_eq m.id id)) ms ≡ z = cc in
          (k.0, subst (λ y. slice_get ms y ≡ Some k.0) same k.1, k.2)

  -- the modules that a module has instances of, by their places
  instance_at : (cells : List Cell) (z : ℕ) → In z (instance_places ms cells) → (l : Module) × (slice_get ms z ≡ Some l) × In l (instances_of ms cells)
  instance_at cells z i =
      let c = from_filter_map (λ (d : Cell). instance_place ms d.kind_name) cells z i in
      by c.0 c.1 (is_library_cell c.0.kind_name) refl c.2
    where
      by : (c : Cell) → In c cells → (t : Bool) → is_library_cell c.kind_name ≡ t → cond t None (place_named ms c.kind_name) ≡ Some z → (l : Module) × (slice_get ms z ≡ Some l) × In l (instances_of ms cells)
      by c j true q f = absurd cc
      by c j false q f =
          let k = place_is c.kind_name z f in
          (k.0, k.1, instance_to ms cells k.0 (c, j, is_of ms c.kind_name (Some k.0) q k.2))

  chain : (k i j : ℕ) → leads_within (instance_graph ms) k i j ≡ true
      → (x : Module) × (slice_get ms i ≡ Some x) × ((y : Module) × (slice_get ms j ≡ Some y) × Leads ms k x.cells y)
  chain zero i j e = absurd cc
  chain (suc k) i j e =
      let one = any_found (λ z. (z == j) || leads_within (instance_graph ms) k z j) (get_or (instance_graph ms) i []) e in
      let z : ℕ = one.0 in
      let x = from_row (λ (m : Module). instance_places ms m.cells) ms i z one.1 in
      let l = instance_at x.0.cells z x.2 in
      ⊎_elim
      (λ q. let same : z ≡ j = ends z j q in (x.0, x.1, (l.0, subst (λ p. slice_get ms p ≡ Some l.0) same l.1, (l.0, l.2, inl refl))))
      (λ q.
      let more = chain k z j q in
      let same : more.0 ≡ l.0 = one_found (slice_get ms z) more.0 l.0 more.1 l.1 in
      (x.0, x.1, (more.2.0, more.2.1, (l.0, l.2, inr (subst (λ (m : Module). Leads ms k m.cells more.2.0) same more.2.2)))))
      (either (z == j) (leads_within (instance_graph ms) k z j) one.2)
    where
      ends : (z p : ℕ) → (z == p) ≡ true → z ≡ p
      ends z p q = grind (arith, nat_tests)

  -- so no module reaches itself where none has a chain to itself
  pub none_recursive : ((k : ℕ) (x : Module) → In x ms → Leads ms k x.cells x → ⊥) → recursion_faults ms ≡ []
  none_recursive h = each_none (λ at. fault_if (is_recursive ms at) (Recursion (id_at ms at))) (range_with_len 0 (length ms)) (λ at i. by at (is_recursive ms at) refl)
    where
      by : (at : ℕ) (t : Bool) → is_recursive ms at ≡ t → fault_if t (Recursion (id_at ms at)) ≡ []
      by at false e = refl
      by at true e =
          let c = chain (length ms) at at e in
          let same : c.2.0 ≡ c.0 = one_found (slice_get ms at) c.2.0 c.0 c.2.1 c.1 in
          absurd (h (length ms) c.0 (got_in ms at c.0 c.1) (subst (Leads ms (length ms) c.0.cells) same c.2.2))

-- ---- chains in a part are chains in the design

no_lead : (ns : List Module) (k : ℕ) (n : Module) → Leads ns k [] n → ⊥
no_lead ns zero n h = h
no_lead ns (suc k) n h = subst (In h.0) (no_cells ns) h.1

module _ (script : List Word) (own : List ℕ → Bool) (ms : List Module) where
  -- cells with instances as a module that is shown, or with none, lead where the module does
  as_shown : (k : ℕ) (m n : Module) → Leads ms k (shown script own m).cells n → Leads ms k m.cells n
  as_shown k m n h =
      ⊎_elim
      (λ e. subst (λ (cells : List Cell). Leads ms k cells n) e h)
      (λ e. absurd (no_lead ms k n (subst (λ (cells : List Cell). Leads ms k cells n) e h)))
      (shown_cells script own m)

  -- an instance of a part is one of the design
  instance_shown : (cells : List Cell) (l : Module) → In l (instances_of (part script own ms) cells) → (y : Module) × (l ≡ shown script own y) × In y (instances_of ms cells)
  instance_shown cells l i =
      let c = instance_from (part script own ms) cells l i in
      let q = of_module (part script own ms) c.0.kind_name l c.2 in
      by c.0 c.1 q.0 q.1 (has_name script own ms c.0.kind_name) refl (module_named ms c.0.kind_name) refl
    where
      by : (c : Cell) → In c cells → is_library_cell c.kind_name ≡ false → module_named (part script own ms) c.kind_name ≡ Some l
          → (t : Bool) → has_name script own ms c.kind_name ≡ t → (o : Option Module) → module_named ms c.kind_name ≡ o
          → (y : Module) × (l ≡ shown script own y) × In y (instances_of ms cells)
      by c j q e false f o g =
          let no : None ≡ Some l = sym (part_left script own ms c.kind_name f) ∙ e in
          absurd cc
      by c j q e true f None g =
          let no : None ≡ Some l = sym (part_kept script own ms c.kind_name f ∙ ap (option_map (shown script own)) g) ∙ e in
          absurd cc
      by c j q e true f (Some y) g =
          let both : Some (shown script own y) ≡ Some l = sym (part_kept script own ms c.kind_name f ∙ ap (option_map (shown script own)) g) ∙ e in
          let same : l ≡ shown script own y = cc in
          (y, same, instance_to ms cells y (c, j, is_of ms c.kind_name (Some y) q g))

  down : (k : ℕ) (cells : List Cell) (n : Module) → Leads (part script own ms) k cells n → (y : Module) × (n ≡ shown script own y) × Leads ms k cells y
  down zero cells n h = absurd h
  down (suc k) cells n h =
      let y = instance_shown cells h.0 h.1 in
      ⊎_elim
      (λ e. (y.0, sym e ∙ y.1, (y.0, y.2, inl refl)))
      (λ r.
      let more = down k h.0.cells n r in
      let there : Leads ms k (shown script own y.0).cells more.0 = subst (λ (m : Module). Leads ms k m.cells more.0) y.1 more.2 in
      (more.0, more.1, (y.0, y.2, inr (as_shown k y.0 more.0 there))))
      h.2

  pub part_unrecursive : Distinct (map (λ (m : Module). m.id) ms) → recursion_faults ms ≡ [] → recursion_faults (part script own ms) ≡ []
  part_unrecursive u none = none_recursive (part script own ms) (λ k x i h. absurd (no k x i h))
    where
      no : (k : ℕ) (x : Module) → In x (part script own ms) → Leads (part script own ms) k x.cells x → ⊥
      no k x i h =
          let m = In-mapped (shown script own) x (filter (λ (n : Module). has_name script own ms n.id) ms) i in
          let there = filtered_in (λ (n : Module). has_name script own ms n.id) m.0 ms m.1 in
          let named = named_once ms u m.0 there.0 in
          let y = down k x.cells x h in
          let on : Leads ms k m.0.cells y.0 = as_shown k m.0 y.0 (subst (λ (n : Module). Leads ms k n.cells y.0) m.2 y.2) in
          let ids : y.0.id ≡ m.0.id = sym (shown_id script own y.0) ∙ ap (λ (n : Module). n.id) (sym y.1 ∙ m.2) ∙ shown_id script own m.0 in
          let same : y.0 ≡ m.0 = one_found (module_named ms m.0.id) y.0 m.0 (ap (module_named ms) (sym ids) ∙ leads_named ms k m.0.cells y.0 on) named in
          unrecursive ms none m.0 named k (subst (Leads ms k m.0.cells) same on)
