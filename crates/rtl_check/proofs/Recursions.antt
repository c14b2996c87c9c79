-- The faults of recursion, one module after the other.
use Rattle.std.proofs.Common.{◌≡◌, ℕ, suc, ◌+◌, ◌-◌, ◌<◌, Bool, true, false, cond, List, [], ◌∷◌, length, get_or, map, Some, None, Vec, Global, refl, sym, ◌∙◌, ap, subst, arith, zero, ⊎_elim, nat_lt, Option}
use Rattle.std.proofs.lemmas.Bool.Decides.{nat_tests}
use Rattle.std.proofs.lemmas.List.{length-map}
use Rattle.std.specs.Str.{bytes_eq}
use Rattle.std.specs.List.{position_or_len}
use Rattle.rtl_ir.specs.declared.cell.Cell.{Cell}
use Rattle.rtl_ir.specs.declared.module.Module.{Module}
use Rattle.rtl_ir.specs.Faults.Recursion.{id_at, instance_graph, instance_place, instance_places, is_recursive, leads_within, place_named, recursion_faults}
use Rattle.rtl_check.specs.declared.fault.CheckFault.TheVariants as check
use Rattle.rtl_check.specs.Finds.{first_answer}
use Rattle.rtl_check.specs.Places.{faults_from}
use Rattle.rtl_ir.specs.Ports.{is_library_cell}
use Rattle.process_check.proofs.Searches.{length-rows}
use Rattle.process_check.specs.Search.{In, IsGraph, followers, rows_of}

-- a place with a recursion is the first, where those before have none
pub recursion_here : (modules : List Module) (at : ℕ) → at < length modules → is_recursive modules at ≡ true → faults_from modules at (length modules - at) ≡ recursion_faults modules
    → first_answer (recursion_faults modules) ≡ Some (check.Recursion (id_at modules at))
recursion_here modules at h e same =
    let more : length modules - at ≡ suc (length modules - suc at) = omega arith in
    ap first_answer (sym same) ∙ ap (λ n. first_answer (faults_from modules at n)) more ∙ rw e refl

pub recursion_next : (modules : List Module) (at : ℕ) → at < length modules → is_recursive modules at ≡ false → faults_from modules at (length modules - at) ≡ recursion_faults modules
    → faults_from modules (at + 1) (length modules - (at + 1)) ≡ recursion_faults modules
recursion_next modules at h e same =
    let more : length modules - at ≡ suc (length modules - (at + 1)) = omega arith in
    let without : faults_from modules at (suc (length modules - (at + 1))) ≡ faults_from modules (at + 1) (length modules - (at + 1)) = rw e refl in
    sym without ∙ ap (faults_from modules at) (sym more) ∙ same

-- a place that may be there, and then others
abbrev with_first : Option ℕ → List ℕ → List ℕ
with_first None places = places
with_first (Some place) places = place ∷ places

named_within : (modules : List Module) (type : List ℕ) (k : ℕ) → place_named modules type ≡ Some k → k < length modules
named_within modules type k e = by (nat_lt (position_or_len (λ m. bytes_eq m.id type) modules) (length modules)) refl
  where
    by : (b : Bool) → nat_lt (position_or_len (λ m. bytes_eq m.id type) modules) (length modules) ≡ b → k < length modules
    by true h =
        let same : Some (position_or_len (λ m. bytes_eq m.id type) modules) ≡ Some k = sym (ap (λ c. cond c (Some (position_or_len (λ m. bytes_eq m.id type) modules)) None) h) ∙ e in
        grind (arith, nat_tests)
    by false h =
        let same : None ≡ Some k = sym (ap (λ c. cond c (Some (position_or_len (λ m. bytes_eq m.id type) modules)) None) h) ∙ e in
        absurd (cc)

instance_within : (modules : List Module) (type : List ℕ) (k : ℕ) → instance_place modules type ≡ Some k → k < length modules
instance_within modules type k e = by (is_library_cell type) refl
  where
    by : (b : Bool) → is_library_cell type ≡ b → k < length modules
    by true h = absurd (none_some (sym (ap (λ c. cond c None (place_named modules type)) h) ∙ e))
      where
        none_some : None ≡ Some k → ⊥
        none_some same = absurd (cc)
    by false h = named_within modules type k (sym (ap (λ c. cond c None (place_named modules type)) h) ∙ e)

places_within : (modules : List Module) (cells : List Cell) (k : ℕ) → In k (instance_places modules cells) → k < length modules
places_within modules [] k i = absurd i
places_within modules (c ∷ cells) k i = by (instance_place modules c.kind_name) refl (places_within modules cells k)
  where
    row : (o : Option ℕ) → instance_place modules c.kind_name ≡ o → instance_places modules (c ∷ cells) ≡ with_first o (instance_places modules cells)
    row None e = rw e refl
    row (Some j) e = rw e refl

    by : (o : Option ℕ) → instance_place modules c.kind_name ≡ o → (In k (instance_places modules cells) → k < length modules) → k < length modules
    by None e h = h (subst (In k) (row None e) i)
    by (Some j) e h = ⊎_elim
        (λ same. instance_within modules c.kind_name k (e ∙ ap Some (sym same)))
        h
        (subst (In k) (row (Some j) e) i)

rows_within : (all modules : List Module) (i k : ℕ) → In k (followers (map (λ (m : Module). instance_places all m.cells) modules) i) → k < length all
rows_within all [] i k h = absurd h
rows_within all (m ∷ modules) zero k h = places_within all m.cells k h
rows_within all (m ∷ modules) (suc i) k h = rows_within all modules i k h

-- the graph of the instances has its places among those of the modules
pub graph_is : (modules : List Module) (graph : List (Vec ℕ Global)) → rows_of graph ≡ instance_graph modules → IsGraph (rows_of graph)
graph_is modules graph e =
    subst IsGraph (sym e) (λ i k h. subst (λ n. k < n) (sym (length-map modules (λ (m : Module). instance_places modules m.cells))) (rows_within modules modules i k h))

-- whether a chain leads back, in the graph that stands for the modules
pub recursive_is : (modules : List Module) (graph : List (Vec ℕ Global)) → rows_of graph ≡ instance_graph modules → (at : ℕ) (back : Bool) → back ≡ leads_within (rows_of graph) (length graph) at at
    → back ≡ is_recursive modules at
recursive_is modules graph e at back h =
    let size : length graph ≡ length modules = sym (length-rows graph) ∙ ap length e ∙ length-map modules (λ (m : Module). instance_places modules m.cells) in
    h ∙ (λ i. leads_within (e i) (size i) at at)

-- the name of the module at a place
pub id_is : (modules : List Module) (at : ℕ) (m : Module) → at < length modules → (id : List ℕ) → id ≡ (get_or modules at m).id → id_at modules at ≡ id
id_is [] at m h id same = absurd (omega arith)
id_is (n ∷ modules) zero m h id same = sym same
id_is (n ∷ modules) (suc at) m h id same = id_is modules at m (omega arith) id same
