-- After the first cells no cell is one of a memory.
use Rattle.std.proofs.Common.{◌≡◌, ℕ, ◌≤◌, Bool, true, false, cond, List, [], ◌∷◌, ◌++◌, length, get_or, ltb, take, drop, Some, ⊎_elim, inl, inr, refl, sym, ◌∙◌, ap, subst, append_assoc, arith}
use Rattle.std.specs.Prelude.{◌==◌, ◌&&◌, filter, min, not, slice_get}
use Rattle.std.proofs.Math.Seq.{drop-append_seam}
use Rattle.std.proofs.lemmas.Bool.{ltb-false, ltb-true}
use Rattle.std.proofs.lemmas.List.{take-append-drop, take_all}
use Rattle.std.proofs.lemmas.List.Elements.{filter-append}
use Rattle.cell_types.specs.declared.kind.CellKind.{CellKind}
use Rattle.cell_types.specs.declared.kind.CellKind.TheVariants as Cells
use Rattle.rtl_ir.specs.Build.{building_of}
use Rattle.rtl_ir.specs.Faults.Cells as faults
use Rattle.rtl_ir.specs.Flat.Cell.{cell_kind}
use Rattle.rtl_ir.specs.WritePorts.{is_of_memory}
use Rattle.rtl_ir.specs.declared.cell.Cell.{Cell}
use Rattle.rtl_ir.specs.declared.module.Module.{Module}
use Rattle.rtl_ir.specs.declared.plan.MemPlan.{MemPlan}
use Rattle.rtl_ir.specs.declared.store.Store.{Store}
use Rattle.net_model.proofs.Members.{In-cases}
use Rattle.net_model.proofs.MemoryCells.{IsPlain}
use Rattle.net_model.specs.Lists.{In}
use Rattle.net_model.specs.Mem.Expand.{expanded_memory, is_memory_kind, memory_step}
use Rattle.net_model.specs.Within.{Each}
use Rattle.build_laws.proofs.Growing.{IsPlainCell}
use Rattle.memory_laws.proofs.MadeSteps.{memory_makes}
use Rattle.net_model.specs.Mem.Gather.{plan_of}
use Rattle.mem_map.specs.Limits.{planned_store}
use Rattle.mem_steps.proofs.Turns.{store_is}
use Rattle.mem_steps.specs.Staying.{stays}

-- a cell that is added is none of a memory
plain_kind : (kind : CellKind) → faults.is_memory_kind kind ≡ false → is_memory_kind (Some kind) ≡ false
plain_kind (Cells.Word k) e = refl
plain_kind (Cells.Gate k) e = refl
plain_kind (Cells.Storage k) e = refl
plain_kind (Cells.StorageGate k) e = refl
plain_kind (Cells.Memory k) e = absurd (cc)

plain_cell : (c : Cell) → IsPlainCell c → IsPlain c
plain_cell c is = ap is_memory_kind is.is ∙ plain_kind is.kind is.plain

in_filter : {A : Type 0} (p : A → Bool) (x : A) (xs : List A) → In x (filter p xs) → In x xs
in_filter p x [] i = i
in_filter p x (y ∷ ys) i = by (p y) (in_filter p x ys) i
  where
    by : (t : Bool) → (In x (filter p ys) → In x ys) → In x (cond t (y ∷ filter p ys) (filter p ys)) → In x (y ∷ ys)
    by true further (inl e) = inl e
    by true further (inr j) = inr (further j)
    by false further j = inr (further j)

module _ {A : Type 0} (p : A → Bool) (P : A → Type 0) (count : ℕ) (xs more : List A) where
  abbrev first : List A
  first = filter p (take count xs)

  parts : drop (length first) (filter p (xs ++ more)) ≡ filter p (drop count xs) ++ filter p more
  parts =
      ap (λ ys. drop (length first) ys)
      (filter-append p xs more
      ∙ ap (λ ys. ys ++ filter p more) (ap (filter p) (sym (take-append-drop count xs)) ∙ filter-append p (take count xs) (drop count xs))
      ∙ append_assoc first (filter p (drop count xs)) (filter p more))
      ∙ drop-append_seam first (filter p (drop count xs) ++ filter p more)

  pub each_rest : Each P (drop count xs) → Each P more → Each P (drop (length first) (filter p (xs ++ more)))
  each_rest left new x i =
      ⊎_elim (λ j. left x (in_filter p x (drop count xs) j)) (λ j. new x (in_filter p x more j)) (In-cases x (filter p (drop count xs)) (filter p more) (subst (In x) parts i))

-- as many of the first cells as are left of them stand first in the module after a memory
pub rest_plain : (m : Module) (plan : MemPlan) (s : Store) (count : ℕ) → Each IsPlain (drop count m.cells) → Each IsPlain (drop (length (filter (stays s) (take count m.cells))) (expanded_memory m plan s).cells)
rest_plain m plan s count plain =
    let made = memory_makes plan s (building_of m) in
    let cells : (memory_step plan s (building_of m)).body.cells ≡ m.cells ++ made.cells = ap (λ (n : Module). n.cells) made.body in
    subst (λ cs. Each IsPlain (drop (length (filter (stays s) (take count m.cells))) (filter (stays s) cs))) (sym cells)
    (each_rest (stays s) IsPlain count m.cells made.cells plain (λ c i. plain_cell c (made.plain c i)))

-- the same of the module that the first memory leaves
pub next_plain : (m : Module) (plan : MemPlan) → Some plan ≡ plan_of m 0 → (length m.memories == 0) ≡ false → (n : Module) → n ≡ expanded_memory m plan (planned_store m plan)
    → (count left : ℕ) → Each IsPlain (drop count m.cells) → ((s : Store) → slice_get m.memories 0 ≡ Some s → left ≡ length (filter (stays s) (take count m.cells))) → Each IsPlain (drop left n.cells)
next_plain m plan gathers some n is count left plain counted = by m.memories refl
  where
    by : (ss : List Store) → m.memories ≡ ss → Each IsPlain (drop left n.cells)
    by [] e = let differ : true ≡ false = sym (ap (λ (ss : List Store). length ss == 0) e) ∙ some in absurd (cc)
    by (s ∷ rest) e =
        let same : n ≡ expanded_memory m plan s = is ∙ ap (expanded_memory m plan) (store_is m plan gathers s rest e) in
        let many : left ≡ length (filter (stays s) (take count m.cells)) = counted s (ap (λ ss. slice_get ss 0) e) in
        subst (λ (k : Module). Each IsPlain (drop left k.cells)) (sym same) (subst (λ l. Each IsPlain (drop l (expanded_memory m plan s).cells)) (sym many) (rest_plain m plan s count plain))

-- so many first ones, of as many as there are
pub first_ones : {A : Type 0} (xs : List A) (first count : ℕ) → first ≡ min (length xs) count → take first xs ≡ take count xs
first_ones xs first count is = by (ltb count (length xs)) refl
  where
    by : (t : Bool) → ltb count (length xs) ≡ t → take first xs ≡ take count xs
    by true f = let lt = ltb-true count (length xs) f in let same : first ≡ count = omega (arith, is, lt) in ap (λ n. take n xs) same
    by false f =
        let le = ltb-false count (length xs) f in
        let over : length xs ≤ first = omega (arith, is, le) in
        take_all first xs over ∙ sym (take_all count xs le)

-- the first memory is the one at the place 0
first_is : (stores : List Store) (x s : Store) → x ≡ get_or stores 0 x → slice_get stores 0 ≡ Some s → x ≡ s
first_is [] x s is e = absurd (cc)
first_is (y ∷ stores) x s is e = let same : y ≡ s = cc in is ∙ same

-- how many of the first cells are none of the first memory
pub left_of : (m : Module) (x s : Store) (stores : List Store) (name : List ℕ) (cells firsts : List Cell) (first count n : ℕ) → stores ≡ m.memories → x ≡ get_or stores 0 x → name ≡ x.name
    → cells ≡ m.cells → first ≡ min (length cells) count → firsts ≡ take first cells → n ≡ length (filter (λ (c : Cell). not (is_memory_kind (cell_kind c) && is_of_memory name c)) firsts)
    → slice_get m.memories 0 ≡ Some s → n ≡ length (filter (stays s) (take count m.cells))
left_of m x s stores name cells firsts first count n are is named same min_is firsts_are counted there =
    let own : x ≡ s = first_is stores x s is (ap (λ ss. slice_get ss 0) are ∙ there) in
    let called : name ≡ s.name = named ∙ ap (λ (y : Store). y.name) own in
    let these : firsts ≡ take count m.cells = firsts_are ∙ first_ones cells first count min_is ∙ ap (take count) same in
    counted ∙ (λ i. length (filter (λ (c : Cell). not (is_memory_kind (cell_kind c) && is_of_memory (called i) c)) (these i)))
