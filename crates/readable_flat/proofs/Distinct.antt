-- No name stands twice in a module to which copies are added.
use Rattle.std.proofs.Common.{◌≡◌, ℕ, zero, suc, ◌+◌, ◌≤◌, Bool, true, false, List, [], ◌∷◌, ◌++◌, map, inl, inr, refl, ◌∙◌, ap, subst, arith}
use Rattle.std.specs.Prelude.{pos}
use Rattle.std.specs.Str.{bytes_eq}
use Rattle.std.proofs.lemmas.Slice.Eq.{bytes_eq-Decides}
use Rattle.rtl_sig.specs.Names.{AreDistinct}
use Rattle.rtl_ir.specs.declared.cell.Cell.{Cell}
use Rattle.rtl_ir.specs.declared.module.Module.{Module}
use Rattle.rtl_ir.specs.declared.store.Store.{Store}
use Rattle.rtl_ir.specs.declared.wire.Role.TheVariants.{Inner}
use Rattle.rtl_ir.specs.declared.wire.Wire.{Wire}
use Rattle.rtl_ir.specs.Build.{Building, module_names}
use Rattle.rtl_ir.specs.Flat.Cell.{cell_kind}
use Rattle.net_model.specs.Lists.{In}
use Rattle.net_model.proofs.Members.{map-append}
use Rattle.rtl_readable.specs.Changing.{cell_names, times}
use Rattle.rtl_readable.specs.Readable.{item_names}
use Rattle.rtl_readable.proofs.Counting.{counted, distinct_from_times, item_times, process_names, still_distinct, store_names, times_from_distinct, times_more, wire_names}
use Rattle.flat_pass.specs.Copies.{Copying, copied_params, copied_pin}
use Rattle.flat_pass.specs.Flat.{copy_name, dotted, next_after, put_all, put_cell, put_store, put_wire, with_cells}
use Rattle.flat_pass.proofs.Fresh.{AddsName, IsFresh, all_new, all_rises, cell_adds, copy_new, store_adds, wire_adds}
use Rattle.flat_pass.proofs.Taking.{Split}

-- ---- names that are counted

in_counted : (name : List ℕ) (names : List (List ℕ)) → In name names → 1 ≤ times name names
in_counted name [] i = absurd i
in_counted name (x ∷ names) (inl e) =
    let one : counted (bytes_eq name x) ≡ 1 = ap counted ((bytes_eq-Decides name x).1 e) in
    omega (arith, one)
in_counted name (x ∷ names) (inr i) = omega (arith, in_counted name names i)

counted_in : (name : List ℕ) (names : List (List ℕ)) → 1 ≤ times name names → In name names
counted_in name [] h = absurd (omega (arith, h))
counted_in name (x ∷ names) h = by (bytes_eq name x) refl h (counted_in name names)
  where
    by : (t : Bool) → bytes_eq name x ≡ t → 1 ≤ counted t + times name names → (1 ≤ times name names → In name names) → In name (x ∷ names)
    by true e k later = inl ((bytes_eq-Decides name x).0 e)
    by false e k later = inr (later (omega (arith, k)))

-- in whichever order the names of a module stand
same_times : (name : List ℕ) (m : Module) → times name (module_names m) ≡ times name (item_names m)
same_times name m =
    let one = times_more name (wire_names m.wires) (store_names m.memories) in
    let two = times_more name (wire_names m.wires ++ store_names m.memories) (cell_names m.cells) in
    let three = times_more name ((wire_names m.wires ++ store_names m.memories) ++ cell_names m.cells) (process_names m.processes) in
    omega (arith, one, two, three, item_times name m)

-- ---- items that are put one after another

module _ {A : Type 0} (put : A → Building → Building) (from : A → List ℕ) (instance : List ℕ) (next : (a : A) (b : Building) → (put a b).next ≡ next_after b (dotted instance (from a))) (adds : (a : A) (b : Building) → AddsName (copy_name b (dotted instance (from a))) (module_names b.body) (module_names (put a b).body)) (counts : (a : A) (b : Building) (name : List ℕ) → times name (item_names (put a b).body) ≡ times name (item_names b.body) + times name (copy_name b (dotted instance (from a)) ∷ [])) where
  put_distinct : (a : A) (b : Building) → IsFresh b → AreDistinct (item_names b.body) → next_after b (dotted instance (from a)) ≤ 1000000000 → AreDistinct (item_names (put a b).body)
  put_distinct a b fresh distinct low =
      distinct_from_times (item_names (put a b).body) (λ name. by name (bytes_eq name new) refl)
    where
      new : List ℕ
      new = copy_name b (dotted instance (from a))

      none : (name : List ℕ) → name ≡ new → (n : ℕ) → times name (item_names b.body) ≡ n → times name (item_names b.body) ≤ 0
      none name same zero e = omega (arith, e)
      none name same (suc n) e =
          let there : In name (module_names b.body) = counted_in name (module_names b.body) (omega (arith, e, same_times name b.body)) in
          absurd (copy_new b (dotted instance (from a)) fresh low (subst (λ z. In z (module_names b.body)) same there))

      by : (name : List ℕ) (t : Bool) → bytes_eq name new ≡ t → times name (item_names (put a b).body) ≤ 1
      by name true e =
          let one : counted (bytes_eq name new) ≡ 1 = ap counted e in
          omega (arith, counts a b name, one, none name ((bytes_eq-Decides name new).0 e) (times name (item_names b.body)) refl)
      by name false e =
          let no : counted (bytes_eq name new) ≡ 0 = ap counted e in
          omega (arith, counts a b name, no, times_from_distinct (item_names b.body) distinct name)

  pub all_distinct : (xs : List A) (b : Building) → IsFresh b → AreDistinct (item_names b.body) → (put_all put xs b).next ≤ 1000000000 → AreDistinct (item_names (put_all put xs b).body)
  all_distinct [] b fresh distinct few = distinct
  all_distinct (a ∷ xs) b fresh distinct few =
      let is = next a b in
      let low : next_after b (dotted instance (from a)) ≤ 1000000000 = omega (arith, few, is, all_rises put from instance next adds xs (put a b)) in
      let one : (put a b).next ≤ 1000000000 = omega (arith, low, is) in
      all_distinct xs (put a b) (all_new put from instance next adds (a ∷ []) b fresh one).fresh (put_distinct a b fresh distinct low) few

  pub all_fresh : (xs : List A) (b : Building) → IsFresh b → (put_all put xs b).next ≤ 1000000000 → IsFresh (put_all put xs b)
  all_fresh xs b fresh few = (all_new put from instance next adds xs b fresh few).fresh

-- ---- wires, memories and cells

wire_counts : (instance : List ℕ) (w : Wire) (b : Building) (name : List ℕ) → times name (item_names (put_wire instance w b).body) ≡ times name (item_names b.body) + times name (copy_name b (dotted instance w.name) ∷ [])
wire_counts instance w b name =
    let new : Wire = record w { name = copy_name b (dotted instance w.name); role = Inner; number = pos 0 } in
    let more = ap (times name) (map-append (λ (v : Wire). v.name) b.body.wires (new ∷ [])) ∙ times_more name (wire_names b.body.wires) (new.name ∷ []) in
    omega (arith, more, item_times name b.body, item_times name (put_wire instance w b).body)

store_counts : (instance : List ℕ) (s : Store) (b : Building) (name : List ℕ) → times name (item_names (put_store instance s b).body) ≡ times name (item_names b.body) + times name (copy_name b (dotted instance s.name) ∷ [])
store_counts instance s b name =
    let new : Store = record s { name = copy_name b (dotted instance s.name) } in
    let more = ap (times name) (map-append (λ (v : Store). v.name) b.body.memories (new ∷ [])) ∙ times_more name (store_names b.body.memories) (new.name ∷ []) in
    omega (arith, more, item_times name b.body, item_times name (put_store instance s b).body)

cell_counts : (k : Copying) (c : Cell) (b : Building) (name : List ℕ) → times name (item_names (put_cell k c b).body) ≡ times name (item_names b.body) + times name (copy_name b (dotted k.instance c.name) ∷ [])
cell_counts k c b name =
    let new : Cell = record c { name = copy_name b (dotted k.instance c.name); params = copied_params k (cell_kind c) c.params; pins = map (copied_pin k.first) c.pins } in
    let more = ap (times name) (map-append (λ (v : Cell). v.name) b.body.cells (new ∷ [])) ∙ times_more name (cell_names b.body.cells) (new.name ∷ []) in
    omega (arith, more, item_times name b.body, item_times name (put_cell k c b).body)

-- a module whose names differ, and whose fresh names begin after them
pub record IsOpen (b : Building) : Type 0 where
  pub fresh : IsFresh b
  pub distinct : AreDistinct (item_names b.body)

pub wires_open : (instance : List ℕ) (ws : List Wire) (b : Building) → IsOpen b → (put_all (put_wire instance) ws b).next ≤ 1000000000 → IsOpen (put_all (put_wire instance) ws b)
wires_open instance ws b h few = record {
  fresh = all_fresh (put_wire instance) (λ (w : Wire). w.name) instance (λ w b. refl) (wire_adds instance) (wire_counts instance) ws b h.fresh few;
  distinct = all_distinct (put_wire instance) (λ (w : Wire). w.name) instance (λ w b. refl) (wire_adds instance) (wire_counts instance) ws b h.fresh h.distinct few;
}

pub stores_open : (instance : List ℕ) (ss : List Store) (b : Building) → IsOpen b → (put_all (put_store instance) ss b).next ≤ 1000000000 → IsOpen (put_all (put_store instance) ss b)
stores_open instance ss b h few = record {
  fresh = all_fresh (put_store instance) (λ (s : Store). s.name) instance (λ s b. refl) (store_adds instance) (store_counts instance) ss b h.fresh few;
  distinct = all_distinct (put_store instance) (λ (s : Store). s.name) instance (λ s b. refl) (store_adds instance) (store_counts instance) ss b h.fresh h.distinct few;
}

pub cells_open : (k : Copying) (cs : List Cell) (b : Building) → IsOpen b → (put_all (put_cell k) cs b).next ≤ 1000000000 → IsOpen (put_all (put_cell k) cs b)
cells_open k cs b h few = record {
  fresh = all_fresh (put_cell k) (λ (c : Cell). c.name) k.instance (λ c b. refl) (cell_adds k) (cell_counts k) cs b h.fresh few;
  distinct = all_distinct (put_cell k) (λ (c : Cell). c.name) k.instance (λ c b. refl) (cell_adds k) (cell_counts k) cs b h.fresh h.distinct few;
}

-- ---- the module without the instance

fewer_names : (f : Cell) (rest cells : List Cell) → Split f rest cells → (name : List ℕ) → times name (cell_names rest) ≤ times name (cell_names cells)
fewer_names f rest cells h name =
    let all : times name (cell_names cells) ≡ times name (cell_names (h.pre ++ f ∷ h.post)) = ap (λ z. times name (cell_names z)) h.all in
    let others : times name (cell_names rest) ≡ times name (cell_names (h.pre ++ h.post)) = ap (λ z. times name (cell_names z)) h.others in
    let more = ap (times name) (map-append (λ (c : Cell). c.name) h.pre (f ∷ h.post)) ∙ times_more name (cell_names h.pre) (cell_names (f ∷ h.post)) in
    let less = ap (times name) (map-append (λ (c : Cell). c.name) h.pre h.post) ∙ times_more name (cell_names h.pre) (cell_names h.post) in
    omega (arith, all, others, more, less)

pub around_open : (b : Building) (f : Cell) (rest : List Cell) → Split f rest b.body.cells → IsOpen b → IsOpen (with_cells rest b)
around_open b f rest taken h = record {
  fresh = record {
    positive = h.fresh.positive;
    below = λ x i. h.fresh.below x (counted_in x (module_names b.body) (omega (arith, in_counted x (module_names (with_cells rest b).body) i, same_times x b.body, same_times x (with_cells rest b).body, fewer x)));
  };
  distinct = still_distinct (item_names (with_cells rest b).body) (item_names b.body) fewer h.distinct;
}
  where
    fewer : (name : List ℕ) → times name (item_names (with_cells rest b).body) ≤ times name (item_names b.body)
    fewer name =
        omega (arith, item_times name b.body, item_times name (with_cells rest b).body, fewer_names f rest b.body.cells taken name)
