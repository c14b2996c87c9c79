-- An open module stays good with one more item.
use Rattle.std.proofs.Common.{◌≡◌, ℕ, ◌+◌, ◌<◌, ◌≤◌, List, [], ◌∷◌, ◌++◌, length, map, append_assoc, append-nil, Option, Bool, true, false, refl, sym, ap, subst, ◌∙◌, arith}
use Rattle.std.specs.Prelude.{is_some, IfSome}
use Rattle.std.specs.List.{IsDistinct, sum_by}
use Rattle.std.specs.Str.{bytes_eq}
use Rattle.std.proofs.lemmas.Bool.{or_parts, or_from, true≢false}
use Rattle.std.proofs.lemmas.List.{map_push, length_push}
use Rattle.std.proofs.lemmas.List.Elements.{All-nil, All-push, All-weaker}
use Rattle.std.proofs.lemmas.List.Sums.{sum_by_push}
use Rattle.std.proofs.lemmas.Slice.Eq.{bytes_eq-Decides}
use Rattle.rtl_sig.specs.Names.{has_name, number_of, with_name, AreDistinct}
use Rattle.rtl_ir.specs.declared.value.Value.{Value}
use Rattle.rtl_ir.specs.declared.value.Attribute.{Attribute}
use Rattle.rtl_ir.specs.declared.wire.Wire.{Wire}
use Rattle.rtl_ir.specs.declared.store.Store.{Store}
use Rattle.rtl_ir.specs.declared.cell.Cell.{Cell}
use Rattle.rtl_ir.specs.declared.module.Link.{Link}
use Rattle.rtl_ir.specs.declared.module.Module.{Module}
use Rattle.rtl_ir.specs.declared.process.Process.{Process}
use Rattle.rtl_read.specs.declared.open_module.OpenModule.{OpenModule}
use Rattle.rtl_ir.specs.declared.limits.TheConstants.{MAX_CELLS, MAX_BITS}
use Rattle.rtl_read.specs.Meaning.Module.{fresh_module, is_taken, with_parameter, with_cell, with_process, with_link}
use Rattle.rtl_readable.specs.Readable.{IsName, IsConstant, IsParameter, AreAttributes, IsWire, IsStore, IsCell, IsLink, IsProcess, item_names}
use Rattle.rtl_write.proofs.Names.{is_new, not_in_front}
use Rattle.rtl_write.proofs.Distinct.{not_numbered, not_in_both, added_there, not_added, distinct_between}
use Rattle.rtl_readable.proofs.Grown.{grown_cell, grown_process, grown_link}
use Rattle.rtl_write.proofs.Stages.{other_names, IsOpen, IsTaken, IsWireSoFar, IsStoreSoFar}

-- ---- names

-- a name among others
record Inserted (name : List ℕ) (all names : List (List ℕ)) : Type 0 where
  front : List (List ℕ)
  back : List (List ℕ)
  old : all ≡ front ++ back
  new : names ≡ front ++ name ∷ back

still_distinct : (name : List ℕ) (all names : List (List ℕ)) → Inserted name all names → AreDistinct all → has_name all name ≡ false → AreDistinct names
still_distinct name all names i d h = subst AreDistinct (sym i.new) (distinct_between i.front i.back name (subst AreDistinct i.old d) (ap (λ (l : List (List ℕ)). has_name l name) (sym i.old) ∙ h))

still_out : (name other : List ℕ) (all names : List (List ℕ)) → Inserted name all names → has_name all other ≡ false → bytes_eq other name ≡ false → has_name names other ≡ false
still_out name other all names i h e =
    let parts = not_in_front i.front i.back other (ap (λ (l : List (List ℕ)). has_name l other) (sym i.old) ∙ h) in
    ap (λ (l : List (List ℕ)). has_name l other) i.new ∙ not_in_both i.front (name ∷ i.back) other parts.0 (or_from (bytes_eq other name) (has_name i.back other) e parts.1)

-- a name that is not there differs from one that is
differs : (names : List (List ℕ)) (other name : List ℕ) → has_name names other ≡ false → has_name names name ≡ true → bytes_eq other name ≡ false
differs names other name h taken = by (bytes_eq other name) refl
  where
    by : (b : Bool) → bytes_eq other name ≡ b → bytes_eq other name ≡ false
    by false e = e
    by true e =
        let same : other ≡ name = (bytes_eq-Decides other name).0 e in
        absurd (true≢false (sym taken ∙ ap (has_name names) (sym same) ∙ h))

module _ {A : Type 0} where
  second : (w m r : List A) (t : A) → w ++ ((m ++ t ∷ []) ++ r) ≡ (w ++ m) ++ t ∷ r
  second w m r t = simp append_assoc

  third : (w m c p : List A) (t : A) → w ++ (m ++ ((c ++ t ∷ []) ++ p)) ≡ (w ++ (m ++ c)) ++ t ∷ p
  third w m c p t = simp append_assoc

  last : (m c p : List A) (t : A) → m ++ (c ++ (p ++ t ∷ [])) ≡ (m ++ (c ++ p)) ++ t ∷ []
  last m c p t = simp append_assoc

  fourth : (w m c p : List A) (t : A) → w ++ (m ++ (c ++ (p ++ t ∷ []))) ≡ (w ++ (m ++ (c ++ p))) ++ t ∷ []
  fourth w m c p t = simp append_assoc

  plain_third : (w m c p : List A) → w ++ (m ++ (c ++ p)) ≡ (w ++ (m ++ c)) ++ p
  plain_third w m c p = simp append_assoc

  plain_last : (w : List A) → w ≡ w ++ []
  plain_last w = sym (append-nil w)

abbrev wire_names : Module → List (List ℕ)
wire_names m = map (λ w. w.name) m.wires

abbrev store_names : Module → List (List ℕ)
store_names m = map (λ s. s.name) m.memories

abbrev cell_names : Module → List (List ℕ)
cell_names m = map (λ c. c.name) m.cells

abbrev process_names : Module → List (List ℕ)
process_names m = map (λ p. p.name) m.processes

wire_inserted : (m : Module) (w : Wire) → Inserted w.name (item_names m) (item_names (record m { wires = m.wires ++ w ∷ [] }))
wire_inserted m w = record {
  front = wire_names m;
  back = other_names m;
  old = refl;
  new = ap (λ (l : List (List ℕ)). l ++ other_names m) (map_push (λ w. w.name) m.wires w) ∙ append_assoc (wire_names m) (w.name ∷ []) (other_names m);
}

module _ (m : Module) (s : Store) where
  pushed_store : map (λ s. s.name) (m.memories ++ s ∷ []) ≡ store_names m ++ s.name ∷ []
  pushed_store = map_push (λ s. s.name) m.memories s

  store_inserted : Inserted s.name (item_names m) (item_names (record m { memories = m.memories ++ s ∷ [] }))
  store_inserted = record {
    front = wire_names m ++ store_names m;
    back = cell_names m ++ process_names m;
    old = sym (append_assoc (wire_names m) (store_names m) (cell_names m ++ process_names m));
    new = ap (λ (l : List (List ℕ)). wire_names m ++ (l ++ (cell_names m ++ process_names m))) pushed_store ∙ second (wire_names m) (store_names m) (cell_names m ++ process_names m) s.name;
  }

  store_among : Inserted s.name (other_names m) (other_names (record m { memories = m.memories ++ s ∷ [] }))
  store_among = record {
    front = store_names m;
    back = cell_names m ++ process_names m;
    old = refl;
    new = ap (λ (l : List (List ℕ)). l ++ (cell_names m ++ process_names m)) pushed_store ∙ append_assoc (store_names m) (s.name ∷ []) (cell_names m ++ process_names m);
  }

module _ (m : Module) (c : Cell) where
  pushed_cell : map (λ c. c.name) (m.cells ++ c ∷ []) ≡ cell_names m ++ c.name ∷ []
  pushed_cell = map_push (λ c. c.name) m.cells c

  cell_inserted : Inserted c.name (item_names m) (item_names (record m { cells = m.cells ++ c ∷ [] }))
  cell_inserted = record {
    front = wire_names m ++ (store_names m ++ cell_names m);
    back = process_names m;
    old = plain_third (wire_names m) (store_names m) (cell_names m) (process_names m);
    new = ap (λ (l : List (List ℕ)). wire_names m ++ (store_names m ++ (l ++ process_names m))) pushed_cell ∙ third (wire_names m) (store_names m) (cell_names m) (process_names m) c.name;
  }

  cell_among : Inserted c.name (other_names m) (other_names (record m { cells = m.cells ++ c ∷ [] }))
  cell_among = record {
    front = store_names m ++ cell_names m;
    back = process_names m;
    old = sym (append_assoc (store_names m) (cell_names m) (process_names m));
    new = ap (λ (l : List (List ℕ)). store_names m ++ (l ++ process_names m)) pushed_cell ∙ second (store_names m) (cell_names m) (process_names m) c.name;
  }

module _ (m : Module) (p : Process) where
  pushed_process : map (λ p. p.name) (m.processes ++ p ∷ []) ≡ process_names m ++ p.name ∷ []
  pushed_process = map_push (λ p. p.name) m.processes p

  process_inserted : Inserted p.name (item_names m) (item_names (record m { processes = m.processes ++ p ∷ [] }))
  process_inserted = record {
    front = item_names m;
    back = [];
    old = plain_last (item_names m);
    new = ap (λ (l : List (List ℕ)). wire_names m ++ (store_names m ++ (cell_names m ++ l))) pushed_process ∙ fourth (wire_names m) (store_names m) (cell_names m) (process_names m) p.name;
  }

  process_among : Inserted p.name (other_names m) (other_names (record m { processes = m.processes ++ p ∷ [] }))
  process_among = record {
    front = other_names m;
    back = [];
    old = plain_last (other_names m);
    new = ap (λ (l : List (List ℕ)). store_names m ++ (cell_names m ++ l)) pushed_process ∙ last (store_names m) (cell_names m) (process_names m) p.name;
  }

-- ---- items without a name of their own

pub fresh_open : (id : List ℕ) (items : List Attribute) → IsName id → AreAttributes items → IsOpen (fresh_module id items)
unfolding IsDistinct
fresh_open id items form are = record {
  body = record {
    id = form;
    attributes = are;
    parameters = All-nil IsParameter;
    wires = All-nil IsWire;
    memories = All-nil IsStore;
    cells = All-nil (IsCell []);
    processes = All-nil (IsProcess []);
    links = All-nil (IsLink []);
    distinct = tt;
    bits = omega arith;
    count = omega arith;
  };
  wires = refl;
  others = λ x h. refl;
  bits = refl;
}

module _ (m : OpenModule) (is : IsOpen m) where
  pub parameter_open : (name : List ℕ) (v : Option Value) → IsName name → IfSome v IsConstant → IsOpen (with_parameter name v m)
  parameter_open name v form good = record {
    body = record {
      id = is.body.id;
      attributes = is.body.attributes;
      parameters = All-push IsParameter m.body.parameters (record { name = name; value = v }) is.body.parameters (record { name = form; value = good });
      wires = is.body.wires;
      memories = is.body.memories;
      cells = is.body.cells;
      processes = is.body.processes;
      links = is.body.links;
      distinct = is.body.distinct;
      bits = is.body.bits;
      count = is.body.count;
    };
    wires = is.wires;
    others = is.others;
    bits = is.bits;
  }

  pub link_open : (link : Link) → IsLink m.body.wires link → IsOpen (with_link link m)
  link_open link good = record {
    body = record {
      id = is.body.id;
      attributes = is.body.attributes;
      parameters = is.body.parameters;
      wires = is.body.wires;
      memories = is.body.memories;
      cells = is.body.cells;
      processes = is.body.processes;
      links = All-push (IsLink m.body.wires) m.body.links link is.body.links good;
      distinct = is.body.distinct;
      bits = is.body.bits;
      count = is.body.count;
    };
    wires = is.wires;
    others = is.others;
    bits = is.bits;
  }

  -- ---- items with a name

  -- a name that no item of the module has
  pub record IsUnused (name : List ℕ) : Type 0 where
    pub no_wire : has_name m.wire_names name ≡ false
    pub no_other : has_name m.other_names name ≡ false
    pub no_item : has_name (item_names m.body) name ≡ false

  pub unused : (name : List ℕ) → is_taken name m ≡ false → IsUnused name
  unused name e =
      let parts = or_parts (is_some (number_of m.wire_names name)) (is_some (number_of m.other_names name)) e in
      let wire : has_name m.wire_names name ≡ false = not_numbered m.wire_names name parts.0 in
      let other : has_name m.other_names name ≡ false = not_numbered m.other_names name parts.1 in
      record {
        no_wire = wire;
        no_other = other;
        no_item = not_in_both (map (λ w. w.name) m.body.wires) (other_names m.body) name (ap (λ (l : List (List ℕ)). has_name l name) (sym is.wires) ∙ wire) (is.others name other);
      }

  -- no other item has the name now
  others_left : (name other : List ℕ) → has_name m.other_names name ≡ false → has_name (with_name m.other_names name) other ≡ false → (has_name (other_names m.body) other ≡ false) × (bytes_eq other name ≡ false)
  others_left name other none h =
      let parts = not_added m.other_names name other (ap (λ (l : List (List ℕ)). has_name l other) (sym (is_new m.other_names name none).added) ∙ h) in
      let differ = or_parts (bytes_eq other name) false parts.1 in
      (is.others other parts.0, differ.0)

  pub wire_open : (name : List ℕ) (w : Wire) → IsUnused name → IsName name → IsWireSoFar w → m.bits + w.width ≤ MAX_BITS → IsOpen (record m {
    body = record m.body { wires = m.body.wires ++ record w { name = name } ∷ [] };
    wire_names = with_name m.wire_names name;
    bits = m.bits + w.width;
  })
  wire_open name w new form good room =
      let named : Wire = record w { name = name } in
      let more : List Wire = named ∷ [] in
      let sum : sum_by (λ w. w.width) (m.body.wires ++ more) ≡ sum_by (λ w. w.width) m.body.wires + w.width = sum_by_push (λ w. w.width) m.body.wires named in
      record {
        body = record {
          id = is.body.id;
          attributes = is.body.attributes;
          parameters = is.body.parameters;
          wires = All-push IsWire m.body.wires named is.body.wires (record { name = form; some = good.some; width = good.width; offset = good.offset; number = good.number; inner = good.inner; attributes = good.attributes });
          memories = is.body.memories;
          cells = All-weaker (IsCell m.body.wires) (IsCell (m.body.wires ++ more)) (grown_cell more m.body.wires) m.body.cells is.body.cells;
          processes = All-weaker (IsProcess m.body.wires) (IsProcess (m.body.wires ++ more)) (grown_process more m.body.wires) m.body.processes is.body.processes;
          links = All-weaker (IsLink m.body.wires) (IsLink (m.body.wires ++ more)) (grown_link more m.body.wires) m.body.links is.body.links;
          distinct = still_distinct name (item_names m.body) (item_names (record m.body { wires = m.body.wires ++ more })) (wire_inserted m.body named) is.body.distinct new.no_item;
          bits = omega (arith, sum, is.bits, room);
          count = is.body.count;
        };
        wires = (is_new m.wire_names name new.no_wire).added ∙ ap (λ (l : List (List ℕ)). l ++ name ∷ []) is.wires ∙ sym (map_push (λ w. w.name) m.body.wires named);
        others = is.others;
        bits = omega (arith, sum, is.bits);
      }

  pub store_open : (name : List ℕ) (s : Store) → IsUnused name → IsName name → IsStoreSoFar s → IsOpen (record m {
    body = record m.body { memories = m.body.memories ++ record s { name = name } ∷ [] };
    other_names = with_name m.other_names name;
  })
  store_open name s new form good =
      let named : Store = record s { name = name } in
      record {
        body = record {
          id = is.body.id;
          attributes = is.body.attributes;
          parameters = is.body.parameters;
          wires = is.body.wires;
          memories = All-push IsStore m.body.memories named is.body.memories (record { name = form; some = good.some; width = good.width; size = good.size; offset = good.offset; attributes = good.attributes });
          cells = is.body.cells;
          processes = is.body.processes;
          links = is.body.links;
          distinct = still_distinct name (item_names m.body) (item_names (record m.body { memories = m.body.memories ++ named ∷ [] })) (store_inserted m.body named) is.body.distinct new.no_item;
          bits = is.body.bits;
          count = is.body.count;
        };
        wires = is.wires;
        others = λ other h.
            let left = others_left name other new.no_other h in
            still_out name other (other_names m.body) (other_names (record m.body { memories = m.body.memories ++ named ∷ [] })) (store_among m.body named) left.0 left.1;
        bits = is.bits;
      }

  -- a name is taken for an item that is not whole yet
  pub named_open : (name : List ℕ) → IsUnused name → IsOpen (record m { other_names = with_name m.other_names name })
  named_open name new = record {
    body = is.body;
    wires = is.wires;
    others = λ other h. let left = others_left name other new.no_other h in left.0;
    bits = is.bits;
  }

  pub name_taken : (name : List ℕ) → IsName name → IsUnused name → IsTaken (record m { other_names = with_name m.other_names name }) name
  name_taken name form new = record {
    form = form;
    new = new.no_item;
    taken = ap (λ (l : List (List ℕ)). has_name l name) (is_new m.other_names name new.no_other).added ∙ added_there m.other_names name;
  }

  pub cell_open : (c : Cell) → IsTaken m c.name → IsCell m.body.wires c → length m.body.cells < MAX_CELLS → IsOpen (with_cell c m)
  cell_open c name good room = record {
    body = record {
      id = is.body.id;
      attributes = is.body.attributes;
      parameters = is.body.parameters;
      wires = is.body.wires;
      memories = is.body.memories;
      cells = All-push (IsCell m.body.wires) m.body.cells c is.body.cells good;
      processes = is.body.processes;
      links = is.body.links;
      distinct = still_distinct c.name (item_names m.body) (item_names (record m.body { cells = m.body.cells ++ c ∷ [] })) (cell_inserted m.body c) is.body.distinct name.new;
      bits = is.body.bits;
      count = omega (arith, length_push m.body.cells c, room);
    };
    wires = is.wires;
    others = λ other h. still_out c.name other (other_names m.body) (other_names (record m.body { cells = m.body.cells ++ c ∷ [] })) (cell_among m.body c) (is.others other h) (differs m.other_names other c.name h name.taken);
    bits = is.bits;
  }

  pub process_open : (p : Process) → IsTaken m p.name → IsProcess m.body.wires p → IsOpen (with_process p m)
  process_open p name good = record {
    body = record {
      id = is.body.id;
      attributes = is.body.attributes;
      parameters = is.body.parameters;
      wires = is.body.wires;
      memories = is.body.memories;
      cells = is.body.cells;
      processes = All-push (IsProcess m.body.wires) m.body.processes p is.body.processes good;
      links = is.body.links;
      distinct = still_distinct p.name (item_names m.body) (item_names (record m.body { processes = m.body.processes ++ p ∷ [] })) (process_inserted m.body p) is.body.distinct name.new;
      bits = is.body.bits;
      count = is.body.count;
    };
    wires = is.wires;
    others = λ other h. still_out p.name other (other_names m.body) (other_names (record m.body { processes = m.body.processes ++ p ∷ [] })) (process_among m.body p) (is.others other h) (differs m.other_names other p.name h name.taken);
    bits = is.bits;
  }
