-- A module to which the copy of an item is added, as the code holds it: what it is then, and that its names are counted.
use Rattle.std.proofs.Common.{◌≡◌, ℕ, ◌+◌, ◌<◌, List, [], ◌∷◌, ◌++◌, map, refl, sym, ◌∙◌, ap, subst, append_assoc}
use Rattle.std.specs.Prelude.{pos}
use Rattle.rtl_ir.specs.declared.cell.Cell.{Cell}
use Rattle.rtl_ir.specs.declared.store.Store.{Store}
use Rattle.rtl_ir.specs.declared.wire.Role.TheVariants.{Inner}
use Rattle.rtl_ir.specs.declared.wire.Wire.{Wire}
use Rattle.rtl_ir.specs.Build.{Building, module_names}
use Rattle.rtl_ir.specs.Flat.Cell.{cell_kind}
use Rattle.flat_pass.specs.Copies.{Copying, copied_params, copied_pin}
use Rattle.flat_pass.specs.Counts.{AreNames, Counted, count_of, times}
use Rattle.flat_pass.specs.Flat.{copy_name, dotted, next_after, put_cell, put_store, put_wire}
use Rattle.flat_pass.specs.declared.namer.Namer.{Namer}
use Rattle.flat_pass.proofs.Counting.{once, times_cell, times_store, times_wire}
use Rattle.flat_pass.proofs.Naming.{names_more}

-- a name that was given to the copy of an item
pub record Gives (old new : Namer) (b : Building) (instance item given : List ℕ) : Type 0 where
  pub names : AreNames old b
  pub name : given ≡ copy_name b (dotted instance item)
  pub next : new.next ≡ next_after b (dotted instance item)
  pub small : new.next < 1000000001
  pub counts : Counted old.counts new.counts given (count_of old.counts given + 1)

-- the same by what the code says of the call, where the item's name was read as a text
pub given : (old new : Namer) (b : Building) (instance item text name : List ℕ) → AreNames old b → text ≡ item → name ≡ copy_name b (dotted instance text) → new.next ≡ next_after b (dotted instance text) → new.next < 1000000001 → Counted old.counts new.counts name (count_of old.counts name + 1) → Gives old new b instance item name
given old new b instance item text name names read called next small counts = record {
  names = names;
  name = called ∙ ap (λ t. copy_name b (dotted instance t)) read;
  next = next ∙ ap (λ t. next_after b (dotted instance t)) read;
  small = small;
  counts = counts;
}

-- no number is left for a name, by the same
pub given_over : (b : Building) (instance item text : List ℕ) → text ≡ item → 1000000000 < next_after b (dotted instance text) → 1000000000 < next_after b (dotted instance item)
given_over b instance item text read over = subst (λ t. 1000000000 < next_after b (dotted instance t)) read over

module _ (old new : Namer) (b : Building) (instance name : List ℕ) where
  pub wire_added : (w : Wire) → Gives old new b instance w.name name → ◌≡◌ {A = Building} (record { body = record b.body { wires = b.body.wires ++ record w { name = name; role = Inner; number = pos 0 } ∷ [] }; next = new.next }) (put_wire instance w b)
  wire_added w g = λ i. record { body = record b.body { wires = b.body.wires ++ record w { name = g.name i; role = Inner; number = pos 0 } ∷ [] }; next = g.next i }

  -- the module with the copy that the code made
  pub wire_put : (w copy : Wire) (wires : List Wire) → Gives old new b instance w.name name → copy ≡ record w { name = name; role = Inner; number = pos 0 } → wires ≡ b.body.wires ++ copy ∷ [] → ◌≡◌ {A = Building} (record { body = record b.body { wires = wires }; next = new.next }) (put_wire instance w b)
  wire_put w copy wires g is more =
      ap (λ ws. record { body = record b.body { wires = ws }; next = new.next }) (more ∙ ap (λ k. b.body.wires ++ k ∷ []) is) ∙ wire_added w g

  pub wire_names : (w : Wire) → Gives old new b instance w.name name → AreNames new (put_wire instance w b)
  wire_names w g =
      names_more old new b (put_wire instance w b) (dotted instance w.name) name g.names g.name g.counts g.next g.small refl (λ r. times_wire b.body (record w { name = copy_name b (dotted instance w.name); role = Inner; number = pos 0 }) r ∙ ap (λ n. once r n + times (module_names b.body) r) (sym g.name))

  pub store_added : (s : Store) → Gives old new b instance s.name name → ◌≡◌ {A = Building} (record { body = record b.body { memories = b.body.memories ++ record s { name = name } ∷ [] }; next = new.next }) (put_store instance s b)
  store_added s g = λ i. record { body = record b.body { memories = b.body.memories ++ record s { name = g.name i } ∷ [] }; next = g.next i }

  pub store_put : (s copy : Store) (memories : List Store) → Gives old new b instance s.name name → copy ≡ record s { name = name } → memories ≡ b.body.memories ++ copy ∷ [] → ◌≡◌ {A = Building} (record { body = record b.body { memories = memories }; next = new.next }) (put_store instance s b)
  store_put s copy memories g is more =
      ap (λ ss. record { body = record b.body { memories = ss }; next = new.next }) (more ∙ ap (λ k. b.body.memories ++ k ∷ []) is) ∙ store_added s g

  pub store_names : (s : Store) → Gives old new b instance s.name name → AreNames new (put_store instance s b)
  store_names s g =
      names_more old new b (put_store instance s b) (dotted instance s.name) name g.names g.name g.counts g.next g.small refl (λ r. times_store b.body (record s { name = copy_name b (dotted instance s.name) }) r ∙ ap (λ n. once r n + times (module_names b.body) r) (sym g.name))

module _ (old new : Namer) (b : Building) (k : Copying) (name : List ℕ) (c : Cell) (g : Gives old new b k.instance c.name name) where
  -- the copy of a cell under a name
  abbrev pub cell_as : List ℕ → Cell
  cell_as n = record c { name = n; params = copied_params k (cell_kind c) c.params; pins = map (copied_pin k.first) c.pins }

  pub cell_put : (copy : Cell) (done waiting waiting' : List Cell) → copy ≡ cell_as name → waiting' ≡ waiting ++ copy ∷ [] → b.body.cells ≡ done ++ waiting → ◌≡◌ {A = Building} (record { body = record b.body { cells = done ++ waiting' }; next = new.next }) (put_cell k c b)
  cell_put copy done waiting waiting' is more cells =
      let last : done ++ waiting' ≡ b.body.cells ++ cell_as (copy_name b (dotted k.instance c.name)) ∷ [] = ap (λ ws. done ++ ws) (more ∙ ap (λ x. waiting ++ x ∷ []) (is ∙ ap cell_as g.name)) ∙ sym (append_assoc done waiting (cell_as (copy_name b (dotted k.instance c.name)) ∷ [])) ∙ ap (λ ws. ws ++ cell_as (copy_name b (dotted k.instance c.name)) ∷ []) (sym cells) in
      λ i. record { body = record b.body { cells = last i }; next = g.next i }

  pub cell_names : AreNames new (put_cell k c b)
  cell_names =
      names_more old new b (put_cell k c b) (dotted k.instance c.name) name g.names g.name g.counts g.next g.small refl (λ r. times_cell b.body (cell_as (copy_name b (dotted k.instance c.name))) r ∙ ap (λ n. once r n + times (module_names b.body) r) (sym g.name))
