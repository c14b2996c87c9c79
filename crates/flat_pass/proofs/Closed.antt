-- What a replacement makes of a module, list by list.
use Rattle.std.proofs.Common.{◌≡◌, ℕ, List, [], ◌∷◌, ◌++◌, length, map, sym, ◌∙◌, ap, append_assoc}
use Rattle.std.specs.Prelude.{pos}
use Rattle.std.proofs.lemmas.List.{append-nil}
use Rattle.rtl_ir.specs.declared.cell.Cell.{Cell}
use Rattle.rtl_ir.specs.declared.module.Module.{Module}
use Rattle.rtl_ir.specs.declared.store.Store.{Store}
use Rattle.rtl_ir.specs.declared.wire.Role.TheVariants.{Inner}
use Rattle.rtl_ir.specs.declared.wire.Wire.{Wire}
use Rattle.rtl_ir.specs.Build.{Building}
use Rattle.rtl_ir.specs.Flat.Cell.{cell_kind}
use Rattle.flat_pass.specs.Copies.{Copying, copied_params, copied_pin}
use Rattle.flat_pass.specs.Flat.{copying_of, copy_name, dotted, links_of, put_all, put_cell, put_store, put_wire, replaced}

-- the copies of wires
abbrev pub wire_copies : List ℕ → List Wire → Building → List Wire
wire_copies instance [] b = []
wire_copies instance (w ∷ ws) b =
    record w { name = copy_name b (dotted instance w.name); role = Inner; number = pos 0 } ∷ wire_copies instance ws (put_wire instance w b)

-- the copies of memories
abbrev pub stores_copied : List ℕ → List Store → Building → List Store
stores_copied instance [] b = []
stores_copied instance (s ∷ ss) b =
    record s { name = copy_name b (dotted instance s.name) } ∷ stores_copied instance ss (put_store instance s b)

-- the copies of cells
abbrev pub cell_copies : Copying → List Cell → Building → List Cell
cell_copies k [] b = []
cell_copies k (c ∷ cs) b =
    record c { name = copy_name b (dotted k.instance c.name); params = copied_params k (cell_kind c) c.params; pins = map (copied_pin k.first) c.pins }
    ∷ cell_copies k cs (put_cell k c b)

pub wires_put : (instance : List ℕ) (ws : List Wire) (b : Building) → (put_all (put_wire instance) ws b).body ≡ record b.body { wires = b.body.wires ++ wire_copies instance ws b }
wires_put instance [] b = ap (λ z. record b.body { wires = z }) (sym (append-nil b.body.wires))
wires_put instance (w ∷ ws) b =
    wires_put instance ws (put_wire instance w b) ∙ ap (λ z. record b.body { wires = z }) (append_assoc b.body.wires (record w { name = copy_name b (dotted instance w.name); role = Inner; number = pos 0 } ∷ []) (wire_copies instance ws (put_wire instance w b)))

pub stores_put : (instance : List ℕ) (ss : List Store) (b : Building) → (put_all (put_store instance) ss b).body ≡ record b.body { memories = b.body.memories ++ stores_copied instance ss b }
stores_put instance [] b = ap (λ z. record b.body { memories = z }) (sym (append-nil b.body.memories))
stores_put instance (s ∷ ss) b =
    stores_put instance ss (put_store instance s b) ∙ ap (λ z. record b.body { memories = z }) (append_assoc b.body.memories (record s { name = copy_name b (dotted instance s.name) } ∷ []) (stores_copied instance ss (put_store instance s b)))

pub cells_put : (k : Copying) (cs : List Cell) (b : Building) → (put_all (put_cell k) cs b).body ≡ record b.body { cells = b.body.cells ++ cell_copies k cs b }
cells_put k [] b = ap (λ z. record b.body { cells = z }) (sym (append-nil b.body.cells))
cells_put k (c ∷ cs) b =
    cells_put k cs (put_cell k c b)
    ∙ ap (λ z. record b.body { cells = z }) (append_assoc b.body.cells (record c { name = copy_name b (dotted k.instance c.name); params = copied_params k (cell_kind c) c.params; pins = map (copied_pin k.first) c.pins } ∷ []) (cell_copies k cs (put_cell k c b)))

module _ (child : Module) (c : Cell) (b : Building) where
  abbrev pub wired : Building
  wired = put_all (put_wire c.name) child.wires b

  abbrev pub stored : Building
  stored = put_all (put_store c.name) child.memories wired

  abbrev pub copying : Copying
  copying = copying_of c.name (length b.body.wires) child wired

  -- the module after the replacement
  pub replaced-body : (replaced child c b).body
      ≡ record b.body {
        wires = b.body.wires ++ wire_copies c.name child.wires b;
        memories = b.body.memories ++ stores_copied c.name child.memories wired;
        cells = b.body.cells ++ cell_copies copying child.cells stored;
        links = b.body.links ++ links_of (length b.body.wires) child c.pins;
      }
  unfolding replaced
  replaced-body =
      let with_links = λ (m : Module). record m { links = m.links ++ links_of (length b.body.wires) child c.pins } in
      let w = wires_put c.name child.wires b in
      let s = stores_put c.name child.memories wired ∙ ap (λ (m : Module). record m { memories = m.memories ++ stores_copied c.name child.memories wired }) w in
      ap with_links (cells_put copying child.cells stored ∙ ap (λ (m : Module). record m { cells = m.cells ++ cell_copies copying child.cells stored }) s)
