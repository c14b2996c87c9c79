-- The rows of memories are the module's own.
use Rattle.std.proofs.Common.{ℕ, suc, List, [], ◌∷◌, ◌++◌, inl, inr, refl, sym, subst}
use Rattle.std.specs.Prelude.{map, flat_map}
use Rattle.std.specs.List.{range_with_len}
use Rattle.rtl_ir.specs.declared.cell.Cell.{Cell}
use Rattle.rtl_ir.specs.declared.process.Process.{Process}
use Rattle.rtl_ir.specs.declared.store.Store.{Store}
use Rattle.rtl_ir.specs.declared.wire.Wire.{Wire}
use Rattle.cell_types.specs.declared.pin_name.PinName.TheVariants.{Addr, Data}
use Rattle.cell_types.specs.PinName.{pin_text}
use Rattle.rtl_ir.specs.Flat.Access.{Access, accesses_of, first_trigger}
use Rattle.rtl_ir.specs.Flat.Memory.{init_cells, port_points, word_row, addresses_of, words_at, fetched_rows, read_rows, reading_cells, memory_rows, memories_rows}
use Rattle.rtl_ir.specs.Flat.Place.{Path, word_place}
use Rattle.rtl_ir.specs.Flat.Point.{Point, Constant, At, points}
use Rattle.rtl_ir.specs.Flat.Reads.{port_list}
use Rattle.rtl_ir.specs.Parameters.{signal_at}
use Rattle.net_model.proofs.Own.{AreOwn, IsOwnRow, AreOwnRows, own_at, own_append, own_points, own_both, own_map, own_flat_map}

module _ (p : Path) (wires : List Wire) where
  ports_own : (at : ℕ) (before accesses : List Access) → AreOwn p (flat_map port_list (port_points p wires at before accesses))
  ports_own at before [] = tt
  ports_own at before (a ∷ accesses) = (
    own_at p (points p wires a.enable) (own_points p wires a.enable) at,
    (
      own_at p (points p wires a.new) (own_points p wires a.new) at,
      own_append p (points p wires a.address) _ (own_points p wires a.address) (ports_own at (before ++ a ∷ []) accesses),
    ),
  )

  word_own : (s : Store) (accesses : List Access) (inits : List Cell) (address at : ℕ) → IsOwnRow p (word_row p wires s accesses inits address at)
  word_own s accesses inits address at = record {
    place = refl;
    read = (refl, (own_at p _ (own_points p wires (first_trigger accesses).signal) 0, ports_own at [] accesses));
  }

  words_own : (s : Store) (at : ℕ) (addresses : List ℕ) → AreOwn p (map (λ address. At (word_place p s.name address at)) addresses)
  words_own s at [] = tt
  words_own s at (a ∷ addresses) = (refl, words_own s at addresses)

  fetched_own : (s : Store) (address : List Point) → AreOwn p address → (ds : List Point) → AreOwn p ds → (at : ℕ) → AreOwnRows p (fetched_rows p s address ds at)
  fetched_own s address h [] i at x j = absurd j
  fetched_own s address h (Constant b ∷ ds) i at x j = fetched_own s address h ds i.1 (suc at) x j
  fetched_own s address h (At q ∷ ds) i at x (inr j) = fetched_own s address h ds i.1 (suc at) x j
  fetched_own s address h (At q ∷ ds) i at x (inl e) =
      subst (IsOwnRow p) (sym e) (record { place = i.0; read = own_append p address (words_at p s at) h (words_own s at (addresses_of s)) })

  read_own : (s : Store) (c : Cell) → AreOwnRows p (read_rows p wires s c)
  read_own s c =
      fetched_own s (points p wires (signal_at c.pins (pin_text Addr))) (own_points p wires _) (points p wires (signal_at c.pins (pin_text Data))) (own_points p wires _) 0

  memory_own : (cells : List Cell) (processes : List Process) (s : Store) → AreOwnRows p (memory_rows p wires cells processes s)
  memory_own cells processes s =
      let accesses = accesses_of s.name cells processes in
      let inits = init_cells s.name cells in
      own_both p _ _
      (own_flat_map p _ (λ address. own_map p (word_row p wires s accesses inits address) (word_own s accesses inits address) (range_with_len 0 s.width)) (addresses_of s))
      (own_flat_map p (read_rows p wires s) (read_own s) (reading_cells s.name cells))

  pub memories_own : (cells : List Cell) (processes : List Process) (stores : List Store) → AreOwnRows p (memories_rows p wires cells processes stores)
  memories_own cells processes stores = own_flat_map p (memory_rows p wires cells processes) (memory_own cells processes) stores
