-- The bits of a module that its rows drive are of wires and memories that it has. A move shows it that takes all other bits away: its
-- rows stay.
use Rattle.std.proofs.Common.{◌≡◌, Bool, true, false, cond, not, ◌&&◌, [], ◌∷◌, ◌++◌, length, map, refl, sym, ◌∙◌, ap, subst}
use Rattle.std.specs.Prelude.{slice_get}
use Rattle.rtl_sig.specs.Names.{has_name}
use Rattle.rtl_sig.specs.declared.sig.SigBit.{SigBit}
use Rattle.rtl_sig.specs.declared.sig.SigBit.TheVariants.{Fixed, Wire as OnWire}
use Rattle.rtl_ir.specs.declared.module.Module.{Module}
use Rattle.rtl_ir.specs.Flat.Cell.{Ports, cells_rows}
use Rattle.rtl_ir.specs.Flat.Driver.{Driven}
use Rattle.rtl_ir.specs.Flat.Link.{link_rows}
use Rattle.rtl_ir.specs.Flat.Memory.{memories_rows}
use Rattle.rtl_ir.specs.Flat.Place.{Frame, frame, Path, Place, Spot, OfWire, OfWord}
use Rattle.rtl_ir.specs.Flat.Point.{At, name_or_empty, point}
use Rattle.rtl_ir.specs.Flat.Rows.{rows_of}
use Rattle.rtl_ir.specs.Flat.Start.{start_of}
use Rattle.net_model.specs.Lists.{In}
use Rattle.net_model.specs.Within.{BitIn}
use Rattle.net_model.proofs.Members.{In-map, In-mapped, map-append}
use Rattle.flat_pass.proofs.Moving.{Move, moved, moved_point}
use Rattle.flat_pass.proofs.Often.{path_is, path_no, path_yes}
use Rattle.flat_pass.proofs.Partners.{name_in, store_name, wire_name}
use Rattle.flat_pass.proofs.RowsMoved.{links_moved}
use Rattle.flat_pass.proofs.RowsGo.{Carries, cells_moved, rows_bare, stores_moved}
use Rattle.flat_pass.proofs.Fresh.{any_in}
use Rattle.flat_pass.proofs.Melting.{IsBare, cells_stay, links_stay, memories_stay, spot_at}
use Rattle.flat_pass.proofs.Sink.{longer}

-- the wire or the memory that a spot is of is one of the module
abbrev pub has_spot : Module → Spot → Bool
has_spot m (OfWire name at) = has_name (map wire_name m.wires) name
has_spot m (OfWord name address at) = has_name (map store_name m.memories) name

module _ (ports : Ports) (m : Module) (p : Path) (bare : IsBare m) where
  -- other bits go elsewhere
  abbrev keep : Move
  keep q = cond (path_is q.path p && not (has_spot m q.spot)) (spot_at (frame [] [] ∷ p) q.spot) q

  keep_spot : (s : Spot) → has_spot m s ≡ true → keep (spot_at p s) ≡ spot_at p s
  keep_spot s e = ap (λ t. cond t (spot_at (frame [] [] ∷ p) s) (spot_at p s)) (λ i. path_yes p i && not (e i))

  keep_frame : (f : Frame) (s : Spot) → keep (spot_at (f ∷ p) s) ≡ spot_at (f ∷ p) s
  keep_frame f s =
      ap (λ t. cond (t && not (has_spot m s)) (spot_at (frame [] [] ∷ p) s) (spot_at (f ∷ p) s)) (path_no (f ∷ p) p (longer f p))

  keep_point : (s : SigBit) → BitIn (length m.wires) s → moved_point keep (point p m.wires s) ≡ point p m.wires s
  keep_point (Fixed b) i = refl
  keep_point (OnWire b) i =
      ap At (keep_spot (OfWire (name_or_empty (slice_get m.wires b.wire)) b.at) (any_in (name_or_empty (slice_get m.wires b.wire)) (map wire_name m.wires) (name_in m.wires b.wire i)))

  carries : Carries keep m m p p (λ s. s)
  carries = record { points = keep_point; fixed = λ b. refl; constants = λ s. refl; starts = λ s i. refl }

  cells_kept : map (moved keep) (cells_rows (start_of m.wires []) ports p m.wires m.cells) ≡ cells_rows (start_of m.wires []) ports p m.wires m.cells
  cells_kept =
      cells_moved keep m m p p (λ s. s) carries bare.within ports ports m.cells m.cells (cells_stay keep p p m.cells (λ x i e. keep_frame (frame x.name x.kind_name))) bare.within.cells (λ x i e. refl)

  links_kept : map (moved keep) (link_rows p m.wires m.links) ≡ link_rows p m.wires m.links
  links_kept =
      links_moved keep (length m.wires) m.wires m.wires p p (λ s. s) carries.points m.links bare.within.links
      ∙ ap (link_rows p m.wires) (sym (links_stay m.links))

  stores_kept : map (moved keep) (memories_rows p m.wires m.cells [] m.memories) ≡ memories_rows p m.wires m.cells [] m.memories
  stores_kept =
      stores_moved keep m m p p (λ s. s) carries bare.within ports ports m.memories m.memories (memories_stay keep m m p p carries bare.within m.memories (λ s i. (λ address at. keep_spot (OfWord s.name address at) (any_in s.name (map store_name m.memories) (In-map store_name s m.memories i)), λ test h. refl)))

  rows_kept : map (moved keep) (rows_of ports p m) ≡ rows_of ports p m
  rows_kept =
      ap (map (moved keep)) (rows_bare ports p m bare.processes)
      ∙ map-append (moved keep) (cells_rows (start_of m.wires []) ports p m.wires m.cells) (link_rows p m.wires m.links ++ memories_rows p m.wires m.cells [] m.memories)
      ∙ (λ i. cells_kept i ++ (map-append (moved keep) (link_rows p m.wires m.links) (memories_rows p m.wires m.cells [] m.memories) ∙ (λ j. links_kept j ++ stores_kept j)) i)
      ∙ sym (rows_bare ports p m bare.processes)

  kept_named : (q : Place) → (keep q).path ≡ p → has_spot m (keep q).spot ≡ true
  kept_named q = by (path_is q.path p) refl (has_spot m q.spot) refl
    where
      by : (t : Bool) → path_is q.path p ≡ t → (u : Bool) → has_spot m q.spot ≡ u → (cond (t && not u) (spot_at (frame [] [] ∷ p) q.spot) q).path ≡ p → has_spot m (cond (t && not u) (spot_at (frame [] [] ∷ p) q.spot) q).spot ≡ true
      by true e true f g = f
      by true e false f g = absurd (longer (frame [] []) p g)
      by false e u f g =
          let both : true ≡ false = sym (ap (λ z. path_is z p) g ∙ path_yes p) ∙ e in
          absurd (cc)

  pub rows_named : (y : Driven) → In y (rows_of ports p m) → y.place.path ≡ p → has_spot m y.place.spot ≡ true
  rows_named y i e =
      let k = In-mapped (moved keep) y (rows_of ports p m) (subst (In y) (sym rows_kept) i) in
      let is : y.place ≡ keep k.0.place = ap (λ z. z.place) k.2 in
      ap (λ z. has_spot m z.spot) is ∙ kept_named k.0.place (sym (ap (λ z. z.path) is) ∙ e)
