-- A module whose first instance is replaced drives each bit once, where it did before and the module of the instance does.
use Rattle.std.proofs.Common.{◌≡◌, ℕ, ◌+◌, ◌≤◌, Bool, true, false, List, [], ◌∷◌, ◌++◌, map, ◌⊎◌, inl, inr, ⊎_elim, sym, ◌∙◌, ap, subst, arith}
use Rattle.std.proofs.lemmas.Bool.{true≢false}
use Rattle.rtl_ir.specs.declared.cell.Cell.{Cell}
use Rattle.rtl_ir.specs.declared.module.Module.{Module}
use Rattle.rtl_ir.specs.declared.ports.PortLine.{PortLine}
use Rattle.rtl_ir.specs.declared.wire.Role.TheVariants.{Input}
use Rattle.rtl_ir.specs.Build.{Building}
use Rattle.rtl_ir.specs.Flat.Cell.{Ports, cell_rows, cells_rows, instance_rows, instances}
use Rattle.rtl_ir.specs.Flat.Driver.{Driven}
use Rattle.rtl_ir.specs.Flat.Link.{link_rows}
use Rattle.rtl_ir.specs.Flat.Memory.{memories_rows}
use Rattle.rtl_ir.specs.Flat.Place.{Frame, frame, frame_same, IsOf, Path, Place, Spot, OfWire, OfWord}
use Rattle.rtl_ir.specs.Flat.Rows.{rows_of}
use Rattle.rtl_ir.specs.Flat.Start.{start_of}
use Rattle.rtl_ir.specs.Flat.Tree.{places, role_points}
use Rattle.rtl_ir.specs.Ports.{ports_of}
use Rattle.net_model.specs.Lists.{Distinct, In}
use Rattle.net_model.specs.Refine.{IsWellDriven, places_of}
use Rattle.net_model.specs.Relate.{Reach}
use Rattle.net_model.proofs.Members.{Distinct-append, In-cases, In-map, In-mapped, map-append}
use Rattle.net_model.proofs.Reaching.{rows_reach}
use Rattle.net_model.proofs.Swapping.{rows-append}
use Rattle.pass_laws.proofs.Ports.{line_port}
use Rattle.flat_pass.specs.Flat.{put_all, put_cell}
use Rattle.flat_pass.proofs.Closed.{stored, wired}
use Rattle.flat_pass.proofs.Moving.{Move, moved}
use Rattle.flat_pass.proofs.Paths.{Melt, copied_frame, copied_spot}
use Rattle.flat_pass.proofs.Partners.{Paired, StoreCopied, WireCopied, cells_paired, frame_names, frames_paired, instance_cell, new_in, paired_names, renamed_apart, store_name, stores_paired, wire_name, wires_paired}
use Rattle.flat_pass.proofs.Taking.{Split, taken_instances}
use Rattle.flat_pass.proofs.RowsGo.{rows_bare}
use Rattle.flat_pass.proofs.Fresh.{IsFresh, any_in, in_any}
use Rattle.flat_pass.proofs.Melting.{spot_at}
use Rattle.flat_pass.proofs.Melted.{HasNames, IsPlain, after, around, cells_new, copying_new, melt, others_apart, rows_after, stores_new, wires_new}
use Rattle.flat_pass.proofs.Steps.{after_names, frames_apart, frames_distinct, new_cells_distinct, new_stores_distinct, new_wires_distinct, stores_apart, stores_distinct, wires_apart}
use Rattle.flat_pass.proofs.Often.{distinct_same, in_same, map_distinct, moved_often, often, often-append, places_moved, seven_often}
use Rattle.flat_pass.proofs.Named.{has_spot, rows_named}
use Rattle.flat_pass.proofs.Sink.{longer, longer_two, same_head, same_tail, sink, sink_child, sink_deeper, sink_other, sink_own, sink_sinks}

-- the parts of a spot
spot_name : Spot → List ℕ
spot_name (OfWire name at) = name
spot_name (OfWord name address at) = name

spot_number : Spot → ℕ
spot_number (OfWire name at) = at
spot_number (OfWord name address at) = at

spot_address : Spot → ℕ
spot_address (OfWire name at) = 0
spot_address (OfWord name address at) = address

is_wire : Spot → Bool
is_wire (OfWire name at) = true
is_wire (OfWord name address at) = false

module _ (bb : Building) (f : Cell) (rest : List Cell) (n : Module) (taken : Split f rest bb.body.cells) (body : IsPlain bb.body) (child : IsPlain n) (names : HasNames n) (own_names : HasNames bb.body) (fresh : IsFresh bb) (few : (put_all (put_cell (copying_new bb f rest n)) n.cells (stored n f (around bb f rest n))).next ≤ 1000000000) (apart : f.kind_name ≡ bb.body.id → ⊥) where
  abbrev c : Module
  c = after bb f rest n

  abbrev m : Melt
  m = melt bb f rest n

  abbrev fr : Frame
  fr = frame f.name f.kind_name

  c_stores : Distinct (map store_name (after bb f rest n).memories)
  c_stores = stores_distinct bb f rest n taken body child names own_names fresh few

  -- spots of copies
  abbrev NewSpot : Spot → Type 0
  NewSpot (OfWire name at) = In name (map wire_name (wires_new bb f rest n))
  NewSpot (OfWord name address at) = In name (map store_name (stores_new bb f rest n))

  copied_new : (u : Spot) → has_spot n u ≡ true → NewSpot (copied_spot m u)
  copied_new (OfWire name at) e =
      new_in (map wire_name n.wires) (map wire_name (wires_new bb f rest n)) (paired_names WireCopied wire_name wire_name n.wires (wires_new bb f rest n) (wires_paired f.name n.wires (around bb f rest n))) name (in_any name (map wire_name n.wires) e)
  copied_new (OfWord name address at) e =
      new_in (map store_name n.memories) (map store_name (stores_new bb f rest n)) (paired_names StoreCopied store_name store_name n.memories (stores_new bb f rest n) (stores_paired f.name n.memories (wired n f (around bb f rest n)))) name (in_any name (map store_name n.memories) e)

  own_not_new : (u : Spot) → has_spot bb.body u ≡ true → NewSpot u → ⊥
  own_not_new (OfWire name at) e i =
      wires_apart bb f rest n taken body child names own_names fresh few name (in_any name (map wire_name bb.body.wires) e) i
  own_not_new (OfWord name address at) e i =
      stores_apart bb f rest n taken body child names own_names fresh few name (in_any name (map store_name bb.body.memories) e) i

  copied_apart : (u v : Spot) → has_spot n u ≡ true → has_spot n v ≡ true → copied_spot m u ≡ copied_spot m v → u ≡ v
  unfolding spot_name spot_number spot_address is_wire
  copied_apart (OfWire a i) (OfWire b j) h k e =
      let name : a ≡ b = renamed_apart (map wire_name n.wires) (map wire_name (wires_new bb f rest n)) (paired_names WireCopied wire_name wire_name n.wires (wires_new bb f rest n) (wires_paired f.name n.wires (around bb f rest n))) (new_wires_distinct bb f rest n taken body child names own_names fresh few) a b (in_any a (map wire_name n.wires) h) (in_any b (map wire_name n.wires) k) (ap spot_name e) in
      let at : i ≡ j = ap spot_number e in
      λ z. OfWire (name z) (at z)
  copied_apart (OfWord a x i) (OfWord b y j) h k e =
      let name : a ≡ b = renamed_apart (map store_name n.memories) (map store_name (stores_new bb f rest n)) (paired_names StoreCopied store_name store_name n.memories (stores_new bb f rest n) (stores_paired f.name n.memories (wired n f (around bb f rest n)))) (new_stores_distinct bb f rest n taken body child names own_names fresh few) a b (in_any a (map store_name n.memories) h) (in_any b (map store_name n.memories) k) (ap spot_name e) in
      let address : x ≡ y = ap spot_address e in
      let at : i ≡ j = ap spot_number e in
      λ z. OfWord (name z) (address z) (at z)
  copied_apart (OfWire a i) (OfWord b y j) h k e = absurd (true≢false (ap is_wire e))
  copied_apart (OfWord a x i) (OfWire b j) h k e = absurd (true≢false (sym (ap is_wire e)))

  -- frames of copies
  new_frames : Distinct (frame_names (cells_new bb f rest n))
  new_frames =
      frames_distinct (cells_new bb f rest n) (new_cells_distinct bb f rest n taken body child names own_names fresh few)

  frame_name : (g : Frame) → In g (instances n.cells) → In g.name (frame_names n.cells)
  frame_name g i = In-map (λ (z : Frame). z.name) g (instances n.cells) i

  frames_pairs : Paired (λ (a b : List ℕ). Unit {0}) (frame_names n.cells) (frame_names (cells_new bb f rest n))
  frames_pairs =
      frames_paired (copying_new bb f rest n) n.cells (cells_new bb f rest n) (cells_paired (copying_new bb f rest n) n.cells (stored n f (around bb f rest n)))

  frame_new : (g : Frame) → In g (instances n.cells) → In (copied_frame m g).name (frame_names (cells_new bb f rest n))
  frame_new g i =
      new_in (frame_names n.cells) (frame_names (cells_new bb f rest n)) frames_pairs g.name (frame_name g i)

  copied_frames_apart : (g h : Frame) → In g (instances n.cells) → In h (instances n.cells) → copied_frame m g ≡ copied_frame m h → g ≡ h
  copied_frames_apart g h i j e =
      let name : g.name ≡ h.name = renamed_apart (frame_names n.cells) (frame_names (cells_new bb f rest n)) frames_pairs new_frames g.name h.name (frame_name g i) (frame_name h j) (ap (λ (z : Frame). z.name) e) in
      λ z. frame (name z) (ap (λ (w : Frame). w.module_name) e z)

  rest_not_new : (g h : Frame) → In g (instances rest) → In h (instances n.cells) → g ≡ copied_frame m h → ⊥
  rest_not_new g h i j e =
      frames_apart bb f rest n taken body child names own_names fresh few g.name (In-map (λ (z : Frame). z.name) g (instances rest) i) (subst (λ (z : Frame). In z.name (frame_names (cells_new bb f rest n))) (sym e) (frame_new h j))

  module _ (ports : Ports) (known : ports f.kind_name ≡ ports_of n.wires) (before : IsWellDriven ports bb.body) (inner : IsWellDriven ports n) where
    module _ (p : Path) where
      abbrev go : Move
      go = sink m p

      abbrev own_rows : List Driven
      own_rows = rows_of ports p bb.body

      abbrev inner_rows : List Driven
      inner_rows = rows_of ports (fr ∷ p) n

      abbrev old : List Place
      old = places_of own_rows ++ places_of inner_rows

      -- how often each bit is driven
      cells_often : (q : Place) → often q (places_of (map (moved go) (cells_rows (start_of bb.body.wires []) ports p bb.body.wires bb.body.cells))) ≡ often q (places_of (map (moved go) (cells_rows (start_of bb.body.wires []) ports p bb.body.wires rest))) + often q (places_of (map (moved go) (instance_rows p bb.body.wires f.pins fr (ports f.kind_name))))
      cells_often q =
          let start = start_of bb.body.wires [] in
          let pre = cells_rows start ports p bb.body.wires taken.pre in
          let post = cells_rows start ports p bb.body.wires taken.post in
          let one = instance_rows p bb.body.wires f.pins fr (ports f.kind_name) in
          let all : cells_rows start ports p bb.body.wires bb.body.cells ≡ pre ++ (one ++ post) = ap (cells_rows start ports p bb.body.wires) taken.all ∙ rows-append start ports p bb.body.wires taken.pre (f ∷ taken.post) ∙ ap (λ o. pre ++ (cell_rows start ports p bb.body.wires f o ++ post)) taken.kind in
          let less : cells_rows start ports p bb.body.wires rest ≡ pre ++ post = ap (cells_rows start ports p bb.body.wires) taken.others ∙ rows-append start ports p bb.body.wires taken.pre taken.post in
          let count_all = ap (λ z. often q (places_of (map (moved go) z))) all in
          let count_less = ap (λ z. often q (places_of (map (moved go) z))) less in
          let a = moved_often go q pre (one ++ post) in
          let b = moved_often go q one post in
          let d = moved_often go q pre post in
          omega (arith, count_all, count_less, a, b, d)

      own_often : (q : Place) → often q (places_of (map (moved go) own_rows)) ≡ often q (places_of (map (moved go) (cells_rows (start_of bb.body.wires []) ports p bb.body.wires bb.body.cells))) + (often q (places_of (map (moved go) (link_rows p bb.body.wires bb.body.links))) + often q (places_of (map (moved go) (memories_rows p bb.body.wires bb.body.cells [] bb.body.memories))))
      own_often q =
          let cells = cells_rows (start_of bb.body.wires []) ports p bb.body.wires bb.body.cells in
          let links = link_rows p bb.body.wires bb.body.links in
          let memories = memories_rows p bb.body.wires bb.body.cells [] bb.body.memories in
          let all = ap (λ z. often q (places_of (map (moved go) z))) (rows_bare ports p bb.body body.processes) in
          let a = moved_often go q cells (links ++ memories) in
          let b = moved_often go q links memories in
          omega (arith, all, a, b)

      inner_often : (q : Place) → often q (places_of (map (moved go) inner_rows)) ≡ often q (places_of (map (moved go) (cells_rows (start_of n.wires []) ports (fr ∷ p) n.wires n.cells))) + (often q (places_of (map (moved go) (link_rows (fr ∷ p) n.wires n.links))) + often q (places_of (map (moved go) (memories_rows (fr ∷ p) n.wires n.cells [] n.memories))))
      inner_often q =
          let cells = cells_rows (start_of n.wires []) ports (fr ∷ p) n.wires n.cells in
          let links = link_rows (fr ∷ p) n.wires n.links in
          let memories = memories_rows (fr ∷ p) n.wires n.cells [] n.memories in
          let all = ap (λ z. often q (places_of (map (moved go) z))) (rows_bare ports (fr ∷ p) n child.processes) in
          let a = moved_often go q cells (links ++ memories) in
          let b = moved_often go q links memories in
          omega (arith, all, a, b)

      old_often : (q : Place) → often q (map go old) ≡ often q (places_of (map (moved go) own_rows)) + often q (places_of (map (moved go) inner_rows))
      old_often q =
          ap (often q) (map-append go (places_of own_rows) (places_of inner_rows) ∙ (λ i. sym (places_moved go own_rows) i ++ sym (places_moved go inner_rows) i))
          ∙ often-append q (places_of (map (moved go) own_rows)) (places_of (map (moved go) inner_rows))

      counts : (q : Place) → often q (places_of (rows_of ports p c)) ≡ often q (map go old)
      counts q =
          let all = ap (λ z. often q (places_of z)) (rows_after bb f rest n taken body child names c_stores own_names.instances apart ports known go p p (sink_sinks bb f rest n taken body child names c_stores own_names.instances apart p)) in
          let parts = seven_often q (map (moved go) (cells_rows (start_of bb.body.wires []) ports p bb.body.wires rest)) (map (moved go) (cells_rows (start_of n.wires []) ports (fr ∷ p) n.wires n.cells)) (map (moved go) (link_rows p bb.body.wires bb.body.links)) (map (moved go) (link_rows (fr ∷ p) n.wires n.links)) (map (moved go) (instance_rows p bb.body.wires f.pins fr (ports f.kind_name))) (map (moved go) (memories_rows p bb.body.wires bb.body.cells [] bb.body.memories)) (map (moved go) (memories_rows (fr ∷ p) n.wires n.cells [] n.memories)) in
          let own = own_often q in
          let cells = cells_often q in
          let in_child = inner_often q in
          let both = old_often q in
          omega (arith, all, parts, own, cells, in_child, both)

      -- where the bits stand
      abbrev IsOwn : Place → Type 0
      IsOwn q = (u : Spot) × (q ≡ spot_at p u) × (has_spot bb.body u ≡ true)

      abbrev IsOther : Place → Type 0
      IsOther q = (g : Frame) × (u : Spot) × (q ≡ spot_at (g ∷ p) u) × (frame_same g fr ≡ false) × In g (instances rest)

      abbrev IsChild : Place → Type 0
      IsChild q = (u : Spot) × (q ≡ spot_at (fr ∷ p) u) × (has_spot n u ≡ true)

      abbrev IsDeeper : Place → Type 0
      IsDeeper q = (g : Frame) × (u : Spot) × (q ≡ spot_at (g ∷ fr ∷ p) u) × In g (instances n.cells)

      abbrev Found : Place → Type 0
      Found q = IsOwn q ⊎ (IsOther q ⊎ (IsChild q ⊎ IsDeeper q))

      by_path : (q : Place) (r : Path) → q.path ≡ r → q ≡ spot_at r q.spot
      by_path q r e = λ j. record { path = e j; spot = q.spot }

      port_known : (l : PortLine) (u : Spot) → In l (ports_of n.wires) → IsOf l.name u → has_spot n u ≡ true
      port_known l u i o =
          let w = line_port n.wires l i in
          ap (has_spot n) o.1 ∙ any_in l.name (map wire_name n.wires) (subst (λ (z : PortLine). In z.name (map wire_name n.wires)) (sym w.3) (In-map wire_name w.0 n.wires w.1))

      own_found : (y : Driven) → In y own_rows → Found y.place
      own_found y i = by (rows_reach ports p bb.body y i).place
        where
          by : Reach Input ports (instances bb.body.cells) p y.place → IsOwn y.place ⊎ (IsOther y.place ⊎ (IsChild y.place ⊎ IsDeeper y.place))
          by (inl e) =
              inl (y.place.spot, by_path y.place p e, rows_named ports bb.body p (record { within = body.within; processes = body.processes }) y i e)
          by (inr h) =
              ⊎_elim
              (λ s. inr (inr (inl (y.place.spot, by_path y.place (fr ∷ p) (h.4 ∙ ap (λ z. z ∷ p) s), port_known h.1 y.place.spot (subst (In h.1) (ap (λ (z : Frame). ports z.module_name) s ∙ known) h.3) (h.5.0, h.5.2)))))
              (λ r. let x = instance_cell rest h.0 r in
              inr (inl (h.0, y.place.spot, by_path y.place (h.0 ∷ p) h.4, ap (λ z. frame_same z fr) x.3 ∙ others_apart bb f rest n taken body child names c_stores own_names.instances apart x.0 x.1 x.2, r)))
              (subst (In h.0) (taken_instances f rest bb.body.cells taken) h.2)

      inner_found : (y : Driven) → In y inner_rows → Found y.place
      inner_found y i = by (rows_reach ports (fr ∷ p) n y i).place
        where
          by : Reach Input ports (instances n.cells) (fr ∷ p) y.place → IsOwn y.place ⊎ (IsOther y.place ⊎ (IsChild y.place ⊎ IsDeeper y.place))
          by (inl e) =
              inr (inr (inl (y.place.spot, by_path y.place (fr ∷ p) e, rows_named ports n (fr ∷ p) (record { within = child.within; processes = child.processes }) y i e)))
          by (inr h) = inr (inr (inr (h.0, y.place.spot, by_path y.place (h.0 ∷ fr ∷ p) h.4, h.2)))

      row_at : (q : Place) (ds : List Driven) → In q (places_of ds) → (y : Driven) × In y ds × (q ≡ y.place)
      row_at q ds i = In-mapped (λ row. row.place) q ds i

      old_found : (q : Place) → In q old → Found q
      old_found q i =
          ⊎_elim
          (λ l. let y = row_at q own_rows l in subst Found (sym y.2) (own_found y.0 y.1))
          (λ r. let y = row_at q inner_rows r in subst Found (sym y.2) (inner_found y.0 y.1))
          (In-cases q (places_of own_rows) (places_of inner_rows) i)

      -- where they go
      own_image : (q : Place) (h : IsOwn q) → go q ≡ spot_at p h.0
      own_image q h = ap go h.1 ∙ sink_own m p h.0

      other_image : (q : Place) (h : IsOther q) → go q ≡ spot_at (h.0 ∷ p) h.1
      other_image q h = ap go h.2 ∙ sink_other m p h.0 h.3 h.1

      child_image : (q : Place) (h : IsChild q) → go q ≡ spot_at p (copied_spot m h.0)
      child_image q h = ap go h.1 ∙ sink_child m p h.0

      deeper_image : (q : Place) (h : IsDeeper q) → go q ≡ spot_at (copied_frame m h.0 ∷ p) h.1
      deeper_image q h = ap go h.2 ∙ sink_deeper m p h.0 h.1

      -- an image at the path, or in an instance there
      abbrev AtPath : Place → Spot → Type 0
      AtPath q u = go q ≡ spot_at p u

      abbrev InFrame : Place → Frame → Spot → Type 0
      InFrame q g u = go q ≡ spot_at (g ∷ p) u

      never : (q r : Place) (u : Spot) (g : Frame) (v : Spot) → AtPath q u → InFrame r g v → go q ≡ go r → ⊥
      never q r u g v h k e = longer g p (ap (λ z. z.path) (sym k ∙ sym e ∙ h))

      same_spot : (q r : Place) (u v : Spot) → AtPath q u → AtPath r v → go q ≡ go r → u ≡ v
      same_spot q r u v h k e = ap (λ z. z.spot) (sym h ∙ e ∙ k)

      same_frame : (q r : Place) (g h : Frame) (u v : Spot) → InFrame q g u → InFrame r h v → go q ≡ go r → (g ≡ h) × (u ≡ v)
      same_frame q r g h u v i j e =
          let k : spot_at (g ∷ p) u ≡ spot_at (h ∷ p) v = sym i ∙ e ∙ j in
          (same_head g h p p (ap (λ z. z.path) k), ap (λ z. z.spot) k)

      apart_found : (q r : Place) → Found q → Found r → go q ≡ go r → q ≡ r
      apart_found q r (inl h) (inl k) e =
          h.1 ∙ ap (spot_at p) (same_spot q r h.0 k.0 (own_image q h) (own_image r k) e) ∙ sym k.1
      apart_found q r (inl h) (inr (inl k)) e = absurd (never q r h.0 k.0 k.1 (own_image q h) (other_image r k) e)
      apart_found q r (inl h) (inr (inr (inl k))) e =
          absurd (own_not_new h.0 h.2 (subst NewSpot (sym (same_spot q r h.0 (copied_spot m k.0) (own_image q h) (child_image r k) e)) (copied_new k.0 k.2)))
      apart_found q r (inl h) (inr (inr (inr k))) e =
          absurd (never q r h.0 (copied_frame m k.0) k.1 (own_image q h) (deeper_image r k) e)
      apart_found q r (inr (inl h)) (inl k) e = absurd (never r q k.0 h.0 h.1 (own_image r k) (other_image q h) (sym e))
      apart_found q r (inr (inl h)) (inr (inl k)) e =
          let s = same_frame q r h.0 k.0 h.1 k.1 (other_image q h) (other_image r k) e in
          h.2 ∙ (λ j. spot_at (s.0 j ∷ p) (s.1 j)) ∙ sym k.2
      apart_found q r (inr (inl h)) (inr (inr (inl k))) e =
          absurd (never r q (copied_spot m k.0) h.0 h.1 (child_image r k) (other_image q h) (sym e))
      apart_found q r (inr (inl h)) (inr (inr (inr k))) e =
          let s = same_frame q r h.0 (copied_frame m k.0) h.1 k.1 (other_image q h) (deeper_image r k) e in
          absurd (rest_not_new h.0 k.0 h.4 k.3 s.0)
      apart_found q r (inr (inr (inl h))) (inl k) e =
          absurd (own_not_new k.0 k.2 (subst NewSpot (same_spot q r (copied_spot m h.0) k.0 (child_image q h) (own_image r k) e) (copied_new h.0 h.2)))
      apart_found q r (inr (inr (inl h))) (inr (inl k)) e =
          absurd (never q r (copied_spot m h.0) k.0 k.1 (child_image q h) (other_image r k) e)
      apart_found q r (inr (inr (inl h))) (inr (inr (inl k))) e =
          let s = same_spot q r (copied_spot m h.0) (copied_spot m k.0) (child_image q h) (child_image r k) e in
          h.1 ∙ ap (spot_at (fr ∷ p)) (copied_apart h.0 k.0 h.2 k.2 s) ∙ sym k.1
      apart_found q r (inr (inr (inl h))) (inr (inr (inr k))) e =
          absurd (never q r (copied_spot m h.0) (copied_frame m k.0) k.1 (child_image q h) (deeper_image r k) e)
      apart_found q r (inr (inr (inr h))) (inl k) e =
          absurd (never r q k.0 (copied_frame m h.0) h.1 (own_image r k) (deeper_image q h) (sym e))
      apart_found q r (inr (inr (inr h))) (inr (inl k)) e =
          let s = same_frame q r (copied_frame m h.0) k.0 h.1 k.1 (deeper_image q h) (other_image r k) e in
          absurd (rest_not_new k.0 h.0 k.4 h.3 (sym s.0))
      apart_found q r (inr (inr (inr h))) (inr (inr (inl k))) e =
          absurd (never r q (copied_spot m k.0) (copied_frame m h.0) h.1 (child_image r k) (deeper_image q h) (sym e))
      apart_found q r (inr (inr (inr h))) (inr (inr (inr k))) e =
          let s = same_frame q r (copied_frame m h.0) (copied_frame m k.0) h.1 k.1 (deeper_image q h) (deeper_image r k) e in
          h.2 ∙ (λ j. spot_at (copied_frames_apart h.0 k.0 h.3 k.3 s.0 j ∷ fr ∷ p) (s.1 j)) ∙ sym k.2

      -- no bit stands twice before
      not_both : (q : Place) → In q (places_of own_rows) → In q (places_of inner_rows) → ⊥
      not_both q i j =
          let y = row_at q own_rows i in
          let z = row_at q inner_rows j in
          by y.0 z.0 z.1 (sym y.2 ∙ z.2) (rows_reach ports p bb.body y.0 y.1).place (rows_reach ports (fr ∷ p) n z.0 z.1).place
        where
          by : (y z : Driven) → In z inner_rows → y.place ≡ z.place → Reach Input ports (instances bb.body.cells) p y.place → Reach Input ports (instances n.cells) (fr ∷ p) z.place → ⊥
          by y z l e (inl a) (inl b) = longer fr p (sym b ∙ ap (λ w. w.path) (sym e) ∙ a)
          by y z l e (inl a) (inr b) = longer_two b.0 fr p (sym b.4 ∙ ap (λ w. w.path) (sym e) ∙ a)
          by y z l e (inr a) (inl b) =
              let heads : a.0 ≡ fr = same_head a.0 fr p p (sym a.4 ∙ ap (λ w. w.path) e ∙ b) in
              inner.apart (fr ∷ p) z l b a.1 (subst (In a.1) (ap (λ (w : Frame). ports w.module_name) heads ∙ known) a.3) a.6 (subst (λ w. IsOf a.1.name w.spot) e (a.5.0, a.5.2))
          by y z l e (inr a) (inr b) =
              longer fr p (sym (same_tail a.0 b.0 p (fr ∷ p) (sym a.4 ∙ ap (λ w. w.path) e ∙ b.4)))

      old_distinct : Distinct old
      old_distinct =
          Distinct-append (places_of own_rows) (places_of inner_rows) (before.rows p) (inner.rows (fr ∷ p)) not_both

      rows_distinct : Distinct (places_of (rows_of ports p c))
      rows_distinct =
          distinct_same (places_of (rows_of ports p c)) (map go old) counts (map_distinct go old (λ q r i j e. apart_found q r (old_found q i) (old_found r j) e) old_distinct)

      -- no row drives a bit of an input port
      wire_known : (l : PortLine) (u : Spot) → In l (ports_of bb.body.wires) → IsOf l.name u → has_spot bb.body u ≡ true
      wire_known l u i o =
          let w = line_port bb.body.wires l i in
          ap (has_spot bb.body) o.1 ∙ any_in l.name (map wire_name bb.body.wires) (subst (λ (z : PortLine). In z.name (map wire_name bb.body.wires)) (sym w.3) (In-map wire_name w.0 bb.body.wires w.1))

      inner_row : (q : Place) → In q (places_of inner_rows) → (u : Spot) → q ≡ spot_at p u → ⊥
      inner_row q i u e =
          let y = row_at q inner_rows i in
          let path : y.0.place.path ≡ p = ap (λ z. z.path) (sym y.2 ∙ e) in
          ⊎_elim (λ r. longer fr p (sym r ∙ path)) (λ r. longer_two r.0 fr p (sym r.4 ∙ path)) (rows_reach ports (fr ∷ p) n y.0 y.1).place

      not_driven : (l : PortLine) → In l (ports_of bb.body.wires) → l.role ≡ Input → (q : Place) → In q old → Found q → (u : Spot) → IsOf l.name u → go q ≡ spot_at p u → ⊥
      not_driven l i role q j (inl h) u o e =
          let same : h.0 ≡ u = ap (λ z. z.spot) (sym (own_image q h) ∙ e) in
          ⊎_elim (λ a. let y = row_at q own_rows a in
          before.apart p y.0 y.1 (ap (λ z. z.path) (sym y.2 ∙ h.1)) l i role (subst (IsOf l.name) (sym same ∙ ap (λ z. z.spot) (sym h.1 ∙ y.2)) o)) (λ b. inner_row q b h.0 h.1) (In-cases q (places_of own_rows) (places_of inner_rows) j)
      not_driven l i role q j (inr (inl h)) u o e = longer h.0 p (ap (λ z. z.path) (sym (other_image q h) ∙ e))
      not_driven l i role q j (inr (inr (inl h))) u o e =
          let same : copied_spot m h.0 ≡ u = ap (λ z. z.spot) (sym (child_image q h) ∙ e) in
          own_not_new u (wire_known l u i o) (subst NewSpot same (copied_new h.0 h.2))
      not_driven l i role q j (inr (inr (inr h))) u o e =
          longer (copied_frame m h.0) p (ap (λ z. z.path) (sym (deeper_image q h) ∙ e))

    pub after_driven : ports_of bb.body.wires ≡ ports_of (after bb f rest n).wires → IsWellDriven ports (after bb f rest n)
    after_driven same = record {
      inputs = λ p. subst (λ z. Distinct (places (role_points Input p z))) same (before.inputs p);
      rows = rows_distinct;
      apart = λ p x i e l j role o. let q = In-mapped (go p) x.place (old p) (in_same (places_of (rows_of ports p c)) (map (go p) (old p)) (counts p) x.place (In-map (λ row. row.place) x (rows_of ports p c) i)) in
          not_driven p l (subst (In l) (sym same) j) role q.0 q.1 (old_found p q.0 q.1) x.place.spot o (sym q.2 ∙ by_path p x.place p e);
      instances = (after_names bb f rest n taken body child names own_names fresh few).instances;
    }
