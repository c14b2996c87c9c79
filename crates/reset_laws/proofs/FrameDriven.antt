-- Where one process becomes another that drives no more bits, no bit gets a second driver.
use Rattle.std.proofs.Common.{◌≡◌, List, [], ◌∷◌, ◌++◌, append_assoc, length, inl, inr, ⊎_elim, refl, sym, ◌∙◌, ap, subst, arith}
use Rattle.std.specs.Prelude.{flat_map, map}
use Rattle.rtl_bits.specs.declared.bit.Bit.{Bit}
use Rattle.rtl_sig.specs.declared.sig.SigBit.{SigBit}
use Rattle.rtl_sig.specs.declared.sig.WireBit.{WireBit}
use Rattle.rtl_ir.specs.Flat.Cell.{Ports, cells_rows}
use Rattle.rtl_ir.specs.Flat.Driver.{Driven}
use Rattle.rtl_ir.specs.Flat.Link.{link_rows}
use Rattle.rtl_ir.specs.Flat.Memory.{memories_rows}
use Rattle.rtl_ir.specs.Flat.Place.{IsOf, Path, Place}
use Rattle.rtl_ir.specs.Flat.Point.{bit_place}
use Rattle.rtl_ir.specs.Flat.Process.{processes_rows}
use Rattle.rtl_ir.specs.Flat.Rows.{rows_of}
use Rattle.rtl_ir.specs.Flat.Start.{start_of}
use Rattle.rtl_ir.specs.declared.module.Module.{Module}
use Rattle.rtl_ir.specs.declared.process.Process.{Process}
use Rattle.rtl_ir.specs.declared.wire.Wire.{Wire}
use Rattle.net_model.proofs.Members.{In-cases, In-left, In-map, In-mapped, In-right, Distinct-append, apart_at, apart_from, map-append}
use Rattle.net_model.specs.Lists.{Distinct, In}
use Rattle.net_model.specs.Refine.{IsWellDriven, places_of}
use Rattle.pass_laws.proofs.Counting.{count, count_more}
use Rattle.build_laws.proofs.CountingBits.{AreBelow, among, among_distinct, among_in, fewer}
use Rattle.build_laws.proofs.RebuildBits.{distinct_before, distinct_map, one_place}
use Rattle.build_laws.proofs.RebuildPlaces.{cells_alike, memories_alike, processes_places}
use Rattle.build_laws.specs.Rebuilds.{AreAmong, driven_bits}
use Rattle.reset_laws.proofs.FrameRows.{with_all}

flat_both : {A B : Type 0} (f : A → List B) (xs ys : List A) → flat_map f (xs ++ ys) ≡ flat_map f xs ++ flat_map f ys
flat_both f [] ys = refl
flat_both f (x ∷ xs) ys = ap (λ z. f x ++ z) (flat_both f xs ys) ∙ sym (append_assoc (f x) (flat_map f xs) (flat_map f ys))

-- one part of a list may go for distinct items of it
pub part_left : {A : Type 0} (xs ys : List A) → Distinct (xs ++ ys) → Distinct xs
part_left [] ys h = tt
part_left (x ∷ xs) ys h = (apart_from x xs (λ y i. apart_at x (xs ++ ys) h.0 y (In-left y xs ys i)), part_left xs ys h.1)

pub part_right : {A : Type 0} (xs ys : List A) → Distinct (xs ++ ys) → Distinct ys
part_right [] ys h = h
part_right (x ∷ xs) ys h = part_right xs ys h.1

parts_apart : {A : Type 0} (xs ys : List A) → Distinct (xs ++ ys) → (x : A) → In x xs → In x ys → ⊥
parts_apart [] ys h x i j = absurd i
parts_apart (z ∷ xs) ys h x (inl e) j = apart_at z (xs ++ ys) h.0 x (In-right x xs ys j) (sym e)
parts_apart (z ∷ xs) ys h x (inr i) j = parts_apart xs ys h.1 x i j

part_gone : {A : Type 0} (xs ys ys' : List A) → ((x : A) → In x ys' → In x ys) → Distinct ys' → Distinct (xs ++ ys) → Distinct (xs ++ ys')
part_gone xs ys ys' h u v =
    Distinct-append xs ys' (part_left xs ys v) u (λ x i j. parts_apart xs ys v x i (h x j))

first_gone : {A : Type 0} (ys ys' zs : List A) → ((x : A) → In x ys' → In x ys) → Distinct ys' → Distinct (ys ++ zs) → Distinct (ys' ++ zs)
first_gone ys ys' zs h u v =
    Distinct-append ys' zs u (part_right ys zs v) (λ x i j. parts_apart ys zs v x (h x i) j)

module _ (m : Module) (pre post : List Process) (q r : Process) (more : AreAmong (driven_bits r) (driven_bits q)) where
  abbrev pub bits_before : List WireBit
  bits_before = flat_map driven_bits (pre ++ q ∷ post)

  abbrev pub bits_after : List WireBit
  bits_after = flat_map driven_bits (pre ++ r ∷ post)

  -- the bits of the processes
  pub all_among : AreAmong bits_after bits_before
  all_among =
      among bits_after bits_before (λ b.
      let a = ap (count b) (flat_both driven_bits pre (r ∷ post)) ∙ count_more b (flat_map driven_bits pre) (driven_bits r ++ flat_map driven_bits post) in
      let c = ap (count b) (flat_both driven_bits pre (q ∷ post)) ∙ count_more b (flat_map driven_bits pre) (driven_bits q ++ flat_map driven_bits post) in
      omega (arith, a, c, count_more b (driven_bits r) (flat_map driven_bits post), count_more b (driven_bits q) (flat_map driven_bits post), fewer (driven_bits r) (driven_bits q) more b))

  module _ (named : Distinct (map (λ (w : Wire). w.name) m.wires)) (low : AreBelow (length m.wires) bits_before) where
    module _ (over : Ports) (p : Path) where
      place : WireBit → Place
      place = bit_place p m.wires

      abbrev start : SigBit → Bit
      start = start_of m.wires (pre ++ q ∷ post)

      abbrev cells : List Place
      cells = places_of (cells_rows start over p m.wires m.cells)

      abbrev links : List Place
      links = places_of (link_rows p m.wires m.links)

      abbrev memories : List Place
      memories = places_of (memories_rows p m.wires m.cells (pre ++ q ∷ post) m.memories)

      whole : (ps : List Process) → places_of (rows_of over p (with_all m ps)) ≡ cells ++ (links ++ (map (bit_place p m.wires) (flat_map driven_bits ps) ++ memories))
      whole ps =
          let begun : SigBit → Bit = start_of m.wires ps in
          let c : List Driven = cells_rows begun over p m.wires m.cells in
          let l : List Driven = link_rows p m.wires m.links in
          let t : List Driven = processes_rows begun p m.wires (with_all m ps) ps in
          let s : List Driven = memories_rows p m.wires m.cells ps m.memories in
          map-append (λ (d : Driven). d.place) c (l ++ (t ++ s))
          ∙ (λ i. cells_alike begun start over p m.wires m.cells i ++ map-append (λ (d : Driven). d.place) l (t ++ s) i)
          ∙ (λ i. cells ++ (links ++ map-append (λ (d : Driven). d.place) t s i))
          ∙ (λ i. cells ++ (links ++ (processes_places begun p m.wires (with_all m ps) ps i ++ memories_alike p m.wires m.cells m.cells ps (pre ++ q ∷ post) (λ name. refl) m.memories i)))

      within : (x : Place) → In x (map (bit_place p m.wires) bits_after) → In x (map (bit_place p m.wires) bits_before)
      within x i =
          let k = In-mapped (bit_place p m.wires) x bits_after i in
          subst (λ z. In z (map (bit_place p m.wires) bits_before)) (sym k.2) (In-map (bit_place p m.wires) k.0 bits_before (among_in bits_after bits_before all_among k.0 k.1))

      rows_distinct : Distinct (places_of (rows_of over p (with_all m (pre ++ q ∷ post)))) → Distinct (places_of (rows_of over p (with_all m (pre ++ r ∷ post))))
      rows_distinct h =
          let old : Distinct (cells ++ (links ++ (map (bit_place p m.wires) bits_before ++ memories))) = subst Distinct (whole (pre ++ q ∷ post)) h in
          let inner : Distinct (links ++ (map (bit_place p m.wires) bits_before ++ memories)) = part_right cells (links ++ (map (bit_place p m.wires) bits_before ++ memories)) old in
          let trees : Distinct (map (bit_place p m.wires) bits_before ++ memories) = part_right links (map (bit_place p m.wires) bits_before ++ memories) inner in
          let once : Distinct bits_before = distinct_before (bit_place p m.wires) bits_before (part_left (map (bit_place p m.wires) bits_before) memories trees) in
          let new : Distinct (map (bit_place p m.wires) bits_after) = distinct_map (bit_place p m.wires) bits_after (λ x y i j e. one_place p m.wires named x y (low x (among_in bits_after bits_before all_among x i)) (low y (among_in bits_after bits_before all_among y j)) e) (among_distinct bits_after bits_before all_among once) in
          let trees' : Distinct (map (bit_place p m.wires) bits_after ++ memories) = first_gone (map (bit_place p m.wires) bits_before) (map (bit_place p m.wires) bits_after) memories within new trees in
          let grow : (x : Place) → In x (map (bit_place p m.wires) bits_after ++ memories) → In x (map (bit_place p m.wires) bits_before ++ memories) = both (map (bit_place p m.wires) bits_after) (map (bit_place p m.wires) bits_before) memories within in
          let inner' : Distinct (links ++ (map (bit_place p m.wires) bits_after ++ memories)) = part_gone links (map (bit_place p m.wires) bits_before ++ memories) (map (bit_place p m.wires) bits_after ++ memories) grow trees' inner in
          subst Distinct (sym (whole (pre ++ r ∷ post)))
          (part_gone cells (links ++ (map (bit_place p m.wires) bits_before ++ memories)) (links ++ (map (bit_place p m.wires) bits_after ++ memories))
          (later links (map (bit_place p m.wires) bits_after ++ memories) (map (bit_place p m.wires) bits_before ++ memories) grow) inner' old)
        where
          both : (xs ys zs : List Place) → ((x : Place) → In x xs → In x ys) → (x : Place) → In x (xs ++ zs) → In x (ys ++ zs)
          both xs ys zs h x i = ⊎_elim (λ a. In-left x ys zs (h x a)) (λ b. In-right x ys zs b) (In-cases x xs zs i)

          later : (zs xs ys : List Place) → ((x : Place) → In x xs → In x ys) → (x : Place) → In x (zs ++ xs) → In x (zs ++ ys)
          later zs xs ys h x i = ⊎_elim (λ a. In-left x zs ys a) (λ b. In-right x zs ys (h x b)) (In-cases x zs xs i)

      rows_within : (x : Place) → In x (places_of (rows_of over p (with_all m (pre ++ r ∷ post)))) → In x (places_of (rows_of over p (with_all m (pre ++ q ∷ post))))
      rows_within x i =
          subst (In x) (sym (whole (pre ++ q ∷ post))) (by (subst (In x) (whole (pre ++ r ∷ post)) i))
        where
          by : In x (cells ++ (links ++ (map (bit_place p m.wires) bits_after ++ memories))) → In x (cells ++ (links ++ (map (bit_place p m.wires) bits_before ++ memories)))
          by j =
              ⊎_elim
              (λ a. In-left x cells (links ++ (map (bit_place p m.wires) bits_before ++ memories)) a)
              (λ b. In-right x cells (links ++ (map (bit_place p m.wires) bits_before ++ memories))
              (⊎_elim
              (λ a. In-left x links (map (bit_place p m.wires) bits_before ++ memories) a)
              (λ c. In-right x links (map (bit_place p m.wires) bits_before ++ memories)
              (⊎_elim (λ a. In-left x (map (bit_place p m.wires) bits_before) memories (within x a)) (λ d. In-right x (map (bit_place p m.wires) bits_before) memories d) (In-cases x (map (bit_place p m.wires) bits_after) memories c)))
              (In-cases x links (map (bit_place p m.wires) bits_after ++ memories) b)))
              (In-cases x cells (links ++ (map (bit_place p m.wires) bits_after ++ memories)) j)

    pub still_driven : (over : Ports) → IsWellDriven over (with_all m (pre ++ q ∷ post)) → IsWellDriven over (with_all m (pre ++ r ∷ post))
    still_driven over h = record {
      inputs = h.inputs;
      rows = λ p. rows_distinct over p (h.rows p);
      apart = λ p x i at n j role of.
          let k = In-mapped (λ (row : Driven). row.place) x.place (rows_of over p (with_all m (pre ++ q ∷ post))) (rows_within over p x.place (In-map (λ (row : Driven). row.place) x (rows_of over p (with_all m (pre ++ r ∷ post))) i)) in
          h.apart p k.0 k.1 (ap (λ (z : Place). z.path) (sym k.2) ∙ at) n j role (subst (λ (z : Place). IsOf n.name z.spot) k.2 of);
      instances = h.instances;
    }

    -- where no bit has two drivers, no bit of the processes stands twice
    pub bits_distinct : (over : Ports) → IsWellDriven over (with_all m (pre ++ q ∷ post)) → Distinct bits_before
    bits_distinct over h =
        let old = subst Distinct (whole over [] (pre ++ q ∷ post)) (h.rows []) in
        let inner = part_right (cells over []) (links over [] ++ (map (bit_place [] m.wires) bits_before ++ memories over [])) old in
        let trees = part_right (links over []) (map (bit_place [] m.wires) bits_before ++ memories over []) inner in
        distinct_before (bit_place [] m.wires) bits_before (part_left (map (bit_place [] m.wires) bits_before) (memories over []) trees)
