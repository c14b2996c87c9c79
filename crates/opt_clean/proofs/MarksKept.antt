-- The marks that are found one by one are those of the least set.
use Rattle.std.proofs.Common.{◌≡◌, ℕ, zero, suc, ◌+◌, ◌<◌, ◌≤◌, Bool, true, false, if◌then◌else◌, List, [], ◌∷◌, ◌++◌, length, get_or, map, replicate, Some, inl, inr, ⊎_elim, refl, sym, ◌∙◌, ap, subst, arith}
use Rattle.std.specs.Prelude.{◌||◌, flat_map, slice_get}
use Rattle.std.specs.List.{list_any}
use Rattle.std.proofs.lemmas.List.{length-map}
use Rattle.rtl_sig.specs.declared.sig.WireBit.{WireBit}
use Rattle.rtl_ir.specs.Drivers.{driver_in, drives_of}
use Rattle.rtl_ir.specs.Signals.{has_bit}
use Rattle.rtl_ir.specs.Types.{Ports}
use Rattle.rtl_ir.specs.declared.cell.Cell.{Cell}
use Rattle.rtl_ir.specs.declared.module.Link.{Link}
use Rattle.rtl_ir.specs.declared.module.Module.{Module}
use Rattle.rtl_ir.specs.declared.wire.Wire.{Wire}
use Rattle.net_model.specs.Lists.{In}
use Rattle.net_model.proofs.Members.{In-cases, In-left, In-right}
use Rattle.opt_clean.specs.Keep.{is_root, output_bits}
use Rattle.opt_clean.specs.Kept.{bits_read, input_bits, is_needed, kept_marks, marked, marks_after, next_marks, right_bits}
use Rattle.opt_clean.specs.Linked.{Drives, cell_place, cell_places}
use Rattle.opt_clean.specs.Marking.{IsMarking, KeepsReads, Marking, mark_places, root_places}
use Rattle.opt_clean.proofs.Bits.{any_in, flat_in, has_in, in_any, in_flat, in_has}
use Rattle.opt_clean.proofs.MarkEnds.{count_few, either, started}
use Rattle.opt_clean.proofs.MarkSteps.{marks_more}
use Rattle.opt_clean.proofs.Rounds.{Fewer, needed_more, read_more, settled}

map_at : {A : Type 0} (f : A → Bool) (xs : List A) (i : ℕ) (x : A) → slice_get xs i ≡ Some x → get_or (map f xs) i false ≡ f x
map_at f [] i x e = absurd (cc)
map_at f (y ∷ xs) zero x e = let same : y ≡ x = cc in ap f same
map_at f (y ∷ xs) (suc i) x e = map_at f xs i x e

at_map : {A : Type 0} (f : A → Bool) (xs : List A) (i : ℕ) → get_or (map f xs) i false ≡ true → (x : A) × (slice_get xs i ≡ Some x) × (f x ≡ true)
at_map f [] i e = absurd (cc)
at_map f (y ∷ xs) zero e = (y, refl, e)
at_map f (y ∷ xs) (suc i) e = at_map f xs i e

at_marked : {A : Type 0} (ts : List Bool) (xs : List A) (i : ℕ) (x : A) → get_or ts i false ≡ true → slice_get xs i ≡ Some x → In x (marked ts xs)
at_marked [] xs i x e f = absurd (cc)
at_marked (t ∷ ts) [] i x e f = absurd (cc)
at_marked (true ∷ ts) (y ∷ xs) zero x e f = let same : x ≡ y = cc in inl same
at_marked (false ∷ ts) (y ∷ xs) zero x e f = absurd (cc)
at_marked (true ∷ ts) (y ∷ xs) (suc i) x e f = inr (at_marked ts xs i x e f)
at_marked (false ∷ ts) (y ∷ xs) (suc i) x e f = at_marked ts xs i x e f

marked_place : {A : Type 0} (ts : List Bool) (xs : List A) (x : A) → In x (marked ts xs) → (i : ℕ) × (get_or ts i false ≡ true) × (slice_get xs i ≡ Some x)
marked_place [] xs x j = absurd j
marked_place (t ∷ ts) [] x j = absurd j
marked_place (true ∷ ts) (y ∷ xs) x (inl e) = (0, refl, ap Some (sym e))
marked_place (true ∷ ts) (y ∷ xs) x (inr j) = let k = marked_place ts xs x j in (suc k.0, k.1, k.2)
marked_place (false ∷ ts) (y ∷ xs) x j = let k = marked_place ts xs x j in (suc k.0, k.1, k.2)

in_order : (xs : List ℕ) (x : ℕ) → In x xs → (k : ℕ) × (k < length xs) × (get_or xs k 0 ≡ x)
in_order [] x i = absurd i
in_order (y ∷ xs) x (inl e) = (0, omega arith, sym e)
in_order (y ∷ xs) x (inr i) = let k = in_order xs x i in (suc k.0, omega (arith, k.1), k.2)

fewer_from : (ts us : List Bool) → length ts ≡ length us → ((i : ℕ) → get_or ts i false ≡ true → get_or us i false ≡ true) → Fewer ts us
fewer_from [] [] e h = tt
fewer_from [] (u ∷ us) e h = absurd (omega (arith, e))
fewer_from (t ∷ ts) [] e h = absurd (omega (arith, e))
fewer_from (t ∷ ts) (u ∷ us) e h = (h 0, fewer_from ts us (omega (arith, e)) (λ i. h (suc i)))

fewer_both : (ts us : List Bool) → Fewer ts us → Fewer us ts → ts ≡ us
fewer_both [] [] h k = refl
fewer_both (true ∷ ts) (true ∷ us) h k = ap (λ z. true ∷ z) (fewer_both ts us h.1 k.1)
fewer_both (false ∷ ts) (false ∷ us) h k = ap (λ z. false ∷ z) (fewer_both ts us h.1 k.1)
fewer_both (true ∷ ts) (false ∷ us) h k = let no : false ≡ true = h.0 refl in absurd (cc)
fewer_both (false ∷ ts) (true ∷ us) h k = let no : false ≡ true = k.0 refl in absurd (cc)
fewer_both [] (u ∷ us) h k = absurd h
fewer_both (t ∷ ts) [] h k = absurd h

-- the roots by their places
root_in : (ports : Ports) (wires : List Wire) (first : ℕ) (cs : List Cell) (i : ℕ) → In i (root_places ports wires first cs) → (j : ℕ) × (c : Cell) × (slice_get cs j ≡ Some c) × (i ≡ first + j) × (is_root ports wires c ≡ true)
root_in ports wires first [] i h = absurd h
root_in ports wires first (c ∷ cs) i h =
    ⊎_elim
    (λ l. here (is_root ports wires c) refl l)
    (λ r. let k = root_in ports wires (first + 1) cs i r in (suc k.0, k.1, k.2, omega (arith, k.3), k.4))
    (In-cases i (if is_root ports wires c then first ∷ [] else []) (root_places ports wires (first + 1) cs) h)
  where
    here : (t : Bool) → is_root ports wires c ≡ t → In i (if t then first ∷ [] else []) → (j : ℕ) × (d : Cell) × (slice_get (c ∷ cs) j ≡ Some d) × (i ≡ first + j) × (is_root ports wires d ≡ true)
    here true e (inl f) = (0, c, refl, omega (arith, f), e)
    here true e (inr f) = absurd f
    here false e f = absurd f

in_root : (ports : Ports) (wires : List Wire) (first : ℕ) (cs : List Cell) (j : ℕ) (c : Cell) → slice_get cs j ≡ Some c → is_root ports wires c ≡ true → In (first + j) (root_places ports wires first cs)
in_root ports wires first [] j c e f = absurd (cc)
in_root ports wires first (d ∷ cs) zero c e f =
    let same : d ≡ c = cc in
    let root : is_root ports wires d ≡ true = ap (is_root ports wires) same ∙ f in
    let z : first + 0 ≡ first = omega arith in
    In-left (first + 0) (if is_root ports wires d then first ∷ [] else []) (root_places ports wires (first + 1) cs) (subst (λ t. In (first + 0) (if t then first ∷ [] else [])) (sym root) (inl z))
in_root ports wires first (d ∷ cs) (suc j) c e f =
    let z : first + 1 + j ≡ first + suc j = omega arith in
    In-right (first + suc j) (if is_root ports wires d then first ∷ [] else []) (root_places ports wires (first + 1) cs) (subst (λ n. In n (root_places ports wires (first + 1) cs)) z (in_root ports wires (first + 1) cs j c e f))

module _ (ports : Ports) (m : Module) (wires : List Wire) (links : List Link) (cells : List Cell) (drives : Drives ports m cells) where
  abbrev kept : List Bool
  kept = kept_marks ports wires links cells

  abbrev initial : List ℕ
  initial = root_places ports wires 0 cells ++ cell_places ports m (right_bits links)

  abbrev needed : List Bool → Cell → Bool
  needed marks = is_needed ports wires (bits_read ports links (marked marks cells))

  kept_length : length kept ≡ length cells
  kept_length = ap length (sym (settled ports wires links cells)) ∙ length-map cells (needed kept)

  kept_at : (i : ℕ) (c : Cell) → slice_get cells i ≡ Some c → needed kept c ≡ true → get_or kept i false ≡ true
  kept_at i c e f = ap (λ z. get_or z i false) (sym (settled ports wires links cells)) ∙ map_at (needed kept) cells i c e ∙ f

  needed_by : (bits : List WireBit) (c : Cell) (b : WireBit) → In b bits → In b (output_bits ports c) → is_needed ports wires bits c ≡ true
  needed_by bits c b i j = by (is_root ports wires c)
    where
      by : (t : Bool) → (t || list_any (has_bit bits) (output_bits ports c)) ≡ true
      by true = refl
      by false = any_in (has_bit bits) (output_bits ports c) b j (has_in bits b i)

  -- what drives a bit that is read is kept
  read_kept : (b : WireBit) (j : ℕ) → In b (bits_read ports links (marked kept cells)) → In j (cell_place (driver_in (drives_of ports m) b)) → get_or kept j false ≡ true
  read_kept b j i h =
      let d = drives.back b j h in
      kept_at j d.0 d.1 (needed_by (bits_read ports links (marked kept cells)) d.0 b i d.2)

  keeps_reads : KeepsReads ports m cells kept
  keeps_reads i c at is j h =
      let b = flat_in (λ (b : WireBit). cell_place (driver_in (drives_of ports m) b)) (input_bits ports c) j h in
      read_kept b.0 j (In-right b.0 (right_bits links) (flat_map (input_bits ports) (marked kept cells)) (in_flat (input_bits ports) (marked kept cells) c b.0 (at_marked kept cells i c is at) b.1)) b.2

  initial_kept : (i : ℕ) → In i initial → get_or kept i false ≡ true
  initial_kept i h =
      ⊎_elim
      (λ l. let k = root_in ports wires 0 cells i l in
      let z : i ≡ k.0 = omega (arith, k.3) in
      subst (λ n. get_or kept n false ≡ true) (sym z) (kept_at k.0 k.1 k.2 (ap (λ t. t || list_any (has_bit (bits_read ports links (marked kept cells))) (output_bits ports k.1)) k.4)))
      (λ r. let b = flat_in (λ (b : WireBit). cell_place (driver_in (drives_of ports m) b)) (right_bits links) i r in
      read_kept b.0 i (In-left b.0 (right_bits links) (flat_map (input_bits ports) (marked kept cells)) b.1) b.2)
      (In-cases i (root_places ports wires 0 cells) (cell_places ports m (right_bits links)) h)

  module _ (s : Marking) (h : IsMarking ports m cells kept initial s (length cells)) where
    few : length s.order ≤ length cells
    few = omega (arith, count_few s.marks, h.each, h.long)

    short : (i : ℕ) (c : Cell) → slice_get cells i ≡ Some c → i < length cells
    short i c e = by cells i e
      where
        by : (cs : List Cell) (k : ℕ) → slice_get cs k ≡ Some c → k < length cs
        by [] k f = absurd (cc)
        by (d ∷ cs) zero f = omega arith
        by (d ∷ cs) (suc k) f = omega (arith, by cs k f)

    is_marked : (i : ℕ) (c : Cell) → slice_get cells i ≡ Some c → get_or s.marks i true ≡ true → get_or s.marks i false ≡ true
    is_marked i c e f = either s.marks i (omega (arith, short i c e, h.long)) f

    -- a cell that is needed where the marked ones read is marked
    needed_marked : (i : ℕ) (c : Cell) → slice_get cells i ≡ Some c → needed s.marks c ≡ true → get_or s.marks i false ≡ true
    needed_marked i c at e = by (is_root ports wires c) refl e
      where
        bits : List WireBit
        bits = bits_read ports links (marked s.marks cells)

        reads : (b : WireBit) → In b (output_bits ports c) → In i (cell_place (driver_in (drives_of ports m) b))
        reads b j = subst (In i) (sym (drives.forth i c at b j)) (inl refl)

        by : (t : Bool) → is_root ports wires c ≡ t → (t || list_any (has_bit (bits_read ports links (marked s.marks cells))) (output_bits ports c)) ≡ true → get_or s.marks i false ≡ true
        by true f g =
            let z : 0 + i ≡ i = omega arith in
            is_marked i c at (h.begun i (In-left i (root_places ports wires 0 cells) (cell_places ports m (right_bits links)) (subst (λ n. In n (root_places ports wires 0 cells)) z (in_root ports wires 0 cells i c at f))))
        by false f g =
            let b = in_any (has_bit (bits_read ports links (marked s.marks cells))) (output_bits ports c) g in
            ⊎_elim
            (λ l. is_marked i c at (h.begun i (In-right i (root_places ports wires 0 cells) (cell_places ports m (right_bits links)) (in_flat (λ (b : WireBit). cell_place (driver_in (drives_of ports m) b)) (right_bits links) b.0 i l (reads b.0 b.1)))))
            (λ r. let d = flat_in (input_bits ports) (marked s.marks cells) b.0 r in
            let j = marked_place s.marks cells d.0 d.1 in
            let k = in_order s.order j.0 (h.listed j.0 j.1) in
            is_marked i c at (h.done k.0 (omega (arith, k.1, few)) k.1 d.0 (ap (slice_get cells) k.2 ∙ j.2) i (in_flat (λ (b : WireBit). cell_place (driver_in (drives_of ports m) b)) (input_bits ports d.0) b.0 i d.2 (reads b.0 b.1))))
            (In-cases b.0 (right_bits links) (flat_map (input_bits ports) (marked s.marks cells)) (in_has (bits_read ports links (marked s.marks cells)) b.0 b.2))

    rounds_marked : (n : ℕ) → Fewer (marks_after ports wires links cells n) s.marks
    rounds_marked zero = fewer_from (map (λ (c : Cell). false) cells) s.marks (length-map cells (λ (c : Cell). false) ∙ sym h.long) (λ i e. let c = at_map (λ (c : Cell). false) cells i e in let no : false ≡ true = c.2 in absurd (cc))
    rounds_marked (suc n) =
        let before : List Bool = marks_after ports wires links cells n in
        fewer_from (next_marks ports wires links cells before) s.marks (length-map cells (needed before) ∙ sym h.long) (λ i e.
        let c = at_map (needed before) cells i e in
        needed_marked i c.0 c.1 (needed_more ports wires links cells (bits_read ports links (marked before cells)) (bits_read ports links (marked s.marks cells)) (read_more ports wires links cells before s.marks (rounds_marked n)) c.0 c.2))

    pub marks_kept : s.marks ≡ kept
    unfolding kept_marks
    marks_kept =
        fewer_both s.marks kept
        (fewer_from s.marks kept (h.long ∙ sym kept_length) (λ i e. h.sound i (h.listed i e)))
        (rounds_marked (length cells))

  -- from no mark on
  pub from_none : (s : Marking) (count : ℕ) → count ≡ length cells → ((kept : List Bool) (initial : List ℕ) → KeepsReads ports m cells kept → IsMarking ports m cells kept initial (mark_places (mark_places (record { marks = replicate count false; order = [] }) (root_places ports wires 0 cells)) (cell_places ports m (right_bits links))) 0 → IsMarking ports m cells kept initial s (length cells)) → s.marks ≡ kept
  from_none s count e run =
      marks_kept s (run kept initial keeps_reads (subst (λ z. IsMarking ports m cells kept initial z 0) (marks_more (record { marks = replicate count false; order = [] }) (root_places ports wires 0 cells) (cell_places ports m (right_bits links))) (started ports m cells kept count initial e initial_kept)))
