-- Each bit that a read port gives is below the bit that its read tree is connected to.
use Rattle.std.proofs.Common.{◌≡◌, ◌<◌, ◌≤◌, ℕ, zero, suc, ◌+◌, ◌-◌, Bool, true, false, ◌&&◌, List, [], ◌∷◌, length, Some, if◌then◌else◌, inl, inr, refl, sym, ◌∙◌, ap, subst, arith}
use Rattle.std.specs.Prelude.{◌==◌, map, nat_abs, nat_le, nat_lt, slice_get, slice_index_or}
use Rattle.std.specs.List.{range_with_len}
use Rattle.std.proofs.lemmas.Bool.{leb-true, ltb-false, ltb-true}
use Rattle.std.proofs.lemmas.List.FromFn.{length-map-range_with_len}
use Rattle.cell_types.specs.declared.pin_name.PinName.TheVariants.{Addr, Data}
use Rattle.cell_types.specs.PinName.{pin_text}
use Rattle.rtl_bits.proofs.Lists.{AreBelow_refl}
use Rattle.rtl_bits.proofs.Orders.{Below_trans}
use Rattle.rtl_bits.specs.Knowledge.{Below}
use Rattle.rtl_bits.specs.declared.bit.Bit.{Bit}
use Rattle.rtl_bits.specs.declared.bit.Bit.TheVariants.{X}
use Rattle.rtl_sig.specs.declared.sig.SigBit.{SigBit}
use Rattle.rtl_sig.specs.declared.sig.SigBit.TheVariants.{Fixed, Wire as OnWire}
use Rattle.rtl_sig.specs.declared.sig.WireBit.{WireBit}
use Rattle.rtl_ir.specs.Build.{building_of}
use Rattle.rtl_ir.specs.Flat.Cell.{Ports, cell_kind}
use Rattle.rtl_ir.specs.Flat.Driver.{Driven, Fetched}
use Rattle.rtl_ir.specs.Flat.Memory.{addresses_of, fetched_rows, is_read_kind, read_rows, reading_cells, words_at}
use Rattle.rtl_ir.specs.Flat.Place.{Frame, OfWord, Path, Place, word_place}
use Rattle.rtl_ir.specs.Flat.Point.{At, Point, bit_place, points}
use Rattle.rtl_ir.specs.Parameters.{signal_at}
use Rattle.rtl_ir.specs.WritePorts.{is_of_memory}
use Rattle.rtl_ir.specs.declared.cell.Cell.{Cell}
use Rattle.rtl_ir.specs.declared.module.Module.{Module}
use Rattle.rtl_ir.specs.declared.store.Store.{Store}
use Rattle.rtl_ir.specs.declared.wire.Wire.{Wire}
use Rattle.net_model.proofs.Orders.{below as below_order}
use Rattle.net_model.proofs.Relating.{reached_solved}
use Rattle.net_model.proofs.Writing.{fetched_kept}
use Rattle.net_model.specs.Lists.{In}
use Rattle.net_model.specs.Mem.Expand.{read_step, word_at}
use Rattle.net_model.specs.Mem.Gather.{read_port, read_ports}
use Rattle.net_model.specs.Relate.{Reached, Related}
use Rattle.net_model.specs.Run.{Time}
use Rattle.net_model.specs.Valuation.{Valuation, read_all}
use Rattle.net_model.specs.Value.{value_of}
use Rattle.net_model.specs.Within.{Each}
use Rattle.net_model.specs.Words.{fetched_of}
use Rattle.net_model.proofs.Members.{In-mapped}
use Rattle.build_laws.proofs.Meeting.{BodyMet, body_before}
use Rattle.memory_laws.proofs.MemoryBuilt.{port_reads, reads_there, words_by}
use Rattle.memory_laws.proofs.MemoryThere.{IsBuilt, before, built, plan, says, start, start_bits, wires, words}
use Rattle.memory_laws.proofs.ReadTrees.{IsAsWide}
use Rattle.memory_laws.proofs.Saying.{own_word, word_below, word_has}
use Rattle.memory_laws.proofs.WordCells.{moment_of}
use Rattle.memory_laws.proofs.WordWires.{fixed_wide, wires_wide}

-- each cell that reads is a read port
pub port_there : (name : List ℕ) (from : ℕ) (cells : List Cell) (c : Cell) → In c (reading_cells name cells) → (k : ℕ) × In (read_port k c) (read_ports name from cells)
port_there name from [] c i = absurd i
port_there name from (d ∷ cells) c i =
    by (is_read_kind (cell_kind d) && is_of_memory name d) i (port_there name (from + 1) cells c)
  where
    by : (t : Bool) → In c (if t then d ∷ reading_cells name cells else reading_cells name cells) → (In c (reading_cells name cells) → (k : ℕ) × In (read_port k c) (read_ports name (from + 1) cells)) → (k : ℕ) × In (read_port k c) (if t then read_port from d ∷ read_ports name (from + 1) cells else read_ports name (from + 1) cells)
    by true (inl e) later = (from, inl (ap (read_port from) e))
    by true (inr j) later = let q = later j in (q.0, inr q.1)
    by false j later = later j

-- a row of a read port
pub record IsFetched (p : Path) (ws : List Wire) (s : Store) (address : List Point) (ds : List SigBit) (from : ℕ) (x : Driven) : Type 0 where
  pub number : ℕ
  pub bit : WireBit
  pub there : slice_get ds number ≡ Some (OnWire bit)
  pub is : x ≡ record { place = bit_place p ws bit; driver = Fetched address (nat_abs s.offset) (words_at p s (from + number)) }

pub fetched_row : (p : Path) (ws : List Wire) (s : Store) (address : List Point) (ds : List SigBit) (from : ℕ) (x : Driven) → In x (fetched_rows p s address (points p ws ds) from) → IsFetched p ws s address ds from x
fetched_row p ws s address [] from x i = absurd i
fetched_row p ws s address (Fixed b ∷ ds) from x i =
    let later = fetched_row p ws s address ds (suc from) x i in
    let next : suc from + later.number ≡ from + suc later.number = omega arith in
    record { number = suc later.number; bit = later.bit; there = later.there; is = later.is ∙ ap (λ k. record { place = bit_place p ws later.bit; driver = Fetched address (nat_abs s.offset) (words_at p s k) }) next }
fetched_row p ws s address (OnWire b ∷ ds) from x (inl e) =
    let here : from ≡ from + 0 = omega arith in
    record { number = 0; bit = b; there = refl; is = e ∙ ap (λ k. record { place = bit_place p ws b; driver = Fetched address (nat_abs s.offset) (words_at p s k) }) here }
fetched_row p ws s address (OnWire b ∷ ds) from x (inr i) =
    let later = fetched_row p ws s address ds (suc from) x i in
    let next : suc from + later.number ≡ from + suc later.number = omega arith in
    record { number = suc later.number; bit = later.bit; there = later.there; is = later.is ∙ ap (λ k. record { place = bit_place p ws later.bit; driver = Fetched address (nat_abs s.offset) (words_at p s k) }) next }

-- what the words have at a place, by number
words_have : (p : Path) (name : List ℕ) (k : ℕ) (v : Valuation) (first size j : ℕ) → j < size → slice_index_or (read_all v (map (λ address. At (word_place p name address k)) (range_with_len first size))) j X ≡ v (word_place p name (first + j) k)
words_have p name k v first zero j lt = absurd (omega (arith, lt))
words_have p name k v first (suc size) zero lt =
    let here : first ≡ first + 0 = omega arith in
    ap (λ z. v (word_place p name z k)) here
words_have p name k v first (suc size) (suc j) lt =
    let next : (first + 1) + j ≡ first + suc j = omega arith in
    words_have p name k v (first + 1) size j (omega (arith, lt)) ∙ ap (λ z. v (word_place p name z k)) next

words_end : (p : Path) (name : List ℕ) (k : ℕ) (v : Valuation) (first size j : ℕ) → size ≤ j → slice_index_or (read_all v (map (λ address. At (word_place p name address k)) (range_with_len first size))) j X ≡ X
words_end p name k v first zero j le = refl
words_end p name k v first (suc size) zero le = absurd (omega (arith, le))
words_end p name k v first (suc size) (suc j) le = words_end p name k v (first + 1) size j (omega (arith, le))

module _ (n : Module) (s : Store) (place : ℕ) where
  starts_wide : (addresses : List ℕ) → Each (λ bits. length bits ≡ s.width) (map (start_bits n s place) addresses)
  starts_wide addresses bits i =
      let k = In-mapped (start_bits n s place) bits addresses i in
      ap length k.2 ∙ length-map-range_with_len _ 0 s.width

  -- each word has the width of the memory
  pub words_wide : (i : ℕ) → IsAsWide s.width (word_at (words n s place) i)
  words_wide i = by (length (plan n s place).writes == 0)
    where
      by : (t : Bool) → IsAsWide s.width (word_at (words_by t (plan n s place) (nat_abs s.offset) (building_of (before n s place))).0 i)
      by true = fixed_wide s.width (nat_abs s.offset) (plan n s place).words (starts_wide (addresses_of s)) i
      by false = wires_wide s.width (nat_abs s.offset) (plan n s place).words (building_of (before n s place)) (starts_wide (addresses_of s)) i

  module _ (over : Ports) (frames : List Frame) (p : Path) (rows : List Driven) (body : IsBuilt n s place over p rows) (few : s.width ≤ 65536) (t u : Time Place) (v w : Valuation) (rel : Related over frames (says n s place) p v w) (r : ℕ) (reached : Reached r rows u w) where
    abbrev values : ℕ → List Bit
    values k = read_all v (words_at p s k)

    -- the word of a number is below what stands for it
    stands : (k i : ℕ) → Below (if nat_le (nat_abs s.offset) i then slice_index_or (values k) (i - nat_abs s.offset) X else X) (word_has (wires n s place) p w (word_at (words n s place) i) k)
    stands k i = by (nat_le (nat_abs s.offset) i) refl
      where
        inner : (q : Bool) → nat_lt (i - nat_abs s.offset) (nat_abs s.size) ≡ q → nat_abs s.offset ≤ i → Below (slice_index_or (values k) (i - nat_abs s.offset) X) (word_has (wires n s place) p w (word_at (words n s place) i) k)
        inner true e le =
            let same : nat_abs s.offset + (i - nat_abs s.offset) ≡ i = omega (arith, le) in
            let value : slice_index_or (values k) (i - nat_abs s.offset) X ≡ v (word_place p s.name i k) = words_have p s.name k v (nat_abs s.offset) (nat_abs s.size) (i - nat_abs s.offset) (ltb-true (i - nat_abs s.offset) (nat_abs s.size) e) ∙ ap (λ z. v (word_place p s.name z k)) same in
            subst (λ z. Below z (word_has (wires n s place) p w (word_at (words n s place) i) k)) (sym value)
            (own_word s.name (wires n s place) (words n s place) p w i k (v (word_place p s.name i k)) (rel.own (OfWord s.name i k)))
        inner false e le =
            subst (λ z. Below z (word_has (wires n s place) p w (word_at (words n s place) i) k)) (sym (words_end p s.name k v (nat_abs s.offset) (nat_abs s.size) (i - nat_abs s.offset) (ltb-false (i - nat_abs s.offset) (nat_abs s.size) e))) tt

        by : (q : Bool) → nat_le (nat_abs s.offset) i ≡ q → Below (if q then slice_index_or (values k) (i - nat_abs s.offset) X else X) (word_has (wires n s place) p w (word_at (words n s place) i) k)
        by true e = inner (nat_lt (i - nat_abs s.offset) (nat_abs s.size)) refl (leb-true (nat_abs s.offset) i e)
        by false e = tt

    -- a bit that a read port gives
    pub fetched_low : (c : Cell) → In c (reading_cells s.name (before n s place).cells) → (k : ℕ) (b : WireBit) → slice_get (signal_at c.pins (pin_text Data)) k ≡ Some (OnWire b)
        → Below (value_of (Fetched (points p (wires n s place) (signal_at c.pins (pin_text Addr))) (nat_abs s.offset) (words_at p s k)) t v) (w (bit_place p (wires n s place) b))
    fetched_low c i k b there =
        let port = port_there s.name 0 (before n s place).cells c i in
        let among = reads_there (plan n s place) s (building_of (before n s place)) (read_port port.0 c) port.1 in
        let m = moment_of (start n s place) over p (wires n s place) w u in
        let met : BodyMet m (read_step (words n s place) (read_port port.0 c) among.from) = body_before m (read_step (words n s place) (read_port port.0 c) among.from) (built n s place) among.grows (body u w (reached_solved rows r u w reached)) in
        let address : List SigBit = signal_at c.pins (pin_text Addr) in
        Below_trans (fetched_of (read_all v (points p (wires n s place) address)) (nat_abs s.offset) (values k)) (fetched_of (read_all w (points p (wires n s place) address)) (nat_abs s.offset) (values k)) (w (bit_place p (wires n s place) b))
        (fetched_kept Below below_order (read_all v (points p (wires n s place) address)) (read_all w (points p (wires n s place) address)) (nat_abs s.offset) (values k) (values k) (word_below s.name (wires n s place) (words n s place) over frames p v w rel address) (AreBelow_refl (values k)))
        (port_reads m s.width few (words n s place) words_wide (read_port port.0 c) among.from met (nat_abs s.offset) (values k) k (stands k) b there)

    -- each row of a read port
    pub read_kept : (c : Cell) → In c (reading_cells s.name (before n s place).cells) → (x : Driven) → In x (read_rows p (wires n s place) s c) → (x.place.path ≡ p) × ((b : WireBit) × (x.place ≡ bit_place p (wires n s place) b)) × Below (value_of x.driver t v) (w x.place)
    read_kept c i x j =
        let row = fetched_row p (wires n s place) s (points p (wires n s place) (signal_at c.pins (pin_text Addr))) (signal_at c.pins (pin_text Data)) 0 x j in
        let none : 0 + row.number ≡ row.number = omega arith in
        let is : x ≡ record { place = bit_place p (wires n s place) row.bit; driver = Fetched (points p (wires n s place) (signal_at c.pins (pin_text Addr))) (nat_abs s.offset) (words_at p s row.number) } = row.is ∙ ap (λ k. record { place = bit_place p (wires n s place) row.bit; driver = Fetched (points p (wires n s place) (signal_at c.pins (pin_text Addr))) (nat_abs s.offset) (words_at p s k) }) none in
        let place_is : x.place ≡ bit_place p (wires n s place) row.bit = ap (λ (z : Driven). z.place) is in
        (ap (λ (z : Place). z.path) place_is, (row.bit, place_is), subst (λ (z : Driven). Below (value_of z.driver t v) (w z.place)) (sym is) (fetched_low c i row.number row.bit row.there))
