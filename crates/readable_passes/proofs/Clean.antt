-- What a text can give, it can give without what nothing needs.
use Rattle.std.proofs.Common.{◌≡◌, ℕ, zero, suc, ◌+◌, ◌<◌, ◌≤◌, Bool, true, false, if◌then◌else◌, List, [], ◌∷◌, ◌++◌, length, Option, Some, None, inl, inr, refl, sym, ◌∙◌, ap, subst, arith, length-append}
use Rattle.std.specs.Prelude.{◌==◌, ◌||◌, IsSomeAnd, flat_map, map, slice_get}
use Rattle.std.specs.List.{All, range_with_len, sum_by}
use Rattle.std.proofs.lemmas.Bool.{eq-eqb}
use Rattle.std.proofs.lemmas.List.{length-map}
use Rattle.std.proofs.lemmas.List.Elements.{All-append, All-cons, All-head, All-nil, All-push, All-tail}
use Rattle.rtl_sig.specs.Names.{AreDistinct}
use Rattle.rtl_sig.specs.declared.sig.SigBit.{SigBit}
use Rattle.rtl_sig.specs.declared.sig.SigBit.TheVariants.{Fixed, Wire as OnWire}
use Rattle.rtl_sig.specs.declared.sig.WireBit.{WireBit}
use Rattle.rtl_ir.specs.Attributes.{is_kept}
use Rattle.rtl_ir.specs.Ports.{is_port}
use Rattle.rtl_ir.specs.Signals.{bits_of_wire, wire_bits}
use Rattle.rtl_ir.specs.Types.{Ports}
use Rattle.rtl_ir.specs.declared.cell.Cell.{Cell}
use Rattle.rtl_ir.specs.declared.cell.Pin.{Pin}
use Rattle.rtl_ir.specs.declared.module.Link.{Link}
use Rattle.rtl_ir.specs.declared.module.Module.{Module}
use Rattle.rtl_ir.specs.declared.process.Process.{Process}
use Rattle.rtl_ir.specs.declared.wire.Wire.{Wire}
use Rattle.net_model.proofs.Members.{In-left, In-right}
use Rattle.net_model.specs.Lists.{In}
use Rattle.follow_laws.specs.Inputs.{followed}
use Rattle.rtl_readable.specs.Changing.{cell_names, times}
use Rattle.rtl_readable.specs.Readable.{IsBitOf, IsCell, IsLink, IsPin, IsProcess, IsReadableModule, IsSignal, IsWire, item_names}
use Rattle.rtl_readable.proofs.Changing.{recelled_reads}
use Rattle.rtl_readable.proofs.Counting.{item_times, still_distinct}
use Rattle.rtl_readable.proofs.Signals.{followed_is, rights_are}
use Rattle.opt_clean.specs.Clean.{clean_of, reduced}
use Rattle.opt_clean.specs.Keep.{is_shown}
use Rattle.opt_clean.specs.Kept.{kept_marks, marked}
use Rattle.opt_clean.specs.Runs.{ended, is_connected, links_of, run_link, runs, shown_links, source_of, wire_links}
use Rattle.opt_clean.specs.Wires.{cell_bits, link_bits, moved_bit, moved_cell, moved_link, moved_pin, named_bits, names_wire, stays, trimmed, wire_marks}
use Rattle.opt_clean.proofs.Bits.{any_in}
use Rattle.opt_clean.proofs.Trimming.{mark_at, place_at}
use Rattle.readable_passes.proofs.Follow.{followed_reads}
use Rattle.readable_passes.proofs.Limits.{widths_more}

-- marked items
marked_all : {A : Type 0} (P : A → Type 0) (ts : List Bool) (xs : List A) → All P xs → All P (marked ts xs)
marked_all P [] xs all = All-nil P
marked_all P (t ∷ ts) [] all = All-nil P
marked_all P (true ∷ ts) (x ∷ xs) all = All-cons P x (marked ts xs) (All-head P x xs all) (marked_all P ts xs (All-tail P x xs all))
marked_all P (false ∷ ts) (x ∷ xs) all = marked_all P ts xs (All-tail P x xs all)

marked_short : {A : Type 0} (ts : List Bool) (xs : List A) → length (marked ts xs) ≤ length xs
marked_short [] xs = omega arith
marked_short (t ∷ ts) [] = omega arith
marked_short (true ∷ ts) (x ∷ xs) = omega (arith, marked_short ts xs)
marked_short (false ∷ ts) (x ∷ xs) = omega (arith, marked_short ts xs)

marked_names : {A : Type 0} (name_of : A → List ℕ) (name : List ℕ) (ts : List Bool) (xs : List A) → times name (map name_of (marked ts xs)) ≤ times name (map name_of xs)
marked_names name_of name [] xs = omega arith
marked_names name_of name (t ∷ ts) [] = omega arith
marked_names name_of name (true ∷ ts) (x ∷ xs) = omega (arith, marked_names name_of name ts xs)
marked_names name_of name (false ∷ ts) (x ∷ xs) = omega (arith, marked_names name_of name ts xs)

marked_sum : (ts : List Bool) (ws : List Wire) → sum_by (λ (w : Wire). w.width) (marked ts ws) ≤ sum_by (λ (w : Wire). w.width) ws
marked_sum [] ws = omega arith
marked_sum (t ∷ ts) [] = omega arith
marked_sum (true ∷ ts) (w ∷ ws) = omega (arith, widths_more w (marked ts ws), widths_more w ws, marked_sum ts ws)
marked_sum (false ∷ ts) (w ∷ ws) = omega (arith, widths_more w ws, marked_sum ts ws)

-- the connections of what the outside sees
module _ (wires : List Wire) (links : List Link) (all : All (IsLink wires) links) where
  -- a bit that a wire has
  abbrev HasIt : WireBit → Type 0
  HasIt b = IsBitOf wires (OnWire b)

  record IsRun (n : ℕ) (run : List WireBit) : Type 0 where
    bits : All HasIt run
    count : length run ≤ n

  ended_are : (n : ℕ) (run : List WireBit) → All HasIt run → length run ≤ n → All (IsRun n) (ended run)
  ended_are n [] h few = All-nil (IsRun n)
  ended_are n (b ∷ run) h few = All-cons (IsRun n) (b ∷ run) [] (record { bits = h; count = few }) (All-nil (IsRun n))

  runs_are : (fits : WireBit → Bool) (n : ℕ) (run bits : List WireBit) → All HasIt run → All HasIt bits → length run + length bits ≤ n → All (IsRun n) (runs fits run bits)
  runs_are fits n run [] h i few = ended_are n run h (omega (arith, few))
  runs_are fits n run (b ∷ bits) h i few =
      by (fits b)
      (runs_are fits n (run ++ b ∷ []) bits (All-push HasIt run b h (All-head HasIt b bits i)) (All-tail HasIt b bits i) (omega (arith, few, length-append run (b ∷ []))))
      (All-append (IsRun n) (ended run) (runs fits [] bits) (ended_are n run h (omega (arith, few))) (runs_are fits n [] bits (All-nil HasIt) (All-tail HasIt b bits i) (omega (arith, few))))
    where
      by : (t : Bool) → All (IsRun n) (runs fits (run ++ b ∷ []) bits) → All (IsRun n) (ended run ++ runs fits [] bits) → All (IsRun n) (if t then runs fits (run ++ b ∷ []) bits else ended run ++ runs fits [] bits)
      by true one other = one
      by false one other = other

  on_wires : (run : List WireBit) → All HasIt run → All (IsBitOf wires) (map OnWire run)
  on_wires [] h = All-nil (IsBitOf wires)
  on_wires (b ∷ run) h = All-cons (IsBitOf wires) (OnWire b) (map OnWire run) (All-head HasIt b run h) (on_wires run (All-tail HasIt b run h))

  from_sources : (run : List WireBit) → All HasIt run → All (IsBitOf wires) (map (source_of links) run)
  from_sources [] h = All-nil (IsBitOf wires)
  from_sources (b ∷ run) h =
      All-cons (IsBitOf wires) (source_of links b) (map (source_of links) run) (followed_is (IsBitOf wires) links (OnWire b) (rights_are wires links all) (All-head HasIt b run h)) (from_sources run (All-tail HasIt b run h))

  run_is : (run : List WireBit) → IsRun 4194304 run → IsLink wires (run_link (source_of links) run)
  run_is run h = record {
    left = record { bits = on_wires run h.bits; width = omega (arith, h.count, length-map run OnWire) };
    right = record { bits = from_sources run h.bits; width = omega (arith, h.count, length-map run (source_of links)) };
  }

  runs_link : (rs : List (List WireBit)) → All (IsRun 4194304) rs → All (IsLink wires) (map (run_link (source_of links)) rs)
  runs_link [] h = All-nil (IsLink wires)
  runs_link (r ∷ rs) h = All-cons (IsLink wires) (run_link (source_of links) r) (map (run_link (source_of links)) rs) (run_is r (All-head (IsRun 4194304) r rs h)) (runs_link rs (All-tail (IsRun 4194304) r rs h))

  bits_from : (wire : ℕ) (w : Wire) → slice_get wires wire ≡ Some w → (from n : ℕ) → from + n ≤ w.width → All HasIt (map (λ at. record { wire = wire; at = at }) (range_with_len from n))
  bits_from wire w is from zero h = All-nil HasIt
  bits_from wire w is from (suc n) h =
      let here : from < w.width = omega (arith, h) in
      All-cons HasIt (record { wire = wire; at = from }) _ (subst (λ o. IsSomeAnd o (λ (v : Wire). from < v.width)) (sym is) here) (bits_from wire w is (from + 1) n (omega (arith, h)))

  range_long : (from n : ℕ) → length (range_with_len from n) ≡ n
  range_long from zero = refl
  range_long from (suc n) = omega (arith, range_long (from + 1) n)

  bits_long : (wire width : ℕ) → length (bits_of_wire wire width) ≡ width
  bits_long wire width = length-map (range_with_len 0 width) (λ at. record { wire = wire; at = at }) ∙ range_long 0 width

  -- the links of one wire
  wire_is : (fits : WireBit → Bool) (wire : ℕ) (w : Wire) → slice_get wires wire ≡ Some w → w.width ≤ 4194304 → All (IsLink wires) (wire_links fits (source_of links) wire w.width)
  wire_is fits wire w is few =
      runs_link (runs fits [] (bits_of_wire wire w.width))
      (runs_are fits 4194304 [] (bits_of_wire wire w.width) (All-nil HasIt) (bits_from wire w is 0 w.width (omega arith))
      (omega (arith, few, bits_long wire w.width)))

  shown_are : (fits : WireBit → Bool) (wire : ℕ) (ws : List Wire) → ((k : ℕ) (w : Wire) → slice_get ws k ≡ Some w → slice_get wires (wire + k) ≡ Some w) → All IsWire ws → All (IsLink wires) (shown_links fits (source_of links) wire ws)
  shown_are fits wire [] there good = All-nil (IsLink wires)
  shown_are fits wire (w ∷ ws) there good =
      All-append (IsLink wires) (if is_shown w then wire_links fits (source_of links) wire w.width else []) (shown_links fits (source_of links) (wire + 1) ws)
      (by (is_shown w))
      (shown_are fits (wire + 1) ws (λ k v e. let z : wire + suc k ≡ (wire + 1) + k = omega arith in subst (λ n. slice_get wires n ≡ Some v) z (there (suc k) v e)) (All-tail IsWire w ws good))
    where
      here : slice_get wires wire ≡ Some w
      here = let z : wire + 0 ≡ wire = omega arith in subst (λ n. slice_get wires n ≡ Some w) z (there 0 w refl)

      by : (t : Bool) → All (IsLink wires) (if t then wire_links fits (source_of links) wire w.width else [])
      by true = wire_is fits wire w here (omega (arith, (All-head IsWire w ws good).width))
      by false = All-nil (IsLink wires)

  links_are : All IsWire wires → All (IsLink wires) (links_of wires links)
  unfolding links_of
  links_are good = shown_are (is_connected links) 0 wires (λ k w e. let z : k ≡ 0 + k = omega arith in subst (λ n. slice_get wires n ≡ Some w) z e) good

reduced_reads : (ports : Ports) (m : Module) → IsReadableModule m → IsReadableModule (reduced ports m)
reduced_reads ports m is =
    let marks = kept_marks ports m.wires (links_of m.wires m.links) m.cells in
    recelled_reads m (marked marks m.cells) (links_of m.wires m.links) is (record {
      cells = marked_all (IsCell m.wires) marks m.cells is.cells;
      names = λ name. marked_names (λ (c : Cell). c.name) name marks m.cells;
      count = marked_short marks m.cells;
      links = links_are m.wires m.links is.links is.wires;
    })

-- bits by the new places of their wires
module _ (wires : List Wire) (bits : List WireBit) where
  abbrev marks : List Bool
  marks = wire_marks bits 0 wires

  abbrev left : List Wire
  left = marked (wire_marks bits 0 wires) wires

  stays_named : (b : WireBit) (w : Wire) → In b bits → stays bits (0 + b.wire) w ≡ true
  stays_named b w i =
      let named : names_wire bits (0 + b.wire) ≡ true = any_in (λ (d : WireBit). d.wire == (0 + b.wire)) bits b i (eq-eqb b.wire (0 + b.wire) (omega arith)) in
      by (is_port w.role) (is_kept w.attributes) (names_wire bits (0 + b.wire)) named
    where
      by : (p k t : Bool) → t ≡ true → (p || (k || t)) ≡ true
      by true k t e = refl
      by false true t e = refl
      by false false t e = e

  got : (o : Option Wire) (P : Wire → Type 0) → IsSomeAnd o P → (w : Wire) × (o ≡ Some w) × P w
  got None P h = absurd h
  got (Some w) P h = (w, refl, h)

  moved_is : (b : WireBit) → In b bits → IsBitOf wires (OnWire b) → IsBitOf left (moved_bit marks (OnWire b))
  moved_is b i h =
      let w = got (slice_get wires b.wire) (λ (v : Wire). b.at < v.width) h in
      let mark : slice_get marks b.wire ≡ Some true = mark_at bits 0 wires b.wire w.0 w.1 ∙ ap Some (stays_named b w.0 i) in
      subst (λ o. IsSomeAnd o (λ (v : Wire). b.at < v.width)) (sym (place_at marks wires b.wire w.0 mark w.1)) w.2

  moved_all : (signal : List SigBit) → ((b : WireBit) → In b (wire_bits signal) → In b bits) → All (IsBitOf wires) signal → All (IsBitOf left) (map (moved_bit marks) signal)
  moved_all [] named h = All-nil (IsBitOf left)
  moved_all (Fixed c ∷ signal) named h = All-cons (IsBitOf left) (Fixed c) _ tt (moved_all signal named (All-tail (IsBitOf wires) (Fixed c) signal h))
  moved_all (OnWire b ∷ signal) named h =
      All-cons (IsBitOf left) (moved_bit marks (OnWire b)) _ (moved_is b (named b (inl refl)) (All-head (IsBitOf wires) (OnWire b) signal h)) (moved_all signal (λ d i. named d (inr i)) (All-tail (IsBitOf wires) (OnWire b) signal h))

  moved_signal : (signal : List SigBit) → ((b : WireBit) → In b (wire_bits signal) → In b bits) → IsSignal wires signal → IsSignal left (map (moved_bit marks) signal)
  moved_signal signal named is = record { bits = moved_all signal named is.bits; width = omega (arith, is.width, length-map signal (moved_bit marks)) }

  moved_pins : (pins : List Pin) → ((b : WireBit) → In b (flat_map (λ (p : Pin). wire_bits p.sig) pins) → In b bits) → All (IsPin wires) pins → All (IsPin left) (map (moved_pin marks) pins)
  moved_pins [] named all = All-nil (IsPin left)
  moved_pins (p ∷ pins) named all =
      let one = All-head (IsPin wires) p pins all in
      All-cons (IsPin left) (moved_pin marks p) (map (moved_pin marks) pins)
      (record { name = one.name; sig = moved_signal p.sig (λ b i. named b (In-left b (wire_bits p.sig) (flat_map (λ (q : Pin). wire_bits q.sig) pins) i)) one.sig })
      (moved_pins pins (λ b i. named b (In-right b (wire_bits p.sig) (flat_map (λ (q : Pin). wire_bits q.sig) pins) i)) (All-tail (IsPin wires) p pins all))

  pin_names_stay : (pins : List Pin) → map (λ (p : Pin). p.name) (map (moved_pin marks) pins) ≡ map (λ (p : Pin). p.name) pins
  pin_names_stay [] = refl
  pin_names_stay (p ∷ pins) = ap (λ z. p.name ∷ z) (pin_names_stay pins)

  moved_cells : (cells : List Cell) → ((b : WireBit) → In b (flat_map cell_bits cells) → In b bits) → All (IsCell wires) cells → All (IsCell left) (map (moved_cell marks) cells)
  moved_cells [] named all = All-nil (IsCell left)
  moved_cells (c ∷ cells) named all =
      let one = All-head (IsCell wires) c cells all in
      All-cons (IsCell left) (moved_cell marks c) (map (moved_cell marks) cells)
      (record {
        kind_name = one.kind_name;
        name = one.name;
        params = one.params;
        distinct_params = one.distinct_params;
        pins = moved_pins c.pins (λ b i. named b (In-left b (cell_bits c) (flat_map cell_bits cells) i)) one.pins;
        distinct_pins = subst AreDistinct (sym (pin_names_stay c.pins)) one.distinct_pins;
        attributes = one.attributes;
      })
      (moved_cells cells (λ b i. named b (In-right b (cell_bits c) (flat_map cell_bits cells) i)) (All-tail (IsCell wires) c cells all))

  cell_names_stay : (cells : List Cell) → cell_names (map (moved_cell marks) cells) ≡ cell_names cells
  cell_names_stay [] = refl
  cell_names_stay (c ∷ cells) = ap (λ z. c.name ∷ z) (cell_names_stay cells)

  moved_links : (links : List Link) → ((b : WireBit) → In b (flat_map link_bits links) → In b bits) → All (IsLink wires) links → All (IsLink left) (map (moved_link marks) links)
  moved_links [] named all = All-nil (IsLink left)
  moved_links (l ∷ links) named all =
      let one = All-head (IsLink wires) l links all in
      let own : (b : WireBit) → In b (link_bits l) → In b bits = λ b i. named b (In-left b (link_bits l) (flat_map link_bits links) i) in
      All-cons (IsLink left) (moved_link marks l) (map (moved_link marks) links)
      (record {
        left = moved_signal l.left (λ b i. own b (In-left b (wire_bits l.left) (wire_bits l.right) i)) one.left;
        right = moved_signal l.right (λ b i. own b (In-right b (wire_bits l.left) (wire_bits l.right) i)) one.right;
      })
      (moved_links links (λ b i. named b (In-right b (link_bits l) (flat_map link_bits links) i)) (All-tail (IsLink wires) l links all))

none_among : (wires : List Wire) (processes : List Process) → processes ≡ [] → All (IsProcess wires) processes
none_among wires processes e = subst (All (IsProcess wires)) (sym e) (All-nil (IsProcess wires))

trimmed_reads : (m : Module) → m.processes ≡ [] → IsReadableModule m → IsReadableModule (trimmed m)
trimmed_reads m free is =
    let bits = named_bits m in
    let marks = wire_marks bits 0 m.wires in
    record {
      id = is.id;
      attributes = is.attributes;
      parameters = is.parameters;
      wires = marked_all IsWire marks m.wires is.wires;
      memories = is.memories;
      cells = moved_cells m.wires bits m.cells (λ b i. In-left b (flat_map cell_bits m.cells) (flat_map link_bits m.links) i) is.cells;
      processes = none_among (marked marks m.wires) m.processes free;
      links = moved_links m.wires bits m.links (λ b i. In-right b (flat_map cell_bits m.cells) (flat_map link_bits m.links) i) is.links;
      distinct = still_distinct (item_names (trimmed m)) (item_names m)
          (λ name.
          let cells : times name (cell_names (map (moved_cell marks) m.cells)) ≡ times name (cell_names m.cells) = ap (times name) (cell_names_stay m.wires bits m.cells) in
          omega (arith, item_times name (trimmed m), item_times name m, marked_names (λ (w : Wire). w.name) name marks m.wires, cells)) is.distinct;
      bits = omega (arith, marked_sum marks m.wires, is.bits);
      count = omega (arith, is.count, length-map m.cells (moved_cell marks));
    }

pub clean_reads : (ports : Ports) (m : Module) → m.processes ≡ [] → IsReadableModule m → IsReadableModule (clean_of ports m)
clean_reads ports m free is =
    trimmed_reads (reduced ports (followed ports m)) free (reduced_reads ports (followed ports m) (followed_reads ports m is))
