-- A net whose result is given to the output of a word cell is an expansion of the cell, and stands for it.
use Rattle.std.proofs.Common.{◌≡◌, ◌<◌, ◌≤◌, ℕ, zero, suc, ◌+◌, ◌-◌, ◌*◌, false, not, List, [], ◌∷◌, ◌++◌, length, Some, inl, inr, refl, sym, ◌∙◌, ap, subst, arith}
use Rattle.std.specs.Prelude.{map, replicate, slice_index_or, take, ◌==◌}
use Rattle.std.proofs.lemmas.Bool.Decides.{nat_tests}
use Rattle.std.proofs.lemmas.List.{append-nil}
use Rattle.cell_types.specs.PinName.{pin_text}
use Rattle.cell_types.specs.declared.kind.CellKind.TheVariants.{Word}
use Rattle.cell_types.specs.declared.pin_name.PinName.TheVariants.{A, B, S, Y}
use Rattle.cell_types.specs.declared.shape.Shape.{Shape}
use Rattle.cell_types.specs.declared.word.WordKind.{WordKind}
use Rattle.cell_word.specs.Values as word_values
use Rattle.cell_word.specs.Values.{input_of, value_by}
use Rattle.rtl_bits.specs.Knowledge.{Below}
use Rattle.rtl_bits.specs.declared.bit.Bit.{Bit}
use Rattle.rtl_bits.specs.declared.bit.Bit.TheVariants.{S0, X}
use Rattle.rtl_ir.specs.Build.{Build, Building}
use Rattle.rtl_ir.specs.Flat.Cell.{Ports, cell_kind, cell_rows, cell_shape, cells_rows, instance_of, instances, listed}
use Rattle.rtl_ir.specs.Flat.Driver.{Driven, Worked}
use Rattle.rtl_ir.specs.Flat.Link.{joins, link_rows}
use Rattle.rtl_ir.specs.Flat.Place.{Path, Place}
use Rattle.rtl_ir.specs.Flat.Point.{Point, pin_points, point, points}
use Rattle.rtl_ir.specs.Signals.{has_constant, wire_bits}
use Rattle.rtl_ir.specs.declared.cell.Cell.{Cell}
use Rattle.rtl_ir.specs.declared.module.Link.{Link}
use Rattle.rtl_ir.specs.declared.module.Module.{Module}
use Rattle.rtl_ir.specs.declared.wire.Wire.{Wire}
use Rattle.rtl_sig.specs.Signal.{extended}
use Rattle.rtl_sig.specs.declared.sig.SigBit.{SigBit}
use Rattle.rtl_sig.specs.declared.sig.SigBit.TheVariants.{Fixed, Wire as OnWire}
use Rattle.net_model.proofs.Members.{In-left, In-right}
use Rattle.net_model.proofs.Ranges.{each_both, signal_in}
use Rattle.net_model.specs.Lists.{In}
use Rattle.net_model.specs.Refine.{IsMet}
use Rattle.net_model.specs.Run.{Time}
use Rattle.net_model.specs.Valuation.{Valuation, read, read_all, read_words}
use Rattle.net_model.specs.Value.{value_of as driver_value, worked_of}
use Rattle.net_model.specs.Within.{BitIn, Each, SigIn}
use Rattle.map_laws.proofs.Expanding.{cells_are, expansion, links_are, wires_count}
use Rattle.map_laws.proofs.Renaming.{renamed}
use Rattle.map_laws.proofs.Reordering.{to_permutation}
use Rattle.map_laws.proofs.Wholes.{cell_more}
use Rattle.map_laws.specs.Operand.{pin_signal}
use Rattle.map_laws.specs.Expansion.{Adds, IsExpansion, IsWhole, IsWholeLink, StandsWith, bits_from, cells_added, kind_bits, links_added}
use Rattle.pass_laws.proofs.Outputs.{output_wires}
use Rattle.gate_nets.specs.Gate.{gate_of}
use Rattle.gate_nets.specs.Give.{give_to, given}
use Rattle.gate_nets.specs.Reading.{IsReading, gates_of}
use Rattle.gate_nets.specs.declared.gate.Gate.{Gate}
use Rattle.gate_nets.proofs.Added.{adds_gates, cells_of, next_number, wires_of}
use Rattle.gate_nets.proofs.Nets.{Net, nothing}
use Rattle.gate_nets.proofs.Standing.{at_extended, fair_rows, here, here_reads, length-extended, outputs_met, reads, shape_kind}
use Rattle.gate_nets.proofs.Wholes.{cell_names, fair_names, gates_bits, gates_whole, names, no_instances, wire_names, wires_bare}

-- the connection of an output to bits
abbrev pub line_of : List SigBit → List SigBit → Link
line_of y bits = record { left = y; right = extended bits (length y) false }

-- gates, and then bits given to an output
adds_line : (y bits : List SigBit) (gates : List Gate) (b : Building) → Adds b (give_to y bits (gates_of gates b)) (cells_of b.next (length b.body.wires) gates) (wires_of b.next gates) (line_of y bits ∷ [])
adds_line y bits gates b =
    let h = adds_gates gates b in
    record {
      body =
          ap (λ (m : Module). record m { links = m.links ++ line_of y bits ∷ [] }) h.body
          ∙ (λ i. record b.body {
            cells = b.body.cells ++ cells_of b.next (length b.body.wires) gates;
            wires = b.body.wires ++ wires_of b.next gates;
            links = append-nil b.body.links i ++ line_of y bits ∷ [];
          });
      next = h.next;
    }

pub adds_given : (y : List SigBit) (m : Build (List SigBit)) (b : Building) (gates : List Gate) → (m b).1 ≡ gates_of gates b
    → Adds b (given y m b) (cells_of b.next (length b.body.wires) gates) (wires_of b.next gates) (line_of y (m b).0 ∷ [])
adds_given y m b gates e =
    subst (λ z. Adds b (give_to y (m b).0 z) (cells_of b.next (length b.body.wires) gates) (wires_of b.next gates) (line_of y (m b).0 ∷ [])) (sym e) (adds_line y (m b).0 gates b)

-- what is given does not go by the name of the module
pub given_renamed : (id : List ℕ) (y : List SigBit) (m : Build (List SigBit)) (b : Building) {W : List SigBit → Type 0} → Net nothing (Unit {0}) m W → given y m (renamed id b) ≡ renamed id (given y m b)
given_renamed id y m b n = ap (λ z. give_to y z.0 z.1) (n.unnamed id b)

-- how many numbers gates take
pub next_after : (gates : List Gate) (b : Building) → (gates_of gates b).next ≡ b.next + 2 * length gates
next_after [] b = omega arith
next_after (g ∷ gates) b = omega (arith, next_after gates (gate_of g b).1, next_number g b)

length-wires : (n : ℕ) (gates : List Gate) → length (wires_of n gates) ≡ length gates
length-wires n [] = refl
length-wires n (g ∷ gates) = ap suc (length-wires (n + 1 + 1) gates)

-- the bits of a cut or filled signal name wires that its own bits name
extended_in : (count : ℕ) (bits : List SigBit) (n : ℕ) → SigIn count bits → SigIn count (extended bits n false)
extended_in count bits n h = each_both (BitIn count) (take n bits) (replicate (n - length bits) (Fixed S0)) (taken n bits h) (zeros (n - length bits))
  where
    taken : (n : ℕ) (bits : List SigBit) → SigIn count bits → SigIn count (take n bits)
    taken zero [] k s i = absurd i
    taken zero (x ∷ bits) k s i = absurd i
    taken (suc n) [] k s i = absurd i
    taken (suc n) (x ∷ bits) k s (inl e) = k s (inl e)
    taken (suc n) (x ∷ bits) k s (inr i) = taken n bits (λ z j. k z (inr j)) s i

    zeros : (n : ℕ) → SigIn count (replicate n (Fixed S0))
    zeros zero s i = absurd i
    zeros (suc n) s (inl e) = subst (BitIn count) (sym e) tt
    zeros (suc n) s (inr i) = zeros n s i

-- a reading of the points of a signal
read_signal : (p : Path) (wires : List Wire) (w : Valuation) (bits : List SigBit) → read_all w (points p wires bits) ≡ map (λ s. read w (point p wires s)) bits
read_signal p wires w [] = refl
read_signal p wires w (s ∷ bits) = ap (λ z. read w (point p wires s) ∷ z) (read_signal p wires w bits)

-- a bit of the value of a word cell
word_value : (kind : WordKind) (shape : Shape) (inputs : List (List Point)) (at : ℕ) (t : Time Place) (w : Valuation) → shape.kind ≡ Word kind
    → driver_value (Worked shape inputs at) t w ≡ slice_index_or (word_values.value_of kind shape (input_of (read_words w inputs) 0) (input_of (read_words w inputs) 1) (input_of (read_words w inputs) 2)) at X
word_value kind shape inputs at t w e =
    ap (λ k. worked_of k shape (read_words w inputs) at) e ∙ ap (λ k. slice_index_or (value_by k shape (read_words w inputs)) at X) e

-- a bit of the value of a word cell, under a valuation
pub cell_value : (ports : Ports) (start : SigBit → Bit) (p : Path) (wires : List Wire) (t : Time Place) (w : Valuation) (c : Cell) (kind : WordKind) (at : ℕ)
    → slice_index_or (word_values.value_of kind (cell_shape (Word kind) c.params) (map (here ports start p wires t w) (pin_signal c A)) (map (here ports start p wires t w) (pin_signal c B)) (map (here ports start p wires t w) (pin_signal c S))) at X
    ≡ driver_value (Worked (cell_shape (Word kind) c.params) (pin_points p wires c.pins A ∷ pin_points p wires c.pins B ∷ pin_points p wires c.pins S ∷ []) at) t w
cell_value ports start p wires t w c kind at =
    let f : SigBit → Bit = here ports start p wires t w in
    let shape : Shape = cell_shape (Word kind) c.params in
    ap (λ z. slice_index_or (word_values.value_of kind shape z (map f (pin_signal c B)) (map f (pin_signal c S))) at X) (sym (read_signal p wires w (pin_signal c A)))
    ∙ ap (λ z. slice_index_or (word_values.value_of kind shape (read_all w (pin_points p wires c.pins A)) z (map f (pin_signal c S))) at X) (sym (read_signal p wires w (pin_signal c B)))
    ∙ ap (λ z. slice_index_or (word_values.value_of kind shape (read_all w (pin_points p wires c.pins A)) (read_all w (pin_points p wires c.pins B)) z) at X) (sym (read_signal p wires w (pin_signal c S)))
    ∙ sym (word_value kind shape (pin_points p wires c.pins A ∷ pin_points p wires c.pins B ∷ pin_points p wires c.pins S ∷ []) at t w (shape_kind (Word kind) c.params))

same_number : (n : ℕ) → not (n == n) ≡ false
same_number n = grind (arith, nat_tests)

-- some reading
unfoldable plain : SigBit → Bit
plain (Fixed b) = b
plain (OnWire b) = X

plain_reads : IsReading plain
unfolding plain
plain_reads = record { constant = λ b. refl }

line_whole : (count : ℕ) (y bits : List SigBit) → SigIn count y → SigIn count bits → has_constant y ≡ false → Each (IsWholeLink count) (line_of y bits ∷ [])
line_whole count y bits h k e l (inl is) = subst (IsWholeLink count) (sym is) (record {
  even = ap (λ n. not (length y == n)) (length-extended bits (length y) false) ∙ same_number (length y);
  left = e;
  within = (h, extended_in count bits (length y) k);
})
line_whole count y bits h k e l (inr i) = absurd i

module _ (c : Cell) (kind : WordKind) (m : Build (List SigBit)) (b : Building) where
  -- what a net adds whose inputs and result name wires of the module
  pub net_expands : IsWhole (length b.body.wires) (Word kind) c
      → ((count : ℕ) → length b.body.wires ≤ count → Net (names count) (Unit {0}) m (λ bits. SigIn count bits))
      → IsExpansion b (given (pin_signal c Y) m b) c
  net_expands whole net =
      let y : List SigBit = pin_signal c Y in
      let few : ℕ = length b.body.wires in
      let new : Building = given y m b in
      let count : ℕ = length new.body.wires in
      let first = net few (omega arith) in
      let grown : few ≤ count = omega (arith, wires_count b new _ _ _ (adds_given y m b (first.gates b) (first.is b))) in
      let n = net count grown in
      let gates : List Gate = n.gates b in
      let adds : Adds b new (cells_of b.next few gates) (wires_of b.next gates) (line_of y (m b).0 ∷ []) = adds_given y m b gates (n.is b) in
      let fits : few + length gates ≤ count = omega (arith, wires_count b new _ _ _ adds, length-wires b.next gates) in
      let fed = n.holds b tt (fair_names count few gates fits) in
      let numbers : b.next + 2 * length gates ≤ new.next = omega (arith, ap (λ z. z.next) (n.is b), next_after gates b) in
      expansion b new (cells_of b.next few gates) (wires_of b.next gates) (line_of y (m b).0 ∷ []) adds c (record {
        adds = adds;
        cell_names = cell_names b.next few gates new.next numbers;
        wire_names = wire_names b.next gates new.next numbers;
        bare = wires_bare b.next gates;
        gates = gates_whole count b.next few gates fed.0 fits;
        lines = line_whole count y (m b).0 (signal_in count c.pins (pin_text Y) (cell_more few count c grown whole.within)) fed.1 (output_wires (Word kind) c Y refl whole.output);
        driven =
            to_permutation _ _
            (ap (λ z. z ++ (wire_bits y ++ [])) (gates_bits b.next few gates) ∙ ap (λ z. bits_from few (wires_of b.next gates) ++ z) (append-nil (wire_bits y) ∙ ap (λ k. kind_bits k c) (sym whole.own)));
      })

  -- a net stands for a cell where each reading that obeys its gates has at least the cell's value of the result
  pub net_stands : cell_kind c ≡ Some (Word kind)
      → ((f : SigBit → Bit) (is : IsReading f) → Net (reads f is) (Unit {0}) m (λ bits. (at : ℕ) → at < length (pin_signal c Y) →
      Below (slice_index_or (word_values.value_of kind (cell_shape (Word kind) c.params) (map f (pin_signal c A)) (map f (pin_signal c B)) (map f (pin_signal c S))) at X) (f (slice_index_or bits at (Fixed S0)))))
      → (ports : Ports) (start : SigBit → Bit) (wires : List Wire)
      → StandsWith ports start wires c (cells_added b (given (pin_signal c Y) m b)) (links_added b (given (pin_signal c Y) m b))
  net_stands word net ports start wires =
      let y : List SigBit = pin_signal c Y in
      let new : Building = given y m b in
      let some = net plain plain_reads in
      let cells_of_some : cells_added b new ≡ cells_of b.next (length b.body.wires) (some.gates b) = cells_are b new _ _ _ (adds_given y m b (some.gates b) (some.is b)) in
      record {
        children =
            ap instances cells_of_some ∙ no_instances b.next (length b.body.wires) (some.gates b) ∙ ap (λ k. listed (instance_of c k) ++ []) (sym word);
        rows = λ p t w s before d i.
            rows_stand ports start p wires t w (λ x j. s.met x j) d (subst (λ k. In d (cell_rows start ports p wires c k)) word i);
      }
    where
      rows_stand : (ports : Ports) (start : SigBit → Bit) (p : Path) (wires : List Wire) (t : Time Place) (w : Valuation)
          → ((x : Driven) → In x (cells_rows start ports p wires (cells_added b (given (pin_signal c Y) m b)) ++ link_rows p wires (links_added b (given (pin_signal c Y) m b))) → IsMet x t w)
          → (d : Driven) → In d (cell_rows start ports p wires c (Some (Word kind))) → IsMet d t w
      rows_stand ports start p wires t w met d i =
          let y : List SigBit = pin_signal c Y in
          let new : Building = given y m b in
          let few : ℕ = length b.body.wires in
          let f : SigBit → Bit = here ports start p wires t w in
          let n = net f (here_reads ports start p wires t w) in
          let gates : List Gate = n.gates b in
          let adds : Adds b new (cells_of b.next few gates) (wires_of b.next gates) (line_of y (m b).0 ∷ []) = adds_given y m b gates (n.is b) in
          let cells : List Driven = cells_rows start ports p wires (cells_of b.next few gates) in
          let links : List Driven = link_rows p wires (line_of y (m b).0 ∷ []) in
          let all : (x : Driven) → In x (cells ++ links) → IsMet x t w =
          λ x j. met x (subst (λ z. In x (cells_rows start ports p wires z ++ link_rows p wires (links_added b new))) (sym (cells_are b new _ _ _ adds)) (subst (λ z. In x (cells ++ link_rows p wires z)) (sym (links_are b new _ _ _ adds)) j)) in
          let says = (n.holds b tt (fair_rows ports start p wires t w b.next few gates (λ x j. all x (In-left x cells links j)))).1 in
          let shape : Shape = cell_shape (Word kind) c.params in
          let words : List (List Point) = pin_points p wires c.pins A ∷ pin_points p wires c.pins B ∷ pin_points p wires c.pins S ∷ [] in
          let value : (at : ℕ) → slice_index_or (word_values.value_of kind shape (map f (pin_signal c A)) (map f (pin_signal c B)) (map f (pin_signal c S))) at X ≡ driver_value (Worked shape words at) t w = cell_value ports start p wires t w c kind in
          let below : (k : ℕ) → k < length y → Below (driver_value (Worked shape words (0 + k)) t w) (f (slice_index_or (extended (m b).0 (length y) false) k (Fixed S0))) =
          λ k lt.
          let zero_more : k ≡ 0 + k = omega arith in
          subst (λ z. Below (driver_value (Worked shape words z) t w) (f (slice_index_or (extended (m b).0 (length y) false) k (Fixed S0)))) zero_more
          (subst (λ z. Below (driver_value (Worked shape words k) t w) (f z)) (sym (at_extended (m b).0 (length y) k lt)) (subst (λ z. Below z (f (slice_index_or (m b).0 k (Fixed S0)))) (value k) (says k lt))) in
          outputs_met ports start p wires t w shape words y (extended (m b).0 (length y) false) 0 (length-extended (m b).0 (length y) false) below
          (λ x j. all x (In-right x cells links (In-left x (joins (points p wires y) (points p wires (extended (m b).0 (length y) false))) [] j))) d i
