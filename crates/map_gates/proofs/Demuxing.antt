-- The gates of `$demux` are an expansion of it and stand for it, part by part.
use Rattle.std.proofs.Common.{◌≡◌, ℕ, zero, suc, ◌+◌, ◌-◌, ◌*◌, ◌/◌, ◌%◌, ◌^◌, ◌<◌, ◌≤◌, Bool, true, false, List, [], ◌∷◌, ◌++◌, length, drop, map, take, Some, None, inl, inr, ◌⊎◌, ⊎_elim, refl, sym, ◌∙◌, ap, subst, arith}
use Rattle.std.specs.Prelude.{◌==◌, if◌then◌else◌, slice_index_or}
use Rattle.std.proofs.lemmas.Bool.{cases_lt, or_from, or_parts}
use Rattle.std.proofs.Math.ListN.{get_or-eq_default}
use Rattle.std.proofs.Math.Nat.{add-mul, mul_comm}
use Rattle.std.proofs.lemmas.List.{length-append, length-drop, length-map, length-take, take-append-drop, get_or_append_left, get_or-append-add, get_or-map}
use Rattle.std.proofs.lemmas.Nat.{mul-add-lt}
use Rattle.cell_types.specs.PinName.{pin_text}
use Rattle.cell_types.specs.declared.gate.GateKind.TheVariants as GateOf
use Rattle.cell_types.specs.declared.kind.CellKind.TheVariants.{Gate, Word}
use Rattle.cell_types.specs.declared.pin_name.PinName.TheVariants.{A, B, S, Y}
use Rattle.cell_types.specs.declared.shape.Shape.{Shape}
use Rattle.cell_types.specs.declared.word.BitwiseKind.TheVariants.{And}
use Rattle.cell_types.specs.declared.word.WordKind.TheVariants.{Demux}
use Rattle.cell_word.proofs.Numbered.{and_assoc, hit_of as hit_bit, hits_of, placed_hits}
use Rattle.cell_word.specs.Parts.{demuxed_of, placed_bit, placed_parts}
use Rattle.rtl_bits.proofs.Orders.{Below_from_equal, Below_refl, Below_trans}
use Rattle.rtl_bits.proofs.Tables.{and_of_mono}
use Rattle.rtl_bits.specs.Knowledge.{Below}
use Rattle.rtl_bits.specs.Tables.{and_of, not_of, seen_of}
use Rattle.rtl_bits.specs.declared.bit.Bit.{Bit}
use Rattle.rtl_bits.specs.declared.bit.Bit.TheVariants.{S0, S1, X}
use Rattle.rtl_ir.specs.Build.{Building}
use Rattle.rtl_ir.specs.Faults.Cells.{misfit}
use Rattle.rtl_ir.specs.Flat.Cell.{Ports, cell_kind, cell_rows, cell_shape, outputs}
use Rattle.rtl_ir.specs.Flat.Driver.{Driven, Worked}
use Rattle.rtl_ir.specs.Flat.Place.{Path, Place}
use Rattle.rtl_ir.specs.Flat.Point.{Point, Constant, At, point, points}
use Rattle.rtl_ir.specs.Signals.{has_constant, is_constant, wire_bits}
use Rattle.rtl_ir.specs.declared.cell.Cell.{Cell}
use Rattle.rtl_ir.specs.declared.wire.Wire.{Wire}
use Rattle.rtl_sig.specs.Signal.{fill_of}
use Rattle.rtl_sig.specs.declared.sig.SigBit.{SigBit}
use Rattle.rtl_sig.specs.declared.sig.SigBit.TheVariants.{Fixed, Wire as OnWire}
use Rattle.net_index.specs.BuilderNames.{gate_name}
use Rattle.net_model.proofs.Members.{In-left, In-right}
use Rattle.net_model.proofs.Ranges.{signal_in}
use Rattle.net_model.specs.Lists.{In}
use Rattle.net_model.specs.Refine.{IsMet}
use Rattle.net_model.specs.Run.{Time}
use Rattle.net_model.specs.Valuation.{Valuation}
use Rattle.net_model.specs.Value.{value_of}
use Rattle.net_model.specs.Within.{SigIn}
use Rattle.map_laws.proofs.Wholes.{bit_more}
use Rattle.map_laws.specs.Expansion.{IsExpansion, IsWhole, StandsWith, cells_added, kind_bits, links_added}
use Rattle.map_laws.specs.Operand.{pin_signal}
use Rattle.pass_laws.proofs.Outputs.{output_wires}
use Rattle.gate_nets.proofs.Expanding.{cell_value}
use Rattle.gate_nets.proofs.Nets.{Goods, Logic, Net, folded_at, joined_at, net_fold, net_inverse, net_since, nothing, same_rest}
use Rattle.gate_nets.proofs.Operands.{goods_in, goods_own, length_map}
use Rattle.gate_nets.proofs.Standing.{here, here_reads, reads}
use Rattle.gate_nets.proofs.Wholes.{names}
use Rattle.gate_nets.specs.Gate.{one}
use Rattle.gate_nets.specs.Words.{inverse_of}
use Rattle.map_gates.proofs.Adding.{cell_named, cells_from, puts}
use Rattle.map_gates.proofs.Choosing.{seen_below}
use Rattle.map_gates.proofs.Expanding.{each_adds, each_piece}
use Rattle.map_gates.proofs.Gating.{binary_for, one_in, operand_in}
use Rattle.map_gates.proofs.PartWidths.{placed_widths}
use Rattle.map_gates.proofs.Pieces.{Piece, Says, net_grows, net_piece, net_says, piece_expands, piece_grows, piece_more, piece_none, says_more, says_none, says_since, says_stands}
use Rattle.map_gates.proofs.Standing.{gate_named, gate_value, no_instances, rows_met, words_of}
use Rattle.map_gates.specs.Gates.{bit_at, each_bit}
use Rattle.map_gates.specs.Parts.{demux_gates, hit_of, hits_for, part_gates, parts_from}

-- the bits that are joined for a number
abbrev hit_bits : List Bit → ℕ → List Bit
hit_bits [] n = []
hit_bits (b ∷ s) n = (if n % 2 == 1 then b else not_of b) ∷ hit_bits s (n / 2)

hit_below : (b : Bit) (t : Bool) → Below (if t then seen_of b else not_of b) (if t then b else not_of b)
hit_below b true = seen_below b
hit_below b false = Below_refl (not_of b)

and_one : (c : Bit) → Below (and_of c S1) c
and_one S0 = refl
and_one S1 = refl
and_one c = tt

-- the bits joined from the lowest up are at least whether all of them are 1
hits_joined : (s : List Bit) (n : ℕ) (c : Bit) → Below (and_of c (hits_of s n)) (folded_at And c (λ at. slice_index_or (hit_bits s n) at X) (length s))
hits_joined [] n c = and_one c
hits_joined (b ∷ s) n c =
    let h : Bit = if n % 2 == 1 then b else not_of b in
    let rest : Bit = hits_of s (n / 2) in
    let more : Below (and_of (and_of c (hit_bit b (n % 2))) rest) (and_of (and_of c h) rest) =
    and_of_mono (and_of c (hit_bit b (n % 2))) (and_of c h) rest rest (and_of_mono c c (hit_bit b (n % 2)) h (Below_refl c) (hit_below b (n % 2 == 1))) (Below_refl rest)
    in
    Below_trans (and_of c (and_of (hit_bit b (n % 2)) rest)) (and_of (and_of c h) rest) (folded_at And c (λ at. slice_index_or (hit_bits (b ∷ s) n) at X) (length (b ∷ s)))
    (subst (λ z. Below z (and_of (and_of c h) rest)) (sym (and_assoc c (hit_bit b (n % 2)) rest)) more)
    (hits_joined s (n / 2) (and_of c h))

hits_below : (s : List Bit) (n : ℕ) → Below (hits_of s n) (joined_at And (λ at. slice_index_or (hit_bits s n) at X) (length s))
hits_below [] n = refl
hits_below (b ∷ s) n =
    let h : Bit = if n % 2 == 1 then b else not_of b in
    let rest : Bit = hits_of s (n / 2) in
    Below_trans (and_of (hit_bit b (n % 2)) rest) (and_of h rest) (joined_at And (λ at. slice_index_or (hit_bits (b ∷ s) n) at X) (length (b ∷ s)))
    (and_of_mono (hit_bit b (n % 2)) h rest rest (hit_below b (n % 2 == 1)) (Below_refl rest))
    (hits_joined s (n / 2) h)

length_parts : (a s : List Bit) (n : ℕ) → length (placed_parts a s n) ≡ n * length a
length_parts a s zero = omega arith
length_parts a s (suc n) =
    let more : n * length a + length a ≡ suc n * length a = grind arith in
    length-append (placed_parts a s n) (map (placed_bit s n) a) ∙ (λ i. length_parts a s n i + length-map a (placed_bit s n) i) ∙ more

past_end : (x y z at : ℕ) → x ≡ y + z → y ≤ x + at
past_end x y z at e = omega (arith, e)

-- a bit of the word in a part
placed_at : (a s : List Bit) (n part at : ℕ) → at < length a → Below (slice_index_or (placed_parts a s n) (part * length a + at) X) (placed_bit s part (slice_index_or a at X))
placed_at a s zero part at lt = tt
placed_at a s (suc n) part at lt =
    ⊎_elim
    (λ less. subst (λ z. Below z own) (sym (get_or_append_left before last X place (inside less))) (placed_at a s n part at lt))
    (λ more. ⊎_elim (λ past. subst (λ z. Below z own) (sym (behind past)) tt) (λ le. at_last (omega (arith, more, le))) (cases_lt n part))
    (cases_lt part n)
  where
    before : List Bit
    before = placed_parts a s n

    last : List Bit
    last = map (placed_bit s n) a

    place : ℕ
    place = part * length a + at

    own : Bit
    own = placed_bit s part (slice_index_or a at X)

    inside : part < n → place < length before
    inside less =
        subst (λ m. place < m) (mul_comm (length a) n ∙ sym (length_parts a s n)) (mul-add-lt part (length a) at n less lt)

    at_last : part ≡ n → Below (slice_index_or (before ++ last) place X) own
    at_last e =
        let here : length before + at ≡ place = ap (λ m. m + at) (length_parts a s n ∙ ap (λ m. m * length a) (sym e)) in
        let bit : slice_index_or (before ++ last) (length before + at) X ≡ placed_bit s n (slice_index_or a at X) =
        get_or-append-add before last at X ∙ get_or-map (placed_bit s n) a at X X lt
        in
        Below_from_equal (slice_index_or (before ++ last) place X) own (ap (λ m. slice_index_or (before ++ last) m X) (sym here) ∙ bit ∙ ap (λ m. placed_bit s m (slice_index_or a at X)) (sym e))

    behind : n < part → slice_index_or (before ++ last) place X ≡ X
    behind past =
        let k : ℕ = part - suc n in
        let far : part ≡ suc n + k = omega (arith, past) in
        let le : suc n * length a ≤ part * length a + at =
        past_end (part * length a) (suc n * length a) (k * length a) at (ap (λ m. m * length a) far ∙ add-mul (suc n) k (length a))
        in
        get_or-eq_default (before ++ last) X (subst (λ m. m ≤ part * length a + at) (sym (length_parts a s (suc n))) le)

module _ (l : Logic) where
  -- the joined bits have what is joined for the number
  goods_hits : (g : SigBit → Bit) (s inverses : List SigBit) (n : ℕ) → length inverses ≡ length s → ((x : SigBit) → In x s → l.Has (g x) x) → Goods l (λ at. not_of (slice_index_or (map g s) at X)) inverses
      → Goods l (λ at. slice_index_or (hit_bits (map g s) n) at X) (hits_for s inverses n) × (length (hits_for s inverses n) ≡ length (map g s))
  goods_hits g [] inverses n e h k = (tt, refl)
  goods_hits g (x ∷ s) [] n e h k = absurd (omega (arith, e))
  goods_hits g (x ∷ s) (y ∷ inverses) n e h k =
      let rest = goods_hits g s inverses (n / 2) (same_rest (length inverses) (length s) e) (λ z i. h z (inr i)) k.1 in
      ((by (n % 2 == 1), rest.0), ap suc rest.1)
    where
      by : (t : Bool) → l.Has (if t then g x else not_of (g x)) (if t then x else y)
      by true = h x (inl refl)
      by false = k.0

  -- the inverses have the inverse bits
  abbrev Inverted : (SigBit → Bit) → List SigBit → List SigBit → Type 0
  Inverted g s inverses = Goods l (λ at. not_of (slice_index_or (map g s) at X)) inverses × (length inverses ≡ length s)

  net_inverted : (g : SigBit → Bit) (s : List SigBit) {R : Type 0} → ((x : SigBit) → In x s → l.Has (g x) x) → Net l R (inverse_of s) (Inverted g s)
  net_inverted g s h = net_inverse l (λ at. slice_index_or (map g s) at X) s (λ r. goods_own l g X s h)

  net_hit : (g : SigBit → Bit) (s inverses : List SigBit) (n : ℕ) → ((x : SigBit) → In x s → l.Has (g x) x)
      → Net l (Inverted g s inverses) (hit_of s inverses n) (l.Has (joined_at And (λ at. slice_index_or (hit_bits (map g s) n) at X) (length (map g s))))
  net_hit g s inverses n h =
      let u : ℕ → Bit = λ at. slice_index_or (hit_bits (map g s) n) at X in
      net_since l (net_fold l And u (hits_for s inverses n) (λ r. (goods_hits g s inverses n r.1 h r.0).0))
      (λ y r has. subst (λ k. l.Has (joined_at And u k) y) (goods_hits g s inverses n r.1 h r.0).1 has)

-- the bits of a signal up to a place and from it on
taken_in : (count n : ℕ) (bits : List SigBit) → SigIn count bits → SigIn count (take n bits)
taken_in count n bits h x i = h x (subst (In x) (take-append-drop n bits) (In-left x (take n bits) (drop n bits) i))

dropped_in : (count n : ℕ) (bits : List SigBit) → SigIn count bits → SigIn count (drop n bits)
dropped_in count n bits h x i = h x (subst (In x) (take-append-drop n bits) (In-right x (take n bits) (drop n bits) i))

constants_both : (xs ys : List SigBit) → has_constant (xs ++ ys) ≡ false → (has_constant xs ≡ false) × (has_constant ys ≡ false)
constants_both [] ys e = (refl, e)
constants_both (x ∷ xs) ys e =
    let p = or_parts (is_constant x) (has_constant (xs ++ ys)) e in
    let rest = constants_both xs ys p.1 in
    (or_from (is_constant x) (has_constant xs) p.0 rest.0, rest.1)

no_constants : (n : ℕ) (bits : List SigBit) → has_constant bits ≡ false → (has_constant (take n bits) ≡ false) × (has_constant (drop n bits) ≡ false)
no_constants n bits e = constants_both (take n bits) (drop n bits) (ap has_constant (take-append-drop n bits) ∙ e)

wire_bits_both : (xs ys : List SigBit) → wire_bits (xs ++ ys) ≡ wire_bits xs ++ wire_bits ys
wire_bits_both [] ys = refl
wire_bits_both (Fixed c ∷ xs) ys = wire_bits_both xs ys
wire_bits_both (OnWire b ∷ xs) ys = ap (λ z. b ∷ z) (wire_bits_both xs ys)

more_in : (few many : ℕ) (bits : List SigBit) → few ≤ many → SigIn few bits → SigIn many bits
more_in few many bits le h x i = bit_more few many x le (h x i)

names_in : (count : ℕ) (v : ℕ → Bit) (bits : List SigBit) → SigIn count bits → Goods (names count) v bits
names_in count v [] h = tt
names_in count v (b ∷ bits) h = (h b (inl refl), names_in count (λ k. v (suc k)) bits (λ x i. h x (inr i)))

plus_none : (n : ℕ) → n ≡ n + 0
plus_none n = omega arith

-- a word of one bit, filled up with its top bit, has that bit everywhere
only_bit : (m : SigBit) (at : ℕ) → m ≡ bit_at true (m ∷ []) at
only_bit m zero = refl
only_bit m (suc at) = refl

-- the cell of the and-gate of a part, with whether S is its number
abbrev part_cell : List SigBit → SigBit → ℕ → ℕ → SigBit → Cell
part_cell a m at n y = cell_named (gate_name GateOf.And) [] (one A (bit_at true (m ∷ []) at) ∷ one B (bit_at true a at) ∷ one Y y ∷ []) n

-- parts of words that are not empty get fewer
no_parts : (a : List SigBit) (y : SigBit) (ys : List SigBit) → (length a ≡ 0 → length (y ∷ ys) ≡ 0) → length a ≡ 0 → ⊥
no_parts a y ys some e = omega (arith, some e)

fewer : (a : List SigBit) (most : ℕ) (y : SigBit) (ys : List SigBit) → length (y ∷ ys) ≤ suc most → (length a ≡ 0 → length (y ∷ ys) ≡ 0) → length (drop (length a) (y ∷ ys)) ≤ most
fewer a most y ys le some =
    ⊎_elim
    (λ lt. omega (arith, le, lt, length-drop (length a) (y ∷ ys)))
    (λ none. absurd (no_parts a y ys some (omega (arith, none))))
    (cases_lt 0 (length a))

-- the gates are pieces that drive the bits of Y
module _ (a s : List SigBit) where
  -- the operands, the inverses and the output name wires among so many, and the output has no constant
  record AreIn (count : ℕ) (inverses ys : List SigBit) : Type 0 where
    in_a : SigIn count a
    in_s : SigIn count s
    inverted : SigIn count inverses
    even : length inverses ≡ length s
    in_y : SigIn count ys
    free : has_constant ys ≡ false

  part_piece : (inverses : List SigBit) (part : ℕ) (ys : List SigBit) (b : Building) → AreIn (length b.body.wires) inverses ys → Piece b (part_gates a s inverses part ys b) (wire_bits ys)
  part_piece inverses part ys b h =
      let m : SigBit × Building = hit_of s inverses part b in
      let few : ℕ = length b.body.wires in
      let count : ℕ = length m.1.body.wires in
      let grown : few ≤ count = net_grows (hit_of s inverses part) b (net_hit nothing (λ x. X) s inverses part (λ x i. tt)) in
      let first =
      net_piece (hit_of s inverses part) b (net_hit (names count) (λ x. X) s inverses part (more_in few count s grown h.in_s))
      (names_in count _ inverses (more_in few count inverses grown h.inverted), h.even)
      in
      let rest : Piece m.1 (part_gates a s inverses part ys b) (wire_bits ys) =
      each_piece (part_cell a m.0) ys m.1
      (λ at n y k e. binary_for count n y k e And (bit_at true (m.0 ∷ []) at) (bit_at true a at)
      (operand_in count true (m.0 ∷ []) at (one_in count m.0 first.1)) (operand_in count true a at (more_in few count a grown h.in_a)))
      (more_in few count ys grown h.in_y) h.free
      in
      piece_more b m.1 (part_gates a s inverses part ys b) [] (wire_bits ys) first.0 rest

  parts_piece : (inverses : List SigBit) (part most : ℕ) (ys : List SigBit) (b : Building) → length ys ≤ most → (length a ≡ 0 → length ys ≡ 0) → AreIn (length b.body.wires) inverses ys
      → Piece b (parts_from a s inverses part most ys b) (wire_bits ys)
  parts_piece inverses part zero [] b le some h = piece_none b
  parts_piece inverses part zero (y ∷ ys) b le some h = absurd (omega (arith, le))
  parts_piece inverses part (suc most) [] b le some h = piece_none b
  parts_piece inverses part (suc most) (y ∷ ys) b le some h =
      let xs : List SigBit = take (length a) (y ∷ ys) in
      let zs : List SigBit = drop (length a) (y ∷ ys) in
      let few : ℕ = length b.body.wires in
      let next : Building = part_gates a s inverses part xs b in
      let free = no_constants (length a) (y ∷ ys) h.free in
      let first : Piece b next (wire_bits xs) =
      part_piece inverses part xs b (record {
        in_a = h.in_a;
        in_s = h.in_s;
        inverted = h.inverted;
        even = h.even;
        in_y = taken_in few (length a) (y ∷ ys) h.in_y;
        free = free.0;
      })
      in
      let count : ℕ = length next.body.wires in
      let grown : few ≤ count = piece_grows b next (wire_bits xs) first in
      let rest : Piece next (parts_from a s inverses (part + 1) most zs next) (wire_bits zs) =
      parts_piece inverses (part + 1) most zs next (fewer a most y ys le some) (λ e. absurd (no_parts a y ys some e)) (record {
        in_a = more_in few count a grown h.in_a;
        in_s = more_in few count s grown h.in_s;
        inverted = more_in few count inverses grown h.inverted;
        even = h.even;
        in_y = more_in few count zs grown (dropped_in few (length a) (y ∷ ys) h.in_y);
        free = free.1;
      })
      in
      subst (Piece b (parts_from a s inverses (part + 1) most zs next)) (sym (wire_bits_both xs zs) ∙ ap wire_bits (take-append-drop (length a) (y ∷ ys)))
      (piece_more b next (parts_from a s inverses (part + 1) most zs next) (wire_bits xs) (wire_bits zs) first rest)

module _ (ports : Ports) (start : SigBit → Bit) (p : Path) (wires : List Wire) (t : Time Place) (w : Valuation) where
  -- the rows of an output are those of its first bits and those of the rest
  outputs_split : (shape : Shape) (words : List (List Point)) (n : ℕ) (ys : List SigBit) (at : ℕ) (d : Driven) → In d (outputs shape words (points p wires ys) at)
      → In d (outputs shape words (points p wires (take n ys)) at) ⊎ In d (outputs shape words (points p wires (drop n ys)) (at + n))
  outputs_split shape words zero [] at d i = absurd i
  outputs_split shape words zero (y ∷ ys) at d i =
      inr (subst (λ k. In d (outputs shape words (points p wires (y ∷ ys)) k)) (plus_none at) i)
  outputs_split shape words (suc n) [] at d i = absurd i
  outputs_split shape words (suc n) (y ∷ ys) at d i =
      by (point p wires y) (outputs_split shape words n ys (suc at) d) i
    where
      moved : In d (outputs shape words (points p wires (drop n ys)) (suc at + n)) → In d (outputs shape words (points p wires (drop n ys)) (at + suc n))
      moved j =
          let place : suc at + n ≡ at + suc n = omega arith in
          subst (λ k. In d (outputs shape words (points p wires (drop n ys)) k)) place j

      by : (l : Point) → (In d (outputs shape words (points p wires ys) (suc at)) → In d (outputs shape words (points p wires (take n ys)) (suc at)) ⊎ In d (outputs shape words (points p wires (drop n ys)) (suc at + n)))
          → In d (outputs shape words (l ∷ points p wires ys) at) → In d (outputs shape words (l ∷ points p wires (take n ys)) at) ⊎ In d (outputs shape words (points p wires (drop n ys)) (at + suc n))
      by (Constant c) next j = ⊎_elim (λ u. inl u) (λ v. inr (moved v)) (next j)
      by (At q) next (inl o) = inl (inl o)
      by (At q) next (inr j) = ⊎_elim (λ u. inl (inr u)) (λ v. inr (moved v)) (next j)

  -- how the bits of signals are read
  abbrev seen : SigBit → Bit
  seen = here ports start p wires t w

  abbrev logic : Logic
  logic = reads (here ports start p wires t w) (here_reads ports start p wires t w)

  -- a bit of a word is below the bit of the operand
  own_below : (bits : List SigBit) (at : ℕ) (d : SigBit) → Below (slice_index_or (map seen bits) at X) (seen (slice_index_or bits at d))
  own_below [] at d = tt
  own_below (b ∷ bits) zero d = Below_refl (seen b)
  own_below (b ∷ bits) (suc at) d = own_below bits at d

  module _ (c : Cell) where
    abbrev bits_a : List SigBit
    bits_a = pin_signal c A

    abbrev bits_s : List SigBit
    bits_s = pin_signal c S

    abbrev shape : Shape
    shape = cell_shape (Word Demux) c.params

    -- a bit of a part is the and of whether S is the part's number and the bit of A
    word_bit : (part at : ℕ) (z : Bit) → at < length bits_a → Below (and_of (hits_of (map seen bits_s) part) (slice_index_or (map seen bits_a) at X)) z
        → Below (value_of (Worked shape (words_of p wires c) (part * length bits_a + at)) t w) z
    word_bit part at z lt h =
        let a : List Bit = map seen bits_a in
        let s : List Bit = map seen bits_s in
        let long : length a ≡ length bits_a = length_map seen bits_a in
        let place : ℕ = part * length bits_a + at in
        let own : Below (slice_index_or (demuxed_of a s) (part * length a + at) X) (placed_bit s part (slice_index_or a at X)) =
        placed_at a s (2 ^ length s) part at (subst (λ n. at < n) (sym long) lt)
        in
        let bit : Below (placed_bit s part (slice_index_or a at X)) z =
        subst (λ v. Below v z) (sym (placed_hits s part (slice_index_or a at X))) h
        in
        subst (λ v. Below v z) (cell_value ports start p wires t w c Demux place)
        (Below_trans (slice_index_or (demuxed_of a s) place X) (placed_bit s part (slice_index_or a at X)) z (subst (λ n. Below (slice_index_or (demuxed_of a s) (part * n + at) X) (placed_bit s part (slice_index_or a at X))) long own) bit)

    -- what an and-gate reads
    abbrev gate_words : SigBit → ℕ → List (List Point)
    gate_words m at = (point p wires (bit_at true (m ∷ []) at) ∷ []) ∷ (point p wires (bit_at true bits_a at) ∷ []) ∷ [] ∷ []

    -- the bit m says at least whether S is the number of the part
    abbrev IsHit : ℕ → SigBit → Type 0
    IsHit part m = Below (joined_at And (λ at. slice_index_or (hit_bits (map seen bits_s) part) at X) (length (map seen bits_s))) (seen m)

    gate_says : (part : ℕ) (m : SigBit) → IsHit part m → (at : ℕ) (z : Bit) → at < length bits_a → Below (value_of (Worked (cell_shape (Gate GateOf.And) []) (gate_words m at) 0) t w) z
        → Below (value_of (Worked shape (words_of p wires c) (part * length bits_a + at)) t w) z
    gate_says part m hit at z lt h =
        let left : Bit = seen (bit_at true (m ∷ []) at) in
        let right : Bit = seen (bit_at true bits_a at) in
        let number : Below (hits_of (map seen bits_s) part) left =
        subst (λ x. Below (hits_of (map seen bits_s) part) (seen x)) (only_bit m at) (Below_trans (hits_of (map seen bits_s) part) (joined_at And (λ at. slice_index_or (hit_bits (map seen bits_s) part) at X) (length (map seen bits_s))) (seen m) (hits_below (map seen bits_s) part) hit)
        in
        word_bit part at z lt
        (Below_trans (and_of (hits_of (map seen bits_s) part) (slice_index_or (map seen bits_a) at X)) (and_of left right) z
        (and_of_mono (hits_of (map seen bits_s) part) left (slice_index_or (map seen bits_a) at X) right number (own_below bits_a at (fill_of bits_a true)))
        (subst (λ v. Below v z) (gate_value GateOf.And (gate_words m at) t w) h))

    each_says : (part : ℕ) (m : SigBit) (ys : List SigBit) (b : Building) → length ys ≤ length bits_a
        → Says ports start p wires t w b (each_bit (puts (part_cell bits_a m)) 0 ys b) (IsHit part m → (d : Driven) → In d (outputs shape (words_of p wires c) (points p wires ys) (part * length bits_a)) → IsMet d t w)
    each_says part m ys b le =
        let named : (at n : ℕ) (y : SigBit) → cell_kind (part_cell bits_a m at n y) ≡ Some (Gate GateOf.And) =
        λ at n y. gate_named GateOf.And (one A (bit_at true (m ∷ []) at) ∷ one B (bit_at true bits_a at) ∷ one Y y ∷ []) n
        in
        record {
          cells = cells_from (part_cell bits_a m) 0 b.next ys;
          fresh = [];
          adds = each_adds (part_cell bits_a m) 0 ys b;
          childless = no_instances (part_cell bits_a m) (Gate GateOf.And) named 0 b.next ys;
          says = λ met hit d i.
              rows_met ports start p wires t w shape (cell_shape (Gate GateOf.And) []) (words_of p wires c) (part_cell bits_a m) (gate_words m) (part * length bits_a) (length bits_a)
              (λ at n y. ap (cell_rows start ports p wires (part_cell bits_a m at n y)) (named at n y))
              (λ at z lt h. gate_says part m hit at z lt h) 0 b.next ys (omega (arith, le)) met
              d (subst (λ k. In d (outputs shape (words_of p wires c) (points p wires ys) k)) (plus_none (part * length bits_a)) i);
        }

    part_says : (inverses : List SigBit) (part : ℕ) (ys : List SigBit) (b : Building) → length ys ≤ length bits_a
        → Says ports start p wires t w b (part_gates bits_a bits_s inverses part ys b) (Inverted logic seen bits_s inverses → (d : Driven) → In d (outputs shape (words_of p wires c) (points p wires ys) (part * length bits_a)) → IsMet d t w)
    part_says inverses part ys b le =
        let m : SigBit × Building = hit_of bits_s inverses part b in
        says_since ports start p wires t w
        (says_more ports start p wires t w b m.1 (part_gates bits_a bits_s inverses part ys b)
        (net_says ports start p wires t w (hit_of bits_s inverses part) b (net_hit logic seen bits_s inverses part (λ x i. Below_refl (seen x))))
        (each_says part m.0 ys m.1 le))
        (λ both r d i. both.1 (both.0 r) d i)

    parts_say : (inverses : List SigBit) (part most : ℕ) (ys : List SigBit) (b : Building) → length ys ≤ most → (length bits_a ≡ 0 → length ys ≡ 0)
        → Says ports start p wires t w b (parts_from bits_a bits_s inverses part most ys b) (Inverted logic seen bits_s inverses → (d : Driven) → In d (outputs shape (words_of p wires c) (points p wires ys) (part * length bits_a)) → IsMet d t w)
    parts_say inverses part zero [] b le some = says_none ports start p wires t w b (λ r d i. absurd i)
    parts_say inverses part zero (y ∷ ys) b le some = absurd (omega (arith, le))
    parts_say inverses part (suc most) [] b le some = says_none ports start p wires t w b (λ r d i. absurd i)
    parts_say inverses part (suc most) (y ∷ ys) b le some =
        let n : ℕ = length bits_a in
        let xs : List SigBit = take n (y ∷ ys) in
        let zs : List SigBit = drop n (y ∷ ys) in
        let next : Building = part_gates bits_a bits_s inverses part xs b in
        let place : part * n + n ≡ (part + 1) * n = grind arith in
        says_since ports start p wires t w
        (says_more ports start p wires t w b next (parts_from bits_a bits_s inverses (part + 1) most zs next)
        (part_says inverses part xs b (omega (arith, length-take n (y ∷ ys))))
        (parts_say inverses (part + 1) most zs next (fewer bits_a most y ys le some) (λ e. absurd (no_parts bits_a y ys some e))))
        (λ both r d i.
        ⊎_elim
        (λ u. both.0 r d u)
        (λ v. both.1 r d (subst (λ k. In d (outputs shape (words_of p wires c) (points p wires zs) k)) place v))
        (outputs_split shape (words_of p wires c) n (y ∷ ys) (part * n) d i))

module _ (c : Cell) (b : Building) where
  abbrev word_a : List SigBit
  word_a = pin_signal c A

  abbrev selects : List SigBit
  selects = pin_signal c S

  abbrev output : List SigBit
  output = pin_signal c Y

  empty_parts : misfit (Word Demux) c ≡ None → length word_a ≡ 0 → length output ≡ 0
  empty_parts fit e =
      let none : 0 * 2 ^ length selects ≡ 0 = omega arith in
      placed_widths c fit ∙ ap (λ n. n * 2 ^ length selects) e ∙ none

  pub demux_expands : IsWhole (length b.body.wires) (Word Demux) c → IsExpansion b (demux_gates word_a selects output b) c
  demux_expands whole =
      let few : ℕ = length b.body.wires in
      let inverse : List SigBit × Building = inverse_of selects b in
      let count : ℕ = length inverse.1.body.wires in
      let grown : few ≤ count = net_grows (inverse_of selects) b (net_inverted nothing (λ x. X) selects {R = Unit {0}} (λ x i. tt)) in
      let within : (bits : List SigBit) → SigIn few bits → SigIn count bits = λ bits h. more_in few count bits grown h in
      let in_s : SigIn count selects = within selects (signal_in few c.pins (pin_text S) whole.within) in
      let first = net_piece (inverse_of selects) b (net_inverted (names count) (λ x. X) selects {R = Unit {0}} in_s) tt in
      let rest : Piece inverse.1 (demux_gates word_a selects output b) (wire_bits output) =
      parts_piece word_a selects inverse.0 0 (length output) output inverse.1 (omega arith) (empty_parts whole.shape) (record {
        in_a = within word_a (signal_in few c.pins (pin_text A) whole.within);
        in_s = in_s;
        inverted = goods_in count _ inverse.0 first.1.0;
        even = first.1.1;
        in_y = within output (signal_in few c.pins (pin_text Y) whole.within);
        free = output_wires (Word Demux) c Y refl whole.output;
      })
      in
      piece_expands b (demux_gates word_a selects output b) c
      (subst (Piece b (demux_gates word_a selects output b)) (ap (λ k. kind_bits k c) (sym whole.own))
      (piece_more b inverse.1 (demux_gates word_a selects output b) [] (wire_bits output) first.0 rest))

  pub demux_stands : misfit (Word Demux) c ≡ None → cell_kind c ≡ Some (Word Demux) → (ports : Ports) (start : SigBit → Bit) (wires : List Wire)
      → StandsWith ports start wires c (cells_added b (demux_gates word_a selects output b)) (links_added b (demux_gates word_a selects output b))
  demux_stands fit word ports start wires =
      says_stands ports start wires c Demux b (demux_gates word_a selects output b) word
      (λ p t w.
      let inverse : List SigBit × Building = inverse_of selects b in
      let f : SigBit → Bit = here ports start p wires t w in
      let first : 0 ≡ 0 * length word_a = omega arith in
      says_since ports start p wires t w
      (says_more ports start p wires t w b inverse.1 (demux_gates word_a selects output b)
      (net_says ports start p wires t w (inverse_of selects) b (net_inverted (reads f (here_reads ports start p wires t w)) f selects {R = Unit {0}} (λ x i. Below_refl (f x))))
      (parts_say ports start p wires t w c inverse.0 0 (length output) output inverse.1 (omega arith) (empty_parts fit)))
      (λ both d i. both.1 (both.0 tt) d (subst (λ k. In d (outputs (cell_shape (Word Demux) c.params) (words_of p wires c) (points p wires output) k)) first i)))
