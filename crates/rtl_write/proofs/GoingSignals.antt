-- Reading goes over signals: what is read of the runs of a signal is the signal.
use Rattle.std.proofs.Common.{◌≡◌, ℕ, zero, suc, ◌+◌, ◌-◌, ◌<◌, ◌≤◌, ◌^◌, inl, inr, List, [], ◌∷◌, ◌++◌, length, take, drop, map, append_assoc, append-nil, Option, Some, Result, Ok, Err, Bool, true, false, refl, sym, ap, subst, ◌∙◌, arith, length-append}
use Rattle.std.specs.Prelude.{◌==◌, ◌&&◌, ◌||◌, ℤ, pos, nat_lt, nat_le, slice_get, if◌then◌else◌}
use Rattle.std.specs.List.{All, flat_map}
use Rattle.std.specs.Fmt.{decimal}
use Rattle.std.proofs.lemmas.Bool.{le-ltb, lt-ltb, lt-leb, and_parts, eqb-true, or_from}
use Rattle.std.proofs.lemmas.List.Elements.{All-head, All-tail}
use Rattle.rtl_lex.specs.declared.place.Place.{Place}
use Rattle.rtl_lex.specs.declared.sort.Sort.{Sort}
use Rattle.rtl_lex.specs.declared.sort.Sort.TheVariants as sorts
use Rattle.rtl_lex.specs.declared.token.TokenKind.TheVariants as kinds
use Rattle.rtl_lex.specs.Sorts.{mark_sort}
use Rattle.rtl_lex.specs.Items.{Seen}
use Rattle.rtl_bits.specs.declared.bit.Bit.{Bit}
use Rattle.rtl_sig.specs.declared.sig.SigBit.{SigBit}
use Rattle.rtl_sig.specs.declared.sig.SigBit.TheVariants as bits
use Rattle.rtl_sig.specs.Names.{number_of, AreDistinct}
use Rattle.rtl_ir.specs.declared.value.Value.{Value}
use Rattle.rtl_ir.specs.declared.value.Value.TheVariants as values
use Rattle.rtl_ir.specs.declared.wire.Wire.{Wire}
use Rattle.rtl_grammar.specs.declared.expect.Expect.{Expect}
use Rattle.rtl_grammar.specs.declared.expect.Expect.TheVariants as expects
use Rattle.rtl_grammar.specs.Grammar.{after}
use Rattle.rtl_grammar.specs.Uses.{◌>>=◌}
use Rattle.rtl_read.specs.declared.draft.Draft.{Draft}
use Rattle.rtl_ir.specs.declared.limits.TheConstants.{MAX_BITS, MAX_DEPTH, MAX_WIDTH}
use Rattle.rtl_read.specs.declared.read_fault.ReadFault.{ReadFault}
use Rattle.rtl_read.specs.declared.read_fault.ReadFault.TheVariants as faults
use Rattle.rtl_read.specs.declared.signal.OpenSignal.{OpenSignal}
use Rattle.rtl_read.specs.Constant.{integer, fixed}
use Rattle.rtl_read.specs.Signal.{wire_bits, width_at, wire_signal, put_below, inside, slice}
use Rattle.rtl_read.specs.Act.{act}
use Rattle.rtl_read.specs.Act.Signal.{begin_signal, open_bracket}
use Rattle.rtl_write.specs.Constant.{bits_text}
use Rattle.rtl_write.specs.Signal.{runs_of}
use Rattle.rtl_readable.specs.Readable.{IsWire, IsSignal}
use Rattle.rtl_write.proofs.Printed.{Printed, Piece}
use Rattle.rtl_write.proofs.Lexing.{seen_at}
use Rattle.rtl_write.proofs.Integers.{integer_back}
use Rattle.rtl_write.proofs.Runs.{rising, IsRun, joined, rising_more, length_rising, cut}
use Rattle.rtl_write.proofs.WholeText.{wire_at, constants_back}
use Rattle.rtl_write.proofs.Names.{number_at}
use Rattle.rtl_write.proofs.Going.{Goes, goes_on, value_read, okay}
use Rattle.rtl_write.proofs.Tokens as tokens
use Rattle.rtl_write.proofs.Tokens.{mark, number, name}

-- where a signal may begin: what is expected behind its first token, which begins a signal in `base`
pub record Begins (role : Expect) (body : List Expect) (d base : Draft) : Type 0 where
  pub name : after role sorts.Id ≡ Some body
  pub value : after role sorts.Value ≡ Some body
  pub brace : after role sorts.OpenBrace ≡ Some (expects.Inside ∷ body)
  pub begins_name : (text : List ℕ) (place : Place) → act role (seen_at kinds.Id text place) d ≡ begin_signal sorts.Id (seen_at kinds.Id text place) base
  pub begins_value : (text : List ℕ) (place : Place) → act role (seen_at kinds.Value text place) d ≡ begin_signal sorts.Value (seen_at kinds.Value text place) base
  pub begins_brace : (place : Place) → act role (seen_at kinds.Mark (123 ∷ []) place) d ≡ begin_signal sorts.OpenBrace (seen_at kinds.Mark (123 ∷ []) place) base

-- what may stand behind a signal: brackets
pub record TakesSlices (role : Expect) : Type 0 where
  pub opens : after role sorts.OpenIndex ≡ Some (expects.Index ∷ role ∷ [])
  pub brackets : (d : Draft) (place : Place) → act role (seen_at kinds.Mark (91 ∷ []) place) d ≡ Ok (open_bracket (seen_at kinds.Mark (91 ∷ []) place) d)

-- a draft whose open module has these wires
pub record IsOver (wires : List Wire) (base : Draft) : Type 0 where
  pub wires_are : base.current.body.wires ≡ wires
  pub names_are : base.current.wire_names ≡ map (λ w. w.name) wires

-- a draft with this open signal
abbrev pub with_signal : OpenSignal → Draft → Draft
with_signal s base = record base { signal = s }

-- reading goes on from each open signal whose part is these bits, with these braces round it
abbrev pub GoesFrom : List SigBit → List (List SigBit) → List Printed → List Expect → Draft → List Expect → Draft → Type 0
GoesFrom part braces qs roles base back e = (s : OpenSignal) → s.part ≡ part → s.braces ≡ braces → Goes qs roles (with_signal s base) back e

-- ---- parts of wires

width_is : (wires : List Wire) (k : ℕ) (w : Wire) → slice_get wires k ≡ Some w → width_at wires k ≡ w.width
width_is [] k w e = absurd cc
width_is (v ∷ vs) zero w e =
    let same : v ≡ w = cc in
    ap (λ (x : Wire). x.width) same
width_is (v ∷ vs) (suc k) w e = width_is vs k w e

wire_bits_are : (k n : ℕ) → wire_bits k n ≡ rising k 0 n
unfolding wire_bits
wire_bits_are k zero = refl
wire_bits_are k (suc n) =
    let e : n ≡ 0 + n = omega arith in
    ap (λ (l : List SigBit). l ++ bits.Wire (record { wire = k; at = n }) ∷ []) (wire_bits_are k n) ∙ ap (λ (j : ℕ). rising k 0 n ++ bits.Wire (record { wire = k; at = j }) ∷ []) e ∙ rising_more k 0 n

drop_rising : (k low a n : ℕ) → low ≤ n → drop low (rising k a n) ≡ rising k (a + low) (n - low)
drop_rising k zero a n le =
    let e : a ≡ a + 0 = omega arith in
    let f : n ≡ n - 0 = omega arith in
    ap (λ (j : ℕ). rising k j n) e ∙ ap (rising k (a + 0)) f
drop_rising k (suc low) a zero le = absurd (omega arith)
drop_rising k (suc low) a (suc n) le =
    let e : a + 1 + low ≡ a + suc low = omega arith in
    let f : n - low ≡ suc n - suc low = omega arith in
    drop_rising k low (a + 1) n (omega arith) ∙ ap (λ (j : ℕ). rising k j (n - low)) e ∙ ap (rising k (a + suc low)) f

take_rising : (k m a n : ℕ) → m ≤ n → take m (rising k a n) ≡ rising k a m
take_rising k zero a n le = refl
take_rising k (suc m) a zero le = absurd (omega arith)
take_rising k (suc m) a (suc n) le = ap (λ (l : List SigBit). bits.Wire (record { wire = k; at = a }) ∷ l) (take_rising k m (a + 1) n (omega arith))

-- a part of a wire
part_is : (k low high count width : ℕ) → high + 1 ≡ low + count → low + count ≤ width → take (high + 1 - low) (drop low (wire_bits k width)) ≡ rising k low count
part_is k low high count width e le =
    let size : high + 1 - low ≡ count = omega arith in
    let from : 0 + low ≡ low = omega arith in
    ap (λ (l : List SigBit). take (high + 1 - low) (drop low l)) (wire_bits_are k width)
    ∙ ap (take (high + 1 - low)) (drop_rising k low 0 width (omega arith))
    ∙ ap (λ (n : ℕ). take n (rising k (0 + low) (width - low))) size
    ∙ take_rising k count (0 + low) (width - low) (omega arith)
    ∙ ap (λ (j : ℕ). rising k j count) from

length_wire_bits : (k n : ℕ) → length (wire_bits k n) ≡ n
length_wire_bits k n = ap length (wire_bits_are k n) ∙ length_rising k 0 n

-- the name of a wire
goes_name : {qs : List Printed} {role : Expect} {roles body back : List Expect} {d base e : Draft} {wires : List Wire} (k : ℕ) (w : Wire) → AreDistinct (map (λ w. w.name) wires) → slice_get wires k ≡ Some w
    → Begins role body d base → IsOver wires base → GoesFrom (wire_bits k w.width) base.signal.braces qs (body ++ roles) base back e → Goes (name w.name ∷ qs) (role ∷ roles) d back e
goes_name {body = body} {base = base} {wires = wires} k w distinct at can over more =
    let part : Place → OpenSignal = λ (place : Place). record base.signal { part = wire_bits k w.width; place = place } in
    let begun : (place : Place) → begin_signal sorts.Id (seen_at kinds.Id w.name place) base ≡ Ok (with_signal (part place) base) = λ place.
    let i = seen_at kinds.Id w.name place in
    let ends : Result (List SigBit) ReadFault → Result Draft ReadFault = λ (r : Result (List SigBit) ReadFault). (r >>= λ b. Ok (record base.signal { part = b; place = place })) >>= λ s. Ok (with_signal s base) in
    ap (λ (ws : List Wire). ends (wire_signal ws i (number_of base.current.wire_names w.name))) over.wires_are
    ∙ ap (λ (ns : List (List ℕ)). ends (wire_signal wires i (number_of ns w.name))) over.names_are
    ∙ ap (λ (o : Option ℕ). ends (wire_signal wires i o)) (number_at (λ (w : Wire). w.name) wires k w distinct at)
    ∙ ap (λ (n : ℕ). ends (Ok (wire_bits k n))) (width_is wires k w at) in
    goes_on body (λ place. with_signal (part place) base) can.name (λ place. can.begins_name w.name place ∙ begun place) (λ place. more (part place) refl refl)

-- ---- brackets

slices : (i : Seen) (low high : ℕ) (s : OpenSignal) → low ≤ high → high < length s.part → slice i (pos low) (pos high) s ≡ Ok (record s { part = take (high + 1 - low) (drop low s.part); place = i.place })
slices i low high s le lt =
    let inside : (nat_lt high low || nat_le (length s.part) high) ≡ false = or_from (nat_lt high low) (nat_le (length s.part) high) (le-ltb high low le) (lt-leb (length s.part) high lt) in
    ap (λ (b : Bool). if b then Err (faults.Range s.bracket) else Ok (record s { part = take (high + 1 - low) (drop low s.part); place = i.place })) inside

number_read : (n : ℕ) (place : Place) → n < 2 ^ 31 → integer (seen_at kinds.Int (decimal n) place).number (seen_at kinds.Int (decimal n) place) ≡ Ok (pos n)
number_read n place lt = ap (λ (o : Option ℤ). integer o (seen_at kinds.Int (decimal n) place)) (integer_back (pos n) (lt-ltb n (2 ^ 31) lt))

-- a draft in which a signal was read
abbrev sliced : Draft → Result OpenSignal ReadFault → Result Draft ReadFault
sliced base r = r >>= λ s. Ok (with_signal s base)

-- one bit of what was read
goes_bit : {qs : List Printed} {role : Expect} {stack back : List Expect} {e : Draft} (base : Draft) (low : ℕ) (s : OpenSignal) → low < length s.part → low < 2 ^ 31 → TakesSlices role
    → GoesFrom (take (low + 1 - low) (drop low s.part)) s.braces qs (role ∷ stack) base back e → Goes (mark 1 91 ∷ number 0 low ∷ mark 0 93 ∷ qs) (role ∷ stack) (with_signal s base) back e
unfolding mark_sort
goes_bit {role = role} base low s lt small can more =
    goes_on (expects.Index ∷ role ∷ []) (λ p. with_signal (record s { bracket = p }) base) can.opens (λ p. can.brackets (with_signal s base) p) (λ p.
    let opened : OpenSignal = record s { bracket = p } in
    goes_on (expects.BehindIndex ∷ []) (λ q. with_signal (record opened { high = pos low }) base) refl (λ q. ap (λ (r : Result ℤ ReadFault). sliced base (r >>= λ n. Ok (record opened { high = n }))) (number_read low q small)) (λ q.
    let numbered : OpenSignal = record opened { high = pos low } in
    let last : Place → OpenSignal = λ (r : Place). record numbered { part = take (low + 1 - low) (drop low s.part); place = r } in
    goes_on [] (λ r. with_signal (last r) base) refl (λ r. ap (sliced base) (slices (seen_at kinds.Mark (93 ∷ []) r) low low numbered (omega arith) lt)) (λ r. more (last r) refl refl)))

-- bits from one up to another of what was read
goes_bits : {qs : List Printed} {role : Expect} {stack back : List Expect} {e : Draft} (base : Draft) (low high : ℕ) (s : OpenSignal) → low ≤ high → high < length s.part → high < 2 ^ 31 → TakesSlices role
    → GoesFrom (take (high + 1 - low) (drop low s.part)) s.braces qs (role ∷ stack) base back e → Goes (mark 1 91 ∷ number 0 high ∷ mark 0 58 ∷ number 0 low ∷ mark 0 93 ∷ qs) (role ∷ stack) (with_signal s base) back e
unfolding mark_sort
goes_bits {role = role} base low high s le lt small can more =
    goes_on (expects.Index ∷ role ∷ []) (λ p. with_signal (record s { bracket = p }) base) can.opens (λ p. can.brackets (with_signal s base) p) (λ p.
    let opened : OpenSignal = record s { bracket = p } in
    goes_on (expects.BehindIndex ∷ []) (λ q. with_signal (record opened { high = pos high }) base) refl (λ q. ap (λ (r : Result ℤ ReadFault). sliced base (r >>= λ n. Ok (record opened { high = n }))) (number_read high q small)) (λ q.
    let above : OpenSignal = record opened { high = pos high } in
    goes_on (expects.LowIndex ∷ []) (λ r. with_signal above base) refl (λ r. refl) (λ r.
    goes_on (expects.IndexEnd ∷ []) (λ t. with_signal (record above { low = pos low }) base) refl (λ t. ap (λ (x : Result ℤ ReadFault). sliced base (x >>= λ n. Ok (record above { low = n }))) (number_read low t (omega arith))) (λ t.
    let numbered : OpenSignal = record above { low = pos low } in
    let last : Place → OpenSignal = λ (u : Place). record numbered { part = take (high + 1 - low) (drop low s.part); place = u } in
    goes_on [] (λ u. with_signal (last u) base) refl (λ u. ap (sliced base) (slices (seen_at kinds.Mark (93 ∷ []) u) low high numbered le lt)) (λ u. more (last u) refl refl)))))

-- the brackets behind a wire
goes_index : {qs : List Printed} {role : Expect} {stack back : List Expect} {e : Draft} (base : Draft) (whole one : Bool) (k low others width : ℕ) (braces : List (List SigBit)) (s : OpenSignal)
    → ((low == 0) && (suc others == width)) ≡ whole → (suc others == 1) ≡ one → low + suc others ≤ width → width ≤ MAX_WIDTH → s.part ≡ wire_bits k width → s.braces ≡ braces → TakesSlices role
    → GoesFrom (rising k low (suc others)) braces qs (role ∷ stack) base back e → Goes (tokens.index whole one low (suc others) ++ qs) (role ∷ stack) (with_signal s base) back e
goes_index base true one k low others width braces s w o le small part is can more =
    let parts = and_parts (low == 0) (suc others == width) w in
    let zero_is : low ≡ 0 = eqb-true low 0 parts.0 in
    let all_is : suc others ≡ width = eqb-true (suc others) width parts.1 in
    more s (part ∙ wire_bits_are k width ∙ ap (λ (n : ℕ). rising k 0 n) (sym all_is) ∙ ap (λ (n : ℕ). rising k n (suc others)) (sym zero_is)) is
goes_index base false true k low others width braces s w o le small part is can more =
    let single : suc others ≡ 1 = eqb-true (suc others) 1 o in
    let size : length s.part ≡ width = ap length part ∙ length_wire_bits k width in
    goes_bit base low s (omega arith) (omega arith) can (λ t p b. more t (p ∙ ap (λ (l : List SigBit). take (low + 1 - low) (drop low l)) part ∙ part_is k low low (suc others) width (omega arith) le) (b ∙ is))
goes_index base false false k low others width braces s w o le small part is can more =
    let high = low + suc others - 1 in
    let size : length s.part ≡ width = ap length part ∙ length_wire_bits k width in
    goes_bits base low high s (omega arith) (omega arith) (omega arith) can (λ t p b. more t (p ∙ ap (λ (l : List SigBit). take (high + 1 - low) (drop low l)) part ∙ part_is k low high (suc others) width (omega arith) le) (b ∙ is))

-- ---- runs

fixed_is : (first : Bit) (others : List Bit) → fixed (values.Bits (first ∷ others) false) ≡ bits.Fixed first ∷ map bits.Fixed others
fixed_is first others = refl

goes_fixed : {qs : List Printed} {role : Expect} {roles body back : List Expect} {d base e : Draft} (first : Bit) (others : List Bit) → length (first ∷ others) ≤ MAX_WIDTH → Begins role body d base
    → GoesFrom (bits.Fixed first ∷ map bits.Fixed others) base.signal.braces qs (body ++ roles) base back e → Goes (Piece 1 kinds.Value (bits_text (first ∷ others) false) ∷ qs) (role ∷ roles) d back e
goes_fixed {body = body} {base = base} first others few can more =
    let text = bits_text (first ∷ others) false in
    let part : Place → OpenSignal = λ (place : Place). record base.signal { part = bits.Fixed first ∷ map bits.Fixed others; place = place } in
    goes_on body (λ place. with_signal (part place) base) can.value
    (λ place. can.begins_value text place ∙ ap (λ (r : Result Value ReadFault). sliced base ((r >>= λ v. okay (fixed v)) >>= λ b. Ok (record base.signal { part = b; place = place }))) (value_read (first ∷ others) false place few))
    (λ place. more (part place) refl refl)

goes_rising : {qs : List Printed} {role behind : Expect} {roles body stack back : List Expect} {d base e : Draft} {wires : List Wire} (k low others : ℕ) (w : Wire) → All IsWire wires → AreDistinct (map (λ w. w.name) wires)
    → slice_get wires k ≡ Some w → low + suc others ≤ w.width → Begins role body d base → TakesSlices behind → IsOver wires base → body ++ roles ≡ behind ∷ stack
    → GoesFrom (rising k low (suc others)) base.signal.braces qs (behind ∷ stack) base back e → Goes (tokens.part (Some w) low (suc others) ++ qs) (role ∷ roles) d back e
goes_rising {qs = qs} {behind = behind} {stack = stack} {back = back} {base = base} {e = e} {wires = wires} k low others w all distinct at le can slices over stacked more =
    let index = tokens.index ((low == 0) && (suc others == w.width)) (suc others == 1) low (suc others) ++ qs in
    goes_name k w distinct at can over (subst (λ (roles : List Expect). GoesFrom (wire_bits k w.width) base.signal.braces index roles base back e) (sym stacked)
    (λ s part is. goes_index base ((low == 0) && (suc others == w.width)) (suc others == 1) k low others w.width base.signal.braces s refl refl le (wire_at wires k w all at).width part is slices more))

pub goes_run : {qs : List Printed} {role behind : Expect} {roles body stack back : List Expect} {d base e : Draft} {wires : List Wire} (run : List SigBit) → All IsWire wires → AreDistinct (map (λ w. w.name) wires)
    → IsRun wires run → Begins role body d base → TakesSlices behind → IsOver wires base → body ++ roles ≡ behind ∷ stack
    → GoesFrom run base.signal.braces qs (behind ∷ stack) base back e → Goes (tokens.run wires run ++ qs) (role ∷ roles) d back e
goes_run {qs = qs} {role = role} {behind = behind} {roles = roles} {stack = stack} {back = back} {d = d} {base = base} {e = e} {wires = wires} run all distinct (inl r) can slices over stacked more =
    let same : GoesFrom (bits.Fixed r.first ∷ map bits.Fixed r.others) base.signal.braces qs (behind ∷ stack) base back e = λ s p b. more s (p ∙ sym r.is) b in
    subst (λ (l : List SigBit). Goes (tokens.run wires l ++ qs) (role ∷ roles) d back e) (sym r.is)
    (subst (λ (l : List Bit). Goes (Piece 1 kinds.Value (bits_text (r.first ∷ l) false) ∷ qs) (role ∷ roles) d back e) (sym (constants_back r.others))
    (goes_fixed r.first r.others r.few can (subst (λ (rs : List Expect). GoesFrom (bits.Fixed r.first ∷ map bits.Fixed r.others) base.signal.braces qs rs base back e) (sym stacked) same)))
goes_run {qs = qs} {role = role} {behind = behind} {roles = roles} {stack = stack} {back = back} {d = d} {base = base} {e = e} {wires = wires} run all distinct (inr r) can slices over stacked more =
    let size : length (rising r.wire (r.low + 1) r.others) + 1 ≡ suc r.others = omega (arith, length_rising r.wire (r.low + 1) r.others) in
    let same : GoesFrom (rising r.wire r.low (suc r.others)) base.signal.braces qs (behind ∷ stack) base back e = λ s p b. more s (p ∙ sym r.is) b in
    subst (λ (l : List SigBit). Goes (tokens.run wires l ++ qs) (role ∷ roles) d back e) (sym r.is)
    (subst (λ (n : ℕ). Goes (tokens.part (slice_get wires r.wire) r.low n ++ qs) (role ∷ roles) d back e) (sym size)
    (subst (λ (o : Option Wire). Goes (tokens.part o r.low (suc r.others) ++ qs) (role ∷ roles) d back e) (sym r.at)
    (goes_rising r.wire r.low r.others r.of all distinct r.at r.within can slices over stacked same)))

-- ---- braces

slices_inside : TakesSlices expects.BehindInside
unfolding mark_sort
slices_inside = record { opens = refl; brackets = λ d place. refl }

begins_inside : (d : Draft) → Begins expects.Inside (expects.BehindInside ∷ []) d d
unfolding mark_sort
begins_inside d = record { name = refl; value = refl; brace = refl; begins_name = λ text place. refl; begins_value = λ text place. refl; begins_brace = λ place. refl }

-- the part goes below what the braces have
abbrev below : OpenSignal → List SigBit → List (List SigBit) → OpenSignal
below s brace outer = record s { braces = (s.part ++ brace) ∷ outer }

puts_below : (s : OpenSignal) (brace : List SigBit) (outer : List (List SigBit)) → s.braces ≡ brace ∷ outer → length s.part + length brace ≤ MAX_BITS → put_below s s.braces ≡ Ok (below s brace outer)
puts_below s brace outer is le =
    ap (put_below s) is ∙ ap (λ (b : Bool). if b then Err (faults.Limit s.place) else Ok (below s brace outer)) (le-ltb MAX_BITS (length s.part + length brace) le)

-- one more signal begins in the braces
begins_behind : (base : Draft) (s : OpenSignal) (brace : List SigBit) (outer : List (List SigBit)) → s.braces ≡ brace ∷ outer → length s.part + length brace ≤ MAX_BITS
    → Begins expects.BehindInside (expects.BehindInside ∷ []) (with_signal s base) (with_signal (below s brace outer) base)
unfolding mark_sort
begins_behind base s brace outer is le =
    let put = puts_below s brace outer is le in
    let on : Sort → Seen → Result OpenSignal ReadFault → Result Draft ReadFault = λ (sort : Sort) (i : Seen) (r : Result OpenSignal ReadFault). sliced base (r >>= λ t. inside base.current.body.wires base.current.wire_names sort i t) in
    record {
      name = refl;
      value = refl;
      brace = refl;
      begins_name = λ text place. ap (on sorts.Id (seen_at kinds.Id text place)) put;
      begins_value = λ text place. ap (on sorts.Value (seen_at kinds.Value text place)) put;
      begins_brace = λ place. ap (on sorts.OpenBrace (seen_at kinds.Mark (123 ∷ []) place)) put;
    }

-- the braces close
goes_close : {qs : List Printed} {stack back : List Expect} {e : Draft} (base : Draft) (s : OpenSignal) (part brace : List SigBit) (outer : List (List SigBit)) → s.part ≡ part → s.braces ≡ brace ∷ outer → length s.part + length brace ≤ MAX_BITS
    → GoesFrom (part ++ brace) outer qs stack base back e → Goes (mark 1 125 ∷ qs) (expects.BehindInside ∷ stack) (with_signal s base) back e
unfolding mark_sort
goes_close base s part brace outer p is le more =
    let last : Place → OpenSignal = λ (place : Place). record s { part = s.part ++ brace; place = place; braces = outer } in
    goes_on [] (λ place. with_signal (last place) base) refl
    (λ place. ap (λ (r : Result OpenSignal ReadFault). sliced base (r >>= λ t. inside base.current.body.wires base.current.wire_names sorts.CloseBrace (seen_at kinds.Mark (125 ∷ []) place) t)) (puts_below s brace outer is le))
    (λ place. more (last place) (ap (λ (l : List SigBit). l ++ brace) p) refl)

-- what each signal of a module is over: its wires
module _ {wires : List Wire} (all : All IsWire wires) (distinct : AreDistinct (map (λ w. w.name) wires)) where
  goes_inside : {qs : List Printed} {stack back : List Expect} {e : Draft} (rest : List (List SigBit)) (base : Draft) (s : OpenSignal) (part brace : List SigBit) (outer : List (List SigBit)) → IsOver wires base → All (IsRun wires) rest
      → s.part ≡ part → s.braces ≡ brace ∷ outer → length (joined rest) + length part + length brace ≤ MAX_BITS
      → GoesFrom (joined rest ++ (part ++ brace)) outer qs stack base back e → Goes (flat_map (tokens.run wires) rest ++ mark 1 125 ∷ qs) (expects.BehindInside ∷ stack) (with_signal s base) back e
  goes_inside [] base s part brace outer over each p is le more = goes_close base s part brace outer p is (omega (arith, ap length p)) more
  goes_inside {qs = qs} {stack = stack} {back = back} {e = e} (run ∷ rest) base s part brace outer over each p is le more =
      let ends = mark 1 125 ∷ qs in
      let assoc : joined rest ++ (run ++ (part ++ brace)) ≡ (joined rest ++ run) ++ (part ++ brace) = sym (append_assoc (joined rest) run (part ++ brace)) in
      let same : s.part ++ brace ≡ part ++ brace = ap (λ (l : List SigBit). l ++ brace) p in
      let size : length (joined rest) + length run + length part + length brace ≤ MAX_BITS = omega (arith, le, length-append (joined rest) run) in
      let rest_goes : (t : OpenSignal) → t.part ≡ run → t.braces ≡ (s.part ++ brace) ∷ outer → Goes (flat_map (tokens.run wires) rest ++ ends) (expects.BehindInside ∷ stack) (with_signal t base) back e = λ t q b.
      goes_inside rest base t run (part ++ brace) outer over (All-tail (IsRun wires) run rest each) q (b ∙ ap (λ (l : List SigBit). l ∷ outer) same) (omega (arith, size, length-append part brace))
      (λ u r c. more u (r ∙ assoc) c) in
      subst (λ (ps : List Printed). Goes ps (expects.BehindInside ∷ stack) (with_signal s base) back e) (sym (append_assoc (tokens.run wires run) (flat_map (tokens.run wires) rest) ends))
      (goes_run run all distinct (All-head (IsRun wires) run rest each) (begins_behind base s brace outer is (omega (arith, le, ap length p))) slices_inside (record { wires_are = over.wires_are; names_are = over.names_are }) refl rest_goes)

  goes_braces : {qs : List Printed} {role behind : Expect} {roles body stack back : List Expect} {d base e : Draft} (runs : List (List SigBit)) → All (IsRun wires) runs → length (joined runs) ≤ MAX_BITS → base.signal.braces ≡ []
      → Begins role body d base → IsOver wires base → body ++ roles ≡ behind ∷ stack
      → GoesFrom (joined runs) [] qs (behind ∷ stack) base back e → Goes (tokens.braces wires runs ++ qs) (role ∷ roles) d back e
  unfolding mark_sort
  goes_braces {qs = qs} {behind = behind} {roles = roles} {body = body} {stack = stack} {back = back} {base = base} {e = e} runs each le none can over stacked more =
      let opened : OpenSignal = record base.signal { braces = [] ∷ base.signal.braces } in
      let shallow : nat_le MAX_DEPTH (length base.signal.braces) ≡ false = ap (λ (l : List (List SigBit)). nat_le MAX_DEPTH (length l)) none in
      let ends = mark 1 125 ∷ qs in
      let inside_is : (t : OpenSignal) → t.braces ≡ base.signal.braces → t.braces ≡ [] = λ t b. b ∙ none in
      let assoc = append_assoc (flat_map (tokens.run wires) runs) (mark 1 125 ∷ []) qs in
      goes_on (expects.Inside ∷ body) (λ place. with_signal opened base) can.brace
      (λ place. can.begins_brace place ∙ ap (λ (b : Bool). sliced base (if b then Err (faults.Limit place) else Ok opened)) shallow)
      (λ place. subst (λ (ps : List Printed). Goes ps (expects.Inside ∷ (body ++ roles)) (with_signal opened base) back e) (sym assoc)
      (subst (λ (rs : List Expect). Goes (flat_map (tokens.run wires) runs ++ ends) (expects.Inside ∷ rs) (with_signal opened base) back e) (sym stacked) (go runs each le more)))
    where
      go : (runs : List (List SigBit)) → All (IsRun wires) runs → length (joined runs) ≤ MAX_BITS → GoesFrom (joined runs) [] qs (behind ∷ stack) base back e
          → Goes (flat_map (tokens.run wires) runs ++ mark 1 125 ∷ qs) (expects.Inside ∷ behind ∷ stack) (with_signal (record base.signal { braces = [] ∷ base.signal.braces }) base) back e
      go [] each le more =
          let last : Place → OpenSignal = λ (place : Place). record base.signal { part = []; place = place; braces = base.signal.braces } in
          goes_on [] (λ place. with_signal (last place) base) refl (λ place. refl) (λ place. more (last place) refl none)
      go (run ∷ rest) each le more =
          let opened : OpenSignal = record base.signal { braces = [] ∷ base.signal.braces } in
          let plain : joined rest ++ (run ++ []) ≡ joined rest ++ run = ap (λ (l : List SigBit). joined rest ++ l) (append-nil run) in
          let rest_goes : (t : OpenSignal) → t.part ≡ run → t.braces ≡ [] ∷ base.signal.braces → Goes (flat_map (tokens.run wires) rest ++ mark 1 125 ∷ qs) (expects.BehindInside ∷ behind ∷ stack) (with_signal t base) back e = λ t q b.
          goes_inside rest base t run [] base.signal.braces over (All-tail (IsRun wires) run rest each) q b (omega (arith, le, length-append (joined rest) run)) (λ u r c. more u (r ∙ plain) (c ∙ none)) in
          subst (λ (ps : List Printed). Goes ps (expects.Inside ∷ behind ∷ stack) (with_signal opened base) back e) (sym (append_assoc (tokens.run wires run) (flat_map (tokens.run wires) rest) (mark 1 125 ∷ qs)))
          (goes_run run all distinct (All-head (IsRun wires) run rest each) (begins_inside (with_signal opened base)) slices_inside (record { wires_are = over.wires_are; names_are = over.names_are }) refl rest_goes)

  goes_runs : {qs : List Printed} {role behind : Expect} {roles body stack back : List Expect} {d base e : Draft} (runs : List (List SigBit)) → All (IsRun wires) runs → length (joined runs) ≤ MAX_BITS → base.signal.braces ≡ []
      → Begins role body d base → TakesSlices behind → IsOver wires base → body ++ roles ≡ behind ∷ stack
      → GoesFrom (joined runs) [] qs (behind ∷ stack) base back e → Goes (tokens.runs wires runs ++ qs) (role ∷ roles) d back e
  goes_runs [] each le none can slices over stacked more = goes_braces [] each le none can over stacked more
  goes_runs (run ∷ []) each le none can slices over stacked more = goes_run run all distinct (All-head (IsRun wires) run [] each) can slices over stacked (λ s p b. more s p (b ∙ none))
  goes_runs (run ∷ next ∷ runs) each le none can slices over stacked more = goes_braces (run ∷ next ∷ runs) each le none can over stacked more

  -- a signal, from whose bits reading goes on
  pub goes_signal : {qs : List Printed} {role behind : Expect} {roles body stack back : List Expect} {d base e : Draft} (sig : List SigBit) → IsSignal wires sig → base.signal.braces ≡ []
      → Begins role body d base → TakesSlices behind → IsOver wires base → body ++ roles ≡ behind ∷ stack
      → GoesFrom sig [] qs (behind ∷ stack) base back e → Goes (tokens.signal wires sig ++ qs) (role ∷ roles) d back e
  goes_signal {qs = qs} {behind = behind} {stack = stack} {back = back} {base = base} {e = e} sig is none can slices over stacked more =
      let are = cut wires sig is.bits in
      goes_runs (runs_of sig) are.each (omega (arith, ap length are.together, is.width)) none can slices over stacked (λ s p b. more s (p ∙ are.together) b)
