-- Each token of a readable design is whole where it is printed.
use Rattle.std.proofs.Common.{◌≡◌, ℕ, zero, suc, ◌+◌, ◌-◌, ◌<◌, ◌≤◌, ◌^◌, inl, inr, List, [], ◌∷◌, ◌++◌, length, map, append_assoc, Option, Some, None, Bool, true, false, refl, sym, ap, subst, arith}
use Rattle.std.specs.Prelude.{◌==◌, ◌&&◌, nat_lt, ℤ, pos, negsuc, slice_get, codes, IfSome, if◌then◌else◌}
use Rattle.std.specs.List.{All, flat_map, list_all}
use Rattle.std.specs.Fmt.{decimal}
use Rattle.std.proofs.lemmas.Bool.{and_parts, and_from, ltb-true, lt-ltb}
use Rattle.std.proofs.lemmas.List.Elements.{All-head, All-tail}
use Rattle.rtl_lex.specs.declared.token.TokenKind.TheVariants as kinds
use Rattle.rtl_lex.specs.Bytes.{is_lower, is_mark, is_sigil, is_name}
use Rattle.rtl_bits.specs.declared.bit.Bit.{Bit}
use Rattle.rtl_sig.specs.declared.sig.SigBit.{SigBit}
use Rattle.rtl_sig.specs.declared.sig.SigBit.TheVariants as bits
use Rattle.rtl_ir.specs.declared.value.Value.{Value}
use Rattle.rtl_ir.specs.declared.value.Value.TheVariants as values
use Rattle.rtl_ir.specs.declared.value.Attribute.{Attribute}
use Rattle.rtl_ir.specs.declared.wire.Role.{Role}
use Rattle.rtl_ir.specs.declared.wire.Role.TheVariants.{Inner, Input, Output, Inout}
use Rattle.rtl_ir.specs.declared.wire.Wire.{Wire}
use Rattle.rtl_ir.specs.declared.store.Store.{Store}
use Rattle.rtl_ir.specs.declared.cell.CellParam.{CellParam}
use Rattle.rtl_ir.specs.declared.cell.Pin.{Pin}
use Rattle.rtl_ir.specs.declared.cell.Cell.{Cell}
use Rattle.rtl_ir.specs.declared.module.Link.{Link}
use Rattle.rtl_ir.specs.declared.module.Parameter.{Parameter}
use Rattle.rtl_ir.specs.declared.module.Module.{Module}
use Rattle.rtl_ir.specs.declared.module.Design.{Design}
use Rattle.rtl_ir.specs.Tree.{Switches, Cases, NoSwitch, OneSwitch, NoCase, OneCase}
use Rattle.rtl_ir.specs.declared.process.Event.{Event}
use Rattle.rtl_ir.specs.declared.process.Event.TheVariants as events
use Rattle.rtl_ir.specs.declared.process.WriteLine.{WriteLine}
use Rattle.rtl_ir.specs.declared.process.SyncRule.{SyncRule}
use Rattle.rtl_ir.specs.declared.process.Process.{Process}
use Rattle.rtl_write.specs.Constant.{bits_text}
use Rattle.rtl_write.specs.Signal.{constant_of, runs_of}
use Rattle.rtl_readable.specs.Readable.{IsName, IsInteger, IsChar, IsConstant, IsAttribute, AreAttributes, IsParameter, IsWire, IsStore, IsSignal, IsSomeSignal, IsLink, IsCellParam, IsPin, IsCell, AreSwitches, AreCases, IsEvent, IsWrite, IsRule, IsProcess, IsReadableModule, IsReadable}
use Rattle.rtl_write.proofs.Printed.{Printed, Piece, EndLine, IsToken, AreLines, lines_then, opens_follows, IsTail, tail_end, tail_piece, line_piece}
use Rattle.rtl_write.proofs.Forms.{word_token, mark_token, name_token}
use Rattle.rtl_write.proofs.Integers.{integer_token}
use Rattle.rtl_write.proofs.Values.{value_token}
use Rattle.rtl_write.proofs.Strings.{is_char, string_token}
use Rattle.rtl_write.proofs.Runs.{rising, IsRun, length_rising, cut}
use Rattle.rtl_write.proofs.Tokens as tokens
use Rattle.rtl_write.proofs.Tokens.{word, name, number, integer, mark, constant}

-- ---- tokens

pub name_is : (text : List ℕ) → IsName text → IsToken kinds.Id text
name_is [] is = absurd cc
name_is (b ∷ bs) is =
    let one = and_parts (is_sigil b) (nat_lt 0 (length bs) && list_all is_name bs) is in
    let two = and_parts (nat_lt 0 (length bs)) (list_all is_name bs) one.1 in
    name_token b bs one.0 (ltb-true 0 (length bs) two.0) two.1

pub chars_are : (chars : List ℕ) → All IsChar chars → list_all is_char chars ≡ true
chars_are [] all = refl
chars_are (c ∷ cs) all =
    let first = All-head IsChar c cs all in
    and_from (is_char c) (list_all is_char cs) (and_from (nat_lt 0 c) (nat_lt c 256) (lt-ltb 0 c first.0) (lt-ltb c 256 first.1)) (chars_are cs (All-tail IsChar c cs all))

pub number_is : (n : ℕ) → n < 2 ^ 31 → IsToken kinds.Int (decimal n)
number_is n lt = integer_token (pos n) (lt-ltb n (2 ^ 31) lt)

-- a token behind a blank
tail_word : (text : List ℕ) (ps : List Printed) → list_all is_lower text ≡ true → 0 < length text → IsTail ps → IsTail (word 1 text ∷ ps)
tail_word text ps all lt f = tail_piece 0 kinds.Word text ps (word_token text all lt) f

tail_name : (text : List ℕ) (ps : List Printed) → IsName text → IsTail ps → IsTail (name text ∷ ps)
tail_name text ps is f = tail_piece 0 kinds.Id text ps (name_is text is) f

tail_number : (n : ℕ) (ps : List Printed) → n < 2 ^ 31 → IsTail ps → IsTail (number 1 n ∷ ps)
tail_number n ps lt f = tail_piece 0 kinds.Int (decimal n) ps (number_is n lt) f

tail_integer : (z : ℤ) (ps : List Printed) → IsInteger z → IsTail ps → IsTail (integer z ∷ ps)
tail_integer z ps is f = tail_piece 0 kinds.Int _ ps (integer_token z is) f

tail_mark : (b : ℕ) (ps : List Printed) → is_mark b ≡ true → IsTail ps → IsTail (mark 1 b ∷ ps)
tail_mark b ps is f = tail_piece 0 kinds.Mark (b ∷ []) ps (mark_token b is) f

tail_constant : (v : Value) (ps : List Printed) → IsConstant v → IsTail ps → IsTail (constant v ∷ ps)
tail_constant (values.Bits bits signed) ps is f = tail_piece 0 kinds.Value (bits_text bits signed) ps (value_token bits signed (omega arith)) f
tail_constant (values.Int z) ps is f = tail_integer z ps is f
tail_constant (values.Chars chars) ps is f = tail_piece 0 kinds.Chars _ ps (string_token chars (chars_are chars is.0)) f

-- the first word of a line
line_word : (n : ℕ) (text : List ℕ) (ps : List Printed) → list_all is_lower text ≡ true → 0 < length text → IsTail ps → AreLines true (word n text ∷ ps)
line_word n text ps all lt f = line_piece n kinds.Word text ps (word_token text all lt) f

-- the end of the only line
end_line : IsTail (EndLine ∷ [])
end_line = tail_end [] refl

-- lines of items, one after another
lines_each : {X : Type 0} (P : X → Type 0) (f : X → List Printed) → ((x : X) → P x → AreLines true (f x)) → (xs : List X) → All P xs → AreLines true (flat_map f xs)
lines_each P f each [] all = refl
lines_each P f each (x ∷ xs) all = lines_then true (f x) (flat_map f xs) (each x (All-head P x xs all)) (lines_each P f each xs (All-tail P x xs all))

-- ---- signals

-- a closing bracket, and a number before it
abbrev closed : List Printed → List Printed
closed ps = mark 0 93 ∷ ps

tail_closed : (ps : List Printed) → IsTail ps → AreLines false (closed ps)
tail_closed ps f = (mark_token 93 refl, opens_follows kinds.Mark ps f.opens, f.lines)

-- brackets, whose tokens stand without blanks
tail_index : (whole one : Bool) (low count : ℕ) (ps : List Printed) → low + count < 2 ^ 31 → IsTail ps → IsTail (tokens.index whole one low count ++ ps)
tail_index true one low count ps lt f = f
tail_index false true low count ps lt f =
    record { opens = tt; lines = (mark_token 91 refl, refl, (number_is low (omega arith), refl, tail_closed ps f)) }
tail_index false false low count ps lt f =
    record { opens = tt; lines = (mark_token 91 refl, refl, (number_is (low + count - 1) (omega arith), refl, (mark_token 58 refl, refl, (number_is low (omega arith), refl, tail_closed ps f)))) }

pub wire_at : (wires : List Wire) (k : ℕ) (w : Wire) → All IsWire wires → slice_get wires k ≡ Some w → IsWire w
wire_at [] k w all e = absurd cc
wire_at (v ∷ vs) zero w all e =
    let same : v ≡ w = cc in
    subst IsWire same (All-head IsWire v vs all)
wire_at (v ∷ vs) (suc k) w all e = wire_at vs k w (All-tail IsWire v vs all) e

tail_part : (w : Wire) (o : Option Wire) (low count : ℕ) (ps : List Printed) → IsWire w → o ≡ Some w → low + count ≤ w.width → IsTail ps → IsTail (tokens.part o low count ++ ps)
tail_part w o low count ps is e le f =
    subst (λ (x : Option Wire). IsTail (tokens.part x low count ++ ps)) (sym e)
    (tail_name w.name (tokens.index ((low == 0) && (count == w.width)) (count == 1) low count ++ ps) is.name
    (tail_index ((low == 0) && (count == w.width)) (count == 1) low count ps (omega (arith, is.width)) f))

pub constants_back : (cs : List Bit) → map constant_of (map bits.Fixed cs) ≡ cs
constants_back [] = refl
constants_back (c ∷ cs) = ap (λ (l : List Bit). c ∷ l) (constants_back cs)

tail_fixed : (wires : List Wire) (first : Bit) (others : List Bit) (ps : List Printed) → length (first ∷ others) ≤ 1048576 → IsTail ps → IsTail (tokens.run wires (bits.Fixed first ∷ map bits.Fixed others) ++ ps)
tail_fixed wires first others ps few f =
    let back = constants_back others in
    subst (λ (l : List Bit). IsTail (Piece 1 kinds.Value (bits_text (first ∷ l) false) ∷ ps)) (sym back)
    (tail_piece 0 kinds.Value (bits_text (first ∷ others) false) ps (value_token (first ∷ others) false (omega arith)) f)

tail_run : (wires : List Wire) (run : List SigBit) (ps : List Printed) → All IsWire wires → IsRun wires run → IsTail ps → IsTail (tokens.run wires run ++ ps)
tail_run wires run ps all (inl r) f = subst (λ (l : List SigBit). IsTail (tokens.run wires l ++ ps)) (sym r.is) (tail_fixed wires r.first r.others ps r.few f)
tail_run wires run ps all (inr r) f =
    let size : length (rising r.wire (r.low + 1) r.others) + 1 ≡ suc r.others = omega (arith, length_rising r.wire (r.low + 1) r.others) in
    subst (λ (l : List SigBit). IsTail (tokens.run wires l ++ ps)) (sym r.is)
    (subst (λ (n : ℕ). IsTail (tokens.part (slice_get wires r.wire) r.low n ++ ps)) (sym size)
    (tail_part r.of (slice_get wires r.wire) r.low (suc r.others) ps (wire_at wires r.wire r.of all r.at) r.at r.within f))

tail_all_runs : (wires : List Wire) (runs : List (List SigBit)) (ps : List Printed) → All IsWire wires → All (IsRun wires) runs → IsTail ps → IsTail (flat_map (tokens.run wires) runs ++ ps)
tail_all_runs wires [] ps all each f = f
tail_all_runs wires (run ∷ runs) ps all each f =
    subst IsTail (sym (append_assoc (tokens.run wires run) (flat_map (tokens.run wires) runs) ps))
    (tail_run wires run (flat_map (tokens.run wires) runs ++ ps) all (All-head (IsRun wires) run runs each) (tail_all_runs wires runs ps all (All-tail (IsRun wires) run runs each) f))

tail_braces : (wires : List Wire) (runs : List (List SigBit)) (ps : List Printed) → All IsWire wires → All (IsRun wires) runs → IsTail ps → IsTail (tokens.braces wires runs ++ ps)
tail_braces wires runs ps all each f =
    tail_mark 123 ((flat_map (tokens.run wires) runs ++ mark 1 125 ∷ []) ++ ps) refl
    (subst IsTail (sym (append_assoc (flat_map (tokens.run wires) runs) (mark 1 125 ∷ []) ps)) (tail_all_runs wires runs (mark 1 125 ∷ ps) all each (tail_mark 125 ps refl f)))

tail_runs : (wires : List Wire) (runs : List (List SigBit)) (ps : List Printed) → All IsWire wires → All (IsRun wires) runs → IsTail ps → IsTail (tokens.runs wires runs ++ ps)
tail_runs wires [] ps all each f = tail_braces wires [] ps all each f
tail_runs wires (run ∷ []) ps all each f = tail_run wires run ps all (All-head (IsRun wires) run [] each) f
tail_runs wires (run ∷ next ∷ runs) ps all each f = tail_braces wires (run ∷ next ∷ runs) ps all each f

tail_signal : (wires : List Wire) (sig : List SigBit) (ps : List Printed) → All IsWire wires → IsSignal wires sig → IsTail ps → IsTail (tokens.signal wires sig ++ ps)
tail_signal wires sig ps all is f = tail_runs wires (runs_of sig) ps all (cut wires sig is.bits).each f

-- ---- attributes and options

line_attribute : (n : ℕ) (a : Attribute) → IsAttribute a → AreLines true (tokens.attribute n a)
line_attribute n a is = line_word n (codes "attribute") _ refl (omega arith) (tail_name a.name _ is.name (tail_constant a.value _ is.value end_line))

lines_attributes : (n : ℕ) (remarks : List Attribute) → AreAttributes remarks → AreLines true (tokens.attributes n remarks)
lines_attributes n remarks are = lines_each IsAttribute (tokens.attribute n) (line_attribute n) remarks are.each

tail_width : (one : Bool) (n : ℕ) (ps : List Printed) → n < 2 ^ 31 → IsTail ps → IsTail ((if one then [] else word 1 (codes "width") ∷ number 1 n ∷ []) ++ ps)
tail_width true n ps lt f = f
tail_width false n ps lt f = tail_word (codes "width") _ refl (omega arith) (tail_number n ps lt f)

tail_size : (z : ℤ) (ps : List Printed) → IsInteger z → IsTail ps → IsTail (tokens.size_option z ++ ps)
tail_size (pos zero) ps is f = f
tail_size (pos (suc n)) ps is f = tail_word (codes "size") _ refl (omega arith) (tail_integer (pos (suc n)) ps is f)
tail_size (negsuc n) ps is f = tail_word (codes "size") _ refl (omega arith) (tail_integer (negsuc n) ps is f)

tail_offset : (z : ℤ) (ps : List Printed) → IsInteger z → IsTail ps → IsTail (tokens.offset_option z ++ ps)
tail_offset (pos zero) ps is f = f
tail_offset (pos (suc n)) ps is f = tail_word (codes "offset") _ refl (omega arith) (tail_integer (pos (suc n)) ps is f)
tail_offset (negsuc n) ps is f = tail_word (codes "offset") _ refl (omega arith) (tail_integer (negsuc n) ps is f)

tail_upto : (b : Bool) (ps : List Printed) → IsTail ps → IsTail (tokens.upto_option b ++ ps)
tail_upto true ps f = tail_word (codes "upto") ps refl (omega arith) f
tail_upto false ps f = f

tail_signed : (b : Bool) (ps : List Printed) → IsTail ps → IsTail (tokens.signed_option b ++ ps)
tail_signed true ps f = tail_word (codes "signed") ps refl (omega arith) f
tail_signed false ps f = f

tail_role : (r : Role) (z : ℤ) (ps : List Printed) → IsInteger z → IsTail ps → IsTail (tokens.role_option r z ++ ps)
tail_role Inner z ps is f = f
tail_role Input z ps is f = tail_word (codes "input") _ refl (omega arith) (tail_integer z ps is f)
tail_role Output z ps is f = tail_word (codes "output") _ refl (omega arith) (tail_integer z ps is f)
tail_role Inout z ps is f = tail_word (codes "inout") _ refl (omega arith) (tail_integer z ps is f)

-- the rest of a list of tokens is associated to the right
tail_then : (a b ps : List Printed) → IsTail (a ++ (b ++ ps)) → IsTail ((a ++ b) ++ ps)
tail_then a b ps f = subst IsTail (sym (append_assoc a b ps)) f

-- ---- wires, memories, parameters

line_wire : (w : Wire) → IsWire w → AreLines true (tokens.wire_line w)
line_wire w is =
    line_word 2 (codes "wire") _ refl (omega arith)
    (tail_width (w.width == 1) w.width _ (omega (arith, is.width))
    (tail_upto w.upto _ (tail_offset w.offset _ is.offset (tail_role w.role w.number _ is.number (tail_signed w.signed _ (tail_name w.name _ is.name end_line))))))

lines_wire : (w : Wire) → IsWire w → AreLines true (tokens.wire w)
lines_wire w is = lines_then true (tokens.attributes 2 w.attributes) (tokens.wire_line w) (lines_attributes 2 w.attributes is.attributes) (line_wire w is)

line_store : (s : Store) → IsStore s → AreLines true (tokens.store_line s)
line_store s is =
    line_word 2 (codes "memory") _ refl (omega arith)
    (tail_width (s.width == 1) s.width _ is.width (tail_size s.size _ is.size (tail_offset s.offset _ is.offset (tail_name s.name _ is.name end_line))))

lines_store : (s : Store) → IsStore s → AreLines true (tokens.store s)
lines_store s is = lines_then true (tokens.attributes 2 s.attributes) (tokens.store_line s) (lines_attributes 2 s.attributes is.attributes) (line_store s is)

tail_default : (v : Option Value) → IfSome v IsConstant → IsTail (tokens.default v)
tail_default None is = end_line
tail_default (Some v) is = tail_constant v _ is end_line

line_parameter : (p : Parameter) → IsParameter p → AreLines true (tokens.parameter p)
line_parameter p is = line_word 2 (codes "parameter") _ refl (omega arith) (tail_name p.name _ is.name (tail_default p.value is.value))

-- ---- cells

line_cell_param : (p : CellParam) → IsCellParam p → AreLines true (tokens.cell_param p)
line_cell_param p is = line_word 4 (codes "parameter") _ refl (omega arith) (tail_signed p.signed _ (tail_name p.name _ is.name (tail_constant p.value _ is.value end_line)))

line_pin : (wires : List Wire) → All IsWire wires → (p : Pin) → IsPin wires p → AreLines true (tokens.pin wires p)
line_pin wires all p is = line_word 4 (codes "connect") _ refl (omega arith) (tail_name p.name _ is.name (tail_signal wires p.sig _ all is.sig end_line))

-- an `end`
line_end : (n : ℕ) → AreLines true (word n (codes "end") ∷ EndLine ∷ [])
line_end n = line_word n (codes "end") _ refl (omega arith) end_line

lines_cell : (wires : List Wire) → All IsWire wires → (c : Cell) → IsCell wires c → AreLines true (tokens.cell wires c)
lines_cell wires all c is =
    lines_then true (tokens.attributes 2 c.attributes) (tokens.cell_lines wires c) (lines_attributes 2 c.attributes is.attributes)
    (line_word 2 (codes "cell") _ refl (omega arith) (tail_name c.kind_name _ is.kind_name (tail_name c.name _ is.name (tail_end _
    (lines_then true (flat_map tokens.cell_param c.params) _ (lines_each IsCellParam tokens.cell_param line_cell_param c.params is.params)
    (lines_then true (flat_map (tokens.pin wires) c.pins) _ (lines_each (IsPin wires) (tokens.pin wires) (line_pin wires all) c.pins is.pins) (line_end 2)))))))

-- ---- trees

tail_pair : (wires : List Wire) → All IsWire wires → (l : Link) → IsLink wires l → IsTail (tokens.pair wires l)
tail_pair wires all l is = tail_signal wires l.left _ all is.left (tail_signal wires l.right _ all is.right end_line)

line_assign : (wires : List Wire) → All IsWire wires → (n : ℕ) (l : Link) → IsLink wires l → AreLines true (tokens.assign wires n l)
line_assign wires all n l is = line_word n (codes "assign") _ refl (omega arith) (tail_pair wires all l is)

tail_more_patterns : (wires : List Wire) (patterns : List (List SigBit)) (ps : List Printed) → All IsWire wires → All (IsSomeSignal wires) patterns → IsTail ps → IsTail (tokens.more_patterns wires patterns ++ ps)
tail_more_patterns wires [] ps all each f = f
tail_more_patterns wires (pattern ∷ patterns) ps all each f =
    tail_mark 44 ((tokens.signal wires pattern ++ tokens.more_patterns wires patterns) ++ ps) refl
    (tail_then (tokens.signal wires pattern) (tokens.more_patterns wires patterns) ps
    (tail_signal wires pattern _ all (All-head (IsSomeSignal wires) pattern patterns each).signal (tail_more_patterns wires patterns ps all (All-tail (IsSomeSignal wires) pattern patterns each) f)))

tail_patterns : (wires : List Wire) (patterns : List (List SigBit)) (ps : List Printed) → All IsWire wires → All (IsSomeSignal wires) patterns → IsTail ps → IsTail (tokens.patterns wires patterns ++ ps)
tail_patterns wires [] ps all each f = f
tail_patterns wires (pattern ∷ patterns) ps all each f =
    tail_then (tokens.signal wires pattern) (tokens.more_patterns wires patterns) ps
    (tail_signal wires pattern _ all (All-head (IsSomeSignal wires) pattern patterns each).signal (tail_more_patterns wires patterns ps all (All-tail (IsSomeSignal wires) pattern patterns each) f))

mutual
  lines_switches : (wires : List Wire) → All IsWire wires → (n depth : ℕ) (s : Switches) → AreSwitches wires depth s → AreLines true (tokens.switches wires n s)
  lines_switches wires all n depth NoSwitch are = refl
  lines_switches wires all n depth (OneSwitch sig remarks inside rest) are =
      lines_then true (tokens.attributes n remarks) _ (lines_attributes n remarks are.2)
      (line_word n (codes "switch") _ refl (omega arith) (tail_signal wires sig _ all are.1.signal (tail_end _
      (lines_then true (tokens.cases wires (n + 2) inside) _ (lines_cases wires all (n + 2) (depth + 1) inside are.3)
      (line_word n (codes "end") _ refl (omega arith) (tail_end _ (lines_switches wires all n depth rest are.4)))))))

  lines_cases : (wires : List Wire) → All IsWire wires → (n depth : ℕ) (s : Cases) → AreCases wires depth s → AreLines true (tokens.cases wires n s)
  lines_cases wires all n depth NoCase are = refl
  lines_cases wires all n depth (OneCase match assigns remarks inner rest) are =
      lines_then true (tokens.attributes n remarks) _ (lines_attributes n remarks are.2)
      (line_word n (codes "case") _ refl (omega arith) (tail_patterns wires match _ all are.0 (tail_end _
      (lines_then true (flat_map (tokens.assign wires (n + 2)) assigns) _ (lines_each (IsLink wires) (tokens.assign wires (n + 2)) (line_assign wires all (n + 2)) assigns are.1)
      (lines_then true (tokens.switches wires (n + 2) inner) _ (lines_switches wires all (n + 2) depth inner are.3) (lines_cases wires all n depth rest are.4))))))

-- ---- processes

tail_event : (wires : List Wire) → All IsWire wires → (e : Event) (ps : List Printed) → IsEvent wires e → IsTail ps → IsTail (tokens.event wires e ++ ps)
tail_event wires all (events.Low sig) ps is f = tail_word (codes "low") _ refl (omega arith) (tail_signal wires sig ps all is.signal f)
tail_event wires all (events.High sig) ps is f = tail_word (codes "high") _ refl (omega arith) (tail_signal wires sig ps all is.signal f)
tail_event wires all (events.Posedge sig) ps is f = tail_word (codes "posedge") _ refl (omega arith) (tail_signal wires sig ps all is.signal f)
tail_event wires all (events.Negedge sig) ps is f = tail_word (codes "negedge") _ refl (omega arith) (tail_signal wires sig ps all is.signal f)
tail_event wires all (events.Edge sig) ps is f = tail_word (codes "edge") _ refl (omega arith) (tail_signal wires sig ps all is.signal f)
tail_event wires all events.Global ps is f = tail_word (codes "global") ps refl (omega arith) f
tail_event wires all events.Init ps is f = tail_word (codes "init") ps refl (omega arith) f
tail_event wires all events.Always ps is f = tail_word (codes "always") ps refl (omega arith) f

line_update : (wires : List Wire) → All IsWire wires → (l : Link) → IsLink wires l → AreLines true (tokens.update wires l)
line_update wires all l is = line_word 6 (codes "update") _ refl (omega arith) (tail_pair wires all l is)

lines_write : (wires : List Wire) → All IsWire wires → (w : WriteLine) → IsWrite wires w → AreLines true (tokens.write wires w)
lines_write wires all w is =
    lines_then true (tokens.attributes 6 w.attributes) (tokens.write_line wires w) (lines_attributes 6 w.attributes is.attributes)
    (line_word 6 (codes "memwr") _ refl (omega arith) (tail_name w.memory _ is.memory (tail_signal wires w.address _ all is.address.signal (tail_signal wires w.value _ all is.value.signal (tail_signal wires w.enable _ all is.enable.signal (tail_constant w.mask _ is.mask end_line))))))

lines_sync : (wires : List Wire) → All IsWire wires → (s : SyncRule) → IsRule wires s → AreLines true (tokens.sync wires s)
lines_sync wires all s is =
    line_word 4 (codes "sync") _ refl (omega arith) (tail_event wires all s.event _ is.event (tail_end _
    (lines_then true (flat_map (tokens.update wires) s.updates) _ (lines_each (IsLink wires) (tokens.update wires) (line_update wires all) s.updates is.updates)
    (lines_each (IsWrite wires) (tokens.write wires) (lines_write wires all) s.writes is.writes))))

lines_process : (wires : List Wire) → All IsWire wires → (p : Process) → IsProcess wires p → AreLines true (tokens.process wires p)
lines_process wires all p is =
    lines_then true (tokens.attributes 2 p.attributes) (tokens.process_lines wires p) (lines_attributes 2 p.attributes is.attributes)
    (line_word 2 (codes "process") _ refl (omega arith) (tail_name p.name _ is.name (tail_end _
    (lines_then true (flat_map (tokens.assign wires 4) p.root.assigns) _ (lines_each (IsLink wires) (tokens.assign wires 4) (line_assign wires all 4) p.root.assigns is.assigns)
    (lines_then true (tokens.switches wires 4 p.root.switches) _ (lines_switches wires all 4 0 p.root.switches is.switches)
    (lines_then true (flat_map (tokens.sync wires) p.syncs) _ (lines_each (IsRule wires) (tokens.sync wires) (lines_sync wires all) p.syncs is.rules) (line_end 2)))))))

-- ---- modules and designs

line_link : (wires : List Wire) → All IsWire wires → (l : Link) → IsLink wires l → AreLines true (tokens.link wires l)
line_link wires all l is = line_word 2 (codes "connect") _ refl (omega arith) (tail_pair wires all l is)

lines_inner : (m : Module) → IsReadableModule m → AreLines true (tokens.inner m)
lines_inner m is =
    lines_then true (flat_map tokens.parameter m.parameters) _ (lines_each IsParameter tokens.parameter line_parameter m.parameters is.parameters)
    (lines_then true (flat_map tokens.wire m.wires) _ (lines_each IsWire tokens.wire lines_wire m.wires is.wires)
    (lines_then true (flat_map tokens.store m.memories) _ (lines_each IsStore tokens.store lines_store m.memories is.memories)
    (lines_then true (flat_map (tokens.cell m.wires) m.cells) _ (lines_each (IsCell m.wires) (tokens.cell m.wires) (lines_cell m.wires is.wires) m.cells is.cells)
    (lines_then true (flat_map (tokens.process m.wires) m.processes) _ (lines_each (IsProcess m.wires) (tokens.process m.wires) (lines_process m.wires is.wires) m.processes is.processes)
    (lines_each (IsLink m.wires) (tokens.link m.wires) (line_link m.wires is.wires) m.links is.links)))))

lines_module : (m : Module) → IsReadableModule m → AreLines true (tokens.one_module m)
lines_module m is =
    lines_then true (tokens.attributes 0 m.attributes) (tokens.module_lines m) (lines_attributes 0 m.attributes is.attributes)
    (line_word 0 (codes "module") _ refl (omega arith) (tail_name m.id _ is.id (tail_end _ (lines_then true (tokens.inner m) _ (lines_inner m is) (line_end 0)))))

-- the tokens of a readable design are whole lines
pub lines_design : (d : Design) → IsReadable d → AreLines true (tokens.tokens_of d)
lines_design d is = lines_each IsReadableModule tokens.one_module lines_module d.modules is.modules
