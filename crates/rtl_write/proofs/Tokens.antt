-- The canonical text as printed tokens, one definition a statement, as the text itself is defined.
use Rattle.std.specs.Prelude.{ℕ, ◌+◌, ◌-◌, ◌==◌, ◌&&◌, ℤ, pos, Bool, true, false, Option, Some, None, List, [], ◌∷◌, ◌++◌, length, map, slice_get, codes, if◌then◌else◌}
use Rattle.std.specs.List.{flat_map}
use Rattle.std.specs.Fmt.{decimal, signed_decimal}
use Rattle.rtl_lex.specs.declared.token.TokenKind.TheVariants as kinds
use Rattle.rtl_sig.specs.declared.sig.SigBit.{SigBit}
use Rattle.rtl_sig.specs.declared.sig.SigBit.TheVariants.{Fixed, Wire}
use Rattle.rtl_ir.specs.declared.value.Value.{Value}
use Rattle.rtl_ir.specs.declared.value.Value.TheVariants as values
use Rattle.rtl_ir.specs.declared.value.Attribute.{Attribute}
use Rattle.rtl_ir.specs.declared.wire.Role.{Role}
use Rattle.rtl_ir.specs.declared.wire.Role.TheVariants.{Inner, Input, Output, Inout}
use Rattle.rtl_ir.specs.declared.wire.Wire as wires
use Rattle.rtl_ir.specs.declared.store.Store.{Store}
use Rattle.rtl_ir.specs.declared.cell.CellParam.{CellParam}
use Rattle.rtl_ir.specs.declared.cell.Pin.{Pin}
use Rattle.rtl_ir.specs.declared.cell.Cell.{Cell}
use Rattle.rtl_ir.specs.declared.module.Link.{Link}
use Rattle.rtl_ir.specs.declared.module.Parameter.{Parameter}
use Rattle.rtl_ir.specs.declared.module.Module.{Module}
use Rattle.rtl_ir.specs.declared.module.Design.{Design}
use Rattle.rtl_ir.specs.Tree.{Switches, Cases, NoSwitch, OneSwitch, NoCase, OneCase}
use Rattle.rtl_ir.specs.declared.process.Event.{Event}
use Rattle.rtl_ir.specs.declared.process.Event.TheVariants as events
use Rattle.rtl_ir.specs.declared.process.WriteLine.{WriteLine}
use Rattle.rtl_ir.specs.declared.process.SyncRule.{SyncRule}
use Rattle.rtl_ir.specs.declared.process.Process.{Process}
use Rattle.rtl_write.specs.Constant.{bits_text, string_text}
use Rattle.rtl_write.specs.Signal.{constant_of, runs_of}
use Rattle.rtl_write.proofs.Printed.{Printed, Piece, EndLine}

-- ---- tokens

abbrev pub word : ℕ → List ℕ → Printed
word n text = Piece n kinds.Word text

abbrev pub name : List ℕ → Printed
name text = Piece 1 kinds.Id text

abbrev pub number : ℕ → ℕ → Printed
number n k = Piece n kinds.Int (decimal k)

abbrev pub integer : ℤ → Printed
integer z = Piece 1 kinds.Int (signed_decimal z)

abbrev pub mark : ℕ → ℕ → Printed
mark n b = Piece n kinds.Mark (b ∷ [])

abbrev pub constant : Value → Printed
constant (values.Bits bits signed) = Piece 1 kinds.Value (bits_text bits signed)
constant (values.Int z) = integer z
constant (values.Chars chars) = Piece 1 kinds.Chars (string_text chars)

-- ---- signals

-- the brackets behind a wire
abbrev pub index : Bool → Bool → ℕ → ℕ → List Printed
index whole one low count =
    if whole then []
    else if one then mark 1 91 ∷ number 0 low ∷ mark 0 93 ∷ []
    else mark 1 91 ∷ number 0 (low + count - 1) ∷ mark 0 58 ∷ number 0 low ∷ mark 0 93 ∷ []

abbrev pub part : Option wires.Wire → ℕ → ℕ → List Printed
part None low count = name [] ∷ []
part (Some wire) low count = name wire.name ∷ index ((low == 0) && (count == wire.width)) (count == 1) low count

abbrev pub run : List wires.Wire → List SigBit → List Printed
run wires [] = name [] ∷ []
run wires (Fixed bit ∷ bits) = Piece 1 kinds.Value (bits_text (bit ∷ map constant_of bits) false) ∷ []
run wires (Wire first ∷ bits) = part (slice_get wires first.wire) first.at (length bits + 1)

abbrev pub braces : List wires.Wire → List (List SigBit) → List Printed
braces wires runs = mark 1 123 ∷ (flat_map (run wires) runs ++ mark 1 125 ∷ [])

abbrev pub runs : List wires.Wire → List (List SigBit) → List Printed
runs wires [] = braces wires []
runs wires (one ∷ []) = run wires one
runs wires (one ∷ next ∷ more) = braces wires (one ∷ next ∷ more)

abbrev pub signal : List wires.Wire → List SigBit → List Printed
signal wires bits = runs wires (runs_of bits)

-- ---- statements

abbrev pub attribute : ℕ → Attribute → List Printed
attribute n a = word n (codes "attribute") ∷ name a.name ∷ constant a.value ∷ EndLine ∷ []

abbrev pub attributes : ℕ → List Attribute → List Printed
attributes n remarks = flat_map (attribute n) remarks

abbrev pub default : Option Value → List Printed
default None = EndLine ∷ []
default (Some value) = constant value ∷ EndLine ∷ []

abbrev pub parameter : Parameter → List Printed
parameter p = word 2 (codes "parameter") ∷ name p.name ∷ default p.value

abbrev pub width_option : ℕ → List Printed
width_option n = if n == 1 then [] else word 1 (codes "width") ∷ number 1 n ∷ []

abbrev pub size_option : ℤ → List Printed
size_option (pos ℕ.zero) = []
size_option n = word 1 (codes "size") ∷ integer n ∷ []

abbrev pub offset_option : ℤ → List Printed
offset_option (pos ℕ.zero) = []
offset_option n = word 1 (codes "offset") ∷ integer n ∷ []

abbrev pub upto_option : Bool → List Printed
upto_option true = word 1 (codes "upto") ∷ []
upto_option false = []

abbrev pub signed_option : Bool → List Printed
signed_option true = word 1 (codes "signed") ∷ []
signed_option false = []

abbrev pub role_option : Role → ℤ → List Printed
role_option Inner n = []
role_option Input n = word 1 (codes "input") ∷ integer n ∷ []
role_option Output n = word 1 (codes "output") ∷ integer n ∷ []
role_option Inout n = word 1 (codes "inout") ∷ integer n ∷ []

abbrev pub wire_line : wires.Wire → List Printed
wire_line w = word 2 (codes "wire") ∷ (width_option w.width ++ (upto_option w.upto ++ (offset_option w.offset ++ (role_option w.role w.number ++ (signed_option w.signed ++ name w.name ∷ EndLine ∷ [])))))

abbrev pub wire : wires.Wire → List Printed
wire w = attributes 2 w.attributes ++ wire_line w

abbrev pub store_line : Store → List Printed
store_line s = word 2 (codes "memory") ∷ (width_option s.width ++ (size_option s.size ++ (offset_option s.offset ++ name s.name ∷ EndLine ∷ [])))

abbrev pub store : Store → List Printed
store s = attributes 2 s.attributes ++ store_line s

abbrev pub cell_param : CellParam → List Printed
cell_param p = word 4 (codes "parameter") ∷ (signed_option p.signed ++ name p.name ∷ constant p.value ∷ EndLine ∷ [])

abbrev pub pin : List wires.Wire → Pin → List Printed
pin wires p = word 4 (codes "connect") ∷ name p.name ∷ (signal wires p.sig ++ EndLine ∷ [])

abbrev pub cell_lines : List wires.Wire → Cell → List Printed
cell_lines wires c = word 2 (codes "cell") ∷ name c.kind_name ∷ name c.name ∷ EndLine ∷ (flat_map cell_param c.params ++ (flat_map (pin wires) c.pins ++ word 2 (codes "end") ∷ EndLine ∷ []))

abbrev pub cell : List wires.Wire → Cell → List Printed
cell wires c = attributes 2 c.attributes ++ cell_lines wires c

-- a pair of signals behind a word
abbrev pub pair : List wires.Wire → Link → List Printed
pair wires l = signal wires l.left ++ (signal wires l.right ++ EndLine ∷ [])

abbrev pub assign : List wires.Wire → ℕ → Link → List Printed
assign wires n l = word n (codes "assign") ∷ pair wires l

abbrev pub more_patterns : List wires.Wire → List (List SigBit) → List Printed
more_patterns wires patterns = flat_map (λ pattern. mark 1 44 ∷ signal wires pattern) patterns

abbrev pub patterns : List wires.Wire → List (List SigBit) → List Printed
patterns wires [] = []
patterns wires (first ∷ more) = signal wires first ++ more_patterns wires more

abbrev mutual
  pub switches : List wires.Wire → ℕ → Switches → List Printed
  switches wires n NoSwitch = []
  switches wires n (OneSwitch sig remarks all rest) =
      attributes n remarks ++ (word n (codes "switch") ∷ (signal wires sig ++ EndLine ∷ (cases wires (n + 2) all ++ word n (codes "end") ∷ EndLine ∷ switches wires n rest)))

  pub cases : List wires.Wire → ℕ → Cases → List Printed
  cases wires n NoCase = []
  cases wires n (OneCase match assigns remarks inner rest) =
      attributes n remarks ++ (word n (codes "case") ∷ (patterns wires match ++ EndLine ∷ (flat_map (assign wires (n + 2)) assigns ++ (switches wires (n + 2) inner ++ cases wires n rest))))

abbrev pub event : List wires.Wire → Event → List Printed
event wires (events.Low sig) = word 1 (codes "low") ∷ signal wires sig
event wires (events.High sig) = word 1 (codes "high") ∷ signal wires sig
event wires (events.Posedge sig) = word 1 (codes "posedge") ∷ signal wires sig
event wires (events.Negedge sig) = word 1 (codes "negedge") ∷ signal wires sig
event wires (events.Edge sig) = word 1 (codes "edge") ∷ signal wires sig
event wires events.Global = word 1 (codes "global") ∷ []
event wires events.Init = word 1 (codes "init") ∷ []
event wires events.Always = word 1 (codes "always") ∷ []

abbrev pub update : List wires.Wire → Link → List Printed
update wires l = word 6 (codes "update") ∷ pair wires l

abbrev pub write_line : List wires.Wire → WriteLine → List Printed
write_line wires w = word 6 (codes "memwr") ∷ name w.memory ∷ (signal wires w.address ++ (signal wires w.value ++ (signal wires w.enable ++ constant w.mask ∷ EndLine ∷ [])))

abbrev pub write : List wires.Wire → WriteLine → List Printed
write wires w = attributes 6 w.attributes ++ write_line wires w

abbrev pub sync : List wires.Wire → SyncRule → List Printed
sync wires s = word 4 (codes "sync") ∷ (event wires s.event ++ EndLine ∷ (flat_map (update wires) s.updates ++ flat_map (write wires) s.writes))

abbrev pub process_lines : List wires.Wire → Process → List Printed
process_lines wires p = word 2 (codes "process") ∷ name p.name ∷ EndLine ∷ (flat_map (assign wires 4) p.root.assigns ++ (switches wires 4 p.root.switches ++ (flat_map (sync wires) p.syncs ++ word 2 (codes "end") ∷ EndLine ∷ [])))

abbrev pub process : List wires.Wire → Process → List Printed
process wires p = attributes 2 p.attributes ++ process_lines wires p

abbrev pub link : List wires.Wire → Link → List Printed
link wires l = word 2 (codes "connect") ∷ pair wires l

abbrev pub inner : Module → List Printed
inner m = flat_map parameter m.parameters ++ (flat_map wire m.wires ++ (flat_map store m.memories ++ (flat_map (cell m.wires) m.cells ++ (flat_map (process m.wires) m.processes ++ flat_map (link m.wires) m.links))))

abbrev pub module_lines : Module → List Printed
module_lines m = word 0 (codes "module") ∷ name m.id ∷ EndLine ∷ (inner m ++ word 0 (codes "end") ∷ EndLine ∷ [])

abbrev pub one_module : Module → List Printed
one_module m = attributes 0 m.attributes ++ module_lines m

abbrev pub tokens_of : Design → List Printed
tokens_of d = flat_map one_module d.modules
