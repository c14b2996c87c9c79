-- The canonical text of a design: one statement a line, two blanks a level.
use Rattle.std.specs.Prelude.{ℕ, ◌*◌, ◌==◌, Bool, true, false, Option, Some, None, List, [], ◌∷◌, ◌++◌, codes, replicate, if◌then◌else◌}
use Rattle.std.specs.List.{flat_map}
use Rattle.std.specs.Fmt.{decimal, signed_decimal}
use Rattle.std.specs.Prelude.{ℤ, pos}
use Rattle.rtl_sig.specs.declared.sig.SigBit.{SigBit}
use Rattle.rtl_ir.specs.declared.value.Value.{Value}
use Rattle.rtl_ir.specs.declared.value.Attribute.{Attribute}
use Rattle.rtl_ir.specs.declared.wire.Role.{Role}
use Rattle.rtl_ir.specs.declared.wire.Role.TheVariants.{Inner, Input, Output, Inout}
use Rattle.rtl_ir.specs.declared.wire.Wire.{Wire}
use Rattle.rtl_ir.specs.declared.store.Store.{Store}
use Rattle.rtl_ir.specs.declared.cell.CellParam.{CellParam}
use Rattle.rtl_ir.specs.declared.cell.Pin.{Pin}
use Rattle.rtl_ir.specs.declared.cell.Cell.{Cell}
use Rattle.rtl_ir.specs.declared.module.Link.{Link}
use Rattle.rtl_ir.specs.declared.module.Parameter.{Parameter}
use Rattle.rtl_ir.specs.declared.module.Module.{Module}
use Rattle.rtl_ir.specs.declared.module.Design.{Design}
use Rattle.rtl_ir.specs.Tree.{Switches, Cases, NoSwitch, OneSwitch, NoCase, OneCase}
use Rattle.rtl_ir.specs.declared.process.Event.{Event}
use Rattle.rtl_ir.specs.declared.process.Event.TheVariants as events
use Rattle.rtl_ir.specs.declared.process.WriteLine.{WriteLine}
use Rattle.rtl_ir.specs.declared.process.SyncRule.{SyncRule}
use Rattle.rtl_ir.specs.declared.process.Process.{Process}
use Rattle.rtl_write.specs.Constant.{value_text}
use Rattle.rtl_write.specs.Signal.{signal_text}

-- the blanks before a statement of this depth
unfoldable pub indent : ℕ → List ℕ
indent depth = replicate (2 * depth) 32

-- an attribute, behind the blanks of what it stands before
unfoldable pub attribute_text : List ℕ → Attribute → List ℕ
attribute_text blanks a = blanks ++ codes "attribute " ++ a.name ++ 32 ∷ value_text a.value ++ codes "\n"

abbrev pub attributes_text : List ℕ → List Attribute → List ℕ
attributes_text blanks attributes = flat_map (attribute_text blanks) attributes

-- a parameter of a module, with its constant where it has one
abbrev pub default_text : Option Value → List ℕ
default_text None = []
default_text (Some value) = 32 ∷ value_text value

unfoldable pub parameter_text : Parameter → List ℕ
parameter_text p = codes "  parameter " ++ p.name ++ default_text p.value ++ codes "\n"

-- options that stand where they are not the default
unfoldable pub width_option : ℕ → List ℕ
width_option n = if n == 1 then [] else codes " width " ++ decimal n

unfoldable pub size_option : ℤ → List ℕ
size_option (pos ℕ.zero) = []
size_option n = codes " size " ++ signed_decimal n

unfoldable pub offset_option : ℤ → List ℕ
offset_option (pos ℕ.zero) = []
offset_option n = codes " offset " ++ signed_decimal n

unfoldable pub upto_option : Bool → List ℕ
upto_option true = codes " upto"
upto_option false = []

unfoldable pub signed_option : Bool → List ℕ
signed_option true = codes " signed"
signed_option false = []

unfoldable pub role_option : Role → ℤ → List ℕ
role_option Inner n = []
role_option Input n = codes " input " ++ signed_decimal n
role_option Output n = codes " output " ++ signed_decimal n
role_option Inout n = codes " inout " ++ signed_decimal n

-- the options of a wire: width, upto, offset, direction, signed
unfoldable pub wire_options : Wire → List ℕ
wire_options w = width_option w.width ++ upto_option w.upto ++ offset_option w.offset ++ role_option w.role w.number ++ signed_option w.signed

-- a wire: its options, its name
unfoldable pub wire_text : Wire → List ℕ
wire_text w = attributes_text (codes "  ") w.attributes ++ codes "  wire" ++ wire_options w ++ 32 ∷ w.name ++ codes "\n"

-- a memory: width, size, offset, name
unfoldable pub store_text : Store → List ℕ
store_text s = attributes_text (codes "  ") s.attributes ++ codes "  memory" ++ width_option s.width ++ size_option s.size
    ++ offset_option s.offset ++ 32 ∷ s.name ++ codes "\n"

-- how the parameter of a cell begins, with its `signed`
unfoldable pub cell_param_head : Bool → List ℕ
cell_param_head signed = indent 2 ++ codes "parameter" ++ signed_option signed

-- a parameter of a cell
unfoldable pub cell_param_text : CellParam → List ℕ
cell_param_text p = cell_param_head p.signed ++ 32 ∷ p.name ++ 32 ∷ value_text p.value ++ codes "\n"

-- how the pin of a cell begins
unfoldable pub pin_head : List ℕ → List ℕ
pin_head name = indent 2 ++ codes "connect " ++ name

-- a pin, and its signal
unfoldable pub pin_text : List Wire → Pin → List ℕ
pin_text wires p = pin_head p.name ++ 32 ∷ signal_text wires p.sig ++ codes "\n"

-- a cell: its type, its name, its parameters, its pins
unfoldable pub cell_text : List Wire → Cell → List ℕ
cell_text wires c = attributes_text (codes "  ") c.attributes ++ codes "  cell " ++ c.kind_name ++ 32 ∷ c.name ++ codes "\n"
    ++ flat_map cell_param_text c.params ++ flat_map (pin_text wires) c.pins ++ codes "  end\n"

-- an assign, behind these blanks
unfoldable pub assign_text : List Wire → List ℕ → Link → List ℕ
assign_text wires blanks l = blanks ++ codes "assign " ++ signal_text wires l.left ++ 32 ∷ signal_text wires l.right ++ codes "\n"

-- the patterns of a case, with a blank, a comma and a blank between them
unfoldable pub patterns_text : List Wire → List (List SigBit) → List ℕ
patterns_text wires [] = []
patterns_text wires (first ∷ patterns) = 32 ∷ signal_text wires first ++ flat_map (λ pattern. codes " , " ++ signal_text wires pattern) patterns

-- the first line of a case
unfoldable pub case_head : List Wire → List ℕ → List (List SigBit) → List Attribute → List ℕ
case_head wires blanks patterns attributes = attributes_text blanks attributes ++ blanks ++ codes "case" ++ patterns_text wires patterns ++ codes "\n"

-- the first line of a switch
unfoldable pub switch_head : List Wire → List ℕ → List SigBit → List Attribute → List ℕ
switch_head wires blanks signal attributes = attributes_text blanks attributes ++ blanks ++ codes "switch " ++ signal_text wires signal ++ codes "\n"

-- one level deeper
abbrev pub deeper : List ℕ → List ℕ
deeper blanks = blanks ++ 32 ∷ 32 ∷ []

unfoldable mutual
  -- switches: each with its cases, one level deeper, and its end
  pub switches_text : List Wire → List ℕ → Switches → List ℕ
  switches_text wires blanks NoSwitch = []
  switches_text wires blanks (OneSwitch signal attributes cases rest) =
      (switch_head wires blanks signal attributes ++ cases_text wires (deeper blanks) cases ++ blanks ++ codes "end\n") ++ switches_text wires blanks rest

  -- cases: each with its assigns and then its switches, one level deeper
  pub cases_text : List Wire → List ℕ → Cases → List ℕ
  cases_text wires blanks NoCase = []
  cases_text wires blanks (OneCase patterns assigns attributes switches rest) =
      (case_head wires blanks patterns attributes ++ flat_map (assign_text wires (deeper blanks)) assigns ++ switches_text wires (deeper blanks) switches) ++ cases_text wires blanks rest

-- when a rule acts
unfoldable pub event_text : List Wire → Event → List ℕ
event_text wires (events.Low signal) = codes "low " ++ signal_text wires signal
event_text wires (events.High signal) = codes "high " ++ signal_text wires signal
event_text wires (events.Posedge signal) = codes "posedge " ++ signal_text wires signal
event_text wires (events.Negedge signal) = codes "negedge " ++ signal_text wires signal
event_text wires (events.Edge signal) = codes "edge " ++ signal_text wires signal
event_text wires events.Global = codes "global"
event_text wires events.Init = codes "init"
event_text wires events.Always = codes "always"

-- a line that takes a value over
unfoldable pub update_text : List Wire → Link → List ℕ
update_text wires l = indent 3 ++ codes "update " ++ signal_text wires l.left ++ 32 ∷ signal_text wires l.right ++ codes "\n"

-- a line that writes a memory: its name, address, value and enable
unfoldable pub write_signals : List Wire → WriteLine → List ℕ
write_signals wires w = w.memory ++ 32 ∷ signal_text wires w.address ++ 32 ∷ signal_text wires w.value ++ 32 ∷ signal_text wires w.enable

-- a line that writes a memory, with its mask
unfoldable pub write_text : List Wire → WriteLine → List ℕ
write_text wires w = attributes_text (indent 3) w.attributes ++ indent 3 ++ codes "memwr " ++ write_signals wires w ++ 32 ∷ value_text w.mask ++ codes "\n"

-- a rule with its lines
unfoldable pub sync_text : List Wire → SyncRule → List ℕ
sync_text wires s = codes "    sync " ++ event_text wires s.event ++ codes "\n" ++ flat_map (update_text wires) s.updates ++ flat_map (write_text wires) s.writes

-- a process: its root's assigns and switches, and its rules
unfoldable pub process_text : List Wire → Process → List ℕ
process_text wires p = attributes_text (codes "  ") p.attributes ++ codes "  process " ++ p.name ++ codes "\n"
    ++ flat_map (assign_text wires (indent 2)) p.root.assigns ++ switches_text wires (indent 2) p.root.switches
    ++ flat_map (sync_text wires) p.syncs ++ codes "  end\n"

-- a connection: the right drives the left
unfoldable pub link_text : List Wire → Link → List ℕ
link_text wires l = codes "  connect " ++ signal_text wires l.left ++ 32 ∷ signal_text wires l.right ++ codes "\n"

-- what stands between the first line of a module and its end: parameters, wires, memories, cells, processes, connections
unfoldable pub inner_text : Module → List ℕ
inner_text m = flat_map parameter_text m.parameters ++ flat_map wire_text m.wires ++ flat_map store_text m.memories
    ++ flat_map (cell_text m.wires) m.cells ++ flat_map (process_text m.wires) m.processes ++ flat_map (link_text m.wires) m.links

-- a module
unfoldable pub module_text : Module → List ℕ
module_text m = attributes_text [] m.attributes ++ codes "module " ++ m.id ++ codes "\n" ++ inner_text m ++ codes "end\n"

-- a module without its name
unfoldable pub body_text : Module → List ℕ
body_text m = attributes_text [] m.attributes ++ codes "module\n" ++ inner_text m ++ codes "end\n"

-- a design: its modules, one after another
abbrev pub text_of : Design → List ℕ
text_of d = flat_map module_text d.modules
