-- What each token does, by the place in the grammar where it stands: its effect on what has been read, or its fault.
pub mod File
pub mod Attribute
pub mod Module
pub mod Wire
pub mod Memory
pub mod Cell
pub mod Pair
pub mod Process
pub mod Switch
pub mod Sync
pub mod Signal
use Rattle.std.specs.Prelude.{Result, Ok}
use Rattle.rtl_lex.specs.Items.{Seen}
use Rattle.rtl_grammar.specs.declared.expect.Expect.{Expect}
use Rattle.rtl_grammar.specs.declared.expect.Expect.TheVariants as expects
use Rattle.rtl_read.specs.declared.read_fault.ReadFault.{ReadFault}
use Rattle.rtl_read.specs.declared.draft.Draft.{Draft}
use Rattle.rtl_read.specs.Act.File.{act_autoidx_number, act_modules}
use Rattle.rtl_read.specs.Act.Attribute.{act_attribute_name, act_attribute_value}
use Rattle.rtl_read.specs.Act.Module.{act_module_name, act_body, act_next_item, act_parameter_name, act_parameter_value}
use Rattle.rtl_read.specs.Act.Wire.{act_wire_option, act_wire_width, act_wire_offset, act_port_number}
use Rattle.rtl_read.specs.Act.Memory.{act_memory_option, act_memory_width, act_memory_size, act_memory_offset}
use Rattle.rtl_read.specs.Act.Cell.{act_cell_kind, act_cell_name, act_cell_body, act_cell_parameter, act_cell_parameter_name, act_cell_parameter_value, act_pin_name, act_behind_pin}
use Rattle.rtl_read.specs.Act.Pair.{act_behind_left, act_behind_right}
use Rattle.rtl_read.specs.Act.Process.{act_process_name, act_process_body, act_next_switch}
use Rattle.rtl_read.specs.Act.Switch.{act_behind_switch, act_cases, act_next_case, act_patterns, act_behind_pattern, act_case_body, act_next_in_case}
use Rattle.rtl_read.specs.Act.Sync.{act_sync_event, act_behind_event, act_sync_body, act_next_write, act_write_memory, act_behind_address, act_behind_value, act_behind_enable}
use Rattle.rtl_read.specs.Act.Signal.{act_signal, act_inside, act_behind_inside, act_index, act_behind_index, act_low_index, act_index_end}

-- what a token does that stands where the first is expected
abbrev pub act : Expect → Seen → Draft → Result Draft ReadFault
act expects.Start i d = act_modules i.sort i d
act expects.FileHead i d = act_modules i.sort i d
act expects.AutoidxNumber i d = act_autoidx_number i d
act expects.Modules i d = act_modules i.sort i d
act expects.NextModule i d = act_modules i.sort i d
act expects.EndOfLine i d = Ok d
act expects.AttributeName i d = Ok (act_attribute_name i d)
act expects.AttributeValue i d = act_attribute_value i.sort i d
act expects.ModuleName i d = act_module_name i d
act expects.Body i d = act_body i.sort i d
act expects.NextItem i d = act_next_item i.sort i d
act expects.ParameterName i d = Ok (act_parameter_name i d)
act expects.ParameterValue i d = act_parameter_value i.sort i d
act expects.WireOption i d = act_wire_option i.sort i d
act expects.WireWidth i d = act_wire_width i d
act expects.WireOffset i d = act_wire_offset i d
act expects.PortNumber i d = act_port_number i d
act expects.MemoryOption i d = act_memory_option i.sort i d
act expects.MemoryWidth i d = act_memory_width i d
act expects.MemorySize i d = act_memory_size i d
act expects.MemoryOffset i d = act_memory_offset i d
act expects.CellKind i d = Ok (act_cell_kind i d)
act expects.CellName i d = act_cell_name i d
act expects.CellBody i d = Ok (act_cell_body i.sort d)
act expects.CellParameter i d = act_cell_parameter i.sort i d
act expects.CellParameterName i d = act_cell_parameter_name i d
act expects.CellParameterValue i d = act_cell_parameter_value i.sort i d
act expects.PinName i d = act_pin_name i d
act expects.BehindPin i d = Ok (act_behind_pin i.sort i d)
act expects.BehindLeft i d = act_behind_left i.sort i d
act expects.BehindRight i d = Ok (act_behind_right i.sort i d)
act expects.ProcessName i d = act_process_name i d
act expects.ProcessBody i d = act_process_body i.sort i d
act expects.NextSwitch i d = act_next_switch i.sort i d
act expects.BehindSwitch i d = act_behind_switch i.sort i d
act expects.Cases i d = Ok (act_cases i.sort d)
act expects.NextCase i d = Ok (act_next_case i.sort d)
act expects.Patterns i d = act_patterns i.sort i d
act expects.BehindPattern i d = act_behind_pattern i.sort i d
act expects.CaseBody i d = act_case_body i.sort i d
act expects.NextInCase i d = act_next_in_case i.sort i d
act expects.SyncEvent i d = Ok (act_sync_event i.sort d)
act expects.BehindEvent i d = act_behind_event i.sort i d
act expects.SyncBody i d = Ok (act_sync_body i.sort d)
act expects.NextWrite i d = Ok (act_next_write i.sort d)
act expects.WriteMemory i d = Ok (act_write_memory i d)
act expects.BehindAddress i d = act_behind_address i.sort i d
act expects.BehindValue i d = act_behind_value i.sort i d
act expects.BehindEnable i d = act_behind_enable i.sort i d
act expects.Signal i d = act_signal i d
act expects.Inside i d = act_inside i d
act expects.BehindInside i d = act_behind_inside i d
act expects.Index i d = act_index i d
act expects.BehindIndex i d = act_behind_index i d
act expects.LowIndex i d = act_low_index i d
act expects.IndexEnd i d = act_index_end i d
