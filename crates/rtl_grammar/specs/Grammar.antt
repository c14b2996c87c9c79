-- The grammar, by cases on tokens: what has to follow each token that may stand at a place.
pub mod File
pub mod Attribute
pub mod Module
pub mod Wire
pub mod Memory
pub mod Cell
pub mod Pair
pub mod Process
pub mod Switch
pub mod Sync
pub mod Signal
use Rattle.std.specs.Prelude.{◌≡◌, List, [], ◌∷◌, ◌++◌, Option, Some}
use Rattle.rtl_lex.specs.declared.sort.Sort.{Sort}
use Rattle.rtl_grammar.specs.declared.expect.Expect.{Expect}
use Rattle.rtl_grammar.specs.declared.expect.Expect.TheVariants as expects
use Rattle.rtl_grammar.specs.Grammar.File.{after_start, after_file_head, after_autoidx_number, after_modules, after_next_module, after_end_of_line}
use Rattle.rtl_grammar.specs.Grammar.Attribute.{after_attribute_name, after_attribute_value}
use Rattle.rtl_grammar.specs.Grammar.Module.{after_module_name, after_body, after_next_item, after_parameter_name, after_parameter_value}
use Rattle.rtl_grammar.specs.Grammar.Wire.{after_wire_option, after_wire_width, after_wire_offset, after_port_number}
use Rattle.rtl_grammar.specs.Grammar.Memory.{after_memory_option, after_memory_width, after_memory_size, after_memory_offset}
use Rattle.rtl_grammar.specs.Grammar.Cell.{after_cell_kind, after_cell_name, after_cell_body, after_cell_parameter, after_cell_parameter_name, after_cell_parameter_value, after_pin_name, after_behind_pin}
use Rattle.rtl_grammar.specs.Grammar.Pair.{after_behind_left, after_behind_right}
use Rattle.rtl_grammar.specs.Grammar.Process.{after_process_name, after_process_body, after_next_switch}
use Rattle.rtl_grammar.specs.Grammar.Switch.{after_behind_switch, after_cases, after_next_case, after_patterns, after_behind_pattern, after_case_body, after_next_in_case}
use Rattle.rtl_grammar.specs.Grammar.Sync.{after_sync_event, after_behind_event, after_sync_body, after_next_write, after_write_memory, after_behind_address, after_behind_value, after_behind_enable}
use Rattle.rtl_grammar.specs.Grammar.Signal.{after_signal, after_inside, after_behind_inside, after_index, after_behind_index, after_low_index, after_index_end}

-- what is expected behind a token that stands where the first is expected; none where it cannot stand there
abbrev pub after : Expect → Sort → Option (List Expect)
after expects.Start sort = after_start sort
after expects.FileHead sort = after_file_head sort
after expects.AutoidxNumber sort = after_autoidx_number sort
after expects.Modules sort = after_modules sort
after expects.NextModule sort = after_next_module sort
after expects.EndOfLine sort = after_end_of_line sort
after expects.AttributeName sort = after_attribute_name sort
after expects.AttributeValue sort = after_attribute_value sort
after expects.ModuleName sort = after_module_name sort
after expects.Body sort = after_body sort
after expects.NextItem sort = after_next_item sort
after expects.ParameterName sort = after_parameter_name sort
after expects.ParameterValue sort = after_parameter_value sort
after expects.WireOption sort = after_wire_option sort
after expects.WireWidth sort = after_wire_width sort
after expects.WireOffset sort = after_wire_offset sort
after expects.PortNumber sort = after_port_number sort
after expects.MemoryOption sort = after_memory_option sort
after expects.MemoryWidth sort = after_memory_width sort
after expects.MemorySize sort = after_memory_size sort
after expects.MemoryOffset sort = after_memory_offset sort
after expects.CellKind sort = after_cell_kind sort
after expects.CellName sort = after_cell_name sort
after expects.CellBody sort = after_cell_body sort
after expects.CellParameter sort = after_cell_parameter sort
after expects.CellParameterName sort = after_cell_parameter_name sort
after expects.CellParameterValue sort = after_cell_parameter_value sort
after expects.PinName sort = after_pin_name sort
after expects.BehindPin sort = after_behind_pin sort
after expects.BehindLeft sort = after_behind_left sort
after expects.BehindRight sort = after_behind_right sort
after expects.ProcessName sort = after_process_name sort
after expects.ProcessBody sort = after_process_body sort
after expects.NextSwitch sort = after_next_switch sort
after expects.BehindSwitch sort = after_behind_switch sort
after expects.Cases sort = after_cases sort
after expects.NextCase sort = after_next_case sort
after expects.Patterns sort = after_patterns sort
after expects.BehindPattern sort = after_behind_pattern sort
after expects.CaseBody sort = after_case_body sort
after expects.NextInCase sort = after_next_in_case sort
after expects.SyncEvent sort = after_sync_event sort
after expects.BehindEvent sort = after_behind_event sort
after expects.SyncBody sort = after_sync_body sort
after expects.NextWrite sort = after_next_write sort
after expects.WriteMemory sort = after_write_memory sort
after expects.BehindAddress sort = after_behind_address sort
after expects.BehindValue sort = after_behind_value sort
after expects.BehindEnable sort = after_behind_enable sort
after expects.Signal sort = after_signal sort
after expects.Inside sort = after_inside sort
after expects.BehindInside sort = after_behind_inside sort
after expects.Index sort = after_index sort
after expects.BehindIndex sort = after_behind_index sort
after expects.LowIndex sort = after_low_index sort
after expects.IndexEnd sort = after_index_end sort

-- the tokens, each with the place in the grammar where it stands, are what is expected
abbrev pub Derives : List Expect → List (Expect × Sort) → Type 0
Derives [] [] = Unit {0}
Derives [] (one ∷ more) = ⊥
Derives (role ∷ roles) [] = ⊥
Derives (role ∷ roles) (one ∷ more) = (one.0 ≡ role) × ((body : List Expect) × (after role one.1 ≡ Some body) × Derives (body ++ roles) more)

-- the tokens are a text of the grammar
abbrev pub IsText : List (Expect × Sort) → Type 0
IsText places = Derives (expects.Start ∷ []) places
