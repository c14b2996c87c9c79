-- The module that is open: its body, and the names that its items have.
use Rattle.std.specs.Prelude.{ℕ, ◌+◌, List, [], ◌∷◌, ◌++◌, Bool, is_some, ◌||◌, nat_lt, if◌then◌else◌, Option, Result, Ok, Err}
use Rattle.rtl_lex.specs.Items.{Seen}
use Rattle.rtl_sig.specs.Names.{number_of, with_name}
use Rattle.rtl_ir.specs.Empty.{empty_module}
use Rattle.rtl_ir.specs.declared.value.Value.{Value}
use Rattle.rtl_ir.specs.declared.value.Attribute.{Attribute}
use Rattle.rtl_ir.specs.declared.wire.Wire.{Wire}
use Rattle.rtl_ir.specs.declared.store.Store.{Store}
use Rattle.rtl_ir.specs.declared.cell.Cell.{Cell}
use Rattle.rtl_ir.specs.declared.process.Process.{Process}
use Rattle.rtl_ir.specs.declared.module.Link.{Link}
use Rattle.rtl_ir.specs.declared.limits.TheConstants.{MAX_BITS}
use Rattle.rtl_read.specs.declared.read_fault.ReadFault.{ReadFault}
use Rattle.rtl_read.specs.declared.read_fault.ReadFault.TheVariants as faults
use Rattle.rtl_read.specs.declared.open_module.OpenModule.{OpenModule}
use Rattle.rtl_grammar.specs.Uses.{◌>>=◌}

-- a module of this name with these attributes, in which there is nothing yet
abbrev pub fresh_module : List ℕ → List Attribute → OpenModule
fresh_module id attributes = record {
  body = record (empty_module id) { attributes = attributes };
  wire_names = [];
  other_names = [];
  bits = 0;
}

-- whether a wire, a memory, a cell or a process has this name
abbrev pub is_taken : List ℕ → OpenModule → Bool
is_taken name m = is_some (number_of m.wire_names name) || is_some (number_of m.other_names name)

-- the name of a memory, a cell or a process
abbrev pub with_item_name : Seen → OpenModule → Result OpenModule ReadFault
with_item_name i m = if is_taken i.text m then Err (faults.Duplicate i.place) else Ok (record m { other_names = with_name m.other_names i.text })

-- a wire, by its name
abbrev pub with_wire : Seen → Wire → OpenModule → Result OpenModule ReadFault
with_wire i w m =
    if is_taken i.text m then Err (faults.Duplicate i.place)
    else (if nat_lt MAX_BITS (m.bits + w.width) then Err (faults.Limit i.place)
    else Ok (record m {
      body = record m.body { wires = m.body.wires ++ record w { name = i.text } ∷ [] };
      wire_names = with_name m.wire_names i.text;
      bits = m.bits + w.width;
    }))

-- a memory, by its name
abbrev pub with_store : Seen → Store → OpenModule → Result OpenModule ReadFault
with_store i store m = with_item_name i m >>= λ n. Ok (record n { body = record n.body { memories = n.body.memories ++ record store { name = i.text } ∷ [] } })

-- with one more parameter, cell, process, connection
abbrev pub with_parameter : List ℕ → Option Value → OpenModule → OpenModule
with_parameter name v m = record m { body = record m.body { parameters = m.body.parameters ++ record { name = name; value = v } ∷ [] } }

abbrev pub with_cell : Cell → OpenModule → OpenModule
with_cell cell m = record m { body = record m.body { cells = m.body.cells ++ cell ∷ [] } }

abbrev pub with_process : Process → OpenModule → OpenModule
with_process process m = record m { body = record m.body { processes = m.body.processes ++ process ∷ [] } }

abbrev pub with_link : Link → OpenModule → OpenModule
with_link link m = record m { body = record m.body { links = m.body.links ++ link ∷ [] } }
