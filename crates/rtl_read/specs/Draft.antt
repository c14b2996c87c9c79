-- What has been read so far, while a text is read: the modules that are whole, and what is open.
use Rattle.std.specs.Prelude.{[]}
use Rattle.rtl_ir.specs.declared.module.Design.{Design}
use Rattle.rtl_read.specs.Meaning.Attribute.{no_attributes}
use Rattle.rtl_read.specs.Meaning.Module.{fresh_module}
use Rattle.rtl_read.specs.Meaning.Wire.{plain_wire, plain_store}
use Rattle.rtl_read.specs.Meaning.Cell.{plain_cell}
use Rattle.rtl_read.specs.Meaning.Process.{plain_process}
use Rattle.rtl_read.specs.Signal.{no_signal}
use Rattle.rtl_read.specs.declared.draft.Draft.{Draft}
use Rattle.rtl_read.specs.declared.draft.PairKind.TheVariants.{Connect}

-- nothing: no module, and nothing open
abbrev pub nothing : Draft
nothing = record {
  modules = [];
  names = [];
  current = fresh_module [] [];
  wire = plain_wire [];
  store = plain_store [];
  cell = plain_cell [];
  process = plain_process [];
  pair = Connect;
  left = [];
  signal = no_signal;
  attributes = no_attributes;
  name = [];
}

-- the design: the modules that are whole
abbrev pub design_of : Draft → Design
design_of d = record { modules = d.modules }
