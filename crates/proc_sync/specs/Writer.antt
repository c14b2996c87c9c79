-- A writer, as contracts see it.
use Rattle.std.specs.Prelude.{List}
use Rattle.rtl_ir.specs.Build.{Building}
use Rattle.rtl_ir.specs.declared.module.Module.{Module}
use Rattle.net_model.specs.Proc.Sync.{Numbered, Writing}
use Rattle.proc_sync.specs.Lines.{numbers_of}
use Rattle.proc_sync.specs.declared.writer.Writer.{Writer}

-- the module whose lines they are
abbrev pub body_of : Writer → Module
body_of w = w.body.now

-- the lines that have become ports
abbrev pub done_of : Writer → List Numbered
done_of w = numbers_of w.done.items

-- with what is built
abbrev pub writing_of : Writer → Building → Writing
writing_of w b = record { building = b; numbered = done_of w }
