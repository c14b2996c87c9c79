-- Modules under another name. What a map adds does not go by the name.
use Rattle.std.proofs.Common.{ℕ, List}
use Rattle.rtl_ir.specs.Build.{Building}

-- a module that is added to, under another name
abbrev pub renamed : List ℕ → Building → Building
renamed id b = record { body = record b.body { id = id }; next = b.next }
