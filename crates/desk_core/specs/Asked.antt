-- The key of a module whose result is asked for.
use Rattle.std.specs.Prelude.{◌≡◌, ◌<◌, length}
use Rattle.rtl_readable.specs.Readable.{IsReadable}
use Rattle.script_core.specs.Keys.{KeyParts, key_of}
use Rattle.desk_core.specs.declared.key_order.KeyOrder.{KeyOrder}

-- the key of the module at the order's place
abbrev pub asked_key : KeyOrder → KeyParts
asked_key order = key_of order.keys.now.design.now.design.modules order.at order.keys.now.script.now

-- there is a module at the order's place of a readable design, by the table of this design, and the order has its key
pub record IsAsked (order : KeyOrder) : Type 0 where
  pub table : order.keys.now.table.now.modules.now ≡ order.keys.now.design.now.design.modules
  pub readable : IsReadable order.keys.now.design.now.design
  pub in_range : order.at < length order.keys.now.design.now.design.modules
  pub own : order.key.now ≡ asked_key order
