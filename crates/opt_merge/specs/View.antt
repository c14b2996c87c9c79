-- What is known of a module where its cells are compared.
use Rattle.std.specs.Prelude.{◌≡◌, List}
use Rattle.rtl_ir.specs.declared.module.Link.{Link}
use Rattle.rtl_ir.specs.declared.wire.Wire.{Wire}
use Rattle.net_alias.specs.Aliases.{IsAliases}
use Rattle.opt_merge.specs.declared.rows.View.{View}
use Rattle.rtl_ir.specs.Starts.{inits_of}

-- the start values of these wires, and the ways along these connections
pub record IsView (view : View) (wires : List Wire) (links : List Link) : Type 0 where
  pub inits : view.inits.items ≡ inits_of wires
  pub aliases : IsAliases view.aliases links

-- what is known of a module is known still
abbrev pub StaysView : View → View → Type 0
StaysView old new = (wires : List Wire) (links : List Link) → IsView old wires links → IsView new wires links
