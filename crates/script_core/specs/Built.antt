-- What a build gives for a key.
use Rattle.std.specs.Prelude.{◌≡◌, ◌<◌, ℕ, List, [], ◌∷◌, length}
use Rattle.rtl_ir.specs.declared.module.Design.{Design}
use Rattle.rtl_ir.specs.declared.module.Module.{Module}
use Rattle.rtl_ir.specs.declared.ports.PortTable.{PortTable}
use Rattle.rtl_ir.specs.Faults.{check_faults}
use Rattle.rtl_readable.specs.Readable.{IsReadable, IsReadableModule}
use Rattle.rtl_write.specs.PortTables.{ArePorts}
use Rattle.rtl_write.specs.Text.{body_text, text_of}
use Rattle.rtl_write.specs.Ports.{ports_text}
use Rattle.script_core.specs.declared.outcome.Outcome.{Outcome}
use Rattle.script_core.specs.Fold.{fold_script}
use Rattle.script_core.specs.Keys.{KeyParts, key_of}

-- the name that a module has while it is built, since a body has none
abbrev pub body_name : List ℕ
body_name = 92 ∷ 109 ∷ []

-- the module under that name
abbrev pub unnamed : Module → Module
unnamed m = record m { id = body_name }

-- an outcome is the value of a key: what the key's script makes of each module, table of ports and modules that are reached whose
-- texts are the key's
pub record IsValueOf (key : KeyParts) (outcome : Outcome) : Type 0 where
  pub value :
      (m : Module) (table : PortTable) (below : List Module) → IsReadableModule m → m.id ≡ body_name → ArePorts table →
      IsReadable (record { modules = below }) → body_text m ≡ key.body → ports_text table ≡ key.ports →
      text_of (record { modules = below }) ≡ key.below → outcome ≡ fold_script key.script table below m

-- the key is that of a module of a design that a text can give and that has no fault
pub record IsAcceptedKey (key : KeyParts) : Type 0 where
  pub design : Design
  pub at : ℕ
  pub readable : IsReadable design
  pub faultless : check_faults design.modules ≡ []
  pub in_range : at < length design.modules
  pub same : key ≡ key_of design.modules at key.script
