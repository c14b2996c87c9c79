-- What the result of a script over a module depends on.
use Rattle.std.specs.Prelude.{◌≡◌, ◌≤◌, ℕ, List, [], ◌∷◌, ◌++◌, length, map, slice_get, slice_range, unwrap_or}
use Rattle.std.specs.Option.{option_map}
use Rattle.std.specs.Fmt.{decimal}
use Rattle.rtl_ir.specs.declared.module.Module.{Module}
use Rattle.rtl_ir.specs.Ports.{cells_at, port_table_of}
use Rattle.rtl_write.specs.Text.{body_text, text_of}
use Rattle.rtl_write.specs.Ports.{ports_text}
use Rattle.script_core.specs.declared.key.Span.{Span}
use Rattle.script_core.specs.declared.word.Word.{Word}
use Rattle.script_core.specs.Reached.{below_of}
use Rattle.script_core.specs.Words.{letter_of}

-- the parts of a key: the text of the body of a module, that of the ports of the modules that it instantiates, the script, and
-- where that flattens the text of the modules that it reaches
pub record KeyParts : Type 0 where
  pub body : List ℕ
  pub ports : List ℕ
  pub script : List Word
  pub below : List ℕ

-- the text of the module at a place, without its name
abbrev pub body_text_at : List Module → ℕ → List ℕ
body_text_at modules at = unwrap_or (option_map body_text (slice_get modules at)) []

-- the text of the modules over which a script is folded beside the one at a place
abbrev pub below_text_at : List Word → List Module → ℕ → List ℕ
below_text_at script modules at = text_of (record { modules = below_of script modules (cells_at modules at) })

-- the key of a module under a script
abbrev pub key_of : List Module → ℕ → List Word → KeyParts
key_of modules at script = record {
  body = body_text_at modules at;
  ports = ports_text (record { modules = port_table_of modules at });
  script = script;
  below = below_text_at script modules at;
}

-- a part of the text of a key: how long it is, a blank, and the part
unfoldable pub part_text : List ℕ → List ℕ
part_text part = decimal (length part) ++ 32 ∷ part

-- the text of a key: the body, the ports, the modules that are reached, and a letter for each word
unfoldable pub key_text : KeyParts → List ℕ
key_text key = part_text key.body ++ part_text key.ports ++ part_text key.below ++ map letter_of key.script

-- a part stands at these places of a text
pub record IsThere (span : Span) (text part : List ℕ) : Type 0 where
  pub ordered : span.from ≤ span.to
  pub within : span.to ≤ length text
  pub same : slice_range text span.from span.to ≡ part

-- the parts that stand at these places of a text, with a script
abbrev pub parts_of : List ℕ → Span → Span → Span → List Word → KeyParts
parts_of text body ports below script = record {
  body = slice_range text body.from body.to;
  ports = slice_range text ports.from ports.to;
  script = script;
  below = slice_range text below.from below.to;
}

-- a text is that of a key whose parts stand at these places
pub record IsWhole (text : List ℕ) (at_body at_ports at_below : Span) (script : List Word) : Type 0 where
  pub body : IsThere at_body text (slice_range text at_body.from at_body.to)
  pub ports : IsThere at_ports text (slice_range text at_ports.from at_ports.to)
  pub below : IsThere at_below text (slice_range text at_below.from at_below.to)
  pub whole : key_text (parts_of text at_body at_ports at_below script) ≡ text
