-- Which texts of keys a result stands for.
use Rattle.std.specs.Prelude.{◌≡◌, ℕ, List}
use Rattle.script_core.specs.declared.built.Built.{Built}
use Rattle.script_core.specs.Built.{IsValueOf}
use Rattle.script_core.specs.Keys.{key_text}

-- a result stands for a text: it has the key of this text, and the value of its key
pub record StandsFor (built : Built) (text : List ℕ) : Type 0 where
  pub text_is : key_text built.key ≡ text
  pub value : IsValueOf built.key built.outcome
