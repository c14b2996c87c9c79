-- The text of a module without its name, and a name put back into it.
use Rattle.std.specs.Prelude.{◌≡◌, ℕ, ◌+◌, ◌==◌, ◌&&◌, Bool, true, List, [], ◌∷◌, ◌++◌, take, drop, if◌then◌else◌}
use Rattle.rtl_ir.specs.declared.module.Module.{Module}
use Rattle.rtl_write.specs.Text.{module_text, body_text}

-- how many bytes stand before the first line that begins with this byte; start: a line begins here
abbrev pub line_at : ℕ → Bool → List ℕ → ℕ
line_at first start [] = 0
line_at first start (b ∷ bs) = if start && b == first then 0 else line_at first (b == 10) bs + 1

-- where the name of a module belongs: behind the six letters of the first line that begins with `m`
abbrev pub name_at : List ℕ → ℕ
name_at text = line_at 109 true text + 6

-- the text with the name there, behind a blank
abbrev pub with_name : List ℕ → List ℕ → List ℕ
with_name name text = take (name_at text) text ++ 32 ∷ name ++ drop (name_at text) text

-- the text of a module is the text of its body with a blank and its name in one place
pub record HasPlaceForName (m : Module) : Type 0 where
  pub front : List ℕ
  pub back : List ℕ
  pub body : body_text m ≡ front ++ back
  pub whole : module_text m ≡ front ++ 32 ∷ (m.id ++ back)
