-- The places of modules in a text.
use Rattle.std.specs.Prelude.{ℕ, Bool, true, false, List, filter, slice_get}
use Rattle.std.specs.Option.{option_map_or}
use Rattle.rtl_lex.specs.declared.place.Place.{Place}
use Rattle.rtl_lex.specs.declared.sort.Sort.{Sort}
use Rattle.rtl_lex.specs.declared.sort.Sort.TheVariants as sorts
use Rattle.rtl_lex.specs.Items.{Seen}
use Rattle.rtl_lex.specs.Place.{start}

-- an item of this sort is the word `module`
abbrev pub is_module_word : Sort → Bool
is_module_word sorts.Module = true
is_module_word sort = false

-- the words `module` among items
abbrev pub module_words : List Seen → List Seen
module_words items = filter (λ (i : Seen). is_module_word i.sort) items

-- the place of the word `module` with this number, from 0, among items; where there are not so many, the place where a text begins
abbrev pub module_place : List Seen → ℕ → Place
module_place items number = option_map_or (λ (i : Seen). i.place) (slice_get (module_words items) number) start
