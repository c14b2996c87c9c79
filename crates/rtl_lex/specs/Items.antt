-- The items of a text: its tokens as the grammar sees them, in order.
use Rattle.std.specs.Prelude.{◌≡◌, ℕ, ◌+◌, ◌*◌, ◌-◌, ℤ, List, [], ◌∷◌, length, drop, Option, Some, None, Result, Ok, Err, Bool, true, false, ◌==◌, ◌&&◌, if◌then◌else◌}
use Rattle.rtl_lex.specs.declared.place.Place.{Place}
use Rattle.rtl_lex.specs.declared.token.TokenKind.{TokenKind}
use Rattle.rtl_lex.specs.declared.token.TokenKind.TheVariants.{Int, Line}
use Rattle.rtl_lex.specs.declared.token.LexFault.{LexFault}
use Rattle.rtl_lex.specs.declared.token.LexFault.TheVariants as faults
use Rattle.rtl_lex.specs.declared.sort.Sort.{Sort}
use Rattle.rtl_lex.specs.declared.sort.Sort.TheVariants as sorts
use Rattle.rtl_lex.specs.declared.item.Item.{Item}
use Rattle.rtl_lex.specs.Numbers.{int_of}
use Rattle.rtl_lex.specs.Sorts.{sort_of}
use Rattle.rtl_lex.specs.Tokens.{Piece, token_at}

-- an item: a sort, a text, the number where it is an integer in range, and a place
pub record Seen : Type 0 where
  pub sort : Sort
  pub text : List ℕ
  pub number : Option ℤ
  pub place : Place

-- an item of the code as it is seen here
abbrev pub as_seen : Item → Seen
as_seen i = record { sort = i.sort; text = i.text.now; number = i.number; place = i.place }

-- the number of an integer; no other token has one
abbrev pub number_of : TokenKind → List ℕ → Option ℤ
number_of Int text = int_of text
number_of kind text = None

-- a token as an item
abbrev pub item_of : Piece → Seen
item_of t = record { sort = sort_of t.kind t.text; text = t.text; number = number_of t.kind t.text; place = t.place }

-- an item behind which no other stands: the end of the text, a place where no token begins, an integer out of range
abbrev pub last_item : Sort → Place → Seen
last_item sort place = record { sort = sort; text = []; number = None; place = place }

-- whether a token is an end of line
abbrev pub is_line : TokenKind → Bool
is_line Line = true
is_line kind = false

-- the first item, and what is asked of the others: at the end of the text and behind a fault there are none
abbrev pub IsFirst : Bool → Result Piece LexFault → Place → Seen → List Seen → (Piece → Type 0) → Type 0
IsFirst true read from first others rest = (first ≡ last_item sorts.Finish from) × (others ≡ [])
IsFirst false (Err (faults.Lex place)) from first others rest = (first ≡ last_item sorts.Bad place) × (others ≡ [])
IsFirst false (Err (faults.Int place)) from first others rest = (first ≡ last_item sorts.Int place) × (others ≡ [])
IsFirst false (Ok t) from first others rest = (first ≡ item_of t) × rest t

-- the items of the bytes, which stand at the place; line: an end of line stands before, so the end of the bytes is the end
abbrev pub AreItems : List Seen → List ℕ → Place → Bool → Type 0
AreItems [] bytes from line = ⊥
AreItems (first ∷ others) bytes from line =
    IsFirst (line && length bytes == 0) (token_at bytes from) from first others
    (λ t. AreItems others (drop (t.next.at - from.at) bytes) t.next (is_line t.kind))

-- the items are this one and those from the place on that follows
abbrev pub Leads : List Seen → Seen → Option (Place × Bool) → List ℕ → Type 0
Leads items first None text = items ≡ first ∷ []
Leads items first (Some at) text = (others : List Seen) × (items ≡ first ∷ others) × AreItems others (drop at.0.at text) at.0 at.1

-- how much is left to read: twice the bytes, and one where no end of line stands before
abbrev pub remaining : List ℕ → Place → Bool → ℕ
remaining text at line = 2 * (length text - at.at) + (if line then 0 else 1)
