-- Which text is which design, and which fault is a text's first.
use Rattle.std.specs.Prelude.{◌≡◌, ℕ, List, [], ◌∷◌, ◌++◌, Result, Ok, Err, false, ◌⊎◌}
use Rattle.rtl_lex.specs.declared.sort.Sort.{Sort}
use Rattle.rtl_lex.specs.declared.sort.Sort.TheVariants as sorts
use Rattle.rtl_lex.specs.Place.{start}
use Rattle.rtl_lex.specs.Items.{Seen, AreItems}
use Rattle.rtl_ir.specs.declared.module.Design.{Design}
use Rattle.rtl_grammar.specs.declared.expect.Expect.{Expect}
use Rattle.rtl_grammar.specs.Grammar.{IsText}
use Rattle.rtl_grammar.specs.Uses.{Use, roles_of, items_of, sorts_of, BeginsNone, run}
use Rattle.rtl_read.specs.declared.draft.Draft.{Draft}
use Rattle.rtl_read.specs.declared.read_fault.ReadFault.{ReadFault}
use Rattle.rtl_read.specs.declared.read_fault.ReadFault.TheVariants.{Lex, Syntax, Memory}
use Rattle.rtl_read.specs.Draft.{nothing, design_of}
use Rattle.rtl_read.specs.Act.{act}

-- the items of a whole text
abbrev pub AreItemsOf : List ℕ → List Seen → Type 0
AreItemsOf text items = AreItems items text start false

-- the text is that of the design: its items are a text of the grammar, and what they do, one after another, gives the design
pub record Reads (text : List ℕ) (design : Design) : Type 0 where
  pub uses : List Use
  pub last : Draft
  pub tokens : AreItemsOf text (items_of uses)
  pub grammar : IsText (roles_of uses)
  pub meant : run act nothing uses ≡ Ok last
  pub design_is : design_of last ≡ design

-- an item that cannot stand where it stands: no token begins there, or the grammar has none of its sort there
abbrev pub refusal_of : Sort → Seen → ReadFault
refusal_of sorts.Bad i = Lex i.place
refusal_of sort i = Syntax i.place

abbrev pub refusal : Seen → ReadFault
refusal i = refusal_of i.sort i

-- no text of the grammar begins with these items, and the fault is that of the last
pub record IsOutOfPlace (before : List Use) (here : Seen) (fault : ReadFault) : Type 0 where
  pub none : BeginsNone (sorts_of before ++ here.sort ∷ [])
  pub fault_is : fault ≡ refusal here

-- a text of the grammar begins with these items, and what the last does there has the fault
pub record HasNoMeaning (before : List Use) (here : Seen) (state : Draft) (fault : ReadFault) : Type 0 where
  pub role : Expect
  pub others : List Use
  pub some : IsText (roles_of (before ++ record { role = role; item = here } ∷ others))
  pub fault_is : act role here state ≡ Err fault

-- the fault is the text's first: the items before this one begin a text of the grammar and have no fault, and this one is out of
-- place, or has no meaning there
pub record IsFirstFault (text : List ℕ) (fault : ReadFault) : Type 0 where
  pub before : List Use
  pub here : Seen
  pub rest : List Seen
  pub state : Draft
  pub tokens : AreItemsOf text (items_of before ++ here ∷ rest)
  pub more : List Use
  pub begins : IsText (roles_of (before ++ more))
  pub meant : run act nothing before ≡ Ok state
  pub cause : IsOutOfPlace before here fault ⊎ HasNoMeaning before here state fault

-- a fact of the fault that a call answers, if it does; want of memory says nothing
abbrev pub OnFault : {X : Type 0} → Result X ReadFault → (ReadFault → Type 0) → Type 0
OnFault (Ok x) P = Unit {0}
OnFault (Err Memory) P = Unit {0}
OnFault (Err fault) P = P fault
