-- What the table of the grammar keeps: the names of whole files stand lowest, and alone.
use Rattle.std.proofs.Common.{◌≡◌, ℕ, zero, suc, List, [], ◌∷◌, ◌++◌, Option, Some, None, Bool, true, false, refl, sym, ap, ◌∙◌, append-nil}
use Rattle.std.specs.Prelude.{◌&&◌, ◌||◌, if◌then◌else◌}
use Rattle.rtl_lex.specs.declared.sort.Sort.{Sort}
use Rattle.rtl_lex.specs.declared.sort.Sort.TheVariants as sorts
use Rattle.rtl_grammar.specs.declared.expect.Expect.{Expect}
use Rattle.rtl_grammar.specs.declared.expect.Expect.TheVariants as expects
use Rattle.rtl_grammar.specs.Grammar.{after}

-- ---- a test that all sorts pass

abbrev all_sorts : List Sort
all_sorts = sorts.Autoidx ∷ sorts.Attribute ∷ sorts.Module ∷ sorts.Parameter ∷ sorts.Wire ∷ sorts.Memory ∷ sorts.Cell ∷ sorts.Connect ∷ sorts.End ∷ sorts.Width ∷ sorts.Offset ∷ sorts.Size ∷ sorts.Input ∷ sorts.Output ∷ sorts.Inout ∷ sorts.Upto ∷ sorts.Signed ∷ sorts.Process ∷ sorts.Assign ∷ sorts.Switch ∷ sorts.Case ∷ sorts.Sync ∷ sorts.Update ∷ sorts.Memwr ∷ sorts.Low ∷ sorts.High ∷ sorts.Posedge ∷ sorts.Negedge ∷ sorts.Edge ∷ sorts.Global ∷ sorts.Init ∷ sorts.Always ∷ sorts.Other ∷ sorts.OpenIndex ∷ sorts.CloseIndex ∷ sorts.OpenBrace ∷ sorts.CloseBrace ∷ sorts.Colon ∷ sorts.Comma ∷ sorts.Id ∷ sorts.Value ∷ sorts.Int ∷ sorts.Chars ∷ sorts.Line ∷ sorts.Finish ∷ sorts.Bad ∷ []

-- the first of these, and the others
abbrev passes : (Sort → Bool) → List Sort → Bool
passes f [] = true
passes f (s ∷ ss) = if f s then passes f ss else false

abbrev at : ℕ → List Sort → Sort
at k [] = sorts.Other
at zero (s ∷ ss) = s
at (suc k) (s ∷ ss) = at k ss

both : (a b : Bool) → (if a then b else false) ≡ true → (a ≡ true) × (b ≡ true)
both true b e = (refl, e)
both false b e = absurd cc

passes_at : (f : Sort → Bool) (ss : List Sort) (k : ℕ) → f sorts.Other ≡ true → passes f ss ≡ true → f (at k ss) ≡ true
passes_at f [] k o e = o
passes_at f (s ∷ ss) zero o e = (both (f s) (passes f ss) e).0
passes_at f (s ∷ ss) (suc k) o e = passes_at f ss k o (both (f s) (passes f ss) e).1

by_sort : (f : Sort → Bool) → f sorts.Other ≡ true → passes f all_sorts ≡ true → (s : Sort) → f s ≡ true
by_sort f o e sorts.Autoidx = passes_at f all_sorts 0 o e
by_sort f o e sorts.Attribute = passes_at f all_sorts 1 o e
by_sort f o e sorts.Module = passes_at f all_sorts 2 o e
by_sort f o e sorts.Parameter = passes_at f all_sorts 3 o e
by_sort f o e sorts.Wire = passes_at f all_sorts 4 o e
by_sort f o e sorts.Memory = passes_at f all_sorts 5 o e
by_sort f o e sorts.Cell = passes_at f all_sorts 6 o e
by_sort f o e sorts.Connect = passes_at f all_sorts 7 o e
by_sort f o e sorts.End = passes_at f all_sorts 8 o e
by_sort f o e sorts.Width = passes_at f all_sorts 9 o e
by_sort f o e sorts.Offset = passes_at f all_sorts 10 o e
by_sort f o e sorts.Size = passes_at f all_sorts 11 o e
by_sort f o e sorts.Input = passes_at f all_sorts 12 o e
by_sort f o e sorts.Output = passes_at f all_sorts 13 o e
by_sort f o e sorts.Inout = passes_at f all_sorts 14 o e
by_sort f o e sorts.Upto = passes_at f all_sorts 15 o e
by_sort f o e sorts.Signed = passes_at f all_sorts 16 o e
by_sort f o e sorts.Process = passes_at f all_sorts 17 o e
by_sort f o e sorts.Assign = passes_at f all_sorts 18 o e
by_sort f o e sorts.Switch = passes_at f all_sorts 19 o e
by_sort f o e sorts.Case = passes_at f all_sorts 20 o e
by_sort f o e sorts.Sync = passes_at f all_sorts 21 o e
by_sort f o e sorts.Update = passes_at f all_sorts 22 o e
by_sort f o e sorts.Memwr = passes_at f all_sorts 23 o e
by_sort f o e sorts.Low = passes_at f all_sorts 24 o e
by_sort f o e sorts.High = passes_at f all_sorts 25 o e
by_sort f o e sorts.Posedge = passes_at f all_sorts 26 o e
by_sort f o e sorts.Negedge = passes_at f all_sorts 27 o e
by_sort f o e sorts.Edge = passes_at f all_sorts 28 o e
by_sort f o e sorts.Global = passes_at f all_sorts 29 o e
by_sort f o e sorts.Init = passes_at f all_sorts 30 o e
by_sort f o e sorts.Always = passes_at f all_sorts 31 o e
by_sort f o e sorts.Other = passes_at f all_sorts 32 o e
by_sort f o e sorts.OpenIndex = passes_at f all_sorts 33 o e
by_sort f o e sorts.CloseIndex = passes_at f all_sorts 34 o e
by_sort f o e sorts.OpenBrace = passes_at f all_sorts 35 o e
by_sort f o e sorts.CloseBrace = passes_at f all_sorts 36 o e
by_sort f o e sorts.Colon = passes_at f all_sorts 37 o e
by_sort f o e sorts.Comma = passes_at f all_sorts 38 o e
by_sort f o e sorts.Id = passes_at f all_sorts 39 o e
by_sort f o e sorts.Value = passes_at f all_sorts 40 o e
by_sort f o e sorts.Int = passes_at f all_sorts 41 o e
by_sort f o e sorts.Chars = passes_at f all_sorts 42 o e
by_sort f o e sorts.Line = passes_at f all_sorts 43 o e
by_sort f o e sorts.Finish = passes_at f all_sorts 44 o e
by_sort f o e sorts.Bad = passes_at f all_sorts 45 o e

-- ---- the names of files

abbrev pub is_file : Expect → Bool
is_file expects.Start = true
is_file expects.FileHead = true
is_file expects.Modules = true
is_file expects.NextModule = true
is_file role = false

abbrev pub is_finish : Sort → Bool
is_finish sorts.Finish = true
is_finish sort = false

abbrev is_nil : List Expect → Bool
is_nil [] = true
is_nil (r ∷ rs) = false

-- a name of a whole file stands lowest, and no other does
abbrev pub is_stack : List Expect → Bool
is_stack [] = false
is_stack (r ∷ rs) = if is_file r then is_nil rs else is_stack rs

abbrev none_file : List Expect → Bool
none_file [] = true
none_file (r ∷ rs) = if is_file r then false else none_file rs

abbrev fits : Expect → Option (List Expect) → Bool
fits role None = true
fits role (Some body) = if is_file role then is_stack body else none_file body

fits_table : (r : Expect) (s : Sort) → (is_finish s || fits r (after r s)) ≡ true
fits_table expects.Start s = by_sort (λ s. is_finish s || fits expects.Start (after expects.Start s)) refl refl s
fits_table expects.FileHead s = by_sort (λ s. is_finish s || fits expects.FileHead (after expects.FileHead s)) refl refl s
fits_table expects.AutoidxNumber s = by_sort (λ s. is_finish s || fits expects.AutoidxNumber (after expects.AutoidxNumber s)) refl refl s
fits_table expects.Modules s = by_sort (λ s. is_finish s || fits expects.Modules (after expects.Modules s)) refl refl s
fits_table expects.NextModule s = by_sort (λ s. is_finish s || fits expects.NextModule (after expects.NextModule s)) refl refl s
fits_table expects.EndOfLine s = by_sort (λ s. is_finish s || fits expects.EndOfLine (after expects.EndOfLine s)) refl refl s
fits_table expects.AttributeName s = by_sort (λ s. is_finish s || fits expects.AttributeName (after expects.AttributeName s)) refl refl s
fits_table expects.AttributeValue s = by_sort (λ s. is_finish s || fits expects.AttributeValue (after expects.AttributeValue s)) refl refl s
fits_table expects.ModuleName s = by_sort (λ s. is_finish s || fits expects.ModuleName (after expects.ModuleName s)) refl refl s
fits_table expects.Body s = by_sort (λ s. is_finish s || fits expects.Body (after expects.Body s)) refl refl s
fits_table expects.NextItem s = by_sort (λ s. is_finish s || fits expects.NextItem (after expects.NextItem s)) refl refl s
fits_table expects.ParameterName s = by_sort (λ s. is_finish s || fits expects.ParameterName (after expects.ParameterName s)) refl refl s
fits_table expects.ParameterValue s = by_sort (λ s. is_finish s || fits expects.ParameterValue (after expects.ParameterValue s)) refl refl s
fits_table expects.WireOption s = by_sort (λ s. is_finish s || fits expects.WireOption (after expects.WireOption s)) refl refl s
fits_table expects.WireWidth s = by_sort (λ s. is_finish s || fits expects.WireWidth (after expects.WireWidth s)) refl refl s
fits_table expects.WireOffset s = by_sort (λ s. is_finish s || fits expects.WireOffset (after expects.WireOffset s)) refl refl s
fits_table expects.PortNumber s = by_sort (λ s. is_finish s || fits expects.PortNumber (after expects.PortNumber s)) refl refl s
fits_table expects.MemoryOption s = by_sort (λ s. is_finish s || fits expects.MemoryOption (after expects.MemoryOption s)) refl refl s
fits_table expects.MemoryWidth s = by_sort (λ s. is_finish s || fits expects.MemoryWidth (after expects.MemoryWidth s)) refl refl s
fits_table expects.MemorySize s = by_sort (λ s. is_finish s || fits expects.MemorySize (after expects.MemorySize s)) refl refl s
fits_table expects.MemoryOffset s = by_sort (λ s. is_finish s || fits expects.MemoryOffset (after expects.MemoryOffset s)) refl refl s
fits_table expects.CellKind s = by_sort (λ s. is_finish s || fits expects.CellKind (after expects.CellKind s)) refl refl s
fits_table expects.CellName s = by_sort (λ s. is_finish s || fits expects.CellName (after expects.CellName s)) refl refl s
fits_table expects.CellBody s = by_sort (λ s. is_finish s || fits expects.CellBody (after expects.CellBody s)) refl refl s
fits_table expects.CellParameter s = by_sort (λ s. is_finish s || fits expects.CellParameter (after expects.CellParameter s)) refl refl s
fits_table expects.CellParameterName s = by_sort (λ s. is_finish s || fits expects.CellParameterName (after expects.CellParameterName s)) refl refl s
fits_table expects.CellParameterValue s = by_sort (λ s. is_finish s || fits expects.CellParameterValue (after expects.CellParameterValue s)) refl refl s
fits_table expects.PinName s = by_sort (λ s. is_finish s || fits expects.PinName (after expects.PinName s)) refl refl s
fits_table expects.BehindPin s = by_sort (λ s. is_finish s || fits expects.BehindPin (after expects.BehindPin s)) refl refl s
fits_table expects.BehindLeft s = by_sort (λ s. is_finish s || fits expects.BehindLeft (after expects.BehindLeft s)) refl refl s
fits_table expects.BehindRight s = by_sort (λ s. is_finish s || fits expects.BehindRight (after expects.BehindRight s)) refl refl s
fits_table expects.ProcessName s = by_sort (λ s. is_finish s || fits expects.ProcessName (after expects.ProcessName s)) refl refl s
fits_table expects.ProcessBody s = by_sort (λ s. is_finish s || fits expects.ProcessBody (after expects.ProcessBody s)) refl refl s
fits_table expects.NextSwitch s = by_sort (λ s. is_finish s || fits expects.NextSwitch (after expects.NextSwitch s)) refl refl s
fits_table expects.BehindSwitch s = by_sort (λ s. is_finish s || fits expects.BehindSwitch (after expects.BehindSwitch s)) refl refl s
fits_table expects.Cases s = by_sort (λ s. is_finish s || fits expects.Cases (after expects.Cases s)) refl refl s
fits_table expects.NextCase s = by_sort (λ s. is_finish s || fits expects.NextCase (after expects.NextCase s)) refl refl s
fits_table expects.Patterns s = by_sort (λ s. is_finish s || fits expects.Patterns (after expects.Patterns s)) refl refl s
fits_table expects.BehindPattern s = by_sort (λ s. is_finish s || fits expects.BehindPattern (after expects.BehindPattern s)) refl refl s
fits_table expects.CaseBody s = by_sort (λ s. is_finish s || fits expects.CaseBody (after expects.CaseBody s)) refl refl s
fits_table expects.NextInCase s = by_sort (λ s. is_finish s || fits expects.NextInCase (after expects.NextInCase s)) refl refl s
fits_table expects.SyncEvent s = by_sort (λ s. is_finish s || fits expects.SyncEvent (after expects.SyncEvent s)) refl refl s
fits_table expects.BehindEvent s = by_sort (λ s. is_finish s || fits expects.BehindEvent (after expects.BehindEvent s)) refl refl s
fits_table expects.SyncBody s = by_sort (λ s. is_finish s || fits expects.SyncBody (after expects.SyncBody s)) refl refl s
fits_table expects.NextWrite s = by_sort (λ s. is_finish s || fits expects.NextWrite (after expects.NextWrite s)) refl refl s
fits_table expects.WriteMemory s = by_sort (λ s. is_finish s || fits expects.WriteMemory (after expects.WriteMemory s)) refl refl s
fits_table expects.BehindAddress s = by_sort (λ s. is_finish s || fits expects.BehindAddress (after expects.BehindAddress s)) refl refl s
fits_table expects.BehindValue s = by_sort (λ s. is_finish s || fits expects.BehindValue (after expects.BehindValue s)) refl refl s
fits_table expects.BehindEnable s = by_sort (λ s. is_finish s || fits expects.BehindEnable (after expects.BehindEnable s)) refl refl s
fits_table expects.Signal s = by_sort (λ s. is_finish s || fits expects.Signal (after expects.Signal s)) refl refl s
fits_table expects.Inside s = by_sort (λ s. is_finish s || fits expects.Inside (after expects.Inside s)) refl refl s
fits_table expects.BehindInside s = by_sort (λ s. is_finish s || fits expects.BehindInside (after expects.BehindInside s)) refl refl s
fits_table expects.Index s = by_sort (λ s. is_finish s || fits expects.Index (after expects.Index s)) refl refl s
fits_table expects.BehindIndex s = by_sort (λ s. is_finish s || fits expects.BehindIndex (after expects.BehindIndex s)) refl refl s
fits_table expects.LowIndex s = by_sort (λ s. is_finish s || fits expects.LowIndex (after expects.LowIndex s)) refl refl s
fits_table expects.IndexEnd s = by_sort (λ s. is_finish s || fits expects.IndexEnd (after expects.IndexEnd s)) refl refl s

abbrev ends_file : Expect → Option (List Expect) → Bool
ends_file role None = true
ends_file role (Some body) = is_file role && is_nil body

ends_table : (r : Expect) → ends_file r (after r sorts.Finish) ≡ true
ends_table expects.Start = refl
ends_table expects.FileHead = refl
ends_table expects.AutoidxNumber = refl
ends_table expects.Modules = refl
ends_table expects.NextModule = refl
ends_table expects.EndOfLine = refl
ends_table expects.AttributeName = refl
ends_table expects.AttributeValue = refl
ends_table expects.ModuleName = refl
ends_table expects.Body = refl
ends_table expects.NextItem = refl
ends_table expects.ParameterName = refl
ends_table expects.ParameterValue = refl
ends_table expects.WireOption = refl
ends_table expects.WireWidth = refl
ends_table expects.WireOffset = refl
ends_table expects.PortNumber = refl
ends_table expects.MemoryOption = refl
ends_table expects.MemoryWidth = refl
ends_table expects.MemorySize = refl
ends_table expects.MemoryOffset = refl
ends_table expects.CellKind = refl
ends_table expects.CellName = refl
ends_table expects.CellBody = refl
ends_table expects.CellParameter = refl
ends_table expects.CellParameterName = refl
ends_table expects.CellParameterValue = refl
ends_table expects.PinName = refl
ends_table expects.BehindPin = refl
ends_table expects.BehindLeft = refl
ends_table expects.BehindRight = refl
ends_table expects.ProcessName = refl
ends_table expects.ProcessBody = refl
ends_table expects.NextSwitch = refl
ends_table expects.BehindSwitch = refl
ends_table expects.Cases = refl
ends_table expects.NextCase = refl
ends_table expects.Patterns = refl
ends_table expects.BehindPattern = refl
ends_table expects.CaseBody = refl
ends_table expects.NextInCase = refl
ends_table expects.SyncEvent = refl
ends_table expects.BehindEvent = refl
ends_table expects.SyncBody = refl
ends_table expects.NextWrite = refl
ends_table expects.WriteMemory = refl
ends_table expects.BehindAddress = refl
ends_table expects.BehindValue = refl
ends_table expects.BehindEnable = refl
ends_table expects.Signal = refl
ends_table expects.Inside = refl
ends_table expects.BehindInside = refl
ends_table expects.Index = refl
ends_table expects.BehindIndex = refl
ends_table expects.LowIndex = refl
ends_table expects.IndexEnd = refl

if_true : {A : Type 0} (b : Bool) (x y : A) → b ≡ true → (if b then x else y) ≡ x
if_true true x y e = refl
if_true false x y e = absurd cc

if_false : {A : Type 0} (b : Bool) (x y : A) → b ≡ false → (if b then x else y) ≡ y
if_false true x y e = absurd cc
if_false false x y e = refl

nil_is : (rs : List Expect) → is_nil rs ≡ true → rs ≡ []
nil_is [] e = refl
nil_is (r ∷ rs) e = absurd cc

append_one : (b : Bool) (r : Expect) (rs roles : List Expect) → is_file r ≡ b → none_file (r ∷ rs) ≡ true → (none_file rs ≡ true → is_stack (rs ++ roles) ≡ true) → is_stack (r ∷ (rs ++ roles)) ≡ true
append_one true r rs roles e n on = absurd (cc (if_true (is_file r) false (none_file rs) e, n))
append_one false r rs roles e n on = if_false (is_file r) (is_nil (rs ++ roles)) (is_stack (rs ++ roles)) e ∙ on (sym (if_false (is_file r) false (none_file rs) e) ∙ n)

append_stack : (body roles : List Expect) → none_file body ≡ true → is_stack roles ≡ true → is_stack (body ++ roles) ≡ true
append_stack [] roles n s = s
append_stack (r ∷ rs) roles n s = append_one (is_file r) r rs roles refl n (λ rest. append_stack rs roles rest s)

or_is : (a b : Bool) → a ≡ false → (a || b) ≡ true → b ≡ true
or_is true b f e = absurd cc
or_is false b f e = e

next_one : (b : Bool) (role : Expect) (body roles : List Expect) → is_file role ≡ b → fits role (Some body) ≡ true → is_stack (role ∷ roles) ≡ true → is_stack (body ++ roles) ≡ true
next_one true role body roles e f s =
    let nil : roles ≡ [] = nil_is roles (sym (if_true (is_file role) (is_nil roles) (is_stack roles) e) ∙ s) in
    ap (λ (x : List Expect). is_stack (body ++ x)) nil ∙ ap is_stack (append-nil body) ∙ sym (if_true (is_file role) (is_stack body) (none_file body) e) ∙ f
next_one false role body roles e f s =
    append_stack body roles (sym (if_false (is_file role) (is_stack body) (none_file body) e) ∙ f) (sym (if_false (is_file role) (is_nil roles) (is_stack roles) e) ∙ s)

-- the stack stays one behind any token but the end of the text
pub stack_next : (role : Expect) (sort : Sort) (body roles : List Expect) → after role sort ≡ Some body → is_finish sort ≡ false → is_stack (role ∷ roles) ≡ true → is_stack (body ++ roles) ≡ true
stack_next role sort body roles b f s =
    next_one (is_file role) role body roles refl (sym (ap (fits role) b) ∙ or_is (is_finish sort) (fits role (after role sort)) f (fits_table role sort)) s

and_is : (a b : Bool) → (a && b) ≡ true → (a ≡ true) × (b ≡ true)
and_is true b e = (refl, e)
and_is false b e = absurd cc

-- at the end of the text nothing is left on the stack
pub stack_end : (role : Expect) (body roles : List Expect) → after role sorts.Finish ≡ Some body → is_stack (role ∷ roles) ≡ true → (body ≡ []) × (roles ≡ [])
stack_end role body roles b s =
    let t = and_is (is_file role) (is_nil body) (sym (ap (ends_file role) b) ∙ ends_table role) in
    (nil_is body t.1, nil_is roles (sym (if_true (is_file role) (is_nil roles) (is_stack roles) t.0) ∙ s))

-- a place where no token begins is refused
pub bad_refused : (role : Expect) → after role sorts.Bad ≡ None
bad_refused expects.Start = refl
bad_refused expects.FileHead = refl
bad_refused expects.AutoidxNumber = refl
bad_refused expects.Modules = refl
bad_refused expects.NextModule = refl
bad_refused expects.EndOfLine = refl
bad_refused expects.AttributeName = refl
bad_refused expects.AttributeValue = refl
bad_refused expects.ModuleName = refl
bad_refused expects.Body = refl
bad_refused expects.NextItem = refl
bad_refused expects.ParameterName = refl
bad_refused expects.ParameterValue = refl
bad_refused expects.WireOption = refl
bad_refused expects.WireWidth = refl
bad_refused expects.WireOffset = refl
bad_refused expects.PortNumber = refl
bad_refused expects.MemoryOption = refl
bad_refused expects.MemoryWidth = refl
bad_refused expects.MemorySize = refl
bad_refused expects.MemoryOffset = refl
bad_refused expects.CellKind = refl
bad_refused expects.CellName = refl
bad_refused expects.CellBody = refl
bad_refused expects.CellParameter = refl
bad_refused expects.CellParameterName = refl
bad_refused expects.CellParameterValue = refl
bad_refused expects.PinName = refl
bad_refused expects.BehindPin = refl
bad_refused expects.BehindLeft = refl
bad_refused expects.BehindRight = refl
bad_refused expects.ProcessName = refl
bad_refused expects.ProcessBody = refl
bad_refused expects.NextSwitch = refl
bad_refused expects.BehindSwitch = refl
bad_refused expects.Cases = refl
bad_refused expects.NextCase = refl
bad_refused expects.Patterns = refl
bad_refused expects.BehindPattern = refl
bad_refused expects.CaseBody = refl
bad_refused expects.NextInCase = refl
bad_refused expects.SyncEvent = refl
bad_refused expects.BehindEvent = refl
bad_refused expects.SyncBody = refl
bad_refused expects.NextWrite = refl
bad_refused expects.WriteMemory = refl
bad_refused expects.BehindAddress = refl
bad_refused expects.BehindValue = refl
bad_refused expects.BehindEnable = refl
bad_refused expects.Signal = refl
bad_refused expects.Inside = refl
bad_refused expects.BehindInside = refl
bad_refused expects.Index = refl
bad_refused expects.BehindIndex = refl
bad_refused expects.LowIndex = refl
bad_refused expects.IndexEnd = refl
