-- the names of storage gates: what the letters of each family mean
use Rattle.std.specs.Prelude.{ℕ, Bool, true, false, List, [], ◌∷◌, Option, Some, None, if◌then◌else◌, ◌==◌, ◌-◌, codes, length, take, drop}
use Rattle.std.specs.Str.{byte, bytes_eq}
use Rattle.cell_types.specs.declared.level.Level.{Level}
use Rattle.cell_types.specs.declared.level.Level.TheVariants.{Low, High}
use Rattle.cell_types.specs.declared.storage_gate.StorageGate.{StorageGate}
use Rattle.cell_types.specs.declared.storage_gate.StorageGate.TheVariants as Gate
use Rattle.cell_types.specs.declared.letters.Family.{Family}
use Rattle.cell_types.specs.declared.letters.Family.TheVariants as Of
use Rattle.cell_types.specs.Names.{prefixed}

-- what the next step makes of a letter's meaning, where it has one
infixl 20 ◌>>=◌
abbrev pub ◌>>=◌ : {A B : Type 0} → Option A → (A → Option B) → Option B
None >>= next = None
(Some x) >>= next = next x

-- the level at which a pin acts
abbrev pub level_of : ℕ → Option Level
level_of letter =
    if letter == byte "N" then Some Low else if letter == byte "P" then Some High else None

-- the value that a reset gives
abbrev pub value_of : ℕ → Option Bool
value_of digit =
    if digit == byte "0" then Some false else if digit == byte "1" then Some true else None

-- `$_FF_` with these letters
abbrev pub ff_with : List ℕ → Option StorageGate
ff_with [] = Some Gate.Ff
ff_with _ = None

-- `$_DFF_` with these letters
abbrev pub dff_with : List ℕ → Option StorageGate
dff_with (clk ∷ []) = do
  clk' ← level_of clk
  Some (Gate.Dff clk')
dff_with (clk ∷ arst ∷ value ∷ []) = do
  clk' ← level_of clk
  arst' ← level_of arst
  value' ← value_of value
  Some (Gate.Adff clk' arst' value')
dff_with _ = None

-- `$_DFFE_` with these letters
abbrev pub dffe_with : List ℕ → Option StorageGate
dffe_with (clk ∷ en ∷ []) = do
  clk' ← level_of clk
  en' ← level_of en
  Some (Gate.Dffe clk' en')
dffe_with (clk ∷ arst ∷ value ∷ en ∷ []) = do
  clk' ← level_of clk
  arst' ← level_of arst
  value' ← value_of value
  en' ← level_of en
  Some (Gate.Adffe clk' arst' value' en')
dffe_with _ = None

-- `$_SDFF_` with these letters
abbrev pub sdff_with : List ℕ → Option StorageGate
sdff_with (clk ∷ srst ∷ value ∷ []) = do
  clk' ← level_of clk
  srst' ← level_of srst
  value' ← value_of value
  Some (Gate.Sdff clk' srst' value')
sdff_with _ = None

-- `$_SDFFE_` with these letters
abbrev pub sdffe_with : List ℕ → Option StorageGate
sdffe_with (clk ∷ srst ∷ value ∷ en ∷ []) = do
  clk' ← level_of clk
  srst' ← level_of srst
  value' ← value_of value
  en' ← level_of en
  Some (Gate.Sdffe clk' srst' value' en')
sdffe_with _ = None

-- `$_SDFFCE_` with these letters
abbrev pub sdffce_with : List ℕ → Option StorageGate
sdffce_with (clk ∷ srst ∷ value ∷ en ∷ []) = do
  clk' ← level_of clk
  srst' ← level_of srst
  value' ← value_of value
  en' ← level_of en
  Some (Gate.Sdffce clk' srst' value' en')
sdffce_with _ = None

-- `$_DFFSR_` with these letters
abbrev pub dffsr_with : List ℕ → Option StorageGate
dffsr_with (clk ∷ set ∷ clr ∷ []) = do
  clk' ← level_of clk
  set' ← level_of set
  clr' ← level_of clr
  Some (Gate.Dffsr clk' set' clr')
dffsr_with _ = None

-- `$_DFFSRE_` with these letters
abbrev pub dffsre_with : List ℕ → Option StorageGate
dffsre_with (clk ∷ set ∷ clr ∷ en ∷ []) = do
  clk' ← level_of clk
  set' ← level_of set
  clr' ← level_of clr
  en' ← level_of en
  Some (Gate.Dffsre clk' set' clr' en')
dffsre_with _ = None

-- `$_ALDFF_` with these letters
abbrev pub aldff_with : List ℕ → Option StorageGate
aldff_with (clk ∷ aload ∷ []) = do
  clk' ← level_of clk
  aload' ← level_of aload
  Some (Gate.Aldff clk' aload')
aldff_with _ = None

-- `$_ALDFFE_` with these letters
abbrev pub aldffe_with : List ℕ → Option StorageGate
aldffe_with (clk ∷ aload ∷ en ∷ []) = do
  clk' ← level_of clk
  aload' ← level_of aload
  en' ← level_of en
  Some (Gate.Aldffe clk' aload' en')
aldffe_with _ = None

-- `$_DLATCH_` with these letters
abbrev pub dlatch_with : List ℕ → Option StorageGate
dlatch_with (en ∷ []) = do
  en' ← level_of en
  Some (Gate.Dlatch en')
dlatch_with (en ∷ arst ∷ value ∷ []) = do
  en' ← level_of en
  arst' ← level_of arst
  value' ← value_of value
  Some (Gate.Adlatch en' arst' value')
dlatch_with _ = None

-- `$_DLATCHSR_` with these letters
abbrev pub dlatchsr_with : List ℕ → Option StorageGate
dlatchsr_with (en ∷ set ∷ clr ∷ []) = do
  en' ← level_of en
  set' ← level_of set
  clr' ← level_of clr
  Some (Gate.Dlatchsr en' set' clr')
dlatchsr_with _ = None

-- `$_SR_` with these letters
abbrev pub sr_with : List ℕ → Option StorageGate
sr_with (set ∷ clr ∷ []) = do
  set' ← level_of set
  clr' ← level_of clr
  Some (Gate.Sr set' clr')
sr_with _ = None

-- the gate of the family with these letters
abbrev pub gate_with : Family → List ℕ → Option StorageGate
gate_with Of.Ff letters = ff_with letters
gate_with Of.Dff letters = dff_with letters
gate_with Of.Dffe letters = dffe_with letters
gate_with Of.Sdff letters = sdff_with letters
gate_with Of.Sdffe letters = sdffe_with letters
gate_with Of.Sdffce letters = sdffce_with letters
gate_with Of.Dffsr letters = dffsr_with letters
gate_with Of.Dffsre letters = dffsre_with letters
gate_with Of.Aldff letters = aldff_with letters
gate_with Of.Aldffe letters = aldffe_with letters
gate_with Of.Dlatch letters = dlatch_with letters
gate_with Of.Dlatchsr letters = dlatchsr_with letters
gate_with Of.Sr letters = sr_with letters

-- what the names of each family begin with
abbrev pub families : List (List ℕ × Family)
families =
    ((codes "$_FF", Of.Ff)
    ∷ (codes "$_DFF_", Of.Dff)
    ∷ (codes "$_DFFE_", Of.Dffe)
    ∷ (codes "$_SDFF_", Of.Sdff)
    ∷ (codes "$_SDFFE_", Of.Sdffe)
    ∷ (codes "$_SDFFCE_", Of.Sdffce)
    ∷ (codes "$_DFFSR_", Of.Dffsr)
    ∷ (codes "$_DFFSRE_", Of.Dffsre)
    ∷ (codes "$_ALDFF_", Of.Aldff)
    ∷ (codes "$_ALDFFE_", Of.Aldffe)
    ∷ (codes "$_DLATCH_", Of.Dlatch)
    ∷ (codes "$_DLATCHSR_", Of.Dlatchsr)
    ∷ (codes "$_SR_", Of.Sr)
    ∷ [])

-- the name without the `_` at its end
abbrev pub without_end : List ℕ → Option (List ℕ)
without_end name =
    if bytes_eq (drop (length name - 1) name) (codes "_")
    then Some (take (length name - 1) name)
    else None

-- the storage gate of this name: what it begins with, its letters, and `_`
abbrev pub storage_gate_of : List ℕ → Option StorageGate
storage_gate_of name = do
  body ← without_end name
  found ← prefixed families body
  gate_with found.0 found.1
