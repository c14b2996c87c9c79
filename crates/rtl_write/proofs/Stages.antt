-- What has been read of a text is good at each place of the grammar.
use Rattle.std.proofs.Common.{◌≡◌, ℕ, ◌+◌, ◌<◌, ◌≤◌, ◌^◌, List, [], ◌∷◌, ◌++◌, length, map, true, false}
use Rattle.std.specs.Prelude.{pos}
use Rattle.std.specs.List.{All, sum_by}
use Rattle.rtl_sig.specs.declared.sig.SigBit.{SigBit}
use Rattle.rtl_sig.specs.Names.{has_name, AreDistinct}
use Rattle.rtl_ir.specs.declared.value.Attribute.{Attribute}
use Rattle.rtl_ir.specs.declared.wire.Role.TheVariants.{Inner}
use Rattle.rtl_ir.specs.declared.wire.Wire.{Wire}
use Rattle.rtl_ir.specs.declared.store.Store.{Store}
use Rattle.rtl_ir.specs.declared.module.Module.{Module}
use Rattle.rtl_ir.specs.Tree.{switches_of, cases_of}
use Rattle.rtl_grammar.specs.declared.expect.Expect.{Expect}
use Rattle.rtl_grammar.specs.declared.expect.Expect.TheVariants as expects
use Rattle.rtl_read.specs.declared.attributes.Attributes.{Attributes}
use Rattle.rtl_read.specs.declared.draft.Draft.{Draft}
use Rattle.rtl_read.specs.declared.open_cell.OpenCell.{OpenCell}
use Rattle.rtl_read.specs.declared.open_module.OpenModule.{OpenModule}
use Rattle.rtl_read.specs.declared.open_process.OpenProcess.{OpenProcess}
use Rattle.rtl_read.specs.declared.tree.OpenCase.{OpenCase}
use Rattle.rtl_read.specs.declared.tree.OpenSwitch.{OpenSwitch}
use Rattle.rtl_read.specs.declared.tree.OpenTree.{OpenTree}
use Rattle.rtl_ir.specs.declared.limits.TheConstants.{MAX_MODULES, MAX_CELLS, MAX_WIDTH, MAX_DEPTH}
use Rattle.rtl_read.specs.declared.signal.OpenSignal.{OpenSignal}
use Rattle.rtl_read.specs.Meaning.Cell.{plain_cell}
use Rattle.rtl_read.specs.Meaning.Process.{plain_process, event_with}
use Rattle.rtl_read.specs.Act.Pair.{close_pair}
use Rattle.rtl_readable.specs.Readable.{IsName, IsInteger, IsAttribute, AreAttributes, IsSignal, IsSomeSignal, IsLink, IsCellParam, IsPin, AreSwitches, AreCases, IsRule, item_names, IsReadableModule}

-- ---- parts

-- the attributes that wait
pub record AreWaiting (a : Attributes) : Type 0 where
  pub each : All IsAttribute a.items
  pub names : a.names ≡ map (λ a. a.name) a.items
  pub distinct : AreDistinct a.names

-- the names of a module's memories, cells and processes
abbrev pub other_names : Module → List (List ℕ)
other_names m = map (λ s. s.name) m.memories ++ (map (λ c. c.name) m.cells ++ map (λ p. p.name) m.processes)

-- the open module
pub record IsOpen (c : OpenModule) : Type 0 where
  pub body : IsReadableModule c.body
  pub wires : c.wire_names ≡ map (λ w. w.name) c.body.wires
  pub others : (x : List ℕ) → has_name c.other_names x ≡ false → has_name (other_names c.body) x ≡ false
  pub bits : c.bits ≡ sum_by (λ w. w.width) c.body.wires

-- between two modules
pub record IsOut (modules : List Module) (names : List (List ℕ)) (attributes : Attributes) : Type 0 where
  pub each : All IsReadableModule modules
  pub ids : names ≡ map (λ m. m.id) modules
  pub distinct : AreDistinct names
  pub count : length modules ≤ MAX_MODULES
  pub waiting : AreWaiting attributes

-- in a module
pub record IsIn (modules : List Module) (names : List (List ℕ)) (current : OpenModule) (attributes : Attributes) : Type 0 where
  pub each : All IsReadableModule modules
  pub ids : names ≡ map (λ m. m.id) modules ++ current.body.id ∷ []
  pub distinct : AreDistinct names
  pub count : length modules < MAX_MODULES
  pub opened : IsOpen current
  pub waiting : AreWaiting attributes

abbrev pub Out : Draft → Type 0
Out d = IsOut d.modules d.names d.attributes × (d.signal.braces ≡ [])

abbrev pub In : Draft → Type 0
In d = IsIn d.modules d.names d.current d.attributes

-- in a module, where no signal is open
abbrev pub Still : Draft → Type 0
Still d = In d × (d.signal.braces ≡ [])

-- the wires of the open module
abbrev pub wires_in : Draft → List Wire
wires_in d = d.current.body.wires

-- an open signal over wires
pub record IsGoodSignal (wires : List Wire) (s : OpenSignal) : Type 0 where
  pub part : IsSignal wires s.part
  pub braces : All (IsSignal wires) s.braces

-- a wire without its name
pub record IsWireSoFar (w : Wire) : Type 0 where
  pub some : 0 < w.width
  pub width : w.width ≤ MAX_WIDTH
  pub offset : IsInteger w.offset
  pub number : IsInteger w.number
  pub inner : w.role ≡ Inner → w.number ≡ pos 0
  pub attributes : AreAttributes w.attributes

-- a memory without its name
pub record IsStoreSoFar (s : Store) : Type 0 where
  pub some : 0 < s.width
  pub width : s.width < 2 ^ 31
  pub size : IsInteger s.size
  pub offset : IsInteger s.offset
  pub attributes : AreAttributes s.attributes

-- a name that an open item has taken in the module
pub record IsTaken (current : OpenModule) (name : List ℕ) : Type 0 where
  pub form : IsName name
  pub new : has_name (item_names current.body) name ≡ false
  pub taken : has_name current.other_names name ≡ true

-- a cell so far; these are names of a parameter and of a pin that are not whole yet
pub record IsCellSoFar (current : OpenModule) (c : OpenCell) (param pin : List (List ℕ)) : Type 0 where
  pub kind_name : IsName c.cell.kind_name
  pub name : IsTaken current c.cell.name
  pub params : All IsCellParam c.cell.params
  pub param_names : c.params ≡ map (λ p. p.name) c.cell.params ++ param
  pub distinct_params : AreDistinct c.params
  pub pins : All (IsPin current.body.wires) c.cell.pins
  pub pin_names : c.pins ≡ map (λ p. p.name) c.cell.pins ++ pin
  pub distinct_pins : AreDistinct c.pins
  pub attributes : AreAttributes c.cell.attributes
  pub room : length current.body.cells < MAX_CELLS

-- a case in so many switches
pub record IsCaseSoFar (wires : List Wire) (depth : ℕ) (c : OpenCase) : Type 0 where
  pub patterns : All (IsSomeSignal wires) c.patterns
  pub assigns : All (IsLink wires) c.assigns
  pub switches : AreSwitches wires depth (switches_of c.switches)
  pub attributes : AreAttributes c.attributes

-- a case in no switch is the root of its process
abbrev pub IsRooted : List OpenSwitch → OpenCase → Type 0
IsRooted [] c = (c.patterns ≡ []) × (c.attributes ≡ [])
IsRooted (s ∷ ss) c = Unit {0}

-- a switch with the cases that were read of it, in so many others
pub record IsSwitchSoFar (wires : List Wire) (depth : ℕ) (s : OpenSwitch) : Type 0 where
  pub case : IsCaseSoFar wires depth s.case
  pub signal : IsSomeSignal wires s.signal
  pub cases : AreCases wires (depth + 1) (cases_of s.cases)
  pub attributes : AreAttributes s.attributes
  pub shallow : depth < MAX_DEPTH

-- the open switches round a case
abbrev pub AreOuter : List Wire → List OpenSwitch → Type 0
AreOuter wires [] = Unit {0}
AreOuter wires (s ∷ ss) = IsSwitchSoFar wires (length ss) s × IsRooted ss s.case × AreOuter wires ss

-- a tree so far
pub record IsTreeSoFar (wires : List Wire) (t : OpenTree) : Type 0 where
  pub case : IsCaseSoFar wires (length t.outer) t.case
  pub rooted : IsRooted t.outer t.case
  pub outer : AreOuter wires t.outer
  pub attributes : AreAttributes t.attributes

-- a process so far
pub record IsProcessSoFar (current : OpenModule) (p : OpenProcess) : Type 0 where
  pub name : IsTaken current p.name
  pub attributes : AreAttributes p.attributes
  pub tree : IsTreeSoFar current.body.wires p.tree
  pub rules : All (IsRule current.body.wires) p.syncs

abbrev pub Processing : Draft → Type 0
Processing d = Still d × IsProcessSoFar d.current d.process

-- .. whose root is the innermost open case
abbrev pub AtRoot : Draft → Type 0
AtRoot d = Processing d × (d.process.tree.outer ≡ [])

-- .. with an open rule
abbrev pub InRule : Draft → Type 0
InRule d = AtRoot d × IsRule (wires_in d) d.process.rule

-- ---- places

-- a cell of which the type was read
abbrev pub kinded : List ℕ → List Attribute → OpenCell
kinded kind attributes = record (plain_cell attributes) { cell = record (plain_cell attributes).cell { kind_name = kind } }

-- a signal was read that may still be sliced
abbrev pub Signalled : Draft → Type 0
Signalled d = In d × IsGoodSignal (wires_in d) d.signal × (d.signal.braces ≡ [])

-- a signal is read: what holds of each draft with its bits
abbrev pub ThenSignal : (Draft → Type 0) → List (List SigBit) → Draft → Type 0
ThenSignal then braces d = (s : OpenSignal) → IsGoodSignal (wires_in d) s → s.braces ≡ braces → then (record d { signal = s })

-- a pair of signals is read
abbrev pub ThenPair : (Draft → Type 0) → Draft → Type 0
ThenPair then d = (left : List SigBit) (s : OpenSignal) → IsSignal (wires_in d) left → IsSignal (wires_in d) s.part → then (close_pair (record d { left = left; signal = s }))

-- the rest of a switch is read
abbrev pub InSwitch : (Draft → Type 0) → Draft → Type 0
InSwitch then d = (s : OpenSwitch) × (ss : List OpenSwitch) × (d.process.tree.outer ≡ s ∷ ss) × ((e : Draft) → Processing e → e.process.tree.outer ≡ ss → then e)

-- a switch is read
abbrev pub ThenSwitch : (Draft → Type 0) → Draft → Type 0
ThenSwitch then d = (e : Draft) → Processing e → e.process.tree.outer ≡ d.process.tree.outer → then e

-- what there is at a place of the grammar, where `then` holds of each draft that there is once the place is done
abbrev pub Stage : Expect → (Draft → Type 0) → Draft → Type 0
Stage expects.Start then d = Out d × ((e : Draft) → Out e → then e)
Stage expects.FileHead then d = Out d × ((e : Draft) → Out e → then e)
Stage expects.AutoidxNumber then d = then d
Stage expects.Modules then d = Out d × ((e : Draft) → Out e → then e)
Stage expects.NextModule then d = Out d × ((e : Draft) → Out e → then e)
Stage expects.EndOfLine then d = then d
Stage expects.AttributeName then d = AreWaiting d.attributes × ((a : Attributes) → AreWaiting a → then (record d { attributes = a; name = [] }))
Stage expects.AttributeValue then d = AreWaiting d.attributes × IsName d.name × ((a : Attributes) → AreWaiting a → then (record d { attributes = a; name = [] }))
Stage expects.ModuleName then d = Out d × (length d.modules < MAX_MODULES) × ((e : Draft) → Out e → then e)
Stage expects.Body then d = Still d × ((e : Draft) → Out e → then e)
Stage expects.NextItem then d = Still d × ((e : Draft) → Out e → then e)
Stage expects.ParameterName then d = Still d × ((e : Draft) → Still e → then e)
Stage expects.ParameterValue then d = Still d × IsName d.name × ((e : Draft) → Still e → then e)
Stage expects.WireOption then d = Still d × IsWireSoFar d.wire × ((e : Draft) → Still e → then e)
Stage expects.WireWidth then d = Still d × IsWireSoFar d.wire × ((e : Draft) → Still e → IsWireSoFar e.wire → then e)
Stage expects.WireOffset then d = Still d × IsWireSoFar d.wire × ((e : Draft) → Still e → IsWireSoFar e.wire → then e)
Stage expects.PortNumber then d = Still d × IsWireSoFar d.wire × (d.wire.role ≡ Inner → ⊥) × ((e : Draft) → Still e → IsWireSoFar e.wire → then e)
Stage expects.MemoryOption then d = Still d × IsStoreSoFar d.store × ((e : Draft) → Still e → then e)
Stage expects.MemoryWidth then d = Still d × IsStoreSoFar d.store × ((e : Draft) → Still e → IsStoreSoFar e.store → then e)
Stage expects.MemorySize then d = Still d × IsStoreSoFar d.store × ((e : Draft) → Still e → IsStoreSoFar e.store → then e)
Stage expects.MemoryOffset then d = Still d × IsStoreSoFar d.store × ((e : Draft) → Still e → IsStoreSoFar e.store → then e)
Stage expects.CellKind then d = Still d × (length d.current.body.cells < MAX_CELLS) × ((attributes : List Attribute) × AreAttributes attributes × (d.cell ≡ plain_cell attributes)) × ((e : Draft) → Still e → then e)
Stage expects.CellName then d = Still d × (length d.current.body.cells < MAX_CELLS) × ((attributes : List Attribute) × (kind : List ℕ) × AreAttributes attributes × IsName kind × (d.cell ≡ kinded kind attributes)) × ((e : Draft) → Still e → then e)
Stage expects.CellBody then d = Still d × IsCellSoFar d.current d.cell [] [] × ((e : Draft) → Still e → then e)
Stage expects.CellParameter then d = Still d × IsCellSoFar d.current d.cell [] [] × ((e : Draft) → Still e → IsCellSoFar e.current e.cell [] [] → then e)
Stage expects.CellParameterName then d = Still d × IsCellSoFar d.current d.cell [] [] × ((e : Draft) → Still e → IsCellSoFar e.current e.cell [] [] → then e)
Stage expects.CellParameterValue then d = Still d × IsCellSoFar d.current d.cell (d.cell.name ∷ []) [] × IsName d.cell.name × ((e : Draft) → Still e → IsCellSoFar e.current e.cell [] [] → then e)
Stage expects.PinName then d = Still d × IsCellSoFar d.current d.cell [] [] × ((e : Draft) → Still e → IsCellSoFar e.current e.cell [] [] → then e)
Stage expects.BehindPin then d = Signalled d × IsCellSoFar d.current d.cell [] (d.cell.name ∷ []) × IsName d.cell.name × ((e : Draft) → Still e → IsCellSoFar e.current e.cell [] [] → then e)
Stage expects.BehindLeft then d = Signalled d × ThenPair then d
Stage expects.BehindRight then d = Signalled d × IsSignal (wires_in d) d.left × ThenPair then d
Stage expects.ProcessName then d = Still d × ((attributes : List Attribute) × AreAttributes attributes × (d.process ≡ plain_process attributes)) × ((e : Draft) → Still e → then e)
Stage expects.ProcessBody then d = AtRoot d × ((e : Draft) → Still e → then e)
Stage expects.NextSwitch then d = Processing d × ThenSwitch then d
Stage expects.BehindSwitch then d = Signalled d × IsProcessSoFar d.current d.process × (length d.process.tree.outer < MAX_DEPTH) × ThenSwitch then d
Stage expects.Cases then d = Processing d × InSwitch then d
Stage expects.NextCase then d = Processing d × InSwitch then d
Stage expects.Patterns then d = Processing d × InSwitch then d
Stage expects.BehindPattern then d = Signalled d × IsProcessSoFar d.current d.process × InSwitch then d
Stage expects.CaseBody then d = Processing d × InSwitch then d
Stage expects.NextInCase then d = Processing d × InSwitch then d
Stage expects.SyncEvent then d = AtRoot d × ((e : Draft) → InRule e → then e)
Stage expects.BehindEvent then d = Signalled d × IsProcessSoFar d.current d.process × (d.process.tree.outer ≡ []) × ((sig : List SigBit) → IsSomeSignal (wires_in d) sig → IsRule (wires_in d) (record d.process.rule { event = event_with sig d.process.rule.event })) × ((e : Draft) → InRule e → then e)
Stage expects.SyncBody then d = InRule d × ((e : Draft) → Still e → then e)
Stage expects.NextWrite then d = InRule d × ((e : Draft) → InRule e → then e)
Stage expects.WriteMemory then d = InRule d × AreAttributes d.process.write.attributes × ((e : Draft) → InRule e → then e)
Stage expects.BehindAddress then d = Signalled d × IsProcessSoFar d.current d.process × (d.process.tree.outer ≡ []) × IsRule (wires_in d) d.process.rule × AreAttributes d.process.write.attributes × IsName d.process.write.memory × ((e : Draft) → InRule e → then e)
Stage expects.BehindValue then d = Signalled d × IsProcessSoFar d.current d.process × (d.process.tree.outer ≡ []) × IsRule (wires_in d) d.process.rule × AreAttributes d.process.write.attributes × IsName d.process.write.memory × IsSomeSignal (wires_in d) d.process.write.address × ((e : Draft) → InRule e → then e)
Stage expects.BehindEnable then d = Signalled d × IsProcessSoFar d.current d.process × (d.process.tree.outer ≡ []) × IsRule (wires_in d) d.process.rule × AreAttributes d.process.write.attributes × IsName d.process.write.memory × IsSomeSignal (wires_in d) d.process.write.address × IsSomeSignal (wires_in d) d.process.write.value × ((e : Draft) → InRule e → then e)
Stage expects.Signal then d = In d × All (IsSignal (wires_in d)) d.signal.braces × ThenSignal then d.signal.braces d
Stage expects.Inside then d = In d × ((brace : List SigBit) × (outer : List (List SigBit)) × (d.signal.braces ≡ brace ∷ outer) × IsSignal (wires_in d) brace × All (IsSignal (wires_in d)) outer × ThenSignal then outer d)
Stage expects.BehindInside then d = In d × IsSignal (wires_in d) d.signal.part × ((brace : List SigBit) × (outer : List (List SigBit)) × (d.signal.braces ≡ brace ∷ outer) × IsSignal (wires_in d) brace × All (IsSignal (wires_in d)) outer × ThenSignal then outer d)
Stage expects.Index then d = In d × IsGoodSignal (wires_in d) d.signal × ThenSignal then d.signal.braces d
Stage expects.BehindIndex then d = In d × IsGoodSignal (wires_in d) d.signal × ThenSignal then d.signal.braces d
Stage expects.LowIndex then d = In d × IsGoodSignal (wires_in d) d.signal × ThenSignal then d.signal.braces d
Stage expects.IndexEnd then d = In d × IsGoodSignal (wires_in d) d.signal × ThenSignal then d.signal.braces d

-- what there is where these are expected
abbrev pub Fits : List Expect → Draft → Type 0
Fits [] d = Out d
Fits (role ∷ roles) d = Stage role (Fits roles) d
