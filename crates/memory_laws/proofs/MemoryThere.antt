-- A module without processes in which a memory becomes words, over a valuation of the module after it.
use Rattle.std.proofs.Common.{◌≡◌, ◌<◌, ℕ, zero, suc, ◌+◌, List, [], ◌∷◌, ◌++◌, Some, inl, inr, refl, ◌∙◌, ap, arith}
use Rattle.std.specs.Prelude.{map, nat_abs, slice_get}
use Rattle.std.specs.List.{range_with_len}
use Rattle.std.proofs.lemmas.List.{append-nil}
use Rattle.rtl_bits.specs.declared.bit.Bit.{Bit}
use Rattle.rtl_sig.specs.declared.sig.SigBit.{SigBit}
use Rattle.cell_types.specs.declared.level.Level.{Level}
use Rattle.cell_types.specs.declared.level.Level.TheVariants.{Low, High}
use Rattle.rtl_ir.specs.Build.{Building, building_of}
use Rattle.rtl_ir.specs.Flat.Access.{Access, accesses_of, cell_accesses}
use Rattle.rtl_ir.specs.Flat.Memory.{init_cells, start_word_bit}
use Rattle.rtl_ir.specs.Flat.Cell.{Ports}
use Rattle.rtl_ir.specs.Flat.Driver.{Driven}
use Rattle.rtl_ir.specs.Flat.Place.{Path, Place}
use Rattle.rtl_ir.specs.Flat.Point.{point, point_at, points}
use Rattle.rtl_ir.specs.Flat.Start.{start_of}
use Rattle.rtl_ir.specs.declared.module.Module.{Module}
use Rattle.rtl_ir.specs.declared.plan.MemPlan.{MemPlan}
use Rattle.rtl_ir.specs.declared.store.Store.{Store}
use Rattle.rtl_ir.specs.declared.wire.Wire.{Wire}
use Rattle.net_model.specs.Lists.{In}
use Rattle.net_model.specs.Mem.Expand.{Word, memory_step}
use Rattle.net_model.specs.Mem.Gather.{clock_bit, gathered, is_rising}
use Rattle.net_model.specs.Refine.{Solved}
use Rattle.net_model.specs.Relate.{Says}
use Rattle.net_model.specs.Run.{Time}
use Rattle.net_model.specs.Valuation.{Valuation}
use Rattle.build_laws.proofs.Growing.{Grows}
use Rattle.build_laws.proofs.Meeting.{BodyMet}
use Rattle.memory_laws.proofs.MemoryBuilt.{memory_grows, words_there}
use Rattle.memory_laws.proofs.Saying.{memory_says}
use Rattle.memory_laws.proofs.WordCells.{level_of, moment_of}

-- a number among those from a first one on
pub in_range : (first n a : ℕ) → In a (range_with_len first n) → (j : ℕ) × (j < n) × (a ≡ first + j)
in_range first zero a i = absurd i
in_range first (suc n) a (inl e) =
    let here : first ≡ first + 0 = omega arith in
    (0, omega arith, e ∙ here)
in_range first (suc n) a (inr i) =
    let k = in_range (first + 1) n a i in
    let next : (first + 1) + k.0 ≡ first + suc k.0 = omega arith in
    (suc k.0, omega (arith, k.1), k.2 ∙ next)

pub range_got : {A : Type 0} (f : ℕ → A) (first n j : ℕ) → j < n → slice_get (map f (range_with_len first n)) j ≡ Some (f (first + j))
range_got f first zero j lt = absurd (omega (arith, lt))
range_got f first (suc n) zero lt =
    let here : first ≡ first + 0 = omega arith in
    ap (λ z. Some (f z)) here
range_got f first (suc n) (suc j) lt =
    let next : (first + 1) + j ≡ first + suc j = omega arith in
    range_got f (first + 1) n j (omega (arith, lt)) ∙ ap (λ z. Some (f z)) next

-- the one bit of a clock, and its edge
pub clock_is : (p : Path) (wires : List Wire) (signal : List SigBit) → point_at (points p wires signal) 0 ≡ point p wires (clock_bit signal)
clock_is p wires [] = refl
clock_is p wires (s ∷ signal) = refl

pub rising_is : (level : Level) → level_of (is_rising level) ≡ level
rising_is Low = refl
rising_is High = refl

module _ (n : Module) (s : Store) (place : ℕ) where
  abbrev pub before : Module
  before = record n { processes = [] }

  abbrev pub plan : MemPlan
  plan = gathered before place s

  abbrev pub built : Building
  built = memory_step plan s (building_of before)

  abbrev pub grown : Grows (building_of before) built
  grown = memory_grows plan s (building_of before)

  abbrev pub wires : List Wire
  wires = before.wires ++ grown.wires

  abbrev pub start : SigBit → Bit
  start = start_of wires []

  abbrev pub words : List Word
  words = words_there plan s (building_of before)

  abbrev pub says : Says
  says = memory_says s.name wires words

  -- the write ports
  abbrev pub writes : List Access
  writes = cell_accesses s.name before.cells

  pub writes_are : accesses_of s.name before.cells [] ≡ writes
  writes_are = append-nil writes

  -- the start values of the word at an address
  abbrev pub start_bit : ℕ → ℕ → Bit
  start_bit address k = start_word_bit (init_cells s.name before.cells) s.width address k

  abbrev pub start_bits : ℕ → List Bit
  start_bits address = map (start_bit address) (range_with_len 0 s.width)

  pub word_got : (j : ℕ) → j < nat_abs s.size → slice_get plan.words j ≡ Some (start_bits (nat_abs s.offset + j))
  word_got j lt = range_got start_bits (nat_abs s.offset) (nat_abs s.size) j lt

  -- what solves these rows solves what is built
  abbrev pub IsBuilt : Ports → Path → List Driven → Type 0
  IsBuilt over p rows = (t : Time Place) (w : Valuation) → Solved rows t w → BodyMet (moment_of start over p wires w t) built
