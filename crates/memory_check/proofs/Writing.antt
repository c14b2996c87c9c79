-- Write cells that are faults of a memory, or none.
use Rattle.std.proofs.Common.{◌≡◌, ◌≤◌, ◌<◌, Bool, true, false, not, ◌||◌, ◌&&◌, List, map, ◌⊎◌, inl, inr, refl, sym, ◌∙◌, ap}
use Rattle.std.specs.Bool.{nat_eq}
use Rattle.std.specs.HashSet.{contains}
use Rattle.std.specs.List.{list_any}
use Rattle.std.specs.Prelude.{nat_lt, ◌==◌}
use Rattle.std.proofs.lemmas.Bool.{le-ltb}
use Rattle.cell_types.specs.declared.memory.MemoryKind.{MemoryKind}
use Rattle.cell_types.specs.declared.memory.MemoryKind.TheVariants.{Memrd, MemrdV2, MemwrV2}
use Rattle.cell_types.specs.declared.param_name.ParamName.TheVariants as Param
use Rattle.cell_types.specs.declared.shape.Shape.{Shape}
use Rattle.rtl_ir.specs.declared.cell.Cell.{Cell}
use Rattle.rtl_ir.specs.declared.module.Link.{Link}
use Rattle.rtl_ir.specs.declared.store.Store.{Store}
use Rattle.rtl_ir.specs.Faults.MemoryCells.{is_bad_access, is_bad_write, is_clocked, is_unlike, number_at}
use Rattle.rtl_ir.specs.WritePorts.{WritePort, cell_clocking, clashes}
use Rattle.memory_check.specs.declared.ports.Ports.{Ports}
use Rattle.memory_check.specs.Ports.{HasCells, unlike}
use Rattle.memory_check.specs.Shapes.{HasShape}
use Rattle.memory_check.proofs.Shaping.{number_great, number_is, says}

module _ (links : List Link) (entry : Ports) (s : Store) (ports : List WritePort) (shape : Shape) (c : Cell) (has : HasCells links entry s ports) (shaped : HasShape shape MemwrV2 c) where
  four : Bool → Bool → Bool → Bool → Bool
  four a b d e = not a || b || d || (true && e)

  great : Bool
  great = nat_lt 65535 (number_at c Param.Portid)

  twice : Bool
  twice = list_any (λ (p : WritePort). p.number == number_at c Param.Portid) ports

  clash : Bool
  clash = clashes (cell_clocking links c) (map (λ (p : WritePort). p.clocking) ports)

  is_four : four (is_clocked c) great twice clash ≡ is_bad_write true links ports c
  unfolding four great twice clash
  is_four = refl

  second : (a d e : Bool) → true ≡ four a true d e
  unfolding four
  second true d e = refl
  second false d e = refl

  third : (a b e : Bool) → true ≡ four a b true e
  unfolding four
  third true true e = refl
  third true false e = refl
  third false b e = refl

  fourth : (a b d : Bool) → true ≡ four a b d true
  unfolding four
  fourth true true d = refl
  fourth true false true = refl
  fourth true false false = refl
  fourth false b d = refl

  -- a port without a clock
  pub unclocked : shape.port.clocked ≡ false → true ≡ is_bad_write true links ports c
  unfolding four
  unclocked n = (λ i. four (sym n i) great twice clash) ∙ (λ i. four ((says shape MemwrV2 c shaped).clocked i) great twice clash) ∙ is_four

  -- too great a number
  pub too_great : 65535 < shape.port.number → true ≡ is_bad_write true links ports c
  unfolding great
  too_great h = second (is_clocked c) twice clash ∙ (λ i. four (is_clocked c) (sym (number_great shape MemwrV2 c shaped h) i) twice clash) ∙ is_four

  twice_is : shape.port.number ≤ 65535 → contains nat_eq entry.numbers shape.port.number ≡ twice
  unfolding twice
  twice_is low = ap (contains nat_eq entry.numbers) (number_is shape MemwrV2 c shaped low) ∙ has.numbers (number_at c Param.Portid)

  -- the number of an earlier port
  pub again : shape.port.number ≤ 65535 → contains nat_eq entry.numbers shape.port.number ≡ true → true ≡ is_bad_write true links ports c
  again low there = third (is_clocked c) great clash ∙ (λ i. four (is_clocked c) great ((sym there ∙ twice_is low) i) clash) ∙ is_four

  clash_is : unlike links entry.first (cell_clocking links c) ≡ clash
  unfolding clash
  clash_is = sym (has.first (cell_clocking links c))

  -- another clock or edge
  pub clashing : unlike links entry.first (cell_clocking links c) ≡ true → true ≡ is_bad_write true links ports c
  clashing h = fourth (is_clocked c) great twice ∙ (λ i. four (is_clocked c) great twice ((sym h ∙ clash_is) i)) ∙ is_four

  -- none of these
  pub fine : shape.port.clocked ≡ true → shape.port.number ≤ 65535 → contains nat_eq entry.numbers shape.port.number ≡ false → unlike links entry.first (cell_clocking links c) ≡ false
      → false ≡ is_bad_write true links ports c
  unfolding four great
  fine clocked low new alike =
      let small : nat_lt 65535 (number_at c Param.Portid) ≡ false = ap (nat_lt 65535) (sym (number_is shape MemwrV2 c shaped low)) ∙ le-ltb 65535 shape.port.number low in
      (λ i. four (sym clocked i) (sym small i) ((sym new ∙ twice_is low) i) ((sym alike ∙ clash_is) i))
      ∙ (λ i. four ((says shape MemwrV2 c shaped).clocked i) great twice clash) ∙ is_four

module _ (links : List Link) (ports : List WritePort) (s : Store) (c : Cell) (none : is_unlike s c ≡ false) where
  -- a cell that reads
  pub read_bad : (kind : MemoryKind) (clocked : Bool) → (kind ≡ Memrd) ⊎ (kind ≡ MemrdV2) → clocked ≡ is_clocked c → clocked ≡ (is_unlike s c || is_bad_access true links ports s c kind)
  read_bad kind clocked (inl e) is = is ∙ (λ i. sym none i || is_bad_access true links ports s c (sym e i))
  read_bad kind clocked (inr e) is = is ∙ (λ i. sym none i || is_bad_access true links ports s c (sym e i))

  -- a cell that writes
  pub write_bad : (kind : MemoryKind) (bad : Bool) → kind ≡ MemwrV2 → bad ≡ is_bad_write true links ports c → bad ≡ (is_unlike s c || is_bad_access true links ports s c kind)
  write_bad kind bad e is = is ∙ (λ i. sym none i || is_bad_access true links ports s c (sym e i))
