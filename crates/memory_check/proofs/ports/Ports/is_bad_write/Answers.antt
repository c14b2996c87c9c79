use Rattle.std.proofs.Common.{◌++◌, ◌∷◌, [], ◌∙◌, sym, ap, subst}
use Rattle.cell_types.specs.declared.memory.MemoryKind.TheVariants.{MemwrV2}
use Rattle.rtl_ir.specs.WritePorts.{cell_port}
use Rattle.memory_check.specs.Ports.{Holds, unlike}
use Rattle.memory_check.proofs.Noting.{cell_noted, holds_more}
use Rattle.memory_check.proofs.Shaping.{number_is}
use Rattle.memory_check.proofs.Writing.{again, clashing, fine, too_great, unclocked}
use Rattle.memory_check.proofs.ports.Ports.is_bad_write.Goals as goal
use Rattle.memory_check.proofs.ports.Ports.is_bad_write.Goals.{then-not-shape-via-then-not-shape, then-not-shape-via-else-not-shape+then-number-gt-MAX_PORT, then-not-shape-via-else-not-shape+else-number-gt-MAX_PORT+then-contains}

pub returns-then-not-shape-clause-bad : goal.returns-then-not-shape-clause-bad
returns-then-not-shape-clause-bad c = λ m s ports clocks has shaped.
    elim c.then-not-shape.branch [
      | then-not-shape-via-then-not-shape w ↦ unclocked m.links c.args.self.now s ports c.args.shape.now c.args.cell.now has shaped w.if-not-shape.true
      | then-not-shape-via-else-not-shape+then-number-gt-MAX_PORT w ↦ too_great m.links c.args.self.now s ports c.args.shape.now c.args.cell.now has shaped w.if-number-gt-MAX_PORT.true
      | then-not-shape-via-else-not-shape+else-number-gt-MAX_PORT+then-contains w ↦
          again m.links c.args.self.now s ports c.args.shape.now c.args.cell.now has shaped w.if-number-gt-MAX_PORT.false (sym w.contains.ensures ∙ w.if-contains.true)
    ]

pub returns-then-branch-clause-bad : goal.returns-then-branch-clause-bad
returns-then-branch-clause-bad c = λ m s ports clocks has shaped.
    let old = c.args.self.now in
    let own = c.of_cell-clocking.ensures.value shaped m.links in
    clashing m.links old s ports c.args.shape.now c.args.cell.now has shaped
    (ap (unlike m.links old.first) (sym own) ∙ sym (c.in_ok-clashes.ensures.value m clocks) ∙ c.if-branch.true)

pub returns-clause-bad : goal.returns-clause-bad
returns-clause-bad c = λ m s ports clocks has shaped.
    let old = c.args.self.now in
    let own = c.of_cell-clocking.ensures.value shaped m.links in
    fine m.links old s ports c.args.shape.now c.args.cell.now has shaped c.if-not-shape.false c.if-number-gt-MAX_PORT.false (sym c.contains.ensures ∙ c.if-contains.false)
    (ap (unlike m.links old.first) (sym own) ∙ sym (c.in_ok-clashes.ensures.value m clocks) ∙ c.if-branch.false)

pub returns-clause-noted : goal.returns-clause-noted
returns-clause-noted c = λ good m s ports clocks has shaped.
    let old = c.args.self.now in
    let shape = c.args.shape.now in
    let cell = c.args.cell.now in
    let own = c.of_cell-clocking.ensures.value shaped m.links in
    let number = number_is shape MemwrV2 cell shaped c.if-number-gt-MAX_PORT.false in
    let held = holds_more old.numbers c.insert.new.self shape.port.number ports (cell_port m.links cell) c.in_ok-insert.ensures.updates (sym number) has.numbers in
    cell_noted m.links old c.note.new.self s ports c.of_cell-clocking.result cell shape.port.number number own has
    (ap (unlike m.links old.first) (sym own) ∙ sym (c.in_ok-clashes.ensures.value m clocks) ∙ c.if-branch.false)
    c.note.ensures.store (subst (λ set. Holds set (ports ++ cell_port m.links cell ∷ [])) (sym c.note.ensures.numbers) held) c.note.ensures.next c.note.ensures.first
