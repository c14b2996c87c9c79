use Rattle.std.proofs.Common.{sym, subst, refl, rules}
use Rattle.flat_pass.specs.Counts.{AreNames}
use Rattle.flat_pass.specs.Grown.{built}
use Rattle.flat_pass.specs.Renames.{copying}
use Rattle.flat_pass.proofs.Adding.{cell_names, cell_put, given, given_over}
use Rattle.flat_pass.proofs.grown.Grown.put_cell.Goals as goal

pub returns-in_err-name-clause-over : goal.returns-in_err-name-clause-over
returns-in_err-name-clause-over c = λ e.
    given_over (built c.args.self.now) c.args.renames.now.instance.now c.args.cell.now.name c.as_slice.result.now c.as_slice.ensures.value (c.name.ensures.over (search (rules, e, c.from_residual.ensures)) (built c.args.self.now) c.requires.sound.names)

pub returns-clause-exact : goal.returns-clause-exact
returns-clause-exact c =
    let b = built c.args.self.now in
    let k = copying c.args.renames.now in
    let names = c.requires.sound.names in
    let g = given c.args.self.now.namer c.name.new.self b c.args.renames.now.instance.now c.args.cell.now.name c.as_slice.result.now c.in_ok-name.name names c.as_slice.ensures.value (c.in_ok-name.ensures.name b names) (c.in_ok-name.ensures.next b names) (c.in_ok-name.ensures.small b names) c.in_ok-name.ensures.counts in
    cell_put c.args.self.now.namer c.name.new.self b k c.in_ok-name.name c.args.cell.now g c.in_ok-copy.copy c.args.self.now.body.cells c.args.self.now.waiting.items c.wait.new.waiting.items c.in_ok-copy.ensures.value c.in_ok-wait.ensures.ok refl

pub returns-clause-sound : goal.returns-clause-sound
returns-clause-sound c =
    let b = built c.args.self.now in
    let k = copying c.args.renames.now in
    let names = c.requires.sound.names in
    let g = given c.args.self.now.namer c.name.new.self b c.args.renames.now.instance.now c.args.cell.now.name c.as_slice.result.now c.in_ok-name.name names c.as_slice.ensures.value (c.in_ok-name.ensures.name b names) (c.in_ok-name.ensures.next b names) (c.in_ok-name.ensures.small b names) c.in_ok-name.ensures.counts in
    let exact = cell_put c.args.self.now.namer c.name.new.self b k c.in_ok-name.name c.args.cell.now g c.in_ok-copy.copy c.args.self.now.body.cells c.args.self.now.waiting.items c.wait.new.waiting.items c.in_ok-copy.ensures.value c.in_ok-wait.ensures.ok refl in
    record {
      names = subst (AreNames c.name.new.self) (sym exact) (cell_names c.args.self.now.namer c.name.new.self b k c.in_ok-name.name c.args.cell.now g);
      bits = c.requires.sound.bits;
      library = c.requires.sound.library;
    }
