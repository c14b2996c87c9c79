use Rattle.std.proofs.Common.{◌∙◌, ap, sym, subst, rules}
use Rattle.flat_pass.specs.Counts.{AreNames}
use Rattle.flat_pass.specs.Flat.{copy_name, dotted}
use Rattle.flat_pass.specs.Grown.{built}
use Rattle.flat_pass.proofs.Adding.{given, given_over, store_names, store_put}
use Rattle.flat_pass.proofs.grown.Grown.put_store.Goals as goal

pub returns-in_err-name-clause-over : goal.returns-in_err-name-clause-over
returns-in_err-name-clause-over c = λ e.
    given_over (built c.args.self.now) c.args.instance.now c.args.store.now.name c.as_slice.result.now c.as_slice.ensures.value (c.name.ensures.over (search (rules, e, c.from_residual.ensures)) (built c.args.self.now) c.requires.sound.names)

pub returns-clause-name : goal.returns-clause-name
returns-clause-name c =
    c.in_ok-name.ensures.name (built c.args.self.now) c.requires.sound.names ∙ ap (λ t. copy_name (built c.args.self.now) (dotted c.args.instance.now t)) c.as_slice.ensures.value

pub returns-clause-exact : goal.returns-clause-exact
returns-clause-exact c =
    let b = built c.args.self.now in
    let names = c.requires.sound.names in
    let g = given c.args.self.now.namer c.name.new.self b c.args.instance.now c.args.store.now.name c.as_slice.result.now c.in_ok-name.name names c.as_slice.ensures.value (c.in_ok-name.ensures.name b names) (c.in_ok-name.ensures.next b names) (c.in_ok-name.ensures.small b names) c.in_ok-name.ensures.counts in
    store_put c.args.self.now.namer c.name.new.self b c.args.instance.now c.in_ok-name.name c.args.store.now c.in_ok-copy-2.copy c.push.new.self g (c.in_ok-copy-2.ensures.value ∙ ap (λ n. record c.args.store.now { name = n }) c.in_ok-copy.ensures.value) c.in_ok-push.ensures.ok

pub returns-clause-sound : goal.returns-clause-sound
returns-clause-sound c =
    let b = built c.args.self.now in
    let names = c.requires.sound.names in
    let g = given c.args.self.now.namer c.name.new.self b c.args.instance.now c.args.store.now.name c.as_slice.result.now c.in_ok-name.name names c.as_slice.ensures.value (c.in_ok-name.ensures.name b names) (c.in_ok-name.ensures.next b names) (c.in_ok-name.ensures.small b names) c.in_ok-name.ensures.counts in
    let exact = store_put c.args.self.now.namer c.name.new.self b c.args.instance.now c.in_ok-name.name c.args.store.now c.in_ok-copy-2.copy c.push.new.self g (c.in_ok-copy-2.ensures.value ∙ ap (λ n. record c.args.store.now { name = n }) c.in_ok-copy.ensures.value) c.in_ok-push.ensures.ok in
    record {
      names = subst (AreNames c.name.new.self) (sym exact) (store_names c.args.self.now.namer c.name.new.self b c.args.instance.now c.in_ok-name.name c.args.store.now g);
      bits = c.requires.sound.bits;
      library = c.requires.sound.library;
    }
