use Rattle.std.proofs.Common.{◌≡◌, ◌++◌}
use Rattle.std.proofs.lemmas.Result.{on_ok_weaker}
use Rattle.flat_pass.specs.Flat.{links_of}
use Rattle.flat_pass.specs.Grown.{IsSound, built}
use Rattle.flat_pass.proofs.Linking.{links_names, links_put}
use Rattle.flat_pass.proofs.Turning.{on_ok}
use Rattle.flat_pass.proofs.grown.Grown.put_links.Goals as goal

pub returns-clause-exact : goal.returns-clause-exact
returns-clause-exact c =
    on_ok_weaker c.put_links.result (λ (e : c.put_links.new.links ≡ c.args.self.now.body.links ++ links_of c.args.first c.args.child.now.body.now c.as_slice.result.now). links_put (built c.args.self.now) c.args.first c.args.child.now.body.now c.args.instance.now.pins c.as_slice.result.now c.put_links.new.links c.as_slice.ensures.value e) c.put_links.ensures.ok

pub returns-clause-sound : goal.returns-clause-sound
returns-clause-sound c =
    let sound : IsSound (record c.args.self.now { body = record c.args.self.now.body { links = c.put_links.new.links } }) = record {
      names = links_names c.args.self.now.namer (built c.args.self.now) c.put_links.new.links c.requires.sound.names;
      bits = c.requires.sound.bits;
      library = c.requires.sound.library;
    } in
    on_ok c.put_links.result sound
