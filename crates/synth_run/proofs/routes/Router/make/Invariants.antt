use Rattle.std.proofs.Common.{◌≡◌, [], length}
use Rattle.synth_run.specs.Routes.{AreLists}
use Rattle.synth_run.proofs.routes.Router.make.Given as goal

-- a list of no command for each desk so far
abbrev pub invariant-loop-desk : goal.invariant-loop-desk
invariant-loop-desk l = record {
  lists : AreLists 1 [] l.lists.items;
  count : length l.lists.items ≡ l._desk;
}
