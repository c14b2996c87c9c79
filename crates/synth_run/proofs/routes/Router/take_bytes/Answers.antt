use Rattle.std.proofs.Common.{List, [], ◌∷◌, ◌++◌, Bool, subst}
use Rattle.synth_run.specs.Desks.{Part}
use Rattle.synth_run.specs.Lines.{read_lines}
use Rattle.synth_run.specs.Routes.{TakesParts}
use Rattle.synth_run.proofs.Routed.{routes_first, routes_next, routes_quit}
use Rattle.synth_run.proofs.routes.Router.take_bytes.Goals as goal

pub loop-front-init : goal.loop-front-init
loop-front-init c = record {
  routes = routes_first c.args.self.now c.args.bytes.now c.requires.unended;
  router = c.requires.router;
}

pub returns-then-branch-clause-ends : goal.returns-then-branch-clause-ends
returns-then-branch-clause-ends c = λ _.
    routes_quit c.args.self.now c.loop-front.self c.end_line.new.self c.args.bytes.now c.loop-front.left.now c.in-Some.front.now c.in-Some.behind.now c.loop-front.invariant.routes
    c.in-Some.ensures.parts.0 c.in-Some.ensures.parts.1
    (subst (λ (t : Bool). (more : List Part) × TakesParts c.loop-front.self c.end_line.new.self (read_lines ((c.loop-front.self.line ++ c.in-Some.front.now) ∷ [])) t more)
    c.if-branch.true c.in_ok-end_line.ensures.ok)

pub loop-front-preserved : goal.loop-front-preserved
loop-front-preserved c = record {
  routes =
      routes_next c.args.self.now c.loop-front.self c.end_line.new.self c.args.bytes.now c.loop-front.left.now c.in-Some.front.now c.in-Some.behind.now c.loop-front.invariant.routes
      c.in-Some.ensures.parts.0 c.in-Some.ensures.parts.1 c.in_ok-end_line.ensures.line
      (subst (λ (t : Bool). (more : List Part) × TakesParts c.loop-front.self c.end_line.new.self (read_lines ((c.loop-front.self.line ++ c.in-Some.front.now) ∷ [])) t more)
      c.if-branch.false c.in_ok-end_line.ensures.ok);
  router = c.in_ok-end_line.ensures.router;
}
