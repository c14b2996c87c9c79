use Rattle.std.proofs.Common.{◌≡◌, ◌<◌, ◌∙◌, ℕ, zero, suc, List, [], ◌∷◌, Some, get_or, length, map, slice_get, refl, sym, ap, arith}
use Rattle.rtl_ir.specs.declared.module.Module.{Module}
use Rattle.flat_net.specs.declared.titled.Titled.{Titled}
use Rattle.flat_net.specs.Titled.{titled_design, titled_module}
use Rattle.sim_trace.proofs.trace.put_titled_trace_in.Goals as goal

-- the module at a place, under its name
under_name : (modules : List Titled) (at : ℕ) (t : Titled) → at < length modules → slice_get (map titled_module modules) at ≡ Some (titled_module (get_or modules at t))
under_name [] at t within = absurd (omega arith)
under_name (x ∷ modules) zero t within = refl
under_name (x ∷ modules) (suc at) t within = under_name modules at t (omega arith)

pub put_steps-requires : goal.put_steps-requires
put_steps-requires c =
    let d = titled_design c.args.modules.now in
    let m = titled_module (get_or c.args.modules.now c.args.at c.index-modules-at.result) in
    let here = under_name c.args.modules.now c.args.at c.index-modules-at.result c.requires.in_range in
    record { fresh = record { order = c.args.order; design = d; body = m; over = refl; is = c.in_ok-sim.ensures.settled m here } }

pub returns : goal.returns
returns c = record {
  ok = λ n there.
      let m = titled_module (get_or c.args.modules.now c.args.at c.index-modules-at.result) in
      let here = under_name c.args.modules.now c.args.at c.index-modules-at.result c.requires.in_range in
      let both : Some n ≡ Some m = sym there ∙ here in
      let one : n ≡ m = cc in
      c.put_steps.ensures.ok c.args.order (titled_design c.args.modules.now) n (ap (λ (k : Module). k.wires) one) (c.in_ok-sim.ensures.settled n there);
}
