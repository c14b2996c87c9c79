use Rattle.std.proofs.Common.{◌≡◌, ◌∙◌, ap, length, subst, sym}
use Rattle.std.proofs.lemmas.Bool.{and_parts}
use Rattle.rtl_ir.specs.declared.module.Module.{Module}
use Rattle.rtl_ir.specs.Types.{table_ports}
use Rattle.pass_laws.specs.Pass.{IsPass}
use Rattle.opt_clean.specs.Clean.{clean_of}
use Rattle.opt_clean.specs.Wires.{trimmed}
use Rattle.opt_clean.proofs.Cleaning.{clean_pass}
use Rattle.opt_clean.proofs.Staying.{trimmed_same}
use Rattle.opt_clean.proofs.apply_owned.Goals as goal

pub returns : goal.returns
returns c =
    let m : Module = c.args.module in
    let table = c.args.ports.now in
    let exact : c.in_ok-after.after ≡ clean_of (table_ports table.modules) m = c.in_ok-after.ensures.exact ∙ ap trimmed c.in_ok-kept.ensures.exact in
    record {
      exact = exact;
      pass = subst (IsPass table m) (sym exact) (clean_pass table m c.requires.ready);
      same = λ e.
          let parts = and_parts c.in_ok-kept.kept.is_same c.has_count-has_all.result (sym c.both.ensures.value ∙ e) in
          let is : c.in_ok-after.after ≡ trimmed m = c.in_ok-after.ensures.exact ∙ ap trimmed (c.in_ok-kept.ensures.same parts.0) in
          let count : length (trimmed m).wires ≡ length m.wires = ap (λ (n : Module). length n.wires) (sym is) ∙ c.has_count-has_all.ensures.equal parts.1 ∙ c.count_of-count.ensures.value in
          is ∙ trimmed_same m c.requires.ready.within count;
    }
