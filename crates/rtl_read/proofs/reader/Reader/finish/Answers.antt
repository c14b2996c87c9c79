use Rattle.std.proofs.Common.{◌<◌, ◌≡◌, List, length, sym, ap, Err, Ok, ◌∙◌, arith}
use Rattle.rtl_ir.specs.declared.module.Module.{Module}
use Rattle.rtl_read.specs.declared.read_fault.ReadFault.TheVariants as faults
use Rattle.rtl_read.proofs.Taking.{all_read, cut_off}
use Rattle.rtl_read.proofs.reader.Reader.finish.Goals as goal

pub returns-then-depth-gt0 : goal.returns-then-depth-gt0
returns-then-depth-gt0 c =
    let some : 0 < length c.args.self.now.expected = omega (arith, c.depth.ensures.value, c.if-depth-gt0.true) in
    cut_off _ _ some ∙ ap (λ p. Err (faults.Syntax p)) (sym c.start.ensures.value)

pub returns : goal.returns
returns c =
    let none : length c.args.self.now.expected ≡ 0 = omega (arith, c.depth.ensures.value, c.if-depth-gt0.false) in
    all_read _ _ none ∙ ap (λ (x : List Module). Ok (record { modules = x })) (sym c.replace-modules.ensures.value)
