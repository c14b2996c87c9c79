use Rattle.std.proofs.Common.{rules, ◌≡◌, ◌∙◌, ap, sym, get_or, arith}
use Rattle.std.proofs.lemmas.List.{drop_all}
use Rattle.rtl_bits.specs.declared.bit.Bit.TheVariants.{S0}
use Rattle.rtl_sig.specs.declared.sig.SigBit.TheVariants.{Fixed}
use Rattle.map_mul.specs.Product.{added_row, product_from}
use Rattle.map_mul.proofs.Steps.{product_over, product_step}
use Rattle.map_mul.proofs.product.product.Goals as goal

pub returns-in_err-so_far-2-clause-over : goal.returns-in_err-so_far-2-clause-over
returns-in_err-so_far-2-clause-over c e =
    product_over c.loop-at.so_far c.args.a.now c.args.b.now c.loop-at.at (Fixed S0) c.loop-at.builder _ (omega (arith, c.loop-at-test.true)) c.loop-at.invariant.net
    (search (rules, c.add_row.ensures.over, e, c.from_residual-in_err-so_far-2.ensures))

pub loop-at-preserved : goal.loop-at-preserved
loop-at-preserved c = record {
  net =
      let made : (c.in_ok-so_far-2.so_far, c.add_row.new.builder) ≡ added_row c.loop-at.so_far c.args.a.now c.loop-at.at (get_or c.args.b.now c.loop-at.at (Fixed S0)) c.loop-at.builder =
      c.in_ok-so_far-2.ensures.exact ∙ ap (λ z. added_row z c.args.a.now c.loop-at.at (get_or c.args.b.now c.loop-at.at (Fixed S0)) c.loop-at.builder) c.as_slice.ensures.value in
      product_step c.loop-at.so_far c.args.a.now c.args.b.now c.in_ok-so_far-2.so_far c.loop-at.at (Fixed S0) c.loop-at.builder c.add_row.new.builder (omega (arith, c.loop-at-test.true)) made
      ∙ c.loop-at.invariant.net;
  within = λ h. c.in_ok-so_far-2.ensures.within (c.loop-at.invariant.within h);
}

pub returns-clause-exact : goal.returns-clause-exact
returns-clause-exact c =
    ap (λ z. product_from c.loop-at.so_far c.args.a.now c.loop-at.at z c.loop-at.builder) (sym (drop_all c.loop-at.at c.args.b.now (omega (arith, c.loop-at-test.false))))
    ∙ c.loop-at.invariant.net
