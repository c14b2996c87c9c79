use Rattle.std.proofs.Common.{◌≡◌, ◌&&◌, ◌||◌, ◌∙◌, length, min, not, ap, arith, take}
use Rattle.std.specs.HashSet.{contains}
use Rattle.rtl_ir.specs.Signals.{same_bit}
use Rattle.proc_mux.specs.Begins.{is_named}
use Rattle.proc_mux.specs.Lines.{is_bit}
use Rattle.proc_mux.proofs.Beginning.{any_with, line_parts, named_is}
use Rattle.proc_mux.proofs.begins.put_line.Goals as goal

pub returns : goal.returns
returns c = record {
  begins = λ a b next.
      let left = c.args.left.now in
      let right = c.args.right.now in
      let k = c.min.result in
      let places = take k left in
      let named = c.in_ok-named.named in
      let old = contains same_bit c.args.begins.now b in
      let e : k ≡ min (length left) (length right) = omega (arith, c.min.ensures) in
      let x = named_is left right k e a in
      let y = named_is left right k e b in
      let in_a = c.in_ok-named.ensures.bits a ∙ x in
      let in_b = c.in_ok-named.ensures.bits b ∙ y in
      line_parts old (contains same_bit c.put_all_next.new.begins b) (contains same_bit c.put_all_own.new.begins b) (is_named left right a) (is_named left right b)
      (c.in_ok-put_all_next.ensures.begins a b next ∙ ap (λ t. old || t) (any_with (λ s. is_bit s a) (not (contains same_bit named b)) places ∙ (λ i. x i && not (in_b i))))
      (c.in_ok-put_all_own.ensures.begins a b next ∙ ap (λ t. contains same_bit c.put_all_next.new.begins b || t) (any_with (λ s. is_bit s b) (not (contains same_bit named a)) places ∙ (λ i. y i && not (in_a i))));
}
