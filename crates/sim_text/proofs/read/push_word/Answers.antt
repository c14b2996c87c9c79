use Rattle.std.proofs.Common.{◌++◌, ◌∙◌, ap, map, sym}
use Rattle.std.proofs.lemmas.Iterator.Adapters.{YieldsList-from_rev_slice}
use Rattle.std.proofs.lemmas.Iterator.Consumers.{YieldsList-end}
use Rattle.std.proofs.lemmas.Simd.{map-map}
use Rattle.sim_text.specs.Digits.{bit_of}
use Rattle.sim_text.proofs.read.push_word.Goals as goal

pub returns : goal.returns
returns c =
    let t = YieldsList-end (YieldsList-from_rev_slice c.args.word.now cc) c.loop-digit.yielded _ c.loop-digit.yielded_by _ _ c.in-None.is c.next.ensures.steps in
    record {
      ok =
          c.loop-digit.invariant
          ∙ ap (λ bits. c.args.bits.now ++ bits) (sym (map-map bit_of (λ d. d.now) c.loop-digit.yielded) ∙ ap (map bit_of) t.0);
    }
