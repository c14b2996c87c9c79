use Rattle.std.proofs.Common.{◌^◌, arith}
use Rattle.sim_eval.specs.Numbers.{number_word}
use Rattle.sim_eval.proofs.Reading.{place_read, place_unknown}
use Rattle.sim_eval.proofs.fetched.place_of.Goals as goal

pub returns-in_err-number_of : goal.returns-in_err-number_of
returns-in_err-number_of c = record {
  value = λ words long.
      rw c.from_residual.ensures (place_unknown (number_word c.args.values.now c.args.address.now) c.args.first words c.in_err-number_of.ensures.value);
}

pub returns : goal.returns
returns c = record {
  value = λ words long.
      place_read (2 ^ 100) (number_word c.args.values.now c.args.address.now) _ c.args.first words _ c.in_ok-number_of.ensures.value (omega (arith, long)) (rw c.from.ensures at c.checked_sub.ensures);
}
