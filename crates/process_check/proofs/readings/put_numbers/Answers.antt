use Rattle.std.proofs.Common.{refl, ◌∙◌, ap, ◌++◌}
use Rattle.std.specs.Option.{option_to_list}
use Rattle.process_check.specs.Readings.{number_at, numbers_in}
use Rattle.process_check.proofs.Among.{put_next_at}
use Rattle.process_check.proofs.readings.put_numbers.Goals as goal

pub loop-bit-preserved : goal.loop-bit-preserved
loop-bit-preserved c = λ bits are.
    put_next_at (numbers_in bits) (λ s. option_to_list (number_at bits s)) (λ s signal. refl) c.args.signal.now c.loop-bit.bit-index _ c.loop-bit-test.true c.loop-bit.all.items c.put_number.new.all.items _
    (c.in_ok-put_number.ensures.ok ∙ ap (λ n. c.loop-bit.all.items ++ option_to_list n) (c.number_at.ensures.value bits are)) (c.loop-bit.invariant bits are)
