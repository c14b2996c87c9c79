use Rattle.build_crew.proofs.Crews.{run_leaves, run_seats, stopped_leaves, stopped_seats}
use Rattle.build_crew.proofs.laws.crews_build_once.Goals as goal

pub returns : goal.returns
returns g c = record {
  run = λ key_of new_of cache shards count olds mids news old now crew items taken. run_leaves key_of new_of cache shards count olds mids news old now crew (λ number output. Unit {0}) items taken;
  stopped = λ key_of new_of cache shards count olds mids news old now crew. stopped_leaves key_of new_of cache shards count olds mids news old now crew;
  seats = λ key_of new_of cache shards count olds mids news old now crew items taken. run_seats key_of new_of cache shards count olds mids news old now crew (λ number output. Unit {0}) items taken;
  seats_still = λ key_of new_of cache shards count olds mids news old now crew. stopped_seats key_of new_of cache shards count olds mids news old now crew;
}
