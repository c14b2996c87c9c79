use Rattle.result_cache.proofs.FilledKeys.{filled_is, filled_stay, filled_more}
use Rattle.result_cache.proofs.laws.filled_keys_have_values.Goals as goal

pub returns-clause-among : goal.returns-clause-among
returns-clause-among g c = λ s key. filled_is s key

pub returns-clause-kept : goal.returns-clause-kept
returns-clause-kept g c = λ old new keeps. filled_stay old new keeps

pub returns-clause-more : goal.returns-clause-more
returns-clause-more g c = λ old new key value values. filled_more old new key value values
