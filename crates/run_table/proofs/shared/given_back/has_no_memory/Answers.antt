use Rattle.result_cache.proofs.Idle.{idle_at}
use Rattle.run_table.proofs.shared.given_back.has_no_memory.Goals as goal

pub run_jobs-answer-requires-clause-tokens : goal.run_jobs-answer-requires-clause-tokens
run_jobs-answer-requires-clause-tokens g c κs within = λ k d l. idle_at c.args.cache.now.table.shared.table_id c.args.seats.now k d c.requires.idle l
