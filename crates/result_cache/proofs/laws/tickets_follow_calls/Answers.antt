use Rattle.result_cache.proofs.Spending.{ticket_snoc, none_after_hit, none_after_busy, none_after_forget, one_after_yours, none_after_fill, none_after_return}
use Rattle.result_cache.proofs.laws.tickets_follow_calls.Goals as goal

pub returns : goal.returns
returns c = record {
  each = ticket_snoc;
  hit = none_after_hit;
  busy = none_after_busy;
  forgot = none_after_forget;
  yours = one_after_yours;
  filled = none_after_fill;
  given_back = none_after_return;
}
