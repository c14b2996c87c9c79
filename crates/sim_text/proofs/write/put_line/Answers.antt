use Rattle.std.proofs.lemmas.Result.{on_ok_weaker}
use Rattle.sim_text.proofs.Joining.{put_first}
use Rattle.sim_text.proofs.write.put_line.Goals as goal

pub returns-in_ok-put_word-in-Some : goal.returns-in_ok-put_word-in-Some
returns-in_ok-put_word-in-Some c = record {
  ok =
      on_ok_weaker c.put_words.result
      (put_first _ _ _ _ _ _ _ _ _ c.in-Some.ensures.cases.0 c.split_at.ensures.front c.split_at.ensures.back c.in_ok-put_word-in-Some.ensures.ok)
      c.put_words.ensures.ok;
}
