use Rattle.std.proofs.Common.{◌∙◌, ap, cond, Some}
use Rattle.std.specs.Str.{bytes_eq}
use Rattle.fsm_parts.specs.SignalTable.{key_of, place_in}
use Rattle.fsm_parts.proofs.Keys.{key_same}
use Rattle.fsm_parts.proofs.signal_table.SignalTable.put.Goals as goal

pub returns : goal.returns
returns c = record {
  ok = λ other.
      c.in_ok-put_key.ensures.ok (key_of other)
      ∙ ap (λ t. cond t (Some c.args.at) (place_in c.args.self.now other)) (ap (λ k. bytes_eq k (key_of other)) c.in_ok-key.ensures.value ∙ key_same c.args.signal.now other);
}
