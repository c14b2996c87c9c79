use Rattle.std.proofs.Common.{sym, ◌∙◌, ap}
use Rattle.fsm_parts.specs.SignalTable.{at_key}
use Rattle.fsm_parts.proofs.Firsts.{first_place, had_place}
use Rattle.fsm_parts.proofs.signal_table.SignalTable.put_first.Goals as goal

pub returns-in-Some : goal.returns-in-Some
returns-in-Some c = record {
  ok = had_place c.args.signal.now c.in_ok-key.key.items c.in_ok-key.ensures.value c.args.self.now c.args.at c.in-Some.field-0 (sym (ap (at_key c.args.self.now) c.as_slice.ensures.value) ∙ sym c.in-Some.ensures.value);
}

pub returns-in_ok-put_key-in-None : goal.returns-in_ok-put_key-in-None
returns-in_ok-put_key-in-None c = record {
  ok = first_place c.args.signal.now c.in_ok-key.key.items c.in_ok-key.ensures.value c.args.self.now c.put_key.new.self c.args.at (sym (ap (at_key c.args.self.now) c.as_slice.ensures.value) ∙ sym c.in-None.ensures.value) c.in_ok-put_key-in-None.ensures.ok;
}
