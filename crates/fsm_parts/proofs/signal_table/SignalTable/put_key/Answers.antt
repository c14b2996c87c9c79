use Rattle.fsm_parts.proofs.Updating.{key_put}
use Rattle.fsm_parts.proofs.signal_table.SignalTable.put_key.Goals as goal

pub returns : goal.returns
returns c = record { ok = key_put c.args.key.items c.args.self.now.places c.insert.new.self c.args.at c.in_ok-insert.ensures.updates }
