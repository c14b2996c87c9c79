use Rattle.proc_tree.proofs.Giving.{adds_one}
use Rattle.proc_tree.proofs.starts.Starts.put.Goals as goal

pub returns : goal.returns
returns c = record {
  ok =
      adds_one c.args.self.now (record { values = c.put.new.self; begun = c.mark.new.begun }) (record { bit = c.args.bit; value = c.args.value })
      c.in_ok-put.ensures.ok c.mark.ensures.marked c.mark.ensures.size;
}
