use Rattle.std.proofs.Common.{◌≡◌, map, sym, ◌∙◌, ap}
use Rattle.net_model.specs.Proc.Start.{begun_wires, ruled_process}
use Rattle.proc_tree.specs.Starts.{AreStartsOf}
use Rattle.proc_tree.proofs.Giving.{all_given}
use Rattle.proc_tree.proofs.apply_owned.Goals as goal

pub returns : goal.returns
returns c =
    let m = c.args.module in
    let are : AreStartsOf c.ruled_processes.new.starts m =
    all_given c.in_ok-starts.starts c.ruled_processes.new.starts c.as_slice.result.now c.as_slice-2.result.now m c.as_slice.ensures.value c.as_slice-2.ensures.value c.in_ok-starts.ensures.none c.in_ok-processes.ensures.starts in
    let wires : c.from_vec.result ≡ begun_wires m 0 m.wires =
    c.from_vec.ensures.value ∙ c.in_ok-wires.ensures.value m are (sym c.as_slice-3.ensures.value) ∙ ap (begun_wires m 0) c.as_slice-3.ensures.value in
    let processes : c.from_vec-2.result ≡ map ruled_process m.processes =
    c.from_vec-2.ensures.value ∙ c.in_ok-processes.ensures.value ∙ ap (map ruled_process) c.as_slice-2.ensures.value in
    record {
      exact = λ i. record m { wires = wires i; processes = processes i };
    }
