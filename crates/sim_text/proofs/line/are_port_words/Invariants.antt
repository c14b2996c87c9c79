use Rattle.std.proofs.Common.{◌≡◌, drop, map}
use Rattle.sim_text.specs.Lines.{are_port_words}
use Rattle.sim_text.proofs.line.are_port_words.Given as goal

-- the words so far are those of their ports
abbrev pub invariant-loop-at : goal.invariant-loop-at
invariant-loop-at l =
    are_port_words (drop l.at l.widths) (map (λ w. w.now) (drop l.at l.words)) ≡ are_port_words l.widths (map (λ w. w.now) l.words)
