use Rattle.std.proofs.Common.{map, sym, ◌∙◌}
use Rattle.std.proofs.lemmas.List.{length-map}
use Rattle.sim_text.proofs.PortWords.{other_count}
use Rattle.sim_text.proofs.line.are_port_words.Goals as goal

pub returns-then-widths-words : goal.returns-then-widths-words
returns-then-widths-words c = record {
  value = sym (other_count c.args.widths.now (map (λ w. w.now) c.args.words.now) (λ same. c.if-widths-words.true (same ∙ length-map c.args.words.now (λ w. w.now))));
}
