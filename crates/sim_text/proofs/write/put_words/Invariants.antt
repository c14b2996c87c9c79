use Rattle.std.proofs.Common.{◌≡◌, ◌∷◌, ◌++◌, length, drop}
use Rattle.std.specs.List.{flat_map, sum}
use Rattle.sim_text.specs.Lines.{port_words}
use Rattle.sim_text.proofs.write.put_words.Given as goal

-- what is written, and the words that are left, are all; the bits that are left are those of the ports that are left
abbrev pub invariant-loop-width : goal.invariant-loop-width
invariant-loop-width l = record {
  written :
      l.out ++ flat_map (λ word. 32 ∷ word) (port_words (drop l.width-index l.widths) l.rest)
      ≡ l.initial.out ++ flat_map (λ word. 32 ∷ word) (port_words l.widths l.bits);
  left : length l.rest ≡ sum (drop l.width-index l.widths);
}
