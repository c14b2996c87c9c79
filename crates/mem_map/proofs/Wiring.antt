-- The fresh wires of words, all of them, and past a limit.
use Rattle.std.proofs.Common.{◌≡◌, ℕ, suc, ◌<◌, ◌≤◌, List, [], ◌∷◌, ◌++◌, length, map, drop, get_or, append-nil, drop_of_length-le, sym, ◌∙◌, ap, subst}
use Rattle.rtl_bits.specs.declared.bit.Bit.{Bit}
use Rattle.rtl_sig.specs.declared.sig.SigBit.{SigBit}
use Rattle.rtl_sig.specs.declared.sig.SigBit.TheVariants.{Fixed}
use Rattle.rtl_ir.specs.Build.{Building, fresh_wire}
use Rattle.net_index.specs.Builder.{PassesLimit}
use Rattle.net_model.specs.Mem.Expand.{Word, fixed_words, word_wires}
use Rattle.net_model.specs.Proc.Start.{init_attribute}
use Rattle.match_cells.proofs.Growing.{Grows, over_later}
use Rattle.mem_map.specs.Words.{numbered}
use Rattle.mem_map.proofs.Going.{behind, item_here}
use Rattle.mem_map.proofs.Growing.{wires_grow}
use Rattle.mem_map.proofs.Numbered.{fixed_are, wires, wires_are, with_words}

module _ (first : ℕ) (starts : List (List Bit)) (b : Building) (at : ℕ) (signals : List (List SigBit)) (b' : Building) (so : behind signals (wires (drop at starts) b') ≡ wires starts b) where
  pub wires_end : length starts ≤ at → (numbered first signals, b') ≡ word_wires first starts b
  wires_end past =
      (λ i. (numbered first (sym (append-nil signals) i), b'))
      ∙ ap (λ ss. with_words first (behind signals (wires ss b'))) (sym (drop_of_length-le starts past))
      ∙ ap (with_words first) so
      ∙ sym (wires_are first starts b)

  pub wire_over : (bits : List Bit) → at < length starts → bits ≡ get_or starts at bits → PassesLimit (fresh_wire (length bits) (init_attribute bits ∷ []) b').1 → PassesLimit (word_wires first starts b).1
  wire_over bits h e over =
      let then = (fresh_wire (length bits) (init_attribute bits ∷ []) b').1 in
      let left = drop (suc at) starts in
      let grows : Grows then (wires left then).1 = subst (λ (r : List Word × Building). Grows then r.1) (wires_are first left then) (wires_grow first left then) in
      subst PassesLimit
      (ap (λ ss. (wires ss b').1) (sym (item_here starts at bits h e)) ∙ ap (λ (r : List (List SigBit) × Building). r.1) so ∙ sym (ap (λ (r : List Word × Building). r.1) (wires_are first starts b)))
      (over_later then (wires left then).1 grows over)

pub fixed_end : (first : ℕ) (starts : List (List Bit)) (at : ℕ) (signals : List (List SigBit)) → length starts ≤ at → signals ++ map (map Fixed) (drop at starts) ≡ map (map Fixed) starts → numbered first signals ≡ fixed_words first starts
fixed_end first starts at signals past so =
    ap (numbered first) (sym (append-nil signals) ∙ ap (λ ss. signals ++ map (map Fixed) ss) (sym (drop_of_length-le starts past)) ∙ so) ∙ fixed_are first starts
