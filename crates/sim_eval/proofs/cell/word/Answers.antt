use Rattle.std.proofs.Common.{◌≡◌, ◌∙◌, [], ◌∷◌, ap, length, subst, sym, true}
use Rattle.std.proofs.lemmas.List.{length-map}
use Rattle.cell_word.specs.Values.{HasInputs}
use Rattle.sim_eval.specs.Limits.{input_widths, is_word_within}
use Rattle.sim_eval.specs.Numbers.{number_read}
use Rattle.sim_eval.proofs.Limits.{inputs_within}
use Rattle.sim_eval.proofs.cell.word.Goals as goal

pub word_value-requires : goal.word_value-requires
word_value-requires c =
    let cell = c.args.cell.now in
    let read = number_read c.args.values.now in
    let a = c.in_ok-a.a in
    let b = c.in_ok-b.b in
    let s = c.in_ok-s.s in
    let a_long : length a ≡ length cell.a = ap length c.in_ok-a.ensures.value ∙ (length-map c.as_slice.result.now read ∙ ap length c.as_slice.ensures.value) in
    let b_long : length b ≡ length cell.b = ap length c.in_ok-b.ensures.value ∙ (length-map c.as_slice-2.result.now read ∙ ap length c.as_slice-2.ensures.value) in
    let s_long : length s ≡ length cell.s = ap length c.in_ok-s.ensures.value ∙ (length-map c.as_slice-3.result.now read ∙ ap length c.as_slice-3.ensures.value) in
    let widths : input_widths cell ≡ length a ∷ length b ∷ length s ∷ [] = λ i. sym a_long i ∷ sym b_long i ∷ sym s_long i ∷ [] in
    let word = c.requires.within in
    record {
      inputs = subst (λ z. HasInputs z cell.shape (a ∷ b ∷ s ∷ [])) (sym word.is)
          (inputs_within word.kind cell.shape a b s (subst (λ z. is_word_within word.kind cell.shape z ≡ true) widths word.within));
    }
