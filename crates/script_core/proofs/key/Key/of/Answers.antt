use Rattle.std.proofs.Common.{◌++◌, List, ℕ, ap, map, ◌∙◌}
use Rattle.script_core.specs.declared.word.Word.{Word}
use Rattle.script_core.specs.Keys.{KeyParts, part_text}
use Rattle.script_core.specs.Words.{letter_of}
use Rattle.script_core.proofs.KeyLemmas.{is_whole, parts_are}
use Rattle.script_core.proofs.key.Key.of.Goals as goal

pub invariant_of-result : goal.invariant_of-result
invariant_of-result c =
    let key : KeyParts = record { body = c.args.body.now; ports = c.args.ports.now; script = c.args.script; below = c.args.below.now } in
    is_whole key c.in_ok-body.body c.in_ok-ports.ports c.in_ok-below.below c.put_part.new.out.items c.put_part-2.new.out.items c.put_part-3.new.out.items c.in_ok-from_vec.field-0
    (c.in_ok-body.ensures.text ∙ ap (λ (l : List ℕ). l ++ part_text c.args.body.now) c.in_ok-out.ensures.items) c.in_ok-ports.ensures.text c.in_ok-below.ensures.text
    (c.in_ok-from_vec.ensures.value ∙ c.in_ok-put_words.ensures.ok ∙ ap (λ (ws : List Word). c.put_part-3.new.out.items ++ map letter_of ws) c.as_slice-2.ensures.value)
    c.in_ok-body.ensures.there c.in_ok-ports.ensures.there c.in_ok-below.ensures.there

pub returns : goal.returns
returns c =
    let key : KeyParts = record { body = c.args.body.now; ports = c.args.ports.now; script = c.args.script; below = c.args.below.now } in
    record {
      exact =
          parts_are key c.in_ok-body.body c.in_ok-ports.ports c.in_ok-below.below c.put_part.new.out.items c.put_part-2.new.out.items c.put_part-3.new.out.items c.in_ok-from_vec.field-0
          (c.in_ok-body.ensures.text ∙ ap (λ (l : List ℕ). l ++ part_text c.args.body.now) c.in_ok-out.ensures.items) c.in_ok-ports.ensures.text c.in_ok-below.ensures.text
          (c.in_ok-from_vec.ensures.value ∙ c.in_ok-put_words.ensures.ok ∙ ap (λ (ws : List Word). c.put_part-3.new.out.items ++ map letter_of ws) c.as_slice-2.ensures.value)
          c.in_ok-body.ensures.there c.in_ok-ports.ensures.there c.in_ok-below.ensures.there;
    }
