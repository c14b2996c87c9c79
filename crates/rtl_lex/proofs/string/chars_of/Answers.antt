use Rattle.std.proofs.Common.{◌++◌, ◌∙◌, ap, drop, map, rules, take}
use Rattle.rtl_lex.specs.Strings.{spelt}
use Rattle.rtl_lex.proofs.Spelling.{chars_more, own_chars}
use Rattle.rtl_lex.proofs.string.chars_of.Goals as goal

pub loop-char-init : goal.loop-char-init
loop-char-init c =
    let body = c.body_of-body.result.now in
    record {
      is =
          ap (λ cs. cs ++ map (λ c. c.0) (spelt 0 (drop c.owns-at.result body))) c.in_ok-chars.ensures.value
          ∙ ap (λ n. take n body ++ map (λ c. c.0) (spelt 0 (drop n body))) c.owns-at.ensures.run ∙ own_chars body;
      within = c.owns-at.ensures.within;
    }

pub loop-char-preserved : goal.loop-char-preserved
loop-char-preserved c = record {
  is = chars_more c.body_of-body.result.now c.loop-char.at _ _ _ _ c.in-Some.ensures.value c.in-Some.ensures.some.0 c.in_ok-push.ensures.ok c.loop-char.invariant.is;
  within = search rules;
}
