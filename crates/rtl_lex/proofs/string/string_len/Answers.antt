use Rattle.std.proofs.Common.{drop, ap, rules, sym, ◌+◌, ◌∙◌}
use Rattle.rtl_lex.specs.Strings.{spelt, spelt_len}
use Rattle.rtl_lex.proofs.Spelling.{own_len, spelt_len_more}
use Rattle.rtl_lex.proofs.string.string_len.Goals as goal

pub loop-count-init : goal.loop-count-init
loop-count-init c = record {
  is = ap (λ n. n + spelt_len (spelt 0 (drop n c.args.bytes.now))) c.owns-at.ensures.run ∙ own_len c.args.bytes.now;
  within = c.owns-at.ensures.within;
}

pub loop-count-preserved : goal.loop-count-preserved
loop-count-preserved c = record {
  is = sym (spelt_len_more c.args.bytes.now c.loop-count.at _ c.in-Some.ensures.value c.in-Some.ensures.some.0) ∙ c.loop-count.invariant.is;
  within = search rules;
}
