use Rattle.std.proofs.Common.{◌∙◌, [], ap, below_more, sym}
use Rattle.std.specs.Str.{bytes_eq}
use Rattle.std.proofs.lemmas.List.{get_or_read}
use Rattle.rtl_read.proofs.Fewer.{found_at, found_none}
use Rattle.rtl_read.proofs.few_names.place_of.Goals as goal

pub loop-at-preserved : goal.loop-at-preserved
loop-at-preserved c =
    let same = c.as_slice.ensures.value ∙ get_or_read c.args.names.now c.loop-at.at c.index-names-at.result c.loop-at-test.true c.index-names-at.is [] in
    below_more _ _ c.loop-at.invariant (sym (ap (bytes_eq c.args.name.now) same) ∙ sym c.is_same.ensures.value ∙ c.if-is_same.false)

pub returns-then-is_same : goal.returns-then-is_same
returns-then-is_same c =
    let same = c.as_slice.ensures.value ∙ get_or_read c.args.names.now c.loop-at.at c.index-names-at.result c.loop-at-test.true c.index-names-at.is [] in
    record { value = found_at (bytes_eq c.args.name.now) c.args.names.now [] c.loop-at.at c.loop-at-test.true c.loop-at.invariant (sym (ap (bytes_eq c.args.name.now) same) ∙ sym c.is_same.ensures.value ∙ c.if-is_same.true) }

pub returns : goal.returns
returns c = record { value = found_none (bytes_eq c.args.name.now) c.args.names.now [] c.loop-at.at c.loop-at-test.false c.loop-at.invariant }
