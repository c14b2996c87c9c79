use Rattle.std.proofs.Common.{rules, ◌∙◌, ap, sym, arith}
use Rattle.net_model.specs.Mem.Expand.{low_bit}
use Rattle.mem_map.proofs.Trees.{far_empty, halves_over, left_over, if_ok, none_there, right_over, tree_is}
use Rattle.mem_map.proofs.reads.+tree.Goals as goal

pub high_half-returns-in-None-clause-exact : goal.high_half-returns-in-None-clause-exact
high_half-returns-in-None-clause-exact t c = far_empty c.args.words.now c.args.address.now c.args.bits _ c.args.builder.now c.in-None.ensures.value

pub read_tree-returns-then-not-has_word-clause-exact :
    goal.read_tree-returns-then-not-has_word-clause-exact
read_tree-returns-then-not-has_word-clause-exact t c =
    none_there c.args.words.now c.args.address.now c.args.bits c.args.base c.args.builder.now (sym c.has_word.ensures.value ∙ c.if-not-has_word.true)

pub read_tree-returns-in_err-low-clause-over : goal.read_tree-returns-in_err-low-clause-over
read_tree-returns-in_err-low-clause-over t c e =
    left_over c.args.words.now c.args.address.now c.args.bits c.args.base c.args.builder.now (omega (arith, c.if-bits-eq0.false)) (search (rules, c.read_tree.ensures.over, e, c.from_residual-in_err-low.ensures))

pub read_tree-returns-in_err-high-clause-over : goal.read_tree-returns-in_err-high-clause-over
read_tree-returns-in_err-high-clause-over t c e =
    right_over c.args.words.now c.args.address.now c.args.bits c.args.base c.args.builder.now c.read_tree.new.builder c.in_ok-low.low (omega (arith, c.if-bits-eq0.false)) c.in_ok-low.ensures.exact
    (search (rules, c.high_half.ensures.over, e, c.from_residual-in_err-high.ensures))

pub read_tree-returns-clause-exact : goal.read_tree-returns-clause-exact
read_tree-returns-clause-exact t c =
    if_ok c.halves.result _ _
    (λ value is.
    tree_is c.args.words.now c.args.address.now c.args.bits c.args.base c.args.builder.now c.read_tree.new.builder c.high_half.new.builder c.in_ok-low.low c.in_ok-high.high c.low_bit-select.result (omega (arith, c.if-bits-eq0.false)) c.in_ok-low.ensures.exact
    c.in_ok-high.ensures.exact (c.low_bit-select.ensures.value ∙ ap low_bit c.cut.ensures.high) (value, c.halves.new.builder) is)
    c.halves.ensures.exact

pub read_tree-returns-clause-over : goal.read_tree-returns-clause-over
read_tree-returns-clause-over t c e =
    halves_over c.args.words.now c.args.address.now c.args.bits c.args.base c.args.builder.now c.read_tree.new.builder c.high_half.new.builder c.in_ok-low.low c.in_ok-high.high c.low_bit-select.result (omega (arith, c.if-bits-eq0.false)) c.in_ok-low.ensures.exact
    c.in_ok-high.ensures.exact (c.low_bit-select.ensures.value ∙ ap low_bit c.cut.ensures.high) (search (rules, c.halves.ensures.over, e))
