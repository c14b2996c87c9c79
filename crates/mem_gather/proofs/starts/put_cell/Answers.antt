use Rattle.std.proofs.Common.{◌<◌, subst}
use Rattle.mem_gather.proofs.Starting.{words_begin, words_go}
use Rattle.mem_gather.proofs.starts.put_cell.Goals as goal

pub loop-number-init : goal.loop-number-init
loop-number-init c size f e = words_begin c.args.base size c.args.width c.args.cell.now f c.in_ok-first.first c.in_ok-first.ensures.value c.args.words.now.items e

pub loop-number-preserved : goal.loop-number-preserved
loop-number-preserved c size f e =
    words_go c.args.base size c.args.width c.args.cell.now f c.in_ok-first.first c.in_ok-first.ensures.value c.loop-number.number
    (subst (λ n. c.loop-number.number < n) c.in_ok-count.ensures.value c.loop-number-test.true)
    c.loop-number.words.items c.put_word.new.words.items (c.loop-number.invariant size f e) c.in_ok-put_word.ensures.ok
