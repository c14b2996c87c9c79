use Rattle.std.proofs.Common.{◌∙◌, ap, arith, nat_abs, replicate}
use Rattle.std.proofs.lemmas.List.{take_all}
use Rattle.rtl_bits.specs.declared.bit.Bit.TheVariants.{X}
use Rattle.mem_gather.specs.Tables.{started, table}
use Rattle.mem_gather.proofs.Starting.{all_unknown, cell_goes}
use Rattle.mem_gather.proofs.starts.started_words.Goals as goal

pub loop-init-init : goal.loop-init-init
loop-init-init c =
    all_unknown (nat_abs c.args.store.now.offset) (nat_abs c.args.store.now.size) c.args.store.now.width c.in_ok-words.words.items
    (c.in_ok-words.ensures.value ∙ ap (λ n. replicate n (replicate c.args.store.now.width X)) c.size_of-size.ensures.value)

pub loop-init-preserved : goal.loop-init-preserved
loop-init-preserved c =
    cell_goes c.offset_of-base.result (nat_abs c.args.store.now.offset) (nat_abs c.args.store.now.size) c.args.store.now.width c.args.inits.now c.loop-init.init-index c.init-item.result c.cell.result.now c.loop-init.words.items c.put_cell.new.words.items
    c.offset_of-base.ensures.value c.cell.ensures.value c.loop-init-test.true c.init-item.is c.in_ok-put_cell.ensures.ok c.loop-init.invariant

pub returns : goal.returns
returns c = record {
  value =
      c.loop-init.invariant
      ∙ ap (λ cs. table (nat_abs c.args.store.now.offset) (nat_abs c.args.store.now.size) c.args.store.now.width (started c.args.store.now.width cs))
      (take_all c.loop-init.init-index c.args.inits.now (omega (arith, c.loop-init-test.false)));
}
