use Rattle.std.proofs.Common.{◌∙◌, ap, map, nat_abs}
use Rattle.rtl_bits.specs.Tables.{seen_of}
use Rattle.rtl_ir.specs.Flat.Memory.{init_cells}
use Rattle.mem_gather.specs.Tables.{started, table}
use Rattle.mem_gather.proofs.Starting.{if_ok, words_are}
use Rattle.mem_gather.proofs.starts.start_words.Goals as goal

pub returns : goal.returns
returns c = record {
  value =
      if_ok c.seen_words.result _ _
      (λ seen is.
      is
      ∙ ap (map (map seen_of)) (c.as_slice-3.ensures.value ∙ c.in_ok-words.ensures.value)
      ∙ ap (λ cs. map (map seen_of) (table (nat_abs c.args.store.now.offset) (nat_abs c.args.store.now.size) c.args.store.now.width (started c.args.store.now.width cs)))
      (c.as_slice-2.ensures.value ∙ c.in_ok-inits.ensures.value ∙ ap (λ n. init_cells n c.args.cells.now) c.as_slice.ensures.value)
      ∙ words_are c.args.store.now c.args.cells.now)
      c.seen_words.ensures.value;
}
