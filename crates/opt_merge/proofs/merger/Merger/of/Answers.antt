use Rattle.std.proofs.Common.{None, Some, ◌∙◌, ap, length, refl, replicate}
use Rattle.rtl_ir.specs.Starts.{inits_of}
use Rattle.opt_merge.proofs.Stepping.{state_start}
use Rattle.opt_merge.proofs.merger.Merger.of.Goals as goal

pub returns : goal.returns
returns c = record {
  state = λ once.
      state_start _ c.args.module.now.wires c.args.module.now.links c.args.module.now.cells
      (record { inits = c.in_ok-inits.ensures.value ∙ ap inits_of c.as_slice.ensures.value; aliases = c.readers_of.ensures.keeps c.args.module.now.links c.in_ok-of.ensures.value })
      c.of-2.ensures.none
      (c.in_ok-vec.ensures.items_if_clones_equal (elim [ None ↦ λ h. refl | Some x ↦ λ h. absurd h ]) ∙ ap (λ cs. replicate (length cs) None) c.as_slice-2.ensures.value)
      (c.in_ok-vec-2.ensures.items_if_clones_equal (λ y e. e) ∙ ap (λ cs. replicate (length cs) 0) c.as_slice-3.ensures.value)
      c.new.ensures.items (c.in_ok-readers.ensures.value c.args.module.now.links c.in_ok-of.ensures.value) c.in_ok-copy.ensures.value once;
}
