use Rattle.std.proofs.Common.{◌≡◌, ◌∙◌, Some, ap, get_or, subst, sym}
use Rattle.std.specs.Prelude.{option_map}
use Rattle.std.proofs.lemmas.Option.{get_or_from_slice_get}
use Rattle.rtl_ir.specs.declared.plan.MemPlan.{MemPlan}
use Rattle.rtl_ir.specs.declared.store.Store.{Store}
use Rattle.rtl_ir.specs.Flat.Access.{accesses_of}
use Rattle.rtl_ir.specs.Flat.Memory.{init_cells, word_rows}
use Rattle.net_model.specs.Mem.Gather.{gathered}
use Rattle.flat_net.specs.Adds.{Adds}
use Rattle.flat_net.specs.Memories.{read_rows}
use Rattle.flat_net.proofs.Adding.{Adds-then}
use Rattle.flat_net.proofs.Fetching.{reads_same}
use Rattle.flat_net.proofs.Kept.{within-Keeps}
use Rattle.flat_net.proofs.Reading.{Extends-then}
use Rattle.flat_net.proofs.Results.{if_ok}
use Rattle.flat_net.proofs.builder.Builder.add_memory.Goals as goal

pub add_reads-requires : goal.add_reads-requires
add_reads-requires c = record { in_range = within-Keeps _ _ _ c.in_ok-add_words.ensures.grows.paths c.requires.in_range }

pub returns : goal.returns
returns c =
    let m = c.args.body.now in
    let wires = c.args.scope.now.wires.now in
    let at = c.args.at in
    let store = c.index-as_slice-at.result in
    let plan = c.in_ok-plan.plan in
    let grows = c.in_ok-add_words.ensures.grows in
    record {
      grows = if_ok c.add_reads.result c.add_reads.ensures.grows (λ _ f. Extends-then _ _ _ grows f);
      rows = λ p path s is.
          let here : store ≡ s = c.index-as_slice-at.is ∙ ap (λ ms. get_or ms at store) c.as_slice.ensures.value ∙ get_or_from_slice_get m.memories at s store is in
          let some : Some plan ≡ Some (gathered m at s) = c.in_ok-plan.ensures.exact ∙ ap (option_map (gathered m at)) is in
          let exact : plan ≡ gathered m at s = cc in
          let place : at ≡ plan.store = sym (ap (λ (x : MemPlan). x.store) exact) in
          let planned : plan ≡ gathered m plan.store store = exact ∙ (λ i. gathered m (place i) (sym here i)) in
          let words = subst (λ (z : Store). Adds c.args.self.now c.add_words.new.self (word_rows p wires z (accesses_of z.name m.cells m.processes) (init_cells z.name m.cells))) here (c.in_ok-add_words.ensures.rows p path planned) in
          let reads = c.as_slice-2.ensures.value ∙ ap (λ (x : MemPlan). x.reads) exact in
          let same = (λ i. read_rows p wires (here i) (reads i)) ∙ reads_same p wires s 0 m.cells in
          if_ok c.add_reads.result (c.add_reads.ensures.rows p (grows.paths _ _ path)) (λ _ added. Adds-then _ _ _ _ _ words (subst (Adds c.add_words.new.self c.add_reads.new.self) same added));
    }
