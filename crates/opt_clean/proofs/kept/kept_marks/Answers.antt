use Rattle.std.proofs.Common.{◌≡◌, ◌∙◌, ap, subst, sym, length, refl, false, [], replicate}
use Rattle.opt_clean.specs.Kept.{right_bits}
use Rattle.opt_clean.specs.Linked.{cell_places}
use Rattle.opt_clean.specs.Marking.{IsMarking, Marking, mark_places, marking_of, root_places}
use Rattle.opt_clean.proofs.MarksKept.{from_none}
use Rattle.opt_clean.proofs.kept.kept_marks.Goals as goal

pub returns : goal.returns
returns c = record {
  value = λ ports m wires are is shown drives.
      let cells = c.args.cells.now in
      let links = c.args.links.now in
      let none : Marking = record { marks = replicate (length cells) false; order = [] } in
      let begin : marking_of c.in_ok-marks.marks ≡ none = λ i. record { marks = c.in_ok-marks.ensures.marks i; order = c.in_ok-marks.ensures.order i } in
      let roots : marking_of c.mark_roots.new.self ≡ mark_places none (root_places ports wires 0 cells) = c.in_ok-mark_roots.ensures.value ports wires are shown ∙ ap (λ s. mark_places s (root_places ports wires 0 cells)) begin in
      let both : marking_of c.mark_links.new.self ≡ mark_places (mark_places none (root_places ports wires 0 cells)) (cell_places ports m (right_bits links)) = c.in_ok-mark_links.ensures.value ports m is ∙ ap (λ s. mark_places s (cell_places ports m (right_bits links))) roots in
      from_none ports m wires links cells drives (marking_of c.mark_rest.new.self) (length cells) refl (λ kept initial reads start. c.in_ok-mark_rest.ensures.value ports m kept initial are is reads (subst (λ s. IsMarking ports m cells kept initial s 0) (sym both) start));
}
