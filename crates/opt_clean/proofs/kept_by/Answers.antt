use Rattle.std.proofs.Common.{◌≡◌, ◌∙◌, List, ap, length, map, subst, sym}
use Rattle.std.specs.Prelude.{◌&&◌}
use Rattle.std.proofs.lemmas.Bool.{and_parts}
use Rattle.rtl_ir.specs.declared.cell.Cell.{Cell}
use Rattle.rtl_ir.specs.declared.module.Module.{Module}
use Rattle.opt_clean.specs.Keep.{is_shown}
use Rattle.opt_clean.specs.Kept.{kept_marks, marked}
use Rattle.opt_clean.specs.Linked.{Drives}
use Rattle.follow_laws.specs.Inputs.{followed_cell}
use Rattle.opt_clean.proofs.Staying.{marked_same}
use Rattle.opt_clean.proofs.Wholes.{links_are, reduced_from}
use Rattle.opt_clean.proofs.kept_by.Goals as goal

pub returns : goal.returns
returns c =
    let m : Module = c.args.module in
    let cells : List Cell = c.in_ok-all.all.value.items in
    let marks = c.in_ok-marks.marks.items in
    let left = c.in_ok-left.ensures.value ∙ ap (λ ts. marked ts cells) c.as_slice-5.ensures.value in
    record {
      exact = λ ports types is once.
          let links = c.in_ok-links.links.items in
          let seen : c.as_slice-2.result.now ≡ map is_shown m.wires = c.as_slice-2.ensures.value ∙ c.in_ok-shown.ensures.value ∙ ap (map is_shown) c.as_slice-wires.ensures.value in
          let linked = links_are ports m once links c.as_slice-wires.result.now c.as_slice-wires.ensures.value (c.in_ok-links.ensures.value ports m is) in
          let ended = c.in_ok-all.ensures.value ports m types is ∙ ap (map (followed_cell ports m.links)) c.into_vec.ensures.value in
          let marked_by = λ (drives : Drives ports m cells). c.in_ok-marks.ensures.value ports m m.wires types is seen (subst (Drives ports m) (sym c.as_slice-3.ensures.value) drives) ∙ (λ i. kept_marks ports m.wires (c.as_slice-4.ensures.value i) (c.as_slice-3.ensures.value i)) in
          (λ i. record m { cells = c.from_vec-cells.ensures.value i; links = c.from_vec-links.ensures.value i })
          ∙ reduced_from ports m once cells c.in_ok-left.left.items links marks ended linked marked_by left;
      same = λ e.
          let parts = and_parts (c.in_ok-all.all.is_same && c.has_count-has_all.result) c.same-has_same.result (sym c.are_all.ensures.value ∙ e) in
          let first = and_parts c.in_ok-all.all.is_same c.has_count-has_all.result parts.0 in
          let as_were : cells ≡ m.cells = c.in_ok-all.ensures.same first.0 ∙ c.into_vec.ensures.value in
          let count = c.has_count-has_all.ensures.equal first.1 ∙ c.count_of-count.ensures.value in
          let whole : marked marks cells ≡ cells = marked_same marks cells (ap length (sym left ∙ sym c.from_vec-cells.ensures.value) ∙ count ∙ ap length (sym as_were)) in
          let stay = c.from_vec-cells.ensures.value ∙ left ∙ whole ∙ as_were in
          let links = c.same-has_same.ensures.equal parts.1 in
          λ i. record m { cells = stay i; links = links i };
    }
