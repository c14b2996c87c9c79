use Rattle.std.proofs.Common.{◌≡◌, ◌∷◌, [], ◌++◌, List, sym, ◌∙◌, ap}
use Rattle.std.specs.Prelude.{slice_set}
use Rattle.rtl_ir.specs.declared.value.Attribute.{Attribute}
use Rattle.net_model.specs.Proc.Start.{with_attribute}
use Rattle.proc_tree.specs.Attributes.{place_of}
use Rattle.proc_tree.proofs.Placing.{put_at, put_last}
use Rattle.proc_tree.proofs.wires.with_attribute.Goals as goal
use Rattle.proc_tree.proofs.wires.with_attribute.Goals.{in-Some, in-None+in_ok-push-in-None}

pub returns : goal.returns
returns c =
    let all : c.into_vec-made.result.items ≡ c.args.attributes.now = c.into_vec-made.ensures.value ∙ c.in_ok-copy.ensures.value in
    let place : place_of c.as_slice-2.result.now c.as_slice.result.now ≡ place_of c.args.put.name c.args.attributes.now =
    (λ i. place_of (c.as_slice-2.ensures.value i) ((c.as_slice.ensures.value ∙ all) i)) in
    let made : c.match-place_of.made.items ≡ with_attribute c.args.put c.args.attributes.now =
    elim c.match-place_of.branch [
      | in-Some w ↦ (λ i. (w.made-is i).items) ∙ w.replace.ensures.value ∙ ap (λ (xs : List Attribute). slice_set xs w.in-Some.place c.args.put) all
          ∙ put_at c.args.put c.args.attributes.now w.in-Some.place (sym place ∙ sym w.in-Some.ensures.value)
      | in-None+in_ok-push-in-None w ↦ (λ i. (w.made-is i).items) ∙ w.in_ok-push-in-None.ensures.items ∙ ap (λ (xs : List Attribute). xs ++ c.args.put ∷ []) all
          ∙ put_last c.args.put c.args.attributes.now (sym place ∙ sym w.in-None.ensures.value)
    ] in
    record { value = c.from_vec.ensures.value ∙ made }
