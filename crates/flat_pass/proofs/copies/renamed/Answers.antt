use Rattle.std.proofs.Common.{rules, ◌≡◌, ◌<◌, ◌∙◌, ap, sym, length, ℕ, List, Bor}
use Rattle.std.proofs.lemmas.List.{length-map}
use Rattle.std.proofs.lemmas.Result.{IfOk-weaker}
use Rattle.flat_pass.specs.ByName.{names_now}
use Rattle.flat_pass.specs.Copies.{renamed}
use Rattle.flat_pass.proofs.Firsts.{renamed_at, renamed_not, within_copies}
use Rattle.flat_pass.proofs.copies.renamed.Goals as goal

pub bounds-copies-at : goal.bounds-copies-at
bounds-copies-at c =
    let r = c.args.renames.now in
    within_copies (names_now r.memories.items) c.as_slice.result.now c.in-Some.at (length c.as_slice-copies.result.now) (c.in-Some.ensures.value (names_now r.memories.items) r.placed) (ap length c.as_slice-copies.ensures.value ∙ r.paired ∙ sym (length-map r.memories.items (λ (n : Bor (List ℕ)). n.now)))

pub offset_bounds-copies-at : goal.offset_bounds-copies-at
offset_bounds-copies-at c =
    let r = c.args.renames.now in
    let inside : c.in-Some.at < length c.as_slice-copies.result.now = within_copies (names_now r.memories.items) c.as_slice.result.now c.in-Some.at (length c.as_slice-copies.result.now) (c.in-Some.ensures.value (names_now r.memories.items) r.placed) (ap length c.as_slice-copies.ensures.value ∙ r.paired ∙ sym (length-map r.memories.items (λ (n : Bor (List ℕ)). n.now))) in
    search (rules, inside)

pub returns-in-Some : goal.returns-in-Some
returns-in-Some c =
    let r = c.args.renames.now in
    let found = c.in-Some.ensures.value (names_now r.memories.items) r.placed in
    let inside : c.in-Some.at < length c.as_slice-copies.result.now = within_copies (names_now r.memories.items) c.as_slice.result.now c.in-Some.at (length c.as_slice-copies.result.now) found (ap length c.as_slice-copies.ensures.value ∙ r.paired ∙ sym (length-map r.memories.items (λ (n : Bor (List ℕ)). n.now))) in
    record {
      value = IfOk-weaker c.copy.result (λ copy. copy ≡ c.index-copies-at.result) (λ copy. copy ≡ renamed (names_now r.memories.items) r.copies c.args.name.now) (λ copy e. e ∙ renamed_at (names_now r.memories.items) c.as_slice-copies.result.now c.args.name.now c.as_slice.result.now c.in-Some.at c.index-copies-at.result c.as_slice.ensures.value found inside c.index-copies-at.is ∙ ap (λ z. renamed (names_now r.memories.items) z c.args.name.now) c.as_slice-copies.ensures.value) c.copy.ensures.value;
    }

pub returns-in-None : goal.returns-in-None
returns-in-None c =
    let r = c.args.renames.now in
    record {
      value = IfOk-weaker c.copy-in-None.result (λ copy. copy ≡ c.args.name.now) (λ copy. copy ≡ renamed (names_now r.memories.items) r.copies c.args.name.now) (λ copy e. e ∙ renamed_not (names_now r.memories.items) r.copies c.args.name.now c.as_slice.result.now c.as_slice.ensures.value (c.in-None.ensures.value (names_now r.memories.items) r.placed)) c.copy-in-None.ensures.value;
    }
