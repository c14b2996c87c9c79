use Rattle.std.proofs.Common.{◌≡◌, ◌∙◌, ◌++◌, ◌∷◌, [], None, ap, not, sym}
use Rattle.std.specs.Prelude.{is_some}
use Rattle.std.specs.List.{position}
use Rattle.std.specs.Str.{bytes_eq}
use Rattle.std.proofs.lemmas.List.{nil_from_length}
use Rattle.rtl_sig.specs.Names.{number_of, with_name}
use Rattle.rtl_read.proofs.Fewer.{added, beyond, kept, on_ok, passed, there}
use Rattle.rtl_read.proofs.few_names.FewNames.put_new.Goals as goal

pub returns-in-Some-clause-new : goal.returns-in-Some-clause-new
returns-in-Some-clause-new c =
    let p = bytes_eq c.args.name.now in
    let bytes = ap (λ b. position (bytes_eq b) c.self.inside.first.items) c.as_slice-bytes.ensures.value in
    let found = sym (c.in-Some.ensures.value ∙ ap (position (bytes_eq c.as_slice-bytes.result.now)) c.as_slice.ensures.value ∙ bytes) in
    rw (← c.self.view_is) (sym (ap not (there p c.self.inside.first.items c.self.inside.others c.in-Some._at found)))

pub returns-in-Some-clause-names : goal.returns-in-Some-clause-names
returns-in-Some-clause-names c =
    let p = bytes_eq c.args.name.now in
    let bytes = ap (λ b. position (bytes_eq b) c.self.inside.first.items) c.as_slice-bytes.ensures.value in
    let found = sym (c.in-Some.ensures.value ∙ ap (position (bytes_eq c.as_slice-bytes.result.now)) c.as_slice.ensures.value ∙ bytes) in
    rw (← c.self.view_is) (kept p c.self.inside.first.items c.self.inside.others c.args.name.now c.in-Some._at found)

pub returns-then-count-eq0-clause-new : goal.returns-then-count-eq0-clause-new
returns-then-count-eq0-clause-new c =
    let p = bytes_eq c.args.name.now in
    let bytes = ap (λ b. position (bytes_eq b) c.self.inside.first.items) c.as_slice-bytes.ensures.value in
    let miss : position p c.self.inside.first.items ≡ None = sym (c.in_default.ensures.value ∙ ap (position (bytes_eq c.as_slice-bytes.result.now)) c.as_slice.ensures.value ∙ bytes) in
    let none : c.self.inside.others ≡ [] = nil_from_length c.self.inside.others (sym c.count.ensures.value ∙ c.if-count-eq0.true) in
    rw (← c.self.view_is) (sym (ap not (beyond p c.self.inside.first.items c.self.inside.others miss ∙ ap (λ xs. is_some (position p xs)) none)))

pub returns-then-count-eq0-clause-names : goal.returns-then-count-eq0-clause-names
returns-then-count-eq0-clause-names c =
    let p = bytes_eq c.args.name.now in
    let bytes = ap (λ b. position (bytes_eq b) c.self.inside.first.items) c.as_slice-bytes.ensures.value in
    let miss : position p c.self.inside.first.items ≡ None = sym (c.in_default.ensures.value ∙ ap (position (bytes_eq c.as_slice-bytes.result.now)) c.as_slice.ensures.value ∙ bytes) in
    let none : c.self.inside.others ≡ [] = nil_from_length c.self.inside.others (sym c.count.ensures.value ∙ c.if-count-eq0.true) in
    rw (← c.self.view_is)
    (ap (λ xs. xs ++ c.self.inside.others) (c.in_ok-push.ensures.items ∙ ap (λ x. c.self.inside.first.items ++ x ∷ []) c.in_ok-copy.ensures.value)
    ∙ added p c.self.inside.first.items c.self.inside.others c.args.name.now miss none)

pub returns-clause-new : goal.returns-clause-new
returns-clause-new c =
    let p = bytes_eq c.args.name.now in
    let bytes = ap (λ b. position (bytes_eq b) c.self.inside.first.items) c.as_slice-bytes.ensures.value in
    let miss : position p c.self.inside.first.items ≡ None = sym (c.in_default.ensures.value ∙ ap (position (bytes_eq c.as_slice-bytes.result.now)) c.as_slice.ensures.value ∙ bytes) in
    let same = ap (λ b. not (is_some (position (bytes_eq b) c.self.inside.others))) c.as_slice-bytes.ensures.value in
    rw (← c.self.view_is) (c.in_ok-new.ensures.new ∙ same ∙ sym (ap not (beyond p c.self.inside.first.items c.self.inside.others miss)))

pub returns-clause-names : goal.returns-clause-names
returns-clause-names c =
    let p = bytes_eq c.args.name.now in
    let bytes = ap (λ b. position (bytes_eq b) c.self.inside.first.items) c.as_slice-bytes.ensures.value in
    let miss : position p c.self.inside.first.items ≡ None = sym (c.in_default.ensures.value ∙ ap (position (bytes_eq c.as_slice-bytes.result.now)) c.as_slice.ensures.value ∙ bytes) in
    let there = c.in_ok-new.ensures.names ∙ ap (with_name c.self.inside.others) c.as_slice-bytes.ensures.value in
    rw (← c.self.view_is) (passed p c.self.inside.first.items c.self.inside.others c.put_new.new.names c.args.name.now miss there)
