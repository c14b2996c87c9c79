use Rattle.std.proofs.Common.{◌≡◌, ◌∙◌, ◌+◌, ◌++◌, ◌∷◌, [], None, ap, arith, length, sym}
use Rattle.std.specs.List.{position, position_or_len}
use Rattle.std.specs.Str.{bytes_eq}
use Rattle.std.proofs.lemmas.List.{nil_from_length}
use Rattle.rtl_read.proofs.Fewer.{added, kept, numbered, numbered_on, on_ok, passed, sum_is}
use Rattle.rtl_read.proofs.few_names.FewNames.intern.Goals as goal

pub returns-in-Some-clause-number : goal.returns-in-Some-clause-number
returns-in-Some-clause-number c =
    let p = bytes_eq c.args.name.now in
    rw (← c.self.view_is) (numbered p c.self.inside.first.items c.self.inside.others c.in-Some.at (sym (c.in-Some.ensures.value ∙ ap (position p) c.as_slice.ensures.value)))

pub returns-in-Some-clause-names : goal.returns-in-Some-clause-names
returns-in-Some-clause-names c =
    let p = bytes_eq c.args.name.now in
    rw (← c.self.view_is) (kept p c.self.inside.first.items c.self.inside.others c.args.name.now c.in-Some.at (sym (c.in-Some.ensures.value ∙ ap (position p) c.as_slice.ensures.value)))

pub returns-then-count-eq0-clause-number : goal.returns-then-count-eq0-clause-number
returns-then-count-eq0-clause-number c =
    let p = bytes_eq c.args.name.now in
    let miss : position p c.self.inside.first.items ≡ None = sym (c.in_default.ensures.value ∙ ap (position p) c.as_slice.ensures.value) in
    let none : c.self.inside.others ≡ [] = nil_from_length c.self.inside.others (sym c.count.ensures.value ∙ c.if-count-eq0.true) in
    let zero : position_or_len p c.self.inside.others ≡ 0 = ap (position_or_len p) none in
    rw (← c.self.view_is) (numbered_on p c.self.inside.first.items c.self.inside.others c.len-count.result miss (omega (arith, c.len-count.ensures, zero)))

pub returns-then-count-eq0-clause-names : goal.returns-then-count-eq0-clause-names
returns-then-count-eq0-clause-names c =
    let p = bytes_eq c.args.name.now in
    let miss : position p c.self.inside.first.items ≡ None = sym (c.in_default.ensures.value ∙ ap (position p) c.as_slice.ensures.value) in
    let none : c.self.inside.others ≡ [] = nil_from_length c.self.inside.others (sym c.count.ensures.value ∙ c.if-count-eq0.true) in
    rw (← c.self.view_is)
    (ap (λ xs. xs ++ c.self.inside.others) (c.in_ok-push.ensures.items ∙ ap (λ x. c.self.inside.first.items ++ x ∷ []) c.in_ok-from_slice.ensures.value)
    ∙ added p c.self.inside.first.items c.self.inside.others c.args.name.now miss none)

pub returns-clause-number : goal.returns-clause-number
returns-clause-number c =
    let p = bytes_eq c.args.name.now in
    let miss : position p c.self.inside.first.items ≡ None = sym (c.in_default.ensures.value ∙ ap (position p) c.as_slice.ensures.value) in
    let count : c.len-count.result ≡ length c.self.inside.first.items = omega (arith, c.len-count.ensures, c.self.inside.first.ok.0) in
    sum_is c.checked_add.result _ _ _ _ _ c.checked_add.ensures c.ok_or.ensures.value
    (rw (← c.self.view_is) (numbered_on p c.self.inside.first.items c.self.inside.others _ miss
    (ap (λ n. n + c.in_ok-id.id.index) count ∙ ap (λ n. length c.self.inside.first.items + n) c.in_ok-id.ensures.number)))

pub returns-clause-names : goal.returns-clause-names
returns-clause-names c =
    let p = bytes_eq c.args.name.now in
    let miss : position p c.self.inside.first.items ≡ None = sym (c.in_default.ensures.value ∙ ap (position p) c.as_slice.ensures.value) in
    on_ok c.ok_or.result _ (rw (← c.self.view_is) (passed p c.self.inside.first.items c.self.inside.others c.intern.new.self c.args.name.now miss c.in_ok-id.ensures.names))
