use Rattle.std.proofs.Common.{arith, ◌≡◌, ℕ, ◌+◌, ◌-◌, ◌∙◌, ap, subst, sym, take, drop}
use Rattle.rtl_lex.specs.declared.place.Place.{Place}
use Rattle.rtl_lex.specs.Place.{moved, IsPlaceIn}
use Rattle.rtl_lex.proofs.Places.{IsPlaceIn_forward}
use Rattle.rtl_lex.proofs.place.forward.Goals as goal

pub returns-clause-place : goal.returns-clause-place
returns-clause-place c =
    let count : c.args.from.at + c.args.count - c.args.from.at ≡ c.args.count = omega arith in
    let there : c.moved.result ≡ moved c.args.from (take c.args.count (drop c.args.from.at c.args.text.now)) = c.moved.ensures ∙ ap (λ (k : ℕ). moved c.args.from (take k (drop c.args.from.at c.args.text.now))) count in
    subst (IsPlaceIn c.args.text.now) (sym there) (IsPlaceIn_forward _ _ _ c.requires.place c.requires.within).0

pub returns-clause-at : goal.returns-clause-at
returns-clause-at c =
    let count : c.args.from.at + c.args.count - c.args.from.at ≡ c.args.count = omega arith in
    let there : c.moved.result ≡ moved c.args.from (take c.args.count (drop c.args.from.at c.args.text.now)) = c.moved.ensures ∙ ap (λ (k : ℕ). moved c.args.from (take k (drop c.args.from.at c.args.text.now))) count in
    ap (λ (s : Place). s.at) there ∙ (IsPlaceIn_forward _ _ _ c.requires.place c.requires.within).1
