use Rattle.std.proofs.Common.{refl, subst, sym}
use Rattle.rtl_lex.specs.Place.{IsPlaceIn}
use Rattle.rtl_lex.proofs.Places.{IsPlaceIn_forward, flat_forward}
use Rattle.rtl_lex.proofs.place.along.Goals as goal

pub returns-clause-moved : goal.returns-clause-moved
returns-clause-moved c = flat_forward c.args.text.now c.args.from _ c.args.count c.requires.within c.requires.flat refl

pub returns-clause-place : goal.returns-clause-place
returns-clause-place c =
    subst (IsPlaceIn c.args.text.now) (sym (flat_forward c.args.text.now c.args.from _ c.args.count c.requires.within c.requires.flat refl)) (IsPlaceIn_forward _ _ _ c.requires.place c.requires.within).0
