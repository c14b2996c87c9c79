use Rattle.std.proofs.Common.{false, refl, sym, subst, arith}
use Rattle.rtl_lex.specs.declared.place.Place.{Place}
use Rattle.design_edit.proofs.Seeking.{Seeks, seeks_begin}
use Rattle.design_edit.proofs.place.module_place.Goals as goal

pub loop-next-init : goal.loop-next-init
loop-next-init c =
    subst (λ (from : Place). Seeks c.args.text.now c.args.number from false c.args.number) (sym c.start-from.ensures.value)
    (seeks_begin c.args.text.now c.args.number record { within = omega arith; is = refl })
