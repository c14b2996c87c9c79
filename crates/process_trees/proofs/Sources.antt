-- What lines give a bit.
use Rattle.std.proofs.Common.{◌≡◌, List, [], ◌∷◌, ◌++◌, Option, Some, None, if◌then◌else◌, refl, ◌∙◌, ap}
use Rattle.std.specs.Option.{option_or}
use Rattle.rtl_sig.specs.declared.sig.SigBit.{SigBit}
use Rattle.rtl_sig.specs.declared.sig.SigBit.TheVariants.{Fixed, Wire as OnWire}
use Rattle.rtl_sig.specs.declared.sig.WireBit.{WireBit}
use Rattle.rtl_ir.specs.Assigns.{last_source}
use Rattle.rtl_ir.specs.Follow.{joins}
use Rattle.rtl_ir.specs.declared.follow.Join.{Join}
use Rattle.rtl_ir.specs.Signals.{same_bit}
use Rattle.process_trees.specs.Lines.{is_bit}

or_none : (o : Option SigBit) → o ≡ option_or o None
or_none None = refl
or_none (Some s) = refl

or_again : (a b c : Option SigBit) → option_or (option_or a b) c ≡ option_or a (option_or b c)
or_again None b c = refl
or_again (Some s) b c = refl

-- the first place counts where none behind it names the bit
pub place_first : (l r : SigBit) (ls rs : List SigBit) (b : WireBit) → last_source (joins (l ∷ ls) (r ∷ rs)) b ≡ option_or (last_source (joins ls rs) b) (if is_bit l b then Some r else None)
place_first (Fixed c) r ls rs b = or_none (last_source (joins ls rs) b)
place_first (OnWire a) r ls rs b = refl

pub source_append : (xs ys : List Join) (b : WireBit) → last_source (xs ++ ys) b ≡ option_or (last_source ys b) (last_source xs b)
source_append [] ys b = or_none (last_source ys b)
source_append (x ∷ xs) ys b =
    ap (λ o. option_or o (if same_bit x.bit b then Some x.source else None)) (source_append xs ys b)
    ∙ or_again (last_source ys b) (last_source xs b) (if same_bit x.bit b then Some x.source else None)
