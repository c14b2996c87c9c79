-- Another cell stands in the module.
use Rattle.std.proofs.Common.{◌≡◌, ℕ, List, Option, Some, None, ◌⊎◌}
use Rattle.std.specs.Prelude.{flat_map}
use Rattle.rtl_sig.specs.declared.sig.WireBit.{WireBit}
use Rattle.rtl_ir.specs.Flat.Cell.{listed}
use Rattle.rtl_ir.specs.declared.cell.Cell.{Cell}
use Rattle.net_model.specs.Lists.{In}
use Rattle.opt_expr.specs.Places.{other_at, place_from}
use Rattle.opt_expr.proofs.Others.{other_in}
use Rattle.opt_more.specs.Others.{other_of}

-- it has not gone, or is in the rest
pub other_among : (cells : List Cell) (done : List (Option Cell)) (rest : List Cell) (b : WireBit) (e : Cell) → other_of cells done rest b ≡ Some e → In e (flat_map listed done) ⊎ In e rest
other_among cells done rest b e h = by (place_from 0 cells b) h
  where
    by : (o : Option ℕ) → other_at done rest o ≡ Some e → In e (flat_map listed done) ⊎ In e rest
    by None f = absurd (cc)
    by (Some at) f = other_in done rest at e f
