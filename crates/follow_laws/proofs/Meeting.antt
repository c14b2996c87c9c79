-- Rows in pairs that give the same: the one are met where the others are, and tight where they are.
use Rattle.std.proofs.Common.{List, sym, subst}
use Rattle.rtl_bits.specs.Knowledge.{Below}
use Rattle.rtl_bits.proofs.Orders.{Below_trans}
use Rattle.rtl_ir.specs.Flat.Driver.{Driven}
use Rattle.rtl_ir.specs.Flat.Place.{Place}
use Rattle.net_model.specs.Lists.{In}
use Rattle.net_model.specs.Refine.{IsMet, IsTight, Solved}
use Rattle.net_model.specs.Run.{Time}
use Rattle.net_model.specs.Valuation.{Valuation}
use Rattle.net_model.specs.Value.{value_of}
use Rattle.follow_laws.specs.Alike.{DriveAlike, InPairs, SameBit}
use Rattle.follow_laws.proofs.Pairs.{pairs_turned, partner}

module _ (t : Time Place) (w : Valuation) where
  -- rows of the same bits give the same
  abbrev pub RowsAlike : List Driven → List Driven → Type 0
  RowsAlike ds es = InPairs (SameBit (DriveAlike t w)) ds es

  pub rows_turned : (ds es : List Driven) → RowsAlike ds es → RowsAlike es ds
  rows_turned ds es h =
      pairs_turned (SameBit (DriveAlike t w)) (SameBit (DriveAlike t w)) (λ x y k. (sym k.0, record { there = k.1.back; back = k.1.there })) ds es h

  pub met_by : (ds es : List Driven) → RowsAlike ds es → ((e : Driven) → In e es → IsMet e t w) → (d : Driven) → In d ds → IsMet d t w
  met_by ds es h met d i =
      let k = partner (SameBit (DriveAlike t w)) ds es h d i in
      let low : Below (value_of d.driver t w) (w k.0.place) = Below_trans (value_of d.driver t w) (value_of k.0.driver t w) (w k.0.place) k.2.1.there (met k.0 k.1) in
      subst (λ q. Below (value_of d.driver t w) (w q)) (sym k.2.0) low

  pub tight_by : (ds es : List Driven) → RowsAlike ds es → ((e : Driven) → In e es → IsTight e t w) → (d : Driven) → In d ds → IsTight d t w
  tight_by ds es h tight d i =
      let k = partner (SameBit (DriveAlike t w)) ds es h d i in
      let high : Below (w k.0.place) (value_of d.driver t w) = Below_trans (w k.0.place) (value_of k.0.driver t w) (value_of d.driver t w) (tight k.0 k.1) k.2.1.back in
      subst (λ q. Below (w q) (value_of d.driver t w)) (sym k.2.0) high

  -- so the one are solved where the others are
  pub solved_by : (ds es : List Driven) → RowsAlike ds es → Solved es t w → Solved ds t w
  solved_by ds es h s = record { met = met_by ds es h s.met; tight = tight_by ds es h s.tight }
