-- The least values that meet the rows that count are what a module settles to.
use Rattle.std.proofs.Common.{◌≡◌, List, length, sym, ◌∙◌, subst}
use Rattle.rtl_bits.specs.declared.bit.Bit.{Bit}
use Rattle.rtl_bits.specs.Knowledge.{FlatBelow}
use Rattle.rtl_bits.proofs.Keeping.{flat_kept}
use Rattle.rtl_bits.proofs.Orders.{FlatBelow_antisym, FlatBelow_from_equal, FlatBelow_trans}
use Rattle.rtl_ir.specs.declared.module.Design.{Design}
use Rattle.rtl_ir.specs.declared.module.Module.{Module}
use Rattle.rtl_ir.specs.Flat.Driver.{Driven}
use Rattle.rtl_ir.specs.Flat.Place.{Place, place_same}
use Rattle.rtl_ir.specs.Flat.Tree.{flat}
use Rattle.net_model.specs.Lists.{In}
use Rattle.net_model.specs.Run.{Time, row_at, rows_at, settle}
use Rattle.net_model.specs.Settle.{Pointwise}
use Rattle.net_model.specs.Valuation.{Valuation}
use Rattle.net_model.specs.Value.{meaning, meanings}
use Rattle.net_model.proofs.Drivers.{meanings_kept}
use Rattle.net_model.proofs.Members.{In-mapped, map-map}
use Rattle.net_model.proofs.Orders.{flat as flat_order}
use Rattle.net_model.proofs.Places.{place_same-same}
use Rattle.net_model.proofs.Running.{rows_monotone}
use Rattle.net_model.proofs.Settled.{stable}
use Rattle.net_model.proofs.Settling.{applied_keeps, applied_mono, rounds_keep}
use Rattle.sim_eval.specs.Advance.{AreLeast, AreMet}
use Rattle.sim_eval.specs.After.{settled_at}
use Rattle.sim_eval.specs.Shown.{shown}
use Rattle.sim_eval.specs.Sim.{AreCounting, applied_at}

-- a valuation that meets rows is above what they give
applied_met : (rows : List Driven) (t : Time Place) (v : Valuation) → AreMet rows t v → Pointwise FlatBelow (applied_at rows t v) v
applied_met rows t v h =
    applied_keeps place_same place_same-same (rows_at t (meanings rows)) v (λ b z. FlatBelow z (v b)) (λ b. tt) (λ r i.
    let m = In-mapped (λ z. row_at t (meaning z)) r rows (subst (In r) (map-map meaning (row_at t) rows) i) in
    subst (λ z. FlatBelow (z.value v) (v z.bit)) (sym m.2) (h m.0 m.1))

-- what rows settle to is below a valuation that is above what they give from it
least : (rows : List Driven) (t : Time Place) (w : Valuation) → Pointwise FlatBelow (applied_at rows t w) w → Pointwise FlatBelow (settle place_same (meanings rows) t) w
least rows t w h =
    rounds_keep place_same place_same-same (rows_at t (meanings rows)) (λ v. Pointwise FlatBelow v w) (λ b. tt) (λ v k b. FlatBelow_trans _ _ _ (applied_mono place_same place_same-same FlatBelow flat_kept (rows_at t (meanings rows)) (rows_monotone FlatBelow t (meanings rows) (meanings_kept FlatBelow flat_order rows)) v w k b) (h b)) (length (rows_at t (meanings rows)))

module _ (d : Design) (m : Module) (rows : List Driven) (counting : AreCounting d m rows) (t : Time Place) where
  -- what is settled meets the rows that count
  settled_meets : AreMet rows t (settled_at d m t)
  settled_meets r i =
      FlatBelow_from_equal _ _ (sym (counting.once r i t (settled_at d m t)) ∙ (counting.same t (settled_at d m t) r.place ∙ stable (flat d m) t r.place))

  pub least_settled : (ps : List Place) (values : List Bit) → AreLeast ps t rows values → shown ps values ≡ settled_at d m t
  least_settled ps values h =
      λ i q. at q i
    where
      v : Valuation
      v = shown ps values

      above : Pointwise FlatBelow (applied_at (flat d m) t v) v
      above q =
          subst (λ z. FlatBelow z (v q)) (counting.same t v q) (applied_met rows t v (h.met (settled_at d m t) settled_meets) q)

      at : (q : Place) → v q ≡ settled_at d m t q
      at q =
          FlatBelow_antisym (v q) (settled_at d m t q) (h.under (settled_at d m t) settled_meets q) (least (flat d m) t v above q)
