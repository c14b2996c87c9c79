-- The laws of settling, of rows of the flat netlist.
use Rattle.std.proofs.Common.{◌≡◌, List, ◌++◌, sym, ap, subst}
use Rattle.rtl_bits.specs.declared.bit.Bit.{Bit}
use Rattle.rtl_bits.specs.Knowledge.{Below, FlatBelow}
use Rattle.rtl_bits.proofs.Keeping.{flat_kept}
use Rattle.rtl_bits.proofs.Orders.{FlatBelow_antisym}
use Rattle.rtl_ir.specs.declared.module.Design.{Design}
use Rattle.rtl_ir.specs.declared.module.Module.{Module}
use Rattle.rtl_ir.specs.Flat.Driver.{Driven}
use Rattle.rtl_ir.specs.Flat.Place.{Place, place_same}
use Rattle.rtl_ir.specs.Flat.Tree.{driven_rows, undriven_rows, tree_points, places, root, flat}
use Rattle.net_model.specs.Lists.{In, Distinct}
use Rattle.net_model.specs.Settle.{Pointwise, AreMonotone, applied}
use Rattle.net_model.specs.Run.{Time, row_at, rows_at, settle}
use Rattle.net_model.specs.Valuation.{Valuation}
use Rattle.net_model.specs.Value.{value_of, meaning, meanings}
use Rattle.net_model.specs.Refine.{HasOneDriver}
use Rattle.net_model.proofs.Members.{In-map, In-mapped, map-append, map-map}
use Rattle.net_model.proofs.Settling.{settled_least, settled_stable}
use Rattle.net_model.proofs.Running.{AlwaysMonotone, Solves, rows_monotone, settle_solves}
use Rattle.net_model.proofs.Places.{place_same-same}
use Rattle.net_model.proofs.Orders.{Kept, below as below_order, flat as flat_order}
use Rattle.net_model.proofs.Drivers.{meanings_kept, value_kept, time_refl}

monotone : (order : Bit → Bit → Type 0) → Kept order → (rows : List Driven) (t : Time Place) → AreMonotone order (rows_at t (meanings rows))
monotone order k rows t = rows_monotone order t (meanings rows) (meanings_kept order k rows)

pub stable : (rows : List Driven) (t : Time Place) (q : Place) → applied place_same (rows_at t (meanings rows)) (settle place_same (meanings rows) t) q ≡ settle place_same (meanings rows) t q
stable rows t q =
    ap (λ z. z q) (settled_stable place_same place_same-same flat_kept (rows_at t (meanings rows)) (monotone FlatBelow flat_order rows t))

least : (order : Bit → Bit → Type 0) → Kept order → (rows : List Driven) (t : Time Place) (w : Valuation) → ((row : Driven) → In row rows → order (value_of row.driver t w) (w row.place)) → Pointwise order (settle place_same (meanings rows) t) w
least order k rows t w h =
    settled_least place_same place_same-same order k.bits (rows_at t (meanings rows)) (monotone order k rows t) w (λ r i. let m = In-mapped (λ z. row_at t (meaning z)) r rows (subst (In r) (map-map meaning (row_at t) rows) i) in subst (λ z. order (z.value w) (w z.bit)) (sym m.2) (h m.0 m.1))

pub least_below : (rows : List Driven) (t : Time Place) (w : Valuation) → ((row : Driven) → In row rows → Below (value_of row.driver t w) (w row.place)) → Pointwise Below (settle place_same (meanings rows) t) w
least_below = least Below below_order

pub least_flat : (rows : List Driven) (t : Time Place) (w : Valuation) → ((row : Driven) → In row rows → FlatBelow (value_of row.driver t w) (w row.place)) → Pointwise FlatBelow (settle place_same (meanings rows) t) w
least_flat = least FlatBelow flat_order

pub solution : (d : Design) → HasOneDriver d → (m : Module) → In m d.modules → (t : Time Place) (row : Driven) → In row (driven_rows d m) → value_of row.driver t (settle place_same (meanings (flat d m)) t) ≡ settle place_same (meanings (flat d m)) t row.place
solution d h m i t row j =
    let more : List Driven = undriven_rows (driven_rows d m) (places (tree_points d (root m) m)) in
    let parts : meanings (flat d m) ≡ meanings (driven_rows d m) ++ meanings more = map-append meaning (driven_rows d m) more in
    let solves : Solves (meanings (driven_rows d m)) t (settle place_same (meanings (driven_rows d m) ++ meanings more) t) = settle_solves place_same place_same-same (meanings (driven_rows d m)) (meanings more) (subst (λ z. AlwaysMonotone FlatBelow z) parts (meanings_kept FlatBelow flat_order (flat d m))) (subst Distinct (sym (map-map meaning (λ z. z.bit) (driven_rows d m))) (h.rows m i)) t in
    subst (λ z. value_of row.driver t (settle place_same z t) ≡ settle place_same z t row.place) (sym parts) (solves.at (meaning row) (In-map meaning row (driven_rows d m) j))

-- a valuation that is not above what is settled in the flat order, and above what the drivers give from it, is what is settled
pub reached : (rows : List Driven) (t : Time Place) (v : Valuation) → Pointwise FlatBelow v (settle place_same (meanings rows) t) → ((row : Driven) → In row rows → FlatBelow (value_of row.driver t v) (v row.place)) → (q : Place) → v q ≡ settle place_same (meanings rows) t q
reached rows t v h above q = FlatBelow_antisym (v q) (settle place_same (meanings rows) t q) (h q) (least_flat rows t v above q)

-- applying a driver to such a valuation does not lead beyond what is settled
pub stays_below : (d : Design) → HasOneDriver d → (m : Module) → In m d.modules → (t : Time Place) (v : Valuation) → Pointwise FlatBelow v (settle place_same (meanings (flat d m)) t) → (row : Driven) → In row (driven_rows d m) → FlatBelow (value_of row.driver t v) (settle place_same (meanings (flat d m)) t row.place)
stays_below d h m i t v below row j =
    subst (FlatBelow (value_of row.driver t v)) (solution d h m i t row j) (value_kept FlatBelow flat_order row.driver t t (time_refl FlatBelow flat_order t) v (settle place_same (meanings (flat d m)) t) below)
