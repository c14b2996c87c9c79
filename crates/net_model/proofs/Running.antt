-- A relation that the rows of one list keep against what another list settles to is kept over whole runs.
use Rattle.std.proofs.Common.{◌≡◌, ℕ, zero, suc, Bool, true, false, List, [], ◌∷◌, ◌++◌, length, refl, sym, subst}
use Rattle.std.specs.Prelude.{map}
use Rattle.rtl_bits.specs.declared.bit.Bit.{Bit}
use Rattle.rtl_bits.specs.declared.bit.Bit.TheVariants.{X}
use Rattle.rtl_bits.specs.Knowledge.{AreBelow, FlatBelow}
use Rattle.rtl_bits.proofs.Keeping.{flat_kept}
use Rattle.net_model.specs.declared.order.Order.{Order}
use Rattle.net_model.specs.Lists.{In, Distinct}
use Rattle.net_model.specs.Order.{Manner}
use Rattle.net_model.specs.Settle.{bits_of, KeepsOrder, AreMonotone, IsSame, applied, rounds, settled}
use Rattle.net_model.specs.Run.{Time, Start, Step, Drive, row_at, rows_at, settle, trace, run, TraceBelow}
use Rattle.net_model.proofs.Members.{In-map, In-mapped, map-append, map-map}
use Rattle.net_model.proofs.Settling.{settled_at}

-- the bits of drives
abbrev pub driven_bits : {B : Type 0} → List (Drive B) → List B
driven_bits drives = map (λ d. d.bit) drives

-- each drive keeps an order at each time
abbrev pub AlwaysMonotone : {B : Type 0} → (Bit → Bit → Type 0) → List (Drive B) → Type 0
AlwaysMonotone {B} order ds = (d : Drive B) → In d ds → (t : Time B) → KeepsOrder order (d.value t)

-- each bit has exactly what its drive gives
pub record Solves {B : Type 0} (ds : List (Drive B)) (t : Time B) (w : B → Bit) : Type 0 where
  pub at : (d : Drive B) → In d ds → d.value t w ≡ w d.bit

module _ {B : Type 0} where
  pub rows_monotone : (order : Bit → Bit → Type 0) (t : Time B) (ds : List (Drive B)) → AlwaysMonotone order ds → AreMonotone order (rows_at t ds)
  rows_monotone order t ds m r i =
      let k = In-mapped (row_at t) r ds i in
      subst (λ z. KeepsOrder order z.value) (sym k.2) (m k.0 k.1 t)

module _ {B : Type 0} (same : B → B → Bool) (is_same : IsSame same) where
  -- what is settled solves the drives whose bits stand once, whatever stands behind them
  pub settle_solves : (ds more : List (Drive B)) → AlwaysMonotone FlatBelow (ds ++ more) → Distinct (driven_bits ds) → (t : Time B) → Solves ds t (settle same (ds ++ more) t)
  settle_solves ds more m u t =
      let parts : rows_at t (ds ++ more) ≡ rows_at t ds ++ rows_at t more = map-append (row_at t) ds more in
      let mono : AreMonotone FlatBelow (rows_at t ds ++ rows_at t more) = subst (AreMonotone FlatBelow) parts (rows_monotone FlatBelow t (ds ++ more) m) in
      let apart : Distinct (bits_of (rows_at t ds)) = subst Distinct (sym (map-map (row_at t) (λ r. r.bit) ds)) u in
      record { at = λ d i. subst (λ z. d.value t (settled same z) ≡ settled same z d.bit) (sym parts) (settled_at same is_same flat_kept (rows_at t ds) (rows_at t more) mono apart (row_at t d) (In-map (row_at t) d ds i)) }

module _ {B C : Type 0} (R : (B → Bit) → (C → Bit) → Type 0) (Q : Bool → (C → Bit) → Type 0) where
  -- the same step in two runs; Q is what is known of the second valuation before it
  abbrev pub SameTime : Time B → Time C → Type 0
  SameTime Start Start = Unit {0}
  SameTime (Step v x f) (Step w y g) = R v w × Q g.first w × (x ≡ y) × (f ≡ g)
  SameTime Start (Step w y g) = ⊥
  SameTime (Step v x f) Start = ⊥

module _ {B C : Type 0} (same : B → B → Bool) (same' : C → C → Bool) (is_same' : IsSame same') (R : (B → Bit) → (C → Bit) → Type 0) (Q : Bool → (C → Bit) → Type 0) (ds : List (Drive B)) (es more : List (Drive C)) (outs : List B) (outs' : List C) (mono : AlwaysMonotone FlatBelow (es ++ more)) (distinct : Distinct (driven_bits es)) (begins : (w : C → Bit) → Solves es Start w → Q true w) (goes : (v : C → Bit) (x : List Bit) (f : Manner) (w : C → Bit) → Q f.first v → Solves es (Step v x f) w → Q false w) (none : (w : C → Bit) → R (λ b. X) w) (kept : (t : Time B) (u : Time C) → SameTime R Q t u → (v : B → Bit) (w : C → Bit) → Solves es u w → R v w → R (applied same (rows_at t ds) v) w) (seen : (v : B → Bit) (w : C → Bit) → R v w → AreBelow (map v outs) (map w outs')) where
  settle_keeps : (t : Time B) (u : Time C) → SameTime R Q t u → R (settle same ds t) (settle same' (es ++ more) u)
  settle_keeps t u st =
      rounds_keep_all (length (rows_at t ds))
    where
      w : C → Bit
      w = settle same' (es ++ more) u

      rounds_keep_all : (n : ℕ) → R (rounds same (rows_at t ds) n) w
      rounds_keep_all zero = none w
      rounds_keep_all (suc n) = kept t u st (rounds same (rows_at t ds) n) w (settle_solves same' is_same' es more mono distinct u) (rounds_keep_all n)

  trace_below : (order : Order) (v : B → Bit) (w : C → Bit) (first : Bool) → R v w → Q first w → (xs : List (List Bit)) → TraceBelow (trace same ds outs order v first xs) (trace same' (es ++ more) outs' order w first xs)
  trace_below order v w first r q [] = tt
  trace_below order v w first r q (x ∷ xs) =
      let manner : Manner = record { first = first; order = order } in
      let k = settle_keeps (Step v x manner) (Step w x manner) (r, q, refl, refl) in
      let s = settle_solves same' is_same' es more mono distinct (Step w x manner) in
      (seen _ _ k, trace_below order (settle same ds (Step v x manner)) (settle same' (es ++ more) (Step w x manner)) false k (goes w x manner (settle same' (es ++ more) (Step w x manner)) q s) xs)

  pub run_below : (order : Order) (stimulus : List (List Bit)) → TraceBelow (run same ds outs order stimulus) (run same' (es ++ more) outs' order stimulus)
  run_below order stimulus =
      trace_below order (settle same ds Start) (settle same' (es ++ more) Start) true (settle_keeps Start Start tt) (begins (settle same' (es ++ more) Start) (settle_solves same' is_same' es more mono distinct Start)) stimulus
