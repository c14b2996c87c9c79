-- Storage bits keep the orders of knowledge in either order of time.
use Rattle.std.proofs.Common.{◌≡◌, ℕ, Bool, true, false, refl}
use Rattle.rtl_bits.specs.declared.bit.Bit.{Bit}
use Rattle.rtl_bits.specs.declared.bit.Bit.TheVariants.{S0, S1, X}
use Rattle.rtl_bits.proofs.Keeping.{Keeps}
use Rattle.cell_types.specs.declared.level.Level.{Level}
use Rattle.cell_types.specs.declared.level.Level.TheVariants.{Low, High}
use Rattle.cell_types.specs.declared.levels.Levels.{Levels}
use Rattle.cell_types.specs.declared.shape.Shape.{Shape}
use Rattle.cell_types.specs.declared.storage.StorageKind.{StorageKind}
use Rattle.cell_types.specs.declared.storage.StorageKind.TheVariants.{Adff, Adffe, Aldff, Aldffe, Dffsr, Dffsre}
use Rattle.cell_gate.specs.declared.pins.Pins.{Pins}
use Rattle.cell_gate.specs.Control.{active_of, pick_of, was_of}
use Rattle.cell_gate.specs.Storage.{acting_of, clocked_of, enabled_of, set_or_cleared_of, store_bit_of, PinsBelow, IsPinMonotone}
use Rattle.cell_gate.specs.Store.{reset_at, storage_kind}
use Rattle.net_model.specs.declared.order.Order.{Order}
use Rattle.net_model.specs.declared.order.Order.TheVariants.{Together, Released}
use Rattle.net_model.specs.Order.{Manner, taken_of, released_of, were_of, stored_in, next_bit_of}

module _ (order : Bit → Bit → Type 0) (k : Keeps order) where
  -- the choice of a control keeps an order
  pick_kept : (c c' a a' b b' : Bit) → order c c' → order a a' → order b b' → order (pick_of c a b) (pick_of c' a' b')
  pick_kept c c' a a' b b' h i j = k.mux b b' a a' c c' j i h

  active_kept : (level : Level) (a b : Bit) → order a b → order (active_of level a) (active_of level b)
  active_kept High a b h = k.seen a b h
  active_kept Low a b h = k.not a b h

  was_kept : (first : Bool) (a b : Bit) → order a b → order (was_of first a) (was_of first b)
  was_kept true a b h = k.self X
  was_kept false a b h = h

  acting_kept : (levels : Levels) (p p' : Pins) → PinsBelow order p p' → PinsBelow order (acting_of levels p) (acting_of levels p')
  acting_kept levels p p' h = record {
    clk = active_kept levels.clk _ _ h.clk;
    en = active_kept levels.en _ _ h.en;
    arst = active_kept levels.arst _ _ h.arst;
    srst = active_kept levels.srst _ _ h.srst;
    aload = active_kept levels.aload _ _ h.aload;
    ad = h.ad;
    set = active_kept levels.set _ _ h.set;
    clr = active_kept levels.clr _ _ h.clr;
    d = h.d;
    q = h.q;
  }

  were_kept : (first : Bool) (p p' : Pins) → PinsBelow order p p' → PinsBelow order (were_of first p) (were_of first p')
  were_kept first p p' h = record {
    clk = was_kept first _ _ h.clk;
    en = h.en;
    arst = was_kept first _ _ h.arst;
    srst = h.srst;
    aload = was_kept first _ _ h.aload;
    ad = h.ad;
    set = was_kept first _ _ h.set;
    clr = was_kept first _ _ h.clr;
    d = h.d;
    q = h.q;
  }

  module _ (p p' n n' : Pins) (h : PinsBelow order p p') (i : PinsBelow order n n') where
    enabled_kept : order (enabled_of p p.d) (enabled_of p' p'.d)
    enabled_kept = pick_kept _ _ _ _ _ _ h.en h.d h.q

    clocked_kept : (a a' : Bit) → order a a' → order (clocked_of p n a) (clocked_of p' n' a')
    clocked_kept a a' j = pick_kept _ _ _ _ _ _ (k.and _ _ _ _ (k.not _ _ h.clk) i.clk) j h.q

    set_or_cleared_kept : (m m' : Pins) → PinsBelow order m m' → (a a' : Bit) → order a a' → order (set_or_cleared_of m a) (set_or_cleared_of m' a')
    set_or_cleared_kept m m' l a a' j =
        pick_kept _ _ _ _ _ _ l.clr (k.self S0) (pick_kept _ _ _ _ _ _ l.set (k.self S1) j)

    released_kept : (kind : StorageKind) (value a a' : Bit) → order a a' → order (released_of kind value p n a) (released_of kind value p' n' a')
    released_kept Adff v a a' j =
        pick_kept _ _ _ _ _ _ i.arst (k.self v) (clocked_kept _ _ (pick_kept _ _ _ _ _ _ h.arst (k.self v) h.d))
    released_kept Adffe v a a' j =
        pick_kept _ _ _ _ _ _ i.arst (k.self v) (clocked_kept _ _ (pick_kept _ _ _ _ _ _ h.arst (k.self v) enabled_kept))
    released_kept Aldff v a a' j =
        pick_kept _ _ _ _ _ _ i.aload i.ad (clocked_kept _ _ (pick_kept _ _ _ _ _ _ h.aload h.ad h.d))
    released_kept Aldffe v a a' j =
        pick_kept _ _ _ _ _ _ i.aload i.ad (clocked_kept _ _ (pick_kept _ _ _ _ _ _ h.aload h.ad enabled_kept))
    released_kept Dffsr v a a' j =
        set_or_cleared_kept n n' i _ _ (clocked_kept _ _ (set_or_cleared_kept p p' h _ _ h.d))
    released_kept Dffsre v a a' j =
        set_or_cleared_kept n n' i _ _ (clocked_kept _ _ (set_or_cleared_kept p p' h _ _ enabled_kept))
    released_kept kind v a a' j = j

  -- where the first order keeps it, both do
  pub next_kept : ((shape : Shape) (at : ℕ) (first : Bool) → IsPinMonotone order (λ before now. store_bit_of shape at before now first)) → (shape : Shape) (at : ℕ) (manner : Manner) → IsPinMonotone order (λ before now. next_bit_of manner shape at before now)
  next_kept stored shape at manner p p' n n' h i =
      by manner.order
    where
      by : (o : Order) → order (stored_in o (storage_kind shape.kind) shape.levels (reset_at (storage_kind shape.kind) shape.resets at) p n manner.first) (stored_in o (storage_kind shape.kind) shape.levels (reset_at (storage_kind shape.kind) shape.resets at) p' n' manner.first)
      by Together = stored shape at manner.first p p' n n' h i
      by Released =
          released_kept _ _ _ _ (acting_kept shape.levels _ _ (were_kept manner.first p p' h)) (acting_kept shape.levels n n' i) (storage_kind shape.kind) (reset_at (storage_kind shape.kind) shape.resets at) _ _ (stored shape at manner.first p p' n n' h i)

-- a kind has no asynchronous control, or works without a clock
abbrev pub NoControl : StorageKind → Type 0
NoControl Adff = ⊥
NoControl Adffe = ⊥
NoControl Aldff = ⊥
NoControl Aldffe = ⊥
NoControl Dffsr = ⊥
NoControl Dffsre = ⊥
NoControl kind = Unit {0}

-- such a kind gives the same in both orders of time
pub no_control : (order : Order) (kind : StorageKind) (levels : Levels) (value : Bit) (before now : Pins) (first : Bool) → NoControl kind → stored_in order kind levels value before now first ≡ stored_in Together kind levels value before now first
no_control Together kind levels value before now first h = refl
no_control Released Adff levels value before now first h = absurd h
no_control Released Adffe levels value before now first h = absurd h
no_control Released Aldff levels value before now first h = absurd h
no_control Released Aldffe levels value before now first h = absurd h
no_control Released Dffsr levels value before now first h = absurd h
no_control Released Dffsre levels value before now first h = absurd h
no_control Released kind levels value before now first h = refl
