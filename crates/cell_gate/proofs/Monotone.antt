-- Gates and storage bits keep the orders of knowledge, since they are made of functions that do.
use Rattle.std.proofs.Common.{ℕ, Bool, true, false}
use Rattle.rtl_bits.specs.declared.bit.Bit.{Bit}
use Rattle.rtl_bits.specs.declared.bit.Bit.TheVariants.{S0, S1, X}
use Rattle.rtl_bits.specs.Knowledge.{Below, FlatBelow, IsMonotone3}
use Rattle.rtl_bits.proofs.Keeping.{Keeps, below_kept, flat_kept}
use Rattle.cell_types.specs.declared.gate.GateKind.{GateKind}
use Rattle.cell_types.specs.declared.gate.GateKind.TheVariants.{Buf, Not, And, Nand, Or, Nor, Xor, Xnor, AndNot, OrNot, Mux, Nmux}
use Rattle.cell_types.specs.declared.level.Level.{Level}
use Rattle.cell_types.specs.declared.level.Level.TheVariants.{Low, High}
use Rattle.cell_types.specs.declared.storage.StorageKind.{StorageKind}
use Rattle.cell_types.specs.declared.storage.StorageKind.TheVariants.{Ff, Dff, Dffe, Sdff, Sdffe, Sdffce, Adff, Adffe, Aldff, Aldffe, Dffsr, Dffsre, Dlatch, Adlatch, Dlatchsr, Sr}
use Rattle.cell_gate.specs.declared.pins.Pins.{Pins}
use Rattle.cell_types.specs.declared.levels.Levels.{Levels}
use Rattle.cell_gate.specs.declared.store.Store.{Store}
use Rattle.cell_gate.specs.Gates.{output_of}
use Rattle.cell_gate.specs.Control.{active_of, pick_of, was_of}
use Rattle.cell_types.specs.declared.shape.Shape.{Shape}
use Rattle.cell_gate.specs.Store.{store_of}
use Rattle.cell_gate.specs.Storage.{acting_of, clocked_of, enabled_of, set_or_cleared_of, register_of, enabled_register_of, latch_of, next_of, stored_of, store_bit_of, PinsBelow, IsPinMonotone}

output_kept : (order : Bit → Bit → Type 0) → Keeps order → (kind : GateKind) → IsMonotone3 order (output_of kind)
output_kept order k Buf a a' b b' s s' h i j = k.seen _ _ h
output_kept order k Not a a' b b' s s' h i j = k.not _ _ h
output_kept order k And a a' b b' s s' h i j = k.and _ _ _ _ h i
output_kept order k Nand a a' b b' s s' h i j = k.not _ _ (k.and _ _ _ _ h i)
output_kept order k Or a a' b b' s s' h i j = k.or _ _ _ _ h i
output_kept order k Nor a a' b b' s s' h i j = k.not _ _ (k.or _ _ _ _ h i)
output_kept order k Xor a a' b b' s s' h i j = k.xor _ _ _ _ h i
output_kept order k Xnor a a' b b' s s' h i j = k.not _ _ (k.xor _ _ _ _ h i)
output_kept order k AndNot a a' b b' s s' h i j = k.and _ _ _ _ h (k.not _ _ i)
output_kept order k OrNot a a' b b' s s' h i j = k.or _ _ _ _ h (k.not _ _ i)
output_kept order k Mux a a' b b' s s' h i j = k.mux _ _ _ _ _ _ h i j
output_kept order k Nmux a a' b b' s s' h i j = k.not _ _ (k.mux _ _ _ _ _ _ h i j)

pub output_below : (kind : GateKind) → IsMonotone3 Below (output_of kind)
output_below = output_kept Below below_kept

pub output_flat : (kind : GateKind) → IsMonotone3 FlatBelow (output_of kind)
output_flat = output_kept FlatBelow flat_kept

active_kept : (order : Bit → Bit → Type 0) → Keeps order → (level : Level) (a b : Bit) → order a b → order (active_of level a) (active_of level b)
active_kept order k High a b h = k.seen a b h
active_kept order k Low a b h = k.not a b h

was_kept : (order : Bit → Bit → Type 0) → Keeps order → (first : Bool) (a b : Bit) → order a b → order (was_of first a) (was_of first b)
was_kept order k true a b h = k.self X
was_kept order k false a b h = h

pick_kept : (order : Bit → Bit → Type 0) → Keeps order → (c c' a a' b b' : Bit) → order c c' → order a a' → order b b' → order (pick_of c a b) (pick_of c' a' b')
pick_kept order k c c' a a' b b' h i j = k.mux b b' a a' c c' j i h

acting_kept : (order : Bit → Bit → Type 0) → Keeps order → (levels : Levels) (p p' : Pins) → PinsBelow order p p' → PinsBelow order (acting_of levels p) (acting_of levels p')
acting_kept order k levels p p' h = record {
  clk = active_kept order k levels.clk _ _ h.clk;
  en = active_kept order k levels.en _ _ h.en;
  arst = active_kept order k levels.arst _ _ h.arst;
  srst = active_kept order k levels.srst _ _ h.srst;
  aload = active_kept order k levels.aload _ _ h.aload;
  ad = h.ad;
  set = active_kept order k levels.set _ _ h.set;
  clr = active_kept order k levels.clr _ _ h.clr;
  d = h.d;
  q = h.q;
}

module _ (order : Bit → Bit → Type 0) (k : Keeps order) (p p' n n' : Pins) (h : PinsBelow order p p') (i : PinsBelow order n n') where
  clocked_kept : (a a' : Bit) → order a a' → order (clocked_of p n a) (clocked_of p' n' a')
  clocked_kept a a' j =
      pick_kept order k _ _ _ _ _ _ (k.and _ _ _ _ (k.not _ _ h.clk) i.clk) j h.q

  enabled_kept : (a a' : Bit) → order a a' → order (enabled_of p a) (enabled_of p' a')
  enabled_kept a a' j = pick_kept order k _ _ _ _ _ _ h.en j h.q

  set_or_cleared_kept : (a a' : Bit) → order a a' → order (set_or_cleared_of n a) (set_or_cleared_of n' a')
  set_or_cleared_kept a a' j =
      pick_kept order k _ _ _ _ _ _ i.clr (k.self S0) (pick_kept order k _ _ _ _ _ _ i.set (k.self S1) j)

  register_kept : order (register_of p n) (register_of p' n')
  register_kept = clocked_kept _ _ h.d

  enabled_register_kept : order (enabled_register_of p n) (enabled_register_of p' n')
  enabled_register_kept = clocked_kept _ _ (enabled_kept _ _ h.d)

  latch_kept : order (latch_of p n) (latch_of p' n')
  latch_kept = pick_kept order k _ _ _ _ _ _ i.en i.d h.q

  reset_kept : (c c' v a a' : Bit) → order c c' → order a a' → order (pick_of c v a) (pick_of c' v a')
  reset_kept c c' v a a' j l = pick_kept order k _ _ _ _ _ _ j (k.self v) l

  next_kept : (kind : StorageKind) (value : Bit) → order (next_of kind value p n) (next_of kind value p' n')
  next_kept Ff v = k.seen _ _ h.d
  next_kept Dff v = register_kept
  next_kept Dffe v = enabled_register_kept
  next_kept Sdff v = clocked_kept _ _ (reset_kept _ _ v _ _ h.srst h.d)
  next_kept Sdffe v = clocked_kept _ _ (reset_kept _ _ v _ _ h.srst (enabled_kept _ _ h.d))
  next_kept Sdffce v = clocked_kept _ _ (enabled_kept _ _ (reset_kept _ _ v _ _ h.srst h.d))
  next_kept Adff v = reset_kept _ _ v _ _ i.arst register_kept
  next_kept Adffe v = reset_kept _ _ v _ _ i.arst enabled_register_kept
  next_kept Aldff v = pick_kept order k _ _ _ _ _ _ i.aload i.ad register_kept
  next_kept Aldffe v = pick_kept order k _ _ _ _ _ _ i.aload i.ad enabled_register_kept
  next_kept Dffsr v = set_or_cleared_kept _ _ register_kept
  next_kept Dffsre v = set_or_cleared_kept _ _ enabled_register_kept
  next_kept Dlatch v = latch_kept
  next_kept Adlatch v = reset_kept _ _ v _ _ i.arst latch_kept
  next_kept Dlatchsr v = set_or_cleared_kept _ _ latch_kept
  next_kept Sr v = set_or_cleared_kept _ _ h.q

first_kept : (order : Bit → Bit → Type 0) → Keeps order → (first : Bool) (p p' : Pins) → PinsBelow order p p' → PinsBelow order (record p { clk = was_of first p.clk }) (record p' { clk = was_of first p'.clk })
first_kept order k first p p' h = record {
  clk = was_kept order k first _ _ h.clk;
  en = h.en;
  arst = h.arst;
  srst = h.srst;
  aload = h.aload;
  ad = h.ad;
  set = h.set;
  clr = h.clr;
  d = h.d;
  q = h.q;
}

stored_kept : (order : Bit → Bit → Type 0) → Keeps order → (store : Store) (first : Bool) → IsPinMonotone order (λ before now. stored_of store before now first)
stored_kept order k store first p p' n n' h i =
    next_kept order k _ _ _ _
    (acting_kept order k store.levels _ _ (first_kept order k first p p' h))
    (acting_kept order k store.levels n n' i) store.kind store.value

pub bit_below : (shape : Shape) (at : ℕ) (first : Bool) → IsPinMonotone Below (λ before now. store_bit_of shape at before now first)
bit_below shape at first = stored_kept Below below_kept (store_of shape at) first

pub bit_flat : (shape : Shape) (at : ℕ) (first : Bool) → IsPinMonotone FlatBelow (λ before now. store_bit_of shape at before now first)
bit_flat shape at first = stored_kept FlatBelow flat_kept (store_of shape at) first
