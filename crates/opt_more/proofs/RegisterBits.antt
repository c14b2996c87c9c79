-- What registers give, and that it is below what all their candidates are.
use Rattle.std.proofs.Common.{◌≡◌, Bool, true, false, Option, Some, None, ◌⊎◌, ⊎_elim, refl, sym, subst}
use Rattle.std.specs.Prelude.{if◌then◌else◌}
use Rattle.cell_gate.specs.Control.{edge_of, pick_of}
use Rattle.cell_gate.specs.Storage.{clocked_of, enabled_of, next_of}
use Rattle.cell_gate.specs.declared.pins.Pins.{Pins}
use Rattle.cell_types.specs.declared.storage.StorageKind.{StorageKind}
use Rattle.cell_types.specs.declared.storage.StorageKind.TheVariants.{Ff, Dff, Dffe, Sdff, Sdffe, Sdffce, Adff, Adffe}
use Rattle.rtl_bits.proofs.Orders.{Below_from_equal, Below_refl, Below_trans}
use Rattle.rtl_bits.specs.Knowledge.{Below}
use Rattle.rtl_bits.specs.Tables.{merge_of, seen_of}
use Rattle.rtl_bits.specs.declared.bit.Bit.{Bit}
use Rattle.rtl_bits.specs.declared.bit.Bit.TheVariants.{S0, S1, X, Z, M, Dash}
use Rattle.rtl_sig.specs.declared.sig.SigBit.{SigBit}
use Rattle.rtl_sig.specs.declared.sig.SigBit.TheVariants.{Fixed, Wire as OnWire}
use Rattle.rtl_ir.specs.Signals.{same_place}
use Rattle.net_model.specs.Order.{released_of, taken_of}
use Rattle.pass_laws.proofs.SamePlaces.{place_is}
use Rattle.opt_more.specs.Dff.{agree, data_of, is_plain, reset_of}
use Rattle.opt_more.proofs.MuxBits.{merge_first, seen_first}

-- a choice between what is below a bit is below it
pub pick_below : (c a b k : Bit) → Below a k → Below b k → Below (pick_of c a b) k
pick_below S0 a b k h l = Below_trans (seen_of b) b k (seen_first b) l
pick_below S1 a b k h l = Below_trans (seen_of a) a k (seen_first a) h
pick_below X a b k h l = Below_trans (merge_of b a) b k (merge_first b a) l
pick_below Z a b k h l = Below_trans (merge_of b a) b k (merge_first b a) l
pick_below M a b k h l = Below_trans (merge_of b a) b k (merge_first b a) l
pick_below Dash a b k h l = Below_trans (merge_of b a) b k (merge_first b a) l

-- the data of a kind are below a bit, or are never taken
abbrev pub DataBelow : StorageKind → Pins → Bit → Type 0
DataBelow Dffe before k = Below before.d k ⊎ (before.en ≡ S0)
DataBelow kind before k = Below before.d k

module _ (value k : Bit) (before now : Pins) (old : Below before.q k) where
  clocked_below : (new : Bit) → Below new k → Below (clocked_of before now new) k
  clocked_below new h = pick_below (edge_of before.clk now.clk) new before.q k h old

  enabled_below : (new : Bit) → Below new k → Below (enabled_of before new) k
  enabled_below new h = pick_below before.en new before.q k h old

  never_below : before.en ≡ S0 → Below (enabled_of before before.d) k
  never_below e = subst (λ z. Below (pick_of z before.d before.q) k) (sym e) (Below_trans (seen_of before.q) before.q k (seen_first before.q) old)

  -- what a plain register gives
  pub next_below : (kind : StorageKind) → is_plain kind ≡ true → DataBelow kind before k → Below (reset_of kind value) k → Below (next_of kind value before now) k
  next_below Ff e d r = Below_trans (seen_of before.d) before.d k (seen_first before.d) d
  next_below Dff e d r = clocked_below before.d d
  next_below Dffe e d r = clocked_below (enabled_of before before.d) (⊎_elim (λ h. enabled_below before.d h) (λ s. never_below s) d)
  next_below Sdff e d r = clocked_below (pick_of before.srst value before.d) (pick_below before.srst value before.d k r d)
  next_below Sdffe e d r = clocked_below (pick_of before.srst value (enabled_of before before.d)) (pick_below before.srst value (enabled_of before before.d) k r (enabled_below before.d d))
  next_below Sdffce e d r = clocked_below (enabled_of before (pick_of before.srst value before.d)) (enabled_below (pick_of before.srst value before.d) (pick_below before.srst value before.d k r d))
  next_below Adff e d r = pick_below now.arst value (clocked_of before now before.d) k r (clocked_below before.d d)
  next_below Adffe e d r = pick_below now.arst value (clocked_of before now (enabled_of before before.d)) k r (clocked_below (enabled_of before before.d) (enabled_below before.d d))
  next_below kind e d r = absurd (cc)

  -- and what it gives where its clock takes the value under the reset as it was
  pub released_below : (kind : StorageKind) → is_plain kind ≡ true → DataBelow kind before k → Below (reset_of kind value) k → (x : Bit) → Below x k → Below (released_of kind value before now x) k
  released_below Ff e d r x h = h
  released_below Dff e d r x h = h
  released_below Dffe e d r x h = h
  released_below Sdff e d r x h = h
  released_below Sdffe e d r x h = h
  released_below Sdffce e d r x h = h
  released_below Adff e d r x h =
      pick_below now.arst value (clocked_of before now (taken_of Adff value before)) k r (clocked_below (taken_of Adff value before) (pick_below before.arst value before.d k r d))
  released_below Adffe e d r x h =
      pick_below now.arst value (clocked_of before now (taken_of Adffe value before)) k r (clocked_below (taken_of Adffe value before) (pick_below before.arst value (enabled_of before before.d) k r (enabled_below before.d d)))
  released_below kind e d r x h = absurd (cc)

-- what candidates agree on is above each
pub agree_is : (a : Bit) (o : Option Bit) (k : Bit) → agree a o ≡ Some k → Below a k × ((b : Bit) × (o ≡ Some b) × Below b k)
agree_is S0 (Some S0) k e = let same : S0 ≡ k = cc in (sym same, (S0, refl, sym same))
agree_is S0 (Some S1) k e = absurd (cc)
agree_is S0 (Some b) k e = let same : S0 ≡ k = cc in (sym same, (b, refl, tt))
agree_is S1 (Some S1) k e = let same : S1 ≡ k = cc in (sym same, (S1, refl, sym same))
agree_is S1 (Some S0) k e = absurd (cc)
agree_is S1 (Some b) k e = let same : S1 ≡ k = cc in (sym same, (b, refl, tt))
agree_is a (Some b) k e = let same : b ≡ k = cc in (tt, (b, refl, Below_from_equal b k same))
agree_is S0 None k e = absurd (cc)
agree_is S1 None k e = absurd (cc)
agree_is X None k e = absurd (cc)
agree_is Z None k e = absurd (cc)
agree_is M None k e = absurd (cc)
agree_is Dash None k e = absurd (cc)

-- why the data are a candidate: they are never taken, a constant, or the register's own bit
pub data IsData (enabled : Bit) (q d : SigBit) (b : Bit) : Type 0 where
  Held : enabled ≡ S0 → IsData enabled q d b
  Constant : (c : Bit) → d ≡ Fixed c → b ≡ seen_of c → IsData enabled q d b
  Own : d ≡ q → IsData enabled q d b

own_data : (enabled : Bit) (q d : SigBit) (b : Bit) → (if same_place d q then Some X else None) ≡ Some b → IsData enabled q d b
own_data enabled q d b e = by (same_place d q) refl e
  where
    by : (t : Bool) → same_place d q ≡ t → (if t then Some X else None) ≡ Some b → IsData enabled q d b
    by true f g = Own (place_is d q f)
    by false f g = absurd (cc)

pub data_is : (enabled : Bit) (q d : SigBit) (b : Bit) → data_of enabled q d ≡ Some b → IsData enabled q d b
data_is S0 q d b e = Held refl
data_is enabled q (Fixed c) b e = let same : seen_of c ≡ b = cc in Constant c refl (sym same)
data_is enabled q (OnWire w) b e = own_data enabled q (OnWire w) b e

-- a constant is below what it is seen as
pub seen_above : (c k : Bit) → Below (seen_of c) k → Below c k
seen_above S0 k h = h
seen_above S1 k h = h
seen_above X k h = tt
seen_above Z k h = tt
seen_above M k h = tt
seen_above Dash k h = tt

merged : (b a : Bit) → Below (merge_of b (seen_of a)) (merge_of b a)
merged b S0 = Below_refl (merge_of b S0)
merged b S1 = Below_refl (merge_of b S1)
merged S0 a = tt
merged S1 a = tt
merged X a = tt
merged Z a = tt
merged M a = tt
merged Dash a = tt

-- a register that is always enabled gives no less without its enable
pub always_below : (value : Bit) (before now other after : Pins) → before.en ≡ S1 → before.d ≡ other.d → before.q ≡ other.q → before.clk ≡ other.clk → now.clk ≡ after.clk → Below (next_of Dffe value before now) (next_of Dff value other after)
always_below value before now other after en d q clk clk' =
    subst (λ z. Below (pick_of (edge_of before.clk now.clk) (pick_of z before.d before.q) before.q) (pick_of (edge_of other.clk after.clk) other.d other.q)) (sym en)
    (subst (λ z. Below (pick_of (edge_of before.clk now.clk) (seen_of before.d) before.q) z) (λ i. pick_of (edge_of (clk i) (clk' i)) (d i) (q i)) (by (edge_of before.clk now.clk) before.d before.q))
  where
    by : (c a b : Bit) → Below (pick_of c (seen_of a) b) (pick_of c a b)
    by S0 a b = Below_refl (seen_of b)
    by S1 a b = seen_first (seen_of a)
    by X a b = merged b a
    by Z a b = merged b a
    by M a b = merged b a
    by Dash a b = merged b a
