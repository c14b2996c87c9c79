-- Edges, and what a register holds at an impossible one.
use Rattle.std.proofs.Common.{ℕ, ◌≡◌, refl, ◌∙◌, ap, inl, inr, ◌↔◌, Bool}
use Rattle.rtl_bits.specs.declared.bit.Bit.{Bit}
use Rattle.rtl_bits.specs.declared.bit.Bit.TheVariants.{S0, S1}
use Rattle.rtl_bits.specs.Tables.{seen_of, IsPlain}
use Rattle.rtl_bits.proofs.Tables.{seen_of_plain, not_of_plain, and_of_plain, or_of_plain, xor_of_plain, mux_of_plain}
use Rattle.cell_types.specs.declared.gate.GateKind.{GateKind}
use Rattle.cell_types.specs.declared.gate.GateKind.TheVariants.{Buf, And, Or, Xor, AndNot, OrNot, Mux}
use Rattle.cell_types.specs.declared.storage.StorageKind.{StorageKind}
use Rattle.cell_types.specs.declared.storage.StorageKind.TheVariants.{Ff, Dff, Dffe, Sdff, Sdffe, Sdffce, Adff, Adffe, Aldff, Aldffe, Dffsr, Dffsre, Dlatch, Adlatch, Dlatchsr, Sr}
use Rattle.cell_gate.specs.declared.pins.Pins.{Pins}
use Rattle.cell_gate.specs.declared.store.Store.{Store}
use Rattle.cell_gate.specs.Gates.{output_of}
use Rattle.cell_gate.specs.Control.{active_of, pick_of, edge_of, was_of, IsCertain, IsImpossible}
use Rattle.cell_types.specs.declared.shape.Shape.{Shape}
use Rattle.cell_gate.specs.Store.{store_of, storage_kind}
use Rattle.cell_gate.specs.Storage.{acting_of, clocked_of, set_or_cleared_of, next_of, stored_of, store_bit_of, IsRegister, IsQuiet}

certain_from : (was is : Bit) → edge_of was is ≡ S1 → IsCertain was is
certain_from S0 S1 e = (refl, refl)
certain_from S0 S0 e = absurd (cc)
certain_from S0 is e = absurd (cc)
certain_from S1 is e = absurd (cc)
certain_from was S0 e = absurd (cc)
certain_from was is e = absurd (cc)

certain_to : (was is : Bit) → IsCertain was is → edge_of was is ≡ S1
certain_to was is (e, f) = ap (λ z. edge_of z is) e ∙ ap (λ z. edge_of S0 z) f

pub certain_iff : (was is : Bit) → edge_of was is ≡ S1 ↔ IsCertain was is
certain_iff was is = (certain_from was is, certain_to was is)

impossible_from : (was is : Bit) → edge_of was is ≡ S0 → IsImpossible was is
impossible_from S1 is e = inl refl
impossible_from was S0 e = inr refl
impossible_from S0 S1 e = absurd (cc)
impossible_from S0 is e = absurd (cc)
impossible_from was is e = absurd (cc)

-- an edge to an inactive clock
inactive_edge : (was : Bit) → edge_of was S0 ≡ S0
inactive_edge S0 = refl
inactive_edge was = refl

impossible_to : (was is : Bit) → IsImpossible was is → edge_of was is ≡ S0
impossible_to was is (inl e) = ap (λ z. edge_of z is) e
impossible_to was is (inr e) = ap (λ z. edge_of was z) e ∙ inactive_edge was

pub impossible_iff : (was is : Bit) → edge_of was is ≡ S0 ↔ IsImpossible was is
impossible_iff was is = (impossible_from was is, impossible_to was is)

-- an inactive control leaves the other bit
picked_other : (control a b : Bit) → control ≡ S0 → pick_of control a b ≡ seen_of b
picked_other control a b e = ap (λ z. pick_of z a b) e

-- the clock of a register keeps the old output
clocked_holds : (before now : Pins) (new : Bit) → IsImpossible before.clk now.clk → clocked_of before now new ≡ seen_of before.q
clocked_holds before now new i = picked_other _ new before.q (impossible_to _ _ i)

-- an inactive control leaves what the clock keeps
quiet_holds : (before now : Pins) (control a new : Bit) → control ≡ S0 → IsImpossible before.clk now.clk → pick_of control a (clocked_of before now new) ≡ seen_of before.q
quiet_holds before now control a new e i =
    picked_other control a _ e ∙ ap seen_of (clocked_holds before now new i) ∙ seen_of_plain before.q

unset_holds : (before now : Pins) (new : Bit) → (now.set ≡ S0) × (now.clr ≡ S0) → IsImpossible before.clk now.clk → set_or_cleared_of now (clocked_of before now new) ≡ seen_of before.q
unset_holds before now new (s, c) i =
    picked_other now.clr S0 _ c
    ∙ ap seen_of (quiet_holds before now now.set S1 new s i)
    ∙ seen_of_plain before.q

pub next_holds : (kind : StorageKind) (value : Bit) (before now : Pins) → IsRegister kind → IsQuiet kind now → IsImpossible before.clk now.clk → next_of kind value before now ≡ seen_of before.q
next_holds Ff v p n r q i = absurd r
next_holds Dff v p n r q i = clocked_holds p n _ i
next_holds Dffe v p n r q i = clocked_holds p n _ i
next_holds Sdff v p n r q i = clocked_holds p n _ i
next_holds Sdffe v p n r q i = clocked_holds p n _ i
next_holds Sdffce v p n r q i = clocked_holds p n _ i
next_holds Adff v p n r q i = quiet_holds p n _ _ _ q i
next_holds Adffe v p n r q i = quiet_holds p n _ _ _ q i
next_holds Aldff v p n r q i = quiet_holds p n _ _ _ q i
next_holds Aldffe v p n r q i = quiet_holds p n _ _ _ q i
next_holds Dffsr v p n r q i = unset_holds p n _ q i
next_holds Dffsre v p n r q i = unset_holds p n _ q i
next_holds Dlatch v p n r q i = absurd r
next_holds Adlatch v p n r q i = absurd r
next_holds Dlatchsr v p n r q i = absurd r
next_holds Sr v p n r q i = absurd r

-- what any kind gives is 0, 1 or x
pub next_plain : (kind : StorageKind) (value : Bit) (before now : Pins) → IsPlain (next_of kind value before now)
next_plain Ff v p n = seen_of_plain p.d
next_plain Dffsr v p n = mux_of_plain _ S0 n.clr
next_plain Dffsre v p n = mux_of_plain _ S0 n.clr
next_plain Dlatchsr v p n = mux_of_plain _ S0 n.clr
next_plain Sr v p n = mux_of_plain _ S0 n.clr
next_plain kind v p n = mux_of_plain _ _ _

pub stored_holds : (store : Store) (before now : Pins) (first : Bool) → IsRegister store.kind → IsQuiet store.kind (acting_of store.levels now) → IsImpossible (active_of store.levels.clk (was_of first before.clk)) (active_of store.levels.clk now.clk) → stored_of store before now first ≡ seen_of before.q
stored_holds store before now first r q i =
    next_holds store.kind store.value
    (acting_of store.levels (record before { clk = was_of first before.clk }))
    (acting_of store.levels now) r q i

pub stored_plain : (store : Store) (before now : Pins) (first : Bool) → IsPlain (stored_of store before now first)
stored_plain store before now first = next_plain store.kind store.value _ _

pub output_plain : (kind : GateKind) (a b s : Bit) → IsPlain (output_of kind a b s)
output_plain Buf a b s = seen_of_plain a
output_plain And a b s = and_of_plain a b
output_plain Or a b s = or_of_plain a b
output_plain Xor a b s = xor_of_plain a b
output_plain AndNot a b s = and_of_plain _ _
output_plain OrNot a b s = or_of_plain _ _
output_plain Mux a b s = mux_of_plain a b s
output_plain kind a b s = not_of_plain _

pub bit_holds : (shape : Shape) (at : ℕ) (before now : Pins) (first : Bool) → IsRegister (storage_kind shape.kind) → IsQuiet (storage_kind shape.kind) (acting_of shape.levels now) → IsImpossible (active_of shape.levels.clk (was_of first before.clk)) (active_of shape.levels.clk now.clk) → store_bit_of shape at before now first ≡ seen_of before.q
bit_holds shape at = stored_holds (store_of shape at)

pub bit_plain : (shape : Shape) (at : ℕ) (before now : Pins) (first : Bool) → IsPlain (store_bit_of shape at before now first)
bit_plain shape at = stored_plain (store_of shape at)
