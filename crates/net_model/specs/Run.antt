-- Runs: an unordered list of drivers over time, one input vector after another.
use Rattle.std.specs.Prelude.{◌≡◌, Bool, true, false, List, [], ◌∷◌, map}
use Rattle.rtl_bits.specs.declared.bit.Bit.{Bit}
use Rattle.rtl_bits.specs.Knowledge.{AreBelow}
use Rattle.net_model.specs.declared.order.Order.{Order}
use Rattle.net_model.specs.Order.{Manner}
use Rattle.net_model.specs.Settle.{Pointwise, Row, settled}

-- before the first step; or a step, with the valuation of the step before, the input vector, and how it is taken
pub data Time (B : Type 0) : Type 0 where
  Start : Time B
  Step : (before : B → Bit) (inputs : List Bit) (manner : Manner) → Time B

-- a bit, and its value at any time over all bits
pub record Drive (B : Type 0) : Type 0 where
  pub bit : B
  pub value : Time B → (B → Bit) → Bit

-- a drive at one time
abbrev pub row_at : {B : Type 0} → Time B → Drive B → Row B
row_at t d = record { bit = d.bit; value = d.value t }

-- the drives at one time
abbrev pub rows_at : {B : Type 0} → Time B → List (Drive B) → List (Row B)
rows_at t drives = map (row_at t) drives

-- what the drives settle to at one time
abbrev pub settle : {B : Type 0} → (B → B → Bool) → List (Drive B) → Time B → B → Bit
settle same drives t = settled same (rows_at t drives)

-- the output vectors, one for each input vector, from the valuation before
abbrev pub trace :
    {B : Type 0} → (B → B → Bool) → List (Drive B) → List B → Order → (B → Bit) → Bool → List (List Bit) →
    List (List Bit)
trace same drives outputs order before first [] = []
trace same drives outputs order before first (x ∷ stimulus) =
    map (settle same drives (Step before x (record { first = first; order = order }))) outputs
    ∷ trace same drives outputs order (settle same drives (Step before x (record { first = first; order = order }))) false stimulus

-- the output vectors of a run in an order of time, which begins with what is settled before the first step
abbrev pub run : {B : Type 0} → (B → B → Bool) → List (Drive B) → List B → Order → List (List Bit) → List (List Bit)
run same drives outputs order stimulus = trace same drives outputs order (settle same drives Start) true stimulus

-- a trace is below another one step by step, each output vector place by place
abbrev pub TraceBelow : List (List Bit) → List (List Bit) → Type 0
TraceBelow [] [] = Unit {0}
TraceBelow (a ∷ as') (b ∷ bs) = AreBelow a b × TraceBelow as' bs
TraceBelow [] (b ∷ bs) = ⊥
TraceBelow (a ∷ as') [] = ⊥

-- two times are the same but for the valuations before, which stand in an order
abbrev pub TimeBelow : {B : Type 0} → (Bit → Bit → Type 0) → Time B → Time B → Type 0
TimeBelow order Start Start = Unit {0}
TimeBelow order (Step v x m) (Step w y n) = Pointwise order v w × (x ≡ y) × (m ≡ n)
TimeBelow order Start (Step w y n) = ⊥
TimeBelow order (Step v x m) Start = ⊥
