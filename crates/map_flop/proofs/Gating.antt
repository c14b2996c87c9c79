-- The gates of bits are whole: their names, pins and outputs.
use Rattle.std.proofs.Common.{◌≡◌, ℕ, zero, suc, Bool, true, false, List, [], ◌∷◌, Option, Some, None, inl, inr, refl, sym, ◌∙◌, ap, subst}
use Rattle.std.specs.Option.{option_map}
use Rattle.std.specs.Prelude.{◌||◌, map, slice_index_or}
use Rattle.cell_types.specs.Gate.{gate_of}
use Rattle.cell_types.specs.Kind.{◌or_else◌}
use Rattle.cell_types.specs.Letters.{level_of, storage_gate_of, value_of, ◌>>=◌}
use Rattle.cell_types.specs.Memory.{memory_of}
use Rattle.cell_types.specs.PinName.{pin_text}
use Rattle.cell_types.specs.Storage.{storage_of}
use Rattle.cell_types.specs.Word.{word_of}
use Rattle.cell_types.specs.declared.kind.CellKind.TheVariants as Cells
use Rattle.cell_types.specs.declared.level.Level.{Level}
use Rattle.cell_types.specs.declared.level.Level.TheVariants.{Low, High}
use Rattle.cell_types.specs.declared.pin_name.PinName.{PinName}
use Rattle.cell_types.specs.declared.pin_name.PinName.TheVariants.{A, B, S, Y, Clk, En, Arst, Srst, Aload, Set, Clr, Ad, D, Q, C, E, R, L, Addr, Data}
use Rattle.cell_types.specs.declared.storage.StorageKind.{StorageKind}
use Rattle.cell_types.specs.declared.storage.StorageKind.TheVariants as Kind
use Rattle.cell_types.specs.declared.storage_gate.StorageGate.{StorageGate}
use Rattle.cell_types.specs.declared.storage_gate.StorageGate.TheVariants as Gate
use Rattle.rtl_bits.specs.declared.bit.Bit.TheVariants.{X}
use Rattle.rtl_sig.specs.declared.sig.SigBit.{SigBit}
use Rattle.rtl_sig.specs.declared.sig.SigBit.TheVariants.{Fixed}
use Rattle.rtl_ir.specs.Flat.Cell.{cell_kind}
use Rattle.rtl_ir.specs.declared.cell.Cell.{Cell}
use Rattle.rtl_ir.specs.declared.cell.Pin.{Pin}
use Rattle.net_index.specs.BuilderNames.{digit_of, letter_of, name_of}
use Rattle.cell_gate.specs.Store.{reset_at}
use Rattle.cell_types.specs.Pins.{storage_gate_pins}
use Rattle.cell_types.specs.declared.levels.Levels.{Levels}
use Rattle.cell_types.specs.declared.shape.Shape.{Shape}
use Rattle.rtl_ir.specs.Build.{made_name}
use Rattle.rtl_ir.specs.Faults.Cells.{has_constant_output, misfit}
use Rattle.rtl_ir.specs.Parameters.{signal_at}
use Rattle.rtl_ir.specs.Signals.{is_constant, wire_bits}
use Rattle.rtl_ir.specs.Types.{Library}
use Rattle.net_model.proofs.Ranges.{signal_in}
use Rattle.net_model.specs.Lists.{In}
use Rattle.net_model.specs.Within.{BitIn, CellIn, SigIn}
use Rattle.map_laws.specs.Expansion.{IsWholeGate, cell_bits, kind_bits}
use Rattle.map_laws.specs.Operand.{pin_signal}
use Rattle.map_flop.specs.Gate.{bit_gate, gate_for, is_one}
use Rattle.map_flop.specs.Pins.{gate_bit, gate_pin, gate_pins, pin_bit, reset_bit}
use Rattle.map_flop.proofs.Adding.{cell_named, gate_here}

-- the letters of levels mean them
level_read : {K : Type 0} (l : Level) (f : Level → Option K) → (level_of (letter_of l) >>= f) ≡ f l
level_read Low f = refl
level_read High f = refl

two_read : (l m : Level) (f : Level → Level → StorageGate) → (level_of (letter_of l) >>= λ a. level_of (letter_of m) >>= λ b. Some (f a b)) ≡ Some (f l m)
two_read l m f = level_read l (λ a. level_of (letter_of m) >>= λ b. Some (f a b)) ∙ level_read m (λ b. Some (f l b))

three_read : (l m n : Level) (f : Level → Level → Level → StorageGate) → (level_of (letter_of l) >>= λ a. level_of (letter_of m) >>= λ b. level_of (letter_of n) >>= λ c. Some (f a b c)) ≡ Some (f l m n)
three_read l m n f = level_read l (λ a. level_of (letter_of m) >>= λ b. level_of (letter_of n) >>= λ c. Some (f a b c)) ∙ two_read m n (f l)

-- and the digit of a value
digit_read : {K : Type 0} (v : Bool) (f : Bool → Option K) → (value_of (digit_of v) >>= f) ≡ f v
digit_read false f = refl
digit_read true f = refl

reset_read : {K : Type 0} (l m : Level) (v : Bool) (f : Level → Level → Bool → Option K) → (level_of (letter_of l) >>= λ a. level_of (letter_of m) >>= λ b. value_of (digit_of v) >>= f a b) ≡ f l m v
reset_read l m v f =
    level_read l (λ a. level_of (letter_of m) >>= λ b. value_of (digit_of v) >>= f a b) ∙ level_read m (λ b. value_of (digit_of v) >>= f l b) ∙ digit_read v (f l m)

enabled_read : (l m : Level) (v : Bool) (n : Level) (f : Level → Level → Bool → Level → StorageGate) → (level_of (letter_of l) >>= λ a. level_of (letter_of m) >>= λ b. value_of (digit_of v) >>= λ u. level_of (letter_of n) >>= λ c. Some (f a b u c)) ≡ Some (f l m v n)
enabled_read l m v n f = reset_read l m v (λ a b u. level_of (letter_of n) >>= λ c. Some (f a b u c)) ∙ level_read n (λ c. Some (f l m v c))

-- the name of a storage gate names it
storage_gate_read : (gate : StorageGate) → storage_gate_of (name_of (Cells.StorageGate gate)) ≡ Some gate
storage_gate_read Gate.Ff = refl
storage_gate_read (Gate.Dff clk) = level_read clk (λ c. Some (Gate.Dff c))
storage_gate_read (Gate.Dffe clk en) = two_read clk en (λ c e. Gate.Dffe c e)
storage_gate_read (Gate.Adff clk arst value) = reset_read clk arst value (λ c r v. Some (Gate.Adff c r v))
storage_gate_read (Gate.Adffe clk arst value en) = enabled_read clk arst value en (λ c r v e. Gate.Adffe c r v e)
storage_gate_read (Gate.Sdff clk srst value) = reset_read clk srst value (λ c r v. Some (Gate.Sdff c r v))
storage_gate_read (Gate.Sdffe clk srst value en) = enabled_read clk srst value en (λ c r v e. Gate.Sdffe c r v e)
storage_gate_read (Gate.Sdffce clk srst value en) = enabled_read clk srst value en (λ c r v e. Gate.Sdffce c r v e)
storage_gate_read (Gate.Dffsr clk set clr) = three_read clk set clr (λ c s r. Gate.Dffsr c s r)
storage_gate_read (Gate.Dffsre clk set clr en) =
    level_read clk (λ c. level_of (letter_of set) >>= λ s. level_of (letter_of clr) >>= λ r. level_of (letter_of en) >>= λ e. Some (Gate.Dffsre c s r e))
    ∙ three_read set clr en (λ s r e. Gate.Dffsre clk s r e)
storage_gate_read (Gate.Aldff clk aload) = two_read clk aload (λ c l. Gate.Aldff c l)
storage_gate_read (Gate.Aldffe clk aload en) = three_read clk aload en (λ c l e. Gate.Aldffe c l e)
storage_gate_read (Gate.Dlatch en) = level_read en (λ e. Some (Gate.Dlatch e))
storage_gate_read (Gate.Adlatch en arst value) = reset_read en arst value (λ e r v. Some (Gate.Adlatch e r v))
storage_gate_read (Gate.Dlatchsr en set clr) = three_read en set clr (λ e s r. Gate.Dlatchsr e s r)
storage_gate_read (Gate.Sr set clr) = two_read set clr (λ s r. Gate.Sr s r)

-- a gate is named by its kind
pub gate_named : (gate : StorageGate) (pins : List Pin) (n : ℕ) → cell_kind (cell_named (name_of (Cells.StorageGate gate)) [] pins n) ≡ Some (Cells.StorageGate gate)
unfolding cell_kind
gate_named gate pins n =
    let name : List ℕ = name_of (Cells.StorageGate gate) in
    ap (λ o. option_map Cells.StorageGate o or_else option_map Cells.Gate (gate_of name) or_else option_map Cells.Word (word_of name) or_else option_map Cells.Storage (storage_of name) or_else option_map Cells.Memory (memory_of name)) (storage_gate_read gate)

-- pins of one bit each name wires where their bits do
module _ (count : ℕ) (bit : PinName → SigBit) (within : (name : PinName) → BitIn count (bit name)) where
  pins_within : (names : List PinName) (pin : Pin) → In pin (map (λ name. gate_pin name (bit name)) names) → SigIn count pin.sig
  pins_within [] pin i = absurd i
  pins_within (name ∷ names) pin (inl e) = subst (λ (q : Pin). SigIn count q.sig) (sym e) (one_in (bit name) (within name))
    where
      one_in : (s : SigBit) → BitIn count s → SigIn count (s ∷ [])
      one_in s h t (inl f) = subst (BitIn count) (sym f) h
      one_in s h t (inr j) = absurd j
  pins_within (name ∷ names) pin (inr i) = pins_within names pin i

module _ (count : ℕ) (c : Cell) (within : CellIn count c) (at : ℕ) (q : SigBit) (driven : BitIn count q) where
  bit_within : (name : PinName) (at : ℕ) → BitIn count (pin_bit c name at)
  bit_within name at = taken (pin_signal c name) at (signal_in count c.pins (pin_text name) within)
    where
      taken : (bits : List SigBit) (at : ℕ) → SigIn count bits → BitIn count (slice_index_or bits at (Fixed X))
      taken [] at h = tt
      taken (b ∷ bits) zero h = h b (inl refl)
      taken (b ∷ bits) (suc at) h = taken bits at (λ s i. h s (inr i))

  reset_within : (kind : StorageKind) → BitIn count (reset_bit kind c at)
  reset_within Kind.Ff = bit_within Clr at
  reset_within Kind.Dff = bit_within Clr at
  reset_within Kind.Dffe = bit_within Clr at
  reset_within Kind.Sdff = bit_within Srst 0
  reset_within Kind.Sdffe = bit_within Srst 0
  reset_within Kind.Sdffce = bit_within Srst 0
  reset_within Kind.Adff = bit_within Arst 0
  reset_within Kind.Adffe = bit_within Arst 0
  reset_within Kind.Aldff = bit_within Clr at
  reset_within Kind.Aldffe = bit_within Clr at
  reset_within Kind.Dffsr = bit_within Clr at
  reset_within Kind.Dffsre = bit_within Clr at
  reset_within Kind.Dlatch = bit_within Clr at
  reset_within Kind.Adlatch = bit_within Arst 0
  reset_within Kind.Dlatchsr = bit_within Clr at
  reset_within Kind.Sr = bit_within Clr at

  gate_within : (kind : StorageKind) (name : PinName) → BitIn count (gate_bit kind c at q name)
  gate_within kind A = bit_within A at
  gate_within kind B = bit_within B at
  gate_within kind S = bit_within Set at
  gate_within kind Y = bit_within Y at
  gate_within kind Clk = bit_within Clk at
  gate_within kind En = bit_within En at
  gate_within kind Arst = bit_within Arst at
  gate_within kind Srst = bit_within Srst at
  gate_within kind Aload = bit_within Aload at
  gate_within kind Set = bit_within Set at
  gate_within kind Clr = bit_within Clr at
  gate_within kind Ad = bit_within Ad at
  gate_within kind D = bit_within D at
  gate_within kind Q = driven
  gate_within kind C = bit_within Clk 0
  gate_within kind E = bit_within En 0
  gate_within kind R = reset_within kind
  gate_within kind L = bit_within Aload 0
  gate_within kind Addr = bit_within Addr at
  gate_within kind Data = bit_within Data at

-- the gate of a kind
module _ (levels : Levels) (value : Bool) (c : Cell) (at : ℕ) (q : SigBit) where
  -- its pin Q has the bit
  pub output_bit : (kind : StorageKind) → signal_at (gate_pins kind (gate_for kind levels value) c at q) (pin_text Q) ≡ q ∷ []
  output_bit Kind.Ff = refl
  output_bit Kind.Dff = refl
  output_bit Kind.Dffe = refl
  output_bit Kind.Sdff = refl
  output_bit Kind.Sdffe = refl
  output_bit Kind.Sdffce = refl
  output_bit Kind.Adff = refl
  output_bit Kind.Adffe = refl
  output_bit Kind.Aldff = refl
  output_bit Kind.Aldffe = refl
  output_bit Kind.Dffsr = refl
  output_bit Kind.Dffsre = refl
  output_bit Kind.Dlatch = refl
  output_bit Kind.Adlatch = refl
  output_bit Kind.Dlatchsr = refl
  output_bit Kind.Sr = refl

  fits : (kind : StorageKind) (n : ℕ) → misfit (Cells.StorageGate (gate_for kind levels value)) (cell_named (name_of (Cells.StorageGate (gate_for kind levels value))) [] (gate_pins kind (gate_for kind levels value) c at q) n) ≡ None
  unfolding misfit
  fits Kind.Ff n = refl
  fits Kind.Dff n = refl
  fits Kind.Dffe n = refl
  fits Kind.Sdff n = refl
  fits Kind.Sdffe n = refl
  fits Kind.Sdffce n = refl
  fits Kind.Adff n = refl
  fits Kind.Adffe n = refl
  fits Kind.Aldff n = refl
  fits Kind.Aldffe n = refl
  fits Kind.Dffsr n = refl
  fits Kind.Dffsre n = refl
  fits Kind.Dlatch n = refl
  fits Kind.Adlatch n = refl
  fits Kind.Dlatchsr n = refl
  fits Kind.Sr n = refl

  -- no other pin is an output
  only_output : (kind : StorageKind) → has_constant_output (Library (Cells.StorageGate (gate_for kind levels value))) (gate_pins kind (gate_for kind levels value) c at q) ≡ ((is_constant q || false) || false)
  only_output Kind.Ff = refl
  only_output Kind.Dff = refl
  only_output Kind.Dffe = refl
  only_output Kind.Sdff = refl
  only_output Kind.Sdffe = refl
  only_output Kind.Sdffce = refl
  only_output Kind.Adff = refl
  only_output Kind.Adffe = refl
  only_output Kind.Aldff = refl
  only_output Kind.Aldffe = refl
  only_output Kind.Dffsr = refl
  only_output Kind.Dffsre = refl
  only_output Kind.Dlatch = refl
  only_output Kind.Adlatch = refl
  only_output Kind.Dlatchsr = refl
  only_output Kind.Sr = refl

alone : (t : Bool) → ((t || false) || false) ≡ t
alone true = refl
alone false = refl

-- the cell under the fresh name of a number is a whole gate, and drives this bit
pub record IsGateFor (count n : ℕ) (q : SigBit) (g : Cell) : Type 0 where
  pub whole : IsWholeGate count g
  pub bits : cell_bits g ≡ wire_bits (q ∷ [])
  pub named : g.name ≡ made_name n

pub gate_is : (count : ℕ) (kind : StorageKind) (shape : Shape) (c : Cell) → CellIn count c → (at n : ℕ) (q : SigBit) → BitIn count q → is_constant q ≡ false → IsGateFor count n q (gate_here kind shape c at n q)
gate_is count kind shape c within at n q driven wire =
    let value : Bool = is_one (reset_at kind shape.resets at) in
    let gate : StorageGate = bit_gate kind shape at in
    let pins : List Pin = gate_pins kind gate c at q in
    record {
      whole = record {
        kind = Cells.StorageGate gate;
        gate = refl;
        whole = record {
          own = gate_named gate pins n;
          shape = fits shape.levels value c at q kind n;
          output = only_output shape.levels value c at q kind ∙ alone (is_constant q) ∙ wire;
          within = pins_within count (gate_bit kind c at q) (gate_within count c within at q driven kind) (storage_gate_pins gate);
        };
      };
      bits = ap (λ k. kind_bits k (gate_here kind shape c at n q)) (gate_named gate pins n) ∙ ap wire_bits (output_bit shape.levels value c at q kind);
      named = refl;
    }
