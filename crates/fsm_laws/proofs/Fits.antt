-- The cells that a machine in its code has fit their kinds.
use Rattle.std.proofs.Common.{◌≡◌, ◌<◌, ◌≤◌, ℕ, ◌*◌, Bool, true, false, ◌||◌, List, [], ◌∷◌, length, Some, None, refl, ◌∙◌, ap, arith}
use Rattle.std.specs.Prelude.{◌==◌, nat_lt}
use Rattle.std.proofs.lemmas.Bool.{eq-eqb, lt-ltb}
use Rattle.std.proofs.lemmas.List.{append-nil}
use Rattle.cell_types.specs.Fault.{fault_of}
use Rattle.cell_types.specs.ParamName.{param_text}
use Rattle.cell_types.specs.PinName.{pin_text}
use Rattle.cell_types.specs.declared.kind.CellKind.{CellKind}
use Rattle.cell_types.specs.declared.kind.CellKind.TheVariants.{Storage, Word}
use Rattle.cell_types.specs.declared.level.Level.{Level}
use Rattle.cell_types.specs.declared.param_name.ParamName.TheVariants.{ASigned, ArstPolarity, ArstValue, AWidth, ClkPolarity, SWidth, Width, YWidth}
use Rattle.cell_types.specs.declared.pin_name.PinName.{PinName}
use Rattle.cell_types.specs.declared.pin_name.PinName.TheVariants.{A, Arst, B, Clk, D, Q, S, Y}
use Rattle.cell_types.specs.declared.storage.StorageKind.TheVariants.{Adff, Dff}
use Rattle.cell_types.specs.declared.word.UnaryKind.TheVariants.{Not}
use Rattle.cell_types.specs.declared.word.WordKind.TheVariants.{Mux, Pmux, Unary}
use Rattle.rtl_bits.specs.Knowledge.{all_known}
use Rattle.rtl_bits.specs.Numbers.{number_of}
use Rattle.rtl_bits.specs.declared.bit.Bit.{Bit}
use Rattle.rtl_sig.specs.declared.sig.SigBit.{SigBit}
use Rattle.rtl_ir.specs.Constants.{low_bits}
use Rattle.rtl_ir.specs.Faults.Cells.{has_constant_output, is_memory_kind, misfit}
use Rattle.rtl_ir.specs.Flat.Cell.{cell_kind}
use Rattle.rtl_ir.specs.Outputs.{output_pin}
use Rattle.rtl_ir.specs.Signals.{has_constant, wire_bits}
use Rattle.rtl_ir.specs.Types.{Library, Ports, cell_type}
use Rattle.rtl_ir.specs.declared.cell.Cell.{Cell}
use Rattle.net_model.specs.Fsm.Code.{inverse_cell}
use Rattle.net_model.specs.Fsm.Find.{at_pin}
use Rattle.net_model.specs.Proc.Sync.{polarity_of}
use Rattle.pass_laws.proofs.Faultless.{type_is}
use Rattle.pass_laws.proofs.Outputs.{output_bits}
use Rattle.pass_laws.specs.Bits.{cells_bits, pin_bits}
use Rattle.fsm_laws.specs.Flops.{adff_like, dff_like}
use Rattle.fsm_laws.specs.Forks.{mux_like, pmux_like}
use Rattle.pass_laws.proofs.CellNumbers.{number_known, number_is}
use Rattle.build_laws.proofs.CellFits.{dff_fits}

-- a cell of the library that is none of a memory fits its kind, and has no constant at its output
pub record Fits (kind : CellKind) (c : Cell) : Type 0 where
  pub own : cell_kind c ≡ Some kind
  pub plain : is_memory_kind kind ≡ false
  pub shape : misfit kind c ≡ None
  pub output : has_constant_output (Library kind) c.pins ≡ false

-- what it drives
pub fit_bits : (ports : Ports) (c : Cell) (kind : CellKind) → Fits kind c → (name : PinName) → output_pin kind ≡ Some name → cells_bits ports (c ∷ []) ≡ wire_bits (at_pin c name)
fit_bits ports c kind fits name out =
    append-nil (pin_bits (cell_type ports c.kind_name) c.pins)
    ∙ ap (λ t. pin_bits t c.pins) (type_is ports c kind fits.own)
    ∙ output_bits kind c fits.plain fits.shape name out

or_none : (t : Bool) → t ≡ false → (t || false) ≡ false
or_none true e = e
or_none false e = refl

mux_fits : (v : List Bit) (la lb ls ly n : ℕ) → all_known v ≡ true → number_of v ≡ n → la ≡ n → lb ≡ n → ls ≡ 1 → ly ≡ n → 0 < n → n ≤ 4096
    → fault_of (Word Mux) (record { name = param_text Width; value = v } ∷ [])
    (record { name = pin_text A; width = la } ∷ record { name = pin_text B; width = lb } ∷ record { name = pin_text S; width = ls } ∷ record { name = pin_text Y; width = ly } ∷ []) ≡ None
mux_fits v la lb ls ly n k e ea eb es ey some few =
    let positive : nat_lt 0 n ≡ true = lt-ltb 0 n some in
    let narrow : nat_lt 4096 n ≡ false = grind arith in
    let same : (n == n) ≡ true = eq-eqb n n refl in
    rw (k, e, ea, eb, es, ey, positive, narrow, same) refl

pmux_fits : (v u : List Bit) (la lb ls ly n s : ℕ) → all_known v ≡ true → all_known u ≡ true → number_of v ≡ n → number_of u ≡ s → la ≡ n → lb ≡ n * s → ls ≡ s → ly ≡ n → 0 < n → 0 < s → n ≤ 4096 → s ≤ 4096 → n * s ≤ 4096
    → fault_of (Word Pmux) (record { name = param_text Width; value = v } ∷ record { name = param_text SWidth; value = u } ∷ [])
    (record { name = pin_text A; width = la } ∷ record { name = pin_text B; width = lb } ∷ record { name = pin_text S; width = ls } ∷ record { name = pin_text Y; width = ly } ∷ []) ≡ None
pmux_fits v u la lb ls ly n s kv ku ev eu ea eb es ey some many few fs fb =
    let positive : nat_lt 0 n ≡ true = lt-ltb 0 n some in
    let chosen : nat_lt 0 s ≡ true = lt-ltb 0 s many in
    let narrow : nat_lt 4096 n ≡ false = grind arith in
    let narrow_s : nat_lt 4096 s ≡ false = grind arith in
    let narrow_b : nat_lt 4096 (n * s) ≡ false = grind arith in
    let same : (n == n) ≡ true = eq-eqb n n refl in
    let same_s : (s == s) ≡ true = eq-eqb s s refl in
    let same_b : (n * s == n * s) ≡ true = eq-eqb (n * s) (n * s) refl in
    rw (kv, ku, ev, eu, ea, eb, es, ey, positive, chosen, narrow, narrow_s, narrow_b, same, same_s, same_b) refl

adff_fits : (v p r w : List Bit) (lc la ld lq n : ℕ) → all_known v ≡ true → number_of v ≡ n → all_known p ≡ true → all_known r ≡ true → length w ≡ n → lc ≡ 1 → la ≡ 1 → ld ≡ n → lq ≡ n → 0 < n → n ≤ 4096
    → fault_of (Storage Adff) (record { name = param_text Width; value = v } ∷ record { name = param_text ClkPolarity; value = p } ∷ record { name = param_text ArstPolarity; value = r } ∷ record { name = param_text ArstValue; value = w } ∷ [])
    (record { name = pin_text Clk; width = lc } ∷ record { name = pin_text Arst; width = la } ∷ record { name = pin_text D; width = ld } ∷ record { name = pin_text Q; width = lq } ∷ []) ≡ None
adff_fits v p r w lc la ld lq n kv nv kp kr lw ec ea ed eq some few =
    let positive : nat_lt 0 n ≡ true = lt-ltb 0 n some in
    let narrow : nat_lt 4096 n ≡ false = grind arith in
    let same : (n == n) ≡ true = eq-eqb n n refl in
    rw (kv, kp, kr, nv, lw, ec, ea, ed, eq, positive, narrow, same) refl

not_fits : (z o : List Bit) → all_known z ≡ true → all_known o ≡ true → number_of o ≡ 1
    → fault_of (Word (Unary Not)) (record { name = param_text ASigned; value = z } ∷ record { name = param_text AWidth; value = o } ∷ record { name = param_text YWidth; value = o } ∷ [])
    (record { name = pin_text A; width = 1 } ∷ record { name = pin_text Y; width = 1 } ∷ []) ≡ None
not_fits z o kz ko one = rw (kz, ko, one) refl

pub mux_fit : (c : Cell) → cell_kind c ≡ Some (Word Mux) → (n : ℕ) (a b s y : List SigBit) → length a ≡ n → length b ≡ n → length s ≡ 1 → length y ≡ n → 0 < n → n ≤ 4096 → has_constant y ≡ false → Fits (Word Mux) (mux_like c n a b s y)
unfolding cell_kind misfit
mux_fit c own n a b s y ea eb es ey some few out = record {
  own = own;
  plain = refl;
  shape = mux_fits (low_bits n 32) (length a) (length b) (length s) (length y) n (number_known n) (number_is n few) ea eb es ey some few;
  output = or_none (has_constant y) out;
}

pub pmux_fit : (c : Cell) → cell_kind c ≡ Some (Word Pmux) → (n k : ℕ) (a b s y : List SigBit) → length a ≡ n → length b ≡ n * k → length s ≡ k → length y ≡ n → 0 < n → 0 < k → n ≤ 4096 → k ≤ 4096 → n * k ≤ 4096 → has_constant y ≡ false → Fits (Word Pmux) (pmux_like c n k a b s y)
unfolding cell_kind misfit
pmux_fit c own n k a b s y ea eb es ey some many few fk fb out = record {
  own = own;
  plain = refl;
  shape = pmux_fits (low_bits n 32) (low_bits k 32) (length a) (length b) (length s) (length y) n k (number_known n) (number_known k) (number_is n few) (number_is k fk) ea eb es ey some many few fk fb;
  output = or_none (has_constant y) out;
}

pub dff_fit : (c : Cell) → cell_kind c ≡ Some (Storage Dff) → (n : ℕ) (level : Level) (clock d q : List SigBit) → length clock ≡ 1 → length d ≡ n → length q ≡ n → 0 < n → n ≤ 4096 → has_constant q ≡ false → Fits (Storage Dff) (dff_like c n level clock d q)
unfolding cell_kind misfit
dff_fit c own n level clock d q ec ed eq some few out = record {
  own = own;
  plain = refl;
  shape = dff_fits (low_bits n 32) (low_bits (polarity_of level) 32) (length clock) (length d) (length q) n (number_known n) (number_is n few) (number_known (polarity_of level)) ec ed eq some few;
  output = or_none (has_constant q) out;
}

pub adff_fit : (c : Cell) → cell_kind c ≡ Some (Storage Adff) → (n : ℕ) (level reset_level : Level) (value : List Bit) (clock reset d q : List SigBit) → length value ≡ n → length clock ≡ 1 → length reset ≡ 1 → length d ≡ n → length q ≡ n → 0 < n → n ≤ 4096 → has_constant q ≡ false → Fits (Storage Adff) (adff_like c n level reset_level value clock reset d q)
unfolding cell_kind misfit
adff_fit c own n level reset_level value clock reset d q ev ec er ed eq some few out = record {
  own = own;
  plain = refl;
  shape = adff_fits (low_bits n 32) (low_bits (polarity_of level) 32) (low_bits (polarity_of reset_level) 32) value (length clock) (length reset) (length d) (length q) n (number_known n) (number_is n few) (number_known (polarity_of level)) (number_known (polarity_of reset_level)) ev ec er ed eq some few;
  output = or_none (has_constant q) out;
}

pub inverse_fit : (c : Cell) (bit y : SigBit) → has_constant (y ∷ []) ≡ false → Fits (Word (Unary Not)) (inverse_cell c bit y)
unfolding cell_kind misfit
inverse_fit c bit y out = record {
  own = refl;
  plain = refl;
  shape = not_fits (low_bits 0 32) (low_bits 1 32) (number_known 0) (number_known 1) (number_is 1 (omega arith));
  output = or_none (has_constant (y ∷ [])) out;
}
