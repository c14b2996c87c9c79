-- The tokens of signals leave what is good.
use Rattle.std.proofs.Common.{◌≡◌, ℕ, zero, suc, ◌+◌, ◌-◌, ◌<◌, ◌≤◌, List, [], ◌∷◌, ◌++◌, length, take, drop, Option, Some, None, Result, Ok, Err, Bool, true, false, refl, sym, subst, ◌∙◌, arith}
use Rattle.std.specs.Prelude.{◌||◌, nat_lt, nat_le, ℤ, pos, negsuc, if◌then◌else◌, slice_get, IsSomeAnd}
use Rattle.std.specs.List.{All}
use Rattle.std.proofs.lemmas.Bool.{ltb-false}
use Rattle.std.proofs.lemmas.List.{length-take, length-drop, length-append}
use Rattle.std.proofs.lemmas.List.Elements.{All-nil, All-cons, All-head, All-tail, All-push, All-take, All-drop, All-append}
use Rattle.rtl_lex.specs.declared.sort.Sort.{Sort}
use Rattle.rtl_lex.specs.declared.sort.Sort.TheVariants as sorts
use Rattle.rtl_lex.specs.Items.{Seen}
use Rattle.rtl_sig.specs.declared.sig.SigBit.{SigBit}
use Rattle.rtl_sig.specs.declared.sig.SigBit.TheVariants as bits
use Rattle.rtl_sig.specs.Names.{number_of}
use Rattle.rtl_ir.specs.declared.value.Value.{Value}
use Rattle.rtl_ir.specs.declared.wire.Wire.{Wire}
use Rattle.rtl_grammar.specs.declared.expect.Expect.{Expect}
use Rattle.rtl_grammar.specs.declared.expect.Expect.TheVariants as expects
use Rattle.rtl_grammar.specs.Uses.{◌>>=◌}
use Rattle.rtl_grammar.specs.Grammar.Signal.{after_signal, after_inside, after_behind_inside, after_index, after_behind_index, after_low_index, after_index_end}
use Rattle.rtl_read.specs.declared.draft.Draft.{Draft}
use Rattle.rtl_read.specs.declared.signal.OpenSignal.{OpenSignal}
use Rattle.rtl_ir.specs.declared.limits.TheConstants.{MAX_BITS, MAX_WIDTH, MAX_DEPTH}
use Rattle.rtl_read.specs.declared.read_fault.ReadFault.{ReadFault}
use Rattle.rtl_read.specs.declared.read_fault.ReadFault.TheVariants as faults
use Rattle.rtl_read.specs.Constant.{constant, integer, fixed}
use Rattle.rtl_read.specs.Signal.{wire_bits, width_at, wire_signal, close_brace, inside, put_below, set_high, set_low, slice, behind_index, behind_inside}
use Rattle.rtl_read.specs.Act.Signal.{begin_signal, open_bracket}
use Rattle.rtl_readable.specs.Readable.{IsBitOf, IsSignal, IsWire}
use Rattle.rtl_write.proofs.Items.{IsGood}
use Rattle.rtl_write.proofs.GoodParts.{constant_good, fixed_good}
use Rattle.rtl_write.proofs.Stages.{Stage, Fits, In, wires_in, IsGoodSignal, ThenSignal}
use Rattle.rtl_write.proofs.Rows.{Leaves, leaves_bind_bind, leaves_if_bind}

-- ---- the bits of a wire

at_width : (wires : List Wire) (k n : ℕ) → n < width_at wires k → IsSomeAnd (slice_get wires k) (λ w. n < w.width)
at_width [] k n lt = absurd (omega (arith, lt))
at_width (w ∷ ws) zero n lt = lt
at_width (w ∷ ws) (suc k) n lt = at_width ws k n lt

all_bits : (wires : List Wire) (k n : ℕ) → n ≤ width_at wires k → All (IsBitOf wires) (wire_bits k n)
unfolding wire_bits
all_bits wires k zero le = All-nil (IsBitOf wires)
all_bits wires k (suc n) le = All-push (IsBitOf wires) (wire_bits k n) (bits.Wire (record { wire = k; at = n })) (all_bits wires k n (omega (arith, le))) (at_width wires k n (omega (arith, le)))

length_bits : (k n : ℕ) → length (wire_bits k n) ≡ n
unfolding wire_bits
length_bits k zero = refl
length_bits k (suc n) = omega (arith, length-append (wire_bits k n) (bits.Wire (record { wire = k; at = n }) ∷ []), length_bits k n)

width_within : (wires : List Wire) (k : ℕ) → All IsWire wires → width_at wires k ≤ MAX_WIDTH
width_within [] k all = omega arith
width_within (w ∷ ws) zero all = (All-head IsWire w ws all).width
width_within (w ∷ ws) (suc k) all = width_within ws k (All-tail IsWire w ws all)

wire_good : (wires : List Wire) (i : Seen) (o : Option ℕ) (b : List SigBit) → All IsWire wires → wire_signal wires i o ≡ Ok b → IsSignal wires b
wire_good wires i None b all e = absurd cc
wire_good wires i (Some k) b all e =
    let same : wire_bits k (width_at wires k) ≡ b = cc in
    let is : IsSignal wires (wire_bits k (width_at wires k)) = record { bits = all_bits wires k (width_at wires k) (omega arith); width = omega (arith, length_bits k (width_at wires k), width_within wires k all) } in
    subst (IsSignal wires) same is

pub no_bits : (wires : List Wire) → IsSignal wires []
no_bits wires = record { bits = All-nil (IsBitOf wires); width = omega arith }

-- ---- a signal begins

-- what is expected behind the token with which a signal begins
abbrev pub signal_body : List Expect → Sort → Option (List Expect)
signal_body body sorts.Id = Some body
signal_body body sorts.Value = Some body
signal_body body sorts.Int = Some body
signal_body body sorts.Chars = Some body
signal_body body sorts.OpenBrace = Some (expects.Inside ∷ body)
signal_body body sort = None

module _ (roles body : List Expect) (i : Seen) (d : Draft) (braces : All (IsSignal (wires_in d)) d.signal.braces) (next : ThenSignal (Fits (body ++ roles)) d.signal.braces d) where
  -- .. a name or a constant, whose bits are good
  plain : (r : Result (List SigBit) ReadFault) → ((b : List SigBit) → r ≡ Ok b → IsSignal (wires_in d) b) → Leaves roles (Some body) ((r >>= λ b. Ok (record d.signal { part = b; place = i.place })) >>= λ s. Ok (record d { signal = s }))
  plain (Err fault) good = tt
  plain (Ok b) good = next (record d.signal { part = b; place = i.place }) (record { part = good b refl; braces = braces }) refl

  bits_of_constant : (r : Result Value ReadFault) → ((v : Value) → r ≡ Ok v → IsSignal (wires_in d) (fixed v)) → (b : List SigBit) → (r >>= λ v. Ok (fixed v)) ≡ Ok b → IsSignal (wires_in d) b
  bits_of_constant (Err fault) good b e = absurd cc
  bits_of_constant (Ok v) good b e =
      let same : fixed v ≡ b = cc in
      subst (IsSignal (wires_in d)) same (good v refl)

  pub begin_row : (sort : Sort) → IsGood i → In d → Leaves roles (signal_body body sort) (begin_signal sort i d)
  begin_row sorts.Id good at = plain (wire_signal (wires_in d) i (number_of d.current.wire_names i.text)) (λ b e. wire_good (wires_in d) i (number_of d.current.wire_names i.text) b at.opened.body.wires e)
  begin_row sorts.Value good at = plain (constant sorts.Value i >>= λ v. Ok (fixed v)) (bits_of_constant (constant sorts.Value i) (λ v e. fixed_good (wires_in d) v (constant_good sorts.Value i v tt good e)))
  begin_row sorts.Int good at = plain (constant sorts.Int i >>= λ v. Ok (fixed v)) (bits_of_constant (constant sorts.Int i) (λ v e. fixed_good (wires_in d) v (constant_good sorts.Int i v tt good e)))
  begin_row sorts.Chars good at = plain (constant sorts.Chars i >>= λ v. Ok (fixed v)) (bits_of_constant (constant sorts.Chars i) (λ v e. fixed_good (wires_in d) v (constant_good sorts.Chars i v tt good e)))
  begin_row sorts.OpenBrace good at =
      leaves_if_bind roles (expects.Inside ∷ body) (nat_le MAX_DEPTH (length d.signal.braces)) (faults.Limit i.place) (Ok (record d.signal { braces = [] ∷ d.signal.braces })) (λ s. Ok (record d { signal = s }))
      (λ room. (at, ([], d.signal.braces, refl, no_bits (wires_in d), braces, next)))
  begin_row sort good at = tt

-- ---- rows

pub signal : (roles : List Expect) (i : Seen) (sort : Sort) (d : Draft) → IsGood i → Stage expects.Signal (Fits roles) d → Leaves roles (after_signal sort) (begin_signal sort i d)
signal roles i sorts.Id d good at = begin_row roles [] i d at.1 at.2 sorts.Id good at.0
signal roles i sorts.Value d good at = begin_row roles [] i d at.1 at.2 sorts.Value good at.0
signal roles i sorts.Int d good at = begin_row roles [] i d at.1 at.2 sorts.Int good at.0
signal roles i sorts.Chars d good at = begin_row roles [] i d at.1 at.2 sorts.Chars good at.0
signal roles i sorts.OpenBrace d good at = begin_row roles [] i d at.1 at.2 sorts.OpenBrace good at.0
signal roles i sort d good at = tt

abbrev goes_inside : Sort → Seen → Draft → Result Draft ReadFault
goes_inside sort i d = inside (wires_in d) d.current.wire_names sort i d.signal >>= λ s. Ok (record d { signal = s })

module _ (roles : List Expect) (i : Seen) (d : Draft) (good : IsGood i) (at : Stage expects.Inside (Fits roles) d) where
  all_braces : All (IsSignal (wires_in d)) d.signal.braces
  all_braces = let held = at.1 in subst (All (IsSignal (wires_in d))) (sym held.2) (All-cons (IsSignal (wires_in d)) held.0 held.1 held.3 held.4)

  then_behind : ThenSignal (Fits (expects.BehindInside ∷ roles)) d.signal.braces d
  then_behind s is e = let held = at.1 in (at.0, is.part, (held.0, held.1, e ∙ held.2, held.3, held.4, held.5))

  closes : (braces : List (List SigBit)) → d.signal.braces ≡ braces → Leaves roles (Some []) (Ok (record d { signal = close_brace i d.signal braces }))
  closes [] e = let held = at.1 in absurd (cc (held.2, e))
  closes (b ∷ bs) e =
      let held = at.1 in
      let one : held.0 ≡ b = cc (held.2, e) in
      let two : held.1 ≡ bs = cc (held.2, e) in
      held.5 (record d.signal { part = b; place = i.place; braces = bs }) (record { part = subst (IsSignal (wires_in d)) one held.3; braces = subst (All (IsSignal (wires_in d))) two held.4 }) (sym two)

  pub inside_row : (sort : Sort) → Leaves roles (after_inside sort) (goes_inside sort i d)
  inside_row sorts.Id = begin_row roles (expects.BehindInside ∷ []) i d all_braces then_behind sorts.Id good at.0
  inside_row sorts.Value = begin_row roles (expects.BehindInside ∷ []) i d all_braces then_behind sorts.Value good at.0
  inside_row sorts.Int = begin_row roles (expects.BehindInside ∷ []) i d all_braces then_behind sorts.Int good at.0
  inside_row sorts.Chars = begin_row roles (expects.BehindInside ∷ []) i d all_braces then_behind sorts.Chars good at.0
  inside_row sorts.OpenBrace = begin_row roles (expects.BehindInside ∷ []) i d all_braces then_behind sorts.OpenBrace good at.0
  inside_row sorts.CloseBrace = closes d.signal.braces refl
  inside_row sort = tt

module _ (roles : List Expect) (i : Seen) (d : Draft) (good : IsGood i) (at : Stage expects.BehindInside (Fits roles) d) where
  pub opens_inside : Leaves roles (Some (expects.Index ∷ expects.BehindInside ∷ [])) (Ok (open_bracket i d))
  opens_inside = let held = at.2 in
      (at.0, record { part = at.1; braces = subst (All (IsSignal (wires_in d))) (sym held.2) (All-cons (IsSignal (wires_in d)) held.0 held.1 held.3 held.4) }, λ s is e. (at.0, is.part, (held.0, held.1, e ∙ held.2, held.3, held.4, held.5)))

  below : (body : List Expect) (sort : Sort) (braces : List (List SigBit)) → d.signal.braces ≡ braces → ((t : OpenSignal) → Stage expects.Inside (Fits roles) (record d { signal = t }) → Leaves roles (Some body) (goes_inside sort i (record d { signal = t })))
      → Leaves roles (Some body) ((put_below d.signal braces >>= λ t. inside (wires_in d) d.current.wire_names sort i t) >>= λ s. Ok (record d { signal = s }))
  below body sort [] e row = let held = at.2 in absurd (cc (held.2, e))
  below body sort (b ∷ bs) e row =
      let held = at.2 in
      let one : held.0 ≡ b = cc (held.2, e) in
      let two : held.1 ≡ bs = cc (held.2, e) in
      let brace : IsSignal (wires_in d) b = subst (IsSignal (wires_in d)) one held.3 in
      let put : OpenSignal = record d.signal { braces = (d.signal.part ++ b) ∷ bs } in
      let step : OpenSignal → Result OpenSignal ReadFault = λ t. inside (wires_in d) d.current.wire_names sort i t in
      let over : OpenSignal → Result Draft ReadFault = λ s. Ok (record d { signal = s }) in
      wide (nat_lt MAX_BITS (length d.signal.part + length b)) put step over refl
      (λ few. row put (
        at.0,
        (
          d.signal.part ++ b,
          bs,
          refl,
          record { bits = All-append (IsBitOf (wires_in d)) d.signal.part b at.1.bits brace.bits; width = omega (arith, length-append d.signal.part b, ltb-false MAX_BITS (length d.signal.part + length b) few) },
          subst (All (IsSignal (wires_in d))) two held.4,
          subst (λ (l : List (List SigBit)). ThenSignal (Fits roles) l d) two held.5,
        ),
      ))
    where
      wide : (c : Bool) (put : OpenSignal) (step : OpenSignal → Result OpenSignal ReadFault) (over : OpenSignal → Result Draft ReadFault) → nat_lt MAX_BITS (length d.signal.part + length b) ≡ c → (c ≡ false → Leaves roles (Some body) (step put >>= over))
          → Leaves roles (Some body) (((if c then Err (faults.Limit d.signal.place) else Ok put) >>= step) >>= over)
      wide true put step over e on = tt
      wide false put step over e on = on refl

  pub behind_inside_row : (sort : Sort) → Leaves roles (after_behind_inside sort) (behind_inside (wires_in d) d.current.wire_names sort i d.signal >>= λ s. Ok (record d { signal = s }))
  behind_inside_row sorts.OpenIndex = opens_inside
  behind_inside_row sorts.Id = below (expects.BehindInside ∷ []) sorts.Id d.signal.braces refl (λ t at. inside_row roles i (record d { signal = t }) good at sorts.Id)
  behind_inside_row sorts.Value = below (expects.BehindInside ∷ []) sorts.Value d.signal.braces refl (λ t at. inside_row roles i (record d { signal = t }) good at sorts.Value)
  behind_inside_row sorts.Int = below (expects.BehindInside ∷ []) sorts.Int d.signal.braces refl (λ t at. inside_row roles i (record d { signal = t }) good at sorts.Int)
  behind_inside_row sorts.Chars = below (expects.BehindInside ∷ []) sorts.Chars d.signal.braces refl (λ t at. inside_row roles i (record d { signal = t }) good at sorts.Chars)
  behind_inside_row sorts.OpenBrace = below (expects.Inside ∷ expects.BehindInside ∷ []) sorts.OpenBrace d.signal.braces refl (λ t at. inside_row roles i (record d { signal = t }) good at sorts.OpenBrace)
  behind_inside_row sorts.CloseBrace = below [] sorts.CloseBrace d.signal.braces refl (λ t at. inside_row roles i (record d { signal = t }) good at sorts.CloseBrace)
  behind_inside_row sort = tt

-- ---- slices

module _ (roles : List Expect) (i : Seen) (d : Draft) (is : IsGoodSignal (wires_in d) d.signal) (next : ThenSignal (Fits roles) d.signal.braces d) where
  sliced : (low high : ℤ) → Leaves roles (Some []) (slice i low high d.signal >>= λ s. Ok (record d { signal = s }))
  sliced (negsuc low) high = tt
  sliced (pos low) (negsuc high) = tt
  sliced (pos low) (pos high) =
      let rest : List SigBit = drop low d.signal.part in
      let cut : List SigBit = take (high + 1 - low) rest in
      let good : IsSignal (wires_in d) cut = record {
        bits = All-take (IsBitOf (wires_in d)) (high + 1 - low) rest (All-drop (IsBitOf (wires_in d)) low d.signal.part is.part.bits);
        width = omega (arith, length-take (high + 1 - low) rest, length-drop low d.signal.part, is.part.width);
      } in
      leaves_if_bind roles [] (nat_lt high low || nat_le (length d.signal.part) high) (faults.Range d.signal.bracket) (Ok (record d.signal { part = cut; place = i.place })) (λ s. Ok (record d { signal = s }))
      (λ in_range. next (record d.signal { part = cut; place = i.place }) (record { part = good; braces = is.braces }) refl)

pub index : (roles : List Expect) (i : Seen) (sort : Sort) (d : Draft) → Stage expects.Index (Fits roles) d → Leaves roles (after_index sort) (set_high i d.signal >>= λ s. Ok (record d { signal = s }))
index roles i sorts.Int d at = leaves_bind_bind roles (expects.BehindIndex ∷ []) (integer i.number i) (λ n. Ok (record d.signal { high = n })) (λ s. Ok (record d { signal = s })) (λ n e. (at.0, record { part = at.1.part; braces = at.1.braces }, at.2))
index roles i sort d at = tt

pub behind : (roles : List Expect) (i : Seen) (sort : Sort) (d : Draft) → Stage expects.BehindIndex (Fits roles) d → Leaves roles (after_behind_index sort) (behind_index sort i d.signal >>= λ s. Ok (record d { signal = s }))
behind roles i sorts.CloseIndex d at = sliced roles i d at.1 at.2 d.signal.high d.signal.high
behind roles i sorts.Colon d at = at
behind roles i sort d at = tt

pub low_index : (roles : List Expect) (i : Seen) (sort : Sort) (d : Draft) → Stage expects.LowIndex (Fits roles) d → Leaves roles (after_low_index sort) (set_low i d.signal >>= λ s. Ok (record d { signal = s }))
low_index roles i sorts.Int d at = leaves_bind_bind roles (expects.IndexEnd ∷ []) (integer i.number i) (λ n. Ok (record d.signal { low = n })) (λ s. Ok (record d { signal = s })) (λ n e. (at.0, record { part = at.1.part; braces = at.1.braces }, at.2))
low_index roles i sort d at = tt

pub index_end : (roles : List Expect) (i : Seen) (sort : Sort) (d : Draft) → Stage expects.IndexEnd (Fits roles) d → Leaves roles (after_index_end sort) (slice i d.signal.low d.signal.high d.signal >>= λ s. Ok (record d { signal = s }))
index_end roles i sorts.CloseIndex d at = sliced roles i d at.1 at.2 d.signal.low d.signal.high
index_end roles i sort d at = tt
