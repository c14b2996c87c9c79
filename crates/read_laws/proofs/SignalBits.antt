-- What signals stand for is what their items do.
use Rattle.std.proofs.Common.{None, ◌≡◌, ℕ, suc, ◌+◌, ◌-◌, ◌<◌, ◌≤◌, List, [], ◌∷◌, ◌++◌, length, take, drop, Option, Some, Result, Ok, Err, Bool, true, refl, sym, ap, subst, ◌∙◌, append_assoc, append-nil, length-append, arith}
use Rattle.std.specs.Prelude.{ℤ, pos, nat_lt, nat_le, if◌then◌else◌, ◌||◌}
use Rattle.std.proofs.lemmas.Bool.{le-ltb, lt-leb}
use Rattle.rtl_lex.specs.declared.sort.Sort.{Sort}
use Rattle.rtl_lex.specs.declared.sort.Sort.TheVariants as sorts
use Rattle.rtl_lex.specs.declared.place.Place.{Place}
use Rattle.rtl_lex.specs.Place.{start}
use Rattle.rtl_lex.specs.Items.{Seen}
use Rattle.rtl_sig.specs.declared.sig.SigBit.{SigBit}
use Rattle.rtl_ir.specs.declared.wire.Wire.{Wire}
use Rattle.rtl_grammar.specs.declared.expect.Expect.{Expect}
use Rattle.rtl_grammar.specs.declared.expect.Expect.TheVariants as expects
use Rattle.rtl_grammar.specs.Uses.{Use, Action, run, ◌>>=◌}
use Rattle.rtl_read.specs.declared.draft.Draft.{Draft}
use Rattle.rtl_ir.specs.declared.limits.TheConstants.{MAX_BITS, MAX_DEPTH}
use Rattle.rtl_read.specs.declared.read_fault.ReadFault.{ReadFault}
use Rattle.rtl_read.specs.declared.read_fault.ReadFault.TheVariants as faults
use Rattle.rtl_read.specs.declared.signal.OpenSignal.{OpenSignal}
use Rattle.rtl_read.specs.Constant.{integer}
use Rattle.rtl_read.specs.Signal.{plain_signal, begin, close_brace, inside, put_below, open_index, behind_inside, slice, behind_index}
use Rattle.rtl_read.specs.Act.{act}
use Rattle.rtl_read.specs.Act.Signal.{begin_signal, without_signal}
use Rattle.rtl_read.specs.Act.Pair.{act_behind_left}
use Rattle.rtl_read.specs.Act.Switch.{act_patterns}
use Rattle.rtl_read.specs.Act.Sync.{act_behind_address, act_behind_value}
use Rattle.rtl_read.specs.Meaning.Process.{with_address, with_value}
use Rattle.rtl_read.specs.Signal.{some_bits}
use Rattle.read_laws.proofs.Places.{stands_behind}
use Rattle.read_laws.specs.SignalBits.{Written, Plain, At, Slice, Braced, Parts, NoPart, OnePart, is_plain, IsWritten, AreWritten, IsCut, StandsFor, StandFor, depth_of, depth_in, placed, places_of, places_in, is_behind, may_stand, taken_at, where_some}

-- ---- what uses do one after another

pub bind_on : {S T F : Type 0} (r : Result S F) (x : S) (f : S → Result T F) → r ≡ Ok x → (r >>= f) ≡ f x
bind_on {S} {T} {F} r x f e = ap (λ (y : Result S F). y >>= f) e

run_on : {S F : Type 0} (act : Action S F) (us vs : List Use) (x y : S) → run act x us ≡ Ok y → run act x (us ++ vs) ≡ run act y vs
run_on act [] vs x y e = cc
run_on {S} {F} act (u ∷ us) vs x y e = first (act u.role u.item x) (λ n. run_on act us vs n y) e
  where
    first : (r : Result S F) → ((n : S) → run act n us ≡ Ok y → run act n (us ++ vs) ≡ run act y vs) → (r >>= λ n. run act n us) ≡ Ok y → (r >>= λ n. run act n (us ++ vs)) ≡ run act y vs
    first (Ok n) on e = on n e
    first (Err f) on e = absurd cc

pub then_runs : {S F : Type 0} (act : Action S F) (us vs : List Use) (x y z : S) → run act x us ≡ Ok y → run act y vs ≡ Ok z → run act x (us ++ vs) ≡ Ok z
then_runs act us vs x y z e f = run_on act us vs x y e ∙ f

-- ---- where a signal begins

-- the sorts with which a signal begins
abbrev starts : Sort → Bool
starts sorts.OpenBrace = true
starts sort = is_plain sort

plain_starts : (sort : Sort) → is_plain sort ≡ true → starts sort ≡ true
plain_starts sorts.Id e = refl
plain_starts sorts.Value e = refl
plain_starts sorts.Int e = refl
plain_starts sorts.Chars e = refl
plain_starts sort e = absurd cc

begins_plain : (wires : List Wire) (names : List (List ℕ)) (sort : Sort) (i : Seen) (s : OpenSignal) → is_plain sort ≡ true → begin wires names sort i s ≡ (plain_signal wires names sort i >>= λ b. Ok (record s { part = b; place = i.place }))
begins_plain wires names sorts.Id i s e = refl
begins_plain wires names sorts.Value i s e = refl
begins_plain wires names sorts.Int i s e = refl
begins_plain wires names sorts.Chars i s e = refl
begins_plain wires names sort i s e = absurd cc

begins_inside : (wires : List Wire) (names : List (List ℕ)) (sort : Sort) (i : Seen) (s : OpenSignal) → starts sort ≡ true → inside wires names sort i s ≡ begin wires names sort i s
begins_inside wires names sorts.Id i s e = refl
begins_inside wires names sorts.Value i s e = refl
begins_inside wires names sorts.Int i s e = refl
begins_inside wires names sorts.Chars i s e = refl
begins_inside wires names sorts.OpenBrace i s e = refl
begins_inside wires names sort i s e = absurd cc

begins_behind : (wires : List Wire) (names : List (List ℕ)) (sort : Sort) (i : Seen) (s t : OpenSignal) → starts sort ≡ true → put_below s s.braces ≡ Ok t → behind_inside wires names sort i s ≡ begin wires names sort i t
begins_behind wires names sorts.Id i s t e p = bind_on (put_below s s.braces) t (λ u. inside wires names sorts.Id i u) p
begins_behind wires names sorts.Value i s t e p = bind_on (put_below s s.braces) t (λ u. inside wires names sorts.Value i u) p
begins_behind wires names sorts.Int i s t e p = bind_on (put_below s s.braces) t (λ u. inside wires names sorts.Int i u) p
begins_behind wires names sorts.Chars i s t e p = bind_on (put_below s s.braces) t (λ u. inside wires names sorts.Chars i u) p
begins_behind wires names sorts.OpenBrace i s t e p = bind_on (put_below s s.braces) t (λ u. inside wires names sorts.OpenBrace i u) p
begins_behind wires names sort i s t e p = absurd cc

-- the draft with this signal
abbrev with : Draft → OpenSignal → Draft
with d s = record d { signal = s }

abbrev then_with : Draft → Result OpenSignal ReadFault → Result Draft ReadFault
then_with d r = r >>= λ s. Ok (with d s)

-- at this place a signal begins, from this open signal on
record Starts (d : Draft) (first : Expect) (x : Draft) (s : OpenSignal) : Type 0 where
  begins : (i : Seen) → starts i.sort ≡ true → act first i x ≡ then_with d (begin d.current.body.wires d.current.wire_names i.sort i s)

-- .. or the braces close
record IsReady (d : Draft) (place : Expect) (x : Draft) (s : OpenSignal) : Type 0 where
  starts : Starts d place x s
  closes : (i : Seen) → i.sort ≡ sorts.CloseBrace → act place i x ≡ Ok (with d (close_brace i s s.braces))

signal_starts : (d : Draft) (s : OpenSignal) → Starts d expects.Signal (with d s) s
signal_starts d s = record { begins = λ i e. refl }

inside_ready : (d : Draft) (s : OpenSignal) → IsReady d expects.Inside (with d s) s
inside_ready d s = record {
  starts = record { begins = λ i e. ap (then_with d) (begins_inside d.current.body.wires d.current.wire_names i.sort i s e) };
  closes = λ i e. ap (λ (sort : Sort). then_with d (inside d.current.body.wires d.current.wire_names sort i s)) e;
}

behind_ready : (d : Draft) (s t : OpenSignal) → put_below s s.braces ≡ Ok t → IsReady d expects.BehindInside (with d s) t
behind_ready d s t p = record {
  starts = record { begins = λ i e. ap (then_with d) (begins_behind d.current.body.wires d.current.wire_names i.sort i s t e p) };
  closes = λ i e.
      ap (λ (sort : Sort). then_with d (behind_inside d.current.body.wires d.current.wire_names sort i s)) e
      ∙ ap (λ (r : Result OpenSignal ReadFault). then_with d (r >>= λ u. inside d.current.body.wires d.current.wire_names sorts.CloseBrace i u)) p;
}

-- ---- brackets

-- an item by its sort
of_sort : (i : Seen) (sort : Sort) → i.sort ≡ sort → i ≡ record { sort = sort; text = i.text; number = i.number; place = i.place }
of_sort i sort e = ap (λ (s : Sort). record { sort = s; text = i.text; number = i.number; place = i.place }) e

abbrev opening : List ℕ → Option ℤ → Place → Seen
opening text number place = record { sort = sorts.OpenIndex; text = text; number = number; place = place }

opens_so : (behind : Expect) (text : List ℕ) (number : Option ℤ) (place : Place) (d : Draft) (s : OpenSignal) → is_behind behind ≡ true → act behind (opening text number place) (with d s) ≡ Ok (with d (open_index (opening text number place) s))
opens_so expects.BehindPin text number place d s e = refl
opens_so expects.BehindLeft text number place d s e = refl
opens_so expects.BehindRight text number place d s e = refl
opens_so expects.BehindSwitch text number place d s e = refl
opens_so expects.BehindPattern text number place d s e = refl
opens_so expects.BehindEvent text number place d s e = refl
opens_so expects.BehindAddress text number place d s e = refl
opens_so expects.BehindValue text number place d s e = refl
opens_so expects.BehindEnable text number place d s e = refl
opens_so expects.BehindInside text number place d s e = refl
opens_so role text number place d s e = absurd cc

opens : (behind : Expect) (i : Seen) (d : Draft) (s : OpenSignal) → is_behind behind ≡ true → i.sort ≡ sorts.OpenIndex → act behind i (with d s) ≡ Ok (with d (open_index i s))
opens behind i d s b e =
    subst (λ (x : Seen). act behind x (with d s) ≡ Ok (with d (open_index x s))) (sym (of_sort i sorts.OpenIndex e)) (opens_so behind i.text i.number i.place d s b)

-- the numbers in a bracket
reads_integer : {T : Type 0} (i : Seen) (n : ℤ) (f : ℤ → Result T ReadFault) → i.number ≡ Some n → (integer i.number i >>= f) ≡ f n
reads_integer {T} i n f e = ap (λ (o : Option ℤ). integer o i >>= f) e

abbrev cut_at : Seen → ℕ → ℕ → OpenSignal → OpenSignal
cut_at i low high s = record s { part = take (high + 1 - low) (drop low s.part); place = i.place }

cuts : (i : Seen) (low high : ℕ) (s : OpenSignal) → low ≤ high → high < length s.part → slice i (pos low) (pos high) s ≡ Ok (cut_at i low high s)
cuts i low high s order within =
    ap (λ (b : Bool). if b || nat_le (length s.part) high then Err (faults.Range s.bracket) else Ok (cut_at i low high s)) (le-ltb high low order)
    ∙ ap (λ (b : Bool). if b then Err (faults.Range s.bracket) else Ok (cut_at i low high s)) (lt-leb (length s.part) high within)

-- what uses leave: a signal with these bits, in these braces
record Leaves (d : Draft) (x : Draft) (uses : List Use) (bits : List SigBit) (braces : List (List SigBit)) : Type 0 where
  signal : OpenSignal
  runs : run act x uses ≡ Ok (with d signal)
  part : signal.part ≡ bits
  around : signal.braces ≡ braces

abbrev fine : Draft → Result Draft ReadFault
fine d = Ok d

cuts_one : (d : Draft) (s : OpenSignal) (behind : Expect) (left n right : Seen) (bits : List SigBit) → is_behind behind ≡ true → left.sort ≡ sorts.OpenIndex → right.sort ≡ sorts.CloseIndex → IsCut s.part n n bits → Leaves d (with d s) (placed behind left ∷ placed expects.Index n ∷ placed expects.BehindIndex right ∷ []) bits s.braces
cuts_one d s behind left n right bits b o c cut =
    let s1 : OpenSignal = open_index left s in
    let s2 : OpenSignal = record s1 { high = pos cut.m } in
    let s3 : OpenSignal = cut_at right cut.m cut.m s2 in
    let same : cut.n ≡ cut.m = cc (cut.is_high, cut.is_low) in
    let last : act expects.BehindIndex right (with d s2) ≡ Ok (with d s3) =
    ap (λ (sort : Sort). then_with d (behind_index sort right s2)) c ∙ ap (then_with d) (cuts right cut.m cut.m s2 (omega arith) cut.within) in
    record {
      signal = s3;
      runs =
          bind_on (act behind left (with d s)) (with d s1) (λ x. run act x (placed expects.Index n ∷ placed expects.BehindIndex right ∷ [])) (opens behind left d s b o)
          ∙ ap (λ (o : Option ℤ). then_with d (integer o n >>= λ k. Ok (record s1 { high = k })) >>= λ x. run act x (placed expects.BehindIndex right ∷ [])) cut.is_high
          ∙ bind_on (act expects.BehindIndex right (with d s2)) (with d s3) fine last;
      part = ap (λ (k : ℕ). take (cut.m + 1 - k) (drop k s.part)) (sym same) ∙ sym cut.are;
      around = refl;
    }

cuts_two : (d : Draft) (s : OpenSignal) (behind : Expect) (left m colon n right : Seen) (bits : List SigBit) → is_behind behind ≡ true → left.sort ≡ sorts.OpenIndex → colon.sort ≡ sorts.Colon → IsCut s.part m n bits → Leaves d (with d s) (placed behind left ∷ placed expects.Index m ∷ placed expects.BehindIndex colon ∷ placed expects.LowIndex n ∷ placed expects.IndexEnd right ∷ []) bits s.braces
cuts_two d s behind left m colon n right bits b o c cut =
    let s1 : OpenSignal = open_index left s in
    let s2 : OpenSignal = record s1 { high = pos cut.m } in
    let s3 : OpenSignal = record s2 { low = pos cut.n } in
    let s4 : OpenSignal = cut_at right cut.n cut.m s3 in
    let colons : act expects.BehindIndex colon (with d s2) ≡ Ok (with d s2) = ap (λ (sort : Sort). then_with d (behind_index sort colon s2)) c in
    let last : act expects.IndexEnd right (with d s3) ≡ Ok (with d s4) = ap (then_with d) (cuts right cut.n cut.m s3 cut.order cut.within) in
    record {
      signal = s4;
      runs =
          bind_on (act behind left (with d s)) (with d s1) (λ x. run act x (placed expects.Index m ∷ placed expects.BehindIndex colon ∷ placed expects.LowIndex n ∷ placed expects.IndexEnd right ∷ [])) (opens behind left d s b o)
          ∙ ap (λ (o : Option ℤ). then_with d (integer o m >>= λ k. Ok (record s1 { high = k })) >>= λ x. run act x (placed expects.BehindIndex colon ∷ placed expects.LowIndex n ∷ placed expects.IndexEnd right ∷ [])) cut.is_high
          ∙ bind_on (act expects.BehindIndex colon (with d s2)) (with d s2) (λ x. run act x (placed expects.LowIndex n ∷ placed expects.IndexEnd right ∷ [])) colons
          ∙ ap (λ (o : Option ℤ). then_with d (integer o n >>= λ k. Ok (record s2 { low = k })) >>= λ x. run act x (placed expects.IndexEnd right ∷ [])) cut.is_low
          ∙ bind_on (act expects.IndexEnd right (with d s3)) (with d s4) fine last;
      part = sym cut.are;
      around = refl;
    }

-- a signal, and then a bracket behind it
then_cut : (d x : Draft) (us vs : List Use) (whole bits : List SigBit) (braces : List (List SigBit)) → (first : Leaves d x us whole braces) → Leaves d (with d first.signal) vs bits first.signal.braces → Leaves d x (us ++ vs) bits braces
then_cut d x us vs whole bits braces first last = record {
  signal = last.signal;
  runs = run_on act us vs x (with d first.signal) first.runs ∙ last.runs;
  part = last.part;
  around = last.around ∙ first.around;
}

-- ---- braces

opens_brace : (wires : List Wire) (names : List (List ℕ)) (i : Seen) (s : OpenSignal) → length s.braces < MAX_DEPTH → begin wires names sorts.OpenBrace i s ≡ Ok (record s { braces = [] ∷ s.braces })
opens_brace wires names i s lt =
    ap (λ (b : Bool). if b then Err (faults.Limit i.place) else Ok (record s { braces = [] ∷ s.braces })) (lt-leb MAX_DEPTH (length s.braces) lt)

puts_below : (s : OpenSignal) (top acc : List SigBit) (outer : List (List SigBit)) → s.part ≡ top → s.braces ≡ acc ∷ outer → length (top ++ acc) ≤ MAX_BITS → put_below s s.braces ≡ Ok (record s { braces = (top ++ acc) ∷ outer })
puts_below s top acc outer p b le =
    let within : length top + length acc ≤ MAX_BITS = omega (arith, le, length-append top acc) in
    ap (put_below s) b
    ∙ ap (λ (part : List SigBit). if nat_lt MAX_BITS (length part + length acc) then Err (faults.Limit s.place) else Ok (record s { braces = (part ++ acc) ∷ outer })) p
    ∙ ap (λ (b : Bool). if b then Err (faults.Limit s.place) else Ok (record s { braces = (top ++ acc) ∷ outer })) (le-ltb MAX_BITS (length top + length acc) within)

mutual
  leaves_bits : (signal : Written) (bits : List SigBit) (d x : Draft) (s : OpenSignal) (first behind : Expect) → is_behind behind ≡ true → Starts d first x s → IsWritten signal → StandsFor d.current.body.wires d.current.wire_names signal bits → depth_of signal + length s.braces ≤ MAX_DEPTH → Leaves d x (places_of first behind signal) bits s.braces
  leaves_bits (Plain i) bits d x s first behind b st w stands deep =
      let one : act first i x ≡ Ok (with d (record s { part = bits; place = i.place })) =
      st.begins i (plain_starts i.sort w)
      ∙ ap (then_with d) (begins_plain d.current.body.wires d.current.wire_names i.sort i s w ∙ bind_on (plain_signal d.current.body.wires d.current.wire_names i.sort i) bits (λ p. Ok (record s { part = p; place = i.place })) stands) in
      record { signal = record s { part = bits; place = i.place }; runs = bind_on (act first i x) (with d (record s { part = bits; place = i.place })) fine one; part = refl; around = refl }
  leaves_bits (At signal left n right) bits d x s first behind b st w stands deep =
      let front = leaves_bits signal stands.0 d x s first behind b st w.0 stands.1 deep in
      let cut : IsCut front.signal.part n n bits = subst (λ (p : List SigBit). IsCut p n n bits) (sym front.part) stands.2 in
      then_cut d x (places_of first behind signal) (placed behind left ∷ placed expects.Index n ∷ placed expects.BehindIndex right ∷ []) stands.0 bits s.braces front (cuts_one d front.signal behind left n right bits b w.1 w.3 cut)
  leaves_bits (Slice signal left m colon n right) bits d x s first behind b st w stands deep =
      let front = leaves_bits signal stands.0 d x s first behind b st w.0 stands.1 deep in
      let cut : IsCut front.signal.part m n bits = subst (λ (p : List SigBit). IsCut p m n bits) (sym front.part) stands.2 in
      then_cut d x (places_of first behind signal) (placed behind left ∷ placed expects.Index m ∷ placed expects.BehindIndex colon ∷ placed expects.LowIndex n ∷ placed expects.IndexEnd right ∷ []) stands.0 bits s.braces front (cuts_two d front.signal behind left m colon n right bits b w.1 w.3 cut)
  leaves_bits (Braced left parts right) bits d x s first behind b st w stands deep =
      let s1 : OpenSignal = record s { braces = [] ∷ s.braces } in
      let starts_so : starts left.sort ≡ true = ap starts w.0 in
      let one : act first left x ≡ Ok (with d s1) =
      st.begins left starts_so
      ∙ ap (λ (sort : Sort). then_with d (begin d.current.body.wires d.current.wire_names sort left s)) w.0
      ∙ ap (then_with d) (opens_brace d.current.body.wires d.current.wire_names left s (omega (arith, deep))) in
      let all : bits ++ [] ≡ bits = append-nil bits in
      let more = leaves_all parts right bits d (with d s1) s1 [] s.braces expects.Inside w.1 w.2 (inside_ready d s1) refl stands.0 (omega (arith, stands.1, ap length all)) (omega (arith, deep)) in
      record { signal = more.signal; runs = then_runs act (placed first left ∷ []) (places_in expects.Inside parts right) x (with d s1) (with d more.signal) (bind_on (act first left x) (with d s1) fine one) more.runs; part = more.part ∙ all; around = more.around }

  leaves_all : (parts : Parts) (right : Seen) (bits : List SigBit) (d x : Draft) (s : OpenSignal) (acc : List SigBit) (outer : List (List SigBit)) (place : Expect) → AreWritten parts → right.sort ≡ sorts.CloseBrace → IsReady d place x s → s.braces ≡ acc ∷ outer → StandFor d.current.body.wires d.current.wire_names parts bits → length (bits ++ acc) ≤ MAX_BITS → depth_in parts + 1 + length outer ≤ MAX_DEPTH → Leaves d x (places_in place parts right) (bits ++ acc) outer
  leaves_all NoPart right bits d x s acc outer place w c ready braces stand le deep =
      let closed : close_brace right s s.braces ≡ record s { part = acc; place = right.place; braces = outer } = ap (close_brace right s) braces in
      record {
        signal = record s { part = acc; place = right.place; braces = outer };
        runs = bind_on (act place right x) (with d (close_brace right s s.braces)) fine (ready.closes right c) ∙ ap (λ (t : OpenSignal). fine (with d t)) closed;
        part = ap (λ (b : List SigBit). b ++ acc) (sym stand);
        around = refl;
      }
  leaves_all (OnePart signal parts) right bits d x s acc outer place w c ready braces stand le deep =
      let top = stand.0 in
      let rest = stand.1 in
      let count : length s.braces ≡ suc (length outer) = ap length braces in
      let front = leaves_bits signal top d x s place expects.BehindInside refl ready.starts w.0 stand.2 (omega (arith, deep, count)) in
      let shape : (rest ++ top) ++ acc ≡ rest ++ (top ++ acc) = append_assoc rest top acc in
      let are : bits ++ acc ≡ rest ++ (top ++ acc) = ap (λ (b : List SigBit). b ++ acc) stand.4 ∙ shape in
      let fits : length (rest ++ (top ++ acc)) ≤ MAX_BITS = omega (arith, le, ap length are) in
      let t : OpenSignal = record front.signal { braces = (top ++ acc) ∷ outer } in
      let put : put_below front.signal front.signal.braces ≡ Ok t = puts_below front.signal top acc outer front.part (front.around ∙ braces) (omega (arith, fits, length-append rest (top ++ acc))) in
      let more = leaves_all parts right rest d (with d front.signal) t (top ++ acc) outer expects.BehindInside w.1 c (behind_ready d front.signal t put) refl stand.3 fits (omega (arith, deep)) in
      record {
        signal = more.signal;
        runs = then_runs act (places_of place expects.BehindInside signal) (places_in expects.BehindInside parts right) x (with d front.signal) (with d more.signal) front.runs more.runs;
        part = more.part ∙ sym are;
        around = more.around;
      }

-- ---- wherever a signal may stand

-- some item
bare : Seen
bare = record { sort = sorts.Line; text = []; number = None; place = start }

some_same : {A : Type 0} (x y : A) → Some x ≡ Some y → x ≡ y
some_same x y e = cc

patterns_begin : (sort : Sort) (i : Seen) (d : Draft) → starts sort ≡ true → act_patterns sort i d ≡ begin_signal sort i d
patterns_begin sorts.Id i d e = refl
patterns_begin sorts.Value i d e = refl
patterns_begin sorts.Int i d e = refl
patterns_begin sorts.Chars i d e = refl
patterns_begin sorts.OpenBrace i d e = refl
patterns_begin sort i d e = absurd cc

abbrev left_taken : Draft → Draft
left_taken d = record (without_signal d) { left = d.signal.part }

left_begins : (sort : Sort) (i : Seen) (d : Draft) → starts sort ≡ true → act_behind_left sort i d ≡ begin_signal sort i (left_taken d)
left_begins sorts.Id i d e = refl
left_begins sorts.Value i d e = refl
left_begins sorts.Int i d e = refl
left_begins sorts.Chars i d e = refl
left_begins sorts.OpenBrace i d e = refl
left_begins sort i d e = absurd cc

-- where the bits are some, they are taken
some_taken : (bits : List SigBit) (x d : Draft) (i : Seen) → where_some bits x ≡ Some d → (some_bits bits i ≡ Ok bits) × (x ≡ d)
some_taken [] x d i e = absurd cc
some_taken (b ∷ bs) x d i e = (refl, some_same x d e)

abbrev address_taken : Draft → List SigBit → Draft
address_taken d sig = record (without_signal d) { process = with_address sig d.process }

abbrev value_taken : Draft → List SigBit → Draft
value_taken d sig = record (without_signal d) { process = with_value sig d.process }

address_begins : (sort : Sort) (i : Seen) (d : Draft) → starts sort ≡ true → act_behind_address sort i d ≡ (some_bits d.signal.part i >>= λ sig. begin_signal sort i (address_taken d sig))
address_begins sorts.Id i d e = refl
address_begins sorts.Value i d e = refl
address_begins sorts.Int i d e = refl
address_begins sorts.Chars i d e = refl
address_begins sorts.OpenBrace i d e = refl
address_begins sort i d e = absurd cc

value_begins : (sort : Sort) (i : Seen) (d : Draft) → starts sort ≡ true → act_behind_value sort i d ≡ (some_bits d.signal.part i >>= λ sig. begin_signal sort i (value_taken d sig))
value_begins sorts.Id i d e = refl
value_begins sorts.Value i d e = refl
value_begins sorts.Int i d e = refl
value_begins sorts.Chars i d e = refl
value_begins sorts.OpenBrace i d e = refl
value_begins sort i d e = absurd cc

starts_at : (first behind : Expect) (x d : Draft) → may_stand first behind ≡ true → taken_at first x ≡ Some d → Starts d first x d.signal
starts_at expects.Signal behind x d b t = subst (λ (y : Draft). Starts y expects.Signal x y.signal) (some_same x d t) (signal_starts x x.signal)
starts_at expects.Patterns expects.BehindPattern x d b t =
    subst (λ (y : Draft). Starts y expects.Patterns x y.signal) (some_same x d t) (record { begins = λ i e. patterns_begin i.sort i x e })
starts_at expects.BehindLeft expects.BehindRight x d b t =
    subst (λ (y : Draft). Starts y expects.BehindLeft x y.signal) (some_same (left_taken x) d t) (record { begins = λ i e. left_begins i.sort i x e })
starts_at expects.BehindAddress expects.BehindValue x d b t =
    let y : Draft = address_taken x x.signal.part in
    subst (λ (z : Draft). Starts z expects.BehindAddress x z.signal) (some_taken x.signal.part y d bare t).1
    (record { begins = λ i e. address_begins i.sort i x e ∙ bind_on (some_bits x.signal.part i) x.signal.part (λ sig. begin_signal i.sort i (address_taken x sig)) (some_taken x.signal.part y d i t).0 })
starts_at expects.BehindValue expects.BehindEnable x d b t =
    let y : Draft = value_taken x x.signal.part in
    subst (λ (z : Draft). Starts z expects.BehindValue x z.signal) (some_taken x.signal.part y d bare t).1
    (record { begins = λ i e. value_begins i.sort i x e ∙ bind_on (some_bits x.signal.part i) x.signal.part (λ sig. begin_signal i.sort i (value_taken x sig)) (some_taken x.signal.part y d i t).0 })
starts_at first behind x d b t = absurd cc

pub bits_so : (signal : Written) (bits : List SigBit) (first behind : Expect) (before d : Draft) → may_stand first behind ≡ true → taken_at first before ≡ Some d → IsWritten signal → StandsFor d.current.body.wires d.current.wire_names signal bits → depth_of signal + length d.signal.braces ≤ MAX_DEPTH → (s : OpenSignal) × (run act before (places_of first behind signal) ≡ Ok (record d { signal = s })) × (s.part ≡ bits) × (s.braces ≡ d.signal.braces)
bits_so signal bits first behind before d b t w stands deep =
    let last = leaves_bits signal bits d before d.signal first behind (stands_behind first behind b) (starts_at first behind before d b t) w stands deep in
    (last.signal, last.runs, last.part, last.around)
