-- Start values that come behind others, and those of all bits.
use Rattle.std.proofs.Common.{◌≡◌, ℕ, zero, suc, ◌+◌, ◌<◌, Bool, true, false, List, [], ◌∷◌, ◌++◌, length, get_or, take, Some, None, append-nil, append_assoc, arith, refl, sym, ◌∙◌, ap, subst, slice_get}
use Rattle.std.specs.Prelude.{flat_map, if◌then◌else◌, slice_index_or, unwrap_or}
use Rattle.std.specs.List.{list_all}
use Rattle.std.specs.Option.{option_or}
use Rattle.std.proofs.lemmas.Grind.{flat_map-append}
use Rattle.std.proofs.lemmas.List.{map-append, take_more}
use Rattle.rtl_bits.specs.declared.bit.Bit.{Bit}
use Rattle.rtl_bits.specs.declared.bit.Bit.TheVariants.{X}
use Rattle.rtl_bits.specs.Tables.{seen_of}
use Rattle.rtl_sig.specs.declared.sig.SigBit.{SigBit}
use Rattle.rtl_sig.specs.declared.sig.SigBit.TheVariants.{Fixed, Wire as OnWire}
use Rattle.rtl_sig.specs.declared.sig.WireBit.{WireBit}
use Rattle.rtl_ir.specs.declared.process.Process.{Process}
use Rattle.rtl_ir.specs.declared.wire.Wire.{Wire}
use Rattle.rtl_ir.specs.Assigns.{tree_bits}
use Rattle.rtl_ir.specs.Decisions.{expanded, leaves_of}
use Rattle.rtl_ir.specs.Flat.Start.{Begun, first_constant, init_bits, last_start, process_starts, start_of}
use Rattle.rtl_ir.specs.Follow.{all_joins}
use Rattle.rtl_ir.specs.Rules.{init_lines}
use Rattle.rtl_ir.specs.SwitchRules.{root_by_rules}
use Rattle.rtl_ir.specs.Tree.{CaseView}
use Rattle.process_trees.specs.Leaves.{one_leaf}
use Rattle.rtl_ir.specs.declared.follow.Join.{Join}
use Rattle.rtl_ir.specs.Signals.{same_bit, same_place}
use Rattle.net_index.specs.IndexTable.{at_bit}
use Rattle.flat_net.specs.declared.starts.Starts.{Starts}
use Rattle.rtl_ir.specs.Starts.{inits_of}
use Rattle.flat_net.specs.Starts.{AreStarts, Gains, IsStart, starts_by}

-- one more start value
last_more : (all : List Begun) (s : Begun) (b : WireBit) → last_start (all ++ s ∷ []) b ≡ (if same_bit s.bit b then Some s.value else last_start all b)
last_more [] s b = refl
last_more (t ∷ all) s b =
    ap (λ o. option_or o (if same_bit t.bit b then Some t.value else None)) (last_more all s b) ∙ by (same_bit s.bit b)
  where
    by : (u : Bool) → option_or (if u then Some s.value else last_start all b) (if same_bit t.bit b then Some t.value else None)
        ≡ (if u then Some s.value else option_or (last_start all b) (if same_bit t.bit b then Some t.value else None))
    by true = refl
    by false = refl

pub gains_one : (old new : Starts) (s : Begun) → new.said.items ≡ old.said.items → ((b : WireBit) → at_bit new.given b ≡ (if same_bit s.bit b then Some s.value else at_bit old.given b)) → Gains old new (s ∷ [])
gains_one old new s same put = record {
  gains = λ wires all h. record {
    said = same ∙ h.said;
    given = λ b. put b ∙ (λ i. if same_bit s.bit b then Some s.value else h.given b i) ∙ sym (last_more all s b);
  };
}

pub gains_none : (s : Starts) → Gains s s []
gains_none s = record { gains = λ wires all h. subst (AreStarts s wires) (sym (append-nil all)) h }

pub gains_both : (a b c : Starts) (xs ys : List Begun) → Gains a b xs → Gains b c ys → Gains a c (xs ++ ys)
gains_both a b c xs ys h k = record { gains = λ wires all before. subst (AreStarts c wires) (append_assoc all xs ys) (k.gains wires (all ++ xs) (h.gains wires all before)) }

-- what the wires say
said_is : (wires : List Wire) (k : ℕ) → slice_index_or (inits_of wires) k [] ≡ init_bits (slice_get wires k)
said_is [] k = refl
said_is (w ∷ wires) zero = refl
said_is (w ∷ wires) (suc k) = said_is wires k

-- the start values of a module
pub starts_are : (starts : Starts) (wires : List Wire) (processes : List Process) → AreStarts starts wires (flat_map process_starts processes) → IsStart starts (start_of wires processes)
starts_are starts wires processes h (Fixed c) = refl
starts_are starts wires processes h (OnWire b) =
    (λ i. seen_of (unwrap_or (h.given b i) (slice_index_or ((ap (λ said. slice_index_or said b.wire []) h.said ∙ said_is wires b.wire) i) b.at X)))

-- one more place
pub gains_line : (root : CaseView) (bits : List WireBit) (lines : List Join) (i : ℕ) (d : Join) → i < length lines → (leaf : Bit) → leaf ≡ first_constant (leaves_of (expanded root bits (get_or lines i d).source)) → (a b c : Starts)
    → Gains a b (starts_by root bits (take i lines)) → Gains b c (record { bit = (get_or lines i d).bit; value = leaf } ∷ [])
    → Gains a c (starts_by root bits (take (i + 1) lines))
gains_line root bits lines i d lt leaf is a b c h k =
    let l : Join = get_or lines i d in
    let done : List Join = take i lines in
    let now : Gains b c (starts_by root bits (l ∷ [])) = subst (λ v. Gains b c (record { bit = l.bit; value = v } ∷ [])) is k in
    let same : starts_by root bits done ++ starts_by root bits (l ∷ []) ≡ starts_by root bits (take (i + 1) lines) =
    sym (
    ap (λ xs. starts_by root bits xs) (take_more lines i d lt)
    ∙ map-append (λ j. record { bit = j.bit; value = first_constant (leaves_of (expanded root bits j.source)) }) done (l ∷ [])) in
    subst (Gains a c) same (gains_both a b c (starts_by root bits done) (starts_by root bits (l ∷ [])) h now)

-- one more process
pub gains_process : (wires : List Wire) (processes : List Process) (i : ℕ) (d : Process) → i < length processes → d ≡ get_or processes i d → (b c : Starts) → Gains b c (process_starts d)
    → AreStarts b wires (flat_map process_starts (take i processes)) → AreStarts c wires (flat_map process_starts (take (i + 1) processes))
gains_process wires processes i d lt is b c h k =
    let all : flat_map process_starts (take (i + 1) processes) ≡ flat_map process_starts (take i processes) ++ process_starts d =
    ap (flat_map process_starts) (take_more processes i d lt ∙ ap (λ x. take i processes ++ x ∷ []) (sym is))
    ∙ flat_map-append process_starts (take i processes) (d ∷ [])
    ∙ ap (λ xs. flat_map process_starts (take i processes) ++ xs) (append-nil (process_starts d)) in
    subst (AreStarts c wires) (sym all) (h.gains wires _ k)

-- the one leaf of a value, where that is a constant
pub constant_is : (leaves : List SigBit) (b : Bit) → one_leaf leaves ≡ Some (Fixed b) → b ≡ first_constant leaves
constant_is [] b e = absurd (let none : None ≡ Some (Fixed b) = e in cc)
constant_is (s ∷ leaves) b e = by (list_all (same_place s) leaves) e
  where
    by : (t : Bool) → (if t then Some s else None) ≡ Some (Fixed b) → b ≡ first_constant (s ∷ leaves)
    by true f = let same : s ≡ Fixed b = cc in subst (λ x. b ≡ first_constant (x ∷ leaves)) (sym same) refl
    by false f = absurd (cc)

-- a process without places that give start values gives none
pub no_places : (p : Process) (lines : List Join) → lines ≡ all_joins (init_lines p.syncs) → length lines ≡ 0 → [] ≡ process_starts p
no_places p [] e h = ap (λ js. starts_by (root_by_rules p.root) (tree_bits p.root) js) e
no_places p (l ∷ lines) e h = absurd (omega arith)
