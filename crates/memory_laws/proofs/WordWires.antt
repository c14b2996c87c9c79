-- The words that are made: each address has its word, as wide as it was, and a wire that stands for it has its start value.
use Rattle.std.proofs.Common.{◌≡◌, ℕ, zero, suc, ◌+◌, Bool, true, false, List, [], ◌∷◌, ◌++◌, length, Some, if◌then◌else◌, inl, inr, refl, sym, ◌∙◌, ap, arith}
use Rattle.std.specs.Prelude.{◌==◌, map, slice_get, slice_index_or}
use Rattle.std.proofs.lemmas.Bool.{eq-eqb, eqb-true}
use Rattle.rtl_bits.specs.Tables.{seen_of}
use Rattle.rtl_bits.specs.declared.bit.Bit.{Bit}
use Rattle.rtl_bits.specs.declared.bit.Bit.TheVariants.{X}
use Rattle.rtl_sig.specs.declared.sig.SigBit.{SigBit}
use Rattle.rtl_sig.specs.declared.sig.SigBit.TheVariants.{Fixed, Wire as OnWire}
use Rattle.rtl_ir.specs.Build.{Building, fresh_wire, inner_wire, made_name, whole}
use Rattle.rtl_ir.specs.Flat.Start.{init_bits, start_of}
use Rattle.rtl_ir.specs.declared.module.Module.{Module}
use Rattle.rtl_ir.specs.declared.wire.Wire.{Wire}
use Rattle.net_model.specs.Lists.{In}
use Rattle.net_model.specs.Mem.Expand.{Word, fixed_words, word_at, word_wires}
use Rattle.net_model.specs.Proc.Start.{init_attribute}
use Rattle.net_model.specs.Within.{Each}
use Rattle.build_laws.proofs.Growing.{Grows, grows_both}
use Rattle.memory_laws.proofs.PortCells.{whole_long}
use Rattle.memory_laws.proofs.ReadTrees.{IsAsWide}
use Rattle.memory_laws.proofs.WordSteps.{wires_grow}

map_long : {A B : Type 0} (f : A → B) (xs : List A) → length (map f xs) ≡ length xs
map_long f [] = refl
map_long f (x ∷ xs) = ap suc (map_long f xs)

got_left : {A : Type 0} (xs ys : List A) (k : ℕ) (x : A) → slice_get xs k ≡ Some x → slice_get (xs ++ ys) k ≡ Some x
got_left [] ys k x e = absurd (cc)
got_left (z ∷ xs) ys zero x e = e
got_left (z ∷ xs) ys (suc k) x e = got_left xs ys k x e

got_last : {A : Type 0} (xs : List A) (x : A) → slice_get (xs ++ x ∷ []) (length xs) ≡ Some x
got_last [] x = refl
got_last (z ∷ xs) x = got_last xs x

-- each word is as wide
pub fixed_wide : (n address : ℕ) (words : List (List Bit)) → Each (λ bits. length bits ≡ n) words → (i : ℕ) → IsAsWide n (word_at (fixed_words address words) i)
fixed_wide n address [] h i = tt
fixed_wide n address (bits ∷ words) h i = by (address == i) (fixed_wide n (address + 1) words (λ x j. h x (inr j)) i)
  where
    by : (t : Bool) → IsAsWide n (word_at (fixed_words (address + 1) words) i) → IsAsWide n (if t then Some (map Fixed bits) else word_at (fixed_words (address + 1) words) i)
    by true k = map_long Fixed bits ∙ h bits (inl refl)
    by false k = k

pub wires_wide : (n address : ℕ) (words : List (List Bit)) (b : Building) → Each (λ bits. length bits ≡ n) words → (i : ℕ) → IsAsWide n (word_at (word_wires address words b).0 i)
wires_wide n address [] b h i = tt
wires_wide n address (bits ∷ words) b h i =
    by (address == i) (wires_wide n (address + 1) words (fresh_wire (length bits) (init_attribute bits ∷ []) b).1 (λ x j. h x (inr j)) i)
  where
    rest : List Word
    rest = (word_wires (address + 1) words (fresh_wire (length bits) (init_attribute bits ∷ []) b).1).0

    by : (t : Bool) → IsAsWide n (word_at rest i) → IsAsWide n (if t then Some (whole (length b.body.wires) (length bits)) else word_at rest i)
    by true k = whole_long (length b.body.wires) (length bits) ∙ h bits (inl refl)
    by false k = k

-- a word that stands at an address is one of them
pub word_in : (words : List Word) (address : ℕ) (signal : List SigBit) → word_at words address ≡ Some signal → In (record { address = address; signal = signal }) words
word_in [] address signal e = absurd (cc)
word_in (word ∷ words) address signal e = by (word.address == address) refl e (word_in words address signal)
  where
    by : (t : Bool) → (word.address == address) ≡ t → (if t then Some word.signal else word_at words address) ≡ Some signal → (word_at words address ≡ Some signal → In (record { address = address; signal = signal }) words) → In (record { address = address; signal = signal }) (word ∷ words)
    by true is f later =
        let at : word.address ≡ address = eqb-true word.address address is in
        let same : word.signal ≡ signal = cc in
        inl (λ i. record { address = sym at i; signal = sym same i })
    by false is f later = inr (later f)

here_at : {A : Type 0} (address : ℕ) (a b : A) → (if address + 0 == address + 0 then a else b) ≡ a
here_at address a b = ap (λ t. if t then a else b) (eq-eqb (address + 0) (address + 0) refl)

-- the word of a number among constants
pub fixed_at : (address : ℕ) (words : List (List Bit)) (j : ℕ) (bits : List Bit) → slice_get words j ≡ Some bits → word_at (fixed_words address words) (address + j) ≡ Some (map Fixed bits)
fixed_at address [] j bits e = absurd (cc)
fixed_at address (x ∷ words) zero bits e =
    let here : address + 0 ≡ address = omega arith in
    let same : x ≡ bits = cc in
    ap (λ t. if t then Some (map Fixed x) else word_at (fixed_words (address + 1) words) (address + 0)) (eq-eqb address (address + 0) (sym here)) ∙ ap (λ z. Some (map Fixed z)) same
fixed_at address (x ∷ words) (suc j) bits e =
    let next : (address + 1) + j ≡ address + suc j = omega arith in
    let other : (address == address + suc j) ≡ false = grind arith in
    ap (λ t. if t then Some (map Fixed x) else word_at (fixed_words (address + 1) words) (address + suc j)) other
    ∙ ap (word_at (fixed_words (address + 1) words)) (sym next)
    ∙ fixed_at (address + 1) words j bits e

-- a signal is the whole of a wire with start values
pub record IsWordWire (wires : List Wire) (signal : List SigBit) (bits : List Bit) : Type 0 where
  pub wire : ℕ
  pub name : List ℕ
  pub is : signal ≡ whole wire (length bits)
  pub there : slice_get wires wire ≡ Some (inner_wire name (length bits) (init_attribute bits ∷ []))

-- the word of a number among wires
pub record HasWordWire (words : List Word) (wires : List Wire) (address : ℕ) (bits : List Bit) : Type 0 where
  pub signal : List SigBit
  pub at : word_at words address ≡ Some signal
  pub wire : IsWordWire wires signal bits

pub wires_at : (address : ℕ) (words : List (List Bit)) (b final : Building) → Grows (word_wires address words b).1 final → (j : ℕ) (bits : List Bit) → slice_get words j ≡ Some bits → HasWordWire (word_wires address words b).0 final.body.wires (address + j) bits
wires_at address [] b final grows j bits e = absurd (cc)
wires_at address (x ∷ words) b final grows zero bits e =
    let made = fresh_wire (length x) (init_attribute x ∷ []) b in
    let rest = word_wires (address + 1) words made.1 in
    let here : address + 0 ≡ address = omega arith in
    let same : x ≡ bits = cc in
    let later = grows_both made.1 rest.1 final (wires_grow (address + 1) words made.1) grows in
    let last : slice_get made.1.body.wires (length b.body.wires) ≡ Some (inner_wire (made_name b.next) (length x) (init_attribute x ∷ [])) = got_last b.body.wires _ in
    let there : slice_get final.body.wires (length b.body.wires) ≡ Some (inner_wire (made_name b.next) (length x) (init_attribute x ∷ [])) =
    ap (λ (n : Module). slice_get n.wires (length b.body.wires)) later.body ∙ got_left made.1.body.wires later.wires (length b.body.wires) _ last in
    record {
      signal = whole (length b.body.wires) (length x);
      at = ap (λ t. if t then Some (whole (length b.body.wires) (length x)) else word_at rest.0 (address + 0)) (eq-eqb address (address + 0) (sym here));
      wire = record {
        wire = length b.body.wires;
        name = made_name b.next;
        is = ap (λ z. whole (length b.body.wires) (length z)) same;
        there = there ∙ ap (λ z. Some (inner_wire (made_name b.next) (length z) (init_attribute z ∷ []))) same;
      };
    }
wires_at address (x ∷ words) b final grows (suc j) bits e =
    let made = fresh_wire (length x) (init_attribute x ∷ []) b in
    let rest = word_wires (address + 1) words made.1 in
    let next : (address + 1) + j ≡ address + suc j = omega arith in
    let other : (address == address + suc j) ≡ false = grind arith in
    let later = wires_at (address + 1) words made.1 final grows j bits e in
    record {
      signal = later.signal;
      at = ap (λ t. if t then Some (whole (length b.body.wires) (length x)) else word_at rest.0 (address + suc j)) other ∙ ap (word_at rest.0) (sym next) ∙ later.at;
      wire = later.wire;
    }

-- such a wire starts with its start value, as far as it is known
pub word_start : (wires : List Wire) (signal : List SigBit) (bits : List Bit) (h : IsWordWire wires signal bits) (k : ℕ) → start_of wires [] (OnWire (record { wire = h.wire; at = k })) ≡ seen_of (slice_index_or bits k X)
word_start wires signal bits h k = ap (λ o. seen_of (slice_index_or (init_bits o) k X)) h.there
