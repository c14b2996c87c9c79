-- Chains that are made, and one more.
use Rattle.std.proofs.Common.{◌≡◌, Bool, true, false, List, [], ◌∷◌, ◌++◌, Option, Some, None, if◌then◌else◌, refl, sym, ◌∙◌, ap}
use Rattle.std.specs.Option.{option_map_or, option_or}
use Rattle.indexmap.specs.IndexMap.{insert_entry}
use Rattle.rtl_sig.specs.declared.sig.SigBit.{SigBit}
use Rattle.rtl_sig.specs.declared.sig.WireBit.{WireBit}
use Rattle.rtl_ir.specs.Signals.{same_bit}
use Rattle.net_index.proofs.IndexTables.{same_bit-refl, same_bit-true}
use Rattle.net_model.specs.Proc.Latch.{Chain, made_chain}
use Rattle.proc_latch.specs.Chains.{chain_at}

or_none : (o : Option SigBit) → o ≡ option_or o None
or_none None = refl
or_none (Some s) = refl

-- a chain that goes last counts where none before it is of the bit
pub chain_more : (chains : List Chain) (k : Chain) (b : WireBit) → made_chain (chains ++ k ∷ []) b ≡ option_or (made_chain chains b) (if same_bit k.bit b then Some k.result else None)
chain_more [] k b = refl
chain_more (x ∷ chains) k b = by (same_bit x.bit b) (chain_more chains k b)
  where
    by : (t : Bool) → made_chain (chains ++ k ∷ []) b ≡ option_or (made_chain chains b) (if same_bit k.bit b then Some k.result else None)
        → (if t then Some x.result else made_chain (chains ++ k ∷ []) b) ≡ option_or (if t then Some x.result else made_chain chains b) (if same_bit k.bit b then Some k.result else None)
    by true later = refl
    by false later = later

back : (a b : WireBit) → same_bit a b ≡ true → same_bit b a ≡ true
back a b e = ap (λ c. same_bit c a) (sym (same_bit-true a b e)) ∙ same_bit-refl a

bit_sym : (a b : WireBit) → same_bit a b ≡ same_bit b a
bit_sym a b = by (same_bit a b) (same_bit b a) refl refl
  where
    by : (t u : Bool) → same_bit a b ≡ t → same_bit b a ≡ u → t ≡ u
    by true u e f = sym (back a b e) ∙ f
    by false true e f = sym e ∙ back b a f
    by false false e f = refl

-- one more entry, of a bit that has none
insert_more : (b : WireBit) (s : SigBit) (es : List (WireBit × SigBit)) (c : WireBit) → chain_at es b ≡ None → chain_at (insert_entry same_bit es b s) c ≡ option_or (chain_at es c) (if same_bit b c then Some s else None)
insert_more b s [] c none = ap (λ t. if t then Some s else None) (bit_sym c b)
insert_more b s (e ∷ es) c none = by (same_bit b e.0) none (insert_more b s es c)
  where
    by : (t : Bool) → (if t then Some e.1 else chain_at es b) ≡ None
        → (chain_at es b ≡ None → chain_at (insert_entry same_bit es b s) c ≡ option_or (chain_at es c) (if same_bit b c then Some s else None))
        → chain_at (if t then (e.0, s) ∷ es else e ∷ insert_entry same_bit es b s) c ≡ option_or (chain_at (e ∷ es) c) (if same_bit b c then Some s else None)
    by true f later = absurd (cc)
    by false f later = here (same_bit c e.0) (later f)
      where
        here : (u : Bool) → chain_at (insert_entry same_bit es b s) c ≡ option_or (chain_at es c) (if same_bit b c then Some s else None)
            → (if u then Some e.1 else chain_at (insert_entry same_bit es b s) c) ≡ option_or (if u then Some e.1 else chain_at es c) (if same_bit b c then Some s else None)
        here true g = refl
        here false g = g

-- where the bit has a chain already, it stays
stays : (b : WireBit) (s r : SigBit) (es : List (WireBit × SigBit)) (c : WireBit) → chain_at es b ≡ Some r → chain_at es c ≡ option_or (chain_at es c) (if same_bit b c then Some s else None)
stays b s r es c there = by (same_bit b c) refl
  where
    by : (t : Bool) → same_bit b c ≡ t → chain_at es c ≡ option_or (chain_at es c) (if t then Some s else None)
    by true e =
        let here : chain_at es c ≡ Some r = ap (chain_at es) (sym (same_bit-true b c e)) ∙ there in
        here ∙ sym (ap (λ o. option_or o (Some s)) here)
    by false e = or_none (chain_at es c)

pub put_more : (b : WireBit) (s : SigBit) (es : List (WireBit × SigBit)) (c : WireBit) → chain_at (option_map_or (λ r. es) (chain_at es b) (insert_entry same_bit es b s)) c ≡ option_or (chain_at es c) (if same_bit b c then Some s else None)
put_more b s es c = by (chain_at es b) refl
  where
    by : (o : Option SigBit) → chain_at es b ≡ o → chain_at (option_map_or {T = SigBit} {U = List (WireBit × SigBit)} (λ r. es) o (insert_entry same_bit es b s)) c ≡ option_or (chain_at es c) (if same_bit b c then Some s else None)
    by (Some r) e = stays b s r es c e
    by None e = insert_more b s es c e
