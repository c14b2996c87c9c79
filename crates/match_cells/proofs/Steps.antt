-- What is built for a case only grows a module.
use Rattle.std.proofs.Common.{ℕ, List, Bool, true, false, Option, Some, None, if◌then◌else◌}
use Rattle.std.specs.Option.{option_map_or}
use Rattle.rtl_sig.specs.declared.sig.SigBit.{SigBit}
use Rattle.net_index.specs.Builder.{PassesLimit}
use Rattle.rtl_ir.specs.Signals.{same_signal}
use Rattle.net_model.specs.Proc.Mux.{is_default, joined_bits, pattern_bits}
use Rattle.match_cells.specs.Trees.{Numbered, made_at, match_bit, new_match, with_case, with_mux}
use Rattle.match_cells.proofs.Growing.{Grows, grows_more, grows_none, joined_grows, mux_grows, over_later}
use Rattle.match_cells.proofs.Patterns.{patterns_grow}

pub match_over : (n : ℕ) (signal : List SigBit) (patterns : List (List SigBit)) (t : Numbered) → PassesLimit (pattern_bits signal patterns t.building).1 → PassesLimit (new_match n signal patterns t).1.building
unfolding new_match
match_over n signal patterns t over =
    let bits = pattern_bits signal patterns t.building in
    over_later bits.1 (joined_bits bits.0 bits.1).1 (joined_grows bits.0 bits.1) over

pub new_grows : (n : ℕ) (signal : List SigBit) (patterns : List (List SigBit)) (t : Numbered) → Grows t.building (new_match n signal patterns t).1.building
unfolding new_match
new_grows n signal patterns t =
    let bits = pattern_bits signal patterns t.building in
    grows_more t.building bits.1 (joined_bits bits.0 bits.1).1 (patterns_grow signal patterns t.building) (joined_grows bits.0 bits.1)

pub match_grows : (n : ℕ) (signal : List SigBit) (patterns : List (List SigBit)) (t : Numbered) → Grows t.building (match_bit n signal patterns t).1.building
unfolding match_bit
match_grows n signal patterns t = by (made_at t.made n)
  where
    by : (o : Option SigBit) → Grows t.building (option_map_or {T = SigBit} {U = SigBit × Numbered} (λ s. (s, t)) o (new_match n signal patterns t)).1.building
    by (Some s) = grows_none t.building
    by None = new_grows n signal patterns t

pub mux_over : (n : ℕ) (signal : List SigBit) (patterns : List (List SigBit)) (body acc : List SigBit) (t : Numbered) → PassesLimit (match_bit n signal patterns t).1.building → PassesLimit (with_mux n signal patterns body acc t).1.building
unfolding with_mux
mux_over n signal patterns body acc t over =
    let m = match_bit n signal patterns t in
    over_later m.1.building (with_mux n signal patterns body acc t).1.building (mux_grows acc body m.0 m.1.building) over

pub with_mux_grows : (n : ℕ) (signal : List SigBit) (patterns : List (List SigBit)) (body acc : List SigBit) (t : Numbered) → Grows t.building (with_mux n signal patterns body acc t).1.building
unfolding with_mux
with_mux_grows n signal patterns body acc t =
    let m = match_bit n signal patterns t in
    grows_more t.building m.1.building (with_mux n signal patterns body acc t).1.building (match_grows n signal patterns t) (mux_grows acc body m.0 m.1.building)

pub with_case_grows : (n : ℕ) (signal : List SigBit) (patterns : List (List SigBit)) (body acc : List SigBit) (t : Numbered) → Grows t.building (with_case n signal patterns body acc t).1.building
unfolding with_case
with_case_grows n signal patterns body acc t = by (is_default signal patterns) (same_signal body acc)
  where
    by : (d e : Bool) → Grows t.building (let r : List SigBit × Numbered = (if d then (body, t) else if e then (acc, t) else with_mux n signal patterns body acc t) in r.1.building)
    by true e = grows_none t.building
    by false true = grows_none t.building
    by false false = with_mux_grows n signal patterns body acc t
