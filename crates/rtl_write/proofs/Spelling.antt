-- What the tokens of a statement print is its text.
use Rattle.std.proofs.Common.{◌≡◌, ℕ, ◌+◌, ◌-◌, List, [], ◌∷◌, ◌++◌, length, append_assoc, append-nil, Option, Some, None, Bool, true, false, refl, ap, ◌∙◌}
use Rattle.std.specs.Prelude.{◌==◌, ◌&&◌, replicate, slice_get, map, codes, if◌then◌else◌}
use Rattle.std.specs.List.{flat_map}
use Rattle.std.specs.Fmt.{decimal}
use Rattle.std.proofs.lemmas.List.Concat.{flat_map-append}
use Rattle.rtl_sig.specs.declared.sig.SigBit.{SigBit}
use Rattle.rtl_sig.specs.declared.sig.SigBit.TheVariants.{Fixed, Wire}
use Rattle.rtl_ir.specs.declared.value.Value.{Value}
use Rattle.rtl_ir.specs.declared.value.Value.TheVariants as values
use Rattle.rtl_ir.specs.declared.value.Attribute.{Attribute}
use Rattle.rtl_ir.specs.declared.wire.Wire as wires
use Rattle.rtl_write.specs.Constant.{bits_text, value_text}
use Rattle.rtl_write.specs.Signal.{constant_of, runs_of, part_text, run_text, braces_text, runs_text, signal_text}
use Rattle.rtl_write.specs.Text.{attribute_text, attributes_text}
use Rattle.rtl_write.proofs.Printed.{Printed, printed, spelled}
use Rattle.rtl_write.proofs.Tokens as tokens
use Rattle.rtl_write.proofs.Tokens.{name}

-- what is printed of two lists, and of a list of items
pub spelled_then : (ps qs : List Printed) → spelled (ps ++ qs) ≡ spelled ps ++ spelled qs
spelled_then ps qs = flat_map-append printed ps qs

pub spelled_each : {X : Type 0} (f : X → List Printed) (g : X → List ℕ) → ((x : X) → spelled (f x) ≡ g x) → (xs : List X) → spelled (flat_map f xs) ≡ flat_map g xs
spelled_each f g same [] = refl
spelled_each f g same (x ∷ xs) =
    spelled_then (f x) (flat_map f xs) ∙ ap (λ (l : List ℕ). l ++ spelled (flat_map f xs)) (same x) ∙ ap (λ (l : List ℕ). g x ++ l) (spelled_each f g same xs)

-- ---- constants and signals

pub printed_constant : (v : Value) → printed (tokens.constant v) ≡ 32 ∷ value_text v
unfolding value_text
printed_constant (values.Bits bits signed) = refl
printed_constant (values.Int z) = refl
printed_constant (values.Chars chars) = refl

abbrev brackets : Bool → Bool → ℕ → ℕ → List ℕ
brackets whole one low count =
    if whole then []
    else if one then codes " [" ++ decimal low ++ codes "]"
    else codes " [" ++ decimal (low + count - 1) ++ codes ":" ++ decimal low ++ codes "]"

spelled_index : (whole one : Bool) (low count : ℕ) → spelled (tokens.index whole one low count) ≡ brackets whole one low count
spelled_index true one low count = refl
spelled_index false true low count = refl
spelled_index false false low count = simp append_assoc

spelled_part : (wire : Option wires.Wire) (low count : ℕ) → spelled (tokens.part wire low count) ≡ 32 ∷ part_text wire low count
unfolding part_text
spelled_part None low count = refl
spelled_part (Some wire) low count = ap (λ (l : List ℕ). 32 ∷ (wire.name ++ l)) (spelled_index ((low == 0) && (count == wire.width)) (count == 1) low count)

spelled_run : (wires : List wires.Wire) (bits : List SigBit) → spelled (tokens.run wires bits) ≡ 32 ∷ run_text wires bits
unfolding run_text
spelled_run wires [] = refl
spelled_run wires (Fixed bit ∷ bits) = ap (λ (l : List ℕ). 32 ∷ l) (append-nil (bits_text (bit ∷ map constant_of bits) false))
spelled_run wires (Wire first ∷ bits) = spelled_part (slice_get wires first.wire) first.at (length bits + 1)

spelled_braces : (wires : List wires.Wire) (runs : List (List SigBit)) → spelled (tokens.braces wires runs) ≡ 32 ∷ braces_text wires runs
spelled_braces wires runs =
    ap (λ (l : List ℕ). 32 ∷ 123 ∷ l)
    (spelled_then (flat_map (tokens.run wires) runs) (tokens.mark 1 125 ∷ []) ∙ ap (λ (l : List ℕ). l ++ codes " }") (spelled_each (tokens.run wires) (λ run. 32 ∷ run_text wires run) (λ run. spelled_run wires run) runs))

spelled_runs : (wires : List wires.Wire) (runs : List (List SigBit)) → spelled (tokens.runs wires runs) ≡ 32 ∷ runs_text wires runs
spelled_runs wires [] = spelled_braces wires []
spelled_runs wires (run ∷ []) = spelled_run wires run
spelled_runs wires (run ∷ next ∷ runs) = spelled_braces wires (run ∷ next ∷ runs)

pub spelled_signal : (wires : List wires.Wire) (bits : List SigBit) → spelled (tokens.signal wires bits) ≡ 32 ∷ signal_text wires bits
unfolding signal_text
spelled_signal wires bits = spelled_runs wires (runs_of bits)

-- ---- attributes

spelled_attribute : (n : ℕ) (a : Attribute) → spelled (tokens.attribute n a) ≡ attribute_text (replicate n 32) a
unfolding attribute_text
spelled_attribute n a =
    ap (λ (l : List ℕ). (replicate n 32 ++ codes "attribute") ++ ((32 ∷ a.name) ++ (l ++ codes "\n"))) (printed_constant a.value) ∙ simp append_assoc

pub spelled_attributes : (n : ℕ) (remarks : List Attribute) → spelled (tokens.attributes n remarks) ≡ attributes_text (replicate n 32) remarks
spelled_attributes n remarks = spelled_each (tokens.attribute n) (attribute_text (replicate n 32)) (λ a. spelled_attribute n a) remarks
