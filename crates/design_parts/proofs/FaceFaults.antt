-- A face has no fault where the ports of its module have none.
use Rattle.std.proofs.Common.{◌≡◌, ◌⊎◌, ℕ, zero, suc, ◌+◌, ◌<◌, ◌≤◌, Bool, true, false, cond, List, [], ◌∷◌, ◌++◌, inl, inr, ⊎_elim, refl, sym, ◌∙◌, ap, arith}
use Rattle.std.specs.Prelude.{ℤ, ◌&&◌, ◌==◌, filter, map, nat_lt}
use Rattle.std.specs.List.{range_with_len}
use Rattle.std.proofs.lemmas.Bool.Decides.{nat_tests}
use Rattle.std.proofs.lemmas.List.{append-nil}
use Rattle.std.proofs.lemmas.List.Sums.{sum_by-cons, sum_by-append}
use Rattle.rtl_sig.specs.declared.sig.WireBit.{WireBit}
use Rattle.rtl_ir.specs.declared.module.Module.{Module}
use Rattle.rtl_ir.specs.declared.wire.Wire.{Wire}
use Rattle.rtl_ir.specs.Drivers.{Drive, FromPort, all_by, drive_count, drives_of, is_input, port_drives}
use Rattle.rtl_ir.specs.Fault.{BadPort, fault_if, spot}
use Rattle.rtl_ir.specs.Faults.{module_faults}
use Rattle.rtl_ir.specs.Faults.Bits.{bit_faults, bits_faults, faults_of_two}
use Rattle.rtl_ir.specs.Faults.Wires.{is_bad_port, wire_faults, with_number}
use Rattle.rtl_ir.specs.Ports.{is_port}
use Rattle.rtl_ir.specs.Scope.{everything}
use Rattle.rtl_ir.specs.Signals.{same_bit}
use Rattle.rtl_ir.specs.Types.{Ports}
use Rattle.check_laws.proofs.Counting.{none_parts}
use Rattle.design_parts.specs.Parts.{bare, face}
use Rattle.design_parts.proofs.Filters.{each_none}

-- ---- ports

ports_fine : (id : List ℕ) (numbers : List ℤ) (ws : List Wire) → wire_faults id numbers ws ≡ [] → wire_faults id numbers (map bare (filter (λ (w : Wire). is_port w.role) ws)) ≡ []
ports_fine id numbers [] e = refl
ports_fine id numbers (w ∷ ws) e =
    let parts = none_parts (fault_if (is_bad_port numbers w) (BadPort (spot id w.name))) (wire_faults id (with_number numbers w) ws) e in
    by (is_port w.role) refl parts.first (ports_fine id (with_number numbers w) ws parts.second)
  where
    by : (t : Bool) → is_port w.role ≡ t → fault_if (is_bad_port numbers w) (BadPort (spot id w.name)) ≡ []
        → wire_faults id (with_number numbers w) (map bare (filter (λ (v : Wire). is_port v.role) ws)) ≡ []
        → wire_faults id numbers (map bare (cond t (w ∷ filter (λ (v : Wire). is_port v.role) ws) (filter (λ (v : Wire). is_port v.role) ws))) ≡ []
    by true f here later = λ i. here i ++ later i
    by false f here later = ap (λ t. wire_faults id (cond t (w.number ∷ numbers) numbers) (map bare (filter (λ (v : Wire). is_port v.role) ws))) (sym f) ∙ later

-- ---- drivers

abbrev one_if : Bool → ℕ
one_if t = cond t 1 0

abbrev hit : WireBit → Drive → ℕ
hit b d = one_if (same_bit d.bit b)

count_more : (d : Drive) (ds : List Drive) (b : WireBit) → drive_count (d ∷ ds) b ≡ hit b d + drive_count ds b
count_more d ds b = sum_by-cons (hit b) d ds

count_both : (ds es : List Drive) (b : WireBit) → drive_count (ds ++ es) b ≡ drive_count ds b + drive_count es b
count_both ds es b = sum_by-append (hit b) ds es

-- the bits of an input port from a place on
abbrev bits_from : ℕ → ℕ → ℕ → List Drive
bits_from wire a n = all_by FromPort (map (λ at. record { wire = wire; at = at }) (range_with_len a n))

abbrev at_port : ℕ → ℕ → Drive
at_port wire a = record { bit = record { wire = wire; at = a }; source = FromPort }

neither : (t : Bool) → one_if (t && false) ≡ 0
neither true = refl
neither false = refl

miss_at : (wire a : ℕ) (b : WireBit) → b.at < a → hit b (at_port wire a) ≡ 0
miss_at wire a b l = by (a == b.at) refl
  where
    by : (t : Bool) → (a == b.at) ≡ t → one_if ((wire == b.wire) && t) ≡ 0
    by true e = absurd (grind (arith, nat_tests))
    by false e = neither (wire == b.wire)

miss_wire : (wire a : ℕ) (b : WireBit) → (wire ≡ b.wire → ⊥) → hit b (at_port wire a) ≡ 0
miss_wire wire a b apart = by (wire == b.wire) refl
  where
    by : (t : Bool) → (wire == b.wire) ≡ t → one_if (t && (a == b.at)) ≡ 0
    by true e = absurd (apart (grind (arith, nat_tests)))
    by false e = refl

hit_most : (b : WireBit) (d : Drive) → hit b d ≤ 1
hit_most b d = by (same_bit d.bit b)
  where
    by : (t : Bool) → one_if t ≤ 1
    by true = omega arith
    by false = omega arith

behind : (wire a n : ℕ) (b : WireBit) → b.at < a → drive_count (bits_from wire a n) b ≡ 0
behind wire a zero b l = refl
behind wire a (suc n) b l =
    let c = count_more (at_port wire a) (bits_from wire (a + 1) n) b in
    let m = miss_at wire a b l in
    let r = behind wire (a + 1) n b (omega (arith, l)) in
    omega (arith, c, m, r)

elsewhere : (wire a n : ℕ) (b : WireBit) → (wire ≡ b.wire → ⊥) → drive_count (bits_from wire a n) b ≡ 0
elsewhere wire a zero b apart = refl
elsewhere wire a (suc n) b apart =
    let c = count_more (at_port wire a) (bits_from wire (a + 1) n) b in
    let m = miss_wire wire a b apart in
    let r = elsewhere wire (a + 1) n b apart in
    omega (arith, c, m, r)

-- two numbers are one, or not
same_or_not : (x y : ℕ) → (x ≡ y) ⊎ (x ≡ y → ⊥)
same_or_not x y = by (x == y) refl
  where
    by : (t : Bool) → (x == y) ≡ t → (x ≡ y) ⊎ (x ≡ y → ⊥)
    by true e = inl (grind (arith, nat_tests))
    by false e = inr (λ f. let g = e in absurd (grind (arith, nat_tests)))

bits_once : (wire a n : ℕ) (b : WireBit) → drive_count (bits_from wire a n) b ≤ 1
bits_once wire a zero b = omega arith
bits_once wire a (suc n) b =
    let c = count_more (at_port wire a) (bits_from wire (a + 1) n) b in
    ⊎_elim
    (λ (e : a ≡ b.at).
    let m = hit_most b (at_port wire a) in
    let r = behind wire (a + 1) n b (omega (arith, e)) in
    omega (arith, c, m, r))
    (λ (apart : a ≡ b.at → ⊥).
    let m : hit b (at_port wire a) ≡ 0 = by (a == b.at) refl apart in
    let r = bits_once wire (a + 1) n b in
    omega (arith, c, m, r))
    (same_or_not a b.at)
  where
    by : (t : Bool) → (a == b.at) ≡ t → (a ≡ b.at → ⊥) → one_if ((wire == b.wire) && t) ≡ 0
    by true e apart = absurd (apart (grind (arith, nat_tests)))
    by false e apart = neither (wire == b.wire)

-- the drives of a port
abbrev of_port : Bool → ℕ → ℕ → List Drive
of_port t wire width = cond t (bits_from wire 0 width) []

port_once : (t : Bool) (wire width : ℕ) (b : WireBit) → drive_count (of_port t wire width) b ≤ 1
port_once true wire width b = bits_once wire 0 width b
port_once false wire width b = omega arith

port_elsewhere : (t : Bool) (wire width : ℕ) (b : WireBit) → (wire ≡ b.wire → ⊥) → drive_count (of_port t wire width) b ≡ 0
port_elsewhere true wire width b apart = elsewhere wire 0 width b apart
port_elsewhere false wire width b apart = refl

ports_behind : (wire : ℕ) (ws : List Wire) (b : WireBit) → b.wire < wire → drive_count (port_drives wire ws) b ≡ 0
ports_behind wire [] b l = refl
ports_behind wire (w ∷ ws) b l =
    let c = count_both (of_port (is_input w.role) wire w.width) (port_drives (wire + 1) ws) b in
    let m = port_elsewhere (is_input w.role) wire w.width b (λ e. omega (arith, e, l)) in
    let r = ports_behind (wire + 1) ws b (omega (arith, l)) in
    omega (arith, c, m, r)

ports_once : (wire : ℕ) (ws : List Wire) (b : WireBit) → drive_count (port_drives wire ws) b ≤ 1
ports_once wire [] b = omega arith
ports_once wire (w ∷ ws) b =
    let c = count_both (of_port (is_input w.role) wire w.width) (port_drives (wire + 1) ws) b in
    ⊎_elim
    (λ (e : wire ≡ b.wire).
    let m = port_once (is_input w.role) wire w.width b in
    let r = ports_behind (wire + 1) ws b (omega (arith, e)) in
    omega (arith, c, m, r))
    (λ (apart : wire ≡ b.wire → ⊥).
    let m = port_elsewhere (is_input w.role) wire w.width b apart in
    let r = ports_once (wire + 1) ws b in
    omega (arith, c, m, r))
    (same_or_not wire b.wire)

-- ---- bits

not_two : (n : ℕ) → n ≤ 1 → nat_lt 1 n ≡ false
not_two n l = grind (arith, nat_tests)

bits_fine : (id : List ℕ) (drives : List Drive) (first : ℕ) (ws : List Wire) → ((b : WireBit) → drive_count drives b ≤ 1) → bits_faults id drives first ws ≡ []
bits_fine id drives first [] h = refl
bits_fine id drives first (w ∷ ws) h =
    λ i.
    each_none (bit_faults id drives first w) (range_with_len 0 w.width)
    (λ at j. ap (λ t. cond t (faults_of_two id w at) []) (not_two (drive_count drives (record { wire = first; at = at })) (h (record { wire = first; at = at })))) i
    ++ bits_fine id drives (first + 1) ws h i

none_behind : {A : Type 0} (xs : List A) → (((xs ++ []) ++ []) ++ []) ++ [] ≡ xs
none_behind xs = simp append-nil

face_drives : (ports : Ports) (m : Module) → drives_of ports (face m) ≡ port_drives 0 (face m).wires
face_drives ports m = none_behind (port_drives 0 (face m).wires)

face_bits : (ports : Ports) (m : Module) → bits_faults m.id (drives_of ports (face m)) 0 (face m).wires ≡ []
face_bits ports m =
    ap (λ (ds : List Drive). bits_faults m.id ds 0 (face m).wires) (face_drives ports m)
    ∙ bits_fine m.id (port_drives 0 (face m).wires) 0 (face m).wires (ports_once 0 (face m).wires)

pub face_fine : (ports : Ports) (m : Module) → wire_faults m.id [] m.wires ≡ [] → module_faults everything ports (face m) ≡ []
face_fine ports m e =
    λ i. ((((ports_fine m.id [] m.wires e i ++ []) ++ []) ++ []) ++ []) ++ face_bits ports m i
