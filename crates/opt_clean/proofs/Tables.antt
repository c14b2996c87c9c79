-- Tables of wires, in loops.
use Rattle.std.proofs.Common.{◌≡◌, ◌≢◌, ℕ, zero, suc, ◌+◌, ◌<◌, ◌≤◌, Bool, true, false, if◌then◌else◌, List, [], ◌∷◌, ◌++◌, length, get_or, set, drop, replicate, refl, sym, ◌∙◌, ap, subst, arith}
use Rattle.std.specs.Prelude.{◌||◌, ◌==◌}
use Rattle.std.specs.List.{flat_map}
use Rattle.std.proofs.lemmas.Bool.{eqb-true, eqb-false}
use Rattle.std.proofs.lemmas.List.{get_or-set_other, get_or-set_same, get_or-replicate, length-replicate, length-set, take_all}
use Rattle.rtl_sig.specs.declared.sig.WireBit.{WireBit}
use Rattle.rtl_ir.specs.Ports.{is_port}
use Rattle.rtl_ir.specs.declared.wire.Wire.{Wire}
use Rattle.rtl_ir.specs.Attributes.{is_kept}
use Rattle.opt_clean.specs.Moving.{marks_by, noted, places_from, stays_if}
use Rattle.opt_clean.proofs.Steps.{here}
use Rattle.opt_clean.specs.Wires.{mark_count, names_wire, new_place, stays, wire_marks}

pub noted_more : (ts : List Bool) (xs ys : List WireBit) → noted ts (xs ++ ys) ≡ noted (noted ts xs) ys
noted_more ts [] ys = refl
noted_more ts (b ∷ xs) ys = noted_more (set ts b.wire true) xs ys

-- one more item
pub noted_next : {A : Type 0} (f : A → List WireBit) (xs : List A) (i : ℕ) (x : A) (ts us all : List Bool) → i < length xs → x ≡ get_or xs i x → us ≡ noted ts (f x) → noted ts (flat_map f (drop i xs)) ≡ all → noted us (flat_map f (drop (i + 1) xs)) ≡ all
noted_next f xs i x ts us all h is e inv =
    ap (λ z. noted z (flat_map f (drop (i + 1) xs))) e
    ∙ sym (noted_more ts (f x) (flat_map f (drop (i + 1) xs)))
    ∙ ap (λ z. noted ts (flat_map f z)) (sym (here xs i x h is))
    ∙ inv

pub noted_length : (ts : List Bool) (bits : List WireBit) → length (noted ts bits) ≡ length ts
noted_length ts [] = refl
noted_length ts (b ∷ bits) = noted_length (set ts b.wire true) bits ∙ length-set ts b.wire true

noted_at : (bits : List WireBit) (ts : List Bool) (k : ℕ) → k < length ts → get_or (noted ts bits) k false ≡ (get_or ts k false || names_wire bits k)
noted_at [] ts k h = or_none (get_or ts k false)
  where
    or_none : (t : Bool) → t ≡ (t || false)
    or_none true = refl
    or_none false = refl
noted_at (b ∷ bits) ts k h =
    let still : k < length (set ts b.wire true) = subst (λ n. k < n) (sym (length-set ts b.wire true)) h in
    noted_at bits (set ts b.wire true) k still ∙ by (b.wire == k) refl
  where
    other : (s t : Bool) → (s || t) ≡ (s || (false || t))
    other true t = refl
    other false t = refl

    over : (s t : Bool) → true ≡ (s || (true || t))
    over true t = refl
    over false t = refl

    by : (t : Bool) → (b.wire == k) ≡ t → (get_or (set ts b.wire true) k false || names_wire bits k) ≡ (get_or ts k false || ((b.wire == k) || names_wire bits k))
    by true e =
        let same : b.wire ≡ k = eqb-true b.wire k e in
        let lt : b.wire < length ts = omega (arith, h, same) in
        let put : get_or (set ts b.wire true) k false ≡ true = ap (λ n. get_or (set ts b.wire true) n false) (sym same) ∙ get_or-set_same ts b.wire true false lt in
        ap (λ t. t || names_wire bits k) put ∙ over (get_or ts k false) (names_wire bits k) ∙ ap (λ t. get_or ts k false || (t || names_wire bits k)) (sym e)
    by false e =
        let apart : k ≢ b.wire = λ f. eqb-false b.wire k e (sym f) in
        ap (λ t. t || names_wire bits k) (get_or-set_other ts b.wire k true false apart) ∙ other (get_or ts k false) (names_wire bits k) ∙ ap (λ t. get_or ts k false || (t || names_wire bits k)) (sym e)

stays_same : (t : Bool) (bits : List WireBit) (wire : ℕ) (w : Wire) → t ≡ names_wire bits wire → stays_if t w ≡ stays bits wire w
stays_same t bits wire w e = ap (λ z. (z || is_port w.role) || is_kept w.attributes) e ∙ turn (names_wire bits wire) (is_port w.role) (is_kept w.attributes)
  where
    turn : (a b c : Bool) → ((a || b) || c) ≡ (b || (c || a))
    turn true true c = refl
    turn true false true = refl
    turn true false false = refl
    turn false true c = refl
    turn false false true = refl
    turn false false false = refl

by_names : (bits : List WireBit) (ts : List Bool) (first : ℕ) (ws : List Wire) → length ts ≡ length ws → ((k : ℕ) → k < length ts → get_or ts k false ≡ names_wire bits (first + k)) → marks_by ts ws ≡ wire_marks bits first ws
by_names bits [] first [] e h = refl
by_names bits [] first (w ∷ ws) e h = absurd (omega (arith, e))
by_names bits (t ∷ ts) first [] e h = absurd (omega (arith, e))
by_names bits (t ∷ ts) first (w ∷ ws) e h =
    let z : first + 0 ≡ first = omega arith in
    let here : stays_if t w ≡ stays bits first w = stays_same t bits first w (h 0 (omega arith) ∙ ap (names_wire bits) z) in
    let long : length ts ≡ length ws = omega (arith, e) in
    let later : marks_by ts ws ≡ wire_marks bits (first + 1) ws = by_names bits ts (first + 1) ws long (λ k lt. let y : first + suc k ≡ first + 1 + k = omega arith in h (suc k) (omega (arith, lt)) ∙ ap (names_wire bits) y) in
    λ i. here i ∷ later i

-- the wires that stay, by the table of those that are named
pub noted_marks : (bits : List WireBit) (ws : List Wire) → marks_by (noted (replicate (length ws) false) bits) ws ≡ wire_marks bits 0 ws
noted_marks bits ws =
    let none : List Bool = replicate (length ws) false in
    let long : length none ≡ length ws = length-replicate (length ws) false in
    by_names bits (noted none bits) 0 ws (noted_length none bits ∙ long) (λ k lt.
    let within : k < length none = subst (λ n. k < n) (noted_length none bits) lt in
    let z : k ≡ 0 + k = omega arith in
    noted_at bits none k within ∙ ap (λ t. t || names_wire bits k) (get_or-replicate (length ws) k false false (subst (λ n. k < n) long within)) ∙ ap (names_wire bits) z)

-- the table of new places
placed : (marks : List Bool) (n k d : ℕ) → k < length marks → get_or (places_from n marks) k d ≡ n + new_place marks k
placed [] n k d h = absurd (omega arith)
placed (t ∷ marks) n zero d h = omega arith
placed (true ∷ marks) n (suc k) d h = let lt : k < length marks = omega (arith, h) in omega (arith, placed marks (n + 1) k d lt)
placed (false ∷ marks) n (suc k) d h = let lt : k < length marks = omega (arith, h) in omega (arith, placed marks (n + 0) k d lt)

places_length : (marks : List Bool) (n : ℕ) → length (places_from n marks) ≡ length marks
places_length [] n = refl
places_length (t ∷ marks) n = ap suc (places_length marks (n + (if t then 1 else 0)))

pub place_within : (marks : List Bool) (places : List ℕ) (k d : ℕ) → places ≡ places_from 0 marks → k < length places → get_or places k d ≡ new_place marks k
place_within marks places k d e h =
    let long : length places ≡ length marks = ap length e ∙ places_length marks 0 in
    let lt : k < length marks = omega (arith, h, long) in
    ap (λ z. get_or z k d) e ∙ omega (arith, placed marks 0 k d lt)

pub place_past : (marks : List Bool) (places : List ℕ) (k count : ℕ) → places ≡ places_from 0 marks → count ≡ mark_count marks → length places ≤ k → count ≡ new_place marks k
place_past marks places k count e m h =
    let long : length places ≡ length marks = ap length e ∙ places_length marks 0 in
    let le : length marks ≤ k = omega (arith, h, long) in
    m ∙ ap mark_count (sym (take_all k marks le))

-- how wires are noted
pub ruleset notes = (noted_more, noted_length, noted_marks)
