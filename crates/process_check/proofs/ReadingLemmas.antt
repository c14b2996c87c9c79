-- What is put into tables and lists of the bits that read one another.
use Rattle.std.proofs.Common.{◌≡◌, ℕ, ◌+◌, ◌<◌, ◌≤◌, List, [], ◌∷◌, ◌++◌, length, get_or, drop, min, flat_map, Option, Some, None, append_assoc, append-nil, refl, sym, ◌∙◌, ap}
use Rattle.std.specs.Option.{option_or, option_to_list, option_and_then}
use Rattle.rtl_sig.specs.declared.sig.SigBit.{SigBit}
use Rattle.rtl_sig.specs.declared.sig.SigBit.TheVariants as sig
use Rattle.rtl_sig.specs.declared.sig.WireBit.{WireBit}
use Rattle.rtl_ir.specs.declared.module.Link.{Link}
use Rattle.rtl_ir.specs.Assigns.{assigned, last_source, left_bits}
use Rattle.rtl_ir.specs.Follow.{joins}
use Rattle.rtl_ir.specs.Signals.{wire_bits}
use Rattle.process_check.specs.declared.readings.Edge.{Edge}
use Rattle.process_trees.specs.Numbers.{number_in}
use Rattle.process_check.specs.Readings.{bit_edges, edge, edges_from, edges_to, number_at, numbers_in, place_edges}
use Rattle.process_check.proofs.Among.{flat_map-append}
use Rattle.process_check.proofs.Selves.{assigned-cons, last_source-append}
use Rattle.process_trees.proofs.Fronts.{front}
use Rattle.rtl_ir.proofs.JoinPlaces.{place_added, places_all}
use Rattle.std.proofs.lemmas.List.{map-append}

-- a place of the left side of an assign, and those behind it
pub place_cons : (bits : List WireBit) (signals : List ℕ) (assigns : List Link) (s : SigBit) (left : List SigBit)
    → flat_map (bit_edges bits signals assigns) (wire_bits (s ∷ left)) ≡ place_edges bits signals assigns s ++ flat_map (bit_edges bits signals assigns) (wire_bits left)
place_cons bits signals assigns (sig.Fixed c) left = refl
place_cons bits signals assigns (sig.Wire b) left = refl

pub line_cons : (f : WireBit → List Edge) (l : Link) (ls : List Link) → flat_map f (left_bits (l ∷ ls)) ≡ flat_map f (wire_bits l.left) ++ flat_map f (left_bits ls)
line_cons f l ls = flat_map-append f (wire_bits l.left) (left_bits ls)

-- what a bit reads by what is assigned to it
pub source_number : (bits : List WireBit) (o : Option SigBit) → numbers_in bits (option_to_list o) ≡ option_to_list (option_and_then (number_at bits) o)
source_number bits None = refl
source_number bits (Some s) = append-nil (option_to_list (number_at bits s))

-- what is put of a bit is what it reads
pub bit_put : (bits : List WireBit) (signals : List ℕ) (assigns : List Link) (b : WireBit) (from : ℕ) → number_in bits b ≡ Some from
    → (to : Option ℕ) → to ≡ option_and_then (number_at bits) (assigned assigns b)
    → (old mid new : List Edge) → mid ≡ old ++ edges_to from (option_to_list to) → new ≡ mid ++ edges_to from signals → new ≡ old ++ bit_edges bits signals assigns b
bit_put bits signals assigns b from number to is old mid new e f =
    f ∙ ap (λ es. es ++ edges_to from signals) e
    ∙ append_assoc old (edges_to from (option_to_list to)) (edges_to from signals)
    ∙ ap (λ es. old ++ es)
    (sym (map-append (edge from) (option_to_list to) signals)
    ∙ ap (λ ns. edges_to from (ns ++ signals)) (ap option_to_list is ∙ sym (source_number bits (assigned assigns b)))
    ∙ ap (λ o. edges_from o (numbers_in bits (option_to_list (assigned assigns b)) ++ signals)) (sym number))

or_assoc : (o p q : Option SigBit) → option_or (option_or o p) q ≡ option_or o (option_or p q)
or_assoc None p q = refl
or_assoc (Some s) p q = refl

-- one place more of what an assign gives
pub sources_next : (left right : List SigBit) (i : ℕ) (d : SigBit) → i < min (length left) (length right) → (b : WireBit) (old new all : Option SigBit)
    → new ≡ option_or (last_source (joins (get_or left i d ∷ []) (get_or right i d ∷ [])) b) old
    → option_or (last_source (joins (drop i left) (drop i right)) b) old ≡ all → option_or (last_source (joins (drop (i + 1) left) (drop (i + 1) right)) b) new ≡ all
sources_next left right i d h b old new all put before =
    let here = joins (get_or left i d ∷ []) (get_or right i d ∷ []) in
    let rest = joins (drop (i + 1) left) (drop (i + 1) right) in
    let split : here ++ rest ≡ joins (drop i left) (drop i right) = place_added left right i d h [] here (joins (drop i left) (drop i right)) refl refl in
    ap (option_or (last_source rest b)) put
    ∙ sym (or_assoc (last_source rest b) (last_source here b) old)
    ∙ ap (λ o. option_or o old) (sym (last_source-append here rest b) ∙ ap (λ js. last_source js b) split)
    ∙ before

pub sources_end : (left right : List SigBit) (i : ℕ) → min (length left) (length right) ≤ i → (b : WireBit) (old all : Option SigBit)
    → option_or (last_source (joins (drop i left) (drop i right)) b) old ≡ all → old ≡ all
sources_end left right i h b old all before =
    let none : [] ≡ joins (drop i left) (drop i right) = places_all left right i h [] (joins (drop i left) (drop i right)) refl in
    ap (λ js. option_or (last_source js b) old) none ∙ before

-- one assign more
pub assign_next : (assigns : List Link) (i : ℕ) (l : Link) → i < length assigns → l ≡ get_or assigns i l → (b : WireBit) (old new all : Option SigBit)
    → new ≡ option_or (last_source (joins l.left l.right) b) old → option_or (assigned (drop i assigns) b) old ≡ all → option_or (assigned (drop (i + 1) assigns) b) new ≡ all
assign_next assigns i l lt is b old new all put before =
    let rest = drop (i + 1) assigns in
    ap (option_or (assigned rest b)) put
    ∙ sym (or_assoc (assigned rest b) (last_source (joins l.left l.right) b) old)
    ∙ ap (λ o. option_or o old) (sym (assigned-cons l rest b) ∙ ap (λ ls. assigned ls b) (sym (front assigns i l lt is)))
    ∙ before
