-- Start values in the attributes of wires.
use Rattle.std.proofs.Common.{◌≡◌, ℕ, zero, suc, ◌+◌, ◌<◌, Bool, true, false, List, [], ◌∷◌, ◌++◌, length, get_or, drop, Option, Some, None, Result, Ok, Err, zero-add, arith, append_assoc, refl, sym, ◌∙◌, ap}
use Rattle.std.specs.Prelude.{codes, flat_map, if◌then◌else◌, slice_get, slice_index_or, slice_set, unwrap_or, IfOk}
use Rattle.std.specs.Option.{option_map}
use Rattle.std.specs.Str.{bytes_eq}
use Rattle.std.proofs.lemmas.List.FromFn.{map-range_with_len_more}
use Rattle.std.proofs.lemmas.Option.{slice_get-get_or}
use Rattle.rtl_bits.specs.declared.bit.Bit.{Bit}
use Rattle.rtl_bits.specs.declared.bit.Bit.TheVariants.{X}
use Rattle.rtl_bits.specs.declared.memory.Memory.{Memory}
use Rattle.rtl_bits.specs.Tables.{seen_of}
use Rattle.rtl_sig.specs.declared.sig.SigBit.TheVariants.{Wire as OnWire}
use Rattle.rtl_ir.specs.declared.module.Module.{Module}
use Rattle.rtl_ir.specs.declared.value.Attribute.{Attribute}
use Rattle.rtl_ir.specs.declared.wire.Wire.{Wire}
use Rattle.rtl_ir.specs.Flat.Start.{Begun, init_bits, last_start, process_starts, start_of}
use Rattle.rtl_ir.specs.Attributes.{attribute_bits}
use Rattle.net_model.specs.Proc.Start.{begun_wires, init_attribute, wire_starts, with_attribute}
use Rattle.proc_tree.specs.declared.starts.Starts.{Starts}
use Rattle.proc_tree.specs.Attributes.{place_of}
use Rattle.proc_tree.specs.Starts.{AreStarts, AreStartsOf, begun_wire, wire_is_begun}
use Rattle.process_trees.proofs.Fronts.{front}

-- the place of an attribute
no_place : (o : Option ℕ) → option_map suc o ≡ None → o ≡ None
no_place None e = refl
no_place (Some k) e = absurd (cc)

one_less : (o : Option ℕ) (k : ℕ) → option_map suc o ≡ Some (suc k) → o ≡ Some k
one_less None k e = absurd (cc)
one_less (Some j) k e = let f : suc j ≡ suc k = cc in let g : j ≡ k = omega arith in ap (λ n. Some n) g

not_first : (o : Option ℕ) → option_map suc o ≡ Some 0 → ⊥
not_first None e = absurd (cc)
not_first (Some j) e = let f : suc j ≡ 0 = cc in omega arith

pub put_at : (a : Attribute) (xs : List Attribute) (k : ℕ) → place_of a.name xs ≡ Some k → slice_set xs k a ≡ with_attribute a xs
put_at a [] k e = absurd (cc)
put_at a (x ∷ xs) zero e = by (bytes_eq x.name a.name) e
  where
    by : (t : Bool) → (if t then Some 0 else option_map suc (place_of a.name xs)) ≡ Some 0 → a ∷ xs ≡ (if t then a ∷ xs else x ∷ with_attribute a xs)
    by true e = refl
    by false e = absurd (not_first (place_of a.name xs) e)
put_at a (x ∷ xs) (suc k) e = by (bytes_eq x.name a.name) e (put_at a xs k)
  where
    by : (t : Bool) → (if t then Some 0 else option_map suc (place_of a.name xs)) ≡ Some (suc k) → (place_of a.name xs ≡ Some k → slice_set xs k a ≡ with_attribute a xs)
        → x ∷ slice_set xs k a ≡ (if t then a ∷ xs else x ∷ with_attribute a xs)
    by true e f = absurd (let g : 0 ≡ suc k = cc in omega arith)
    by false e f = ap (λ z. x ∷ z) (f (one_less (place_of a.name xs) k e))

pub put_last : (a : Attribute) (xs : List Attribute) → place_of a.name xs ≡ None → xs ++ a ∷ [] ≡ with_attribute a xs
put_last a [] e = refl
put_last a (x ∷ xs) e = by (bytes_eq x.name a.name) e (put_last a xs)
  where
    by : (t : Bool) → (if t then Some 0 else option_map suc (place_of a.name xs)) ≡ None → (place_of a.name xs ≡ None → xs ++ a ∷ [] ≡ with_attribute a xs)
        → x ∷ (xs ++ a ∷ []) ≡ (if t then a ∷ xs else x ∷ with_attribute a xs)
    by true e f = absurd (cc)
    by false e f = ap (λ z. x ∷ z) (f (no_place (place_of a.name xs) e))

-- one more bit of a wire
pub bits_next : (m : Module) (place at : ℕ) (w : Wire) → slice_get m.wires place ≡ Some w
    → (starts : Starts) → AreStartsOf starts m → (given : Option Bit) → ((count : ℕ) (all : List Begun) → AreStarts starts count all → given ≡ last_start all (record { wire = place; at = at }))
    → (init : List Bit) → init ≡ attribute_bits w.attributes (codes "\\init") → (other : Bit) → other ≡ slice_index_or init at X → (seen : Bit) → seen ≡ seen_of (unwrap_or given other)
    → (done new : List Bit) → new ≡ done ++ seen ∷ [] → done ≡ wire_starts m place at → new ≡ wire_starts m place (at + 1)
bits_next m place at w there starts are given gives init is other reads seen sees done new put before =
    put
    ∙ (λ i. before i ++ (sees ∙ (λ j. seen_of (unwrap_or (gives (length m.wires) (flat_map process_starts m.processes) are j) ((reads ∙ ap (λ bits. slice_index_or bits at X) (is ∙ ap init_bits (sym there))) j)))) i ∷ [])
    ∙ sym (map-range_with_len_more (λ k. start_of m.wires m.processes (OnWire (record { wire = place; at = k }))) 0 at at (zero-add at))

-- the wire that is there
within : (wires : List Wire) (k : ℕ) (w : Wire) → slice_get wires k ≡ Some w → k < length wires
within [] k w e = absurd (cc)
within (x ∷ wires) zero w e = omega arith
within (x ∷ wires) (suc k) w e = let h : k < length wires = within wires k w e in omega arith

pub there : (wires : List Wire) (k : ℕ) (w : Wire) → k < length wires → w ≡ get_or wires k w → slice_get wires k ≡ Some w
there wires k w lt is = slice_get-get_or wires k w lt ∙ ap (λ x. Some x) (sym is)

-- a wire of which no bit is given a start value
pub kept_wire : (starts : Starts) (place : ℕ) (w : Wire) (t : Bool) → ((count : ℕ) (all : List Begun) → AreStarts starts count all → place < count → t ≡ wire_is_begun all place) → t ≡ false
    → (r : Result Wire Memory) → IfOk r (λ copy. copy ≡ w) → IfOk r (λ begun. (m : Module) → AreStartsOf starts m → slice_get m.wires place ≡ Some w → begun ≡ begun_wire m place w)
kept_wire starts place w t tells not (Err fault) e = tt
kept_wire starts place w t tells not (Ok copy) e = λ m are get.
    e
    ∙ ap (λ t. if t then record w { attributes = with_attribute (init_attribute (wire_starts m place w.width)) w.attributes } else w)
    (sym not ∙ tells (length m.wires) (flat_map process_starts m.processes) are (within m.wires place w get))

-- a wire of which one is
pub begun_there : (starts : Starts) (place : ℕ) (w : Wire) (t : Bool) → ((count : ℕ) (all : List Begun) → AreStarts starts count all → place < count → t ≡ wire_is_begun all place) → t ≡ true
    → (bits : List Bit) → ((m : Module) → AreStartsOf starts m → slice_get m.wires place ≡ Some w → bits ≡ wire_starts m place w.width)
    → (r : Result Wire Memory) → IfOk r (λ begun. begun ≡ record w { attributes = with_attribute (init_attribute bits) w.attributes })
    → IfOk r (λ begun. (m : Module) → AreStartsOf starts m → slice_get m.wires place ≡ Some w → begun ≡ begun_wire m place w)
begun_there starts place w t tells is bits gives (Err fault) e = tt
begun_there starts place w t tells is bits gives (Ok begun) e = λ m are get.
    e
    ∙ ap (λ bits. record w { attributes = with_attribute (init_attribute bits) w.attributes }) (gives m are get)
    ∙ ap (λ t. if t then record w { attributes = with_attribute (init_attribute (wire_starts m place w.width)) w.attributes } else w)
    (sym is ∙ tells (length m.wires) (flat_map process_starts m.processes) are (within m.wires place w get))

-- one more wire
pub wires_next : (m : Module) (wires : List Wire) (i : ℕ) (w : Wire) → i < length wires → w ≡ get_or wires i w → (done new all : List Wire) (made : Wire) → new ≡ done ++ made ∷ [] → made ≡ begun_wire m i w
    → done ++ begun_wires m i (drop i wires) ≡ all → new ++ begun_wires m (i + 1) (drop (i + 1) wires) ≡ all
wires_next m wires i w lt is done new all made put as_is before =
    let rest : List Wire = begun_wires m (i + 1) (drop (i + 1) wires) in
    ap (λ xs. xs ++ rest) (put ∙ ap (λ x. done ++ x ∷ []) as_is)
    ∙ append_assoc done (begun_wire m i w ∷ []) rest
    ∙ ap (λ xs. done ++ begun_wires m i xs) (sym (front wires i w lt is))
    ∙ before
