-- Where wires begin, and that each number is of one bit.
use Rattle.std.proofs.Common.{◌≡◌, ℕ, zero, suc, ◌+◌, ◌<◌, ◌≤◌, Bool, true, false, cond, ltb, List, [], ◌∷◌, ◌++◌, length, get_or, drop, map, Option, Some, None, unwrap_or, IsSomeAnd, slice_get, refl, sym, ◌∙◌, ap, arith}
use Rattle.std.proofs.lemmas.Bool.{lt-ltb, ltb-true}
use Rattle.std.proofs.lemmas.List.{append-nil}
use Rattle.std.proofs.Math.ListN.{drop_of_length-le}
use Rattle.rtl_sig.specs.declared.sig.WireBit.{WireBit}
use Rattle.rtl_ir.specs.declared.wire.Wire.{Wire}
use Rattle.net_index.specs.declared.numbering.Row.{Row}
use Rattle.net_index.specs.Numbering.{HasBit, start_of, bit_count, number_of, rows_from, widths_of}

-- the widths of the rows are the widths
pub width-rows : (start : ℕ) (ws : List ℕ) → map (λ (row : Row). row.width) (rows_from start ws) ≡ ws
width-rows start [] = refl
width-rows start (w ∷ ws) = ap (λ vs. w ∷ vs) (width-rows (start + w) ws)

pub length-rows : (start : ℕ) (ws : List ℕ) → length (rows_from start ws) ≡ length ws
length-rows start [] = refl
length-rows start (w ∷ ws) = ap suc (length-rows (start + w) ws)

-- the row at a place says where its wire begins, and its width
pub record IsRowAt (ws : List ℕ) (first k : ℕ) (row : Row) : Type 0 where
  pub start : row.start ≡ first + start_of ws k
  pub width : row.width ≡ get_or ws k 0

pub row_at : (start : ℕ) (ws : List ℕ) (k : ℕ) (d : Row) → k < length (rows_from start ws) → IsRowAt ws start k (get_or (rows_from start ws) k d)
row_at start [] k d h = absurd (omega arith)
row_at start (w ∷ ws) zero d h = record { start = omega arith; width = refl }
row_at start (w ∷ ws) (suc k) d h =
    let r = row_at (start + w) ws k d (omega arith) in
    record { start = omega (arith, r.start); width = r.width }

-- a wire's bits stand before the end
pub start_within : (ws : List ℕ) (k at : ℕ) → at < get_or ws k 0 → start_of ws k + at < bit_count ws
start_within [] k at h = absurd (omega arith)
start_within (w ∷ ws) zero at h = omega arith
start_within (w ∷ ws) (suc k) at h = omega (arith, start_within ws k at h)

-- the rows that stand for widths, with how many bits they have
pub record AreRows (widths : List ℕ) (made : List Row) (total : ℕ) : Type 0 where
  pub rows : made ≡ rows_from 0 widths
  pub count : total ≡ bit_count widths

-- what the view of a numbering and its invariant say
pub rows_seen : (made : List Row) (total : ℕ) (widths : List ℕ) → map (λ (row : Row). row.width) made ≡ widths
    → (made ≡ rows_from 0 (map (λ (row : Row). row.width) made)) × (total ≡ bit_count (map (λ (row : Row). row.width) made)) → AreRows widths made total
rows_seen made total widths e i = record { rows = rw (← e) i.0; count = rw (← e) i.1 }

-- the number that a row gives to a bit
pub record IsNumber (widths : List ℕ) (b : WireBit) (number : ℕ) : Type 0 where
  pub value : Some number ≡ number_of widths b
  pub within : number < bit_count widths

pub number_found : (widths : List ℕ) (made : List Row) (total : ℕ) → AreRows widths made total → (rows : List Row) → rows ≡ made → (b : WireBit) (d : Row)
    → b.wire < length rows → b.at < (get_or rows b.wire d).width → IsNumber widths b ((get_or rows b.wire d).start + b.at)
number_found widths made total seen rows same b d h lt =
    let are : rows ≡ rows_from 0 widths = same ∙ seen.rows in
    let inside : b.wire < length (rows_from 0 widths) = rw (← are) h in
    let r = row_at 0 widths b.wire d inside in
    let e : get_or rows b.wire d ≡ get_or (rows_from 0 widths) b.wire d = ap (λ rs. get_or rs b.wire d) are in
    let start : (get_or rows b.wire d).start ≡ start_of widths b.wire = ap (λ (x : Row). x.start) e ∙ r.start ∙ omega arith in
    let width : (get_or rows b.wire d).width ≡ get_or widths b.wire 0 = ap (λ (x : Row). x.width) e ∙ r.width in
    let at : b.at < get_or widths b.wire 0 = omega arith in
    record {
      value = rw (start, lt-ltb b.at (get_or widths b.wire 0) at) refl;
      within = omega (arith, start_within widths b.wire b.at at);
    }

-- at the end of the wires the rows are all made
pub made_rows : (wires : List Wire) (at : ℕ) → length wires ≤ at → (made : List Row) (total : ℕ)
    → made ++ rows_from total (widths_of (drop at wires)) ≡ rows_from 0 (widths_of wires)
    → total + bit_count (widths_of (drop at wires)) ≡ bit_count (widths_of wires) → AreRows (widths_of wires) made total
made_rows wires at h made total e n =
    let none : drop at wires ≡ [] = drop_of_length-le wires h in
    record { rows = sym (append-nil made) ∙ rw none at e; count = omega (arith, rw none at n) }

pub view_made : (widths : List ℕ) (made : List Row) (total : ℕ) → AreRows widths made total → map (λ (row : Row). row.width) made ≡ widths
view_made widths made total are = ap (map (λ (row : Row). row.width)) are.rows ∙ width-rows 0 widths

pub rows_made : (widths : List ℕ) (made : List Row) (total : ℕ) → AreRows widths made total
    → (made ≡ rows_from 0 (map (λ (row : Row). row.width) made)) × (total ≡ bit_count (map (λ (row : Row). row.width) made))
rows_made widths made total are = rw (view_made widths made total are) (are.rows, are.count)

-- where a bit with a number stands
pub record IsAt (ws : List ℕ) (b : WireBit) (number : ℕ) : Type 0 where
  pub inside : b.at < get_or ws b.wire 0
  pub value : start_of ws b.wire + b.at ≡ number

pub number_at : (ws : List ℕ) (b : WireBit) (number : ℕ) → number_of ws b ≡ Some number → IsAt ws b number
number_at ws b number e =
    by (ltb b.at (get_or ws b.wire 0)) refl e
  where
    by : (t : Bool) → ltb b.at (get_or ws b.wire 0) ≡ t → cond t (Some (start_of ws b.wire + b.at)) None ≡ Some number → IsAt ws b number
    by true f g = record { inside = ltb-true b.at (get_or ws b.wire 0) f; value = cc }
    by false f g = absurd (cc)

pub at_number : (ws : List ℕ) (b : WireBit) → b.at < get_or ws b.wire 0 → number_of ws b ≡ Some (start_of ws b.wire + b.at)
at_number ws b h = rw (lt-ltb b.at (get_or ws b.wire 0) h) refl

-- the number of a bit is below the end
pub number_within : (ws : List ℕ) (b : WireBit) (number : ℕ) → number_of ws b ≡ Some number → number < bit_count ws
number_within ws b number e =
    let p = number_at ws b number e in
    omega (arith, p.value, start_within ws b.wire b.at p.inside)

-- bits of one number are one
pub record IsSamePlace (i a j c : ℕ) : Type 0 where
  pub wire : i ≡ j
  pub at : a ≡ c

one_place : (ws : List ℕ) (i a j c : ℕ) → a < get_or ws i 0 → c < get_or ws j 0 → start_of ws i + a ≡ start_of ws j + c → IsSamePlace i a j c
one_place [] i a j c h k e = absurd (omega arith)
one_place (w ∷ ws) zero a zero c h k e = record { wire = refl; at = omega arith }
one_place (w ∷ ws) zero a (suc j) c h k e = absurd (omega arith)
one_place (w ∷ ws) (suc i) a zero c h k e = absurd (omega arith)
one_place (w ∷ ws) (suc i) a (suc j) c h k e =
    let p = one_place ws i a j c h k (omega arith) in
    record { wire = ap suc p.wire; at = p.at }

pub number-inj : (ws : List ℕ) (b c : WireBit) (number : ℕ) → number_of ws b ≡ Some number → number_of ws c ≡ Some number → b ≡ c
number-inj ws b c number e f =
    let p = number_at ws b number e in
    let q = number_at ws c number f in
    let s = one_place ws b.wire b.at c.wire c.at p.inside q.inside (p.value ∙ sym q.value) in
    (λ i. record { wire = s.wire i; at = s.at i })

-- a bit that one of the wires has, has a number
pub bit_width : (wires : List Wire) (wire at : ℕ) → IsSomeAnd (slice_get wires wire) (λ (w : Wire). at < w.width) → at < get_or (widths_of wires) wire 0
bit_width [] wire at h = absurd h
bit_width (w ∷ ws) zero at h = h
bit_width (w ∷ ws) (suc k) at h = bit_width ws k at h

pub bit_number : (wires : List Wire) (b : WireBit) → HasBit wires b → number_of (widths_of wires) b ≡ Some (start_of (widths_of wires) b.wire + b.at)
bit_number wires b h = at_number (widths_of wires) b (bit_width wires b.wire b.at h)

-- a number that is answered where a bit has one, and else 0
pub number_answered : (wires : List Wire) (widths : List ℕ) (b : WireBit) (o : Option ℕ) (r : ℕ) → widths ≡ widths_of wires → HasBit wires b
    → o ≡ number_of widths b → r ≡ unwrap_or o 0 → number_of (widths_of wires) b ≡ Some r
number_answered wires widths b o r same has found answer =
    let own : number_of (widths_of wires) b ≡ Some (start_of (widths_of wires) b.wire + b.at) = bit_number wires b has in
    let some : o ≡ Some (start_of (widths_of wires) b.wire + b.at) = found ∙ ap (λ ws. number_of ws b) same ∙ own in
    own ∙ ap Some (sym (answer ∙ ap (λ p. unwrap_or p 0) some))
