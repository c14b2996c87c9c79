-- The rows of the connections to what the outside sees, bit by bit.
use Rattle.std.proofs.Common.{◌≡◌, ℕ, zero, suc, ◌+◌, ◌<◌, Bool, true, false, cond, if◌then◌else◌, List, [], ◌∷◌, ◌++◌, Some, inl, inr, ⊎_elim, refl, sym, ◌∙◌, ap, subst, arith, append_assoc, map-id, ◌≤◌}
use Rattle.std.specs.Prelude.{map, flat_map, filter, slice_get}
use Rattle.std.specs.List.{range_with_len}
use Rattle.std.proofs.lemmas.Grind.{flat_map-append}
use Rattle.std.proofs.lemmas.List.{append-nil}
use Rattle.rtl_sig.specs.declared.sig.SigBit.{SigBit}
use Rattle.rtl_sig.specs.declared.sig.SigBit.TheVariants.{Fixed, Wire as OnWire}
use Rattle.rtl_sig.specs.declared.sig.WireBit.{WireBit}
use Rattle.rtl_ir.specs.Flat.Driver.{Driven, Joined}
use Rattle.rtl_ir.specs.Flat.Link.{joins, link_rows}
use Rattle.rtl_ir.specs.Flat.Place.{Path}
use Rattle.rtl_ir.specs.Flat.Point.{bit_place, point, points}
use Rattle.rtl_ir.specs.Signals.{bits_of_wire, wire_bits}
use Rattle.rtl_ir.specs.declared.module.Link.{Link}
use Rattle.rtl_ir.specs.declared.wire.Wire.{Wire}
use Rattle.net_model.specs.Lists.{In, Distinct}
use Rattle.net_model.proofs.Members.{In-cases, In-left, In-map, In-mapped, In-right, Distinct-append, apart_at, apart_from, map-append}
use Rattle.pass_laws.specs.Bits.{links_bits}
use Rattle.opt_clean.specs.Keep.{is_shown}
use Rattle.opt_clean.specs.Kept.{right_bits}
use Rattle.opt_clean.specs.Runs.{ended, run_link, runs, shown_links, wire_links}

-- the row of a bit that has this source
abbrev pub row_from : Path → List Wire → (WireBit → SigBit) → WireBit → Driven
row_from p wires source b = record { place = bit_place p wires b; driver = Joined (point p wires (source b)) }

-- all bits of runs
abbrev run_bits : List (List WireBit) → List WireBit
run_bits rs = flat_map (λ r. r) rs

ended_bits : (run : List WireBit) → run_bits (ended run) ≡ run
ended_bits [] = refl
ended_bits (b ∷ run) = append-nil (b ∷ run)

runs_bits : (fits : WireBit → Bool) (run bits : List WireBit) → run_bits (runs fits run bits) ≡ run ++ filter fits bits
runs_bits fits run [] = ended_bits run ∙ sym (append-nil run)
runs_bits fits run (b ∷ bits) = by (runs_bits fits (run ++ b ∷ []) bits) (runs_bits fits [] bits) (fits b)
  where
    by : run_bits (runs fits (run ++ b ∷ []) bits) ≡ (run ++ b ∷ []) ++ filter fits bits → run_bits (runs fits [] bits) ≡ filter fits bits → (t : Bool) → run_bits (if t then runs fits (run ++ b ∷ []) bits else ended run ++ runs fits [] bits) ≡ run ++ cond t (b ∷ filter fits bits) (filter fits bits)
    by on off true = on ∙ append_assoc run (b ∷ []) (filter fits bits)
    by on off false =
        flat_map-append (λ (r : List WireBit). r) (ended run) (runs fits [] bits)
        ∙ ap (λ z. z ++ run_bits (runs fits [] bits)) (ended_bits run)
        ∙ ap (λ z. run ++ z) off

ended_fit : (fits : WireBit → Bool) (run : List WireBit) → ((b : WireBit) → In b run → fits b ≡ true) → (r : List WireBit) → In r (ended run) → (b : WireBit) → In b r → fits b ≡ true
ended_fit fits [] h r i b j = absurd i
ended_fit fits (c ∷ run) h r (inl e) b j = h b (subst (In b) e j)
ended_fit fits (c ∷ run) h r (inr i) b j = absurd i

-- each bit of a run fits
pub runs_fit : (fits : WireBit → Bool) (run bits : List WireBit) → ((b : WireBit) → In b run → fits b ≡ true) → (r : List WireBit) → In r (runs fits run bits) → (b : WireBit) → In b r → fits b ≡ true
runs_fit fits run [] h r i b j = ended_fit fits run h r i b j
runs_fit fits run (c ∷ bits) h r i b j = by (runs_fit fits (run ++ c ∷ []) bits) (runs_fit fits [] bits) (fits c) refl i
  where
    by : (((b : WireBit) → In b (run ++ c ∷ []) → fits b ≡ true) → (r : List WireBit) → In r (runs fits (run ++ c ∷ []) bits) → (b : WireBit) → In b r → fits b ≡ true) → (((b : WireBit) → In b [] → fits b ≡ true) → (r : List WireBit) → In r (runs fits [] bits) → (b : WireBit) → In b r → fits b ≡ true) → (t : Bool) → fits c ≡ t → In r (if t then runs fits (run ++ c ∷ []) bits else ended run ++ runs fits [] bits) → fits b ≡ true
    by on off true e k =
        on (λ d l. ⊎_elim (λ x. h d x) (λ x. ⊎_elim (λ y. ap fits y ∙ e) (λ y. absurd y) x) (In-cases d run (c ∷ []) l)) r k b j
    by on off false e k =
        ⊎_elim (λ x. ended_fit fits run h r x b j) (λ x. off (λ d l. absurd l) r x b j) (In-cases r (ended run) (runs fits [] bits) k)

-- the bits of the wires from a place on that fit, where the outside sees them
abbrev pub shown_bits : (WireBit → Bool) → ℕ → List Wire → List WireBit
shown_bits fits wire [] = []
shown_bits fits wire (w ∷ ws) =
    (if is_shown w then filter fits (bits_of_wire wire w.width) else []) ++ shown_bits fits (wire + 1) ws

-- what connections give of which each run gives what its bits give
module _ {A : Type 0} (of_links : List Link → List A) (of_bit : WireBit → A) (source : WireBit → SigBit)
    (none : of_links [] ≡ []) (more : (l : Link) (ls : List Link) → of_links (l ∷ ls) ≡ of_links (l ∷ []) ++ of_links ls)
    (one : (run : List WireBit) → of_links (run_link source run ∷ []) ≡ map of_bit run) where
  of_append : (ls ks : List Link) → of_links (ls ++ ks) ≡ of_links ls ++ of_links ks
  of_append [] ks = ap (λ z. z ++ of_links ks) (sym none)
  of_append (l ∷ ls) ks =
      more l (ls ++ ks) ∙ ap (λ z. of_links (l ∷ []) ++ z) (of_append ls ks) ∙ sym (append_assoc (of_links (l ∷ [])) (of_links ls) (of_links ks)) ∙ ap (λ z. z ++ of_links ks) (sym (more l ls))

  of_runs : (rs : List (List WireBit)) → of_links (map (run_link source) rs) ≡ map of_bit (run_bits rs)
  of_runs [] = none
  of_runs (r ∷ rs) =
      more (run_link source r) (map (run_link source) rs) ∙ ap (λ z. z ++ of_links (map (run_link source) rs)) (one r) ∙ ap (λ z. map of_bit r ++ z) (of_runs rs) ∙ sym (map-append of_bit r (run_bits rs))

  pub of_shown : (fits : WireBit → Bool) (wire : ℕ) (ws : List Wire) → of_links (shown_links fits source wire ws) ≡ map of_bit (shown_bits fits wire ws)
  of_shown fits wire [] = none
  of_shown fits wire (w ∷ ws) = by (of_shown fits (wire + 1) ws) (is_shown w)
    where
      by : of_links (shown_links fits source (wire + 1) ws) ≡ map of_bit (shown_bits fits (wire + 1) ws) → (t : Bool) → of_links ((if t then wire_links fits source wire w.width else []) ++ shown_links fits source (wire + 1) ws) ≡ map of_bit ((if t then filter fits (bits_of_wire wire w.width) else []) ++ shown_bits fits (wire + 1) ws)
      by later true =
          of_append (wire_links fits source wire w.width) (shown_links fits source (wire + 1) ws)
          ∙ ap (λ z. z ++ of_links (shown_links fits source (wire + 1) ws)) (of_runs (runs fits [] (bits_of_wire wire w.width)) ∙ ap (map of_bit) (runs_bits fits [] (bits_of_wire wire w.width)))
          ∙ ap (λ z. map of_bit (filter fits (bits_of_wire wire w.width)) ++ z) later
          ∙ sym (map-append of_bit (filter fits (bits_of_wire wire w.width)) (shown_bits fits (wire + 1) ws))
      by later false = later

-- the rows
pub shown_rows : (p : Path) (wires : List Wire) (fits : WireBit → Bool) (source : WireBit → SigBit) (wire : ℕ) (ws : List Wire) → link_rows p wires (shown_links fits source wire ws) ≡ map (row_from p wires source) (shown_bits fits wire ws)
shown_rows p wires fits source wire ws = of_shown (link_rows p wires) (row_from p wires source) source refl (λ l ls. ap (λ z. z ++ link_rows p wires ls) (sym (append-nil (joins (points p wires l.left) (points p wires l.right))))) (λ run. append-nil (joins (points p wires (map OnWire run)) (points p wires (map source run))) ∙ one run) fits wire ws
  where
    one : (run : List WireBit) → joins (points p wires (map OnWire run)) (points p wires (map source run)) ≡ map (row_from p wires source) run
    one [] = refl
    one (b ∷ run) = ap (λ z. row_from p wires source b ∷ z) (one run)

-- the bits on the left
pub shown_lefts : (fits : WireBit → Bool) (source : WireBit → SigBit) (wire : ℕ) (ws : List Wire) → links_bits (shown_links fits source wire ws) ≡ shown_bits fits wire ws
shown_lefts fits source wire ws = of_shown links_bits (λ b. b) source refl (λ l ls. ap (λ z. z ++ links_bits ls) (sym (append-nil (wire_bits l.left)))) (λ run. append-nil (wire_bits (map OnWire run)) ∙ one run) fits wire ws ∙ map-id (shown_bits fits wire ws)
  where
    one : (run : List WireBit) → wire_bits (map OnWire run) ≡ map (λ b. b) run
    one [] = refl
    one (b ∷ run) = ap (λ z. b ∷ z) (one run)

pub wire_bits-append : (xs ys : List SigBit) → wire_bits (xs ++ ys) ≡ wire_bits xs ++ wire_bits ys
wire_bits-append [] ys = refl
wire_bits-append (Fixed c ∷ xs) ys = wire_bits-append xs ys
wire_bits-append (OnWire b ∷ xs) ys = ap (λ z. b ∷ z) (wire_bits-append xs ys)

rights_are : (links : List Link) → right_bits links ≡ wire_bits (flat_map (λ (l : Link). l.right) links)
rights_are [] = refl
rights_are (l ∷ links) =
    ap (λ z. wire_bits l.right ++ z) (rights_are links) ∙ sym (wire_bits-append l.right (flat_map (λ (k : Link). k.right) links))

-- the bits on the right
pub shown_rights : (fits : WireBit → Bool) (source : WireBit → SigBit) (wire : ℕ) (ws : List Wire) → right_bits (shown_links fits source wire ws) ≡ wire_bits (map source (shown_bits fits wire ws))
shown_rights fits source wire ws =
    rights_are (shown_links fits source wire ws)
    ∙ ap wire_bits (of_shown (flat_map (λ (l : Link). l.right)) source source refl (λ l ls. ap (λ z. z ++ flat_map (λ (k : Link). k.right) ls) (sym (append-nil l.right))) (λ run. append-nil (map source run)) fits wire ws)

-- the bit that one of them has as its source
pub in_sources : (source : WireBit → SigBit) (bits : List WireBit) (b d : WireBit) → In b bits → source b ≡ OnWire d → In d (wire_bits (map source bits))
in_sources source [] b d i e = absurd i
in_sources source (c ∷ bits) b d (inl f) e = subst (λ z. In d (wire_bits (z ∷ map source bits))) (sym (ap source (sym f) ∙ e)) (inl refl)
in_sources source (c ∷ bits) b d (inr i) e = by (in_sources source bits b d i e) (source c)
  where
    by : In d (wire_bits (map source bits)) → (z : SigBit) → In d (wire_bits (z ∷ map source bits))
    by later (Fixed k) = later
    by later (OnWire k) = inr later

-- a bit that fits, of a wire from a place on that the outside sees
pub record IsShown (fits : WireBit → Bool) (wire : ℕ) (ws : List Wire) (b : WireBit) : Type 0 where
  pub place : ℕ
  pub of : Wire
  pub there : slice_get ws place ≡ Some of
  pub is : b.wire ≡ wire + place
  pub shown : is_shown of ≡ true
  pub inside : b.at < of.width
  pub fit : fits b ≡ true

in_filter : (fits : WireBit → Bool) (bits : List WireBit) (b : WireBit) → In b bits → fits b ≡ true → In b (filter fits bits)
in_filter fits [] b i e = absurd i
in_filter fits (c ∷ bits) b i e = by (λ j. in_filter fits bits b j e) (fits c) refl i
  where
    by : (In b bits → In b (filter fits bits)) → (t : Bool) → fits c ≡ t → In b (c ∷ bits) → In b (cond t (c ∷ filter fits bits) (filter fits bits))
    by later true f (inl g) = inl g
    by later true f (inr j) = inr (later j)
    by later false f (inl g) = let no : true ≡ false = sym e ∙ ap fits g ∙ f in absurd (cc)
    by later false f (inr j) = later j

filter_in : (fits : WireBit → Bool) (bits : List WireBit) (b : WireBit) → In b (filter fits bits) → In b bits × (fits b ≡ true)
filter_in fits [] b i = absurd i
filter_in fits (c ∷ bits) b i = by (λ j. filter_in fits bits b j) (fits c) refl i
  where
    by : (In b (filter fits bits) → In b bits × (fits b ≡ true)) → (t : Bool) → fits c ≡ t → In b (cond t (c ∷ filter fits bits) (filter fits bits)) → In b (c ∷ bits) × (fits b ≡ true)
    by later true f (inl g) = (inl g, ap fits g ∙ f)
    by later true f (inr j) = let k = later j in (inr k.0, k.1)
    by later false f j = let k = later j in (inr k.0, k.1)

pub in_range : (a n k : ℕ) → k < n → In (a + k) (range_with_len a n)
in_range a zero k h = absurd (omega arith)
in_range a (suc n) zero h = let e : a + 0 ≡ a = omega arith in inl e
in_range a (suc n) (suc k) h = let e : a + 1 + k ≡ a + suc k = omega arith in let lt : k < n = omega arith in inr (subst (λ z. In z (range_with_len (a + 1) n)) e (in_range (a + 1) n k lt))

pub range_in : (a n x : ℕ) → In x (range_with_len a n) → (a ≤ x) × (x < a + n)
range_in a zero x i = absurd i
range_in a (suc n) x (inl e) = (omega (arith, e), omega (arith, e))
range_in a (suc n) x (inr i) = let k = range_in (a + 1) n x i in (omega (arith, k.0), omega (arith, k.1))

pub in_wire : (wire width : ℕ) (b : WireBit) → b.wire ≡ wire → b.at < width → In b (bits_of_wire wire width)
in_wire wire width b e h =
    subst (λ z. In (record { wire = z; at = b.at }) (bits_of_wire wire width)) (sym e) (In-map (λ at. record { wire = wire; at = at }) b.at (range_with_len 0 width) (let z : 0 + b.at ≡ b.at = omega arith in subst (λ k. In k (range_with_len 0 width)) z (in_range 0 width b.at h)))

pub wire_in : (wire width : ℕ) (b : WireBit) → In b (bits_of_wire wire width) → (b.wire ≡ wire) × (b.at < width)
wire_in wire width b i =
    let k = In-mapped (λ at. record { wire = wire; at = at }) b (range_with_len 0 width) i in
    let r = range_in 0 width k.0 k.1 in
    (ap (λ (z : WireBit). z.wire) k.2, subst (λ (z : WireBit). z.at < width) (sym k.2) (omega (arith, r.1)))

module _ (fits : WireBit → Bool) where
  pub shown_has : (wire : ℕ) (ws : List Wire) (b : WireBit) → IsShown fits wire ws b → In b (shown_bits fits wire ws)
  shown_has wire [] b h = absurd (none h.place h.there)
    where
      none : (k : ℕ) → slice_get [] k ≡ Some h.of → ⊥
      none k e = cc
  shown_has wire (w ∷ ws) b h = by (shown_has (wire + 1) ws b) h.place h.there h.is
    where
      by : (IsShown fits (wire + 1) ws b → In b (shown_bits fits (wire + 1) ws)) → (k : ℕ) → slice_get (w ∷ ws) k ≡ Some h.of → b.wire ≡ wire + k → In b (shown_bits fits wire (w ∷ ws))
      by later zero e is =
          let same : w ≡ h.of = cc in
          let shown : is_shown w ≡ true = ap is_shown same ∙ h.shown in
          let inside : b.at < w.width = subst (λ (z : Wire). b.at < z.width) (sym same) h.inside in
          let here : b.wire ≡ wire = omega (arith, is) in
          In-left b (if is_shown w then filter fits (bits_of_wire wire w.width) else []) (shown_bits fits (wire + 1) ws) (subst (λ t. In b (if t then filter fits (bits_of_wire wire w.width) else [])) (sym shown) (in_filter fits (bits_of_wire wire w.width) b (in_wire wire w.width b here inside) h.fit))
      by later (suc k) e is =
          In-right b (if is_shown w then filter fits (bits_of_wire wire w.width) else []) (shown_bits fits (wire + 1) ws) (later (record { place = k; of = h.of; there = e; is = omega (arith, is); shown = h.shown; inside = h.inside; fit = h.fit }))

  pub shown_in : (wire : ℕ) (ws : List Wire) (b : WireBit) → In b (shown_bits fits wire ws) → IsShown fits wire ws b
  shown_in wire [] b i = absurd i
  shown_in wire (w ∷ ws) b i =
      ⊎_elim
      (λ l. here (is_shown w) refl l)
      (λ r. let h = shown_in (wire + 1) ws b r in
      record { place = suc h.place; of = h.of; there = h.there; is = omega (arith, h.is); shown = h.shown; inside = h.inside; fit = h.fit })
      (In-cases b (if is_shown w then filter fits (bits_of_wire wire w.width) else []) (shown_bits fits (wire + 1) ws) i)
    where
      here : (t : Bool) → is_shown w ≡ t → In b (if t then filter fits (bits_of_wire wire w.width) else []) → IsShown fits wire (w ∷ ws) b
      here false e j = absurd j
      here true e j =
          let f = filter_in fits (bits_of_wire wire w.width) b j in
          let k = wire_in wire w.width b f.0 in
          record { place = 0; of = w; there = refl; is = omega (arith, k.0); shown = e; inside = k.1; fit = f.1 }

  pub wire_distinct : (wire a n : ℕ) → Distinct {A = WireBit} (map (λ at. record { wire = wire; at = at }) (range_with_len a n))
  wire_distinct wire a zero = tt
  wire_distinct wire a (suc n) = (
    apart_from {A = WireBit} (record { wire = wire; at = a }) (map (λ at. record { wire = wire; at = at }) (range_with_len (a + 1) n)) (λ y i e.
        let k = In-mapped (λ at. record { wire = wire; at = at }) y (range_with_len (a + 1) n) i in
        let r = range_in (a + 1) n k.0 k.1 in
        let same : a ≡ k.0 = ap (λ (z : WireBit). z.at) (e ∙ k.2) in
        omega (arith, r.0, same)),
    wire_distinct wire (a + 1) n,
  )

  filter_distinct : (bits : List WireBit) → Distinct bits → Distinct (filter fits bits)
  filter_distinct [] h = tt
  filter_distinct (b ∷ bits) h = by (filter_distinct bits h.1) (fits b)
    where
      by : Distinct (filter fits bits) → (t : Bool) → Distinct (cond t (b ∷ filter fits bits) (filter fits bits))
      by later true = (apart_from b (filter fits bits) (λ y i. apart_at b bits h.0 y (filter_in fits bits y i).0), later)
      by later false = later

  -- no bit stands twice
  pub shown_distinct : (wire : ℕ) (ws : List Wire) → Distinct (shown_bits fits wire ws)
  shown_distinct wire [] = tt
  shown_distinct wire (w ∷ ws) =
      Distinct-append (if is_shown w then filter fits (bits_of_wire wire w.width) else []) (shown_bits fits (wire + 1) ws) (here (is_shown w)) (shown_distinct (wire + 1) ws) (λ b i j.
      let h = shown_in (wire + 1) ws b j in
      let k : b.wire ≡ wire = own (is_shown w) b i in
      omega (arith, k, h.is))
    where
      here : (t : Bool) → Distinct (if t then filter fits (bits_of_wire wire w.width) else [])
      here false = tt
      here true = filter_distinct (bits_of_wire wire w.width) (wire_distinct wire 0 w.width)

      own : (t : Bool) (b : WireBit) → In b (if t then filter fits (bits_of_wire wire w.width) else []) → b.wire ≡ wire
      own false b i = absurd i
      own true b i = (wire_in wire w.width b (filter_in fits (bits_of_wire wire w.width) b i).0).0
