-- Runs and connections, in loops.
use Rattle.std.proofs.Common.{◌≡◌, ℕ, zero, suc, ◌+◌, ◌-◌, ◌<◌, ◌≤◌, Bool, true, false, if◌then◌else◌, List, [], ◌∷◌, ◌++◌, length, get_or, map, drop, refl, sym, ◌∙◌, ap, arith, append_assoc}
use Rattle.std.specs.List.{range_with_len}
use Rattle.std.proofs.lemmas.List.{append-nil, drop_all}
use Rattle.rtl_sig.specs.declared.sig.SigBit.{SigBit}
use Rattle.rtl_sig.specs.declared.sig.WireBit.{WireBit}
use Rattle.rtl_ir.specs.declared.module.Link.{Link}
use Rattle.rtl_ir.specs.declared.wire.Wire.{Wire}
use Rattle.net_model.proofs.Members.{map-append}
use Rattle.opt_clean.specs.Keep.{is_shown}
use Rattle.opt_clean.specs.Runs.{ended, run_link, runs, shown_links, wire_links}
use Rattle.opt_clean.proofs.Steps.{here}

-- the bits of a wire from a place on, so many
abbrev pub bits_from : ℕ → ℕ → ℕ → List WireBit
bits_from wire at count = map (λ k. record { wire = wire; at = k }) (range_with_len at count)

-- a run that has bits
pub ended_some : (run : List WireBit) → 0 < length run → ended run ≡ run ∷ []
ended_some [] h = absurd (omega arith)
ended_some (b ∷ run) h = refl

pub ended_none : (run : List WireBit) → length run ≡ 0 → ended run ≡ []
ended_none [] h = refl
ended_none (b ∷ run) h = absurd (omega (arith, h))

module _ (fits : WireBit → Bool) (source : WireBit → SigBit) where
  abbrev links_by : List WireBit → List WireBit → List Link
  links_by run bits = map (run_link source) (runs fits run bits)

  abbrev bit_at : ℕ → ℕ → WireBit
  bit_at wire at = record { wire = wire; at = at }

  -- one more bit
  pub runs_next : (wire at width : ℕ) (links more : List Link) (run next : List WireBit) (all : List Link) → at < width
      → more ≡ links ++ (if fits (bit_at wire at) then [] else map (run_link source) (ended run))
      → next ≡ (if fits (bit_at wire at) then run ++ bit_at wire at ∷ [] else [])
      → links ++ links_by run (bits_from wire at (width - at)) ≡ all
      → more ++ links_by next (bits_from wire (at + 1) (width - (at + 1))) ≡ all
  runs_next wire at width links more run next all lt m n inv =
      let z : width - at ≡ suc (width - (at + 1)) = omega arith in
      (λ i. m i ++ links_by (n i) (bits_from wire (at + 1) (width - (at + 1))))
      ∙ by (fits (bit_at wire at))
      ∙ ap (λ k. links ++ links_by run (bits_from wire at k)) (sym z)
      ∙ inv
    where
      by : (t : Bool) → (links ++ (if t then [] else map (run_link source) (ended run))) ++ links_by (if t then run ++ bit_at wire at ∷ [] else []) (bits_from wire (at + 1) (width - (at + 1))) ≡ links ++ map (run_link source) (if t then runs fits (run ++ bit_at wire at ∷ []) (bits_from wire (at + 1) (width - (at + 1))) else ended run ++ runs fits [] (bits_from wire (at + 1) (width - (at + 1))))
      by true = ap (λ z. z ++ links_by (run ++ bit_at wire at ∷ []) (bits_from wire (at + 1) (width - (at + 1)))) (append-nil links)
      by false =
          append_assoc links (map (run_link source) (ended run)) (links_by [] (bits_from wire (at + 1) (width - (at + 1))))
          ∙ ap (λ z. links ++ z) (sym (map-append (run_link source) (ended run) (runs fits [] (bits_from wire (at + 1) (width - (at + 1))))))

  pub runs_begin : (wire width : ℕ) (links : List Link) → links ++ links_by [] (bits_from wire 0 (width - 0)) ≡ links ++ wire_links fits source wire width
  runs_begin wire width links =
      let z : width - 0 ≡ width = omega arith in
      ap (λ k. links ++ links_by [] (bits_from wire 0 k)) z

  pub runs_end : (wire at width : ℕ) (links more : List Link) (run : List WireBit) (all : List Link) → width ≤ at
      → more ≡ links ++ map (run_link source) (ended run)
      → links ++ links_by run (bits_from wire at (width - at)) ≡ all
      → more ≡ all
  runs_end wire at width links more run all h m inv =
      let z : width - at ≡ 0 = omega arith in
      m ∙ ap (λ k. links ++ links_by run (bits_from wire at k)) (sym z) ∙ inv

  -- one more wire
  pub wire_next : (wires : List Wire) (i : ℕ) (w : Wire) (shown : Bool) (place : ℕ) (links more all : List Link) → i < length wires → w ≡ get_or wires i w
      → shown ≡ is_shown w → place ≡ i
      → more ≡ links ++ (if shown then wire_links fits source place w.width else [])
      → links ++ shown_links fits source i (drop i wires) ≡ all
      → more ++ shown_links fits source (i + 1) (drop (i + 1) wires) ≡ all
  wire_next wires i w shown place links more all h is s e m inv =
      let next : List Link = shown_links fits source (i + 1) (drop (i + 1) wires) in
      ap (λ z. z ++ next) m
      ∙ ap (λ t. (links ++ (if t then wire_links fits source place w.width else [])) ++ next) s
      ∙ ap (λ k. (links ++ (if is_shown w then wire_links fits source k w.width else [])) ++ next) e
      ∙ append_assoc links (if is_shown w then wire_links fits source i w.width else []) next
      ∙ ap (λ z. links ++ shown_links fits source i z) (sym (here wires i w h is))
      ∙ inv

  pub wires_end : (wires : List Wire) (i : ℕ) (links all : List Link) → length wires ≤ i → links ++ shown_links fits source i (drop i wires) ≡ all → links ≡ all
  wires_end wires i links all h inv =
      sym (append-nil links) ∙ ap (λ z. links ++ shown_links fits source i z) (sym (drop_all i wires h)) ∙ inv

-- whether the outside sees a wire, by the table
pub shown_at : (wires : List Wire) (shown : List Bool) (i : ℕ) (w : Wire) → i < length wires → shown ≡ map is_shown wires → w ≡ get_or wires i w → get_or shown i false ≡ is_shown w
shown_at wires shown i w h e is = ap (λ z. get_or z i false) e ∙ by wires i h is
  where
    by : (ws : List Wire) (k : ℕ) → k < length ws → w ≡ get_or ws k w → get_or (map is_shown ws) k false ≡ is_shown w
    by [] k lt f = absurd (omega arith)
    by (v ∷ ws) zero lt f = ap is_shown (sym f)
    by (v ∷ ws) (suc k) lt f = by ws k (omega (arith, lt)) f
