-- What changes of the traits of cells when an output is connected to another.
use Rattle.std.proofs.Common.{◌≡◌, ◌≤◌, List, [], ◌∷◌, ◌++◌, map, Option, Some, None, unwrap_or, ◌⊎◌, inl, inr, ⊎_elim, refl, sym, ◌∙◌, ap, subst, arith}
use Rattle.std.specs.Option.{option_map_or}
use Rattle.std.specs.List.{flat_map}
use Rattle.std.proofs.lemmas.List.{append-nil}
use Rattle.std.proofs.lemmas.Grind.{flat_map-append}
use Rattle.rtl_bits.specs.declared.bit.Bit.{Bit}
use Rattle.rtl_sig.specs.declared.sig.SigBit.{SigBit}
use Rattle.rtl_sig.specs.declared.sig.SigBit.TheVariants as sig
use Rattle.rtl_sig.specs.declared.sig.WireBit.{WireBit}
use Rattle.cell_types.specs.declared.kind.CellKind.{CellKind}
use Rattle.cell_types.specs.declared.pin_name.PinName.{PinName}
use Rattle.cell_types.specs.PinName.{pin_text}
use Rattle.rtl_ir.specs.declared.cell.Cell.{Cell}
use Rattle.rtl_ir.specs.declared.cell.Pin.{Pin}
use Rattle.rtl_ir.specs.declared.module.Link.{Link}
use Rattle.rtl_ir.specs.Follow.{all_joins, back, follow, follow_joins, joins, source_at}
use Rattle.rtl_ir.specs.declared.follow.Join.{Join}
use Rattle.rtl_ir.specs.Parameters.{signal_at}
use Rattle.rtl_ir.specs.Signals.{wire_bits}
use Rattle.net_model.specs.Lists.{In}
use Rattle.net_alias.proofs.Joining.{link_last}
use Rattle.opt_merge.specs.Merge.{Merging, bits_by, join}
use Rattle.opt_merge.specs.State.{IsDrivenOnce, LedBefore, driven_by, times}
use Rattle.opt_merge.specs.Traits.{input_pins, inputs_of, merging_kind, output_of, traits_of}
use Rattle.opt_merge.proofs.Driving.{Joined, joined_in, linked_more, no_source, signal_times, times_append}
use Rattle.opt_merge.proofs.Following.{JoinsEnds, ends_before, follow_more, moved}

-- a function of the members of a list gives the same for each of them, or there is one for which it does not
map_or : {A B : Type 0} (f g : A → B) (Changed : A → Type 0) → ((x : A) → (f x ≡ g x) ⊎ Changed x) → (xs : List A)
    → (map f xs ≡ map g xs) ⊎ ((x : A) × In x xs × Changed x)
map_or f g Changed each [] = inl refl
map_or f g Changed each (x ∷ xs) = by (each x) (map_or f g Changed each xs)
  where
    by : (f x ≡ g x) ⊎ Changed x → (map f xs ≡ map g xs) ⊎ ((y : _) × In y xs × Changed y) → (map f (x ∷ xs) ≡ map g (x ∷ xs)) ⊎ ((y : _) × In y (x ∷ xs) × Changed y)
    by (inl e) (inl rest) = inl (λ i. e i ∷ rest i)
    by (inl e) (inr w) = inr (w.0, inr w.1, w.2)
    by (inr h) rest = inr (x, inl refl, h)

pub In-map : {A B : Type 0} (f : A → B) (x : A) (xs : List A) → In x xs → In (f x) (map f xs)
In-map f x [] i = absurd i
In-map f x (y ∷ ys) (inl e) = inl (ap f e)
In-map f x (y ∷ ys) (inr i) = inr (In-map f x ys i)

-- the bits of a cell among others
own_bits : (c : Cell) (kind : CellKind) → merging_kind c ≡ Some kind → bits_by c ≡ wire_bits (output_of kind c)
own_bits c kind e = ap (λ o. option_map_or (λ k. wire_bits (output_of k c)) o []) e

pub driven_in : (b : WireBit) (c : Cell) (cells : List Cell) → In c cells → times b (bits_by c) ≤ driven_by b cells
driven_in b c [] i = absurd i
driven_in b c (d ∷ cells) (inl e) =
    let sum = times_append b (bits_by d) (flat_map bits_by cells) in
    let same = ap (λ x. times b (bits_by x)) e in
    omega (arith, sum, same)
driven_in b c (d ∷ cells) (inr i) =
    let sum = times_append b (bits_by d) (flat_map bits_by cells) in
    let rest = driven_in b c cells i in
    omega (arith, sum, rest)

module _ (s : Merging) (c e : Cell) (kind : CellKind) (rest : List Cell) (once : IsDrivenOnce s (c ∷ rest)) (own : merging_kind c ≡ Some kind) (kept : In e s.cells) (same : merging_kind e ≡ Some kind) where
  abbrev js : List Join
  js = all_joins s.links

  abbrev ks : List Join
  ks = joins (output_of kind c) (output_of kind e)

  -- a bit of the cell that goes is driven by it alone
  of_later : (b : WireBit) → In (sig.Wire b) (output_of kind c) → 1 ≤ driven_by b (c ∷ rest)
  of_later b i =
      let one = signal_times b (output_of kind c) i in
      let all = driven_in b c (c ∷ rest) (inl refl) in
      let bits = ap (times b) (own_bits c kind own) in
      omega (arith, one, all, bits)

  pub of_earlier : (b : WireBit) → In (sig.Wire b) (output_of kind e) → 1 ≤ driven_by b s.cells
  of_earlier b i =
      let one = signal_times b (output_of kind e) i in
      let all = driven_in b e s.cells kept in
      let bits = ap (times b) (own_bits e kind same) in
      omega (arith, one, all, bits)

  -- what is joined on the left
  joined_wire : (x r : SigBit) → back ks x ≡ Some r → (b : WireBit) × (x ≡ sig.Wire b) × Joined (output_of kind c) (output_of kind e) b r
  joined_wire (sig.Fixed v) r f = absurd (cc)
  joined_wire (sig.Wire b) r f = (b, refl, joined_in (output_of kind c) (output_of kind e) b r f)

  pub joins_ends : JoinsEnds js ks
  joins_ends = record { left = left; right = right; apart = apart }
    where
      left : (x r : SigBit) → back ks x ≡ Some r → back js x ≡ None
      left x r f =
          let w = joined_wire x r f in
          let many = of_later w.0 w.2.left_in in
          let one = once w.0 (omega (arith, many)) in
          ap (back js) w.1 ∙ no_source w.0 js (omega (arith, many, one))

      right : (x r : SigBit) → back ks x ≡ Some r → back js r ≡ None
      right x (sig.Fixed v) f = refl
      right x (sig.Wire a) f =
          let w = joined_wire x (sig.Wire a) f in
          let many = of_earlier a w.2.right_in in
          let one = once a (omega (arith, many)) in
          no_source a js (omega (arith, many, one))

      apart : (x r : SigBit) → back ks x ≡ Some r → back ks r ≡ None
      apart x (sig.Fixed v) f = refl
      apart x (sig.Wire a) f = by (source_at ks a) refl
        where
          by : (o : Option SigBit) → source_at ks a ≡ o → o ≡ None
          by None g = refl
          by (Some r) g =
              let w = joined_wire x (sig.Wire a) f in
              let early = of_earlier a w.2.right_in in
              let late = of_later a (joined_in (output_of kind c) (output_of kind e) a r g).left_in in
              let one = once a (omega (arith, early)) in
              absurd (omega (arith, early, late, one))

  abbrev links' : List Link
  links' = (join kind s e c).links

  -- where a bit leads to with the connection
  pub follow_joined : (x : SigBit) → follow links' x ≡ moved ks (follow s.links x)
  follow_joined x = ap (λ z. follow_joins z x) (link_last s.links (record { left = output_of kind c; right = output_of kind e })) ∙ follow_more js ks joins_ends x

  pub ends_joined : (x : SigBit) → follow links' x ≡ x → (follow s.links x ≡ x) × (back ks x ≡ None)
  ends_joined x f = ends_before js ks joins_ends x (sym (ap (λ z. follow_joins z x) (link_last s.links (record { left = output_of kind c; right = output_of kind e }))) ∙ f)

  -- a bit that leads elsewhere then
  abbrev pub Moves : SigBit → Type 0
  Moves x = (r : SigBit) × (back ks (follow s.links x) ≡ Some r)

  same_or_moves : (x : SigBit) → (follow links' x ≡ follow s.links x) ⊎ Moves x
  same_or_moves x = by (back ks (follow s.links x)) refl
    where
      by : (o : Option SigBit) → back ks (follow s.links x) ≡ o → (follow links' x ≡ follow s.links x) ⊎ Moves x
      by None f = inl (follow_joined x ∙ ap (λ o. unwrap_or o (follow s.links x)) f)
      by (Some r) f = inr (r, f)

  -- the inputs stay, or a bit of them leads elsewhere
  abbrev pub MovesIn : List PinName → List Pin → Type 0
  MovesIn names pins = (name : PinName) × In name names × ((x : SigBit) × In x (signal_at pins (pin_text name)) × Moves x)

  pub inputs_or_move : (names : List PinName) (pins : List Pin) → (inputs_of links' names pins ≡ inputs_of s.links names pins) ⊎ MovesIn names pins
  inputs_or_move names pins =
      map_or (λ name. map (follow links') (signal_at pins (pin_text name))) (λ name. map (follow s.links) (signal_at pins (pin_text name)))
      (λ name. (x : SigBit) × In x (signal_at pins (pin_text name)) × Moves x)
      (λ name. map_or (follow links') (follow s.links) Moves same_or_moves (signal_at pins (pin_text name))) names

  pub traits_or_move : (start : SigBit → Bit) (k : CellKind) (d : Cell) → (traits_of start links' k d ≡ traits_of start s.links k d) ⊎ MovesIn (input_pins k) d.pins
  traits_or_move start k d = ⊎_elim (λ f. inl (ap (λ z. record (traits_of start s.links k d) { inputs = z }) f)) inr (inputs_or_move (input_pins k) d.pins)

  -- the bit that leads elsewhere is one of the output that went
  pub moves_from : (x : SigBit) → Moves x → (b : WireBit) × (follow s.links x ≡ sig.Wire b) × In (sig.Wire b) (output_of kind c)
  moves_from x m = let w = joined_wire (follow s.links x) m.0 m.1 in (w.0, w.1, w.2.left_in)

  -- and led there before
  pub led_there : (before : List Link) → LedBefore before s → (x : SigBit) (b : WireBit) → follow s.links x ≡ sig.Wire b → In (sig.Wire b) (output_of kind c) → follow before x ≡ sig.Wire b
  led_there before led x b f i =
      ⊎_elim (λ g. g) (λ many. absurd (let late = of_later b i in let one = once b (omega (arith, late)) in omega (arith, many, late, one))) (led x b f)

  -- where bits led before
  pub led_joined : (before : List Link) → LedBefore before s → LedBefore before (join kind s e c)
  led_joined before led x b f = by (same_or_moves x)
    where
      by : (follow links' x ≡ follow s.links x) ⊎ Moves x → (follow before x ≡ sig.Wire b) ⊎ (1 ≤ driven_by b s.cells)
      by (inl g) = led x b (sym g ∙ f)
      by (inr m) =
          let w = joined_wire (follow s.links x) m.0 m.1 in
          let here : m.0 ≡ sig.Wire b = sym (follow_joined x ∙ ap (λ o. unwrap_or o (follow s.links x)) m.1) ∙ f in
          inr (of_earlier b (subst (λ r. In r (output_of kind e)) here w.2.right_in))

  -- no bit is driven twice then
  pub once_joined : IsDrivenOnce (join kind s e c) rest
  once_joined b some =
      let more = linked_more b s.links (output_of kind c) (output_of kind e) in
      let sum = times_append b (bits_by c) (flat_map bits_by rest) in
      let bits = ap (times b) (own_bits c kind own) in
      let one = once b (omega (arith, some, sum)) in
      omega (arith, one, more, sum, bits)

-- a cell that stays
pub once_stay : (s : Merging) (c : Cell) (rest : List Cell) → IsDrivenOnce s (c ∷ rest) → IsDrivenOnce (record { cells = s.cells ++ c ∷ []; links = s.links }) rest
once_stay s c rest once b some =
    let kept = ap (times b) (flat_map-append bits_by s.cells (c ∷ [])) in
    let sum = times_append b (flat_map bits_by s.cells) (bits_by c ++ []) in
    let none = ap (times b) (append-nil (bits_by c)) in
    let rests = times_append b (bits_by c) (flat_map bits_by rest) in
    let one = once b (omega (arith, some, kept, sum, none, rests)) in
    omega (arith, one, kept, sum, none, rests)

pub led_stay : (before : List Link) (s : Merging) (c : Cell) → LedBefore before s → LedBefore before (record { cells = s.cells ++ c ∷ []; links = s.links })
led_stay before s c led x b f = ⊎_elim inl (λ many. inr (
    let kept = ap (times b) (flat_map-append bits_by s.cells (c ∷ [])) in
    let sum = times_append b (flat_map bits_by s.cells) (flat_map bits_by (c ∷ [])) in
    omega (arith, many, kept, sum))) (led x b f)
