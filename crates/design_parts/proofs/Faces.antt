-- A face has the name and the ports of its module.
use Rattle.std.proofs.Common.{◌≡◌, ◌⊎◌, ℕ, Bool, true, false, cond, List, [], ◌∷◌, Ordering, Less, Equal, Greater, inl, inr, refl, ◌∙◌, ap}
use Rattle.std.specs.Prelude.{filter, map, ◌||◌}
use Rattle.std.specs.Ordering.{int_cmp, match_ordering}
use Rattle.rtl_ir.specs.declared.module.Module.{Module}
use Rattle.rtl_ir.specs.declared.wire.Wire.{Wire}
use Rattle.rtl_ir.specs.Ports.{in_number_order, is_port, line_of, place_wire, ports_by_module, ports_of}
use Rattle.rtl_ir.specs.Types.{port_lines}
use Rattle.net_model.proofs.Members.{map-map}
use Rattle.script_core.specs.declared.word.Word.{Word}
use Rattle.script_core.specs.Words.{flattens}
use Rattle.design_parts.specs.Parts.{bare, face, shown}
use Rattle.design_parts.proofs.Filters.{filter_filter}

abbrev are_ports : List Wire → List Wire
are_ports ws = filter (λ (w : Wire). is_port w.role) ws

placed_bare : (w : Wire) (ws : List Wire) → place_wire (bare w) (map bare ws) ≡ map bare (place_wire w ws)
placed_bare w [] = refl
placed_bare w (v ∷ vs) = by (int_cmp w.number v.number) (placed_bare w vs)
  where
    by : (o : Ordering) → place_wire (bare w) (map bare vs) ≡ map bare (place_wire w vs)
        → match_ordering o (bare w ∷ bare v ∷ map bare vs) (bare w ∷ bare v ∷ map bare vs) (bare v ∷ place_wire (bare w) (map bare vs))
        ≡ map bare (match_ordering o (w ∷ v ∷ vs) (w ∷ v ∷ vs) (v ∷ place_wire w vs))
    by Less later = refl
    by Equal later = refl
    by Greater later = ap (λ (us : List Wire). bare v ∷ us) later

ordered_bare : (ws : List Wire) → in_number_order (map bare ws) ≡ map bare (in_number_order ws)
ordered_bare [] = refl
ordered_bare (w ∷ ws) = ap (place_wire (bare w)) (ordered_bare ws) ∙ placed_bare w (in_number_order ws)

bare_ports : (ws : List Wire) → are_ports (map bare ws) ≡ map bare (are_ports ws)
bare_ports [] = refl
bare_ports (w ∷ ws) = by (is_port w.role) (bare_ports ws)
  where
    by : (t : Bool) → are_ports (map bare ws) ≡ map bare (are_ports ws) → cond t (bare w ∷ are_ports (map bare ws)) (are_ports (map bare ws)) ≡ map bare (cond t (w ∷ are_ports ws) (are_ports ws))
    by true later = ap (λ (us : List Wire). bare w ∷ us) later
    by false later = later

ports_twice : (ws : List Wire) → are_ports (map bare (are_ports ws)) ≡ map bare (are_ports ws)
ports_twice ws = bare_ports (are_ports ws) ∙ ap (map bare) (filter_filter (λ (w : Wire). is_port w.role) (λ (w : Wire). is_port w.role) ws (λ w i e. e))

check_lines : (ws : List Wire) → map line_of (are_ports (map bare (are_ports ws))) ≡ map line_of (are_ports ws)
check_lines ws = ap (map line_of) (ports_twice ws) ∙ map-map bare line_of (are_ports ws)

face_lines : (ws : List Wire) → ports_of (map bare (are_ports ws)) ≡ ports_of ws
face_lines ws =
    ap (λ (us : List Wire). map line_of (in_number_order us)) (ports_twice ws)
    ∙ ap (map line_of) (ordered_bare (are_ports ws))
    ∙ map-map bare line_of (in_number_order (are_ports ws))

face_ports : (m : Module) → ports_by_module (face m) ≡ ports_by_module m
face_ports m = λ i. record { id = m.id; ports = face_lines m.wires i }

module _ (script : List Word) (own : List ℕ → Bool) where
  pub shown_id : (m : Module) → (shown script own m).id ≡ m.id
  shown_id m = by (own m.id || flattens script)
    where
      by : (t : Bool) → (cond t m (face m)).id ≡ m.id
      by true = refl
      by false = refl

  pub shown_ports : (m : Module) → ports_by_module (shown script own m) ≡ ports_by_module m
  shown_ports m = by (own m.id || flattens script)
    where
      by : (t : Bool) → ports_by_module (cond t m (face m)) ≡ ports_by_module m
      by true = refl
      by false = face_ports m

  -- as the check sees them
  pub shown_lines : (m : Module) → port_lines (shown script own m).wires ≡ port_lines m.wires
  shown_lines m = by (own m.id || flattens script)
    where
      by : (t : Bool) → port_lines (cond t m (face m)).wires ≡ port_lines m.wires
      by true = refl
      by false = check_lines m.wires

  -- a module is shown with its cells, or with none
  pub shown_cells : (m : Module) → ((shown script own m).cells ≡ m.cells) ⊎ ((shown script own m).cells ≡ [])
  shown_cells m = by (own m.id || flattens script)
    where
      by : (t : Bool) → ((cond t m (face m)).cells ≡ m.cells) ⊎ ((cond t m (face m)).cells ≡ [])
      by true = inl refl
      by false = inr refl
