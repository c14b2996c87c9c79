-- A sweep leaves a module that a text can give, where what each visit leaves may come in the place of its cell.
use Rattle.std.proofs.Common.{◌≡◌, ℕ, Bool, true, false, List, [], ◌∷◌, ◌++◌, Option, ◌⊎◌, inl, inr, ⊎_elim, refl, sym, ap, subst, arith}
use Rattle.std.specs.Prelude.{flat_map, if◌then◌else◌, map}
use Rattle.std.specs.List.{All}
use Rattle.std.specs.Str.{bytes_eq}
use Rattle.std.proofs.lemmas.List.{append-nil}
use Rattle.std.proofs.lemmas.List.Elements.{All-cons, All-head, All-nil, All-tail}
use Rattle.std.proofs.lemmas.Slice.Eq.{bytes_eq-Decides}
use Rattle.cell_types.specs.PinName.{pin_text}
use Rattle.cell_types.specs.declared.pin_name.PinName.{PinName}
use Rattle.rtl_sig.specs.declared.sig.SigBit.{SigBit}
use Rattle.rtl_sig.specs.Names.{AreDistinct}
use Rattle.rtl_ir.specs.Build.{pin_of}
use Rattle.rtl_ir.specs.Flat.Cell.{listed}
use Rattle.rtl_ir.specs.Follow.{follow}
use Rattle.rtl_ir.specs.Parameters.{signal_at}
use Rattle.rtl_ir.specs.declared.cell.Cell.{Cell}
use Rattle.rtl_ir.specs.declared.cell.Pin.{Pin}
use Rattle.rtl_ir.specs.declared.module.Link.{Link}
use Rattle.rtl_ir.specs.declared.module.Module.{Module}
use Rattle.rtl_ir.specs.declared.wire.Wire.{Wire}
use Rattle.net_model.proofs.Members.{In-left, In-right}
use Rattle.net_model.specs.Lists.{In}
use Rattle.opt_expr.specs.Sweep.{Visit, with_swept}
use Rattle.opt_more.specs.Changed.{repinned, with_signal}
use Rattle.opt_more.specs.Sweep.{Visiting, swept_by, swept_of}
use Rattle.rtl_readable.specs.Changing.{times}
use Rattle.rtl_readable.specs.Readable.{IsCell, IsLink, IsName, IsPin, IsReadableModule, IsSignal}
use Rattle.rtl_readable.proofs.Signals.{followed_signal, pin_signal}
use Rattle.opt_expr.proofs.Sweeping.{standing-more}
use Rattle.readable_passes.proofs.Replaced.{MayReplace, all_each, replaced_reads}

-- one cell in the place of another of its name
pub one_may : (m : Module) (c d : Cell) → d.name ≡ c.name → IsCell m.wires d → MayReplace m c (d ∷ []) []
one_may m c d named is = record {
  cells = All-cons (IsCell m.wires) d [] is (All-nil (IsCell m.wires));
  names = λ name. let same = ap (λ z. times name (z ∷ [])) named in omega (arith, same);
  count = omega arith;
  links = All-nil (IsLink m.wires);
}

module _ (m : Module) where
  -- the module in the midst of a sweep
  abbrev so_far : List (Option Cell) → List Cell → List Link → Module
  so_far done rest links = record m { cells = flat_map listed done ++ rest; links = links }

  -- what each visit leaves may come in the place of the cell
  abbrev pub MayVisit : Visiting → Type 0
  MayVisit visit =
      (done : List (Option Cell)) (c : Cell) (rest : List Cell) (links : List Link) → IsReadableModule (record m { cells = flat_map listed done ++ c ∷ rest; links = links })
      → MayReplace (record m { cells = flat_map listed done ++ c ∷ rest; links = links }) c (listed (visit done rest links c).cell) (visit done rest links c).links

  module _ (visit : Visiting) (may : MayVisit visit) where
    rest_reads : (rest : List Cell) (done : List (Option Cell)) (links : List Link) → IsReadableModule (so_far done rest links) → IsReadableModule (with_swept m (swept_by visit done rest links))
    rest_reads [] done links reads = subst (λ z. IsReadableModule (record m { cells = z; links = links })) (append-nil (flat_map listed done)) reads
    rest_reads (c ∷ rest) done links reads =
        let v : Visit = visit done rest links c in
        rest_reads rest (done ++ v.cell ∷ []) (links ++ v.links)
        (subst (λ z. IsReadableModule (record m { cells = z; links = links ++ v.links })) (standing-more done v.cell rest)
        (replaced_reads (so_far done (c ∷ rest) links) (flat_map listed done) c rest (listed v.cell) v.links refl reads (may done c rest links reads)))

    pub sweep_reads : IsReadableModule m → IsReadableModule (swept_of visit m)
    sweep_reads reads = rest_reads m.cells [] m.links reads

  -- a cell among the others, and what a pin of it follows to
  module _ (done : List (Option Cell)) (c : Cell) (rest : List Cell) (links : List Link) (reads : IsReadableModule (record m { cells = flat_map listed done ++ c ∷ rest; links = links })) where
    each : (e : Cell) → In e (flat_map listed done ++ c ∷ rest) → IsCell m.wires e
    each e i = all_each (IsCell m.wires) (flat_map listed done ++ c ∷ rest) reads.cells e i

    pub own_is : IsCell m.wires c
    own_is = each c (In-right c (flat_map listed done) (c ∷ rest) (inl refl))

    pub other_is : (e : Cell) → In e (flat_map listed done) ⊎ In e rest → IsCell m.wires e
    other_is e i =
        ⊎_elim
        (λ l. each e (In-left e (flat_map listed done) (c ∷ rest) l))
        (λ r. each e (In-right e (flat_map listed done) (c ∷ rest) (inr r)))
        i

    pub leads_is : (e : Cell) → IsCell m.wires e → (name : List ℕ) → IsSignal m.wires (map (follow links) (signal_at e.pins name))
    leads_is e is name = followed_signal m.wires links (signal_at e.pins name) reads.links (pin_signal m.wires e.pins name is.pins)

-- a cell with another signal at a pin
module _ (wires : List Wire) (name : PinName) (bits : List SigBit) (is : IsSignal wires bits) (named : IsName (pin_text name)) where
  pin_is : (p : Pin) → IsPin wires p → IsPin wires (repinned name bits p)
  pin_is p h = by (bytes_eq p.name (pin_text name))
    where
      by : (t : Bool) → IsPin wires (if t then pin_of (pin_text name) bits else p)
      by true = record { name = named; sig = is }
      by false = h

  name_stays : (p : Pin) → (repinned name bits p).name ≡ p.name
  name_stays p = by (bytes_eq p.name (pin_text name)) refl
    where
      by : (t : Bool) → bytes_eq p.name (pin_text name) ≡ t → (if t then pin_of (pin_text name) bits else p).name ≡ p.name
      by true e = sym ((bytes_eq-Decides p.name (pin_text name)).0 e)
      by false e = refl

  pins_are : (pins : List Pin) → All (IsPin wires) pins → All (IsPin wires) (with_signal name bits pins)
  pins_are [] are = All-nil (IsPin wires)
  pins_are (p ∷ pins) are =
      All-cons (IsPin wires) (repinned name bits p) (with_signal name bits pins) (pin_is p (All-head (IsPin wires) p pins are)) (pins_are pins (All-tail (IsPin wires) p pins are))

  names_stay : (pins : List Pin) → map (λ (p : Pin). p.name) (with_signal name bits pins) ≡ map (λ (p : Pin). p.name) pins
  names_stay [] = refl
  names_stay (p ∷ pins) = λ i. name_stays p i ∷ names_stay pins i

  pub rewired_is : (c : Cell) → IsCell wires c → IsCell wires (record c { pins = with_signal name bits c.pins })
  rewired_is c h = record {
    kind_name = h.kind_name;
    name = h.name;
    params = h.params;
    distinct_params = h.distinct_params;
    pins = pins_are c.pins h.pins;
    distinct_pins = subst AreDistinct (sym (names_stay c.pins)) h.distinct_pins;
    attributes = h.attributes;
  }
