-- The tests of a bit do not look at the ports of modules, where cells drive each bit once.
use Rattle.std.proofs.Common.{◌≡◌, ℕ, zero, suc, ◌+◌, ◌≤◌, Bool, true, false, List, [], ◌∷◌, ◌++◌, Option, Some, None, ◌⊎◌, inl, inr, refl, sym, ◌∙◌, ap, subst, arith}
use Rattle.std.specs.Prelude.{if◌then◌else◌, option_and_then, option_map, slice_get}
use Rattle.std.specs.List.{list_all}
use Rattle.rtl_sig.specs.declared.sig.SigBit.{SigBit}
use Rattle.rtl_sig.specs.declared.sig.SigBit.TheVariants.{Fixed, Wire as OnWire}
use Rattle.rtl_sig.specs.declared.sig.WireBit.{WireBit}
use Rattle.cell_types.specs.Kind.{kind_of}
use Rattle.cell_types.specs.Unsupported.{is_unsupported}
use Rattle.cell_types.specs.declared.kind.CellKind.{CellKind}
use Rattle.rtl_ir.specs.Drivers.{Drive, FromCell, Source, cell_drives, driver_in, pin_drives}
use Rattle.rtl_ir.specs.EventTests.{Step, cell_in, combinational_kind, differs, meets, step_at, step_through, switch_test, test_within}
use Rattle.rtl_ir.specs.Flat.Process.{no_modules}
use Rattle.rtl_ir.specs.Follow.{all_joins, follow_joins}
use Rattle.rtl_ir.specs.Signals.{is_all_constant}
use Rattle.rtl_ir.specs.Types.{Library, Ports, cell_type, type_by}
use Rattle.rtl_ir.specs.declared.cell.Cell.{Cell}
use Rattle.rtl_ir.specs.declared.cell.Pin.{Pin}
use Rattle.rtl_ir.specs.declared.module.Module.{Module}
use Rattle.rtl_ir.specs.declared.ports.PortLine.{PortLine}
use Rattle.net_model.proofs.Members.{In-map}
use Rattle.pass_laws.proofs.Counting.{bits_more, bits_of, cell_drives_bits, count, count_more}
use Rattle.pass_laws.specs.Bits.{cells_bits}
use Rattle.reset_laws.proofs.AfterRace.{SameTests}
use Rattle.reset_laws.proofs.TestOnce.{driver_less, driver_more, driver_none}
use Rattle.pass_laws.proofs.Once.{count_in, driver_found}
use Rattle.reset_laws.proofs.TestSteps.{pins_from}

-- the kind of a combinational cell is that of its type, whatever the ports
kind_alike : (ports : Ports) (name : List ℕ) → combinational_kind (cell_type ports name) ≡ combinational_kind (cell_type no_modules name)
unfolding cell_type
kind_alike ports name = by (kind_of name) (ports name) (is_unsupported name)
  where
    by : (k : Option CellKind) (o : Option (List PortLine)) (u : Bool) → combinational_kind (type_by k o u) ≡ combinational_kind (type_by k None u)
    by (Some k) o u = refl
    by None None u = refl
    by None (Some q) true = refl
    by None (Some q) false = refl

type_library : (ports : Ports) (name : List ℕ) (kind : CellKind) → kind_of name ≡ Some kind → cell_type ports name ≡ Library kind
unfolding cell_type
type_library ports name kind e = ap (λ k. type_by k (ports name) (is_unsupported name)) e

no_kind : (ports : Ports) (name : List ℕ) → kind_of name ≡ None → combinational_kind (cell_type ports name) ≡ None
unfolding cell_type
no_kind ports name e =
    ap (λ k. combinational_kind (type_by k (ports name) (is_unsupported name))) e ∙ by (ports name) (is_unsupported name)
  where
    by : (o : Option (List PortLine)) (u : Bool) → combinational_kind (type_by None o u) ≡ None
    by None true = refl
    by None false = refl
    by (Some q) u = refl

no_drives : (name : List ℕ) → kind_of name ≡ None → (cell pin : ℕ) (ps : List Pin) → pin_drives (cell_type no_modules name) cell pin ps ≡ []
unfolding cell_type
no_drives name e cell pin ps =
    ap (λ k. pin_drives (type_by k None (is_unsupported name)) cell pin ps) e ∙ by (is_unsupported name) pin ps
  where
    by : (u : Bool) (pin : ℕ) (ps : List Pin) → pin_drives (type_by None None u) cell pin ps ≡ []
    by u pin [] = refl
    by true pin (p ∷ ps) = by true (pin + 1) ps
    by false pin (p ∷ ps) = by false (pin + 1) ps

module _ (ports : Ports) (b : WireBit) where
  abbrev drives : ℕ → List Cell → List Drive
  drives first cs = cell_drives ports first cs

  abbrev alone : ℕ → List Cell → List Drive
  alone first cs = cell_drives no_modules first cs

  -- without the ports fewer bits are driven
  fewer : (first : ℕ) (cs : List Cell) → count b (bits_of (alone first cs)) ≤ count b (bits_of (drives first cs))
  fewer first [] = omega arith
  fewer first (c ∷ cs) = by (fewer (first + 1) cs) (kind_of c.kind_name) refl
    where
      here : List Drive
      here = pin_drives (cell_type ports c.kind_name) first 0 c.pins

      own : List Drive
      own = pin_drives (cell_type no_modules c.kind_name) first 0 c.pins

      two : (xs ys : List Drive) → count b (bits_of (xs ++ ys)) ≡ count b (bits_of xs) + count b (bits_of ys)
      two xs ys = ap (count b) (bits_more xs ys) ∙ count_more b (bits_of xs) (bits_of ys)

      by : count b (bits_of (alone (first + 1) cs)) ≤ count b (bits_of (drives (first + 1) cs)) → (o : Option CellKind) → kind_of c.kind_name ≡ o → count b (bits_of (alone first (c ∷ cs))) ≤ count b (bits_of (drives first (c ∷ cs)))
      by rest (Some kind) e =
          let same : count b (bits_of own) ≡ count b (bits_of here) = ap (λ t. count b (bits_of (pin_drives t first 0 c.pins))) (type_library no_modules c.kind_name kind e ∙ sym (type_library ports c.kind_name kind e)) in
          omega (arith, two own (alone (first + 1) cs), two here (drives (first + 1) cs), same, rest)
      by rest None e =
          let none : count b (bits_of own) ≡ 0 = ap (λ z. count b (bits_of z)) (no_drives c.kind_name e first 0 c.pins) in
          omega (arith, two own (alone (first + 1) cs), two here (drives (first + 1) cs), none, rest)

  -- a bit is driven by an instance, and then by nothing without the ports
  pub record ByInstance (first : ℕ) (cs : List Cell) : Type 0 where
    pub alone_none : driver_in (alone first cs) b ≡ None
    pub place : ℕ
    pub pin : ℕ
    pub at : ℕ
    pub source : driver_in (drives first cs) b ≡ Some (FromCell (first + place) pin at)
    pub cell : Cell
    pub there : slice_get cs place ≡ Some cell
    pub kind : kind_of cell.kind_name ≡ None

  -- or it is driven alike
  alike : (first : ℕ) (cs : List Cell) → count b (bits_of (drives first cs)) ≤ 1 → (driver_in (drives first cs) b ≡ driver_in (alone first cs) b) ⊎ ByInstance first cs
  alike first [] few = inl refl
  alike first (c ∷ cs) few = by (kind_of c.kind_name) refl (driver_in here b) refl (alike (first + 1) cs rest_few)
    where
      here : List Drive
      here = pin_drives (cell_type ports c.kind_name) first 0 c.pins

      own : List Drive
      own = pin_drives (cell_type no_modules c.kind_name) first 0 c.pins

      two : count b (bits_of (here ++ drives (first + 1) cs)) ≡ count b (bits_of here) + count b (bits_of (drives (first + 1) cs))
      two = ap (count b) (bits_more here (drives (first + 1) cs)) ∙ count_more b (bits_of here) (bits_of (drives (first + 1) cs))

      rest_few : count b (bits_of (drives (first + 1) cs)) ≤ 1
      rest_few = omega (arith, two, few)

      later : (own_less : driver_in (own ++ alone (first + 1) cs) b ≡ driver_in (alone (first + 1) cs) b) → driver_in here b ≡ None → (driver_in (drives (first + 1) cs) b ≡ driver_in (alone (first + 1) cs) b) ⊎ ByInstance (first + 1) cs → (driver_in (here ++ drives (first + 1) cs) b ≡ driver_in (own ++ alone (first + 1) cs) b) ⊎ ByInstance first (c ∷ cs)
      later less e (inl h) = inl (driver_less here (drives (first + 1) cs) b e ∙ h ∙ sym less)
      later less e (inr h) =
          let shift : (first + 1) + h.place ≡ first + suc h.place = omega arith in
          inr (record {
            alone_none = less ∙ h.alone_none;
            place = suc h.place;
            pin = h.pin;
            at = h.at;
            source = driver_less here (drives (first + 1) cs) b e ∙ h.source ∙ ap (λ n. Some (FromCell n h.pin h.at)) shift;
            cell = h.cell;
            there = h.there;
            kind = h.kind;
          })

      by : (o : Option CellKind) → kind_of c.kind_name ≡ o → (s : Option Source) → driver_in here b ≡ s → (driver_in (drives (first + 1) cs) b ≡ driver_in (alone (first + 1) cs) b) ⊎ ByInstance (first + 1) cs → (driver_in (here ++ drives (first + 1) cs) b ≡ driver_in (own ++ alone (first + 1) cs) b) ⊎ ByInstance first (c ∷ cs)
      by (Some kind) e s f h =
          let same : here ≡ own = ap (λ t. pin_drives t first 0 c.pins) (type_library ports c.kind_name kind e ∙ sym (type_library no_modules c.kind_name kind e)) in
          known s f same h
        where
          known : (s : Option Source) → driver_in here b ≡ s → here ≡ own → (driver_in (drives (first + 1) cs) b ≡ driver_in (alone (first + 1) cs) b) ⊎ ByInstance (first + 1) cs → (driver_in (here ++ drives (first + 1) cs) b ≡ driver_in (own ++ alone (first + 1) cs) b) ⊎ ByInstance first (c ∷ cs)
          known (Some s) f same h =
              inl (driver_more here (drives (first + 1) cs) b s f ∙ sym (driver_more own (alone (first + 1) cs) b s (ap (λ z. driver_in z b) (sym same) ∙ f)))
          known None f same h = later (driver_less own (alone (first + 1) cs) b (ap (λ z. driver_in z b) (sym same) ∙ f)) f h
      by None e (Some s) f h =
          let i = driver_found here b s f in
          let from = pins_from (cell_type ports c.kind_name) first 0 c.pins (record { bit = b; source = s }) i in
          let once : 1 ≤ count b (bits_of here) = count_in b (bits_of here) (In-map (λ (d : Drive). d.bit) (record { bit = b; source = s }) here i) in
          let none : count b (bits_of (alone (first + 1) cs)) ≡ 0 = omega (arith, two, few, once, fewer (first + 1) cs) in
          let start : first ≡ first + 0 = omega arith in
          inr (record {
            alone_none = ap (λ z. driver_in (z ++ alone (first + 1) cs) b) (no_drives c.kind_name e first 0 c.pins) ∙ driver_none (alone (first + 1) cs) b none;
            place = 0;
            pin = from.1.0;
            at = from.1.1;
            source = driver_more here (drives (first + 1) cs) b s f ∙ ap Some from.1.2 ∙ ap (λ n. Some (FromCell n from.1.0 from.1.1)) start;
            cell = c;
            there = refl;
            kind = e;
          })
      by None e None f h =
          later (ap (λ z. driver_in (z ++ alone (first + 1) cs) b) (no_drives c.kind_name e first 0 c.pins)) f h

module _ (ports : Ports) (m : Module) (once : (b : WireBit) → count b (cells_bits ports m.cells) ≤ 1) where
  through : Ports → Cell → Option Step
  through by c = option_and_then (step_through (all_joins m.links) c) (combinational_kind (cell_type by c.kind_name))

  through_same : (c : Cell) → through ports c ≡ through no_modules c
  unfolding through
  through_same c = ap (option_and_then (step_through (all_joins m.links) c)) (kind_alike ports c.kind_name)

  steps_same : (s : SigBit) → step_at ports m s ≡ step_at no_modules m s
  unfolding through
  steps_same (Fixed c) = refl
  steps_same (OnWire b) = by (alike ports b 0 m.cells few)
    where
      few : count b (bits_of (cell_drives ports 0 m.cells)) ≤ 1
      few = subst (λ z. count b z ≤ 1) (sym (cell_drives_bits ports 0 m.cells)) (once b)

      any : (o : Option Source) → option_and_then (through ports) (option_and_then (cell_in m.cells) o) ≡ option_and_then (through no_modules) (option_and_then (cell_in m.cells) o)
      any None = refl
      any (Some s) = cells (cell_in m.cells s)
        where
          cells : (o : Option Cell) → option_and_then (through ports) o ≡ option_and_then (through no_modules) o
          cells None = refl
          cells (Some c) = through_same c

      by : (driver_in (cell_drives ports 0 m.cells) b ≡ driver_in (cell_drives no_modules 0 m.cells) b) ⊎ ByInstance ports b 0 m.cells → step_at ports m (OnWire b) ≡ step_at no_modules m (OnWire b)
      by (inl e) =
          ap (λ o. option_and_then (through ports) (option_and_then (cell_in m.cells) o)) e ∙ any (driver_in (cell_drives no_modules 0 m.cells) b)
      by (inr h) =
          let zero_place : 0 + h.place ≡ h.place = omega arith in
          ap (λ o. option_and_then (through ports) (option_and_then (cell_in m.cells) o)) h.source
          ∙ ap (λ n. option_and_then (through ports) (slice_get m.cells n)) zero_place
          ∙ ap (option_and_then (through ports)) h.there
          ∙ ap (option_and_then (step_through (all_joins m.links) h.cell)) (no_kind ports h.cell.kind_name h.kind)
          ∙ ap (λ o. option_and_then (through no_modules) (option_and_then (cell_in m.cells) o)) (sym h.alone_none)

  tests_within : (n : ℕ) (b : WireBit) (s : SigBit) → test_within ports m n b s ≡ test_within no_modules m n b s
  tests_within zero b s = refl
  tests_within (suc n) b s =
      ap (λ o. if meets (all_joins m.links) b s then Some false else o)
      (ap (option_and_then (λ (step : Step). option_map (differs step.inverse) (test_within ports m n b step.input))) (steps_same (follow_joins (all_joins m.links) s))
      ∙ by (step_at no_modules m (follow_joins (all_joins m.links) s)) (tests_within n b))
    where
      by : (o : Option Step) → ((r : SigBit) → test_within ports m n b r ≡ test_within no_modules m n b r) → option_and_then (λ (step : Step). option_map (differs step.inverse) (test_within ports m n b step.input)) o ≡ option_and_then (λ (step : Step). option_map (differs step.inverse) (test_within no_modules m n b step.input)) o
      by None h = refl
      by (Some step) h = ap (option_map (differs step.inverse)) (h step.input)

  switches_same : (b : WireBit) (signal : List SigBit) (patterns : List (List SigBit)) → switch_test ports m b signal patterns ≡ switch_test no_modules m b signal patterns
  switches_same b [] patterns = refl
  switches_same b (r ∷ s ∷ signal) patterns = refl
  switches_same b (s ∷ []) patterns = ap (λ o. if list_all is_all_constant patterns then o else None) (tests_within 4 b s)

  pub same_tests : SameTests ports m
  same_tests b = λ i signal patterns. switches_same b signal patterns i
