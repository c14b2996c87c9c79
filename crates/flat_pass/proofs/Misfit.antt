-- The copy of a memory's cell fits its kind just where the cell does: `\MEMID` alone has another value, which is not read as a number.
use Rattle.std.proofs.Common.{◌≡◌, ℕ, ◌+◌, ◌*◌, Bool, true, false, cond, not, ◌&&◌, ◌||◌, List, [], ◌∷◌, length, map, Some, None, refl, sym, ◌∙◌, ap, subst}
use Rattle.std.specs.Prelude.{◌==◌, if◌then◌else◌, nat_lt}
use Rattle.std.specs.List.{count_by, fold, list_all, list_any}
use Rattle.std.specs.Str.{bytes_eq}
use Rattle.rtl_bits.specs.Knowledge.{all_known}
use Rattle.rtl_bits.specs.Numbers.{number_of}
use Rattle.cell_types.specs.declared.fault.CellFault.TheVariants as Fault
use Rattle.cell_types.specs.declared.given.Param.{Param}
use Rattle.cell_types.specs.declared.given.PinWidth.{PinWidth}
use Rattle.cell_types.specs.declared.kind.CellKind.TheVariants.{Memory}
use Rattle.cell_types.specs.declared.memory.MemoryKind.{MemoryKind}
use Rattle.cell_types.specs.declared.memory.MemoryKind.TheVariants.{Memrd, MemrdV2, MemwrV2, Meminit, MeminitV2}
use Rattle.cell_types.specs.declared.param_name.ParamName.{ParamName}
use Rattle.cell_types.specs.declared.param_name.ParamName.TheVariants as Name
use Rattle.cell_types.specs.declared.pin_name.PinName.{PinName}
use Rattle.cell_types.specs.declared.pin_name.PinName.TheVariants.{Addr, Data, En}
use Rattle.cell_types.specs.Fault.{are_params_good, are_pins_good, fault_of, fits, has_other_width, has_width, is_bad, is_given}
use Rattle.cell_types.specs.Given.{number_in, value_in}
use Rattle.cell_types.specs.ParamName.{param_text}
use Rattle.cell_types.specs.Params.{params_of}
use Rattle.cell_types.specs.PinName.{pin_text}
use Rattle.cell_types.specs.Pins.{pins_of}
use Rattle.cell_types.specs.Reading.{is_read_as, is_readable, own_reading, port_reading}
use Rattle.cell_types.specs.Widths.{memory_width}
use Rattle.rtl_ir.specs.declared.cell.CellParam.{CellParam}
use Rattle.rtl_ir.specs.Parameters.{given_params}
use Rattle.flat_pass.specs.Copies.{Copying, renamed_param, renamed_value}
use Rattle.flat_pass.proofs.Partners.{values_stay}

-- tests of names alone
abbrev param_names : List Param → List (List ℕ)
param_names xs = map (λ (x : Param). x.name) xs

count_names : (g : List ℕ → Bool) (n : ℕ) (xs : List Param) → fold (λ a (x : Param). a + cond (g x.name) 1 0) n xs ≡ fold (λ a z. a + cond (g z) 1 0) n (param_names xs)
count_names g n [] = refl
count_names g n (x ∷ xs) = count_names g (n + cond (g x.name) 1 0) xs

all_names : (g : List ℕ → Bool) (xs : List Param) → list_all (λ (x : Param). g x.name) xs ≡ list_all g (param_names xs)
all_names g [] = refl
all_names g (x ∷ xs) = ap (λ z. g x.name && z) (all_names g xs)

pub all_same : {A : Type 0} (f g : A → Bool) (xs : List A) → ((x : A) → f x ≡ g x) → list_all f xs ≡ list_all g xs
all_same f g [] h = refl
all_same f g (x ∷ xs) h = λ i. h x i && all_same f g xs h i

-- the one name of `\MEMID`
memid_only : (name : ParamName) → bytes_eq (param_text Name.Memid) (param_text name) ≡ true → name ≡ Name.Memid
memid_only Name.Memid e = refl
memid_only name e = absurd (cc)

module _ (k : Copying) (ps : List CellParam) where
  abbrev old : List Param
  old = given_params ps

  abbrev new : List Param
  new = given_params (map (renamed_param k) ps)

  value_same : (name : ParamName) → bytes_eq (param_text Name.Memid) (param_text name) ≡ false → value_in new name ≡ value_in old name
  value_same name e = values_stay k name e ps

  number_same : (name : ParamName) → bytes_eq (param_text Name.Memid) (param_text name) ≡ false → number_in new name ≡ number_in old name
  number_same name e = ap number_of (value_same name e)

  width_read : (name : ParamName) → bytes_eq (param_text Name.Memid) (param_text name) ≡ false → (all_known (value_in new name) && nat_lt 0 (number_in new name)) ≡ (all_known (value_in old name) && nat_lt 0 (number_in old name))
  width_read name e = λ i. all_known (value_same name e i) && nat_lt 0 (number_same name e i)

  number_read : (name : ParamName) → bytes_eq (param_text Name.Memid) (param_text name) ≡ false → all_known (value_in new name) ≡ all_known (value_in old name)
  number_read name e = ap all_known (value_same name e)

  word_read : (name : ParamName) → bytes_eq (param_text Name.Memid) (param_text name) ≡ false → (length (value_in new name) == number_in new Name.Width) ≡ (length (value_in old name) == number_in old Name.Width)
  word_read name e = λ i. length (value_same name e i) == number_same Name.Width refl i

  port_read : (name : ParamName) → bytes_eq (param_text Name.Memid) (param_text name) ≡ false → is_read_as (port_reading name) new name ≡ is_read_as (port_reading name) old name
  port_read Name.Width e = width_read Name.Width e
  port_read Name.Abits e = number_read Name.Abits e
  port_read Name.ClkEnable e = number_read Name.ClkEnable e
  port_read name e = refl

  own_read : (name : ParamName) → bytes_eq (param_text Name.Memid) (param_text name) ≡ false → is_read_as (own_reading name) new name ≡ is_read_as (own_reading name) old name
  own_read Name.AWidth e = width_read Name.AWidth e
  own_read Name.BWidth e = width_read Name.BWidth e
  own_read Name.YWidth e = width_read Name.YWidth e
  own_read Name.SWidth e = width_read Name.SWidth e
  own_read Name.Width e = width_read Name.Width e
  own_read Name.ArstValue e = word_read Name.ArstValue e
  own_read Name.SrstValue e = word_read Name.SrstValue e
  own_read Name.Memid e = refl
  own_read Name.PriorityMask e = refl
  own_read name e = number_read name e

  kind_read : (kind : MemoryKind) (name : ParamName) → bytes_eq (param_text Name.Memid) (param_text name) ≡ false → is_readable (Memory kind) new name ≡ is_readable (Memory kind) old name
  kind_read Memrd name e = port_read name e
  kind_read MemrdV2 name e = port_read name e
  kind_read MemwrV2 name e = own_read name e
  kind_read Meminit name e = own_read name e
  kind_read MeminitV2 name e = own_read name e

  memid_any : (kind : MemoryKind) (params : List Param) → is_readable (Memory kind) params Name.Memid ≡ true
  memid_any Memrd params = refl
  memid_any MemrdV2 params = refl
  memid_any MemwrV2 params = refl
  memid_any Meminit params = refl
  memid_any MeminitV2 params = refl

  readable : (kind : MemoryKind) (name : ParamName) → is_readable (Memory kind) new name ≡ is_readable (Memory kind) old name
  readable kind name = by (bytes_eq (param_text Name.Memid) (param_text name)) refl
    where
      by : (t : Bool) → bytes_eq (param_text Name.Memid) (param_text name) ≡ t → is_readable (Memory kind) new name ≡ is_readable (Memory kind) old name
      by true e =
          subst (λ z. is_readable (Memory kind) new z ≡ is_readable (Memory kind) old z) (sym (memid_only name e)) (memid_any kind new ∙ sym (memid_any kind old))
      by false e = kind_read kind name e

name_kept : (k : Copying) (p : CellParam) → (renamed_param k p).name ≡ p.name
name_kept k p = by (bytes_eq p.name (param_text Name.Memid))
  where
    by : (t : Bool) → (cond t (record p { value = renamed_value k p.value }) p).name ≡ p.name
    by true = refl
    by false = refl

names_kept : (k : Copying) (ps : List CellParam) → param_names (given_params (map (renamed_param k) ps)) ≡ param_names (given_params ps)
names_kept k [] = refl
names_kept k (p ∷ ps) = λ i. name_kept k p i ∷ names_kept k ps i

module _ (k : Copying) (ps : List CellParam) (kind : MemoryKind) where
  abbrev before : List Param
  before = given_params ps

  abbrev now : List Param
  now = given_params (map (renamed_param k) ps)

  given_same : (name : ParamName) → is_given (Memory kind) now name ≡ is_given (Memory kind) before name
  given_same name = λ i. (times i == 1) && readable k ps kind name i
    where
      times : count_by (λ (x : Param). bytes_eq x.name (param_text name)) (given_params (map (renamed_param k) ps)) ≡ count_by (λ (x : Param). bytes_eq x.name (param_text name)) (given_params ps)
      times =
          count_names (λ z. bytes_eq z (param_text name)) 0 (given_params (map (renamed_param k) ps))
          ∙ ap (fold (λ a z. a + cond (bytes_eq z (param_text name)) 1 0) 0) (names_kept k ps)
          ∙ sym (count_names (λ z. bytes_eq z (param_text name)) 0 (given_params ps))

  abbrev known : List ℕ → Bool
  known z = list_any (λ name. bytes_eq z (param_text name)) (params_of (Memory kind))

  params_same : are_params_good (Memory kind) now ≡ are_params_good (Memory kind) before
  params_same =
      λ i. all_same (is_given (Memory kind) now) (is_given (Memory kind) before) (params_of (Memory kind)) given_same i && (all_names known now ∙ ap (list_all known) (names_kept k ps) ∙ sym (all_names known before)) i

  width_same : (pin : PinName) → memory_width kind now pin ≡ memory_width kind before pin
  width_same pin = by kind
    where
      abits : number_in (given_params (map (renamed_param k) ps)) Name.Abits ≡ number_in (given_params ps) Name.Abits
      abits = number_same k ps Name.Abits refl

      width : number_in (given_params (map (renamed_param k) ps)) Name.Width ≡ number_in (given_params ps) Name.Width
      width = number_same k ps Name.Width refl

      words : number_in (given_params (map (renamed_param k) ps)) Name.Words ≡ number_in (given_params ps) Name.Words
      words = number_same k ps Name.Words refl

      read : (q : PinName) → memory_width Memrd (given_params (map (renamed_param k) ps)) q ≡ memory_width Memrd (given_params ps) q
      read Addr = abits
      read Data = width
      read q = refl

      write : (q : PinName) → memory_width MemwrV2 (given_params (map (renamed_param k) ps)) q ≡ memory_width MemwrV2 (given_params ps) q
      write Addr = abits
      write Data = width
      write En = width
      write q = refl

      init : (q : PinName) → memory_width Meminit (given_params (map (renamed_param k) ps)) q ≡ memory_width Meminit (given_params ps) q
      init Addr = abits
      init Data = λ i. width i * words i
      init q = width

      by : (kind : MemoryKind) → memory_width kind (given_params (map (renamed_param k) ps)) pin ≡ memory_width kind (given_params ps) pin
      by Memrd = read pin
      by MemrdV2 = read pin
      by MemwrV2 = write pin
      by Meminit = init pin
      by MeminitV2 = init pin

  fits_same : (name : PinName) (pin : PinWidth) → fits (Memory kind) now name pin ≡ fits (Memory kind) before name pin
  fits_same name pin = ap (λ z. not (bytes_eq pin.name (pin_text name)) || (pin.width == z)) (width_same name)

  -- the copy has the faults of the cell
  pub fault_same : (pins : List PinWidth) → fault_of (Memory kind) now pins ≡ fault_of (Memory kind) before pins
  fault_same pins =
      λ i. if bad i then Some Fault.Bad else if nat_lt 4096 (number_same k ps Name.Width refl i) then Some Fault.Wide else if wrong i then Some Fault.Width else None
    where
      bad : is_bad (Memory kind) (given_params (map (renamed_param k) ps)) pins ≡ is_bad (Memory kind) (given_params ps) pins
      bad = ap (λ z. (not z || not (are_pins_good (Memory kind) pins)) || false) params_same

      wrong : has_other_width (Memory kind) (given_params (map (renamed_param k) ps)) pins ≡ has_other_width (Memory kind) (given_params ps) pins
      wrong =
          ap not (all_same (has_width (Memory kind) (given_params (map (renamed_param k) ps)) pins) (has_width (Memory kind) (given_params ps) pins) (pins_of (Memory kind)) (λ name. all_same (fits (Memory kind) (given_params (map (renamed_param k) ps)) name) (fits (Memory kind) (given_params ps) name) pins (fits_same name)))
